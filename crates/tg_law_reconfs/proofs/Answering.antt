-- What a client that agrees on a layout makes of a packet.
use Rattle.std.proofs.Common.{◌≡◌, ◌⊎◌, ℕ, ◌+◌, ◌^◌, ◌<◌, ◌≤◌, List, [], ◌∷◌, ◌++◌, Bool, true, false, ◌&&◌, eqb, refl, ap, ◌∙◌, sym, subst, inl, inr, arith, Some, None, Option}
use Rattle.std.specs.Prelude.{nat_lt, if◌then◌else◌}
use Rattle.tg_base.specs.Layouts.{Layout}
use Rattle.tg_base.specs.Clusters.{Header}
use Rattle.tg_base.specs.declared.ids.Ballot.{Ballot}
use Rattle.tg_base.specs.declared.ids.NodeId.{NodeId}
use Rattle.tg_base.specs.declared.ids.Role.{Role}
use Rattle.tg_base.specs.declared.ids.Role.TheVariants as role
use Rattle.tg_base.specs.declared.msg.Msg.{Msg}
use Rattle.tg_base.specs.declared.msg.Msg.TheVariants as msg
use Rattle.tg_base.specs.declared.packet.Out.{Out}
use Rattle.tg_base.specs.Orders.{node_eq}
use Rattle.tg_kind.specs.Meaning.{Meaning}
use Rattle.tg_protocol.specs.Words.{layout_id, seqr_id}
use Rattle.tg_protocol.specs.Requests.{out, awaits, Waits, asked_of}
use Rattle.tg_protocol.specs.Replies.{Reply, IsLatest}
use Rattle.tg_protocol.specs.Reconfiguring.{Stage, Preparing, Accepting, Later, Voting, ReconfWork, SealingSpare, LookingSpare, Sealing, LookingAgain, Agreeing, Telling, Starting, Reconf, ReconfTurn, ballot_of, next_epoch, reconf_awaited, reconf_work_asks, stage_asks, set_asks, later_asks, begun, has_rid, is_answer, later_feed, vote_feed, stage_feed, reconf_feed, reconf_latest}
use Rattle.tg_law_layouts.proofs.Moves.Members.{Has, has_left, has_right, has_either, found, passes_somewhere}
use Rattle.tg_law_finish.proofs.Finish.Nets.{Net, on_in}
use Rattle.tg_law_reconfs.proofs.Votes.{contrary, ballot, promised, TellOk, PrepareTold, AcceptTold, DecidedTold, LearnTold, LatestLow}
use Rattle.tg_law_reconfs.proofs.Waits.{asked_has, has_asked, none_answered}
use Rattle.tg_law_reconfs.proofs.Turns.{Mode, First, Second, Third, later_waits, stage_waits, vote_waits, live, left_in, left_of, StageTold, Enough, StageFine, LaterFine, Begun, SetFor, Heard, HeardIf, HeardIn, Claim, WorkFine, ReconfFine, Onward, To, stage_turn, is_answered, told_turn, newer_told, start_turn}

abbrev node : Role → ℕ → NodeId
node r n = record { role = r; num = n }

one_num : (n k : ℕ) → eqb n k ≡ true → n ≡ k
one_num n k e = grind arith

role_same : (a b : Role) → (n k : ℕ) → node_eq (node a n) (node b k) ≡ true → node a n ≡ node b k
unfolding node_eq
role_same role.Unit role.Unit n k e = ap (λ (x : ℕ). node role.Unit x) (one_num n k e)
role_same role.Unit role.Layout n k e = absurd cc
role_same role.Unit role.Seqr n k e = absurd cc
role_same role.Unit role.Client n k e = absurd cc
role_same role.Layout role.Unit n k e = absurd cc
role_same role.Layout role.Layout n k e = ap (λ (x : ℕ). node role.Layout x) (one_num n k e)
role_same role.Layout role.Seqr n k e = absurd cc
role_same role.Layout role.Client n k e = absurd cc
role_same role.Seqr role.Unit n k e = absurd cc
role_same role.Seqr role.Layout n k e = absurd cc
role_same role.Seqr role.Seqr n k e = ap (λ (x : ℕ). node role.Seqr x) (one_num n k e)
role_same role.Seqr role.Client n k e = absurd cc
role_same role.Client role.Unit n k e = absurd cc
role_same role.Client role.Layout n k e = absurd cc
role_same role.Client role.Seqr n k e = absurd cc
role_same role.Client role.Client n k e = ap (λ (x : ℕ). node role.Client x) (one_num n k e)

pub node_same : (a b : NodeId) → node_eq a b ≡ true → a ≡ b
node_same a b e = role_same a.role b.role a.num b.num e

pub both_parts : (a b : Bool) → (a && b) ≡ true → (a ≡ true) × (b ≡ true)
both_parts a b e = grind arith

num_same : (a b : ℕ) → eqb a b ≡ true → a ≡ b
num_same a b e = grind arith

num_itself : (a : ℕ) → eqb a a ≡ true
num_itself a = grind arith

pub layout_itself : (i : ℕ) → node_eq (layout_id i) (layout_id i) ≡ true
unfolding node_eq
layout_itself i = num_itself i

pub both_true : (a b : Bool) → a ≡ true → b ≡ true → (a && b) ≡ true
both_true a b e f = grind (arith, e, f)

-- an awaited answer is one to some request
pub awaited_one : (os : List Out) (a : NodeId) (rid : ℕ) → awaits os a rid ≡ true → (y : Msg) × Has os (out a rid y)
awaited_one os a rid e =
    let x = found (λ (o : Out). node_eq o.to a && eqb o.rid rid) os e in
    let f = both_parts _ _ x.passes in
    (x.it.msg, subst (λ (n : NodeId). Has os (out n rid x.it.msg)) (node_same x.it.to a f.0) (subst (λ (i : ℕ). Has os (out x.it.to i x.it.msg)) (num_same x.it.rid rid f.1) x.has))

pub awaits_layout : (os : List Out) (i rid : ℕ) (y : Msg) → Has os (out (layout_id i) rid y) → awaits os (layout_id i) rid ≡ true
awaits_layout os i rid y h = passes_somewhere (λ (o : Out). node_eq o.to (layout_id i) && eqb o.rid rid) os (out (layout_id i) rid y) h (both_true _ _ (layout_itself i) (num_itself rid))

rid_there : (n rid : ℕ) (ws : Waits) → Has ws (n, rid) → has_rid n rid ws ≡ true
rid_there n rid [] h = absurd h
rid_there n rid (w ∷ ws) (inl e) = here n rid w ws (ap (λ (v : ℕ × ℕ). v.0) e) (ap (λ (v : ℕ × ℕ). v.1) e)
  where
    here : (n rid : ℕ) (w : ℕ × ℕ) (ws : Waits) → n ≡ w.0 → rid ≡ w.1 → has_rid n rid (w ∷ ws) ≡ true
    here n rid w ws e f = grind (arith, e, f)
rid_there n rid (w ∷ ws) (inr h) = more n rid w ws (rid_there n rid ws h)
  where
    more : (n rid : ℕ) (w : ℕ × ℕ) (ws : Waits) → has_rid n rid ws ≡ true → has_rid n rid (w ∷ ws) ≡ true
    more n rid w ws e = grind (arith, e)

there_rid : (n rid : ℕ) (ws : Waits) → has_rid n rid ws ≡ true → Has ws (n, rid)
there_rid n rid [] e = absurd cc
there_rid n rid (w ∷ ws) e = by (either n rid w ws e) (λ f. there_rid n rid ws f)
  where
    either : (n rid : ℕ) (w : ℕ × ℕ) (ws : Waits) → has_rid n rid (w ∷ ws) ≡ true → ((n ≡ w.0) × (rid ≡ w.1)) ⊎ (has_rid n rid ws ≡ true)
    either n rid w ws e = grind (arith, e)

    pair : (a b c d : ℕ) → a ≡ c → b ≡ d → (λ (v : ℕ × ℕ) (u : ℕ × ℕ). v ≡ u) (a, b) (c, d)
    pair a b c d e f = cc

    by : ((n ≡ w.0) × (rid ≡ w.1)) ⊎ (has_rid n rid ws ≡ true) → (has_rid n rid ws ≡ true → Has ws (n, rid)) → Has (w ∷ ws) (n, rid)
    by (inl f) more = inl (pair n rid w.0 w.1 f.0 f.1)
    by (inr f) more = inr (more f)

module _ (m : Meaning) (h : Header) (stopped : List NodeId) (k epoch servers top round : ℕ) where
  abbrev Told : Net m → NodeId → Msg → Reply → Type 0
  Told s a y x = TellOk m h stopped k epoch servers top round s a y x

  abbrev Fine : Mode → Net m → Bool → Reconf → Type 0
  Fine mode s b r = ReconfFine m h stopped k epoch servers top round mode s b r

  -- what is waited for is awaited
  pub stage_awaited : (r : Reconf) (x : ℕ) (st : Stage) (i j : ℕ) → Has (stage_waits st) (i, j) → (y : Msg) × Has (stage_asks r x st) (out (layout_id i) j y)
  stage_awaited r x (Preparing ws ps) i j has = (_, asked_has layout_id (msg.Prepare (next_epoch r) (ballot_of r x)) ws i j has)
  stage_awaited r x (Accepting ws n q) i j has = (_, asked_has layout_id (msg.Accept (next_epoch r) (ballot_of r x) q) ws i j has)

  set_awaited : (r : Reconf) (o : Option Later) (i j : ℕ) → Has (later_waits o) (i, j) → (y : Msg) × Has (set_asks r o) (out (layout_id i) j y)
  set_awaited r None i j has = absurd has
  set_awaited r (Some l) i j has = (_, asked_has layout_id (msg.Prepare (next_epoch r) (ballot_of r l.round)) l.waits i j has)

  pub live_awaited : (b : Bool) (r : Reconf) (w : ReconfWork) (i j : ℕ) → Has (live b w) (i, j) → (y : Msg) × Has (reconf_work_asks r w ++ later_asks r w) (out (layout_id i) j y)
  unfolding reconf_work_asks
  live_awaited true r (Agreeing v) i j has = let x = stage_awaited r v.round v.stage i j has in (x.0, has_left (stage_asks r v.round v.stage) (set_asks r v.later) _ x.1)
  live_awaited false r (Agreeing v) i j has = let x = set_awaited r v.later i j has in (x.0, has_right (stage_asks r v.round v.stage) (set_asks r v.later) _ x.1)
  live_awaited b r (Telling ws n q) i j has = (_, has_left (asked_of layout_id (msg.Decided q) ws) [] _ (asked_has layout_id (msg.Decided q) ws i j has))
  live_awaited b r (Starting n) i j has = absurd has
  live_awaited b r (SealingSpare n) i j has = absurd has
  live_awaited b r (LookingSpare n) i j has = absurd has
  live_awaited b r (Sealing ws acks) i j has = absurd has
  live_awaited b r (LookingAgain n acks) i j has = absurd has

  module _ (mode : Mode) (s : Net m) (small : top + 1 < 2 ^ 32) (fits : round ≤ top) (there : (i : ℕ) → on_in m stopped s (layout_id i) ≡ true → i < servers) (rounds : (i : ℕ) → (promised m h stopped k epoch servers top round s i).round ≤ top) where
    module _ (b : Bool) (r : Reconf) (fine : Fine mode s b r) (a : NodeId) (rid next : ℕ) (on : on_in m stopped s a ≡ true) (below : (o : Out) → Has (reconf_awaited r) o → o.rid < next) where
      abbrev pub Result : ReconfTurn → Type 0
      Result t = To m h stopped k epoch servers top round mode s a rid (live b r.work) (λ i. HeardIn m h stopped k epoch servers top round b s r.work i) (left_of m h stopped k epoch servers top round b r.work) next t.to

      live_below : (w : ReconfWork) → r.work ≡ w → (i j : ℕ) → Has (live b w) (i, j) → j < next
      live_below w at i j has = let x = live_awaited b r w i j has in below (out (layout_id i) j x.0) (subst (λ (y : ReconfWork). Has (reconf_work_asks r y ++ later_asks r y) (out (layout_id i) j x.0)) (sym at) x.1)

      ballots : (x y : ℕ) → ballot_of r x ≡ ballot m h stopped k epoch servers top round → x ≡ round
      ballots x y e = ap (λ (z : Ballot). z.round) e

      abbrev Voted : Voting → Stage → Reply → Type 0
      Voted v st x = (u : ℕ) × ((a ≡ layout_id u) × ((v.round ≡ round) × StageTold m h stopped k epoch servers top round s u st x))

      num_of : (u : ℕ) → a ≡ layout_id u → a.num ≡ u
      num_of u e = ap (λ (n : NodeId). n.num) e

      told_at : (u rid' : ℕ) (y z : Msg) (x : Reply) → out a rid y ≡ out (layout_id u) rid' z → Told s a y x → (a ≡ layout_id u) × ((rid ≡ rid') × Told s (layout_id u) z x)
      told_at u rid' y z x e t =
          let f = ap (λ (o : Out). o.to) e in
          let g = ap (λ (o : Out). o.msg) e in
          (f, (ap (λ (o : Out). o.rid) e, subst (λ (n : NodeId). Told s n z x) f (subst (λ (w : Msg). Told s a w x) g t)))

      -- which request of the present stage it answers
      stage_told : (v : Voting) (st : Stage) (y : Msg) (x : Reply) → Has (stage_asks r v.round st) (out a rid y) → Told s a y x → Voted v st x
      stage_told v (Preparing ws ps) y x has told =
          let o = has_asked layout_id (msg.Prepare (next_epoch r) (ballot_of r v.round)) ws (out a rid y) has in
          let t = told_at o.num o.rid y _ x o.is told in
          (o.num, (t.0, (ballots v.round round t.1.1.0, t.1.1.1)))
      stage_told v (Accepting ws n q) y x has told =
          let o = has_asked layout_id (msg.Accept (next_epoch r) (ballot_of r v.round) q) ws (out a rid y) has in
          let t = told_at o.num o.rid y _ x o.is told in
          (o.num, (t.0, (ballots v.round round t.1.1.0, t.1.1.1)))

      abbrev SetTold : Voting → Reply → Type 0
      SetTold v x = (l : Later) × ((v.later ≡ Some l) × ((u : ℕ) × ((a ≡ layout_id u) × ((l.round ≡ round) × (PrepareTold m h stopped k epoch servers top round s u x × Has l.waits (u, rid))))))

      set_told : (v : Voting) (o : Option Later) (y : Msg) (x : Reply) → v.later ≡ o → Has (set_asks r o) (out a rid y) → Told s a y x → SetTold v x
      set_told v None y x e has told = absurd has
      set_told v (Some l) y x e has told =
          let o = has_asked layout_id (msg.Prepare (next_epoch r) (ballot_of r l.round)) l.waits (out a rid y) has in
          let t = told_at o.num o.rid y _ x o.is told in
          (l, (e, (o.num, (t.0, (ballots l.round round t.1.1.0, (t.1.1.1, subst (λ (i : ℕ). Has l.waits (o.num, i)) (sym t.1.0) o.has))))))

      abbrev AllTold : Reply → Type 0
      AllTold x = (y : Msg) → Has (reconf_awaited r) (out a rid y) → Told s a y x

      -- While it votes.
      module _ (v : Voting) (at : r.work ≡ Agreeing v) (x : Reply) (all : AllTold x) where
        abbrev asks_here : List Out
        asks_here = stage_asks r v.round v.stage ++ set_asks r v.later

        awaits_here : reconf_awaited r ≡ asks_here
        unfolding reconf_work_asks
        awaits_here = ap (λ (w : ReconfWork). reconf_work_asks r w ++ later_asks r w) at

        told_here : (y : Msg) → Has asks_here (out a rid y) → Told s a y x
        told_here y has = all y (subst (λ (os : List Out). Has os (out a rid y)) (sym awaits_here) has)

        abbrev Outcome : ReconfTurn → Type 0
        Outcome t = To m h stopped k epoch servers top round mode s a rid (live b (Agreeing v)) (λ i. HeardIf m h stopped k epoch servers top round b s v i) (left_of m h stopped k epoch servers top round b (Agreeing v)) next t.to

        -- in the present stage
        in_stage : (is_begun : b ≡ true) (vote : Begun m h stopped k epoch servers top round v) (stand : r.stand.epoch + 1 ≡ epoch) (claim : Claim m h stopped k epoch servers top round mode s true v) (y : Msg) → Has asks_here (out a rid y) → Outcome (vote_feed r v v.later a.num rid x next)
        in_stage is_begun vote stand claim y has = by (has_either (stage_asks r v.round v.stage) (set_asks r v.later) (out a rid y) has)
          where
            not_later : (l : Later) → v.later ≡ Some l → l.round ≡ round → ⊥
            not_later l e f = let x = (vote.later l e).1 in omega (arith, x, f)

            none_set : (l : Later) (u : ℕ) → v.later ≡ Some l → a ≡ layout_id u → has_rid u rid l.waits ≡ true → ⊥
            none_set l u e f g =
                let z = msg.Prepare (next_epoch r) (ballot_of r l.round) in
                let has' = has_right (stage_asks r v.round v.stage) (set_asks r v.later) (out a rid z) (subst (λ (o : Option Later). Has (set_asks r o) (out a rid z)) (sym e) (subst (λ (n : NodeId). Has (asked_of layout_id z l.waits) (out n rid z)) (sym f) (asked_has layout_id z l.waits u rid (there_rid u rid l.waits g)))) in
                not_later l e (ballots l.round round (told_here z has').0)

            feeds : (o : Option Later) (u : ℕ) → v.later ≡ o → a ≡ layout_id u → vote_feed r v o u rid x next ≡ stage_feed r v v.stage u x next
            feeds None u e f = refl
            feeds (Some l) u e f = off (has_rid u rid l.waits) refl
              where
                off : (c : Bool) → has_rid u rid l.waits ≡ c → (if c then later_feed r v l u x next (is_answer r l x) else stage_feed r v v.stage u x next) ≡ stage_feed r v v.stage u x next
                off true g = absurd (none_set l u e f g)
                off false g = refl

            here : Voted v v.stage x → Outcome (vote_feed r v v.later a.num rid x next)
            here t =
                let u = t.0 in
                subst (λ (c : Bool). To m h stopped k epoch servers top round mode s a rid (vote_waits c v) (λ i. HeardIf m h stopped k epoch servers top round c s v i) (left_in m h stopped k epoch servers top round c v.stage) next (vote_feed r v v.later a.num rid x next).to) (sym is_begun)
                (subst (λ (n : NodeId). To m h stopped k epoch servers top round mode s n rid (stage_waits v.stage) (λ i. Heard m h stopped k epoch servers top round s v i) (left_in m h stopped k epoch servers top round true v.stage) next (vote_feed r v v.later n.num rid x next).to) (sym t.1.0)
                (subst (λ (z : ReconfTurn). To m h stopped k epoch servers top round mode s (layout_id u) rid (stage_waits v.stage) (λ i. Heard m h stopped k epoch servers top round s v i) (left_in m h stopped k epoch servers top round true v.stage) next z.to) (sym (feeds v.later u refl t.1.0))
                (stage_turn m h stopped k epoch servers top round mode s r fine.me fine.layouts there v stand vote claim (λ i. Heard m h stopped k epoch servers top round s v i) (λ i g. g) next (left_in m h stopped k epoch servers top round true v.stage) rid u small fits (subst (λ (n : NodeId). on_in m stopped s n ≡ true) t.1.0 on) (rounds u) v.stage x refl t.1.1.1
                (λ i j has. live_below (Agreeing v) at i j (subst (λ (c : Bool). Has (vote_waits c v) (i, j)) (sym is_begun) has)) (omega arith))))

            by : Has (stage_asks r v.round v.stage) (out a rid y) ⊎ Has (set_asks r v.later) (out a rid y) → Outcome (vote_feed r v v.later a.num rid x next)
            by (inl g) = here (stage_told v v.stage y x g (told_here y has))
            by (inr g) = let t = set_told v v.later y x refl g (told_here y has) in absurd (not_later t.0 t.1.0 t.1.1.1.1.0)

        -- the round that was set begins
        in_set : (is_set : b ≡ false) (vote : SetFor m h stopped k epoch servers top round v) (stand : r.stand.epoch + 1 ≡ epoch) (claim : Claim m h stopped k epoch servers top round mode s false v) (y : Msg) → Has asks_here (out a rid y) → Outcome (vote_feed r v v.later a.num rid x next)
        in_set is_set vote stand claim y has = by (has_either (stage_asks r v.round v.stage) (set_asks r v.later) (out a rid y) has)
          where
            one : (x y : Later) → Some x ≡ Some y → x ≡ y
            one x y e = cc

            none_some : (l : Later) → None ≡ Some l → ⊥
            none_some l e = cc

            l : Later
            l = vote.later

            now : Voting
            now = begun v l

            nothing : (n : ℕ) → nat_lt n (0 + 0) ≡ false
            nothing n = grind arith

            begins : Begun m h stopped k epoch servers top round now
            begins = record {
              own = vote.own;
              stage = (record { counted = let e = none_answered servers l.waits vote.fine.all in omega (arith, e); few = nothing servers; long = vote.fine.long }, tt);
              is = vote.is;
              later = λ x e. absurd (none_some x e);
            }

            claims : (mode : Mode) → Claim m h stopped k epoch servers top round mode s false v → Claim m h stopped k epoch servers top round mode s true now
            claims First c = tt
            claims Second c = λ i runs. kept i (c i runs)
              where
                kept : (i : ℕ) → Rattle.tg_law_reconfs.proofs.Votes.NotAbove m h stopped k epoch servers top round s i ⊎ (⊥ ⊎ ((j : ℕ) × Has (later_waits v.later) (i, j))) → Rattle.tg_law_reconfs.proofs.Votes.NotAbove m h stopped k epoch servers top round s i ⊎ (Heard m h stopped k epoch servers top round s now i ⊎ ((j : ℕ) × Has l.waits (i, j)))
                kept i (inl x) = inl x
                kept i (inr (inl x)) = absurd x
                kept i (inr (inr x)) = inr (inr (x.0, subst (λ (o : Option Later). Has (later_waits o) (i, x.0)) vote.has x.1))
            claims Third c = (c.0, λ e. refl)

            here : SetTold v x → Outcome (vote_feed r v v.later a.num rid x next)
            here t =
                let u = t.1.1.0 in
                let same = one t.0 l (sym t.1.0 ∙ vote.has) in
                let has' = subst (λ (z : Later). Has z.waits (u, rid)) same t.1.1.1.1.1.1 in
                let from = t.1.1.1.0 in
                let told = t.1.1.1.1.1.0 in
                let result = stage_turn m h stopped k epoch servers top round mode s r fine.me fine.layouts there now stand begins (claims mode claim) (λ i. ⊥) (λ i g. absurd g) next (servers + servers + 1) rid u small fits (subst (λ (n : NodeId). on_in m stopped s n ≡ true) from on) (rounds u) now.stage x refl told
                (λ i j has. live_below (Agreeing v) at i j (subst (λ (c : Bool). Has (vote_waits c v) (i, j)) (sym is_set) (subst (λ (o : Option Later). Has (later_waits o) (i, j)) (sym vote.has) has))) (omega arith) in
                let answer = is_answered m h stopped k epoch servers top round mode s r fine.me fine.layouts there now stand begins (claims mode claim) (λ i. ⊥) (λ i g. absurd g) next (servers + servers + 1) rid u small fits (subst (λ (n : NodeId). on_in m stopped s n ≡ true) from on) (rounds u) l x refl told in
                subst (λ (c : Bool). To m h stopped k epoch servers top round mode s a rid (vote_waits c v) (λ i. HeardIf m h stopped k epoch servers top round c s v i) (left_in m h stopped k epoch servers top round c v.stage) next (vote_feed r v v.later a.num rid x next).to) (sym is_set)
                (subst (λ (n : NodeId). To m h stopped k epoch servers top round mode s n rid (later_waits v.later) (λ i. ⊥) (servers + servers + 1) next (vote_feed r v v.later n.num rid x next).to) (sym from)
                (subst (λ (o : Option Later). To m h stopped k epoch servers top round mode s (layout_id u) rid (later_waits o) (λ i. ⊥) (servers + servers + 1) next (vote_feed r v o u rid x next).to) (sym vote.has)
                (subst (λ (c : Bool). To m h stopped k epoch servers top round mode s (layout_id u) rid l.waits (λ i. ⊥) (servers + servers + 1) next (if c then later_feed r v l u x next (is_answer r l x) else stage_feed r v v.stage u x next).to) (sym (rid_there u rid l.waits has'))
                (subst (λ (c : Bool). To m h stopped k epoch servers top round mode s (layout_id u) rid l.waits (λ i. ⊥) (servers + servers + 1) next (later_feed r v l u x next c).to) (sym answer) result))))

            by : Has (stage_asks r v.round v.stage) (out a rid y) ⊎ Has (set_asks r v.later) (out a rid y) → Outcome (vote_feed r v v.later a.num rid x next)
            by (inl g) = let t = stage_told v v.stage y x g (told_here y has) in let e = t.1.1.0 in let f = vote.above in absurd (omega (arith, e, f))
            by (inr g) = here (set_told v v.later y x refl g (told_here y has))

      is_vote : (v : Voting) (at : r.work ≡ Agreeing v) → (r.stand.epoch + 1 ≡ epoch) × (Rattle.tg_law_reconfs.proofs.Turns.VoteFine m h stopped k epoch servers top round b v × Claim m h stopped k epoch servers top round mode s b v)
      is_vote v at = subst (λ (w : ReconfWork). WorkFine m h stopped k epoch servers top round mode s b r.stand w) at fine.work

      by_begun : (v : Voting) (x : Reply) (at : r.work ≡ Agreeing v) → AllTold x → (y : Msg) → Has (reconf_awaited r) (out a rid y) → (c : Bool) → b ≡ c → Rattle.tg_law_reconfs.proofs.Turns.VoteFine m h stopped k epoch servers top round c v → Claim m h stopped k epoch servers top round mode s c v → (r.stand.epoch + 1 ≡ epoch)
          → To m h stopped k epoch servers top round mode s a rid (live b (Agreeing v)) (λ i. HeardIf m h stopped k epoch servers top round b s v i) (left_of m h stopped k epoch servers top round b (Agreeing v)) next (vote_feed r v v.later a.num rid x next).to
      by_begun v x at all y has true is vote claim stand = in_stage v at x all is vote stand claim y (subst (λ (os : List Out). Has os (out a rid y)) (awaits_here v at x all) has)
      by_begun v x at all y has false is vote claim stand = in_set v at x all is vote stand claim y (subst (λ (os : List Out). Has os (out a rid y)) (awaits_here v at x all) has)

      told_none : (x : Reply) → ((q : Layout) → x ≡ IsLatest q → ⊥) → DecidedTold m h stopped k epoch servers top round x → ⊥
      told_none (IsLatest q) f t = f q refl
      told_none x f t = t

      tells_only : (ws : Waits) (q : Layout) (y : Msg) (x : Reply) → Has (asked_of layout_id (msg.Decided q) ws ++ []) (out a rid y) → Told s a y x → DecidedTold m h stopped k epoch servers top round x
      tells_only ws q y x has told = by (has_either (asked_of layout_id (msg.Decided q) ws) [] (out a rid y) has)
        where
          by : Has (asked_of layout_id (msg.Decided q) ws) (out a rid y) ⊎ Has [] (out a rid y) → DecidedTold m h stopped k epoch servers top round x
          by (inl g) = let o = has_asked layout_id (msg.Decided q) ws (out a rid y) g in (told_at o.num o.rid y (msg.Decided q) x o.is told).1.1
          by (inr g) = absurd g

      learns_only : (i : ℕ) (y : Msg) (x : Reply) → Has (out (seqr_id r.stand.seq) i (msg.Learn r.stand) ∷ []) (out a rid y) → Told s a y x → LearnTold m h stopped k epoch servers top round x
      learns_only i y x (inl e) told = subst (λ (z : Msg). Told s a z x) (ap (λ (o : Out). o.msg) e) told
      learns_only i y x (inr g) told = absurd g

      -- an awaited answer, which is no layout
      fed_by : (w : ReconfWork) (x : Reply) → r.work ≡ w → AllTold x → ((q : Layout) → x ≡ IsLatest q → ⊥) → (y : Msg) → Has (reconf_awaited r) (out a rid y)
          → To m h stopped k epoch servers top round mode s a rid (live b w) (λ i. HeardIn m h stopped k epoch servers top round b s w i) (left_of m h stopped k epoch servers top round b w) next (reconf_feed r w a.num rid x next).to
      unfolding reconf_feed reconf_work_asks
      fed_by (Agreeing v) x at all plain y has = let f = is_vote v at in by_begun v x at all y has b refl f.1.0 f.1.1 f.0
      fed_by (Telling ws n q) x at all plain y has = absurd (told_none x plain (tells_only ws q y x (subst (λ (w : ReconfWork). Has (reconf_work_asks r w ++ later_asks r w) (out a rid y)) at has) (all y has)))
      fed_by (Starting i) x at all plain y has =
          let here = subst (λ (w : ReconfWork). Has (reconf_work_asks r w ++ later_asks r w) (out a rid y)) at has in
          let own = subst (λ (w : ReconfWork). Has (reconf_work_asks r w ++ later_asks r w) (out (seqr_id r.stand.seq) i (msg.Learn r.stand))) (sym at) (inl refl) in
          start_turn m h stopped k epoch servers top round mode s r fine.me fine.layouts there i a a.num rid x 0 next at (subst (λ (w : ReconfWork). WorkFine m h stopped k epoch servers top round mode s b r.stand w) at fine.work)
          (below (out (seqr_id r.stand.seq) i (msg.Learn r.stand)) own) (learns_only i y x here (all y has))
      fed_by (SealingSpare n) x at all plain y has = absurd (subst (λ (w : ReconfWork). WorkFine m h stopped k epoch servers top round mode s b r.stand w) at fine.work)
      fed_by (LookingSpare n) x at all plain y has = absurd (subst (λ (w : ReconfWork). WorkFine m h stopped k epoch servers top round mode s b r.stand w) at fine.work)
      fed_by (Sealing ws acks) x at all plain y has = absurd (subst (λ (w : ReconfWork). WorkFine m h stopped k epoch servers top round mode s b r.stand w) at fine.work)
      fed_by (LookingAgain n acks) x at all plain y has = absurd (subst (λ (w : ReconfWork). WorkFine m h stopped k epoch servers top round mode s b r.stand w) at fine.work)

      pub fed_turn : (x : Reply) → AllTold x → ((q : Layout) → x ≡ IsLatest q → ⊥) → (y : Msg) → Has (reconf_awaited r) (out a rid y) → Result (reconf_feed r r.work a.num rid x next)
      fed_turn x all plain y has = fed_by r.work x refl all plain y has

      -- a layout that is later than the client's
      latest_of : (w : ReconfWork) (q : Layout) → r.work ≡ w → r.stand.epoch < q.epoch → q.epoch ≤ epoch → a ≡ layout_id a.num
          → To m h stopped k epoch servers top round mode s a rid (live b w) (λ i. HeardIn m h stopped k epoch servers top round b s w i) (left_of m h stopped k epoch servers top round b w) next (reconf_latest r w a.num rid q next).to
      latest_of (Agreeing v) q at less le from = let f = is_vote v at in let e = f.0 in
          newer_told m h stopped k epoch servers top round mode s r fine.me fine.layouts there v q a rid a.num (live b (Agreeing v)) (λ i. HeardIf m h stopped k epoch servers top round b s v i) _ next at e (omega (arith, e, less, le)) (room b v.stage)
        where
          room : (c : Bool) (st : Stage) → servers + 1 ≤ left_in m h stopped k epoch servers top round c st
          room false st = omega arith
          room true (Preparing ws ps) = omega arith
          room true (Accepting ws n q) = omega arith
      latest_of (Telling ws n p) q at less le from =
          let f = subst (λ (w : ReconfWork). WorkFine m h stopped k epoch servers top round mode s b r.stand w) at fine.work in
          let e = f.0 in
          subst (λ (z : NodeId). To m h stopped k epoch servers top round mode s z rid ws (λ i. ⊥) 1 next (reconf_latest r (Telling ws n p) a.num rid q next).to) (sym from)
          (told_turn m h stopped k epoch servers top round mode s r fine.me fine.layouts there ws n p e f.1.0 f.1.1 next 1 rid a.num (λ i j has. live_below (Telling ws n p) at i j has) (omega arith) q at (omega (arith, e, less, le)))
      latest_of (Starting i) q at less le from = let e = subst (λ (w : ReconfWork). WorkFine m h stopped k epoch servers top round mode s b r.stand w) at fine.work in absurd (omega (arith, less, le, e))
      latest_of (SealingSpare n) q at less le from = absurd (subst (λ (w : ReconfWork). WorkFine m h stopped k epoch servers top round mode s b r.stand w) at fine.work)
      latest_of (LookingSpare n) q at less le from = absurd (subst (λ (w : ReconfWork). WorkFine m h stopped k epoch servers top round mode s b r.stand w) at fine.work)
      latest_of (Sealing ws acks) q at less le from = absurd (subst (λ (w : ReconfWork). WorkFine m h stopped k epoch servers top round mode s b r.stand w) at fine.work)
      latest_of (LookingAgain n acks) q at less le from = absurd (subst (λ (w : ReconfWork). WorkFine m h stopped k epoch servers top round mode s b r.stand w) at fine.work)

      pub latest_turn : (q : Layout) → r.stand.epoch < q.epoch → q.epoch ≤ epoch → a ≡ layout_id a.num → Result (reconf_latest r r.work a.num rid q next)
      latest_turn q less le from = latest_of r.work q refl less le from

      stage_latest : (v : Voting) (st : Stage) (q : Layout) → Voted v st (IsLatest q) → ⊥
      stage_latest v (Preparing ws ps) q t = t.1.1.1
      stage_latest v (Accepting ws n p) q t = t.1.1.1

      -- a layout is told to what is waited for only where it is of this epoch, and later than the client's
      latest_at : (w : ReconfWork) (q : Layout) (y : Msg) → r.work ≡ w → Has (reconf_work_asks r w ++ later_asks r w) (out a rid y) → Told s a y (IsLatest q) → (r.stand.epoch < q.epoch → ⊥) → (c : Bool) → b ≡ c → WorkFine m h stopped k epoch servers top round mode s c r.stand w → (i j : ℕ) → Has (live c w) (i, j) → ⊥
      unfolding reconf_work_asks
      latest_at (Agreeing v) q y at has told old c is f i j h' = by (has_either (stage_asks r v.round v.stage) (set_asks r v.later) (out a rid y) has)
        where
          by : Has (stage_asks r v.round v.stage) (out a rid y) ⊎ Has (set_asks r v.later) (out a rid y) → ⊥
          by (inl g) = stage_latest v v.stage q (stage_told v v.stage y (IsLatest q) g told)
          by (inr g) = (set_told v v.later y (IsLatest q) refl g told).1.1.1.1.1.0
      latest_at (Telling ws n p) q y at has told old c is f i j h' = let e = tells_only ws p y (IsLatest q) has told in let g = f.0 in old (omega (arith, e, g))
      latest_at (Starting n) q y at has told old c is f i j h' = absurd h'
      latest_at (SealingSpare n) q y at has told old c is f i j h' = absurd h'
      latest_at (LookingSpare n) q y at has told old c is f i j h' = absurd h'
      latest_at (Sealing ws acks) q y at has told old c is f i j h' = absurd h'
      latest_at (LookingAgain n acks) q y at has told old c is f i j h' = absurd h'

      pub latest_answers : (w : ReconfWork) (q : Layout) (i j : ℕ) → r.work ≡ w → Has (live b w) (i, j) → a ≡ layout_id i → rid ≡ j → AllTold (IsLatest q) → (r.stand.epoch < q.epoch → ⊥) → ⊥
      latest_answers w q i j at has e f all old =
          let x = live_awaited b r w i j has in
          let here = subst (λ (n : NodeId). Has (reconf_work_asks r w ++ later_asks r w) (out n rid x.0)) (sym e) (subst (λ (n : ℕ). Has (reconf_work_asks r w ++ later_asks r w) (out (layout_id i) n x.0)) (sym f) x.1) in
          latest_at w q x.0 at here (all x.0 (subst (λ (z : ReconfWork). Has (reconf_work_asks r z ++ later_asks r z) (out a rid x.0)) (sym at) here)) old b refl (subst (λ (z : ReconfWork). WorkFine m h stopped k epoch servers top round mode s b r.stand z) at fine.work) i j has
