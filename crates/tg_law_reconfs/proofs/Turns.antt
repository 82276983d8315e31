-- What a client that agrees on a layout makes of an answer.
use Rattle.std.proofs.Common.{◌≡◌, ◌⊎◌, ℕ, ◌+◌, ◌^◌, ◌<◌, ◌≤◌, List, [], ◌∷◌, length, Bool, true, false, ◌&&◌, eqb, refl, ap, ◌∙◌, sym, subst, inl, inr, arith, Some, None, Option}
use Rattle.std.specs.Prelude.{nat_lt, max, ⊤, ◌==◌, if◌then◌else◌}
use Rattle.std.proofs.lemmas.Bool.Decides.{nat_tests}
use Rattle.tg_base.specs.Layouts.{Layout}
use Rattle.tg_base.specs.Clusters.{Header}
use Rattle.tg_base.specs.declared.ids.Ballot.{Ballot}
use Rattle.tg_base.specs.declared.ids.NodeId.{NodeId}
use Rattle.tg_base.specs.declared.msg.Msg.{Msg}
use Rattle.tg_base.specs.declared.msg.Msg.TheVariants as msg
use Rattle.tg_base.specs.declared.packet.Out.{Out}
use Rattle.tg_base.specs.Orders.{ballot_eq}
use Rattle.tg_kind.specs.Meaning.{Meaning}
use Rattle.tg_protocol.specs.Words.{seqr_id, layout_id, ballot_lt, numbers}
use Rattle.tg_protocol.specs.Layouts.{next_of}
use Rattle.tg_protocol.specs.Requests.{out, Waits, waits_for, asked_of, without_wait, drawn_from, Next, Goes, Learns, Ends}
use Rattle.tg_protocol.specs.Replies.{Reply, IsPromise, IsNack, IsAccepted, IsTail, IsOldEpoch}
use Rattle.tg_protocol.specs.Trimming.{learns_if}
use Rattle.tg_protocol.specs.Reconfiguring.{Acks, proposes, Before, Stage, Preparing, Accepting, Later, Voting, ReconfWork, Agreeing, Telling, Starting, Reconf, ReconfEnd, next_epoch, ballot_of, is_majority, reconf_asks, reconf_work_asks, stage_asks, greater, greatest, value_or, promised_on, promised as promised_turn, tells, accepted_on, accepted as accepted_turn, round_after, round_set, sets_if, nacked, same_vote, is_of_epoch, stage_feed, is_answer, has_rid, started_if, reconf_feed, adopts, heard_on, heard, own_decided, on_newer, is_own, reconf_latest}
use Rattle.tg_law_layouts.proofs.Moves.Members.{Has}
use Rattle.tg_law_layouts.proofs.Agreement.Proposers.{answered, AllWait}
use Rattle.tg_law_finish.proofs.Finish.Lists.{Each}
use Rattle.tg_law_finish.proofs.Finish.Nets.{Net, on_in}
use Rattle.tg_law_finish.proofs.Finish.Tasks.{none_drawn}
use Rattle.tg_law_reconfs.proofs.Votes.{tally, tally_one, contrary, one_of, ballot, promised, NotAbove, OfEpoch, AskOk, Nacks, PrepareTold, AcceptTold, LearnTold}
use Rattle.tg_law_reconfs.proofs.Waits.{each_has, without_has, has_without, without_answered, without_long, all_have, all_wait, none_answered, all_long, all_drawn, asked_has, asked_long, has_asked}

-- What a drain has to come to: any end, a ballot above all promises, or an end of the votes.
pub data Mode : Type 0 where
  First : Mode
  Second : Mode
  Third : Mode

layout_num : (i j : ℕ) → layout_id i ≡ layout_id j → i ≡ j
layout_num i j e = ap (λ (n : NodeId). n.num) e

abbrev pub later_waits : Option Later → Waits
later_waits None = []
later_waits (Some l) = l.waits

abbrev pub stage_waits : Stage → Waits
stage_waits (Preparing ws ps) = ws
stage_waits (Accepting ws n q) = ws

-- whom a vote waits for: its present stage, or the round that is set
abbrev pub vote_waits : Bool → Voting → Waits
vote_waits true v = stage_waits v.stage
vote_waits false v = later_waits v.later

abbrev pub live : Bool → ReconfWork → Waits
live b (Agreeing v) = vote_waits b v
live b (Telling ws n q) = ws
live b w = []

module _ (m : Meaning) (h : Header) (stopped : List NodeId) (k epoch servers top round : ℕ) where
  abbrev B : Ballot
  B = ballot m h stopped k epoch servers top round

  abbrev Promise : Net m → ℕ → Ballot
  Promise s i = promised m h stopped k epoch servers top round s i

  abbrev Under : Net m → ℕ → Type 0
  Under s i = NotAbove m h stopped k epoch servers top round s i

  abbrev Of : Before → Type 0
  Of b = OfEpoch m h stopped k epoch servers top round b

  -- how many requests may still be sent before the next tick
  abbrev pub left_in : Bool → Stage → ℕ
  left_in false s = servers + servers + 1
  left_in true (Preparing ws ps) = servers + servers + 1
  left_in true (Accepting ws n q) = servers + 1

  abbrev pub left_of : Bool → ReconfWork → ℕ
  left_of b (Agreeing v) = left_in b v.stage
  left_of b (Telling ws n q) = 1
  left_of b w = 0

  -- all who answered are counted, and they are no majority
  pub record Enough (ws : Waits) (n : ℕ) : Type 0 where
    pub counted : tally (answered ws) servers ≤ n
    pub few : nat_lt servers (n + n) ≡ false
    pub long : length ws ≤ servers

  -- what is told to the present stage
  abbrev pub StageTold : Net m → ℕ → Stage → Reply → Type 0
  StageTold s u (Preparing ws ps) x = PrepareTold m h stopped k epoch servers top round s u x
  StageTold s u (Accepting ws n q) x = AcceptTold m h stopped k epoch servers top round s u x

  abbrev pub StageFine : Stage → Type 0
  StageFine (Preparing ws ps) = Enough ws (length ps) × Each Of ps
  StageFine (Accepting ws n q) = Enough ws n × (q.epoch ≡ epoch)

  pub record LaterFine (l : Later) : Type 0 where
    pub all : AllWait servers l.waits
    pub long : length l.waits ≤ servers
    pub fits : l.round ≤ top + 1

  -- the present round's requests are on their way
  pub record Begun (v : Voting) : Type 0 where
    pub own : v.own.epoch ≡ epoch
    pub stage : StageFine v.stage
    pub is : v.round ≡ round
    pub later : (l : Later) → v.later ≡ Some l → LaterFine l × (round < l.round)

  -- those of the round that is set are
  pub record SetFor (v : Voting) : Type 0 where
    pub own : v.own.epoch ≡ epoch
    pub later : Later
    pub has : v.later ≡ Some later
    pub fine : LaterFine later
    pub is : later.round ≡ round
    pub above : v.round < round

  abbrev pub VoteFine : Bool → Voting → Type 0
  VoteFine true v = Begun v
  VoteFine false v = SetFor v

  -- a round is set above the server's promise
  pub record Heard (s : Net m) (v : Voting) (i : ℕ) : Type 0 where
    pub later : Later
    pub has : v.later ≡ Some later
    pub above : (Promise s i).round < later.round

  abbrev pub HeardIf : Bool → Net m → Voting → ℕ → Type 0
  HeardIf true s v i = Heard s v i
  HeardIf false s v i = ⊥

  abbrev pub HeardIn : Bool → Net m → ReconfWork → ℕ → Type 0
  HeardIn b s (Agreeing v) i = HeardIf b s v i
  HeardIn b s w i = ⊥

  abbrev pub Claim : Mode → Net m → Bool → Voting → Type 0
  Claim First s b v = ⊤
  Claim Second s b v = (i : ℕ) → on_in m stopped s (layout_id i) ≡ true → Under s i ⊎ (HeardIf b s v i ⊎ ((j : ℕ) × Has (vote_waits b v) (i, j)))
  Claim Third s b v = ((i : ℕ) → on_in m stopped s (layout_id i) ≡ true → Under s i) × (b ≡ true → v.later ≡ None)

  abbrev pub WorkFine : Mode → Net m → Bool → Layout → ReconfWork → Type 0
  WorkFine mode s b p (Agreeing v) = (p.epoch + 1 ≡ epoch) × (VoteFine b v × Claim mode s b v)
  WorkFine mode s b p (Telling ws n q) = (p.epoch + 1 ≡ epoch) × ((q.epoch ≡ epoch) × Enough ws n)
  WorkFine mode s b p (Starting i) = p.epoch ≡ epoch
  WorkFine mode s b p w = ⊥

  pub record ReconfFine (mode : Mode) (s : Net m) (b : Bool) (r : Reconf) : Type 0 where
    pub me : r.me ≡ k
    pub layouts : r.layouts ≡ servers
    pub work : WorkFine mode s b r.stand r.work

  -- how the reconfiguration goes on
  pub record Onward (mode : Mode) (s : Net m) (from : NodeId) (rid : ℕ) (old : Waits) (was : ℕ → Type 0) (left next : ℕ) (r : Reconf) : Type 0 where
    pub fine : ReconfFine mode s true r
    pub new : List Out
    pub drawn : drawn_from next (reconf_asks r) ≡ new
    pub asks : (o : Out) → Has new o → AskOk m h stopped k epoch servers top round o.to o.msg
    pub few : length new + left_of true r.work ≤ left
    pub live : (i j : ℕ) → Has (live true r.work) (i, j) → ((y : Msg) × Has new (out (layout_id i) j y)) ⊎ (((Has old (i, j) × ((from ≡ layout_id i) → rid ≡ j → ⊥)) × (was i → HeardIn true s r.work i)) ⊎ HeardIn true s r.work i)

  abbrev pub To : Mode → Net m → NodeId → ℕ → Waits → (ℕ → Type 0) → ℕ → ℕ → Next Reconf ReconfEnd → Type 0
  To mode s from rid old was left next (Goes r) = Onward mode s from rid old was left next r
  To mode s from rid old was left next (Learns r) = ⊥
  To mode s from rid old was left next (Ends e) = ⊤

  -- All servers are asked.
  module _ (mode : Mode) (s : Net m) (r : Reconf) (me : r.me ≡ k) (lay : r.layouts ≡ servers) (there : (i : ℕ) → on_in m stopped s (layout_id i) ≡ true → i < servers) where
    abbrev everyone : ℕ → Waits
    everyone next = waits_for (numbers r.layouts 0) next

    everyone_waits : (next : ℕ) → AllWait servers (everyone next)
    everyone_waits next i less = all_wait r.layouts next i (omega (arith, less, lay))

    fresh : (next n : ℕ) → n ≡ 0 → Enough (everyone next) n
    fresh next n e = let a = none_answered servers (everyone next) (everyone_waits next) in let b = all_long r.layouts next in record { counted = omega (arith, a); few = none n e; long = omega (arith, b, lay) }
      where
        none : (n : ℕ) → n ≡ 0 → nat_lt servers (n + n) ≡ false
        none n e = grind (arith, e)

    own_ballot : (x : ℕ) → x ≡ round → ballot_of r x ≡ B
    own_ballot x e = ap (λ (y : ℕ). record { round = y; client = r.me }) e ∙ ap (λ (y : ℕ). record { round = round; client = y }) me

    ask_all : (next : ℕ) (y : Msg) → ((i : ℕ) → AskOk m h stopped k epoch servers top round (layout_id i) y) → (o : Out) → Has (asked_of layout_id y (everyone next)) o → AskOk m h stopped k epoch servers top round o.to o.msg
    ask_all next y ok o has = let x = has_asked layout_id y (everyone next) o has in subst (λ (z : Out). AskOk m h stopped k epoch servers top round z.to z.msg) (sym x.is) (ok x.num)

    minority : (n : ℕ) → is_majority r n ≡ false → nat_lt servers (n + n) ≡ false
    minority n e = ap (λ (x : ℕ). nat_lt x (n + n)) (sym lay) ∙ e

    -- it is decided
    pub tells_to : (from : NodeId) (rid : ℕ) (old : Waits) (was : ℕ → Type 0) (left next : ℕ) (q : Layout) → r.stand.epoch + 1 ≡ epoch → q.epoch ≡ epoch → servers + 1 ≤ left → To mode s from rid old was left next (tells r q next).to
    unfolding reconf_work_asks
    tells_to from rid old was left next q stand of few =
        let long = asked_long layout_id (msg.Decided q) (everyone next) in
        let all = all_long r.layouts next in
        record {
          fine = record { me = me; layouts = lay; work = (stand, (of, fresh next 0 refl)) };
          new = asked_of layout_id (msg.Decided q) (everyone next);
          drawn = all_drawn layout_id (msg.Decided q) r.layouts next;
          asks = ask_all next (msg.Decided q) (λ i. ((i, refl), of));
          few = omega (arith, few, long, all, lay);
          live = λ i j has. inl (msg.Decided q, asked_has layout_id (msg.Decided q) (everyone next) i j has);
        }

    -- the votes begin
    pub proposes_to : (from : NodeId) (rid : ℕ) (old : Waits) (was : ℕ → Type 0) (left next : ℕ) (acks : Acks) → round ≡ 1 → ((v : Voting) → Claim mode s true v) → r.stand.epoch + 1 ≡ epoch → servers + (servers + servers + 1) ≤ left → To mode s from rid old was left next (proposes r acks next).to
    unfolding reconf_work_asks next_of
    proposes_to from rid old was left next acks first claim stand few =
        let y = msg.Prepare (next_epoch r) (ballot_of r 1) in
        let long = asked_long layout_id y (everyone next) in
        let all = all_long r.layouts next in
        record {
          fine = record { me = me; layouts = lay; work = (stand, (record { own = stand; stage = (fresh next 0 refl, tt); is = sym first; later = λ l e. absurd (none_some l e) }, claim _)) };
          new = asked_of layout_id y (everyone next);
          drawn = all_drawn layout_id y r.layouts next;
          asks = ask_all next y (λ i. ((i, refl), (stand, own_ballot 1 (sym first))));
          few = omega (arith, few, long, all, lay);
          live = λ i j has. inl (y, asked_has layout_id y (everyone next) i j has);
        }
      where
        none_some : (l : Later) → None ≡ Some l → ⊥
        none_some l e = cc

    of_greater : (a b : Before) → Of a → Of b → Of (greater a b)
    of_greater None b f g = g
    of_greater (Some a) None f g = f
    of_greater (Some a) (Some b) f g = by (ballot_lt a.0 b.0)
      where
        by : (c : Bool) → Of (if c then Some b else Some a)
        by true = g
        by false = f

    of_greatest : (bs : List Before) → Each Of bs → Of (greatest bs)
    of_greatest [] a = tt
    of_greatest (b ∷ bs) a = of_greater b (greatest bs) a.0 (of_greatest bs a.1)

    of_value : (b : Before) (own : Layout) → Of b → own.epoch ≡ epoch → (value_or b own).epoch ≡ epoch
    of_value None own f e = e
    of_value (Some b) own f e = f

    pending_all : (mode : Mode) (v w : Voting) (next : ℕ) → w.later ≡ v.later → vote_waits true w ≡ everyone next → Claim mode s true v → Claim mode s true w
    pending_all First v w next e f c = tt
    pending_all Second v w next e f c = λ i on. inr (inr (let x = all_have r.layouts next i (let less = there i on in omega (arith, less, lay)) in (x.0, subst (λ (ws : Waits). Has ws (i, x.0)) (sym f) x.1)))
    pending_all Third v w next e f c = (c.0, λ b. e ∙ c.1 b)

    -- one server less is waited for
    fewer_claim : (mode : Mode) (v w : Voting) (ws : Waits) (u : ℕ) → w.later ≡ v.later → vote_waits true v ≡ ws → vote_waits true w ≡ without_wait u ws → Under s u → Claim mode s true v → Claim mode s true w
    fewer_claim First v w ws u e f g under c = tt
    fewer_claim Second v w ws u e f g under c = λ i on. by i (c i on) (one_of i u)
      where
        by : (i : ℕ) → Under s i ⊎ (Heard s v i ⊎ ((j : ℕ) × Has (vote_waits true v) (i, j))) → (i ≡ u) ⊎ ((i ≡ u) → ⊥) → Under s i ⊎ (Heard s w i ⊎ ((j : ℕ) × Has (vote_waits true w) (i, j)))
        by i (inl x) o = inl x
        by i (inr (inl x)) o = inr (inl (record { later = x.later; has = e ∙ x.has; above = x.above }))
        by i (inr (inr x)) (inl o) = inl (subst (λ (n : ℕ). Under s n) (sym o) under)
        by i (inr (inr x)) (inr off) = inr (inr (x.0, subst (λ (l : Waits). Has l (i, x.0)) (sym g) (has_without u ws i x.0 (subst (λ (l : Waits). Has l (i, x.0)) f x.1) off)))
    fewer_claim Third v w ws u e f g under c = (c.0, λ b. e ∙ c.1 b)

    old_asks : (ws vs : Waits) (y : Msg) (next : ℕ) → ((i j : ℕ) → Has ws (i, j) → j < next) → ((i j : ℕ) → Has vs (i, j) → Has ws (i, j)) → drawn_from next (asked_of layout_id y vs) ≡ []
    old_asks ws vs y next below sub = none_drawn (asked_of layout_id y vs) next (each_has _ (asked_of layout_id y vs) (λ o has. let x = has_asked layout_id y vs o has in subst (λ (z : Out). z.rid < next) (sym x.is) (below x.num x.rid (sub x.num x.rid x.has))))

    enough_less : (ws : Waits) (n u : ℕ) → Enough ws n → nat_lt servers ((n + 1) + (n + 1)) ≡ false → Enough (without_wait u ws) (n + 1)
    enough_less ws n u f few = let a = tally_one (answered (without_wait u ws)) (answered ws) u servers (λ i e. without_answered u ws i e) in let b = f.counted in let c = without_long u ws in let d = f.long in record { counted = omega (arith, a, b); few = few; long = omega (arith, c, d) }

    not_there : (u i rid j : ℕ) → (i ≡ u → ⊥) → (layout_id u ≡ layout_id i) → rid ≡ j → ⊥
    not_there u i rid j off e f = off (sym (layout_num u i e))

    module _ (v : Voting) (stand : r.stand.epoch + 1 ≡ epoch) (vote : Begun v) (claim : Claim mode s true v) (was : ℕ → Type 0) (kept : (i : ℕ) → was i → Heard s v i) (next left rid u : ℕ) where
      promise_by : (ws : Waits) (ps : List Before) (a : Before) (b : Bool) → v.stage ≡ Preparing ws ps → is_majority r (length (a ∷ ps)) ≡ b → Enough ws (length ps) × Each Of ps → Of a → Under s u → ((i j : ℕ) → Has ws (i, j) → j < next) → servers + servers + 1 ≤ left
          → To mode s (layout_id u) rid ws was left next (promised_on r v (without_wait u ws) (a ∷ ps) next b).to
      unfolding reconf_work_asks
      promise_by ws ps a true at e f of under below few =
          let q = value_or (greatest (a ∷ ps)) v.own in
          let y = msg.Accept (next_epoch r) (ballot_of r v.round) q in
          let value = of_value (greatest (a ∷ ps)) v.own (of_greatest (a ∷ ps) (of, f.1)) vote.own in
          let long = asked_long layout_id y (everyone next) in
          let all = all_long r.layouts next in
          record {
            fine = record { me = me; layouts = lay; work = (stand, (record { own = vote.own; stage = (fresh next 0 refl, value); is = vote.is; later = vote.later }, pending_all mode v _ next refl refl claim)) };
            new = asked_of layout_id y (everyone next);
            drawn = all_drawn layout_id y r.layouts next;
            asks = ask_all next y (λ i. ((i, refl), (stand, (own_ballot v.round vote.is, value))));
            few = omega (arith, few, long, all, lay);
            live = λ i j has. inl (y, asked_has layout_id y (everyone next) i j has);
          }
      promise_by ws ps a false at e f of under below few =
          record {
            fine = record { me = me; layouts = lay; work = (stand, (record { own = vote.own; stage = (enough ws ps f.0 e, (of, f.1)); is = vote.is; later = vote.later }, fewer_claim mode v _ ws u refl (ap stage_waits at) refl under claim)) };
            new = [];
            drawn = old_asks ws (without_wait u ws) _ next below (λ i j has. (without_has u ws i j has).0);
            asks = λ o has. absurd has;
            few = omega (arith, few);
            live = λ i j has. let x = without_has u ws i j has in inr (inl ((x.0, not_there u i rid j x.1), λ g. let y = kept i g in record { later = y.later; has = y.has; above = y.above }));
          }
        where
          enough : (ws : Waits) (ps : List Before) → Enough ws (length ps) → is_majority r (length (a ∷ ps)) ≡ false → Enough (without_wait u ws) (length (a ∷ ps))
          enough ws ps f e = subst (λ (n : ℕ). Enough (without_wait u ws) n) (omega arith) (enough_less ws (length ps) u f (ap (λ (n : ℕ). nat_lt servers (n + n)) (omega arith) ∙ minority (length (a ∷ ps)) e))

      accept_by : (ws : Waits) (n : ℕ) (q : Layout) (b : Bool) → v.stage ≡ Accepting ws n q → is_majority r (n + 1) ≡ b → Enough ws n × (q.epoch ≡ epoch) → Under s u → ((i j : ℕ) → Has ws (i, j) → j < next) → servers + 1 ≤ left
          → To mode s (layout_id u) rid ws was left next (accepted_on r v (without_wait u ws) (n + 1) q next b).to
      unfolding reconf_work_asks
      accept_by ws n q true at e f under below few = tells_to (layout_id u) rid ws was left next q stand f.1 few
      accept_by ws n q false at e f under below few =
          record {
            fine = record { me = me; layouts = lay; work = (stand, (record { own = vote.own; stage = (enough_less ws n u f.0 (minority (n + 1) e), f.1); is = vote.is; later = vote.later }, fewer_claim mode v _ ws u refl (ap stage_waits at) refl under claim)) };
            new = [];
            drawn = old_asks ws (without_wait u ws) _ next below (λ i j has. (without_has u ws i j has).0);
            asks = λ o has. absurd has;
            few = omega (arith, few);
            live = λ i j has. let x = without_has u ws i j has in inr (inl ((x.0, not_there u i rid j x.1), λ g. let y = kept i g in record { later = y.later; has = y.has; above = y.above }));
          }

      stage_old : (x : ℕ) (st : Stage) → ((i j : ℕ) → Has (stage_waits st) (i, j) → j < next) → drawn_from next (stage_asks r x st) ≡ []
      stage_old x (Preparing ws ps) below = old_asks ws ws _ next below (λ i j has. has)
      stage_old x (Accepting ws n q) below = old_asks ws ws _ next below (λ i j has. has)

      raised : (a b : ℕ) → b < max a b + 1
      raised a b = grind arith

      raised' : (a b : ℕ) → a < max a b + 1
      raised' a b = grind arith

      low_round : (a b t : ℕ) → a ≤ t → b ≤ t → max a b + 1 ≤ t + 1
      low_round a b t x y = grind (arith, x, y)

      module _ (small : top + 1 < 2 ^ 32) (fits : round ≤ top) (on : on_in m stopped s (layout_id u) ≡ true) (rounds : (Promise s u).round ≤ top) where
        is_less : (a b : ℕ) → nat_lt a b ≡ true → a < b
        is_less a b e = grind arith

        both_left : (a b : Bool) → (a && b) ≡ true → a ≡ true
        both_left a b e = grind arith

        nack_set : (b : Ballot) → b ≡ Promise s u → ballot_lt B b ≡ true → round_set v.later < round_after v b → ((i j : ℕ) → Has (stage_waits v.stage) (i, j) → j < next) → left_in true v.stage ≤ left
            → To mode s (layout_id u) rid (stage_waits v.stage) was left next (sets_if r v (round_after v b) next true).to
        unfolding reconf_work_asks
        nack_set b is above up below few =
            let l : Later = record { round = round_after v b; waits = everyone next } in
            let w : Voting = record v { later = Some l } in
            let all = all_long r.layouts next in
            let low = low_round v.round b.round top (let i = vote.is in omega (arith, i, fits)) (let j = ap (λ (z : Ballot). z.round) is in omega (arith, j, rounds)) in
            let high = raised' v.round b.round in
            let over = raised v.round b.round in
            record {
              fine = record { me = me; layouts = lay; work = (stand, (record { own = vote.own; stage = vote.stage; is = vote.is; later = λ y e. subst (λ (z : Later). LaterFine z × (round < z.round)) (one l y e) (record { all = everyone_waits next; long = omega (arith, all, lay); fits = low }, (let i = vote.is in omega (arith, i, high))) }, claims mode l over claim)) };
              new = [];
              drawn = stage_old v.round v.stage below;
              asks = λ o has. absurd has;
              few = omega (arith, few);
              live = λ i j has. by i j has l (one_of i u) over;
            }
          where
            one : (x y : Later) → Some x ≡ Some y → x ≡ y
            one x y e = cc

            same_round : (i : ℕ) → i ≡ u → b.round ≡ (Promise s i).round
            same_round i o = ap (λ (z : Ballot). z.round) is ∙ ap (λ (n : ℕ). (Promise s n).round) (sym o)

            by : (i j : ℕ) → Has (stage_waits v.stage) (i, j) → (l : Later) → (i ≡ u) ⊎ ((i ≡ u) → ⊥) → b.round < round_after v b
                → ((y : Msg) × Has [] (out (layout_id i) j y)) ⊎ (((Has (stage_waits v.stage) (i, j) × ((layout_id u ≡ layout_id i) → rid ≡ j → ⊥)) × (was i → Heard s (record v { later = Some (record { round = round_after v b; waits = everyone next }) }) i)) ⊎ Heard s (record v { later = Some (record { round = round_after v b; waits = everyone next }) }) i)
            by i j has l (inl o) over = inr (inr (record { later = record { round = round_after v b; waits = everyone next }; has = refl; above = let e = same_round i o in omega (arith, e, over) }))
            by i j has l (inr off) over = inr (inl ((has, not_there u i rid j off), λ g. let x = kept i g in record { later = record { round = round_after v b; waits = everyone next }; has = refl; above = let a = x.above in let e = ap round_set x.has in omega (arith, a, e, up) }))

            claims : (mode : Mode) (l : Later) → b.round < round_after v b → Claim mode s true v → Claim mode s true (record v { later = Some (record { round = round_after v b; waits = everyone next }) })
            claims First l over c = tt
            claims Second l over c = λ i on. at i (c i on)
              where
                at : (i : ℕ) → Under s i ⊎ (Heard s v i ⊎ ((j : ℕ) × Has (stage_waits v.stage) (i, j))) → Under s i ⊎ (Heard s (record v { later = Some (record { round = round_after v b; waits = everyone next }) }) i ⊎ ((j : ℕ) × Has (stage_waits v.stage) (i, j)))
                at i (inl x) = inl x
                at i (inr (inl x)) = inr (inl (record { later = record { round = round_after v b; waits = everyone next }; has = refl; above = let a = x.above in let e = ap round_set x.has in omega (arith, a, e, up) }))
                at i (inr (inr x)) = inr (inr x)
            claims Third l over c = absurd (contrary above (ap (λ (z : Ballot). ballot_lt B z) is ∙ c.0 u on))

        nack_same : (b : Ballot) → b ≡ Promise s u → ballot_lt B b ≡ true → (nat_lt (round_set v.later) (round_after v b) && nat_lt (round_after v b) (2 ^ 32)) ≡ false → ((i j : ℕ) → Has (stage_waits v.stage) (i, j) → j < next) → left_in true v.stage ≤ left
            → To mode s (layout_id u) rid (stage_waits v.stage) was left next (sets_if r v (round_after v b) next false).to
        unfolding reconf_work_asks
        nack_same b is above e below few =
            let low = low_round v.round b.round top (let i = vote.is in omega (arith, i, fits)) (let j = ap (λ (z : Ballot). z.round) is in omega (arith, j, rounds)) in
            let over = raised v.round b.round in
            let x = set_high v.later refl (omega (arith, low, small)) e in
            record {
              fine = record { me = me; layouts = lay; work = (stand, (vote, claim)) };
              new = [];
              drawn = stage_old v.round v.stage below;
              asks = λ o has. absurd has;
              few = omega (arith, few);
              live = λ i j has. by i j has (one_of i u) x over;
            }
          where
            not_set : (a b : ℕ) → b < 2 ^ 32 → (nat_lt a b && nat_lt b (2 ^ 32)) ≡ false → b ≤ a
            not_set a b less f = grind (arith, nat_tests, less, f)

            set_high : (o : Option Later) → v.later ≡ o → round_after v b < 2 ^ 32 → (nat_lt (round_set o) (round_after v b) && nat_lt (round_after v b) (2 ^ 32)) ≡ false → (l : Later) × ((v.later ≡ Some l) × (round_after v b ≤ l.round))
            set_high None is less f = let x = not_set 0 (round_after v b) less f in let y = raised v.round b.round in absurd (omega (arith, x, y))
            set_high (Some l) is less f = (l, (is, not_set l.round (round_after v b) less f))

            same_round : (i : ℕ) → i ≡ u → b.round ≡ (Promise s i).round
            same_round i o = ap (λ (z : Ballot). z.round) is ∙ ap (λ (n : ℕ). (Promise s n).round) (sym o)

            by : (i j : ℕ) → Has (stage_waits v.stage) (i, j) → (i ≡ u) ⊎ ((i ≡ u) → ⊥) → (l : Later) × ((v.later ≡ Some l) × (round_after v b ≤ l.round)) → b.round < round_after v b
                → ((y : Msg) × Has [] (out (layout_id i) j y)) ⊎ (((Has (stage_waits v.stage) (i, j) × ((layout_id u ≡ layout_id i) → rid ≡ j → ⊥)) × (was i → Heard s v i)) ⊎ Heard s v i)
            by i j has (inl o) x over = inr (inr (record { later = x.0; has = x.1.0; above = let e = same_round i o in let le = x.1.1 in omega (arith, e, over, le) }))
            by i j has (inr off) x over = inr (inl ((has, not_there u i rid j off), kept i))

        nack_turn : (b : Ballot) → b ≡ Promise s u → ballot_lt B b ≡ true → ((i j : ℕ) → Has (stage_waits v.stage) (i, j) → j < next) → left_in true v.stage ≤ left
            → To mode s (layout_id u) rid (stage_waits v.stage) was left next (nacked r v b next).to
        nack_turn b is above below few = by (nat_lt (round_set v.later) (round_after v b) && nat_lt (round_after v b) (2 ^ 32)) refl
          where
            by : (c : Bool) → (nat_lt (round_set v.later) (round_after v b) && nat_lt (round_after v b) (2 ^ 32)) ≡ c → To mode s (layout_id u) rid (stage_waits v.stage) was left next (sets_if r v (round_after v b) next c).to
            by true e = nack_set b is above (is_less _ _ (both_left _ _ e)) below few
            by false e = nack_same b is above e below few

        ballot_itself : (b c : Ballot) → b ≡ c → ballot_eq b c ≡ true
        ballot_itself b c e = grind (arith, e)

        num_itself : (a b : ℕ) → a ≡ b → eqb a b ≡ true
        num_itself a b e = grind (arith, e)

        both_true : (a b : Bool) → a ≡ true → b ≡ true → (a && b) ≡ true
        both_true a b e f = grind (arith, e, f)

        of_epoch : (e : ℕ) (a : Before) → e ≡ epoch → Of a → is_of_epoch e a ≡ true
        of_epoch e None is f = refl
        of_epoch e (Some b) is f = num_itself b.1.epoch e (f ∙ sym is)

        voted : (e : ℕ) (b : Ballot) → e ≡ epoch → b ≡ B → same_vote r v.round e b ≡ true
        voted e b is f = both_true _ _ (num_itself e (next_epoch r) (is ∙ sym stand)) (ballot_itself b (ballot_of r v.round) (f ∙ sym (own_ballot v.round vote.is)))

        nack_fed : (e : ℕ) (b : Ballot) → Nacks m h stopped k epoch servers top round s u e b → ((i j : ℕ) → Has (stage_waits v.stage) (i, j) → j < next) → left_in true v.stage ≤ left
            → To mode s (layout_id u) rid (stage_waits v.stage) was left next (if e == next_epoch r then nacked r v b next else Rattle.tg_protocol.specs.Requests.passes next r).to
        nack_fed e b t below few = subst (λ (c : Bool). To mode s (layout_id u) rid (stage_waits v.stage) was left next (if c then nacked r v b next else Rattle.tg_protocol.specs.Requests.passes next r).to) (sym (num_itself e (next_epoch r) (t.0 ∙ sym stand))) (nack_turn b t.1.0 t.1.1 below few)

        prepare_fed : (ws : Waits) (ps : List Before) (x : Reply) → v.stage ≡ Preparing ws ps → PrepareTold m h stopped k epoch servers top round s u x → ((i j : ℕ) → Has (stage_waits v.stage) (i, j) → j < next) → left_in true v.stage ≤ left
            → To mode s (layout_id u) rid (stage_waits v.stage) was left next (stage_feed r v (Preparing ws ps) u x next).to
        prepare_fed ws ps (IsPromise e b a) at t below few =
            let f = subst StageFine at vote.stage in
            subst (λ (c : Bool). To mode s (layout_id u) rid (stage_waits v.stage) was left next (if c then promised_turn r v u a ws ps next else Rattle.tg_protocol.specs.Requests.passes next r).to) (sym (both_true _ _ (voted e b t.0 t.1.0) (of_epoch e a t.0 t.1.1.0)))
            (subst (λ (l : Waits). To mode s (layout_id u) rid l was left next (promised_turn r v u a ws ps next).to) (sym (ap stage_waits at))
            (promise_by ws ps a _ at refl f t.1.1.0 t.1.1.1 (λ i j has. below i j (subst (λ (l : Waits). Has l (i, j)) (sym (ap stage_waits at)) has)) (let g = ap (left_in true) at in omega (arith, g, few))))
        prepare_fed ws ps (IsNack e b) at t below few = nack_fed e b t below few
        prepare_fed ws ps x at t below few = absurd t

        accept_fed : (ws : Waits) (n : ℕ) (q : Layout) (x : Reply) → v.stage ≡ Accepting ws n q → AcceptTold m h stopped k epoch servers top round s u x → ((i j : ℕ) → Has (stage_waits v.stage) (i, j) → j < next) → left_in true v.stage ≤ left
            → To mode s (layout_id u) rid (stage_waits v.stage) was left next (stage_feed r v (Accepting ws n q) u x next).to
        accept_fed ws n q (IsAccepted e b) at t below few =
            let f = subst StageFine at vote.stage in
            subst (λ (c : Bool). To mode s (layout_id u) rid (stage_waits v.stage) was left next (if c then accepted_turn r v u ws n q next else Rattle.tg_protocol.specs.Requests.passes next r).to) (sym (voted e b t.0 t.1.0))
            (subst (λ (l : Waits). To mode s (layout_id u) rid l was left next (accepted_turn r v u ws n q next).to) (sym (ap stage_waits at))
            (accept_by ws n q _ at refl f t.1.1 (λ i j has. below i j (subst (λ (l : Waits). Has l (i, j)) (sym (ap stage_waits at)) has)) (let g = ap (left_in true) at in omega (arith, g, few))))
        accept_fed ws n q (IsNack e b) at t below few = nack_fed e b t below few
        accept_fed ws n q x at t below few = absurd t

        pub stage_turn : (st : Stage) (x : Reply) → v.stage ≡ st → StageTold s u st x → ((i j : ℕ) → Has (stage_waits v.stage) (i, j) → j < next) → left_in true v.stage ≤ left
            → To mode s (layout_id u) rid (stage_waits v.stage) was left next (stage_feed r v st u x next).to
        stage_turn (Preparing ws ps) x at t below few = prepare_fed ws ps x at t below few
        stage_turn (Accepting ws n q) x at t below few = accept_fed ws n q x at t below few

        -- an answer to the round that was set
        pub is_answered : (l : Later) (x : Reply) → v.round ≡ l.round → PrepareTold m h stopped k epoch servers top round s u x → is_answer r l x ≡ true
        is_answered l (IsPromise e b a) same t = both_true _ _ (subst (λ (n : ℕ). same_vote r n e b ≡ true) same (voted e b t.0 t.1.0)) (of_epoch e a t.0 t.1.1.0)
        is_answered l (IsNack e b) same t = num_itself e (next_epoch r) (t.0 ∙ sym stand)
        is_answered l x same t = absurd t

    -- Telling.

    rid_not : (n rid : ℕ) (ws : Waits) (j : ℕ) → has_rid n rid ws ≡ false → Has ws (n, j) → rid ≡ j → ⊥
    rid_not n rid [] j e h f = absurd h
    rid_not n rid (w ∷ ws) j e (inl g) f = first n rid w ws e (ap (λ (v : ℕ × ℕ). v.0) g) (f ∙ ap (λ (v : ℕ × ℕ). v.1) g)
      where
        first : (n rid : ℕ) (w : ℕ × ℕ) (ws : Waits) → has_rid n rid (w ∷ ws) ≡ false → n ≡ w.0 → rid ≡ w.1 → ⊥
        first n rid w ws e f g = grind (arith, e, f, g)
    rid_not n rid (w ∷ ws) j e (inr h) f = rid_not n rid ws j (rest n rid w ws e) h f
      where
        rest : (n rid : ℕ) (w : ℕ × ℕ) (ws : Waits) → has_rid n rid (w ∷ ws) ≡ false → has_rid n rid ws ≡ false
        rest n rid w ws e = grind (arith, e)

    module _ (ws : Waits) (n : ℕ) (q : Layout) (stand : r.stand.epoch + 1 ≡ epoch) (of : q.epoch ≡ epoch) (enough : Enough ws n) (next left rid u : ℕ) (below : (i j : ℕ) → Has ws (i, j) → j < next) (few : 1 ≤ left) where
      heard_by : (b c : Bool) → is_majority r (n + 1) ≡ b → To mode s (layout_id u) rid ws (λ i. ⊥) left next (elim b as (λ _. Next Reconf ReconfEnd) [ true ↦ (adopts r q next c).to | false ↦ (heard_on r (without_wait u ws) (n + 1) q next false).to ])
      unfolding reconf_work_asks
      heard_by true true e = record {
        fine = record { me = me; layouts = lay; work = of };
        new = out (seqr_id q.seq) next (msg.Learn q) ∷ [];
        drawn = new_one next;
        asks = λ o has. learn_ok o has;
        few = omega (arith, few);
        live = λ i j has. absurd has;
      }
        where
          new_one : (next : ℕ) → drawn_from next (out (seqr_id q.seq) next (msg.Learn q) ∷ []) ≡ out (seqr_id q.seq) next (msg.Learn q) ∷ []
          new_one next = grind arith

          learn_ok : (o : Out) → Has (out (seqr_id q.seq) next (msg.Learn q) ∷ []) o → AskOk m h stopped k epoch servers top round o.to o.msg
          learn_ok o (inl f) = subst (λ (z : Out). AskOk m h stopped k epoch servers top round z.to z.msg) (sym f) ((q.seq, refl), of)
          learn_ok o (inr f) = absurd f
      heard_by true false e = tt
      heard_by false c e = record {
        fine = record { me = me; layouts = lay; work = (stand, (of, enough_less ws n u enough (minority (n + 1) e))) };
        new = [];
        drawn = old_asks ws (without_wait u ws) (msg.Decided q) next below (λ i j has. (without_has u ws i j has).0);
        asks = λ o has. absurd has;
        few = omega (arith, few);
        live = λ i j has. let x = without_has u ws i j has in inr (inl ((x.0, not_there u i rid j x.1), λ g. absurd g));
      }

      -- a server has told the layout
      heard_turn : (b : Bool) → is_majority r (n + 1) ≡ b → To mode s (layout_id u) rid ws (λ i. ⊥) left next (heard_on r (without_wait u ws) (n + 1) q next b).to
      heard_turn true e = heard_by true (eqb q.by r.me) e
      heard_turn false e = heard_by false false e

      newer_turn : (p : Layout) (b : Bool) → r.work ≡ Telling ws n q → has_rid u rid ws ≡ false → To mode s (layout_id u) rid ws (λ i. ⊥) left next (elim b as (λ _. Next Reconf ReconfEnd) [ true ↦ (own_decided r (Telling ws n q) p next).to | false ↦ (on_newer r p next false).to ])
      unfolding reconf_work_asks
      newer_turn p false at off = tt
      newer_turn p true at off = record {
        fine = record { me = me; layouts = lay; work = subst (λ (w : ReconfWork). WorkFine mode s true r.stand w) (sym at) (stand, (of, enough)) };
        new = [];
        drawn = subst (λ (w : ReconfWork). drawn_from next (reconf_work_asks r w) ≡ []) (sym at) (old_asks ws ws (msg.Decided q) next below (λ i j has. has));
        asks = λ o has. absurd has;
        few = subst (λ (w : ReconfWork). 0 + left_of true w ≤ left) (sym at) (omega (arith, few));
        live = λ i j has. inr (inl ((subst (λ (w : ReconfWork). Has (live true w) (i, j)) at has, λ e f. rid_not u rid ws j off (subst (λ (x : ℕ). Has ws (x, j)) (sym (layout_num u i e)) (subst (λ (w : ReconfWork). Has (live true w) (i, j)) at has)) f), λ g. absurd g));
      }

      -- a later layout is told, of this epoch
      pub told_turn : (p : Layout) → r.work ≡ Telling ws n q → p.epoch ≡ epoch → To mode s (layout_id u) rid ws (λ i. ⊥) left next (reconf_latest r (Telling ws n q) u rid p next).to
      unfolding reconf_latest
      told_turn p at is = by (has_rid u rid ws) refl
        where
          same_epoch : (eqb p.epoch (next_epoch r)) ≡ true
          same_epoch = num_same p.epoch (next_epoch r) (is ∙ sym stand)
            where
              num_same : (a b : ℕ) → a ≡ b → eqb a b ≡ true
              num_same a b e = grind (arith, e)

          by : (b : Bool) → has_rid u rid ws ≡ b → To mode s (layout_id u) rid ws (λ i. ⊥) left next (if b && (p.epoch == next_epoch r) then heard r u ws n q next else on_newer r p next (is_own r p)).to
          by true e = subst (λ (c : Bool). To mode s (layout_id u) rid ws (λ i. ⊥) left next (if c then heard r u ws n q next else on_newer r p next (is_own r p)).to) (sym same_epoch) (heard_turn (is_majority r (n + 1)) refl)
          by false e = newer (is_own r p) e
            where
              newer : (b : Bool) → has_rid u rid ws ≡ false → To mode s (layout_id u) rid ws (λ i. ⊥) left next (on_newer r p next b).to
              newer true off = subst (λ (w : ReconfWork). To mode s (layout_id u) rid ws (λ i. ⊥) left next (own_decided r w p next).to) (sym at) (newer_turn p true at off)
              newer false off = tt

    -- while it votes
    pub newer_told : (v : Voting) (p : Layout) (a : NodeId) (rid n : ℕ) (old : Waits) (was : ℕ → Type 0) (left next : ℕ) → r.work ≡ Agreeing v → r.stand.epoch + 1 ≡ epoch → p.epoch ≡ epoch → servers + 1 ≤ left → To mode s a rid old was left next (reconf_latest r (Agreeing v) n rid p next).to
    unfolding reconf_latest
    newer_told v p a rid n old was left next at stand of few = by (is_own r p)
      where
        by : (b : Bool) → To mode s a rid old was left next (on_newer r p next b).to
        by true = subst (λ (w : ReconfWork). To mode s a rid old was left next (own_decided r w p next).to) (sym at) (tells_to a rid old was left next p stand of few)
        by false = tt

    -- The new sequencer's answers.
    pub start_turn : (i : ℕ) (a : NodeId) (n rid : ℕ) (x : Reply) (left next : ℕ) → r.work ≡ Starting i → r.stand.epoch ≡ epoch → i < next → LearnTold m h stopped k epoch servers top round x → To mode s a rid [] (λ i. ⊥) left next (reconf_feed r (Starting i) n rid x next).to
    unfolding reconf_feed reconf_work_asks
    start_turn i a n rid x left next at stand less told = by x told
      where
        waits_on : Onward mode s a rid [] (λ i. ⊥) left next r
        waits_on = record {
          fine = record { me = me; layouts = lay; work = subst (λ (w : ReconfWork). WorkFine mode s true r.stand w) (sym at) stand };
          new = [];
          drawn = subst (λ (w : ReconfWork). drawn_from next (reconf_work_asks r w) ≡ []) (sym at) (none_drawn (out (seqr_id r.stand.seq) i (msg.Learn r.stand) ∷ []) next (less, tt));
          asks = λ o has. absurd has;
          few = subst (λ (w : ReconfWork). 0 + left_of true w ≤ left) (sym at) (omega arith);
          live = λ j l has. absurd (subst (λ (w : ReconfWork). Has (live true w) (j, l)) at has);
        }

        ended : (b : Bool) → To mode s a rid [] (λ i. ⊥) left next (started_if r next b).to
        ended true = tt
        ended false = waits_on

        not_later : (e : ℕ) → e ≤ epoch → nat_lt r.stand.epoch e ≡ false
        not_later e le = none e r.stand.epoch (omega (arith, le, stand))
          where
            none : (x y : ℕ) → x ≤ y → nat_lt y x ≡ false
            none x y le = grind (arith, nat_tests, le)

        by : (x : Reply) → LearnTold m h stopped k epoch servers top round x → To mode s a rid [] (λ i. ⊥) left next (reconf_feed r (Starting i) n rid x next).to
        by (IsTail t ls) told = ended _
        by (IsOldEpoch e) told = subst (λ (b : Bool). To mode s a rid [] (λ i. ⊥) left next (learns_if b r next).to) (sym (not_later e told)) waits_on
        by x told = waits_on
