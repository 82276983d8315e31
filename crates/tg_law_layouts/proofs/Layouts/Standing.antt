-- Over all worlds, every layout that a node stands at, tells or learns is the first one or decided.
use Rattle.std.proofs.Common.{◌≡◌, ◌⊎◌, ℕ, ◌+◌, ◌<◌, List, [], ◌∷◌, ◌++◌, true, false, ◌&&◌, sym, subst, inl, inr, arith, Some, None, Option}
use Rattle.std.specs.Prelude.{nat_lt}
use Rattle.tg_base.specs.Layouts.{Layout}
use Rattle.tg_base.specs.declared.ids.Ballot.{Ballot}
use Rattle.tg_base.specs.declared.ids.NodeId.{NodeId}
use Rattle.tg_base.specs.declared.msg.Msg.{Msg}
use Rattle.tg_base.specs.declared.msg.Msg.TheVariants as msg
use Rattle.tg_base.specs.declared.packet.Out.{Out}
use Rattle.tg_base.specs.declared.packet.Packet.{Packet}
use Rattle.tg_kind.specs.Meaning.{Meaning}
use Rattle.tg_base.specs.Orders.{node_eq}
use Rattle.tg_protocol.specs.Words.{unit_id, layout_id, seqr_id}
use Rattle.tg_protocol.specs.Logs.{has_accepted, by_majority, is_acceptance}
use Rattle.tg_protocol.specs.Requests.{out, Waits, asked_of}
use Rattle.tg_protocol.specs.Trimming.{has_stripe}
use Rattle.tg_protocol.specs.Reconfiguring.{ReconfWork, SealingSpare, LookingSpare, Sealing, LookingAgain, Agreeing, Telling, Starting, Reconf, Stage, Preparing, Accepting, Later, Voting, next_epoch, ballot_of, stage_asks, set_asks, later_asks, reconf_work_asks}
use Rattle.tg_law_layouts.proofs.Moves.Members.{Has, has_either, has_map, found}
use Rattle.tg_law_layouts.proofs.Agreement.Counts.{count, majorities_meet}
use Rattle.tg_law_layouts.proofs.Agreement.Facts.{Proposed, proposed_grows, Accepts as Acceptance}
use Rattle.tg_law_layouts.proofs.Agreement.Proposers.{StageOk, WorkOk, answered}
use Rattle.tg_law_layouts.proofs.Moves.Reconfs.{join_plain}
use Rattle.tg_law_layouts.proofs.Moves.Seqrs.{tells_layout}
use Rattle.tg_law_layouts.proofs.Layouts.Layouts.{accepted_still, acceptances_more, most_more, lt_true}
use Rattle.tg_law_layouts.proofs.Layouts.Pax.{OfEpoch, WorkerOk}
use Rattle.tg_law_layouts.proofs.Layouts.Tellings.{Won, Counted, WorkKnown, WorkWinner, StageKnown, acceptances_count, count_more, both_and, and_both}

-- What is known.

abbrev pub IsKnown : ℕ → Layout → List Packet → Layout → Type 0
IsKnown n first ps q = (q ≡ first) ⊎ Won n ps q.epoch q

module _ (n : ℕ) (first : Layout) (ps qs : List Packet) (more : (x : Packet) → Has ps x → Has qs x) where
  won_grows : (e : ℕ) (q : Layout) → Won n ps e q → Won n qs e q
  won_grows e q w = record {
    ballot = w.ballot;
    proposed = proposed_grows e ps qs more w.ballot q w.proposed;
    most = lt_true n _ (most_more n _ _ w.most (acceptances_more ps qs e w.ballot n more));
  }

  pub known_grows : (q : Layout) → IsKnown n first ps q → IsKnown n first qs q
  known_grows q (inl e) = inl e
  known_grows q (inr w) = inr (won_grows q.epoch q w)

  counted_grows : (e : ℕ) (b : Ballot) (ws : Waits) (k : ℕ) → Counted n ps e b ws k → Counted n qs e b ws k
  counted_grows e b ws k c = record {
    enough =
        let old = c.enough in
        let up = count_more (λ l. answered ws l && has_accepted ps e b l) (λ l. answered ws l && has_accepted qs e b l)
        (λ l h. let t = both_and (answered ws l) (has_accepted ps e b l) h in and_both _ _ t.0 (accepted_still ps qs e b l more t.1)) n in
        omega (arith, old, up);
  }

  pub work_grows : (r : Reconf) (w : ReconfWork) → WorkKnown n ps (IsKnown n first ps) r w → WorkKnown n qs (IsKnown n first qs) r w
  work_grows r (Agreeing v) k = by v.stage k
    where
      by : (s : Stage) → StageKnown n ps (IsKnown n first ps) r v.round s → StageKnown n qs (IsKnown n first qs) r v.round s
      by (Preparing ws hs) k = tt
      by (Accepting ws i q) k = counted_grows _ _ ws i k
  work_grows r (Telling ws h q) k = known_grows q k
  work_grows r (SealingSpare i) k = tt
  work_grows r (LookingSpare i) k = tt
  work_grows r (Sealing ws acks) k = tt
  work_grows r (LookingAgain i acks) k = tt
  work_grows r (Starting i) k = tt

-- What a majority accepted was proposed.

from_layout : (a : NodeId) (l : ℕ) → node_eq a (layout_id l) ≡ true → a ≡ layout_id l
unfolding node_eq
from_layout a l h = grind arith

is_accepted : (x : Msg) (e : ℕ) (b : Ballot) → is_acceptance e b x ≡ true → x ≡ msg.Accepted e b
is_accepted x e b h = grind arith

pub accepted_of : (ps : List Packet) (e : ℕ) (b : Ballot) (l : ℕ) → has_accepted ps e b l ≡ true → Acceptance e ps l b
accepted_of ps e b l h =
    let p = found (λ (x : Packet). node_eq x.from (layout_id l) && is_acceptance e b x.msg) ps h in
    let t = both_and (node_eq p.it.from (layout_id l)) (is_acceptance e b p.it.msg) p.passes in
    record { packet = p.it; sent = p.has; from = from_layout p.it.from l t.0; is = is_accepted p.it.msg e b t.1 }

-- a server that has accepted a ballot was sent a layout with it
pub record WasProposed (n : ℕ) (ps : List Packet) (e l : ℕ) (b : Ballot) : Type 0 where
  pub below : l < n
  pub layout : Layout
  pub proposed : Proposed e ps b layout

less_of : (n k : ℕ) → nat_lt n (k + k) ≡ true → n < k + k
less_of n k h = grind arith

module _ (n : ℕ) (first : Layout) (ps : List Packet) (accepts : (e l : ℕ) (b : Ballot) → Acceptance e ps l b → WasProposed n ps e l b) where
  pub some_proposed : (e : ℕ) (b : Ballot) → by_majority ps n e b ≡ true → (q : Layout) × Proposed e ps b q
  some_proposed e b h =
      let less : n < count (has_accepted ps e b) n + count (has_accepted ps e b) n = subst (λ k. n < k + k) (acceptances_count ps e b n) (less_of n _ h) in
      let meet = majorities_meet (has_accepted ps e b) (has_accepted ps e b) n less in
      let w = accepts e meet.at b (accepted_of ps e b meet.at meet.first) in
      (w.layout, w.proposed)

  pub winner : (m : Meaning) (k : ℕ) (p : Layout) (r : Reconf) → WorkerOk m n k ps p r → WorkWinner n ps (IsKnown n first ps) r r.work
  winner m k p r o = by r.work o.ok.work
    where
      at : (v : Voting) (s : Stage) → StageOk (r.stand.epoch + 1) n k (OfEpoch (r.stand.epoch + 1)) ps v.round s → WorkWinner n ps (IsKnown n first ps) r (Agreeing (record v { stage = s }))
      at v (Preparing ws hs) h = tt
      at v (Accepting ws i q) h = λ most.
          let z = some_proposed (next_epoch r) (ballot_of r v.round) most in
          let same = own z.0 (h.below (ballot_of r v.round) z.0 z.1 o.ok.me) in
          inr (subst (λ (e : ℕ). Won n ps e q) (sym h.allowed) (record { ballot = ballot_of r v.round; proposed = subst (λ (y : Layout). Proposed (next_epoch r) ps (ballot_of r v.round) y) same z.1; most = most }))
        where
          own : (y : Layout) → (v.round < v.round) ⊎ ((v.round ≡ v.round) × (y ≡ q)) → y ≡ q
          own y (inl less) = absurd (omega (arith, less))
          own y (inr e) = e.1

      by : (w : ReconfWork) → WorkOk r.stand r.change n k (OfEpoch (r.stand.epoch + 1)) ps r w → WorkWinner n ps (IsKnown n first ps) r w
      by (Agreeing v) h = at v v.stage h.1.stage
      by (Telling ws i q) h = tt
      by (Starting i) h = tt
      by (SealingSpare i) h = tt
      by (LookingSpare i) h = tt
      by (Sealing ws acks) h = tt
      by (LookingAgain i acks) h = tt

-- What a message tells of layouts is known.

module _ (K : Layout → Type 0) where
  abbrev pub Says : Msg → Type 0
  Says (msg.Latest q) = K q
  Says (msg.Decided q) = K q
  Says (msg.Learn q) = K q
  Says x = Unit {0}

  abbrev pub AllSay : List Out → Type 0
  AllSay os = (o : Out) → Has os o → Says o.msg

  pub none_say : AllSay []
  none_say o h = absurd h

  pub one_says : (to : NodeId) (r : ℕ) (x : Msg) → Says x → AllSay (out to r x ∷ [])
  one_says to r x k o (inl e) = subst (λ (y : Out). Says y.msg) (sym e) k
  one_says to r x k o (inr h) = absurd h

  pub asked_says : (name : ℕ → NodeId) (x : Msg) (ws : Waits) → Says x → AllSay (asked_of name x ws)
  asked_says name x ws k o h = let i = has_map (λ (w : ℕ × ℕ). out (name w.0) w.1 x) ws o h in subst (λ (y : Out). Says y.msg) (sym i.is) k

  pub both_say : (xs ys : List Out) → AllSay xs → AllSay ys → AllSay (xs ++ ys)
  both_say xs ys f g o h = by (has_either xs ys o h)
    where
      by : Has xs o ⊎ Has ys o → Says o.msg
      by (inl x) = f o x
      by (inr x) = g o x

  stage_say : (r : Reconf) (round : ℕ) (s : Stage) → AllSay (stage_asks r round s)
  stage_say r round (Preparing ws hs) = asked_says layout_id (msg.Prepare (next_epoch r) (ballot_of r round)) ws tt
  stage_say r round (Accepting ws n q) = asked_says layout_id (msg.Accept (next_epoch r) (ballot_of r round) q) ws tt

  set_say : (r : Reconf) (l : Option Later) → AllSay (set_asks r l)
  set_say r None = none_say
  set_say r (Some l) = asked_says layout_id (msg.Prepare (next_epoch r) (ballot_of r l.round)) l.waits tt

  pub reconf_say : (n : ℕ) (ps : List Packet) (r : Reconf) (w : ReconfWork) → K r.stand → WorkKnown n ps K r w → AllSay (reconf_work_asks r w ++ later_asks r w)
  unfolding reconf_work_asks
  reconf_say n ps r (SealingSpare i) s k = both_say _ [] (join_plain AllSay r.change.join _ none_say (λ j. one_says (unit_id j.unit) i (msg.Seal r.stand.epoch) tt)) none_say
  reconf_say n ps r (LookingSpare i) s k = both_say _ [] (join_plain AllSay r.change.join _ none_say (λ j. one_says (unit_id j.unit) i (has_stripe r.stand.epoch r.stand j.range j.stripe) tt)) none_say
  reconf_say n ps r (Sealing ws acks) s k = both_say _ [] (asked_says unit_id (msg.Seal (next_epoch r)) ws tt) none_say
  reconf_say n ps r (LookingAgain i acks) s k = both_say _ [] (join_plain AllSay r.change.join _ none_say (λ j. one_says (unit_id j.unit) i (has_stripe (next_epoch r) r.stand j.range j.stripe) tt)) none_say
  reconf_say n ps r (Agreeing v) s k = both_say _ _ (stage_say r v.round v.stage) (set_say r v.later)
  reconf_say n ps r (Telling ws h q) s k = both_say _ [] (asked_says layout_id (msg.Decided q) ws k) none_say
  reconf_say n ps r (Starting i) s k = one_says (seqr_id r.stand.seq) i (msg.Learn r.stand) s

  pub quiet_says : (x : Msg) → tells_layout x ≡ false → Says x
  unfolding tells_layout
  quiet_says (msg.Latest q) h = absurd (cc)
  quiet_says (msg.Decided q) h = absurd (cc)
  quiet_says (msg.Learn q) h = absurd (cc)
  quiet_says x h = tt
