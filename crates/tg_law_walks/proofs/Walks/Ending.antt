-- Where a step ends a command's walks, what they have found is exactly the log's.
use Rattle.std.proofs.Common.{◌≡◌, ◌⊎◌, ℕ, ◌≤◌, List, [], Bool, true, refl, subst, inl, inr, arith, filter, Option, Some, None}
use Rattle.std.specs.Prelude.{nat_lt, nat_le, ◌&&◌, Contains}
use Rattle.tg_base.specs.declared.ids.NodeId.{NodeId}
use Rattle.tg_base.specs.declared.ids.Oid.{Oid}
use Rattle.tg_kind.specs.Meaning.{Meaning}
use Rattle.tg_model.specs.Kinds.{EventOf}
use Rattle.tg_protocol.specs.Replies.{Reply, reply}
use Rattle.tg_protocol.specs.Logs.{Log, members}
use Rattle.tg_protocol.specs.Checkpoints.{trim_of}
use Rattle.tg_protocol.specs.Clients.{Hand, Work, Client}
use Rattle.tg_protocol.specs.ClientSteps.{task_in}
use Rattle.tg_protocol.specs.Worlds.{World, client, log}
use Rattle.tg_protocol.specs.Walked.{Walked, work_end, walked_in, from_trim, walked_from, positions_found}
use Rattle.tg_law_steps.proofs.Reaches.{Reached, reach_delivered}
use Rattle.tg_law_replies.proofs.Replies.Reached.{reach_event}
use Rattle.tg_law_walks.specs.Walks.Streams.{IsByPosition, AreLinked}
use Rattle.tg_law_walks.specs.Walks.Rounds.{Round, round, HasAll, IsRound, IsAtTask, IsAtWork}
use Rattle.tg_law_walks.specs.Walks.Laws.{IsFound}
use Rattle.tg_law_walks.specs.Walks.Ends.{IsExactIn, WalksExact, HandEndsAs, WorkEndsAs, StepEndsAs, StepsExact, SyncsExactWhere}
use Rattle.tg_law_walks.proofs.Walks.Members.{Has, has_contained, contained_has, and_both, both_and, of_le, of_lt}
use Rattle.tg_law_walks.proofs.Walks.Positions.{rises_filter, has_filter, filter_passes}
use Rattle.tg_law_walks.proofs.Walks.Stretches.{has_stretch, stretch_has}
use Rattle.tg_law_walks.proofs.Walks.Rising.{same_rising, filter_has, stretch_rises, stretch_from}
use Rattle.tg_law_walks.proofs.Walks.Syncs.{logs_by_position}
use Rattle.tg_law_walks.proofs.Walks.Commands.{Fits, way}

module _ (m : Meaning) (l : Log) (byp : IsByPosition l) where
  -- Where all streams are walked.

  module _ (x : Walked m) (o : Oid) (h : IsRound m l (round m x.client x.work x.client.cells) []) (walked : Contains x.work.oids o) where
    abbrev r : Round m
    r = round m x.client x.work x.client.cells

    abbrev tail : ℕ
    tail = x.work.tail

    abbrev found : List ℕ
    found = positions_found m x o

    all_from : (t : Option ℕ) → trim_of x.work.trims o ≡ t → HasAll m l r o (from_trim m x.work.lo t)
    all_from None e = by (h.walked o walked)
      where
        by : Contains [] o ⊎ (trim_of x.work.trims o ≡ None → HasAll m l r o x.work.lo) → HasAll m l r o x.work.lo
        by (inl i) = absurd (has_contained [] o i)
        by (inr k) = k e
    all_from (Some b) e = (h.trimmed o b e).all

    low : ℕ
    low = walked_from m x o

    abbrev inside : ℕ → Bool
    inside p = nat_le (walked_from m x o) p && nat_lt p tail

    there : (q : ℕ) → Has (filter inside found) q → Has (members l o (walked_from m x o) tail) q
    there q i =
        let k = h.only o q (contained_has found q (filter_has inside found q i)) in
        let t = filter_passes inside found q i in
        has_stretch l o (walked_from m x o) tail q k.1 (le_of (walked_from m x o) q (and_both (nat_le (walked_from m x o) q) (nat_lt q tail) t).0) k.0
      where
        le_of : (a b : ℕ) → nat_le a b ≡ true → a ≤ b
        le_of a b e = grind arith

    here : (q : ℕ) → Has (members l o (walked_from m x o) tail) q → Has (filter inside found) q
    here q i =
        let k = stretch_has l o (walked_from m x o) tail q byp i in
        let from = stretch_from l o (walked_from m x o) tail q i in
        let a = all_from (trim_of x.work.trims o) refl q from k.0 k.1 in
        has_filter inside found q (has_contained found q a.0) (both_and (nat_le (walked_from m x o) q) (nat_lt q tail) (of_le (walked_from m x o) q from) (of_lt q tail k.0))

    pub exact_in : IsExactIn m l x o
    exact_in = same_rising 0 (filter inside found) (members l o (walked_from m x o) tail) (rises_filter inside 0 found (h.each o)) (stretch_rises l o (walked_from m x o) tail byp) there here

pub rounds_exact : (m : Meaning) → WalksExact m
rounds_exact m l x o byp h i = exact_in m l byp x o h i

-- A step.

module _ (m : Meaning) (l : Log) (byp : IsByPosition l) (linked : AreLinked l) where
  -- what a step ends with, if it does
  abbrev Found : Option (Walked m) → Type 0
  Found end = Reached m (Fits m l byp linked) (IsFound m l) (way m l byp linked) (λ c w h. h) end

  work_found : (c : Client m) (from : NodeId) (rid : ℕ) (x : Reply) → IsAtWork m l c c.work → WorkEndsAs m l c c.work from rid x → Found (work_end m c c.work from rid x)
  work_found c from rid x h k =
      reach_delivered m (Fits m l byp linked) (IsFound m l) (way m l byp linked) (λ d v z. z) c from rid x
      (λ w t has doing a other. (
        subst (λ (d : Hand m). IsAtTask m l c w (task_in m d)) doing (subst (λ (o : Option (Work m)). IsAtWork m l c o) has h),
        subst (λ (d : Hand m). HandEndsAs m l c w d from rid x) doing (subst (λ (o : Option (Work m)). WorkEndsAs m l c o from rid x) has k) a,
      ))
      (λ w q has is new. subst (λ (o : Option (Work m)). IsAtWork m l c o) has h)

  step_found : (w : World m) (e : EventOf m) (k : ℕ) → IsAtWork m l (client m w k) (client m w k).work → StepEndsAs m l w e k → Found (walked_in m w e k)
  step_found w e k h f =
      reach_event m Found tt w e k (λ i p at sent to on. work_found (client m w k) p.from p.rid (reply p.msg) h (subst (λ (z : EventOf m). StepEndsAs m l w z k) at f p sent to))

pub steps_exact : (m : Meaning) → StepsExact m
steps_exact m l w e k x o byp linked h f is i = rounds_exact m l x o byp (subst (Found m l byp linked) is (step_found m l byp linked w e k h f)) i

pub syncs_exact_where : (m : Meaning) → SyncsExactWhere m
syncs_exact_where m w e f later l k x o is i =
    let t = f later l k in
    steps_exact m (log m later) w e k x o (logs_by_position m later) t.linked t.work t.ends is i
