-- Along a delivery's walks: the layout in which the client stands, and of what holds at each of their ends.
use Rattle.std.proofs.Common.{ℕ, ◌<◌, ◌≤◌, List, arith}
use Rattle.tg_base.specs.declared.ids.NodeId.{NodeId}
use Rattle.tg_base.specs.declared.ids.Oid.{Oid}
use Rattle.tg_kind.specs.Meaning.{Meaning}
use Rattle.tg_protocol.specs.Replies.{Reply}
use Rattle.tg_protocol.specs.Views.{Entries}
use Rattle.tg_protocol.specs.Clients.{Work, Client}
use Rattle.tg_law_replies.proofs.Replies.Reached.{each_delivered}
use Rattle.tg_law_replies.proofs.Replies.Ways.{EachAt, each_way, each_fed, each_newer}
use Rattle.tg_law_replies.specs.Replies.Steps.{EachDelivery}
use Rattle.tg_law_steps.proofs.Places.{Place, Newer}
use Rattle.tg_law_steps.proofs.Ways.{Way, NewerSync, NewerWalk, NewerAppend, NewerTrims, NewerCopy, NewerReconf}

-- On the ways to where all streams are walked, a client stands in no older layout.
module _ (m : Meaning) (n : ℕ) where
  abbrev pub Since : Client m → Place m → Type 0
  Since c (Newer t i rid q) = (n ≤ c.stand.epoch) × (c.stand.epoch < q.epoch)
  Since c p = n ≤ c.stand.epoch

  pub since_way : (c : Client m) (w : Work m) (p : Place m) (d : Client m) (v : Work m) (q : Place m) → Way m c w p d v q → Since c p → Since d q
  since_way c w _ _ _ _ (NewerSync s i rid q) k = omega (arith, k)
  since_way c w _ _ _ _ (NewerWalk y os i rid q) k = omega (arith, k)
  since_way c w _ _ _ _ (NewerAppend a y i rid q) k = omega (arith, k)
  since_way c w _ _ _ _ (NewerTrims t i rid q) k = omega (arith, k)
  since_way c w _ _ _ _ (NewerCopy x i rid q e) k = omega (arith, k)
  since_way c w _ _ _ _ (NewerReconf r i rid q) k = k.0
  since_way c w _ _ _ _ x k = k

-- What holds at each of those ends, as far as another thing does, whatever entries it speaks of.
module _ (m : Meaning) (objects : List Oid) (es fs : Entries) (P Q : Client m → Work m → Type 0) (more : (c : Client m) (w : Work m) → P c w → Q c w) where
  pub each_more : (c : Client m) (from : NodeId) (rid : ℕ) (x : Reply) → EachDelivery m objects es P c c.work from rid x → EachDelivery m objects fs Q c c.work from rid x
  each_more c from rid x e = each_delivered m objects fs (EachAt m objects es P) Q (each_way m objects es P) more c from rid x (λ w t has doing a other. each_fed m objects es P c from rid x e w t has doing a other) (λ w q has is newer. each_newer m objects es P c from rid x e w q has is newer)
