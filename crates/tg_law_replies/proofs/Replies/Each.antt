-- A client's turn whose walks end with what is known of their ends.
use Rattle.std.proofs.Common.{◌≡◌, ℕ, List, [], true, Some}
use Rattle.std.specs.Prelude.{◌&&◌, nat_lt}
use Rattle.tg_base.specs.Layouts.{Layout}
use Rattle.tg_base.specs.Orders.{node_eq}
use Rattle.tg_base.specs.declared.ids.NodeId.{NodeId}
use Rattle.tg_base.specs.declared.ids.Oid.{Oid}
use Rattle.tg_kind.specs.Meaning.{Meaning}
use Rattle.tg_protocol.specs.Words.{layout_id}
use Rattle.tg_protocol.specs.Requests.{awaits}
use Rattle.tg_protocol.specs.Replies.{Reply, IsLatest}
use Rattle.tg_protocol.specs.Views.{Entries}
use Rattle.tg_protocol.specs.Clients.{Task, Doing, Work, Client}
use Rattle.tg_protocol.specs.Answers.{Moved, moved, walked}
use Rattle.tg_protocol.specs.ClientSteps.{task_in, task_awaited, feed}
use Rattle.tg_law_steps.proofs.Places.{Place, Feeds, Newer, Walks}
use Rattle.tg_law_steps.proofs.Ways.{Way, AllWalked, HasPlayed, LooksBack, IsRescue}
use Rattle.tg_law_steps.proofs.Ends.{End}
use Rattle.tg_law_steps.proofs.Along.{NoLatest}
use Rattle.tg_law_steps.proofs.Along as along
use Rattle.tg_law_replies.proofs.Replies.Ways.{EachAt, each_way, each_fed, each_newer}
use Rattle.tg_law_replies.specs.Replies.Steps.{EachDelivery}

module _ (m : Meaning) (objects : List Oid) (es : Entries) (Q : Client m → Work m → Type 0) (P : Client m → Work m → Place m → Type 0) (Good : Moved m → Type 0) (ends : (c : Client m) (w : Work m) (p : Place m) (x : Moved m) → End m c w p x → P c w p → Good x)
    (way : (c : Client m) (w : Work m) (p : Place m) (d : Client m) (v : Work m) (q : Place m) → Way m c w p d v q → P c w p → P d v q)
    (walked' : (c : Client m) (w : Work m) (d : Client m) (q : Place m) → AllWalked m c w d q → P c w (Walks []) → Q c w → P d w q) where
  record With (c : Client m) (w : Work m) (p : Place m) : Type 0 where
    pub holds : P c w p
    pub each : EachAt m objects es Q c w p

  both_way : (c : Client m) (w : Work m) (p : Place m) (d : Client m) (v : Work m) (q : Place m) → Way m c w p d v q → With c w p → With d v q
  both_way c w p d v q x h = record { holds = way c w p d v q x h.holds; each = each_way m objects es Q c w p d v q x h.each }

  -- where all streams are walked Q holds too
  abbrev Ended : Client m → Work m → Place m → Type 0
  Ended c w (Walks os) = P c w (Walks os) × Q c w
  Ended c w p = P c w p

  holds_ended : (c : Client m) (w : Work m) (p : Place m) → Ended c w p → P c w p
  holds_ended c w (Walks os) h = h.0
  holds_ended c w p h = h

  walked_ended : (c : Client m) (w : Work m) (d : Client m) (q : Place m) → AllWalked m c w d q → Ended c w (Walks []) → Ended d w q
  walked_ended c w _ _ (HasPlayed k) h = walked' c w _ _ (HasPlayed k) h.0 h.1
  walked_ended c w _ _ (LooksBack at o q of) h = walked' c w _ _ (LooksBack at o q of) h.0 h.1
  walked_ended c w _ _ (IsRescue at of) h = walked' c w _ _ (IsRescue at of) h.0 h.1

  over : (c : Client m) (w : Work m) → With c w (Walks []) → Good (walked m c w)
  over c w h = along.over_walks m Ended Good (λ d v p x e k. ends d v p x e (holds_ended d v p k)) walked_ended c w (h.holds, h.each)

  pub delivered : (c : Client m) (from : NodeId) (rid : ℕ) (x : Reply) → Good (moved m c [])
      → ((w : Work m) (t : Task m) → c.work ≡ Some w → w.hand ≡ Doing t → awaits (task_awaited m c.stand t) from rid ≡ true → NoLatest x → P c w (Feeds t from.num rid x))
      → ((w : Work m) (q : Layout) → c.work ≡ Some w → x ≡ IsLatest q → (node_eq from (layout_id from.num) && nat_lt c.stand.epoch q.epoch) ≡ true → P c w (Newer (task_in m w.hand) from.num rid q))
      → EachDelivery m objects es Q c c.work from rid x → Good (feed m c c.work from rid x)
  delivered c from rid x still feeds newer each =
      along.delivered m With Good (λ d v p y e k. ends d v p y e k.holds) both_way over c from rid x still
      (λ w t has doing a other. record { holds = feeds w t has doing a other; each = each_fed m objects es Q c from rid x each w t has doing a other })
      (λ w q has is new. record { holds = newer w q has is new; each = each_newer m objects es Q c from rid x each w q has is new })
