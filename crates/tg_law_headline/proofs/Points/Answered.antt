-- An ask that waits is answered at the tail up to which its client has walked.
use Rattle.std.proofs.Common.{◌≡◌, ℕ, List, refl, sym, ◌∙◌, subst, inl, Option, Some}
use Rattle.tg_base.specs.declared.ids.NodeId.{NodeId}
use Rattle.tg_base.specs.declared.ids.Oid.{Oid}
use Rattle.tg_kind.specs.Meaning.{Meaning}
use Rattle.tg_protocol.specs.Replies.{Reply}
use Rattle.tg_protocol.specs.Transactions.{Tx}
use Rattle.tg_protocol.specs.Views.{Entries}
use Rattle.tg_protocol.specs.Clients.{Hand, Work, Client}
use Rattle.tg_protocol.specs.ClientSteps.{task_in, feed}
use Rattle.tg_law_replies.specs.Replies.Steps.{EachDelivery}
use Rattle.tg_law_replies.proofs.Replies.Each.{delivered}
use Rattle.tg_law_replies.proofs.Books.Effects.{IsAsk}
use Rattle.tg_law_walks.proofs.Drafts.Became.{same_some}
use Rattle.tg_law_syncs.proofs.Follow.Looks.{IsWalk}
use Rattle.tg_law_headline.proofs.Spans.Asking.{AskedFor, Asks, asks_way, asks_walked, asks_ends}

module _ (m : Meaning) (objects : List Oid) (es : Entries) (P : Client m → Work m → Type 0) where
  -- a position up to which some walks with P have come
  pub record IsTail (s : ℕ) : Type 0 where
    pub by : Client m
    pub work : Work m
    pub holds : P by work
    pub tail : work.tail ≡ s

  -- the transaction is the one before, or its snapshot is such a tail
  abbrev pub AskedAtTail : Option Tx → Client m → Type 0
  AskedAtTail tx r = AskedFor m IsTail tx r

  -- a delivery to a client that walks for an ask
  pub fed : (c : Client m) (w : Work m) (from : NodeId) (rid : ℕ) (x : Reply) → c.work ≡ Some w → IsAsk m w.command → IsWalk m (task_in m w.hand) → EachDelivery m objects es P c c.work from rid x → AskedAtTail c.tx (feed m c c.work from rid x).now
  fed c w from rid x has ask i each =
      delivered m objects es P (Asks m IsTail c.tx) (λ y. AskedAtTail c.tx y.now) (asks_ends m IsTail c.tx) (asks_way m IsTail c.tx)
      (λ d v e q k h holds. asks_walked m IsTail c.tx d v e q k h (record { by = d; work = v; holds = holds; tail = refl })) c from rid x (inl refl)
      (λ v t now doing a other. record { ask = subst (λ (z : Work m). IsAsk m z.command) (is v now) ask; same = refl; at = subst (λ (d : Hand m). IsWalk m (task_in m d)) doing (walks v now) })
      (λ v q now latest new. record { ask = subst (λ (z : Work m). IsAsk m z.command) (is v now) ask; same = refl; at = walks v now }) each
    where
      is : (v : Work m) → c.work ≡ Some v → w ≡ v
      is v now = same_some w v (sym has ∙ now)

      walks : (v : Work m) → c.work ≡ Some v → IsWalk m (task_in m v.hand)
      walks v now = subst (λ (z : Work m). IsWalk m (task_in m z.hand)) (is v now) i
