-- Wherever a turn of a client comes to the end of its walks, each stream that it walked is settled up to the tail.
use Rattle.std.proofs.Common.{◌≡◌, ℕ, ◌<◌, ◌≤◌, List, [], Bool, true, ◌&&◌, arith, Some}
use Rattle.std.specs.Prelude.{Contains, nat_lt}
use Rattle.std.proofs.lemmas.Bool.Decides.{nat_tests}
use Rattle.tg_base.specs.Layouts.{Layout}
use Rattle.tg_base.specs.Orders.{node_eq}
use Rattle.tg_base.specs.declared.cell.Cell.{Cell}
use Rattle.tg_base.specs.declared.ids.NodeId.{NodeId}
use Rattle.tg_base.specs.declared.ids.Oid.{Oid}
use Rattle.tg_base.specs.declared.marks.StreamLink.{StreamLink}
use Rattle.tg_kind.specs.Meaning.{Meaning}
use Rattle.tg_protocol.specs.Words.{cell_at, layout_id}
use Rattle.tg_protocol.specs.Replies.{Reply}
use Rattle.tg_protocol.specs.Views.{Entries}
use Rattle.tg_protocol.specs.Logs.{Log}
use Rattle.tg_protocol.specs.Clients.{Work, Client}
use Rattle.tg_protocol.specs.Worlds.{World}
use Rattle.tg_law_replies.specs.Replies.Steps.{EachDelivery}
use Rattle.tg_law_walks.specs.Walks.Lists.{backs}
use Rattle.tg_law_walks.proofs.Walks.Cells.{known_at}
use Rattle.tg_law_syncs.specs.Settling.Visits.{IsFull, AreFull, IsIssuedTo}
use Rattle.tg_law_syncs.proofs.Known.Knowing.{Knows}
use Rattle.tg_law_headline.proofs.Settled.Rounds.{course, SavedTo, all_settled}
use Rattle.tg_law_replies.proofs.Replies.Reached.{each_delivered}
use Rattle.tg_law_syncs.proofs.Each.{Since, since_way}
use Rattle.tg_law_headline.proofs.Settled.Turns.{IsSettling}
use Rattle.tg_law_headline.proofs.Settled.Steps.{Hears, At', way, feeds_at, newer_at}
use Rattle.tg_law_steps.proofs.Places.{Place, Walks}
use Rattle.tg_law_steps.proofs.Ways.{Way}

module _ (m : Meaning) (v : World m) (S : ℕ → ℕ → Type 0) (Tl : ℕ → ℕ → Type 0) where
  -- a stream is settled up to a confirmed tail
  pub record SettledTo (n : ℕ) (o : Oid) (tail : ℕ) : Type 0 where
    pub epoch : ℕ
    pub up_to : epoch ≤ n
    pub confirmed : Tl epoch tail
    pub settled : (q : ℕ) → IsIssuedTo m v epoch o q → q < tail → S n q

  abbrev pub AtEnd : Client m → Work m → Type 0
  AtEnd c w = (o : Oid) → Contains w.oids o → SettledTo c.stand.epoch o w.tail

module _ (m : Meaning) (v : World m) (S : ℕ → ℕ → Type 0) (Tl : ℕ → ℕ → Type 0) (Told : Layout → List Oid → ℕ → List StreamLink → Type 0) (Sure : Layout → ℕ → Type 0)
    (l : Log) (n : ℕ) (settles : (q : ℕ) (c : Cell) → cell_at l q ≡ Some c → S n q) (full : (e t : ℕ) → Tl e t → AreFull l (IsIssuedTo m v e) t)
    (ends : (p : Layout) (os : List Oid) (t : ℕ) (ls : List StreamLink) → Told p os t ls → Sure p t → Tl p.epoch t × ((o : Oid) → Contains os o → IsFull (IsIssuedTo m v p.epoch o) t (backs o ls)))
    (joins : (o : Oid) (u : ℕ) → SavedTo m v S Tl n o u → (e t q : ℕ) → Tl e t → IsIssuedTo m v e o q → q < t → q < u → S n q)
    (low : (p : Layout) (t : ℕ) → t ≤ p.start → Sure p t) (up : (a b q : ℕ) → a ≤ b → S a q → S b q) (objects : List Oid) (es : Entries) where
  abbrev P : Client m → Work m → Type 0
  P = AtEnd m v S Tl

  abbrev Here : Client m → Work m → Place m → Type 0
  Here c w p = At' m v S Tl Told Sure l n settles full ends joins low objects es c w p × Since m n c p

  over : (c : Client m) (w : Work m) → Here c w (Walks []) → P c w
  over c w ((k, (e, known, own, h)), le) = λ o i. record {
    epoch = e;
    up_to = (let a = h.heading.up_to in omega (arith, a, le));
    confirmed = h.heading.confirmed;
    settled = λ q j less. up n c.stand.epoch q le (all_settled m v S Tl n e (course m w) c.cells (λ p d is. settles p d (known_at l c.cells known p d is)) h o i q j less);
  }

  way_here : (c : Client m) (w : Work m) (p : Place m) (d : Client m) (u : Work m) (q : Place m) → Way m c w p d u q → Here c w p → Here d u q
  way_here c w p d u q x k = (way m v S Tl Told Sure l n settles full ends joins low objects es c w p d u q x k.0, since_way m n c w p d u q x k.1)

  module _ (c : Client m) (le : n ≤ c.stand.epoch) (at : c.stand.epoch ≤ n) (from : NodeId) (rid : ℕ) (knows' : Knows m l c) (so : IsSettling m v S Tl Told Sure n c) where
    is_newer : (q : Layout) (a : Bool) → (a && nat_lt c.stand.epoch q.epoch) ≡ true → c.stand.epoch < q.epoch
    is_newer q a e = grind (arith, nat_tests, e)

    pub delivery_at : (x : Reply) → Hears m v S Tl Told Sure l n c from rid x → EachDelivery m objects es P c c.work from rid x
    delivery_at x g = each_delivered m objects es Here P way_here over c from rid x (λ w t has doing a other. (feeds_at m v S Tl Told Sure l n settles full ends joins low objects es c at from rid knows' so x g w t has doing a, le))
        (λ w q has is a. (newer_at m v S Tl Told Sure l n settles full ends joins low objects es c at from rid knows' so w q has, (le, is_newer q (node_eq from (layout_id from.num)) a)))
