-- What a book keeps of the datagrams that were sent and of those that were delivered.
use Rattle.std.specs.Prelude.{◌≡◌, ℕ, ◌+◌, ◌<◌, ◌≤◌, List, [], ◌∷◌, ◌++◌, length, drop, slice_get, nat_lt, Option, Some, None, if◌then◌else◌}
use Rattle.std.specs.Map.{lookup}
use Rattle.std.specs.Str.{bytes_eq}
use Rattle.std.specs.Global.{Vec}
use Rattle.tg_base.specs.Orders.{node_eq}
use Rattle.tg_base.specs.declared.ids.NodeId.{NodeId}
use Rattle.tg_live.specs.declared.copies.Copies.{Copies}
use Rattle.tg_live.specs.declared.book.Book.{Book}
use Rattle.tg_live.specs.Matching.{Sent, where_so, undelivered, lowest, or_lowest}

-- all that was sent as these bytes went to this node
pub record GoesTo (sent : Sent) (datagram : List ℕ) (to : NodeId) : Type 0 where
  pub each : (i : ℕ) (x : NodeId × List ℕ) → slice_get sent i ≡ Some x → x.1 ≡ datagram → x.0 ≡ to

-- the packets that are spelled so, whichever node they go to
abbrev pub spelled_so : Sent → List ℕ → List ℕ
spelled_so sent datagram = where_so (λ x. bytes_eq datagram x.1) sent 0

-- Equal packets: their numbers, of which the first `done` were delivered and the others weren't, and their node.
pub record AreCopies (sent : Sent) (delivered datagram : List ℕ) (c : Copies) : Type 0 where
  pub numbers : c.numbers ≡ spelled_so sent datagram
  pub some : 0 < length c.numbers
  pub to : GoesTo sent datagram c.to
  pub within : c.done ≤ length c.numbers
  pub rest : undelivered delivered c.numbers ≡ drop c.done c.numbers

abbrev pub AreKept : Sent → List ℕ → List ℕ → Option Copies → Type 0
AreKept sent delivered datagram None = spelled_so sent datagram ≡ []
AreKept sent delivered datagram (Some c) = AreCopies sent delivered datagram c

abbrev pub AllBelow : ℕ → List ℕ → Type 0
AllBelow n [] = Unit {0}
AllBelow n (i ∷ delivered) = (i < n) × AllBelow n delivered

-- the packets that are kept under this key
abbrev pub found : List (Vec ℕ × Copies) → List ℕ → Option Copies
found es datagram = lookup (λ k. bytes_eq datagram k.items) es

-- the book of these datagrams, of which those were delivered, the last one first
pub record IsBook (b : Book) (sent : Sent) (delivered : List ℕ) : Type 0 where
  pub known : AllBelow (length sent) delivered
  pub kept : (datagram : List ℕ) → AreKept sent delivered datagram (found b.copies.entries datagram)

-- the lowest of equal packets that wasn't delivered, else the lowest
abbrev pub next_of : Copies → Option ℕ
next_of c = or_lowest (lowest (drop c.done c.numbers)) c.numbers

-- equal packets, of which one more was delivered
abbrev pub after : Copies → Copies
after c = record c { done = if nat_lt c.done (length c.numbers) then c.done + 1 else c.done }

-- equal packets, and one more
abbrev pub with_number : NodeId → ℕ → Option Copies → Copies
with_number to number None = record { to = to; numbers = number ∷ []; done = 0 }
with_number to number (Some c) = record c { numbers = c.numbers ++ number ∷ [] }

-- where they go to this node, one of equal packets is delivered
abbrev pub answer : NodeId → Option Copies → Option ℕ
answer node None = None
answer node (Some c) = if node_eq c.to node then next_of c else None

abbrev pub handed : NodeId → Option Copies → Option Copies
handed node None = None
handed node (Some c) = Some (if node_eq c.to node then after c else c)
