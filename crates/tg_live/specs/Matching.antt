-- Which packet a datagram delivers that came to a node: of the packets to that node that are spelled so the lowest
-- that wasn't delivered, else the lowest of them.
use Rattle.std.specs.Prelude.{ℕ, ◌+◌, Bool, not, ◌&&◌, ◌==◌, List, [], ◌∷◌, filter, Option, Some, None, if◌then◌else◌}
use Rattle.std.specs.Str.{bytes_eq}
use Rattle.tg_base.specs.Orders.{node_eq}
use Rattle.tg_base.specs.declared.ids.NodeId.{NodeId}

-- the datagrams that were sent, by packet number from 0, each with the node to which it was sent
abbrev pub Sent : Type 0
Sent = List (NodeId × List ℕ)

-- the numbers at which the test gives true, lowest first; the first of the row has number n
abbrev pub where_so : {A : Type 0} → (A → Bool) → List A → ℕ → List ℕ
where_so test [] n = []
where_so test (x ∷ xs) n = if test x then n ∷ where_so test xs (n + 1) else where_so test xs (n + 1)

-- the packets to this node that are spelled so
abbrev pub copies : Sent → NodeId → List ℕ → List ℕ
copies sent node datagram = where_so (λ x. node_eq x.0 node && bytes_eq datagram x.1) sent 0

abbrev pub without : ℕ → List ℕ → List ℕ
without i numbers = filter (λ j. not (i == j)) numbers

-- those that weren't delivered
abbrev pub undelivered : List ℕ → List ℕ → List ℕ
undelivered [] numbers = numbers
undelivered (i ∷ delivered) numbers = without i (undelivered delivered numbers)

abbrev pub lowest : List ℕ → Option ℕ
lowest [] = None
lowest (i ∷ numbers) = Some i

abbrev pub or_lowest : Option ℕ → List ℕ → Option ℕ
or_lowest (Some i) numbers = Some i
or_lowest None numbers = lowest numbers

abbrev pub lowest_first : List ℕ → List ℕ → Option ℕ
lowest_first delivered numbers = or_lowest (lowest (undelivered delivered numbers)) numbers

-- the packet that a datagram delivers
abbrev pub matched : Sent → List ℕ → NodeId → List ℕ → Option ℕ
matched sent delivered node datagram = lowest_first delivered (copies sent node datagram)

-- what was delivered, the last one first, after a packet more, if there is one
abbrev pub with_delivered : Option ℕ → List ℕ → List ℕ
with_delivered None delivered = delivered
with_delivered (Some i) delivered = i ∷ delivered
