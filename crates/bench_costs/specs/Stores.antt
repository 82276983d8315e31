-- Stores on a new unit, and how many of them are held.
use Rattle.std.specs.Prelude.{ℕ, zero, suc, ◌+◌, ◌*◌, ◌%◌, ◌^◌, ◌≡◌, List, [], ◌∷◌, Option, Some, None, if◌then◌else◌, codes}
use Rattle.std.specs.Str.{bytes_eq}
use Rattle.std.specs.Str.Parse.{digits_value, without_leading_plus}
use Rattle.tg_base.specs.declared.msg.Msg.{Msg}
use Rattle.tg_base.specs.declared.msg.Msg.TheVariants.{Write, Held}
use Rattle.tg_protocol.specs.Units.{UnitState, UnitTurn, new_unit, unit_step}
use Rattle.bench_costs.specs.declared.order.Order.{Order}
use Rattle.bench_costs.specs.declared.order.Order.TheVariants.{Rising, Scattered, Sparse}
use Rattle.bench_costs.specs.declared.load.Load.{Load}

abbrev pub order_named : List ℕ → Option Order
order_named word =
    if bytes_eq word (codes "rising") then Some Rising
    else if bytes_eq word (codes "scattered") then Some Scattered
    else if bytes_eq word (codes "sparse") then Some Sparse
    else None

-- the position at a place, of so many
abbrev pub position : Order → ℕ → ℕ → ℕ
position Rising count place = place
position Scattered count place = place * 2654435761 % count
position Sparse count place = 64 * (place * 2654435761 % count)

-- a page is sent to a unit
abbrev pub sent : UnitState → ℕ → UnitTurn
sent unit pos = unit_step unit (Write 1 pos (7 ∷ []))

-- the unit after so many stores
abbrev pub stored : Order → ℕ → ℕ → UnitState
stored order count zero = new_unit
stored order count (suc n) = (sent (stored order count n) (position order count n)).now

-- 1 for the answer that a page is held
abbrev pub is_held : Option Msg → ℕ
is_held (Some Held) = 1
is_held _ = 0

-- how many of so many stores are held
abbrev pub held : Order → ℕ → ℕ → ℕ
held order count zero = 0
held order count (suc n) = held order count n + is_held (sent (stored order count n) (position order count n)).says

-- how many on all units, modulo 2^64
abbrev pub total : Load → ℕ
total l = l.units * held l.order l.count l.count % 2 ^ 64

abbrev pub number_of : List ℕ → ℕ
number_of word = digits_value 10 (without_leading_plus word)

-- the words name the order and the numbers
abbrev pub AreWords : List ℕ → List ℕ → List ℕ → Load → Type 0
AreWords order count units l = (order_named order ≡ Some l.order) × (l.count ≡ number_of count) × (l.units ≡ number_of units)
