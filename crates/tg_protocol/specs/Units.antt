-- A storage unit: write-once cells behind a seal.
use Rattle.std.specs.Prelude.{ℕ, zero, suc, ◌+◌, ◌-◌, ◌/◌, Bool, true, false, ◌||◌, ◌==◌, nat_lt, max, List, [], Option, Some, None, is_some}
use Rattle.tg_base.specs.declared.cell.Cell.{Cell}
use Rattle.tg_base.specs.declared.cell.Cell.TheVariants.{Junk, Data}
use Rattle.tg_base.specs.declared.msg.Msg.{Msg}
use Rattle.tg_base.specs.declared.msg.Msg.TheVariants as msg
use Rattle.tg_protocol.specs.Words.{cell_at, with_cell, cells_from, cell_eq, plus_one}

pub record UnitState : Type 0 where
  pub epoch : ℕ  -- requests of this epoch alone are served
  pub low : ℕ  -- positions below it are trimmed
  pub high : ℕ  -- one past the highest position ever written
  pub cells : List (ℕ × Cell)  -- by position

unfoldable pub new_unit : UnitState
new_unit = record { epoch = 1; low = 0; high = 0; cells = [] }

-- what a unit is asked
pub data UnitAsk : Type 0 where
  Reads : (epoch pos : ℕ) → UnitAsk
  Stores : (epoch pos : ℕ) → (cell : Cell) → UnitAsk  -- a page or a copy
  Fills : (epoch pos : ℕ) → UnitAsk
  Looks : (epoch lo hi step : ℕ) → UnitAsk
  Seals : (epoch : ℕ) → UnitAsk
  TrimsBelow : (epoch below : ℕ) → UnitAsk
  Nothing : UnitAsk

unfoldable pub unit_ask : Msg → UnitAsk
unit_ask (msg.Read e p) = Reads e p
unit_ask (msg.Write e p d) = Stores e p (Data d)
unit_ask (msg.Copy e p c) = Stores e p c
unit_ask (msg.Fill e p) = Fills e p
unit_ask (msg.Has e lo hi step) = Looks e lo hi step
unit_ask (msg.Seal e) = Seals e
unit_ask (msg.Trim e b) = TrimsBelow e b
unit_ask _ = Nothing

-- a unit's state after a request, and its answer
pub record UnitTurn : Type 0 where
  pub now : UnitState
  pub says : Option Msg

abbrev pub says : UnitState → Msg → UnitTurn
says s m = record { now = s; says = Some m }

abbrev pub stored : UnitState → ℕ → Cell → UnitState
stored s p c = record s { high = max s.high (plus_one p); cells = with_cell s.cells p c }

abbrev pub on_read : UnitState → Option Cell → UnitTurn
on_read s None = says s msg.Unwritten
on_read s (Some c) = says s (msg.Taken c)

abbrev pub on_same : UnitState → Cell → Bool → UnitTurn
on_same s x true = says s msg.Held
on_same s x false = says s (msg.Taken x)

-- where there is a cell already, only an equal one is held; a fill is a store of junk
abbrev pub on_store : UnitState → ℕ → Cell → Option Cell → UnitTurn
on_store s p c None = says (stored s p c) msg.Held
on_store s p c (Some x) = on_same s x (cell_eq x c)

-- the position is trimmed, or has a cell
abbrev pub settled_at : UnitState → ℕ → Bool
settled_at s p = nat_lt p s.low || is_some (cell_at s.cells p)

-- the first of so many positions, a step apart, that is neither
unfoldable pub first_missing : UnitState → ℕ → ℕ → ℕ → Option ℕ
first_missing s step zero p = None
first_missing s step (suc n) p = elim (settled_at s p) as (λ _. Option ℕ) [ true ↦ first_missing s step n (p + step) | false ↦ Some p ]

-- how many of lo, lo + step, .. are below hi
abbrev pub how_many : ℕ → ℕ → ℕ → ℕ
how_many lo hi step = ((hi - lo) + (step - 1)) / step

abbrev pub on_has : UnitState → Option ℕ → UnitTurn
on_has s None = says s msg.Whole
on_has s (Some p) = says s (msg.Missing p)

abbrev pub on_seal : UnitState → ℕ → Bool → UnitTurn
on_seal s e true = says s (msg.Fenced s.epoch)
on_seal s e false = says (record s { epoch = e }) (msg.Sealed e s.high)

abbrev pub trimmed : UnitState → ℕ → UnitState
trimmed s low = record s { low = low; cells = cells_from low s.cells }

abbrev pub on_trim : UnitState → ℕ → UnitTurn
on_trim s low = says (trimmed s low) (msg.Gone low)

-- a request of another epoch is fenced
abbrev pub in_epoch : Bool → UnitState → UnitTurn → UnitTurn
in_epoch true s t = t
in_epoch false s t = says s (msg.Fenced s.epoch)

-- a position that was trimmed is gone
abbrev pub not_gone : Bool → UnitState → UnitTurn → UnitTurn
not_gone true s t = says s (msg.Gone s.low)
not_gone false s t = t

abbrev pub at_cell : UnitState → ℕ → ℕ → UnitTurn → UnitTurn
at_cell s e p t = in_epoch (s.epoch == e) s (not_gone (nat_lt p s.low) s t)

unfoldable pub on_ask : UnitState → UnitAsk → UnitTurn
on_ask s (Reads e p) = at_cell s e p (on_read s (cell_at s.cells p))
on_ask s (Stores e p c) = at_cell s e p (on_store s p c (cell_at s.cells p))
on_ask s (Fills e p) = at_cell s e p (on_store s p Junk (cell_at s.cells p))
on_ask s (Looks e lo hi step) = in_epoch (s.epoch == e) s (on_has s (first_missing s step (how_many lo hi step) lo))
on_ask s (Seals e) = on_seal s e (nat_lt e s.epoch)
on_ask s (TrimsBelow e b) = in_epoch (s.epoch == e) s (on_trim s (max s.low b))
on_ask s Nothing = record { now = s; says = None }

unfoldable pub unit_step : UnitState → Msg → UnitTurn
unit_step s m = on_ask s (unit_ask m)
