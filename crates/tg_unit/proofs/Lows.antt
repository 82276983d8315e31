-- How far a unit is trimmed after a step.
use Rattle.std.specs.Prelude.{◌≡◌, ℕ, ◌==◌, nat_lt, max, Bool, true, false, cond, Option, Some, None, refl}
use Rattle.tg_base.specs.declared.cell.Cell.{Cell}
use Rattle.tg_base.specs.declared.cell.Cell.TheVariants.{Junk}
use Rattle.tg_base.specs.declared.msg.Msg.{Msg}
use Rattle.tg_protocol.specs.Words.{cell_at, cell_eq}
use Rattle.tg_protocol.specs.Units.{UnitState, UnitTurn, UnitAsk, Reads, Stores, Fills, Looks, Seals, TrimsBelow, Nothing, unit_ask, unit_step, on_ask, on_read, on_same, on_store, on_has, on_seal, on_trim, in_epoch, not_gone, at_cell, first_missing, how_many}
use Rattle.tg_unit.specs.Lows.{low_asked}

abbrev IsKept : UnitState → UnitTurn → Type 0
IsKept s t = t.now.low ≡ s.low

epoch_kept : (b : Bool) (s : UnitState) (t : UnitTurn) → IsKept s t → IsKept s (in_epoch b s t)
epoch_kept true s t h = h
epoch_kept false s t h = refl

gone_kept : (b : Bool) (s : UnitState) (t : UnitTurn) → IsKept s t → IsKept s (not_gone b s t)
gone_kept true s t h = refl
gone_kept false s t h = h

at_kept : (s : UnitState) (e p : ℕ) (t : UnitTurn) → IsKept s t → IsKept s (at_cell s e p t)
at_kept s e p t h = epoch_kept (s.epoch == e) s (not_gone (nat_lt p s.low) s t) (gone_kept (nat_lt p s.low) s t h)

read_kept : (s : UnitState) (o : Option Cell) → IsKept s (on_read s o)
read_kept s None = refl
read_kept s (Some c) = refl

same_kept : (s : UnitState) (x : Cell) (b : Bool) → IsKept s (on_same s x b)
same_kept s x true = refl
same_kept s x false = refl

store_kept : (s : UnitState) (p : ℕ) (c : Cell) (o : Option Cell) → IsKept s (on_store s p c o)
store_kept s p c None = refl
store_kept s p c (Some x) = same_kept s x (cell_eq x c)

has_kept : (s : UnitState) (o : Option ℕ) → IsKept s (on_has s o)
has_kept s None = refl
has_kept s (Some p) = refl

seal_kept : (s : UnitState) (e : ℕ) (b : Bool) → IsKept s (on_seal s e b)
seal_kept s e true = refl
seal_kept s e false = refl

trim_low : (s : UnitState) (b : ℕ) (t : Bool) → (in_epoch t s (on_trim s (max s.low b))).now.low ≡ cond t (max s.low b) s.low
trim_low s b true = refl
trim_low s b false = refl

asked_low : (s : UnitState) (a : UnitAsk) → (on_ask s a).now.low ≡ low_asked s a
unfolding on_ask
asked_low s (Reads e p) = at_kept s e p (on_read s (cell_at s.cells p)) (read_kept s (cell_at s.cells p))
asked_low s (Stores e p c) = at_kept s e p (on_store s p c (cell_at s.cells p)) (store_kept s p c (cell_at s.cells p))
asked_low s (Fills e p) = at_kept s e p (on_store s p Junk (cell_at s.cells p)) (store_kept s p Junk (cell_at s.cells p))
asked_low s (Looks e lo hi step) =
    epoch_kept (s.epoch == e) s (on_has s (first_missing s step (how_many lo hi step) lo)) (has_kept s (first_missing s step (how_many lo hi step) lo))
asked_low s (Seals e) = seal_kept s e (nat_lt e s.epoch)
asked_low s (TrimsBelow e b) = trim_low s b (s.epoch == e)
asked_low s Nothing = refl

pub low_is : (s : UnitState) (m : Msg) → (unit_step s m).now.low ≡ low_asked s (unit_ask m)
unfolding unit_step
low_is s m = asked_low s (unit_ask m)
