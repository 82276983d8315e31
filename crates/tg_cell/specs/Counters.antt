-- Counters.
use Rattle.std.specs.Prelude.{ℕ, Bool, ◌&&◌, ◌==◌, List, ℤ, pos, ◌+ℤ◌, Result}
use Rattle.std.specs.Int.{w64, saturate_signed}
use Rattle.tg_base.specs.declared.ids.Oid.{Oid}
use Rattle.tg_base.specs.declared.marks.Part.{Part}
use Rattle.tg_base.specs.declared.marks.Part.TheVariants.{All}
use Rattle.tg_codec.specs.Codec.{Codec, via}
use Rattle.tg_codec.specs.Whole.{whole}
use Rattle.tg_kind.specs.Parts.{tag_of}
use Rattle.tg_kind.specs.Words.{after}
use Rattle.tg_cell.specs.Signed.{in_i64, i64}
use Rattle.tg_cell.specs.declared.counter.CounterOp.{CounterOp}
use Rattle.tg_cell.specs.declared.counter.CounterOp.TheVariants.{Add}
use Rattle.tg_cell.specs.declared.counter.CounterAsk.{CounterAsk}
use Rattle.tg_cell.specs.declared.counter.CounterAsk.TheVariants.{Value}
use Rattle.tg_cell.specs.declared.counter.CounterAns.{CounterAns}
use Rattle.tg_cell.specs.declared.counter.CounterAns.TheVariants.{Number}

abbrev pub is_object : Oid → Bool
is_object o = tag_of o == 1

abbrev pub is_state : Oid → ℤ → Bool
is_state o n = is_object o && in_i64 n

abbrev pub is_of : Oid → CounterOp → Bool
is_of o op = is_object o

abbrev pub first : Oid → List Oid → ℤ
first o os = pos 0

-- a sum past an end of the type stays at that end
abbrev pub applied : ℤ → CounterOp → ℤ
applied n (Add by) = saturate_signed w64 (n +ℤ by)

abbrev pub answered : ℤ → CounterAsk → CounterAns
answered n Value = Number n

abbrev pub touched : CounterOp → Part
touched op = All

abbrev pub looked : CounterAsk → Part
looked ask = All

-- the kind's tag and the number
abbrev pub state_format : Codec ℤ
state_format = after 1 i64

abbrev pub saved : ℤ → List ℕ
saved n = state_format.spell n

abbrev pub loaded : Oid → List ℕ → Result ℤ ℕ
loaded o bytes = whole state_format bytes

abbrev pub added : CounterOp → ℤ
added (Add by) = by

-- the op's code and the number
abbrev pub op_format : Codec CounterOp
op_format = via Add added (after 0x10 i64)
