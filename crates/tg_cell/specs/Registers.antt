-- Registers.
use Rattle.std.specs.Prelude.{ℕ, Bool, ◌&&◌, ◌==◌, List, Option, Some, None, Result}
use Rattle.tg_base.specs.declared.ids.Oid.{Oid}
use Rattle.tg_base.specs.declared.marks.Part.{Part}
use Rattle.tg_base.specs.declared.marks.Part.TheVariants.{All}
use Rattle.tg_codec.specs.Codec.{Codec, via}
use Rattle.tg_codec.specs.Whole.{whole}
use Rattle.tg_kind.specs.Parts.{tag_of}
use Rattle.tg_kind.specs.Words.{after, maybe}
use Rattle.tg_kind.specs.Texts.{text_format}
use Rattle.tg_cell.specs.declared.register.RegisterOp.{RegisterOp}
use Rattle.tg_cell.specs.declared.register.RegisterOp.TheVariants.{Write}
use Rattle.tg_cell.specs.declared.register.RegisterAsk.{RegisterAsk}
use Rattle.tg_cell.specs.declared.register.RegisterAsk.TheVariants.{Text}
use Rattle.tg_cell.specs.declared.register.RegisterAns.{RegisterAns}
use Rattle.tg_cell.specs.declared.register.RegisterAns.TheVariants.{Held}

abbrev pub is_object : Oid → Bool
is_object o = tag_of o == 2

-- a text or nothing
abbrev pub Contents : Type 0
Contents = Option (List ℕ)

-- the kind's tag, and nothing or a text
abbrev pub state_format : Codec Contents
state_format = after 2 (maybe text_format)

abbrev pub is_state : Oid → Contents → Bool
is_state o held = is_object o && state_format.fits held

abbrev pub is_of : Oid → RegisterOp → Bool
is_of o op = is_object o

abbrev pub first : Oid → List Oid → Contents
first o os = None

abbrev pub applied : Contents → RegisterOp → Contents
applied held (Write text) = Some text

abbrev pub answered : Contents → RegisterAsk → RegisterAns
answered held Text = Held held

abbrev pub touched : RegisterOp → Part
touched op = All

abbrev pub looked : RegisterAsk → Part
looked ask = All

abbrev pub saved : Contents → List ℕ
saved held = state_format.spell held

abbrev pub loaded : Oid → List ℕ → Result Contents ℕ
loaded o bytes = whole state_format bytes

abbrev pub written : RegisterOp → List ℕ
written (Write text) = text

-- the op's code and the text
abbrev pub op_format : Codec RegisterOp
op_format = via Write written (after 0x20 text_format)
