-- Lists whose counts fit their bytes.
use Rattle.std.specs.Prelude.{◌≤◌, List, [], ◌∷◌, length, Option, Some, None}
use Rattle.tg_base.specs.Layouts.{Layout}
use Rattle.tg_base.specs.declared.layout.Range.{Range}
use Rattle.tg_base.specs.declared.msg.Msg.{Msg}
use Rattle.tg_base.specs.declared.msg.Msg.TheVariants.{Accept, Decided, Promise, Latest, Learn, Token, Check, Issued, Tail}
use Rattle.tg_wire.specs.Fields.{Proposal}

abbrev pub AreShort : List Range → Type 0
AreShort [] = Unit {0}
AreShort (r ∷ rs) = (length r.stripes ≤ 255) × AreShort rs

abbrev pub IsShortLayout : Layout → Type 0
IsShortLayout l = (length l.gone ≤ 255) × ((length l.ranges ≤ 255) × AreShort l.ranges)

abbrev pub IsShortVote : Option Proposal → Type 0
IsShortVote None = Unit {0}
IsShortVote (Some p) = IsShortLayout p.1

abbrev pub IsShort : Msg → Type 0
IsShort (Accept epoch ballot proj) = IsShortLayout proj
IsShort (Decided proj) = IsShortLayout proj
IsShort (Promise epoch ballot vote) = IsShortVote vote
IsShort (Latest proj) = IsShortLayout proj
IsShort (Learn proj) = IsShortLayout proj
IsShort (Token epoch oids) = length oids ≤ 255
IsShort (Check epoch oids) = length oids ≤ 255
IsShort (Issued pos links) = length links ≤ 255
IsShort (Tail tail links) = length links ≤ 255
IsShort other = Unit {0}
