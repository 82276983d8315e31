-- The rules that packets keep, in the words of their fields.
use Rattle.std.specs.Prelude.{ℕ, Bool, true, ◌&&◌, ◌||◌, ◌==◌, nat_lt, nat_le, List, [], ◌∷◌, length, map, Option, Some, None}
use Rattle.std.specs.List.{list_all}
use Rattle.tg_base.specs.Units.{is_rising, is_within}
use Rattle.tg_base.specs.Layouts.{is_layout}
use Rattle.tg_base.specs.declared.cell.Cell.{Cell}
use Rattle.tg_base.specs.declared.cell.Cell.TheVariants.{Junk, Data}
use Rattle.tg_base.specs.declared.ids.Oid.{Oid}
use Rattle.tg_base.specs.declared.marks.StreamLink.{StreamLink}
use Rattle.tg_base.specs.declared.msg.Msg.{Msg}
use Rattle.tg_base.specs.declared.msg.Msg.TheVariants.{Read, Write, Fill, Copy, Has, Seal, Trim, Taken, Prepare, Accept, Decided, Promise, Latest, Learn, Token, Check, Issued, Tail}
use Rattle.tg_base.specs.declared.packet.Packet.{Packet}
use Rattle.tg_codec.specs.Streams.{oid_number}
use Rattle.tg_wire.specs.Fields.{Proposal}

-- an object's number: the directory's, 0, or the tag of another kind, 1 to 6, above an index of three bytes
abbrev pub is_object : Oid → Bool
is_object o = o.0 == 0 || is_within 0x01000000 0x06ffffff o.0

-- so many objects, which rise
abbrev pub are_objects : ℕ → ℕ → List Oid → Bool
are_objects least most os = is_within least most (length os) && list_all is_object os && is_rising (map oid_number os)

-- each position is below the one before it
abbrev pub is_falling : List ℕ → Bool
is_falling [] = true
is_falling (p ∷ []) = true
is_falling (p ∷ q ∷ ps) = nat_lt q p && is_falling (q ∷ ps)

-- a stream, and at most four positions, which fall
abbrev pub is_link : StreamLink → Bool
is_link l = is_object l.oid && nat_le (length l.backs) 4 && is_falling l.backs

abbrev pub link_number : StreamLink → ℕ
link_number l = l.oid.0

-- at most 128 streams, which rise
abbrev pub are_links : List StreamLink → Bool
are_links ls = nat_le (length ls) 128 && list_all is_link ls && is_rising (map link_number ls)

abbrev pub is_page : List ℕ → Bool
is_page page = nat_le (length page) 4096

abbrev pub is_cell : Cell → Bool
is_cell Junk = true
is_cell (Data page) = is_page page

abbrev pub is_vote : Option Proposal → Bool
is_vote None = true
is_vote (Some p) = is_layout p.1

-- an epoch in a request is at least 1
abbrev pub is_asked : ℕ → Bool
is_asked epoch = nat_le 1 epoch

-- The rules of messages. A layout that is to be accepted is the layout of its own epoch.
abbrev pub is_message : Msg → Bool
is_message (Read epoch pos) = is_asked epoch
is_message (Write epoch pos page) = is_asked epoch && is_page page
is_message (Fill epoch pos) = is_asked epoch
is_message (Copy epoch pos cell) = is_asked epoch && is_cell cell
is_message (Has epoch lo hi step) = is_asked epoch && nat_le 1 step
is_message (Seal epoch) = is_asked epoch
is_message (Trim epoch below) = is_asked epoch
is_message (Taken cell) = is_cell cell
is_message (Prepare epoch ballot) = is_asked epoch
is_message (Accept epoch ballot proj) = is_asked epoch && is_layout proj && proj.epoch == epoch
is_message (Decided proj) = is_layout proj
is_message (Promise epoch ballot accepted) = is_vote accepted
is_message (Latest proj) = is_layout proj
is_message (Learn proj) = is_layout proj
is_message (Token epoch oids) = is_asked epoch && are_objects 1 16 oids
is_message (Check epoch oids) = is_asked epoch && are_objects 0 128 oids
is_message (Issued pos links) = are_links links
is_message (Tail tail links) = are_links links
is_message other = true

-- The packet keeps the rules.
abbrev pub fits : Packet → Bool
fits p = is_message p.msg
