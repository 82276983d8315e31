-- The streams of a record of format 2.
use Rattle.std.specs.Prelude.{Bool, ◌&&◌, nat_le, List, length}
use Rattle.std.specs.List.{list_all}
use Rattle.tg_base.specs.Units.{is_rising}
use Rattle.tg_base.specs.declared.marks.StreamLink.{StreamLink}
use Rattle.tg_entry.specs.Records.{is_object}
use Rattle.tg_entry.specs.Writes.{stream_numbers}

abbrev pub of_object : StreamLink → Bool
of_object l = is_object l.oid

-- one to sixteen, rising, of objects that entries may name
abbrev pub are_streams : List StreamLink → Bool
are_streams ls = nat_le 1 (length ls) && nat_le (length ls) 16 && list_all of_object ls && is_rising (stream_numbers ls)
