-- How many bytes a packet takes.
use Rattle.std.specs.Prelude.{ℕ, ◌+◌, ◌*◌, List, length, map, Option, Some, None}
use Rattle.tg_base.specs.Layouts.{Layout}
use Rattle.tg_base.specs.declared.cell.Cell.{Cell}
use Rattle.tg_base.specs.declared.cell.Cell.TheVariants.{Junk, Data}
use Rattle.tg_base.specs.declared.ids.Ballot.{Ballot}
use Rattle.tg_base.specs.declared.layout.Range.{Range}
use Rattle.tg_base.specs.declared.msg.Msg.{Msg}
use Rattle.tg_base.specs.declared.msg.Msg.TheVariants as msg
use Rattle.tg_base.specs.declared.packet.Packet.{Packet}
use Rattle.tg_protocol.specs.Entries.{sum_of}

abbrev pub page_size : List ℕ → ℕ
page_size d = 2 + length d

abbrev pub cell_size : Cell → ℕ
cell_size Junk = 1
cell_size (Data d) = 1 + page_size d

abbrev pub chain_size : List ℕ → ℕ
chain_size c = 1 + 2 * length c

abbrev pub range_size : Range → ℕ
range_size r = 8 + 1 + sum_of (map chain_size r.stripes)

abbrev pub layout_size : Layout → ℕ
layout_size p = 8 + 2 + 8 + 2 + (1 + 2 * length p.gone) + (1 + sum_of (map range_size p.ranges))

abbrev pub accepted_size : Option (Ballot × Layout) → ℕ
accepted_size None = 1
accepted_size (Some a) = 1 + 6 + layout_size a.1

-- a message's fields; numbers of positions and epochs take 8 bytes, ballots 6, links 37, objects 4
unfoldable pub fields_size : Msg → ℕ
fields_size (msg.Read e p) = 16
fields_size (msg.Write e p d) = 16 + page_size d
fields_size (msg.Fill e p) = 16
fields_size (msg.Copy e p c) = 16 + cell_size c
fields_size (msg.Has e lo hi s) = 32
fields_size (msg.Seal e) = 8
fields_size (msg.Trim e b) = 16
fields_size msg.Held = 0
fields_size (msg.Taken c) = cell_size c
fields_size msg.Unwritten = 0
fields_size (msg.Gone b) = 8
fields_size (msg.Fenced e) = 8
fields_size (msg.Sealed e h) = 16
fields_size (msg.Missing p) = 8
fields_size msg.Whole = 0
fields_size (msg.Prepare e b) = 14
fields_size (msg.Accept e b q) = 14 + layout_size q
fields_size (msg.Decided q) = layout_size q
fields_size msg.AskLatest = 0
fields_size (msg.Promise e b a) = 14 + accepted_size a
fields_size (msg.Nack e b) = 14
fields_size (msg.Accepted e b) = 14
fields_size (msg.Latest q) = layout_size q
fields_size (msg.Learn q) = layout_size q
fields_size (msg.Token e os) = 9 + 4 * length os
fields_size (msg.Check e os) = 9 + 4 * length os
fields_size (msg.Issued p ls) = 9 + 37 * length ls
fields_size (msg.Tail t ls) = 9 + 37 * length ls
fields_size (msg.Scanning n s) = 16
fields_size (msg.OldEpoch e) = 8
fields_size (msg.Full l) = 8

-- three bytes in front, two nodes, the request's number and the tag
abbrev pub packet_size : Packet → ℕ
packet_size p = 3 + 3 + 3 + 8 + 1 + fields_size p.msg
