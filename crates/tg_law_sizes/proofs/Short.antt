-- The spelling of a packet is short: the longest are what a sequencer tells of 128 streams.
use Rattle.std.proofs.Common.{◌≡◌, ℕ, ◌+◌, ◌*◌, ◌<◌, ◌≤◌, true, List, [], ◌∷◌, length, map, Option, Some, None, arith}
use Rattle.std.proofs.lemmas.Bool.{leb-true}
use Rattle.std.proofs.lemmas.Bool.Decides.{nat_tests}
use Rattle.std.specs.Prelude.{nat_lt}
use Rattle.std.specs.List.{list_all}
use Rattle.tg_base.specs.Layouts.{Layout, is_range, is_layout}
use Rattle.tg_base.specs.Units.{is_rising, is_within, is_unit, is_chain}
use Rattle.tg_base.specs.declared.cell.Cell.{Cell}
use Rattle.tg_base.specs.declared.cell.Cell.TheVariants.{Junk, Data}
use Rattle.tg_base.specs.declared.layout.Range.{Range}
use Rattle.tg_base.specs.declared.msg.Msg.{Msg}
use Rattle.tg_base.specs.declared.msg.Msg.TheVariants as msg
use Rattle.tg_base.specs.declared.packet.Packet.{Packet}
use Rattle.tg_codec.proofs.Laws.{and-left, and-right}
use Rattle.tg_wire.specs.Fields.{Proposal}
use Rattle.tg_wire.specs.Packets.{packet}
use Rattle.tg_wire.specs.Rules.{is_cell, is_vote, is_message, fits}
use Rattle.tg_protocol.specs.Entries.{sum_of}
use Rattle.tg_protocol.specs.Sizes.{cell_size, chain_size, range_size, layout_size, accepted_size, fields_size}
use Rattle.tg_law_sizes.proofs.Packets.{packet_len}

-- a number within bounds is no more than the higher one
at_most : (low high n : ℕ) → is_within low high n ≡ true → n ≤ high
at_most low high n h = leb-true n high (and-right _ _ h)

-- Layouts.

chain_short : (c : List ℕ) → is_chain c ≡ true → chain_size c ≤ 11
chain_short c h = let few = at_most 1 5 (length c) (and-left _ _ (and-left _ _ h)) in omega (arith, few)

chains_short : (cs : List (List ℕ)) → list_all is_chain cs ≡ true → sum_of (map chain_size cs) ≤ 11 * length cs
chains_short [] h = omega arith
chains_short (c ∷ cs) h =
    let one = chain_short c (and-left _ _ h) in
    let rest = chains_short cs (and-right _ _ h) in
    omega (arith, one, rest)

range_short : (r : Range) → is_range r ≡ true → range_size r ≤ 97
range_short r h =
    let few = at_most 1 8 (length r.stripes) (and-left _ _ h) in
    let all = chains_short r.stripes (and-right _ _ h) in
    omega (arith, few, all)

ranges_short : (rs : List Range) → list_all is_range rs ≡ true → sum_of (map range_size rs) ≤ 97 * length rs
ranges_short [] h = omega arith
ranges_short (r ∷ rs) h =
    let one = range_short r (and-left _ _ h) in
    let rest = ranges_short rs (and-right _ _ h) in
    omega (arith, one, rest)

less : (a b : ℕ) → nat_lt a b ≡ true → a < b
less a b h = grind (arith, nat_tests)

-- rising numbers of units are 64 at most
rising_few : (u : ℕ) (us : List ℕ) → is_rising (u ∷ us) ≡ true → list_all is_unit (u ∷ us) ≡ true → u + length (u ∷ us) ≤ 64
rising_few u [] rises units = let below = less u 64 (and-left _ _ units) in omega (arith, below)
rising_few u (v ∷ us) rises units =
    let above = less u v (and-left _ _ rises) in
    let rest = rising_few v us (and-right _ _ rises) (and-right _ _ units) in
    omega (arith, above, rest)

gone_few : (us : List ℕ) → is_rising us ≡ true → list_all is_unit us ≡ true → length us ≤ 64
gone_few [] rises units = omega arith
gone_few (u ∷ us) rises units = let few = rising_few u us rises units in omega (arith, few)

layout_short : (p : Layout) → is_layout p ≡ true → layout_size p ≤ 3254
layout_short p h =
    let front = and-left _ _ (and-left _ _ (and-left _ _ h)) in
    let ranges = and-right _ _ front in
    let many = and-left _ _ front in
    let units = and-left _ _ many in
    let gone = gone_few p.gone (and-right _ _ units) (and-right _ _ (and-left _ _ units)) in
    let few = at_most 1 32 (length p.ranges) (and-right _ _ many) in
    let all = ranges_short p.ranges ranges in
    omega (arith, gone, few, all)

vote_short : (v : Option Proposal) → is_vote v ≡ true → accepted_size v ≤ 3261
vote_short None h = omega arith
vote_short (Some p) h = let all = layout_short p.1 h in omega (arith, all)

-- Cells and messages.

cell_short : (c : Cell) → is_cell c ≡ true → cell_size c ≤ 4099
cell_short Junk h = omega arith
cell_short (Data d) h = let few = leb-true (length d) 4096 h in omega (arith, few)

fields_short : (m : Msg) → is_message m ≡ true → fields_size m ≤ 4745
unfolding fields_size
fields_short (msg.Write e p d) h = let few = leb-true (length d) 4096 (and-right _ _ h) in omega (arith, few)
fields_short (msg.Copy e p c) h = let few = cell_short c (and-right _ _ h) in omega (arith, few)
fields_short (msg.Taken c) h = let few = cell_short c h in omega (arith, few)
fields_short (msg.Accept e b q) h = let few = layout_short q (and-right _ _ (and-left _ _ h)) in omega (arith, few)
fields_short (msg.Decided q) h = let few = layout_short q h in omega (arith, few)
fields_short (msg.Promise e b a) h = let few = vote_short a h in omega (arith, few)
fields_short (msg.Latest q) h = let few = layout_short q h in omega (arith, few)
fields_short (msg.Learn q) h = let few = layout_short q h in omega (arith, few)
fields_short (msg.Token e os) h = let few = at_most 1 16 (length os) (and-left _ _ (and-left _ _ (and-right _ _ h))) in omega (arith, few)
fields_short (msg.Check e os) h = let few = at_most 0 128 (length os) (and-left _ _ (and-left _ _ (and-right _ _ h))) in omega (arith, few)
fields_short (msg.Issued p ls) h = let few = leb-true (length ls) 128 (and-left _ _ (and-left _ _ h)) in omega (arith, few)
fields_short (msg.Tail t ls) h = let few = leb-true (length ls) 128 (and-left _ _ (and-left _ _ h)) in omega (arith, few)
fields_short m h = omega arith

pub packet_short : (p : Packet) → fits p ≡ true → length (packet.spell p) ≤ 4763
packet_short p h =
    let size = packet_len p h in
    let few = fields_short p.msg h in
    omega (arith, size, few)
