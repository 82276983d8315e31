-- The lengths of fields are what they take.
use Rattle.std.proofs.Common.{◌≡◌, ℕ, ◌+◌, ◌*◌, ◌-◌, ◌≤◌, ◌^◌, true, List, [], ◌∷◌, length, map, Option, Some, None, refl, ◌∙◌, arith}
use Rattle.std.proofs.lemmas.List.{length-append, length-replicate}
use Rattle.std.proofs.lemmas.Bool.{leb-true}
use Rattle.std.specs.Prelude.{replicate}
use Rattle.std.specs.List.{list_all}
use Rattle.tg_base.specs.Layouts.{Layout}
use Rattle.tg_base.specs.declared.cell.Cell.{Cell}
use Rattle.tg_base.specs.declared.cell.Cell.TheVariants.{Junk, Data}
use Rattle.tg_base.specs.declared.ids.Oid.{Oid}
use Rattle.tg_base.specs.declared.layout.Range.{Range}
use Rattle.tg_base.specs.declared.marks.StreamLink.{StreamLink}
use Rattle.tg_codec.specs.Codec.{spell_many}
use Rattle.tg_codec.specs.Streams.{from_one, position, then_before, backs, link, after_link, links}
use Rattle.tg_codec.proofs.Laws.{and-left, and-right}
use Rattle.tg_codec.proofs.Many.{same_len}
use Rattle.tg_wire.specs.Fields.{page, cell, object, after_object, objects, gone_unit, after_gone, gone, chain_unit, after_unit, chain, stripe, after_stripe, stripes, range, after_range, ranges, projection_of, Proposal, vote}
use Rattle.tg_wire.specs.Rules.{is_link, are_links}
use Rattle.tg_protocol.specs.Entries.{sum_of}
use Rattle.tg_protocol.specs.Sizes.{page_size, cell_size, chain_size, range_size, layout_size, accepted_size}

pub page_len : (d : List ℕ) → length (page.spell d) ≡ page_size d
page_len d = omega arith

pub cell_len : (c : Cell) → length (cell.spell c) ≡ cell_size c
cell_len Junk = refl
cell_len (Data d) = omega arith

chain_len : (c : List ℕ) → length (chain.spell c) ≡ chain_size c
unfolding chain
chain_len c = let many = same_len chain_unit after_unit 2 (λ used u. refl) [] c in omega (arith, many)

chains_len : (s : Unit {0}) (cs : List (List ℕ)) → length (spell_many stripe after_stripe s cs) ≡ sum_of (map chain_size cs)
unfolding spell_many
chains_len s [] = refl
chains_len s (c ∷ cs) = length-append (chain.spell c) (spell_many stripe after_stripe s cs) ∙ (λ i. chain_len c i + chains_len s cs i)

stripes_len : (cs : List (List ℕ)) → length (stripes.spell cs) ≡ 1 + sum_of (map chain_size cs)
unfolding stripes
stripes_len cs = let many = chains_len tt cs in omega (arith, many)

range_len : (s : ℕ × ℕ) (r : Range) → length ((range s).spell r) ≡ range_size r
range_len s r = let many = stripes_len r.stripes in omega (arith, many)

many_ranges_len : (start : ℕ) (s : ℕ × ℕ) (rs : List Range) → length (spell_many range (after_range start) s rs) ≡ sum_of (map range_size rs)
unfolding spell_many
many_ranges_len start s [] = refl
many_ranges_len start s (r ∷ rs) = length-append ((range s).spell r) (spell_many range (after_range start) (after_range start s r) rs) ∙ (λ i. range_len s r i + many_ranges_len start (after_range start s r) rs i)

ranges_len : (start : ℕ) (rs : List Range) → length ((ranges start).spell rs) ≡ 1 + sum_of (map range_size rs)
unfolding ranges
ranges_len start rs = let many = many_ranges_len start (0, 0) rs in omega (arith, many)

gone_len : (us : List ℕ) → length (gone.spell us) ≡ 1 + 2 * length us
gone_len us = let many = same_len gone_unit after_gone 2 (λ low u. refl) 0 us in omega (arith, many)

pub layout_len : (epochs : List (ℕ × ℕ)) (l : Layout) → length ((projection_of epochs).spell l) ≡ layout_size l
unfolding projection_of
layout_len epochs l =
    let units = gone_len l.gone in
    let rest = ranges_len l.start l.ranges in
    let both = length-append (gone.spell l.gone) ((ranges l.start).spell l.ranges) in
    omega (arith, units, rest, both)

pub vote_len : (v : Option Proposal) → length (vote.spell v) ≡ accepted_size v
vote_len None = refl
vote_len (Some p) = let all = layout_len from_one p.1 in omega (arith, all)

pub objects_len : (counts : List (ℕ × ℕ)) (os : List Oid) → length ((objects counts).spell os) ≡ 1 + 4 * length os
objects_len counts os = let many = same_len object after_object 4 (λ low o. refl) 0 os in omega (arith, many)

backs_len : (ps : List ℕ) → length ps ≤ 4 → length (backs.spell ps) ≡ 33
backs_len ps few =
    let many = same_len position then_before 8 (λ r p. refl) (0, 2 ^ 64 - 1) ps in
    let zeros = length-replicate {A = ℕ} (8 * (4 - length ps)) 0 in
    let both = length-append (spell_many position then_before (0, 2 ^ 64 - 1) ps) (replicate (8 * (4 - length ps)) 0) in
    omega (arith, few, many, zeros, both)

link_len : (low : ℕ) (l : StreamLink) → is_link l ≡ true → length ((link low).spell l) ≡ 37
link_len low l h =
    let all = backs_len l.backs (leb-true (length l.backs) 4 (and-right _ _ (and-left _ _ h))) in
    omega (arith, all)

many_links_len : (low : ℕ) (ls : List StreamLink) → list_all is_link ls ≡ true → length (spell_many link after_link low ls) ≡ 37 * length ls
unfolding spell_many
many_links_len low [] h = refl
many_links_len low (l ∷ ls) h =
    let one = link_len low l (and-left _ _ h) in
    let rest = many_links_len (l.oid.0 + 1) ls (and-right _ _ h) in
    let both = length-append ((link low).spell l) (spell_many link after_link (l.oid.0 + 1) ls) in
    omega (arith, one, rest, both)

pub links_len : (counts : List (ℕ × ℕ)) (ls : List StreamLink) → are_links ls ≡ true → length ((links counts).spell ls) ≡ 1 + 37 * length ls
links_len counts ls h = let many = many_links_len 0 ls (and-right _ _ (and-left _ _ h)) in omega (arith, many)
