use Rattle.std.proofs.Common.{◌≡◌, ◌-◌, ap, take, drop, length, List, ◌∷◌, arith}
use Rattle.std.proofs.lemmas.List.{length-append}
use Rattle.tg_base.specs.declared.layout.Range.{Range}
use Rattle.tg_codec.specs.Codec.{spell_many}
use Rattle.tg_wire.specs.Fields.{range, after_range}
use Rattle.tg_wire.proofs.Splitting.{split_first}
use Rattle.tg_wire.proofs.layouts.+size_ranges.Goals as goal

pub returns-in-len1-up-clause-len : goal.returns-in-len1-up-clause-len
unfolding spell_many
returns-in-len1-up-clause-len t c = λ start s.
    let r = c.first-item.result in
    let rest = take (length c.args.values.now - 1) (drop 1 c.args.values.now) in
    let front = split_first c.args.values.now r c.in-len1-up.len_at_least c.first-item.is in
    let here = c.size_range.ensures.len s in
    let later = c.size_ranges.ensures.len start (after_range start s r) in
    let all : length (spell_many range (after_range start) s c.args.values.now) ≡ length (spell_many range (after_range start) s (r ∷ rest)) = ap (λ (vs : List Range). length (spell_many range (after_range start) s vs)) front in
    omega (arith, here, later, all, length-append ((range s).spell r) (spell_many range (after_range start) (after_range start s r) rest))
