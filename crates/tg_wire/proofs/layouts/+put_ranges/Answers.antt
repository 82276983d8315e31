use Rattle.std.proofs.Common.{◌++◌, ◌∙◌, ◌-◌, ap, sym, take, drop, length, List}
use Rattle.tg_base.specs.declared.layout.Range.{Range}
use Rattle.tg_codec.specs.Codec.{spell_many}
use Rattle.tg_codec.proofs.Many.{glue}
use Rattle.tg_wire.specs.Fields.{range, after_range}
use Rattle.tg_wire.proofs.Splitting.{split_first, on_ok}
use Rattle.tg_wire.proofs.layouts.+put_ranges.Goals as goal

pub returns-in_ok-put_range-in-len1-up : goal.returns-in_ok-put_range-in-len1-up
unfolding spell_many
returns-in_ok-put_range-in-len1-up t c =
    let r = c.first-item.result in
    let rest = take (length c.args.values.now - 1) (drop 1 c.args.values.now) in
    let front = split_first c.args.values.now r c.in-len1-up.len_at_least c.first-item.is in
    on_ok c.put_ranges.result
    (λ h. λ start s.
    glue c.args.out.now ((range s).spell r) (spell_many range (after_range start) (after_range start s r) rest) _ _ (c.in_ok-put_range-in-len1-up.ensures s) (h start (after_range start s r))
    ∙ ap (λ (vs : List Range). c.args.out.now ++ spell_many range (after_range start) s vs) (sym front))
    c.put_ranges.ensures
