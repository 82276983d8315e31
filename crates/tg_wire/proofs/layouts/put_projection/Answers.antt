use Rattle.std.proofs.Common.{◌++◌, ◌∙◌, List, ℕ, ap}
use Rattle.std.specs.Int.{w16, w64, to_be_bytes}
use Rattle.tg_base.specs.Layouts.{Layout}
use Rattle.tg_base.specs.declared.layout.Range.{Range}
use Rattle.tg_codec.proofs.Many.{glue}
use Rattle.tg_wire.specs.Fields.{gone, ranges, projection_of, projection}
use Rattle.tg_wire.proofs.Splitting.{on_ok}
use Rattle.tg_wire.proofs.layouts.put_projection.Goals as goal

pub returns : goal.returns
unfolding projection_of
returns c =
    let l = c.value.inside in
    let epoch = to_be_bytes w64 l.epoch in
    let seq = to_be_bytes w16 l.seq in
    let start = to_be_bytes w64 l.start in
    let by = to_be_bytes w16 l.by in
    let units = gone.spell l.gone in
    let rest = (ranges l.start).spell l.ranges in
    let gone_put = c.in_ok-put_gone.ensures ∙ ap (λ (us : List ℕ). c.put_u16-2.new.out ++ gone.spell us) c.as_slice.ensures in
    on_ok c.put_counted.result
    (λ h.
    glue c.args.out.now epoch (seq ++ (start ++ (by ++ (units ++ rest)))) _ _ c.in_ok-put_u64.ensures
    (glue _ seq (start ++ (by ++ (units ++ rest))) _ _ c.in_ok-put_u16.ensures
    (glue _ start (by ++ (units ++ rest)) _ _ c.in_ok-put_u64-2.ensures
    (glue _ by (units ++ rest) _ _ c.in_ok-put_u16-2.ensures
    (glue _ units rest _ _ gone_put (h l.start ∙ ap (λ (rs : List Range). c.put_gone.new.out ++ (ranges l.start).spell rs) c.as_slice-2.ensures)))))
    ∙ ap (λ (m : Layout). c.args.out.now ++ projection.spell m) c.value.view_is)
    c.put_counted.ensures
