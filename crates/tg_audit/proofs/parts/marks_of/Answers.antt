use Rattle.std.proofs.Common.{ℕ, ap, ◌∙◌}
use Rattle.std.specs.Prelude.{filter}
use Rattle.tg_model.specs.Traces.{Trace}
use Rattle.tg_audit.proofs.Kept.{marks_kept, within_items}
use Rattle.tg_audit.proofs.Means.{means}
use Rattle.tg_audit.specs.Judging.{is_of}
use Rattle.tg_audit.specs.Places.{cut, window_of}
use Rattle.tg_audit.specs.Runs.{mark_key}
use Rattle.tg_audit.proofs.parts.marks_of.Goals as goal

pub part-requires : goal.part-requires
part-requires g c = within_items (mark_key (means g.K.Kind g.K.Registry)) c.args.trace.now c.args.marks.now.windows c.requires.marks

pub returns : goal.returns
returns g c =
    ap (filter (is_of (means g.K.Kind g.K.Registry) c.args.client c.args.tx)) (c.part.ensures ∙ ap (λ (q : ℕ). cut (window_of c.args.marks.now.windows q) c.args.most c.args.trace.now) c.key.ensures)
    ∙ marks_kept (means g.K.Kind g.K.Registry) c.args.trace.now c.args.marks.now.windows c.args.client c.args.tx c.args.most c.requires.most c.requires.marks
