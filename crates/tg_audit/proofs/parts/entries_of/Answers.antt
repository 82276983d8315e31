use Rattle.std.proofs.Common.{ℕ, ap, ◌∙◌}
use Rattle.std.specs.Prelude.{filter}
use Rattle.tg_audit.proofs.Kept.{entries_kept, within_items}
use Rattle.tg_audit.proofs.Means.{means}
use Rattle.tg_audit.specs.Judging.{entry_of}
use Rattle.tg_audit.specs.Places.{cut, window_of}
use Rattle.tg_audit.specs.Runs.{entry_key}
use Rattle.tg_audit.proofs.parts.entries_of.Goals as goal

pub part-requires : goal.part-requires
part-requires g c = within_items (entry_key (means g.K.Kind g.K.Registry)) c.args.history.now c.args.entries.now.windows c.requires.entries

pub returns : goal.returns
returns g c =
    ap (filter (entry_of (means g.K.Kind g.K.Registry) c.args.client c.args.tx)) (c.part.ensures ∙ ap (λ (q : ℕ). cut (window_of c.args.entries.now.windows q) c.args.most c.args.history.now) c.key.ensures)
    ∙ entries_kept (means g.K.Kind g.K.Registry) c.args.history.now c.args.entries.now.windows c.args.client c.args.tx c.args.most c.requires.most c.requires.entries
