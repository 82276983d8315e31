use Rattle.std.proofs.Common.{ap, ◌∙◌}
use Rattle.std.specs.Prelude.{filter}
use Rattle.tg_model.specs.Stores.{has_stamp}
use Rattle.tg_audit.proofs.Kept.{stamps_kept, within_items}
use Rattle.tg_audit.proofs.Means.{means}
use Rattle.tg_audit.specs.Runs.{stamp_of}
use Rattle.tg_audit.proofs.parts.stamped_at.Goals as goal

pub part-requires : goal.part-requires
part-requires g c = within_items (stamp_of (means g.K.Kind g.K.Registry)) c.args.history.now c.args.stamped.now.windows c.requires

pub returns : goal.returns
returns g c =
    ap (filter (has_stamp (means g.K.Kind g.K.Registry) c.args.stamp)) c.part.ensures
    ∙ stamps_kept (means g.K.Kind g.K.Registry) c.args.history.now c.args.stamped.now.windows c.args.stamp c.requires
