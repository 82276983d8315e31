use Rattle.tg_any.specs.AllKinds.{all_kinds}
use Rattle.tg_world.proofs.Numbering.{none_begun}
use Rattle.space_time.proofs.recording.Recording.start.Goals as goal

pub returns-clause-events : goal.returns-clause-events
returns-clause-events c = none_begun all_kinds c.args.cluster c.in_ok-world.world c.in_ok-world.ensures
