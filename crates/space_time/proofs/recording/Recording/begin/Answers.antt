use Rattle.std.proofs.Common.{refl}
use Rattle.tg_any.specs.AllKinds.{all_kinds}
use Rattle.tg_world.proofs.Numbering.{event_next}
use Rattle.space_time.proofs.Moving.{begun}
use Rattle.space_time.proofs.recording.Recording.begin.Goals as goal

pub returns : goal.returns
returns c =
    let events = event_next all_kinds c.args.self.run.world c.next_event.result _ c.requires.recorded.world (c.next_event.ensures _ c.requires.recorded.world) in
    begun c.args.self _ c.requires.recorded refl refl events (λ w k. c.next_event.ensures w k)
