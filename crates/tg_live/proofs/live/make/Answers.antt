use Rattle.std.proofs.lemmas.Result.{IfOk-weaker}
use Rattle.tg_protocol.specs.Worlds.{next_event}
use Rattle.tg_any.specs.AllKinds.{all_kinds}
use Rattle.tg_replay.proofs.Numbering.{counts_line}
use Rattle.tg_live.proofs.live.make.Goals as goal

pub play_line-requires : goal.play_line-requires
play_line-requires c = record { world = next_event all_kinds c.requires.kept.world; keeps = c.next_event.ensures c.requires.kept.world c.requires.kept.keeps }

pub returns-clause-event : goal.returns-clause-event
returns-clause-event c =
    let w = c.requires.kept.world in
    IfOk-weaker c.play_line.result _ _ (λ r keeps. counts_line c.args.world r.world w c.args.line c.requires.kept.keeps keeps)
    (c.play_line.ensures.world (next_event all_kinds w) (c.next_event.ensures w c.requires.kept.keeps))

pub returns-clause-world : goal.returns-clause-world
returns-clause-world c = λ w k. c.play_line.ensures.world (next_event all_kinds w) (c.next_event.ensures w k)

pub returns-clause-stopped : goal.returns-clause-stopped
returns-clause-stopped c = λ w k. c.play_line.ensures.stopped (next_event all_kinds w) (c.next_event.ensures w k)
