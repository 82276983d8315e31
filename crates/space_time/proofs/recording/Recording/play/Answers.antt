use Rattle.tg_replay.specs.Runs.{line_in}
use Rattle.space_time.proofs.Feeding.{kept, counts, made}
use Rattle.space_time.proofs.recording.Recording.play.Goals as goal

pub play_line-requires : goal.play_line-requires
play_line-requires c = c.in_ok-begun.ensures.recorded

pub returns-clause-kept : goal.returns-clause-kept
returns-clause-kept c = kept c.in_ok-play_line.field-0 c.after.result c.in_ok-play_line.ensures.recorded (record { goes = c.after.ensures.goes; stops = c.after.ensures.stops })

pub returns-clause-counts : goal.returns-clause-counts
returns-clause-counts c = counts c.args.self c.in_ok-begun.begun c.in_ok-play_line.field-0 c.after.result (λ w. line_in w c.args.line) c.in_ok-begun.ensures c.in_ok-play_line.ensures (record { goes = c.after.ensures.goes; stops = c.after.ensures.stops })

pub returns-clause-made : goal.returns-clause-made
returns-clause-made c = λ w k.
    made c.args.self c.in_ok-begun.begun c.in_ok-play_line.field-0 c.after.result c.args.line c.in_ok-begun.ensures c.in_ok-play_line.ensures
    (record { goes = c.after.ensures.goes; stops = c.after.ensures.stops }) w k
