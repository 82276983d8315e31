use Rattle.std.proofs.Common.{sym, ◌∙◌}
use Rattle.space_time.proofs.Parts.{halted, happened}
use Rattle.space_time.proofs.going.happens.Goals as goal

pub returns-in-Some : goal.returns-in-Some
returns-in-Some c = halted c.args.recording c.args.event c.in-Some.which c.requires (λ w k. sym (c.limit.ensures.limit w k) ∙ c.in-Some.is)

pub returns-in_ok-recording-in-None : goal.returns-in_ok-recording-in-None
returns-in_ok-recording-in-None c =
    happened c.args.recording c.in_ok-recording-in-None.recording c.args.event c.in_ok-recording-in-None.ensures.step (λ w k. sym (c.limit.ensures.limit w k) ∙ c.in-None.is)
