use Rattle.std.proofs.Common.{◌≡◌, sym, ap, ◌∙◌}
use Rattle.tg_protocol.specs.Reconfiguring.{Agreeing}
use Rattle.tg_reconf.specs.States.{working, voting_of, stage_of}
use Rattle.tg_reconf.specs.Turns.{by_reconf}
use Rattle.tg_reconf.proofs.Voting.{quiet, not_vote}
use Rattle.tg_reconf.proofs.agreeing.on_stage.Goals as goal

pub returns-in_default-clause-turn : goal.returns-in_default-clause-turn
returns-in_default-clause-turn c =
    let v = voting_of c.args.vote in
    let old = c.args.rids.now.next in
    c.stay.ensures old ∙ ap (by_reconf old) (sym (quiet (working c.args.plan (Agreeing v)) v v (stage_of c.args.vote.stage) c.args.server c.args.msg.now old
    (not_vote v c.args.msg.now c.in_default.not-Promise c.in_default.not-Accepted c.in_default.not-Nack)))
