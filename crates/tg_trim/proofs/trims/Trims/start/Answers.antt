use Rattle.std.proofs.Common.{◌+◌, length, ap, ◌∙◌}
use Rattle.tg_base.specs.Layouts.{Layout}
use Rattle.tg_base.specs.declared.msg.Msg.TheVariants as msg
use Rattle.tg_protocol.specs.Words.{unit_id}
use Rattle.tg_protocol.specs.Requests.{waits_for, asked_of}
use Rattle.tg_trim.proofs.Started.{started}
use Rattle.tg_trim.proofs.trims.Trims.start.Goals as goal

pub returns-clause-turn : goal.returns-clause-turn
returns-clause-turn c =
    let next = c.args.rids.now.next in
    let units = c.as_slice.ensures ∙ c.in_ok-units.ensures.units in
    let epoch = ap (λ (q : Layout). q.epoch) c.proj.view_is in
    started c.args.proj.now c.args.below next _ _ _
    (c.in_ok-waits.ensures.next ∙ ap (λ us. next + length us) units)
    (c.in_ok-waits.ensures.waits ∙ ap (λ us. waits_for us next) units)
    (c.in_ok-outs.ensures ∙ ap (asked_of unit_id (msg.Trim c.proj.inside.epoch c.args.below)) c.as_slice-2.ensures
    ∙ ap (λ e. asked_of unit_id (msg.Trim e c.args.below) c.in_ok-waits.waits) epoch)
