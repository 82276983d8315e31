use Rattle.tg_model.specs.declared.command.Command.TheVariants as cmd
use Rattle.std.proofs.Common.{Option, Some, None, subst, sym, ap, ◌∙◌}
use Rattle.tg_model.specs.declared.refusal.Refusal.{Refusal}
use Rattle.tg_protocol.specs.Clients.{write_of}
use Rattle.tg_client_tasks.specs.Idle.{idle}
use Rattle.tg_client_tasks.specs.Tests.{put_by}
use Rattle.tg_play.proofs.Means.{means}
use Rattle.tg_client_tasks.proofs.Accepted.{put_refused, put_taken_if, put_as}
use Rattle.tg_client_tasks.proofs.puts.put_said.Goals as goal

pub returns-in-Some : goal.returns-in-Some
returns-in-Some g c = λ t hk hs v n h.
    put_as (means g.K.Kind g.K.Registry) (idle (means g.K.Kind g.K.Registry) (record c.args.state { tx = Some t }) v n) (cmd.Put c.args.oid c.args.op) (Some c.in-Some.why) c.args.why c.refuses.result c.args.state.rids.next (sym c.in-Some.is)
    (put_refused (means g.K.Kind g.K.Registry) c.args.state v n c.args.state.rids.next t (cmd.Put c.args.oid c.args.op) c.in-Some.why c.refuses.result (hs ∙ ap (λ (k : Option Refusal). Some (put_by k t (write_of (means g.K.Kind g.K.Registry) c.args.oid c.args.op))) c.in-Some.is) (c.refuses.ensures v n h))

pub returns-in_ok-notes-in-None : goal.returns-in_ok-notes-in-None
returns-in_ok-notes-in-None g c = λ t hk hs v n h.
    let old = c.args.state.rids.next in
    put_taken_if (means g.K.Kind g.K.Registry) c.args.state v n old c.args.number t c.args.oid c.args.op c.in_ok-notes-in-None.notes c.says.result c.args.why c.in-None.is hk (hs ∙ ap (λ (k : Option Refusal). Some (put_by k t (write_of (means g.K.Kind g.K.Registry) c.args.oid c.args.op))) c.in-None.is) c.in_ok-notes-in-None.ensures (c.says.ensures v n old h)
