use Rattle.std.proofs.Common.{None}
use Rattle.tg_play.proofs.Means.{means}
use Rattle.tg_client_tasks.proofs.Accepted.{refused_so}
use Rattle.tg_client_tasks.proofs.puts.refuses.Goals as goal

pub returns : goal.returns
returns g c = λ v n h.
    let old = c.args.state.rids.next in
    refused_so (means g.K.Kind g.K.Registry) c.args.state v n old c.number_on-number.result c.args.why c.in_ok-notes.notes c.says.result (c.number_on-number.ensures (record { view = v; played = n; work = None })) c.in_ok-notes.ensures (c.says.ensures v n old h)
