use Rattle.tg_live.specs.Stages.{over}
use Rattle.tg_live.proofs.Promises.{complete_told, ends_told}
use Rattle.tg_live.proofs.Exact.{refuses_told, refuses_or_told, limits_told}
use Rattle.tg_live.specs.Sends.{carried}
use Rattle.tg_live.proofs.report.run.Goals as goal

pub returns-clause-complete : goal.returns-clause-complete
returns-clause-complete g c = λ no_read no_write no_link.
    let r = c.run_and_write in
    complete_told (g.S.Source.left c.args.source.now) (g.K.Sink.written c.args.sink.now) (g.K.Sink.written r.new.sink)
    (over (g.L.Link.handed c.args.link.now) (g.L.Link.handed r.new.link) (carried (g.L.Link.sent c.args.link.now) (g.L.Link.acts c.args.link.now)) (carried (g.L.Link.sent r.new.link) (g.L.Link.acts r.new.link))) r.result r.ensures.written r.ensures.ways
    (record { reads = λ e. no_read (r.ensures.read_fault e); writes = λ e. no_write (r.ensures.write_fault e); carries = λ e. no_link (r.ensures.link_fault e) })

pub returns-clause-refuses : goal.returns-clause-refuses
returns-clause-refuses g c = λ no_read no_write no_link.
    let r = c.run_and_write in
    refuses_told (g.S.Source.left c.args.source.now) (g.K.Sink.written c.args.sink.now) (g.K.Sink.written r.new.sink)
    (over (g.L.Link.handed c.args.link.now) (g.L.Link.handed r.new.link) (carried (g.L.Link.sent c.args.link.now) (g.L.Link.acts c.args.link.now)) (carried (g.L.Link.sent r.new.link) (g.L.Link.acts r.new.link))) r.result r.ensures.written r.ensures.ways
    (record { reads = λ e. no_read (r.ensures.read_fault e); writes = λ e. no_write (r.ensures.write_fault e); carries = λ e. no_link (r.ensures.link_fault e) })

pub returns-clause-limits : goal.returns-clause-limits
returns-clause-limits g c = λ no_read no_write no_link.
    let r = c.run_and_write in
    limits_told (g.S.Source.left c.args.source.now) (g.K.Sink.written c.args.sink.now) (g.K.Sink.written r.new.sink)
    (over (g.L.Link.handed c.args.link.now) (g.L.Link.handed r.new.link) (carried (g.L.Link.sent c.args.link.now) (g.L.Link.acts c.args.link.now)) (carried (g.L.Link.sent r.new.link) (g.L.Link.acts r.new.link))) r.result r.ensures.written r.ensures.ways
    (record { reads = λ e. no_read (r.ensures.read_fault e); writes = λ e. no_write (r.ensures.write_fault e); carries = λ e. no_link (r.ensures.link_fault e) })

pub returns-clause-ends : goal.returns-clause-ends
returns-clause-ends g c = λ no_read no_write no_link.
    let r = c.run_and_write in
    ends_told (g.S.Source.left c.args.source.now) (g.K.Sink.written c.args.sink.now) (g.K.Sink.written r.new.sink)
    (over (g.L.Link.handed c.args.link.now) (g.L.Link.handed r.new.link) (carried (g.L.Link.sent c.args.link.now) (g.L.Link.acts c.args.link.now)) (carried (g.L.Link.sent r.new.link) (g.L.Link.acts r.new.link))) r.result r.ensures.written r.ensures.ways
    (record { reads = λ e. no_read (r.ensures.read_fault e); writes = λ e. no_write (r.ensures.write_fault e); carries = λ e. no_link (r.ensures.link_fault e) })

pub returns-clause-refuses_or_ends : goal.returns-clause-refuses_or_ends
returns-clause-refuses_or_ends g c = λ no_read no_write no_link.
    let r = c.run_and_write in
    refuses_or_told (g.S.Source.left c.args.source.now) (g.K.Sink.written c.args.sink.now) (g.K.Sink.written r.new.sink)
    (over (g.L.Link.handed c.args.link.now) (g.L.Link.handed r.new.link) (carried (g.L.Link.sent c.args.link.now) (g.L.Link.acts c.args.link.now)) (carried (g.L.Link.sent r.new.link) (g.L.Link.acts r.new.link))) r.result r.ensures.written r.ensures.ways
    (record { reads = λ e. no_read (r.ensures.read_fault e); writes = λ e. no_write (r.ensures.write_fault e); carries = λ e. no_link (r.ensures.link_fault e) })
