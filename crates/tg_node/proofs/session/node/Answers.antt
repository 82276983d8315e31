use Rattle.tg_io.specs.declared.status.Status.TheVariants as status
use Rattle.tg_node.proofs.Ending.{told_as, complete_told, ends_told, refuses_told, refuses_or_told}
use Rattle.tg_node.proofs.Limits.{limits_told}
use Rattle.tg_node.proofs.session.node.Goals as goal

pub returns-clause-done : goal.returns-clause-done
returns-clause-done g c = λ e. told_as (g.S.Source.left c.args.source.now) c.args.id c.run_node.result status.Done _ _ c.run_node.ensures.outcome e

pub returns-clause-script : goal.returns-clause-script
returns-clause-script g c = λ line e. told_as (g.S.Source.left c.args.source.now) c.args.id c.run_node.result (status.Script line) _ _ c.run_node.ensures.outcome e

pub returns-clause-limit : goal.returns-clause-limit
returns-clause-limit g c = λ which e. told_as (g.S.Source.left c.args.source.now) c.args.id c.run_node.result (status.Limit which) _ _ c.run_node.ensures.outcome e

pub returns-clause-read_cut : goal.returns-clause-read_cut
returns-clause-read_cut g c = λ e. told_as (g.S.Source.left c.args.source.now) c.args.id c.run_node.result status.ReadFault _ _ c.run_node.ensures.outcome e

pub returns-clause-write_cut : goal.returns-clause-write_cut
returns-clause-write_cut g c = λ e. told_as (g.S.Source.left c.args.source.now) c.args.id c.run_node.result status.WriteFault _ _ c.run_node.ensures.outcome e

pub returns-clause-link_cut : goal.returns-clause-link_cut
returns-clause-link_cut g c = λ e. told_as (g.S.Source.left c.args.source.now) c.args.id c.run_node.result status.LinkFault _ _ c.run_node.ensures.outcome e

pub returns-clause-memory_cut : goal.returns-clause-memory_cut
returns-clause-memory_cut g c = λ e. told_as (g.S.Source.left c.args.source.now) c.args.id c.run_node.result status.NoMemory _ _ c.run_node.ensures.outcome e

pub returns-clause-complete : goal.returns-clause-complete
returns-clause-complete g c = λ no_read no_write no_link.
    let r = c.run_node in
    complete_told (g.S.Source.left c.args.source.now) c.args.id r.result _ _ r.ensures.outcome
    (record { reads = λ e. no_read (r.ensures.causes.read e); writes = λ e. no_write (r.ensures.causes.write e); sends = λ e. no_link (r.ensures.causes.link e) })

pub returns-clause-refuses : goal.returns-clause-refuses
returns-clause-refuses g c = λ no_read no_write no_link.
    let r = c.run_node in
    refuses_told (g.S.Source.left c.args.source.now) c.args.id r.result _ _ r.ensures.outcome
    (record { reads = λ e. no_read (r.ensures.causes.read e); writes = λ e. no_write (r.ensures.causes.write e); sends = λ e. no_link (r.ensures.causes.link e) })

pub returns-clause-limits : goal.returns-clause-limits
returns-clause-limits g c = λ no_read no_write no_link.
    let r = c.run_node in
    limits_told (g.S.Source.left c.args.source.now) c.args.id r.result _ _ r.ensures.outcome
    (record { reads = λ e. no_read (r.ensures.causes.read e); writes = λ e. no_write (r.ensures.causes.write e); sends = λ e. no_link (r.ensures.causes.link e) })

pub returns-clause-ends : goal.returns-clause-ends
returns-clause-ends g c = λ no_read no_write no_link.
    let r = c.run_node in
    ends_told (g.S.Source.left c.args.source.now) c.args.id r.result _ _ r.ensures.outcome
    (record { reads = λ e. no_read (r.ensures.causes.read e); writes = λ e. no_write (r.ensures.causes.write e); sends = λ e. no_link (r.ensures.causes.link e) })

pub returns-clause-refuses_or_ends : goal.returns-clause-refuses_or_ends
returns-clause-refuses_or_ends g c = λ no_read no_write no_link.
    let r = c.run_node in
    refuses_or_told (g.S.Source.left c.args.source.now) c.args.id r.result _ _ r.ensures.outcome
    (record { reads = λ e. no_read (r.ensures.causes.read e); writes = λ e. no_write (r.ensures.causes.write e); sends = λ e. no_link (r.ensures.causes.link e) })
