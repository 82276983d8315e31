use Rattle.std.proofs.Common.{true, false, sym, ◌∙◌, ap}
use Rattle.tg_play.proofs.Means.{means}
use Rattle.tg_client_tasks.specs.Idle.{idle}
use Rattle.tg_client_tasks.proofs.Accepted.{ends_by, ends_none}
use Rattle.tg_protocol.specs.Transactions.{commit_record}
use Rattle.tg_client_state.specs.States.{StateOf}
use Rattle.tg_client_tasks.proofs.ends.ends.Goals as goal

pub returns-in-None : goal.returns-in-None
returns-in-None g c = λ v n h.
    let old = c.args.state.rids.next in
    ends_none (means g.K.Kind g.K.Registry) (idle (means g.K.Kind g.K.Registry) c.args.state v n) c.args.state.tx c.says.result old c.new.result (ap (λ (s : StateOf (means g.K.Kind g.K.Registry)). s.tx) (sym (c.deref.ensures ∙ c.state.view_is)) ∙ c.in-None.is) c.new.ensures (c.says.ensures v n old h)

pub returns-then-writes_nothing : goal.returns-then-writes_nothing
returns-then-writes_nothing g c = λ v n h.
    ends_by (means g.K.Kind g.K.Registry) (idle (means g.K.Kind g.K.Registry) c.args.state v n) c.in-Some.tx true c.args.state.tx c.ends_reads.result c.args.state.rids.next (ap (λ (s : StateOf (means g.K.Kind g.K.Registry)). s.tx) (sym (c.deref.ensures ∙ c.state.view_is)) ∙ c.in-Some.is) (sym c.if-writes_nothing.true ∙ c.writes_nothing.ensures)
    (c.ends_reads.ensures c.in-Some.tx c.number-number.ensures c.place_of-at.ensures v n h)

pub returns-in_ok-draft-in-Some : goal.returns-in_ok-draft-in-Some
returns-in_ok-draft-in-Some g c = λ v n h.
    ends_by (means g.K.Kind g.K.Registry) (idle (means g.K.Kind g.K.Registry) c.args.state v n) c.in-Some.tx false c.args.state.tx c.ends_writes.result c.args.state.rids.next (ap (λ (s : StateOf (means g.K.Kind g.K.Registry)). s.tx) (sym (c.deref.ensures ∙ c.state.view_is)) ∙ c.in-Some.is) (sym c.if-writes_nothing.false ∙ c.writes_nothing.ensures)
    (c.ends_writes.ensures c.in-Some.tx c.number-number.ensures (c.in_ok-draft-in-Some.ensures ∙ ap (λ (s : StateOf (means g.K.Kind g.K.Registry)). commit_record c.in-Some.tx s.num) (c.deref-in-Some.ensures ∙ c.state.view_is)) c.purpose_of-purpose.ensures v n h)
