use Rattle.std.proofs.Common.{◌∙◌, List, ◌++◌, ◌∷◌, [], ap}
use Rattle.tg_model.specs.Kinds.{NoteOf}
use Rattle.tg_model.specs.declared.trace.What.TheVariants as what
use Rattle.tg_protocol.specs.Answers.{note}
use Rattle.tg_play.proofs.Means.{means}
use Rattle.tg_client_tasks.proofs.Accepted.{closed_view, ended_reads}
use Rattle.tg_client_tasks.proofs.ends.ends_reads.Goals as goal

pub returns : goal.returns
returns g c = λ t hk ha v n h.
    let old = c.args.state.rids.next in
    ended_reads (means g.K.Kind g.K.Registry) c.args.state c.closed.result v n old c.args.number c.args.at t c.push.new.self c.says.result c.closed.ensures hk ha
    (c.in_ok-push.ensures.ok ∙ ap (λ (l : List (NoteOf (means g.K.Kind g.K.Registry))). l ++ note (means g.K.Kind g.K.Registry) c.args.number (what.Committed c.args.at) ∷ []) c.in_ok-notes.ensures)
    (c.says.ensures v n old (closed_view (means g.K.Kind g.K.Registry) c.args.state c.closed.result v c.closed.ensures h))
