use Rattle.std.proofs.Common.{List, subst}
use Rattle.std.specs.Prelude.{IfOk}
use Rattle.tg_model.specs.Kinds.{NoteOf}
use Rattle.tg_play.proofs.Means.{means}
use Rattle.tg_protocol.specs.Answers.{replies}
use Rattle.tg_client_state.specs.States.{client_of, KeepsMoved}
use Rattle.tg_client_answers.proofs.rescue.rescued.Goals as goal

pub returns : goal.returns
returns g c = λ r old hv.
    let m = means g.K.Kind g.K.Registry in
    subst (λ (ns : List (NoteOf m)). IfOk c.replies.result (λ x. KeepsMoved m old x (replies m (client_of m c.args.state r) ns))) c.in_ok-notes.ensures (c.replies.ensures r old hv)
