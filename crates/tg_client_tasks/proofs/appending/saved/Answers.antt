use Rattle.std.proofs.Common.{ℕ, refl}
use Rattle.tg_play.proofs.Means.{means}
use Rattle.tg_model.specs.declared.trace.What.TheVariants as told
use Rattle.tg_protocol.specs.Answers.{answers}
use Rattle.tg_client_state.proofs.Waiting.{moved_at}
use Rattle.tg_client_tasks.proofs.appending.saved.Goals as goal

pub returns : goal.returns
returns g c = λ r w old h.
    moved_at (means g.K.Kind g.K.Registry) (λ (n : ℕ) d. answers (means g.K.Kind g.K.Registry) d n (told.Saved c.args.oid c.args.pos c.args.upto)) c.answers.result c.in_ok-state.state _ 0 0 r old c.in_ok-state.ensures refl c.answers.ensures h
