use Rattle.std.proofs.Common.{sym, subst}
use Rattle.std.specs.Prelude.{IfOk}
use Rattle.tg_play.proofs.Means.{means}
use Rattle.tg_protocol.specs.Answers.{Moved}
use Rattle.tg_client_state.specs.Tasks.{told_purpose}
use Rattle.tg_client_state.specs.States.{client_of, KeepsMoved}
use Rattle.tg_client_state.proofs.Starting.{append_begins, appends_by}
use Rattle.tg_client_state.proofs.state.State.appends.Goals as goal

pub returns : goal.returns
returns g c = λ r w old le hv hj.
    let m = means g.K.Kind g.K.Registry in
    let b = c.in_ok-begun in
    subst (λ (x : Moved m). IfOk c.holds.result (λ y. KeepsMoved m old y x)) (sym (appends_by m (client_of m c.args.self r) w c.args.draft (told_purpose m c.args.purpose) c.args.notes b.begun.rids.next b.begun.machine b.ensures.begun))
    (c.holds.ensures r w old (append_begins m c.args.self.known c.args.self.stand c.args.draft c.args.self.rids.next b.begun.rids b.begun.machine c.args.purpose b.begun.sends b.ensures.begun b.ensures.sends) le hv hj)
