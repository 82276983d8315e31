use Rattle.std.proofs.Common.{List, sym, subst}
use Rattle.std.specs.Prelude.{IfOk}
use Rattle.tg_play.proofs.Means.{means}
use Rattle.tg_model.specs.Kinds.{NoteOf}
use Rattle.tg_protocol.specs.Answers.{Moved, holds}
use Rattle.tg_protocol.specs.Clients.{Trimming}
use Rattle.tg_client_state.specs.States.{client_of, KeepsMoved}
use Rattle.tg_client_state.proofs.Starting.{trim_begins, trims_by}
use Rattle.tg_client_state.proofs.state.State.trims_some.Goals as goal

pub returns : goal.returns
returns g c = λ r w old le hv hj.
    let m = means g.K.Kind g.K.Registry in
    let b = c.in_ok-begun in
    subst (λ (x : Moved m). IfOk c.holds.result (λ y. KeepsMoved m old y x)) (sym (trims_by m (client_of m c.args.self r) w c.args.below b.begun.rids.next b.begun.machine c.requires.some b.ensures.begun))
    (subst (λ (ns : List (NoteOf m)). IfOk c.holds.result (λ y. KeepsMoved m old y (holds m (client_of m c.args.self r) w (Trimming b.begun.machine) b.begun.rids.next ns))) c.new.ensures
    (c.holds.ensures r w old (trim_begins m c.args.self.known c.args.self.stand c.args.below c.args.self.rids.next b.begun.rids b.begun.machine b.begun.sends b.ensures.begun b.ensures.sends) le hv hj))
