use Rattle.std.proofs.Common.{List, sym, subst}
use Rattle.std.specs.Prelude.{IfOk}
use Rattle.tg_play.proofs.Means.{means}
use Rattle.tg_model.specs.Kinds.{NoteOf}
use Rattle.tg_protocol.specs.Answers.{Moved, holds}
use Rattle.tg_protocol.specs.Clients.{Syncing}
use Rattle.tg_client_state.specs.States.{client_of, KeepsMoved}
use Rattle.tg_client_state.proofs.Starting.{over, over_streams, sync_begins, syncs_by}
use Rattle.tg_client_state.proofs.state.State.syncs.Goals as goal

pub returns : goal.returns
returns g c = λ r w old le hv hj.
    let m = means g.K.Kind g.K.Registry in
    let b = c.in_ok-begun in
    subst (λ (x : Moved m). IfOk c.holds.result (λ y. KeepsMoved m old y x)) (sym (syncs_by m (client_of m c.args.self r) w c.args.oids b.begun.rids.next b.begun.machine b.ensures.begun))
    (subst (λ (ns : List (NoteOf m)). IfOk c.holds.result (λ y. KeepsMoved m old y (holds m (client_of m c.args.self r) (over_streams m w c.args.oids) (Syncing b.begun.machine) b.begun.rids.next ns))) c.new.ensures
    (c.holds.ensures r (over_streams m w c.args.oids) old (sync_begins m c.args.self.known c.args.self.stand c.args.oids c.args.self.rids.next b.begun.rids b.begun.machine b.begun.sends b.ensures.begun b.ensures.sends) le hv (over m c.args.job c.over_streams-job.result w c.args.oids c.over_streams-job.ensures hj)))
