use Rattle.std.proofs.Common.{◌≡◌, List, subst, ◌∙◌}
use Rattle.std.specs.Prelude.{◌≤◌, [], IfOk}
use Rattle.tg_play.proofs.Means.{means}
use Rattle.tg_entry.specs.declared.entry.Entry.{Entry}
use Rattle.tg_model.specs.Kinds.{NoteOf}
use Rattle.tg_protocol.specs.Answers.{appends, with_decision}
use Rattle.tg_client_state.specs.Tasks.{told_purpose}
use Rattle.tg_client_state.specs.States.{StateOf, client_of, KeepsMoved, KeepsViewIf}
use Rattle.tg_client_state.proofs.state.State.decides.Goals as goal

pub returns : goal.returns
returns g c = λ r w old le hv hj.
    let m = means g.K.Kind g.K.Registry in
    let was : c.deref_mut.result.now ≡ c.args.self = c.deref_mut.ensures.value ∙ c.state.view_is in
    subst (λ (d : Entry). IfOk c.appends.result (λ x. KeepsMoved m old x (appends m (with_decision m (client_of m c.args.self r)) w d (told_purpose m c.args.purpose) []))) c.in_ok-draft.ensures.draft
    (subst (λ (ns : List (NoteOf m)). IfOk c.appends.result (λ x. KeepsMoved m old x (appends m (with_decision m (client_of m c.args.self r)) w c.in_ok-draft.draft (told_purpose m c.args.purpose) ns))) c.new.ensures
    (subst (λ (s : StateOf m). old ≤ s.rids.next → KeepsViewIf m s.view r.view → IfOk c.appends.result (λ x. KeepsMoved m old x (appends m (with_decision m (client_of m s r)) w c.in_ok-draft.draft (told_purpose m c.args.purpose) c.new.result))) was
    (λ since view. c.appends.ensures r w old since view hj) le hv))
