use Rattle.std.proofs.Common.{◌≡◌, ℕ, List, ap, subst, ◌∙◌, sym}
use Rattle.std.specs.Prelude.{◌≤◌, ◌+◌, IfOk, ◌<◌, ◌^◌}
use Rattle.tg_play.proofs.Means.{means}
use Rattle.tg_model.specs.Kinds.{NoteOf}
use Rattle.tg_protocol.specs.Answers.{appends}
use Rattle.tg_protocol.specs.Clients.{Saves}
use Rattle.tg_client_state.specs.Tasks.{JobOf}
use Rattle.tg_client_state.specs.States.{StateOf, client_of, KeepsViewIf, KeepsMoved}
use Rattle.tg_client_answers.proofs.saving.puts.Goals as goal

pub returns : goal.returns
returns g c = λ r w old le hv hj.
    let m = means g.K.Kind g.K.Registry in
    let made : c.deref.result.now.checkpoints + 1 ≡ c.args.state.checkpoints + 1 = ap (λ (s : StateOf m). s.checkpoints + 1) (c.deref.ensures ∙ c.state.view_is) in
    let upto : c.deref-2.result.now.tail ≡ c.args.job.tail = ap (λ (j : JobOf m). j.tail) (c.deref-2.ensures ∙ c.job.view_is) in
    let was : c.deref_mut.result.now ≡ c.args.state = c.deref_mut.ensures.value ∙ c.state-2.view_is in
    subst (λ (ns : List (NoteOf m)). IfOk c.appends.result (λ x. KeepsMoved m old x (appends m (record (client_of m c.args.state r) { checkpoints = c.args.state.checkpoints + 1 }) w c.args.draft (Saves c.args.oid c.args.job.tail) ns))) c.new.ensures
    (subst (λ (n : ℕ). IfOk c.appends.result (λ x. KeepsMoved m old x (appends m (record (client_of m c.args.state r) { checkpoints = n }) w c.args.draft (Saves c.args.oid c.args.job.tail) c.new.result))) made
    (subst (λ (n : ℕ). IfOk c.appends.result (λ x. KeepsMoved m old x (appends m (record (client_of m c.args.state r) { checkpoints = c.deref.result.now.checkpoints + 1 }) w c.args.draft (Saves c.args.oid n) c.new.result))) upto
    (subst (λ (s : StateOf m). old ≤ s.rids.next → KeepsViewIf m s.view r.view → IfOk c.appends.result (λ x. KeepsMoved m old x (appends m (record (client_of m s r) { checkpoints = c.deref.result.now.checkpoints + 1 }) w c.args.draft (Saves c.args.oid c.deref-2.result.now.tail) c.new.result))) was
    (λ since view. c.appends.ensures r w old since view hj) le hv)))

pub appends-requires : goal.appends-requires
appends-requires g c =
    let m = means g.K.Kind g.K.Registry in
    let was : c.deref_mut.result.now ≡ c.args.state = c.deref_mut.ensures.value ∙ c.state-2.view_is in
    subst (λ (s : StateOf m). s.rids.next < 2 ^ 62) (sym was) c.requires.numbers
