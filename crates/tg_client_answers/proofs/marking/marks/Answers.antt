use Rattle.std.proofs.Common.{◌≡◌, ℕ, List, ◌+◌, ap, subst, ◌∙◌, sym}
use Rattle.std.specs.Prelude.{◌≤◌, IfOk, ◌<◌, ◌^◌}
use Rattle.tg_play.proofs.Means.{means}
use Rattle.tg_entry.specs.declared.entry.Entry.{Entry}
use Rattle.tg_model.specs.Kinds.{NoteOf}
use Rattle.tg_protocol.specs.Answers.{appends, mark_record}
use Rattle.tg_protocol.specs.Clients.{Marks}
use Rattle.tg_client_state.specs.States.{StateOf, client_of, KeepsViewIf, KeepsMoved}
use Rattle.tg_client_answers.proofs.marking.marks.Goals as goal

pub returns : goal.returns
returns g c = λ r w old le hv hj.
    let m = means g.K.Kind g.K.Registry in
    let read : c.deref.result.now ≡ c.args.state = c.deref.ensures ∙ c.state.view_is in
    let was : c.deref_mut.result.now ≡ c.args.state = c.deref_mut.ensures.value ∙ c.state-2.view_is in
    let begun : c.deref.result.now.begun + 1 ≡ c.args.state.begun + 1 = ap (λ (s : StateOf m). s.begun + 1) read in
    subst (λ (ns : List (NoteOf m)). IfOk c.appends.result (λ x. KeepsMoved m old x (appends m (record (client_of m c.args.state r) { begun = c.args.state.begun + 1 }) w (mark_record m (client_of m c.args.state r) c.args.oid c.args.mark) (Marks (c.args.state.begun + 1) c.args.oid c.args.mark) ns))) c.in_ok-marking.ensures.notes
    (subst (λ (d : Entry). IfOk c.appends.result (λ x. KeepsMoved m old x (appends m (record (client_of m c.args.state r) { begun = c.args.state.begun + 1 }) w d (Marks (c.args.state.begun + 1) c.args.oid c.args.mark) c.in_ok-marking.marking.notes))) (c.in_ok-marking.ensures.draft r)
    (subst (λ (n : ℕ). IfOk c.appends.result (λ x. KeepsMoved m old x (appends m (record (client_of m c.args.state r) { begun = n }) w c.in_ok-marking.marking.draft (Marks n c.args.oid c.args.mark) c.in_ok-marking.marking.notes))) begun
    (subst (λ (s : StateOf m). old ≤ s.rids.next → KeepsViewIf m s.view r.view → IfOk c.appends.result (λ x. KeepsMoved m old x (appends m (record (client_of m s r) { begun = c.deref.result.now.begun + 1 }) w c.in_ok-marking.marking.draft (Marks (c.deref.result.now.begun + 1) c.args.oid c.args.mark) c.in_ok-marking.marking.notes))) was
    (λ since view. c.appends.ensures r w old since view hj) le hv)))

pub next_marking-requires : goal.next_marking-requires
next_marking-requires g c = c.requires.begun

pub appends-requires : goal.appends-requires
appends-requires g c =
    let m = means g.K.Kind g.K.Registry in
    let was : c.deref_mut.result.now ≡ c.args.state = c.deref_mut.ensures.value ∙ c.state-2.view_is in
    subst (λ (s : StateOf m). s.rids.next < 2 ^ 62) (sym was) c.requires.next
