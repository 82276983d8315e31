use Rattle.std.proofs.Common.{◌≡◌, ap, ◌∙◌}
use Rattle.tg_play.proofs.Means.{means}
use Rattle.tg_client_cells.specs.Known.{Knowledge, owned}
use Rattle.tg_client_state.specs.States.{StateOf}
use Rattle.tg_client_tasks.proofs.records.owns.Goals as goal

pub returns : goal.returns
returns g c =
    let m = means g.K.Kind g.K.Registry in
    let k : Knowledge = c.in_ok-known.known in
    let was : c.deref_mut.result.now ≡ c.args.state = c.deref_mut.ensures.value ∙ c.state.view_is in
    let taken : c.replace-taken.result ≡ c.args.state.known = c.replace-taken.ensures.value ∙ ap (λ (s : StateOf m). s.known) was in
    let known : k ≡ owned c.args.state.known c.args.pos c.args.page = c.in_ok-known.ensures ∙ ap (λ (l : Knowledge). owned l c.args.pos c.args.page) taken in
    ap (λ (s : StateOf m). record s { known = k }) c.deref_mut-2.ensures.value
    ∙ ap (λ (s : StateOf m). record s { known = k }) was
    ∙ ap (λ (l : Knowledge). record c.args.state { known = l }) known
