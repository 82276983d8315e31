use Rattle.std.specs.Prelude.{None}
use Rattle.std.proofs.Common.{◌≡◌, sym, ap, subst, ◌∙◌}
use Rattle.tg_play.proofs.Means.{means}
use Rattle.tg_protocol.specs.Answers.{replies}
use Rattle.tg_client_cells.specs.Known.{Knowledge, given_up}
use Rattle.tg_client_state.specs.States.{StateOf, client_of, KeepsMoved}
use Rattle.tg_client_state.proofs.Replied.{replied}
use Rattle.tg_client_state.proofs.state.State.replies.Goals as goal

pub returns : goal.returns
returns g c = λ r old h.
    let m = means g.K.Kind g.K.Registry in
    let was : c.deref_mut.result.now ≡ c.args.self = c.deref_mut.ensures.value ∙ c.state.view_is in
    let k : Knowledge = c.in_ok-known.known in
    let now : record c.deref_mut-2.result.now { known = k } ≡ record c.args.self { known = k } = ap (λ (s : StateOf m). record s { known = k }) c.deref_mut-2.ensures.value ∙ ap (λ (s : StateOf m). record s { known = k }) was in
    let known : k ≡ given_up c.args.self.known c.upto-upto.result =
    c.in_ok-known.ensures ∙ ap (λ (l : Knowledge). given_up l c.upto-upto.result) c.replace-taken.ensures.value ∙ ap (λ (s : StateOf m). given_up s.known c.upto-upto.result) was in
    subst (λ (s : StateOf m). KeepsMoved m old (record { state = s; work = None; sends = c.new-2.result; notes = c.args.notes }) (replies m (client_of m c.args.self r) c.args.notes)) (sym now)
    (replied m c.args.self k c.upto-upto.result old r c.args.notes c.new-2.result (c.upto-upto.ensures r h) known c.new-2.ensures h)
