use Rattle.std.proofs.Common.{◌≡◌, Option, Some, sym, ap, subst, ◌∙◌}
use Rattle.tg_play.specs.Kept.{Kept}
use Rattle.tg_play.specs.Relations.{KeepsView}
use Rattle.tg_play.proofs.Means.{means}
use Rattle.tg_protocol.specs.Clients.{Client}
use Rattle.tg_protocol.specs.Answers.{own_view}
use Rattle.tg_client_state.specs.States.{StateOf, client_of, KeepsViewIf}
use Rattle.tg_client_answers.proofs.playing.played.Goals as goal

pub returns-clause-played : goal.returns-clause-played
returns-clause-played g c = λ r w hk ht.
    let m = means g.K.Kind g.K.Registry in
    let d : Client m = client_of m c.args.state r in
    let v = Some c.in_ok-view-2.view in
    let was : c.deref_mut.result.now ≡ c.args.state = c.deref_mut.ensures.value ∙ c.state.view_is in
    let left : record c.deref_mut.result.now { view = c.take-kept.new.self } ≡ record c.args.state { view = c.take-kept.new.self } = ap (λ (s : StateOf m). record s { view = c.take-kept.new.self }) was in
    let objects : c.deref.result.now.objects ≡ c.args.state.objects = ap (λ (s : StateOf m). s.objects) (c.deref.ensures ∙ left) in
    let hosted : c.as_slice-hosted.result.now ≡ c.args.state.hosted = c.as_slice-hosted.ensures ∙ ap (λ (s : StateOf m). s.hosted) (c.deref-2.ensures ∙ left) in
    let kept : c.take-kept.result ≡ c.args.state.view = c.take-kept.ensures.value ∙ ap (λ (s : StateOf m). s.view) was in
    let own : KeepsView m c.in_ok-view.view (own_view m d w c.args.entries.now) =
    c.in_ok-view.ensures d w r.view (sym objects) (sym hosted) ht (subst (λ (k : Option (Kept m.state)). KeepsViewIf m k r.view) (sym kept) hk) in
    record {
      state = ap (λ (s : StateOf m). record s { view = v }) c.deref_mut-2.ensures.value ∙ ap (λ (s : StateOf m). record s { view = v }) was;
      view = c.in_ok-view-2.ensures.view (own_view m d w c.args.entries.now) own;
      came = c.in_ok-view-2.ensures.came (own_view m d w c.args.entries.now) own;
    }

pub returns-clause-others : goal.returns-clause-others
returns-clause-others g c =
    let m = means g.K.Kind g.K.Registry in
    let v = Some c.in_ok-view-2.view in
    let was : c.deref_mut.result.now ≡ c.args.state = c.deref_mut.ensures.value ∙ c.state.view_is in
    ap (λ (s : StateOf m). record s { view = v }) c.deref_mut-2.ensures.value ∙ ap (λ (s : StateOf m). record s { view = v }) was
