use Rattle.std.proofs.Common.{◌≡◌, ap, ◌∙◌, arith}
use Rattle.tg_play.proofs.Means.{means}
use Rattle.tg_protocol.specs.Syncing.{sync_start}
use Rattle.tg_append.specs.Syncs.{by_sync}
use Rattle.tg_client_state.specs.Tasks.{JobOf}
use Rattle.tg_client_state.specs.States.{StateOf}
use Rattle.tg_client_state.proofs.Boxed.{holds_job}
use Rattle.tg_client.proofs.Resumed.{sync_resumes}
use Rattle.tg_client.proofs.Near.{near_after}
use Rattle.tg_client.proofs.again.syncs_again.Goals as goal

pub returns : goal.returns
returns g c = λ r w old t h k.
    let m = means g.K.Kind g.K.Registry in
    let read : c.deref.result.now ≡ c.args.job = c.deref.ensures ∙ c.job.view_is in
    let before : record c.deref_mut.result.now { gone_before = c.deref.result.now.gone } ≡ record c.args.job { gone_before = c.args.job.gone } =
    ap (λ (j : JobOf m). record j { gone_before = c.deref.result.now.gone }) (c.deref_mut.ensures.value ∙ c.job.view_is) ∙ ap (λ (j : JobOf m). record c.args.job { gone_before = j.gone }) read in
    let rids : c.deref-2.result.now.rids ≡ c.args.state.rids = ap (λ (s : StateOf m). s.rids) (c.deref-2.ensures ∙ c.state.view_is) in
    sync_resumes m t c.on_sync.result c.args.state c.args.job r w old c.args.oids c.deref-2.result.now.rids c.start.new.rids.next c.in_ok-step.step h k rids
    (c.in_ok-step.ensures.turn ∙ ap (λ (s : StateOf m). by_sync s.stand c.deref-2.result.now.rids.next (sync_start c.args.oids c.deref-2.result.now.rids.next)) (c.deref-3.ensures ∙ c.state.view_is))
    (λ v u i l. c.on_sync.ensures r v old u (holds_job m c.args.state _ _ r v old before i) l)

pub start-requires : goal.start-requires
start-requires g c =
    let old : c.deref-2.result.now.rids.next ≡ c.args.state.rids.next = ap (λ (s : StateOf (means g.K.Kind g.K.Registry)). s.rids.next) (c.deref-2.ensures ∙ c.state.view_is) in
    let near = c.requires.next in
    omega (arith, old, near)

pub on_sync-requires : goal.on_sync-requires
on_sync-requires g c =
    let old : c.deref-2.result.now.rids.next ≡ c.args.state.rids.next = ap (λ (s : StateOf (means g.K.Kind g.K.Registry)). s.rids.next) (c.deref-2.ensures ∙ c.state.view_is) in
    let drawn = c.in_ok-step.ensures.drawn in
    near_after _ _ _ _ _ c.requires (omega (arith, old, drawn))
