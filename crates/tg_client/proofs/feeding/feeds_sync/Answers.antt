use Rattle.std.proofs.Common.{◌≡◌, ap, ◌∙◌, arith}
use Rattle.tg_append.specs.Syncs.{sync_fed, by_sync}
use Rattle.tg_client.proofs.Fed.{sync_shown}
use Rattle.tg_play.proofs.Means.{means}
use Rattle.tg_client_state.specs.States.{StateOf}
use Rattle.tg_client.proofs.Near.{near_after}
use Rattle.tg_client.proofs.feeding.feeds_sync.Goals as goal

pub returns : goal.returns
returns g c = λ r w h d near.
    let rids : c.deref.result.now.rids ≡ c.args.state.rids = ap (λ (s : StateOf (means g.K.Kind g.K.Registry)). s.rids) (c.deref.ensures ∙ c.state.view_is) in
    let stand : c.deref-2.result.now ≡ c.args.state = c.deref-2.ensures ∙ c.state.view_is in
    let turn : by_sync c.deref-2.result.now.stand c.deref.result.now.rids.next (sync_fed c.deref-2.result.now.stand c.args.sync c.args.from c.args.rid c.args.msg.now c.deref.result.now.rids.next)
    ≡ by_sync c.args.state.stand c.args.state.rids.next (sync_fed c.args.state.stand c.args.sync c.args.from c.args.rid c.args.msg.now c.args.state.rids.next)
    = λ i. by_sync (stand i).stand (rids i).next (sync_fed (stand i).stand c.args.sync c.args.from c.args.rid c.args.msg.now (rids i).next) in
    c.on_sync.ensures r w c.args.state.rids.next (sync_fed c.args.state.stand c.args.sync c.args.from c.args.rid c.args.msg.now c.args.state.rids.next) h
    (sync_shown c.args.state.stand c.args.sync c.args.from c.args.rid c.args.msg.now c.args.state.rids.next c.feed.new.rids.next c.in_ok-step.step (c.in_ok-step.ensures.turn ∙ turn) d near)

pub feed-requires : goal.feed-requires
feed-requires g c =
    let old : c.deref.result.now.rids.next ≡ c.args.state.rids.next = ap (λ (s : StateOf (means g.K.Kind g.K.Registry)). s.rids.next) (c.deref.ensures ∙ c.state.view_is) in
    let near = c.requires.next in
    omega (arith, old, near)

pub on_sync-requires : goal.on_sync-requires
on_sync-requires g c =
    let old : c.deref.result.now.rids.next ≡ c.args.state.rids.next = ap (λ (s : StateOf (means g.K.Kind g.K.Registry)). s.rids.next) (c.deref.ensures ∙ c.state.view_is) in
    let drawn = c.in_ok-step.ensures.drawn in
    near_after _ _ _ _ _ c.requires (omega (arith, old, drawn))
