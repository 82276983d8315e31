use Rattle.std.proofs.Common.{◌≡◌, List, ap, ◌∙◌}
use Rattle.tg_base.specs.declared.marks.StreamLink.{StreamLink}
use Rattle.tg_play.proofs.Means.{means}
use Rattle.tg_protocol.specs.Entries.{backs_of, link_of}
use Rattle.tg_protocol.specs.Walking.{walk_start}
use Rattle.tg_stream.specs.Turns.{by_walk}
use Rattle.tg_client_state.specs.Tasks.{JobOf}
use Rattle.tg_client_state.specs.States.{StateOf}
use Rattle.tg_client_sync.proofs.walking.begins_walk.Goals as goal

pub returns : goal.returns
returns g c =
    let m = means g.K.Kind g.K.Registry in
    let s : StateOf m = c.args.state.now in
    let j : JobOf m = c.args.job.now in
    let rids : c.deref.result.now.rids ≡ s.rids = ap (λ (u : StateOf m). u.rids) (c.deref.ensures ∙ c.state.view_is) in
    let lasts : c.lasts_of-lasts.result ≡ backs_of (link_of c.args.oid j.lasts) =
    c.lasts_of-lasts.ensures ∙ ap (λ (ls : List StreamLink). backs_of (link_of c.args.oid ls)) (c.as_slice.ensures ∙ ap (λ (i : JobOf m). i.lasts) (c.deref-2.ensures ∙ c.job.view_is)) in
    let stand : c.deref-3.result.now ≡ s = c.deref-3.ensures ∙ c.state.view_is in
    let lo : c.deref-4.result.now ≡ j = c.deref-4.ensures ∙ c.job.view_is in
    let turn : by_walk c.deref.result.now.rids.next (walk_start c.deref-3.result.now.stand c.args.oid c.lasts_of-lasts.result c.deref-4.result.now.lo c.args.cells c.deref.result.now.rids.next)
    ≡ by_walk s.rids.next (walk_start s.stand c.args.oid (backs_of (link_of c.args.oid j.lasts)) j.lo c.args.cells s.rids.next)
    = λ i. by_walk (rids i).next (walk_start (stand i).stand c.args.oid (lasts i) (lo i).lo c.args.cells (rids i).next) in
    c.in_ok-step.ensures.turn ∙ turn
