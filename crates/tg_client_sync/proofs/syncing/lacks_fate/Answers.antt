use Rattle.std.proofs.Common.{◌≡◌, ◌∙◌}
use Rattle.tg_play.proofs.Means.{means}
use Rattle.tg_client_state.proofs.Boxed.{view_read}
use Rattle.tg_client_sync.proofs.Viewing.{lacks_none, lacks_some}
use Rattle.tg_client_sync.proofs.syncing.lacks_fate.Goals as goal

pub returns-in-None : goal.returns-in-None
returns-in-None g c = λ r h.
    let m = means g.K.Kind g.K.Registry in
    let read : c.deref.result.now ≡ c.args.state.now = c.deref.ensures ∙ c.state.view_is in
    lacks_none m c.deref.result.now.view r.view c.args.pos c.in-None.is (view_read m c.deref.result.now c.args.state.now r.view read h)

pub returns-in-Some : goal.returns-in-Some
returns-in-Some g c = λ r h.
    let m = means g.K.Kind g.K.Registry in
    let read : c.deref.result.now ≡ c.args.state.now = c.deref.ensures ∙ c.state.view_is in
    lacks_some m c.deref.result.now.view c.in-Some.view r.view c.args.pos c.tells_no_fate.result c.in-Some.is (view_read m c.deref.result.now c.args.state.now r.view read h) c.tells_no_fate.ensures
