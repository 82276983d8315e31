use Rattle.std.proofs.Common.{sym, subst}
use Rattle.tg_play.proofs.Means.{means}
use Rattle.tg_client.proofs.Awaited.{sync_fed_as, walk_fed_as, append_fed_as, trims_fed_as, copy_fed_as, reconf_fed_as, walk_kept, copy_kept, reconf_kept}
use Rattle.std.specs.Prelude.{IfOk}
use Rattle.tg_protocol.specs.Reconfiguring.{Reconf}
use Rattle.tg_protocol.specs.ClientSteps.{on_reconf}
use Rattle.tg_reconf.specs.Turns.{AreDrawn, fed}
use Rattle.tg_client_state.specs.States.{client_of, KeepsMoved}
use Rattle.tg_client.proofs.feeding.feeds.Goals as goal

pub feeds_walk-requires-clause-walks : goal.feeds_walk-requires-clause-walks
feeds_walk-requires-clause-walks g c = walk_kept (means g.K.Kind g.K.Registry) c.args.state c.args.task c.in-Walk.walk c.in-Walk.rest c.in-Walk.is c.requires.kept

pub feeds_copy-requires-clause-there : goal.feeds_copy-requires-clause-there
feeds_copy-requires-clause-there g c = copy_kept (means g.K.Kind g.K.Registry) c.args.state c.args.task c.in-Copy.copy c.in-Copy.is c.requires.kept

pub feeds_reconf-requires-clause-drawn : goal.feeds_reconf-requires-clause-drawn
feeds_reconf-requires-clause-drawn g c =
    subst (λ (a : Reconf). AreDrawn c.args.state.rids.next a) (sym c.into_inner-reconf.ensures) (reconf_kept (means g.K.Kind g.K.Registry) c.args.state c.args.task c.in-Reconf.reconf c.in-Reconf.is c.requires.kept)

pub returns-in-Sync : goal.returns-in-Sync
returns-in-Sync g c = λ r w h i.
    sync_fed_as (means g.K.Kind g.K.Registry) c.feeds_sync.result c.args.state r w c.args.from c.args.rid c.args.msg.now c.args.task c.in-Sync.sync c.in-Sync.is (c.feeds_sync.ensures r w h) c.requires.kept i

pub returns-in-Walk : goal.returns-in-Walk
returns-in-Walk g c = λ r w h i.
    walk_fed_as (means g.K.Kind g.K.Registry) c.feeds_walk.result c.args.state r w c.args.from c.args.rid c.args.msg.now c.args.task c.in-Walk.walk c.in-Walk.rest c.in-Walk.is (c.feeds_walk.ensures r w h) c.requires.kept i

pub returns-in-Append : goal.returns-in-Append
returns-in-Append g c = λ r w h i.
    append_fed_as (means g.K.Kind g.K.Registry) c.feeds_append.result c.args.state r w c.args.from c.args.rid c.args.msg.now c.args.task c.in-Append.append c.in-Append.purpose c.in-Append.is (c.feeds_append.ensures r w h) c.requires.kept i

pub returns-in-Trim : goal.returns-in-Trim
returns-in-Trim g c = λ r w h i.
    trims_fed_as (means g.K.Kind g.K.Registry) c.feeds_trims.result c.args.state r w c.args.from c.args.rid c.args.msg.now c.args.task c.in-Trim.trims c.in-Trim.is (c.feeds_trims.ensures r w h) c.requires.kept i

pub returns-in-Copy : goal.returns-in-Copy
returns-in-Copy g c = λ r w h i.
    copy_fed_as (means g.K.Kind g.K.Registry) c.feeds_copy.result c.args.state r w c.args.from c.args.rid c.args.msg.now c.args.task c.in-Copy.copy c.in-Copy.is (c.feeds_copy.ensures r w h) c.requires.kept i

pub returns-in-Reconf : goal.returns-in-Reconf
returns-in-Reconf g c = λ r w h i.
    reconf_fed_as (means g.K.Kind g.K.Registry) c.feeds_reconf.result c.args.state r w c.args.from c.args.rid c.args.msg.now c.args.task c.in-Reconf.reconf c.in-Reconf.is
    (subst (λ (a : Reconf). IfOk c.feeds_reconf.result (λ x. KeepsMoved (means g.K.Kind g.K.Registry) c.args.state.rids.next x (on_reconf (means g.K.Kind g.K.Registry) (client_of (means g.K.Kind g.K.Registry) c.args.state r) w (fed a c.args.from c.args.rid c.args.msg.now c.args.state.rids.next)))) c.into_inner-reconf.ensures (c.feeds_reconf.ensures r w h)) c.requires.kept i

pub feeds_append-requires : goal.feeds_append-requires
feeds_append-requires g c = c.requires.numbers.next

pub feeds_trims-requires : goal.feeds_trims-requires
feeds_trims-requires g c = c.requires.numbers.next

pub feeds_copy-requires-clause-numbers : goal.feeds_copy-requires-clause-numbers
feeds_copy-requires-clause-numbers g c = c.requires.numbers.next

pub feeds_reconf-requires-clause-numbers : goal.feeds_reconf-requires-clause-numbers
feeds_reconf-requires-clause-numbers g c = c.requires.numbers.next
