use Rattle.std.proofs.Common.{◌+◌, drop, sym, subst, ◌∷◌, List, ℕ}
use Rattle.tg_base.specs.declared.cell.Cell.{Cell}
use Rattle.tg_model.specs.Kinds.{DoneOf}
use Rattle.tg_play.proofs.Means.{means}
use Rattle.tg_play.proofs.Splitting.{drop_item, drop_all}
use Rattle.tg_world_log.proofs.Stories.{Reached, reached_start, reached_next, reached_end}
use Rattle.tg_world_log.proofs.history.history_of.Goals as goal

pub loop-pos-init : goal.loop-pos-init
loop-pos-init g c =
    subst (λ (ds : List (DoneOf (means g.K.Kind g.K.Registry))). Reached (means g.K.Kind g.K.Registry) c.args.log.now c.new-versions.result ds c.args.log.now) (sym c.new-dones.ensures)
    (reached_start (means g.K.Kind g.K.Registry) c.args.log.now c.new-versions.result c.new-versions.ensures)

pub loop-pos-preserved : goal.loop-pos-preserved
loop-pos-preserved g c =
    reached_next (means g.K.Kind g.K.Registry) c.args.log.now c.loop-pos.versions c.in_ok-versions.versions c.loop-pos.dones c.turn.new.dones c.loop-pos-item.result (drop (c.loop-pos.pos-index + 1) c.args.log.now)
    (drop c.loop-pos.pos-index c.args.log.now) (drop_item c.args.log.now c.loop-pos.pos-index c.loop-pos-item.result c.loop-pos-test.true c.loop-pos-item.is) c.in_ok-versions.ensures.kept c.in_ok-versions.ensures.done
    c.loop-pos.invariant

pub returns : goal.returns
returns g c =
    reached_end (means g.K.Kind g.K.Registry) c.args.log.now c.loop-pos.versions c.loop-pos.dones (drop c.loop-pos.pos-index c.args.log.now) (drop_all c.args.log.now c.loop-pos.pos-index c.loop-pos-test.false)
    c.loop-pos.invariant
