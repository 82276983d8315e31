use Rattle.std.proofs.Common.{◌+◌, List, get_or, map, drop}
use Rattle.tg_base.specs.declared.ids.Oid.{Oid}
use Rattle.tg_protocol.specs.Past.{past_base}
use Rattle.tg_play.proofs.Means.{means}
use Rattle.tg_play.proofs.Splitting.{drop_all}
use Rattle.tg_past.proofs.Beginning.{drop_at, begun_first, begun_more, begun_all}
use Rattle.tg_past.proofs.Lawful.{lawful_first, lawful_more}
use Rattle.tg_past.proofs.bases.past_bases.Goals as goal

pub loop-oid-init : goal.loop-oid-init
loop-oid-init g c = record {
  bases = begun_first (means g.K.Kind g.K.Registry) _ (map (past_base (means g.K.Kind g.K.Registry) c.args.entries.now c.args.gone.now c.args.objects.now c.args.pos) c.args.oids.now) c.new-bases.ensures;
  lawful = λ h. lawful_first c.new-bases.result c.new-bases.ensures;
}

pub loop-oid-preserved : goal.loop-oid-preserved
loop-oid-preserved g c =
    let oid : Oid = get_or c.args.oids.now c.loop-oid.oid-index (record { 0 = 0 }) in
    let next : List Oid = drop (c.loop-oid.oid-index + 1) c.args.oids.now in
    let first = drop_at c.args.oids.now c.loop-oid.oid-index (record { 0 = 0 }) c.loop-oid-test.true in
    record {
      bases = begun_more (means g.K.Kind g.K.Registry) (past_base (means g.K.Kind g.K.Registry) c.args.entries.now c.args.gone.now c.args.objects.now c.args.pos)
          (drop c.loop-oid.oid-index c.args.oids.now) next oid c.loop-oid.bases c.push.new.self c.in_ok-base.base
          (map (past_base (means g.K.Kind g.K.Registry) c.args.entries.now c.args.gone.now c.args.objects.now c.args.pos) c.args.oids.now)
          first c.in_ok-push.ensures.ok c.in_ok-base.ensures.told c.loop-oid.invariant.bases;
      lawful = λ h. lawful_more c.loop-oid.bases c.push.new.self c.in_ok-base.base c.in_ok-push.ensures.ok (c.loop-oid.invariant.lawful h) (c.in_ok-base.ensures.lawful h);
    }

pub returns-clause-told : goal.returns-clause-told
returns-clause-told g c =
    begun_all (means g.K.Kind g.K.Registry) (past_base (means g.K.Kind g.K.Registry) c.args.entries.now c.args.gone.now c.args.objects.now c.args.pos) (drop c.loop-oid.oid-index c.args.oids.now) c.loop-oid.bases
    (map (past_base (means g.K.Kind g.K.Registry) c.args.entries.now c.args.gone.now c.args.objects.now c.args.pos) c.args.oids.now)
    (drop_all c.args.oids.now c.loop-oid.oid-index c.loop-oid-test.false) c.loop-oid.invariant.bases

pub returns-clause-lawful : goal.returns-clause-lawful
returns-clause-lawful g c = c.loop-oid.invariant.lawful
