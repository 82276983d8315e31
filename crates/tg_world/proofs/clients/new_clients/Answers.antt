use Rattle.std.proofs.Common.{◌≡◌, ◌∙◌, ℕ, map, ap, subst, arith}
use Rattle.tg_base.specs.Clusters.{Header}
use Rattle.tg_play.proofs.Means.{means}
use Rattle.tg_protocol.specs.Words.{numbers}
use Rattle.tg_protocol.specs.Clients.{new_client}
use Rattle.tg_world.specs.Clients.{KeepsClients}
use Rattle.tg_world.proofs.Rows.{new_last, length_last}
use Rattle.tg_world.proofs.clients.new_clients.Goals as goal

pub loop-num-preserved : goal.loop-num-preserved
loop-num-preserved g c = record {
  keeps =
      new_last (means g.K.Kind g.K.Registry) c.args.cluster.now c.loop-num.num c.loop-num.clients.items c.push.new.self.items c.in_ok-new.field-0 c.in_ok-push.ensures.items c.in_ok-new.ensures.keeps c.loop-num.invariant.keeps;
  many = length_last c.loop-num.clients.items c.push.new.self.items c.in_ok-new.field-0 c.loop-num.num c.in_ok-push.ensures.items c.loop-num.invariant.many;
}

pub returns-clause-keeps : goal.returns-clause-keeps
returns-clause-keeps g c =
    let m = means g.K.Kind g.K.Registry in
    let all : c.loop-num.num ≡ c.cluster.inside.clients = omega (arith, c.loop-num-test.false, c.loop-num.auto.num-end) in
    let same : c.loop-num.num ≡ c.args.cluster.now.clients = all ∙ ap (λ (h : Header). h.clients) c.cluster.view_is in
    subst (λ (n : ℕ). KeepsClients m c.loop-num.clients.items (map (new_client m c.args.cluster.now) (numbers n 0))) same c.loop-num.invariant.keeps
