use Rattle.std.proofs.Common.{◌≡◌, ◌∙◌, ◌<◌, ◌+◌, ℕ, refl, sym, subst, arith}
use Rattle.std.specs.Prelude.{IsSome, Option}
use Rattle.tg_play.proofs.Means.{means}
use Rattle.tg_model.specs.declared.command.Event.TheVariants.{Deliver}
use Rattle.tg_protocol.specs.Worlds.{happens}
use Rattle.tg_world.proofs.Draining.{reached_start, reached_next, ended_world, ended_stop}
use Rattle.tg_world.proofs.ran.drain.Goals as goal

pub loop-packet-init : goal.loop-packet-init
loop-packet-init g c = record {
  few = c.rules.ensures.few;
  kept = c.requires;
  reached = λ w h. reached_start (means g.K.Kind g.K.Registry) c.args.world w h c.rules.ensures.few;
}

pub step-requires-clause-room : goal.step-requires-clause-room
step-requires-clause-room g c = c.due.ensures.room (subst (λ (o : Option ℕ). IsSome o) (sym c.in-Some.is) refl)

pub loop-packet-preserved : goal.loop-packet-preserved
loop-packet-preserved g c =
    let m = means g.K.Kind g.K.Registry in
    let room : c.loop-packet.left.servers.steps < 200000 = c.due.ensures.room (subst (λ (o : Option ℕ). IsSome o) (sym c.in-Some.is) refl) in
    let counts : c.in_ok-left.left.servers.steps ≡ c.loop-packet.left.servers.steps + 1 = c.in_ok-left.ensures.steps in
    record {
      few = omega (arith, room, counts);
      kept = record {
        world = happens m c.loop-packet.invariant.kept.world (Deliver c.in-Some.packet);
        keeps = c.in_ok-left.ensures.keeps c.loop-packet.invariant.kept.world c.loop-packet.invariant.kept.keeps;
      };
      reached = λ w h.
          let r = c.loop-packet.invariant.reached w h in
          reached_next m c.loop-packet.left c.in_ok-left.left w c.in-Some.packet r (sym (c.due.ensures.due r.at r.keeps) ∙ c.in-Some.is) room counts (c.in_ok-left.ensures.keeps r.at r.keeps);
    }

pub loop-packet-smaller : goal.loop-packet-smaller
loop-packet-smaller g c =
    let room : c.loop-packet.left.servers.steps < 200000 = c.due.ensures.room (subst (λ (o : Option ℕ). IsSome o) (sym c.in-Some.is) refl) in
    let counts : c.in_ok-left.left.servers.steps ≡ c.loop-packet.left.servers.steps + 1 = c.in_ok-left.ensures.steps in
    omega (arith, room, counts)

pub returns-clause-world : goal.returns-clause-world
returns-clause-world g c = λ w h.
    let m = means g.K.Kind g.K.Registry in
    let r = c.loop-packet.invariant.reached w h in
    ended_world m c.loop-packet.left w r (sym (c.due.ensures.due r.at r.keeps) ∙ c.in_default.is)

pub returns-clause-stopped : goal.returns-clause-stopped
returns-clause-stopped g c = λ w h.
    let m = means g.K.Kind g.K.Registry in
    let r = c.loop-packet.invariant.reached w h in
    ended_stop m c.loop-packet.left w r c.end-stopped.result (sym (c.due.ensures.due r.at r.keeps) ∙ c.in_default.is) (c.end-stopped.ensures r.at r.keeps)
