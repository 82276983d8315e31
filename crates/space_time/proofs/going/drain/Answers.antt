use Rattle.std.proofs.Common.{◌≡◌, ◌∙◌, ◌<◌, ◌+◌, ℕ, refl, sym, subst, arith}
use Rattle.std.specs.Prelude.{IsSome, Option}
use Rattle.tg_any.specs.AllKinds.{all_kinds}
use Rattle.space_time.proofs.Draining.{reached_start, reached_next, ended_world, ended_stop}
use Rattle.space_time.proofs.going.drain.Goals as goal

pub loop-packet-init : goal.loop-packet-init
loop-packet-init c = record {
  few = c.rules.ensures.few;
  recorded = c.requires;
  reached = λ w h. reached_start all_kinds c.args.recording.run.world w h c.rules.ensures.few;
  cluster = refl;
  events = refl;
}

pub step-requires-clause-recorded : goal.step-requires-clause-recorded
step-requires-clause-recorded c = c.loop-packet.invariant.recorded

pub step-requires-clause-room : goal.step-requires-clause-room
step-requires-clause-room c = c.due.ensures.room (subst (λ (o : Option ℕ). IsSome o) (sym c.in-Some.is) refl)

pub loop-packet-preserved : goal.loop-packet-preserved
loop-packet-preserved c =
    let room : c.loop-packet.left.run.world.servers.steps < 200000 = c.due.ensures.room (subst (λ (o : Option ℕ). IsSome o) (sym c.in-Some.is) refl) in
    let counts : c.in_ok-left.left.run.world.servers.steps ≡ c.loop-packet.left.run.world.servers.steps + 1 = c.in_ok-left.ensures.counts in
    let i = c.loop-packet.invariant in
    let step = c.in_ok-left.ensures.step in
    record {
      few = omega (arith, room, counts);
      recorded = step.recorded;
      reached = λ w h.
          let r = i.reached w h in
          reached_next all_kinds c.loop-packet.left.run.world c.in_ok-left.left.run.world w c.in-Some.packet r (sym (c.due.ensures.due r.at r.keeps) ∙ c.in-Some.is) room counts (step.world r.at r.keeps);
      cluster = step.cluster ∙ i.cluster;
      events = step.events ∙ i.events;
    }

pub loop-packet-smaller : goal.loop-packet-smaller
loop-packet-smaller c =
    let room : c.loop-packet.left.run.world.servers.steps < 200000 = c.due.ensures.room (subst (λ (o : Option ℕ). IsSome o) (sym c.in-Some.is) refl) in
    let counts : c.in_ok-left.left.run.world.servers.steps ≡ c.loop-packet.left.run.world.servers.steps + 1 = c.in_ok-left.ensures.counts in
    omega (arith, room, counts)

pub returns : goal.returns
returns c =
    let i = c.loop-packet.invariant in
    record {
      recorded = i.recorded;
      world = λ w h. let r = i.reached w h in ended_world all_kinds c.loop-packet.left.run.world w r (sym (c.due.ensures.due r.at r.keeps) ∙ c.in_default.is);
      stopped = λ w h.
          let r = i.reached w h in
          ended_stop all_kinds c.loop-packet.left.run.world w r c.end-stopped.result (sym (c.due.ensures.due r.at r.keeps) ∙ c.in_default.is) (c.end-stopped.ensures r.at r.keeps);
      cluster = i.cluster;
      events = i.events;
    }
