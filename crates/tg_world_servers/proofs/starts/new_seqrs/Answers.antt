use Rattle.std.proofs.Common.{ap, ◌∙◌}
use Rattle.tg_base.specs.Layouts.{Layout}
use Rattle.tg_protocol.specs.Sequencers.{new_seqr}
use Rattle.tg_world_servers.proofs.Starting.{seqrs_last, counted_next}
use Rattle.tg_world_servers.proofs.starts.new_seqrs.Goals as goal

pub loop-num-preserved : goal.loop-num-preserved
loop-num-preserved c = record {
  states =
      seqrs_last c.args.limit c.args.first.now c.loop-num.num c.loop-num.seqrs.items c.push.new.self.items c.in_ok-seqr.seqr c.in_ok-push.ensures.items
      (c.in_ok-seqr.ensures.state ∙ ap (λ (q : Layout). new_seqr c.loop-num.num c.args.limit q) c.in_ok-first.ensures) c.loop-num.invariant.states;
  counted = counted_next 0 c.loop-num.seqrs.items c.push.new.self.items c.in_ok-seqr.seqr c.in_ok-push.ensures.items c.in_ok-seqr.ensures.calls c.loop-num.invariant.counted;
}
