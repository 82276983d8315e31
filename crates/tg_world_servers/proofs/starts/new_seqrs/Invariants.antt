use Rattle.std.proofs.Common.{◌≡◌, map}
use Rattle.tg_protocol.specs.Words.{numbers}
use Rattle.tg_protocol.specs.Sequencers.{new_seqr}
use Rattle.tg_world_servers.specs.Rows.{states_of, AreCounted}
use Rattle.tg_world_servers.proofs.starts.new_seqrs.Given as goal

abbrev pub invariant-loop-num : goal.invariant-loop-num
invariant-loop-num l = record {
  states : states_of l.seqrs.items ≡ map (λ n. new_seqr n l.limit l.first) (numbers l.num 0);
  counted : AreCounted 0 l.seqrs.items;
}
