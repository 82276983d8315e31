use Rattle.std.proofs.Common.{◌≡◌, ◌-◌, []}
use Rattle.tg_codec.specs.Codec.{read_many}
use Rattle.tg_codec.proofs.Many.{with_front}
use Rattle.tg_tree.specs.Growth.{back}
use Rattle.tg_tree.specs.Trees.{node_format, after_node}
use Rattle.tg_tree.proofs.nodes.many_in.Given as goal

abbrev pub invariant-loop : goal.invariant-loop
invariant-loop l = with_front l.nodes.entries (read_many node_format after_node (l.count - l.counter) (back [] l.nodes.entries) l.rest) ≡ read_many node_format after_node l.count [] l.bytes
