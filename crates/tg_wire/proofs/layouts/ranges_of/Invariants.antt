use Rattle.std.proofs.Common.{◌≡◌, ◌-◌}
use Rattle.tg_codec.specs.Codec.{read_many}
use Rattle.tg_codec.proofs.Many.{with_front}
use Rattle.tg_wire.specs.Fields.{range, after_range}
use Rattle.tg_wire.proofs.layouts.ranges_of.Given as goal

abbrev pub invariant-loop : goal.invariant-loop
invariant-loop l = record { so_far : with_front l.ranges (read_many range (after_range l.start) (l.count - l.counter) l.begins l.rest) ≡ read_many range (after_range l.start) l.count (0, 0) l.bytes }
