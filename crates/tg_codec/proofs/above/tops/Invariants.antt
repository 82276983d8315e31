use Rattle.std.proofs.Common.{◌≡◌, ◌+◌, drop}
use Rattle.tg_codec.specs.Bounds.{tops}
use Rattle.tg_codec.proofs.above.tops.Given as goal

abbrev pub invariant-loop-byte : goal.invariant-loop-byte
invariant-loop-byte l = record {
  places : l.count ≡ l.byte-index;
  so_far : l.count + tops (drop l.byte-index l.text) ≡ tops l.text;
}
