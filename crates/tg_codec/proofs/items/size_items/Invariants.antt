use Rattle.std.proofs.Common.{◌≡◌, ◌+◌, ◌*◌, ◌≤◌, drop, length}
use Rattle.tg_codec.specs.Codec.{spell_many}
use Rattle.tg_codec.proofs.items.size_items.Given as goal

-- from some state on, what is left has the rest of the length
abbrev pub invariant-loop-value : goal.invariant-loop-value
invariant-loop-value g l = record {
  so_far : (state : g.row.I-State.Denot) → (now : g.row.I-State.Denot) ×
      (l.total + length (spell_many g.I.Item.format g.I.Item.following now (drop l.value-index l.values)) ≡ length (spell_many g.I.Item.format g.I.Item.following state l.values));
  most : l.total ≤ 16384 * l.value-index;
}
