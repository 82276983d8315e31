use Rattle.std.proofs.Common.{◌≡◌, ◌-◌, drop}
use Rattle.tg_tree.specs.Links.{risen}
use Rattle.tg_tree.proofs.path_map.PathMap.in_order.Given as goal

abbrev pub invariant-loop-taken : goal.invariant-loop-taken
invariant-loop-taken g l = l.ordered.entries ≡ risen (drop (l.len - l.taken) l.by_path.entries)
