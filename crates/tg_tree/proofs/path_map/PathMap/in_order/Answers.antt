use Rattle.std.proofs.Common.{◌∙◌, ap, sym}
use Rattle.std.specs.Option.{option_map}
use Rattle.std.specs.Map.Iter.{deref_pair}
use Rattle.tg_tree.proofs.Rising.{copied_none, copied_more, copied_all}
use Rattle.tg_tree.proofs.path_map.PathMap.in_order.Goals as goal

pub loop-taken-init : goal.loop-taken-init
loop-taken-init g c = copied_none c.self.inside.by_path.entries c.new-ordered.result.entries c.len-len.result c.len-len.ensures.len c.new-ordered.ensures.empty

pub loop-taken-preserved : goal.loop-taken-preserved
loop-taken-preserved g c =
    copied_more c.self.inside.by_path.entries c.loop-taken.ordered.entries c.put_copy.new.ordered.entries c.len-len.result c.loop-taken.taken (deref_pair c.unwrap.result) c.loop-taken-test.true
    (sym c.get_index.ensures.entry ∙ ap (option_map deref_pair) c.unwrap.ensures) c.loop-taken.invariant c.in_ok-put_copy.ensures

pub returns : goal.returns
returns g c = copied_all c.self.inside.by_path.entries _ c.loop-taken.ordered.entries c.len-len.result c.loop-taken.taken c.loop-taken-test.false c.loop-taken.invariant c.self.view_is
