use Rattle.std.proofs.Common.{ap, sym, ◌∙◌}
use Rattle.std.specs.Ordering.{nat_cmp}
use Rattle.std.specs.Map.{set_value}
use Rattle.std.specs.BTreeMap.{is_at}
use Rattle.std.proofs.lemmas.Map.Steps.{set_value_same}
use Rattle.tg_stream.proofs.cells.read_at.Goals as goal

pub returns-in-Some : goal.returns-in-Some
returns-in-Some c =
    (c.get_mut.follows.holds c.look.new.self).0
    ∙ ap (set_value (is_at (nat_cmp c.args.pos)) c.args.map.now.entries) c.look.ensures
    ∙ set_value_same (is_at (nat_cmp c.args.pos)) c.args.map.now.entries c.in-Some.page.now (sym c.in-Some.ensures.value)
