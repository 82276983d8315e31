use Rattle.std.proofs.Common.{refl, sym, ◌∙◌}
use Rattle.tg_tree.specs.Links.{risen}
use Rattle.tg_tree.proofs.Rising.{shown_removed, shown_get, lookup_shown}
use Rattle.tg_tree.proofs.path_map.PathMap.remove.Goals as goal

pub returns-clause-rest : goal.returns-clause-rest
returns-clause-rest g c = shown_removed c.self.inside.by_path.entries c.swap_remove.new.self.entries _ (risen c.swap_remove.new.self.entries) c.args.key.now c.self.view_is refl c.swap_remove.ensures.updates.0

pub returns-clause-value : goal.returns-clause-value
returns-clause-value g c = shown_get c.self.inside.by_path.entries _ c.args.key.now _ c.self.view_is c.swap_remove.ensures.value

pub returns-clause-gone : goal.returns-clause-gone
returns-clause-gone g c = sym (lookup_shown c.swap_remove.new.self.entries c.args.key.now) ∙ c.swap_remove.ensures.updates.1
