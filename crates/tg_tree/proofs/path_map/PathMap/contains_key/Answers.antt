use Rattle.tg_tree.proofs.Rising.{shown_has}
use Rattle.tg_tree.proofs.path_map.PathMap.contains_key.Goals as goal

pub returns : goal.returns
returns g c = shown_has c.self.inside.by_path.entries _ c.args.key.now _ c.self.view_is c.contains_key.ensures
