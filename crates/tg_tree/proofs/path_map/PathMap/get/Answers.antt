use Rattle.tg_tree.proofs.Rising.{shown_get}
use Rattle.tg_tree.proofs.path_map.PathMap.get.Goals as goal

pub returns : goal.returns
returns g c = shown_get c.self.inside.by_path.entries _ c.args.key.now _ c.self.view_is c.get.ensures.value
