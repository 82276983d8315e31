use Rattle.tg_tree.proofs.Rising.{shown_len}
use Rattle.tg_tree.proofs.path_map.PathMap.len.Goals as goal

pub returns : goal.returns
returns g c = shown_len c.self.inside.by_path.entries _ _ c.self.view_is c.len.ensures.len c.len.ensures.unique
