use Rattle.std.proofs.Common.{refl}
use Rattle.tg_tree.specs.Links.{risen}
use Rattle.tg_tree.proofs.Rising.{shown_put, shown_rising}
use Rattle.tg_tree.proofs.path_map.PathMap.insert.Goals as goal

pub returns-in_err-insert-clause-rising : goal.returns-in_err-insert-clause-rising
returns-in_err-insert-clause-rising g c = shown_rising c.self.inside.by_path.entries _ c.self.view_is

pub returns-clause-put : goal.returns-clause-put
returns-clause-put g c = shown_put c.self.inside.by_path.entries c.insert.new.self.entries _ (risen c.insert.new.self.entries) c.args.key c.args.value c.self.view_is refl c.in_ok-insert.ensures.updates.0

pub returns-clause-rising : goal.returns-clause-rising
returns-clause-rising g c = shown_rising c.self.inside.by_path.entries _ c.self.view_is
