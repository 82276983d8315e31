use Rattle.std.proofs.Common.{ap, ◌∙◌}
use Rattle.std.proofs.lemmas.Map.Made.{is_some-lookup}
use Rattle.std.specs.Map.{keys_of}
use Rattle.tg_map.specs.Maps.{Pairs, same, has_key}
use Rattle.tg_map.proofs.map.Map.has.Goals as goal

pub returns : goal.returns
returns c = c.contains_key.ensures ∙ is_some-lookup (same c.args.key.now) c.self.inside.pairs.entries ∙ ap (λ (ps : Pairs). has_key (keys_of ps) c.args.key.now) c.self.view_is
