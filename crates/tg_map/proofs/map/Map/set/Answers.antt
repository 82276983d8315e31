use Rattle.std.proofs.Common.{◌≡◌, true, ap, ◌∙◌, rules}
use Rattle.tg_map.specs.Maps.{Pairs, takes}
use Rattle.tg_map.specs.MapLaws.{set_len}
use Rattle.tg_map.proofs.map.Map.set.Goals as goal

pub invariant_of-result : goal.invariant_of-result
invariant_of-result c =
    let t : takes c.args.self c.args.key ≡ true = search rules in
    rw c.in_ok-insert.ensures.entries (set_len c.self.inside.pairs.entries c.args.key c.args.value c.self.invariant (ap (λ (ps : Pairs). takes ps c.args.key) c.self.view_is ∙ t))
