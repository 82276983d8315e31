use Rattle.std.proofs.Common.{◌≡◌, rules, refl, eqb}
use Rattle.std.specs.Prelude.{filter, not}
use Rattle.std.specs.List.{list_any}
use Rattle.std.proofs.lemmas.Fn.{filter_same}
use Rattle.tg_wire.proofs.chains.others.Goals as goal

pub returns : goal.returns
returns c =
    let kept : c.retain.new.self.items ≡ filter (λ u. not (list_any (λ v. eqb v u) c.args.used.now)) c.in_ok-units.units.items =
    filter_same _ (λ u. not (list_any (λ v. eqb v u) c.args.used.now)) _ (λ x b f' k. search rules) _ _ c.retain.ensures.filtered in
    rw (kept, c.in_ok-units.ensures) refl
