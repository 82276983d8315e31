use Rattle.std.proofs.Common.{◌≡◌, rules, refl, eqb}
use Rattle.std.specs.Prelude.{filter, not}
use Rattle.std.proofs.lemmas.Fn.{filter_same}
use Rattle.tg_codec.proofs.owed.Owed.paid.Goals as goal

pub returns : goal.returns
returns c =
    let kept : c.retain.new.self.items ≡ filter (λ x. not (eqb x c.args.name)) c.self.inside.missing.items =
    filter_same _ (λ x. not (eqb x c.args.name)) _ (λ x b f' k. search rules) _ _ c.retain.ensures.filtered in
    rw (← c.self.view_is, kept, c.saturating_sub.ensures) refl
