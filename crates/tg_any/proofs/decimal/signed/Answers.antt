-- What `parse` gives of a decimal with a sign is its number.
use Rattle.std.proofs.Common.{◌≡◌, None, Ok, pos, sym, subst, ap, ◌∙◌, rules, to_z, of_z}
use Rattle.std.specs.Str.{IsAscii}
use Rattle.std.specs.Result.{result_ok}
use Rattle.std.specs.Option.{unwrap_or}
use Rattle.std.specs.Int.{w64}
use Rattle.std.specs.Fmt.{signed_decimal}
use Rattle.std.proofs.lemmas.Fmt.{IsAscii-signed, parse-signed_decimal}
use Rattle.std.proofs.lemmas.Int.{to_z-of_z}
use Rattle.std.proofs.lemmas.Slice.Eq.{slice_eq-Decides}
use Rattle.std.proofs.lemmas.Bool.Decides.{Decides-eqb}
use Rattle.std.proofs.lemmas.Bool.{false≢true}
use Rattle.tg_any.proofs.Numbers.{signed_in_none, signed_in_found}
use Rattle.tg_any.proofs.decimal.signed.Goals as goal

pub returns-in_err-ascii : goal.returns-in_err-ascii
returns-in_err-ascii c = let none : c.from_residual.result ≡ None = search rules in none ∙ signed_in_none _ (λ z fits e. c.in_err-ascii.ensures.none (subst IsAscii (sym e) (IsAscii-signed z fits.sfits)))

pub returns-in_err-z : goal.returns-in_err-z
returns-in_err-z c = let none : c.from_residual-in_err-z.result ≡ None = search rules in none ∙ signed_in_none _ (λ z fits e.
    let p : c.parse.result ≡ Ok z = parse-signed_decimal w64 z _ _ fits fits.sfits (c.in_ok-ascii.ensures.found ∙ e) c.parse.ensures.value.0 in
    let q = c.in_err-z.ensures.value ∙ ap result_ok p in absurd cc)

pub returns-then-eq : goal.returns-then-eq
returns-then-eq c = signed_in_found _ _ (search rules) (sym ((slice_eq-Decides Decides-eqb _ _ _ c.eq.ensures).0 c.if-eq.true) ∙ c.as_bytes.ensures.value ∙ c.format.ensures.text)

pub returns-else-eq : goal.returns-else-eq
returns-else-eq c = signed_in_none _ (λ z fits e.
    let p : c.parse.result ≡ Ok z = parse-signed_decimal w64 z _ _ fits fits.sfits (c.in_ok-ascii.ensures.found ∙ e) c.parse.ensures.value.0 in
    let same = ap (λ x. to_z w64 (of_z w64 x)) (ap (λ o. unwrap_or o (pos 0)) (c.in_ok-z.ensures.value ∙ ap result_ok p)) ∙ to_z-of_z w64 z fits in
    let equal = (slice_eq-Decides Decides-eqb _ _ _ c.eq.ensures).1 (c.as_bytes.ensures.value ∙ c.format.ensures.text ∙ ap signed_decimal same ∙ sym e) in
    false≢true (sym c.if-eq.false ∙ equal))
