-- What `parse` gives of a decimal is its number.
use Rattle.std.proofs.Common.{◌≡◌, None, Ok, sym, subst, ap, ◌∙◌, rules}
use Rattle.std.specs.Str.{IsAscii}
use Rattle.std.specs.Result.{result_ok}
use Rattle.std.specs.Option.{unwrap_or}
use Rattle.std.specs.Fmt.{decimal}
use Rattle.std.proofs.lemmas.Fmt.{IsAscii-decimal, parse-decimal}
use Rattle.std.proofs.lemmas.Slice.Eq.{slice_eq-Decides}
use Rattle.std.proofs.lemmas.Bool.Decides.{Decides-eqb}
use Rattle.std.proofs.lemmas.Bool.{false≢true}
use Rattle.tg_any.proofs.Numbers.{number_in_none, number_in_found}
use Rattle.tg_any.proofs.decimal.number.Goals as goal

pub returns-in_err-ascii : goal.returns-in_err-ascii
returns-in_err-ascii c = let none : c.from_residual.result ≡ None = search rules in none ∙ number_in_none _ (λ n small e. c.in_err-ascii.ensures.none (subst IsAscii (sym e) (IsAscii-decimal n small)))

pub returns-in_err-n : goal.returns-in_err-n
returns-in_err-n c = let none : c.from_residual-in_err-n.result ≡ None = search rules in none ∙ number_in_none _ (λ n small e.
    let p : c.parse.result ≡ Ok n = parse-decimal 64 n _ _ small small (c.in_ok-ascii.ensures.found ∙ e) c.parse.ensures.value.0 in
    let q = c.in_err-n.ensures.value ∙ ap result_ok p in absurd cc)

pub returns-then-eq : goal.returns-then-eq
returns-then-eq c = number_in_found _ _ (search rules) (sym ((slice_eq-Decides Decides-eqb _ _ _ c.eq.ensures).0 c.if-eq.true) ∙ c.as_bytes.ensures.value ∙ c.format.ensures.text)

pub returns-else-eq : goal.returns-else-eq
returns-else-eq c = number_in_none _ (λ n small e.
    let p : c.parse.result ≡ Ok n = parse-decimal 64 n _ _ small small (c.in_ok-ascii.ensures.found ∙ e) c.parse.ensures.value.0 in
    let same : c.in_ok-n.n ≡ n = ap (λ o. unwrap_or o 0) (c.in_ok-n.ensures.value ∙ ap result_ok p) in
    let equal = (slice_eq-Decides Decides-eqb _ _ _ c.eq.ensures).1 (c.as_bytes.ensures.value ∙ c.format.ensures.text ∙ ap decimal same ∙ sym e) in
    false≢true (sym c.if-eq.false ∙ equal))
