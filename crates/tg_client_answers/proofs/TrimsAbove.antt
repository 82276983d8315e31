-- Where walks met a trim.
use Rattle.std.proofs.Common.{◌≡◌, ℕ, zero, suc, ◌+◌, ◌<◌, Bool, true, false, List, [], ◌∷◌, length, get_or, drop, Some, None, cond, nat_lt, refl, sym, ap, ◌∙◌, arith}
use Rattle.tg_base.specs.declared.ids.Oid.{Oid}
use Rattle.tg_kind.specs.Meaning.{Meaning}
use Rattle.tg_protocol.specs.Answers.{trim_above}

drop_first : {X : Type 0} (xs : List X) (n : ℕ) (d : X) → n < length xs → drop n xs ≡ get_or xs n d ∷ drop (suc n) xs
drop_first [] n d h = absurd (omega (arith, h))
drop_first (y ∷ ys) zero d h = refl
drop_first (y ∷ ys) (suc n) d h = drop_first ys n d (omega (arith, h))

-- what is left begins with the item at its place
pub drop_at : {X : Type 0} (xs : List X) (n : ℕ) (d : X) → n < length xs → drop n xs ≡ get_or xs n d ∷ drop (n + 1) xs
drop_at {X} xs n d h =
    let same : suc n ≡ n + 1 = omega arith in
    drop_first xs n d h ∙ ap (λ (k : ℕ). get_or xs n d ∷ drop k xs) same

module _ (m : Meaning) where
  abbrev pub Trims : Type 0
  Trims = List (Oid × ℕ)

  first_is : (x : Oid × ℕ) (rest : Trims) (p : ℕ) (t : Bool) → nat_lt p x.1 ≡ t → trim_above m (x ∷ rest) p ≡ cond t (Some x.1) (trim_above m rest p)
  first_is x rest p t is = ap (λ (u : Bool). cond u (Some x.1) (trim_above m rest p)) is

  pub found_trim : (all xs rest : Trims) (x : Oid × ℕ) (p : ℕ) → xs ≡ x ∷ rest → nat_lt p x.1 ≡ true → trim_above m xs p ≡ trim_above m all p → Some x.1 ≡ trim_above m all p
  found_trim all xs rest x p is here same = sym (first_is x rest p true here) ∙ ap (λ (ys : Trims). trim_above m ys p) (sym is) ∙ same

  pub passed_trim : (all xs rest : Trims) (x : Oid × ℕ) (p : ℕ) → xs ≡ x ∷ rest → nat_lt p x.1 ≡ false → trim_above m xs p ≡ trim_above m all p → trim_above m rest p ≡ trim_above m all p
  passed_trim all xs rest x p is here same = sym (first_is x rest p false here) ∙ ap (λ (ys : Trims). trim_above m ys p) (sym is) ∙ same

  pub no_trim : (all xs : Trims) (p : ℕ) → xs ≡ [] → trim_above m xs p ≡ trim_above m all p → None ≡ trim_above m all p
  no_trim all xs p is same = ap (λ (ys : Trims). trim_above m ys p) (sym is) ∙ same
