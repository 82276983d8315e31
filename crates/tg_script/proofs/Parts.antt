-- What is read of words that are made of parts is what they spell, and nothing else.
use Rattle.std.proofs.Common.{◌≡◌, ◌≢◌, ℕ, ◌<◌, ◌≤◌, ◌^◌, Bool, true, false, not, ◌&&◌, cond, eqb, ltb, List, [], ◌∷◌, ◌++◌, length, map, Option, Some, None, sym, refl, subst, ap, ◌∙◌, arith}
use Rattle.std.specs.Prelude.{option_and_then}
use Rattle.std.specs.List.{list_all, join_with_byte, slice_split}
use Rattle.std.specs.Fmt.{decimal}
use Rattle.std.proofs.lemmas.Bool.{ltb-true, ne_eqb}
use Rattle.std.proofs.lemmas.List.Splits.{join_with_byte-slice_split, length-slice_split}
use Rattle.tg_codec.proofs.Laws.{and-left, and-right, both}
use Rattle.tg_any.specs.Decimals.{number_in}
use Rattle.tg_any.specs.Fronts.{after}
use Rattle.tg_any.specs.Words.{Word}
use Rattle.tg_any.proofs.Numbers.{bind_takes, when_takes, number_in_takes, number_in_again}
use Rattle.tg_any.proofs.Fronts.{some_is, bind_again, if_again, after_takes, after_again}
use Rattle.tg_any.proofs.Words.{IsWord}
use Rattle.tg_script.specs.Parts.{below, lettered, each, separated, narrowed}
use Rattle.tg_script.proofs.Cuts.{lacks, cut_joined}

-- Numbers below a limit.

limited_takes : (limit : ℕ) (o : Option ℕ) (n : ℕ) (P : ℕ → Type 0) → ((m : ℕ) → o ≡ Some m → P m) → option_and_then (λ (m : ℕ). cond (ltb m limit) (Some m) None) o ≡ Some n → P n × (ltb n limit ≡ true)
limited_takes limit o n P is e =
    let b = bind_takes _ _ _ e in
    let d = when_takes _ _ _ b.2 in
    subst (λ (n : ℕ). P n × (ltb n limit ≡ true)) d.1 (is b.0 b.1, d.0)

pub below_law : (limit : ℕ) → limit ≤ 2 ^ 64 → number_in [] ≡ None → IsWord (below limit)
below_law limit most none = record {
  takes = λ text n e. limited_takes limit (number_in text) n (λ (n : ℕ). text ≡ decimal n) (λ m e. (number_in_takes text m e).1) e;
  again = λ n e. let small : n < limit = ltb-true _ _ e in bind_again _ _ _ _ (number_in_again n (omega (arith, small, most))) (if_again _ _ _ e refl);
  some = ap (option_and_then (λ (n : ℕ). cond (ltb n limit) (Some n) None)) none;
}

-- Letters and numbers.

pub lettered_law : (letter : List ℕ) (limit : ℕ) → limit ≤ 2 ^ 64 → after letter [] ≡ None → IsWord (lettered letter limit)
lettered_law letter limit most none = record {
  takes = λ text n e.
      let b = bind_takes _ _ _ e in
      limited_takes limit (number_in b.0) n (λ (n : ℕ). text ≡ letter ++ decimal n) (λ m f. after_takes letter text b.0 b.1 ∙ ap (λ (t : List ℕ). letter ++ t) (number_in_takes b.0 m f).1) b.2;
  again = λ n e.
      let small : n < limit = ltb-true _ _ e in
      bind_again _ _ _ _ (after_again letter (decimal n)) (bind_again _ _ _ _ (number_in_again n (omega (arith, small, most))) (if_again _ _ _ e refl));
  some = ap (option_and_then (λ (rest : List ℕ). option_and_then (λ (n : ℕ). cond (ltb n limit) (Some n) None) (number_in rest))) none;
}

-- Lists.

same_cons : {A : Type 0} (x y : A) (xs ys : List A) → x ≡ y → xs ≡ ys → x ∷ xs ≡ y ∷ ys
same_cons x y xs ys e f = rw (e, f) refl

pub each_takes : {A : Type 0} (a : Word A) → IsWord a → (words : List (List ℕ)) (xs : List A) → each a.read words ≡ Some xs → (words ≡ map a.spell xs) × (list_all a.fits xs ≡ true)
each_takes {A} a law [] xs e = subst (λ (xs : List A). ([] ≡ map a.spell xs) × (list_all a.fits xs ≡ true)) (some_is _ _ e) (refl, refl)
each_takes {A} a law (w ∷ ws) xs e =
    let f = bind_takes _ _ _ e in
    let g = bind_takes _ _ _ f.2 in
    let h = law.takes w f.0 f.1 in
    let k = each_takes a law ws g.0 g.1 in
    subst (λ (xs : List A). (w ∷ ws ≡ map a.spell xs) × (list_all a.fits xs ≡ true)) (some_is _ _ g.2) (same_cons _ _ _ _ h.0 k.0, both _ _ h.1 k.1)

pub each_again : {A : Type 0} (a : Word A) → IsWord a → (xs : List A) → list_all a.fits xs ≡ true → each a.read (map a.spell xs) ≡ Some xs
each_again a law [] e = refl
each_again a law (x ∷ xs) e = bind_again _ _ _ _ (law.again x (and-left _ _ e)) (bind_again _ _ _ _ (each_again a law xs (and-right _ _ e)) refl)

pub not_empty : {A : Type 0} (x : A) (xs : List A) → not (eqb (length (x ∷ xs)) 0) ≡ true
not_empty x xs = ap not (ne_eqb (length (x ∷ xs)) 0 (λ e. omega (arith, e)))

some_item : {A : Type 0} (spell : A → List ℕ) (words : List (List ℕ)) (xs : List A) → words ≡ map spell xs → 0 < length words → not (eqb (length xs) 0) ≡ true
some_item spell words [] e some = absurd (omega (arith, some, ap length e))
some_item spell words (x ∷ xs) e some = not_empty x xs

lacking : {A : Type 0} (a : Word A) (byte : ℕ) → ((x : A) → a.fits x ≡ true → lacks byte (a.spell x) ≡ true) → (xs : List A) → list_all a.fits xs ≡ true → list_all (lacks byte) (map a.spell xs) ≡ true
lacking a byte plain [] e = refl
lacking a byte plain (x ∷ xs) e = both _ _ (plain x (and-left _ _ e)) (lacking a byte plain xs (and-right _ _ e))

separated-again : {A : Type 0} (byte : ℕ) (a : Word A) → IsWord a → ((x : A) → a.fits x ≡ true → lacks byte (a.spell x) ≡ true) → (xs : List A) → (separated byte a).fits xs ≡ true → (separated byte a).read ((separated byte a).spell xs) ≡ Some xs
separated-again byte a law plain [] e = absurd cc
separated-again byte a law plain (x ∷ xs) e =
    ap (each a.read) (cut_joined byte (a.spell x) (map a.spell xs) (lacking a byte plain (x ∷ xs) (and-right _ _ e))) ∙ each_again a law (x ∷ xs) (and-right _ _ e)

pub separated_law : {A : Type 0} (byte : ℕ) (a : Word A) → IsWord a → ((x : A) → a.fits x ≡ true → lacks byte (a.spell x) ≡ true) → IsWord (separated byte a)
separated_law {A} byte a law plain = record {
  takes = λ text xs e.
      let h = each_takes a law (slice_split (λ (b : ℕ). eqb b byte) text) xs e in
      let some : 0 < length (slice_split (λ (b : ℕ). eqb b byte) text) = omega (arith, length-slice_split (λ (b : ℕ). eqb b byte) text) in
      (sym (join_with_byte-slice_split byte text) ∙ ap (join_with_byte byte) h.0, both _ _ (some_item a.spell _ xs h.0 some) h.1);
  again = separated-again byte a law plain;
  some = ap (option_and_then (λ (x : A). Some (x ∷ []))) law.some;
}

-- Tests.

pub narrowed_law : {A : Type 0} (test : A → Bool) (a : Word A) → IsWord a → IsWord (narrowed test a)
narrowed_law {A} test a law = record {
  takes = λ text x e.
      let b = bind_takes _ _ _ e in
      let d = when_takes _ _ _ b.2 in
      let h = law.takes text b.0 b.1 in
      subst (λ (x : A). (text ≡ a.spell x) × ((a.fits x && test x) ≡ true)) d.1 (h.0, both _ _ h.1 d.0);
  again = λ x e. bind_again _ _ _ _ (law.again x (and-left _ _ e)) (if_again _ _ _ (and-right _ _ e) refl);
  some = ap (option_and_then (λ (x : A). cond (test x) (Some x) None)) law.some;
}
