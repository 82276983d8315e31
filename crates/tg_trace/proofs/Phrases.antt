-- What is read of phrases that are put together is what they spell, and nothing else.
use Rattle.std.proofs.Common.{◌≡◌, ℕ, ◌<◌, Bool, true, ◌&&◌, cond, ltb, List, [], ◌∷◌, ◌++◌, map, Option, Some, None, refl, subst, ap, ◌∙◌, arith}
use Rattle.std.specs.Prelude.{option_and_then}
use Rattle.std.specs.List.{list_all}
use Rattle.std.specs.Fmt.{decimal}
use Rattle.std.proofs.lemmas.Bool.{ltb-true}
use Rattle.std.proofs.lemmas.Slice.Eq.{bytes_eq-Decides}
use Rattle.tg_codec.proofs.Laws.{and-left, and-right, both}
use Rattle.tg_any.specs.Decimals.{number_in}
use Rattle.tg_any.specs.Fronts.{after}
use Rattle.tg_any.specs.AnyWords.{or_other}
use Rattle.tg_any.specs.Words.{Word, Phrase}
use Rattle.tg_any.proofs.Numbers.{bind_takes, when_takes, number_in_takes, number_in_again}
use Rattle.tg_any.proofs.Fronts.{some_is, bind_again, if_again, after_takes, after_again}
use Rattle.tg_any.proofs.Words.{IsWord, IsPhrase}
use Rattle.tg_trace.specs.Lines.{lettered, first_at, first_read, first, after_name, named, each, many}

same_first : {A : Type 0} (w v : A) (ws vs : List A) → w ≡ v → ws ≡ vs → w ∷ ws ≡ v ∷ vs
same_first w v ws vs e f = rw (e, f) refl

-- letters and numbers

limited_takes : (o : Option ℕ) (n : ℕ) (P : ℕ → Type 0) → ((m : ℕ) → o ≡ Some m → P m) → option_and_then (λ (m : ℕ). cond (ltb m 65536) (Some m) None) o ≡ Some n → P n × (ltb n 65536 ≡ true)
limited_takes o n P is e =
    let b = bind_takes _ _ _ e in
    let d = when_takes _ _ _ b.2 in
    subst (λ (n : ℕ). P n × (ltb n 65536 ≡ true)) d.1 (is b.0 b.1, d.0)

pub lettered_law : (letter : List ℕ) → after letter [] ≡ None → IsWord (lettered letter)
lettered_law letter none = record {
  takes = λ text n e.
      let b = bind_takes _ _ _ e in
      limited_takes (number_in b.0) n (λ (n : ℕ). text ≡ letter ++ decimal n) (λ m f. after_takes letter text b.0 b.1 ∙ ap (λ (t : List ℕ). letter ++ t) (number_in_takes b.0 m f).1) b.2;
  again = λ n e.
      let small : n < 65536 = ltb-true _ _ e in
      bind_again _ _ _ _ (after_again letter (decimal n)) (bind_again _ _ _ _ (number_in_again n (omega (arith, small))) (if_again _ _ _ e refl));
  some = ap (option_and_then (λ (rest : List ℕ). option_and_then (λ (n : ℕ). cond (ltb n 65536) (Some n) None) (number_in rest))) none;
}

-- a word, and then others

pub first_at_takes : {A : Type 0} (a : Word A) → IsWord a → (ws : List (List ℕ)) (p : A × List (List ℕ)) → first_at a ws ≡ Some p → (ws ≡ a.spell p.0 ∷ p.1) × (a.fits p.0 ≡ true)
first_at_takes a law [] p e = absurd cc
first_at_takes {A} a law (w ∷ ws) p e =
    let f = bind_takes _ _ _ e in
    let h = law.takes w f.0 f.1 in
    subst (λ (p : A × List (List ℕ)). (w ∷ ws ≡ a.spell p.0 ∷ p.1) × (a.fits p.0 ≡ true)) (some_is _ _ f.2) (ap (λ (w : List ℕ). w ∷ ws) h.0, h.1)

first-takes : {A B : Type 0} (a : Word A) (b : Phrase B) → IsWord a → IsPhrase b → (ws : List (List ℕ)) (p : A × B) → first_read a b ws ≡ Some p → (ws ≡ a.spell p.0 ∷ b.spell p.1) × ((a.fits p.0 && b.fits p.1) ≡ true)
first-takes {A} {B} a b law more ws p e =
    let f = bind_takes _ _ _ e in
    let g = bind_takes _ _ _ f.2 in
    let h = first_at_takes a law ws f.0 f.1 in
    let k = more.takes f.0.1 g.0 g.1 in
    let is : (f.0.0, g.0) ≡ p = some_is _ _ g.2 in
    subst (λ (p : A × B). (ws ≡ a.spell p.0 ∷ b.spell p.1) × ((a.fits p.0 && b.fits p.1) ≡ true)) is (h.0 ∙ ap (λ (t : List (List ℕ)). a.spell f.0.0 ∷ t) k.0, both _ _ h.1 k.1)

pub first_at_again : {A : Type 0} (a : Word A) → IsWord a → (x : A) (ws : List (List ℕ)) → a.fits x ≡ true → ◌≡◌ {A = Option (A × List (List ℕ))} (first_at a (a.spell x ∷ ws)) (Some (x, ws))
first_at_again a law x ws e = bind_again _ _ _ _ (law.again x e) refl

pub first_law : {A B : Type 0} (a : Word A) (b : Phrase B) → IsWord a → IsPhrase b → IsPhrase (first a b)
first_law a b law more = record {
  takes = first-takes a b law more;
  again = λ p e. bind_again _ _ _ _ (first_at_again a law p.0 (b.spell p.1) (and-left _ _ e)) (bind_again _ _ _ _ (more.again p.1 (and-right _ _ e)) refl);
}

-- a name, and then words

name-takes : (name : List ℕ) (ws rest : List (List ℕ)) → after_name name ws ≡ Some rest → ws ≡ name ∷ rest
name-takes name [] rest e = absurd cc
name-takes name (w ∷ ws) rest e = let d = when_takes _ _ _ e in same_first _ _ _ _ ((bytes_eq-Decides w name).0 d.0) d.1

name-again : (name : List ℕ) (rest : List (List ℕ)) → after_name name (name ∷ rest) ≡ Some rest
name-again name rest = if_again _ _ _ ((bytes_eq-Decides name name).1 refl) refl

pub named_law : {A : Type 0} (name : List ℕ) (a : Phrase A) → IsPhrase a → IsPhrase (named name a)
named_law name a law = record {
  takes = λ ws x e.
      let f = bind_takes _ _ _ e in
      let h = law.takes f.0 x f.2 in
      (name-takes name ws f.0 f.1 ∙ ap (λ (t : List (List ℕ)). name ∷ t) h.0, h.1);
  again = λ x e. bind_again _ _ _ _ (name-again name (a.spell x)) (law.again x e);
}

-- Lists.

pub each_takes : {W A : Type 0} (spell : A → W) (fits : A → Bool) (read : W → Option A) → ((w : W) (x : A) → read w ≡ Some x → (w ≡ spell x) × (fits x ≡ true)) → (ws : List W) (xs : List A) → each read ws ≡ Some xs
    → (ws ≡ map spell xs) × (list_all fits xs ≡ true)
each_takes {W} {A} spell fits read takes [] xs e = subst (λ (xs : List A). ([] ≡ map spell xs) × (list_all fits xs ≡ true)) (some_is _ _ e) (refl, refl)
each_takes {W} {A} spell fits read takes (w ∷ ws) xs e =
    let f = bind_takes _ _ _ e in
    let g = bind_takes _ _ _ f.2 in
    let h = takes w f.0 f.1 in
    let k = each_takes spell fits read takes ws g.0 g.1 in
    subst (λ (xs : List A). (w ∷ ws ≡ map spell xs) × (list_all fits xs ≡ true)) (some_is _ _ g.2) (same_first _ _ _ _ h.0 k.0, both _ _ h.1 k.1)

pub each_again : {W A : Type 0} (spell : A → W) (fits : A → Bool) (read : W → Option A) → ((x : A) → fits x ≡ true → read (spell x) ≡ Some x) → (xs : List A) → list_all fits xs ≡ true → each read (map spell xs) ≡ Some xs
each_again spell fits read again [] e = refl
each_again spell fits read again (x ∷ xs) e =
    bind_again _ _ _ _ (again x (and-left _ _ e)) (bind_again _ _ _ _ (each_again spell fits read again xs (and-right _ _ e)) refl)

pub many_law : {A : Type 0} (a : Word A) → IsWord a → (test : List A → Bool) → IsPhrase (many a test)
many_law {A} a law test = record {
  takes = λ words xs e.
      let b = bind_takes _ _ _ e in
      let d = when_takes _ _ _ b.2 in
      let h = each_takes a.spell a.fits a.read law.takes words b.0 b.1 in
      subst (λ (xs : List A). (words ≡ map a.spell xs) × ((list_all a.fits xs && test xs) ≡ true)) d.1 (h.0, both _ _ h.1 d.0);
  again = λ xs e. bind_again _ _ _ _ (each_again a.spell a.fits a.read law.again xs (and-left _ _ e)) (if_again _ _ _ (and-right _ _ e) refl);
}

-- Groups of verbs.

pub or_other_takes : {A : Type 0} (o other : Option A) (x : A) (P : Type 0) → or_other o other ≡ Some x → (o ≡ Some x → P) → (other ≡ Some x → P) → P
or_other_takes (Some y) other x P e first second = first e
or_other_takes None other x P e first second = second e

pub or_other_first : {A : Type 0} (o other : Option A) (x : A) → o ≡ Some x → or_other o other ≡ Some x
or_other_first o other x e = ap (λ o. or_other o other) e

pub or_other_second : {A : Type 0} (o other : Option A) (x : A) → o ≡ None → other ≡ Some x → or_other o other ≡ Some x
or_other_second o other x e f = ap (λ o. or_other o other) e ∙ f
