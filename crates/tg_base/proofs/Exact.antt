-- Tests that tell equal values from others.
use Rattle.std.proofs.Common.{◌≡◌, Bool, true, false, ◌&&◌, eqb, List, [], ◌∷◌, refl, sym, subst, ◌∙◌, ◌↔◌, IsTrue, arith}
use lib.Pointwise.{pointwise}
use Rattle.std.proofs.lemmas.Bool.{eqb-true}
use Rattle.tg_base.specs.declared.layout.Range.{Range}
use Rattle.tg_base.specs.contracts.layout.RangePartialEq.TheImpl.{eq-value}
use Rattle.tg_base.specs.contracts.layout.ProjectionPartialEq.TheImpl.{eq-value as layout-eq}
use Rattle.tg_base.specs.Layouts.{Layout}

-- E is true of equal values alone
pub record IsExact {A : Type 0} (E : A → A → Bool) : Type 0 where
  pub sound : (x y : A) → E x y ≡ true → x ≡ y
  pub whole : (x : A) → E x x ≡ true

pub exact-numbers : IsExact eqb
exact-numbers = record { sound = λ x y e. eqb-true x y e; whole = λ x. grind arith }

pub and-left : (a b : Bool) → (a && b) ≡ true → a ≡ true
and-left true b e = refl
and-left false b e = absurd cc

pub and-right : (a b : Bool) → (a && b) ≡ true → b ≡ true
and-right true b e = e
and-right false b e = absurd cc

pub both : (a b : Bool) → a ≡ true → b ≡ true → (a && b) ≡ true
both a b p q = rw (p, q) refl

lists-sound : {A : Type 0} (E : A → A → Bool) → IsExact E → (xs ys : List A) → pointwise E xs ys ≡ true → xs ≡ ys
lists-sound E h [] [] e = refl
lists-sound E h [] (y ∷ ys) e = absurd cc
lists-sound E h (x ∷ xs) [] e = absurd cc
lists-sound E h (x ∷ xs) (y ∷ ys) e =
    let head : x ≡ y = h.sound x y (and-left _ _ e) in
    let tail : xs ≡ ys = lists-sound E h xs ys (and-right _ _ e) in
    λ i. head i ∷ tail i

lists-whole : {A : Type 0} (E : A → A → Bool) → IsExact E → (xs : List A) → pointwise E xs xs ≡ true
lists-whole E h [] = refl
lists-whole E h (x ∷ xs) = both _ _ (h.whole x) (lists-whole E h xs)

pub exact-lists : {A : Type 0} {E : A → A → Bool} → IsExact E → IsExact (pointwise E)
exact-lists {A} {E} h = record { sound = lists-sound E h; whole = lists-whole E h }

-- a record's parts, equal one by one, make it equal
range-same : (x y : Range) → x.lo ≡ y.lo → x.stripes ≡ y.stripes → x ≡ y
range-same x y p q = λ i. record { lo = p i; stripes = q i }

pub exact-ranges : IsExact eq-value.it
exact-ranges = record {
  sound = λ x y e. range-same x y (eqb-true _ _ (and-left _ _ e)) ((exact-lists (exact-lists exact-numbers)).sound _ _ (and-right _ _ e));
  whole = λ x. both _ _ (exact-numbers.whole x.lo) ((exact-lists (exact-lists exact-numbers)).whole x.stripes);
}

layout-same : (x y : Layout) → x.epoch ≡ y.epoch → x.seq ≡ y.seq → x.start ≡ y.start → x.by ≡ y.by → x.gone ≡ y.gone → x.ranges ≡ y.ranges → x ≡ y
layout-same x y p q r s t u = λ i. record { epoch = p i; seq = q i; start = r i; by = s i; gone = t i; ranges = u i }

exact-texts : IsExact (pointwise eqb)
exact-texts = exact-lists exact-numbers

pub exact-layouts : IsExact layout-eq.it
exact-layouts = record {
  sound = λ x y e.
      let after_epoch = and-right _ _ e in
      let after_seq = and-right _ _ after_epoch in
      let after_start = and-right _ _ after_seq in
      let after_by = and-right _ _ after_start in
      layout-same x y (eqb-true _ _ (and-left _ _ e)) (eqb-true _ _ (and-left _ _ after_epoch)) (eqb-true _ _ (and-left _ _ after_seq))
      (eqb-true _ _ (and-left _ _ after_start)) (exact-texts.sound _ _ (and-left _ _ after_by)) ((exact-lists exact-ranges).sound _ _ (and-right _ _ after_by));
  whole = λ x.
      both _ _ (exact-numbers.whole x.epoch) (both _ _ (exact-numbers.whole x.seq) (both _ _ (exact-numbers.whole x.start)
      (both _ _ (exact-numbers.whole x.by) (both _ _ (exact-texts.whole x.gone) ((exact-lists exact-ranges).whole x.ranges)))));
}

-- a test that answers by E tells equal values from others
pub told : {A : Type 0} {E : A → A → Bool} → IsExact E → (r : Bool) (x y : A) → r ≡ E x y → IsTrue r ↔ (x ≡ y)
told {A} {E} h r x y e = (λ t. h.sound x y (sym e ∙ t), λ p. e ∙ subst (λ z. E x z ≡ true) p (h.whole x))
