-- The units that are gone after a change: rising, and the old ones with the dropped.
use Rattle.std.proofs.Common.{◌≡◌, ℕ, suc, ◌+◌, ◌<◌, ◌≤◌, Bool, true, false, cond, ◌||◌, ltb, eqb, get_or, List, [], ◌∷◌, length, refl, ap, sym, subst, ◌∙◌, arith}
use Rattle.std.specs.Prelude.{insert, if◌then◌else◌, ◌==◌}
use Rattle.std.specs.List.{list_all}
use Rattle.std.proofs.lemmas.Bool.{ltb-true, ltb-false, lt-ltb, eqb-true}
use Rattle.tg_base.specs.Units.{has, is_unit, is_rising}
use Rattle.tg_base.proofs.Exact.{and-left, and-right, both, exact-numbers}
use Rattle.tg_proj.specs.Next.{rising_with, rising_place, next_gone}

same : (x u : ℕ) → x ≡ u → eqb x u ≡ true
same x u e = subst (λ z. eqb x z ≡ true) e (exact-numbers.whole x)

-- at its place the number stands, or it is put there
pub put_there : (xs : List ℕ) (u : ℕ) → rising_place xs u < length xs → get_or xs (rising_place xs u) 0 ≡ u → xs ≡ rising_with xs u
put_there [] u h e = absurd (omega arith)
put_there (x ∷ xs) u h e = at (ltb x u) refl h e (put_there xs u)
  where
    at : (b : Bool) → ltb x u ≡ b → cond b (1 + rising_place xs u) 0 < length (x ∷ xs) → get_or (x ∷ xs) (cond b (1 + rising_place xs u) 0) 0 ≡ u
        → (rising_place xs u < length xs → get_or xs (rising_place xs u) 0 ≡ u → xs ≡ rising_with xs u)
        → x ∷ xs ≡ cond b (x ∷ rising_with xs u) (if x == u then x ∷ xs else u ∷ x ∷ xs)
    at true q h e later =
        let next : 1 + rising_place xs u ≡ suc (rising_place xs u) = omega arith in
        ap (λ ys. x ∷ ys) (later (omega arith) (subst (λ m. get_or (x ∷ xs) m 0 ≡ u) next e))
    at false q h e later = sym (ap (λ b. if b then x ∷ xs else u ∷ x ∷ xs) (same x u e))

pub put_new : (xs : List ℕ) (u : ℕ) → ((rising_place xs u < length xs) → get_or xs (rising_place xs u) 0 ≡ u → ⊥) → insert xs (rising_place xs u) u ≡ rising_with xs u
put_new [] u h = refl
put_new (x ∷ xs) u h = at (ltb x u) refl h (put_new xs u)
  where
    at : (b : Bool) → ltb x u ≡ b → (cond b (1 + rising_place xs u) 0 < length (x ∷ xs) → get_or (x ∷ xs) (cond b (1 + rising_place xs u) 0) 0 ≡ u → ⊥)
        → ((rising_place xs u < length xs → get_or xs (rising_place xs u) 0 ≡ u → ⊥) → insert xs (rising_place xs u) u ≡ rising_with xs u)
        → insert (x ∷ xs) (cond b (1 + rising_place xs u) 0) u ≡ cond b (x ∷ rising_with xs u) (if x == u then x ∷ xs else u ∷ x ∷ xs)
    at true q h later =
        let next : 1 + rising_place xs u ≡ suc (rising_place xs u) = omega arith in
        ap (λ m. insert (x ∷ xs) m u) next ∙ ap (λ ys. x ∷ ys) (later (λ a b. h (omega arith) (subst (λ m. get_or (x ∷ xs) m 0 ≡ u) (sym next) b)))
    at false q h later = differs (eqb x u) refl
      where
        differs : (b : Bool) → eqb x u ≡ b → u ∷ x ∷ xs ≡ (if b then x ∷ xs else u ∷ x ∷ xs)
        differs true e = absurd (h (omega arith) (eqb-true x u e))
        differs false e = refl

-- ---- each a unit

with_units : (xs : List ℕ) (u : ℕ) → list_all is_unit xs ≡ true → is_unit u ≡ true → list_all is_unit (rising_with xs u) ≡ true
with_units [] u h e = both _ _ e refl
with_units (x ∷ xs) u h e = at (ltb x u) (with_units xs u (and-right _ _ h) e)
  where
    at : (b : Bool) → list_all is_unit (rising_with xs u) ≡ true → list_all is_unit (cond b (x ∷ rising_with xs u) (if x == u then x ∷ xs else u ∷ x ∷ xs)) ≡ true
    at true later = both _ _ (and-left _ _ h) later
    at false later = found (x == u)
      where
        found : (b : Bool) → list_all is_unit (if b then x ∷ xs else u ∷ x ∷ xs) ≡ true
        found true = h
        found false = both _ _ e h

pub gone_units : (gone drop : List ℕ) → list_all is_unit gone ≡ true → list_all is_unit drop ≡ true → list_all is_unit (next_gone gone drop) ≡ true
gone_units gone [] h e = h
gone_units gone (u ∷ us) h e = gone_units (rising_with gone u) us (with_units gone u h (and-left _ _ e)) (and-right _ _ e)

-- ---- rising

abbrev Begins : ℕ → List ℕ → Type 0
Begins x [] = Unit {0}
Begins x (y ∷ ys) = x < y

begins : (x : ℕ) (ys : List ℕ) → is_rising (x ∷ ys) ≡ true → Begins x ys
begins x [] h = tt
begins x (y ∷ ys) h = ltb-true x y (and-left _ _ h)

tail_rises : (x : ℕ) (ys : List ℕ) → is_rising (x ∷ ys) ≡ true → is_rising ys ≡ true
tail_rises x [] h = refl
tail_rises x (y ∷ ys) h = and-right _ _ h

rising_cons : (x : ℕ) (ys : List ℕ) → Begins x ys → is_rising ys ≡ true → is_rising (x ∷ ys) ≡ true
rising_cons x [] h e = refl
rising_cons x (y ∷ ys) h e = both _ _ (lt-ltb x y h) e

begins_with : (x : ℕ) (ys : List ℕ) (u : ℕ) → Begins x ys → x < u → Begins x (rising_with ys u)
begins_with x [] u h e = e
begins_with x (y ∷ ys) u h e = at (ltb y u)
  where
    at : (b : Bool) → Begins x (cond b (y ∷ rising_with ys u) (if y == u then y ∷ ys else u ∷ y ∷ ys))
    at true = h
    at false = found (y == u)
      where
        found : (b : Bool) → Begins x (if b then y ∷ ys else u ∷ y ∷ ys)
        found true = h
        found false = e

above : (x u : ℕ) → u ≤ x → eqb x u ≡ false → u < x
above x u h e = grind arith

with_rises : (xs : List ℕ) (u : ℕ) → is_rising xs ≡ true → is_rising (rising_with xs u) ≡ true
with_rises [] u h = refl
with_rises (x ∷ xs) u h = at (ltb x u) refl (with_rises xs u (tail_rises x xs h))
  where
    at : (b : Bool) → ltb x u ≡ b → is_rising (rising_with xs u) ≡ true → is_rising (cond b (x ∷ rising_with xs u) (if x == u then x ∷ xs else u ∷ x ∷ xs)) ≡ true
    at true q later = rising_cons x (rising_with xs u) (begins_with x xs u (begins x xs h) (ltb-true x u q)) later
    at false q later = found (eqb x u) refl
      where
        found : (b : Bool) → eqb x u ≡ b → is_rising (if b then x ∷ xs else u ∷ x ∷ xs) ≡ true
        found true e = h
        found false e = both _ _ (lt-ltb u x (above x u (ltb-false x u q) e)) h

pub gone_rises : (gone drop : List ℕ) → is_rising gone ≡ true → is_rising (next_gone gone drop) ≡ true
gone_rises gone [] h = h
gone_rises gone (u ∷ us) h = gone_rises (rising_with gone u) us (with_rises gone u h)

-- ---- which units

or_false : (a : Bool) → (a || false) ≡ a
or_false true = refl
or_false false = refl

or_assoc : (a b c : Bool) → ((a || b) || c) ≡ (a || (b || c))
or_assoc true b c = refl
or_assoc false b c = refl

or_swap : (a b : Bool) → (a || b) ≡ (b || a)
or_swap true b = sym (or_true b)
  where
    or_true : (b : Bool) → (b || true) ≡ true
    or_true true = refl
    or_true false = refl
or_swap false b = sym (or_false b)

or_again : (a b : Bool) → (a || b) ≡ ((a || b) || a)
or_again true b = refl
or_again false b = sym (or_false b)

has_with : (xs : List ℕ) (u v : ℕ) → has (rising_with xs u) v ≡ (has xs v || u == v)
has_with [] u v = or_false (u == v)
has_with (x ∷ xs) u v = at (ltb x u) (has_with xs u v)
  where
    at : (b : Bool) → has (rising_with xs u) v ≡ (has xs v || u == v) → has (cond b (x ∷ rising_with xs u) (if x == u then x ∷ xs else u ∷ x ∷ xs)) v ≡ (has (x ∷ xs) v || u == v)
    at true later = ap (λ b. x == v || b) later ∙ sym (or_assoc (x == v) (has xs v) (u == v))
    at false later = found (eqb x u) refl
      where
        found : (b : Bool) → eqb x u ≡ b → has (if b then x ∷ xs else u ∷ x ∷ xs) v ≡ (has (x ∷ xs) v || u == v)
        found true e = or_again (x == v) (has xs v) ∙ ap (λ z. has (x ∷ xs) v || z == v) (eqb-true x u e)
        found false e = or_swap (u == v) (has (x ∷ xs) v)

pub has_gone : (gone drop : List ℕ) (v : ℕ) → has (next_gone gone drop) v ≡ (has gone v || has drop v)
has_gone gone [] v = sym (or_false (has gone v))
has_gone gone (u ∷ us) v = has_gone (rising_with gone u) us v ∙ ap (λ b. b || has us v) (has_with gone u v) ∙ or_assoc (has gone v) (u == v) (has us v)
