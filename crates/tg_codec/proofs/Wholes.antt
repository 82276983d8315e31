-- What is read whole is spelled so, what is spelled so is read, and the place of a fault is the length of
-- the longest front that is lawful so far.
use Rattle.std.proofs.Common.{◌≡◌, ℕ, ◌-◌, ◌<◌, Bool, true, false, cond, eqb, List, [], ◌++◌, length, take, drop, Ok, Err, refl, sym, ap, subst, ◌∙◌, inl, inr, arith}
use Rattle.std.proofs.lemmas.List.{take-append-drop, length-drop, length-append, append-nil, nil_from_length}
use Rattle.std.proofs.lemmas.Bool.{eqb-true}
use Rattle.tg_codec.specs.Reading.{Read}
use Rattle.tg_codec.specs.Codec.{Codec}
use Rattle.tg_codec.specs.Whole.{ended, whole, IsLawfulSoFar, IsLongestLawful, IsSpelling, IsWhole}
use Rattle.tg_codec.proofs.Stops.{Cut, Stops, err_is, lawful_front, no_longer_front}
use Rattle.tg_codec.proofs.Laws.{IsBytes, IsExact, IsCodec}

guard : {A : Type 0} (b : Bool) (x y : A) (d : ℕ) → cond b (Ok x) (Err d) ≡ Ok y → (b ≡ true) × (x ≡ y)
guard true x y d e = (refl, cc)
guard false x y d e = absurd cc

ended_ok : {A : Type 0} (bytes : List ℕ) (r : Read A) (x : A) → ended bytes r ≡ Ok x → r ≡ Ok (x, [])
ended_ok {A} bytes (Ok y) x e =
    let g = guard (eqb (length y.1) 0) y.0 x (length bytes - length y.1) e in
    let none : y.1 ≡ [] = nil_from_length y.1 (eqb-true _ _ g.0) in
    λ i. Ok (g.1 i, none i)
ended_ok bytes (Err left) x e = absurd cc

-- these two hold of each format that is exact
pub whole_found : {A : Type 0} {c : Codec A} → IsExact c → (bytes : List ℕ) (x : A) → IsBytes bytes → whole c bytes ≡ Ok x → IsSpelling c x bytes
whole_found {A} {c} law bytes x fits e =
    let t = law.takes bytes x [] fits (ended_ok bytes (c.read bytes) x e) in
    (t.1, t.0.parts ∙ append-nil (c.spell x))

pub whole_only : {A : Type 0} {c : Codec A} → IsExact c → (bytes : List ℕ) (x : A) → IsSpelling c x bytes → whole c bytes ≡ Ok x
whole_only {A} {c} law bytes x s =
    let one : c.read (c.spell x) ≡ Ok (x, []) = ap (λ t. c.read t) (sym (append-nil (c.spell x))) ∙ law.again x [] s.0 in
    ap (λ t. whole c t) s.1 ∙ ap (ended (c.spell x)) one

-- a front with bytes refused, or left over, is not lawful
refused : {A : Type 0} (r : Read A) (k : ℕ) → 0 < k → r ≡ Err k → IsLawfulSoFar r → ⊥
refused r k lt e h = let no : k ≡ 0 = subst IsLawfulSoFar e h in omega (arith, no)

left_over : {A : Type 0} (r : Read A) (v : A) (rest : List ℕ) → 0 < length rest → r ≡ Ok (v, rest) → IsLawfulSoFar r → ⊥
left_over r v rest lt e h = let no : length rest ≡ 0 = subst IsLawfulSoFar e h in omega (arith, no)

-- where a byte is refused
at_stop : {A : Type 0} (c : Codec A) → Stops c.read → (x : List ℕ) (left : ℕ) → c.read x ≡ Err left → IsLongestLawful c x (length x - left)
at_stop c s x left e = record {
  within = omega arith;
  lawful = subst IsLawfulSoFar (sym (lawful_front c.read s x left e)) refl;
  longest = λ m lt le h. let f = no_longer_front c.read s x left m e lt le in refused (c.read (take m x)) f.0 f.1 f.2 h;
}

front_of_rest : {A : Type 0} (r : Read A) (v : A) (rest y : List ℕ) → Cut r v rest y → length rest ≡ length y → IsLawfulSoFar r
front_of_rest r v rest y c e =
    elim c [
      | inl h ↦ let none : length h.0 ≡ 0 = omega (arith, e, ap length h.1, length-append h.0 y) in subst IsLawfulSoFar (sym h.2) none
      | inr h ↦ absurd (omega (arith, h.0, e))
    ]

front_is_longer : {A : Type 0} (r : Read A) (v : A) (rest y : List ℕ) → Cut r v rest y → length y < length rest → IsLawfulSoFar r → ⊥
front_is_longer r v rest y c lt lawful =
    elim c [
      | inl h ↦ left_over r v h.0 (omega (arith, lt, ap length h.1, length-append h.0 y)) h.2 lawful
      | inr h ↦ absurd (omega (arith, h.0, lt))
    ]

-- where bytes are left over
at_rest : {A : Type 0} (c : Codec A) → Stops c.read → (x : List ℕ) (v : A) (rest : List ℕ) → c.read x ≡ Ok (v, rest) → IsLongestLawful c x (length x - length rest)
at_rest c s x v rest e = record {
  within = omega arith;
  lawful =
      let n = length x - length rest in
      let all : c.read (take n x ++ drop n x) ≡ Ok (v, rest) = ap (λ t. c.read t) (take-append-drop n x) ∙ e in
      front_of_rest _ v rest (drop n x) (s.cut_ok (take n x) (drop n x) v rest all) (omega (arith, length-drop n x, s.within_ok x v rest e));
  longest = λ m lt le lawful.
      let all : c.read (take m x ++ drop m x) ≡ Ok (v, rest) = ap (λ t. c.read t) (take-append-drop m x) ∙ e in
      front_is_longer _ v rest (drop m x) (s.cut_ok (take m x) (drop m x) v rest all) (omega (arith, length-drop m x, lt, le)) lawful;
}

ended_cases : {A : Type 0} (c : Codec A) (x : List ℕ) (b : Bool) (v : A) (n at : ℕ) → cond b (Ok v) (Err n) ≡ Err at → IsLongestLawful c x n → IsLongestLawful c x at
ended_cases c x true v n at h l = absurd cc
ended_cases {A} c x false v n at h l = let same : n ≡ at = err_is {A = A} n at h in subst (IsLongestLawful c x) same l

read_cases : {A : Type 0} (c : Codec A) → Stops c.read → (x : List ℕ) (r : Read A) (at : ℕ) → c.read x ≡ r → ended x r ≡ Err at → IsLongestLawful c x at
read_cases {A} c s x (Ok p) at e h = ended_cases c x (eqb (length p.1) 0) p.0 (length x - length p.1) at h (at_rest c s x p.0 p.1 e)
read_cases {A} c s x (Err left) at e h = let same : length x - left ≡ at = err_is {A = A} _ _ h in subst (IsLongestLawful c x) same (at_stop c s x left e)

pub whole_law : {A : Type 0} {c : Codec A} → IsCodec c → (bytes : List ℕ) → IsBytes bytes → IsWhole c bytes (whole c bytes)
whole_law {A} {c} law bytes fits = record {
  found = λ x e. whole_found law.exact bytes x fits e;
  only = λ x s. whole_only law.exact bytes x s;
  place = λ at e. read_cases c law.stops bytes (c.read bytes) at refl e;
}
