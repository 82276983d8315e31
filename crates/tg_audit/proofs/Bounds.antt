-- The bound of a transaction: the greatest point of the replies before its last begin.
use Rattle.std.proofs.Common.{◌≡◌, ℕ, ◌+◌, ◌<◌, ◌≤◌, List, [], ◌∷◌, Bool, true, false, refl, sym, ap, ◌∙◌, length, map, get_or, drop, arith}
use Rattle.std.specs.Prelude.{◌&&◌, ◌||◌, max, if◌then◌else◌}
use Rattle.std.proofs.lemmas.List.{get_or-map}
use Rattle.tg_base.specs.declared.ids.Oid.{Oid}
use Rattle.tg_kind.specs.Meaning.{Meaning}
use Rattle.tg_model.specs.Kinds.{WhatOf, MarkOf}
use Rattle.tg_model.specs.Stores.{History}
use Rattle.tg_model.specs.Traces.{Trace, point_of}
use Rattle.tg_model.specs.Verdicts.{Sameness, is_of, is_begin, begins, bound_in}
use Rattle.tg_audit.proofs.Lists.{rest_next, rest_none}
use Rattle.tg_audit.specs.Judging as Judging
use Rattle.tg_audit.specs.Judging.{begins_by, reach, after_begin, bound_by}

module _ (m : Meaning) (same : Sameness m) (objects : List Oid) (h : History m) (trace : Trace m) where
  abbrev begins_in : ℕ → ℕ → Trace m → Bool
  begins_in k x ts = begins m same objects h trace k x ts

  begin_same : (w : WhatOf m) → Judging.is_begin m w ≡ is_begin m same objects h trace w
  begin_same w = grind arith

  begins_same : (k x : ℕ) (t : MarkOf m) → begins_by m k x t ≡ (is_of m same objects h trace k x t && is_begin m same objects h trace t.what)
  begins_same k x t = ap (λ b. is_of m same objects h trace k x t && b) (begin_same t.what)

  abbrev bound_of : ℕ → ℕ → Trace m → ℕ
  bound_of k x ts = bound_in m same objects h trace ts k x

  three : (a b c : ℕ) → max (max a b) c ≡ max a (max b c)
  three a b c = omega arith

  no_more : (a : ℕ) → a ≡ max a 0
  no_more a = omega arith

  -- by whether the first reply is a begin, and whether there is one after it
  step_by : (r b p later : ℕ) (first rest : Bool) →
      (if rest then max (max r p) later else (if first then r else b)) ≡ (if first || rest then max r (if rest then max p later else 0) else b)
  step_by r b p later true true = three r p later
  step_by r b p later true false = no_more r
  step_by r b p later false true = three r p later
  step_by r b p later false false = refl

  bound_from : (k x r b : ℕ) (ts : Trace m) → bound_by m (reach m trace) k x r b ts ≡ (if begins_in k x ts then max r (bound_of k x ts) else b)
  unfolding bound_by bound_in
  bound_from k x r b [] = refl
  bound_from k x r b (t ∷ ts) =
      bound_from k x (max r (reach m trace t)) (after_begin m k x r b t) ts
      ∙ step_by r b (reach m trace t) (bound_of k x ts) (begins_by m k x t) (begins_in k x ts)
      ∙ ap (λ c. if c || begins_in k x ts then max r (if begins_in k x ts then max (reach m trace t) (bound_of k x ts) else 0) else b) (begins_same k x t)

  none_by : (b c : Bool) (n : ℕ) → (if b || c then max 0 (if c then n else 0) else 0) ≡ (if c then n else 0)
  none_by true true n = omega arith
  none_by true false n = refl
  none_by false true n = omega arith
  none_by false false n = refl

  pub bound_is : (k x : ℕ) (ts : Trace m) → bound_by m (reach m trace) k x 0 0 ts ≡ bound_of k x ts
  unfolding bound_in
  bound_is k x [] = bound_from k x 0 0 []
  bound_is k x (t ∷ ts) =
      bound_from k x 0 0 (t ∷ ts)
      ∙ none_by (is_of m same objects h trace k x t && is_begin m same objects h trace t.what) (begins_in k x ts) (max (reach m trace t) (bound_of k x ts))

module _ (m : Meaning) where
  -- One reply further, and none more.

  pub bound_next : (f : MarkOf m → ℕ) (k x r b c s : ℕ) (ts : Trace m) (ps : List ℕ) (n : ℕ) (t : MarkOf m) (y : ℕ) → n < length ts → t ≡ get_or ts n t
      → ps ≡ map f ts → c ≡ after_begin m k x r b t → s ≡ max r (get_or ps n 0) → bound_by m f k x r b (drop n ts) ≡ y → bound_by m f k x s c (drop (n + 1) ts) ≡ y
  unfolding bound_by
  bound_next f k x r b c s ts ps n t y h e points begun most so_far =
      let place : get_or ps n 0 ≡ f t = ap (λ (qs : List ℕ). get_or qs n 0) points ∙ get_or-map f ts n t 0 h ∙ ap f (sym e) in
      ap (λ (z : ℕ). bound_by m f k x z c (drop (n + 1) ts)) (most ∙ ap (λ (q : ℕ). max r q) place)
      ∙ ap (λ (z : ℕ). bound_by m f k x (max r (f t)) z (drop (n + 1) ts)) begun
      ∙ rest_next (bound_by m f k x r b) ts n t y h e so_far

  pub bound_all : (f : MarkOf m → ℕ) (k x r b : ℕ) (ts : Trace m) (n y : ℕ) → length ts ≤ n → bound_by m f k x r b (drop n ts) ≡ y → b ≡ y
  unfolding bound_by
  bound_all f k x r b ts n y h so_far = rest_none (bound_by m f k x r b) ts n y h so_far
