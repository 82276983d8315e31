-- Tests of replies one at a time, and of all that a transaction asked and wrote.
use Rattle.std.proofs.Common.{◌≡◌, ℕ, List, [], ◌∷◌, Bool, true, false, refl, sym, ap, ◌∙◌, arith}
use Rattle.std.specs.Prelude.{◌&&◌, ◌||◌, ◌==◌, if◌then◌else◌}
use Rattle.std.specs.List.{list_any, list_all}
use Rattle.tg_base.specs.declared.ids.Oid.{Oid}
use Rattle.tg_kind.specs.Meaning.{Meaning}
use Rattle.tg_model.specs.declared.trace.What.TheVariants as told
use Rattle.tg_model.specs.Kinds.{WhatOf, MarkOf}
use Rattle.tg_model.specs.Stores.{History}
use Rattle.tg_model.specs.Traces.{Trace, put_of, puts_of, has_items}
use Rattle.tg_model.specs.Verdicts.{Sameness, Question, with_ask, asks_in}
use Rattle.tg_audit.specs.Judging.{Test, is_of, asked_all, asked_any, passes, meets, is_put, puts_by}

module _ (m : Meaning) (same : Sameness m) (objects : List Oid) (h : History m) (trace : Trace m) where
  abbrev pub Q : Type 0
  Q = Question m same objects h trace

  abbrev pub test_of : Test m → Q → Bool
  test_of p q = p q.oid q.ask q.at q.ans

  all_with : (p : Test m) (b : Bool) (w : WhatOf m) (qs : List Q) →
      list_all (test_of p) (with_ask m same objects h trace b w qs) ≡ ((if b then asked_all m p w else true) && list_all (test_of p) qs)
  all_with p false w qs = refl
  all_with p true w qs = grind arith

  any_with : (p : Test m) (b : Bool) (w : WhatOf m) (qs : List Q) →
      list_any (test_of p) (with_ask m same objects h trace b w qs) ≡ ((if b then asked_any m p w else false) || list_any (test_of p) qs)
  any_with p false w qs = refl
  any_with p true w qs = grind arith

  -- what a transaction asked passes where each reply does
  pub all_asks : (p : Test m) (k x : ℕ) (ts : Trace m) → list_all (test_of p) (asks_in m same objects h trace ts k x) ≡ list_all (passes m k x p) ts
  unfolding asks_in
  all_asks p k x [] = refl
  all_asks p k x (t ∷ ts) = all_with p (is_of m k x t) t.what (asks_in m same objects h trace ts k x) ∙ ap (λ b. passes m k x p t && b) (all_asks p k x ts)

  pub any_asks : (p : Test m) (k x : ℕ) (ts : Trace m) → list_any (test_of p) (asks_in m same objects h trace ts k x) ≡ list_any (meets m k x p) ts
  unfolding asks_in
  any_asks p k x [] = refl
  any_asks p k x (t ∷ ts) = any_with p (is_of m k x t) t.what (asks_in m same objects h trace ts k x) ∙ ap (λ b. meets m k x p t || b) (any_asks p k x ts)
