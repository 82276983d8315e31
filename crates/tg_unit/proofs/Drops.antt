-- The first cells of a segment go while they are below a place, and the first segments while they are below a number.
use Rattle.std.proofs.Common.{◌≡◌, ℕ, ◌+◌, ◌*◌, ◌<◌, ◌≤◌, List, [], ◌∷◌, length, Option, Some, None, refl, sym, ap, subst, ◌∙◌, arith}
use Rattle.std.specs.Prelude.{remove, slice_get, IfSome, IfNone}
use Rattle.tg_base.specs.declared.cell.Cell.{Cell}
use Rattle.tg_protocol.specs.Words.{cells_from}
use Rattle.tg_unit.specs.declared.segment.Segment.{Segment}
use Rattle.tg_unit.specs.Segments.{cells_of, ArePlaces, BeginsBelow, BeginsFrom, AreSegments}
use Rattle.tg_unit.proofs.Trims.{none-below, first-goes, places-weaker, drop-segment, weaker}

pub record DropsOne (j : ℕ) (xs ys : List (ℕ × Cell)) : Type 0 where
  pub kept : cells_from j ys ≡ cells_from j xs
  pub rising : ArePlaces 0 ys
  pub fewer : length ys < length xs

pub drops-one : (xs ys : List (ℕ × Cell)) (j : ℕ) → BeginsBelow j xs → ys ≡ remove xs 0 → ArePlaces 0 xs → DropsOne j xs ys
drops-one [] ys j h is rising = absurd h
drops-one (x ∷ xs) ys j h is rising = record {
  kept = ap (cells_from j) is ∙ first-goes x xs j h;
  rising = subst (ArePlaces 0) (sym is) (places-weaker xs 0 (x.0 + 1) (omega arith) rising.2);
  fewer = let e = ap length is in omega (arith, e);
}

pub drops-end : (xs : List (ℕ × Cell)) (j : ℕ) → BeginsFrom j xs → ArePlaces 0 xs → xs ≡ cells_from j xs
drops-end [] j h rising = refl
drops-end (x ∷ xs) j h rising = sym (none-below (x ∷ xs) j x.0 h (omega arith, rising.1, rising.2))

same-some : {A : Type 0} (x y : A) → Some x ≡ Some y → x ≡ y
same-some x y e = cc

-- the first segment is taken out
pub record DropsSegment (n : ℕ) (old new : List (ℕ × Segment)) : Type 0 where
  pub whole : AreSegments 0 new
  pub kept : (j : ℕ) → cells_from (64 * n + j) (cells_of new) ≡ cells_from (64 * n + j) (cells_of old)
  pub fewer : length new < length old

pub drops-segment : (old new : List (ℕ × Segment)) (o : Option (ℕ × Segment)) (first n : ℕ) (s : Segment) → slice_get old 0 ≡ Some (first, s) → first < n
    → IfSome o (λ p. old ≡ p ∷ new) → IfNone o (new ≡ old) → (0 < length old → o ≡ None → ⊥) → AreSegments 0 old → DropsSegment n old new
drops-segment old new (Some p) first n s is lt taken same some h =
    let head : Some p ≡ Some (first, s) = sym (ap (λ es. slice_get es 0) taken) ∙ is in
    let key : p.0 ≡ first = ap (λ (x : ℕ × Segment). x.0) (same-some p (first, s) head) in
    let parts : AreSegments 0 (p ∷ new) = subst (AreSegments 0) taken h in
    record {
      whole = weaker new 0 (p.0 + 1) (omega arith) parts.3;
      kept = λ j. drop-segment p new n j 0 (omega arith) parts ∙ sym (ap (λ es. cells_from (64 * n + j) (cells_of es)) taken);
      fewer = let e = ap length taken in omega (arith, e);
    }
drops-segment [] new None first n s is lt taken same some h = absurd (cc)
drops-segment (e ∷ es) new None first n s is lt taken same some h = absurd (some (omega arith) refl)

-- no segment is below the number
pub from-first : (es : List (ℕ × Segment)) (first n : ℕ) (s : Segment) → slice_get es 0 ≡ Some (first, s) → n ≤ first → AreSegments 0 es → AreSegments n es
from-first [] first n s is le h = tt
from-first (e ∷ es) first n s is le h =
    let key : e.0 ≡ first = ap (λ (x : ℕ × Segment). x.0) (same-some e (first, s) is) in
    (omega arith, h.1, h.2, h.3, h.4)
