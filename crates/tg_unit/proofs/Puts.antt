-- A cell is put into a segment that is there, or into a new one.
use Rattle.std.proofs.Common.{◌≡◌, ℕ, ◌+◌, ◌*◌, ◌^◌, ◌<◌, ◌≤◌, List, [], length, Some, None, Result, Ok, Err, OnOk, sym, ap, subst, ◌∙◌, arith}
use Rattle.std.specs.Ordering.{nat_cmp}
use Rattle.std.specs.Map.{set_value}
use Rattle.std.specs.BTreeMap.{is_at}
use Rattle.tg_base.specs.declared.cell.Cell.{Cell}
use Rattle.tg_unit.specs.declared.segment.Segment.{Segment}
use Rattle.tg_unit.specs.Segments.{cells_of, IsSegment, AreSegments}
use Rattle.tg_unit.proofs.Keys.{look, put}
use Rattle.tg_unit.proofs.Inserts.{cells_in, put-cells, put-whole, set-put}
use Rattle.tg_unit.proofs.Trims.{set-whole}
use Rattle.tg_unit.proofs.Bits.{some-after}

pub on-ok-both : {A E : Type 0} (r : Result A E) (P Q R : Type 0) → (P → Q → R) → OnOk r P → OnOk r Q → OnOk r R
on-ok-both (Ok x) P Q R f p q = f p q
on-ok-both (Err e) P Q R f p q = tt

has-cell : (s : Segment) (es : List (ℕ × Cell)) (i : ℕ) (c : Cell) → s.cells ≡ put es i c → 1 ≤ length s.cells
has-cell s es i c cells = subst (λ (zs : List (ℕ × Cell)). 1 ≤ length zs) (sym cells) (some-after es i c)

pub put-old : (es : List (ℕ × Segment)) (n i : ℕ) (c : Cell) (old new : Segment) → i < 64 → look n es ≡ Some old → AreSegments 0 es → new.cells ≡ put old.cells i c
    → cells_of (set_value (is_at (nat_cmp n)) es new) ≡ put (cells_of es) (64 * n + i) c
put-old es n i c old new lt found h cells =
    ap cells_of (set-put es n 0 old new found h) ∙ put-cells es n i 0 c new lt h (cells ∙ ap (λ o. put (cells_in o) i c) (sym found))

pub put-old-whole : (es : List (ℕ × Segment)) (n i : ℕ) (c : Cell) (old new : Segment) → AreSegments 0 es → IsSegment new → new.cells ≡ put old.cells i c
    → AreSegments 0 (set_value (is_at (nat_cmp n)) es new)
put-old-whole es n i c old new h whole cells = set-whole es n 0 new whole (has-cell new old.cells i c cells) h

pub put-new : (es : List (ℕ × Segment)) (n i : ℕ) (c : Cell) (new : Segment) → i < 64 → look n es ≡ None → AreSegments 0 es → new.cells ≡ put [] i c
    → cells_of (put es n new) ≡ put (cells_of es) (64 * n + i) c
put-new es n i c new lt found h cells = put-cells es n i 0 c new lt h (cells ∙ ap (λ o. put (cells_in o) i c) (sym found))

pub put-new-whole : (es : List (ℕ × Segment)) (n i : ℕ) (c : Cell) (new : Segment) → n < 2 ^ 58 → AreSegments 0 es → IsSegment new → new.cells ≡ put [] i c → AreSegments 0 (put es n new)
put-new-whole es n i c new near h whole cells = put-whole es n 0 new near (omega arith) whole (has-cell new [] i c cells) h
