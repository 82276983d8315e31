use Rattle.std.proofs.Common.{◌≡◌, ℕ, ◌↔◌, List, Option, Some, None, refl, sym}
use Rattle.std.specs.Borrow.{Bor}
use Rattle.std.specs.Prelude.{IsNone, IfSome, option_copied}
use Rattle.tg_base.specs.declared.cell.Cell.{Cell}
use Rattle.tg_unit.specs.declared.segment.Segment.{Segment}
use Rattle.tg_unit.specs.Segments.{cells_of, AreSegments, IsBare, TellsSegment}
use Rattle.tg_unit.proofs.Keys.{look}
use Rattle.tg_unit.proofs.Found.{is-bare, not-bare, tells}
use Rattle.tg_unit.proofs.cells.Cells.segment.Goals as goal

none : (r : Option (Bor Segment)) (es : List (ℕ × Segment)) (all : List (ℕ × Cell)) (n : ℕ) → cells_of es ≡ all → AreSegments 0 es → option_copied r ≡ look n es → IsNone r ↔ IsBare all n
none None es all n is h found = (λ e. is-bare es all n is h (sym found), λ b. refl)
none (Some s) es all n is h found = (λ e. absurd (cc), λ b. absurd (not-bare es all n s.now is h (sym found) b))

some : (r : Option (Bor Segment)) (es : List (ℕ × Segment)) (all : List (ℕ × Cell)) (n : ℕ) → cells_of es ≡ all → AreSegments 0 es → option_copied r ≡ look n es → IfSome r (λ s. TellsSegment all n s.now)
some None es all n is h found = tt
some (Some s) es all n is h found = tells es all n s.now is h (sym found)

pub returns-clause-none : goal.returns-clause-none
returns-clause-none c = none c.get.result c.self.inside.segments.entries c.args.self.now c.args.num c.self.view_is c.self.invariant c.get.ensures.value

pub returns-clause-some : goal.returns-clause-some
returns-clause-some c = some c.get.result c.self.inside.segments.entries c.args.self.now c.args.num c.self.view_is c.self.invariant c.get.ensures.value
