-- Chains have a unit.
use Rattle.std.proofs.Common.{◌≡◌, ℕ, ◌<◌, ◌≤◌, true, List, length, IsTrue, arith}
use Rattle.tg_base.specs.Units.{is_chain, is_within}
use Rattle.tg_base.proofs.Exact.{and-left}
use Rattle.tg_base.proofs.Rules.{within-low}

pub some_unit : (units : List ℕ) → IsTrue (is_chain units) → 0 < length units
some_unit units h =
    let low : 1 ≤ length units = within-low 1 5 (length units) (and-left _ _ (and-left _ _ h)) in
    omega (arith, low)
