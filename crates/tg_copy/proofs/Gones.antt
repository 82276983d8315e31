-- Turns in which no unit has told a trim.
use Rattle.std.proofs.Common.{◌≡◌, ℕ, Bool, true, false, nat_lt, refl}
use Rattle.tg_base.specs.Layouts.{Layout}
use Rattle.tg_proj.specs.Places.{range_at}
use Rattle.tg_protocol.specs.Cells.{get_cell}
use Rattle.tg_protocol.specs.Layouts.{range_end, next_in_stripe}
use Rattle.tg_protocol.specs.Requests.{met_gone}
use Rattle.tg_protocol.specs.Trimming.{Copying, copy_from, copy_at, copies_past}
use Rattle.tg_copy.specs.Turns.{by_copy}

from_gone : (b : Bool) (p : Layout) (c : Copying) (pos old n : ℕ) → by_copy p old (met_gone 0 (copy_from p c pos n b)) ≡ by_copy p old (copy_from p c pos n b)
unfolding get_cell
from_gone true p c pos old n = refl
from_gone false p c pos old n = refl

pub none_gone_at : (p : Layout) (c : Copying) (pos old n : ℕ) → by_copy p old (met_gone 0 (copy_at p c pos n)) ≡ by_copy p old (copy_at p c pos n)
none_gone_at p c pos old n = from_gone (nat_lt pos (range_end p c.range)) p c pos old n

pub none_gone : (p : Layout) (c : Copying) (pos old n : ℕ) → by_copy p old (met_gone 0 (copies_past p c pos n)) ≡ by_copy p old (copies_past p c pos n)
none_gone p c pos old n = none_gone_at p c (next_in_stripe (range_at p.ranges c.range) c.stripe pos) old n
