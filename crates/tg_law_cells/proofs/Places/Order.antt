-- Points precede the places that are new after them.
use Rattle.std.proofs.Common.{ℕ, ◌+◌, ◌<◌, ◌≤◌, arith}
use Rattle.tg_kind.specs.Meaning.{Meaning}
use Rattle.tg_law_cells.specs.Order.Tails.{EachPassed}
use Rattle.tg_law_cells.specs.Places.Order.{Confirmed, PastPage, OfPage, OfTail, PointsPrecede}
use Rattle.tg_law_cells.proofs.Places.Past.{new_pages_rise, served_tails_past}
use Rattle.tg_law_cells.proofs.Places.Tails.{new_pages_follow, served_tails_rise}

one_more : (a b : ℕ) → a < b → a + 1 ≤ b
one_more a b less = omega (arith, less)

module _ (m : Meaning) where
  pub points_precede_places : EachPassed m (PointsPrecede m)
  points_precede_places h ms u v r x point place (Confirmed epoch tail t) (OfPage pos page s new) = new_pages_follow m h ms u v r x epoch tail pos page t s new
  points_precede_places h ms u v r x point place (Confirmed epoch tail t) (OfTail low at p d told served) = served_tails_rise m h ms u v r x p.seq epoch tail low at p t told d served
  points_precede_places h ms u v r x point place (PastPage pos page s) (OfPage later next z new) = one_more pos later (new_pages_rise m h ms u v r x pos later page next s z new)
  points_precede_places h ms u v r x point place (PastPage pos page s) (OfTail tail at p d told served) = one_more pos tail (served_tails_past m h ms u v r x pos tail at page p s d told served)
