-- Points of a world, and places that are new after it.
use Rattle.std.specs.Prelude.{ℕ, ◌+◌, ◌≤◌, List}
use Rattle.tg_base.specs.Layouts.{Layout}
use Rattle.tg_base.specs.declared.cell.Cell.TheVariants.{Data}
use Rattle.tg_kind.specs.Meaning.{Meaning}
use Rattle.tg_protocol.specs.Worlds.{World}
use Rattle.tg_law_layouts.specs.Layouts.Decisions.{IsOfDecided}
use Rattle.tg_law_cells.specs.Cells.Settled.{IsSettled}
use Rattle.tg_law_cells.specs.Order.Later.{ToldSince}
use Rattle.tg_law_cells.specs.Places.Left.{ChainServed}
use Rattle.tg_law_cells.specs.Places.Late.{IsNew, StoodTail}

module _ (m : Meaning) where
  -- a tail that was confirmed, or one past a settled page
  pub data IsPoint (u v : World m) : ℕ → Type 0 where
    Confirmed : (epoch tail : ℕ) → StoodTail m u v epoch tail → IsPoint u v tail
    PastPage : (pos : ℕ) → (page : List ℕ) → IsSettled m u pos (Data page) → IsPoint u v (pos + 1)

  -- where a new page is settled, or a tail that a layout's sequencer tells, where a whole chain of the layout serves requests
  pub data IsPlace (u v : World m) : ℕ → Type 0 where
    OfPage : (pos : ℕ) → (page : List ℕ) → IsSettled m v pos (Data page) → IsNew m u v pos page → IsPlace u v pos
    OfTail : (tail at : ℕ) → (p : Layout) → IsOfDecided m v p → ToldSince m u v p.seq p.epoch tail → ChainServed m u v p at → IsPlace u v tail

  -- no place precedes a point
  abbrev pub PointsPrecede : World m → World m → Type 0
  PointsPrecede u v = (point place : ℕ) → IsPoint u v point → IsPlace u v place → point ≤ place
