-- What follows a settled page.
use Rattle.std.specs.Prelude.{ℕ, ◌<◌, List}
use Rattle.tg_base.specs.Layouts.{Layout}
use Rattle.tg_base.specs.declared.cell.Cell.TheVariants.{Data}
use Rattle.tg_kind.specs.Meaning.{Meaning}
use Rattle.tg_protocol.specs.Worlds.{World}
use Rattle.tg_law_layouts.specs.Layouts.Decisions.{IsOfDecided}
use Rattle.tg_law_cells.specs.Cells.Settled.{IsSettled}
use Rattle.tg_law_cells.specs.Order.Later.{ToldSince}
use Rattle.tg_law_cells.specs.Places.Left.{ChainServed}
use Rattle.tg_law_cells.specs.Places.Late.{IsNew}

module _ (m : Meaning) where
  -- a new page is settled only past each page that was settled before
  abbrev pub NewPagesRise : World m → World m → Type 0
  NewPagesRise u v = (pos later : ℕ) (page next : List ℕ) → IsSettled m u pos (Data page) → IsSettled m v later (Data next) → IsNew m u v later next → pos < later

  -- a layout's sequencer tells only tails past it afterwards, where a whole chain of the layout has served requests since
  abbrev pub ServedTailsPast : World m → World m → Type 0
  ServedTailsPast u v = (pos tail at : ℕ) (page : List ℕ) (p : Layout) → IsSettled m u pos (Data page) → IsOfDecided m v p → ToldSince m u v p.seq p.epoch tail → ChainServed m u v p at → pos < tail
