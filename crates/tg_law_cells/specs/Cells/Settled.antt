-- Settled cells: those that every unit of a decided layout's chain has told.
use Rattle.std.specs.Prelude.{◌≡◌, ◌⊎◌, ℕ, ◌+◌, ◌<◌, ◌≤◌, List, length, Some, Contains}
use Rattle.tg_base.specs.Layouts.{Layout}
use Rattle.tg_base.specs.declared.cell.Cell.{Cell}
use Rattle.tg_base.specs.declared.packet.Packet.{Packet}
use Rattle.tg_kind.specs.Meaning.{Meaning}
use Rattle.tg_protocol.specs.Words.{cell_at}
use Rattle.tg_protocol.specs.Layouts.{chain_of}
use Rattle.tg_protocol.specs.Cells.{place_in, unit_at, last_unit}
use Rattle.tg_protocol.specs.Logs.{chain_cell, log_cell}
use Rattle.tg_protocol.specs.Worlds.{World, unit}
use Rattle.tg_law_layouts.specs.Moves.Telling.{Claim, Told}
use Rattle.tg_law_layouts.specs.Layouts.Decisions.{IsOfDecided}
use Rattle.tg_law_cells.specs.Cells.Chains.{ToldUpTo, FirstTold}

-- the unit has told a cell there before an epoch
pub record HadBefore (ps : List Packet) (u epoch pos : ℕ) : Type 0 where
  pub claim : Claim
  pub told : Told ps u claim
  pub at : claim.pos ≡ pos
  pub early : claim.epoch < epoch

-- the first unit of a position's chain
abbrev pub head : Layout → ℕ → ℕ
head q pos = unit_at (place_in q pos) 0

module _ (m : Meaning) where
  -- every unit of a decided layout's chain has told the cell, in an epoch up to the layout's
  pub record IsSettled (w : World m) (pos : ℕ) (c : Cell) : Type 0 where
    pub layout : Layout
    pub decided : IsOfDecided m w layout
    pub told : FirstTold w.packets (place_in layout pos) c (length (chain_of layout pos))

  -- Joins.

  -- a unit joins the chain of a position, which is older than the layout
  pub record Joins (w : World m) (p q : Layout) (pos u : ℕ) : Type 0 where
    pub before : IsOfDecided m w p
    pub after : IsOfDecided m w q
    pub next : q.epoch ≡ p.epoch + 1
    pub here : Contains (chain_of q pos) u
    pub new : Contains (chain_of p pos) u → ⊥
    pub old : pos < q.start

  -- what a unit that joins a chain has told of its cells, it told before too
  abbrev pub JoinsTold : World m → Type 0
  JoinsTold w = (p q : Layout) (pos u : ℕ) (k : Claim) → Joins w p q pos u → Told w.packets u k → k.pos ≡ pos → HadBefore w.packets u q.epoch pos

  -- and it told each of them, or has trimmed it
  abbrev pub JoinsWhole : World m → Type 0
  JoinsWhole w = (p q : Layout) (pos u : ℕ) → Joins w p q pos u → HadBefore w.packets u q.epoch pos ⊎ (pos < (unit m w u).low)

  -- Of one world and a later one.

  -- the unit stands in the chain of a layout that isn't older than the one in which the cell was settled
  pub record StandsLater (v : World m) (old q : Layout) (pos u : ℕ) : Type 0 where
    pub decided : IsOfDecided m v q
    pub later : old.epoch ≤ q.epoch
    pub here : Contains (chain_of q pos) u

  -- no unit of a later layout's chain tells another cell than the settled one
  abbrev pub SettledTold : World m → World m → Type 0
  SettledTold w v = (pos : ℕ) (c : Cell) (s : IsSettled w pos c) (q : Layout) (u : ℕ) (k : Claim) →
      StandsLater v s.layout q pos u → Told v.packets u k → k.pos ≡ pos → k.cell ≡ c

  -- a position has one settled cell, in all worlds of a run
  abbrev pub SettledOnce : World m → World m → Type 0
  SettledOnce w v = (pos : ℕ) (c d : Cell) → IsSettled w pos c → IsSettled v pos d → c ≡ d

  -- what the last unit of a decided layout's chain has told in its epoch or before is settled
  abbrev pub LastSettles : World m → Type 0
  LastSettles w = (q : Layout) (pos : ℕ) (c : Cell) → IsOfDecided m w q →
      ToldUpTo w.packets (last_unit (place_in q pos)) q.epoch pos c → IsSettled w pos c

  -- no unit of a later layout's chain has another cell
  abbrev pub SettledKept : World m → World m → Type 0
  SettledKept w v = (pos : ℕ) (c x : Cell) (s : IsSettled w pos c) (q : Layout) (u : ℕ) →
      StandsLater v s.layout q pos u → cell_at (unit m v u).cells pos ≡ Some x → x ≡ c

  -- nor has a later layout's whole chain
  abbrev pub ChainKept : World m → World m → Type 0
  ChainKept w v = (pos : ℕ) (c x : Cell) (s : IsSettled w pos c) (q : Layout) → IsOfDecided m v q → s.layout.epoch ≤ q.epoch →
      chain_cell v.units pos (chain_of q pos) ≡ Some x → x ≡ c

  -- each unit of a later layout's chain has a settled cell, or has trimmed it
  abbrev pub SettledHeld : World m → World m → Type 0
  SettledHeld w v = (pos : ℕ) (c : Cell) (s : IsSettled w pos c) (q : Layout) (u : ℕ) →
      StandsLater v s.layout q pos u → (cell_at (unit m v u).cells pos ≡ Some c) ⊎ (pos < (unit m v u).low)

  -- where no unit of the chain has trimmed it, the whole chain has it: so it is a cell of the log
  abbrev pub SettledInLog : World m → World m → Type 0
  SettledInLog w v = (pos : ℕ) (c : Cell) (s : IsSettled w pos c) (q : Layout) → IsOfDecided m v q → s.layout.epoch ≤ q.epoch →
      ((u : ℕ) → Contains (chain_of q pos) u → (unit m v u).low ≤ pos) → log_cell q v.units v.archive pos ≡ Some c

  -- Of one chain.

  -- what a unit of a decided layout's chain has, and hasn't passed the layout's epoch, the first unit has too, or has
  -- trimmed it
  abbrev pub HeadsHave : World m → Type 0
  HeadsHave w = (q : Layout) (pos u : ℕ) (c : Cell) → IsOfDecided m w q → Contains (chain_of q pos) u → (unit m w u).epoch ≤ q.epoch →
      cell_at (unit m w u).cells pos ≡ Some c → (cell_at (unit m w (head q pos)).cells pos ≡ Some c) ⊎ (pos < (unit m w (head q pos)).low)
