-- What the laws ask of a world beside that it is ready.
use Rattle.std.specs.Prelude.{◌≡◌, ℕ, true, false, List, slice_index}
use Rattle.tg_base.specs.declared.ids.Oid.{Oid}
use Rattle.tg_kind.specs.Meaning.{Meaning}
use Rattle.tg_protocol.specs.Words.{too_far}
use Rattle.tg_protocol.specs.Layouts.{chain_of}
use Rattle.tg_protocol.specs.Sequencers.{links_of}
use Rattle.tg_protocol.specs.Appending.{names_all}
use Rattle.tg_protocol.specs.Worlds.{World, unit, seqr, latest}
use Rattle.tg_law_headline.specs.Issues.Issues.{TrimsInTime}

module _ (m : Meaning) where
  -- the units of a position's chain, in the latest layout
  abbrev pub chain_at : World m → ℕ → List ℕ
  chain_at w pos = chain_of (latest m w) pos

  abbrev pub chain_unit : World m → ℕ → ℕ → ℕ
  chain_unit w pos i = slice_index (chain_at w pos) i

  -- the position that the latest layout's sequencer issues next
  abbrev pub next_position : World m → ℕ
  next_position w = (seqr m w (latest m w).seq).next

  -- Three conditions, which hold of each world of the store that is ready (`laws_of_store`). Of kinds whose floors lie past what is
  -- committed the last is false.
  pub record Granted (w : World m) : Type 0 where
    -- no unit has trimmed as far as 2 ^ 62
    pub lows : (u : ℕ) → too_far (unit m w u).low ≡ false
    -- of each stream the sequencer names at most four positions, which fall and are below 2 ^ 62
    pub named : (os : List Oid) → names_all os (links_of (seqr m w (latest m w).seq).lists os) ≡ true
    -- what a unit was asked to trim is settled, in the trim's epoch or before
    pub trims : TrimsInTime m w
