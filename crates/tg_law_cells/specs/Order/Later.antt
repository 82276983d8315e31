-- Tails that are told afterwards.
use Rattle.std.specs.Prelude.{ℕ, ◌≤◌}
use Rattle.tg_kind.specs.Meaning.{Meaning}
use Rattle.tg_protocol.specs.Chosen.{Sent}
use Rattle.tg_protocol.specs.Worlds.{World}
use Rattle.tg_law_cells.specs.Order.Tails.{ToldTail, ConfirmedTail}

module _ (m : Meaning) where
  -- a sequencer told a tail after a world, by an answer that wasn't sent there
  pub record ToldSince (u v : World m) (s epoch tail : ℕ) : Type 0 where
    pub told : ToldTail m v s epoch tail
    pub since : Sent m u told.answer → ⊥

  -- In a tail's epoch, or a later one, no sequencer tells a lower tail after a confirmed one.
  abbrev pub TailsRise : World m → World m → Type 0
  TailsRise u v = (s epoch later tail low : ℕ) → ConfirmedTail m u v epoch tail → epoch ≤ later → ToldSince u v s later low → tail ≤ low
