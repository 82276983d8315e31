-- The numbers that a client draws, and what it counts.
use Rattle.std.specs.Prelude.{ℕ, ◌+◌, ◌<◌, ◌^◌}
use Rattle.tg_kind.specs.Meaning.{Meaning}
use Rattle.tg_client_state.specs.States.{StateOf}

-- the next request number is below `most`, and one more of each count has a number
pub record AreNear (most n b d k : ℕ) : Type 0 where
  pub next : n < most
  pub begun : b + 1 < 2 ^ 32
  pub decisions : d + 1 < 2 ^ 32
  pub checkpoints : k + 1 < 2 ^ 32

module _ (m : Meaning) where
  -- in the beginning of a step
  abbrev pub HasNumbers : StateOf m → Type 0
  HasNumbers s = AreNear (2 ^ 61) s.rids.next s.begun s.decisions s.checkpoints

  -- after the turn of a machine
  abbrev pub HasNumbersLeft : StateOf m → Type 0
  HasNumbersLeft s = AreNear (2 ^ 62) s.rids.next s.begun s.decisions s.checkpoints
