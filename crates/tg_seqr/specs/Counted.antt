-- A sequencer with the number of its steps.
use Rattle.std.specs.Prelude.{ℕ}
use Rattle.tg_protocol.specs.Sequencers.{SeqrState}

pub record Counted : Type 0 where
  pub state : SeqrState
  pub calls : ℕ  -- steps taken, ticks among them
