-- What clients of worlds count.
use Rattle.std.specs.Prelude.{ℕ, ◌≤◌}
use Rattle.tg_kind.specs.Meaning.{Meaning}
use Rattle.tg_protocol.specs.Clients.{Client}
use Rattle.tg_protocol.specs.Worlds.{World, client}

module _ (m : Meaning) where
  -- A client has taken no more steps than its world, and counts no more of each than its own steps.
  pub record IsCounted (steps : ℕ) (c : Client m) : Type 0 where
    pub calls : c.calls ≤ steps
    pub begun : c.begun ≤ c.calls
    pub decisions : c.decisions ≤ c.calls
    pub checkpoints : c.checkpoints ≤ c.calls

  abbrev pub CountsStayLow : World m → Type 0
  CountsStayLow w = (k : ℕ) → IsCounted w.steps (client m w k)
