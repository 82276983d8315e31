-- When what clients know of the log was settled.
use Rattle.std.specs.Prelude.{◌≡◌, ℕ, ◌≤◌, Some}
use Rattle.tg_base.specs.Clusters.{Header}
use Rattle.tg_base.specs.declared.cell.Cell.{Cell}
use Rattle.tg_kind.specs.Meaning.{Meaning}
use Rattle.tg_model.specs.Kinds.{EventOf}
use Rattle.tg_protocol.specs.Words.{cell_at}
use Rattle.tg_protocol.specs.Clients.{Work, Client, known}
use Rattle.tg_protocol.specs.Worlds.{World, client}
use Rattle.tg_protocol.specs.Runs.{Moves, Reaches}
use Rattle.tg_law_cells.specs.Cells.Settled.{IsSettled}
use Rattle.tg_law_replies.specs.History.Worlds.{entries_in}
use Rattle.tg_law_replies.specs.Replies.Steps.{EachEvent}
use Rattle.tg_law_walks.specs.Lists.Spared.{TrimsWereSpare}

module _ (m : Meaning) where
  -- the cell was settled at the position in an epoch up to this one
  pub record SettledBy (w : World m) (epoch pos : ℕ) (c : Cell) : Type 0 where
    pub settled : IsSettled m w pos c
    pub in_time : settled.layout.epoch ≤ epoch

  -- each cell that a client knows in a world, while it walks too, was settled in an epoch up to that in which the client stands
  abbrev pub KnownIsInTime : World m → World m → Type 0
  KnownIsInTime w v = (k pos : ℕ) (c : Cell) → known m (client m w k) pos ≡ Some c → SettledBy v (client m w k).stand.epoch pos c

  -- no client stands in an earlier epoch later
  abbrev pub StandsRise : World m → World m → Type 0
  StandsRise w v = (k : ℕ) → (client m w k).stand.epoch ≤ (client m v k).stand.epoch

  -- So it is within a step too, of the world before it, wherever the step comes to the end of a command's walks.

  abbrev pub KnowsInTime : World m → Client m → Work m → Type 0
  KnowsInTime w c x = (pos : ℕ) (d : Cell) → cell_at c.cells pos ≡ Some d → SettledBy w c.stand.epoch pos d

  abbrev pub WalksKnowInTime : Type 0
  WalksKnowInTime = (h : Header) (before : Moves m) (w : World m) (e : EventOf m) → Reaches m h before w → TrimsWereSpare m h before → EachEvent m h.objects (entries_in m w) (KnowsInTime w) w e
