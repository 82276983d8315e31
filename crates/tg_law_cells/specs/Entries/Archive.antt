-- The log keeps what it has, where units are asked to trim only what the log has.
use Rattle.std.specs.Prelude.{◌≡◌, ◌⊎◌, ℕ, ◌<◌, ◌++◌, ◌∷◌, Contains}
use Rattle.tg_base.specs.Clusters.{Header}
use Rattle.tg_base.specs.declared.cell.Cell.{Cell}
use Rattle.tg_base.specs.declared.msg.Msg.TheVariants as msg
use Rattle.tg_base.specs.declared.packet.Packet.{Packet}
use Rattle.tg_kind.specs.Meaning.{Meaning}
use Rattle.tg_model.specs.Kinds.{EventOf}
use Rattle.tg_protocol.specs.Worlds.{World, start, unit, log, happens}
use Rattle.tg_protocol.specs.Runs.{Moves, Takes, Reaches, Later, run}
use Rattle.tg_protocol.specs.Chosen.{Sent}
use Rattle.tg_protocol.specs.Holding.{HasCell}
use Rattle.tg_law_cells.specs.Cells.Settled.{IsSettled}

module _ (m : Meaning) where
  -- A step that trims safely: of what units were asked to trim by then, they were asked before, or the log had it then.
  abbrev pub TrimsSafely : World m → World m → Type 0
  TrimsSafely u v = (x : Packet) (epoch below : ℕ) → Sent m v x → x.msg ≡ msg.Trim epoch below → Sent m u x ⊎ ((p : ℕ) → p < below → HasCell m u p)

  -- so did each event of a run
  abbrev pub TrimsWereSafe : Header → Moves m → Type 0
  TrimsWereSafe h ms = (before : Moves m) (event : EventOf m) (later : Moves m) → ms ≡ before ++ Takes event ∷ later
      → TrimsSafely (run m before (start m h)) (happens m (run m before (start m h)) event)

  -- What holds of every world of every run in which trims were safe, and of each such world and each later one.

  abbrev pub AlwaysBySafeTrims : (World m → Type 0) → Type 0
  AlwaysBySafeTrims P = (h : Header) (ms : Moves m) (w : World m) → Reaches m h ms w → TrimsWereSafe h ms → P w

  abbrev pub EachLaterBySafeTrims : (World m → World m → Type 0) → Type 0
  EachLaterBySafeTrims P = (h : Header) (ms : Moves m) (w v : World m) → Reaches m h ms w → (l : Later m w v) → TrimsWereSafe h (ms ++ l.0) → P w v

  -- The log has exactly the settled cells.
  pub record LogIsSettled (w : World m) : Type 0 where
    pub settled : (p : ℕ) (c : Cell) → Contains (log m w) (p, c) → IsSettled m w p c
    pub has : (p : ℕ) (c : Cell) → IsSettled m w p c → Contains (log m w) (p, c)

  -- A position has one cell in the log of a world and of each later one.
  abbrev pub LogIsOne : World m → World m → Type 0
  LogIsOne w v = (p : ℕ) (c d : Cell) → Contains (log m w) (p, c) → Contains (log m v) (p, d) → c ≡ d

  -- What a unit has trimmed is in the log.
  abbrev pub TrimmedInLog : World m → Type 0
  TrimmedInLog w = (u p : ℕ) → p < (unit m w u).low → HasCell m w p
