-- What trims leave of each stream.
use Rattle.std.specs.Prelude.{◌≡◌, ℕ, ◌<◌, ◌≤◌, true, List, ◌∷◌, ◌++◌, Some}
use Rattle.tg_base.specs.Clusters.{Header}
use Rattle.tg_base.specs.declared.cell.Cell.{Cell}
use Rattle.tg_base.specs.declared.cell.Cell.TheVariants.{Data}
use Rattle.tg_base.specs.declared.ids.Oid.{Oid}
use Rattle.tg_base.specs.declared.msg.Msg.TheVariants as msg
use Rattle.tg_base.specs.declared.packet.Packet.{Packet}
use Rattle.tg_entry.specs.declared.entry.Entry.{Entry}
use Rattle.tg_kind.specs.Meaning.{Meaning}
use Rattle.tg_model.specs.Kinds.{EventOf}
use Rattle.tg_protocol.specs.Entries.{lists}
use Rattle.tg_protocol.specs.Pages.{entry_of}
use Rattle.tg_protocol.specs.Worlds.{World, start, log}
use Rattle.tg_protocol.specs.Runs.{Moves, Takes, Reaches, run}
use Rattle.tg_protocol.specs.Chosen.{Sent}
use Rattle.tg_law_cells.specs.Cells.Settled.{IsSettled}
use Rattle.tg_law_cells.specs.Entries.Archive.{TrimsWereSafe}
use Rattle.tg_law_walks.specs.Walks.Streams.{stands_in}
use Rattle.tg_law_walks.specs.Walks.Rounds.{IsSaving}

module _ (m : Meaning) where
  -- At or past a position the log has an entry that saves the object up to there or further. It was settled in an epoch up
  -- to this one.
  pub record IsSaved (w : World m) (o : Oid) (epoch below : ℕ) : Type 0 where
    pub at : ℕ
    pub after : below ≤ at
    pub page : List ℕ
    pub settled : IsSettled m w at (Data page)
    pub in_time : settled.layout.epoch ≤ epoch
    pub entry : Entry
    pub reads : entry_of page ≡ Some entry
    pub stands : lists entry o ≡ true
    pub saves : IsSaving m o below entry

  -- a cell of the position was settled in an epoch up to this one
  pub record WasSettled (w : World m) (epoch pos : ℕ) : Type 0 where
    pub cell : Cell
    pub settled : IsSettled m w pos cell
    pub in_time : settled.layout.epoch ≤ epoch

  -- Whatever a unit was ever asked to trim was settled in the epoch of the trim or before, and each stream that stands
  -- below it is saved so.
  pub record TrimsSaved (w : World m) : Type 0 where
    pub whole : (x : Packet) (epoch below q : ℕ) → Sent m w x → x.msg ≡ msg.Trim epoch below → q < below → WasSettled w epoch q
    pub saved : (x : Packet) (epoch below q : ℕ) (o : Oid) → Sent m w x → x.msg ≡ msg.Trim epoch below → q < below → stands_in (log m w) o q ≡ true → IsSaved w o epoch below

  -- a world from which a run went on by a further event
  pub record GoesOn (h : Header) (ms : Moves m) (u : World m) : Type 0 where
    pub before : Moves m
    pub event : EventOf m
    pub later : Moves m
    pub split : ms ≡ before ++ Takes event ∷ later
    pub is : u ≡ run m before (start m h)

  -- So it was in each world from which the run went on; and units were asked to trim only what was in the log.
  pub record TrimsWereSpare (h : Header) (ms : Moves m) : Type 0 where
    pub safe : TrimsWereSafe m h ms
    pub spare : (u : World m) → GoesOn h ms u → TrimsSaved u

  -- what holds of every run in which trims were spare
  abbrev pub ByRunsOfSpareTrims : (Header → Moves m → World m → Type 0) → Type 0
  ByRunsOfSpareTrims P = (h : Header) (ms : Moves m) (w : World m) → Reaches m h ms w → TrimsWereSpare h ms → P h ms w
