-- Transactions that were begun after a world, and what is new of them after it.
use Rattle.std.specs.Prelude.{◌≡◌, ℕ, ◌<◌, ◌++◌, ◌∷◌}
use Rattle.tg_base.specs.Clusters.{Header}
use Rattle.tg_base.specs.declared.ids.Oid.{Oid}
use Rattle.tg_kind.specs.Meaning.{Meaning}
use Rattle.tg_model.specs.declared.trace.What.TheVariants as told
use Rattle.tg_model.specs.Kinds.{MarkOf}
use Rattle.tg_model.specs.Traces.{Trace, Tells, Place}
use Rattle.tg_protocol.specs.Worlds.{World, client, trace, history}
use Rattle.tg_protocol.specs.Runs.{Moves, Reaches, Passes}
use Rattle.tg_protocol.specs.Alike.{HasRecord}
use Rattle.tg_law_cells.specs.Entries.Archive.{TrimsWereSafe}
use Rattle.tg_law_cells.specs.Places.Order.{IsPlace}

module _ (m : Meaning) where
  -- a client numbers its transactions in turn, and had begun fewer in a world
  abbrev pub BegunSince : World m → ℕ → ℕ → Type 0
  BegunSince u k x = (client m u k).begun < x

  -- the record of a transaction that was begun since stands at a place that is new
  abbrev pub RecordsNew : World m → World m → Type 0
  RecordsNew u v = (k x n : ℕ) → BegunSince u k x → HasRecord m v n k x → IsPlace m u v n

  -- each snapshot at which it was answered is a place that is new
  abbrev pub SnapshotsNew : World m → World m → Type 0
  SnapshotsNew u v = (k x : ℕ) (o : Oid) (q : m.ask) (t : ℕ) (a : m.answer) → BegunSince u k x → Tells m (trace m v) k x (told.Asked o q t a) → IsPlace m u v t

  -- so each of its places is
  abbrev pub PlacesNew : World m → World m → Type 0
  PlacesNew u v = (k x n : ℕ) → BegunSince u k x → Place m (history m v) (trace m v) k x n → IsPlace m u v n

  -- what holds of the world to which a run comes in which trims were safe, and of each through which it came
  abbrev pub EachPassedBySafeTrims : (World m → World m → Type 0) → Type 0
  EachPassedBySafeTrims P = (h : Header) (ms : Moves m) (u v : World m) → Reaches m h ms v → Passes m h ms u → TrimsWereSafe m h ms → P u v

  -- A world through which a run came, with these replies, in which a transaction wasn't begun yet.
  pub record NotBegun (h : Header) (ms : Moves m) (replies : Trace m) (k x : ℕ) : Type 0 where
    pub at : World m
    pub passed : Passes m h ms at
    pub traced : trace m at ≡ replies
    pub since : BegunSince at k x

  -- The replies before the beginning of a transaction are those of such a world.
  abbrev pub BeginsApart : Header → Moves m → World m → Type 0
  BeginsApart h ms w = (before after : Trace m) (b : MarkOf m) → trace m w ≡ before ++ b ∷ after → b.what ≡ told.Begin → 0 < b.tx → NotBegun h ms before b.client b.tx
