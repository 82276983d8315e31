-- What a cell adds to the history.
use Rattle.std.specs.Prelude.{ℕ, List, [], Option, Some, None}
use Rattle.tg_entry.specs.declared.entry.Entry.{Entry}
use Rattle.tg_kind.specs.Meaning.{Meaning}
use Rattle.tg_model.specs.Kinds.{DoneOf}
use Rattle.tg_protocol.specs.Versions.{Versions, PartVersion}
use Rattle.tg_protocol.specs.Logs.{commits_after, changes_after, done_if}

-- versions that no checkpoint told, by the changes alone
abbrev pub changed : List PartVersion → Versions
changed ns = record { base = None; noted = ns }

module _ (m : Meaning) where
  -- the transaction of an entry after these changes, if it is committed
  abbrev pub dones_of : List PartVersion → ℕ → Entry → List (DoneOf m)
  dones_of ns p e = done_if m (commits_after m ns e) p e []

  abbrev pub dones_by : List PartVersion → ℕ → Option Entry → List (DoneOf m)
  dones_by ns p None = []
  dones_by ns p (Some e) = dones_of ns p e

  abbrev pub changes_by : List PartVersion → ℕ → Option Entry → List PartVersion
  changes_by ns p None = ns
  changes_by ns p (Some e) = changes_after m ns p e
