-- The places within a turn of a client that works for a command: what is still to be done there, with the client and its work.
use Rattle.std.specs.Prelude.{ℕ, List, Option}
use Rattle.tg_base.specs.Layouts.{Layout}
use Rattle.tg_base.specs.declared.ids.Oid.{Oid}
use Rattle.tg_base.specs.declared.packet.Out.{Out}
use Rattle.tg_kind.specs.Meaning.{Meaning}
use Rattle.tg_protocol.specs.Requests.{Next}
use Rattle.tg_protocol.specs.Replies.{Reply}
use Rattle.tg_protocol.specs.Appending.{Append, AppendEnd}
use Rattle.tg_protocol.specs.Syncing.{Sync, Confirmed}
use Rattle.tg_protocol.specs.Walking.{Walk, Members}
use Rattle.tg_protocol.specs.Trimming.{Trims, Trimmed, Copying, CopyEnd}
use Rattle.tg_protocol.specs.Reconfiguring.{Reconf, ReconfEnd}
use Rattle.tg_protocol.specs.Views.{Entries, Play}
use Rattle.tg_protocol.specs.Clients.{Purpose, Task, Work, Client, all_entries}
use Rattle.tg_protocol.specs.Answers.{Moved, answer_by, on_ask_at, on_rescue}
use Rattle.tg_protocol.specs.ClientSteps.{sync_to, walk_to, walk_ended_by, walks, append_to, trim_to, copy_to, reconf_to, task_feed, on_newer}

module _ (m : Meaning) where
  pub data Place : Type 0 where
    Feeds : (task : Task m) → (n rid : ℕ) → (x : Reply) → Place  -- an awaited answer comes
    Newer : (task : Task m) → (n rid : ℕ) → (q : Layout) → Place  -- a newer layout comes
    OnSync : (besides : List Out) → (to : Next Sync Confirmed) → Place  -- what a machine's turn came to
    OnWalk : (o : Oid) → (os : List Oid) → (to : Next Walk Members) → Place
    OnAppend : (y : Purpose m) → (besides : List Out) → (to : Next Append AppendEnd) → Place
    OnTrims : (below : ℕ) → (to : Next Trims Trimmed) → Place
    OnCopy : (x : Copying) → (to : Next Copying CopyEnd) → Place
    OnReconf : (to : Next Reconf ReconfEnd) → Place
    Over : (o : Oid) → (os : List Oid) → (x : Members) → (met : Option ℕ) → Place  -- a walk has ended, and what it found is known
    Walks : (os : List Oid) → Place  -- these streams are left to be walked
    Plays : (es : Entries) → (p : Play m) → Place  -- all are walked, and the kept view has played these entries
    Looks : (at : ℕ) → (o : Oid) → (q : m.ask) → Place  -- all are walked, for a past view
    Rescues : (at : ℕ) → Place  -- all are walked, for a rescue

  -- what becomes of the client there
  abbrev pub becomes : Client m → Work m → Place → Moved m
  becomes c w (Feeds t n rid x) = task_feed m c w t n rid x
  becomes c w (Newer t n rid q) = on_newer m c w t n rid q
  becomes c w (OnSync bs to) = sync_to m c w bs to
  becomes c w (OnWalk o os to) = walk_to m c w o os to
  becomes c w (OnAppend y bs to) = append_to m c w y bs to
  becomes c w (OnTrims b to) = trim_to m c w b to
  becomes c w (OnCopy x to) = copy_to m c w x to
  becomes c w (OnReconf to) = reconf_to m c w to
  becomes c w (Over o os x g) = walk_ended_by m c w o os x g
  becomes c w (Walks os) = walks m os c w
  becomes c w (Plays es p) = answer_by m c w es p w.command
  becomes c w (Looks at o q) = on_ask_at m c w at o q
  becomes c w (Rescues at) = on_rescue m c w (all_entries m c w w.oids) at
