-- What syncs end with, for the walks that come after them.
use Rattle.std.specs.Prelude.{◌≡◌, ℕ}
use Rattle.tg_base.specs.declared.packet.Packet.{Packet}
use Rattle.tg_kind.specs.Meaning.{Meaning}
use Rattle.tg_protocol.specs.Requests.{Ends}
use Rattle.tg_protocol.specs.Replies.{reply}
use Rattle.tg_protocol.specs.Syncing.{Sync, Confirmed, sync_feed}
use Rattle.tg_protocol.specs.Worlds.{World, client, log}
use Rattle.tg_law_walks.specs.Walks.Rounds.{IsConfirmed, round}
use Rattle.tg_law_syncs.specs.Syncs.Syncs.{AwaitsSync}

module _ (m : Meaning) where
  -- Of what a sync ends with in a world, all that the walks of its command want of a later world's log: its lists and the cell
  -- are of the log. The tail is past what the client has played, and the record that it appended; a trim that it knew of before
  -- the sync has left each stream an entry below the tail that saves it.
  abbrev pub TailsAreConfirmed : World m → World m → Type 0
  TailsAreConfirmed w v = (k : ℕ) (x : Packet) (s : Sync) (c : Confirmed) → (a : AwaitsSync m w k x s) →
      (sync_feed (client m w k).stand s s.work x.from.num (reply x.msg) (client m w k).next).to ≡ Ends c →
      IsConfirmed m (log m v) (round m (client m w k) a.work (client m w k).cells) c
