-- The awaited answers on which an append and a sync send or keep something: on all others they take no memory.
use Rattle.std.specs.Prelude.{Bool, true, false, nat_lt, List}
use Rattle.tg_base.specs.Layouts.{Layout}
use Rattle.tg_base.specs.declared.ids.Oid.{Oid}
use Rattle.tg_base.specs.declared.msg.Msg.{Msg}
use Rattle.tg_base.specs.declared.msg.Msg.TheVariants as msg
use Rattle.tg_entry.specs.declared.entry.Entry.{Entry}
use Rattle.tg_protocol.specs.Entries.{streams_of}
use Rattle.tg_protocol.specs.Replies.{Reply, IsIssued, IsTail, IsOldEpoch, reply}
use Rattle.tg_protocol.specs.Appending.{Append, AppendWork, Asking, Putting, Judging, names_all}
use Rattle.tg_protocol.specs.Syncing.{Sync, SyncWork, Checking, Settling, Probing}
use Rattle.tg_chain.specs.Turns.{needs_memory}
use Rattle.tg_chain.specs.declared.ends.PutCellEnd.{PutCellEnd}
use Rattle.tg_chain.specs.declared.ends.PutCellEnd.TheVariants as put
use Rattle.tg_chain.specs.declared.ends.FillCellEnd.{FillCellEnd}
use Rattle.tg_chain.specs.declared.ends.FillCellEnd.TheVariants as fill

-- Ends of a cell's machine after which it goes on.

abbrev pub is_lost : PutCellEnd → Bool
is_lost (put.Lost c) = true
is_lost e = false

abbrev pub is_done : FillCellEnd → Bool
is_done (fill.Done c) = true
is_done e = false

abbrev pub is_gone : FillCellEnd → Bool
is_gone (fill.Gone b) = true
is_gone e = false

-- Appends: a token with links of its streams, and an older epoch, whose sequencer is told the layout.

abbrev pub asking_needs : Layout → Entry → Reply → Bool
asking_needs p d (IsIssued pos ls) = names_all (streams_of d) ls
asking_needs p d (IsOldEpoch e) = nat_lt e p.epoch
asking_needs p d x = false

abbrev pub append_work_needs : Layout → Entry → AppendWork → Msg → Bool
append_work_needs p d (Asking r) m = asking_needs p d (reply m)
append_work_needs p d (Putting j) m = needs_memory m
append_work_needs p d (Judging j) m = needs_memory m

abbrev pub append_needs : Layout → Append → Msg → Bool
append_needs p a m = append_work_needs p a.draft a.work m

-- Syncs: a tail with links of its streams, an older epoch, and a trim past the last position, whose chain is then probed.

abbrev pub checking_needs : Layout → List Oid → Reply → Bool
checking_needs p os (IsTail t ls) = names_all os ls
checking_needs p os (IsOldEpoch e) = nat_lt e p.epoch
checking_needs p os x = false

abbrev pub settling_needs : Msg → Bool
settling_needs (msg.Gone b) = true
settling_needs m = needs_memory m

abbrev pub sync_work_needs : Layout → List Oid → SyncWork → Msg → Bool
sync_work_needs p os (Checking r) m = checking_needs p os (reply m)
sync_work_needs p os (Settling a j) m = settling_needs m
sync_work_needs p os (Probing a j) m = needs_memory m

abbrev pub sync_needs : Layout → Sync → Msg → Bool
sync_needs p s m = sync_work_needs p s.oids s.work m
