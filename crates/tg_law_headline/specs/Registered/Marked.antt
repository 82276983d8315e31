-- Each mark of the log stands past a checkpoint that reaches it, and so what stands below the directory's floor is saved.
use Rattle.std.specs.Prelude.{◌≡◌, ℕ, ◌<◌, ◌≤◌, Bool, true}
use Rattle.tg_base.specs.Clusters.{Header}
use Rattle.tg_base.specs.declared.ids.Oid.{Oid}
use Rattle.tg_entry.specs.Records as records
use Rattle.tg_entry.specs.declared.entry.Entry.{Entry}
use Rattle.tg_kind.specs.Meaning.{Meaning}
use Rattle.tg_protocol.specs.Alike.{HasEntry}
use Rattle.tg_protocol.specs.Entries.{lists}
use Rattle.tg_protocol.specs.Worlds.{World}
use Rattle.tg_protocol.specs.Runs.{Moves, Reaches}
use Rattle.tg_law_replies.specs.History.Worlds.{entries_in}
use Rattle.tg_law_replies.specs.History.Floors.{IsCheckpointed, MarksAreKept}
use Rattle.tg_law_replies.specs.History.Loading.{AreOpsOf}
use Rattle.tg_law_replies.specs.Replies.Ended.{AppendsEnd}
use Rattle.tg_law_replies.specs.Replies.Laws.{ClientsFind}
use Rattle.tg_law_walks.specs.Lists.Spared.{TrimsWereSpare}
use Rattle.tg_law_syncs.specs.Finds.Left.{SavesPrecede}
use Rattle.tg_law_headline.specs.Trims.Floors.{floor_at}
use Rattle.tg_law_headline.specs.AllKinds.Directories.{DirectoryLaws}

module _ (m : Meaning) where
  -- What holds in each run over kinds with a directory that only marks mark, and whose objects have the format's numbers, in which
  -- trims were spare, where clients find what they need of the log at hand, appends that ended stand there, and no checkpoint
  -- saves more than what stands below it.
  abbrev pub WhereMarksMark : ((Oid → Bool) → (m.op → Bool) → Header → World m → Type 0) → Type 0
  WhereMarksMark P = (is_object : Oid → Bool) (is_op : m.op → Bool) → DirectoryLaws m is_object is_op → ((o : Oid) → records.is_object o ≡ true → is_object o ≡ true) →
      (h : Header) (ms : Moves m) (w : World m) → Reaches m h ms w → TrimsWereSpare m h ms → ClientsFind m h ms w → AppendsEnd m h ms w → SavesPrecede m (entries_in m w) → P is_object is_op h w

  abbrev pub MarksFollowCheckpoints : Type 0
  MarksFollowCheckpoints = WhereMarksMark (λ is_object is_op h w. MarksAreKept m is_object h.objects (entries_in m w))

  -- where ops are read of the log's writes, a floor of the directory is no higher than the log below which it is, and each object
  -- that stands below it has a checkpoint that reaches it
  abbrev pub FloorsSave : Type 0
  FloorsSave = WhereMarksMark (λ is_object is_op h w. AreOpsOf m is_op (entries_in m w) → (n q : ℕ) (e : Entry) (o : Oid) → HasEntry m w q e → lists e o ≡ true → q < floor_at m h.objects w n →
      (floor_at m h.objects w n ≤ n) × IsCheckpointed m is_object h.objects (entries_in m w) o (floor_at m h.objects w n) n)
