-- What a client has where all streams of its command are walked, as its plays need it.
use Rattle.std.specs.Prelude.{◌≡◌, ◌⊎◌, ◌≤◌, true, false, List, [], Some, None}
use Rattle.tg_base.specs.declared.ids.Oid.{Oid}
use Rattle.tg_kind.specs.Meaning.{Meaning}
use Rattle.tg_protocol.specs.Logs.{Log, entries_of}
use Rattle.tg_protocol.specs.Views.{View}
use Rattle.tg_protocol.specs.Clients.{Work, Client, member_entries, all_entries}
use Rattle.tg_protocol.specs.Answers.{play_target}
use Rattle.tg_protocol.specs.ClientSteps.{plays_kept}
use Rattle.tg_law_replies.specs.Views.Exact.{AreExact}
use Rattle.tg_law_replies.specs.Views.Views.{AreEntriesFor}
use Rattle.tg_law_walks.specs.Walks.Streams.{IsByPosition}
use Rattle.tg_law_walks.specs.Walks.Rounds.{round, IsRound}

module _ (m : Meaning) where
  -- it keeps no view, or its command leaves the kept view alone
  abbrev pub WalksFromStart : Client m → Work m → Type 0
  WalksFromStart c w = (c.view ≡ None) ⊎ (plays_kept m w.command ≡ false)

  -- Then its entries are all of the log's below the tail, down to where the walk of each stream met a trim: of the
  -- streams that it hosts, with its own records; of those that it walked, and these with its own records.
  pub record FindsAll (l : Log) (c : Client m) (w : Work m) : Type 0 where
    pub hosted : AreExact m (entries_of l) (all_entries m c w c.hosted) w.trims c.hosted w.tail
    pub members : AreExact m (entries_of l) (member_entries m c w w.oids) w.trims w.oids w.tail
    pub all : AreExact m (entries_of l) (all_entries m c w w.oids) w.trims w.oids w.tail

  abbrev pub RoundsFindAll : Type 0
  RoundsFindAll = (l : Log) (c : Client m) (w : Work m) → IsByPosition l → IsRound m l (round m c w c.cells) [] → WalksFromStart c w → FindsAll l c w

  -- With a kept view its entries are of the log, none below the tail lacks of what the view has bases for, from where it
  -- stands on, and it plays no view back.
  abbrev pub RoundsFindMore : Type 0
  RoundsFindMore = (l : Log) (objects : List Oid) (c : Client m) (w : Work m) (v : View m) → IsByPosition l → IsRound m l (round m c w c.cells) [] →
      plays_kept m w.command ≡ true → c.view ≡ Some v → AreEntriesFor m objects (entries_of l) v (all_entries m c w c.hosted) w.tail × (v.upto ≤ play_target m w w.command)
