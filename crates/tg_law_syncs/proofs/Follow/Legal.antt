-- The laws on what clients find, on replies and on runs, where trims were spare.
use Rattle.std.proofs.Common.{◌≡◌, ◌⊎◌, [], sym, subst, inl, inr, append-nil}
use Rattle.std.proofs.lemmas.Bool.{cases_eq}
use Rattle.tg_base.specs.Clusters.{Header}
use Rattle.tg_entry.specs.Format.{tag_of}
use Rattle.tg_kind.specs.Meaning.{Meaning}
use Rattle.tg_protocol.specs.Worlds.{World}
use Rattle.tg_protocol.specs.Runs.{Moves, Reaches}
use Rattle.tg_protocol.specs.Holding.{WasBegun, EntriesOwn}
use Rattle.tg_law_walks.proofs.Drafts.Drafts.{records_were_begun}
use Rattle.tg_law_replies.proofs.History.States.{Apart}
use Rattle.tg_law_walks.proofs.Once.Known.{runs_legal as legal_by_safe_trims}
use Rattle.tg_law_syncs.proofs.Finds.Rounds.{clients_find as finds_where}
use Rattle.tg_law_syncs.specs.Follow.Laws.{ClientsFindBySpareTrims, RepliesRecordedBySpareTrims, RunsLegalBySpareTrims, SavesOwn}
use Rattle.tg_law_syncs.proofs.Follow.Asks.{records_follow_asks}
use Rattle.tg_law_syncs.proofs.Follow.Landing.{appends_stand}
use Rattle.tg_law_syncs.proofs.Follow.Replies.{replies_have_records}
use Rattle.tg_law_syncs.proofs.Follow.Saves.{saves_precede}

module _ (m : Meaning) where
  pub clients_find : ClientsFindBySpareTrims m
  clients_find h ms w r trims exact known own fit =
      finds_where m h ms w r exact known own (saves_precede m h ms w r trims (subst (λ (v : World m). EntriesOwn m h ms v) (sym r.goes.is) (own ms [] (sym (append-nil ms))))) fit

  pub replies_recorded : RepliesRecordedBySpareTrims m
  replies_recorded h ms w r trims saves = replies_have_records m h ms w r trims.safe (records_follow_asks m h ms w r trims) (appends_stand m h ms w r trims saves)

  -- entries but checkpoints were begun
  entries_own : (h : Header) (ms : Moves m) (w : World m) → Reaches m h ms w → SavesOwn m h ms w → EntriesOwn m h ms w
  entries_own h ms w r saves p e i = by (cases_eq (tag_of e.body) 3)
    where
      by : (tag_of e.body ≡ 3) ⊎ (tag_of e.body ≡ 3 → ⊥) → WasBegun m h ms e
      by (inl tag) = saves p e i tag
      by (inr other) = records_were_begun m h ms w r p e i other

  pub runs_legal : Apart m → RunsLegalBySpareTrims m
  runs_legal apart h ms w r trims find saves own order =
      legal_by_safe_trims m apart h ms w r trims.safe find (appends_stand m h ms w r trims saves) (entries_own h ms w r own) (replies_recorded h ms w r trims saves) (records_follow_asks m h ms w r trims) order
