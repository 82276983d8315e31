-- The laws on books, by what the log has of records where trims were safe.
use Rattle.tg_kind.specs.Meaning.{Meaning}
use Rattle.tg_law_replies.proofs.History.States.{Apart}
use Rattle.tg_law_replies.proofs.Books.Booked.{books_are_kept}
use Rattle.tg_law_replies.proofs.Books.Known.{records_are_known}
use Rattle.tg_law_replies.proofs.Books.Lawful.{runs_are_legal}
use Rattle.tg_law_replies.proofs.Books.Whose.{replies_are_known}
use Rattle.tg_law_walks.specs.Once.Records.{RecordsWereLeft, AppendsStand, BooksKeptBySafeTrims, RecordsKnownBySafeTrims, RepliesKnownBySafeTrims, RunsLegalBySafeTrims}
use Rattle.tg_law_walks.proofs.Once.Once.{entries_stand_once}
use Rattle.tg_law_walks.proofs.Once.Leaving.{records_are_left}
use Rattle.tg_law_walks.proofs.Once.Ending.{appends_end}
use Rattle.tg_law_walks.proofs.Once.Owning.{records_own}

module _ (m : Meaning) where
  pub records_were_left : RecordsWereLeft m
  records_were_left h ms w r safe = records_are_left m h ms w r safe

  pub appends_stand : AppendsStand m
  appends_stand h ms w r safe = appends_end m h ms w r safe

  pub books_kept : BooksKeptBySafeTrims m
  books_kept h ms w r safe asks = books_are_kept m h ms w r (records_are_left m h ms w r safe) asks

  pub records_known : RecordsKnownBySafeTrims m
  records_known h ms w r safe asks = records_are_known m h ms w r (records_are_left m h ms w r safe) asks (entries_stand_once m h ms w r safe)

  pub replies_known : RepliesKnownBySafeTrims m
  replies_known h ms w r safe asks = replies_are_known m h ms w r (records_are_left m h ms w r safe) asks (appends_end m h ms w r safe)

  pub runs_legal : Apart m → RunsLegalBySafeTrims m
  runs_legal apart h ms w r safe find ends own replies asks order =
      runs_are_legal m apart h ms w r find ends (records_are_left m h ms w r safe) own (entries_stand_once m h ms w r safe) (records_own m h ms w r safe) replies asks order
