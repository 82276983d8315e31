-- What holds of checkpoints too, over kinds whose ops touch parts of the format.
use Rattle.std.specs.Prelude.{◌≡◌, ℕ, true, Some}
use Rattle.tg_entry.specs.Format.{entry}
use Rattle.tg_kind.specs.Meaning.{Meaning}
use Rattle.tg_protocol.specs.Appending.{Append}
use Rattle.tg_protocol.specs.Worlds.{World, client}
use Rattle.tg_protocol.specs.Runs.{Always, AlwaysBy}
use Rattle.tg_protocol.specs.Holding.{append_by, EntriesOwn}
use Rattle.tg_law_replies.specs.Replies.Ended.{AppendsEnd}
use Rattle.tg_law_walks.specs.Drafts.Parts.{TouchParts}
use Rattle.tg_law_walks.specs.Once.Records.{ByRunsOfSafeTrims}

module _ (m : Meaning) where
  -- what a client appends has a spelling
  abbrev pub AppendsFit : World m → Type 0
  AppendsFit w = (k : ℕ) (a : Append) → append_by m (client m w k).work ≡ Some a → entry.fits a.draft ≡ true

  abbrev pub DraftsFitByParts : Type 0
  DraftsFitByParts = TouchParts m → Always m (AppendsFit)

  -- so each entry of the log is, links aside, the draft of an append that its client began
  abbrev pub EntriesOwnByParts : Type 0
  EntriesOwnByParts = TouchParts m → AlwaysBy m (EntriesOwn m)

  -- and each append that ended stands where it says, where trims were safe
  abbrev pub AppendsEndByParts : Type 0
  AppendsEndByParts = TouchParts m → ByRunsOfSafeTrims m (AppendsEnd m)
