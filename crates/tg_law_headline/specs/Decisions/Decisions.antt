-- Decision records of the log, and the records that they decide.
use Rattle.std.specs.Prelude.{◌≡◌, ℕ, ◌<◌, ◌≤◌, true, Bool, Some}
use Rattle.tg_base.specs.declared.ids.Oid.{Oid}
use Rattle.tg_entry.specs.declared.entry.Body.TheVariants.{Decision}
use Rattle.tg_entry.specs.declared.entry.Entry.{Entry}
use Rattle.tg_kind.specs.Meaning.{Meaning}
use Rattle.tg_protocol.specs.Alike.{HasEntry, HasCommit}
use Rattle.tg_protocol.specs.Entries.{lists, decides}
use Rattle.tg_protocol.specs.Worlds.{World}
use Rattle.tg_law_walks.specs.Lists.Spared.{WasSettled, ByRunsOfSpareTrims}

module _ (m : Meaning) where
  -- a decision record is of a commit record
  abbrev pub DecisionsHaveRecords : World m → Type 0
  DecisionsHaveRecords w = (at p : ℕ) (d : Entry) (is_yes : Bool) → HasEntry m w at d → d.body ≡ Decision p is_yes → HasCommit m w p

  -- it stands above that record, in each of the record's streams
  abbrev pub DecisionsFollow : World m → Type 0
  DecisionsFollow w = (at p : ℕ) (d e : Entry) (is_yes : Bool) → HasEntry m w at d → d.body ≡ Decision p is_yes → HasEntry m w p e → (p < at) × ((o : Oid) → lists e o ≡ true → lists d o ≡ true)

  abbrev pub DecisionsHaveRecordsBySpareTrims : Type 0
  DecisionsHaveRecordsBySpareTrims = ByRunsOfSpareTrims m (λ h ms w. DecisionsHaveRecords w)

  abbrev pub DecisionsFollowBySpareTrims : Type 0
  DecisionsFollowBySpareTrims = ByRunsOfSpareTrims m (λ h ms w. DecisionsFollow w)

  -- A record has a decision above it, in each of its streams, settled by an epoch.
  pub record IsDecidedBy (w : World m) (last p : ℕ) (e : Entry) : Type 0 where
    pub at : ℕ
    pub decision : Entry
    pub here : HasEntry m w at decision
    pub above : p < at
    pub settled : WasSettled m w last at
    pub is_yes : Bool
    pub says : decides p decision.body ≡ Some is_yes
    pub streams : (o : Oid) → lists e o ≡ true → lists decision o ≡ true

  -- It has it in each later world, and by each later epoch.
  abbrev pub DecisionsStay : World m → World m → Type 0
  DecisionsStay w v = (last later p : ℕ) (e : Entry) → last ≤ later → IsDecidedBy w last p e → IsDecidedBy v later p e
