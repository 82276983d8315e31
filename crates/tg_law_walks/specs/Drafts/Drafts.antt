-- Entries of the log are drafts of appends that their clients began.
use Rattle.std.specs.Prelude.{◌≡◌, ◌⊎◌, ℕ, Some}
use Rattle.tg_base.specs.Clusters.{Header}
use Rattle.tg_entry.specs.declared.entry.Entry.{Entry}
use Rattle.tg_entry.specs.Format.{tag_of}
use Rattle.tg_kind.specs.Meaning.{Meaning}
use Rattle.tg_protocol.specs.Entries.{streams_of}
use Rattle.tg_entry.specs.Records.{linked}
use Rattle.tg_protocol.specs.Appending.{Append}
use Rattle.tg_protocol.specs.Worlds.{World, client}
use Rattle.tg_protocol.specs.Runs.{Moves, Passes}
use Rattle.tg_protocol.specs.Alike.{HasEntry}
use Rattle.tg_protocol.specs.Holding.{append_by, WasBegun}

module _ (m : Meaning) where
  -- An entry has the head of the draft of an append that its client began, with other links, and that draft's body; or
  -- both save an object. A checkpoint names parts by numbers that the ops of its object touch: of kinds whose ops touch
  -- what no part is, it may be read back with other ones.
  pub record HeadWasBegun (h : Header) (ms : Moves m) (e : Entry) : Type 0 where
    pub at : World m
    pub passed : Passes m h ms at
    pub append : Append
    pub begun : append_by m (client m at e.head.client).work ≡ Some append
    pub head : e.head ≡ (linked append.draft e.head.streams).head
    pub body : (e.body ≡ append.draft.body) ⊎ ((tag_of e.body ≡ 3) × (tag_of append.draft.body ≡ 3))
    pub streams : streams_of e ≡ streams_of append.draft

  abbrev pub EntriesBegun : Header → Moves m → World m → Type 0
  EntriesBegun h ms w = (p : ℕ) (e : Entry) → HasEntry m w p e → HeadWasBegun h ms e

  -- Each entry but a checkpoint is the draft of an append that its client began, with other links.
  abbrev pub RecordsBegun : Header → Moves m → World m → Type 0
  RecordsBegun h ms w = (p : ℕ) (e : Entry) → HasEntry m w p e → (tag_of e.body ≡ 3 → ⊥) → WasBegun m h ms e
