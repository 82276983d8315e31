-- What the grammar of entries says of what is read.
use Rattle.std.specs.Prelude.{◌≡◌, ℕ, true, List, [], ◌∷◌, Some, Contains}
use Rattle.tg_base.specs.declared.ids.Oid.{Oid}
use Rattle.tg_entry.specs.declared.entry.WriteOp.{WriteOp}
use Rattle.tg_entry.specs.declared.entry.Entry.{Entry}
use Rattle.tg_kind.specs.Meaning.{Meaning}
use Rattle.tg_protocol.specs.Pages.{entry_of}
use Rattle.tg_entry.specs.Needs.{writes_of}
use Rattle.tg_protocol.specs.Entries.{is_commit, streams_of, lists}
use Rattle.tg_protocol.specs.Worlds.{World}
use Rattle.tg_law_replies.specs.History.Logs.{AreListed}
use Rattle.tg_law_replies.specs.History.Worlds.{entries_in}
use Rattle.tg_law_replies.specs.Views.Exact.{AreWriting}

-- no object stands twice
abbrev pub AreApart : List Oid → Type 0
AreApart [] = Unit {0}
AreApart (o ∷ os) = (Contains os o → ⊥) × AreApart os

pub record KeepsGrammar (e : Entry) : Type 0 where
  pub streams : AreApart (streams_of e)
  pub listed : (w : WriteOp) → Contains (writes_of e) w → lists e w.oid ≡ true
  pub writing : is_commit e ≡ true → (w : WriteOp) × Contains (writes_of e) w

-- each entry that is read off a page keeps it
abbrev pub PagesKeepGrammar : Type 0
PagesKeepGrammar = (page : List ℕ) (e : Entry) → entry_of page ≡ Some e → KeepsGrammar e

-- so does each of a log
abbrev pub LogsKeepGrammar : Meaning → Type 0
LogsKeepGrammar m = (w : World m) → AreListed (entries_in m w) × AreWriting (entries_in m w)
