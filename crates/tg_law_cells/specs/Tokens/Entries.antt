-- Entries of the log are drafts of tokens, with the links that were issued.
use Rattle.std.specs.Prelude.{◌≡◌, ℕ, true, List}
use Rattle.tg_base.specs.declared.ids.NodeId.{NodeId}
use Rattle.tg_entry.specs.declared.entry.Entry.{Entry}
use Rattle.tg_entry.specs.Format.{entry}
use Rattle.tg_kind.specs.Meaning.{Meaning}
use Rattle.tg_entry.specs.Records.{linked}
use Rattle.tg_protocol.specs.Worlds.{World}
use Rattle.tg_protocol.specs.Alike.{HasEntry}
use Rattle.tg_law_cells.specs.Tokens.Issuing.{IsOwnPage}

module _ (m : Meaning) where
  -- An entry whose page is that of a token: of the token's draft with the links that were issued with the position. It is
  -- just this draft with these links, if they fit the format. That drafts fit it isn't proved.
  pub record IsLinked (w : World m) (pos : ℕ) (e : Entry) : Type 0 where
    pub node : NodeId
    pub epoch : ℕ
    pub page : List ℕ
    pub own : IsOwnPage m w node epoch pos page
    pub is : entry.fits (linked own.draft own.links) ≡ true → e ≡ linked own.draft own.links

  -- each entry of the log is one
  abbrev pub LogEntriesLinked : World m → Type 0
  LogEntriesLinked w = (p : ℕ) (e : Entry) → HasEntry m w p e → IsLinked w p e
