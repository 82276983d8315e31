-- Drafts are read back in the streams of their tokens.
use Rattle.std.specs.Prelude.{◌≡◌, ℕ, List, Some}
use Rattle.tg_base.specs.declared.ids.NodeId.{NodeId}
use Rattle.tg_base.specs.declared.ids.Oid.{Oid}
use Rattle.tg_base.specs.declared.msg.Msg.TheVariants as msg
use Rattle.tg_base.specs.declared.packet.Packet.{Packet}
use Rattle.tg_entry.specs.declared.entry.Entry.{Entry}
use Rattle.tg_kind.specs.Meaning.{Meaning}
use Rattle.tg_protocol.specs.Pages.{entry_of}
use Rattle.tg_protocol.specs.Worlds.{World}
use Rattle.tg_protocol.specs.Chosen.{Sent}
use Rattle.tg_law_cells.specs.Tokens.Issuing.{IsOwnPage}
use Rattle.tg_law_walks.specs.Walks.Lists.{AreOnce}

module _ (m : Meaning) where
  -- a page of a node's own token, where an entry that is read of it has the links that were issued
  pub record IsFitPage (w : World m) (from : NodeId) (epoch pos : ℕ) (page : List ℕ) : Type 0 where
    pub own : IsOwnPage m w from epoch pos page
    pub reads : (e : Entry) → entry_of page ≡ Some e → e.head.streams ≡ own.links

  -- All that was drafted in a run fits the format, as far as its streams go: so is each page that was sent, and each token
  -- names its streams once.
  pub record DraftsFit (w : World m) : Type 0 where
    pub pages : (x : Packet) (epoch pos : ℕ) (page : List ℕ) → Sent m w x → x.msg ≡ msg.Write epoch pos page → IsFitPage w x.from epoch pos page
    pub tokens : (x : Packet) (epoch : ℕ) (os : List Oid) → Sent m w x → x.msg ≡ msg.Token epoch os → AreOnce os
