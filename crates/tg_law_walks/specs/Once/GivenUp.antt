-- Tokens that their clients gave up, and what is left of them.
use Rattle.std.specs.Prelude.{◌≡◌, ◌⊎◌, ℕ, ◌<◌, ◌≤◌, List, Some, Contains}
use Rattle.tg_base.specs.Layouts.{Layout}
use Rattle.tg_base.specs.declared.cell.Cell.{Cell}
use Rattle.tg_base.specs.declared.cell.Cell.TheVariants.{Data}
use Rattle.tg_base.specs.declared.msg.Msg.TheVariants as msg
use Rattle.tg_base.specs.declared.packet.Packet.{Packet}
use Rattle.tg_entry.specs.declared.entry.Entry.{Entry}
use Rattle.tg_entry.specs.Format.{tag_of}
use Rattle.tg_kind.specs.Meaning.{Meaning}
use Rattle.tg_protocol.specs.Words.{client_id}
use Rattle.tg_protocol.specs.Pages.{entry_of}
use Rattle.tg_protocol.specs.Worlds.{World, log}
use Rattle.tg_protocol.specs.Chosen.{Sent}
use Rattle.tg_law_layouts.specs.Layouts.Decisions.{IsOfDecided}
use Rattle.tg_law_cells.specs.Cells.Chains.{ToldUpTo}
use Rattle.tg_law_cells.specs.Cells.Settled.{IsSettled, head}
use Rattle.tg_law_cells.specs.Homes.Homes.{Home}

module _ (m : Meaning) where
  -- The page of a token, which was put at its position in its epoch, was given up: the first unit of the epoch's chain has
  -- told another cell than the page.
  pub record IsLost (w : World m) (epoch pos : ℕ) (page : List ℕ) : Type 0 where
    pub layout : Layout
    pub decided : IsOfDecided m w layout
    pub of : layout.epoch ≡ epoch
    pub cell : Cell
    pub told : ToldUpTo w.packets (head layout pos) epoch pos cell
    pub other : cell ≡ Data page → ⊥

  -- Or a later layout starts at the position or below it.
  pub record IsOver (w : World m) (epoch pos : ℕ) : Type 0 where
    pub layout : Layout
    pub decided : IsOfDecided m w layout
    pub later : epoch < layout.epoch
    pub start : layout.start ≤ pos

  -- Or another cell is settled there.
  pub record IsFilled (w : World m) (pos : ℕ) (page : List ℕ) : Type 0 where
    pub cell : Cell
    pub settled : IsSettled m w pos cell
    pub other : cell ≡ Data page → ⊥

  abbrev pub IsGivenUp : World m → ℕ → ℕ → List ℕ → Type 0
  IsGivenUp w epoch pos page = IsLost w epoch pos page ⊎ (IsOver w epoch pos ⊎ IsFilled w pos page)

  -- A settled page is that of a token which wasn't given up: the token of its home.
  pub record IsKept (w : World m) (pos : ℕ) (page : List ℕ) (last : ℕ) : Type 0 where
    pub home : Home m w pos page last
    pub kept : IsGivenUp w home.epoch pos page → ⊥

  abbrev pub PagesKept : World m → Type 0
  PagesKept w = (pos : ℕ) (page : List ℕ) → (s : IsSettled m w pos (Data page)) → IsKept w pos page s.layout.epoch

  -- So is each page of the log.
  abbrev pub LogKept : World m → Type 0
  LogKept w = (pos : ℕ) (page : List ℕ) → Contains (log m w) (pos, Data page) → (last : ℕ) × IsKept w pos page last

  -- A client has put a page, which reads as an entry.
  pub record HasPut (w : World m) (client epoch pos : ℕ) (page : List ℕ) (entry : Entry) : Type 0 where
    pub packet : Packet
    pub sent : Sent m w packet
    pub from : packet.from ≡ client_id client
    pub is : packet.msg ≡ msg.Write epoch pos page
    pub reads : entry_of page ≡ Some entry

  -- Of two pages that a client has put for one kind of body and number one was given up, or they are for one position.
  abbrev pub OnePosition : World m → Type 0
  OnePosition w = (k e f p q : ℕ) (c d : List ℕ) (a b : Entry) → HasPut w k e p c a → HasPut w k f q d b →
      tag_of a.body ≡ tag_of b.body → a.head.number ≡ b.head.number → IsGivenUp w e p c ⊎ (IsGivenUp w f q d ⊎ (p ≡ q))
