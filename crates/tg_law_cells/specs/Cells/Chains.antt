-- Cells go down the chains of layouts, one unit after the other.
use Rattle.std.specs.Prelude.{◌≡◌, ◌⊎◌, ℕ, ◌<◌, ◌≤◌, List, length}
use Rattle.tg_base.specs.Layouts.{Layout}
use Rattle.tg_base.specs.declared.cell.Cell.{Cell}
use Rattle.tg_base.specs.declared.cell.Cell.TheVariants.{Junk, Data}
use Rattle.tg_base.specs.declared.ids.NodeId.{NodeId}
use Rattle.tg_base.specs.declared.msg.Msg.{Msg}
use Rattle.tg_base.specs.declared.msg.Msg.TheVariants as msg
use Rattle.tg_base.specs.declared.packet.Packet.{Packet}
use Rattle.tg_kind.specs.Meaning.{Meaning}
use Rattle.tg_protocol.specs.Words.{unit_id}
use Rattle.tg_protocol.specs.Cells.{Place, place_in, unit_at, last_unit}
use Rattle.tg_protocol.specs.Worlds.{World}
use Rattle.tg_protocol.specs.Chosen.{Sent}
use Rattle.tg_law_layouts.specs.Moves.Telling.{Claim, Told}
use Rattle.tg_law_layouts.specs.Layouts.Decisions.{IsOfDecided}

-- Among these packets unit u has told a cell at a position, in an epoch up to this one.
pub record ToldUpTo (ps : List Packet) (u epoch pos : ℕ) (c : Cell) : Type 0 where
  pub claim : Claim
  pub told : Told ps u claim
  pub up_to : claim.epoch ≤ epoch
  pub at : claim.pos ≡ pos
  pub is : claim.cell ≡ c

-- the first units of a chain have told it
abbrev pub FirstTold : List Packet → Place → Cell → ℕ → Type 0
FirstTold ps a c n = (k : ℕ) → k < n → ToldUpTo ps (unit_at a k) a.epoch a.pos c

module _ (m : Meaning) where
  -- to the unit of a decided layout's chain that comes after the first ones, which have told the cell
  pub record GoesDown (w : World m) (to : NodeId) (epoch pos : ℕ) (c : Cell) : Type 0 where
    pub layout : Layout
    pub decided : IsOfDecided m w layout
    pub place : Place
    pub at : place ≡ place_in layout place.pos
    pub epoch_is : epoch ≡ place.epoch
    pub pos_is : pos ≡ place.pos
    pub index : ℕ
    pub within : index < length place.chain
    pub unit : to ≡ unit_id (unit_at place index)
    pub told : FirstTold w.packets place c index

  -- to one after the first
  pub record GoesOn (w : World m) (to : NodeId) (epoch pos : ℕ) (c : Cell) : Type 0 where
    pub down : GoesDown w to epoch pos c
    pub past : 0 < down.index

  -- to any unit: the last unit of a decided layout's chain has told the cell, or all of them have
  pub record GoesAside (w : World m) (epoch pos : ℕ) (c : Cell) : Type 0 where
    pub layout : Layout
    pub decided : IsOfDecided m w layout
    pub epoch_is : epoch ≡ layout.epoch
    pub told : FirstTold w.packets (place_in layout pos) c (length (place_in layout pos).chain) ⊎ ToldUpTo w.packets (last_unit (place_in layout pos)) layout.epoch pos c

  abbrev pub IsJustified : World m → NodeId → Msg → Type 0
  IsJustified w to (msg.Write e p d) = GoesDown w to e p (Data d)
  IsJustified w to (msg.Fill e p) = GoesDown w to e p Junk
  IsJustified w to (msg.Copy e p c) = GoesOn w to e p c ⊎ GoesAside w e p c
  IsJustified w to x = Unit {0}

  -- whatever is sent to a unit to be stored is so justified, then and later
  abbrev pub StoresJustified : World m → Type 0
  StoresJustified w = (x : Packet) → Sent m w x → IsJustified w x.to x.msg
