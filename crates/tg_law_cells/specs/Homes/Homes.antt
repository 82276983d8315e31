-- With which epoch's token a settled page was written, and who asked for what a unit has trimmed.
use Rattle.std.specs.Prelude.{◌≡◌, ℕ, ◌<◌, ◌≤◌, true, List}
use Rattle.tg_base.specs.Layouts.{Layout}
use Rattle.tg_base.specs.declared.cell.Cell.{Cell}
use Rattle.tg_base.specs.declared.cell.Cell.TheVariants.{Data}
use Rattle.tg_base.specs.declared.msg.Msg.TheVariants as msg
use Rattle.tg_base.specs.declared.packet.Packet.{Packet}
use Rattle.tg_kind.specs.Meaning.{Meaning}
use Rattle.tg_protocol.specs.Words.{unit_id}
use Rattle.tg_protocol.specs.Units.{UnitAsk, Reads, Stores, Fills, TrimsBelow, unit_ask}
use Rattle.tg_protocol.specs.Worlds.{World}
use Rattle.tg_protocol.specs.Chosen.{Sent, IsDecided}
use Rattle.tg_law_layouts.specs.Moves.Telling.{is_request}
use Rattle.tg_law_layouts.specs.Layouts.Decisions.{IsOfDecided}
use Rattle.tg_law_cells.specs.Cells.Chains.{ToldUpTo}
use Rattle.tg_law_cells.specs.Cells.Settled.{IsSettled, head}

-- the epoch of a request for a cell, or to trim
unfoldable pub epoch_asked : UnitAsk → ℕ
epoch_asked (Reads e p) = e
epoch_asked (Stores e p c) = e
epoch_asked (Fills e p) = e
epoch_asked (TrimsBelow e b) = e
epoch_asked x = 0

module _ (m : Meaning) where
  -- A page's home: an epoch, up to this one, in which it was sent to be stored, and the first unit of the chain has told
  -- it, where each later layout starts past it.
  pub record Home (w : World m) (pos : ℕ) (page : List ℕ) (last : ℕ) : Type 0 where
    pub epoch : ℕ
    pub up_to : epoch ≤ last
    pub write : Packet
    pub sent : Sent m w write
    pub is : write.msg ≡ msg.Write epoch pos page
    pub layout : Layout
    pub decided : IsOfDecided m w layout
    pub of : layout.epoch ≡ epoch
    pub told : ToldUpTo w.packets (head layout pos) epoch pos (Data page)
    pub past : (q : Layout) → IsOfDecided m w q → epoch < q.epoch → pos < q.start

  -- a settled page has a home
  abbrev pub SettledHome : World m → Type 0
  SettledHome w = (pos : ℕ) (page : List ℕ) → (s : IsSettled m w pos (Data page)) → Home w pos page s.layout.epoch

  -- a settled position lies below the start of each later layout
  abbrev pub SettledBelow : World m → Type 0
  SettledBelow w = (pos : ℕ) (c : Cell) → (s : IsSettled m w pos c) → (q : Layout) → IsOfDecided m w q → s.layout.epoch < q.epoch → pos < q.start

  -- each layout starts where the ones before it start, or past that
  abbrev pub StartsRise : World m → Type 0
  StartsRise w = (p q : Layout) → IsOfDecided m w p → IsOfDecided m w q → p.epoch ≤ q.epoch → p.start ≤ q.start

  -- up to a decided layout's epoch each has a decided layout
  abbrev pub EpochsDecided : World m → Type 0
  EpochsDecided w = (epoch : ℕ) (q : Layout) → IsOfDecided m w q → 0 < epoch → epoch ≤ q.epoch → (p : Layout) × IsDecided m w epoch p

  -- in an epoch up to this one a unit was asked to trim all below a position
  pub record TrimAsked (w : World m) (epoch below : ℕ) : Type 0 where
    pub packet : Packet
    pub sent : Sent m w packet
    pub of : ℕ
    pub up_to : of ≤ epoch
    pub is : packet.msg ≡ msg.Trim of below

  -- unit u has answered a request that all below a position is gone
  pub record ToldGone (w : World m) (u epoch below : ℕ) : Type 0 where
    pub ask : Packet
    pub answer : Packet
    pub asked : Sent m w ask
    pub answered : Sent m w answer
    pub to_unit : ask.to ≡ unit_id u
    pub from_unit : answer.from ≡ unit_id u
    pub back : answer.to ≡ ask.from
    pub number : answer.rid ≡ ask.rid
    pub request : is_request ask.msg ≡ true
    pub of : epoch_asked (unit_ask ask.msg) ≡ epoch
    pub is : answer.msg ≡ msg.Gone below

  -- all that a unit tells as gone it was asked to trim, in the epoch of its answer or before
  abbrev pub GonesAsked : World m → Type 0
  GonesAsked w = (u epoch below : ℕ) → ToldGone w u epoch below → 0 < below → TrimAsked w epoch below
