-- What units do of an epoch that they have left.
use Rattle.std.specs.Prelude.{◌≡◌, ℕ, ◌<◌, ◌≤◌, true, Option, Some, None, Contains}
use Rattle.tg_base.specs.Layouts.{Layout}
use Rattle.tg_base.specs.declared.cell.Cell.{Cell}
use Rattle.tg_base.specs.declared.msg.Msg.TheVariants as msg
use Rattle.tg_base.specs.declared.packet.Packet.{Packet}
use Rattle.tg_kind.specs.Meaning.{Meaning}
use Rattle.tg_protocol.specs.Words.{unit_id}
use Rattle.tg_protocol.specs.Layouts.{chain_of}
use Rattle.tg_protocol.specs.Units.{UnitAsk, Reads, Stores, Fills, Looks, TrimsBelow, unit_ask}
use Rattle.tg_protocol.specs.Worlds.{World, unit}
use Rattle.tg_protocol.specs.Chosen.{Sent}
use Rattle.tg_law_layouts.specs.Moves.Telling.{Claim, is_request, Told}
use Rattle.tg_law_layouts.specs.Layouts.Decisions.{IsOfDecided}
use Rattle.tg_law_cells.specs.Cells.Chains.{ToldUpTo}
use Rattle.tg_law_cells.specs.Cells.Settled.{IsSettled}

-- the epoch in which alone a unit serves a request
unfoldable pub served_in : UnitAsk → Option ℕ
served_in (Reads e p) = Some e
served_in (Stores e p c) = Some e
served_in (Fills e p) = Some e
served_in (Looks e lo hi step) = Some e
served_in (TrimsBelow e b) = Some e
served_in x = None

module _ (m : Meaning) where
  -- A unit has served a request of an epoch: its answer, which bears the request's number, isn't that it stands in another.
  pub record Served (w : World m) (n epoch : ℕ) : Type 0 where
    pub ask : Packet
    pub answer : Packet
    pub asked : Sent m w ask
    pub answered : Sent m w answer
    pub to_unit : ask.to ≡ unit_id n
    pub from_unit : answer.from ≡ unit_id n
    pub back : answer.to ≡ ask.from
    pub number : answer.rid ≡ ask.rid
    pub request : is_request ask.msg ≡ true
    pub of : served_in (unit_ask ask.msg) ≡ Some epoch
    pub kept : (e : ℕ) → answer.msg ≡ msg.Fenced e → ⊥

  -- it did so after a world, by an answer that wasn't sent there
  pub record ServedSince (u v : World m) (n epoch : ℕ) : Type 0 where
    pub served : Served v n epoch
    pub since : Sent m u served.answer → ⊥

  -- no unit serves a request of an epoch that it has left
  abbrev pub LeftRefuse : World m → World m → Type 0
  LeftRefuse u v = (n epoch : ℕ) → ServedSince u v n epoch → (unit m u n).epoch ≤ epoch

  -- nor does it tell more of its cells in that epoch
  abbrev pub LeftTold : World m → World m → Type 0
  LeftTold u v = (n : ℕ) (k : Claim) → Told v.packets n k → k.epoch < (unit m u n).epoch → Told u.packets n k

  -- each unit of a decided layout's chains stands in the layout's epoch, or in a later one
  abbrev pub ChainsStand : World m → Type 0
  ChainsStand w = (q : Layout) (pos n : ℕ) → IsOfDecided m w q → Contains (chain_of q pos) n → q.epoch ≤ (unit m w n).epoch

  -- a unit of a layout's chain has left the layout's epoch
  pub record IsLeft (w : World m) (p : Layout) (pos : ℕ) : Type 0 where
    pub by : ℕ
    pub here : Contains (chain_of p pos) by
    pub left : p.epoch < (unit m w by).epoch

  -- once a later layout is decided, a unit of each chain has
  abbrev pub ChainsLeft : World m → Type 0
  ChainsLeft w = (p q : Layout) (pos : ℕ) → IsOfDecided m w p → IsOfDecided m w q → p.epoch < q.epoch → IsLeft w p pos

  -- a unit of a layout's chain has told a cell, in the layout's epoch or before
  pub record ToldThere (w : World m) (p : Layout) (pos : ℕ) (c : Cell) : Type 0 where
    pub by : ℕ
    pub here : Contains (chain_of p pos) by
    pub told : ToldUpTo w.packets by p.epoch pos c

  -- So what is settled in a layout of an earlier epoch than a decided one's, some unit of its chain had told before.
  abbrev pub EarlySettledTold : World m → World m → Type 0
  EarlySettledTold u v = (pos : ℕ) (c : Cell) (s : IsSettled m v pos c) (q : Layout) → IsOfDecided m u q → s.layout.epoch < q.epoch → ToldThere u s.layout pos c

  -- each unit of a layout's chain has served a request in the layout's epoch after a world
  abbrev pub ChainServed : World m → World m → Layout → ℕ → Type 0
  ChainServed u v p pos = (n : ℕ) → Contains (chain_of p pos) n → ServedSince u v n p.epoch

  -- So no layout was decided there for a later epoch.
  abbrev pub ServedLate : World m → World m → Type 0
  ServedLate u v = (p q : Layout) (pos : ℕ) → IsOfDecided m v p → ChainServed u v p pos → IsOfDecided m u q → q.epoch ≤ p.epoch
