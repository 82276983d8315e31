-- Runs of one node: what it is after a list of inputs.
use Rattle.std.specs.Prelude.{ℕ, List, [], ◌∷◌, ◌++◌, Option, Some, None, Contains}
use Rattle.tg_base.specs.declared.ids.NodeId.{NodeId}
use Rattle.tg_base.specs.declared.msg.Msg.{Msg}
use Rattle.tg_base.specs.declared.msg.Msg.TheVariants as msg
use Rattle.tg_base.specs.declared.packet.Out.{Out}
use Rattle.tg_protocol.specs.Units.{UnitState, UnitAsk, Reads, Stores, Fills, Looks, Seals, TrimsBelow, Nothing, unit_step}
use Rattle.tg_protocol.specs.Sequencers.{SeqrState, seqr_step}

-- a unit after these messages
unfoldable pub unit_after : UnitState → List Msg → UnitState
unit_after s [] = s
unit_after s (m ∷ ms) = unit_after (unit_step s m).now ms

-- the epoch of a request other than a seal
abbrev pub epoch_of : UnitAsk → Option ℕ
epoch_of (Reads e p) = Some e
epoch_of (Stores e p c) = Some e
epoch_of (Fills e p) = Some e
epoch_of (Looks e lo hi step) = Some e
epoch_of (Seals e) = None
epoch_of (TrimsBelow e b) = Some e
epoch_of Nothing = None

-- a message that comes to a sequencer
pub record Input : Type 0 where
  pub from : NodeId
  pub rid : ℕ
  pub msg : Msg

-- a sequencer after these messages
unfoldable pub seqr_after : SeqrState → List Input → SeqrState
seqr_after s [] = s
seqr_after s (i ∷ is) = seqr_after (seqr_step s i.from i.rid i.msg).now is

-- the positions that are issued in these messages
abbrev pub issued_by : Msg → List ℕ
issued_by (msg.Issued pos links) = pos ∷ []
issued_by _ = []

unfoldable pub issued_in : List Out → List ℕ
issued_in [] = []
issued_in (o ∷ os) = issued_by o.msg ++ issued_in os

-- it answers a message by issuing a position
abbrev pub Issues : SeqrState → Input → ℕ → Type 0
Issues s i pos = Contains (issued_in (seqr_step s i.from i.rid i.msg).sends) pos
