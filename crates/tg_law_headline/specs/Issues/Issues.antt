-- Positions that requests name: each was issued, or lies below what was.
use Rattle.std.specs.Prelude.{◌≡◌, ℕ, ◌<◌, List, Option, Some, None, Contains}
use Rattle.tg_base.specs.Layouts.{Layout}
use Rattle.tg_base.specs.declared.ids.Oid.{Oid}
use Rattle.tg_base.specs.declared.marks.StreamLink.{StreamLink}
use Rattle.tg_base.specs.declared.msg.Msg.{Msg}
use Rattle.tg_base.specs.declared.msg.Msg.TheVariants as msg
use Rattle.tg_base.specs.declared.packet.Packet.{Packet}
use Rattle.tg_kind.specs.Meaning.{Meaning}
use Rattle.tg_protocol.specs.Words.{seqr_id, cell_at}
use Rattle.tg_protocol.specs.Layouts.{chain_of}
use Rattle.tg_protocol.specs.Worlds.{World, unit, seqr, latest}
use Rattle.tg_protocol.specs.Chosen.{Sent, IsDecided}
use Rattle.tg_protocol.specs.Runs.{Moves, Reaches}
use Rattle.tg_protocol.specs.Finishing.{IsServing}
use Rattle.tg_base.specs.Clusters.{Header}
use Rattle.tg_law_cells.specs.Tokens.Issuing.{Issued}
use Rattle.tg_law_walks.specs.Lists.Spared.{WasSettled}

-- the epoch and the position that a request to read, store, fill or copy names
unfoldable pub position_named : Msg → Option (ℕ × ℕ)
position_named (msg.Read e p) = Some (e, p)
position_named (msg.Write e p d) = Some (e, p)
position_named (msg.Fill e p) = Some (e, p)
position_named (msg.Copy e p c) = Some (e, p)
position_named _ = None

module _ (m : Meaning) where
  -- a sequencer has answered a `Check` of an epoch with this tail
  pub record TailTold (w : World m) (s epoch tail : ℕ) : Type 0 where
    pub ask : Packet
    pub answer : Packet
    pub streams : List Oid
    pub links : List StreamLink
    pub asked : Sent m w ask
    pub answered : Sent m w answer
    pub to_seqr : ask.to ≡ seqr_id s
    pub from_seqr : answer.from ≡ seqr_id s
    pub back : answer.to ≡ ask.from
    pub number : answer.rid ≡ ask.rid
    pub asks : ask.msg ≡ msg.Check epoch streams
    pub tells : answer.msg ≡ msg.Tail tail links

  -- A position lies below the start of an epoch's layout, or was issued in the epoch, or lies below a tail that was told
  -- in it, by the sequencer that the layout names.
  pub data IsBelow (w : World m) (epoch pos : ℕ) : Type 0 where
    BelowStart : (q : Layout) → IsDecided m w epoch q → pos < q.start → IsBelow w epoch pos
    WasIssued : (q : Layout) → IsDecided m w epoch q → (os : List Oid) → (ls : List StreamLink) → Issued m w q.seq epoch pos os ls → IsBelow w epoch pos
    BelowTail : (q : Layout) → IsDecided m w epoch q → (tail : ℕ) → TailTold w q.seq epoch tail → pos < tail → IsBelow w epoch pos

  -- so is each that a request to read, store, fill or copy names, in the request's epoch
  abbrev pub PositionsBelow : World m → Type 0
  PositionsBelow w = (x : Packet) (epoch pos : ℕ) → Sent m w x → position_named x.msg ≡ Some (epoch, pos) → IsBelow w epoch pos

  -- Whatever a unit was ever asked to trim is settled, in the epoch of the trim or before. So it is in the store (`logs_hold` of
  -- tg_law_headline); of kinds whose floors lie past what is committed it is false.
  pub record TrimsInTime (w : World m) : Type 0 where
    pub settled : (x : Packet) (epoch below pos : ℕ) → Sent m w x → x.msg ≡ msg.Trim epoch below → pos < below → WasSettled m w epoch pos

  abbrev pub AlwaysByTrims : (World m → Type 0) → Type 0
  AlwaysByTrims P = (h : Header) (ms : Moves m) (w : World m) → Reaches m h ms w → TrimsInTime w → P w

  -- What the latest layout's sequencer issues next isn't written, where it serves: no unit of the position's chain that
  -- stands in the layout has a cell there.
  abbrev pub NextUnwritten : World m → Type 0
  NextUnwritten w = (u : ℕ) → IsServing (seqr m w (latest m w).seq) (latest m w).epoch → Contains (chain_of (latest m w) (seqr m w (latest m w).seq).next) u →
      (unit m w u).epoch ≡ (latest m w).epoch → cell_at (unit m w u).cells (seqr m w (latest m w).seq).next ≡ None
