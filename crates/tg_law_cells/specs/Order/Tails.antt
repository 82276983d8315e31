-- Tails that sequencers tell, and what they issue afterwards.
use Rattle.std.specs.Prelude.{◌≡◌, ◌⊎◌, ℕ, ◌+◌, ◌<◌, ◌≤◌, List}
use Rattle.tg_base.specs.Clusters.{Header}
use Rattle.tg_base.specs.Layouts.{Layout}
use Rattle.tg_base.specs.declared.cell.Cell.{Cell}
use Rattle.tg_base.specs.declared.ids.Oid.{Oid}
use Rattle.tg_base.specs.declared.marks.StreamLink.{StreamLink}
use Rattle.tg_base.specs.declared.msg.Msg.TheVariants as msg
use Rattle.tg_base.specs.declared.packet.Packet.{Packet}
use Rattle.tg_kind.specs.Meaning.{Meaning}
use Rattle.tg_protocol.specs.Words.{seqr_id}
use Rattle.tg_protocol.specs.Chosen.{Sent, IsDecided}
use Rattle.tg_protocol.specs.Worlds.{World}
use Rattle.tg_protocol.specs.Runs.{Moves, Reaches, Passes}
use Rattle.tg_law_cells.specs.Cells.Settled.{IsSettled}
use Rattle.tg_law_cells.specs.Tokens.Issuing.{Issued}

module _ (m : Meaning) where
  -- A sequencer has told its tail in an epoch: it was asked to check streams, and its answer, which bears the request's number, was sent.
  pub record ToldTail (w : World m) (s epoch tail : ℕ) : Type 0 where
    pub streams : List Oid
    pub links : List StreamLink
    pub ask : Packet
    pub answer : Packet
    pub asked : Sent m w ask
    pub answered : Sent m w answer
    pub to_seqr : ask.to ≡ seqr_id s
    pub from_seqr : answer.from ≡ seqr_id s
    pub back : answer.to ≡ ask.from
    pub number : answer.rid ≡ ask.rid
    pub asks : ask.msg ≡ msg.Check epoch streams
    pub tells : answer.msg ≡ msg.Tail tail links

  -- it issued a position after a world, by an answer that wasn't sent there
  pub record IssuedSince (u v : World m) (s epoch pos : ℕ) : Type 0 where
    pub streams : List Oid
    pub links : List StreamLink
    pub issued : Issued m v s epoch pos streams links
    pub since : Sent m u issued.answer → ⊥

  -- of one sequencer and one epoch
  abbrev pub TailsPrecede : World m → World m → Type 0
  TailsPrecede u v = (s epoch tail pos : ℕ) → ToldTail u s epoch tail → IssuedSince u v s epoch pos → tail ≤ pos

  -- The cell below a tail is settled, in the tail's epoch or before.
  pub record IsSettledBelow (v : World m) (epoch tail : ℕ) : Type 0 where
    pub below : ℕ
    pub is : tail ≡ below + 1
    pub cell : Cell
    pub settled : IsSettled m v below cell
    pub early : settled.layout.epoch ≤ epoch

  -- a tail was told by the sequencer of a decided layout, and confirmed
  pub record ConfirmedTail (u v : World m) (epoch tail : ℕ) : Type 0 where
    pub some : 0 < epoch
    pub layout : Layout
    pub decided : IsDecided m v epoch layout
    pub told : ToldTail u layout.seq epoch tail
    pub confirmed : (tail ≤ layout.start) ⊎ IsSettledBelow v epoch tail

  -- whatever is issued afterwards, in that epoch or a later one
  abbrev pub ConfirmedPrecede : World m → World m → Type 0
  ConfirmedPrecede u v = (s epoch later tail pos : ℕ) → ConfirmedTail u v epoch tail → epoch ≤ later → IssuedSince u v s later pos → tail ≤ pos

  -- of the world that a run comes to, and of each through which it came
  abbrev pub EachPassed : (World m → World m → Type 0) → Type 0
  EachPassed P = (h : Header) (ms : Moves m) (u v : World m) → Reaches m h ms v → Passes m h ms u → P u v
