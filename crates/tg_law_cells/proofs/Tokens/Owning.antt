-- A page goes to the position of its own token: what a cell's machine that puts a page knows of it.
use Rattle.std.proofs.Common.{◌≡◌, ℕ, List, true, refl, arith}
use Rattle.tg_base.specs.declared.cell.Cell.{Cell}
use Rattle.tg_base.specs.declared.cell.Cell.TheVariants.{Junk, Data}
use Rattle.tg_base.specs.declared.ids.NodeId.{NodeId}
use Rattle.tg_base.specs.declared.marks.StreamLink.{StreamLink}
use Rattle.tg_base.specs.declared.msg.Msg.{Msg}
use Rattle.tg_base.specs.declared.msg.Msg.TheVariants as msg
use Rattle.tg_base.specs.declared.packet.Packet.{Packet}
use Rattle.tg_entry.specs.declared.entry.Entry.{Entry}
use Rattle.tg_protocol.specs.Words.{seqr_id}
use Rattle.tg_protocol.specs.Entries.{streams_of}
use Rattle.tg_entry.specs.Records.{linked}
use Rattle.tg_protocol.specs.Pages.{page_of}
use Rattle.tg_protocol.specs.Appending.{names_all}
use Rattle.tg_protocol.specs.Requests.{Next, Goes, Learns, Ends}
use Rattle.tg_protocol.specs.Replies.{reply}
use Rattle.tg_protocol.specs.Replies as replied
use Rattle.tg_protocol.specs.Cells.{Place, CellWork, Puts, Copies, Probes, CellJob, CellEnd, CellTurn, Done}
use Rattle.tg_law_steps.proofs.Machines.Cells as cells
use Rattle.tg_law_layouts.proofs.Moves.Members.{Has}

-- this node has asked a sequencer, which has issued
pub record Pair (ps : List Packet) (me : NodeId) (s : ℕ) (x : Msg) (pos : ℕ) (ls : List StreamLink) : Type 0 where
  pub ask : Packet
  pub answer : Packet
  pub asked : Has ps ask
  pub answered : Has ps answer
  pub by : ask.from ≡ me
  pub to_seqr : ask.to ≡ seqr_id s
  pub from_seqr : answer.from ≡ seqr_id s
  pub back : answer.to ≡ me
  pub number : answer.rid ≡ ask.rid
  pub asks : ask.msg ≡ x
  pub issues : answer.msg ≡ msg.Issued pos ls

-- a page of this node's token: a draft of the token's streams, with the issued links
pub record Owned (ps : List Packet) (me : NodeId) (e pos : ℕ) (d : List ℕ) : Type 0 where
  pub seqr : ℕ
  pub draft : Entry
  pub links : List StreamLink
  pub pair : Pair ps me seqr (msg.Token e (streams_of draft)) pos links
  pub names : names_all (streams_of draft) links ≡ true
  pub page : d ≡ page_of (linked draft links)

-- a page that was sent to be stored at a position
pub record Wrote (ps : List Packet) (pos : ℕ) (d : List ℕ) : Type 0 where
  pub packet : Packet
  pub sent : Has ps packet
  pub epoch : ℕ
  pub is : packet.msg ≡ msg.Write epoch pos d

-- junk, or a page that was sent so
abbrev pub OwnCell : List Packet → ℕ → Cell → Type 0
OwnCell ps pos (Data d) = Wrote ps pos d
OwnCell ps pos Junk = Unit {0}

-- what a machine may put: a page, in an epoch and at a position
abbrev pub MayPut : Type 1
MayPut = ℕ → ℕ → List ℕ → Type 0

-- nothing at all
abbrev pub Nothing : MayPut
Nothing e p d = ⊥

module _ (ps : List Packet) where
  abbrev pub EndOk : Place → CellEnd → Type 0
  EndOk a (Done c) = OwnCell ps a.pos c
  EndOk a e = Unit {0}

  -- what an answer tells of a cell
  abbrev pub Claims : Place → CellWork → Msg → Type 0
  Claims a (Probes ws) y = Unit {0}
  Claims a (Puts r d i) y = y ≡ msg.Held → Wrote ps a.pos d
  Claims a w y = (c : Cell) → y ≡ msg.Taken c → OwnCell ps a.pos c

module _ (ps : List Packet) (P : MayPut) where
  abbrev pub WorkOk : Place → CellWork → Type 0
  WorkOk a (Puts r d i) = P a.epoch a.pos d
  WorkOk a (Copies r c i) = OwnCell ps a.pos c
  WorkOk a w = Unit {0}

  abbrev pub NextOk : Place → Next CellJob CellEnd → Type 0
  NextOk a (Goes j) = (j.place ≡ a) × WorkOk a j.work
  NextOk a (Learns j) = (j.place ≡ a) × WorkOk a j.work
  NextOk a (Ends e) = EndOk ps a e

  is_taken : (y : Msg) (c : Cell) → reply y ≡ replied.IsTaken c → y ≡ msg.Taken c
  unfolding reply
  is_taken y c h = grind arith

  is_held : (y : Msg) → reply y ≡ replied.IsHeld → y ≡ msg.Held
  unfolding reply
  is_held y h = grind arith

  -- a cell that is copied on is junk, or was sent
  copied : (u : ℕ) (y : Msg) (next : ℕ) (a : Place) (w : CellWork) (c : Cell) (i : ℕ) → cells.IsCopied u (reply y) next w c i → WorkOk a w → Claims ps a w y → OwnCell ps a.pos c
  copied u y next a _ _ _ (cells.FillHeld r is) ok h = tt
  copied u y next a _ _ _ (cells.FillTaken r c is) ok h = h c (is_taken y c is)
  copied u y next a _ _ _ x ok h = ok

  pub turn_ok : (u : ℕ) (y : Msg) (next : ℕ) (j : CellJob) (t : CellTurn) → cells.Fed u (reply y) next j t → WorkOk j.place j.work → Claims ps j.place j.work y → NextOk j.place t.to
  turn_ok u y next _ _ (cells.PutsOn a r d i is f) ok h = (refl, ok)
  turn_ok u y next _ _ (cells.PutsLast a r d i is f) ok h = h (is_held y is)
  turn_ok u y next _ _ (cells.ReadsCell a r c is) ok h = h c (is_taken y c is)
  turn_ok u y next _ _ (cells.ReadsNone a r is) ok h = (refl, tt)
  turn_ok u y next _ _ (cells.CopiesOn a w c i k f) ok h = (refl, copied u y next a w c i k ok h)
  turn_ok u y next _ _ (cells.CopiesLast a w c i k f) ok h = copied u y next a w c i k ok h
  turn_ok u y next _ _ (cells.ProbesOn a ws v vs k e) ok h = (refl, tt)
  turn_ok u y next _ _ (cells.Nothing j) ok h = (refl, ok)
  turn_ok u y next _ _ x ok h = tt
