-- Tokens: positions that sequencers issue, and the pages that their owners send.
use Rattle.std.specs.Prelude.{◌≡◌, ℕ, ◌<◌, ◌≤◌, Bool, true, false, List, Some, Contains}
use Rattle.tg_base.specs.Layouts.{Layout}
use Rattle.tg_base.specs.declared.cell.Cell.TheVariants.{Data}
use Rattle.tg_base.specs.declared.ids.NodeId.{NodeId}
use Rattle.tg_base.specs.declared.ids.Oid.{Oid}
use Rattle.tg_base.specs.declared.marks.StreamLink.{StreamLink}
use Rattle.tg_base.specs.declared.msg.Msg.{Msg}
use Rattle.tg_base.specs.declared.msg.Msg.TheVariants as msg
use Rattle.tg_base.specs.declared.packet.Packet.{Packet}
use Rattle.tg_entry.specs.declared.entry.Entry.{Entry}
use Rattle.tg_kind.specs.Meaning.{Meaning}
use Rattle.tg_protocol.specs.Words.{seqr_id, cell_at}
use Rattle.tg_protocol.specs.Entries.{streams_of}
use Rattle.tg_entry.specs.Records.{linked}
use Rattle.tg_protocol.specs.Pages.{page_of}
use Rattle.tg_protocol.specs.Appending.{names_all}
use Rattle.tg_protocol.specs.Worlds.{World, unit, log}
use Rattle.tg_protocol.specs.Chosen.{Sent, IsDecided}

unfoldable pub is_issued : Msg → Bool
is_issued (msg.Issued p ls) = true
is_issued _ = false

module _ (m : Meaning) where
  -- A sequencer has issued a position in an epoch, to a request for these streams, with these links: the request and
  -- its answer, which bears its number, were sent.
  pub record Issued (w : World m) (s epoch pos : ℕ) (streams : List Oid) (links : List StreamLink) : Type 0 where
    pub ask : Packet
    pub answer : Packet
    pub asked : Sent m w ask
    pub answered : Sent m w answer
    pub to_seqr : ask.to ≡ seqr_id s
    pub from_seqr : answer.from ≡ seqr_id s
    pub back : answer.to ≡ ask.from
    pub number : answer.rid ≡ ask.rid
    pub asks : ask.msg ≡ msg.Token epoch streams
    pub issues : answer.msg ≡ msg.Issued pos links

  -- a sequencer issues a position in an epoch once: by one answer, so to one node under one number
  abbrev pub IssuedOnce : World m → Type 0
  IssuedOnce w = (s epoch pos : ℕ) (os oz : List Oid) (ls ks : List StreamLink) →
      (a : Issued w s epoch pos os ls) (b : Issued w s epoch pos oz ks) → a.answer ≡ b.answer

  -- a decided layout of an epoch names a sequencer, and starts at a position or below it
  pub record IsNamed (w : World m) (s epoch pos : ℕ) : Type 0 where
    pub layout : Layout
    pub decided : IsDecided m w epoch layout
    pub names : layout.seq ≡ s
    pub past : layout.start ≤ pos

  -- in an epoch past 0 only a sequencer that the epoch's decided layout names issues, and nothing below the layout's start
  abbrev pub IssuerNamed : World m → Type 0
  IssuerNamed w = (s epoch pos : ℕ) (os : List Oid) (ls : List StreamLink) → Issued w s epoch pos os ls → 0 < epoch → IsNamed w s epoch pos

  -- so in an epoch one sequencer issues
  abbrev pub OneIssuer : World m → Type 0
  OneIssuer w = (s z epoch pos at : ℕ) (os oz : List Oid) (ls ks : List StreamLink) →
      Issued w s epoch pos os ls → Issued w z epoch at oz ks → 0 < epoch → s ≡ z

  -- A page of a node's own token: the position was issued to that node in that epoch, for the streams of a draft, and
  -- the page is the draft's with the issued links, which name the streams in order.
  pub record IsOwnPage (w : World m) (from : NodeId) (epoch pos : ℕ) (page : List ℕ) : Type 0 where
    pub seqr : ℕ
    pub draft : Entry
    pub links : List StreamLink
    pub issued : Issued w seqr epoch pos (streams_of draft) links
    pub own : issued.ask.from ≡ from
    pub names : names_all (streams_of draft) links ≡ true
    pub is : page ≡ page_of (linked draft links)

  -- a page is sent to a unit only for the position, and in the epoch, of a token that was issued to its sender
  abbrev pub PagesOwn : World m → Type 0
  PagesOwn w = (x : Packet) (epoch pos : ℕ) (d : List ℕ) → Sent m w x → x.msg ≡ msg.Write epoch pos d → IsOwnPage w x.from epoch pos d

  -- a page of the token of some node, in some epoch
  pub record IsOfToken (w : World m) (pos : ℕ) (page : List ℕ) : Type 0 where
    pub node : NodeId
    pub epoch : ℕ
    pub own : IsOwnPage w node epoch pos page

  -- a page that a unit has is one of a token that was issued with its position
  abbrev pub UnitPagesOwn : World m → Type 0
  UnitPagesOwn w = (u p : ℕ) (d : List ℕ) → cell_at (unit m w u).cells p ≡ Some (Data d) → IsOfToken w p d

  -- nor has the log another, in its units or trimmed
  abbrev pub LogPagesOwn : World m → Type 0
  LogPagesOwn w = (p : ℕ) (d : List ℕ) → Contains (log m w) (p, Data d) → IsOfToken w p d
