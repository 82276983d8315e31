-- The links that sequencers tell, and those of entries, in every run.
use Rattle.std.specs.Prelude.{◌≡◌, ℕ, List, Option, Some, None, Contains}
use Rattle.tg_base.specs.Clusters.{Header}
use Rattle.tg_base.specs.declared.ids.Oid.{Oid}
use Rattle.tg_base.specs.declared.marks.StreamLink.{StreamLink}
use Rattle.tg_base.specs.declared.msg.Msg.{Msg}
use Rattle.tg_base.specs.declared.msg.Msg.TheVariants as msg
use Rattle.tg_base.specs.declared.packet.Packet.{Packet}
use Rattle.tg_kind.specs.Meaning.{Meaning}
use Rattle.tg_protocol.specs.Words.{seqr_id}
use Rattle.tg_protocol.specs.Worlds.{World, log}
use Rattle.tg_protocol.specs.Runs.{Moves, Reaches}
use Rattle.tg_protocol.specs.Chosen.{Sent}
use Rattle.tg_law_walks.specs.Walks.Streams.{IsGood, AreLinked}
use Rattle.tg_law_walks.specs.Walks.Lists.{backs}
use Rattle.tg_law_walks.specs.Lists.Lists.{Counts}
use Rattle.tg_law_walks.specs.Lists.Spared.{TrimsWereSpare}

-- what asks for links, in an epoch, of some streams
unfoldable pub asks_links : Msg → Option (ℕ × List Oid)
asks_links (msg.Token e os) = Some (e, os)
asks_links (msg.Check e os) = Some (e, os)
asks_links x = None

-- what tells them, with a position: an issued one, or the tail
unfoldable pub tells_links : Msg → Option (ℕ × List StreamLink)
tells_links (msg.Issued p ls) = Some (p, ls)
tells_links (msg.Tail p ls) = Some (p, ls)
tells_links x = None

module _ (m : Meaning) where
  -- a sequencer has told links with a position, to a request for some streams
  pub record ToldLinks (w : World m) (s epoch : ℕ) (os : List Oid) (pos : ℕ) (ls : List StreamLink) : Type 0 where
    pub ask : Packet
    pub answer : Packet
    pub asked : Sent m w ask
    pub answered : Sent m w answer
    pub to_seqr : ask.to ≡ seqr_id s
    pub from_seqr : answer.from ≡ seqr_id s
    pub back : answer.to ≡ ask.from
    pub number : answer.rid ≡ ask.rid
    pub asks : asks_links ask.msg ≡ Some (epoch, os)
    pub tells : tells_links answer.msg ≡ Some (pos, ls)

  -- Where the position counts, the links lack none of the log's entries below it that they tell of.
  abbrev pub LinksTrue : World m → Type 0
  LinksTrue w = (s epoch pos : ℕ) (os : List Oid) (ls : List StreamLink) (o : Oid) → ToldLinks w s epoch os pos ls → Counts m w epoch pos → Contains os o → IsGood (log m w) o pos (backs o ls)

  -- Each entry's own list of a stream in which it stands is good.
  abbrev pub EntriesGood : World m → Type 0
  EntriesGood w = AreLinked (log m w)

  -- What holds of each world of every run in which trims were spare.
  abbrev pub AlwaysBySpareTrims : (World m → Type 0) → Type 0
  AlwaysBySpareTrims P = (h : Header) (ms : Moves m) (w : World m) → Reaches m h ms w → TrimsWereSpare m h ms → P w
