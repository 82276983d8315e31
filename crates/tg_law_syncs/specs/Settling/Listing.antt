-- The lists that sequencers tell, with issued positions and with tails.
use Rattle.std.specs.Prelude.{ℕ, ◌<◌, List, Contains}
use Rattle.tg_base.specs.declared.ids.Oid.{Oid}
use Rattle.tg_base.specs.declared.marks.StreamLink.{StreamLink}
use Rattle.tg_kind.specs.Meaning.{Meaning}
use Rattle.tg_protocol.specs.Worlds.{World}
use Rattle.tg_law_cells.specs.Tokens.Issuing.{Issued}
use Rattle.tg_law_cells.specs.Tokens.Listing.{IsListed}
use Rattle.tg_law_walks.specs.Walks.Lists.{backs}
use Rattle.tg_law_walks.specs.Lists.Telling.{ToldLinks}

module _ (m : Meaning) where
  -- Of all that a sequencer has issued to a stream in an epoch below a position, the list that it tells with that position, as
  -- issued or as the tail, misses only what four later ones have pushed out.
  abbrev pub ToldListsFull : World m → Type 0
  ToldListsFull w = (s epoch q p : ℕ) (os oz : List Oid) (ls ks : List StreamLink) →
      Issued m w s epoch q os ls → ToldLinks m w s epoch oz p ks → q < p →
      (o : Oid) → Contains os o → Contains oz o → IsListed q (backs o ks)
