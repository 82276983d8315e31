-- Lists of the last positions of streams, as sequencers give them.
use Rattle.std.specs.Prelude.{◌≡◌, ◌⊎◌, ℕ, ◌<◌, ◌≤◌, List, length, Contains}
use Rattle.tg_base.specs.declared.ids.Oid.{Oid}
use Rattle.tg_base.specs.declared.marks.StreamLink.{StreamLink}
use Rattle.tg_kind.specs.Meaning.{Meaning}
use Rattle.tg_protocol.specs.Worlds.{World}
use Rattle.tg_law_cells.specs.Tokens.Issuing.{Issued}

-- a position stands in a list, or four others do, none below it
abbrev pub IsListed : ℕ → List ℕ → Type 0
IsListed q backs = Contains backs q ⊎ ((length backs ≡ 4) × ((x : ℕ) → Contains backs x → q ≤ x))

module _ (m : Meaning) where
  -- Of all that a sequencer has issued to a stream in an epoch below a position, the list that it gives with that
  -- position misses only what four later ones have pushed out.
  abbrev pub ListsFull : World m → Type 0
  ListsFull w = (s epoch q p : ℕ) (os oz : List Oid) (ls ks : List StreamLink) →
      Issued m w s epoch q os ls → Issued m w s epoch p oz ks → q < p →
      (l : StreamLink) → Contains ks l → Contains os l.oid → IsListed q l.backs
