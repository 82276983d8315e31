-- The lists that a sequencer has of each stream, over a log that is fixed.
use Rattle.std.specs.Prelude.{◌≡◌, ℕ, ◌+◌, ◌<◌, ◌≤◌, max, true, List, [], ◌∷◌, length, Some, Contains}
use Rattle.tg_base.specs.declared.cell.Cell.{Cell}
use Rattle.tg_base.specs.declared.ids.Oid.{Oid}
use Rattle.tg_base.specs.declared.marks.StreamLink.{StreamLink}
use Rattle.tg_entry.specs.declared.entry.Entry.{Entry}
use Rattle.tg_protocol.specs.Words.{cell_at}
use Rattle.tg_protocol.specs.Entries.{link_of, backs_of, lists, backs_in}
use Rattle.tg_protocol.specs.Sequencers.{with_positions, cell_streams, links_of}
use Rattle.tg_protocol.specs.Logs.{Log, entry_at}
use Rattle.tg_law_walks.specs.Walks.Streams.{stands_in, AreFalling, IsGood, AreLinked}

abbrev pub backs : Oid → List StreamLink → List ℕ
backs o ls = backs_of (link_of o ls)

-- each list is good, and has four positions at most
abbrev pub AreGoodLists : Log → ℕ → List StreamLink → Type 0
AreGoodLists l x ls = (o : Oid) → IsGood l o x (backs o ls) × (length (backs o ls) ≤ 4)

abbrev pub AreOnce : List Oid → Type 0
AreOnce [] = Unit {0}
AreOnce (o ∷ os) = (Contains os o → ⊥) × AreOnce os

-- A position is issued to some streams. The log has no entry of another there.
abbrev pub ListsGrow : Type 0
ListsGrow = (l : Log) (x : ℕ) (os : List Oid) (ls : List StreamLink) → AreOnce os → ((o : Oid) → stands_in l o x ≡ true → Contains os o) →
    AreGoodLists l x ls → AreGoodLists l (x + 1) (with_positions x os ls)

-- the links that are told of some streams
abbrev pub LinksGood : Type 0
LinksGood = (l : Log) (x : ℕ) (os : List Oid) (ls : List StreamLink) (o : Oid) → Contains os o → AreGoodLists l x ls → IsGood l o x (backs o (links_of ls os))

-- A scan.

abbrev pub NoneIn : Log → Oid → ℕ → ℕ → Type 0
NoneIn l o a b = (q : ℕ) → a ≤ q → q < b → stands_in l o q ≡ true → ⊥

-- from g on, past which the scan was carried by a trim, the list's first position is the stream's last one below x
abbrev pub IsScanned : Log → Oid → ℕ → ℕ → List ℕ → Type 0
IsScanned l o g x [] = NoneIn l o g x
IsScanned l o g x (h ∷ hs) = (stands_in l o h ≡ true) × NoneIn l o (max g (h + 1)) x × AreFalling x (h ∷ hs)

abbrev pub AreScanned : Log → ℕ → ℕ → List StreamLink → Type 0
AreScanned l g x ls = (o : Oid) → IsScanned l o g x (backs o ls) × (length (backs o ls) ≤ 4)

abbrev pub ScansBegin : Type 0
ScansBegin = (l : Log) → AreScanned l 0 0 []

-- the log's cell is scanned
abbrev pub ScansGoOn : Type 0
ScansGoOn = (l : Log) (g x : ℕ) (c : Cell) (ls : List StreamLink) → cell_at l x ≡ Some c → AreOnce (cell_streams c) → AreScanned l g x ls → AreScanned l g (x + 1) (with_positions x (cell_streams c) ls)

-- a trim carries it on
abbrev pub ScansJump : Type 0
ScansJump = (l : Log) (g x b : ℕ) (ls : List StreamLink) → x ≤ b → AreScanned l g x ls → AreScanned l b b ls

-- At its end the lists are good: a stream that has anything below the trim has something past it.
abbrev pub ScansEnd : Type 0
ScansEnd = (l : Log) (g x : ℕ) (ls : List StreamLink) → ((o : Oid) (q : ℕ) → q < g → stands_in l o q ≡ true → (p : ℕ) × (g ≤ p) × (p < x) × (stands_in l o p ≡ true)) →
    AreScanned l g x ls → AreGoodLists l x ls

-- An entry's own positions of a stream are good as they are walked, if they are so as they were issued.
abbrev pub OwnLinksGood : Type 0
OwnLinksGood = (l : Log) → ((o : Oid) (q : ℕ) (e : Entry) → entry_at l q ≡ Some e → lists e o ≡ true → IsGood l o q (backs_in e o)) → AreLinked l
