-- Packets as they go over a link.
use Rattle.std.specs.Prelude.{◌≡◌, ℕ, true, List, length, map, take, drop, slice_get, Option, Some}
use Rattle.tg_base.specs.declared.packet.Packet.{Packet}
use Rattle.tg_io.specs.Acts.{Act, Goes}
use Rattle.tg_io.specs.Bytes.{Grows}
use Rattle.tg_io.specs.declared.link.Sent.{Sent}
use Rattle.tg_live.specs.Matching.{Sent as Datagrams}
use Rattle.tg_live.specs.Books.{IsBook}
use Rattle.tg_live.specs.declared.book.Book.{Book}
use Rattle.tg_wire.specs.Packets.{packet}

-- a packet's datagram is its spelling
abbrev pub sending : Packet → Sent
sending p = record { from = p.from; to = p.to; datagram = packet.spell p }

-- packets that go out one after another, as what is done with a link
abbrev pub all_gone : List Packet → List Act
all_gone ps = map (λ p. Goes (sending p)) ps

-- What a link was sent, and what was done with it as one list, where it tells.
pub record Carried : Type 0 where
  pub sent : Option (List Sent)
  pub acts : Option (List Act)

abbrev pub carried : Option (List Sent) → Option (List Act) → Carried
carried sent acts = record { sent = sent; acts = acts }

-- the datagrams of packets, each with the node to which it goes
abbrev pub spellings : List Packet → Datagrams
spellings ps = map (λ p. (p.to, packet.spell p)) ps

-- each packet has a spelling
pub record AreFit (ps : List Packet) : Type 0 where
  pub each : (i : ℕ) (p : Packet) → slice_get ps i ≡ Some p → packet.fits p ≡ true

-- The packets from one number on went over a link, up to another: they were noted in a book, what the link was sent
-- has grown by them, and nothing else was done.
pub record AreSent (ps : List Packet) (from upto : ℕ) (old new : Book) (before after : Carried) : Type 0 where
  pub fit : AreFit (take upto ps)
  pub noted : (delivered : List ℕ) → IsBook old (spellings (take from ps)) delivered → IsBook new (spellings (take upto ps)) delivered
  pub sent : Grows before.sent (map sending (drop from (take upto ps))) after.sent
  pub acts : Grows before.acts (all_gone (drop from (take upto ps))) after.acts

-- The packets of a step went over the link after those before it: the book is of all of them, and so is what
-- the link was sent. Nothing else was done.
pub record IsMadeOver (old_packets packets : List Packet) (old new : Book) (before after : Carried) : Type 0 where
  pub fit : AreFit packets
  pub noted : (delivered : List ℕ) → IsBook old (spellings old_packets) delivered → IsBook new (spellings packets) delivered
  pub sent : (first : Option (List Sent)) → Grows first (map sending old_packets) before.sent → Grows first (map sending packets) after.sent
  pub acts : Grows before.acts (all_gone (drop (length old_packets) packets)) after.acts
