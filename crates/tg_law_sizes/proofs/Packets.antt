-- The length of a packet's spelling is its size.
use Rattle.std.proofs.Common.{◌≡◌, true, [], ◌∷◌, length, refl, arith}
use Rattle.tg_base.specs.declared.msg.Msg.{Msg}
use Rattle.tg_base.specs.declared.msg.Msg.TheVariants as msg
use Rattle.tg_base.specs.declared.packet.Packet.{Packet}
use Rattle.tg_codec.specs.Codec.{from_table}
use Rattle.tg_codec.specs.Streams.{from_one}
use Rattle.tg_wire.specs.Messages.{tag_of, messages, message, read, write, fill, copy, has, seal, trim, held, taken, unwritten, gone, fenced, sealed, missing, whole, prepare, accept, decided, ask_latest, promise, nack, accepted, latest, learn, token, check, issued, tail, scanning, old_epoch, full}
use Rattle.tg_wire.specs.Packets.{packet}
use Rattle.tg_wire.specs.Rules.{is_message, fits}
use Rattle.tg_protocol.specs.Sizes.{fields_size, packet_size}
use Rattle.tg_law_sizes.proofs.Fields.{page_len, cell_len, layout_len, vote_len, objects_len, links_len}

fields_len : (m : Msg) → is_message m ≡ true → length ((from_table messages (tag_of m)).spell m) ≡ fields_size m
unfolding fields_size read write fill copy has seal trim held taken unwritten gone fenced sealed missing whole prepare accept decided ask_latest promise nack accepted latest learn token check issued tail scanning old_epoch full
fields_len (msg.Read e p) h = refl
fields_len (msg.Write e p d) h = let all = page_len d in omega (arith, all)
fields_len (msg.Fill e p) h = refl
fields_len (msg.Copy e p c) h = let all = cell_len c in omega (arith, all)
fields_len (msg.Has e lo hi s) h = refl
fields_len (msg.Seal e) h = refl
fields_len (msg.Trim e b) h = refl
fields_len msg.Held h = refl
fields_len (msg.Taken c) h = cell_len c
fields_len msg.Unwritten h = refl
fields_len (msg.Gone b) h = refl
fields_len (msg.Fenced e) h = refl
fields_len (msg.Sealed e x) h = refl
fields_len (msg.Missing p) h = refl
fields_len msg.Whole h = refl
fields_len (msg.Prepare e b) h = refl
fields_len (msg.Accept e b q) h = let all = layout_len ((e, e) ∷ []) q in omega (arith, all)
fields_len (msg.Decided q) h = layout_len from_one q
fields_len msg.AskLatest h = refl
fields_len (msg.Promise e b a) h = let all = vote_len a in omega (arith, all)
fields_len (msg.Nack e b) h = refl
fields_len (msg.Accepted e b) h = refl
fields_len (msg.Latest q) h = layout_len from_one q
fields_len (msg.Learn q) h = layout_len from_one q
fields_len (msg.Token e os) h = let all = objects_len ((1, 16) ∷ []) os in omega (arith, all)
fields_len (msg.Check e os) h = let all = objects_len ((0, 128) ∷ []) os in omega (arith, all)
fields_len (msg.Issued p ls) h = let all = links_len ((0, 128) ∷ []) ls h in omega (arith, all)
fields_len (msg.Tail t ls) h = let all = links_len ((0, 128) ∷ []) ls h in omega (arith, all)
fields_len (msg.Scanning n s) h = refl
fields_len (msg.OldEpoch e) h = refl
fields_len (msg.Full l) h = refl

pub packet_len : (p : Packet) → fits p ≡ true → packet_size p ≡ length (packet.spell p)
unfolding packet message
packet_len p h = let all = fields_len p.msg h in omega (arith, all)
