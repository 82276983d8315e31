-- The counts of a packet that has a spelling fit their bytes.
use Rattle.std.proofs.Common.{◌≡◌, ◌≤◌, ℕ, zero, suc, true, List, [], ◌∷◌, length, Option, Some, None, arith}
use Rattle.tg_base.specs.Layouts.{Layout}
use Rattle.tg_base.specs.declared.ids.Oid.{Oid}
use Rattle.tg_base.specs.declared.ids.NodeId.{NodeId}
use Rattle.tg_base.specs.declared.layout.Range.{Range}
use Rattle.tg_base.specs.declared.marks.StreamLink.{StreamLink}
use Rattle.tg_base.specs.declared.msg.Msg.{Msg}
use Rattle.tg_base.specs.declared.msg.Msg.TheVariants.{Accept, Decided, Promise, Latest, Learn, Token, Check, Issued, Tail}
use Rattle.tg_base.specs.declared.packet.Packet.{Packet}
use Rattle.tg_codec.specs.Codec.{Codec, u8, u16, u64, fixed, dep, many, fit_many, from_table}
use Rattle.tg_codec.specs.Streams.{any, from_one, link, after_link, links}
use Rattle.tg_codec.proofs.Laws.{and-left, and-right}
use Rattle.tg_codec.proofs.Shapes.{counted_len, dep_first, dep_second}
use Rattle.tg_wire.specs.Fields.{object, after_object, objects, ballot, gone_unit, after_gone, gone, stripe, after_stripe, stripes, range, after_range, ranges, projection_of, projection, Proposal, proposal, vote_body, vote}
use Rattle.tg_wire.specs.Messages.{tag_of, accept, decided, promise, latest, learn, token, check, issued, tail, messages, tags, message}
use Rattle.tg_wire.specs.Packets.{node, packet}
use Rattle.tg_wire.specs.Short.{AreShort, IsShortLayout, IsShortVote, IsShort}

stripes-short : (cs : List (List ℕ)) → stripes.fits cs ≡ true → length cs ≤ 255
unfolding stripes
stripes-short cs e = omega (arith, counted_len ((1, 8) ∷ []) (λ n. many stripe after_stripe n tt) cs e)

each-short : (start n : ℕ) (s : ℕ × ℕ) (rs : List Range) → fit_many range (after_range start) n s rs ≡ true → AreShort rs
unfolding fit_many
each-short start zero s [] e = tt
each-short start zero s (r ∷ rs) e = absurd cc
each-short start (suc n) s [] e = tt
each-short start (suc n) s (r ∷ rs) e =
    (stripes-short r.stripes (dep_second (u64 (s ∷ [])) (λ _. stripes) (r.lo, r.stripes) (and-left _ _ e)), each-short start n (after_range start s r) rs (and-right _ _ e))

ranges-short : (start : ℕ) (rs : List Range) → (ranges start).fits rs ≡ true → (length rs ≤ 255) × AreShort rs
unfolding ranges
ranges-short start rs e =
    let body : ℕ → Codec (List Range) = λ n. many range (after_range start) n (0, 0) in
    (omega (arith, counted_len ((1, 32) ∷ []) body rs e), each-short start (length rs) (0, 0) rs (dep_second (u8 ((1, 32) ∷ [])) body (length rs, rs) e))

gone-short : (us : List ℕ) → gone.fits us ≡ true → length us ≤ 255
gone-short us e = omega (arith, counted_len any (λ n. many gone_unit after_gone n 0) us e)

abbrev after_by : ℕ → Codec (List ℕ × List Range)
after_by start = dep gone (λ _. ranges start)

abbrev after_start : ℕ → Codec (ℕ × (List ℕ × List Range))
after_start start = dep (u16 any) (λ _. after_by start)

abbrev after_seq : Codec (ℕ × (ℕ × (List ℕ × List Range)))
after_seq = dep (u64 any) after_start

abbrev after_epoch : Codec (ℕ × (ℕ × (ℕ × (List ℕ × List Range))))
after_epoch = dep (u16 any) (λ _. after_seq)

layout-short : (epochs : List (ℕ × ℕ)) (l : Layout) → (projection_of epochs).fits l ≡ true → IsShortLayout l
unfolding projection_of
layout-short epochs l e =
    let h1 = dep_second (u64 epochs) (λ _. after_epoch) (l.epoch, (l.seq, (l.start, (l.by, (l.gone, l.ranges))))) e in
    let h2 = dep_second (u16 any) (λ _. after_seq) (l.seq, (l.start, (l.by, (l.gone, l.ranges)))) h1 in
    let h3 = dep_second (u64 any) after_start (l.start, (l.by, (l.gone, l.ranges))) h2 in
    let h4 = dep_second (u16 any) (λ _. after_by l.start) (l.by, (l.gone, l.ranges)) h3 in
    (gone-short l.gone (dep_first gone (λ _. ranges l.start) (l.gone, l.ranges) h4), ranges-short l.start l.ranges (dep_second gone (λ _. ranges l.start) (l.gone, l.ranges) h4))

pub vote_short : (v : Option Proposal) → vote.fits v ≡ true → IsShortVote v
vote_short None e = tt
vote_short (Some p) e = layout-short from_one p.1 (dep_second ballot (λ _. projection) p (dep_second (u8 ((0, 1) ∷ [])) vote_body (1, Some p) e))

objects-short : (counts : List (ℕ × ℕ)) (os : List Oid) → (objects counts).fits os ≡ true → length os ≤ 255
objects-short counts os e = omega (arith, counted_len counts (λ n. many object after_object n 0) os e)

links-short : (counts : List (ℕ × ℕ)) (ls : List StreamLink) → (links counts).fits ls ≡ true → length ls ≤ 255
links-short counts ls e = omega (arith, counted_len counts (λ n. many link after_link n 0) ls e)

fields-short : (m : Msg) → (from_table messages (tag_of m)).fits m ≡ true → IsShort m
unfolding accept decided promise latest learn token check issued tail
fields-short (Accept epoch b l) e =
    layout-short ((epoch, epoch) ∷ []) l (dep_second ballot (λ _. projection_of ((epoch, epoch) ∷ [])) (b, l) (dep_second (u64 from_one) proposal (epoch, (b, l)) e))
fields-short (Decided l) e = layout-short from_one l e
fields-short (Promise epoch b v) e =
    vote_short v (dep_second ballot (λ _. vote) (b, v) (dep_second (u64 any) (λ _. dep ballot (λ _. vote)) (epoch, (b, v)) e))
fields-short (Latest l) e = layout-short from_one l e
fields-short (Learn l) e = layout-short from_one l e
fields-short (Token epoch os) e = objects-short ((1, 16) ∷ []) os (dep_second (u64 from_one) (λ _. objects ((1, 16) ∷ [])) (epoch, os) e)
fields-short (Check epoch os) e = objects-short ((0, 128) ∷ []) os (dep_second (u64 from_one) (λ _. objects ((0, 128) ∷ [])) (epoch, os) e)
fields-short (Issued pos ls) e = links-short ((0, 128) ∷ []) ls (dep_second (u64 any) (λ _. links ((0, 128) ∷ [])) (pos, ls) e)
fields-short (Tail pos ls) e = links-short ((0, 128) ∷ []) ls (dep_second (u64 any) (λ _. links ((0, 128) ∷ [])) (pos, ls) e)
fields-short other e = tt

message-short : (m : Msg) → message.fits m ≡ true → IsShort m
unfolding message
message-short m e = fields-short m (dep_second (u8 tags) (from_table messages) (tag_of m, m) e)

abbrev after_to : Codec (ℕ × Msg)
after_to = dep (u64 any) (λ _. message)

abbrev after_from : Codec (NodeId × (ℕ × Msg))
after_from = dep node (λ _. after_to)

abbrev after_first : Codec (NodeId × (NodeId × (ℕ × Msg)))
after_first = dep node (λ _. after_from)

pub is_short : (p : Packet) → packet.fits p ≡ true → IsShort p.msg
unfolding packet
is_short p e =
    let h1 = dep_second (fixed (0x54 ∷ 0x50 ∷ 0x01 ∷ [])) (λ _. after_first) (tt, (p.from, (p.to, (p.rid, p.msg)))) e in
    let h2 = dep_second node (λ _. after_from) (p.from, (p.to, (p.rid, p.msg))) h1 in
    let h3 = dep_second node (λ _. after_to) (p.to, (p.rid, p.msg)) h2 in
    message-short p.msg (dep_second (u64 any) (λ _. message) (p.rid, p.msg) h3)
