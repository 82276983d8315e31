-- What has a spelling keeps the rules of packets.
use Rattle.std.proofs.Common.{◌≡◌, ℕ, zero, suc, ◌≤◌, ◌<◌, ◌^◌, ◌-◌, ◌*◌, eqb, max, min, Bool, true, false, ◌&&◌, ◌||◌, List, [], ◌∷◌, length, Option, Some, None, refl, arith, inl, inr}
use Rattle.std.specs.Prelude.{map}
use Rattle.std.specs.List.{list_all}
use Rattle.std.proofs.lemmas.Bool.{false≢true, leb-true, le-leb, lt-ltb, eq-eqb, or_cases}
use Rattle.tg_base.specs.Units.{is_rising}
use Rattle.tg_base.specs.Layouts.{Layout, IsLayout, is_layout}
use Rattle.tg_base.specs.declared.cell.Cell.{Cell}
use Rattle.tg_base.specs.declared.cell.Cell.TheVariants.{Junk, Data}
use Rattle.tg_base.specs.declared.ids.Oid.{Oid}
use Rattle.tg_base.specs.declared.ids.NodeId.{NodeId}
use Rattle.tg_base.specs.declared.layout.Range.{Range}
use Rattle.tg_base.specs.declared.marks.StreamLink.{StreamLink}
use Rattle.tg_base.specs.declared.msg.Msg.{Msg}
use Rattle.tg_base.specs.declared.msg.Msg.TheVariants.{Read, Write, Fill, Copy, Has, Seal, Trim, Taken, Prepare, Accept, Decided, Promise, Latest, Learn, Token, Check, Issued, Tail}
use Rattle.tg_base.specs.declared.packet.Packet.{Packet}
use Rattle.tg_base.proofs.Rules.{is_within-from}
use Rattle.tg_codec.specs.Codec.{Codec, u8, u16, u64, fixed, dep, many, fit_many, raw, from_table}
use Rattle.tg_codec.specs.Streams.{any, from_one, oids_from, oid, oid_number, before, position, then_before, zeros, backs, link, after_link, links}
use Rattle.tg_codec.proofs.Laws.{and-left, and-right, both}
use Rattle.tg_codec.proofs.Shapes.{met_within, dep_first, dep_second}
use Rattle.tg_wire.specs.Fields.{page, cell_body, cell, object, after_object, objects, ballot, gone, ranges, projection_of, projection, Proposal, proposal, vote_body, vote}
use Rattle.tg_wire.specs.Messages.{tag_of, read, write, fill, copy, has, seal, trim, taken, prepare, accept, decided, promise, latest, learn, token, check, issued, tail, messages, tags, message}
use Rattle.tg_wire.specs.Packets.{node, packet}
use Rattle.tg_wire.specs.Rules.{is_object, are_objects, is_falling, is_link, link_number, are_links, is_page, is_cell, is_vote, is_asked, is_message, fits}
use Rattle.tg_wire.proofs.Building.{is_layout_of}
use Rattle.tg_wire.proofs.Keeping.{or-first, or-second}

asked : (n : ℕ) → (u64 from_one).fits n ≡ true → is_asked n ≡ true
asked n e = let h = met_within 1 (2 ^ 64 - 1) n (and-left _ _ e) in le-leb 1 n h.0

as-page : (p : List ℕ) → page.fits p ≡ true → is_page p ≡ true
as-page p e = let h = met_within 0 4096 (length p) (and-left _ _ (dep_first (u16 ((0, 4096) ∷ [])) raw (length p, p) e)) in le-leb (length p) 4096 h.1

as-cell : (c : Cell) → cell.fits c ≡ true → is_cell c ≡ true
as-cell Junk e = refl
as-cell (Data p) e = as-page p (dep_second (u8 ((0, 1) ∷ [])) cell_body (1, Data p) e)

-- ---- objects

-- an object's number, low at least
record IsFrom (low : ℕ) (o : Oid) : Type 0 where
  low_end : low ≤ o.0
  object : is_object o ≡ true

last-of : (a : Bool) → (a || false) ≡ true → a ≡ true
last-of true e = refl
last-of false e = absurd cc

as-object : (low : ℕ) (o : Oid) → (oid (oids_from low)).fits o ≡ true → IsFrom low o
as-object low o e =
    elim (or_cases _ _ (and-left _ _ e)) [
      | inl dir ↦
          let le : max low o.0 ≤ min 0 o.0 = leb-true _ _ dir in
          let zero : o.0 ≡ 0 = omega (arith, le) in
          record { low_end = omega (arith, le); object = or-first _ _ (eq-eqb o.0 0 zero) }
      | inr other ↦
          let le : max (max low 0x01000000) o.0 ≤ min 0x06ffffff o.0 = leb-true _ _ (last-of _ other) in
          record { low_end = omega (arith, le); object = or-second _ _ (is_within-from 0x01000000 0x06ffffff o.0 (omega (arith, le)) (omega (arith, le))) }
    ]

objects-good : (n low : ℕ) (os : List Oid) → fit_many object after_object n low os ≡ true → list_all is_object os ≡ true
unfolding fit_many
objects-good zero low [] e = refl
objects-good zero low (o ∷ os) e = absurd cc
objects-good (suc n) low [] e = refl
objects-good (suc n) low (o ∷ os) e = both _ _ (as-object low o (and-left _ _ e)).object (objects-good n (after_object low o) os (and-right _ _ e))

objects-rise : (n low : ℕ) (os : List Oid) → fit_many object after_object n low os ≡ true → is_rising (map oid_number os) ≡ true
unfolding fit_many
objects-rise n low [] e = refl
objects-rise n low (o ∷ []) e = refl
objects-rise zero low (o ∷ q ∷ os) e = absurd cc
objects-rise (suc zero) low (o ∷ q ∷ os) e = absurd (false≢true (and-right _ _ e))
objects-rise (suc (suc n)) low (o ∷ q ∷ os) e =
    let later = and-right ((object low).fits o) (fit_many object after_object (suc n) (after_object low o) (q ∷ os)) e in
    let next = (as-object (after_object low o) q (and-left _ _ later)).low_end in
    both _ _ (lt-ltb o.0 q.0 (omega (arith, next))) (objects-rise (suc n) (after_object low o) (q ∷ os) later)

as-objects : (least most : ℕ) (os : List Oid) → (objects ((least, most) ∷ [])).fits os ≡ true → are_objects least most os ≡ true
as-objects least most os e =
    let body : ℕ → Codec (List Oid) = λ n. many object after_object n 0 in
    let counts = met_within least most (length os) (and-left _ _ (dep_first (u8 ((least, most) ∷ [])) body (length os, os) e)) in
    let each = dep_second (u8 ((least, most) ∷ [])) body (length os, os) e in
    both _ _ (both _ _ (is_within-from least most (length os) counts.0 counts.1) (objects-good (length os) 0 os each)) (objects-rise (length os) 0 os each)

-- ---- streams

before-lt : (p q : ℕ) → (before p).0 ≤ q → q ≤ (before p).1 → q < p
before-lt zero q low high = absurd (omega (arith, low, high))
before-lt (suc p) q low high = omega (arith, high)

positions-fall : (n : ℕ) (range : ℕ × ℕ) (ps : List ℕ) → fit_many position then_before n range ps ≡ true → is_falling ps ≡ true
unfolding fit_many
positions-fall n range [] e = refl
positions-fall n range (p ∷ []) e = refl
positions-fall zero range (p ∷ q ∷ ps) e = absurd cc
positions-fall (suc zero) range (p ∷ q ∷ ps) e = absurd (false≢true (and-right _ _ e))
positions-fall (suc (suc n)) range (p ∷ q ∷ ps) e =
    let later = and-right ((position range).fits p) (fit_many position then_before (suc n) (then_before range p) (q ∷ ps)) e in
    let h = met_within (before p).0 (before p).1 q (and-left _ _ (and-left _ _ later)) in
    both _ _ (lt-ltb q p (before-lt p q h.0 h.1)) (positions-fall (suc n) (then_before range p) (q ∷ ps) later)

abbrev after_count : ℕ → Codec (List ℕ × Unit {0})
after_count n = dep (many position then_before n (0, 2 ^ 64 - 1)) (λ _. zeros (8 * (4 - n)))

as-link : (low : ℕ) (l : StreamLink) → (link low).fits l ≡ true → (low ≤ l.oid.0) × (is_link l ≡ true)
as-link low l e =
    let named = as-object low l.oid (dep_first (oid (oids_from low)) (λ _. backs) (l.oid, l.backs) e) in
    let held = dep_second (oid (oids_from low)) (λ _. backs) (l.oid, l.backs) e in
    let few = met_within 0 4 (length l.backs) (and-left _ _ (dep_first (u8 ((0, 4) ∷ [])) after_count (length l.backs, (l.backs, tt)) held)) in
    let rest = dep_second (u8 ((0, 4) ∷ [])) after_count (length l.backs, (l.backs, tt)) held in
    let positions = dep_first (many position then_before (length l.backs) (0, 2 ^ 64 - 1)) (λ _. zeros (8 * (4 - length l.backs))) (l.backs, tt) rest in
    (named.low_end, both _ _ (both _ _ named.object (le-leb (length l.backs) 4 few.1)) (positions-fall (length l.backs) (0, 2 ^ 64 - 1) l.backs positions))

links-good : (n low : ℕ) (ls : List StreamLink) → fit_many link after_link n low ls ≡ true → list_all is_link ls ≡ true
unfolding fit_many
links-good zero low [] e = refl
links-good zero low (l ∷ ls) e = absurd cc
links-good (suc n) low [] e = refl
links-good (suc n) low (l ∷ ls) e = both _ _ (as-link low l (and-left _ _ e)).1 (links-good n (after_link low l) ls (and-right _ _ e))

links-rise : (n low : ℕ) (ls : List StreamLink) → fit_many link after_link n low ls ≡ true → is_rising (map link_number ls) ≡ true
unfolding fit_many
links-rise n low [] e = refl
links-rise n low (l ∷ []) e = refl
links-rise zero low (l ∷ m ∷ ls) e = absurd cc
links-rise (suc zero) low (l ∷ m ∷ ls) e = absurd (false≢true (and-right _ _ e))
links-rise (suc (suc n)) low (l ∷ m ∷ ls) e =
    let later = and-right ((link low).fits l) (fit_many link after_link (suc n) (after_link low l) (m ∷ ls)) e in
    let next = (as-link (after_link low l) m (and-left _ _ later)).0 in
    both _ _ (lt-ltb l.oid.0 m.oid.0 (omega (arith, next))) (links-rise (suc n) (after_link low l) (m ∷ ls) later)

as-links : (ls : List StreamLink) → (links ((0, 128) ∷ [])).fits ls ≡ true → are_links ls ≡ true
as-links ls e =
    let body : ℕ → Codec (List StreamLink) = λ n. many link after_link n 0 in
    let few = met_within 0 128 (length ls) (and-left _ _ (dep_first (u8 ((0, 128) ∷ [])) body (length ls, ls) e)) in
    let each = dep_second (u8 ((0, 128) ∷ [])) body (length ls, ls) e in
    both _ _ (both _ _ (le-leb (length ls) 128 few.1) (links-good (length ls) 0 ls each)) (links-rise (length ls) 0 ls each)

-- ---- layouts

abbrev after_by : ℕ → Codec (List ℕ × List Range)
after_by start = dep gone (λ _. ranges start)

abbrev after_start : ℕ → Codec (ℕ × (List ℕ × List Range))
after_start start = dep (u16 any) (λ _. after_by start)

abbrev after_seq : Codec (ℕ × (ℕ × (List ℕ × List Range)))
after_seq = dep (u64 any) after_start

abbrev after_epoch : Codec (ℕ × (ℕ × (ℕ × (List ℕ × List Range))))
after_epoch = dep (u16 any) (λ _. after_seq)

-- a layout of an epoch from a range
record IsLayoutIn (low high : ℕ) (l : Layout) : Type 0 where
  layout : IsLayout l
  low_end : low ≤ l.epoch
  high_end : l.epoch ≤ high

as-layout : (low high : ℕ) (l : Layout) → 1 ≤ low → (projection_of ((low, high) ∷ [])).fits l ≡ true → IsLayoutIn low high l
unfolding projection_of
as-layout low high l one e =
    let met = met_within low high l.epoch (and-left _ _ (dep_first (u64 ((low, high) ∷ [])) (λ _. after_epoch) (l.epoch, (l.seq, (l.start, (l.by, (l.gone, l.ranges))))) e)) in
    let h1 = dep_second (u64 ((low, high) ∷ [])) (λ _. after_epoch) (l.epoch, (l.seq, (l.start, (l.by, (l.gone, l.ranges))))) e in
    let h2 = dep_second (u16 any) (λ _. after_seq) (l.seq, (l.start, (l.by, (l.gone, l.ranges)))) h1 in
    let h3 = dep_second (u64 any) after_start (l.start, (l.by, (l.gone, l.ranges))) h2 in
    let h4 = dep_second (u16 any) (λ _. after_by l.start) (l.by, (l.gone, l.ranges)) h3 in
    let low_end = met.0 in
    record {
      layout = is_layout_of l (omega (arith, one, low_end)) (dep_first gone (λ _. ranges l.start) (l.gone, l.ranges) h4) (dep_second gone (λ _. ranges l.start) (l.gone, l.ranges) h4);
      low_end = met.0;
      high_end = met.1;
    }

as-projection : (l : Layout) → projection.fits l ≡ true → is_layout l ≡ true
as-projection l e = (as-layout 1 (2 ^ 64 - 1) l (omega arith) e).layout

as-vote : (v : Option Proposal) → vote.fits v ≡ true → is_vote v ≡ true
as-vote None e = refl
as-vote (Some p) e = as-projection p.1 (dep_second ballot (λ _. projection) p (dep_second (u8 ((0, 1) ∷ [])) vote_body (1, Some p) e))

-- ---- messages

as-accept : (epoch : ℕ) (p : Proposal) → is_asked epoch ≡ true → (proposal epoch).fits p ≡ true → (is_asked epoch && is_layout p.1 && eqb p.1.epoch epoch) ≡ true
as-accept epoch p e own =
    let h = as-layout epoch epoch p.1 (leb-true 1 epoch e) (dep_second ballot (λ _. projection_of ((epoch, epoch) ∷ [])) p own) in
    let low_end = h.low_end in
    let high_end = h.high_end in
    both _ _ (both _ _ e h.layout) (eq-eqb p.1.epoch epoch (omega (arith, low_end, high_end)))

fields-keep : (m : Msg) → (from_table messages (tag_of m)).fits m ≡ true → is_message m ≡ true
unfolding read write fill copy has seal trim taken prepare accept decided promise latest learn token check issued tail
fields-keep (Read epoch pos) e = asked epoch (and-left _ _ e)
fields-keep (Write epoch pos p) e = both _ _ (asked epoch (and-left _ _ e)) (as-page p (and-right _ _ (and-right _ _ e)))
fields-keep (Fill epoch pos) e = asked epoch (and-left _ _ e)
fields-keep (Copy epoch pos c) e = both _ _ (asked epoch (and-left _ _ e)) (as-cell c (and-right _ _ (and-right _ _ e)))
fields-keep (Has epoch lo hi step) e =
    let after_hi : ℕ → Codec ℕ = λ _. u64 from_one in
    let after_lo : ℕ → Codec (ℕ × ℕ) = λ _. dep (u64 any) after_hi in
    let asked_in : ℕ → Codec (ℕ × (ℕ × ℕ)) = λ _. dep (u64 any) after_lo in
    let h1 = dep_second (u64 from_one) asked_in (epoch, (lo, (hi, step))) e in
    let h2 = dep_second (u64 any) after_lo (lo, (hi, step)) h1 in
    both _ _ (asked epoch (dep_first (u64 from_one) asked_in (epoch, (lo, (hi, step))) e)) (asked step (dep_second (u64 any) after_hi (hi, step) h2))
fields-keep (Seal epoch) e = asked epoch e
fields-keep (Trim epoch below) e = asked epoch (and-left _ _ e)
fields-keep (Taken c) e = as-cell c e
fields-keep (Prepare epoch b) e = asked epoch (and-left _ _ e)
fields-keep (Accept epoch b l) e = as-accept epoch (b, l) (asked epoch (dep_first (u64 from_one) proposal (epoch, (b, l)) e)) (dep_second (u64 from_one) proposal (epoch, (b, l)) e)
fields-keep (Decided l) e = as-projection l e
fields-keep (Promise epoch b v) e = as-vote v (dep_second ballot (λ _. vote) (b, v) (dep_second (u64 any) (λ _. dep ballot (λ _. vote)) (epoch, (b, v)) e))
fields-keep (Latest l) e = as-projection l e
fields-keep (Learn l) e = as-projection l e
fields-keep (Token epoch oids) e = both _ _ (asked epoch (and-left _ _ e)) (as-objects 1 16 oids (and-right _ _ e))
fields-keep (Check epoch oids) e = both _ _ (asked epoch (and-left _ _ e)) (as-objects 0 128 oids (and-right _ _ e))
fields-keep (Issued pos ls) e = as-links ls (and-right _ _ e)
fields-keep (Tail pos ls) e = as-links ls (and-right _ _ e)
fields-keep other e = refl

message-keeps : (m : Msg) → message.fits m ≡ true → is_message m ≡ true
unfolding message
message-keeps m e = fields-keep m (dep_second (u8 tags) (from_table messages) (tag_of m, m) e)

abbrev after_to : Codec (ℕ × Msg)
after_to = dep (u64 any) (λ _. message)

abbrev after_from : Codec (NodeId × (ℕ × Msg))
after_from = dep node (λ _. after_to)

abbrev after_first : Codec (NodeId × (NodeId × (ℕ × Msg)))
after_first = dep node (λ _. after_from)

pub keeps_rules : (p : Packet) → packet.fits p ≡ true → fits p ≡ true
unfolding packet
keeps_rules p e =
    let h1 = dep_second (fixed (0x54 ∷ 0x50 ∷ 0x01 ∷ [])) (λ _. after_first) (tt, (p.from, (p.to, (p.rid, p.msg)))) e in
    let h2 = dep_second node (λ _. after_from) (p.from, (p.to, (p.rid, p.msg))) h1 in
    let h3 = dep_second node (λ _. after_to) (p.to, (p.rid, p.msg)) h2 in
    message-keeps p.msg (dep_second (u64 any) (λ _. message) (p.rid, p.msg) h3)
