-- Objects and streams that keep the rules have spellings.
use Rattle.std.proofs.Common.{◌≡◌, ℕ, zero, suc, ◌+◌, ◌-◌, ◌≤◌, ◌<◌, ◌^◌, max, min, true, List, [], ◌∷◌, length, refl, arith, inl, inr}
use Rattle.std.specs.Prelude.{map}
use Rattle.std.specs.List.{list_all}
use Rattle.std.proofs.lemmas.Bool.{leb-true, le-leb, lt-ltb, ltb-true, eqb-true, or_cases}
use Rattle.tg_base.specs.declared.ids.Oid.{Oid}
use Rattle.tg_base.specs.declared.marks.StreamLink.{StreamLink}
use Rattle.tg_base.specs.Units.{is_rising}
use Rattle.tg_base.proofs.Rules.{within-low, within-high}
use Rattle.tg_codec.specs.Reading.{meets}
use Rattle.tg_codec.specs.Codec.{fit_many}
use Rattle.tg_codec.specs.Streams.{oids_from, oid, oid_number, before, position, then_before, backs, link, after_link, links}
use Rattle.tg_codec.proofs.Laws.{and-left, and-right, both}
use Rattle.tg_wire.specs.Fields.{object, after_object, objects}
use Rattle.tg_wire.specs.Rules.{is_object, are_objects, is_falling, is_link, link_number, are_links}
use Rattle.tg_wire.specs.Types.{AreLong, AreTypedLinks}
use Rattle.tg_wire.proofs.Keeping.{or-first, or-second, u8_fits, u64_fits}

object-met : (low : ℕ) (o : Oid) → low ≤ o.0 → is_object o ≡ true → (meets (oids_from low) o.0 o.0 ≡ true) × (o.0 < 2 ^ 32)
object-met low o le e =
    elim (or_cases _ _ e) [
      | inl dir ↦
          let zero : o.0 ≡ 0 = eqb-true o.0 0 dir in
          let at : max low o.0 ≤ min 0 o.0 = omega (arith, zero, le) in
          (or-first _ _ (le-leb _ _ at), omega (arith, zero))
      | inr other ↦
          let low_end = within-low 0x01000000 0x06ffffff o.0 other in
          let high_end = within-high 0x01000000 0x06ffffff o.0 other in
          let at : max (max low 0x01000000) o.0 ≤ min 0x06ffffff o.0 = omega (arith, low_end, high_end, le) in
          (or-second _ _ (or-first _ _ (le-leb _ _ at)), omega (arith, high_end))
    ]

object-fits : (low : ℕ) (o : Oid) → low ≤ o.0 → is_object o ≡ true → (oid (oids_from low)).fits o ≡ true
object-fits low o le e = let h = object-met low o le e in both _ _ h.0 (lt-ltb o.0 (2 ^ 32) h.1)

abbrev Begins : ℕ → List Oid → Type 0
Begins low [] = Unit {0}
Begins low (o ∷ os) = low ≤ o.0

each-object : (low : ℕ) (os : List Oid) → Begins low os → list_all is_object os ≡ true → is_rising (map oid_number os) ≡ true → fit_many object after_object (length os) low os ≡ true
unfolding fit_many
each-object low [] b good rise = refl
each-object low (o ∷ []) b good rise = both _ _ (object-fits low o b (and-left _ _ good)) refl
each-object low (o ∷ q ∷ os) b good rise =
    let lt = ltb-true o.0 q.0 (and-left _ _ rise) in
    both _ _ (object-fits low o b (and-left _ _ good)) (each-object (o.0 + 1) (q ∷ os) (omega (arith, lt)) (and-right _ _ good) (and-right _ _ rise))

from-zero : (os : List Oid) → Begins 0 os
from-zero [] = tt
from-zero (o ∷ os) = omega arith

pub objects_fit : (least most : ℕ) (os : List Oid) → most ≤ 128 → are_objects least most os ≡ true → (objects ((least, most) ∷ [])).fits os ≡ true
objects_fit least most os small e =
    let counts = and-left _ _ (and-left _ _ e) in
    let few = within-high least most (length os) counts in
    both _ _ (u8_fits least most (length os) (within-low least most (length os) counts) few (omega (arith, few, small)))
    (each-object 0 os (from-zero os) (and-right _ _ (and-left _ _ e)) (and-right _ _ e))

-- ---- streams

abbrev EndsIn : ℕ × ℕ → List ℕ → Type 0
EndsIn range [] = Unit {0}
EndsIn range (p ∷ ps) = (range.0 ≤ p) × (p ≤ range.1)

next-ends : (p q : ℕ) → q < p → (((before p).0 ≤ q) × (q ≤ (before p).1))
next-ends zero q lt = absurd (omega (arith, lt))
next-ends (suc p) q lt = (omega arith, omega (arith, lt))

positions-fit : (range : ℕ × ℕ) (ps : List ℕ) → EndsIn range ps → is_falling ps ≡ true → AreLong ps → fit_many position then_before (length ps) range ps ≡ true
unfolding fit_many
positions-fit range [] b fall long = refl
positions-fit range (p ∷ []) b fall long = both _ _ (u64_fits range.0 range.1 p b.0 b.1 long.0) refl
positions-fit range (p ∷ q ∷ ps) b fall long =
    let lt = ltb-true q p (and-left _ _ fall) in
    both _ _ (u64_fits range.0 range.1 p b.0 b.1 long.0) (positions-fit (before p) (q ∷ ps) (next-ends p q lt) (and-right _ _ fall) long.1)

all-in : (ps : List ℕ) → AreLong ps → EndsIn (0, 2 ^ 64 - 1) ps
all-in [] long = tt
all-in (p ∷ ps) long = let lt = long.0 in (omega arith, omega (arith, lt))

backs-fit : (ps : List ℕ) → length ps ≤ 4 → is_falling ps ≡ true → AreLong ps → backs.fits ps ≡ true
backs-fit ps few fall long =
    both _ _ (u8_fits 0 4 (length ps) (omega arith) few (omega (arith, few))) (both _ _ (positions-fit (0, 2 ^ 64 - 1) ps (all-in ps long) fall long) refl)

link-fits : (low : ℕ) (l : StreamLink) → low ≤ l.oid.0 → is_link l ≡ true → AreLong l.backs → (link low).fits l ≡ true
link-fits low l le e long =
    let h = and-left _ _ e in
    both _ _ (object-fits low l.oid le (and-left _ _ h)) (backs-fit l.backs (leb-true (length l.backs) 4 (and-right _ _ h)) (and-right _ _ e) long)

abbrev BeginsAt : ℕ → List StreamLink → Type 0
BeginsAt low [] = Unit {0}
BeginsAt low (l ∷ ls) = low ≤ l.oid.0

each-link : (low : ℕ) (ls : List StreamLink) → BeginsAt low ls → list_all is_link ls ≡ true → is_rising (map link_number ls) ≡ true → AreTypedLinks ls → fit_many link after_link (length ls) low ls ≡ true
unfolding fit_many
each-link low [] b good rise typed = refl
each-link low (l ∷ []) b good rise typed = both _ _ (link-fits low l b (and-left _ _ good) typed.0) refl
each-link low (l ∷ m ∷ ls) b good rise typed =
    let lt = ltb-true l.oid.0 m.oid.0 (and-left _ _ rise) in
    both _ _ (link-fits low l b (and-left _ _ good) typed.0) (each-link (l.oid.0 + 1) (m ∷ ls) (omega (arith, lt)) (and-right _ _ good) (and-right _ _ rise) typed.1)

from-first : (ls : List StreamLink) → BeginsAt 0 ls
from-first [] = tt
from-first (l ∷ ls) = omega arith

pub links_fit : (ls : List StreamLink) → are_links ls ≡ true → AreTypedLinks ls → (links ((0, 128) ∷ [])).fits ls ≡ true
links_fit ls e typed =
    let few = leb-true (length ls) 128 (and-left _ _ (and-left _ _ e)) in
    both _ _ (u8_fits 0 128 (length ls) (omega arith) few (omega (arith, few))) (each-link 0 ls (from-first ls) (and-right _ _ (and-left _ _ e)) (and-right _ _ e) typed)
