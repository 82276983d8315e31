-- Where a trail leads.
use Rattle.std.proofs.Common.{◌≡◌, ℕ, ◌<◌, ◌≤◌, Bool, true, false, List, [], ◌∷◌, filter, nat_lt, Option, Some, None, refl, subst, arith}
use Rattle.std.proofs.lemmas.Bool.Decides.{nat_tests}
use Rattle.tg_base.proofs.Exact.{and-left, and-right}
use Rattle.tg_base.specs.declared.cell.Cell.{Cell}
use Rattle.tg_base.specs.declared.cell.Cell.TheVariants.{Junk, Data}
use Rattle.tg_base.specs.declared.ids.Oid.{Oid}
use Rattle.tg_entry.specs.declared.entry.Entry.{Entry}
use Rattle.tg_protocol.specs.Words.{where_true}
use Rattle.tg_protocol.specs.Entries.{lists, backs_in}
use Rattle.tg_protocol.specs.Pages.{entry_of}
use Rattle.tg_protocol.specs.Walking.{Trail, trail, go_down, next_of_trail, next_on, rest_of, listed, pointers_at, trail_after, Walk, at_least, next_visit}
use Rattle.tg_stream.specs.Laws.{all_below, IsBelow}

is-below : (q bound : ℕ) → nat_lt q bound ≡ true → q < bound
is-below q bound e = grind (arith, nat_tests)

below-is : (q bound : ℕ) → q < bound → nat_lt q bound ≡ true
below-is q bound lt = grind (arith, nat_tests)

same-some : (a b : ℕ) → Some a ≡ Some b → a ≡ b
same-some a b e = cc

same-list : (a b : List ℕ) → Some a ≡ Some b → a ≡ b
same-list a b e = cc

-- what is kept below a position stands below a bound past it
kept-if : (b : Bool) (x q bound : ℕ) (ps : List ℕ) → nat_lt x q ≡ b → q ≤ bound → all_below bound (filter (λ y. nat_lt y q) ps) ≡ true → all_below bound (filter (λ y. nat_lt y q) (x ∷ ps)) ≡ true
kept-if b x q bound ps e lt h = grind (arith, nat_tests)

kept-below : (q bound : ℕ) (ps : List ℕ) → q ≤ bound → all_below bound (filter (λ y. nat_lt y q) ps) ≡ true
kept-below q bound [] lt = refl
kept-below q bound (x ∷ ps) lt = kept-if (nat_lt x q) x q bound ps refl lt (kept-below q bound ps lt)

rest-below : (bound : ℕ) (ps : List ℕ) → all_below bound ps ≡ true → all_below bound (rest_of ps) ≡ true
rest-below bound [] h = refl
rest-below bound (x ∷ ps) h = and-right _ _ h

pub passed-below : (bound q : ℕ) (t : Trail) → IsBelow bound t → q < bound → IsBelow bound (trail_after t q None)
passed-below bound q t h lt = record { pointers = rest-below bound t.pointers h.pointers; last = omega (arith, lt) }

if-below : (b : Bool) (bound q : ℕ) (t : Trail) (ps : List ℕ) → IsBelow bound t → q < bound → IsBelow bound (trail_after t q (where_true b (filter (λ y. nat_lt y q) ps)))
if-below true bound q t ps h lt = record { pointers = kept-below q bound ps (omega (arith, lt)); last = omega (arith, lt) }
if-below false bound q t ps h lt = passed-below bound q t h lt

listed-below : (bound q : ℕ) (t : Trail) (o : Oid) (x : Option Entry) → IsBelow bound t → q < bound → IsBelow bound (trail_after t q (listed o q x))
listed-below bound q t o None h lt = passed-below bound q t h lt
listed-below bound q t o (Some e) h lt = if-below (lists e o) bound q t (backs_in e o) h lt

-- no visit leads above
pub after-below : (bound q : ℕ) (t : Trail) (o : Oid) (c : Cell) → IsBelow bound t → q < bound → IsBelow bound (trail_after t q (pointers_at o q c))
after-below bound q t o Junk h lt = passed-below bound q t h lt
after-below bound q t o (Data d) h lt = listed-below bound q t o (entry_of d) h lt

own-if : (b : Bool) (q : ℕ) (qs ps : List ℕ) → where_true b (filter (λ y. nat_lt y q) qs) ≡ Some ps → IsBelow q (trail ps q)
own-if true q qs ps e = let same : filter (λ y. nat_lt y q) qs ≡ ps = same-list _ _ e in record { pointers = subst (λ (xs : List ℕ). all_below q xs ≡ true) same (kept-below q q qs (omega arith)); last = omega arith }
own-if false q qs ps e = absurd (cc)

own-listed : (q : ℕ) (ps : List ℕ) (o : Oid) (x : Option Entry) → listed o q x ≡ Some ps → IsBelow q (trail ps q)
own-listed q ps o None e = absurd (cc)
own-listed q ps o (Some n) e = own-if (lists n o) q (backs_in n o) ps e

-- an entry's own pointers are below it
pub below-own : (q : ℕ) (ps : List ℕ) (o : Oid) (c : Cell) → pointers_at o q c ≡ Some ps → IsBelow q (trail ps q)
below-own q ps o Junk e = absurd (cc)
below-own q ps o (Data d) e = own-listed q ps o (entry_of d) e

down-below : (four : Bool) (bound last q : ℕ) → last ≤ bound → go_down four last ≡ Some q → q < bound
down-below true bound last q le e = grind (arith, nat_tests)
down-below false bound last q le e = absurd (cc)

on-below : (bound q : ℕ) (ps : List ℕ) (t : Trail) → all_below bound ps ≡ true → t.last ≤ bound → next_on t ps ≡ Some q → q < bound
on-below bound q [] t h le e = down-below t.were_four bound t.last q le e
on-below bound q (x ∷ ps) t h le e =
    let lt : x < bound = is-below x bound (and-left _ _ h) in
    let same : x ≡ q = same-some x q e in
    omega (arith, lt, same)

pub next-below : (bound q : ℕ) (t : Trail) → IsBelow bound t → next_of_trail t ≡ Some q → q < bound
next-below bound q t h e = on-below bound q t.pointers t h.pointers h.last e

least-from : (lo q : ℕ) (o : Option ℕ) → at_least lo o ≡ Some q → (lo ≤ q) × (o ≡ Some q)
least-from lo q None e = absurd (cc)
least-from lo q (Some r) e = grind (arith, nat_tests)

-- a position that is visited isn't below the end of the walk, and comes next on its trail
pub visit-from : (w : Walk) (q : ℕ) → next_visit w ≡ Some q → (w.lo ≤ q) × (next_of_trail w.trail ≡ Some q)
visit-from w q e = least-from w.lo q (next_of_trail w.trail) e

pub visit-below : (bound : ℕ) (w : Walk) (q : ℕ) → IsBelow bound w.trail → next_visit w ≡ Some q → q < bound
visit-below bound w q h e = next-below bound q w.trail h (visit-from w q e).1
