-- The positions of a stream in a log, from one position on and below another.
use Rattle.std.proofs.Common.{◌≡◌, ℕ, ◌+◌, ◌<◌, ◌≤◌, List, [], ◌∷◌, Bool, true, false, refl, sym, ap, ◌∙◌, subst, inl, inr, arith, Option, Some, None}
use Rattle.std.specs.Prelude.{nat_lt, nat_le, ◌&&◌, if◌then◌else◌}
use Rattle.std.proofs.lemmas.Bool.Decides.{nat_tests}
use Rattle.tg_base.specs.declared.ids.Oid.{Oid}
use Rattle.tg_entry.specs.declared.entry.Entry.{Entry}
use Rattle.tg_protocol.specs.Entries.{lists}
use Rattle.tg_protocol.specs.Views.{Entries}
use Rattle.tg_protocol.specs.Logs.{Log, entries_of, entry_at, members_in, members}
use Rattle.tg_law_replies.specs.Plays.Sound.{rise_from}
use Rattle.tg_law_walks.specs.Walks.Streams.{IsByPosition, entry_lists, stands_in}
use Rattle.tg_law_walks.proofs.Walks.Members.{Has}
use Rattle.tg_law_walks.proofs.Walks.Cells.{entries_rise, rises_next, has_from, entry_there, there_entry, pair}

abbrev taken : Oid → ℕ → ℕ → ℕ × Entry → Bool
taken o lo hi x = nat_le lo x.0 && nat_lt x.0 hi && lists x.1 o

abbrev take_if : Bool → ℕ → List ℕ → List ℕ
take_if b p ps = if b then p ∷ ps else ps

same_taken : (o : Oid) (a b hi : ℕ) (x : ℕ × Entry) → (lists x.1 o ≡ true → x.0 < hi → nat_le a x.0 ≡ nat_le b x.0) → taken o a hi x ≡ taken o b hi x
same_taken o a b hi x h = by (lists x.1 o) (nat_lt x.0 hi) refl refl
  where
    less : nat_lt x.0 hi ≡ true → x.0 < hi
    less t = grind (arith, nat_tests)

    ends : (c : Bool) → (c && false) ≡ false
    ends true = refl
    ends false = refl

    by : (s t : Bool) → lists x.1 o ≡ s → nat_lt x.0 hi ≡ t → taken o a hi x ≡ taken o b hi x
    by true true f g = ap (λ (c : Bool). c && nat_lt x.0 hi && lists x.1 o) (h f (less g))
    by true false f g = grind arith
    by false t f g = grind arith

-- two stretches with the same positions
pub same_in : (o : Oid) (a b hi : ℕ) (es : Entries) → ((p : ℕ) (e : Entry) → Has es (p, e) → lists e o ≡ true → p < hi → nat_le a p ≡ nat_le b p) → members_in es o a hi ≡ members_in es o b hi
same_in o a b hi [] h = refl
same_in o a b hi (x ∷ es) h =
    ap (λ (c : Bool). take_if c x.0 (members_in es o a hi)) (same_taken o a b hi x (h x.0 x.1 (inl refl)))
    ∙ ap (take_if (taken o b hi x) x.0) (same_in o a b hi es (λ p e i. h p e (inr i)))

-- one position more
pub next_in : (low : ℕ) (es : Entries) (o : Oid) (q hi : ℕ) (e : Entry) → rise_from low es ≡ true → Has es (q, e) → lists e o ≡ true → q < hi → q ∷ members_in es o (q + 1) hi ≡ members_in es o q hi
next_in low [] o q hi e h i f less = absurd i
next_in low (x ∷ es) o q hi e h (inl s) f less =
    let at : q ≡ x.0 = ap (λ (y : ℕ × Entry). y.0) s in
    let is : e ≡ x.1 = ap (λ (y : ℕ × Entry). y.1) s in
    ap (λ (c : Bool). q ∷ take_if c x.0 (members_in es o (q + 1) hi)) (not_yet at)
    ∙ (ap (λ (ps : List ℕ). q ∷ ps) (same_in o (q + 1) q hi es (λ p d j g k. later at p (has_from (x.0 + 1) es (p, d) (rises_next low x es h).1 j)))
    ∙ (ap (λ (n : ℕ). n ∷ members_in es o q hi) at
    ∙ ap (λ (c : Bool). take_if c x.0 (members_in es o q hi)) (sym (now at (sym (ap (λ d. lists d o) is) ∙ f)))))
  where
    not_yet : q ≡ x.0 → taken o (q + 1) hi x ≡ false
    not_yet at = let n : nat_le (q + 1) x.0 ≡ false = grind (arith, nat_tests) in ap (λ (c : Bool). c && nat_lt x.0 hi && lists x.1 o) n

    now : q ≡ x.0 → lists x.1 o ≡ true → taken o q hi x ≡ true
    now at g = let n : nat_le q x.0 ≡ true = grind (arith, nat_tests) in let k : nat_lt x.0 hi ≡ true = grind (arith, nat_tests) in grind arith

    later : q ≡ x.0 → (p : ℕ) → x.0 + 1 ≤ p → nat_le (q + 1) p ≡ nat_le q p
    later at p le = grind (arith, nat_tests)
next_in low (x ∷ es) o q hi e h (inr i) f less =
    let after : x.0 + 1 ≤ q = has_from (x.0 + 1) es (q, e) (rises_next low x es h).1 i in
    ap (λ (c : Bool). q ∷ take_if c x.0 (members_in es o (q + 1) hi)) (before (q + 1) (omega (arith, after)))
    ∙ (next_in (x.0 + 1) es o q hi e (rises_next low x es h).1 i f less
    ∙ ap (λ (c : Bool). take_if c x.0 (members_in es o q hi)) (sym (before q after)))
  where
    before : (a : ℕ) → x.0 + 1 ≤ a → taken o a hi x ≡ false
    before a le = let n : nat_le a x.0 ≡ false = grind (arith, nat_tests) in ap (λ (c : Bool). c && nat_lt x.0 hi && lists x.1 o) n

-- what a stretch has
pub in_stretch : (es : Entries) (o : Oid) (lo hi p : ℕ) (e : Entry) → Has es (p, e) → lists e o ≡ true → lo ≤ p → p < hi → Has (members_in es o lo hi) p
in_stretch [] o lo hi p e i f le less = absurd i
in_stretch (x ∷ es) o lo hi p e (inl s) f le less =
    let at : p ≡ x.0 = ap (λ (y : ℕ × Entry). y.0) s in
    let is : lists x.1 o ≡ true = sym (ap (λ (y : ℕ × Entry). lists y.1 o) s) ∙ f in
    subst (λ (c : Bool). Has (take_if c x.0 (members_in es o lo hi)) p) (sym (now at is)) (inl at)
  where
    now : p ≡ x.0 → lists x.1 o ≡ true → taken o lo hi x ≡ true
    now at g = let n : nat_le lo x.0 ≡ true = grind (arith, nat_tests) in let k : nat_lt x.0 hi ≡ true = grind (arith, nat_tests) in grind arith
in_stretch (x ∷ es) o lo hi p e (inr i) f le less = by (taken o lo hi x) (in_stretch es o lo hi p e i f le less)
  where
    by : (c : Bool) → Has (members_in es o lo hi) p → Has (take_if c x.0 (members_in es o lo hi)) p
    by true j = inr j
    by false j = j

-- Over a log.

entry_of_stand : (x : Option Entry) (o : Oid) → entry_lists o x ≡ true → (e : Entry) × (x ≡ Some e) × (lists e o ≡ true)
entry_of_stand None o h = absurd (cc)
entry_of_stand (Some e) o h = (e, refl, h)

pub stand_entry : (l : Log) (o : Oid) (q : ℕ) → stands_in l o q ≡ true → (e : Entry) × (entry_at l q ≡ Some e) × (lists e o ≡ true)
stand_entry l o q h = entry_of_stand (entry_at l q) o h

pub entry_stand : (l : Log) (o : Oid) (q : ℕ) (e : Entry) → IsByPosition l → Has (entries_of l) (q, e) → lists e o ≡ true → stands_in l o q ≡ true
entry_stand l o q e by i f = ap (entry_lists o) (entry_there 0 l q e by i) ∙ f

pub same_stretch : (l : Log) (o : Oid) (a b hi : ℕ) → IsByPosition l → ((q : ℕ) → stands_in l o q ≡ true → q < hi → nat_le a q ≡ nat_le b q) → members l o a hi ≡ members l o b hi
unfolding members
same_stretch l o a b hi by h = same_in o a b hi (entries_of l) (λ p e i f less. h p (entry_stand l o p e by i f) less)

pub next_stretch : (l : Log) (o : Oid) (q hi : ℕ) → IsByPosition l → stands_in l o q ≡ true → q < hi → q ∷ members l o (q + 1) hi ≡ members l o q hi
unfolding members
next_stretch l o q hi by h less = let e = stand_entry l o q h in next_in 0 (entries_of l) o q hi e.0 (entries_rise 0 l by) (there_entry l q e.0 e.1) e.2 less

pub has_stretch : (l : Log) (o : Oid) (lo hi q : ℕ) → stands_in l o q ≡ true → lo ≤ q → q < hi → Has (members l o lo hi) q
unfolding members
has_stretch l o lo hi q h le less = let e = stand_entry l o q h in in_stretch (entries_of l) o lo hi q e.0 (there_entry l q e.0 e.1) e.2 le less

empty_in : (es : Entries) (o : Oid) (n : ℕ) → members_in es o n n ≡ []
empty_in [] o n = refl
empty_in (x ∷ es) o n = ap (λ (c : Bool). take_if c x.0 (members_in es o n n)) none ∙ empty_in es o n
  where
    test : (a b : ℕ) (c : Bool) → (nat_le a b && nat_lt b a && c) ≡ false
    test a b c = grind (arith, nat_tests)

    none : taken o n n x ≡ false
    none = test n x.0 (lists x.1 o)

pub empty_stretch : (l : Log) (o : Oid) (n : ℕ) → members l o n n ≡ []
unfolding members
empty_stretch l o n = empty_in (entries_of l) o n

-- and nothing else
stretch_in : (es : Entries) (o : Oid) (lo hi p : ℕ) → Has (members_in es o lo hi) p → (e : Entry) × Has es (p, e) × (lists e o ≡ true) × (p < hi)
stretch_in [] o lo hi p i = absurd i
stretch_in (x ∷ es) o lo hi p i = by (taken o lo hi x) refl i (λ j. stretch_in es o lo hi p j)
  where
    tests : taken o lo hi x ≡ true → (lists x.1 o ≡ true) × (x.0 < hi)
    tests t = (right (nat_le lo x.0) (nat_lt x.0 hi) (lists x.1 o) t, let k = middle (nat_le lo x.0) (nat_lt x.0 hi) (lists x.1 o) t in grind (arith, nat_tests))
      where
        right : (a b c : Bool) → (a && b && c) ≡ true → c ≡ true
        right a b c f = grind arith

        middle : (a b c : Bool) → (a && b && c) ≡ true → b ≡ true
        middle a b c f = grind arith

    later : (e : Entry) × Has es (p, e) × (lists e o ≡ true) × (p < hi) → (e : Entry) × Has (x ∷ es) (p, e) × (lists e o ≡ true) × (p < hi)
    later k = (k.0, inr k.1, k.2, k.3)

    here : p ≡ x.0 → taken o lo hi x ≡ true → (e : Entry) × Has (x ∷ es) (p, e) × (lists e o ≡ true) × (p < hi)
    here s t = let k = tests t in let less = k.1 in (x.1, inl (pair (p, x.1) x s refl), k.0, omega (arith, s, less))

    by : (c : Bool) → taken o lo hi x ≡ c → Has (take_if c x.0 (members_in es o lo hi)) p → (Has (members_in es o lo hi) p → (e : Entry) × Has es (p, e) × (lists e o ≡ true) × (p < hi)) →
        (e : Entry) × Has (x ∷ es) (p, e) × (lists e o ≡ true) × (p < hi)
    by true t (inl s) rest = here s t
    by true t (inr j) rest = later (rest j)
    by false t j rest = later (rest j)

pub stretch_has : (l : Log) (o : Oid) (lo hi q : ℕ) → IsByPosition l → Has (members l o lo hi) q → (q < hi) × (stands_in l o q ≡ true)
unfolding members
stretch_has l o lo hi q by i = let k = stretch_in (entries_of l) o lo hi q i in (k.3, entry_stand l o q k.0 by k.1 k.2)
