-- Parts with their versions, rising, and those of them above a version.
use Rattle.std.specs.Prelude.{◌≡◌, ℕ, Bool, true, false, cond, nat_lt, List, [], ◌∷◌, filter, map, refl}
use Rattle.std.specs.BTreeMap.{insert_entry, is_at}
use Rattle.std.specs.Cmp.{tied_itself}
use Rattle.std.specs.Map.{remove_entry}
use Rattle.std.specs.Ordering.{is_eq, is_lt, match_ordering, ordering_reverse}
use Rattle.std.specs.declared.cmp.Ordering.{Ordering}
use Rattle.std.specs.declared.cmp.Ordering.TheVariants.{Less, Equal, Greater}
use Rattle.std.proofs.Common.{sym, ap, ◌∙◌, subst, arith}
use Rattle.std.proofs.lemmas.Bool.Decides.{nat_tests}
use Rattle.tg_base.specs.Parts.{part_cmp}
use Rattle.tg_base.specs.declared.marks.Part.{Part}
use Rattle.tg_kind.specs.Parts.{part_eq, is_whole}
use Rattle.tg_protocol.specs.Versions.{with_part}
use Rattle.tg_vers.proofs.Order.{part_total, part_eq_is, part_lt_is, same_part}

-- ---- parts that rise, the whole not among them

abbrev pub Above : Part → List Part → Type 0
Above k [] = Unit {0}
Above k (x ∷ xs) = (part_cmp k x ≡ Less) × Above k xs

abbrev pub Rising : List Part → Type 0
Rising [] = Unit {0}
Rising (x ∷ xs) = (is_whole x ≡ false) × (Above x xs × Rising xs)

above_more : (j k : Part) (xs : List Part) → part_cmp j k ≡ Less → Above k xs → Above j xs
above_more j k [] e h = tt
above_more j k (x ∷ xs) e h = (part_total.trans j k x e h.0, above_more j k xs e h.1)

by_order : {A : Type 0} (r : Ordering) (a b c : A) → cond (is_lt r) a (cond (is_eq r) b c) ≡ match_ordering r a b c
by_order Less a b c = refl
by_order Equal a b c = refl
by_order Greater a b c = refl

-- a part's place among parts, by their order
pub with_part_by : (k x : Part) (xs : List Part) → with_part k (x ∷ xs) ≡ match_ordering (part_cmp k x) (k ∷ x ∷ xs) (x ∷ xs) (x ∷ with_part k xs)
with_part_by k x xs =
    ap (λ (b : Bool). cond b (k ∷ x ∷ xs) (cond (part_eq k x) (x ∷ xs) (x ∷ with_part k xs))) (part_lt_is k x)
    ∙ ap (λ (b : Bool). cond (is_lt (part_cmp k x)) (k ∷ x ∷ xs) (cond b (x ∷ xs) (x ∷ with_part k xs))) (part_eq_is k x)
    ∙ by_order (part_cmp k x) (k ∷ x ∷ xs) (x ∷ xs) (x ∷ with_part k xs)

above_with : (j k : Part) (xs : List Part) → part_cmp j k ≡ Less → Above j xs → Above j (with_part k xs)
above_with j k [] e h = (e, tt)
above_with j k (x ∷ xs) e h = subst (Above j) (sym (with_part_by k x xs)) (by (above_with j k xs e h.1) (part_cmp k x))
  where
    by : Above j (with_part k xs) → (r : Ordering) → Above j (match_ordering r (k ∷ x ∷ xs) (x ∷ xs) (x ∷ with_part k xs))
    by more Less = (e, h)
    by more Equal = h
    by more Greater = (h.0, more)

turned_back : (k x : Part) → part_cmp k x ≡ Greater → part_cmp x k ≡ Less
turned_back k x e = part_total.antisymm x k ∙ ap ordering_reverse e

pub rising_with : (k : Part) (xs : List Part) → is_whole k ≡ false → Rising xs → Rising (with_part k xs)
rising_with k [] w h = (w, (tt, tt))
rising_with k (x ∷ xs) w h = subst Rising (sym (with_part_by k x xs)) (by (rising_with k xs w h.1.1) (part_cmp k x) refl)
  where
    by : Rising (with_part k xs) → (r : Ordering) → part_cmp k x ≡ r → Rising (match_ordering r (k ∷ x ∷ xs) (x ∷ xs) (x ∷ with_part k xs))
    by more Less e = (w, ((e, above_more k x xs e h.1.0), h))
    by more Equal e = h
    by more Greater e = (h.0, (above_with x k xs (turned_back k x e) h.1.0, more))

-- ---- the parts with versions

abbrev pub rows : (Part → ℕ) → List Part → List (Part × ℕ)
rows f ps = map (λ (p : Part). (p, f p)) ps

-- the version g is n at k, and f elsewhere but at the whole
pub record Moves (f g : Part → ℕ) (k : Part) (n : ℕ) : Type 0 where
  pub here : (p : Part) → is_eq (part_cmp k p) ≡ true → g p ≡ n
  pub there : (p : Part) → is_whole p ≡ false → is_eq (part_cmp k p) ≡ false → g p ≡ f p

pub rows_same : (f g : Part → ℕ) (ps : List Part) → ((p : Part) → is_whole p ≡ false → g p ≡ f p) → Rising ps → rows g ps ≡ rows f ps
rows_same f g [] same h = refl
rows_same f g (x ∷ xs) same h = λ i. (x, same x h.0 i) ∷ rows_same f g xs same h.1.1 i

rows_above : (f g : Part → ℕ) (k : Part) (n : ℕ) (ps : List Part) → Moves f g k n → Above k ps → Rising ps → rows g ps ≡ rows f ps
rows_above f g k n [] m a h = refl
rows_above f g k n (x ∷ xs) m a h = λ i. (x, m.there x h.0 (ap is_eq a.0) i) ∷ rows_above f g k n xs m a.1 h.1.1 i

-- a part that moves is put in, or takes its version where it stands
pub rows_with : (f g : Part → ℕ) (k : Part) (n : ℕ) (ps : List Part) → Moves f g k n → Rising ps → rows g (with_part k ps) ≡ insert_entry part_cmp (rows f ps) k n
rows_with f g k n [] m h = λ i. (k, m.here k (ap is_eq (tied_itself part_total k)) i) ∷ []
rows_with f g k n (x ∷ xs) m h = ap (rows g) (with_part_by k x xs) ∙ by (rows_with f g k n xs m h.1.1) (part_cmp k x) refl
  where
    by : rows g (with_part k xs) ≡ insert_entry part_cmp (rows f xs) k n → (r : Ordering) → part_cmp k x ≡ r → rows g (match_ordering r (k ∷ x ∷ xs) (x ∷ xs) (x ∷ with_part k xs)) ≡ match_ordering r ((k, n) ∷ (x, f x) ∷ rows f xs) ((x, n) ∷ rows f xs) ((x, f x) ∷ insert_entry part_cmp (rows f xs) k n)
    by more Less e = λ i. (k, m.here k (ap is_eq (tied_itself part_total k)) i) ∷ rows_above f g k n (x ∷ xs) m (e, above_more k x xs e h.1.0) h i
    by more Equal e = λ i. (x, m.here x (ap is_eq e) i) ∷ rows_above f g k n xs m (subst (λ (p : Part). Above p xs) (sym (same_part k x e)) h.1.0) h.1.1 i
    by more Greater e = λ i. (x, m.there x h.0 (ap is_eq e) i) ∷ more i

-- ---- entries whose keys rise, and those above a version

abbrev pub EntriesAbove : Part → List (Part × ℕ) → Type 0
EntriesAbove k [] = Unit {0}
EntriesAbove k (x ∷ xs) = (part_cmp k x.0 ≡ Less) × EntriesAbove k xs

abbrev pub EntriesRise : List (Part × ℕ) → Type 0
EntriesRise [] = Unit {0}
EntriesRise (x ∷ xs) = EntriesAbove x.0 xs × EntriesRise xs

abbrev pub newer : ℕ → List (Part × ℕ) → List (Part × ℕ)
newer whole xs = filter (λ (x : Part × ℕ). nat_lt whole x.1) xs

entries_more : (j k : Part) (xs : List (Part × ℕ)) → part_cmp j k ≡ Less → EntriesAbove k xs → EntriesAbove j xs
entries_more j k [] e h = tt
entries_more j k (x ∷ xs) e h = (part_total.trans j k x.0 e h.0, entries_more j k xs e h.1)

entries_with : (j k : Part) (n : ℕ) (xs : List (Part × ℕ)) → part_cmp j k ≡ Less → EntriesAbove j xs → EntriesAbove j (insert_entry part_cmp xs k n)
entries_with j k n [] e h = (e, tt)
entries_with j k n (x ∷ xs) e h = by (entries_with j k n xs e h.1) (part_cmp k x.0)
  where
    by : EntriesAbove j (insert_entry part_cmp xs k n) → (r : Ordering) → EntriesAbove j (match_ordering r ((k, n) ∷ x ∷ xs) ((x.0, n) ∷ xs) (x ∷ insert_entry part_cmp xs k n))
    by more Less = (e, h)
    by more Equal = (h.0, h.1)
    by more Greater = (h.0, more)

pub entries_rise : (k : Part) (n : ℕ) (xs : List (Part × ℕ)) → EntriesRise xs → EntriesRise (insert_entry part_cmp xs k n)
entries_rise k n [] h = (tt, tt)
entries_rise k n (x ∷ xs) h = by (entries_rise k n xs h.1) (part_cmp k x.0) refl
  where
    by : EntriesRise (insert_entry part_cmp xs k n) → (r : Ordering) → part_cmp k x.0 ≡ r → EntriesRise (match_ordering r ((k, n) ∷ x ∷ xs) ((x.0, n) ∷ xs) (x ∷ insert_entry part_cmp xs k n))
    by more Less e = ((e, entries_more k x.0 xs e h.0), h)
    by more Equal e = h
    by more Greater e = (entries_with x.0 k n xs (turned_back k x.0 e) h.0, more)

pub rows_rise : (f : Part → ℕ) (ps : List Part) → Rising ps → EntriesRise (rows f ps)
rows_rise f [] h = tt
rows_rise f (x ∷ xs) h = (rows_above_too x xs h.1.0, rows_rise f xs h.1.1)
  where
    rows_above_too : (k : Part) (ps : List Part) → Above k ps → EntriesAbove k (rows f ps)
    rows_above_too k [] a = tt
    rows_above_too k (y ∷ ys) a = (a.0, rows_above_too k ys a.1)

newer_above : (k : Part) (whole : ℕ) (xs : List (Part × ℕ)) → EntriesAbove k xs → EntriesAbove k (newer whole xs)
newer_above k whole [] h = tt
newer_above k whole (x ∷ xs) h = by (newer_above k whole xs h.1) (nat_lt whole x.1)
  where
    by : EntriesAbove k (newer whole xs) → (b : Bool) → EntriesAbove k (cond b (x ∷ newer whole xs) (newer whole xs))
    by more true = (h.0, more)
    by more false = more

-- a part with a version above is put in, and one with a version that isn't is taken out
abbrev put_newer : ℕ → List (Part × ℕ) → Part → ℕ → List (Part × ℕ)
put_newer whole xs k n = cond (nat_lt whole n) (insert_entry part_cmp xs k n) (remove_entry (is_at (part_cmp k)) xs)

insert_front : (k : Part) (n : ℕ) (xs : List (Part × ℕ)) → EntriesAbove k xs → insert_entry part_cmp xs k n ≡ (k, n) ∷ xs
insert_front k n [] h = refl
insert_front k n (x ∷ xs) h = ap (λ (r : Ordering). match_ordering r ((k, n) ∷ x ∷ xs) ((x.0, n) ∷ xs) (x ∷ insert_entry part_cmp xs k n)) h.0

remove_none : (k : Part) (xs : List (Part × ℕ)) → EntriesAbove k xs → remove_entry (is_at (part_cmp k)) xs ≡ xs
remove_none k [] h = refl
remove_none k (x ∷ xs) h = ap (λ (r : Ordering). cond (is_eq r) xs (x ∷ remove_entry (is_at (part_cmp k)) xs)) h.0 ∙ ap (λ (ys : List (Part × ℕ)). x ∷ ys) (remove_none k xs h.1)

put_front : (whole : ℕ) (k : Part) (n : ℕ) (xs : List (Part × ℕ)) → EntriesAbove k xs → cond (nat_lt whole n) ((k, n) ∷ xs) xs ≡ put_newer whole xs k n
put_front whole k n xs h = λ i. cond (nat_lt whole n) (sym (insert_front k n xs h) i) (sym (remove_none k xs h) i)

-- the front of entries, where it has the part that is put, and where it stands before it
level : (k : Part) (n : ℕ) (x : Part × ℕ) (xs : List (Part × ℕ)) (shown : Bool) → part_cmp k x.0 ≡ Equal → EntriesAbove k xs
    → ((x.0, n) ∷ xs ≡ insert_entry part_cmp (cond shown (x ∷ xs) xs) k n) × (xs ≡ remove_entry (is_at (part_cmp k)) (cond shown (x ∷ xs) xs))
level k n x xs true e h =
    (ap (λ (r : Ordering). match_ordering r ((k, n) ∷ x ∷ xs) ((x.0, n) ∷ xs) (x ∷ insert_entry part_cmp xs k n)) (sym e), ap (λ (r : Ordering). cond (is_eq r) xs (x ∷ remove_entry (is_at (part_cmp k)) xs)) (sym e))
level k n x xs false e h =
    (ap (λ (p : Part). (p, n) ∷ xs) (sym (same_part k x.0 e)) ∙ sym (insert_front k n xs h), sym (remove_none k xs h))

before : (k : Part) (n : ℕ) (x : Part × ℕ) (xs : List (Part × ℕ)) → part_cmp k x.0 ≡ Greater
    → (x ∷ insert_entry part_cmp xs k n ≡ insert_entry part_cmp (x ∷ xs) k n) × (x ∷ remove_entry (is_at (part_cmp k)) xs ≡ remove_entry (is_at (part_cmp k)) (x ∷ xs))
before k n x xs e =
    (ap (λ (r : Ordering). match_ordering r ((k, n) ∷ x ∷ xs) ((x.0, n) ∷ xs) (x ∷ insert_entry part_cmp xs k n)) (sym e), ap (λ (r : Ordering). cond (is_eq r) xs (x ∷ remove_entry (is_at (part_cmp k)) xs)) (sym e))

under : (k : Part) (n : ℕ) (x : Part × ℕ) (xs : List (Part × ℕ)) (put shown : Bool) → part_cmp k x.0 ≡ Greater
    → cond shown (x ∷ cond put (insert_entry part_cmp xs k n) (remove_entry (is_at (part_cmp k)) xs)) (cond put (insert_entry part_cmp xs k n) (remove_entry (is_at (part_cmp k)) xs))
    ≡ cond put (insert_entry part_cmp (cond shown (x ∷ xs) xs) k n) (remove_entry (is_at (part_cmp k)) (cond shown (x ∷ xs) xs))
under k n x xs true true e = (before k n x xs e).0
under k n x xs false true e = (before k n x xs e).1
under k n x xs put false e = refl

newer_put : (whole : ℕ) (k : Part) (n : ℕ) (xs : List (Part × ℕ)) → EntriesRise xs → newer whole (insert_entry part_cmp xs k n) ≡ put_newer whole (newer whole xs) k n
newer_put whole k n [] h = refl
newer_put whole k n (x ∷ xs) h = by (newer_put whole k n xs h.1) (part_cmp k x.0) refl
  where
    by : newer whole (insert_entry part_cmp xs k n) ≡ put_newer whole (newer whole xs) k n → (r : Ordering) → part_cmp k x.0 ≡ r → newer whole (match_ordering r ((k, n) ∷ x ∷ xs) ((x.0, n) ∷ xs) (x ∷ insert_entry part_cmp xs k n)) ≡ put_newer whole (newer whole (x ∷ xs)) k n
    by more Less e = put_front whole k n (newer whole (x ∷ xs)) (newer_above k whole (x ∷ xs) (e, entries_more k x.0 xs e h.0))
    by more Equal e =
        let over : EntriesAbove k xs = subst (λ (p : Part). EntriesAbove p xs) (sym (same_part k x.0 e)) h.0 in
        let p = level k n x (newer whole xs) (nat_lt whole x.1) e (newer_above k whole xs over) in
        λ i. cond (nat_lt whole n) (p.0 i) (p.1 i)
    by more Greater e =
        ap (λ (zs : List (Part × ℕ)). cond (nat_lt whole x.1) (x ∷ zs) zs) more
        ∙ under k n x (newer whole xs) (nat_lt whole n) (nat_lt whole x.1) e

-- two lists that show the same above a version do so with one entry more
pub newer_with : (whole : ℕ) (k : Part) (n : ℕ) (xs ys : List (Part × ℕ)) → EntriesRise xs → EntriesRise ys → newer whole xs ≡ newer whole ys → newer whole (insert_entry part_cmp xs k n) ≡ newer whole (insert_entry part_cmp ys k n)
newer_with whole k n xs ys h g e = newer_put whole k n xs h ∙ ap (λ (zs : List (Part × ℕ)). put_newer whole zs k n) e ∙ sym (newer_put whole k n ys g)

-- none of the parts is above where all have one version
irreflexive : (n : ℕ) → nat_lt n n ≡ false
irreflexive n = grind (arith, nat_tests)

pub none_newer : (whole : ℕ) (ps : List Part) → newer whole (rows (λ (p : Part). whole) ps) ≡ []
none_newer whole [] = refl
none_newer whole (p ∷ ps) = ap (λ (b : Bool). cond b ((p, whole) ∷ newer whole (rows (λ (q : Part). whole) ps)) (newer whole (rows (λ (q : Part). whole) ps))) (irreflexive whole) ∙ none_newer whole ps
