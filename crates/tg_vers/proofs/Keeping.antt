-- What is kept of versions answers what the definitions answer.
use Rattle.std.specs.Prelude.{◌≡◌, ℕ, ◌+◌, Bool, true, false, cond, not, ◌&&◌, ◌||◌, List, [], ◌∷◌, Option, Some, None, unwrap_or, refl}
use Rattle.std.specs.BTreeMap.{insert_entry, is_at}
use Rattle.std.specs.Cmp.{IsTotalOrder, eq_by_cmp_equiv, nat_cmp_total, nat_eq_equiv, unsigned_ties, unsigned_Decides, on_total}
use Rattle.std.specs.Map.{lookup, remove_entry}
use Rattle.std.specs.Ordering.{is_eq}
use Rattle.std.proofs.Common.{sym, ap, ◌∙◌, subst}
use Rattle.tg_base.specs.Orders.{oid_cmp, oid_eq}
use Rattle.tg_base.specs.Parts.{part_cmp}
use Rattle.tg_base.specs.declared.ids.Oid.{Oid}
use Rattle.tg_base.specs.declared.marks.Part.{Part}
use Rattle.tg_base.specs.declared.marks.Part.TheVariants.{All, Text, Num}
use Rattle.tg_kind.specs.Parts.{part_eq, is_whole, overlap}
use Rattle.tg_protocol.specs.Versions.{Versions, Based, PartVersion, no_versions, based, key_version, version_in, base_version, noted_or, version_of, with_change, whole_noted, with_part, parts_noted, parts_based, base_parts, parts_of}
use Rattle.tg_vers.specs.Kept.{Kept, Objects, Keeps, unchanged, version_kept, parts_kept, kept_of, noted_in, noted, keys_kept, based_kept, base_kept, notes_kept}
use Rattle.tg_vers.proofs.Lookups.{lookup_put, lookup_taken}
use Rattle.tg_vers.proofs.Order.{part_total, part_eq_is}
use Rattle.tg_vers.proofs.Rows.{Rising, EntriesRise, Moves, rows, newer, rising_with, rows_same, rows_with, rows_rise, entries_rise, newer_with, none_newer}

-- ---- objects

pub oid_total : IsTotalOrder oid_cmp
oid_total = on_total (λ (o : Oid). o.0) nat_cmp_total

oid_eq_is : (o q : Oid) → oid_eq o q ≡ is_eq (oid_cmp o q)
oid_eq_is o q = unsigned_ties o.0 q.0

pub same_oid : (o q : Oid) → is_eq (oid_cmp o q) ≡ true → o ≡ q
same_oid o q e = let is : o.0 ≡ q.0 = (unsigned_Decides o.0 q.0).0 (oid_eq_is o q ∙ e) in λ i. record { 0 = is i }

-- what an object has after a change of one
pub kept_noted : (os : Objects) (o : Oid) (k : Part) (n : ℕ) (q : Oid) → kept_of (noted os o k n) q ≡ cond (oid_eq o q) (noted_in (kept_of os q) k n) (kept_of os q)
unfolding noted
kept_noted os o k n q =
    ap (λ (x : Option Kept). unwrap_or x unchanged) (lookup_put oid_total (remove_entry (is_at (oid_cmp o)) os) o q (noted_in (kept_of os o) k n))
    ∙ by (is_eq (oid_cmp o q)) refl
    ∙ ap (λ (b : Bool). cond b (noted_in (kept_of os q) k n) (kept_of os q)) (sym (oid_eq_is o q))
  where
    by : (b : Bool) → is_eq (oid_cmp o q) ≡ b
        → unwrap_or (cond b (Some (noted_in (kept_of os o) k n)) (lookup (is_at (oid_cmp q)) (remove_entry (is_at (oid_cmp o)) os))) unchanged ≡ cond b (noted_in (kept_of os q) k n) (kept_of os q)
    by true is = ap (λ (p : Oid). noted_in (kept_of os p) k n) (same_oid o q is)
    by false is = ap (λ (x : Option Kept). unwrap_or x unchanged) (lookup_taken oid_total os o q is)

-- ---- the parts of one object

pick : (b : Bool) (n whole : ℕ) (x : Option ℕ) → unwrap_or (cond b (Some n) x) whole ≡ cond b n (unwrap_or x whole)
pick true n whole x = refl
pick false n whole x = refl

key_put : (keys : List (Part × ℕ)) (k p : Part) (n whole : ℕ) → unwrap_or (lookup (is_at (part_cmp p)) (insert_entry part_cmp keys k n)) whole ≡ cond (part_eq k p) n (unwrap_or (lookup (is_at (part_cmp p)) keys) whole)
key_put keys k p n whole =
    ap (λ (x : Option ℕ). unwrap_or x whole) (lookup_put part_total keys k p n)
    ∙ pick (is_eq (part_cmp k p)) n whole (lookup (is_at (part_cmp p)) keys)
    ∙ ap (λ (b : Bool). cond b n (unwrap_or (lookup (is_at (part_cmp p)) keys) whole)) (sym (part_eq_is k p))

version_noted : (x : Kept) (k : Part) (n : ℕ) (p : Part) → version_kept (noted_in x k n) p ≡ cond (overlap k p) n (version_kept x p)
version_noted x All n All = refl
version_noted x All n (Text t) = refl
version_noted x All n (Num m) = refl
version_noted x (Text s) n All = refl
version_noted x (Text s) n (Text t) = key_put x.keys (Text s) (Text t) n x.whole
version_noted x (Text s) n (Num m) = key_put x.keys (Text s) (Num m) n x.whole
version_noted x (Num l) n All = refl
version_noted x (Num l) n (Text t) = key_put x.keys (Num l) (Text t) n x.whole
version_noted x (Num l) n (Num m) = key_put x.keys (Num l) (Num m) n x.whole

-- what is kept of an object says the versions f, and of these parts those above w
pub record Same (x : Kept) (f : Part → ℕ) (ps : List Part) (w : ℕ) : Type 0 where
  pub whole : x.whole ≡ w
  pub version : (p : Part) → version_kept x p ≡ f p
  pub parts : Rising ps
  pub keys : EntriesRise x.keys
  pub shown : newer w (rows f ps) ≡ newer w x.keys

either : (a b : Bool) (n m : ℕ) → b ≡ true → cond (a || b) n m ≡ n
either true b n m e = refl
either false b n m e = ap (λ (c : Bool). cond c n m) e

neither : (a b : Bool) (n m : ℕ) → a ≡ false → b ≡ false → cond (a || b) n m ≡ m
neither true b n m d e = absurd cc
neither false b n m d e = ap (λ (c : Bool). cond c n m) e

moves : (f : Part → ℕ) (k : Part) (n : ℕ) → Moves f (λ (p : Part). cond (is_whole p || part_eq k p) n (f p)) k n
moves f k n = record {
  here = λ p e. either (is_whole p) (part_eq k p) n (f p) (part_eq_is k p ∙ e);
  there = λ p d e. neither (is_whole p) (part_eq k p) n (f p) d (part_eq_is k p ∙ e);
}

shown_with : (x : Kept) (f : Part → ℕ) (ps : List Part) (w : ℕ) (k : Part) (n : ℕ) → Same x f ps w
    → newer w (rows (λ (p : Part). cond (is_whole p || part_eq k p) n (f p)) (with_part k ps)) ≡ newer w (insert_entry part_cmp x.keys k n)
shown_with x f ps w k n h =
    ap (newer w) (rows_with f (λ (p : Part). cond (is_whole p || part_eq k p) n (f p)) k n ps (moves f k n) h.parts)
    ∙ newer_with w k n (rows f ps) x.keys (rows_rise f ps h.parts) h.keys h.shown

same_noted : (x : Kept) (f : Part → ℕ) (ps : List Part) (w : ℕ) (k : Part) (n : ℕ) → Same x f ps w
    → Same (noted_in x k n) (λ (p : Part). cond (overlap k p) n (f p)) (cond (not (is_whole k)) (with_part k ps) ps) (cond (is_whole k) n w)
same_noted x f ps w All n h = record {
  whole = refl;
  version = λ p. version_noted x All n p;
  parts = h.parts;
  keys = tt;
  shown = none_newer n ps;
}
same_noted x f ps w (Text t) n h = record {
  whole = h.whole;
  version = λ p. version_noted x (Text t) n p ∙ ap (cond (overlap (Text t) p) n) (h.version p);
  parts = rising_with (Text t) ps refl h.parts;
  keys = entries_rise (Text t) n x.keys h.keys;
  shown = shown_with x f ps w (Text t) n h;
}
same_noted x f ps w (Num m) n h = record {
  whole = h.whole;
  version = λ p. version_noted x (Num m) n p ∙ ap (cond (overlap (Num m) p) n) (h.version p);
  parts = rising_with (Num m) ps refl h.parts;
  keys = entries_rise (Num m) n x.keys h.keys;
  shown = shown_with x f ps w (Num m) n h;
}

-- ---- a base

no_whole : (p x : Part) → is_whole p ≡ false → is_whole x ≡ true → part_eq p x ≡ false
no_whole All x d e = absurd cc
no_whole (Text s) All d e = refl
no_whole (Text s) (Text t) d e = absurd cc
no_whole (Text s) (Num m) d e = absurd cc
no_whole (Num l) All d e = refl
no_whole (Num l) (Text t) d e = absurd cc
no_whole (Num l) (Num m) d e = absurd cc

part_eq_turned : (p q : Part) → part_eq p q ≡ part_eq q p
part_eq_turned p q = part_eq_is p q ∙ (eq_by_cmp_equiv part_total).symm p q ∙ sym (part_eq_is q p)

key_kept : (keys : List (Part × ℕ)) (p : Part) (whole : ℕ) → is_whole p ≡ false → unwrap_or (lookup (is_at (part_cmp p)) (keys_kept keys)) whole ≡ key_version p whole keys
key_kept [] p whole d = refl
key_kept (x ∷ xs) p whole d = by (key_kept xs p whole d) (is_whole x.0) refl
  where
    by : unwrap_or (lookup (is_at (part_cmp p)) (keys_kept xs)) whole ≡ key_version p whole xs → (b : Bool) → is_whole x.0 ≡ b
        → unwrap_or (lookup (is_at (part_cmp p)) (cond b (keys_kept xs) (insert_entry part_cmp (keys_kept xs) x.0 x.1))) whole ≡ cond (part_eq p x.0) x.1 (key_version p whole xs)
    by more true e = more ∙ ap (λ (c : Bool). cond c x.1 (key_version p whole xs)) (sym (no_whole p x.0 d e))
    by more false e =
        key_put (keys_kept xs) x.0 p x.1 whole
        ∙ ap (cond (part_eq x.0 p) x.1) more
        ∙ ap (λ (c : Bool). cond c x.1 (key_version p whole xs)) (part_eq_turned x.0 p)

keys_rise : (keys : List (Part × ℕ)) → EntriesRise (keys_kept keys)
keys_rise [] = tt
keys_rise (x ∷ xs) = by (keys_rise xs) (is_whole x.0)
  where
    by : EntriesRise (keys_kept xs) → (b : Bool) → EntriesRise (cond b (keys_kept xs) (insert_entry part_cmp (keys_kept xs) x.0 x.1))
    by more true = more
    by more false = entries_rise x.0 x.1 (keys_kept xs) more

based_rising : (keys : List (Part × ℕ)) → Rising (parts_based keys)
based_rising [] = tt
based_rising (x ∷ xs) = by (based_rising xs) (is_whole x.0) refl
  where
    by : Rising (parts_based xs) → (b : Bool) → is_whole x.0 ≡ b → Rising (cond b (parts_based xs) (with_part x.0 (parts_based xs)))
    by more true e = more
    by more false e = rising_with x.0 (parts_based xs) e more

first_key : (x : Part × ℕ) (xs : List (Part × ℕ)) (whole : ℕ) → Moves (λ (p : Part). key_version p whole xs) (λ (p : Part). key_version p whole (x ∷ xs)) x.0 x.1
first_key x xs whole = record {
  here = λ p e. ap (λ (c : Bool). cond c x.1 (key_version p whole xs)) (part_eq_turned p x.0 ∙ part_eq_is x.0 p ∙ e);
  there = λ p d e. ap (λ (c : Bool). cond c x.1 (key_version p whole xs)) (part_eq_turned p x.0 ∙ part_eq_is x.0 p ∙ e);
}

based_rows : (keys : List (Part × ℕ)) (whole : ℕ) → rows (λ (p : Part). key_version p whole keys) (parts_based keys) ≡ keys_kept keys
based_rows [] whole = refl
based_rows (x ∷ xs) whole = by (based_rows xs whole) (is_whole x.0) refl
  where
    by : rows (λ (p : Part). key_version p whole xs) (parts_based xs) ≡ keys_kept xs → (b : Bool) → is_whole x.0 ≡ b
        → rows (λ (p : Part). key_version p whole (x ∷ xs)) (cond b (parts_based xs) (with_part x.0 (parts_based xs))) ≡ cond b (keys_kept xs) (insert_entry part_cmp (keys_kept xs) x.0 x.1)
    by more true e =
        rows_same (λ (p : Part). key_version p whole xs) (λ (p : Part). key_version p whole (x ∷ xs)) (parts_based xs)
        (λ p d. ap (λ (c : Bool). cond c x.1 (key_version p whole xs)) (no_whole p x.0 d e)) (based_rising xs)
        ∙ more
    by more false e =
        rows_with (λ (q : Part). key_version q whole xs) (λ (q : Part). key_version q whole (x ∷ xs)) x.0 x.1 (parts_based xs) (first_key x xs whole) (based_rising xs)
        ∙ ap (λ (es : List (Part × ℕ)). insert_entry part_cmp es x.0 x.1) more

in_base : (b : Based) (p : Part) → version_kept (based_kept b.version b.whole b.keys) p ≡ version_in b p
in_base b All = refl
in_base b (Text t) = key_kept b.keys (Text t) b.whole refl
in_base b (Num n) = key_kept b.keys (Num n) b.whole refl

by_key : (b : Based) (p : Part) → is_whole p ≡ false → version_in b p ≡ key_version p b.whole b.keys
by_key b All d = absurd cc
by_key b (Text t) d = refl
by_key b (Num n) d = refl

same_base : (b : Based) → Same (based_kept b.version b.whole b.keys) (version_in b) (parts_based b.keys) b.whole
same_base b = record {
  whole = refl;
  version = in_base b;
  parts = based_rising b.keys;
  keys = keys_rise b.keys;
  shown = ap (newer b.whole) (rows_same (λ (p : Part). key_version p b.whole b.keys) (version_in b) (parts_based b.keys) (by_key b) (based_rising b.keys) ∙ based_rows b.keys b.whole);
}

same_none : Same unchanged (λ (p : Part). 0) [] 0
same_none = record {
  whole = refl;
  version = none_of;
  parts = tt;
  keys = tt;
  shown = refl;
}
  where
    none_of : (p : Part) → version_kept unchanged p ≡ 0
    none_of All = refl
    none_of (Text t) = refl
    none_of (Num n) = refl

same_start : (b : Option Based) (o : Oid) → Same (kept_of (base_kept b) o) (base_version b o) (base_parts b o) (whole_noted b [] o)
same_start None o = same_none
same_start (Some b) o = subst (λ (t : Bool). Same (unwrap_or (cond t (Some (based_kept b.version b.whole b.keys)) None) unchanged) (base_version (Some b) o) (base_parts (Some b) o) (whole_noted (Some b) [] o)) (nat_eq_equiv.symm b.oid.0 o.0 ∙ oid_eq_is o b.oid) (by (oid_eq b.oid o))
  where
    by : (t : Bool) → Same (unwrap_or (cond t (Some (based_kept b.version b.whole b.keys)) None) unchanged) (λ (p : Part). cond t (version_in b p) 0) (cond t (parts_based b.keys) []) (cond t b.whole 0)
    by true = same_base b
    by false = same_none

-- ---- all notes

whole_more : (b : Option Based) (n : PartVersion) (ns : List PartVersion) (o : Oid) → whole_noted b (n ∷ ns) o ≡ cond (oid_eq n.oid o && is_whole n.part) n.version (whole_noted b ns o)
whole_more None n ns o = refl
whole_more (Some b) n ns o = refl

pub same_notes : (b : Option Based) (ns : List PartVersion) (o : Oid) → Same (kept_of (notes_kept b ns) o) (noted_or b ns o) (parts_noted ns o (base_parts b o)) (whole_noted b ns o)
same_notes b [] o = same_start b o
same_notes b (n ∷ ns) o =
    subst (λ (x : Kept). Same x (noted_or b (n ∷ ns) o) (parts_noted (n ∷ ns) o (base_parts b o)) (whole_noted b (n ∷ ns) o)) (sym (kept_noted (notes_kept b ns) n.oid n.part n.version o))
    (subst (λ (w : ℕ). Same (cond (oid_eq n.oid o) (noted_in (kept_of (notes_kept b ns) o) n.part n.version) (kept_of (notes_kept b ns) o)) (noted_or b (n ∷ ns) o) (parts_noted (n ∷ ns) o (base_parts b o)) w) (sym (whole_more b n ns o))
    (by (same_notes b ns o) (oid_eq n.oid o)))
  where
    by : Same (kept_of (notes_kept b ns) o) (noted_or b ns o) (parts_noted ns o (base_parts b o)) (whole_noted b ns o) → (t : Bool)
        → Same (cond t (noted_in (kept_of (notes_kept b ns) o) n.part n.version) (kept_of (notes_kept b ns) o)) (λ (p : Part). cond (t && overlap n.part p) n.version (noted_or b ns o p))
        (cond (t && not (is_whole n.part)) (with_part n.part (parts_noted ns o (base_parts b o))) (parts_noted ns o (base_parts b o))) (cond (t && is_whole n.part) n.version (whole_noted b ns o))
    by more true = same_noted (kept_of (notes_kept b ns) o) (noted_or b ns o) (parts_noted ns o (base_parts b o)) (whole_noted b ns o) n.part n.version more
    by more false = more

-- ---- the calls

pub new_keeps : Keeps [] no_versions
unfolding no_versions
new_keeps = record { kept = refl }

pub based_keeps : (o : Oid) (version whole : ℕ) (keys : List (Part × ℕ)) → Keeps ((o, based_kept version whole keys) ∷ []) (based o version whole keys)
unfolding based
based_keeps o version whole keys = record { kept = refl }

pub note_keeps : (os : Objects) (v : Versions) (o : Oid) (k : Part) (pos : ℕ) → Keeps os v → Keeps (noted os o k (pos + 1)) (with_change v o k pos)
unfolding with_change
note_keeps os v o k pos h = record {
  kept = ap (λ (qs : Objects). noted qs o k (pos + 1)) h.kept;
}

same_told : (os : Objects) (v : Versions) (o : Oid) → Keeps os v → Same (kept_of os o) (noted_or v.base v.noted o) (parts_noted v.noted o (base_parts v.base o)) (whole_noted v.base v.noted o)
same_told os v o h = subst (λ (qs : Objects). Same (kept_of qs o) (noted_or v.base v.noted o) (parts_noted v.noted o (base_parts v.base o)) (whole_noted v.base v.noted o)) (sym h.kept) (same_notes v.base v.noted o)

pub version_told : (os : Objects) (v : Versions) (o : Oid) (k : Part) → Keeps os v → version_kept (kept_of os o) k ≡ version_of v o k
unfolding version_of
version_told os v o k h = (same_told os v o h).version k

pub parts_told : (os : Objects) (v : Versions) (o : Oid) → Keeps os v → parts_kept (kept_of os o) ≡ parts_of v o
unfolding parts_of version_of
parts_told os v o h =
    let s = same_told os v o h in
    let keys : newer (kept_of os o).whole (kept_of os o).keys ≡ newer (whole_noted v.base v.noted o) (rows (noted_or v.base v.noted o) (parts_noted v.noted o (base_parts v.base o))) = ap (λ (w : ℕ). newer w (kept_of os o).keys) s.whole ∙ sym s.shown in
    λ i. record { whole = s.whole i; keys = keys i }
