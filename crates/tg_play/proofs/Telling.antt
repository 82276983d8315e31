-- What is told of an object's parts is what a checkpoint may tell of them.
use Rattle.std.specs.Prelude.{◌≡◌, ℕ, ◌≤◌, Bool, true, false, cond, not, ◌&&◌, nat_lt, nat_le, List, [], ◌∷◌, Option, Some, None, Result, Ok, Err, IfOk, refl}
use Rattle.std.specs.List.{list_all}
use Rattle.std.specs.Ordering.{is_lt}
use Rattle.std.proofs.Common.{sym, ap, ◌∙◌, subst, arith}
use Rattle.tg_base.specs.Parts.{part_cmp}
use Rattle.tg_base.specs.declared.ids.Oid.{Oid}
use Rattle.tg_base.specs.declared.marks.Part.{Part}
use Rattle.tg_base.specs.declared.marks.Part.TheVariants.{All, Text, Num}
use Rattle.tg_entry.specs.Reads.{is_all}
use Rattle.tg_entry.specs.Records.{keys_rise}
use Rattle.tg_kind.specs.Parts.{is_whole}
use Rattle.tg_base.specs.Orders.{oid_eq}
use Rattle.tg_protocol.specs.Versions.{Versions, Based, PartVersion, version_of, whole_noted, with_part, parts_noted, parts_based, base_parts, Parts, parts_of}
use Rattle.tg_vers.specs.Kept as vers
use Rattle.tg_vers.specs.Kept.{Objects, Keeps, kept_of, version_kept, parts_kept}
use Rattle.tg_vers.proofs.Keeping.{version_told, parts_told}
use Rattle.tg_vers.proofs.Rows.{Rising, EntriesAbove, EntriesRise, rows, newer, rising_with, rows_rise}
use Rattle.tg_play.specs.Kept.{own}
use Rattle.tg_play.specs.Lawful.{AreKeys, is_named, is_told, is_shown, IsLawful}
use Rattle.tg_play.proofs.Own.{own_version, own_parts}
use Rattle.tg_play.proofs.Truths.{both, first_true, rest_true, four}

-- ---- parts that were noted or named rise, and the whole isn't one of them

noted_rise : (ns : List PartVersion) (o : Oid) (ks : List Part) → Rising ks → Rising (parts_noted ns o ks)
noted_rise [] o ks h = h
noted_rise (n ∷ ns) o ks h = by (noted_rise ns o ks h) (oid_eq n.oid o) (is_whole n.part) refl
  where
    by : Rising (parts_noted ns o ks) → (s t : Bool) → is_whole n.part ≡ t → Rising (cond (s && not t) (with_part n.part (parts_noted ns o ks)) (parts_noted ns o ks))
    by more true true e = more
    by more true false e = rising_with n.part (parts_noted ns o ks) e more
    by more false t e = more

named_rise : (keys : List (Part × ℕ)) → Rising (parts_based keys)
named_rise [] = tt
named_rise (x ∷ xs) = by (named_rise xs) (is_whole x.0) refl
  where
    by : Rising (parts_based xs) → (t : Bool) → is_whole x.0 ≡ t → Rising (cond t (parts_based xs) (with_part x.0 (parts_based xs)))
    by more true e = more
    by more false e = rising_with x.0 (parts_based xs) e more

base_rise : (b : Option Based) (o : Oid) → Rising (base_parts b o)
base_rise None o = tt
base_rise (Some b) o = by (oid_eq b.oid o)
  where
    by : (t : Bool) → Rising (cond t (parts_based b.keys) [])
    by true = named_rise b.keys
    by false = tt

-- ---- entries above a version

newer_over : (k : Part) (whole : ℕ) (xs : List (Part × ℕ)) → EntriesAbove k xs → EntriesAbove k (newer whole xs)
newer_over k whole [] h = tt
newer_over k whole (x ∷ xs) h = by (newer_over k whole xs h.1) (nat_lt whole x.1)
  where
    by : EntriesAbove k (newer whole xs) → (t : Bool) → EntriesAbove k (cond t (x ∷ newer whole xs) (newer whole xs))
    by more true = (h.0, more)
    by more false = more

newer_rise : (whole : ℕ) (xs : List (Part × ℕ)) → EntriesRise xs → EntriesRise (newer whole xs)
newer_rise whole [] h = tt
newer_rise whole (x ∷ xs) h = by (newer_rise whole xs h.1) (nat_lt whole x.1)
  where
    by : EntriesRise (newer whole xs) → (t : Bool) → EntriesRise (cond t (x ∷ newer whole xs) (newer whole xs))
    by more true = (newer_over x.0 whole xs h.0, more)
    by more false = more

in_order : (xs : List (Part × ℕ)) → EntriesRise xs → keys_rise xs ≡ true
in_order [] h = refl
in_order (x ∷ []) h = refl
in_order (x ∷ y ∷ ys) h = both (is_lt (part_cmp x.0 y.0)) (keys_rise (y ∷ ys)) (ap is_lt h.0.0) (in_order (y ∷ ys) h.1)

newer_told : (version whole : ℕ) (xs : List (Part × ℕ)) → list_all (is_told version) xs ≡ true → list_all (is_told version) (newer whole xs) ≡ true
newer_told version whole [] h = refl
newer_told version whole (x ∷ xs) h = by (newer_told version whole xs (rest_true (is_told version x) (list_all (is_told version) xs) h)) (nat_lt whole x.1)
  where
    by : list_all (is_told version) (newer whole xs) ≡ true → (t : Bool) → list_all (is_told version) (cond t (x ∷ newer whole xs) (newer whole xs)) ≡ true
    by more true = both (is_told version x) (list_all (is_told version) (newer whole xs)) (first_true (is_told version x) (list_all (is_told version) xs) h) more
    by more false = more

-- ---- each of them

not_all : (p : Part) → is_whole p ≡ false → not (is_all p) ≡ true
not_all All e = absurd cc
not_all (Text t) e = refl
not_all (Num n) e = refl

keys_of : (whole version : ℕ) (f : Part → ℕ) (ps : List Part) → Rising ps → list_all (is_told version) (newer whole (rows f ps)) ≡ true → list_all (is_shown whole version) (newer whole (rows f ps)) ≡ true
keys_of whole version f [] h e = refl
keys_of whole version f (p ∷ ps) h e = by (λ d. keys_of whole version f ps h.1.1 d) (nat_lt whole (f p)) refl e
  where
    by : (list_all (is_told version) (newer whole (rows f ps)) ≡ true → list_all (is_shown whole version) (newer whole (rows f ps)) ≡ true) → (t : Bool) → nat_lt whole (f p) ≡ t
        → list_all (is_told version) (cond t ((p, f p) ∷ newer whole (rows f ps)) (newer whole (rows f ps))) ≡ true
        → list_all (is_shown whole version) (cond t ((p, f p) ∷ newer whole (rows f ps)) (newer whole (rows f ps))) ≡ true
    by more true d a =
        let here : is_told version (p, f p) ≡ true = first_true (is_told version (p, f p)) (list_all (is_told version) (newer whole (rows f ps))) a in
        both (is_shown whole version (p, f p)) (list_all (is_shown whole version) (newer whole (rows f ps)))
        (four (is_named p) (not (is_all p)) (nat_lt whole (f p)) (nat_le (f p) version) (first_true (is_named p) (nat_le (f p) version) here) (not_all p h.0) d (rest_true (is_named p) (nat_le (f p) version) here))
        (more (rest_true (is_told version (p, f p)) (list_all (is_told version) (newer whole (rows f ps))) a))
    by more false d a = more a

-- ---- of versions

keys_told : (v : Versions) (o : Oid) (version : ℕ) → (parts_of v o).whole ≤ version → list_all (is_told version) (parts_of v o).keys ≡ true → AreKeys version (parts_of v o).whole (parts_of v o).keys
unfolding parts_of
keys_told v o version below each =
    let rise : Rising (parts_noted v.noted o (base_parts v.base o)) = noted_rise v.noted o (base_parts v.base o) (base_rise v.base o) in
    let whole : ℕ = whole_noted v.base v.noted o in
    let f : Part → ℕ = λ k. version_of v o k in
    record {
      below = below;
      each = keys_of whole version f (parts_noted v.noted o (base_parts v.base o)) rise each;
      rising = in_order (newer whole (rows f (parts_noted v.noted o (base_parts v.base o)))) (newer_rise whole (rows f (parts_noted v.noted o (base_parts v.base o))) (rows_rise f (parts_noted v.noted o (base_parts v.base o)) rise));
    }

abbrev pub all_changes : Option Based → List PartVersion → Versions
all_changes b ns = record { base = b; noted = ns }

-- what lawful versions tell of an object's parts
pub parts_lawful : (o : Oid) (os : Objects) (h : IsLawful o os)
    → AreKeys (kept_of os o).version (parts_of (all_changes h.base h.changes) o).whole (parts_of (all_changes h.base h.changes) o).keys
parts_lawful o os h =
    let k : vers.Kept = kept_of os o in
    let same : parts_kept (kept_of os o) ≡ parts_of (all_changes h.base h.changes) o = parts_told os (own h.base o h.changes) o h.keeps ∙ own_parts h.base h.changes o in
    keys_told (all_changes h.base h.changes) o (kept_of os o).version
    (subst (λ (p : Parts). p.whole ≤ (kept_of os o).version) same h.told.below)
    (subst (λ (p : Parts). list_all (is_told (kept_of os o).version) p.keys ≡ true) same (newer_told (kept_of os o).version (kept_of os o).whole (kept_of os o).keys h.told.each))

-- and of its versions
pub version_lawful : (o : Oid) (os : Objects) (k : Part) (h : IsLawful o os) → version_of (all_changes h.base h.changes) o k ≡ version_kept (kept_of os o) k
version_lawful o os k h = sym (version_told os (own h.base o h.changes) o k h.keeps ∙ own_version h.base h.changes o k)

-- of an object that isn't hosted nothing is told
pub none_told : (version : ℕ) (keys : List (Part × ℕ)) → keys ≡ [] → AreKeys version 0 keys
none_told version keys is = subst (λ (ks : List (Part × ℕ)). AreKeys version 0 ks) (sym is) (record { below = omega arith; each = refl; rising = refl })

abbrev pub Tells : Type 0 → Type 0
Tells E = Result (ℕ × List (Part × ℕ)) E

pub keys_kept : {E : Type 0} (o : Oid) (os : Objects) (version : ℕ) (h : IsLawful o os) (r : Tells E) → (kept_of os o).version ≡ version
    → IfOk r (λ p. p.0 ≡ (parts_of (all_changes h.base h.changes) o).whole) → IfOk r (λ p. p.1 ≡ (parts_of (all_changes h.base h.changes) o).keys) → IfOk r (λ p. AreKeys version p.0 p.1)
keys_kept o os version h (Ok p) is whole keys =
    subst (λ (n : ℕ). AreKeys n p.0 p.1) is
    (subst (λ (n : ℕ). AreKeys (kept_of os o).version n p.1) (sym whole) (subst (λ (ks : List (Part × ℕ)). AreKeys (kept_of os o).version (parts_of (all_changes h.base h.changes) o).whole ks) (sym keys) (parts_lawful o os h)))
keys_kept o os version h (Err e) is whole keys = tt
