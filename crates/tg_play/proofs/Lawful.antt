-- Versions that a checkpoint may tell, after a change.
use Rattle.std.specs.Prelude.{◌≡◌, ℕ, ◌+◌, ◌≤◌, Bool, true, false, cond, nat_le, List, [], ◌∷◌, ◌++◌, Some, None, unwrap_or, refl}
use Rattle.std.specs.BTreeMap.{insert_entry}
use Rattle.std.specs.Cmp.{tied_itself}
use Rattle.std.specs.List.{list_all}
use Rattle.std.specs.Ordering.{is_eq, match_ordering}
use Rattle.std.specs.declared.cmp.Ordering.{Ordering}
use Rattle.std.specs.declared.cmp.Ordering.TheVariants.{Less, Equal, Greater}
use Rattle.std.proofs.Common.{sym, ap, ◌∙◌, subst, arith}
use Rattle.tg_base.specs.Parts.{part_cmp}
use Rattle.tg_base.specs.declared.ids.Oid.{Oid}
use Rattle.tg_base.specs.declared.marks.Part.{Part}
use Rattle.tg_base.specs.declared.marks.Part.TheVariants.{All, Text, Num}
use Rattle.tg_kind.specs.Parts.{is_whole}
use Rattle.tg_protocol.specs.Versions.{Versions, no_versions, based, with_change}
use Rattle.tg_vers.specs.Kept as vers
use Rattle.tg_vers.specs.Kept.{Objects, Keeps, unchanged, kept_of, keys_kept, based_kept, noted_in, noted}
use Rattle.tg_vers.proofs.Keeping.{kept_noted}
use Rattle.tg_play.specs.declared.base.Base.{Base}
use Rattle.tg_play.specs.Kept.{own}
use Rattle.tg_play.specs.Lawful.{is_named, is_told, IsTold, IsLawful, IsLawfulBase, AreLawfulBases}
use Rattle.tg_play.proofs.Hosting.{oid_total, oid_itself, changed_keeps}
use Rattle.tg_play.proofs.Truths.{both, first_true, rest_true, within_itself, within_more}

told_more : (v w : ℕ) (xs : List (Part × ℕ)) → v ≤ w → list_all (is_told v) xs ≡ true → list_all (is_told w) xs ≡ true
told_more v w [] le h = refl
told_more v w (x ∷ xs) le h =
    let here : is_told v x ≡ true = first_true (is_told v x) (list_all (is_told v) xs) h in
    both (is_told w x) (list_all (is_told w) xs)
    (both (is_named x.0) (nat_le x.1 w) (first_true (is_named x.0) (nat_le x.1 v) here) (within_more x.1 v w le (rest_true (is_named x.0) (nat_le x.1 v) here)))
    (told_more v w xs le (rest_true (is_told v x) (list_all (is_told v) xs) h))

-- a key that is put in
told_with : (v : ℕ) (k : Part) (n : ℕ) (xs : List (Part × ℕ)) → is_told v (k, n) ≡ true → list_all (is_told v) xs ≡ true → list_all (is_told v) (insert_entry part_cmp xs k n) ≡ true
told_with v k n [] s h = both (is_told v (k, n)) true s refl
told_with v k n (x ∷ xs) s h = by (part_cmp k x.0) (told_with v k n xs s rest)
  where
    first : is_told v x ≡ true
    first = first_true (is_told v x) (list_all (is_told v) xs) h

    rest : list_all (is_told v) xs ≡ true
    rest = rest_true (is_told v x) (list_all (is_told v) xs) h

    by : (r : Ordering) → list_all (is_told v) (insert_entry part_cmp xs k n) ≡ true
        → list_all (is_told v) (match_ordering r ((k, n) ∷ x ∷ xs) ((x.0, n) ∷ xs) (x ∷ insert_entry part_cmp xs k n)) ≡ true
    by Less more = both (is_told v (k, n)) (list_all (is_told v) (x ∷ xs)) s h
    by Equal more = both (is_told v (x.0, n)) (list_all (is_told v) xs) (both (is_named x.0) (nat_le n v) (first_true (is_named x.0) (nat_le x.1 v) first) (rest_true (is_named k) (nat_le n v) s)) rest
    by Greater more = both (is_told v x) (list_all (is_told v) (insert_entry part_cmp xs k n)) first more

-- one whose version is that of its object
told_now : (k : Part) (n : ℕ) → is_named k ≡ true → is_told n (k, n) ≡ true
told_now k n s = both (is_named k) (nat_le n n) s (within_itself n)

noted_told : (k : vers.Kept) (p : Part) (n : ℕ) → k.version ≤ n → is_named p ≡ true → IsTold k → IsTold (noted_in k p n)
noted_told k All n le s h = record { below = omega arith; each = refl }
noted_told k (Text t) n le s h =
    let low : k.whole ≤ k.version = h.below in
    record { below = omega (arith, low, le); each = told_with n (Text t) n k.keys (told_now (Text t) n s) (told_more k.version n k.keys le h.each) }
noted_told k (Num m) n le s h =
    let low : k.whole ≤ k.version = h.below in
    record { below = omega (arith, low, le); each = told_with n (Num m) n k.keys (told_now (Num m) n s) (told_more k.version n k.keys le h.each) }

noted_version : (k : vers.Kept) (p : Part) (n : ℕ) → (noted_in k p n).version ≡ n
noted_version k All n = refl
noted_version k (Text t) n = refl
noted_version k (Num m) n = refl

-- what is kept of an object after a change of it
kept_after : (o : Oid) (os new : Objects) (v : Versions) (p : Part) (pos : ℕ) → Keeps os v → Keeps new (with_change v o p pos) → kept_of new o ≡ noted_in (kept_of os o) p (pos + 1)
unfolding with_change
kept_after o os new v p pos k n =
    ap (λ (xs : Objects). kept_of xs o) (n.kept ∙ ap (λ (xs : Objects). noted xs o p (pos + 1)) (sym k.kept))
    ∙ kept_noted os o p (pos + 1) o
    ∙ ap (λ (b : Bool). cond b (noted_in (kept_of os o) p (pos + 1)) (kept_of os o)) (oid_itself o)

-- versions that keep those of the definitions with a change more
abbrev pub Changes : Oid → Objects → Part → ℕ → Objects → Type 0
Changes o os p pos new = (v : Versions) → Keeps os v → Keeps new (with_change v o p pos)

pub version_after : (o : Oid) (os new : Objects) (p : Part) (pos : ℕ) → IsLawful o os → Changes o os p pos new → (kept_of new o).version ≡ pos + 1
version_after o os new p pos h made =
    ap (λ (k : vers.Kept). k.version) (kept_after o os new (own h.base o h.changes) p pos h.keeps (made (own h.base o h.changes) h.keeps))
    ∙ noted_version (kept_of os o) p (pos + 1)

pub change_lawful : (o : Oid) (os new : Objects) (p : Part) (pos : ℕ) → (kept_of os o).version ≤ pos + 1 → is_named p ≡ true → IsLawful o os → Changes o os p pos new → IsLawful o new
change_lawful o os new p pos le s h made = record {
  base = h.base;
  changes = record { oid = o; part = p; version = pos + 1 } ∷ h.changes;
  keeps = changed_keeps o new h.base h.changes p p pos refl (made (own h.base o h.changes) h.keeps);
  told = subst IsTold (sym (kept_after o os new (own h.base o h.changes) p pos h.keeps (made (own h.base o h.changes) h.keeps))) (noted_told (kept_of os o) p (pos + 1) le s h.told);
}

-- ---- the versions that a base tells

keys_told : (v : ℕ) (xs : List (Part × ℕ)) → list_all (is_told v) xs ≡ true → list_all (is_told v) (keys_kept xs) ≡ true
keys_told v [] h = refl
keys_told v (x ∷ xs) h = by (is_whole x.0) (keys_told v xs (rest_true (is_told v x) (list_all (is_told v) xs) h))
  where
    by : (t : Bool) → list_all (is_told v) (keys_kept xs) ≡ true → list_all (is_told v) (cond t (keys_kept xs) (insert_entry part_cmp (keys_kept xs) x.0 x.1)) ≡ true
    by true more = more
    by false more = told_with v x.0 x.1 (keys_kept xs) (first_true (is_told v x) (list_all (is_told v) xs) h) more

base_found : (o : Oid) (os : Objects) (version whole : ℕ) (keys : List (Part × ℕ)) → Keeps os (based o version whole keys) → kept_of os o ≡ based_kept version whole keys
unfolding based
base_found o os version whole keys k =
    ap (λ (xs : Objects). kept_of xs o) k.kept
    ∙ ap (λ (r : Ordering). unwrap_or (cond (is_eq r) (Some (based_kept version whole keys)) None) unchanged) (tied_itself oid_total o)

pub based_version : (o : Oid) (os : Objects) (version whole : ℕ) (keys : List (Part × ℕ)) → Keeps os (based o version whole keys) → (kept_of os o).version ≡ version
based_version o os version whole keys k = ap (λ (x : vers.Kept). x.version) (base_found o os version whole keys k)

pub based_lawful : (o : Oid) (os : Objects) (version whole : ℕ) (keys : List (Part × ℕ)) → Keeps os (based o version whole keys) → whole ≤ version → list_all (is_told version) keys ≡ true → IsLawful o os
unfolding based
based_lawful o os version whole keys k low each = record {
  base = Some (record { oid = o; version = version; whole = whole; keys = keys });
  changes = [];
  keeps = k;
  told = subst IsTold (sym (base_found o os version whole keys k)) (record { below = low; each = keys_told version keys each });
}

none_found : (o : Oid) (os : Objects) → Keeps os no_versions → kept_of os o ≡ unchanged
unfolding no_versions
none_found o os k = ap (λ (xs : Objects). kept_of xs o) k.kept

pub fresh_version : (o : Oid) (os : Objects) → Keeps os no_versions → (kept_of os o).version ≡ 0
fresh_version o os k = ap (λ (x : vers.Kept). x.version) (none_found o os k)

pub fresh_lawful : (o : Oid) (os : Objects) → Keeps os no_versions → IsLawful o os
unfolding no_versions
fresh_lawful o os k = record { base = None; changes = []; keeps = k; told = subst IsTold (sym (none_found o os k)) (record { below = omega arith; each = refl }) }

-- ---- bases

module _ {S : Type 0} where
  pub base_begun : (b : Base S) (version whole : ℕ) (keys : List (Part × ℕ)) → Keeps b.vers (based b.oid version whole keys) → whole ≤ version → list_all (is_told version) keys ≡ true → version ≤ b.upto → IsLawfulBase b
  base_begun b version whole keys k low each reach = record {
    lawful = based_lawful b.oid b.vers version whole keys k low each;
    reach = subst (λ (n : ℕ). n ≤ b.upto) (sym (based_version b.oid b.vers version whole keys k)) reach;
  }

  pub base_fresh : (b : Base S) → Keeps b.vers no_versions → IsLawfulBase b
  base_fresh b k = record {
    lawful = fresh_lawful b.oid b.vers k;
    reach = subst (λ (n : ℕ). n ≤ b.upto) (sym (fresh_version b.oid b.vers k)) (omega arith);
  }

  -- one base alone, put into an empty list
  pub one_lawful : (bs new : List (Base S)) (b : Base S) → bs ≡ [] → new ≡ bs ++ b ∷ [] → IsLawfulBase b → AreLawfulBases new
  one_lawful bs new b none is k = subst (λ (xs : List (Base S)). AreLawfulBases xs) (sym (is ∙ ap (λ (xs : List (Base S)). xs ++ b ∷ []) none)) (k, tt)
