-- What is kept of lists decides what is asked of a transaction alone.
use Rattle.std.proofs.Common.{◌≡◌, ℕ, suc, ◌+◌, ◌*◌, ◌<◌, ◌≤◌, zero, cond, List, [], ◌∷◌, Bool, true, false, refl, sym, ap, subst, ◌∙◌, length, get_or, take, drop, map, arith}
use Rattle.std.specs.Prelude.{◌&&◌, ◌||◌, ◌==◌, not, nat_lt, nat_le, filter, if◌then◌else◌}
use Rattle.std.specs.List.{list_any, list_all}
use Rattle.std.proofs.lemmas.Bool.Decides.{nat_tests}
use Rattle.tg_base.specs.declared.ids.Oid.{Oid}
use Rattle.tg_base.specs.declared.marks.Part.{Part}
use Rattle.tg_kind.specs.Meaning.{Meaning}
use Rattle.tg_model.specs.declared.trace.What.TheVariants as told
use Rattle.tg_model.specs.Kinds.{WhatOf, MarkOf, DoneOf}
use Rattle.tg_model.specs.Stores.{History, has_stamp, changes}
use Rattle.tg_model.specs.Traces.{Trace, put_of, puts_of}
use Rattle.tg_audit.proofs.Lists.{any_same}
use Rattle.tg_audit.proofs.Windows.{cut_kept, length_map}
use Rattle.tg_audit.proofs.Writing.{puts_alike}
use Rattle.tg_audit.specs.Judging.{Test, is_of, passes, meets, are_same, entry_of, only_here, commits, causes}
use Rattle.tg_audit.specs.Places.{Windows, window_of, key, cut, AreWindows, AreWithin}
use Rattle.tg_audit.specs.Runs.{mark_key, entry_key, stamp_of, HasMarks, HasEntries, HasStamps, Covers}

-- a test that no item passes that isn't kept
any_step : {X : Type 0} (p q : X → Bool) (x : X) (xs : List X) (b : Bool) → p x ≡ b → (p x ≡ false → q x ≡ false) → (q x || list_any q (filter p xs)) ≡ (list_any q (cond b (x ∷ filter p xs) (filter p xs)))
any_step p q x xs true e only = refl
any_step p q x xs false e only = ap (λ b. b || list_any q (filter p xs)) (only e)

any_kept : {X : Type 0} (p q : X → Bool) → ((x : X) → p x ≡ false → q x ≡ false) → (xs : List X) → list_any q xs ≡ list_any q (filter p xs)
any_kept p q only [] = refl
any_kept p q only (x ∷ xs) = ap (λ b. q x || b) (any_kept p q only xs) ∙ any_step p q x xs (p x) refl (only x)

pub any_alike : {X : Type 0} (p q : X → Bool) → ((x : X) → p x ≡ false → q x ≡ false) → (xs ys : List X) → filter p xs ≡ filter p ys → list_any q xs ≡ list_any q ys
any_alike p q only xs ys same = any_kept p q only xs ∙ ap (list_any q) same ∙ sym (any_kept p q only ys)

all_step : {X : Type 0} (p q : X → Bool) (x : X) (xs : List X) (b : Bool) → p x ≡ b → (p x ≡ false → q x ≡ true) → (q x && list_all q (filter p xs)) ≡ (list_all q (cond b (x ∷ filter p xs) (filter p xs)))
all_step p q x xs true e only = refl
all_step p q x xs false e only = ap (λ b. b && list_all q (filter p xs)) (only e)

all_kept : {X : Type 0} (p q : X → Bool) → ((x : X) → p x ≡ false → q x ≡ true) → (xs : List X) → list_all q xs ≡ list_all q (filter p xs)
all_kept p q only [] = refl
all_kept p q only (x ∷ xs) = ap (λ b. q x && b) (all_kept p q only xs) ∙ all_step p q x xs (p x) refl (only x)

pub all_alike : {X : Type 0} (p q : X → Bool) → ((x : X) → p x ≡ false → q x ≡ true) → (xs ys : List X) → filter p xs ≡ filter p ys → list_all q xs ≡ list_all q ys
all_alike p q only xs ys same = all_kept p q only xs ∙ ap (list_all q) same ∙ sym (all_kept p q only ys)

and_false : (a b : Bool) → a ≡ false → (a && b) ≡ false
and_false true b e = absurd (grind (arith, e))
and_false false b e = refl

pub take_whole : {X : Type 0} (xs : List X) → take (length xs) xs ≡ xs
take_whole [] = refl
take_whole {X} (x ∷ xs) = ap (λ (ys : List X). x ∷ ys) (take_whole xs)

same_numbers : (a b c d : ℕ) → ((a == b) && (c == d)) ≡ true → a * 4294967296 + c ≡ b * 4294967296 + d
same_numbers a b c d e = grind (arith, nat_tests, e)

module _ (m : Meaning) where
  of_key : (k x : ℕ) (t : MarkOf m) → is_of m k x t ≡ true → mark_key m t ≡ key k x
  of_key k x t e = same_numbers t.client k t.tx x e

  entry_of_key : (k x : ℕ) (d : DoneOf m) → entry_of m k x d ≡ true → entry_key m d ≡ key k x
  entry_of_key k x d e = same_numbers d.client k d.number x e

  stamp_key : (p : ℕ) (d : DoneOf m) → has_stamp m p d ≡ true → stamp_of m d ≡ p
  stamp_key p d e = grind (arith, nat_tests, e)

  -- windows keep a transaction's replies and entries, and those with a stamp
  pub marks_kept : (trace : Trace m) (w : Windows) (k x n : ℕ) → n ≤ length trace → AreWindows (map (mark_key m) trace) (length (map (mark_key m) trace)) w
      → filter (is_of m k x) (cut (window_of w (key k x)) n trace) ≡ filter (is_of m k x) (take n trace)
  marks_kept trace w k x n h are = cut_kept (is_of m k x) (mark_key m) (key k x) (of_key k x) trace w n h are

  pub entries_kept : (h : History m) (w : Windows) (k x n : ℕ) → n ≤ length h → AreWindows (map (entry_key m) h) (length (map (entry_key m) h)) w
      → filter (entry_of m k x) (cut (window_of w (key k x)) n h) ≡ filter (entry_of m k x) (take n h)
  entries_kept h w k x n l are = cut_kept (entry_of m k x) (entry_key m) (key k x) (entry_of_key k x) h w n l are

  pub stamps_kept : (h : History m) (w : Windows) (p : ℕ) → AreWindows (map (stamp_of m) h) (length (map (stamp_of m) h)) w
      → filter (has_stamp m p) (cut (window_of w p) (length h) h) ≡ filter (has_stamp m p) h
  stamps_kept h w p are = cut_kept (has_stamp m p) (stamp_of m) p (stamp_key p) h w (length h) (omega arith) are ∙ ap (filter (has_stamp m p)) (take_whole h)

  -- What is asked of a transaction is asked of its replies.

  others_pass : (k x : ℕ) (q : Test m) (t : MarkOf m) → is_of m k x t ≡ false → passes m k x q t ≡ true
  others_pass k x q t e = grind (arith, e)

  others_fail : (k x : ℕ) (q : Test m) (t : MarkOf m) → is_of m k x t ≡ false → meets m k x q t ≡ false
  others_fail k x q t e = grind (arith, e)

  pub passes_alike : (k x : ℕ) (q : Test m) (xs ys : Trace m) → filter (is_of m k x) xs ≡ filter (is_of m k x) ys → list_all (passes m k x q) xs ≡ list_all (passes m k x q) ys
  passes_alike k x q xs ys same = all_alike (is_of m k x) (passes m k x q) (others_pass k x q) xs ys same

  pub meets_alike : (k x : ℕ) (q : Test m) (xs ys : Trace m) → filter (is_of m k x) xs ≡ filter (is_of m k x) ys → list_any (meets m k x q) xs ≡ list_any (meets m k x q) ys
  meets_alike k x q xs ys same = any_alike (is_of m k x) (meets m k x q) (others_fail k x q) xs ys same

  -- a test of replies of a transaction and of what is told
  pub tells_alike : (k x : ℕ) (q : WhatOf m → Bool) (xs ys : Trace m) → filter (is_of m k x) xs ≡ filter (is_of m k x) ys
      → list_any (λ (t : MarkOf m). is_of m k x t && q t.what) xs ≡ list_any (λ (t : MarkOf m). is_of m k x t && q t.what) ys
  tells_alike k x q xs ys same = any_alike (is_of m k x) (λ (t : MarkOf m). is_of m k x t && q t.what) (λ t e. and_false (is_of m k x t) (q t.what) e) xs ys same

  -- What is asked of entries.

  pub entries_alike : (k x : ℕ) (xs ys : History m) → filter (entry_of m k x) xs ≡ filter (entry_of m k x) ys → list_any (entry_of m k x) xs ≡ list_any (entry_of m k x) ys
  entries_alike k x xs ys same = any_alike (entry_of m k x) (entry_of m k x) (λ d e. e) xs ys same

  others_here : (k x p : ℕ) (d : DoneOf m) → entry_of m k x d ≡ false → only_here m k x p d ≡ true
  others_here k x p d e = ap (λ b. not b || (d.stamp == p)) e

  pub only_alike : (k x p : ℕ) (xs ys : History m) → filter (entry_of m k x) xs ≡ filter (entry_of m k x) ys → list_all (only_here m k x p) xs ≡ list_all (only_here m k x p) ys
  only_alike k x p xs ys same = all_alike (entry_of m k x) (only_here m k x p) (others_here k x p) xs ys same

  not_both : (a b c : Bool) → b ≡ false → (a && b && c) ≡ false
  not_both true b c e = and_false b c e
  not_both false b c e = refl

  pub commits_alike : (ops : m.op → m.op → Bool) (ts us : Trace m) (k x p : ℕ) (xs ys : History m) → filter (is_of m k x) ts ≡ filter (is_of m k x) us
      → filter (entry_of m k x) xs ≡ filter (entry_of m k x) ys → list_any (commits m ops ts k x p) xs ≡ list_any (commits m ops us k x p) ys
  commits_alike ops ts us k x p xs ys told same =
      any_same (commits m ops ts k x p) (commits m ops us k x p) (λ d. ap (λ (ws : List (Oid × m.op)). (d.stamp == p) && entry_of m k x d && are_same m ops d.writes ws) (puts_alike m k x ts us told)) xs
      ∙ any_alike (entry_of m k x) (commits m ops us k x p) (λ d e. not_both (d.stamp == p) (entry_of m k x d) (are_same m ops d.writes (puts_of m us k x)) e) xs ys same

  pub stamps_alike : (p : ℕ) (xs ys : History m) → filter (has_stamp m p) xs ≡ filter (has_stamp m p) ys → list_any (has_stamp m p) xs ≡ list_any (has_stamp m p) ys
  stamps_alike p xs ys same = any_alike (has_stamp m p) (has_stamp m p) (λ d e. e) xs ys same

  one_before : (s p now : ℕ) → p + 1 ≡ now → (s == p) ≡ false → (s + 1 == now) ≡ false
  one_before s p now h e = grind (arith, nat_tests, h, e)

  first_of_four : (a b c d : Bool) → a ≡ false → (a && b && c && d) ≡ false
  first_of_four a b c d e = and_false (a && b && c) d (and_false (a && b) c (and_false a b e))

  pub causes_alike : (p q : ℕ) (o : Oid) (part : Part) (now t : ℕ) (xs ys : History m) → q + 1 ≡ now → filter (has_stamp m q) xs ≡ filter (has_stamp m q) ys
      → list_any (causes m p o part now t) xs ≡ list_any (causes m p o part now t) ys
  causes_alike p q o part now t xs ys h same =
      any_alike (has_stamp m q) (causes m p o part now t)
      (λ d e. first_of_four (d.stamp + 1 == now) (changes m d o part) (nat_le t d.stamp) (nat_lt d.stamp p) (one_before d.stamp q now h e)) xs ys same

  no_version : (s : ℕ) → (s + 1 == 0) ≡ false
  no_version s = grind (arith, nat_tests)

  pub causes_none : (p : ℕ) (o : Oid) (part : Part) (now t : ℕ) (xs : History m) → now ≡ 0 → false ≡ list_any (causes m p o part now t) xs
  causes_none p o part now t [] e = refl
  causes_none p o part now t (d ∷ ds) e =
      causes_none p o part now t ds e
      ∙ sym (ap (λ b. b || list_any (causes m p o part now t) ds)
      (first_of_four (d.stamp + 1 == now) (changes m d o part) (nat_le t d.stamp) (nat_lt d.stamp p) (ap (λ (n : ℕ). d.stamp + 1 == n) e ∙ no_version d.stamp)))

-- windows of items' keys don't go past the items
pub within_items : {X : Type 0} (f : X → ℕ) (xs : List X) (w : Windows) → AreWindows (map f xs) (length (map f xs)) w → AreWithin w (length xs)
within_items f xs w are q =
    let within : (window_of w q).1 ≤ length (map f xs) = (are q).within in
    subst (λ (n : ℕ). (window_of w q).1 ≤ n) (length_map f xs) within

-- Items of other keys pass a test.

pub front_passes : {X : Type 0} (p : X → Bool) (f : X → ℕ) (q : ℕ) → ((x : X) → (f x ≡ q → ⊥) → p x ≡ true) → (xs : List X) (n : ℕ)
    → ((j : ℕ) → j < n → j < length xs → get_or (map f xs) j 0 ≡ q → ⊥) → list_all p (drop n xs) ≡ list_all p xs
front_passes p f q others [] zero out = refl
front_passes p f q others [] (suc n) out = refl
front_passes p f q others (x ∷ xs) zero out = refl
front_passes p f q others (x ∷ xs) (suc n) out =
    front_passes p f q others xs n (λ j h l e. out (suc j) (omega (arith, h)) (omega (arith, l)) e)
    ∙ sym (ap (λ b. b && list_all p xs) (others x (λ e. out 0 (omega arith) (omega arith) e)))

pub back_passes : {X : Type 0} (p : X → Bool) (f : X → ℕ) (q : ℕ) → ((x : X) → (f x ≡ q → ⊥) → p x ≡ true) → (xs : List X) (n : ℕ)
    → ((j : ℕ) → n ≤ j → j < length xs → get_or (map f xs) j 0 ≡ q → ⊥) → true ≡ list_all p (drop n xs)
back_passes p f q others [] zero out = refl
back_passes p f q others [] (suc n) out = refl
back_passes p f q others (x ∷ xs) zero out =
    back_passes p f q others xs zero (λ j h l e. out (suc j) (omega arith) (omega (arith, l)) e)
    ∙ sym (ap (λ b. b && list_all p xs) (others x (λ e. out 0 (omega arith) (omega arith) e)))
back_passes p f q others (x ∷ xs) (suc n) out = back_passes p f q others xs n (λ j h l e. out (suc j) (omega (arith, h)) (omega (arith, l)) e)

module _ (m : Meaning) where
  other_by : (k x : ℕ) (q : Test m) (t : MarkOf m) (b : Bool) → is_of m k x t ≡ b → (mark_key m t ≡ key k x → ⊥) → passes m k x q t ≡ true
  other_by k x q t true e apart = absurd (apart (of_key m k x t e))
  other_by k x q t false e apart = others_pass m k x q t e

  pub front_hold : (k x : ℕ) (q : Test m) (ts : Trace m) (w : Windows) → AreWindows (map (mark_key m) ts) (length (map (mark_key m) ts)) w
      → list_all (passes m k x q) (drop (window_of w (key k x)).0 ts) ≡ list_all (passes m k x q) ts
  front_hold k x q ts w are =
      front_passes (passes m k x q) (mark_key m) (key k x) (λ t apart. other_by k x q t (is_of m k x t) refl apart) ts (window_of w (key k x)).0 (λ j h l e. (are (key k x)).before j h e)

  pub back_hold : (k x : ℕ) (q : Test m) (ts : Trace m) (w : Windows) (n : ℕ) → AreWindows (map (mark_key m) ts) (length (map (mark_key m) ts)) w → (window_of w (key k x)).1 ≤ n
      → true ≡ list_all (passes m k x q) (drop n ts)
  back_hold k x q ts w n are most =
      back_passes (passes m k x q) (mark_key m) (key k x) (λ t apart. other_by k x q t (is_of m k x t) refl apart) ts n
      (λ j h l e. (are (key k x)).after j (omega (arith, h, most)) (subst (λ (i : ℕ). j < i) (sym (length_map (mark_key m) ts)) l) e)

  pub covers : (k x : ℕ) (ts : Trace m) (w : Windows) (r : ℕ × ℕ) → AreWindows (map (mark_key m) ts) (length (map (mark_key m) ts)) w → r ≡ window_of w (key k x) → Covers m ts k x r
  covers k x ts w r are e =
      subst (Covers m ts k x) (sym e) (record {
        within = within_items (mark_key m) ts w are (key k x);
        front = λ q. front_hold k x q ts w are;
        back = λ q n most. back_hold k x q ts w n are most;
      })
