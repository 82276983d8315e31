-- The orders of objects and of reads, and the definitions' lists by them.
use Rattle.std.specs.Prelude.{◌≡◌, ℕ, suc, ◌+◌, ◌<◌, ◌≤◌, Bool, true, false, cond, ◌||◌, ◌&&◌, ◌==◌, nat_lt, List, [], ◌∷◌, ◌++◌, length, take, drop, refl}
use Rattle.std.specs.BTreeSet.{insert_key}
use Rattle.std.specs.Cmp.{IsTotalOrder, nat_cmp_total, nat_eq_equiv, on_total, then_total, unsigned_ties, unsigned_Decides, both_tied, eq_by_cmp_equiv}
use Rattle.std.specs.List.{list_any}
use Rattle.std.specs.Ordering.{is_eq, is_lt, ordering_then, match_ordering}
use Rattle.std.specs.declared.cmp.Ordering.{Ordering}
use Rattle.std.specs.declared.cmp.Ordering.TheVariants.{Less, Equal, Greater}
use Rattle.std.proofs.Common.{sym, ap, ◌∙◌, subst, arith, get_or, append_assoc, drop-cons, add-one}
use Rattle.std.proofs.lemmas.Bool.{true≢false}
use Rattle.std.proofs.lemmas.List.{take_more}
use Rattle.tg_base.specs.Orders.{oid_cmp, oid_eq, with_oid}
use Rattle.tg_base.specs.Parts.{part_cmp}
use Rattle.tg_base.specs.declared.ids.Oid.{Oid}
use Rattle.tg_base.specs.declared.marks.ReadMark.{ReadMark}
use Rattle.tg_entry.specs.declared.entry.WriteOp.{WriteOp}
use Rattle.tg_protocol.specs.Words.{part_lt}
use Rattle.tg_protocol.specs.Transactions.{same_part, has_read, read_before, with_read, tx_streams}
use Rattle.tg_tx.specs.Pendings.{read_cmp, Rising, has_key}
use Rattle.tg_tx.proofs.Sets.{by_order, rising_put, length_put, any_put, some_put}
use Rattle.tg_vers.proofs.Order.{part_total, part_eq_is, part_lt_is}

pub oid_total : IsTotalOrder oid_cmp
oid_total = on_total (λ (o : Oid). o.0) nat_cmp_total

pub read_total : IsTotalOrder read_cmp
read_total = then_total (on_total (λ (r : ReadMark). r.oid) oid_total) (on_total (λ (r : ReadMark). r.part) part_total)

pub below_then : (below level rest : Bool) (r : Ordering) → rest ≡ is_lt r → (below || (level && rest)) ≡ is_lt (ordering_then (cond below Less (cond level Equal Greater)) r)
below_then true level rest r e = refl
below_then false true rest r e = e
below_then false false rest r e = refl

pub below_alone : (below level : Bool) → below ≡ is_lt (cond below Less (cond level Equal Greater))
below_alone true level = refl
below_alone false true = refl
below_alone false false = refl

-- ---- reads

before_is : (a b : ReadMark) → read_before a b ≡ is_lt (read_cmp a b)
before_is a b = below_then (nat_lt a.oid.0 b.oid.0) (a.oid.0 == b.oid.0) (part_lt a.part b.part) (part_cmp a.part b.part) (part_lt_is a.part b.part)

same_is : (r x : ReadMark) → same_part x.oid x.part r ≡ is_eq (read_cmp r x)
same_is r x = both_tied _ _ (oid_cmp r.oid x.oid) (part_cmp r.part x.part) (unsigned_ties r.oid.0 x.oid.0) (part_eq_is r.part x.part)

pub with_read_is : (r : ReadMark) (xs : List ReadMark) → with_read r xs ≡ insert_key read_cmp xs r
with_read_is r [] = refl
with_read_is r (x ∷ xs) =
    ap (λ (b : Bool). cond b (r ∷ x ∷ xs) (cond (same_part x.oid x.part r) (x ∷ xs) (x ∷ with_read r xs))) (before_is r x)
    ∙ ap (λ (b : Bool). cond (is_lt (read_cmp r x)) (r ∷ x ∷ xs) (cond b (x ∷ xs) (x ∷ with_read r xs))) (same_is r x)
    ∙ by_order (read_cmp r x) (r ∷ x ∷ xs) (x ∷ xs) (x ∷ with_read r xs)
    ∙ ap (λ (ys : List ReadMark). match_ordering (read_cmp r x) (r ∷ x ∷ xs) (x ∷ xs) (x ∷ ys)) (with_read_is r xs)

pub has_read_is : (r : ReadMark) (xs : List ReadMark) → has_read xs r.oid r.part ≡ has_key read_cmp r xs
has_read_is r [] = refl
has_read_is r (x ∷ xs) =
    ap (λ (b : Bool). b || has_read xs r.oid r.part) (same_is x r ∙ (eq_by_cmp_equiv read_total).symm x r)
    ∙ ap (λ (b : Bool). is_eq (read_cmp r x) || b) (has_read_is r xs)

-- ---- the place of a read

neither : (a b : Bool) → (a || b) ≡ false → (a ≡ false) × (b ≡ false)
neither true b e = absurd cc
neither false b e = (refl, e)

not_lt : (r : Ordering) → is_lt r ≡ false → is_eq r ≡ false → r ≡ Greater
not_lt Less d e = absurd cc
not_lt Equal d e = absurd cc
not_lt Greater d e = refl

-- one read more stands before it
pub placed_more : (r x : ReadMark) (reads : List ReadMark) (i : ℕ) → i < length reads → x ≡ get_or reads i x → drop i reads ≡ x ∷ drop (i + 1) reads → is_lt (read_cmp r x) ≡ false
    → has_key read_cmp r (drop i reads) ≡ false → insert_key read_cmp reads r ≡ take i reads ++ insert_key read_cmp (drop i reads) r
    → (has_key read_cmp r (drop (i + 1) reads) ≡ false) × (insert_key read_cmp reads r ≡ take (i + 1) reads ++ insert_key read_cmp (drop (i + 1) reads) r)
placed_more r x reads i lt is front later absent so_far =
    let rest : List ReadMark = drop (i + 1) reads in
    let parts = neither (is_eq (read_cmp r x)) (has_key read_cmp r (drop (i + 1) reads)) (sym (ap (has_key read_cmp r) front) ∙ absent) in
    let on : insert_key read_cmp (drop i reads) r ≡ x ∷ insert_key read_cmp (drop (i + 1) reads) r =
    ap (λ (ys : List ReadMark). insert_key read_cmp ys r) front
    ∙ ap (λ (o : Ordering). match_ordering o (r ∷ x ∷ drop (i + 1) reads) (x ∷ drop (i + 1) reads) (x ∷ insert_key read_cmp (drop (i + 1) reads) r)) (not_lt (read_cmp r x) later parts.0) in
    let longer : take (i + 1) reads ≡ take i reads ++ x ∷ [] = take_more reads i x lt ∙ ap (λ (y : ReadMark). take i reads ++ y ∷ []) (sym is) in (
      parts.1,
      so_far ∙ ap (λ (ys : List ReadMark). take i reads ++ ys) on
          ∙ sym (append_assoc (take i reads) (x ∷ []) (insert_key read_cmp (drop (i + 1) reads) r))
          ∙ ap (λ (ys : List ReadMark). ys ++ insert_key read_cmp (drop (i + 1) reads) r) (sym longer),
    )

-- the read before which it stands
pub placed_here : (r x : ReadMark) (reads rest : List ReadMark) (i : ℕ) → drop i reads ≡ x ∷ rest → is_lt (read_cmp r x) ≡ true
    → insert_key read_cmp reads r ≡ take i reads ++ insert_key read_cmp (drop i reads) r → insert_key read_cmp reads r ≡ take i reads ++ r ∷ drop i reads
placed_here r x reads rest i front first so_far =
    so_far ∙ ap (λ (ys : List ReadMark). take i reads ++ ys)
    (ap (λ (ys : List ReadMark). insert_key read_cmp ys r) front
    ∙ ap (λ (o : Ordering). match_ordering o (r ∷ x ∷ rest) (x ∷ rest) (x ∷ insert_key read_cmp rest r)) (less (read_cmp r x) first)
    ∙ ap (λ (ys : List ReadMark). r ∷ ys) (sym front))
  where
    less : (o : Ordering) → is_lt o ≡ true → o ≡ Less
    less Less e = refl
    less Equal e = absurd cc
    less Greater e = absurd cc

pub placed_last : (r : ReadMark) (reads : List ReadMark) (i : ℕ) → drop i reads ≡ [] → insert_key read_cmp reads r ≡ take i reads ++ insert_key read_cmp (drop i reads) r
    → insert_key read_cmp reads r ≡ take i reads ++ r ∷ drop i reads
placed_last r reads i none so_far =
    so_far ∙ ap (λ (ys : List ReadMark). take i reads ++ ys) (ap (λ (ys : List ReadMark). insert_key read_cmp ys r) none ∙ ap (λ (ys : List ReadMark). r ∷ ys) (sym none))

-- ---- streams

pub with_oid_is : (x : Oid) (xs : List Oid) → with_oid x xs ≡ insert_key oid_cmp xs x
with_oid_is x [] = refl
with_oid_is x (y ∷ ys) =
    ap (λ (b : Bool). cond b (x ∷ y ∷ ys) (cond (oid_eq x y) (y ∷ ys) (y ∷ with_oid x ys))) (below_alone (nat_lt x.0 y.0) (x.0 == y.0))
    ∙ ap (λ (b : Bool). cond (is_lt (oid_cmp x y)) (x ∷ y ∷ ys) (cond b (y ∷ ys) (y ∷ with_oid x ys))) (unsigned_ties x.0 y.0)
    ∙ by_order (oid_cmp x y) (x ∷ y ∷ ys) (y ∷ ys) (y ∷ with_oid x ys)
    ∙ ap (λ (zs : List Oid). match_ordering (oid_cmp x y) (x ∷ y ∷ ys) (y ∷ ys) (y ∷ zs)) (with_oid_is x ys)

pub streams_rise : (ws : List WriteOp) → Rising oid_cmp (tx_streams ws)
streams_rise [] = tt
streams_rise (w ∷ ws) = subst (λ (os : List Oid). Rising oid_cmp os) (sym (with_oid_is w.oid (tx_streams ws))) (rising_put oid_total w.oid (tx_streams ws) (streams_rise ws))

-- a test of objects passes one of the streams where it passes one that is written
pub any_stream : (p : ℕ → Bool) (ws : List WriteOp) → list_any (λ (o : Oid). p o.0) (tx_streams ws) ≡ list_any (λ (w : WriteOp). p w.oid.0) ws
any_stream p [] = refl
any_stream p (w ∷ ws) =
    ap (list_any (λ (o : Oid). p o.0)) (with_oid_is w.oid (tx_streams ws))
    ∙ any_put oid_total (λ (o : Oid). p o.0) (λ x y e. ap p ((unsigned_Decides x.0 y.0).0 (unsigned_ties x.0 y.0 ∙ ap is_eq e))) w.oid (tx_streams ws)
    ∙ ap (λ (b : Bool). p w.oid.0 || b) (any_stream p ws)

any_alike : {K : Type 0} (p q : K → Bool) (xs : List K) → ((x : K) → p x ≡ q x) → list_any p xs ≡ list_any q xs
any_alike p q [] e = refl
any_alike p q (x ∷ xs) e = λ i. e x i || any_alike p q xs e i

pub has_stream : (o : Oid) (ws : List WriteOp) → has_key oid_cmp o (tx_streams ws) ≡ list_any (λ (w : WriteOp). oid_eq w.oid o) ws
has_stream o ws =
    any_alike (λ (x : Oid). is_eq (oid_cmp o x)) (λ (x : Oid). x.0 == o.0) (tx_streams ws) (λ x. (eq_by_cmp_equiv oid_total).symm o x ∙ sym (unsigned_ties x.0 o.0))
    ∙ any_stream (λ (n : ℕ). n == o.0) ws

pub count_more : (w : WriteOp) (ws : List WriteOp) → length (tx_streams (w ∷ ws)) ≡ cond (list_any (λ (v : WriteOp). oid_eq v.oid w.oid) ws) (length (tx_streams ws)) (suc (length (tx_streams ws)))
count_more w ws =
    ap (λ (os : List Oid). length os) (with_oid_is w.oid (tx_streams ws))
    ∙ length_put oid_total w.oid (tx_streams ws) (streams_rise ws)
    ∙ ap (λ (b : Bool). cond b (length (tx_streams ws)) (suc (length (tx_streams ws)))) (has_stream w.oid ws)

pub some_streams : (ws : List WriteOp) → 1 ≤ length ws → 1 ≤ length (tx_streams ws)
some_streams [] h = absurd (omega arith)
some_streams (w ∷ ws) h = subst (λ (os : List Oid). 1 ≤ length os) (sym (with_oid_is w.oid (tx_streams ws))) (some_put oid_cmp w.oid (tx_streams ws))

-- one write more, at the end
or_false : (b : Bool) → (b || false) ≡ b
or_false true = refl
or_false false = refl

any_last : (p : WriteOp → Bool) (ws : List WriteOp) (w : WriteOp) → list_any p (ws ++ w ∷ []) ≡ (list_any p ws || p w)
any_last p [] w = or_false (p w)
any_last p (v ∷ ws) w = ap (λ (b : Bool). p v || b) (any_last p ws w) ∙ sym (or_assoc (p v) (list_any p ws) (p w))
  where
    or_assoc : (a b c : Bool) → ((a || b) || c) ≡ (a || (b || c))
    or_assoc true b c = refl
    or_assoc false b c = refl

-- a and b say whether the first and the last object are the same as one between, and c whether they are the same
last_counts : (n : ℕ) (a b c : Bool) → (c ≡ true → a ≡ b) → cond (a || c) (cond b n (suc n)) (suc (cond b n (suc n))) ≡ cond (c || b) (cond a n (suc n)) (suc (cond a n (suc n)))
last_counts n true true true h = refl
last_counts n true false true h = absurd (true≢false (h refl))
last_counts n false true true h = absurd (true≢false (sym (h refl)))
last_counts n false false true h = refl
last_counts n true true false h = refl
last_counts n true false false h = refl
last_counts n false true false h = refl
last_counts n false false false h = refl

pub count_last : (ws : List WriteOp) (w : WriteOp) → length (tx_streams (ws ++ w ∷ [])) ≡ cond (list_any (λ (v : WriteOp). oid_eq v.oid w.oid) ws) (length (tx_streams ws)) (suc (length (tx_streams ws)))
count_last [] w = refl
count_last (v ∷ ws) w =
    count_more v (ws ++ w ∷ [])
    ∙ ap (λ (b : Bool). cond b (length (tx_streams (ws ++ w ∷ []))) (suc (length (tx_streams (ws ++ w ∷ []))))) (any_last (λ (u : WriteOp). oid_eq u.oid v.oid) ws w)
    ∙ ap (λ (n : ℕ). cond (list_any (λ (u : WriteOp). oid_eq u.oid v.oid) ws || oid_eq w.oid v.oid) n (suc n)) (count_last ws w)
    ∙ last_counts (length (tx_streams ws)) (list_any (λ (u : WriteOp). oid_eq u.oid v.oid) ws) (list_any (λ (u : WriteOp). oid_eq u.oid w.oid) ws) (oid_eq w.oid v.oid)
    (λ e. ap (λ (m : ℕ). list_any (λ (u : WriteOp). u.oid.0 == m) ws) (sym ((unsigned_Decides w.oid.0 v.oid.0).0 e)))
    ∙ ap (λ (b : Bool). cond (b || list_any (λ (u : WriteOp). oid_eq u.oid w.oid) ws) (cond (list_any (λ (u : WriteOp). oid_eq u.oid v.oid) ws) (length (tx_streams ws)) (suc (length (tx_streams ws)))) (suc (cond (list_any (λ (u : WriteOp). oid_eq u.oid v.oid) ws) (length (tx_streams ws)) (suc (length (tx_streams ws)))))) (nat_eq_equiv.symm w.oid.0 v.oid.0)
    ∙ ap (λ (n : ℕ). cond (oid_eq v.oid w.oid || list_any (λ (u : WriteOp). oid_eq u.oid w.oid) ws) n (suc n)) (sym (count_more v ws))

as_sum : (n : ℕ) (b : Bool) → cond b n (suc n) ≡ n + cond b 0 1
as_sum n true = omega arith
as_sum n false = omega arith

pub added_last : (ws : List WriteOp) (w : WriteOp) → length (tx_streams (ws ++ w ∷ [])) ≡ length (tx_streams ws) + cond (list_any (λ (v : WriteOp). oid_eq v.oid w.oid) ws) 0 1
added_last ws w = count_last ws w ∙ as_sum (length (tx_streams ws)) (list_any (λ (v : WriteOp). oid_eq v.oid w.oid) ws)

pub count_at : (ws : List WriteOp) (d : WriteOp) (j n : ℕ) → j < length ws → n ≡ length (tx_streams (drop (j + 1) ws))
    → n + cond (list_any (λ (v : WriteOp). oid_eq v.oid (get_or ws j d).oid) (drop (j + 1) ws)) 0 1 ≡ length (tx_streams (drop j ws))
count_at ws d j n lt so_far =
    let front : drop j ws ≡ get_or ws j d ∷ drop (j + 1) ws = drop-cons ws j d lt ∙ (λ i. get_or ws j d ∷ drop (sym (add-one j) i) ws) in
    ap (λ (m : ℕ). m + cond (list_any (λ (v : WriteOp). oid_eq v.oid (get_or ws j d).oid) (drop (j + 1) ws)) 0 1) so_far
    ∙ sym (as_sum (length (tx_streams (drop (j + 1) ws))) (list_any (λ (v : WriteOp). oid_eq v.oid (get_or ws j d).oid) (drop (j + 1) ws)))
    ∙ sym (count_more (get_or ws j d) (drop (j + 1) ws))
    ∙ ap (λ (vs : List WriteOp). length (tx_streams vs)) (sym front)

pub streams_at : (ws : List WriteOp) (d : WriteOp) (j : ℕ) → j < length ws → insert_key oid_cmp (tx_streams (drop (j + 1) ws)) (get_or ws j d).oid ≡ tx_streams (drop j ws)
streams_at ws d j lt =
    let front : drop j ws ≡ get_or ws j d ∷ drop (j + 1) ws = drop-cons ws j d lt ∙ (λ i. get_or ws j d ∷ drop (sym (add-one j) i) ws) in
    sym (with_oid_is (get_or ws j d).oid (tx_streams (drop (j + 1) ws))) ∙ ap tx_streams (sym front)
