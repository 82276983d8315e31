-- Which records need a decision record, by their first read.
use Rattle.std.specs.Cmp.{unsigned_Decides}
use Rattle.std.specs.Prelude.{◌≡◌, Bool, true, false, cond, not, ◌&&◌, ◌||◌, ◌==◌, nat_le, List, [], ◌∷◌, ◌++◌, length, map, refl}
use Rattle.std.specs.List.{list_any}
use Rattle.std.proofs.Common.{sym, ap, ◌∙◌, arith}
use Rattle.tg_base.specs.declared.ids.Oid.{Oid}
use Rattle.tg_base.specs.declared.marks.ReadMark.{ReadMark}
use Rattle.tg_entry.specs.declared.entry.WriteOp.{WriteOp}
use Rattle.tg_entry.specs.declared.entry.Head.{Head}
use Rattle.tg_entry.specs.declared.entry.Body.{Body}
use Rattle.tg_entry.specs.declared.entry.Body.TheVariants.{Commit, Decision, Checkpoint}
use Rattle.tg_entry.specs.declared.entry.Entry.{Entry}
use Rattle.tg_base.specs.Orders.{oid_eq, oid_lt, with_oid, rising_oids}
use Rattle.tg_entry.specs.Needs.{reads_in, writes_in, reads_of, writes_of, read_oid, write_oid, needs_decision, names_another}

same_oid : (o q : Oid) → oid_eq o q ≡ true → o ≡ q
same_oid o q e = let is : o.0 ≡ q.0 = (unsigned_Decides o.0 q.0).0 e in λ i. record { 0 = is i }

oid_itself : (o : Oid) → oid_eq o o ≡ true
oid_itself o = grind arith

-- an object among these is another one
abbrev has_other : Oid → List Oid → Bool
has_other o xs = list_any (λ (q : Oid). not (oid_eq q o)) xs

not_before_itself : (o : Oid) → oid_lt o o ≡ false
not_before_itself o = grind arith

alone_again : (o : Oid) → with_oid o (o ∷ []) ≡ o ∷ []
alone_again o =
    ap (λ (t : Bool). cond t (o ∷ o ∷ []) (cond (oid_eq o o) (o ∷ []) (o ∷ o ∷ []))) (not_before_itself o)
    ∙ ap (λ (t : Bool). cond t (o ∷ []) (o ∷ o ∷ [])) (oid_itself o)

split_false : (a b : Bool) → (a || b) ≡ false → (a ≡ false) × (b ≡ false)
split_false true b e = absurd cc
split_false false b e = (refl, e)

not_false : (b : Bool) → not b ≡ false → b ≡ true
not_false true e = refl
not_false false e = absurd cc

none_other : (o : Oid) (xs : List Oid) → has_other o xs ≡ false → with_oid o (rising_oids xs) ≡ o ∷ []
none_other o [] e = refl
none_other o (x ∷ xs) e =
    let p = split_false (not (oid_eq x o)) (has_other o xs) e in
    ap (λ (q : Oid). with_oid o (with_oid q (rising_oids xs))) (same_oid x o (not_false (oid_eq x o) p.0))
    ∙ ap (λ (ys : List Oid). with_oid o ys) (none_other o xs p.1)
    ∙ alone_again o

either_true : (a b : Bool) → b ≡ true → (a || b) ≡ true
either_true true b e = refl
either_true false b e = e

first_true : (a b : Bool) → a ≡ true → (a || b) ≡ true
first_true true b e = refl
first_true false b e = absurd cc

pick : (P : List Oid → Type 0) (a b : Bool) (x y z : List Oid) → P x → P y → P z → P (cond a x (cond b y z))
pick P true b x y z p q r = p
pick P false true x y z p q r = q
pick P false false x y z p q r = r

-- what is there stays there
still_other : (o x : Oid) (ys : List Oid) → has_other o ys ≡ true → has_other o (with_oid x ys) ≡ true
still_other o x [] e = absurd cc
still_other o x (y ∷ ys) e =
    pick (λ (zs : List Oid). has_other o zs ≡ true) (oid_lt x y) (oid_eq x y) (x ∷ y ∷ ys) (y ∷ ys) (y ∷ with_oid x ys)
    (either_true (not (oid_eq x o)) (has_other o (y ∷ ys)) e) e (by (λ h. still_other o x ys h) (not (oid_eq y o)) e)
  where
    by : (has_other o ys ≡ true → has_other o (with_oid x ys) ≡ true) → (t : Bool) → (t || has_other o ys) ≡ true → (t || has_other o (with_oid x ys)) ≡ true
    by more true h = refl
    by more false h = more h

same_differs : (x y o : Oid) → oid_eq x y ≡ true → oid_eq x o ≡ false → oid_eq y o ≡ false
same_differs x y o e d = grind arith

new_other : (o x : Oid) (ys : List Oid) → oid_eq x o ≡ false → has_other o (with_oid x ys) ≡ true
new_other o x [] d = ap (λ (t : Bool). not t || false) d
new_other o x (y ∷ ys) d = by (new_other o x ys d) (oid_lt x y) (oid_eq x y) refl
  where
    by : has_other o (with_oid x ys) ≡ true → (a b : Bool) → oid_eq x y ≡ b → has_other o (cond a (x ∷ y ∷ ys) (cond b (y ∷ ys) (y ∷ with_oid x ys))) ≡ true
    by more true b e = ap (λ (t : Bool). not t || has_other o (y ∷ ys)) d
    by more false true e = ap (λ (t : Bool). not t || has_other o ys) (same_differs x y o e d)
    by more false false e = either_true (not (oid_eq y o)) (has_other o (with_oid x ys)) more

some_in : (o : Oid) (xs : List Oid) → has_other o xs ≡ true → has_other o (rising_oids xs) ≡ true
some_in o [] e = absurd cc
some_in o (x ∷ xs) e = by (λ h. some_in o xs h) (oid_eq x o) refl e
  where
    by : (has_other o xs ≡ true → has_other o (rising_oids xs) ≡ true) → (t : Bool) → oid_eq x o ≡ t → (not t || has_other o xs) ≡ true → has_other o (with_oid x (rising_oids xs)) ≡ true
    by more true d h = still_other o x (rising_oids xs) (more h)
    by more false d h = new_other o x (rising_oids xs) d

two : (x y : Oid) (zs : List Oid) → nat_le 2 (length (x ∷ y ∷ zs)) ≡ true
two x y zs = grind arith

not_alone : (o y : Oid) (ys : List Oid) → nat_le 2 (length (y ∷ with_oid o ys)) ≡ true
not_alone o y [] = two y o []
not_alone o y (z ∷ zs) =
    pick (λ (xs : List Oid). nat_le 2 (length (y ∷ xs)) ≡ true) (oid_lt o z) (oid_eq o z) (o ∷ z ∷ zs) (z ∷ zs) (z ∷ with_oid o zs) (two y o (z ∷ zs)) (two y z zs) (two y z (with_oid o zs))

turned : (a b : Oid) → oid_eq a b ≡ oid_eq b a
turned a b = grind arith

own_front : (o y : Oid) (ys : List Oid) → oid_eq o y ≡ true → has_other o (y ∷ ys) ≡ true → nat_le 2 (length (y ∷ ys)) ≡ true
own_front o y [] e h = absurd (differ (ap (λ (t : Bool). not t || false) (sym (turned o y ∙ refl) ∙ e)) h)
  where
    differ : has_other o (y ∷ []) ≡ false → has_other o (y ∷ []) ≡ true → ⊥
    differ a b = cc
own_front o y (z ∷ zs) e h = two y z zs

at_least_two : (o : Oid) (ys : List Oid) → has_other o ys ≡ true → nat_le 2 (length (with_oid o ys)) ≡ true
at_least_two o [] e = absurd cc
at_least_two o (y ∷ ys) e = by (oid_lt o y) (oid_eq o y) refl
  where
    by : (a b : Bool) → oid_eq o y ≡ b → nat_le 2 (length (cond a (o ∷ y ∷ ys) (cond b (y ∷ ys) (y ∷ with_oid o ys)))) ≡ true
    by true b d = two o y ys
    by false true d = own_front o y ys d e
    by false false d = not_alone o y ys

counted : (o : Oid) (xs : List Oid) → has_other o xs ≡ nat_le 2 (length (with_oid o (rising_oids xs)))
counted o xs = by (has_other o xs) refl
  where
    by : (t : Bool) → has_other o xs ≡ t → t ≡ nat_le 2 (length (with_oid o (rising_oids xs)))
    by true e = sym (at_least_two o (rising_oids xs) (some_in o xs e))
    by false e = ap (λ (ys : List Oid). nat_le 2 (length ys)) (sym (none_other o xs e))

-- reads and then writes

in_writes : (o : Oid) (ws : List WriteOp) → list_any (λ (w : WriteOp). not (oid_eq w.oid o)) ws ≡ has_other o (map write_oid ws)
in_writes o [] = refl
in_writes o (w ∷ ws) = ap (λ (b : Bool). not (oid_eq w.oid o) || b) (in_writes o ws)

or_later : (a b c : Bool) → ((a || b) || c) ≡ (a || (b || c))
or_later true b c = refl
or_later false b c = refl

in_both : (o : Oid) (rs : List ReadMark) (ws : List WriteOp)
    → (list_any (λ (r : ReadMark). not (oid_eq r.oid o)) rs || list_any (λ (w : WriteOp). not (oid_eq w.oid o)) ws) ≡ has_other o (map read_oid rs ++ map write_oid ws)
in_both o [] ws = in_writes o ws
in_both o (r ∷ rs) ws =
    or_later (not (oid_eq r.oid o)) (list_any (λ (s : ReadMark). not (oid_eq s.oid o)) rs) (list_any (λ (w : WriteOp). not (oid_eq w.oid o)) ws)
    ∙ ap (λ (b : Bool). not (oid_eq r.oid o) || b) (in_both o rs ws)

some_reads : (r : ReadMark) (rs : List ReadMark) → (length (r ∷ rs) == 0) ≡ false
some_reads r rs = grind arith

needs_by : (h : Head) (b : Body) → needs_decision (record { head = h; body = b }) ≡ names_another (reads_in b) (writes_in b)
unfolding needs_decision
needs_by h (Commit [] ws) = refl
needs_by h (Commit (r ∷ rs) ws) =
    sym
    (in_both r.oid rs ws
    ∙ counted r.oid (map read_oid rs ++ map write_oid ws)
    ∙ ap (λ (t : Bool). not t && nat_le 2 (length (with_oid r.oid (rising_oids (map read_oid rs ++ map write_oid ws))))) (sym (some_reads r rs)))
needs_by h (Decision at is_yes) = refl
needs_by h (Checkpoint o u v w ks s) = refl

pub needs_told : (e : Entry) → names_another (reads_of e) (writes_of e) ≡ needs_decision e
needs_told e = sym (needs_by e.head e.body)
