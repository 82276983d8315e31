-- Tests that passed prove the claims that they test: stamps that rise, entries that stand once, cells that stay.
use Rattle.std.proofs.Common.{◌≡◌, ℕ, ◌<◌, List, [], ◌∷◌, Bool, true, false, Option, Some, None, refl, sym, ap, ◌∙◌, subst, inl, inr, arith, cond, ◌≢◌}
use Rattle.std.specs.Prelude.{◌&&◌, ◌==◌, not, nat_lt}
use Rattle.std.specs.List.{list_any, list_all}
use Rattle.std.specs.Ordering.{nat_cmp}
use Rattle.std.specs.BTreeMap.{is_at}
use Rattle.std.proofs.lemmas.Bool.{cases_eq}
use Rattle.std.proofs.lemmas.Bool.Decides.{nat_tests}
use Rattle.tg_base.specs.declared.cell.Cell.{Cell}
use Rattle.tg_base.specs.declared.cell.Cell.TheVariants.{Junk, Data}
use Rattle.tg_entry.specs.declared.entry.Entry.{Entry}
use Rattle.tg_entry.specs.Format.{tag_of}
use Rattle.tg_model.specs.Kinds.{DoneOf}
use Rattle.tg_model.specs.Stores.{AllAbove, Rises}
use Rattle.tg_protocol.specs.Words.{cell_eq, cell_at}
use Rattle.tg_protocol.specs.Views.{Entries}
use Rattle.tg_protocol.specs.Logs.{Log, entries_of}
use Rattle.tg_protocol.specs.Worlds.{log}
use Rattle.tg_protocol.specs.Holding.{EntriesOnce, LogStays}
use Rattle.tg_law_instances.proofs.Small.{of_some}
use Rattle.tg_law_verdicts.proofs.Members.{Has, has_contained, contained_has, and_both, both_and, not_true, no_pass, all_pass}
use Rattle.tg_law_verdicts.proofs.Tests.{number_same}
use Rattle.tg_law_examples.proofs.SevenKinds.{kinds}
use Rattle.tg_law_instances.proofs.Same.{bytes_same}
use Rattle.tg_law_instances.proofs.Tests.{W, rises, same_head, once}
use Rattle.tg_law_instances.proofs.StepTests.{same_cell, log_stays}

-- Stamps rise.

less : (a b : ℕ) → nat_lt a b ≡ true → a < b
less a b e = grind (arith, nat_tests)

above : (d : DoneOf kinds) (ds : List (DoneOf kinds)) → list_all (λ (e : DoneOf kinds). nat_lt d.stamp e.stamp) ds ≡ true → AllAbove kinds d ds
above d [] e = tt
above d (x ∷ xs) e = let b = and_both (nat_lt d.stamp x.stamp) (list_all (λ (y : DoneOf kinds). nat_lt d.stamp y.stamp) xs) e in (less d.stamp x.stamp b.0, above d xs b.1)

pub rises_sound : (ds : List (DoneOf kinds)) → rises ds ≡ true → Rises kinds ds
rises_sound [] e = tt
rises_sound (d ∷ ds) e = let b = and_both (list_all (λ (x : DoneOf kinds). nat_lt d.stamp x.stamp) ds) (rises ds) e in (above d ds b.0, rises_sound ds b.1)

-- Entries stand once.

heads_same : (e f : Entry) → e.head.client ≡ f.head.client → e.head.number ≡ f.head.number → tag_of e.body ≡ tag_of f.body → same_head e f ≡ true
heads_same e f c n t = both_and ((e.head.client == f.head.client) && (e.head.number == f.head.number)) (tag_of e.body == tag_of f.body)
    (both_and (e.head.client == f.head.client) (e.head.number == f.head.number) (number_same e.head.client f.head.client c) (number_same e.head.number f.head.number n))
    (number_same (tag_of e.body) (tag_of f.body) t)

abbrev like : Entry → ℕ × Entry → Bool
like e y = same_head e y.1

alone : (x : ℕ × Entry) (xs : Entries) (y : ℕ × Entry) → not (list_any (like x.1) xs) ≡ true → Has {X = ℕ × Entry} xs y → same_head x.1 y.1 ≡ true → ⊥
alone x xs y e h s = no_pass (like x.1) xs (not_true (list_any (like x.1) xs) e) y h s

once_of : (es : Entries) → once es ≡ true → (x y : ℕ × Entry) → Has {X = ℕ × Entry} es x → Has {X = ℕ × Entry} es y → same_head x.1 y.1 ≡ true → same_head y.1 x.1 ≡ true → x.0 ≡ y.0
once_of [] o x y i j s r = absurd i
once_of (z ∷ zs) o x y (inl a) (inl b) s r = ap (λ (u : ℕ × Entry). u.0) (a ∙ sym b)
once_of (z ∷ zs) o x y (inl a) (inr j) s r = absurd (alone z zs y (and_both (not (list_any (like z.1) zs)) (once zs) o).0 j (subst (λ (u : ℕ × Entry). same_head u.1 y.1 ≡ true) a s))
once_of (z ∷ zs) o x y (inr i) (inl b) s r = absurd (alone z zs x (and_both (not (list_any (like z.1) zs)) (once zs) o).0 i (subst (λ (u : ℕ × Entry). same_head u.1 x.1 ≡ true) b r))
once_of (z ∷ zs) o x y (inr i) (inr j) s r = once_of zs (and_both (not (list_any (like z.1) zs)) (once zs) o).1 x y i j s r

pub once_sound : (w : W) → once (entries_of (log kinds w)) ≡ true → EntriesOnce kinds w
once_sound w o p q e f he hf c t n =
    once_of (entries_of (log kinds w)) o (p, e) (q, f) (has_contained {X = ℕ × Entry} (entries_of (log kinds w)) (p, e) he) (has_contained {X = ℕ × Entry} (entries_of (log kinds w)) (q, f) hf)
    (heads_same e f c n t) (heads_same f e (sym c) (sym n) (sym t))

-- Cells stay.

cells_same : (c d : Cell) → cell_eq c d ≡ true → c ≡ d
unfolding cell_eq
cells_same Junk Junk e = refl
cells_same (Data a) (Data b) e = ap (λ x. Data x) (bytes_same a b e)
cells_same Junk (Data b) e = absurd cc
cells_same (Data a) Junk e = absurd cc

-- a cell that is found at a position stands there

at_same : (p q : ℕ) → p ≡ q → is_at (nat_cmp p) q ≡ true
at_same p q e = grind (arith, nat_tests)

at_other : (p q : ℕ) → p ≢ q → is_at (nat_cmp p) q ≡ false
at_other p q e = grind (arith, nat_tests)

looked_here : (x : ℕ × Cell) (xs : Log) (p : ℕ) → p ≡ x.0 → cell_at (x ∷ xs) p ≡ Some x.1
looked_here x xs p e = ap (λ b. cond b (Some x.1) (cell_at xs p)) (at_same p x.0 e)

looked_past : (x : ℕ × Cell) (xs : Log) (p : ℕ) → p ≢ x.0 → cell_at (x ∷ xs) p ≡ cell_at xs p
looked_past x xs p e = ap (λ b. cond b (Some x.1) (cell_at xs p)) (at_other p x.0 e)

pair : (x : ℕ × Cell) (p : ℕ) (c : Cell) → p ≡ x.0 → c ≡ x.1 → (p, c) ≡ x
pair x p c e f = ap (λ (q : ℕ). (q, c)) e ∙ ap (λ (d : Cell). (x.0, d)) f

pub cell_has : (l : Log) (p : ℕ) (c : Cell) → cell_at l p ≡ Some c → Has {X = ℕ × Cell} l (p, c)
cell_has [] p c e = absurd cc
cell_has (x ∷ xs) p c e =
    elim (cases_eq p x.0) [
      | inl same ↦ inl (pair x p c same (of_some c x.1 (sym e ∙ looked_here x xs p same)))
      | inr other ↦ inr (cell_has xs p c (sym (looked_past x xs p other) ∙ e))
    ]

stays_by : (l : Log) (p : ℕ) (c : Cell) (o : Option Cell) → cell_at l p ≡ o → same_cell c o ≡ true → Has {X = ℕ × Cell} l (p, c)
stays_by l p c None s e = absurd cc
stays_by l p c (Some d) s e = cell_has l p c (s ∙ ap (λ x. Some x) (sym (cells_same c d e)))

pub stays_sound : (w v : W) → log_stays w v ≡ true → LogStays kinds w v
stays_sound w v t p c h =
    contained_has {X = ℕ × Cell} (log kinds v) (p, c) (stays_by (log kinds v) p c (cell_at (log kinds v) p) refl
    (all_pass (λ (x : ℕ × Cell). same_cell x.1 (cell_at (log kinds v) x.0)) (log kinds w) t (p, c) (has_contained {X = ℕ × Cell} (log kinds w) (p, c) h)))
