-- Cells by position, and the entries of a log.
use Rattle.std.proofs.Common.{◌≡◌, ◌⊎◌, ℕ, ◌+◌, ◌<◌, ◌≤◌, List, [], ◌∷◌, Bool, true, false, refl, sym, ap, ◌∙◌, subst, inl, inr, arith, Option, Some, None, nat_cmp, cond, eqb, filter}
use Rattle.std.specs.Prelude.{nat_lt, nat_le, is_some}
use Rattle.std.proofs.lemmas.Bool.Decides.{nat_tests}
use Rattle.std.specs.Map.{lookup}
use Rattle.std.specs.BTreeMap.{is_at, insert_entry}
use Rattle.tg_base.specs.declared.cell.Cell.{Cell}
use Rattle.tg_entry.specs.declared.entry.Entry.{Entry}
use Rattle.tg_protocol.specs.Words.{cell_at, with_cell}
use Rattle.tg_protocol.specs.Views.{Entries, entry_if}
use Rattle.tg_protocol.specs.Logs.{Log, positions, entries_of, entry_at}
use Rattle.tg_protocol.specs.Pages.{entry_in, cell_entry}
use Rattle.tg_law_replies.specs.Plays.Sound.{rise_from}
use Rattle.tg_law_walks.specs.Walks.Streams.{rises, AreKnown}
use Rattle.tg_law_walks.specs.Walks.Walks.{AreRead}
use Rattle.tg_law_walks.proofs.Walks.Members.{Has, has_contained, contained_has, and_both, both_and, of_le}

-- a cell that has come, read anywhere
stored_more : (e : ℕ × Cell) (es : List (ℕ × Cell)) (k : ℕ) (v : Cell) (q : ℕ) → cell_at (insert_entry nat_cmp es k v) q ≡ cond (eqb q k) (Some v) (cell_at es q)
    → cell_at (insert_entry nat_cmp (e ∷ es) k v) q ≡ cond (eqb q k) (Some v) (cell_at (e ∷ es) q)
stored_more e es k v q ih = grind arith

pub cell_stored : (es : List (ℕ × Cell)) (k : ℕ) (v : Cell) (q : ℕ) → cell_at (with_cell es k v) q ≡ cond (eqb q k) (Some v) (cell_at es q)
cell_stored [] k v q = grind arith
cell_stored (e ∷ es) k v q = stored_more e es k v q (cell_stored es k v q)

some_cell : (a b : Cell) → Some a ≡ Some b → a ≡ b
some_cell a b e = cc

pub cell_pair : (x y : ℕ × Cell) → x.0 ≡ y.0 → x.1 ≡ y.1 → x ≡ y
cell_pair x y i j = λ k. (i k, j k)

-- a cell that is found stands among them
pub cell_has : (cells : List (ℕ × Cell)) (q : ℕ) (c : Cell) → cell_at cells q ≡ Some c → Has cells (q, c)
cell_has [] q c e = absurd (cc)
cell_has (x ∷ cells) q c e = by (is_at (nat_cmp q) x.0) refl e (λ f. cell_has cells q c f)
  where
    same : is_at (nat_cmp q) x.0 ≡ true → q ≡ x.0
    same t = grind arith

    by : (b : Bool) → is_at (nat_cmp q) x.0 ≡ b → cond b (Some x.1) (cell_at cells q) ≡ Some c → (cell_at cells q ≡ Some c → Has cells (q, c)) → Has (x ∷ cells) (q, c)
    by true t f rest = inl (cell_pair (q, c) x (same t) (sym (some_cell x.1 c f)))
    by false t f rest = inr (rest f)

pub known_at : (l : Log) (cells : List (ℕ × Cell)) → AreKnown l cells → (q : ℕ) (c : Cell) → cell_at cells q ≡ Some c → cell_at l q ≡ Some c
known_at l cells h q c e = h (q, c) (contained_has cells (q, c) (cell_has cells q c e))

put_first : (e : ℕ × Cell) (es : List (ℕ × Cell)) (k : ℕ) (v : Cell) → k < e.0 → with_cell (e ∷ es) k v ≡ (k, v) ∷ e ∷ es
put_first e es k v h = grind (arith, nat_tests)

put_here : (e : ℕ × Cell) (es : List (ℕ × Cell)) (k : ℕ) (v : Cell) → k ≡ e.0 → with_cell (e ∷ es) k v ≡ (e.0, v) ∷ es
put_here e es k v h = grind (arith, nat_tests)

put_past : (e : ℕ × Cell) (es : List (ℕ × Cell)) (k : ℕ) (v : Cell) → e.0 < k → with_cell (e ∷ es) k v ≡ e ∷ with_cell es k v
put_past e es k v h = grind (arith, nat_tests)

-- the cell that has come, or one of before
pub put_has : (es : List (ℕ × Cell)) (k : ℕ) (v : Cell) (x : ℕ × Cell) → Has (with_cell es k v) x → ((x.0 ≡ k) × (x.1 ≡ v)) ⊎ Has es x
put_has [] k v x (inl e) = inl (ap (λ (y : ℕ × Cell). y.0) e, ap (λ (y : ℕ × Cell). y.1) e)
put_has [] k v x (inr i) = absurd i
put_has (e ∷ es) k v x i = by (nat_lt k e.0) refl (nat_lt e.0 k) refl (λ j. put_has es k v x j)
  where
    lt : (a b : ℕ) → nat_lt a b ≡ true → a < b
    lt a b f = grind (arith, nat_tests)

    same : (a b : ℕ) → nat_lt a b ≡ false → nat_lt b a ≡ false → a ≡ b
    same a b f g = grind (arith, nat_tests)

    before : Has ((k, v) ∷ e ∷ es) x → ((x.0 ≡ k) × (x.1 ≡ v)) ⊎ Has (e ∷ es) x
    before (inl f) = inl (ap (λ (y : ℕ × Cell). y.0) f, ap (λ (y : ℕ × Cell). y.1) f)
    before (inr j) = inr j

    here : k ≡ e.0 → Has ((e.0, v) ∷ es) x → ((x.0 ≡ k) × (x.1 ≡ v)) ⊎ Has (e ∷ es) x
    here s (inl f) = inl (ap (λ (y : ℕ × Cell). y.0) f ∙ sym s, ap (λ (y : ℕ × Cell). y.1) f)
    here s (inr j) = inr (inr j)

    more : ((x.0 ≡ k) × (x.1 ≡ v)) ⊎ Has es x → ((x.0 ≡ k) × (x.1 ≡ v)) ⊎ Has (e ∷ es) x
    more (inl f) = inl f
    more (inr j) = inr (inr j)

    past : Has (e ∷ with_cell es k v) x → (Has (with_cell es k v) x → ((x.0 ≡ k) × (x.1 ≡ v)) ⊎ Has es x) → ((x.0 ≡ k) × (x.1 ≡ v)) ⊎ Has (e ∷ es) x
    past (inl f) rest = inr (inl f)
    past (inr j) rest = more (rest j)

    by : (b : Bool) → nat_lt k e.0 ≡ b → (c : Bool) → nat_lt e.0 k ≡ c → (Has (with_cell es k v) x → ((x.0 ≡ k) × (x.1 ≡ v)) ⊎ Has es x) → ((x.0 ≡ k) × (x.1 ≡ v)) ⊎ Has (e ∷ es) x
    by true f c g rest = before (subst (λ (ys : List (ℕ × Cell)). Has ys x) (put_first e es k v (lt k e.0 f)) i)
    by false f true g rest = past (subst (λ (ys : List (ℕ × Cell)). Has ys x) (put_past e es k v (lt e.0 k g)) i) rest
    by false f false g rest = let s = same k e.0 f g in here s (subst (λ (ys : List (ℕ × Cell)). Has ys x) (put_here e es k v s) i)

-- what is known stays so where a cell of the log comes
pub more_known : (l : Log) (cells : List (ℕ × Cell)) (k : ℕ) (v : Cell) → AreKnown l cells → cell_at l k ≡ Some v → AreKnown l (with_cell cells k v)
more_known l cells k v h is x i = by (put_has cells k v x (has_contained (with_cell cells k v) x i))
  where
    by : ((x.0 ≡ k) × (x.1 ≡ v)) ⊎ Has cells x → cell_at l x.0 ≡ Some x.1
    by (inl e) = ap (cell_at l) e.0 ∙ (is ∙ ap (λ (c : Cell). Some c) (sym e.1))
    by (inr j) = h x (contained_has cells x j)

-- and where some are given up
kept_has : (f : ℕ × Cell → Bool) (xs : List (ℕ × Cell)) (x : ℕ × Cell) → Has (filter f xs) x → Has xs x
kept_has f [] x i = absurd i
kept_has f (y ∷ xs) x i = by (f y) i (λ j. kept_has f xs x j)
  where
    by : (b : Bool) → Has (cond b (y ∷ filter f xs) (filter f xs)) x → (Has (filter f xs) x → Has xs x) → Has (y ∷ xs) x
    by true (inl e) rest = inl e
    by true (inr j) rest = inr (rest j)
    by false j rest = inr (rest j)

pub fewer_known : (l : Log) (f : ℕ × Cell → Bool) (cells : List (ℕ × Cell)) → AreKnown l cells → AreKnown l (filter f cells)
fewer_known l f cells h x i = h x (contained_has cells x (kept_has f cells x (has_contained (filter f cells) x i)))

pub more_some : (cells : List (ℕ × Cell)) (k : ℕ) (v : Cell) (q : ℕ) → is_some (cell_at cells q) ≡ true → is_some (cell_at (with_cell cells k v) q) ≡ true
more_some cells k v q h = ap is_some (cell_stored cells k v q) ∙ by (eqb q k)
  where
    by : (b : Bool) → is_some (cond b (Some v) (cell_at cells q)) ≡ true
    by true = refl
    by false = h

pub more_read : (cells : List (ℕ × Cell)) (k : ℕ) (v : Cell) (ps : List ℕ) → AreRead cells ps → AreRead (with_cell cells k v) ps
more_read cells k v ps h q i = more_some cells k v q (h q i)

pub cell_here : (cells : List (ℕ × Cell)) (k : ℕ) (v : Cell) → cell_at (with_cell cells k v) k ≡ Some v
cell_here cells k v = cell_stored cells k v k ∙ ap (λ b. cond b (Some v) (cell_at cells k)) (itself k)
  where
    itself : (n : ℕ) → eqb n n ≡ true
    itself n = grind arith

-- Entries.

le_of : (a b : ℕ) → nat_le a b ≡ true → a ≤ b
le_of a b e = grind arith

pub less_rise : (low less : ℕ) (es : Entries) → less ≤ low → rise_from low es ≡ true → rise_from less es ≡ true
less_rise low less [] le h = refl
less_rise low less (x ∷ es) le h =
    let p = and_both (nat_le low x.0) (rise_from (x.0 + 1) es) h in let q = le_of low x.0 p.0 in both_and (nat_le less x.0) (rise_from (x.0 + 1) es) (of_le less x.0 (omega (arith, q, le))) p.1

pub entries_rise : (low : ℕ) (l : Log) → rises low (positions l) ≡ true → rise_from low (entries_of l) ≡ true
unfolding entries_of
entries_rise low [] h = refl
entries_rise low (x ∷ l) h = by (entry_in x.1) (entries_rise (x.0 + 1) l (and_both (nat_le low x.0) (rises (x.0 + 1) (positions l)) h).1)
  where
    by : (e : Option Entry) → rise_from (x.0 + 1) (entries_of l) ≡ true → rise_from low (entry_if x.0 e (entries_of l)) ≡ true
    by None rest = let le = le_of low x.0 (and_both (nat_le low x.0) (rises (x.0 + 1) (positions l)) h).0 in less_rise (x.0 + 1) low (entries_of l) (omega (arith, le)) rest
    by (Some e) rest = both_and (nat_le low x.0) (rise_from (x.0 + 1) (entries_of l)) (and_both (nat_le low x.0) (rises (x.0 + 1) (positions l)) h).0 rest

pub rises_next : (r : ℕ) (x : ℕ × Entry) (xs : Entries) → rise_from r (x ∷ xs) ≡ true → (r ≤ x.0) × (rise_from (x.0 + 1) xs ≡ true)
rises_next r x xs h = grind arith

pub has_from : (r : ℕ) (es : Entries) (x : ℕ × Entry) → rise_from r es ≡ true → Has es x → r ≤ x.0
has_from r [] x h i = absurd i
has_from r (y ∷ es) x h (inl e) = let n = (rises_next r y es h).0 in let is = ap (λ (z : ℕ × Entry). z.0) e in omega (arith, n, is)
has_from r (y ∷ es) x h (inr i) = let n = rises_next r y es h in let first = n.0 in let rest = has_from (y.0 + 1) es x n.1 i in omega (arith, first, rest)

at_itself : (p : ℕ) → is_at (nat_cmp p) p ≡ true
at_itself p = grind arith

not_at : (p q : ℕ) → q < p → is_at (nat_cmp p) q ≡ false
not_at p q less = grind arith

from_low : (low : ℕ) (l : Log) (p : ℕ) (e : Entry) → rises low (positions l) ≡ true → Has (entries_of l) (p, e) → low ≤ p
from_low low l p e h i = has_from low (entries_of l) (p, e) (entries_rise low l h) i

-- an entry is that of the cell at its position
pub entry_there : (low : ℕ) (l : Log) (p : ℕ) (e : Entry) → rises low (positions l) ≡ true → Has (entries_of l) (p, e) → entry_at l p ≡ Some e
unfolding entries_of
entry_there low [] p e h i = absurd i
entry_there low (x ∷ l) p e h i = by (entry_in x.1) refl i (entry_there (x.0 + 1) l p e rest_rises)
  where
    rest_rises : rises (x.0 + 1) (positions l) ≡ true
    rest_rises = (and_both (nat_le low x.0) (rises (x.0 + 1) (positions l)) h).1

    later : Has (entries_of l) (p, e) → (Has (entries_of l) (p, e) → entry_at l p ≡ Some e) → entry_at (x ∷ l) p ≡ Some e
    later j rest = let less = from_low (x.0 + 1) l p e rest_rises j in ap (λ (b : Bool). cell_entry (cond b (Some x.1) (lookup (is_at (nat_cmp p)) l))) (not_at p x.0 (omega (arith, less))) ∙ rest j

    by : (d : Option Entry) → entry_in x.1 ≡ d → Has (entry_if x.0 d (entries_of l)) (p, e) → (Has (entries_of l) (p, e) → entry_at l p ≡ Some e) → entry_at (x ∷ l) p ≡ Some e
    by None is j rest = later j rest
    by (Some d) is (inl s) rest =
        ap (λ (n : ℕ). entry_at (x ∷ l) n) (ap (λ (y : ℕ × Entry). y.0) s)
        ∙ (ap (λ (b : Bool). cell_entry (cond b (Some x.1) (lookup (is_at (nat_cmp x.0)) l))) (at_itself x.0)
        ∙ (is ∙ ap (λ (y : ℕ × Entry). Some y.1) (sym s)))
    by (Some d) is (inr j) rest = later j rest

some_entry : (a b : Entry) → Some a ≡ Some b → a ≡ b
some_entry a b i = cc

pub pair : (x y : ℕ × Entry) → x.0 ≡ y.0 → x.1 ≡ y.1 → x ≡ y
pair x y i j = λ k. (i k, j k)

-- and the other way
pub there_entry : (l : Log) (p : ℕ) (e : Entry) → entry_at l p ≡ Some e → Has (entries_of l) (p, e)
unfolding entries_of
there_entry [] p e h = absurd (cc)
there_entry (x ∷ l) p e h = by (is_at (nat_cmp p) x.0) refl h (λ f. there_entry l p e f)
  where
    same : is_at (nat_cmp p) x.0 ≡ true → p ≡ x.0
    same t = grind arith

    here : (d : Option Entry) → d ≡ Some e → p ≡ x.0 → Has (entry_if x.0 d (entries_of l)) (p, e)
    here None f s = absurd (cc)
    here (Some d) f s = inl (pair (p, e) (x.0, d) s (sym (some_entry d e f)))

    there : (d : Option Entry) → Has (entries_of l) (p, e) → Has (entry_if x.0 d (entries_of l)) (p, e)
    there None i = i
    there (Some d) i = inr i

    by : (b : Bool) → is_at (nat_cmp p) x.0 ≡ b → cell_entry (cond b (Some x.1) (lookup (is_at (nat_cmp p)) l)) ≡ Some e → (entry_at l p ≡ Some e → Has (entries_of l) (p, e)) → Has (entry_if x.0 (entry_in x.1) (entries_of l)) (p, e)
    by true t f rest = here (entry_in x.1) f (same t)
    by false t f rest = there (entry_in x.1) (rest f)
