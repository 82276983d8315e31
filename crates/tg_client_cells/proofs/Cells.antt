-- Cells by position.
use Rattle.std.proofs.Common.{◌≡◌, ℕ, ◌<◌, ◌≤◌, Bool, true, false, cond, not, ◌&&◌, List, [], ◌∷◌, filter, map, nat_lt, Less, refl, sym, ap, subst, ◌∙◌, inl, inr, arith}
use Rattle.std.specs.List.{list_all, AllByRecursion}
use Rattle.std.specs.List.Sorted.{IsStrictlySortedBy}
use Rattle.std.specs.BTreeMap.{insert_entry, is_at}
use Rattle.std.specs.Map.{remove_entry, keys_of}
use Rattle.std.specs.Ordering.{nat_cmp}
use Rattle.std.proofs.lemmas.Bool.{cases_eq, cases_lt}
use Rattle.std.proofs.lemmas.Bool.Decides.{nat_tests}
use Rattle.std.proofs.lemmas.Map.Keys.{sorted_head, sorted_tail}
use Rattle.tg_client_cells.specs.Pruned.{position, without}

module _ {X : Type 0} where
  put_before : (e : ℕ × X) (es : List (ℕ × X)) (k : ℕ) (c : X) → k < e.0 → insert_entry nat_cmp (e ∷ es) k c ≡ (k, c) ∷ e ∷ es
  put_before e es k c h = grind (arith, nat_tests)

  put_here : (e : ℕ × X) (es : List (ℕ × X)) (k : ℕ) (c : X) → k ≡ e.0 → insert_entry nat_cmp (e ∷ es) k c ≡ (e.0, c) ∷ es
  put_here e es k c h = grind (arith, nat_tests)

  put_past : (e : ℕ × X) (es : List (ℕ × X)) (k : ℕ) (c : X) → e.0 < k → insert_entry nat_cmp (e ∷ es) k c ≡ e ∷ insert_entry nat_cmp es k c
  put_past e es k c h = grind (arith, nat_tests)

  -- what holds of all cells and of the new one holds of all then
  pub all_put : (P : ℕ × X → Bool) (es : List (ℕ × X)) (k : ℕ) (c : X) → list_all P es ≡ true → P (k, c) ≡ true → list_all P (insert_entry nat_cmp es k c) ≡ true
  all_put P [] k c h p = rw p refl
  all_put P (e ∷ es) k c h p =
      let head : P e ≡ true = grind arith in
      let tail : list_all P es ≡ true = grind arith in
      elim (cases_lt k e.0) [
        | inl lt ↦ ap (list_all P) (put_before e es k c lt) ∙ grind arith
        | inr le ↦ elim (cases_eq k e.0) [
          | inl same ↦ let here : P (e.0, c) ≡ true = subst (λ n. P (n, c) ≡ true) same p in ap (list_all P) (put_here e es k c same) ∙ grind arith
          | inr other ↦ let more : list_all P (insert_entry nat_cmp es k c) ≡ true = all_put P es k c tail p in ap (list_all P) (put_past e es k c (omega (arith, le, other))) ∙ grind arith
        ]
      ]

  abbrev is_below : ℕ → ℕ × X → Bool
  is_below low e = nat_lt e.0 low

  -- a cell from a position on leaves those below as they were
  pub below_put : (low : ℕ) (es : List (ℕ × X)) (k : ℕ) (c : X) → low ≤ k → filter (is_below low) (insert_entry nat_cmp es k c) ≡ filter (is_below low) es
  below_put low [] k c h = grind (arith, nat_tests)
  below_put low (e ∷ es) k c h =
      elim (cases_lt k e.0) [
        | inl lt ↦ ap (filter (is_below low)) (put_before e es k c lt) ∙ grind (arith, nat_tests)
        | inr le ↦ elim (cases_eq k e.0) [
          | inl same ↦ ap (filter (is_below low)) (put_here e es k c same) ∙ grind (arith, nat_tests)
          | inr other ↦ ap (filter (is_below low)) (put_past e es k c (omega (arith, le, other))) ∙ ap (λ (l : List (ℕ × X)). cond (nat_lt e.0 low) (e ∷ l) l) (below_put low es k c h)
        ]
      ]

  -- what holds from a position on in any case goes by the cells below
  all_below_step : (P : ℕ × X → Bool) (low : ℕ) (e : ℕ × X) (es : List (ℕ × X)) (b : Bool) → nat_lt e.0 low ≡ b → (b ≡ false → P e ≡ true) → list_all P es ≡ list_all P (filter (is_below low) es)
      → list_all P (e ∷ es) ≡ list_all P (filter (is_below low) (e ∷ es))
  all_below_step P low e es true b h more = grind arith
  all_below_step P low e es false b h more = let is : P e ≡ true = h refl in grind arith

  pub all_below : (P : ℕ × X → Bool) (low : ℕ) → ((e : ℕ × X) → nat_lt e.0 low ≡ false → P e ≡ true) → (es : List (ℕ × X)) → list_all P es ≡ list_all P (filter (is_below low) es)
  all_below P low h [] = refl
  all_below P low h (e ∷ es) = all_below_step P low e es (nat_lt e.0 low) refl (λ is. h e (is)) (all_below P low h es)

  -- filters that agree on what holds of all
  agree_step : (P f g : ℕ × X → Bool) (e : ℕ × X) (es : List (ℕ × X)) → list_all P (e ∷ es) ≡ true → (P e ≡ true → f e ≡ g e) → (list_all P es ≡ true → filter f es ≡ filter g es) → filter f (e ∷ es) ≡ filter g (e ∷ es)
  agree_step P f g e es h same more =
      let head : P e ≡ true = grind arith in
      let tail : list_all P es ≡ true = grind arith in
      ap (λ b. cond b (e ∷ filter f es) (filter f es)) (same head) ∙ ap (λ (l : List (ℕ × X)). cond (g e) (e ∷ l) l) (more tail)

  pub filters_agree : (P f g : ℕ × X → Bool) → ((e : ℕ × X) → P e ≡ true → f e ≡ g e) → (es : List (ℕ × X)) → list_all P es ≡ true → filter f es ≡ filter g es
  filters_agree P f g same [] h = refl
  filters_agree P f g same (e ∷ es) h = agree_step P f g e es h (same e) (filters_agree P f g same es)

  -- what follows of all that is kept
  kept_step : (P f Q : ℕ × X → Bool) (e : ℕ × X) (es : List (ℕ × X)) (b : Bool) → f e ≡ b → list_all P (e ∷ es) ≡ true → (P e ≡ true → f e ≡ true → Q e ≡ true) → (list_all P es ≡ true → list_all Q (filter f es) ≡ true) → list_all Q (filter f (e ∷ es)) ≡ true
  kept_step P f Q e es true is h q more =
      let head : P e ≡ true = grind arith in
      let tail : list_all P es ≡ true = grind arith in
      let here : Q e ≡ true = q head is in
      let rest : list_all Q (filter f es) ≡ true = more tail in
      grind arith
  kept_step P f Q e es false is h q more =
      let tail : list_all P es ≡ true = grind arith in
      let rest : list_all Q (filter f es) ≡ true = more tail in
      grind arith

  pub all_kept : (P f Q : ℕ × X → Bool) → ((e : ℕ × X) → P e ≡ true → f e ≡ true → Q e ≡ true) → (es : List (ℕ × X)) → list_all P es ≡ true → list_all Q (filter f es) ≡ true
  all_kept P f Q q [] h = refl
  all_kept P f Q q (e ∷ es) h = kept_step P f Q e es (f e) refl h (q e) (all_kept P f Q q es)

  -- what holds of all holds of all else
  pub all_then : (P Q : ℕ × X → Bool) → ((e : ℕ × X) → P e ≡ true → Q e ≡ true) → (es : List (ℕ × X)) → list_all P es ≡ true → list_all Q es ≡ true
  all_then P Q q [] h = refl
  all_then P Q q (e ∷ es) h =
      let head : P e ≡ true = grind arith in
      let tail : list_all P es ≡ true = grind arith in
      let here : Q e ≡ true = q e head in
      let rest : list_all Q es ≡ true = all_then P Q q es tail in
      grind arith

  -- two that hold of all
  pub all_both : (P Q : ℕ × X → Bool) (es : List (ℕ × X)) → list_all P es ≡ true → list_all Q es ≡ true → list_all (λ e. P e && Q e) es ≡ true
  all_both P Q [] h g = refl
  all_both P Q (e ∷ es) h g =
      let one : P e ≡ true = grind arith in
      let two : Q e ≡ true = grind arith in
      let a : list_all P es ≡ true = grind arith in
      let b : list_all Q es ≡ true = grind arith in
      let rest : list_all (λ x. P x && Q x) es ≡ true = all_both P Q es a b in
      rw (one, two) rest

  -- ---- cells that are given up

  drops_here : (e : ℕ × X) (es : List (ℕ × X)) → remove_entry (is_at (nat_cmp e.0)) (e ∷ es) ≡ es
  drops_here e es = grind (arith, nat_tests)

  drops_past : (p : ℕ) (e : ℕ × X) (es : List (ℕ × X)) → e.0 < p → remove_entry (is_at (nat_cmp p)) (e ∷ es) ≡ e ∷ remove_entry (is_at (nat_cmp p)) es
  drops_past p e es h = grind (arith, nat_tests)

  -- positions past the first cell leave it
  leaves_first : (ps : List ℕ) (e : ℕ × X) (es : List (ℕ × X)) → list_all (λ p. nat_lt e.0 p) ps ≡ true → without ps (e ∷ es) ≡ e ∷ without ps es
  leaves_first [] e es h = refl
  leaves_first (p ∷ ps) e es h =
      let up : e.0 < p = grind (arith, nat_tests) in
      let rest : list_all (λ q. nat_lt e.0 q) ps ≡ true = grind arith in
      ap (remove_entry (is_at (nat_cmp p))) (leaves_first ps e es rest) ∙ drops_past p e (without ps es) up

  above : (p : ℕ) (f : ℕ × X → Bool) (es : List (ℕ × X)) → AllByRecursion (λ y. nat_cmp p y ≡ Less) (keys_of es) → list_all (λ q. nat_lt p q) (map position (filter f es)) ≡ true
  above p f [] h = refl
  above p f (e ∷ es) h =
      let head : nat_lt p e.0 ≡ true = grind (arith, nat_tests, h.0) in
      let rest : list_all (λ q. nat_lt p q) (map position (filter f es)) ≡ true = above p f es h.1 in
      by (f e) refl head rest
    where
      by : (b : Bool) → f e ≡ b → nat_lt p e.0 ≡ true → list_all (λ q. nat_lt p q) (map position (filter f es)) ≡ true → list_all (λ q. nat_lt p q) (map position (filter f (e ∷ es))) ≡ true
      by true is head rest = grind arith
      by false is head rest = grind arith

  pub without_all : (f g : ℕ × X → Bool) → ((e : ℕ × X) → g e ≡ not (f e)) → (es : List (ℕ × X)) → IsStrictlySortedBy nat_cmp (keys_of es) → without (map position (filter f es)) es ≡ filter g es
  without_all f g other [] h = refl
  without_all f g other (e ∷ es) h =
      let rest : without (map position (filter f es)) es ≡ filter g es = without_all f g other es (sorted_tail nat_cmp e.0 (keys_of es) h) in
      let up : list_all (λ q. nat_lt e.0 q) (map position (filter f es)) ≡ true = above e.0 f es (sorted_head nat_cmp e.0 (keys_of es) h) in
      let first : without (map position (filter f es)) (e ∷ es) ≡ e ∷ filter g es = leaves_first (map position (filter f es)) e es up ∙ ap (λ (l : List (ℕ × X)). e ∷ l) rest in
      by (f e) refl first
    where
      by : (b : Bool) → f e ≡ b → without (map position (filter f es)) (e ∷ es) ≡ e ∷ filter g es → without (map position (filter f (e ∷ es))) (e ∷ es) ≡ filter g (e ∷ es)
      by true is first =
          let out : g e ≡ false = other e ∙ ap not is in
          ap (λ b. without (map position (cond b (e ∷ filter f es) (filter f es))) (e ∷ es)) is
          ∙ ap (remove_entry (is_at (nat_cmp e.0))) first
          ∙ drops_here e (filter g es)
          ∙ ap (λ b. cond b (e ∷ filter g es) (filter g es)) (sym out)
      by false is first =
          let stays : g e ≡ true = other e ∙ ap not is in
          ap (λ b. without (map position (cond b (e ∷ filter f es) (filter f es))) (e ∷ es)) is
          ∙ first
          ∙ ap (λ b. cond b (e ∷ filter g es) (filter g es)) (sym stays)

  -- two filters are one
  twice-if : (f g : ℕ × X → Bool) (e : ℕ × X) (es : List (ℕ × X)) (b : Bool) → g e ≡ b → filter f (filter g es) ≡ filter (λ x. g x && f x) es → filter f (filter g (e ∷ es)) ≡ filter (λ x. g x && f x) (e ∷ es)
  twice-if f g e es true is h = ap (λ b. filter f (cond b (e ∷ filter g es) (filter g es))) is ∙ ap (λ (l : List (ℕ × X)). cond (f e) (e ∷ l) l) h ∙ ap (λ b. cond (b && f e) (e ∷ filter (λ x. g x && f x) es) (filter (λ x. g x && f x) es)) (sym is)
  twice-if f g e es false is h = ap (λ b. filter f (cond b (e ∷ filter g es) (filter g es))) is ∙ h ∙ ap (λ b. cond (b && f e) (e ∷ filter (λ x. g x && f x) es) (filter (λ x. g x && f x) es)) (sym is)

  pub filtered_twice : (f g : ℕ × X → Bool) (es : List (ℕ × X)) → filter f (filter g es) ≡ filter (λ x. g x && f x) es
  filtered_twice f g [] = refl
  filtered_twice f g (e ∷ es) = twice-if f g e es (g e) refl (filtered_twice f g es)

  -- a filter that all pass
  pub all_pass : (f : ℕ × X → Bool) → ((e : ℕ × X) → f e ≡ true) → (es : List (ℕ × X)) → filter f es ≡ es
  all_pass f h [] = refl
  all_pass f h (e ∷ es) = ap (λ b. cond b (e ∷ filter f es) (filter f es)) (h e) ∙ ap (λ (l : List (ℕ × X)). e ∷ l) (all_pass f h es)
