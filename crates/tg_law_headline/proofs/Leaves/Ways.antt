-- What a client is left of its view, of what it hosts, and of its own records with their pages.
use Rattle.std.proofs.Common.{◌≡◌, ◌⊎◌, ℕ, List, [], ◌∷◌, filter, Bool, true, false, cond, refl, sym, ap, ◌∙◌, subst, inl, inr, arith, nat_cmp, Option, Some, None}
use Rattle.std.specs.BTreeMap.{is_at}
use Rattle.std.specs.Prelude.{Contains, nat_le, not, ◌||◌, ◌==◌, is_some}
use Rattle.tg_base.specs.declared.cell.Cell.{Cell}
use Rattle.tg_kind.specs.Meaning.{Meaning}
use Rattle.tg_protocol.specs.Words.{cell_at, has_num}
use Rattle.tg_protocol.specs.Views.{View}
use Rattle.tg_protocol.specs.Clients.{Client, upto}
use Rattle.tg_protocol.specs.Answers.{keeps, is_page, pruned, took_over, walked}
use Rattle.tg_law_layouts.proofs.Moves.Members.{Has, has_contained}

-- a cell that passes a test is still found among those that pass
kept_cell : (f : ℕ × Cell → Bool) (cells : List (ℕ × Cell)) (p : ℕ) → ((x : ℕ × Cell) → x.0 ≡ p → f x ≡ true) → is_some (cell_at cells p) ≡ true → is_some (cell_at (filter f cells) p) ≡ true
kept_cell f [] p g k = k
kept_cell f (x ∷ cells) p g k = by (is_at (nat_cmp p) x.0) refl (f x) refl k (λ j. kept_cell f cells p g j)
  where
    same : is_at (nat_cmp p) x.0 ≡ true → x.0 ≡ p
    same e = grind arith

    first : (a : Bool) → is_at (nat_cmp p) x.0 ≡ a → (a ≡ true) ⊎ (is_some (cell_at (filter f cells) p) ≡ true) → is_some (cell_at (x ∷ filter f cells) p) ≡ true
    first true at i = ap (λ (b : Bool). is_some (cond b (Some x.1) (cell_at (filter f cells) p))) at
    first false at (inl e) = absurd (cc)
    first false at (inr e) = ap (λ (b : Bool). is_some (cond b (Some x.1) (cell_at (filter f cells) p))) at ∙ e

    by : (a : Bool) → is_at (nat_cmp p) x.0 ≡ a → (b : Bool) → f x ≡ b → is_some (cond a (Some x.1) (cell_at cells p)) ≡ true → (is_some (cell_at cells p) ≡ true → is_some (cell_at (filter f cells) p) ≡ true)
        → is_some (cell_at (cond b (x ∷ filter f cells) (filter f cells)) p) ≡ true
    by true at true passes h rest = first true at (inl refl)
    by false at true passes h rest = first false at (inr (rest h))
    by true at false passes h rest = absurd (no (g x (same at)) passes)
      where
        no : f x ≡ true → f x ≡ false → ⊥
        no e i = cc
    by false at false passes h rest = rest h

num_here : (p : ℕ) (ps : List ℕ) → Has ps p → has_num p ps ≡ true
num_here p [] i = absurd i
num_here p (q ∷ ps) (inl e) = here p q e
  where
    here : (a b : ℕ) → a ≡ b → ((a == b) || has_num a ps) ≡ true
    here a b e = grind arith
num_here p (q ∷ ps) (inr i) = there (p == q) (has_num p ps) (num_here p ps i)
  where
    there : (a b : Bool) → b ≡ true → (a || b) ≡ true
    there a b e = grind arith

module _ (m : Meaning) where
  -- what is left of a client: its view, what it hosts, and its own records with their cells
  pub record Keeps (c d : Client m) : Type 0 where
    pub num : d.num ≡ c.num
    pub own : d.own ≡ c.own
    pub pages : (p : ℕ) → Contains c.own p → is_some (cell_at c.cells p) ≡ true → is_some (cell_at d.cells p) ≡ true
    pub view : d.view ≡ c.view
    pub hosted : d.hosted ≡ c.hosted

  pub keeps_same : (c : Client m) → Keeps c c
  keeps_same c = record { num = refl; own = refl; pages = λ p i k. k; view = refl; hosted = refl }

  -- a reply gives up no page of the client's own records
  own_pages : (c : Client m) (p : ℕ) → Contains c.own p → is_some (cell_at c.cells p) ≡ true → is_some (cell_at (pruned m c).cells p) ≡ true
  own_pages c p i k = kept_cell (keeps m c) c.cells p (λ x is. owned (nat_le (upto m c) x.0) (has_num x.0 c.own) (not (is_page m x.1)) (subst (λ (n : ℕ). has_num n c.own ≡ true) (sym is) (num_here p c.own (has_contained c.own p i)))) k
    where
      owned : (a b c : Bool) → b ≡ true → (a || b || c) ≡ true
      owned a b c e = grind arith

  pub pruned_keeps : (c d : Client m) → Keeps c d → Keeps c (pruned m d)
  pruned_keeps c d k = record {
    num = k.num;
    own = k.own;
    pages = λ p i known. own_pages d p (subst (λ (ps : List ℕ). Contains ps p) (sym k.own) i) (k.pages p i known);
    view = k.view;
    hosted = k.hosted;
  }

  pub took_keeps : (c d : Client m) (v : Option (View m)) → Keeps c d → Keeps c (took_over m d v)
  took_keeps c d None k = k
  took_keeps c d (Some v) k = record { num = k.num; own = k.own; pages = k.pages; view = k.view; hosted = k.hosted }
