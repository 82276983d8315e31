-- What is settled stays so.
use Rattle.std.proofs.Common.{◌≡◌, ℕ, ◌≤◌, Bool, true, false, cond, not, ◌&&◌, ◌||◌, List, [], ◌∷◌, filter, nat_lt, Some, refl, sym, ap, ◌∙◌, arith}
use Rattle.std.specs.Prelude.{◌==◌, nat_le, min, max}
use Rattle.std.specs.List.{list_all}
use Rattle.std.proofs.lemmas.Bool.Decides.{nat_tests}
use Rattle.tg_base.specs.declared.cell.Cell.{Cell}
use Rattle.tg_protocol.specs.Words.{has_num, with_num, with_cell}
use Rattle.tg_client_cells.specs.Words.{commits_by, is_page, is_within, cells_within}
use Rattle.tg_protocol.specs.Pages.{cell_entry}
use Rattle.tg_client_cells.specs.Known.{settles, is_own_commit, IsSettled, keeps, commits_if_own}
use Rattle.tg_client_cells.specs.Pruned.{stays}
use Rattle.tg_client_cells.specs.Walks.{SameBelow}
use Rattle.tg_client_cells.proofs.Unions.{has_one}
use Rattle.tg_client_cells.proofs.Cells.{all_put, all_then, all_both, all_below, all_kept, filters_agree}

-- by the tests of which it is made
settle-test : ℕ → ℕ → Bool → Bool → Bool
settle-test s p page own = nat_le s p || not page || own

lower-test : (s t p : ℕ) (page own : Bool) → t ≤ s → settle-test s p page own ≡ true → settle-test t p page own ≡ true
unfolding settle-test
lower-test s t p page own le h = grind (arith, nat_tests)

-- settled below a lower position
pub lower : (own : List ℕ) (s t : ℕ) (cells : List (ℕ × Cell)) → t ≤ s → IsSettled own s cells → IsSettled own t cells
unfolding settle-test
lower own s t cells le h = all_then (settles own s) (settles own t) (λ e. lower-test s t e.0 (is_page e.1) (is_own_commit own e) le) cells h

-- a cell at or past the position
pub put : (own : List ℕ) (s p : ℕ) (c : Cell) (cells : List (ℕ × Cell)) → s ≤ p → IsSettled own s cells → IsSettled own s (with_cell cells p c)
put own s p c cells le h = let free : nat_le s p ≡ true = grind (arith, nat_tests) in all_put (settles own s) cells p c h (ap (λ b. b || not (is_page c) || is_own_commit own (p, c)) free)

pub learnt_settled : (own : List ℕ) (s p : ℕ) (c : Cell) (cells : List (ℕ × Cell)) → IsSettled own s cells → IsSettled own (min s p) (with_cell cells p c)
learnt_settled own s p c cells h =
    let down : min s p ≤ s = grind (arith, nat_tests) in
    let from : min s p ≤ p = grind (arith, nat_tests) in
    put own (min s p) p c cells from (lower own s (min s p) cells down h)

-- from a position on, which may be lower
pub lent_settled : (own : List ℕ) (s lo : ℕ) (cells : List (ℕ × Cell)) → IsSettled own s cells → IsSettled own (min s lo) cells
lent_settled own s lo cells h = let down : min s lo ≤ s = grind (arith, nat_tests) in lower own s (min s lo) cells down h

own-test : (free page has has_more commits : Bool) → (has ≡ true → has_more ≡ true) → (free || not page || (has && commits)) ≡ true → (free || not page || (has_more && commits)) ≡ true
own-test true page has more commits up h = refl
own-test false false has more commits up h = refl
own-test false true true more commits up h = let is : more ≡ true = up refl in rw is h
own-test false true false more commits up h = absurd cc

-- one own position more
pub own_more : (own : List ℕ) (s p : ℕ) (cells : List (ℕ × Cell)) → IsSettled own s cells → IsSettled (with_num p own) s cells
own_more own s p cells h =
    all_then (settles own s) (settles (with_num p own) s)
    (λ e. own-test (nat_le s e.0) (is_page e.1) (has_num e.0 own) (has_num e.0 (with_num p own)) (commits_by (cell_entry (Some e.1))) (more e.0)) cells h
  where
    more : (q : ℕ) → has_num q own ≡ true → has_num q (with_num p own) ≡ true
    more q has = has_one q p own ∙ or-true (q == p) (has_num q own) has
      where
        or-true : (a b : Bool) → b ≡ true → (a || b) ≡ true
        or-true true b h = refl
        or-true false b h = h

pub owned_settled : (own : List ℕ) (s p : ℕ) (c : Cell) (cells : List (ℕ × Cell)) → IsSettled own s cells → IsSettled (with_num p own) (min s p) (with_cell cells p c)
owned_settled own s p c cells h = own_more own (min s p) p (with_cell cells p c) (learnt_settled own s p c cells h)

-- ---- what a reply gives up

keep-test : (s upto p : ℕ) (page has commits : Bool) → (nat_le s p || not page || (has && commits)) ≡ true → not (is_within s upto p && (page && not has)) ≡ (nat_le upto p || has || not page)
keep-test s upto p true true commits h = grind (arith, nat_tests)
keep-test s upto p true false commits h = grind (arith, nat_tests)
keep-test s upto p false true commits h = grind (arith, nat_tests)
keep-test s upto p false false commits h = grind (arith, nat_tests)

-- only pages from the settled position on are given up
pub pruned_is : (own : List ℕ) (s upto : ℕ) (cells : List (ℕ × Cell)) → IsSettled own s cells → filter (stays own s upto) cells ≡ filter (keeps upto own) cells
pruned_is own s upto cells h =
    filters_agree (settles own s) (stays own s upto) (keeps upto own)
    (λ e. keep-test s upto e.0 (is_page e.1) (has_num e.0 own) (commits_by (cell_entry (Some e.1)))) cells h

-- what is kept is settled as before
pub stays_settled : (own : List ℕ) (s upto : ℕ) (cells : List (ℕ × Cell)) → IsSettled own s cells → IsSettled own s (filter (keeps upto own) cells)
stays_settled own s upto cells h = all_kept (settles own s) (keeps upto own) (settles own s) (λ e is k. is) cells h

-- what is tested in a range, of all
within-test : (f : ℕ × Cell → Bool) (low high : ℕ) (e : ℕ × Cell) (cells : List (ℕ × Cell)) (b : Bool) → is_within low high e.0 ≡ b →
    list_all f (cells_within low high cells) ≡ list_all (λ x. not (is_within low high x.0) || f x) cells → list_all f (cells_within low high (e ∷ cells)) ≡ list_all (λ x. not (is_within low high x.0) || f x) (e ∷ cells)
within-test f low high e cells true is h = grind arith
within-test f low high e cells false is h = grind arith

all-within : (f : ℕ × Cell → Bool) (low high : ℕ) (cells : List (ℕ × Cell)) → list_all f (cells_within low high cells) ≡ list_all (λ x. not (is_within low high x.0) || f x) cells
all-within f low high [] = refl
all-within f low high (e ∷ cells) = within-test f low high e cells (is_within low high e.0) refl (all-within f low high cells)

abbrev both-tests : List ℕ → ℕ → ℕ → ℕ × Cell → Bool
both-tests own s upto e = settles own s e && (not (is_within s upto e.0) || commits_if_own own e)

up-test : (s upto p : ℕ) (page has commits : Bool) → ((nat_le s p || not page || (has && commits)) && (not (is_within s upto p) || (not has || commits))) ≡ true → (nat_le upto p || has || not page) ≡ true →
    (nat_le (max s upto) p || not page || (has && commits)) ≡ true
up-test s upto p true true true h k = grind (arith, nat_tests)
up-test s upto p true true false h k = grind (arith, nat_tests)
up-test s upto p true false commits h k = grind (arith, nat_tests)
up-test s upto p false true commits h k = grind (arith, nat_tests)
up-test s upto p false false commits h k = grind (arith, nat_tests)

-- where all own pages in the range are commit records, all that is kept below it is settled
pub goes_up : (own : List ℕ) (s upto : ℕ) (cells : List (ℕ × Cell)) → IsSettled own s cells → list_all (commits_if_own own) (cells_within s upto cells) ≡ true → IsSettled own (max s upto) (filter (keeps upto own) cells)
goes_up own s upto cells h all =
    let ranged : list_all (λ x. not (is_within s upto x.0) || commits_if_own own x) cells ≡ true = sym (all-within (commits_if_own own) s upto cells) ∙ all in
    all_kept (both-tests own s upto) (keeps upto own) (settles own (max s upto))
    (λ e. up-test s upto e.0 (is_page e.1) (has_num e.0 own) (commits_by (cell_entry (Some e.1)))) cells (all_both (settles own s) (λ x. not (is_within s upto x.0) || commits_if_own own x) cells h ranged)

pub given_settled : (own : List ℕ) (s upto : ℕ) (cells : List (ℕ × Cell)) (b : Bool) → list_all (commits_if_own own) (cells_within s upto cells) ≡ b → IsSettled own s cells →
    IsSettled own (cond b (max s upto) s) (filter (keeps upto own) cells)
given_settled own s upto cells true is h = goes_up own s upto cells h is
given_settled own s upto cells false is h = stays_settled own s upto cells h

-- ---- cells that come back

free-above : (own : List ℕ) (s lo : ℕ) → s ≤ lo → (e : ℕ × Cell) → nat_lt e.0 lo ≡ false → settles own s e ≡ true
free-above own s lo le e up = let free : nat_le s e.0 ≡ true = grind (arith, nat_tests) in ap (λ b. b || not (is_page e.1) || is_own_commit own e) free

-- after a walk the cells are settled as before
pub back_settled : (own : List ℕ) (s lo : ℕ) (old new : List (ℕ × Cell)) → s ≤ lo → SameBelow lo old new → IsSettled own s old → IsSettled own s new
back_settled own s lo old new le same h =
    all_below (settles own s) lo (free-above own s lo le) new
    ∙ ap (list_all (settles own s)) same
    ∙ sym (all_below (settles own s) lo (free-above own s lo le) old)
    ∙ h
