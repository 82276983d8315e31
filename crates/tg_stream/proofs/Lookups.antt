-- Look-ups among cells to which one has come.
use Rattle.std.proofs.Common.{◌≡◌, ◌≢◌, ℕ, ◌<◌, Less, Equal, Greater, true, false, cond, List, [], ◌∷◌, Some, refl, sym, ap, ◌∙◌, inl, inr, arith}
use Rattle.std.specs.Ordering.{nat_cmp, match_ordering}
use Rattle.std.specs.BTreeMap.{is_at}
use Rattle.std.proofs.lemmas.Bool.{cases_eq, cases_lt}
use Rattle.std.proofs.lemmas.Bool.Decides.{nat_tests}
use Rattle.tg_base.specs.declared.cell.Cell.{Cell}
use Rattle.tg_protocol.specs.Words.{cell_at, with_cell}

is-less : (p q : ℕ) → p < q → nat_cmp p q ≡ Less
is-less p q h = grind (arith, nat_tests)

is-equal : (p q : ℕ) → p ≡ q → nat_cmp p q ≡ Equal
is-equal p q h = grind (arith, nat_tests)

is-greater : (p q : ℕ) → q < p → nat_cmp p q ≡ Greater
is-greater p q h = grind (arith, nat_tests)

at-same : (p q : ℕ) → p ≡ q → is_at (nat_cmp p) q ≡ true
at-same p q h = grind (arith, nat_tests)

at-other : (p q : ℕ) → p ≢ q → is_at (nat_cmp p) q ≡ false
at-other p q h = grind (arith, nat_tests)

look-here : (p : ℕ) (e : ℕ × Cell) (es : List (ℕ × Cell)) → p ≡ e.0 → cell_at (e ∷ es) p ≡ Some e.1
look-here p e es h = ap (λ b. cond b (Some e.1) (cell_at es p)) (at-same p e.0 h)

look-past : (p : ℕ) (e : ℕ × Cell) (es : List (ℕ × Cell)) → p ≢ e.0 → cell_at (e ∷ es) p ≡ cell_at es p
look-past p e es h = ap (λ b. cond b (Some e.1) (cell_at es p)) (at-other p e.0 h)

put-before : (e : ℕ × Cell) (es : List (ℕ × Cell)) (k : ℕ) (c : Cell) → k < e.0 → with_cell (e ∷ es) k c ≡ (k, c) ∷ e ∷ es
put-before e es k c h = ap (λ o. match_ordering o ((k, c) ∷ e ∷ es) ((e.0, c) ∷ es) (e ∷ with_cell es k c)) (is-less k e.0 h)

put-here : (e : ℕ × Cell) (es : List (ℕ × Cell)) (k : ℕ) (c : Cell) → k ≡ e.0 → with_cell (e ∷ es) k c ≡ (e.0, c) ∷ es
put-here e es k c h = ap (λ o. match_ordering o ((k, c) ∷ e ∷ es) ((e.0, c) ∷ es) (e ∷ with_cell es k c)) (is-equal k e.0 h)

put-past : (e : ℕ × Cell) (es : List (ℕ × Cell)) (k : ℕ) (c : Cell) → e.0 < k → with_cell (e ∷ es) k c ≡ e ∷ with_cell es k c
put-past e es k c h = ap (λ o. match_ordering o ((k, c) ∷ e ∷ es) ((e.0, c) ∷ es) (e ∷ with_cell es k c)) (is-greater k e.0 h)

-- the cell that has come is found
pub found : (es : List (ℕ × Cell)) (q : ℕ) (c : Cell) → cell_at (with_cell es q c) q ≡ Some c
found [] q c = look-here q (q, c) [] refl
found (e ∷ es) q c =
    elim (cases_lt q e.0) [
      | inl lt ↦ ap (λ xs. cell_at xs q) (put-before e es q c lt) ∙ look-here q (q, c) (e ∷ es) refl
      | inr le ↦
          elim (cases_eq q e.0) [
            | inl same ↦ ap (λ xs. cell_at xs q) (put-here e es q c same) ∙ look-here q (e.0, c) es same
            | inr other ↦ ap (λ xs. cell_at xs q) (put-past e es q c (omega arith)) ∙ look-past q e (with_cell es q c) other ∙ found es q c
          ]
    ]

-- and the others as before
pub others : (es : List (ℕ × Cell)) (q r : ℕ) (c : Cell) → r ≢ q → cell_at (with_cell es q c) r ≡ cell_at es r
others [] q r c ne = look-past r (q, c) [] ne
others (e ∷ es) q r c ne =
    elim (cases_lt q e.0) [
      | inl lt ↦ ap (λ xs. cell_at xs r) (put-before e es q c lt) ∙ look-past r (q, c) (e ∷ es) ne
      | inr le ↦
          elim (cases_eq q e.0) [
            | inl same ↦
                let apart : r ≢ e.0 = λ h. ne (omega arith) in
                ap (λ xs. cell_at xs r) (put-here e es q c same) ∙ look-past r (e.0, c) es apart ∙ sym (look-past r e es apart)
            | inr other ↦
                ap (λ xs. cell_at xs r) (put-past e es q c (omega arith))
                ∙ elim (cases_eq r e.0) [
                  | inl here ↦ look-here r e (with_cell es q c) here ∙ sym (look-here r e es here)
                  | inr past ↦ look-past r e (with_cell es q c) past ∙ others es q r c ne ∙ sym (look-past r e es past)
                ]
          ]
    ]
