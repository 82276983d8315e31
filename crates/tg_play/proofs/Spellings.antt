-- Ops from bytes.
use Rattle.std.specs.Prelude.{◌≡◌, ℕ, ◌-◌, ◌≤◌, Bool, cond, ◌&&◌, ◌==◌, List, [], ◌∷◌, length, Some, None, Result, Ok, Err, refl}
use Rattle.std.proofs.Common.{sym, ap, subst, ◌∙◌, ◌++◌, arith}
use Rattle.std.proofs.lemmas.Bool.Decides.{nat_tests}
use Rattle.tg_kind.specs.Bytes.{front}
use Rattle.tg_kind.specs.Of.{read_by}

all_taken : (n l : ℕ) → l ≤ n → (n - l == n) ≡ (l == 0)
all_taken n l h = grind (arith, nat_tests)

-- what follows a spelling is no longer than the whole
pub rest_fits : (bytes front rest : List ℕ) → bytes ≡ front ++ rest → length rest ≤ length bytes
rest_fits bytes front rest e = subst (λ (xs : List ℕ). length rest ≤ length xs) (sym e) (after front)
  where
    after : (xs : List ℕ) → length rest ≤ length (xs ++ rest)
    after [] = omega arith
    after (x ∷ xs) = let h : length rest ≤ length (xs ++ rest) = after xs in omega (arith, h)

module _ {O : Type 0} (is_of : O → Bool) (bytes : List ℕ) where
  ok_values : (x : O × List ℕ) (op : O) (n : ℕ) → front bytes (Ok x) ≡ Ok (op, n) → (x.0 ≡ op) × (length bytes - length x.1 ≡ n)
  ok_values x op n e =
      let pair : ◌≡◌ {A = O × ℕ} (x.0, length bytes - length x.1) (op, n) = cc in
      (ap (λ (p : O × ℕ). p.0) pair, ap (λ (p : O × ℕ). p.1) pair)

  pub op_read : (r : Result (O × List ℕ) ℕ) (op : O) (n : ℕ) → front bytes r ≡ Ok (op, n) → ((rest : List ℕ) → r ≡ Ok (op, rest) → length rest ≤ length bytes)
      → cond ((n == length bytes) && is_of op) (Some op) None ≡ read_by is_of r
  op_read (Ok x) op n e short =
      let p = ok_values x op n e in
      let same : x.0 ≡ op = p.0 in
      let less : length x.1 ≤ length bytes = short x.1 (λ i. Ok (same i, x.1)) in
      let test : (n == length bytes) ≡ (length x.1 == 0) = ap (λ (k : ℕ). k == length bytes) (sym p.1) ∙ all_taken (length bytes) (length x.1) less in
      (λ i. cond (test i && is_of (sym same i)) (Some (sym same i)) None)
  op_read (Err left) op n e short = absurd (differ e)
    where
      differ : front bytes (Err left) ≡ Ok (op, n) → ⊥
      differ h = cc

  pub op_unread : (r : Result (O × List ℕ) ℕ) (at : ℕ) → front bytes r ≡ Err at → None ≡ read_by is_of r
  op_unread (Ok x) at e = absurd (differ e)
    where
      differ : front bytes (Ok x) ≡ Err at → ⊥
      differ h = cc
  op_unread (Err left) at e = refl
