-- The row of packets that wait: one more at the end, and one that waits no more.
use Rattle.std.specs.Prelude.{◌≡◌, ◌≢◌, ℕ, zero, suc, ◌+◌, ◌<◌, ◌≤◌, Bool, true, false, List, [], ◌∷◌, ◌++◌, length, slice_set, slice_index_or, Some, None, refl}
use Rattle.std.proofs.Common.{sym, ap, ◌∙◌, arith}
use Rattle.std.proofs.Math.Nat.{zero-add}
use Rattle.std.proofs.lemmas.List.{length_push, length-set}
use Rattle.std.proofs.lemmas.Bool.Decides.{nat_tests}
use Rattle.tg_world_servers.specs.Posts.{first_of, without}
use Rattle.tg_world_servers.specs.Waits.{Waits, open_from, first_open}

-- ---- the first open place

pub first_within : (ws : List Bool) → first_open ws ≤ length ws
first_within [] = omega arith
first_within (true ∷ ws) = omega arith
first_within (false ∷ ws) = let h : first_open ws ≤ length ws = first_within ws in omega (arith, h)

pub first_is : (n k : ℕ) (ws : List Bool) → k ≡ n + first_open ws → first_open ws < length ws → Some k ≡ first_of (open_from n ws)
first_is n k [] e h = absurd (omega (arith, h))
first_is n k (true ∷ ws) e h = let f : k ≡ n = omega (arith, e) in ap Some f
first_is n k (false ∷ ws) e h = first_is (n + 1) k ws (omega (arith, e)) (omega (arith, h))

pub none_is : (n : ℕ) (ws : List Bool) → length ws ≤ first_open ws → None ≡ first_of (open_from n ws)
none_is n [] h = refl
none_is n (true ∷ ws) h = absurd (omega (arith, h))
none_is n (false ∷ ws) h = none_is (n + 1) ws (omega (arith, h))

-- ---- one more

pub first_more : (ws : List Bool) → first_open (ws ++ true ∷ []) ≡ first_open ws
first_more [] = refl
first_more (true ∷ ws) = refl
first_more (false ∷ ws) = ap (λ n. 1 + n) (first_more ws)

pub open_more : (n : ℕ) (ws : List Bool) → open_from n (ws ++ true ∷ []) ≡ open_from n ws ++ (n + length ws) ∷ []
open_more n [] = let e : n ≡ n + 0 = omega arith in λ i. e i ∷ []
open_more n (true ∷ ws) = let e : n + 1 + length ws ≡ n + length (true ∷ ws) = omega arith in λ i. n ∷ (open_more (n + 1) ws ∙ ap (λ k. open_from (n + 1) ws ++ k ∷ []) e) i
open_more n (false ∷ ws) = let e : n + 1 + length ws ≡ n + length (false ∷ ws) = omega arith in open_more (n + 1) ws ∙ ap (λ k. open_from (n + 1) ws ++ k ∷ []) e

pub is_sent : (ws vs : List Bool) → vs ≡ ws ++ true ∷ [] → ◌≡◌ {A = Waits} (record { sent = length vs; numbers = open_from 0 vs }) (record { sent = length ws + 1; numbers = open_from 0 ws ++ length ws ∷ [] })
is_sent ws vs e =
    let long : length vs ≡ length ws + 1 = ap length e ∙ length_push ws true in
    λ i. record { sent = long i; numbers = (ap (open_from 0) e ∙ open_more 0 ws ∙ ap (λ n. open_from 0 ws ++ n ∷ []) (zero-add (length ws))) i }

-- ---- one that waits no more

other : (i n : ℕ) (ns : List ℕ) → i ≢ n → without i (n ∷ ns) ≡ n ∷ without i ns
other i n ns h = grind (arith, nat_tests)

same : (i n : ℕ) (ns : List ℕ) → i ≡ n → without i (n ∷ ns) ≡ without i ns
same i n ns h = grind (arith, nat_tests)

-- a number before all places
before : (i n : ℕ) (ws : List Bool) → i < n → without i (open_from n ws) ≡ open_from n ws
before i n [] h = refl
before i n (true ∷ ws) h = other i n (open_from (n + 1) ws) (omega (arith, h)) ∙ ap (λ ns. n ∷ ns) (before i (n + 1) ws (omega (arith, h)))
before i n (false ∷ ws) h = before i (n + 1) ws (omega (arith, h))

closed : (i n k : ℕ) (ws : List Bool) → i ≡ n + k → open_from n (slice_set ws k false) ≡ without i (open_from n ws)
closed i n k [] e = refl
closed i n zero (true ∷ ws) e = sym (same i n (open_from (n + 1) ws) (omega (arith, e)) ∙ before i (n + 1) ws (omega (arith, e)))
closed i n zero (false ∷ ws) e = sym (before i (n + 1) ws (omega (arith, e)))
closed i n (suc k) (true ∷ ws) e = ap (λ ns. n ∷ ns) (closed i (n + 1) k ws (omega (arith, e))) ∙ sym (other i n (open_from (n + 1) ws) (omega (arith, e)))
closed i n (suc k) (false ∷ ws) e = closed i (n + 1) k ws (omega (arith, e))

pub is_closed : (ws vs : List Bool) (k : ℕ) → vs ≡ slice_set ws k false → ◌≡◌ {A = Waits} (record { sent = length vs; numbers = open_from 0 vs }) (record { sent = length ws; numbers = without k (open_from 0 ws) })
is_closed ws vs k e = λ i. record { sent = (ap length e ∙ length-set ws k false) i; numbers = (ap (open_from 0) e ∙ closed k 0 k ws (omega arith)) i }

-- ---- the search for the next that waits

pub first_closed : (k : ℕ) (ws : List Bool) → first_open ws ≤ first_open (slice_set ws k false)
first_closed k [] = omega arith
first_closed k (true ∷ ws) = omega arith
first_closed zero (false ∷ ws) = omega arith
first_closed (suc k) (false ∷ ws) = let h : first_open ws ≤ first_open (slice_set ws k false) = first_closed k ws in omega (arith, h)

pub goes_on : (n : ℕ) (ws : List Bool) → n ≤ first_open ws → n < length ws → slice_index_or ws n false ≡ false → n + 1 ≤ first_open ws
goes_on n [] l h e = absurd (omega (arith, h))
goes_on zero (true ∷ ws) l h e = let f : true ≡ false = e in absurd cc
goes_on zero (false ∷ ws) l h e = omega arith
goes_on (suc n) (true ∷ ws) l h e = absurd (omega (arith, l))
goes_on (suc n) (false ∷ ws) l h e = let k : n + 1 ≤ first_open ws = goes_on n ws (omega (arith, l)) (omega (arith, h)) e in omega (arith, k)

pub ends : (n : ℕ) (ws : List Bool) → n ≤ first_open ws → n < length ws → slice_index_or ws n false ≡ true → n ≡ first_open ws
ends n [] l h e = absurd (omega (arith, h))
ends zero (true ∷ ws) l h e = refl
ends zero (false ∷ ws) l h e = let f : false ≡ true = e in absurd cc
ends (suc n) (true ∷ ws) l h e = absurd (omega (arith, l))
ends (suc n) (false ∷ ws) l h e = let k : n ≡ first_open ws = ends n ws (omega (arith, l)) (omega (arith, h)) e in omega (arith, k)
