-- Chains after a change.
use Rattle.std.proofs.Common.{◌≡◌, ℕ, zero, suc, ◌+◌, ◌-◌, ◌<◌, ◌≤◌, Bool, true, false, cond, not, get_or, List, [], ◌∷◌, ◌++◌, length, take, drop, Some, None, refl, ap, sym, ◌∙◌, arith, add-one, add-zero, zero-add, append_assoc}
use Rattle.std.specs.Prelude.{fold, find}
use Rattle.std.specs.Option.{option_or}
use Rattle.std.specs.List.{concat}
use Rattle.std.proofs.Common.{length-append, append-nil}
use Rattle.std.proofs.lemmas.List.Elements.{filter_more}
use Rattle.std.proofs.lemmas.List.Folds.{concat-append, find-append}
use Rattle.tg_base.specs.declared.layout.Range.{Range}
use Rattle.tg_base.specs.Units.{has}
use Rattle.tg_base.specs.Changes.{Changed}
use Rattle.tg_proj.specs.Next.{kept, next_chain, next_chains, next_range, next_ranges, opened_at}
use Rattle.tg_proj.specs.Refusals.{units_of}

-- what a walk along a chain has kept
pub record KeptSoFar (dropped chain : List ℕ) (i : ℕ) (units : List ℕ) : Type 0 where
  pub items : units ≡ kept dropped (take i chain)
  pub few : length units ≤ i

pub KeptSoFar-yes : (dropped chain : List ℕ) (i : ℕ) (units : List ℕ) (d : ℕ) → KeptSoFar dropped chain i units → i < length chain
    → has dropped (get_or chain i d) ≡ false → KeptSoFar dropped chain (i + 1) (units ++ get_or chain i d ∷ [])
KeptSoFar-yes dropped chain i units d h within stays =
    let u = get_or chain i d in
    let more = filter_more (λ v. not (has dropped v)) chain i d within in
    let one : cond (not (has dropped u)) (u ∷ []) [] ≡ u ∷ [] = ap (λ b. cond (not b) (u ∷ []) []) stays in
    let long : length (units ++ u ∷ []) ≡ length units + 1 = length-append units (u ∷ []) in
    record { items = ap (λ xs. xs ++ u ∷ []) h.items ∙ ap (λ ys. kept dropped (take i chain) ++ ys) (sym one) ∙ sym more; few = omega (arith, h.few, long) }

pub KeptSoFar-no : (dropped chain : List ℕ) (i : ℕ) (units : List ℕ) (d : ℕ) → KeptSoFar dropped chain i units → i < length chain
    → has dropped (get_or chain i d) ≡ true → KeptSoFar dropped chain (i + 1) units
KeptSoFar-no dropped chain i units d h within goes =
    let u = get_or chain i d in
    let more = filter_more (λ v. not (has dropped v)) chain i d within in
    let none : cond (not (has dropped u)) (u ∷ []) [] ≡ [] = ap (λ b. cond (not b) (u ∷ []) []) goes in
    record { items = h.items ∙ sym (append-nil _) ∙ ap (λ ys. kept dropped (take i chain) ++ ys) (sym none) ∙ sym more; few = omega (arith, h.few) }

-- ---- one more chain, and one more range

pub next_chains_more : (c : Changed) (n k : ℕ) (xs : List (List ℕ)) (i : ℕ) (d : List ℕ) → i < length xs
    → next_chains c n k (take (suc i) xs) ≡ next_chains c n k (take i xs) ++ next_chain c n (k + i) (get_or xs i d) ∷ []
next_chains_more c n k [] i d h = absurd (omega arith)
next_chains_more c n k (x ∷ xs) zero d h = ap (λ m. next_chain c n m x ∷ []) (sym (add-zero k))
next_chains_more c n k (x ∷ xs) (suc i) d h =
    let place : (k + 1) + i ≡ k + suc i = omega arith in
    ap (λ ys. next_chain c n k x ∷ ys) (next_chains_more c n (k + 1) xs i d (omega arith) ∙ ap (λ m. next_chains c n (k + 1) (take i xs) ++ next_chain c n m (get_or xs i d) ∷ []) place)

pub next_ranges_more : (c : Changed) (n : ℕ) (xs : List Range) (i : ℕ) (d : Range) → i < length xs
    → next_ranges c n (take (suc i) xs) ≡ next_ranges c n (take i xs) ++ next_range c (n + i) (get_or xs i d) ∷ []
next_ranges_more c n [] i d h = absurd (omega arith)
next_ranges_more c n (x ∷ xs) zero d h = ap (λ m. next_range c m x ∷ []) (sym (add-zero n))
next_ranges_more c n (x ∷ xs) (suc i) d h =
    let place : (n + 1) + i ≡ n + suc i = omega arith in
    ap (λ ys. next_range c n x ∷ ys) (next_ranges_more c (n + 1) xs i d (omega arith) ∙ ap (λ m. next_ranges c (n + 1) (take i xs) ++ next_range c m (get_or xs i d) ∷ []) place)

-- ---- what stands at a place

pub length-next_chains : (c : Changed) (n k : ℕ) (xs : List (List ℕ)) → length (next_chains c n k xs) ≡ length xs
length-next_chains c n k [] = refl
length-next_chains c n k (x ∷ xs) = ap suc (length-next_chains c n (k + 1) xs)

pub length-next_ranges : (c : Changed) (n : ℕ) (xs : List Range) → length (next_ranges c n xs) ≡ length xs
length-next_ranges c n [] = refl
length-next_ranges c n (x ∷ xs) = ap suc (length-next_ranges c (n + 1) xs)

pub get_or-next_chains : (c : Changed) (n k : ℕ) (xs : List (List ℕ)) (i : ℕ) (d e : List ℕ) → i < length xs
    → get_or (next_chains c n k xs) i d ≡ next_chain c n (k + i) (get_or xs i e)
get_or-next_chains c n k [] i d e h = absurd (omega arith)
get_or-next_chains c n k (x ∷ xs) zero d e h = ap (λ m. next_chain c n m x) (sym (add-zero k))
get_or-next_chains c n k (x ∷ xs) (suc i) d e h =
    let place : (k + 1) + i ≡ k + suc i = omega arith in
    get_or-next_chains c n (k + 1) xs i d e (omega arith) ∙ ap (λ m. next_chain c n m (get_or xs i e)) place

pub get_or-next_ranges : (c : Changed) (n : ℕ) (xs : List Range) (i : ℕ) (d e : Range) → i < length xs
    → get_or (next_ranges c n xs) i d ≡ next_range c (n + i) (get_or xs i e)
get_or-next_ranges c n [] i d e h = absurd (omega arith)
get_or-next_ranges c n (x ∷ xs) zero d e h = ap (λ m. next_range c m x) (sym (add-zero n))
get_or-next_ranges c n (x ∷ xs) (suc i) d e h =
    let place : (n + 1) + i ≡ n + suc i = omega arith in
    get_or-next_ranges c (n + 1) xs i d e (omega arith) ∙ ap (λ m. next_range c m (get_or xs i e)) place

-- ---- the step of a loop

pub next_chains_step : (c : Changed) (n : ℕ) (xs : List (List ℕ)) (i : ℕ) (d : List ℕ) → i < length xs
    → next_chains c n 0 (take (i + 1) xs) ≡ next_chains c n 0 (take i xs) ++ next_chain c n i (get_or xs i d) ∷ []
next_chains_step c n xs i d h =
    ap (λ m. next_chains c n 0 (take m xs)) (add-one i) ∙ next_chains_more c n 0 xs i d h
    ∙ ap (λ m. next_chains c n 0 (take i xs) ++ next_chain c n m (get_or xs i d) ∷ []) (zero-add i)

pub next_ranges_step : (c : Changed) (xs : List Range) (i : ℕ) (d : Range) → i < length xs
    → next_ranges c 0 (take (i + 1) xs) ≡ next_ranges c 0 (take i xs) ++ next_range c i (get_or xs i d) ∷ []
next_ranges_step c xs i d h =
    ap (λ m. next_ranges c 0 (take m xs)) (add-one i) ∙ next_ranges_more c 0 xs i d h
    ∙ ap (λ m. next_ranges c 0 (take i xs) ++ next_range c m (get_or xs i d) ∷ []) (zero-add i)

pub fold-append : {A B : Type 0} (f : B → A → B) (b : B) (xs ys : List A) → fold f b (xs ++ ys) ≡ fold f (fold f b xs) ys
fold-append f b [] ys = refl
fold-append f b (x ∷ xs) ys = fold-append f (f b x) xs ys

-- a fold along chains goes on with one more
pub fold_chain : {B : Type 0} (f : B → ℕ → B) (b : B) (xs : List (List ℕ)) (x : List ℕ) → fold f b (concat (xs ++ x ∷ [])) ≡ fold f (fold f b (concat xs)) x
fold_chain f b xs x = ap (fold f b) (concat-append xs (x ∷ []) ∙ ap (λ ys. concat xs ++ ys) (append-nil x)) ∙ fold-append f b (concat xs) x

pub units_of-append : (rs ss : List Range) → units_of (rs ++ ss) ≡ units_of rs ++ units_of ss
units_of-append [] ss = refl
units_of-append (r ∷ rs) ss = ap (λ us. concat r.stripes ++ us) (units_of-append rs ss) ∙ sym (append_assoc (concat r.stripes) (units_of rs) (units_of ss))

-- and along ranges
pub fold_range : {B : Type 0} (f : B → ℕ → B) (b : B) (rs : List Range) (r : Range) → fold f b (units_of (rs ++ r ∷ [])) ≡ fold f (fold f b (units_of rs)) (concat r.stripes)
fold_range f b rs r =
    ap (fold f b) (units_of-append rs (r ∷ []) ∙ ap (λ us. units_of rs ++ us) (append-nil (concat r.stripes))) ∙ fold-append f b (units_of rs) (concat r.stripes)

pub units_of-opened : (chains : List (List ℕ)) (start : ℕ) → units_of (opened_at chains start) ≡ concat chains
units_of-opened [] start = refl
units_of-opened (x ∷ xs) start = append-nil (concat (x ∷ xs))

-- ---- a search through two lists

pub found_first : (p : ℕ → Bool) (xs ys : List ℕ) (u : ℕ) → find p xs ≡ Some u → find p (xs ++ ys) ≡ Some u
found_first p xs ys u h = find-append p xs ys ∙ ap (λ o. option_or o (find p ys)) h

pub found_later : (p : ℕ → Bool) (xs ys : List ℕ) → find p xs ≡ None → find p (xs ++ ys) ≡ find p ys
found_later p xs ys h = find-append p xs ys ∙ ap (λ o. option_or o (find p ys)) h

take_whole : {A : Type 0} (xs : List A) (n : ℕ) → n ≡ length xs → take n xs ≡ xs
take_whole [] zero h = refl
take_whole [] (suc n) h = absurd (omega arith)
take_whole (x ∷ xs) zero h = absurd (omega arith)
take_whole (x ∷ xs) (suc n) h = ap (λ ys. x ∷ ys) (take_whole xs n (omega arith))

pub first_chain : (xs : List (List ℕ)) (x : List ℕ) → 1 ≤ length xs → x ≡ get_or xs 0 x → concat xs ≡ x ++ concat (take (length xs - 1) (drop 1 xs))
first_chain [] x h e = absurd (omega arith)
first_chain (y ∷ ys) x h e =
    let rest : take (length (y ∷ ys) - 1) ys ≡ ys = take_whole ys (length (y ∷ ys) - 1) (omega arith) in
    ap (λ zs. zs ++ concat ys) (sym e) ∙ ap (λ zs. x ++ concat zs) (sym rest)
