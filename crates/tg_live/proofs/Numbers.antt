-- The numbers at which a test gives true, and those that weren't delivered.
use Rattle.std.proofs.Common.{◌≡◌, ◌≢◌, ◌∙◌, ℕ, suc, zero, ◌+◌, ◌<◌, ◌≤◌, Bool, true, false, cond, not, nat_lt, List, [], ◌∷◌, ◌++◌, length, drop, slice_get, Some, None, refl, sym, ap, subst, arith, length-drop, drop-drop}
use Rattle.std.specs.Bool.{◌==◌}
use Rattle.std.proofs.lemmas.Bool.{eqb-true, eqb-false, lt-ltb, ltb-true}
use Rattle.std.proofs.lemmas.Bool.Decides.{nat_tests}
use Rattle.std.proofs.lemmas.List.Elements.{filter-append}
use Rattle.tg_live.specs.Matching.{where_so, without, undelivered, lowest, or_lowest}
use Rattle.tg_live.specs.Books.{AllBelow}

-- rising numbers from n on
abbrev pub Rising : ℕ → List ℕ → Type 0
Rising n [] = Unit {0}
Rising n (i ∷ is) = (n ≤ i) × Rising (i + 1) is

abbrev pub Lacks : ℕ → List ℕ → Type 0
Lacks i [] = Unit {0}
Lacks i (j ∷ js) = (i ≢ j) × Lacks i js

rising_weaker : (n m : ℕ) (is : List ℕ) → n ≤ m → Rising m is → Rising n is
rising_weaker n m [] l h = tt
rising_weaker n m (i ∷ is) l h = (omega (arith, l, h.0), h.1)

pub rising_drop : (k n : ℕ) (is : List ℕ) → Rising n is → Rising n (drop k is)
rising_drop zero n is h = h
rising_drop (suc k) n [] h = tt
rising_drop (suc k) n (i ∷ is) h = rising_weaker n (i + 1) (drop k is) (omega (arith, h.0)) (rising_drop k (i + 1) is h.1)

lacks_below : (i n : ℕ) (is : List ℕ) → i < n → Rising n is → Lacks i is
lacks_below i n [] l h = tt
lacks_below i n (j ∷ js) l h = (λ e. let k : i ≡ j = e in omega (arith, k, l, h.0), lacks_below i (j + 1) js (omega (arith, l, h.0)) h.1)

pub without_lacking : (i : ℕ) (is : List ℕ) → Lacks i is → without i is ≡ is
without_lacking i [] h = refl
without_lacking i (j ∷ js) h = by (i == j) refl (without_lacking i js h.1)
  where
    by : (b : Bool) → (i == j) ≡ b → without i js ≡ js → cond (not b) (j ∷ without i js) (without i js) ≡ j ∷ js
    by true e more = absurd (h.0 (eqb-true i j e))
    by false e more = ap (λ (x : List ℕ). j ∷ x) more

pub lacks_drop : (i k : ℕ) (is : List ℕ) → Lacks i is → Lacks i (drop k is)
lacks_drop i zero is h = h
lacks_drop i (suc k) [] h = tt
lacks_drop i (suc k) (j ∷ js) h = lacks_drop i k js h.1

module _ {A : Type 0} where
  pub where_rising : (test : A → Bool) (xs : List A) (n : ℕ) → Rising n (where_so test xs n)
  where_rising test [] n = tt
  where_rising test (x ∷ xs) n = by (test x) (where_rising test xs (n + 1))
    where
      by : (b : Bool) → Rising (n + 1) (where_so test xs (n + 1)) → Rising n (cond b (n ∷ where_so test xs (n + 1)) (where_so test xs (n + 1)))
      by true more = (omega arith, more)
      by false more = rising_weaker n (n + 1) (where_so test xs (n + 1)) (omega arith) more

  -- one more at the end
  pub where_append : (test : A → Bool) (xs : List A) (x : A) (n : ℕ) → where_so test (xs ++ x ∷ []) n ≡ where_so test xs n ++ cond (test x) ((n + length xs) ∷ []) []
  where_append test [] x n = by (test x)
    where
      by : (b : Bool) → cond b (n ∷ []) [] ≡ cond b ((n + 0) ∷ []) []
      by true = let e : n ≡ n + 0 = omega arith in ap (λ (k : ℕ). k ∷ []) e
      by false = refl
  where_append test (y ∷ ys) x n =
      let e : n + 1 + length ys ≡ n + suc (length ys) = omega arith in
      by (test y) (where_append test ys x (n + 1) ∙ ap (λ (k : ℕ). where_so test ys (n + 1) ++ cond (test x) (k ∷ []) []) e)
    where
      by : (b : Bool) → where_so test (ys ++ x ∷ []) (n + 1) ≡ where_so test ys (n + 1) ++ cond (test x) ((n + suc (length ys)) ∷ []) []
          → cond b (n ∷ where_so test (ys ++ x ∷ []) (n + 1)) (where_so test (ys ++ x ∷ []) (n + 1)) ≡ cond b (n ∷ where_so test ys (n + 1)) (where_so test ys (n + 1)) ++ cond (test x) ((n + suc (length ys)) ∷ []) []
      by true more = ap (λ (is : List ℕ). n ∷ is) more
      by false more = more

  -- tests that answer alike find the same
  pub where_alike : (t u : A → Bool) (xs : List A) (n : ℕ) → ((i : ℕ) (x : A) → slice_get xs i ≡ Some x → t x ≡ u x) → where_so t xs n ≡ where_so u xs n
  where_alike t u [] n f = refl
  where_alike t u (x ∷ xs) n f =
      let rest : where_so t xs (n + 1) ≡ where_so u xs (n + 1) = where_alike t u xs (n + 1) (λ i y h. f (suc i) y h) in
      ap (λ (b : Bool). cond b (n ∷ where_so t xs (n + 1)) (where_so t xs (n + 1))) (f zero x refl)
      ∙ ap (λ (is : List ℕ). cond (u x) (n ∷ is) is) rest

  pub where_none : (t : A → Bool) (xs : List A) (n : ℕ) → ((i : ℕ) (x : A) → slice_get xs i ≡ Some x → t x ≡ false) → where_so t xs n ≡ []
  where_none t [] n f = refl
  where_none t (x ∷ xs) n f =
      ap (λ (b : Bool). cond b (n ∷ where_so t xs (n + 1)) (where_so t xs (n + 1))) (f zero x refl)
      ∙ where_none t xs (n + 1) (λ i y h. f (suc i) y h)

  -- what one test finds, a test that shares none of its elements lacks
  pub where_apart : (t u : A → Bool) (xs : List A) (n i : ℕ) → ((x : A) → t x ≡ true → u x ≡ false) → (Lacks i (where_so t xs n) → ⊥) → Lacks i (where_so u xs n)
  where_apart t u [] n i f h = tt
  where_apart t u (x ∷ xs) n i f h = by (t x) refl (u x) refl (λ l. where_apart t u xs (n + 1) i f l)
    where
      back : (b : Bool) → t x ≡ b → Lacks i (cond b (n ∷ where_so t xs (n + 1)) (where_so t xs (n + 1))) → ⊥
      back b p l = h (subst (λ (b : Bool). Lacks i (cond b (n ∷ where_so t xs (n + 1)) (where_so t xs (n + 1)))) (sym p) l)

      first : (b : Bool) → (i == n) ≡ b → ((i ≢ n) → Lacks i (where_so u xs (n + 1))) → Lacks i (where_so u xs (n + 1))
      first true e more = let k : i ≡ n = eqb-true i n e in lacks_below i (n + 1) (where_so u xs (n + 1)) (omega (arith, k)) (where_rising u xs (n + 1))
      first false e more = more (eqb-false i n e)

      after : (c : Bool) → (i ≢ n) → Lacks i (where_so u xs (n + 1)) → Lacks i (cond c (n ∷ where_so u xs (n + 1)) (where_so u xs (n + 1)))
      after true away l = (away, l)
      after false away l = l

      by : (b : Bool) → t x ≡ b → (c : Bool) → u x ≡ c → ((Lacks i (where_so t xs (n + 1)) → ⊥) → Lacks i (where_so u xs (n + 1))) → Lacks i (cond c (n ∷ where_so u xs (n + 1)) (where_so u xs (n + 1)))
      by true p true q more = let e : true ≡ false = sym q ∙ f x p in absurd cc
      by true p false q more = first (i == n) refl (λ away. more (λ l. back true p (away, l)))
      by false p c q more = after c
          (λ e. back false p (lacks_below i (n + 1) (where_so t xs (n + 1)) (let k : i ≡ n = e in omega (arith, k)) (where_rising t xs (n + 1))))
          (more (back false p))

  pub where_below : (t : A → Bool) (xs : List A) (n i : ℕ) → (Lacks i (where_so t xs n) → ⊥) → (i < n + length xs → ⊥) → ⊥
  where_below t [] n i h high = h tt
  where_below t (x ∷ xs) n i h high = by (t x) refl (λ g. where_below t xs (n + 1) i g (λ l. high (omega (arith, l))))
    where
      away : i ≢ n
      away e = let k : i ≡ n = e in high (omega (arith, k))

      back : (b : Bool) → t x ≡ b → Lacks i (cond b (n ∷ where_so t xs (n + 1)) (where_so t xs (n + 1))) → ⊥
      back b p l = h (subst (λ (b : Bool). Lacks i (cond b (n ∷ where_so t xs (n + 1)) (where_so t xs (n + 1)))) (sym p) l)

      by : (b : Bool) → t x ≡ b → ((Lacks i (where_so t xs (n + 1)) → ⊥) → ⊥) → ⊥
      by true p more = more (λ l. back true p (away, l))
      by false p more = more (back false p)

  -- a test that asks more finds nothing where nothing is found
  pub where_fewer : (t u : A → Bool) (xs : List A) (n : ℕ) → ((x : A) → u x ≡ true → t x ≡ true) → where_so t xs n ≡ [] → where_so u xs n ≡ []
  where_fewer t u [] n f h = refl
  where_fewer t u (x ∷ xs) n f h = by (t x) refl (u x) refl (λ k. where_fewer t u xs (n + 1) f k)
    where
      by : (b : Bool) → t x ≡ b → (c : Bool) → u x ≡ c → (where_so t xs (n + 1) ≡ [] → where_so u xs (n + 1) ≡ []) → cond c (n ∷ where_so u xs (n + 1)) (where_so u xs (n + 1)) ≡ []
      by true p c q more = let e : n ∷ where_so t xs (n + 1) ≡ [] = sym (ap (λ (b : Bool). cond b (n ∷ where_so t xs (n + 1)) (where_so t xs (n + 1))) p) ∙ h in absurd cc
      by false p true q more = let e : true ≡ false = sym (f x q) ∙ p in absurd cc
      by false p false q more = more (sym (ap (λ (b : Bool). cond b (n ∷ where_so t xs (n + 1)) (where_so t xs (n + 1))) p) ∙ h)

pub below : (n i : ℕ) → ((i < n → ⊥) → ⊥) → i < n
below n i f = by (nat_lt i n) refl
  where
    by : (b : Bool) → nat_lt i n ≡ b → i < n
    by true e = ltb-true i n e
    by false e = absurd (f (λ l. let k : nat_lt i n ≡ true = lt-ltb i n l in let g : true ≡ false = sym k ∙ e in absurd cc))

-- ---- what was delivered

pub undelivered_append : (delivered xs ys : List ℕ) → undelivered delivered (xs ++ ys) ≡ undelivered delivered xs ++ undelivered delivered ys
undelivered_append [] xs ys = refl
undelivered_append (i ∷ delivered) xs ys =
    ap (without i) (undelivered_append delivered xs ys) ∙ filter-append (λ j. not (i == j)) (undelivered delivered xs) (undelivered delivered ys)

pub undelivered_new : (n : ℕ) (delivered : List ℕ) → AllBelow n delivered → undelivered delivered (n ∷ []) ≡ n ∷ []
undelivered_new n [] h = refl
undelivered_new n (i ∷ delivered) h =
    ap (without i) (undelivered_new n delivered h.1) ∙ without_lacking i (n ∷ []) (λ e. let k : i ≡ n = e in omega (arith, k, h.0), tt)

pub undelivered_none : (delivered : List ℕ) → undelivered delivered [] ≡ []
undelivered_none [] = refl
undelivered_none (i ∷ delivered) = ap (without i) (undelivered_none delivered)

pub all_below_more : (n : ℕ) (delivered : List ℕ) → AllBelow n delivered → AllBelow (n + 1) delivered
all_below_more n [] h = tt
all_below_more n (i ∷ delivered) h = (omega (arith, h.0), all_below_more n delivered h.1)

-- the lowest of numbers is one of them
pub lowest_in : (numbers : List ℕ) (i : ℕ) → lowest numbers ≡ Some i → Lacks i numbers → ⊥
lowest_in [] i e l = absurd cc
lowest_in (j ∷ js) i e l = l.0 (let k : i ≡ j = cc in k)

pub next_in : (k : ℕ) (numbers : List ℕ) (i : ℕ) → or_lowest (lowest (drop k numbers)) numbers ≡ Some i → Lacks i numbers → ⊥
next_in k numbers i e l = by (drop k numbers) refl e
  where
    by : (rest : List ℕ) → drop k numbers ≡ rest → or_lowest (lowest rest) numbers ≡ Some i → ⊥
    by [] q h = lowest_in numbers i h l
    by (j ∷ js) q h = lowest_in (j ∷ js) i h (subst (Lacks i) q (lacks_drop i k numbers l))

-- one more is delivered of equal packets
pub one_more : (numbers delivered : List ℕ) (done i : ℕ) → Rising 0 numbers → undelivered delivered numbers ≡ drop done numbers → done ≤ length numbers
    → or_lowest (lowest (drop done numbers)) numbers ≡ Some i
    → undelivered (i ∷ delivered) numbers ≡ drop (cond (nat_lt done (length numbers)) (done + 1) done) numbers
one_more numbers delivered done i up rest within next = ap (without i) rest ∙ by (drop done numbers) refl next
  where
    by : (js : List ℕ) → drop done numbers ≡ js → or_lowest (lowest js) numbers ≡ Some i → without i js ≡ drop (cond (nat_lt done (length numbers)) (done + 1) done) numbers
    by [] q h =
        let l : length (drop done numbers) ≡ 0 = ap length q in
        let k : nat_lt done (length numbers) ≡ false = grind (arith, nat_tests, length-drop done numbers, l) in
        sym (ap (λ (b : Bool). drop (cond b (done + 1) done) numbers) k ∙ q)
    by (j ∷ js) q h =
        let e : i ≡ j = cc in
        let l : length (drop done numbers) ≡ suc (length js) = ap length q in
        let m : done < length numbers = omega (arith, length-drop done numbers, l) in
        let k : nat_lt done (length numbers) ≡ true = lt-ltb done (length numbers) m in
        let u : Rising 0 (j ∷ js) = subst (Rising 0) q (rising_drop done 0 numbers up) in
        ap (λ (x : ℕ). without x (j ∷ js)) e ∙ dropped j js u.1
        ∙ sym (ap (λ (b : Bool). drop (cond b (done + 1) done) numbers) k ∙ sym (drop-drop 1 done numbers) ∙ ap (drop 1) q)
      where
        dropped : (j : ℕ) (js : List ℕ) → Rising (j + 1) js → without j (j ∷ js) ≡ js
        dropped j js u = at (j == j) refl
          where
            at : (b : Bool) → (j == j) ≡ b → cond (not b) (j ∷ without j js) (without j js) ≡ js
            at true e = without_lacking j js (lacks_below j (j + 1) js (omega arith) u)
            at false e = absurd (eqb-false j j e refl)

-- where none of them can be delivered there is none
pub none_more : (numbers : List ℕ) (done : ℕ) → or_lowest (lowest (drop done numbers)) numbers ≡ None → cond (nat_lt done (length numbers)) (done + 1) done ≡ done
none_more numbers done h = by (drop done numbers) numbers h
  where
    by : (js is : List ℕ) → or_lowest (lowest js) is ≡ None → cond (nat_lt done (length is)) (done + 1) done ≡ done
    by (j ∷ js) is h = absurd cc
    by [] (i ∷ is) h = absurd cc
    by [] [] h = let k : nat_lt done 0 ≡ false = grind (arith, nat_tests) in ap (λ (b : Bool). cond b (done + 1) done) k

pub more_within : (done many : ℕ) → done ≤ many → cond (nat_lt done many) (done + 1) done ≤ many
more_within done many h = by (nat_lt done many) refl
  where
    by : (b : Bool) → nat_lt done many ≡ b → cond b (done + 1) done ≤ many
    by true e = omega (arith, ltb-true done many e)
    by false e = h
