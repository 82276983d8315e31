-- Reading line by line: a text is read as the transcript that it is, and else the first line outside is the one where it stops.
use Rattle.std.proofs.Common.{◌≡◌, ◌⊎◌, ℕ, zero, suc, ◌+◌, ◌<◌, ◌≤◌, true, List, [], ◌∷◌, ◌++◌, length, take, Option, Some, None, Result, Ok, Err, inl, inr, ⊎_elim, sym, refl, subst, ap, ◌∙◌, arith, length-append}
use mathlib.Core.List.{append_assoc, append-nil}
use Rattle.tg_trace.specs.declared.beginning.Beginning.{Beginning}
use Rattle.tg_trace.specs.Reading.{begun_lines, IsFront, NoLine, Begun, step, or_stop, run}
use Rattle.tg_trace.proofs.Growing.{lines_of, is_so_far, IsMore, none_or_more, step_takes, step_again}

-- What lines make.

abbrev pub Ends : ℕ → Option Beginning → List (List ℕ) → Type 0
Ends n s ls = (t : Option Beginning) × (run n s ls ≡ Ok t)

none_or_some : {A : Type 0} (o : Option A) → (o ≡ None) ⊎ ((x : A) × (o ≡ Some x))
none_or_some None = inl refl
none_or_some (Some x) = inr (x, refl)

ok_is : {A : Type 0} (x y : A) → ◌≡◌ {A = Result A ℕ} (Ok x) (Ok y) → x ≡ y
ok_is x y e = cc

err_is : {A : Type 0} (m n : ℕ) → ◌≡◌ {A = Result A ℕ} (Err m) (Err n) → m ≡ n
err_is {A} m n e = cc

-- a run goes on by what its first line makes
goes_on : (n : ℕ) (s : Option Beginning) (l : List ℕ) (ls : List (List ℕ)) (b : Beginning) → step s l ≡ Some b → run n s (l ∷ ls) ≡ run (suc n) (Some b) ls
goes_on n s l ls b e = ap (λ (o : Option Beginning). or_stop n o (λ next. run (suc n) next ls)) e

stops : (n : ℕ) (s : Option Beginning) (l : List ℕ) (ls : List (List ℕ)) → step s l ≡ None → run n s (l ∷ ls) ≡ Err n
stops n s l ls e = ap (λ (o : Option Beginning). or_stop n o (λ next. run (suc n) next ls)) e

pub record IsRead (s t : Option Beginning) (ls : List (List ℕ)) : Type 0 where
  pub lawful : is_so_far t ≡ true
  pub lines : lines_of t ≡ lines_of s ++ ls

pub run_lines : (n : ℕ) (s t : Option Beginning) (ls : List (List ℕ)) → is_so_far s ≡ true → run n s ls ≡ Ok t → IsRead s t ls
run_lines n s t [] lawful e =
    subst (λ (t : Option Beginning). IsRead s t []) (ok_is s t e) (record { lawful = lawful; lines = sym (append-nil (lines_of s)) })
run_lines n s t (l ∷ ls) lawful e = ⊎_elim
    (λ (none : step s l ≡ None). let bad : ◌≡◌ {A = Result (Option Beginning) ℕ} (Err n) (Ok t) = sym (stops n s l ls none) ∙ e in absurd cc)
    (λ (h : (b : Beginning) × (step s l ≡ Some b)).
    let grown = step_takes s l h.0 lawful h.1 in
    let rest = run_lines (suc n) (Some h.0) t ls grown.lawful (sym (goes_on n s l ls h.0 h.1) ∙ e) in
    record { lawful = rest.lawful; lines = rest.lines ∙ ap (λ (x : List (List ℕ)). x ++ ls) grown.lines ∙ append_assoc (lines_of s) (l ∷ []) ls })
    (none_or_some (step s l))

run_more : (n : ℕ) (s t : Option Beginning) (ls : List (List ℕ)) (l : List ℕ) (b : Beginning) → run n s ls ≡ Ok t → step t l ≡ Some b → run n s (ls ++ l ∷ []) ≡ Ok (Some b)
run_more n s t [] l b e f = goes_on n s l [] b (ap (λ (t : Option Beginning). step t l) (ok_is s t e) ∙ f)
run_more n s t (k ∷ ls) l b e f = ⊎_elim
    (λ (none : step s k ≡ None). let bad : ◌≡◌ {A = Result (Option Beginning) ℕ} (Err n) (Ok t) = sym (stops n s k ls none) ∙ e in absurd cc)
    (λ (h : (c : Beginning) × (step s k ≡ Some c)).
    goes_on n s k (ls ++ l ∷ []) h.0 h.1 ∙ run_more (suc n) (Some h.0) t ls l b (sym (goes_on n s k ls h.0 h.1) ∙ e) f)
    (none_or_some (step s k))

-- a beginning is what its lines make
pub begun_runs : (k : ℕ) (t : Option Beginning) (ls : List (List ℕ)) → length ls ≤ k → is_so_far t ≡ true → lines_of t ≡ ls → run 1 None ls ≡ Ok t
begun_runs k None ls few lawful e = ap (run 1 None) (sym e)
begun_runs zero (Some b) ls few lawful e = let len : length (begun_lines b) ≡ length ls = ap (λ (x : List (List ℕ)). length x) e in absurd (omega (arith, few, len))
begun_runs (suc k) (Some b) ls few lawful e = ⊎_elim
    (λ (none : ls ≡ []). let bad : begun_lines b ≡ [] = e ∙ none in absurd cc)
    (λ (h : IsMore ls).
    let made = step_again b h.front h.last lawful (e ∙ h.same) in
    let len : length ls ≡ length (h.front ++ h.last ∷ []) = ap (λ (x : List (List ℕ)). length x) h.same in
    let front = begun_runs k made.so_far h.front (omega (arith, few, len, length-append h.front (h.last ∷ []))) made.lawful made.lines in
    ap (run 1 None) h.same ∙ run_more 1 None made.so_far h.front h.last b front made.makes)
    (none_or_more ls)

pub run_front : (n : ℕ) (s t : Option Beginning) (ls : List (List ℕ)) (m : ℕ) → run n s ls ≡ Ok t → Ends n s (take m ls)
run_front n s t ls zero e = (s, refl)
run_front n s t [] (suc m) e = (s, refl)
run_front n s t (l ∷ ls) (suc m) e = ⊎_elim
    (λ (none : step s l ≡ None). let bad : ◌≡◌ {A = Result (Option Beginning) ℕ} (Err n) (Ok t) = sym (stops n s l ls none) ∙ e in absurd cc)
    (λ (h : (b : Beginning) × (step s l ≡ Some b)).
    let rest = run_front (suc n) (Some h.0) t ls m (sym (goes_on n s l ls h.0 h.1) ∙ e) in
    (rest.0, goes_on n s l (take m ls) h.0 h.1 ∙ rest.1))
    (none_or_some (step s l))

-- where a run stops
pub record Stops (n : ℕ) (s : Option Beginning) (ls : List (List ℕ)) (m : ℕ) : Type 0 where
  pub before : ℕ
  pub at : m ≡ n + before
  pub within : before < length ls
  pub front : Ends n s (take before ls)
  pub stop : run n s (take (suc before) ls) ≡ Err m

stops_later : (n : ℕ) (s : Option Beginning) (l : List ℕ) (ls : List (List ℕ)) (b : Beginning) (m : ℕ) → step s l ≡ Some b → Stops (suc n) (Some b) ls m → Stops n s (l ∷ ls) m
stops_later n s l ls b m e h = record {
  before = suc h.before;
  at = let at = h.at in omega (arith, at);
  within = let within = h.within in omega (arith, within);
  front = (h.front.0, goes_on n s l (take h.before ls) b e ∙ h.front.1);
  stop = goes_on n s l (take (suc h.before) ls) b e ∙ h.stop;
}

pub run_stops : (n : ℕ) (s : Option Beginning) (ls : List (List ℕ)) (m : ℕ) → run n s ls ≡ Err m → Stops n s ls m
run_stops n s [] m e = absurd cc
run_stops n s (l ∷ ls) m e = ⊎_elim
    (λ (none : step s l ≡ None).
    let same : n ≡ m = err_is {A = Option Beginning} n m (sym (stops n s l ls none) ∙ e) in
    record { before = 0; at = omega (arith, same); within = omega arith; front = (s, refl); stop = stops n s l (take 0 ls) none ∙ ap (λ (m : ℕ). Err m) same })
    (λ (h : (b : Beginning) × (step s l ≡ Some b)). stops_later n s l ls h.0 m h.1 (run_stops (suc n) (Some h.0) ls m (sym (goes_on n s l ls h.0 h.1) ∙ e)))
    (none_or_some (step s l))

-- Fronts.

ends_front : (ls : List (List ℕ)) (t : Option Beginning) → IsRead None t ls → IsFront ls
ends_front ls None h = NoLine (sym h.lines)
ends_front ls (Some b) h = Begun b h.lawful (sym h.lines)

pub ends_is_front : (ls : List (List ℕ)) → Ends 1 None ls → IsFront ls
ends_is_front ls h = ends_front ls h.0 (run_lines 1 None h.0 ls refl h.1)

pub front_ends : (ls : List (List ℕ)) → IsFront ls → Ends 1 None ls
front_ends ls (NoLine e) = (None, begun_runs (length ls) None ls (omega arith) refl (sym e))
front_ends ls (Begun b lawful e) = (Some b, begun_runs (length ls) (Some b) ls (omega arith) lawful (sym e))
