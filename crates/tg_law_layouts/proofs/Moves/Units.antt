-- A unit's step: how it grows, and what its answer tells.
use Rattle.std.proofs.Common.{◌≡◌, ◌⊎◌, ℕ, zero, suc, ◌+◌, ◌<◌, ◌≤◌, List, [], ◌∷◌, Bool, true, false, ◌||◌, refl, sym, subst, inl, inr, arith, Some, None, Option}
use Rattle.std.specs.Prelude.{nat_lt, is_some, ◌==◌}
use Rattle.tg_base.specs.declared.cell.Cell.{Cell}
use Rattle.tg_base.specs.declared.msg.Msg.{Msg}
use Rattle.tg_base.specs.declared.msg.Msg.TheVariants as msg
use Rattle.tg_protocol.specs.Words.{cell_at, cells_from, cell_eq, bytes_eq, plus_one}
use Rattle.tg_protocol.specs.Units.{UnitState, new_unit, UnitAsk, Looks, unit_ask, settled_at, first_missing, how_many, in_epoch, on_has, on_ask, unit_step}
use Rattle.tg_law_layouts.proofs.Steps.Units.{cell_stored, cell_kept, cell_stays, low_rises, epoch_rises}
use Rattle.tg_law_layouts.specs.Moves.Telling.{Claim, claimed, is_request}

-- How it grows.

pub record UnitGrows (s t : UnitState) : Type 0 where
  pub epoch : s.epoch ≤ t.epoch
  pub low : s.low ≤ t.low
  pub high : s.high ≤ t.high
  pub cells : (p : ℕ) (x : Cell) → cell_at s.cells p ≡ Some x → (cell_at t.cells p ≡ Some x) ⊎ (p < t.low)

pub unit_same : (s : UnitState) → UnitGrows s s
unit_same s = record { epoch = omega arith; low = omega arith; high = omega arith; cells = λ p x h. inl h }

high_rises : (s : UnitState) (a : UnitAsk) → s.high ≤ (on_ask s a).now.high
unfolding on_ask
high_rises s a = grind arith

le_or_lt : (a b : ℕ) → (a ≤ b) ⊎ (b < a)
le_or_lt a b = grind arith

cells_grow : (s : UnitState) (a : UnitAsk) (p : ℕ) (x : Cell) → cell_at s.cells p ≡ Some x → (cell_at (on_ask s a).now.cells p ≡ Some x) ⊎ (p < (on_ask s a).now.low)
cells_grow s a p x h = by (le_or_lt (on_ask s a).now.low p)
  where
    by : ((on_ask s a).now.low ≤ p) ⊎ (p < (on_ask s a).now.low) → (cell_at (on_ask s a).now.cells p ≡ Some x) ⊎ (p < (on_ask s a).now.low)
    by (inl le) = inl (cell_stays s a p x h le)
    by (inr less) = inr less

ask_grows : (s : UnitState) (a : UnitAsk) → UnitGrows s (on_ask s a).now
ask_grows s a = record { epoch = epoch_rises s a; low = low_rises s a; high = high_rises s a; cells = cells_grow s a }

pub unit_grows : (s : UnitState) (m : Msg) → UnitGrows s (unit_step s m).now
unfolding unit_step
unit_grows s m = ask_grows s (unit_ask m)

-- Equal cells.

bytes_more : (x y : ℕ) (xs ys : List ℕ) → (bytes_eq xs ys ≡ false) ⊎ (xs ≡ ys) → (bytes_eq (x ∷ xs) (y ∷ ys) ≡ false) ⊎ (x ∷ xs ≡ y ∷ ys)
unfolding bytes_eq
bytes_more x y xs ys h = grind arith

bytes_same : (a b : List ℕ) → (bytes_eq a b ≡ false) ⊎ (a ≡ b)
unfolding bytes_eq
bytes_same [] [] = inr refl
bytes_same [] (y ∷ ys) = inl refl
bytes_same (x ∷ xs) [] = inl refl
bytes_same (x ∷ xs) (y ∷ ys) = bytes_more x y xs ys (bytes_same xs ys)

pub cell_same : (a b : Cell) → (cell_eq a b ≡ false) ⊎ (a ≡ b)
unfolding cell_eq
cell_same a b = grind (arith, bytes_same)

-- Its cells are below `high`.

pub record UnitRight (s : UnitState) : Type 0 where
  pub below : (p : ℕ) (x : Cell) → cell_at s.cells p ≡ Some x → plus_one p ≤ s.high

pub right_new : UnitRight new_unit
unfolding new_unit
right_new = record { below = λ p x h. grind arith }

dropped_more : (e : ℕ × Cell) (es : List (ℕ × Cell)) (low q : ℕ) → q < low → cell_at (cells_from low es) q ≡ None → cell_at (cells_from low (e ∷ es)) q ≡ None
dropped_more e es low q less ih = grind arith

cell_dropped : (es : List (ℕ × Cell)) (low q : ℕ) → q < low → cell_at (cells_from low es) q ≡ None
cell_dropped [] low q less = refl
cell_dropped (e ∷ es) low q less = dropped_more e es low q less (cell_dropped es low q less)

cell_left : (es : List (ℕ × Cell)) (low q : ℕ) → (cell_at (cells_from low es) q ≡ cell_at es q) ⊎ (cell_at (cells_from low es) q ≡ None)
cell_left es low q = by (le_or_lt low q)
  where
    by : (low ≤ q) ⊎ (q < low) → (cell_at (cells_from low es) q ≡ cell_at es q) ⊎ (cell_at (cells_from low es) q ≡ None)
    by (inl le) = inl (cell_kept es low q le)
    by (inr less) = inr (cell_dropped es low q less)

below_after : (s : UnitState) (a : UnitAsk) (p : ℕ) (x : Cell) → (cell_at s.cells p ≡ Some x → plus_one p ≤ s.high) → cell_at (on_ask s a).now.cells p ≡ Some x → plus_one p ≤ (on_ask s a).now.high
unfolding on_ask
below_after s a p x right h = grind (arith, cell_stored, cell_left)

pub right_step : (s : UnitState) (m : Msg) → UnitRight s → UnitRight (unit_step s m).now
unfolding unit_step
right_step s m r = record { below = λ p x h. below_after s (unit_ask m) p x (r.below p x) h }

-- What its answer tells, at that moment.

pub record Now (s : UnitState) (k : Claim) : Type 0 where
  pub epoch : k.epoch ≡ s.epoch
  pub low : s.low ≤ k.pos
  pub cell : cell_at s.cells k.pos ≡ Some k.cell

ask_now : (s : UnitState) (a : UnitAsk) (x : Msg) (k : Claim) → (on_ask s a).says ≡ Some x → claimed a x ≡ Some k → Now (on_ask s a).now k
unfolding on_ask claimed
ask_now s a x k says is = grind (arith, cell_stored, cell_same)

pub claim_now : (s : UnitState) (m x : Msg) (k : Claim) → (unit_step s m).says ≡ Some x → claimed (unit_ask m) x ≡ Some k → Now (unit_step s m).now k
unfolding unit_step
claim_now s m x k says is = ask_now s (unit_ask m) x k says is

-- What it tells, then and later.

pub record Holds (s : UnitState) (k : Claim) : Type 0 where
  pub epoch : k.epoch ≤ s.epoch
  pub high : plus_one k.pos ≤ s.high
  pub cell : (cell_at s.cells k.pos ≡ Some k.cell) ⊎ (k.pos < s.low)

pub holds_grows : (s t : UnitState) (k : Claim) → UnitGrows s t → Holds s k → Holds t k
holds_grows s t k g h = record {
  epoch = let a = g.epoch in let b = h.epoch in omega (arith, a, b);
  high = let a = g.high in let b = h.high in omega (arith, a, b);
  cell = by h.cell;
}
  where
    by : (cell_at s.cells k.pos ≡ Some k.cell) ⊎ (k.pos < s.low) → (cell_at t.cells k.pos ≡ Some k.cell) ⊎ (k.pos < t.low)
    by (inl x) = g.cells k.pos k.cell x
    by (inr x) = let a = g.low in inr (omega (arith, a, x))

pub holds_now : (s : UnitState) (k : Claim) → UnitRight s → Now s k → Holds s k
holds_now s k r n = record { epoch = let e = n.epoch in omega (arith, e); high = r.below k.pos k.cell n.cell; cell = inl n.cell }

-- A unit that is whole.

-- the unit has a cell there, or has trimmed it
abbrev pub IsHeld : UnitState → ℕ → Type 0
IsHeld s p = ((x : Cell) × (cell_at s.cells p ≡ Some x)) ⊎ (p < s.low)

pub held_grows : (s t : UnitState) (p : ℕ) → UnitGrows s t → IsHeld s p → IsHeld t p
held_grows s t p g (inl h) = by (g.cells p h.0 h.1)
  where
    by : (cell_at t.cells p ≡ Some h.0) ⊎ (p < t.low) → IsHeld t p
    by (inl x) = inl (h.0, x)
    by (inr x) = inr x
held_grows s t p g (inr h) = let a = g.low in inr (omega (arith, a, h))

-- one of so many positions, a step apart
abbrev pub InSteps : ℕ → ℕ → ℕ → ℕ → Type 0
InSteps step zero lo p = ⊥
InSteps step (suc n) lo p = (p ≡ lo) ⊎ InSteps step n (lo + step) p

below_low : (p low : ℕ) → (nat_lt p low || false) ≡ true → p < low
below_low p low h = grind arith

settled_held : (s : UnitState) (p : ℕ) → settled_at s p ≡ true → IsHeld s p
settled_held s p h = by (cell_at s.cells p) refl h
  where
    by : (o : Option Cell) → cell_at s.cells p ≡ o → (nat_lt p s.low || is_some o) ≡ true → IsHeld s p
    by None e h = inr (below_low p s.low h)
    by (Some x) e h = inl (x, e)

missing_more : (s : UnitState) (step n lo p : ℕ) (b : Bool) → settled_at s lo ≡ b → (first_missing s step n (lo + step) ≡ None → InSteps step n (lo + step) p → IsHeld s p)
    → (elim b as (λ _. Option ℕ) [ true ↦ first_missing s step n (lo + step) | false ↦ Some lo ]) ≡ None → (p ≡ lo) ⊎ InSteps step n (lo + step) p → IsHeld s p
missing_more s step n lo p true e rest h (inl i) = subst (λ (q : ℕ). IsHeld s q) (sym i) (settled_held s lo e)
missing_more s step n lo p true e rest h (inr i) = rest h i
missing_more s step n lo p false e rest h i = absurd (cc)

none_missing : (s : UnitState) (step n lo p : ℕ) → first_missing s step n lo ≡ None → InSteps step n lo p → IsHeld s p
unfolding first_missing
none_missing s step zero lo p h i = absurd i
none_missing s step (suc n) lo p h i = missing_more s step n lo p (settled_at s lo) refl (λ g j. none_missing s step n (lo + step) p g j) h i

look_by : (s : UnitState) (b : Bool) (o : Option ℕ) (p : ℕ) → (o ≡ None → IsHeld s p) → (in_epoch b s (on_has s o)).says ≡ Some msg.Whole → IsHeld (in_epoch b s (on_has s o)).now p
look_by s true None p f h = f refl
look_by s true (Some q) p f h = absurd (cc)
look_by s false o p f h = absurd (cc)

look_whole : (s : UnitState) (e lo hi step p : ℕ) → InSteps step (how_many lo hi step) lo p → (on_ask s (Looks e lo hi step)).says ≡ Some msg.Whole → IsHeld (on_ask s (Looks e lo hi step)).now p
unfolding on_ask
look_whole s e lo hi step p i h = look_by s (s.epoch == e) (first_missing s step (how_many lo hi step) lo) p (λ n. none_missing s step (how_many lo hi step) lo p n i) h

-- it answers that it has these positions
ask_whole : (s : UnitState) (a : UnitAsk) (e lo hi step : ℕ) → a ≡ Looks e lo hi step → (on_ask s a).says ≡ Some msg.Whole → (p : ℕ) → InSteps step (how_many lo hi step) lo p → IsHeld (on_ask s a).now p
ask_whole s a e lo hi step is h p i =
    subst (λ (b : UnitAsk). IsHeld (on_ask s b).now p) (sym is) (look_whole s e lo hi step p i (subst (λ (b : UnitAsk). (on_ask s b).says ≡ Some msg.Whole) is h))

-- all that an answer tells
pub record IsTrue (s : UnitState) (a : UnitAsk) (x : Msg) : Type 0 where
  pub cell : (k : Claim) → claimed a x ≡ Some k → Holds s k
  pub sealed : (e h : ℕ) → x ≡ msg.Sealed e h → e ≤ s.epoch
  pub gone : (b : ℕ) → x ≡ msg.Gone b → b ≤ s.low
  pub whole : (e lo hi step : ℕ) → a ≡ Looks e lo hi step → x ≡ msg.Whole → (p : ℕ) → InSteps step (how_many lo hi step) lo p → IsHeld s p

pub true_grows : (s t : UnitState) (a : UnitAsk) (x : Msg) → UnitGrows s t → IsTrue s a x → IsTrue t a x
true_grows s t a x g h = record {
  cell = λ k is. holds_grows s t k g (h.cell k is);
  sealed = λ e i is. let a = g.epoch in let b = h.sealed e i is in omega (arith, a, b);
  gone = λ b is. let a = g.low in let c = h.gone b is in omega (arith, a, c);
  whole = λ e lo hi step i j p k. held_grows s t p g (h.whole e lo hi step i j p k);
}

ask_sealed : (s : UnitState) (a : UnitAsk) (e h : ℕ) → (on_ask s a).says ≡ Some (msg.Sealed e h) → (e ≡ (on_ask s a).now.epoch) × (h ≡ s.high) × (h ≡ (on_ask s a).now.high)
unfolding on_ask
ask_sealed s a e h says = grind arith

ask_gone : (s : UnitState) (a : UnitAsk) (b : ℕ) → (on_ask s a).says ≡ Some (msg.Gone b) → b ≡ (on_ask s a).now.low
unfolding on_ask
ask_gone s a b says = grind arith

-- a seal's answer
pub seal_now : (s : UnitState) (m : Msg) (e h : ℕ) → (unit_step s m).says ≡ Some (msg.Sealed e h) → (e ≡ (unit_step s m).now.epoch) × (h ≡ s.high) × (h ≡ (unit_step s m).now.high)
unfolding unit_step
seal_now s m e h says = ask_sealed s (unit_ask m) e h says

said : (o : Option Msg) (x y : Msg) → o ≡ Some x → x ≡ y → o ≡ Some y
said o x y h e = cc

pub true_now : (s : UnitState) (m x : Msg) → UnitRight s → (unit_step s m).says ≡ Some x → IsTrue (unit_step s m).now (unit_ask m) x
unfolding unit_step
true_now s m x r says = record {
  cell = λ k is. holds_now _ k (right_step s m r) (claim_now s m x k says is);
  sealed = λ e h is. let a = (ask_sealed s (unit_ask m) e h (said _ x _ says is)).0 in omega (arith, a);
  gone = λ b is. let a = ask_gone s (unit_ask m) b (said _ x _ says is) in omega (arith, a);
  whole = λ e lo hi step i is p k. ask_whole s (unit_ask m) e lo hi step i (said _ x _ says is) p k;
}

-- what is answered is a request, and the answer is none

ask_answers : (m : Msg) (s : UnitState) (x : Msg) → (on_ask s (unit_ask m)).says ≡ Some x → is_request m ≡ true
unfolding on_ask unit_ask is_request
ask_answers m s x says = grind arith

pub answers_request : (s : UnitState) (m x : Msg) → (unit_step s m).says ≡ Some x → is_request m ≡ true
unfolding unit_step
answers_request s m x says = ask_answers m s x says

ask_says : (s : UnitState) (a : UnitAsk) (x : Msg) → (on_ask s a).says ≡ Some x → is_request x ≡ false
unfolding on_ask is_request
ask_says s a x says = grind arith

pub says_answer : (s : UnitState) (m x : Msg) → (unit_step s m).says ≡ Some x → is_request x ≡ false
unfolding unit_step
says_answer s m x says = ask_says s (unit_ask m) x says

pub claim_asked : (m x : Msg) (k : Claim) → claimed (unit_ask m) x ≡ Some k → is_request m ≡ true
unfolding claimed unit_ask is_request
claim_asked m x k is = grind arith

-- A cell is old, or was stored by a request that is answered so.

ask_stores : (s : UnitState) (a : UnitAsk) (p : ℕ) (x : Cell) → cell_at (on_ask s a).now.cells p ≡ Some x
    → (cell_at s.cells p ≡ Some x) ⊎ (((on_ask s a).says ≡ Some msg.Held) × (claimed a msg.Held ≡ Some (record { epoch = (on_ask s a).now.epoch; pos = p; cell = x })))
unfolding on_ask claimed
ask_stores s a p x h = grind (arith, cell_stored, cell_left)

pub unit_stores : (s : UnitState) (y : Msg) (p : ℕ) (x : Cell) → cell_at (unit_step s y).now.cells p ≡ Some x
    → (cell_at s.cells p ≡ Some x) ⊎ (((unit_step s y).says ≡ Some msg.Held) × (claimed (unit_ask y) msg.Held ≡ Some (record { epoch = (unit_step s y).now.epoch; pos = p; cell = x })))
unfolding unit_step
unit_stores s y p x h = ask_stores s (unit_ask y) p x h
