-- A store at one unit of the layout, and what it leaves of the others.
use Rattle.std.proofs.Common.{◌≡◌, ◌⊎◌, ℕ, List, [], ◌∷◌, cond, Bool, true, false, refl, ap, ◌∙◌, sym, subst, inl, inr, arith, Some, None, Option, eqb}
use Rattle.std.specs.Prelude.{slice_set, slice_index_or, nat_lt}
use Rattle.tg_base.specs.declared.cell.Cell.{Cell}
use Rattle.tg_base.specs.declared.cell.Cell.TheVariants.{Junk, Data}
use Rattle.tg_base.specs.declared.ids.NodeId.{NodeId}
use Rattle.tg_base.specs.declared.msg.Msg.TheVariants as msg
use Rattle.tg_kind.specs.Meaning.{Meaning}
use Rattle.tg_protocol.specs.Words.{cell_at, with_cell, cell_eq, bytes_eq}
use Rattle.tg_protocol.specs.Units.{UnitState, UnitTurn, new_unit, says, stored, at_cell, in_epoch, not_gone, on_store, on_same}
use Rattle.tg_law_layouts.proofs.Moves.Units.{cell_same}
use Rattle.tg_law_layouts.proofs.Steps.Units.{cell_stored}
use Rattle.tg_law_finish.proofs.Finish.Nets.{Net, unit_of, on_in, on_alike, unit_alike}
use Rattle.tg_law_finish.proofs.Finish.Lists.{set_index}

bytes_itself : (xs : List ℕ) → bytes_eq xs xs ≡ true
unfolding bytes_eq
bytes_itself [] = refl
bytes_itself (x ∷ xs) = let e = bytes_itself xs in grind arith

pub cell_itself : (c : Cell) → cell_eq c c ≡ true
unfolding cell_eq
cell_itself Junk = refl
cell_itself (Data d) = bytes_itself d

-- equal cells are the same
pub equal_cell : (a b : Cell) → cell_eq a b ≡ true → a ≡ b
equal_cell a b e = by (cell_same a b)
  where
    by : (cell_eq a b ≡ false) ⊎ (a ≡ b) → a ≡ b
    by (inl f) = absurd (two (cell_eq a b) e f)
      where
        two : (c : Bool) → c ≡ true → c ≡ false → ⊥
        two c e f = grind arith
    by (inr f) = f

-- what a unit is after a store of a cell at a position
pub record Kept (s t : UnitState) (pos : ℕ) (c : Cell) : Type 0 where
  pub epoch : t.epoch ≡ s.epoch
  pub low : t.low ≡ s.low
  pub others : (q : ℕ) → eqb q pos ≡ false → cell_at t.cells q ≡ cell_at s.cells q
  pub stays : (x : Cell) → cell_at s.cells pos ≡ Some x → cell_at t.cells pos ≡ Some x

-- how a store is answered
pub data Outcome (s : UnitState) (pos : ℕ) (c : Cell) : UnitTurn → Type 0 where
  IsGone' : nat_lt pos s.low ≡ true → Outcome s pos c (says s (msg.Gone s.low))
  IsHeld' : (t : UnitState) → Kept s t pos c → ((x : Cell) → cell_at t.cells pos ≡ Some x → cell_eq x c ≡ true) → nat_lt pos s.low ≡ false → cell_at t.cells pos ≡ Some c → Outcome s pos c (record { now = t; says = Some msg.Held })
  IsTaken' : (x : Cell) → cell_at s.cells pos ≡ Some x → cell_eq x c ≡ false → nat_lt pos s.low ≡ false → Outcome s pos c (says s (msg.Taken x))

kept_same : (s : UnitState) (pos : ℕ) (c : Cell) → Kept s s pos c
kept_same s pos c = record { epoch = refl; low = refl; others = λ q e. refl; stays = λ x e. e }

some_one : (x y : Cell) → Some x ≡ Some y → x ≡ y
some_one x y e = cc

kept_stored : (s : UnitState) (pos : ℕ) (c : Cell) → cell_at s.cells pos ≡ None → Kept s (stored s pos c) pos c
kept_stored s pos c none = record { epoch = refl; low = refl; others = λ q e. other q e; stays = λ x e. absurd (two x e) }
  where
    other : (q : ℕ) → eqb q pos ≡ false → cell_at (with_cell s.cells pos c) q ≡ cell_at s.cells q
    other q e = cell_stored s.cells pos c q ∙ ap (λ b. cond b (Some c) (cell_at s.cells q)) e

    two : (x : Cell) → cell_at s.cells pos ≡ Some x → ⊥
    two x e = let f = sym none ∙ e in absurd cc

eq_itself : (n : ℕ) → eqb n n ≡ true
eq_itself n = grind arith

here_stored : (s : UnitState) (pos : ℕ) (c : Cell) → cell_at (stored s pos c).cells pos ≡ Some c
here_stored s pos c = cell_stored s.cells pos c pos ∙ ap (λ b. cond b (Some c) (cell_at s.cells pos)) (eq_itself pos)

equal_here : (s : UnitState) (pos : ℕ) (c x : Cell) → cell_at s.cells pos ≡ Some x → cell_eq x c ≡ true → (y : Cell) → cell_at s.cells pos ≡ Some y → cell_eq y c ≡ true
equal_here s pos c x e f y g = subst (λ z. cell_eq z c ≡ true) (some_one x y (sym e ∙ g)) f

same_outcome : (s : UnitState) (pos : ℕ) (c x : Cell) (b : Bool) → cell_at s.cells pos ≡ Some x → cell_eq x c ≡ b → nat_lt pos s.low ≡ false → Outcome s pos c (on_same s x b)
same_outcome s pos c x true e f low = IsHeld' s (kept_same s pos c) (equal_here s pos c x e f) low (e ∙ ap (λ y. Some y) (equal_cell x c f))
same_outcome s pos c x false e f low = IsTaken' x e f low

store_outcome : (s : UnitState) (pos : ℕ) (c : Cell) (o : Option Cell) → cell_at s.cells pos ≡ o → nat_lt pos s.low ≡ false → Outcome s pos c (on_store s pos c o)
store_outcome s pos c None e low = IsHeld' (stored s pos c) (kept_stored s pos c e) (λ x f. subst (λ z. cell_eq z c ≡ true) (some_one c x (sym (here_stored s pos c) ∙ f)) (cell_itself c)) low (here_stored s pos c)
store_outcome s pos c (Some x) e low = same_outcome s pos c x (cell_eq x c) e refl low

gone_outcome : (s : UnitState) (pos : ℕ) (c : Cell) (b : Bool) → nat_lt pos s.low ≡ b → Outcome s pos c (not_gone b s (on_store s pos c (cell_at s.cells pos)))
gone_outcome s pos c true e = IsGone' e
gone_outcome s pos c false e = store_outcome s pos c (cell_at s.cells pos) refl e

pub stores : (s : UnitState) (e pos : ℕ) (c : Cell) → s.epoch ≡ e → Outcome s pos c (at_cell s e pos (on_store s pos c (cell_at s.cells pos)))
stores s e pos c same = subst (λ b. Outcome s pos c (in_epoch b s (not_gone (nat_lt pos s.low) s (on_store s pos c (cell_at s.cells pos))))) (sym (tested s.epoch e same)) (gone_outcome s pos c (nat_lt pos s.low) refl)
  where
    tested : (a b : ℕ) → a ≡ b → eqb a b ≡ true
    tested a b e = grind arith

-- All nodes, after a store at one unit.
module _ (m : Meaning) (stopped : List NodeId) where
  pub record Put (s t : Net m) (pos : ℕ) (c : Cell) : Type 0 where
    pub epochs : (v : ℕ) → (unit_of m t v).epoch ≡ (unit_of m s v).epoch
    pub lows : (v : ℕ) → (unit_of m t v).low ≡ (unit_of m s v).low
    pub others : (v q : ℕ) → eqb q pos ≡ false → cell_at (unit_of m t v).cells q ≡ cell_at (unit_of m s v).cells q
    pub stays : (v : ℕ) (x : Cell) → cell_at (unit_of m s v).cells pos ≡ Some x → cell_at (unit_of m t v).cells pos ≡ Some x
    pub here : (v : ℕ) (x : Cell) → cell_at (unit_of m t v).cells pos ≡ Some x → (cell_eq x c ≡ true) ⊎ (cell_at (unit_of m s v).cells pos ≡ Some x)
    pub on : (n : NodeId) → on_in m stopped t n ≡ on_in m stopped s n

  -- unit u is now this
  abbrev pub with_unit : Net m → ℕ → UnitState → Net m
  with_unit s u x = record s { units = slice_set s.units u x }

  pub unit_puts : (s : Net m) (u : ℕ) (t : UnitState) (pos : ℕ) (c : Cell) → Kept (unit_of m s u) t pos c → ((x : Cell) → cell_at t.cells pos ≡ Some x → (cell_eq x c ≡ true) ⊎ (cell_at (unit_of m s u).cells pos ≡ Some x)) → Put s (with_unit s u t) pos c
  unit_puts s u t pos c k here = record {
    epochs = λ v. by (λ x y. x.epoch ≡ y.epoch) k.epoch (λ x. refl) v (at v);
    lows = λ v. by (λ x y. x.low ≡ y.low) k.low (λ x. refl) v (at v);
    others = λ v q e. by (λ x y. cell_at x.cells q ≡ cell_at y.cells q) (k.others q e) (λ x. refl) v (at v);
    stays = λ v x e. by (λ a b. cell_at b.cells pos ≡ Some x → cell_at a.cells pos ≡ Some x) (λ f. k.stays x f) (λ a f. f) v (at v) e;
    here = λ v x e. by (λ a b. cell_at a.cells pos ≡ Some x → (cell_eq x c ≡ true) ⊎ (cell_at b.cells pos ≡ Some x)) (λ f. here x f) (λ a f. inr f) v (at v) e;
    on = λ n. on_alike m stopped s _ (unit_alike m s u t) n;
  }
    where
      at : (v : ℕ) → ((v ≡ u) × (slice_index_or (slice_set s.units u t) v new_unit ≡ t)) ⊎ (slice_index_or (slice_set s.units u t) v new_unit ≡ unit_of m s v)
      at v = set_index s.units u t v new_unit

      by : (P : UnitState → UnitState → Type 0) → P t (unit_of m s u) → ((x : UnitState) → P x x) → (v : ℕ) → ((v ≡ u) × (slice_index_or (slice_set s.units u t) v new_unit ≡ t)) ⊎ (slice_index_or (slice_set s.units u t) v new_unit ≡ unit_of m s v)
          → P (slice_index_or (slice_set s.units u t) v new_unit) (unit_of m s v)
      by P new same v (inl e) = subst (λ x. P x (unit_of m s v)) (sym e.1) (subst (λ n. P t (unit_of m s n)) (sym e.0) new)
      by P new same v (inr e) = subst (λ x. P x (unit_of m s v)) (sym e) (same (unit_of m s v))

  pub unit_same : (s : Net m) (u : ℕ) (pos : ℕ) (c : Cell) → Put s (with_unit s u (unit_of m s u)) pos c
  unit_same s u pos c = unit_puts s u (unit_of m s u) pos c (kept_same (unit_of m s u) pos c) (λ x e. inr e)
