-- The plain machine's state of one object, by the writes of that object alone.
use Rattle.std.proofs.Common.{◌≡◌, ℕ, ◌+◌, ◌<◌, ◌≤◌, List, [], ◌∷◌, Bool, true, false, refl, sym, ap, ◌∙◌, length, get_or, drop, arith}
use Rattle.std.specs.Prelude.{◌==◌, nat_lt, Result, Ok, Err, IfOk, if◌then◌else◌}
use Rattle.std.proofs.lemmas.Bool.Decides.{nat_tests}
use Rattle.tg_base.specs.Orders.{oid_eq}
use Rattle.tg_base.specs.declared.ids.Oid.{Oid}
use Rattle.tg_kind.specs.Meaning.{Meaning}
use Rattle.tg_model.specs.Kinds.{DoneOf}
use Rattle.tg_model.specs.Stores.{Store, History, stored_state, with_stored_state, after_writes, store_after, state_at}
use Rattle.tg_audit.proofs.Lists.{rest_next, rest_none}
use Rattle.tg_audit.specs.Judging.{write, written, step, played}

same_oid : (o p : Oid) → (o.0 == p.0) ≡ true → o ≡ p
same_oid o p e = let is : o.0 ≡ p.0 = grind (arith, nat_tests) in λ i. record { 0 = is i }

-- of three numbers, of which the first two are equal
if_same : {X : Type 0} (a b c : ℕ) (x y z : X) → (a == b) ≡ true → (if b == c then x else z) ≡ (if b == c then x else (if a == c then y else z))
if_same a b c x y z e = grind (arith, nat_tests)

-- of three numbers, of which the first two differ
if_apart : {X : Type 0} (a b c : ℕ) (x y z : X) → (a == b) ≡ false → (if a == c then y else (if b == c then x else z)) ≡ (if b == c then x else (if a == c then y else z))
if_apart a b c x y z e = grind (arith, nat_tests)

module _ (m : Meaning) where
  abbrev found : List Oid → Store m → Oid → m.state
  found objects s o = stored_state m objects s o

  -- the state of each object after one was put
  put_by : (objects : List Oid) (y : Oid × m.state) (ys : Store m) (p : Oid) (x : m.state) (o : Oid) (b : Bool) → oid_eq y.0 p ≡ b
      → found objects (with_stored_state m ys p x) o ≡ (if oid_eq p o then x else found objects ys o)
      → found objects (if b then (p, x) ∷ ys else y ∷ with_stored_state m ys p x) o ≡ (if oid_eq p o then x else (if oid_eq y.0 o then y.1 else found objects ys o))
  put_by objects y ys p x o true e rest = if_same y.0.0 p.0 o.0 x y.1 (found objects ys o) e
  put_by objects y ys p x o false e rest =
      ap (λ (z : m.state). if oid_eq y.0 o then y.1 else z) rest ∙ if_apart y.0.0 p.0 o.0 x y.1 (found objects ys o) e

  put_state : (objects : List Oid) (ys : Store m) (p : Oid) (x : m.state) (o : Oid) → found objects (with_stored_state m ys p x) o ≡ (if oid_eq p o then x else found objects ys o)
  put_state objects [] p x o = refl
  put_state objects (y ∷ ys) p x o = put_by objects y ys p x o (oid_eq y.0 p) refl (put_state objects ys p x o)

  write_by : (objects : List Oid) (s : Store m) (w : Oid × m.op) (o : Oid) (b : Bool) → oid_eq w.0 o ≡ b
      → (if b then m.apply (found objects s w.0) w.1 else found objects s o) ≡ (if b then m.apply (found objects s o) w.1 else found objects s o)
  write_by objects s w o true e = ap (λ (p : Oid). m.apply (found objects s p) w.1) (same_oid w.0 o e)
  write_by objects s w o false e = refl

  write_state : (objects : List Oid) (s : Store m) (ws : List (Oid × m.op)) (o : Oid) → found objects (after_writes m objects s ws) o ≡ written m o (found objects s o) ws
  unfolding written
  write_state objects s [] o = refl
  write_state objects s (w ∷ ws) o =
      write_state objects (with_stored_state m s w.0 (m.apply (found objects s w.0) w.1)) ws o
      ∙ ap (λ (x : m.state). written m o x ws) (put_state objects s w.0 (m.apply (found objects s w.0) w.1) o ∙ write_by objects s w o (oid_eq w.0 o) refl)

  play_by : (objects : List Oid) (s : Store m) (d : DoneOf m) (ds : History m) (n : ℕ) (o : Oid) (b : Bool)
      → ((t : Store m) → found objects (store_after m objects t ds n) o ≡ played m o n (found objects t o) ds)
      → found objects (if b then store_after m objects (after_writes m objects s d.writes) ds n else store_after m objects s ds n) o
      ≡ played m o n (if b then written m o (found objects s o) d.writes else found objects s o) ds
  play_by objects s d ds n o true rest = rest (after_writes m objects s d.writes) ∙ ap (λ (x : m.state). played m o n x ds) (write_state objects s d.writes o)
  play_by objects s d ds n o false rest = rest s

  play_state : (objects : List Oid) (s : Store m) (ds : History m) (n : ℕ) (o : Oid) → found objects (store_after m objects s ds n) o ≡ played m o n (found objects s o) ds
  unfolding store_after played
  play_state objects s [] n o = refl
  play_state objects s (d ∷ ds) n o = play_by objects s d ds n o (nat_lt d.stamp n) (λ t. play_state objects t ds n o)

  -- the state of an object is what its own writes below a position make of the fresh one
  pub state_is : (objects : List Oid) (h : History m) (n : ℕ) (o : Oid) → played m o n (m.fresh o objects) h ≡ state_at m objects h n o
  state_is objects h n o = sym (play_state objects [] h n o)

  -- One write or one transaction further, and none more.

  pub written_next : (o : Oid) (s t : m.state) (ws : List (Oid × m.op)) (n : ℕ) (w : Oid × m.op) (y : m.state) → n < length ws → w ≡ get_or ws n w
      → t ≡ write m o s w → written m o s (drop n ws) ≡ y → written m o t (drop (n + 1) ws) ≡ y
  unfolding written
  written_next o s t ws n w y h e is so_far = ap (λ (x : m.state). written m o x (drop (n + 1) ws)) is ∙ rest_next (written m o s) ws n w y h e so_far

  pub written_all : (o : Oid) (s : m.state) (ws : List (Oid × m.op)) (n : ℕ) (y : m.state) → length ws ≤ n → written m o s (drop n ws) ≡ y → s ≡ y
  unfolding written
  written_all o s ws n y h so_far = rest_none (written m o s) ws n y h so_far

  pub played_next : (o : Oid) (p : ℕ) (s t : m.state) (ds : History m) (n : ℕ) (d : DoneOf m) (y : m.state) → n < length ds → d ≡ get_or ds n d
      → t ≡ step m o p s d → played m o p s (drop n ds) ≡ y → played m o p t (drop (n + 1) ds) ≡ y
  unfolding played
  played_next o p s t ds n d y h e is so_far = ap (λ (x : m.state). played m o p x (drop (n + 1) ds)) is ∙ rest_next (played m o p s) ds n d y h e so_far

  pub played_all : (o : Oid) (p : ℕ) (s : m.state) (ds : History m) (n : ℕ) (y : m.state) → length ds ≤ n → played m o p s (drop n ds) ≡ y → s ≡ y
  unfolding played
  played_all o p s ds n y h so_far = rest_none (played m o p s) ds n y h so_far

  -- from the fresh state on
  pub state_from : (objects : List Oid) (h : History m) (n : ℕ) (o : Oid) (s t : m.state) → s ≡ m.fresh o objects → t ≡ played m o n s h → t ≡ state_at m objects h n o
  state_from objects h n o s t first e = e ∙ ap (λ (x : m.state). played m o n x h) first ∙ state_is objects h n o

  pub state_told : {E : Type 0} (objects : List Oid) (h : History m) (n : ℕ) (o : Oid) (s : m.state) (r : Result m.state E) → s ≡ m.fresh o objects
      → IfOk r (λ t. t ≡ played m o n s h) → IfOk r (λ t. t ≡ state_at m objects h n o)
  state_told objects h n o s (Ok t) first e = state_from objects h n o s t first e
  state_told objects h n o s (Err x) first e = e
