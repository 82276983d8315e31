-- A view that begins has a state of each of its objects, and a play keeps a state of each object.
use Rattle.std.proofs.Common.{◌≡◌, ℕ, List, [], ◌∷◌, map, Bool, true, false, refl, sym, ap, ◌∙◌, subst, arith, Option, Some, None}
use Rattle.std.specs.Prelude.{nat_lt, ◌||◌, if◌then◌else◌}
use Rattle.tg_base.specs.declared.ids.Oid.{Oid}
use Rattle.tg_base.specs.Orders.{oid_eq}
use Rattle.tg_entry.specs.declared.entry.WriteOp.{WriteOp}
use Rattle.tg_entry.specs.declared.entry.Entry.{Entry}
use Rattle.tg_entry.specs.Needs.{writes_of}
use Rattle.tg_kind.specs.Meaning.{Meaning}
use Rattle.tg_protocol.specs.Words.{has_oid}
use Rattle.tg_protocol.specs.Entries.{is_commit}
use Rattle.tg_protocol.specs.Views.{Entries, Verdict, Commits, Aborts, Unknown, Base, View, base_of, base_state, state_in, state_of, verdict, with_state, applied, set_state, touched, note, write_by, plays, write, write_all, passed_over, with_fate, with_open, Play, Step, On, Stuck, decided_step, record_step, entry_step, step_at, between, view_start, play_on, play_from, play}
use Rattle.tg_law_replies.proofs.Plays.Joins.{step_on, on_more}

module _ (m : Meaning) where
  abbrev pub HasState : View m → Oid → Type 0
  HasState v o = (s : m.state) × (state_of m v o ≡ Some s)

  abbrev Keeps : View m → View m → Type 0
  Keeps v w = (o : Oid) → HasState v o → HasState w o

  put_keeps : (xs : List (Oid × m.state)) (q o : Oid) (s t : m.state) → state_in m xs o ≡ Some t → (u : m.state) × (state_in m (with_state m xs q s) o ≡ Some u)
  put_keeps [] q o s t is = (t, is)
  put_keeps (x ∷ xs) q o s t is = by (oid_eq x.0 q) refl is (put_keeps xs q o s t)
    where
      alike : (a b c : Oid) → oid_eq a b ≡ true → oid_eq b c ≡ oid_eq a c
      alike a b c h = grind arith

      first : (c d : Bool) → c ≡ d → (if d then Some x.1 else state_in m xs o) ≡ Some t → (u : m.state) × ((if c then Some s else state_in m xs o) ≡ Some u)
      first true true e k = (s, refl)
      first false false e k = (t, k)
      first true false e k = absurd cc
      first false true e k = absurd cc

      later : (c : Bool) → (if c then Some x.1 else state_in m xs o) ≡ Some t → (state_in m xs o ≡ Some t → (u : m.state) × (state_in m (with_state m xs q s) o ≡ Some u))
          → (u : m.state) × ((if c then Some x.1 else state_in m (with_state m xs q s) o) ≡ Some u)
      later true k rest = (x.1, refl)
      later false k rest = rest k

      by : (b : Bool) → oid_eq x.0 q ≡ b → state_in m (x ∷ xs) o ≡ Some t → (state_in m xs o ≡ Some t → (u : m.state) × (state_in m (with_state m xs q s) o ≡ Some u))
          → (u : m.state) × (state_in m (if b then (q, s) ∷ xs else x ∷ with_state m xs q s) o ≡ Some u)
      by true e k rest = first (oid_eq q o) (oid_eq x.0 o) (alike x.0 q o e) k
      by false e k rest = later (oid_eq x.0 o) k rest

  write_keeps : (p : ℕ) (v : View m) (w : WriteOp) → Keeps v (write m p v w)
  write_keeps p v w = by (plays m p (base_of m v w.oid))
    where
      set : (t : Option m.state) → Keeps v (note m (set_state m v w.oid t) w.oid (touched m (m.read w.oid w.op)) p)
      set None = λ o h. h
      set (Some x) = λ o h. put_keeps v.states w.oid o x h.0 h.1

      by : (b : Bool) → Keeps v (if b then write_by m v p w (m.read w.oid w.op) else v)
      by true = set (applied m (m.read w.oid w.op) (state_of m v w.oid))
      by false = λ o h. h

  writes_keep : (p : ℕ) (v : View m) (ws : List WriteOp) → Keeps v (write_all m p v ws)
  writes_keep p v [] o h = h
  writes_keep p v (w ∷ ws) o h = writes_keep p (write m p v w) ws o (write_keeps p v w o h)

  open_keeps : (v : View m) (p : ℕ) (b : Bool) → Keeps v (if b then record v { open_records = p ∷ v.open_records } else v)
  open_keeps v p true o h = h
  open_keeps v p false o h = h

  abbrev StepKeeps : View m → Step m → Type 0
  StepKeeps v (On w) = Keeps v w
  StepKeeps v (Stuck o) = Unit {0}

  decided_keeps : (u v : View m) (p : ℕ) (e : Entry) (d : Verdict) → Keeps u v → StepKeeps u (decided_step m v p e d)
  decided_keeps u v p e Commits k = λ o h. writes_keep p (with_fate m v p true) (writes_of e) o (k o h)
  decided_keeps u v p e Aborts k = λ o h. k o h
  decided_keeps u v p e (Unknown o) k = tt

  record_keeps : (u v : View m) (p : ℕ) (e : Entry) (d : Verdict) (b : Bool) → Keeps u v → StepKeeps u (record_step m v p e d b)
  record_keeps u v p e Commits true k = λ o h. k o h
  record_keeps u v p e Aborts true k = λ o h. k o h
  record_keeps u v p e (Unknown o) true k = k
  record_keeps u v p e d false k = decided_keeps u v p e d k

  step_keeps : (v : View m) (own : Entries) (p : ℕ) (e : Entry) → StepKeeps v (step_at m v own p e)
  unfolding step_at
  step_keeps v own p e = by (is_commit e)
    where
      by : (b : Bool) → StepKeeps v (entry_step m v own p e b)
      by true = record_keeps v (with_open m v own p e) p e (verdict m v own p e) (passed_over m v p e) (open_keeps v p _)
      by false = λ o h. h

  on_keeps : (own : Entries) (upto p : ℕ) (v : View m) (xs : Entries) (s : Step m) → ((w : View m) → Keeps w (play_on m own upto w xs).view) → StepKeeps v s → Keeps v (step_on m own upto v p xs s).view
  unfolding step_on
  on_keeps own upto p v xs (On w) rest k = λ o h. rest w o (k o h)
  on_keeps own upto p v xs (Stuck q) rest k = λ o h. h

  play_on_keeps : (own : Entries) (upto : ℕ) (v : View m) (xs : Entries) → Keeps v (play_on m own upto v xs).view
  unfolding play_on
  play_on_keeps own upto v [] = λ o h. h
  play_on_keeps own upto v (x ∷ xs) =
      subst (λ (y : Play m). Keeps v y.view) (sym (on_more m own upto v x xs))
      (on_keeps own upto x.0 v xs (step_at m v own x.0 x.1) (λ w. play_on_keeps own upto w xs) (step_keeps v own x.0 x.1))

  pub play_keeps : (own : Entries) (v : View m) (upto : ℕ) (o : Oid) → HasState v o → HasState (play m v own upto).view o
  unfolding play
  play_keeps own v upto = by (nat_lt upto v.upto)
    where
      by : (b : Bool) → Keeps v (play_from m v own upto b).view
      by true = λ o h. h
      by false = play_on_keeps own upto v (between m v.upto upto own)

  pub start_has : (f : Oid → Base m) (os : List Oid) (o : Oid) → ((x : Oid) → (f x).oid ≡ x) → has_oid o os ≡ true → HasState (view_start m (map f os)) o
  unfolding view_start
  start_has f [] o of has = absurd cc
  start_has f (x ∷ os) o of has = by (oid_eq (f x).oid o) refl (start_has f os o of)
    where
      rest : (a b c : Bool) → a ≡ b → a ≡ false → (b || c) ≡ true → c ≡ true
      rest a b c e n h = grind arith

      turned : (a b : Oid) → oid_eq a b ≡ oid_eq b a
      turned a b = grind arith

      by : (b : Bool) → oid_eq (f x).oid o ≡ b → (has_oid o os ≡ true → (s : m.state) × (state_in m (map (base_state m) (map f os)) o ≡ Some s))
          → (s : m.state) × ((if b then Some (f x).state else state_in m (map (base_state m) (map f os)) o) ≡ Some s)
      by true e k = ((f x).state, refl)
      by false e k = k (rest (oid_eq (f x).oid o) (oid_eq o x) (has_oid o os) (turned (f x).oid o ∙ ap (λ (y : Oid). oid_eq o y) (of x)) e has)
