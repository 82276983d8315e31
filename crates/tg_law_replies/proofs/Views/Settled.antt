-- A play decides each record that it goes past, where one of its reads isn't unknown.
use Rattle.std.proofs.Common.{◌≡◌, ◌⊎◌, ℕ, ◌+◌, ◌<◌, ◌≤◌, List, [], ◌∷◌, Bool, true, false, refl, sym, ap, ◌∙◌, subst, inl, inr, arith, Option, Some, None}
use Rattle.std.specs.Prelude.{nat_lt, nat_le, if◌then◌else◌, ◌==◌}
use Rattle.tg_base.specs.declared.ids.Oid.{Oid}
use Rattle.tg_base.specs.declared.marks.ReadMark.{ReadMark}
use Rattle.tg_entry.specs.declared.entry.WriteOp.{WriteOp}
use Rattle.tg_entry.specs.declared.entry.Entry.{Entry}
use Rattle.tg_kind.specs.Meaning.{Meaning}
use Rattle.tg_base.specs.Orders.{oid_eq}
use Rattle.tg_entry.specs.Needs.{reads_of, writes_of}
use Rattle.tg_protocol.specs.Entries.{is_commit}
use Rattle.tg_protocol.specs.Versions.{Changed}
use Rattle.tg_protocol.specs.Views.{Entries, decision_in, Verdict, Commits, Aborts, Unknown, Base, View, base_of, state_in, state_of, fate_of, unknown_by, unknown_in, changed_in, by_changes, by_versions, said, by_decision, verdict, with_state, applied, set_state, touched, note, write_by, plays, write, write_all, passed_over, with_fate, with_open, Play, stands_at, Step, On, Stuck, decided_step, record_step, entry_step, step_at, between, play_on, play_from, play}
use Rattle.tg_law_replies.specs.Plays.Sound.{IsRising, base_among}
use Rattle.tg_law_replies.proofs.Plays.Joins.{step_on, on_more}
use Rattle.tg_law_replies.proofs.Plays.Kept.{Within, within_between}
use Rattle.tg_law_replies.proofs.History.Members.{Has, number_same, of_le, of_lt, both_and}
use Rattle.tg_law_replies.proofs.Views.Plays.{between_all}

module _ (m : Meaning) where
  -- a view has a fate of a record
  abbrev pub IsFated : View m → ℕ → Type 0
  IsFated v p = (b : Bool) × (fate_of m v p ≡ Some b)

  -- a record can be decided: by a decision record, or since none of its reads is unknown
  abbrev pub IsDecidable : View m → Entries → ℕ → Entry → Type 0
  IsDecidable v own p e = decision_in own p ≡ None → unknown_in m v (reads_of e) p ≡ None

  -- a view has a state of just the objects that another one has
  abbrev pub HasStatesOf : View m → View m → Type 0
  HasStatesOf w v = (o : Oid) (s : m.state) → state_of m w o ≡ Some s → (t : m.state) × (state_of m v o ≡ Some t)

  fate_more : (v : View m) (q p : ℕ) (b : Bool) → IsFated v p → IsFated (with_fate m v q b) p
  fate_more v q p b old = by (q == p)
    where
      by : (c : Bool) → (d : Bool) × ((if c then Some b else fate_of m v p) ≡ Some d)
      by true = (b, refl)
      by false = old

  fate_own : (v : View m) (p : ℕ) (b : Bool) → IsFated (with_fate m v p b) p
  fate_own v p b = (b, ap (λ (c : Bool). if c then Some b else fate_of m v p) (number_same p p refl))

  -- what is unknown goes by the bases alone
  pub unknown_same : (v w : View m) (rs : List ReadMark) (p : ℕ) → v.bases ≡ w.bases → unknown_in m v rs p ≡ unknown_in m w rs p
  unfolding unknown_in
  unknown_same v w [] p e = refl
  unknown_same v w (r ∷ rs) p e = by (unknown_by m p (base_of m v r.oid) r) (unknown_by m p (base_of m w r.oid) r) (ap (λ (bs : List (Base m)). unknown_by m p (base_among m bs r.oid) r) e) (unknown_same v w rs p e)
    where
      by : (a b : Bool) → a ≡ b → unknown_in m v rs p ≡ unknown_in m w rs p → (if a then Some r.oid else unknown_in m v rs p) ≡ (if b then Some r.oid else unknown_in m w rs p)
      by true true same rest = refl
      by false false same rest = rest
      by true false same rest = absurd cc
      by false true same rest = absurd cc

  decidable_same : (v w : View m) (own : Entries) (p : ℕ) (e : Entry) → v.bases ≡ w.bases → IsDecidable v own p e → IsDecidable w own p e
  decidable_same v w own p e same h = λ none. sym (unknown_same v w (reads_of e) p same) ∙ h none

  sure : (v : View m) (own : Entries) (p : ℕ) (e : Entry) → IsDecidable v own p e → (b : Bool) × (verdict m v own p e ≡ said m b)
  unfolding verdict
  sure v own p e h = by (decision_in own p) h
    where
      changes : (x : Option Changed) → (b : Bool) × (by_changes m x ≡ said m b)
      changes None = (true, refl)
      changes (Some c) = (false, refl)

      versions : (o : Option Oid) → o ≡ None → (b : Bool) × (by_versions m v (reads_of e) p o ≡ said m b)
      versions None is = changes (changed_in m v (reads_of e) p)
      versions (Some o) is = absurd cc

      by : (d : Option Bool) → (d ≡ None → unknown_in m v (reads_of e) p ≡ None) → (b : Bool) × (by_decision m v e p d ≡ said m b)
      by (Some b) k = (b, refl)
      by None k = versions (unknown_in m v (reads_of e) p) (k refl)

  -- A write.

  put_states : (xs : List (Oid × m.state)) (q o : Oid) (s t : m.state) → state_in m (with_state m xs q s) o ≡ Some t → (u : m.state) × (state_in m xs o ≡ Some u)
  put_states [] q o s t is = absurd (none is)
    where
      none : None ≡ Some t → ⊥
      none z = cc
  put_states (x ∷ xs) q o s t is = by (oid_eq x.0 q) refl is (put_states xs q o s t)
    where
      alike : (a b c : Oid) → oid_eq a b ≡ true → oid_eq b c ≡ oid_eq a c
      alike a b c h = grind arith

      first : (c d : Bool) → c ≡ d → (if c then Some s else state_in m xs o) ≡ Some t → (u : m.state) × ((if d then Some x.1 else state_in m xs o) ≡ Some u)
      first true true e k = (x.1, refl)
      first false false e k = (t, k)
      first true false e k = absurd cc
      first false true e k = absurd cc

      later : (c : Bool) → (if c then Some x.1 else state_in m (with_state m xs q s) o) ≡ Some t → (state_in m (with_state m xs q s) o ≡ Some t → (u : m.state) × (state_in m xs o ≡ Some u))
          → (u : m.state) × ((if c then Some x.1 else state_in m xs o) ≡ Some u)
      later true k rest = (x.1, refl)
      later false k rest = rest k

      by : (b : Bool) → oid_eq x.0 q ≡ b → state_in m (if b then (q, s) ∷ xs else x ∷ with_state m xs q s) o ≡ Some t → (state_in m (with_state m xs q s) o ≡ Some t → (u : m.state) × (state_in m xs o ≡ Some u))
          → (u : m.state) × (state_in m (x ∷ xs) o ≡ Some u)
      by true e k rest = first (oid_eq q o) (oid_eq x.0 o) (alike x.0 q o e) k
      by false e k rest = later (oid_eq x.0 o) k rest

  -- what a play doesn't change, or only adds to
  pub record IsFurther (v w : View m) : Type 0 where
    pub bases : w.bases ≡ v.bases
    pub fates : (p : ℕ) → IsFated v p → IsFated w p
    pub states : HasStatesOf w v

  further_itself : (v : View m) → IsFurther v v
  further_itself v = record { bases = refl; fates = λ p h. h; states = λ o s is. (s, is) }

  further_more : (u v w : View m) → IsFurther u v → IsFurther v w → IsFurther u w
  further_more u v w a b = record { bases = b.bases ∙ a.bases; fates = λ p h. b.fates p (a.fates p h); states = λ o s is. let t = b.states o s is in a.states o t.0 t.1 }

  fate_further : (v : View m) (p : ℕ) (b : Bool) → IsFurther v (with_fate m v p b)
  fate_further v p b = record { bases = refl; fates = λ q h. fate_more v p q b h; states = λ o s is. (s, is) }

  stands_further : (v : View m) (p : ℕ) → IsFurther v (stands_at m v p)
  stands_further v p = record { bases = refl; fates = λ q h. h; states = λ o s is. (s, is) }

  write_further : (p : ℕ) (v : View m) (w : WriteOp) → IsFurther v (write m p v w)
  write_further p v w = by (plays m p (base_of m v w.oid))
    where
      set : (t : Option m.state) → IsFurther v (note m (set_state m v w.oid t) w.oid (touched m (m.read w.oid w.op)) p)
      set None = record { bases = refl; fates = λ q h. h; states = λ o s is. (s, is) }
      set (Some x) = record { bases = refl; fates = λ q h. h; states = λ o s is. put_states v.states w.oid o x s is }

      by : (b : Bool) → IsFurther v (if b then write_by m v p w (m.read w.oid w.op) else v)
      by true = set (applied m (m.read w.oid w.op) (state_of m v w.oid))
      by false = further_itself v

  writes_further : (p : ℕ) (v : View m) (ws : List WriteOp) → IsFurther v (write_all m p v ws)
  writes_further p v [] = further_itself v
  writes_further p v (w ∷ ws) = further_more v (write m p v w) (write_all m p (write m p v w) ws) (write_further p v w) (writes_further p (write m p v w) ws)

  open_further : (v : View m) (p : ℕ) (b : Bool) → IsFurther v (if b then record v { open_records = p ∷ v.open_records } else v)
  open_further v p true = record { bases = refl; fates = λ q h. h; states = λ o s is. (s, is) }
  open_further v p false = further_itself v

  -- A record's step.

  abbrev StepFurther : View m → Step m → Type 0
  StepFurther v (On w) = IsFurther v w
  StepFurther v (Stuck o) = Unit {0}

  abbrev StepFates : ℕ → Step m → Type 0
  StepFates p (On w) = IsFated w p
  StepFates p (Stuck o) = Unit {0}

  decided_further : (u v : View m) (p : ℕ) (e : Entry) (d : Verdict) → IsFurther u v → StepFurther u (decided_step m v p e d)
  decided_further u v p e Commits h = further_more u v (write_all m p (with_fate m v p true) (writes_of e)) h (further_more v (with_fate m v p true) (write_all m p (with_fate m v p true) (writes_of e)) (fate_further v p true) (writes_further p (with_fate m v p true) (writes_of e)))
  decided_further u v p e Aborts h = further_more u v (with_fate m v p false) h (fate_further v p false)
  decided_further u v p e (Unknown o) h = tt

  record_further : (u v : View m) (p : ℕ) (e : Entry) (d : Verdict) (b : Bool) → IsFurther u v → StepFurther u (record_step m v p e d b)
  record_further u v p e Commits true h = further_more u v (with_fate m v p true) h (fate_further v p true)
  record_further u v p e Aborts true h = further_more u v (with_fate m v p false) h (fate_further v p false)
  record_further u v p e (Unknown o) true h = h
  record_further u v p e d false h = decided_further u v p e d h

  step_further : (v : View m) (own : Entries) (p : ℕ) (e : Entry) → StepFurther v (step_at m v own p e)
  unfolding step_at
  step_further v own p e = by (is_commit e)
    where
      by : (b : Bool) → StepFurther v (entry_step m v own p e b)
      by true = record_further v (with_open m v own p e) p e (verdict m v own p e) (passed_over m v p e) (open_further v p _)
      by false = further_itself v

  record_fates : (v : View m) (p : ℕ) (e : Entry) (b t : Bool) → StepFates p (record_step m v p e (said m b) t)
  record_fates v p e true true = fate_own v p true
  record_fates v p e false true = fate_own v p false
  record_fates v p e true false = (writes_further p (with_fate m v p true) (writes_of e)).fates p (fate_own v p true)
  record_fates v p e false false = fate_own v p false

  step_fates : (v : View m) (own : Entries) (p : ℕ) (e : Entry) → is_commit e ≡ true → IsDecidable v own p e → StepFates p (step_at m v own p e)
  unfolding step_at
  step_fates v own p e commit h =
      let d = sure v own p e h in
      subst (λ (c : Bool). StepFates p (entry_step m v own p e c)) (sym commit)
      (subst (λ (x : Verdict). StepFates p (record_step m (with_open m v own p e) p e x (passed_over m v p e))) (sym d.1) (record_fates (with_open m v own p e) p e d.0 (passed_over m v p e)))

  -- Plays.

  on_further : (own : Entries) (upto p : ℕ) (v : View m) (xs : Entries) (s : Step m) → ((w : View m) → IsFurther w (play_on m own upto w xs).view) → StepFurther v s → IsFurther v (step_on m own upto v p xs s).view
  unfolding step_on
  on_further own upto p v xs (On w) rest h = further_more v w (play_on m own upto w xs).view h (rest w)
  on_further own upto p v xs (Stuck o) rest h = stands_further v p

  play_on_further : (own : Entries) (upto : ℕ) (v : View m) (xs : Entries) → IsFurther v (play_on m own upto v xs).view
  unfolding play_on
  play_on_further own upto v [] = stands_further v upto
  play_on_further own upto v (x ∷ xs) =
      subst (λ (y : Play m). IsFurther v y.view) (sym (on_more m own upto v x xs))
      (on_further own upto x.0 v xs (step_at m v own x.0 x.1) (λ w. play_on_further own upto w xs) (step_further v own x.0 x.1))

  -- it keeps the view's bases and fates, and has states of no other objects
  pub plays_further : (own : Entries) (v : View m) (upto : ℕ) → IsFurther v (play m v own upto).view
  unfolding play
  plays_further own v upto = by (nat_lt upto v.upto)
    where
      by : (b : Bool) → IsFurther v (play_from m v own upto b).view
      by true = further_itself v
      by false = play_on_further own upto v (between m v.upto upto own)

  on_upto : (own : Entries) (upto p : ℕ) (v : View m) (xs : Entries) (s : Step m) → p < upto → ((w : View m) → (play_on m own upto w xs).view.upto ≤ upto) → (step_on m own upto v p xs s).view.upto ≤ upto
  unfolding step_on
  on_upto own upto p v xs (On w) less rest = rest w
  on_upto own upto p v xs (Stuck o) less rest = omega (arith, less)

  play_on_upto : (own : Entries) (upto low : ℕ) (v : View m) (xs : Entries) → Within low upto xs → (play_on m own upto v xs).view.upto ≤ upto
  unfolding play_on
  play_on_upto own upto low v [] w = omega arith
  play_on_upto own upto low v (x ∷ xs) w =
      subst (λ (y : Play m). y.view.upto ≤ upto) (sym (on_more m own upto v x xs))
      (on_upto own upto x.0 v xs (step_at m v own x.0 x.1) w.1 (λ u. play_on_upto own upto (x.0 + 1) u xs w.2))

  within_low : (low high : ℕ) (xs : Entries) (x : ℕ × Entry) → Within low high xs → Has xs x → low ≤ x.0
  within_low low high [] x w i = absurd i
  within_low low high (y ∷ xs) x w (inl e) = subst (λ (z : ℕ × Entry). low ≤ z.0) (sym e) w.0
  within_low low high (y ∷ xs) x w (inr i) = let rest = within_low (y.0 + 1) high xs x w.2 i in let b = w.0 in omega (arith, rest, b)

  on_fated : (own : Entries) (upto q : ℕ) (v : View m) (xs : Entries) (p : ℕ) (e : Entry) (s : Step m) → q ≤ p → (((p ≡ q) × StepFates q s) ⊎ ((w : View m) → IsFurther v w → p < (play_on m own upto w xs).view.upto → IsFated (play_on m own upto w xs).view p)) → StepFurther v s
      → p < (step_on m own upto v q xs s).view.upto → IsFated (step_on m own upto v q xs s).view p
  unfolding step_on
  on_fated own upto q v xs p e (On w) le (inl at) f less = (play_on_further own upto w xs).fates p (subst (λ (n : ℕ). IsFated w n) (sym at.0) at.1)
  on_fated own upto q v xs p e (On w) le (inr rest) f less = rest w f less
  on_fated own upto q v xs p e (Stuck o) le at f less = absurd (omega (arith, le, less))

  play_on_fated : (own : Entries) (upto low : ℕ) (v : View m) (xs : Entries) (p : ℕ) (e : Entry) → Within low upto xs → Has xs (p, e) → is_commit e ≡ true → IsDecidable v own p e → p < (play_on m own upto v xs).view.upto
      → IsFated (play_on m own upto v xs).view p
  play_on_fated own upto low v [] p e w i commit h less = absurd i
  play_on_fated own upto low v (x ∷ xs) p e w i commit h less =
      subst (λ (y : Play m). IsFated y.view p) (sym (on_more m own upto v x xs))
      (on_fated own upto x.0 v xs p e (step_at m v own x.0 x.1) (there i) (at i (λ u l d j k. play_on_fated own upto (x.0 + 1) u xs p e w.2 j commit d k)) (step_further v own x.0 x.1) (subst (λ (y : Play m). p < y.view.upto) (on_more m own upto v x xs) less))
    where
      there : Has (x ∷ xs) (p, e) → x.0 ≤ p
      there (inl s) = let n : p ≡ x.0 = ap (λ (z : ℕ × Entry). z.0) s in omega (arith, n)
      there (inr j) = let n = within_low (x.0 + 1) upto xs (p, e) w.2 j in omega (arith, n)

      at : Has (x ∷ xs) (p, e) → ((u : View m) → Unit {0} → IsDecidable u own p e → Has xs (p, e) → p < (play_on m own upto u xs).view.upto → IsFated (play_on m own upto u xs).view p)
          → ((p ≡ x.0) × StepFates x.0 (step_at m v own x.0 x.1)) ⊎ ((u : View m) → IsFurther v u → p < (play_on m own upto u xs).view.upto → IsFated (play_on m own upto u xs).view p)
      at (inl s) rest = inl (ap (λ (z : ℕ × Entry). z.0) s, step_fates v own x.0 x.1 (subst (λ (z : ℕ × Entry). is_commit z.1 ≡ true) s commit) (subst (λ (z : ℕ × Entry). IsDecidable v own z.0 z.1) s h))
      at (inr j) rest = inr (λ u f l. rest u tt (decidable_same v u own p e (sym f.bases) h) j l)

  -- a record among the entries that can be decided has a fate, once the play went past it
  pub plays_fated : (own : Entries) (v : View m) (upto p : ℕ) (e : Entry) → IsRising own → Has own (p, e) → is_commit e ≡ true → v.upto ≤ p → p < (play m v own upto).view.upto
      → IsDecidable (play m v own upto).view own p e → IsFated (play m v own upto).view p
  unfolding play
  plays_fated own v upto p e rising i commit low less h = by (nat_lt upto v.upto) refl less h
    where
      by : (b : Bool) → nat_lt upto v.upto ≡ b → p < (play_from m v own upto b).view.upto → IsDecidable (play_from m v own upto b).view own p e → IsFated (play_from m v own upto b).view p
      by true is k d = absurd (omega (arith, low, k))
      by false is k d =
          let w = within_between m v.upto 0 upto own rising in
          let top = play_on_upto own upto v.upto v (between m v.upto upto own) w in
          play_on_fated own upto v.upto v (between m v.upto upto own) p e w
          (between_all m v.upto upto own (p, e) i (both_and (nat_le v.upto p) (nat_lt p upto) (of_le v.upto p low) (of_lt p upto (omega (arith, top, k))))) commit
          (decidable_same (play_on m own upto v (between m v.upto upto own)).view v own p e (play_on_further own upto v (between m v.upto upto own)).bases d) k
