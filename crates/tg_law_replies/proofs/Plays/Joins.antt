-- Two plays, one after the other.
use Rattle.std.proofs.Common.{◌≡◌, ◌⊎◌, ℕ, ◌+◌, ◌<◌, ◌≤◌, List, [], ◌∷◌, ◌++◌, Bool, true, false, refl, sym, ap, ◌∙◌, inl, inr, arith, Some, None, Option}
use Rattle.std.specs.Prelude.{nat_lt, if◌then◌else◌}
use Rattle.tg_base.specs.declared.ids.Oid.{Oid}
use Rattle.tg_base.specs.declared.marks.ReadMark.{ReadMark}
use Rattle.tg_entry.specs.declared.entry.WriteOp.{WriteOp}
use Rattle.tg_entry.specs.declared.entry.Entry.{Entry}
use Rattle.tg_kind.specs.Meaning.{Meaning}
use Rattle.tg_model.specs.declared.play.PlayEnd.TheVariants.{Played, Blocked}
use Rattle.tg_entry.specs.Needs.{reads_of, writes_of}
use Rattle.tg_protocol.specs.Entries.{is_commit}
use Rattle.tg_protocol.specs.Views.{Entries, decision_in, Verdict, Commits, Aborts, Unknown, View, base_of, state_of, unknown_by, unknown_in, changed_in, by_versions, by_decision, verdict, applied, set_state, touched, note, write_by, plays, write, write_all, passed_over, with_fate, with_verdict, with_open, Play, stands_at, Step, On, Stuck, decided_step, record_step, entry_step, step_at, between, play_on, play_from, play}
use Rattle.tg_law_replies.specs.Plays.Sound.{rise_from, IsRising}
use Rattle.tg_law_replies.specs.Plays.Laws.{PlaysJoin}

-- Where a view stands has no part in what a record makes of it.

module _ (m : Meaning) (a : ℕ) where
  abbrev At : View m → View m
  At v = stands_at m v a

  unknown_more : (v : View m) (r : ReadMark) (rs : List ReadMark) (p : ℕ) (b : Bool) → unknown_in m (At v) rs p ≡ unknown_in m v rs p
      → (if b then Some r.oid else unknown_in m (At v) rs p) ≡ (if b then Some r.oid else unknown_in m v rs p)
  unknown_more v r rs p true h = refl
  unknown_more v r rs p false h = h

  unknown_at : (v : View m) (rs : List ReadMark) (p : ℕ) → unknown_in m (At v) rs p ≡ unknown_in m v rs p
  unfolding unknown_in
  unknown_at v [] p = refl
  unknown_at v (r ∷ rs) p = unknown_more v r rs p (unknown_by m p (base_of m v r.oid) r) (unknown_at v rs p)

  versions_at : (v : View m) (rs : List ReadMark) (p : ℕ) (o : Option Oid) → by_versions m (At v) rs p o ≡ by_versions m v rs p o
  unfolding changed_in
  versions_at v rs p None = refl
  versions_at v rs p (Some o) = refl

  decision_at : (v : View m) (e : Entry) (p : ℕ) (d : Option Bool) → by_decision m (At v) e p d ≡ by_decision m v e p d
  decision_at v e p (Some b) = refl
  decision_at v e p None = versions_at v (reads_of e) p _ ∙ ap (λ (o : Option Oid). by_versions m v (reads_of e) p o) (unknown_at v (reads_of e) p)

  verdict_at : (v : View m) (es : Entries) (p : ℕ) (e : Entry) → verdict m (At v) es p e ≡ verdict m v es p e
  unfolding verdict
  verdict_at v es p e = decision_at v e p (decision_in es p)

  set_at : (v : View m) (o : Oid) (s : Option m.state) → set_state m (At v) o s ≡ At (set_state m v o s)
  set_at v o None = refl
  set_at v o (Some s) = refl

  write_by_at : (p : ℕ) (v : View m) (w : WriteOp) (op : Option m.op) → write_by m (At v) p w op ≡ At (write_by m v p w op)
  write_by_at p v w op = ap (λ (x : View m). note m x w.oid (touched m op) p) (set_at v w.oid (applied m op (state_of m v w.oid)))

  write_if_at : (p : ℕ) (v : View m) (w : WriteOp) (b : Bool) → (if b then write_by m (At v) p w (m.read w.oid w.op) else At v) ≡ At (if b then write_by m v p w (m.read w.oid w.op) else v)
  write_if_at p v w true = write_by_at p v w (m.read w.oid w.op)
  write_if_at p v w false = refl

  write_all_at : (p : ℕ) (v : View m) (ws : List WriteOp) → write_all m p (At v) ws ≡ At (write_all m p v ws)
  write_all_at p v [] = refl
  write_all_at p v (w ∷ ws) = ap (λ (x : View m). write_all m p x ws) (write_if_at p v w (plays m p (base_of m v w.oid))) ∙ write_all_at p (write m p v w) ws

  abbrev AtStep : Step m → Step m
  AtStep (On v) = On (At v)
  AtStep (Stuck o) = Stuck o

  verdict_with : (v : View m) (p : ℕ) (d : Verdict) → with_verdict m (At v) p d ≡ At (with_verdict m v p d)
  verdict_with v p Commits = refl
  verdict_with v p Aborts = refl
  verdict_with v p (Unknown o) = refl

  decided_at : (v : View m) (p : ℕ) (e : Entry) (d : Verdict) → decided_step m (At v) p e d ≡ AtStep (decided_step m v p e d)
  decided_at v p e Commits = ap (λ (x : View m). On x) (write_all_at p (with_fate m v p true) (writes_of e))
  decided_at v p e Aborts = refl
  decided_at v p e (Unknown o) = refl

  record_at : (v : View m) (p : ℕ) (e : Entry) (d : Verdict) (b : Bool) → record_step m (At v) p e d b ≡ AtStep (record_step m v p e d b)
  record_at v p e d true = ap (λ (x : View m). On x) (verdict_with v p d)
  record_at v p e d false = decided_at v p e d

  open_if_at : (v : View m) (p : ℕ) (b : Bool) → (if b then record (At v) { open_records = p ∷ v.open_records } else At v) ≡ At (if b then record v { open_records = p ∷ v.open_records } else v)
  open_if_at v p true = refl
  open_if_at v p false = refl

  entry_at : (v : View m) (es : Entries) (p : ℕ) (e : Entry) (b : Bool) → entry_step m (At v) es p e b ≡ AtStep (entry_step m v es p e b)
  entry_at v es p e false = refl
  entry_at v es p e true =
      ap (λ (x : View m). record_step m x p e (verdict m (At v) es p e) (passed_over m v p e)) (open_if_at v p _)
      ∙ (ap (λ (d : Verdict). record_step m (At (with_open m v es p e)) p e d (passed_over m v p e)) (verdict_at v es p e)
      ∙ record_at (with_open m v es p e) p e (verdict m v es p e) (passed_over m v p e))

  step_stands : (v : View m) (es : Entries) (p : ℕ) (e : Entry) → step_at m (At v) es p e ≡ AtStep (step_at m v es p e)
  unfolding step_at
  step_stands v es p e = entry_at v es p e (is_commit e)

module _ (m : Meaning) (es : Entries) where
  -- what comes of a record's step
  unfoldable pub step_on : ℕ → View m → ℕ → Entries → Step m → Play m
  step_on upto v p xs s = elim s as (λ _. Play m) [
    | On w ↦ play_on m es upto w xs
    | Stuck o ↦ record { view = stands_at m v p; came = Blocked p o }
  ]

  pub on_more : (upto : ℕ) (v : View m) (x : ℕ × Entry) (xs : Entries) → play_on m es upto v (x ∷ xs) ≡ step_on upto v x.0 xs (step_at m v es x.0 x.1)
  unfolding play_on step_on
  on_more upto v x xs = refl

  stands_step : (upto a : ℕ) (v : View m) (p : ℕ) (xs : Entries) → ((w : View m) → play_on m es upto (stands_at m w a) xs ≡ play_on m es upto w xs) → (s : Step m)
      → step_on upto (stands_at m v a) p xs (AtStep m a s) ≡ step_on upto v p xs s
  unfolding step_on
  stands_step upto a v p xs rest (On w) = rest w
  stands_step upto a v p xs rest (Stuck o) = refl

  on_stands : (upto a : ℕ) (xs : Entries) (v : View m) → play_on m es upto (stands_at m v a) xs ≡ play_on m es upto v xs
  unfolding play_on
  on_stands upto a [] v = refl
  on_stands upto a (x ∷ xs) v =
      on_more upto (stands_at m v a) x xs
      ∙ (ap (λ (s : Step m). step_on upto (stands_at m v a) x.0 xs s) (step_stands m a v es x.0 x.1)
      ∙ (stands_step upto a v x.0 xs (λ w. on_stands upto a xs w) (step_at m v es x.0 x.1)
      ∙ sym (on_more upto v x xs)))

  -- a play over some entries that isn't blocked, and then over others

  join_step : (a b c : ℕ) (v : View m) (p : ℕ) (xs ys : Entries)
      → ((w : View m) → (play_on m es a w xs).came ≡ Played c → play_on m es b (play_on m es a w xs).view ys ≡ play_on m es b w (xs ++ ys)) → (s : Step m)
      → (step_on a v p xs s).came ≡ Played c → play_on m es b (step_on a v p xs s).view ys ≡ step_on b v p (xs ++ ys) s
  unfolding step_on
  join_step a b c v p xs ys rest (On w) h = rest w h
  join_step a b c v p xs ys rest (Stuck o) h = absurd (not_both h)
    where
      not_both : Blocked p o ≡ Played c → ⊥
      not_both e = cc

  join : (a b c : ℕ) (xs ys : Entries) (v : View m) → (play_on m es a v xs).came ≡ Played c → play_on m es b (play_on m es a v xs).view ys ≡ play_on m es b v (xs ++ ys)
  unfolding play_on
  join a b c [] ys v h = on_stands b a ys v
  join a b c (x ∷ xs) ys v h =
      ap (λ (y : Play m). play_on m es b y.view ys) (on_more a v x xs)
      ∙ (join_step a b c v x.0 xs ys (λ w. join a b c xs ys w) (step_at m v es x.0 x.1) (sym (ap (λ (y : Play m). y.came) (on_more a v x xs)) ∙ h)
      ∙ sym (on_more b v x (xs ++ ys)))

  came_at : (a c : ℕ) (v : View m) (xs : Entries) → (play_on m es a v xs).came ≡ Played c → (play_on m es a v xs).view.upto ≡ a
  unfolding play_on step_on
  came_at a c v [] h = refl
  came_at a c v (x ∷ xs) h = ap (λ (y : Play m). y.view.upto) (on_more a v x xs) ∙ at (λ w. came_at a c w xs) (step_at m v es x.0 x.1) (sym (ap (λ (y : Play m). y.came) (on_more a v x xs)) ∙ h)
    where
      not_both : (o : Oid) → Blocked x.0 o ≡ Played c → ⊥
      not_both o e = cc

      at : ((w : View m) → (play_on m es a w xs).came ≡ Played c → (play_on m es a w xs).view.upto ≡ a) → (s : Step m) → (step_on a v x.0 xs s).came ≡ Played c
          → (step_on a v x.0 xs s).view.upto ≡ a
      at rest (On w) k = rest w k
      at rest (Stuck o) k = absurd (not_both o k)

-- The entries up to a position, and from there on.

module _ (m : Meaning) where
  none_more : (r low a : ℕ) (x : ℕ × Entry) (xs : Entries) → rise_from r (x ∷ xs) ≡ true → a ≤ r → between m low a xs ≡ [] → between m low a (x ∷ xs) ≡ []
  none_more r low a x xs rising le rest = grind arith

  pub rises_next : (r : ℕ) (x : ℕ × Entry) (xs : Entries) → rise_from r (x ∷ xs) ≡ true → (r ≤ x.0) × (rise_from (x.0 + 1) xs ≡ true)
  rises_next r x xs h = grind arith

  none_below : (r low a : ℕ) (xs : Entries) → rise_from r xs ≡ true → a ≤ r → between m low a xs ≡ []
  none_below r low a [] rising le = refl
  none_below r low a (x ∷ xs) rising le =
      let n = rises_next r x xs rising in let first = n.0 in
      none_more r low a x xs rising le (none_below (x.0 + 1) low a xs n.1 (omega (arith, le, first)))

  split_low : (low a b : ℕ) (x : ℕ × Entry) (xs : Entries) → low ≤ a → a ≤ b → x.0 < a → between m low b xs ≡ between m low a xs ++ between m a b xs
      → between m low b (x ∷ xs) ≡ between m low a (x ∷ xs) ++ between m a b (x ∷ xs)
  split_low low a b x xs p q less rest = grind arith

  split_high : (low a b : ℕ) (x : ℕ × Entry) (xs : Entries) → low ≤ a → a ≤ b → a ≤ x.0 → between m low a xs ≡ [] → between m low b xs ≡ between m low a xs ++ between m a b xs
      → between m low b (x ∷ xs) ≡ between m low a (x ∷ xs) ++ between m a b (x ∷ xs)
  split_high low a b x xs p q le none rest = grind arith

  below_or_not : (x a : ℕ) → (x < a) ⊎ (a ≤ x)
  below_or_not x a = grind arith

  split : (r low a b : ℕ) (xs : Entries) → rise_from r xs ≡ true → low ≤ a → a ≤ b → between m low b xs ≡ between m low a xs ++ between m a b xs
  split r low a b [] rising p q = refl
  split r low a b (x ∷ xs) rising p q = by (split (x.0 + 1) low a b xs (rises_next r x xs rising).1 p q) (below_or_not x.0 a)
    where
      by : between m low b xs ≡ between m low a xs ++ between m a b xs → (x.0 < a) ⊎ (a ≤ x.0) → between m low b (x ∷ xs) ≡ between m low a (x ∷ xs) ++ between m a b (x ∷ xs)
      by rest (inl less) = split_low low a b x xs p q less rest
      by rest (inr le) = split_high low a b x xs p q le (none_below (x.0 + 1) low a xs (rises_next r x xs rising).1 (omega (arith, le))) rest

-- Plays.

is_false : (x y : ℕ) → y ≤ x → nat_lt x y ≡ false
is_false x y le = grind arith

not_less : (x y : ℕ) → nat_lt x y ≡ false → y ≤ x
not_less x y h = grind arith

module _ (m : Meaning) (es : Entries) (v : View m) (a b c : ℕ) (rising : IsRising es) (le : a ≤ b) where
  play_if : (upto : ℕ) (w : View m) → w.upto ≤ upto → play m w es upto ≡ play_on m es upto w (between m w.upto upto es)
  unfolding play
  play_if upto w h = ap (λ (t : Bool). play_from m w es upto t) (is_false upto w.upto h)

  by_first : (t : Bool) → nat_lt a v.upto ≡ t → (play_from m v es a t).came ≡ Played c → play m (play_from m v es a t).view es b ≡ play m v es b
  by_first true less h = refl
  by_first false more h =
      let low = not_less a v.upto more in
      let at : (play_on m es a v (between m v.upto a es)).view.upto ≡ a = came_at m es a c v (between m v.upto a es) h in
      let first = (play_on m es a v (between m v.upto a es)).view in
      play_if b first (omega (arith, at, le))
      ∙ (ap (λ (n : ℕ). play_on m es b first (between m n b es)) at
      ∙ (join m es a b c (between m v.upto a es) (between m a b es) v h
      ∙ (ap (λ (xs : Entries). play_on m es b v xs) (sym (split m 0 v.upto a b es rising low le))
      ∙ sym (play_if b v (omega (arith, low, le))))))

pub plays_join : (m : Meaning) → PlaysJoin m
unfolding play
plays_join m es v a b c rising le h = by_first m es v a b c rising le (nat_lt a v.upto) refl h
