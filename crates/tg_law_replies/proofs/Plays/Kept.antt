-- A sound view stays so.
use Rattle.std.proofs.Common.{◌≡◌, ◌⊎◌, ℕ, ◌+◌, ◌<◌, ◌≤◌, List, [], ◌∷◌, Bool, true, false, refl, sym, subst, inl, inr, arith, Some, None, Option}
use Rattle.std.specs.Prelude.{nat_lt, if◌then◌else◌}
use Rattle.tg_base.specs.declared.ids.Oid.{Oid}
use Rattle.tg_base.specs.declared.marks.Part.{Part}
use Rattle.tg_entry.specs.declared.entry.WriteOp.{WriteOp}
use Rattle.tg_entry.specs.declared.entry.Entry.{Entry}
use Rattle.tg_kind.specs.Meaning.{Meaning}
use Rattle.tg_entry.specs.Needs.{writes_of}
use Rattle.tg_protocol.specs.Entries.{is_commit}
use Rattle.tg_protocol.specs.Views.{Entries, Verdict, Commits, Aborts, Unknown, Base, View, view_start, base_of, set_state, note, write_by, plays, write, write_all, passed_over, verdict, with_fate, with_verdict, with_open, Play, Step, On, Stuck, decided_step, record_step, entry_step, step_at, between, play_on, play_from, play}
use Rattle.tg_law_replies.specs.Plays.Sound.{rise_from, IsRising, AreSound, IsSound, upto_of}
use Rattle.tg_law_replies.specs.Plays.Laws.{StartsSound, PlaysKeep}
use Rattle.tg_law_replies.proofs.Plays.Parts.{fall_more}
use Rattle.tg_law_replies.proofs.Plays.Joins.{rises_next, step_on, on_more}

pub starts_sound : (m : Meaning) → StartsSound m
unfolding view_start
starts_sound m bases h = record { bases = h; fall = tt; after = tt }

-- Positions from one on, below another.

abbrev pub Within : ℕ → ℕ → Entries → Type 0
Within low high [] = Unit {0}
Within low high (x ∷ xs) = (low ≤ x.0) × (x.0 < high) × Within (x.0 + 1) high xs

module _ (m : Meaning) where
  within_more : (low less high : ℕ) (xs : Entries) → less ≤ low → Within low high xs → Within less high xs
  within_more low less high [] le h = tt
  within_more low less high (x ∷ xs) le h = let p = h.0 in (omega (arith, p, le), h.1, h.2)

  within_if : (low r high : ℕ) (x : ℕ × Entry) (xs : Entries) (b : Bool) → nat_lt x.0 high ≡ b → low ≤ r → r ≤ x.0 → Within (x.0 + 1) high (between m low high xs)
      → Within r high (if b then x ∷ between m low high xs else between m low high xs)
  within_if low r high x xs true e p q rest = (q, less e, rest)
    where
      less : nat_lt x.0 high ≡ true → x.0 < high
      less h = grind arith
  within_if low r high x xs false e p q rest = within_more (x.0 + 1) r high (between m low high xs) (omega (arith, q)) rest

  kept_by : (low high : ℕ) (x : ℕ × Entry) (xs : Entries) → low ≤ x.0 → between m low high (x ∷ xs) ≡ (if nat_lt x.0 high then x ∷ between m low high xs else between m low high xs)
  kept_by low high x xs le = grind arith

  dropped_by : (low high : ℕ) (x : ℕ × Entry) (xs : Entries) → x.0 < low → between m low high (x ∷ xs) ≡ between m low high xs
  dropped_by low high x xs less = grind arith

  within_later : (low r high : ℕ) (xs : Entries) → low ≤ r → rise_from r xs ≡ true → Within r high (between m low high xs)
  within_later low r high [] le h = tt
  within_later low r high (x ∷ xs) le h =
      let n = rises_next m r x xs h in let first = n.0 in
      subst (λ (ys : Entries). Within r high ys) (sym (kept_by low high x xs (omega (arith, le, first))))
      (within_if low r high x xs (nat_lt x.0 high) refl le first (within_later low (x.0 + 1) high xs (omega (arith, le, first)) n.1))

  before_or_not : (x low : ℕ) → (x < low) ⊎ (low ≤ x)
  before_or_not x low = grind arith

  pub within_between : (low r high : ℕ) (xs : Entries) → rise_from r xs ≡ true → Within low high (between m low high xs)
  within_between low r high [] h = tt
  within_between low r high (x ∷ xs) h = by (within_between low (x.0 + 1) high xs (rises_next m r x xs h).1) (before_or_not x.0 low)
    where
      by : Within low high (between m low high xs) → (x.0 < low) ⊎ (low ≤ x.0) → Within low high (between m low high (x ∷ xs))
      by rest (inl less) = subst (λ (ys : Entries). Within low high ys) (sym (dropped_by low high x xs less)) rest
      by rest (inr le) =
          subst (λ (ys : Entries). Within low high ys) (sym (kept_by low high x xs le))
          (within_if low low high x xs (nat_lt x.0 high) refl (omega arith) le (within_later low (x.0 + 1) high xs (omega (arith, le)) (rises_next m r x xs h).1))

  -- A record's step.

  abbrev pub SoundTo : ℕ → View m → Type 0
  SoundTo upto v = AreSound m upto v.bases v.noted

  sound_more : (low high : ℕ) (v : View m) → low ≤ high → SoundTo low v → SoundTo high v
  sound_more low high v le h = record { bases = h.bases; fall = fall_more low high v.noted le h.fall; after = h.after }

  -- the base of an object on which a write is played isn't past it
  played_after : (p : ℕ) (b : Option (Base m)) → plays m p b ≡ true → upto_of m b ≤ p
  played_after p None h = absurd (cc)
  played_after p (Some b) h = grind arith

  noted_sound : (p : ℕ) (v : View m) (o : Oid) (k : Part) (s : Option m.state) → upto_of m (base_of m v o) ≤ p → SoundTo (p + 1) v → SoundTo (p + 1) (note m (set_state m v o s) o k p)
  noted_sound p v o k None le h = record { bases = h.bases; fall = (omega arith, h.fall); after = (omega (arith, le), h.after) }
  noted_sound p v o k (Some s) le h = record { bases = h.bases; fall = (omega arith, h.fall); after = (omega (arith, le), h.after) }

  write_if_sound : (p : ℕ) (v : View m) (w : WriteOp) (b : Bool) → plays m p (base_of m v w.oid) ≡ b → SoundTo (p + 1) v → SoundTo (p + 1) (if b then write_by m v p w (m.read w.oid w.op) else v)
  write_if_sound p v w true e h = noted_sound p v w.oid _ _ (played_after p (base_of m v w.oid) e) h
  write_if_sound p v w false e h = h

  write_all_sound : (p : ℕ) (v : View m) (ws : List WriteOp) → SoundTo (p + 1) v → SoundTo (p + 1) (write_all m p v ws)
  write_all_sound p v [] h = h
  write_all_sound p v (w ∷ ws) h = write_all_sound p (write m p v w) ws (write_if_sound p v w (plays m p (base_of m v w.oid)) refl h)

  abbrev pub StepSound : ℕ → Step m → Type 0
  StepSound upto (On v) = SoundTo upto v
  StepSound upto (Stuck o) = Unit {0}

  verdict_sound : (v : View m) (p : ℕ) (d : Verdict) → SoundTo (p + 1) v → SoundTo (p + 1) (with_verdict m v p d)
  verdict_sound v p Commits h = record { bases = h.bases; fall = h.fall; after = h.after }
  verdict_sound v p Aborts h = record { bases = h.bases; fall = h.fall; after = h.after }
  verdict_sound v p (Unknown o) h = h

  decided_sound : (v : View m) (p : ℕ) (e : Entry) (d : Verdict) → SoundTo (p + 1) v → StepSound (p + 1) (decided_step m v p e d)
  decided_sound v p e Commits h = write_all_sound p (with_fate m v p true) (writes_of e) (record { bases = h.bases; fall = h.fall; after = h.after })
  decided_sound v p e Aborts h = record { bases = h.bases; fall = h.fall; after = h.after }
  decided_sound v p e (Unknown o) h = tt

  record_sound : (v : View m) (p : ℕ) (e : Entry) (d : Verdict) (b : Bool) → SoundTo (p + 1) v → StepSound (p + 1) (record_step m v p e d b)
  record_sound v p e d true h = verdict_sound v p d h
  record_sound v p e d false h = decided_sound v p e d h

  open_sound : (upto : ℕ) (v : View m) (p : ℕ) (b : Bool) → SoundTo upto v → SoundTo upto (if b then record v { open_records = p ∷ v.open_records } else v)
  open_sound upto v p true h = record { bases = h.bases; fall = h.fall; after = h.after }
  open_sound upto v p false h = h

  entry_sound : (v : View m) (es : Entries) (p : ℕ) (e : Entry) (b : Bool) → SoundTo (p + 1) v → StepSound (p + 1) (entry_step m v es p e b)
  entry_sound v es p e true h = record_sound (with_open m v es p e) p e (verdict m v es p e) (passed_over m v p e) (open_sound (p + 1) v p _ h)
  entry_sound v es p e false h = h

  step_sound : (v : View m) (es : Entries) (p : ℕ) (e : Entry) → SoundTo (p + 1) v → StepSound (p + 1) (step_at m v es p e)
  unfolding step_at
  step_sound v es p e h = entry_sound v es p e (is_commit e) h

  -- Plays.

  on_sound : (es : Entries) (upto : ℕ) (v : View m) (p : ℕ) (xs : Entries) → SoundTo p v → ((w : View m) → SoundTo (p + 1) w → IsSound m (play_on m es upto w xs).view) → (s : Step m)
      → StepSound (p + 1) s → IsSound m (step_on m es upto v p xs s).view
  unfolding step_on
  on_sound es upto v p xs before rest (On w) h = rest w h
  on_sound es upto v p xs before rest (Stuck o) h = record { bases = before.bases; fall = before.fall; after = before.after }

  play_on_sound : (es : Entries) (upto low : ℕ) (xs : Entries) (v : View m) → low ≤ upto → Within low upto xs → SoundTo low v → IsSound m (play_on m es upto v xs).view
  unfolding play_on
  play_on_sound es upto low [] v le w h = let more = sound_more low upto v le h in record { bases = more.bases; fall = more.fall; after = more.after }
  play_on_sound es upto low (x ∷ xs) v le w h =
      let p = w.0 in let q = w.1 in
      subst (λ (y : Play m). IsSound m y.view) (sym (on_more m es upto v x xs))
      (on_sound es upto v x.0 xs (sound_more low x.0 v p h) (λ u k. play_on_sound es upto (x.0 + 1) xs u (omega (arith, q)) w.2 k) (step_at m v es x.0 x.1)
      (step_sound v es x.0 x.1 (sound_more low (x.0 + 1) v (omega (arith, p)) h)))

  from_sound : (es : Entries) (v : View m) (upto : ℕ) (b : Bool) → nat_lt upto v.upto ≡ b → IsRising es → IsSound m v → IsSound m (play_from m v es upto b).view
  from_sound es v upto true e rising h = h
  from_sound es v upto false e rising h = play_on_sound es upto v.upto (between m v.upto upto es) v (not_above e) (within_between v.upto 0 upto es rising) h
    where
      not_above : nat_lt upto v.upto ≡ false → v.upto ≤ upto
      not_above k = grind arith

pub plays_keep : (m : Meaning) → PlaysKeep m
unfolding play
plays_keep m es v upto rising h = from_sound m es v upto (nat_lt upto v.upto) refl rising h
