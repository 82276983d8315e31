-- States of objects from one position to a later one, and the plain machine's.
use Rattle.std.proofs.Common.{◌≡◌, ◌⊎◌, ℕ, ◌+◌, ◌<◌, ◌≤◌, List, [], ◌∷◌, Bool, true, false, refl, sym, ap, ◌∙◌, subst, inl, inr, arith, Option, Some, None}
use Rattle.std.specs.Prelude.{nat_lt, if◌then◌else◌, ◌&&◌}
use Rattle.tg_base.specs.declared.ids.Oid.{Oid}
use Rattle.tg_entry.specs.declared.entry.WriteOp.{WriteOp}
use Rattle.tg_kind.specs.Meaning.{Meaning}
use Rattle.tg_kind.specs.Parts.{overlap}
use Rattle.tg_model.specs.Kinds.{DoneOf}
use Rattle.tg_model.specs.Stores.{Store, stored_state, with_stored_state, after_writes, store_after}
use Rattle.tg_base.specs.Orders.{oid_eq}
use Rattle.tg_entry.specs.Needs.{writes_of}
use Rattle.tg_protocol.specs.Versions.{PartVersion}
use Rattle.tg_protocol.specs.Views.{Entries, touched}
use Rattle.tg_protocol.specs.Logs.{commits_after, changes_after, op_if, ops_of, done_if, history_after}
use Rattle.tg_law_replies.specs.Plays.Sound.{rise_from, IsRising}
use Rattle.tg_law_replies.specs.History.Logs.{writes_to, state_below}
use Rattle.tg_law_replies.specs.History.Laws.{LogAnswersStay}
use Rattle.tg_law_replies.proofs.History.Members.{same_oid, of_lt, of_not_lt, lt_of, not_lt, differ}
use Rattle.tg_law_replies.proofs.History.Ledger.{Ledger, noted, with_writes, after, below, noted_after, Steps, grow, rises_next, rises_here}
use Rattle.tg_law_replies.proofs.History.Versions.{version_in, version_on, version_off, at, version_at, version_most}

-- an op keeps the answer to an ask that looks elsewhere
abbrev pub Apart : Meaning → Type 0
Apart m = (s : m.state) (op : m.op) (q : m.ask) → overlap (m.touch op) (m.look q) ≡ false → m.answers (m.apply s op) q ≡ m.answers s q

module _ (m : Meaning) (objects : List Oid) where
  abbrev pub op_on : Option m.op → m.state → m.state
  op_on None s = s
  op_on (Some op) s = m.apply s op

  -- an object's state after a ledger's writes
  abbrev pub state_after : Oid → Ledger m → m.state
  state_after o [] = m.fresh o objects
  state_after o (x ∷ xs) = if oid_eq x.1.oid o then op_on (m.read x.1.oid x.1.op) (state_after o xs) else state_after o xs

  pub state_on : (o : Oid) (p : ℕ) (w : WriteOp) (ys : Ledger m) → oid_eq w.oid o ≡ true → state_after o ((p, w) ∷ ys) ≡ op_on (m.read w.oid w.op) (state_after o ys)
  state_on o p w ys h = ap (λ (b : Bool). if b then op_on (m.read w.oid w.op) (state_after o ys) else state_after o ys) h

  pub state_off : (o : Oid) (p : ℕ) (w : WriteOp) (ys : Ledger m) → oid_eq w.oid o ≡ false → state_after o ((p, w) ∷ ys) ≡ state_after o ys
  state_off o p w ys h = ap (λ (b : Bool). if b then op_on (m.read w.oid w.op) (state_after o ys) else state_after o ys) h

  -- It is the plain machine's.

  skipped : (a b : Bool) (r u v w : m.state) → (a ≡ true → b ≡ false) → u ≡ (if b then v else w) → (if a then r else u) ≡ (if b then v else (if a then r else w))
  skipped true true r u v w h e = absurd (differ (h refl))
  skipped true false r u v w h e = refl
  skipped false b r u v w h e = e

  taken : (a b : Bool) (r v w : m.state) → a ≡ b → (if b then v else w) ≡ (if b then v else (if a then r else w))
  taken a true r v w e = refl
  taken a false r v w e = ap (λ (t : Bool). if t then r else w) (sym e)

  apart_oids : (a b c : Oid) → oid_eq a b ≡ false → oid_eq a c ≡ true → oid_eq b c ≡ false
  apart_oids a b c e f = grind arith

  stored : (st : Store m) (y o : Oid) (s : m.state) → stored_state m objects (with_stored_state m st y s) o ≡ (if oid_eq y o then s else stored_state m objects st o)
  stored [] y o s = refl
  stored (x ∷ st) y o s = by (oid_eq x.0 y) refl (stored st y o s)
    where
      by : (b : Bool) → oid_eq x.0 y ≡ b → stored_state m objects (with_stored_state m st y s) o ≡ (if oid_eq y o then s else stored_state m objects st o)
          → stored_state m objects (if b then (y, s) ∷ st else x ∷ with_stored_state m st y s) o ≡ (if oid_eq y o then s else stored_state m objects (x ∷ st) o)
      by true e rest = taken (oid_eq x.0 o) (oid_eq y o) x.1 s (stored_state m objects st o) (ap (λ (z : Oid). oid_eq z o) (same_oid x.0 y e))
      by false e rest = skipped (oid_eq x.0 o) (oid_eq y o) x.1 (stored_state m objects (with_stored_state m st y s) o) s (stored_state m objects st o) (apart_oids x.0 y o e) rest

  -- a store has the states of a ledger
  abbrev pub AreStates : Store m → Ledger m → Type 0
  AreStates st xs = (o : Oid) → stored_state m objects st o ≡ state_after o xs

  write_agrees : (p : ℕ) (w : WriteOp) (op : m.op) (st : Store m) (xs : Ledger m) → m.read w.oid w.op ≡ Some op → AreStates st xs
      → AreStates (with_stored_state m st w.oid (m.apply (stored_state m objects st w.oid) op)) ((p, w) ∷ xs)
  write_agrees p w op st xs is h o = stored st w.oid o (m.apply (stored_state m objects st w.oid) op) ∙ by (oid_eq w.oid o) refl
    where
      by : (b : Bool) → oid_eq w.oid o ≡ b
          → (if b then m.apply (stored_state m objects st w.oid) op else stored_state m objects st o) ≡ (if b then op_on (m.read w.oid w.op) (state_after o xs) else state_after o xs)
      by true e = ap (λ (s : m.state). m.apply s op) (ap (λ (y : Oid). stored_state m objects st y) (same_oid w.oid o e) ∙ h o) ∙ ap (λ (t : Option m.op). op_on t (state_after o xs)) (sym is)
      by false e = h o

  skip_agrees : (p : ℕ) (w : WriteOp) (st : Store m) (xs : Ledger m) → m.read w.oid w.op ≡ None → AreStates st xs → AreStates st ((p, w) ∷ xs)
  skip_agrees p w st xs is h o = h o ∙ by (oid_eq w.oid o)
    where
      by : (b : Bool) → state_after o xs ≡ (if b then op_on (m.read w.oid w.op) (state_after o xs) else state_after o xs)
      by true = ap (λ (t : Option m.op). op_on t (state_after o xs)) (sym is)
      by false = refl

  writes_agree : (p : ℕ) (ws : List WriteOp) (st : Store m) (xs : Ledger m) → AreStates st xs → AreStates (after_writes m objects st (ops_of m ws)) (with_writes m p ws xs)
  writes_agree p [] st xs h = h
  writes_agree p (w ∷ ws) st xs h = by (m.read w.oid w.op) refl (λ st ys k. writes_agree p ws st ys k)
    where
      by : (op : Option m.op) → m.read w.oid w.op ≡ op → ((st : Store m) (ys : Ledger m) → AreStates st ys → AreStates (after_writes m objects st (ops_of m ws)) (with_writes m p ws ys))
          → AreStates (after_writes m objects st (op_if m w.oid op (ops_of m ws))) (with_writes m p ws ((p, w) ∷ xs))
      by None is rest = rest st ((p, w) ∷ xs) (skip_agrees p w st xs is h)
      by (Some op) is rest = rest _ ((p, w) ∷ xs) (write_agrees p w op st xs is h)

  -- entries from a position on leave the store below it as it is
  late : (r : ℕ) (es : Entries) (ns : List PartVersion) (st : Store m) (n : ℕ) → rise_from r es ≡ true → n ≤ r → store_after m objects st (history_after m ns es) n ≡ st
  unfolding store_after
  late r [] ns st n h le = refl
  late r (x ∷ es) ns st n h le =
      let next = rises_next r x es h in let first = next.0 in
      by (commits_after m ns x.1) (omega (arith, first, le)) (late (x.0 + 1) es (changes_after m ns x.0 x.1) st n next.1 (omega (arith, first, le)))
    where
      by : (b : Bool) → n ≤ x.0 → store_after m objects st (history_after m (changes_after m ns x.0 x.1) es) n ≡ st
          → store_after m objects st (done_if m b x.0 x.1 (history_after m (changes_after m ns x.0 x.1) es)) n ≡ st
      by true past rest = ap (λ (b : Bool). if b then store_after m objects (after_writes m objects st (ops_of m (writes_of x.1))) (history_after m (changes_after m ns x.0 x.1) es) n else store_after m objects st (history_after m (changes_after m ns x.0 x.1) es) n) (of_not_lt x.0 n past) ∙ rest
      by false past rest = rest

  pub history_agrees : (r : ℕ) (es : Entries) (n : ℕ) (st : Store m) (xs : Ledger m) → rise_from r es ≡ true → AreStates st xs
      → AreStates (store_after m objects st (history_after m (noted m xs) es) n) (below m xs es n)
  unfolding store_after below
  history_agrees r [] n st xs rise h = h
  history_agrees r (x ∷ es) n st xs rise h =
      by (nat_lt x.0 n) refl
      (λ s k. subst (λ (ns : List PartVersion). AreStates (store_after m objects s (history_after m ns es) n) (below m (after m xs x.0 x.1) es n)) (noted_after m x.0 x.1 xs)
      (history_agrees (x.0 + 1) es n s (after m xs x.0 x.1) (rises_next r x es rise).1 k))
    where
      here : (b : Bool) (ys : Ledger m) (hs : List (DoneOf m)) → x.0 < n → ((s : Store m) → AreStates s (if b then with_writes m x.0 (writes_of x.1) xs else xs) → AreStates (store_after m objects s hs n) ys)
          → AreStates (store_after m objects st (done_if m b x.0 x.1 hs) n) ys
      here true ys hs less rest =
          subst (λ (s : Store m). AreStates s ys)
          (sym (ap (λ (t : Bool). if t then store_after m objects (after_writes m objects st (ops_of m (writes_of x.1))) hs n else store_after m objects st hs n) (of_lt x.0 n less)))
          (rest (after_writes m objects st (ops_of m (writes_of x.1))) (writes_agree x.0 (writes_of x.1) st xs h))
      here false ys hs less rest = rest st h

      by : (b : Bool) → nat_lt x.0 n ≡ b
          → ((s : Store m) → AreStates s (after m xs x.0 x.1) → AreStates (store_after m objects s (history_after m (changes_after m (noted m xs) x.0 x.1) es) n) (below m (after m xs x.0 x.1) es n))
          → AreStates (store_after m objects st (history_after m (noted m xs) (x ∷ es)) n) (if b then below m (after m xs x.0 x.1) es n else xs)
      by true e rest = here (commits_after m (noted m xs) x.1) (below m (after m xs x.0 x.1) es n) (history_after m (changes_after m (noted m xs) x.0 x.1) es) (lt_of x.0 n e) rest
      by false e rest =
          subst (λ (s : Store m). AreStates s xs) (sym (late x.0 (x ∷ es) (noted m xs) st n (rises_here r x es rise) (not_lt x.0 n e))) h

  pub state_at_is : (es : Entries) → IsRising es → (n : ℕ) (o : Oid) → state_below m objects es n o ≡ state_after o (below m [] es n)
  state_at_is es rising n o = history_agrees 0 es n [] [] rising (λ o. refl) o

  -- While the version of what is looked at stays, so does the answer.

  module _ (apart : Apart m) (es : Entries) (rising : IsRising es) (a b : ℕ) (o : Oid) (q : m.ask) where
    abbrev Stays : Ledger m → Type 0
    Stays ys =
        ((version_in m o (m.look q) ys ≡ version_in m o (m.look q) (at m objects es rising a)) × (m.answers (state_after o ys) q ≡ m.answers (state_after o (at m objects es rising a)) q))
        ⊎ (a < version_in m o (m.look q) ys)

    abbrev moved : ℕ → m.answer → Type 0
    moved n r = ((n ≡ version_in m o (m.look q) (at m objects es rising a)) × (r ≡ m.answers (state_after o (at m objects es rising a)) q)) ⊎ (a < n)

    stays_by : (n k : ℕ) (r s : m.answer) → k ≡ n → s ≡ r → moved n r → moved k s
    stays_by n k r s e f (inl x) = inl (e ∙ x.0, f ∙ x.1)
    stays_by n k r s e f (inr less) = inr (omega (arith, e, less))

    own_answer : (w : WriteOp) (ys : Ledger m) (op : Option m.op) → overlap (touched m op) (m.look q) ≡ false → m.answers (op_on op (state_after o ys)) q ≡ m.answers (state_after o ys) q
    own_answer w ys None h = refl
    own_answer w ys (Some op) h = apart (state_after o ys) op q h

    answer_off : (p : ℕ) (w : WriteOp) (ys : Ledger m) (c : Bool) → oid_eq w.oid o ≡ c → writes_to m o (m.look q) w ≡ false → m.answers (state_after o ((p, w) ∷ ys)) q ≡ m.answers (state_after o ys) q
    answer_off p w ys true e off =
        ap (λ (s : m.state). m.answers s q) (state_on o p w ys e) ∙ own_answer w ys (m.read w.oid w.op) (second (oid_eq w.oid o) (overlap (touched m (m.read w.oid w.op)) (m.look q)) e off)
      where
        second : (x y : Bool) → x ≡ true → (x && y) ≡ false → y ≡ false
        second true y e f = f
        second false y e f = absurd cc
    answer_off p w ys false e off = ap (λ (s : m.state). m.answers s q) (state_off o p w ys e)

    stays_step : Steps m [] es a b Stays
    stays_step p e w ys i low less c j h = by (writes_to m o (m.look q) w) refl
      where
        by : (t : Bool) → writes_to m o (m.look q) w ≡ t → Stays ((p, w) ∷ ys)
        by true to = let is = version_on m o (m.look q) p w ys to in inr (omega (arith, is, low))
        by false to =
            stays_by (version_in m o (m.look q) ys) (version_in m o (m.look q) ((p, w) ∷ ys)) (m.answers (state_after o ys) q) (m.answers (state_after o ((p, w) ∷ ys)) q)
            (version_off m o (m.look q) p w ys to) (answer_off p w ys (oid_eq w.oid o) refl to) h

    pub answers_stay : a ≤ b → version_in m o (m.look q) (at m objects es rising b) ≡ version_in m o (m.look q) (at m objects es rising a)
        → m.answers (state_after o (at m objects es rising b)) q ≡ m.answers (state_after o (at m objects es rising a)) q
    answers_stay le same = by (grow m Stays [] 0 es a b rising le stays_step (inl (refl, refl)))
      where
        by : Stays (at m objects es rising b) → m.answers (state_after o (at m objects es rising b)) q ≡ m.answers (state_after o (at m objects es rising a)) q
        by (inl x) = x.1
        by (inr less) = let most = version_most m objects es rising a o (m.look q) in absurd (omega (arith, less, most, same))

pub log_answers_stay : (m : Meaning) → Apart m → LogAnswersStay m
log_answers_stay m apart objects es a b o q rising le same =
    ap (λ (s : m.state). m.answers s q) (state_at_is m objects es rising b o)
    ∙ (answers_stay m objects apart es rising a b o q le (version_at m objects es rising b o (m.look q) ∙ (same ∙ sym (version_at m objects es rising a o (m.look q))))
    ∙ ap (λ (s : m.state). m.answers s q) (sym (state_at_is m objects es rising a o)))
