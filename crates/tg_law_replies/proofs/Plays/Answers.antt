-- While the version of a part stays, the answer of an ask that looks at it stays.
use Rattle.std.proofs.Common.{◌≡◌, ◌⊎◌, ℕ, ◌+◌, ◌<◌, ◌≤◌, List, [], ◌∷◌, Bool, true, false, refl, sym, ap, ◌∙◌, subst, inl, inr, arith, Some, None, Option, ◌&&◌}
use Rattle.std.specs.Prelude.{nat_lt, if◌then◌else◌}
use Rattle.tg_base.specs.declared.ids.Oid.{Oid}
use Rattle.tg_base.specs.declared.marks.Part.{Part}
use Rattle.tg_entry.specs.declared.entry.WriteOp.{WriteOp}
use Rattle.tg_entry.specs.declared.entry.Entry.{Entry}
use Rattle.tg_kind.specs.Meaning.{Meaning}
use Rattle.tg_kind.specs.Parts.{overlap}
use Rattle.tg_base.specs.Orders.{oid_eq}
use Rattle.tg_protocol.specs.Versions.{noted_or, version_of}
use Rattle.tg_entry.specs.Needs.{writes_of}
use Rattle.tg_protocol.specs.Entries.{is_commit}
use Rattle.tg_protocol.specs.Views.{Entries, Verdict, Commits, Aborts, Unknown, Base, View, base_of, state_in, state_of, view_version, played_version, with_state, applied, set_state, touched, note, write_by, plays, write, write_all, passed_over, verdict, with_fate, with_verdict, with_open, Play, stands_at, Step, On, Stuck, decided_step, record_step, entry_step, step_at, between, play_on, play_from, play}
use Rattle.tg_law_replies.specs.Plays.Sound.{IsRising, IsSound, base_among}
use Rattle.tg_law_replies.specs.Plays.Laws.{AnswersStay}
use Rattle.tg_law_replies.proofs.Plays.Parts.{fall_more}
use Rattle.tg_law_replies.proofs.Plays.Joins.{step_on, on_more}
use Rattle.tg_law_replies.proofs.Plays.Kept.{Within, within_between}
use Rattle.tg_law_replies.proofs.Plays.Saved.{same_oid, base_lawful, noted_within}

-- an op keeps the answer to an ask that looks elsewhere
abbrev pub Apart : Meaning → Type 0
Apart m = (s : m.state) (op : m.op) (q : m.ask) → overlap (m.touch op) (m.look q) ≡ false → m.answers (m.apply s op) q ≡ m.answers s q

-- One object's state after a state was put.

oid_itself : (o : Oid) → oid_eq o o ≡ true
oid_itself o = grind arith

trans_differs : (a b c : Oid) → oid_eq a b ≡ true → oid_eq b c ≡ false → oid_eq a c ≡ false
trans_differs a b c p q = grind arith

module _ (m : Meaning) where
  other_state : (xs : List (Oid × m.state)) (p o : Oid) (s : m.state) → oid_eq p o ≡ false → state_in m (with_state m xs p s) o ≡ state_in m xs o
  other_state [] p o s e = refl
  other_state (x ∷ xs) p o s e = by (oid_eq x.0 p) refl (other_state xs p o s e)
    where
      by : (b : Bool) → oid_eq x.0 p ≡ b → state_in m (with_state m xs p s) o ≡ state_in m xs o → state_in m (if b then (p, s) ∷ xs else x ∷ with_state m xs p s) o ≡ state_in m (x ∷ xs) o
      by true same rest =
          ap (λ (t : Bool). if t then Some s else state_in m xs o) e
          ∙ sym (ap (λ (t : Bool). if t then Some x.1 else state_in m xs o) (trans_differs x.0 p o same e))
      by false same rest = ap (λ (y : Option m.state). if oid_eq x.0 o then Some x.1 else y) rest

  own_state : (xs : List (Oid × m.state)) (o : Oid) (s t : m.state) → state_in m xs o ≡ Some t → state_in m (with_state m xs o s) o ≡ Some s
  own_state [] o s t e = absurd (none e)
    where
      none : None ≡ Some t → ⊥
      none h = cc
  own_state (x ∷ xs) o s t e = by (oid_eq x.0 o) refl (own_state xs o s t) e
    where
      by : (b : Bool) → oid_eq x.0 o ≡ b → (state_in m xs o ≡ Some t → state_in m (with_state m xs o s) o ≡ Some s) → (if b then Some x.1 else state_in m xs o) ≡ Some t
          → state_in m (if b then (o, s) ∷ xs else x ∷ with_state m xs o s) o ≡ Some s
      by true same rest h = ap (λ (b : Bool). if b then Some s else state_in m xs o) (oid_itself o)
      by false same rest h = ap (λ (b : Bool). if b then Some x.1 else state_in m (with_state m xs o s) o) same ∙ rest h

  -- What is told of an object after a write.

  module _ (o : Oid) (k : Part) where
    abbrev version : View m → ℕ
    version v = view_version m v o k

    abbrev after_write : View m → Oid → Option m.state → Part → ℕ → View m
    after_write v y s j p = note m (set_state m v y s) y j p

    other_played : (v : View m) (y : Oid) (j : Part) (p : ℕ) (s : Option m.state) (b : Option (Base m)) → (oid_eq y o && overlap j k) ≡ false
        → played_version m (after_write v y s j p) b o k ≡ played_version m v b o k
    unfolding version_of
    other_played v y j p s None h = refl
    other_played v y j p None (Some b) h = ap (λ (t : Bool). if t then p + 1 else noted_or b.versions.base v.noted o k) h
    other_played v y j p (Some s) (Some b) h = ap (λ (t : Bool). if t then p + 1 else noted_or b.versions.base v.noted o k) h

    same_bases : (v : View m) (y : Oid) (s : Option m.state) → (set_state m v y s).bases ≡ v.bases
    same_bases v y None = refl
    same_bases v y (Some s) = refl

    same_base : (v : View m) (y : Oid) (j : Part) (p : ℕ) (s : Option m.state) → base_of m (after_write v y s j p) o ≡ base_of m v o
    same_base v y j p s = ap (λ (bs : List (Base m)). base_among m bs o) (same_bases v y s)

    other_version : (v : View m) (y : Oid) (j : Part) (p : ℕ) (s : Option m.state) → (oid_eq y o && overlap j k) ≡ false → version (after_write v y s j p) ≡ version v
    unfolding view_version
    other_version v y j p s h =
        ap (λ (b : Option (Base m)). played_version m (after_write v y s j p) b o k) (same_base v y j p s) ∙ other_played v y j p s (base_of m v o) h

    new_played : (v : View m) (y : Oid) (j : Part) (p : ℕ) (s : Option m.state) (b : Option (Base m)) → plays m p b ≡ true → (oid_eq y o && overlap j k) ≡ true
        → played_version m (after_write v y s j p) b o k ≡ p + 1
    unfolding version_of
    new_played v y j p s None plays h = absurd (differ plays)
      where
        differ : false ≡ true → ⊥
        differ e = cc
    new_played v y j p None (Some b) plays h = ap (λ (t : Bool). if t then p + 1 else noted_or b.versions.base v.noted o k) h
    new_played v y j p (Some s) (Some b) plays h = ap (λ (t : Bool). if t then p + 1 else noted_or b.versions.base v.noted o k) h

    new_version : (v : View m) (y : Oid) (j : Part) (p : ℕ) (s : Option m.state) → plays m p (base_of m v o) ≡ true → (oid_eq y o && overlap j k) ≡ true → version (after_write v y s j p) ≡ p + 1
    unfolding view_version
    new_version v y j p s plays h =
        ap (λ (b : Option (Base m)). played_version m (after_write v y s j p) b o k) (same_base v y j p s) ∙ new_played v y j p s (base_of m v o) plays h

    other_told : (v : View m) (y : Oid) (j : Part) (p : ℕ) (s : Option m.state) → oid_eq y o ≡ false → state_of m (after_write v y s j p) o ≡ state_of m v o
    other_told v y j p None e = refl
    other_told v y j p (Some s) e = other_state v.states y o s e

  module _ (apart : Apart m) (o : Oid) (q : m.ask) (bs : List (Base m)) (first : m.state) (number : ℕ) where
    abbrev K : Part
    K = m.look q

    -- the version and the answer are those of before, or a later change has moved the version
    pub record Stays (v : View m) : Type 0 where
      pub bases : v.bases ≡ bs
      pub told : (t : m.state) → state_of m v o ≡ Some t → ((view_version m v o K ≡ number) × (m.answers first q ≡ m.answers t q)) ⊎ (number < view_version m v o K)

    -- a write of an object's own, by its op

    some_state : (s t : m.state) → Some s ≡ Some t → s ≡ t
    some_state s t e = cc

    no_state : (t : m.state) → None ≡ Some t → ⊥
    no_state t e = cc

    moved_on : (v : View m) (t : m.state) (n : ℕ) (u : m.state) → ((view_version m v o K ≡ number) × (m.answers first q ≡ m.answers t q)) ⊎ (number < view_version m v o K)
        → n ≡ view_version m v o K → m.answers u q ≡ m.answers t q → ((n ≡ number) × (m.answers first q ≡ m.answers u q)) ⊎ (number < n)
    moved_on v t n u (inl x) e a = inl (e ∙ x.0, x.1 ∙ sym a)
    moved_on v t n u (inr less) e a = inr (subst (λ (i : ℕ). number < i) (sym e) less)

    own_kept : (p : ℕ) (v : View m) (op : m.op) (s : Option m.state) → Stays v → state_of m v o ≡ s → overlap (m.touch op) K ≡ false → (t : m.state)
        → state_of m (after_write o K v o (applied m (Some op) s) (m.touch op) p) o ≡ Some t
        → ((view_version m (after_write o K v o (applied m (Some op) s) (m.touch op) p) o K ≡ number) × (m.answers first q ≡ m.answers t q))
        ⊎ (number < view_version m (after_write o K v o (applied m (Some op) s) (m.touch op) p) o K)
    own_kept p v op None h is apart_from t told = absurd (no_state t (sym is ∙ told))
    own_kept p v op (Some s) h is apart_from t told =
        let new : m.apply s op ≡ t = some_state (m.apply s op) t (sym (own_state v.states o (m.apply s op) s is) ∙ told) in
        moved_on v s _ t (h.told s is)
        (other_version o K v o (m.touch op) p (Some (m.apply s op)) (both_false (oid_eq o o) (overlap (m.touch op) K) apart_from))
        (sym (ap (λ (u : m.state). m.answers u q) new) ∙ apart s op q apart_from)
      where
        both_false : (a b : Bool) → b ≡ false → (a && b) ≡ false
        both_false a b e = grind arith

    -- A write.

    own_write : (p : ℕ) (v : View m) (op : Option m.op) → Stays v → plays m p (base_of m v o) ≡ true → number ≤ p → (b : Bool) → overlap (touched m op) K ≡ b
        → Stays (after_write o K v o (applied m op (state_of m v o)) (touched m op) p)
    own_write p v op h played le true e = record {
      bases = same_bases o K v o (applied m op (state_of m v o)) ∙ h.bases;
      told = λ t told.
          let n = new_version o K v o (touched m op) p (applied m op (state_of m v o)) played (both (oid_eq o o) (overlap (touched m op) K) (oid_itself o) e) in
          inr (subst (λ (i : ℕ). number < i) (sym n) (omega (arith, le)));
    }
      where
        both : (x y : Bool) → x ≡ true → y ≡ true → (x && y) ≡ true
        both x y f g = grind arith
    own_write p v None h played le false e = absurd (differ e)
      where
        differ : true ≡ false → ⊥
        differ x = cc
    own_write p v (Some op) h played le false e = record {
      bases = same_bases o K v o (applied m (Some op) (state_of m v o)) ∙ h.bases;
      told = λ t told. own_kept p v op (state_of m v o) h refl e t told;
    }

    other_write : (p : ℕ) (v : View m) (y : Oid) (s : Option m.state) (j : Part) → Stays v → oid_eq y o ≡ false → Stays (after_write o K v y s j p)
    other_write p v y s j h e = record {
      bases = same_bases o K v y s ∙ h.bases;
      told = λ t told.
          subst (λ (n : ℕ). ((n ≡ number) × (m.answers first q ≡ m.answers t q)) ⊎ (number < n)) (sym (other_version o K v y j p s (first_false (oid_eq y o) (overlap j K) e)))
          (h.told t (sym (other_told o K v y j p s e) ∙ told));
    }
      where
        first_false : (a b : Bool) → a ≡ false → (a && b) ≡ false
        first_false a b f = grind arith

    write_by_stays : (p : ℕ) (v : View m) (w : WriteOp) (op : Option m.op) → Stays v → (b : Bool) → oid_eq w.oid o ≡ b → plays m p (base_of m v w.oid) ≡ true
        → (plays m p (base_among m bs o) ≡ true → number ≤ p) → Stays (write_by m v p w op)
    write_by_stays p v w op h false e played low = other_write p v w.oid (applied m op (state_of m v w.oid)) (touched m op) h e
    write_by_stays p v w op h true e played low =
        let same = same_oid w.oid o e in
        let own : plays m p (base_of m v o) ≡ true = subst (λ (y : Oid). plays m p (base_of m v y) ≡ true) same played in
        let le = low (subst (λ (xs : List (Base m)). plays m p (base_among m xs o) ≡ true) h.bases own) in
        subst (λ (y : Oid). Stays (after_write o K v y (applied m op (state_of m v y)) (touched m op) p)) (sym same) (own_write p v op h own le (overlap (touched m op) K) refl)

    write_if_stays : (p : ℕ) (v : View m) (w : WriteOp) (b : Bool) → plays m p (base_of m v w.oid) ≡ b → Stays v → (plays m p (base_among m bs o) ≡ true → number ≤ p)
        → Stays (if b then write_by m v p w (m.read w.oid w.op) else v)
    write_if_stays p v w true e h low = write_by_stays p v w (m.read w.oid w.op) h (oid_eq w.oid o) refl e low
    write_if_stays p v w false e h low = h

    write_all_stays : (p : ℕ) (v : View m) (ws : List WriteOp) → Stays v → (plays m p (base_among m bs o) ≡ true → number ≤ p) → Stays (write_all m p v ws)
    write_all_stays p v [] h low = h
    write_all_stays p v (w ∷ ws) h low = write_all_stays p (write m p v w) ws (write_if_stays p v w (plays m p (base_of m v w.oid)) refl h low) low

    -- A record's step.

    abbrev StepStays : Step m → Type 0
    StepStays (On v) = Stays v
    StepStays (Stuck x) = Unit {0}

    with_fate_stays : (v : View m) (p : ℕ) (b : Bool) → Stays v → Stays (with_fate m v p b)
    unfolding view_version version_of
    with_fate_stays v p b h = record { bases = h.bases; told = h.told }

    verdict_stays : (v : View m) (p : ℕ) (d : Verdict) → Stays v → Stays (with_verdict m v p d)
    verdict_stays v p Commits h = with_fate_stays v p true h
    verdict_stays v p Aborts h = with_fate_stays v p false h
    verdict_stays v p (Unknown x) h = h

    decided_stays : (v : View m) (p : ℕ) (e : Entry) (d : Verdict) → Stays v → (plays m p (base_among m bs o) ≡ true → number ≤ p) → StepStays (decided_step m v p e d)
    decided_stays v p e Commits h low = write_all_stays p (with_fate m v p true) (writes_of e) (with_fate_stays v p true h) low
    decided_stays v p e Aborts h low = with_fate_stays v p false h
    decided_stays v p e (Unknown x) h low = tt

    record_stays : (v : View m) (p : ℕ) (e : Entry) (d : Verdict) (b : Bool) → Stays v → (plays m p (base_among m bs o) ≡ true → number ≤ p) → StepStays (record_step m v p e d b)
    record_stays v p e d true h low = verdict_stays v p d h
    record_stays v p e d false h low = decided_stays v p e d h low

    open_stays : (v : View m) (p : ℕ) (b : Bool) → Stays v → Stays (if b then record v { open_records = p ∷ v.open_records } else v)
    unfolding view_version version_of
    open_stays v p true h = record { bases = h.bases; told = h.told }
    open_stays v p false h = h

    entry_stays : (v : View m) (es : Entries) (p : ℕ) (e : Entry) (b : Bool) → Stays v → (plays m p (base_among m bs o) ≡ true → number ≤ p) → StepStays (entry_step m v es p e b)
    entry_stays v es p e true h low = record_stays (with_open m v es p e) p e (verdict m v es p e) (passed_over m v p e) (open_stays v p _ h) low
    entry_stays v es p e false h low = h

    step_stays : (v : View m) (es : Entries) (p : ℕ) (e : Entry) → Stays v → (plays m p (base_among m bs o) ≡ true → number ≤ p) → StepStays (step_at m v es p e)
    unfolding step_at
    step_stays v es p e h low = entry_stays v es p e (is_commit e) h low

    -- Plays over positions from one on.

    stood : (v : View m) (p : ℕ) → Stays v → Stays (stands_at m v p)
    unfolding view_version version_of
    stood v p h = record { bases = h.bases; told = h.told }

    on_stays : (es : Entries) (upto : ℕ) (v : View m) (p : ℕ) (xs : Entries) → Stays v → ((w : View m) → Stays w → Stays (play_on m es upto w xs).view) → (s : Step m) → StepStays s
        → Stays (step_on m es upto v p xs s).view
    unfolding step_on
    on_stays es upto v p xs before rest (On w) h = rest w h
    on_stays es upto v p xs before rest (Stuck x) h = stood v p before

    play_on_stays : (es : Entries) (upto from low : ℕ) (xs : Entries) (v : View m) → from ≤ low → Within low upto xs → Stays v
        → ((p : ℕ) → from ≤ p → plays m p (base_among m bs o) ≡ true → number ≤ p) → Stays (play_on m es upto v xs).view
    unfolding play_on
    play_on_stays es upto from low [] v le w h bound = stood v upto h
    play_on_stays es upto from low (x ∷ xs) v le w h bound =
        let p = w.0 in
        let here : from ≤ x.0 = omega (arith, le, p) in
        subst (λ (y : Play m). Stays y.view) (sym (on_more m es upto v x xs))
        (on_stays es upto v x.0 xs h (λ u k. play_on_stays es upto from (x.0 + 1) xs u (omega (arith, here)) w.2 k bound) (step_at m v es x.0 x.1) (step_stays v es x.0 x.1 h (bound x.0 here)))

  not_past : (p : ℕ) (b : Base m) → plays m p (Some b) ≡ true → b.upto ≤ p
  not_past p b h = grind arith

  -- where a write at or past the view's end is played, no version is above its position
  within_by : (p : ℕ) (v : View m) (o : Oid) (k : Part) → IsSound m v → v.upto ≤ p → (b : Option (Base m)) → base_of m v o ≡ b → plays m p b ≡ true → played_version m v b o k ≤ p
  unfolding version_of
  within_by p v o k sound le None e played = omega arith
  within_by p v o k sound le (Some b) e played =
      noted_within o b.versions.base v.noted p b.upto k (base_lawful m v.bases o b sound.bases e) (not_past p b played) (fall_more v.upto p v.noted le sound.fall)

  within : (p : ℕ) (v : View m) (o : Oid) (k : Part) → IsSound m v → v.upto ≤ p → (b : Option (Base m)) → base_of m v o ≡ b → plays m p b ≡ true → view_version m v o k ≤ p
  unfolding view_version
  within p v o k sound le b e played = subst (λ (c : Option (Base m)). played_version m v c o k ≤ p) (sym e) (within_by p v o k sound le b e played)

  from_stays : (apart : Apart m) (o : Oid) (q : m.ask) (s : m.state) (es : Entries) (v : View m) (upto : ℕ) (b : Bool) → IsRising es → IsSound m v → state_of m v o ≡ Some s
      → Stays apart o q v.bases s (view_version m v o (m.look q)) (play_from m v es upto b).view
  from_stays apart o q s es v upto true rising sound is = begun apart o q s v is
    where
      begun : (apart : Apart m) (o : Oid) (q : m.ask) (s : m.state) (v : View m) → state_of m v o ≡ Some s → Stays apart o q v.bases s (view_version m v o (m.look q)) v
      begun apart o q s v is = record { bases = refl; told = λ t told. inl (refl, ap (λ (u : m.state). m.answers u q) (same s t (sym is ∙ told))) }
        where
          same : (x y : m.state) → Some x ≡ Some y → x ≡ y
          same x y e = cc
  from_stays apart o q s es v upto false rising sound is =
      play_on_stays apart o q v.bases s (view_version m v o (m.look q)) es upto v.upto v.upto (between m v.upto upto es) v (omega arith) (within_between m v.upto 0 upto es rising)
      (record { bases = refl; told = λ t told. inl (refl, ap (λ (u : m.state). m.answers u q) (same s t (sym is ∙ told))) })
      (λ p le played. within p v o (m.look q) sound le (base_of m v o) refl played)
    where
      same : (x y : m.state) → Some x ≡ Some y → x ≡ y
      same x y e = cc

  stayed : (apart : Apart m) (es : Entries) (v : View m) (upto : ℕ) (o : Oid) (q : m.ask) (s t : m.state) → (w : View m) → Stays apart o q v.bases s (view_version m v o (m.look q)) w
      → state_of m w o ≡ Some t → view_version m v o (m.look q) ≡ view_version m w o (m.look q) → m.answers s q ≡ m.answers t q
  stayed apart es v upto o q s t w h told same = by (h.told t told)
    where
      by : ((view_version m w o (m.look q) ≡ view_version m v o (m.look q)) × (m.answers s q ≡ m.answers t q)) ⊎ (view_version m v o (m.look q) < view_version m w o (m.look q)) → m.answers s q ≡ m.answers t q
      by (inl x) = x.1
      by (inr less) = absurd (omega (arith, less, same))

pub answers_stay : (m : Meaning) → Apart m → AnswersStay m
unfolding play
answers_stay m apart es v upto o q s t rising sound is told same =
    stayed m apart es v upto o q s t _ (from_stays m apart o q s es v upto (nat_lt upto v.upto) rising sound is) told same
