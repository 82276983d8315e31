-- The state of an object after the entries below a position, and the last change of a part below it, where stamps rise.
use Rattle.std.proofs.Common.{◌≡◌, ℕ, zero, suc, ◌+◌, ◌-◌, ◌<◌, ◌≤◌, List, [], ◌∷◌, ◌++◌, Bool, true, false, refl, sym, ap, subst, ◌∙◌, length, get_or, take, drop, map, arith}
use Rattle.std.specs.Prelude.{◌&&◌, ◌==◌, nat_lt, Option, Some, None, Result, Ok, Err, IfOk, if◌then◌else◌}
use Rattle.std.specs.Ordering.{nat_cmp}
use Rattle.std.specs.BTreeMap as tree
use Rattle.std.specs.BTreeMap.{BTreeMap}
use Rattle.std.proofs.lemmas.List.{get_or-map}
use Rattle.std.proofs.lemmas.Bool.Decides.{nat_tests}
use Rattle.tg_base.specs.declared.ids.Oid.{Oid}
use Rattle.tg_base.specs.declared.marks.Part.{Part}
use Rattle.tg_kind.specs.Meaning.{Meaning}
use Rattle.tg_model.specs.declared.trace.What.TheVariants as told
use Rattle.tg_model.specs.Kinds.{MarkOf, DoneOf}
use Rattle.tg_model.specs.Stores.{History, changes, later_of, changed, state_at}
use Rattle.tg_model.specs.Traces.{Trace}
use Rattle.tg_audit.proofs.Windows.{length_map, rising_below, splits}
use Rattle.tg_audit.proofs.Lists.{take_item}
use Rattle.tg_audit.proofs.Plays.{state_is}
use Rattle.tg_audit.specs.Judging.{written, step, played, asked_all, holds}
use Rattle.tg_audit.specs.Places.{IsRising, IsBetween, Splits}
use Rattle.tg_audit.specs.Runs.{stamp_of, IsAskedAt, IsRight, AreRight}
use Rattle.tg_audit.specs.Sweeps.{after, EndsBelow, IsUpTo, IsSweep, IsSweepTo}

less : (a b : ℕ) → a < b → nat_lt a b ≡ true
less a b h = grind (arith, nat_tests, h)

not_less : (a b : ℕ) → b ≤ a → nat_lt a b ≡ false
not_less a b h = grind (arith, nat_tests, h)

same_number : (a b : ℕ) → (a == b) ≡ true → a ≡ b
same_number a b e = grind (arith, nat_tests, e)

some_number : (a b : ℕ) → Some a ≡ Some b → a ≡ b
some_number a b e = cc

module _ (m : Meaning) where
  after_last : (o : Oid) (s : m.state) (ds : History m) (d : DoneOf m) → after m o s (ds ++ d ∷ []) ≡ written m o (after m o s ds) d.writes
  unfolding after
  after_last o s [] d = refl
  after_last o s (e ∷ ds) d = after_last o (written m o s e.writes) ds d

  -- an entry further
  pub after_next : (o : Oid) (x s t : m.state) (ds : History m) (n : ℕ) (d : DoneOf m) → n < length ds → d ≡ get_or ds n d → s ≡ after m o x (take n ds)
      → t ≡ written m o s d.writes → t ≡ after m o x (take (n + 1) ds)
  after_next o x s t ds n d h e so_far is =
      is ∙ ap (λ (y : m.state). written m o y d.writes) so_far ∙ sym (after_last o x (take n ds) d) ∙ ap (after m o x) (sym (take_item ds n d h e))

  step_by : (o : Oid) (n : ℕ) (s : m.state) (d : DoneOf m) (b : Bool) → nat_lt d.stamp n ≡ b → step m o n s d ≡ (if b then written m o s d.writes else s)
  step_by o n s d b e = ap (λ (c : Bool). if c then written m o s d.writes else s) e

  -- what is played below a position is what comes of the first entries
  pub played_split : (o : Oid) (n : ℕ) (s : m.state) (h : History m) (k : ℕ) → ((i : ℕ) → i < k → i < length h → get_or (map (stamp_of m) h) i 0 < n)
      → ((i : ℕ) → k ≤ i → i < length h → n ≤ get_or (map (stamp_of m) h) i 0) → played m o n s h ≡ after m o s (take k h)
  unfolding played after
  played_split o n s [] zero below above = refl
  played_split o n s [] (suc k) below above = refl
  played_split o n s (d ∷ ds) zero below above =
      ap (λ (x : m.state). played m o n x ds) (step_by o n s d false (not_less d.stamp n (above 0 (omega arith) (omega arith))))
      ∙ played_split o n s ds zero (λ i h l. absurd (omega (arith, h))) (λ i h l. above (suc i) (omega arith) (omega (arith, l)))
  played_split o n s (d ∷ ds) (suc k) below above =
      ap (λ (x : m.state). played m o n x ds) (step_by o n s d true (less d.stamp n (below 0 (omega arith) (omega arith))))
      ∙ played_split o n (written m o s d.writes) ds k (λ i h l. below (suc i) (omega (arith, h)) (omega (arith, l))) (λ i h l. above (suc i) (omega (arith, h)) (omega (arith, l)))

  -- The last change.

  abbrev stamps : History m → List ℕ
  stamps h = map (stamp_of m) h

  no_change : (o : Oid) (k : Part) (n : ℕ) (d : DoneOf m) (ds : History m) (b c : Bool) → c ≡ false
      → (if b && c then later_of m (d.stamp + 1) (changed m ds o k n) else changed m ds o k n) ≡ changed m ds o k n
  no_change o k n d ds true c e = ap (λ (x : Bool). if x then later_of m (d.stamp + 1) (changed m ds o k n) else changed m ds o k n) e
  no_change o k n d ds false c e = refl

  pub changed_none : (o : Oid) (k : Part) (n : ℕ) (h : History m) (most : ℕ) → ((i : ℕ) (d : DoneOf m) → i < most → d ≡ get_or h i d → i < length h → changes m d o k ≡ false)
      → ((i : ℕ) → most ≤ i → i < length h → n ≤ get_or (stamps h) i 0) → 0 ≡ changed m h o k n
  unfolding changed
  changed_none o k n [] most none above = refl
  changed_none o k n (d ∷ ds) zero none above =
      let rest = changed_none o k n ds zero (λ i e h g l. absurd (omega (arith, h))) (λ i h l. above (suc i) (omega arith) (omega (arith, l))) in
      rest ∙ sym (ap (λ (b : Bool). if b && changes m d o k then later_of m (d.stamp + 1) (changed m ds o k n) else changed m ds o k n) (not_less d.stamp n (above 0 (omega arith) (omega arith))))
  changed_none o k n (d ∷ ds) (suc most) none above =
      let rest = changed_none o k n ds most (λ i e h g l. none (suc i) e (omega (arith, h)) g (omega (arith, l))) (λ i h l. above (suc i) (omega (arith, h)) (omega (arith, l))) in
      rest ∙ sym (no_change o k n d ds (nat_lt d.stamp n) (changes m d o k) (none 0 d (omega arith) refl (omega arith)))

  -- the later of two changes, of which the first is below
  later_two : (a b : ℕ) (c : Bool) → a < b → (if c then later_of m (a + 1) (b + 1) else b + 1) ≡ b + 1
  later_two a b true h = grind (arith, nat_tests, h)
  later_two a b false h = refl

  later_none : (a : ℕ) → later_of m (a + 1) 0 ≡ a + 1
  later_none a = grind (arith, nat_tests)

  change_here : (o : Oid) (k : Part) (n v : ℕ) (d : DoneOf m) (b c : Bool) → b ≡ true → c ≡ true → 0 ≡ v → (if b && c then later_of m (d.stamp + 1) v else v) ≡ d.stamp + 1
  change_here o k n v d true true e f none = ap (later_of m (d.stamp + 1)) (sym none) ∙ later_none d.stamp
  change_here o k n v d true false e f none = absurd (grind (arith, f))
  change_here o k n v d false c e f none = absurd (grind (arith, e))

  -- the last change is that of place p, where no later entry of the first ones changes the part
  pub changed_last : (o : Oid) (k : Part) (n : ℕ) (h : History m) (most p : ℕ) (d : DoneOf m) → p < most → p < length h → d ≡ get_or h p d → changes m d o k ≡ true
      → ((i : ℕ) (e : DoneOf m) → p < i → i < most → e ≡ get_or h i e → i < length h → changes m e o k ≡ false)
      → ((i : ℕ) → i < most → i < length h → get_or (stamps h) i 0 < n) → ((i : ℕ) → most ≤ i → i < length h → n ≤ get_or (stamps h) i 0)
      → ((i : ℕ) → i < p → get_or (stamps h) i 0 < d.stamp) → d.stamp + 1 ≡ changed m h o k n
  unfolding changed
  changed_last o k n [] most p d h l e changing none below above rise = absurd (omega (arith, l))
  changed_last o k n (f ∷ ds) zero p d h l e changing none below above rise = absurd (omega (arith, h))
  changed_last o k n (f ∷ ds) (suc most) zero d h l e changing none below above rise =
      let rest = changed_none o k n ds most (λ i g j x y. none (suc i) g (omega arith) (omega (arith, j)) x (omega (arith, y))) (λ i j y. above (suc i) (omega (arith, j)) (omega (arith, y))) in
      subst (λ (g : DoneOf m). d.stamp + 1 ≡ (if nat_lt g.stamp n && changes m g o k then later_of m (g.stamp + 1) (changed m ds o k n) else changed m ds o k n)) e
      (sym (change_here o k n (changed m ds o k n) d (nat_lt d.stamp n) (changes m d o k) (less d.stamp n (subst (λ (g : DoneOf m). g.stamp < n) (sym e) (below 0 (omega arith) (omega arith)))) changing rest))
  changed_last o k n (f ∷ ds) (suc most) (suc p) d h l e changing none below above rise =
      let rest = changed_last o k n ds most p d (omega (arith, h)) (omega (arith, l)) e changing (λ i g j x y z. none (suc i) g (omega (arith, j)) (omega (arith, x)) y (omega (arith, z)))
      (λ i j y. below (suc i) (omega (arith, j)) (omega (arith, y))) (λ i j y. above (suc i) (omega (arith, j)) (omega (arith, y))) (λ i j. rise (suc i) (omega (arith, j))) in
      sym (later_two f.stamp d.stamp (nat_lt f.stamp n && changes m f o k) (rise 0 (omega arith)))
      ∙ ap (λ (v : ℕ). if nat_lt f.stamp n && changes m f o k then later_of m (f.stamp + 1) v else v) rest

  -- Up to a bound.

  stamp_at : (h : History m) (k : ℕ) (d : DoneOf m) → k < length h → d ≡ get_or h k d → get_or (map (stamp_of m) h) k 0 ≡ d.stamp
  stamp_at h k d l e = get_or-map (stamp_of m) h k d 0 l ∙ ap (stamp_of m) (sym e)

  earlier_stamp : (h : History m) (i p : ℕ) (d : DoneOf m) → IsRising (map (stamp_of m) h) → i < p → p < length h → d ≡ get_or h p d → get_or (map (stamp_of m) h) i 0 < d.stamp
  earlier_stamp h i p d rise j l e =
      let long = length_map (stamp_of m) h in
      let next : get_or (map (stamp_of m) h) i 0 < get_or (map (stamp_of m) h) (i + 1) 0 = rise i (omega (arith, j, l, long)) in
      let most : get_or (map (stamp_of m) h) (i + 1) 0 ≤ get_or (map (stamp_of m) h) p 0 = rising_below (map (stamp_of m) h) rise (i + 1) p (omega (arith, j)) (omega (arith, l, long)) in
      let here = stamp_at h p d l e in
      omega (arith, next, most, here)

  within_stamps : (h : History m) (i : ℕ) → i < length h → i < length (map (stamp_of m) h)
  within_stamps h i l = let long = length_map (stamp_of m) h in omega (arith, l, long)

  -- the last change of a part below a bound, where stamps rise
  pub last_change : (o : Oid) (k : Part) (n : ℕ) (h : History m) (most p : ℕ) (d : DoneOf m) → IsRising (map (stamp_of m) h) → Splits (map (stamp_of m) h) most n → p < most
      → d ≡ get_or h p d → changes m d o k ≡ true → ((i : ℕ) (e : DoneOf m) → p < i → i < most → e ≡ get_or h i e → i < length h → changes m e o k ≡ false)
      → d.stamp + 1 ≡ changed m h o k n
  last_change o k n h most p d rise cut l e changing none =
      let long = length_map (stamp_of m) h in
      let within : p < length h = omega (arith, l, long, cut.within) in
      changed_last o k n h most p d l within e changing none (λ i j g. cut.below i j) (λ i j g. cut.above i j (within_stamps h i g))
      (λ i j. earlier_stamp h i p d rise j within e)

  pub no_change_below : (o : Oid) (k : Part) (n : ℕ) (h : History m) (most : ℕ) → Splits (map (stamp_of m) h) most n
      → ((i : ℕ) (d : DoneOf m) → i < most → d ≡ get_or h i d → i < length h → changes m d o k ≡ false) → 0 ≡ changed m h o k n
  no_change_below o k n h most cut none = changed_none o k n h most none (λ i j g. cut.above i j (within_stamps h i g))

  pub below_next : (h : History m) (n k : ℕ) (d : DoneOf m) → k < length h → d ≡ get_or h k d → d.stamp < n → EndsBelow m h (k + 1) n
  below_next h n k d l e over i is =
      let same : i ≡ k = omega (arith, is) in
      subst (λ (v : ℕ). get_or (map (stamp_of m) h) v 0 < n) (sym same) (subst (λ (v : ℕ). v < n) (sym (stamp_at h k d l e)) over)

  pub up_to_here : (h : History m) (o : Oid) (n : ℕ) (s : m.state) (next : ℕ) (t : m.state) (k : ℕ) (d : DoneOf m) → k < length h → d ≡ get_or h k d → n ≤ d.stamp
      → ((x : m.state) → s ≡ after m o x (take next h) → t ≡ after m o x (take k h)) → EndsBelow m h k n → IsUpTo m h o n s next t k
  up_to_here h o n s next t k d l e over state below = record {
    within = omega (arith, l);
    state = state;
    between = record {
      below = below;
      above = λ i. subst (λ (v : ℕ). n ≤ v) (sym (stamp_at h k d l e)) over;
    };
  }

  past_end : (h : History m) (i : ℕ) → length h ≤ i → i < length (map (stamp_of m) h) → ⊥
  past_end h i l g = let n = length_map (stamp_of m) h in omega (arith, l, g, n)

  pub up_to_end : (h : History m) (o : Oid) (n : ℕ) (s : m.state) (next : ℕ) (t : m.state) (k : ℕ) → k ≤ length h → length h ≤ k
      → ((x : m.state) → s ≡ after m o x (take next h) → t ≡ after m o x (take k h)) → EndsBelow m h k n → IsUpTo m h o n s next t (length h)
  up_to_end h o n s next t k l g state below =
      let same : k ≡ length h = omega (arith, l, g) in
      record {
        within = omega arith;
        state = λ x e. subst (λ (i : ℕ). t ≡ after m o x (take i h)) same (state x e);
        between = record {
          below = λ i e. below i (e ∙ sym same);
          above = λ i. absurd (past_end h (length h) (omega arith) i);
        };
      }

  -- Sweeps.

  pub fresh_sweep : (objects : List Oid) (h : History m) (o : Oid) (s : m.state) → s ≡ m.fresh o objects → IsSweep m objects h o s 0
  unfolding after
  fresh_sweep objects h o s e = record { within = omega arith; state = e }

  pub swept : {E : Type 0} (objects : List Oid) (h : History m) (o p : Oid) (n : ℕ) (s : m.state) (k : ℕ) (r : Result (m.state × ℕ) E) → IsSweep m objects h o s k → o ≡ p
      → IfOk r (λ x. IsUpTo m h o n s k x.0 x.1) → IfOk r (λ x. IsSweepTo m objects h p n x.0 x.1)
  swept objects h o p n s k (Ok x) is same up =
      subst (λ (q : Oid). IsSweepTo m objects h q n x.0 x.1) same (record {
        sweep = record { within = up.within; state = up.state (m.fresh o objects) is.state };
        between = up.between;
      })
  swept objects h o p n s k (Err e) is same up = up

  -- the plain machine's state is that of a sweep
  pub sweep_state : (objects : List Oid) (h : History m) (o : Oid) (n : ℕ) (s : m.state) (k : ℕ) → IsRising (map (stamp_of m) h) → IsSweepTo m objects h o n s k → s ≡ state_at m objects h n o
  sweep_state objects h o n s k rise is =
      let long = length_map (stamp_of m) h in
      let cut = splits (map (stamp_of m) h) k n (subst (λ (i : ℕ). k ≤ i) (sym long) is.sweep.within) rise is.between in
      is.sweep.state
      ∙ sym (played_split o n (m.fresh o objects) h k (λ i j l. cut.below i j) (λ i j l. cut.above i j (subst (λ (v : ℕ). i < v) (sym long) l)))
      ∙ state_is m objects h n o

  same_item : {X : Type 0} (xs : List X) (n : ℕ) (x y : X) → n < length xs → x ≡ get_or xs n x → y ≡ get_or xs n y → x ≡ y
  same_item [] n x y l e f = absurd (omega (arith, l))
  same_item (z ∷ xs) zero x y l e f = e ∙ sym f
  same_item (z ∷ xs) (suc n) x y l e f = same_item xs n x y (omega (arith, l)) e f

  module _ (answers : m.answer → m.answer → Bool) (objects : List Oid) (h : History m) (trace : Trace m) where
    -- an answer that is that of a sweep's state is right
    pub right_here : (o : Oid) (n : ℕ) (s : m.state) (k place : ℕ) (t : MarkOf m) (q : m.ask) (sn : ℕ) (a : m.answer) → IsRising (map (stamp_of m) h) → IsSweepTo m objects h o n s k
        → place < length trace → t ≡ get_or trace place t → t.what ≡ told.Asked o q sn a → answers a (m.answers s q) ≡ true → IsRight m answers objects h trace place n
    right_here o n s k place t q sn a rise is l e asks right u in_u f =
        let state = sweep_state objects h o n s k rise is in
        ap (λ (v : MarkOf m). asked_all m (λ o q s a. holds m answers objects h n o q a) v.what) (same_item trace place u t in_u f e)
        ∙ ap (asked_all m (λ o q s a. holds m answers objects h n o q a)) asks
        ∙ ap (λ (x : m.state). answers a (m.answers x q)) (sym state)
        ∙ right

    right_by : (place n : ℕ) (b : Bool) (found : Option ℕ) (q v : ℕ) → (b ≡ true → place ≡ q) → ((v : ℕ) → found ≡ Some v → IsRight m answers objects h trace q v)
        → IsRight m answers objects h trace place n → (if b then Some n else found) ≡ Some v → IsRight m answers objects h trace q v
    right_by place n true found q v same old here e =
        subst (λ (i : ℕ). IsRight m answers objects h trace i v) (same refl) (subst (IsRight m answers objects h trace place) (some_number n v e) here)
    right_by place n false found q v same old here e = old v e

    -- one answer more is noted, if it is right
    pub right_next : (old new : BTreeMap ℕ ℕ) (place n : ℕ) (holds : Bool) → AreRight m answers objects h trace old
        → ((q : ℕ) → tree.get nat_cmp new q ≡ (if holds && (place == q) then Some n else tree.get nat_cmp old q))
        → (holds ≡ true → IsRight m answers objects h trace place n) → AreRight m answers objects h trace new
    right_next old new place n true are up here q v e =
        right_by place n (place == q) (tree.get nat_cmp old q) q v (λ f. same_number place q f) (λ w f. are q w f) (here refl) (sym (up q) ∙ e)
    right_next old new place n false are up here q v e = are q v (sym (up q) ∙ e)

    -- an answer with a noted position holds there
    pub known_right : (right : BTreeMap ℕ ℕ) (place n : ℕ) (o : Oid) (q : m.ask) (a : m.answer) → AreRight m answers objects h trace right → tree.get nat_cmp right place ≡ Some n
        → IsAskedAt m trace place o q a → true ≡ holds m answers objects h n o q a
    known_right right place n o q a are found is =
        sym (are place n found is.mark is.within is.here) ∙ ap (asked_all m (λ o q s a. holds m answers objects h n o q a)) is.asks
