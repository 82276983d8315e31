-- What the walks of a command have found grows, stream by stream.
use Rattle.std.proofs.Common.{◌≡◌, ◌⊎◌, ℕ, zero, suc, ◌<◌, ◌≤◌, List, [], ◌∷◌, Bool, true, false, refl, sym, ap, ◌∙◌, subst, inl, inr, arith, Option, Some, None}
use Rattle.std.specs.Prelude.{nat_lt, ◌&&◌, not, is_some, Contains}
use Rattle.tg_base.specs.declared.cell.Cell.{Cell}
use Rattle.tg_base.specs.declared.ids.Oid.{Oid}
use Rattle.tg_entry.specs.declared.entry.Entry.{Entry}
use Rattle.tg_kind.specs.Meaning.{Meaning}
use Rattle.tg_protocol.specs.Words.{cell_at}
use Rattle.tg_base.specs.Orders.{oid_eq}
use Rattle.tg_protocol.specs.Walking.{Members}
use Rattle.tg_protocol.specs.Logs.{Log, entry_at}
use Rattle.tg_protocol.specs.Views.{View, Base}
use Rattle.tg_protocol.specs.Checkpoints.{trim_of, load_from}
use Rattle.tg_protocol.specs.Clients.{positions_in, with_positions, entries_at}
use Rattle.tg_protocol.specs.Pages.{cell_entry}
use Rattle.tg_protocol.specs.ClientSteps.{plays_kept, trims_with}
use Rattle.tg_law_walks.specs.Walks.Streams.{rises, IsByPosition, entry_lists, stands_in, AreKnown}
use Rattle.tg_law_walks.specs.Walks.Walks.{AreMore, IsExact, past_trim}
use Rattle.tg_law_walks.specs.Walks.Rounds.{Round, IsSaving, AreRising, HasAll, HasSave, IsSafe, IsTrimmed, HasAbove, IsRound}
use Rattle.tg_law_walks.proofs.Walks.Members.{Has, has_contained, contained_has, contrary, lt_of, not_lt, same_oid, oid_itself}
use Rattle.tg_law_walks.proofs.Walks.Cells.{known_at}
use Rattle.tg_law_walks.proofs.Walks.Stretches.{has_stretch, stretch_has}
use Rattle.tg_law_walks.proofs.Walks.Rising.{stretch_from}
use Rattle.tg_law_walks.proofs.Walks.Positions.{nums_left, nums_right, nums_split, all_rise, more_in, other_in, more_rising}
use Rattle.tg_law_walks.proofs.Walks.Saves.{trim_split, trim_none, entries_have, known_entry, load_gives}

module _ (m : Meaning) where
  -- Positions of a stream that has more.

  pub found_new : (xs : List (Oid × List ℕ)) (o : Oid) (ps : List ℕ) (q : ℕ) → AreRising m xs → Contains ps q → Contains (positions_in m (with_positions m xs o ps) o) q
  found_new xs o ps q h i =
      subst (λ (ys : List ℕ). Contains ys q) (sym (more_in m xs o ps h)) (contained_has (Rattle.tg_protocol.specs.Words.with_nums ps (positions_in m xs o)) q (nums_left ps (positions_in m xs o) q (has_contained ps q i)))

  pub found_kept : (xs : List (Oid × List ℕ)) (o : Oid) (ps : List ℕ) (p : Oid) (q : ℕ) → AreRising m xs → Contains (positions_in m xs p) q → Contains (positions_in m (with_positions m xs o ps) p) q
  found_kept xs o ps p q h i = by (oid_eq o p) refl
    where
      here : Contains (positions_in m xs o) q → Contains (positions_in m (with_positions m xs o ps) o) q
      here j =
          subst (λ (ys : List ℕ). Contains ys q) (sym (more_in m xs o ps h))
          (contained_has (Rattle.tg_protocol.specs.Words.with_nums ps (positions_in m xs o)) q (nums_right ps (positions_in m xs o) q (has_contained (positions_in m xs o) q j)))

      by : (b : Bool) → oid_eq o p ≡ b → Contains (positions_in m (with_positions m xs o ps) p) q
      by true e = let is = same_oid o p e in subst (λ y. Contains (positions_in m (with_positions m xs o ps) y) q) is (here (subst (λ y. Contains (positions_in m xs y) q) (sym is) i))
      by false e = subst (λ (ys : List ℕ). Contains ys q) (sym (other_in m xs o ps p e)) i

  pub found_split : (xs : List (Oid × List ℕ)) (o : Oid) (ps : List ℕ) (p : Oid) (q : ℕ) → AreRising m xs → Contains (positions_in m (with_positions m xs o ps) p) q → Contains (positions_in m xs p) q ⊎ ((o ≡ p) × Contains ps q)
  found_split xs o ps p q h i = by (oid_eq o p) refl
    where
      pick : o ≡ p → Has ps q ⊎ Has (positions_in m xs o) q → Contains (positions_in m xs p) q ⊎ ((o ≡ p) × Contains ps q)
      pick is (inl j) = inr (is, contained_has ps q j)
      pick is (inr j) = inl (subst (λ y. Contains (positions_in m xs y) q) is (contained_has (positions_in m xs o) q j))

      by : (b : Bool) → oid_eq o p ≡ b → Contains (positions_in m xs p) q ⊎ ((o ≡ p) × Contains ps q)
      by true e =
          let is = same_oid o p e in
          pick is (nums_split ps (positions_in m xs o) q (has_contained (Rattle.tg_protocol.specs.Words.with_nums ps (positions_in m xs o)) q
          (subst (λ (ys : List ℕ). Contains ys q) (more_in m xs o ps h) (subst (λ y. Contains (positions_in m (with_positions m xs o ps) y) q) (sym is) i))))
      by false e = inl (subst (λ (ys : List ℕ). Contains ys q) (other_in m xs o ps p e) i)

  -- A round after the walk of one more stream.
  abbrev pub next_round : Round m → Oid → Members → Round m
  next_round r o x = record r { found = with_positions m r.found o x.list; trims = trims_with m r.trims o x.gone; cells = x.cells }

  abbrev pub no_view : Round m → Round m
  no_view r = record r { view = None }

  abbrev pub with_cells : Round m → List (ℕ × Cell) → Round m
  with_cells r cells = record r { cells = cells }

  module _ (l : Log) (byp : IsByPosition l) where
    some_of : (x : Option Cell) → is_some x ≡ true → (c : Cell) × (x ≡ Some c)
    some_of None h = absurd (cc)
    some_of (Some c) h = (c, refl)

    -- an entry that was known still is
    entry_stays : (cells more : List (ℕ × Cell)) (q : ℕ) (e : Entry) → AreKnown l cells → AreKnown l more → AreMore cells more → cell_entry (cell_at cells q) ≡ Some e → cell_entry (cell_at more q) ≡ Some e
    entry_stays cells more q e known still grows h =
        let k = known_entry m (cell_at cells q) e h in
        let n = some_of (cell_at more q) (grows q (ap is_some k.1)) in
        let same : Some n.0 ≡ Some k.0 = sym (known_at l more still q n.0 n.1) ∙ known_at l cells known q k.0 k.1 in
        ap cell_entry (n.1 ∙ same) ∙ k.2

    -- a known position's entry
    pub entry_read : (cells : List (ℕ × Cell)) (q : ℕ) (e : Entry) → AreKnown l cells → is_some (cell_at cells q) ≡ true → entry_at l q ≡ Some e → cell_entry (cell_at cells q) ≡ Some e
    entry_read cells q e known h is =
        let n = some_of (cell_at cells q) h in
        ap cell_entry n.1 ∙ sym (ap cell_entry (known_at l cells known q n.0 n.1)) ∙ is

    pub read_entry : (cells : List (ℕ × Cell)) (q : ℕ) (e : Entry) → AreKnown l cells → cell_entry (cell_at cells q) ≡ Some e → entry_at l q ≡ Some e
    read_entry cells q e known h = let k = known_entry m (cell_at cells q) e h in ap cell_entry (known_at l cells known q k.0 k.1) ∙ k.2

    -- More is known.

    module _ (r : Round m) (cells : List (ℕ × Cell)) (known : AreKnown l r.cells) (still : AreKnown l cells) (grows : AreMore r.cells cells) where
      all_with : (o : Oid) (from : ℕ) → HasAll m l r o from → HasAll m l (with_cells r cells) o from
      all_with o from h q le less s = let k = h q le less s in (k.0, grows q k.1)

      safe_with : (o : Oid) (b : ℕ) → IsSafe m l r o b → IsSafe m l (with_cells r cells) o b
      safe_with o b (inl h) = inl (record { at = h.at; entry = h.entry; found = h.found; here = entry_stays r.cells cells h.at h.entry known still grows h.here; below = h.below; saves = h.saves })
      safe_with o b (inr h) = inr h

      trimmed_with : (o : Oid) (b : ℕ) → IsTrimmed m l r o b → IsTrimmed m l (with_cells r cells) o b
      trimmed_with o b h = record { all = all_with o b h.all; safe = safe_with o b h.safe; kept = h.kept }

    walked_as : (r s : Round m) (rest : List Oid) (o : Oid) → (HasAll m l r o r.lo → HasAll m l s o r.lo) → Contains rest o ⊎ (trim_of r.trims o ≡ None → HasAll m l r o r.lo) → Contains rest o ⊎ (trim_of r.trims o ≡ None → HasAll m l s o r.lo)
    walked_as r s rest o f (inl i) = inl i
    walked_as r s rest o f (inr h) = inr (λ n. f (h n))

    pub more_cells : (r : Round m) (rest : List Oid) (cells : List (ℕ × Cell)) → IsRound m l r rest → AreKnown l cells → AreMore r.cells cells → IsRound m l (with_cells r cells) rest
    more_cells r rest cells h still grows = record {
      known = still;
      lists = h.lists;
      upto = h.upto;
      at = h.at;
      own = h.own;
      behind = h.behind;
      low = h.low;
      whole = h.whole;
      only = h.only;
      above = λ o p q i le less s. let k = h.above o p q i le less s in (k.0, grows q k.1);
      rising = h.rising;
      each = h.each;
      left = h.left;
      walked = λ o i. walked_as r (with_cells r cells) rest o (all_with r cells h.known still grows o r.lo) (h.walked o i);
      trimmed = λ o b e. trimmed_with r cells h.known still grows o b (h.trimmed o b e);
      hosts = h.hosts;
      bases = h.bases;
    }

    -- The view is given up.

    safe_alone : (r : Round m) (o : Oid) (b : ℕ) → IsSafe m l r o b → IsSafe m l (no_view r) o b
    safe_alone r o b (inl h) = inl (record { at = h.at; entry = h.entry; found = h.found; here = h.here; below = h.below; saves = h.saves })
    safe_alone r o b (inr h) = inr h

    none_view : (v : View m) → None ≡ Some v → ⊥
    none_view v e = cc

    pub gives_up_view : (r : Round m) (rest : List Oid) → r.lo ≡ 0 → IsRound m l r rest → IsRound m l (no_view r) rest
    gives_up_view r rest zero' h = record {
      known = h.known;
      lists = h.lists;
      upto = omega arith;
      at = h.at;
      own = λ i. omega arith;
      behind = h.behind;
      low = omega (arith, zero');
      whole = h.whole;
      only = h.only;
      above = h.above;
      rising = h.rising;
      each = h.each;
      left = h.left;
      walked = h.walked;
      trimmed = λ o b e. record { all = (h.trimmed o b e).all; safe = safe_alone r o b (h.trimmed o b e).safe; kept = λ v p i. absurd (none_view v i) };
      hosts = h.hosts;
      bases = λ v o b i. absurd (none_view v i);
    }

    -- the walks start over, from 0
    abbrev pub anew : Round m → Round m
    anew r = record r { view = None; lo = 0; found = []; trims = [] }

    pub starts_anew : (r : Round m) (rest : List Oid) → IsRound m l r rest → IsRound m l (anew r) r.oids
    starts_anew r rest h = record {
      known = h.known;
      lists = h.lists;
      upto = omega arith;
      at = h.at;
      own = λ i. omega arith;
      behind = h.behind;
      low = omega arith;
      whole = λ i. refl;
      only = λ o q i. absurd (has_contained [] q i);
      above = λ o p q i. absurd (has_contained [] p i);
      rising = tt;
      each = λ o. refl;
      left = λ o i. i;
      walked = λ o i. inl i;
      trimmed = λ o b e. absurd (none_trim b e);
      hosts = h.hosts;
      bases = λ v o b i. absurd (none_view v i);
    }
      where
        none_trim : (b : ℕ) → None ≡ Some b → ⊥
        none_trim b e = cc

    -- One more stream is walked.

    module _ (r : Round m) (o : Oid) (os : List Oid) (x : Members) (h : IsRound m l r (o ∷ os)) (grows : AreMore r.cells x.cells) (exact : IsExact l o r.lo r.tail x) where
      abbrev then : Round m
      then = next_round r o x

      all_on : (p : Oid) (from : ℕ) → HasAll m l r p from → HasAll m l then p from
      all_on p from k q le less s = let i = k q le less s in (found_kept r.found o x.list p q h.rising i.0, grows q i.1)

      save_on : (p : Oid) (b : ℕ) → HasSave m l r p b → HasSave m l then p b
      save_on p b k = record {
        at = k.at;
        entry = k.entry;
        found = found_kept r.found o x.list p k.at h.rising k.found;
        here = entry_stays r.cells x.cells k.at k.entry h.known exact.known grows k.here;
        below = k.below;
        saves = k.saves;
      }

      safe_on : (p : Oid) (b : ℕ) → IsSafe m l r p b → IsSafe m l then p b
      safe_on p b (inl k) = inl (save_on p b k)
      safe_on p b (inr k) = inr k

      -- the walk has all from its end on
      all_new : (from : ℕ) → exact.from ≤ from → HasAll m l then o from
      all_new from le q more less s =
          let i = contained_has x.list q (subst (λ (ys : List ℕ). Has ys q) (sym exact.is) (has_stretch l o exact.from r.tail q s (omega (arith, le, more)) less)) in
          (found_new r.found o x.list q h.rising i, exact.read q i)

      only_on : (p : Oid) (q : ℕ) → Contains (positions_in m then.found p) q → (q < r.tail) × (stands_in l p q ≡ true)
      only_on p q i = by (found_split r.found o x.list p q h.rising i)
        where
          by : Contains (positions_in m r.found p) q ⊎ ((o ≡ p) × Contains x.list q) → (q < r.tail) × (stands_in l p q ≡ true)
          by (inl j) = h.only p q j
          by (inr j) =
              let k = stretch_has l o exact.from r.tail q byp (subst (λ (ys : List ℕ). Has ys q) exact.is (has_contained x.list q j.1)) in (k.0, subst (λ y. stands_in l y q ≡ true) j.0 k.1)

      above_on : HasAbove m l then
      above_on p a q i le less s = by (found_split r.found o x.list p a h.rising i)
        where
          new : stands_in l o q ≡ true → Contains x.list a → Contains (positions_in m then.found o) q × (is_some (cell_at then.cells q) ≡ true)
          new s j = all_new a (stretch_from l o exact.from r.tail a (subst (λ (ys : List ℕ). Has ys a) exact.is (has_contained x.list a j))) q le less s

          by : Contains (positions_in m r.found p) a ⊎ ((o ≡ p) × Contains x.list a) → Contains (positions_in m then.found p) q × (is_some (cell_at then.cells q) ≡ true)
          by (inl j) = let k = h.above p a q j le less s in (found_kept r.found o x.list p q h.rising k.0, grows q k.1)
          by (inr j) = subst (λ y. Contains (positions_in m then.found y) q × (is_some (cell_at then.cells q) ≡ true)) j.0 (new (subst (λ y. stands_in l y q ≡ true) (sym j.0) s) j.1)

      each_on : (p : Oid) (b : Bool) → oid_eq o p ≡ b → rises 0 (positions_in m then.found p) ≡ true
      each_on p true e =
          subst (λ y. rises 0 (positions_in m then.found y) ≡ true) (same_oid o p e)
          (subst (λ (ys : List ℕ). rises 0 ys ≡ true) (sym (more_in m r.found o x.list h.rising)) (all_rise x.list (positions_in m r.found o) (h.each o)))
      each_on p false e = subst (λ (ys : List ℕ). rises 0 ys ≡ true) (sym (other_in m r.found o x.list p e)) (h.each p)

      walked_on : (g : Option ℕ) → x.gone ≡ g → (p : Oid) → Contains r.oids p → Contains os p ⊎ (trim_of (trims_with m r.trims o g) p ≡ None → HasAll m l then p r.lo)
      walked_on g e p i = by (h.walked p i)
        where
          whole : (f : Option ℕ) → x.gone ≡ f → trim_of (trims_with m r.trims o f) o ≡ None → exact.from ≤ r.lo
          whole None e' n = subst (λ (y : Option ℕ). exact.from ≤ past_trim r.lo y) e' exact.before
          whole (Some b) e' n = contrary (oid_eq o o) (trim_none r.trims o o b n).1 (oid_itself o)

          before : (f : Option ℕ) → trim_of (trims_with m r.trims o f) p ≡ None → trim_of r.trims p ≡ None
          before None n = n
          before (Some b) n = (trim_none r.trims o p b n).0

          first : (p ≡ o) ⊎ Has os p → Contains os p ⊎ (trim_of (trims_with m r.trims o g) p ≡ None → HasAll m l then p r.lo)
          first (inl is) = inr (λ n. subst (λ y. HasAll m l then y r.lo) (sym is) (all_new r.lo (whole g e (subst (λ y. trim_of (trims_with m r.trims o g) y ≡ None) is n))))
          first (inr j) = inl (contained_has os p j)

          by : Contains (o ∷ os) p ⊎ (trim_of r.trims p ≡ None → HasAll m l r p r.lo) → Contains os p ⊎ (trim_of (trims_with m r.trims o g) p ≡ None → HasAll m l then p r.lo)
          by (inl j) = first (has_contained (o ∷ os) p j)
          by (inr k) = inr (λ n. all_on p r.lo (k (before g n)))

      -- where it met a trim: the stream is safe there, and the view isn't below
      pub record Met (b : ℕ) : Type 0 where
        pub safe : IsSafe m l (next_round r o x) o b
        pub kept : (v : View m) → plays_kept m r.command ≡ true → r.view ≡ Some v → b ≤ v.upto

      trimmed_on : (g : Option ℕ) → x.gone ≡ g → ((b : ℕ) → g ≡ Some b → Met b) → (p : Oid) (b : ℕ) → trim_of (trims_with m r.trims o g) p ≡ Some b → IsTrimmed m l then p b
      trimmed_on g e met p b t = by g e met t
        where
          old : trim_of r.trims p ≡ Some b → IsTrimmed m l then p b
          old n = let k = h.trimmed p b n in record { all = all_on p b k.all; safe = safe_on p b k.safe; kept = k.kept }

          new : (c : ℕ) → x.gone ≡ Some c → Met c → IsTrimmed m l then o c
          new c e' k = record { all = all_new c (subst (λ (y : Option ℕ). exact.from ≤ past_trim r.lo y) e' exact.before); safe = k.safe; kept = k.kept }

          pick : (c : ℕ) → x.gone ≡ Some c → Met c → (trim_of r.trims p ≡ Some b) ⊎ ((o ≡ p) × (c ≡ b)) → IsTrimmed m l then p b
          pick c e' k (inl n) = old n
          pick c e' k (inr i) = subst (λ y. IsTrimmed m l then y b) i.0 (subst (λ n. IsTrimmed m l then o n) i.1 (new c e' k))

          by : (f : Option ℕ) → x.gone ≡ f → ((c : ℕ) → f ≡ Some c → Met c) → trim_of (trims_with m r.trims o f) p ≡ Some b → IsTrimmed m l then p b
          by None e' k n = old n
          by (Some c) e' k n = pick c e' (k c refl) (trim_split r.trims o p c b n)

      pub finds : ((b : ℕ) → x.gone ≡ Some b → Met b) → IsRound m l (next_round r o x) os
      finds met = record {
        known = exact.known;
        lists = h.lists;
        upto = h.upto;
        at = h.at;
        own = h.own;
        behind = h.behind;
        low = h.low;
        whole = h.whole;
        only = only_on;
        above = above_on;
        rising = more_rising m o x.list r.found h.rising;
        each = λ p. each_on p (oid_eq o p) refl;
        left = λ p i. h.left p (contained_has (o ∷ os) p (inr (has_contained os p i)));
        walked = walked_on x.gone refl;
        trimmed = trimmed_on x.gone refl met;
        hosts = h.hosts;
        bases = h.bases;
      }

      -- Why a stream is safe at a trim that isn't stale.

      search : (n : ℕ) → ((q : ℕ) × (q < n) × (stands_in l o q ≡ true)) ⊎ ((q : ℕ) → q < n → stands_in l o q ≡ true → ⊥)
      search zero = inr (λ q less s. omega (arith, less))
      search (suc n) = by (stands_in l o n) refl (search n)
        where
          less_on : (q : ℕ) → q < n → q < suc n
          less_on q less = omega (arith, less)

          by : (b : Bool) → stands_in l o n ≡ b → ((q : ℕ) × (q < n) × (stands_in l o q ≡ true)) ⊎ ((q : ℕ) → q < n → stands_in l o q ≡ true → ⊥) →
              ((q : ℕ) × (q < suc n) × (stands_in l o q ≡ true)) ⊎ ((q : ℕ) → q < suc n → stands_in l o q ≡ true → ⊥)
          by true e k = inl (n, omega arith, e)
          by false e (inl k) = inl (k.0, less_on k.0 k.1, k.2)
          by false e (inr k) = inr (λ q less s. last q less s (nat_lt q n) refl)
            where
              last : (q : ℕ) → q < suc n → stands_in l o q ≡ true → (c : Bool) → nat_lt q n ≡ c → ⊥
              last q less s true f = k q (lt_of q n f) s
              last q less s false f = let le = not_lt q n f in let is : q ≡ n = omega (arith, le, less) in contrary (stands_in l o q) (ap (stands_in l o) is ∙ e) s

      saves_more : (b g : ℕ) (e : Entry) → b ≤ g → IsSaving m o g e → IsSaving m o b e
      saves_more b g e le s = let k = s.reaches in record { base = s.base; is = s.is; reaches = omega (arith, le, k) }

      -- by a trim that was known before
      safe_before : (b : ℕ) → x.gone ≡ Some b → b ≤ r.before → IsSafe m l then o b
      safe_before b e le = by (search b)
        where
          by : ((q : ℕ) × (q < b) × (stands_in l o q ≡ true)) ⊎ ((q : ℕ) → q < b → stands_in l o q ≡ true → ⊥) → IsSafe m l then o b
          by (inr none) = inr none
          by (inl k) =
              let less = k.1 in
              let s = h.behind o k.0 (omega (arith, less, le)) k.2 in
              let after = s.after in
              let stands : stands_in l o s.at ≡ true = ap (entry_lists o) s.here ∙ s.stands in
              let from : exact.from ≤ b = subst (λ (y : Option ℕ). exact.from ≤ past_trim r.lo y) e exact.before in
              let a = all_new b from s.at (omega (arith, after, le)) s.below stands in
              inl (record { at = s.at; entry = s.entry; found = a.0; here = entry_read x.cells s.at s.entry exact.known a.1 s.here; below = s.below; saves = saves_more b r.before s.entry le s.saves })

      -- by an entry that saves it
      safe_loaded : (b : ℕ) (base : Base m) → load_from m (entries_at m x.cells x.list) o b ≡ Some base → IsSafe m l then o b
      safe_loaded b base e =
          let g = load_gives m (entries_at m x.cells x.list) o b base e in
          let i = entries_have m x.cells x.list g.0.at g.0.entry g.0.here in
          let k = stretch_has l o exact.from r.tail g.0.at byp (subst (λ (ys : List ℕ). Has ys g.0.at) exact.is i.0) in
          inl (record {
            at = g.0.at;
            entry = g.0.entry;
            found = found_new r.found o x.list g.0.at h.rising (contained_has x.list g.0.at i.0);
            here = i.1;
            below = k.0;
            saves = record { base = base; is = g.0.is; reaches = g.1 };
          })

      pub safe_unless : (b : ℕ) (cells : List (ℕ × Cell)) → cells ≡ x.cells → x.gone ≡ Some b → (not (is_some (load_from m (entries_at m cells x.list) o b)) && nat_lt r.before b) ≡ false → IsSafe m l (next_round r o x) o b
      safe_unless b cells same e t = by (load_from m (entries_at m x.cells x.list) o b) refl (sym (ap (λ ys. not (is_some (load_from m (entries_at m ys x.list) o b)) && nat_lt r.before b) same) ∙ t)
        where
          by : (d : Option (Base m)) → load_from m (entries_at m x.cells x.list) o b ≡ d → (not (is_some d) && nat_lt r.before b) ≡ false → IsSafe m l then o b
          by None is f = safe_before b e (not_lt r.before b f)
          by (Some base) is f = safe_loaded b base is
