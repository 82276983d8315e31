-- A walk comes to each position that was issued to its stream, over a log that is fixed.
use Rattle.std.proofs.Common.{◌≡◌, ◌⊎◌, ℕ, ◌+◌, ◌-◌, ◌<◌, ◌≤◌, List, [], ◌∷◌, length, Bool, true, false, refl, sym, ap, ◌∙◌, subst, inl, inr, arith, Option, Some, None}
use Rattle.std.specs.Prelude.{nat_lt, nat_le, ◌==◌, is_some, Contains}
use Rattle.std.proofs.lemmas.Bool.Decides.{nat_tests}
use Rattle.tg_base.specs.Layouts.{Layout}
use Rattle.tg_base.specs.declared.cell.Cell.{Cell}
use Rattle.tg_base.specs.declared.ids.Oid.{Oid}
use Rattle.tg_kind.specs.Meaning.{Meaning}
use Rattle.tg_protocol.specs.Words.{cell_at, with_cell, where_true}
use Rattle.tg_protocol.specs.Requests.{Next, Goes, Learns, Ends, ends}
use Rattle.tg_protocol.specs.Replies.{Reply}
use Rattle.tg_protocol.specs.Cells.{place_in, works, Gets, CellJob}
use Rattle.tg_protocol.specs.Walking.{Trail, go_down, next_on, next_of_trail, pointers_at, trail_after, Walk, Members, WalkTurn, visited, with_job, at_least, next_visit, walk_from, walk_start, read_at}
use Rattle.tg_protocol.specs.Logs.{Log}
use Rattle.tg_law_steps.proofs.Machines.Walks.{WalkCame, Waits as WalkWaits, NewerCame, ReadsOn, HasRead, MetTrim, walk_came}
use Rattle.tg_law_walks.specs.Walks.Streams.{AreKnown, AreFalling}
use Rattle.tg_law_walks.specs.Walks.Walks.{EndsAs, JobEndsAs}
use Rattle.tg_law_walks.proofs.Walks.Members.{Has, has_contained, contained_has, lt_of, not_lt}
use Rattle.tg_law_walks.proofs.Walks.Cells.{known_at, more_known, more_some, cell_here}
use Rattle.tg_law_walks.proofs.Walks.Down.{goes_down}
use Rattle.tg_law_walks.proofs.Walks.Turns.{Fine, cell_fine, same_pos}
use Rattle.tg_law_syncs.specs.Settling.Visits.{Issues, IsFullBelow, IsFull, AreFull, IsFullTrail, AreSeen, IsVisiting, Visits, IsIssuedTo, WalksVisit, WalksVisitOn, WalksVisitAgain}

has_below : (x : ℕ) (ps : List ℕ) (q : ℕ) → AreFalling x ps → Has ps q → q < x
has_below x [] q f i = absurd i
has_below x (p ∷ ps) q f (inl e) = let less = f.0 in omega (arith, less, e)
has_below x (p ∷ ps) q f (inr i) = let less = f.0 in let rest = has_below p ps q f.1 i in omega (arith, less, rest)

some_num : (a b : ℕ) → Some a ≡ Some b → a ≡ b
some_num a b e = cc

last_gone : (b : Bool) (last q : ℕ) → go_down b last ≡ Some q → (b ≡ true) × (q + 1 ≡ last)
last_gone true last q e = (refl, by (nat_lt 0 last) refl e)
  where
    by : (c : Bool) → nat_lt 0 last ≡ c → where_true c (last - 1) ≡ Some q → q + 1 ≡ last
    by true f g = let k = some_num (last - 1) q g in let n = lt_of 0 last f in omega (arith, k, n)
    by false f g = absurd (cc)
last_gone false last q e = absurd (cc)

at_lo : (lo q : ℕ) (x : Option ℕ) → at_least lo x ≡ Some q → (lo ≤ q) × (x ≡ Some q)
at_lo lo q None e = absurd (cc)
at_lo lo q (Some r) e = grind (arith, nat_tests)

below_lo : (lo : ℕ) (x : Option ℕ) → at_least lo x ≡ None → (x ≡ None) ⊎ ((q : ℕ) × (x ≡ Some q) × (q < lo))
below_lo lo None e = inl refl
below_lo lo (Some r) e = inr (r, refl, by (nat_le lo r) refl e)
  where
    by : (c : Bool) → nat_le lo r ≡ c → where_true c r ≡ None → r < lo
    by true f g = absurd (cc)
    by false f g = grind (arith, nat_tests)

-- Of one stream.

module _ (is : ℕ → Type 0) where
  -- nothing was issued between two positions
  abbrev NoneIn : ℕ → ℕ → Type 0
  NoneIn a b = (q : ℕ) → a ≤ q → q < b → is q → ⊥

  above_first : (x : ℕ) (b : Bool) (q : ℕ) (qs : List ℕ) → IsFullBelow is x b (q ∷ qs) → NoneIn (q + 1) x
  above_first x b q qs h r le less i = by (h.all r i less)
    where
      in_list : Has (q ∷ qs) r → ⊥
      in_list (inl e) = omega (arith, le, e)
      in_list (inr j) = let k = has_below q qs r h.falling.1 j in omega (arith, le, k)

      by : Contains (q ∷ qs) r ⊎ ((b ≡ true) × ((y : ℕ) → Contains (q ∷ qs) y → r ≤ y)) → ⊥
      by (inl c) = in_list (has_contained (q ∷ qs) r c)
      by (inr k) = let low = k.1 q (contained_has (q ∷ qs) q (inl refl)) in omega (arith, le, low)

  none_at_all : (x : ℕ) → IsFullBelow is x false [] → NoneIn 0 x
  none_at_all x h r le less i = by (h.all r i less)
    where
      by : Contains [] r ⊎ ((false ≡ true) × ((y : ℕ) → Contains [] y → r ≤ y)) → ⊥
      by (inl c) = has_contained [] r c
      by (inr k) = let f = k.0 in cc

  rest_below : (x : ℕ) (b : Bool) (q : ℕ) (qs : List ℕ) → IsFullBelow is x b (q ∷ qs) → IsFullBelow is q b qs
  rest_below x b q qs h = record { falling = h.falling.1; all = λ r i less. by r less (h.all r i (let first = h.falling.0 in omega (arith, less, first))) }
    where
      in_rest : (r : ℕ) → r < q → Has (q ∷ qs) r → Has qs r
      in_rest r less (inl e) = absurd (omega (arith, less, e))
      in_rest r less (inr j) = j

      by : (r : ℕ) → r < q → Contains (q ∷ qs) r ⊎ ((b ≡ true) × ((y : ℕ) → Contains (q ∷ qs) y → r ≤ y)) → Contains qs r ⊎ ((b ≡ true) × ((y : ℕ) → Contains qs y → r ≤ y))
      by r less (inl c) = inl (contained_has qs r (in_rest r less (has_contained (q ∷ qs) r c)))
      by r less (inr k) = inr (k.0, λ y g. k.1 y (contained_has (q ∷ qs) y (inr (has_contained qs y g))))

  down_below : (x : ℕ) → IsFullBelow is x true []
  down_below x = record { falling = tt; all = λ r i less. inr (refl, λ y g. absurd (has_contained [] y g)) }

  -- where a trail goes on, and that nothing is passed over
  record Down (x : ℕ) (t : Trail) (q : ℕ) : Type 0 where
    less : q < x
    none : NoneIn (q + 1) x
    off : IsFullTrail is q (trail_after t q None)

  down_at : (x : ℕ) (ps : List ℕ) (b : Bool) (last q : ℕ) → IsFullTrail is x (record { pointers = ps; were_four = b; last = last }) → next_on (record { pointers = ps; were_four = b; last = last }) ps ≡ Some q → Down x (record { pointers = ps; were_four = b; last = last }) q
  down_at x [] b last q h e =
      let g = last_gone b last q e in
      let at : last ≡ x = h.last refl g.0 in
      let next : q + 1 ≡ last = g.1 in
      record {
        less = omega (arith, at, next);
        none = λ r le less i. absurd (omega (arith, at, next, le, less));
        off = record { so = subst (λ (c : Bool). IsFullBelow is q c []) (sym g.0) (down_below q); last = λ i j. refl };
      }
  down_at x (p ∷ ps) b last q h e =
      let same : p ≡ q = some_num p q e in
      subst (λ n. Down x (record { pointers = p ∷ ps; were_four = b; last = last }) n) same
      (record { less = h.so.falling.0; none = above_first x b p ps h.so; off = record { so = rest_below x b p ps h.so; last = λ i j. refl } })

  down : (x : ℕ) (t : Trail) (q : ℕ) → IsFullTrail is x t → next_of_trail t ≡ Some q → Down x t q
  down x t q h e = down_at x t.pointers t.were_four t.last q h e

  -- where a trail ends, nothing is left below
  over_at : (x : ℕ) (ps : List ℕ) (b : Bool) (last : ℕ) → IsFullTrail is x (record { pointers = ps; were_four = b; last = last }) → next_on (record { pointers = ps; were_four = b; last = last }) ps ≡ None → NoneIn 0 x
  over_at x [] true last h e =
      let at : last ≡ x = h.last refl refl in λ r le less i. by (nat_lt 0 last) refl e r at less
    where
      by : (c : Bool) → nat_lt 0 last ≡ c → where_true c (last - 1) ≡ None → (r : ℕ) → last ≡ x → r < x → ⊥
      by true f g r at less = absurd (cc)
      by false f g r at less = let k = not_lt 0 last f in omega (arith, k, at, less)
  over_at x [] false last h e = none_at_all x h.so
  over_at x (p ∷ ps) b last h e = absurd (cc)

  over : (x : ℕ) (t : Trail) → IsFullTrail is x t → next_of_trail t ≡ None → NoneIn 0 x
  over x t h e = over_at x t.pointers t.were_four t.last h e

  -- nothing is left from the walk's end on
  none_left : (lo x : ℕ) (t : Trail) → IsFullTrail is x t → at_least lo (next_of_trail t) ≡ None → NoneIn lo x
  none_left lo x t h e = by (below_lo lo (next_of_trail t) e)
    where
      by : (next_of_trail t ≡ None) ⊎ ((q : ℕ) × (next_of_trail t ≡ Some q) × (q < lo)) → NoneIn lo x
      by (inl f) = λ r le less i. over x t h f r (omega arith) less i
      by (inr f) = λ r le less i. let k = f.2 in (down x t f.0 h f.1).none r (omega (arith, k, le)) less i

  -- further down, where nothing lies between
  seen_down : (from at tail : ℕ) (cells : List (ℕ × Cell)) → AreSeen is at tail cells → NoneIn from at → AreSeen is from tail cells
  seen_down from at tail cells h none r i le less = by (nat_lt r at) refl
    where
      by : (c : Bool) → nat_lt r at ≡ c → is_some (cell_at cells r) ≡ true
      by true f = absurd (none r le (lt_of r at f) i)
      by false f = h r i (not_lt r at f) less

  seen_here : (q tail : ℕ) (cells : List (ℕ × Cell)) → AreSeen is (q + 1) tail cells → is_some (cell_at cells q) ≡ true → AreSeen is q tail cells
  seen_here q tail cells h here r i le less = by (nat_lt q r) refl
    where
      by : (c : Bool) → nat_lt q r ≡ c → is_some (cell_at cells r) ≡ true
      by true f = h r i (let k = lt_of q r f in omega (arith, k)) less
      by false f = let k = not_lt q r f in let e : q ≡ r = omega (arith, k, le) in subst (λ (n : ℕ). is_some (cell_at cells n) ≡ true) e here

-- Walks.

module _ (l : Log) (is : Issues) (tail : ℕ) (full : AreFull l is tail) where
  -- without the job, which a walk that goes on replaces
  record IsOn (w : Walk) : Type 0 where
    known : AreKnown l w.cells
    at : ℕ
    within : at ≤ tail
    trail : IsFullTrail (is w.oid) at w.trail
    seen : AreSeen (is w.oid) at tail w.cells

  on_of : (w : Walk) → IsVisiting l is tail w → IsOn w
  on_of w h = record { known = h.known; at = h.at; within = h.within; trail = h.trail; seen = h.seen }

  with_job_on : (w : Walk) (j : CellJob) → IsOn w → next_visit w ≡ Some j.place.pos → IsVisiting l is tail (with_job w j)
  with_job_on w j h e = record { known = h.known; at = h.at; within = h.within; trail = h.trail; seen = h.seen; job = λ i s. e ∙ ap (λ (n : ℕ). Some n) (same_pos j i s) }

  trail_on : (o : Oid) (x q : ℕ) (t : Trail) (c : Cell) (ps : Option (List ℕ)) → pointers_at o q c ≡ ps → q < tail → cell_at l q ≡ Some c → Down (is o) x t q → IsFullTrail (is o) q (trail_after t q ps)
  trail_on o x q t c None e less known d = d.off
  trail_on o x q t c (Some ps) e less known d = record { so = full o q c ps less known e; last = λ i j. refl }

  visit_on : (w : Walk) (q : ℕ) (c : Cell) → IsOn w → next_visit w ≡ Some q → cell_at w.cells q ≡ Some c → IsOn (visited w q c)
  visit_on w q c h e k =
      let v = at_lo w.lo q (next_of_trail w.trail) e in
      let d = down (is w.oid) h.at w.trail q h.trail v.1 in
      let less = d.less in
      let le = h.within in
      record {
        known = h.known;
        at = q;
        within = omega (arith, less, le);
        trail = trail_on w.oid h.at q w.trail c (pointers_at w.oid q c) refl (omega (arith, less, le)) (known_at l w.cells h.known q c k) d;
        seen = seen_here (is w.oid) q tail w.cells (seen_down (is w.oid) (q + 1) h.at tail w.cells h.seen d.none) (ap is_some k);
      }

  -- its end

  end_none : (w : Walk) → IsOn w → next_visit w ≡ None → AreSeen (is w.oid) w.lo tail w.cells
  end_none w h e = seen_down (is w.oid) w.lo h.at tail w.cells h.seen (none_left (is w.oid) w.lo h.at w.trail h.trail e)

  end_gone : (w : Walk) (q b : ℕ) → IsOn w → next_visit w ≡ Some q → q < b → AreSeen (is w.oid) b tail w.cells
  end_gone w q b h e less =
      let v = at_lo w.lo q (next_of_trail w.trail) e in
      let d = down (is w.oid) h.at w.trail q h.trail v.1 in
      seen_down (is w.oid) b h.at tail w.cells h.seen (λ r le lt i. d.none r (omega (arith, le, less)) lt i)

  -- Over known cells.

  abbrev Then : Walk → Next Walk Members → Type 0
  Then w x = Visits l is w.oid w.lo tail w.cells x

  visits_on : (p : Layout) (next : ℕ) (w : Walk) → IsOn w → Then w (walk_from p next w).to
  unfolding visit_on
  visits_on p next w h = goes_down p next IsOn (λ v t. Then v t.to) (λ v q c e k i. visit_on v q c i e k)
      (λ v q c e k i r g. (down (is v.oid) q (visited v q c).trail r (visit_on v q c i e k).trail g).less) (λ v q c t g. g)
      (λ v e i. (λ r j. j, i.known, end_none v i e)) (λ v q e k i. (refl, refl, λ r j. j, with_job_on v (works (place_in p q) (Gets next)) i e)) w h

  started : (p : Layout) (o : Oid) (lasts : List ℕ) (lo : ℕ) (cells : List (ℕ × Cell)) (next : ℕ) → IsFull (is o) tail lasts → AreKnown l cells → Visits l is o lo tail cells (walk_start p o lasts lo cells next).to
  unfolding walk_start
  started p o lasts lo cells next so known =
      visits_on p next _
      (record {
        known = known;
        at = tail;
        within = omega arith;
        trail = record { so = so; last = λ i j. absurd (none_four lasts i j) };
        seen = λ q i le less. absurd (omega (arith, le, less));
      })
    where
      none_four : (ps : List ℕ) → ps ≡ [] → (length ps == 4) ≡ true → ⊥
      none_four ps i j = let k : (length {A = ℕ} [] == 4) ≡ true = ap (λ (xs : List ℕ). length xs == 4) (sym i) ∙ j in cc

  -- An answer.

  then_more : (w : Walk) (q : ℕ) (c : Cell) (x : Next Walk Members) → Then (read_at w q c) x → Then w x
  then_more w q c (Goes v) h = (h.0, h.1, λ r i. h.2 r (more_some w.cells q c r i), h.3)
  then_more w q c (Learns v) h = (h.0, h.1, λ r i. h.2 r (more_some w.cells q c r i), h.3)
  then_more w q c (Ends x) h = (λ r i. h.0 r (more_some w.cells q c r i), h.1, h.2)

  -- a cell is read, and the walk goes on
  read_on : (p : Layout) (w : Walk) (q : ℕ) (c : Cell) (next : ℕ) → IsOn w → next_visit w ≡ Some q → cell_at l q ≡ Some c → Then w (walk_from p next (read_at w q c)).to
  read_on p w q c next h e k =
      then_more w q c (walk_from p next (read_at w q c)).to
      (visits_on p next (read_at w q c)
      (visit_on (record w { cells = with_cell w.cells q c }) q c
      (record { known = more_known l w.cells q c h.known k; at = h.at; within = h.within; trail = h.trail; seen = λ r i le less. more_some w.cells q c r (h.seen r i le less) })
      e (cell_here w.cells q c)))

  came_on : (p : Layout) (w : Walk) (n : ℕ) (x : Reply) (next : ℕ) → IsVisiting l is tail w → (o : Option CellJob) (t : WalkTurn) → WalkCame p w n x next o t → w.job ≡ o → JobEndsAs l o n x next → Then w t.to
  came_on p w n x next h _ _ (ReadsOn j i e) has k = (refl, refl, λ r y. y, with_job_on w i (on_of w h) (h.job j has ∙ ap (λ (q : ℕ). Some q) (sym (subst (Fine j.place.pos) e (cell_fine j n x next)))))
  came_on p w n x next h _ _ (HasRead j c e) has k = read_on p w j.place.pos c _ (on_of w h) (h.job j has) (subst (EndsAs l j.place.pos) e k)
  came_on p w n x next h _ _ (MetTrim j b e) has k = (λ r y. y, h.known, end_gone w j.place.pos b (on_of w h) (h.job j has) (subst (Fine j.place.pos) e (cell_fine j n x next)))
  came_on p w n x next h _ _ (WalkWaits o next') has k = (refl, refl, λ r y. y, h)
  came_on p w n x next h _ _ (NewerCame o next') has k = (refl, refl, λ r y. y, h)

module _ (m : Meaning) where
  pub walks_visit : WalksVisit m
  walks_visit w epoch l p o lasts lo cells next tail full so known = started l (IsIssuedTo m w epoch) tail full p o lasts lo cells next so known

  pub walks_visit_on : WalksVisitOn m
  walks_visit_on w epoch l p k n x next tail full h e = came_on l (IsIssuedTo m w epoch) tail full p k n x next h k.job _ (walk_came p k n x next k.job) refl e

  pub walks_visit_again : WalksVisitAgain m
  walks_visit_again w epoch l p k next tail full h = visits_on l (IsIssuedTo m w epoch) tail full p next k (on_of l (IsIssuedTo m w epoch) tail full k h)
