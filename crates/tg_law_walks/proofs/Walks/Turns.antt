-- A walk's turns, over a log that is fixed.
use Rattle.std.proofs.Common.{◌≡◌, ◌⊎◌, ℕ, ◌+◌, ◌-◌, ◌<◌, ◌≤◌, List, [], ◌∷◌, length, Bool, true, false, refl, sym, ap, ◌∙◌, subst, inl, inr, arith, Option, Some, None}
use Rattle.std.specs.Prelude.{nat_lt, nat_le, ◌==◌, is_some, if◌then◌else◌}
use Rattle.std.proofs.lemmas.Bool.Decides.{nat_tests}
use Rattle.tg_base.specs.Layouts.{Layout}
use Rattle.tg_base.specs.declared.cell.Cell.{Cell}
use Rattle.tg_base.specs.declared.cell.Cell.TheVariants.{Junk, Data}
use Rattle.tg_base.specs.declared.ids.Oid.{Oid}
use Rattle.tg_entry.specs.declared.entry.Entry.{Entry}
use Rattle.tg_protocol.specs.Words.{cell_at, with_cell, where_true}
use Rattle.tg_protocol.specs.Entries.{lists}
use Rattle.tg_protocol.specs.Pages.{entry_of, entry_in, cell_entry}
use Rattle.tg_protocol.specs.Requests.{Next, Goes, Learns, Ends, ends}
use Rattle.tg_protocol.specs.Replies.{Reply}
use Rattle.tg_protocol.specs.Cells.{place_in, Gets, CellJob, CellTurn, CellEnd, Gone, works, cell_feed}
use Rattle.tg_protocol.specs.Walking.{Trail, go_down, next_on, next_of_trail, listed, pointers_at, trail_after, member_after, Walk, Members, WalkTurn, visited, walk_members, with_job, at_least, next_visit, walk_from, walk_start, read_at}
use Rattle.tg_protocol.specs.Logs.{Log, entry_at, members}
use Rattle.tg_law_steps.proofs.Machines.Cells as cells
use Rattle.tg_law_steps.proofs.Machines.Walks.{WalkCame, Waits as WalkWaits, NewerCame, ReadsOn, HasRead, MetTrim, walk_came}
use Rattle.tg_law_walks.specs.Walks.Streams.{IsByPosition, entry_lists, stands_in, AreKnown, AreFalling, told_to, IsListBelow, IsGood, AreLinked}
use Rattle.tg_law_walks.specs.Walks.Walks.{AreRead, IsTrailBelow, IsWalking, IsExact, Walks, Begins, EndsAs, JobEndsAs, WalksStart, WalksFeed, WalksAgain}
use Rattle.tg_law_walks.proofs.Walks.Members.{Has, has_contained, contained_has, either, contrary, lt_of, not_lt}
use Rattle.tg_law_walks.proofs.Walks.Cells.{known_at, more_known, more_some, more_read, cell_here}
use Rattle.tg_law_walks.proofs.Walks.Down.{goes_down}
use Rattle.tg_law_walks.proofs.Walks.Stretches.{same_stretch, next_stretch, empty_stretch}

-- What the cell at a position says of a stream.

none_some : {X : Type 0} (x : X) → None ≡ Some x → ⊥
none_some x e = cc

some_list : (a b : List ℕ) → Some a ≡ Some b → a ≡ b
some_list a b e = cc

if_listed : (b : Bool) (ps : List ℕ) → (b ≡ true × (where_true b ps ≡ Some ps)) ⊎ (b ≡ false × (where_true b ps ≡ None))
if_listed true ps = inl (refl, refl)
if_listed false ps = inr (refl, refl)

-- an entry of the stream, with its own list, or none
abbrev Says : Oid → Option Entry → Option (List ℕ) → Type 0
Says o e None = entry_lists o e ≡ false
Says o e (Some ps) = entry_lists o e ≡ true

says_if : (o : Oid) (e : Entry) (b : Bool) (ps : List ℕ) → lists e o ≡ b → Says o (Some e) (where_true b ps)
says_if o e true ps h = h
says_if o e false ps h = h

says_listed : (o : Oid) (q : ℕ) (e : Option Entry) → Says o e (listed o q e)
says_listed o q None = refl
says_listed o q (Some e) = says_if o e (lists e o) _ refl

says : (o : Oid) (q : ℕ) (c : Cell) → Says o (entry_in c) (pointers_at o q c)
says o q Junk = refl
says o q (Data d) = says_listed o q (entry_of d)

says_at : (l : Log) (o : Oid) (q : ℕ) (c : Cell) → cell_at l q ≡ Some c → Says o (entry_at l q) (pointers_at o q c)
says_at l o q c h = subst (λ e. Says o (cell_entry e) (pointers_at o q c)) (sym h) (says o q c)

-- Lists below a position.

has_below : (x : ℕ) (ps : List ℕ) (q : ℕ) → AreFalling x ps → Has ps q → q < x
has_below x [] q f i = absurd i
has_below x (p ∷ ps) q f (inl e) = let less = f.0 in omega (arith, less, e)
has_below x (p ∷ ps) q f (inr i) = let less = f.0 in let rest = has_below p ps q f.1 i in omega (arith, less, rest)

told_below : (l : Log) (o : Oid) (b : Bool) (x : ℕ) (ps : List ℕ) → AreFalling x ps → told_to l o b x ps ≤ x
told_below l o true x [] f = omega arith
told_below l o false x [] f = omega arith
told_below l o b x (q ∷ qs) f = by (stands_in l o q) (told_below l o b q qs f.1)
  where
    by : (c : Bool) → told_to l o b q qs ≤ q → (if c then q else told_to l o b q qs) ≤ x
    by true le = let less = f.0 in omega (arith, less)
    by false le = let less = f.0 in omega (arith, less, le)

told_first : (l : Log) (o : Oid) (b : Bool) (x q : ℕ) (qs : List ℕ) → AreFalling x (q ∷ qs) → told_to l o b x (q ∷ qs) ≤ q
told_first l o b x q qs f = by (stands_in l o q) (told_below l o b q qs f.1)
  where
    by : (c : Bool) → told_to l o b q qs ≤ q → (if c then q else told_to l o b q qs) ≤ q
    by true le = omega arith
    by false le = le

-- nothing of the stream stands between two positions
abbrev None' : Log → Oid → ℕ → ℕ → Type 0
None' l o a b = (q : ℕ) → a ≤ q → q < b → stands_in l o q ≡ true → ⊥

-- above the first of a list there is none
above_first : (l : Log) (o : Oid) (x : ℕ) (b : Bool) (q : ℕ) (qs : List ℕ) → IsListBelow l o x b (q ∷ qs) → None' l o (q + 1) x
above_first l o x b q qs h r le less s =
    let first = told_first l o b x q qs h.falling in
    by (has_contained (q ∷ qs) r (h.all r (omega (arith, first, le)) less s))
  where
    by : Has (q ∷ qs) r → ⊥
    by (inl e) = omega (arith, le, e)
    by (inr i) = let k = has_below q qs r h.falling.1 i in omega (arith, le, k)

-- an empty list of fewer than four: there is none at all
none_at_all : (l : Log) (o : Oid) (x : ℕ) → IsListBelow l o x false [] → None' l o 0 x
none_at_all l o x h r le less s = has_contained [] r (h.all r (omega arith) less s)

-- past a first one that doesn't stand in the stream
rest_below : (l : Log) (o : Oid) (x : ℕ) (b : Bool) (q : ℕ) (qs : List ℕ) → stands_in l o q ≡ false → IsListBelow l o x b (q ∷ qs) → IsListBelow l o q b qs
rest_below l o x b q qs away h = record { falling = h.falling.1; all = λ r le less s. contained_has qs r (by r less (has_contained (q ∷ qs) r (h.all r (told r le) (below r less) s))) }
  where
    told : (r : ℕ) → told_to l o b q qs ≤ r → told_to l o b x (q ∷ qs) ≤ r
    told r le = subst (λ (c : Bool). (if c then q else told_to l o b q qs) ≤ r) (sym away) le

    below : (r : ℕ) → r < q → r < x
    below r less = let first = h.falling.0 in omega (arith, less, first)

    by : (r : ℕ) → r < q → Has (q ∷ qs) r → Has qs r
    by r less (inl e) = absurd (omega (arith, less, e))
    by r less (inr i) = i

-- a walk down from below a position: nothing is told
down_below : (l : Log) (o : Oid) (x : ℕ) → IsListBelow l o x true []
down_below l o x = record { falling = tt; all = λ r le less s. absurd (omega (arith, le, less)) }

-- A visit.

-- where a trail goes on, and that none is passed over
record Down (l : Log) (o : Oid) (x : ℕ) (t : Trail) (q : ℕ) : Type 0 where
  less : q < x
  none : None' l o (q + 1) x
  off : stands_in l o q ≡ false → IsTrailBelow l o q (trail_after t q None)

some_num : (a b : ℕ) → Some a ≡ Some b → a ≡ b
some_num a b e = cc

last_gone : (b : Bool) (last q : ℕ) → go_down b last ≡ Some q → (b ≡ true) × (q + 1 ≡ last)
last_gone true last q e = (refl, by (nat_lt 0 last) refl e)
  where
    by : (c : Bool) → nat_lt 0 last ≡ c → where_true c (last - 1) ≡ Some q → q + 1 ≡ last
    by true f g = let k = some_num (last - 1) q g in let n = lt_of 0 last f in omega (arith, k, n)
    by false f g = absurd (cc)
last_gone false last q e = absurd (cc)

down_at : (l : Log) (o : Oid) (x : ℕ) (ps : List ℕ) (b : Bool) (last q : ℕ) → IsTrailBelow l o x (record { pointers = ps; were_four = b; last = last }) → next_on (record { pointers = ps; were_four = b; last = last }) ps ≡ Some q →
    Down l o x (record { pointers = ps; were_four = b; last = last }) q
down_at l o x [] b last q h e =
    let g = last_gone b last q e in
    let at : last ≡ x = h.last refl g.0 in
    let next : q + 1 ≡ last = g.1 in
    record {
      less = omega (arith, at, next);
      none = λ r le less s. absurd (omega (arith, at, next, le, less));
      off = λ away. record { so = subst (λ (c : Bool). IsListBelow l o q c []) (sym g.0) (down_below l o q); last = λ i j. refl };
    }
down_at l o x (p ∷ ps) b last q h e =
    let is : p ≡ q = some_num p q e in
    subst (λ n. Down l o x (record { pointers = p ∷ ps; were_four = b; last = last }) n) is
    (record { less = h.so.falling.0; none = above_first l o x b p ps h.so; off = λ away. record { so = rest_below l o x b p ps away h.so; last = λ i j. refl } })

down : (l : Log) (o : Oid) (x : ℕ) (t : Trail) (q : ℕ) → IsTrailBelow l o x t → next_of_trail t ≡ Some q → Down l o x t q
down l o x t q h e = down_at l o x t.pointers t.were_four t.last q h e

-- where a trail ends, nothing is left below
over_at : (l : Log) (o : Oid) (x : ℕ) (ps : List ℕ) (b : Bool) (last : ℕ) → IsTrailBelow l o x (record { pointers = ps; were_four = b; last = last }) → next_on (record { pointers = ps; were_four = b; last = last }) ps ≡ None → None' l o 0 x
over_at l o x [] true last h e =
    let at : last ≡ x = h.last refl refl in λ r le less s. by (nat_lt 0 last) refl e r at less
  where
    by : (c : Bool) → nat_lt 0 last ≡ c → where_true c (last - 1) ≡ None → (r : ℕ) → last ≡ x → r < x → ⊥
    by true f g r at less = absurd (cc)
    by false f g r at less = let k = not_lt 0 last f in omega (arith, k, at, less)
over_at l o x [] false last h e = none_at_all l o x h.so
over_at l o x (p ∷ ps) b last h e = absurd (cc)

over : (l : Log) (o : Oid) (x : ℕ) (t : Trail) → IsTrailBelow l o x t → next_of_trail t ≡ None → None' l o 0 x
over l o x t h e = over_at l o x t.pointers t.were_four t.last h e

at_lo : (lo q : ℕ) (x : Option ℕ) → at_least lo x ≡ Some q → (lo ≤ q) × (x ≡ Some q)
at_lo lo q None e = absurd (cc)
at_lo lo q (Some r) e = grind (arith, nat_tests)

below_lo : (lo : ℕ) (x : Option ℕ) → at_least lo x ≡ None → (x ≡ None) ⊎ ((q : ℕ) × (x ≡ Some q) × (q < lo))
below_lo lo None e = inl refl
below_lo lo (Some r) e = inr (r, refl, by (nat_le lo r) refl e)
  where
    by : (c : Bool) → nat_le lo r ≡ c → where_true c r ≡ None → r < lo
    by true f g = absurd (cc)
    by false f g = grind (arith, nat_tests)

-- nothing is left from the walk's end on
all_found : (l : Log) (o : Oid) (lo x : ℕ) (t : Trail) → IsTrailBelow l o x t → at_least lo (next_of_trail t) ≡ None → None' l o lo x
all_found l o lo x t h e = by (below_lo lo (next_of_trail t) e)
  where
    by : (next_of_trail t ≡ None) ⊎ ((q : ℕ) × (next_of_trail t ≡ Some q) × (q < lo)) → None' l o lo x
    by (inl f) = λ r le less s. over l o x t h f r (omega arith) less s
    by (inr f) = λ r le less s. let k = f.2 in (down l o x t f.0 h f.1).none r (omega (arith, k, le)) less s

-- The stretch that is found grows down.

same_from : (l : Log) (o : Oid) (a b hi : ℕ) → IsByPosition l → a ≤ b → ((q : ℕ) → a ≤ q → q < b → q < hi → stands_in l o q ≡ true → ⊥) → members l o b hi ≡ members l o a hi
same_from l o a b hi by le none = same_stretch l o b a hi by (λ q s less. test q less s (either (nat_le b q)))
  where
    test : (q : ℕ) → q < hi → stands_in l o q ≡ true → (nat_le b q ≡ true) ⊎ (nat_le b q ≡ false) → nat_le b q ≡ nat_le a q
    test q less s (inl t) = grind (arith, nat_tests)
    test q less s (inr t) = by' (nat_le a q) refl
      where
        by' : (c : Bool) → nat_le a q ≡ c → nat_le b q ≡ nat_le a q
        by' false f = t ∙ sym f
        by' true f = absurd (none q (grind (arith, nat_tests)) (grind (arith, nat_tests)) less s)

pub same_pos : (a b : CellJob) → Some a ≡ Some b → a.place.pos ≡ b.place.pos
same_pos a b s = let e : a ≡ b = cc in ap (λ (j : CellJob). j.place.pos) e

-- a job stays at its position, and meets a trim past it
abbrev pub Fine : ℕ → Next CellJob CellEnd → Type 0
Fine pos (Goes k) = k.place.pos ≡ pos
Fine pos (Learns k) = k.place.pos ≡ pos
Fine pos (Ends (Gone b)) = pos < b
Fine pos (Ends e) = Unit {0}

turn_fine : (u : ℕ) (x : Reply) (next : ℕ) (j : CellJob) (t : CellTurn) → cells.Fed u x next j t → Fine j.place.pos t.to
turn_fine u x next _ _ (cells.IsTrim a w b one is past) = lt_of a.pos b past
turn_fine u x next _ _ (cells.PutsOn a r d i is more) = refl
turn_fine u x next _ _ (cells.ReadsNone a r is) = refl
turn_fine u x next _ _ (cells.CopiesOn a w c i of more) = refl
turn_fine u x next _ _ (cells.ProbesOn a ws v vs of left) = refl
turn_fine u x next _ _ (cells.Nothing j) = refl
turn_fine u x next _ _ came = tt

pub cell_fine : (j : CellJob) (u : ℕ) (r : Reply) (next : ℕ) → Fine j.place.pos (cell_feed j u r next).to
cell_fine j u r next = turn_fine u r next j _ (cells.cell_fed u r next j)

-- A visit to the next position, whose cell is known.
module _ (l : Log) (by : IsByPosition l) (linked : AreLinked l) where
  abbrev Same : Walk → Walk → Type 0
  Same v w = (v.oid ≡ w.oid) × (v.lo ≡ w.lo)

  -- what is found then
  found_on : (o : Oid) (at tail q : ℕ) (ms : List ℕ) (ps : Option (List ℕ)) → at ≤ tail → q < at → None' l o (q + 1) at → Says o (entry_at l q) ps → ms ≡ members l o at tail → member_after ms q ps ≡ members l o q tail
  found_on o at tail q ms None le less none s is = is ∙ same_from l o q at tail by (omega (arith, less)) (λ r a b c t. between r a b t)
    where
      between : (r : ℕ) → q ≤ r → r < at → stands_in l o r ≡ true → ⊥
      between r a b t = apart (nat_lt q r) refl
        where
          apart : (c : Bool) → nat_lt q r ≡ c → ⊥
          apart true f = none r (let k = lt_of q r f in omega (arith, k)) b t
          apart false f = let k = not_lt q r f in let e : r ≡ q = omega (arith, k, a) in contrary (stands_in l o r) (ap (stands_in l o) e ∙ s) t
  found_on o at tail q ms (Some ps) le less none s is =
      ap (λ (xs : List ℕ). q ∷ xs) (is ∙ same_from l o (q + 1) at tail by (omega (arith, less)) (λ r a b c t. none r a b t))
      ∙ next_stretch l o q tail by s (omega (arith, less, le))

  -- where the trail goes on then
  trail_on : (o : Oid) (x q : ℕ) (t : Trail) (c : Cell) (ps : Option (List ℕ)) → pointers_at o q c ≡ ps → cell_at l q ≡ Some c → Says o (entry_at l q) ps → Down l o x t q → IsTrailBelow l o q (trail_after t q ps)
  trail_on o x q t c None e known s d = d.off s
  trail_on o x q t c (Some ps) e known s d = record { so = linked o q c ps known e; last = λ i j. refl }

  read_more : (cells : List (ℕ × Cell)) (ms : List ℕ) (q : ℕ) (ps : Option (List ℕ)) → is_some (cell_at cells q) ≡ true → AreRead cells ms → AreRead cells (member_after ms q ps)
  read_more cells ms q None h r = r
  read_more cells ms q (Some ps) h r = λ p i. of p (has_contained (q ∷ ms) p i)
    where
      of : (p : ℕ) → Has (q ∷ ms) p → is_some (cell_at cells p) ≡ true
      of p (inl e) = ap (λ n. is_some (cell_at cells n)) e ∙ h
      of p (inr i) = r p (contained_has ms p i)

  -- without the job, which a walk that goes on replaces
  pub record IsOn (tail : ℕ) (w : Walk) : Type 0 where
    pub known : AreKnown l w.cells
    pub at : ℕ
    pub within : at ≤ tail
    pub low : (w.lo ≤ at) ⊎ (at ≡ tail)
    pub trail : IsTrailBelow l w.oid at w.trail
    pub found : w.members ≡ members l w.oid at tail
    pub read : AreRead w.cells w.members

  on_of : (tail : ℕ) (w : Walk) → IsWalking l tail w → IsOn tail w
  on_of tail w h = record { known = h.known; at = h.at; within = h.within; low = h.low; trail = h.trail; found = h.found; read = h.read }

  with_job_on : (tail : ℕ) (w : Walk) (j : CellJob) → IsOn tail w → next_visit w ≡ Some j.place.pos → IsWalking l tail (with_job w j)
  with_job_on tail w j h e = record {
    known = h.known;
    at = h.at;
    within = h.within;
    low = h.low;
    trail = h.trail;
    found = h.found;
    read = h.read;
    job = λ i s. e ∙ ap (λ (n : ℕ). Some n) (same_pos j i s);
  }

  visit_on : (tail : ℕ) (w : Walk) (q : ℕ) (c : Cell) → IsOn tail w → next_visit w ≡ Some q → cell_at w.cells q ≡ Some c → IsOn tail (visited w q c)
  visit_on tail w q c h e k =
      let v = at_lo w.lo q (next_of_trail w.trail) e in
      let d = down l w.oid h.at w.trail q h.trail v.1 in
      let here = known_at l w.cells h.known q c k in
      let s = says_at l w.oid q c here in
      let less = d.less in
      let le = h.within in
      record {
        known = h.known;
        at = q;
        within = omega (arith, less, le);
        low = inl v.0;
        trail = trail_on w.oid h.at q w.trail c (pointers_at w.oid q c) refl here s d;
        found = found_on w.oid h.at tail q w.members (pointers_at w.oid q c) h.within d.less d.none s h.found;
        read = read_more w.cells w.members q (pointers_at w.oid q c) (ap is_some k) h.read;
      }

  -- its end

  end_none : (tail : ℕ) (w : Walk) → IsOn tail w → next_visit w ≡ None → IsExact l w.oid w.lo tail (walk_members w None)
  end_none tail w h e = record { known = h.known; from = w.lo; after = omega arith; before = omega arith; is = h.found ∙ from h.low; read = h.read }
    where
      none : None' l w.oid w.lo h.at
      none = all_found l w.oid w.lo h.at w.trail h.trail e

      from : (w.lo ≤ h.at) ⊎ (h.at ≡ tail) → members l w.oid h.at tail ≡ members l w.oid w.lo tail
      from (inl le) = same_from l w.oid w.lo h.at tail by le (λ q a b c s. none q a b s)
      from (inr is) = same_stretch l w.oid h.at w.lo tail by (λ q s less. test q s less (nat_le w.lo q) refl)
        where
          test : (q : ℕ) → stands_in l w.oid q ≡ true → q < tail → (b : Bool) → nat_le w.lo q ≡ b → nat_le h.at q ≡ nat_le w.lo q
          test q s less true f = absurd (none q (grind (arith, nat_tests)) (omega (arith, less, is)) s)
          test q s less false f = let k : nat_le h.at q ≡ false = grind (arith, nat_tests) in k ∙ sym f

  end_gone : (tail : ℕ) (w : Walk) (q b : ℕ) → IsOn tail w → next_visit w ≡ Some q → q < b → IsExact l w.oid w.lo tail (walk_members w (Some b))
  end_gone tail w q b h e less =
      let v = at_lo w.lo q (next_of_trail w.trail) e in
      let d = down l w.oid h.at w.trail q h.trail v.1 in
      let le = v.0 in
      let k = d.less in
      record {
        known = h.known;
        from = q + 1;
        after = omega (arith, le);
        before = omega (arith, le, less);
        is = h.found ∙ same_from l w.oid (q + 1) h.at tail by (omega (arith, k)) (λ r a c f s. d.none r a c s);
        read = h.read;
      }

  -- Over known cells.

  abbrev pub Then : ℕ → Walk → Next Walk Members → Type 0
  Then tail w x = Walks l w.oid w.lo tail w.cells x

  abbrev pub First : ℕ → Walk → Next Walk Members → Type 0
  First tail w x = Begins l w.oid w.lo tail w.cells x

  then_first : (tail : ℕ) (w : Walk) (x : Next Walk Members) → First tail w x → Then tail w x
  then_first tail w (Goes v) h = h
  then_first tail w (Learns v) h = absurd h
  then_first tail w (Ends x) h = (h.0, h.1)

  pub walks_on : (p : Layout) (tail next : ℕ) (w : Walk) → IsOn tail w → First tail w (walk_from p next w).to
  unfolding visit_on
  walks_on p tail next w h = goes_down p next (IsOn tail) (λ v t. First tail v t.to) (λ v q c e k i. visit_on tail v q c i e k)
      (λ v q c e k i r g. (down l v.oid q (visited v q c).trail r (visit_on tail v q c i e k).trail g).less) (λ v q c t g. g)
      (λ v e i. (λ r j. j, end_none tail v i e, refl)) (λ v q e k i. (refl, refl, λ r j. j, with_job_on tail v (works (place_in p q) (Gets next)) i e)) w h

  pub started : (p : Layout) (o : Oid) (lasts : List ℕ) (lo : ℕ) (cells : List (ℕ × Cell)) (next tail : ℕ) → IsGood l o tail lasts → AreKnown l cells → Begins l o lo tail cells (walk_start p o lasts lo cells next).to
  unfolding walk_start
  started p o lasts lo cells next tail good known =
      walks_on p tail next _
      (record {
        known = known;
        at = tail;
        within = omega arith;
        low = inr refl;
        trail = record { so = good; last = λ i j. absurd (none_four lasts i j) };
        found = sym (nothing tail);
        read = λ q i. absurd (has_contained [] q i);
      })
    where
      none_four : (ps : List ℕ) → ps ≡ [] → (length ps == 4) ≡ true → ⊥
      none_four ps i j = let k : (length {A = ℕ} [] == 4) ≡ true = ap (λ (xs : List ℕ). length xs == 4) (sym i) ∙ j in cc

      nothing : (n : ℕ) → members l o n n ≡ []
      nothing n = empty_stretch l o n

  -- An answer.

  then_more : (tail : ℕ) (w : Walk) (q : ℕ) (c : Cell) (x : Next Walk Members) → Then tail (read_at w q c) x → Then tail w x
  then_more tail w q c (Goes v) h = (h.0, h.1, λ r i. h.2 r (more_some w.cells q c r i), h.3)
  then_more tail w q c (Learns v) h = (h.0, h.1, λ r i. h.2 r (more_some w.cells q c r i), h.3)
  then_more tail w q c (Ends x) h = (λ r i. h.0 r (more_some w.cells q c r i), h.1)

  -- a cell is read, and the walk goes on
  read_on : (p : Layout) (tail : ℕ) (w : Walk) (q : ℕ) (c : Cell) (next : ℕ) → IsOn tail w → next_visit w ≡ Some q → cell_at l q ≡ Some c → Then tail w (walk_from p next (read_at w q c)).to
  read_on p tail w q c next h e k =
      then_more tail w q c (walk_from p next (read_at w q c)).to
      (then_first tail (read_at w q c) _ (walks_on p tail next (read_at w q c)
      (visit_on tail (record w { cells = with_cell w.cells q c }) q c
      (record { known = more_known l w.cells q c h.known k; at = h.at; within = h.within; low = h.low; trail = h.trail; found = h.found; read = more_read w.cells q c w.members h.read })
      e (cell_here w.cells q c))))

  came_on : (p : Layout) (tail : ℕ) (w : Walk) (n : ℕ) (x : Reply) (next : ℕ) → IsWalking l tail w → (o : Option CellJob) (t : WalkTurn) → WalkCame p w n x next o t → w.job ≡ o → JobEndsAs l o n x next → Then tail w t.to
  came_on p tail w n x next h _ _ (ReadsOn j i e) is k = (refl, refl, λ r y. y, with_job_on tail w i (on_of tail w h) (h.job j is ∙ ap (λ (q : ℕ). Some q) (sym (subst (Fine j.place.pos) e (cell_fine j n x next)))))
  came_on p tail w n x next h _ _ (HasRead j c e) is k = read_on p tail w j.place.pos c _ (on_of tail w h) (h.job j is) (subst (EndsAs l j.place.pos) e k)
  came_on p tail w n x next h _ _ (MetTrim j b e) is k = (λ r y. y, end_gone tail w j.place.pos b (on_of tail w h) (h.job j is) (subst (Fine j.place.pos) e (cell_fine j n x next)))
  came_on p tail w n x next h _ _ (WalkWaits o next') is k = (refl, refl, λ r y. y, h)
  came_on p tail w n x next h _ _ (NewerCame o next') is k = (refl, refl, λ r y. y, h)

pub walks_start : WalksStart
walks_start l p o lasts lo cells next tail by linked good known = started l by linked p o lasts lo cells next tail good known

pub walks_feed : WalksFeed
walks_feed l p w n x next tail by linked h k = came_on l by linked p tail w n x next h w.job _ (walk_came p w n x next w.job) refl k

pub walks_again : WalksAgain
walks_again l p w next tail by linked h = walks_on l by linked p tail next w (on_of l by linked tail w h)
