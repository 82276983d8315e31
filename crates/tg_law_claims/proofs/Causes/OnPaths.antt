-- A walk reads what is on the path of its stream.
use Rattle.std.proofs.Common.{◌≡◌, ◌⊎◌, ℕ, zero, suc, ◌+◌, ◌-◌, ◌<◌, ◌≤◌, List, [], ◌∷◌, Bool, true, false, refl, sym, ap, ◌∙◌, subst, inl, inr, arith, Option, Some, None}
use Rattle.std.specs.Prelude.{nat_lt, nat_le}
use Rattle.std.proofs.lemmas.Bool.Decides.{nat_tests}
use Rattle.tg_base.specs.Layouts.{Layout}
use Rattle.tg_base.specs.declared.cell.Cell.{Cell}
use Rattle.tg_base.specs.declared.ids.Oid.{Oid}
use Rattle.tg_base.specs.declared.msg.Msg.{Msg}
use Rattle.tg_base.specs.declared.packet.Out.{Out}
use Rattle.tg_protocol.specs.Words.{unit_id, cell_at, with_cell, where_true}
use Rattle.tg_protocol.specs.Requests.{Next, Goes, Learns, Ends}
use Rattle.tg_protocol.specs.Replies.{Reply}
use Rattle.tg_protocol.specs.Cells.{CellTurn, Place, CellWork, Puts, Gets, Fills, Copies, Probes, CellJob, CellEnd, Gone, works, work_asks, cell_asks, place_in, get_cell, cell_feed}
use Rattle.tg_protocol.specs.Walking.{Trail, trail, next_on, go_down, next_of_trail, rest_of, pointers_at, trail_after, Walk, Members, WalkTurn, visited, with_job, reads_turn, at_least, walk_on, read_at, walk_start, walk_feed, walk_again}
use Rattle.tg_protocol.specs.Logs.{Log, path_on, first_on, path}
use Rattle.tg_protocol.specs.Stuck.{asks_for}
use Rattle.tg_law_layouts.proofs.Moves.Members.{Has}
use Rattle.tg_law_layouts.proofs.Moves.Draws.{NextDraws, without}
use Rattle.tg_law_layouts.proofs.Moves.Machines.{cell_feed_draws}
use Rattle.tg_law_replies.proofs.History.Members.{number_same}
use Rattle.tg_law_walks.specs.Walks.Streams.{AreFalling, AreKnown, AreLinked}
use Rattle.tg_law_walks.specs.Walks.Walks.{EndsAs, JobEndsAs}
use Rattle.tg_law_walks.proofs.Walks.Cells.{more_known, known_at}
use Rattle.tg_law_steps.proofs.Machines.Cells.{Fed as CellFed, PutsOn, ReadsNone, CopiesOn, ProbesOn, Nothing, cell_fed}
use Rattle.tg_law_steps.proofs.Machines.Walks.{goes_on, Fed as WalkFed, ReadGoes as Goes', ReadDone, ReadGone, walk_fed}

less_of : (a b : ℕ) → nat_lt a b ≡ true → a < b
less_of a b e = grind (arith, nat_tests)

one_number : (a b : ℕ) → Some a ≡ Some b → a ≡ b
one_number a b e = cc

-- positions fall below one
pub record Falls (x : ℕ) (t : Trail) : Type 0 where
  pub pointers : AreFalling x t.pointers
  pub last : t.pointers ≡ [] → t.were_four ≡ true → t.last ≡ x

lower : (last x q : ℕ) (b : Bool) → nat_lt 0 last ≡ b → last ≡ x → where_true b (last - 1) ≡ Some q → q < x
lower last x q true some at is = let l = less_of 0 last some in let s = one_number (last - 1) q is in omega (arith, l, at, s)
lower last x q false some at is = absurd (cc)

goes_lower : (b : Bool) (last x q : ℕ) → (b ≡ true → last ≡ x) → go_down b last ≡ Some q → q < x
goes_lower true last x q at is = lower last x q (nat_lt 0 last) refl (at refl) is
goes_lower false last x q at is = absurd (cc)

next_falls : (x : ℕ) (t : Trail) → Falls x t → (q : ℕ) → next_of_trail t ≡ Some q → q < x
next_falls x t f q is = by t.pointers refl f.pointers is
  where
    by : (ps : List ℕ) → t.pointers ≡ ps → AreFalling x ps → next_on t ps ≡ Some q → q < x
    by [] none k is = goes_lower t.were_four t.last x q (f.last none) is
    by (p ∷ ps) some k is = subst (λ (n : ℕ). n < x) (one_number p q is) k.0

-- those after the first fall below the position that is visited
rest_falls : (x : ℕ) (t : Trail) → Falls x t → (q : ℕ) → next_of_trail t ≡ Some q → AreFalling q (rest_of t.pointers)
rest_falls x t f q is = by t.pointers f.pointers is
  where
    by : (ps : List ℕ) → AreFalling x ps → next_on t ps ≡ Some q → AreFalling q (rest_of ps)
    by [] k is = tt
    by (p ∷ ps) k is = subst (λ (n : ℕ). AreFalling n ps) (one_number p q is) k.1

at_least_next : (lo q : ℕ) (o : Option ℕ) → at_least lo o ≡ Some q → o ≡ Some q
at_least_next lo q None is = absurd (cc)
at_least_next lo q (Some p) is = by (nat_le lo p) is
  where
    by : (b : Bool) → where_true b p ≡ Some q → Some p ≡ Some q
    by true e = e
    by false e = absurd (cc)

-- What is read of a cell is asked of units by its position.

abbrev pub IsRead : CellWork → Type 0
IsRead (Puts r d i) = ⊥
IsRead (Gets r) = Unit {0}
IsRead (Fills r) = Unit {0}
IsRead (Copies r c i) = Unit {0}
IsRead (Probes ws) = ⊥

-- a request to a unit for the cell of a position
pub record AsksUnit (p : ℕ) (o : Out) : Type 0 where
  pub unit : ℕ
  pub to : o.to ≡ unit_id unit
  pub asks : asks_for p o.msg ≡ true

one_asks : (p u r : ℕ) (y : Msg) → asks_for p y ≡ true → (o : Out) → Has (record { to = unit_id u; rid = r; msg = y } ∷ []) o → AsksUnit p o
one_asks p u r y e o (inl i) = subst (AsksUnit p) (sym i) (record { unit = u; to = refl; asks = e })
one_asks p u r y e o (inr i) = absurd i

read_asks : (a : Place) (w : CellWork) → IsRead w → (o : Out) → Has (cell_asks (works a w)) o → AsksUnit a.pos o
unfolding work_asks
read_asks a (Puts r d i) read o h = absurd read
read_asks a (Gets r) read o h = one_asks a.pos _ r _ (number_same a.pos a.pos refl) o h
read_asks a (Fills r) read o h = one_asks a.pos _ r _ (number_same a.pos a.pos refl) o h
read_asks a (Copies r c i) read o h = one_asks a.pos _ r _ (number_same a.pos a.pos refl) o h
read_asks a (Probes ws) read o h = absurd read

pub job_reads : (j : CellJob) → IsRead j.work → (o : Out) → Has (cell_asks j) o → AsksUnit j.place.pos o
job_reads j read o h = read_asks j.place j.work read o h

-- the reading goes on at the same place
abbrev Stays : Place → Next CellJob CellEnd → Type 0
Stays a (Goes j) = (j.place ≡ a) × IsRead j.work
Stays a x = Unit {0}

fed_stays : (u : ℕ) (x : Reply) (next : ℕ) (j : CellJob) (t : CellTurn) → CellFed u x next j t → IsRead j.work → Stays j.place t.to
fed_stays u x next _ _ (PutsOn a r d i is e) read = absurd read
fed_stays u x next _ _ (ReadsNone a r is) read = (refl, tt)
fed_stays u x next _ _ (CopiesOn a w c i is e) read = (refl, tt)
fed_stays u x next _ _ (ProbesOn a ws v vs is e) read = absurd read
fed_stays u x next _ _ (Nothing j) read = (refl, read)
fed_stays u x next _ _ z read = tt

feed_stays : (j : CellJob) (u : ℕ) (x : Reply) (next : ℕ) → IsRead j.work → Stays j.place (cell_feed j u x next).to
feed_stays j u x next read = fed_stays u x next j _ (cell_fed u x next j) read

-- Over a log, from numbers on.
module _ (l : Log) (linked : AreLinked l) (low : ℕ) where
  -- a path, step by step

  path_cell : Oid → ℕ → Trail → ℕ → Option Cell → List ℕ
  path_cell o n t q x = elim x as (λ _. List ℕ) [
    | None ↦ q ∷ []
    | Some c ↦ q ∷ path_on l o n (trail_after t q (pointers_at o q c))
  ]

  path_next : Oid → ℕ → Trail → Option ℕ → List ℕ
  path_next o n t x = elim x as (λ _. List ℕ) [
    | None ↦ []
    | Some q ↦ path_cell o n t q (cell_at l q)
  ]

  path_is : (o : Oid) (n : ℕ) (t : Trail) → path_on l o (suc n) t ≡ path_next o n t (next_of_trail t)
  unfolding path_on path_next path_cell
  path_is o n t = refl

  next_is : (o : Oid) (n : ℕ) (t : Trail) (q : ℕ) → next_of_trail t ≡ Some q → path_on l o (suc n) t ≡ path_cell o n t q (cell_at l q)
  unfolding path_next
  next_is o n t q is = path_is o n t ∙ ap (path_next o n t) is

  path_here : (o : Oid) (n : ℕ) (t : Trail) (q : ℕ) → next_of_trail t ≡ Some q → Has (path_on l o (suc n) t) q
  unfolding path_cell
  path_here o n t q is = subst (λ (ps : List ℕ). Has ps q) (sym (next_is o n t q is)) (by (cell_at l q))
    where
      by : (x : Option Cell) → Has (path_cell o n t q x) q
      by None = inl refl
      by (Some c) = inl refl

  path_more : (o : Oid) (n : ℕ) (t : Trail) (q : ℕ) (c : Cell) → next_of_trail t ≡ Some q → cell_at l q ≡ Some c → (p : ℕ) → Has (path_on l o n (trail_after t q (pointers_at o q c))) p → Has (path_on l o (suc n) t) p
  unfolding path_cell
  path_more o n t q c is known p i = subst (λ (ps : List ℕ). Has ps p) (sym (next_is o n t q is ∙ ap (path_cell o n t q) known)) (there i)
    where
      there : Has (path_on l o n (trail_after t q (pointers_at o q c))) p → Has (path_cell o n t q (Some c)) p
      there j = inr j

  -- A walk of a stream, from the list of a tail.
  module _ (o : Oid) (lasts : List ℕ) where
    -- from a trail on the path is part of that of the list
    pub record IsOnPath (t : Trail) : Type 0 where
      pub at : ℕ
      pub falls : Falls at t
      pub count : ℕ
      pub within : at ≤ count
      pub part : (p : ℕ) → Has (path_on l o count t) p → Has (path l o lasts) p

    start_falls : (x : ℕ) (ps : List ℕ) → AreFalling x ps → Falls (first_on ps + 1) (trail ps 0)
    start_falls x [] k = record { pointers = tt; last = λ e f. absurd (cc) }
    start_falls x (q ∷ qs) k = record { pointers = (omega arith, k.1); last = λ e f. absurd (cc) }

    starts_on : (x : ℕ) → AreFalling x lasts → IsOnPath (trail lasts 0)
    unfolding path
    starts_on x k = record { at = first_on lasts + 1; falls = start_falls x lasts k; count = first_on lasts + 2; within = omega arith; part = λ p i. i }

    -- what is read next is on the path
    pub next_on_path : (t : Trail) (q : ℕ) → IsOnPath t → next_of_trail t ≡ Some q → Has (path l o lasts) q
    next_on_path t q k is = by k.count k.part (let a = next_falls k.at t k.falls q is in let b = k.within in omega (arith, a, b))
      where
        by : (n : ℕ) → ((p : ℕ) → Has (path_on l o n t) p → Has (path l o lasts) p) → q < n → Has (path l o lasts) q
        by zero f less = absurd (omega (arith, less))
        by (suc n) f less = f q (path_here o n t q is)

    after_falls : (t : Trail) (q : ℕ) (c : Cell) → (x : ℕ) → Falls x t → cell_at l q ≡ Some c → next_of_trail t ≡ Some q → Falls q (trail_after t q (pointers_at o q c))
    after_falls t q c x f known is = by (pointers_at o q c) refl
      where
        by : (ps : Option (List ℕ)) → pointers_at o q c ≡ ps → Falls q (trail_after t q ps)
        by None e = record { pointers = rest_falls x t f q is; last = λ a b. refl }
        by (Some ps) e = record { pointers = (linked o q c ps known e).falling; last = λ a b. refl }

    visits_on : (t : Trail) (q : ℕ) (c : Cell) → IsOnPath t → cell_at l q ≡ Some c → next_of_trail t ≡ Some q → IsOnPath (trail_after t q (pointers_at o q c))
    visits_on t q c k known is = by k.count k.part (let a = next_falls k.at t k.falls q is in let b = k.within in omega (arith, a, b))
      where
        by : (n : ℕ) → ((p : ℕ) → Has (path_on l o n t) p → Has (path l o lasts) p) → q < n → IsOnPath (trail_after t q (pointers_at o q c))
        by zero f less = absurd (omega (arith, less))
        by (suc n) f less = record {
          at = q;
          falls = after_falls t q c k.at k.falls known is;
          count = n;
          within = omega (arith, less);
          part = λ p i. f p (path_more o n t q c is known p i);
        }

    -- the cell that is read
    pub record JobOn (t : Trail) (j : CellJob) : Type 0 where
      pub next : next_of_trail t ≡ Some j.place.pos
      pub read : IsRead j.work
      pub now : (x : Out) → Has (cell_asks j) x → low ≤ x.rid

    pub record WalkSo (w : Walk) : Type 0 where
      pub oid : w.oid ≡ o
      pub known : AreKnown l w.cells
      pub path : IsOnPath w.trail

    pub record WalkOn (w : Walk) : Type 0 where
      pub so : WalkSo w
      pub job : (j : CellJob) → w.job ≡ Some j → JobOn w.trail j

    -- what a walk comes to; where it met a trim this is so
    abbrev pub NextOn : (ℕ → Type 0) → Next Walk Members → Type 0
    NextOn Met (Goes w) = WalkOn w
    NextOn Met (Learns w) = WalkOn w
    NextOn Met (Ends x) = AreKnown l x.cells × ((b : ℕ) → x.gone ≡ Some b → Met b)

    one_job : (i j : CellJob) → Some i ≡ Some j → i ≡ j
    one_job i j e = cc

    with_job_on : (w : Walk) (j : CellJob) → WalkSo w → JobOn w.trail j → WalkOn (with_job w j)
    with_job_on w j k at = record {
      so = record { oid = k.oid; known = k.known; path = k.path };
      job = λ i is. subst (JobOn w.trail) (one_job j i is) at;
    }

    module _ (Met : ℕ → Type 0) where
      no_gone : (b : ℕ) → None ≡ Some b → Met b
      no_gone b e = absurd (cc)

      module _ (p : Layout) where
        got_asks : (a : Place) (next : ℕ) → low ≤ next → (x : Out) → Has (cell_asks (works a (Gets next))) x → low ≤ x.rid
        unfolding work_asks
        got_asks a next le x (inl e) = let r = ap (λ (y : Out). y.rid) e in omega (arith, le, r)
        got_asks a next le x (inr i) = absurd i

        reads_on : (w : Walk) (q next : ℕ) → low ≤ next → WalkSo w → next_of_trail w.trail ≡ Some q → NextOn Met (reads_turn w (get_cell (place_in p q) next)).to
        unfolding get_cell
        reads_on w q next le k is = with_job_on w (works (place_in p q) (Gets next)) k (record { next = is; read = tt; now = λ x i. got_asks (place_in p q) next le x i })

        visited_so : (w : Walk) (q : ℕ) (c : Cell) → WalkSo w → cell_at l q ≡ Some c → next_of_trail w.trail ≡ Some q → WalkSo (visited w q c)
        visited_so w q c k known is = record {
          oid = k.oid;
          known = k.known;
          path = subst (λ (s : Oid). IsOnPath (trail_after w.trail q (pointers_at s q c))) (sym k.oid) (visits_on w.trail q c k.path known is);
        }

        on_on : (next n : ℕ) (w : Walk) → low ≤ next → WalkSo w → NextOn Met (walk_on p next n w).to
        unfolding get_cell
        on_on next n w le k = goes_on p next WalkSo (λ t. NextOn Met t.to) (λ v q c is e k. visited_so v q c k (known_at l v.cells k.known q c e) (at_least_next v.lo q (next_of_trail v.trail) is))
            (λ v k. (k.known, λ b e. no_gone b e)) (λ v q is e k. reads_on v q next le k (at_least_next v.lo q (next_of_trail v.trail) is)) n w k

        -- a walk begins, and goes on in a newer layout

        pub again_on : (w : Walk) (next : ℕ) → low ≤ next → WalkSo w → NextOn Met (walk_again p w next).to
        again_on w next le k = on_on next _ w le k

        pub start_on : (x lo : ℕ) (cells : List (ℕ × Cell)) (next : ℕ) → low ≤ next → AreFalling x lasts → AreKnown l cells → NextOn Met (walk_start p o lasts lo cells next).to
        unfolding walk_start
        start_on x lo cells next le falls known = on_on next _ _ le (record { oid = refl; known = known; path = starts_on x falls })

        -- an awaited answer

        goes_so : (n : ℕ) (y : Reply) (next : ℕ) (w : Walk) (i j : CellJob) → low ≤ next → WalkOn (with_job w i) → (cell_feed i n y next).to ≡ Goes j → WalkOn (with_job w j)
        goes_so n y next w i j le k e = with_job_on w j (record { oid = k.so.oid; known = k.so.known; path = k.so.path }) (record {
          next = at.next ∙ ap (λ (a : Place). Some a.pos) (sym stays.0);
          read = stays.1;
          now = λ x has. by x ((without (cell_asks i) next (cell_feed i n y next).besides (cell_asks j) (cell_feed i n y next).next draws).either x has);
        })
          where
            at : JobOn w.trail i
            at = k.job i refl

            stays : (j.place ≡ i.place) × IsRead j.work
            stays = subst (Stays i.place) e (feed_stays i n y next at.read)

            draws : NextDraws {E = CellEnd} cell_asks (cell_asks i) next (cell_feed i n y next).besides (cell_feed i n y next).next (Goes j)
            draws = subst (NextDraws cell_asks (cell_asks i) next (cell_feed i n y next).besides (cell_feed i n y next).next) e (cell_feed_draws i n y next)

            by : (x : Out) → Has (cell_asks i) x ⊎ Has (without (cell_asks i) next (cell_feed i n y next).besides (cell_asks j) (cell_feed i n y next).next draws).new x → low ≤ x.rid
            by x (inl h) = at.now x h
            by x (inr h) = let a = (without (cell_asks i) next (cell_feed i n y next).besides (cell_asks j) (cell_feed i n y next).next draws).is_new.from x h in omega (arith, le, a)

        fed_on : (n : ℕ) (y : Reply) (next : ℕ) → low ≤ next → (w : Walk) (t : WalkTurn) → WalkFed p n y next w t → WalkOn w → JobEndsAs l w.job n y next
            → ((j : CellJob) (b : ℕ) → w.job ≡ Some j → JobOn w.trail j → (cell_feed j n y next).to ≡ Ends (Gone b) → Met b) → NextOn Met t.to
        fed_on n y next le _ _ (Goes' w j i e) k here met = goes_so n y next w j i le k e
        fed_on n y next le _ _ (ReadDone w j c e) k here met =
            let up = subst (NextDraws cell_asks (cell_asks j) next (cell_feed j n y next).besides (cell_feed j n y next).next) e (cell_feed_draws j n y next) in
            let there = subst (EndsAs l j.place.pos) e here in
            again_on (read_at (with_job w j) j.place.pos c) _ (omega (arith, le, up)) (visited_so (record (with_job w j) { cells = with_cell w.cells j.place.pos c }) j.place.pos c
            (record { oid = k.so.oid; known = more_known l w.cells j.place.pos c k.so.known there; path = k.so.path }) there (k.job j refl).next)
        fed_on n y next le _ _ (ReadGone w j b e) k here met = (k.so.known, λ d f. subst Met (one_number b d f) (met j b refl (k.job j refl) e))
        fed_on n y next le _ _ x k here met = k

        pub feed_on : (w : Walk) (n : ℕ) (y : Reply) (next : ℕ) → low ≤ next → WalkOn w → JobEndsAs l w.job n y next → ((j : CellJob) (b : ℕ) → w.job ≡ Some j → JobOn w.trail j → (cell_feed j n y next).to ≡ Ends (Gone b) → Met b)
            → NextOn Met (walk_feed p w w.job n y next).to
        feed_on w n y next le k here met = fed_on n y next le w _ (walk_fed p n y next w) k here met
