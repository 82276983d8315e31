-- What holds of a world to which a run comes, of a decided layout past whose epoch no unit stands: each position of it can be read, and each request
-- of a scan's job is answered by what the job goes on with.
use Rattle.std.proofs.Common.{◌≡◌, ◌⊎◌, ℕ, zero, suc, ◌+◌, ◌-◌, ◌^◌, ◌<◌, ◌≤◌, List, [], ◌∷◌, length, Bool, true, false, refl, ap, ◌∙◌, sym, subst, inl, inr, arith, Some}
use Rattle.std.specs.Prelude.{nat_lt, max, fold, flat_map, slice_index, slice_index_or}
use Rattle.std.proofs.lemmas.Bool.Decides.{nat_tests}
use Rattle.tg_base.specs.Clusters.{Header}
use Rattle.tg_base.specs.Layouts.{Layout, IsLayout}
use Rattle.tg_base.specs.declared.cell.Cell.{Cell}
use Rattle.tg_base.specs.declared.ids.NodeId.{NodeId}
use Rattle.tg_base.specs.declared.layout.Range.{Range}
use Rattle.tg_base.specs.declared.msg.Msg.{Msg}
use Rattle.tg_kind.specs.Meaning.{Meaning}
use Rattle.tg_proj.specs.Places.{range_at, chain_at}
use Rattle.tg_protocol.specs.Words.{cell_at, too_far, unit_id}
use Rattle.tg_protocol.specs.Layouts.{chain_of, units_of}
use Rattle.tg_protocol.specs.Units.{unit_step}
use Rattle.tg_protocol.specs.Requests.{Next, Turn, Goes, Ends, out}
use Rattle.tg_protocol.specs.Replies.{Reply, reply}
use Rattle.tg_protocol.specs.Cells.{Place, CellWork, Puts, Gets, Fills, Copies, Probes, CellJob, CellEnd, CellTurn, Done, Gone, place_in, works, work_asks, work_feed, cell_asks, cell_feed}
use Rattle.tg_protocol.specs.Worlds.{World, unit, seqr, latest}
use Rattle.tg_protocol.specs.Runs.{Moves, Reaches, Later, run}
use Rattle.tg_protocol.specs.Finishing.{stripes_of, longest_chain}
use Rattle.tg_law_layouts.specs.Moves.After.{after}
use Rattle.tg_law_layouts.specs.Layouts.Decisions.{IsOfDecided}
use Rattle.tg_law_layouts.specs.Requests.Laws.{IsSo}
use Rattle.tg_law_layouts.proofs.Moves.Lists.{contained}
use Rattle.tg_law_layouts.proofs.Moves.Members.{Has, has_left, has_right, has_contained}
use Rattle.tg_law_layouts.proofs.Requests.Starts.{told_is_so}
use Rattle.tg_law_layouts.proofs.Layouts.Deciding.{latest_decided, layouts_are_sound}
use Rattle.tg_law_cells.specs.Cells.Chains.{ToldUpTo}
use Rattle.tg_law_cells.specs.Cells.Settled.{IsSettled, StandsLater}
use Rattle.tg_law_cells.proofs.Cells.Befores.{has_at}
use Rattle.tg_law_cells.proofs.Cells.Heads.{heads_have_cells}
use Rattle.tg_law_cells.proofs.Cells.Justified.{WorkOk}
use Rattle.tg_law_cells.proofs.Cells.Settling.{settled_is_held, units_tell_settled}
use Rattle.tg_law_cells.proofs.Cells.Stores.{up_to}
use Rattle.tg_law_cells.proofs.Cells.Successors.{place_of, some_there}
use Rattle.tg_law_cells.proofs.Entries.Archive.{log_is_settled, trimmed_is_in_log}
use Rattle.tg_law_cells.proofs.Places.Left.{chains_stand}
use Rattle.tg_law_headline.specs.Trims.Spare.{TrimsAre}
use Rattle.tg_law_steps.proofs.Machines.Cells as cells
use Rattle.tg_law_finish.proofs.Finish.Below.{settled_under}
use Rattle.tg_law_finish.proofs.Finish.Midway.{ReadShape}
use Rattle.tg_law_finish.proofs.Finish.Nets.{Net, net, on_in, unit_of}
use Rattle.tg_law_finish.proofs.Finish.Readings.{Stable, Clean, Trimmed, CellStage, CellWell, CellDone, CellGoes, CellGone, cell_ask}
use Rattle.tg_law_finish.proofs.Finish.Standing.{next_near, chain_in_units}
use Rattle.tg_law_finish.proofs.Finish.Working.{at_chain}

is_below : (a b : ℕ) → nat_lt a b ≡ true → a < b
is_below a b e = grind arith

is_less : (a b : ℕ) → a < b → nat_lt a b ≡ true
is_less a b less = grind arith

not_less : (a b : ℕ) → nat_lt a b ≡ false → b ≤ a
not_less a b e = grind arith

-- No chain is longer than the longest.

longer : (n : ℕ) (cs : List (List ℕ)) → n ≤ fold (λ k (chain : List ℕ). max k (length chain)) n cs
longer n [] = omega arith
longer n (c ∷ cs) = let a = longer (max n (length c)) cs in let b = least n (length c) in omega (arith, a, b)
  where
    least : (a b : ℕ) → a ≤ max a b
    least a b = grind arith

at_most : (n : ℕ) (cs : List (List ℕ)) (c : List ℕ) → Has cs c → length c ≤ fold (λ k (chain : List ℕ). max k (length chain)) n cs
at_most n [] c h = absurd h
at_most n (x ∷ cs) c (inl e) = let a = longer (max n (length x)) cs in let b = most n (length x) in let f = ap (λ (y : List ℕ). length y) e in omega (arith, a, b, f)
  where
    most : (a b : ℕ) → b ≤ max a b
    most a b = grind arith
at_most n (x ∷ cs) c (inr h) = at_most (max n (length x)) cs c h

stripe_in : (cs : List (List ℕ)) (k : ℕ) → k < length cs → Has cs (slice_index_or cs k [])
stripe_in [] k less = absurd (omega (arith, less))
stripe_in (c ∷ cs) zero less = inl refl
stripe_in (c ∷ cs) (suc k) less = inr (stripe_in cs k (omega (arith, less)))

ranges_have : (rs : List Range) (n k : ℕ) → n < length rs → k < length (range_at rs n).stripes → Has (flat_map stripes_of rs) (chain_at rs n k)
ranges_have [] n k a b = absurd (omega (arith, a))
ranges_have (r ∷ rs) zero k a b = has_left r.stripes (flat_map stripes_of rs) _ (stripe_in r.stripes k b)
ranges_have (r ∷ rs) (suc n) k a b = has_right r.stripes (flat_map stripes_of rs) _ (ranges_have rs n k (omega (arith, a)) b)

pub chain_short : (p : Layout) (pos : ℕ) → IsLayout p → length (chain_of p pos) ≤ longest_chain p
chain_short p pos rules = let a = place_of p pos rules in subst (λ (c : List ℕ). length c ≤ longest_chain p) (sym a.chain) (at_most 0 (flat_map stripes_of p.ranges) _ (ranges_have p.ranges a.range a.stripe a.is.there a.less))

-- What a job goes on with.

-- how many requests may follow the one that is outstanding
abbrev pub need : ℕ → CellWork → ℕ
need long (Gets r) = long
need long (Fills r) = long - 1
need long (Copies r c i) = long - suc i
need long y = 0

-- it ends with the cell, or with a trim, or asks once more
pub data Fares (j : CellJob) (next : ℕ) : CellTurn → Type 0 where
  FDone : (c : Cell) → Fares j next (record { next = next; besides = []; gone = 0; to = Ends (Done c) })
  FGone : (g : ℕ) → nat_lt j.place.pos g ≡ true → Fares j next (record { next = next; besides = []; gone = 0; to = Ends (Gone g) })
  FGoes : (y : CellWork) (u : ℕ) (z : Msg) → work_asks j.place y ≡ out (unit_id u) next z ∷ [] → need (length j.place.chain) y + 1 ≤ need (length j.place.chain) j.work → Fares j next (record { next = next + 1; besides = []; gone = 0; to = Goes (works j.place y) })

-- it reads no more once it was answered

abbrev is_get : CellWork → Bool
is_get (Gets r) = true
is_get y = false

abbrev reads : Next CellJob CellEnd → Bool
reads (Goes j) = is_get j.work
reads to = false

apart : false ≡ true → ⊥
apart e = cc

no_gets : (u : ℕ) (x : Reply) (next : ℕ) (j : CellJob) (t : Turn CellJob CellEnd) → cells.Fed u x next j t → (a : Place) (r : ℕ) → t.next ≡ next + 1 → t.to ≡ Goes (works a (Gets r)) → ⊥
no_gets u x next _ _ (cells.Nothing j) a r e f = absurd (omega (arith, e))
no_gets u x next _ _ y a r e f = apart (ap reads f)

-- what an answer is good for
abbrev pub FaresBy : CellJob → Msg → Type 0
FaresBy j y = (v next : ℕ) → Fares j next (cell_feed j v (reply y) next)

module _ (m : Meaning) (h : Header) (stopped : List NodeId) (k : ℕ) (p : Layout) (longest : ℕ) (low_at : ℕ → ℕ) (many : ℕ) where
  fares_of : (t : Net m) (pl : Place) (w : CellWork) (b : Bool) (next : ℕ) (x : CellTurn) → ((a : Place) (r : ℕ) → x.next ≡ next + 1 → x.to ≡ Goes (works a (Gets r)) → ⊥)
      → CellWell m h stopped k p longest low_at many t pl b (need (length pl.chain) w) next x → Fares (works pl w) next x
  fares_of t pl w b next _ f (CellDone c) = FDone c
  fares_of t pl w b next _ f (CellGone u g is less e low) = FGone g low
  fares_of t pl w b next _ f (CellGoes (Gets r) u y left e stage few) = absurd (f pl r refl refl)
  fares_of t pl w b next _ f (CellGoes (Fills r) u y left e stage few) = FGoes (Fills r) u y e (less (length pl.chain) left _ stage.1 few)
    where
      less : (n l x : ℕ) → n ≤ l + 1 → l + 1 ≤ x → (n - 1) + 1 ≤ x
      less n l x a b = omega (arith, a, b)
  fares_of t pl w b next _ f (CellGoes (Copies r c i) u y left e stage few) = FGoes (Copies r c i) u y e (less (length pl.chain) left i _ stage.few few)
    where
      less : (n l i x : ℕ) → n ≤ l + suc i → l + 1 ≤ x → (n - suc i) + 1 ≤ x
      less n l i x a b = omega (arith, a, b)
  fares_of t pl w b next _ f (CellGoes (Puts r d i) u y left e stage few) = absurd stage
  fares_of t pl w b next _ f (CellGoes (Probes ws) u y left e stage few) = absurd stage

  work_fares : (t : Net m) (pl : Place) (w : CellWork) (b : Bool) (y : Msg) → ((v next : ℕ) → CellWell m h stopped k p longest low_at many t pl b (need (length pl.chain) w) next (work_feed (works pl w) w v (reply y) next)) → FaresBy (works pl w) y
  unfolding cell_feed
  work_fares t pl w b y f v next = fares_of t pl w b next _ (λ a r. no_gets v (reply y) next (works pl w) _ (cells.cell_fed v (reply y) next (works pl w)) a r) (f v next)

-- the one request of a job, which the unit answers so
pub record Answers (m : Meaning) (stopped : List NodeId) (w : World m) (j : CellJob) : Type 0 where
  pub unit : ℕ
  pub rid : ℕ
  pub says : Msg
  pub is : cell_asks j ≡ out (unit_id unit) rid says ∷ []
  pub on : on_in m stopped (net m w) (unit_id unit) ≡ true
  pub answer : Msg
  pub told : (unit_step (unit_of m (net m w) unit) says).says ≡ Some answer
  pub fares : FaresBy j answer

-- No unit has trimmed as far as 2 ^ 62.
module _ (m : Meaning) (h : Header) where
  low_here : (zs : Moves m) → Reaches m h zs (after m h zs) → TrimsAre m h zs (after m h zs) → (u : ℕ) → too_far (unit m (after m h zs) u).low ≡ false
  low_here zs r trims u = near_top q.start s (unit m (after m h zs) u).low (layouts_are_sound m h zs (after m h zs) r q.epoch q (latest_decided m h zs (after m h zs) r).decided).near (next_near m h zs (after m h zs) r) (by (nat_lt top (unit m (after m h zs) u).low) refl)
    where
      near_top : (a b n : ℕ) → a < 2 ^ 62 → too_far b ≡ false → n ≤ max a b → too_far n ≡ false
      near_top a b n e f le = grind (arith, nat_tests, e, f, le)

      left_most : (a b : ℕ) → a ≤ max a b
      left_most a b = grind arith

      right_most : (a b : ℕ) → b ≤ max a b
      right_most a b = grind arith

      q : Layout
      q = latest m (after m h zs)

      s : ℕ
      s = (seqr m (after m h zs) (latest m (after m h zs)).seq).next

      top : ℕ
      top = max (latest m (after m h zs)).start (seqr m (after m h zs) (latest m (after m h zs)).seq).next

      by : (d : Bool) → nat_lt top (unit m (after m h zs) u).low ≡ d → (unit m (after m h zs) u).low ≤ top
      by true l =
          let g = trimmed_is_in_log m h zs (after m h zs) r trims.were.safe u top (is_below top (unit m (after m h zs) u).low l) in
          let settled = (log_is_settled m h zs (after m h zs) r trims.were.safe).settled top g.0 g.1 in
          let less = settled_under m h zs r top (left_most q.start s) (λ i. right_most q.start s) trims.in_time top g.0 settled in
          absurd (omega (arith, less))
      by false l = not_less top (unit m (after m h zs) u).low l

  low_near : (zs : Moves m) (v : World m) → Reaches m h zs v → TrimsAre m h zs v → (u : ℕ) → too_far (unit m v u).low ≡ false
  low_near zs v r = subst (λ (w : World m). Reaches m h zs w → TrimsAre m h zs w → (u : ℕ) → too_far (unit m w u).low ≡ false) (sym r.goes.is) (low_here zs) r

module _ (m : Meaning) (h : Header) (zs : Moves m) (w : World m) (r : Reaches m h zs w) (trims : TrimsAre m h zs w) (stopped : List NodeId) (k : ℕ) (p : Layout) (decided : IsOfDecided m w p)
    (top : (u : ℕ) → (unit m w u).epoch ≤ p.epoch) (on : (u : ℕ) → Has (units_of p) u → on_in m stopped (net m w) (unit_id u) ≡ true) where
  now : Later m w w
  unfolding run
  now = ([], record { lawful = λ x c. absurd (has_contained [] x c); is = refl; few = r.goes.few })

  rules : IsLayout p
  rules = (layouts_are_sound m h zs w r p.epoch p decided).rules

  some : (pos : ℕ) → 0 < length (chain_of p pos)
  some pos = some_there p pos rules

  -- no later layout is decided
  pub greatest : (q : Layout) → IsOfDecided m w q → q.epoch ≤ p.epoch
  greatest q d =
      let there = some_there q 0 (layouts_are_sound m h zs w r q.epoch q d).rules in
      let u = slice_index (chain_of q 0) 0 in
      let low = chains_stand m h zs w r q 0 u d (contained (chain_of q 0) u (has_at (chain_of q 0) 0 there)) in
      let high = top u in
      omega (arith, low, high)

  here : (pos i : ℕ) → i < length (chain_of p pos) → Has (chain_of p pos) (at_chain m p pos i)
  here pos i less = has_at (chain_of p pos) i less

  stands : (pos i : ℕ) → i < length (chain_of p pos) → (unit m w (at_chain m p pos i)).epoch ≡ p.epoch
  stands pos i less =
      let low = chains_stand m h zs w r p pos (at_chain m p pos i) decided (contained (chain_of p pos) _ (here pos i less)) in
      let high = top (at_chain m p pos i) in
      omega (arith, low, high)

  runs_there : (pos i : ℕ) → i < length (chain_of p pos) → on_in m stopped (net m w) (unit_id (at_chain m p pos i)) ≡ true
  runs_there pos i less = on (at_chain m p pos i) (chain_in_units p rules pos i less)

  unit_there : (u : ℕ) → on_in m stopped (net m w) (unit_id u) ≡ true → u < length w.units
  unit_there u e = grind arith

  abbrev low_at : ℕ → ℕ
  low_at u = (unit m w u).low

  -- some unit of a chain has trimmed the position, or none
  looked : (pos n : ℕ) → n ≤ length (chain_of p pos) → ((j : ℕ) → j < n → nat_lt pos (unit m w (at_chain m p pos j)).low ≡ false) ⊎ ((j : ℕ) × (j < length (chain_of p pos)) × (nat_lt pos (unit m w (at_chain m p pos j)).low ≡ true))
  looked pos zero le = inl (λ j less. absurd (omega (arith, less)))
  looked pos (suc n) le = by (nat_lt pos (unit m w (at_chain m p pos n)).low) refl (looked pos n (omega (arith, le)))
    where
      last_or_less : (j n : ℕ) → j < suc n → (j ≡ n) ⊎ (j < n)
      last_or_less j n less = grind arith

      by : (d : Bool) → nat_lt pos (unit m w (at_chain m p pos n)).low ≡ d → ((j : ℕ) → j < n → nat_lt pos (unit m w (at_chain m p pos j)).low ≡ false) ⊎ ((j : ℕ) × (j < length (chain_of p pos)) × (nat_lt pos (unit m w (at_chain m p pos j)).low ≡ true))
          → ((j : ℕ) → j < suc n → nat_lt pos (unit m w (at_chain m p pos j)).low ≡ false) ⊎ ((j : ℕ) × (j < length (chain_of p pos)) × (nat_lt pos (unit m w (at_chain m p pos j)).low ≡ true))
      by true e f = inr (n, omega (arith, le), e)
      by false e (inr f) = inr f
      by false e (inl f) = inl (λ j less. of j (last_or_less j n less))
        where
          of : (j : ℕ) → (j ≡ n) ⊎ (j < n) → nat_lt pos (unit m w (at_chain m p pos j)).low ≡ false
          of j (inl i) = subst (λ x. nat_lt pos (unit m w (at_chain m p pos x)).low ≡ false) (sym i) e
          of j (inr less) = f j less

  head_has : (pos j : ℕ) (x : Cell) → j < length (chain_of p pos) → cell_at (unit m w (at_chain m p pos j)).cells pos ≡ Some x → nat_lt pos (unit m w (at_chain m p pos 0)).low ≡ false → cell_at (unit m w (at_chain m p pos 0)).cells pos ≡ Some x
  head_has pos j x less has low = by (heads_have_cells m h zs w r p pos (at_chain m p pos j) x decided (contained (chain_of p pos) _ (here pos j less)) (let e = stands pos j less in omega (arith, e)) has)
    where
      by : (cell_at (unit m w (at_chain m p pos 0)).cells pos ≡ Some x) ⊎ (pos < (unit m w (at_chain m p pos 0)).low) → cell_at (unit m w (at_chain m p pos 0)).cells pos ≡ Some x
      by (inl e) = e
      by (inr l) = absurd (both _ _ l low)
        where
          both : (a b : ℕ) → a < b → nat_lt a b ≡ false → ⊥
          both a b l e = grind arith

  -- what a unit has trimmed was settled, and each other unit has it, or has trimmed it
  abbrev HeldAll : ℕ → Cell → Type 0
  HeldAll pos c = (i : ℕ) → i < length (chain_of p pos) → (cell_at (unit m w (at_chain m p pos i)).cells pos ≡ Some c) ⊎ (nat_lt pos (unit m w (at_chain m p pos i)).low ≡ true)

  settled : (pos j : ℕ) → nat_lt pos (unit m w (at_chain m p pos j)).low ≡ true → (c : Cell) × IsSettled m w pos c
  settled pos j low =
      let g = trimmed_is_in_log m h zs w r trims.were.safe (at_chain m p pos j) pos (is_below _ _ low) in
      (g.0, (log_is_settled m h zs w r trims.were.safe).settled pos g.0 g.1)

  later : (pos : ℕ) (c : Cell) (g : IsSettled m w pos c) (i : ℕ) → i < length (chain_of p pos) → StandsLater m w g.layout p pos (at_chain m p pos i)
  later pos c g i less = record { decided = decided; later = greatest g.layout g.decided; here = contained (chain_of p pos) _ (here pos i less) }

  held : (pos : ℕ) (c : Cell) → IsSettled m w pos c → HeldAll pos c
  held pos c g i less = by (settled_is_held m h zs w w r now pos c g p (at_chain m p pos i) (later pos c g i less))
    where
      by : (cell_at (unit m w (at_chain m p pos i)).cells pos ≡ Some c) ⊎ (pos < (unit m w (at_chain m p pos i)).low) → (cell_at (unit m w (at_chain m p pos i)).cells pos ≡ Some c) ⊎ (nat_lt pos (unit m w (at_chain m p pos i)).low ≡ true)
      by (inl e) = inl e
      by (inr l) = inr (is_less _ _ l)

  stable : (pos : ℕ) → Stable m h stopped k p (longest_chain p) (λ u. (unit m w u).low) (length w.units) (net m w) (place_in p pos)
  stable pos = record {
    serves = record {
      epoch = refl;
      some = some pos;
      short = chain_short p pos rules;
      unit = λ i less. record { on = runs_there pos i less; epoch = stands pos i less; low = low_near m h zs w r trims (at_chain m p pos i) };
    };
    lows = λ j less. refl;
    few = λ j less. unit_there (at_chain m p pos j) (runs_there pos j less);
  }

  -- Where a job stands.

  abbrev Stage : Place → CellWork → Type 0
  Stage pl y = (d : Bool) × CellStage m h stopped k p (longest_chain p) (λ u. (unit m w u).low) (length w.units) (net m w) pl d y (need (length pl.chain) y)

  clean : (pos : ℕ) → ((j : ℕ) → j < length (chain_of p pos) → nat_lt pos (unit m w (at_chain m p pos j)).low ≡ false) → Clean m h stopped k p (longest_chain p) (λ u. (unit m w u).low) (length w.units) (net m w) (place_in p pos)
  clean pos free = record { free = free; below = λ j x less has. head_has pos j x less has (free 0 (some pos)) }

  trimmed : (pos j : ℕ) → nat_lt pos (unit m w (at_chain m p pos j)).low ≡ true → Trimmed m h stopped k p (longest_chain p) (λ u. (unit m w u).low) (length w.units) (net m w) (place_in p pos)
  trimmed pos j low = let g = settled pos j low in record { cell = g.0; held = held pos g.0 g.1 }

  rest : (n : ℕ) → n ≤ (n - 1) + 1
  rest n = omega arith

  rest_of : (n i : ℕ) → n ≤ (n - suc i) + suc i
  rest_of n i = omega arith

  -- what the first unit has told
  told_has : (pos : ℕ) (c : Cell) → ToldUpTo w.packets (at_chain m p pos 0) p.epoch pos c → (cell_at (unit m w (at_chain m p pos 0)).cells pos ≡ Some c) ⊎ (pos < (unit m w (at_chain m p pos 0)).low)
  told_has pos c t =
      let so : IsSo m w (at_chain m p pos 0) t.claim = told_is_so m h zs w r (at_chain m p pos 0) t.claim t.told in
      subst (λ (y : Cell). (cell_at (unit m w (at_chain m p pos 0)).cells pos ≡ Some y) ⊎ (pos < (unit m w (at_chain m p pos 0)).low)) t.is
      (subst (λ (n : ℕ). (cell_at (unit m w (at_chain m p pos 0)).cells n ≡ Some t.claim.cell) ⊎ (n < (unit m w (at_chain m p pos 0)).low)) t.at so.cell)

  told_held : (pos j : ℕ) (c : Cell) → ToldUpTo w.packets (at_chain m p pos 0) p.epoch pos c → nat_lt pos (unit m w (at_chain m p pos j)).low ≡ true → HeldAll pos c
  told_held pos j c t low =
      let g = settled pos j low in
      let same = units_tell_settled m h zs w w r now pos g.0 g.1 p (at_chain m p pos 0) t.claim (later pos g.0 g.1 0 (some pos)) t.told t.at in
      subst (λ (y : Cell). HeldAll pos y) (sym same ∙ t.is) (held pos g.0 g.1)

  stage_at : (pos : ℕ) (y : CellWork) → ReadShape (place_in p pos) y → WorkOk w.packets (place_in p pos) y → Stage (place_in p pos) y
  stage_at pos y shape ok = by y shape ok (looked pos (length (chain_of p pos)) (omega arith))
    where
      by : (y : CellWork) → ReadShape (place_in p pos) y → WorkOk w.packets (place_in p pos) y
          → ((j : ℕ) → j < length (chain_of p pos) → nat_lt pos (unit m w (at_chain m p pos j)).low ≡ false) ⊎ ((j : ℕ) × (j < length (chain_of p pos)) × (nat_lt pos (unit m w (at_chain m p pos j)).low ≡ true)) → Stage (place_in p pos) y
      by (Gets i) shape ok (inl free) = (true, (clean pos free, omega arith))
      by (Gets i) shape ok (inr g) = (false, (trimmed pos g.0 g.2, tt))
      by (Fills i) shape ok (inl free) = (true, (clean pos free, rest (length (chain_of p pos))))
      by (Fills i) shape ok (inr g) = (false, (trimmed pos g.0 g.2, rest (length (chain_of p pos))))
      by (Copies i c n) shape ok (inl free) = (true, record { holds = (clean pos free, head (told_has pos c (up_to w.packets (at_chain m p pos 0) p.epoch pos c (ok.2 0 ok.0)))); less = shape; few = rest_of (length (chain_of p pos)) n })
        where
          head : (cell_at (unit m w (at_chain m p pos 0)).cells pos ≡ Some c) ⊎ (pos < (unit m w (at_chain m p pos 0)).low) → cell_at (unit m w (at_chain m p pos 0)).cells pos ≡ Some c
          head (inl e) = e
          head (inr l) = absurd (both _ _ l (free 0 (some pos)))
            where
              both : (a b : ℕ) → a < b → nat_lt a b ≡ false → ⊥
              both a b l e = grind arith
      by (Copies i c n) shape ok (inr g) = (false, record { holds = told_held pos g.0 c (up_to w.packets (at_chain m p pos 0) p.epoch pos c (ok.2 0 ok.0)) g.2; less = shape; few = rest_of (length (chain_of p pos)) n })
      by (Puts i d n) shape ok f = absurd shape
      by (Probes ws) shape ok f = absurd shape

  answers_at : (pos : ℕ) (y : CellWork) → ReadShape (place_in p pos) y → WorkOk w.packets (place_in p pos) y → Answers m stopped w (works (place_in p pos) y)
  answers_at pos y shape ok =
      let s = stage_at pos y shape ok in
      let a = cell_ask m h stopped k p (longest_chain p) (λ u. (unit m w u).low) (length w.units) (net m w) (place_in p pos) s.0 y (need (length (chain_of p pos)) y) (stable pos) s.1 in
      record {
        unit = a.unit;
        rid = a.rid;
        says = a.says;
        is = a.is;
        on = a.on;
        answer = a.replies.says;
        told = a.replies.is;
        fares = work_fares m h stopped k p (longest_chain p) (λ u. (unit m w u).low) (length w.units) _ (place_in p pos) y s.0 a.replies.says a.replies.well;
      }

  -- of a job of this layout
  pub answers : (j : CellJob) (pos : ℕ) → j.place ≡ place_in p pos → ReadShape j.place j.work → WorkOk w.packets j.place j.work → Answers m stopped w j
  answers j pos e shape ok = subst (λ (a : Place). ReadShape a j.work → WorkOk w.packets a j.work → Answers m stopped w (works a j.work)) (sym e) (answers_at pos j.work) shape ok
