-- One cell that is read, and filled and carried down where it is unwritten. Where a unit of its chain has trimmed
-- it, each of the others still has the cell that is settled there.
use Rattle.std.proofs.Common.{◌≡◌, ◌⊎◌, ℕ, suc, ◌+◌, ◌-◌, ◌<◌, ◌≤◌, List, [], ◌∷◌, length, Bool, true, false, refl, ap, ◌∙◌, sym, subst, inl, inr, arith, Some, None, Option, eqb}
use Rattle.std.specs.Prelude.{nat_lt}
use Rattle.tg_base.specs.Layouts.{Layout}
use Rattle.tg_base.specs.Clusters.{Header}
use Rattle.tg_base.specs.declared.cell.Cell.{Cell}
use Rattle.tg_base.specs.declared.cell.Cell.TheVariants.{Junk}
use Rattle.tg_base.specs.declared.ids.NodeId.{NodeId}
use Rattle.tg_base.specs.declared.msg.Msg.{Msg}
use Rattle.tg_base.specs.declared.msg.Msg.TheVariants as msg
use Rattle.tg_base.specs.declared.packet.Out.{Out}
use Rattle.tg_kind.specs.Meaning.{Meaning}
use Rattle.tg_protocol.specs.Words.{cell_at, cell_eq, too_far, unit_id}
use Rattle.tg_protocol.specs.Units.{UnitState, UnitTurn, new_unit, says, at_cell, in_epoch, not_gone, on_read, unit_step, unit_ask, on_ask}
use Rattle.tg_protocol.specs.Requests.{out, Goes, Ends}
use Rattle.tg_protocol.specs.Replies.{IsGone, reply}
use Rattle.tg_protocol.specs.Cells.{Place, CellWork, Puts, Gets, Fills, Copies, Probes, Done, Gone, CellTurn, works, place_in, unit_at, last_unit, work_asks, work_feed, copy_on, end_if, fill_cell}
use Rattle.tg_law_finish.proofs.Finish.Nets.{Net, unit_of, on_in}
use Rattle.tg_law_finish.proofs.Finish.Others.{Keeps}
use Rattle.tg_law_finish.proofs.Finish.Lists.{set_there}
use Rattle.tg_law_finish.proofs.Finish.Stores.{Kept, Outcome, IsGone', IsHeld', IsTaken', Put, with_unit, unit_same, stores, equal_cell, cell_itself}
use Rattle.tg_law_finish.proofs.Finish.Places.{UnitServes, Serves, keeps_serves, puts_serves}
use Rattle.tg_law_finish.proofs.Finish.Appends.{is_latest, gone_near, unit_back, held_put}

pub two : {b : Bool} → b ≡ true → b ≡ false → ⊥
two e f = grind arith

pub one_cell : (x y : Cell) → Some x ≡ Some y → x ≡ y
one_cell x y e = cc

asked_num : (v u i r : ℕ) (x z : Msg) → out (unit_id v) i x ∷ [] ≡ out (unit_id u) r z ∷ [] → v ≡ u
asked_num v u i r x z e = ap (λ (o : Out). o.to.num) (one (out (unit_id v) i x) (out (unit_id u) r z) e)
  where
    one : (a b : Out) → a ∷ [] ≡ b ∷ [] → a ≡ b
    one a b e = cc

-- Of units that have trimmed so far.
module _ (m : Meaning) (h : Header) (stopped : List NodeId) (k : ℕ) (p : Layout) (longest : ℕ) (low_at : ℕ → ℕ) (many : ℕ) where
  pub record Stable (s : Net m) (pl : Place) : Type 0 where
    pub serves : Serves m h stopped k p longest s pl
    pub lows : (j : ℕ) → j < length pl.chain → (unit_of m s (unit_at pl j)).low ≡ low_at (unit_at pl j)
    pub few : (j : ℕ) → j < length pl.chain → unit_at pl j < many

  -- what a unit of the chain has the first one has
  abbrev pub BelowHead : Net m → Place → Type 0
  BelowHead s pl = (j : ℕ) (x : Cell) → j < length pl.chain → cell_at (unit_of m s (unit_at pl j)).cells pl.pos ≡ Some x → cell_at (unit_of m s (unit_at pl 0)).cells pl.pos ≡ Some x

  -- no unit of the chain has trimmed the position
  pub record Clean (s : Net m) (pl : Place) : Type 0 where
    pub free : (j : ℕ) → j < length pl.chain → nat_lt pl.pos (low_at (unit_at pl j)) ≡ false
    pub below : BelowHead s pl

  -- each unit has the cell, or has trimmed it
  abbrev pub Held : Net m → Place → Cell → Type 0
  Held s pl c = (j : ℕ) → j < length pl.chain → (cell_at (unit_of m s (unit_at pl j)).cells pl.pos ≡ Some c) ⊎ (nat_lt pl.pos (low_at (unit_at pl j)) ≡ true)

  pub record Trimmed (s : Net m) (pl : Place) : Type 0 where
    pub cell : Cell
    pub held : Held s pl cell

  pub record GoodAt (s : Net m) (pl : Place) : Type 0 where
    pub stable : Stable s pl
    pub sort : Clean s pl ⊎ Trimmed s pl

  -- all positions can be read
  abbrev pub Good : Net m → Type 0
  Good s = (n : ℕ) → GoodAt s (place_in p n)

  -- Whatever other packets do, it stays so.

  pub same_unit : (s t : Net m) (pl : Place) → Keeps m h stopped k p s t → Serves m h stopped k p longest s pl → (j : ℕ) → j < length pl.chain → unit_of m t (unit_at pl j) ≡ unit_of m s (unit_at pl j)
  same_unit s t pl keep x j less = keep.units (unit_at pl j) (x.unit j less).epoch

  pub stable_keeps : (s t : Net m) (pl : Place) → Keeps m h stopped k p s t → Stable s pl → Stable t pl
  stable_keeps s t pl keep x = record { serves = keeps_serves m h stopped k p longest s t pl keep x.serves; lows = λ j less. ap (λ u. u.low) (same_unit s t pl keep x.serves j less) ∙ x.lows j less; few = x.few }

  below_keeps : (s t : Net m) (pl : Place) → Keeps m h stopped k p s t → Serves m h stopped k p longest s pl → BelowHead s pl → BelowHead t pl
  below_keeps s t pl keep x below = λ j y less e. ap (λ u. cell_at u.cells pl.pos) (same_unit s t pl keep x 0 x.some) ∙ below j y less (sym (ap (λ u. cell_at u.cells pl.pos) (same_unit s t pl keep x j less)) ∙ e)

  pub clean_keeps : (s t : Net m) (pl : Place) → Keeps m h stopped k p s t → Serves m h stopped k p longest s pl → Clean s pl → Clean t pl
  clean_keeps s t pl keep x c = record { free = c.free; below = below_keeps s t pl keep x c.below }

  pub held_keeps : (s t : Net m) (pl : Place) (c : Cell) → Keeps m h stopped k p s t → Serves m h stopped k p longest s pl → Held s pl c → Held t pl c
  held_keeps s t pl c keep x held = λ j less. by j less (held j less)
    where
      by : (j : ℕ) → j < length pl.chain → (cell_at (unit_of m s (unit_at pl j)).cells pl.pos ≡ Some c) ⊎ (nat_lt pl.pos (low_at (unit_at pl j)) ≡ true)
          → (cell_at (unit_of m t (unit_at pl j)).cells pl.pos ≡ Some c) ⊎ (nat_lt pl.pos (low_at (unit_at pl j)) ≡ true)
      by j less (inl e) = inl (ap (λ u. cell_at u.cells pl.pos) (same_unit s t pl keep x j less) ∙ e)
      by j less (inr e) = inr e

  pub at_keeps : (s t : Net m) (pl : Place) → Keeps m h stopped k p s t → GoodAt s pl → GoodAt t pl
  at_keeps s t pl keep g = record { stable = stable_keeps s t pl keep g.stable; sort = by g.sort }
    where
      by : Clean s pl ⊎ Trimmed s pl → Clean t pl ⊎ Trimmed t pl
      by (inl c) = inl (clean_keeps s t pl keep g.stable.serves c)
      by (inr x) = inr (record { cell = x.cell; held = held_keeps s t pl x.cell keep g.stable.serves x.held })

  pub good_keeps : (s t : Net m) → Keeps m h stopped k p s t → Good s → Good t
  good_keeps s t keep good = λ n. at_keeps s t (place_in p n) keep (good n)

  -- or where the units of the chain are as they were
  pub at_same : (s t : Net m) (pl : Place) → ((n : NodeId) → on_in m stopped t n ≡ on_in m stopped s n) → ((j : ℕ) → j < length pl.chain → unit_of m t (unit_at pl j) ≡ unit_of m s (unit_at pl j)) → GoodAt s pl → GoodAt t pl
  at_same s t pl on same g = record {
    stable = record {
      serves = record { epoch = g.stable.serves.epoch; some = g.stable.serves.some; short = g.stable.serves.short; unit = λ j less. serving j less (g.stable.serves.unit j less) };
      lows = λ j less. ap (λ u. u.low) (same j less) ∙ g.stable.lows j less;
      few = g.stable.few;
    };
    sort = by g.sort;
  }
    where
      serving : (j : ℕ) → j < length pl.chain → UnitServes m h stopped k p longest s (unit_at pl j) → UnitServes m h stopped k p longest t (unit_at pl j)
      serving j less a = record { on = on (unit_id (unit_at pl j)) ∙ a.on; epoch = ap (λ u. u.epoch) (same j less) ∙ a.epoch; low = ap (λ u. too_far u.low) (same j less) ∙ a.low }

      of : (c : Cell) (j : ℕ) → j < length pl.chain → (cell_at (unit_of m s (unit_at pl j)).cells pl.pos ≡ Some c) ⊎ (nat_lt pl.pos (low_at (unit_at pl j)) ≡ true)
          → (cell_at (unit_of m t (unit_at pl j)).cells pl.pos ≡ Some c) ⊎ (nat_lt pl.pos (low_at (unit_at pl j)) ≡ true)
      of c j less (inl e) = inl (ap (λ u. cell_at u.cells pl.pos) (same j less) ∙ e)
      of c j less (inr e) = inr e

      by : Clean s pl ⊎ Trimmed s pl → Clean t pl ⊎ Trimmed t pl
      by (inl c) = inl (record { free = c.free; below = λ j x less e. ap (λ u. cell_at u.cells pl.pos) (same 0 g.stable.serves.some) ∙ c.below j x less (sym (ap (λ u. cell_at u.cells pl.pos) (same j less)) ∙ e) })
      by (inr x) = inr (record { cell = x.cell; held = λ j less. of x.cell j less (x.held j less) })

  -- A store of one cell.

  pub stable_put : (s t : Net m) (pl : Place) (pos : ℕ) (c : Cell) → Put m stopped s t pos c → Stable s pl → Stable t pl
  stable_put s t pl pos c put x = record { serves = puts_serves m h stopped k p longest s t pos c pl put x.serves; lows = λ j less. put.lows (unit_at pl j) ∙ x.lows j less; few = x.few }

  -- what the first one has now
  pub below_put : (s t : Net m) (pl : Place) (c : Cell) → Put m stopped s t pl.pos c → (BelowHead s pl → cell_at (unit_of m t (unit_at pl 0)).cells pl.pos ≡ Some c) → BelowHead s pl → BelowHead t pl
  below_put s t pl c put has below = λ j x less e. by j x less (put.here (unit_at pl j) x e)
    where
      by : (j : ℕ) (x : Cell) → j < length pl.chain → (cell_eq x c ≡ true) ⊎ (cell_at (unit_of m s (unit_at pl j)).cells pl.pos ≡ Some x) → cell_at (unit_of m t (unit_at pl 0)).cells pl.pos ≡ Some x
      by j x less (inl e) = has below ∙ ap (λ y. Some y) (sym (equal_cell x c e))
      by j x less (inr e) = put.stays (unit_at pl 0) x (below j x less e)

  pub held_stays : (s t : Net m) (pl : Place) (d c : Cell) → Put m stopped s t pl.pos d → Held s pl c → Held t pl c
  held_stays s t pl d c put held = λ j less. by j (held j less)
    where
      by : (j : ℕ) → (cell_at (unit_of m s (unit_at pl j)).cells pl.pos ≡ Some c) ⊎ (nat_lt pl.pos (low_at (unit_at pl j)) ≡ true)
          → (cell_at (unit_of m t (unit_at pl j)).cells pl.pos ≡ Some c) ⊎ (nat_lt pl.pos (low_at (unit_at pl j)) ≡ true)
      by j (inl e) = inl (put.stays (unit_at pl j) c e)
      by j (inr e) = inr e

  pub good_here : (s t : Net m) (pl : Place) (c : Cell) → Put m stopped s t pl.pos c → (BelowHead s pl → BelowHead t pl) → GoodAt s pl → GoodAt t pl
  good_here s t pl c put below g = record { stable = stable_put s t pl pl.pos c put g.stable; sort = by g.sort }
    where
      by : Clean s pl ⊎ Trimmed s pl → Clean t pl ⊎ Trimmed t pl
      by (inl x) = inl (record { free = x.free; below = below x.below })
      by (inr x) = inr (record { cell = x.cell; held = held_stays s t pl c x.cell put x.held })

  -- another position is read as before
  good_other : (s t : Net m) (pos : ℕ) (c : Cell) (n : ℕ) → Put m stopped s t pos c → eqb n pos ≡ false → GoodAt s (place_in p n) → GoodAt t (place_in p n)
  good_other s t pos c n put off g = record { stable = stable_put s t (place_in p n) pos c put g.stable; sort = by g.sort }
    where
      held : (d : Cell) (j : ℕ) → (cell_at (unit_of m s (unit_at (place_in p n) j)).cells n ≡ Some d) ⊎ (nat_lt n (low_at (unit_at (place_in p n) j)) ≡ true)
          → (cell_at (unit_of m t (unit_at (place_in p n) j)).cells n ≡ Some d) ⊎ (nat_lt n (low_at (unit_at (place_in p n) j)) ≡ true)
      held d j (inl e) = inl (put.others (unit_at (place_in p n) j) n off ∙ e)
      held d j (inr e) = inr e

      by : Clean s (place_in p n) ⊎ Trimmed s (place_in p n) → Clean t (place_in p n) ⊎ Trimmed t (place_in p n)
      by (inl x) = inl (record { free = x.free; below = λ j y less e. put.others _ n off ∙ x.below j y less (sym (put.others (unit_at (place_in p n) j) n off) ∙ e) })
      by (inr x) = inr (record { cell = x.cell; held = λ j less. held x.cell j (x.held j less) })

  pub good_at_put : (s t : Net m) (pl : Place) (c : Cell) (n : ℕ) → pl ≡ place_in p pl.pos → Put m stopped s t pl.pos c → (GoodAt s pl → GoodAt t pl) → GoodAt s (place_in p pl.pos) → GoodAt s (place_in p n) → GoodAt t (place_in p n)
  good_at_put s t pl c n e put here own other = by (eqb n pl.pos) refl
    where
      same : (a b : ℕ) → eqb a b ≡ true → a ≡ b
      same a b e = grind arith

      by : (b : Bool) → eqb n pl.pos ≡ b → GoodAt t (place_in p n)
      by true is = subst (λ (q : ℕ). GoodAt t (place_in p q)) (sym (same n pl.pos is)) (subst (λ (x : Place). GoodAt t x) e (here (subst (λ (x : Place). GoodAt s x) (sym e) own)))
      by false off = good_other s t pl.pos c n put off other

  pub good_put : (s t : Net m) (pl : Place) (c : Cell) → pl ≡ place_in p pl.pos → Put m stopped s t pl.pos c → (GoodAt s pl → GoodAt t pl) → Good s → Good t
  good_put s t pl c e put here good = λ n. good_at_put s t pl c n e put here (good pl.pos) (good n)

  -- Where a job stands: of a position that no unit has trimmed, or of one that some may have.

  abbrev pub Carries : Net m → Place → Bool → Cell → Type 0
  Carries s pl true c = Clean s pl × (cell_at (unit_of m s (unit_at pl 0)).cells pl.pos ≡ Some c)
  Carries s pl false c = Held s pl c

  abbrev pub Sort : Net m → Place → Bool → Type 0
  Sort s pl true = Clean s pl
  Sort s pl false = Trimmed s pl

  pub record Carrying (s : Net m) (pl : Place) (b : Bool) (c : Cell) (i n : ℕ) : Type 0 where
    pub holds : Carries s pl b c
    pub less : i < length pl.chain
    pub few : length pl.chain ≤ n + suc i

  -- a position that was trimmed is read by one request
  abbrev pub ReadRoom : Bool → ℕ → ℕ → Type 0
  ReadRoom true long n = long ≤ n
  ReadRoom false long n = Unit {0}

  abbrev pub CellStage : Net m → Place → Bool → CellWork → ℕ → Type 0
  CellStage s pl b (Gets r) n = Sort s pl b × ReadRoom b (length pl.chain) n
  CellStage s pl b (Fills r) n = Sort s pl b × (length pl.chain ≤ n + 1)
  CellStage s pl b (Copies r c i) n = Carrying s pl b c i n
  CellStage s pl b _ n = ⊥

  -- it asks a unit of the chain
  pub asks_chain : (s : Net m) (pl : Place) (b : Bool) (y : CellWork) (n u r : ℕ) (z : Msg) → 0 < length pl.chain → CellStage s pl b y n → work_asks pl y ≡ out (unit_id u) r z ∷ [] → (j : ℕ) × (j < length pl.chain) × (u ≡ unit_at pl j)
  unfolding work_asks
  asks_chain s pl b (Gets i) n u r z some x e = (length pl.chain - 1, omega (arith, some), sym (asked_num (last_unit pl) u i r _ z e))
  asks_chain s pl b (Fills i) n u r z some x e = (0, some, sym (asked_num (unit_at pl 0) u i r _ z e))
  asks_chain s pl b (Copies i c j) n u r z some x e = (j, x.less, sym (asked_num (unit_at pl j) u i r _ z e))
  asks_chain s pl b (Puts i d j) n u r z some x e = absurd x
  asks_chain s pl b (Probes ws) n u r z some x e = absurd x

  -- an answer that ends the job with the cell, or with a trim, or makes it go on by one request
  pub data CellWell (t : Net m) (pl : Place) (b : Bool) (n next : ℕ) : CellTurn → Type 0 where
    CellDone : (c : Cell) → CellWell t pl b n next (record { next = next; besides = []; gone = 0; to = Ends (Done c) })
    CellGoes : (w : CellWork) (u : ℕ) (y : Msg) (left : ℕ) → work_asks pl w ≡ out (unit_id u) next y ∷ [] → CellStage t pl b w left → left + 1 ≤ n → CellWell t pl b n next (record { next = next + 1; besides = []; gone = 0; to = Goes (works pl w) })
    CellGone : (u g : ℕ) → b ≡ false → u < many → g ≡ low_at u → nat_lt pl.pos g ≡ true → CellWell t pl b n next (record { next = next; besides = []; gone = 0; to = Ends (Gone g) })

  pub record CellReplies (s : Net m) (u : ℕ) (tu : UnitTurn) (pl : Place) (b : Bool) (w : CellWork) (n : ℕ) : Type 0 where
    pub says : Msg
    pub is : tu.says ≡ Some says
    pub stored : Cell
    pub put : Put m stopped s (with_unit m stopped s u tu.now) pl.pos stored
    pub good : GoodAt s pl → GoodAt (with_unit m stopped s u tu.now) pl
    pub no_latest : is_latest (reply says) ≡ false
    pub well : (v next : ℕ) → CellWell (with_unit m stopped s u tu.now) pl b n next (work_feed (works pl w) w v (reply says) next)

  carry_well : (t : Net m) (pl : Place) (b : Bool) (c : Cell) (i n next : ℕ) (d : Bool) → nat_lt i (length pl.chain) ≡ d → Carries t pl b c → length pl.chain ≤ n + i → CellWell t pl b n next (copy_on pl c i next d)
  unfolding work_asks
  carry_well t pl b c i n next true e holds few = CellGoes (Copies next c i) (unit_at pl i) _ (n - 1) refl (record { holds = holds; less = below i (length pl.chain) e; few = low (length pl.chain) n i few (below i (length pl.chain) e) }) (pos (length pl.chain) n i few (below i (length pl.chain) e))
    where
      below : (a b : ℕ) → nat_lt a b ≡ true → a < b
      below a b e = grind arith

      low : (len n i : ℕ) → len ≤ n + i → i < len → len ≤ (n - 1) + suc i
      low len n i a b = omega (arith, a, b)

      pos : (len n i : ℕ) → len ≤ n + i → i < len → (n - 1) + 1 ≤ n
      pos len n i a b = omega (arith, a, b)
  carry_well t pl b c i n next false e holds few = CellDone c

  -- A unit of the chain says that the position is gone.

  past : (s : Net m) (pl : Place) (j : ℕ) → Stable s pl → j < length pl.chain → nat_lt pl.pos (unit_of m s (unit_at pl j)).low ≡ true → nat_lt pl.pos (low_at (unit_at pl j)) ≡ true
  past s pl j x less e = ap (λ n. nat_lt pl.pos n) (sym (x.lows j less)) ∙ e

  gone_says : (s : Net m) (pl : Place) (j : ℕ) (w : CellWork) (n : ℕ) → Stable s pl → j < length pl.chain → nat_lt pl.pos (unit_of m s (unit_at pl j)).low ≡ true
      → ((v b next : ℕ) → work_feed (works pl w) w v (IsGone b) next ≡ end_if (nat_lt pl.pos b) (works pl w) next (Gone b))
      → CellReplies s (unit_at pl j) (says (unit_of m s (unit_at pl j)) (msg.Gone (unit_of m s (unit_at pl j)).low)) pl false w n
  unfolding is_latest
  gone_says s pl j w n x less trimmed feeds =
      let u = unit_at pl j in
      let low = (unit_of m s u).low in
      let near = gone_near m h stopped k p longest low (x.serves.unit j less).low in
      let put = unit_same m stopped s u pl.pos Junk in
      let t = with_unit m stopped s u (unit_of m s u) in
      record {
        says = _;
        is = refl;
        stored = Junk;
        put = put;
        good = good_here s _ pl Junk put (λ below i y l e. put.stays (unit_at pl 0) y (below i y l (unit_back m h stopped k p longest s u pl.pos (unit_at pl i) y e)));
        no_latest = ap is_latest near;
        well = λ v next. subst (λ r. CellWell t pl false n next (work_feed (works pl w) w v r next)) (sym near) (subst (λ (x : CellTurn). CellWell t pl false n next x) (sym (feeds v low next))
            (subst (λ b. CellWell t pl false n next (end_if b (works pl w) next (Gone low))) (sym trimmed) (CellGone u low refl (x.few j less) (x.lows j less) trimmed)));
      }

  never_gone : (s : Net m) (pl : Place) (j : ℕ) → Stable s pl → Clean s pl → j < length pl.chain → nat_lt pl.pos (unit_of m s (unit_at pl j)).low ≡ true → ⊥
  never_gone s pl j x c less e = two (past s pl j x less e) (c.free j less)

  -- what unit j has that hasn't trimmed it
  pub untrimmed : (s : Net m) (pl : Place) (j : ℕ) (c : Cell) → Stable s pl → Held s pl c → j < length pl.chain → nat_lt pl.pos (unit_of m s (unit_at pl j)).low ≡ false → cell_at (unit_of m s (unit_at pl j)).cells pl.pos ≡ Some c
  untrimmed s pl j c x held less low = by (held j less)
    where
      by : (cell_at (unit_of m s (unit_at pl j)).cells pl.pos ≡ Some c) ⊎ (nat_lt pl.pos (low_at (unit_at pl j)) ≡ true) → cell_at (unit_of m s (unit_at pl j)).cells pl.pos ≡ Some c
      by (inl e) = e
      by (inr e) = absurd (two (ap (λ n. nat_lt pl.pos n) (x.lows j less) ∙ e) low)

  unit_there : (s : Net m) (u : ℕ) → on_in m stopped s (unit_id u) ≡ true → u < length s.units
  unit_there s u e = grind arith

  -- the unit at which it was stored has it
  pub stored_there : (s : Net m) (u : ℕ) (t : UnitState) (pos : ℕ) (c : Cell) → on_in m stopped s (unit_id u) ≡ true → cell_at t.cells pos ≡ Some c → cell_at (unit_of m (with_unit m stopped s u t) u).cells pos ≡ Some c
  stored_there s u t pos c on e = ap (λ y. cell_at y.cells pos) (set_there s.units u t new_unit (unit_there s u on)) ∙ e

  pub clean_same : (s : Net m) (pl : Place) (u : ℕ) → Clean s pl → Clean (with_unit m stopped s u (unit_of m s u)) pl
  clean_same s pl u x = let put = unit_same m stopped s u pl.pos Junk in record { free = x.free; below = λ j y less e. put.stays (unit_at pl 0) y (x.below j y less (unit_back m h stopped k p longest s u pl.pos (unit_at pl j) y e)) }

  -- A fill of the first unit.

  fill_held : (s : Net m) (pl : Place) (r n : ℕ) (b : Bool) (t : UnitState) → Stable s pl → length pl.chain ≤ n + 1 → Kept (unit_of m s (unit_at pl 0)) t pl.pos Junk → ((x : Cell) → cell_at t.cells pl.pos ≡ Some x → cell_eq x Junk ≡ true)
      → cell_at t.cells pl.pos ≡ Some Junk → (BelowHead s pl → BelowHead (with_unit m stopped s (unit_at pl 0) t) pl) → Carries (with_unit m stopped s (unit_at pl 0) t) pl b Junk → CellReplies s (unit_at pl 0) (record { now = t; says = Some msg.Held }) pl b (Fills r) n
  unfolding work_feed reply is_latest
  fill_held s pl r n b t x few kept here same below holds =
      let put = held_put m h stopped k p longest s (unit_at pl 0) t pl.pos Junk kept here in
      record { says = _; is = refl; stored = Junk; put = put; good = good_here s _ pl Junk put below; no_latest = refl; well = λ v next. carry_well _ pl b Junk 1 n next (nat_lt 1 (length pl.chain)) refl holds few }

  fill_taken : (s : Net m) (pl : Place) (r n : ℕ) (b : Bool) (c : Cell) → length pl.chain ≤ n + 1 → Carries (with_unit m stopped s (unit_at pl 0) (unit_of m s (unit_at pl 0))) pl b c
      → CellReplies s (unit_at pl 0) (says (unit_of m s (unit_at pl 0)) (msg.Taken c)) pl b (Fills r) n
  unfolding work_feed reply is_latest
  fill_taken s pl r n b c few holds =
      let u = unit_at pl 0 in
      let put = unit_same m stopped s u pl.pos Junk in
      record {
        says = _;
        is = refl;
        stored = Junk;
        put = put;
        good = good_here s _ pl Junk put (λ below i y l e. put.stays (unit_at pl 0) y (below i y l (unit_back m h stopped k p longest s u pl.pos (unit_at pl i) y e)));
        no_latest = refl;
        well = λ v next. carry_well _ pl b c 1 n next (nat_lt 1 (length pl.chain)) refl holds few;
      }

  head_below : (s : Net m) (pl : Place) (t : UnitState) → Stable s pl → Kept (unit_of m s (unit_at pl 0)) t pl.pos Junk → ((x : Cell) → cell_at t.cells pl.pos ≡ Some x → cell_eq x Junk ≡ true) → cell_at t.cells pl.pos ≡ Some Junk
      → BelowHead s pl → BelowHead (with_unit m stopped s (unit_at pl 0) t) pl
  head_below s pl t x kept here same = below_put s _ pl Junk (held_put m h stopped k p longest s (unit_at pl 0) t pl.pos Junk kept here) (λ below. stored_there s (unit_at pl 0) t pl.pos Junk (x.serves.unit 0 x.serves.some).on same)

  fill_gone : (pl : Place) (r v b next : ℕ) → work_feed (works pl (Fills r)) (Fills r) v (IsGone b) next ≡ end_if (nat_lt pl.pos b) (works pl (Fills r)) next (Gone b)
  unfolding work_feed
  fill_gone pl r v b next = refl

  fill_replies : (s : Net m) (pl : Place) (r n : ℕ) (b : Bool) → Stable s pl → Sort s pl b → length pl.chain ≤ n + 1 → (tu : UnitTurn) → Outcome (unit_of m s (unit_at pl 0)) pl.pos Junk tu → CellReplies s (unit_at pl 0) tu pl b (Fills r) n
  fill_replies s pl r n true x c few tu (IsGone' trimmed) = absurd (never_gone s pl 0 x c x.serves.some trimmed)
  fill_replies s pl r n true x c few tu (IsHeld' t kept here low same) =
      let below = head_below s pl t x kept here same in
      fill_held s pl r n true t x few kept here same below (record { free = c.free; below = below c.below }, stored_there s (unit_at pl 0) t pl.pos Junk (x.serves.unit 0 x.serves.some).on same)
  fill_replies s pl r n true x c few tu (IsTaken' y e differs low) = fill_taken s pl r n true y few (clean_same s pl (unit_at pl 0) c, (unit_same m stopped s (unit_at pl 0) pl.pos Junk).stays (unit_at pl 0) y e)
  fill_replies s pl r n false x c few tu (IsGone' trimmed) = gone_says s pl 0 (Fills r) n x x.serves.some trimmed (λ v b next. fill_gone pl r v b next)
  fill_replies s pl r n false x c few tu (IsHeld' t kept here low same) =
      let put = held_put m h stopped k p longest s (unit_at pl 0) t pl.pos Junk kept here in
      let is = one_cell c.cell Junk (sym (kept.stays c.cell (untrimmed s pl 0 c.cell x c.held x.serves.some low)) ∙ same) in
      fill_held s pl r n false t x few kept here same (head_below s pl t x kept here same) (subst (λ (d : Cell). Held (with_unit m stopped s (unit_at pl 0) t) pl d) is (held_stays s _ pl Junk c.cell put c.held))
  fill_replies s pl r n false x c few tu (IsTaken' y e differs low) =
      let put = unit_same m stopped s (unit_at pl 0) pl.pos Junk in
      let is = one_cell c.cell y (sym (untrimmed s pl 0 c.cell x c.held x.serves.some low) ∙ e) in
      fill_taken s pl r n false y few (subst (λ (d : Cell). Held (with_unit m stopped s (unit_at pl 0) (unit_of m s (unit_at pl 0))) pl d) is (held_stays s _ pl Junk c.cell put c.held))

  -- A copy at a unit below.

  copy_held : (s : Net m) (pl : Place) (r : ℕ) (c : Cell) (i n : ℕ) (b : Bool) (t : UnitState) → length pl.chain ≤ n + suc i → Kept (unit_of m s (unit_at pl i)) t pl.pos c → ((x : Cell) → cell_at t.cells pl.pos ≡ Some x → cell_eq x c ≡ true)
      → (BelowHead s pl → BelowHead (with_unit m stopped s (unit_at pl i) t) pl) → Carries (with_unit m stopped s (unit_at pl i) t) pl b c → CellReplies s (unit_at pl i) (record { now = t; says = Some msg.Held }) pl b (Copies r c i) n
  unfolding work_feed reply is_latest
  copy_held s pl r c i n b t few kept here below holds =
      let put = held_put m h stopped k p longest s (unit_at pl i) t pl.pos c kept here in
      record { says = _; is = refl; stored = c; put = put; good = good_here s _ pl c put below; no_latest = refl; well = λ v next. carry_well _ pl b c (i + 1) n next (nat_lt (i + 1) (length pl.chain)) refl holds (omega (arith, few)) }

  copy_gone : (pl : Place) (c : Cell) (i r v b next : ℕ) → work_feed (works pl (Copies r c i)) (Copies r c i) v (IsGone b) next ≡ end_if (nat_lt pl.pos b) (works pl (Copies r c i)) next (Gone b)
  unfolding work_feed
  copy_gone pl c i r v b next = refl

  copy_replies : (s : Net m) (pl : Place) (r : ℕ) (c : Cell) (i n : ℕ) (b : Bool) → Stable s pl → Carries s pl b c → i < length pl.chain → length pl.chain ≤ n + suc i → (tu : UnitTurn) → Outcome (unit_of m s (unit_at pl i)) pl.pos c tu → CellReplies s (unit_at pl i) tu pl b (Copies r c i) n
  copy_replies s pl r c i n true x holds less few tu (IsGone' trimmed) = absurd (never_gone s pl i x holds.0 less trimmed)
  copy_replies s pl r c i n true x holds less few tu (IsHeld' t kept here low same) =
      let put = held_put m h stopped k p longest s (unit_at pl i) t pl.pos c kept here in
      let has = put.stays (unit_at pl 0) c holds.1 in
      let below = below_put s _ pl c put (λ f. has) in
      copy_held s pl r c i n true t few kept here below (record { free = holds.0.free; below = below holds.0.below }, has)
  copy_replies s pl r c i n true x holds less few tu (IsTaken' y e differs low) =
      let is = one_cell y c (sym (holds.0.below i y less e) ∙ holds.1) in
      absurd (two (subst (λ (z : Cell). cell_eq z c ≡ true) (sym is) (cell_itself c)) differs)
  copy_replies s pl r c i n false x held less few tu (IsGone' trimmed) = gone_says s pl i (Copies r c i) n x less trimmed (λ v b next. copy_gone pl c i r v b next)
  copy_replies s pl r c i n false x held less few tu (IsHeld' t kept here low same) =
      let put = held_put m h stopped k p longest s (unit_at pl i) t pl.pos c kept here in
      let has = untrimmed s pl i c x held less low in
      copy_held s pl r c i n false t few kept here (below_put s _ pl c put (λ below. put.stays (unit_at pl 0) c (below i c less has))) (held_stays s _ pl c c put held)
  copy_replies s pl r c i n false x held less few tu (IsTaken' y e differs low) =
      let is = one_cell y c (sym e ∙ untrimmed s pl i c x held less low) in
      absurd (two (subst (λ (z : Cell). cell_eq z c ≡ true) (sym is) (cell_itself c)) differs)

  -- The last unit of a chain is read.

  read_by : (s : UnitState) (e pos : ℕ) (t : UnitTurn) → s.epoch ≡ e → at_cell s e pos t ≡ not_gone (nat_lt pos s.low) s t
  read_by s e pos t same = ap (λ b. in_epoch b s (not_gone (nat_lt pos s.low) s t)) (tested s.epoch e same)
    where
      tested : (a b : ℕ) → a ≡ b → eqb a b ≡ true
      tested a b e = grind arith

  get_taken : (s : Net m) (pl : Place) (r n u : ℕ) (b : Bool) (c : Cell) → CellReplies s u (says (unit_of m s u) (msg.Taken c)) pl b (Gets r) n
  unfolding work_feed reply is_latest
  get_taken s pl r n u b c =
      let put = unit_same m stopped s u pl.pos Junk in
      record {
        says = _;
        is = refl;
        stored = Junk;
        put = put;
        good = good_here s _ pl Junk put (λ below i y l e. put.stays (unit_at pl 0) y (below i y l (unit_back m h stopped k p longest s u pl.pos (unit_at pl i) y e)));
        no_latest = refl;
        well = λ v next. CellDone c;
      }

  get_unwritten : (s : Net m) (pl : Place) (r n u : ℕ) (b : Bool) → 0 < length pl.chain → length pl.chain ≤ n → Sort (with_unit m stopped s u (unit_of m s u)) pl b → CellReplies s u (says (unit_of m s u) msg.Unwritten) pl b (Gets r) n
  unfolding work_feed reply is_latest fill_cell work_asks
  get_unwritten s pl r n u b one few sort =
      let put = unit_same m stopped s u pl.pos Junk in
      record {
        says = _;
        is = refl;
        stored = Junk;
        put = put;
        good = good_here s _ pl Junk put (λ below i y l e. put.stays (unit_at pl 0) y (below i y l (unit_back m h stopped k p longest s u pl.pos (unit_at pl i) y e)));
        no_latest = refl;
        well = λ v next. CellGoes (Fills next) (unit_at pl 0) _ (n - 1) refl (sort, omega (arith, few, one)) (omega (arith, few, one));
      }

  get_gone : (pl : Place) (r v b next : ℕ) → work_feed (works pl (Gets r)) (Gets r) v (IsGone b) next ≡ end_if (nat_lt pl.pos b) (works pl (Gets r)) next (Gone b)
  unfolding work_feed
  get_gone pl r v b next = refl

  get_replies : (s : Net m) (pl : Place) (r n j : ℕ) (b d : Bool) (o : Option Cell) → cell_at (unit_of m s (unit_at pl j)).cells pl.pos ≡ o → Stable s pl → Sort s pl b → j < length pl.chain → ReadRoom b (length pl.chain) n → nat_lt pl.pos (unit_of m s (unit_at pl j)).low ≡ d
      → CellReplies s (unit_at pl j) (not_gone d (unit_of m s (unit_at pl j)) (on_read (unit_of m s (unit_at pl j)) o)) pl b (Gets r) n
  get_replies s pl r n j true true o e x c less few low = absurd (never_gone s pl j x c less low)
  get_replies s pl r n j true false None e x c less few low = get_unwritten s pl r n (unit_at pl j) true x.serves.some few (clean_same s pl (unit_at pl j) c)
  get_replies s pl r n j true false (Some y) e x c less few low = get_taken s pl r n (unit_at pl j) true y
  get_replies s pl r n j false true o e x c less few low = gone_says s pl j (Gets r) n x less low (λ v b next. get_gone pl r v b next)
  get_replies s pl r n j false false None e x c less few low = absurd (none_some (sym e ∙ untrimmed s pl j c.cell x c.held less low))
    where
      none_some : {y : Cell} → None ≡ Some y → ⊥
      none_some e = cc
  get_replies s pl r n j false false (Some y) e x c less few low = get_taken s pl r n (unit_at pl j) false y

  -- Whatever other packets do.

  pub sort_keeps : (s t : Net m) (pl : Place) (b : Bool) → Keeps m h stopped k p s t → Stable s pl → Sort s pl b → Sort t pl b
  sort_keeps s t pl true keep x c = clean_keeps s t pl keep x.serves c
  sort_keeps s t pl false keep x c = record { cell = c.cell; held = held_keeps s t pl c.cell keep x.serves c.held }

  pub carries_keeps : (s t : Net m) (pl : Place) (b : Bool) (c : Cell) → Keeps m h stopped k p s t → Stable s pl → Carries s pl b c → Carries t pl b c
  carries_keeps s t pl true c keep x holds = (clean_keeps s t pl keep x.serves holds.0, ap (λ u. cell_at u.cells pl.pos) (same_unit s t pl keep x.serves 0 x.serves.some) ∙ holds.1)
  carries_keeps s t pl false c keep x holds = held_keeps s t pl c keep x.serves holds

  pub cell_keeps : (s t : Net m) (pl : Place) (b : Bool) (y : CellWork) (n : ℕ) → Keeps m h stopped k p s t → Stable s pl → CellStage s pl b y n → CellStage t pl b y n
  cell_keeps s t pl b (Gets r) n keep st x = (sort_keeps s t pl b keep st x.0, x.1)
  cell_keeps s t pl b (Fills r) n keep st x = (sort_keeps s t pl b keep st x.0, x.1)
  cell_keeps s t pl b (Copies r c i) n keep st x = record { holds = carries_keeps s t pl b c keep st x.holds; less = x.less; few = x.few }
  cell_keeps s t pl b (Puts r d i) n keep st x = absurd x
  cell_keeps s t pl b (Probes ws) n keep st x = absurd x

  -- The request of a cell job, and what its unit makes of it.
  pub record CellAsk (s : Net m) (pl : Place) (b : Bool) (y : CellWork) (n : ℕ) : Type 0 where
    pub unit : ℕ
    pub rid : ℕ
    pub says : Msg
    pub is : work_asks pl y ≡ out (unit_id unit) rid says ∷ []
    pub on : on_in m stopped s (unit_id unit) ≡ true
    pub replies : CellReplies s unit (unit_step (unit_of m s unit) says) pl b y n

  pub cell_ask : (s : Net m) (pl : Place) (b : Bool) (y : CellWork) (n : ℕ) → Stable s pl → CellStage s pl b y n → CellAsk s pl b y n
  unfolding work_asks unit_step unit_ask on_ask
  cell_ask s pl b (Gets r) n st x =
      let one = st.serves.some in
      let j = length pl.chain - 1 in
      let less : j < length pl.chain = omega (arith, one) in
      let last = st.serves.unit j less in
      let u = unit_at pl j in
      record {
        unit = u;
        rid = r;
        says = msg.Read pl.epoch pl.pos;
        is = refl;
        on = last.on;
        replies = subst (λ (t : UnitTurn). CellReplies s u t pl b (Gets r) n) (sym (read_by (unit_of m s u) pl.epoch pl.pos _ (last.epoch ∙ sym st.serves.epoch)))
            (get_replies s pl r n j b (nat_lt pl.pos (unit_of m s u).low) (cell_at (unit_of m s u).cells pl.pos) refl st x.0 less x.1 refl);
      }
  cell_ask s pl b (Fills r) n st x =
      let u = unit_at pl 0 in
      let head = st.serves.unit 0 st.serves.some in
      record { unit = u; rid = r; says = msg.Fill pl.epoch pl.pos; is = refl; on = head.on; replies = fill_replies s pl r n b st x.0 x.1 _ (stores (unit_of m s u) pl.epoch pl.pos Junk (head.epoch ∙ sym st.serves.epoch)) }
  cell_ask s pl b (Copies r c i) n st x =
      let u = unit_at pl i in
      let at = st.serves.unit i x.less in
      record { unit = u; rid = r; says = msg.Copy pl.epoch pl.pos c; is = refl; on = at.on; replies = copy_replies s pl r c i n b st x.holds x.less x.few _ (stores (unit_of m s u) pl.epoch pl.pos c (at.epoch ∙ sym st.serves.epoch)) }
  cell_ask s pl b (Puts r d i) n st x = absurd x
  cell_ask s pl b (Probes ws) n st x = absurd x
