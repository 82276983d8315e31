-- A client that syncs and walks: what its nodes answer, where it stands then, and how many requests it may still send.
use Rattle.std.proofs.Common.{◌≡◌, ◌⊎◌, ℕ, zero, suc, ◌+◌, ◌-◌, ◌<◌, ◌≤◌, List, [], ◌∷◌, length, Bool, true, false, refl, ap, ◌∙◌, sym, subst, inl, inr, arith, Some, None, Option, eqb}
use Rattle.std.specs.Prelude.{nat_lt, ⊤}
use Rattle.tg_base.specs.Layouts.{Layout}
use Rattle.tg_base.specs.Clusters.{Header}
use Rattle.tg_base.specs.declared.cell.Cell.{Cell}
use Rattle.tg_base.specs.declared.ids.NodeId.{NodeId}
use Rattle.tg_base.specs.declared.ids.Oid.{Oid}
use Rattle.tg_base.specs.declared.msg.Msg.{Msg}
use Rattle.tg_entry.specs.declared.entry.Entry.{Entry}
use Rattle.tg_kind.specs.Meaning.{Meaning}
use Rattle.tg_protocol.specs.Words.{with_cell, too_far, unit_id, seqr_id}
use Rattle.tg_protocol.specs.Entries.{link_of, backs_of}
use Rattle.tg_protocol.specs.Sequencers.{SeqrState, scanning, links_of}
use Rattle.tg_protocol.specs.Appending.{names_all}
use Rattle.tg_protocol.specs.Requests.{out, waits_for, Goes, Ends}
use Rattle.tg_protocol.specs.Cells.{CellWork, Fills, Probes, CellJob, CellTurn, Place, place_in, works, work_asks, fill_cell, probe}
use Rattle.tg_protocol.specs.Walking.{Walk, WalkTurn, walk_members, with_job, walk_turn, read_at}
use Rattle.tg_protocol.specs.Syncing.{Answer, Sync, SyncWork, Checking, Settling, Probing, SyncTurn, settle_turn, confirmed, on_tail, confirm_by}
use Rattle.tg_law_finish.proofs.Finish.Counted.{one_if}
use Rattle.tg_law_finish.proofs.Finish.Lists.{Each}
use Rattle.tg_law_finish.proofs.Finish.Nets.{Net, seqr_of, on_in, on_alike}
use Rattle.tg_law_finish.proofs.Finish.Others.{Keeps}
use Rattle.tg_law_finish.proofs.Finish.Stores.{Put}
use Rattle.tg_law_finish.proofs.Finish.Places.{CanIssue, AllServe, keeps_unit, keeps_issue, puts_unit, puts_issue}
use Rattle.tg_law_finish.proofs.Finish.Readings.{Stable, Clean, Trimmed, GoodAt, Good, Sort, CellStage, CellWell, CellDone, CellGoes, CellGone, good_keeps, good_put}
use Rattle.tg_law_finish.proofs.Finish.Trails.{unknown, unknown_less, Low, TrailLow, Walked, walk_goes, visit_low}

-- no unit stands twice
abbrev pub Distinct : List ℕ → Type 0
Distinct [] = ⊤
Distinct (x ∷ xs) = Each (λ y. eqb y x ≡ false) xs × Distinct xs

-- what is counted where walks meet trims
abbrev pub extra : Bool → ℕ → ℕ
extra true n = n
extra false n = 0

pub extra_less : (b : Bool) (a c : ℕ) → a ≤ c → extra b a ≤ extra b c
extra_less true a c le = le
extra_less false a c le = omega arith

pub extra_one : (b : Bool) (n : ℕ) → extra b (suc n) ≤ suc (extra b n)
extra_one true n = omega arith
extra_one false n = omega arith

pub extra_is : (b : Bool) (n : ℕ) → b ≡ true → extra b n ≡ n
extra_is true n e = refl
extra_is false n e = absurd cc

-- How many units have trimmed past a position.
module _ (low_at : ℕ → ℕ) where
  abbrev pub above : ℕ → ℕ → ℕ
  above g zero = 0
  above g (suc n) = one_if (nat_lt g (low_at n)) + above g n

  one_less : (g h low : ℕ) → g ≤ h → one_if (nat_lt h low) ≤ one_if (nat_lt g low)
  one_less g h low le = grind (arith, le)

  pub above_less : (g h n : ℕ) → g ≤ h → above h n ≤ above g n
  above_less g h zero le = omega arith
  above_less g h (suc n) le = let a = one_less g h (low_at n) le in let b = above_less g h n le in omega (arith, a, b)

  one_fewer : (g h low : ℕ) → nat_lt g low ≡ true → low ≤ h → one_if (nat_lt h low) + 1 ≤ one_if (nat_lt g low)
  one_fewer g h low less le = grind (arith, less, le)

  last_or_less : (u n : ℕ) → u < suc n → (u ≡ n) ⊎ (u < n)
  last_or_less u n less = grind arith

  pub above_fewer : (g h u n : ℕ) → g ≤ h → u < n → nat_lt g (low_at u) ≡ true → low_at u ≤ h → above h n + 1 ≤ above g n
  above_fewer g h u zero le less past reach = absurd (omega (arith, less))
  above_fewer g h u (suc n) le less past reach = by (last_or_less u n less) (λ l. above_fewer g h u n le l past reach)
    where
      by : (u ≡ n) ⊎ (u < n) → (u < n → above h n + 1 ≤ above g n) → above h (suc n) + 1 ≤ above g (suc n)
      by (inl e) more = let a = subst (λ i. one_if (nat_lt h (low_at i)) + 1 ≤ one_if (nat_lt g (low_at i))) e (one_fewer g h (low_at u) past reach) in let b = above_less g h n le in omega (arith, a, b)
      by (inr l) more = let a = one_less g h (low_at n) le in let b = more l in omega (arith, a, b)

-- whether walks meet trims, and how many units have trimmed anything
pub record Kind (low_at : ℕ → ℕ) (p : Layout) : Type 0 where
  pub trims : Bool
  pub calm : trims ≡ false → (u : ℕ) → low_at u ≡ 0
  pub floors : ℕ
  pub few : (g n : ℕ) → above low_at g n ≤ floors
  pub once : (n : ℕ) → Distinct (place_in p n).chain

module _ (m : Meaning) (h : Header) (stopped : List NodeId) (k : ℕ) (p : Layout) (longest : ℕ) (low_at : ℕ → ℕ) (many tail most : ℕ) (kind : Kind low_at p) where
  -- what so many unknown positions cost
  abbrev pub budget : ℕ → ℕ
  budget zero = 0
  budget (suc u) = suc longest + budget u

  pub budget_less : (a b : ℕ) → a ≤ b → budget a ≤ budget b
  budget_less zero b le = omega arith
  budget_less (suc a) zero le = absurd (omega (arith, le))
  budget_less (suc a) (suc b) le = let e = budget_less a b (omega (arith, le)) in omega (arith, e)

  -- what so many passes cost: each a sync, which settles a position and probes its chain, and a trim in each stream
  abbrev pub passes : ℕ → ℕ
  passes zero = 0
  passes (suc n) = suc (longest + longest + most) + passes n

  pub passes_less : (a b : ℕ) → a ≤ b → passes a ≤ passes b
  passes_less zero b le = omega arith
  passes_less (suc a) zero le = absurd (omega (arith, le))
  passes_less (suc a) (suc b) le = let e = passes_less a b (omega (arith, le)) in omega (arith, e)

  pub passes_fewer : (a b : ℕ) → a + 1 ≤ b → suc (longest + longest + most) + passes a ≤ passes b
  passes_fewer a b le = passes_less (suc a) b (omega (arith, le))

  -- with so many streams left, where trims past g are unknown; v is 1 where a view is kept
  abbrev pub rest : ℕ → ℕ → ℕ → ℕ
  rest os g v = os + passes (above low_at g many + v)

  -- What stays while the client reads: all positions can be read, and the sequencer can issue the tail.
  pub record Here (s : Net m) : Type 0 where
    pub good : Good m h stopped k p longest low_at many s
    pub on : on_in m stopped s (seqr_id p.seq) ≡ true
    pub epoch : (seqr_of m h s p.seq).epoch ≡ p.epoch
    pub unfenced : (seqr_of m h s p.seq).fence ≡ None
    pub ready : scanning (seqr_of m h s p.seq) ≡ false
    pub rests : (seqr_of m h s p.seq).scan ≡ None
    pub next : (seqr_of m h s p.seq).next ≡ tail
    pub near : too_far tail ≡ false
    pub named : (os : List Oid) → names_all os (links_of (seqr_of m h s p.seq).lists os) ≡ true
    pub lasts : (o : Oid) (os : List Oid) → Low p tail (backs_of (link_of o (links_of (seqr_of m h s p.seq).lists os)))
    pub issue : (d : Entry) → CanIssue m h stopped k p longest s d
    pub units : AllServe m h stopped k p longest s

  here_with : (s t : Net m) → seqr_of m h t p.seq ≡ seqr_of m h s p.seq → on_in m stopped t (seqr_id p.seq) ≡ on_in m stopped s (seqr_id p.seq) → Good m h stopped k p longest low_at many t → ((d : Entry) → CanIssue m h stopped k p longest t d) → AllServe m h stopped k p longest t → Here s → Here t
  here_with s t same on good issue units x = record {
    good = good;
    on = on ∙ x.on;
    epoch = ap (λ (y : SeqrState). y.epoch) same ∙ x.epoch;
    unfenced = ap (λ (y : SeqrState). y.fence) same ∙ x.unfenced;
    ready = ap (λ (y : SeqrState). scanning y) same ∙ x.ready;
    rests = ap (λ (y : SeqrState). y.scan) same ∙ x.rests;
    next = ap (λ (y : SeqrState). y.next) same ∙ x.next;
    near = x.near;
    named = λ os. ap (λ (y : SeqrState). names_all os (links_of y.lists os)) same ∙ x.named os;
    lasts = λ o os. subst (λ (y : SeqrState). Low p tail (backs_of (link_of o (links_of y.lists os)))) (sym same) (x.lasts o os);
    issue = issue;
    units = units;
  }

  pub here_keeps : (s t : Net m) → Keeps m h stopped k p s t → Here s → Here t
  here_keeps s t keep x = here_with s t keep.seqr (on_alike m stopped s t keep.alike (seqr_id p.seq)) (good_keeps m h stopped k p longest low_at many s t keep x.good) (λ d. keeps_issue m h stopped k p longest s t d keep (x.issue d)) (λ u g. keeps_unit m h stopped k p longest s t u keep (x.units u g)) x

  off : (n pos : ℕ) → n ≡ tail → pos < tail → eqb n pos ≡ false
  off n pos e less = grind (arith, e, less)

  pub here_put : (s t : Net m) (pl : Place) (c : Cell) → pl ≡ place_in p pl.pos → pl.pos < tail → Put m stopped s t pl.pos c → (GoodAt m h stopped k p longest low_at many s pl → GoodAt m h stopped k p longest low_at many t pl)
      → seqr_of m h t p.seq ≡ seqr_of m h s p.seq → Here s → Here t
  here_put s t pl c is less put good same x =
      here_with s t same (put.on (seqr_id p.seq)) (good_put m h stopped k p longest low_at many s t pl c is put good x.good) (λ d. puts_issue m h stopped k p longest s t pl.pos c d put same (off _ pl.pos x.next less) (x.issue d)) (λ u g. puts_unit m h stopped k p longest s t pl.pos c u put (x.units u g)) x

  pub stable_at : (s : Net m) (pl : Place) → pl ≡ place_in p pl.pos → Here s → Stable m h stopped k p longest low_at many s pl
  stable_at s pl e x = subst (λ (y : Place). Stable m h stopped k p longest low_at many s y) (sym e) (x.good pl.pos).stable

  abbrev pub Sorted : Net m → Place → Bool → Type 0
  Sorted s pl b = Sort m h stopped k p longest low_at many s pl b

  -- a position that can be read is of one of two sorts
  pub sort_of : (s : Net m) (pl : Place) → GoodAt m h stopped k p longest low_at many s pl → (b : Bool) × Sorted s pl b
  sort_of s pl g = by g.sort
    where
      by : Clean m h stopped k p longest low_at many s pl ⊎ Trimmed m h stopped k p longest low_at many s pl → (b : Bool) × Sorted s pl b
      by (inl c) = (true, c)
      by (inr c) = (false, c)

  -- A unit has trimmed something: so walks meet trims.
  pub they_trim : (u g pos : ℕ) → g ≡ low_at u → nat_lt pos g ≡ true → kind.trims ≡ true
  they_trim u g pos e less = by kind.trims refl
    where
      never : (n pos : ℕ) → n ≡ 0 → nat_lt pos n ≡ true → ⊥
      never n pos e less = grind arith

      by : (b : Bool) → kind.trims ≡ b → kind.trims ≡ true
      by true is = is
      by false is = absurd (never g pos (e ∙ kind.calm is u) less)

  -- A walk that reads one cell, with so many streams left after it.
  pub record Reading (s : Net m) (wk : Walk) (os g v : ℕ) (pl : Place) (y : CellWork) (n : ℕ) : Type 0 where
    pub place : pl ≡ place_in p pl.pos
    pub less : pl.pos < tail
    pub low : TrailLow p tail wk.trail
    pub here : Here s
    pub sort : Bool
    pub cost : ℕ
    pub cell : CellStage m h stopped k p longest low_at many s pl sort y cost
    pub left : ℕ
    pub fewer : (c : Cell) → unknown (with_cell wk.cells pl.pos c) tail ≤ left
    pub few : cost + budget left + extra kind.trims (rest (suc os) g v) ≤ n
    pub gone : sort ≡ false → kind.trims ≡ true → cost + budget (unknown wk.cells tail) + rest os g v ≤ n

  abbrev pub WalkStage : Net m → Walk → ℕ → ℕ → ℕ → Option CellJob → ℕ → Type 0
  WalkStage s wk os g v None n = ⊥
  WalkStage s wk os g v (Some j) n = Reading s wk os g v j.place j.work n

  -- an answer that makes a walk go on with its cell, or on to the next unknown one, or ends it, at a trim or without
  pub data WalkWell (t : Net m) (os g v n next : ℕ) : WalkTurn → Type 0 where
    CellOn : (wk : Walk) (pl : Place) (y : CellWork) (u : ℕ) (z : Msg) (left : ℕ) → work_asks pl y ≡ out (unit_id u) next z ∷ [] → Reading t wk os g v pl y left → left + 1 ≤ n → WalkWell t os g v n next (record { next = next + 1; besides = []; gone = 0; to = Goes (with_job wk (works pl y)) })
    WalkOn : (cells : List (ℕ × Cell)) (x : WalkTurn) → Walked p tail cells next x → Here t → budget (unknown cells tail) + extra kind.trims (rest (suc os) g v) ≤ n → WalkWell t os g v n next x
    WalkGone : (wk : Walk) (u b : ℕ) → u < many → b ≡ low_at u → kind.trims ≡ true → Here t → budget (unknown wk.cells tail) + rest os g v ≤ n → WalkWell t os g v n next (record { next = next; besides = []; gone = b; to = Ends (walk_members wk (Some b)) })

  pub cell_walks : (s t : Net m) (wk : Walk) (os g v : ℕ) (pl : Place) (y : CellWork) (n : ℕ) (f : Reading s wk os g v pl y n) → Here t → (next : ℕ) (x : CellTurn) → CellWell m h stopped k p longest low_at many t pl f.sort f.cost next x
      → WalkWell t os g v n next (walk_turn p wk pl.pos x)
  cell_walks s t wk os g v pl y n f here next x (CellDone c) =
      let cells = with_cell wk.cells pl.pos c in
      let e = budget_less (unknown cells tail) f.left (f.fewer c) in
      let few = f.few in
      WalkOn cells _ (walk_goes p tail _ next (read_at wk pl.pos c) cells refl (visit_low p tail (record wk { cells = cells }) pl.pos c f.less f.low)) here (omega (arith, e, few))
  cell_walks s t wk os g v pl y n f here next x (CellGoes w u z left asks cell fewer) =
      let few = f.few in
      CellOn wk pl w u z (n - 1) asks (record {
        place = f.place;
        less = f.less;
        low = f.low;
        here = here;
        sort = f.sort;
        cost = left;
        cell = cell;
        left = f.left;
        fewer = f.fewer;
        few = omega (arith, few, fewer);
        gone = λ a b. let many = f.gone a b in omega (arith, many, fewer);
      }) (omega (arith, few, fewer))
  cell_walks s t wk os g v pl y n f here next x (CellGone u b not_clean less is past) =
      let trims = they_trim u b pl.pos is past in
      let few = f.gone not_clean trims in
      WalkGone wk u b less is trims here (omega (arith, few))

  -- A sync.

  -- the last position below the tail is filled; so much is left after the sync
  pub record Settles (s : Net m) (cells : List (ℕ × Cell)) (after : ℕ) (a : Answer) (pl : Place) (y : CellWork) (n : ℕ) : Type 0 where
    pub place : pl ≡ place_in p pl.pos
    pub less : pl.pos < tail
    pub lasts : (o : Oid) → Low p tail (backs_of (link_of o a.lasts))
    pub here : Here s
    pub sort : Bool
    pub cost : ℕ
    pub cell : CellStage m h stopped k p longest low_at many s pl sort y cost
    pub few : cost + budget (unknown cells tail) + extra kind.trims (longest + after) ≤ n

  abbrev pub SyncStage : Net m → List (ℕ × Cell) → ℕ → Sync → SyncWork → ℕ → Type 0
  SyncStage s cells after sy (Checking r) n = Here s × (longest + budget (unknown cells tail) + extra kind.trims (longest + after) ≤ n)
  SyncStage s cells after sy (Settling a j) n = Settles s cells after a j.place j.work n
  SyncStage s cells after sy (Probing a j) n = ⊥

  -- the chain at or next below the tail
  abbrev pub last_place : Place
  last_place = place_in p (tail - 1)

  pub data SyncWell (t : Net m) (cells : List (ℕ × Cell)) (after n next : ℕ) : SyncTurn → Type 0 where
    SyncOn : (oids : List Oid) (a : Answer) (pl : Place) (y : CellWork) (u : ℕ) (z : Msg) (left : ℕ) → work_asks pl y ≡ out (unit_id u) next z ∷ [] → Settles t cells after a pl y left → left + 1 ≤ n
        → SyncWell t cells after n next (record { next = next + 1; besides = []; gone = 0; to = Goes (record { oids = oids; work = Settling a (works pl y) }) })
    SyncEnds : (a : Answer) (c : Cell) → ((o : Oid) → Low p tail (backs_of (link_of o a.lasts))) → Here t → budget (unknown (with_cell cells (a.tail - 1) c) tail) + extra kind.trims after ≤ n
        → SyncWell t cells after n next (record { next = next; besides = []; gone = 0; to = Ends (confirmed a (Some (a.tail - 1, c))) })
    SyncProbes : (oids : List Oid) (a : Answer) (gone : ℕ) → ((o : Oid) → Low p tail (backs_of (link_of o a.lasts))) → Here t → budget (unknown cells tail) + extra kind.trims after + length (place_in p (a.tail - 1)).chain ≤ n
        → SyncWell t cells after n next (record { next = next + length (place_in p (a.tail - 1)).chain; besides = []; gone = gone; to = Goes (record { oids = oids; work = Probing a (works (place_in p (a.tail - 1)) (Probes (waits_for (place_in p (a.tail - 1)).chain next))) }) })

  chain_short : (s : Net m) (n : ℕ) → Here s → length (place_in p n).chain ≤ longest
  chain_short s n x = (x.good n).stable.serves.short

  pub cell_settles : (s t : Net m) (cells : List (ℕ × Cell)) (after : ℕ) (sy : Sync) (a : Answer) (pl : Place) (y : CellWork) (n : ℕ) (f : Settles s cells after a pl y n) → Here t → (next : ℕ) (x : CellTurn)
      → CellWell m h stopped k p longest low_at many t pl f.sort f.cost next x → SyncWell t cells after n next (settle_turn p sy a x)
  unfolding probe
  cell_settles s t cells after sy a pl y n f here next x (CellDone c) =
      let e = budget_less (unknown (with_cell cells (a.tail - 1) c) tail) (unknown cells tail) (unknown_less cells (a.tail - 1) c tail) in
      let few = f.few in
      let more = extra_less kind.trims after (longest + after) (omega arith) in
      SyncEnds a c f.lasts here (omega (arith, e, few, more))
  cell_settles s t cells after sy a pl y n f here next x (CellGoes w u z left asks cell fewer) =
      let few = f.few in
      SyncOn sy.oids a pl w u z (n - 1) asks (record { place = f.place; less = f.less; lasts = f.lasts; here = here; sort = f.sort; cost = left; cell = cell; few = omega (arith, few, fewer) }) (omega (arith, few, fewer))
  cell_settles s t cells after sy a pl y n f here next x (CellGone u b not_clean less is past) =
      let trims = they_trim u b pl.pos is past in
      let few = f.few in
      let one = extra_is kind.trims (longest + after) trims in
      let other = extra_is kind.trims after trims in
      let short = chain_short t (a.tail - 1) here in
      SyncProbes sy.oids a b f.lasts here (omega (arith, few, one, other, short))

  fills : (s : Net m) (cells : List (ℕ × Cell)) (after : ℕ) (sy : Sync) (a : Answer) (n next : ℕ) → a.tail ≡ tail → ((o : Oid) → Low p tail (backs_of (link_of o a.lasts))) → Here s → nat_lt p.start tail ≡ true
      → longest + budget (unknown cells tail) + extra kind.trims (longest + after) ≤ n → SyncWell s cells after n next (settle_turn p sy a (fill_cell (place_in p (a.tail - 1)) next))
  unfolding fill_cell work_asks
  fills s cells after sy a n next is lasts here past few =
      let pl = place_in p (a.tail - 1) in
      let g = here.good (a.tail - 1) in
      let sort = sort_of s pl g in
      let one = g.stable.serves.some in
      let short = g.stable.serves.short in
      let cell : CellStage m h stopped k p longest low_at many s pl sort.0 (Fills next) (longest - 1) = (sort.1, omega (arith, one, short)) in
      SyncOn sy.oids a pl (Fills next) _ _ (n - 1) refl (record { place = refl; less = below p.start tail (a.tail) is past; lasts = lasts; here = here; sort = sort.0; cost = longest - 1; cell = cell; few = omega (arith, one, short, few) }) (omega (arith, one, short, few))
    where
      below : (start tail t : ℕ) → t ≡ tail → nat_lt start tail ≡ true → t - 1 < tail
      below start tail t e less = grind (arith, e, less)

  -- the sequencer's answer
  pub tail_well : (s : Net m) (cells : List (ℕ × Cell)) (after : ℕ) (sy : Sync) (a : Answer) (n next : ℕ) → a.tail ≡ tail → ((o : Oid) → Low p tail (backs_of (link_of o a.lasts))) → Here s
      → longest + budget (unknown cells tail) + extra kind.trims (longest + after) ≤ n → SyncWell s cells after n next (on_tail p sy a next true)
  unfolding probe
  tail_well s cells after sy a n next is lasts here few = by (nat_lt p.start a.tail) refl
    where
      by : (b : Bool) → nat_lt p.start a.tail ≡ b → SyncWell s cells after n next (confirm_by p sy a next b)
      by true e = fills s cells after sy a n next is lasts here (ap (λ n. nat_lt p.start n) (sym is) ∙ e) few
      by false e =
          let more = extra_less kind.trims after (longest + after) (omega arith) in
          let short = chain_short s (a.tail - 1) here in
          SyncProbes sy.oids a 0 lasts here (omega (arith, few, more, short))
