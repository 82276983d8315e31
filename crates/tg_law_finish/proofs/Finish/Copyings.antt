-- A client that copies a stripe to a spare unit, which stands in no chain of the stripe. It has one request outstanding: the
-- spare's seal, a read of a cell of the stripe, its store or a trim in the spare, or the look whether the spare has all. From
-- wherever it stands it goes on to the end of the stripe; where the spare lacks a position then, it goes on from the first of
-- those to the end, and the spare has all.
use Rattle.std.proofs.Common.{◌≡◌, ◌⊎◌, ℕ, suc, ◌+◌, ◌-◌, ◌*◌, ◌^◌, ◌<◌, ◌≤◌, List, [], ◌∷◌, length, Bool, true, false, ◌||◌, refl, ap, ◌∙◌, sym, subst, inl, inr, arith, Some, None, Option, eqb}
use Rattle.std.proofs.Math.Nat.{mul-suc}
use Rattle.std.proofs.lemmas.Bool.Decides.{nat_tests}
use Rattle.std.proofs.lemmas.Nat.{mul-le}
use Rattle.std.specs.Prelude.{cond, is_some, nat_lt, max, ⊤}
use Rattle.tg_base.specs.Clusters.{Header}
use Rattle.tg_base.specs.Layouts.{Layout}
use Rattle.tg_base.specs.declared.cell.Cell.{Cell}
use Rattle.tg_base.specs.declared.ids.NodeId.{NodeId}
use Rattle.tg_base.specs.declared.msg.Msg.{Msg}
use Rattle.tg_base.specs.declared.msg.Msg.TheVariants as msg
use Rattle.tg_base.specs.declared.packet.Out.{Out}
use Rattle.tg_kind.specs.Meaning.{Meaning}
use Rattle.tg_proj.specs.Places.{range_at}
use Rattle.tg_protocol.specs.Words.{cell_at, cell_eq, too_far, unit_id, client_id}
use Rattle.tg_protocol.specs.Layouts.{chain_of, range_end, next_in_stripe}
use Rattle.tg_protocol.specs.Units.{UnitState, UnitTurn, new_unit, says, trimmed, in_epoch, on_has, on_seal, settled_at, first_missing, how_many, unit_step, unit_ask, on_ask}
use Rattle.tg_protocol.specs.Requests.{out, awaits, drawn_from, Goes, Ends, met_gone}
use Rattle.tg_protocol.specs.Replies.{IsSealed, IsMissing, IsOther, reply}
use Rattle.tg_protocol.specs.Cells.{Place, CellWork, Gets, CellTurn, place_in, last_unit, unit_at, works, work_asks, get_cell, cell_feed}
use Rattle.tg_protocol.specs.Trimming.{CopyWork, Sealing, Reading, Storing, Trimming, Looking, Copying, CopyEnd, CopyTurn, has_stripe, copy_work_asks, copy_from, copies_past, read_of, sealed_if, skipped_if, copy_feed}
use Rattle.tg_protocol.specs.Clients.{Copying', Client}
use Rattle.tg_protocol.specs.Answers.{Moved}
use Rattle.tg_protocol.specs.ClientSteps.{task_asks, client_asks, given, client_deliver, task_feed, on_copy}
use Rattle.tg_protocol.specs.Worlds.{packet_of, answer_to}
use Rattle.tg_law_cells.proofs.Cells.Befores.{has_at}
use Rattle.tg_law_layouts.proofs.Moves.Members.{Has}
use Rattle.tg_law_finish.proofs.Finish.Appends.{is_latest, gone_near}
use Rattle.tg_law_finish.proofs.Finish.Joined.{StageOf}
use Rattle.tg_law_finish.proofs.Finish.Lines.{IsOver, Over, TalkOf}
use Rattle.tg_law_finish.proofs.Finish.Lists.{set_there, set_other}
use Rattle.tg_law_finish.proofs.Finish.Nets.{Net, unit_of, client_of, on_in, on_alike, unit_alike}
use Rattle.tg_law_finish.proofs.Finish.Others.{Keeps, Ready}
use Rattle.tg_law_finish.proofs.Finish.Reached.{NearFloor}
use Rattle.tg_law_finish.proofs.Finish.Readings.{Clean, Trimmed, GoodAt, CellStage, CellWell, CellDone, CellGoes, CellGone, cell_ask, cell_keeps, at_keeps, at_same, good_at_put, asks_chain, two}
use Rattle.tg_law_finish.proofs.Finish.Stores.{Kept, Outcome, IsGone', IsHeld', IsTaken', with_unit, stores}
use Rattle.tg_law_finish.proofs.Finish.Stripes.{InStripe, first_of, step_of, next_past, missed, missed_in, missed_before}
use Rattle.tg_law_finish.proofs.Finish.Talks.{Facts, Asked, More, MachineOf, One, one_talk_of}
use Rattle.tg_law_finish.proofs.Finish.Tasks.{TaskShape, shape_called, shape_ticked, again_is, busied, task_fed}
use Rattle.tg_law_finish.proofs.Finish.Trimmings.{near_most, trims_so}
use Rattle.tg_law_finish.proofs.Finish.Writers.{new_drawn, unit_away, awaited_itself, unit_no_client, same_out}

-- what is known of nodes, where a request is delivered: what the spare answers is near, and it has no other cell than is copied
pub record CopyFair (m : Meaning) (p : Layout) (u r st : ℕ) (s : Net m) (x : Msg) : Type 0 where
  pub floor : NearFloor x
  pub high : too_far (unit_of m s u).high ≡ false
  pub low : too_far (unit_of m s u).low ≡ false
  pub same : (pos : ℕ) (c d : Cell) → x ≡ msg.Copy p.epoch pos c → InStripe p r st pos → (unit_of m s u).epoch ≤ p.epoch → cell_at (unit_of m s u).cells pos ≡ Some d → cell_eq d c ≡ true

-- Numbers.

-- each position takes so many requests, of those from one on up to an end
pub pass_less : (c e a b : ℕ) → a ≤ b → b < e → c * (e - (b + 1)) + c ≤ c * (e - a)
pass_less c e a b le less =
    let x = mul-le c (suc (e - (b + 1))) c (e - a) (omega arith) (omega (arith, le, less)) in
    let y = mul-suc c (e - (b + 1)) in
    omega (arith, x, y)

pub pass_shrinks : (c e a b : ℕ) → a ≤ b → c * (e - b) ≤ c * (e - a)
pass_shrinks c e a b le = mul-le c (e - b) c (e - a) (omega arith) (omega (arith, le))

below_of : (a b : ℕ) → nat_lt a b ≡ true → a < b
below_of a b e = grind (arith, nat_tests)

not_below : (a b : ℕ) → nat_lt a b ≡ false → b ≤ a
not_below a b e = grind (arith, nat_tests)

is_below : (a b : ℕ) → a < b → nat_lt a b ≡ true
is_below a b less = grind (arith, nat_tests, less)

is_past : (a b : ℕ) → a ≤ b → nat_lt b a ≡ false
is_past a b le = grind (arith, nat_tests, le)

itself : (n : ℕ) → eqb n n ≡ true
itself n = grind arith

tested : (a b : ℕ) → a ≡ b → eqb a b ≡ true
tested a b e = grind arith

unequal : (a b : ℕ) → (a ≡ b → ⊥) → eqb a b ≡ false
unequal a b f = by (eqb a b) refl
  where
    same : (a b : ℕ) → eqb a b ≡ true → a ≡ b
    same a b e = grind arith

    by : (d : Bool) → eqb a b ≡ d → eqb a b ≡ false
    by true e = absurd (f (same a b e))
    by false e = e

near_of : (a b : ℕ) → a < b → b < 2 ^ 62 → too_far a ≡ false
near_of a b less near = grind (arith, nat_tests, less, near)

less_or : (a b : ℕ) → (a < b) ⊎ (b ≤ a)
less_or a b = grind arith

last_or_less : (n pos : ℕ) → n < pos + 1 → (n ≡ pos) ⊎ ((n < pos) × (eqb n pos ≡ false))
last_or_less n pos less = grind (arith, less)

most_of : (a b n : ℕ) → n < b → nat_lt n (max a b) ≡ true
most_of a b n less = grind (arith, nat_tests, less)

-- A unit that has a position, or has trimmed it.

low_settled : (x : UnitState) (n : ℕ) → nat_lt n x.low ≡ true → settled_at x n ≡ true
low_settled x n e = ap (λ b. b || is_some (cell_at x.cells n)) e

has_settled : (x : UnitState) (n : ℕ) (c : Cell) → cell_at x.cells n ≡ Some c → settled_at x n ≡ true
has_settled x n c e = ap (λ (o : Option Cell). nat_lt n x.low || is_some o) e ∙ either (nat_lt n x.low)
  where
    either : (b : Bool) → (b || true) ≡ true
    either true = refl
    either false = refl

other_settled : (x y : UnitState) (pos n : ℕ) (c : Cell) → Kept x y pos c → eqb n pos ≡ false → settled_at x n ≡ true → settled_at y n ≡ true
other_settled x y pos n c k off e = ap (λ (l : ℕ). nat_lt n l || is_some (cell_at y.cells n)) k.low ∙ (ap (λ (o : Option Cell). nat_lt n x.low || is_some o) (k.others n off) ∙ e)

module _ (m : Meaning) (h : Header) (stopped : List NodeId) (k : ℕ) (p : Layout) (longest : ℕ) (low_at : ℕ → ℕ) (many u r st : ℕ)
    (some : 0 < step_of p r) (near : range_end p r < 2 ^ 62) (off : (n : ℕ) → InStripe p r st n → Has (chain_of p n) u → ⊥) where
  abbrev In : ℕ → Type 0
  In n = InStripe p r st n

  abbrev End : ℕ
  End = range_end p r

  abbrev pub copy : CopyWork → Copying
  copy w = record { unit = u; range = r; stripe = st; work = w }

  abbrev At : Net m → ℕ → Type 0
  At s n = GoodAt m h stopped k p longest low_at many s (place_in p n)

  abbrev pub StripeGood : Net m → Type 0
  StripeGood s = (n : ℕ) → In n → At s n

  -- on the last way through the stripe all before a position are there
  abbrev Filled : UnitState → Bool → ℕ → Type 0
  Filled x true a = (n : ℕ) → In n → n < a → settled_at x n ≡ true
  Filled x false a = ⊤

  -- the chains of the stripe and the spare serve
  pub record Here (s : Net m) (last : Bool) (a : ℕ) : Type 0 where
    pub good : StripeGood s
    pub on : on_in m stopped s (unit_id u) ≡ true
    pub epoch : (unit_of m s u).epoch ≡ p.epoch
    pub filled : Filled (unit_of m s u) last a

  -- what may come after the look at the spare
  abbrev pub extra : Bool → ℕ
  extra true = 0
  extra false = (longest + 2) * End + 1

  -- a position takes a read, a fill, a copy for each further unit of the chain, and a store; the spare is looked at last
  abbrev pub rest : Bool → ℕ → ℕ
  rest last a = (longest + 2) * (End - a) + 1 + extra last

  -- Where it stands, and how many requests it may send after the one that is outstanding.

  pub record SealStage (s : Net m) (n : ℕ) : Type 0 where
    pub good : StripeGood s
    pub on : on_in m stopped s (unit_id u) ≡ true
    pub epoch : (unit_of m s u).epoch ≤ p.epoch
    pub few : rest false 0 ≤ n

  pub record ReadStage (s : Net m) (pl : Place) (y : CellWork) (n : ℕ) : Type 0 where
    pub last : Bool
    pub place : pl ≡ place_in p pl.pos
    pub within : In pl.pos
    pub here : Here s last pl.pos
    pub sort : Bool
    pub cost : ℕ
    pub cell : CellStage m h stopped k p longest low_at many s pl sort y cost
    pub few : cost + 1 + rest last (pl.pos + 1) ≤ n

  pub record StoreStage (s : Net m) (pos n : ℕ) : Type 0 where
    pub last : Bool
    pub within : In pos
    pub here : Here s last pos
    pub few : rest last (pos + 1) ≤ n

  pub record TrimStage (s : Net m) (b n : ℕ) : Type 0 where
    pub last : Bool
    pub at : ℕ
    pub here : Here s last at
    pub few : rest last b ≤ n

  pub record LookStage (s : Net m) (n : ℕ) : Type 0 where
    pub last : Bool
    pub here : Here s last End
    pub few : extra last ≤ n

  abbrev pub WorkStage : Net m → CopyWork → ℕ → Type 0
  WorkStage s (Sealing i) n = SealStage s n
  WorkStage s (Reading j) n = ReadStage s j.place j.work n
  WorkStage s (Storing i pos c) n = StoreStage s pos n
  WorkStage s (Trimming i b) n = TrimStage s b n
  WorkStage s (Looking i) n = LookStage s n

  -- an answer that ends the copy, or makes it go on by one request
  pub data Well (t : Net m) (n next : ℕ) : CopyTurn → Type 0 where
    Ended : (gone : ℕ) (e : CopyEnd) → Well t n next (record { next = next; besides = []; gone = gone; to = Ends e })
    Going : (w : CopyWork) (v gone : ℕ) (z : Msg) (left : ℕ) → copy_work_asks p (copy w) w ≡ out (unit_id v) next z ∷ [] → WorkStage t w left → left + 1 ≤ n → Well t n next (record { next = next + 1; besides = []; gone = gone; to = Goes (copy w) })

  gone_well : (t : Net m) (n next b : ℕ) (x : CopyTurn) → Well t n next x → Well t n next (met_gone b x)
  gone_well t n next b _ (Ended gone e) = Ended b e
  gone_well t n next b _ (Going w v gone z left asks stage few) = Going w v b z left asks stage few

  -- On to the next position.

  filled_to : (x : UnitState) (last : Bool) (a b : ℕ) → ((n : ℕ) → In n → n < b → n < a) → Filled x last a → Filled x last b
  filled_to x true a b f filled = λ n i less. filled n i (f n i less)
  filled_to x false a b f filled = tt

  here_to : (s : Net m) (last : Bool) (a b : ℕ) → ((n : ℕ) → In n → n < b → n < a) → Here s last a → Here s last b
  here_to s last a b f x = record { good = x.good; on = x.on; epoch = x.epoch; filled = filled_to (unit_of m s u) last a b f x.filled }

  reads_at : (t : Net m) (last : Bool) (q next n : ℕ) → In q → Here t last q → longest + 1 + rest last (q + 1) ≤ n → ReadStage t (place_in p q) (Gets next) n
  reads_at t last q next n within here few = by (here.good q within) (here.good q within).sort
    where
      by : (g : At t q) → Clean m h stopped k p longest low_at many t (place_in p q) ⊎ Trimmed m h stopped k p longest low_at many t (place_in p q) → ReadStage t (place_in p q) (Gets next) n
      by g (inl c) = record { last = last; place = refl; within = within; here = here; sort = true; cost = longest; cell = (c, g.stable.serves.short); few = few }
      by g (inr c) = record { last = last; place = refl; within = within; here = here; sort = false; cost = longest; cell = (c, tt); few = few }

  read_well : (t : Net m) (last : Bool) (q n next : ℕ) (w : CopyWork) → In q → Here t last q → longest + 2 + rest last (q + 1) ≤ n → Well t n next (copy_from p (copy w) q next true)
  unfolding copy_work_asks get_cell work_asks
  read_well t last q n next w within here few =
      let left = longest + 1 + rest last (q + 1) in
      Going (Reading (works (place_in p q) (Gets next))) (last_unit (place_in p q)) 0 (msg.Read p.epoch q) left refl (reads_at t last q next left within here (omega arith)) (omega (arith, few))

  past_well : (t : Net m) (last : Bool) (a n next : ℕ) (w : CopyWork) → Here t last a → rest last a ≤ n → Well t n next (copies_past p (copy w) a next)
  unfolding copy_work_asks
  past_well t last a n next w here few = by (nat_lt q End) refl
    where
      q : ℕ
      q = next_in_stripe (range_at p.ranges r) st a

      -- none of the stripe's lies between
      between : (n : ℕ) → In n → n < next_in_stripe (range_at p.ranges r) st a → n < a
      between n i less = of (less_or n a)
        where
          of : (n < a) ⊎ (a ≤ n) → n < a
          of (inl l) = l
          of (inr le) = let is = i.is in let x = (next_past p r st a some).least i.at (omega (arith, is, le)) in absurd (omega (arith, x, is, less))

      up : a ≤ next_in_stripe (range_at p.ranges r) st a
      up = (next_past p r st a some).from

      by : (b : Bool) → nat_lt (next_in_stripe (range_at p.ranges r) st a) End ≡ b → Well t n next (copy_from p (copy w) (next_in_stripe (range_at p.ranges r) st a) next b)
      by true e =
          let y = next_past p r st a some in
          let less = below_of q End e in
          let cost = pass_less (longest + 2) End a q up less in
          read_well t last q n next w (record { at = y.at; is = y.is; below = less }) (here_to t last a q between here) (omega (arith, cost, few))
      by false e =
          let le = not_below q End e in
          Going (Looking next) u 0 (has_stripe p.epoch p r st) (extra last) refl (record { last = last; here = here_to t last a End (λ n i less. between n i (omega (arith, le, less))) here; few = omega arith }) (omega (arith, few))

  -- What a cell's answer makes of it.
  cell_well : (t : Net m) (s : Net m) (pl : Place) (y : CellWork) (n next : ℕ) (w : CopyWork) (f : ReadStage s pl y n) → Here t f.last pl.pos → (x : CellTurn) → CellWell m h stopped k p longest low_at many t pl f.sort f.cost next x → Well t n next (read_of p (copy w) (works pl y) x)
  unfolding copy_work_asks
  cell_well t s pl y n next w f here _ (CellDone c) =
      let few = f.few in
      Going (Storing next pl.pos c) u 0 (msg.Copy p.epoch pl.pos c) (rest f.last (pl.pos + 1)) refl (record { last = f.last; within = f.within; here = here; few = omega arith }) (omega (arith, few))
  cell_well t s pl y n next w f here _ (CellGoes z v x left asks stage less) =
      let few = f.few in
      Going (Reading (works pl z)) v 0 x (left + 1 + rest f.last (pl.pos + 1)) asks (record { last = f.last; place = f.place; within = f.within; here = here; sort = f.sort; cost = left; cell = stage; few = omega arith }) (omega (arith, few, less))
  cell_well t s pl y n next w f here _ (CellGone v g e less is past) =
      let few = f.few in
      let up = below_of pl.pos g past in
      let fewer = pass_shrinks (longest + 2) End (pl.pos + 1) g (omega (arith, up)) in
      Going (Trimming next g) u g (msg.Trim p.epoch g) (rest f.last g) refl (record { last = f.last; at = pl.pos; here = here; few = omega arith }) (omega (arith, few, fewer))

  -- The client, with one request outstanding.

  pub record Bringing (s : Net m) (c : Client m) (o : Out) (n : ℕ) : Type 0 where
    pub work : CopyWork
    pub shape : TaskShape m h stopped k p longest c (Copying' (copy work)) (o ∷ [])
    pub stage : WorkStage s work n

  pub record Hearing (s : Net m) (c : Client m) (from : NodeId) (rid : ℕ) (y : Msg) (n : ℕ) : Type 0 where
    pub work : CopyWork
    pub o : Out
    pub shape : TaskShape m h stopped k p longest c (Copying' (copy work)) (o ∷ [])
    pub awaited : awaits (o ∷ []) from rid ≡ true
    pub no_latest : is_latest (reply y) ≡ false
    pub well : (v next : ℕ) → Well s n next (copy_feed p (copy work) work v (reply y) next)

  turned : (s : Net m) (c : Client m) (w : CopyWork) (o : Out) (x : TaskShape m h stopped k p longest c (Copying' (copy w)) (o ∷ [])) (t : CopyTurn) (n : ℕ) → Well s n c.next t
      → IsOver m h stopped k p (given m c (on_copy m c x.work (copy w) t)) ⊎ More m h stopped k p Bringing Hearing s (given m c (on_copy m c x.work (copy w) t)) n
  unfolding client_asks task_asks
  turned s c w o x _ n (Ended gone e) = inl (record { none = refl; sends = refl })
  turned s c w o x _ n (Going y v gone z left asks stage few) = inr (record {
    o = out (unit_id v) c.next z;
    left = left;
    sends = ap (λ (q : Layout). drawn_from c.next (copy_work_asks q (copy y) y)) x.stand ∙ (ap (λ os. drawn_from c.next os) asks ∙ new_drawn m h stopped k p longest (unit_id v) c.next z);
    stage = record { work = y; shape = record { stand = x.stand; work = _; waits = refl; hand = refl; awaited = asks; again = asks; asks = asks; below = (omega arith, tt); away = ((λ l. unit_away m h stopped k p longest v l), tt) }; stage = stage };
    less = few;
  })

  answered : (s : Net m) (c : Client m) (from : NodeId) (rid : ℕ) (y : Msg) (n : ℕ) → Hearing s c from rid y n
      → IsOver m h stopped k p (client_deliver m c from rid y) ⊎ More m h stopped k p Bringing Hearing s (client_deliver m c from rid y) n
  unfolding client_deliver task_feed
  answered s c from rid y n g =
      let fed = task_fed m h stopped k p longest c (Copying' (copy g.work)) (g.o ∷ []) from rid (reply y) g.shape g.awaited g.no_latest
      ∙ ap (λ (q : Layout). on_copy m c g.shape.work (copy g.work) (copy_feed q (copy g.work) g.work from.num (reply y) c.next)) g.shape.stand in
      subst (λ (z : Moved m). IsOver m h stopped k p (given m c z) ⊎ More m h stopped k p Bringing Hearing s (given m c z) n) (sym fed)
      (turned s c g.work g.o g.shape _ n (g.well from.num c.next))

  -- A request comes to its unit.

  unit_told : (s : Net m) (o : Out) (n : ℕ) (w : CopyWork) (v rid : ℕ) (z : Msg) (tu : UnitTurn) (y : Msg) → out (unit_id v) rid z ≡ o → Ready m h stopped k p s → TaskShape m h stopped k p longest (client_of m h s k) (Copying' (copy w)) (o ∷ [])
      → on_in m stopped s (unit_id v) ≡ true → unit_step (unit_of m s v) z ≡ tu → tu.says ≡ Some y → is_latest (reply y) ≡ false → ((i next : ℕ) → Well (with_unit m stopped s v tu.now) n next (copy_feed p (copy w) w i (reply y) next)) → Asked m h stopped k p Bringing Hearing s o n
  unit_told s o n w v rid z tu y is ready shape on step told plain well =
      let x = out (unit_id v) rid z in
      subst (λ (q : Out). Asked m h stopped k p Bringing Hearing s q n) is (record {
        running = on;
        from = unit_id v;
        rid = rid;
        says = y;
        sent = ap (λ i. answer_to m (packet_of m (client_id k) x) i) (ap (λ (i : UnitTurn). i.says) step ∙ told);
        no_client = unit_no_client m h stopped k p longest v;
        ready = record { on = ready.on; rests = ready.rests; old = ready.old; layouts = ready.layouts; idle = ready.idle };
        client = refl;
        hears = subst (λ (i : UnitTurn). Hearing (with_unit m stopped s v i.now) (client_of m h s k) (unit_id v) rid y n) (sym step)
            (record { work = w; o = o; shape = shape; awaited = subst (λ (q : Out). awaits (q ∷ []) (unit_id v) rid ≡ true) is (awaited_itself m h stopped k p longest x); no_latest = plain; well = well });
      })

  -- At the spare.

  there : (s : Net m) → on_in m stopped s (unit_id u) ≡ true → u < length s.units
  there s e = grind arith

  good_with : (s : Net m) (x : UnitState) → StripeGood s → StripeGood (with_unit m stopped s u x)
  good_with s x good = λ n i. at_same m h stopped k p longest low_at many s (with_unit m stopped s u x) (place_in p n) (λ y. on_alike m stopped s (with_unit m stopped s u x) (unit_alike m s u x) y) (λ j less. set_other s.units u x (unit_at (place_in p n) j) new_unit (differs n i j less)) (good n i)
    where
      differs : (n : ℕ) → In n → (j : ℕ) → j < length (chain_of p n) → eqb (unit_at (place_in p n) j) u ≡ false
      differs n i j less = unequal _ u (λ e. off n i (subst (λ (v : ℕ). Has (chain_of p n) v) e (has_at (chain_of p n) j less)))

  here_with : (s : Net m) (x : UnitState) (last : Bool) (a : ℕ) → StripeGood s → on_in m stopped s (unit_id u) ≡ true → x.epoch ≡ p.epoch → Filled x last a → Here (with_unit m stopped s u x) last a
  here_with s x last a good on epoch filled =
      let is = set_there s.units u x new_unit (there s on) in
      record {
        good = good_with s x good;
        on = on_alike m stopped s (with_unit m stopped s u x) (unit_alike m s u x) (unit_id u) ∙ on;
        epoch = ap (λ (y : UnitState). y.epoch) is ∙ epoch;
        filled = subst (λ (y : UnitState). Filled y last a) (sym is) filled;
      }

  all_low : (x : UnitState) (last : Bool) (b : ℕ) → ((n : ℕ) → n < b → nat_lt n x.low ≡ true) → Filled x last b
  all_low x true b f = λ n i less. low_settled x n (f n less)
  all_low x false b f = tt

  -- It is sealed.

  seals : (x : UnitState) → x.epoch ≤ p.epoch → unit_step x (msg.Seal p.epoch) ≡ says (record x { epoch = p.epoch }) (msg.Sealed p.epoch x.high)
  unfolding unit_step unit_ask on_ask
  seals x le = ap (λ b. on_seal x p.epoch b) (is_past x.epoch p.epoch le)

  sealed_near : (e b : ℕ) → too_far b ≡ false → reply (msg.Sealed e b) ≡ IsSealed e b
  unfolding reply
  sealed_near e b close = ap (λ x. cond x IsOther (IsSealed e b)) close

  plain_sealed : (e b : ℕ) → is_latest (IsSealed e b) ≡ false
  unfolding is_latest
  plain_sealed e b = refl

  seal_told : (s : Net m) (o : Out) (n i : ℕ) → CopyFair m p u r st s o.msg → Ready m h stopped k p s → TaskShape m h stopped k p longest (client_of m h s k) (Copying' (copy (Sealing i))) (o ∷ []) → SealStage s n → Asked m h stopped k p Bringing Hearing s o n
  unfolding task_asks copy_work_asks copy_feed
  seal_told s o n i fair ready shape f =
      let x = unit_of m s u in
      let close = sealed_near p.epoch x.high fair.high in
      let t = with_unit m stopped s u (record x { epoch = p.epoch }) in
      let here = here_with s (record x { epoch = p.epoch }) false 0 f.good f.on refl tt in
      unit_told s o n (Sealing i) u i (msg.Seal p.epoch) (says (record x { epoch = p.epoch }) (msg.Sealed p.epoch x.high)) (msg.Sealed p.epoch x.high) (same_out m h stopped k p longest (out (unit_id u) i (msg.Seal p.epoch)) o shape.asks) ready shape f.on (seals x f.epoch) refl
      (ap is_latest close ∙ plain_sealed p.epoch x.high)
      (λ v next. subst (λ y. Well t n next (copy_feed p (copy (Sealing i)) (Sealing i) v y next)) (sym close)
      (subst (λ b. Well t n next (sealed_if p (copy (Sealing i)) next b)) (sym (itself p.epoch)) (past_well t false 0 n next (Sealing i) here f.few)))

  -- A cell is read.

  in_chain : (pl : Place) (v j : ℕ) → pl ≡ place_in p pl.pos → j < length pl.chain → v ≡ unit_at pl j → Has (chain_of p pl.pos) v
  in_chain pl v j place less is = subst (λ (y : ℕ). Has (chain_of p pl.pos) y) (sym is) (subst (λ (y : Place). Has y.chain (unit_at pl j)) place (has_at pl.chain j less))

  read_told : (s : Net m) (o : Out) (n : ℕ) (pl : Place) (y : CellWork) → Ready m h stopped k p s → TaskShape m h stopped k p longest (client_of m h s k) (Copying' (copy (Reading (works pl y)))) (o ∷ []) → ReadStage s pl y n → Asked m h stopped k p Bringing Hearing s o n
  unfolding task_asks copy_work_asks copy_feed cell_feed
  read_told s o n pl y ready shape f =
      let own = subst (λ (z : Place). GoodAt m h stopped k p longest low_at many s z) (sym f.place) (f.here.good pl.pos f.within) in
      let a = cell_ask m h stopped k p longest low_at many s pl f.sort y f.cost own.stable f.cell in
      let c = asks_chain m h stopped k p longest low_at many s pl f.sort y f.cost a.unit a.rid a.says own.stable.serves.some f.cell a.is in
      let tu = unit_step (unit_of m s a.unit) a.says in
      let t = with_unit m stopped s a.unit tu.now in
      let apart = unequal u a.unit (λ e. off pl.pos f.within (subst (λ (v : ℕ). Has (chain_of p pl.pos) v) (sym e) (in_chain pl a.unit c.0 f.place c.1 c.2))) in
      let spare = set_other s.units a.unit tu.now u new_unit apart in
      let here : Here t f.last pl.pos = record {
        good = λ i g. good_at_put m h stopped k p longest low_at many s t pl a.replies.stored i f.place a.replies.put a.replies.good (f.here.good pl.pos f.within) (f.here.good i g);
        on = a.replies.put.on (unit_id u) ∙ f.here.on;
        epoch = ap (λ (x : UnitState). x.epoch) spare ∙ f.here.epoch;
        filled = subst (λ (x : UnitState). Filled x f.last pl.pos) (sym spare) f.here.filled;
      } in
      unit_told s o n (Reading (works pl y)) a.unit a.rid a.says tu a.replies.says (same_out m h stopped k p longest (out (unit_id a.unit) a.rid a.says) o (sym a.is ∙ shape.asks)) ready shape a.on refl a.replies.is a.replies.no_latest
      (λ v next. cell_well t s pl y n next (Reading (works pl y)) f here _ (a.replies.well v next))

  -- It is stored in the spare.

  filled_more : (x y : UnitState) (last : Bool) (pos : ℕ) (c : Cell) → Kept x y pos c → cell_at y.cells pos ≡ Some c → Filled x last pos → Filled y last (pos + 1)
  filled_more x y true pos c kept has filled = λ n i less. by n i (last_or_less n pos less)
    where
      by : (n : ℕ) → In n → (n ≡ pos) ⊎ ((n < pos) × (eqb n pos ≡ false)) → settled_at y n ≡ true
      by n i (inl e) = subst (λ (q : ℕ). settled_at y q ≡ true) (sym e) (has_settled y pos c has)
      by n i (inr g) = other_settled x y pos n c kept g.1 (filled n i g.0)
  filled_more x y false pos c kept has filled = tt

  store_by : (s : Net m) (o : Out) (n i pos : ℕ) (c : Cell) → out (unit_id u) i (msg.Copy p.epoch pos c) ≡ o → CopyFair m p u r st s o.msg → Ready m h stopped k p s → TaskShape m h stopped k p longest (client_of m h s k) (Copying' (copy (Storing i pos c))) (o ∷ []) → StoreStage s pos n
      → (tu : UnitTurn) → unit_step (unit_of m s u) (msg.Copy p.epoch pos c) ≡ tu → Outcome (unit_of m s u) pos c tu → Asked m h stopped k p Bringing Hearing s o n
  unfolding copy_feed reply is_latest
  store_by s o n i pos c is fair ready shape f _ step (IsGone' low) =
      let x = unit_of m s u in
      let close = gone_near m h stopped k p longest x.low fair.low in
      let t = with_unit m stopped s u x in
      let up = below_of pos x.low low in
      let few = f.few in
      let fewer = pass_shrinks (longest + 2) End (pos + 1) x.low (omega (arith, up)) in
      let here = here_with s x f.last x.low f.here.good f.here.on f.here.epoch (all_low x f.last x.low (λ n less. is_below n x.low less)) in
      unit_told s o n (Storing i pos c) u i (msg.Copy p.epoch pos c) (says x (msg.Gone x.low)) (msg.Gone x.low) is ready shape f.here.on step refl (ap is_latest close)
      (λ v next. subst (λ y. Well t n next (copy_feed p (copy (Storing i pos c)) (Storing i pos c) v y next)) (sym close)
      (subst (λ b. Well t n next (skipped_if p (copy (Storing i pos c)) x.low next b)) (sym low) (gone_well t n next x.low _ (past_well t f.last x.low n next (Storing i pos c) here (omega (arith, few, fewer))))))
  store_by s o n i pos c is fair ready shape f _ step (IsHeld' y kept all low has) =
      let x = unit_of m s u in
      let t = with_unit m stopped s u y in
      let here = here_with s y f.last (pos + 1) f.here.good f.here.on (kept.epoch ∙ f.here.epoch) (filled_more x y f.last pos c kept has f.here.filled) in
      unit_told s o n (Storing i pos c) u i (msg.Copy p.epoch pos c) (record { now = y; says = Some msg.Held }) msg.Held is ready shape f.here.on step refl refl (λ v next. past_well t f.last (pos + 1) n next (Storing i pos c) here f.few)
  store_by s o n i pos c is fair ready shape f _ step (IsTaken' d at differs low) =
      let epoch = f.here.epoch in
      absurd (two (fair.same pos c d (ap (λ (q : Out). q.msg) (sym is)) f.within (omega (arith, epoch)) at) differs)

  store_told : (s : Net m) (o : Out) (n i pos : ℕ) (c : Cell) → CopyFair m p u r st s o.msg → Ready m h stopped k p s → TaskShape m h stopped k p longest (client_of m h s k) (Copying' (copy (Storing i pos c))) (o ∷ []) → StoreStage s pos n → Asked m h stopped k p Bringing Hearing s o n
  unfolding task_asks copy_work_asks unit_step unit_ask on_ask
  store_told s o n i pos c fair ready shape f =
      store_by s o n i pos c (same_out m h stopped k p longest (out (unit_id u) i (msg.Copy p.epoch pos c)) o shape.asks) fair ready shape f (unit_step (unit_of m s u) (msg.Copy p.epoch pos c)) refl (stores (unit_of m s u) p.epoch pos c f.here.epoch)

  -- It trims.

  trim_told : (s : Net m) (o : Out) (n i b : ℕ) → CopyFair m p u r st s o.msg → Ready m h stopped k p s → TaskShape m h stopped k p longest (client_of m h s k) (Copying' (copy (Trimming i b))) (o ∷ []) → TrimStage s b n → Asked m h stopped k p Bringing Hearing s o n
  unfolding task_asks copy_work_asks copy_feed is_latest
  trim_told s o n i b fair ready shape f =
      let x = unit_of m s u in
      let is = same_out m h stopped k p longest (out (unit_id u) i (msg.Trim p.epoch b)) o shape.asks in
      let g = max x.low b in
      let floor = subst (λ (q : Out). NearFloor q.msg) (sym is) fair.floor in
      let close = gone_near m h stopped k p longest g (near_most x.low b fair.low floor) in
      let t = with_unit m stopped s u (trimmed x g) in
      let here = here_with s (trimmed x g) f.last b f.here.good f.here.on f.here.epoch (all_low (trimmed x g) f.last b (λ n less. most_of x.low b n less)) in
      unit_told s o n (Trimming i b) u i (msg.Trim p.epoch b) (says (trimmed x g) (msg.Gone g)) (msg.Gone g) is ready shape f.here.on (trims_so m h stopped k p longest x b f.here.epoch) refl (ap is_latest close)
      (λ v next. subst (λ y. Well t n next (copy_feed p (copy (Trimming i b)) (Trimming i b) v y next)) (sym close)
      (gone_well t n next g _ (past_well t f.last b n next (Trimming i b) here f.few)))

  -- It is looked at.

  looks : (x : UnitState) → x.epoch ≡ p.epoch → unit_step x (has_stripe p.epoch p r st) ≡ on_has x (first_missing x (step_of p r) (how_many (first_of p r st) (range_end p r) (step_of p r)) (first_of p r st))
  unfolding unit_step unit_ask on_ask
  looks x e = ap (λ b. in_epoch b x (on_has x (first_missing x (step_of p r) (how_many (first_of p r st) (range_end p r) (step_of p r)) (first_of p r st)))) (tested x.epoch p.epoch e)

  missing_near : (b : ℕ) → too_far b ≡ false → reply (msg.Missing b) ≡ IsMissing b
  unfolding reply
  missing_near b close = ap (λ x. cond x IsOther (IsMissing b)) close

  plain_missing : (b : ℕ) → is_latest (IsMissing b) ≡ false
  unfolding is_latest
  plain_missing b = refl

  abbrev lacked : UnitState → Option ℕ
  lacked x = first_missing x (step_of p r) (how_many (first_of p r st) (range_end p r) (step_of p r)) (first_of p r st)

  -- where it lacks a position, this isn't the last way through
  lacks_well : (s : Net m) (n i q next : ℕ) (last : Bool) → Here s last End → extra last ≤ n → lacked (unit_of m s u) ≡ Some q → Well (with_unit m stopped s u (unit_of m s u)) n next (copy_from p (copy (Looking i)) q next (nat_lt q (range_end p r)))
  lacks_well s n i q next true here few e =
      let y = missed (unit_of m s u) (step_of p r) (how_many (first_of p r st) (range_end p r) (step_of p r)) (first_of p r st) q e in
      let within = missed_in p r st q (unit_of m s u) some y in
      absurd (two (here.filled q within within.below) y.lacks)
  lacks_well s n i q next false here few e =
      let x = unit_of m s u in
      let t = with_unit m stopped s u x in
      let y = missed x (step_of p r) (how_many (first_of p r st) (range_end p r) (step_of p r)) (first_of p r st) q e in
      let within = missed_in p r st q x some y in
      let less = within.below in
      let cost = pass_less (longest + 2) End 0 q (omega arith) less in
      let all = mul-le (longest + 2) (End - 0) (longest + 2) End (omega arith) (omega arith) in
      subst (λ b. Well t n next (copy_from p (copy (Looking i)) q next b)) (sym (is_below q End less))
      (read_well t true q n next (Looking i) within (here_with s x true q here.good here.on here.epoch (λ j g l. missed_before p r st q j (how_many (first_of p r st) (range_end p r) (step_of p r)) x y g l)) (omega (arith, cost, all, few)))

  look_by : (s : Net m) (o : Out) (n i : ℕ) → out (unit_id u) i (has_stripe p.epoch p r st) ≡ o → Ready m h stopped k p s → TaskShape m h stopped k p longest (client_of m h s k) (Copying' (copy (Looking i))) (o ∷ []) → LookStage s n → (a : Option ℕ) → lacked (unit_of m s u) ≡ a → Asked m h stopped k p Bringing Hearing s o n
  unfolding copy_feed reply is_latest
  look_by s o n i is ready shape f None e =
      let x = unit_of m s u in
      unit_told s o n (Looking i) u i (has_stripe p.epoch p r st) (says x msg.Whole) msg.Whole is ready shape f.here.on (looks x f.here.epoch ∙ ap (λ (a : Option ℕ). on_has x a) e) refl refl (λ v next. Ended 0 _)
  look_by s o n i is ready shape f (Some q) e =
      let x = unit_of m s u in
      let t = with_unit m stopped s u x in
      let y = missed x (step_of p r) (how_many (first_of p r st) (range_end p r) (step_of p r)) (first_of p r st) q e in
      let within = missed_in p r st q x some y in
      let close = missing_near q (near_of q (range_end p r) within.below near) in
      unit_told s o n (Looking i) u i (has_stripe p.epoch p r st) (says x (msg.Missing q)) (msg.Missing q) is ready shape f.here.on (looks x f.here.epoch ∙ ap (λ (a : Option ℕ). on_has x a) e) refl (ap is_latest close ∙ plain_missing q)
      (λ v next. subst (λ z. Well t n next (copy_feed p (copy (Looking i)) (Looking i) v z next)) (sym close) (lacks_well s n i q next f.last f.here f.few e))

  look_told : (s : Net m) (o : Out) (n i : ℕ) → Ready m h stopped k p s → TaskShape m h stopped k p longest (client_of m h s k) (Copying' (copy (Looking i))) (o ∷ []) → LookStage s n → Asked m h stopped k p Bringing Hearing s o n
  unfolding task_asks copy_work_asks
  look_told s o n i ready shape f = look_by s o n i (same_out m h stopped k p longest (out (unit_id u) i (has_stripe p.epoch p r st)) o shape.asks) ready shape f (lacked (unit_of m s u)) refl

  asked : (s : Net m) (o : Out) (n : ℕ) (w : CopyWork) → CopyFair m p u r st s o.msg → Ready m h stopped k p s → TaskShape m h stopped k p longest (client_of m h s k) (Copying' (copy w)) (o ∷ []) → WorkStage s w n → Asked m h stopped k p Bringing Hearing s o n
  asked s o n (Sealing i) fair ready shape f = seal_told s o n i fair ready shape f
  asked s o n (Reading j) fair ready shape f = read_told s o n j.place j.work ready shape f
  asked s o n (Storing i pos c) fair ready shape f = store_told s o n i pos c fair ready shape f
  asked s o n (Trimming i b) fair ready shape f = trim_told s o n i b fair ready shape f
  asked s o n (Looking i) fair ready shape f = look_told s o n i ready shape f

  -- Whatever other packets do, it stays so.

  here_keeps : (s t : Net m) (last : Bool) (a : ℕ) → Keeps m h stopped k p s t → Here s last a → Here t last a
  here_keeps s t last a keep x =
      let is = keep.units u x.epoch in
      record {
        good = λ n i. at_keeps m h stopped k p longest low_at many s t (place_in p n) keep (x.good n i);
        on = on_alike m stopped s t keep.alike (unit_id u) ∙ x.on;
        epoch = ap (λ (y : UnitState). y.epoch) is ∙ x.epoch;
        filled = subst (λ (y : UnitState). Filled y last a) (sym is) x.filled;
      }

  read_keeps : (s t : Net m) (pl : Place) (y : CellWork) (n : ℕ) → Keeps m h stopped k p s t → ReadStage s pl y n → ReadStage t pl y n
  read_keeps s t pl y n keep f =
      let own = subst (λ (z : Place). GoodAt m h stopped k p longest low_at many s z) (sym f.place) (f.here.good pl.pos f.within) in
      record { last = f.last; place = f.place; within = f.within; here = here_keeps s t f.last pl.pos keep f.here; sort = f.sort; cost = f.cost; cell = cell_keeps m h stopped k p longest low_at many s t pl f.sort y f.cost keep own.stable f.cell; few = f.few }

  stage_keeps : (s t : Net m) (w : CopyWork) (n : ℕ) → Keeps m h stopped k p s t → WorkStage s w n → WorkStage t w n
  stage_keeps s t (Sealing i) n keep f = record {
    good = λ j g. at_keeps m h stopped k p longest low_at many s t (place_in p j) keep (f.good j g);
    on = on_alike m stopped s t keep.alike (unit_id u) ∙ f.on;
    epoch = (let same = keep.epochs u in let le = f.epoch in omega (arith, same, le));
    few = f.few;
  }
  stage_keeps s t (Reading j) n keep f = read_keeps s t j.place j.work n keep f
  stage_keeps s t (Storing i pos c) n keep f = record { last = f.last; within = f.within; here = here_keeps s t f.last pos keep f.here; few = f.few }
  stage_keeps s t (Trimming i b) n keep f = record { last = f.last; at = f.at; here = here_keeps s t f.last f.at keep f.here; few = f.few }
  stage_keeps s t (Looking i) n keep f = record { last = f.last; here = here_keeps s t f.last End keep f.here; few = f.few }

  well_keeps : (s t : Net m) (n next : ℕ) (x : CopyTurn) → Keeps m h stopped k p s t → Well s n next x → Well t n next x
  well_keeps s t n next _ keep (Ended gone e) = Ended gone e
  well_keeps s t n next _ keep (Going w v gone z left asks stage few) = Going w v gone z left asks (stage_keeps s t w left keep stage) few

  facts : (c : Client m) (w : CopyWork) (o : Out) → TaskShape m h stopped k p longest c (Copying' (copy w)) (o ∷ []) → Facts m h stopped k p c o
  facts c w o x =
      let a = again_is m h stopped k p longest c (Copying' (copy w)) (o ∷ []) x in
      let b = busied m h stopped k p longest c (Copying' (copy w)) (o ∷ []) x in
      record { work = a.work; waits = a.waits; again = a.again; calm = b.calm }

  copies_machine : MachineOf m h stopped k p Bringing Hearing (λ s x. CopyFair m p u r st s x) (Over m h stopped k p)
  copies_machine = record {
    facts = λ s c o n x. facts c x.work o x.shape;
    hears_calm = λ s c from rid y n g. busied m h stopped k p longest c (Copying' (copy g.work)) (g.o ∷ []) g.shape;
    stage_stays = λ s t c o n keep x. record { work = x.work; shape = x.shape; stage = stage_keeps s t x.work n keep x.stage };
    hears_stays = λ s t c from rid y n keep g. record { work = g.work; o = g.o; shape = g.shape; awaited = g.awaited; no_latest = g.no_latest; well = λ v next. well_keeps s t n next _ keep (g.well v next) };
    stage_called = λ s c o n x. record { work = x.work; shape = shape_called m h stopped k p longest c (Copying' (copy x.work)) (o ∷ []) x.shape; stage = x.stage };
    hears_called = λ s c from rid y n g. record { work = g.work; o = g.o; shape = shape_called m h stopped k p longest c (Copying' (copy g.work)) (g.o ∷ []) g.shape; awaited = g.awaited; no_latest = g.no_latest; well = g.well };
    stage_ticked = λ s c o n x. record { work = x.work; shape = shape_ticked m h stopped k p longest c (Copying' (copy x.work)) (o ∷ []) x.shape; stage = x.stage };
    asked = λ s o n fair ready x. asked s o n x.work fair ready x.shape x.stage;
    answered = λ s from rid y n ready g. answered s (client_of m h s k) from rid y n g;
  }

  abbrev pub CopyStage : StageOf m h stopped k p
  CopyStage = One m h stopped k p Bringing Hearing

  pub copies_talk : TalkOf m h stopped k p CopyStage (λ s x. CopyFair m p u r st s x) (Over m h stopped k p)
  copies_talk = one_talk_of m h stopped k p Bringing Hearing (λ s x. CopyFair m p u r st s x) (Over m h stopped k p) copies_machine
