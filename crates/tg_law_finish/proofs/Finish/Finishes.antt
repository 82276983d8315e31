-- A command that waits for an append alone is answered.
use Rattle.std.proofs.Common.{◌≡◌, ◌⊎◌, ℕ, zero, suc, ◌+◌, ◌*◌, ◌<◌, ◌≤◌, List, [], ◌∷◌, ◌++◌, length, map, false, refl, ap, sym, subst, inl, inr, arith, Some, None, Option, eqb}
use Rattle.tg_base.specs.Layouts.{Layout}
use Rattle.tg_base.specs.declared.cell.Cell.{Cell}
use Rattle.tg_base.specs.declared.cell.Cell.TheVariants.{Data}
use Rattle.tg_base.specs.declared.ids.NodeId.{NodeId}
use Rattle.tg_base.specs.declared.packet.Out.{Out}
use Rattle.tg_kind.specs.Meaning.{Meaning}
use Rattle.tg_base.specs.Orders.{node_eq}
use Rattle.tg_protocol.specs.Words.{unit_id, layout_id, seqr_id, client_id, numbers}
use Rattle.tg_protocol.specs.Entries.{streams_of}
use Rattle.tg_protocol.specs.Layouts.{chain_of}
use Rattle.tg_protocol.specs.Cells.{CellWork, Puts, Gets, Fills, Copies, Probes, CellJob, Place, place_in, works, work_asks}
use Rattle.tg_protocol.specs.Appending.{Append, AppendWork, Asking, Putting, Judging, append_work_asks, append_asks}
use Rattle.tg_protocol.specs.Clients.{Client}
use Rattle.tg_protocol.specs.Worlds.{World, nodes, seqr, client}
use Rattle.tg_law_finish.proofs.Finish.Working.{Working, Lawful, at_chain}
use Rattle.tg_law_finish.proofs.Finish.Writing.{Writes, Stands, PutStands, JudgeStands, Clear}
use Rattle.tg_law_finish.proofs.Finish.Bounds.{WritesFinish}
use Rattle.tg_law_finish.proofs.Finish.Talks.{One, Request, one_talk}
use Rattle.tg_law_finish.proofs.Finish.Writers.{Writing, Hearing, writes_machine, asks_away}
use Rattle.tg_law_finish.proofs.Finish.Nets.{Net, net}
use Rattle.tg_law_finish.proofs.Finish.Lists.{Each}
use Rattle.tg_law_finish.proofs.Finish.Strays.{Old}
use Rattle.tg_law_finish.proofs.Finish.Others.{Ready, weigh}
use Rattle.tg_law_finish.proofs.Finish.Rounds.{Waiting, finishes_from}
use Rattle.tg_law_finish.proofs.Finish.Places.{UnitServes, Serves, Issues, CanIssue, Below}
use Rattle.tg_law_finish.proofs.Finish.Places as places
use Rattle.tg_law_finish.proofs.Finish.Appends.{AppendStage}

-- A client stands once among the nodes.
module _ (k : ℕ) where
  abbrev pub Off : NodeId → Type 0
  Off x = node_eq x (client_id k) ≡ false

  each_both : (xs ys : List NodeId) → Each Off xs → Each Off ys → Each Off (xs ++ ys)
  each_both [] ys a b = b
  each_both (x ∷ xs) ys a b = (a.0, each_both xs ys a.1 b)

  units_off : (n a : ℕ) → Each Off (map unit_id (numbers n a))
  unfolding node_eq
  units_off zero a = tt
  units_off (suc n) a = (refl, units_off n (a + 1))

  layouts_off : (n a : ℕ) → Each Off (map layout_id (numbers n a))
  unfolding node_eq
  layouts_off zero a = tt
  layouts_off (suc n) a = (refl, layouts_off n (a + 1))

  seqrs_off : (n a : ℕ) → Each Off (map seqr_id (numbers n a))
  unfolding node_eq
  seqrs_off zero a = tt
  seqrs_off (suc n) a = (refl, seqrs_off n (a + 1))

  differs : (a : ℕ) → eqb a k ≡ false → Off (client_id a)
  unfolding node_eq
  differs a e = e

  later_off : (n a : ℕ) → k < a → Each Off (map client_id (numbers n a))
  later_off zero a less = tt
  later_off (suc n) a less = (differs a (grind arith), later_off n (a + 1) (omega (arith, less)))

  pub record Once (xs : List NodeId) : Type 0 where
    pub front : List NodeId
    pub back : List NodeId
    pub is : xs ≡ front ++ client_id k ∷ back
    pub not_front : Each Off front
    pub not_back : Each Off back

  one_before : (x : NodeId) (xs : List NodeId) → Off x → Once xs → Once (x ∷ xs)
  one_before x xs off o = record { front = x ∷ o.front; back = o.back; is = ap (λ l. x ∷ l) o.is; not_front = (off, o.not_front); not_back = o.not_back }

  first_one : (a : ℕ) (xs : List NodeId) → k ≡ a → Each Off xs → Once (client_id a ∷ xs)
  first_one a xs e off = record { front = []; back = xs; is = ap (λ n. client_id n ∷ xs) (sym e); not_front = tt; not_back = off }

  same_or_more : (a : ℕ) → (k ≡ a) ⊎ ((eqb a k ≡ false) × ((a ≤ k) → a + 1 ≤ k))
  same_or_more a = by (three a k)
    where
      three : (a b : ℕ) → (b ≡ a) ⊎ ((eqb a b ≡ false) × ((b < a) ⊎ (a + 1 ≤ b)))
      three a b = grind arith

      more : (a b : ℕ) → (b < a) ⊎ (a + 1 ≤ b) → a ≤ b → a + 1 ≤ b
      more a b (inl x) le = absurd (omega (arith, x, le))
      more a b (inr x) le = x

      by : (k ≡ a) ⊎ ((eqb a k ≡ false) × ((k < a) ⊎ (a + 1 ≤ k))) → (k ≡ a) ⊎ ((eqb a k ≡ false) × ((a ≤ k) → a + 1 ≤ k))
      by (inl e) = inl e
      by (inr e) = inr (e.0, λ le. more a k e.1 le)

  one_of : (n a : ℕ) → (k ≡ a) ⊎ ((eqb a k ≡ false) × ((a ≤ k) → a + 1 ≤ k)) → a ≤ k → (a + 1 ≤ k → Once (map client_id (numbers n (a + 1)))) → Once (client_id a ∷ map client_id (numbers n (a + 1)))
  one_of n a (inl e) le rest = first_one a _ e (later_off n (a + 1) (omega (arith, e)))
  one_of n a (inr e) le rest = one_before (client_id a) _ (differs a e.0) (rest (e.1 le))

  clients_once : (n a : ℕ) → a ≤ k → k < a + n → Once (map client_id (numbers n a))
  clients_once zero a le less = absurd (omega (arith, le, less))
  clients_once (suc n) a le less = one_of n a (same_or_more a) le (λ up. clients_once n (a + 1) up (omega (arith, less)))

  many_before : (xs ys : List NodeId) → Each Off xs → Once ys → Once (xs ++ ys)
  many_before [] ys off o = o
  many_before (x ∷ xs) ys off o = one_before x (xs ++ ys) off.0 (many_before xs ys off.1 o)

  pub nodes_once : (m : Meaning) (w : World m) → k < length w.clients → Once (nodes m w)
  nodes_once m w less = many_before _ _ (each_both _ _ (each_both _ _ (units_off (length w.units) 0) (layouts_off (length w.layouts) 0)) (seqrs_off (length w.seqrs) 0)) (clients_once (length w.clients) 0 (omega arith) (omega (arith, less)))

module _ (m : Meaning) (w : World m) (k : ℕ) (p : Layout) (longest : ℕ) (a : Working m w k p) (b : Lawful m w p longest) where
  abbrev Here : Net m → Place → Type 0
  Here s x = Serves m w.cluster w.stopped k p longest s x

  pub ready : Ready m w.cluster w.stopped k p (net m w)
  ready = record { on = a.client_runs; rests = b.rests; old = λ x off. record { scan = old (seqr m w x).proj (seqr m w x).scan (b.scans x off) }; layouts = b.layouts; idle = a.others }
    where
      old : (q : Layout) (o : Option CellJob) → Rattle.tg_law_finish.proofs.Finish.Working.JobOff m p.epoch q o → Rattle.tg_law_finish.proofs.Finish.Strays.JobOff p.epoch q o
      old q None e = tt
      old q (Some j) e = e

  pub serves : (pos : ℕ) → Here (net m w) (place_in p pos)
  serves pos = record { epoch = refl; some = b.some pos; short = b.short pos; unit = λ i less. record { on = a.units_run pos i less; epoch = a.units_stand pos i less; low = b.lows (at_chain m p pos i) } }

  pub issues : (x : Append) → CanIssue m w.cluster w.stopped k p longest (net m w) x.draft
  issues x = record { on = a.seqr_runs; epoch = a.seqr_stands; unfenced = a.seqr_unfenced; ready = a.seqr_ready; rests = b.rests; limit = b.limit; named = b.named (streams_of x.draft); serves = serves (seqr m w p.seq).next; unwritten = b.unwritten }

  -- Where the append stands.

  at_place : (pl : Place) → pl ≡ place_in p pl.pos → Here (net m w) pl
  at_place pl e = subst (λ x. Here (net m w) x) (sym e) (serves pl.pos)

  below_at : (pl : Place) → pl ≡ place_in p pl.pos → Below m w.cluster w.stopped k p longest (net m w) pl
  below_at pl e = subst (λ (x : Place). Below m w.cluster w.stopped k p longest (net m w) x) (sym e) (λ i c less has low. b.heads pl.pos i c less has low)

  clear_at : (pl : Place) (c : Cell) (i : ℕ) → pl ≡ place_in p pl.pos → Clear m w p pl.pos c i → places.Clear m w.cluster w.stopped k p longest (net m w) pl c i
  clear_at pl c i e clear = subst (λ (x : Place). places.Clear m w.cluster w.stopped k p longest (net m w) x c i) (sym e) clear

  less_at : (pl : Place) (i : ℕ) → pl ≡ place_in p pl.pos → i < length (chain_of p pl.pos) → i < length pl.chain
  less_at pl i e less = subst (λ (x : Place). i < length x.chain) (sym e) less

  pub record Start (c : Client m) (x : Append) : Type 0 where
    pub o : Out
    pub left : ℕ
    pub asks : append_asks p x ≡ o ∷ []
    pub below : o.rid < c.next
    pub stage : AppendStage m w.cluster w.stopped k p longest (net m w) x x.work left
    pub few : left ≤ longest + longest

  one : 0 < longest
  one = let x = b.some 0 in let y = b.short 0 in omega (arith, x, y)

  abbrev StartOf : Client m → Append → AppendWork → Type 0
  StartOf c x y = (o : Out) × (left : ℕ) × (append_work_asks p x y ≡ o ∷ []) × (o.rid < c.next) × AppendStage m w.cluster w.stopped k p longest (net m w) x y left × (left ≤ longest + longest)

  put_start : (c : Client m) (x : Append) (pl : Place) (y : CellWork) → pl ≡ place_in p pl.pos → PutStands m w c p x pl.pos y → StartOf c x (Putting (works pl y))
  unfolding append_work_asks work_asks
  put_start c x pl (Puts r d zero) e f = let pos = one in
      (_, longest + 1, refl, f.below, inr (record { token = f.token; has = f.has; serves = at_place pl e; first = refl; below = below_at pl e; issue = issues x; off = f.off; few = omega arith }), omega (arith, pos))
  put_start c x pl (Puts r d (suc i)) e f = let short = (at_place pl e).short in
      (_, longest, refl, f.0.below, inl (record { token = f.0.token; has = f.0.has; serves = at_place pl e; less = less_at pl (suc i) e f.0.less; clear = clear_at pl (Data d) (suc i) e f.1; few = omega (arith, short) }), omega arith)
  put_start c x pl (Gets r) e f = absurd f
  put_start c x pl (Fills r) e f = absurd f
  put_start c x pl (Copies r y i) e f = absurd f
  put_start c x pl (Probes ws) e f = absurd f

  judge_start : (c : Client m) (x : Append) (pl : Place) (y : CellWork) → pl ≡ place_in p pl.pos → JudgeStands m w c p x pl.pos y → StartOf c x (Judging (works pl y))
  unfolding append_work_asks work_asks
  judge_start c x pl (Puts r d i) e f = absurd f
  judge_start c x pl (Gets r) e f = absurd f
  judge_start c x pl (Fills r) e f = let short = (at_place pl e).short in
      (_, longest + longest, refl, f.below, record { token = f.token; has = f.has; serves = at_place pl e; below = below_at pl e; issue = issues x; off = f.off; few = omega (arith, short) }, omega arith)
  judge_start c x pl (Copies r y i) e f = let short = (at_place pl e).short in
      (_, longest + longest, refl, f.0.below, record { token = f.0.token; has = f.0.has; serves = at_place pl e; less = less_at pl i e f.0.less; clear = clear_at pl y i e f.1; issue = issues x; off = f.0.off; few = omega (arith, short) }, omega arith)
  judge_start c x pl (Probes ws) e f = absurd f

  start : (c : Client m) (x : Append) (y : AppendWork) → Stands m w c p x y → StartOf c x y
  unfolding append_work_asks
  start c x (Asking r) f = (_, longest, refl, f, (issues x, omega arith), omega arith)
  start c x (Putting j) f = put_start c x j.place j.work f.0 f.1
  start c x (Judging j) f = judge_start c x j.place j.work f.0 f.1

  pub clients_long : k < length w.clients
  clients_long = let r = a.client_runs in grind arith

  waits : (f : Writes m w k p) → Waiting m w.cluster w.stopped k p (One m w.cluster w.stopped k p (Writing m w.cluster w.stopped k p longest) (Hearing m w.cluster w.stopped k p longest)) (nodes m w) (net m w) [] (4 * longest + 2 * (client m w k).layouts + 2)
  unfolding weigh
  waits f =
      let c = client m w k in
      let x = start c f.append f.append.work f.stands in
      let once = nodes_once k m w clients_long in
      let few = x.5 in
      record {
        ready = ready;
        os = x.0 ∷ [];
        left = x.1;
        stage = Request x.0 x.1 (record { append = f.append; shape = record { stand = a.client_stands; work = f.work; waits = f.waits; purpose = f.purpose; hand = f.hand; asks = x.2; below = x.3; away = λ l. asks_away m w.cluster w.stopped k p longest (net m w) f.append f.append.work x.1 x.0 l x.4 x.2 }; last = f.last; stage = x.4 });
        strays = tt;
        layouts = c.layouts;
        same = refl;
        few = omega (arith, few);
        front = once.front;
        back = once.back;
        is = once.is;
        not_front = once.not_front;
        not_back = once.not_back;
      }

pub writes_finish : (m : Meaning) → WritesFinish m
writes_finish m w k p c a b f none = finishes_from m w.cluster w.stopped k p _ (one_talk m w.cluster w.stopped k p _ _ _ (writes_machine m w.cluster w.stopped k p c)) w _ a.on_way refl refl (waits m w k p c a b f) none
