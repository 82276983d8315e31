-- A scan asks for positions below its layout's start.
use Rattle.std.proofs.Common.{◌≡◌, ◌⊎◌, ℕ, ◌+◌, ◌^◌, ◌<◌, List, [], not, ◌||◌, Bool, true, false, eqb, refl, ap, sym, subst, inl, inr, arith, Some, None, Option}
use Rattle.std.specs.Prelude.{nat_lt, nat_le, min, max, ⊤}
use Rattle.tg_base.specs.Layouts.{Layout}
use Rattle.tg_base.specs.Clusters.{Header}
use Rattle.tg_base.specs.declared.ids.NodeId.{NodeId}
use Rattle.tg_base.specs.declared.ids.Oid.{Oid}
use Rattle.tg_base.specs.declared.msg.Msg.{Msg}
use Rattle.tg_base.specs.declared.msg.Msg.TheVariants as msg
use Rattle.tg_base.specs.declared.packet.Out.{Out}
use Rattle.tg_kind.specs.Meaning.{Meaning}
use Rattle.tg_protocol.specs.Words.{numbers, plus_one}
use Rattle.tg_protocol.specs.Layouts.{first_layout}
use Rattle.tg_protocol.specs.Requests.{awaits, Turn, Next, Goes, Learns, Ends}
use Rattle.tg_protocol.specs.Replies.{Reply, reply}
use Rattle.tg_protocol.specs.Units.{UnitState, UnitAsk, Reads, Stores, Fills, Looks, unit_ask, on_ask}
use Rattle.tg_protocol.specs.Cells.{Place, CellWork, Puts, Gets, Fills as FillsCell, Copies, Probes, CellJob, CellEnd, Done, Gone, Fenced, work_asks, cell_asks, cell_feed, get_cell}
use Rattle.tg_protocol.specs.Sequencers.{SeqrState, SeqrTurn, new_seqr, with_positions, cell_streams, scan_on, scan_next, scan_turn, scanning, fed_if, scan_fed, begun, answers, stand_answer, links_of, issue, on_token, unfenced, own_epoch, on_learn, learn_or_old, seqr_step, seqr_tick}
use Rattle.tg_protocol.specs.Worlds.{World, start, seqr}
use Rattle.tg_protocol.specs.Runs.{Moves, Reaches}
use Rattle.tg_law_layouts.specs.Moves.Configs.{Config, config, seqr_in}
use Rattle.tg_law_layouts.proofs.Moves.Lists.{at_set, at_map}
use Rattle.tg_law_layouts.proofs.Moves.Members.{Has}
use Rattle.tg_law_layouts.proofs.Moves.Moves.{Cases, SeqrInput, Hears, Ticks, run_keeps}
use Rattle.tg_law_steps.proofs.Machines.Cells as cells
use Rattle.tg_law_reconfs.proofs.Nodes.{never_learns}

abbrev pub JobBelow : Layout → Option CellJob → Type 0
JobBelow p None = ⊤
JobBelow p (Some j) = j.place.pos < p.start

abbrev pub ScanBelow : SeqrState → Type 0
ScanBelow s = JobBelow s.proj s.scan

is_less : (a b : ℕ) → nat_lt a b ≡ true → a < b
is_less a b e = grind arith

scan_below : (s : SeqrState) (b : Bool) → scanning s ≡ b → ScanBelow (scan_on s b)
unfolding get_cell
scan_below s true e = is_less s.next s.proj.start e
scan_below s false e = tt

abbrev goes : CellJob → Next CellJob CellEnd
goes j = Goes j

same_job : (i j : CellJob) → goes i ≡ goes j → i ≡ j
same_job i j e = cc

pub place_kept : (u : ℕ) (x : Reply) (next : ℕ) (j : CellJob) (t : Turn CellJob CellEnd) → cells.Fed u x next j t → (i : CellJob) → t.to ≡ goes i → i.place ≡ j.place
place_kept u x next _ _ (cells.PutsOn a r d n is f) i h = sym (ap (λ (z : CellJob). z.place) (same_job _ i h))
place_kept u x next _ _ (cells.ReadsNone a r is) i h = sym (ap (λ (z : CellJob). z.place) (same_job _ i h))
place_kept u x next _ _ (cells.CopiesOn a w c n is f) i h = sym (ap (λ (z : CellJob). z.place) (same_job _ i h))
place_kept u x next _ _ (cells.ProbesOn a ws v vs is f) i h = sym (ap (λ (z : CellJob). z.place) (same_job _ i h))
place_kept u x next _ _ (cells.Nothing j) i h = sym (ap (λ (z : CellJob). z.place) (same_job _ i h))
place_kept u x next _ _ y i h = absurd cc

to_below : (s : SeqrState) (to : Next CellJob CellEnd) → ((i : CellJob) → to ≡ goes i → i.place.pos < s.proj.start) → ((i : CellJob) → to ≡ Learns i → ⊥) → ScanBelow s → ScanBelow (scan_next s to)
to_below s (Goes j) f g k = f j refl
to_below s (Learns j) f g k = absurd (g j refl)
to_below s (Ends (Done c)) f g k = let t = record s { next = s.next + 1; lists = with_positions s.next (cell_streams c) s.lists } in scan_below t (scanning t) refl
to_below s (Ends (Gone b)) f g k = let t = record s { next = min b s.proj.start } in scan_below t (scanning t) refl
to_below s (Ends (Fenced u e)) f g k = tt
to_below s (Ends x) f g k = k

fed_below : (s : SeqrState) (j : CellJob) (from : NodeId) (rid : ℕ) (y : Msg) (b : Bool) → j.place.pos < s.proj.start → ScanBelow s → ScanBelow (fed_if b s (scan_turn s (cell_feed j from.num (reply y) s.rids))).now
fed_below s j from rid y false less k = k
fed_below s j from rid y true less k = to_below (record s { rids = (cell_feed j from.num (reply y) s.rids).next }) (cell_feed j from.num (reply y) s.rids).to
    (λ i e. let p = ap (λ (z : Place). z.pos) (place_kept from.num (reply y) s.rids j _ (cells.cell_fed from.num (reply y) s.rids j) i e) in omega (arith, p, less)) (λ i e. never_learns j from.num (reply y) s.rids i e) k

scan_fed_below : (s : SeqrState) (o : Option CellJob) (from : NodeId) (rid : ℕ) (y : Msg) → JobBelow s.proj o → ScanBelow s → ScanBelow (scan_fed s o from rid y).now
scan_fed_below s None from rid y less k = k
scan_fed_below s (Some j) from rid y less k = fed_below s j from rid y (awaits (cell_asks j) from rid) less k

unfenced_below : (o : Option ℕ) (s : SeqrState) (from : NodeId) (rid : ℕ) (t : SeqrTurn) → ScanBelow s → ScanBelow t.now → ScanBelow (unfenced o s from rid t).now
unfenced_below None s from rid t k l = l
unfenced_below (Some e) s from rid t k l = k

own_below : (b : Bool) (s : SeqrState) (from : NodeId) (rid : ℕ) (t : SeqrTurn) → ScanBelow s → ScanBelow t.now → ScanBelow (own_epoch b s from rid t).now
own_below true s from rid t k l = unfenced_below s.fence s from rid t k l
own_below false s from rid t k l = k

issue_below : (b : Bool) (s : SeqrState) (os : List Oid) (from : NodeId) (rid : ℕ) → ScanBelow s → ScanBelow (issue s os from rid b).now
issue_below true s os from rid k = k
issue_below false s os from rid k = k

token_below : (b : Bool) (s : SeqrState) (os : List Oid) (from : NodeId) (rid : ℕ) → ScanBelow s → ScanBelow (on_token s os from rid b).now
token_below true s os from rid k = k
token_below false s os from rid k = issue_below (nat_le s.limit s.next) s os from rid k

learn_below : (b : Bool) (s : SeqrState) (q : Layout) (from : NodeId) (rid : ℕ) → ScanBelow s → ScanBelow (on_learn s q from rid b).now
learn_below true s q from rid k = let t = record s { epoch = q.epoch; proj = q; next = 0; lists = []; fence = None; scan = None } in scan_below t (scanning t) refl
learn_below false s q from rid k = unfenced_below s.fence s from rid (answers s from rid (stand_answer s [] (scanning s))) k k

old_below : (b : Bool) (s : SeqrState) (q : Layout) (from : NodeId) (rid : ℕ) → ScanBelow s → ScanBelow (learn_or_old s q from rid b).now
old_below true s q from rid k = k
old_below false s q from rid k = learn_below (nat_lt s.epoch q.epoch) s q from rid k

pub step_below : (s : SeqrState) (from : NodeId) (rid : ℕ) (y : Msg) → ScanBelow s → ScanBelow (seqr_step s from rid y).now
unfolding seqr_step
step_below s from rid (msg.Learn q) k = old_below (not (eqb q.seq s.num) || nat_lt q.epoch s.epoch) s q from rid k
step_below s from rid (msg.Token d os) k = own_below (eqb d s.epoch) s from rid (on_token s os from rid (scanning s)) k (token_below (scanning s) s os from rid k)
step_below s from rid (msg.Check d os) k = own_below (eqb d s.epoch) s from rid (answers s from rid (stand_answer s (links_of s.lists os) (scanning s))) k k
step_below s from rid y k = scan_fed_below s s.scan from rid y k k

pub tick_below : (s : SeqrState) → ScanBelow s → ScanBelow (seqr_tick s).now
unfolding seqr_tick
tick_below s k = k

-- Its layout stays where it learns none.

scan_on_proj : (s : SeqrState) (b : Bool) → (scan_on s b).proj ≡ s.proj
scan_on_proj s true = refl
scan_on_proj s false = refl

to_proj : (s : SeqrState) (to : Next CellJob CellEnd) → (scan_next s to).proj ≡ s.proj
to_proj s (Goes j) = refl
to_proj s (Learns j) = refl
to_proj s (Ends (Done c)) = let t = record s { next = s.next + 1; lists = with_positions s.next (cell_streams c) s.lists } in scan_on_proj t (scanning t)
to_proj s (Ends (Gone b)) = let t = record s { next = min b s.proj.start } in scan_on_proj t (scanning t)
to_proj s (Ends x) = refl

fed_proj : (s : SeqrState) (o : Option CellJob) (from : NodeId) (rid : ℕ) (y : Msg) → (scan_fed s o from rid y).now.proj ≡ s.proj
fed_proj s None from rid y = refl
fed_proj s (Some j) from rid y = by (awaits (cell_asks j) from rid)
  where
    by : (b : Bool) → (fed_if b s (scan_turn s (cell_feed j from.num (reply y) s.rids))).now.proj ≡ s.proj
    by true = to_proj (record s { rids = (cell_feed j from.num (reply y) s.rids).next }) (cell_feed j from.num (reply y) s.rids).to
    by false = refl

abbrev pub LearnsNone : Msg → Type 0
LearnsNone (msg.Learn q) = ⊥
LearnsNone (msg.Token e os) = ⊥
LearnsNone (msg.Check e os) = ⊥
LearnsNone y = ⊤

pub step_proj : (s : SeqrState) (from : NodeId) (rid : ℕ) (y : Msg) → LearnsNone y → (seqr_step s from rid y).now.proj ≡ s.proj
unfolding seqr_step
step_proj s from rid (msg.Learn q) f = absurd f
step_proj s from rid (msg.Token e os) f = absurd f
step_proj s from rid (msg.Check e os) f = absurd f
step_proj s from rid y f = fed_proj s s.scan from rid y

-- What it sends, it awaits.

fed_sends : (s : SeqrState) (o : Option CellJob) (from : NodeId) (rid : ℕ) (y : Msg) (x : Out) → Has (scan_fed s o from rid y).sends x → Has (Rattle.tg_protocol.specs.Sequencers.seqr_asks (scan_fed s o from rid y).now) x
fed_sends s None from rid y x h = absurd h
fed_sends s (Some j) from rid y x h = by (awaits (cell_asks j) from rid) h
  where
    by : (b : Bool) → Has (fed_if b s (scan_turn s (cell_feed j from.num (reply y) s.rids))).sends x → Has (Rattle.tg_protocol.specs.Sequencers.seqr_asks (fed_if b s (scan_turn s (cell_feed j from.num (reply y) s.rids))).now) x
    by true h = Rattle.tg_law_layouts.proofs.Moves.Members.has_filter _ (Rattle.tg_protocol.specs.Sequencers.seqr_asks (scan_turn s (cell_feed j from.num (reply y) s.rids))) x h
    by false h = absurd h

pub step_sends : (s : SeqrState) (from : NodeId) (rid : ℕ) (y : Msg) → LearnsNone y → (x : Out) → Has (seqr_step s from rid y).sends x → Has (Rattle.tg_protocol.specs.Sequencers.seqr_asks (seqr_step s from rid y).now) x
unfolding seqr_step
step_sends s from rid (msg.Learn q) f x h = absurd f
step_sends s from rid (msg.Token e os) f x h = absurd f
step_sends s from rid (msg.Check e os) f x h = absurd f
step_sends s from rid y f x h = fed_sends s s.scan from rid y x h

pub tick_sends : (s : SeqrState) (x : Out) → Has (seqr_tick s).sends x → Has (Rattle.tg_protocol.specs.Sequencers.seqr_asks (seqr_tick s).now) x
unfolding seqr_tick
tick_sends s x h = h

-- What it asks is near where the start is.

abbrev pub PosNear : UnitAsk → Type 0
PosNear (Stores e p c) = p + 1 < 2 ^ 62
PosNear (Fills e p) = p + 1 < 2 ^ 62
PosNear a = ⊤

asks_near : (a : Place) (w : CellWork) → a.pos + 1 < 2 ^ 62 → (o : Out) → Has (work_asks a w) o → PosNear (unit_ask o.msg)
unfolding work_asks unit_ask
asks_near a (Puts r d i) near o (inl e) = subst (λ (z : Out). PosNear (unit_ask z.msg)) (sym e) near
asks_near a (Puts r d i) near o (inr g) = absurd g
asks_near a (Gets r) near o (inl e) = subst (λ (z : Out). PosNear (unit_ask z.msg)) (sym e) tt
asks_near a (Gets r) near o (inr g) = absurd g
asks_near a (FillsCell r) near o (inl e) = subst (λ (z : Out). PosNear (unit_ask z.msg)) (sym e) near
asks_near a (FillsCell r) near o (inr g) = absurd g
asks_near a (Copies r c i) near o (inl e) = subst (λ (z : Out). PosNear (unit_ask z.msg)) (sym e) near
asks_near a (Copies r c i) near o (inr g) = absurd g
asks_near a (Probes ws) near o g = let x = Rattle.tg_law_reconfs.proofs.Waits.has_asked Rattle.tg_protocol.specs.Words.unit_id _ ws o g in subst (λ (z : Out). PosNear (unit_ask z.msg)) (sym x.is) tt

pub scans_near : (p : Layout) (o : Option CellJob) → p.start < 2 ^ 62 → JobBelow p o → (x : Out) → Has (Rattle.tg_protocol.specs.Sequencers.scan_asks o) x → PosNear (unit_ask x.msg)
scans_near p None near less x h = absurd h
scans_near p (Some j) near less x h = asks_near j.place j.work (omega (arith, near, less)) x h

-- so highs stay near
high_by : (s : UnitState) (e p : ℕ) (c : Rattle.tg_base.specs.declared.cell.Cell.Cell) → ((on_ask s (Stores e p c)).now.high ≡ s.high) ⊎ ((on_ask s (Stores e p c)).now.high ≡ max s.high (plus_one p))
unfolding on_ask
high_by s e p c = grind arith

fill_by : (s : UnitState) (e p : ℕ) → ((on_ask s (Fills e p)).now.high ≡ s.high) ⊎ ((on_ask s (Fills e p)).now.high ≡ max s.high (plus_one p))
unfolding on_ask
fill_by s e p = grind arith

greater_near : (n a p : ℕ) → a < 2 ^ 62 → p + 1 < 2 ^ 62 → (n ≡ a) ⊎ (n ≡ max a (plus_one p)) → n < 2 ^ 62
greater_near n a p x y (inl e) = omega (arith, e, x)
greater_near n a p x y (inr e) = grind (arith, e, x, y)

read_high : (s : UnitState) (e p : ℕ) → (on_ask s (Reads e p)).now.high ≡ s.high
unfolding on_ask
read_high s e p = grind arith

look_high : (s : UnitState) (e lo hi st : ℕ) → (on_ask s (Looks e lo hi st)).now.high ≡ s.high
unfolding on_ask
look_high s e lo hi st = grind arith

abbrev pub Scan : UnitAsk → Type 0
Scan (Reads e p) = ⊤
Scan (Stores e p c) = ⊤
Scan (Fills e p) = ⊤
Scan (Looks e lo hi st) = ⊤
Scan a = ⊥

pub scan_high : (s : UnitState) (a : UnitAsk) → Scan a → PosNear a → s.high < 2 ^ 62 → (on_ask s a).now.high < 2 ^ 62
scan_high s (Reads e p) f near low = let i = read_high s e p in omega (arith, i, low)
scan_high s (Stores e p c) f near low = greater_near _ s.high p low near (high_by s e p c)
scan_high s (Fills e p) f near low = greater_near _ s.high p low near (fill_by s e p)
scan_high s (Looks e lo hi st) f near low = let i = look_high s e lo hi st in omega (arith, i, low)
scan_high s (Rattle.tg_protocol.specs.Units.Seals e) f near low = absurd f
scan_high s (Rattle.tg_protocol.specs.Units.TrimsBelow e b) f near low = absurd f
scan_high s Rattle.tg_protocol.specs.Units.Nothing f near low = absurd f

-- Over worlds.
module _ (m : Meaning) where
  input_below : (c : Config m) → ((s : ℕ) → ScanBelow (seqr_in m c s)) → (s : ℕ) (t : SeqrTurn) → SeqrInput m c s t → ScanBelow t.now
  input_below c h s _ (Hears p comes) = step_below (seqr_in m c s) p.from p.rid p.msg (h s)
  input_below c h s _ Ticks = tick_below (seqr_in m c s) (h s)

  keeps_below : (c : Config m) → ((s : ℕ) → ScanBelow (seqr_in m c s)) → Cases m c (λ d. (s : ℕ) → ScanBelow (seqr_in m d s))
  keeps_below c h = record {
    idle = h;
    unit = λ u p a less. h;
    layout = λ l p a less. h;
    seqr = λ s t i less. at_set c.seqrs s t.now (λ j. new_seqr j c.cluster.limit (first_layout c.cluster)) (λ j x. ScanBelow x) less (input_below c h s t i) (λ j other. h j);
    client = λ k t i less. h;
  }

  new_below : (h : Header) (n : ℕ) → ScanBelow (new_seqr n h.limit (first_layout h))
  unfolding new_seqr
  new_below h n = tt

  start_below : (h : Header) → (s : ℕ) → ScanBelow (seqr_in m (config m (start m h)) s)
  unfolding start
  start_below h s = at_map (λ (n : ℕ). new_seqr n h.limit (first_layout h)) (numbers h.seqs 0) s (new_seqr s h.limit (first_layout h)) (λ x. ScanBelow x) (λ n. new_below h n) (new_below h s)

  pub scans_reached : (h : Header) (ms : Moves m) (w : World m) → Reaches m h ms w → (s : ℕ) → ScanBelow (seqr m w s)
  scans_reached h ms w r = subst (λ (v : World m). (s : ℕ) → ScanBelow (seqr_in m (config m v) s)) (sym r.goes.is) (run_keeps m (λ c. (s : ℕ) → ScanBelow (seqr_in m c s)) keeps_below ms (start m h) (start_below h))
