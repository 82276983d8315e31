-- A sequencer's scan was fenced by an epoch that some unit has come to.
use Rattle.std.proofs.Common.{◌≡◌, ◌⊎◌, ℕ, ◌+◌, ◌<◌, ◌≤◌, List, [], ◌∷◌, ◌++◌, length, not, Bool, true, false, ◌||◌, eqb, refl, ap, ◌∙◌, sym, subst, inl, inr, arith, Some, None, Option}
use Rattle.std.specs.Prelude.{nat_lt, nat_le, min}
use Rattle.tg_base.specs.Layouts.{Layout}
use Rattle.tg_base.specs.Clusters.{Header}
use Rattle.tg_base.specs.declared.ids.NodeId.{NodeId}
use Rattle.tg_base.specs.declared.ids.Oid.{Oid}
use Rattle.tg_base.specs.declared.ids.Role.TheVariants as role
use Rattle.tg_base.specs.declared.msg.Msg.{Msg}
use Rattle.tg_base.specs.declared.msg.Msg.TheVariants as msg
use Rattle.tg_base.specs.declared.packet.Out.{Out}
use Rattle.tg_base.specs.declared.packet.Packet.{Packet}
use Rattle.tg_kind.specs.Meaning.{Meaning}
use Rattle.tg_protocol.specs.Words.{unit_id, seqr_id, client_id, numbers}
use Rattle.tg_protocol.specs.Layouts.{first_layout}
use Rattle.tg_protocol.specs.Requests.{out, awaits, Turn, Next, Goes, Learns, Ends}
use Rattle.tg_protocol.specs.Replies.{Reply, IsFenced, reply}
use Rattle.tg_protocol.specs.Units.{UnitState, UnitAsk, UnitTurn, new_unit, unit_ask, on_ask, unit_step}
use Rattle.tg_protocol.specs.Cells.{Place, CellWork, Puts, Gets, Fills, Copies, Probes, CellJob, CellEnd, Done, Gone, Fenced, work_asks, cell_asks, cell_feed}
use Rattle.tg_protocol.specs.Sequencers.{SeqrState, SeqrTurn, new_seqr, with_positions, cell_streams, scan_on, scan_next, scan_turn, scanning, fed_if, scan_fed, answers, stand_answer, links_of, issue, on_token, unfenced, own_epoch, on_learn, learn_or_old, seqr_step, seqr_tick}
use Rattle.tg_protocol.specs.Worlds.{World, start, unit, seqr, answer_to}
use Rattle.tg_protocol.specs.Runs.{Moves, Reaches}
use Rattle.tg_law_layouts.specs.Moves.Configs.{Config, config, unit_in, seqr_in}
use Rattle.tg_law_layouts.proofs.Moves.Growth.{answer_from, outs_from, unit_turn_grows}
use Rattle.tg_law_layouts.proofs.Moves.Lists.{at_set, at_map}
use Rattle.tg_law_layouts.proofs.Moves.Members.{Has, has_either}
use Rattle.tg_law_layouts.proofs.Moves.Moves.{Cases, Comes, unit_turn, SeqrInput, Hears, Ticks, run_keeps}
use Rattle.tg_law_steps.proofs.Machines.Cells as cells
use Rattle.tg_law_finish.proofs.Finish.Lists.{set_there}
use Rattle.tg_law_reconfs.proofs.Waits.{has_asked}
use Rattle.tg_law_reconfs.proofs.Answering.{awaited_one}

-- What a unit tells as its fence, it has come to.

fenced_ask : (s : UnitState) (a : UnitAsk) (e : ℕ) → (on_ask s a).says ≡ Some (msg.Fenced e) → e ≤ (on_ask s a).now.epoch
unfolding on_ask
fenced_ask s a e h = grind arith

fenced_step : (s : UnitState) (y : Msg) (e : ℕ) → (unit_step s y).says ≡ Some (msg.Fenced e) → e ≤ (unit_step s y).now.epoch
unfolding unit_step
fenced_step s y e h = fenced_ask s (unit_ask y) e h

-- A sequencer's fence.

scan_fence : (s : SeqrState) (b : Bool) → (scan_on s b).fence ≡ s.fence
scan_fence s true = refl
scan_fence s false = refl

none_some : (e : ℕ) → None ≡ Some e → ⊥
none_some e h = cc

to_fence : (s : SeqrState) (to : Next CellJob CellEnd) (e : ℕ) → (scan_next s to).fence ≡ Some e → (s.fence ≡ Some e) ⊎ ((u : ℕ) × (to ≡ Ends (Fenced u e)))
to_fence s (Goes j) e h = inl h
to_fence s (Learns j) e h = inl h
to_fence s (Ends (Done c)) e h = let t = record s { next = s.next + 1; lists = with_positions s.next (cell_streams c) s.lists } in inl (sym (scan_fence t (scanning t)) ∙ h)
to_fence s (Ends (Gone b)) e h = let t = record s { next = min b s.proj.start } in inl (sym (scan_fence t (scanning t)) ∙ h)
to_fence s (Ends (Fenced u d)) e h = inr (u, ap (λ (n : ℕ). Ends (Fenced u n)) (one d e h))
  where
    one : (d e : ℕ) → Some d ≡ Some e → d ≡ e
    one d e h = cc
to_fence s (Ends x) e h = inl h

abbrev ends_at : ℕ → ℕ → Next CellJob CellEnd
ends_at u e = Ends (Fenced u e)

same_fence : (u v d e : ℕ) → ends_at u d ≡ ends_at v e → d ≡ e
same_fence u v d e h = cc

-- it ends so where it is told a fence
fence_told : (u : ℕ) (x : Reply) (next : ℕ) (j : CellJob) (t : Turn CellJob CellEnd) → cells.Fed u x next j t → (v e : ℕ) → t.to ≡ Ends (Fenced v e) → x ≡ IsFenced e
fence_told u x next _ _ (cells.IsFence j d is f) v e h = is ∙ ap (λ (n : ℕ). IsFenced n) (same_fence u v d e h)
fence_told u x next _ _ y v e h = absurd cc

-- of what a scan awaits
pub record FencedBy (s : SeqrState) (from : NodeId) (rid : ℕ) (y : Msg) (e : ℕ) : Type 0 where
  pub job : CellJob
  pub awaited : awaits (cell_asks job) from rid ≡ true
  pub told : reply y ≡ IsFenced e

abbrev FenceBy : SeqrState → NodeId → ℕ → Msg → SeqrState → Type 0
FenceBy s from rid y t = (e : ℕ) → t.fence ≡ Some e → (s.fence ≡ Some e) ⊎ FencedBy s from rid y e

fed_fence : (s : SeqrState) (j : CellJob) (from : NodeId) (rid : ℕ) (y : Msg) (b : Bool) → awaits (cell_asks j) from rid ≡ b → FenceBy s from rid y (fed_if b s (scan_turn s (cell_feed j from.num (reply y) s.rids))).now
fed_fence s j from rid y false a e h = inl h
fed_fence s j from rid y true a e h = by (to_fence (record s { rids = (cell_feed j from.num (reply y) s.rids).next }) (cell_feed j from.num (reply y) s.rids).to e h)
  where
    by : (s.fence ≡ Some e) ⊎ ((u : ℕ) × ((cell_feed j from.num (reply y) s.rids).to ≡ Ends (Fenced u e))) → (s.fence ≡ Some e) ⊎ FencedBy s from rid y e
    by (inl i) = inl i
    by (inr i) = inr (record { job = j; awaited = a; told = fence_told from.num (reply y) s.rids j _ (cells.cell_fed from.num (reply y) s.rids j) i.0 e i.1 })

scan_fed_fence : (s : SeqrState) (o : Option CellJob) (from : NodeId) (rid : ℕ) (y : Msg) → FenceBy s from rid y (scan_fed s o from rid y).now
scan_fed_fence s None from rid y e h = inl h
scan_fed_fence s (Some j) from rid y e h = fed_fence s j from rid y (awaits (cell_asks j) from rid) refl e h

unfenced_fence : (o : Option ℕ) (s : SeqrState) (from : NodeId) (rid : ℕ) (t : SeqrTurn) → t.now.fence ≡ s.fence → (unfenced o s from rid t).now.fence ≡ s.fence
unfenced_fence None s from rid t e = e
unfenced_fence (Some d) s from rid t e = refl

own_fence : (b : Bool) (s : SeqrState) (from : NodeId) (rid : ℕ) (t : SeqrTurn) → t.now.fence ≡ s.fence → (own_epoch b s from rid t).now.fence ≡ s.fence
own_fence true s from rid t e = unfenced_fence s.fence s from rid t e
own_fence false s from rid t e = refl

issue_fence : (b : Bool) (s : SeqrState) (os : List Oid) (from : NodeId) (rid : ℕ) → (issue s os from rid b).now.fence ≡ s.fence
issue_fence true s os from rid = refl
issue_fence false s os from rid = refl

token_fence : (b : Bool) (s : SeqrState) (os : List Oid) (from : NodeId) (rid : ℕ) → (on_token s os from rid b).now.fence ≡ s.fence
token_fence true s os from rid = refl
token_fence false s os from rid = issue_fence (nat_le s.limit s.next) s os from rid

learn_fence : (b : Bool) (s : SeqrState) (q : Layout) (from : NodeId) (rid : ℕ) (e : ℕ) → (on_learn s q from rid b).now.fence ≡ Some e → s.fence ≡ Some e
learn_fence true s q from rid e h = let t = record s { epoch = q.epoch; proj = q; next = 0; lists = []; fence = None; scan = None } in absurd (none_some e (sym (scan_fence t (scanning t)) ∙ h))
learn_fence false s q from rid e h = sym (unfenced_fence s.fence s from rid (answers s from rid (stand_answer s [] (scanning s))) refl) ∙ h

old_fence : (b : Bool) (s : SeqrState) (q : Layout) (from : NodeId) (rid : ℕ) (e : ℕ) → (learn_or_old s q from rid b).now.fence ≡ Some e → s.fence ≡ Some e
old_fence true s q from rid e h = h
old_fence false s q from rid e h = learn_fence (nat_lt s.epoch q.epoch) s q from rid e h

step_fence : (s : SeqrState) (from : NodeId) (rid : ℕ) (y : Msg) → FenceBy s from rid y (seqr_step s from rid y).now
unfolding seqr_step
step_fence s from rid (msg.Learn q) e h = inl (old_fence (not (eqb q.seq s.num) || nat_lt q.epoch s.epoch) s q from rid e h)
step_fence s from rid (msg.Token d os) e h = inl (sym (own_fence (eqb d s.epoch) s from rid _ (token_fence (scanning s) s os from rid)) ∙ h)
step_fence s from rid (msg.Check d os) e h = inl (sym (own_fence (eqb d s.epoch) s from rid (answers s from rid (stand_answer s (links_of s.lists os) (scanning s))) refl) ∙ h)
step_fence s from rid y e h = scan_fed_fence s s.scan from rid y e h

tick_fence : (s : SeqrState) → (seqr_tick s).now.fence ≡ s.fence
unfolding seqr_tick
tick_fence s = refl

-- What a scan awaits is of units.

one_unit : (u r : ℕ) (y : Msg) (o : Out) → Has (out (unit_id u) r y ∷ []) o → (v : ℕ) × (o.to ≡ unit_id v)
one_unit u r y o (inl e) = (u, ap (λ (z : Out). z.to) e)
one_unit u r y o (inr h) = absurd h

cells_units : (a : Place) (w : CellWork) (o : Out) → Has (work_asks a w) o → (u : ℕ) × (o.to ≡ unit_id u)
unfolding work_asks
cells_units a (Puts r d i) o h = one_unit _ r _ o h
cells_units a (Gets r) o h = one_unit _ r _ o h
cells_units a (Fills r) o h = one_unit _ r _ o h
cells_units a (Copies r c i) o h = one_unit _ r _ o h
cells_units a (Probes ws) o h = let x = has_asked unit_id _ ws o h in (x.num, ap (λ (z : Out). z.to) x.is)

fence_from : (s : SeqrState) (from : NodeId) (rid : ℕ) (y : Msg) (e : ℕ) → FencedBy s from rid y e → (u : ℕ) × (from ≡ unit_id u)
fence_from s from rid y e f = let x = awaited_one (cell_asks f.job) from rid f.awaited in cells_units f.job.place f.job.work (out from rid x.0) x.1

fenced_msg : (y : Msg) (e : ℕ) → reply y ≡ IsFenced e → y ≡ msg.Fenced e
unfolding reply
fenced_msg y e h = grind arith

-- Over worlds.
module _ (m : Meaning) where
  pub record Fences (c : Config m) : Type 0 where
    pub told : (a : Packet) → Has c.packets a → (u e : ℕ) → a.from ≡ unit_id u → a.msg ≡ msg.Fenced e → e ≤ (unit_in m c u).epoch
    pub fenced : (s e : ℕ) → (seqr_in m c s).fence ≡ Some e → (u : ℕ) × (e ≤ (unit_in m c u).epoch)

  unit_num : (u v : ℕ) → unit_id u ≡ unit_id v → u ≡ v
  unit_num u v e = ap (λ (n : NodeId). n.num) e

  -- nodes of other kinds tell no such thing
  told_by_others : (c : Config m) (new : List Packet) → Fences c → ((a : Packet) → Has new a → a.from.role ≡ role.Unit → ⊥) → (a : Packet) → Has (c.packets ++ new) a → (u e : ℕ) → a.from ≡ unit_id u → a.msg ≡ msg.Fenced e → e ≤ (unit_in m c u).epoch
  told_by_others c new h off a has u e from is = by (has_either c.packets new a has)
    where
      by : Has c.packets a ⊎ Has new a → e ≤ (unit_in m c u).epoch
      by (inl i) = h.told a i u e from is
      by (inr i) = absurd (off a i (ap (λ (n : NodeId). n.role) from))

  said_msg : (p : Packet) (o : Option Msg) (a : Packet) → Has (answer_to m p o) a → o ≡ Some a.msg
  said_msg p None a h = absurd h
  said_msg p (Some y) a (inl e) = ap (λ (z : Packet). Some z.msg) (sym e)
  said_msg p (Some y) a (inr h) = absurd h

  by_unit_fences : (c : Config m) → Fences c → (u : ℕ) (p : Packet) → Comes m c p (unit_id u) → u < length c.units → Fences (unit_turn m c u p (unit_step (unit_in m c u) p.msg))
  by_unit_fences c h u p a less = record {
    told = λ b has v e from is. by b v e from is (has_either c.packets (answer_to m p t.says) b has);
    fenced = λ s e f. let x = h.fenced s e f in let le = x.1 in let up = grown x.0 in (x.0, omega (arith, le, up));
  }
    where
      t : UnitTurn
      t = unit_step (unit_in m c u) p.msg

      d : Config m
      d = unit_turn m c u p t

      grown : (v : ℕ) → (unit_in m c v).epoch ≤ (unit_in m (unit_turn m c u p (unit_step (unit_in m c u) p.msg)) v).epoch
      grown v = ((unit_turn_grows m c u p less).unit v).epoch

      here : (v : ℕ) → u ≡ v → t.now ≡ unit_in m (unit_turn m c u p (unit_step (unit_in m c u) p.msg)) v
      here v e = subst (λ (n : ℕ). t.now ≡ unit_in m (unit_turn m c u p (unit_step (unit_in m c u) p.msg)) n) e (sym (set_there c.units u t.now new_unit less))

      by : (b : Packet) (v e : ℕ) → b.from ≡ unit_id v → b.msg ≡ msg.Fenced e → Has c.packets b ⊎ Has (answer_to m p t.says) b → e ≤ (unit_in m (unit_turn m c u p (unit_step (unit_in m c u) p.msg)) v).epoch
      by b v e from is (inl i) = let le = h.told b i v e from is in let up = grown v in omega (arith, le, up)
      by b v e from is (inr i) =
          let same = unit_num u v (sym (answer_from m p t.says b i ∙ a.to_node) ∙ from) in
          let le = fenced_step (unit_in m c u) p.msg e (said_msg p t.says b i ∙ ap (λ (y : Msg). Some y) is) in
          let at = ap (λ (x : UnitState). x.epoch) (here v same) in
          omega (arith, le, at)

  input_fence : (c : Config m) → Fences c → (s : ℕ) (t : SeqrTurn) → SeqrInput m c s t → (e : ℕ) → t.now.fence ≡ Some e → (u : ℕ) × (e ≤ (unit_in m c u).epoch)
  input_fence c h s _ (Hears p comes) e f = by (step_fence (seqr_in m c s) p.from p.rid p.msg e f)
    where
      by : ((seqr_in m c s).fence ≡ Some e) ⊎ FencedBy (seqr_in m c s) p.from p.rid p.msg e → (u : ℕ) × (e ≤ (unit_in m c u).epoch)
      by (inl i) = h.fenced s e i
      by (inr i) = let x = fence_from (seqr_in m c s) p.from p.rid p.msg e i in (x.0, h.told p comes.sent x.0 e x.1 (fenced_msg p.msg e i.told))
  input_fence c h s _ Ticks e f = h.fenced s e (sym (tick_fence (seqr_in m c s)) ∙ f)

  keeps_fences : (c : Config m) → Fences c → Cases m c Fences
  keeps_fences c h = record {
    idle = h;
    unit = λ u p a less. by_unit_fences c h u p a less;
    layout = λ l p a less. record {
      told = told_by_others c _ h (λ b g r. layout_not (sym (ap (λ (n : NodeId). n.role) (answer_from m p _ b g ∙ a.to_node)) ∙ r));
      fenced = h.fenced;
    };
    seqr = λ s t i less. record {
      told = told_by_others c _ h (λ b g r. seqr_not (sym (ap (λ (n : NodeId). n.role) (outs_from m (seqr_id s) t.sends b g)) ∙ r));
      fenced = at_set c.seqrs s t.now (λ j. new_seqr j c.cluster.limit (first_layout c.cluster)) (λ j x. (e : ℕ) → x.fence ≡ Some e → (u : ℕ) × (e ≤ (unit_in m c u).epoch)) less (input_fence c h s t i) (λ j other. h.fenced j);
    };
    client = λ k t i less. record {
      told = told_by_others c _ h (λ b g r. client_not (sym (ap (λ (n : NodeId). n.role) (outs_from m (client_id k) t.sends b g)) ∙ r));
      fenced = h.fenced;
    };
  }
    where
      layout_not : role.Layout ≡ role.Unit → ⊥
      layout_not e = cc

      seqr_not : role.Seqr ≡ role.Unit → ⊥
      seqr_not e = cc

      client_not : role.Client ≡ role.Unit → ⊥
      client_not e = cc

  new_fence : (h : Header) (n e : ℕ) → (new_seqr n h.limit (first_layout h)).fence ≡ Some e → (u : ℕ) × (e ≤ (unit_in m (config m (start m h)) u).epoch)
  unfolding new_seqr
  new_fence h n e f = absurd (none_some e f)

  start_fences : (h : Header) → Fences (config m (start m h))
  unfolding start
  start_fences h = record {
    told = λ a has u e from is. absurd has;
    fenced = λ s. at_map (λ (n : ℕ). new_seqr n h.limit (first_layout h)) (numbers h.seqs 0) s (new_seqr s h.limit (first_layout h)) (λ x. (e : ℕ) → x.fence ≡ Some e → (u : ℕ) × (e ≤ (unit_in m (config m (start m h)) u).epoch)) (λ n. new_fence h n) (new_fence h s);
  }

  -- of each world of each run
  pub fences_reached : (h : Header) (ms : Moves m) (w : World m) → Reaches m h ms w → (s e : ℕ) → (seqr m w s).fence ≡ Some e → (u : ℕ) × (e ≤ (unit m w u).epoch)
  fences_reached h ms w r = (subst (λ (v : World m). Fences (config m v)) (sym r.goes.is) (run_keeps m Fences keeps_fences ms (start m h) (start_fences h))).fenced
