-- A client whose command waits for an append alone.
use Rattle.std.proofs.Common.{◌≡◌, ◌⊎◌, ℕ, zero, suc, ◌+◌, ◌^◌, ◌<◌, ◌≤◌, List, [], ◌∷◌, ◌++◌, length, map, cond, Bool, true, false, refl, ap, ◌∙◌, sym, subst, inl, inr, arith, Some, None, eqb}
use Rattle.std.specs.Prelude.{slice_set, nat_le, max}
use Rattle.tg_base.specs.Layouts.{Layout}
use Rattle.tg_base.specs.Clusters.{Header}
use Rattle.tg_base.specs.declared.ids.NodeId.{NodeId}
use Rattle.tg_base.specs.declared.msg.Msg.{Msg}
use Rattle.tg_base.specs.declared.msg.Msg.TheVariants as msg
use Rattle.tg_base.specs.declared.packet.Out.{Out}
use Rattle.tg_kind.specs.Meaning.{Meaning}
use Rattle.tg_model.specs.Kinds.{CommandOf, WhatOf}
use Rattle.tg_base.specs.Orders.{node_eq}
use Rattle.tg_protocol.specs.Words.{unit_id, seqr_id, layout_id, client_id}
use Rattle.tg_protocol.specs.Requests.{out, awaits, drawn_from, Goes}
use Rattle.tg_protocol.specs.Replies.{Reply, IsLatest, IsOther, reply}
use Rattle.tg_protocol.specs.Appending.{Append, AppendWork, Asking, Putting, Judging, AppendEnd, At, Full, Forgotten, AppendTurn, Token, append_asks, append_work_asks, append_feed, by_token, put_turn, judge_turn}
use Rattle.tg_protocol.specs.Cells.{CellWork, Puts, Gets, Fills, Copies, Probes, CellJob, work_asks, cell_feed, works, unit_at, Place}
use Rattle.tg_protocol.specs.Clients.{Purpose, Writes, Judged, Decides, Rescues, Saves, Marks, Appending, Doing, Work, Client}
use Rattle.tg_protocol.specs.Answers.{Moved, moved}
use Rattle.tg_protocol.specs.ClientSteps.{task_asks, client_asks, task_awaited, hand_again_asks, after_turn, met, goes_on, append_ended, append_to, on_append, task_feed, fed_if, hand_feed, latest_if, reply_feed, feed, given, called, client_deliver, ClientTurn, decided_for}
use Rattle.tg_protocol.specs.ClientSteps as steps
use Rattle.tg_law_finish.specs.Finish.Appends.{is_last}
use Rattle.tg_law_finish.proofs.Finish.Nets.{Net, unit_of, seqr_of, client_of, on_in, on_alike, seqr_alike}
use Rattle.tg_law_finish.proofs.Finish.Others.{Keeps, Calm, Ready}
use Rattle.tg_protocol.specs.Worlds.{packet_of, answer_to}
use Rattle.tg_law_finish.proofs.Finish.Lines.{IsOver, Over}
use Rattle.tg_law_finish.proofs.Finish.Talks.{More, Asked, Machine}
use Rattle.tg_law_finish.proofs.Finish.Places.{keeps_serves, keeps_clear, keeps_below, keeps_issue}
use Rattle.tg_protocol.specs.Entries.{streams_of}
use Rattle.tg_protocol.specs.Units.{UnitTurn, unit_step, unit_ask, on_ask}
use Rattle.tg_protocol.specs.Layouts.{first_layout}
use Rattle.tg_protocol.specs.Sequencers.{SeqrState, new_seqr, seqr_step}
use Rattle.tg_base.specs.declared.cell.Cell.TheVariants.{Junk, Data}
use Rattle.tg_law_finish.proofs.Finish.Strays.{Old}
use Rattle.tg_law_finish.proofs.Finish.Lists.{set_there, set_other}
use Rattle.tg_law_finish.proofs.Finish.Stores.{stores, with_unit}
use Rattle.tg_law_finish.proofs.Finish.Appends.{Replies, token_turn, put_fresh_replies, put_old_replies, fill_replies, copy_replies, AppendStage, PutsStage, JudgeStage, PutOld, Well, Ended, Going, is_latest}

module _ (m : Meaning) where
  decided_over : (c : Client m) (x : CommandOf m) (y : WhatOf m) → ((decided_for m c x y).now.work ≡ None) × ((decided_for m c x y).besides ≡ [])
  decided_over c x y = (grind arith, grind arith)

  ended_over : (c : Client m) (w : Work m) (x : Purpose m) (e : AppendEnd) → is_last m x ≡ true → ((append_ended m c w x e).now.work ≡ None) × ((append_ended m c w x e).besides ≡ [])
  unfolding is_last
  ended_over c w (Writes) (At p d) l = (refl, refl)
  ended_over c w (Writes) (Full b) l = (refl, refl)
  ended_over c w (Writes) (Forgotten p b) l = (refl, refl)
  ended_over c w (Judged) e l = absurd cc
  ended_over c w (Decides x) e l = decided_over (steps.page_known m c e) w.command x
  ended_over c w (Rescues x) (At p d) l = (refl, refl)
  ended_over c w (Rescues x) (Full b) l = (refl, refl)
  ended_over c w (Rescues x) (Forgotten p b) l = (refl, refl)
  ended_over c w (Saves o u) (At p d) l = (refl, refl)
  ended_over c w (Saves o u) (Full b) l = (refl, refl)
  ended_over c w (Saves o u) (Forgotten p b) l = (refl, refl)
  ended_over c w (Marks n o u) (At p d) l = (refl, refl)
  ended_over c w (Marks n o u) (Full b) l = (refl, refl)
  ended_over c w (Marks n o u) (Forgotten p b) l = (refl, refl)

  pub over_asks : (c : Client m) → c.work ≡ None → client_asks m c ≡ []
  unfolding client_asks
  over_asks c e = ap (λ w. steps.work_asks m c.stand w) e

  -- a newer layout aside an answer goes to the task
  pub to_hand : (c : Client m) (w : Work m) (from : NodeId) (rid : ℕ) (x : Reply) → is_latest x ≡ false → reply_feed m c w from rid x ≡ hand_feed m c w w.hand from rid x
  unfolding is_latest
  to_hand c w from rid x e = grind arith

module _ (m : Meaning) (h : Header) (stopped : List NodeId) (k : ℕ) (p : Layout) (longest : ℕ) where
  pub record Shape (c : Client m) (a : Append) (o : Out) : Type 0 where
    pub stand : c.stand ≡ p
    pub work : Work m
    pub waits : c.work ≡ Some work
    pub purpose : Purpose m
    pub hand : work.hand ≡ Doing (Appending a purpose)
    pub asks : append_asks p a ≡ o ∷ []
    pub below : o.rid < c.next
    pub away : (l : ℕ) → node_eq o.to (layout_id l) ≡ false

  abbrev pub shape_called : (c : Client m) (a : Append) (o : Out) → Shape c a o → Shape (called m c) a o
  shape_called c a o x = record { stand = x.stand; work = x.work; waits = x.waits; purpose = x.purpose; hand = x.hand; asks = x.asks; below = x.below; away = x.away }

  abbrev pub shape_ticked : (c : Client m) (a : Append) (o : Out) → Shape c a o → Shape (called m (record c { next = c.next + c.layouts })) a o
  shape_ticked c a o x = let b = x.below in record { stand = x.stand; work = x.work; waits = x.waits; purpose = x.purpose; hand = x.hand; asks = x.asks; below = omega (arith, b); away = x.away }

  asks_is : (c : Client m) (a : Append) (o : Out) → Shape c a o → client_asks m c ≡ o ∷ []
  unfolding client_asks task_asks
  asks_is c a o x = ap (λ w. steps.work_asks m c.stand w) x.waits ∙ (ap (λ y. steps.hand_asks m c.stand y) x.hand ∙ (ap (λ q. append_asks q a) x.stand ∙ x.asks))

  pub awaited_is : (c : Client m) (a : Append) (o : Out) (x : Shape c a o) → task_awaited m c.stand (Appending a x.purpose) ≡ o ∷ []
  unfolding task_asks
  awaited_is c a o x = ap (λ q. append_asks q a) x.stand ∙ x.asks

  pub again_is : (c : Client m) (a : Append) (o : Out) (x : Shape c a o) → hand_again_asks m c.stand x.work.hand ≡ o ∷ []
  unfolding task_asks
  again_is c a o x = ap (λ y. hand_again_asks m c.stand y) x.hand ∙ (ap (λ q. append_asks q a) x.stand ∙ x.asks)

  pub none_drawn : (o : Out) (next : ℕ) → o.rid < next → drawn_from next (o ∷ []) ≡ []
  none_drawn o next less = grind arith

  pub none_awaited : (o : Out) (from : NodeId) (rid : ℕ) → node_eq o.to from ≡ false → awaits (o ∷ []) from rid ≡ false
  none_awaited o from rid e = grind arith

  pub other_latest : (c : Client m) (w : Work m) (from : NodeId) (rid : ℕ) (q : Layout) → q.epoch ≤ c.stand.epoch → reply_feed m c w from rid (IsLatest q) ≡ moved m c []
  other_latest c w from rid q le = grind arith

  calm_fed : (c : Client m) (a : Append) (o : Out) (l rid : ℕ) (q : Layout) (b : Bool) (x : Shape c a o) → q.epoch ≤ p.epoch → reply_feed m c x.work (layout_id l) rid (cond b IsOther (IsLatest q)) ≡ moved m c []
  calm_fed c a o l rid q true x le = ap (λ y. hand_feed m c x.work y (layout_id l) rid IsOther) x.hand ∙ ap (λ b. fed_if m b c x.work (Appending a x.purpose) (layout_id l) rid IsOther) (ap (λ os. awaits os (layout_id l) rid) (awaited_is c a o x) ∙ none_awaited o (layout_id l) rid (x.away l))
  calm_fed c a o l rid q false x le = other_latest c x.work (layout_id l) rid q (subst (λ y. q.epoch ≤ y.epoch) (sym x.stand) le)

  pub calm_shape : (c : Client m) (a : Append) (o : Out) → Shape c a o → Calm m h stopped k p c
  unfolding client_deliver reply
  calm_shape c a o x = λ l rid q le.
      ap (λ y. given m c y) (ap (λ w. feed m c w (layout_id l) rid (reply (msg.Latest q))) x.waits ∙ calm_fed c a o l rid q (nat_le (2 ^ 32) q.epoch) x le)
      ∙ ap (λ os. record { now = called m c; sends = os; notes = [] }) (ap (λ os. drawn_from c.next os) (asks_is c a o x) ∙ none_drawn o c.next x.below)

  -- The client waits for an append, with one request outstanding.
  pub record Writing (s : Net m) (c : Client m) (o : Out) (n : ℕ) : Type 0 where
    pub append : Append
    pub shape : Shape c append o
    pub last : is_last m shape.purpose ≡ true
    pub stage : AppendStage m h stopped k p longest s append append.work n

  -- An answer comes that makes it go on.
  pub record Hearing (s : Net m) (c : Client m) (from : NodeId) (rid : ℕ) (y : Msg) (n : ℕ) : Type 0 where
    pub append : Append
    pub o : Out
    pub shape : Shape c append o
    pub last : is_last m shape.purpose ≡ true
    pub awaited : awaits (o ∷ []) from rid ≡ true
    pub no_latest : is_latest (reply y) ≡ false
    pub well : (u next : ℕ) → Well m h stopped k p longest s n next (append_feed p append append.work u (reply y) next)

  -- It stays so whatever other packets do.

  put_keeps : (s t : Net m) (a : Append) (j : CellJob) (w : CellWork) (n : ℕ) → Keeps m h stopped k p s t → PutsStage m h stopped k p longest s a j.place w n → PutsStage m h stopped k p longest t a j.place w n
  put_keeps s t a j (Puts r d i) n keep (inl f) = inl (record { token = f.token; has = f.has; serves = keeps_serves m h stopped k p longest s t j.place keep f.serves; less = f.less; clear = keeps_clear m h stopped k p longest s t j.place _ i keep f.serves f.clear; few = f.few })
  put_keeps s t a j (Puts r d i) n keep (inr f) = inr (record { token = f.token; has = f.has; serves = keeps_serves m h stopped k p longest s t j.place keep f.serves; first = f.first; below = keeps_below m h stopped k p longest s t j.place keep f.serves f.below; issue = keeps_issue m h stopped k p longest s t a.draft keep f.issue; off = ap (λ y. eqb y.next j.place.pos) keep.seqr ∙ f.off; few = f.few })
  put_keeps s t a j (Gets r) n keep f = absurd f
  put_keeps s t a j (Fills r) n keep f = absurd f
  put_keeps s t a j (Copies r c i) n keep f = absurd f
  put_keeps s t a j (Probes ws) n keep f = absurd f

  judge_keeps : (s t : Net m) (a : Append) (j : CellJob) (w : CellWork) (n : ℕ) → Keeps m h stopped k p s t → JudgeStage m h stopped k p longest s a j.place w n → JudgeStage m h stopped k p longest t a j.place w n
  judge_keeps s t a j (Puts r d i) n keep f = absurd f
  judge_keeps s t a j (Gets r) n keep f = absurd f
  judge_keeps s t a j (Fills r) n keep f = record { token = f.token; has = f.has; serves = keeps_serves m h stopped k p longest s t j.place keep f.serves; below = keeps_below m h stopped k p longest s t j.place keep f.serves f.below; issue = keeps_issue m h stopped k p longest s t a.draft keep f.issue; off = ap (λ y. eqb y.next j.place.pos) keep.seqr ∙ f.off; few = f.few }
  judge_keeps s t a j (Copies r c i) n keep f = record { token = f.token; has = f.has; serves = keeps_serves m h stopped k p longest s t j.place keep f.serves; less = f.less; clear = keeps_clear m h stopped k p longest s t j.place c i keep f.serves f.clear; issue = keeps_issue m h stopped k p longest s t a.draft keep f.issue; off = ap (λ y. eqb y.next j.place.pos) keep.seqr ∙ f.off; few = f.few }
  judge_keeps s t a j (Probes ws) n keep f = absurd f

  stage_keeps : (s t : Net m) (a : Append) (w : AppendWork) (n : ℕ) → Keeps m h stopped k p s t → AppendStage m h stopped k p longest s a w n → AppendStage m h stopped k p longest t a w n
  stage_keeps s t a (Asking r) n keep x = (keeps_issue m h stopped k p longest s t a.draft keep x.0, x.1)
  stage_keeps s t a (Putting j) n keep x = put_keeps s t a j j.work n keep x
  stage_keeps s t a (Judging j) n keep x = judge_keeps s t a j j.work n keep x

  well_keeps : (s t : Net m) (n next : ℕ) (x : AppendTurn) → Keeps m h stopped k p s t → Well m h stopped k p longest s n next x → Well m h stopped k p longest t n next x
  well_keeps s t n next x keep (Ended end gone e) = Ended end gone e
  well_keeps s t n next x keep (Going a to y left asks stage few) = Going a to y left asks (stage_keeps s t a a.work left keep stage) few

  -- The answer comes to the client.

  now_over : (c : Client m) (x : Moved m) → x.now.work ≡ None → x.besides ≡ [] → IsOver m h stopped k p (given m c x)
  now_over c x e f = record { none = e; sends = ap (λ os. os ++ drawn_from c.next (client_asks m x.now)) f ∙ ap (λ os. drawn_from c.next os) (over_asks m x.now e) }

  pub new_drawn : (to : NodeId) (next : ℕ) (y : Msg) → drawn_from next (out to next y ∷ []) ≡ out to next y ∷ []
  new_drawn to next y = grind arith

  one_away : (x o : Out) (l : ℕ) → x ∷ [] ≡ o ∷ [] → node_eq x.to (layout_id l) ≡ false → node_eq o.to (layout_id l) ≡ false
  one_away x o l e far = subst (λ (y : Out). node_eq y.to (layout_id l) ≡ false) (one x o e) far
    where
      one : (x y : Out) → x ∷ [] ≡ y ∷ [] → x ≡ y
      one x y e = cc

  pub unit_away : (u l : ℕ) → node_eq (unit_id u) (layout_id l) ≡ false
  unfolding node_eq
  unit_away u l = refl

  pub seqr_away : (u l : ℕ) → node_eq (seqr_id u) (layout_id l) ≡ false
  unfolding node_eq
  seqr_away u l = refl

  puts_away : (s : Net m) (a : Append) (j : CellJob) (w : CellWork) (n : ℕ) (o : Out) (l : ℕ) → PutsStage m h stopped k p longest s a j.place w n → work_asks j.place w ≡ o ∷ [] → node_eq o.to (layout_id l) ≡ false
  unfolding work_asks
  puts_away s a j (Puts r d i) n o l stage e = one_away _ o l e (unit_away _ l)
  puts_away s a j (Gets r) n o l stage e = absurd stage
  puts_away s a j (Fills r) n o l stage e = absurd stage
  puts_away s a j (Copies r c i) n o l stage e = absurd stage
  puts_away s a j (Probes ws) n o l stage e = absurd stage

  judge_away : (s : Net m) (a : Append) (j : CellJob) (w : CellWork) (n : ℕ) (o : Out) (l : ℕ) → JudgeStage m h stopped k p longest s a j.place w n → work_asks j.place w ≡ o ∷ [] → node_eq o.to (layout_id l) ≡ false
  unfolding work_asks
  judge_away s a j (Puts r d i) n o l stage e = absurd stage
  judge_away s a j (Gets r) n o l stage e = absurd stage
  judge_away s a j (Fills r) n o l stage e = one_away _ o l e (unit_away _ l)
  judge_away s a j (Copies r c i) n o l stage e = one_away _ o l e (unit_away _ l)
  judge_away s a j (Probes ws) n o l stage e = absurd stage

  pub asks_away : (s : Net m) (a : Append) (w : AppendWork) (n : ℕ) (o : Out) (l : ℕ) → AppendStage m h stopped k p longest s a w n → append_work_asks p a w ≡ o ∷ [] → node_eq o.to (layout_id l) ≡ false
  unfolding append_work_asks
  asks_away s a (Asking r) n o l stage e = one_away _ o l e (seqr_away p.seq l)
  asks_away s a (Putting j) n o l stage e = puts_away s a j j.work n o l stage e
  asks_away s a (Judging j) n o l stage e = judge_away s a j j.work n o l stage e

  -- it goes on
  goes_more : (s : Net m) (c : Client m) (a : Append) (o : Out) (x : Shape c a o) (last : is_last m x.purpose ≡ true) (b : Append) (to : NodeId) (y : Msg) (left n : ℕ) → append_asks p b ≡ out to c.next y ∷ [] → AppendStage m h stopped k p longest s b b.work left → left + 1 ≤ n
      → More m h stopped k p Writing Hearing s (given m c (on_append m c x.work x.purpose (record { next = c.next + 1; besides = []; gone = 0; to = Goes b }))) n
  unfolding client_asks task_asks
  goes_more s c a o x last b to y left n asks stage few = record {
    o = out to c.next y;
    left = left;
    sends = ap (λ q. drawn_from c.next (append_asks q b)) x.stand ∙ (ap (λ os. drawn_from c.next os) asks ∙ new_drawn to c.next y);
    stage = record { append = b; shape = record { stand = x.stand; work = _; waits = refl; purpose = x.purpose; hand = refl; asks = asks; below = omega arith; away = λ l. asks_away s b b.work left (out to c.next y) l stage asks }; last = last; stage = stage };
    less = few;
  }

  turned : (s : Net m) (c : Client m) (a : Append) (o : Out) (x : Shape c a o) (last : is_last m x.purpose ≡ true) (t : AppendTurn) (n : ℕ) → Well m h stopped k p longest s n c.next t
      → IsOver m h stopped k p (given m c (on_append m c x.work x.purpose t)) ⊎ More m h stopped k p Writing Hearing s (given m c (on_append m c x.work x.purpose t)) n
  turned s c a o x last t n (Ended end gone e) = let f = ended_over m (record c { next = end }) (record x.work { gone = max x.work.gone gone }) x.purpose e last in inl (now_over c _ f.0 f.1)
  turned s c a o x last t n (Going b to y left asks stage few) = inr (goes_more s c a o x last b to y left n asks stage few)

  answered : (s : Net m) (c : Client m) (from : NodeId) (rid : ℕ) (y : Msg) (n : ℕ) → Hearing s c from rid y n
      → IsOver m h stopped k p (client_deliver m c from rid y) ⊎ More m h stopped k p Writing Hearing s (client_deliver m c from rid y) n
  unfolding client_deliver task_feed
  answered s c from rid y n g =
      let x = g.shape in
      subst (λ (z : Moved m). IsOver m h stopped k p (given m c z) ⊎ More m h stopped k p Writing Hearing s (given m c z) n) (sym (fed from rid (reply y) x g.awaited g.no_latest))
      (turned s c g.append g.o x g.last (append_feed p g.append g.append.work from.num (reply y) c.next) n (g.well from.num c.next))
    where
      fed : {a : Append} {o : Out} (from : NodeId) (rid : ℕ) (r : Reply) (x : Shape c a o) → awaits (o ∷ []) from rid ≡ true → is_latest r ≡ false → feed m c c.work from rid r ≡ on_append m c x.work x.purpose (append_feed p a a.work from.num r c.next)
      fed {a} {o} from rid r x awaited plain = ap (λ w. feed m c w from rid r) x.waits ∙ (to_hand m c x.work from rid r plain ∙ (ap (λ z. hand_feed m c x.work z from rid r) x.hand
          ∙ (ap (λ b. fed_if m b c x.work (Appending a x.purpose) from rid r) (ap (λ os. awaits os from rid) (awaited_is c a o x) ∙ awaited) ∙ ap (λ q. on_append m c x.work x.purpose (append_feed q a a.work from.num r c.next)) x.stand)))

  -- The request comes to its node.

  pub itself : (n : NodeId) → node_eq n n ≡ true
  unfolding node_eq
  itself n = grind arith

  pub awaited_itself : (o : Out) → awaits (o ∷ []) o.to o.rid ≡ true
  awaited_itself o = let e = itself o.to in grind arith

  pub unit_no_client : (u : ℕ) → node_eq (unit_id u) (client_id k) ≡ false
  unfolding node_eq
  unit_no_client u = refl

  pub seqr_no_client : (u : ℕ) → node_eq (seqr_id u) (client_id k) ≡ false
  unfolding node_eq
  seqr_no_client u = refl

  unit_asked : (s : Net m) (a : Append) (u r : ℕ) (y : Msg) (n : ℕ) → Ready m h stopped k p s → (shape : Shape (client_of m h s k) a (out (unit_id u) r y)) → is_last m shape.purpose ≡ true → on_in m stopped s (unit_id u) ≡ true
      → Replies m h stopped k p longest s u (unit_step (unit_of m s u) y) n (λ v x next. append_feed p a a.work v x next) → Asked m h stopped k p Writing Hearing s (out (unit_id u) r y) n
  unit_asked s a u r y n ready shape last on rep = record {
    running = on;
    from = unit_id u;
    rid = r;
    says = rep.says;
    sent = ap (λ o. answer_to m (packet_of m (client_id k) (out (unit_id u) r y)) o) rep.is;
    no_client = unit_no_client u;
    ready = record { on = ready.on; rests = ready.rests; old = ready.old; layouts = ready.layouts; idle = ready.idle };
    client = refl;
    hears = record { append = a; o = out (unit_id u) r y; shape = shape; last = last; awaited = awaited_itself (out (unit_id u) r y); no_latest = rep.heard.no_latest; well = rep.heard.well };
  }

  pub below_count : (s : Net m) (j : ℕ) → on_in m stopped s (seqr_id j) ≡ true → j < length s.seqrs
  below_count s j e = grind arith

  flip : (a b : ℕ) → eqb a b ≡ false → eqb b a ≡ false
  flip a b e = grind arith

  seqr_asked : (s : Net m) (a : Append) (r n : ℕ) → a.work ≡ Asking r → Ready m h stopped k p s → (shape : Shape (client_of m h s k) a (out (seqr_id p.seq) r (msg.Token p.epoch (streams_of a.draft)))) → is_last m shape.purpose ≡ true → AppendStage m h stopped k p longest s a (Asking r) n
      → Asked m h stopped k p Writing Hearing s (out (seqr_id p.seq) r (msg.Token p.epoch (streams_of a.draft))) n
  seqr_asked s a r n is ready shape last stage =
      let x = seqr_of m h s p.seq in
      let t = token_turn m h stopped k p longest s x a (client_id k) r r n stage.0 stage.1 in
      let now = (seqr_step x (client_id k) r (msg.Token p.epoch (streams_of a.draft))).now in
      record {
        running = stage.0.on;
        from = seqr_id p.seq;
        rid = r;
        says = t.says;
        sent = ap (λ os. map (packet_of m (seqr_id p.seq)) os) t.sends;
        no_client = seqr_no_client p.seq;
        ready = record {
          on = ready.on;
          rests = ap (λ (y : SeqrState). y.scan) (set_there s.seqrs p.seq now (new_seqr p.seq h.limit (first_layout h)) (below_count s p.seq stage.0.on)) ∙ t.rests;
          old = λ j off. subst (λ (y : SeqrState). Old p.epoch y) (sym (set_other s.seqrs p.seq now j (new_seqr j h.limit (first_layout h)) off)) (ready.old j off);
          layouts = ready.layouts;
          idle = ready.idle;
        };
        client = refl;
        hears = record {
          append = a;
          o = out (seqr_id p.seq) r (msg.Token p.epoch (streams_of a.draft));
          shape = shape;
          last = last;
          awaited = awaited_itself (out (seqr_id p.seq) r (msg.Token p.epoch (streams_of a.draft)));
          no_latest = t.no_latest;
          well = λ u next. subst (λ w. Well m h stopped k p longest (record s { seqrs = slice_set s.seqrs p.seq now }) n next (append_feed p a w u (reply t.says) next)) (sym is) (t.well (record s { seqrs = slice_set s.seqrs p.seq now }) refl (λ y. on_alike m stopped s _ (seqr_alike m s p.seq now) y) u next);
        };
      }

  -- a page's turn, by the token
  by_put : (s : Net m) (a : Append) (j : CellJob) (token : Token) (u : ℕ) (tu : UnitTurn) (n : ℕ) → a.work ≡ Putting j → a.token ≡ Some token
      → Replies m h stopped k p longest s u tu n (λ v x next. put_turn a token (cell_feed j v x next)) → Replies m h stopped k p longest s u tu n (λ v x next. append_feed p a a.work v x next)
  unfolding append_feed
  by_put s a j token u tu n is has rep = record {
    says = rep.says;
    is = rep.is;
    heard = record {
      no_latest = rep.heard.no_latest;
      well = λ v next. subst (λ w. Well m h stopped k p longest (with_unit m stopped s u tu.now) n next (append_feed p a w v (reply rep.says) next)) (sym is)
          (subst (λ o. Well m h stopped k p longest (with_unit m stopped s u tu.now) n next (by_token a next o (λ t. put_turn a t (cell_feed j v (reply rep.says) next)))) (sym has) (rep.heard.well v next));
    };
  }

  by_judge : (s : Net m) (a : Append) (j : CellJob) (token : Token) (u : ℕ) (tu : UnitTurn) (n : ℕ) → a.work ≡ Judging j → a.token ≡ Some token
      → Replies m h stopped k p longest s u tu n (λ v x next. judge_turn a token (cell_feed j v x next)) → Replies m h stopped k p longest s u tu n (λ v x next. append_feed p a a.work v x next)
  unfolding append_feed
  by_judge s a j token u tu n is has rep = record {
    says = rep.says;
    is = rep.is;
    heard = record {
      no_latest = rep.heard.no_latest;
      well = λ v next. subst (λ w. Well m h stopped k p longest (with_unit m stopped s u tu.now) n next (append_feed p a w v (reply rep.says) next)) (sym is)
          (subst (λ o. Well m h stopped k p longest (with_unit m stopped s u tu.now) n next (by_token a next o (λ t. judge_turn a t (cell_feed j v (reply rep.says) next)))) (sym has) (rep.heard.well v next));
    };
  }

  pub same_out : (x y : Out) → x ∷ [] ≡ y ∷ [] → x ≡ y
  same_out x y e = cc

  asked_at : (s : Net m) (x o : Out) (n : ℕ) → x ∷ [] ≡ o ∷ [] → (x ≡ o → Asked m h stopped k p Writing Hearing s x n) → Asked m h stopped k p Writing Hearing s o n
  asked_at s x o n e f = let is = same_out x o e in subst (λ (y : Out). Asked m h stopped k p Writing Hearing s y n) is (f is)

  abbrev pub shape_at : (c : Client m) (a : Append) (x o : Out) → x ≡ o → Shape c a o → Shape c a x
  shape_at c a x o e shape = record {
    stand = shape.stand;
    work = shape.work;
    waits = shape.waits;
    purpose = shape.purpose;
    hand = shape.hand;
    asks = shape.asks ∙ ap (λ (y : Out). y ∷ []) (sym e);
    below = subst (λ (y : Out). y.rid < c.next) (sym e) shape.below;
    away = λ l. subst (λ (y : Out). node_eq y.to (layout_id l) ≡ false) (sym e) (shape.away l);
  }

  put_asked : (s : Net m) (a : Append) (o : Out) (j : CellJob) (w : CellWork) (n : ℕ) → a.work ≡ Putting (works j.place w) → work_asks j.place w ≡ o ∷ [] → Ready m h stopped k p s → (shape : Shape (client_of m h s k) a o) → is_last m shape.purpose ≡ true
      → PutsStage m h stopped k p longest s a j.place w n → Asked m h stopped k p Writing Hearing s o n
  unfolding work_asks cell_feed unit_step unit_ask on_ask
  put_asked s a o j (Puts r d i) n is asks ready shape last (inl f) =
      let pl = j.place in
      let u = unit_at pl i in
      let serves = f.serves.unit i f.less in
      let rep = put_fresh_replies m h stopped k p longest s a pl r d i n f _ (stores (unit_of m s u) pl.epoch pl.pos (Data d) (serves.epoch ∙ sym f.serves.epoch)) in
      asked_at s (out (unit_id u) r (msg.Write pl.epoch pl.pos d)) o n asks (λ e. unit_asked s a u r (msg.Write pl.epoch pl.pos d) n ready (shape_at _ a _ o e shape) last serves.on (by_put s a (works pl (Puts r d i)) f.token u _ n is f.has rep))
  put_asked s a o j (Puts r d i) n is asks ready shape last (inr f) = put_first s a o j.place r d n i f.first is asks ready shape last f
    where
      put_first : (s : Net m) (a : Append) (o : Out) (pl : Place) (r : ℕ) (d : List ℕ) (n i : ℕ) → i ≡ 0 → a.work ≡ Putting (works pl (Puts r d i)) → out (unit_id (unit_at pl i)) r (msg.Write pl.epoch pl.pos d) ∷ [] ≡ o ∷ [] → Ready m h stopped k p s → (shape : Shape (client_of m h s k) a o) → is_last m shape.purpose ≡ true
          → PutOld m h stopped k p longest s a pl i n → Asked m h stopped k p Writing Hearing s o n
      put_first s a o pl r d n zero z is asks ready shape last f =
          let u = unit_at pl 0 in
          let serves = f.serves.unit 0 f.serves.some in
          let rep = put_old_replies m h stopped k p longest s a pl r d n f _ (stores (unit_of m s u) pl.epoch pl.pos (Data d) (serves.epoch ∙ sym f.serves.epoch)) in
          asked_at s (out (unit_id u) r (msg.Write pl.epoch pl.pos d)) o n asks (λ e. unit_asked s a u r (msg.Write pl.epoch pl.pos d) n ready (shape_at _ a _ o e shape) last serves.on (by_put s a (works pl (Puts r d 0)) f.token u _ n is f.has rep))
      put_first s a o pl r d n (suc i) z is asks ready shape last f = absurd (omega (arith, z))
  put_asked s a o j (Gets r) n is asks ready shape last f = absurd f
  put_asked s a o j (Fills r) n is asks ready shape last f = absurd f
  put_asked s a o j (Copies r c i) n is asks ready shape last f = absurd f
  put_asked s a o j (Probes ws) n is asks ready shape last f = absurd f

  judge_asked : (s : Net m) (a : Append) (o : Out) (j : CellJob) (w : CellWork) (n : ℕ) → a.work ≡ Judging (works j.place w) → work_asks j.place w ≡ o ∷ [] → Ready m h stopped k p s → (shape : Shape (client_of m h s k) a o) → is_last m shape.purpose ≡ true
      → JudgeStage m h stopped k p longest s a j.place w n → Asked m h stopped k p Writing Hearing s o n
  unfolding work_asks cell_feed unit_step unit_ask on_ask
  judge_asked s a o j (Puts r d i) n is asks ready shape last f = absurd f
  judge_asked s a o j (Gets r) n is asks ready shape last f = absurd f
  judge_asked s a o j (Fills r) n is asks ready shape last f =
      let pl = j.place in
      let u = unit_at pl 0 in
      let serves = f.serves.unit 0 f.serves.some in
      let rep = fill_replies m h stopped k p longest s a pl r n f _ (stores (unit_of m s u) pl.epoch pl.pos Junk (serves.epoch ∙ sym f.serves.epoch)) in
      asked_at s (out (unit_id u) r (msg.Fill pl.epoch pl.pos)) o n asks (λ e. unit_asked s a u r (msg.Fill pl.epoch pl.pos) n ready (shape_at _ a _ o e shape) last serves.on (by_judge s a (works pl (Fills r)) f.token u _ n is f.has rep))
  judge_asked s a o j (Copies r c i) n is asks ready shape last f =
      let pl = j.place in
      let u = unit_at pl i in
      let serves = f.serves.unit i f.less in
      let rep = copy_replies m h stopped k p longest s a pl r c i n f _ (stores (unit_of m s u) pl.epoch pl.pos c (serves.epoch ∙ sym f.serves.epoch)) in
      asked_at s (out (unit_id u) r (msg.Copy pl.epoch pl.pos c)) o n asks (λ e. unit_asked s a u r (msg.Copy pl.epoch pl.pos c) n ready (shape_at _ a _ o e shape) last serves.on (by_judge s a (works pl (Copies r c i)) f.token u _ n is f.has rep))
  judge_asked s a o j (Probes ws) n is asks ready shape last f = absurd f

  append_asked : (s : Net m) (a : Append) (o : Out) (w : AppendWork) (n : ℕ) → a.work ≡ w → append_work_asks p a w ≡ o ∷ [] → Ready m h stopped k p s → (shape : Shape (client_of m h s k) a o) → is_last m shape.purpose ≡ true → AppendStage m h stopped k p longest s a w n → Asked m h stopped k p Writing Hearing s o n
  unfolding append_work_asks
  append_asked s a o (Asking r) n is asks ready shape last stage = asked_at s (out (seqr_id p.seq) r (msg.Token p.epoch (streams_of a.draft))) o n asks (λ e. seqr_asked s a r n is ready (shape_at _ a _ o e shape) last stage)
  append_asked s a o (Putting j) n is asks ready shape last stage = put_asked s a o j j.work n is asks ready shape last stage
  append_asked s a o (Judging j) n is asks ready shape last stage = judge_asked s a o j j.work n is asks ready shape last stage

  pub writes_machine : Machine m h stopped k p Writing Hearing (Over m h stopped k p)
  writes_machine = record {
    facts = λ s c o n x. record { work = x.shape.work; waits = x.shape.waits; again = again_is c x.append o x.shape; calm = calm_shape c x.append o x.shape };
    hears_calm = λ s c from rid y n x. record { work = x.shape.work; waits = x.shape.waits; calm = calm_shape c x.append x.o x.shape };
    stage_stays = λ s t c o n keep x. record { append = x.append; shape = x.shape; last = x.last; stage = stage_keeps s t x.append x.append.work n keep x.stage };
    hears_stays = λ s t c from rid y n keep x. record { append = x.append; o = x.o; shape = x.shape; last = x.last; awaited = x.awaited; no_latest = x.no_latest; well = λ u next. well_keeps s t n next _ keep (x.well u next) };
    stage_called = λ s c o n x. record { append = x.append; shape = shape_called c x.append o x.shape; last = x.last; stage = x.stage };
    hears_called = λ s c from rid y n x. record { append = x.append; o = x.o; shape = shape_called c x.append x.o x.shape; last = x.last; awaited = x.awaited; no_latest = x.no_latest; well = x.well };
    stage_ticked = λ s c o n x. record { append = x.append; shape = shape_ticked c x.append o x.shape; last = x.last; stage = x.stage };
    asked = λ s o n fair ready x. append_asked s x.append o x.append.work n refl x.shape.asks ready x.shape x.last x.stage;
    answered = λ s from rid y n ready x. answered s (client_of m h s k) from rid y n x;
  }
