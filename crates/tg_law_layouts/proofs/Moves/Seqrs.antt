-- The request numbers that a sequencer draws for its scan.
use Rattle.std.proofs.Common.{◌≡◌, ℕ, ◌+◌, ◌≤◌, List, [], ◌∷◌, Bool, true, false, refl, sym, ap, subst, inl, inr, arith, Some, None, Option}
use Rattle.std.specs.Prelude.{min}
use Rattle.tg_base.specs.Layouts.{Layout}
use Rattle.tg_base.specs.declared.ids.NodeId.{NodeId}
use Rattle.tg_base.specs.declared.ids.Oid.{Oid}
use Rattle.tg_base.specs.declared.msg.Msg.{Msg}
use Rattle.tg_base.specs.declared.msg.Msg.TheVariants as msg
use Rattle.tg_base.specs.declared.packet.Out.{Out}
use Rattle.tg_protocol.specs.Words.{unit_id}
use Rattle.tg_protocol.specs.Requests.{out, Waits, asked_of, awaits, drawn_from, Next, Goes, Learns, Ends}
use Rattle.tg_protocol.specs.Replies.{reply}
use Rattle.tg_protocol.specs.Cells.{Place, CellWork, Puts, Gets, Fills, Copies, Probes, work_asks, CellJob, CellEnd, Done, Fenced, Gone, place_in, get_cell, cell_asks, cell_feed}
use Rattle.tg_protocol.specs.Sequencers.{SeqrState, SeqrTurn, with_positions, cell_streams, scan_asks, seqr_asks, scan_on, scan_ended, scan_next, scan_turn, sends_new, fed_if, scan_fed, begun, stand_answer, issue, on_token, unfenced, own_epoch, on_learn, learn_or_old, seqr_step, seqr_tick}
use Rattle.tg_law_layouts.proofs.Moves.Members.{Has, has_map, has_filter}
use Rattle.tg_law_layouts.specs.Moves.Telling.{is_request}
use Rattle.tg_law_layouts.proofs.Moves.Draws.{Drawn, NextDraws, keeps, same, none, later, without}
use Rattle.tg_law_layouts.proofs.Moves.Machines.{cell_feed_draws, get_draws}

-- a state that comes next
abbrev StateDraws : List Out → ℕ → SeqrState → Type 0
StateDraws old next s = Drawn old next (seqr_asks s) s.rids

-- what tells a layout
unfoldable pub tells_layout : Msg → Bool
tells_layout (msg.Latest q) = true
tells_layout (msg.Decided q) = true
tells_layout (msg.Learn q) = true
tells_layout x = false

one_said : (to : NodeId) (r : ℕ) (x : Msg) → tells_layout x ≡ false → (o : Out) → Has (out to r x ∷ []) o → tells_layout o.msg ≡ false
one_said to r x f o (inl e) = subst (λ (y : Out). tells_layout y.msg ≡ false) (sym e) f
one_said to r x f o (inr h) = absurd h

asked_said : (x : Msg) (ws : Waits) → tells_layout x ≡ false → (o : Out) → Has (asked_of unit_id x ws) o → tells_layout o.msg ≡ false
asked_said x ws f o h = let i = has_map (λ (w : ℕ × ℕ). out (unit_id w.0) w.1 x) ws o h in subst (λ (y : Out). tells_layout y.msg ≡ false) (sym i.is) f

pub cell_said : (a : Place) (w : CellWork) (o : Out) → Has (work_asks a w) o → tells_layout o.msg ≡ false
unfolding work_asks tells_layout
cell_said a (Puts r d i) o h = one_said _ r (msg.Write a.epoch a.pos d) refl o h
cell_said a (Gets r) o h = one_said _ r (msg.Read a.epoch a.pos) refl o h
cell_said a (Fills r) o h = one_said _ r (msg.Fill a.epoch a.pos) refl o h
cell_said a (Copies r c i) o h = one_said _ r (msg.Copy a.epoch a.pos c) refl o h
cell_said a (Probes ws) o h = asked_said (msg.Has a.epoch a.pos a.pos 1) ws refl o h

scan_said : (j : Option CellJob) (o : Out) → Has (scan_asks j) o → tells_layout o.msg ≡ false
scan_said None o h = absurd h
scan_said (Some j) o h = cell_said j.place j.work o h

pub record SeqrDraws (s : SeqrState) (t : SeqrTurn) : Type 0 where
  pub drawn : Drawn (seqr_asks s) s.rids (seqr_asks t.now) t.now.rids
  pub sent : (o : Out) → Has t.sends o → is_request o.msg ≡ true → Has (seqr_asks t.now) o
  pub said : (o : Out) → Has t.sends o → tells_layout o.msg ≡ false

-- The scan.

scan_on_draws : (old : List Out) (next : ℕ) (s : SeqrState) (b : Bool) → next ≤ s.rids → StateDraws old next (scan_on s b)
unfolding get_cell
scan_on_draws old next s true le = later old next s.rids _ _ le (get_draws [] (place_in s.proj s.next) s.rids)
scan_on_draws old next s false le = none old next s.rids le

ended_draws : (old : List Out) (next : ℕ) (s : SeqrState) (e : CellEnd) → next ≤ s.rids → ((o : Out) → Has (seqr_asks s) o → Has old o) → StateDraws old next (scan_ended s e)
ended_draws old next s (Done c) le k = scan_on_draws old next (record s { next = s.next + 1; lists = with_positions s.next (cell_streams c) s.lists }) _ le
ended_draws old next s (Gone b) le k = scan_on_draws old next (record s { next = min b s.proj.start }) _ le
ended_draws old next s (Fenced u e) le k = none old next s.rids le
ended_draws old next s e le k = keeps old next _ s.rids le k

next_draws : (old bs : List Out) (next : ℕ) (s : SeqrState) (to : Next CellJob CellEnd) → ((o : Out) → Has (seqr_asks s) o → Has old o) → NextDraws cell_asks old next bs s.rids to → StateDraws old next (scan_next s to)
next_draws old bs next s (Goes j) k d = without old next bs _ _ d
next_draws old bs next s (Learns j) k d = keeps old next _ s.rids d.0 d.1
next_draws old bs next s (Ends e) k d = ended_draws old next s e d k

-- new requests are among the outstanding ones
new_sent : (old s : SeqrState) (o : Out) → Has (sends_new old s).sends o → Has (seqr_asks s) o
new_sent old s o h = has_filter _ (seqr_asks s) o h

fed_draws : (b : Bool) (s t : SeqrState) → StateDraws (seqr_asks s) s.rids t → SeqrDraws s (fed_if b s t)
fed_draws true s t d = record { drawn = d; sent = λ o h r. new_sent s t o h; said = λ o h. scan_said t.scan o (new_sent s t o h) }
fed_draws false s t d = record { drawn = same (seqr_asks s) s.rids; sent = λ o h r. absurd h; said = λ o h. absurd h }

scan_fed_draws : (s : SeqrState) (j : Option CellJob) (from : NodeId) (rid : ℕ) (x : Msg) → s.scan ≡ j → SeqrDraws s (scan_fed s j from rid x)
scan_fed_draws s None from rid x e = record { drawn = same (seqr_asks s) s.rids; sent = λ o h r. absurd h; said = λ o h. absurd h }
scan_fed_draws s (Some j) from rid x e =
    fed_draws (awaits (cell_asks j) from rid) s (scan_turn s (cell_feed j from.num (reply x) s.rids)) (next_draws (seqr_asks s) _ s.rids (record s { rids = (cell_feed j from.num (reply x) s.rids).next }) (cell_feed j from.num (reply x) s.rids).to (λ o h. h)
    (subst (λ (i : Option CellJob). NextDraws cell_asks (scan_asks i) s.rids (cell_feed j from.num (reply x) s.rids).besides (cell_feed j from.num (reply x) s.rids).next (cell_feed j from.num (reply x) s.rids).to) (sym e) (cell_feed_draws j from.num (reply x) s.rids)))

-- Answers.

-- an answer changes nothing of the scan
answer_draws : (s t : SeqrState) (to : NodeId) (rid : ℕ) (x : Msg) → t.rids ≡ s.rids → t.scan ≡ s.scan → is_request x ≡ false → tells_layout x ≡ false → SeqrDraws s (record { now = t; sends = record { to = to; rid = rid; msg = x } ∷ [] })
answer_draws s t to rid x e f quiet silent = record {
  drawn = subst (λ (n : ℕ). Drawn (seqr_asks s) s.rids (seqr_asks t) n) (sym e) (subst (λ (j : Option CellJob). Drawn (seqr_asks s) s.rids (scan_asks j) s.rids) (sym f) (same (seqr_asks s) s.rids));
  sent = λ o h r. by o h r;
  said = λ o h. one_said to rid x silent o h;
}
  where
    not_both : (x y : Msg) → x ≡ y → is_request x ≡ true → is_request y ≡ false → ⊥
    not_both x y e s t = cc

    by : (o : Out) → Has (record { to = to; rid = rid; msg = x } ∷ []) o → is_request o.msg ≡ true → Has (seqr_asks t) o
    by o (inl i) r = absurd (not_both o.msg x (ap (λ (y : Out). y.msg) i) r quiet)
    by o (inr h) r = absurd h

begun_draws : (s : SeqrState) (q : Layout) (from : NodeId) (rid : ℕ) (x : Msg) → is_request x ≡ false → tells_layout x ≡ false → SeqrDraws s (record { now = begun s q; sends = record { to = from; rid = rid; msg = x } ∷ drawn_from s.rids (seqr_asks (begun s q)) })
begun_draws s q from rid x quiet silent = record { drawn = scan_on_draws (seqr_asks s) s.rids (record s { epoch = q.epoch; proj = q; next = 0; lists = []; fence = None; scan = None }) _ (omega arith); sent = λ o h r. by o h r; said = λ o h. at o h }
  where
    at : (o : Out) → Has (record { to = from; rid = rid; msg = x } ∷ drawn_from s.rids (seqr_asks (begun s q))) o → tells_layout o.msg ≡ false
    at o (inl i) = subst (λ (y : Out). tells_layout y.msg ≡ false) (sym i) silent
    at o (inr h) = scan_said (begun s q).scan o (has_filter _ (seqr_asks (begun s q)) o h)

    not_both : (x y : Msg) → x ≡ y → is_request x ≡ true → is_request y ≡ false → ⊥
    not_both x y e s t = cc

    by : (o : Out) → Has (record { to = from; rid = rid; msg = x } ∷ drawn_from s.rids (seqr_asks (begun s q))) o → is_request o.msg ≡ true → Has (seqr_asks (begun s q)) o
    by o (inl i) r = absurd (not_both o.msg x (ap (λ (y : Out). y.msg) i) r quiet)
    by o (inr h) r = has_filter _ (seqr_asks (begun s q)) o h

stand_quiet : (s : SeqrState) (ls : List _) (b : Bool) → is_request (stand_answer s ls b) ≡ false
unfolding is_request tells_layout
stand_quiet s ls b = grind arith

stand_silent : (s : SeqrState) (ls : List _) (b : Bool) → tells_layout (stand_answer s ls b) ≡ false
unfolding tells_layout
stand_silent s ls b = grind arith

unfenced_draws : (s : SeqrState) (f : Option ℕ) (from : NodeId) (rid : ℕ) (t : SeqrTurn) → SeqrDraws s t → SeqrDraws s (unfenced f s from rid t)
unfolding is_request tells_layout
unfenced_draws s None from rid t d = d
unfenced_draws s (Some e) from rid t d = answer_draws s s from rid (msg.OldEpoch e) refl refl refl refl

own_draws : (b : Bool) (s : SeqrState) (from : NodeId) (rid : ℕ) (t : SeqrTurn) → SeqrDraws s t → SeqrDraws s (own_epoch b s from rid t)
unfolding is_request tells_layout
own_draws true s from rid t d = unfenced_draws s s.fence from rid t d
own_draws false s from rid t d = answer_draws s s from rid (msg.OldEpoch s.epoch) refl refl refl refl

learn_draws : (s : SeqrState) (q : Layout) (from : NodeId) (rid : ℕ) (b : Bool) → SeqrDraws s (on_learn s q from rid b)
learn_draws s q from rid true = begun_draws s q from rid _ (stand_quiet (begun s q) [] _) (stand_silent (begun s q) [] _)
learn_draws s q from rid false = unfenced_draws s s.fence from rid _ (answer_draws s s from rid _ refl refl (stand_quiet s [] _) (stand_silent s [] _))

learn_or_draws : (s : SeqrState) (q : Layout) (from : NodeId) (rid : ℕ) (b : Bool) → SeqrDraws s (learn_or_old s q from rid b)
unfolding is_request tells_layout
learn_or_draws s q from rid true = answer_draws s s from rid (msg.OldEpoch s.epoch) refl refl refl refl
learn_or_draws s q from rid false = learn_draws s q from rid _

issue_draws : (s : SeqrState) (os : List Oid) (from : NodeId) (rid : ℕ) (b : Bool) → SeqrDraws s (issue s os from rid b)
unfolding is_request tells_layout
issue_draws s os from rid true = answer_draws s s from rid (msg.Full s.limit) refl refl refl refl
issue_draws s os from rid false = answer_draws s _ from rid _ refl refl refl refl

token_draws : (s : SeqrState) (os : List Oid) (from : NodeId) (rid : ℕ) (b : Bool) → SeqrDraws s (on_token s os from rid b)
unfolding is_request tells_layout
token_draws s os from rid true = answer_draws s s from rid _ refl refl refl refl
token_draws s os from rid false = issue_draws s os from rid _

pub seqr_step_draws : (s : SeqrState) (from : NodeId) (rid : ℕ) (x : Msg) → SeqrDraws s (seqr_step s from rid x)
unfolding seqr_step
seqr_step_draws s from rid (msg.Learn q) = learn_or_draws s q from rid _
seqr_step_draws s from rid (msg.Token e os) = own_draws _ s from rid _ (token_draws s os from rid _)
seqr_step_draws s from rid (msg.Check e os) = own_draws _ s from rid _ (answer_draws s s from rid _ refl refl (stand_quiet s _ _) (stand_silent s _ _))
seqr_step_draws s from rid x = scan_fed_draws s s.scan from rid x refl

pub seqr_tick_draws : (s : SeqrState) → SeqrDraws s (seqr_tick s)
unfolding seqr_tick
seqr_tick_draws s = record { drawn = same (seqr_asks s) s.rids; sent = λ o h r. h; said = λ o h. scan_said s.scan o h }
