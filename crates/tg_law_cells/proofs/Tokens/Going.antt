-- How a sequencer goes on, and what it issues.
use Rattle.std.proofs.Common.{◌≡◌, ◌⊎◌, ℕ, ◌+◌, ◌<◌, ◌≤◌, List, [], ◌∷◌, Bool, true, false, refl, sym, ap, ◌∙◌, subst, inl, inr, arith, Some, None, Option}
use Rattle.std.specs.Prelude.{min, nat_lt, ◌==◌}
use Rattle.tg_base.specs.Layouts.{Layout}
use Rattle.tg_base.specs.declared.cell.Cell.{Cell}
use Rattle.tg_base.specs.declared.ids.NodeId.{NodeId}
use Rattle.tg_base.specs.declared.ids.Oid.{Oid}
use Rattle.tg_base.specs.declared.marks.StreamLink.{StreamLink}
use Rattle.tg_base.specs.declared.msg.Msg.{Msg}
use Rattle.tg_base.specs.declared.msg.Msg.TheVariants as msg
use Rattle.tg_base.specs.declared.packet.Out.{Out}
use Rattle.tg_protocol.specs.Words.{unit_id}
use Rattle.tg_protocol.specs.Replies.{Reply, reply}
use Rattle.tg_protocol.specs.Requests.{out, drawn_from, Next, Goes, Learns, Ends}
use Rattle.tg_protocol.specs.Cells.{Place, CellWork, Puts, Gets, Fills, Copies, Probes, CellJob, CellTurn, CellEnd, Done, Fenced, Gone, Lost, Seen, cell_feed, work_asks, get_cell}
use Rattle.tg_protocol.specs.Sequencers.{SeqrState, SeqrTurn, with_positions, cell_streams, links_of, scan_asks, seqr_asks, scanning, scan_on, scan_ended, scan_next, fed_if, scan_fed, begun, stand_answer, issue, on_token, issued, learns, unfenced, own_epoch, on_learn, learn_or_old, answers, seqr_step, seqr_tick}
use Rattle.tg_law_steps.proofs.Machines.Cells as cells
use Rattle.tg_law_layouts.proofs.Moves.Members.{Has, has_filter, has_map}
use Rattle.tg_law_cells.specs.Tokens.Issuing.{is_issued}

-- it scans only below the start
pub record ScanOk (s : SeqrState) : Type 0 where
  pub below : (j : CellJob) → s.scan ≡ Some j → s.next < s.proj.start
  pub at : (j : CellJob) → s.scan ≡ Some j → j.place.pos ≡ s.next

pub record Same (s t : SeqrState) : Type 0 where
  pub epoch : t.epoch ≡ s.epoch
  pub proj : t.proj ≡ s.proj

pub data Went (s t : SeqrState) : Type 0 where
  Stays : Same s t → t.next ≡ s.next → t.lists ≡ s.lists → Went s t
  Begins : (q : Layout) → s.epoch < q.epoch → t.epoch ≡ q.epoch → t.proj ≡ q → t.next ≡ 0 → t.lists ≡ [] → Went s t
  Scans : (c : Cell) → Same s t → s.next < s.proj.start → t.next ≡ s.next + 1 → t.lists ≡ with_positions s.next (cell_streams c) s.lists → Went s t
  Jumps : (b : ℕ) → Same s t → s.next < s.proj.start → s.next < b → t.next ≡ min b s.proj.start → t.lists ≡ s.lists → Went s t
  Issues : (os : List Oid) → Same s t → s.proj.start ≤ s.next → t.next ≡ s.next + 1 → t.lists ≡ with_positions s.next os s.lists → Went s t

-- an answer that issues, to a request of its own epoch
pub record IsIssue (s : SeqrState) (from : NodeId) (rid : ℕ) (y : Msg) (t : SeqrTurn) (o : Out) : Type 0 where
  pub os : List Oid
  pub asks : y ≡ msg.Token s.epoch os
  pub ready : s.proj.start ≤ s.next
  pub is : o ≡ out from rid (msg.Issued s.next (links_of s.lists os))
  pub now : t.now ≡ issued s os

pub record Goes' (s : SeqrState) (from : NodeId) (rid : ℕ) (y : Msg) (t : SeqrTurn) : Type 0 where
  pub scan : ScanOk t.now
  pub went : Went s t.now
  pub says : (o : Out) → Has t.sends o → (is_issued o.msg ≡ false) ⊎ IsIssue s from rid y t o

less_of : (a b : ℕ) → nat_lt a b ≡ true → a < b
less_of a b h = grind arith

not_less : (a b : ℕ) → nat_lt a b ≡ false → b ≤ a
not_less a b h = grind arith

no_job : {X : Type 0} (j : CellJob) → None ≡ Some j → X
no_job j e = absurd (cc)

same_job : (i j : CellJob) → Some i ≡ Some j → i ≡ j
same_job i j e = cc

-- Where its cell lies.

abbrev NextAt : Place → Next CellJob CellEnd → Type 0
NextAt a (Goes j) = j.place ≡ a
NextAt a (Learns j) = j.place ≡ a
NextAt a (Ends (Gone b)) = a.pos < b
NextAt a (Ends e) = Unit {0}

turn_at : (u : ℕ) (x : Reply) (next : ℕ) (j : CellJob) (t : CellTurn) → cells.Fed u x next j t → NextAt j.place t.to
turn_at u x next _ _ (cells.IsTrim a w b one is past) = less_of a.pos b past
turn_at u x next _ _ (cells.PutsOn a r d i is more) = refl
turn_at u x next _ _ (cells.ReadsNone a r is) = refl
turn_at u x next _ _ (cells.CopiesOn a w c i of more) = refl
turn_at u x next _ _ (cells.ProbesOn a ws v vs of left) = refl
turn_at u x next _ _ (cells.Nothing j) = refl
turn_at u x next _ _ came = tt

cell_at : (j : CellJob) (u : ℕ) (x : Reply) (next : ℕ) → NextAt j.place (cell_feed j u x next).to
cell_at j u x next = turn_at u x next j _ (cells.cell_fed u x next j)

-- What it asks of units.

one_silent : (to : NodeId) (r : ℕ) (x : Msg) (o : Out) → is_issued x ≡ false → Has (out to r x ∷ []) o → is_issued o.msg ≡ false
one_silent to r x o q (inl e) = subst (λ (y : Out). is_issued y.msg ≡ false) (sym e) q
one_silent to r x o q (inr h) = absurd h

work_silent : (a : Place) (w : CellWork) (o : Out) → Has (work_asks a w) o → is_issued o.msg ≡ false
unfolding work_asks is_issued
work_silent a (Puts r d i) o h = one_silent _ r _ o refl h
work_silent a (Gets r) o h = one_silent _ r _ o refl h
work_silent a (Fills r) o h = one_silent _ r _ o refl h
work_silent a (Copies r c i) o h = one_silent _ r _ o refl h
work_silent a (Probes ws) o h = let i = has_map (λ (w : ℕ × ℕ). out (unit_id w.0) w.1 (msg.Has a.epoch a.pos a.pos 1)) ws o h in subst (λ (y : Out). is_issued y.msg ≡ false) (sym i.is) refl

pub scan_silent : (j : Option CellJob) (o : Out) → Has (scan_asks j) o → is_issued o.msg ≡ false
scan_silent None o h = absurd h
scan_silent (Some j) o h = work_silent j.place j.work o h

-- The scan.

as_before : (s : SeqrState) → Went s s
as_before s = Stays (record { epoch = refl; proj = refl }) refl refl

scan_on_ok : (s : SeqrState) (b : Bool) → scanning s ≡ b → ScanOk (scan_on s b)
unfolding get_cell
scan_on_ok s true e = record { below = λ j i. less_of s.next s.proj.start e; at = λ j i. sym (ap (λ (x : CellJob). x.place.pos) (same_job _ j i)) }
scan_on_ok s false e = record { below = λ j i. no_job j i; at = λ j i. no_job j i }

record Scanned (s t : SeqrState) : Type 0 where
  scan : ScanOk t
  went : Went s t

seen_on : (s u : SeqrState) (c : Cell) (b : Bool) → scanning u ≡ b → Same s u → s.next < s.proj.start → u.next ≡ s.next + 1 → u.lists ≡ with_positions s.next (cell_streams c) s.lists → Scanned s (scan_on u b)
seen_on s u c true e same less n l = record { scan = scan_on_ok u true e; went = Scans c (record { epoch = same.epoch; proj = same.proj }) less n l }
seen_on s u c false e same less n l = record { scan = scan_on_ok u false e; went = Scans c (record { epoch = same.epoch; proj = same.proj }) less n l }

jumps_on : (s u : SeqrState) (x : ℕ) (b : Bool) → scanning u ≡ b → Same s u → s.next < s.proj.start → s.next < x → u.next ≡ min x s.proj.start → u.lists ≡ s.lists → Scanned s (scan_on u b)
jumps_on s u x true e same less past n l = record { scan = scan_on_ok u true e; went = Jumps x (record { epoch = same.epoch; proj = same.proj }) less past n l }
jumps_on s u x false e same less past n l = record { scan = scan_on_ok u false e; went = Jumps x (record { epoch = same.epoch; proj = same.proj }) less past n l }

ended : (s t : SeqrState) (e : CellEnd) → t.epoch ≡ s.epoch → t.proj ≡ s.proj → t.next ≡ s.next → t.lists ≡ s.lists → s.next < s.proj.start → ScanOk t → (a : Place) → a.pos ≡ s.next → NextAt a (Ends e) → Scanned s (scan_ended t e)
ended s t (Done c) a b n l less k z at past = by_seen
  where
    by_seen : Scanned s (scan_ended t (Done c))
    by_seen = seen_on s (record t { next = t.next + 1; lists = with_positions t.next (cell_streams c) t.lists }) c _ refl (record { epoch = a; proj = b }) less (ap (λ x. x + 1) n) (ap (λ x. with_positions x (cell_streams c) t.lists) n ∙ ap (λ x. with_positions s.next (cell_streams c) x) l)
ended s t (Gone x) a b n l less k z at past = jumps_on s (record t { next = min x t.proj.start }) x _ refl (record { epoch = a; proj = b }) less (subst (λ p. p < x) at past) (ap (λ (p : Layout). min x p.start) b) l
ended s t (Fenced u e) a b n l less k z at past = record { scan = record { below = λ j i. no_job j i; at = λ j i. no_job j i }; went = Stays (record { epoch = a; proj = b }) n l }
ended s t (Lost c) a b n l less k z at past = record { scan = k; went = Stays (record { epoch = a; proj = b }) n l }
ended s t Seen a b n l less k z at past = record { scan = k; went = Stays (record { epoch = a; proj = b }) n l }

next_scanned : (s : SeqrState) → ScanOk s → (rids : ℕ) (a : Place) → a.pos ≡ s.next → (to : Next CellJob CellEnd) → NextAt a to → s.next < s.proj.start → Scanned s (scan_next (record s { rids = rids }) to)
next_scanned s ok rids a at (Goes j) h less = record { scan = record { below = λ k i. less; at = λ k i. ap (λ (x : CellJob). x.place.pos) (sym (same_job j k i)) ∙ (ap (λ (x : Place). x.pos) h ∙ at) }; went = Stays (record { epoch = refl; proj = refl }) refl refl }
next_scanned s ok rids a at (Learns j) h less = record { scan = record { below = λ k i. less; at = λ k i. ap (λ (x : CellJob). x.place.pos) (sym (same_job j k i)) ∙ (ap (λ (x : Place). x.pos) h ∙ at) }; went = Stays (record { epoch = refl; proj = refl }) refl refl }
next_scanned s ok rids a at (Ends e) h less = ended s (record s { rids = rids }) e refl refl refl refl less (record { below = λ k i. less; at = λ k i. ok.at k i }) a at h

module _ (s : SeqrState) (ok : ScanOk s) (from : NodeId) (rid : ℕ) (y : Msg) where
  silent : (t : SeqrState) (sends : List Out) → ScanOk t → Went s t → ((o : Out) → Has sends o → is_issued o.msg ≡ false) → Goes' s from rid y (record { now = t; sends = sends })
  silent t sends k w q = record { scan = k; went = w; says = λ o h. inl (q o h) }

  none_sent : (o : Out) → Has [] o → is_issued o.msg ≡ false
  none_sent o h = absurd h

  fed : (b : Bool) (t : SeqrState) → Scanned s t → Goes' s from rid y (fed_if b s t)
  fed true t k = silent t _ k.scan k.went (λ o h. scan_silent t.scan o (has_filter _ (seqr_asks t) o h))
  fed false t k = silent s [] ok (as_before s) none_sent

  scan_fed_goes : (j : Option CellJob) (x : Msg) → s.scan ≡ j → Goes' s from rid y (scan_fed s j from rid x)
  scan_fed_goes None x e = silent s [] ok (as_before s) none_sent
  scan_fed_goes (Some j) x e = fed _ _ (next_scanned s ok _ j.place (ok.at j e) (cell_feed j from.num (reply x) s.rids).to (cell_at j from.num (reply x) s.rids) (ok.below j e))

  answered : (x : Msg) → is_issued x ≡ false → Goes' s from rid y (answers s from rid x)
  answered x q = silent s _ ok (as_before s) (λ o h. one_silent from rid x o q h)

  stand_silent : (t : SeqrState) (ls : List StreamLink) (b : Bool) → is_issued (stand_answer t ls b) ≡ false
  unfolding is_issued
  stand_silent t ls true = refl
  stand_silent t ls false = refl

  begins : (q : Layout) → s.epoch < q.epoch → Goes' s from rid y (learns s (begun s q) from rid)
  begins q less = silent (begun s q) _ (scan_on_ok u _ refl) (by _) sends
    where
      u : SeqrState
      u = record s { epoch = q.epoch; proj = q; next = 0; lists = []; fence = None; scan = None }

      by : (b : Bool) → Went s (scan_on u b)
      by true = Begins q less refl refl refl refl
      by false = Begins q less refl refl refl refl

      sends : (o : Out) → Has (out from rid (stand_answer (begun s q) [] (scanning (begun s q))) ∷ drawn_from s.rids (seqr_asks (begun s q))) o → is_issued o.msg ≡ false
      sends o (inl e) = one_silent from rid _ o (stand_silent (begun s q) [] _) (inl e)
      sends o (inr h) = scan_silent (begun s q).scan o (has_filter _ (seqr_asks (begun s q)) o h)

  unfenced_goes : (f : Option ℕ) (t : SeqrTurn) → Goes' s from rid y t → Goes' s from rid y (unfenced f s from rid t)
  unfolding is_issued
  unfenced_goes None t d = d
  unfenced_goes (Some e) t d = answered (msg.OldEpoch e) refl

  own : (b : Bool) (t : SeqrTurn) → (b ≡ true → Goes' s from rid y t) → Goes' s from rid y (own_epoch b s from rid t)
  unfolding is_issued
  own true t d = unfenced_goes s.fence t (d refl)
  own false t d = answered (msg.OldEpoch s.epoch) refl

  learn : (q : Layout) (b : Bool) → nat_lt s.epoch q.epoch ≡ b → Goes' s from rid y (on_learn s q from rid b)
  learn q true e = begins q (less_of s.epoch q.epoch e)
  learn q false e = unfenced_goes s.fence _ (answered _ (stand_silent s [] _))

  learn_or : (q : Layout) (b : Bool) → Goes' s from rid y (learn_or_old s q from rid b)
  unfolding is_issued
  learn_or q true = answered (msg.OldEpoch s.epoch) refl
  learn_or q false = learn q _ refl

  issues : (os : List Oid) (b : Bool) → scanning s ≡ false → y ≡ msg.Token s.epoch os → Goes' s from rid y (issue s os from rid b)
  unfolding is_issued
  issues os true e a = answered (msg.Full s.limit) refl
  issues os false e a = record {
    scan = record { below = λ j i. let l = ok.below j i in let n = not_less s.next s.proj.start e in absurd (omega (arith, l, n)); at = λ j i. let l = ok.below j i in let n = not_less s.next s.proj.start e in absurd (omega (arith, l, n)) };
    went = Issues os (record { epoch = refl; proj = refl }) (not_less s.next s.proj.start e) refl refl;
    says = λ o h. inr (by o h);
  }
    where
      by : (o : Out) → Has (out from rid (msg.Issued s.next (links_of s.lists os)) ∷ []) o → IsIssue s from rid y (issue s os from rid false) o
      by o (inl i) = record { os = os; asks = a; ready = not_less s.next s.proj.start e; is = i; now = refl }
      by o (inr h) = absurd h

  tokens : (os : List Oid) (b : Bool) → scanning s ≡ b → y ≡ msg.Token s.epoch os → Goes' s from rid y (on_token s os from rid b)
  unfolding is_issued
  tokens os true e a = answered (msg.Scanning s.next s.proj.start) refl
  tokens os false e a = issues os _ e a

same_epoch : (e f : ℕ) → (e == f) ≡ true → e ≡ f
same_epoch e f h = grind arith

pub seqr_goes : (s : SeqrState) → ScanOk s → (from : NodeId) (rid : ℕ) (y : Msg) → Goes' s from rid y (seqr_step s from rid y)
unfolding seqr_step
seqr_goes s ok from rid (msg.Learn q) = learn_or s ok from rid (msg.Learn q) q _
seqr_goes s ok from rid (msg.Token e os) = own s ok from rid (msg.Token e os) _ _ (λ b. tokens s ok from rid (msg.Token e os) os _ refl (ap (λ x. msg.Token x os) (same_epoch e s.epoch b)))
seqr_goes s ok from rid (msg.Check e os) = own s ok from rid (msg.Check e os) _ _ (λ b. answered s ok from rid (msg.Check e os) _ (stand_silent s ok from rid (msg.Check e os) s _ _))
seqr_goes s ok from rid y = scan_fed_goes s ok from rid y s.scan y refl

pub seqr_ticks : (s : SeqrState) → ScanOk s → (from : NodeId) (rid : ℕ) (y : Msg) → Goes' s from rid y (seqr_tick s)
unfolding seqr_tick
seqr_ticks s ok from rid y = silent s ok from rid y s _ ok (as_before s) (λ o h. scan_silent s.scan o h)
