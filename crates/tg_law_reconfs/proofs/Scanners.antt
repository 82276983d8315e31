-- Of each sequencer of a run: its scan has the cell at the next position in hand, which it reads, fills or copies; it has none only where it scans no
-- more, or was fenced; and what fenced it is past its layout's epoch.
use Rattle.std.proofs.Common.{◌≡◌, ℕ, ◌+◌, ◌<◌, List, [], not, Bool, true, false, ◌||◌, eqb, refl, ap, ◌∙◌, sym, subst, arith, Some, None, Option}
use Rattle.std.specs.Prelude.{nat_lt, nat_le, min, ⊤}
use Rattle.tg_base.specs.Layouts.{Layout}
use Rattle.tg_base.specs.Clusters.{Header}
use Rattle.tg_base.specs.declared.ids.NodeId.{NodeId}
use Rattle.tg_base.specs.declared.ids.Oid.{Oid}
use Rattle.tg_base.specs.declared.msg.Msg.{Msg}
use Rattle.tg_base.specs.declared.msg.Msg.TheVariants as msg
use Rattle.tg_kind.specs.Meaning.{Meaning}
use Rattle.tg_protocol.specs.Words.{numbers}
use Rattle.tg_protocol.specs.Layouts.{first_layout}
use Rattle.tg_protocol.specs.Requests.{awaits, Turn, Next, Goes, Learns, Ends}
use Rattle.tg_protocol.specs.Replies.{Reply, reply}
use Rattle.tg_protocol.specs.Cells.{Place, CellJob, CellEnd, Done, Seen, Lost, Gone, Fenced, place_in, cell_asks, cell_feed, get_cell}
use Rattle.tg_protocol.specs.Sequencers.{SeqrState, SeqrTurn, new_seqr, with_positions, cell_streams, scan_on, scan_next, scan_turn, scanning, fed_if, scan_fed, answers, stand_answer, links_of, issue, on_token, unfenced, own_epoch, on_learn, learn_or_old, seqr_step, seqr_tick}
use Rattle.tg_protocol.specs.Worlds.{World, start, seqr}
use Rattle.tg_protocol.specs.Runs.{Moves, Reaches}
use Rattle.tg_law_layouts.specs.Moves.Configs.{Config, config, seqr_in}
use Rattle.tg_law_layouts.proofs.Moves.Lists.{at_set, at_map}
use Rattle.tg_law_layouts.proofs.Moves.Moves.{Cases, SeqrInput, Hears, Ticks, run_keeps}
use Rattle.tg_law_steps.proofs.Machines.Cells as cells
use Rattle.tg_law_finish.proofs.Finish.Midway.{ReadShape, read_job}
use Rattle.tg_law_reconfs.proofs.Nodes.{never_learns}
use Rattle.tg_law_reconfs.proofs.Scanning.{place_kept}

abbrev pub JobAt : SeqrState → Option CellJob → Type 0
JobAt s None = ⊤
JobAt s (Some j) = (j.place ≡ place_in s.proj s.next) × ReadShape j.place j.work

pub record Scanner (s : SeqrState) : Type 0 where
  pub at : JobAt s s.scan
  pub rests : scanning s ≡ false → s.scan ≡ None
  pub some : scanning s ≡ true → s.fence ≡ None → s.scan ≡ None → ⊥
  pub fenced : (e : ℕ) → s.fence ≡ Some e → s.proj.epoch < e

contrary : {b : Bool} → b ≡ true → b ≡ false → ⊥
contrary e f = grind arith

some_none : {X : Type 0} {x : X} {o : Option X} → o ≡ Some x → o ≡ None → ⊥
some_none e f = cc

FencedPast : SeqrState → Type 0
FencedPast s = (e : ℕ) → s.fence ≡ Some e → s.proj.epoch < e

goes_on : (s : SeqrState) (b : Bool) → scanning s ≡ b → FencedPast s → Scanner (scan_on s b)
unfolding get_cell FencedPast
goes_on s true is f = record { at = (refl, tt); rests = λ e. absurd (contrary is e); some = λ e g h. absurd (cc); fenced = f }
goes_on s false is f = record { at = tt; rests = λ e. refl; some = λ e g h. contrary e is; fenced = f }

-- a fence that ends it is past its epoch
abbrev ends_at : ℕ → ℕ → Next CellJob CellEnd
ends_at u e = Ends (Fenced u e)

same_fence : (u v d e : ℕ) → ends_at u d ≡ ends_at v e → d ≡ e
same_fence u v d e h = cc

is_less : (a b : ℕ) → nat_lt a b ≡ true → a < b
is_less a b e = grind arith

fence_past : (u : ℕ) (x : Reply) (next : ℕ) (j : CellJob) (t : Turn CellJob CellEnd) → cells.Fed u x next j t → (v e : ℕ) → t.to ≡ Ends (Fenced v e) → j.place.epoch < e
fence_past u x next _ _ (cells.IsFence j d is f) v e h = subst (λ (n : ℕ). j.place.epoch < n) (same_fence u v d e h) (is_less j.place.epoch d f)
fence_past u x next _ _ y v e h = absurd cc

some_one : (d e : ℕ) → Some d ≡ Some e → d ≡ e
some_one d e h = cc

module _ (s : SeqrState) (j : CellJob) (has : s.scan ≡ Some j) (h : Scanner s) where
  scans : scanning s ≡ true
  scans = by (scanning s) refl
    where
      by : (b : Bool) → scanning s ≡ b → scanning s ≡ true
      by true g = g
      by false g = absurd (some_none has (h.rests g))

  goes : (n : ℕ) (i : CellJob) → i.place ≡ j.place → ReadShape i.place i.work → Scanner (record s { rids = n; scan = Some i })
  goes n i e shape = record { at = (e ∙ (subst (JobAt s) has h.at).0, shape); rests = λ f. absurd (contrary scans f); some = λ f g k. absurd (cc); fenced = h.fenced }

  to_scanner : (n : ℕ) (to : Next CellJob CellEnd) → ((i : CellJob) → to ≡ Goes i → (i.place ≡ j.place) × ReadShape i.place i.work) → ((i : CellJob) → to ≡ Learns i → ⊥) → ((v e : ℕ) → to ≡ Ends (Fenced v e) → s.proj.epoch < e) → Scanner (scan_next (record s { rids = n }) to)
  unfolding FencedPast
  to_scanner n (Goes i) f g k = let x = f i refl in goes n i x.0 x.1
  to_scanner n (Learns i) f g k = absurd (g i refl)
  to_scanner n (Ends (Done c)) f g k = let t = record s { rids = n; next = s.next + 1; lists = with_positions s.next (cell_streams c) s.lists } in goes_on t (scanning t) refl h.fenced
  to_scanner n (Ends (Gone b)) f g k = let t = record s { rids = n; next = min b s.proj.start } in goes_on t (scanning t) refl h.fenced
  to_scanner n (Ends (Fenced u e)) f g k = record { at = tt; rests = λ i. refl; some = λ i g l. absurd (cc); fenced = λ d i. subst (λ (y : ℕ). s.proj.epoch < y) (some_one e d i) (k u e refl) }
  to_scanner n (Ends Seen) f g k = record { at = h.at; rests = h.rests; some = h.some; fenced = h.fenced }
  to_scanner n (Ends (Lost c)) f g k = record { at = h.at; rests = h.rests; some = h.some; fenced = h.fenced }

  turned : (u : ℕ) (x : Reply) → Scanner (scan_turn s (cell_feed j u x s.rids))
  turned u x =
      let t = cell_feed j u x s.rids in
      let fed = cells.cell_fed u x s.rids j in
      let at = subst (JobAt s) has h.at in
      to_scanner t.next t.to (λ i e. (place_kept u x s.rids j t fed i e, subst (λ (to : Next CellJob CellEnd). Rattle.tg_law_finish.proofs.Finish.Midway.ReadNext to) e (read_job u x s.rids j at.1)))
      (λ i e. never_learns j u x s.rids i e) (λ v e i. subst (λ (n : ℕ). n < e) (ap (λ (a : Place). a.epoch) at.0) (fence_past u x s.rids j t fed v e i))

fed_scanner : (b : Bool) (s t : SeqrState) → Scanner s → Scanner t → Scanner (fed_if b s t).now
fed_scanner true s t h k = k
fed_scanner false s t h k = h

scan_scanner : (s : SeqrState) (o : Option CellJob) (from : NodeId) (rid : ℕ) (y : Msg) → s.scan ≡ o → Scanner s → Scanner (scan_fed s o from rid y).now
scan_scanner s None from rid y e h = h
scan_scanner s (Some j) from rid y e h = fed_scanner (awaits (cell_asks j) from rid) s _ h (turned s j e h from.num (reply y))

unfenced_scanner : (o : Option ℕ) (s : SeqrState) (from : NodeId) (rid : ℕ) (t : SeqrTurn) → Scanner s → Scanner t.now → Scanner (unfenced o s from rid t).now
unfenced_scanner None s from rid t h k = k
unfenced_scanner (Some e) s from rid t h k = h

own_scanner : (b : Bool) (s : SeqrState) (from : NodeId) (rid : ℕ) (t : SeqrTurn) → Scanner s → Scanner t.now → Scanner (own_epoch b s from rid t).now
own_scanner true s from rid t h k = unfenced_scanner s.fence s from rid t h k
own_scanner false s from rid t h k = h

further : (a b : ℕ) → nat_lt a b ≡ false → nat_lt (a + 1) b ≡ true → ⊥
further a b e f = grind arith

issue_scanner : (b : Bool) (s : SeqrState) (os : List Oid) (from : NodeId) (rid : ℕ) → scanning s ≡ false → Scanner s → Scanner (issue s os from rid b).now
issue_scanner true s os from rid e h = h
issue_scanner false s os from rid e h = record {
  at = subst (λ (o : Option CellJob). JobAt (issue s os from rid false).now o) (sym (h.rests e)) tt;
  rests = λ f. h.rests e;
  some = λ f g i. further s.next s.proj.start e f;
  fenced = h.fenced;
}

token_scanner : (b : Bool) (s : SeqrState) (os : List Oid) (from : NodeId) (rid : ℕ) → scanning s ≡ b → Scanner s → Scanner (on_token s os from rid b).now
token_scanner true s os from rid e h = h
token_scanner false s os from rid e h = issue_scanner (nat_le s.limit s.next) s os from rid e h

learn_scanner : (b : Bool) (s : SeqrState) (q : Layout) (from : NodeId) (rid : ℕ) → Scanner s → Scanner (on_learn s q from rid b).now
unfolding FencedPast
learn_scanner true s q from rid h = let t = record s { epoch = q.epoch; proj = q; next = 0; lists = []; fence = None; scan = None } in goes_on t (scanning t) refl (λ e f. absurd (cc))
learn_scanner false s q from rid h = unfenced_scanner s.fence s from rid (answers s from rid (stand_answer s [] (scanning s))) h h

old_scanner : (b : Bool) (s : SeqrState) (q : Layout) (from : NodeId) (rid : ℕ) → Scanner s → Scanner (learn_or_old s q from rid b).now
old_scanner true s q from rid h = h
old_scanner false s q from rid h = learn_scanner (nat_lt s.epoch q.epoch) s q from rid h

step_scanner : (s : SeqrState) (from : NodeId) (rid : ℕ) (y : Msg) → Scanner s → Scanner (seqr_step s from rid y).now
unfolding seqr_step
step_scanner s from rid (msg.Learn q) h = old_scanner (not (eqb q.seq s.num) || nat_lt q.epoch s.epoch) s q from rid h
step_scanner s from rid (msg.Token d os) h = own_scanner (eqb d s.epoch) s from rid (on_token s os from rid (scanning s)) h (token_scanner (scanning s) s os from rid refl h)
step_scanner s from rid (msg.Check d os) h = own_scanner (eqb d s.epoch) s from rid (answers s from rid (stand_answer s (links_of s.lists os) (scanning s))) h h
step_scanner s from rid y h = scan_scanner s s.scan from rid y refl h

tick_scanner : (s : SeqrState) → Scanner s → Scanner (seqr_tick s).now
unfolding seqr_tick
tick_scanner s h = h

-- Over worlds.
module _ (m : Meaning) where
  abbrev Scanners : Config m → Type 0
  Scanners c = (s : ℕ) → Scanner (seqr_in m c s)

  input_scanner : (c : Config m) → Scanners c → (s : ℕ) (t : SeqrTurn) → SeqrInput m c s t → Scanner t.now
  input_scanner c h s _ (Hears p comes) = step_scanner (seqr_in m c s) p.from p.rid p.msg (h s)
  input_scanner c h s _ Ticks = tick_scanner (seqr_in m c s) (h s)

  keeps_scanners : (c : Config m) → Scanners c → Cases m c Scanners
  keeps_scanners c h = record {
    idle = h;
    unit = λ u p a less. h;
    layout = λ l p a less. h;
    seqr = λ s t i less. at_set c.seqrs s t.now (λ j. new_seqr j c.cluster.limit (first_layout c.cluster)) (λ j x. Scanner x) less (input_scanner c h s t i) (λ j other. h j);
    client = λ k t i less. h;
  }

  new_scanner : (h : Header) (n : ℕ) → Scanner (new_seqr n h.limit (first_layout h))
  unfolding new_seqr
  new_scanner h n = record { at = tt; rests = λ e. refl; some = λ e f g. none_below e; fenced = λ e f. absurd (cc) }
    where
      none_below : nat_lt 0 0 ≡ true → ⊥
      none_below e = grind arith

  start_scanners : (h : Header) → Scanners (config m (start m h))
  unfolding start
  start_scanners h s = at_map (λ (n : ℕ). new_seqr n h.limit (first_layout h)) (numbers h.seqs 0) s (new_seqr s h.limit (first_layout h)) (λ x. Scanner x) (λ n. new_scanner h n) (new_scanner h s)

  pub scanners_reached : (h : Header) (ms : Moves m) (w : World m) → Reaches m h ms w → (s : ℕ) → Scanner (seqr m w s)
  scanners_reached h ms w r = subst (λ (v : World m). Scanners (config m v)) (sym r.goes.is) (run_keeps m Scanners keeps_scanners ms (start m h) (start_scanners h))
