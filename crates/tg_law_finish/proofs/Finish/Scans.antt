-- What holds of each sequencer of a run: a scan is of its own layout, and is over where it isn't scanning.
use Rattle.std.proofs.Common.{◌≡◌, ◌⊎◌, ℕ, zero, suc, ◌+◌, ◌≤◌, List, [], map, Bool, true, false, not, ◌||◌, eqb, refl, ap, ◌∙◌, sym, subst, inl, inr, arith, Some, None, Option}
use Rattle.std.specs.Prelude.{slice_index_or, min, max, nat_le}
use Rattle.std.proofs.lemmas.Bool.Decides.{nat_tests}
use Rattle.tg_base.specs.Clusters.{Header}
use Rattle.tg_base.specs.Layouts.{Layout}
use Rattle.tg_base.specs.declared.ids.NodeId.{NodeId}
use Rattle.tg_base.specs.declared.ids.Oid.{Oid}
use Rattle.tg_base.specs.declared.msg.Msg.{Msg}
use Rattle.tg_base.specs.declared.msg.Msg.TheVariants as msg
use Rattle.tg_kind.specs.Meaning.{Meaning}
use Rattle.tg_protocol.specs.Words.{numbers}
use Rattle.tg_protocol.specs.Layouts.{first_layout}
use Rattle.tg_protocol.specs.Requests.{Next, Goes, Learns, Ends}
use Rattle.tg_protocol.specs.Cells.{CellJob, CellEnd, Done, Seen, Lost, Fenced, Gone}
use Rattle.tg_protocol.specs.Sequencers.{SeqrState, SeqrTurn, new_seqr, with_positions, cell_streams, scanning, scan_on, scan_ended, scan_next, fed_if, scan_fed, begun, issue, on_token, unfenced, own_epoch, on_learn, learn_or_old, seqr_step, seqr_tick}
use Rattle.tg_protocol.specs.Worlds.{start}
use Rattle.tg_protocol.specs.Runs.{Moves}
use Rattle.tg_law_layouts.specs.Moves.After.{after}
use Rattle.tg_law_layouts.specs.Moves.Configs.{Config, config, seqr_in}
use Rattle.tg_law_layouts.proofs.Moves.Lists.{at_set}
use Rattle.tg_law_layouts.proofs.Moves.Moves.{SeqrInput, Hears, Ticks, Keeps, run_keeps}

-- Of one sequencer, by its number and its limit.
module _ (n l : ℕ) where
  pub record Fine (s : SeqrState) : Type 0 where
    pub num : s.num ≡ n
    pub limit : s.limit ≡ l
    pub rests : scanning s ≡ false → s.scan ≡ None
    pub own : (s.scan ≡ None) ⊎ (s.proj.seq ≡ n)
    pub room : s.next ≤ max l s.proj.start

  -- Where it scans, a position further is one of the scan's, or the start.

  one_further : (s : SeqrState) → scanning s ≡ true → s.next + 1 ≤ max l s.proj.start
  one_further s e = grind (arith, nat_tests, e)

  at_start : (b p : ℕ) → min b p ≤ max l p
  at_start b p = grind arith

  has_room : (a b : ℕ) → nat_le l a ≡ false → a + 1 ≤ max l b
  has_room a b e = grind (arith, nat_tests, e)

  from_zero : (b : ℕ) → 0 ≤ max l b
  from_zero b = omega arith

  on_fine : (s : SeqrState) (b : Bool) → scanning s ≡ b → s.num ≡ n → s.limit ≡ l → s.proj.seq ≡ n → s.next ≤ max l s.proj.start → Fine (scan_on s b)
  on_fine s true e a b o r = record { num = a; limit = b; rests = λ f. absurd (contrary e f); own = inr o; room = r }
    where
      contrary : {x : Bool} → x ≡ true → x ≡ false → ⊥
      contrary e f = grind arith
  on_fine s false e a b o r = record { num = a; limit = b; rests = λ f. refl; own = inl refl; room = r }

  ended_fine : (s : SeqrState) (e : CellEnd) → Fine s → scanning s ≡ true → s.proj.seq ≡ n → Fine (scan_ended s e)
  ended_fine s (Done c) f g o = on_fine (record s { next = s.next + 1; lists = with_positions s.next (cell_streams c) s.lists }) _ refl f.num f.limit o (one_further s g)
  ended_fine s (Gone b) f g o = on_fine (record s { next = min b s.proj.start }) _ refl f.num f.limit o (at_start b s.proj.start)
  ended_fine s (Fenced u e) f g o = record { num = f.num; limit = f.limit; rests = λ h. refl; own = inl refl; room = f.room }
  ended_fine s Seen f g o = f
  ended_fine s (Lost c) f g o = f

  goes_fine : (s : SeqrState) (j : CellJob) → Fine s → scanning s ≡ true → s.proj.seq ≡ n → Fine (record s { scan = Some j })
  goes_fine s j f e o = record { num = f.num; limit = f.limit; rests = λ g. absurd (contrary e g); own = inr o; room = f.room }
    where
      contrary : {x : Bool} → x ≡ true → x ≡ false → ⊥
      contrary e f = grind arith

  next_fine : (s : SeqrState) (t : Next CellJob CellEnd) → Fine s → scanning s ≡ true → s.proj.seq ≡ n → Fine (scan_next s t)
  next_fine s (Goes j) f e o = goes_fine s j f e o
  next_fine s (Learns j) f e o = goes_fine s j f e o
  next_fine s (Ends x) f e o = ended_fine s x f e o

  -- where it has a cell in hand it scans, and its layout is its own
  none_some : {X : Type 0} {x : X} {o : Option X} → o ≡ Some x → o ≡ None → ⊥
  none_some e f = cc

  scans : (s : SeqrState) (j : CellJob) → s.scan ≡ Some j → Fine s → scanning s ≡ true
  scans s j e f = by (scanning s) refl
    where
      by : (b : Bool) → scanning s ≡ b → scanning s ≡ true
      by true g = g
      by false g = absurd (none_some e (f.rests g))

  is_own : (s : SeqrState) (j : CellJob) → s.scan ≡ Some j → Fine s → s.proj.seq ≡ n
  is_own s j e f = by f.own
    where
      by : (s.scan ≡ None) ⊎ (s.proj.seq ≡ n) → s.proj.seq ≡ n
      by (inl g) = absurd (none_some e g)
      by (inr g) = g

  turn_fine : (s : SeqrState) (rids : ℕ) (t : Next CellJob CellEnd) → Fine s → scanning s ≡ true → s.proj.seq ≡ n → Fine (scan_next (record s { rids = rids }) t)
  turn_fine s rids t f e o = next_fine (record s { rids = rids }) t (record { num = f.num; limit = f.limit; rests = f.rests; own = f.own; room = f.room }) e o

  fed_fine : (b : Bool) (s t : SeqrState) → Fine s → Fine t → Fine (fed_if b s t).now
  fed_fine true s t f g = g
  fed_fine false s t f g = f

  scan_fed_fine : (s : SeqrState) (o : Option CellJob) (from : NodeId) (rid : ℕ) (y : Msg) → s.scan ≡ o → Fine s → Fine (scan_fed s o from rid y).now
  scan_fed_fine s None from rid y e f = f
  scan_fed_fine s (Some j) from rid y e f = fed_fine _ s _ f (turn_fine s _ _ f (scans s j e f) (is_own s j e f))

  unfenced_fine : (o : Option ℕ) (s : SeqrState) (from : NodeId) (rid : ℕ) (t : SeqrTurn) → Fine s → Fine t.now → Fine (unfenced o s from rid t).now
  unfenced_fine None s from rid t f g = g
  unfenced_fine (Some e) s from rid t f g = f

  own_fine : (b : Bool) (s : SeqrState) (from : NodeId) (rid : ℕ) (t : SeqrTurn) → Fine s → Fine t.now → Fine (own_epoch b s from rid t).now
  own_fine true s from rid t f g = unfenced_fine s.fence s from rid t f g
  own_fine false s from rid t f g = f

  issue_fine : (s : SeqrState) (os : List Oid) (from : NodeId) (rid : ℕ) (b : Bool) → nat_le s.limit s.next ≡ b → scanning s ≡ false → Fine s → Fine (issue s os from rid b).now
  issue_fine s os from rid true i e f = f
  issue_fine s os from rid false i e f = record { num = f.num; limit = f.limit; rests = λ g. f.rests e; own = f.own; room = has_room s.next s.proj.start (subst (λ x. nat_le x s.next ≡ false) f.limit i) }

  token_fine : (s : SeqrState) (os : List Oid) (from : NodeId) (rid : ℕ) (b : Bool) → scanning s ≡ b → Fine s → Fine (on_token s os from rid b).now
  token_fine s os from rid true e f = f
  token_fine s os from rid false e f = issue_fine s os from rid _ refl e f

  begun_fine : (s : SeqrState) (q : Layout) → Fine s → q.seq ≡ n → Fine (begun s q)
  begun_fine s q f e = on_fine (record s { epoch = q.epoch; proj = q; next = 0; lists = []; fence = None; scan = None }) _ refl f.num f.limit e (from_zero q.start)

  learn_fine : (s : SeqrState) (q : Layout) (from : NodeId) (rid : ℕ) (b : Bool) → Fine s → q.seq ≡ n → Fine (on_learn s q from rid b).now
  learn_fine s q from rid true f e = begun_fine s q f e
  learn_fine s q from rid false f e = unfenced_fine s.fence s from rid _ f f

  named_itself : (q : Layout) (k : ℕ) (old : Bool) → (not (eqb q.seq k) || old) ≡ false → q.seq ≡ k
  named_itself q k old e = grind arith

  learn_or_fine : (s : SeqrState) (q : Layout) (from : NodeId) (rid : ℕ) (b : Bool) → (b ≡ false → q.seq ≡ n) → Fine s → Fine (learn_or_old s q from rid b).now
  learn_or_fine s q from rid true e f = f
  learn_or_fine s q from rid false e f = learn_fine s q from rid _ f (e refl)

  step_fine : (s : SeqrState) (from : NodeId) (rid : ℕ) (y : Msg) → Fine s → Fine (seqr_step s from rid y).now
  unfolding seqr_step
  step_fine s from rid (msg.Learn q) f = learn_or_fine s q from rid _ (λ e. named_itself q s.num _ e ∙ f.num) f
  step_fine s from rid (msg.Token e os) f = own_fine _ s from rid _ f (token_fine s os from rid (scanning s) refl f)
  step_fine s from rid (msg.Check e os) f = own_fine _ s from rid _ f f
  step_fine s from rid y f = scan_fed_fine s s.scan from rid y refl f

  tick_fine : (s : SeqrState) → Fine s → Fine (seqr_tick s).now
  unfolding seqr_tick
  tick_fine s f = f

at_numbers : {A : Type 0} (f : ℕ → A) (n a k : ℕ) (d : A) → d ≡ f (a + k) → slice_index_or (map f (numbers n a)) k d ≡ f (a + k)
at_numbers f zero a k d e = e
at_numbers f (suc n) a zero d e = ap f (omega arith)
at_numbers f (suc n) a (suc k) d e = at_numbers f n (a + 1) k d (e ∙ ap f (omega arith)) ∙ ap f (omega arith)

module _ (m : Meaning) where
  pub record Seqrs (c : Config m) : Type 0 where
    pub fine : (s : ℕ) → Fine s c.cluster.limit (seqr_in m c s)

  input_fine : (c : Config m) (s : ℕ) (t : SeqrTurn) → SeqrInput m c s t → Fine s c.cluster.limit (seqr_in m c s) → Fine s c.cluster.limit t.now
  input_fine c s t (Hears p comes) f = step_fine s c.cluster.limit (seqr_in m c s) p.from p.rid p.msg f
  input_fine c s t Ticks f = tick_fine s c.cluster.limit (seqr_in m c s) f

  seqrs_keep : Keeps m Seqrs
  seqrs_keep c h = record {
    idle = h;
    unit = λ u p a less. record { fine = h.fine };
    layout = λ u p a less. record { fine = h.fine };
    seqr = λ s t i less. record { fine = at_set c.seqrs s t.now (λ j. new_seqr j c.cluster.limit (first_layout c.cluster)) (λ j x. Fine j c.cluster.limit x) less (input_fine c s t i (h.fine s)) (λ j off. h.fine j) };
    client = λ k t i less. record { fine = h.fine };
  }

  new_fine : (n l : ℕ) (p : Layout) → Fine n l (new_seqr n l p)
  unfolding new_seqr
  new_fine n l p = record { num = refl; limit = refl; rests = λ e. refl; own = inl refl; room = from_zero n l p.start }

  start_seqrs : (h : Header) → Seqrs (config m (start m h))
  unfolding start
  start_seqrs h = record { fine = λ s. subst (λ x. Fine s h.limit x) (sym (at_numbers (λ n. new_seqr n h.limit (first_layout h)) h.seqs 0 s (new_seqr s h.limit (first_layout h)) (ap (λ n. new_seqr n h.limit (first_layout h)) (omega arith)) ∙ ap (λ n. new_seqr n h.limit (first_layout h)) (omega arith))) (new_fine s h.limit (first_layout h)) }

  pub seqrs_hold : (h : Header) (xs : Moves m) → Seqrs (config m (after m h xs))
  seqrs_hold h xs = run_keeps m Seqrs seqrs_keep xs (start m h) (start_seqrs h)
