-- A settling ends a `copy`.
use Rattle.std.proofs.Common.{◌≡◌, ℕ, ◌+◌, ◌-◌, ◌*◌, ◌^◌, ◌<◌, ◌≤◌, List, [], ◌∷◌, length, true, false, refl, sym, subst, inl, arith, Some, None}
use Rattle.std.proofs.lemmas.Nat.{mul-le}
use Rattle.tg_base.specs.Layouts.{Layout, IsLayout}
use Rattle.tg_base.specs.Orders.{node_eq}
use Rattle.tg_base.specs.declared.msg.Msg.TheVariants as msg
use Rattle.tg_base.specs.declared.packet.Out.{Out}
use Rattle.tg_kind.specs.Meaning.{Meaning}
use Rattle.tg_protocol.specs.Words.{unit_id, layout_id}
use Rattle.tg_protocol.specs.Layouts.{chain_of, range_end}
use Rattle.tg_protocol.specs.Requests.{out}
use Rattle.tg_protocol.specs.Trimming.{CopyWork, Sealing, Reading, Storing, Trimming, Looking, Copying, has_stripe, copy_work_asks}
use Rattle.tg_protocol.specs.Clients.{Copying', Doing, Work, copy_fault}
use Rattle.tg_protocol.specs.ClientSteps.{task_asks, task_awaited}
use Rattle.tg_protocol.specs.Worlds.{World, unit, seqr, client, runs}
use Rattle.tg_law_layouts.proofs.Moves.Members.{Has}
use Rattle.tg_law_finish.proofs.Finish.Asking.{Walkable, CopyStands}
use Rattle.tg_law_finish.proofs.Finish.Brought.{Since}
use Rattle.tg_law_finish.proofs.Finish.Copyings.{CopyFair, pass_less, pass_shrinks, StripeGood, Here, extra, rest, WorkStage, Bringing, CopyStage, copies_talk}
use Rattle.tg_law_finish.proofs.Finish.Nets.{net}
use Rattle.tg_law_finish.proofs.Finish.Rounds.{finishes_of}
use Rattle.tg_law_finish.proofs.Finish.Settles.{Facts}
use Rattle.tg_law_finish.proofs.Finish.Starts.{job_stage, one_asked}
use Rattle.tg_law_finish.proofs.Finish.Stripes.{InStripe, step_of, ends_low, is_closed, is_there, some_step, stands_off}
use Rattle.tg_law_finish.proofs.Finish.Talks.{Request}
use Rattle.tg_law_finish.proofs.Finish.Tasks.{TaskShape}
use Rattle.tg_law_finish.proofs.Finish.Waits.{Ends, good, waits_for}
use Rattle.tg_law_finish.proofs.Finish.Working.{Working, Lawful}
use Rattle.tg_law_finish.proofs.Finish.Writers.{unit_away}

-- the client copies a closed stripe to a spare unit, which runs and isn't past the layout
pub record Brings (m : Meaning) (w : World m) (k : ℕ) (p : Layout) : Type 0 where
  pub work : Work m
  pub waits : (client m w k).work ≡ Some work
  pub copying : Copying
  pub hand : work.hand ≡ Doing (Copying' copying)
  pub fault : copy_fault m p copying.unit copying.range copying.stripe ≡ None
  pub stands : CopyStands m w p copying.range copying.stripe copying.work
  pub since : Since p (unit m w copying.unit).epoch copying.work
  pub running : runs m w (unit_id copying.unit) ≡ true
  pub upto : (unit m w copying.unit).epoch ≤ p.epoch
  pub below : (o : Out) → Has (task_awaited m p (Copying' copying)) o → o.rid < (client m w k).next

module _ (m : Meaning) (w : World m) (k : ℕ) (p : Layout) (longest : ℕ) (a : Working m w k p) (b : Lawful m w p longest) (u : Walkable m w p)
    (rules : IsLayout p) (near : p.start < 2 ^ 62) (past : p.start ≤ (seqr m w p.seq).next) (f : Brings m w k p)
    (Fact : World m → Type 0) (facts : Facts m Fact (λ s x. CopyFair m p f.copying.unit f.copying.range f.copying.stripe s x)) (fact : Fact w) where
  abbrev tail : ℕ
  tail = (seqr m w p.seq).next

  abbrev low_at : ℕ → ℕ
  low_at n = (unit m w n).low

  abbrev many : ℕ
  many = length w.units

  abbrev layouts : ℕ
  layouts = (client m w k).layouts

  abbrev spare : ℕ
  spare = f.copying.unit

  abbrev r : ℕ
  r = f.copying.range

  abbrev st : ℕ
  st = f.copying.stripe

  abbrev End : ℕ
  End = range_end p f.copying.range

  pub some : 0 < step_of p f.copying.range
  some = some_step m p f.copying.unit f.copying.range f.copying.stripe f.fault

  low_end : range_end p f.copying.range ≤ p.start
  low_end = ends_low p f.copying.range f.copying.stripe rules (is_closed m p f.copying.unit f.copying.range f.copying.stripe f.fault) (is_there m p f.copying.unit f.copying.range f.copying.stripe f.fault)

  pub near_end : range_end p f.copying.range < 2 ^ 62
  near_end = let le = low_end in omega (arith, le, near)

  pub off : (n : ℕ) → InStripe p f.copying.range f.copying.stripe n → Has (chain_of p n) f.copying.unit → ⊥
  off = stands_off m p f.copying.unit f.copying.range f.copying.stripe f.fault rules

  abbrev WorkAt : CopyWork → ℕ → Type 0
  WorkAt y n = WorkStage m w.cluster w.stopped k p longest low_at many spare r st some near_end off (net m w) y n

  abbrev Rest : ℕ → ℕ
  Rest n = rest m w.cluster w.stopped k p longest low_at many spare r st some near_end off false n

  abbrev Extra : ℕ
  Extra = extra m w.cluster w.stopped k p longest low_at many spare r st some near_end off false

  abbrev HereAt : ℕ → Type 0
  HereAt n = Here m w.cluster w.stopped k p longest low_at many spare r st some near_end off (net m w) false n

  good_stripe : StripeGood m w.cluster w.stopped k p longest low_at many spare r st some near_end off (net m w)
  good_stripe n i = good m w k p longest a b u n

  -- past the seal
  here_at : (n : ℕ) → p.epoch ≤ (unit m w f.copying.unit).epoch → HereAt n
  here_at n since = record { good = good_stripe; on = f.running; epoch = (let le = f.upto in omega (arith, since, le)); filled = tt }

  -- where it stands, with one request outstanding
  pub record Start (y : CopyWork) : Type 0 where
    pub o : Out
    pub left : ℕ
    pub asks : copy_work_asks p f.copying y ≡ o ∷ []
    pub away : (l : ℕ) → node_eq o.to (layout_id l) ≡ false
    pub stage : WorkAt y left
    pub few : left ≤ (longest + 2) * End + ((longest + 2) * End + 2)

  far : (n l : ℕ) → node_eq (unit_id n) (layout_id l) ≡ false
  far n l = unit_away m w.cluster w.stopped k p longest n l

  all_less : (longest + 2) * (range_end p f.copying.range - 0) ≤ (longest + 2) * range_end p f.copying.range
  all_less = mul-le (longest + 2) (range_end p f.copying.range - 0) (longest + 2) (range_end p f.copying.range) (omega arith) (omega arith)

  start_of : (y : CopyWork) → CopyStands m w p f.copying.range f.copying.stripe y → Since p (unit m w f.copying.unit).epoch y → Start y
  unfolding copy_work_asks
  start_of (Sealing i) stands since =
      let x = all_less in
      record { o = out (unit_id spare) i (msg.Seal p.epoch); left = Rest 0; asks = refl; away = λ l. far spare l; stage = record { good = good_stripe; on = f.running; epoch = f.upto; few = omega arith }; few = omega (arith, x) }
  start_of (Reading j) stands since =
      let g = job_stage m w k p longest a b u j stands.0 in
      let q = one_asked m w k p longest a b u j.place j.place.pos j.work stands.0.work in
      let less = stands.1.below in
      let x = all_less in
      let y = pass_less (longest + 2) End 0 j.place.pos (omega arith) less in
      let cost = g.3 in
      record {
        o = out (unit_id q.0) q.1 q.2;
        left = g.1 + 1 + Rest (j.place.pos + 1);
        asks = q.3;
        away = λ l. far q.0 l;
        stage = record { last = false; place = stands.0.place; within = stands.1; here = here_at j.place.pos since; sort = g.0; cost = g.1; cell = g.2; few = omega arith };
        few = omega (arith, x, y, cost);
      }
  start_of (Storing i pos c) stands since =
      let x = all_less in
      let y = pass_shrinks (longest + 2) End 0 (pos + 1) (omega arith) in
      record { o = out (unit_id spare) i (msg.Copy p.epoch pos c); left = Rest (pos + 1); asks = refl; away = λ l. far spare l; stage = record { last = false; within = stands; here = here_at pos since; few = omega arith }; few = omega (arith, x, y) }
  start_of (Trimming i d) stands since =
      let x = all_less in
      let y = pass_shrinks (longest + 2) End 0 d (omega arith) in
      record { o = out (unit_id spare) i (msg.Trim p.epoch d); left = Rest d; asks = refl; away = λ l. far spare l; stage = record { last = false; at = 0; here = here_at 0 since; few = omega arith }; few = omega (arith, x, y) }
  start_of (Looking i) stands since =
      record { o = out (unit_id spare) i (has_stripe p.epoch p r st); left = Extra; asks = refl; away = λ l. far spare l; stage = record { last = false; here = here_at End since; few = omega arith }; few = omega arith }

  shape : (o : Out) → copy_work_asks p f.copying f.copying.work ≡ o ∷ [] → ((l : ℕ) → node_eq o.to (layout_id l) ≡ false) → TaskShape m w.cluster w.stopped k p longest (client m w k) (Copying' f.copying) (o ∷ [])
  unfolding task_asks
  shape o asks away = record {
    stand = a.client_stands;
    work = f.work;
    waits = f.waits;
    hand = f.hand;
    awaited = asks;
    again = asks;
    asks = asks;
    below = (f.below o (subst (λ (os : List Out). Has os o) (sym asks) (inl refl)), tt);
    away = (away, tt);
  }

  pub copies_finish_by : Ends m w k p longest a b u (4 * ((longest + 2) * tail) + 2 * layouts + 6)
  copies_finish_by none =
      let x = start_of f.copying.work f.stands f.since in
      let few = x.few in
      let le = low_end in
      let y = mul-le (longest + 2) End (longest + 2) tail (omega arith) (omega (arith, le, past)) in
      let stage : Bringing m w.cluster w.stopped k p longest low_at many spare r st some near_end off (net m w) (client m w k) x.o x.left = record { work = f.copying.work; shape = shape x.o x.asks x.away; stage = x.stage } in
      finishes_of m w.cluster w.stopped k p _ (λ s z. CopyFair m p spare r st s z) (copies_talk m w.cluster w.stopped k p longest low_at many spare r st some near_end off) Fact facts w _ fact a.on_way refl refl
      (waits_for m w k p longest a b u (x.o ∷ []) (CopyStage m w.cluster w.stopped k p longest low_at many spare r st some near_end off) x.left _ (Request x.o x.left stage) (omega (arith, few, y))) none
