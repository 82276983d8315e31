-- A client that waits for its new sequencer, which serves, is told that its layout is installed.
use Rattle.std.proofs.Common.{◌≡◌, ◌≢◌, ◌⊎◌, ℕ, ◌+◌, ◌*◌, ◌^◌, ◌<◌, ◌≤◌, List, [], ◌∷◌, ◌++◌, length, map, cond, Bool, true, false, not, ◌||◌, eqb, refl, ap, ◌∙◌, sym, subst, inl, inr, arith, Some, None, Option}
use Rattle.std.specs.Prelude.{slice_set, nat_lt, max}
use Rattle.tg_any.specs.AllKinds.{all_kinds}
use Rattle.tg_base.specs.Layouts.{Layout}
use Rattle.tg_base.specs.Clusters.{Header}
use Rattle.tg_base.specs.declared.ids.NodeId.{NodeId}
use Rattle.tg_base.specs.declared.msg.Msg.{Msg}
use Rattle.tg_base.specs.declared.msg.Msg.TheVariants as msg
use Rattle.tg_base.specs.declared.packet.Out.{Out}
use Rattle.tg_kind.specs.Meaning.{Meaning}
use Rattle.tg_model.specs.Kinds.{CommandOf, WhatOf}
use Rattle.tg_model.specs.declared.trace.What.TheVariants as told
use Rattle.tg_protocol.specs.Words.{too_far, seqr_id, client_id}
use Rattle.tg_protocol.specs.Layouts.{first_layout}
use Rattle.tg_protocol.specs.Requests.{out, awaits}
use Rattle.tg_protocol.specs.Replies.{Reply, IsTail, IsOldEpoch, IsOther, reply}
use Rattle.tg_protocol.specs.Sequencers.{SeqrState, new_seqr, scanning, seqr_step, learn_or_old, on_learn, unfenced, stand_answer, answers as seqr_answers}
use Rattle.tg_protocol.specs.Reconfiguring.{Reconf, ReconfWork, Starting, started_if, reconf_work_asks, later_asks, this_or, reconf_feed, reconf_latest}
use Rattle.tg_protocol.specs.Clients.{Client, Work, Task, Hand, Reconfiguring}
use Rattle.tg_protocol.specs.ClientSteps.{task_in, task_asks, task_feed, client_asks, given, client_deliver, feed, on_reconf}
use Rattle.tg_protocol.specs.Worlds.{World, nodes, client, seqr, settle, packet_of}
use Rattle.tg_protocol.specs.Runs.{Moves, Reaches, Always}
use Rattle.tg_protocol.specs.Finishing.{WaitsAlone, Finishes}
use Rattle.tg_law_finish.proofs.Finish.Appends.{is_latest}
use Rattle.tg_law_finish.proofs.Finish.Counted.{Finishes as Counted}
use Rattle.tg_law_finish.proofs.Finish.Finishes.{nodes_once}
use Rattle.tg_law_finish.proofs.Finish.Lines.{Over, IsOver}
use Rattle.tg_law_finish.proofs.Finish.Lists.{set_there, set_other}
use Rattle.tg_law_finish.proofs.Finish.Nets.{Net, net, net_after, on_in, seqr_of, client_of, seqr_alike}
use Rattle.tg_law_finish.proofs.Finish.Others.{Ready, Keeps, weigh}
use Rattle.tg_law_finish.proofs.Finish.Rounds.{Waiting, finishes}
use Rattle.tg_law_finish.proofs.Finish.Strays.{Old}
use Rattle.tg_law_finish.proofs.Finish.Talks.{Asked, More, Machine, One, Request, one_talk}
use Rattle.tg_law_finish.proofs.Finish.Tasks.{TaskShape, shape_called, shape_ticked, again_is, busied, task_fed}
use Rattle.tg_law_finish.proofs.Finish.Writers.{below_count, seqr_away, seqr_no_client, awaited_itself}
use Rattle.tg_law_finish.proofs.Finish.Standing.{numbers_hold, cells_always, pax_always, cluster_is, header_limits}
use Rattle.tg_law_finish.proofs.Finish.Scans.{Fine, Seqrs, seqrs_hold}
use Rattle.tg_law_layouts.proofs.Moves.Always.{always}
use Rattle.tg_law_layouts.specs.Moves.Configs.{config}
use Rattle.tg_law_finish.proofs.Finish.Strays.{JobOff}
use Rattle.tg_law_cells.proofs.Cells.Jobs.{MaybeOk}
use Rattle.tg_law_layouts.specs.Layouts.Decisions.{LayoutsKnown}
use Rattle.tg_law_layouts.proofs.Layouts.Deciding.{one_layout, layouts_are_known, layouts_are_sound}
use Rattle.tg_law_layouts.proofs.Layouts.Pax.{task_reconf, reconf_of, HandOk}
use Rattle.tg_law_layouts.proofs.Moves.Clients.{work_reserved, hand_reserved}
use Rattle.tg_law_layouts.proofs.Moves.Members.{Has}
use Rattle.tg_protocol.specs.Chosen.{IsDecided}
use Rattle.tg_protocol.specs.Cells.{CellJob, Place}
use Rattle.tg_protocol.specs.Trimming.{learns_if}
use Rattle.std.proofs.lemmas.Bool.Decides.{nat_tests}
use Rattle.tg_law_reconfs.specs.Reconfs.{WaitsForServing, StartedFinishes}
use Rattle.tg_law_reconfs.proofs.Counts.{finishes_by}
use Rattle.tg_law_reconfs.proofs.Ends.{Stays, NextIs, WorkIs, TaskIs, settle_says}

tested : (a b : ℕ) → a ≡ b → eqb a b ≡ true
tested a b e = grind arith

not_below : (n k : ℕ) → n ≤ k → nat_lt k n ≡ false
not_below n k le = grind arith

differ : (j i : ℕ) → eqb j i ≡ false → j ≢ i
differ j i e g = same e g
  where
    same : eqb j i ≡ false → j ≡ i → ⊥
    same e g = grind arith

unequal : (c d : ℕ) → (c ≡ d → ⊥) → eqb c d ≡ false
unequal c d g = by (eqb c d) refl
  where
    same : (c d : ℕ) → eqb c d ≡ true → c ≡ d
    same c d e = grind arith

    by : (b : Bool) → eqb c d ≡ b → eqb c d ≡ false
    by true e = absurd (g (same c d e))
    by false e = e

-- A sequencer that serves a layout is told that layout again.
pub record Serves (p : Layout) (s : SeqrState) : Type 0 where
  pub num : s.num ≡ p.seq
  pub epoch : s.epoch ≡ p.epoch
  pub unfenced : s.fence ≡ None
  pub ready : scanning s ≡ false
  pub near : too_far s.next ≡ false
  pub rests : s.scan ≡ None

its_own : (a b c d : ℕ) → a ≡ b → c ≡ d → (not (eqb a b) || nat_lt c d) ≡ false
its_own a b c d e f = grind arith

learnt : (p : Layout) (s : SeqrState) (from : NodeId) (rid : ℕ) → Serves p s → seqr_step s from rid (msg.Learn p) ≡ record { now = s; sends = out from rid (msg.Tail s.next []) ∷ [] }
unfolding seqr_step
learnt p s from rid f =
    ap (λ b. learn_or_old s p from rid b) (its_own p.seq s.num p.epoch s.epoch (sym f.num) (sym f.epoch))
    ∙ (ap (λ b. on_learn s p from rid b) (not_below p.epoch s.epoch (let e = f.epoch in omega (arith, e)))
    ∙ (ap (λ o. unfenced o s from rid (seqr_answers s from rid (stand_answer s [] (scanning s)))) f.unfenced
    ∙ ap (λ b. seqr_answers s from rid (stand_answer s [] b)) f.ready))

module _ (m : Meaning) (h : Header) (stopped : List NodeId) (k : ℕ) (p : Layout) (r : Reconf) (rid : ℕ) (starting : r.work ≡ Starting rid) (stand : r.stand ≡ p) where
  abbrev pub learn : Out
  learn = out (seqr_id p.seq) rid (msg.Learn p)

  record Here (s : Net m) : Type 0 where
    on : on_in m stopped s (seqr_id p.seq) ≡ true
    serves : Serves p (seqr_of m h s p.seq)

  record Stage (s : Net m) (c : Client m) (o : Out) (n : ℕ) : Type 0 where
    shape : TaskShape m h stopped k p 0 c (Reconfiguring r) (o ∷ [])
    here : Here s
    is : learn ≡ o

  record Hears (s : Net m) (c : Client m) (from : NodeId) (i : ℕ) (y : Msg) (n : ℕ) : Type 0 where
    shape : TaskShape m h stopped k p 0 c (Reconfiguring r) (learn ∷ [])
    awaited : awaits (learn ∷ []) from i ≡ true
    tail : ℕ
    near : too_far tail ≡ false
    says : y ≡ msg.Tail tail []

  here_keeps : (s t : Net m) → Keeps m h stopped k p s t → Here s → Here t
  here_keeps s t keep f = record { on = on_alike' f.on; serves = subst (λ (x : SeqrState). Serves p x) (sym keep.seqr) f.serves }
    where
      on_alike' : on_in m stopped s (seqr_id p.seq) ≡ true → on_in m stopped t (seqr_id p.seq) ≡ true
      on_alike' e = Rattle.tg_law_finish.proofs.Finish.Nets.on_alike m stopped s t keep.alike (seqr_id p.seq) ∙ e

  asked : (s : Net m) (o : Out) (n : ℕ) → Ready m h stopped k p s → Stage s (client_of m h s k) o n → Asked m h stopped k p Stage Hears s o n
  asked s o n ready f =
      let x = seqr_of m h s p.seq in
      let z = learnt p x (client_id k) rid f.here.serves in
      let less = below_count m h stopped k p 0 s p.seq f.here.on in
      let now = (seqr_step x (client_id k) rid (msg.Learn p)).now in
      let t : Net m = record s { seqrs = slice_set s.seqrs p.seq now } in
      let same = set_there s.seqrs p.seq now (new_seqr p.seq h.limit (first_layout h)) less ∙ ap (λ t. t.now) z in
      subst (λ (y : Out). Asked m h stopped k p Stage Hears s y n) f.is (record {
        running = f.here.on;
        from = seqr_id p.seq;
        rid = rid;
        says = msg.Tail x.next [];
        sent = ap (λ t. map (packet_of m (seqr_id p.seq)) t.sends) z;
        no_client = seqr_no_client m h stopped k p 0 p.seq;
        ready = record { on = ready.on; rests = ap (λ (y : SeqrState). y.scan) same ∙ f.here.serves.rests; old = λ j off. subst (λ (y : SeqrState). Old p.epoch y) (sym (set_other s.seqrs p.seq _ j (new_seqr j h.limit (first_layout h)) off)) (ready.old j off); layouts = ready.layouts; idle = ready.idle };
        client = refl;
        hears = record { shape = subst (λ (y : Out). TaskShape m h stopped k p 0 (client_of m h s k) (Reconfiguring r) (y ∷ [])) (sym f.is) f.shape; awaited = awaited_itself m h stopped k p 0 learn; tail = x.next; near = f.here.serves.near; says = refl };
      })

  pub tail_near : (t : ℕ) → too_far t ≡ false → reply (msg.Tail t []) ≡ IsTail t []
  unfolding reply
  tail_near t e = ap (λ b. cond b IsOther (IsTail t [])) e

  pub plain_tail : (t : ℕ) → is_latest (IsTail t []) ≡ false
  unfolding is_latest
  plain_tail t = refl

  pub tail_ends : (c : Client m) (w : Work m) (n i t : ℕ) (x : ReconfWork) → x ≡ Starting rid → IsOver m h stopped k p (given m c (on_reconf m c w (reconf_feed r x n i (IsTail t []) c.next)))
  unfolding reconf_feed client_asks
  tail_ends c w n i t x e = subst (λ (y : ReconfWork). IsOver m h stopped k p (given m c (on_reconf m c w (reconf_feed r y n i (IsTail t []) c.next)))) (sym e) (record { none = refl; sends = refl })

  answered : (s : Net m) (from : NodeId) (i : ℕ) (y : Msg) (n : ℕ) → Ready m h stopped k p s → Hears s (client_of m h s k) from i y n
      → Over m h stopped k p s (client_of m h s k) (client_deliver m (client_of m h s k) from i y) n ⊎ More m h stopped k p Stage Hears s (client_deliver m (client_of m h s k) from i y) n
  unfolding client_deliver task_feed
  answered s from i y n ready f =
      let c = client_of m h s k in
      let e = ap reply f.says ∙ tail_near f.tail f.near in
      inl (subst (λ x. IsOver m h stopped k p (given m c x)) (sym (ap (λ z. feed m c c.work from i z) e ∙ task_fed m h stopped k p 0 c (Reconfiguring r) (learn ∷ []) from i (IsTail f.tail []) f.shape f.awaited (plain_tail f.tail)))
      (tail_ends c f.shape.work from.num i f.tail r.work starting))

  machine : Machine m h stopped k p Stage Hears (Over m h stopped k p)
  machine = record {
    facts = λ s c o n x. let b = busied m h stopped k p 0 c (Reconfiguring r) (o ∷ []) x.shape in let a = again_is m h stopped k p 0 c (Reconfiguring r) (o ∷ []) x.shape in record { work = a.work; waits = a.waits; again = a.again; calm = b.calm };
    hears_calm = λ s c from i y n x. busied m h stopped k p 0 c (Reconfiguring r) (learn ∷ []) x.shape;
    stage_stays = λ s t c o n keep x. record { shape = x.shape; here = here_keeps s t keep x.here; is = x.is };
    hears_stays = λ s t c from i y n keep x. record { shape = x.shape; awaited = x.awaited; tail = x.tail; near = x.near; says = x.says };
    stage_called = λ s c o n x. record { shape = shape_called m h stopped k p 0 c (Reconfiguring r) (o ∷ []) x.shape; here = x.here; is = x.is };
    hears_called = λ s c from i y n x. record { shape = shape_called m h stopped k p 0 c (Reconfiguring r) (learn ∷ []) x.shape; awaited = x.awaited; tail = x.tail; near = x.near; says = x.says };
    stage_ticked = λ s c o n x. record { shape = shape_ticked m h stopped k p 0 c (Reconfiguring r) (o ∷ []) x.shape; here = x.here; is = x.is };
    asked = λ s o n fair ready x. asked s o n ready x;
    answered = answered;
  }

  pub asks_learn : (x : ReconfWork) → x ≡ Starting rid → (reconf_work_asks r x ≡ learn ∷ []) × (later_asks r x ≡ [])
  unfolding reconf_work_asks
  asks_learn x e = subst (λ (y : ReconfWork). (reconf_work_asks r y ≡ learn ∷ []) × (later_asks r y ≡ [])) (sym e) (ap (λ (q : Layout). out (seqr_id q.seq) rid (msg.Learn q) ∷ []) stand, refl)

-- What it is told.
module _ (m : Meaning) (p : Layout) where
  abbrev pub IsStarting : Reconf → Type 0
  IsStarting r = ((n : ℕ) × (r.work ≡ Starting n)) × (r.stand ≡ p)

  abbrev pub IsInstalled : WhatOf m → Type 0
  IsInstalled what = what ≡ told.Installed p.epoch

  told_so : (r : Reconf) → r.stand ≡ p → IsInstalled (told.Installed r.stand.epoch)
  told_so r e = ap (λ (q : Layout). told.Installed q.epoch) e

  pub started_stays : Stays m IsStarting IsInstalled
  unfolding reconf_feed reconf_latest
  started_stays = record {
    feeds = λ r n rid x next h. subst (λ (y : ReconfWork). NextIs m IsStarting IsInstalled (reconf_feed r y n rid x next).to) (sym h.0.1) (fed r h.0.0 n rid x next h);
    latest = λ r n rid q next h. subst (λ (y : ReconfWork). NextIs m IsStarting IsInstalled (reconf_latest r y n rid q next).to) (sym h.0.1) (newer r h.0.0 n rid q next h);
  }
    where
      ended : (r : Reconf) (next : ℕ) (b : Bool) → IsStarting r → NextIs m IsStarting IsInstalled (started_if r next b).to
      ended r next true h = told_so r h.1
      ended r next false h = h

      older : (r : Reconf) (next : ℕ) (b : Bool) → IsStarting r → NextIs m IsStarting IsInstalled (learns_if b r next).to
      older r next true h = h
      older r next false h = h

      fed : (r : Reconf) (i n rid : ℕ) (x : Reply) (next : ℕ) → IsStarting r → NextIs m IsStarting IsInstalled (reconf_feed r (Starting i) n rid x next).to
      fed r i n rid (IsTail t ls) next h = ended r next _ h
      fed r i n rid (IsOldEpoch e) next h = older r next _ h
      fed r i n rid x next h = h

      newer : (r : Reconf) (i n rid : ℕ) (q : Layout) (next : ℕ) → IsStarting r → NextIs m IsStarting IsInstalled (reconf_latest r (Starting i) n rid q next).to
      newer r i n rid q next h = told_so r h.1

pub seqrs_always : (m : Meaning) → Always m (λ w. Seqrs m (config m w))
seqrs_always m = always m (λ w. Seqrs m (config m w)) (λ h ms. seqrs_hold m h ms)

module _ (m : Meaning) (h : Header) (ms : Moves m) (w : World m) (reach : Reaches m h ms w) (k : ℕ) (x : CommandOf m) (a : WaitsAlone m w k x) (f : WaitsForServing m w k) where
  abbrev p : Layout
  p = (client m w k).stand

  fine : (s : ℕ) → Fine s w.cluster.limit (seqr m w s)
  fine s = (seqrs_always m h ms w reach).fine s

  known : LayoutsKnown m w
  known = layouts_are_known m h ms w reach

  stood : f.reconf.stand ≡ p
  stood = (subst (λ (t : Task m). HandOk m w.cluster.layouts k w.packets p (task_reconf m t)) (ap (task_in m) f.hand)
      (subst (λ (o : Option (Work m)). HandOk m w.cluster.layouts k w.packets p (reconf_of m o)) f.waits ((pax_always m h ms w reach).clients k))).stand

  off : (s : ℕ) (o : Option CellJob) → (seqr m w s).scan ≡ o → eqb s p.seq ≡ false → MaybeOk w.packets (seqr m w s).proj o → JobOff p.epoch (seqr m w s).proj o
  off s None e far ok = tt
  off s (Some j) e far ok = (unequal _ _ (λ i. away (sym (ap (λ (y : Place). y.epoch) ok.place) ∙ i)), unequal _ _ away)
    where
      own : (seqr m w s).proj.seq ≡ s
      own = by (fine s).own
        where
          by : ((seqr m w s).scan ≡ None) ⊎ ((seqr m w s).proj.seq ≡ s) → (seqr m w s).proj.seq ≡ s
          by (inl g) = absurd (none_some (sym e ∙ g))
            where
              none_some : Some j ≡ None → ⊥
              none_some g = cc
          by (inr g) = g

      away : (seqr m w s).proj.epoch ≡ p.epoch → ⊥
      away g = differ s p.seq far (sym own ∙ ap (λ (y : Layout). y.seq) (one_layout m h ms w reach p.epoch (seqr m w s).proj p
          (subst (λ n. IsDecided m w n (seqr m w s).proj) g (known.seqrs s)) (known.clients k)))

  rests : (seqr m w p.seq).scan ≡ None
  rests = (fine p.seq).rests (not_below _ _ (ahead f.serves.scanned))
    where
      ahead : (seqr m w p.seq).proj.start ≤ (seqr m w p.seq).next → (seqr m w p.seq).proj.start ≤ (seqr m w p.seq).next
      ahead le = le

  ready : Ready m w.cluster w.stopped k p (net m w)
  ready = record {
    on = a.running;
    rests = rests;
    old = λ s far. record { scan = off s (seqr m w s).scan refl far ((cells_always m h ms w reach).scans s) };
    layouts = f.newest;
    idle = λ j far on. a.alone j (differ j k far) on;
  }

  serves : Serves p (seqr m w p.seq)
  serves = record { num = (fine p.seq).num; epoch = f.serves.epoch; unfenced = f.serves.unfenced; ready = not_below _ _ f.serves.scanned; near = near; rests = rests }
    where
      far_not : (a b n : ℕ) → n ≤ max a b → a < 2 ^ 62 → b < 2 ^ 62 → too_far n ≡ false
      far_not a b n le l k = grind (arith, nat_tests, le, l, k)

      limit_near : w.cluster.limit < 2 ^ 62
      limit_near = subst (λ (y : Header). y.limit < 2 ^ 62) (sym (cluster_is m h ms w reach)) (header_limits h reach.header).1

      near : too_far (seqr m w p.seq).next ≡ false
      near = far_not w.cluster.limit (seqr m w p.seq).proj.start (seqr m w p.seq).next (fine p.seq).room limit_near (layouts_are_sound m h ms w reach _ _ (known.seqrs p.seq)).near

  abbrev ask : Out
  ask = learn m w.cluster w.stopped k p f.reconf f.rid f.starting stood

  below : ask.rid < (client m w k).next
  below = ((numbers_hold m h ms w reach).clients k).open' ask
      (subst (λ (y : Option (Work m)). Has (work_reserved m p y) ask) (sym f.waits) (subst (λ (y : Hand m). Has (hand_reserved m p y) ask) (sym f.hand)
      (subst (λ (os : List Out). Has (os ++ later_asks f.reconf f.reconf.work) ask) (sym (asks_learn m w.cluster w.stopped k p f.reconf f.rid f.starting stood f.reconf.work f.starting).0) (inl refl))))

  shape : TaskShape m w.cluster w.stopped k p 0 (client m w k) (Reconfiguring f.reconf) (ask ∷ [])
  unfolding task_asks
  shape = let e = asks_learn m w.cluster w.stopped k p f.reconf f.rid f.starting stood f.reconf.work f.starting in record {
    stand = refl;
    work = f.work;
    waits = f.waits;
    hand = f.hand;
    awaited = ap (λ (os : List Out). os ++ later_asks f.reconf f.reconf.work) e.0 ∙ ap (λ (os : List Out). ask ∷ os) e.1;
    again = ap (λ (os : List Out). this_or os (reconf_work_asks f.reconf f.reconf.work)) e.1 ∙ e.0;
    asks = e.0;
    below = (below, tt);
    away = ((λ l. seqr_away m w.cluster w.stopped k p 0 p.seq l), tt);
  }

  clients_long : k < length w.clients
  clients_long = let r = a.running in grind arith

  waits : Waiting m w.cluster w.stopped k p (One m w.cluster w.stopped k p (Stage m w.cluster w.stopped k p f.reconf f.rid f.starting stood) (Hears m w.cluster w.stopped k p f.reconf f.rid f.starting stood)) (nodes m w) (net m w) [] (2 * (client m w k).layouts + 2)
  unfolding weigh
  waits =
      let once = nodes_once k m w clients_long in
      record {
        ready = ready;
        os = ask ∷ [];
        left = 0;
        stage = Request ask 0 (record { shape = shape; here = record { on = f.seqr_runs; serves = serves }; is = refl });
        strays = tt;
        layouts = (client m w k).layouts;
        same = refl;
        few = omega arith;
        front = once.front;
        back = once.back;
        is = once.is;
        not_front = once.not_front;
        not_back = once.not_back;
      }

  counted : Counted m k (2 * (client m w k).layouts + 2) w (settle m w).world
  counted = finishes m w.cluster w.stopped k p _ (one_talk m w.cluster w.stopped k p _ _ _ (machine m w.cluster w.stopped k p f.reconf f.rid f.starting stood)) w _ a.quiet refl refl waits a.within

  pub started : Finishes m w (settle m w).world k (2 * w.cluster.layouts + 2) (λ what. what ≡ told.Installed p.epoch)
  started = finishes_by m k _ w _ _ (subst (λ l. Counted m k (2 * l + 2) w (settle m w).world) ((pax_always m h ms w reach).layouts k) counted)
      (settle_says m (IsStarting m p) (IsInstalled m p) k (started_stays m p) w
      (subst (λ (o : Option (Work m)). WorkIs m (IsStarting m p) (IsInstalled m p) o) (sym f.waits) (subst (λ (d : Hand m). TaskIs m (IsStarting m p) (IsInstalled m p) (task_in m d)) (sym f.hand) ((f.rid, f.starting), stood))) counted.answered)

pub started_reconfs_finish : Always all_kinds (StartedFinishes all_kinds)
started_reconfs_finish h ms w r k x a f = started all_kinds h ms w r k x a f
