-- A settling while a client agrees with the layout servers on a layout.
use Rattle.std.proofs.Common.{◌≡◌, ◌≢◌, ◌⊎◌, ℕ, ◌+◌, ◌*◌, ◌^◌, ◌<◌, ◌≤◌, List, [], ◌∷◌, ◌++◌, length, Bool, true, false, eqb, refl, ap, ◌∙◌, sym, subst, inl, inr, arith, Some, None, Option}
use Rattle.std.specs.Prelude.{slice_index_or, ⊤}
use Rattle.tg_any.specs.AllKinds.{all_kinds}
use Rattle.tg_base.proofs.Rules.{layout_rules}
use Rattle.tg_base.specs.Layouts.{Layout}
use Rattle.tg_base.specs.Clusters.{Header}
use Rattle.tg_base.specs.declared.change.Join.{Join}
use Rattle.tg_base.specs.declared.ids.Ballot.{Ballot}
use Rattle.tg_base.specs.declared.ids.NodeId.{NodeId}
use Rattle.tg_base.specs.declared.msg.Msg.{Msg}
use Rattle.tg_base.specs.declared.msg.Msg.TheVariants as msg
use Rattle.tg_base.specs.declared.packet.Out.{Out}
use Rattle.tg_kind.specs.Meaning.{Meaning}
use Rattle.tg_model.specs.Kinds.{CommandOf}
use Rattle.tg_protocol.specs.Words.{unit_id, layout_id, client_id}
use Rattle.tg_protocol.specs.LayoutServers.{vote_of}
use Rattle.tg_protocol.specs.Requests.{Waits, out, asked_of}
use Rattle.tg_protocol.specs.Reconfiguring.{Acks, Before, Stage, Preparing, Accepting, Later, Voting, ReconfWork, SealingSpare, LookingSpare, Sealing, LookingAgain, Agreeing, Telling, Starting, Reconf, ballot_of, next_epoch, reconf_work_asks, reconf_awaited, reconf_again_asks, later_asks, set_asks, stage_asks, this_or, round_set}
use Rattle.tg_protocol.specs.Clients.{Client, Work, Task, Reconfiguring, Doing, new_client}
use Rattle.tg_protocol.specs.ClientSteps.{task_in}
use Rattle.tg_protocol.specs.Worlds.{World, nodes, unit, layout, seqr, client, rounds, settle}
use Rattle.tg_protocol.specs.Runs.{Moves, Reaches, Always}
use Rattle.tg_protocol.specs.Finishing.{MostRun, NoneAbove, WaitsAlone, HasReply, IsEnd}
use Rattle.tg_law_layouts.specs.Moves.Configs.{config}
use Rattle.tg_law_layouts.proofs.Agreement.Proposers.{StageOk, VotingOk, WorkOk}
use Rattle.tg_law_layouts.proofs.Layouts.Deciding.{layouts_are_known, layouts_are_sound}
use Rattle.tg_law_layouts.proofs.Layouts.Decisions.{Pax}
use Rattle.tg_law_layouts.proofs.Layouts.Pax.{OfEpoch as IsOfEpoch, task_reconf, reconf_of, HandOk, WorkerOk}
use Rattle.tg_law_layouts.proofs.Layouts.Phases.{told_epoch}
use Rattle.tg_law_layouts.proofs.Moves.Clients.{reserved}
use Rattle.tg_law_layouts.proofs.Moves.Lists.{contained}
use Rattle.tg_law_layouts.proofs.Moves.Members.{Has, has_left, has_right}
use Rattle.tg_law_layouts.proofs.Requests.Numbers.{Asks}
use Rattle.tg_law_finish.proofs.Finish.Finishes.{nodes_once}
use Rattle.tg_law_headline.proofs.Runs.Holding.{logs_hold}
use Rattle.tg_law_finish.proofs.Finish.Highs.{high_near}
use Rattle.tg_law_finish.proofs.Finish.Nets.{net, on_in, client_of}
use Rattle.tg_law_finish.proofs.Finish.Others.{weigh}
use Rattle.tg_law_finish.proofs.Finish.Settles.{Facts, Spent}
use Rattle.tg_law_finish.proofs.Finish.Standing.{numbers_hold, pax_always}
use Rattle.tg_law_reconfs.specs.Reconfs.{SealsFinish, InVotes, WaitsToStart, VotesEnd, VotesFinish}
use Rattle.tg_law_reconfs.proofs.Votes.{tally, tally_some, ballot, OfEpoch, FenceLow, AskOk, Base}
use Rattle.tg_law_reconfs.proofs.Waits.{each_has, unanswered_has, asked_has, asked_long, has_asked}
use Rattle.tg_law_reconfs.proofs.Turns.{First, later_waits, live, left_in, left_of, Enough, StageFine, WorkFine}
use Rattle.tg_law_reconfs.proofs.Answering.{stage_awaited}
use Rattle.tg_law_reconfs.proofs.Steps.{clients_long}
use Rattle.tg_law_reconfs.proofs.Ticks.{Laterless}
use Rattle.tg_law_reconfs.proofs.Between.{some_again}
use Rattle.tg_law_reconfs.proofs.Rounds.{settle_ends}
use Rattle.tg_law_reconfs.proofs.Laps.{Ballots, YetToTick, AtNew, Low as LowNodes, laps, seven_laps, folds}
use Rattle.tg_law_reconfs.proofs.Phases.{Spare, AllRun, Ahead, spares, units_left}
use Rattle.tg_law_reconfs.proofs.EarlyLaps.{YetAll, none_still, all_end_soon, all_low, all_folds}
use Rattle.tg_law_reconfs.proofs.Middle.{settle_comes}
use Rattle.tg_law_finish.specs.Finish.Queues.{Carries, Queue}
use Rattle.tg_law_reconfs.proofs.Counting.{Counted, LaterAll, VoteCounted, WorkCounted, IsCounted, TaskCounted, HandCounted, all_counted}
use Rattle.tg_law_reconfs.proofs.Counts.{few_by}
use Rattle.tg_law_reconfs.proofs.Fencing.{fences_reached}
use Rattle.tg_law_reconfs.proofs.Scanning.{ScanBelow, scans_reached}
use Rattle.tg_law_reconfs.proofs.Rising.{WorkLow, ReconfLow, Low, all_low_in}
use Rattle.tg_law_reconfs.proofs.Ends.{reconf_ends_are_told}

differ : (j i : ℕ) → eqb j i ≡ false → j ≢ i
differ j i e g = same e g
  where
    same : eqb j i ≡ false → j ≡ i → ⊥
    same e g = grind arith

none_some : (l : Later) → None ≡ Some l → ⊥
none_some l e = cc

none_join : (j : Join) → None ≡ Some j → ⊥
none_join j e = cc

one_later : (x y : Later) → Some x ≡ Some y → x ≡ y
one_later x y e = cc

-- a client that agrees on the layout after its own, from the seals on
pub record Agrees (m : Meaning) (w : World m) (k : ℕ) : Type 0 where
  pub work : Work m
  pub waits : (client m w k).work ≡ Some work
  pub reconf : Reconf
  pub hand : work.hand ≡ Doing (Reconfiguring reconf)
  pub layouts : MostRun m w
  pub none_above : NoneAbove m w ((client m w k).stand.epoch + 1)

module _ (m : Meaning) (h : Header) (ms : Moves m) (w : World m) (reach : Reaches m h ms w) (k : ℕ) (x : CommandOf m) (a : WaitsAlone m w k x) (f : Agrees m w k) where
  abbrev c : Client m
  c = client m w k

  abbrev r : Reconf
  r = f.reconf

  abbrev epoch : ℕ
  epoch = c.stand.epoch + 1

  abbrev servers : ℕ
  servers = w.cluster.layouts

  pax : Pax m (config m w)
  pax = pax_always m h ms w reach

  worker : WorkerOk m servers k w.packets c.stand r
  worker = subst (λ (t : Task m). HandOk m servers k w.packets c.stand (task_reconf m t)) (ap (task_in m) f.hand) (subst (λ (o : Option (Work m)). HandOk m servers k w.packets c.stand (reconf_of m o)) f.waits (pax.clients k))

  is_counted : IsCounted r
  is_counted = subst (λ (t : Task m). TaskCounted m t) (ap (task_in m) f.hand) (subst (λ (o : Option (Work m)). HandCounted m o) f.waits (all_counted m h ms w reach k))

  next : r.stand.epoch + 1 ≡ epoch
  next = ap (λ (p : Layout). p.epoch + 1) worker.stand

  is_long : r.layouts ≡ servers
  is_long = worker.ok.layouts

  pub past : 2 ≤ epoch
  past =
      let d = (layouts_are_known m h ms w reach).clients k in
      let s = layouts_are_sound m h ms w reach c.stand.epoch c.stand d in
      let one = (layout_rules c.stand s.rules).epoch in
      omega (arith, one)

  -- rounds are no higher than the run has steps, and epochs not much
  abbrev top : ℕ
  top = w.steps + 1

  low : Low m w.steps (config m w)
  low = all_low_in m h ms w reach

  few_steps : w.steps ≤ 23800000
  few_steps = reach.goes.few

  pub near : epoch < 2 ^ 32
  near = let a = low.stands k in let b = few_steps in omega (arith, a, b)

  pub near_top : top + 1 < 2 ^ 32
  near_top = let b = few_steps in omega (arith, b)

  room : top + 3 < 2 ^ 32
  room = let b = few_steps in omega (arith, b)

  work_is_low : WorkLow w.steps r.work
  work_is_low = subst (λ (t : Task m). ReconfLow m w.steps (task_reconf m t)) (ap (task_in m) f.hand) (subst (λ (o : Option (Work m)). ReconfLow m w.steps (reconf_of m o)) f.waits (low.hands k))

  abbrev runs_at : ℕ → Bool
  runs_at n = on_in m w.stopped (net m w) (layout_id n)

  most : servers < 2 * tally runs_at servers
  most = f.layouts

  pub some : 0 < servers
  some = let i = tally_some runs_at servers (let z = most in omega (arith, z)) in let less = i.1.1 in omega (arith, less)

  enough : (round : ℕ) (ws : Waits) (n : ℕ) → Counted r.layouts ws n → Enough m w.cluster w.stopped k epoch servers top round ws n
  enough round ws n y = let z = subst (λ (l : ℕ). Counted l ws n) is_long y in record { counted = z.counted; few = z.few; long = z.long }

  -- The nodes.

  accepted_by : (round n : ℕ) (o : Before) → (vote_of (layout m w n) epoch).accepted ≡ o → OfEpoch m w.cluster w.stopped k epoch servers top round o
  accepted_by round n None e = tt
  accepted_by round n (Some y) e = (pax.truth epoch).allowed y.0 y.1 ((pax.stands n epoch).proposed y e).0

  fence_by : (round s : ℕ) (o : Option ℕ) → (seqr m w s).fence ≡ o → FenceLow m w.cluster w.stopped k epoch servers top round o
  fence_by round s None e = tt
  fence_by round s (Some y) e = let u = fences_reached m h ms w reach s y e in let le = u.1 in let most' = f.none_above.units u.0 in omega (arith, le, most')

  base : (round : ℕ) → Base m w.cluster w.stopped k epoch servers top round (net m w)
  base round = record {
    on = a.running;
    units = f.none_above.units;
    layouts = λ n. record { latest = f.none_above.layouts n; rounds = (let z = (low.servers n).rounds epoch in omega (arith, z)); accepted = accepted_by round n (vote_of (layout m w n) epoch).accepted refl };
    seqrs = λ s. record { stands = f.none_above.seqrs s; fence = fence_by round s (seqr m w s).fence refl };
    idle = λ j off on. a.alone j (differ j k off) on;
  }

  asks_of : Asks w.packets (client_id k) c.next (reserved m c)
  asks_of = (numbers_hold m h ms w reach).clients k

  there : (i : ℕ) → runs_at i ≡ true → i < servers
  there i on = let long = pax.long in let less = below i on in omega (arith, long, less)
    where
      below : (i : ℕ) → runs_at i ≡ true → i < length w.layouts
      below i on = grind arith

  own_ballot : (round : ℕ) → ballot_of r round ≡ ballot m w.cluster w.stopped k epoch servers top round
  own_ballot round = ap (λ (y : ℕ). record { round = round; client = y }) worker.ok.me

  clients_many : k < length w.clients
  clients_many = clients_long m w.cluster w.stopped k epoch servers top 0 past near near_top (omega arith) First 0 (net m w) a.running

  zero_fits : 0 ≤ top
  zero_fits = omega arith

  pub one_fits : 1 ≤ top
  one_fits = omega arith

  abbrev ballots : (round : ℕ) → round ≤ top → Ballots m w.cluster w.stopped k epoch servers past near some 7
  ballots round fits = record { top = top; round = round; small = near_top; fits = fits; mode = First; lasts = inr (inr (refl, (omega arith, room))) }

  abbrev Ask : ℕ → NodeId → Msg → Type 0
  Ask round to y = AskOk m w.cluster w.stopped k epoch servers top round to y

  abbrev pub most_told : ℕ
  most_told = 34 * servers + 16

  abbrev pub ToTick : Type 0
  ToTick = YetToTick m w.cluster w.stopped k epoch servers past near some 7 (nodes m w) (net m w) [] most_told

  -- it sends these requests again
  first_lap : (round : ℕ) (fits : round ≤ top) (begun : Bool) → WorkFine m w.cluster w.stopped k epoch servers top round First (net m w) begun r.stand r.work
      → Laterless m w.cluster w.stopped k epoch servers top round past near near_top fits First (laps m w.cluster w.stopped k epoch servers past near some 7 + 12 * servers) begun r.work
      → (os : List Out) → reconf_again_asks r ≡ os → ((o : Out) → Has os o → Ask round o.to o.msg × Has (reconf_awaited r) o) → ((i j : ℕ) → Has (live begun r.work) (i, j) → (y : Msg) × Has os (out (layout_id i) j y))
      → (left : ℕ) → left_of m w.cluster w.stopped k epoch servers top round begun r.work ≤ left → length os ≤ servers → left ≤ servers + servers + 1 → ToTick
  unfolding weigh
  first_lap round fits begun fine laterless os again asks covers left enough' long few =
      let o = nodes_once k m w clients_many in
      record {
        ballots = ballots round fits;
        most = most;
        pre = inr (inr (record {
          base = base round;
          there = there;
          each = tt;
          begun = begun;
          reconf = r;
          votes = record { work = f.work; waits = f.waits; hand = f.hand; stand = sym worker.stand; layouts = pax.layouts k; fine = record { me = worker.ok.me; layouts = is_long; work = fine } };
          nums = record { below = λ z has. asks_of.open' z has; one = λ y z g i e t. asks_of.one y z g i e t };
          layouts = pax.layouts k;
          laterless = laterless;
          os = os;
          again = again;
          asks = asks;
          covers = covers;
          left = left;
          enough = enough';
          few = let seven = seven_laps m w.cluster w.stopped k epoch servers past near some in omega (arith, long, few, seven);
          front = o.front;
          back = o.back;
          is = o.is;
          not_front = o.not_front;
          not_back = o.not_back;
        }));
      }

  -- A vote.
  module _ (v : Voting) (at : r.work ≡ Agreeing v) where
    ok : VotingOk (r.stand.epoch + 1) servers k (IsOfEpoch (r.stand.epoch + 1)) w.packets v
    ok = (subst (λ (y : ReconfWork). WorkOk r.stand r.change servers k (IsOfEpoch (r.stand.epoch + 1)) w.packets r y) at worker.ok.work).1

    is_vote : VoteCounted r.layouts v
    is_vote = subst (λ (y : ReconfWork). WorkCounted r.layouts y) at is_counted

    within : (v.round ≤ top) × (round_set v.later ≤ top)
    within = let z = subst (λ (y : ReconfWork). WorkLow w.steps y) at work_is_low in let b = z.0 in let c = z.1 in (omega (arith, b), omega (arith, c))

    own_epoch : v.own.epoch ≡ epoch
    own_epoch = ok.own ∙ next

    before_of : (round : ℕ) (b : Before) → ((y : Ballot × Layout) → b ≡ Some y → y.1.epoch ≡ r.stand.epoch + 1) → OfEpoch m w.cluster w.stopped k epoch servers top round b
    before_of round None t = tt
    before_of round (Some y) t = t y refl ∙ next

    stage_fine : (round : ℕ) (st : Stage) → StageOk (r.stand.epoch + 1) servers k (IsOfEpoch (r.stand.epoch + 1)) w.packets v.round st → Rattle.tg_law_reconfs.proofs.Counting.StageCounted r.layouts st → StageFine m w.cluster w.stopped k epoch servers top round st
    stage_fine round (Preparing ws ps) o y = (
      enough round ws (length ps) y,
      each_has (λ (b : Before). OfEpoch m w.cluster w.stopped k epoch servers top round b) ps (λ b has. before_of round b
          (λ z e. (pax.truth (r.stand.epoch + 1)).allowed z.0 z.1 (o.before z (subst (λ (d : Before). Has ps d) e has)))),
    )
    stage_fine round (Accepting ws n q) o y = (enough round ws n y, o.allowed ∙ next)

    awaited : (o : Option Later) → v.later ≡ o → reconf_awaited r ≡ stage_asks r v.round v.stage ++ set_asks r o
    unfolding reconf_work_asks
    awaited o e = ap (λ (y : ReconfWork). reconf_work_asks r y ++ later_asks r y) at ∙ ap (λ (z : Option Later). stage_asks r v.round v.stage ++ set_asks r z) e

    again_is : (o : Option Later) → v.later ≡ o → reconf_again_asks r ≡ this_or (set_asks r o) (stage_asks r v.round v.stage)
    unfolding reconf_work_asks
    again_is o e = ap (λ (y : ReconfWork). this_or (later_asks r y) (reconf_work_asks r y)) at ∙ ap (λ (z : Option Later). this_or (set_asks r z) (stage_asks r v.round v.stage)) e

    stage_ok : (st : Stage) → StageFine m w.cluster w.stopped k epoch servers top v.round st → (o : Out) → Has (stage_asks r v.round st) o → Ask v.round o.to o.msg
    stage_ok (Preparing ws ps) y o has = let z = has_asked layout_id (msg.Prepare (next_epoch r) (ballot_of r v.round)) ws o has in subst (λ (u : Out). Ask v.round u.to u.msg) (sym z.is) ((z.num, refl), (next, own_ballot v.round))
    stage_ok (Accepting ws n q) y o has = let z = has_asked layout_id (msg.Accept (next_epoch r) (ballot_of r v.round) q) ws o has in subst (λ (u : Out). Ask v.round u.to u.msg) (sym z.is) ((z.num, refl), (next, (own_ballot v.round, y.1)))

    stage_long : (st : Stage) → StageFine m w.cluster w.stopped k epoch servers top v.round st → length (stage_asks r v.round st) ≤ servers
    stage_long (Preparing ws ps) y = let long = asked_long layout_id (msg.Prepare (next_epoch r) (ballot_of r v.round)) ws in let most' = y.0.long in omega (arith, long, most')
    stage_long (Accepting ws n q) y = let long = asked_long layout_id (msg.Accept (next_epoch r) (ballot_of r v.round) q) ws in let most' = y.0.long in omega (arith, long, most')

    stage_left : (st : Stage) → left_in m w.cluster w.stopped k epoch servers top v.round true st ≤ servers + servers + 1
    stage_left (Preparing ws ps) = omega arith
    stage_left (Accepting ws n q) = omega arith

    -- no round is set: the present one's requests are sent again
    present_lap : v.later ≡ None → ToTick
    present_lap none =
        let st = stage_fine v.round v.stage ok.stage is_vote.stage in
        first_lap v.round within.0 true
        (subst (λ (y : ReconfWork). WorkFine m w.cluster w.stopped k epoch servers top v.round First (net m w) true r.stand y) (sym at) (next, (record { own = own_epoch; stage = st; is = refl; later = λ l e. absurd (none_some l (sym none ∙ e)) }, tt)))
        (subst (λ (y : ReconfWork). Laterless m w.cluster w.stopped k epoch servers top v.round past near near_top within.0 First (laps m w.cluster w.stopped k epoch servers past near some 7 + 12 * servers) true y) (sym at) none)
        (stage_asks r v.round v.stage) (again_is None none)
        (λ o has. (stage_ok v.stage st o has, subst (λ (os : List Out). Has os o) (sym (awaited None none)) (has_left (stage_asks r v.round v.stage) [] o has)))
        (λ i j has. stage_awaited m w.cluster w.stopped k epoch servers top v.round r v.round v.stage i j (subst (λ (y : ReconfWork). Has (live true y) (i, j)) at has))
        (servers + servers + 1) (subst (λ (y : ReconfWork). left_of m w.cluster w.stopped k epoch servers top v.round true y ≤ servers + servers + 1) (sym at) (stage_left v.stage)) (stage_long v.stage st) (omega arith)

    -- those of the round that is set are sent
    set_lap : (l : Later) → v.later ≡ Some l → ToTick
    set_lap l set =
        let all = subst (λ (n : ℕ). LaterAll n l) is_long (is_vote.later l set) in
        let fits = subst (λ (o : Option Later). round_set o ≤ top) set within.1 in
        let ask = msg.Prepare (next_epoch r) (ballot_of r l.round) in
        let first = unanswered_has l.waits 0 (all.all 0 some) in
        let long = asked_long layout_id ask l.waits in
        let most' = all.long in
        first_lap l.round fits false
        (subst (λ (y : ReconfWork). WorkFine m w.cluster w.stopped k epoch servers top l.round First (net m w) false r.stand y) (sym at)
        (next, (record { own = own_epoch; later = l; has = set; fine = record { all = all.all; long = all.long; fits = omega (arith, fits) }; is = refl; above = ok.later l set }, tt)))
        (subst (λ (y : ReconfWork). Laterless m w.cluster w.stopped k epoch servers top l.round past near near_top fits First (laps m w.cluster w.stopped k epoch servers past near some 7 + 12 * servers) false y) (sym at) tt)
        (asked_of layout_id ask l.waits) (again_is (Some l) set ∙ some_again layout_id ask l.waits 0 first.0 (stage_asks r v.round v.stage) first.1)
        (λ o has. let z = has_asked layout_id ask l.waits o has in (
          subst (λ (u : Out). Ask l.round u.to u.msg) (sym z.is) ((z.num, refl), (next, own_ballot l.round)),
          subst (λ (os : List Out). Has os o) (sym (awaited (Some l) set)) (has_right (stage_asks r v.round v.stage) (asked_of layout_id ask l.waits) o has),
        ))
        (λ i j has. (ask, asked_has layout_id ask l.waits i j (subst (λ (o : Option Later). Has (later_waits o) (i, j)) set (subst (λ (y : ReconfWork). Has (live false y) (i, j)) at has))))
        (servers + servers + 1) (subst (λ (y : ReconfWork). left_of m w.cluster w.stopped k epoch servers top l.round false y ≤ servers + servers + 1) (sym at) (omega arith)) (omega (arith, long, most')) (omega arith)

    vote_lap : ToTick
    vote_lap = by v.later refl
      where
        by : (o : Option Later) → v.later ≡ o → ToTick
        by None e = present_lap e
        by (Some l) e = set_lap l e

  -- It tells what is decided.
  module _ (ws : Waits) (n : ℕ) (q : Layout) (at : r.work ≡ Telling ws n q) where
    abbrev tell : Msg
    tell = msg.Decided q

    told_of : q.epoch ≡ epoch
    unfolding told_epoch
    told_of = subst (λ (y : ReconfWork). told_epoch y (r.stand.epoch + 1) ≡ r.stand.epoch + 1) at worker.told ∙ next

    tells_enough : Enough m w.cluster w.stopped k epoch servers top 0 ws n
    tells_enough = enough 0 ws n (subst (λ (y : ReconfWork). WorkCounted r.layouts y) at is_counted)

    tells_awaited : reconf_awaited r ≡ asked_of layout_id tell ws ++ []
    unfolding reconf_work_asks
    tells_awaited = ap (λ (y : ReconfWork). reconf_work_asks r y ++ later_asks r y) at

    tells_again : reconf_again_asks r ≡ asked_of layout_id tell ws
    unfolding reconf_work_asks
    tells_again = ap (λ (y : ReconfWork). this_or (later_asks r y) (reconf_work_asks r y)) at

    tell_lap : ToTick
    tell_lap =
        let long = asked_long layout_id tell ws in
        let most' = tells_enough.long in
        first_lap 0 zero_fits true
        (subst (λ (y : ReconfWork). WorkFine m w.cluster w.stopped k epoch servers top 0 First (net m w) true r.stand y) (sym at) (next, (told_of, tells_enough)))
        (subst (λ (y : ReconfWork). Laterless m w.cluster w.stopped k epoch servers top 0 past near near_top zero_fits First (laps m w.cluster w.stopped k epoch servers past near some 7 + 12 * servers) true y) (sym at) tt)
        (asked_of layout_id tell ws) tells_again
        (λ o has. let y = has_asked layout_id tell ws o has in (
          subst (λ (u : Out). Ask 0 u.to u.msg) (sym y.is) ((y.num, refl), told_of),
          subst (λ (os : List Out). Has os o) (sym tells_awaited) (has_left (asked_of layout_id tell ws) [] o has),
        ))
        (λ i j has. (tell, asked_has layout_id tell ws i j (subst (λ (y : ReconfWork). Has (live true y) (i, j)) at has)))
        1 (subst (λ (y : ReconfWork). left_of m w.cluster w.stopped k epoch servers top 0 true y ≤ 1) (sym at) (omega arith)) (omega (arith, long, most')) (omega arith)

  pub to_tick : InVotes m r.work → ToTick
  to_tick votes = by r.work refl votes
    where
      by : (y : ReconfWork) → r.work ≡ y → InVotes m y → ToTick
      by (Agreeing v) e i = vote_lap v e
      by (Telling ws n q) e i = tell_lap ws n q e
      by (Starting n) e i = absurd i
      by (SealingSpare n) e i = absurd i
      by (LookingSpare n) e i = absurd i
      by (Sealing ws acks) e i = absurd i
      by (LookingAgain n acks) e i = absurd i

  -- It waits for units.

  abbrev pub AheadOf : ReconfWork → Type 0
  AheadOf y = Ahead m w.cluster w.stopped k epoch servers top 1 past near near_top one_fits refl (net m w) r y

  abbrev pub SpareOf : ℕ → Type 0
  SpareOf e = Spare m w.cluster w.stopped k epoch servers top 1 past near near_top one_fits refl (net m w) r e

  abbrev pub NextRuns : Type 0
  NextRuns = AllRun m w.cluster w.stopped k epoch servers top 1 past near near_top one_fits refl (net m w) r

  -- how many requests units are sent, with those that are outstanding
  abbrev pub units_asks : ℕ
  units_asks = length (reconf_work_asks r r.work) + units_left r r.work

  abbrev pub Highs : Type 0
  Highs = (u : ℕ) → (unit m w u).high < 2 ^ 62

  abbrev pub ScansNear : Type 0
  ScansNear = (s : ℕ) → ((seqr m w s).proj.start < 2 ^ 62) × ScanBelow (seqr m w s)

  pub units_tick : (most_so : ℕ) → 2 * units_asks + 34 * servers + 16 ≤ most_so → AheadOf r.work → Highs → ScansNear → YetAll m w.cluster w.stopped k epoch servers past near some 7 (nodes m w) (net m w) [] most_so
  unfolding weigh
  units_tick most_so enough' ahead highs rests =
      let o = nodes_once k m w clients_many in
      let seven = seven_laps m w.cluster w.stopped k epoch servers past near some in
      inr (record {
        begins = record { top = top; small = near_top; fits = one_fits; lasts = omega arith; room = room };
        most = most;
        pre = inr (record {
          base = base 1;
          there = there;
          highs = highs;
          rests = rests;
          hand = record { work = f.work; waits = f.waits; reconf = r; hand = f.hand; stand = sym worker.stand; layouts = pax.layouts k; me = worker.ok.me; lays = is_long; next = next; ahead = ahead };
          nums = record { below = λ z has. asks_of.open' z has; one = λ y z g i e t. asks_of.one y z g i e t };
          each = tt;
          few = omega (arith, seven, enough');
          front = o.front;
          back = o.back;
          is = o.is;
          not_front = o.not_front;
          not_back = o.not_back;
        });
      })

  -- The settling.

  abbrev end_world : World m
  end_world = (settle m w).world

  -- the client, by its own cluster
  abbrev client_by : Header → Client m
  client_by g = slice_index_or end_world.clients k (new_client m g k)

  abbrev EndThere : Client m → Type 0
  EndThere d = (d.work ≡ None) ⊎ AtNew m w.cluster w.stopped k epoch servers past near some d

  ends_so : (most_so left : ℕ) → EndThere (client_by w.cluster) → Spent m k w end_world most_so left → end_world.cluster ≡ w.cluster → VotesEnd m w end_world k most_so
  ends_so most_so left end spent cluster = record { ends = by (subst (λ (g : Header). EndThere (client_by g)) (sym cluster) end); few = few_by m k most_so w end_world spent.done spent.since (let z = spent.few in omega (arith, z)) }
    where
      by : ((client m end_world k).work ≡ None) ⊎ AtNew m w.cluster w.stopped k epoch servers past near some (client m end_world k) → (((client m end_world k).work ≡ None) × HasReply m w end_world k (IsEnd m)) ⊎ WaitsToStart m end_world k epoch
      by (inl none) = inl (none, reconf_ends_are_told m w k (record { work = f.work; waits = f.waits; reconf = f.reconf; hand = ap (task_in m) f.hand }) none)
      by (inr z) = inr (record { work = z.work; waits = z.waits; reconf = z.reconf; hand = z.hand; rid = z.rid; starting = z.starting; stands = z.stands })

  -- Where two rounds are left of the settling its votes have ended.

  abbrev pub ToTickAll : ℕ → Type 0
  ToTickAll n = YetAll m w.cluster w.stopped k epoch servers past near some 7 (nodes m w) (net m w) [] n

  pub record Soon (u : World m) : Type 0 where
    pub quiet : u.waiting ≡ []
    pub cluster : u.cluster ≡ w.cluster
    pub stops : u.stopped ≡ w.stopped
    pub low : LowNodes m w.cluster w.stopped k epoch servers past near some (net m u)

  -- what is to be shown of the client in a world of the settling
  abbrev pub Rests : World m → Type 0
  Rests v = (client m v k).work ≡ None

  pub settle_rests : (Fact : World m → Type 0) → Facts m Fact (λ s y. ⊤) → Fact w
      → ((u : World m) → Fact u → Soon u → ((client_of m w.cluster (net m u) k).work ≡ None) ⊎ AtNew m w.cluster w.stopped k epoch servers past near some (client_of m w.cluster (net m u) k) → (rounds m 2 u).stopped ≡ None → Rests (rounds m 2 u).world)
      → (n : ℕ) → ToTickAll n → Rests (settle m w).world
  settle_rests Fact facts fact ends n pre = settle_comes m k w.cluster w.stopped Fact facts _ _ _ _ (all_folds m w.cluster w.stopped k epoch servers past near some) Rests (λ s. (client_of m w.cluster s k).work ≡ None)
      (λ r s n fresh. none_still m w.cluster w.stopped k epoch servers past near some r s n fresh) (λ v same none. subst (λ (g : Header). (slice_index_or v.clients k (new_client m g k)).work ≡ None) (sym same) none)
      w n 2 (omega arith) a.quiet fact pre refl refl
      (λ u left now x none. ends u now (record { quiet = quiet_of u x.queue; cluster = x.cluster; stops = x.stops; low = all_low m w.cluster w.stopped k epoch servers past near some 2 (net m u) left x.inv })
      (all_end_soon m w.cluster w.stopped k epoch servers past near some 2 (omega arith) (net m u) left x.inv) none) a.within
    where
      quiet_of : (u : World m) → Queue m u [] → u.waiting ≡ []
      quiet_of u queue = by u.waiting queue.carries
        where
          by : (is : List ℕ) → Carries u.packets is [] → is ≡ []
          by [] c = refl
          by (i ∷ is) c = absurd c

  pub votes_end : InVotes m r.work → VotesEnd m w end_world k most_told
  votes_end votes =
      let e = settle_ends m k w.cluster w.stopped _ _ _ _ (folds m w.cluster w.stopped k epoch servers past near some) w most_told a.quiet (to_tick votes) refl refl a.within in
      ends_so most_told e.left e.end e.spent e.cluster

  pub units_end : (most_so : ℕ) → 2 * units_asks + 34 * servers + 16 ≤ most_so → AheadOf r.work → Highs → ScansNear → VotesEnd m w end_world k most_so
  units_end most_so enough' ahead highs rests =
      let e = settle_ends m k w.cluster w.stopped _ _ _ _ (all_folds m w.cluster w.stopped k epoch servers past near some) w most_so a.quiet (inl_or most_so enough' ahead highs rests) refl refl a.within in
      ends_so most_so e.left e.end e.spent e.cluster
    where
      inl_or : (most_so : ℕ) → 2 * units_asks + 34 * servers + 16 ≤ most_so → AheadOf r.work → Highs → ScansNear → YetAll m w.cluster w.stopped k epoch servers past near some 7 (nodes m w) (net m w) [] most_so
      inl_or most_so enough' ahead highs rests = units_tick most_so enough' ahead highs rests

  -- it seals units, and none joins
  pub seals_end : (ws : Waits) (acks : Acks) → r.work ≡ Sealing ws acks → r.change.join ≡ None → (v : ℕ × ℕ) × Has ws v → ((u j : ℕ) → Has ws (u, j) → on_in m w.stopped (net m w) (unit_id u) ≡ true) → Highs → ScansNear → VotesEnd m w end_world k (2 * length ws + 34 * servers + 16)
  unfolding reconf_work_asks
  seals_end ws acks at none waits units highs rests =
      let long = ap (λ (y : ReconfWork). length (reconf_work_asks r y)) at ∙ asked_long unit_id (msg.Seal (next_epoch r)) ws in
      let left = ap (λ (y : ReconfWork). units_left r y) at ∙ ap (λ (o : Option Join). spares o) none in
      units_end (2 * length ws + 34 * servers + 16) (omega (arith, long, left))
      (subst (λ (y : ReconfWork). AheadOf y) (sym at) (record { some = waits; run = units; joins = λ j is. absurd (none_join j (sym none ∙ is)) })) highs rests

pub never_high : (h : Header) (ms : Moves all_kinds) (w : World all_kinds) → Reaches all_kinds h ms w → (u : ℕ) → (unit all_kinds w u).high < 2 ^ 62
never_high h ms w reach = high_near all_kinds h ms w reach (logs_hold h ms w reach).trims.in_time

pub scans_near : (h : Header) (ms : Moves all_kinds) (w : World all_kinds) → Reaches all_kinds h ms w → (s : ℕ) → ((seqr all_kinds w s).proj.start < 2 ^ 62) × ScanBelow (seqr all_kinds w s)
scans_near h ms w reach s = ((layouts_are_sound all_kinds h ms w reach _ _ ((layouts_are_known all_kinds h ms w reach).seqrs s)).near, scans_reached all_kinds h ms w reach s)

pub votes_finish : Always all_kinds (VotesFinish all_kinds)
votes_finish h ms w reach k x a f = votes_end all_kinds h ms w reach k x a (record { work = f.work; waits = f.waits; reconf = f.reconf; hand = f.hand; layouts = f.layouts; none_above = f.none_above }) f.votes

pub first_of : (ws : Waits) → (ws ≡ [] → ⊥) → (v : ℕ × ℕ) × Has ws v
first_of [] filled = absurd (filled refl)
first_of (w ∷ ws) filled = (w, inl refl)

pub seals_finish : Always all_kinds (SealsFinish all_kinds)
seals_finish h ms w reach k x a f = seals_end all_kinds h ms w reach k x a (record { work = f.work; waits = f.waits; reconf = f.reconf; hand = f.hand; layouts = f.layouts; none_above = f.none_above }) f.waiting f.acks f.seals f.joins (first_of f.waiting f.some)
    (λ u j has. f.units (u, j) (contained f.waiting (u, j) has)) (never_high h ms w reach) (scans_near h ms w reach)
