-- Over all worlds, what is sent to units is justified.
use Rattle.std.proofs.Common.{◌≡◌, ◌⊎◌, ℕ, ◌+◌, ◌<◌, List, [], ◌∷◌, ◌++◌, length, map, Bool, true, false, refl, sym, subst, inl, inr, Some, None, Option}
use Rattle.std.specs.Prelude.{min}
use Rattle.tg_base.specs.Layouts.{Layout}
use Rattle.tg_base.specs.declared.ids.NodeId.{NodeId}
use Rattle.tg_base.specs.declared.ids.Oid.{Oid}
use Rattle.tg_base.specs.declared.marks.StreamLink.{StreamLink}
use Rattle.tg_base.specs.declared.msg.Msg.{Msg}
use Rattle.tg_base.specs.declared.msg.Msg.TheVariants as msg
use Rattle.tg_base.specs.declared.packet.Out.{Out}
use Rattle.tg_base.specs.declared.packet.Packet.{Packet}
use Rattle.tg_kind.specs.Meaning.{Meaning}
use Rattle.tg_model.specs.Kinds.{CommandOf}
use Rattle.tg_protocol.specs.Words.{layout_id, seqr_id, client_id, numbers}
use Rattle.tg_protocol.specs.Layouts.{first_layout}
use Rattle.tg_protocol.specs.Requests.{awaits, waits_for, Next, Goes, Learns, Ends}
use Rattle.tg_protocol.specs.Replies.{reply}
use Rattle.tg_protocol.specs.Cells.{CellJob, CellEnd, Done, Fenced, Gone, get_cell, cell_feed}
use Rattle.tg_protocol.specs.Sequencers.{SeqrState, SeqrTurn, new_seqr, with_positions, cell_streams, scan_asks, seqr_asks, scanning, scan_on, scan_ended, scan_next, scan_turn, fed_if, scan_fed, begun, stand_answer, issue, on_token, issued, links_of, learns, unfenced, own_epoch, on_learn, learn_or_old, seqr_step, seqr_tick}
use Rattle.tg_protocol.specs.Clients.{Task, Hand, Doing, Learning, Work, Client, new_client, refusal}
use Rattle.tg_protocol.specs.Answers.{Moved, moved}
use Rattle.tg_protocol.specs.ClientSteps.{task_awaited, hand_asks, hand_again_asks, client_asks, asks_latest, task_in, ClientTurn, given, client_command, client_deliver, client_tick}
use Rattle.tg_protocol.specs.ClientSteps as step
use Rattle.tg_protocol.specs.Worlds.{packet_of, answer_to}
use Rattle.tg_law_layouts.proofs.Moves.Members.{Has, has_left, has_either, has_map, has_filter}
use Rattle.tg_protocol.specs.LayoutServers.{layout_step}
use Rattle.tg_law_layouts.proofs.Moves.Units.{says_answer}
use Rattle.tg_law_layouts.specs.Moves.Configs.{Config, client_in, seqr_in, layout_in}
use Rattle.tg_law_layouts.specs.Moves.Telling.{is_request}
use Rattle.tg_law_layouts.proofs.Moves.Lists.{at_set}
use Rattle.tg_law_layouts.proofs.Moves.Clients.{reserved, work_reserved, hand_reserved}
use Rattle.tg_law_steps.proofs.Along.{NoLatest, handed}
use Rattle.tg_law_layouts.proofs.Moves.Turns.{not_busy, task_again_reserved, asked_awaited}
use Rattle.tg_law_layouts.proofs.Moves.Moves.{Cases, Comes, seqr_turn, client_turn, SeqrInput, Hears, Ticks, ClientInput, Commanded, Hears', Ticks'}
use Rattle.tg_law_layouts.proofs.Requests.Answered.{Units, turn_on}
use Rattle.tg_law_layouts.proofs.Requests.Numbers.{Numbers, layout_answer}
use Rattle.tg_law_cells.proofs.Cells.Justified.{NextOk, heard, scan_told}
use Rattle.tg_law_cells.proofs.Cells.Jobs.{JobOk, job_of, cell_ok, MaybeOk}
use Rattle.tg_law_cells.proofs.Cells.Hands as hands
use Rattle.tg_law_cells.proofs.Cells.Hands.{HandOk, Fine, newer_fine, task_fine, refused_fine}
use Rattle.tg_law_layouts.proofs.Moves.Besides.{none_learns}
use Rattle.tg_law_layouts.proofs.Layouts.Decisions.{Pax}
use Rattle.tg_law_layouts.proofs.Layouts.Standing.{IsKnown, known_grows}
use Rattle.tg_law_layouts.proofs.Layouts.Decided.{Lay, stand_known, seqr_known}
use Rattle.tg_law_cells.proofs.Cells.Sent.{Justified, AllJust, none_just, both_just, asked_just, maybe_just, one_just, just_grows, maybe_grows, task_just, task_grows, Heard, task_claims, maybe_claims}

module _ (m : Meaning) where
  module _ (ps : List Packet) (K : Layout → Type 0) where
    pub record TurnFine (t : ClientTurn m) : Type 0 where
      pub ok : hands.WorkOk m ps t.now.stand t.now.work
      pub sends : AllJust ps K t.sends

    latest_just : (c : Client m) (next : ℕ) → AllJust ps K (asks_latest m (waits_for (numbers c.layouts 0) next))
    latest_just c next = asked_just ps K layout_id msg.AskLatest (waits_for (numbers c.layouts 0) next) (λ to. tt)

    hand_just : (p : Layout) → K p → (h : Hand m) → HandOk m ps p h → AllJust ps K (hand_asks m p h)
    hand_just p n (Doing t) k o h = task_just m ps K p n t k o (asked_awaited m p t o h)
    hand_just p n (Learning ws t) k o h = asked_just ps K layout_id msg.AskLatest ws (λ to. tt) o h

    work_just : (p : Layout) → K p → (w : Option (Work m)) → hands.WorkOk m ps p w → AllJust ps K (step.work_asks m p w)
    work_just p n None k = none_just ps K
    work_just p n (Some w) k = hand_just p n w.hand k

    asks_just : (c : Client m) → K c.stand → hands.WorkOk m ps c.stand c.work → AllJust ps K (client_asks m c)
    unfolding client_asks
    asks_just c n k = work_just c.stand n c.work k

    given_fine : (c : Client m) (x : Moved m) → K x.now.stand → Fine m ps x → TurnFine (given m c x)
    given_fine c x n f = record { ok = f.ok; sends = both_just ps K x.besides _ besides (λ o h. asks_just x.now n f.ok o (has_filter _ (client_asks m x.now) o h)) }
      where
        besides : AllJust ps K x.besides
        besides o h = subst (λ (y : Msg). Justified ps K o.to y) (sym (f.besides o h)) tt

    pub command_fine : (c : Client m) (x : CommandOf m) → K (client_command m c x).now.stand → hands.WorkOk m ps c.stand c.work → TurnFine (client_command m c x)
    unfolding client_command
    command_fine c x n k = given_fine c _ n (refused_fine m ps c x (refusal m c x) (not_busy m c x) k)

    again_just : (p : Layout) → K p → (h : Hand m) → HandOk m ps p h → AllJust ps K (hand_again_asks m p h)
    again_just p n (Doing t) k o h = task_just m ps K p n t k o (task_again_reserved m p t o h)
    again_just p n (Learning ws t) k o h = asked_just ps K layout_id msg.AskLatest ws (λ to. tt) o h

    tick_by_fine : (c : Client m) (w : Option (Work m)) → K c.stand → c.work ≡ w → hands.WorkOk m ps c.stand c.work → TurnFine (step.tick_by m c w)
    tick_by_fine c None n e k = record { ok = k; sends = none_just ps K }
    tick_by_fine c (Some w) n e k = record { ok = k; sends = both_just ps K (hand_again_asks m c.stand w.hand) _ (again_just c.stand n w.hand (subst (λ (o : Option (Work m)). hands.WorkOk m ps c.stand o) e k)) (latest_just c c.next) }

    pub tick_fine : (c : Client m) → K c.stand → hands.WorkOk m ps c.stand c.work → TurnFine (client_tick m c)
    unfolding client_tick
    tick_fine c n k = tick_by_fine c c.work n refl k

    -- Deliveries.

    rests : (c : Client m) → hands.WorkOk m ps c.stand c.work → Fine m ps (moved m c [])
    rests c k = record { ok = k; besides = none_learns _ }

    feed_fine : (c : Client m) (x : Packet) → hands.WorkOk m ps c.stand c.work → Heard ps x.from x.rid x.msg (reserved m c) → Fine m ps (step.feed m c c.work x.from x.rid (reply x.msg))
    feed_fine c x k g = handed m (Fine m ps) c x.from x.rid (reply x.msg) (rests c k) awaited (λ w q has is e. newer_fine m ps c w (task_in m w.hand) x.from.num x.rid q)
      where
        awaited : (w : Work m) (t : Task m) → c.work ≡ Some w → w.hand ≡ Doing t → awaits (task_awaited m c.stand t) x.from x.rid ≡ true → NoLatest (reply x.msg) → Fine m ps (step.task_feed m c w t x.from.num x.rid (reply x.msg))
        awaited w t has doing a other = task_fine m ps c w t x.from.num x.rid x.msg (subst (HandOk m ps c.stand) doing (subst (hands.WorkOk m ps c.stand) has k))
            (task_claims ps x.from x.rid x.msg m c.stand t a (subst (λ (d : Hand m). Heard ps x.from x.rid x.msg (hand_reserved m c.stand d)) doing (subst (λ (o : Option (Work m)). Heard ps x.from x.rid x.msg (work_reserved m c.stand o)) has g)))

    pub deliver_fine : (c : Client m) (x : Packet) → K (client_deliver m c x.from x.rid x.msg).now.stand → hands.WorkOk m ps c.stand c.work → Heard ps x.from x.rid x.msg (reserved m c) → TurnFine (client_deliver m c x.from x.rid x.msg)
    unfolding client_deliver
    deliver_fine c x n k g = given_fine c _ n (feed_fine c x k g)

    -- A sequencer's scan.

    pub record ScanFine (t : SeqrTurn) : Type 0 where
      pub ok : MaybeOk ps t.now.proj t.now.scan
      pub sends : K t.now.proj → AllJust ps K t.sends

    scan_on_ok : (s : SeqrState) (b : Bool) → MaybeOk ps (scan_on s b).proj (scan_on s b).scan
    unfolding get_cell
    scan_on_ok s true = record { place = refl; work = tt }
    scan_on_ok s false = tt

    ended_ok : (s : SeqrState) (e : CellEnd) → MaybeOk ps s.proj s.scan → MaybeOk ps (scan_ended s e).proj (scan_ended s e).scan
    ended_ok s (Done c) k = scan_on_ok (record s { next = s.next + 1; lists = with_positions s.next (cell_streams c) s.lists }) _
    ended_ok s (Gone b) k = scan_on_ok (record s { next = min b s.proj.start }) _
    ended_ok s (Fenced u e) k = tt
    ended_ok s e k = k

    next_ok : (s : SeqrState) (j : CellJob) (to : Next CellJob CellEnd) → JobOk ps s.proj j → MaybeOk ps s.proj s.scan → NextOk ps j.place to → MaybeOk ps (scan_next s to).proj (scan_next s to).scan
    next_ok s j (Goes x) o k h = job_of ps s.proj j x o h
    next_ok s j (Learns x) o k h = job_of ps s.proj j x o h
    next_ok s j (Ends e) o k h = ended_ok s e k

    scan_just : (s : SeqrState) → K s.proj → MaybeOk ps s.proj s.scan → AllJust ps K (seqr_asks s)
    scan_just s n k = by s.scan k
      where
        by : (o : Option CellJob) → MaybeOk ps s.proj o → AllJust ps K (scan_asks o)
        by None k = none_just ps K
        by (Some j) k = maybe_just ps K s.proj n (Some j) k

    fed_fine : (b : Bool) (s t : SeqrState) → MaybeOk ps s.proj s.scan → (b ≡ true → MaybeOk ps t.proj t.scan) → ScanFine (fed_if b s t)
    fed_fine true s t k h = record { ok = h refl; sends = λ n o g. scan_just t n (h refl) o (has_filter _ (seqr_asks t) o g) }
    fed_fine false s t k h = record { ok = k; sends = λ n. none_just ps K }

    scan_fed_fine : (s : SeqrState) (j : Option CellJob) (x : Packet) → s.scan ≡ j → MaybeOk ps s.proj s.scan → Heard ps x.from x.rid x.msg (seqr_asks s) → ScanFine (scan_fed s j x.from x.rid x.msg)
    scan_fed_fine s None x e k g = record { ok = k; sends = λ n. none_just ps K }
    scan_fed_fine s (Some j) x e k g = fed_fine _ s (scan_turn s (cell_feed j x.from.num (reply x.msg) s.rids)) k (λ a.
        let o : JobOk ps s.proj j = subst (λ (i : Option CellJob). MaybeOk ps s.proj i) e k in
        next_ok (record s { rids = (cell_feed j x.from.num (reply x.msg) s.rids).next }) j (cell_feed j x.from.num (reply x.msg) s.rids).to o k
        (cell_ok ps s.proj j x.msg o (maybe_claims ps x.from x.rid x.msg s.proj (Some j) a (subst (λ (i : Option CellJob). Heard ps x.from x.rid x.msg (scan_asks i)) e g)) x.from.num s.rids))

    -- an answer changes nothing of the scan
    answer_fine : (s t : SeqrState) (to : NodeId) (rid : ℕ) (x : Msg) → t.proj ≡ s.proj → t.scan ≡ s.scan → Justified ps K to x → MaybeOk ps s.proj s.scan → ScanFine (record { now = t; sends = record { to = to; rid = rid; msg = x } ∷ [] })
    answer_fine s t to rid x e f j k = record {
      ok = subst (λ (p : Layout). MaybeOk ps p t.scan) (sym e) (subst (λ (o : Option CellJob). MaybeOk ps s.proj o) (sym f) k);
      sends = λ n. one_just ps K to rid x j;
    }

    stand_just : (to : NodeId) (s : SeqrState) (ls : List StreamLink) (b : Bool) → Justified ps K to (stand_answer s ls b)
    stand_just to s ls true = tt
    stand_just to s ls false = tt

    begun_fine : (s : SeqrState) (q : Layout) (from : NodeId) (rid : ℕ) → ScanFine (learns s (begun s q) from rid)
    begun_fine s q from rid = record { ok = ok; sends = λ n. both_just ps K (record { to = from; rid = rid; msg = stand_answer (begun s q) [] (scanning (begun s q)) } ∷ []) _ (one_just ps K from rid _ (stand_just from (begun s q) [] _)) (λ o h. scan_just (begun s q) n ok o (has_filter _ (seqr_asks (begun s q)) o h)) }
      where
        ok : MaybeOk ps (begun s q).proj (begun s q).scan
        ok = scan_on_ok (record s { epoch = q.epoch; proj = q; next = 0; lists = []; fence = None; scan = None }) _

    unfenced_fine : (s : SeqrState) (f : Option ℕ) (from : NodeId) (rid : ℕ) (t : SeqrTurn) → MaybeOk ps s.proj s.scan → ScanFine t → ScanFine (unfenced f s from rid t)
    unfenced_fine s None from rid t k d = d
    unfenced_fine s (Some e) from rid t k d = answer_fine s s from rid (msg.OldEpoch e) refl refl tt k

    own_fine : (b : Bool) (s : SeqrState) (from : NodeId) (rid : ℕ) (t : SeqrTurn) → MaybeOk ps s.proj s.scan → ScanFine t → ScanFine (own_epoch b s from rid t)
    own_fine true s from rid t k d = unfenced_fine s s.fence from rid t k d
    own_fine false s from rid t k d = answer_fine s s from rid (msg.OldEpoch s.epoch) refl refl tt k

    learn_fine : (s : SeqrState) (q : Layout) (from : NodeId) (rid : ℕ) (b : Bool) → MaybeOk ps s.proj s.scan → ScanFine (on_learn s q from rid b)
    learn_fine s q from rid true k = begun_fine s q from rid
    learn_fine s q from rid false k = unfenced_fine s s.fence from rid _ k (answer_fine s s from rid _ refl refl (stand_just from s [] _) k)

    learn_or_fine : (s : SeqrState) (q : Layout) (from : NodeId) (rid : ℕ) (b : Bool) → MaybeOk ps s.proj s.scan → ScanFine (learn_or_old s q from rid b)
    learn_or_fine s q from rid true k = answer_fine s s from rid (msg.OldEpoch s.epoch) refl refl tt k
    learn_or_fine s q from rid false k = learn_fine s q from rid _ k

    issue_fine : (s : SeqrState) (os : List Oid) (from : NodeId) (rid : ℕ) (b : Bool) → MaybeOk ps s.proj s.scan → ScanFine (issue s os from rid b)
    issue_fine s os from rid true k = answer_fine s s from rid (msg.Full s.limit) refl refl tt k
    issue_fine s os from rid false k = answer_fine s (issued s os) from rid (msg.Issued s.next (links_of s.lists os)) refl refl tt k

    token_fine : (s : SeqrState) (os : List Oid) (from : NodeId) (rid : ℕ) (b : Bool) → MaybeOk ps s.proj s.scan → ScanFine (on_token s os from rid b)
    token_fine s os from rid true k = answer_fine s s from rid (msg.Scanning s.next s.proj.start) refl refl tt k
    token_fine s os from rid false k = issue_fine s os from rid _ k

    step_fine : (s : SeqrState) (x : Packet) (y : Msg) → x.msg ≡ y → MaybeOk ps s.proj s.scan → Heard ps x.from x.rid x.msg (seqr_asks s) → ScanFine (seqr_step s x.from x.rid y)
    unfolding seqr_step
    step_fine s x (msg.Learn q) e k g = learn_or_fine s q x.from x.rid _ k
    step_fine s x (msg.Token f os) e k g = own_fine _ s x.from x.rid _ k (token_fine s os x.from x.rid _ k)
    step_fine s x (msg.Check f os) e k g = own_fine _ s x.from x.rid _ k (answer_fine s s x.from x.rid _ refl refl (stand_just x.from s (links_of s.lists os) _) k)
    step_fine s x y e k g = subst (λ (z : Msg). ScanFine (scan_fed s s.scan x.from x.rid z)) e (scan_fed_fine s s.scan x refl k g)

  -- Over worlds.

  -- decided, as far as these packets tell
  abbrev pub K : Config m → List Packet → Layout → Type 0
  K c ps = IsKnown c.cluster.layouts (first_layout c.cluster) ps

  pub record Cells (c : Config m) : Type 0 where
    pub hands : (k : ℕ) → hands.WorkOk m c.packets (client_in m c k).stand (client_in m c k).work
    pub scans : (s : ℕ) → MaybeOk c.packets (seqr_in m c s).proj (seqr_in m c s).scan
    pub sent : (x : Packet) → Has c.packets x → Justified c.packets (K c c.packets) x.to x.msg

  pub record Low (c : Config m) : Type 0 where
    pub numbers : Numbers m c
    pub units : Units m c
    pub pax : Pax m c
    pub lay : Lay m c

  work_grows : (ps qs : List Packet) → ((x : Packet) → Has ps x → Has qs x) → (p : Layout) (w : Option (Work m)) → hands.WorkOk m ps p w → hands.WorkOk m qs p w
  work_grows ps qs more p None k = tt
  work_grows ps qs more p (Some w) k = by w.hand k
    where
      by : (h : Hand m) → HandOk m ps p h → HandOk m qs p h
      by (Doing t) k = task_grows m ps qs more p t k
      by (Learning ws t) k = tt

  -- some more packets, each justified
  more_sent : (c : Config m) (ps new : List Packet) → ((x : Packet) → Has ps x → Justified ps (K c ps) x.to x.msg) → ((x : Packet) → Has new x → Justified ps (K c ps) x.to x.msg) → (x : Packet) → Has (ps ++ new) x → Justified (ps ++ new) (K c (ps ++ new)) x.to x.msg
  more_sent c ps new old fresh x h = just_grows ps (ps ++ new) (λ y g. has_left ps new y g) (K c ps) (K c (ps ++ new)) (λ q k. known_grows c.cluster.layouts (first_layout c.cluster) ps (ps ++ new) (λ y g. has_left ps new y g) q k) x.to x.msg (by (has_either ps new x h))
    where
      by : Has ps x ⊎ Has new x → Justified ps (K c ps) x.to x.msg
      by (inl y) = old x y
      by (inr y) = fresh x y

  -- an answer asks for nothing
  answer_just : (ps : List Packet) (L : Layout → Type 0) (to : NodeId) (x : Msg) → is_request x ≡ false → Justified ps L to x
  unfolding is_request
  answer_just ps L to (msg.Write e p d) h = absurd (cc)
  answer_just ps L to (msg.Fill e p) h = absurd (cc)
  answer_just ps L to (msg.Copy e p c) h = absurd (cc)
  answer_just ps L to x h = tt

  said_just : (ps : List Packet) (L : Layout → Type 0) (p : Packet) (o : Option Msg) → ((y : Msg) → o ≡ Some y → is_request y ≡ false) → (x : Packet) → Has (answer_to m p o) x → Justified ps L x.to x.msg
  said_just ps L p None f x h = absurd h
  said_just ps L p (Some y) f x (inl e) = subst (λ (z : Packet). Justified ps L z.to z.msg) (sym e) (answer_just ps L p.from y (f y refl))
  said_just ps L p (Some y) f x (inr h) = absurd h

  outs_just : (ps : List Packet) (L : Layout → Type 0) (n : NodeId) (os : List Out) → AllJust ps L os → (x : Packet) → Has (map (packet_of m n) os) x → Justified ps L x.to x.msg
  outs_just ps L n os f x h = let i = has_map (packet_of m n) os x h in subst (λ (z : Packet). Justified ps L z.to z.msg) (sym i.is) (f i.of i.has)

  -- others send
  still : (c : Config m) (new : List Packet) → Cells c → ((x : Packet) → Has new x → Justified c.packets (K c c.packets) x.to x.msg) → (d : Config m) → d.packets ≡ c.packets ++ new → d.clients ≡ c.clients → d.seqrs ≡ c.seqrs → d.cluster ≡ c.cluster → Cells d
  still c new h fresh d e f g i = subst Cells (λ j. record { cluster = sym i j; units = d.units; layouts = d.layouts; seqrs = sym g j; clients = sym f j; packets = sym e j }) (record {
    hands = λ k. work_grows c.packets _ more _ _ (h.hands k);
    scans = λ s. maybe_grows c.packets _ more _ _ (h.scans s);
    sent = more_sent c c.packets new h.sent fresh;
  })
    where
      more : (x : Packet) → Has c.packets x → Has (c.packets ++ new) x
      more x y = has_left c.packets new x y

  module _ (c : Config m) (low : Low c) (h : Cells c) where
    abbrev ps : List Packet
    ps = c.packets

    -- what a client hears
    heard_of : (k : ℕ) (x : Packet) → Comes m c x (client_id k) → Heard ps x.from x.rid x.msg (reserved m (client_in m c k))
    heard_of k x comes o g to number u from l is = (heard m c low.numbers low.units k u o x g comes.sent comes.to_node from to number).tells l is

    input_fine : (k : ℕ) (t : ClientTurn m) → ClientInput m c k t → TurnFine ps (K c ps) t
    input_fine k t (Commanded x) = command_fine ps (K c ps) (client_in m c k) x (stand_known m c low.pax low.lay k _ (Commanded x)) (h.hands k)
    input_fine k t (Hears' x comes) = deliver_fine ps (K c ps) (client_in m c k) x (stand_known m c low.pax low.lay k _ (Hears' x comes)) (h.hands k) (heard_of k x comes)
    input_fine k t Ticks' = tick_fine ps (K c ps) (client_in m c k) (low.lay.clients k).stand (h.hands k)

    scan_heard : (s : ℕ) (x : Packet) → Comes m c x (seqr_id s) → Heard ps x.from x.rid x.msg (seqr_asks (seqr_in m c s))
    scan_heard s x comes o g to number u from l is = scan_told m c low.numbers low.units s u o x g comes.sent comes.to_node from to number l is

    scan_fine : (s : ℕ) (t : SeqrTurn) → SeqrInput m c s t → ScanFine ps (K c ps) t
    unfolding seqr_tick
    scan_fine s t (Hears x comes) = step_fine ps (K c ps) (seqr_in m c s) x x.msg refl (h.scans s) (scan_heard s x comes)
    scan_fine s t Ticks = record { ok = h.scans s; sends = λ n. scan_just ps (K c ps) (seqr_in m c s) n (h.scans s) }

    by_client' : (k : ℕ) (t : ClientTurn m) → ClientInput m c k t → k < length c.clients → Cells (client_turn m c k t)
    by_client' k t i less =
        let f = input_fine k t i in
        let new = map (packet_of m (client_id k)) t.sends in
        record {
          hands = at_set c.clients k t.now (new_client m c.cluster) (λ j x. hands.WorkOk m (ps ++ new) x.stand x.work) less (work_grows ps _ (λ x y. has_left ps new x y) _ _ f.ok) (λ j other. work_grows ps _ (λ x y. has_left ps new x y) _ _ (h.hands j));
          scans = λ s. maybe_grows ps _ (λ x y. has_left ps new x y) _ _ (h.scans s);
          sent = more_sent c ps new h.sent (outs_just ps (K c ps) (client_id k) t.sends f.sends);
        }

    by_seqr' : (s : ℕ) (t : SeqrTurn) → SeqrInput m c s t → s < length c.seqrs → Cells (seqr_turn m c s t)
    by_seqr' s t i less =
        let f = scan_fine s t i in
        let new = map (packet_of m (seqr_id s)) t.sends in
        record {
          hands = λ k. work_grows ps _ (λ x y. has_left ps new x y) _ _ (h.hands k);
          scans = at_set c.seqrs s t.now (λ j. new_seqr j c.cluster.limit (first_layout c.cluster)) (λ j x. MaybeOk (ps ++ new) x.proj x.scan) less (maybe_grows ps _ (λ x y. has_left ps new x y) _ _ f.ok) (λ j other. maybe_grows ps _ (λ x y. has_left ps new x y) _ _ (h.scans j));
          sent = more_sent c ps new h.sent (outs_just ps (K c ps) (seqr_id s) t.sends (f.sends (seqr_known m c low.lay s t i)));
        }

    pub cells_keep : Cases m c Cells
    cells_keep = record {
      idle = h;
      unit = λ u p a less. still c (answer_to m p (turn_on m c u p).says) h (said_just ps (K c ps) p _ (λ y e. says_answer _ p.msg y e)) _ refl refl refl refl;
      layout = λ l p a less. still c (answer_to m p (layout_step (layout_in m c l) p.msg).says) h (said_just ps (K c ps) p _ (λ y e. layout_answer _ p.msg y e)) _ refl refl refl refl;
      seqr = by_seqr';
      client = by_client';
    }
