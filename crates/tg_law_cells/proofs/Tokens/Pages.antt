-- Over all worlds, a page that is sent goes to the position of its own token.
use Rattle.std.proofs.Common.{◌≡◌, ◌⊎◌, ℕ, ◌+◌, ◌<◌, List, [], ◌∷◌, ◌++◌, ◌∙◌, length, map, Bool, true, false, refl, sym, subst, inl, inr, Some, None, Option, ap}
use Rattle.std.specs.Prelude.{min}
use Rattle.tg_base.specs.Layouts.{Layout}
use Rattle.tg_base.specs.declared.ids.NodeId.{NodeId}
use Rattle.tg_base.specs.declared.ids.Oid.{Oid}
use Rattle.tg_base.specs.declared.marks.StreamLink.{StreamLink}
use Rattle.tg_base.specs.declared.msg.Msg.{Msg}
use Rattle.tg_base.specs.declared.msg.Msg.TheVariants as msg
use Rattle.tg_base.specs.declared.packet.Out.{Out}
use Rattle.tg_base.specs.declared.packet.Packet.{Packet}
use Rattle.tg_kind.specs.Meaning.{Meaning}
use Rattle.tg_model.specs.Kinds.{CommandOf}
use Rattle.tg_protocol.specs.Words.{unit_id, layout_id, seqr_id, client_id, numbers}
use Rattle.tg_protocol.specs.Layouts.{first_layout}
use Rattle.tg_protocol.specs.Requests.{awaits, out, Waits, waits_for, drawn_from, Next, Goes, Learns, Ends}
use Rattle.tg_protocol.specs.Replies.{reply}
use Rattle.tg_protocol.specs.Cells.{CellJob, CellEnd, Done, Fenced, Gone, get_cell, cell_feed}
use Rattle.tg_protocol.specs.Sequencers.{SeqrState, SeqrTurn, new_seqr, with_positions, cell_streams, scan_asks, seqr_asks, scanning, scan_on, scan_ended, scan_next, scan_turn, fed_if, scan_fed, begun, stand_answer, issue, on_token, issued, links_of, learns, unfenced, own_epoch, on_learn, learn_or_old, seqr_step, seqr_tick}
use Rattle.tg_protocol.specs.Clients.{Task, Hand, Doing, Learning, Work, Client, new_client, refusal}
use Rattle.tg_protocol.specs.Answers.{Moved, moved}
use Rattle.tg_protocol.specs.ClientSteps.{task_awaited, hand_asks, hand_again_asks, client_asks, asks_latest, task_in, ClientTurn, given, client_command, client_deliver, client_tick}
use Rattle.tg_protocol.specs.ClientSteps as step
use Rattle.tg_protocol.specs.Worlds.{packet_of, answer_to}
use Rattle.tg_law_layouts.proofs.Moves.Members.{Has, has_left, has_either, has_map, has_filter}
use Rattle.tg_protocol.specs.LayoutServers.{layout_step}
use Rattle.tg_law_layouts.proofs.Moves.Units.{says_answer}
use Rattle.tg_law_layouts.specs.Moves.Configs.{Config, client_in, seqr_in, layout_in}
use Rattle.tg_law_layouts.specs.Moves.Telling.{is_request, Claim, claimed}
use Rattle.tg_law_layouts.proofs.Moves.Lists.{at_set}
use Rattle.tg_law_layouts.proofs.Moves.Clients.{reserved, work_reserved, hand_reserved}
use Rattle.tg_law_steps.proofs.Along.{NoLatest, handed}
use Rattle.tg_law_layouts.proofs.Moves.Turns.{not_busy, task_again_reserved, asked_awaited}
use Rattle.tg_law_layouts.proofs.Moves.Moves.{Cases, Comes, seqr_turn, client_turn, SeqrInput, Hears, Ticks, ClientInput, Commanded, Hears', Ticks'}
use Rattle.tg_law_layouts.proofs.Requests.Answered.{turn_on}
use Rattle.tg_law_layouts.proofs.Requests.Numbers.{layout_answer}
use Rattle.tg_base.specs.declared.cell.Cell.{Cell}
use Rattle.tg_protocol.specs.Units.{unit_ask}
use Rattle.tg_law_layouts.proofs.Requests.Told.{Tells}
use Rattle.tg_law_layouts.proofs.Requests.Starts.{All}
use Rattle.tg_law_cells.proofs.Cells.Justified.{heard, scan_told}
use Rattle.tg_law_cells.proofs.Cells.Owned as stores
use Rattle.tg_law_cells.proofs.Tokens.Owning.{Nothing, NextOk, Pair, OwnCell}
use Rattle.tg_law_cells.proofs.Tokens.Issues.{Issuing, token_asks}
use Rattle.tg_law_cells.proofs.Tokens.Jobs.{JobOk, job_of, cell_ok, MaybeOk}
use Rattle.tg_law_cells.proofs.Tokens.Puts.{HandPuts, task_puts, learn_none}
use Rattle.tg_law_cells.proofs.Tokens.Hands as hands
use Rattle.tg_law_cells.proofs.Tokens.Hands.{HandOk, Fine, newer_fine, task_fine, refused_fine}
use Rattle.tg_law_layouts.proofs.Moves.Besides.{none_learns}
use Rattle.tg_law_cells.proofs.Tokens.Sent.{Justified, AllJust, none_just, both_just, asked_just, maybe_just, one_just, just_grows, maybe_grows, task_just, task_grows, Heard, HeardUnit, task_claims, maybe_claims}

some_claim : (a b : Claim) → Some a ≡ Some b → a ≡ b
some_claim a b e = cc

module _ (m : Meaning) where
  -- Where a request comes from that a client's turn sends: a sequencer is told a layout, layout servers are asked for the
  -- latest one, or the machine in hand asks.
  pub data FromTurn (c : Client m) (o : Out) : Type 0 where
    ToldLayout : (q : Layout) → o.msg ≡ msg.Learn q → FromTurn c o
    AskedLatest : o.msg ≡ msg.AskLatest → FromTurn c o
    AskedInHand : (w : Work m) (t : Task m) → c.work ≡ Some w → w.hand ≡ Doing t → Has (task_awaited m c.stand t) o → FromTurn c o

  latest_in : (ws : Waits) (o : Out) → Has (asks_latest m ws) o → o.msg ≡ msg.AskLatest
  latest_in ws o h = let i = has_map (λ (w : ℕ × ℕ). out (layout_id w.0) w.1 msg.AskLatest) ws o h in ap (λ (z : Out). z.msg) i.is

  -- of what is asked by what is in hand
  from_work : (c : Client m) (w : Option (Work m)) → c.work ≡ w → (o : Out) → Has (step.work_asks m c.stand w) o → FromTurn c o
  from_work c None has o h = absurd h
  from_work c (Some w) has o h = by w.hand refl h
    where
      by : (x : Hand m) → w.hand ≡ x → Has (hand_asks m c.stand x) o → FromTurn c o
      by (Doing t) at h = AskedInHand w t has at (asked_awaited m c.stand t o h)
      by (Learning ws t) at h = AskedLatest (latest_in ws o h)

  -- the count of steps is nothing to it
  from_given : (c d : Client m) (o : Out) → d.work ≡ c.work → d.stand ≡ c.stand → FromTurn c o → FromTurn d o
  from_given c d o e f (ToldLayout q i) = ToldLayout q i
  from_given c d o e f (AskedLatest i) = AskedLatest i
  from_given c d o e f (AskedInHand w t has at h) = AskedInHand w t (e ∙ has) at (subst (λ (p : Layout). Has (task_awaited m p t) o) (sym f) h)

  module _ (ps : List Packet) (me : NodeId) where
    pub record TurnFine (t : ClientTurn m) : Type 0 where
      pub ok : hands.WorkOk m ps me t.now.stand t.now.work
      pub sends : AllJust ps me t.sends
      pub from : (o : Out) → Has t.sends o → FromTurn t.now o
      pub puts : (o : Out) → Has t.sends o → (e pos : ℕ) (d : List ℕ) → o.msg ≡ msg.Write e pos d → HandPuts m t.now e pos d

    latest_just : (c : Client m) (next : ℕ) → AllJust ps me (asks_latest m (waits_for (numbers c.layouts 0) next))
    latest_just c next = asked_just ps me layout_id msg.AskLatest (waits_for (numbers c.layouts 0) next) (λ to. tt)

    hand_just : (p : Layout) (h : Hand m) → HandOk m ps me p h → AllJust ps me (hand_asks m p h)
    hand_just p (Doing t) k o h = task_just m ps me p t k o (asked_awaited m p t o h)
    hand_just p (Learning ws t) k o h = asked_just ps me layout_id msg.AskLatest ws (λ to. tt) o h

    work_just : (p : Layout) (w : Option (Work m)) → hands.WorkOk m ps me p w → AllJust ps me (step.work_asks m p w)
    work_just p None k = none_just ps me
    work_just p (Some w) k = hand_just p w.hand k

    asks_just : (c : Client m) → hands.WorkOk m ps me c.stand c.work → AllJust ps me (client_asks m c)
    unfolding client_asks
    asks_just c k = work_just c.stand c.work k

    -- a page among what a hand asks is that of its append
    asks_put : (c : Client m) (w : Option (Work m)) → c.work ≡ w → hands.WorkOk m ps me c.stand w → (o : Out) → Has (step.work_asks m c.stand w) o → (e pos : ℕ) (d : List ℕ) → o.msg ≡ msg.Write e pos d → HandPuts m c e pos d
    asks_put c None has k o h e pos d is = absurd h
    asks_put c (Some w) has k o h e pos d is = by w.hand refl k h
      where
        by : (x : Hand m) → w.hand ≡ x → HandOk m ps me c.stand x → Has (hand_asks m c.stand x) o → HandPuts m c e pos d
        by (Doing t) at k h = task_puts m ps me c.stand e pos d o is c w has t at k (asked_awaited m c.stand t o h)
        by (Learning ws t) at k h = learn_none m ps me c.stand e pos d o is ws h

    given_fine : (c : Client m) (x : Moved m) → Fine m ps me x → TurnFine (given m c x)
    unfolding client_asks
    given_fine c x f = record {
      ok = f.ok;
      sends = both_just ps me x.besides _ besides (λ o h. asks_just x.now f.ok o (has_filter _ (client_asks m x.now) o h));
      from = λ o h. from o (has_either x.besides _ o h);
      puts = λ o h e pos d is. by o e pos d is (has_either x.besides _ o h);
    }
      where
        from : (o : Out) → Has x.besides o ⊎ Has (drawn_from c.next (client_asks m x.now)) o → FromTurn (given m c x).now o
        from o (inl h) = ToldLayout x.now.stand (f.besides o h)
        from o (inr h) = from_given x.now (given m c x).now o refl refl (from_work x.now x.now.work refl o (has_filter _ (client_asks m x.now) o h))

        again : (e pos : ℕ) (d : List ℕ) → HandPuts m x.now e pos d → HandPuts m (given m c x).now e pos d
        again e pos d k = record { work = k.work; has = k.has; append = k.append; purpose = k.purpose; doing = k.doing; job = k.job; putting = k.putting; puts = k.puts }

        by : (o : Out) (e pos : ℕ) (d : List ℕ) → o.msg ≡ msg.Write e pos d → Has x.besides o ⊎ Has (drawn_from c.next (client_asks m x.now)) o → HandPuts m (given m c x).now e pos d
        by o e pos d is (inl h) = absurd (no (sym (f.besides o h) ∙ is))
          where
            no : msg.Learn x.now.stand ≡ msg.Write e pos d → ⊥
            no i = cc
        by o e pos d is (inr h) = again e pos d (asks_put x.now x.now.work refl f.ok o (has_filter _ (client_asks m x.now) o h) e pos d is)

        besides : AllJust ps me x.besides
        besides o h = subst (λ (y : Msg). Justified ps me o.to y) (sym (f.besides o h)) tt

    pub command_fine : (c : Client m) (x : CommandOf m) → hands.WorkOk m ps me c.stand c.work → TurnFine (client_command m c x)
    unfolding client_command
    command_fine c x k = given_fine c _ (refused_fine m ps me c x (refusal m c x) (not_busy m c x) k)

    again_just : (p : Layout) (h : Hand m) → HandOk m ps me p h → AllJust ps me (hand_again_asks m p h)
    again_just p (Doing t) k o h = task_just m ps me p t k o (task_again_reserved m p t o h)
    again_just p (Learning ws t) k o h = asked_just ps me layout_id msg.AskLatest ws (λ to. tt) o h

    tick_by_fine : (c : Client m) (w : Option (Work m)) → c.work ≡ w → hands.WorkOk m ps me c.stand c.work → TurnFine (step.tick_by m c w)
    tick_by_fine c None e k = record { ok = k; sends = none_just ps me; from = λ o h. absurd h; puts = λ o h e pos d is. absurd h }
    tick_by_fine c (Some w) e k = record {
      ok = k;
      sends = both_just ps me (hand_again_asks m c.stand w.hand) _ (again_just c.stand w.hand (subst (λ (o : Option (Work m)). hands.WorkOk m ps me c.stand o) e k)) (latest_just c c.next);
      from = λ o h. from o (has_either (hand_again_asks m c.stand w.hand) _ o h);
      puts = λ o h f pos d is. again f pos d (by o f pos d is (has_either (hand_again_asks m c.stand w.hand) _ o h));
    }
      where
        from_hand : (x : Hand m) → w.hand ≡ x → (o : Out) → Has (hand_again_asks m c.stand x) o → FromTurn c o
        from_hand (Doing t) at o h = AskedInHand w t e at (task_again_reserved m c.stand t o h)
        from_hand (Learning ws t) at o h = AskedLatest (latest_in ws o h)

        from : (o : Out) → Has (hand_again_asks m c.stand w.hand) o ⊎ Has (asks_latest m (waits_for (numbers c.layouts 0) c.next)) o → FromTurn (step.tick_by m c (Some w)).now o
        from o (inl h) = from_given c (step.tick_by m c (Some w)).now o refl refl (from_hand w.hand refl o h)
        from o (inr h) = AskedLatest (latest_in (waits_for (numbers c.layouts 0) c.next) o h)

        again : (f pos : ℕ) (d : List ℕ) → HandPuts m c f pos d → HandPuts m (step.tick_by m c (Some w)).now f pos d
        again f pos d j = record { work = j.work; has = j.has; append = j.append; purpose = j.purpose; doing = j.doing; job = j.job; putting = j.putting; puts = j.puts }

        latest_none : {X : Type 0} (o : Out) (f pos : ℕ) (d : List ℕ) → o.msg ≡ msg.Write f pos d → Has (asks_latest m (waits_for (numbers c.layouts 0) c.next)) o → X
        latest_none o f pos d is h = learn_none m ps me c.stand f pos d o is (waits_for (numbers c.layouts 0) c.next) h

        hand : (o : Out) (f pos : ℕ) (d : List ℕ) → o.msg ≡ msg.Write f pos d → (x : Hand m) → w.hand ≡ x → HandOk m ps me c.stand x → Has (hand_again_asks m c.stand x) o → HandPuts m c f pos d
        hand o f pos d is (Doing t) at k h = task_puts m ps me c.stand f pos d o is c w e t at k (task_again_reserved m c.stand t o h)
        hand o f pos d is (Learning ws t) at k h = learn_none m ps me c.stand f pos d o is ws h

        by : (o : Out) (f pos : ℕ) (d : List ℕ) → o.msg ≡ msg.Write f pos d → Has (hand_again_asks m c.stand w.hand) o ⊎ Has (asks_latest m (waits_for (numbers c.layouts 0) c.next)) o → HandPuts m c f pos d
        by o f pos d is (inl h) = hand o f pos d is w.hand refl (subst (λ (v : Option (Work m)). hands.WorkOk m ps me c.stand v) e k) h
        by o f pos d is (inr h) = latest_none o f pos d is h

    pub tick_fine : (c : Client m) → hands.WorkOk m ps me c.stand c.work → TurnFine (client_tick m c)
    unfolding client_tick
    tick_fine c k = tick_by_fine c c.work refl k

    -- Deliveries.

    rests : (c : Client m) → hands.WorkOk m ps me c.stand c.work → Fine m ps me (moved m c [])
    rests c k = record { ok = k; besides = none_learns _ }

    feed_fine : (c : Client m) (x : Packet) → hands.WorkOk m ps me c.stand c.work → Heard ps me x.from x.rid x.msg (reserved m c) → Fine m ps me (step.feed m c c.work x.from x.rid (reply x.msg))
    feed_fine c x k g = handed m (Fine m ps me) c x.from x.rid (reply x.msg) (rests c k) awaited (λ w q has is e. newer_fine m ps me c w (task_in m w.hand) x.from.num x.rid q)
      where
        awaited : (w : Work m) (t : Task m) → c.work ≡ Some w → w.hand ≡ Doing t → awaits (task_awaited m c.stand t) x.from x.rid ≡ true → NoLatest (reply x.msg) → Fine m ps me (step.task_feed m c w t x.from.num x.rid (reply x.msg))
        awaited w t has doing a other = task_fine m ps me c w t x.from.num x.rid x.msg (subst (HandOk m ps me c.stand) doing (subst (hands.WorkOk m ps me c.stand) has k))
            (task_claims ps me x.from x.rid x.msg m c.stand t a (subst (λ (d : Hand m). Heard ps me x.from x.rid x.msg (hand_reserved m c.stand d)) doing (subst (λ (o : Option (Work m)). Heard ps me x.from x.rid x.msg (work_reserved m c.stand o)) has g)))

    pub deliver_fine : (c : Client m) (x : Packet) → hands.WorkOk m ps me c.stand c.work → Heard ps me x.from x.rid x.msg (reserved m c) → TurnFine (client_deliver m c x.from x.rid x.msg)
    unfolding client_deliver
    deliver_fine c x k g = given_fine c _ (feed_fine c x k g)

    -- A sequencer's scan.

    pub record ScanFine (t : SeqrTurn) : Type 0 where
      pub ok : MaybeOk ps me t.now.proj t.now.scan
      pub sends : AllJust ps me t.sends

    scan_on_ok : (s : SeqrState) (b : Bool) → MaybeOk ps me (scan_on s b).proj (scan_on s b).scan
    unfolding get_cell
    scan_on_ok s true = record { place = refl; work = tt }
    scan_on_ok s false = tt

    ended_ok : (s : SeqrState) (e : CellEnd) → MaybeOk ps me s.proj s.scan → MaybeOk ps me (scan_ended s e).proj (scan_ended s e).scan
    ended_ok s (Done c) k = scan_on_ok (record s { next = s.next + 1; lists = with_positions s.next (cell_streams c) s.lists }) _
    ended_ok s (Gone b) k = scan_on_ok (record s { next = min b s.proj.start }) _
    ended_ok s (Fenced u e) k = tt
    ended_ok s e k = k

    next_ok : (s : SeqrState) (j : CellJob) (to : Next CellJob CellEnd) → JobOk ps Nothing s.proj j → MaybeOk ps me s.proj s.scan → NextOk ps Nothing j.place to → MaybeOk ps me (scan_next s to).proj (scan_next s to).scan
    next_ok s j (Goes x) o k h = job_of ps Nothing s.proj j x o h
    next_ok s j (Learns x) o k h = job_of ps Nothing s.proj j x o h
    next_ok s j (Ends e) o k h = ended_ok s e k

    scan_just : (s : SeqrState) → MaybeOk ps me s.proj s.scan → AllJust ps me (seqr_asks s)
    scan_just s k = by s.scan k
      where
        by : (o : Option CellJob) → MaybeOk ps me s.proj o → AllJust ps me (scan_asks o)
        by None k = none_just ps me
        by (Some j) k = maybe_just ps me s.proj (Some j) k

    fed_fine : (b : Bool) (s t : SeqrState) → MaybeOk ps me s.proj s.scan → (b ≡ true → MaybeOk ps me t.proj t.scan) → ScanFine (fed_if b s t)
    fed_fine true s t k h = record { ok = h refl; sends = λ o g. scan_just t (h refl) o (has_filter _ (seqr_asks t) o g) }
    fed_fine false s t k h = record { ok = k; sends = none_just ps me }

    scan_fed_fine : (s : SeqrState) (j : Option CellJob) (x : Packet) → s.scan ≡ j → MaybeOk ps me s.proj s.scan → HeardUnit ps me x.from x.rid x.msg (seqr_asks s) → ScanFine (scan_fed s j x.from x.rid x.msg)
    scan_fed_fine s None x e k g = record { ok = k; sends = none_just ps me }
    scan_fed_fine s (Some j) x e k g = fed_fine _ s (scan_turn s (cell_feed j x.from.num (reply x.msg) s.rids)) k (λ a.
        let o : JobOk ps Nothing s.proj j = subst (λ (i : Option CellJob). MaybeOk ps me s.proj i) e k in
        next_ok (record s { rids = (cell_feed j x.from.num (reply x.msg) s.rids).next }) j (cell_feed j x.from.num (reply x.msg) s.rids).to o k
        (cell_ok ps Nothing s.proj j x.msg o (maybe_claims ps me x.from x.rid x.msg s.proj (Some j) a (subst (λ (i : Option CellJob). HeardUnit ps me x.from x.rid x.msg (scan_asks i)) e g)) x.from.num s.rids))

    -- an answer changes nothing of the scan
    answer_fine : (s t : SeqrState) (to : NodeId) (rid : ℕ) (x : Msg) → t.proj ≡ s.proj → t.scan ≡ s.scan → Justified ps me to x → MaybeOk ps me s.proj s.scan → ScanFine (record { now = t; sends = record { to = to; rid = rid; msg = x } ∷ [] })
    answer_fine s t to rid x e f j k = record {
      ok = subst (λ (p : Layout). MaybeOk ps me p t.scan) (sym e) (subst (λ (o : Option CellJob). MaybeOk ps me s.proj o) (sym f) k);
      sends = one_just ps me to rid x j;
    }

    stand_just : (to : NodeId) (s : SeqrState) (ls : List StreamLink) (b : Bool) → Justified ps me to (stand_answer s ls b)
    stand_just to s ls true = tt
    stand_just to s ls false = tt

    begun_fine : (s : SeqrState) (q : Layout) (from : NodeId) (rid : ℕ) → ScanFine (learns s (begun s q) from rid)
    begun_fine s q from rid = record { ok = ok; sends = both_just ps me (record { to = from; rid = rid; msg = stand_answer (begun s q) [] (scanning (begun s q)) } ∷ []) _ (one_just ps me from rid _ (stand_just from (begun s q) [] _)) (λ o h. scan_just (begun s q) ok o (has_filter _ (seqr_asks (begun s q)) o h)) }
      where
        ok : MaybeOk ps me (begun s q).proj (begun s q).scan
        ok = scan_on_ok (record s { epoch = q.epoch; proj = q; next = 0; lists = []; fence = None; scan = None }) _

    unfenced_fine : (s : SeqrState) (f : Option ℕ) (from : NodeId) (rid : ℕ) (t : SeqrTurn) → MaybeOk ps me s.proj s.scan → ScanFine t → ScanFine (unfenced f s from rid t)
    unfenced_fine s None from rid t k d = d
    unfenced_fine s (Some e) from rid t k d = answer_fine s s from rid (msg.OldEpoch e) refl refl tt k

    own_fine : (b : Bool) (s : SeqrState) (from : NodeId) (rid : ℕ) (t : SeqrTurn) → MaybeOk ps me s.proj s.scan → ScanFine t → ScanFine (own_epoch b s from rid t)
    own_fine true s from rid t k d = unfenced_fine s s.fence from rid t k d
    own_fine false s from rid t k d = answer_fine s s from rid (msg.OldEpoch s.epoch) refl refl tt k

    learn_fine : (s : SeqrState) (q : Layout) (from : NodeId) (rid : ℕ) (b : Bool) → MaybeOk ps me s.proj s.scan → ScanFine (on_learn s q from rid b)
    learn_fine s q from rid true k = begun_fine s q from rid
    learn_fine s q from rid false k = unfenced_fine s s.fence from rid _ k (answer_fine s s from rid _ refl refl (stand_just from s [] _) k)

    learn_or_fine : (s : SeqrState) (q : Layout) (from : NodeId) (rid : ℕ) (b : Bool) → MaybeOk ps me s.proj s.scan → ScanFine (learn_or_old s q from rid b)
    learn_or_fine s q from rid true k = answer_fine s s from rid (msg.OldEpoch s.epoch) refl refl tt k
    learn_or_fine s q from rid false k = learn_fine s q from rid _ k

    issue_fine : (s : SeqrState) (os : List Oid) (from : NodeId) (rid : ℕ) (b : Bool) → MaybeOk ps me s.proj s.scan → ScanFine (issue s os from rid b)
    issue_fine s os from rid true k = answer_fine s s from rid (msg.Full s.limit) refl refl tt k
    issue_fine s os from rid false k = answer_fine s (issued s os) from rid (msg.Issued s.next (links_of s.lists os)) refl refl tt k

    token_fine : (s : SeqrState) (os : List Oid) (from : NodeId) (rid : ℕ) (b : Bool) → MaybeOk ps me s.proj s.scan → ScanFine (on_token s os from rid b)
    token_fine s os from rid true k = answer_fine s s from rid (msg.Scanning s.next s.proj.start) refl refl tt k
    token_fine s os from rid false k = issue_fine s os from rid _ k

    step_fine : (s : SeqrState) (x : Packet) (y : Msg) → x.msg ≡ y → MaybeOk ps me s.proj s.scan → HeardUnit ps me x.from x.rid x.msg (seqr_asks s) → ScanFine (seqr_step s x.from x.rid y)
    unfolding seqr_step
    step_fine s x (msg.Learn q) e k g = learn_or_fine s q x.from x.rid _ k
    step_fine s x (msg.Token f os) e k g = own_fine _ s x.from x.rid _ k (token_fine s os x.from x.rid _ k)
    step_fine s x (msg.Check f os) e k g = own_fine _ s x.from x.rid _ k (answer_fine s s x.from x.rid _ refl refl (stand_just x.from s (links_of s.lists os) _) k)
    step_fine s x y e k g = subst (λ (z : Msg). ScanFine (scan_fed s s.scan x.from x.rid z)) e (scan_fed_fine s s.scan x refl k g)

  -- Over worlds.

  pub record Pages (c : Config m) : Type 0 where
    pub hands : (k : ℕ) → hands.WorkOk m c.packets (client_id k) (client_in m c k).stand (client_in m c k).work
    pub scans : (s : ℕ) → MaybeOk c.packets (seqr_id s) (seqr_in m c s).proj (seqr_in m c s).scan
    pub sent : (x : Packet) → Has c.packets x → Justified c.packets x.from x.to x.msg

  pub record Low (c : Config m) : Type 0 where
    pub all : All m c
    pub issuing : Issuing m c
    pub stores : stores.Owned m c

  work_grows : (ps qs : List Packet) → ((x : Packet) → Has ps x → Has qs x) → (me : NodeId) (p : Layout) (w : Option (Work m)) → hands.WorkOk m ps me p w → hands.WorkOk m qs me p w
  work_grows ps qs more me p None k = tt
  work_grows ps qs more me p (Some w) k = by w.hand k
    where
      by : (h : Hand m) → HandOk m ps me p h → HandOk m qs me p h
      by (Doing t) k = task_grows m ps qs more me p t k
      by (Learning ws t) k = tt

  -- some more packets, each justified
  more_sent : (ps new : List Packet) → ((x : Packet) → Has ps x → Justified ps x.from x.to x.msg) → ((x : Packet) → Has new x → Justified ps x.from x.to x.msg) → (x : Packet) → Has (ps ++ new) x → Justified (ps ++ new) x.from x.to x.msg
  more_sent ps new old fresh x h = just_grows ps (ps ++ new) (λ y g. has_left ps new y g) x.from x.to x.msg (by (has_either ps new x h))
    where
      by : Has ps x ⊎ Has new x → Justified ps x.from x.to x.msg
      by (inl y) = old x y
      by (inr y) = fresh x y

  -- an answer asks for nothing
  answer_just : (ps : List Packet) (me to : NodeId) (x : Msg) → is_request x ≡ false → Justified ps me to x
  unfolding is_request
  answer_just ps me to (msg.Write e p d) h = absurd (cc)
  answer_just ps me to (msg.Copy e p c) h = absurd (cc)
  answer_just ps me to x h = tt

  said_just : (ps : List Packet) (p : Packet) (o : Option Msg) → ((y : Msg) → o ≡ Some y → is_request y ≡ false) → (x : Packet) → Has (answer_to m p o) x → Justified ps x.from x.to x.msg
  said_just ps p None f x h = absurd h
  said_just ps p (Some y) f x (inl e) = subst (λ (z : Packet). Justified ps z.from z.to z.msg) (sym e) (answer_just ps p.to p.from y (f y refl))
  said_just ps p (Some y) f x (inr h) = absurd h

  outs_just : (ps : List Packet) (n : NodeId) (os : List Out) → AllJust ps n os → (x : Packet) → Has (map (packet_of m n) os) x → Justified ps x.from x.to x.msg
  outs_just ps n os f x h = let i = has_map (packet_of m n) os x h in subst (λ (z : Packet). Justified ps z.from z.to z.msg) (sym i.is) (f i.of i.has)

  -- others send
  still : (c : Config m) (new : List Packet) → Pages c → ((x : Packet) → Has new x → Justified c.packets x.from x.to x.msg) → (d : Config m) → d.packets ≡ c.packets ++ new → d.clients ≡ c.clients → d.seqrs ≡ c.seqrs → d.cluster ≡ c.cluster → Pages d
  still c new h fresh d e f g i = subst Pages (λ j. record { cluster = sym i j; units = d.units; layouts = d.layouts; seqrs = sym g j; clients = sym f j; packets = sym e j }) (record {
    hands = λ k. work_grows c.packets _ more _ _ _ (h.hands k);
    scans = λ s. maybe_grows c.packets _ more (seqr_id s) _ _ (h.scans s);
    sent = more_sent c.packets new h.sent fresh;
  })
    where
      more : (x : Packet) → Has c.packets x → Has (c.packets ++ new) x
      more x y = has_left c.packets new x y

  module _ (c : Config m) (low : Low c) (h : Pages c) where
    abbrev ps : List Packet
    ps = c.packets

    -- a cell that is stored for a request is an own page's
    pub own_stored : (x : Packet) (y : Msg) (k : Claim) → x.msg ≡ y → Has ps x → Justified ps x.from x.to y → claimed (unit_ask y) msg.Held ≡ Some k → OwnCell ps k.pos k.cell
    unfolding claimed unit_ask
    own_stored x (msg.Write e p d) k i g j s = subst (λ (l : Claim). OwnCell ps l.pos l.cell) (some_claim _ k s) (record { packet = x; sent = g; epoch = e; is = i })
    own_stored x (msg.Copy e p c) k i g j s = subst (λ (l : Claim). OwnCell ps l.pos l.cell) (some_claim _ k s) j
    own_stored x (msg.Fill e p) k i g j s = subst (λ (l : Claim). OwnCell ps l.pos l.cell) (some_claim _ k s) tt
    own_stored x y k i g j s = absurd (cc)

    own_told : (u : ℕ) (k : Claim) → Tells ps u k → OwnCell ps k.pos k.cell
    own_told u k t =
        let s = low.stores.tells u k t in
        let same = low.all.1.once u s.claim k s.told t s.at in
        subst (λ (c : Cell). OwnCell ps k.pos c) same (subst (λ (p : ℕ). OwnCell ps p s.claim.cell) s.at (own_stored s.ask s.ask.msg s.claim refl s.asked (h.sent s.ask s.asked) s.stores))

    -- what a client hears of a sequencer and of units
    pub issued_to : (k : ℕ) (x : Packet) → Comes m c x (client_id k) → (o : Out) → Has (reserved m (client_in m c k)) o → o.to ≡ x.from → o.rid ≡ x.rid → (s : ℕ) → x.from ≡ seqr_id s → (pos : ℕ) (ls : List StreamLink) → x.msg ≡ msg.Issued pos ls → Pair ps (client_id k) s o.msg pos ls
    issued_to k x comes o g to number s from pos ls is =
        let a = (low.issuing.ours s x pos ls comes.sent from is).asked in
        record {
          ask = a.ask;
          answer = x;
          asked = a.has;
          answered = comes.sent;
          by = a.from ∙ comes.to_node;
          to_seqr = a.to ∙ from;
          from_seqr = from;
          back = comes.to_node;
          number = sym a.rid;
          asks = sym ((low.all.0.0.clients k).agree o a.ask g a.has (a.from ∙ comes.to_node) (token_asks _ _ _ a.is) (number ∙ sym a.rid) (to ∙ sym a.to));
          issues = is;
        }

    heard_of : (k : ℕ) (x : Packet) → Comes m c x (client_id k) → Heard ps (client_id k) x.from x.rid x.msg (reserved m (client_in m c k))
    heard_of k x comes = (issued_to k x comes, λ o g to number u from l is. own_told u l ((heard m c low.all.0.0 low.all.0.1 k u o x g comes.sent comes.to_node from to number).tells l is))

    scan_heard : (s : ℕ) (x : Packet) → Comes m c x (seqr_id s) → HeardUnit ps (seqr_id s) x.from x.rid x.msg (seqr_asks (seqr_in m c s))
    scan_heard s x comes o g to number u from l is = own_told u l (scan_told m c low.all.0.0 low.all.0.1 s u o x g comes.sent comes.to_node from to number l is)

    pub input_fine : (k : ℕ) (t : ClientTurn m) → ClientInput m c k t → TurnFine ps (client_id k) t
    input_fine k t (Commanded x) = command_fine ps (client_id k) (client_in m c k) x (h.hands k)
    input_fine k t (Hears' x comes) = deliver_fine ps (client_id k) (client_in m c k) x (h.hands k) (heard_of k x comes)
    input_fine k t Ticks' = tick_fine ps (client_id k) (client_in m c k) (h.hands k)

    scan_fine : (s : ℕ) (t : SeqrTurn) → SeqrInput m c s t → ScanFine ps (seqr_id s) t
    unfolding seqr_tick
    scan_fine s t (Hears x comes) = step_fine ps (seqr_id s) (seqr_in m c s) x x.msg refl (h.scans s) (scan_heard s x comes)
    scan_fine s t Ticks = record { ok = h.scans s; sends = scan_just ps (seqr_id s) (seqr_in m c s) (h.scans s) }

    -- a sequencer sends no page: it knows nothing of itself that a unit wouldn't, and units ask for nothing
    for_unit : (p : Layout) (n : NodeId) (o : Option CellJob) → MaybeOk ps n p o → MaybeOk ps (unit_id 0) p o
    for_unit p n None k = tt
    for_unit p n (Some j) k = k

    scan_for_unit : (s : ℕ) (t : SeqrTurn) → SeqrInput m c s t → ScanFine ps (unit_id 0) t
    unfolding seqr_tick
    scan_for_unit s t (Hears x comes) = step_fine ps (unit_id 0) (seqr_in m c s) x x.msg refl (for_unit (seqr_in m c s).proj (seqr_id s) (seqr_in m c s).scan (h.scans s)) (scan_heard s x comes)
    scan_for_unit s t Ticks =
        let k = for_unit (seqr_in m c s).proj (seqr_id s) (seqr_in m c s).scan (h.scans s) in
        record { ok = k; sends = scan_just ps (unit_id 0) (seqr_in m c s) k }

    pub seqr_puts : (s : ℕ) (t : SeqrTurn) → SeqrInput m c s t → (o : Out) → Has t.sends o → (e pos : ℕ) (d : List ℕ) → o.msg ≡ msg.Write e pos d → ⊥
    unfolding is_request
    seqr_puts s t i o g e pos d is =
        let k = subst (λ (y : Msg). Justified ps (unit_id 0) o.to y) is ((scan_for_unit s t i).sends o g) in
        no (sym (ap is_request k.pair.asks) ∙ low.all.0.0.units k.pair.ask k.pair.asked (ap (λ (n : NodeId). n.role) k.pair.by))
      where
        no : true ≡ false → ⊥
        no f = cc

    by_client' : (k : ℕ) (t : ClientTurn m) → ClientInput m c k t → k < length c.clients → Pages (client_turn m c k t)
    by_client' k t i less =
        let f = input_fine k t i in
        let new = map (packet_of m (client_id k)) t.sends in
        record {
          hands = at_set c.clients k t.now (new_client m c.cluster) (λ j x. hands.WorkOk m (ps ++ new) (client_id j) x.stand x.work) less (work_grows ps _ (λ x y. has_left ps new x y) _ _ _ f.ok) (λ j other. work_grows ps _ (λ x y. has_left ps new x y) _ _ _ (h.hands j));
          scans = λ s. maybe_grows ps _ (λ x y. has_left ps new x y) (seqr_id s) _ _ (h.scans s);
          sent = more_sent ps new h.sent (outs_just ps (client_id k) t.sends f.sends);
        }

    by_seqr' : (s : ℕ) (t : SeqrTurn) → SeqrInput m c s t → s < length c.seqrs → Pages (seqr_turn m c s t)
    by_seqr' s t i less =
        let f = scan_fine s t i in
        let new = map (packet_of m (seqr_id s)) t.sends in
        record {
          hands = λ k. work_grows ps _ (λ x y. has_left ps new x y) _ _ _ (h.hands k);
          scans = at_set c.seqrs s t.now (λ j. new_seqr j c.cluster.limit (first_layout c.cluster)) (λ j x. MaybeOk (ps ++ new) (seqr_id j) x.proj x.scan) less (maybe_grows ps _ (λ x y. has_left ps new x y) (seqr_id s) _ _ f.ok) (λ j other. maybe_grows ps _ (λ x y. has_left ps new x y) (seqr_id j) _ _ (h.scans j));
          sent = more_sent ps new h.sent (outs_just ps (seqr_id s) t.sends f.sends);
        }

    pub pages_keep : Cases m c Pages
    pages_keep = record {
      idle = h;
      unit = λ u p a less. still c (answer_to m p (turn_on m c u p).says) h (said_just ps p _ (λ y e. says_answer _ p.msg y e)) _ refl refl refl refl;
      layout = λ l p a less. still c (answer_to m p (layout_step (layout_in m c l) p.msg).says) h (said_just ps p _ (λ y e. layout_answer _ p.msg y e)) _ refl refl refl refl;
      seqr = by_seqr';
      client = by_client';
    }
