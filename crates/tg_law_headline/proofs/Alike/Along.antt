-- Along a run: what each client's work has been told since its command began, and so what each reply speaks of, by the packets
-- of the world to which the run comes.
use Rattle.std.proofs.Common.{[], ◌≡◌, ◌⊎◌, ℕ, ◌+◌, ◌<◌, ◌≤◌, List, ◌∷◌, ◌++◌, map, refl, sym, ap, ◌∙◌, subst, inl, inr, arith, Option, Some, None}
use Rattle.tg_base.specs.Layouts.{Layout}
use Rattle.tg_base.specs.Clusters.{Header}
use Rattle.tg_base.specs.declared.ids.NodeId.{NodeId}
use Rattle.tg_base.specs.declared.ids.Oid.{Oid}
use Rattle.tg_base.specs.declared.msg.Msg.{Msg}
use Rattle.tg_base.specs.declared.msg.Msg.TheVariants as msg
use Rattle.tg_base.specs.declared.packet.Out.{Out}
use Rattle.tg_base.specs.declared.packet.Packet.{Packet}
use Rattle.tg_kind.specs.Meaning.{Meaning}
use Rattle.tg_model.specs.declared.trace.What.TheVariants as told
use Rattle.tg_model.specs.Kinds.{EventOf, WhatOf, NoteOf}
use Rattle.tg_model.specs.Traces.{Trace, Tells}
use Rattle.tg_protocol.specs.Words.{unit_id, client_id, directory}
use Rattle.tg_protocol.specs.Layouts.{first_layout}
use Rattle.tg_protocol.specs.Requests.{Waits}
use Rattle.tg_protocol.specs.Views.{Entries}
use Rattle.tg_protocol.specs.Replies.{reply, IsLatest}
use Rattle.tg_protocol.specs.Reconfiguring.{ReconfWork, Telling, Reconf}
use Rattle.tg_protocol.specs.Clients.{Task, Syncing, Walking, Appending, Trimming, Copying', Reconfiguring, Hand, Doing, Work, Client, new_client, refusal}
use Rattle.tg_protocol.specs.Answers.{note}
use Rattle.tg_protocol.specs.ClientSteps.{ClientTurn, task_in, task_awaited, client_command, client_deliver, client_tick, tick_by}
use Rattle.tg_protocol.specs.Worlds.{CommandStart, World, Told, start, client, trace}
use Rattle.tg_protocol.specs.Chosen.{IsDecided}
use Rattle.tg_protocol.specs.Runs.{Moves, Takes, Reaches}
use Rattle.tg_law_layouts.specs.Moves.After.{after}
use Rattle.tg_law_layouts.specs.Moves.Configs.{config}
use Rattle.tg_law_layouts.proofs.Moves.Lists.{contained}
use Rattle.tg_law_layouts.proofs.Moves.Members.{Has, has_map}
use Rattle.tg_law_layouts.proofs.Moves.Moves.{ClientInput, Commanded, Hears', Ticks', run_keeps}
use Rattle.tg_law_layouts.proofs.Moves.Clients.{reserved, hand_reserved, work_reserved}
use Rattle.tg_law_layouts.proofs.Moves.Turns.{not_busy, command_draws, deliver_draws, tick_draws}
use Rattle.tg_law_layouts.proofs.Requests.Starts.{All, all_keeps, start_all}
use Rattle.tg_law_layouts.proofs.Layouts.Pax.{task_reconf, reconf_of, HandOk}
use Rattle.tg_law_layouts.proofs.Layouts.Phases.{told_epoch}
use Rattle.tg_law_layouts.proofs.Layouts.Tellings.{WorkKnown}
use Rattle.tg_law_layouts.proofs.Layouts.Known.{ReconfKnown}
use Rattle.tg_law_layouts.proofs.Layouts.Standing.{IsKnown}
use Rattle.tg_law_layouts.proofs.Layouts.Decided.{lay_holds}
use Rattle.tg_law_layouts.specs.Layouts.Decisions.{TellsDecided}
use Rattle.tg_law_layouts.proofs.Layouts.Decisions.{Pax, pax_keep}
use Rattle.tg_law_layouts.proofs.Layouts.Layouts.{start_pax, stays_sent}
use Rattle.tg_law_layouts.proofs.Layouts.Deciding.{layouts_are_known, decided_stays}
use Rattle.tg_law_syncs.proofs.Timely.Standing.{turn_rises}
use Rattle.tg_law_walks.proofs.Lists.Reached.{before_reached, goes_later}
use Rattle.tg_law_replies.specs.History.Worlds.{entries_in}
use Rattle.tg_law_replies.specs.Replies.Runs.{InEachStep}
use Rattle.tg_law_replies.specs.Replies.Steps.{EachDelivery, EachEvent}
use Rattle.tg_law_replies.proofs.Books.Turns.{tells_on}
use Rattle.tg_law_replies.proofs.Books.Worlds.{run_both, WorldBook, run_book, start_book, run_grows}
use Rattle.tg_law_headline.proofs.Alike.Refusals.{fine_refusal}
use Rattle.tg_law_headline.proofs.Alike.Reconfs.{News}
use Rattle.tg_law_headline.proofs.Alike.Bounds.{decided_near}
use Rattle.tg_law_headline.proofs.Alike.Since.{SeesFloor, SayOk, AllSay, Each, Marking, Held, WorkHeld, TaskFits, WorkFits, feed_good, command_good, work_on}
use Rattle.tg_law_headline.proofs.Alike.Speaks.{Delivered, From, told_of}
use Rattle.tg_law_headline.proofs.Alike.Marks.{MarksTold, none_marked, more_marked, un_marked, pair_marked, put_told}
use Rattle.tg_law_headline.proofs.Alike.Running.{AllSay as EachSay, none_say, both_say, notes_say, starts_at, end_state as run_end}

is_latest : (y : Msg) (q : Layout) → reply y ≡ IsLatest q → y ≡ msg.Latest q
unfolding reply
is_latest y q h = grind arith

module _ (m : Meaning) (h : Header) (ms : Moves m) (r : Reaches m h ms (after m h ms)) where
  abbrev pub end : World m
  end = after m h ms

  -- what a client got, and what it asked, by the end
  abbrev pub Got : ℕ → NodeId → ℕ → Msg → Type 0
  Got k from rid y = Has end.packets (record { from = from; to = client_id k; rid = rid; msg = y })

  abbrev pub AskSent : ℕ → NodeId → ℕ → Msg → Type 0
  AskSent k to rid y = Has end.packets (record { from = client_id k; to = to; rid = rid; msg = y })

  abbrev pub Known : Layout → Type 0
  Known q = IsDecided m end q.epoch q

  -- a mark, of which more is told
  abbrev pub IsMark : WhatOf m → Type 0
  IsMark (told.Marked o j) = Unit {0}
  IsMark what = ⊥

  -- the entries of the log to which the run comes
  abbrev pub es : Entries
  es = entries_in m end

  -- Where walks end a client that trims sees a floor.
  module _ (Floor : ℕ → ℕ → Type 0) (sees : InEachStep m h ms (λ before u e. EachEvent m h.objects es (SeesFloor m Floor) u e)) where
    abbrev pub Says : Told m → Type 0
    Says t = SayOk m (Got t.mark.client) (AskSent t.mark.client) t.noted.next t.noted.epoch t.mark.client Known Floor h.objects es t.mark.what ⊎ IsMark t.mark.what

    abbrev HeldBy : CommandStart → ℕ → Client m → Type 0
    HeldBy s k c = Held m (Got k) (AskSent k) s.next s.epoch k Known Floor h.objects es c

    record Kept (s : CommandStart) (k : ℕ) (c : Client m) : Type 0 where
      next : s.next ≤ c.next
      epoch : s.epoch ≤ c.stand.epoch
      held : HeldBy s k c

    -- A step at a world of the run.

    module _ (xs ys : Moves m) (split : ms ≡ xs ++ ys) where
      abbrev w : World m
      w = after m h xs

      reached : Reaches m h xs (after m h xs)
      reached = before_reached m h ms r xs ys split

      sent : (p : Packet) → Has w.packets p → Has end.packets p
      sent p i = subst (λ (v : World m). Has v.packets p) (sym (ap (λ (zs : Moves m). after m h zs) split ∙ run_both m xs ys (start m h))) (stays_sent m ys w p i)

      decided : (q : Layout) → IsDecided m w q.epoch q → Known q
      decided q d = (decided_stays m h xs w end reached (goes_later m h ms r xs ys split)).stays q.epoch q d

      books : WorldBook m (after m h xs)
      books = run_book m xs (start m h) (start_book m h)

      -- what was told by then stays told
      at_end : (k x : ℕ) (what : WhatOf m) → Tells m (trace m w) k x what → Tells m (trace m end) k x what
      at_end k x what y =
          let g = run_grows m ys w books in
          subst (λ (tr : Trace m). Tells m tr k x what) (sym (ap (λ (v : World m). trace m v) (ap (λ (zs : Moves m). after m h zs) split ∙ run_both m xs ys (start m h)) ∙ g.1)) (tells_on m (trace m w) g.0 k x what y)

      pax : Pax m (config m (after m h xs))
      pax = run_keeps m (Pax m) (pax_keep m) xs (start m h) (start_pax m h)

      all : All m (config m (after m h xs))
      all = run_keeps m (All m) (all_keeps m) xs (start m h) (start_all m h)

      -- a layout past the first that is known by then
      decided_of : (q : Layout) → 1 < q.epoch → IsKnown w.cluster.layouts (first_layout w.cluster) w.packets q → Known q
      decided_of q past (inl e) = let z = ap (λ (p : Layout). p.epoch) e in absurd (omega (arith, z, past))
      decided_of q past (inr v) = decided q (inr (past, record { ballot = v.ballot; proposal = v.proposed.packet; sent = contained w.packets v.proposed.packet v.proposed.sent; proposes = v.proposed.is; accepted = v.most }))

      module _ (n : ℕ) (s : CommandStart) (kept : Kept s n (client m w n)) where
        abbrev c : Client m
        c = client m w n

        stand : Known c.stand
        stand = decided c.stand ((layouts_are_known m h xs w reached).clients n)

        -- epochs begin with 1
        positive_epoch : (q : Layout) → Known q → 0 < q.epoch
        positive_epoch q (inl d) = let z = d.0 in omega (arith, z)
        positive_epoch q (inr d) = let less = d.0 in omega (arith, less)

        -- what it tells the layout servers is decided
        tells_known : (z : Reconf) → reconf_of m c.work ≡ Some z → told_epoch z.work (z.stand.epoch + 1) ≡ z.stand.epoch + 1 → Known z.stand → (ws : Waits) (i : ℕ) (q : Layout) → z.work ≡ Telling ws i q → Known q
        unfolding told_epoch
        tells_known z has told at ws i q is =
            let first = positive_epoch z.stand at in
            decided_of q (let e = next in omega (arith, e, first))
            (subst (λ (y : ReconfWork). WorkKnown w.cluster.layouts w.packets (IsKnown w.cluster.layouts (first_layout w.cluster) w.packets) z y) is
            (subst (λ (o : Option Reconf). ReconfKnown m w.cluster.layouts w.packets (IsKnown w.cluster.layouts (first_layout w.cluster) w.packets) o) has ((lay_holds m h xs).clients n).hand))
          where
            next : q.epoch ≡ z.stand.epoch + 1
            next = subst (λ (y : ReconfWork). told_epoch y (z.stand.epoch + 1) ≡ z.stand.epoch + 1) is told

        fits : (v : Work m) (t : Task m) → c.work ≡ Some v → task_in m v.hand ≡ t → TaskFits m (Got n) (AskSent n) s.next s.epoch n Known Floor h.objects es c.stand t
        fits v (Reconfiguring z) has is =
            let ok = subst (HandOk m (config m w).cluster.layouts n (config m w).packets c.stand) (ap (λ (z : Option (Work m)). reconf_of m z) has ∙ ap (λ (t : Task m). task_reconf m t) is) (pax.clients n) in
            let at = subst Known (sym ok.stand) stand in
            (record { me_is = ok.ok.me; told = ok.told; stand = at; tells = tells_known z (ap (λ (z : Option (Work m)). reconf_of m z) has ∙ ap (λ (t : Task m). task_reconf m t) is) ok.told at; up = let u = kept.epoch in let e = ap (λ (p : Layout). p.epoch) ok.stand in omega (arith, u, e) }, ok.stand)
        fits v (Syncing z) has is = tt
        fits v (Walking z os) has is = tt
        fits v (Appending a y) has is = tt
        fits v (Trimming z) has is = tt
        fits v (Copying' z) has is = tt

        module _ (p : Packet) (i : Has w.packets p) (to : p.to ≡ client_id n) where
          got : Got n p.from p.rid p.msg
          got = subst (λ (z : NodeId). Has end.packets (record { from = p.from; to = z; rid = p.rid; msg = p.msg })) to (sent p i)

          -- a layout that is told is decided, and the client's own isn't far ahead of it
          hears : (q : Layout) → p.msg ≡ msg.Latest q → News (Got n) s.next s.epoch n Known c.stand q
          hears q is = record {
            known = decided q now;
            near = λ mine. subst (λ (k : ℕ). q.epoch ≤ (client m w k).stand.epoch + 1) mine (decided_near m h xs reached q now);
          }
            where
              now : IsDecided m w q.epoch q
              now = subst (TellsDecided m w) is ((layouts_are_known m h xs w reached).sent p (contained w.packets p i))

          -- what is outstanding is what a unit was asked
          look_sent : (u : ℕ) (o : Out) → Has (reserved m c) o → o.to ≡ unit_id u → o.to ≡ p.from → o.rid ≡ p.rid → AskSent n o.to o.rid o.msg
          look_sent u o has unit at number =
              let a = all.0.1.answered u p i (sym at ∙ unit) in
              let from = a.from ∙ to in
              let same = (all.0.0.clients n).agree o a.ask has a.asked from a.request (number ∙ sym a.rid) (at ∙ sym a.to) in
              same_packet a.ask from (a.to ∙ sym at) (a.rid ∙ sym number) (sym same) (sent a.ask a.asked)
            where
              same_packet : (x : Packet) → x.from ≡ client_id n → x.to ≡ o.to → x.rid ≡ o.rid → x.msg ≡ o.msg → Has end.packets x → AskSent n o.to o.rid o.msg
              same_packet x a b d e g =
                  subst (λ (z : NodeId). Has end.packets (record { from = z; to = o.to; rid = o.rid; msg = o.msg })) a
                  (subst (λ (z : NodeId). Has end.packets (record { from = x.from; to = z; rid = o.rid; msg = o.msg })) b
                  (subst (λ (z : ℕ). Has end.packets (record { from = x.from; to = x.to; rid = z; msg = o.msg })) d
                  (subst (λ (z : Msg). Has end.packets (record { from = x.from; to = x.to; rid = x.rid; msg = z })) e g)))

          kept_out : (v : Work m) (t : Task m) (o : Out) → c.work ≡ Some v → v.hand ≡ Doing t → Has (task_awaited m c.stand t) o → Has (reserved m c) o
          kept_out v t o is e j = subst (λ (z : Option (Work m)). Has (work_reserved m c.stand z) o) (sym is) (subst (λ (d : Hand m). Has (hand_reserved m c.stand d) o) (sym e) j)

          work_fits : (o : Option (Work m)) → c.work ≡ o → WorkFits m (Got n) (AskSent n) s.next s.epoch n Known Floor h.objects es p.from p.rid p.msg got (is_latest p.msg) c o
          work_fits None is = tt
          work_fits (Some v) is = (
            fits v (task_in m v.hand) is refl,
            λ t e. record {
              below = λ o j. (all.0.0.clients n).open' o (kept_out v t o is e j);
              looks = λ u o j unit at number. look_sent u o (kept_out v t o is e j) unit at number;
            },
          )

        ticked : (o : Option (Work m)) → c.work ≡ o → HeldBy s n (tick_by m c o).now × AllSay m (Got n) (AskSent n) s.next s.epoch n Known Floor h.objects es (tick_by m c o).notes
        ticked None is = (kept.held, Each (λ y i. absurd i))
        ticked (Some v) is = (work_on m (Got n) (AskSent n) s.next s.epoch n Known Floor h.objects es c.next (c.next + c.layouts) c.work (omega arith) kept.held, Each (λ y i. absurd i))

        -- what is delivered, as each step sees it
        brought : (x : EventOf m) (p : Packet) → Delivered m w x n p → EachEvent m h.objects es (SeesFloor m Floor) w x
            → EachDelivery m h.objects es (SeesFloor m Floor) c c.work p.from p.rid (reply p.msg)
        brought x p b each =
            subst (λ (k : ℕ). EachDelivery m h.objects es (SeesFloor m Floor) (client m w k) (client m w k).work p.from p.rid (reply p.msg)) b.num
            (subst (λ (y : EventOf m). EachEvent m h.objects es (SeesFloor m Floor) w y) b.event each p b.got b.of_client b.on)

        turn_good : (x : EventOf m) → EachEvent m h.objects es (SeesFloor m Floor) w x → (t : ClientTurn m) → (i : ClientInput m (config m w) n t) → From m w x n t i → HeldBy s n t.now × AllSay m (Got n) (AskSent n) s.next s.epoch n Known Floor h.objects es t.notes
        unfolding client_command client_deliver client_tick
        turn_good y each t (Commanded x) b = let g = command_good m (Got n) (AskSent n) s.next s.epoch n Known Floor h.objects es c x (refusal m c x) (not_busy m c x) (fine_refusal m c x) kept.next kept.held in (g.held, g.says)
        turn_good y each t (Hears' p comes) b =
            let g = feed_good m (Got n) (AskSent n) s.next s.epoch n Known Floor h.objects es p.from p.rid p.msg (got p comes.sent comes.to_node) (is_latest p.msg) c c.work refl kept.next stand kept.epoch (hears p comes.sent comes.to_node) kept.held (work_fits p comes.sent comes.to_node c.work refl) (brought y p b each) in
            (g.held, g.says)
        turn_good y each t Ticks' b = ticked c.work refl

        up : (t : ClientTurn m) → ClientInput m (config m w) n t → c.next ≤ t.now.next
        up t (Commanded x) = (command_draws m c x).is.up
        up t (Hears' p comes) = (deliver_draws m c p.from p.rid p.msg).is.up
        up t Ticks' = (tick_draws m c).is.up

        now_kept : (x : EventOf m) → EachEvent m h.objects es (SeesFloor m Floor) w x → (t : ClientTurn m) → (i : ClientInput m (config m w) n t) → From m w x n t i → Kept s n t.now
        now_kept x each t i b = record {
          next = let a = kept.next in let y = up t i in omega (arith, a, y);
          epoch = let a = kept.epoch in let y = turn_rises m (config m w) pax n t i in omega (arith, a, y);
          held = (turn_good x each t i b).0;
        }

      note_says : (n : ℕ) (s : CommandStart) (ns : List (NoteOf m)) → AllSay m (Got n) (AskSent n) s.next s.epoch n Known Floor h.objects es ns → (y : NoteOf m) → Has ns y → Says (told_of m w n s y)
      note_says n s ns (Each each) y j = inl (each y j)
      note_says n s ns (Marking z o k p positive) y (inl e) = subst (λ (u : NoteOf m). Says (told_of m w n s u)) (sym e) (inl tt)
      note_says n s ns (Marking z o k p positive) y (inr (inl e)) = subst (λ (u : NoteOf m). Says (told_of m w n s u)) (sym e) (inr tt)
      note_says n s ns (Marking z o k p positive) y (inr (inr j)) = absurd j

      marks_of : (n : ℕ) (s : CommandStart) (t : ClientTurn m) → ClientInput m (config m w) n t → (ns : List (NoteOf m)) → t.notes ≡ ns → AllSay m (Got n) (AskSent n) s.next s.epoch n Known Floor h.objects es ns → MarksTold m (trace m end) (map (told_of m w n s) ns)
      marks_of n s t i ns is (Each each) = un_marked m (trace m end) (map (told_of m w n s) ns) none
        where
          none : (y : Told m) (o : Oid) (k : ℕ) → Has (map (told_of m w n s) ns) y → y.mark.what ≡ told.Marked o k → ⊥
          none y o k j e = let z = has_map (told_of m w n s) ns y j in
              subst (SayOk m (Got n) (AskSent n) s.next s.epoch n Known Floor h.objects es) (sym (ap (λ (u : Told m). u.mark.what) z.is) ∙ e) (each z.of z.has)
      marks_of n s t i ns is (Marking z o k p positive) =
          pair_marked m (trace m end) (told_of m w n s (note m z (told.Committed p))) (told_of m w n s (note m 0 (told.Marked o k))) p o k refl refl refl (at_end n z (told.Put directory (m.mark_op o k)) (put_told m w books n z o k p positive t i is))

    -- The start.

    new_kept : (k j : ℕ) → Kept (record { next = 1; epoch = 1; upto = 0 }) k (new_client m h j)
    unfolding new_client
    new_kept k j = record { next = omega arith; epoch = omega arith; held = tt }

    begins : (s : CommandStart) (k : ℕ) (c : Client m) → c.work ≡ None → Kept s k c → Kept (starts_at m c) k c
    begins s k c idle kept = record {
      next = omega arith;
      epoch = omega arith;
      held = subst (WorkHeld m (Got k) (AskSent k) c.next c.stand.epoch k Known Floor h.objects es c.next) (sym idle) tt;
    }

    -- what is so of each turn whose replies say so is of all that is told
    pub all_by : (Tells : List (Told m) → Type 0) → Tells [] → ((ts us : List (Told m)) → Tells ts → Tells us → Tells (ts ++ us))
        → ((xs : Moves m) (e : EventOf m) (ys : Moves m) → ms ≡ xs ++ Takes e ∷ ys → (n : ℕ) (s : CommandStart) (t : ClientTurn m) → ClientInput m (config m (after m h xs)) n t
        → AllSay m (Got n) (AskSent n) s.next s.epoch n Known Floor h.objects es t.notes → Tells (map (told_of m (after m h xs) n s) t.notes)) → Tells end.told
    all_by Tells none both turns = (run_end m h ms Kept Tells none both new_kept begins (λ xs e ys split n s kept t i f told' now.
        let each = sees xs ys e split in
        (now_kept xs (Takes e ∷ ys) split n s kept e each t i f, turns xs e ys split n s t i (turn_good xs (Takes e ∷ ys) split n s kept e each t i f).1))).told

    pub all_say : (t : Told m) → Has end.told t → Says t
    all_say = all_by (EachSay m Says) (none_say m Says) (both_say m Says) (λ xs e ys split n s t i says. notes_say m Says (told_of m (after m h xs) n s) t.notes (note_says xs (Takes e ∷ ys) split n s t.notes says))

    pub all_marked : MarksTold m (trace m end) end.told
    all_marked = all_by (MarksTold m (trace m end)) (none_marked m (trace m end)) (λ ts us a b. more_marked m (trace m end) ts us a b) (λ xs e ys split n s t i says. marks_of xs (Takes e ∷ ys) split n s t i t.notes refl says)
