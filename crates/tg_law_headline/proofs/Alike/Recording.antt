-- Along a run: a record that a reply tells decided has its decision record, or what its client was told since says why there is
-- none.
use Rattle.std.proofs.Common.{◌≡◌, ◌⊎◌, ℕ, suc, ◌+◌, ◌≤◌, List, [], ◌∷◌, ◌++◌, map, length, Bool, true, refl, sym, ap, ◌∙◌, subst, inl, inr, arith, Option, Some, None, Contains}
use Rattle.std.specs.Prelude.{◌==◌}
use Rattle.tg_base.specs.Clusters.{Header}
use Rattle.tg_base.specs.declared.ids.NodeId.{NodeId}
use Rattle.tg_base.specs.declared.ids.Oid.{Oid}
use Rattle.tg_base.specs.declared.msg.Msg.{Msg}
use Rattle.tg_base.specs.declared.msg.Msg.TheVariants as msg
use Rattle.tg_base.specs.declared.packet.Out.{Out}
use Rattle.tg_base.specs.declared.packet.Packet.{Packet}
use Rattle.tg_entry.specs.declared.entry.Entry.{Entry}
use Rattle.tg_entry.specs.declared.entry.WriteOp.{WriteOp}
use Rattle.tg_kind.specs.Meaning.{Meaning}
use Rattle.tg_model.specs.declared.command.Command.TheVariants as cmd
use Rattle.tg_model.specs.declared.command.Event.TheVariants.{Deliver}
use Rattle.tg_model.specs.declared.refusal.Refusal.{Refusal}
use Rattle.tg_model.specs.declared.trace.What.TheVariants as told
use Rattle.tg_model.specs.Kinds.{CommandOf, EventOf, MarkOf, NoteOf, WhatOf}
use Rattle.tg_model.specs.Traces.{Trace, puts_of}
use Rattle.tg_protocol.specs.Words.{client_id}
use Rattle.tg_protocol.specs.Replies.{reply}
use Rattle.tg_protocol.specs.Views.{Entries, View}
use Rattle.tg_protocol.specs.Transactions.{Tx}
use Rattle.tg_protocol.specs.Clients.{Task, Hand, Doing, Work, Client, new_client, refusal, write_of}
use Rattle.tg_protocol.specs.Answers.{note}
use Rattle.tg_protocol.specs.ClientSteps as step
use Rattle.tg_protocol.specs.ClientSteps.{ClientTurn, task_awaited, snapshot_or, end_by, accepts, refused_or, given, client_command, client_deliver, client_tick, tick_by}
use Rattle.tg_protocol.specs.Worlds.{CommandStart, World, Told, start, client, happens, trace}
use Rattle.tg_protocol.specs.Runs.{Moves, Takes, Reaches, run}
use Rattle.tg_protocol.specs.Holding.{append_by, RecordsOwn}
use Rattle.tg_protocol.specs.Alike.{SentTo, SentNow, HasDecision, MetEnd, MetTrim, Recorded, MetEndNow, MetTrimNow, RecordedNow}
use Rattle.tg_law_layouts.specs.Moves.After.{after}
use Rattle.tg_law_layouts.specs.Moves.Configs.{config}
use Rattle.tg_law_layouts.proofs.Moves.Lists.{contained}
use Rattle.tg_law_layouts.proofs.Moves.Members.{Has, has_contained}
use Rattle.tg_law_layouts.proofs.Moves.Moves.{ClientInput, Commanded, Hears', Ticks', run_keeps}
use Rattle.tg_law_layouts.proofs.Moves.Clients.{reserved, hand_reserved, work_reserved}
use Rattle.tg_law_layouts.proofs.Moves.Turns.{not_busy, command_draws, deliver_draws, tick_draws}
use Rattle.tg_law_layouts.proofs.Requests.Starts.{All, all_keeps, start_all}
use Rattle.tg_law_layouts.proofs.Layouts.Layouts.{stays_sent}
use Rattle.tg_law_replies.specs.Plays.Sound.{IsRising}
use Rattle.tg_law_replies.specs.History.Worlds.{entries_in}
use Rattle.tg_law_replies.specs.Views.Exact.{DecisionStands}
use Rattle.tg_law_replies.specs.Replies.Ended.{AppendsEnd, work_ends, ended_in}
use Rattle.tg_law_replies.specs.Replies.Found.{HasFound, FindsFor, Finds, mine}
use Rattle.tg_law_replies.specs.Replies.Laws.{ClientsFind}
use Rattle.tg_law_replies.specs.Replies.Steps.{EachEvent, EachDelivery}
use Rattle.tg_law_replies.proofs.Books.Worlds.{run_both, run_next, WorldBook, run_book, start_book, step_book}
use Rattle.tg_law_replies.proofs.History.Cells.{logs_rise}
use Rattle.tg_law_replies.proofs.Pages.Read.{logs_keep_grammar}
use Rattle.tg_law_replies.proofs.Replies.Along.{Along, passed}
use Rattle.tg_law_replies.proofs.Replies.Books.{mark, IsPlain}
use Rattle.tg_law_replies.proofs.Replies.Carried.{event_more}
use Rattle.tg_law_replies.proofs.Replies.Closed.{LeavesAlone, puts_stay}
use Rattle.tg_law_replies.proofs.Replies.Kept.{reads_only}
use Rattle.tg_law_replies.proofs.Replies.Steps.{ended_here}
use Rattle.tg_law_replies.proofs.Replies.Telling.{IsKeptWorld, RightAndKept, found_kept}
use Rattle.tg_law_replies.proofs.Replies.Turns.{LandsBy}
use Rattle.tg_law_walks.proofs.Once.Owning.{records_own}
use Rattle.tg_law_syncs.proofs.Follow.Shut.{Shut, Adds, adds_run}
use Rattle.tg_law_headline.specs.Alike.Rows.{DecisionsRecorded, AbortsRecorded, CommitsRecorded, DecisionsRecordedByRuns, AbortsRecordedByRuns, CommitsRecordedByRuns}
use Rattle.tg_law_headline.proofs.Alike.Recorded.{Met, MetFull, MetGone, MetSince, EndSaid, Say, EachSays, Held, WorkHeld, work_on, SeesFor, Sees, BelowIn, feed_good, EndsIdle, command_good}
use Rattle.tg_law_headline.proofs.Alike.Speaks.{Delivered, From, told_of}
use Rattle.tg_law_headline.proofs.Alike.Running.{AllSay, none_say, both_say, notes_say, starts_at, end_state as run_end}

module _ (m : Meaning) where
  nothing_written : (ws : List WriteOp) → (length ws == 0) ≡ true → ws ≡ []
  nothing_written [] e = refl
  nothing_written (w ∷ ws) e = absurd (some (length ws) e)
    where
      some : (n : ℕ) → (suc n == 0) ≡ true → ⊥
      some n z = grind arith

  abbrev mark_in : Told m → MarkOf m
  mark_in t = t.mark

  map_both : (xs ys : List (Told m)) → map mark_in (xs ++ ys) ≡ map mark_in xs ++ map mark_in ys
  map_both [] ys = refl
  map_both (x ∷ xs) ys = ap (λ (zs : List (MarkOf m)). x.mark ∷ zs) (map_both xs ys)

  -- an end of what has put nothing
  ends_at_once : (c : Client m) (u : Tx) → refusal m c cmd.End ≡ None → c.tx ≡ Some u → (length u.writes == 0) ≡ true → client_command m c cmd.End ≡ given m c (end_by m c cmd.End u true)
  unfolding client_command accepts
  ends_at_once c u fine has none =
      ap (λ (o : Option Refusal). given m c (refused_or m c cmd.End o)) fine
      ∙ (ap (λ (o : Option Tx). given m c (step.ends m c cmd.End o)) has ∙ ap (λ (b : Bool). given m c (end_by m c cmd.End u b)) none)

module _ (m : Meaning) (h : Header) (ms : Moves m) (r : Reaches m h ms (after m h ms)) (finds : ClientsFind m h ms (after m h ms)) (ends : AppendsEnd m h ms (after m h ms)) where
  abbrev end : World m
  end = after m h ms

  abbrev es : Entries
  es = entries_in m end

  abbrev rising : IsRising (entries_in m (after m h ms))
  rising = logs_rise m (after m h ms)

  -- what a client got by the end
  abbrev Got : ℕ → NodeId → ℕ → Msg → Type 0
  Got k from rid y = Has end.packets (record { from = from; to = client_id k; rid = rid; msg = y })

  -- a transaction has put nothing
  abbrev Idle : ℕ → ℕ → Type 0
  Idle k x = puts_of m (trace m end) k x ≡ []

  abbrev Says : Told m → Type 0
  Says t = Say m h.objects es rising (Got t.mark.client) (Idle t.mark.client) t.noted.next t.mark.tx t.mark.what

  abbrev HeldBy : CommandStart → ℕ → Client m → Type 0
  HeldBy s k c = Held m h.objects es rising (Got k) (Idle k) s.next c

  record Kept (s : CommandStart) (k : ℕ) (c : Client m) : Type 0 where
    next : s.next ≤ c.next
    held : HeldBy s k c

  -- what a client has found that ends, or decides, is of the log
  abbrev SeesBy : ℕ → ℕ → Client m → Work m → Type 0
  SeesBy n lo c v = Sees m h.objects es rising (Got n) (Idle n) lo c v

  found_only : (before : Moves m) (c : Client m) (v : Work m) → HasFound m h es before c v → (p : ℕ) (e : Entry) → Contains (mine m c v) (p, e) → Contains es (p, e)
  found_only before c v f = by c.view refl
    where
      by : (o : Option (View m)) → c.view ≡ o → (p : ℕ) (e : Entry) → Contains (mine m c v) (p, e) → Contains es (p, e)
      by None is = (f.new is).only
      by (Some k) is = (f.kept k is).entries.only

  finds_sees : (n lo : ℕ) (before : Moves m) (c : Client m) (v : Work m) → Finds m h es before c v → SeesBy n lo c v
  finds_sees n lo before c v f = by v.command f
    where
      by : (x : CommandOf m) → FindsFor m h es before c v x → SeesFor m h.objects es rising (Got n) (Idle n) lo c v x
      by cmd.End f = found_only before c v f
      by (cmd.Decide p) f = found_only before c v f
      by x f = tt

  -- A step at a world of the run.

  module _ (xs ys : Moves m) (e : EventOf m) (split : ms ≡ xs ++ Takes e ∷ ys) where
    abbrev w : World m
    w = after m h xs

    sent : (p : Packet) → Has w.packets p → Has end.packets p
    sent p i = subst (λ (v : World m). Has v.packets p) (sym (ap (λ (zs : Moves m). after m h zs) split ∙ run_both m xs (Takes e ∷ ys) (start m h))) (stays_sent m (Takes e ∷ ys) w p i)

    all : All m (config m (after m h xs))
    all = run_keeps m (All m) (all_keeps m) xs (start m h) (start_all m h)

    module _ (n : ℕ) (s : CommandStart) (kept : Kept s n (client m w n)) where
      abbrev c : Client m
      c = client m w n

      each : EachEvent m h.objects es (SeesBy n s.next) w e
      each = event_more m h.objects es (Finds m h es xs) (SeesBy n s.next) (λ d v f. finds_sees n s.next xs d v f) w e (finds xs ys e split)

      kept_out : (v : Work m) (t : Task m) (o : Out) → c.work ≡ Some v → v.hand ≡ Doing t → Has (task_awaited m c.stand t) o → Has (reserved m c) o
      kept_out v t o is f j = subst (λ (z : Option (Work m)). Has (work_reserved m c.stand z) o) (sym is) (subst (λ (d : Hand m). Has (hand_reserved m c.stand d) o) (sym f) j)

      module _ (p : Packet) (i : Has w.packets p) (to : p.to ≡ client_id n) (d : Delivered m w e n p) where
        got : Got n p.from p.rid p.msg
        got = subst (λ (z : NodeId). Has end.packets (record { from = p.from; to = z; rid = p.rid; msg = p.msg })) to (sent p i)

        below : (o : Option (Work m)) → c.work ≡ o → BelowIn m h.objects es rising (Got n) (Idle n) s.next p.from p.rid p.msg got c o
        below None is = tt
        below (Some v) is = λ t f o j. (all.0.0.clients n).open' o (kept_out v t o is f j)

        delivered : EachDelivery m h.objects es (SeesBy n s.next) c c.work p.from p.rid (reply p.msg)
        delivered = subst (λ (k : ℕ). EachDelivery m h.objects es (SeesBy n s.next) (client m w k) (client m w k).work p.from p.rid (reply p.msg)) d.num
            (subst (EachEvent m h.objects es (SeesBy n s.next) w) d.event each p d.got d.of_client d.on)

        lands : LandsBy m es (append_by m c.work) (work_ends m c c.work p.from p.rid (reply p.msg))
        lands a x has is = ends xs ys e split n a x has (subst (λ (v : EventOf m). ended_in m w v n ≡ Some x) (sym d.event)
            (subst (λ (k : ℕ). ended_in m w (Deliver d.at) k ≡ work_ends m (client m w k) (client m w k).work p.from p.rid (reply p.msg)) d.num (ended_here m w d.at p d.got d.of_client d.on) ∙ is))

      -- an end of what has put nothing, which puts nothing later
      abbrev IdleBy : (t : ClientTurn m) → ClientInput m (config m w) n t → Type 0
      IdleBy t (Commanded x) = refusal m c x ≡ None → EndsIdle m h.objects es rising (Got n) (Idle n) s.next c x
      IdleBy t (Hears' p comes) = Unit {0}
      IdleBy t Ticks' = Unit {0}

      module _ (u : Tx) (fine : refusal m c cmd.End ≡ None) (has : c.tx ≡ Some u) (none : (length u.writes == 0) ≡ true) where
        abbrev v : World m
        v = happens m w e

        books : WorldBook m w
        books = run_book m xs (start m h) (start_book m h)

        right : IsKeptWorld m h.objects es rising (logs_keep_grammar m end).0 w
        right = (passed m (RightAndKept m h es rising (logs_keep_grammar m end).0) xs (Takes e ∷ ys) (start m h)
            (subst (λ (zs : Moves m). Along m (RightAndKept m h es rising (logs_keep_grammar m end).0) zs (start m h)) split (found_kept m h ms end (logs_keep_grammar m end).0 (logs_keep_grammar m end).1 r finds ends))).1

        before : puts_of m (trace m w) n u.number ≡ []
        before = (reads_only m h.objects es rising (logs_keep_grammar m end).0 n (trace m w) u ((right n).«open» u has).0.0 (nothing_written m u.writes none)).puts

        abbrev notes : List (NoteOf m)
        notes = note m u.number told.End ∷ note m u.number (told.Committed (snapshot_or m u.snapshot)) ∷ []

        module _ (told' : v.told ≡ w.told ++ map (told_of m w n s) (client_command m c cmd.End).notes) (now : client m v n ≡ (client_command m c cmd.End).now) where
          at_once : client_command m c cmd.End ≡ given m c (end_by m c cmd.End u true)
          at_once = ends_at_once m c u fine has none

          traced : trace m v ≡ trace m w ++ map (mark m w.event n) notes
          traced = ap (λ (ts : List (Told m)). map (mark_in m) ts) (told' ∙ ap (λ (t : ClientTurn m). w.told ++ map (told_of m w n s) t.notes) at_once) ∙ map_both m w.told (map (told_of m w n s) notes)

          alone : LeavesAlone m h.objects es n u.number (map (mark m w.event n) notes)
          alone t (inl i) f g = subst (λ (z : WhatOf m). IsPlain m z) (sym (ap (λ (y : MarkOf m). y.what) i)) tt
          alone t (inr (inl i)) f g = subst (λ (z : WhatOf m). IsPlain m z) (sym (ap (λ (y : MarkOf m). y.what) i)) tt
          alone t (inr (inr i)) f g = absurd i

          shut : Shut m u.number (client m v n)
          shut = subst (Shut m u.number) (sym (now ∙ ap (λ (t : ClientTurn m). t.now) at_once)) (((right n).«open» u has).1, λ t is same. no t is)
            where
              no : (t : Tx) → None ≡ Some t → ⊥
              no t z = cc

          after' : Adds m n u.number ((right n).«open» u has).0.1 v (run m ys v)
          after' = adds_run m n u.number ((right n).«open» u has).0.1 ys v (step_book m w e books) shut

          later : end ≡ run m ys v
          later = ap (λ (zs : Moves m). after m h zs) split ∙ (run_both m xs (Takes e ∷ ys) (start m h) ∙ run_next m e ys w)

          nothing_put : Idle n u.number
          nothing_put = ap (λ (z : World m). puts_of m (trace m z) n u.number) later
              ∙ (ap (λ (tr : Trace m). puts_of m tr n u.number) after'.traced
              ∙ (puts_stay m [] [] n u.number (trace m v) after'.more after'.alone
              ∙ (ap (λ (tr : Trace m). puts_of m tr n u.number) traced ∙ (puts_stay m h.objects es n u.number (trace m w) (map (mark m w.event n) notes) alone ∙ before))))

      idle_by : (t : ClientTurn m) (i : ClientInput m (config m w) n t) → (happens m w e).told ≡ w.told ++ map (told_of m w n s) t.notes → client m (happens m w e) n ≡ t.now → IdleBy t i
      idle_by t (Commanded cmd.End) x now = λ fine u has none. nothing_put u fine has none x now
      idle_by t (Commanded y) x now = λ fine. tt
      idle_by t (Hears' p comes) x now = tt
      idle_by t Ticks' x now = tt

      ticked : (o : Option (Work m)) → c.work ≡ o → HeldBy s n (tick_by m c o).now × EachSays m h.objects es rising (Got n) (Idle n) s.next (tick_by m c o).notes
      ticked None is = (kept.held, λ y i. absurd i)
      ticked (Some v) is = (work_on m h.objects es rising (Got n) (Idle n) s.next c.next (c.next + c.layouts) c.work kept.next (omega arith) kept.held, λ y i. absurd i)

      turn_good : (t : ClientTurn m) (i : ClientInput m (config m w) n t) → From m w e n t i → IdleBy t i → HeldBy s n t.now × EachSays m h.objects es rising (Got n) (Idle n) s.next t.notes
      unfolding client_command client_deliver client_tick
      turn_good t (Commanded x) d idle = let g = command_good m h.objects es rising (Got n) (Idle n) s.next c x (refusal m c x) (not_busy m c x) kept.next idle kept.held in (g.held, g.says)
      turn_good t (Hears' p comes) d idle =
          let g = feed_good m h.objects es rising (Got n) (Idle n) s.next p.from p.rid p.msg (got p comes.sent comes.to_node d) c c.work refl kept.next kept.held (below p comes.sent comes.to_node d c.work refl) (lands p comes.sent comes.to_node d) (delivered p comes.sent comes.to_node d) in
          (g.held, g.says)
      turn_good t Ticks' d idle = ticked c.work refl

      up : (t : ClientTurn m) → ClientInput m (config m w) n t → c.next ≤ t.now.next
      up t (Commanded x) = (command_draws m c x).is.up
      up t (Hears' p comes) = (deliver_draws m c p.from p.rid p.msg).is.up
      up t Ticks' = (tick_draws m c).is.up

      now_kept : (t : ClientTurn m) (i : ClientInput m (config m w) n t) → From m w e n t i → IdleBy t i → Kept s n t.now
      now_kept t i d idle = record { next = let a = kept.next in let b = up t i in omega (arith, a, b); held = (turn_good t i d idle).0 }

  -- The start.

  new_kept : (k j : ℕ) → Kept (record { next = 1; epoch = 1; upto = 0 }) k (new_client m h j)
  unfolding new_client
  new_kept k j = record { next = omega arith; held = tt }

  begins : (s : CommandStart) (k : ℕ) (c : Client m) → c.work ≡ None → Kept s k c → Kept (starts_at m c) k c
  begins s k c idle kept = record { next = omega arith; held = subst (WorkHeld m h.objects es rising (Got k) (Idle k) c.next c.next) (sym idle) tt }

  all_say : AllSay m Says end.told
  all_say = (run_end m h ms Kept (AllSay m Says) (none_say m Says) (both_say m Says) new_kept begins (λ xs e ys split n s kept t i f told' now.
      let idle = idle_by xs ys e split n s kept t i told' now in
      (now_kept xs ys e split n s kept t i f idle, notes_say m Says (told_of m (after m h xs) n s) t.notes (turn_good xs ys e split n s kept t i f idle).1))).told

  -- What the replies say.

  module _ (t : Told m) (i : Contains end.told t) where
    abbrev k : ℕ
    k = t.mark.client

    says : (what : WhatOf m) → t.mark.what ≡ what → Say m h.objects es rising (Got k) (Idle k) t.noted.next t.mark.tx what
    says what is = subst (λ (z : WhatOf m). Say m h.objects es rising (Got k) (Idle k) t.noted.next t.mark.tx z) is (all_say t (has_contained end.told t i))

    got_to : (from : NodeId) (rid : ℕ) (x : Msg) → Got k from rid x → SentTo m end k rid x
    got_to from rid x g = record { packet = record { from = from; to = client_id k; rid = rid; msg = x }; sent = contained end.packets _ g; to = refl; number = refl; says = refl }

    abbrev got_now : (from : NodeId) (rid : ℕ) (x : Msg) → t.noted.next ≤ rid → Got k from rid x → SentNow m end t x
    got_now from rid x le g = record { rid = rid; now = le; sent = got_to from rid x g }

    decision_of : (p : ℕ) → DecisionStands es p → HasDecision m end p
    decision_of p d = record { at = d.at; entry = d.entry; is_yes = d.is_yes; here = d.here; decides = d.is }

    -- in the same command
    met_now : Met m h.objects es rising (Got k) (Idle k) t.noted.next t.noted.next → MetEndNow m end t ⊎ MetTrimNow m end t
    met_now (MetFull limit f) = inl (record { limit = limit; full = got_now f.from f.rid (msg.Full limit) f.now f.got })
    met_now (MetGone p under g) = inr (record {
      pos = p;
      links = g.issued.links;
      issued = got_now g.issued.from g.issued.rid (msg.Issued p g.issued.links) g.issued.now g.issued.got;
      below = under;
      gone = got_now g.from g.rid (msg.Gone under) (let a = g.issued.now in let b = g.issued.below in omega (arith, a, b)) g.got;
      order = g.issued.below;
    })

    decided : (p : ℕ) → DecisionStands es p ⊎ Met m h.objects es rising (Got k) (Idle k) t.noted.next t.noted.next → RecordedNow m end t p
    decided p (inl d) = inl (decision_of p d)
    decided p (inr y) = inr (met_now y)

    -- after the position of the record was issued
    met_since : (p : ℕ) → MetSince m h.objects es rising (Got k) (Idle k) t.noted.next p → MetEnd m end k p ⊎ MetTrim m end k p
    met_since p s = by s.met
      where
        by : Met m h.objects es rising (Got k) (Idle k) t.noted.next s.since → MetEnd m end k p ⊎ MetTrim m end k p
        by (MetFull limit f) = inl (record {
          rid = s.issued.rid;
          links = s.issued.links;
          issued = got_to s.issued.from s.issued.rid (msg.Issued p s.issued.links) s.issued.got;
          full_at = f.rid;
          limit = limit;
          full = got_to f.from f.rid (msg.Full limit) f.got;
          later = let a = s.issued.below in let b = f.now in omega (arith, a, b);
        })
        by (MetGone q under g) = inr (record {
          rid = s.issued.rid;
          links = s.issued.links;
          issued = got_to s.issued.from s.issued.rid (msg.Issued p s.issued.links) s.issued.got;
          again_at = g.issued.rid;
          pos = q;
          more = g.issued.links;
          again = got_to g.issued.from g.issued.rid (msg.Issued q g.issued.links) g.issued.got;
          gone_at = g.rid;
          below = under;
          gone = got_to g.from g.rid (msg.Gone under) g.got;
          order = (let a = s.issued.below in let b = g.issued.now in omega (arith, a, b), g.issued.below);
        })

    recorded : (p : ℕ) → DecisionStands es p ⊎ MetSince m h.objects es rising (Got k) (Idle k) t.noted.next p → Recorded m end k p
    recorded p (inl d) = inl (decision_of p d)
    recorded p (inr y) = inr (met_since p y)

  decisions_are : DecisionsRecorded m end
  decisions_are t p b e i is here needs = decided t i p (says t i (told.Decided p (Some b)) is e here needs)

  aborts_are : AbortsRecorded m end
  aborts_are t p o part seen now e i is here needs = recorded t i p (says t i (told.Aborted p o part seen now) is e here needs)

  -- the record of a transaction writes what it has put
  commits_are : RecordsOwn m end → CommitsRecorded m end
  commits_are own t p e i is rec here needs = by (says t i (told.Committed p) is)
    where
      nothing : Idle t.mark.client t.mark.tx → ⊥
      nothing idle =
          let some = (logs_keep_grammar m end).1 p rec.record_at rec.here rec.commit in
          let put = ap (λ (k : ℕ). puts_of m (trace m end) k rec.record_at.head.number) rec.of_client ∙ (ap (λ (x : ℕ). puts_of m (trace m end) t.mark.client x) rec.of_number ∙ idle) in
          has_contained [] some.0 (subst (λ (ws : List WriteOp). Contains ws some.0)
          ((own p rec.record_at rec.here rec.commit).writes ∙ ap (λ (us : List (Oid × m.op)). map (λ (x : Oid × m.op). write_of m x.0 x.1) us) put) some.1)

      by : Idle t.mark.client t.mark.tx ⊎ EndSaid m h.objects es rising (Got t.mark.client) (Idle t.mark.client) t.noted.next p → Recorded m end t.mark.client p
      by (inl idle) = absurd (nothing idle)
      by (inr said) = recorded t i p (said e here needs)

module _ (m : Meaning) where
  pub decisions_recorded : DecisionsRecordedByRuns m
  decisions_recorded h ms w r finds ends = subst (λ (v : World m). ClientsFind m h ms v → AppendsEnd m h ms v → DecisionsRecorded m v) (sym r.goes.is) (λ f a. decisions_are m h ms (subst (Reaches m h ms) r.goes.is r) f a) finds ends

  pub aborts_recorded : AbortsRecordedByRuns m
  aborts_recorded h ms w r finds ends = subst (λ (v : World m). ClientsFind m h ms v → AppendsEnd m h ms v → AbortsRecorded m v) (sym r.goes.is) (λ f a. aborts_are m h ms (subst (Reaches m h ms) r.goes.is r) f a) finds ends

  pub commits_recorded : CommitsRecordedByRuns m
  commits_recorded h ms w r trims finds ends = subst (λ (v : World m). RecordsOwn m v → ClientsFind m h ms v → AppendsEnd m h ms v → CommitsRecorded m v) (sym r.goes.is)
      (λ own f a. commits_are m h ms (subst (Reaches m h ms) r.goes.is r) f a own) (records_own m h ms w r trims.safe) finds ends
