-- Along a run: the tail that each client's command was told since it began, and the trims that its walks have met, by the packets and
-- the log of the world to which the run comes.
use Rattle.std.proofs.Common.{◌≡◌, ◌⊎◌, ℕ, ◌+◌, ◌≤◌, List, [], ◌∷◌, ◌++◌, Bool, true, false, refl, sym, ap, ◌∙◌, subst, inl, inr, arith, cond, Option, Some, None}
use Rattle.std.specs.Prelude.{◌==◌, if◌then◌else◌}
use Rattle.tg_base.specs.Clusters.{Header}
use Rattle.tg_base.specs.Layouts.{Layout}
use Rattle.tg_base.specs.Orders.{oid_eq, node_eq, role_number}
use Rattle.tg_base.specs.declared.ids.NodeId.{NodeId}
use Rattle.tg_base.specs.declared.ids.Oid.{Oid}
use Rattle.tg_base.specs.declared.marks.StreamLink.{StreamLink}
use Rattle.tg_base.specs.declared.msg.Msg.{Msg}
use Rattle.tg_base.specs.declared.msg.Msg.TheVariants as msg
use Rattle.tg_base.specs.declared.packet.Out.{Out}
use Rattle.tg_base.specs.declared.packet.Packet.{Packet}
use Rattle.tg_kind.specs.Meaning.{Meaning}
use Rattle.tg_model.specs.declared.trace.What.TheVariants as told
use Rattle.tg_model.specs.Kinds.{EventOf}
use Rattle.tg_protocol.specs.Words.{client_id, unit_id, seqr_id}
use Rattle.tg_protocol.specs.Requests.{out, awaits}
use Rattle.tg_protocol.specs.Replies.{reply}
use Rattle.tg_protocol.specs.Cells.{CellJob, cell_asks}
use Rattle.tg_protocol.specs.Entries.{link_of, backs_of}
use Rattle.tg_protocol.specs.Syncing.{SyncWork, Checking, Settling, Probing, Sync, sync_work_asks}
use Rattle.tg_protocol.specs.Walking.{Walk, job_asks}
use Rattle.tg_protocol.specs.Logs.{Log, path_on, path}
use Rattle.tg_protocol.specs.Clients.{Task, Syncing, Walking, Appending, Trimming, Copying', Reconfiguring, Hand, Doing, Work, Client, new_client, refusal}
use Rattle.tg_protocol.specs.Answers.{Moved, walked}
use Rattle.tg_protocol.specs.ClientSteps.{ClientTurn, task_asks, task_awaited, feed, client_command, client_deliver, client_tick, tick_by}
use Rattle.tg_protocol.specs.Walked.{Walked, work_end, packet_end, walked_in}
use Rattle.tg_protocol.specs.Worlds.{CommandStart, World, Told, start, client, noted_of, log, runs}
use Rattle.tg_protocol.specs.Alike.{SentNow}
use Rattle.tg_protocol.specs.Stuck.{asks_for, WalkMetTrim}
use Rattle.tg_protocol.specs.Runs.{Moves, Takes, Reaches, Later}
use Rattle.tg_law_layouts.specs.Moves.After.{after}
use Rattle.tg_law_layouts.specs.Moves.Configs.{config}
use Rattle.tg_law_layouts.proofs.Moves.Lists.{contained}
use Rattle.tg_law_layouts.proofs.Moves.Members.{Has}
use Rattle.tg_law_layouts.proofs.Moves.Moves.{ClientInput, Commanded, Hears', Ticks', run_keeps}
use Rattle.tg_law_layouts.proofs.Moves.Clients.{reserved, hand_reserved, work_reserved}
use Rattle.tg_law_layouts.proofs.Moves.Turns.{not_busy, command_draws, deliver_draws, tick_draws}
use Rattle.tg_law_layouts.proofs.Requests.Starts.{All, all_keeps, start_all}
use Rattle.tg_law_layouts.proofs.Layouts.Layouts.{stays_sent}
use Rattle.tg_law_cells.proofs.Cells.Justified.{Awaited, awaited_ask}
use Rattle.tg_law_replies.proofs.History.Members.{same_oid, number_same, both_and}
use Rattle.tg_law_replies.proofs.Books.Worlds.{run_both}
use Rattle.tg_law_walks.specs.Lists.Spared.{TrimsWereSpare}
use Rattle.tg_law_walks.specs.Walks.Rounds.{IsAtWork}
use Rattle.tg_law_walks.specs.Walks.Streams.{AreLinked}
use Rattle.tg_law_walks.specs.Walks.Ends.{TaskEndsAs, HandEndsAs}
use Rattle.tg_law_walks.proofs.Lists.Reached.{before_reached}
use Rattle.tg_law_walks.proofs.Lists.Scanning.{at_trim, is_gone}
use Rattle.tg_law_walks.proofs.Lists.Telling.{entries_are_good}
use Rattle.tg_law_syncs.proofs.Exact.Exact.{work_ends}
use Rattle.tg_law_syncs.proofs.Exact.Held.{goes_on, clients_work}
use Rattle.tg_law_headline.proofs.Alike.Appends.{is_tail}
use Rattle.tg_law_headline.proofs.Alike.Speaks.{Noted, Before, Anew, Delivered, From}
use Rattle.tg_law_claims.proofs.Causes.OnPaths.{AsksUnit, job_reads}
use Rattle.tg_law_claims.proofs.Causes.Refusing.{fine_refusal}
use Rattle.tg_law_claims.proofs.Causes.Stalling.{PlainNotes, BriefNotes, brief_notes}
use Rattle.tg_law_claims.proofs.Causes.Hearing.{AnswerTells, WorkHeld, EndOk, Comes, Plainly, Ended, comes_held, MetsBy, TaskHears, feed_comes, command_good}
use Rattle.tg_law_headline.proofs.Alike.Running.{starts_at, state_at as run_at}

-- a stream's link is one of the links
link_found : (o : Oid) (ls : List StreamLink) (x : StreamLink) → link_of o ls ≡ Some x → Has ls x × (x.oid ≡ o)
link_found o [] x is = absurd (cc)
link_found o (y ∷ ls) x is = by (oid_eq y.oid o) refl is (λ k. link_found o ls x k)
  where
    one : (a b : StreamLink) → Some a ≡ Some b → a ≡ b
    one a b e = cc

    by : (b : Bool) → oid_eq y.oid o ≡ b → cond b (Some y) (link_of o ls) ≡ Some x → (link_of o ls ≡ Some x → Has ls x × (x.oid ≡ o)) → Has (y ∷ ls) x × (x.oid ≡ o)
    by true e k rest = (inl (sym (one y x k)), subst (λ (z : StreamLink). z.oid ≡ o) (one y x k) (same_oid y.oid o e))
    by false e k rest = let g = rest k in (inr g.0, g.1)

-- without positions there is no path
no_path : (l : Log) (o : Oid) (p : ℕ) → Has (path l o []) p → ⊥
unfolding path path_on
no_path l o p i = absurd i

-- what a sync asks, and a walk

check_rid : (o : Out) (q : NodeId) (y : Msg) (rid : ℕ) → Has (out q rid y ∷ []) o → o.rid ≡ rid
check_rid o q y rid (inl e) = ap (λ (z : Out). z.rid) e
check_rid o q y rid (inr j) = absurd j

check_open : (p : Layout) (z : Sync) (q : ℕ) (o : Out) → Has (sync_work_asks p z (Checking q)) o → o.rid ≡ q
unfolding sync_work_asks
check_open p z q o j = check_rid o (seqr_id p.seq) (msg.Check p.epoch z.oids) q j

module _ (m : Meaning) where
  sync_open : (q : Layout) (y : Sync) (o : Out) → Has (task_asks m q (Syncing y)) o → Has (sync_work_asks q y y.work) o
  unfolding task_asks
  sync_open q y o j = j

  walk_open : (q : Layout) (v : Walk) (os : List Oid) (j : CellJob) → v.job ≡ Some j → (o : Out) → Has (task_asks m q (Walking v os)) o → Has (cell_asks j) o
  unfolding task_asks
  walk_open q v os j at o g = subst (λ (z : Option CellJob). Has (job_asks z) o) at g

module _ (m : Meaning) (h : Header) (zs : Moves m) (r : Reaches m h zs (after m h zs)) (trims : TrimsWereSpare m h zs) where
  abbrev pub end : World m
  end = after m h zs

  abbrev pub l : Log
  l = log m (after m h zs)

  pub linked : AreLinked (log m (after m h zs))
  linked = entries_are_good m h zs (after m h zs) r trims

  -- a reply of a client whose command began with a number
  abbrev pub reply_of : ℕ → ℕ → Told m
  reply_of k lo = record { mark = record { event = 0; client = k; tx = 0; what = told.Begin }; noted = record { next = lo; epoch = 0; upto = 0 } }

  abbrev pub Tail : ℕ → ℕ → ℕ → List StreamLink → Type 0
  Tail k lo t ls = SentNow m (after m h zs) (reply_of k lo) (msg.Tail t ls)

  abbrev pub Met : ℕ → ℕ → Oid → Type 0
  Met k lo o = WalkMetTrim m (after m h zs) (reply_of k lo) o

  abbrev HeldBy : CommandStart → ℕ → Client m → Type 0
  HeldBy s k c = WorkHeld m (log m (after m h zs)) linked s.next (Tail k s.next) (Met k s.next) c.hosted c.work

  pub record Kept (s : CommandStart) (k : ℕ) (c : Client m) : Type 0 where
    pub next : s.next ≤ c.next
    pub held : HeldBy s k c

  abbrev pub State : World m → Type 0
  State w = (k : ℕ) → Kept (noted_of m w k) k (client m w k)

  -- A step at a world of the run.

  module _ (xs : Moves m) (e : EventOf m) (ys : Moves m) (split : zs ≡ xs ++ Takes e ∷ ys) where
    abbrev w : World m
    w = after m h xs

    reached : Reaches m h xs (after m h xs)
    reached = before_reached m h zs r xs (Takes e ∷ ys) split

    abbrev later : Later m (after m h xs) (after m h zs)
    later = (Takes e ∷ ys, goes_on m h zs r xs (Takes e ∷ ys) split)

    spare : TrimsWereSpare m h (xs ++ Takes e ∷ ys)
    spare = subst (λ (ms : Moves m). TrimsWereSpare m h ms) split trims

    sent : (p : Packet) → Has (after m h xs).packets p → Has (after m h zs).packets p
    sent p i = subst (λ (v : World m). Has v.packets p) (sym (ap (λ (us : Moves m). after m h us) split ∙ run_both m xs (Takes e ∷ ys) (start m h))) (stays_sent m (Takes e ∷ ys) (after m h xs) p i)

    all : All m (config m (after m h xs))
    all = run_keeps m (All m) (all_keeps m) xs (start m h) (start_all m h)

    at_work : (k : ℕ) → IsAtWork m (log m (after m h zs)) (client m (after m h xs) k) (client m (after m h xs) k).work
    at_work k = (clients_work m h xs (after m h xs) (after m h zs) reached later spare).work k

    module _ (n : ℕ) (s : CommandStart) (kept : Kept s n (client m (after m h xs) n)) where
      abbrev c : Client m
      c = client m (after m h xs) n

      module _ (p : Packet) (i : Has (after m h xs).packets p) (to : p.to ≡ client_id n) where
        got : (from : NodeId) (y : Msg) → p.from ≡ from → p.msg ≡ y → Has (after m h zs).packets (record { from = from; to = client_id n; rid = p.rid; msg = y })
        got from y a b =
            subst (λ (z : NodeId). Has (after m h zs).packets (record { from = z; to = client_id n; rid = p.rid; msg = y })) a
            (subst (λ (z : Msg). Has (after m h zs).packets (record { from = p.from; to = client_id n; rid = p.rid; msg = z })) b
            (subst (λ (z : NodeId). Has (after m h zs).packets (record { from = p.from; to = z; rid = p.rid; msg = p.msg })) to (sent p i)))

        -- a tail that is told
        tail_told : (t : ℕ) (ls : List StreamLink) → s.next ≤ p.rid → p.msg ≡ msg.Tail t ls → Tail n s.next t ls
        tail_told t ls le is = record { rid = p.rid; now = le; sent = record { packet = p; sent = contained (after m h zs).packets p (sent p i); to = to; number = refl; says = is } }

        ends_as : (v : Work m) (t : Task m) → (client m (after m h xs) n).work ≡ Some v → v.hand ≡ Doing t → awaits (task_awaited m (client m (after m h xs) n).stand t) p.from p.rid ≡ true
            → TaskEndsAs m (log m (after m h zs)) (client m (after m h xs) n) v t p.from.num (reply p.msg)
        ends_as v t is doing a =
            subst (λ (d : Hand m). HandEndsAs m (log m (after m h zs)) (client m (after m h xs) n) v d p.from p.rid (reply p.msg)) doing
            (work_ends m h xs (after m h xs) (after m h zs) reached later spare n p (contained (after m h xs).packets p i) to (Some v) is) a

        answer_tells : (v : Work m) (z : Sync) → awaits (task_awaited m (client m (after m h xs) n).stand (Syncing z)) p.from p.rid ≡ true → AnswerTells (Tail n s.next) s.next z.work (reply p.msg)
        answer_tells v z a = by z.work (awaited_ask (task_awaited m (client m (after m h xs) n).stand (Syncing z)) p.from p.rid a) (λ o j. asks_of o j)
          where
            asks_of : (o : Out) → Has (task_awaited m (client m (after m h xs) n).stand (Syncing z)) o → Has (sync_work_asks (client m (after m h xs) n).stand z z.work) o
            asks_of o j = sync_open m (client m (after m h xs) n).stand z o j

            by : (x : SyncWork) → (b : Awaited (task_awaited m (client m (after m h xs) n).stand (Syncing z)) p.from p.rid) → ((o : Out) → Has (task_awaited m (client m (after m h xs) n).stand (Syncing z)) o → Has (sync_work_asks (client m (after m h xs) n).stand z x) o)
                → AnswerTells (Tail n s.next) s.next x (reply p.msg)
            by (Checking q) b f = λ le t ls is. tail_told t ls (let x = check_open (client m (after m h xs) n).stand z q b.ask (f b.ask b.has) in let y = b.number in omega (arith, le, x, y)) (is_tail p.msg t ls is)
            by (Settling y j) b f = tt
            by (Probing y j) b f = tt

        -- a unit that was asked of a cell told it as trimmed
        met_trim : (v : Work m) (k : Walk) (os : List Oid) → (client m (after m h xs) n).work ≡ Some v → v.hand ≡ Doing (Walking k os) → awaits (task_awaited m (client m (after m h xs) n).stand (Walking k os)) p.from p.rid ≡ true
            → MetsBy m (log m (after m h zs)) linked s.next (Tail n s.next) (Met n s.next) (client m (after m h xs) n) v k p.from.num (reply p.msg)
        met_trim v k os works doing a j b at read rids on ends tail = by (link_of k.oid v.lasts) refl on
          where
            asked : Awaited (task_awaited m (client m (after m h xs) n).stand (Walking k os)) p.from p.rid
            asked = awaited_ask (task_awaited m (client m (after m h xs) n).stand (Walking k os)) p.from p.rid a

            in_job : Has (cell_asks j) asked.ask
            in_job = walk_open m (client m (after m h xs) n).stand k os j at asked.ask asked.has

            unit : AsksUnit j.place.pos asked.ask
            unit = job_reads j read asked.ask in_job

            from : p.from ≡ unit_id unit.unit
            from = sym asked.to ∙ unit.to

            is_open : Has (reserved m (client m (after m h xs) n)) asked.ask
            is_open = subst (λ (z : Option (Work m)). Has (work_reserved m (client m (after m h xs) n).stand z) asked.ask) (sym works) (subst (λ (d : Hand m). Has (hand_reserved m (client m (after m h xs) n).stand d) asked.ask) (sym doing) asked.has)

            met : (links : StreamLink) → link_of k.oid v.lasts ≡ Some links → Has (path (log m (after m h zs)) k.oid links.backs) j.place.pos → Met n s.next k.oid
            met link is there =
                let heard = all.0.1.answered unit.unit p i from in
                let same : asked.ask.msg ≡ heard.ask.msg = (all.0.0.clients n).agree asked.ask heard.ask is_open heard.asked (heard.from ∙ to) heard.request (asked.number ∙ sym heard.rid) (asked.to ∙ sym heard.to) in
                let g = link_found k.oid v.lasts link is in
                record {
                  tail = v.tail;
                  links = v.lasts;
                  synced = tail;
                  link = link;
                  linked = contained v.lasts link g.0;
                  stream = g.1;
                  pos = j.place.pos;
                  walked = contained (path (log m (after m h zs)) k.oid link.backs) j.place.pos there;
                  unit = unit.unit;
                  rid = p.rid;
                  now = (let x = rids asked.ask in_job in let y = asked.number in omega (arith, x, y));
                  request = heard.ask.msg;
                  asks = subst (λ (y : Msg). asks_for j.place.pos y ≡ true) same unit.asks;
                  asked = contained (after m h zs).packets _ (ask_sent heard.ask (heard.from ∙ to) (heard.to ∙ from) heard.rid (sent heard.ask heard.asked));
                  below = b;
                  gone = contained (after m h zs).packets _ (got (unit_id unit.unit) (msg.Gone b) from (is_gone p.msg b (at_trim j p.from.num (reply p.msg) (client m (after m h xs) n).next b ends).says));
                }
              where
                ask_sent : (x : Packet) → x.from ≡ client_id n → x.to ≡ unit_id unit.unit → x.rid ≡ p.rid → Has (after m h zs).packets x → Has (after m h zs).packets (record { from = client_id n; to = unit_id unit.unit; rid = p.rid; msg = x.msg })
                ask_sent x d f g q =
                    subst (λ (z : NodeId). Has (after m h zs).packets (record { from = z; to = unit_id unit.unit; rid = p.rid; msg = x.msg })) d
                    (subst (λ (z : NodeId). Has (after m h zs).packets (record { from = x.from; to = z; rid = p.rid; msg = x.msg })) f
                    (subst (λ (z : ℕ). Has (after m h zs).packets (record { from = x.from; to = x.to; rid = z; msg = x.msg })) g q))

            by : (o : Option StreamLink) → link_of k.oid v.lasts ≡ o → Has (path (log m (after m h zs)) k.oid (backs_of o)) j.place.pos → Met n s.next k.oid
            by None is there = absurd (no_path (log m (after m h zs)) k.oid j.place.pos there)
            by (Some link) is there = met link is there

        hears : (v : Work m) (t : Task m) → (client m (after m h xs) n).work ≡ Some v → v.hand ≡ Doing t → awaits (task_awaited m (client m (after m h xs) n).stand t) p.from p.rid ≡ true
            → TaskHears m (log m (after m h zs)) linked s.next (Tail n s.next) (Met n s.next) (client m (after m h xs) n) v t p.from.num (reply p.msg)
        hears v (Syncing z) is doing a = (answer_tells v z a, ends_as v (Syncing z) is doing a)
        hears v (Walking k os) is doing a = (ends_as v (Walking k os) is doing a, met_trim v k os is doing a)
        hears v (Appending y z) is doing a = tt
        hears v (Trimming z) is doing a = tt
        hears v (Copying' z) is doing a = tt
        hears v (Reconfiguring z) is doing a = tt

        -- what the client makes of it
        abbrev End : Option (Walked m) → Type 0
        End o = Comes m (log m (after m h zs)) linked s.next (Tail n s.next) (Met n s.next) (feed m (client m (after m h xs) n) (client m (after m h xs) n).work p.from p.rid (reply p.msg)) o

        comes : Comes m (log m (after m h zs)) linked s.next (Tail n s.next) (Met n s.next) (feed m (client m (after m h xs) n) (client m (after m h xs) n).work p.from p.rid (reply p.msg)) (work_end m (client m (after m h xs) n) (client m (after m h xs) n).work p.from p.rid (reply p.msg))
        comes = feed_comes m (log m (after m h zs)) linked s.next (Tail n s.next) (Met n s.next) (client m (after m h xs) n) p.from p.rid kept.next kept.held (reply p.msg) hears (at_work n)

      ticked : (o : Option (Work m)) → (client m (after m h xs) n).work ≡ o → HeldBy s n (tick_by m (client m (after m h xs) n) o).now × BriefNotes m (tick_by m (client m (after m h xs) n) o).notes
      ticked None is = (kept.held, tt)
      ticked (Some v) is = (kept.held, tt)

      turn_held : (t : ClientTurn m) → ClientInput m (config m (after m h xs)) n t → HeldBy s n t.now
      unfolding client_command client_deliver client_tick
      turn_held t (Commanded x) = (command_good m (log m (after m h zs)) linked s.next (Tail n s.next) (Met n s.next) (client m (after m h xs) n) kept.next kept.held x (refusal m (client m (after m h xs) n) x) (fine_refusal m (client m (after m h xs) n) x) (not_busy m (client m (after m h xs) n) x)).held
      turn_held t (Hears' p i) = comes_held m (log m (after m h zs)) linked s.next (Tail n s.next) (Met n s.next) _ _ (comes p i.sent i.to_node)
      turn_held t Ticks' = (ticked (client m (after m h xs) n).work refl).0

      up : (t : ClientTurn m) → ClientInput m (config m (after m h xs)) n t → (client m (after m h xs) n).next ≤ t.now.next
      up t (Commanded x) = (command_draws m (client m (after m h xs) n) x).is.up
      up t (Hears' p i) = (deliver_draws m (client m (after m h xs) n) p.from p.rid p.msg).is.up
      up t Ticks' = (tick_draws m (client m (after m h xs) n)).is.up

      now_kept : (t : ClientTurn m) → ClientInput m (config m (after m h xs)) n t → Kept s n t.now
      now_kept t i = record { next = (let a = kept.next in let y = up t i in omega (arith, a, y)); held = turn_held t i }

    -- What a client turns to, where it tells of something undecided.

    pub data Tells (n : ℕ) (s : CommandStart) (t : ClientTurn m) : Type 0 where
      Plain' : BriefNotes m t.notes → Tells n s t
      AtEnd : (y : Walked m) → walked_in m (after m h xs) e n ≡ Some y → t.notes ≡ (walked m y.client y.work).notes → t.now ≡ record (walked m y.client y.work).now { calls = (walked m y.client y.work).now.calls + 1 }
          → EndOk m (log m (after m h zs)) linked s.next (Tail n s.next) (Met n s.next) y → Tells n s t

    -- where its walks are over
    pub record Over (n : ℕ) (s : CommandStart) (t : ClientTurn m) : Type 0 where
      pub end : Walked m
      pub ended : walked_in m (after m h xs) e n ≡ Some end
      pub notes : t.notes ≡ (walked m end.client end.work).notes
      pub now : t.now ≡ record (walked m end.client end.work).now { calls = (walked m end.client end.work).now.calls + 1 }
      pub heard : EndOk m (log m (after m h zs)) linked s.next (Tail n s.next) (Met n s.next) end

    node_itself : (a : NodeId) → node_eq a a ≡ true
    unfolding node_eq
    node_itself a = both_and (role_number a.role == role_number a.role) (a.num == a.num) (number_same (role_number a.role) (role_number a.role) refl) (number_same a.num a.num refl)

    -- where a packet comes to the client
    ends_here : (n : ℕ) (p : Packet) → p.to ≡ client_id n → Delivered m (after m h xs) e n p → walked_in m (after m h xs) e n ≡ work_end m (client m (after m h xs) n) (client m (after m h xs) n).work p.from p.rid (reply p.msg)
    ends_here n p to d =
        ap (λ (y : EventOf m). walked_in m (after m h xs) y n) d.event
        ∙ (ap (λ (o : Option Packet). packet_end m (after m h xs) n o) d.got
        ∙ ap (λ (b : Bool). if b then work_end m (client m (after m h xs) n) (client m (after m h xs) n).work p.from p.rid (reply p.msg) else None)
        (both_and (node_eq p.to (client_id n)) (runs m (after m h xs) p.to) (subst (λ (a : NodeId). node_eq a (client_id n) ≡ true) (sym to) (node_itself (client_id n))) d.on))

    module _ (n : ℕ) (s : CommandStart) (kept : Kept s n (client m (after m h xs) n)) where
      comes_tells : (x : Moved m) (o : Option (Walked m)) (t : ClientTurn m) → walked_in m (after m h xs) e n ≡ o → t.notes ≡ x.notes → t.now ≡ record x.now { calls = x.now.calls + 1 }
          → Comes m (log m (after m h zs)) linked s.next (Tail n s.next) (Met n s.next) x o → Tells n s t
      comes_tells x o t is notes now (Plainly g) = Plain' (subst (BriefNotes m) (sym notes) (brief_notes m x.notes g.notes))
      comes_tells x o t is notes now (Ended y at same k) =
          AtEnd y (is ∙ at) (notes ∙ ap (λ (z : Moved m). z.notes) same) (now ∙ ap (λ (z : Moved m). record z.now { calls = z.now.calls + 1 }) same) k

      -- of a packet that comes to the client: what it tells is plain, or its walks are over
      pub hears_tells : (p : Packet) → Has (after m h xs).packets p → p.to ≡ client_id n → Delivered m (after m h xs) e n p → PlainNotes m (client_deliver m (client m (after m h xs) n) p.from p.rid p.msg).notes ⊎ Over n s (client_deliver m (client m (after m h xs) n) p.from p.rid p.msg)
      unfolding client_deliver
      hears_tells p i to d = by (comes n s kept p i to)
        where
          by : Comes m (log m (after m h zs)) linked s.next (Tail n s.next) (Met n s.next) (feed m (client m (after m h xs) n) (client m (after m h xs) n).work p.from p.rid (reply p.msg)) (work_end m (client m (after m h xs) n) (client m (after m h xs) n).work p.from p.rid (reply p.msg))
              → PlainNotes m (feed m (client m (after m h xs) n) (client m (after m h xs) n).work p.from p.rid (reply p.msg)).notes ⊎ Over n s (client_deliver m (client m (after m h xs) n) p.from p.rid p.msg)
          by (Plainly g) = inl g.notes
          by (Ended y at same k) = inr (record {
            end = y;
            ended = ends_here n p to d ∙ at;
            notes = ap (λ (z : Moved m). z.notes) same;
            now = ap (λ (z : Moved m). record z.now { calls = z.now.calls + 1 }) same;
            heard = k;
          })

      pub tells : (t : ClientTurn m) → (i : ClientInput m (config m (after m h xs)) n t) → From m (after m h xs) e n t i → Tells n s t
      unfolding client_command client_deliver client_tick
      tells t (Commanded x) b = Plain' (command_good m (log m (after m h zs)) linked s.next (Tail n s.next) (Met n s.next) (client m (after m h xs) n) kept.next kept.held x (refusal m (client m (after m h xs) n) x) (fine_refusal m (client m (after m h xs) n) x) (not_busy m (client m (after m h xs) n) x)).notes
      tells t (Hears' p i) b =
          comes_tells (feed m (client m (after m h xs) n) (client m (after m h xs) n).work p.from p.rid (reply p.msg)) (work_end m (client m (after m h xs) n) (client m (after m h xs) n).work p.from p.rid (reply p.msg)) t
          (ends_here n p i.to_node b) refl refl (comes n s kept p i.sent i.to_node)
      tells t Ticks' b = Plain' (ticked n s kept (client m (after m h xs) n).work refl).1

  -- Along the run.

  new_kept : (k j : ℕ) → Kept (record { next = 1; epoch = 1; upto = 0 }) k (new_client m h j)
  unfolding new_client
  new_kept k j = record { next = omega arith; held = tt }

  begins : (s : CommandStart) (k : ℕ) (c : Client m) → c.work ≡ None → Kept s k c → Kept (starts_at m c) k c
  begins s k c idle kept = record {
    next = omega arith;
    held = subst (λ (o : Option (Work m)). WorkHeld m (log m (after m h zs)) linked c.next (Tail k c.next) (Met k c.next) c.hosted o) (sym idle) tt;
  }

  pub kept_of : (w : World m) (n : ℕ) (s : CommandStart) → Noted m w n s → Kept (noted_of m w n) n (client m w n) → Kept s n (client m w n)
  kept_of w n s (Before e) k = subst (λ (z : CommandStart). Kept z n (client m w n)) (sym e) k
  kept_of w n s (Anew idle e) k = subst (λ (z : CommandStart). Kept z n (client m w n)) (sym e) (begins (noted_of m w n) n (client m w n) idle k)

  pub state_at : (xs ys : Moves m) → zs ≡ xs ++ ys → State (after m h xs)
  state_at xs ys split = (run_at m h zs Kept (λ ts. Unit {0}) tt (λ ts us a b. tt) new_kept begins (λ xs e ys split n s kept t i f told now. (now_kept xs e ys split n s kept t i, tt)) xs ys split).clients
