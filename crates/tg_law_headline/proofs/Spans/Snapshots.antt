-- Over a run, what a client asks and hears of a transaction that it has begun after a world is new: so each snapshot at which it is
-- answered is.
use Rattle.std.proofs.Common.{◌≡◌, ◌⊎◌, ℕ, ◌<◌, ◌≤◌, List, [], ◌∷◌, ◌++◌, map, true, refl, sym, ap, ◌∙◌, subst, inl, inr, arith, Option, Some, None, append-nil}
use Rattle.tg_base.specs.Clusters.{Header}
use Rattle.tg_base.specs.Layouts.{Layout}
use Rattle.tg_base.specs.declared.ids.NodeId.{NodeId}
use Rattle.tg_base.specs.declared.ids.Oid.{Oid}
use Rattle.tg_base.specs.declared.marks.StreamLink.{StreamLink}
use Rattle.tg_base.specs.declared.msg.Msg.{Msg}
use Rattle.tg_base.specs.declared.msg.Msg.TheVariants as msg
use Rattle.tg_base.specs.declared.packet.Out.{Out}
use Rattle.tg_base.specs.declared.packet.Packet.{Packet}
use Rattle.tg_kind.specs.Meaning.{Meaning}
use Rattle.tg_model.specs.declared.trace.What.TheVariants as told
use Rattle.tg_model.specs.Kinds.{CommandOf, EventOf, MarkOf}
use Rattle.tg_model.specs.Traces.{Trace, Tells}
use Rattle.tg_model.specs.declared.refusal.Refusal.{Refusal}
use Rattle.tg_protocol.specs.Words.{client_id, seqr_id, unit_id}
use Rattle.tg_protocol.specs.Layouts.{chain_of}
use Rattle.tg_protocol.specs.Requests.{awaits, out}
use Rattle.tg_protocol.specs.Replies.{reply, IsTail, IsFenced}
use Rattle.tg_protocol.specs.Cells.{Place, place_in, unit_at, CellWork, Puts, Gets, Fills, Copies, Probes, CellJob, work_asks, cell_asks}
use Rattle.tg_protocol.specs.Units.{unit_ask}
use Rattle.tg_protocol.specs.Syncing.{Answer, SyncWork, Checking, Settling, Probing, Sync, sync_work_asks}
use Rattle.tg_protocol.specs.Transactions.{Tx}
use Rattle.tg_protocol.specs.Clients.{Syncing, Walking, Appending, Trimming, Copying', Reconfiguring, Hand, Doing, Work, Client, new_client, refusal}
use Rattle.tg_protocol.specs.ClientSteps.{ClientTurn, task_asks, task_in, task_awaited, refused_or, called, client_command, client_tick}
use Rattle.tg_protocol.specs.ClientSteps as step
use Rattle.tg_protocol.specs.Worlds.{World, start, client, trace, happens}
use Rattle.tg_protocol.specs.Chosen.{Sent}
use Rattle.tg_protocol.specs.Runs.{Move, Moves, Next as Counts, Takes, Reaches}
use Rattle.tg_law_layouts.specs.Moves.After.{after}
use Rattle.tg_law_layouts.specs.Moves.Configs.{config, client_in}
use Rattle.tg_law_layouts.proofs.Moves.Clients.{reserved, work_reserved, hand_reserved}
use Rattle.tg_law_layouts.proofs.Moves.Turns.{TurnDraws', command_draws, deliver_draws, tick_draws, not_busy}
use Rattle.tg_law_layouts.proofs.Moves.Lists.{at_set, contained}
use Rattle.tg_law_layouts.proofs.Moves.Members.{Has, has_map, has_right, has_contained}
use Rattle.tg_law_layouts.proofs.Moves.Moves.{Comes, Cases, ClientInput, Commanded, Hears', Ticks', step_cases}
use Rattle.tg_law_layouts.proofs.Requests.Starts.{All, all_hold}
use Rattle.tg_law_layouts.specs.Layouts.Decisions.{IsOfDecided}
use Rattle.tg_law_layouts.proofs.Layouts.Deciding.{layouts_are_known}
use Rattle.tg_law_cells.proofs.Cells.Justified.{Awaited, awaited_ask}
use Rattle.tg_law_cells.specs.Order.Tails.{EachPassed}
use Rattle.tg_law_cells.specs.Order.Later.{ToldSince}
use Rattle.tg_law_replies.proofs.History.Members as marks
use Rattle.tg_law_replies.proofs.History.Members.{has_image, contained_has}
use Rattle.tg_law_replies.proofs.Replies.Books.{mark}
use Rattle.tg_law_walks.specs.Lists.Telling.{tells_links}
use Rattle.tg_law_replies.proofs.Books.Effects.{IsAsk}
use Rattle.tg_law_replies.proofs.Books.Worlds.{WorldBook, Stepped, Rests, Turns, run_book, start_book}
use Rattle.tg_law_replies.proofs.Books.Worlds as books
use Rattle.tg_law_syncs.proofs.Known.Past.{answers_hold}
use Rattle.tg_law_walks.proofs.Drafts.Became.{no_some, same_some}
use Rattle.tg_law_walks.proofs.Drafts.Written.{sent_at, then_next, then_takes}
use Rattle.tg_law_walks.proofs.Once.Along.{on_moves}
use Rattle.tg_law_walks.proofs.Once.Nowhere.{reached}
use Rattle.tg_law_walks.proofs.Once.Reached.{header, give, short, reach_at, decided_later}
use Rattle.tg_law_syncs.proofs.Follow.Looks.{IsWalk}
use Rattle.tg_law_syncs.proofs.Follow.Snapshots.{Snap, snap_run, start_snap, step_sees}
use Rattle.tg_law_cells.specs.Places.Left.{ServedSince, served_in}
use Rattle.tg_law_cells.specs.Places.Order.{IsPlace, OfTail}
use Rattle.tg_law_headline.specs.Spans.Begun.{SnapshotsNew}
use Rattle.tg_law_headline.proofs.Spans.Serving.{AllServed, NotFenced, WorkHears}
use Rattle.tg_law_headline.proofs.Spans.Confirming.{SyncServed, Hears, sync_served}
use Rattle.tg_law_headline.proofs.Spans.Turns as turns
use Rattle.tg_law_headline.proofs.Spans.Turns.{ClientTold, ClientHears, command_fine, deliver_fine, tick_fine}
use Rattle.tg_law_headline.proofs.Spans.Asking.{AskedAt, deliver_at}
use Rattle.tg_law_headline.proofs.Spans.Opened.{FromOpen, from_open, snap_turned, told_open, awaits_at}

-- What a cell's machine asks of units: of whom, in its place's epoch.

abbrev AskOf : Place → CellWork → Out → Type 0
AskOf a (Fills r) o = (o.to ≡ unit_id (unit_at a 0)) × (served_in (unit_ask o.msg) ≡ Some a.epoch)
AskOf a (Copies r c i) o = (o.to ≡ unit_id (unit_at a i)) × (served_in (unit_ask o.msg) ≡ Some a.epoch)
AskOf a (Probes ws) o = (o.to ≡ unit_id o.to.num) × (served_in (unit_ask o.msg) ≡ Some a.epoch)
AskOf a w o = Unit {0}

ask_of : (a : Place) (w : CellWork) (o : Out) → Has (work_asks a w) o → AskOf a w o
unfolding work_asks served_in unit_ask
ask_of a (Fills r) o (inl e) = (ap (λ (y : Out). y.to) e, ap (λ (y : Out). served_in (unit_ask y.msg)) e)
ask_of a (Fills r) o (inr h) = absurd h
ask_of a (Copies r c i) o (inl e) = (ap (λ (y : Out). y.to) e, ap (λ (y : Out). served_in (unit_ask y.msg)) e)
ask_of a (Copies r c i) o (inr h) = absurd h
ask_of a (Probes ws) o h =
    let i = has_map (λ (w : ℕ × ℕ). out (unit_id w.0) w.1 (msg.Has a.epoch a.pos a.pos 1)) ws o h in
    (ap (λ (y : Out). y.to) i.is ∙ ap (λ (y : Out). unit_id y.to.num) (sym i.is), ap (λ (y : Out). served_in (unit_ask y.msg)) i.is)
ask_of a (Puts r d i) o h = tt
ask_of a (Gets r) o h = tt

-- a sync's requests, where a cell's machine is at work
settling_in : (p : Layout) (s : Sync) (w : SyncWork) (a : Answer) (j : CellJob) → w ≡ Settling a j → (o : Out) → Has (sync_work_asks p s w) o → Has (cell_asks j) o
unfolding sync_work_asks
settling_in p s (Checking r) a j e o h = absurd cc
settling_in p s (Settling b i) a j e o h = let f : i ≡ j = cc in subst (λ (y : CellJob). Has (cell_asks y) o) f h
settling_in p s (Probing b i) a j e o h = absurd cc

probing_in : (p : Layout) (s : Sync) (w : SyncWork) (a : Answer) (j : CellJob) → w ≡ Probing a j → (o : Out) → Has (sync_work_asks p s w) o → Has (cell_asks j) o
unfolding sync_work_asks
probing_in p s (Checking r) a j e o h = absurd cc
probing_in p s (Settling b i) a j e o h = absurd cc
probing_in p s (Probing b i) a j e o h = let f : i ≡ j = cc in subst (λ (y : CellJob). Has (cell_asks y) o) f h

checking_in : (p : Layout) (s : Sync) (w : SyncWork) (r : ℕ) → w ≡ Checking r → (o : Out) → Has (sync_work_asks p s w) o → (o.to ≡ seqr_id p.seq) × (o.msg ≡ msg.Check p.epoch s.oids)
unfolding sync_work_asks
checking_in p s (Checking q) r e o (inl i) = (ap (λ (y : Out). y.to) i, ap (λ (y : Out). y.msg) i)
checking_in p s (Checking q) r e o (inr i) = absurd i
checking_in p s (Settling b i) r e o h = absurd cc
checking_in p s (Probing b i) r e o h = absurd cc

tail_message : (y : Msg) (t : ℕ) (ls : List StreamLink) → reply y ≡ IsTail t ls → y ≡ msg.Tail t ls
unfolding reply
tail_message y t ls h = grind arith

tail_links : (t : ℕ) (ls : List StreamLink) → tells_links (msg.Tail t ls) ≡ Some (t, ls)
unfolding tells_links
tail_links t ls = refl

fenced_reply : (y : Msg) (e : ℕ) → y ≡ msg.Fenced e → reply y ≡ IsFenced e
unfolding reply
fenced_reply y e h = ap reply h

module _ (m : Meaning) (h : Header) (zs : Moves m) (reach : Reaches m h zs (after m h zs)) (us vs : Moves m) (begins : zs ≡ us ++ vs) where
  abbrev pub first : ℕ → ℕ
  first k = (client_in m (config m (after m h us)) k).next

  abbrev last : ℕ → ℕ
  last k = (client_in m (config m (after m h us)) k).begun

  abbrev pub IsServed : ℕ → ℕ → Type 0
  IsServed n e = ServedSince m (after m h us) (after m h zs) n e

  pub record IsTold (p : Layout) (t : ℕ) : Type 0 where
    pub decided : IsOfDecided m (after m h zs) p
    pub told : ToldSince m (after m h us) (after m h zs) p.seq p.epoch t

  abbrev pub IsNew : ℕ → Type 0
  IsNew t = IsPlace m (after m h us) (after m h zs) t

  pub new_tail : (p : Layout) (t at : ℕ) → IsTold p t → AllServed IsServed (place_in p at) → IsNew t
  new_tail p t at k f = OfTail t at p k.decided k.told (λ n i. f n (has_contained (chain_of p at) n i))

  abbrev pub SyncOk : Layout → SyncWork → Type 0
  SyncOk p w = SyncServed IsServed IsTold IsNew new_tail p w

  pub starts_ok : (p : Layout) (r : ℕ) → SyncOk p (Checking r)
  starts_ok p r = tt

  abbrev pub IsTrue : Client m → Type 0
  IsTrue c = ClientTold m SyncOk IsNew starts_ok c

  -- all that is awaited was drawn since
  abbrev pub AllNew : ℕ → Client m → Type 0
  AllNew k c = (o : Out) → Has (reserved m c) o → first k ≤ o.rid

  -- What a client hears then.

  module _ (xs ys : Moves m) (split : zs ≡ xs ++ ys) (k : ℕ) (x : Packet) (comes : Comes m (config m (after m h xs)) x (client_id k)) (new : AllNew k (client_in m (config m (after m h xs)) k)) where
    abbrev cl : Client m
    cl = client_in m (config m (after m h xs)) k

    abbrev p : Layout
    p = (client_in m (config m (after m h xs)) k).stand

    all : All m (config m (after m h xs))
    all = all_hold m h xs

    all_first : All m (config m (after m h us))
    all_first = all_hold m h us

    decided : IsOfDecided m (after m h zs) p
    decided = decided_later m h zs reach xs ys split p ((layouts_are_known m h xs (after m h xs) (reach_at m h zs reach xs ys split)).clients k)

    sent : (y : Packet) → Has (after m h xs).packets y → Sent m (after m h zs) y
    sent y i = contained (after m h zs).packets y (sent_at m h zs (header m h zs reach) (give m h zs reach) (short m h zs reach) xs ys split y i)

    unit_late : (n : ℕ) → x.from ≡ unit_id n → first k ≤ x.rid → Sent m (after m h us) x → ⊥
    unit_late n from late i =
        let y = all_first.0.1.answered n x (has_contained (after m h us).packets x i) from in
        let b = (all_first.0.0.clients k).below y.ask y.asked (y.from ∙ comes.to_node) y.request in
        let r = y.rid in
        omega (arith, b, r, late)

    seqr_late : (s t : ℕ) (ls : List StreamLink) → x.from ≡ seqr_id s → x.msg ≡ msg.Tail t ls → first k ≤ x.rid → Sent m (after m h us) x → ⊥
    seqr_late s t ls from is late i =
        let y = (answers_hold m h us).1.each s x t ls (has_contained (after m h us).packets x i) from (ap tells_links is ∙ tail_links t ls) in
        let b = (all_first.0.0.clients k).below y.ask y.has (y.from ∙ comes.to_node) y.request in
        let r = y.rid in
        omega (arith, b, r, late)

    module _ (work : Work m) (s : Sync) (works : cl.work ≡ Some work) (hand : work.hand ≡ Doing (Syncing s)) (awaited : awaits (task_awaited m p (Syncing s)) x.from x.rid ≡ true) where
      open' : (o : Out) → Has (task_awaited m p (Syncing s)) o → Has (reserved m cl) o
      open' o g = subst (λ (v : Option (Work m)). Has (work_reserved m p v) o) (sym works) (subst (λ (d : Hand m). Has (hand_reserved m p d) o) (sym hand) g)

      asks : (o : Out) → Has (task_awaited m p (Syncing s)) o → Has (sync_work_asks p s s.work) o
      unfolding task_asks
      asks o g = g

      l : Awaited (task_awaited m p (Syncing s)) x.from x.rid
      l = awaited_ask (task_awaited m p (Syncing s)) x.from x.rid awaited

      late : first k ≤ x.rid
      late = let a = new l.ask (open' l.ask l.has) in let b = l.number in omega (arith, a, b)

      -- the sequencer's answer
      tail : (rid t : ℕ) (ls : List StreamLink) → s.work ≡ Checking rid → reply x.msg ≡ IsTail t ls → IsTold p t
      tail rid t ls at says = by (checking_in p s s.work rid at l.ask (asks l.ask l.has))
        where
          by : (l.ask.to ≡ seqr_id p.seq) × (l.ask.msg ≡ msg.Check p.epoch s.oids) → IsTold p t
          by q =
              let from : x.from ≡ seqr_id p.seq = sym l.to ∙ q.0 in
              let is : x.msg ≡ msg.Tail t ls = tail_message x.msg t ls says in
              let g = (answers_hold m h xs).1.each p.seq x t ls comes.sent from (ap tells_links is ∙ tail_links t ls) in
              let same : l.ask.msg ≡ g.ask.msg = (all.0.0.clients k).agree l.ask g.ask (open' l.ask l.has) g.has (g.from ∙ comes.to_node) g.request (l.number ∙ sym g.rid) (l.to ∙ sym g.to) in
              record {
                decided = decided;
                told = record {
                  told = record {
                    streams = s.oids;
                    links = ls;
                    ask = g.ask;
                    answer = x;
                    asked = sent g.ask g.has;
                    answered = sent x comes.sent;
                    to_seqr = g.to ∙ from;
                    from_seqr = from;
                    back = sym g.from;
                    number = sym g.rid;
                    asks = sym same ∙ q.1;
                    tells = is;
                  };
                  since = λ i. seqr_late p.seq t ls from is late i;
                };
              }

      -- a unit's answer
      served : (n e : ℕ) → l.ask.to ≡ unit_id n → served_in (unit_ask l.ask.msg) ≡ Some e → NotFenced IsServed (reply x.msg) → IsServed n e
      served n e to of not =
          let from : x.from ≡ unit_id n = sym l.to ∙ to in
          let y = all.0.1.answered n x comes.sent from in
          let same : l.ask.msg ≡ y.ask.msg = (all.0.0.clients k).agree l.ask y.ask (open' l.ask l.has) y.asked (y.from ∙ comes.to_node) y.request (l.number ∙ sym y.rid) (l.to ∙ sym y.to) in
          record {
            served = record {
              ask = y.ask;
              answer = x;
              asked = sent y.ask y.asked;
              answered = sent x comes.sent;
              to_unit = y.to ∙ from;
              from_unit = from;
              back = sym y.from;
              number = sym y.rid;
              request = y.request;
              of = ap (λ (z : Msg). served_in (unit_ask z)) (sym same) ∙ of;
              kept = λ f i. not f (fenced_reply x.msg f i);
            };
            since = λ i. unit_late n from late i;
          }

      cell : (a : Place) (w : CellWork) → Has (work_asks a w) l.ask → WorkHears IsServed a w x.from.num (reply x.msg)
      cell a w g = by w (ask_of a w l.ask g)
        where
          by : (v : CellWork) → AskOf a v l.ask → WorkHears IsServed a v x.from.num (reply x.msg)
          by (Fills r) q = λ not. served (unit_at a 0) a.epoch q.0 q.1 not
          by (Copies r c i) q = λ not. served (unit_at a i) a.epoch q.0 q.1 not
          by (Probes ws) q = λ not. served x.from.num a.epoch (q.0 ∙ ap (λ (n : NodeId). unit_id n.num) l.to) q.1 not
          by (Puts r d i) q = tt
          by (Gets r) q = tt

      hears : Hears IsServed IsTold IsNew new_tail p s x.from.num (reply x.msg)
      hears = record {
        tail = tail;
        settles = λ a j at ok. cell j.place j.work (settling_in p s s.work a j at l.ask (asks l.ask l.has));
        probes = λ a j at ok. cell j.place j.work (probing_in p s s.work a j at l.ask (asks l.ask l.has));
      }

    pub hears_all : IsTrue cl → ClientHears m SyncOk IsNew starts_ok cl x.from x.rid (reply x.msg)
    hears_all true' v (Syncing s) works hand awaited =
        sync_served IsServed IsTold IsNew new_tail p s x.from.num (reply x.msg) cl.next (hears v s works hand awaited)
        (subst (λ (d : Hand m). turns.HandTold m SyncOk IsNew starts_ok p v.tail d) hand (subst (λ (o : Option (Work m)). turns.WorkTold m SyncOk IsNew starts_ok p o) works true'))
    hears_all true' v (Walking y os) works hand awaited = tt
    hears_all true' v (Appending a y) works hand awaited = tt
    hears_all true' v (Trimming t) works hand awaited = tt
    hears_all true' v (Copying' y) works hand awaited = tt
    hears_all true' v (Reconfiguring y) works hand awaited = tt

  -- A step of a client.

  pub record Steps (k : ℕ) (c d : Client m) : Type 0 where
    pub next : c.next ≤ d.next
    pub asks : (o : Out) → Has (reserved m d) o → Has (reserved m c) o ⊎ (c.next ≤ o.rid)
    pub told : AllNew k c → IsTrue c → IsTrue d
    pub asked : AllNew k c → IsTrue c → (w : Work m) → c.work ≡ Some w → IsAsk m w.command → IsWalk m (task_in m w.hand) → AskedAt m SyncOk IsNew starts_ok c.tx d

  stays : (k : ℕ) (c : Client m) → Steps k c c
  stays k c = record { next = omega arith; asks = λ o g. inl g; told = λ n t. t; asked = λ n t w has i j. inl refl }

  drawn : (k : ℕ) (c : Client m) (t : ClientTurn m) → TurnDraws' m c t → (IsTrue c → AllNew k c → IsTrue t.now) → (AllNew k c → IsTrue c → (w : Work m) → c.work ≡ Some w → IsAsk m w.command → IsWalk m (task_in m w.hand) → AskedAt m SyncOk IsNew starts_ok c.tx t.now) → Steps k c t.now
  drawn k c t d f g = record { next = d.is.up; asks = λ o i. by o (d.is.either o (has_right t.sends (reserved m t.now) o i)); told = λ n y. f y n; asked = g }
    where
      by : (o : Out) → Has (reserved m c) o ⊎ Has d.is.new o → Has (reserved m c) o ⊎ (c.next ≤ o.rid)
      by o (inl i) = inl i
      by o (inr i) = inr (d.is.is_new.from o i)

  busy_asked : (c : Client m) (x : CommandOf m) (o : Option Refusal) → (o ≡ None → c.work ≡ None) → (w : Work m) → c.work ≡ Some w → AskedAt m SyncOk IsNew starts_ok c.tx (refused_or m c x o).now
  busy_asked c x None free w has = no_some w (sym (free refl) ∙ has)
  busy_asked c x (Some why) free w has = inl refl

  command_asked : (c : Client m) (x : CommandOf m) (w : Work m) → c.work ≡ Some w → AskedAt m SyncOk IsNew starts_ok c.tx (client_command m c x).now
  unfolding client_command
  command_asked c x w has = busy_asked c x (refusal m c x) (not_busy m c x) w has

  tick_asked : (c : Client m) → AskedAt m SyncOk IsNew starts_ok c.tx (client_tick m c).now
  unfolding client_tick
  tick_asked c = by c.work
    where
      by : (w : Option (Work m)) → AskedAt m SyncOk IsNew starts_ok c.tx (step.tick_by m c w).now
      by None = inl refl
      by (Some w) = inl refl

  module _ (xs ys : Moves m) (split : zs ≡ xs ++ ys) where
    turn_steps : (k : ℕ) (t : ClientTurn m) → ClientInput m (config m (after m h xs)) k t → Steps k (client_in m (config m (after m h xs)) k) t.now
    turn_steps k t (Commanded x) = drawn k (client_in m (config m (after m h xs)) k) _ (command_draws m (client_in m (config m (after m h xs)) k) x)
        (λ y n. command_fine m SyncOk IsNew starts_ok (client_in m (config m (after m h xs)) k) x y) (λ n y w has i j. command_asked (client_in m (config m (after m h xs)) k) x w has)
    turn_steps k t (Hears' x comes) = drawn k (client_in m (config m (after m h xs)) k) _ (deliver_draws m (client_in m (config m (after m h xs)) k) x.from x.rid x.msg)
        (λ y n. deliver_fine m SyncOk IsNew starts_ok (client_in m (config m (after m h xs)) k) x.from x.rid x.msg y (hears_all xs ys split k x comes n y))
        (λ n y w has i j. deliver_at m SyncOk IsNew starts_ok (client_in m (config m (after m h xs)) k) x.from x.rid x.msg w has i j y (hears_all xs ys split k x comes n y))
    turn_steps k t Ticks' = drawn k (client_in m (config m (after m h xs)) k) _ (tick_draws m (client_in m (config m (after m h xs)) k))
        (λ y n. tick_fine m SyncOk IsNew starts_ok (client_in m (config m (after m h xs)) k) y) (λ n y w has i j. tick_asked (client_in m (config m (after m h xs)) k))

    steps_cases : Cases m (config m (after m h xs)) (λ d. (k : ℕ) → Steps k (client_in m (config m (after m h xs)) k) (client_in m d k))
    steps_cases = record {
      idle = λ k. stays k (client_in m (config m (after m h xs)) k);
      unit = λ u p a less k. stays k (client_in m (config m (after m h xs)) k);
      layout = λ n p a less k. stays k (client_in m (config m (after m h xs)) k);
      seqr = λ s t i less k. stays k (client_in m (config m (after m h xs)) k);
      client = λ n t i less. at_set (after m h xs).clients n t.now (new_client m (after m h xs).cluster) (λ j x. Steps j (client_in m (config m (after m h xs)) j) x) less (turn_steps n t i) (λ j other. stays j (client_in m (config m (after m h xs)) j));
    }

    pub steps : (e : EventOf m) (k : ℕ) → Steps k (client m (after m h xs) k) (client m (happens m (after m h xs) e) k)
    steps e = step_cases m (after m h xs) (λ d. (k : ℕ) → Steps k (client_in m (config m (after m h xs)) k) (client_in m d k)) steps_cases e

  -- A client whose transaction was begun since.
  pub record IsSince (k : ℕ) (c : Client m) : Type 0 where
    pub asks : AllNew k c
    pub told : IsTrue c
    pub snap : (t : Tx) (s : ℕ) → c.tx ≡ Some t → t.snapshot ≡ Some s → IsNew s

  pub record Since (w : World m) : Type 0 where
    pub next : (k : ℕ) → first k ≤ (client m w k).next
    pub opens : (k : ℕ) (t : Tx) → (client m w k).tx ≡ Some t → last k < t.number → IsSince k (client m w k)
    pub told : (k n : ℕ) (o : Oid) (q : m.ask) (s : ℕ) (a : m.answer) → Tells m (trace m w) k n (told.Asked o q s a) → last k < n → IsNew s

  book : (xs : Moves m) → WorldBook m (after m h xs)
  book xs = run_book m xs (start m h) (start_book m h)

  snap_at : (xs : Moves m) (k : ℕ) → Snap m (trace m (after m h xs)) k (client m (after m h xs) k)
  snap_at xs k = snap_run m k xs (start m h) (start_book m h) (start_snap m h k)

  starts : Since (after m h us)
  starts = record {
    next = λ k. omega arith;
    opens = λ k t is less. absurd (let le = ((book us k).number t is).1 in omega (arith, le, less));
    told = λ k n o q s a x less. absurd (let le = (book us k).below _ (marks.has_contained (trace m (after m h us)) _ x.here) refl in omega (arith, le, less));
  }

  module _ (xs : Moves m) (e : EventOf m) (rest : Moves m) (split : zs ≡ xs ++ Takes e ∷ rest) (s : Since (after m h xs)) where
    made : (k : ℕ) → Steps k (client m (after m h xs) k) (client m (happens m (after m h xs) e) k)
    made k = steps xs (Takes e ∷ rest) split e k

    stepped : (k : ℕ) → Stepped m k e (after m h xs) (happens m (after m h xs) e)
    stepped k = books.step m (after m h xs) e (book xs) k

    next_now : (k : ℕ) → first k ≤ (client m (happens m (after m h xs) e) k).next
    next_now k = let a = s.next k in let b = (made k).next in omega (arith, a, b)

    abbrev old_of : ℕ → Client m
    old_of k = client m (after m h xs) k

    abbrev new_of : ℕ → Client m
    new_of k = client m (happens m (after m h xs) e) k

    opens_now : (k : ℕ) (t : Tx) → (client m (happens m (after m h xs) e) k).tx ≡ Some t → last k < t.number → IsSince k (client m (happens m (after m h xs) e) k)
    opens_now k t is less = by (stepped k)
      where
        by : Stepped m k e (after m h xs) (happens m (after m h xs) e) → IsSince k (new_of k)
        by (Rests same ys traced alone) = subst (λ (x : Client m). IsSince k x) (sym same) (s.opens k t (ap (λ (x : Client m). x.tx) (sym same) ∙ is) less)
        by (Turns r turn f g' same traced) = on (from_open m (old_of k) r t now turn)
          where
            now : r.now.tx ≡ Some t
            now = ap (λ (x : Client m). x.tx) (sym same) ∙ is

            on : FromOpen m (old_of k) r t → IsSince k (new_of k)
            on (inl y) = was (s.opens k y.0 y.1 (subst (λ (n : ℕ). last k < n) (sym y.2) less))
              where
                was : IsSince k (old_of k) → IsSince k (new_of k)
                was old = record {
                  asks = λ o i. new o ((made k).asks o i);
                  told = (made k).told old.asks old.told;
                  snap = λ t' n at snap. snap_turned m IsNew (old_of k) r t' n (ap (λ (x : Client m). x.tx) (sym same) ∙ at) snap old.snap (new_of k) (ap (λ (x : Client m). x.tx) same) (step_sees m (after m h xs) e k).0 ((made k).asked old.asks old.told) turn;
                }
                  where
                    new : (o : Out) → Has (reserved m (old_of k)) o ⊎ ((old_of k).next ≤ o.rid) → first k ≤ o.rid
                    new o (inl i) = old.asks o i
                    new o (inr le) = let a = s.next k in omega (arith, a, le)
            on (inr y) = record {
              asks = λ o i. absurd (subst (λ (z : Option (Work m)). Has (work_reserved m (new_of k).stand z) o) idle i);
              told = subst (λ (z : Option (Work m)). turns.WorkTold m SyncOk IsNew starts_ok (new_of k).stand z) (sym idle) tt;
              snap = λ t' n at snap. no_some n (sym y.1 ∙ (ap (λ (z : Tx). z.snapshot) (same_some t t' (sym is ∙ at)) ∙ snap));
            }
              where
                idle : (new_of k).work ≡ None
                idle = ap (λ (x : Client m). x.work) same ∙ y.0

    there : after m h (xs ++ Takes e ∷ []) ≡ happens m (after m h xs) e
    there = then_takes m h xs e

    told_now : (k n : ℕ) (o : Oid) (q : m.ask) (at : ℕ) (a : m.answer) → Tells m (trace m (happens m (after m h xs) e)) k n (told.Asked o q at a) → last k < n → IsNew at
    told_now k n o q at a x less = by (stepped k)
      where
        u : MarkOf m
        u = record { event = x.event; client = k; tx = n; what = told.Asked o q at a }

        here : marks.Has (trace m (happens m (after m h xs) e)) u
        here = marks.has_contained (trace m (happens m (after m h xs) e)) u x.here

        old : marks.Has (trace m (after m h xs)) u → IsNew at
        old i = s.told k n o q at a (record { number = x.number; event = x.event; here = contained_has (trace m (after m h xs)) u i }) less

        by : Stepped m k e (after m h xs) (happens m (after m h xs) e) → IsNew at
        by (Rests same ys traced alone) = on (marks.has_either (trace m (after m h xs)) ys u (subst (λ (tr : Trace m). marks.Has tr u) traced here))
          where
            on : marks.Has (trace m (after m h xs)) u ⊎ marks.Has ys u → IsNew at
            on (inl i) = old i
            on (inr i) = absurd (alone u i refl)
        by (Turns r turn f g' same traced) = on (marks.has_either (trace m (after m h xs)) (map (mark m (after m h xs).event k) r.notes) u (subst (λ (tr : Trace m). marks.Has tr u) traced here))
          where
            open'' : (y : (t : Tx) × (r.now.tx ≡ Some t) × (t.number ≡ n)) → IsNew at
            open'' y =
                let is : (client m (happens m (after m h xs) e) k).tx ≡ Some y.0 = ap (λ (z : Client m). z.tx) same ∙ y.1 in
                let snap : Snap m (trace m (happens m (after m h xs) e)) k (client m (happens m (after m h xs) e) k) = subst (λ (z : World m). Snap m (trace m z) k (client m z k)) there (snap_at (xs ++ Takes e ∷ []) k) in
                (opens_now k y.0 is (subst (λ (j : ℕ). last k < j) (sym y.2) less)).snap y.0 at is (snap.told y.0 o q at a is (subst (λ (j : ℕ). Tells m (trace m (happens m (after m h xs) e)) k j (told.Asked o q at a)) (sym y.2) x))

            on : marks.Has (trace m (after m h xs)) u ⊎ marks.Has (map (mark m (after m h xs).event k) r.notes) u → IsNew at
            on (inl i) = old i
            on (inr i) =
                let j = has_image (mark m (after m h xs).event k) r.notes u i in
                open'' (told_open m (client m (after m h xs) k) (awaits_at m h xs k) r n x.number o q at a j.0 j.1 (sym (ap (λ (y : MarkOf m). y.tx) j.2)) (sym (ap (λ (y : MarkOf m). y.what) j.2)) turn)

    since_now : Since (after m h (xs ++ Takes e ∷ []))
    since_now = subst Since (sym there) (record { next = next_now; opens = opens_now; told = told_now })

  on_move : (xs : Moves m) (x : Move m) (rest : Moves m) → zs ≡ xs ++ x ∷ rest → Since (after m h xs) → Since (after m h (xs ++ x ∷ []))
  on_move xs Counts rest e s = subst Since (sym (then_next m h xs)) (record { next = s.next; opens = s.opens; told = s.told })
  on_move xs (Takes x) rest e s = since_now xs x rest e s

  pub snapshots_here : SnapshotsNew m (after m h us) (after m h zs)
  snapshots_here k n o q at a since tells = ends.told k n o q at a tells since
    where
      ends : Since (after m h zs)
      ends = subst (λ (ms : Moves m). Since (after m h ms)) (sym begins)
          (on_moves m h zs reach (λ (ms : Moves m). Since (after m h ms)) on_move us vs [] (begins ∙ ap (λ (ms : Moves m). us ++ ms) (sym (append-nil vs))) starts)

module _ (m : Meaning) where
  pub snapshots_are_new : EachPassed m (SnapshotsNew m)
  snapshots_are_new h ms u v r x =
      subst (λ (y : World m). SnapshotsNew m y v) (sym x.is) (subst (λ (y : World m). SnapshotsNew m (after m h x.before) y) (sym r.goes.is) (snapshots_here m h ms (reached m h ms v r) x.before x.after x.split))
