-- Over a run, what each client's walks have settled, and what its kept view rests on; so walks settle the streams that they walk.
use Rattle.std.proofs.Common.{◌≡◌, ℕ, ◌<◌, ◌≤◌, List, [], ◌∷◌, ◌++◌, length, true, refl, sym, ◌∙◌, subst, inl, arith, Some, None, append-nil}
use Rattle.std.specs.Prelude.{slice_index_or, Contains}
use Rattle.tg_base.specs.Clusters.{Header}
use Rattle.tg_base.specs.Layouts.{Layout}
use Rattle.tg_base.specs.declared.cell.Cell.{Cell}
use Rattle.tg_base.specs.declared.ids.Oid.{Oid}
use Rattle.tg_base.specs.declared.ids.Role.TheVariants as role
use Rattle.tg_base.specs.declared.marks.StreamLink.{StreamLink}
use Rattle.tg_base.specs.declared.packet.Packet.{Packet}
use Rattle.tg_kind.specs.Meaning.{Meaning}
use Rattle.tg_model.specs.Kinds.{CommandOf, EventOf}
use Rattle.tg_model.specs.declared.command.Command.TheVariants as cmd
use Rattle.tg_model.specs.declared.command.Event.TheVariants.{Command as Commands, Deliver, Lose, Tick, Stop}
use Rattle.tg_protocol.specs.Words.{cell_at, client_id, numbers}
use Rattle.tg_protocol.specs.Requests.{awaits, Next, Goes, Learns, Ends}
use Rattle.tg_protocol.specs.Replies.{reply}
use Rattle.tg_protocol.specs.Syncing.{Sync}
use Rattle.tg_protocol.specs.Walking.{Walk, Members, walk_feed}
use Rattle.tg_protocol.specs.Views.{View}
use Rattle.tg_protocol.specs.Logs.{Log, entries_of}
use Rattle.tg_protocol.specs.Clients.{Syncing, Walking, Appending, Trimming, Copying', Reconfiguring, Doing, Work, Client, new_client}
use Rattle.tg_protocol.specs.Answers.{play_target}
use Rattle.tg_protocol.specs.ClientSteps.{ClientTurn, task_awaited}
use Rattle.tg_protocol.specs.Worlds.{World, start, log, happens, next_event}
use Rattle.tg_protocol.specs.Runs.{Moves, Next as Counts, Takes, run, Reaches}
use Rattle.tg_law_layouts.specs.Moves.After.{after}
use Rattle.tg_law_layouts.specs.Moves.Configs.{Config, config, client_in}
use Rattle.tg_law_layouts.proofs.Moves.Growth.{IsCalm, by_client}
use Rattle.tg_law_layouts.proofs.Moves.Lists.{contained, at_map, at_set}
use Rattle.tg_law_layouts.proofs.Moves.Members.{has_got}
use Rattle.tg_law_layouts.proofs.Moves.Moves.{Comes, client_turn, ClientInput, Commanded, Hears', Ticks', step_cases, run_keeps}
use Rattle.tg_law_layouts.proofs.Moves.Scripts.{run_both}
use Rattle.tg_law_layouts.proofs.Layouts.Decisions.{Pax, pax_keep}
use Rattle.tg_law_layouts.proofs.Layouts.Layouts.{start_pax}
use Rattle.tg_law_cells.proofs.Entries.Lists.{joined}
use Rattle.tg_law_replies.specs.History.Worlds.{entries_in}
use Rattle.tg_law_replies.specs.Replies.Steps.{EachDelivery, EachEvent}
use Rattle.tg_law_walks.specs.Walks.Lists.{backs}
use Rattle.tg_law_walks.specs.Walks.Laws.{IsFound}
use Rattle.tg_law_walks.specs.Lists.Drafted.{DraftsFit}
use Rattle.tg_law_walks.specs.Lists.Spared.{TrimsSaved, TrimsWereSpare}
use Rattle.tg_law_walks.specs.Lists.Telling.{ToldLinks}
use Rattle.tg_law_walks.proofs.Lists.Ends.{cell_of}
use Rattle.tg_law_walks.proofs.Lists.Fits.{drafts_fit}
use Rattle.tg_law_walks.proofs.Lists.Safe.{safe_of}
use Rattle.tg_law_walks.proofs.Lists.Reached.{before_reached}
use Rattle.tg_law_cells.specs.Order.Tails.{ConfirmedTail}
use Rattle.tg_law_syncs.proofs.Known.Knowing.{Knows}
use Rattle.tg_law_syncs.proofs.Known.Views.{played_low}
use Rattle.tg_law_syncs.proofs.Exact.Exact.{work_ends}
use Rattle.tg_law_syncs.proofs.Each.{each_more}
use Rattle.tg_law_syncs.proofs.Exact.Finds.{event_more, delivery_exact, of_client}
use Rattle.tg_law_syncs.proofs.Exact.Held as exact
use Rattle.tg_law_headline.specs.Trims.Floors.{IsSettledFor}
use Rattle.tg_law_headline.proofs.Floors.Tails as floors
use Rattle.tg_law_headline.proofs.Floors.Tails.{IsTold}
use Rattle.tg_law_syncs.specs.Settling.Visits.{IsFull, AreFull, IsIssuedTo}
use Rattle.tg_law_syncs.proofs.Settling.Full.{entries_are_full, tails_are_full}
use Rattle.tg_law_syncs.specs.Timely.Timely.{SettledBy}
use Rattle.tg_law_syncs.proofs.Timely.Standing.{turn_rises}
use Rattle.tg_law_syncs.proofs.Timely.Reading.{Learnt, knows_more}
use Rattle.tg_law_syncs.proofs.Timely.Timely as timely
use Rattle.tg_law_syncs.proofs.Timely.Timely.{Timely}
use Rattle.tg_law_headline.specs.Settled.Settled.{WalksSettle}
use Rattle.tg_law_headline.proofs.Settled.Rounds.{SavedTo}
use Rattle.tg_law_headline.proofs.Settled.Checks.{SyncHears}
use Rattle.tg_law_headline.proofs.Settled.Turns.{IsSettling, IsAtEnd, MeetsBy}
use Rattle.tg_law_headline.proofs.Settled.Steps.{Hears, settling_up, command_fine, deliver_fine, tick_fine}
use Rattle.tg_law_headline.proofs.Settled.Ends.{AtEnd, delivery_at}
use Rattle.tg_law_headline.proofs.Settled.Heard.{lists_told, walk_meets}
use Rattle.tg_law_headline.proofs.Settled.Joins.{S, Tl, up, joins}

module _ (m : Meaning) where
  -- a command plays no further than the tail
  target_low : (w : Work m) (x : CommandOf m) → w.at ≤ w.tail → play_target m w x ≤ w.tail
  target_low w cmd.End le = le
  target_low w x le = omega arith

module _ (m : Meaning) (h : Header) (zs : Moves m) (r : Reaches m h zs (after m h zs)) (trims : TrimsWereSpare m h zs) (fit : DraftsFit m (after m h zs)) where
  abbrev Se : ℕ → ℕ → Type 0
  Se = S m h zs r trims

  abbrev Ta : ℕ → ℕ → Type 0
  Ta = Tl m h zs r trims

  -- What a tail has: it was told by the sequencer of a decided layout with its lists.

  record IsToldWith (p : Layout) (os : List Oid) (t : ℕ) (ls : List StreamLink) : Type 0 where
    told : IsTold m h zs r trims fit p t
    links : ToldLinks m (after m h zs) p.seq p.epoch os t ls

  abbrev Sure : Layout → ℕ → Type 0
  Sure p t = floors.Settled m h zs r trims fit p t

  low : (p : Layout) (t : ℕ) → t ≤ p.start → Sure p t
  low p t le = inl le

  ends : (p : Layout) (os : List Oid) (t : ℕ) (ls : List StreamLink) → IsToldWith p os t ls → Sure p t → Ta p.epoch t × ((o : Oid) → Contains os o → IsFull (IsIssuedTo m (after m h zs) p.epoch o) t (backs o ls))
  ends p os t ls g s =
      let c : ConfirmedTail m (after m h zs) (after m h zs) p.epoch t = record { some = g.told.some; layout = p; decided = g.told.decided; told = g.told.told; confirmed = s } in
      (c, λ o i. tails_are_full m h zs (after m h zs) r trims p.epoch t os ls o c g.links i)

  abbrev Settles : ℕ → Log → Type 0
  Settles n l = (q : ℕ) (c : Cell) → cell_at l q ≡ Some c → SettledBy m (after m h zs) n q c

  settles : (n : ℕ) (l : Log) → Settles n l → (q : ℕ) (c : Cell) → cell_at l q ≡ Some c → Se n q
  settles n l f q c is = let s = f q c is in record { cell = c; settled = s.settled; in_time = s.in_time }

  -- what a client has read is the log's
  full : (n : ℕ) (l : Log) → Settles n l → (e t : ℕ) → Ta e t → AreFull l (IsIssuedTo m (after m h zs) e) t
  full n l f e t c o q d ps less is points =
      entries_are_full m h zs (after m h zs) r trims e t c o q d ps less (cell_of m h zs r (safe_of m h zs r trims) q d (f q d is).settled) points

  join : (n : ℕ) (o : Oid) (u : ℕ) → SavedTo m (after m h zs) Se Ta n o u → (e t q : ℕ) → Ta e t → IsIssuedTo m (after m h zs) e o q → q < t → q < u → Se n q
  join n = joins m h zs r trims n

  abbrev at : Moves m → ℕ → Client m
  at xs k = client_in m (config m (after m h xs)) k

  abbrev Settling : ℕ → Client m → Type 0
  Settling n c = IsSettling m (after m h zs) Se Ta IsToldWith Sure n c

  abbrev Ok : Client m → Type 0
  Ok c = Settling c.stand.epoch c

  record Held (c : Config m) : Type 0 where
    clients : (k : ℕ) → Ok (client_in m c k)

  -- What a client hears.

  module _ (xs ys : Moves m) (split : zs ≡ xs ++ ys) (now : TrimsSaved m (after m h xs)) (k : ℕ) (x : Packet) (comes : Comes m (config m (after m h xs)) x (client_id k)) where
    abbrev cl : Client m
    cl = client_in m (config m (after m h xs)) k

    abbrev p : Layout
    p = (client_in m (config m (after m h xs)) k).stand

    known : Timely m h zs r trims fit cl
    known = (timely.held_at m h zs r trims fit xs ys split).clients k

    abbrev Read : Type 0
    Read = Learnt (timely.E m h zs r trims fit xs ys split k x comes known) (timely.one m h zs r trims fit p.epoch) known.of (timely.Tells m h zs r trims fit xs ys split k x comes known)

    read : Read
    read = timely.tells m h zs r trims fit xs ys split k x comes known

    knows : Knows m read.more cl
    knows = knows_more m known.of read.more read.within cl known.knows

    module _ (w : Work m) (works : cl.work ≡ Some w) where
      sync_hears : (s : Sync) → w.hand ≡ Doing (Syncing s) → awaits (task_awaited m p (Syncing s)) x.from x.rid ≡ true → SyncHears (IsToldWith p s.oids) (Sure p) s x.from.num (reply x.msg) cl.next
      sync_hears s hand awaited =
          let f = floors.hears_all m h zs r trims fit xs ys split now k x comes w (Syncing s) works hand awaited in
          record {
            tail = λ rid t ls is says. record { told = (f.tail rid t ls is says).0; links = lists_told m h zs r xs ys split k x comes w s works hand awaited rid t ls is says };
            gone = λ a j b is pos end. f.gone a j b is pos end tt;
            done = λ a j c is pos end. f.done a j c is pos end tt;
          }

      meets : (y : Walk) (os : List Oid) → w.hand ≡ Doing (Walking y os) → awaits (task_awaited m p (Walking y os)) x.from x.rid ≡ true → (to : Next Walk Members) → (walk_feed p y y.job x.from.num (reply x.msg) cl.next).to ≡ to → MeetsBy m (after m h zs) Se Ta IsToldWith Sure p.epoch to
      meets y os hand awaited (Goes z) e = tt
      meets y os hand awaited (Learns z) e = tt
      meets y os hand awaited (Ends z) e = λ b q is less. walk_meets m h zs r xs ys split k x comes now w y os works hand awaited z b q e is less

    hears : Hears m (after m h zs) Se Ta IsToldWith Sure read.more p.epoch cl x.from x.rid (reply x.msg)
    hears w (Syncing s) works hand awaited = (sync_hears w works s hand awaited, read.heard w (Syncing s) works hand awaited)
    hears w (Walking y os) works hand awaited = (read.heard w (Walking y os) works hand awaited, meets w works y os hand awaited (walk_feed p y y.job x.from.num (reply x.msg) cl.next).to refl)
    hears w (Appending a y) works hand awaited = tt
    hears w (Trimming t) works hand awaited = tt
    hears w (Copying' y) works hand awaited = tt
    hears w (Reconfiguring y) works hand awaited = tt

    -- where all streams are walked, they are those that the client hosts, and the view is played up to the tail at most
    at_end : (c : Client m) (w : Work m) → IsFound m (log m (after m h zs)) c w → IsAtEnd m (after m h zs) Se Ta IsToldWith Sure c w
    at_end c w f = record { hosts = f.hosts; played = played_low m c w w.tail f.upto (target_low m w w.command f.at) }

    rounds_end : EachDelivery m h.objects (entries_in m (after m h zs)) (IsAtEnd m (after m h zs) Se Ta IsToldWith Sure) cl cl.work x.from x.rid (reply x.msg)
    rounds_end = each_more m h.objects (entries_of (log m (after m h zs))) (entries_in m (after m h zs)) (IsFound m (log m (after m h zs))) (IsAtEnd m (after m h zs) Se Ta IsToldWith Sure) at_end cl x.from x.rid (reply x.msg)
        (delivery_exact m (log m (after m h zs)) (exact.byp m h zs r trims fit) (exact.linked m h zs r trims fit) h.objects cl cl.work x.from x.rid (reply x.msg) refl ((exact.held_at m h zs r trims fit xs ys split).clients k).work
        (work_ends m h xs (after m h xs) (after m h zs) (before_reached m h zs r xs ys split) (ys, exact.goes_on m h zs r xs ys split) (subst (λ (ms : Moves m). TrimsWereSpare m h ms) split trims) k x (contained _ x comes.sent) comes.to_node cl.work refl))

  -- A step.

  pax : (xs : Moves m) → Pax m (config m (after m h xs))
  pax xs = run_keeps m (Pax m) (pax_keep m) xs (start m h) (start_pax m h)

  module _ (xs : Moves m) (e : EventOf m) (ys : Moves m) (split : zs ≡ xs ++ Takes e ∷ ys) (held : Held (config m (after m h xs))) where
    spare : TrimsSaved m (after m h xs)
    spare = trims.spare (after m h xs) (record { before = xs; event = e; later = ys; split = split; is = refl })

    known_at : (k : ℕ) → Timely m h zs r trims fit (client_in m (config m (after m h xs)) k)
    known_at k = (timely.held_at m h zs r trims fit xs (Takes e ∷ ys) split).clients k

    turned : (k : ℕ) (t : ClientTurn m) → ClientInput m (config m (after m h xs)) k t → Ok t.now
    turned k t i = settling_up m (after m h zs) Se Ta IsToldWith Sure (up m h zs r trims) (client_in m (config m (after m h xs)) k).stand.epoch t.now.stand.epoch (turn_rises m (config m (after m h xs)) (pax xs) k t i) t.now (by t i)
      where
        by : (u : ClientTurn m) → ClientInput m (config m (after m h xs)) k u → Settling (client_in m (config m (after m h xs)) k).stand.epoch u.now
        by u (Commanded x) =
            let g = known_at k in
            command_fine m (after m h zs) Se Ta IsToldWith Sure g.of (client_in m (config m (after m h xs)) k).stand.epoch (settles (at xs k).stand.epoch g.of g.each) (full (at xs k).stand.epoch g.of g.each) ends (join (at xs k).stand.epoch) low h.objects (entries_in m (after m h zs))
            (client_in m (config m (after m h xs)) k) x (held.clients k)
        by u (Hears' x comes) =
            let g = read xs (Takes e ∷ ys) split spare k x comes in
            deliver_fine m (after m h zs) Se Ta IsToldWith Sure g.more (client_in m (config m (after m h xs)) k).stand.epoch (settles (at xs k).stand.epoch g.more g.each) (full (at xs k).stand.epoch g.more g.each) ends (join (at xs k).stand.epoch) low h.objects (entries_in m (after m h zs))
            (client_in m (config m (after m h xs)) k) (omega arith) x.from x.rid (knows xs (Takes e ∷ ys) split spare k x comes) (held.clients k) x.msg (hears xs (Takes e ∷ ys) split spare k x comes) (rounds_end xs (Takes e ∷ ys) split spare k x comes)
        by u Ticks' =
            let g = known_at k in
            tick_fine m (after m h zs) Se Ta IsToldWith Sure g.of (client_in m (config m (after m h xs)) k).stand.epoch (settles (at xs k).stand.epoch g.of g.each) (full (at xs k).stand.epoch g.of g.each) ends (join (at xs k).stand.epoch) low h.objects (entries_in m (after m h zs))
            (client_in m (config m (after m h xs)) k) (held.clients k)

    calm : IsCalm m role.Client (config m (after m h xs)) Held
    calm d q = record { clients = λ k. subst Ok (λ i. slice_index_or (sym (q.clients refl) i) k (new_client m (sym q.cluster i) k)) (held.clients k) }

    own : (k : ℕ) (t : ClientTurn m) → ClientInput m (config m (after m h xs)) k t → k < length (after m h xs).clients → Held (client_turn m (config m (after m h xs)) k t)
    own k t i less = record { clients = at_set (after m h xs).clients k t.now (new_client m (after m h xs).cluster) (λ j y. Ok y) less (turned k t i) (λ j other. held.clients j) }

    stepped : Held (config m (happens m (after m h xs) e))
    stepped = step_cases m (after m h xs) Held (by_client m Held (config m (after m h xs)) held calm own) e

  -- Along the run.

  then_takes : (xs : Moves m) (e : EventOf m) → after m h (xs ++ Takes e ∷ []) ≡ happens m (after m h xs) e
  unfolding run
  then_takes xs e = run_both m xs (Takes e ∷ []) (start m h)

  then_next : (xs : Moves m) → after m h (xs ++ Counts ∷ []) ≡ next_event m (after m h xs)
  unfolding run
  then_next xs = run_both m xs (Counts ∷ []) (start m h)

  held_on : (xs ms ys : Moves m) → zs ≡ xs ++ (ms ++ ys) → Held (config m (after m h xs)) → Held (config m (after m h (xs ++ ms)))
  held_on xs [] ys e a = subst (λ (us : Moves m). Held (config m (after m h us))) (sym (append-nil xs)) a
  held_on xs (Counts ∷ ms) ys e a =
      subst (λ (us : Moves m). Held (config m (after m h us))) (joined xs (Counts ∷ []) ms)
      (held_on (xs ++ Counts ∷ []) ms ys (e ∙ sym (joined xs (Counts ∷ []) (ms ++ ys))) (subst (λ (u : World m). Held (config m u)) (sym (then_next xs)) (record { clients = a.clients })))
  held_on xs (Takes x ∷ ms) ys e a =
      subst (λ (us : Moves m). Held (config m (after m h us))) (joined xs (Takes x ∷ []) ms)
      (held_on (xs ++ Takes x ∷ []) ms ys (e ∙ sym (joined xs (Takes x ∷ []) (ms ++ ys))) (subst (λ (u : World m). Held (config m u)) (sym (then_takes xs x)) (stepped xs x (ms ++ ys) e a)))

  none_view : (y : View m) → None ≡ Some y → ⊥
  none_view y e = cc

  start_client : (k : ℕ) → Ok (new_client m h k)
  unfolding new_client
  start_client k = record { kept = λ y o is i. absurd (none_view y is); work = tt }

  start_held : Held (config m (after m h []))
  unfolding run start
  start_held = record { clients = λ k. at_map (new_client m h) (numbers h.clients 0) k (new_client m h k) Ok (λ j. start_client j) (start_client k) }

  here : zs ≡ zs ++ []
  here = sym (append-nil zs)

  held_now : Held (config m (after m h zs))
  held_now = held_on [] zs [] here start_held

  -- So wherever a further step comes to the end of a command's walks, each stream that was walked is settled up to the tail.

  ended : TrimsSaved m (after m h zs) → (e : EventOf m) → EachEvent m h.objects (entries_in m (after m h zs)) (AtEnd m (after m h zs) Se Ta) (after m h zs) e
  ended now (Deliver i) = λ x has is on.
      let k = x.to.num in
      let comes : Comes m (config m (after m h zs)) x (client_id x.to.num) = record { sent = has_got (after m h zs).packets i x has; to_node = of_client x.to is } in
      let g = read zs [] here now k x comes in
      delivery_at m (after m h zs) Se Ta IsToldWith Sure g.more (client_in m (config m (after m h zs)) k).stand.epoch (settles (at zs k).stand.epoch g.more g.each) (full (at zs k).stand.epoch g.more g.each) ends (join (at zs k).stand.epoch) low (up m h zs r trims) h.objects (entries_in m (after m h zs))
      (client_in m (config m (after m h zs)) k) (omega arith) (omega arith) x.from x.rid (knows zs [] here now k x comes) (held_now.clients k) (reply x.msg) (hears zs [] here now k x comes)
  ended now (Commands k x) = tt
  ended now (Lose i) = tt
  ended now (Tick y) = tt
  ended now (Stop y) = tt

  abbrev Settled' : Client m → Work m → Type 0
  Settled' c w = (o : Oid) → Contains w.oids o → IsSettledFor m (after m h zs) o w.tail c.stand.epoch

  settled_for : (c : Client m) (w : Work m) → AtEnd m (after m h zs) Se Ta c w → Settled' c w
  settled_for c w f o i =
      let s = f o i in
      record { epoch = s.epoch; up_to = s.up_to; tail = s.confirmed; settled = λ j q os ls issued here' less. s.settled q (record { seqr = j; streams = os; links = ls; issued = issued; here = here' }) less }

  pub settle : TrimsSaved m (after m h zs) → (e : EventOf m) → EachEvent m h.objects (entries_in m (after m h zs)) Settled' (after m h zs) e
  settle now e = event_more m h.objects (entries_in m (after m h zs)) (entries_in m (after m h zs)) (AtEnd m (after m h zs) Se Ta) Settled' settled_for (after m h zs) e (ended now e)

module _ (m : Meaning) where
  pub walks_settle : WalksSettle m
  walks_settle h ms w e r spare =
      subst (λ (u : World m). Reaches m h ms u → EachEvent m h.objects (entries_in m u) (λ c y. (o : Oid) → Contains y.oids o → IsSettledFor m u o y.tail c.stand.epoch) u e) (sym r.goes.is)
      (λ a. settle m h ms a spare.were (drafts_fit m h ms (after m h ms) a) spare.now e) r
