-- Over a run, what clients that sync have of sequencers' answers is true of the log that the run ends with.
use Rattle.std.proofs.Common.{◌≡◌, ℕ, ◌+◌, ◌-◌, ◌<◌, ◌≤◌, List, [], ◌∷◌, ◌++◌, length, true, refl, sym, ap, ◌∙◌, subst, inl, inr, arith, Some, Option, append-nil}
use Rattle.std.specs.Prelude.{slice_index_or}
use Rattle.tg_base.specs.Clusters.{Header}
use Rattle.tg_base.specs.Layouts.{Layout}
use Rattle.tg_base.specs.declared.ids.Oid.{Oid}
use Rattle.tg_base.specs.declared.ids.Role.TheVariants as role
use Rattle.tg_base.specs.declared.marks.StreamLink.{StreamLink}
use Rattle.tg_base.specs.declared.msg.Msg.{Msg}
use Rattle.tg_base.specs.declared.msg.Msg.TheVariants as msg
use Rattle.tg_base.specs.declared.packet.Out.{Out}
use Rattle.tg_base.specs.declared.packet.Packet.{Packet}
use Rattle.tg_base.proofs.Rules.{layout_rules}
use Rattle.tg_kind.specs.Meaning.{Meaning}
use Rattle.tg_model.specs.Kinds.{EventOf}
use Rattle.tg_protocol.specs.Words.{client_id, seqr_id, unit_id, numbers}
use Rattle.tg_protocol.specs.Units.{unit_ask}
use Rattle.tg_protocol.specs.Requests.{awaits, Ends}
use Rattle.tg_protocol.specs.Replies.{reply, IsTail}
use Rattle.tg_protocol.specs.Cells.{Place, CellJob, Gone, cell_asks, cell_feed}
use Rattle.tg_protocol.specs.Syncing.{Answer, SyncWork, Checking, Settling, Probing, Sync, sync_work_asks}
use Rattle.tg_protocol.specs.Clients.{Task, Syncing, Hand, Doing, Work, Client, new_client}
use Rattle.tg_protocol.specs.ClientSteps.{ClientTurn, task_asks, task_awaited}
use Rattle.tg_protocol.specs.Worlds.{World, start, log, happens, next_event}
use Rattle.tg_protocol.specs.Chosen.{IsDecided}
use Rattle.tg_protocol.specs.Runs.{Moves, Move, Next, Takes, run, Reaches, Later}
use Rattle.tg_law_layouts.specs.Moves.After.{after}
use Rattle.tg_law_layouts.specs.Moves.Configs.{Config, config, client_in}
use Rattle.tg_law_layouts.proofs.Moves.Clients.{reserved, work_reserved, hand_reserved}
use Rattle.tg_law_layouts.proofs.Moves.Growth.{IsCalm, by_client}
use Rattle.tg_law_layouts.proofs.Moves.Lists.{contained, at_map, at_set}
use Rattle.tg_law_layouts.proofs.Moves.Members.{Has}
use Rattle.tg_law_layouts.proofs.Moves.Moves.{Comes, client_turn, ClientInput, Commanded, Hears', Ticks', step_cases}
use Rattle.tg_law_layouts.proofs.Moves.Scripts.{run_both}
use Rattle.tg_law_layouts.proofs.Requests.Starts.{All, all_hold}
use Rattle.tg_law_layouts.specs.Layouts.Decisions.{IsOfDecided}
use Rattle.tg_law_layouts.proofs.Layouts.Deciding.{layouts_are_known, layouts_are_sound, decided_stays}
use Rattle.tg_law_cells.proofs.Cells.Justified.{Awaited, awaited_ask}
use Rattle.tg_law_cells.proofs.Cells.Hands as cells
use Rattle.tg_law_cells.proofs.Cells.Jobs.{JobOk, SyncOk}
use Rattle.tg_law_cells.proofs.Cells.Stores.{cells_hold}
use Rattle.tg_law_cells.specs.Homes.Homes.{TrimAsked, ToldGone, epoch_asked}
use Rattle.tg_law_cells.proofs.Homes.Gones.{gone_is_asked}
use Rattle.tg_law_cells.proofs.Homes.Homes.{settled_is_below, starts_rise}
use Rattle.tg_law_cells.proofs.Entries.Lists.{joined}
use Rattle.tg_law_walks.specs.Lists.Drafted.{DraftsFit}
use Rattle.tg_law_walks.specs.Lists.Lists.{Counts}
use Rattle.tg_law_walks.specs.Lists.Spared.{WasSettled, TrimsWereSpare}
use Rattle.tg_law_walks.specs.Lists.Telling.{asks_links, tells_links}
use Rattle.tg_law_walks.proofs.Lists.Reached.{before_reached, goes_later}
use Rattle.tg_law_walks.proofs.Lists.Scanning.{AtTrim, OfUnit, at_trim, is_gone}
use Rattle.tg_law_walks.proofs.Lists.Telling.{all_at}
use Rattle.tg_law_syncs.proofs.Syncs.Later.{late}
use Rattle.tg_law_syncs.proofs.Syncs.Hands.{IsTrueAnswer, Heard, ClientOk, command_fine, deliver_fine, tick_fine, TaskHeard}

is_tail : (y : Msg) (t : ℕ) (ls : List StreamLink) → reply y ≡ IsTail t ls → y ≡ msg.Tail t ls
unfolding reply
is_tail y t ls h = grind arith

tail_told : (t : ℕ) (ls : List StreamLink) → tells_links (msg.Tail t ls) ≡ Some (t, ls)
unfolding tells_links
tail_told t ls = refl

check_asks : (e : ℕ) (os : List Oid) → asks_links (msg.Check e os) ≡ Some (e, os)
unfolding asks_links
check_asks e os = refl

module _ (p : Layout) (s : Sync) where
  check_has : (w : SyncWork) (rid : ℕ) → w ≡ Checking rid → (o : Out) → Has (sync_work_asks p s w) o → (o.to ≡ seqr_id p.seq) × (o.msg ≡ msg.Check p.epoch s.oids)
  unfolding sync_work_asks
  check_has (Checking r) rid e o (inl i) = (ap (λ (y : Out). y.to) i, ap (λ (y : Out). y.msg) i)
  check_has (Checking r) rid e o (inr i) = absurd i
  check_has (Settling a j) rid e o i = absurd (cc)
  check_has (Probing a j) rid e o i = absurd (cc)

  settling_has : (w : SyncWork) (a : Answer) (j : CellJob) → w ≡ Settling a j → (o : Out) → Has (sync_work_asks p s w) o → Has (cell_asks j) o
  unfolding sync_work_asks
  settling_has w a j e o i = subst (λ (y : SyncWork). Has (sync_work_asks p s y) o) e i

module _ (m : Meaning) (p : Layout) (s : Sync) where
  -- what a sync asks
  pub asked_check : (rid : ℕ) → s.work ≡ Checking rid → (o : Out) → Has (task_awaited m p (Syncing s)) o → (o.to ≡ seqr_id p.seq) × (o.msg ≡ msg.Check p.epoch s.oids)
  unfolding task_asks
  asked_check rid e o i = check_has p s s.work rid e o i

  pub settling_asks : (a : Answer) (j : CellJob) → s.work ≡ Settling a j → (o : Out) → Has (task_awaited m p (Syncing s)) o → Has (cell_asks j) o
  unfolding task_asks
  settling_asks a j e o i = settling_has p s s.work a j e o i

  pub job_of : (ps : List Packet) (a : Answer) (j : CellJob) → s.work ≡ Settling a j → cells.TaskOk m ps p (Syncing s) → JobOk ps p j
  job_of ps a j e k = subst (λ (y : SyncWork). SyncOk ps p y) e k

pub last_below : (t b : ℕ) → t - 1 < b → t ≤ b
last_below t b less = grind arith

module _ (m : Meaning) (h : Header) (zs : Moves m) (r : Reaches m h zs (after m h zs)) (trims : TrimsWereSpare m h zs) (fit : DraftsFit m (after m h zs)) where
  abbrev pub counts : ℕ → ℕ → Type 0
  counts = Counts m (after m h zs)

  abbrev pub Ok : Client m → Type 0
  Ok c = ClientOk m (log m (after m h zs)) counts c

  pub record Held (c : Config m) : Type 0 where
    pub clients : (k : ℕ) → Ok (client_in m c k)

  -- What a client hears.

  module _ (xs : Moves m) (e : EventOf m) (ys : Moves m) (split : zs ≡ xs ++ Takes e ∷ ys) (k : ℕ) (x : Packet) (comes : Comes m (config m (after m h xs)) x (client_id k)) (work : Work m) (s : Sync)
      (works : (client_in m (config m (after m h xs)) k).work ≡ Some work) (hand : work.hand ≡ Doing (Syncing s)) (awaited : awaits (task_awaited m (client_in m (config m (after m h xs)) k).stand (Syncing s)) x.from x.rid ≡ true) where
    abbrev p : Layout
    p = (client_in m (config m (after m h xs)) k).stand

    rw : Reaches m h xs (after m h xs)
    rw = before_reached m h zs r xs (Takes e ∷ ys) split

    later : Later m (after m h xs) (after m h zs)
    later = goes_later m h zs r xs (Takes e ∷ ys) split

    stand_decided : IsOfDecided m (after m h xs) p
    stand_decided = (layouts_are_known m h xs (after m h xs) rw).clients k

    stand_late : IsOfDecided m (after m h zs) p
    stand_late = (decided_stays m h xs (after m h xs) (after m h zs) rw later).stays p.epoch p stand_decided

    some_epoch : 0 < p.epoch
    some_epoch = let a = (layout_rules p (layouts_are_sound m h xs (after m h xs) rw p.epoch p stand_decided).rules).epoch in omega (arith, a)

    of_epoch : (n : ℕ) (q : Layout) → IsDecided m (after m h zs) n q → q.epoch ≡ n
    of_epoch n q d = (layouts_are_sound m h zs (after m h zs) r n q d).epoch

    decided_as : (n : ℕ) (q : Layout) → IsDecided m (after m h zs) n q → IsOfDecided m (after m h zs) q
    decided_as n q d = subst (λ (y : ℕ). IsDecided m (after m h zs) y q) (sym (of_epoch n q d)) d

    low : (t : ℕ) → t ≤ p.start → Counts m (after m h zs) p.epoch t
    low t le = record {
      some = some_epoch;
      before = λ q d.
          let of = of_epoch (p.epoch + 1) q d in
          let up = starts_rise m h zs (after m h zs) r p q stand_late (decided_as (p.epoch + 1) q d) (omega (arith, of)) in
          omega (arith, le, up);
    }

    -- its request, as it may still be answered
    asks_open : (o : Out) → Has (task_awaited m p (Syncing s)) o → Has (reserved m (client_in m (config m (after m h xs)) k)) o
    asks_open o g = subst (λ (w : Option (Work m)). Has (work_reserved m p w) o) (sym works) (subst (λ (d : Hand m). Has (hand_reserved m p d) o) (sym hand) g)

    -- the sequencer's answer
    tail : (rid t : ℕ) (ls : List StreamLink) → s.work ≡ Checking rid → reply x.msg ≡ IsTail t ls → Counts m (after m h zs) p.epoch t → IsTrueAnswer (log m (after m h zs)) s.oids (record { tail = t; lasts = ls })
    tail rid t ls is says c = by (awaited_ask (task_awaited m p (Syncing s)) x.from x.rid awaited)
      where
        by : Awaited (task_awaited m p (Syncing s)) x.from x.rid → IsTrueAnswer (log m (after m h zs)) s.oids (record { tail = t; lasts = ls })
        by a = checked (asked_check m p s rid is a.ask a.has)
          where
            checked : (a.ask.to ≡ seqr_id p.seq) × (a.ask.msg ≡ msg.Check p.epoch s.oids) → IsTrueAnswer (log m (after m h zs)) s.oids (record { tail = t; lasts = ls })
            checked q =
                let g = (all_at m h zs r trims fit xs (Takes e ∷ ys) split).each p.seq x t ls comes.sent (sym a.to ∙ q.0) (ap tells_links (is_tail x.msg t ls says) ∙ tail_told t ls) in
                let all : All m (config m (after m h xs)) = all_hold m h xs in
                let same : a.ask.msg ≡ g.ask.msg = (all.0.0.clients k).agree a.ask g.ask (asks_open a.ask a.has) g.has (g.from ∙ comes.to_node) g.request (a.number ∙ sym g.rid) (a.to ∙ sym g.to) in
                g.good p.epoch s.oids (ap asks_links (sym same ∙ q.1) ∙ check_asks p.epoch s.oids) c

    -- a unit's answer that all is trimmed
    gone : (a : Answer) (j : CellJob) (b : ℕ) → s.work ≡ Settling a j → j.place.pos ≡ a.tail - 1 → (cell_feed j x.from.num (reply x.msg) (client_in m (config m (after m h xs)) k).next).to ≡ Ends (Gone b) → Counts m (after m h zs) p.epoch a.tail
    gone a j b is at ends = by (awaited_ask (task_awaited m p (Syncing s)) x.from x.rid awaited)
      where
        trim : AtTrim j (reply x.msg) b
        trim = at_trim j x.from.num (reply x.msg) (client_in m (config m (after m h xs)) k).next b ends

        place : j.place.epoch ≡ p.epoch
        place = ap (λ (y : Place). y.epoch) (job_of m p s (after m h xs).packets a j is (subst (λ (d : Hand m). cells.HandOk m (after m h xs).packets p d) hand (subst (λ (w : Option (Work m)). cells.WorkOk m (after m h xs).packets p w) works ((cells_hold m h xs).hands k)))).place

        by : Awaited (task_awaited m p (Syncing s)) x.from x.rid → Counts m (after m h zs) p.epoch a.tail
        by w = of_unit (trim.asks w.ask (settling_asks m p s a j is w.ask w.has))
          where
            trimmed : TrimAsked m (after m h xs) p.epoch b → Counts m (after m h zs) p.epoch a.tail
            trimmed t = was ((trims.spare (after m h xs) (record { before = xs; event = e; later = ys; split = split; is = refl })).whole t.packet t.of b (a.tail - 1) t.sent t.is (let l = trim.past in omega (arith, l, at)))
              where
                was : WasSettled m (after m h xs) t.of (a.tail - 1) → Counts m (after m h zs) p.epoch a.tail
                was g = record {
                  some = some_epoch;
                  before = λ q d.
                      let of = of_epoch (p.epoch + 1) q d in
                      let le = t.up_to in
                      let in_time = g.in_time in
                      let below = settled_is_below m h zs (after m h zs) r (a.tail - 1) g.cell (late m h zs r xs (Takes e ∷ ys) split (a.tail - 1) g.cell g.settled) q (decided_as (p.epoch + 1) q d) (omega (arith, of, le, in_time)) in
                      last_below a.tail q.start below;
                }

            of_unit : OfUnit j.place.epoch w.ask → Counts m (after m h zs) p.epoch a.tail
            of_unit of =
                let all : All m (config m (after m h xs)) = all_hold m h xs in
                let from : x.from ≡ unit_id of.1.0 = sym w.to ∙ of.1.1 in
                let heard = all.0.1.answered of.1.0 x comes.sent from in
                let same : w.ask.msg ≡ heard.ask.msg = (all.0.0.clients k).agree w.ask heard.ask (asks_open w.ask w.has) heard.asked (heard.from ∙ comes.to_node) heard.request (w.number ∙ sym heard.rid) (w.to ∙ sym heard.to) in
                let told : ToldGone m (after m h xs) of.1.0 p.epoch b = record {
                  ask = heard.ask;
                  answer = x;
                  asked = contained _ heard.ask heard.asked;
                  answered = contained _ x comes.sent;
                  to_unit = heard.to ∙ from;
                  from_unit = from;
                  back = sym heard.from;
                  number = sym heard.rid;
                  request = heard.request;
                  of = ap (λ (y : Msg). epoch_asked (unit_ask y)) (sym same) ∙ (of.0 ∙ place);
                  is = is_gone x.msg b trim.says;
                } in
                trimmed (gone_is_asked m h xs (after m h xs) rw of.1.0 p.epoch b told (let l = trim.past in omega (arith, l)))

    pub heard : Heard (log m (after m h zs)) counts p s x.from.num (reply x.msg) (client_in m (config m (after m h xs)) k).next
    heard = record { tail = tail; low = low; gone = gone }

  -- A step.

  module _ (xs : Moves m) (e : EventOf m) (ys : Moves m) (split : zs ≡ xs ++ Takes e ∷ ys) (held : Held (config m (after m h xs))) where
    turned : (k : ℕ) (t : ClientTurn m) → ClientInput m (config m (after m h xs)) k t → Ok t.now
    turned k t (Commanded x) = command_fine m (log m (after m h zs)) counts (client_in m (config m (after m h xs)) k) x (held.clients k)
    turned k t (Hears' x comes) = deliver_fine m (log m (after m h zs)) counts (client_in m (config m (after m h xs)) k) x.from x.rid x.msg (held.clients k) hears
      where
        hears : (w : Work m) (t : Task m) → (client_in m (config m (after m h xs)) k).work ≡ Some w → w.hand ≡ Doing t → awaits (task_awaited m (client_in m (config m (after m h xs)) k).stand t) x.from x.rid ≡ true
            → TaskHeard m (log m (after m h zs)) counts (client_in m (config m (after m h xs)) k) t x.from.num (reply x.msg)
        hears w (Syncing s) is hand awaited = heard xs e ys split k x comes w s is hand awaited
        hears w t is hand awaited = tt
    turned k t Ticks' = tick_fine m (log m (after m h zs)) counts (client_in m (config m (after m h xs)) k) (held.clients k)

    calm : IsCalm m role.Client (config m (after m h xs)) Held
    calm d q = record { clients = λ k. subst Ok (λ i. slice_index_or (sym (q.clients refl) i) k (new_client m (sym q.cluster i) k)) (held.clients k) }

    own : (k : ℕ) (t : ClientTurn m) → ClientInput m (config m (after m h xs)) k t → k < length (after m h xs).clients → Held (client_turn m (config m (after m h xs)) k t)
    own k t i less = record { clients = at_set (after m h xs).clients k t.now (new_client m (after m h xs).cluster) (λ j x. Ok x) less (turned k t i) (λ j other. held.clients j) }

    stepped : Held (config m (happens m (after m h xs) e))
    stepped = step_cases m (after m h xs) Held (by_client m Held (config m (after m h xs)) held calm own) e

  -- Along the run.

  then_takes : (xs : Moves m) (e : EventOf m) → after m h (xs ++ Takes e ∷ []) ≡ happens m (after m h xs) e
  unfolding run
  then_takes xs e = run_both m xs (Takes e ∷ []) (start m h)

  then_next : (xs : Moves m) → after m h (xs ++ Next ∷ []) ≡ next_event m (after m h xs)
  unfolding run
  then_next xs = run_both m xs (Next ∷ []) (start m h)

  shifts : (xs : Moves m) (x : Move m) (ys : Moves m) → zs ≡ xs ++ x ∷ ys → zs ≡ (xs ++ x ∷ []) ++ ys
  shifts xs x ys e = e ∙ sym (joined xs (x ∷ []) ys)

  held_on : (xs ms ys : Moves m) → zs ≡ xs ++ (ms ++ ys) → Held (config m (after m h xs)) → Held (config m (after m h (xs ++ ms)))
  held_on xs [] ys e a = subst (λ (us : Moves m). Held (config m (after m h us))) (sym (append-nil xs)) a
  held_on xs (Next ∷ ms) ys e a =
      subst (λ (us : Moves m). Held (config m (after m h us))) (joined xs (Next ∷ []) ms)
      (held_on (xs ++ Next ∷ []) ms ys (shifts xs Next (ms ++ ys) e) (subst (λ (u : World m). Held (config m u)) (sym (then_next xs)) (record { clients = a.clients })))
  held_on xs (Takes x ∷ ms) ys e a =
      subst (λ (us : Moves m). Held (config m (after m h us))) (joined xs (Takes x ∷ []) ms)
      (held_on (xs ++ Takes x ∷ []) ms ys (shifts xs (Takes x) (ms ++ ys) e) (subst (λ (u : World m). Held (config m u)) (sym (then_takes xs x)) (stepped xs x (ms ++ ys) e a)))

  start_client : (k : ℕ) → Ok (new_client m h k)
  unfolding new_client
  start_client k = tt

  start_held : Held (config m (after m h []))
  unfolding run start
  start_held = record { clients = λ k. at_map (new_client m h) (numbers h.clients 0) k (new_client m h k) Ok (λ j. start_client j) (start_client k) }

  pub held_at : (xs ys : Moves m) → zs ≡ xs ++ ys → Held (config m (after m h xs))
  held_at xs ys e = held_on [] xs ys e start_held
