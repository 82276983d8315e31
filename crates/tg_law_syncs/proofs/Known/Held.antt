-- Over a run, what each client knows is of the log that the run ends with.
use Rattle.std.proofs.Common.{◌≡◌, ℕ, ◌<◌, [], ◌∷◌, ◌++◌, length, true, refl, sym, ap, ◌∙◌, subst, Some, None, Option, append-nil}
use Rattle.std.specs.Prelude.{slice_index_or}
use Rattle.tg_base.specs.Clusters.{Header}
use Rattle.tg_base.specs.Layouts.{Layout}
use Rattle.tg_base.specs.declared.cell.Cell.{Cell}
use Rattle.tg_base.specs.declared.ids.Role.TheVariants as role
use Rattle.tg_base.specs.declared.packet.Packet.{Packet}
use Rattle.tg_kind.specs.Meaning.{Meaning}
use Rattle.tg_model.specs.Kinds.{EventOf}
use Rattle.tg_protocol.specs.Words.{cell_at, client_id, numbers}
use Rattle.tg_protocol.specs.Requests.{awaits, Next, Goes, Learns, Ends}
use Rattle.tg_protocol.specs.Replies.{reply}
use Rattle.tg_protocol.specs.Cells.{Place, CellJob, CellEnd, Done, cell_feed}
use Rattle.tg_protocol.specs.Appending.{AppendWork, Asking, Putting, Judging, Append}
use Rattle.tg_protocol.specs.Syncing.{Sync, Confirmed, sync_feed}
use Rattle.tg_protocol.specs.Logs.{Log}
use Rattle.tg_protocol.specs.Clients.{Purpose, Task, Syncing, Walking, Appending, Hand, Doing, Learning, Work, Client, new_client, work_cells, hand_cells, task_cells}
use Rattle.tg_protocol.specs.ClientSteps.{ClientTurn, task_awaited, task_in}
use Rattle.tg_protocol.specs.Worlds.{World, start, client, log, happens, next_event}
use Rattle.tg_protocol.specs.Runs.{Moves, Next as Counts, Takes, run, Reaches, Goes as GoesBy, Later, LawfulMove}
use Rattle.tg_law_layouts.specs.Moves.After.{after}
use Rattle.tg_law_layouts.specs.Moves.Configs.{Config, config, client_in}
use Rattle.tg_law_layouts.proofs.Moves.Clients.{reserved, work_reserved, hand_reserved}
use Rattle.tg_law_layouts.proofs.Moves.Growth.{IsCalm, by_client}
use Rattle.tg_law_layouts.proofs.Moves.Lists.{contained, at_map, at_set}
use Rattle.tg_law_layouts.proofs.Moves.Members.{Has, has_contained, has_right}
use Rattle.tg_law_layouts.proofs.Moves.Moves.{Comes, client_turn, ClientInput, Commanded, Hears', Ticks', step_cases}
use Rattle.tg_law_layouts.proofs.Moves.Scripts.{run_both}
use Rattle.tg_law_layouts.proofs.Requests.Starts.{All, all_hold}
use Rattle.tg_law_layouts.proofs.Layouts.Layouts.{has_header}
use Rattle.tg_law_cells.proofs.Cells.Hands as cells
use Rattle.tg_law_cells.proofs.Cells.Jobs.{JobOk, AppendOk, AppendClaims, CellOk, cell_ok}
use Rattle.tg_law_cells.proofs.Cells.Justified.{EndOk, NextOk, Claims, heard}
use Rattle.tg_law_cells.proofs.Cells.Sent.{Heard, task_claims}
use Rattle.tg_law_cells.proofs.Cells.Stores.{cells_hold}
use Rattle.tg_law_cells.proofs.Entries.Lists.{joined}
use Rattle.tg_law_walks.specs.Walks.Streams.{AreKnown}
use Rattle.tg_law_walks.specs.Walks.Walks.{EndsAs}
use Rattle.tg_law_walks.proofs.Walks.Cells.{known_at}
use Rattle.tg_law_walks.specs.Lists.Drafted.{DraftsFit}
use Rattle.tg_law_walks.specs.Lists.Lists.{EachLaterBySpareTrims}
use Rattle.tg_law_walks.specs.Lists.Spared.{TrimsWereSpare}
use Rattle.tg_law_walks.proofs.Lists.Reached.{before_reached}
use Rattle.tg_law_syncs.proofs.Syncs.Confirming.{syncs_confirm, walks_read, settled_by, read_later, by_run}
use Rattle.tg_law_syncs.specs.Known.Known.{KnownIsTheLogs}
use Rattle.tg_law_syncs.proofs.Known.Landing.{AppendEndsAs}
use Rattle.tg_law_syncs.proofs.Known.Knowing.{Knows, WorkKnows, TaskKnows, TaskHeard, Settles, command_fine, deliver_fine, tick_fine}

module _ (m : Meaning) (h : Header) (zs : Moves m) (r : Reaches m h zs (after m h zs)) (trims : TrimsWereSpare m h zs) (fit : DraftsFit m (after m h zs)) where
  abbrev pub l : Log
  l = log m (after m h zs)

  pub record Held (c : Config m) : Type 0 where
    pub clients : (k : ℕ) → Knows m (log m (after m h zs)) (client_in m c k)

  -- What a client hears.

  module _ (xs ys : Moves m) (split : zs ≡ xs ++ ys) (k : ℕ) (x : Packet) (comes : Comes m (config m (after m h xs)) x (client_id k)) where
    abbrev p : Layout
    p = (client_in m (config m (after m h xs)) k).stand

    rw : Reaches m h xs (after m h xs)
    rw = before_reached m h zs r xs ys split

    goes : GoesBy m (after m h xs) ys (after m h zs)
    unfolding run start
    goes = record {
      lawful = λ x c. subst (λ (g : Header). LawfulMove m g x) (sym (has_header m h xs)) (r.goes.lawful x (contained zs x (subst (λ (ms : Moves m). Has ms x) (sym split) (has_right xs ys x (has_contained ys x c)))));
      is = ap (λ (ms : Moves m). after m h ms) split ∙ run_both m xs ys (start m h);
      few = r.goes.few;
    }

    abbrev later : Later m (after m h xs) (after m h zs)
    later = (ys, goes)

    spare : TrimsWereSpare m h (xs ++ ys)
    spare = subst (λ (ms : Moves m). TrimsWereSpare m h ms) split trims

    reached : Reaches m h (xs ++ ys) (after m h (xs ++ ys))
    reached = subst (λ (ms : Moves m). Reaches m h ms (after m h ms)) split r

    fits : DraftsFit m (after m h (xs ++ ys))
    fits = subst (λ (ms : Moves m). DraftsFit m (after m h ms)) split fit

    all : All m (config m (after m h xs))
    all = all_hold m h xs

    -- the cell with which a machine of an append ends
    module _ (w : Work m) (a : Append) (y : Purpose m) (works : (client_in m (config m (after m h xs)) k).work ≡ Some w) (hand : w.hand ≡ Doing (Appending a y)) (awaited : awaits (task_awaited m p (Appending a y)) x.from x.rid ≡ true) where
      in_hand : AppendOk (after m h xs).packets p a.work
      in_hand = subst (λ (d : Hand m). cells.HandOk m (after m h xs).packets p d) hand (subst (λ (o : Option (Work m)). cells.WorkOk m (after m h xs).packets p o) works ((cells_hold m h xs).hands k))

      hears : Heard (after m h xs).packets x.from x.rid x.msg (reserved m (client_in m (config m (after m h xs)) k))
      hears o g to number u from c is = (heard m (config m (after m h xs)) all.0.0 all.0.1 k u o x g comes.sent comes.to_node from to number).tells c is

      claims : AppendClaims (after m h xs).packets p a.work x.msg
      claims = task_claims (after m h xs).packets x.from x.rid x.msg m p (Appending a y) awaited
          (subst (λ (d : Hand m). Heard (after m h xs).packets x.from x.rid x.msg (hand_reserved m p d)) hand
          (subst (λ (o : Option (Work m)). Heard (after m h xs).packets x.from x.rid x.msg (work_reserved m p o)) works hears))

      in_log : (pos : ℕ) (c : Cell) → CellOk (after m h xs).packets p pos c → cell_at (log m (after m h zs)) pos ≡ Some c
      in_log pos c f = subst (λ (ms : Moves m). cell_at (log m (after m h ms)) pos ≡ Some c) (sym split) (read_later m h xs ys reached spare fits pos c (settled_by m h xs ys reached spare fits k pos c f).settled)

      ends_as : (j : CellJob) → JobOk (after m h xs).packets p j → Claims (after m h xs).packets j.place j.work x.msg → (to : Next CellJob CellEnd) → (cell_feed j x.from.num (reply x.msg) (client_in m (config m (after m h xs)) k).next).to ≡ to → EndsAs (log m (after m h zs)) j.place.pos to
      ends_as j o c (Ends (Done d)) e = in_log j.place.pos d
          (subst (λ (q : Place). EndOk (after m h xs).packets q (Done d)) o.place
          (subst (λ (t : Next CellJob CellEnd). NextOk (after m h xs).packets j.place t) e (cell_ok (after m h xs).packets p j x.msg o c x.from.num (client_in m (config m (after m h xs)) k).next)))
      ends_as j o c t e = tt

      by_work : (v : AppendWork) → a.work ≡ v → AppendEndsAs (log m (after m h zs)) v x.from.num (reply x.msg) (client_in m (config m (after m h xs)) k).next
      by_work (Asking i) e = tt
      by_work (Putting j) e = ends_as j (subst (λ (v : AppendWork). AppendOk (after m h xs).packets p v) e in_hand) (subst (λ (v : AppendWork). AppendClaims (after m h xs).packets p v x.msg) e claims) _ refl
      by_work (Judging j) e = ends_as j (subst (λ (v : AppendWork). AppendOk (after m h xs).packets p v) e in_hand) (subst (λ (v : AppendWork). AppendClaims (after m h xs).packets p v x.msg) e claims) _ refl

      pub append_heard : AppendEndsAs (log m (after m h zs)) a.work x.from.num (reply x.msg) (client_in m (config m (after m h xs)) k).next
      append_heard = by_work a.work refl

    pub sync_heard : (w : Work m) (s : Sync) → (client_in m (config m (after m h xs)) k).work ≡ Some w → w.hand ≡ Doing (Syncing s) → awaits (task_awaited m p (Syncing s)) x.from x.rid ≡ true
        → Settles m (log m (after m h zs)) (sync_feed p s s.work x.from.num (reply x.msg) (client_in m (config m (after m h xs)) k).next).to
    sync_heard w s works hand awaited = by _ refl
      where
        by : (to : Next Sync Confirmed) → (sync_feed p s s.work x.from.num (reply x.msg) (client_in m (config m (after m h xs)) k).next).to ≡ to → Settles m (log m (after m h zs)) to
        by (Goes t) e = tt
        by (Learns t) e = tt
        by (Ends c) e = (syncs_confirm m h xs (after m h xs) (after m h zs) rw later spare k x s c (record { work = w; works = works; syncs = hand; sent = contained _ x comes.sent; to = comes.to_node; awaited = awaited }) e).settled

    hears_task : (w : Work m) (t : Task m) → (client_in m (config m (after m h xs)) k).work ≡ Some w → w.hand ≡ Doing t → awaits (task_awaited m p t) x.from x.rid ≡ true
        → TaskHeard m (log m (after m h zs)) (client_in m (config m (after m h xs)) k) t x.from.num (reply x.msg)
    hears_task w (Syncing s) works hand awaited = sync_heard w s works hand awaited
    hears_task w (Walking v os) works hand awaited = walks_read m h xs (after m h xs) (after m h zs) rw later spare k x v (record { work = w; works = works; rest = os; walks = hand; sent = contained _ x comes.sent; to = comes.to_node; awaited = awaited })
    hears_task w (Appending a y) works hand awaited = append_heard w a y works hand awaited
    hears_task w t works hand awaited = tt

  -- A step.

  module _ (xs : Moves m) (e : EventOf m) (ys : Moves m) (split : zs ≡ xs ++ Takes e ∷ ys) (held : Held (config m (after m h xs))) where
    turned : (k : ℕ) (t : ClientTurn m) → ClientInput m (config m (after m h xs)) k t → Knows m (log m (after m h zs)) t.now
    turned k t (Commanded x) = command_fine m (log m (after m h zs)) (client_in m (config m (after m h xs)) k) x (held.clients k)
    turned k t (Hears' x comes) = deliver_fine m (log m (after m h zs)) (client_in m (config m (after m h xs)) k) x.from x.rid x.msg (held.clients k) (hears_task xs (Takes e ∷ ys) split k x comes)
    turned k t Ticks' = tick_fine m (log m (after m h zs)) (client_in m (config m (after m h xs)) k) (held.clients k)

    calm : IsCalm m role.Client (config m (after m h xs)) Held
    calm d q = record { clients = λ k. subst (Knows m (log m (after m h zs))) (λ i. slice_index_or (sym (q.clients refl) i) k (new_client m (sym q.cluster i) k)) (held.clients k) }

    own : (k : ℕ) (t : ClientTurn m) → ClientInput m (config m (after m h xs)) k t → k < length (after m h xs).clients → Held (client_turn m (config m (after m h xs)) k t)
    own k t i less = record { clients = at_set (after m h xs).clients k t.now (new_client m (after m h xs).cluster) (λ j x. Knows m (log m (after m h zs)) x) less (turned k t i) (λ j other. held.clients j) }

    stepped : Held (config m (happens m (after m h xs) e))
    stepped = step_cases m (after m h xs) Held (by_client m Held (config m (after m h xs)) held calm own) e

  -- Along the run.

  then_takes : (xs : Moves m) (e : EventOf m) → after m h (xs ++ Takes e ∷ []) ≡ happens m (after m h xs) e
  unfolding run
  then_takes xs e = run_both m xs (Takes e ∷ []) (start m h)

  then_next : (xs : Moves m) → after m h (xs ++ Counts ∷ []) ≡ next_event m (after m h xs)
  unfolding run
  then_next xs = run_both m xs (Counts ∷ []) (start m h)

  held_on : (xs ms ys : Moves m) → zs ≡ xs ++ (ms ++ ys) → Held (config m (after m h xs)) → Held (config m (after m h (xs ++ ms)))
  held_on xs [] ys e a = subst (λ (us : Moves m). Held (config m (after m h us))) (sym (append-nil xs)) a
  held_on xs (Counts ∷ ms) ys e a =
      subst (λ (us : Moves m). Held (config m (after m h us))) (joined xs (Counts ∷ []) ms)
      (held_on (xs ++ Counts ∷ []) ms ys (e ∙ sym (joined xs (Counts ∷ []) (ms ++ ys))) (subst (λ (u : World m). Held (config m u)) (sym (then_next xs)) (record { clients = a.clients })))
  held_on xs (Takes x ∷ ms) ys e a =
      subst (λ (us : Moves m). Held (config m (after m h us))) (joined xs (Takes x ∷ []) ms)
      (held_on (xs ++ Takes x ∷ []) ms ys (e ∙ sym (joined xs (Takes x ∷ []) (ms ++ ys))) (subst (λ (u : World m). Held (config m u)) (sym (then_takes xs x)) (stepped xs x (ms ++ ys) e a)))

  start_client : (k : ℕ) → Knows m (log m (after m h zs)) (new_client m h k)
  unfolding new_client
  start_client k = record { cells = λ x i. absurd (has_contained [] x i); work = tt }

  start_held : Held (config m (after m h []))
  unfolding run start
  start_held = record { clients = λ k. at_map (new_client m h) (numbers h.clients 0) k (new_client m h k) (λ (c : Client m). Knows m (log m (after m h zs)) c) (λ j. start_client j) (start_client k) }

  pub held_at : (xs ys : Moves m) → zs ≡ xs ++ ys → Held (config m (after m h xs))
  held_at xs ys e = held_on [] xs ys e start_held

-- The law.

module _ (m : Meaning) where
  knows_in_hand : (l : Log) (c : Client m) → Knows m l c → AreKnown l (work_cells m c.work c.cells)
  knows_in_hand l c k = by c.work k.work
    where
      task : (t : Task m) → TaskKnows m l t → AreKnown l (task_cells m t c.cells)
      task (Walking v os) f = f
      task (Syncing s) f = k.cells
      task (Appending a y) f = k.cells
      task t f = k.cells

      hand : (d : Hand m) → TaskKnows m l (task_in m d) → AreKnown l (hand_cells m d c.cells)
      hand (Doing t) f = task t f
      hand (Learning ws t) f = task t f

      by : (w : Option (Work m)) → WorkKnows m l w → AreKnown l (work_cells m w c.cells)
      by None f = k.cells
      by (Some w) f = hand w.hand f

  known_here : (h : Header) (xs ys : Moves m) → Reaches m h (xs ++ ys) (after m h (xs ++ ys)) → TrimsWereSpare m h (xs ++ ys) → DraftsFit m (after m h (xs ++ ys)) → KnownIsTheLogs m (after m h xs) (after m h (xs ++ ys))
  known_here h xs ys r trims fit k p c is =
      known_at (log m (after m h (xs ++ ys))) (work_cells m (client m (after m h xs) k).work (client m (after m h xs) k).cells)
      (knows_in_hand (log m (after m h (xs ++ ys))) (client m (after m h xs) k) ((held_at m h (xs ++ ys) r trims fit xs ys refl).clients k)) p c is

  pub known_is_the_logs : EachLaterBySpareTrims m (KnownIsTheLogs m)
  known_is_the_logs = by_run m (KnownIsTheLogs m) known_here
