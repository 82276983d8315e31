-- Over a run, what each client's walks have found is true of the log that the run ends with.
use Rattle.std.proofs.Common.{◌≡◌, ℕ, ◌<◌, [], ◌∷◌, ◌++◌, length, true, refl, sym, ap, ◌∙◌, subst, Some, None, append-nil}
use Rattle.std.specs.Prelude.{slice_index_or, Contains}
use Rattle.tg_base.specs.Clusters.{Header}
use Rattle.tg_base.specs.declared.ids.Role.TheVariants as role
use Rattle.tg_base.specs.declared.packet.Packet.{Packet}
use Rattle.tg_kind.specs.Meaning.{Meaning}
use Rattle.tg_model.specs.Kinds.{EventOf}
use Rattle.tg_protocol.specs.Words.{client_id, numbers}
use Rattle.tg_protocol.specs.Requests.{awaits, Next, Goes, Learns, Ends}
use Rattle.tg_protocol.specs.Replies.{reply}
use Rattle.tg_protocol.specs.Syncing.{Sync, Confirmed, sync_feed}
use Rattle.tg_protocol.specs.Logs.{Log}
use Rattle.tg_protocol.specs.Views.{View}
use Rattle.tg_protocol.specs.Clients.{Task, Syncing, Walking, Appending, Doing, Work, Client, new_client}
use Rattle.tg_protocol.specs.ClientSteps.{ClientTurn, task_awaited}
use Rattle.tg_protocol.specs.Worlds.{World, start, client, log, happens, next_event}
use Rattle.tg_protocol.specs.Runs.{Moves, Next as Counts, Takes, run, Goes as GoesBy, Reaches, Later, LawfulMove}
use Rattle.tg_law_layouts.specs.Moves.After.{after}
use Rattle.tg_law_layouts.specs.Moves.Configs.{Config, config, client_in}
use Rattle.tg_law_layouts.proofs.Moves.Growth.{IsCalm, by_client}
use Rattle.tg_law_layouts.proofs.Moves.Lists.{contained, at_map, at_set}
use Rattle.tg_law_layouts.proofs.Moves.Members.{Has, has_contained, has_right}
use Rattle.tg_law_layouts.proofs.Moves.Moves.{client_turn, ClientInput, Commanded, Hears', Ticks', step_cases}
use Rattle.tg_law_layouts.proofs.Moves.Scripts.{run_both}
use Rattle.tg_law_layouts.proofs.Layouts.Layouts.{has_header}
use Rattle.tg_law_cells.proofs.Entries.Lists.{joined}
use Rattle.tg_law_walks.specs.Walks.Streams.{IsByPosition, AreLinked}
use Rattle.tg_law_walks.specs.Walks.Rounds.{round}
use Rattle.tg_law_walks.specs.Walks.Laws.{SyncEndsAs}
use Rattle.tg_law_walks.proofs.Walks.Syncs.{logs_by_position}
use Rattle.tg_law_walks.specs.Lists.Drafted.{DraftsFit}
use Rattle.tg_law_walks.specs.Lists.Lists.{EachLaterBySpareTrims}
use Rattle.tg_law_walks.specs.Lists.Spared.{TrimsWereSpare}
use Rattle.tg_law_walks.proofs.Lists.Reached.{before_reached}
use Rattle.tg_law_walks.proofs.Lists.Telling.{entries_are_good}
use Rattle.tg_law_syncs.proofs.Syncs.Confirming.{walks_read, by_run}
use Rattle.tg_law_syncs.proofs.Known.Knowing.{Knows}
use Rattle.tg_law_syncs.proofs.Known.Held as known
use Rattle.tg_law_syncs.proofs.Known.Tails.{tails_are_confirmed}
use Rattle.tg_law_syncs.specs.Exact.Exact.{ClientsWork}
use Rattle.tg_law_syncs.proofs.Exact.Turns.{Works, TaskHears, command_fine, deliver_fine, tick_fine}

-- the rest of a run
pub goes_on : (m : Meaning) (h : Header) (zs : Moves m) → Reaches m h zs (after m h zs) → (xs ys : Moves m) → zs ≡ xs ++ ys → GoesBy m (after m h xs) ys (after m h zs)
unfolding run start
goes_on m h zs r xs ys split = record {
  lawful = λ x c. subst (λ (g : Header). LawfulMove m g x) (sym (has_header m h xs)) (r.goes.lawful x (contained zs x (subst (λ (ms : Moves m). Has ms x) (sym split) (has_right xs ys x (has_contained ys x c)))));
  is = ap (λ (ms : Moves m). after m h ms) split ∙ run_both m xs ys (start m h);
  few = r.goes.few;
}

module _ (m : Meaning) (h : Header) (zs : Moves m) (r : Reaches m h zs (after m h zs)) (trims : TrimsWereSpare m h zs) (fit : DraftsFit m (after m h zs)) where
  abbrev pub l : Log
  l = log m (after m h zs)

  pub byp : IsByPosition (log m (after m h zs))
  byp = logs_by_position m (after m h zs)

  pub linked : AreLinked (log m (after m h zs))
  linked = entries_are_good m h zs (after m h zs) r trims

  pub record Held (c : Config m) : Type 0 where
    pub clients : (k : ℕ) → Works m (log m (after m h zs)) (client_in m c k)

  -- What a client hears.

  module _ (xs ys : Moves m) (split : zs ≡ xs ++ ys) (k : ℕ) (x : Packet) (sent : Contains (after m h xs).packets x) (to : x.to ≡ client_id k) where
    abbrev c : Client m
    c = client m (after m h xs) k

    rw : Reaches m h xs (after m h xs)
    rw = before_reached m h zs r xs ys split

    abbrev later : Later m (after m h xs) (after m h zs)
    later = (ys, goes_on m h zs r xs ys split)

    spare : TrimsWereSpare m h (xs ++ ys)
    spare = subst (λ (ms : Moves m). TrimsWereSpare m h ms) split trims

    pub sync_heard : (w : Work m) (s : Sync) → (client m (after m h xs) k).work ≡ Some w → w.hand ≡ Doing (Syncing s) → awaits (task_awaited m (client m (after m h xs) k).stand (Syncing s)) x.from x.rid ≡ true
        → SyncEndsAs m (log m (after m h zs)) (round m (client m (after m h xs) k) w (client m (after m h xs) k).cells) (sync_feed (client m (after m h xs) k).stand s s.work x.from.num (reply x.msg) (client m (after m h xs) k).next).to
    sync_heard w s works hand awaited = by _ refl
      where
        by : (to : Next Sync Confirmed) → (sync_feed (client m (after m h xs) k).stand s s.work x.from.num (reply x.msg) (client m (after m h xs) k).next).to ≡ to
            → SyncEndsAs m (log m (after m h zs)) (round m (client m (after m h xs) k) w (client m (after m h xs) k).cells) to
        by (Goes t) e = tt
        by (Learns t) e = tt
        by (Ends d) e = tails_are_confirmed m h xs (after m h xs) (after m h zs) rw later spare k x s d (record { work = w; works = works; syncs = hand; sent = sent; to = to; awaited = awaited }) e

    pub hears_task : (w : Work m) (t : Task m) → (client m (after m h xs) k).work ≡ Some w → w.hand ≡ Doing t → awaits (task_awaited m (client m (after m h xs) k).stand t) x.from x.rid ≡ true
        → TaskHears m (log m (after m h zs)) byp linked (client m (after m h xs) k) w t x.from.num (reply x.msg)
    hears_task w (Syncing s) works hand awaited = sync_heard w s works hand awaited
    hears_task w (Walking v os) works hand awaited = walks_read m h xs (after m h xs) (after m h zs) rw later spare k x v (record { work = w; works = works; rest = os; walks = hand; sent = sent; to = to; awaited = awaited })
    hears_task w (Appending a y) works hand awaited = known.append_heard m h zs r trims fit xs ys split k x (record { sent = has_contained (after m h xs).packets x sent; to_node = to }) w a y works hand awaited
    hears_task w t works hand awaited = tt

  -- A step.

  module _ (xs : Moves m) (e : EventOf m) (ys : Moves m) (split : zs ≡ xs ++ Takes e ∷ ys) (held : Held (config m (after m h xs))) where
    knows : (k : ℕ) → Knows m (log m (after m h zs)) (client_in m (config m (after m h xs)) k)
    knows k = (known.held_at m h zs r trims fit xs (Takes e ∷ ys) split).clients k

    turned : (k : ℕ) (t : ClientTurn m) → ClientInput m (config m (after m h xs)) k t → Works m (log m (after m h zs)) t.now
    turned k t (Commanded x) = command_fine m (log m (after m h zs)) byp linked (client_in m (config m (after m h xs)) k) x (knows k) (held.clients k)
    turned k t (Hears' x comes) =
        deliver_fine m (log m (after m h zs)) byp linked (client_in m (config m (after m h xs)) k) x.from x.rid x.msg (knows k) (held.clients k)
        (hears_task xs (Takes e ∷ ys) split k x (contained (after m h xs).packets x comes.sent) comes.to_node)
    turned k t Ticks' = tick_fine m (log m (after m h zs)) byp linked (client_in m (config m (after m h xs)) k) (held.clients k)

    calm : IsCalm m role.Client (config m (after m h xs)) Held
    calm d q = record { clients = λ k. subst (Works m (log m (after m h zs))) (λ i. slice_index_or (sym (q.clients refl) i) k (new_client m (sym q.cluster i) k)) (held.clients k) }

    own : (k : ℕ) (t : ClientTurn m) → ClientInput m (config m (after m h xs)) k t → k < length (after m h xs).clients → Held (client_turn m (config m (after m h xs)) k t)
    own k t i less = record { clients = at_set (after m h xs).clients k t.now (new_client m (after m h xs).cluster) (λ j x. Works m (log m (after m h zs)) x) less (turned k t i) (λ j other. held.clients j) }

    stepped : Held (config m (happens m (after m h xs) e))
    stepped = step_cases m (after m h xs) Held (by_client m Held (config m (after m h xs)) held calm own) e

  -- Along the run.

  then_takes : (xs : Moves m) (e : EventOf m) → after m h (xs ++ Takes e ∷ []) ≡ happens m (after m h xs) e
  unfolding run
  then_takes xs e = run_both m xs (Takes e ∷ []) (start m h)

  then_next : (xs : Moves m) → after m h (xs ++ Counts ∷ []) ≡ next_event m (after m h xs)
  unfolding run
  then_next xs = run_both m xs (Counts ∷ []) (start m h)

  held_on : (xs ms ys : Moves m) → zs ≡ xs ++ (ms ++ ys) → Held (config m (after m h xs)) → Held (config m (after m h (xs ++ ms)))
  held_on xs [] ys e a = subst (λ (us : Moves m). Held (config m (after m h us))) (sym (append-nil xs)) a
  held_on xs (Counts ∷ ms) ys e a =
      subst (λ (us : Moves m). Held (config m (after m h us))) (joined xs (Counts ∷ []) ms)
      (held_on (xs ++ Counts ∷ []) ms ys (e ∙ sym (joined xs (Counts ∷ []) (ms ++ ys))) (subst (λ (u : World m). Held (config m u)) (sym (then_next xs)) (record { clients = a.clients })))
  held_on xs (Takes x ∷ ms) ys e a =
      subst (λ (us : Moves m). Held (config m (after m h us))) (joined xs (Takes x ∷ []) ms)
      (held_on (xs ++ Takes x ∷ []) ms ys (e ∙ sym (joined xs (Takes x ∷ []) (ms ++ ys))) (subst (λ (u : World m). Held (config m u)) (sym (then_takes xs x)) (stepped xs x (ms ++ ys) e a)))

  none_view : (v : View m) → None ≡ Some v → ⊥
  none_view v e = cc

  start_client : (k : ℕ) → Works m (log m (after m h zs)) (new_client m h k)
  unfolding new_client
  start_client k = record { hosted = λ v o b is f. absurd (none_view v is); work = tt }

  start_held : Held (config m (after m h []))
  unfolding run start
  start_held = record { clients = λ k. at_map (new_client m h) (numbers h.clients 0) k (new_client m h k) (λ (c : Client m). Works m (log m (after m h zs)) c) (λ j. start_client j) (start_client k) }

  pub held_at : (xs ys : Moves m) → zs ≡ xs ++ ys → Held (config m (after m h xs))
  held_at xs ys e = held_on [] xs ys e start_held

-- The law.

module _ (m : Meaning) where
  work_here : (h : Header) (xs ys : Moves m) → Reaches m h (xs ++ ys) (after m h (xs ++ ys)) → TrimsWereSpare m h (xs ++ ys) → DraftsFit m (after m h (xs ++ ys)) → ClientsWork m (after m h xs) (after m h (xs ++ ys))
  work_here h xs ys r trims fit =
      let held = held_at m h (xs ++ ys) r trims fit xs ys refl in
      record { hosted = λ k. (held.clients k).hosted; work = λ k. (held.clients k).work }

  pub clients_work : EachLaterBySpareTrims m (ClientsWork m)
  clients_work = by_run m (ClientsWork m) work_here
