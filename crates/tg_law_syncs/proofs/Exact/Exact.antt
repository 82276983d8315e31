-- Where a step of a run ends the walks of a command, they are exact, then and later.
use Rattle.std.proofs.Common.{◌≡◌, ℕ, [], ◌∷◌, ◌++◌, true, refl, sym, ap, ◌∙◌, subst, inl, inr, Some, None, Option}
use Rattle.std.specs.Prelude.{Contains}
use Rattle.tg_base.specs.Clusters.{Header}
use Rattle.tg_base.specs.declared.packet.Packet.{Packet}
use Rattle.tg_kind.specs.Meaning.{Meaning}
use Rattle.tg_model.specs.Kinds.{EventOf}
use Rattle.tg_model.specs.declared.command.Event.TheVariants.{Command as Commands, Deliver, Lose, Tick, Stop}
use Rattle.tg_protocol.specs.Words.{client_id}
use Rattle.tg_protocol.specs.Requests.{awaits, Next, Goes, Learns, Ends}
use Rattle.tg_protocol.specs.Replies.{reply}
use Rattle.tg_protocol.specs.Syncing.{Sync, Confirmed, sync_feed}
use Rattle.tg_protocol.specs.Clients.{Task, Syncing, Walking, Hand, Doing, Learning, Work, Client}
use Rattle.tg_protocol.specs.ClientSteps.{task_awaited}
use Rattle.tg_protocol.specs.Worlds.{World, start, client, log, happens}
use Rattle.tg_protocol.specs.Runs.{Moves, Move, Takes, run, Reaches, Later, LawfulEvent, LawfulMove}
use Rattle.tg_law_layouts.specs.Moves.After.{after}
use Rattle.tg_law_layouts.proofs.Moves.Lists.{contained}
use Rattle.tg_law_layouts.proofs.Moves.Members.{Has, has_contained, has_got}
use Rattle.tg_law_layouts.proofs.Moves.Scripts.{run_both}
use Rattle.tg_law_layouts.proofs.Layouts.Layouts.{has_header}
use Rattle.tg_law_walks.specs.Walks.Ends.{TaskEndsAs, HandEndsAs, WorkEndsAs, StepEndsAs}
use Rattle.tg_law_walks.specs.Walks.Laws.{SyncEndsAs}
use Rattle.tg_law_walks.specs.Walks.Rounds.{round}
use Rattle.tg_law_walks.proofs.Walks.Ending.{steps_exact}
use Rattle.tg_law_walks.proofs.Walks.Reading.{reaches_later}
use Rattle.tg_law_walks.proofs.Walks.Syncs.{logs_by_position}
use Rattle.tg_law_walks.specs.Lists.Spared.{TrimsWereSpare}
use Rattle.tg_law_walks.proofs.Lists.Telling.{entries_are_good}
use Rattle.tg_law_syncs.proofs.Syncs.Confirming.{walks_read}
use Rattle.tg_law_syncs.proofs.Known.Tails.{tails_are_confirmed}
use Rattle.tg_law_syncs.specs.Exact.Exact.{SyncsExactBySpareTrims}
use Rattle.tg_law_syncs.proofs.Exact.Held.{clients_work}

module _ (m : Meaning) where
  -- What an answer that a client awaits ends is true of a later world's log.

  module _ (h : Header) (ms : Moves m) (w v : World m) (r : Reaches m h ms w) (later : Later m w v) (trims : TrimsWereSpare m h (ms ++ later.0)) (k : ℕ) (x : Packet) (sent : Contains w.packets x) (to : x.to ≡ client_id k) where
    abbrev c : Client m
    c = client m w k

    task_ends : (y : Work m) (t : Task m) → (client m w k).work ≡ Some y → y.hand ≡ Doing t → awaits (task_awaited m (client m w k).stand t) x.from x.rid ≡ true → TaskEndsAs m (log m v) (client m w k) y t x.from.num (reply x.msg)
    task_ends y (Syncing s) works hand awaited = by _ refl
      where
        by : (to : Next Sync Confirmed) → (sync_feed (client m w k).stand s s.work x.from.num (reply x.msg) (client m w k).next).to ≡ to → SyncEndsAs m (log m v) (round m (client m w k) y (client m w k).cells) to
        by (Goes u) e = tt
        by (Learns u) e = tt
        by (Ends d) e = tails_are_confirmed m h ms w v r later trims k x s d (record { work = y; works = works; syncs = hand; sent = sent; to = to; awaited = awaited }) e
    task_ends y (Walking u os) works hand awaited = walks_read m h ms w v r later trims k x u (record { work = y; works = works; rest = os; walks = hand; sent = sent; to = to; awaited = awaited })
    task_ends y t works hand awaited = tt

    hand_ends : (y : Work m) (d : Hand m) → (client m w k).work ≡ Some y → y.hand ≡ d → HandEndsAs m (log m v) (client m w k) y d x.from x.rid (reply x.msg)
    hand_ends y (Doing t) works hand = λ awaited. task_ends y t works hand awaited
    hand_ends y (Learning ws t) works hand = tt

    pub work_ends : (o : Option (Work m)) → (client m w k).work ≡ o → WorkEndsAs m (log m v) (client m w k) o x.from x.rid (reply x.msg)
    work_ends None works = tt
    work_ends (Some y) works = hand_ends y y.hand works refl

  pub step_ends : (h : Header) (ms : Moves m) (w v : World m) → Reaches m h ms w → (later : Later m w v) → TrimsWereSpare m h (ms ++ later.0) → (e : EventOf m) (k : ℕ) → StepEndsAs m (log m v) w e k
  step_ends h ms w v r later trims (Deliver i) k = λ x at to. work_ends h ms w v r later trims k x (contained w.packets x (has_got w.packets i x at)) to (client m w k).work refl
  step_ends h ms w v r later trims (Commands j x) k = tt
  step_ends h ms w v r later trims (Lose i) k = tt
  step_ends h ms w v r later trims (Tick n) k = tt
  step_ends h ms w v r later trims (Stop n) k = tt

  -- The next step, and later ones.

  module _ (h : Header) (ms : Moves m) (w : World m) (e : EventOf m) (r : Reaches m h ms w) (lawful : LawfulEvent m h e) (v : World m) (later : Later m (happens m w e) v) where
    cluster_is : w.cluster ≡ h
    cluster_is = ap (λ (u : World m). u.cluster) r.goes.is ∙ has_header m h ms

    next_is : happens m w e ≡ after m h (ms ++ Takes e ∷ [])
    unfolding run
    next_is = ap (λ (u : World m). happens m u e) r.goes.is ∙ sym (run_both m ms (Takes e ∷ []) (start m h))

    next_cluster : (happens m w e).cluster ≡ h
    next_cluster = ap (λ (u : World m). u.cluster) next_is ∙ has_header m h (ms ++ Takes e ∷ [])

    lawful_on : (x : Move m) → Has (Takes e ∷ later.0) x → LawfulMove m h x
    lawful_on x (inl is) = subst (LawfulMove m h) (sym is) lawful
    lawful_on x (inr i) = subst (λ (g : Header). LawfulMove m g x) next_cluster (later.1.lawful x (contained later.0 x i))

    pub then_later : Later m w v
    unfolding run
    then_later = (
      Takes e ∷ later.0,
      record {
        lawful = λ x i. subst (λ (g : Header). LawfulMove m g x) (sym cluster_is) (lawful_on x (has_contained (Takes e ∷ later.0) x i));
        is = later.1.is;
        few = later.1.few;
      },
    )

  pub syncs_exact : SyncsExactBySpareTrims m
  unfolding then_later
  syncs_exact h ms w e r lawful few v later trims k x o is i =
      let on = then_later h ms w e r lawful v later in
      let linked = entries_are_good m h (ms ++ Takes e ∷ later.0) v (reaches_later m h ms w v r on) trims in
      let work = (clients_work m h ms w v r on trims).work k in
      steps_exact m (log m v) w e k x o (logs_by_position m v) linked work (step_ends h ms w v r on trims e k) is i
