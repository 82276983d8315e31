-- Ticks.
use Rattle.std.proofs.Common.{◌≡◌, ℕ, ◌+◌, ◌≤◌, true, List, [], ◌++◌, Option, Some, None, refl, sym, ap, subst, ◌∙◌, arith}
use Rattle.tg_base.proofs.Exact.{and-left, and-right, both}
use Rattle.tg_base.specs.Layouts.{Layout}
use Rattle.tg_base.specs.declared.packet.Out.{Out}
use Rattle.tg_kind.specs.Meaning.{Meaning}
use Rattle.tg_model.specs.Kinds.{NoteOf}
use Rattle.tg_protocol.specs.Words.{numbers}
use Rattle.tg_protocol.specs.Requests.{waits_for}
use Rattle.tg_protocol.specs.Clients.{Client, Work, Task, Syncing, Walking, Appending, Trimming, Copying', Reconfiguring, Hand, Doing, Learning}
use Rattle.tg_protocol.specs.ClientSteps.{asks_latest, hand_again_asks, task_awaited, tick_by, ClientTurn, client_asks, client_tick}
use Rattle.tg_protocol.specs.Answers.{moved}
use Rattle.tg_protocol.specs.Views.{View}
use Rattle.tg_client_state.proofs.Steps.{more_drawn}
use Rattle.tg_client_cells.specs.Known.{Knowledge}
use Rattle.tg_client_state.specs.Tasks.{TaskOf, HandOf, WorkOf, told_task, KeepsHand, KeepsMaybe, IsFit, IsGivenFit}
use Rattle.tg_client_state.specs.declared.task.Task.TheVariants as task
use Rattle.tg_client_state.specs.declared.hand.Hand.TheVariants as hand
use Rattle.tg_client_state.specs.States.{StateOf, MovedOf, Rest, client_of, rest_of, are_drawn, AreDrawn, IsTaskFit, IsClientFit, IsFitIf, KeepsClient, KeepsMoved}
use Rattle.tg_client_state.specs.Moves.{IsKept}
use Rattle.tg_client_tasks.specs.Idle.{idle}
use Rattle.tg_client_tasks.specs.Steps.{Draws, KeepsStep}
use Rattle.tg_client_tasks.proofs.Said.{is_idle}

module _ (m : Meaning) where
  -- What a machine in hand keeps.

  task-fit : (k : Knowledge) (p : Layout) (t : TaskOf m) → IsTaskFit m k p (told_task m t) → IsFit m p (told_task m t)
  task-fit k p (task.Sync s) h = h
  task-fit k p (task.Walk w os) h = tt
  task-fit k p (task.Append a x) h = h
  task-fit k p (task.Trim t) h = h
  task-fit k p (task.Copy c) h = h
  task-fit k p (task.Reconf r) h = tt

  hand-fit : (k : Knowledge) (p : Layout) (h : HandOf m) (u : Hand m) → KeepsHand m h u → IsClientFit m k p u → IsGivenFit m p h
  hand-fit k p (hand.Doing t) (Doing u) e f = task-fit k p t.value (subst (λ (v : Task m). IsTaskFit m k p v) (sym e) f)
  hand-fit k p (hand.Doing t) (Learning ws u) e f = absurd e
  hand-fit k p (hand.Learning ws t) u e f = tt

  work-fit : (k : Knowledge) (p : Layout) (w : WorkOf m) (u : Option (Work m)) → KeepsMaybe m (Some w) u → IsFitIf m k p u → IsGivenFit m p w.hand
  work-fit k p w None e f = absurd e
  work-fit k p w (Some u) e f = hand-fit k p w.hand u.hand e.hand f

  -- a client that computes
  plain : (s : StateOf m) (w : Option (WorkOf m)) (c : Client m) → KeepsClient m s w c → KeepsClient m s w (client_of m s (rest_of m c))
  plain s w c h = subst (λ (d : Client m). KeepsClient m s w d) h.is h

  pub given_fit : (s : StateOf m) (w : WorkOf m) → IsKept m s (Some w) → IsGivenFit m s.stand w.hand
  given_fit s w h = let k = plain s (Some w) h.client h.keeps in work-fit s.known s.stand w h.client.work k.work k.fit

  -- Numbers that were drawn, after more were.

  hand-drawn : (p : Layout) (h : Hand m) (n k : ℕ) → n ≤ k → are_drawn m n p h ≡ true → are_drawn m k p h ≡ true
  hand-drawn p (Doing t) n k le h = more_drawn (task_awaited m p t) n k le h
  hand-drawn p (Learning ws t) n k le h = both _ _ (more_drawn (asks_latest m ws) n k le (and-left _ _ h)) (more_drawn (task_awaited m p t) n k le (and-right _ _ h))

  work-drawn : (p : Layout) (w : Option (Work m)) (n k : ℕ) → n ≤ k → AreDrawn m n p w → AreDrawn m k p w
  work-drawn p None n k le h = tt
  work-drawn p (Some w) n k le h = hand-drawn p w.hand n k le h

  ticked-by : (s : StateOf m) (w : WorkOf m) (v : Rest m) (u : Option (Work m)) (next : ℕ) (sends : List Out) → KeepsMaybe m (Some w) u → Draws m s.stand s.layouts s.rids.next next w sends →
      KeepsClient m s (Some w) (client_of m s v) →
      KeepsStep m (record { state = record s { rids = record { next = next }; calls = s.calls + 1 }; work = Some w; sends = sends; notes = [] }) (tick_by m (client_of m s v) u)
  ticked-by s w v None next sends hw d h = absurd hw
  ticked-by s w v (Some u) next sends hw d h =
      let le : s.rids.next ≤ s.rids.next + s.layouts = omega arith in
      record {
        now = record {
          is = ap (λ (n : ℕ). client_of m (record s { rids = record { next = n }; calls = s.calls + 1 }) v) (sym d.later);
          view = h.view;
          work = h.work;
          drawn = work-drawn s.stand v.work s.rids.next (s.rids.next + s.layouts) le h.drawn;
          fit = h.fit;
        };
        sends = d.sent u.hand hw.hand;
        notes = refl;
      }

  by-tick : (c : Client m) → tick_by m c c.work ≡ client_tick m c
  unfolding client_tick
  by-tick c = refl

  pub ticked : (s : StateOf m) (w : WorkOf m) (c : Client m) (next calls : ℕ) (sends : List Out) (notes : List (NoteOf m)) → calls ≡ s.calls + 1 → notes ≡ [] → Draws m s.stand s.layouts s.rids.next next w sends → KeepsClient m s (Some w) c →
      KeepsStep m (record { state = record s { rids = record { next = next }; calls = calls }; work = Some w; sends = sends; notes = notes }) (client_tick m c)
  ticked s w c next calls sends notes hc hn d h =
      let k = ticked-by s w (rest_of m c) c.work next sends h.work d (plain s (Some w) c h) in
      let all : MovedOf m = record { state = record s { rids = record { next = next }; calls = calls }; work = Some w; sends = sends; notes = notes } in
      let same : record { state = record s { rids = record { next = next }; calls = s.calls + 1 }; work = Some w; sends = sends; notes = [] } ≡ all = λ i. record { state = record s { rids = record { next = next }; calls = (sym hc) i }; work = Some w; sends = sends; notes = (sym hn) i } in
      subst (λ (x : ClientTurn m). KeepsStep m all x) (by-tick c)
      (subst (λ (x : Client m). KeepsStep m all (tick_by m x x.work)) (sym h.is)
      (subst (λ (r : MovedOf m). KeepsStep m r (tick_by m (client_of m s (rest_of m c)) c.work)) same k))

  -- where no command waits

  idle-tick : (s : StateOf m) (v : Option (View m)) (n : ℕ) (x : MovedOf m) → KeepsMoved m s.rids.next x (moved m (idle m (record s { calls = s.calls + 1 }) v n) []) → KeepsStep m x (client_tick m (idle m s v n))
  unfolding client_tick client_asks
  idle-tick s v n x h = record { now = h.now; sends = h.sends; notes = h.notes }

  pub rested : (s : StateOf m) (c : Client m) (calls : ℕ) (notes : List (NoteOf m)) (x : MovedOf m) → calls ≡ s.calls + 1 → notes ≡ [] → KeepsClient m s None c →
      KeepsMoved m s.rids.next x (moved m (idle m (record s { calls = calls }) c.view c.played) notes) → KeepsStep m x (client_tick m c)
  rested s c calls notes x hc hn k h =
      subst (λ (d : Client m). KeepsStep m x (client_tick m d)) (sym (is_idle m s c k))
      (idle-tick s c.view c.played x
      (subst (λ (l : List (NoteOf m)). KeepsMoved m s.rids.next x (moved m (idle m (record s { calls = s.calls + 1 }) c.view c.played) l)) hn
      (subst (λ (i : ℕ). KeepsMoved m s.rids.next x (moved m (idle m (record s { calls = i }) c.view c.played) notes)) hc h)))
