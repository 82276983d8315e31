-- What a client reads in a step, where its command reads for the view alone.
use Rattle.std.proofs.Common.{◌≡◌, ◌⊎◌, ℕ, ◌≤◌, List, [], ◌∷◌, refl, sym, ap, ◌∙◌, subst, inl, inr, Option, Some, None}
use Rattle.tg_base.specs.Layouts.{Layout}
use Rattle.tg_base.specs.declared.ids.NodeId.{NodeId}
use Rattle.tg_base.specs.declared.msg.Msg.TheVariants as msg
use Rattle.tg_base.specs.declared.packet.Out.{Out}
use Rattle.tg_base.specs.declared.packet.Packet.{Packet}
use Rattle.tg_kind.specs.Meaning.{Meaning}
use Rattle.tg_model.specs.Kinds.{CommandOf, EventOf}
use Rattle.tg_protocol.specs.Words.{client_id, unit_id, layout_id, seqr_id, numbers}
use Rattle.tg_protocol.specs.Entries.{streams_of}
use Rattle.tg_protocol.specs.Requests.{out, Waits, asked_of, waits_for, drawn_from}
use Rattle.tg_protocol.specs.Replies.{Reply, reply}
use Rattle.tg_protocol.specs.Cells.{CellJob, cell_asks}
use Rattle.tg_protocol.specs.Appending.{Append, AppendWork, Asking, Putting, Judging, append_work_asks, append_start}
use Rattle.tg_protocol.specs.Syncing.{Sync, SyncWork, Checking, Settling, Probing, sync_work_asks, sync_start}
use Rattle.tg_protocol.specs.Walking.{job_asks}
use Rattle.tg_protocol.specs.Views.{View}
use Rattle.tg_protocol.specs.Clients.{Task, Syncing, Walking, Appending, Trimming, Copying', Reconfiguring, Hand, Doing, Learning, Work, Client, refusal}
use Rattle.tg_protocol.specs.Answers.{Moved, appends, syncs}
use Rattle.tg_protocol.specs.ClientSteps as step
use Rattle.tg_protocol.specs.ClientSteps.{ClientTurn, task_asks, task_awaited, hand_asks, hand_again_asks, client_asks, work_asks, asks_latest, task_in, after_turn, reconf_to, on_reconf, task_feed, task_again, on_newer, copies_again, stands, accepts, refused_or, new_work, client_command, client_deliver, client_tick}
use Rattle.tg_protocol.specs.Worlds.{World, client, noted_of, packet_of, happens, start}
use Rattle.tg_protocol.specs.Runs.{EachStep}
use Rattle.tg_protocol.specs.Playing.{MetTrimAbove, ReadsForView}
use Rattle.tg_law_layouts.specs.Moves.Configs.{config}
use Rattle.tg_law_layouts.proofs.Moves.Members.{Has, Image, has_contained, has_either, has_filter, has_map}
use Rattle.tg_law_layouts.proofs.Moves.Moves.{ClientInput, Commanded, Hears', Ticks'}
use Rattle.tg_law_layouts.proofs.Moves.Besides.{OnlyLearns, sync_besides, append_besides, append_again_besides, sync_again_besides}
use Rattle.tg_law_steps.proofs.Places.{Place, OnSync, OnAppend, Walks}
use Rattle.tg_law_steps.proofs.Ways.{Way, FeedsSync, FeedsAppend, NewerSync, NewerAppend, AllWalked, HasPlayed, LooksBack, IsRescue}
use Rattle.tg_law_steps.proofs.Ends.{End, GoesOn, IsGoing, SyncGoes, AppendGoes}
use Rattle.tg_law_steps.proofs.Takes.{Taken, SaidAtOnce}
use Rattle.tg_law_steps.proofs.Along.{delivered, over_walks, commanded}
use Rattle.tg_law_replies.proofs.Books.Worlds.{cancel}
use Rattle.tg_law_claims.specs.Playing.Rules.{ViewsReadOn}
use Rattle.tg_law_claims.proofs.Playing.Quiet.{SyncQuiet, AppendQuiet, Quiet, none_quiet, one_quiet, all_quiet, work_quiet, job_reads}
use Rattle.tg_law_claims.proofs.Playing.Turns.{Past, TaskAt, WorkAt, At'}
use Rattle.tg_law_claims.proofs.Playing.Acts.{Turns, Acts, Others, Acts', acts}
use Rattle.tg_law_claims.proofs.Playing.Steps.{State, start_state, state_run, stepped}

learns_quiet : (p : Layout) (os : List Out) → OnlyLearns p os → Quiet os
learns_quiet p os f o epoch q h is = no (sym (f o h) ∙ is)
  where
    no : msg.Learn p ≡ msg.Read epoch q → ⊥
    no e = cc

module _ (m : Meaning) where
  -- What goes besides a client's requests reads nothing.

  abbrev QuietAt : Client m → Work m → Place m → Type 0
  QuietAt c w (OnSync bs to) = Quiet bs
  QuietAt c w (OnAppend y bs to) = Quiet bs
  QuietAt c w p = Unit {0}

  way_quiet : (c : Client m) (w : Work m) (p : Place m) (d : Client m) (v : Work m) (q : Place m) → Way m c w p d v q → QuietAt c w p → QuietAt d v q
  way_quiet c w _ _ _ _ (FeedsSync s n rid x) h = learns_quiet c.stand _ (sync_besides c.stand s s.work n x c.next)
  way_quiet c w _ _ _ _ (FeedsAppend a y n rid x) h = learns_quiet c.stand _ (append_besides c.stand a a.token a.work n x c.next refl)
  way_quiet c w _ _ _ _ (NewerSync s n rid q) h = learns_quiet q _ (sync_again_besides q s c.next)
  way_quiet c w _ _ _ _ (NewerAppend a y n rid q) h = learns_quiet q _ (append_again_besides q a c.next)
  way_quiet c w _ _ _ _ x h = tt

  walked_quiet : (c : Client m) (w : Work m) (d : Client m) (q : Place m) → AllWalked m c w d q → QuietAt c w (Walks []) → QuietAt d w q
  walked_quiet c w _ _ (HasPlayed of) h = tt
  walked_quiet c w _ _ (LooksBack at o q of) h = tt
  walked_quiet c w _ _ (IsRescue at of) h = tt

  goes_quiet : (c : Client m) (w : Work m) (p : Place m) (d : Client m) (t : Task m) (bs : List Out) → IsGoing m c w p d t bs → QuietAt c w p → Quiet bs
  goes_quiet c w _ _ _ _ (SyncGoes bs s) h = h
  goes_quiet c w _ _ _ _ (AppendGoes y bs a) h = h
  goes_quiet c w _ _ _ _ x h = none_quiet

  ends_quiet : (c : Client m) (w : Work m) (p : Place m) (x : Moved m) → End m c w p x → QuietAt c w p → Quiet x.besides
  unfolding appends append_start syncs sync_start
  ends_quiet c w p _ (GoesOn d t bs x) h = goes_quiet c w p d t bs x h
  ends_quiet c w p _ x h = none_quiet

  pub feed_quiet : (c : Client m) (from : NodeId) (rid : ℕ) (x : Reply) → Quiet (step.feed m c c.work from rid x).besides
  feed_quiet c from rid x = delivered m QuietAt (λ y. Quiet y.besides) ends_quiet way_quiet (over_walks m QuietAt (λ y. Quiet y.besides) ends_quiet walked_quiet) c from rid x none_quiet (λ w t has doing a other. tt) (λ w q has is e. tt)

  pub command_quiet : (c : Client m) (x : CommandOf m) → Quiet (refused_or m c x (refusal m c x)).besides
  unfolding appends append_start syncs sync_start
  command_quiet c x = commanded m (λ y. Quiet y.besides) c x (λ why e. none_quiet) (λ e. takes c x)
    where
      takes : (c : Client m) (x : CommandOf m) (y : Moved m) → Taken m c x y → Quiet y.besides
      takes c _ _ (SaidAtOnce x d ns s) = none_quiet
      takes c _ _ x = none_quiet

  -- What is outstanding reads past where the view stood.
  module _ (given : ℕ) (Met : Type 0) where
    abbrev ReadsPast : List Out → Type 0
    ReadsPast os = (o : Out) (epoch p : ℕ) → Has os o → o.msg ≡ msg.Read epoch p → Past m given Met p

    quiet_past : (os : List Out) → Quiet os → ReadsPast os
    quiet_past os f o epoch p h is = absurd (f o epoch p h is)

    sync_past : (p : Layout) (s : Sync) (w : SyncWork) → SyncQuiet w → ReadsPast (sync_work_asks p s w)
    unfolding sync_work_asks
    sync_past p s (Checking r) k = quiet_past (out (seqr_id p.seq) r (msg.Check p.epoch s.oids) ∷ []) (one_quiet (seqr_id p.seq) r (msg.Check p.epoch s.oids) (λ e q h. cc))
    sync_past p s (Settling a j) k = quiet_past (cell_asks j) (work_quiet j.place j.work k)
    sync_past p s (Probing a j) k = quiet_past (cell_asks j) (work_quiet j.place j.work k)

    append_past : (p : Layout) (a : Append) (w : AppendWork) → AppendQuiet w → ReadsPast (append_work_asks p a w)
    unfolding append_work_asks
    append_past p a (Asking r) k = quiet_past (out (seqr_id p.seq) r (msg.Token p.epoch (streams_of a.draft)) ∷ []) (one_quiet (seqr_id p.seq) r (msg.Token p.epoch (streams_of a.draft)) (λ e q h. cc))
    append_past p a (Putting j) k = quiet_past (cell_asks j) (work_quiet j.place j.work k)
    append_past p a (Judging j) k = quiet_past (cell_asks j) (work_quiet j.place j.work k)

    walk_past : (o : Option CellJob) → ((j : CellJob) → o ≡ Some j → Past m given Met j.place.pos) → ReadsPast (job_asks o)
    walk_past None f o epoch p h is = absurd h
    walk_past (Some j) f o epoch p h is = subst (Past m given Met) (sym (job_reads j o epoch p h is)) (f j refl)

    task_past : (x : CommandOf m) (lo : ℕ) (v : Option (View m)) (t : Task m) (p : Layout) → ReadsForView m x → TaskAt m given Met x lo v t → ReadsPast (task_asks m p t)
    unfolding task_asks
    task_past x lo v (Syncing s) p r k = sync_past p s s.work k.1
    task_past x lo v (Walking w os) p r k = walk_past w.job (k.1 r).1.1
    task_past x lo v (Appending a y) p r k = append_past p a a.work k.1
    task_past x lo v (Trimming t) p r k = quiet_past (asked_of unit_id (msg.Trim p.epoch t.below) t.waits) (all_quiet unit_id (msg.Trim p.epoch t.below) t.waits (λ e q h. cc))
    task_past x lo v (Copying' y) p r k = absurd (k r)
    task_past x lo v (Reconfiguring y) p r k = absurd (k r)

    latest_past : (ws : Waits) → ReadsPast (asks_latest m ws)
    latest_past ws = quiet_past (asks_latest m ws) (all_quiet layout_id msg.AskLatest ws (λ e q h. cc))

    hand_past : (x : CommandOf m) (lo : ℕ) (v : Option (View m)) (d : Hand m) (p : Layout) → ReadsForView m x → TaskAt m given Met x lo v (task_in m d) → ReadsPast (hand_asks m p d)
    hand_past x lo v (Doing t) p r k = task_past x lo v t p r k
    hand_past x lo v (Learning ws t) p r k = latest_past ws

    again_past : (x : CommandOf m) (lo : ℕ) (v : Option (View m)) (d : Hand m) (p : Layout) → ReadsForView m x → TaskAt m given Met x lo v (task_in m d) → ReadsPast (hand_again_asks m p d)
    again_past x lo v (Doing (Reconfiguring y)) p r k = absurd (k r)
    again_past x lo v (Doing (Syncing s)) p r k = task_past x lo v (Syncing s) p r k
    again_past x lo v (Doing (Walking w os)) p r k = task_past x lo v (Walking w os) p r k
    again_past x lo v (Doing (Appending a y)) p r k = task_past x lo v (Appending a y) p r k
    again_past x lo v (Doing (Trimming t)) p r k = task_past x lo v (Trimming t) p r k
    again_past x lo v (Doing (Copying' y)) p r k = task_past x lo v (Copying' y) p r k
    again_past x lo v (Learning ws t) p r k = latest_past ws

    -- the command in hand reads for the view
    abbrev ForView : Option (Work m) → Type 0
    ForView None = ⊥
    ForView (Some w) = ReadsForView m w.command

    asks_past : (c : Client m) → At' m given Met c → ForView c.work → ReadsPast (client_asks m c)
    unfolding client_asks
    asks_past c h r = by c.work h r
      where
        by : (w : Option (Work m)) → WorkAt m given Met c.view w → ForView w → ReadsPast (work_asks m c.stand w)
        by None h r = absurd r
        by (Some w) h r = hand_past w.command w.lo c.view w.hand c.stand r h

    given_past : (old : Client m) (x : Moved m) → Quiet x.besides → At' m given Met x.now → ForView x.now.work → ReadsPast (step.given m old x).sends
    given_past old x q h r o epoch p i is = by (has_either x.besides (drawn_from old.next (client_asks m x.now)) o i)
      where
        by : Has x.besides o ⊎ Has (drawn_from old.next (client_asks m x.now)) o → Past m given Met p
        by (inl j) = absurd (q o epoch p j is)
        by (inr j) = asks_past x.now h r o epoch p (has_filter _ (client_asks m x.now) o j) is

    tick_past : (c : Client m) (w : Option (Work m)) → c.work ≡ w → At' m given Met (step.tick_by m c w).now → ForView (step.tick_by m c w).now.work → ReadsPast (step.tick_by m c w).sends
    tick_past c None e h r o epoch p i is = absurd i
    tick_past c (Some w) e h r o epoch p i is = by (has_either (hand_again_asks m c.stand w.hand) (asks_latest m (waits_for (numbers c.layouts 0) c.next)) o i)
      where
        by : Has (hand_again_asks m c.stand w.hand) o ⊎ Has (asks_latest m (waits_for (numbers c.layouts 0) c.next)) o → Past m given Met p
        by (inl j) = again_past w.command w.lo c.view w.hand c.stand (subst ForView e r) (subst (WorkAt m given Met c.view) e h) o epoch p j is
        by (inr j) = latest_past _ o epoch p j is

  -- A step.

  module _ (w : World m) (n : ℕ) (given : ℕ) (Met : Type 0) where
    turn_past : (t : ClientTurn m) → ClientInput m (config m w) n t → At' m given Met t.now → ForView given Met t.now.work → ReadsPast given Met t.sends
    unfolding client_command client_deliver client_tick
    turn_past t (Commanded x) h r = given_past given Met (client m w n) (refused_or m (client m w n) x (refusal m (client m w n) x)) (command_quiet (client m w n) x) h r
    turn_past t (Hears' p comes) h r = given_past given Met (client m w n) (step.feed m (client m w n) (client m w n).work p.from p.rid (reply p.msg)) (feed_quiet (client m w n) p.from p.rid (reply p.msg)) h r
    turn_past t Ticks' h r = tick_past given Met (client m w n) (client m w n).work refl h r

  module _ (w : World m) (e : EventOf m) (st : State m w) where
    abbrev v : World m
    v = happens m w e

    reads : Acts m w e v → State m v → ViewsReadOn m w e
    reads (Others ps p others t c n even) after k q x = absurd (others x.packet k (subst (λ (zs : List Packet). Has zs x.packet) (cancel w.packets x.packets ps (sym x.are ∙ p)) (has_contained x.packets x.packet x.here)) x.from)
    reads (Acts' n t s i noted p told turns even) after k q x = by (has_map (packet_of m (client_id n)) t.sends x.packet (subst (λ (zs : List Packet). Has zs x.packet) (cancel w.packets x.packets _ (sym x.are ∙ p)) (has_contained x.packets x.packet x.here)))
      where
        by : Image (packet_of m (client_id n)) t.sends x.packet → ((noted_of m v k).upto ≤ q) ⊎ MetTrimAbove m v k
        by y = at (turns k)
          where
            is_k : k ≡ n
            is_k = ap (λ (a : NodeId). a.num) (sym x.from ∙ ap (λ (z : Packet). z.from) y.is)

            at : Turns m w v n t s k → ((noted_of m v k).upto ≤ q) ⊎ MetTrimAbove m v k
            at (inr z) = absurd (z.2 is_k)
            at (inl z) =
                turn_past w n (noted_of m v k).upto (MetTrimAbove m v k) t i
                (subst (At' m (noted_of m v k).upto (MetTrimAbove m v k)) z.1 (after.clients k).at)
                (subst (ForView (noted_of m v k).upto (MetTrimAbove m v k)) (sym x.works ∙ ap (λ (c : Client m). c.work) z.1) x.for_view)
                y.of x.epoch q y.has (sym (ap (λ (u : Packet). u.msg) y.is) ∙ x.reads)

  pub views_read_on : EachStep m (ViewsReadOn m)
  views_read_on h ms w e r lawful less =
      let st = subst (State m) (sym r.goes.is) (state_run m ms (start m h) (start_state m h)) in
      reads w e st (acts m w st.even e) (stepped m w e st (acts m w st.even e)).0
