-- A token is asked for by the append in hand, for the streams of its draft, and by nothing else.
use Rattle.std.proofs.Common.{◌≡◌, ◌⊎◌, ℕ, List, [], ◌∷◌, refl, sym, ap, ◌∙◌, inl, inr, Option, Some, None}
use Rattle.tg_base.specs.Layouts.{Layout}
use Rattle.tg_base.specs.declared.ids.NodeId.{NodeId}
use Rattle.tg_base.specs.declared.ids.Oid.{Oid}
use Rattle.tg_base.specs.declared.msg.Msg.{Msg}
use Rattle.tg_base.specs.declared.msg.Msg.TheVariants as msg
use Rattle.tg_base.specs.declared.packet.Out.{Out}
use Rattle.tg_kind.specs.Meaning.{Meaning}
use Rattle.tg_protocol.specs.Words.{unit_id, layout_id}
use Rattle.tg_protocol.specs.Entries.{streams_of}
use Rattle.tg_protocol.specs.Requests.{out, Waits, asked_of}
use Rattle.tg_protocol.specs.Cells.{Place, CellWork, Puts, Gets, Fills, Copies, Probes, CellJob, work_asks}
use Rattle.tg_protocol.specs.Appending.{AppendWork, Asking, Putting, Judging, Append, append_work_asks}
use Rattle.tg_protocol.specs.Syncing.{SyncWork, Checking, Settling, Probing, Sync, sync_work_asks}
use Rattle.tg_protocol.specs.Walking.{job_asks}
use Rattle.tg_protocol.specs.Sequencers.{scan_asks}
use Rattle.tg_protocol.specs.Trimming.{CopyWork, Sealing, Reading, Storing, Trimming, Looking, Copying, copy_work_asks}
use Rattle.tg_protocol.specs.Reconfiguring as re
use Rattle.tg_base.specs.declared.change.Join.{Join}
use Rattle.tg_protocol.specs.Reconfiguring.{Reconf, ReconfWork, SealingSpare, LookingSpare, Agreeing, Telling, Starting, LookingAgain, Preparing, Accepting, Stage, Later, join_asks, reconf_work_asks, reconf_asks, reconf_awaited, later_asks, stage_asks, set_asks}
use Rattle.tg_protocol.specs.Clients.{Task, Syncing, Walking, Appending, Copying', Reconfiguring}
use Rattle.tg_protocol.specs.Clients as task
use Rattle.tg_protocol.specs.ClientSteps.{task_asks, task_awaited}
use Rattle.tg_law_layouts.proofs.Moves.Members.{Has, has_either, has_map}

module _ (e : ℕ) (os : List Oid) where
  module _ {X : Type 0} where
    one_none : (to : NodeId) (r : ℕ) (x : Msg) (o : Out) → (x ≡ msg.Token e os → X) → Has (out to r x ∷ []) o → o.msg ≡ msg.Token e os → X
    one_none to r x o f (inl i) is = f (sym (ap (λ (y : Out). y.msg) i) ∙ is)
    one_none to r x o f (inr h) is = absurd h

    asked_none : (name : ℕ → NodeId) (x : Msg) (ws : Waits) (o : Out) → (x ≡ msg.Token e os → X) → Has (asked_of name x ws) o → o.msg ≡ msg.Token e os → X
    asked_none name x ws o f h is = let i = has_map (λ (w : ℕ × ℕ). out (name w.0) w.1 x) ws o h in f (sym (ap (λ (y : Out). y.msg) i.is) ∙ is)

    cell_none : (a : Place) (w : CellWork) (o : Out) → Has (work_asks a w) o → o.msg ≡ msg.Token e os → X
    unfolding work_asks
    cell_none a (Puts r x i) o h is = one_none _ r _ o (λ f. absurd cc) h is
    cell_none a (Gets r) o h is = one_none _ r _ o (λ f. absurd cc) h is
    cell_none a (Fills r) o h is = one_none _ r _ o (λ f. absurd cc) h is
    cell_none a (Copies r c i) o h is = one_none _ r _ o (λ f. absurd cc) h is
    cell_none a (Probes ws) o h is = asked_none unit_id _ ws o (λ f. absurd cc) h is

    maybe_none : (j : Option CellJob) (o : Out) → Has (job_asks j) o → o.msg ≡ msg.Token e os → X
    maybe_none None o h is = absurd h
    maybe_none (Some j) o h is = cell_none j.place j.work o h is

    pub scan_none : (j : Option CellJob) (o : Out) → Has (scan_asks j) o → o.msg ≡ msg.Token e os → X
    scan_none None o h is = absurd h
    scan_none (Some j) o h is = cell_none j.place j.work o h is

    copy_none : (p : Layout) (c : Copying) (w : CopyWork) (o : Out) → Has (copy_work_asks p c w) o → o.msg ≡ msg.Token e os → X
    unfolding copy_work_asks
    copy_none p c (Sealing r) o h is = one_none _ r _ o (λ f. absurd cc) h is
    copy_none p c (Reading j) o h is = cell_none j.place j.work o h is
    copy_none p c (Storing r q x) o h is = one_none _ r _ o (λ f. absurd cc) h is
    copy_none p c (Trimming r b) o h is = one_none _ r _ o (λ f. absurd cc) h is
    copy_none p c (Looking r) o h is = one_none _ r _ o (λ f. absurd cc) h is

    sync_none : (p : Layout) (s : Sync) (w : SyncWork) (o : Out) → Has (sync_work_asks p s w) o → o.msg ≡ msg.Token e os → X
    unfolding sync_work_asks
    sync_none p s (Checking r) o h is = one_none _ r _ o (λ f. absurd cc) h is
    sync_none p s (Settling a j) o h is = cell_none j.place j.work o h is
    sync_none p s (Probing a j) o h is = cell_none j.place j.work o h is

    join_none : (x : Option Join) (f : Join → List Out) (o : Out) → ((y : Join) → Has (f y) o → o.msg ≡ msg.Token e os → X) → Has (join_asks x f) o → o.msg ≡ msg.Token e os → X
    join_none None f o g h is = absurd h
    join_none (Some y) f o g h is = g y h is

    stage_none : (r : Reconf) (round : ℕ) (s : Stage) (o : Out) → Has (stage_asks r round s) o → o.msg ≡ msg.Token e os → X
    stage_none r round (Preparing ws hs) o h is = asked_none layout_id _ ws o (λ f. absurd cc) h is
    stage_none r round (Accepting ws n q) o h is = asked_none layout_id _ ws o (λ f. absurd cc) h is

    later_none : (r : Reconf) (w : ReconfWork) (o : Out) → Has (later_asks r w) o → o.msg ≡ msg.Token e os → X
    later_none r (Agreeing v) o h is = by v.later h
      where
        by : (x : Option Later) → Has (set_asks r x) o → X
        by None h = absurd h
        by (Some x) h = asked_none layout_id _ x.waits o (λ f. absurd cc) h is
    later_none r w o h is = absurd h

    work_none : (r : Reconf) (w : ReconfWork) (o : Out) → Has (reconf_work_asks r w) o → o.msg ≡ msg.Token e os → X
    unfolding reconf_work_asks
    work_none r (SealingSpare n) o h is = join_none r.change.join _ o (λ j g i. one_none _ n _ o (λ f. absurd cc) g i) h is
    work_none r (LookingSpare n) o h is = join_none r.change.join _ o (λ j g i. one_none _ n _ o (λ f. absurd cc) g i) h is
    work_none r (re.Sealing ws acks) o h is = asked_none unit_id _ ws o (λ f. absurd cc) h is
    work_none r (LookingAgain n acks) o h is = join_none r.change.join _ o (λ j g i. one_none _ n _ o (λ f. absurd cc) g i) h is
    work_none r (Agreeing v) o h is = stage_none r v.round v.stage o h is
    work_none r (Telling ws n q) o h is = asked_none layout_id _ ws o (λ f. absurd cc) h is
    work_none r (Starting n) o h is = one_none _ n _ o (λ f. absurd cc) h is

    reconf_none : (r : Reconf) (o : Out) → Has (reconf_awaited r) o → o.msg ≡ msg.Token e os → X
    reconf_none r o h is = by (has_either (reconf_asks r) (later_asks r r.work) o h)
      where
        by : Has (reconf_asks r) o ⊎ Has (later_asks r r.work) o → X
        by (inl g) = work_none r r.work o g is
        by (inr g) = later_none r r.work o g is

  append_asks_for : (p : Layout) (a : Append) (w : AppendWork) (o : Out) → Has (append_work_asks p a w) o → o.msg ≡ msg.Token e os → os ≡ streams_of a.draft
  unfolding append_work_asks
  append_asks_for p a (Asking r) o h is = one_none _ r _ o (λ f. same p.epoch (streams_of a.draft) f) h is
    where
      same : (g : ℕ) (ns : List Oid) → msg.Token g ns ≡ msg.Token e os → os ≡ ns
      same g ns f = cc
  append_asks_for p a (Putting j) o h is = cell_none j.place j.work o h is
  append_asks_for p a (Judging j) o h is = cell_none j.place j.work o h is

module _ (m : Meaning) where
  -- an append in hand asks for it, for the streams of its draft
  pub record AsksToken (t : Task m) (os : List Oid) : Type 0 where
    pub append : Append
    pub purpose : task.Purpose m
    pub is : t ≡ Appending append purpose
    pub streams : os ≡ streams_of append.draft

  pub task_token : (p : Layout) (t : Task m) (o : Out) (e : ℕ) (os : List Oid) → Has (task_awaited m p t) o → o.msg ≡ msg.Token e os → AsksToken t os
  unfolding task_asks
  task_token p (Appending a y) o e os h is = record { append = a; purpose = y; is = refl; streams = append_asks_for e os p a a.work o h is }
  task_token p (Syncing s) o e os h is = sync_none e os p s s.work o h is
  task_token p (Walking v ns) o e os h is = maybe_none e os v.job o h is
  task_token p (task.Trimming t) o e os h is = asked_none e os unit_id _ t.waits o (λ f. absurd cc) h is
  task_token p (Copying' x) o e os h is = copy_none e os p x x.work o h is
  task_token p (Reconfiguring r) o e os h is = reconf_none e os r o h is
