-- What a client reads is what its walk or its copy reads.
use Rattle.std.proofs.Common.{◌≡◌, ◌⊎◌, ℕ, List, [], ◌∷◌, refl, sym, ap, ◌∙◌, subst, inl, inr, Option, Some, None}
use Rattle.tg_base.specs.Layouts.{Layout}
use Rattle.tg_base.specs.declared.change.Join.{Join}
use Rattle.tg_base.specs.declared.ids.Oid.{Oid}
use Rattle.tg_base.specs.declared.marks.StreamLink.{StreamLink}
use Rattle.tg_base.specs.declared.msg.Msg.TheVariants as msg
use Rattle.tg_base.specs.declared.packet.Out.{Out}
use Rattle.tg_kind.specs.Meaning.{Meaning}
use Rattle.tg_protocol.specs.Words.{unit_id, layout_id, seqr_id, numbers}
use Rattle.tg_protocol.specs.Entries.{streams_of}
use Rattle.tg_protocol.specs.Requests.{out, Waits, asked_of, waits_for, drawn_from}
use Rattle.tg_protocol.specs.Cells.{Place, CellWork, Puts, Gets, Fills, Copies, Probes, CellJob, work_asks, cell_asks}
use Rattle.tg_protocol.specs.Appending.{Append, AppendWork, Asking, Putting, Judging, append_work_asks}
use Rattle.tg_protocol.specs.Syncing.{Sync, SyncWork, Checking, Settling, Probing, sync_work_asks}
use Rattle.tg_protocol.specs.Walking.{Walk, job_asks}
use Rattle.tg_protocol.specs.Trimming.{CopyWork, Sealing, Reading, Storing, Looking, Copying, copy_work_asks, has_stripe}
use Rattle.tg_protocol.specs.Trimming as copying
use Rattle.tg_protocol.specs.Reconfiguring.{Reconf, ReconfWork, SealingSpare, LookingSpare, LookingAgain, Agreeing, Telling, Starting, Stage, Preparing, Accepting, Later, join_asks, stage_asks, set_asks, later_asks, this_or, reconf_asks, reconf_work_asks, reconf_again_asks}
use Rattle.tg_protocol.specs.Reconfiguring as reconf
use Rattle.tg_protocol.specs.Clients.{Task, Syncing, Walking, Appending, Trimming, Copying', Reconfiguring, Hand, Doing, Learning, Work, Client}
use Rattle.tg_protocol.specs.Answers.{Moved}
use Rattle.tg_protocol.specs.ClientSteps as step
use Rattle.tg_protocol.specs.ClientSteps.{task_asks, hand_asks, hand_again_asks, client_asks, asks_latest, task_in}
use Rattle.tg_protocol.specs.Playing.{InStripe}
use Rattle.tg_law_layouts.proofs.Moves.Members.{Has, has_either, has_filter}
use Rattle.tg_law_claims.proofs.Playing.Quiet.{NotGets, SyncQuiet, AppendQuiet, Quiet, none_quiet, one_quiet, all_quiet, work_quiet, job_reads}
use Rattle.tg_law_claims.proofs.Playing.Stripes.{WorkIn, IsCopying}
use Rattle.tg_law_claims.proofs.Playing.Pathing.{TaskOn, WorkOn, IsOn}

-- Requests that read nothing.

sync_silent : (p : Layout) (s : Sync) (w : SyncWork) → SyncQuiet w → Quiet (sync_work_asks p s w)
unfolding sync_work_asks
sync_silent p s (Checking r) k = one_quiet (seqr_id p.seq) r (msg.Check p.epoch s.oids) (λ e q h. cc)
sync_silent p s (Settling a j) k = work_quiet j.place j.work k
sync_silent p s (Probing a j) k = work_quiet j.place j.work k

append_silent : (p : Layout) (a : Append) (w : AppendWork) → AppendQuiet w → Quiet (append_work_asks p a w)
unfolding append_work_asks
append_silent p a (Asking r) k = one_quiet (seqr_id p.seq) r (msg.Token p.epoch (streams_of a.draft)) (λ e q h. cc)
append_silent p a (Putting j) k = work_quiet j.place j.work k
append_silent p a (Judging j) k = work_quiet j.place j.work k

join_silent : (j : Option Join) (f : Join → List Out) → ((i : Join) → Quiet (f i)) → Quiet (join_asks j f)
join_silent None f k = none_quiet
join_silent (Some i) f k = k i

stage_silent : (r : Reconf) (round : ℕ) (s : Stage) → Quiet (stage_asks r round s)
stage_silent r round (Preparing ws ps) = all_quiet layout_id (msg.Prepare _ _) ws (λ e q h. cc)
stage_silent r round (Accepting ws n q) = all_quiet layout_id (msg.Accept _ _ q) ws (λ e q h. cc)

reconf_silent : (r : Reconf) (w : ReconfWork) → Quiet (reconf_work_asks r w)
unfolding reconf_work_asks
reconf_silent r (SealingSpare n) = join_silent r.change.join _ (λ j. one_quiet (unit_id j.unit) n (msg.Seal r.stand.epoch) (λ e q h. cc))
reconf_silent r (LookingSpare n) = join_silent r.change.join _ (λ j. one_quiet (unit_id j.unit) n (has_stripe r.stand.epoch r.stand j.range j.stripe) (λ e q h. cc))
reconf_silent r (reconf.Sealing ws acks) = all_quiet unit_id (msg.Seal _) ws (λ e q h. cc)
reconf_silent r (LookingAgain n acks) = join_silent r.change.join _ (λ j. one_quiet (unit_id j.unit) n (has_stripe _ r.stand j.range j.stripe) (λ e q h. cc))
reconf_silent r (Agreeing v) = stage_silent r v.round v.stage
reconf_silent r (Telling ws n q) = all_quiet layout_id (msg.Decided q) ws (λ e p h. cc)
reconf_silent r (Starting n) = one_quiet (seqr_id r.stand.seq) n (msg.Learn r.stand) (λ e q h. cc)

set_silent : (r : Reconf) (l : Option Later) → Quiet (set_asks r l)
set_silent r None = none_quiet
set_silent r (Some l) = all_quiet layout_id (msg.Prepare _ _) l.waits (λ e q h. cc)

later_silent : (r : Reconf) (w : ReconfWork) → Quiet (later_asks r w)
later_silent r (Agreeing v) = set_silent r v.later
later_silent r w = none_quiet

this_silent : (xs ys : List Out) → Quiet xs → Quiet ys → Quiet (this_or xs ys)
this_silent [] ys f g = g
this_silent (x ∷ xs) ys f g = f

again_silent : (r : Reconf) → Quiet (reconf_again_asks r)
again_silent r = this_silent (later_asks r r.work) (reconf_asks r) (later_silent r r.work) (reconf_silent r r.work)

-- A cell's job reads in the epoch of its place.

same_epoch : (e f p q : ℕ) → msg.Read e p ≡ msg.Read f q → f ≡ e
same_epoch e f p q h = cc

gets_in : (a : Place) (r : ℕ) (o : Out) (epoch p : ℕ) → Has (work_asks a (Gets r)) o → o.msg ≡ msg.Read epoch p → epoch ≡ a.epoch
unfolding work_asks
gets_in a r o epoch p (inl e) is = same_epoch a.epoch epoch a.pos p (ap (λ (y : Out). y.msg) (sym e) ∙ is)
gets_in a r o epoch p (inr h) is = absurd h

job_epoch : (j : CellJob) (o : Out) (epoch p : ℕ) → Has (cell_asks j) o → o.msg ≡ msg.Read epoch p → epoch ≡ j.place.epoch
job_epoch j = by j.work
  where
    none : (w : CellWork) → NotGets w → (o : Out) (epoch p : ℕ) → Has (work_asks j.place w) o → o.msg ≡ msg.Read epoch p → epoch ≡ j.place.epoch
    none w k o epoch p h is = absurd (work_quiet j.place w k o epoch p h is)

    by : (w : CellWork) → (o : Out) (epoch p : ℕ) → Has (work_asks j.place w) o → o.msg ≡ msg.Read epoch p → epoch ≡ j.place.epoch
    by (Gets r) = gets_in j.place r
    by (Puts r d i) = none (Puts r d i) tt
    by (Fills r) = none (Fills r) tt
    by (Copies r c i) = none (Copies r c i) tt
    by (Probes ws) = none (Probes ws) tt

module _ (m : Meaning) (Heard : List StreamLink → Type 0) (Given : ℕ → ℕ → ℕ → Type 0) where
  -- a walk in hand reads a position
  pub record WalkReads (c : Client m) (p : ℕ) : Type 0 where
    pub work : Work m
    pub works : c.work ≡ Some work
    pub walk : Walk
    pub rest : List Oid
    pub task : task_in m work.hand ≡ Walking walk rest
    pub job : CellJob
    pub reads : walk.job ≡ Some job
    pub at : p ≡ job.place.pos

  -- a copy in hand does
  pub record CopyReads (c : Client m) (epoch p : ℕ) : Type 0 where
    pub copy : Copying
    pub copies : IsCopying m Given c.stand copy
    pub now : epoch ≡ c.stand.epoch
    pub here : InStripe m c.stand copy.range copy.stripe p

  abbrev pub ReadsIt : Client m → ℕ → ℕ → Type 0
  ReadsIt c epoch p = WalkReads c p ⊎ CopyReads c epoch p

  abbrev pub AllRead : Client m → List Out → Type 0
  AllRead c os = (o : Out) (epoch p : ℕ) → Has os o → o.msg ≡ msg.Read epoch p → ReadsIt c epoch p

  module _ (c : Client m) where
    silent : (os : List Out) → Quiet os → AllRead c os
    silent os f o epoch p h is = absurd (f o epoch p h is)

    copy_read : (x : Copying) (w : CopyWork) → IsCopying m Given c.stand x → x.work ≡ w → AllRead c (copy_work_asks c.stand x w)
    unfolding copy_work_asks
    copy_read x (Sealing r) k e = silent (out (unit_id x.unit) r (msg.Seal c.stand.epoch) ∷ []) (one_quiet (unit_id x.unit) r (msg.Seal c.stand.epoch) (λ e q h. cc))
    copy_read x (Reading j) k e = λ o epoch p h is.
        let at = subst (WorkIn m Given c.stand x.range x.stripe) e k.work in
        inr (record { copy = x; copies = k; now = job_epoch j o epoch p h is ∙ at.0; here = subst (InStripe m c.stand x.range x.stripe) (sym (job_reads j o epoch p h is)) at.1 })
    copy_read x (Storing r pos d) k e = silent (out (unit_id x.unit) r (msg.Copy c.stand.epoch pos d) ∷ []) (one_quiet (unit_id x.unit) r (msg.Copy c.stand.epoch pos d) (λ e q h. cc))
    copy_read x (copying.Trimming r b) k e = silent (out (unit_id x.unit) r (msg.Trim c.stand.epoch b) ∷ []) (one_quiet (unit_id x.unit) r (msg.Trim c.stand.epoch b) (λ e q h. cc))
    copy_read x (Looking r) k e = silent (out (unit_id x.unit) r (has_stripe c.stand.epoch c.stand x.range x.stripe) ∷ []) (one_quiet (unit_id x.unit) r (has_stripe c.stand.epoch c.stand x.range x.stripe) (λ e q h. cc))

    walk_read : (w : Work m) (k : Walk) (os : List Oid) (j : Option CellJob) → c.work ≡ Some w → task_in m w.hand ≡ Walking k os → k.job ≡ j → AllRead c (job_asks j)
    walk_read w k os None works task e o epoch p h is = absurd h
    walk_read w k os (Some j) works task e o epoch p h is = inl (record { work = w; works = works; walk = k; rest = os; task = task; job = j; reads = e; at = job_reads j o epoch p h is })

    task_read : (w : Work m) (t : Task m) → c.work ≡ Some w → task_in m w.hand ≡ t → TaskOn m Heard Given c.stand w.lasts t → AllRead c (task_asks m c.stand t)
    unfolding task_asks
    task_read w (Syncing s) works task k = silent (sync_work_asks c.stand s s.work) (sync_silent c.stand s s.work k.1)
    task_read w (Walking x os) works task k = walk_read w x os x.job works task refl
    task_read w (Appending a y) works task k = silent (append_work_asks c.stand a a.work) (append_silent c.stand a a.work k)
    task_read w (Trimming t) works task k = silent (asked_of unit_id (msg.Trim c.stand.epoch t.below) t.waits) (all_quiet unit_id (msg.Trim c.stand.epoch t.below) t.waits (λ e q h. cc))
    task_read w (Copying' x) works task k = copy_read x x.work k refl
    task_read w (Reconfiguring r) works task k = silent (reconf_work_asks r r.work) (reconf_silent r r.work)

    latest_silent : (ws : Waits) → AllRead c (asks_latest m ws)
    latest_silent ws = silent (asks_latest m ws) (all_quiet layout_id msg.AskLatest ws (λ e q h. cc))

    hand_read : (w : Work m) (d : Hand m) → c.work ≡ Some w → w.hand ≡ d → TaskOn m Heard Given c.stand w.lasts (task_in m d) → AllRead c (hand_asks m c.stand d)
    hand_read w (Doing t) works e k = task_read w t works (ap (task_in m) e) k
    hand_read w (Learning ws t) works e k = latest_silent ws

    again_read : (w : Work m) (d : Hand m) → c.work ≡ Some w → w.hand ≡ d → TaskOn m Heard Given c.stand w.lasts (task_in m d) → AllRead c (hand_again_asks m c.stand d)
    again_read w (Doing (Reconfiguring r)) works e k = silent (reconf_again_asks r) (again_silent r)
    again_read w (Doing (Syncing s)) works e k = task_read w (Syncing s) works (ap (task_in m) e) k
    again_read w (Doing (Walking x os)) works e k = task_read w (Walking x os) works (ap (task_in m) e) k
    again_read w (Doing (Appending a y)) works e k = task_read w (Appending a y) works (ap (task_in m) e) k
    again_read w (Doing (Trimming t)) works e k = task_read w (Trimming t) works (ap (task_in m) e) k
    again_read w (Doing (Copying' x)) works e k = task_read w (Copying' x) works (ap (task_in m) e) k
    again_read w (Learning ws t) works e k = latest_silent ws

    asks_read : IsOn m Heard Given c → AllRead c (client_asks m c)
    unfolding client_asks
    asks_read h = by c.work refl
      where
        by : (w : Option (Work m)) → c.work ≡ w → AllRead c (step.work_asks m c.stand w)
        by None e = λ o epoch p i is. absurd i
        by (Some w) e = hand_read w w.hand e refl (subst (WorkOn m Heard Given c.stand) e h)

  -- what a turn sends
  pub given_read : (old : Client m) (x : Moved m) → Quiet x.besides → IsOn m Heard Given x.now → AllRead (step.given m old x).now (step.given m old x).sends
  given_read old x q h o epoch p i is = by (has_either x.besides (drawn_from old.next (client_asks m x.now)) o i)
    where
      -- the count of steps is no part of it
      called : ReadsIt x.now epoch p → ReadsIt (step.called m x.now) epoch p
      called (inl y) = inl (record { work = y.work; works = y.works; walk = y.walk; rest = y.rest; task = y.task; job = y.job; reads = y.reads; at = y.at })
      called (inr y) = inr (record { copy = y.copy; copies = y.copies; now = y.now; here = y.here })

      by : Has x.besides o ⊎ Has (drawn_from old.next (client_asks m x.now)) o → ReadsIt (step.called m x.now) epoch p
      by (inl j) = absurd (q o epoch p j is)
      by (inr j) = called (asks_read x.now h o epoch p (has_filter _ (client_asks m x.now) o j) is)

  pub tick_read : (c : Client m) (w : Option (Work m)) → c.work ≡ w → IsOn m Heard Given c → AllRead (step.tick_by m c w).now (step.tick_by m c w).sends
  tick_read c None e h o epoch p i is = absurd i
  tick_read c (Some w) e h o epoch p i is = by (has_either (hand_again_asks m c.stand w.hand) (asks_latest m (waits_for (numbers c.layouts 0) c.next)) o i)
    where
      now : ReadsIt c epoch p → ReadsIt (step.tick_by m c (Some w)).now epoch p
      now (inl y) = inl (record { work = y.work; works = y.works; walk = y.walk; rest = y.rest; task = y.task; job = y.job; reads = y.reads; at = y.at })
      now (inr y) = inr (record { copy = y.copy; copies = y.copies; now = y.now; here = y.here })

      by : Has (hand_again_asks m c.stand w.hand) o ⊎ Has (asks_latest m (waits_for (numbers c.layouts 0) c.next)) o → ReadsIt (step.tick_by m c (Some w)).now epoch p
      by (inl j) = now (again_read c w w.hand e refl (subst (WorkOn m Heard Given c.stand) e h) o epoch p j is)
      by (inr j) = now (latest_silent c _ o epoch p j is)
