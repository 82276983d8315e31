-- A page is sent by the append in hand, and by nothing else.
use Rattle.std.proofs.Common.{◌≡◌, ℕ, List, [], ◌∷◌, refl, sym, ap, ◌∙◌, subst, inl, inr, Option, Some, None}
use Rattle.tg_base.specs.Layouts.{Layout}
use Rattle.tg_base.specs.declared.ids.NodeId.{NodeId}
use Rattle.tg_base.specs.declared.msg.Msg.{Msg}
use Rattle.tg_base.specs.declared.msg.Msg.TheVariants as msg
use Rattle.tg_base.specs.declared.packet.Out.{Out}
use Rattle.tg_base.specs.declared.packet.Packet.{Packet}
use Rattle.tg_kind.specs.Meaning.{Meaning}
use Rattle.tg_protocol.specs.Words.{unit_id, layout_id}
use Rattle.tg_protocol.specs.Requests.{out, Waits, asked_of}
use Rattle.tg_protocol.specs.Cells.{Place, CellWork, Puts, Gets, Fills, Copies, Probes, CellJob, work_asks, cell_asks}
use Rattle.tg_protocol.specs.Appending.{AppendWork, Asking, Putting, Judging, Append, append_work_asks}
use Rattle.tg_protocol.specs.Syncing.{SyncWork, Checking, Settling, Probing, Sync, sync_work_asks}
use Rattle.tg_protocol.specs.Walking.{job_asks}
use Rattle.tg_protocol.specs.Trimming.{CopyWork, Sealing, Reading, Storing, Trimming, Looking, Copying, copy_work_asks}
use Rattle.tg_protocol.specs.Clients.{Task, Syncing, Walking, Appending, Copying', Reconfiguring, Doing, Work, Client}
use Rattle.tg_protocol.specs.Clients as task
use Rattle.tg_protocol.specs.ClientSteps.{task_asks, task_awaited, asks_latest}
use Rattle.tg_law_layouts.proofs.Moves.Members.{Has, has_map}
use Rattle.tg_law_cells.proofs.Tokens.Owning.{Nothing, WorkOk}
use Rattle.tg_law_cells.proofs.Tokens.Jobs.{JobOk, MaybeOk, AppendOk, SyncOk, CopyOk}
use Rattle.tg_law_cells.proofs.Tokens.Hands.{TaskOk}
use Rattle.tg_law_cells.proofs.Tokens.Sent.{Justified, reconf_just}

-- a cell's machine that puts a page
pub record JobPuts (j : CellJob) (e pos : ℕ) (d : List ℕ) : Type 0 where
  pub rid : ℕ
  pub index : ℕ
  pub puts : j.work ≡ Puts rid d index
  pub epoch : e ≡ j.place.epoch
  pub at : pos ≡ j.place.pos

module _ (e pos : ℕ) (d : List ℕ) where
  -- a request that is no page
  module _ {X : Type 0} where
    one_none : (to : NodeId) (r : ℕ) (x : Msg) (o : Out) → (x ≡ msg.Write e pos d → X) → Has (out to r x ∷ []) o → o.msg ≡ msg.Write e pos d → X
    one_none to r x o f (inl i) is = f (sym (ap (λ (y : Out). y.msg) i) ∙ is)
    one_none to r x o f (inr h) is = absurd h

    asked_none : (name : ℕ → NodeId) (x : Msg) (ws : Waits) (o : Out) → (x ≡ msg.Write e pos d → X) → Has (asked_of name x ws) o → o.msg ≡ msg.Write e pos d → X
    asked_none name x ws o f h is = let i = has_map (λ (w : ℕ × ℕ). out (name w.0) w.1 x) ws o h in f (sym (ap (λ (y : Out). y.msg) i.is) ∙ is)

  module _ (ps : List Packet) where
    no_page : (p : Layout) (j : CellJob) (o : Out) → JobOk ps Nothing p j → Has (cell_asks j) o → o.msg ≡ msg.Write e pos d → ⊥
    unfolding work_asks
    no_page p j o k h is = by j.place j.work k.work h
      where
        by : (a : Place) (w : CellWork) → WorkOk ps Nothing a w → Has (work_asks a w) o → ⊥
        by a (Puts r x i) k h = k
        by a (Gets r) k h = one_none _ r _ o (λ f. cc) h is
        by a (Fills r) k h = one_none _ r _ o (λ f. cc) h is
        by a (Copies r c i) k h = one_none _ r _ o (λ f. cc) h is
        by a (Probes ws) k h = asked_none unit_id _ ws o (λ f. cc) h is

    maybe_none : (p : Layout) (j : Option CellJob) (o : Out) → MaybeOk ps (unit_id 0) p j → Has (job_asks j) o → o.msg ≡ msg.Write e pos d → ⊥
    maybe_none p None o k h is = h
    maybe_none p (Some j) o k h is = no_page p j o k h is

  same_page : (f q : ℕ) (x : List ℕ) → msg.Write f q x ≡ msg.Write e pos d → (e ≡ f) × (pos ≡ q) × (d ≡ x)
  same_page f q x i = (cc, cc, cc)

  job_puts : (j : CellJob) (o : Out) → Has (cell_asks j) o → o.msg ≡ msg.Write e pos d → JobPuts j e pos d
  unfolding work_asks
  job_puts j o h is = by j.work refl h
    where
      by : (w : CellWork) → j.work ≡ w → Has (work_asks j.place w) o → JobPuts j e pos d
      by (Puts r x i) at h = one_none _ r _ o (λ f. let s = same_page j.place.epoch j.place.pos x f in record { rid = r; index = i; puts = at ∙ ap (λ (y : List ℕ). Puts r y i) (sym s.2); epoch = s.0; at = s.1 }) h is
      by (Gets r) at h = one_none _ r _ o (λ f. absurd cc) h is
      by (Fills r) at h = one_none _ r _ o (λ f. absurd cc) h is
      by (Copies r c i) at h = one_none _ r _ o (λ f. absurd cc) h is
      by (Probes ws) at h = asked_none unit_id _ ws o (λ f. absurd cc) h is

module _ (m : Meaning) where
  -- a client's append puts a page
  pub record HandPuts (c : Client m) (e pos : ℕ) (d : List ℕ) : Type 0 where
    pub work : Work m
    pub has : c.work ≡ Some work
    pub append : Append
    pub purpose : task.Purpose m
    pub doing : work.hand ≡ Doing (Appending append purpose)
    pub job : CellJob
    pub putting : append.work ≡ Putting job
    pub puts : JobPuts job e pos d

  module _ (ps : List Packet) (me : NodeId) (p : Layout) (e pos : ℕ) (d : List ℕ) (o : Out) (is : o.msg ≡ msg.Write e pos d) where
    copy_none : (c : Copying) (w : CopyWork) → CopyOk ps me p w → Has (copy_work_asks p c w) o → ⊥
    unfolding copy_work_asks
    copy_none c (Sealing r) k h = one_none e pos d _ r _ o (λ f. cc) h is
    copy_none c (Reading j) k h = no_page e pos d ps p j o k h is
    copy_none c (Storing r q x) k h = one_none e pos d _ r _ o (λ f. cc) h is
    copy_none c (Trimming r b) k h = one_none e pos d _ r _ o (λ f. cc) h is
    copy_none c (Looking r) k h = one_none e pos d _ r _ o (λ f. cc) h is

    sync_none : (s : Sync) (w : SyncWork) → SyncOk ps me p w → Has (sync_work_asks p s w) o → ⊥
    unfolding sync_work_asks
    sync_none s (Checking r) k h = one_none e pos d _ r _ o (λ f. cc) h is
    sync_none s (Settling a j) k h = no_page e pos d ps p j o k h is
    sync_none s (Probing a j) k h = no_page e pos d ps p j o k h is

    -- the machine that puts it
    record AppendPuts (a : Append) : Type 0 where
      job : CellJob
      putting : a.work ≡ Putting job
      puts : JobPuts job e pos d

    append_puts : (a : Append) (w : AppendWork) → a.work ≡ w → AppendOk ps me p w → Has (append_work_asks p a w) o → AppendPuts a
    unfolding append_work_asks
    append_puts a (Asking r) at k h = one_none e pos d _ r _ o (λ f. absurd cc) h is
    append_puts a (Putting j) at k h = record { job = j; putting = at; puts = job_puts e pos d j o h is }
    append_puts a (Judging j) at k h = absurd (no_page e pos d ps p j o k h is)

    pub task_puts : (c : Client m) (w : Work m) → c.work ≡ Some w → (t : Task m) → w.hand ≡ Doing t → TaskOk m ps me p t → Has (task_awaited m p t) o → HandPuts c e pos d
    unfolding task_asks
    task_puts c w has (Appending a y) at k h = let x = append_puts a a.work refl k h in record { work = w; has = has; append = a; purpose = y; doing = at; job = x.job; putting = x.putting; puts = x.puts }
    task_puts c w has (Syncing s) at k h = absurd (sync_none s s.work k h)
    task_puts c w has (Walking v os) at k h = absurd (maybe_none e pos d ps p v.job o k h is)
    task_puts c w has (task.Trimming t) at k h = asked_none e pos d unit_id _ t.waits o (λ f. absurd cc) h is
    task_puts c w has (Copying' x) at k h = absurd (copy_none x x.work k h)
    task_puts c w has (Reconfiguring r) at k h = let j = subst (λ (y : Msg). Justified [] me o.to y) is (reconf_just [] me r r.work o h) in absurd (j.pair.asked)

    pub learn_none : {X : Type 0} (ws : Waits) → Has (asks_latest m ws) o → X
    learn_none ws h = asked_none e pos d layout_id msg.AskLatest ws o (λ f. absurd cc) h is
