-- What machines that are so bounded send.
use Rattle.std.proofs.Common.{◌≡◌, ◌⊎◌, ℕ, List, [], ◌∷◌, ◌++◌, refl, sym, ap, ◌∙◌, subst, inl, inr, Some, None, Option}
use Rattle.tg_base.specs.Layouts.{Layout}
use Rattle.tg_base.specs.declared.change.Join.{Join}
use Rattle.tg_base.specs.declared.ids.NodeId.{NodeId}
use Rattle.tg_base.specs.declared.msg.Msg.{Msg}
use Rattle.tg_base.specs.declared.msg.Msg.TheVariants as msg
use Rattle.tg_base.specs.declared.packet.Out.{Out}
use Rattle.tg_kind.specs.Meaning.{Meaning}
use Rattle.tg_model.specs.Kinds.{CommandOf}
use Rattle.tg_protocol.specs.Words.{unit_id, layout_id, numbers}
use Rattle.tg_protocol.specs.Requests.{out, Waits, waits_for, asked_of}
use Rattle.tg_protocol.specs.Replies.{reply}
use Rattle.tg_protocol.specs.Cells.{Place, CellWork, Puts, Gets, Fills, Copies, Probes, CellJob, work_asks, cell_asks}
use Rattle.tg_protocol.specs.Appending.{AppendWork, Asking, Putting, Judging, Append, append_work_asks}
use Rattle.tg_protocol.specs.Syncing.{SyncWork, Checking, Settling, Probing, Sync, sync_work_asks}
use Rattle.tg_protocol.specs.Walking.{job_asks}
use Rattle.tg_protocol.specs.Trimming.{CopyWork, Sealing, Reading, Storing, Trimming, Looking, Copying, copy_work_asks}
use Rattle.tg_protocol.specs.Reconfiguring.{Reconf, ReconfWork, SealingSpare, LookingSpare, LookingAgain, Agreeing, Telling, Starting, Stage, Preparing, Accepting, Later, join_asks, stage_asks, reconf_work_asks, reconf_asks, set_asks, later_asks, reconf_awaited}
use Rattle.tg_protocol.specs.Reconfiguring as reconf
use Rattle.tg_protocol.specs.Clients.{Task, Syncing, Walking, Appending, Copying', Reconfiguring, Hand, Doing, Learning, Work, Client, refusal}
use Rattle.tg_protocol.specs.Clients as task
use Rattle.tg_protocol.specs.Answers.{Moved}
use Rattle.tg_protocol.specs.ClientSteps.{task_asks, task_awaited, hand_asks, client_asks, hand_again_asks, asks_latest, ClientTurn, given, client_command, client_deliver, client_tick}
use Rattle.tg_protocol.specs.ClientSteps as step
use Rattle.tg_law_layouts.proofs.Moves.Members.{Has, has_map, has_either, has_filter}
use Rattle.tg_law_layouts.proofs.Moves.Turns.{asked_awaited, task_again_reserved}
use Rattle.tg_law_headline.specs.Issues.Issues.{position_named}
use Rattle.tg_law_headline.proofs.Issues.Bounds.{OnlyProbes, Fits, JobFits}
use Rattle.tg_law_headline.proofs.Issues.Machines.{SyncOk, AppendOk, CopyOk}
use Rattle.tg_law_headline.proofs.Issues.Hands.{TaskOk, HandOk, WorkOk, ClientOk, Fine, ClientHears, command_fine, deliver_fine}

abbrev pub named_pair : ℕ → ℕ → Option (ℕ × ℕ)
named_pair e p = Some (e, p)

-- each names no position but such
abbrev pub NameOnly : (ℕ → ℕ → Type 0) → List Out → Type 0
NameOnly B outs = (o : Out) (e p : ℕ) → Has outs o → position_named o.msg ≡ named_pair e p → B e p

module _ (B : ℕ → ℕ → Type 0) (L : ℕ → ℕ → Type 0) where
  none_name : NameOnly B []
  none_name o e p h is = absurd h

  no_pair : {X : Type 0} (e p : ℕ) → None ≡ named_pair e p → X
  no_pair e p i = absurd (cc)

  same_pair : (a b e p : ℕ) → named_pair a b ≡ named_pair e p → B a b → B e p
  same_pair a b e p i k = subst (λ (x : ℕ × ℕ). B x.0 x.1) (same (a, b) (e, p) i) k
    where
      same : (u v : ℕ × ℕ) → Some u ≡ Some v → u ≡ v
      same u v j = cc

  one_names : (to : NodeId) (r : ℕ) (x : Msg) → ((e p : ℕ) → position_named x ≡ named_pair e p → B e p) → NameOnly B (out to r x ∷ [])
  one_names to r x f o e p (inl i) is = f e p (ap (λ (y : Out). position_named y.msg) (sym i) ∙ is)
  one_names to r x f o e p (inr h) is = absurd h

  asked_name : (name : ℕ → NodeId) (x : Msg) (ws : Waits) → position_named x ≡ None → NameOnly B (asked_of name x ws)
  asked_name name x ws none o e p h is = let i = has_map (λ (w : ℕ × ℕ). out (name w.0) w.1 x) ws o h in no_pair e p (sym none ∙ (ap (λ (y : Out). position_named y.msg) (sym i.is) ∙ is))

  quiet_one : (to : NodeId) (r : ℕ) (x : Msg) → position_named x ≡ None → NameOnly B (out to r x ∷ [])
  quiet_one to r x none = one_names to r x (λ e p is. no_pair e p (sym none ∙ is))

  both_name : (xs ys : List Out) → NameOnly B xs → NameOnly B ys → NameOnly B (xs ++ ys)
  both_name xs ys f g o e p h is = by (has_either xs ys o h)
    where
      by : Has xs o ⊎ Has ys o → B e p
      by (inl i) = f o e p i is
      by (inr i) = g o e p i is

  work_names : (a : Place) (w : CellWork) → Fits B L a → NameOnly B (work_asks a w)
  unfolding work_asks position_named
  work_names a (Puts r d i) k = one_names _ r _ (λ e p is. same_pair a.epoch a.pos e p is k)
  work_names a (Gets r) k = one_names _ r _ (λ e p is. same_pair a.epoch a.pos e p is k)
  work_names a (Fills r) k = one_names _ r _ (λ e p is. same_pair a.epoch a.pos e p is k)
  work_names a (Copies r c i) k = one_names _ r _ (λ e p is. same_pair a.epoch a.pos e p is k)
  work_names a (Probes ws) k = asked_name unit_id _ ws refl

  probe_names : (a : Place) (w : CellWork) → OnlyProbes w → NameOnly B (work_asks a w)
  unfolding work_asks position_named
  probe_names a (Probes ws) k = asked_name unit_id _ ws refl
  probe_names a (Puts r d i) k = absurd k
  probe_names a (Gets r) k = absurd k
  probe_names a (Fills r) k = absurd k
  probe_names a (Copies r c i) k = absurd k

  pub job_names : (j : CellJob) → Fits B L j.place → NameOnly B (cell_asks j)
  job_names j k = work_names j.place j.work k

  maybe_names : (t : ℕ) (j : Option CellJob) → JobFits B L t j → NameOnly B (job_asks j)
  maybe_names t None k = none_name
  maybe_names t (Some j) k = job_names j k.0

  append_names : (p : Layout) (a : Append) (w : AppendWork) → AppendOk B L w → NameOnly B (append_work_asks p a w)
  unfolding append_work_asks position_named
  append_names p a (Asking r) k = quiet_one _ r _ refl
  append_names p a (Putting j) k = job_names j k
  append_names p a (Judging j) k = job_names j k

  sync_names : (p : Layout) (s : Sync) (w : SyncWork) → SyncOk B L p.epoch w → NameOnly B (sync_work_asks p s w)
  unfolding sync_work_asks position_named
  sync_names p s (Checking r) k = quiet_one _ r _ refl
  sync_names p s (Settling a j) k = job_names j k.1
  sync_names p s (Probing a j) k = probe_names j.place j.work k.2

  copy_names : (p : Layout) (c : Copying) (w : CopyWork) → CopyOk B L p.epoch w → NameOnly B (copy_work_asks p c w)
  unfolding copy_work_asks position_named
  copy_names p c (Sealing r) k = quiet_one _ r _ refl
  copy_names p c (Reading j) k = job_names j k.0
  copy_names p c (Storing r q x) k = one_names _ r _ (λ e pos is. same_pair p.epoch q e pos is k)
  copy_names p c (Trimming r b) k = quiet_one _ r _ refl
  copy_names p c (Looking r) k = quiet_one _ r _ refl

  join_names : (o : Option Join) (f : Join → List Out) → ((j : Join) → NameOnly B (f j)) → NameOnly B (join_asks o f)
  join_names None f k = none_name
  join_names (Some j) f k = k j

  stage_names : (r : Reconf) (n : ℕ) (s : Stage) → NameOnly B (stage_asks r n s)
  unfolding position_named
  stage_names r n (Preparing ws ps) = asked_name layout_id _ ws refl
  stage_names r n (Accepting ws k q) = asked_name layout_id _ ws refl

  reconf_names : (r : Reconf) (w : ReconfWork) → NameOnly B (reconf_work_asks r w)
  unfolding reconf_work_asks position_named
  reconf_names r (SealingSpare n) = join_names r.change.join _ (λ j. quiet_one _ n _ refl)
  reconf_names r (LookingSpare n) = join_names r.change.join _ (λ j. quiet_one _ n _ refl)
  reconf_names r (reconf.Sealing ws acks) = asked_name unit_id _ ws refl
  reconf_names r (LookingAgain n acks) = join_names r.change.join _ (λ j. quiet_one _ n _ refl)
  reconf_names r (Agreeing v) = stage_names r v.round v.stage
  reconf_names r (Telling ws n q) = asked_name layout_id _ ws refl
  reconf_names r (Starting n) = quiet_one _ n _ refl

  set_names : (r : Reconf) (o : Option Later) → NameOnly B (set_asks r o)
  unfolding position_named
  set_names r None = none_name
  set_names r (Some l) = asked_name layout_id _ l.waits refl

  later_names : (r : Reconf) (w : ReconfWork) → NameOnly B (later_asks r w)
  later_names r (Agreeing v) = set_names r v.later
  later_names r (SealingSpare n) = none_name
  later_names r (LookingSpare n) = none_name
  later_names r (reconf.Sealing ws acks) = none_name
  later_names r (LookingAgain n acks) = none_name
  later_names r (Telling ws n q) = none_name
  later_names r (Starting n) = none_name

  module _ (m : Meaning) where
    task_names : (p : Layout) (w : Work m) (t : Task m) → TaskOk m B L p w t → NameOnly B (task_awaited m p t)
    unfolding task_asks position_named
    task_names p w (Syncing s) k = sync_names p s s.work k
    task_names p w (Walking v os) k = maybe_names w.tail v.job k.1.job
    task_names p w (Appending a y) k = append_names p a a.work k
    task_names p w (task.Trimming t) k = asked_name unit_id _ t.waits refl
    task_names p w (Copying' x) k = copy_names p x x.work k
    task_names p w (Reconfiguring r) k = both_name (reconf_asks r) _ (reconf_names r r.work) (later_names r r.work)

    latest_names : (ws : Waits) → NameOnly B (asks_latest m ws)
    unfolding position_named
    latest_names ws = asked_name layout_id msg.AskLatest ws refl

    hand_names : (p : Layout) (w : Work m) (h : Hand m) → HandOk m B L p w h → NameOnly B (hand_asks m p h)
    hand_names p w (Doing t) k o e q h is = task_names p w t k o e q (asked_awaited m p t o h) is
    hand_names p w (Learning ws t) k o e q h is = latest_names ws o e q h is

    again_names : (p : Layout) (w : Work m) (h : Hand m) → HandOk m B L p w h → NameOnly B (hand_again_asks m p h)
    again_names p w (Doing t) k o e q h is = task_names p w t k o e q (task_again_reserved m p t o h) is
    again_names p w (Learning ws t) k o e q h is = latest_names ws o e q h is

    held_names : (p : Layout) (o : Option (Work m)) → WorkOk m B L p o → NameOnly B (step.work_asks m p o)
    held_names p None k = none_name
    held_names p (Some w) k = hand_names p w w.hand k

    asks_names : (c : Client m) → ClientOk m B L c → NameOnly B (client_asks m c)
    unfolding client_asks
    asks_names c k = held_names c.stand c.work k

    -- A turn.
    pub record TurnOk (t : ClientTurn m) : Type 0 where
      pub ok : ClientOk m B L t.now
      pub names : NameOnly B t.sends

    given_ok : (c : Client m) (x : Moved m) → Fine m B L x → TurnOk (given m c x)
    unfolding client_asks position_named
    given_ok c x f = record {
      ok = f.ok;
      names = both_name x.besides _ (λ o e p h is. no_pair e p (ap (λ (y : Msg). position_named y) (sym (f.besides o h)) ∙ is)) (λ o e p h is. asks_names x.now f.ok o e p (has_filter _ (client_asks m x.now) o h) is);
    }

    pub command_ok : (c : Client m) (x : CommandOf m) → ClientOk m B L c → TurnOk (client_command m c x)
    unfolding client_command
    command_ok c x k = given_ok c _ (command_fine m B L c x k)

    pub deliver_ok : (c : Client m) (from : NodeId) (rid : ℕ) (y : Msg) → ClientOk m B L c → ClientHears m B L c from rid (reply y) → TurnOk (client_deliver m c from rid y)
    unfolding client_deliver
    deliver_ok c from rid y k g = given_ok c _ (deliver_fine m B L c from rid y k g)

    tick_by_ok : (c : Client m) (w : Option (Work m)) → c.work ≡ w → ClientOk m B L c → TurnOk (step.tick_by m c w)
    tick_by_ok c None e k = record { ok = k; names = none_name }
    tick_by_ok c (Some w) e k = record { ok = k; names = both_name (hand_again_asks m c.stand w.hand) _ (again_names c.stand w w.hand (subst (λ (o : Option (Work m)). WorkOk m B L c.stand o) e k)) (latest_names (waits_for (numbers c.layouts 0) c.next)) }

    pub tick_ok : (c : Client m) → ClientOk m B L c → TurnOk (client_tick m c)
    unfolding client_tick
    tick_ok c k = tick_by_ok c c.work refl k
