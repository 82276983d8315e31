-- What a client sends asks units to trim only what its hand holds.
use Rattle.std.proofs.Common.{◌≡◌, ◌⊎◌, ℕ, ◌≤◌, List, [], ◌∷◌, ◌++◌, refl, sym, ap, ◌∙◌, subst, inl, inr, Some, None, Option}
use Rattle.tg_base.specs.Layouts.{Layout}
use Rattle.tg_base.specs.declared.change.Join.{Join}
use Rattle.tg_base.specs.declared.ids.NodeId.{NodeId}
use Rattle.tg_base.specs.declared.ids.Oid.{Oid}
use Rattle.tg_base.specs.declared.msg.Msg.{Msg}
use Rattle.tg_base.specs.declared.msg.Msg.TheVariants as msg
use Rattle.tg_base.specs.declared.packet.Out.{Out}
use Rattle.tg_kind.specs.Meaning.{Meaning}
use Rattle.tg_model.specs.Kinds.{CommandOf}
use Rattle.tg_protocol.specs.Words.{unit_id, layout_id, numbers}
use Rattle.tg_protocol.specs.Requests.{out, Waits, waits_for, asked_of}
use Rattle.tg_protocol.specs.Replies.{reply}
use Rattle.tg_protocol.specs.Cells.{Place, CellWork, Puts, Gets, Fills, Copies, Probes, CellJob, work_asks, cell_asks}
use Rattle.tg_protocol.specs.Appending.{AppendWork, Asking, Putting, Judging, Append, append_work_asks}
use Rattle.tg_protocol.specs.Syncing.{SyncWork, Checking, Settling, Probing, Sync, sync_work_asks}
use Rattle.tg_protocol.specs.Walking.{job_asks}
use Rattle.tg_protocol.specs.Trimming.{CopyWork, Sealing, Reading, Storing, Trimming, Looking, Copying, copy_work_asks}
use Rattle.tg_protocol.specs.Reconfiguring.{Reconf, ReconfWork, SealingSpare, LookingSpare, LookingAgain, Agreeing, Telling, Starting, Stage, Preparing, Accepting, Later, join_asks, stage_asks, reconf_work_asks, reconf_asks, set_asks, later_asks}
use Rattle.tg_protocol.specs.Reconfiguring as reconf
use Rattle.tg_protocol.specs.Views.{Entries}
use Rattle.tg_protocol.specs.Clients.{Task, Syncing, Walking, Appending, Copying', Reconfiguring, Hand, Doing, Learning, Work, Client, refusal}
use Rattle.tg_protocol.specs.Clients as task
use Rattle.tg_protocol.specs.Answers.{Moved}
use Rattle.tg_protocol.specs.ClientSteps.{task_asks, task_awaited, hand_asks, client_asks, hand_again_asks, asks_latest, ClientTurn, given, client_command, client_deliver, client_tick}
use Rattle.tg_protocol.specs.ClientSteps as step
use Rattle.tg_law_layouts.proofs.Moves.Members.{Has, has_map, has_either, has_filter}
use Rattle.tg_law_layouts.proofs.Moves.Turns.{asked_awaited, task_again_reserved}
use Rattle.tg_law_replies.specs.Replies.Steps.{EachDelivery}
use Rattle.tg_law_headline.proofs.Trims.Machines.{CopyOk}
use Rattle.tg_law_headline.proofs.Trims.Hands.{TaskOk, HandOk, WorkOk, FloorOk, ClientOk, Fine, ClientHears, command_fine, deliver_fine}

-- the epoch and the position of a request to trim
unfoldable pub trim_named : Msg → Option (ℕ × ℕ)
trim_named (msg.Trim e b) = Some (e, b)
trim_named x = None

abbrev pub named_pair : ℕ → ℕ → Option (ℕ × ℕ)
named_pair e b = Some (e, b)

pub trim_is : (x : Msg) (e b : ℕ) → x ≡ msg.Trim e b → trim_named x ≡ named_pair e b
unfolding trim_named
trim_is x e b i = ap (λ (y : Msg). trim_named y) i

-- each asks to trim only such
abbrev pub TrimsOnly : (ℕ → ℕ → Type 0) → List Out → Type 0
TrimsOnly B outs = (o : Out) (e b : ℕ) → Has outs o → trim_named o.msg ≡ named_pair e b → B e b

module _ (B : ℕ → ℕ → Type 0) where
  none_trims : TrimsOnly B []
  none_trims o e b h is = absurd h

  no_pair : {X : Type 0} (e b : ℕ) → None ≡ named_pair e b → X
  no_pair e b i = absurd (cc)

  same_pair : (a c e b : ℕ) → named_pair a c ≡ named_pair e b → B a c → B e b
  same_pair a c e b i k = subst (λ (x : ℕ × ℕ). B x.0 x.1) (same (a, c) (e, b) i) k
    where
      same : (u v : ℕ × ℕ) → Some u ≡ Some v → u ≡ v
      same u v j = cc

  one_trims : (to : NodeId) (r : ℕ) (x : Msg) → ((e b : ℕ) → trim_named x ≡ named_pair e b → B e b) → TrimsOnly B (out to r x ∷ [])
  one_trims to r x f o e b (inl i) is = f e b (ap (λ (y : Out). trim_named y.msg) (sym i) ∙ is)
  one_trims to r x f o e b (inr h) is = absurd h

  asked_trims : (name : ℕ → NodeId) (x : Msg) (ws : Waits) → ((e b : ℕ) → trim_named x ≡ named_pair e b → B e b) → TrimsOnly B (asked_of name x ws)
  asked_trims name x ws f o e b h is = let i = has_map (λ (w : ℕ × ℕ). out (name w.0) w.1 x) ws o h in f e b (ap (λ (y : Out). trim_named y.msg) (sym i.is) ∙ is)

  quiet : (name : ℕ → NodeId) (x : Msg) (ws : Waits) → trim_named x ≡ None → TrimsOnly B (asked_of name x ws)
  quiet name x ws none = asked_trims name x ws (λ e b is. no_pair e b (sym none ∙ is))

  quiet_one : (to : NodeId) (r : ℕ) (x : Msg) → trim_named x ≡ None → TrimsOnly B (out to r x ∷ [])
  quiet_one to r x none = one_trims to r x (λ e b is. no_pair e b (sym none ∙ is))

  both_trim : (xs ys : List Out) → TrimsOnly B xs → TrimsOnly B ys → TrimsOnly B (xs ++ ys)
  both_trim xs ys f g o e b h is = by (has_either xs ys o h)
    where
      by : Has xs o ⊎ Has ys o → B e b
      by (inl i) = f o e b i is
      by (inr i) = g o e b i is

  work_trims : (a : Place) (w : CellWork) → TrimsOnly B (work_asks a w)
  unfolding work_asks trim_named
  work_trims a (Puts r d i) = quiet_one _ r _ refl
  work_trims a (Gets r) = quiet_one _ r _ refl
  work_trims a (Fills r) = quiet_one _ r _ refl
  work_trims a (Copies r c i) = quiet_one _ r _ refl
  work_trims a (Probes ws) = quiet unit_id _ ws refl

  pub job_trims : (j : CellJob) → TrimsOnly B (cell_asks j)
  job_trims j = work_trims j.place j.work

  maybe_trims : (j : Option CellJob) → TrimsOnly B (job_asks j)
  maybe_trims None = none_trims
  maybe_trims (Some j) = job_trims j

  append_trims : (p : Layout) (a : Append) (w : AppendWork) → TrimsOnly B (append_work_asks p a w)
  unfolding append_work_asks trim_named
  append_trims p a (Asking r) = quiet_one _ r _ refl
  append_trims p a (Putting j) = job_trims j
  append_trims p a (Judging j) = job_trims j

  sync_trims : (p : Layout) (s : Sync) (w : SyncWork) → TrimsOnly B (sync_work_asks p s w)
  unfolding sync_work_asks trim_named
  sync_trims p s (Checking r) = quiet_one _ r _ refl
  sync_trims p s (Settling a j) = job_trims j
  sync_trims p s (Probing a j) = job_trims j

  copy_trims : (p : Layout) (c : Copying) (w : CopyWork) → CopyOk B p.epoch w → TrimsOnly B (copy_work_asks p c w)
  unfolding copy_work_asks trim_named
  copy_trims p c (Sealing r) k = quiet_one _ r _ refl
  copy_trims p c (Reading j) k = job_trims j
  copy_trims p c (Storing r q x) k = quiet_one _ r _ refl
  copy_trims p c (Trimming r b) k = one_trims _ r _ (λ e d is. same_pair p.epoch b e d is k)
  copy_trims p c (Looking r) k = quiet_one _ r _ refl

  join_trims : (o : Option Join) (f : Join → List Out) → ((j : Join) → TrimsOnly B (f j)) → TrimsOnly B (join_asks o f)
  join_trims None f k = none_trims
  join_trims (Some j) f k = k j

  stage_trims : (r : Reconf) (n : ℕ) (s : Stage) → TrimsOnly B (stage_asks r n s)
  unfolding trim_named
  stage_trims r n (Preparing ws ps) = quiet layout_id _ ws refl
  stage_trims r n (Accepting ws k q) = quiet layout_id _ ws refl

  reconf_trims : (r : Reconf) (w : ReconfWork) → TrimsOnly B (reconf_work_asks r w)
  unfolding reconf_work_asks trim_named
  reconf_trims r (SealingSpare n) = join_trims r.change.join _ (λ j. quiet_one _ n _ refl)
  reconf_trims r (LookingSpare n) = join_trims r.change.join _ (λ j. quiet_one _ n _ refl)
  reconf_trims r (reconf.Sealing ws acks) = quiet unit_id _ ws refl
  reconf_trims r (LookingAgain n acks) = join_trims r.change.join _ (λ j. quiet_one _ n _ refl)
  reconf_trims r (Agreeing v) = stage_trims r v.round v.stage
  reconf_trims r (Telling ws n q) = quiet layout_id _ ws refl
  reconf_trims r (Starting n) = quiet_one _ n _ refl

  set_trims : (r : Reconf) (o : Option Later) → TrimsOnly B (set_asks r o)
  unfolding trim_named
  set_trims r None = none_trims
  set_trims r (Some l) = quiet layout_id _ l.waits refl

  later_trims : (r : Reconf) (w : ReconfWork) → TrimsOnly B (later_asks r w)
  later_trims r (Agreeing v) = set_trims r v.later
  later_trims r (SealingSpare n) = none_trims
  later_trims r (LookingSpare n) = none_trims
  later_trims r (reconf.Sealing ws acks) = none_trims
  later_trims r (LookingAgain n acks) = none_trims
  later_trims r (Telling ws n q) = none_trims
  later_trims r (Starting n) = none_trims

  module _ (m : Meaning) (grows : (e f b : ℕ) → e ≤ f → B e b → B f b) (objects : List Oid) (es : Entries) where
    abbrev Task' : Layout → Task m → Type 0
    Task' p t = TaskOk m B grows objects es p t

    abbrev Client' : Client m → Type 0
    Client' c = ClientOk m B grows objects es c

    task_trims : (p : Layout) (t : Task m) → Task' p t → TrimsOnly B (task_awaited m p t)
    unfolding task_asks trim_named
    task_trims p (Syncing s) k = sync_trims p s s.work
    task_trims p (Walking v os) k = maybe_trims v.job
    task_trims p (Appending a y) k = append_trims p a a.work
    task_trims p (task.Trimming t) k = asked_trims unit_id _ t.waits (λ e b is. same_pair p.epoch t.below e b is k)
    task_trims p (Copying' x) k = copy_trims p x x.work k
    task_trims p (Reconfiguring r) k = both_trim (reconf_asks r) _ (reconf_trims r r.work) (later_trims r r.work)

    latest_trims : (ws : Waits) → TrimsOnly B (asks_latest m ws)
    unfolding trim_named
    latest_trims ws = quiet layout_id msg.AskLatest ws refl

    hand_trims : (p : Layout) (h : Hand m) → HandOk m B grows objects es p h → TrimsOnly B (hand_asks m p h)
    hand_trims p (Doing t) k o e b h is = task_trims p t k o e b (asked_awaited m p t o h) is
    hand_trims p (Learning ws t) k o e b h is = latest_trims ws o e b h is

    again_trims : (p : Layout) (h : Hand m) → HandOk m B grows objects es p h → TrimsOnly B (hand_again_asks m p h)
    again_trims p (Doing t) k o e b h is = task_trims p t k o e b (task_again_reserved m p t o h) is
    again_trims p (Learning ws t) k o e b h is = latest_trims ws o e b h is

    held_trims : (p : Layout) (o : Option (Work m)) → WorkOk m B grows objects es p o → TrimsOnly B (step.work_asks m p o)
    held_trims p None k = none_trims
    held_trims p (Some w) k = hand_trims p w.hand k

    asks_trims : (c : Client m) → Client' c → TrimsOnly B (client_asks m c)
    unfolding client_asks
    asks_trims c k = held_trims c.stand c.work k

    -- A turn.
    pub record TurnOk (t : ClientTurn m) : Type 0 where
      pub ok : ClientOk m B grows objects es t.now
      pub trims : TrimsOnly B t.sends

    given_ok : (c : Client m) (x : Moved m) → Fine m B grows objects es x → TurnOk (given m c x)
    unfolding client_asks trim_named
    given_ok c x f = record {
      ok = f.ok;
      trims = both_trim x.besides _ (λ o e b h is. no_pair e b (ap (λ (y : Msg). trim_named y) (sym (f.besides o h)) ∙ is)) (λ o e b h is. asks_trims x.now f.ok o e b (has_filter _ (client_asks m x.now) o h) is);
    }

    pub command_ok : (c : Client m) (x : CommandOf m) → Client' c → TurnOk (client_command m c x)
    unfolding client_command
    command_ok c x k = given_ok c _ (command_fine m B grows objects es c x k)

    pub deliver_ok : (c : Client m) (from : NodeId) (rid : ℕ) (y : Msg) → Client' c → ClientHears m B grows objects es c from rid (reply y)
        → EachDelivery m objects es (FloorOk m B grows objects es) c c.work from rid (reply y) → TurnOk (client_deliver m c from rid y)
    unfolding client_deliver
    deliver_ok c from rid y k g f = given_ok c _ (deliver_fine m B grows objects es c from rid y k g f)

    tick_by_ok : (c : Client m) (w : Option (Work m)) → c.work ≡ w → Client' c → TurnOk (step.tick_by m c w)
    tick_by_ok c None e k = record { ok = k; trims = none_trims }
    tick_by_ok c (Some w) e k = record { ok = k; trims = both_trim (hand_again_asks m c.stand w.hand) _ (again_trims c.stand w.hand (subst (λ (o : Option (Work m)). WorkOk m B grows objects es c.stand o) e k)) (latest_trims (waits_for (numbers c.layouts 0) c.next)) }

    pub tick_ok : (c : Client m) → Client' c → TurnOk (client_tick m c)
    unfolding client_tick
    tick_ok c k = tick_by_ok c c.work refl k
