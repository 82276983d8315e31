-- Every layout that is told in a world is the first one or decided: the steps.
use Rattle.std.proofs.Common.{◌≡◌, ◌⊎◌, ℕ, List, false, refl, sym, subst, arith, Some, None, Option}
use Rattle.tg_base.specs.Layouts.{Layout}
use Rattle.tg_base.specs.declared.ids.NodeId.{NodeId}
use Rattle.tg_base.specs.declared.msg.Msg.{Msg}
use Rattle.tg_base.specs.declared.msg.Msg.TheVariants as msg
use Rattle.tg_base.specs.declared.packet.Packet.{Packet}
use Rattle.tg_kind.specs.Meaning.{Meaning}
use Rattle.tg_model.specs.Kinds.{CommandOf}
use Rattle.tg_protocol.specs.Words.{unit_id, layout_id, seqr_id, numbers}
use Rattle.tg_protocol.specs.Units.{UnitState, UnitAsk, unit_ask, on_ask, unit_step}
use Rattle.tg_protocol.specs.LayoutServers.{LayoutState, layout_ask, on_layout_ask, layout_step}
use Rattle.tg_protocol.specs.Requests.{waits_for}
use Rattle.tg_protocol.specs.Replies.{Reply, reply}
use Rattle.tg_protocol.specs.Replies as replied
use Rattle.tg_protocol.specs.Cells.{CellJob}
use Rattle.tg_protocol.specs.Appending.{Append, AppendWork, Asking, Putting, Judging, append_work_asks}
use Rattle.tg_protocol.specs.Syncing.{Sync, SyncWork, Checking, Settling, Probing, sync_work_asks}
use Rattle.tg_protocol.specs.Walking.{job_asks}
use Rattle.tg_protocol.specs.Trimming.{has_stripe, CopyWork, Sealing, Reading, Storing, Trimming, Looking, Copying, copy_work_asks}
use Rattle.tg_protocol.specs.Reconfiguring.{Reconf}
use Rattle.tg_protocol.specs.Sequencers.{SeqrState, seqr_step}
use Rattle.tg_protocol.specs.Clients.{Task, Syncing, Walking, Appending, Copying', Reconfiguring, Hand, Doing, Learning, Work, Client, new_client, refusal}
use Rattle.tg_protocol.specs.Clients as task
use Rattle.tg_protocol.specs.Answers.{Moved}
use Rattle.tg_protocol.specs.ClientSteps.{task_asks, task_awaited, hand_asks, hand_again_asks, task_again_asks, client_asks, asks_latest, task_in, ClientTurn, given, client_command, client_deliver, client_tick}
use Rattle.tg_protocol.specs.ClientSteps as step
use Rattle.tg_law_layouts.proofs.Moves.Members.{has_filter}
use Rattle.tg_law_layouts.proofs.Moves.Seqrs.{tells_layout, cell_said}
use Rattle.tg_law_layouts.proofs.Moves.Turns.{not_busy, asked_awaited, task_again_reserved}
use Rattle.tg_law_layouts.proofs.Layouts.Pax.{reconf_of, task_reconf}
use Rattle.tg_law_layouts.proofs.Layouts.Tellings.{Tells}
use Rattle.tg_law_layouts.proofs.Layouts.Known.{HandKnown, MovedKnown, ReconfKnown, Fits, feed_known, refused_known}
use Rattle.tg_law_layouts.proofs.Layouts.Standing.{Says, AllSay, none_say, one_says, asked_says, both_say, reconf_say, quiet_says}

-- Units and layout servers.

ask_silent : (s : UnitState) (a : UnitAsk) (x : Msg) → (on_ask s a).says ≡ Some x → tells_layout x ≡ false
unfolding on_ask tells_layout
ask_silent s a x h = grind arith

pub unit_silent : (s : UnitState) (y x : Msg) → (unit_step s y).says ≡ Some x → tells_layout x ≡ false
unfolding unit_step
unit_silent s y x h = ask_silent s (unit_ask y) x h

pub ask_latest : (s : LayoutState) (y : Msg) → ((layout_step s y).now.latest ≡ s.latest) ⊎ (y ≡ msg.Decided (layout_step s y).now.latest)
unfolding layout_step on_layout_ask layout_ask
ask_latest s y = grind arith

pub ask_tells : (s : LayoutState) (y x : Msg) → (layout_step s y).says ≡ Some x → (x ≡ msg.Latest (layout_step s y).now.latest) ⊎ (tells_layout x ≡ false)
unfolding layout_step on_layout_ask layout_ask tells_layout
ask_tells s y x h = grind arith

-- a sequencer's layout is what it was, or one that it was told
pub seqr_proj : (s : SeqrState) (from : NodeId) (rid : ℕ) (y : Msg) → ((seqr_step s from rid y).now.proj ≡ s.proj) ⊎ (y ≡ msg.Learn (seqr_step s from rid y).now.proj)
unfolding seqr_step
seqr_proj s from rid y = grind arith

-- Clients.

module _ (m : Meaning) (n : ℕ) (ps : List Packet) (K : Layout → Type 0) where
  cells_say : (j : CellJob) → AllSay K (Rattle.tg_protocol.specs.Cells.cell_asks j)
  cells_say j o h = quiet_says K o.msg (cell_said j.place j.work o h)

  job_says : (o : Option CellJob) → AllSay K (job_asks o)
  job_says None = none_say K
  job_says (Some j) = cells_say j

  append_says : (p : Layout) (a : Append) (w : AppendWork) → AllSay K (append_work_asks p a w)
  unfolding append_work_asks
  append_says p a (Asking r) = one_says K (seqr_id p.seq) r (msg.Token p.epoch _) tt
  append_says p a (Putting j) = cells_say j
  append_says p a (Judging j) = cells_say j

  sync_says : (p : Layout) (s : Sync) (w : SyncWork) → AllSay K (sync_work_asks p s w)
  unfolding sync_work_asks
  sync_says p s (Checking r) = one_says K (seqr_id p.seq) r (msg.Check p.epoch s.oids) tt
  sync_says p s (Settling a j) = cells_say j
  sync_says p s (Probing a j) = cells_say j

  copy_says : (p : Layout) (c : Copying) (w : CopyWork) → AllSay K (copy_work_asks p c w)
  unfolding copy_work_asks
  copy_says p c (Sealing r) = one_says K (unit_id c.unit) r (msg.Seal p.epoch) tt
  copy_says p c (Reading j) = cells_say j
  copy_says p c (Storing r pos x) = one_says K (unit_id c.unit) r (msg.Copy p.epoch pos x) tt
  copy_says p c (Trimming r b) = one_says K (unit_id c.unit) r (msg.Trim p.epoch b) tt
  copy_says p c (Looking r) = one_says K (unit_id c.unit) r (has_stripe p.epoch p c.range c.stripe) tt

  -- a reconfiguration stands where its client does
  abbrev pub StandsAt : Layout → Option Reconf → Type 0
  StandsAt p None = Unit {0}
  StandsAt p (Some r) = r.stand ≡ p

  task_says : (p : Layout) (t : Task m) → StandsAt p (task_reconf m t) → K p → ReconfKnown m n ps K (task_reconf m t) → AllSay K (task_awaited m p t)
  unfolding task_asks
  task_says p (Syncing s) at k h = sync_says p s s.work
  task_says p (Walking w os) at k h = job_says w.job
  task_says p (Appending a x) at k h = append_says p a a.work
  task_says p (task.Trimming t) at k h = asked_says K unit_id (msg.Trim p.epoch t.below) t.waits tt
  task_says p (Copying' c) at k h = copy_says p c c.work
  task_says p (Reconfiguring r) at k h = reconf_say K n ps r r.work (subst K (sym at) k) h

  hand_says : (p : Layout) (d : Hand m) → StandsAt p (task_reconf m (task_in m d)) → K p → ReconfKnown m n ps K (task_reconf m (task_in m d)) → AllSay K (hand_asks m p d)
  hand_says p (Doing t) at k h o g = task_says p t at k h o (asked_awaited m p t o g)
  hand_says p (Learning ws t) at k h o g = asked_says K layout_id msg.AskLatest ws tt o g

  again_says : (p : Layout) (d : Hand m) → StandsAt p (task_reconf m (task_in m d)) → K p → ReconfKnown m n ps K (task_reconf m (task_in m d)) → AllSay K (hand_again_asks m p d)
  again_says p (Doing t) at k h o g = task_says p t at k h o (task_again_reserved m p t o g)
  again_says p (Learning ws t) at k h o g = asked_says K layout_id msg.AskLatest ws tt o g

  work_says : (p : Layout) (w : Option (Work m)) → StandsAt p (reconf_of m w) → HandKnown m n ps K p w → AllSay K (step.work_asks m p w)
  work_says p None at k = none_say K
  work_says p (Some w) at k = hand_says p w.hand at k.stand k.hand

  asks_say : (c : Client m) → StandsAt c.stand (reconf_of m c.work) → HandKnown m n ps K c.stand c.work → AllSay K (client_asks m c)
  unfolding client_asks
  asks_say c at k = work_says c.stand c.work at k

  pub record TurnKnown (t : ClientTurn m) : Type 0 where
    pub hand : HandKnown m n ps K t.now.stand t.now.work
    pub says : AllSay K t.sends

  given_known : (c : Client m) (x : Moved m) → MovedKnown m n ps K x → StandsAt x.now.stand (reconf_of m x.now.work) → TurnKnown (given m c x)
  given_known c x k at = record {
    hand = k.hand;
    says = both_say K x.besides _ (λ o h. subst (λ (y : Msg). Says K y) (sym (k.besides o h)) k.hand.stand) (λ o h. asks_say x.now at k.hand o (has_filter _ (client_asks m x.now) o h));
  }

  pub command_known : (c : Client m) (x : CommandOf m) → HandKnown m n ps K c.stand c.work → StandsAt (client_command m c x).now.stand (reconf_of m (client_command m c x).now.work) → TurnKnown (client_command m c x)
  unfolding client_command
  command_known c x k at = given_known c _ (refused_known m n ps K c x (refusal m c x) (not_busy m c x) k) at

  pub deliver_known : (c : Client m) (x : Packet) → (x.from ≡ layout_id x.from.num → Tells n ps K x.from.num (reply x.msg)) → ((q : Layout) → reply x.msg ≡ replied.IsLatest q → K q)
      → HandKnown m n ps K c.stand c.work → Fits m n ps K c.stand (reconf_of m c.work) → StandsAt (client_deliver m c x.from x.rid x.msg).now.stand (reconf_of m (client_deliver m c x.from x.rid x.msg).now.work)
      → TurnKnown (client_deliver m c x.from x.rid x.msg)
  unfolding client_deliver
  deliver_known c x tells latest k f at = given_known c _ (feed_known m n ps K x tells latest c k f) at

  tick_by_known : (c : Client m) (w : Option (Work m)) → c.work ≡ w → HandKnown m n ps K c.stand c.work → StandsAt c.stand (reconf_of m c.work) → TurnKnown (step.tick_by m c w)
  tick_by_known c None e k at = record { hand = k; says = none_say K }
  tick_by_known c (Some w) e k at = record {
    hand = k;
    says = both_say K (hand_again_asks m c.stand w.hand) _
        (again_says c.stand w.hand (subst (λ (o : Option (Work m)). StandsAt c.stand (reconf_of m o)) e at) k.stand (subst (λ (o : Option (Work m)). ReconfKnown m n ps K (reconf_of m o)) e k.hand))
        (asked_says K layout_id msg.AskLatest (waits_for (numbers c.layouts 0) c.next) tt);
  }

  pub tick_known : (c : Client m) → HandKnown m n ps K c.stand c.work → StandsAt c.stand (reconf_of m c.work) → TurnKnown (client_tick m c)
  unfolding client_tick
  tick_known c k at = tick_by_known c c.work refl k at
