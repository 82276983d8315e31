-- What is kept of a reconfiguration that is ready through each step of its settling: what was noted of its command, its change while
-- it is in hand, and the layout that was decided.
use Rattle.std.proofs.Common.{◌≡◌, ◌⊎◌, ℕ, ◌+◌, ◌<◌, ◌≤◌, List, [], ◌∷◌, Bool, true, false, refl, ap, ◌∙◌, sym, subst, inl, inr, arith, Some, None, Option}
use Rattle.std.specs.Prelude.{slice_get, ⊤}
use Rattle.tg_base.specs.Layouts.{Layout}
use Rattle.tg_base.specs.Changes.{Changed}
use Rattle.tg_base.specs.Clusters.{Header}
use Rattle.tg_base.specs.declared.ids.NodeId.{NodeId}
use Rattle.tg_base.specs.declared.ids.Role.{Role}
use Rattle.tg_base.specs.declared.ids.Role.TheVariants as role
use Rattle.tg_base.specs.declared.msg.Msg.{Msg}
use Rattle.tg_base.specs.declared.packet.Packet.{Packet}
use Rattle.tg_kind.specs.Meaning.{Meaning}
use Rattle.tg_model.specs.Kinds.{EventOf, WhatOf}
use Rattle.tg_model.specs.declared.command.Event.TheVariants.{Deliver, Tick}
use Rattle.tg_protocol.specs.Requests.{Next, Goes, Learns, Ends}
use Rattle.tg_protocol.specs.Replies.{Reply, reply}
use Rattle.tg_protocol.specs.Reconfiguring.{Reconf, ReconfEnd, Installed, Overtaken, NotWhole, ReconfTurn, reconf_feed, reconf_latest}
use Rattle.tg_protocol.specs.Clients.{Task, Syncing, Walking, Appending, Trimming, Copying', Reconfiguring, Hand, Work, Client}
use Rattle.tg_protocol.specs.Answers.{Moved}
use Rattle.tg_protocol.specs.ClientSteps.{task_in, reconf_to, on_reconf, after_turn, client_deliver, client_tick}
use Rattle.tg_protocol.specs.ClientSteps as step
use Rattle.tg_protocol.specs.Worlds.{World, CommandStart, start, client, runs, happens, moves, comes, handed, delivers, ticks, ticks_if, unit_moves, layout_moves, seqr_moves, client_turned}
use Rattle.tg_protocol.specs.Runs.{Move, Takes, LawfulMove, LawfulEvent, Later, run, most_steps}
use Rattle.tg_protocol.specs.Chosen.{IsDecided}
use Rattle.tg_law_layouts.proofs.Layouts.Deciding.{decided_stays}
use Rattle.tg_law_layouts.proofs.Layouts.Plain.{WorkCalm, TaskCalm, Fed, Heard, delivered_plain}
use Rattle.tg_law_layouts.proofs.Moves.Members.{Has, has_contained}
use Rattle.tg_law_steps.proofs.Machines.Reconfs as turns
use Rattle.tg_law_finish.proofs.Finish.Nets.{happens_counts}
use Rattle.tg_law_finish.proofs.Finish.Reached.{Reached, below_limit, goes, declared, tick_counts}
use Rattle.tg_law_finish.proofs.Finish.Settles.{Facts}
use Rattle.tg_law_finish.proofs.Finish.Standing.{cluster_is}
use Rattle.tg_law_reconfs.proofs.Ends.{R, Rules, one_delivery, one_tick}

-- The change of a reconfiguration in hand.
module _ (m : Meaning) (c : Changed) where
  abbrev NextIs : Next Reconf ReconfEnd → Type 0
  NextIs (Goes r) = r.change ≡ c
  NextIs (Learns r) = r.change ≡ c
  NextIs (Ends e) = ⊤

  fed_change : (u rid : ℕ) (x : Reply) (next : ℕ) (r : Reconf) (t : ReconfTurn) → turns.Fed u rid x next r t → r.change ≡ c → NextIs t.to
  fed_change u rid x next _ _ (turns.SpareMisses r i pos is) h = tt
  fed_change u rid x next _ _ (turns.AgainMisses r i acks pos is) h = tt
  fed_change u rid x next _ _ (turns.Starts r i t ls is f) h = tt
  fed_change u rid x next _ _ y h = h

  heard_change : (u rid : ℕ) (q : Layout) (next : ℕ) (r : Reconf) (t : ReconfTurn) → turns.Heard u rid q next r t → r.change ≡ c → NextIs t.to
  heard_change u rid q next _ _ (turns.StartedBefore r i) h = tt
  heard_change u rid q next _ _ (turns.TellsOther r ws i p e f g) h = tt
  heard_change u rid q next _ _ (turns.IsOvertaken r w of e) h = tt
  heard_change u rid q next _ _ y h = h

  abbrev TaskIs : Task m → Type 0
  TaskIs (Reconfiguring r) = r.change ≡ c
  TaskIs t = ⊤

  abbrev pub WorkIs : Option (Work m) → Type 0
  WorkIs None = ⊤
  WorkIs (Some w) = TaskIs (task_in m w.hand)

  abbrev Good : Moved m → Type 0
  Good x = WorkIs x.now.work

  calm_is : (o : Option (Work m)) → WorkCalm m o → WorkIs o
  calm_is None k = tt
  calm_is (Some w) k = by (task_in m w.hand) k
    where
      by : (t : Task m) → TaskCalm m t → TaskIs t
      by (Reconfiguring r) k = absurd k
      by (Syncing s) k = tt
      by (Walking y os) k = tt
      by (Appending a y) k = tt
      by (Trimming t) k = tt
      by (Copying' y) k = tt

  turn_is : (d : Client m) (w : Work m) (t : ReconfTurn) → NextIs t.to → Good (on_reconf m d w t)
  turn_is d w t k = by t.to k
    where
      by : (to : Next Reconf ReconfEnd) → NextIs to → Good (reconf_to m (after_turn m d t) w to)
      by (Goes s) k = k
      by (Learns s) k = k
      by (Ends (Installed e p)) k = tt
      by (Ends (Overtaken e p)) k = tt
      by (Ends (NotWhole v i p)) k = tt

  task_fed : (d : Client m) (w : Work m) (t : Task m) (n rid : ℕ) (x : Reply) → TaskIs t → Fed m Good d w t n rid x
  task_fed d w (Reconfiguring r) n rid x h = turn_is d w (reconf_feed r r.work n rid x d.next) (fed_change n rid x d.next r _ (turns.reconf_fed n rid x d.next r) h)
  task_fed d w (Syncing s) n rid x h = λ y p. calm_is y.now.work p.calm
  task_fed d w (Walking z os) n rid x h = λ y p. calm_is y.now.work p.calm
  task_fed d w (Appending z e) n rid x h = λ y p. calm_is y.now.work p.calm
  task_fed d w (Trimming t) n rid x h = λ y p. calm_is y.now.work p.calm
  task_fed d w (Copying' z) n rid x h = λ y p. calm_is y.now.work p.calm

  task_heard : (d : Client m) (w : Work m) (t : Task m) (n rid : ℕ) (q : Layout) → TaskIs t → Heard m Good d w t n rid q
  task_heard d w (Reconfiguring r) n rid q h = turn_is d w (reconf_latest r r.work n rid q d.next) (heard_change n rid q d.next r _ (turns.reconf_heard n rid q d.next r) h)
  task_heard d w (Syncing s) n rid q h = λ y p. calm_is y.now.work p.calm
  task_heard d w (Walking z os) n rid q h = λ y p. calm_is y.now.work p.calm
  task_heard d w (Appending z e) n rid q h = λ y p. calm_is y.now.work p.calm
  task_heard d w (Trimming t) n rid q h = λ y p. calm_is y.now.work p.calm
  task_heard d w (Copying' z) n rid q h = λ y p. calm_is y.now.work p.calm

  hears_is : (d : Client m) (from : NodeId) (rid : ℕ) (y : Msg) → WorkIs d.work → WorkIs (client_deliver m d from rid y).now.work
  unfolding client_deliver
  hears_is d from rid y k = delivered_plain m Good d from rid (reply y) k
      (λ w t has doing a. task_fed d w t from.num rid (reply y) (subst TaskIs (ap (λ (g : Hand m). task_in m g) doing) (subst WorkIs has k)))
      (λ w q has is a. task_heard d w (task_in m w.hand) from.num rid q (subst WorkIs has k))

  tick_by_is : (d : Client m) (o : Option (Work m)) → WorkIs d.work → WorkIs (step.tick_by m d o).now.work
  tick_by_is d None k = k
  tick_by_is d (Some w) k = k

  ticks_is : (d : Client m) → WorkIs d.work → WorkIs (client_tick m d).now.work
  unfolding client_tick
  ticks_is d k = tick_by_is d d.work k

  abbrev Never : WhatOf m → Type 0
  Never what = ⊥

  abbrev InHand : Client m → Type 0
  InHand d = WorkIs d.work

  pub change_rules : (k : ℕ) → Rules m k InHand Never
  change_rules k = record { hears = λ d from rid y h. inl (hears_is d from rid y h); ticks = λ d h. ticks_is d h }

-- Steps of a settling note nothing.
module _ (m : Meaning) where
  moved_notes : (w : World m) (p : Packet) (r : Role) → (moves m w p r).noted ≡ w.noted
  unfolding unit_moves layout_moves seqr_moves client_turned
  moved_notes w p role.Unit = refl
  moved_notes w p role.Layout = refl
  moved_notes w p role.Seqr = refl
  moved_notes w p role.Client = refl

  comes_notes : (b : Bool) (w : World m) (p : Packet) → (comes m b w p).noted ≡ w.noted
  comes_notes true w p = moved_notes w p p.to.role
  comes_notes false w p = refl

  delivered_notes : (w : World m) (i : ℕ) (o : Option Packet) → (delivers m w i o).noted ≡ w.noted
  delivered_notes w i None = refl
  delivered_notes w i (Some p) = comes_notes (runs m w p.to) (handed m w i) p

  pub delivery_notes : (w : World m) (i : ℕ) → (happens m w (Deliver i)).noted ≡ w.noted
  unfolding happens
  delivery_notes w i = delivered_notes w i (slice_get w.packets i)

  ticked_notes : (w : World m) (n : ℕ) (r : Role) → (ticks m w n r).noted ≡ w.noted
  unfolding client_turned
  ticked_notes w n role.Unit = refl
  ticked_notes w n role.Layout = refl
  ticked_notes w n role.Seqr = refl
  ticked_notes w n role.Client = refl

  if_notes : (b : Bool) (w : World m) (n : NodeId) → (ticks_if m b w n).noted ≡ w.noted
  if_notes true w n = ticked_notes w n.num n.role
  if_notes false w n = refl

  pub tick_notes : (w : World m) (n : NodeId) → (happens m w (Tick n)).noted ≡ w.noted
  unfolding happens
  tick_notes w n = if_notes (runs m w n) w n

module _ (m : Meaning) (h : Header) (k e : ℕ) (c : Changed) (old : Layout) (notes : List CommandStart) where
  pub record Held (v : World m) : Type 0 where
    pub reached : Reached m h v
    pub noted : v.noted ≡ notes
    pub change : WorkIs m c (client m v k).work
    pub decided : IsDecided m v e old

  later : (w : World m) (x : EventOf m) → LawfulEvent m w.cluster x → (happens m w x).steps ≤ most_steps → Later m w (happens m w x)
  unfolding run
  later w x lawful few = (Takes x ∷ [], record { lawful = λ y i. by y (has_contained (Takes x ∷ []) y i); is = refl; few = few })
    where
      by : (y : Move m) → Has (Takes x ∷ []) y → LawfulMove m w.cluster y
      by y (inl i) = subst (λ (z : Move m). LawfulMove m w.cluster z) (sym i) lawful
      by y (inr i) = absurd i

  stays : (w : World m) (x : EventOf m) → LawfulEvent m (start m h).cluster x → w.steps < 200000 → (happens m w x).steps ≡ w.steps + 1 → Held w → IsDecided m (happens m w x) e old
  unfolding start
  stays w x lawful less count f =
      let cluster = cluster_is m h f.reached.0 w f.reached.1 in
      let l = later w x (subst (λ (y : Header). LawfulEvent m y x) (sym cluster) lawful) (omega (arith, less, count)) in
      (decided_stays m h f.reached.0 w (happens m w x) f.reached.1 l).stays e old f.decided

  kept : (w v : World m) → R m k (λ d. WorkIs m c d.work) (λ what. ⊥) w v → WorkIs m c (client m w k).work → WorkIs m c (client m v k).work
  kept w v r h = by (r.goes h)
    where
      by : WorkIs m c (client m v k).work ⊎ Rattle.tg_law_reconfs.proofs.Ends.Replied m k (λ d. WorkIs m c d.work) (λ what. ⊥) r.more → WorkIs m c (client m v k).work
      by (inl g) = g
      by (inr y) = absurd y.says

  pub held_facts : Facts m Held (λ s y. ⊤)
  held_facts = record {
    delivered = λ w i free f. record {
      reached = goes m h w (Deliver i) tt (below_limit m h w free) (happens_counts m w i) f.reached;
      noted = delivery_notes m w i ∙ f.noted;
      change = kept w _ (one_delivery m k (λ d. WorkIs m c d.work) (λ what. ⊥) (change_rules m c k) w i) f.change;
      decided = stays w (Deliver i) tt (below_limit m h w free) (happens_counts m w i) f;
    };
    ticked = λ w n on free f. record {
      reached = goes m h w (Tick n) (declared m h w n f.reached on) (below_limit m h w free) (tick_counts m h w n) f.reached;
      noted = tick_notes m w n ∙ f.noted;
      change = kept w _ (one_tick m k (λ d. WorkIs m c d.work) (λ what. ⊥) (change_rules m c k) w n) f.change;
      decided = stays w (Tick n) (declared m h w n f.reached on) (below_limit m h w free) (tick_counts m h w n) f;
    };
    fair = λ w i p f is. tt;
  }
