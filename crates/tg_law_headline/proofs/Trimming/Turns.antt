-- Through each of a client's turns: the trims that its command's walks have met have B, where what units tell as gone has.
use Rattle.std.proofs.Common.{◌∙◌, ◌≡◌, ◌⊎◌, ℕ, ◌<◌, ◌≤◌, List, [], ◌∷◌, Bool, true, false, refl, sym, subst, inl, inr, arith, Some, None, Option}
use Rattle.std.specs.Prelude.{nat_lt, ◌&&◌}
use Rattle.std.proofs.lemmas.Bool.Decides.{nat_tests}
use Rattle.tg_base.specs.Layouts.{Layout}
use Rattle.tg_base.specs.declared.cell.Cell.{Cell}
use Rattle.tg_base.specs.declared.ids.NodeId.{NodeId}
use Rattle.tg_base.specs.declared.ids.Oid.{Oid}
use Rattle.tg_base.specs.declared.marks.StreamLink.{StreamLink}
use Rattle.tg_base.specs.declared.msg.Msg.{Msg}
use Rattle.tg_kind.specs.Meaning.{Meaning}
use Rattle.tg_model.specs.Kinds.{CommandOf}
use Rattle.tg_base.specs.Orders.{node_eq}
use Rattle.tg_protocol.specs.Words.{layout_id}
use Rattle.tg_protocol.specs.Replies.{reply}
use Rattle.tg_protocol.specs.Appending.{append_start}
use Rattle.tg_protocol.specs.Syncing.{sync_start}
use Rattle.tg_protocol.specs.Clients.{Task, Syncing, Walking, Hand, Work, Client}
use Rattle.tg_protocol.specs.Answers.{Moved, moved, appends, syncs}
use Rattle.tg_protocol.specs.ClientSteps as step
use Rattle.tg_protocol.specs.ClientSteps.{met, lasts_of, trims_with, knows, given_up_if, task_in, client_command, client_deliver, client_tick}
use Rattle.tg_law_layouts.proofs.Moves.Turns.{not_busy}
use Rattle.tg_law_layouts.proofs.Moves.Members.{Has, has_either}
use Rattle.tg_law_headline.proofs.Leaves.Walks.{MetBy, goes_by, starts_by}
use Rattle.tg_law_headline.proofs.Leaves.Ended.{Stays, Tells, TaskTells}
use Rattle.tg_law_steps.proofs.Places.{Place, Feeds, Newer, OnSync, OnWalk, Over, Walks}
use Rattle.tg_law_steps.proofs.Ways.{Way, FeedsSync, FeedsWalk, NewerSync, NewerWalk, Confirms, Settles, EndsAtOnce, WalkEnds, MetNone, MetLow, MetHigh, StartsOver, AllWalked, HasPlayed}
use Rattle.tg_law_steps.proofs.Ends.{End, GoesOn, SyncGoes, WalkGoes, WalkBegins, LearnsNewer, SyncLearns, WalkLearns, Syncs}
use Rattle.tg_law_steps.proofs.Takes.{Taken, SaidAtOnce, SyncsFirst, said_work}
use Rattle.tg_law_steps.proofs.Along.{delivered, commanded, over_walks}

module _ (m : Meaning) (B : ℕ → ℕ → Type 0) (grows : (e f b : ℕ) → e ≤ f → B e b → B f b) where
  abbrev pub AllMet : ℕ → List (Oid × ℕ) → Type 0
  AllMet e ts = (x : Oid × ℕ) → Has ts x → B e x.1

  -- of a command whose streams are walked
  abbrev pub TaskTold : ℕ → List (Oid × ℕ) → Task m → Type 0
  TaskTold e ts (Syncing s) = AllMet e ts
  TaskTold e ts (Walking k os) = AllMet e ts
  TaskTold e ts t = Unit {0}

  abbrev pub WorkTold : ℕ → Option (Work m) → Type 0
  WorkTold e None = Unit {0}
  WorkTold e (Some w) = TaskTold e w.trims (task_in m w.hand)

  abbrev pub ClientTold : Client m → Type 0
  ClientTold c = WorkTold c.stand.epoch c.work

  -- what a unit may tell as gone in a layout, and what a client's walks have met
  abbrev pub GoneBy : Layout → ℕ → Type 0
  GoneBy p b = B p.epoch b

  abbrev pub HasMet : Client m → Work m → Type 0
  HasMet c w = AllMet c.stand.epoch w.trims

  abbrev Fine : Moved m → Type 0
  Fine x = WorkTold x.now.stand.epoch x.now.work

  none_met : (e : ℕ) → AllMet e []
  none_met e x i = absurd i

  later_met : (e f : ℕ) (ts : List (Oid × ℕ)) → e ≤ f → AllMet e ts → AllMet f ts
  later_met e f ts le k x i = grows e f x.1 le (k x i)

  with_met : (e : ℕ) (ts : List (Oid × ℕ)) (o : Oid) (g : Option ℕ) → ((b : ℕ) → g ≡ Some b → B e b) → AllMet e ts → AllMet e (trims_with m ts o g)
  with_met e ts o None f k = k
  with_met e ts o (Some b) f k = λ x i. by x (has_either ts ((o, b) ∷ []) x i)
    where
      by : (x : Oid × ℕ) → Has ts x ⊎ Has ((o, b) ∷ []) x → B e x.1
      by x (inl i) = k x i
      by x (inr (inl same)) = subst (λ (y : Oid × ℕ). B e y.1) (sym same) (f b refl)
      by x (inr (inr i)) = absurd i

  -- it stays through the walks of a step
  pub stays : Stays m GoneBy HasMet
  stays = record {
    turned = λ c w n g k. k;
    taken = λ c w o x f k. with_met c.stand.epoch w.trims o x.gone f k;
    known = λ c w s t ls lo k. known c w s t ls lo k;
    given = λ c w b k. given c w b k;
    over = λ c w k. none_met c.stand.epoch;
    stood = λ c w q less k. later_met c.stand.epoch q.epoch w.trims (omega (arith, less)) k;
  }
    where
      known : (c : Client m) (w : Work m) (s : Option (ℕ × Cell)) (t : ℕ) (ls : List StreamLink) (lo : ℕ) → HasMet c w → HasMet (knows m c s) (record w { tail = t; lasts = ls; lo = lo })
      known c w None t ls lo k = k
      known c w (Some s) t ls lo k = k

      given : (c : Client m) (w : Work m) (b : Bool) → HasMet c w → HasMet (given_up_if m b c) w
      given c w true k = k
      given c w false k = k

  idle_fine : (x : Moved m) → x.now.work ≡ None → Fine x
  idle_fine x e = subst (λ (w : Option (Work m)). WorkTold x.now.stand.epoch w) (sym e) tt

  -- Along a turn.

  abbrev Fits : Client m → Work m → Place m → Type 0
  Fits c w (Feeds t n rid x) = TaskTold c.stand.epoch w.trims t × TaskTells m GoneBy HasMet c t n x
  Fits c w (Newer t n rid q) = TaskTold c.stand.epoch w.trims t × (c.stand.epoch < q.epoch)
  Fits c w (OnSync bs to) = HasMet c w
  Fits c w (OnWalk o os to) = MetBy (B c.stand.epoch) to × HasMet c w
  Fits c w (Over o os x g) = HasMet c w
  Fits c w (Walks os) = HasMet c w
  Fits c w p = Unit {0}

  way : (c : Client m) (w : Work m) (p : Place m) (d : Client m) (v : Work m) (q : Place m) → Way m c w p d v q → Fits c w p → Fits d v q
  way c w _ _ _ _ (FeedsSync s n rid x) h = h.0
  way c w _ _ _ _ (FeedsWalk k os n rid x) h = (h.1, h.0)
  way c w _ _ _ _ (NewerSync s n rid q) h = let less = h.1 in later_met c.stand.epoch q.epoch w.trims (omega (arith, less)) h.0
  way c w _ _ _ _ (NewerWalk k os n rid q) h = let less = h.1 in (goes_by (B q.epoch) q c.next k, later_met c.stand.epoch q.epoch w.trims (omega (arith, less)) h.0)
  way c w _ _ _ _ (EndsAtOnce o os x e) h = with_met c.stand.epoch w.trims o x.gone (subst (MetBy (B c.stand.epoch)) e (starts_by (B c.stand.epoch) c.stand o (lasts_of m w o) w.lo c.cells c.next)) h
  way c w _ _ _ _ (WalkEnds o os x) h = with_met c.stand.epoch w.trims o x.gone h.0 h.1
  way c w _ _ _ _ (StartsOver o os x b e f k) h = none_met c.stand.epoch
  way c w _ _ _ _ (Confirms bs t ls) h = h
  way c w _ _ _ _ (Settles bs t ls s) h = h
  way c w _ _ _ _ (MetNone o os x) h = h
  way c w _ _ _ _ (MetLow o os x b e f) h = h
  way c w _ _ _ _ (MetHigh o os x b e f k) h = h
  way c w _ _ _ _ x h = tt

  all_walked : (c : Client m) (w : Work m) (d : Client m) (q : Place m) → AllWalked m c w d q → Fits c w (Walks []) → Fits d w q
  all_walked c w _ _ (HasPlayed k) h = tt
  all_walked c w _ _ x h = tt

  ends_fine : (c : Client m) (w : Work m) (p : Place m) (x : Moved m) → End m c w p x → Fits c w p → Fine x
  unfolding appends append_start syncs sync_start
  ends_fine c w _ _ (GoesOn _ _ _ (SyncGoes bs s)) h = h
  ends_fine c w _ _ (GoesOn _ _ _ (WalkGoes o os x)) h = h.1
  ends_fine c w _ _ (GoesOn _ _ _ (WalkBegins o os x e)) h = h
  ends_fine c w _ _ (GoesOn _ _ _ x) h = tt
  ends_fine c w _ _ (LearnsNewer _ (SyncLearns bs s)) h = h
  ends_fine c w _ _ (LearnsNewer _ (WalkLearns o os x)) h = h.1
  ends_fine c w _ _ (LearnsNewer _ x) h = tt
  ends_fine c w _ _ (Syncs d v os x) h = none_met d.stand.epoch
  ends_fine c w _ _ x h = tt

  takes_fine : (c : Client m) (x : CommandOf m) → c.work ≡ None → (y : Moved m) → Taken m c x y → Fine y
  unfolding appends append_start syncs sync_start
  takes_fine c _ e _ (SaidAtOnce x d ns s) = idle_fine (moved m d ns) (said_work m c x d ns s ∙ e)
  takes_fine c _ e _ (SyncsFirst x k) = none_met c.stand.epoch
  takes_fine c _ e _ x = tt

  -- Turns.

  pub command_fine : (c : Client m) (x : CommandOf m) → ClientTold c → ClientTold (client_command m c x).now
  unfolding client_command
  command_fine c x k = commanded m Fine c x (λ why e. k) (λ e. takes_fine c x (not_busy m c x e))

  pub deliver_fine : (c : Client m) (from : NodeId) (rid : ℕ) (y : Msg) → ClientTold c → Tells m GoneBy HasMet c from rid (reply y) → ClientTold (client_deliver m c from rid y).now
  unfolding client_deliver
  deliver_fine c from rid y k g =
      delivered m Fits Fine ends_fine way (over_walks m Fits Fine ends_fine all_walked) c from rid (reply y) k
      (λ w t has doing a other. (subst (λ (d : Hand m). TaskTold c.stand.epoch w.trims (task_in m d)) doing (told w has), g w t has doing a)) (λ w q has is new. (told w has, is_newer q (node_eq from (layout_id from.num)) new))
    where
      told : (w : Work m) → c.work ≡ Some w → TaskTold c.stand.epoch w.trims (task_in m w.hand)
      told w has = subst (λ (o : Option (Work m)). WorkTold c.stand.epoch o) has k

      is_newer : (q : Layout) (a : Bool) → (a && nat_lt c.stand.epoch q.epoch) ≡ true → c.stand.epoch < q.epoch
      is_newer q a e = grind (arith, nat_tests, e)

  pub tick_fine : (c : Client m) → ClientTold c → ClientTold (client_tick m c).now
  unfolding client_tick
  tick_fine c k = by c.work k
    where
      by : (w : Option (Work m)) → WorkTold c.stand.epoch w → ClientTold (step.tick_by m c w).now
      by None f = k
      by (Some w) f = k
