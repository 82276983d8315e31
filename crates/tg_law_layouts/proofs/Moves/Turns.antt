-- The request numbers that a client draws in a step.
use Rattle.std.proofs.Common.{◌≡◌, ◌⊎◌, ℕ, ◌+◌, ◌≤◌, List, [], ◌∷◌, ◌++◌, refl, sym, ◌∙◌, subst, inl, inr, arith, Some, None, Option}
use Rattle.tg_base.specs.Layouts.{Layout}
use Rattle.tg_base.specs.declared.ids.NodeId.{NodeId}
use Rattle.tg_base.specs.declared.ids.Oid.{Oid}
use Rattle.tg_base.specs.declared.msg.Msg.{Msg}
use Rattle.tg_base.specs.declared.msg.Msg.TheVariants as msg
use Rattle.tg_base.specs.declared.packet.Out.{Out}
use Rattle.tg_kind.specs.Meaning.{Meaning}
use Rattle.tg_model.specs.Kinds.{CommandOf, NoteOf}
use Rattle.tg_model.specs.declared.command.Command.TheVariants as cmd
use Rattle.tg_model.specs.declared.refusal.Refusal.{Refusal}
use Rattle.tg_protocol.specs.Words.{layout_id, numbers}
use Rattle.tg_protocol.specs.Requests.{waits_for, drawn_from, Next, Goes, Learns, Ends}
use Rattle.tg_protocol.specs.Replies.{Reply, reply}
use Rattle.tg_protocol.specs.Appending.{append_asks}
use Rattle.tg_protocol.specs.Syncing.{sync_asks}
use Rattle.tg_protocol.specs.Walking.{walk_asks}
use Rattle.tg_protocol.specs.Trimming.{trim_asks, copy_asks}
use Rattle.tg_protocol.specs.Reconfiguring.{Reconf, reconf_asks, reconf_awaited, reconf_again_asks, later_asks, this_or}
use Rattle.tg_protocol.specs.Clients.{Purpose, Task, Syncing, Walking, Appending, Trimming, Copying', Reconfiguring, Hand, Doing, Learning, Work, Client, refusal}
use Rattle.tg_protocol.specs.Answers.{Moved, moved}
use Rattle.tg_protocol.specs.ClientSteps as step
use Rattle.tg_protocol.specs.ClientSteps.{task_in, new_work, task_asks, task_awaited, task_again_asks, hand_again_asks, hand_asks, client_asks, asks_latest, goes_on, learns_for, start_walk, owns, feed, ClientTurn, given, client_command, client_deliver, tick_by, client_tick}
use Rattle.tg_law_layouts.proofs.Moves.Members.{Has, has_left, has_right, has_either, has_filter}
use Rattle.tg_law_layouts.proofs.Moves.Draws.{Drawn, IsNew, TurnDraws, NextDraws, same, wider, next_wider, all_new, draws_all, later, without}
use Rattle.tg_law_layouts.proofs.Moves.Machines.{append_draws, append_again_draws, sync_draws, sync_start_draws, walk_draws, walk_again_draws, walk_start_draws, trim_draws, trim_start_draws, copy_draws, copy_start_draws}
use Rattle.tg_law_layouts.proofs.Moves.Reconfs.{reconf_start_draws, reconf_draws, reconf_latest_draws, numbers_long}
use Rattle.tg_law_layouts.proofs.Moves.Clients.{task_kept, hand_reserved, work_reserved, reserved, MovedDraws, idle_draws, appends_draws, syncs_draws}
use Rattle.tg_law_steps.proofs.Places.{Place, Feeds, Newer, OnSync, OnWalk, OnAppend, OnTrims, OnCopy, OnReconf}
use Rattle.tg_law_steps.proofs.Ways.{Way, FeedsSync, FeedsWalk, FeedsAppend, FeedsTrims, FeedsCopy, FeedsReconf, NewerSync, NewerWalk, NewerAppend, NewerTrims, NewerCopy, NewerReconf, AllWalked, IsRescue}
use Rattle.tg_law_steps.proofs.Ends.{End, GoesOn, LearnsNewer, Syncs, Appends, Refuses, Answers, Tells, IsGoing, WalkBegins, TrimsBegin, IsLearning, ReconfLearns, IsSynced, JudgedAt, IsAppended, MarkBegins, IsRefused, CopyFault, IsAnswered, IsSaved, IsTold, IsMarked}
use Rattle.tg_law_steps.proofs.Takes.{IsSaid, Begins, Taken, SaidAtOnce, SyncsFirst, AppendsRecord, ReconfBegins, CopyBegins, said_work}
use Rattle.tg_law_steps.proofs.Along.{delivered, over_walks, commanded}
use Rattle.tg_entry.specs.declared.entry.Entry.{Entry}
use Rattle.tg_model.specs.Kinds.{WhatOf}
use Rattle.tg_protocol.specs.Views.{View}
use Rattle.tg_protocol.specs.Words.{unit_id}
use Rattle.tg_protocol.specs.Layouts.{units_of}
use Rattle.tg_protocol.specs.Answers.{took_over}
use Rattle.tg_protocol.specs.Trimming.{copy_start}

-- from fewer requests and a later number, and what goes besides passed over
next_without : {M E : Type 0} → (asks : M → List Out) (old more : List Out) (next mid : ℕ) (bs : List Out) (end : ℕ) (to : Next M E) → next ≤ mid → ((o : Out) → Has old o → Has more o) → NextDraws asks old mid bs end to
    → NextDraws asks more next [] end to
next_without asks old more next mid bs end (Goes x) le k d = without more next bs (asks x) end (wider old more next mid _ end le k d)
next_without asks old more next mid bs end (Learns x) le k d = (let a = d.0 in omega (arith, le, a), λ o h. k o (d.1 o h))
next_without asks old more next mid bs end (Ends e) le k d = omega (arith, le, d)

-- Along a turn, from the requests `old` and the next number `next`.
module _ (m : Meaning) (old : List Out) (next : ℕ) where
  abbrev Kept : List Out → Type 0
  Kept os = (o : Out) → Has os o → Has old o

  abbrev Here : Client m → Work m → Place m → Type 0
  Here c w (Feeds t n rid x) = (next ≤ c.next) × Kept (task_awaited m c.stand t)
  Here c w (Newer t n rid q) = (next ≤ c.next) × Kept (task_kept m t)
  Here c w (OnSync bs to) = NextDraws (sync_asks c.stand) old next bs c.next to
  Here c w (OnWalk o os to) = NextDraws walk_asks old next [] c.next to
  Here c w (OnAppend y bs to) = NextDraws (append_asks c.stand) old next bs c.next to
  Here c w (OnTrims b to) = NextDraws (trim_asks c.stand) old next [] c.next to
  Here c w (OnCopy x to) = NextDraws (copy_asks c.stand) old next [] c.next to
  Here c w (OnReconf to) = NextDraws reconf_awaited old next [] c.next to
  Here c w p = next ≤ c.next

  way : (c : Client m) (w : Work m) (p : Place m) (d : Client m) (v : Work m) (q : Place m) → Way m c w p d v q → Here c w p → Here d v q
  unfolding task_asks
  way c w _ _ _ _ (FeedsSync s n rid x) h = next_wider (sync_asks c.stand) (sync_asks c.stand s) old next c.next _ _ _ h.0 h.1 (sync_draws c.stand s n x c.next)
  way c w _ _ _ _ (FeedsWalk k os n rid x) h = next_without walk_asks (walk_asks k) old next c.next _ _ _ h.0 h.1 (walk_draws c.stand k n x c.next)
  way c w _ _ _ _ (FeedsAppend a y n rid x) h = next_wider (append_asks c.stand) (append_asks c.stand a) old next c.next _ _ _ h.0 h.1 (append_draws c.stand a n x c.next)
  way c w _ _ _ _ (FeedsTrims t n rid x) h = next_without (trim_asks c.stand) (trim_asks c.stand t) old next c.next _ _ _ h.0 h.1 (trim_draws c.stand t n x c.next)
  way c w _ _ _ _ (FeedsCopy y n rid x) h = next_without (copy_asks c.stand) (copy_asks c.stand y) old next c.next _ _ _ h.0 h.1 (copy_draws c.stand y n x c.next)
  way c w _ _ _ _ (FeedsReconf r n rid x) h = next_without reconf_awaited (reconf_awaited r) old next c.next _ _ _ h.0 h.1 (reconf_draws r n rid x c.next)
  way c w _ _ _ _ (NewerSync s n rid q) h = next_wider (sync_asks q) [] old next c.next _ _ _ h.0 h.1 (sync_start_draws q s.oids c.next)
  way c w _ _ _ _ (NewerWalk k os n rid q) h = next_without walk_asks [] old next c.next _ _ _ h.0 h.1 (walk_again_draws q k c.next)
  way c w _ _ _ _ (NewerAppend a y n rid q) h = next_wider (append_asks q) [] old next c.next _ _ _ h.0 h.1 (append_again_draws q a c.next)
  way c w _ _ _ _ (NewerTrims t n rid q) h = next_without (trim_asks q) [] old next c.next _ _ _ h.0 h.1 (trim_start_draws q t.below c.next)
  way c w _ _ _ _ (NewerCopy x n rid q fine) h = next_without (copy_asks q) [] old next c.next _ _ _ h.0 h.1 (copy_start_draws q x.unit x.range x.stripe c.next)
  way c w _ _ _ _ (NewerReconf r n rid q) h = next_without reconf_awaited (reconf_awaited r) old next c.next _ _ _ h.0 h.1 (reconf_latest_draws r n rid q c.next)
  way c w _ _ _ _ x h = h

  walked_way : (c : Client m) (w : Work m) (d : Client m) (q : Place m) → AllWalked m c w d q → next ≤ c.next → Here d w q
  walked_way c w _ _ (IsRescue at of) h = h
  walked_way c w _ _ x h = h

  -- What a turn comes to.

  going_draws : (c : Client m) (w : Work m) (p : Place m) (d : Client m) (t : Task m) (bs : List Out) → IsGoing m c w p d t bs → Here c w p → MovedDraws m old next (goes_on m d w t bs)
  unfolding task_asks
  going_draws c w _ _ _ _ (WalkBegins o os x e) h = record {
    is = later old next c.next _ _ h (without [] c.next (start_walk m c w o).besides (walk_asks x) (start_walk m c w o).next
        (subst (NextDraws walk_asks [] c.next (start_walk m c w o).besides (start_walk m c w o).next) e (walk_start_draws c.stand o _ w.lo c.cells c.next)));
  }
  going_draws c w _ _ _ _ (TrimsBegin es p upto of came some) h = record { is = later old next c.next _ _ h (draws_all [] c.next unit_id (msg.Trim c.stand.epoch _) (units_of c.stand)) }
  going_draws c w _ _ _ _ x h = record { is = h }

  learns_draws : (c : Client m) (w : Work m) (t : Task m) → next ≤ c.next → Kept (task_kept m t) → MovedDraws m old next (learns_for m c w t)
  learns_draws c w t le k = record {
    is = record {
      up = omega (arith, le);
      new = asked;
      is_new = record {
        from = λ o h. let a = is_new.from o h in omega (arith, le, a);
        below = λ o h. is_new.below o h;
        one = λ o q h g e. is_new.one o q h g e;
      };
      either = λ o h. by o (has_either asked (task_kept m t) o h);
    };
  }
    where
      asked : List Out
      asked = asks_latest m (waits_for (numbers c.layouts 0) c.next)

      is_new : IsNew c.next (c.next + c.layouts) asked
      is_new = subst (λ n. IsNew c.next (c.next + n) asked) (numbers_long c.layouts 0) (all_new layout_id msg.AskLatest (numbers c.layouts 0) c.next)

      by : (o : Out) → Has asked o ⊎ Has (task_kept m t) o → Has old o ⊎ Has asked o
      by o (inl h) = inr h
      by o (inr h) = inl (k o h)

  learning_draws : (c : Client m) (w : Work m) (p : Place m) (t : Task m) → IsLearning m c w p t → Here c w p → MovedDraws m old next (learns_for m c w t)
  learning_draws c w _ _ (ReconfLearns r) h = learns_draws c w (Reconfiguring r) h.0 h.1
  learning_draws c w _ _ x h = learns_draws c w _ h.0 (λ o i. absurd i)

  synced_up : (c : Client m) (w : Work m) (p : Place m) (d : Client m) (v : Work m) (os : List Oid) → IsSynced m c w p d v os → Here c w p → next ≤ d.next
  synced_up c w _ _ _ _ (JudgedAt bs p d) h = h
  synced_up c w _ _ _ _ x h = h

  appended_up : (c : Client m) (w : Work m) (p : Place m) (d : Client m) (e : Entry) (y : Purpose m) (ns : List (NoteOf m)) → IsAppended m c w p d e y ns → Here c w p → next ≤ d.next
  appended_up c w _ _ _ _ _ (MarkBegins es p upto o n of came may) h = h
  appended_up c w _ _ _ _ _ x h = h

  refused_up : (c : Client m) (w : Work m) (p : Place m) (d : Client m) (n : ℕ) (why : Refusal) → IsRefused m c w p d n why → Here c w p → next ≤ d.next
  refused_up c w _ _ _ _ (CopyFault x n rid q why e) h = h.0
  refused_up c w _ _ _ _ x h = h

  answered_up : (c : Client m) (w : Work m) (p : Place m) (d : Client m) (n : ℕ) (what : WhatOf m) → IsAnswered m c w p d n what → Here c w p → next ≤ d.next
  answered_up c w _ _ _ _ (IsSaved o upto bs p d) h = h
  answered_up c w _ _ _ _ x h = h

  took_up : (d : Client m) (v : Option (View m)) → next ≤ d.next → next ≤ (took_over m d v).next
  took_up d None le = le
  took_up d (Some v) le = le

  told_up : (c : Client m) (w : Work m) (p : Place m) (d : Client m) (ns : List (NoteOf m)) → IsTold m c w p d ns → Here c w p → next ≤ d.next
  told_up c w _ _ _ (IsMarked n o mark bs p d) h = took_up (owns m c p d) c.view h
  told_up c w _ _ _ x h = h

  ends_draws : (c : Client m) (w : Work m) (p : Place m) (x : Moved m) → End m c w p x → Here c w p → MovedDraws m old next x
  ends_draws c w p _ (GoesOn d t bs x) h = going_draws c w p d t bs x h
  ends_draws c w p _ (LearnsNewer t x) h = learning_draws c w p t x h
  ends_draws c w p _ (Syncs d v os x) h = syncs_draws m old d v os next (synced_up c w p d v os x h)
  ends_draws c w p _ (Appends d e y ns x) h = appends_draws m old d w e y ns next (appended_up c w p d e y ns x h)
  ends_draws c w p _ (Refuses d n why x) h = idle_draws m old next _ refl refl (refused_up c w p d n why x h)
  ends_draws c w p _ (Answers d n what x) h = idle_draws m old next _ refl refl (took_up d d.view (answered_up c w p d n what x h))
  ends_draws c w p _ (Tells d ns x) h = idle_draws m old next _ refl refl (told_up c w p d ns x h)

module _ (m : Meaning) where
  -- Deliveries.

  kept_reserved : (p : Layout) (h : Hand m) (o : Out) → Has (task_kept m (task_in m h)) o → Has (hand_reserved m p h) o
  kept_reserved p (Doing (Reconfiguring r)) o h = h
  kept_reserved p (Doing t) o h = absurd h
  kept_reserved p (Learning ws t) o h = has_right (asks_latest m ws) (task_kept m t) o h

  feed_draws : (c : Client m) (from : NodeId) (rid : ℕ) (x : Reply) → MovedDraws m (reserved m c) c.next (feed m c c.work from rid x)
  feed_draws c from rid x = delivered m (Here m (reserved m c) c.next) (MovedDraws m (reserved m c) c.next) (ends_draws m (reserved m c) c.next) (way m (reserved m c) c.next)
      (over_walks m (Here m (reserved m c) c.next) (MovedDraws m (reserved m c) c.next) (ends_draws m (reserved m c) c.next) (walked_way m (reserved m c) c.next)) c from rid x (record { is = same (reserved m c) c.next })
      (λ w t has doing a other. (omega arith, λ o h. held w has o (subst (λ (d : Hand m). Has (hand_reserved m c.stand d) o) (sym doing) h)))
      (λ w q has is e. (omega arith, λ o h. held w has o (kept_reserved c.stand w.hand o h)))
    where
      held : (w : Work m) → c.work ≡ Some w → (o : Out) → Has (hand_reserved m c.stand w.hand) o → Has (reserved m c) o
      held w has o h = subst (λ (x : Option (Work m)). Has (work_reserved m c.stand x) o) (sym has) h

  -- Commands.

  -- none is taken while one waits
  pub not_busy : (c : Client m) (x : CommandOf m) → refusal m c x ≡ None → c.work ≡ None
  unfolding refusal
  not_busy c x h = grind arith

  said_next : (c : Client m) (x : CommandOf m) (d : Client m) (ns : List (NoteOf m)) → IsSaid m c x d ns → c.next ≤ d.next
  said_next c _ _ _ Begins = omega arith
  said_next c _ _ _ s = omega arith

  takes_draws : (old : List Out) (c : Client m) (x : CommandOf m) → c.work ≡ None → (y : Moved m) → Taken m c x y → MovedDraws m old c.next y
  unfolding task_asks copy_start
  takes_draws old c _ free _ (SaidAtOnce x d ns s) = idle_draws m old c.next (moved m d ns) (said_work m c x d ns s ∙ free) refl (said_next c x d ns s)
  takes_draws old c _ free _ (SyncsFirst x k) = syncs_draws m old c (new_work m x) c.hosted c.next (omega arith)
  takes_draws old c _ free _ (AppendsRecord t y has some k) = appends_draws m old c (new_work m cmd.End) _ y _ c.next (omega arith)
  takes_draws old c _ free _ (ReconfBegins x n r e) = record { is = later old c.next c.next _ n (omega arith) (subst (TurnDraws reconf_awaited [] c.next) e (reconf_start_draws c.stand c.layouts x c.num c.next)) }
  takes_draws old c _ free _ (CopyBegins u r s) = record { is = later old c.next c.next _ (c.next + 1) (omega arith) (copy_start_draws c.stand u r s c.next) }

  -- The steps.

  pub record TurnDraws' (c : Client m) (t : ClientTurn m) : Type 0 where
    pub is : Drawn (reserved m c) c.next (t.sends ++ reserved m t.now) t.now.next

  pub asked_awaited : (p : Layout) (t : Task m) (o : Out) → Has (task_asks m p t) o → Has (task_awaited m p t) o
  unfolding task_asks
  asked_awaited p (Reconfiguring r) o h = has_left (reconf_asks r) _ o h
  asked_awaited p t o h = h

  hand_asked : (p : Layout) (h : Hand m) (o : Out) → Has (hand_asks m p h) o → Has (hand_reserved m p h) o
  hand_asked p (Doing t) o h = asked_awaited p t o h
  hand_asked p (Learning ws t) o h = has_left (asks_latest m ws) (task_kept m t) o h

  work_asked : (p : Layout) (w : Option (Work m)) (o : Out) → Has (step.work_asks m p w) o → Has (work_reserved m p w) o
  work_asked p None o h = h
  work_asked p (Some w) o h = hand_asked p w.hand o h

  asked : (c : Client m) (o : Out) → Has (client_asks m c) o → Has (reserved m c) o
  unfolding client_asks
  asked c o h = work_asked c.stand c.work o h

  given_draws : (c : Client m) (x : Moved m) → MovedDraws m (reserved m c) c.next x → TurnDraws' c (given m c x)
  given_draws c x d = record { is = record { up = d.is.up; new = d.is.new; is_new = d.is.is_new; either = λ o h. by o (has_either (given m c x).sends (reserved m x.now) o h) } }
    where
      there : (o : Out) → Has (x.besides ++ reserved m x.now) o → Has (reserved m c) o ⊎ Has d.is.new o
      there o h = d.is.either o h

      sent : (o : Out) → Has x.besides o ⊎ Has (drawn_from c.next (client_asks m x.now)) o → Has (x.besides ++ reserved m x.now) o
      sent o (inl h) = has_left x.besides _ o h
      sent o (inr h) = has_right x.besides _ o (asked x.now o (has_filter _ (client_asks m x.now) o h))

      by : (o : Out) → Has (given m c x).sends o ⊎ Has (reserved m x.now) o → Has (reserved m c) o ⊎ Has d.is.new o
      by o (inl h) = there o (sent o (has_either x.besides _ o h))
      by o (inr h) = there o (has_right x.besides _ o h)

  pub command_draws : (c : Client m) (x : CommandOf m) → TurnDraws' c (client_command m c x)
  unfolding client_command
  command_draws c x = given_draws c _ (commanded m (MovedDraws m (reserved m c) c.next) c x (λ why e. record { is = same (reserved m c) c.next }) (λ e. takes_draws (reserved m c) c x (not_busy c x e)))

  pub deliver_draws : (c : Client m) (from : NodeId) (rid : ℕ) (x : Msg) → TurnDraws' c (client_deliver m c from rid x)
  unfolding client_deliver
  deliver_draws c from rid x = given_draws c _ (feed_draws c from rid (reply x))

  this_or_has : (xs ys : List Out) (o : Out) → Has (this_or xs ys) o → Has xs o ⊎ Has ys o
  this_or_has [] ys o h = inr h
  this_or_has (x ∷ xs) ys o h = inl h

  again_awaited : (r : Reconf) (o : Out) → Has (reconf_again_asks r) o → Has (reconf_awaited r) o
  again_awaited r o h = by (this_or_has (later_asks r r.work) (reconf_asks r) o h)
    where
      by : Has (later_asks r r.work) o ⊎ Has (reconf_asks r) o → Has (reconf_awaited r) o
      by (inl x) = has_right (reconf_asks r) _ o x
      by (inr x) = has_left (reconf_asks r) _ o x

  pub task_again_reserved : (p : Layout) (t : Task m) (o : Out) → Has (task_again_asks m p t) o → Has (task_awaited m p t) o
  task_again_reserved p (Reconfiguring r) o h = again_awaited r o h
  task_again_reserved p (Syncing s) o h = h
  task_again_reserved p (Walking w os) o h = h
  task_again_reserved p (Appending a x) o h = h
  task_again_reserved p (Trimming t) o h = h
  task_again_reserved p (Copying' c) o h = h

  hand_again_reserved : (p : Layout) (h : Hand m) (o : Out) → Has (hand_again_asks m p h) o → Has (hand_reserved m p h) o
  hand_again_reserved p (Doing t) o h = task_again_reserved p t o h
  hand_again_reserved p (Learning ws t) o h = has_left (asks_latest m ws) (task_kept m t) o h

  tick_by_draws : (c : Client m) (w : Option (Work m)) → c.work ≡ w → TurnDraws' c (tick_by m c w)
  tick_by_draws c None e = record { is = same (reserved m c) c.next }
  tick_by_draws c (Some w) e = record {
    is = record {
      up = omega arith;
      new = latest;
      is_new = subst (λ n. IsNew c.next (c.next + n) latest) (numbers_long c.layouts 0) (all_new layout_id msg.AskLatest (numbers c.layouts 0) c.next);
      either = λ o h. by o (has_either (hand_again_asks m c.stand w.hand ++ latest) (reserved m c) o h);
    };
  }
    where
      latest : List Out
      latest = asks_latest m (waits_for (numbers c.layouts 0) c.next)

      sent : (o : Out) → Has (hand_again_asks m c.stand w.hand) o ⊎ Has latest o → Has (reserved m c) o ⊎ Has latest o
      sent o (inl h) = inl (subst (λ (x : Option (Work m)). Has (work_reserved m c.stand x) o) (sym e) (hand_again_reserved c.stand w.hand o h))
      sent o (inr h) = inr h

      by : (o : Out) → Has (hand_again_asks m c.stand w.hand ++ latest) o ⊎ Has (reserved m c) o → Has (reserved m c) o ⊎ Has latest o
      by o (inl h) = sent o (has_either (hand_again_asks m c.stand w.hand) latest o h)
      by o (inr h) = inl h

  pub tick_draws : (c : Client m) → TurnDraws' c (client_tick m c)
  unfolding client_tick
  tick_draws c = tick_by_draws c c.work refl
