-- A machine in hand takes what it awaits. A message that isn't awaited changes nothing: the machine passes it by, and the client with it.
use Rattle.std.proofs.Common.{◌≡◌, ℕ, Bool, true, false, List, [], Option, Some, None, Result, refl, sym, ap, subst, ◌∙◌}
use Rattle.std.specs.Global.{Box}
use Rattle.std.specs.Prelude.{max, IfOk}
use Rattle.std.proofs.Math.Nat.{max-zero}
use Rattle.tg_base.specs.declared.fault.NoMemory.{NoMemory}
use Rattle.tg_base.specs.declared.ids.NodeId.{NodeId}
use Rattle.tg_base.specs.declared.ids.Oid.{Oid}
use Rattle.tg_base.specs.declared.msg.Msg.{Msg}
use Rattle.tg_kind.specs.Meaning.{Meaning}
use Rattle.tg_protocol.specs.Requests.{awaits}
use Rattle.tg_protocol.specs.Appending.{Append, Token, append_asks}
use Rattle.tg_protocol.specs.Syncing.{Sync, Answer, sync_asks}
use Rattle.tg_protocol.specs.Walking.{Walk, walk_asks}
use Rattle.tg_protocol.specs.Trimming.{Trims, trim_asks, Copying, copy_asks}
use Rattle.tg_protocol.specs.Reconfiguring.{Reconf, reconf_awaited}
use Rattle.tg_protocol.specs.Replies.{reply}
use Rattle.tg_protocol.specs.Answers.{Moved, moved}
use Rattle.tg_protocol.specs.Clients as told
use Rattle.tg_protocol.specs.ClientSteps.{task_asks, task_awaited, fed_if, task_feed, goes_on, stands, on_sync, on_walk, on_append, on_trims, on_copy, on_reconf}
use Rattle.tg_append.specs.Appends.{append_fed, append_fed_if}
use Rattle.tg_append.specs.SyncLaws.{answer_in}
use Rattle.tg_append.specs.Syncs.{sync_fed, sync_fed_if}
use Rattle.tg_copy.specs.Copies.{copy_fed, copy_fed_if}
use Rattle.tg_copy.specs.Stripes.{HasStripe}
use Rattle.tg_copy.specs.Turns.{spare_of}
use Rattle.tg_client_state.specs.Near.{NearAnswer, NearToken}
use Rattle.tg_reconf.specs.Turns as reconfs
use Rattle.tg_reconf.specs.Turns.{all_drawn, AreDrawn}
use Rattle.tg_stream.specs.Walks.{walk_fed, walk_fed_if}
use Rattle.tg_trim.specs.Turns.{trim_fed, trim_fed_if}
use Rattle.tg_client_state.specs.Tasks as tasks
use Rattle.tg_client_state.specs.Tasks.{TaskOf, PurposeOf, told_task, told_purpose}
use Rattle.tg_client_state.specs.declared.task.Task.TheVariants as task
use Rattle.tg_client_state.specs.States.{StateOf, MovedOf, Rest, WalksOn, client_of, KeepsMoved}
use Rattle.tg_client.specs.Feeding.{InHand, IsTaskKept}

module _ (m : Meaning) where
  abbrev met-nothing : told.Work m → told.Task m → told.Work m
  met-nothing w t = record w { hand = told.Doing t; gone = max w.gone 0 }

  same-work : (w : told.Work m) (t : told.Task m) → w.hand ≡ told.Doing t → w ≡ met-nothing w t
  same-work w t h = ap (λ k. record w { hand = k }) h ∙ ap (λ n. record w { hand = told.Doing t; gone = n }) (sym (max-zero w.gone))

  abbrev with-work : StateOf m → Rest m → Option (told.Work m) → told.Client m
  with-work s r o = record (client_of m s r) { work = o }

  nothing : (s : StateOf m) (r : Rest m) (w : told.Work m) (t : told.Task m) → InHand m r w t → moved m (client_of m s r) [] ≡ goes_on m (client_of m s r) (record w { gone = max w.gone 0 }) t []
  nothing s r w t h = ap (λ o. moved m (with-work s r o) []) (h.work ∙ ap (λ u. Some u) (same-work w t h.hand))

  abbrev with-hand : told.Work m → told.Hand m → told.Work m
  with-hand w k = record w { hand = k }

  abbrev goes-at : StateOf m → Rest m → told.Work m → Reconf → Moved m
  goes-at s r w k = goes_on m (stands m (client_of m s r) k.stand) w (told.Reconfiguring k) []

  -- a change goes on where the client stands
  nothing-changes : (s : StateOf m) (r : Rest m) (w : told.Work m) (k : Reconf) → InHand m r w (told.Reconfiguring k) → k.stand ≡ s.stand → moved m (client_of m s r) [] ≡ goes-at s r w k
  nothing-changes s r w k h e =
      ap (λ o. moved m (with-work s r o) []) (h.work ∙ ap (λ x. Some (with-hand w x)) h.hand)
      ∙ ap (λ p. goes_on m (stands m (client_of m s r) p) w (told.Reconfiguring k) []) (sym e)

  -- By whether the message is awaited.

  sync-if : (b : Bool) (s : StateOf m) (r : Rest m) (w : told.Work m) (a : Sync) (from : NodeId) (rid : ℕ) (x : Msg) → InHand m r w (told.Syncing a) →
      on_sync m (client_of m s r) w (sync_fed_if b s.stand a from.num x s.rids.next) ≡ fed_if m b (client_of m s r) w (told.Syncing a) from rid (reply x)
  unfolding task_feed
  sync-if true s r w a from rid x h = refl
  sync-if false s r w a from rid x h = sym (nothing s r w (told.Syncing a) h)

  walk-if : (b : Bool) (s : StateOf m) (r : Rest m) (w : told.Work m) (a : Walk) (os : List Oid) (from : NodeId) (rid : ℕ) (x : Msg) → InHand m r w (told.Walking a os) →
      on_walk m (client_of m s r) w a.oid os (walk_fed_if b s.stand a from.num x s.rids.next) ≡ fed_if m b (client_of m s r) w (told.Walking a os) from rid (reply x)
  unfolding task_feed
  walk-if true s r w a os from rid x h = refl
  walk-if false s r w a os from rid x h = sym (nothing s r w (told.Walking a os) h)

  append-if : (b : Bool) (s : StateOf m) (r : Rest m) (w : told.Work m) (a : Append) (y : told.Purpose m) (from : NodeId) (rid : ℕ) (x : Msg) → InHand m r w (told.Appending a y) →
      on_append m (client_of m s r) w y (append_fed_if b s.stand a from.num x s.rids.next) ≡ fed_if m b (client_of m s r) w (told.Appending a y) from rid (reply x)
  unfolding task_feed
  append-if true s r w a y from rid x h = refl
  append-if false s r w a y from rid x h = sym (nothing s r w (told.Appending a y) h)

  trims-if : (b : Bool) (s : StateOf m) (r : Rest m) (w : told.Work m) (a : Trims) (from : NodeId) (rid : ℕ) (x : Msg) → InHand m r w (told.Trimming a) →
      on_trims m (client_of m s r) w a.below (trim_fed_if b s.stand a from.num x s.rids.next) ≡ fed_if m b (client_of m s r) w (told.Trimming a) from rid (reply x)
  unfolding task_feed
  trims-if true s r w a from rid x h = refl
  trims-if false s r w a from rid x h = sym (nothing s r w (told.Trimming a) h)

  copy-if : (b : Bool) (s : StateOf m) (r : Rest m) (w : told.Work m) (a : Copying) (from : NodeId) (rid : ℕ) (x : Msg) → InHand m r w (told.Copying' a) →
      on_copy m (client_of m s r) w a (copy_fed_if b s.stand a from.num x s.rids.next) ≡ fed_if m b (client_of m s r) w (told.Copying' a) from rid (reply x)
  unfolding task_feed
  copy-if true s r w a from rid x h = refl
  copy-if false s r w a from rid x h = sym (nothing s r w (told.Copying' a) h)

  reconf-if : (b : Bool) (s : StateOf m) (r : Rest m) (w : told.Work m) (a : Reconf) (from : NodeId) (rid : ℕ) (x : Msg) → InHand m r w (told.Reconfiguring a) → a.stand ≡ s.stand →
      on_reconf m (client_of m s r) w (reconfs.fed_if b a from.num rid x s.rids.next) ≡ fed_if m b (client_of m s r) w (told.Reconfiguring a) from rid (reply x)
  unfolding task_feed
  reconf-if true s r w a from rid x h e = refl
  reconf-if false s r w a from rid x h e = sym (nothing-changes s r w a h e)

  -- What is shown of the machine is shown of what is in hand.

  abbrev FedAs : Result (MovedOf m) NoMemory → StateOf m → Rest m → told.Work m → NodeId → ℕ → Msg → told.Task m → Type 0
  FedAs x s r w from rid y t = IfOk x (λ z. KeepsMoved m s.rids.next z (fed_if m (awaits (task_awaited m s.stand t) from rid) (client_of m s r) w t from rid (reply y)))

  abbrev Feeds : Result (MovedOf m) NoMemory → StateOf m → Rest m → told.Work m → NodeId → ℕ → Msg → told.Task m → Type 0
  Feeds x s r w from rid y t = IsTaskKept m s t → InHand m r w t → FedAs x s r w from rid y t

  feeds-by : (x : Result (MovedOf m) NoMemory) (s : StateOf m) (r : Rest m) (w : told.Work m) (from : NodeId) (rid : ℕ) (y : Msg) (t u : TaskOf m) → t ≡ u → Feeds x s r w from rid y (told_task m u) → Feeds x s r w from rid y (told_task m t)
  feeds-by x s r w from rid y t u e h = subst (λ (v : TaskOf m). Feeds x s r w from rid y (told_task m v)) (sym e) h

  near-answer : (a : Option Answer) → tasks.NearAnswer m a → NearAnswer a
  near-answer None h = tt
  near-answer (Some a) h = h

  near-token : (t : Option Token) → tasks.NearToken m t → NearToken t
  near-token None h = tt
  near-token (Some t) h = h

  sync-fed : (x : Result (MovedOf m) NoMemory) (s : StateOf m) (r : Rest m) (w : told.Work m) (from : NodeId) (rid : ℕ) (y : Msg) (a : Sync) →
      (all_drawn s.rids.next (sync_asks s.stand a) ≡ true → NearAnswer (answer_in a.work) → IfOk x (λ z. KeepsMoved m s.rids.next z (on_sync m (client_of m s r) w (sync_fed s.stand a from rid y s.rids.next)))) →
      Feeds x s r w from rid y (told.Syncing a)
  unfolding task_asks
  sync-fed x s r w from rid y a f k h =
      subst (λ (v : Moved m). IfOk x (λ z. KeepsMoved m s.rids.next z v)) (sync-if (awaits (sync_asks s.stand a) from rid) s r w a from rid y h) (f k.drawn (near-answer (answer_in a.work) k.fit))

  pub sync_fed_as : (x : Result (MovedOf m) NoMemory) (s : StateOf m) (r : Rest m) (w : told.Work m) (from : NodeId) (rid : ℕ) (y : Msg) (t : TaskOf m) (a : Sync) → t ≡ task.Sync a →
      (all_drawn s.rids.next (sync_asks s.stand a) ≡ true → NearAnswer (answer_in a.work) → IfOk x (λ z. KeepsMoved m s.rids.next z (on_sync m (client_of m s r) w (sync_fed s.stand a from rid y s.rids.next)))) →
      Feeds x s r w from rid y (told_task m t)
  sync_fed_as x s r w from rid y t a e f = feeds-by x s r w from rid y t (task.Sync a) e (sync-fed x s r w from rid y a f)

  walk-fed : (x : Result (MovedOf m) NoMemory) (s : StateOf m) (r : Rest m) (w : told.Work m) (from : NodeId) (rid : ℕ) (y : Msg) (a : Walk) (os : List Oid) →
      (all_drawn s.rids.next (walk_asks a) ≡ true → IfOk x (λ z. KeepsMoved m s.rids.next z (on_walk m (client_of m s r) w a.oid os (walk_fed s.stand a from rid y s.rids.next)))) →
      Feeds x s r w from rid y (told.Walking a os)
  unfolding task_asks
  walk-fed x s r w from rid y a os f k h =
      subst (λ (v : Moved m). IfOk x (λ z. KeepsMoved m s.rids.next z v)) (walk-if (awaits (walk_asks a) from rid) s r w a os from rid y h) (f k.drawn)

  pub walk_fed_as : (x : Result (MovedOf m) NoMemory) (s : StateOf m) (r : Rest m) (w : told.Work m) (from : NodeId) (rid : ℕ) (y : Msg) (t : TaskOf m) (a : Walk) (os : List Oid) → t ≡ task.Walk a os →
      (all_drawn s.rids.next (walk_asks a) ≡ true → IfOk x (λ z. KeepsMoved m s.rids.next z (on_walk m (client_of m s r) w a.oid os (walk_fed s.stand a from rid y s.rids.next)))) →
      Feeds x s r w from rid y (told_task m t)
  walk_fed_as x s r w from rid y t a os e f = feeds-by x s r w from rid y t (task.Walk a os) e (walk-fed x s r w from rid y a os f)

  append-fed : (x : Result (MovedOf m) NoMemory) (s : StateOf m) (r : Rest m) (w : told.Work m) (from : NodeId) (rid : ℕ) (y : Msg) (a : Append) (p : told.Purpose m) →
      (all_drawn s.rids.next (append_asks s.stand a) ≡ true → NearToken a.token → IfOk x (λ z. KeepsMoved m s.rids.next z (on_append m (client_of m s r) w p (append_fed s.stand a from rid y s.rids.next)))) →
      Feeds x s r w from rid y (told.Appending a p)
  unfolding task_asks
  append-fed x s r w from rid y a p f k h =
      subst (λ (v : Moved m). IfOk x (λ z. KeepsMoved m s.rids.next z v)) (append-if (awaits (append_asks s.stand a) from rid) s r w a p from rid y h) (f k.drawn (near-token a.token k.fit))

  pub append_fed_as : (x : Result (MovedOf m) NoMemory) (s : StateOf m) (r : Rest m) (w : told.Work m) (from : NodeId) (rid : ℕ) (y : Msg) (t : TaskOf m) (a : Append) (p : PurposeOf m) → t ≡ task.Append a p →
      (all_drawn s.rids.next (append_asks s.stand a) ≡ true → NearToken a.token → IfOk x (λ z. KeepsMoved m s.rids.next z (on_append m (client_of m s r) w (told_purpose m p) (append_fed s.stand a from rid y s.rids.next)))) →
      Feeds x s r w from rid y (told_task m t)
  append_fed_as x s r w from rid y t a p e f = feeds-by x s r w from rid y t (task.Append a p) e (append-fed x s r w from rid y a (told_purpose m p) f)

  trims-fed : (x : Result (MovedOf m) NoMemory) (s : StateOf m) (r : Rest m) (w : told.Work m) (from : NodeId) (rid : ℕ) (y : Msg) (a : Trims) →
      (all_drawn s.rids.next (trim_asks s.stand a) ≡ true → IfOk x (λ z. KeepsMoved m s.rids.next z (on_trims m (client_of m s r) w a.below (trim_fed s.stand a from rid y s.rids.next)))) →
      Feeds x s r w from rid y (told.Trimming a)
  unfolding task_asks
  trims-fed x s r w from rid y a f k h =
      subst (λ (v : Moved m). IfOk x (λ z. KeepsMoved m s.rids.next z v)) (trims-if (awaits (trim_asks s.stand a) from rid) s r w a from rid y h) (f k.drawn)

  pub trims_fed_as : (x : Result (MovedOf m) NoMemory) (s : StateOf m) (r : Rest m) (w : told.Work m) (from : NodeId) (rid : ℕ) (y : Msg) (t : TaskOf m) (a : Trims) → t ≡ task.Trim a →
      (all_drawn s.rids.next (trim_asks s.stand a) ≡ true → IfOk x (λ z. KeepsMoved m s.rids.next z (on_trims m (client_of m s r) w a.below (trim_fed s.stand a from rid y s.rids.next)))) →
      Feeds x s r w from rid y (told_task m t)
  trims_fed_as x s r w from rid y t a e f = feeds-by x s r w from rid y t (task.Trim a) e (trims-fed x s r w from rid y a f)

  copy-fed : (x : Result (MovedOf m) NoMemory) (s : StateOf m) (r : Rest m) (w : told.Work m) (from : NodeId) (rid : ℕ) (y : Msg) (a : Copying) →
      (all_drawn s.rids.next (copy_asks s.stand a) ≡ true → IfOk x (λ z. KeepsMoved m s.rids.next z (on_copy m (client_of m s r) w a (copy_fed s.stand a from rid y s.rids.next)))) →
      Feeds x s r w from rid y (told.Copying' a)
  unfolding task_asks
  copy-fed x s r w from rid y a f k h =
      subst (λ (v : Moved m). IfOk x (λ z. KeepsMoved m s.rids.next z v)) (copy-if (awaits (copy_asks s.stand a) from rid) s r w a from rid y h) (f k.drawn)

  pub copy_fed_as : (x : Result (MovedOf m) NoMemory) (s : StateOf m) (r : Rest m) (w : told.Work m) (from : NodeId) (rid : ℕ) (y : Msg) (t : TaskOf m) (a : Copying) → t ≡ task.Copy a →
      (all_drawn s.rids.next (copy_asks s.stand a) ≡ true → IfOk x (λ z. KeepsMoved m s.rids.next z (on_copy m (client_of m s r) w a (copy_fed s.stand a from rid y s.rids.next)))) →
      Feeds x s r w from rid y (told_task m t)
  copy_fed_as x s r w from rid y t a e f = feeds-by x s r w from rid y t (task.Copy a) e (copy-fed x s r w from rid y a f)

  reconf-fed : (x : Result (MovedOf m) NoMemory) (s : StateOf m) (r : Rest m) (w : told.Work m) (from : NodeId) (rid : ℕ) (y : Msg) (a : Reconf) →
      IfOk x (λ z. KeepsMoved m s.rids.next z (on_reconf m (client_of m s r) w (reconfs.fed a from rid y s.rids.next))) →
      Feeds x s r w from rid y (told.Reconfiguring a)
  reconf-fed x s r w from rid y a f k h =
      subst (λ (v : Moved m). IfOk x (λ z. KeepsMoved m s.rids.next z v)) (reconf-if (awaits (reconf_awaited a) from rid) s r w a from rid y h k.fit) f

  pub reconf_fed_as : (x : Result (MovedOf m) NoMemory) (s : StateOf m) (r : Rest m) (w : told.Work m) (from : NodeId) (rid : ℕ) (y : Msg) (t : TaskOf m) (a : Box Reconf) → t ≡ task.Reconf a →
      IfOk x (λ z. KeepsMoved m s.rids.next z (on_reconf m (client_of m s r) w (reconfs.fed a.value from rid y s.rids.next))) →
      Feeds x s r w from rid y (told_task m t)
  reconf_fed_as x s r w from rid y t a e f = feeds-by x s r w from rid y t (task.Reconf a) e (reconf-fed x s r w from rid y a.value f)

  -- What the machine in hand keeps.

  pub walk_kept : (s : StateOf m) (t : TaskOf m) (a : Walk) (os : List Oid) → t ≡ task.Walk a os → IsTaskKept m s (told_task m t) → WalksOn m s.known a
  walk_kept s t a os e h = (subst (λ (v : TaskOf m). IsTaskKept m s (told_task m v)) e h).fit

  pub copy_kept : (s : StateOf m) (t : TaskOf m) (a : Copying) → t ≡ task.Copy a → IsTaskKept m s (told_task m t) → HasStripe s.stand (spare_of a)
  copy_kept s t a e h = (subst (λ (v : TaskOf m). IsTaskKept m s (told_task m v)) e h).fit

  pub reconf_kept : (s : StateOf m) (t : TaskOf m) (a : Box Reconf) → t ≡ task.Reconf a → IsTaskKept m s (told_task m t) → AreDrawn s.rids.next a.value
  reconf_kept s t a e h = record { all = (subst (λ (v : TaskOf m). IsTaskKept m s (told_task m v)) e h).drawn }
