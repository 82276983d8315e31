-- What a settling tells: a client that leaves what it has in hand has told how, and a reconfiguration is left as installed, overtaken or not whole.
use Rattle.std.proofs.Common.{◌≡◌, ◌⊎◌, ℕ, zero, suc, ◌+◌, ◌-◌, ◌<◌, List, [], ◌∷◌, ◌++◌, length, map, eqb, Bool, true, false, refl, ap, ◌∙◌, sym, subst, inl, inr, arith, Some, None, Option, append_assoc}
use Rattle.std.specs.Prelude.{slice_get, slice_set, slice_index_or}
use Rattle.tg_base.specs.declared.fault.Which.{Which}
use Rattle.tg_base.specs.declared.ids.NodeId.{NodeId}
use Rattle.tg_base.specs.declared.ids.Role.{Role}
use Rattle.tg_base.specs.declared.ids.Role.TheVariants as role
use Rattle.tg_base.specs.declared.packet.Packet.{Packet}
use Rattle.tg_kind.specs.Meaning.{Meaning}
use Rattle.tg_model.specs.declared.command.Event.TheVariants.{Deliver, Tick}
use Rattle.tg_model.specs.Kinds.{NoteOf, WhatOf}
use Rattle.tg_model.specs.declared.trace.What.TheVariants as told
use Rattle.tg_model.specs.declared.refusal.Refusal.TheVariants as cause
use Rattle.tg_base.specs.Layouts.{Layout}
use Rattle.tg_base.specs.declared.msg.Msg.{Msg}
use Rattle.tg_protocol.specs.Clients.{Client, Work, Task, Hand, Doing, Learning, Syncing, Walking, Appending, Trimming, Copying', Reconfiguring, new_client}
use Rattle.tg_protocol.specs.Reconfiguring.{Reconf, ReconfEnd, Installed, Overtaken, NotWhole, reconf_feed, reconf_latest}
use Rattle.tg_protocol.specs.Replies.{Reply, IsLatest, reply}
use Rattle.tg_protocol.specs.Requests.{Next, Goes, Learns, Ends}
use Rattle.tg_protocol.specs.Answers.{Moved}
use Rattle.tg_protocol.specs.ClientSteps.{ClientTurn, client_deliver, client_tick, tick_by, task_in, feed, reply_feed, hand_feed, fed_if, latest_if, on_newer, task_feed, after_turn, reconf_to}
use Rattle.tg_protocol.specs.Worlds.{World, Told, client, runs, mark_of, moves, comes, handed, delivers, ticks, ticks_if, unit_moves, layout_moves, seqr_moves, client_turned, happens, nodes, limit_of, Ran, drain_on, drain, tick_all, unless_stopped, rounds, settle, lowest, count_of}
use Rattle.tg_protocol.specs.Finishing.{HasReply, IsEnd}
use Rattle.tg_law_reconfs.specs.Reconfs.{ReconfEndsAreTold}
use Rattle.tg_law_layouts.proofs.Moves.Lists.{at_set, contained}
use Rattle.tg_law_layouts.proofs.Moves.Members.{Has, has_left, has_right}

module _ (m : Meaning) (k : ℕ) (InHand : Client m → Type 0) (Says : WhatOf m → Type 0) where
  -- the first note says so
  abbrev pub Saying : List (NoteOf m) → Type 0
  Saying [] = ⊥
  Saying (n ∷ ns) = Says n.what

  -- what the client has in hand stays there, or it says so
  pub record Rules : Type 0 where
    pub hears : (c : Client m) (from : NodeId) (rid : ℕ) (y : Msg) → InHand c → InHand (client_deliver m c from rid y).now ⊎ Saying (client_deliver m c from rid y).notes
    pub ticks : (c : Client m) → InHand c → InHand (client_tick m c).now

  -- a reply of the client
  pub record Replied (ts : List (Told m)) : Type 0 where
    pub told : Told m
    pub here : Has ts told
    pub client : told.mark.client ≡ k
    pub says : Says told.mark.what

  -- from one world to a later one: what was told stays, and what the client has in hand stays there, or it says so
  pub record R (w v : World m) : Type 0 where
    pub more : List (Told m)
    pub is : v.told ≡ w.told ++ more
    pub goes : InHand (client m w k) → InHand (client m v k) ⊎ Replied more

  nothing : {X : Type 0} → (xs : List X) → xs ≡ xs ++ []
  nothing [] = refl
  nothing (y ∷ xs) = ap (λ zs. y ∷ zs) (nothing xs)

  none : (w : World m) → R w w
  none w = record { more = []; is = nothing w.told; goes = λ h. inl h }

  -- the client and what was told are as before
  same : (w v : World m) → v.told ≡ w.told → client m v k ≡ client m w k → R w v
  same w v e f = record { more = []; is = e ∙ nothing w.told; goes = λ h. inl (subst (λ (c : Client m). InHand c) (sym f) h) }

  left : (a b : List (Told m)) → Replied a → Replied (a ++ b)
  left a b r = record { told = r.told; here = has_left a b r.told r.here; client = r.client; says = r.says }

  right : (a b : List (Told m)) → Replied b → Replied (a ++ b)
  right a b r = record { told = r.told; here = has_right a b r.told r.here; client = r.client; says = r.says }

  then : (w v u : World m) → R w v → R v u → R w u
  then w v u a b = record { more = a.more ++ b.more; is = b.is ∙ (ap (λ l. l ++ b.more) a.is ∙ append_assoc w.told a.more b.more); goes = λ h. on (a.goes h) }
    where
      later : InHand (client m u k) ⊎ Replied b.more → InHand (client m u k) ⊎ Replied (a.more ++ b.more)
      later (inl h) = inl h
      later (inr r) = inr (right a.more b.more r)

      on : InHand (client m v k) ⊎ Replied a.more → InHand (client m u k) ⊎ Replied (a.more ++ b.more)
      on (inl h) = later (b.goes h)
      on (inr r) = inr (left a.more b.more r)

  -- A client's turn.

  told_by : (w : World m) (n : ℕ) (ns : List (NoteOf m)) → Saying ns → k ≡ n → Replied (map (mark_of m w n) ns)
  told_by w n [] e i = absurd e
  told_by w n (y ∷ ns) e i = record { told = mark_of m w n y; here = inl refl; client = sym i; says = e }

  turned : (w : World m) (n : ℕ) (t : ClientTurn m) → n < length w.clients → (InHand (client m w n) → InHand t.now ⊎ (Saying t.notes)) → R w (client_turned m w n t)
  unfolding client_turned
  turned w n t less f = record { more = map (mark_of m w n) t.notes; is = refl; goes = λ h. by (slice_index_or (slice_set w.clients n t.now) k (new_client m w.cluster k)) (at_set w.clients n t.now (λ j. new_client m w.cluster j) Q less (λ g. now (f g)) (λ j off g. inl g) k h) }
    where
      Q : ℕ → Client m → Type 0
      Q j c = InHand (client m w j) → InHand c ⊎ ((j ≡ n) × (Saying t.notes))

      now : InHand t.now ⊎ (Saying t.notes) → InHand t.now ⊎ ((n ≡ n) × (Saying t.notes))
      now (inl h) = inl h
      now (inr e) = inr (refl, e)

      by : (c : Client m) → InHand c ⊎ ((k ≡ n) × (Saying t.notes)) → InHand c ⊎ Replied (map (mark_of m w n) t.notes)
      by c (inl h) = inl h
      by c (inr e) = inr (told_by w n t.notes e.1 e.0)

  module _ (rules : Rules) where
    -- Deliveries and ticks.

    on_long : (w : World m) (n : NodeId) → runs m w n ≡ true → n.num < count_of m w n.role
    on_long w n e = grind arith

    moved : (w : World m) (p : Packet) (r : Role) → p.to.role ≡ r → runs m w p.to ≡ true → R w (moves m w p r)
    unfolding unit_moves layout_moves seqr_moves
    moved w p role.Unit e on = same w _ refl refl
    moved w p role.Layout e on = same w _ refl refl
    moved w p role.Seqr e on = same w _ refl refl
    moved w p role.Client e on = turned w p.to.num _ (subst (λ r. p.to.num < count_of m w r) e (on_long w p.to on)) (λ h. rules.hears (client m w p.to.num) p.from p.rid p.msg h)

    coming : (w : World m) (i : ℕ) (p : Packet) (b : Bool) → runs m w p.to ≡ b → R w (comes m b (handed m w i) p)
    coming w i p false e = same w _ refl refl
    coming w i p true e = then w (handed m w i) _ (same w (handed m w i) refl refl) (moved (handed m w i) p p.to.role refl e)

    delivered : (w : World m) (i : ℕ) (o : Option Packet) → R w (delivers m w i o)
    delivered w i None = none w
    delivered w i (Some p) = coming w i p (runs m w p.to) refl

    counted : (w v : World m) → R w v → R w (record v { steps = v.steps + 1 })
    counted w v r = then w v _ r (same v _ refl refl)

    pub one_delivery : (w : World m) (i : ℕ) → R w (happens m w (Deliver i))
    unfolding happens
    one_delivery w i = counted w _ (delivered w i (slice_get w.packets i))

    ticked : (w : World m) (n : NodeId) (r : Role) → n.role ≡ r → runs m w n ≡ true → R w (ticks m w n.num r)
    ticked w n role.Unit e on = none w
    ticked w n role.Layout e on = none w
    ticked w n role.Seqr e on = same w _ refl refl
    ticked w n role.Client e on = turned w n.num _ (subst (λ r. n.num < count_of m w r) e (on_long w n on)) (λ h. inl (rules.ticks (client m w n.num) h))

    ticked_if : (w : World m) (n : NodeId) (b : Bool) → runs m w n ≡ b → R w (ticks_if m b w n)
    ticked_if w n false e = none w
    ticked_if w n true e = ticked w n n.role refl e

    pub one_tick : (w : World m) (n : NodeId) → R w (happens m w (Tick n))
    unfolding happens
    one_tick w n = counted w _ (ticked_if w n (runs m w n) refl)

    -- A settling.

    by_limit : (w : World m) (next : Ran m) (o : Option Which) → R w next.world → R w (elim o as (λ _. Ran m) [ Some x ↦ record { world = w; stopped = Some x } | None ↦ next ]).world
    by_limit w next None h = h
    by_limit w next (Some x) h = none w

    by_lowest : (n : ℕ) (w : World m) (o : Option ℕ) → ((i : ℕ) → R (happens m w (Deliver i)) (drain_on m n (happens m w (Deliver i))).world) → R w (elim o as (λ _. Ran m) [
      | None ↦ record { world = w; stopped = None }
      | Some i ↦ elim (limit_of m w) as (λ _. Ran m) [ Some x ↦ record { world = w; stopped = Some x } | None ↦ drain_on m n (happens m w (Deliver i)) ]
    ]).world
    by_lowest n w None h = none w
    by_lowest n w (Some i) h = by_limit w (drain_on m n (happens m w (Deliver i))) (limit_of m w) (then w _ _ (one_delivery w i) (h i))

    drains : (n : ℕ) (w : World m) → R w (drain_on m n w).world
    unfolding drain_on
    drains zero w = none w
    drains (suc n) w = by_lowest n w (lowest m w.waiting) (λ i. drains n (happens m w (Deliver i)))

    drain_reaches : (w : World m) → R w (drain m w).world
    unfolding drain
    drain_reaches w = drains (200001 - w.steps) w

    if_runs : (n : NodeId) (ns : List NodeId) (w : World m) (b : Bool) → ((v : World m) → R v (tick_all m ns v).world) → R w (elim b as (λ _. Ran m) [
      | false ↦ tick_all m ns w
      | true ↦ elim (limit_of m w) as (λ _. Ran m) [ Some x ↦ record { world = w; stopped = Some x } | None ↦ tick_all m ns (happens m w (Tick n)) ]
    ]).world
    if_runs n ns w false h = h w
    if_runs n ns w true h = by_limit w (tick_all m ns (happens m w (Tick n))) (limit_of m w) (then w _ _ (one_tick w n) (h (happens m w (Tick n))))

    all_ticked : (ns : List NodeId) (w : World m) → R w (tick_all m ns w).world
    unfolding tick_all
    all_ticked [] w = none w
    all_ticked (n ∷ ns) w = if_runs n ns w (runs m w n) (λ v. all_ticked ns v)

    unless : (w : World m) (r : Ran m) (f : World m → Ran m) → R w r.world → ((v : World m) → R v (f v).world) → R w (unless_stopped m r f).world
    unless w r f a b = by r.stopped
      where
        by : (o : Option Which) → R w (elim o as (λ _. Ran m) [ Some x ↦ r | None ↦ f r.world ]).world
        by (Some x) = a
        by None = then w _ _ a (b r.world)

    abbrev after_ticks : ℕ → World m → Bool → Ran m
    after_ticks n v b = elim b as (λ _. Ran m) [ true ↦ drain m v | false ↦ unless_stopped m (drain m v) (λ u. rounds m n u) ]

    round_on : (n : ℕ) (v : World m) (b : Bool) → ((u : World m) → R u (rounds m n u).world) → R v (after_ticks n v b).world
    round_on n v true h = drain_reaches v
    round_on n v false h = unless v (drain m v) (λ u. rounds m n u) (drain_reaches v) h

    pub round : (n : ℕ) (w : World m) → R w (rounds m n w).world
    unfolding rounds
    round zero w = none w
    round (suc n) w = unless w (tick_all m (nodes m w) w) (λ v. after_ticks n v (eqb (length v.packets) (length w.packets))) (all_ticked (nodes m w) w) (λ v. round_on n v (eqb (length v.packets) (length w.packets)) (λ u. round n u))

    settles : (w : World m) → R w (settle m w).world
    unfolding settle
    settles w = unless w (drain m w) (λ v. rounds m 8 v) (drain_reaches w) (λ v. round 8 v)

    -- where it ends the command, the client has replied
    pub settle_replies : (w : World m) → InHand (client m w k) → (InHand (client m (settle m w).world k) → ⊥) → HasReply m w (settle m w).world k Says
    settle_replies w h idle = by (r.goes h)
      where
        r : R w (settle m w).world
        r = settles w

        by : InHand (client m (settle m w).world k) ⊎ Replied r.more → HasReply m w (settle m w).world k Says
        by (inl g) = absurd (idle g)
        by (inr y) = record { replies = r.more; are = r.is; told = y.told; here = contained r.more y.told y.here; client = y.client; holds = y.says }

-- Of a client with a reconfiguration in hand.
module _ (m : Meaning) (ReconfIs : Reconf → Type 0) (Says : WhatOf m → Type 0) where
  abbrev pub end_what : ReconfEnd → WhatOf m
  end_what (Installed e p) = told.Installed e
  end_what (Overtaken e p) = told.Refused (cause.Overtaken e)
  end_what (NotWhole u pos p) = told.Refused (cause.NotWhole u pos)

  abbrev pub NextIs : Next Reconf ReconfEnd → Type 0
  NextIs (Goes r) = ReconfIs r
  NextIs (Learns r) = ReconfIs r
  NextIs (Ends e) = Says (end_what e)

  -- its answers keep it so, or it ends so
  pub record Stays : Type 0 where
    pub feeds : (r : Reconf) (n rid : ℕ) (x : Reply) (next : ℕ) → ReconfIs r → NextIs (reconf_feed r r.work n rid x next).to
    pub latest : (r : Reconf) (n rid : ℕ) (q : Layout) (next : ℕ) → ReconfIs r → NextIs (reconf_latest r r.work n rid q next).to

  abbrev pub TaskIs : Task m → Type 0
  TaskIs (Reconfiguring r) = ReconfIs r
  TaskIs t = ⊥

  abbrev pub WorkIs : Option (Work m) → Type 0
  WorkIs None = ⊥
  WorkIs (Some w) = TaskIs (task_in m w.hand)

  abbrev pub Reconfs : Client m → Type 0
  Reconfs c = WorkIs c.work

  module _ (k : ℕ) (stays : Stays) where
    abbrev Kept : Moved m → Type 0
    Kept x = Reconfs x.now ⊎ Saying m k Reconfs Says x.notes

    to_kept : (c : Client m) (w : Work m) (to : Next Reconf ReconfEnd) → NextIs to → Kept (reconf_to m c w to)
    to_kept c w (Goes r) h = inl h
    to_kept c w (Learns r) h = inl h
    to_kept c w (Ends (Installed e p)) h = inr h
    to_kept c w (Ends (Overtaken e p)) h = inr h
    to_kept c w (Ends (NotWhole u pos p)) h = inr h

    task_kept : (c : Client m) (w : Work m) (t : Task m) (n rid : ℕ) (x : Reply) → TaskIs t → Kept (task_feed m c w t n rid x)
    unfolding task_feed
    task_kept c w (Reconfiguring r) n rid x h = to_kept (after_turn m c (reconf_feed r r.work n rid x c.next)) w (reconf_feed r r.work n rid x c.next).to (stays.feeds r n rid x c.next h)
    task_kept c w (Syncing s) n rid x h = absurd h
    task_kept c w (Walking y os) n rid x h = absurd h
    task_kept c w (Appending a y) n rid x h = absurd h
    task_kept c w (Trimming t) n rid x h = absurd h
    task_kept c w (Copying' y) n rid x h = absurd h

    newer_kept : (c : Client m) (w : Work m) (t : Task m) (n rid : ℕ) (q : Layout) → TaskIs t → Kept (on_newer m c w t n rid q)
    newer_kept c w (Reconfiguring r) n rid q h = to_kept (after_turn m c (reconf_latest r r.work n rid q c.next)) w (reconf_latest r r.work n rid q c.next).to (stays.latest r n rid q c.next h)
    newer_kept c w (Syncing s) n rid q h = absurd h
    newer_kept c w (Walking y os) n rid q h = absurd h
    newer_kept c w (Appending a y) n rid q h = absurd h
    newer_kept c w (Trimming t) n rid q h = absurd h
    newer_kept c w (Copying' y) n rid q h = absurd h

    fed_kept : (b : Bool) (c : Client m) (w : Work m) (t : Task m) (from : NodeId) (rid : ℕ) (x : Reply) → Reconfs c → TaskIs t → Kept (fed_if m b c w t from rid x)
    fed_kept true c w t from rid x h g = task_kept c w t from.num rid x g
    fed_kept false c w t from rid x h g = inl h

    hand_kept : (c : Client m) (w : Work m) (d : Hand m) (from : NodeId) (rid : ℕ) (x : Reply) → Reconfs c → TaskIs (task_in m d) → Kept (hand_feed m c w d from rid x)
    hand_kept c w (Doing t) from rid x h g = fed_kept _ c w t from rid x h g
    hand_kept c w (Learning ws t) from rid x h g = inl h

    latest_kept : (b : Bool) (c : Client m) (w : Work m) (from : NodeId) (rid : ℕ) (q : Layout) → Reconfs c → TaskIs (task_in m w.hand) → Kept (latest_if m b c w from rid q)
    latest_kept true c w from rid q h g = newer_kept c w (task_in m w.hand) from.num rid q g
    latest_kept false c w from rid q h g = inl h

    reply_kept : (c : Client m) (w : Work m) (from : NodeId) (rid : ℕ) (x : Reply) → Reconfs c → TaskIs (task_in m w.hand) → Kept (reply_feed m c w from rid x)
    reply_kept c w from rid (IsLatest q) h g = latest_kept _ c w from rid q h g
    reply_kept c w from rid x h g = hand_kept c w w.hand from rid x h g

    feed_kept : (c : Client m) (o : Option (Work m)) (from : NodeId) (rid : ℕ) (x : Reply) → Reconfs c → WorkIs o → Kept (feed m c o from rid x)
    feed_kept c None from rid x h g = absurd g
    feed_kept c (Some w) from rid x h g = reply_kept c w from rid x h g

    tick_kept : (c : Client m) (o : Option (Work m)) → WorkIs o → WorkIs c.work → Reconfs (tick_by m c o).now
    tick_kept c None g h = h
    tick_kept c (Some w) g h = h

    rules : Rules m k Reconfs Says
    unfolding client_deliver client_tick
    rules = record { hears = λ c from rid y h. feed_kept c c.work from rid (reply y) h h; ticks = λ c h. tick_kept c c.work h h }

    -- where a settling ends it the client has said so
    pub settle_says : (w : World m) → Reconfs (client m w k) → (client m (settle m w).world k).work ≡ None → HasReply m w (settle m w).world k Says
    settle_says w h idle = settle_replies m k Reconfs Says rules w h (λ g. subst WorkIs idle g)

any_stays : (m : Meaning) → Stays m (λ r. Unit {0}) (IsEnd m)
any_stays m = record { feeds = λ r n rid x next h. ends _; latest = λ r n rid q next h. ends _ }
  where
    ends : (to : Next Reconf ReconfEnd) → NextIs m (λ r. Unit {0}) (IsEnd m) to
    ends (Goes r) = tt
    ends (Learns r) = tt
    ends (Ends (Installed e p)) = tt
    ends (Ends (Overtaken e p)) = tt
    ends (Ends (NotWhole u pos p)) = tt

pub reconf_ends_are_told : (m : Meaning) → ReconfEndsAreTold m
reconf_ends_are_told m w k a idle = settle_says m (λ r. Unit {0}) (IsEnd m) k (any_stays m) w
    (subst (λ (o : Option (Work m)). WorkIs m (λ r. Unit {0}) (IsEnd m) o) (sym a.waits) (subst (λ (t : Task m). TaskIs m (λ r. Unit {0}) (IsEnd m) t) (sym a.hand) tt)) idle
