-- What deliveries and ticks keep of a client and of what was told, a drain and a settling keep.
use Rattle.std.proofs.Common.{◌≡◌, ℕ, zero, suc, ◌+◌, ◌-◌, ◌<◌, List, [], ◌∷◌, length, eqb, Bool, true, false, refl, subst, arith, Some, None, Option}
use Rattle.std.specs.Prelude.{slice_get}
use Rattle.tg_base.specs.declared.fault.Which.{Which}
use Rattle.tg_base.specs.declared.ids.NodeId.{NodeId}
use Rattle.tg_base.specs.declared.ids.Role.{Role}
use Rattle.tg_base.specs.declared.ids.Role.TheVariants as role
use Rattle.tg_base.specs.declared.packet.Packet.{Packet}
use Rattle.tg_kind.specs.Meaning.{Meaning}
use Rattle.tg_model.specs.declared.command.Event.TheVariants.{Deliver, Tick}
use Rattle.tg_protocol.specs.ClientSteps.{client_deliver, client_tick}
use Rattle.tg_protocol.specs.Worlds.{World, client, runs, moves, comes, handed, delivers, ticks, ticks_if, unit_moves, layout_moves, seqr_moves, client_turned, happens, nodes, limit_of, Ran, drain_on, drain, tick_all, unless_stopped, rounds, settle, lowest, count_of}

module _ (m : Meaning) (R : World m → World m → Type 0) where
  -- a relation of worlds that clients' turns keep, and that looks at nothing but clients and what was told
  pub record Kept : Type 0 where
    pub same : (w v : World m) → v.told ≡ w.told → ((k : ℕ) → client m v k ≡ client m w k) → R w v
    pub then : (w v u : World m) → R w v → R v u → R w u
    pub delivered : (w : World m) (n : ℕ) (p : Packet) → n < length w.clients → R w (client_turned m w n (client_deliver m (client m w n) p.from p.rid p.msg))
    pub ticked : (w : World m) (n : ℕ) → n < length w.clients → R w (client_turned m w n (client_tick m (client m w n)))

  module _ (kept : Kept) where
    none : (w : World m) → R w w
    none w = kept.same w w refl (λ k. refl)

    on_long : (w : World m) (n : NodeId) → runs m w n ≡ true → n.num < count_of m w n.role
    on_long w n e = grind arith

    moved : (w : World m) (p : Packet) (r : Role) → p.to.role ≡ r → runs m w p.to ≡ true → R w (moves m w p r)
    unfolding unit_moves layout_moves seqr_moves
    moved w p role.Unit e on = kept.same w _ refl (λ k. refl)
    moved w p role.Layout e on = kept.same w _ refl (λ k. refl)
    moved w p role.Seqr e on = kept.same w _ refl (λ k. refl)
    moved w p role.Client e on = kept.delivered w p.to.num p (subst (λ r. p.to.num < count_of m w r) e (on_long w p.to on))

    coming : (w : World m) (i : ℕ) (p : Packet) (b : Bool) → runs m w p.to ≡ b → R w (comes m b (handed m w i) p)
    coming w i p false e = kept.same w _ refl (λ k. refl)
    coming w i p true e = kept.then w (handed m w i) _ (kept.same w (handed m w i) refl (λ k. refl)) (moved (handed m w i) p p.to.role refl e)

    delivered : (w : World m) (i : ℕ) (o : Option Packet) → R w (delivers m w i o)
    delivered w i None = none w
    delivered w i (Some p) = coming w i p (runs m w p.to) refl

    counted : (w v : World m) → R w v → R w (record v { steps = v.steps + 1 })
    counted w v r = kept.then w v _ r (kept.same v _ refl (λ k. refl))

    one_delivery : (w : World m) (i : ℕ) → R w (happens m w (Deliver i))
    unfolding happens
    one_delivery w i = counted w _ (delivered w i (slice_get w.packets i))

    ticked : (w : World m) (n : NodeId) (r : Role) → n.role ≡ r → runs m w n ≡ true → R w (ticks m w n.num r)
    ticked w n role.Unit e on = none w
    ticked w n role.Layout e on = none w
    ticked w n role.Seqr e on = kept.same w _ refl (λ k. refl)
    ticked w n role.Client e on = kept.ticked w n.num (subst (λ r. n.num < count_of m w r) e (on_long w n on))

    ticked_if : (w : World m) (n : NodeId) (b : Bool) → runs m w n ≡ b → R w (ticks_if m b w n)
    ticked_if w n false e = none w
    ticked_if w n true e = ticked w n n.role refl e

    one_tick : (w : World m) (n : NodeId) → R w (happens m w (Tick n))
    unfolding happens
    one_tick w n = counted w _ (ticked_if w n (runs m w n) refl)

    -- A drain.

    by_limit : (w : World m) (next : Ran m) (o : Option Which) → R w next.world → R w (elim o as (λ _. Ran m) [ Some x ↦ record { world = w; stopped = Some x } | None ↦ next ]).world
    by_limit w next None h = h
    by_limit w next (Some x) h = none w

    by_lowest : (n : ℕ) (w : World m) (o : Option ℕ) → ((i : ℕ) → R (happens m w (Deliver i)) (drain_on m n (happens m w (Deliver i))).world) → R w (elim o as (λ _. Ran m) [
      | None ↦ record { world = w; stopped = None }
      | Some i ↦ elim (limit_of m w) as (λ _. Ran m) [ Some x ↦ record { world = w; stopped = Some x } | None ↦ drain_on m n (happens m w (Deliver i)) ]
    ]).world
    by_lowest n w None h = none w
    by_lowest n w (Some i) h = by_limit w (drain_on m n (happens m w (Deliver i))) (limit_of m w) (kept.then w _ _ (one_delivery w i) (h i))

    drains : (n : ℕ) (w : World m) → R w (drain_on m n w).world
    unfolding drain_on
    drains zero w = none w
    drains (suc n) w = by_lowest n w (lowest m w.waiting) (λ i. drains n (happens m w (Deliver i)))

    pub drain_keeps : (w : World m) → R w (drain m w).world
    unfolding drain
    drain_keeps w = drains (200001 - w.steps) w

    -- A settling.

    if_runs : (n : NodeId) (ns : List NodeId) (w : World m) (b : Bool) → ((v : World m) → R v (tick_all m ns v).world) → R w (elim b as (λ _. Ran m) [
      | false ↦ tick_all m ns w
      | true ↦ elim (limit_of m w) as (λ _. Ran m) [ Some x ↦ record { world = w; stopped = Some x } | None ↦ tick_all m ns (happens m w (Tick n)) ]
    ]).world
    if_runs n ns w false h = h w
    if_runs n ns w true h = by_limit w (tick_all m ns (happens m w (Tick n))) (limit_of m w) (kept.then w _ _ (one_tick w n) (h (happens m w (Tick n))))

    all_ticked : (ns : List NodeId) (w : World m) → R w (tick_all m ns w).world
    unfolding tick_all
    all_ticked [] w = none w
    all_ticked (n ∷ ns) w = if_runs n ns w (runs m w n) (λ v. all_ticked ns v)

    unless : (w : World m) (r : Ran m) (f : World m → Ran m) → R w r.world → ((v : World m) → R v (f v).world) → R w (unless_stopped m r f).world
    unless w r f a b = by r.stopped
      where
        by : (o : Option Which) → R w (elim o as (λ _. Ran m) [ Some x ↦ r | None ↦ f r.world ]).world
        by (Some x) = a
        by None = kept.then w _ _ a (b r.world)

    abbrev after_ticks : ℕ → World m → Bool → Ran m
    after_ticks n v b = elim b as (λ _. Ran m) [ true ↦ drain m v | false ↦ unless_stopped m (drain m v) (λ u. rounds m n u) ]

    round_on : (n : ℕ) (v : World m) (b : Bool) → ((u : World m) → R u (rounds m n u).world) → R v (after_ticks n v b).world
    round_on n v true h = drain_keeps v
    round_on n v false h = unless v (drain m v) (λ u. rounds m n u) (drain_keeps v) h

    round : (n : ℕ) (w : World m) → R w (rounds m n w).world
    unfolding rounds
    round zero w = none w
    round (suc n) w = unless w (tick_all m (nodes m w) w) (λ v. after_ticks n v (eqb (length v.packets) (length w.packets))) (all_ticked (nodes m w) w) (λ v. round_on n v (eqb (length v.packets) (length w.packets)) (λ u. round n u))

    -- of a settling, what comes after its first drain
    pub rest_keeps : (w : World m) → R (drain m w).world (settle m w).world
    unfolding settle
    rest_keeps w = by (drain m w).stopped
      where
        by : (o : Option Which) → R (drain m w).world (elim o as (λ _. Ran m) [ Some x ↦ drain m w | None ↦ rounds m 8 (drain m w).world ]).world
        by (Some x) = none (drain m w).world
        by None = round 8 (drain m w).world

    pub settle_keeps : (w : World m) → R w (settle m w).world
    settle_keeps w = kept.then w (drain m w).world (settle m w).world (drain_keeps w) (rest_keeps w)
