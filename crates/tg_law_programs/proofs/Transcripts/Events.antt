-- Of a world's steps none changes the number of its event, and each line raises it by one.
use Rattle.std.proofs.Common.{◌≡◌, ℕ, zero, suc, ◌+◌, ◌-◌, ◌≤◌, List, [], ◌∷◌, length, eqb, Bool, true, false, refl, ◌∙◌, Some, None, Option, arith}
use Rattle.std.specs.Prelude.{slice_get, is_some}
use Rattle.tg_base.specs.declared.fault.Which.{Which}
use Rattle.tg_base.specs.declared.ids.NodeId.{NodeId}
use Rattle.tg_base.specs.declared.ids.Oid.{Oid}
use Rattle.tg_base.specs.declared.ids.Role.{Role}
use Rattle.tg_base.specs.declared.ids.Role.TheVariants as role
use Rattle.tg_base.specs.declared.packet.Packet.{Packet}
use Rattle.tg_kind.specs.Meaning.{Meaning}
use Rattle.tg_model.specs.declared.command.Command.TheVariants as cmd
use Rattle.tg_model.specs.declared.command.Event.TheVariants.{Command as Commands, Deliver, Lose, Tick, Stop}
use Rattle.tg_model.specs.Kinds.{CommandOf, EventOf}
use Rattle.tg_protocol.specs.Clients.{Client}
use Rattle.tg_protocol.specs.Words.{client_id}
use Rattle.tg_protocol.specs.Worlds.{World, client, Ran, drain_on, drain, tick_all, nodes, unless_stopped, rounds, settle, limit_of, happens, lowest, runs, handed, noted_if, client_turned, unit_moves, layout_moves, seqr_moves, moves, comes, delivers, commands, ticks, ticks_if, stops_if}
use Rattle.tg_world.specs.Runs.{happens_by, happens_on, puts_on, updates_on}
use Rattle.tg_any.specs.AllKinds.{all_kinds}
use Rattle.tg_script.specs.declared.line.Line.{Line}
use Rattle.tg_script.specs.declared.line.Line.TheVariants as line
use Rattle.tg_replay.specs.Runs.{Worlds, line_in, line_on, lines_on}

module _ (m : Meaning) where
  noted_event : (b : Bool) (w : World m) (k : ℕ) (c : Client m) → (noted_if m b w k c).event ≡ w.event
  noted_event true w k c = refl
  noted_event false w k c = refl

  commands_event : (b : Bool) (w : World m) (k : ℕ) (x : CommandOf m) → (commands m b w k x).event ≡ w.event
  unfolding client_turned
  commands_event true w k x = noted_event (is_some (client m w k).work) w k (client m w k)
  commands_event false w k x = refl

  moves_event : (w : World m) (p : Packet) (r : Role) → (moves m w p r).event ≡ w.event
  unfolding unit_moves layout_moves seqr_moves client_turned
  moves_event w p role.Unit = refl
  moves_event w p role.Layout = refl
  moves_event w p role.Seqr = refl
  moves_event w p role.Client = refl

  comes_event : (b : Bool) (w : World m) (p : Packet) → (comes m b w p).event ≡ w.event
  comes_event true w p = moves_event w p p.to.role
  comes_event false w p = refl

  delivers_event : (w : World m) (i : ℕ) (o : Option Packet) → (delivers m w i o).event ≡ w.event
  delivers_event w i None = refl
  delivers_event w i (Some p) = comes_event (runs m w p.to) (handed m w i) p

  ticks_event : (w : World m) (n : ℕ) (r : Role) → (ticks m w n r).event ≡ w.event
  unfolding client_turned
  ticks_event w n role.Unit = refl
  ticks_event w n role.Layout = refl
  ticks_event w n role.Seqr = refl
  ticks_event w n role.Client = refl

  ticks_if_event : (b : Bool) (w : World m) (n : NodeId) → (ticks_if m b w n).event ≡ w.event
  ticks_if_event true w n = ticks_event w n.num n.role
  ticks_if_event false w n = refl

  stops_event : (b : Bool) (w : World m) (n : NodeId) → (stops_if m b w n).event ≡ w.event
  stops_event true w n = refl
  stops_event false w n = refl

  pub happens_event : (w : World m) (e : EventOf m) → (happens m w e).event ≡ w.event
  unfolding happens
  happens_event w (Commands k x) = commands_event (runs m w (client_id k)) w k x
  happens_event w (Deliver i) = delivers_event w i (slice_get w.packets i)
  happens_event w (Lose i) = refl
  happens_event w (Tick n) = ticks_if_event (runs m w n) w n
  happens_event w (Stop n) = stops_event (runs m w n) w n

  -- Drains, rounds of ticks, and updates.

  limited : (w : World m) (next : Ran m) (o : Option Which) → next.world.event ≡ w.event
      → (elim o as (λ _. Ran m) [ Some x ↦ record { world = w; stopped = Some x } | None ↦ next ]).world.event ≡ w.event
  limited w next None e = e
  limited w next (Some x) e = refl

  by_lowest : (n : ℕ) (w : World m) (o : Option ℕ) → ((v : World m) → (drain_on m n v).world.event ≡ v.event) → (elim o as (λ _. Ran m) [
    | None ↦ record { world = w; stopped = None }
    | Some i ↦ elim (limit_of m w) as (λ _. Ran m) [ Some x ↦ record { world = w; stopped = Some x } | None ↦ drain_on m n (happens m w (Deliver i)) ]
  ]).world.event ≡ w.event
  by_lowest n w None f = refl
  by_lowest n w (Some i) f = limited w (drain_on m n (happens m w (Deliver i))) (limit_of m w) (f (happens m w (Deliver i)) ∙ happens_event w (Deliver i))

  drains : (n : ℕ) (w : World m) → (drain_on m n w).world.event ≡ w.event
  unfolding drain_on
  drains zero w = refl
  drains (suc n) w = by_lowest n w (lowest m w.waiting) (λ v. drains n v)

  drain_event : (w : World m) → (drain m w).world.event ≡ w.event
  unfolding drain
  drain_event w = drains (200001 - w.steps) w

  unless : (w : World m) (r : Ran m) (f : World m → Ran m) → r.world.event ≡ w.event → ((v : World m) → (f v).world.event ≡ v.event) → (unless_stopped m r f).world.event ≡ w.event
  unless w r f a b = by r.stopped
    where
      by : (o : Option Which) → (elim o as (λ _. Ran m) [ Some x ↦ r | None ↦ f r.world ]).world.event ≡ w.event
      by (Some x) = a
      by None = b r.world ∙ a

  if_runs : (n : NodeId) (ns : List NodeId) (w : World m) (b : Bool) → ((v : World m) → (tick_all m ns v).world.event ≡ v.event) → (elim b as (λ _. Ran m) [
    | false ↦ tick_all m ns w
    | true ↦ elim (limit_of m w) as (λ _. Ran m) [ Some x ↦ record { world = w; stopped = Some x } | None ↦ tick_all m ns (happens m w (Tick n)) ]
  ]).world.event ≡ w.event
  if_runs n ns w false f = f w
  if_runs n ns w true f = limited w (tick_all m ns (happens m w (Tick n))) (limit_of m w) (f (happens m w (Tick n)) ∙ happens_event w (Tick n))

  tick_event : (ns : List NodeId) (w : World m) → (tick_all m ns w).world.event ≡ w.event
  unfolding tick_all
  tick_event [] w = refl
  tick_event (n ∷ ns) w = if_runs n ns w (runs m w n) (λ v. tick_event ns v)

  abbrev after_ticks : ℕ → World m → Bool → Ran m
  after_ticks n v b = elim b as (λ _. Ran m) [ true ↦ drain m v | false ↦ unless_stopped m (drain m v) (λ u. rounds m n u) ]

  round_on : (n : ℕ) (v : World m) (b : Bool) → ((u : World m) → (rounds m n u).world.event ≡ u.event) → (after_ticks n v b).world.event ≡ v.event
  round_on n v true f = drain_event v
  round_on n v false f = unless v (drain m v) (λ u. rounds m n u) (drain_event v) f

  round : (n : ℕ) (w : World m) → (rounds m n w).world.event ≡ w.event
  unfolding rounds
  round zero w = refl
  round (suc n) w = unless w (tick_all m (nodes m w) w) (λ v. after_ticks n v (eqb (length v.packets) (length w.packets))) (tick_event (nodes m w) w)
      (λ v. round_on n v (eqb (length v.packets) (length w.packets)) (λ u. round n u))

  settle_event : (w : World m) → (settle m w).world.event ≡ w.event
  unfolding settle
  settle_event w = unless w (drain m w) (λ v. rounds m 8 v) (drain_event w) (λ v. round 8 v)

  by_limit : (w : World m) (e : EventOf m) (o : Option Which) → (happens_by m o w e).world.event ≡ w.event
  by_limit w e None = happens_event w e
  by_limit w e (Some x) = refl

  on_event : (w : World m) (e : EventOf m) → (happens_on m w e).world.event ≡ w.event
  on_event w e = by_limit w e (limit_of m w)

  update_event : (w : World m) (k : ℕ) (o : Oid) (op : m.op) → (updates_on m w k o op).world.event ≡ w.event
  update_event w k o op =
      unless w (happens_on m w (Commands k cmd.Begin)) (λ v. puts_on m v k o op) (on_event w (Commands k cmd.Begin))
      (λ v. unless v (happens_on m v (Commands k (cmd.Put o op))) (λ u. happens_on m u (Commands k cmd.End)) (on_event v (Commands k (cmd.Put o op)))
      (λ u. on_event u (Commands k cmd.End)))

in_line : (w : Worlds) (l : Line) → (line_in w l).world.event ≡ w.event
in_line w (line.Event e) = on_event all_kinds w e
in_line w (line.Update k oid op) = update_event all_kinds w k oid op
in_line w line.Drain = drain_event all_kinds w
in_line w line.Settle = settle_event all_kinds w

-- so many lines at most
few_or : (l : Line) (ls : List Line) (w : Worlds) (o : Option Which) → ((v : Worlds) → (lines_on ls v).world.event ≤ v.event + length ls)
    → (elim o as (λ _. Ran all_kinds) [ Some x ↦ line_on w l | None ↦ lines_on ls (line_on w l).world ]).world.event ≤ w.event + length (l ∷ ls)
few_or l ls w (Some x) f = let a = in_line (record w { event = w.event + 1 }) l in omega (arith, a)
few_or l ls w None f = let a = in_line (record w { event = w.event + 1 }) l in let b = f (line_on w l).world in omega (arith, a, b)

pub few_events : (ls : List Line) (w : Worlds) → (lines_on ls w).world.event ≤ w.event + length ls
unfolding lines_on
few_events [] w = omega arith
few_events (l ∷ ls) w = few_or l ls w (line_on w l).stopped (λ v. few_events ls v)
