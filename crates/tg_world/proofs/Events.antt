-- Events of a kept world.
use Rattle.std.specs.Prelude.{◌≡◌, ◌+◌, ◌≤◌, ℕ, Bool, true, slice_get, Option, Some, None, refl}
use Rattle.std.proofs.Common.{sym, ap, subst, ◌∙◌, arith}
use Rattle.tg_base.specs.declared.ids.NodeId.{NodeId}
use Rattle.tg_base.specs.declared.ids.Role.{Role}
use Rattle.tg_base.specs.declared.ids.Role.TheVariants as role
use Rattle.tg_base.specs.declared.packet.Packet.{Packet}
use Rattle.tg_kind.specs.Meaning.{Meaning}
use Rattle.tg_model.specs.declared.command.Event.TheVariants.{Command as Commands, Deliver, Lose, Tick, Stop}
use Rattle.tg_model.specs.Kinds.{CommandOf}
use Rattle.tg_protocol.specs.Words.{client_id}
use Rattle.tg_protocol.specs.Worlds as world
use Rattle.tg_protocol.specs.Worlds.{World, happens}
use Rattle.tg_world_servers.specs.Servers as servers
use Rattle.tg_world.specs.Kept.{KeptOf, IsWhole, KeepsWorld}
use Rattle.tg_world.proofs.Counted.{taken_steps, ticked_steps}
use Rattle.tg_world.proofs.Moves.{moved, runs_same, comes_same, ticked_same}

-- one step more
later : (a b : ℕ) → b ≡ a → a ≤ b + 1
later a b e = omega (arith, e)

module _ (m : Meaning) (k l : KeptOf m) (w : World m) (whole : IsWhole k.servers k.clients k.told k.told_noted k.noted) (h : KeepsWorld m k w) where
  -- whether a node runs
  pub runs_is : (n : NodeId) (b : Bool) → servers.runs k.servers n ≡ b → b ≡ world.runs m w n
  runs_is n b e = sym e ∙ runs_same m k w.clients whole h.clients n ∙ ap (λ (v : World m). world.runs m v n) h.same

  -- a step that does nothing but count
  pub idle_keeps : l ≡ record k { servers = servers.counted k.servers } → KeepsWorld m l (world.counted m w)
  idle_keeps e = subst (λ (j : KeptOf m). KeepsWorld m j (world.counted m w)) (sym e) (moved m k (record k { servers = servers.counted k.servers }) w (λ v. world.counted m v) h h.clients (omega arith) refl)

  -- ---- commands

  pub command_by : (n : ℕ) (x : CommandOf m) (b : Bool) → servers.runs k.servers (client_id n) ≡ b → KeepsWorld m l (world.counted m (world.commands m b w n x)) → KeepsWorld m l (happens m w (Commands n x))
  unfolding happens
  command_by n x b e g = subst (λ (c : Bool). KeepsWorld m l (world.counted m (world.commands m c w n x))) (runs_is (client_id n) b e) g

  -- ---- deliveries

  packet_is : (i : ℕ) (o : Option Packet) → slice_get k.servers.post.packets i ≡ o → o ≡ slice_get w.packets i
  packet_is i o e = sym e ∙ ap (λ (v : World m). slice_get v.packets i) h.same

  pub deliver_none : (i : ℕ) → slice_get k.servers.post.packets i ≡ None → KeepsWorld m l (world.counted m w) → KeepsWorld m l (happens m w (Deliver i))
  unfolding happens
  deliver_none i e g = subst (λ (o : Option Packet). KeepsWorld m l (world.counted m (world.delivers m w i o))) (packet_is i None e) g

  deliver_some : (i : ℕ) (p : Packet) → slice_get k.servers.post.packets i ≡ Some p → KeepsWorld m l (world.counted m (world.comes m (world.runs m w p.to) (world.handed m w i) p))
      → KeepsWorld m l (happens m w (Deliver i))
  unfolding happens
  deliver_some i p e g = subst (λ (o : Option Packet). KeepsWorld m l (world.counted m (world.delivers m w i o))) (packet_is i (Some p) e) g

  -- to a server, or to a node that doesn't run
  pub deliver_server : (i : ℕ) (p : Packet) → slice_get k.servers.post.packets i ≡ Some p → (servers.runs k.servers p.to ≡ true → p.to.role ≡ role.Client → ⊥)
      → l ≡ record k { servers = servers.counted (servers.taken (servers.runs k.servers p.to) (servers.hands k.servers i) p) } → KeepsWorld m l (happens m w (Deliver i))
  deliver_server i p e other is = deliver_some i p e (subst (λ (j : KeptOf m). KeepsWorld m j (world.counted m (world.comes m (world.runs m w p.to) (world.handed m w i) p))) (sym is) by)
    where
      by : KeepsWorld m (record k { servers = servers.counted (servers.taken (servers.runs k.servers p.to) (servers.hands k.servers i) p) }) (world.counted m (world.comes m (world.runs m w p.to) (world.handed m w i) p))
      by =
          subst (λ (b : Bool). KeepsWorld m (record k { servers = servers.counted (servers.taken (servers.runs k.servers p.to) (servers.hands k.servers i) p) }) (world.counted m (world.comes m b (world.handed m w i) p)))
          (runs_is p.to (servers.runs k.servers p.to) refl)
          (moved m k (record k { servers = servers.counted (servers.taken (servers.runs k.servers p.to) (servers.hands k.servers i) p) }) w
          (λ v. world.counted m (world.comes m (servers.runs k.servers p.to) (world.handed m v i) p)) h h.clients
          (later k.servers.steps (servers.taken (servers.runs k.servers p.to) (servers.hands k.servers i) p).steps (taken_steps (servers.runs k.servers p.to) (servers.hands k.servers i) p))
          (ap (λ (v : World m). world.counted m v) (comes_same m (record k { servers = servers.hands k.servers i }) w.clients p (servers.runs k.servers p.to) other)))

  -- to a client that runs
  pub deliver_client : (i : ℕ) (p : Packet) → slice_get k.servers.post.packets i ≡ Some p → servers.runs k.servers p.to ≡ true → p.to.role ≡ role.Client
      → KeepsWorld m l (world.counted m (world.client_moves m (world.handed m w i) p.to.num p)) → KeepsWorld m l (happens m w (Deliver i))
  deliver_client i p e on is g =
      deliver_some i p e
      (subst (λ (b : Bool). KeepsWorld m l (world.counted m (world.comes m b (world.handed m w i) p))) (runs_is p.to true on)
      (subst (λ (r : Role). KeepsWorld m l (world.counted m (world.moves m (world.handed m w i) p r))) (sym is) g))

  -- ---- losses

  pub lose_keeps : (i : ℕ) → l ≡ record k { servers = servers.counted (servers.loses k.servers i) } → KeepsWorld m l (happens m w (Lose i))
  unfolding happens
  lose_keeps i e =
      subst (λ (j : KeptOf m). KeepsWorld m j (world.counted m (world.effect m w (Lose i)))) (sym e)
      (moved m k (record k { servers = servers.counted (servers.loses k.servers i) }) w (λ v. world.counted m (world.effect m v (Lose i))) h h.clients (omega arith) refl)

  -- ---- ticks

  pub tick_server : (n : NodeId) → (servers.runs k.servers n ≡ true → n.role ≡ role.Client → ⊥)
      → l ≡ record k { servers = servers.counted (servers.ticked (servers.runs k.servers n) k.servers n) } → KeepsWorld m l (happens m w (Tick n))
  unfolding happens
  tick_server n other is =
      subst (λ (j : KeptOf m). KeepsWorld m j (world.counted m (world.effect m w (Tick n)))) (sym is)
      (subst (λ (b : Bool). KeepsWorld m (record k { servers = servers.counted (servers.ticked (servers.runs k.servers n) k.servers n) }) (world.counted m (world.ticks_if m b w n)))
      (runs_is n (servers.runs k.servers n) refl)
      (moved m k (record k { servers = servers.counted (servers.ticked (servers.runs k.servers n) k.servers n) }) w
      (λ v. world.counted m (world.ticks_if m (servers.runs k.servers n) v n)) h h.clients
      (later k.servers.steps (servers.ticked (servers.runs k.servers n) k.servers n).steps (ticked_steps (servers.runs k.servers n) k.servers n))
      (ap (λ (v : World m). world.counted m v) (ticked_same m k w.clients n (servers.runs k.servers n) other))))

  pub tick_client : (n : NodeId) → servers.runs k.servers n ≡ true → n.role ≡ role.Client → KeepsWorld m l (world.counted m (world.ticks m w n.num role.Client)) → KeepsWorld m l (happens m w (Tick n))
  unfolding happens
  tick_client n on is g =
      subst (λ (b : Bool). KeepsWorld m l (world.counted m (world.ticks_if m b w n))) (runs_is n true on)
      (subst (λ (r : Role). KeepsWorld m l (world.counted m (world.ticks m w n.num r))) (sym is) g)

  -- ---- stops

  pub stop_by : (n : NodeId) (b : Bool) → servers.runs k.servers n ≡ b → KeepsWorld m l (world.counted m (world.stops_if m b w n)) → KeepsWorld m l (happens m w (Stop n))
  unfolding happens
  stop_by n b e g = subst (λ (c : Bool). KeepsWorld m l (world.counted m (world.stops_if m c w n))) (runs_is n b e) g

  pub stop_on : (n : NodeId) → l ≡ record k { servers = servers.counted (servers.stops k.servers n) } → KeepsWorld m l (world.counted m (world.stops_if m true w n))
  stop_on n e =
      subst (λ (j : KeptOf m). KeepsWorld m j (world.counted m (world.stops_if m true w n))) (sym e)
      (moved m k (record k { servers = servers.counted (servers.stops k.servers n) }) w (λ v. world.counted m (world.stops_if m true v n)) h h.clients (omega arith) refl)
