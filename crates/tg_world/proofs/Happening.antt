-- Events of a kept world, by what the code tests; each may want memory.
use Rattle.std.specs.Prelude.{◌≡◌, ℕ, zero, suc, ◌<◌, Bool, true, false, ◌&&◌, List, [], ◌∷◌, length, slice_get, Option, Some, None, Result, IfOk, refl}
use Rattle.std.proofs.Common.{sym, ap, subst, ◌∙◌, arith}
use Rattle.tg_base.specs.declared.fault.NoMemory.{NoMemory}
use Rattle.tg_base.specs.declared.ids.NodeId.{NodeId}
use Rattle.tg_base.specs.declared.ids.Role.{Role}
use Rattle.tg_base.specs.declared.ids.Role.TheVariants as role
use Rattle.tg_base.specs.declared.packet.Packet.{Packet}
use Rattle.tg_kind.specs.Meaning.{Meaning}
use Rattle.tg_model.specs.Kinds.{CommandOf}
use Rattle.tg_model.specs.declared.command.Event.TheVariants.{Command as Commands, Deliver, Tick, Stop}
use Rattle.tg_protocol.specs.Words.{client_id}
use Rattle.tg_protocol.specs.Worlds as world
use Rattle.tg_protocol.specs.Worlds.{World, happens}
use Rattle.tg_world_servers.specs.Servers as servers
use Rattle.tg_world_servers.specs.Servers.{receiver_of}
use Rattle.tg_world.specs.Kept.{KeptOf, IsWhole, KeepsWorld}
use Rattle.tg_world.specs.Runs.{is_client, runs_client}
use Rattle.tg_world.proofs.Whole.{if_ok}
use Rattle.tg_world.proofs.Events.{command_by, deliver_server, deliver_client, tick_server, tick_client, stop_by, stop_on}

-- ---- clients that run

pub is_running : (s : servers.ServersState) (n : NodeId) (b : Bool) → b ≡ runs_client s n → b ≡ true → servers.runs s n ≡ true
is_running s n b e is = second (is_client n.role) (servers.runs s n) (sym e ∙ is)
  where
    second : (x y : Bool) → (x && y) ≡ true → y ≡ true
    second true y h = h
    second false y h = absurd cc

pub is_of_client : (s : servers.ServersState) (n : NodeId) (b : Bool) → b ≡ runs_client s n → b ≡ true → n.role ≡ role.Client
is_of_client s n b e is = by n.role (sym e ∙ is)
  where
    by : (r : Role) → (is_client r && servers.runs s n) ≡ true → r ≡ role.Client
    by role.Client h = refl
    by role.Unit h = let k : false ≡ true = h in absurd cc
    by role.Layout h = let k : false ≡ true = h in absurd cc
    by role.Seqr h = let k : false ≡ true = h in absurd cc

pub is_no_client : (s : servers.ServersState) (n : NodeId) (b : Bool) → b ≡ runs_client s n → b ≡ false → servers.runs s n ≡ true → n.role ≡ role.Client → ⊥
is_no_client s n b e off on is = by (sym off ∙ e ∙ (λ i. is_client (is i) && on i))
  where
    by : false ≡ true → ⊥
    by h = cc

-- a packet that was sent to a node
pub record Found (ps : List Packet) (i : ℕ) (n : NodeId) : Type 0 where
  pub packet : Packet
  pub at : slice_get ps i ≡ Some packet
  pub to : packet.to ≡ n

pub found : (ps : List Packet) (i : ℕ) (n : NodeId) → receiver_of (slice_get ps i) ≡ Some n → Found ps i n
found ps i n e = by (slice_get ps i) refl e
  where
    by : (o : Option Packet) → slice_get ps i ≡ o → receiver_of o ≡ Some n → Found ps i n
    by None t h = let k : None ≡ Some n = h in absurd cc
    by (Some p) t h = let k : Some p.to ≡ Some n = h in record { packet = p; at = t; to = cc }

pub sent_within : (ps : List Packet) (i : ℕ) (n : NodeId) → receiver_of (slice_get ps i) ≡ Some n → i < length ps
sent_within [] i n e = let k : None ≡ Some n = e in absurd cc
sent_within (p ∷ ps) zero n e = omega arith
sent_within (p ∷ ps) (suc i) n e = let l : i < length ps = sent_within ps i n e in omega (arith, l)

pub none_sent : (o : Option Packet) → receiver_of o ≡ None → o ≡ None
none_sent None e = refl
none_sent (Some p) e = let k : Some p.to ≡ None = e in absurd cc

module _ (m : Meaning) (k : KeptOf m) (w : World m) (whole : IsWhole k.servers k.clients k.told k.told_noted k.noted) (h : KeepsWorld m k w) (r : Result (KeptOf m) NoMemory) where
  pub commanded : (n : ℕ) (x : CommandOf m) → servers.runs k.servers (client_id n) ≡ true → IfOk r (λ l. KeepsWorld m l (world.counted m (world.commands m true w n x))) → IfOk r (λ l. KeepsWorld m l (happens m w (Commands n x)))
  commanded n x on q =
      if_ok (λ (l : KeptOf m). KeepsWorld m l (world.counted m (world.commands m true w n x))) (λ (l : KeptOf m). KeepsWorld m l (happens m w (Commands n x))) r (λ l g. command_by m k l w whole h n x true on g) q

  pub came_to_client : (i : ℕ) (n : NodeId) → receiver_of (slice_get k.servers.post.packets i) ≡ Some n → servers.runs k.servers n ≡ true → n.role ≡ role.Client
      → ((p : Packet) → slice_get k.servers.post.packets i ≡ Some p → p.to.num ≡ n.num → IfOk r (λ l. KeepsWorld m l (world.counted m (world.client_moves m (world.handed m w i) n.num p))))
      → IfOk r (λ l. KeepsWorld m l (happens m w (Deliver i)))
  came_to_client i n e on is q =
      let f : Found k.servers.post.packets i n = found k.servers.post.packets i n e in
      if_ok (λ (l : KeptOf m). KeepsWorld m l (world.counted m (world.client_moves m (world.handed m w i) n.num f.packet))) (λ (l : KeptOf m). KeepsWorld m l (happens m w (Deliver i))) r
      (λ l g. deliver_client m k l w whole h i f.packet f.at (ap (λ (x : NodeId). servers.runs k.servers x) f.to ∙ on) (ap (λ (x : NodeId). x.role) f.to ∙ is)
      (subst (λ (j : ℕ). KeepsWorld m l (world.counted m (world.client_moves m (world.handed m w i) j f.packet))) (sym (ap (λ (x : NodeId). x.num) f.to)) g))
      (q f.packet f.at (ap (λ (x : NodeId). x.num) f.to))

  pub came_to_server : (i : ℕ) (n : NodeId) → receiver_of (slice_get k.servers.post.packets i) ≡ Some n → (servers.runs k.servers n ≡ true → n.role ≡ role.Client → ⊥)
      → ((p : Packet) → slice_get k.servers.post.packets i ≡ Some p → IfOk r (λ l. l ≡ record k { servers = servers.counted (servers.taken (servers.runs k.servers p.to) (servers.hands k.servers i) p) }))
      → IfOk r (λ l. KeepsWorld m l (happens m w (Deliver i)))
  came_to_server i n e other q =
      let f : Found k.servers.post.packets i n = found k.servers.post.packets i n e in
      if_ok (λ (l : KeptOf m). l ≡ record k { servers = servers.counted (servers.taken (servers.runs k.servers f.packet.to) (servers.hands k.servers i) f.packet) }) (λ (l : KeptOf m). KeepsWorld m l (happens m w (Deliver i))) r
      (λ l g. deliver_server m k l w whole h i f.packet f.at (λ on is. other (sym (ap (λ (x : NodeId). servers.runs k.servers x) f.to) ∙ on) (sym (ap (λ (x : NodeId). x.role) f.to) ∙ is)) g)
      (q f.packet f.at)

  pub client_ticked : (n : NodeId) → servers.runs k.servers n ≡ true → n.role ≡ role.Client → IfOk r (λ l. KeepsWorld m l (world.counted m (world.ticks m w n.num role.Client))) → IfOk r (λ l. KeepsWorld m l (happens m w (Tick n)))
  client_ticked n on is q =
      if_ok (λ (l : KeptOf m). KeepsWorld m l (world.counted m (world.ticks m w n.num role.Client))) (λ (l : KeptOf m). KeepsWorld m l (happens m w (Tick n))) r (λ l g. tick_client m k l w whole h n on is g) q

  pub server_ticked : (n : NodeId) → (servers.runs k.servers n ≡ true → n.role ≡ role.Client → ⊥) → IfOk r (λ l. l ≡ record k { servers = servers.counted (servers.ticked (servers.runs k.servers n) k.servers n) })
      → IfOk r (λ l. KeepsWorld m l (happens m w (Tick n)))
  server_ticked n other q =
      if_ok (λ (l : KeptOf m). l ≡ record k { servers = servers.counted (servers.ticked (servers.runs k.servers n) k.servers n) }) (λ (l : KeptOf m). KeepsWorld m l (happens m w (Tick n))) r (λ l g. tick_server m k l w whole h n other g) q

  pub node_stopped : (n : NodeId) → servers.runs k.servers n ≡ true → IfOk r (λ l. l ≡ record k { servers = servers.counted (servers.stops k.servers n) }) → IfOk r (λ l. KeepsWorld m l (happens m w (Stop n)))
  node_stopped n on q =
      if_ok (λ (l : KeptOf m). l ≡ record k { servers = servers.counted (servers.stops k.servers n) }) (λ (l : KeptOf m). KeepsWorld m l (happens m w (Stop n))) r (λ l g. stop_by m k l w whole h n true on (stop_on m k l w whole h n g)) q

module _ (m : Meaning) (j k : KeptOf m) (same : j ≡ k) (i : ℕ) (o : Option NodeId) (is : o ≡ receiver_of (slice_get j.servers.post.packets i)) where
  -- the receiver, as the code reads it
  pub sent_to : (n : NodeId) → o ≡ Some n → receiver_of (slice_get k.servers.post.packets i) ≡ Some n
  sent_to n e = ap (λ (x : KeptOf m). receiver_of (slice_get x.servers.post.packets i)) (sym same) ∙ sym is ∙ e

  pub not_sent : o ≡ None → slice_get k.servers.post.packets i ≡ None
  not_sent e = none_sent (slice_get k.servers.post.packets i) (ap (λ (x : KeptOf m). receiver_of (slice_get x.servers.post.packets i)) (sym same) ∙ sym is ∙ e)

-- a packet that a server took
pub server_took : (m : Meaning) (j k : KeptOf m) (i : ℕ) (p : Packet) (a s : servers.ServersState) → j ≡ k → a ≡ servers.hands j.servers i
    → ((q : Packet) → slice_get a.post.packets i ≡ Some q → s ≡ servers.counted (servers.taken (servers.runs a q.to) a q)) → slice_get k.servers.post.packets i ≡ Some p
    → ◌≡◌ {A = KeptOf m} (record j { servers = s }) (record k { servers = servers.counted (servers.taken (servers.runs k.servers p.to) (servers.hands k.servers i) p) })
server_took m j k i p a s same e took at =
    let there : slice_get a.post.packets i ≡ Some p =
    ap (λ (x : servers.ServersState). slice_get x.post.packets i) e ∙ ap (λ (x : KeptOf m). slice_get x.servers.post.packets i) same ∙ at in
    ap (λ (x : servers.ServersState). record j { servers = x }) (took p there ∙ ap (λ (x : servers.ServersState). servers.counted (servers.taken (servers.runs x p.to) x p)) e)
    ∙ ap (λ (x : KeptOf m). record x { servers = servers.counted (servers.taken (servers.runs x.servers p.to) (servers.hands x.servers i) p) }) same
