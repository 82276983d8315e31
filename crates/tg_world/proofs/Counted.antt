-- How many steps clients and servers have taken.
use Rattle.std.specs.Prelude.{◌≡◌, ℕ, zero, suc, ◌+◌, ◌<◌, ◌≤◌, Bool, true, false, List, [], ◌∷◌, length, map, slice_set, slice_index_or, refl}
use Rattle.std.proofs.Common.{sym, ap, subst, arith}
use Rattle.tg_base.specs.Clusters.{Header}
use Rattle.tg_base.specs.declared.ids.NodeId.{NodeId}
use Rattle.tg_base.specs.declared.ids.Role.{Role}
use Rattle.tg_base.specs.declared.ids.Role.TheVariants as role
use Rattle.tg_base.specs.declared.packet.Packet.{Packet}
use Rattle.tg_kind.specs.Meaning.{Meaning}
use Rattle.tg_protocol.specs.Clients.{Client, new_client}
use Rattle.tg_protocol.specs.Worlds as world
use Rattle.tg_protocol.specs.Worlds.{World}
use Rattle.tg_world_servers.specs.Servers as servers
use Rattle.tg_world_servers.specs.Servers.{ServersState, unit_takes, layout_takes, seqr_takes, seqr_ticks}
use Rattle.tg_client.specs.Kept.{Kept}
use Rattle.tg_world.specs.Clients.{KeepsClients, AreCounted, HaveRoom}
use Rattle.tg_world.specs.Kept.{KeptOf, KeepsWorld, IsWorld}

-- a move of a server counts no step by itself

takes_steps : (s : ServersState) (p : Packet) (r : Role) → (servers.takes s p r).steps ≡ s.steps
unfolding unit_takes layout_takes seqr_takes
takes_steps s p role.Unit = refl
takes_steps s p role.Layout = refl
takes_steps s p role.Seqr = refl
takes_steps s p role.Client = refl

pub taken_steps : (b : Bool) (s : ServersState) (p : Packet) → (servers.taken b s p).steps ≡ s.steps
taken_steps true s p = takes_steps s p p.to.role
taken_steps false s p = refl

ticks_steps : (s : ServersState) (n : ℕ) (r : Role) → (servers.ticks s n r).steps ≡ s.steps
unfolding seqr_ticks
ticks_steps s n role.Unit = refl
ticks_steps s n role.Layout = refl
ticks_steps s n role.Seqr = refl
ticks_steps s n role.Client = refl

pub ticked_steps : (b : Bool) (s : ServersState) (n : NodeId) → (servers.ticked b s n).steps ≡ s.steps
ticked_steps true s n = ticks_steps s n.num n.role
ticked_steps false s n = refl

module _ (m : Meaning) where
  -- a row of clients

  pub counted_more : (most high : ℕ) (cs : List (Client m)) → most ≤ high → AreCounted m most cs → AreCounted m high cs
  counted_more most high [] h k = k
  counted_more most high (c ∷ cs) h k = let l : c.calls ≤ most = k.0 in (omega (arith, h, l), counted_more most high cs h k.1)

  pub counted_set : (most : ℕ) (cs : List (Client m)) (n : ℕ) (c : Client m) → c.calls ≤ most → AreCounted m most cs → AreCounted m most (slice_set cs n c)
  counted_set most [] n c h k = k
  counted_set most (x ∷ cs) zero c h k = (h, k.1)
  counted_set most (x ∷ cs) (suc n) c h k = (k.0, counted_set most cs n c h k.1)

  counted_read : (most : ℕ) (cs : List (Client m)) (n : ℕ) (d : Client m) → d.calls ≤ most → AreCounted m most cs → (slice_index_or cs n d).calls ≤ most
  counted_read most [] n d h k = h
  counted_read most (c ∷ cs) zero d h k = k.0
  counted_read most (c ∷ cs) (suc n) d h k = counted_read most cs n d h k.1

  none_called : (h : Header) (n most : ℕ) → (new_client m h n).calls ≤ most
  unfolding new_client
  none_called h n most = omega arith

  pub new_counted : (h : Header) (most : ℕ) (ns : List ℕ) → AreCounted m most (map (new_client m h) ns)
  new_counted h most [] = tt
  new_counted h most (n ∷ ns) = (none_called h n most, new_counted h most ns)

  room_for : (ks : List (Kept m)) (cs : List (Client m)) (steps : ℕ) → KeepsClients m ks cs → AreCounted m steps cs → steps < 200000 → HaveRoom m ks
  room_for [] [] steps h k room = k
  room_for [] (c ∷ cs) steps h k room = absurd h
  room_for (x ∷ ks) [] steps h k room = absurd h
  room_for (x ∷ ks) (c ∷ cs) steps h k room =
      let same : c.calls ≡ x.state.calls = ap (λ (d : Client m). d.calls) h.0.kept.is in
      let few : c.calls ≤ steps = k.0 in
      (omega (arith, same, few, room), room_for ks cs steps h.1 k.1 room)

  room_at : (ks : List (Kept m)) (n : ℕ) (d : Kept m) → n < length ks → HaveRoom m ks → (slice_index_or ks n d).state.calls < 200000
  room_at [] n d h k = absurd (omega (arith, h))
  room_at (x ∷ ks) zero d h k = k.0
  room_at (x ∷ ks) (suc n) d h k = let l : n < length ks = omega (arith, h) in room_at ks n d l k.1

  -- of the client that was taken out
  pub room_there : (ks : List (Kept m)) (n : ℕ) (was : Kept m) → n < length ks → was ≡ slice_index_or ks n was → HaveRoom m ks → was.state.calls < 200000
  room_there ks n was h e k = subst (λ (x : Kept m). x.state.calls < 200000) (sym e) (room_at ks n was h k)

  -- a world that is kept

  -- a client has taken no more steps than it
  pub client_calls : (k : KeptOf m) (w : World m) (n : ℕ) → KeepsWorld m k w → (world.client m w n).calls ≤ k.servers.steps
  client_calls k w n h =
      let steps : k.servers.steps ≡ w.steps = ap (λ (v : World m). v.steps) h.same in
      let few : (world.client m w n).calls ≤ w.steps = counted_read w.steps w.clients n (new_client m w.cluster n) (none_called w.cluster n w.steps) h.counted in
      omega (arith, steps, few)

  -- nor have they later
  pub counted_later : (k : KeptOf m) (w : World m) (more : ℕ) → KeepsWorld m k w → k.servers.steps ≤ more → AreCounted m more w.clients
  counted_later k w more h le =
      let steps : k.servers.steps ≡ w.steps = ap (λ (v : World m). v.steps) h.same in
      let few : w.steps ≤ more = omega (arith, steps, le) in
      counted_more w.steps more w.clients few h.counted

  -- so each of its clients may take a step
  pub room_of : (j k : KeptOf m) → j ≡ k → IsWorld m k → k.servers.steps < 200000 → HaveRoom m j.clients
  room_of j k e h room = subst (λ (x : KeptOf m). HaveRoom m x.clients) (sym e) (room_for k.clients h.world.clients k.servers.steps h.keeps.clients (counted_later k h.world k.servers.steps h.keeps (omega arith)) room)
