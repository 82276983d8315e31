-- A step keeps as many nodes as the header declares, and no more packets than bytes, since each packet has its bytes.
use Rattle.std.proofs.Common.{◌≡◌, ◌∙◌, ℕ, zero, suc, ◌+◌, ◌<◌, ◌≤◌, ◌^◌, Bool, true, false, List, [], ◌∷◌, ◌++◌, map, length, Option, Some, None, refl, ap, arith}
use Rattle.std.specs.Prelude.{slice_get, slice_set, is_some}
use Rattle.std.proofs.lemmas.List.{length-append, length-map, length-replicate}
use Rattle.tg_base.specs.Clusters.{Header}
use Rattle.tg_base.specs.declared.fault.Which.{Which}
use Rattle.tg_base.specs.declared.ids.NodeId.{NodeId}
use Rattle.tg_base.specs.declared.ids.Oid.{Oid}
use Rattle.tg_base.specs.declared.ids.Role.{Role}
use Rattle.tg_base.specs.declared.ids.Role.TheVariants as role
use Rattle.tg_base.specs.declared.packet.Packet.{Packet}
use Rattle.tg_kind.specs.Meaning.{Meaning}
use Rattle.tg_model.specs.Kinds.{EventOf, CommandOf}
use Rattle.tg_model.specs.declared.command.Command.TheVariants as cmd
use Rattle.tg_model.specs.declared.command.Event.TheVariants as event
use Rattle.tg_protocol.specs.Words.{client_id, numbers}
use Rattle.tg_protocol.specs.Entries.{sum_of}
use Rattle.tg_protocol.specs.Sizes.{packet_size}
use Rattle.tg_protocol.specs.Clients.{Client}
use Rattle.tg_protocol.specs.ClientSteps.{ClientTurn}
use Rattle.tg_protocol.specs.Sequencers.{SeqrTurn}
use Rattle.tg_protocol.specs.Worlds.{World, Ran, start, next_event, happens, effect, limit_of, runs, client, commands, noted_if, delivers, comes, moves, ticks, ticks_if, stops_if, unit_moves, layout_moves, seqr_moves, seqr_turned, client_turned, handed, unless_stopped}
use Rattle.tg_any.specs.AllKinds.{all_kinds}
use Rattle.tg_script.specs.declared.line.Line.{Line}
use Rattle.tg_script.specs.declared.line.Line.TheVariants as line
use Rattle.tg_world.specs.Runs.{happens_by, happens_on, puts_on, updates_on}
use Rattle.tg_replay.specs.Runs.{Worlds, line_on}
use Rattle.tg_live.specs.Lives.{is_steps}

length_set : {X : Type 0} (xs : List X) (i : ℕ) (y : X) → length (slice_set xs i y) ≡ length xs
length_set [] i y = refl
length_set (x ∷ xs) zero y = refl
length_set (x ∷ xs) (suc i) y = ap suc (length_set xs i y)

length_numbers : (n first : ℕ) → length (numbers n first) ≡ n
length_numbers zero first = refl
length_numbers (suc n) first = ap suc (length_numbers n (first + 1))

packets_in : (ps : List Packet) → length ps ≤ sum_of (map packet_size ps)
packets_in [] = omega arith
packets_in (p ∷ ps) = omega (arith, packets_in ps)

more_sent : (ps qs : List Packet) (bytes : ℕ) → length ps ≤ bytes → length (ps ++ qs) ≤ bytes + sum_of (map packet_size qs)
more_sent ps qs bytes few = omega (arith, length-append ps qs, packets_in qs, few)

-- so many nodes of each role, packets and bytes
pub record AreCounts (h : Header) (units layouts seqrs clients packets bytes : ℕ) : Type 0 where
  pub all_units : units ≡ h.units
  pub all_layouts : layouts ≡ h.layouts
  pub all_seqrs : seqrs ≡ h.seqs
  pub all_clients : clients ≡ h.clients
  pub few : packets ≤ bytes

module _ (m : Meaning) (h : Header) where
  abbrev pub Stands : World m → Type 0
  Stands w = AreCounts h (length w.units) (length w.layouts) (length w.seqrs) (length w.clients) (length w.packets) w.bytes

  seqr_stands : (w : World m) (n : ℕ) (t : SeqrTurn) → Stands w → Stands (seqr_turned m w n t)
  seqr_stands w n t s = record { all_units = s.all_units; all_layouts = s.all_layouts; all_seqrs = length_set w.seqrs n t.now ∙ s.all_seqrs; all_clients = s.all_clients; few = more_sent w.packets _ w.bytes s.few }

  client_stands : (w : World m) (n : ℕ) (t : ClientTurn m) → Stands w → Stands (client_turned m w n t)
  unfolding client_turned
  client_stands w n t s = record { all_units = s.all_units; all_layouts = s.all_layouts; all_seqrs = s.all_seqrs; all_clients = length_set w.clients n t.now ∙ s.all_clients; few = more_sent w.packets _ w.bytes s.few }

  moves_stand : (w : World m) (p : Packet) (r : Role) → Stands w → Stands (moves m w p r)
  unfolding unit_moves layout_moves seqr_moves
  moves_stand w p role.Unit s = record { all_units = length_set w.units p.to.num _ ∙ s.all_units; all_layouts = s.all_layouts; all_seqrs = s.all_seqrs; all_clients = s.all_clients; few = more_sent w.packets _ w.bytes s.few }
  moves_stand w p role.Layout s = record { all_units = s.all_units; all_layouts = length_set w.layouts p.to.num _ ∙ s.all_layouts; all_seqrs = s.all_seqrs; all_clients = s.all_clients; few = more_sent w.packets _ w.bytes s.few }
  moves_stand w p role.Seqr s = seqr_stands w p.to.num _ s
  moves_stand w p role.Client s = client_stands w p.to.num _ s

  comes_stand : (b : Bool) (w : World m) (i : ℕ) (p : Packet) → Stands w → Stands (comes m b (handed m w i) p)
  comes_stand true w i p s = moves_stand (handed m w i) p p.to.role s
  comes_stand false w i p s = s

  delivers_stand : (w : World m) (i : ℕ) (o : Option Packet) → Stands w → Stands (delivers m w i o)
  delivers_stand w i None s = s
  delivers_stand w i (Some p) s = comes_stand (runs m w p.to) w i p s

  given_stands : (b : Bool) (w : World m) (k : ℕ) (c : Client m) (t : ClientTurn m) → Stands w → Stands (client_turned m (noted_if m b w k c) k t)
  given_stands true w k c t s = client_stands w k t s
  given_stands false w k c t s = client_stands (noted_if m false w k c) k t s

  commands_stand : (b : Bool) (w : World m) (k : ℕ) (x : CommandOf m) → Stands w → Stands (commands m b w k x)
  commands_stand true w k x s = given_stands (is_some (client m w k).work) w k (client m w k) _ s
  commands_stand false w k x s = s

  ticks_stand : (w : World m) (n : ℕ) (r : Role) → Stands w → Stands (ticks m w n r)
  ticks_stand w n role.Unit s = s
  ticks_stand w n role.Layout s = s
  ticks_stand w n role.Seqr s = seqr_stands w n _ s
  ticks_stand w n role.Client s = client_stands w n _ s

  ticks_if_stand : (b : Bool) (w : World m) (n : NodeId) → Stands w → Stands (ticks_if m b w n)
  ticks_if_stand true w n s = ticks_stand w n.num n.role s
  ticks_if_stand false w n s = s

  stops_stand : (b : Bool) (w : World m) (n : NodeId) → Stands w → Stands (stops_if m b w n)
  stops_stand true w n s = s
  stops_stand false w n s = s

  effect_stands : (w : World m) (e : EventOf m) → Stands w → Stands (effect m w e)
  effect_stands w (event.Command k x) s = commands_stand (runs m w (client_id k)) w k x s
  effect_stands w (event.Deliver i) s = delivers_stand w i (slice_get w.packets i) s
  effect_stands w (event.Lose i) s = s
  effect_stands w (event.Tick n) s = ticks_if_stand (runs m w n) w n s
  effect_stands w (event.Stop n) s = stops_stand (runs m w n) w n s

  happens_stands : (w : World m) (e : EventOf m) → Stands w → Stands (happens m w e)
  unfolding happens
  happens_stands w e s = effect_stands w e s

  by_stands : (o : Option Which) (w : World m) (e : EventOf m) → Stands w → Stands (happens_by m o w e).world
  by_stands (Some x) w e s = s
  by_stands None w e s = happens_stands w e s

  on_stands : (w : World m) (e : EventOf m) → Stands w → Stands (happens_on m w e).world
  on_stands w e s = by_stands (limit_of m w) w e s

  unless_stands : (r : Ran m) (f : World m → Ran m) → Stands r.world → ((w : World m) → Stands w → Stands (f w).world) → Stands (unless_stopped m r f).world
  unless_stands r f s g = at r.stopped
    where
      at : (o : Option Which) → Stands (elim o as (λ _. Ran m) [ Some x ↦ r | None ↦ f r.world ]).world
      at (Some x) = s
      at None = g r.world s

  puts_stand : (w : World m) (k : ℕ) (o : Oid) (op : m.op) → Stands w → Stands (puts_on m w k o op).world
  puts_stand w k o op s = unless_stands (happens_on m w (event.Command k (cmd.Put o op))) (λ v. happens_on m v (event.Command k cmd.End)) (on_stands w (event.Command k (cmd.Put o op)) s) (λ v t. on_stands v (event.Command k cmd.End) t)

  updates_stand : (w : World m) (k : ℕ) (o : Oid) (op : m.op) → Stands w → Stands (updates_on m w k o op).world
  updates_stand w k o op s = unless_stands (happens_on m w (event.Command k cmd.Begin)) (λ v. puts_on m v k o op) (on_stands w (event.Command k cmd.Begin) s) (λ v t. puts_stand v k o op t)

  pub starts : Stands (start m h)
  unfolding start
  starts = record {
    all_units = length-replicate h.units _;
    all_layouts = length-replicate h.layouts _;
    all_seqrs = length-map (numbers h.seqs 0) _ ∙ length_numbers h.seqs 0;
    all_clients = length-map (numbers h.clients 0) _ ∙ length_numbers h.clients 0;
    few = omega arith;
  }

  bytes_below : (w : World m) → limit_of m w ≡ None → w.bytes < 2 ^ 28
  unfolding limit_of
  bytes_below w free = grind arith

  -- below the limit of bytes there are fewer packets than that
  pub packets_below : (w : World m) → Stands w → limit_of m w ≡ None → length w.packets < 2 ^ 28
  packets_below w s free = omega (arith, s.few, bytes_below w free)

-- ---- lines

pub line_stands : (h : Header) (w : Worlds) (l : Line) → is_steps l ≡ true → Stands all_kinds h w → Stands all_kinds h (line_on w l).world
line_stands h w (line.Event e) k s = on_stands all_kinds h (next_event all_kinds w) e s
line_stands h w (line.Update c o op) k s = updates_stand all_kinds h (next_event all_kinds w) c o op s
line_stands h w line.Drain k s = absurd cc
line_stands h w line.Settle k s = absurd cc
