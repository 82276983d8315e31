-- What clients of a run have counted.
use Rattle.std.proofs.Common.{◌≡◌, ℕ, ◌+◌, ◌<◌, [], ◌∷◌, length, Bool, true, false, refl, sym, ap, subst, arith, Some, None, Option}
use Rattle.std.specs.Prelude.{slice_get, is_some}
use Rattle.tg_base.specs.Clusters.{Header}
use Rattle.tg_base.specs.declared.ids.NodeId.{NodeId}
use Rattle.tg_base.specs.declared.ids.Role.{Role}
use Rattle.tg_base.specs.declared.ids.Role.TheVariants as role
use Rattle.tg_base.specs.declared.packet.Packet.{Packet}
use Rattle.tg_kind.specs.Meaning.{Meaning}
use Rattle.tg_model.specs.Kinds.{CommandOf, EventOf}
use Rattle.tg_model.specs.declared.command.Event.TheVariants.{Command as Commands, Deliver, Lose, Tick, Stop}
use Rattle.tg_protocol.specs.Words.{client_id, numbers}
use Rattle.tg_protocol.specs.Clients.{Client, new_client}
use Rattle.tg_protocol.specs.ClientSteps.{ClientTurn}
use Rattle.tg_protocol.specs.Worlds.{World, client, start, handed, next_event, moves, comes, delivers, runs, unit_moves, layout_moves, seqr_moves, client_turned, noted_if, commands, ticks, ticks_if, stops_if, happens}
use Rattle.tg_protocol.specs.Runs.{Moves, Next, Takes, Always, run}
use Rattle.tg_law_layouts.specs.Moves.After.{after}
use Rattle.tg_law_layouts.specs.Moves.Configs.{Config, config, client_in}
use Rattle.tg_law_layouts.proofs.Moves.Always.{always}
use Rattle.tg_law_layouts.proofs.Moves.Lists.{at_map, at_set}
use Rattle.tg_law_layouts.proofs.Moves.Moves.{Cases, step_cases, client_turn, ClientInput, Commanded, Hears', Ticks'}
use Rattle.tg_law_numbers.specs.Counts.{CountsOne}
use Rattle.tg_law_numbers.proofs.Counting.{all_count_one}
use Rattle.tg_law_sizes.specs.Counts.{IsCounted, CountsStayLow}

-- Over worlds.
module _ (m : Meaning) where
  -- Each event is one step.

  noted_steps : (b : Bool) (w : World m) (k : ℕ) (c : Client m) → (noted_if m b w k c).steps ≡ w.steps
  noted_steps true w k c = refl
  noted_steps false w k c = refl

  commands_steps : (b : Bool) (w : World m) (k : ℕ) (x : CommandOf m) → (commands m b w k x).steps ≡ w.steps
  unfolding client_turned
  commands_steps true w k x = noted_steps (is_some (client m w k).work) w k (client m w k)
  commands_steps false w k x = refl

  moves_steps : (w : World m) (p : Packet) (r : Role) → (moves m w p r).steps ≡ w.steps
  unfolding unit_moves layout_moves seqr_moves client_turned
  moves_steps w p role.Unit = refl
  moves_steps w p role.Layout = refl
  moves_steps w p role.Seqr = refl
  moves_steps w p role.Client = refl

  comes_steps : (b : Bool) (w : World m) (p : Packet) → (comes m b w p).steps ≡ w.steps
  comes_steps true w p = moves_steps w p p.to.role
  comes_steps false w p = refl

  delivers_steps : (w : World m) (i : ℕ) (o : Option Packet) → (delivers m w i o).steps ≡ w.steps
  delivers_steps w i None = refl
  delivers_steps w i (Some p) = comes_steps (runs m w p.to) (handed m w i) p

  ticks_steps : (w : World m) (n : ℕ) (r : Role) → (ticks m w n r).steps ≡ w.steps
  unfolding client_turned
  ticks_steps w n role.Unit = refl
  ticks_steps w n role.Layout = refl
  ticks_steps w n role.Seqr = refl
  ticks_steps w n role.Client = refl

  ticks_if_steps : (b : Bool) (w : World m) (n : NodeId) → (ticks_if m b w n).steps ≡ w.steps
  ticks_if_steps true w n = ticks_steps w n.num n.role
  ticks_if_steps false w n = refl

  stops_steps : (b : Bool) (w : World m) (n : NodeId) → (stops_if m b w n).steps ≡ w.steps
  stops_steps true w n = refl
  stops_steps false w n = refl

  happens_steps : (w : World m) (e : EventOf m) → (happens m w e).steps ≡ w.steps + 1
  unfolding happens
  happens_steps w (Commands k x) = ap (λ (n : ℕ). n + 1) (commands_steps (runs m w (client_id k)) w k x)
  happens_steps w (Deliver i) = ap (λ (n : ℕ). n + 1) (delivers_steps w i (slice_get w.packets i))
  happens_steps w (Lose i) = refl
  happens_steps w (Tick n) = ap (λ (k : ℕ). k + 1) (ticks_if_steps (runs m w n) w n)
  happens_steps w (Stop n) = ap (λ (k : ℕ). k + 1) (stops_steps (runs m w n) w n)

  -- Each client's counts.

  abbrev AllCounted : ℕ → Config m → Type 0
  AllCounted n c = (k : ℕ) → IsCounted m n (client_in m c k)

  later : (n : ℕ) (c : Client m) → IsCounted m n c → IsCounted m (n + 1) c
  later n c h = record { calls = (let a = h.calls in omega (arith, a)); begun = h.begun; decisions = h.decisions; checkpoints = h.checkpoints }

  steps_on : (n : ℕ) (c d : Client m) → IsCounted m n c → CountsOne m c d → IsCounted m (n + 1) d
  steps_on n c d h g = record {
    calls = (let a = h.calls in let e = g.calls in omega (arith, a, e));
    begun = (let a = h.begun in let b = g.begun in let e = g.calls in omega (arith, a, b, e));
    decisions = (let a = h.decisions in let b = g.decisions in let e = g.calls in omega (arith, a, b, e));
    checkpoints = (let a = h.checkpoints in let b = g.checkpoints in let e = g.calls in omega (arith, a, b, e));
  }

  input_counts : (c : Config m) (k : ℕ) (t : ClientTurn m) → ClientInput m c k t → CountsOne m (client_in m c k) t.now
  input_counts c k _ (Commanded x) = (all_count_one m (client_in m c k)).command x
  input_counts c k _ (Hears' p comes) = (all_count_one m (client_in m c k)).deliver p.from p.rid p.msg
  input_counts c k _ Ticks' = (all_count_one m (client_in m c k)).tick

  turn_counted : (n : ℕ) (c : Config m) → AllCounted n c → (k : ℕ) (t : ClientTurn m) → ClientInput m c k t → k < length c.clients → AllCounted (n + 1) (client_turn m c k t)
  turn_counted n c h k t i less = at_set c.clients k t.now (λ v. new_client m c.cluster v) (λ v d. IsCounted m (n + 1) d) less (steps_on n (client_in m c k) t.now (h k) (input_counts c k t i)) (λ v other. later n (client_in m c v) (h v))

  step_counted : (n : ℕ) (c : Config m) → AllCounted n c → Cases m c (AllCounted (n + 1))
  step_counted n c h = record {
    idle = λ k. later n (client_in m c k) (h k);
    unit = λ u p a less k. later n (client_in m c k) (h k);
    layout = λ l p a less k. later n (client_in m c k) (h k);
    seqr = λ s t i less k. later n (client_in m c k) (h k);
    client = λ k t i less. turn_counted n c h k t i less;
  }

  happens_counted : (w : World m) (e : EventOf m) → AllCounted w.steps (config m w) → AllCounted (happens m w e).steps (config m (happens m w e))
  happens_counted w e h = subst (λ (n : ℕ). AllCounted n (config m (happens m w e))) (sym (happens_steps w e)) (step_cases m w (AllCounted (w.steps + 1)) (step_counted w.steps (config m w) h) e)

  run_counted : (ms : Moves m) (w : World m) → AllCounted w.steps (config m w) → AllCounted (run m ms w).steps (config m (run m ms w))
  unfolding run
  run_counted [] w h = h
  run_counted (Next ∷ ms) w h = run_counted ms (next_event m w) h
  run_counted (Takes e ∷ ms) w h = run_counted ms (happens m w e) (happens_counted w e h)

  new_counted : (h : Header) (k : ℕ) → IsCounted m 0 (new_client m h k)
  unfolding new_client
  new_counted h k = record { calls = omega arith; begun = omega arith; decisions = omega arith; checkpoints = omega arith }

  start_counted : (h : Header) → AllCounted (start m h).steps (config m (start m h))
  unfolding start
  start_counted h k = at_map (new_client m h) (numbers h.clients 0) k (new_client m h k) (λ (c : Client m). IsCounted m 0 c) (λ j. new_counted h j) (new_counted h k)

  low_after : (h : Header) (ms : Moves m) → CountsStayLow m (after m h ms)
  low_after h ms = run_counted ms (start m h) (start_counted h)

  pub counts_stay_low : Always m (CountsStayLow m)
  counts_stay_low = always m (CountsStayLow m) low_after
