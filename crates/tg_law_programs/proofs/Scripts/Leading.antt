-- The worlds to which the steps of lines lead, by lawful moves and within the limit of steps.
use Rattle.std.proofs.Common.{◌≡◌, ℕ, zero, suc, ◌+◌, ◌-◌, ◌<◌, ◌≤◌, List, [], ◌∷◌, ◌++◌, length, eqb, Bool, true, false, refl, ap, ◌∙◌, sym, subst, Some, None, Option, inl, inr, ⊎_elim, arith}
use Rattle.std.specs.Prelude.{slice_get, is_some}
use Rattle.std.proofs.lemmas.List.{length-map, length-replicate}
use Rattle.tg_base.specs.Clusters.{Header}
use Rattle.tg_base.specs.declared.fault.Which.{Which}
use Rattle.tg_base.specs.declared.ids.NodeId.{NodeId}
use Rattle.tg_base.specs.declared.ids.Oid.{Oid}
use Rattle.tg_base.specs.declared.ids.Role.{Role}
use Rattle.tg_base.specs.declared.ids.Role.TheVariants as role
use Rattle.tg_base.specs.declared.packet.Packet.{Packet}
use Rattle.tg_kind.specs.Meaning.{Meaning}
use Rattle.tg_model.specs.declared.command.Command.TheVariants as cmd
use Rattle.tg_model.specs.declared.command.Event.TheVariants.{Command as Commands, Deliver, Lose, Tick, Stop}
use Rattle.tg_model.specs.Kinds.{CommandOf, EventOf}
use Rattle.tg_protocol.specs.Clients.{Client}
use Rattle.tg_protocol.specs.Words.{client_id, numbers}
use Rattle.tg_protocol.specs.Worlds.{World, start, client, Ran, drain_on, drain, tick_all, nodes, unless_stopped, rounds, settle, limit_of, happens, lowest, runs, count_of, next_event, handed, noted_if, client_turned, unit_moves, layout_moves, seqr_moves, moves, comes, delivers, commands, ticks, ticks_if, stops_if}
use Rattle.tg_protocol.specs.Runs.{Move, Moves, Next, Takes, LawfulCommand, LawfulEvent, LawfulMove, IsDeclared, declared_of, run}
use Rattle.tg_world.specs.Runs.{happens_by, happens_on, puts_on, updates_on}
use Rattle.tg_law_layouts.specs.Moves.Configs.{Config, config}
use Rattle.tg_law_layouts.proofs.Moves.Members.{Has, has_either, set_long}
use Rattle.tg_law_layouts.proofs.Moves.Moves.{Keeps, run_keeps}
use Rattle.tg_law_layouts.proofs.Moves.Reconfs.{numbers_long}
use Rattle.tg_law_layouts.proofs.Moves.Scripts.{run_both}

module _ (m : Meaning) where
  -- Steps are counted.

  noted_steps : (b : Bool) (w : World m) (k : ℕ) (c : Client m) → (noted_if m b w k c).steps ≡ w.steps
  noted_steps true w k c = refl
  noted_steps false w k c = refl

  commands_steps : (b : Bool) (w : World m) (k : ℕ) (x : CommandOf m) → (commands m b w k x).steps ≡ w.steps
  unfolding client_turned
  commands_steps true w k x = noted_steps (is_some (client m w k).work) w k (client m w k)
  commands_steps false w k x = refl

  moves_steps : (w : World m) (p : Packet) (r : Role) → (moves m w p r).steps ≡ w.steps
  unfolding unit_moves layout_moves seqr_moves client_turned
  moves_steps w p role.Unit = refl
  moves_steps w p role.Layout = refl
  moves_steps w p role.Seqr = refl
  moves_steps w p role.Client = refl

  comes_steps : (b : Bool) (w : World m) (p : Packet) → (comes m b w p).steps ≡ w.steps
  comes_steps true w p = moves_steps w p p.to.role
  comes_steps false w p = refl

  delivers_steps : (w : World m) (i : ℕ) (o : Option Packet) → (delivers m w i o).steps ≡ w.steps
  delivers_steps w i None = refl
  delivers_steps w i (Some p) = comes_steps (runs m w p.to) (handed m w i) p

  ticks_steps : (w : World m) (n : ℕ) (r : Role) → (ticks m w n r).steps ≡ w.steps
  unfolding client_turned
  ticks_steps w n role.Unit = refl
  ticks_steps w n role.Layout = refl
  ticks_steps w n role.Seqr = refl
  ticks_steps w n role.Client = refl

  ticks_if_steps : (b : Bool) (w : World m) (n : NodeId) → (ticks_if m b w n).steps ≡ w.steps
  ticks_if_steps true w n = ticks_steps w n.num n.role
  ticks_if_steps false w n = refl

  stops_steps : (b : Bool) (w : World m) (n : NodeId) → (stops_if m b w n).steps ≡ w.steps
  stops_steps true w n = refl
  stops_steps false w n = refl

  happens_steps : (w : World m) (e : EventOf m) → (happens m w e).steps ≡ w.steps + 1
  unfolding happens
  happens_steps w (Commands k x) = ap (λ (n : ℕ). n + 1) (commands_steps (runs m w (client_id k)) w k x)
  happens_steps w (Deliver i) = ap (λ (n : ℕ). n + 1) (delivers_steps w i (slice_get w.packets i))
  happens_steps w (Lose i) = refl
  happens_steps w (Tick n) = ap (λ (n : ℕ). n + 1) (ticks_if_steps (runs m w n) w n)
  happens_steps w (Stop n) = ap (λ (n : ℕ). n + 1) (stops_steps (runs m w n) w n)

  -- no limit is reached before 200,000 steps
  below_limit : (w : World m) → limit_of m w ≡ None → w.steps < 200000
  unfolding limit_of
  below_limit w e = grind arith

  -- Nodes stay as many as the header declares.

  pub record IsSized (h : Header) (c : Config m) : Type 0 where
    pub units : length c.units ≡ h.units
    pub layouts : length c.layouts ≡ h.layouts
    pub seqrs : length c.seqrs ≡ h.seqs
    pub clients : length c.clients ≡ h.clients

  sizes_stay : (h : Header) → Keeps m (IsSized h)
  sizes_stay h c s = record {
    idle = s;
    unit = λ u p a less. record { units = set_long c.units u _ ∙ s.units; layouts = s.layouts; seqrs = s.seqrs; clients = s.clients };
    layout = λ l p a less. record { units = s.units; layouts = set_long c.layouts l _ ∙ s.layouts; seqrs = s.seqrs; clients = s.clients };
    seqr = λ k t i less. record { units = s.units; layouts = s.layouts; seqrs = set_long c.seqrs k _ ∙ s.seqrs; clients = s.clients };
    client = λ k t i less. record { units = s.units; layouts = s.layouts; seqrs = s.seqrs; clients = set_long c.clients k _ ∙ s.clients };
  }

  module _ (h : Header) where
    -- a world of the header's cluster that is within the limit of steps
    pub record Stands (w : World m) : Type 0 where
      pub sized : IsSized h (config m w)
      pub few : w.steps ≤ 200000

    pub starts : Stands (start m h)
    unfolding start
    starts = record {
      sized = record { units = length-replicate h.units _; layouts = length-replicate h.layouts _; seqrs = length-map (numbers h.seqs 0) _ ∙ numbers_long h.seqs 0; clients = length-map (numbers h.clients 0) _ ∙ numbers_long h.clients 0 };
      few = omega arith;
    }

    -- lawful moves lead from one world to the other, which is within the limit of steps
    pub record Leads (w v : World m) : Type 0 where
      pub by : Moves m
      pub lawful : (x : Move m) → Has by x → LawfulMove m h x
      pub is : v ≡ run m by w
      pub few : v.steps ≤ 200000

    pub stands_on : (w v : World m) → Stands w → Leads w v → Stands v
    stands_on w v s l = record {
      sized = subst (λ (u : World m). IsSized h (config m u)) (sym l.is) (run_keeps m (IsSized h) (sizes_stay h) l.by w s.sized);
      few = l.few;
    }

    pub stays : (w : World m) → Stands w → Leads w w
    unfolding run
    stays w s = record { by = []; lawful = λ x i. absurd i; is = refl; few = s.few }

    one_move : (x y : Move m) → LawfulMove m h x → Has (x ∷ []) y → LawfulMove m h y
    one_move x y l (inl e) = subst (LawfulMove m h) (sym e) l
    one_move x y l (inr i) = absurd i

    one : (w : World m) (e : EventOf m) → LawfulEvent m h e → limit_of m w ≡ None → Leads w (happens m w e)
    unfolding run
    one w e l free = record {
      by = Takes e ∷ [];
      lawful = λ y i. one_move (Takes e) y l i;
      is = refl;
      few = let a = below_limit w free in let b = happens_steps w e in omega (arith, a, b);
    }

    pub counts : (w : World m) → Stands w → Leads w (next_event m w)
    unfolding run
    counts w s = record { by = Next ∷ []; lawful = λ y i. one_move Next y tt i; is = refl; few = s.few }

    pub then : (w v u : World m) → Leads w v → Leads v u → Leads w u
    then w v u a b = record {
      by = a.by ++ b.by;
      lawful = λ x i. ⊎_elim (λ (j : Has a.by x). a.lawful x j) (λ (j : Has b.by x). b.lawful x j) (has_either a.by b.by x i);
      is = b.is ∙ (ap (λ x. run m b.by x) a.is ∙ sym (run_both m a.by b.by w));
      few = b.few;
    }

    -- a step, where no limit is reached
    step_by : (w : World m) (e : EventOf m) (o : Option Which) → Stands w → LawfulEvent m h e → limit_of m w ≡ o → Leads w (happens_by m o w e).world
    step_by w e None s l is = one w e l is
    step_by w e (Some x) s l is = stays w s

    pub step_on : (w : World m) (e : EventOf m) → Stands w → LawfulEvent m h e → Leads w (happens_on m w e).world
    step_on w e s l = step_by w e (limit_of m w) s l refl

    pub unless : (w : World m) (r : Ran m) (f : World m → Ran m) → Stands w → Leads w r.world → ((v : World m) → Stands v → Leads v (f v).world) → Leads w (unless_stopped m r f).world
    unless w r f s a b = by r.stopped
      where
        by : (o : Option Which) → Leads w (elim o as (λ _. Ran m) [ Some x ↦ r | None ↦ f r.world ]).world
        by (Some x) = a
        by None = then w _ _ a (b r.world (stands_on w r.world s a))

    pub update_leads : (w : World m) (k : ℕ) (o : Oid) (op : m.op) → Stands w → IsDeclared h (client_id k) → LawfulCommand m (cmd.Put o op) → Leads w (updates_on m w k o op).world
    update_leads w k o op s d l =
        unless w (happens_on m w (Commands k cmd.Begin)) (λ v. puts_on m v k o op) s (step_on w (Commands k cmd.Begin) s (d, tt))
        (λ v t. unless v (happens_on m v (Commands k (cmd.Put o op))) (λ u. happens_on m u (Commands k cmd.End)) t (step_on v (Commands k (cmd.Put o op)) t (d, l))
        (λ u r. step_on u (Commands k cmd.End) r (d, tt)))

    -- Drains, and rounds of ticks.

    by_limit : (w : World m) (next : Ran m) (o : Option Which) → Stands w → limit_of m w ≡ o → (limit_of m w ≡ None → Leads w next.world)
        → Leads w (elim o as (λ _. Ran m) [ Some x ↦ record { world = w; stopped = Some x } | None ↦ next ]).world
    by_limit w next None s is f = f is
    by_limit w next (Some x) s is f = stays w s

    by_lowest : (n : ℕ) (w : World m) (o : Option ℕ) → Stands w → ((v : World m) → Stands v → Leads v (drain_on m n v).world) → Leads w (elim o as (λ _. Ran m) [
      | None ↦ record { world = w; stopped = None }
      | Some i ↦ elim (limit_of m w) as (λ _. Ran m) [ Some x ↦ record { world = w; stopped = Some x } | None ↦ drain_on m n (happens m w (Deliver i)) ]
    ]).world
    by_lowest n w None s f = stays w s
    by_lowest n w (Some i) s f = by_limit w (drain_on m n (happens m w (Deliver i))) (limit_of m w) s refl
        (λ e. let l = one w (Deliver i) tt e in then w _ _ l (f (happens m w (Deliver i)) (stands_on w _ s l)))

    drains : (n : ℕ) (w : World m) → Stands w → Leads w (drain_on m n w).world
    unfolding drain_on
    drains zero w s = stays w s
    drains (suc n) w s = by_lowest n w (lowest m w.waiting) s (λ v t. drains n v t)

    pub drain_leads : (w : World m) → Stands w → Leads w (drain m w).world
    unfolding drain
    drain_leads w s = drains (200001 - w.steps) w s

    counted : (w : World m) (r : Role) → Stands w → count_of m w r ≡ declared_of h r
    counted w role.Unit s = s.sized.units
    counted w role.Layout s = s.sized.layouts
    counted w role.Seqr s = s.sized.seqrs
    counted w role.Client s = s.sized.clients

    on_long : (w : World m) (n : NodeId) → runs m w n ≡ true → n.num < count_of m w n.role
    on_long w n e = grind arith

    declared : (w : World m) (n : NodeId) → Stands w → runs m w n ≡ true → IsDeclared h n
    declared w n s e = subst (λ (k : ℕ). n.num < k) (counted w n.role s) (on_long w n e)

    if_runs : (n : NodeId) (ns : List NodeId) (w : World m) (b : Bool) → Stands w → runs m w n ≡ b → ((v : World m) → Stands v → Leads v (tick_all m ns v).world) → Leads w (elim b as (λ _. Ran m) [
      | false ↦ tick_all m ns w
      | true ↦ elim (limit_of m w) as (λ _. Ran m) [ Some x ↦ record { world = w; stopped = Some x } | None ↦ tick_all m ns (happens m w (Tick n)) ]
    ]).world
    if_runs n ns w false s is f = f w s
    if_runs n ns w true s is f = by_limit w (tick_all m ns (happens m w (Tick n))) (limit_of m w) s refl
        (λ e. let l = one w (Tick n) (declared w n s is) e in then w _ _ l (f (happens m w (Tick n)) (stands_on w _ s l)))

    tick_leads : (ns : List NodeId) (w : World m) → Stands w → Leads w (tick_all m ns w).world
    unfolding tick_all
    tick_leads [] w s = stays w s
    tick_leads (n ∷ ns) w s = if_runs n ns w (runs m w n) s refl (λ v t. tick_leads ns v t)

    abbrev after_ticks : ℕ → World m → Bool → Ran m
    after_ticks n v b = elim b as (λ _. Ran m) [ true ↦ drain m v | false ↦ unless_stopped m (drain m v) (λ u. rounds m n u) ]

    round_on : (n : ℕ) (v : World m) (b : Bool) → Stands v → ((u : World m) → Stands u → Leads u (rounds m n u).world) → Leads v (after_ticks n v b).world
    round_on n v true s f = drain_leads v s
    round_on n v false s f = unless v (drain m v) (λ u. rounds m n u) s (drain_leads v s) f

    round : (n : ℕ) (w : World m) → Stands w → Leads w (rounds m n w).world
    unfolding rounds
    round zero w s = stays w s
    round (suc n) w s = unless w (tick_all m (nodes m w) w) (λ v. after_ticks n v (eqb (length v.packets) (length w.packets))) s (tick_leads (nodes m w) w s)
        (λ v t. round_on n v (eqb (length v.packets) (length w.packets)) t (λ u r. round n u r))

    pub settle_leads : (w : World m) → Stands w → Leads w (settle m w).world
    unfolding settle
    settle_leads w s = unless w (drain m w) (λ v. rounds m 8 v) s (drain_leads w s) (λ v t. round 8 v t)
