-- The world of a script is one to which moves lead whose commands keep the grammar of scripts.
use Rattle.std.proofs.Common.{◌≡◌, ⊎_elim, ℕ, zero, suc, ◌-◌, ◌<◌, List, [], ◌∷◌, ◌++◌, length, eqb, Bool, true, false, refl, sym, ap, ◌∙◌, subst, inl, inr, arith, Some, None, Option}
use Rattle.std.specs.Prelude.{slice_get, nat_lt, Contains}
use Rattle.tg_base.specs.Clusters.{Header, IsHeader}
use Rattle.tg_base.specs.declared.fault.Which.{Which}
use Rattle.tg_base.specs.declared.ids.NodeId.{NodeId}
use Rattle.tg_base.specs.declared.ids.Oid.{Oid}
use Rattle.tg_base.specs.declared.ids.Role.{Role}
use Rattle.tg_base.specs.declared.ids.Role.TheVariants as role
use Rattle.tg_codec.proofs.Laws.{and-right}
use Rattle.tg_model.specs.declared.command.Command.TheVariants as cmd
use Rattle.tg_model.specs.declared.command.Event.TheVariants.{Command as Commands, Deliver, Lose, Tick, Stop}
use Rattle.tg_model.specs.Kinds.{CommandOf, EventOf}
use Rattle.tg_protocol.specs.Words.{client_id}
use Rattle.tg_protocol.specs.Worlds.{start, Ran, drain_on, drain, tick_all, nodes, unless_stopped, rounds, settle, limit_of, happens, lowest, runs, count_of, next_event}
use Rattle.tg_protocol.specs.Runs.{Move, Moves, Next, Takes, LawfulCommand, LawfulEvent, LawfulMove, IsDeclared, declared_of, run, Reaches}
use Rattle.tg_any.specs.declared.any.AnyOp.{AnyOp}
use Rattle.tg_any.specs.AllKinds.{all_kinds}
use Rattle.tg_script.specs.Commands.{command_fits}
use Rattle.tg_script.specs.Lines.{line_fits}
use Rattle.tg_script.specs.declared.line.Line.{Line}
use Rattle.tg_script.specs.declared.line.Line.TheVariants as line
use Rattle.tg_world.specs.Runs.{happens_by, happens_on, puts_on, updates_on}
use Rattle.tg_replay.specs.Runs.{Script, IsScript, Worlds, line_in, line_on, lines_on, world_of}
use Rattle.tg_law_layouts.specs.Moves.Configs.{config}
use Rattle.tg_law_layouts.proofs.Moves.Members.{Has, has_either, set_long}
use Rattle.tg_law_layouts.proofs.Moves.Moves.{Keeps, run_keeps}
use Rattle.tg_law_layouts.proofs.Moves.Scripts.{run_both}
use Rattle.tg_law_layouts.proofs.Moves.Members.{has_contained}
use Rattle.tg_law_programs.proofs.Scripts.Leading.{IsSized, starts}
use Rattle.tg_law_programs.proofs.Scripts.Lawful.{event_lawful, update_lawful}
use Rattle.tg_law_programs.proofs.Scripts.Reaching.{each_script_reaches}

-- the command of an event keeps the grammar of scripts
abbrev pub GivenEvent : Header → EventOf all_kinds → Type 0
GivenEvent h (Commands k x) = command_fits h x ≡ true
GivenEvent h e = Unit {0}

abbrev pub GivenMove : Header → Move all_kinds → Type 0
GivenMove h Next = Unit {0}
GivenMove h (Takes e) = GivenEvent h e

-- nodes stay as many as the header declares
sizes_stay : (h : Header) → Keeps all_kinds (IsSized all_kinds h)
sizes_stay h c s = record {
  idle = s;
  unit = λ u p a less. record { units = set_long c.units u _ ∙ s.units; layouts = s.layouts; seqrs = s.seqrs; clients = s.clients };
  layout = λ l p a less. record { units = s.units; layouts = set_long c.layouts l _ ∙ s.layouts; seqrs = s.seqrs; clients = s.clients };
  seqr = λ k t i less. record { units = s.units; layouts = s.layouts; seqrs = set_long c.seqrs k _ ∙ s.seqrs; clients = s.clients };
  client = λ k t i less. record { units = s.units; layouts = s.layouts; seqrs = s.seqrs; clients = set_long c.clients k _ ∙ s.clients };
}

module _ (h : Header) (header : IsHeader h) where
  -- a world to which lawful moves lead that are given so
  pub record Led (w : Worlds) : Type 0 where
    pub by : Moves all_kinds
    pub lawful : (x : Move all_kinds) → Has by x → LawfulMove all_kinds h x × GivenMove h x
    pub is : w ≡ run all_kinds by (start all_kinds h)

  led_start : Led (start all_kinds h)
  unfolding run
  led_start = record { by = []; lawful = λ x i. absurd i; is = refl }

  sized : (w : Worlds) → Led w → IsSized all_kinds h (config all_kinds w)
  sized w l = subst (λ (u : Worlds). IsSized all_kinds h (config all_kinds u)) (sym l.is) (run_keeps all_kinds (IsSized all_kinds h) (sizes_stay h) l.by (start all_kinds h) (starts all_kinds h).sized)

  more : (w : Worlds) (x : Move all_kinds) → Led w → LawfulMove all_kinds h x → GivenMove h x → Led (run all_kinds (x ∷ []) w)
  more w x l a b = record {
    by = l.by ++ x ∷ [];
    lawful = λ y i. ⊎_elim (λ (j : Has l.by y). l.lawful y j) (λ (j : Has (x ∷ []) y). one y j) (has_either l.by (x ∷ []) y i);
    is = ap (λ (u : Worlds). run all_kinds (x ∷ []) u) l.is ∙ sym (run_both all_kinds l.by (x ∷ []) (start all_kinds h));
  }
    where
      one : (y : Move all_kinds) → Has (x ∷ []) y → LawfulMove all_kinds h y × GivenMove h y
      one y (inl e) = subst (λ (z : Move all_kinds). LawfulMove all_kinds h z × GivenMove h z) (sym e) (a, b)
      one y (inr i) = absurd i

  counts : (w : Worlds) → Led w → Led (next_event all_kinds w)
  unfolding run
  counts w l = more w Next l tt tt

  one_step : (w : Worlds) (e : EventOf all_kinds) → Led w → LawfulEvent all_kinds h e → GivenEvent h e → Led (happens all_kinds w e)
  unfolding run
  one_step w e l a b = more w (Takes e) l a b

  step_by : (w : Worlds) (e : EventOf all_kinds) (o : Option Which) → Led w → LawfulEvent all_kinds h e → GivenEvent h e → Led (happens_by all_kinds o w e).world
  step_by w e None l a b = one_step w e l a b
  step_by w e (Some x) l a b = l

  step_on : (w : Worlds) (e : EventOf all_kinds) → Led w → LawfulEvent all_kinds h e → GivenEvent h e → Led (happens_on all_kinds w e).world
  step_on w e l a b = step_by w e (limit_of all_kinds w) l a b

  unless : (r : Ran all_kinds) (f : Worlds → Ran all_kinds) → Led r.world → ((v : Worlds) → Led v → Led (f v).world) → Led (unless_stopped all_kinds r f).world
  unless r f a b = by r.stopped
    where
      by : (o : Option Which) → Led (elim o as (λ _. Ran all_kinds) [ Some x ↦ r | None ↦ f r.world ]).world
      by (Some x) = a
      by None = b r.world a

  update : (w : Worlds) (k : ℕ) (o : Oid) (op : AnyOp) → Led w → IsDeclared h (client_id k) → LawfulCommand all_kinds (cmd.Put o op) → command_fits h (cmd.Put o op) ≡ true → Led (updates_on all_kinds w k o op).world
  update w k o op l d a b =
      unless (happens_on all_kinds w (Commands k cmd.Begin)) (λ v. puts_on all_kinds v k o op) (step_on w (Commands k cmd.Begin) l (d, tt) refl)
      (λ v t. unless (happens_on all_kinds v (Commands k (cmd.Put o op))) (λ u. happens_on all_kinds u (Commands k cmd.End)) (step_on v (Commands k (cmd.Put o op)) t (d, a) b)
      (λ u r. step_on u (Commands k cmd.End) r (d, tt) refl))

  -- Drains, and rounds of ticks.

  by_limit : (w : Worlds) (next : Ran all_kinds) (o : Option Which) → Led w → Led next.world → Led (elim o as (λ _. Ran all_kinds) [ Some x ↦ record { world = w; stopped = Some x } | None ↦ next ]).world
  by_limit w next None l f = f
  by_limit w next (Some x) l f = l

  by_lowest : (n : ℕ) (w : Worlds) (o : Option ℕ) → Led w → ((v : Worlds) → Led v → Led (drain_on all_kinds n v).world) → Led (elim o as (λ _. Ran all_kinds) [
    | None ↦ record { world = w; stopped = None }
    | Some i ↦ elim (limit_of all_kinds w) as (λ _. Ran all_kinds) [ Some x ↦ record { world = w; stopped = Some x } | None ↦ drain_on all_kinds n (happens all_kinds w (Deliver i)) ]
  ]).world
  by_lowest n w None l f = l
  by_lowest n w (Some i) l f = by_limit w (drain_on all_kinds n (happens all_kinds w (Deliver i))) (limit_of all_kinds w) l (f (happens all_kinds w (Deliver i)) (one_step w (Deliver i) l tt tt))

  drains : (n : ℕ) (w : Worlds) → Led w → Led (drain_on all_kinds n w).world
  unfolding drain_on
  drains zero w l = l
  drains (suc n) w l = by_lowest n w (lowest all_kinds w.waiting) l (λ v t. drains n v t)

  drain_led : (w : Worlds) → Led w → Led (drain all_kinds w).world
  unfolding drain
  drain_led w l = drains (200001 - w.steps) w l

  counted : (w : Worlds) (r : Role) → Led w → count_of all_kinds w r ≡ declared_of h r
  counted w role.Unit l = (sized w l).units
  counted w role.Layout l = (sized w l).layouts
  counted w role.Seqr l = (sized w l).seqrs
  counted w role.Client l = (sized w l).clients

  on_long : (w : Worlds) (n : NodeId) → runs all_kinds w n ≡ true → n.num < count_of all_kinds w n.role
  on_long w n e = grind arith

  declared : (w : Worlds) (n : NodeId) → Led w → runs all_kinds w n ≡ true → IsDeclared h n
  declared w n l e = subst (λ (k : ℕ). n.num < k) (counted w n.role l) (on_long w n e)

  if_runs : (n : NodeId) (ns : List NodeId) (w : Worlds) (b : Bool) → Led w → runs all_kinds w n ≡ b → ((v : Worlds) → Led v → Led (tick_all all_kinds ns v).world) → Led (elim b as (λ _. Ran all_kinds) [
    | false ↦ tick_all all_kinds ns w
    | true ↦ elim (limit_of all_kinds w) as (λ _. Ran all_kinds) [ Some x ↦ record { world = w; stopped = Some x } | None ↦ tick_all all_kinds ns (happens all_kinds w (Tick n)) ]
  ]).world
  if_runs n ns w false l is f = f w l
  if_runs n ns w true l is f = by_limit w (tick_all all_kinds ns (happens all_kinds w (Tick n))) (limit_of all_kinds w) l (f (happens all_kinds w (Tick n)) (one_step w (Tick n) l (declared w n l is) tt))

  ticks_led : (ns : List NodeId) (w : Worlds) → Led w → Led (tick_all all_kinds ns w).world
  unfolding tick_all
  ticks_led [] w l = l
  ticks_led (n ∷ ns) w l = if_runs n ns w (runs all_kinds w n) l refl (λ v t. ticks_led ns v t)

  abbrev after_ticks : ℕ → Worlds → Bool → Ran all_kinds
  after_ticks n v b = elim b as (λ _. Ran all_kinds) [ true ↦ drain all_kinds v | false ↦ unless_stopped all_kinds (drain all_kinds v) (λ u. rounds all_kinds n u) ]

  round_on : (n : ℕ) (v : Worlds) (b : Bool) → Led v → ((u : Worlds) → Led u → Led (rounds all_kinds n u).world) → Led (after_ticks n v b).world
  round_on n v true l f = drain_led v l
  round_on n v false l f = unless (drain all_kinds v) (λ u. rounds all_kinds n u) (drain_led v l) f

  round : (n : ℕ) (w : Worlds) → Led w → Led (rounds all_kinds n w).world
  unfolding rounds
  round zero w l = l
  round (suc n) w l = unless (tick_all all_kinds (nodes all_kinds w) w) (λ v. after_ticks n v (eqb (length v.packets) (length w.packets))) (ticks_led (nodes all_kinds w) w l)
      (λ v t. round_on n v (eqb (length v.packets) (length w.packets)) t (λ u r. round n u r))

  settle_led : (w : Worlds) → Led w → Led (settle all_kinds w).world
  unfolding settle
  settle_led w l = unless (drain all_kinds w) (λ v. rounds all_kinds 8 v) (drain_led w l) (λ v t. round 8 v t)

  -- Lines.

  given_of : (e : EventOf all_kinds) → line_fits h (line.Event e) ≡ true → GivenEvent h e
  given_of (Commands k x) f = and-right (nat_lt k h.clients) (command_fits h x) f
  given_of (Deliver i) f = tt
  given_of (Lose i) f = tt
  given_of (Tick n) f = tt
  given_of (Stop n) f = tt

  in_line : (w : Worlds) (l : Line) → line_fits h l ≡ true → Led w → Led (line_in w l).world
  in_line w (line.Event e) f s = step_on w e s (event_lawful h header e f) (given_of e f)
  in_line w (line.Update k oid op) f s = let u = update_lawful h k oid op f in update w k oid op s u.0 u.1 (and-right (nat_lt k h.clients) _ f)
  in_line w line.Drain f s = drain_led w s
  in_line w line.Settle f s = settle_led w s

  on_lines : (ls : List Line) (w : Worlds) → ((k : ℕ) (l : Line) → slice_get ls k ≡ Some l → line_fits h l ≡ true) → Led w → Led (lines_on ls w).world
  unfolding lines_on
  on_lines [] w f s = s
  on_lines (l ∷ ls) w f s = unless (line_on w l) (λ v. lines_on ls v) (in_line (next_event all_kinds w) l (f zero l refl) (counts w s)) (λ v t. on_lines ls v (λ k x e. f (suc k) x e) t)

-- such moves, and the run that they are
pub record IsLed (s : Script) : Type 0 where
  pub moves : Moves all_kinds
  pub reaches : Reaches all_kinds s.header moves (world_of s)
  pub lawful : (k : ℕ) (x : CommandOf all_kinds) → Has moves (Takes (Commands k x)) → LawfulCommand all_kinds x
  pub given : (x : Move all_kinds) → Has moves x → GivenMove s.header x

pub each_script_led : (s : Script) → IsScript s → IsLed s
unfolding start
each_script_led s is =
    let l = on_lines s.header is.header s.events (start all_kinds s.header) (λ k x e. (is.each k x e).fits) (led_start s.header is.header) in
    record {
      moves = l.by;
      reaches = record { header = is.header; goes = record { lawful = λ x i. (lawful l x i).0; is = l.is; few = (each_script_reaches s is).reaches.goes.few } };
      lawful = λ k x i. (l.lawful (Takes (Commands k x)) i).0.1;
      given = λ x i. (l.lawful x i).1;
    }
  where
    lawful : (l : Led s.header is.header (world_of s)) (x : Move all_kinds) → Contains l.by x → LawfulMove all_kinds (start all_kinds s.header).cluster x × GivenMove s.header x
    lawful l x i = l.lawful x (has_contained l.by x i)
