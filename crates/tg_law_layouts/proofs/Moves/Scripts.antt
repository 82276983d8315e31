-- The world that a script makes is one to which a run comes.
use Rattle.std.proofs.Common.{◌≡◌, ℕ, zero, suc, ◌-◌, List, [], ◌∷◌, ◌++◌, length, eqb, Bool, true, false, refl, ap, ◌∙◌, sym, Some, None, Option}
use Rattle.tg_base.specs.declared.fault.Which.{Which}
use Rattle.tg_base.specs.declared.ids.NodeId.{NodeId}
use Rattle.tg_kind.specs.Meaning.{Meaning}
use Rattle.tg_model.specs.declared.command.Command.TheVariants as cmd
use Rattle.tg_model.specs.declared.command.Event.TheVariants.{Command as Commands, Deliver, Tick}
use Rattle.tg_model.specs.Kinds.{EventOf}
use Rattle.tg_protocol.specs.Worlds.{World, Line, Happens, Update, Drain, Settle, line, lines, start, Ran, drain_on, drain, tick_all, nodes, unless_stopped, rounds, settle, limit_of, happens, lowest, runs, next_event}
use Rattle.tg_protocol.specs.Runs.{Moves, Next, Takes, run}
use Rattle.tg_law_layouts.specs.Moves.After.{ScriptsAreRuns}

module _ (m : Meaning) where
  -- some events lead from one world to the other
  abbrev pub Leads : World m → World m → Type 0
  Leads w v = (ms : Moves m) × (v ≡ run m ms w)

  pub run_both : (xs ys : Moves m) (w : World m) → run m (xs ++ ys) w ≡ run m ys (run m xs w)
  unfolding run
  run_both [] ys w = refl
  run_both (Next ∷ xs) ys w = run_both xs ys (next_event m w)
  run_both (Takes e ∷ xs) ys w = run_both xs ys (happens m w e)

  none : (w : World m) → Leads w w
  unfolding run
  none w = ([], refl)

  one : (w : World m) (e : EventOf m) → Leads w (happens m w e)
  unfolding run
  one w e = (Takes e ∷ [], refl)

  then : (w v u : World m) → Leads w v → Leads v u → Leads w u
  then w v u a b = (a.0 ++ b.0, b.1 ∙ (ap (λ x. run m b.0 x) a.1 ∙ sym (run_both a.0 b.0 w)))

  by_limit : (w : World m) (next : Ran m) (o : Option Which) → Leads w next.world → Leads w (elim o as (λ _. Ran m) [ Some x ↦ record { world = w; stopped = Some x } | None ↦ next ]).world
  by_limit w next None h = h
  by_limit w next (Some x) h = none w

  by_lowest : (n : ℕ) (w : World m) (o : Option ℕ) → ((i : ℕ) → Leads (happens m w (Deliver i)) (drain_on m n (happens m w (Deliver i))).world) → Leads w (elim o as (λ _. Ran m) [
    | None ↦ record { world = w; stopped = None }
    | Some i ↦ elim (limit_of m w) as (λ _. Ran m) [ Some x ↦ record { world = w; stopped = Some x } | None ↦ drain_on m n (happens m w (Deliver i)) ]
  ]).world
  by_lowest n w None h = none w
  by_lowest n w (Some i) h = by_limit w (drain_on m n (happens m w (Deliver i))) (limit_of m w) (then w _ _ (one w (Deliver i)) (h i))

  drains : (n : ℕ) (w : World m) → Leads w (drain_on m n w).world
  unfolding drain_on
  drains zero w = none w
  drains (suc n) w = by_lowest n w (lowest m w.waiting) (λ i. drains n (happens m w (Deliver i)))

  drain_reaches : (w : World m) → Leads w (drain m w).world
  unfolding drain
  drain_reaches w = drains (200001 - w.steps) w

  if_runs : (n : NodeId) (ns : List NodeId) (w : World m) (b : Bool) → ((v : World m) → Leads v (tick_all m ns v).world) → Leads w (elim b as (λ _. Ran m) [
    | false ↦ tick_all m ns w
    | true ↦ elim (limit_of m w) as (λ _. Ran m) [ Some x ↦ record { world = w; stopped = Some x } | None ↦ tick_all m ns (happens m w (Tick n)) ]
  ]).world
  if_runs n ns w false h = h w
  if_runs n ns w true h = by_limit w (tick_all m ns (happens m w (Tick n))) (limit_of m w) (then w _ _ (one w (Tick n)) (h (happens m w (Tick n))))

  ticks : (ns : List NodeId) (w : World m) → Leads w (tick_all m ns w).world
  unfolding tick_all
  ticks [] w = none w
  ticks (n ∷ ns) w = if_runs n ns w (runs m w n) (λ v. ticks ns v)

  unless : (w : World m) (r : Ran m) (f : World m → Ran m) → Leads w r.world → ((v : World m) → Leads v (f v).world) → Leads w (unless_stopped m r f).world
  unless w r f a b = by r.stopped
    where
      by : (o : Option Which) → Leads w (elim o as (λ _. Ran m) [ Some x ↦ r | None ↦ f r.world ]).world
      by (Some x) = a
      by None = then w _ _ a (b r.world)

  abbrev after_ticks : ℕ → World m → Bool → Ran m
  after_ticks n v b = elim b as (λ _. Ran m) [ true ↦ drain m v | false ↦ unless_stopped m (drain m v) (λ u. rounds m n u) ]

  round_on : (n : ℕ) (v : World m) (b : Bool) → ((u : World m) → Leads u (rounds m n u).world) → Leads v (after_ticks n v b).world
  round_on n v true h = drain_reaches v
  round_on n v false h = unless v (drain m v) (λ u. rounds m n u) (drain_reaches v) h

  round : (n : ℕ) (w : World m) → Leads w (rounds m n w).world
  unfolding rounds
  round zero w = none w
  round (suc n) w = unless w (tick_all m (nodes m w) w) (λ v. after_ticks n v (eqb (length v.packets) (length w.packets))) (ticks (nodes m w) w) (λ v. round_on n v (eqb (length v.packets) (length w.packets)) (λ u. round n u))

  settles : (w : World m) → Leads w (settle m w).world
  unfolding settle
  settles w = unless w (drain m w) (λ v. rounds m 8 v) (drain_reaches w) (λ v. round 8 v)

  pub after_next : (w : World m) (x : Line m) → Leads (next_event m w) (line m w x)
  unfolding line
  after_next w (Happens e) = one (next_event m w) e
  after_next w (Update k o op) =
      let v = next_event m w in
      let a = happens m v (Commands k cmd.Begin) in
      let b = happens m a (Commands k (cmd.Put o op)) in
      then v a _ (one v _) (then a b _ (one a _) (one b (Commands k cmd.End)))
  after_next w Drain = drain_reaches (next_event m w)
  after_next w Settle = settles (next_event m w)

  counts : (w : World m) → Leads w (next_event m w)
  unfolding run
  counts w = (Next ∷ [], refl)

  line_leads : (w : World m) (x : Line m) → Leads w (line m w x)
  line_leads w x = then w _ _ (counts w) (after_next w x)

  pub lines_lead : (xs : List (Line m)) (w : World m) → Leads w (lines m xs w)
  unfolding lines
  lines_lead [] w = none w
  lines_lead (x ∷ xs) w = then w _ _ (line_leads w x) (lines_lead xs (line m w x))

pub scripts_are_runs : (m : Meaning) → ScriptsAreRuns m
scripts_are_runs m h xs = lines_lead m xs (start m h)
