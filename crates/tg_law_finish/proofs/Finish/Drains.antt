-- A settling begins with a drain: it is a settling of the drained world, to which a run comes too.
use Rattle.std.proofs.Common.{◌≡◌, ℕ, zero, suc, ◌+◌, ◌-◌, ◌<◌, ◌≤◌, List, [], ◌∷◌, ◌++◌, length, refl, ap, ◌∙◌, sym, subst, inl, inr, arith, Some, None, Option}
use Rattle.tg_base.specs.Clusters.{Header}
use Rattle.tg_base.specs.declared.fault.Which.{Which}
use Rattle.tg_kind.specs.Meaning.{Meaning}
use Rattle.tg_model.specs.declared.command.Event.TheVariants.{Deliver}
use Rattle.tg_protocol.specs.Clients.{Client, new_client}
use Rattle.tg_protocol.specs.ClientSteps.{ClientTurn}
use Rattle.tg_protocol.specs.Worlds.{World, client, client_turned, happens, lowest, limit_of, Ran, ran, drain_on, drain, unless_stopped, rounds, settle}
use Rattle.tg_protocol.specs.Runs.{Move, Moves, Takes, LawfulMove, Reaches, run}
use Rattle.tg_law_layouts.proofs.Moves.Lists.{at_set}
use Rattle.tg_law_layouts.proofs.Moves.Members.{Has, has_contained}
use Rattle.tg_law_walks.proofs.Walks.Reading.{reaches_later}
use Rattle.tg_law_finish.specs.Finish.Drains.{drained, DrainsComeFirst, DrainsAreRuns}
use Rattle.tg_law_finish.proofs.Finish.Folds.{Kept, rest_keeps}
use Rattle.tg_law_finish.proofs.Finish.Lines.{idle_deliver}
use Rattle.tg_law_finish.proofs.Finish.Nets.{happens_counts}
use Rattle.tg_law_finish.proofs.Finish.Others.{idle_ticks}

module _ (m : Meaning) where
  -- A second drain does nothing.

  abbrev drain_of : ℕ → World m → List ℕ → Ran m
  drain_of n w is = elim (lowest m is) as (λ _. Ran m) [
    | None ↦ record { world = w; stopped = None }
    | Some i ↦ elim (limit_of m w) as (λ _. Ran m) [ Some x ↦ record { world = w; stopped = Some x } | None ↦ drain_on m n (happens m w (Deliver i)) ]
  ]

  abbrev limited : World m → Ran m → Option Which → Ran m
  limited w next o = elim o as (λ _. Ran m) [ Some x ↦ record { world = w; stopped = Some x } | None ↦ next ]

  -- at a limit, with a packet on its way
  stops : (n : ℕ) (w : World m) (i : ℕ) (is : List ℕ) (x : Which) → w.waiting ≡ i ∷ is → limit_of m w ≡ Some x → drain_on m n w ≡ ran m w (Some x)
  unfolding drain_on
  stops zero w i is x e l = ap (λ (o : Option Which). ran m w o) l
  stops (suc n) w i is x e l = ap (λ (js : List ℕ). drain_of n w js) e ∙ ap (λ (o : Option Which). limited w (drain_on m n (happens m w (Deliver i))) o) l

  same_fuel : (n : ℕ) (w : World m) → n ≡ 200001 - w.steps → drain m w ≡ drain_on m n w
  unfolding drain
  same_fuel n w e = ap (λ i. drain_on m i w) (sym e)

  abbrev Again : Ran m → Type 0
  Again r = drain m r.world ≡ r

  again_limited : (n : ℕ) (w : World m) (i : ℕ) (is : List ℕ) → w.waiting ≡ i ∷ is → Again (drain_on m n (happens m w (Deliver i))) → (o : Option Which) → limit_of m w ≡ o
      → Again (limited w (drain_on m n (happens m w (Deliver i))) o)
  unfolding drain
  again_limited n w i is e rest None l = rest
  again_limited n w i is e rest (Some x) l = stops (200001 - w.steps) w i is x e l

  again_of : (n : ℕ) (w : World m) → suc n ≡ 200001 - w.steps → ((i : ℕ) → Again (drain_on m n (happens m w (Deliver i)))) → (is : List ℕ) → w.waiting ≡ is → Again (drain_of n w is)
  unfolding drain_on
  again_of n w e rest [] f = same_fuel (suc n) w e ∙ ap (λ (js : List ℕ). drain_of n w js) f
  again_of n w e rest (i ∷ is) f = again_limited n w i is f (rest i) (limit_of m w) refl

  again_on : (n : ℕ) (w : World m) → n ≡ 200001 - w.steps → Again (drain_on m n w)
  unfolding drain_on
  again_on zero w e = same_fuel zero w e
  again_on (suc n) w e = again_of n w e (λ i. again_on n (happens m w (Deliver i)) (let c = happens_counts m w i in omega (arith, e, c))) w.waiting refl

  drain_again : (w : World m) → drain m (drain m w).world ≡ drain m w
  unfolding drain
  drain_again w = again_on (200001 - w.steps) w refl

  -- Where no limit stops it, nothing is on its way then.

  some_none : (x : Which) → Some x ≡ None → ⊥
  some_none x e = cc

  over : (w : World m) → 200001 ≤ w.steps → limit_of m w ≡ None → ⊥
  unfolding limit_of
  over w le none = grind arith

  abbrev Quietens : Ran m → Type 0
  Quietens r = r.stopped ≡ None → r.world.waiting ≡ []

  quiet_limited : (w : World m) (next : Ran m) (o : Option Which) → Quietens next → Quietens (limited w next o)
  quiet_limited w next None q = q
  quiet_limited w next (Some x) q = λ none. absurd (some_none x none)

  quiet_of : (n : ℕ) (w : World m) → ((i : ℕ) → Quietens (drain_on m n (happens m w (Deliver i)))) → (is : List ℕ) → w.waiting ≡ is → Quietens (drain_of n w is)
  quiet_of n w rest [] f = λ none. f
  quiet_of n w rest (i ∷ is) f = quiet_limited w (drain_on m n (happens m w (Deliver i))) (limit_of m w) (rest i)

  quiet_on : (n : ℕ) (w : World m) → 200001 ≤ n + w.steps → Quietens (drain_on m n w)
  unfolding drain_on
  quiet_on zero w le = λ none. absurd (over w (omega (arith, le)) none)
  quiet_on (suc n) w le = quiet_of n w (λ i. quiet_on n (happens m w (Deliver i)) (let c = happens_counts m w i in omega (arith, le, c))) w.waiting refl

  drain_quiet : (w : World m) → Quietens (drain m w)
  unfolding drain
  drain_quiet w = quiet_on (200001 - w.steps) w (omega arith)

  first_ends : (r : Ran m) (f : World m → Ran m) (o : Option Which) → r.stopped ≡ o → (elim o as (λ _. Ran m) [ Some x ↦ r | None ↦ f r.world ]).stopped ≡ None → r.stopped ≡ None
  first_ends r f None e none = e
  first_ends r f (Some x) e none = none

  pub drains_come_first : DrainsComeFirst m
  unfolding settle
  drains_come_first w = record {
    same = ap (λ (r : Ran m). unless_stopped m r (λ v. rounds m 8 v)) (drain_again w);
    quiet = λ none. drain_quiet w (first_ends (drain m w) (λ v. rounds m 8 v) (drain m w).stopped refl none);
  }

  -- A drain is a row of deliveries.

  pub record Row (w v : World m) (n : ℕ) : Type 0 where
    pub moves : Moves m
    pub deliveries : (x : Move m) → Has moves x → (i : ℕ) × (x ≡ Takes (Deliver i))
    pub is : v ≡ run m moves w
    pub few : v.steps ≤ w.steps + n

  no_row : (n : ℕ) (w : World m) → Row w w n
  unfolding run
  no_row n w = record { moves = []; deliveries = λ x h. absurd h; is = refl; few = omega arith }

  row_on : (n : ℕ) (w v : World m) (i : ℕ) → Row (happens m w (Deliver i)) v n → Row w v (suc n)
  unfolding run
  row_on n w v i r = record {
    moves = Takes (Deliver i) ∷ r.moves;
    deliveries = of;
    is = r.is;
    few = let a = r.few in let c = happens_counts m w i in omega (arith, a, c);
  }
    where
      of : (x : Move m) → Has (Takes (Deliver i) ∷ r.moves) x → (j : ℕ) × (x ≡ Takes (Deliver j))
      of x (inl e) = (i, e)
      of x (inr h) = r.deliveries x h

  row_limited : (n : ℕ) (w : World m) (i : ℕ) → Row (happens m w (Deliver i)) (drain_on m n (happens m w (Deliver i))).world n → (o : Option Which) → Row w (limited w (drain_on m n (happens m w (Deliver i))) o).world (suc n)
  row_limited n w i rest None = row_on n w _ i rest
  row_limited n w i rest (Some x) = no_row (suc n) w

  row_of : (n : ℕ) (w : World m) → ((i : ℕ) → Row (happens m w (Deliver i)) (drain_on m n (happens m w (Deliver i))).world n) → (is : List ℕ) → Row w (drain_of n w is).world (suc n)
  row_of n w rest [] = no_row (suc n) w
  row_of n w rest (i ∷ is) = row_limited n w i (rest i) (limit_of m w)

  row_in : (n : ℕ) (w : World m) → Row w (drain_on m n w).world n
  unfolding drain_on
  row_in zero w = no_row zero w
  row_in (suc n) w = row_of n w (λ i. row_in n (happens m w (Deliver i))) w.waiting

  row : (w : World m) → Row w (drained m w) (200001 - w.steps)
  unfolding drain
  row w = row_in (200001 - w.steps) w

  pub drains_are_runs : DrainsAreRuns m
  drains_are_runs h ms w r = (a.moves, record { lawful = λ x c. by x (has_contained a.moves x c); is = a.is; few = (let f = a.few in let g = r.goes.few in omega (arith, f, g)) })
    where
      a : Row w (drained m w) (200001 - w.steps)
      a = row w

      by : (x : Move m) → Has a.moves x → LawfulMove m w.cluster x
      by x i = let d = a.deliveries x i in subst (λ (y : Move m). LawfulMove m w.cluster y) (sym d.1) tt

  -- so a run comes to it
  pub drained_reached : (h : Header) (ms : Moves m) (w : World m) → Reaches m h ms w → (more : Moves m) × Reaches m h more (drained m w)
  drained_reached h ms w r = let l = drains_are_runs h ms w r in (ms ++ l.0, reaches_later m h ms w (drained m w) r l)

  -- An idle client stays idle.
  module _ (k : ℕ) where
    abbrev Rests : World m → World m → Type 0
    Rests w v = (client m w k).work ≡ None → (client m v k).work ≡ None

    turned : (w : World m) (n : ℕ) (t : ClientTurn m) → n < length w.clients → ((client m w n).work ≡ None → t.now.work ≡ None) → Rests w (client_turned m w n t)
    unfolding client_turned
    turned w n t less f = at_set w.clients n t.now (λ j. new_client m w.cluster j) (λ j (c : Client m). (client m w j).work ≡ None → c.work ≡ None) less f (λ j off e. e) k

    rests : Kept m Rests
    rests = record {
      same = λ w v e f none. subst (λ (c : Client m). c.work ≡ None) (sym (f k)) none;
      then = λ w v u a b none. b (a none);
      delivered = λ w n p less. turned w n _ less (λ none. subst (λ (t : ClientTurn m). t.now.work ≡ None) (sym (idle_deliver m (client m w n) p.from p.rid p.msg none)) none);
      ticked = λ w n less. turned w n _ less (λ none. subst (λ (t : ClientTurn m). t.now.work ≡ None) (sym (idle_ticks m w.cluster w.stopped k (client m w n).stand (client m w n) none)) none);
    }

    pub stays_idle : (w : World m) → (client m (drained m w) k).work ≡ None → (client m (settle m w).world k).work ≡ None
    stays_idle w none = rest_keeps m Rests rests w none
