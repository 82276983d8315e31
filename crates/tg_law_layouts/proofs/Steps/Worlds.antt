-- Runs of worlds.
use Rattle.std.proofs.Common.{◌≡◌, ℕ, zero, suc, ◌+◌, ◌-◌, ◌≤◌, List, [], ◌∷◌, ◌++◌, length, eqb, Bool, true, false, refl, ap, arith, Some, None, Option}
use Rattle.std.specs.Prelude.{slice_get}
use Rattle.tg_base.specs.declared.fault.Which.{Which}
use Rattle.tg_base.specs.declared.ids.Role.{Role}
use Rattle.tg_base.specs.declared.ids.Role.TheVariants as role
use Rattle.tg_base.specs.declared.packet.Packet.{Packet}
use Rattle.tg_kind.specs.Meaning.{Meaning}
use Rattle.tg_model.specs.declared.command.Event.TheVariants.{Deliver}
use Rattle.tg_protocol.specs.Worlds.{World, Line, line, lines, Ran, drain_on, drain, tick_all, nodes, unless_stopped, rounds, settle, limit_of, happens, lowest, delivers, moves, comes, handed, runs, unit_moves, layout_moves, seqr_moves, client_turned}
use Rattle.tg_law_layouts.specs.Steps.Laws.{RunsAreCutAnywhere, DrainsEnd, SettlesEnd}

cut : (m : Meaning) (xs ys : List (Line m)) (w : World m) → lines m (xs ++ ys) w ≡ lines m ys (lines m xs w)
unfolding lines
cut m [] ys w = refl
cut m (x ∷ xs) ys w = cut m xs ys (line m w x)

pub runs_are_cut_anywhere : (m : Meaning) → RunsAreCutAnywhere m
runs_are_cut_anywhere m xs ys w = cut m xs ys w

-- a delivery counts one step

moves_count : (m : Meaning) (w : World m) (p : Packet) (r : Role) → (moves m w p r).steps ≡ w.steps
unfolding unit_moves layout_moves seqr_moves client_turned
moves_count m w p role.Unit = refl
moves_count m w p role.Layout = refl
moves_count m w p role.Seqr = refl
moves_count m w p role.Client = refl

comes_counts : (m : Meaning) (b : Bool) (w : World m) (p : Packet) → (comes m b w p).steps ≡ w.steps
comes_counts m true w p = moves_count m w p p.to.role
comes_counts m false w p = refl

delivers_count : (m : Meaning) (w : World m) (i : ℕ) (o : Option Packet) → (delivers m w i o).steps ≡ w.steps
delivers_count m w i None = refl
delivers_count m w i (Some p) = comes_counts m (runs m w p.to) (handed m w i) p

happens_counts : (m : Meaning) (w : World m) (i : ℕ) → (happens m w (Deliver i)).steps ≡ w.steps + 1
unfolding happens
happens_counts m w i = ap (λ n. n + 1) (delivers_count m w i (slice_get w.packets i))

-- a world at its limit of steps is told so
at_limit : (m : Meaning) (w : World m) → 200000 ≤ w.steps → limit_of m w ≡ None → ⊥
unfolding limit_of
at_limit m w le none = grind arith

-- one more delivery, where no limit is reached
abbrev IsDrained : (m : Meaning) → Ran m → Type 0
IsDrained m r = r.stopped ≡ None → r.world.waiting ≡ []

abbrev unless_limit : (m : Meaning) → World m → Ran m → Option Which → Ran m
unless_limit m w next o = elim o as (λ _. Ran m) [ Some x ↦ record { world = w; stopped = Some x } | None ↦ next ]

limited : (m : Meaning) (w : World m) (next : Ran m) (o : Option Which) → IsDrained m next → IsDrained m (unless_limit m w next o)
limited m w next None h = h
limited m w next (Some x) h = λ none. absurd cc

abbrev on_lowest : (m : Meaning) → ℕ → World m → Option ℕ → Ran m
on_lowest m n w o = elim o as (λ _. Ran m) [ None ↦ record { world = w; stopped = None } | Some i ↦ unless_limit m w (drain_on m n (happens m w (Deliver i))) (limit_of m w) ]

by_lowest : (m : Meaning) (n : ℕ) (w : World m) (is : List ℕ) → w.waiting ≡ is → ((i : ℕ) → IsDrained m (drain_on m n (happens m w (Deliver i)))) → IsDrained m (on_lowest m n w (lowest m is))
by_lowest m n w [] e h = λ none. e
by_lowest m n w (i ∷ is) e h = limited m w _ (limit_of m w) (h i)

drained : (m : Meaning) (n : ℕ) (w : World m) → 200001 ≤ n + w.steps → IsDrained m (drain_on m n w)
unfolding drain_on
drained m zero w le = λ none. absurd (at_limit m w (omega (arith, le)) none)
drained m (suc n) w le = by_lowest m n w w.waiting refl (λ i. drained m n (happens m w (Deliver i)) (let one = happens_counts m w i in omega (arith, le, one)))

pub drains_end : (m : Meaning) → DrainsEnd m
unfolding drain
drains_end m w = drained m (200001 - w.steps) w (omega arith)

-- a settling is a drain, and then rounds that each end with a drain

unless : (m : Meaning) (r : Ran m) (f : World m → Ran m) (o : Option Which) → r.stopped ≡ o → (o ≡ None → IsDrained m (f r.world))
    → IsDrained m (elim o as (λ _. Ran m) [ Some x ↦ r | None ↦ f r.world ])
unless m r f None e h = h refl
unless m r f (Some x) e h = λ none. absurd cc

-- what follows the ticks of a round
abbrev round_on : (m : Meaning) → ℕ → World m → World m → Ran m
round_on m n w v = elim (eqb (length v.packets) (length w.packets)) as (λ _. Ran m) [ true ↦ drain m v | false ↦ unless_stopped m (drain m v) (λ u. rounds m n u) ]

round_ends : (m : Meaning) (n : ℕ) (v : World m) (b : Bool) → IsDrained m (unless_stopped m (drain m v) (λ u. rounds m n u))
    → IsDrained m (elim b as (λ _. Ran m) [ true ↦ drain m v | false ↦ unless_stopped m (drain m v) (λ u. rounds m n u) ])
round_ends m n v true h = drains_end m v
round_ends m n v false h = h

rounds_end : (m : Meaning) (n : ℕ) (w : World m) → w.waiting ≡ [] → IsDrained m (rounds m n w)
unfolding rounds
rounds_end m zero w quiet = λ none. quiet
rounds_end m (suc n) w quiet = unless m (tick_all m (nodes m w) w) (round_on m n w) (tick_all m (nodes m w) w).stopped refl (λ none.
    let v = (tick_all m (nodes m w) w).world in
    round_ends m n v (eqb (length v.packets) (length w.packets))
    (unless m (drain m v) (λ u. rounds m n u) (drain m v).stopped refl (λ still. rounds_end m n (drain m v).world (drains_end m v still))))

pub settles_end : (m : Meaning) → SettlesEnd m
unfolding settle
settles_end m w = unless m (drain m w) (λ v. rounds m 8 v) (drain m w).stopped refl (λ still. rounds_end m 8 (drain m w).world (drains_end m w still))
