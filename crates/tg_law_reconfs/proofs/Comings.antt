-- What holds where a settling comes to, if no limit stops it: a quiet world's first drain delivers nothing.
use Rattle.std.proofs.Common.{◌≡◌, ℕ, zero, suc, ◌+◌, ◌≤◌, List, [], ◌∷◌, refl, ◌∙◌, sym, arith, Some, None, Option}
use Rattle.tg_base.specs.declared.fault.Which.{Which}
use Rattle.tg_kind.specs.Meaning.{Meaning}
use Rattle.tg_model.specs.declared.command.Event.TheVariants.{Deliver}
use Rattle.tg_protocol.specs.Worlds.{World, happens, Ran, drain_on, unless_stopped, limit_of, lowest}

pub some_none : (x : Which) → Some x ≡ None → ⊥
some_none x e = cc

module _ (m : Meaning) where
  pub at_limit : (w : World m) → 200000 ≤ w.steps → limit_of m w ≡ None → ⊥
  unfolding limit_of
  at_limit w le none = grind arith

module _ (m : Meaning) (Goal : World m → Type 0) where
  abbrev pub Comes : Ran m → Type 0
  Comes r = r.stopped ≡ None → Goal r.world

  pub unless : (r : Ran m) (g : World m → Ran m) (o : Option Which) → r.stopped ≡ o → (o ≡ None → Comes (g r.world)) → Comes (elim o as (λ _. Ran m) [ Some y ↦ r | None ↦ g r.world ])
  unless r g None e t = t refl
  unless r g (Some y) e t = λ none. absurd (some_none y (sym e ∙ none))

  quiet_drains : (fuel : ℕ) (w : World m) (g : World m → Ran m) → w.waiting ≡ [] → Comes (g w) → Comes (unless_stopped m (drain_on m (suc fuel) w) g)
  unfolding drain_on
  quiet_drains fuel w g e t = by w.waiting e
    where
      by : (is : List ℕ) → is ≡ [] → Comes (unless_stopped m (elim (lowest m is) as (λ _. Ran m) [
        | None ↦ record { world = w; stopped = None }
        | Some i ↦ elim (limit_of m w) as (λ _. Ran m) [ Some x ↦ record { world = w; stopped = Some x } | None ↦ drain_on m fuel (happens m w (Deliver i)) ]
      ]) g)
      by [] e = t
      by (i ∷ is) e = absurd cc

  no_fuel : (w : World m) (g : World m → Ran m) → 200000 ≤ w.steps → Comes (unless_stopped m (drain_on m zero w) g)
  unfolding drain_on
  no_fuel w g le = by (limit_of m w) refl
    where
      by : (o : Option Which) → limit_of m w ≡ o → Comes (elim o as (λ _. Ran m) [ Some x ↦ record { world = w; stopped = limit_of m w } | None ↦ g w ])
      by None e = absurd (at_limit m w le e)
      by (Some x) e = λ none. absurd (some_none x (sym e ∙ none))

  pub first_drain : (fuel : ℕ) (w : World m) (g : World m → Ran m) → w.waiting ≡ [] → 200001 ≤ fuel + w.steps → Comes (g w) → Comes (unless_stopped m (drain_on m fuel w) g)
  first_drain zero w g e le t = no_fuel w g (omega (arith, le))
  first_drain (suc fuel) w g e le t = quiet_drains fuel w g e t
