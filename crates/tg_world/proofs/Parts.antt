-- Several steps in a row, as far as the limits allow.
use Rattle.std.proofs.Common.{◌≡◌, ap}
use Rattle.std.specs.Prelude.{Option, Some, None}
use Rattle.tg_base.specs.declared.fault.Which.{Which}
use Rattle.tg_kind.specs.Meaning.{Meaning}
use Rattle.tg_protocol.specs.Worlds.{World, Ran, unless_stopped}

module _ (m : Meaning) where
  abbrev unless : Ran m → (World m → Ran m) → Option Which → Ran m
  unless r f o = elim o as (λ _. Ran m) [ Some x ↦ r | None ↦ f r.world ]

  -- a limit has stopped the first part
  pub stops : (r : Ran m) (f : World m → Ran m) (x : Which) → r.stopped ≡ Some x → unless_stopped m r f ≡ r
  stops r f x is = ap (λ (o : Option Which). unless r f o) is

  -- the first part was made
  pub goes : (r : Ran m) (f : World m → Ran m) → r.stopped ≡ None → unless_stopped m r f ≡ f r.world
  goes r f is = ap (λ (o : Option Which). unless r f o) is
