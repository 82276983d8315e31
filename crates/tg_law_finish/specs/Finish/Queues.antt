-- The packets of a world that wait, in their order.
use Rattle.std.specs.Prelude.{◌≡◌, ℕ, suc, ◌≤◌, List, [], ◌∷◌, length, slice_get, Some}
use Rattle.tg_base.specs.declared.packet.Packet.{Packet}
use Rattle.tg_kind.specs.Meaning.{Meaning}
use Rattle.tg_protocol.specs.Worlds.{World}

-- numbers that rise, from one bound to another
abbrev pub RisesWithin : ℕ → List ℕ → ℕ → Type 0
RisesWithin lo [] hi = lo ≤ hi
RisesWithin lo (i ∷ is) hi = (lo ≤ i) × RisesWithin (suc i) is hi

-- these are the packets at these numbers
abbrev pub Carries : List Packet → List ℕ → List Packet → Type 0
Carries ps [] [] = Unit {0}
Carries ps [] (p ∷ q) = ⊥
Carries ps (i ∷ is) [] = ⊥
Carries ps (i ∷ is) (p ∷ q) = (slice_get ps i ≡ Some p) × Carries ps is q

module _ (m : Meaning) where
  -- the packets that wait, oldest first
  pub record Queue (w : World m) (q : List Packet) : Type 0 where
    pub rises : RisesWithin 0 w.waiting (length w.packets)
    pub carries : Carries w.packets w.waiting q
