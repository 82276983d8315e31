-- Ballots are ordered, one after the other, and the greatest of the layouts that were accepted.
use Rattle.std.proofs.Common.{◌≡◌, ◌⊎◌, ℕ, zero, suc, ◌<◌, ◌≤◌, List, [], ◌∷◌, Bool, true, false, refl, sym, ap, ◌∙◌, subst, inl, inr, arith, Some, None}
use Rattle.tg_base.specs.Layouts.{Layout}
use Rattle.tg_base.specs.declared.ids.Ballot.{Ballot}
use Rattle.tg_protocol.specs.Words.{ballot_lt}
use Rattle.tg_protocol.specs.Reconfiguring.{Before, greater, greatest}
use Rattle.tg_law_layouts.proofs.Moves.Members.{Has}

pub equal_or_less : (a b : Ballot) → ballot_lt b a ≡ false → (a ≡ b) ⊎ (ballot_lt a b ≡ true)
equal_or_less a b h = grind arith

pub not_itself : (a : Ballot) → ballot_lt a a ≡ true → ⊥
not_itself a h = grind arith

pub less_or_not : (a b : Ballot) → (a ≡ b) ⊎ (ballot_lt a b ≡ true) ⊎ (ballot_lt b a ≡ true)
less_or_not a b = grind arith

pub not_less_then : (a b c : Ballot) → ballot_lt b a ≡ false → ballot_lt c b ≡ false → ballot_lt c a ≡ false
not_less_then a b c p q = grind arith

lower : (b c : Ballot) (n k : ℕ) → b.round ≤ n → b.client < suc k → ballot_lt c b ≡ true → (c.round < n) ⊎ ((c.round ≤ n) × (c.client < k))
lower b c n k p q h = grind arith

module _ (P : Ballot → Type 0) (step : (b : Ballot) → ((c : Ballot) → ballot_lt c b ≡ true → P c) → P b) where
  within : (n : ℕ) → ((c : Ballot) → c.round < n → P c) → (k : ℕ) (b : Ballot) → b.round ≤ n → b.client < k → P b
  within n rounds zero b le less = absurd (omega (arith, less))
  within n rounds (suc k) b le less = step b (λ c h. by (λ d p q. within n rounds k d p q) c (lower b c n k le less h))
    where
      by : ((d : Ballot) → d.round ≤ n → d.client < k → P d) → (c : Ballot) → (c.round < n) ⊎ ((c.round ≤ n) × (c.client < k)) → P c
      by clients c (inl r) = rounds c r
      by clients c (inr s) = clients c s.0 s.1

  up_to : (n : ℕ) (b : Ballot) → b.round < n → P b
  up_to zero b less = absurd (omega (arith, less))
  up_to (suc n) b less = within n (λ c r. up_to n c r) (suc b.client) b (omega (arith, less)) (omega arith)

  -- what holds of a ballot where it holds of all lesser ones holds of each
  pub by_ballots : (b : Ballot) → P b
  by_ballots b = up_to (suc b.round) b (omega arith)

-- The greatest.

-- the greatest is there, and isn't below one that is there
pub record Top (ps : List Before) (x : Ballot × Layout) : Type 0 where
  pub top : Ballot × Layout
  pub is : greatest ps ≡ Some top
  pub above : ballot_lt top.0 x.0 ≡ false

-- the greater of two isn't below the first, nor below what the second isn't below
pub record Greater (x : Ballot × Layout) (b : Before) : Type 0 where
  pub top : Ballot × Layout
  pub is : greater (Some x) b ≡ Some top
  pub above : ballot_lt top.0 x.0 ≡ false

greater_none : (x : Ballot × Layout) → Greater x None
greater_none x = record { top = x; is = refl; above = grind arith }

greater_some : (x z : Ballot × Layout) (b : Bool) → ballot_lt x.0 z.0 ≡ b → Greater x (Some z)
greater_some x z true h = record { top = z; is = grind arith; above = grind arith }
greater_some x z false h = record { top = x; is = grind arith; above = grind arith }

greater_first : (x : Ballot × Layout) (b : Before) → Greater x b
greater_first x None = greater_none x
greater_first x (Some z) = greater_some x z (ballot_lt x.0 z.0) refl

greater_than : (a x z : Ballot × Layout) (b : Bool) → ballot_lt z.0 x.0 ≡ false → ballot_lt a.0 z.0 ≡ b
    → (y : Ballot × Layout) × (greater (Some a) (Some z) ≡ Some y) × (ballot_lt y.0 x.0 ≡ false)
greater_than a x z true le h = (z, grind arith, le)
greater_than a x z false le h = (a, grind arith, not_less_then x.0 z.0 a.0 le h)

top_first : (x : Ballot × Layout) (ps : List Before) → Top (Some x ∷ ps) x
top_first x ps = let g = greater_first x (greatest ps) in record { top = g.top; is = g.is; above = g.above }

top_later : (b : Before) (ps : List Before) (x : Ballot × Layout) → Top ps x → Top (b ∷ ps) x
top_later None ps x t = record { top = t.top; is = t.is; above = t.above }
top_later (Some a) ps x t =
    let y = greater_than a x t.top (ballot_lt a.0 t.top.0) t.above refl in
    record { top = y.0; is = ap (λ (c : Before). greater (Some a) c) t.is ∙ y.1; above = y.2 }

pub top_above : (ps : List Before) (x : Ballot × Layout) → Has ps (Some x) → Top ps x
top_above [] x h = absurd h
top_above (b ∷ ps) x (inl e) = subst (λ (c : Before). Top (c ∷ ps) x) e (top_first x ps)
top_above (b ∷ ps) x (inr h) = top_later b ps x (top_above ps x h)

there_of : (b g : Before) (y : Ballot × Layout) → greater b g ≡ Some y → (b ≡ Some y) ⊎ (g ≡ Some y)
there_of b g y e = grind arith

pub top_there : (ps : List Before) (y : Ballot × Layout) → greatest ps ≡ Some y → Has ps (Some y)
top_there [] y e = absurd (cc)
top_there (b ∷ ps) y e = by (λ t. top_there ps y t) (there_of b (greatest ps) y e)
  where
    by : (greatest ps ≡ Some y → Has ps (Some y)) → (b ≡ Some y) ⊎ (greatest ps ≡ Some y) → Has (b ∷ ps) (Some y)
    by rest (inl s) = inl (sym s)
    by rest (inr t) = inr (rest t)
