-- A copy reads positions of its stripe alone, in the epoch of the layout at which its client stands.
use Rattle.std.proofs.Common.{◌≡◌, ℕ, ◌+◌, ◌-◌, ◌*◌, ◌/◌, ◌%◌, ◌<◌, ◌≤◌, length, Bool, true, false, refl, sym, ap, ◌∙◌, subst, arith, None}
use Rattle.std.specs.Prelude.{nat_lt, nat_le, if◌then◌else◌}
use Rattle.std.proofs.lemmas.Nat.{mod-mul-add}
use Rattle.tg_base.specs.Layouts.{Layout}
use Rattle.tg_kind.specs.Meaning.{Meaning}
use Rattle.tg_proj.specs.Places.{range_at, stripe_number}
use Rattle.tg_protocol.specs.Layouts.{range_end, next_in_stripe}
use Rattle.tg_protocol.specs.Requests.{Next, Goes, Learns, Ends, Turn}
use Rattle.tg_protocol.specs.Replies.{Reply, IsMissing}
use Rattle.tg_protocol.specs.Cells.{Place}
use Rattle.tg_protocol.specs.Trimming.{CopyWork, Reading, Looking, Copying, CopyEnd, copy_start, copy_feed}
use Rattle.tg_protocol.specs.Clients.{copy_fault}
use Rattle.tg_protocol.specs.Playing.{InStripe}
use Rattle.tg_law_steps.proofs.Machines.Copies as copy
use Rattle.tg_law_claims.proofs.Playing.Past.{same_place}

-- Positions of a stripe.

-- the position is one of the stripe, or past its range
pub record IsOfStripe (p : Layout) (r s pos : ℕ) : Type 0 where
  pub from : (range_at p.ranges r).lo ≤ pos
  pub stripe : stripe_number (range_at p.ranges r) pos ≡ s

pub nth_of : (lo s n q k : ℕ) → s < n → q ≡ lo + (k * n + s) → (q - lo) % n ≡ s
nth_of lo s n q k less is = let e : q - lo ≡ k * n + s = omega (arith, is) in ap (λ z. z % n) e ∙ mod-mul-add k n s less

-- the first of the stripe's positions past another
next_is : (lo s n pos : ℕ) → s < n → lo + s < pos → pos + (n - 1 - ((pos - (lo + s)) + n - 1) % n) ≡ lo + ((((pos - (lo + s)) + n - 1) / n) * n + s)
next_is lo s n pos less past = by ((pos - (lo + s)) + n - 1) refl
  where
    by : (x : ℕ) → x ≡ (pos - (lo + s)) + n - 1 → pos + (n - 1 - x % n) ≡ lo + ((x / n) * n + s)
    by x is =
        let some : 1 ≤ n = omega (arith, less) in
        let parts : n * (x / n) + x % n ≡ x = omega arith in
        let small : x % n < n = omega (arith, some) in
        let turned : n * (x / n) ≡ (x / n) * n = omega arith in
        omega (arith, parts, small, turned, is, past)

more_of : (a b : ℕ) → nat_le a b ≡ false → b < a
more_of a b e = grind arith

pub next_of_stripe : (p : Layout) (r s pos : ℕ) → s < length (range_at p.ranges r).stripes → IsOfStripe p r s (next_in_stripe (range_at p.ranges r) s pos)
next_of_stripe p r s pos less = by (nat_le pos (lo + s)) refl
  where
    lo : ℕ
    lo = (range_at p.ranges r).lo

    n : ℕ
    n = length (range_at p.ranges r).stripes

    by : (b : Bool) → nat_le pos (lo + s) ≡ b → IsOfStripe p r s (if b then lo + s else pos + (n - 1 - ((pos - (lo + s)) + n - 1) % n))
    by true e = record { from = omega arith; stripe = nth_of lo s n (lo + s) 0 less (omega arith) }
    by false e = let past = more_of pos (lo + s) e in record { from = omega (arith, past); stripe = nth_of lo s n _ ((((pos - (lo + s)) + n - 1) / n)) less (omega (arith, next_is lo s n pos less past)) }

-- Copies.

module _ (m : Meaning) (Given : ℕ → ℕ → ℕ → Type 0) where
  abbrev pub WorkIn : Layout → ℕ → ℕ → CopyWork → Type 0
  WorkIn p r s (Reading j) = (j.place.epoch ≡ p.epoch) × InStripe m p r s j.place.pos
  WorkIn p r s w = Unit {0}

  -- a copy that was asked for, in this layout
  pub record IsCopying (p : Layout) (x : Copying) : Type 0 where
    pub given : Given x.unit x.range x.stripe
    pub stripe : x.stripe < length (range_at p.ranges x.range).stripes
    pub work : WorkIn p x.range x.stripe x.work

  abbrev pub CopyNext : Layout → Next Copying CopyEnd → Type 0
  CopyNext p (Goes x) = IsCopying p x
  CopyNext p (Learns x) = IsCopying p x
  CopyNext p (Ends e) = Unit {0}

  pub copy_starts : (p : Layout) (u r s next : ℕ) → Given u r s → s < length (range_at p.ranges r).stripes → CopyNext p (copy_start u r s next).to
  unfolding copy_start
  copy_starts p u r s next given less = record { given = given; stripe = less; work = tt }

  -- An awaited answer comes to a copy, and one that says what the spare lacks is of the stripe.
  module _ (p : Layout) (u : ℕ) (x : Reply) (next : ℕ) where
    abbrev IsLacked : Copying → CopyWork → Type 0
    IsLacked c w = (r pos : ℕ) → w ≡ Looking r → x ≡ IsMissing pos → IsOfStripe p c.range c.stripe pos

    goes_at : (c : Copying) (w : CopyWork) (at gone : ℕ) → copy.GoesOn p u x next c w at gone → c.stripe < length (range_at p.ranges c.range).stripes → IsLacked c w → IsOfStripe p c.range c.stripe at
    goes_at c _ _ _ (copy.Lacks r pos is) less f = f r pos refl is
    goes_at c _ _ _ s less f = next_of_stripe p c.range c.stripe _ less

    less_of : (a b : ℕ) → nat_lt a b ≡ true → a < b
    less_of a b e = grind arith

    fed_in : (c : Copying) (t : Turn Copying CopyEnd) → copy.Fed p u x next c t → IsCopying p c → IsLacked c c.work → CopyNext p t.to
    fed_in _ _ (copy.ReadGoes c j k e) ok f =
        record { given = ok.given; stripe = ok.stripe; work = subst (λ (a : Place). (a.epoch ≡ p.epoch) × InStripe m p c.range c.stripe a.pos) (sym (same_place j u x next k e)) ok.work }
    fed_in _ _ (copy.Stores c j y e) ok f = record { given = ok.given; stripe = ok.stripe; work = tt }
    fed_in _ _ (copy.Trims c j b e) ok f = record { given = ok.given; stripe = ok.stripe; work = tt }
    fed_in _ _ (copy.Reads c w at gone k e) ok f =
        let z = goes_at c w at gone k ok.stripe f in
        record { given = ok.given; stripe = ok.stripe; work = (refl, record { after = z.from; before = less_of at (range_end p c.range) e; stripe = z.stripe }) }
    fed_in _ _ (copy.LooksLast c w at gone k e) ok f = record { given = ok.given; stripe = ok.stripe; work = tt }
    fed_in _ _ (copy.HasAll c r is) ok f = tt
    fed_in _ _ s ok f = ok

    pub copy_fed : (c : Copying) → IsCopying p c → IsLacked c c.work → CopyNext p (copy_feed p c c.work u x next).to
    copy_fed c ok f = fed_in c _ (copy.copy_fed p u x next c) ok f

-- a copy that isn't refused is of a stripe that is there
pub stripe_there : (m : Meaning) (p : Layout) (u r s : ℕ) → copy_fault m p u r s ≡ None → s < length (range_at p.ranges r).stripes
unfolding copy_fault
stripe_there m p u r s e = grind arith
