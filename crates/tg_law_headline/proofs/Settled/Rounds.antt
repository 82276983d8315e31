-- What the walks of a command have settled so far: each position that was issued to a stream, or a cell is known there.
use Rattle.std.proofs.Common.{◌≡◌, ◌⊎◌, ℕ, ◌<◌, ◌≤◌, List, [], ◌∷◌, Bool, true, false, refl, sym, subst, inl, inr, arith, Option, Some, None}
use Rattle.std.specs.Prelude.{nat_lt, is_some, Contains}
use Rattle.tg_base.specs.declared.cell.Cell.{Cell}
use Rattle.tg_base.specs.declared.ids.Oid.{Oid}
use Rattle.tg_base.specs.declared.marks.StreamLink.{StreamLink}
use Rattle.tg_kind.specs.Meaning.{Meaning}
use Rattle.tg_protocol.specs.Words.{cell_at}
use Rattle.tg_protocol.specs.Cells.{CellJob}
use Rattle.tg_protocol.specs.Walking.{Walk, Members, next_visit}
use Rattle.tg_protocol.specs.Logs.{Log}
use Rattle.tg_protocol.specs.Views.{View}
use Rattle.tg_protocol.specs.Clients.{Work, Client}
use Rattle.tg_protocol.specs.Worlds.{World}
use Rattle.tg_law_walks.specs.Walks.Streams.{AreKnown}
use Rattle.tg_law_walks.specs.Walks.Walks.{AreMore, past_trim}
use Rattle.tg_law_walks.specs.Walks.Lists.{backs}
use Rattle.tg_law_walks.proofs.Walks.Members.{Has, has_contained, contained_has, lt_of, not_lt}
use Rattle.tg_law_syncs.specs.Settling.Visits.{IsFull, IsFullTrail, AreSeen, IsVisiting, IsIssuedTo}

-- what the walks of a command go by
pub record Course : Type 0 where
  pub oids : List Oid
  pub tail : ℕ
  pub lasts : List StreamLink
  pub lo : ℕ

abbrev pub from_start : Course → Course
from_start r = record { oids = r.oids; tail = r.tail; lasts = r.lasts; lo = 0 }

module _ (m : Meaning) where
  abbrev pub course : Work m → Course
  course w = record { oids = w.oids; tail = w.tail; lasts = w.lasts; lo = w.lo }

-- Of a world's issued positions, by what is settled in an epoch or before, and which tails of an epoch are confirmed.
module _ (m : Meaning) (v : World m) (S : ℕ → ℕ → Type 0) (Tl : ℕ → ℕ → Type 0) where
  -- up to a position, which isn't past a confirmed tail, all is settled that was issued to the stream in the tail's epoch
  pub record SavedTo (n : ℕ) (o : Oid) (upto : ℕ) : Type 0 where
    pub epoch : ℕ
    pub up_to : epoch ≤ n
    pub tail : ℕ
    pub confirmed : Tl epoch tail
    pub within : upto ≤ tail
    pub settled : (q : ℕ) → IsIssuedTo m v epoch o q → q < upto → S n q

  -- So it is of each stream that a client hosts, up to where its kept view stands.
  abbrev pub IsKept : ℕ → Client m → Type 0
  IsKept n c = (x : View m) (o : Oid) → c.view ≡ Some x → Contains c.hosted o → SavedTo n o x.upto

  -- what walks of an epoch's tail go by; below where they end all is settled
  pub record IsHeading (n e : ℕ) (r : Course) : Type 0 where
    pub up_to : e ≤ n
    pub confirmed : Tl e r.tail
    pub lists : (o : Oid) → Contains r.oids o → IsFull (IsIssuedTo m v e o) r.tail (backs o r.lasts)
    pub below : (o : Oid) → Contains r.oids o → (q : ℕ) → IsIssuedTo m v e o q → q < r.tail → q < r.lo → S n q

  -- a stream is walked
  abbrev pub IsDone : ℕ → ℕ → Oid → ℕ → List (ℕ × Cell) → Type 0
  IsDone n e o tail cells = (q : ℕ) → IsIssuedTo m v e o q → q < tail → S n q ⊎ (is_some (cell_at cells q) ≡ true)

  -- all are, but these
  pub record IsRounded (n e : ℕ) (r : Course) (cells : List (ℕ × Cell)) (rest : List Oid) : Type 0 where
    pub heading : IsHeading n e r
    pub left : (o : Oid) → Contains rest o → Contains r.oids o
    pub walked : (o : Oid) → Contains r.oids o → Contains rest o ⊎ IsDone n e o r.tail cells

  -- a walk, whatever log it reads
  pub record IsVisit (e tail : ℕ) (k : Walk) : Type 0 where
    pub at : ℕ
    pub within : at ≤ tail
    pub trail : IsFullTrail (IsIssuedTo m v e k.oid) at k.trail
    pub seen : AreSeen (IsIssuedTo m v e k.oid) at tail k.cells
    pub job : (j : CellJob) → k.job ≡ Some j → next_visit k ≡ Some j.place.pos

  pub record IsAtWalk (n : ℕ) (r : Course) (k : Walk) (os : List Oid) : Type 0 where
    pub epoch : ℕ
    pub round : IsRounded n epoch r k.cells (k.oid ∷ os)
    pub visit : IsVisit epoch r.tail k
    pub low : k.lo ≡ r.lo

  pub visiting : (l : Log) (e tail : ℕ) (k : Walk) → AreKnown l k.cells → IsVisit e tail k → IsVisiting l (IsIssuedTo m v e) tail k
  visiting l e tail k known x = record { known = known; at = x.at; within = x.within; trail = x.trail; seen = x.seen; job = x.job }

  pub visit_of : (l : Log) (e tail : ℕ) (k : Walk) → IsVisiting l (IsIssuedTo m v e) tail k → IsVisit e tail k
  visit_of l e tail k x = record { at = x.at; within = x.within; trail = x.trail; seen = x.seen; job = x.job }

  -- Rounds.

  more_done : (n e : ℕ) (o : Oid) (tail : ℕ) (cells more : List (ℕ × Cell)) → AreMore cells more → IsDone n e o tail cells → IsDone n e o tail more
  more_done n e o tail cells more grows d q i less = by (d q i less)
    where
      by : S n q ⊎ (is_some (cell_at cells q) ≡ true) → S n q ⊎ (is_some (cell_at more q) ≡ true)
      by (inl s) = inl s
      by (inr k) = inr (grows q k)

  pub more_cells : (n e : ℕ) (r : Course) (cells more : List (ℕ × Cell)) (rest : List Oid) → AreMore cells more → IsRounded n e r cells rest → IsRounded n e r more rest
  more_cells n e r cells more rest grows h = record { heading = h.heading; left = h.left; walked = λ o i. by o (h.walked o i) }
    where
      by : (o : Oid) → Contains rest o ⊎ IsDone n e o r.tail cells → Contains rest o ⊎ IsDone n e o r.tail more
      by o (inl i) = inl i
      by o (inr d) = inr (more_done n e o r.tail cells more grows d)

  -- a walk has ended
  pub next_round : (n e : ℕ) (r : Course) (cells : List (ℕ × Cell)) (o : Oid) (os : List Oid) (x : Members) → IsRounded n e r cells (o ∷ os) → AreMore cells x.cells → AreSeen (IsIssuedTo m v e o) (past_trim r.lo x.gone) r.tail x.cells
      → ((b q : ℕ) → x.gone ≡ Some b → q < b → S n q) → IsRounded n e r x.cells os
  next_round n e r cells o os x h grows seen gone = record {
    heading = h.heading;
    left = λ p i. h.left p (contained_has (o ∷ os) p (inr (has_contained os p i)));
    walked = λ p i. by p (h.walked p i);
  }
    where
      -- below where the walk ended, or past it
      at : (from q : ℕ) → AreSeen (IsIssuedTo m v e o) from r.tail x.cells → (q < from → S n q) → IsIssuedTo m v e o q → q < r.tail → S n q ⊎ (is_some (cell_at x.cells q) ≡ true)
      at from q known low i less = which (nat_lt q from) refl
        where
          which : (b : Bool) → nat_lt q from ≡ b → S n q ⊎ (is_some (cell_at x.cells q) ≡ true)
          which true f = inl (low (lt_of q from f))
          which false f = inr (known q i (not_lt q from f) less)

      this : (g : Option ℕ) → x.gone ≡ g → AreSeen (IsIssuedTo m v e o) (past_trim r.lo g) r.tail x.cells → IsDone n e o r.tail x.cells
      this None f known q i less = at r.lo q known (λ low. h.heading.below o (h.left o (contained_has (o ∷ os) o (inl refl))) q i less low) i less
      this (Some b) f known q i less = at b q known (λ low. gone b q f low) i less

      of : (p : Oid) → Has (o ∷ os) p → Contains os p ⊎ IsDone n e p r.tail x.cells
      of p (inl is) = inr (subst (λ (y : Oid). IsDone n e y r.tail x.cells) (sym is) (this x.gone refl seen))
      of p (inr i) = inl (contained_has os p i)

      by : (p : Oid) → Contains (o ∷ os) p ⊎ IsDone n e p r.tail cells → Contains os p ⊎ IsDone n e p r.tail x.cells
      by p (inl i) = of p (has_contained (o ∷ os) p i)
      by p (inr d) = inr (more_done n e p r.tail cells x.cells grows d)

  -- the walks start over, from 0
  pub starts_anew : (n e : ℕ) (r : Course) (cells : List (ℕ × Cell)) (rest : List Oid) → IsRounded n e r cells rest → IsRounded n e (from_start r) cells r.oids
  starts_anew n e r cells rest h = record {
    heading = record { up_to = h.heading.up_to; confirmed = h.heading.confirmed; lists = h.heading.lists; below = λ o i q s less low. absurd (omega (arith, low)) };
    left = λ o i. i;
    walked = λ o i. inl i;
  }

  -- all streams are walked
  some_cell : (x : Option Cell) → is_some x ≡ true → (c : Cell) × (x ≡ Some c)
  some_cell None e = absurd (cc)
  some_cell (Some c) e = (c, refl)

  pub all_settled : (n e : ℕ) (r : Course) (cells : List (ℕ × Cell)) → ((q : ℕ) (c : Cell) → cell_at cells q ≡ Some c → S n q) → IsRounded n e r cells [] → (o : Oid) → Contains r.oids o → (q : ℕ) → IsIssuedTo m v e o q → q < r.tail → S n q
  all_settled n e r cells settles h o here q i less = of (h.walked o here)
    where
      by : S n q ⊎ (is_some (cell_at cells q) ≡ true) → S n q
      by (inl s) = s
      by (inr k) = let c = some_cell (cell_at cells q) k in settles q c.0 c.1

      of : Contains [] o ⊎ IsDone n e o r.tail cells → S n q
      of (inl j) = absurd (has_contained [] o j)
      of (inr d) = by (d q i less)

  -- In a later epoch.

  module _ (up : (a b q : ℕ) → a ≤ b → S a q → S b q) (n n' : ℕ) (le : n ≤ n') where
    pub saved_up : (o : Oid) (u : ℕ) → SavedTo n o u → SavedTo n' o u
    saved_up o u s = record { epoch = s.epoch; up_to = (let a = s.up_to in omega (arith, a, le)); tail = s.tail; confirmed = s.confirmed; within = s.within; settled = λ q i less. up n n' q le (s.settled q i less) }

    heading_up : (e : ℕ) (r : Course) → IsHeading n e r → IsHeading n' e r
    heading_up e r h = record { up_to = (let a = h.up_to in omega (arith, a, le)); confirmed = h.confirmed; lists = h.lists; below = λ o i q s less low. up n n' q le (h.below o i q s less low) }

    rounded_up : (e : ℕ) (r : Course) (cells : List (ℕ × Cell)) (rest : List Oid) → IsRounded n e r cells rest → IsRounded n' e r cells rest
    rounded_up e r cells rest h = record { heading = heading_up e r h.heading; left = h.left; walked = λ o i. by o (h.walked o i) }
      where
        done : (o : Oid) (q : ℕ) → S n q ⊎ (is_some (cell_at cells q) ≡ true) → S n' q ⊎ (is_some (cell_at cells q) ≡ true)
        done o q (inl s) = inl (up n n' q le s)
        done o q (inr k) = inr k

        by : (o : Oid) → Contains rest o ⊎ IsDone n e o r.tail cells → Contains rest o ⊎ IsDone n' e o r.tail cells
        by o (inl i) = inl i
        by o (inr d) = inr (λ q i less. done o q (d q i less))

    pub walk_up : (r : Course) (k : Walk) (os : List Oid) → IsAtWalk n r k os → IsAtWalk n' r k os
    walk_up r k os h = record { epoch = h.epoch; round = rounded_up h.epoch r k.cells (k.oid ∷ os) h.round; visit = h.visit; low = h.low }
