-- Which positions the machines of a client name: those below what their layouts and the sequencer's answers give.
use Rattle.std.proofs.Common.{◌≡◌, ℕ, ◌<◌, ◌≤◌, List, [], ◌∷◌, Bool, true, false, refl, sym, subst, arith, Some, None, Option}
use Rattle.std.specs.Prelude.{nat_lt, nat_le, filter}
use Rattle.std.proofs.lemmas.Bool.Decides.{nat_tests}
use Rattle.tg_base.specs.Layouts.{Layout}
use Rattle.tg_base.specs.declared.cell.Cell.{Cell}
use Rattle.tg_base.specs.declared.cell.Cell.TheVariants.{Junk, Data}
use Rattle.tg_base.specs.declared.ids.Oid.{Oid}
use Rattle.tg_base.specs.declared.marks.StreamLink.{StreamLink}
use Rattle.tg_entry.specs.declared.entry.Entry.{Entry}
use Rattle.tg_protocol.specs.Words.{where_true}
use Rattle.tg_base.specs.Orders.{oid_eq}
use Rattle.tg_protocol.specs.Entries.{link_of, backs_of, backs_in, lists}
use Rattle.tg_protocol.specs.Pages.{entry_of}
use Rattle.tg_protocol.specs.Requests.{Next, Goes, Learns, Ends, Turn}
use Rattle.tg_protocol.specs.Replies.{Reply}
use Rattle.tg_protocol.specs.Cells.{Place, CellWork, Probes, CellJob, CellEnd, CellTurn, cell_feed}
use Rattle.tg_protocol.specs.Walking.{Trail, go_down, next_on, next_of_trail, rest_of, listed, pointers_at, trail_after, Walk, Members, visited, at_least, next_visit, walk_from, walk_start, walk_feed, read_at}
use Rattle.tg_law_steps.proofs.Machines.Cells.{IsCopied, FillHeld, Fed, PutsOn, ReadsNone, CopiesOn, ProbesOn, Nothing, cell_fed}
use Rattle.tg_law_steps.proofs.Machines.Walks.{goes_on, WalkCame, Waits as WalkWaits, NewerCame as NewerForWalk, ReadsOn, HasRead, MetTrim, walk_came}

less_of : (a b : ℕ) → nat_lt a b ≡ true → a < b
less_of a b e = grind (arith, nat_tests)

from_zero : (t : ℕ) → 0 ≤ t
from_zero t = omega arith

-- Lists of positions below a bound.

abbrev pub AllBelow : ℕ → List ℕ → Type 0
AllBelow t [] = Unit {0}
AllBelow t (x ∷ xs) = (x < t) × AllBelow t xs

abbrev pub LinksBelow : ℕ → List StreamLink → Type 0
LinksBelow t [] = Unit {0}
LinksBelow t (l ∷ ls) = AllBelow t l.backs × LinksBelow t ls

pub lasts_below : (t : ℕ) (o : Oid) (ls : List StreamLink) → LinksBelow t ls → AllBelow t (backs_of (link_of o ls))
lasts_below t o [] k = tt
lasts_below t o (l ∷ ls) k = by (oid_eq l.oid o) refl (lasts_below t o ls k.1)
  where
    by : (b : Bool) → oid_eq l.oid o ≡ b → AllBelow t (backs_of (link_of o ls)) → AllBelow t (backs_of (link_of o (l ∷ ls)))
    by true e ih = subst (λ (x : Option StreamLink). AllBelow t (backs_of x)) (sym (found e)) k.0
      where
        found : oid_eq l.oid o ≡ true → link_of o (l ∷ ls) ≡ Some l
        found e = grind (arith, e)
    by false e ih = subst (λ (x : Option StreamLink). AllBelow t (backs_of x)) (sym (passed e)) ih
      where
        passed : oid_eq l.oid o ≡ false → link_of o (l ∷ ls) ≡ link_of o ls
        passed e = grind (arith, e)

kept_below : (q t : ℕ) (bs : List ℕ) → q ≤ t → AllBelow t (filter (λ b. nat_lt b q) bs)
kept_below q t [] le = tt
kept_below q t (b ∷ bs) le = by (nat_lt b q) refl (kept_below q t bs le)
  where
    by : (y : Bool) → nat_lt b q ≡ y → AllBelow t (filter (λ x. nat_lt x q) bs) → AllBelow t (filter (λ x. nat_lt x q) (b ∷ bs))
    by true e ih = subst (AllBelow t) (sym (taken e)) (let l = less_of b q e in omega (arith, l, le), ih)
      where
        taken : nat_lt b q ≡ true → filter (λ x. nat_lt x q) (b ∷ bs) ≡ b ∷ filter (λ x. nat_lt x q) bs
        taken e = grind (arith, e)
    by false e ih = subst (AllBelow t) (sym (left e)) ih
      where
        left : nat_lt b q ≡ false → filter (λ x. nat_lt x q) (b ∷ bs) ≡ filter (λ x. nat_lt x q) bs
        left e = grind (arith, e)

-- The trail of a walk.

pub record TrailOk (t : ℕ) (x : Trail) : Type 0 where
  pub pointers : AllBelow t x.pointers
  pub last : x.last ≤ t

next_below : (t : ℕ) (x : Trail) (q : ℕ) → TrailOk t x → next_of_trail x ≡ Some q → q < t
next_below t x q k e = by x.pointers refl k.pointers
  where
    down : (b : Bool) → go_down b x.last ≡ Some q → q < t
    down true e = let l = k.last in grind (arith, nat_tests, e, l)
    down false e = absurd (cc)

    same : (a b : ℕ) → Some a ≡ Some b → a ≡ b
    same a b i = cc

    by : (ps : List ℕ) → x.pointers ≡ ps → AllBelow t ps → q < t
    by [] i b = down x.were_four (subst (λ (ps : List ℕ). next_on x ps ≡ Some q) i e)
    by (p ∷ ps) i b = subst (λ n. n < t) (same p q (subst (λ (ps : List ℕ). next_on x ps ≡ Some q) i e)) b.0

rest_below : (t : ℕ) (ps : List ℕ) → AllBelow t ps → AllBelow t (rest_of ps)
rest_below t [] k = tt
rest_below t (p ∷ ps) k = k.1

after_ok : (t : ℕ) (x : Trail) (q : ℕ) (ps : Option (List ℕ)) → TrailOk t x → q < t → ((bs : List ℕ) → ps ≡ Some bs → AllBelow t bs) → TrailOk t (trail_after x q ps)
after_ok t x q None k less f = record { pointers = rest_below t x.pointers k.pointers; last = omega (arith, less) }
after_ok t x q (Some ps) k less f = record { pointers = f ps refl; last = omega (arith, less) }

pointed_below : (t : ℕ) (o : Oid) (q : ℕ) (c : Cell) (bs : List ℕ) → q < t → pointers_at o q c ≡ Some bs → AllBelow t bs
pointed_below t o q Junk bs less e = absurd (cc)
pointed_below t o q (Data d) bs less e = by (entry_of d) e
  where
    some : (b : Bool) (xs : List ℕ) → where_true b xs ≡ Some bs → AllBelow t xs → AllBelow t bs
    some true xs i k = subst (AllBelow t) (same xs bs i) k
      where
        same : (a b : List ℕ) → Some a ≡ Some b → a ≡ b
        same a b i = cc
    some false xs i k = absurd (cc)

    by : (x : Option Entry) → listed o q x ≡ Some bs → AllBelow t bs
    by None i = absurd (cc)
    by (Some x) i = some (lists x o) _ i (kept_below q t (backs_in x o) (omega (arith, less)))

visited_ok : (t : ℕ) (w : Walk) (q : ℕ) (c : Cell) → TrailOk t w.trail → q < t → TrailOk t (visited w q c).trail
visited_ok t w q c k less = after_ok t w.trail q (pointers_at w.oid q c) k less (λ bs e. pointed_below t w.oid q c bs less e)

-- The machine of a cell.

abbrev pub OnlyProbes : CellWork → Type 0
OnlyProbes (Probes ws) = Unit {0}
OnlyProbes w = ⊥

-- it keeps its place, and goes on probing if it does
abbrev pub Kept : Place → CellWork → Next CellJob CellEnd → Type 0
Kept a w (Goes j) = (j.place ≡ a) × (OnlyProbes w → OnlyProbes j.work)
Kept a w x = Unit {0}

none_probes : (u : ℕ) (x : Reply) (next : ℕ) (w : CellWork) (c : Cell) (i : ℕ) → IsCopied u x next w c i → OnlyProbes w → ⊥
none_probes u x next _ _ _ (FillHeld r is) p = p
none_probes u x next _ _ _ came p = p

turn_kept : (u : ℕ) (x : Reply) (next : ℕ) (j : CellJob) (t : CellTurn) → Fed u x next j t → Kept j.place j.work t.to
turn_kept u x next _ _ (PutsOn a r d i is more) = (refl, λ p. absurd p)
turn_kept u x next _ _ (ReadsNone a r is) = (refl, λ p. absurd p)
turn_kept u x next _ _ (CopiesOn a w c i of more) = (refl, λ p. absurd (none_probes u x next w c i of p))
turn_kept u x next _ _ (ProbesOn a ws v vs of left) = (refl, λ p. tt)
turn_kept u x next _ _ (Nothing j) = (refl, λ p. p)
turn_kept u x next _ _ came = tt

pub cell_kept : (j : CellJob) (u : ℕ) (x : Reply) (next : ℕ) → Kept j.place j.work (cell_feed j u x next).to
cell_kept j u x next = turn_kept u x next j _ (cell_fed u x next j)

-- What may be named: B of an epoch and a position. And what later layouts start past: L of an epoch and a bound.
module _ (B : ℕ → ℕ → Type 0) (L : ℕ → ℕ → Type 0) where
  abbrev pub Fits : Place → Type 0
  Fits a = B a.epoch a.pos

  -- all below a bound may be
  abbrev pub AllFit : ℕ → ℕ → Type 0
  AllFit e t = (q : ℕ) → q < t → B e q

  -- Walks.

  abbrev pub JobFits : ℕ → Option CellJob → Type 0
  JobFits t None = Unit {0}
  JobFits t (Some j) = Fits j.place × (j.place.pos < t)

  pub record WalkOk (t : ℕ) (w : Walk) : Type 0 where
    pub trail : TrailOk t w.trail
    pub job : JobFits t w.job

  abbrev pub WalkNext : ℕ → Next Walk Members → Type 0
  WalkNext t (Goes w) = WalkOk t w
  WalkNext t (Learns w) = TrailOk t w.trail
  WalkNext t (Ends x) = Unit {0}

  module _ (p : Layout) (t : ℕ) (fit : AllFit p.epoch t) where
    visit_below : (w : Walk) (q : ℕ) → TrailOk t w.trail → next_visit w ≡ Some q → q < t
    visit_below w q k e = by (next_of_trail w.trail) refl e
      where
        some : (b : Bool) (x : ℕ) → next_of_trail w.trail ≡ Some x → where_true b x ≡ Some q → q < t
        some true x i f = subst (λ n. n < t) (same x q f) (next_below t w.trail x k i)
          where
            same : (a b : ℕ) → Some a ≡ Some b → a ≡ b
            same a b i = cc
        some false x i f = absurd (cc)

        by : (o : Option ℕ) → next_of_trail w.trail ≡ o → at_least w.lo o ≡ Some q → q < t
        by None i f = absurd (cc)
        by (Some x) i f = some (nat_le w.lo x) x i f

    pub walks_ok : (next : ℕ) (w : Walk) → TrailOk t w.trail → WalkNext t (walk_from p next w).to
    walks_ok next w k = goes_on p next (λ v. TrailOk t v.trail) (λ u. WalkNext t u.to) (λ v q c e f i. visited_ok t v q c i (visit_below v q i e)) (λ v i. tt) (λ v q e f i. record { trail = i; job = (let less = visit_below v q i e in (fit q less, less)) }) _ w k

    pub start_ok : (o : Oid) (lasts : List ℕ) (lo : ℕ) (cells : List (ℕ × Cell)) (next : ℕ) → AllBelow t lasts → WalkNext t (walk_start p o lasts lo cells next).to
    unfolding walk_start
    start_ok o lasts lo cells next k = walks_ok next _ (record { pointers = k; last = from_zero t })

    pub walk_ok : (w : Walk) (n : ℕ) (x : Reply) (next : ℕ) → WalkOk t w → WalkNext t (walk_feed p w w.job n x next).to
    walk_ok w n x next k = by w.job _ (walk_came p w n x next w.job) k.job
      where
        by : (o : Option CellJob) (u : Turn Walk Members) → WalkCame p w n x next o u → JobFits t o → WalkNext t u.to
        by _ _ (WalkWaits o next') f = k
        by _ _ (NewerForWalk o next') f = k.trail
        by _ _ (ReadsOn j i e) f = record { trail = k.trail; job = subst (λ (b : Place). Fits b × (b.pos < t)) (sym (subst (Kept j.place j.work) e (cell_kept j n x next)).0) f }
        by _ _ (HasRead j c e) f = walks_ok (cell_feed j n x next).next (read_at w j.place.pos c) (visited_ok t (record w { cells = (read_at w j.place.pos c).cells }) j.place.pos c k.trail f.1)
        by _ _ (MetTrim j b e) f = tt
