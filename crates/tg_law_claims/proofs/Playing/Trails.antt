-- Where a walk of a stream reads next is on the path over any log that has the cells by which it came there.
use Rattle.std.proofs.Common.{◌≡◌, ℕ, zero, suc, ◌+◌, ◌<◌, ◌≤◌, List, [], ◌∷◌, Bool, refl, sym, subst, inl, inr, arith, Option, Some, None}
use Rattle.tg_base.specs.declared.cell.Cell.{Cell}
use Rattle.tg_base.specs.declared.ids.Oid.{Oid}
use Rattle.tg_protocol.specs.Words.{cell_at}
use Rattle.tg_protocol.specs.Walking.{Trail, trail, go_down, next_on, next_of_trail, rest_of, trail_after, pointers_at}
use Rattle.tg_protocol.specs.Logs.{Log, path_on, first_on, path}
use Rattle.tg_law_layouts.proofs.Moves.Members.{Has}
use Rattle.tg_law_walks.specs.Walks.Streams.{AreFalling}

-- a log has each of these cells
abbrev pub HasCells : Log → List (ℕ × Cell) → Type 0
HasCells l cells = (q : ℕ) (c : Cell) → cell_at cells q ≡ Some c → cell_at l q ≡ Some c

-- what a cell of a log tells of a stream falls below it
abbrev pub ListsFall : Log → Type 0
ListsFall l = (o : Oid) (q : ℕ) (c : Cell) (ps : List ℕ) → cell_at l q ≡ Some c → pointers_at o q c ≡ Some ps → AreFalling q ps

-- where a trail goes on is below a position
pub record IsBelow (n : ℕ) (t : Trail) : Type 0 where
  pub falling : AreFalling n t.pointers
  pub last : t.last ≤ n

pub falls_more : (a b : ℕ) (ps : List ℕ) → a ≤ b → AreFalling a ps → AreFalling b ps
falls_more a b [] le f = tt
falls_more a b (q ∷ qs) le f = (let x = f.0 in omega (arith, x, le), f.1)

goes_down : (b : Bool) (last q : ℕ) → go_down b last ≡ Some q → q < last
goes_down b last q e = grind arith

some_num : (a b : ℕ) → Some a ≡ Some b → a ≡ b
some_num a b e = cc

next_below : (n : ℕ) (t : Trail) (q : ℕ) → IsBelow n t → next_of_trail t ≡ Some q → q < n
next_below n t q k e = by t.pointers k.falling e
  where
    by : (ps : List ℕ) → AreFalling n ps → next_on t ps ≡ Some q → q < n
    by [] f e = let d = goes_down t.were_four t.last q e in let l = k.last in omega (arith, d, l)
    by (p ∷ ps) f e = let s = some_num p q e in let a = f.0 in omega (arith, s, a)

after_below : (n : ℕ) (t : Trail) (q : ℕ) (o : Option (List ℕ)) → IsBelow (suc n) t → next_of_trail t ≡ Some q → ((ps : List ℕ) → o ≡ Some ps → AreFalling q ps) → IsBelow n (trail_after t q o)
after_below n t q o k e f = by o f
  where
    low : q ≤ n
    low = let a = next_below (suc n) t q k e in omega (arith, a)

    rest : (ps : List ℕ) → AreFalling (suc n) ps → next_on t ps ≡ Some q → AreFalling n (rest_of ps)
    rest [] g i = tt
    rest (p ∷ ps) g i = falls_more p n ps (let s = some_num p q i in omega (arith, s, low)) g.1

    by : (o : Option (List ℕ)) → ((ps : List ℕ) → o ≡ Some ps → AreFalling q ps) → IsBelow n (trail_after t q o)
    by None g = record { falling = rest t.pointers k.falling e; last = low }
    by (Some ps) g = record { falling = falls_more q n ps low (g ps refl); last = low }

-- The path.

module _ (l : Log) (o : Oid) where
  at_cell : ℕ → Trail → ℕ → Option Cell → List ℕ
  at_cell n t q x = elim x as (λ _. List ℕ) [
    | None ↦ q ∷ []
    | Some c ↦ q ∷ path_on l o n (trail_after t q (pointers_at o q c))
  ]

  at_next : ℕ → Trail → Option ℕ → List ℕ
  at_next n t x = elim x as (λ _. List ℕ) [
    | None ↦ []
    | Some q ↦ at_cell n t q (cell_at l q)
  ]

  path_is : (n : ℕ) (t : Trail) → path_on l o (suc n) t ≡ at_next n t (next_of_trail t)
  unfolding path_on at_next at_cell
  path_is n t = refl

  first_here : (n : ℕ) (t : Trail) (q : ℕ) (x : Option Cell) → Has (at_cell n t q x) q
  unfolding at_cell
  first_here n t q None = inl refl
  first_here n t q (Some c) = inl refl

  some_here : (n : ℕ) (t : Trail) (q : ℕ) (x : Option ℕ) → x ≡ Some q → Has (at_next n t x) q
  unfolding at_next
  some_here n t q None e = absurd (cc)
  some_here n t q (Some p) e = subst (λ (z : ℕ). Has (at_cell n t p (cell_at l p)) z) (some_num p q e) (first_here n t p (cell_at l p))

  -- where a trail goes on is on its path
  next_here : (n : ℕ) (t : Trail) (q : ℕ) → next_of_trail t ≡ Some q → Has (path_on l o (suc n) t) q
  next_here n t q e = subst (λ (ps : List ℕ). Has ps q) (sym (path_is n t)) (some_here n t q (next_of_trail t) e)

  rest_here : (n : ℕ) (t : Trail) (q : ℕ) (c : Cell) (p : ℕ) (x : Option Cell) → x ≡ Some c → Has (path_on l o n (trail_after t q (pointers_at o q c))) p → Has (at_cell n t q x) p
  unfolding at_cell
  rest_here n t q c p None e h = absurd (cc)
  rest_here n t q c p (Some d) e h = inr (subst (λ (z : Cell). Has (path_on l o n (trail_after t q (pointers_at o q z))) p) (same e) h)
    where
      same : Some d ≡ Some c → c ≡ d
      same e = cc

  more_here : (n : ℕ) (t : Trail) (q : ℕ) (c : Cell) (p : ℕ) (x : Option ℕ) → x ≡ Some q → cell_at l q ≡ Some c → Has (path_on l o n (trail_after t q (pointers_at o q c))) p → Has (at_next n t x) p
  unfolding at_next
  more_here n t q c p None e i h = absurd (cc)
  more_here n t q c p (Some r) e i h = subst (λ (z : ℕ). Has (at_cell n t z (cell_at l z)) p) (some_num q r (sym e)) (rest_here n t q c p (cell_at l q) i h)

  -- and so is the path from the trail after the cell there
  on_here : (n : ℕ) (t : Trail) (q : ℕ) (c : Cell) (p : ℕ) → next_of_trail t ≡ Some q → cell_at l q ≡ Some c → Has (path_on l o n (trail_after t q (pointers_at o q c))) p → Has (path_on l o (suc n) t) p
  on_here n t q c p e i h = subst (λ (ps : List ℕ). Has ps p) (sym (path_is n t)) (more_here n t q c p (next_of_trail t) e i h)

-- the path from a trail has that from another
pub record IsRest (l : Log) (o : Oid) (n : ℕ) (from t : Trail) : Type 0 where
  pub count : ℕ
  pub below : IsBelow count t
  pub path : (p : ℕ) → Has (path_on l o count t) p → Has (path_on l o n from) p

-- a walk has come from a trail to another by these cells
abbrev pub Leads : List (ℕ × Cell) → Oid → Trail → Trail → Type 0
Leads cells o from t = (l : Log) (n : ℕ) → HasCells l cells → ListsFall l → IsBelow n from → IsRest l o n from t

pub begins : (cells : List (ℕ × Cell)) (o : Oid) (from : Trail) → Leads cells o from from
begins cells o from l n has falls below = record { count = n; below = below; path = λ p h. h }

none_next : {X : Type 0} (t : Trail) (q : ℕ) → IsBelow 0 t → next_of_trail t ≡ Some q → X
none_next t q k e = let a = next_below 0 t q k e in absurd (omega (arith, a))

pub visits : (cells : List (ℕ × Cell)) (o : Oid) (from t : Trail) (q : ℕ) (c : Cell) → Leads cells o from t → next_of_trail t ≡ Some q → cell_at cells q ≡ Some c → Leads cells o from (trail_after t q (pointers_at o q c))
visits cells o from t q c leads e i l n has falls below = by r.count r.below r.path
  where
    r : IsRest l o n from t
    r = leads l n has falls below

    by : (k : ℕ) → IsBelow k t → ((p : ℕ) → Has (path_on l o k t) p → Has (path_on l o n from) p) → IsRest l o n from (trail_after t q (pointers_at o q c))
    by zero b f = none_next t q b e
    by (suc k) b f = record {
      count = k;
      below = after_below k t q (pointers_at o q c) b e (λ ps is. falls o q c ps (has q c i) is);
      path = λ p h. f p (on_here l o k t q c p e (has q c i) h);
    }

pub more_leads : (cells more : List (ℕ × Cell)) (o : Oid) (from t : Trail) → ((q : ℕ) (c : Cell) → cell_at cells q ≡ Some c → cell_at more q ≡ Some c) → Leads cells o from t → Leads more o from t
more_leads cells more o from t f leads l n has falls below = leads l n (λ q c e. has q c (f q c e)) falls below

-- where it goes on is on the path of the list with which it began
pub on_path : (l : Log) (cells : List (ℕ × Cell)) (o : Oid) (ps : List ℕ) (t : Trail) (x q : ℕ) → Leads cells o (trail ps 0) t → HasCells l cells → ListsFall l → AreFalling x ps → next_of_trail t ≡ Some q → Has (path l o ps) q
unfolding path
on_path l cells o ps t x q leads has falls list e = by r.count r.below r.path
  where
    start : (ps : List ℕ) → AreFalling x ps → AreFalling (first_on ps + 2) ps
    start [] f = tt
    start (p ∷ ps) f = (omega arith, f.1)

    r : IsRest l o (first_on ps + 2) (trail ps 0) t
    r = leads l (first_on ps + 2) has falls (record { falling = start ps list; last = omega arith })

    by : (k : ℕ) → IsBelow k t → ((p : ℕ) → Has (path_on l o k t) p → Has (path_on l o (first_on ps + 2) (trail ps 0)) p) → Has (path_on l o (first_on ps + 2) (trail ps 0)) q
    by zero b f = none_next t q b e
    by (suc k) b f = f q (next_here l o k t q e)

-- an empty list has no path
pub no_path : {X : Type 0} (l : Log) (o : Oid) (q : ℕ) → Has (path l o []) q → X
unfolding path path_on
no_path l o q h = absurd h
