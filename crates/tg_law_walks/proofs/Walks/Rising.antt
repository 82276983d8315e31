-- Rising lists of positions: two that have the same ones are one, and those of a stream rise.
use Rattle.std.proofs.Common.{◌≡◌, ℕ, ◌+◌, ◌≤◌, List, [], ◌∷◌, Bool, true, false, refl, sym, ap, ◌∙◌, subst, inl, inr, arith, filter, cond}
use Rattle.std.specs.Prelude.{nat_lt, nat_le, ◌&&◌, if◌then◌else◌}
use Rattle.tg_base.specs.declared.ids.Oid.{Oid}
use Rattle.tg_protocol.specs.Entries.{lists}
use Rattle.tg_protocol.specs.Views.{Entries}
use Rattle.tg_protocol.specs.Logs.{Log, entries_of, members_in, members}
use Rattle.tg_law_replies.specs.Plays.Sound.{rise_from}
use Rattle.tg_law_walks.specs.Walks.Streams.{rises, IsByPosition}
use Rattle.tg_law_walks.proofs.Walks.Members.{Has, and_both, both_and, of_le}
use Rattle.tg_law_walks.proofs.Walks.Cells.{entries_rise, rises_next}
use Rattle.tg_law_walks.proofs.Walks.Positions.{rises_less}

le_of : (a b : ℕ) → nat_le a b ≡ true → a ≤ b
le_of a b e = grind arith

least : (low : ℕ) (xs : List ℕ) (q : ℕ) → rises low xs ≡ true → Has xs q → low ≤ q
least low [] q h i = absurd i
least low (x ∷ xs) q h (inl e) = let a = le_of low x (and_both (nat_le low x) (rises (x + 1) xs) h).0 in omega (arith, a, e)
least low (x ∷ xs) q h (inr i) = let k = and_both (nat_le low x) (rises (x + 1) xs) h in let a = le_of low x k.0 in let b = least (x + 1) xs q k.1 i in omega (arith, a, b)

first_least : (low x : ℕ) (xs : List ℕ) (q : ℕ) → rises low (x ∷ xs) ≡ true → Has (x ∷ xs) q → x ≤ q
first_least low x xs q h (inl e) = omega (arith, e)
first_least low x xs q h (inr i) = let b = least (x + 1) xs q (and_both (nat_le low x) (rises (x + 1) xs) h).1 i in omega (arith, b)

past_first : (x : ℕ) (xs : List ℕ) (q : ℕ) → x + 1 ≤ q → Has (x ∷ xs) q → Has xs q
past_first x xs q more (inl e) = absurd (omega (arith, more, e))
past_first x xs q more (inr i) = i

pub same_rising : (low : ℕ) (xs ys : List ℕ) → rises low xs ≡ true → rises low ys ≡ true → ((q : ℕ) → Has xs q → Has ys q) → ((q : ℕ) → Has ys q → Has xs q) → xs ≡ ys
same_rising low [] [] h k f g = refl
same_rising low [] (y ∷ ys) h k f g = absurd (g y (inl refl))
same_rising low (x ∷ xs) [] h k f g = absurd (f x (inl refl))
same_rising low (x ∷ xs) (y ∷ ys) h k f g =
    let a = first_least low y ys x k (f x (inl refl)) in
    let b = first_least low x xs y h (g y (inl refl)) in
    let at : x ≡ y = omega (arith, a, b) in
    let hx = (and_both (nat_le low x) (rises (x + 1) xs) h).1 in
    let ky : rises (x + 1) ys ≡ true = subst (λ n. rises (n + 1) ys ≡ true) (sym at) (and_both (nat_le low y) (rises (y + 1) ys) k).1 in
    ap (λ n. n ∷ xs) at
    ∙ ap (λ zs. y ∷ zs) (same_rising (x + 1) xs ys hx ky
    (λ q i. past_first y ys q (let c = least (x + 1) xs q hx i in omega (arith, c, at)) (f q (inr i)))
    (λ q i. past_first x xs q (least (x + 1) ys q ky i) (g q (inr i))))

pub filter_has : (f : ℕ → Bool) (xs : List ℕ) (q : ℕ) → Has (filter f xs) q → Has xs q
filter_has f [] q i = absurd i
filter_has f (x ∷ xs) q i = by (f x) i (λ j. filter_has f xs q j)
  where
    by : (b : Bool) → Has (cond b (x ∷ filter f xs) (filter f xs)) q → (Has (filter f xs) q → Has xs q) → Has (x ∷ xs) q
    by true (inl e) rest = inl e
    by true (inr j) rest = inr (rest j)
    by false j rest = inr (rest j)

-- The positions of a stream.

in_rises : (low : ℕ) (es : Entries) (o : Oid) (lo hi : ℕ) → rise_from low es ≡ true → rises low (members_in es o lo hi) ≡ true
in_rises low [] o lo hi h = refl
in_rises low (x ∷ es) o lo hi h = by (nat_le lo x.0 && nat_lt x.0 hi && lists x.1 o) (in_rises (x.0 + 1) es o lo hi (rises_next low x es h).1)
  where
    by : (b : Bool) → rises (x.0 + 1) (members_in es o lo hi) ≡ true → rises low (if b then x.0 ∷ members_in es o lo hi else members_in es o lo hi) ≡ true
    by true rest = both_and (nat_le low x.0) (rises (x.0 + 1) (members_in es o lo hi)) (of_le low x.0 (rises_next low x es h).0) rest
    by false rest = let le = (rises_next low x es h).0 in rises_less (x.0 + 1) low (members_in es o lo hi) (omega (arith, le)) rest

in_from : (es : Entries) (o : Oid) (lo hi p : ℕ) → Has (members_in es o lo hi) p → lo ≤ p
in_from [] o lo hi p i = absurd i
in_from (x ∷ es) o lo hi p i = by (nat_le lo x.0 && nat_lt x.0 hi && lists x.1 o) refl i (λ j. in_from es o lo hi p j)
  where
    first : (a b c : Bool) → (a && b && c) ≡ true → a ≡ true
    first a b c f = grind arith

    by : (b : Bool) → (nat_le lo x.0 && nat_lt x.0 hi && lists x.1 o) ≡ b → Has (if b then x.0 ∷ members_in es o lo hi else members_in es o lo hi) p → (Has (members_in es o lo hi) p → lo ≤ p) → lo ≤ p
    by true t (inl e) rest = let a = le_of lo x.0 (first (nat_le lo x.0) (nat_lt x.0 hi) (lists x.1 o) t) in omega (arith, a, e)
    by true t (inr j) rest = rest j
    by false t j rest = rest j

pub stretch_rises : (l : Log) (o : Oid) (lo hi : ℕ) → IsByPosition l → rises 0 (members l o lo hi) ≡ true
unfolding members
stretch_rises l o lo hi byp = in_rises 0 (entries_of l) o lo hi (entries_rise 0 l byp)

pub stretch_from : (l : Log) (o : Oid) (lo hi q : ℕ) → Has (members l o lo hi) q → lo ≤ q
unfolding members
stretch_from l o lo hi q i = in_from (entries_of l) o lo hi q i
