-- What several reads or writes give and take.
use Rattle.std.proofs.Common.{arith, ℕ, List, [], ◌++◌, take, drop, Option, Some, None, refl, ap, sym, subst, ◌∙◌}
use Rattle.std.proofs.lemmas.List.{take-append-drop, append_assoc, append-nil}
use Rattle.tg_io.specs.Bytes.{Gives, Grows, Takes, TakesFront}

-- two reads give what one of both pieces would
pub gives_more : (a b c : Option (List ℕ)) (x y : List ℕ) → Gives a x b → Gives b y c → Gives a (x ++ y) c
gives_more None b c x y h k = grind arith
gives_more (Some bytes) b c x y (rest, e, f) k =
    let (last, i, j) : Gives (Some rest) y c = subst (λ o. Gives o y c) f k in
    (last, e ∙ ap (λ r. x ++ r) i ∙ sym (append_assoc x y last), j)

-- what stays grows by nothing
pub grows_none : {X : Type 0} → (a : Option (List X)) → Grows a [] a
grows_none None = refl
grows_none (Some xs) = ap Some (sym (append-nil xs))

-- two growths are one by both
pub grows_more : {X : Type 0} → (a b c : Option (List X)) (x y : List X) → Grows a x b → Grows b y c → Grows a (x ++ y) c
grows_more None b c x y h k = grind arith
grows_more (Some xs) b c x y h k = grind (arith, append_assoc)

-- the first bytes of a piece are a front of it
pub takes_front : (n : ℕ) (a b : Option (List ℕ)) (piece : List ℕ) → Takes a (take n piece) b → TakesFront a piece b
takes_front n a b piece h = (take n piece, drop n piece, sym (take-append-drop n piece), h)

-- a front of a piece is one of a longer piece
pub front_wider : (a b : Option (List ℕ)) (x y : List ℕ) → TakesFront a x b → TakesFront a (x ++ y) b
front_wider a b x y (front, rest, e, h) = (front, rest ++ y, ap (λ z. z ++ y) e ∙ append_assoc front rest y, h)

-- a piece and then a front of the next is a front of both
pub front_after : (a b c : Option (List ℕ)) (x y : List ℕ) → Takes a x b → TakesFront b y c → TakesFront a (x ++ y) c
front_after a b c x y h (front, rest, e, k) =
    (x ++ front, rest, ap (λ z. x ++ z) e ∙ sym (append_assoc x front rest), grows_more a b c x front h k)
