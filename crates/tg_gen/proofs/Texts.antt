-- The text of lines, one list of lines after another.
use Rattle.std.proofs.Common.{◌≡◌, ℕ, suc, ◌+◌, ◌*◌, ◌<◌, ◌≤◌, List, [], ◌∷◌, ◌++◌, Bool, true, false, refl, sym, ap, ◌∙◌, arith}
use Rattle.std.specs.Prelude.{◌==◌, Result, Ok, Err, OnOk, Option, Some, IsSome, if◌then◌else◌}
use Rattle.std.proofs.Common.{subst}
use Rattle.std.proofs.lemmas.Bool.Decides.{nat_tests}
use Rattle.tg_script.specs.declared.line.Line.{Line}
use Rattle.tg_gen.specs.declared.round.Round.{Round}
use Rattle.tg_gen.specs.Draws.{first, next, drawn, round_by, round_of}
use Rattle.tg_gen.specs.Loads.{line_text, text, turn_lines, rounds}

regroup : (a b c : List ℕ) → a ++ b ++ c ≡ a ++ (b ++ c)
regroup [] b c = refl
regroup (x ∷ a) b c = ap (λ (z : List ℕ). x ∷ z) (regroup a b c)

nothing : (a : List ℕ) → a ≡ a ++ []
nothing [] = refl
nothing (x ∷ a) = ap (λ (z : List ℕ). x ∷ z) (nothing a)

text_append : (xs ys : List Line) → text (xs ++ ys) ≡ text xs ++ text ys
unfolding text
text_append [] ys = refl
text_append (x ∷ xs) ys = ap (λ (z : List ℕ). line_text x ++ z) (text_append xs ys) ∙ sym (regroup (line_text x) (text xs) (text ys))

pub two : (a b c : List ℕ) (xs ys : List Line) → b ≡ a ++ text xs → c ≡ b ++ text ys → c ≡ a ++ text (xs ++ ys)
two a b c xs ys e f =
    f ∙ ap (λ (z : List ℕ). z ++ text ys) e ∙ regroup a (text xs) (text ys) ∙ ap (λ (z : List ℕ). a ++ z) (sym (text_append xs ys))

pub on_two : {A E : Type 0} (r : Result A E) (a b c : List ℕ) (xs ys : List Line) → b ≡ a ++ text xs → OnOk r (c ≡ b ++ text ys) → OnOk r (c ≡ a ++ text (xs ++ ys))
on_two (Ok x) a b c xs ys e f = two a b c xs ys e f
on_two (Err x) a b c xs ys e f = f

pub text_none : (a : List ℕ) → a ≡ a ++ text []
unfolding text
text_none a = nothing a

none_if : (a : List ℕ) (b : Bool) (xs : List Line) → b ≡ false → a ≡ a ++ text (if b then xs else [])
none_if a true xs e = absurd cc
none_if a false xs e = text_none a

differ : (x y : ℕ) → (x ≡ y → ⊥) → (x == y) ≡ false
differ x y n = grind (arith, nat_tests)

pub none_unless : (a : List ℕ) (x y : ℕ) (xs : List Line) → (x ≡ y → ⊥) → a ≡ a ++ text (if x == y then xs else [])
none_unless a x y xs n = none_if a (x == y) xs (differ x y n)

-- a word is a value, where the one that it equals is
pub some_of : {A : Type 0} (o : Option A) (f : A → Option A) (w x : A) → o ≡ f w → w ≡ x → f x ≡ Some x → IsSome o
some_of {A} o f w x e same is = subst (λ (p : Option A). IsSome p) (sym (e ∙ ap f same ∙ is)) refl

-- Rounds.

pub numbers_first : (start : ℕ) → first start ≡ drawn start (0 * 3)
unfolding drawn
numbers_first start = refl

three_more : (start i : ℕ) → next (next (next (drawn start (i * 3)))) ≡ drawn start (i * 3 + 3)
unfolding drawn
three_more start i =
    let same : suc (suc (suc (i * 3))) ≡ i * 3 + 3 = omega arith in
    ap (drawn start) same

two_more : (start i : ℕ) → next (next (drawn start (i * 3))) ≡ drawn start (i * 3 + 2)
unfolding drawn
two_more start i =
    let same : suc (suc (i * 3)) ≡ i * 3 + 2 = omega arith in
    ap (drawn start) same

one_more : (start i : ℕ) → next (drawn start (i * 3)) ≡ drawn start (i * 3 + 1)
unfolding drawn
one_more start i =
    let same : suc (i * 3) ≡ i * 3 + 1 = omega arith in
    ap (drawn start) same

pub numbers_next : (start i n m : ℕ) → n ≡ drawn start (i * 3) → m ≡ next (next (next n)) → m ≡ drawn start ((i + 1) * 3)
numbers_next start i n m e f =
    let same : i * 3 + 3 ≡ (i + 1) * 3 = omega arith in
    f ∙ ap (λ (k : ℕ). next (next (next k))) e ∙ three_more start i ∙ ap (drawn start) same

round_is : (start i n : ℕ) (r : Round) → n ≡ drawn start (i * 3) → r ≡ round_by (next n) (next (next n)) (next (next (next n))) → r ≡ round_of start i
round_is start i n r e f =
    f ∙ ap (λ (k : ℕ). round_by (next k) (next (next k)) (next (next (next k)))) e
    ∙ ap (λ (k : ℕ). round_by k (next (next (drawn start (i * 3)))) (next (next (next (drawn start (i * 3)))))) (one_more start i)
    ∙ ap (λ (k : ℕ). round_by (drawn start (i * 3 + 1)) k (next (next (next (drawn start (i * 3)))))) (two_more start i)
    ∙ ap (λ (k : ℕ). round_by (drawn start (i * 3 + 1)) (drawn start (i * 3 + 2)) k) (three_more start i)

rounds_more : (start count i : ℕ) → rounds start count i ++ turn_lines count i (round_of start i) ≡ rounds start count (i + 1)
unfolding rounds
rounds_more start count i =
    let same : suc i ≡ i + 1 = omega arith in
    ap (rounds start count) same

pub rounds_next : (start count i n : ℕ) (r : Round) (a b c : List ℕ) → n ≡ drawn start (i * 3) → r ≡ round_by (next n) (next (next n)) (next (next (next n)))
    → b ≡ a ++ text (rounds start count i) → c ≡ b ++ text (turn_lines count i r) → c ≡ a ++ text (rounds start count (i + 1))
rounds_next start count i n r a b c at is so_far e =
    two a b c (rounds start count i) (turn_lines count i (round_of start i)) so_far (e ∙ ap (λ (s : Round). b ++ text (turn_lines count i s)) (round_is start i n r at is))
    ∙ ap (λ (ls : List Line). a ++ text ls) (rounds_more start count i)

pub rounds_none : (start count : ℕ) (a : List ℕ) → a ≡ a ++ text (rounds start count 0)
unfolding rounds
rounds_none start count a = text_none a

pub rounds_all : (start count i : ℕ) (a b : List ℕ) → i ≤ count → count ≤ i → b ≡ a ++ text (rounds start count i) → b ≡ a ++ text (rounds start count count)
rounds_all start count i a b most least e =
    let same : i ≡ count = omega (arith, most, least) in
    e ∙ ap (λ (k : ℕ). a ++ text (rounds start count k)) same

-- a text, and those of two lists of lines
pub whole : (n h b c d : List ℕ) (xs ys : List Line) → n ≡ [] → b ≡ n ++ h → c ≡ b ++ text xs → d ≡ c ++ text ys → d ≡ h ++ text (xs ++ ys)
whole n h b c d xs ys none e f g =
    two b c d xs ys f g ∙ ap (λ (z : List ℕ). z ++ text (xs ++ ys)) (e ∙ ap (λ (z : List ℕ). z ++ h) none)
