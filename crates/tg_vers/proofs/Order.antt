-- The order of parts, and the tests of the definitions by it.
use Rattle.std.specs.Prelude.{◌≡◌, ℕ, Bool, true, false, cond, ◌&&◌, ◌||◌, ◌==◌, nat_lt, List, [], ◌∷◌, refl}
use Rattle.std.specs.Cmp.{IsTotalOrder, nat_cmp_total, unsigned_ties, unsigned_Decides}
use Rattle.std.specs.Cmp.Lexicographic.{slice_cmp, nat_list_cmp_total, texts_ties, bytes_decides}
use Rattle.std.specs.Ordering.{nat_cmp, is_eq, is_lt, ordering_then, ordering_reverse}
use Rattle.std.specs.declared.cmp.Ordering.{Ordering}
use Rattle.std.specs.declared.cmp.Ordering.TheVariants.{Less, Equal, Greater}
use Rattle.std.proofs.Common.{ap, ◌∙◌}
use Rattle.tg_base.specs.Parts.{part_cmp}
use Rattle.tg_base.specs.declared.marks.Part.{Part}
use Rattle.tg_base.specs.declared.marks.Part.TheVariants.{All, Text, Num}
use Rattle.tg_protocol.specs.Words.{bytes_lt, part_lt}
use Rattle.tg_kind.specs.Parts.{part_eq}

turned : (a b : Part) → part_cmp a b ≡ ordering_reverse (part_cmp b a)
turned All All = refl
turned All (Text t) = refl
turned All (Num n) = refl
turned (Text s) All = refl
turned (Text s) (Text t) = nat_list_cmp_total.antisymm s t
turned (Text s) (Num n) = refl
turned (Num m) All = refl
turned (Num m) (Text t) = refl
turned (Num m) (Num n) = nat_cmp_total.antisymm m n

chained : (a b c : Part) → part_cmp a b ≡ Less → part_cmp b c ≡ Less → part_cmp a c ≡ Less
chained All All c h k = absurd cc
chained All (Text t) All h k = absurd cc
chained All (Text t) (Text u) h k = refl
chained All (Text t) (Num n) h k = refl
chained All (Num m) All h k = absurd cc
chained All (Num m) (Text u) h k = absurd cc
chained All (Num m) (Num n) h k = refl
chained (Text s) All c h k = absurd cc
chained (Text s) (Text t) All h k = absurd cc
chained (Text s) (Text t) (Text u) h k = nat_list_cmp_total.trans s t u h k
chained (Text s) (Text t) (Num n) h k = refl
chained (Text s) (Num m) All h k = absurd cc
chained (Text s) (Num m) (Text u) h k = absurd cc
chained (Text s) (Num m) (Num n) h k = refl
chained (Num m) All c h k = absurd cc
chained (Num m) (Text t) c h k = absurd cc
chained (Num m) (Num n) All h k = absurd cc
chained (Num m) (Num n) (Text u) h k = absurd cc
chained (Num m) (Num n) (Num p) h k = nat_cmp_total.trans m n p h k

same_text : (s t : List ℕ) → slice_cmp nat_cmp s t ≡ Equal → s ≡ t
same_text s t e = (bytes_decides s t).0 (texts_ties s t ∙ ap is_eq e)

same_num : (m n : ℕ) → nat_cmp m n ≡ Equal → m ≡ n
same_num m n e = (unsigned_Decides m n).0 (unsigned_ties m n ∙ ap is_eq e)

-- parts that the order doesn't tell apart are the same
pub same_part : (a b : Part) → part_cmp a b ≡ Equal → a ≡ b
same_part All All e = refl
same_part All (Text t) e = absurd cc
same_part All (Num n) e = absurd cc
same_part (Text s) All e = absurd cc
same_part (Text s) (Text t) e = ap Text (same_text s t e)
same_part (Text s) (Num n) e = absurd cc
same_part (Num m) All e = absurd cc
same_part (Num m) (Text t) e = absurd cc
same_part (Num m) (Num n) e = ap Num (same_num m n e)

pub part_total : IsTotalOrder part_cmp
part_total = record {
  antisymm = turned;
  trans = chained;
  congr = λ a b c e. ap (λ (p : Part). part_cmp p c) (same_part a b e);
}

below_then : (below level : Bool) (rest : Bool) (r : Ordering) → rest ≡ is_lt r → (below || (level && rest)) ≡ is_lt (ordering_then (cond below Less (cond level Equal Greater)) r)
below_then true level rest r e = refl
below_then false true rest r e = e
below_then false false rest r e = refl

texts_lt : (s t : List ℕ) → bytes_lt s t ≡ is_lt (slice_cmp nat_cmp s t)
unfolding bytes_lt
texts_lt [] [] = refl
texts_lt [] (y ∷ ys) = refl
texts_lt (x ∷ xs) [] = refl
texts_lt (x ∷ xs) (y ∷ ys) = below_then (nat_lt x y) (x == y) (bytes_lt xs ys) (slice_cmp nat_cmp xs ys) (texts_lt xs ys)

numbers_lt : (below level : Bool) → below ≡ is_lt (cond below Less (cond level Equal Greater))
numbers_lt true level = refl
numbers_lt false true = refl
numbers_lt false false = refl

pub part_eq_is : (a b : Part) → part_eq a b ≡ is_eq (part_cmp a b)
part_eq_is All All = refl
part_eq_is All (Text t) = refl
part_eq_is All (Num n) = refl
part_eq_is (Text s) All = refl
part_eq_is (Text s) (Text t) = texts_ties s t
part_eq_is (Text s) (Num n) = refl
part_eq_is (Num m) All = refl
part_eq_is (Num m) (Text t) = refl
part_eq_is (Num m) (Num n) = unsigned_ties m n

pub part_lt_is : (a b : Part) → part_lt a b ≡ is_lt (part_cmp a b)
unfolding part_lt
part_lt_is All All = refl
part_lt_is All (Text t) = refl
part_lt_is All (Num n) = refl
part_lt_is (Text s) All = refl
part_lt_is (Text s) (Text t) = texts_lt s t
part_lt_is (Text s) (Num n) = refl
part_lt_is (Num m) All = refl
part_lt_is (Num m) (Text t) = refl
part_lt_is (Num m) (Num n) = numbers_lt (nat_lt m n) (m == n)
