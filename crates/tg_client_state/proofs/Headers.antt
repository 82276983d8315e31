-- The objects of a header that keeps the rules are such as a directory lists at first.
use Rattle.std.proofs.Common.{◌≡◌, Bool, true, false, List, [], ◌∷◌, refl, sym, ap, ◌∙◌, arith}
use Rattle.std.specs.Prelude.{not, ◌&&◌, ◌||◌, ◌==◌, nat_le, length, map}
use Rattle.std.specs.List.{list_all}
use Rattle.std.proofs.lemmas.Bool.{true≢false}
use Rattle.std.proofs.lemmas.Bool.Decides.{nat_tests}
use Rattle.tg_base.specs.Clusters.{Header, IsHeader, number_of, is_user_object, are_objects}
use Rattle.tg_base.specs.Units.{has, is_distinct}
use Rattle.tg_base.specs.declared.ids.Oid.{Oid}
use Rattle.tg_kind.specs.Headers.{is_header, names, distinct, directory}

pub first_true : (a b : Bool) → (a && b) ≡ true → a ≡ true
first_true true b e = refl
first_true false b e = absurd (true≢false (sym e))

pub rest_true : (a b : Bool) → (a && b) ≡ true → b ≡ true
rest_true true b e = e
rest_true false b e = absurd (true≢false (sym e))

pub both : (a b : Bool) → a ≡ true → b ≡ true → (a && b) ≡ true
both true b d e = e
both false b d e = absurd (true≢false (sym d))

names_number : (o : Oid) (os : List Oid) → has (map number_of os) o.0 ≡ names o os
names_number o [] = refl
names_number o (p ∷ os) = ap (λ (b : Bool). (p.0 == o.0) || b) (names_number o os)

distinct_numbers : (os : List Oid) → is_distinct (map number_of os) ≡ distinct os
distinct_numbers [] = refl
distinct_numbers (o ∷ os) = λ i. not (names_number o os i) && distinct_numbers os i

no_directory : (os : List Oid) → list_all is_user_object os ≡ true → names directory os ≡ false
no_directory [] e = refl
no_directory (o ∷ os) e =
    let user : is_user_object o ≡ true = first_true _ _ e in
    let zero : (o.0 == 0) ≡ false = grind (arith, nat_tests) in
    ap (λ (b : Bool). b || names directory os) zero ∙ no_directory os (rest_true (is_user_object o) _ e)

objects_kept : (os : List Oid) → are_objects os ≡ true → is_header os ≡ true
objects_kept os e =
    let few : nat_le (length os) 256 ≡ true = first_true _ _ (first_true _ _ e) in
    let user : list_all is_user_object os ≡ true = rest_true _ _ (first_true _ _ e) in
    let apart : is_distinct (map number_of os) ≡ true = rest_true _ _ e in
    both _ _ (both _ _ few (sym (distinct_numbers os) ∙ apart)) (ap not (no_directory os user))

pub header_kept : (h : Header) → IsHeader h → is_header h.objects ≡ true
header_kept h e = objects_kept h.objects (rest_true _ _ e)
