-- Steps of the loops over the numbers of a set.
use Rattle.std.specs.Prelude.{◌≡◌, ℕ, ◌<◌, Bool, true, nat_lt, List, [], ◌∷◌, ◌++◌, length, Option, Some, None, refl}
use Rattle.std.specs.List.{list_all}
use Rattle.std.specs.Ordering.{nat_cmp, match_ordering}
use Rattle.std.specs.declared.cmp.Ordering.TheVariants.{Less, Equal, Greater}
use Rattle.std.specs.BTreeSet.{insert_key}
use Rattle.std.specs.Int.{w64, to_be_bytes}
use Rattle.std.proofs.Common.{ap, sym, ◌∙◌, append_assoc, arith}
use Rattle.std.proofs.lemmas.Bool.{lt-ltb, ltb-true}
use Rattle.std.proofs.lemmas.Cmp.{ranked}
use Rattle.tg_codec.specs.Codec.{spell_many}
use Rattle.tg_codec.proofs.Laws.{and-left, and-right, both}
use Rattle.tg_set.specs.Sets.{Numbers, most, with_number, rises, number_format, after_number}

-- all numbers are below one
abbrev pub are_below : Numbers → ℕ → Bool
are_below numbers n = list_all (λ m. nat_lt m n) numbers

inserted_last : (numbers : Numbers) (n : ℕ) → are_below numbers n ≡ true → insert_key nat_cmp numbers n ≡ numbers ++ n ∷ []
inserted_last [] n below = refl
inserted_last (x ∷ numbers) n below =
    let test : nat_lt x n ≡ true = and-left _ _ below in
    let lt : x < n = ltb-true _ _ test in
    elim (nat_cmp n x) as (λ o. o ≡ nat_cmp n x → match_ordering o (n ∷ x ∷ numbers) (x ∷ numbers) (x ∷ insert_key nat_cmp numbers n) ≡ x ∷ (numbers ++ n ∷ [])) [
      | Less ↦ λ is. let no_less : n < x = ranked n x Less is in absurd (omega (arith, lt, no_less))
      | Equal ↦ λ is. let no_equal : n ≡ x = ranked n x Equal is in absurd (omega (arith, lt, no_equal))
      | Greater ↦ λ is. ap (λ (ns : Numbers). x ∷ ns) (inserted_last numbers n (and-right _ _ below))
    ] refl

-- a number above all others goes last, where there is room
pub with_last : (numbers : Numbers) (n : ℕ) → length numbers < most → are_below numbers n ≡ true → with_number numbers n ≡ numbers ++ n ∷ []
with_last numbers n lt below = let room : nat_lt (length numbers) most ≡ true = lt-ltb _ _ lt in rw room (inserted_last numbers n below)

below_on : (numbers : Numbers) (n q : ℕ) → n < q → are_below numbers n ≡ true → are_below (numbers ++ n ∷ []) q ≡ true
below_on [] n q lt below = both _ _ (lt-ltb _ _ lt) refl
below_on (x ∷ numbers) n q lt below =
    let test : nat_lt x n ≡ true = and-left _ _ below in
    let less : x < n = ltb-true _ _ test in
    both _ _ (lt-ltb _ _ (omega (arith, lt, less))) (below_on numbers n q lt (and-right _ _ below))

-- all numbers are below each that may follow the last
abbrev pub EndsAt : Numbers → Option ℕ → Type 0
EndsAt numbers last = (q : ℕ) → rises last q ≡ true → are_below numbers q ≡ true

pub ends_on : (numbers : Numbers) (last : Option ℕ) (n : ℕ) → rises last n ≡ true → EndsAt numbers last → EndsAt (numbers ++ n ∷ []) (Some n)
ends_on numbers last n e ends q up = let lt : n < q = ltb-true _ _ up in below_on numbers n q lt (ends n e)

-- a number's bytes don't depend on the one before it
spell_any : (numbers : Numbers) (s t : Option ℕ) → spell_many number_format after_number s numbers ≡ spell_many number_format after_number t numbers
unfolding spell_many
spell_any [] s t = refl
spell_any (x ∷ numbers) s t = refl

-- one number more is put
pub put_on : (out new : List ℕ) (n : ℕ) (left numbers : Numbers) (total : List ℕ) → left ≡ n ∷ numbers → new ≡ out ++ to_be_bytes w64 n
    → out ++ spell_many number_format after_number None left ≡ total → new ++ spell_many number_format after_number None numbers ≡ total
unfolding spell_many
put_on out new n left numbers total front put so_far =
    let bytes = to_be_bytes w64 n in
    ap (λ (o : List ℕ). o ++ spell_many number_format after_number None numbers) put
    ∙ append_assoc out bytes (spell_many number_format after_number None numbers)
    ∙ ap (λ (rest : List ℕ). out ++ (bytes ++ rest)) (spell_any numbers None (Some n))
    ∙ ap (λ (ns : Numbers). out ++ spell_many number_format after_number None ns) (sym front)
    ∙ so_far

-- no number is left
pub put_all : (out : List ℕ) (left : Numbers) (total : List ℕ) → left ≡ [] → out ++ spell_many number_format after_number None left ≡ total → out ++ [] ≡ total
unfolding spell_many
put_all out left total none so_far = ap (λ (ns : Numbers). out ++ spell_many number_format after_number None ns) (sym none) ∙ so_far
