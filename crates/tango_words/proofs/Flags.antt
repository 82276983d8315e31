-- A word that begins with `-` is in no form.
use Rattle.std.proofs.Common.{◌≡◌, ◌∙◌, ◌||◌, ℕ, Bool, true, false, refl, sym, ap, subst, arith, List, [], ◌∷◌, Option, Some, None, codes}
use Rattle.std.specs.Prelude.{◌&&◌, if◌then◌else◌, nat_le, option_and_then, option_map}
use Rattle.std.specs.List.{list_any}
use Rattle.std.specs.Str.{bytes_eq}
use Rattle.std.specs.Str.Parse.{AllDigits}
use Rattle.std.proofs.lemmas.Bool.{eqb-true}
use Rattle.std.proofs.lemmas.Fmt.{decimal_is_IsNumeral}
use Rattle.std.proofs.lemmas.Slice.Eq.{bytes_eq-Decides}
use Rattle.std.proofs.lemmas.Str.Parse.{digit_from_value}
use Rattle.tg_any.specs.Decimals.{number_in}
use Rattle.tg_any.proofs.Numbers.{number_in_none}
use Rattle.tango_words.specs.declared.forms.Form.{Form}
use Rattle.tango_words.specs.declared.forms.Form.TheVariants.{Replay, Live, Node, Bench, Audit}
use Rattle.tango_words.specs.Forms.{alone, form_by, form_of, node_in, number_from, of_bench, of_node}
use Rattle.tango_words.specs.Commands.{begins_with_dash}

abbrev Text : Type 0
Text = List ℕ

-- each name is one of the five, or no form has it
pub by_name : (P : Text → Type 0) → P (codes "replay") → P (codes "live") → P (codes "node") → P (codes "bench") → P (codes "audit")
    → (name : Text)
    → (bytes_eq name (codes "replay") ≡ false → bytes_eq name (codes "live") ≡ false → bytes_eq name (codes "node") ≡ false → bytes_eq name (codes "bench") ≡ false
    → bytes_eq name (codes "audit") ≡ false → P name)
    → P name
by_name P replay live node bench audit name other = one (bytes_eq name (codes "replay")) refl
  where
    is : (word : Text) → bytes_eq name word ≡ true → P word → P name
    is word same p = subst P (sym ((bytes_eq-Decides name word).0 same)) p

    five : bytes_eq name (codes "replay") ≡ false → bytes_eq name (codes "live") ≡ false → bytes_eq name (codes "node") ≡ false → bytes_eq name (codes "bench") ≡ false
        → (b : Bool) → bytes_eq name (codes "audit") ≡ b → P name
    five p q r s true e = is _ e audit
    five p q r s false e = other p q r s e

    four : bytes_eq name (codes "replay") ≡ false → bytes_eq name (codes "live") ≡ false → bytes_eq name (codes "node") ≡ false
        → (b : Bool) → bytes_eq name (codes "bench") ≡ b → P name
    four p q r true e = is _ e bench
    four p q r false e = five p q r e (bytes_eq name (codes "audit")) refl

    three : bytes_eq name (codes "replay") ≡ false → bytes_eq name (codes "live") ≡ false → (b : Bool) → bytes_eq name (codes "node") ≡ b → P name
    three p q true e = is _ e node
    three p q false e = four p q e (bytes_eq name (codes "bench")) refl

    two : bytes_eq name (codes "replay") ≡ false → (b : Bool) → bytes_eq name (codes "live") ≡ b → P name
    two p true e = is _ e live
    two p false e = three p e (bytes_eq name (codes "node")) refl

    one : (b : Bool) → bytes_eq name (codes "replay") ≡ b → P name
    one true e = is _ e replay
    one false e = two e (bytes_eq name (codes "live")) refl

pub others_are_none : (name : Text) (own : List Text) → bytes_eq name (codes "replay") ≡ false → bytes_eq name (codes "live") ≡ false → bytes_eq name (codes "node") ≡ false
    → bytes_eq name (codes "bench") ≡ false → bytes_eq name (codes "audit") ≡ false → form_by name own ≡ None
others_are_none name own p q r s t = rw (p, q, r, s, t) refl

-- ---- a flag is no number and no node

minus_is_no_number : (rest : Text) → number_in (45 ∷ rest) ≡ None
minus_is_no_number rest =
    sym (number_in_none (45 ∷ rest) (λ n small is. omega (arith, digit_from_value 45 (subst (AllDigits 10) (sym is) (decimal_is_IsNumeral n small).0.1).0)))

flag_is_no_number : (word : Text) → begins_with_dash word ≡ true → number_in word ≡ None
flag_is_no_number [] e = cc
flag_is_no_number (first ∷ rest) e = ap (λ (b : ℕ). number_in (b ∷ rest)) (eqb-true _ _ e) ∙ minus_is_no_number rest

flag_is_no_node : (word : Text) → begins_with_dash word ≡ true → node_in word ≡ None
flag_is_no_node [] e = cc
flag_is_no_node (first ∷ rest) e = ap (λ (b : ℕ). node_in (b ∷ rest)) (eqb-true _ _ e)

-- ---- a flag among a form's own words

no_own : (form : Form) (own : List Text) → list_any begins_with_dash own ≡ true → alone form own ≡ None
no_own form [] e = cc
no_own form (word ∷ rest) e = refl

or_false : (b : Bool) → (b || false) ≡ true → b ≡ true
or_false true e = refl
or_false false e = e

no_node : (own : List Text) → list_any begins_with_dash own ≡ true → of_node own ≡ None
no_node [] e = refl
no_node (id ∷ []) e = ap (option_map Node) (flag_is_no_node id (or_false _ e))
no_node (id ∷ next ∷ rest) e = refl

abbrev no_count : Option ℕ
no_count = None

no_bench : (own : List Text) → list_any begins_with_dash own ≡ true → of_bench own ≡ None
no_bench [] e = refl
no_bench (start ∷ []) e = refl
no_bench (start ∷ count ∷ []) e = go (begins_with_dash start) refl e
  where
    ends : (o : Option ℕ) → option_and_then (λ s. option_map (λ n. Bench s n) no_count) o ≡ None
    ends None = refl
    ends (Some s) = refl

    go : (b : Bool) → begins_with_dash start ≡ b → (b || (begins_with_dash count || false)) ≡ true → of_bench (start ∷ count ∷ []) ≡ None
    go true flag any = ap (option_and_then (λ s. option_map (λ n. Bench s n) (number_from 1 2000 count))) (flag_is_no_number start flag)
    go false flag any =
        ap (λ (o : Option ℕ). option_and_then (λ s. option_map (λ n. Bench s n) (option_and_then (λ n. if nat_le 1 n && nat_le n 2000 then Some n else None) o)) (number_in start))
        (flag_is_no_number count (or_false _ any))
        ∙ ends (number_in start)
no_bench (start ∷ count ∷ next ∷ rest) e = refl

-- words with a flag among them are no form
pub flagged_is_none : (words : List Text) → list_any begins_with_dash words ≡ true → form_of words ≡ None
flagged_is_none [] e = refl
flagged_is_none (name ∷ own) e =
    by_name (λ (n : Text). list_any begins_with_dash (n ∷ own) ≡ true → form_by n own ≡ None) (no_own Replay own) (no_own Live own) (no_node own) (no_bench own)
    (no_own Audit own) name (λ p q r s t any. others_are_none name own p q r s t) e
