-- An entry that is taken out and put in again is one that is changed where it stands.
use Rattle.std.specs.Prelude.{◌≡◌, Bool, true, false, cond, List, [], ◌∷◌, Some, None, refl}
use Rattle.std.specs.BTreeMap.{insert_entry, is_at}
use Rattle.std.specs.Cmp.{IsTotalOrder}
use Rattle.std.specs.List.{AllByRecursion}
use Rattle.std.specs.List.Sorted.{IsStrictlySortedBy}
use Rattle.std.specs.Map.{keys_of, lookup, remove_entry, set_value}
use Rattle.std.specs.Ordering.{is_eq, match_ordering}
use Rattle.std.specs.declared.cmp.Ordering.{Ordering}
use Rattle.std.specs.declared.cmp.Ordering.TheVariants.{Less, Equal, Greater}
use Rattle.std.proofs.Common.{ap, sym, subst, ◌∙◌}
use Rattle.std.proofs.lemmas.Map.Keys.{sorted_head, sorted_tail}

pub taken_none : {K X : Type 0} (test : K → Bool) (es : List (K × X)) → lookup test es ≡ None → remove_entry test es ≡ es
taken_none test [] h = refl
taken_none {K} {X} test (e ∷ es) h = by (test e.0) h (taken_none test es)
  where
    by : (b : Bool) → cond b (Some e.1) (lookup test es) ≡ None → (lookup test es ≡ None → remove_entry test es ≡ es) → cond b es (e ∷ remove_entry test es) ≡ e ∷ es
    by true h more = absurd cc
    by false h more = ap (λ (l : List (K × X)). e ∷ l) (more h)

module _ {K X : Type 0} {R : K → K → Ordering} (o : IsTotalOrder R) where
  -- all keys stand above one
  abbrev Over : K → List (K × X) → Type 0
  Over k es = AllByRecursion (λ (y : K). R k y ≡ Less) (keys_of es)

  over_less : (j k : K) (es : List (K × X)) → R j k ≡ Less → Over k es → Over j es
  over_less j k [] e h = tt
  over_less j k (x ∷ xs) e h = (o.trans j k x.0 e h.0, over_less j k xs e h.1)

  none_over : (k : K) (es : List (K × X)) → Over k es → lookup (is_at (R k)) es ≡ None
  none_over k [] h = refl
  none_over k (e ∷ es) h = ap (λ (r : Ordering). cond (is_eq r) (Some e.1) (lookup (is_at (R k)) es)) h.0 ∙ none_over k es h.1

  put_first : (k : K) (x : X) (es : List (K × X)) → Over k es → insert_entry R es k x ≡ (k, x) ∷ es
  put_first k x [] h = refl
  put_first k x (e ∷ es) h = ap (λ (r : Ordering). match_ordering r ((k, x) ∷ e ∷ es) ((e.0, x) ∷ es) (e ∷ insert_entry R es k x)) h.0

  pub put_back : ((a b : K) → R a b ≡ Equal → a ≡ b) → (k : K) (v x : X) (es : List (K × X)) → IsStrictlySortedBy R (keys_of es) → lookup (is_at (R k)) es ≡ Some v
      → insert_entry R (remove_entry (is_at (R k)) es) k x ≡ set_value (is_at (R k)) es x
  put_back exact k v x [] h found = absurd cc
  put_back exact k v x (e ∷ es) h found = by (R k e.0) refl found (put_back exact k v x es (sorted_tail R e.0 (keys_of es) h))
    where
      by : (r : Ordering) → R k e.0 ≡ r → cond (is_eq r) (Some e.1) (lookup (is_at (R k)) es) ≡ Some v
          → (lookup (is_at (R k)) es ≡ Some v → insert_entry R (remove_entry (is_at (R k)) es) k x ≡ set_value (is_at (R k)) es x)
          → insert_entry R (cond (is_eq r) es (e ∷ remove_entry (is_at (R k)) es)) k x ≡ cond (is_eq r) ((e.0, x) ∷ es) (e ∷ set_value (is_at (R k)) es x)
      by Less is found more = let none : lookup (is_at (R k)) es ≡ None = none_over k es (over_less k e.0 es is (sorted_head R e.0 (keys_of es) h)) in absurd cc
      by Equal is found more =
          put_first k x es (subst (λ (q : K). Over q es) (sym (exact k e.0 is)) (sorted_head R e.0 (keys_of es) h))
          ∙ ap (λ (q : K). (q, x) ∷ es) (exact k e.0 is)
      by Greater is found more =
          ap (λ (r : Ordering). match_ordering r ((k, x) ∷ e ∷ remove_entry (is_at (R k)) es) ((e.0, x) ∷ remove_entry (is_at (R k)) es) (e ∷ insert_entry R (remove_entry (is_at (R k)) es) k x)) is
          ∙ ap (λ (l : List (K × X)). e ∷ l) (more found)
