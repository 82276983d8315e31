-- What a tree map finds after an entry was put in or taken out.
use Rattle.std.specs.Prelude.{◌≡◌, Bool, true, false, cond, List, [], ◌∷◌, Option, Some, None, refl}
use Rattle.std.specs.BTreeMap.{insert_entry, is_at}
use Rattle.std.specs.Cmp.{IsTotalOrder, eq_by_cmp_equiv}
use Rattle.std.specs.Map.{lookup, remove_entry}
use Rattle.std.specs.Ordering.{is_eq, match_ordering}
use Rattle.std.specs.declared.cmp.Ordering.{Ordering}
use Rattle.std.specs.declared.cmp.Ordering.TheVariants.{Less, Equal, Greater}
use Rattle.std.proofs.Common.{sym, ap, ◌∙◌}
use Rattle.std.proofs.lemmas.Bool.{true≢false}

one_answer : {X : Type 0} (b : Bool) (x y z : X) → cond b x y ≡ cond b x (cond b z y)
one_answer true x y z = refl
one_answer false x y z = refl

swapped : {X : Type 0} (a c : Bool) (x y z : X) → (a ≡ true → c ≡ true → ⊥) → cond a x (cond c y z) ≡ cond c y (cond a x z)
swapped true true x y z h = absurd (h refl refl)
swapped true false x y z h = refl
swapped false true x y z h = refl
swapped false false x y z h = refl

not_both : {K : Type 0} {R : K → K → Ordering} → IsTotalOrder R → (k q e : K) → R k e ≡ Greater → is_eq (R q e) ≡ true → is_eq (R k q) ≡ true → ⊥
not_both {K} {R} o k q e g a c = let is : is_eq (R k e) ≡ true = (eq_by_cmp_equiv o).congr k q e c ∙ a in true≢false (sym is ∙ ap is_eq g)

module _ {K X : Type 0} {R : K → K → Ordering} (o : IsTotalOrder R) where
  pub lookup_put : (es : List (K × X)) (k q : K) (x : X) → lookup (is_at (R q)) (insert_entry R es k x) ≡ cond (is_eq (R k q)) (Some x) (lookup (is_at (R q)) es)
  lookup_put [] k q x = ap (λ (b : Bool). cond b (Some x) None) ((eq_by_cmp_equiv o).symm q k)
  lookup_put (e ∷ es) k q x = by (lookup_put es k q x) (R k e.0) refl
    where
      by : lookup (is_at (R q)) (insert_entry R es k x) ≡ cond (is_eq (R k q)) (Some x) (lookup (is_at (R q)) es) → (r : Ordering) → R k e.0 ≡ r
          → lookup (is_at (R q)) (match_ordering r ((k, x) ∷ e ∷ es) ((e.0, x) ∷ es) (e ∷ insert_entry R es k x)) ≡ cond (is_eq (R k q)) (Some x) (lookup (is_at (R q)) (e ∷ es))
      by more Less is = ap (λ (b : Bool). cond b (Some x) (lookup (is_at (R q)) (e ∷ es))) ((eq_by_cmp_equiv o).symm q k)
      by more Equal is =
          one_answer (is_eq (R q e.0)) (Some x) (lookup (is_at (R q)) es) (Some e.1)
          ∙ ap (λ (b : Bool). cond b (Some x) (lookup (is_at (R q)) (e ∷ es))) ((eq_by_cmp_equiv o).symm q e.0 ∙ sym ((eq_by_cmp_equiv o).congr k e.0 q (ap is_eq is)))
      by more Greater is =
          ap (λ (r : Option X). cond (is_eq (R q e.0)) (Some e.1) r) more
          ∙ swapped (is_eq (R q e.0)) (is_eq (R k q)) (Some e.1) (Some x) (lookup (is_at (R q)) es) (not_both o k q e.0 is)

  pub lookup_taken : (es : List (K × X)) (k q : K) → is_eq (R k q) ≡ false → lookup (is_at (R q)) (remove_entry (is_at (R k)) es) ≡ lookup (is_at (R q)) es
  lookup_taken [] k q other = refl
  lookup_taken (e ∷ es) k q other = by (lookup_taken es k q other) (is_eq (R k e.0)) refl
    where
      by : lookup (is_at (R q)) (remove_entry (is_at (R k)) es) ≡ lookup (is_at (R q)) es → (b : Bool) → is_eq (R k e.0) ≡ b
          → lookup (is_at (R q)) (cond b es (e ∷ remove_entry (is_at (R k)) es)) ≡ lookup (is_at (R q)) (e ∷ es)
      by more true is = ap (λ (b : Bool). cond b (Some e.1) (lookup (is_at (R q)) es)) (sym ((eq_by_cmp_equiv o).symm q e.0 ∙ sym ((eq_by_cmp_equiv o).congr k e.0 q is) ∙ other))
      by more false is = ap (λ (r : Option X). cond (is_eq (R q e.0)) (Some e.1) r) more
