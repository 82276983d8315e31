-- Entries in the order of their paths.
use Rattle.std.proofs.Common.{◌≡◌, ℕ, suc, zero, ◌+◌, ◌-◌, ◌<◌, ◌≤◌, drop_of_length-le, Bool, true, false, cond, List, [], ◌∷◌, length, drop, Option, Some, None, refl, sym, ap, subst, ◌∙◌, arith}
use Rattle.std.specs.Prelude.{is_some, slice_get, nat_eq}
use Rattle.std.specs.declared.cmp.Ordering.TheVariants.{Less, Equal, Greater}
use Rattle.std.specs.Ordering.{is_eq, match_ordering}
use Rattle.std.specs.Cmp.Lexicographic.{pointwise, texts_ties, nat_list_cmp_total}
use Rattle.std.specs.List.{AllByRecursion, IsDistinct}
use Rattle.std.specs.Map.{lookup, set_value, remove_entry, keys_of}
use Rattle.std.specs.BTreeMap.{insert_entry}
use Rattle.std.proofs.lemmas.Map.Keys.{IsDistinct-head, IsDistinct-tail}
use Rattle.tg_tree.specs.Paths.{by_bytes, same}
use Rattle.tg_tree.specs.Orders.{same_is, same_itself}
use Rattle.tg_tree.specs.Growth.{not_both, same_turned}
use Rattle.tg_tree.specs.Links.{risen, Below, Rising}

-- ---- tests

hidden : {X : Type 0} (b : Bool) (x y z : X) → cond b x z ≡ cond b x (cond b y z)
hidden true x y z = refl
hidden false x y z = refl

turned : {X : Type 0} (a b : Bool) (x y z : X) → (a ≡ true → b ≡ false) → cond a x (cond b y z) ≡ cond b y (cond a x z)
turned true true x y z h = not_both true refl (h refl)
turned true false x y z h = refl
turned false b x y z h = refl

none_twice : {X : Type 0} (b : Bool) → ◌≡◌ {A = Option X} None (cond b None None)
none_twice true = refl
none_twice false = refl

not_none : {X : Type 0} {B : Type 0} (x : X) → Some x ≡ None → B
not_none x e = absurd cc

some_is : {X : Type 0} (x y : X) → Some x ≡ Some y → x ≡ y
some_is x y e = cc

greater_back : (p q : List ℕ) → by_bytes p q ≡ Greater → by_bytes q p ≡ Less
greater_back p q e = let a = nat_list_cmp_total.antisymm q p in a ∙ rw e refl

equal_is : (p q : List ℕ) → by_bytes p q ≡ Equal → p ≡ q
equal_is p q o = let at : same p q ≡ true = rw o refl in same_is p q at

less_apart : (p q : List ℕ) → by_bytes p q ≡ Less → same p q ≡ false
less_apart p q o = rw o refl

greater_apart : (p q : List ℕ) → by_bytes p q ≡ Greater → same p q ≡ false
greater_apart p q o = rw o refl

apart : (p x q : List ℕ) → same p x ≡ false → same q x ≡ true → same q p ≡ false
apart p x q e h = let is : q ≡ x = same_is q x h in subst (λ (y : List ℕ). same y p ≡ false) (sym is) (same_turned x p e)

flipped : (p q : List ℕ) → same p q ≡ same q p
flipped p q =
    elim (same p q) as (λ b. same p q ≡ b → b ≡ same q p) [
      | true ↦ λ b. let is : p ≡ q = same_is p q b in sym (subst (λ (x : List ℕ). same x p ≡ true) is (same_itself p))
      | false ↦ λ b. sym (same_turned q p b)
    ] refl

module _ {A : Type 0} where
  -- ---- look-ups

  pub lookup_put : (es : List (List ℕ × A)) (p : List ℕ) (t : A) (q : List ℕ) → lookup (same q) (insert_entry by_bytes es p t) ≡ cond (same q p) (Some t) (lookup (same q) es)
  lookup_put [] p t q = refl
  lookup_put (e ∷ es) p t q =
      let rest = lookup_put es p t q in
      elim (by_bytes p e.0) as (λ o. by_bytes p e.0 ≡ o → lookup (same q) (match_ordering o ((p, t) ∷ e ∷ es) ((e.0, t) ∷ es) (e ∷ insert_entry by_bytes es p t)) ≡ cond (same q p) (Some t) (lookup (same q) (e ∷ es))) [
        | Less ↦ λ o. refl
        | Equal ↦ λ o.
            subst (λ (x : List ℕ). cond (same q e.0) (Some t) (lookup (same q) es) ≡ cond (same q x) (Some t) (lookup (same q) (e ∷ es))) (sym (equal_is p e.0 o))
            (hidden (same q e.0) (Some t) (Some e.1) (lookup (same q) es))
        | Greater ↦ λ o. ap (λ (x : Option A). cond (same q e.0) (Some e.1) x) rest ∙ turned (same q e.0) (same q p) (Some e.1) (Some t) (lookup (same q) es) (apart p e.0 q (greater_apart p e.0 o))
      ] refl

  pub lookup_risen : (es : List (List ℕ × A)) (q : List ℕ) → lookup (same q) (risen es) ≡ lookup (same q) es
  lookup_risen [] q = refl
  lookup_risen (e ∷ es) q = lookup_put (risen es) e.0 e.1 q ∙ ap (λ (x : Option A). cond (same q e.0) (Some e.1) x) (lookup_risen es q)

  lookup_same : (es : List (List ℕ × A)) (q : List ℕ) → lookup (pointwise nat_eq q) es ≡ lookup (same q) es
  lookup_same [] q = refl
  lookup_same (e ∷ es) q =
      ap (λ b. cond b (Some e.1) (lookup (pointwise nat_eq q) es)) (texts_ties q e.0) ∙ ap (λ (x : Option A). cond (same q e.0) (Some e.1) x) (lookup_same es q)

  -- what a hash table finds is what its entries show in order
  pub lookup_shown : (es : List (List ℕ × A)) (q : List ℕ) → lookup (pointwise nat_eq q) es ≡ lookup (same q) (risen es)
  lookup_shown es q = lookup_same es q ∙ sym (lookup_risen es q)

  pub removed_elsewhere : (es : List (List ℕ × A)) (p q : List ℕ) → same q p ≡ false → lookup (same q) (remove_entry (same p) es) ≡ lookup (same q) es
  removed_elsewhere [] p q e = refl
  removed_elsewhere (x ∷ es) p q e =
      let rest = removed_elsewhere es p q e in
      elim (same p x.0) as (λ b. same p x.0 ≡ b → lookup (same q) (cond b es (x ∷ remove_entry (same p) es)) ≡ lookup (same q) (x ∷ es)) [
        | true ↦ λ b.
            let f : same q x.0 ≡ false = subst (λ (y : List ℕ). same q y ≡ false) (same_is p x.0 b) e in
            sym (ap (λ c. cond c (Some x.1) (lookup (same q) es)) f)
        | false ↦ λ b. ap (λ (y : Option A). cond (same q x.0) (Some x.1) y) rest
      ] refl

  -- ---- orders

  pub below_less : (x y : List ℕ) (es : List (List ℕ × A)) → by_bytes x y ≡ Less → Below y es → Below x es
  below_less x y [] l h = tt
  below_less x y (e ∷ es) l h = (nat_list_cmp_total.trans x y e.0 l h.0, below_less x y es l h.1)

  below_put : (x p : List ℕ) (t : A) (es : List (List ℕ × A)) → by_bytes x p ≡ Less → Below x es → Below x (insert_entry by_bytes es p t)
  below_put x p t [] l h = (l, tt)
  below_put x p t (e ∷ es) l h =
      elim (by_bytes p e.0) as (λ o. Below x (match_ordering o ((p, t) ∷ e ∷ es) ((e.0, t) ∷ es) (e ∷ insert_entry by_bytes es p t))) [
        | Less ↦ (l, h)
        | Equal ↦ h
        | Greater ↦ (h.0, below_put x p t es l h.1)
      ]

  rising_put : (es : List (List ℕ × A)) (p : List ℕ) (t : A) → Rising es → Rising (insert_entry by_bytes es p t)
  rising_put [] p t h = (tt, tt)
  rising_put (e ∷ es) p t h =
      elim (by_bytes p e.0) as (λ o. by_bytes p e.0 ≡ o → Rising (match_ordering o ((p, t) ∷ e ∷ es) ((e.0, t) ∷ es) (e ∷ insert_entry by_bytes es p t))) [
        | Less ↦ λ o. ((o, below_less p e.0 es o h.0), h)
        | Equal ↦ λ o. h
        | Greater ↦ λ o. (below_put e.0 p t es (greater_back p e.0 o) h.0, rising_put es p t h.1)
      ] refl

  pub rising_risen : (es : List (List ℕ × A)) → Rising (risen es)
  rising_risen [] = tt
  rising_risen (e ∷ es) = rising_put (risen es) e.0 e.1 (rising_risen es)

  below_removed : (x p : List ℕ) (es : List (List ℕ × A)) → Below x es → Below x (remove_entry (same p) es)
  below_removed x p [] h = tt
  below_removed x p (e ∷ es) h = elim (same p e.0) as (λ b. Below x (cond b es (e ∷ remove_entry (same p) es))) [ true ↦ h.1 | false ↦ (h.0, below_removed x p es h.1) ]

  rising_removed : (es : List (List ℕ × A)) (p : List ℕ) → Rising es → Rising (remove_entry (same p) es)
  rising_removed [] p h = tt
  rising_removed (e ∷ es) p h = elim (same p e.0) as (λ b. Rising (cond b es (e ∷ remove_entry (same p) es))) [ true ↦ h.1 | false ↦ (below_removed e.0 p es h.0, rising_removed es p h.1) ]

  below_none : (x : List ℕ) (es : List (List ℕ × A)) → Below x es → lookup (same x) es ≡ None
  below_none x [] h = refl
  below_none x (e ∷ es) h = ap (λ b. cond b (Some e.1) (lookup (same x) es)) (less_apart x e.0 h.0) ∙ below_none x es h.1

  -- ---- entries in order that answer alike are the same

  found : (e : List ℕ × A) (es : List (List ℕ × A)) → lookup (same e.0) (e ∷ es) ≡ Some e.1
  found e es = ap (λ b. cond b (Some e.1) (lookup (same e.0) es)) (same_itself e.0)

  missed : {B : Type 0} (e f : List ℕ × A) (es fs : List (List ℕ × A)) → by_bytes e.0 f.0 ≡ Less → Below f.0 fs → lookup (same e.0) (e ∷ es) ≡ lookup (same e.0) (f ∷ fs) → B
  missed e f es fs o h is = not_none e.1 (sym (found e es) ∙ is ∙ below_none e.0 (f ∷ fs) (o, below_less e.0 f.0 fs o h))

  tails : (q k : List ℕ) (v w : A) (es fs : List (List ℕ × A)) → Below k es → Below k fs → cond (same q k) (Some v) (lookup (same q) es) ≡ cond (same q k) (Some w) (lookup (same q) fs) → lookup (same q) es ≡ lookup (same q) fs
  tails q k v w es fs g h =
      elim (same q k) as (λ b. same q k ≡ b → cond b (Some v) (lookup (same q) es) ≡ cond b (Some w) (lookup (same q) fs) → lookup (same q) es ≡ lookup (same q) fs) [
        | true ↦ λ b is. subst (λ (x : List ℕ). lookup (same x) es ≡ lookup (same x) fs) (sym (same_is q k b)) (below_none k es g ∙ sym (below_none k fs h))
        | false ↦ λ b is. is
      ] refl

  same_rising : (es fs : List (List ℕ × A)) → Rising es → Rising fs → ((q : List ℕ) → lookup (same q) es ≡ lookup (same q) fs) → es ≡ fs
  same_rising [] [] g h is = refl
  same_rising [] (f ∷ fs) g h is = not_none f.1 (sym (found f fs) ∙ sym (is f.0))
  same_rising (e ∷ es) [] g h is = not_none e.1 (sym (found e es) ∙ is e.0)
  same_rising (e ∷ es) (f ∷ fs) g h is =
      elim (by_bytes e.0 f.0) as (λ o. by_bytes e.0 f.0 ≡ o → e ∷ es ≡ f ∷ fs) [
        | Less ↦ λ o. missed e f es fs o h.0 (is e.0)
        | Equal ↦ λ o.
            let k : e.0 ≡ f.0 = equal_is e.0 f.0 o in
            let v : e.1 ≡ f.1 = some_is e.1 f.1 (sym (found e es) ∙ is e.0 ∙ subst (λ (x : List ℕ). lookup (same x) (f ∷ fs) ≡ Some f.1) (sym k) (found f fs)) in
            let rest : es ≡ fs = same_rising es fs g.1 h.1 (λ q.
            tails q e.0 e.1 f.1 es fs g.0 (subst (λ (x : List ℕ). Below x fs) (sym k) h.0)
            (subst (λ (x : List ℕ). cond (same q e.0) (Some e.1) (lookup (same q) es) ≡ cond (same q x) (Some f.1) (lookup (same q) fs)) (sym k) (is q))) in
            λ i. (k i, v i) ∷ rest i
        | Greater ↦ λ o. missed f e fs es (greater_back e.0 f.0 o) g.0 (sym (is f.0))
      ] refl

  -- ---- a hash table's changes, in order

  pub risen_put : (es fs : List (List ℕ × A)) (p : List ℕ) (t : A) → ((q : List ℕ) → lookup (pointwise nat_eq q) fs ≡ cond (pointwise nat_eq p q) (Some t) (lookup (pointwise nat_eq q) es)) → risen fs ≡ insert_entry by_bytes (risen es) p t
  risen_put es fs p t h =
      same_rising (risen fs) (insert_entry by_bytes (risen es) p t) (rising_risen fs) (rising_put (risen es) p t (rising_risen es)) (λ q.
      sym (lookup_shown fs q) ∙ h q ∙ ap (λ (x : Option A). cond (pointwise nat_eq p q) (Some t) x) (lookup_shown es q)
      ∙ ap (λ b. cond b (Some t) (lookup (same q) (risen es))) (texts_ties p q ∙ flipped p q) ∙ sym (lookup_put (risen es) p t q))

  gone : (q k : List ℕ) (v : A) (es : List (List ℕ × A)) → Below k es → lookup (same q) es ≡ cond (same q k) None (cond (same q k) (Some v) (lookup (same q) es))
  gone q k v es g =
      elim (same q k) as (λ b. same q k ≡ b → lookup (same q) es ≡ cond b None (cond b (Some v) (lookup (same q) es))) [
        | true ↦ λ b. subst (λ (x : List ℕ). lookup (same x) es ≡ None) (sym (same_is q k b)) (below_none k es g)
        | false ↦ λ b. refl
      ] refl

  lookup_removed : (es : List (List ℕ × A)) (p q : List ℕ) → Rising es → lookup (same q) (remove_entry (same p) es) ≡ cond (same q p) None (lookup (same q) es)
  lookup_removed [] p q g = none_twice (same q p)
  lookup_removed (e ∷ es) p q g =
      let rest = lookup_removed es p q g.1 in
      elim (same p e.0) as (λ b. same p e.0 ≡ b → lookup (same q) (cond b es (e ∷ remove_entry (same p) es)) ≡ cond (same q p) None (lookup (same q) (e ∷ es))) [
        | true ↦ λ b. subst (λ (x : List ℕ). lookup (same q) es ≡ cond (same q x) None (cond (same q e.0) (Some e.1) (lookup (same q) es))) (sym (same_is p e.0 b)) (gone q e.0 e.1 es g.0)
        | false ↦ λ b. ap (λ (x : Option A). cond (same q e.0) (Some e.1) x) rest ∙ turned (same q e.0) (same q p) (Some e.1) None (lookup (same q) es) (apart p e.0 q b)
      ] refl

  pub risen_removed : (es fs : List (List ℕ × A)) (p : List ℕ) → ((q : List ℕ) → lookup (pointwise nat_eq q) fs ≡ cond (pointwise nat_eq p q) None (lookup (pointwise nat_eq q) es)) → risen fs ≡ remove_entry (same p) (risen es)
  risen_removed es fs p h =
      same_rising (risen fs) (remove_entry (same p) (risen es)) (rising_risen fs) (rising_removed (risen es) p (rising_risen es)) (λ q.
      sym (lookup_shown fs q) ∙ h q ∙ ap (λ (x : Option A). cond (pointwise nat_eq p q) None x) (lookup_shown es q)
      ∙ ap (λ b. cond b None (lookup (same q) (risen es))) (texts_ties p q ∙ flipped p q) ∙ sym (lookup_removed (risen es) p q (rising_risen es)))

  length_put : (es : List (List ℕ × A)) (p : List ℕ) (t : A) → lookup (same p) es ≡ None → length (insert_entry by_bytes es p t) ≡ suc (length es)
  length_put [] p t none = refl
  length_put (e ∷ es) p t none =
      elim (by_bytes p e.0) as (λ o. cond (is_eq o) (Some e.1) (lookup (same p) es) ≡ None → length (match_ordering o ((p, t) ∷ e ∷ es) ((e.0, t) ∷ es) (e ∷ insert_entry by_bytes es p t)) ≡ suc (suc (length es))) [
        | Less ↦ λ f. refl
        | Equal ↦ λ f. not_none e.1 f
        | Greater ↦ λ f. ap suc (length_put es p t f)
      ] none

  none_of : (k : List ℕ) (es : List (List ℕ × A)) → AllByRecursion (λ y. pointwise nat_eq k y ≡ false) (keys_of es) → lookup (pointwise nat_eq k) es ≡ None
  none_of k [] h = refl
  none_of k (e ∷ es) h = ap (λ b. cond b (Some e.1) (lookup (pointwise nat_eq k) es)) h.0 ∙ none_of k es h.1

  pub length_risen : (es : List (List ℕ × A)) → IsDistinct (pointwise nat_eq) (keys_of es) → length (risen es) ≡ length es
  length_risen [] d = refl
  length_risen (e ∷ es) d =
      let none : lookup (same e.0) (risen es) ≡ None = sym (lookup_shown es e.0) ∙ none_of e.0 es (IsDistinct-head (pointwise nat_eq) e.0 (keys_of es) d) in
      length_put (risen es) e.0 e.1 none ∙ ap suc (length_risen es (IsDistinct-tail (pointwise nat_eq) e.0 (keys_of es) d))

  -- a path that is there keeps its place
  pub put_is_set : (es : List (List ℕ × A)) (p : List ℕ) (t : A) → Rising es → is_some (lookup (same p) es) ≡ true → insert_entry by_bytes es p t ≡ set_value (same p) es t
  put_is_set [] p t g there = absurd cc
  put_is_set (e ∷ es) p t g there =
      elim (by_bytes p e.0) as (λ o. by_bytes p e.0 ≡ o → is_some (cond (is_eq o) (Some e.1) (lookup (same p) es)) ≡ true → match_ordering o ((p, t) ∷ e ∷ es) ((e.0, t) ∷ es) (e ∷ insert_entry by_bytes es p t) ≡ cond (is_eq o) ((e.0, t) ∷ es) (e ∷ set_value (same p) es t)) [
        | Less ↦ λ o f. let none = below_none p es (below_less p e.0 es o g.0) in not_both (is_some (lookup (same p) es)) f (ap is_some none)
        | Equal ↦ λ o f. refl
        | Greater ↦ λ o f. ap (λ (l : List (List ℕ × A)). e ∷ l) (put_is_set es p t g.1 f)
      ] refl there

  -- ---- from the back

  pub drop_get : (es : List (List ℕ × A)) (i : ℕ) (e : List ℕ × A) → slice_get es i ≡ Some e → drop i es ≡ e ∷ drop (suc i) es
  drop_get [] i e is = absurd cc
  drop_get (x ∷ es) zero e is = ap (λ (y : List ℕ × A). y ∷ es) (some_is x e is)
  drop_get (x ∷ es) (suc i) e is = drop_get es i e is

  -- a low path comes first
  pub put_low : (es : List (List ℕ × A)) (p : List ℕ) (t : A) → Below p es → insert_entry by_bytes es p t ≡ (p, t) ∷ es
  put_low [] p t h = refl
  put_low (e ∷ es) p t h = ap (λ o. match_ordering o ((p, t) ∷ e ∷ es) ((e.0, t) ∷ es) (e ∷ insert_entry by_bytes es p t)) h.0

  -- ---- what a hash table answers, of the entries as they are shown

  pub shown_has : (es shown : List (List ℕ × A)) (p : List ℕ) (b : Bool) → risen es ≡ shown → b ≡ is_some (lookup (pointwise nat_eq p) es) → b ≡ is_some (lookup (same p) shown)
  shown_has es shown p b is h = h ∙ ap is_some (lookup_shown es p) ∙ ap (λ (l : List (List ℕ × A)). is_some (lookup (same p) l)) is

  pub shown_get : (es shown : List (List ℕ × A)) (p : List ℕ) (o : Option A) → risen es ≡ shown → o ≡ lookup (pointwise nat_eq p) es → o ≡ lookup (same p) shown
  shown_get es shown p o is h = h ∙ lookup_shown es p ∙ ap (λ (l : List (List ℕ × A)). lookup (same p) l) is

  pub shown_len : (es shown : List (List ℕ × A)) (n : ℕ) → risen es ≡ shown → n ≡ length es → IsDistinct (pointwise nat_eq) (keys_of es) → n ≡ length shown
  shown_len es shown n is h d = h ∙ sym (length_risen es d) ∙ ap length is

  pub shown_rising : (es shown : List (List ℕ × A)) → risen es ≡ shown → Rising shown
  shown_rising es shown is = subst (λ (l : List (List ℕ × A)). Rising l) is (rising_risen es)

  pub shown_put : (es fs shown new : List (List ℕ × A)) (p : List ℕ) (t : A) → risen es ≡ shown → risen fs ≡ new → ((q : List ℕ) → lookup (pointwise nat_eq q) fs ≡ cond (pointwise nat_eq p q) (Some t) (lookup (pointwise nat_eq q) es)) → new ≡ insert_entry by_bytes shown p t
  shown_put es fs shown new p t is new_is h = sym new_is ∙ risen_put es fs p t h ∙ ap (λ (l : List (List ℕ × A)). insert_entry by_bytes l p t) is

  pub shown_removed : (es fs shown new : List (List ℕ × A)) (p : List ℕ) → risen es ≡ shown → risen fs ≡ new → ((q : List ℕ) → lookup (pointwise nat_eq q) fs ≡ cond (pointwise nat_eq p q) None (lookup (pointwise nat_eq q) es)) → new ≡ remove_entry (same p) shown
  shown_removed es fs shown new p is new_is h = sym new_is ∙ risen_removed es fs p h ∙ ap (λ (l : List (List ℕ × A)). remove_entry (same p) l) is

  -- entries are copied from the back

  pub copied_none : (es old : List (List ℕ × A)) (n : ℕ) → n ≡ length es → old ≡ [] → old ≡ risen (drop (n - 0) es)
  copied_none es old n len none =
      let all : drop (n - 0) es ≡ [] = drop_of_length-le es (omega (arith, len)) in
      none ∙ sym (ap (λ (l : List (List ℕ × A)). risen l) all)

  pub copied_more : (es old new : List (List ℕ × A)) (n taken : ℕ) (e : List ℕ × A) → taken < n → slice_get es (n - 1 - taken) ≡ Some e → old ≡ risen (drop (n - taken) es) → new ≡ insert_entry by_bytes old e.0 e.1 → new ≡ risen (drop (n - (taken + 1)) es)
  copied_more es old new n taken e lt at so_far put =
      let one : n - taken ≡ suc (n - 1 - taken) = omega (arith, lt) in
      let two : n - 1 - taken ≡ n - (taken + 1) = omega (arith, lt) in
      let front : drop (n - 1 - taken) es ≡ e ∷ drop (suc (n - 1 - taken)) es = drop_get es (n - 1 - taken) e at in
      put ∙ ap (λ (l : List (List ℕ × A)). insert_entry by_bytes l e.0 e.1) (so_far ∙ ap (λ k. risen (drop k es)) one) ∙ sym (ap (λ (l : List (List ℕ × A)). risen l) front) ∙ ap (λ k. risen (drop k es)) two

  pub copied_all : (es shown old : List (List ℕ × A)) (n taken : ℕ) → n ≤ taken → old ≡ risen (drop (n - taken) es) → risen es ≡ shown → old ≡ shown
  copied_all es shown old n taken le so_far is =
      let none : n - taken ≡ 0 = omega (arith, le) in
      so_far ∙ ap (λ k. risen (drop k es)) none ∙ is
