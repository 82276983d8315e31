-- Entries by number: look-ups and inserts, at one entry.
use Rattle.std.proofs.Common.{◌≡◌, ◌≢◌, ℕ, ◌<◌, Less, Equal, Greater, true, false, cond, List, ◌∷◌, Option, Some, ap, arith}
use Rattle.std.specs.Ordering.{nat_cmp, match_ordering}
use Rattle.std.specs.Map.{lookup, set_value, remove_entry}
use Rattle.std.specs.BTreeMap.{insert_entry, is_at}
use Rattle.std.proofs.lemmas.Bool.Decides.{nat_tests}

abbrev pub look : {X : Type 0} → ℕ → List (ℕ × X) → Option X
look p es = lookup (is_at (nat_cmp p)) es

abbrev pub put : {X : Type 0} → List (ℕ × X) → ℕ → X → List (ℕ × X)
put es k v = insert_entry nat_cmp es k v

pub is-less : (p q : ℕ) → p < q → nat_cmp p q ≡ Less
is-less p q h = grind (arith, nat_tests)

pub is-equal : (p q : ℕ) → p ≡ q → nat_cmp p q ≡ Equal
is-equal p q h = grind (arith, nat_tests)

pub is-greater : (p q : ℕ) → q < p → nat_cmp p q ≡ Greater
is-greater p q h = grind (arith, nat_tests)

pub at-same : (p q : ℕ) → p ≡ q → is_at (nat_cmp p) q ≡ true
at-same p q h = grind (arith, nat_tests)

pub at-other : (p q : ℕ) → p ≢ q → is_at (nat_cmp p) q ≡ false
at-other p q h = grind (arith, nat_tests)

pub look-here : {X : Type 0} (p : ℕ) (e : ℕ × X) (es : List (ℕ × X)) → p ≡ e.0 → look p (e ∷ es) ≡ Some e.1
look-here p e es h = ap (λ b. cond b (Some e.1) (look p es)) (at-same p e.0 h)

pub look-past : {X : Type 0} (p : ℕ) (e : ℕ × X) (es : List (ℕ × X)) → p ≢ e.0 → look p (e ∷ es) ≡ look p es
look-past p e es h = ap (λ b. cond b (Some e.1) (look p es)) (at-other p e.0 h)

pub put-before : {X : Type 0} (e : ℕ × X) (es : List (ℕ × X)) (k : ℕ) (v : X) → k < e.0 → put (e ∷ es) k v ≡ (k, v) ∷ e ∷ es
put-before e es k v h = ap (λ o. match_ordering o ((k, v) ∷ e ∷ es) ((e.0, v) ∷ es) (e ∷ put es k v)) (is-less k e.0 h)

pub put-here : {X : Type 0} (e : ℕ × X) (es : List (ℕ × X)) (k : ℕ) (v : X) → k ≡ e.0 → put (e ∷ es) k v ≡ (e.0, v) ∷ es
put-here e es k v h = ap (λ o. match_ordering o ((k, v) ∷ e ∷ es) ((e.0, v) ∷ es) (e ∷ put es k v)) (is-equal k e.0 h)

pub put-past : {X : Type 0} (e : ℕ × X) (es : List (ℕ × X)) (k : ℕ) (v : X) → e.0 < k → put (e ∷ es) k v ≡ e ∷ put es k v
put-past e es k v h = ap (λ o. match_ordering o ((k, v) ∷ e ∷ es) ((e.0, v) ∷ es) (e ∷ put es k v)) (is-greater k e.0 h)

pub set-here : {X : Type 0} (e : ℕ × X) (es : List (ℕ × X)) (k : ℕ) (v : X) → k ≡ e.0 → set_value (is_at (nat_cmp k)) (e ∷ es) v ≡ (e.0, v) ∷ es
set-here e es k v h = ap (λ b. cond b ((e.0, v) ∷ es) (e ∷ set_value (is_at (nat_cmp k)) es v)) (at-same k e.0 h)

pub set-past : {X : Type 0} (e : ℕ × X) (es : List (ℕ × X)) (k : ℕ) (v : X) → k ≢ e.0 → set_value (is_at (nat_cmp k)) (e ∷ es) v ≡ e ∷ set_value (is_at (nat_cmp k)) es v
set-past e es k v h = ap (λ b. cond b ((e.0, v) ∷ es) (e ∷ set_value (is_at (nat_cmp k)) es v)) (at-other k e.0 h)

pub remove-here : {X : Type 0} (e : ℕ × X) (es : List (ℕ × X)) (k : ℕ) → k ≡ e.0 → remove_entry (is_at (nat_cmp k)) (e ∷ es) ≡ es
remove-here e es k h = ap (λ b. cond b es (e ∷ remove_entry (is_at (nat_cmp k)) es)) (at-same k e.0 h)

pub remove-past : {X : Type 0} (e : ℕ × X) (es : List (ℕ × X)) (k : ℕ) → k ≢ e.0 → remove_entry (is_at (nat_cmp k)) (e ∷ es) ≡ e ∷ remove_entry (is_at (nat_cmp k)) es
remove-past e es k h = ap (λ b. cond b es (e ∷ remove_entry (is_at (nat_cmp k)) es)) (at-other k e.0 h)
