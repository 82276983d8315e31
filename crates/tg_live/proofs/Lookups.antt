-- Look-ups by bytes, after a change at one key.
use Rattle.std.proofs.Common.{◌≡◌, ◌∙◌, ℕ, Bool, true, false, cond, List, [], ◌∷◌, Some, None, refl, sym, ap}
use Rattle.std.specs.Global.{Vec}
use Rattle.std.specs.Map.{lookup, set_value}
use Rattle.std.specs.BTreeMap.{insert_entry, is_at}
use Rattle.std.specs.Cmp.Lexicographic.{slice_cmp}
use Rattle.std.specs.Ordering.{is_eq, match_ordering, nat_cmp}
use Rattle.std.proofs.lemmas.Map.Text.{is_eq-slice_cmp}
use Rattle.std.specs.Str.{bytes_eq}
use Rattle.std.specs.declared.option.Option.{Option}
use Rattle.std.specs.declared.cmp.Ordering.{Ordering}
use Rattle.std.specs.declared.cmp.Ordering.TheVariants.{Less, Equal, Greater}
use Rattle.std.proofs.lemmas.Slice.Eq.{bytes_eq-Decides}
use Rattle.tg_live.specs.declared.copies.Copies.{Copies}
use Rattle.tg_live.specs.Books.{found}

pub bytes_same : (p q : List ℕ) → bytes_eq p q ≡ true → p ≡ q
bytes_same p q e = (bytes_eq-Decides p q).0 e

pub bytes_true : (p q : List ℕ) → p ≡ q → bytes_eq p q ≡ true
bytes_true p q e = (bytes_eq-Decides p q).1 e

both_ways : (a b : Bool) → (a ≡ true → b ≡ true) → (b ≡ true → a ≡ true) → a ≡ b
both_ways true b f g = sym (f refl)
both_ways false true f g = g refl
both_ways false false f g = refl

not_true : (a : Bool) → (a ≡ true → ⊥) → a ≡ false
not_true true f = absurd (f refl)
not_true false f = refl

-- d is spelled like i where it is like p, which is i
swapped : (p i d : List ℕ) → p ≡ i → bytes_eq d i ≡ bytes_eq p d
swapped p i d e = both_ways (bytes_eq d i) (bytes_eq p d) (λ h. bytes_true p d (e ∙ sym (bytes_same d i h))) (λ h. bytes_true d i (sym (bytes_same p d h) ∙ e))

apart : (p i d : List ℕ) → bytes_eq p i ≡ false → bytes_eq p d ≡ true → bytes_eq d i ≡ false
apart p i d n h = not_true (bytes_eq d i) (λ k. let e : true ≡ false = sym (bytes_true p i (bytes_same p d h ∙ bytes_same d i k)) ∙ n in absurd cc)

at_same : {X : Type 0} (w y x : X) (s t : Bool) → s ≡ t → cond s w x ≡ cond t w (cond s y x)
at_same w y x true true e = refl
at_same w y x false false e = refl
at_same w y x true false e = absurd cc
at_same w y x false true e = absurd cc

at_other : {X : Type 0} (w y x : X) (s t : Bool) → (t ≡ true → s ≡ false) → cond s y (cond t w x) ≡ cond t w (cond s y x)
at_other w y x true true f = let e : true ≡ false = f refl in absurd cc
at_other w y x false true f = refl
at_other w y x s false f = refl

-- two choices that answer alike where the bytes are the same
pub at_key : {X : Type 0} (p d : List ℕ) (x y z : X) → (p ≡ d → x ≡ y) → cond (bytes_eq p d) x z ≡ cond (bytes_eq p d) y z
at_key p d x y z f = by (bytes_eq p d) refl
  where
    by : (b : Bool) → bytes_eq p d ≡ b → cond b x z ≡ cond b y z
    by true e = f (bytes_same p d e)
    by false e = refl

pub unless_key : {X : Type 0} (p d : List ℕ) (y z : X) → (p ≡ d → z ≡ y) → z ≡ cond (bytes_eq p d) y z
unless_key p d y z f = by (bytes_eq p d) refl
  where
    by : (b : Bool) → bytes_eq p d ≡ b → z ≡ cond b y z
    by true e = f (bytes_same p d e)
    by false e = refl

-- the map's own look-up
pub found_at : (es : List (Vec ℕ × Copies)) (d : List ℕ) → lookup (is_at (λ k. slice_cmp nat_cmp d k.items)) es ≡ found es d
found_at [] d = refl
found_at (e ∷ es) d =
    ap (λ (b : Bool). cond b (Some e.1) (lookup (is_at (λ k. slice_cmp nat_cmp d k.items)) es)) (is_eq-slice_cmp d e.0.items)
    ∙ ap (λ (o : Option Copies). cond (bytes_eq d e.0.items) (Some e.1) o) (found_at es d)

-- the value of the bytes p is set
pub found_set : (es : List (Vec ℕ × Copies)) (test : Vec ℕ → Bool) (p d : List ℕ) (c w : Copies) → ((k : Vec ℕ) → test k ≡ bytes_eq p k.items) → found es p ≡ Some c
    → found (set_value test es w) d ≡ cond (bytes_eq p d) (Some w) (found es d)
found_set [] test p d c w agree h = absurd cc
found_set (e ∷ es) test p d c w agree h = rw (agree e.0) (by (bytes_eq p e.0.items) refl (λ k. found_set es test p d c w agree k))
  where
    by : (b : Bool) → bytes_eq p e.0.items ≡ b → (found es p ≡ Some c → found (set_value test es w) d ≡ cond (bytes_eq p d) (Some w) (found es d))
        → found (cond b ((e.0, w) ∷ es) (e ∷ set_value test es w)) d ≡ cond (bytes_eq p d) (Some w) (found (e ∷ es) d)
    by true q more = at_same (Some w) (Some e.1) (found es d) (bytes_eq d e.0.items) (bytes_eq p d) (swapped p e.0.items d (bytes_same p e.0.items q))
    by false q more =
        let k : found es p ≡ Some c = sym (ap (λ (b : Bool). cond b (Some e.1) (found es p)) q) ∙ h in
        ap (λ (o : Option Copies). cond (bytes_eq d e.0.items) (Some e.1) o) (more k)
        ∙ at_other (Some w) (Some e.1) (found es d) (bytes_eq d e.0.items) (bytes_eq p d) (apart p e.0.items d q)

-- an entry is put in
pub found_insert : (es : List (Vec ℕ × Copies)) (cmp : Vec ℕ → Vec ℕ → Ordering) (k : Vec ℕ) (v : Copies) (d : List ℕ) → ((x y : Vec ℕ) → is_eq (cmp x y) ≡ bytes_eq x.items y.items)
    → found (insert_entry cmp es k v) d ≡ cond (bytes_eq k.items d) (Some v) (found es d)
found_insert [] cmp k v d agree = ap (λ (b : Bool). cond b (Some v) None) (swapped k.items k.items d refl)
found_insert (e ∷ es) cmp k v d agree = by (cmp k e.0) (agree k e.0) (found_insert es cmp k v d agree)
  where
    by : (o : Ordering) → is_eq o ≡ bytes_eq k.items e.0.items → found (insert_entry cmp es k v) d ≡ cond (bytes_eq k.items d) (Some v) (found es d)
        → found (match_ordering o ((k, v) ∷ e ∷ es) ((e.0, v) ∷ es) (e ∷ insert_entry cmp es k v)) d ≡ cond (bytes_eq k.items d) (Some v) (found (e ∷ es) d)
    by Less q more = ap (λ (b : Bool). cond b (Some v) (found (e ∷ es) d)) (swapped k.items k.items d refl)
    by Equal q more = at_same (Some v) (Some e.1) (found es d) (bytes_eq d e.0.items) (bytes_eq k.items d) (swapped k.items e.0.items d (bytes_same k.items e.0.items (sym q)))
    by Greater q more =
        ap (λ (o : Option Copies). cond (bytes_eq d e.0.items) (Some e.1) o) more
        ∙ at_other (Some v) (Some e.1) (found es d) (bytes_eq d e.0.items) (bytes_eq k.items d) (apart k.items e.0.items d (sym q))
