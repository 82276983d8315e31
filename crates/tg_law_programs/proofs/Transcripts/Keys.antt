-- The parts that a checkpoint tells are those of committed changes of the log below it, each once.
use Rattle.std.proofs.Common.{◌≡◌, ◌⊎◌, ℕ, ◌+◌, ◌*◌, ◌<◌, ◌≤◌, Bool, true, false, cond, List, [], ◌∷◌, length, filter, map, Option, Some, None, refl, sym, ap, ◌∙◌, subst, inl, inr, arith}
use Rattle.std.specs.Prelude.{not, ◌&&◌, ◌||◌, ◌==◌, nat_lt, if◌then◌else◌}
use Rattle.std.specs.Ordering.{is_lt, is_eq, ordering_reverse}
use Rattle.std.specs.declared.cmp.Ordering.{Ordering}
use Rattle.std.specs.declared.cmp.Ordering.TheVariants.{Less, Equal, Greater}
use Rattle.std.proofs.lemmas.Bool.Decides.{nat_tests}
use Rattle.tg_base.specs.Orders.{oid_eq}
use Rattle.tg_base.specs.Parts.{part_cmp}
use Rattle.tg_base.specs.declared.ids.Oid.{Oid}
use Rattle.tg_base.specs.declared.marks.Part.{Part}
use Rattle.tg_base.specs.declared.marks.Part.TheVariants.{All, Text, Num}
use Rattle.tg_kind.specs.Parts.{part_eq, is_whole, overlap}
use Rattle.tg_protocol.specs.Entries.{sum_of, part_size, key_size}
use Rattle.tg_protocol.specs.Words.{part_lt}
use Rattle.tg_protocol.specs.Versions.{Based, PartVersion, key_version, noted_or, whole_noted, with_part, parts_noted, parts_based, base_parts}
use Rattle.tg_vers.proofs.Order.{part_total, part_lt_is, part_eq_is}
use Rattle.tg_law_layouts.proofs.Moves.Members.{Has}
use Rattle.tg_law_replies.proofs.Plays.Parts.{part_same}

-- Parts that rise, none of them the whole.

abbrev Above : Part → List Part → Type 0
Above p [] = Unit {0}
Above p (x ∷ xs) = (part_cmp p x ≡ Less) × Above p xs

abbrev pub Rise : List Part → Type 0
Rise [] = Unit {0}
Rise (p ∷ ps) = (is_whole p ≡ false) × Above p ps × Rise ps

less_is : (r : Ordering) → is_lt r ≡ true → r ≡ Less
less_is Less e = refl
less_is Equal e = absurd cc
less_is Greater e = absurd cc

greater_is : (r : Ordering) → is_lt r ≡ false → is_eq r ≡ false → ordering_reverse r ≡ Less
greater_is Less e f = absurd cc
greater_is Equal e f = absurd cc
greater_is Greater e f = refl

above_more : (p q : Part) (ks : List Part) → part_cmp p q ≡ Less → Above q ks → Above p ks
above_more p q [] less h = tt
above_more p q (k ∷ ks) less h = (part_total.trans p q k less h.0, above_more p q ks less h.1)

above_with : (p k : Part) (ks : List Part) → part_cmp p k ≡ Less → Above p ks → Above p (with_part k ks)
above_with p k [] less h = (less, tt)
above_with p k (x ∷ xs) less h = by (part_lt k x) (part_eq k x) (above_with p k xs less h.1)
  where
    by : (t u : Bool) → Above p (with_part k xs) → Above p (if t then k ∷ x ∷ xs else (if u then x ∷ xs else x ∷ with_part k xs))
    by true u rest = (less, h)
    by false true rest = h
    by false false rest = (h.0, rest)

with_rises : (k : Part) (ks : List Part) → is_whole k ≡ false → Rise ks → Rise (with_part k ks)
with_rises k [] named h = (named, tt, tt)
with_rises k (x ∷ xs) named h = by (part_lt k x) (part_eq k x) refl refl (with_rises k xs named h.2)
  where
    by : (t u : Bool) → part_lt k x ≡ t → part_eq k x ≡ u → Rise (with_part k xs) → Rise (if t then k ∷ x ∷ xs else (if u then x ∷ xs else x ∷ with_part k xs))
    by true u e f rest = let less = less_is (part_cmp k x) (sym (part_lt_is k x) ∙ e) in (named, (less, above_more k x xs less h.1), h)
    by false true e f rest = h
    by false false e f rest = (h.0, above_with x k xs (part_total.antisymm x k ∙ greater_is (part_cmp k x) (sym (part_lt_is k x) ∙ e) (sym (part_eq_is k x) ∙ f)) h.1, rest)

based_rise : (xs : List (Part × ℕ)) → Rise (parts_based xs)
based_rise [] = tt
based_rise (x ∷ xs) = by (is_whole x.0) refl (based_rise xs)
  where
    by : (b : Bool) → is_whole x.0 ≡ b → Rise (parts_based xs) → Rise (if b then parts_based xs else with_part x.0 (parts_based xs))
    by true e rest = rest
    by false e rest = with_rises x.0 (parts_based xs) e rest

base_rise : (b : Option Based) (o : Oid) → Rise (base_parts b o)
base_rise None o = tt
base_rise (Some b) o = by (oid_eq b.oid o)
  where
    by : (t : Bool) → Rise (if t then parts_based b.keys else [])
    by true = based_rise b.keys
    by false = tt

noted_rise : (ns : List PartVersion) (o : Oid) (ks : List Part) → Rise ks → Rise (parts_noted ns o ks)
noted_rise [] o ks r = r
noted_rise (n ∷ ns) o ks r = by (oid_eq n.oid o) (is_whole n.part) refl (noted_rise ns o ks r)
  where
    by : (t u : Bool) → is_whole n.part ≡ u → Rise (parts_noted ns o ks) → Rise (if t && not u then with_part n.part (parts_noted ns o ks) else parts_noted ns o ks)
    by true true e rest = rest
    by true false e rest = with_rises n.part (parts_noted ns o ks) e rest
    by false u e rest = rest

-- Changes that name a part, and all but one of them.

abbrev pub Names : List PartVersion → Part → Type 0
Names [] k = ⊥
Names (n ∷ ns) k = (n.part ≡ k) ⊎ Names ns k

others : (ns : List PartVersion) (k : Part) → Names ns k → List PartVersion
others [] k i = absurd i
others (n ∷ ns) k (inl e) = ns
others (n ∷ ns) k (inr i) = n ∷ others ns k i

others_long : (ns : List PartVersion) (k : Part) (i : Names ns k) → length (others ns k i) + 1 ≡ length ns
unfolding others
others_long [] k i = absurd i
others_long (n ∷ ns) k (inl e) = omega arith
others_long (n ∷ ns) k (inr i) = let a = others_long ns k i in omega (arith, a)

others_named : (ns : List PartVersion) (k : Part) (i : Names ns k) (j : Part) → (k ≡ j → ⊥) → Names ns j → Names (others ns k i) j
unfolding others
others_named [] k i j other h = absurd i
others_named (n ∷ ns) k (inl e) j other (inl f) = absurd (other (sym e ∙ f))
others_named (n ∷ ns) k (inl e) j other (inr h) = h
others_named (n ∷ ns) k (inr i) j other (inl f) = inl f
others_named (n ∷ ns) k (inr i) j other (inr h) = inr (others_named ns k i j other h)

above_has : (p q : Part) (ks : List Part) → Above p ks → Has ks q → part_cmp p q ≡ Less
above_has p q [] h i = absurd i
above_has p q (k ∷ ks) h (inl e) = subst (λ (x : Part). part_cmp p x ≡ Less) (sym e) h.0
above_has p q (k ∷ ks) h (inr i) = above_has p q ks h.1 i

not_same : (a b : Part) → part_cmp a b ≡ Less → a ≡ b → ⊥
not_same a b less same = no (sym here ∙ (part_total.antisymm a a ∙ ap ordering_reverse here))
  where
    here : part_cmp a a ≡ Less
    here = subst (λ (x : Part). part_cmp a x ≡ Less) (sym same) less

    no : Less ≡ ordering_reverse Less → ⊥
    no e = cc

-- Parts that rise and of which each that is told is named by a change: they are no more than the changes.
module _ (f : Part → ℕ) (whole : ℕ) where
  abbrev pub keys_for : List Part → List (Part × ℕ)
  keys_for ks = filter (λ (x : Part × ℕ). nat_lt whole x.1) (map (λ (k : Part). (k, f k)) ks)

  pub keys_few : (ks : List Part) (ns : List PartVersion) → Rise ks → ((k : Part) → Has ks k → nat_lt whole (f k) ≡ true → Names ns k) → length (keys_for ks) ≤ length ns
  keys_few [] ns r h = omega arith
  keys_few (k ∷ ks) ns r h = by (nat_lt whole (f k)) refl (λ ms g. keys_few ks ms r.2 g)
    where
      by : (b : Bool) → nat_lt whole (f k) ≡ b → ((ms : List PartVersion) → ((j : Part) → Has ks j → nat_lt whole (f j) ≡ true → Names ms j) → length (keys_for ks) ≤ length ms)
          → length (cond b ((k, f k) ∷ keys_for ks) (keys_for ks)) ≤ length ns
      by false e rest = rest ns (λ j i t. h j (inr i) t)
      by true e rest =
          let i = h k (inl refl) e in
          let a = rest (others ns k i) (λ j g t. others_named ns k i j (not_same k j (above_has k j ks r.1 g)) (h j (inr g) t)) in
          let b = others_long ns k i in
          omega (arith, a, b)

  pub keys_sum : (ks : List Part) → ((k : Part) → Has ks k → nat_lt whole (f k) ≡ true → part_size k ≤ 5000) → sum_of (map key_size (keys_for ks)) ≤ 5008 * length (keys_for ks)
  keys_sum [] h = omega arith
  keys_sum (k ∷ ks) h = by (nat_lt whole (f k)) refl (keys_sum ks (λ j i t. h j (inr i) t))
    where
      by : (b : Bool) → nat_lt whole (f k) ≡ b → sum_of (map key_size (keys_for ks)) ≤ 5008 * length (keys_for ks)
          → sum_of (map key_size (cond b ((k, f k) ∷ keys_for ks) (keys_for ks))) ≤ 5008 * length (cond b ((k, f k) ∷ keys_for ks) (keys_for ks))
      by false e rest = rest
      by true e rest = let a = h k (inl refl) e in omega (arith, a, rest)

-- A part that nothing names has the version of the whole.

number_in : Part → ℕ
number_in All = 0
number_in (Text t) = 0
number_in (Num n) = n

noted_top : List PartVersion → ℕ
noted_top [] = 0
noted_top (n ∷ ns) = number_in n.part + noted_top ns

keys_top : List (Part × ℕ) → ℕ
keys_top [] = 0
keys_top (k ∷ ks) = number_in k.0 + keys_top ks

base_top : Option Based → ℕ
base_top None = 0
base_top (Some b) = keys_top b.keys

fresh_over : (k : Part) (f : ℕ) → number_in k < f → overlap k (Num f) ≡ is_whole k
unfolding number_in
fresh_over All f less = refl
fresh_over (Text t) f less = refl
fresh_over (Num n) f less = other
  where
    other : (n == f) ≡ false
    other = grind (arith, less)

fresh_key : (k : Part) (f : ℕ) → number_in k < f → part_eq (Num f) k ≡ false
unfolding number_in
fresh_key All f less = refl
fresh_key (Text t) f less = refl
fresh_key (Num n) f less = other
  where
    other : (f == n) ≡ false
    other = grind (arith, less)

key_fresh : (f whole : ℕ) (ks : List (Part × ℕ)) → keys_top ks < f → key_version (Num f) whole ks ≡ whole
unfolding keys_top
key_fresh f whole [] less = refl
key_fresh f whole (k ∷ ks) less = ap (λ (b : Bool). if b then k.1 else key_version (Num f) whole ks) (fresh_key k.0 f (omega (arith, less))) ∙ key_fresh f whole ks (omega (arith, less))

noted_fresh : (b : Option Based) (ns : List PartVersion) (o : Oid) (f : ℕ) → base_top b < f → noted_top ns < f → noted_or b ns o (Num f) ≡ whole_noted b ns o
unfolding base_top noted_top
noted_fresh None [] o f less more = refl
noted_fresh (Some b) [] o f less more = ap (λ (n : ℕ). if oid_eq b.oid o then n else 0) (key_fresh f b.whole b.keys less)
noted_fresh b (n ∷ ns) o f less more =
    ap (λ (t : Bool). if oid_eq n.oid o && t then n.version else noted_or b ns o (Num f)) (fresh_over n.part f (omega (arith, more)))
    ∙ ap (λ (x : ℕ). if oid_eq n.oid o && is_whole n.part then n.version else x) (noted_fresh b ns o f less (omega (arith, more)))

-- what has a version above the whole's is named by a change
named_key : (ns : List PartVersion) (o : Oid) (k : Part) → is_whole k ≡ false → whole_noted None ns o < noted_or None ns o k → Names ns k
named_key [] o k named less = absurd (omega (arith, less))
named_key (n ∷ ns) o k named less = by (oid_eq n.oid o) (is_whole n.part) refl (overlap n.part k) refl less (λ h. named_key ns o k named h)
  where
    over_whole : (a b c : Bool) → (a || b || c) ≡ false → a ≡ true → ⊥
    over_whole true b c e f = cc
    over_whole false b c e f = cc

    over_same : overlap n.part k ≡ true → is_whole n.part ≡ false → n.part ≡ k
    over_same e w = part_same n.part k (left (is_whole n.part) (is_whole k) (part_eq n.part k) e w named)
      where
        left : (a b c : Bool) → (a || b || c) ≡ true → a ≡ false → b ≡ false → c ≡ true
        left a b c e f g = grind arith

    by : (t w : Bool) → is_whole n.part ≡ w → (v : Bool) → overlap n.part k ≡ v → (if t && w then n.version else whole_noted None ns o) < (if t && v then n.version else noted_or None ns o k)
        → (whole_noted None ns o < noted_or None ns o k → Names ns k) → Names (n ∷ ns) k
    by false w e v f h rest = inr (rest h)
    by true true e true f h rest = absurd (omega (arith, h))
    by true true e false f h rest = absurd (over_whole (is_whole n.part) (is_whole k) (part_eq n.part k) f e)
    by true false e true f h rest = inl (over_same f e)
    by true false e false f h rest = inr (rest h)

-- Two lists of changes by which all parts have the same versions: what is told by the one is named by the other.
module _ (b : Option Based) (vs ns : List PartVersion) (o : Oid) (same : (k : Part) → noted_or b vs o k ≡ noted_or None ns o k) where
  abbrev fresh : ℕ
  fresh = base_top b + noted_top vs + noted_top ns + 1

  none_less : base_top None < fresh
  unfolding base_top
  none_less = omega arith

  whole_same : whole_noted b vs o ≡ whole_noted None ns o
  whole_same = sym (noted_fresh b vs o fresh (omega arith) (omega arith)) ∙ (same (Num fresh) ∙ noted_fresh None ns o fresh none_less (omega arith))

  named_parts : (ks : List Part) → Rise ks → (k : Part) → Has ks k → nat_lt (whole_noted b vs o) (noted_or b vs o k) ≡ true → Names ns k
  named_parts [] r k i t = absurd i
  named_parts (x ∷ xs) r k (inr i) t = named_parts xs r.2 k i t
  named_parts (x ∷ xs) r k (inl e) t = named_key ns o k (subst (λ (y : Part). is_whole y ≡ false) (sym e) r.0) less
    where
      is_less : (m n : ℕ) → nat_lt m n ≡ true → m < n
      is_less m n e = grind (arith, nat_tests)

      less : whole_noted None ns o < noted_or None ns o k
      less = let a = is_less _ _ t in let c = whole_same in let d = same k in omega (arith, a, c, d)

  rises : Rise (parts_noted vs o (base_parts b o))
  rises = noted_rise vs o (base_parts b o) (base_rise b o)

  pub few_told : length (keys_for (λ (k : Part). noted_or b vs o k) (whole_noted b vs o) (parts_noted vs o (base_parts b o))) ≤ length ns
  few_told = keys_few (λ (k : Part). noted_or b vs o k) (whole_noted b vs o) (parts_noted vs o (base_parts b o)) ns rises (named_parts (parts_noted vs o (base_parts b o)) rises)

  pub told_few : ((k : Part) → Names ns k → part_size k ≤ 5000) → sum_of (map key_size (keys_for (λ (k : Part). noted_or b vs o k) (whole_noted b vs o) (parts_noted vs o (base_parts b o)))) ≤ 5008 * length ns
  told_few small =
      let a = keys_sum (λ (k : Part). noted_or b vs o k) (whole_noted b vs o) (parts_noted vs o (base_parts b o)) (λ k i t. small k (named_parts (parts_noted vs o (base_parts b o)) rises k i t)) in
      let c = few_told in
      omega (arith, a, c)
