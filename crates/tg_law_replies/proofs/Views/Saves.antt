-- A checkpoint of a sound view gives a lawful base.
use Rattle.std.proofs.Common.{◌≡◌, ℕ, ◌<◌, ◌≤◌, List, [], ◌∷◌, map, Bool, true, false, refl, sym, ap, ◌∙◌, subst, arith, inl, inr, Option, Some, None}
use Rattle.std.specs.Prelude.{nat_le, nat_lt, not, if◌then◌else◌, ◌&&◌, filter}
use Rattle.tg_base.specs.declared.ids.Oid.{Oid}
use Rattle.tg_base.specs.declared.marks.Part.{Part}
use Rattle.tg_base.specs.declared.marks.Part.TheVariants.{All, Text, Num}
use Rattle.tg_kind.specs.Meaning.{Meaning}
use Rattle.tg_protocol.specs.Words.{part_lt}
use Rattle.tg_kind.specs.Parts.{overlap, is_whole, part_eq}
use Rattle.tg_base.specs.Orders.{oid_eq}
use Rattle.tg_protocol.specs.Versions.{Based, PartVersion, Parts, key_version, version_in, base_version, noted_or, version_of, based, whole_noted, with_part, parts_noted, parts_based, base_parts, parts_of}
use Rattle.tg_protocol.specs.Views.{Base, View, base_of, state_of, view_version, view_parts, played_version, played_parts}
use Rattle.tg_protocol.specs.Checkpoints.{saved_bytes, checkpoint, base_at, loaded}
use Rattle.tg_law_replies.specs.Plays.Sound.{Fall, AreKeys, IsBased, AreVersions, IsBase, IsSound}
use Rattle.tg_law_replies.proofs.Plays.Parts.{After}
use Rattle.tg_law_replies.proofs.Plays.Saved.{noted_within, base_lawful, after_of}
use Rattle.tg_law_replies.proofs.History.Members.{Has}

at_most : (a b : ℕ) → nat_le a b ≡ true → a ≤ b
at_most a b h = grind arith

less_than : (a b : ℕ) → nat_lt a b ≡ true → a < b
less_than a b h = grind arith

key_within : (k : Part) (whole version : ℕ) (xs : List (Part × ℕ)) → whole ≤ version → AreKeys whole version xs → key_version k whole xs ≤ version
key_within k whole version [] le h = le
key_within k whole version (x ∷ xs) le h = at (part_eq k x.0) (key_within k whole version xs le h.3)
  where
    at : (b : Bool) → key_version k whole xs ≤ version → (if b then x.1 else key_version k whole xs) ≤ version
    at true rest = h.2
    at false rest = rest

part_within : (o : Oid) (b : Based) (upto : ℕ) (k : Part) → IsBased o upto b → version_in b k ≤ b.version
part_within o b upto All h = omega arith
part_within o b upto (Text t) h = key_within (Text t) b.whole b.version b.keys h.whole h.keys
part_within o b upto (Num n) h = key_within (Num n) b.whole b.version b.keys h.whole h.keys

module _ (o : Oid) (b : Option Based) (upto : ℕ) (lawful : AreVersions o upto b) where
  base_all : (b : Option Based) → AreVersions o upto b → (k : Part) → base_version b o k ≤ base_version b o All
  base_all None h k = omega arith
  base_all (Some b) h k = at (oid_eq b.oid o)
    where
      at : (t : Bool) → (if t then version_in b k else 0) ≤ (if t then b.version else 0)
      at true = part_within o b upto k h
      at false = omega arith

  whole_all : (b : Option Based) → AreVersions o upto b → whole_noted b [] o ≤ base_version b o All
  whole_all None h = omega arith
  whole_all (Some b) h = at (oid_eq b.oid o)
    where
      at : (t : Bool) → (if t then b.whole else 0) ≤ (if t then b.version else 0)
      at true = h.whole
      at false = omega arith

  all_overlaps : (k : Part) → overlap k All ≡ true
  all_overlaps k = by (is_whole k)
    where
      by : (b : Bool) → overlap k All ≡ true
      by c = grind arith

  first_all : (n : PartVersion) (ns : List PartVersion) → noted_or b (n ∷ ns) o All ≡ (if oid_eq n.oid o then n.version else noted_or b ns o All)
  first_all n ns = by (oid_eq n.oid o) refl
    where
      by : (t : Bool) → oid_eq n.oid o ≡ t → (if oid_eq n.oid o && overlap n.part All then n.version else noted_or b ns o All) ≡ (if t then n.version else noted_or b ns o All)
      by true e = ap (λ (c : Bool). if c && overlap n.part All then n.version else noted_or b ns o All) e ∙ ap (λ (c : Bool). if c then n.version else noted_or b ns o All) (all_overlaps n.part)
      by false e = ap (λ (c : Bool). if c && overlap n.part All then n.version else noted_or b ns o All) e

  below_first : (n : PartVersion) (ns : List PartVersion) (k : Part) → oid_eq n.oid o ≡ true → Fall n.version ns → After o upto (n ∷ ns) → noted_or b ns o k ≤ n.version
  below_first n ns k same fall after = let a = after.0 same in noted_within o b ns n.version upto k lawful (omega (arith, a)) fall

  pub part_at_most : (ns : List PartVersion) (bound : ℕ) (k : Part) → Fall bound ns → After o upto ns → noted_or b ns o k ≤ noted_or b ns o All
  part_at_most [] bound k fall after = base_all b lawful k
  part_at_most (n ∷ ns) bound k fall after = subst (λ (x : ℕ). noted_or b (n ∷ ns) o k ≤ x) (sym (first_all n ns)) (by (oid_eq n.oid o) refl (overlap n.part k) (part_at_most ns n.version k fall.1 after.1))
    where
      by : (t : Bool) → oid_eq n.oid o ≡ t → (u : Bool) → noted_or b ns o k ≤ noted_or b ns o All → (if t && u then n.version else noted_or b ns o k) ≤ (if t then n.version else noted_or b ns o All)
      by true e true rest = omega arith
      by true e false rest = below_first n ns k e fall.1 after
      by false e u rest = rest

  pub whole_at_most : (ns : List PartVersion) (bound : ℕ) → Fall bound ns → After o upto ns → whole_noted b ns o ≤ noted_or b ns o All
  whole_at_most [] bound fall after = whole_all b lawful
  whole_at_most (n ∷ ns) bound fall after = subst (λ (x : ℕ). whole_noted b (n ∷ ns) o ≤ x) (sym (first_all n ns)) (by (oid_eq n.oid o) refl (is_whole n.part) (whole_at_most ns n.version fall.1 after.1))
    where
      by : (t : Bool) → oid_eq n.oid o ≡ t → (u : Bool) → whole_noted b ns o ≤ noted_or b ns o All → (if t && u then n.version else whole_noted b ns o) ≤ (if t then n.version else noted_or b ns o All)
      by true e true rest = omega arith
      by true e false rest = let le = below_first n ns All e fall.1 after in omega (arith, le, rest)
      by false e u rest = rest

-- Parts that keys name.

abbrev AreNamed : List Part → Type 0
AreNamed ks = (k : Part) → Has ks k → is_whole k ≡ false

with_named : (k : Part) (xs : List Part) → is_whole k ≡ false → AreNamed xs → AreNamed (with_part k xs)
with_named k [] e h j (inl s) = ap is_whole s ∙ e
with_named k [] e h j (inr i) = absurd i
with_named k (x ∷ xs) e h j i = by (part_lt k x) (part_eq k x) i (with_named k xs e (λ y z. h y (inr z)))
  where
    by : (a c : Bool) → Has (if a then k ∷ x ∷ xs else (if c then x ∷ xs else x ∷ with_part k xs)) j → AreNamed (with_part k xs) → is_whole j ≡ false
    by true c (inl s) rest = ap is_whole s ∙ e
    by true c (inr z) rest = h j z
    by false true z rest = h j z
    by false false (inl s) rest = h j (inl s)
    by false false (inr z) rest = rest j z

based_named : (xs : List (Part × ℕ)) → AreNamed (parts_based xs)
based_named [] = λ k i. absurd i
based_named (x ∷ xs) = by (is_whole x.0) refl (based_named xs)
  where
    by : (t : Bool) → is_whole x.0 ≡ t → AreNamed (parts_based xs) → AreNamed (if t then parts_based xs else with_part x.0 (parts_based xs))
    by true e rest = rest
    by false e rest = with_named x.0 (parts_based xs) e rest

base_named : (b : Option Based) (o : Oid) → AreNamed (base_parts b o)
base_named None o = λ k i. absurd i
base_named (Some b) o = by (oid_eq b.oid o)
  where
    by : (t : Bool) → AreNamed (if t then parts_based b.keys else [])
    by true = based_named b.keys
    by false = λ k i. absurd i

noted_named : (ns : List PartVersion) (o : Oid) (ks : List Part) → AreNamed ks → AreNamed (parts_noted ns o ks)
noted_named [] o ks h = h
noted_named (n ∷ ns) o ks h = by (oid_eq n.oid o) (is_whole n.part) refl (noted_named ns o ks h)
  where
    by : (t u : Bool) → is_whole n.part ≡ u → AreNamed (parts_noted ns o ks) → AreNamed (if t && not u then with_part n.part (parts_noted ns o ks) else parts_noted ns o ks)
    by true false e rest = with_named n.part (parts_noted ns o ks) e rest
    by true true e rest = rest
    by false u e rest = rest

are_keys : (f : Part → ℕ) (whole version : ℕ) (ks : List Part) → AreNamed ks → ((k : Part) → f k ≤ version) → AreKeys whole version (filter (λ (x : Part × ℕ). nat_lt whole x.1) (map (λ (k : Part). (k, f k)) ks))
are_keys f whole version [] h le = tt
are_keys f whole version (k ∷ ks) h le = by (nat_lt whole (f k)) refl (are_keys f whole version ks (λ j i. h j (inr i)) le)
  where
    rest : List (Part × ℕ)
    rest = filter (λ (x : Part × ℕ). nat_lt whole x.1) (map (λ (j : Part). (j, f j)) ks)

    by : (t : Bool) → nat_lt whole (f k) ≡ t → AreKeys whole version (filter (λ (x : Part × ℕ). nat_lt whole x.1) (map (λ (j : Part). (j, f j)) ks))
        → AreKeys whole version (if t then (k, f k) ∷ filter (λ (x : Part × ℕ). nat_lt whole x.1) (map (λ (j : Part). (j, f j)) ks) else filter (λ (x : Part × ℕ). nat_lt whole x.1) (map (λ (j : Part). (j, f j)) ks))
    by true e more = (h k (inl refl), less_than whole (f k) e, le k, more)
    by false e more = more

module _ (m : Meaning) where
  none_is : (b : Base m) → None ≡ Some b → ⊥
  none_is b e = cc

  one_is : (a b : Base m) → Some a ≡ Some b → a ≡ b
  one_is a b e = cc

  -- what a sound view tells of an object whose base it has reached
  abbrev pub IsTold : Oid → ℕ → Parts → Type 0
  IsTold o version ps = (ps.whole ≤ version) × AreKeys ps.whole version ps.keys

  told_lawful : (v : View m) (o : Oid) (b : Base m) → IsSound m v → base_of m v o ≡ Some b → IsTold o (view_version m v o All) (view_parts m v o)
  unfolding view_version view_parts version_of parts_of
  told_lawful v o b sound is =
      subst (λ (c : Option (Base m)). IsTold o (played_version m v c o All) (played_parts m v c o)) (sym is)
      (let lawful = base_lawful m v.bases o b sound.bases is in
      let after = after_of m v.bases v.noted o b is sound.after in (
        whole_at_most o b.versions.base b.upto lawful v.noted v.upto sound.fall after,
        are_keys (λ (k : Part). noted_or b.versions.base v.noted o k) (whole_noted b.versions.base v.noted o) (noted_or b.versions.base v.noted o All) (parts_noted v.noted o (base_parts b.versions.base o))
            (noted_named v.noted o (base_parts b.versions.base o) (base_named b.versions.base o)) (λ k. part_at_most o b.versions.base b.upto lawful v.noted v.upto k sound.fall after),
      ))

  -- so its checkpoint gives a lawful base
  pub saves_lawful : (v : View m) (o : Oid) (b c : Base m) (t client number : ℕ) → IsSound m v → base_of m v o ≡ Some b → base_at m o (checkpoint m v o t client number) ≡ Some c → IsBase m c
  unfolding checkpoint based
  saves_lawful v o b c t client number sound is gives = by (oid_eq o o) (nat_le (view_version m v o All) t) refl gives
    where
      told : IsTold o (view_version m v o All) (view_parts m v o)
      told = told_lawful v o b sound is

      of_state : nat_le (view_version m v o All) t ≡ true → (s : Option m.state) → loaded m o t (based o (view_version m v o All) (view_parts m v o).whole (view_parts m v o).keys) s ≡ Some c → IsBase m c
      of_state e None k = absurd (none_is c k)
      of_state e (Some s) k = subst (λ (x : Base m). IsBase m x) (one_is _ c k) (record { oid = refl; version = at_most (view_version m v o All) t e; whole = told.0; keys = told.1 })

      by : (x y : Bool) → nat_le (view_version m v o All) t ≡ y
          → (if x && y then loaded m o t (based o (view_version m v o All) (view_parts m v o).whole (view_parts m v o).keys) (m.load o (saved_bytes m (state_of m v o))) else None) ≡ Some c → IsBase m c
      by true true e k = of_state e (m.load o (saved_bytes m (state_of m v o))) k
      by true false e k = absurd (none_is c k)
      by false y e k = absurd (none_is c k)
