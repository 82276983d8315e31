-- Parts, their versions, and what a checkpoint tells of them.
use Rattle.std.proofs.Common.{◌≡◌, ℕ, ◌<◌, ◌≤◌, List, [], ◌∷◌, Bool, true, false, not, refl, sym, ap, ◌∙◌, subst, arith, Some, None, Option, ◌&&◌, ◌||◌, filter, map, cond}
use Rattle.std.specs.Prelude.{nat_lt, if◌then◌else◌, ◌==◌}
use Rattle.std.specs.Cmp.Lexicographic.{bytes_decides}
use Rattle.tg_base.specs.declared.ids.Oid.{Oid}
use Rattle.tg_base.specs.declared.marks.Part.{Part}
use Rattle.tg_base.specs.declared.marks.Part.TheVariants.{All, Text, Num}
use Rattle.tg_protocol.specs.Words.{part_lt}
use Rattle.tg_kind.specs.Parts.{part_eq, is_whole}
use Rattle.tg_base.specs.Orders.{oid_eq}
use Rattle.tg_protocol.specs.Versions.{Based, PartVersion, key_version, version_in, base_version, noted_or, version_of, whole_noted, with_part, parts_noted, parts_based, base_parts, parts_of, based}
use Rattle.tg_law_replies.specs.Plays.Sound.{AreKeys, IsBased, AreVersions, Fall}

-- Equal parts.

number_same : (a b : ℕ) → (a == b) ≡ true → Num a ≡ Num b
number_same a b h = grind arith

pub part_same : (a b : Part) → part_eq a b ≡ true → a ≡ b
part_same All All h = refl
part_same All (Text t) h = absurd (cc)
part_same All (Num n) h = absurd (cc)
part_same (Text t) All h = absurd (cc)
part_same (Text s) (Text t) h = ap (λ (bytes : List ℕ). Text bytes) ((bytes_decides s t).0 h)
part_same (Text t) (Num n) h = absurd (cc)
part_same (Num n) All h = absurd (cc)
part_same (Num n) (Text t) h = absurd (cc)
part_same (Num a) (Num b) h = number_same a b h

pub number_itself : (n : ℕ) → (n == n) ≡ true
number_itself n = grind arith

pub part_itself : (a : Part) → part_eq a a ≡ true
part_itself All = refl
part_itself (Text t) = (bytes_decides t t).1 refl
part_itself (Num n) = number_itself n

contrary : {X : Type 0} → (b : Bool) → b ≡ false → b ≡ true → X
contrary b f t = absurd (differ (sym f ∙ t))
  where
    differ : false ≡ true → ⊥
    differ e = cc

-- whether a list names a part
abbrev pub names : List Part → Part → Bool
names [] k = false
names (x ∷ xs) k = part_eq k x || names xs k

named_first : (k j : Part) (xs : List Part) (b : Bool) → part_eq k j ≡ b → (part_eq k j || names xs k) ≡ (part_eq k j || names xs k)
named_first k j xs b h = refl

or_false : (a b : Bool) → (a || b) ≡ false → (a ≡ false) × (b ≡ false)
or_false a b h = grind arith

-- a part that is put in is named, and so are the others
with_named : (j : Part) (xs : List Part) (k : Part) → names (with_part j xs) k ≡ (part_eq k j || names xs k)
with_named j [] k = refl
with_named j (x ∷ xs) k = by (part_lt j x) (part_eq j x) refl (with_named j xs k)
  where
    swap : (a b c : Bool) → (a || (b || c)) ≡ (b || (a || c))
    swap a b c = grind arith

    twice : (b c : Bool) → (b || c) ≡ (b || (b || c))
    twice b c = grind arith

    by : (less same : Bool) → part_eq j x ≡ same → names (with_part j xs) k ≡ (part_eq k j || names xs k)
        → names (if less then j ∷ x ∷ xs else (if same then x ∷ xs else x ∷ with_part j xs)) k ≡ (part_eq k j || names (x ∷ xs) k)
    by true same h rest = refl
    by false true h rest = subst (λ (y : Part). names (y ∷ xs) k ≡ (part_eq k j || names (y ∷ xs) k)) (part_same j x h) (twice (part_eq k j) (names xs k))
    by false false h rest = ap (λ (b : Bool). part_eq k x || b) rest ∙ swap (part_eq k x) (part_eq k j) (names xs k)

part_differs : (a b : Part) → part_eq a b ≡ false → part_eq b a ≡ false
part_differs a b h = by (part_eq b a) refl
  where
    by : (t : Bool) → part_eq b a ≡ t → part_eq b a ≡ false
    by true e = contrary (part_eq a b) h (subst (λ (x : Part). part_eq x b ≡ true) (part_same b a e) (part_itself b))
    by false e = e

pub if_neither : (a b : Bool) (x y : ℕ) → a ≡ false → b ≡ false → (if a || b then x else y) ≡ y
if_neither a b x y p q = grind arith

-- PartVersion versions below a bound are below a greater one.
pub fall_more : (bound top : ℕ) (ns : List PartVersion) → bound ≤ top → Fall bound ns → Fall top ns
fall_more bound top [] le h = tt
fall_more bound top (n ∷ ns) le h = let p = h.0 in (omega (arith, p, le), h.1)

-- Versions of one object.

module _ (o : Oid) where
  -- An unnamed part's version is the whole's.

  other_key : (k : Part) (x : Part × ℕ) (whole : ℕ) (xs : List (Part × ℕ)) → part_eq k x.0 ≡ false → key_version k whole (x ∷ xs) ≡ key_version k whole xs
  other_key k x whole xs h = ap (λ (b : Bool). if b then x.1 else key_version k whole xs) h

  no_whole : (k j : Part) → is_whole k ≡ false → is_whole j ≡ true → part_eq k j ≡ false
  no_whole k j part e = by (part_eq k j) refl
    where
      by : (t : Bool) → part_eq k j ≡ t → part_eq k j ≡ false
      by true same = contrary (is_whole k) part (subst (λ (x : Part). is_whole x ≡ true) (sym (part_same k j same)) e)
      by false same = same

  unnamed_key : (k : Part) (whole : ℕ) (xs : List (Part × ℕ)) → is_whole k ≡ false → names (parts_based xs) k ≡ false → key_version k whole xs ≡ whole
  unnamed_key k whole [] part h = refl
  unnamed_key k whole (x ∷ xs) part h = by (unnamed_key k whole xs part) (is_whole x.0) refl h
    where
      by : (names (parts_based xs) k ≡ false → key_version k whole xs ≡ whole) → (b : Bool) → is_whole x.0 ≡ b → names (if b then parts_based xs else with_part x.0 (parts_based xs)) k ≡ false → key_version k whole (x ∷ xs) ≡ whole
      by rest true e named = other_key k x whole xs (no_whole k x.0 part e) ∙ rest named
      by rest false e named =
          let t = or_false (part_eq k x.0) (names (parts_based xs) k) (sym (with_named x.0 (parts_based xs) k) ∙ named) in
          other_key k x whole xs t.0 ∙ rest t.1

  keyed_version : (b : Based) (k : Part) → is_whole k ≡ false → version_in b k ≡ key_version k b.whole b.keys
  keyed_version b All h = absurd (cc)
  keyed_version b (Text t) h = refl
  keyed_version b (Num n) h = refl

  unnamed_based : (b : Based) (k : Part) (same : Bool) → oid_eq b.oid o ≡ same → is_whole k ≡ false → names (if same then parts_based b.keys else []) k ≡ false
      → (if same then version_in b k else 0) ≡ (if same then b.whole else 0)
  unnamed_based b k true e part h = keyed_version b k part ∙ unnamed_key k b.whole b.keys part h
  unnamed_based b k false e part h = refl

  unnamed_base : (b : Option Based) (k : Part) → is_whole k ≡ false → names (base_parts b o) k ≡ false → base_version b o k ≡ whole_noted b [] o
  unnamed_base None k part h = refl
  unnamed_base (Some b) k part h = unnamed_based b k (oid_eq b.oid o) refl part h

  -- what a change says of a part: its own version, or nothing
  unnamed_more : (b : Option Based) (n : PartVersion) (ns : List PartVersion) (k : Part) (of whole : Bool) → oid_eq n.oid o ≡ of → is_whole n.part ≡ whole → is_whole k ≡ false
      → (names (parts_noted ns o (base_parts b o)) k ≡ false → noted_or b ns o k ≡ whole_noted b ns o)
      → names (if of && not whole then with_part n.part (parts_noted ns o (base_parts b o)) else parts_noted ns o (base_parts b o)) k ≡ false
      → (if of && (whole || is_whole k || part_eq n.part k) then n.version else noted_or b ns o k) ≡ (if of && whole then n.version else whole_noted b ns o)
  unnamed_more b n ns k false whole e f part rest h = rest h
  unnamed_more b n ns k true true e f part rest h = refl
  unnamed_more b n ns k true false e f part rest h =
      let t = or_false (part_eq k n.part) (names (parts_noted ns o (base_parts b o)) k) (sym (with_named n.part (parts_noted ns o (base_parts b o)) k) ∙ h) in
      if_neither (is_whole k) (part_eq n.part k) n.version (noted_or b ns o k) part (part_differs k n.part t.0) ∙ rest t.1

  -- a part that no change and no key names has the whole's version
  unnamed : (b : Option Based) (ns : List PartVersion) (k : Part) → is_whole k ≡ false → names (parts_noted ns o (base_parts b o)) k ≡ false → noted_or b ns o k ≡ whole_noted b ns o
  unnamed b [] k part h = unnamed_base b k part h
  unnamed b (n ∷ ns) k part h = unnamed_more b n ns k (oid_eq n.oid o) (is_whole n.part) refl refl part (unnamed b ns k part) h

  -- No part's version is below the whole's.

  -- what was noted of the object is above a bound
  abbrev pub After : ℕ → List PartVersion → Type 0
  After upto [] = Unit {0}
  After upto (n ∷ ns) = (oid_eq n.oid o ≡ true → upto < n.version) × After upto ns

  key_above : (k : Part) (whole version : ℕ) (xs : List (Part × ℕ)) → AreKeys whole version xs → whole ≤ key_version k whole xs
  key_above k whole version [] h = omega arith
  key_above k whole version (x ∷ xs) h = at (part_eq k x.0) (key_above k whole version xs h.3)
    where
      at : (b : Bool) → whole ≤ key_version k whole xs → whole ≤ (if b then x.1 else key_version k whole xs)
      at true rest = let less = h.1 in omega (arith, less)
      at false rest = rest

  based_above : (b : Based) (upto : ℕ) (k : Part) → is_whole k ≡ false → IsBased o upto b → b.whole ≤ version_in b k
  based_above b upto k part h = subst (λ (n : ℕ). b.whole ≤ n) (sym (keyed_version b k part)) (key_above k b.whole b.version b.keys h.keys)

  base_above : (b : Option Based) (upto : ℕ) (k : Part) → is_whole k ≡ false → AreVersions o upto b → whole_noted b [] o ≤ base_version b o k
  base_above None upto k part h = omega arith
  base_above (Some b) upto k part h = at (oid_eq b.oid o)
    where
      at : (same : Bool) → (if same then b.whole else 0) ≤ (if same then version_in b k else 0)
      at true = based_above b upto k part h
      at false = omega arith

  base_within : (b : Option Based) (upto : ℕ) → AreVersions o upto b → whole_noted b [] o ≤ upto
  base_within None upto h = omega arith
  base_within (Some b) upto h = at (oid_eq b.oid o)
    where
      at : (same : Bool) → (if same then b.whole else 0) ≤ upto
      at true = let p = h.whole in let q = h.version in omega (arith, p, q)
      at false = omega arith

  whole_step : (b : Option Based) (n : PartVersion) (ns : List PartVersion) (bound : ℕ) (t : Bool) → n.version ≤ bound → whole_noted b ns o ≤ bound → (if t then n.version else whole_noted b ns o) ≤ bound
  whole_step b n ns bound true p q = p
  whole_step b n ns bound false p q = q

  whole_within : (b : Option Based) (ns : List PartVersion) (bound : ℕ) → Fall bound ns → whole_noted b [] o ≤ bound → whole_noted b ns o ≤ bound
  whole_within b [] bound fall h = h
  whole_within b (n ∷ ns) bound fall h = whole_step b n ns bound (oid_eq n.oid o && is_whole n.part) fall.0 (whole_within b ns bound (fall_more n.version bound ns fall.0 fall.1) h)

  above_step : (b : Option Based) (n : PartVersion) (ns : List PartVersion) (k : Part) (upto : ℕ) (of whole same : Bool) → is_whole k ≡ false → (of ≡ true → upto < n.version) → whole_noted b [] o ≤ upto
      → Fall n.version ns → whole_noted b ns o ≤ noted_or b ns o k
      → (if of && whole then n.version else whole_noted b ns o) ≤ (if of && (whole || is_whole k || same) then n.version else noted_or b ns o k)
  above_step b n ns k upto false whole same part later base fall rest = rest
  above_step b n ns k upto true true same part later base fall rest = omega arith
  above_step b n ns k upto true false true part later base fall rest =
      let less = later refl in
      let le = whole_within b ns n.version fall (omega (arith, less, base)) in
      either_true (is_whole k) n.version (noted_or b ns o k) (whole_noted b ns o) le
    where
      either_true : (t : Bool) (x y w : ℕ) → w ≤ x → w ≤ (if t || true then x else y)
      either_true true x y w h = h
      either_true false x y w h = h
  above_step b n ns k upto true false false part later base fall rest = neither (is_whole k) n.version (noted_or b ns o k) (whole_noted b ns o) part rest
    where
      neither : (t : Bool) (x y w : ℕ) → t ≡ false → w ≤ y → w ≤ (if t || false then x else y)
      neither true x y w e h = absurd (cc)
      neither false x y w e h = h

  above : (b : Option Based) (upto : ℕ) (ns : List PartVersion) (k : Part) (bound : ℕ) → is_whole k ≡ false → AreVersions o upto b → Fall bound ns → After upto ns → whole_noted b ns o ≤ noted_or b ns o k
  above b upto [] k bound part base fall later = base_above b upto k part base
  above b upto (n ∷ ns) k bound part base fall later =
      above_step b n ns k upto (oid_eq n.oid o) (is_whole n.part) (part_eq n.part k) part later.0 (base_within b upto base) fall.1 (above b upto ns k n.version part base fall.1 later.1)

-- What a checkpoint tells.

-- keys of some parts, where their versions are above the whole's
module _ (version : Part → ℕ) (whole : ℕ) where
  abbrev with_version : Part → Part × ℕ
  with_version k = (k, version k)

  abbrev is_above : Part × ℕ → Bool
  is_above x = nat_lt whole x.1

  abbrev keys_for : List Part → List (Part × ℕ)
  keys_for ks = filter is_above (map with_version ks)

  key_step : (k x : Part) (xs : List Part) (same more : Bool) → part_eq k x ≡ same → nat_lt whole (version x) ≡ more
      → key_version k whole (keys_for xs) ≡ (if names xs k && nat_lt whole (version k) then version k else whole)
      → key_version k whole (cond more ((x, version x) ∷ keys_for xs) (keys_for xs)) ≡ (if (same || names xs k) && nat_lt whole (version k) then version k else whole)
  key_step k x xs true true e f rest = ap (λ (b : Bool). if b then version x else key_version k whole (keys_for xs)) e ∙ by (part_same k x e)
    where
      by : k ≡ x → version x ≡ (if nat_lt whole (version k) then version k else whole)
      by s = sym (ap (λ (b : Bool). if b then version k else whole) (ap (λ (y : Part). nat_lt whole (version y)) s ∙ f) ∙ ap version s)
  key_step k x xs true false e f rest = rest ∙ by (names xs k) (part_same k x e)
    where
      by : (b : Bool) → k ≡ x → (if b && nat_lt whole (version k) then version k else whole) ≡ (if nat_lt whole (version k) then version k else whole)
      by true s = refl
      by false s = sym (ap (λ (b : Bool). if b then version k else whole) (ap (λ (y : Part). nat_lt whole (version y)) s ∙ f))
  key_step k x xs false true e f rest = ap (λ (b : Bool). if b then version x else key_version k whole (keys_for xs)) e ∙ rest
  key_step k x xs false false e f rest = rest

  key_of : (k : Part) (ks : List Part) → key_version k whole (keys_for ks) ≡ (if names ks k && nat_lt whole (version k) then version k else whole)
  key_of k [] = refl
  key_of k (x ∷ xs) = key_step k x xs (part_eq k x) (nat_lt whole (version x)) refl refl (key_of k xs)

-- each part's version is told
pub told : (o : Oid) (b : Option Based) (upto bound : ℕ) (ns : List PartVersion) (k : Part) → AreVersions o upto b → Fall bound ns → After o upto ns
    → version_of (based o (noted_or b ns o All) (parts_of (record { base = b; noted = ns }) o).whole (parts_of (record { base = b; noted = ns }) o).keys) o k ≡ noted_or b ns o k
unfolding version_of based parts_of
told o b upto bound ns k base fall later = at k
  where
    whole : ℕ
    whole = whole_noted b ns o

    version : Part → ℕ
    version j = noted_or b ns o j

    parts : List Part
    parts = parts_noted ns o (base_parts b o)

    same : (x : ℕ) → (if oid_eq o o then x else 0) ≡ x
    same x = ap (λ (t : Bool). if t then x else 0) (number_itself o.0)

    key : (j : Part) → is_whole j ≡ false → key_version j whole (keys_for version whole parts) ≡ version j
    key j part = key_of version whole j parts ∙ by (names parts j) refl (nat_lt whole (version j)) refl
      where
        least : whole ≤ version j
        least = above o b upto ns j bound part base fall later

        equal : nat_lt whole (version j) ≡ false → whole ≡ version j
        equal h = grind (arith, least)

        by : (n : Bool) → names parts j ≡ n → (less : Bool) → nat_lt whole (version j) ≡ less → (if n && less then version j else whole) ≡ version j
        by true e true f = refl
        by true e false f = equal f
        by false e less f = sym (unnamed o b ns j part e)

    at : (j : Part) → version_of (based o (noted_or b ns o All) whole (keys_for version whole parts)) o j ≡ version j
    at All = same (version All)
    at (Text t) = same _ ∙ key (Text t) refl
    at (Num n) = same _ ∙ key (Num n) refl
