-- A checkpoint of a sound view has its versions.
use Rattle.std.proofs.Common.{◌≡◌, ℕ, ◌<◌, ◌≤◌, List, [], ◌∷◌, Bool, true, false, refl, sym, ap, ◌∙◌, subst, arith, Some, None, Option, ◌&&◌}
use Rattle.std.specs.Prelude.{nat_le, if◌then◌else◌, cond}
use Rattle.tg_base.specs.declared.ids.Oid.{Oid}
use Rattle.tg_base.specs.declared.marks.Part.{Part}
use Rattle.tg_base.specs.declared.marks.Part.TheVariants.{All, Text, Num}
use Rattle.tg_kind.specs.Meaning.{Meaning}
use Rattle.tg_kind.specs.Parts.{overlap}
use Rattle.tg_base.specs.Orders.{oid_eq}
use Rattle.tg_protocol.specs.Versions.{Parts, Based, PartVersion, key_version, version_in, base_version, noted_or, version_of, based, parts_of}
use Rattle.tg_protocol.specs.Views.{Base, View, base_of, state_of, view_version, view_parts, played_version, played_parts}
use Rattle.tg_protocol.specs.Checkpoints.{saved_bytes, checkpoint, base_at, loaded}
use Rattle.tg_law_replies.specs.Plays.Sound.{Fall, AreKeys, IsBased, AreVersions, AreBases, AreAfter, IsSound, upto_of, base_among}
use Rattle.tg_law_replies.specs.Plays.Laws.{IsKept, CheckpointsKeep}
use Rattle.tg_law_replies.proofs.Plays.Parts.{fall_more, After, told, number_itself}

-- Versions are within a bound.

key_within : (k : Part) (whole version : ℕ) (xs : List (Part × ℕ)) → whole ≤ version → AreKeys whole version xs → key_version k whole xs ≤ version
key_within k whole version [] le h = le
key_within k whole version (x ∷ xs) le h = at _ (key_within k whole version xs le h.3)
  where
    at : (b : Bool) → key_version k whole xs ≤ version → (if b then x.1 else key_version k whole xs) ≤ version
    at true rest = h.2
    at false rest = rest

version_within : (o : Oid) (b : Based) (upto : ℕ) (k : Part) → IsBased o upto b → version_in b k ≤ upto
version_within o b upto All h = h.version
version_within o b upto (Text t) h = let p = key_within (Text t) b.whole b.version b.keys h.whole h.keys in let q = h.version in omega (arith, p, q)
version_within o b upto (Num n) h = let p = key_within (Num n) b.whole b.version b.keys h.whole h.keys in let q = h.version in omega (arith, p, q)

base_version_within : (o : Oid) (b : Option Based) (upto : ℕ) (k : Part) → AreVersions o upto b → base_version b o k ≤ upto
base_version_within o None upto k h = omega arith
base_version_within o (Some b) upto k h = at (oid_eq b.oid o)
  where
    at : (same : Bool) → (if same then version_in b k else 0) ≤ upto
    at true = version_within o b upto k h
    at false = omega arith

pub noted_within : (o : Oid) (b : Option Based) (ns : List PartVersion) (bound upto : ℕ) (k : Part) → AreVersions o upto b → upto ≤ bound → Fall bound ns → noted_or b ns o k ≤ bound
noted_within o b [] bound upto k base le h = let p = base_version_within o b upto k base in omega (arith, p, le)
noted_within o b (n ∷ ns) bound upto k base le h = at (oid_eq n.oid o && overlap n.part k) (noted_within o b ns bound upto k base le (fall_more n.version bound ns h.0 h.1))
  where
    at : (t : Bool) → noted_or b ns o k ≤ bound → (if t then n.version else noted_or b ns o k) ≤ bound
    at true rest = h.0
    at false rest = rest

-- The base of an object.

pub same_oid : (a b : Oid) → oid_eq a b ≡ true → a ≡ b
same_oid a b h = grind arith

module _ (m : Meaning) where
  some_base : (a b : Base m) → Some a ≡ Some b → a ≡ b
  some_base a b e = cc

  pub base_lawful : (bs : List (Base m)) (o : Oid) (b : Base m) → AreBases m bs → base_among m bs o ≡ Some b → AreVersions o b.upto b.versions.base
  base_lawful [] o b h e = absurd (none e)
    where
      none : None ≡ Some b → ⊥
      none x = cc
  base_lawful (x ∷ xs) o b h e = at (oid_eq x.oid o) refl (base_lawful xs o b h.1) e
    where
      at : (t : Bool) → oid_eq x.oid o ≡ t → (base_among m xs o ≡ Some b → AreVersions o b.upto b.versions.base) → cond t (Some x) (base_among m xs o) ≡ Some b
          → AreVersions o b.upto b.versions.base
      at true same rest is = subst (λ (c : Base m). AreVersions o c.upto c.versions.base) (some_base x b is) (subst (λ (p : Oid). AreVersions p x.upto x.versions.base) (same_oid x.oid o same) h.0)
      at false same rest is = rest is

  pub after_of : (bs : List (Base m)) (ns : List PartVersion) (o : Oid) (b : Base m) → base_among m bs o ≡ Some b → AreAfter m bs ns → After o b.upto ns
  after_of bs [] o b is h = tt
  after_of bs (n ∷ ns) o b is h = ((λ same. at (same_oid n.oid o same)), after_of bs ns o b is h.1)
    where
      at : n.oid ≡ o → b.upto < n.version
      at e = subst (λ (c : Option (Base m)). upto_of m c < n.version) (ap (λ (p : Oid). base_among m bs p) e ∙ is) h.0

  -- Checkpoints.

  module _ (v : View m) (o : Oid) (b : Base m) (s : m.state) (client number : ℕ) (sound : IsSound m v) (is : base_of m v o ≡ Some b) (le : b.upto ≤ v.upto)
      (state : state_of m v o ≡ Some s) (loads : m.load o (m.save s) ≡ Some s) where
    version : Part → ℕ
    version k = noted_or b.versions.base v.noted o k

    view_version_is : (k : Part) → view_version m v o k ≡ version k
    unfolding view_version version_of version
    view_version_is k = ap (λ (c : Option (Base m)). played_version m v c o k) is

    kept : Base m
    kept = record {
      oid = o;
      state = s;
      versions = based o (version All) (parts_of (record { base = b.versions.base; noted = v.noted }) o).whole (parts_of (record { base = b.versions.base; noted = v.noted }) o).keys;
      upto = v.upto;
    }

    parts_is : view_parts m v o ≡ parts_of (record { base = b.versions.base; noted = v.noted }) o
    unfolding view_parts
    parts_is = ap (λ (c : Option (Base m)). played_parts m v c o) is

    lawful : AreVersions o b.upto b.versions.base
    lawful = base_lawful v.bases o b sound.bases is

    later : After o b.upto v.noted
    later = after_of v.bases v.noted o b is sound.after

    whole_within : version All ≤ v.upto
    unfolding version
    whole_within = noted_within o b.versions.base v.noted v.upto b.upto All lawful le sound.fall

    -- what the bytes of the checkpoint give
    read_back : ℕ → Parts → Option m.state → Option (Base m)
    read_back whole ps t = if oid_eq o o && nat_le whole v.upto then loaded m o v.upto (based o whole ps.whole ps.keys) (m.load o (saved_bytes m t)) else None

    is_read_back : base_at m o (checkpoint m v o v.upto client number) ≡ read_back (view_version m v o All) (view_parts m v o) (state_of m v o)
    unfolding checkpoint read_back
    is_read_back = refl

    passes : (n : ℕ) → n ≤ v.upto → (oid_eq o o && nat_le n v.upto) ≡ true
    passes n h = both (oid_eq o o) (nat_le n v.upto) (number_itself o.0) (at_most n v.upto h)
      where
        both : (x y : Bool) → x ≡ true → y ≡ true → (x && y) ≡ true
        both x y p q = grind arith

        at_most : (x y : ℕ) → x ≤ y → nat_le x y ≡ true
        at_most x y q = grind arith

    read_kept : read_back (version All) (parts_of (record { base = b.versions.base; noted = v.noted }) o) (Some s) ≡ Some kept
    unfolding read_back kept
    read_kept =
        ap (λ (t : Bool). if t then loaded m o v.upto kept.versions (m.load o (m.save s)) else None) (passes (version All) whole_within)
        ∙ ap (λ (t : Option m.state). loaded m o v.upto kept.versions t) loads

    is_kept : base_at m o (checkpoint m v o v.upto client number) ≡ Some kept
    is_kept =
        is_read_back
        ∙ (ap (λ (n : ℕ). read_back n (view_parts m v o) (state_of m v o)) (view_version_is All)
        ∙ (ap (λ (ps : Parts). read_back (version All) ps (state_of m v o)) parts_is
        ∙ (ap (λ (t : Option m.state). read_back (version All) (parts_of (record { base = b.versions.base; noted = v.noted }) o) t) state
        ∙ read_kept)))

    pub keeps : (c : Base m) × (base_at m o (checkpoint m v o v.upto client number) ≡ Some c) × IsKept m v o s c
    unfolding kept version
    keeps = (
      kept,
      is_kept,
      record {
        oid = refl;
        state = refl;
        upto = refl;
        versions = λ k. told o b.versions.base b.upto v.upto v.noted k lawful sound.fall later ∙ sym (view_version_is k);
      },
    )

pub checkpoints_keep : (m : Meaning) → CheckpointsKeep m
checkpoints_keep m v o b s client number sound is le state loads = keeps m v o b s client number sound is le state loads
