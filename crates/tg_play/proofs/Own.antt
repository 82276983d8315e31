-- The versions of an object by its own changes alone, and those of changes below a position.
use Rattle.std.specs.Prelude.{◌≡◌, ℕ, ◌≤◌, Bool, true, false, cond, not, ◌&&◌, nat_lt, List, [], ◌∷◌, filter, map, Option, Some, None, refl}
use Rattle.std.proofs.Common.{sym, ap, ◌∙◌, arith}
use Rattle.tg_base.specs.declared.ids.Oid.{Oid}
use Rattle.tg_base.specs.declared.marks.Part.{Part}
use Rattle.tg_kind.specs.Parts.{is_whole, overlap}
use Rattle.tg_base.specs.Orders.{oid_eq}
use Rattle.tg_protocol.specs.Versions.{Versions, Based, PartVersion, noted_or, version_of, whole_noted, with_part, parts_noted, base_parts, parts_of}
use Rattle.tg_play.specs.Kept.{own_noted, own}
use Rattle.tg_play.specs.Relations.{AtMost}

-- ---- changes of one object

pub own_other : (n : PartVersion) (ns : List PartVersion) (o : Oid) → oid_eq n.oid o ≡ false → own_noted o (n ∷ ns) ≡ own_noted o ns
own_other n ns o e = ap (λ (b : Bool). cond b (n ∷ own_noted o ns) (own_noted o ns)) e

pub own_same : (n : PartVersion) (ns : List PartVersion) (o : Oid) → oid_eq n.oid o ≡ true → own_noted o (n ∷ ns) ≡ n ∷ own_noted o ns
own_same n ns o e = ap (λ (b : Bool). cond b (n ∷ own_noted o ns) (own_noted o ns)) e

own_noted_or : (b : Option Based) (ns : List PartVersion) (o : Oid) (k : Part) → noted_or b (own_noted o ns) o k ≡ noted_or b ns o k
own_noted_or b [] o k = refl
own_noted_or b (n ∷ ns) o k = by (own_noted_or b ns o k) (oid_eq n.oid o) refl
  where
    by : noted_or b (own_noted o ns) o k ≡ noted_or b ns o k → (t : Bool) → oid_eq n.oid o ≡ t
        → noted_or b (cond t (n ∷ own_noted o ns) (own_noted o ns)) o k ≡ cond (t && overlap n.part k) n.version (noted_or b ns o k)
    by more true e =
        ap (λ (t : Bool). cond (t && overlap n.part k) n.version (noted_or b (own_noted o ns) o k)) e
        ∙ ap (λ (x : ℕ). cond (overlap n.part k) n.version x) more
    by more false e = more

whole_step : (b : Option Based) (n : PartVersion) (ns : List PartVersion) (o : Oid) → whole_noted b (n ∷ ns) o ≡ cond (oid_eq n.oid o && is_whole n.part) n.version (whole_noted b ns o)
whole_step None n ns o = refl
whole_step (Some b) n ns o = refl

own_whole : (b : Option Based) (ns : List PartVersion) (o : Oid) → whole_noted b (own_noted o ns) o ≡ whole_noted b ns o
own_whole b [] o = refl
own_whole b (n ∷ ns) o = by (own_whole b ns o) (oid_eq n.oid o) refl ∙ sym (whole_step b n ns o)
  where
    by : whole_noted b (own_noted o ns) o ≡ whole_noted b ns o → (t : Bool) → oid_eq n.oid o ≡ t
        → whole_noted b (cond t (n ∷ own_noted o ns) (own_noted o ns)) o ≡ cond (t && is_whole n.part) n.version (whole_noted b ns o)
    by more true e =
        whole_step b n (own_noted o ns) o
        ∙ ap (λ (t : Bool). cond (t && is_whole n.part) n.version (whole_noted b (own_noted o ns) o)) e
        ∙ ap (λ (x : ℕ). cond (is_whole n.part) n.version x) more
    by more false e = more

own_listed : (ns : List PartVersion) (o : Oid) (ks : List Part) → parts_noted (own_noted o ns) o ks ≡ parts_noted ns o ks
own_listed [] o ks = refl
own_listed (n ∷ ns) o ks = by (own_listed ns o ks) (oid_eq n.oid o) refl
  where
    by : parts_noted (own_noted o ns) o ks ≡ parts_noted ns o ks → (t : Bool) → oid_eq n.oid o ≡ t
        → parts_noted (cond t (n ∷ own_noted o ns) (own_noted o ns)) o ks ≡ cond (t && not (is_whole n.part)) (with_part n.part (parts_noted ns o ks)) (parts_noted ns o ks)
    by more true e =
        ap (λ (t : Bool). cond (t && not (is_whole n.part)) (with_part n.part (parts_noted (own_noted o ns) o ks)) (parts_noted (own_noted o ns) o ks)) e
        ∙ ap (λ (ps : List Part). cond (not (is_whole n.part)) (with_part n.part ps) ps) more
    by more false e = more

abbrev played : Option Based → List PartVersion → Versions
played b ns = record { base = b; noted = ns }

pub own_version : (b : Option Based) (ns : List PartVersion) (o : Oid) (k : Part) → version_of (own b o ns) o k ≡ version_of (played b ns) o k
unfolding version_of
own_version b ns o k = own_noted_or b ns o k

pub own_parts : (b : Option Based) (ns : List PartVersion) (o : Oid) → parts_of (own b o ns) o ≡ parts_of (played b ns) o
unfolding parts_of version_of
own_parts b ns o = λ i. record {
  whole = own_whole b ns o i;
  keys = filter (λ (x : Part × ℕ). nat_lt (own_whole b ns o i) x.1) (map (λ (k : Part). (k, own_noted_or b ns o k i)) (own_listed ns o (base_parts b o) i));
}

-- ---- changes at most at a position

pub at_most_more : (a b : ℕ) (ns : List PartVersion) → a ≤ b → AtMost a ns → AtMost b ns
at_most_more a b [] le h = tt
at_most_more a b (n ∷ ns) le h = let first = h.0 in (omega (arith, le, first), at_most_more a b ns le h.1)
