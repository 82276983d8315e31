-- What is marked and registered in the directory of all kinds.
use Rattle.std.proofs.Common.{◌≡◌, ◌⊎◌, ℕ, List, [], ◌∷◌, ◌++◌, map, filter, Bool, true, false, refl, sym, ap, ◌∙◌, subst, inl, inr, arith}
use Rattle.std.specs.Prelude.{◌≢◌, ◌==◌, ◌||◌, ◌&&◌, not, if◌then◌else◌}
use Rattle.tg_base.specs.declared.ids.Oid.{Oid}
use Rattle.tg_codec.proofs.Laws.{and-right}
use Rattle.tg_kind.specs.Headers as headers
use Rattle.tg_protocol.specs.Words.{directory}
use Rattle.tg_dir.specs.Spellings.{is_number}
use Rattle.tg_dir.specs.Directories.{Listings, at_first, is_name, is_listed, is_full, named, is_raised, with_mark, risen, marked, op_format, is_object}
use Rattle.tg_dir.specs.declared.listing.Listing.{Listing}
use Rattle.tg_dir.specs.declared.directory.DirectoryOp.TheVariants.{Name, Mark}
use Rattle.tg_any.specs.declared.any.AnyKind.{AnyKind}
use Rattle.tg_any.specs.declared.any.AnyKind.TheVariants as states
use Rattle.tg_any.specs.declared.any.AnyOp.{AnyOp}
use Rattle.tg_any.specs.declared.any.AnyOp.TheVariants as ops
use Rattle.tg_any.specs.Anys.{is_op, first, applied, allowed, lists_object, marking}
use Rattle.tg_any.specs.AnyLaws as laws
use Rattle.tg_law_headline.specs.AllKinds.Kinds.{KindsKeepDirectory}
use Rattle.tg_law_headline.proofs.AllKinds.Holds.{kinds_have_directory}

none : {X : Type 0} → false ≡ true → X
none z = absurd cc

same_oid : (p o : Oid) → (p.0 == o.0) ≡ true → p ≡ o
same_oid p o e = ap (λ (n : ℕ). record { 0 = n }) (number p.0 o.0 e)
  where
    number : (a b : ℕ) → (a == b) ≡ true → a ≡ b
    number a b h = grind arith

either : (a b : Bool) → (a || b) ≡ true → (a ≡ true) ⊎ (b ≡ true)
either true b h = inl refl
either false b h = inr h

-- Marks.

not_put : (o p : Oid) (mark : ℕ) → (is_object o && not true) ≡ true → ⊥
not_put o p mark h = none (and-right (is_object o) false h)

no_put : (o p : Oid) (mark : ℕ) (b : Bool) → allowed o (ops.Directory (if b then Mark p mark else Mark headers.directory 0)) ≡ true → ⊥
no_put o p mark true h = not_put o p mark h
no_put o p mark false h = not_put o p mark h

unput : (o p : Oid) (op : AnyOp) (mark : ℕ) → allowed o op ≡ true → op ≢ marking p mark
unput o p op mark h is = no_put o p mark (is_number p) (subst (λ (x : AnyOp). allowed o x ≡ true) is h)

marks_it : (o : Oid) (mark : ℕ) → is_number o ≡ true → marking o mark ≡ ops.Directory (Mark o mark)
marks_it o mark e = ap (λ (b : Bool). ops.Directory (if b then Mark o mark else Mark headers.directory 0)) e

apart : (o p : Oid) (a b : ℕ) → is_number o ≡ true → is_number p ≡ true → marking o a ≡ marking p b → (o ≡ p) × (a ≡ b)
apart o p a b e f same = told (sym (marks_it o a e) ∙ (same ∙ marks_it p b f))
  where
    told : ops.Directory (Mark o a) ≡ ops.Directory (Mark p b) → (o ≡ p) × (a ≡ b)
    told i = (cc, cc)

-- What is registered.

first_in : (os : List Oid) (o : Oid) → is_listed (map at_first (filter is_number os)) o ≡ true → is_number o ≡ true
first_in [] o h = none h
first_in (x ∷ os) o h = by (is_number x) refl h (first_in os o)
  where
    here : is_number x ≡ true → (x.0 == o.0) ≡ true → is_number o ≡ true
    here e i = subst (λ (y : Oid). is_number y ≡ true) (same_oid x o i) e

    listed : is_number x ≡ true → (is_listed (map at_first (filter is_number os)) o ≡ true → is_number o ≡ true) → ((x.0 == o.0) ≡ true) ⊎ (is_listed (map at_first (filter is_number os)) o ≡ true) → is_number o ≡ true
    listed e rest (inl i) = here e i
    listed e rest (inr j) = rest j

    by : (b : Bool) → is_number x ≡ b → is_listed (map at_first (if b then x ∷ filter is_number os else filter is_number os)) o ≡ true
        → (is_listed (map at_first (filter is_number os)) o ≡ true → is_number o ≡ true) → is_number o ≡ true
    by true e k rest = listed e rest (either (x.0 == o.0) _ k)
    by false e k rest = rest k

directory_is : is_number headers.directory ≡ true
directory_is = refl

first_named : (os : List Oid) (o : Oid) → lists_object (first directory os) o ≡ true → is_number o ≡ true
unfolding first
first_named os o h = by (either (headers.directory.0 == o.0) _ h)
  where
    by : ((headers.directory.0 == o.0) ≡ true) ⊎ (is_listed (map at_first (filter is_number os)) o ≡ true) → is_number o ≡ true
    by (inl i) = subst (λ (y : Oid). is_number y ≡ true) (same_oid headers.directory o i) directory_is
    by (inr j) = first_in os o j

-- one more entry
pushed : (es : List Listing) (e : Listing) (o : Oid) → is_listed (es ++ e ∷ []) o ≡ true → (is_listed es o ≡ true) ⊎ ((e.oid.0 == o.0) ≡ true)
pushed [] e o h = by (either (e.oid.0 == o.0) false h)
  where
    by : ((e.oid.0 == o.0) ≡ true) ⊎ (false ≡ true) → (false ≡ true) ⊎ ((e.oid.0 == o.0) ≡ true)
    by (inl i) = inr i
    by (inr z) = none z
pushed (x ∷ es) e o h = by (x.oid.0 == o.0) h (pushed es e o)
  where
    more : (b : Bool) → (is_listed es o ≡ true) ⊎ ((e.oid.0 == o.0) ≡ true) → ((false || is_listed es o) ≡ true) ⊎ ((e.oid.0 == o.0) ≡ true)
    more b (inl i) = inl i
    more b (inr i) = inr i

    by : (b : Bool) → (b || is_listed (es ++ e ∷ []) o) ≡ true → (is_listed (es ++ e ∷ []) o ≡ true → (is_listed es o ≡ true) ⊎ ((e.oid.0 == o.0) ≡ true)) → ((b || is_listed es o) ≡ true) ⊎ ((e.oid.0 == o.0) ≡ true)
    by true k rest = inl refl
    by false k rest = more false (rest k)

name_listed : (es : List Listing) (name : List ℕ) (p o : Oid) → is_number p ≡ true → is_listed (named es name p) o ≡ true → (is_listed es o ≡ true) ⊎ (is_number o ≡ true)
name_listed es name p o e h = by (is_name es name || is_listed es p || is_full es) h
  where
    new : (is_listed es o ≡ true) ⊎ ((p.0 == o.0) ≡ true) → (is_listed es o ≡ true) ⊎ (is_number o ≡ true)
    new (inl i) = inl i
    new (inr i) = inr (subst (λ (y : Oid). is_number y ≡ true) (same_oid p o i) e)

    by : (b : Bool) → is_listed (if b then es else es ++ record { name = name; oid = p; mark = 0 } ∷ []) o ≡ true → (is_listed es o ≡ true) ⊎ (is_number o ≡ true)
    by true k = inl k
    by false k = new (pushed es (record { name = name; oid = p; mark = 0 }) o k)

same_listed : (es : List Listing) (p o : Oid) (mark : ℕ) → is_listed (map (with_mark p mark) es) o ≡ is_listed es o
same_listed [] p o mark = refl
same_listed (e ∷ es) p o mark = ap (λ (b : Bool). (e.oid.0 == o.0) || b) (same_listed es p o mark)

mark_listed : (s : Listings) (p o : Oid) (mark : ℕ) → is_listed (marked s p mark).entries o ≡ true → is_listed s.entries o ≡ true
mark_listed s p o mark h = by (is_raised s.entries p mark) h
  where
    by : (b : Bool) → is_listed (if b then risen s.floor (map (with_mark p mark) s.entries) else s).entries o ≡ true → is_listed s.entries o ≡ true
    by true k = sym (same_listed s.entries p o mark) ∙ k
    by false k = k

name_of : (name : List ℕ) (p : Oid) → op_format.fits (Name name p) ≡ true → is_number p ≡ true
unfolding op_format
name_of name p f = and-right _ (is_number p) f

listed_by : (s : AnyKind) (op : AnyOp) (o : Oid) → is_op op ≡ true → lists_object (applied s op) o ≡ true → (lists_object s o ≡ true) ⊎ (is_number o ≡ true)
unfolding applied is_op
listed_by (states.Directory s) (ops.Directory (Name name p)) o fits h = name_listed s.entries name p o (name_of name p fits) h
listed_by (states.Directory s) (ops.Directory (Mark p mark)) o fits h = inl (mark_listed s p o mark h)
listed_by (states.Directory s) op o fits h = inl h
listed_by (states.Counter s) (ops.Counter op) o fits h = inl h
listed_by (states.Counter s) op o fits h = inl h
listed_by (states.Register s) (ops.Register op) o fits h = inl h
listed_by (states.Register s) op o fits h = inl h
listed_by (states.Map s) (ops.Map op) o fits h = inl h
listed_by (states.Map s) op o fits h = inl h
listed_by (states.List s) (ops.List op) o fits h = inl h
listed_by (states.List s) op o fits h = inl h
listed_by (states.Tree s) (ops.Tree op) o fits h = inl h
listed_by (states.Tree s) op o fits h = inl h
listed_by (states.Set s) (ops.Set op) o fits h = inl h
listed_by (states.Set s) op o fits h = inl h

pub kinds_keep_directory : KindsKeepDirectory
kinds_keep_directory = record { floors = kinds_have_directory; unput = unput; apart = apart; first_named = first_named; named = listed_by; parts = laws.touched_is }
