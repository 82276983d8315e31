-- The directory of all kinds, and their states.
use Rattle.std.proofs.Common.{◌≡◌, ℕ, ◌≤◌, List, ◌∷◌, Bool, true, false, refl, sym, ap, ◌∙◌, subst, arith}
use Rattle.std.specs.Prelude.{◌≢◌, Result, filter, if◌then◌else◌}
use Rattle.tg_base.specs.declared.ids.Oid.{Oid}
use Rattle.tg_codec.specs.Codec.{u64}
use Rattle.tg_codec.specs.Streams.{any}
use Rattle.tg_codec.proofs.Laws.{and-left}
use Rattle.tg_kind.specs.Headers as headers
use Rattle.tg_kind.specs.Of.{loaded_by}
use Rattle.tg_protocol.specs.Words.{directory}
use Rattle.tg_dir.specs.Spellings.{is_number}
use Rattle.tg_dir.specs.Directories.{op_format}
use Rattle.tg_dir.specs.declared.directory.DirectoryOp.TheVariants.{Name, Mark}
use Rattle.tg_any.specs.declared.any.AnyKind.{AnyKind}
use Rattle.tg_any.specs.declared.any.AnyKind.TheVariants as states
use Rattle.tg_any.specs.declared.any.AnyOp.{AnyOp}
use Rattle.tg_any.specs.declared.any.AnyOp.TheVariants as ops
use Rattle.tg_any.specs.Anys.{is_op, first, applied, lists_object, floor_of, marking}
use Rattle.tg_any.specs.AnyLaws as laws
use Rattle.tg_law_headline.specs.AllKinds.Kinds.{KindsHaveDirectory, KindsAreStates, KindsBegin}
use Rattle.tg_law_headline.proofs.AllKinds.Marks.{mark_in, first_marks, named_listed, named_marks, marked_listed, mark_changes, floor_stays, floor_rises}

abbrev mark_of : AnyKind → Oid → ℕ
mark_of (states.Directory s) o = mark_in s.entries o
mark_of s o = 0

no : {X : Type 0} → false ≡ true → X
no z = absurd cc

first_floor : (os : List Oid) → floor_of (first directory os) ≡ 0
unfolding first
first_floor os = refl

first_listed : (os : List Oid) → lists_object (first directory os) directory ≡ true
unfolding first
first_listed os = refl

first_mark : (os : List Oid) (o : Oid) → mark_of (first directory os) o ≡ 0
unfolding first
first_mark os o = first_marks (headers.directory ∷ filter is_number os) o

stays : (s : AnyKind) (op : AnyOp) (o : Oid) → lists_object s o ≡ true → lists_object (applied s op) o ≡ true
unfolding applied
stays (states.Directory s) (ops.Directory (Name name p)) o h = named_listed s.entries name p o h
stays (states.Directory s) (ops.Directory (Mark p mark)) o h = marked_listed s p o mark h
stays (states.Directory s) op o h = h
stays (states.Counter s) op o h = no h
stays (states.Register s) op o h = no h
stays (states.Map s) op o h = no h
stays (states.List s) op o h = no h
stays (states.Tree s) op o h = no h
stays (states.Set s) op o h = no h

number_of : (p : Oid) (mark : ℕ) → op_format.fits (Mark p mark) ≡ true → is_number p ≡ true
unfolding op_format
number_of p mark f = and-left (is_number p) ((u64 any).fits mark) f

oid_is : (p o : Oid) → p.0 ≡ o.0 → p ≡ o
oid_is p o e = ap (λ (n : ℕ). record { 0 = n }) e

abbrev IsMarkOf : AnyOp → Oid → ℕ → Type 0
IsMarkOf op o n = (op ≡ marking o n) × (is_number o ≡ true)

marks : (s : AnyKind) (op : AnyOp) (o : Oid) → is_op op ≡ true → mark_of (applied s op) o ≢ mark_of s o → IsMarkOf op o (mark_of (applied s op) o)
unfolding applied is_op
marks (states.Directory s) (ops.Directory (Name name p)) o fits differs = absurd (differs (named_marks s.entries name p o))
marks (states.Directory s) (ops.Directory (Mark p mark)) o fits differs =
    let c = mark_changes s p o mark differs in
    let same = oid_is p o c.0 in
    let number = subst (λ (x : Oid). is_number x ≡ true) same (number_of p mark fits) in
    subst (λ (n : ℕ). IsMarkOf (ops.Directory (Mark p mark)) o n) (sym c.1)
    (ap (λ (x : Oid). ops.Directory (Mark x mark)) same ∙ sym (ap (λ (b : Bool). ops.Directory (if b then Mark o mark else Mark headers.directory 0)) number), number)
marks (states.Directory s) op o fits differs = absurd (differs refl)
marks (states.Counter s) (ops.Counter op) o fits differs = absurd (differs refl)
marks (states.Counter s) op o fits differs = absurd (differs refl)
marks (states.Register s) (ops.Register op) o fits differs = absurd (differs refl)
marks (states.Register s) op o fits differs = absurd (differs refl)
marks (states.Map s) (ops.Map op) o fits differs = absurd (differs refl)
marks (states.Map s) op o fits differs = absurd (differs refl)
marks (states.List s) (ops.List op) o fits differs = absurd (differs refl)
marks (states.List s) op o fits differs = absurd (differs refl)
marks (states.Tree s) (ops.Tree op) o fits differs = absurd (differs refl)
marks (states.Tree s) op o fits differs = absurd (differs refl)
marks (states.Set s) (ops.Set op) o fits differs = absurd (differs refl)
marks (states.Set s) op o fits differs = absurd (differs refl)

never_falls : (s : AnyKind) (op : AnyOp) → floor_of s ≤ floor_of (applied s op)
unfolding applied
never_falls (states.Directory s) (ops.Directory (Name name p)) = omega arith
never_falls (states.Directory s) (ops.Directory (Mark p mark)) = floor_stays s p mark
never_falls (states.Directory s) op = omega arith
never_falls (states.Counter s) op = omega arith
never_falls (states.Register s) op = omega arith
never_falls (states.Map s) op = omega arith
never_falls (states.List s) op = omega arith
never_falls (states.Tree s) op = omega arith
never_falls (states.Set s) op = omega arith

rises : (s : AnyKind) (op : AnyOp) (o : Oid) → floor_of (applied s op) ≢ floor_of s → lists_object (applied s op) o ≡ true → floor_of (applied s op) ≤ mark_of (applied s op) o
unfolding applied
rises (states.Directory s) (ops.Directory (Name name p)) o differs listed = absurd (differs refl)
rises (states.Directory s) (ops.Directory (Mark p mark)) o differs listed = floor_rises s p o mark differs listed
rises (states.Directory s) op o differs listed = absurd (differs refl)
rises (states.Counter s) (ops.Counter op) o differs listed = absurd (differs refl)
rises (states.Counter s) op o differs listed = absurd (differs refl)
rises (states.Register s) (ops.Register op) o differs listed = absurd (differs refl)
rises (states.Register s) op o differs listed = absurd (differs refl)
rises (states.Map s) (ops.Map op) o differs listed = absurd (differs refl)
rises (states.Map s) op o differs listed = absurd (differs refl)
rises (states.List s) (ops.List op) o differs listed = absurd (differs refl)
rises (states.List s) op o differs listed = absurd (differs refl)
rises (states.Tree s) (ops.Tree op) o differs listed = absurd (differs refl)
rises (states.Tree s) op o differs listed = absurd (differs refl)
rises (states.Set s) (ops.Set op) o differs listed = absurd (differs refl)
rises (states.Set s) op o differs listed = absurd (differs refl)

pub kinds_have_directory : KindsHaveDirectory
kinds_have_directory = record { mark_of = mark_of; first_floor = first_floor; first_listed = first_listed; first_mark = first_mark; stays = stays; marks = marks; never_falls = never_falls; rises = rises }

pub kinds_are_states : KindsAreStates
kinds_are_states = record {
  applies = laws.applied_is;
  loads = λ o s is. ap (λ (r : Result AnyKind ℕ). loaded_by r) (laws.loads_saved o s is);
}

pub kinds_begin : KindsBegin
kinds_begin = laws.first_is
