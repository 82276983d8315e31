-- Reading items one after the other, as a loop does.
use Rattle.std.proofs.Common.{◌≡◌, ℕ, suc, ◌*◌, ◌-◌, ◌+◌, ◌≤◌, ◌<◌, List, [], ◌∷◌, ◌++◌, Ok, Err, refl, sym, ap, ◌∙◌, append_assoc, arith}
use Rattle.std.proofs.lemmas.List.{append-nil, length-append}
use Rattle.std.proofs.Math.ListN.{drop_of_length-le}
use Rattle.tg_codec.specs.declared.fault.ReadFault.{ReadFault}
use Rattle.tg_codec.specs.declared.fault.ReadFault.TheVariants as faults
use Rattle.tg_codec.specs.Reading.{Read, ◌>>=◌, Fails}
use Rattle.std.proofs.Common.{length, drop, get_or, add-one, drop-cons}
use Rattle.tg_codec.specs.Codec.{Codec, read_many, spell_many}

-- what was read before, and what is still read
abbrev pub with_front : {X : Type 0} → List X → Read (List X) → Read (List X)
with_front front read = read >>= λ x. Ok (front ++ x.0, x.1)

regroup : {X : Type 0} (front : List X) (n : X) (read : Read (List X)) → with_front front (read >>= λ x. Ok (n ∷ x.0, x.1)) ≡ with_front (front ++ n ∷ []) read
regroup {X} front n (Ok x) = ap (λ (ns : List X). Ok (ns, x.1)) (simp append_assoc)
regroup front n (Err f) = refl

pub goes_on : {S X : Type 0} (item : S → Codec X) (next : S → X → S) (front : List X) (count i : ℕ) (s t : S) (bytes : List ℕ) (x : X) (after : List ℕ) (total : Read (List X)) → i < count
    → (item s).read bytes ≡ Ok (x, after) → t ≡ next s x → with_front front (read_many item next (count - i) s bytes) ≡ total → with_front (front ++ x ∷ []) (read_many item next (count - (i + 1)) t after) ≡ total
unfolding read_many
goes_on item next front count i s t bytes x after total lt h to so_far =
    let k : count - i ≡ suc (count - (i + 1)) = omega arith in
    let one : with_front front (read_many item next (count - i) s bytes) ≡ with_front (front ++ x ∷ []) (read_many item next (count - (i + 1)) t after) = rw (k, h, to) (regroup front x (read_many item next (count - (i + 1)) (next s x) after)) in
    sym one ∙ so_far

pub ends : {S X : Type 0} (item : S → Codec X) (next : S → X → S) (e : ReadFault) (front : List X) (count i : ℕ) (s : S) (bytes : List ℕ) (total : Read (List X)) → i < count
    → Fails e ((item s).read bytes) → with_front front (read_many item next (count - i) s bytes) ≡ total → Fails e total
unfolding read_many
ends item next faults.NoMemory front count i s bytes total lt h so_far = tt
ends item next (faults.Stop left) front count i s bytes total lt h so_far =
    let k : count - i ≡ suc (count - (i + 1)) = omega arith in
    let one : with_front front (read_many item next (count - i) s bytes) ≡ Err left = rw (k, h) refl in
    sym so_far ∙ one

pub is_done : {S X : Type 0} (item : S → Codec X) (next : S → X → S) (front : List X) (count i : ℕ) (s : S) (bytes : List ℕ) (total : Read (List X)) → count ≤ i → with_front front (read_many item next (count - i) s bytes) ≡ total → total ≡ Ok (front, bytes)
unfolding read_many
is_done {S} {X} item next front count i s bytes total le so_far =
    let k : count - i ≡ 0 = omega arith in
    let one : with_front front (read_many item next (count - i) s bytes) ≡ Ok (front, bytes) = rw k (ap (λ (ns : List X). Ok (ns, bytes)) (append-nil front)) in
    sym so_far ∙ one

drop-cons_at : {X : Type 0} (xs : List X) (i : ℕ) (x : X) → i < length xs → x ≡ get_or xs i x → drop i xs ≡ x ∷ drop (i + 1) xs
drop-cons_at xs i x lt is = rw add-one (drop-cons xs i x lt) ∙ ap (λ y. y ∷ drop (i + 1) xs) (sym is)

-- one more item is written
pub spells_on : {S X : Type 0} (item : S → Codec X) (next : S → X → S) (out new : List ℕ) (s : S) (values : List X) (i : ℕ) (x : X) (total : List ℕ) → i < length values → x ≡ get_or values i x
    → new ≡ out ++ (item s).spell x → out ++ spell_many item next s (drop i values) ≡ total → (t : S) × (new ++ spell_many item next t (drop (i + 1) values) ≡ total)
unfolding spell_many
spells_on item next out new s values i x total lt is written so_far =
    let front : drop i values ≡ x ∷ drop (i + 1) values = drop-cons_at values i x lt is in
    (next s x, ap (λ (o : List ℕ). o ++ spell_many item next (next s x) (drop (i + 1) values)) written ∙ append_assoc out ((item s).spell x) _ ∙ ap (λ rest. out ++ spell_many item next s rest) (sym front) ∙ so_far)

pub all_spelled : {S X : Type 0} (item : S → Codec X) (next : S → X → S) (out : List ℕ) (s : S) (values : List X) (i : ℕ) (total : List ℕ) → length values ≤ i → out ++ spell_many item next s (drop i values) ≡ total → out ≡ total
unfolding spell_many
all_spelled item next out s values i total le so_far =
    let nothing_left : drop i values ≡ [] = drop_of_length-le values le in
    sym (append-nil out) ∙ ap (λ rest. out ++ spell_many item next s rest) (sym nothing_left) ∙ so_far

-- one more item is measured
pub sizes_on : {S X : Type 0} (item : S → Codec X) (next : S → X → S) (n size : ℕ) (s : S) (values : List X) (i : ℕ) (x : X) (total : ℕ) → i < length values → x ≡ get_or values i x
    → size ≡ length ((item s).spell x) → n + length (spell_many item next s (drop i values)) ≡ total → (t : S) × (n + size + length (spell_many item next t (drop (i + 1) values)) ≡ total)
unfolding spell_many
sizes_on item next n size s values i x total lt is measured so_far =
    let front : drop i values ≡ x ∷ drop (i + 1) values = drop-cons_at values i x lt is in
    let parts : length (spell_many item next s (drop i values)) ≡ length ((item s).spell x ++ spell_many item next (next s x) (drop (i + 1) values)) = ap (λ rest. length (spell_many item next s rest)) front in
    (next s x, omega (arith, parts, so_far, measured, length-append ((item s).spell x) (spell_many item next (next s x) (drop (i + 1) values))))

pub all_sized : {S X : Type 0} (item : S → Codec X) (next : S → X → S) (n : ℕ) (s : S) (values : List X) (i : ℕ) (total : ℕ) → length values ≤ i → n + length (spell_many item next s (drop i values)) ≡ total → n ≡ total
unfolding spell_many
all_sized item next n s values i total le so_far =
    let nothing_left : drop i values ≡ [] = drop_of_length-le values le in
    let none : length (spell_many item next s (drop i values)) ≡ 0 = ap (λ rest. length (spell_many item next s rest)) nothing_left in
    omega (arith, so_far, none)

pub from_nothing : (n : ℕ) → 0 + n ≡ n
from_nothing n = omega arith

-- items of one length
pub same_len : {S X : Type 0} (item : S → Codec X) (next : S → X → S) (k : ℕ) → ((s : S) (x : X) → length ((item s).spell x) ≡ k) → (s : S) (xs : List X) → length (spell_many item next s xs) ≡ length xs * k
unfolding spell_many
same_len item next k h s [] = omega arith
same_len item next k h s (x ∷ xs) = omega (arith, h s x, same_len item next k h (next s x) xs, length-append ((item s).spell x) (spell_many item next (next s x) xs))

-- what is put last after something else
pub glue : (out a rest mid new : List ℕ) → mid ≡ out ++ a → new ≡ mid ++ rest → new ≡ out ++ (a ++ rest)
glue out a rest mid new p q = q ∙ ap (λ (o : List ℕ). o ++ rest) p ∙ append_assoc out a rest
