-- Slices of words: where they are cut, and the lines that they are.
use Rattle.std.proofs.Common.{◌≡◌, ℕ, suc, ◌≤◌, Bool, true, false, cond, ltb, List, [], ◌∷◌, ◌++◌, length, map, codes, Bor, ◌↔◌, IsSome, IfSome, Option, Some, None, Result, Ok, Err, ⊎_elim, sym, refl, subst, ap, ◌∙◌, arith, length-append}
use Rattle.std.specs.Prelude.{option_map}
use Rattle.std.specs.List.{slice_split, onto_first}
use Rattle.std.specs.Str.{bytes_eq}
use Rattle.std.proofs.lemmas.Bool.{or_cases}
use Rattle.std.proofs.lemmas.Bool.Decides.{nat_tests, same_from_decides, Decides-like}
use Rattle.std.proofs.lemmas.List.{map-append, length-map}
use Rattle.std.proofs.lemmas.Slice.Eq.{bytes_eq-Decides}
use Rattle.tg_base.specs.declared.fault.TextFault.{TextFault}
use Rattle.tg_base.specs.declared.fault.TextFault.TheVariants as fault
use Rattle.tg_codec.specs.Codec.{u16}
use Rattle.tg_codec.proofs.Laws.{and-left}
use Rattle.tg_kind.specs.Texts.{text_format}
use Rattle.tg_tree.specs.Paths.{path_format}
use Rattle.tg_any.specs.Words.{texts}
use Rattle.tg_trace.specs.declared.transcript.Transcript.{Transcript}
use Rattle.tg_trace.specs.declared.beginning.Beginning.{Beginning}
use Rattle.tg_trace.specs.Lines.{each}
use Rattle.tg_trace.specs.Fields.{is_key, key}
use Rattle.tg_trace.specs.Transcripts.{Entry}
use Rattle.tg_trace.specs.Reading.{is_above, run, whole, ended, at_end, parsed, Parses}
use Rattle.tg_trace.proofs.Whole.{parsed_is}

-- Cuts.

bytes_eq_swapped : (a b : List ℕ) → bytes_eq a b ≡ bytes_eq b a
bytes_eq_swapped a b = same_from_decides _ _ (bytes_eq-Decides a b) (Decides-like _ (λ (e : b ≡ a). sym e) (λ (e : a ≡ b). sym e) (bytes_eq-Decides b a))

onto_mapped : {A B : Type 0} (f : A → B) (x : A) (parts : List (List A)) → map (λ (part : List A). map f part) (onto_first x parts) ≡ onto_first (f x) (map (λ (part : List A). map f part) parts)
onto_mapped f x [] = refl
onto_mapped f x (part ∷ parts) = refl

either_mapped : {A B : Type 0} (f : A → B) (b : Bool) (x : A) (parts : List (List A)) → map (λ (part : List A). map f part) (cond b ([] ∷ parts) (onto_first x parts)) ≡ cond b ([] ∷ map (λ (part : List A). map f part) parts) (onto_first (f x) (map (λ (part : List A). map f part) parts))
either_mapped f true x parts = refl
either_mapped f false x parts = onto_mapped f x parts

-- a list whose values are cut where its items are
mapped_cut : {A B : Type 0} (f : A → B) (p : A → Bool) (q : B → Bool) → ((x : A) → p x ≡ q (f x)) → (xs : List A) → map (λ (part : List A). map f part) (slice_split p xs) ≡ slice_split q (map f xs)
mapped_cut f p q same [] = refl
mapped_cut {A} {B} f p q same (x ∷ xs) =
    either_mapped f (p x) x (slice_split p xs)
    ∙ ap (λ (b : Bool). cond b ([] ∷ map (λ (part : List A). map f part) (slice_split p xs)) (onto_first (f x) (map (λ (part : List A). map f part) (slice_split p xs)))) (same x)
    ∙ ap (λ (parts : List (List B)). cond (q (f x)) ([] ∷ parts) (onto_first (f x) parts)) (mapped_cut f p q same xs)

mapped_twice : {A B C : Type 0} (f : A → B) (g : B → C) (xs : List A) → map g (map f xs) ≡ map (λ (x : A). g (f x)) xs
mapped_twice f g [] = refl
mapped_twice {A} {B} {C} f g (x ∷ xs) = ap (λ (ys : List C). g (f x) ∷ ys) (mapped_twice f g xs)

pub parts_are : (parts : List (Bor (List (Bor (List ℕ))))) (words : List (Bor (List ℕ)))
    → map (λ (part : Bor (List (Bor (List ℕ)))). part.now) parts ≡ slice_split (λ (w : Bor (List ℕ)). bytes_eq w.now (codes ";")) words
    → map (λ (part : Bor (List (Bor (List ℕ)))). texts part.now) parts ≡ slice_split (bytes_eq (codes ";")) (texts words)
parts_are parts words e =
    sym (mapped_twice (λ (part : Bor (List (Bor (List ℕ)))). part.now) texts parts) ∙ ap (map texts) e
    ∙ mapped_cut (λ (w : Bor (List ℕ)). w.now) (λ (w : Bor (List ℕ)). bytes_eq w.now (codes ";")) (bytes_eq (codes ";")) (λ w. bytes_eq_swapped w.now (codes ";")) words

-- Keys.

few_bytes : (n : ℕ) → (u16 ((1, 4096) ∷ [])).fits n ≡ true → n ≤ 4096
few_bytes n e = grind (arith, nat_tests)

-- a text or a path is a blob
key_few : (t : List ℕ) → is_key t ≡ true → length t ≤ 4096
key_few t e = ⊎_elim
    (λ (h : text_format.fits t ≡ true). few_bytes (length t) (and-left _ _ h))
    (λ (h : path_format.fits t ≡ true). few_bytes (length t) (and-left _ _ h))
    (or_cases (text_format.fits t) (path_format.fits t) e)

pub key_is : (o : Option (List ℕ)) (bytes t : List ℕ) → IsSome o ↔ (length bytes ≤ 4096) → IfSome o (λ b. b ≡ bytes) → bytes ≡ t → is_key t ≡ true → o ≡ key.read t
key_is (Some b) bytes t fits is same e = ap (λ (b : List ℕ). Some b) (is ∙ same) ∙ ap (λ (b : Bool). cond b (Some t) None) (sym e)
key_is None bytes t fits is same e = let some : ◌≡◌ {A = Bool} false true = fits.1 (subst (λ (b : List ℕ). length b ≤ 4096) (sym same) (key_few t e)) in absurd cc

-- Reading item by item.

-- all that is read are the items so far and those that are read of the others
abbrev pub GoesOn : {W A : Type 0} → (W → Option A) → Option (List A) → List A → List W → Type 0
GoesOn {W} {A} read all items rest = all ≡ option_map (λ (xs : List A). items ++ xs) (each read rest)

-- Histories.

pub above_last : (ds : List Entry) (d : Entry) (n : ℕ) → is_above (ds ++ d ∷ []) n ≡ ltb d.stamp n
above_last [] d n = refl
above_last (x ∷ []) d n = refl
above_last (x ∷ y ∷ ds) d n = above_last (y ∷ ds) d n

-- Whole texts.

counted : (ps lines : List (Bor (List ℕ))) (last : Bor (List ℕ)) → ps ≡ lines ++ last ∷ [] → suc (length (texts lines)) ≡ length ps
counted ps lines last e =
    let len : length ps ≡ length (lines ++ last ∷ []) = ap (λ (x : List (Bor (List ℕ))). length x) e in
    omega (arith, len, length-map lines (λ (w : Bor (List ℕ)). w.now), length-append lines (last ∷ []))

-- the last piece stands behind the lines
pub parsed_last : (ps lines : List (Bor (List ℕ))) (last : Bor (List ℕ)) → ps ≡ lines ++ last ∷ [] → parsed (texts ps) ≡ at_end (length ps) (run 1 None (texts lines)) last.now
parsed_last ps lines last e =
    ap (λ (x : List (Bor (List ℕ))). parsed (texts x)) e ∙ ap parsed (map-append (λ (w : Bor (List ℕ)). w.now) lines (last ∷ [])) ∙ parsed_is (texts lines) last.now
    ∙ ap (λ (n : ℕ). at_end n (run 1 None (texts lines)) last.now) (counted ps lines last e)

nothing_parsed : (ps : List (Bor (List ℕ))) → length ps ≡ 0 → parsed (texts ps) ≡ Err (length ps)
unfolding parsed
nothing_parsed [] e = refl
nothing_parsed (p ∷ ps) e = absurd (omega (arith, e))

pub parses_none : (ps : List (Bor (List ℕ))) (n : ℕ) → length ps ≡ 0 → n ≡ length ps → parsed (texts ps) ≡ Err n
parses_none ps n e f = nothing_parsed ps e ∙ ap (λ (k : ℕ). Err k) (sym f)

pub parses_stop : (e : TextFault) (ps lines : List (Bor (List ℕ))) (last : Bor (List ℕ)) → ps ≡ lines ++ last ∷ [] → Parses {A = Option Beginning} (Err e) (run 1 None (texts lines)) → Parses {A = Transcript} (Err e) (parsed (texts ps))
parses_stop fault.NoMemory ps lines last e h = tt
parses_stop (fault.Outside n) ps lines last e h = parsed_last ps lines last e ∙ ap (λ (r : Result (Option Beginning) ℕ). at_end (length ps) r last.now) h

pub parses_end : (r : Result Transcript TextFault) (n : ℕ) (o : Option Transcript) (s : Option Beginning) (ps lines : List (Bor (List ℕ))) (last : Bor (List ℕ)) → ps ≡ lines ++ last ∷ [] → n ≡ length ps → o ≡ whole s
    → run 1 None (texts lines) ≡ Ok s → Parses r (ended n o last.now) → Parses r (parsed (texts ps))
parses_end r n o s ps lines last e f g h k =
    let same : ended n o last.now ≡ ended (length ps) (whole s) last.now = rw (f, g) refl in
    subst (Parses r) (same ∙ sym (parsed_last ps lines last e ∙ ap (λ (r : Result (Option Beginning) ℕ). at_end (length ps) r last.now) h)) k
