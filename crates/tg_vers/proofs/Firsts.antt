-- The first read that another version is found for.
use Rattle.std.specs.Prelude.{◌≡◌, ℕ, ◌+◌, Bool, true, false, cond, ◌==◌, List, [], ◌∷◌, drop, Option, Some, None, slice_get, refl}
use Rattle.std.proofs.Common.{◌<◌, length, get_or, sym, ap, ◌∙◌, arith, add-one, drop-cons, eq-eqb}
use Rattle.std.proofs.lemmas.Bool.{eqb-true}
use Rattle.tg_base.specs.declared.marks.ReadMark.{ReadMark}
use Rattle.tg_protocol.specs.Versions.{first_changed}
use Rattle.tg_vers.specs.Kept.{one_later, first_other, changed_at, changed_of}

later : (r : ReadMark) (rs : List ReadMark) (x : Option (ℕ × ℕ)) → changed_of (r ∷ rs) (one_later x) ≡ changed_of rs x
later r rs None = refl
later r rs (Some x) = ap (λ (k : ℕ). changed_at (slice_get (r ∷ rs) k) x.1) (add-one x.0)

-- the read at that index is the definitions' first one
pub changed_first : (version : ReadMark → ℕ) (reads : List ReadMark) → changed_of reads (first_other version reads) ≡ first_changed version reads
changed_first version [] = refl
changed_first version (r ∷ rs) = by (changed_first version rs) (version r == r.version)
  where
    by : changed_of rs (first_other version rs) ≡ first_changed version rs → (b : Bool)
        → changed_of (r ∷ rs) (cond b (one_later (first_other version rs)) (Some (0, version r))) ≡ cond b (first_changed version rs) (Some (record { read = r; now = version r }))
    by more true = later r rs (first_other version rs) ∙ more
    by more false = refl

-- so many reads later
abbrev pub moved : ℕ → Option (ℕ × ℕ) → Option (ℕ × ℕ)
moved n None = None
moved n (Some x) = Some (n + x.0, x.1)

moved_one : (n : ℕ) (x : Option (ℕ × ℕ)) → moved n (one_later x) ≡ moved (n + 1) x
moved_one n None = refl
moved_one n (Some x) = let e : n + (x.0 + 1) ≡ n + 1 + x.0 = omega arith in λ i. Some (e i, x.1)

-- a read that agrees is passed
pub passed : (version : ReadMark → ℕ) (reads rest : List ReadMark) (r : ReadMark) (n : ℕ) (all : Option (ℕ × ℕ)) → reads ≡ r ∷ rest → version r ≡ r.version
    → moved n (first_other version reads) ≡ all → moved (n + 1) (first_other version rest) ≡ all
passed version reads rest r n all front same so_far =
    sym (moved_one n (first_other version rest))
    ∙ ap (λ (b : Bool). moved n (cond b (one_later (first_other version rest)) (Some (0, version r)))) (sym (eq-eqb (version r) r.version same))
    ∙ ap (λ (rs : List ReadMark). moved n (first_other version rs)) (sym front)
    ∙ so_far

apart : (a b : ℕ) (t : Bool) → (a == b) ≡ t → (a ≡ b → ⊥) → (a == b) ≡ false
apart a b true e h = absurd (h (eqb-true a b e))
apart a b false e h = e

-- the first that doesn't is told
pub stopped : (version : ReadMark → ℕ) (reads rest : List ReadMark) (r : ReadMark) (n : ℕ) (all : Option (ℕ × ℕ)) → reads ≡ r ∷ rest → (version r ≡ r.version → ⊥)
    → moved n (first_other version reads) ≡ all → Some (n, version r) ≡ all
stopped version reads rest r n all front other so_far =
    let e : n ≡ n + 0 = omega arith in
    let here : Some (n, version r) ≡ moved n (Some (0, version r)) = λ i. Some (e i, version r) in
    here
    ∙ ap (λ (b : Bool). moved n (cond b (one_later (first_other version rest)) (Some (0, version r)))) (sym (apart (version r) r.version (version r == r.version) refl other))
    ∙ ap (λ (rs : List ReadMark). moved n (first_other version rs)) (sym front)
    ∙ so_far

-- the list from an element on
pub front_of : (reads : List ReadMark) (n : ℕ) (r : ReadMark) → n < length reads → r ≡ get_or reads n r → drop n reads ≡ r ∷ drop (n + 1) reads
front_of reads n r lt is = drop-cons reads n r lt ∙ (λ i. sym is i ∷ drop (sym (add-one n) i) reads)
