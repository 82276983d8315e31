-- A text that is cut where its parts were joined gives the parts.
use Rattle.std.proofs.Common.{◌≡◌, ◌≢◌, ℕ, Bool, true, false, not, ◌&&◌, cond, eqb, List, [], ◌∷◌, ◌++◌, length, map, Option, Some, None, sym, refl, ap, ◌∙◌, arith}
use Rattle.std.specs.List.{list_all, join_with_byte, slice_split, onto_first}
use Rattle.std.proofs.lemmas.Bool.{eq-eqb}
use Rattle.std.proofs.lemmas.List.Splits.{slice_split-cons_yes, slice_split-cons_no}
use Rattle.std.proofs.lemmas.List.Folds.{list_all-append}
use Rattle.tg_codec.proofs.Laws.{and-left, and-right, both}

-- no byte of the text is this one
abbrev pub lacks : ℕ → List ℕ → Bool
lacks byte text = list_all (λ b. not (eqb b byte)) text

no_from_not : (b : Bool) → not b ≡ true → b ≡ false
no_from_not true e = absurd cc
no_from_not false e = refl

-- where the byte isn't in it, a text is its one part
pub cut_none : (byte : ℕ) (text : List ℕ) → lacks byte text ≡ true → slice_split (λ b. eqb b byte) text ≡ text ∷ []
cut_none byte [] e = refl
cut_none byte (x ∷ text) e =
    slice_split-cons_no (λ b. eqb b byte) x text (no_from_not _ (and-left _ _ e)) ∙ ap (onto_first x) (cut_none byte text (and-right _ _ e))

-- the first part ends at the first such byte
pub cut_at : (byte : ℕ) (text rest : List ℕ) → lacks byte text ≡ true → slice_split (λ b. eqb b byte) (text ++ byte ∷ rest) ≡ text ∷ slice_split (λ b. eqb b byte) rest
cut_at byte [] rest e = slice_split-cons_yes (λ b. eqb b byte) byte rest (eq-eqb byte byte refl)
cut_at byte (x ∷ text) rest e =
    slice_split-cons_no (λ b. eqb b byte) x (text ++ byte ∷ rest) (no_from_not _ (and-left _ _ e)) ∙ ap (onto_first x) (cut_at byte text rest (and-right _ _ e))

pub cut_joined : (byte : ℕ) (part : List ℕ) (parts : List (List ℕ)) → list_all (lacks byte) (part ∷ parts) ≡ true
    → slice_split (λ b. eqb b byte) (join_with_byte byte (part ∷ parts)) ≡ part ∷ parts
cut_joined byte part [] e = cut_none byte part (and-left _ _ e)
cut_joined byte part (next ∷ parts) e =
    cut_at byte part (join_with_byte byte (next ∷ parts)) (and-left _ _ e) ∙ ap (λ (ps : List (List ℕ)). part ∷ ps) (cut_joined byte next parts (and-right _ _ e))
