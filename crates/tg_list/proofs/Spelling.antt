-- Spelling texts one after the other, as a loop does.
use Rattle.std.proofs.Common.{◌≡◌, ℕ, List, ◌∷◌, ◌++◌, length, sym, ap, ◌∙◌, append_assoc}
use Rattle.std.proofs.lemmas.List.{append-nil, nil_from_length}
use Rattle.tg_codec.specs.Codec.{spell_many}
use Rattle.tg_kind.specs.Texts.{text_format}
use Rattle.tg_list.specs.TextLists.{Texts, item, onward}

-- one more text is written
pub goes_on : (out new : List ℕ) (rest more : Texts) (text total : List ℕ) → new ≡ out ++ text_format.spell text → rest ≡ text ∷ more → out ++ spell_many item onward tt rest ≡ total → new ++ spell_many item onward tt more ≡ total
unfolding spell_many
goes_on out new rest more text total written front so_far =
    ap (λ (o : List ℕ). o ++ spell_many item onward tt more) written
    ∙ append_assoc out (text_format.spell text) (spell_many item onward tt more)
    ∙ ap (λ (r : Texts). out ++ spell_many item onward tt r) (sym front)
    ∙ so_far

-- no text is left
pub is_done : (out : List ℕ) (rest : Texts) (total : List ℕ) → length rest ≡ 0 → out ++ spell_many item onward tt rest ≡ total → out ≡ total
unfolding spell_many
is_done out rest total none so_far =
    sym (append-nil out)
    ∙ ap (λ (r : Texts). out ++ spell_many item onward tt r) (sym (nil_from_length rest none))
    ∙ so_far
