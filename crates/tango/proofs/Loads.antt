-- The load that the words name.
use Rattle.std.proofs.Common.{◌≡◌, ℕ, List, Option, Some, sym, ap, ◌∙◌, subst}
use Rattle.tango_words.specs.Forms.{form_of}
use Rattle.tango_words.specs.declared.forms.Form.{Form}
use Rattle.tango_words.specs.declared.forms.Form.TheVariants.{Bench}

abbrev start_in : Option Form → ℕ
start_in (Some (Bench start count)) = start
start_in form = 0

abbrev count_in : Option Form → ℕ
count_in (Some (Bench start count)) = count
count_in form = 0

-- what holds of the load that was read holds of the one that the words name
pub moved : (words : List (List ℕ)) (read : Option Form) (form : Form) (s n start count : ℕ) (P : ℕ → ℕ → Type 0) → read ≡ form_of words → read ≡ Some form → form ≡ Bench s n →
    form_of words ≡ Some (Bench start count) → P s n → P start count
moved words read form s n start count P is some bench named h =
    let same : Some (Bench s n) ≡ Some (Bench start count) = sym (some ∙ ap Some bench) ∙ is ∙ named in
    subst (λ (x : ℕ). P x count) (ap start_in same) (subst (λ (y : ℕ). P s y) (ap count_in same) h)
