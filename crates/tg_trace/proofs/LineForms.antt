-- A line is read by its words: what is read of it is what it spells, and nothing else.
use Rattle.std.proofs.Common.{◌≡◌, ℕ, zero, suc, ◌<◌, Bool, true, not, ◌&&◌, eqb, ltb, List, [], ◌∷◌, ◌++◌, Some, None, get_or, sym, refl, subst, ap, ◌∙◌, arith}
use Rattle.std.specs.List.{list_all, join_with_byte, slice_split}
use Rattle.std.specs.Str.{IsAscii}
use Rattle.std.proofs.lemmas.Bool.{ltb-true}
use Rattle.std.proofs.lemmas.Bool.Decides.{nat_tests}
use Rattle.std.proofs.lemmas.List.Splits.{join_with_byte-slice_split}
use mathlib.Core.List.{append_assoc, append-nil}
use Rattle.tg_codec.proofs.Laws.{and-left, and-right, both}
use Rattle.tg_any.specs.Words.{Phrase}
use Rattle.tg_any.proofs.Words.{IsPhrase, none_of}
use Rattle.tg_trace.specs.Lines.{spaced, line_of, words_of}
use Rattle.tg_trace.specs.Transcripts.{line_by, text_of}
use Rattle.tg_trace.proofs.Cuts.{lacks, cut_at, cut_joined}
use Rattle.tg_trace.proofs.Bytes.{is_visible, all_weaker, all_append}

pub line_is_joined : (ws : List (List ℕ)) → line_of ws ≡ join_with_byte 32 ws
line_is_joined [] = refl
line_is_joined (w ∷ []) = append-nil w
line_is_joined (w ∷ v ∷ ws) = ap (λ (t : List ℕ). w ++ 32 ∷ t) (line_is_joined (v ∷ ws))

-- there is a word, and each byte of each word is visible
pub record IsPlain {A : Type 0} (p : Phrase A) : Type 0 where
  pub some : (x : A) → p.fits x ≡ true → p.spell x ≡ [] → ⊥
  pub visible : (x : A) → p.fits x ≡ true → list_all (list_all is_visible) (p.spell x) ≡ true

visible_is_no_space : (b : ℕ) → is_visible b ≡ true → not (eqb b 32) ≡ true
visible_is_no_space b e = grind (arith, nat_tests)

-- a byte of a line
abbrev is_inner : ℕ → Bool
is_inner b = ltb b 128 && not (eqb b 10)

visible_is_inner : (b : ℕ) → is_visible b ≡ true → is_inner b ≡ true
visible_is_inner b e = grind (arith, nat_tests)

spaceless : (w : List ℕ) → list_all is_visible w ≡ true → lacks 32 w ≡ true
spaceless w e = all_weaker is_visible (λ (b : ℕ). not (eqb b 32)) visible_is_no_space w e

inner_spaced : (ws : List (List ℕ)) → list_all (list_all is_visible) ws ≡ true → list_all is_inner (spaced ws) ≡ true
inner_spaced [] e = refl
inner_spaced (w ∷ ws) e = both _ _ refl (all_append is_inner w (spaced ws) (all_weaker is_visible is_inner visible_is_inner w (and-left _ _ e)) (inner_spaced ws (and-right _ _ e)))

inner_line : (ws : List (List ℕ)) → list_all (list_all is_visible) ws ≡ true → list_all is_inner (line_of ws) ≡ true
inner_line [] e = refl
inner_line (w ∷ ws) e = all_append is_inner w (spaced ws) (all_weaker is_visible is_inner visible_is_inner w (and-left _ _ e)) (inner_spaced ws (and-right _ _ e))

inner_is_ascii : (text : List ℕ) → list_all is_inner text ≡ true → (i : ℕ) → get_or text i 0 < 128
inner_is_ascii [] e i = omega arith
inner_is_ascii (b ∷ text) e zero = ltb-true _ _ (and-left _ _ (and-left _ _ e))
inner_is_ascii (b ∷ text) e (suc i) = inner_is_ascii text (and-right _ _ e) i

inner_lacks : (b : ℕ) → is_inner b ≡ true → not (eqb b 10) ≡ true
inner_lacks b e = and-right _ _ e

words_again : (words : List (List ℕ)) → (words ≡ [] → ⊥) → list_all (list_all is_visible) words ≡ true → words_of (line_of words) ≡ words
words_again [] some e = absurd (some refl)
words_again (w ∷ words) some e =
    ap words_of (line_is_joined (w ∷ words)) ∙ cut_joined 32 w words (all_weaker (list_all is_visible) (lacks 32) spaceless (w ∷ words) e)

-- what a kind of line is
pub record IsLine {A : Type 0} (p : Phrase A) : Type 0 where
  pub takes : (line : List ℕ) (x : A) → p.read (words_of line) ≡ Some x → (line ≡ line_by p x) × (p.fits x ≡ true)
  pub again : (x : A) → p.fits x ≡ true → p.read (words_of (line_by p x)) ≡ Some x
  pub words : (x : A) → p.fits x ≡ true → words_of (line_by p x) ≡ p.spell x
  pub ascii : (x : A) → p.fits x ≡ true → IsAscii (line_by p x)
  pub single : (x : A) → p.fits x ≡ true → lacks 10 (line_by p x) ≡ true

pub line_law : {A : Type 0} (p : Phrase A) → IsPhrase p → IsPlain p → IsLine p
line_law p law plain = record {
  takes = λ line x e.
      let h = law.takes (words_of line) x e in
      (sym (join_with_byte-slice_split 32 line) ∙ sym (line_is_joined (words_of line)) ∙ ap line_of h.0, h.1);
  again = λ x fits. ap p.read (words_again (p.spell x) (plain.some x fits) (plain.visible x fits)) ∙ law.again x fits;
  words = λ x fits. words_again (p.spell x) (plain.some x fits) (plain.visible x fits);
  ascii = λ x fits. inner_is_ascii (line_by p x) (inner_line (p.spell x) (plain.visible x fits));
  single = λ x fits. all_weaker is_inner (λ (b : ℕ). not (eqb b 10)) inner_lacks (line_by p x) (inner_line (p.spell x) (plain.visible x fits));
}

-- a line that isn't ASCII is none
pub line_none : {A : Type 0} (p : Phrase A) → IsLine p → (line : List ℕ) → (IsAscii line → ⊥) → p.read (words_of line) ≡ None
line_none p law line other = none_of _ (λ x e. let h = law.takes line x e in other (subst IsAscii (sym h.0) (law.ascii x h.1)))

-- Texts.

-- the lines of a text, and nothing behind the last line feed
pub cut_ended : (lines : List (List ℕ)) → list_all (lacks 10) lines ≡ true → slice_split (λ (b : ℕ). eqb b 10) (text_of lines) ≡ lines ++ [] ∷ []
cut_ended [] e = refl
cut_ended (l ∷ lines) e =
    ap (slice_split (λ (b : ℕ). eqb b 10)) (append_assoc l (10 ∷ []) (text_of lines)) ∙ cut_at 10 l (text_of lines) (and-left _ _ e)
    ∙ ap (λ (ps : List (List ℕ)). l ∷ ps) (cut_ended lines (and-right _ _ e))

-- a text is its lines and what follows the last line feed
pub text_is : (lines : List (List ℕ)) (last : List ℕ) → join_with_byte 10 (lines ++ last ∷ []) ≡ text_of lines ++ last
text_is [] last = refl
text_is (l ∷ []) last = sym (append_assoc l (10 ∷ []) last) ∙ ap (λ (t : List ℕ). t ++ last) (sym (append-nil (l ++ 10 ∷ [])))
text_is (l ∷ m ∷ lines) last =
    ap (λ (t : List ℕ). l ++ 10 ∷ t) (text_is (m ∷ lines) last) ∙ sym (append_assoc l (10 ∷ text_of (m ∷ lines)) last) ∙ ap (λ (t : List ℕ). t ++ last) (sym (append_assoc l (10 ∷ []) (text_of (m ∷ lines))))
