-- A line is read by its words: what is read of it is what it spells, and nothing else.
use Rattle.std.proofs.Common.{◌≡◌, ℕ, zero, suc, ◌<◌, Bool, true, false, not, ◌&&◌, eqb, ltb, List, [], ◌∷◌, ◌++◌, length, map, Option, Some, None, get_or, sym, refl, subst, ap, ◌∙◌, arith}
use Rattle.std.specs.List.{list_all, join_with_byte, slice_split}
use Rattle.std.specs.Str.{IsAscii}
use Rattle.std.proofs.lemmas.Bool.{ltb-true}
use Rattle.std.proofs.lemmas.Bool.Decides.{nat_tests}
use Rattle.std.proofs.lemmas.List.Splits.{join_with_byte-slice_split}
use Rattle.tg_codec.proofs.Laws.{and-left, and-right, both}
use Rattle.tg_any.specs.Words.{Word, Phrase, joined}
use Rattle.tg_any.proofs.Words.{IsWord, IsPhrase, none_of}
use Rattle.tg_any.proofs.Numbers.{bind_takes, when_takes}
use Rattle.tg_any.proofs.Fronts.{bind_again, if_again}
use Rattle.tg_script.specs.Parts.{words_of, many}
use Rattle.tg_script.proofs.Cuts.{lacks, cut_joined}
use Rattle.tg_script.proofs.Parts.{each_takes, each_again}
use Rattle.tg_script.proofs.Bytes.{is_graphic, is_not, graphic_is_no_space, all_weaker, joined_passes}

-- there is a word, and each byte of each word is graphic
pub record IsPlain {A : Type 0} (p : Phrase A) : Type 0 where
  pub some : (x : A) → p.fits x ≡ true → p.spell x ≡ [] → ⊥
  pub graphic : (x : A) → p.fits x ≡ true → list_all (list_all is_graphic) (p.spell x) ≡ true

-- words with a space between any two
pub joined_is : (words : List (List ℕ)) → joined words ≡ join_with_byte 32 words
joined_is [] = refl
joined_is (w ∷ []) = refl
joined_is (w ∷ v ∷ words) = ap (λ (t : List ℕ). w ++ 32 ∷ t) (joined_is (v ∷ words))

all_spaceless : (words : List (List ℕ)) → list_all (list_all is_graphic) words ≡ true → list_all (lacks 32) words ≡ true
all_spaceless [] e = refl
all_spaceless (w ∷ words) e = both _ _ (all_weaker is_graphic (is_not 32) graphic_is_no_space w (and-left _ _ e)) (all_spaceless words (and-right _ _ e))

low_words : (words : List (List ℕ)) → list_all (list_all is_graphic) words ≡ true → list_all (list_all (λ (b : ℕ). ltb b 128)) words ≡ true
low_words [] e = refl
low_words (w ∷ words) e = both _ _ (all_weaker is_graphic (λ (b : ℕ). ltb b 128) (λ b g. and-right _ _ g) w (and-left _ _ e)) (low_words words (and-right _ _ e))

low_is_ascii : (text : List ℕ) → list_all (λ (b : ℕ). ltb b 128) text ≡ true → (i : ℕ) → get_or text i 0 < 128
low_is_ascii [] e i = omega arith
low_is_ascii (b ∷ text) e zero = ltb-true _ _ (and-left _ _ e)
low_is_ascii (b ∷ text) e (suc i) = low_is_ascii text (and-right _ _ e) i

pub line_ascii : (words : List (List ℕ)) → list_all (list_all is_graphic) words ≡ true → IsAscii (joined words)
line_ascii words e = subst IsAscii (sym (joined_is words)) (low_is_ascii (join_with_byte 32 words) (joined_passes (λ (b : ℕ). ltb b 128) 32 refl words (low_words words e)))

-- the words of the line that words make
pub words_again : (words : List (List ℕ)) → (words ≡ [] → ⊥) → list_all (list_all is_graphic) words ≡ true → words_of (joined words) ≡ words
words_again [] some e = absurd (some refl)
words_again (w ∷ words) some e = ap words_of (joined_is (w ∷ words)) ∙ cut_joined 32 w words (all_spaceless (w ∷ words) e)

pub line_takes : {A : Type 0} (p : Phrase A) → IsPhrase p → (line : List ℕ) (x : A) → p.read (words_of line) ≡ Some x → (line ≡ joined (p.spell x)) × (p.fits x ≡ true)
line_takes p law line x e = let h = law.takes (words_of line) x e in (sym (join_with_byte-slice_split 32 line) ∙ sym (joined_is (words_of line)) ∙ ap joined h.0, h.1)

pub line_again : {A : Type 0} (p : Phrase A) → IsPhrase p → IsPlain p → (x : A) → p.fits x ≡ true → p.read (words_of (joined (p.spell x))) ≡ Some x
line_again p law plain x fits = ap p.read (words_again (p.spell x) (plain.some x fits) (plain.graphic x fits)) ∙ law.again x fits

-- a line that isn't ASCII is none
pub line_none : {A : Type 0} (p : Phrase A) → IsPhrase p → IsPlain p → (line : List ℕ) → (IsAscii line → ⊥) → p.read (words_of line) ≡ None
line_none p law plain line other =
    none_of _ (λ x e. let h = line_takes p law line x e in other (subst IsAscii (sym h.0) (line_ascii (p.spell x) (plain.graphic x h.1))))

-- lists of words
pub many_law : {A : Type 0} (a : Word A) → IsWord a → (test : List A → Bool) → IsPhrase (many a test)
many_law {A} a law test = record {
  takes = λ words xs e.
      let b = bind_takes _ _ _ e in
      let d = when_takes _ _ _ b.2 in
      let h = each_takes a law words b.0 b.1 in
      subst (λ (xs : List A). (words ≡ map a.spell xs) × ((list_all a.fits xs && test xs) ≡ true)) d.1 (h.0, both _ _ h.1 d.0);
  again = λ xs e. bind_again _ _ _ _ (each_again a law xs (and-left _ _ e)) (if_again _ _ _ (and-right _ _ e) refl);
}
