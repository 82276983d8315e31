-- The text of a made load has the lines of its script.
use Rattle.std.proofs.Common.{◌≡◌, ℕ, Bool, true, false, not, eqb, List, [], ◌∷◌, ◌++◌, map, refl, sym, ap, ◌∙◌, subst, append_assoc, arith}
use Rattle.std.specs.Prelude.{◌==◌}
use Rattle.std.specs.List.{list_all}
use Rattle.std.proofs.lemmas.Bool.Decides.{nat_tests}
use Rattle.tg_base.specs.Clusters.{Header, IsHeader}
use Rattle.tg_codec.proofs.Laws.{and-left, and-right, both}
use Rattle.tg_any.specs.Words.{joined}
use Rattle.tg_script.specs.declared.line.Line.{Line}
use Rattle.tg_script.specs.Headers.{sizes, stripes, objects, sizes_of, header_lines, lines_text}
use Rattle.tg_script.specs.Lines.{line_words}
use Rattle.tg_script.proofs.Cuts.{lacks}
use Rattle.tg_script.proofs.Bytes.{is_graphic, is_not, all_weaker, joined_passes}
use Rattle.tg_script.proofs.Lines.{joined_is}
use Rattle.tg_script.proofs.Headers.{sizes_plain, stripes_plain, objects_plain}
use Rattle.tg_script.proofs.Clusters.{header_sizes, few_units, chains_fit, objects_fit}
use Rattle.tg_script.proofs.EventLines.{counts_small, line_plain}
use Rattle.tg_lines.specs.Lines.{lines, IsUnbroken}
use Rattle.tg_lines.proofs.Pieces.{line_ends}
use Rattle.tg_gen.specs.Loads.{header, header_text, text, line_text, load_lines, load_text}
use Rattle.tg_bench.proofs.Grammar.{IsFine, AllFine, fine_load, header_lawful}

-- No line has a line feed.

no_feed : (b : ℕ) → is_graphic b ≡ true → is_not 10 b ≡ true
no_feed b e = grind (arith, nat_tests)

words_lack : (words : List (List ℕ)) → list_all (list_all is_graphic) words ≡ true → list_all (lacks 10) words ≡ true
words_lack [] e = refl
words_lack (w ∷ words) e = both _ _ (all_weaker is_graphic (is_not 10) no_feed w (and-left _ _ e)) (words_lack words (and-right _ _ e))

line_lacks : (words : List (List ℕ)) → list_all (list_all is_graphic) words ≡ true → lacks 10 (joined words) ≡ true
line_lacks words e = subst (λ (t : List ℕ). lacks 10 t ≡ true) (sym (joined_is words)) (joined_passes (is_not 10) 32 refl words (words_lack words e))

no_from_not : (b : Bool) → not b ≡ true → b ≡ false
no_from_not true e = absurd cc
no_from_not false e = refl

unbroken : (bs : List ℕ) → lacks 10 bs ≡ true → IsUnbroken bs
unbroken [] e = tt
unbroken (b ∷ bs) e = (no_from_not _ (and-left _ _ e), unbroken bs (and-right _ _ e))

header_lacks : (h : Header) → IsHeader h → list_all (lacks 10) (header_lines h) ≡ true
header_lacks h e =
    let few = few_units (sizes_of h) (header_sizes h e) in
    both _ _ (line_lacks (sizes.spell (sizes_of h)) (sizes_plain.graphic (sizes_of h) (header_sizes h e)))
    (both _ _ (line_lacks ((stripes h.units).spell h.chains) ((stripes_plain h.units few).graphic h.chains (chains_fit h.units h.chains (and-right _ _ (and-left _ _ e)))))
    (both _ _ (line_lacks (objects.spell h.objects) (objects_plain.graphic h.objects (objects_fit h.objects (and-right _ _ e)))) refl))

fine_unbroken : (l : Line) → IsFine l → IsUnbroken (joined (line_words l))
fine_unbroken l e = unbroken _ (line_lacks (line_words l) ((line_plain header (counts_small header header_lawful)).graphic l e.fits))

-- The lines of the header, and those of events.

header_cut : (ls : List (List ℕ)) (rest : List ℕ) → list_all (lacks 10) ls ≡ true → lines (lines_text ls ++ rest) ≡ ls ++ lines rest
header_cut [] rest e = refl
header_cut (l ∷ ls) rest e =
    ap lines (append_assoc l (10 ∷ lines_text ls) rest) ∙ line_ends l (lines_text ls ++ rest) (unbroken l (and-left _ _ e))
    ∙ ap (λ (xs : List (List ℕ)). l ∷ xs) (header_cut ls rest (and-right _ _ e))

events_cut : (ls : List Line) → AllFine ls → lines (text ls) ≡ map (λ l. joined (line_words l)) ls
unfolding text line_text
events_cut [] e = refl
events_cut (l ∷ ls) e =
    ap lines (append_assoc (joined (line_words l)) (10 ∷ []) (text ls)) ∙ line_ends (joined (line_words l)) (text ls) (fine_unbroken l e.0)
    ∙ ap (λ (xs : List (List ℕ)). joined (line_words l) ∷ xs) (events_cut ls e.1)

pub load_cut : (start count : ℕ) → lines (load_text start count) ≡ header_lines header ++ map (λ l. joined (line_words l)) (load_lines start count)
unfolding header_text
load_cut start count =
    header_cut (header_lines header) (text (load_lines start count)) (header_lacks header header_lawful)
    ∙ ap (λ (xs : List (List ℕ)). header_lines header ++ xs) (events_cut (load_lines start count) (fine_load start count))
