-- No line of a header has a line feed, so what is printed of a header is cut into its lines again.
use Rattle.std.proofs.Common.{◌≡◌, ℕ, true, eqb, List, [], ◌∷◌, ◌++◌, sym, refl, subst, ap, ◌∙◌, arith}
use Rattle.std.specs.List.{list_all, slice_split}
use Rattle.std.proofs.lemmas.Bool.Decides.{nat_tests}
use Rattle.tg_base.specs.Clusters.{Header, IsHeader}
use Rattle.tg_codec.proofs.Laws.{and-left, and-right, both}
use Rattle.tg_any.specs.Words.{joined}
use Rattle.tg_script.specs.Headers.{sizes, stripes, objects, sizes_of, header_lines, lines_text}
use Rattle.tg_script.proofs.Cuts.{lacks, cut_at}
use Rattle.tg_script.proofs.Bytes.{is_graphic, is_not, all_weaker, joined_passes}
use Rattle.tg_script.proofs.Lines.{joined_is}
use Rattle.tg_script.proofs.Headers.{sizes_plain, stripes_plain, objects_plain}
use Rattle.tg_script.proofs.Clusters.{header_sizes, few_units, chains_fit, objects_fit}

no_feed : (b : ℕ) → is_graphic b ≡ true → is_not 10 b ≡ true
no_feed b e = grind (arith, nat_tests)

words_lack : (words : List (List ℕ)) → list_all (list_all is_graphic) words ≡ true → list_all (lacks 10) words ≡ true
words_lack [] e = refl
words_lack (w ∷ words) e = both _ _ (all_weaker is_graphic (is_not 10) no_feed w (and-left _ _ e)) (words_lack words (and-right _ _ e))

line_lacks : (words : List (List ℕ)) → list_all (list_all is_graphic) words ≡ true → lacks 10 (joined words) ≡ true
line_lacks words e = subst (λ (t : List ℕ). lacks 10 t ≡ true) (sym (joined_is words)) (joined_passes (is_not 10) 32 refl words (words_lack words e))

header_lacks : (h : Header) → IsHeader h → list_all (lacks 10) (header_lines h) ≡ true
header_lacks h e =
    let few = few_units (sizes_of h) (header_sizes h e) in
    both _ _ (line_lacks (sizes.spell (sizes_of h)) (sizes_plain.graphic (sizes_of h) (header_sizes h e)))
    (both _ _ (line_lacks ((stripes h.units).spell h.chains) ((stripes_plain h.units few).graphic h.chains (chains_fit h.units h.chains (and-right _ _ (and-left _ _ e)))))
    (both _ _ (line_lacks (objects.spell h.objects) (objects_plain.graphic h.objects (objects_fit h.objects (and-right _ _ e)))) refl))

text_cut : (lines : List (List ℕ)) → list_all (lacks 10) lines ≡ true → slice_split (λ (b : ℕ). eqb b 10) (lines_text lines) ≡ lines ++ [] ∷ []
text_cut [] e = refl
text_cut (line ∷ lines) e = cut_at 10 line (lines_text lines) (and-left _ _ e) ∙ ap (λ (ls : List (List ℕ)). line ∷ ls) (text_cut lines (and-right _ _ e))

pub header_cut : (h : Header) → IsHeader h → slice_split (λ (b : ℕ). eqb b 10) (lines_text (header_lines h)) ≡ header_lines h ++ [] ∷ []
header_cut h e = text_cut (header_lines h) (header_lacks h e)
