-- The lines of transcripts: what is read of each is what it spells, and nothing else.
use Rattle.std.proofs.Common.{◌≡◌, ℕ, ◌<◌, Bool, true, false, not, eqb, cond, List, [], ◌∷◌, ◌++◌, length, map, codes, Some, None, sym, refl, subst, ap, ◌∙◌, arith}
use Rattle.std.specs.Prelude.{option_map}
use Rattle.std.specs.List.{list_all, slice_split, onto_first}
use Rattle.std.specs.Str.{bytes_eq, all_ascii_digits}
use Rattle.std.specs.Fmt.{decimal}
use Rattle.std.proofs.lemmas.Bool.{ne_eqb, ltb-true}
use Rattle.std.proofs.lemmas.Slice.Eq.{bytes_eq-Decides}
use Rattle.std.proofs.lemmas.List.Splits.{slice_split-cons_yes, slice_split-cons_no, length-slice_split}
use Rattle.std.proofs.lemmas.Str.Parse.{numerals_by_value, tells_all_ascii_digits}
use Rattle.std.proofs.lemmas.Fmt.{digits_decimal}
use Rattle.tg_base.specs.declared.ids.Oid.{Oid}
use Rattle.tg_base.specs.Clusters.{are_objects}
use Rattle.tg_codec.proofs.Laws.{and-left, and-right, both}
use Rattle.tg_any.specs.declared.any.AnyOp.{AnyOp}
use Rattle.tg_any.specs.Words.{Phrase, number, index, object, one}
use Rattle.tg_any.proofs.Numbers.{map_takes}
use Rattle.tg_any.proofs.Words.{IsPhrase, number_law, index_law, object_law, one_law, none_of}
use Rattle.tg_trace.specs.Lines.{words_of, first, each, many}
use Rattle.tg_trace.specs.Fields.{client, any_op}
use Rattle.tg_trace.specs.Replies.{what}
use Rattle.tg_trace.specs.Transcripts.{Reply, Entry, objects, told_by, reply_of, reply, write, parted, writes, made_by, entry_of, entry, count, line_by}
use Rattle.tg_trace.proofs.Bytes.{is_visible, is_graphic, are_graphic, AreGraphic, all_weaker, all_append, number_graphic, index_graphic, object_graphic, one_graphic, first_graphic, named_graphic, many_graphic}
use Rattle.tg_trace.proofs.Graphic.{client_graphic, any_op_graphic, what_graphic}
use Rattle.tg_trace.proofs.Phrases.{first_law, named_law, many_law, each_takes, each_again}
use Rattle.tg_trace.proofs.FieldWords.{client_law, any_op_law}
use Rattle.tg_trace.proofs.ReplyWords.{what_law}
use Rattle.tg_trace.proofs.LineForms.{IsLine, line_law}

word_visible : (w : List ℕ) → list_all is_graphic w ≡ true → list_all is_visible w ≡ true
word_visible w e = all_weaker is_graphic is_visible (λ b g. and-left _ _ g) w e

pub words_visible : (ws : List (List ℕ)) → are_graphic ws ≡ true → list_all (list_all is_visible) ws ≡ true
words_visible ws e = all_weaker (list_all is_graphic) (list_all is_visible) word_visible ws e

-- Objects and counts.

objects_law : IsPhrase objects
objects_law = named_law (codes "objects") _ (many_law object object_law are_objects)

pub objects_line : IsLine objects
objects_line = line_law objects objects_law (record {
  some = λ x fits e. absurd cc;
  visible = λ x fits. words_visible (objects.spell x) (named_graphic (codes "objects") (many object are_objects) refl (many_graphic object are_objects object_graphic) x fits);
})

count_law : IsPhrase count
count_law = named_law (codes "history") _ (one_law number number_law)

pub count_line : IsLine count
count_line = line_law count count_law (record {
  some = λ x fits e. absurd cc;
  visible = λ x fits. words_visible (count.spell x) (named_graphic (codes "history") (one number) refl (one_graphic number number_graphic) x fits);
})

-- Replies.

told_by_law : IsPhrase told_by
told_by_law = first_law number _ number_law (first_law client _ client_law (first_law index what index_law what_law))

made_is : {A B : Type 0} (p : Phrase A) → IsPhrase p → (make : A → B) (parts : B → A) → ((x : A) → parts (make x) ≡ x) → (words : List (List ℕ)) (y : B) → option_map make (p.read words) ≡ Some y
    → (words ≡ p.spell (parts y)) × (p.fits (parts y) ≡ true)
made_is {A} {B} p law make parts same words y e =
    let m = map_takes make (p.read words) y e in
    let h = law.takes words m.0 m.1 in
    let is : m.0 ≡ parts y = sym (same m.0) ∙ ap parts m.2 in
    subst (λ (x : A). (words ≡ p.spell x) × (p.fits x ≡ true)) is h

reply_law : IsPhrase reply
reply_law = record {
  takes = λ words m e. made_is told_by told_by_law reply_of (λ (m : Reply). (m.event, (m.client, (m.tx, m.what)))) (λ x. refl) words m e;
  again = λ m fits. ap (option_map reply_of) (told_by_law.again (m.event, (m.client, (m.tx, m.what))) fits);
}

told_graphic : AreGraphic told_by
told_graphic = first_graphic number (first client (first index what)) number_graphic (first_graphic client (first index what) client_graphic (first_graphic index what index_graphic what_graphic))

pub reply_line : IsLine reply
reply_line = line_law reply reply_law (record {
  some = λ x fits e. absurd cc;
  visible = λ x fits. words_visible (reply.spell x) (told_graphic (x.event, (x.client, (x.tx, x.what))) fits);
})

-- Writes.

write_law : IsPhrase write
write_law = first_law object any_op object_law any_op_law

write_graphic : AreGraphic write
write_graphic = first_graphic object any_op object_graphic any_op_graphic

-- a word that may not be a semicolon
abbrev is_semicolon : List ℕ → Bool
is_semicolon = bytes_eq (codes ";")

false_from : (b : Bool) → (b ≡ true → ⊥) → b ≡ false
false_from true never = absurd (never refl)
false_from false never = refl

no_semicolon : (w : List ℕ) → list_all is_graphic w ≡ true → is_semicolon w ≡ false
no_semicolon w e = false_from (is_semicolon w) (λ is.
    let same : codes ";" ≡ w = (bytes_eq-Decides (codes ";") w).0 is in
    let bad : list_all is_graphic (codes ";") ≡ true = ap (list_all is_graphic) same ∙ e in absurd cc)

-- words that are cut where their lists were joined
part_none : (ws : List (List ℕ)) → are_graphic ws ≡ true → slice_split is_semicolon ws ≡ ws ∷ []
part_none [] e = refl
part_none (w ∷ ws) e = slice_split-cons_no is_semicolon w ws (no_semicolon w (and-left _ _ e)) ∙ ap (onto_first w) (part_none ws (and-right _ _ e))

part_at : (ws rest : List (List ℕ)) → are_graphic ws ≡ true → slice_split is_semicolon (ws ++ codes ";" ∷ rest) ≡ ws ∷ slice_split is_semicolon rest
part_at [] rest e = slice_split-cons_yes is_semicolon (codes ";") rest refl
part_at (w ∷ ws) rest e =
    slice_split-cons_no is_semicolon w (ws ++ codes ";" ∷ rest) (no_semicolon w (and-left _ _ e)) ∙ ap (onto_first w) (part_at ws rest (and-right _ _ e))

parts_again : (part : List (List ℕ)) (parts : List (List (List ℕ))) → list_all are_graphic (part ∷ parts) ≡ true → slice_split is_semicolon (parted (part ∷ parts)) ≡ part ∷ parts
parts_again part [] e = part_none part (and-left _ _ e)
parts_again part (next ∷ parts) e =
    part_at part (parted (next ∷ parts)) (and-left _ _ e) ∙ ap (λ (ps : List (List (List ℕ))). part ∷ ps) (parts_again next parts (and-right _ _ e))

-- and parts that are joined where they were cut
onto_parted : (w : List ℕ) (ps : List (List (List ℕ))) → 0 < length ps → parted (onto_first w ps) ≡ w ∷ parted ps
onto_parted w [] some = absurd (omega (arith, some))
onto_parted w (p ∷ []) some = refl
onto_parted w (p ∷ q ∷ ps) some = refl

parted_more : (ps : List (List (List ℕ))) → 0 < length ps → parted ([] ∷ ps) ≡ codes ";" ∷ parted ps
parted_more [] some = absurd (omega (arith, some))
parted_more (p ∷ ps) some = refl

some_part : (ws : List (List ℕ)) → 0 < length (slice_split is_semicolon ws)
some_part ws = omega (arith, length-slice_split is_semicolon ws)

cut_word : (b : Bool) (w : List ℕ) (ps : List (List (List ℕ))) → 0 < length ps → (b ≡ true → codes ";" ≡ w) → parted (cond b ([] ∷ ps) (onto_first w ps)) ≡ w ∷ parted ps
cut_word true w ps some is = parted_more ps some ∙ ap (λ (v : List ℕ). v ∷ parted ps) (is refl)
cut_word false w ps some is = onto_parted w ps some

parted_parts : (ws : List (List ℕ)) → parted (slice_split is_semicolon ws) ≡ ws
parted_parts [] = refl
parted_parts (w ∷ ws) =
    cut_word (is_semicolon w) w (slice_split is_semicolon ws) (some_part ws) (λ is. (bytes_eq-Decides (codes ";") w).0 is) ∙ ap (λ (t : List (List ℕ)). w ∷ t) (parted_parts ws)

graphic_parts : (ws : List (Oid × AnyOp)) → list_all write.fits ws ≡ true → list_all are_graphic (map write.spell ws) ≡ true
graphic_parts [] e = refl
graphic_parts (w ∷ ws) e = both _ _ (write_graphic w (and-left _ _ e)) (graphic_parts ws (and-right _ _ e))

some_write : (ws : List (Oid × AnyOp)) → 0 < length ws → not (eqb (length ws) 0) ≡ true
some_write ws some = ap not (ne_eqb (length ws) 0 (λ e. omega (arith, e, some)))

length_mapped : {A B : Type 0} (f : A → B) (xs : List A) (ys : List B) → ys ≡ map f xs → 0 < length ys → 0 < length xs
length_mapped f [] ys e some = let none : length ys ≡ 0 = ap length e in absurd (omega (arith, none, some))
length_mapped f (x ∷ xs) ys e some = omega arith

writes-again : (ws : List (Oid × AnyOp)) → writes.fits ws ≡ true → writes.read (writes.spell ws) ≡ Some ws
writes-again [] e = absurd cc
writes-again (w ∷ ws) e =
    ap (each write.read) (parts_again (write.spell w) (map write.spell ws) (graphic_parts (w ∷ ws) (and-right _ _ e)))
    ∙ each_again write.spell write.fits write.read write_law.again (w ∷ ws) (and-right _ _ e)

writes_law : IsPhrase writes
writes_law = record {
  takes = λ words ws e.
      let h = each_takes write.spell write.fits write.read write_law.takes (slice_split is_semicolon words) ws e in
      (sym (parted_parts words) ∙ ap parted h.0, both _ _ (some_write ws (length_mapped write.spell ws (slice_split is_semicolon words) h.0 (some_part words))) h.1);
  again = writes-again;
}

parted_visible : (ps : List (List (List ℕ))) → list_all are_graphic ps ≡ true → list_all (list_all is_visible) (parted ps) ≡ true
parted_visible [] e = refl
parted_visible (p ∷ []) e = words_visible p (and-left _ _ e)
parted_visible (p ∷ q ∷ ps) e =
    all_append (list_all is_visible) p (codes ";" ∷ parted (q ∷ ps)) (words_visible p (and-left _ _ e)) (parted_visible (q ∷ ps) (and-right _ _ e))

-- Transactions.

made_by_law : IsPhrase made_by
made_by_law = first_law number _ number_law (first_law client _ client_law (first_law index writes index_law writes_law))

entry_law : IsPhrase entry
entry_law = record {
  takes = λ words d e. made_is made_by made_by_law entry_of (λ (d : Entry). (d.stamp, (d.client, (d.number, d.writes)))) (λ x. refl) words d e;
  again = λ d fits. ap (option_map entry_of) (made_by_law.again (d.stamp, (d.client, (d.number, d.writes))) fits);
}

entry-visible : (d : Entry) → entry.fits d ≡ true → list_all (list_all is_visible) (entry.spell d) ≡ true
entry-visible d e =
    let after_place = and-right (number.fits d.stamp) _ e in
    let after_client = and-right (client.fits d.client) _ after_place in
    let after_number = and-right (index.fits d.number) (writes.fits d.writes) after_client in
    let each_fits = and-right (not (eqb (length d.writes) 0)) (list_all write.fits d.writes) after_number in
    both _ _ (word_visible (decimal d.stamp) (number_graphic d.stamp (and-left _ _ e)))
    (both _ _ (word_visible (client.spell d.client) (client_graphic d.client (and-left _ _ after_place)))
    (both _ _ (word_visible (decimal d.number) (index_graphic d.number (and-left _ _ after_client)))
    (parted_visible (map write.spell d.writes) (graphic_parts d.writes each_fits))))

pub entry_line : IsLine entry
entry_line = line_law entry entry_law (record { some = λ x fits e. absurd cc; visible = entry-visible })

-- the line that counts the history is no reply's

abbrev first_word : List (List ℕ) → List ℕ
first_word [] = []
first_word (w ∷ ws) = w

no_reply : (n : ℕ) (m : Reply) → count.spell n ≡ reply.spell m → reply.fits m ≡ true → ⊥
no_reply n m is fits =
    let digits : all_ascii_digits (decimal m.event) ≡ true = digits_decimal (numerals_by_value (λ ds. all_ascii_digits ds ≡ true) tells_all_ascii_digits) m.event (ltb-true _ _ (and-left _ _ fits)) in
    let bad : false ≡ true = ap (λ (ws : List (List ℕ)). all_ascii_digits (first_word ws)) is ∙ digits in absurd cc

pub count_is_no_reply : (n : ℕ) → count.fits n ≡ true → reply.read (words_of (line_by count n)) ≡ None
count_is_no_reply n fits = ap reply.read (count_line.words n fits) ∙ none_of _ (λ m e. let h = reply_law.takes (count.spell n) m e in no_reply n m h.0 h.1)
