-- Texts are cut into lines, and lines put together again.
use Rattle.std.proofs.Common.{◌≡◌, ℕ, ◌<◌, List, [], ◌∷◌, ◌++◌, length, take, sym, refl, ap, ◌∙◌, arith}
use Rattle.std.specs.List.{join_with_byte}
use Rattle.std.specs.Borrow.{Bor}
use Rattle.std.proofs.lemmas.List.{map-append}
use Rattle.std.proofs.lemmas.List.Splits.{join_with_byte-slice_split}
use Rattle.std.proofs.Math.Seq.{take-append_seam}
use mathlib.Core.List.{append-nil, append_assoc}
use Rattle.tg_any.specs.Words.{texts}
use Rattle.tg_script.specs.Headers.{lines_text}
use Rattle.tests_texts.specs.Texts.{pieces, last_piece, unless_empty, whole_lines, lines_of, closed_lines, missing_feed, closed}

-- Cutting.

whole_last : (lines : List (List ℕ)) (last : List ℕ) → whole_lines (lines ++ last ∷ []) ≡ lines ++ unless_empty last
whole_last [] last = refl
whole_last (l ∷ []) last = refl
whole_last (l ∷ m ∷ lines) last = ap (λ (x : List (List ℕ)). l ∷ x) (whole_last (m ∷ lines) last)

whole_texts : (ps lines : List (Bor (List ℕ))) (last : Bor (List ℕ)) → ps ≡ lines ++ last ∷ [] → whole_lines (texts ps) ≡ texts lines ++ unless_empty last.now
whole_texts ps lines last e =
    ap (λ (x : List (Bor (List ℕ))). whole_lines (texts x)) e ∙ ap whole_lines (map-append (λ (w : Bor (List ℕ)). w.now) lines (last ∷ [])) ∙ whole_last (texts lines) last.now

nothing : (x : List ℕ) → length x ≡ 0 → x ≡ []
nothing [] e = refl
nothing (b ∷ bs) e = absurd (omega (arith, e))

take_all : (ps : List (Bor (List ℕ))) → take (length ps) ps ≡ ps
take_all [] = refl
take_all (p ∷ ps) = ap (λ (x : List (Bor (List ℕ))). p ∷ x) (take_all ps)

-- an empty last piece is no line
pub count_front : (ps lines : List (Bor (List ℕ))) (last : Bor (List ℕ)) (n : ℕ) → ps ≡ lines ++ last ∷ [] → n ≡ length lines → length last.now ≡ 0 → texts (take n ps) ≡ whole_lines (texts ps)
count_front ps lines last n e len none =
    ap (λ (x : List (Bor (List ℕ))). texts x) (ap (λ (k : ℕ). take k ps) len ∙ ap (take (length lines)) e ∙ take-append_seam lines (last ∷ []))
    ∙ sym (whole_texts ps lines last e ∙ ap (λ (x : List ℕ). texts lines ++ unless_empty x) (nothing last.now none) ∙ append-nil (texts lines))

some_line : (x : List ℕ) → 0 < length x → unless_empty x ≡ x ∷ []
some_line [] some = absurd (omega (arith, some))
some_line (b ∷ bs) some = refl

-- any other is one
pub count_all : (ps lines : List (Bor (List ℕ))) (last : Bor (List ℕ)) (n : ℕ) → ps ≡ lines ++ last ∷ [] → n ≡ length ps → 0 < length last.now → texts (take n ps) ≡ whole_lines (texts ps)
count_all ps lines last n e len some =
    ap (λ (k : ℕ). texts (take k ps)) len ∙ ap (λ (x : List (Bor (List ℕ))). texts x) (take_all ps)
    ∙ ap (λ (x : List (Bor (List ℕ))). texts x) e ∙ map-append (λ (w : Bor (List ℕ)). w.now) lines (last ∷ []) ∙ ap (λ (x : List (List ℕ)). texts lines ++ x) (sym (some_line last.now some)) ∙ sym (whole_texts ps lines last e)

-- Printing.

closed_pieces : (ps : List (List ℕ)) → closed_lines (whole_lines ps) ≡ join_with_byte 10 ps ++ missing_feed (last_piece ps)
closed_pieces [] = refl
closed_pieces ([] ∷ []) = refl
closed_pieces ((b ∷ bs) ∷ []) = append-nil ((b ∷ bs) ++ 10 ∷ [])
closed_pieces (p ∷ q ∷ ps) =
    ap (λ (x : List ℕ). (p ++ 10 ∷ []) ++ x) (closed_pieces (q ∷ ps)) ∙ append_assoc p (10 ∷ []) (join_with_byte 10 (q ∷ ps) ++ missing_feed (last_piece (q ∷ ps)))
    ∙ sym (append_assoc p (10 ∷ join_with_byte 10 (q ∷ ps)) (missing_feed (last_piece (q ∷ ps))))

-- the lines of a text are the text again
pub closed_text : (text : List ℕ) → closed_lines (lines_of text) ≡ closed text
closed_text text = closed_pieces (pieces text) ∙ ap (λ (x : List ℕ). x ++ missing_feed (last_piece (pieces text))) (join_with_byte-slice_split 10 text)

pub lines_closed : (lines : List (List ℕ)) → lines_text lines ≡ closed_lines lines
lines_closed [] = refl
lines_closed (l ∷ lines) = ap (λ (x : List ℕ). l ++ 10 ∷ x) (lines_closed lines) ∙ sym (append_assoc l (10 ∷ []) (closed_lines lines))
