-- What is printed of scripts and transcripts, and which are refused.
use Rattle.std.proofs.Common.{◌≡◌, ℕ, ◌+◌, ◌<◌, ◌≤◌, List, [], ◌∷◌, ◌++◌, length, take, drop, get_or, add-one, drop-cons, Result, Ok, Err, sym, subst, ap, ◌∙◌}
use Rattle.std.proofs.Math.ListN.{drop_of_length-le}
use mathlib.Core.List.{append_assoc, append-nil}
use Rattle.std.specs.Prelude.{IfOk, MatchResult}
use Rattle.std.specs.List.{flat_map}
use Rattle.std.specs.Borrow.{Bor}
use Rattle.std.proofs.lemmas.Grind.{flat_map-append}
use Rattle.std.proofs.lemmas.List.{take-append-drop}
use Rattle.std.proofs.lemmas.List.Folds.{flat_map-map}
use Rattle.tg_base.specs.Clusters.{Header, IsHeader}
use Rattle.tg_base.specs.declared.fault.TextFault.{TextFault}
use Rattle.tg_base.specs.declared.fault.TextFault.TheVariants as fault
use Rattle.tg_any.specs.Words.{texts}
use Rattle.tg_script.specs.Headers.{header_lines, lines_text, OnOutside}
use Rattle.tests_texts.specs.Texts.{IsEventLine, AreEventLines, AreScript, Prints, lines_of, closed_lines}
use Rattle.tests_texts.specs.declared.form.Form.TheVariants as form
use Rattle.tests_texts.proofs.Closing.{lines_closed, closed_text}

-- Lines of events.

-- a line with its line feed
abbrev pub closed_word : Bor (List ℕ) → List ℕ
closed_word w = w.now ++ 10 ∷ []

pub words_closed : (words : List (Bor (List ℕ))) → flat_map closed_word words ≡ closed_lines (texts words)
words_closed words = sym (flat_map-map (λ (line : List ℕ). line ++ 10 ∷ []) (λ (w : Bor (List ℕ)). w.now) words)

front_at : (words : List (Bor (List ℕ))) (i : ℕ) (w : Bor (List ℕ)) → i < length words → drop i words ≡ get_or words i w ∷ drop (i + 1) words
front_at words i w lt = rw add-one (drop-cons words i w lt)

-- one line more
pub prints_on : (out new total : List ℕ) (words : List (Bor (List ℕ))) (i : ℕ) (w : Bor (List ℕ)) → i < length words → new ≡ out ++ ((get_or words i w).now ++ 10 ∷ [])
    → out ++ flat_map closed_word (drop i words) ≡ total → new ++ flat_map closed_word (drop (i + 1) words) ≡ total
prints_on out new total words i w lt printed so_far =
    ap (λ (x : List ℕ). x ++ flat_map closed_word (drop (i + 1) words)) printed ∙ append_assoc out (closed_word (get_or words i w)) (flat_map closed_word (drop (i + 1) words))
    ∙ ap (λ (x : List (Bor (List ℕ))). out ++ flat_map closed_word x) (sym (front_at words i w lt)) ∙ so_far

-- the lines are events where those from the i-th are
abbrev pub Others : Header → List (Bor (List ℕ)) → ℕ → Type 0
Others h words i = (AreEventLines h (texts words) → AreEventLines h (texts (drop i words))) × (AreEventLines h (texts (drop i words)) → AreEventLines h (texts words))

pub others_on : (h : Header) (words : List (Bor (List ℕ))) (i : ℕ) (w : Bor (List ℕ)) → i < length words → IsEventLine h (get_or words i w).now → Others h words i → Others h words (i + 1)
others_on h words i w lt event so_far =
    let front : drop i words ≡ get_or words i w ∷ drop (i + 1) words = front_at words i w lt in
    let all_on : AreEventLines h (texts words) → AreEventLines h (texts (drop (i + 1) words)) = λ all. (subst (λ (x : List (Bor (List ℕ))). AreEventLines h (texts x)) front (so_far.0 all)).1 in
    let on_all : AreEventLines h (texts (drop (i + 1) words)) → AreEventLines h (texts words) = λ rest. so_far.1 (subst (λ (x : List (Bor (List ℕ))). AreEventLines h (texts x)) (sym front) (event, rest)) in
    (all_on, on_all)

pub others_end : (h : Header) (words : List (Bor (List ℕ))) (i : ℕ) → length words ≤ i → Others h words i → AreEventLines h (texts words)
others_end h words i le so_far = so_far.1 (subst (λ (x : List (Bor (List ℕ))). AreEventLines h (texts x)) (sym (drop_of_length-le words le)) tt)

pub others_stop : (h : Header) (words : List (Bor (List ℕ))) (i : ℕ) (w : Bor (List ℕ)) → i < length words → (IsEventLine h (get_or words i w).now → ⊥) → Others h words i → AreEventLines h (texts words) → ⊥
others_stop h words i w lt none so_far all = none (subst (λ (x : List (Bor (List ℕ))). AreEventLines h (texts x)) (front_at words i w lt) (so_far.0 all)).0

pub prints_end : (out before : List ℕ) (words : List (Bor (List ℕ))) (i : ℕ) → length words ≤ i → out ++ flat_map closed_word (drop i words) ≡ before ++ flat_map closed_word words → out ≡ before ++ closed_lines (texts words)
prints_end out before words i le so_far =
    sym (append-nil out) ∙ ap (λ (x : List (Bor (List ℕ))). out ++ flat_map closed_word x) (sym (drop_of_length-le words le)) ∙ so_far ∙ ap (λ (x : List ℕ). before ++ x) (words_closed words)

-- Scripts.

-- the first three lines of a script are its header's
front_is : (lines events : List (List ℕ)) (h : Header) → lines ≡ header_lines h ++ events → take 3 lines ≡ header_lines h
front_is lines events h e = ap (take 3) e

rest_is : (lines events : List (List ℕ)) (h : Header) → lines ≡ header_lines h ++ events → drop 3 lines ≡ events
rest_is lines events h e = ap (drop 3) e

pub script_is : (lines : List (List ℕ)) (h : Header) → IsHeader h → take 3 lines ≡ header_lines h → AreEventLines h (drop 3 lines) → AreScript lines
script_is lines h lawful e each = record {
  header = h;
  lawful = lawful;
  events = drop 3 lines;
  same = sym (take-append-drop 3 lines) ∙ ap (λ (x : List (List ℕ)). x ++ drop 3 lines) e;
  each = each;
}

pub script_printed : (lines : List (List ℕ)) (h : Header) → take 3 lines ≡ header_lines h → lines_text (header_lines h) ++ closed_lines (drop 3 lines) ≡ closed_lines lines
script_printed lines h e =
    ap (λ (x : List ℕ). x ++ closed_lines (drop 3 lines)) (lines_closed (header_lines h) ∙ ap closed_lines (sym e))
    ∙ sym (flat_map-append (λ (line : List ℕ). line ++ 10 ∷ []) (take 3 lines) (drop 3 lines)) ∙ ap closed_lines (take-append-drop 3 lines)

-- what a header's lines declare
abbrev pub Declares : List (List ℕ) → Result Header TextFault → Type 0
Declares lines r = (h : Header) → IsHeader h → lines ≡ header_lines h → MatchResult r (λ c. c ≡ h) (λ e. e ≡ fault.NoMemory)

-- where an event is outside
pub event_refused : (lines : List (List ℕ)) (h : Header) (e : TextFault) → Declares (take 3 lines) (Ok h) → OnOutside {A = Unit {0}} (Err e) (λ _. AreEventLines h (drop 3 lines) → ⊥) → OnOutside {A = List ℕ} (Err e) (λ _. AreScript lines → ⊥)
event_refused lines h fault.NoMemory only bad = tt
event_refused lines h (fault.Outside n) only bad = λ s.
    let same : h ≡ s.header = only s.header s.lawful (front_is lines s.events s.header s.same) in
    bad (subst (λ (c : Header). AreEventLines c (drop 3 lines)) (sym same) (subst (AreEventLines s.header) (sym (rest_is lines s.events s.header s.same)) s.each))

pub script_prints : (text : List ℕ) (lines : List (List ℕ)) (r : Result (List ℕ) TextFault) → lines ≡ lines_of text → IfOk r (λ _. AreScript lines) → IfOk r (λ out. out ≡ closed_lines lines) → OnOutside r (λ _. AreScript lines → ⊥) → Prints form.Script text r
script_prints text lines (Ok out) e is printed bad = (subst AreScript e is, printed ∙ ap closed_lines e ∙ closed_text text)
script_prints text lines (Err fault.NoMemory) e is printed bad = tt
script_prints text lines (Err (fault.Outside n)) e is printed bad = λ s. bad (subst AreScript (sym e) s)
