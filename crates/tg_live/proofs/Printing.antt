-- What is printed of a live run that is kept.
use Rattle.std.proofs.Common.{◌≡◌, ◌∙◌, ℕ, List, [], ◌∷◌, ◌++◌, map, refl, sym, ap, append_assoc}
use Rattle.std.specs.Prelude.{codes}
use Rattle.tg_base.specs.Clusters.{Header}
use Rattle.tg_replay.specs.Runs.{line_text, transcript}
use Rattle.tg_script.specs.Headers.{header_lines, lines_text}
use Rattle.tg_live.specs.declared.live.Live.{Live as Kept}
use Rattle.tg_live.specs.Lives.{Live}
use Rattle.tg_live.specs.Kept.{Keeps}
use Rattle.tg_live.specs.Sends.{Carried}
use Rattle.tg_live.specs.Scripts.{printed}

lines_append : (xs ys : List (List ℕ)) → lines_text (xs ++ ys) ≡ lines_text xs ++ lines_text ys
lines_append [] ys = refl
lines_append (x ∷ xs) ys = ap (λ (t : List ℕ). x ++ 10 ∷ t) (lines_append xs ys) ∙ sym (append_assoc x (10 ∷ lines_text xs) (lines_text ys))

abbrev pub word : List ℕ
word = codes "transcript" ++ 10 ∷ []

pub printed_text : (h : Header) (first now : Carried) (k : Kept) (l : Live) → Keeps h first now k l → (told : List ℕ) → told ≡ transcript k.cluster l.world
    → ((lines_text (header_lines k.cluster) ++ k.recording) ++ word) ++ told ≡ printed h l
printed_text h first now k l keeps told e =
    ap (λ (t : List ℕ). ((lines_text (header_lines k.cluster) ++ k.recording) ++ word) ++ t) e
    ∙ ap (λ (c : Header). ((lines_text (header_lines c) ++ k.recording) ++ word) ++ transcript c l.world) keeps.cluster
    ∙ ap (λ (r : List ℕ). ((lines_text (header_lines h) ++ r) ++ word) ++ transcript h l.world) keeps.recording
    ∙ ap (λ (t : List ℕ). (t ++ word) ++ transcript h l.world) (sym (lines_append (header_lines h) (map line_text l.lines)))
