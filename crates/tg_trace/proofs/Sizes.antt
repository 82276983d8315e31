-- A transcript has fewer replies and entries than its text has bytes.
use Rattle.std.proofs.Common.{◌≡◌, ℕ, ◌+◌, ◌^◌, ◌<◌, ◌≤◌, List, [], ◌∷◌, ◌++◌, map, length, codes, Result, Ok, Err, refl, subst, arith}
use Rattle.std.specs.Prelude.{IfOk}
use Rattle.std.proofs.lemmas.List.{length-append, length-map}
use Rattle.tg_base.specs.declared.fault.TextFault.{TextFault}
use Rattle.tg_base.specs.declared.ids.Oid.{Oid}
use Rattle.tg_any.specs.Words.{object}
use Rattle.tg_trace.specs.declared.transcript.Transcript.{Transcript}
use Rattle.tg_trace.specs.Lines.{spaced}
use Rattle.tg_trace.specs.Transcripts.{objects, reply, entry, count, line_by, transcript_lines, text_of, rendered}

-- a text has a byte at least for each of its lines
lines_within : (ls : List (List ℕ)) → length ls ≤ length (text_of ls)
lines_within [] = omega arith
lines_within (l ∷ ls) =
    let both = length-append (l ++ 10 ∷ []) (text_of ls) in
    let one = length-append l (10 ∷ []) in
    let rest = lines_within ls in
    omega (arith, both, one, rest)

-- and one more where its first line isn't empty
first_within : (l : List ℕ) (ls : List (List ℕ)) → 1 ≤ length l → length (l ∷ ls) + 1 ≤ length (text_of (l ∷ ls))
first_within l ls some =
    let both = length-append (l ++ 10 ∷ []) (text_of ls) in
    let one = length-append l (10 ∷ []) in
    let rest = lines_within ls in
    omega (arith, both, one, rest, some)

objects_some : (os : List Oid) → 1 ≤ length (line_by objects os)
objects_some os =
    let named : length (line_by objects os) ≡ length (codes "objects") + length (spaced (map object.spell os)) = length-append (codes "objects") (spaced (map object.spell os)) in
    let seven : length (codes "objects") ≡ 7 = refl in
    omega (arith, named, seven)

lines_many : (t : Transcript) → length (transcript_lines t) ≡ length t.trace + length t.history + 2
lines_many t =
    let both = length-append (line_by objects t.objects ∷ map (line_by reply) t.trace) (line_by count (length t.history) ∷ map (line_by entry) t.history) in
    let replies = length-map t.trace (line_by reply) in
    let entries = length-map t.history (line_by entry) in
    omega (arith, both, replies, entries)

pub rendered_within : (t : Transcript) → length t.trace + length t.history + 3 ≤ length (rendered t)
unfolding rendered
rendered_within t =
    let many = lines_many t in
    let within = first_within (line_by objects t.objects) (map (line_by reply) t.trace ++ line_by count (length t.history) ∷ map (line_by entry) t.history) (objects_some t.objects) in
    omega (arith, many, within)

-- so its lines have numbers of 64 bits
pub lines_numbered : (text : List ℕ) (r : Result Transcript TextFault) → length text < 2 ^ 64 → IfOk r (λ t. text ≡ rendered t) → IfOk r (λ t. length t.trace + length t.history + 3 < 2 ^ 64)
lines_numbered text (Err e) short h = tt
lines_numbered text (Ok t) short h =
    let within = rendered_within t in
    let long : length (rendered t) < 2 ^ 64 = subst (λ (ls : List ℕ). length ls < 2 ^ 64) h short in
    omega (arith, within, long)
