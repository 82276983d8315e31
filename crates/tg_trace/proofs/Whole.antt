-- A text is read as the transcript that it is, and else the first line outside is the one where reading stops.
use Rattle.std.proofs.Common.{◌≡◌, ◌⊎◌, ℕ, zero, suc, ◌-◌, ◌<◌, ◌≤◌, Bool, true, ◌&&◌, cond, eqb, List, [], ◌∷◌, ◌++◌, length, map, take, get_or, Option, Some, None, Result, Ok, Err, inl, inr, ⊎_elim, sym, refl, subst, ap, ◌∙◌, arith, length-append}
use Rattle.std.specs.Prelude.{MatchResult, IfOk, nat_le}
use Rattle.std.specs.List.{list_all, join_with_byte}
use Rattle.std.proofs.lemmas.Bool.{eqb-true, eq-eqb}
use Rattle.std.proofs.lemmas.Bool.Decides.{nat_tests}
use Rattle.std.proofs.lemmas.List.Splits.{join_with_byte-slice_split, length-slice_split}
use Rattle.std.proofs.Math.Seq.{take-append_seam}
use mathlib.Core.List.{append-nil}
use Rattle.tg_base.specs.declared.ids.Oid.{Oid}
use Rattle.tg_base.specs.Units.{is_rising}
use Rattle.tg_base.specs.declared.fault.TextFault.{TextFault}
use Rattle.tg_base.specs.declared.fault.TextFault.TheVariants as fault
use Rattle.tg_codec.proofs.Laws.{and-left, and-right, both}
use Rattle.tg_any.proofs.Numbers.{when_takes}
use Rattle.tg_trace.specs.declared.transcript.Transcript.{Transcript}
use Rattle.tg_trace.specs.declared.beginning.Beginning.{Beginning}
use Rattle.tg_trace.specs.declared.beginning.Past.{Past}
use Rattle.tg_trace.specs.Transcripts.{Reply, objects, reply, entry, count, line_by, stamps, transcript_lines, text_of, rendered, is_transcript}
use Rattle.tg_trace.specs.Reading.{pieces, is_begun, IsFront, IsFirstOutside, OnOutside, run, whole_past, whole, ended, at_end, parsed, Parses}
use Rattle.tg_trace.proofs.Cuts.{lacks}
use Rattle.tg_trace.proofs.Bytes.{all_append}
use Rattle.tg_trace.proofs.LineForms.{cut_ended, text_is}
use Rattle.tg_trace.proofs.LineWords.{objects_line, count_line, reply_line, entry_line}
use Rattle.tg_trace.proofs.Growing.{IsMore, none_or_more}
use Rattle.tg_trace.proofs.Runs.{Ends, IsRead, run_lines, begun_runs, run_front, Stops, run_stops, ends_is_front, front_ends}

-- The pieces are the lines, and what stands behind the last line feed.

pub record Split (ps : List (List ℕ)) : Type 0 where
  pub lines : List (List ℕ)
  pub last : List ℕ
  pub same : ps ≡ lines ++ last ∷ []

pub split : (ps : List (List ℕ)) → 0 < length ps → Split ps
split ps some = ⊎_elim
    (λ (e : ps ≡ []). let len : length ps ≡ 0 = ap (λ (x : List (List ℕ)). length x) e in absurd (omega (arith, some, len)))
    (λ (h : IsMore ps). record { lines = h.front; last = h.last; same = h.same })
    (none_or_more ps)

length_last : (lines : List (List ℕ)) (last : List ℕ) → length (lines ++ last ∷ []) ≡ suc (length lines)
length_last lines last = omega (arith, length-append lines (last ∷ []))

front_of : (lines : List (List ℕ)) (last : List ℕ) (n : ℕ) → n ≡ length lines → take n (lines ++ last ∷ []) ≡ lines
front_of lines last n e = rw e (take-append_seam lines (last ∷ []))

last_of : (lines : List (List ℕ)) (last : List ℕ) → get_or (lines ++ last ∷ []) (length lines) [] ≡ last
last_of [] last = refl
last_of (l ∷ lines) last = last_of lines last

abbrev pub read_of : List (List ℕ) → List ℕ → Result Transcript ℕ
read_of lines last = at_end (suc (length lines)) (run 1 None lines) last

parsed-step : (ps : List (List ℕ)) (n m : ℕ) (lines : List (List ℕ)) (last : List ℕ) → length ps ≡ n → take m ps ≡ lines → get_or ps m [] ≡ last
    → at_end (length ps) (run 1 None (take m ps)) (get_or ps m []) ≡ at_end n (run 1 None lines) last
parsed-step ps n m lines last e f g = rw (e, f, g) refl

at_last : (lines : List (List ℕ)) (last : List ℕ) (n : ℕ) → n ≡ length lines → get_or (lines ++ last ∷ []) n [] ≡ last
at_last lines last n e = rw e (last_of lines last)

pub parsed_is : (lines : List (List ℕ)) (last : List ℕ) → parsed (lines ++ last ∷ []) ≡ read_of lines last
unfolding parsed
parsed_is lines last =
    let n : length (lines ++ last ∷ []) - 1 ≡ length lines = omega (arith, length_last lines last) in
    parsed-step (lines ++ last ∷ []) (suc (length lines)) (length (lines ++ last ∷ []) - 1) lines last (length_last lines last) (front_of lines last _ n) (at_last lines last _ n)

-- Whole transcripts.

abbrev as_begun : Transcript → Beginning
as_begun t = record { objects = t.objects; trace = t.trace; history = Some (record { count = length t.history; entries = t.history }) }

all_counted : (n : ℕ) → nat_le n n ≡ true
all_counted n = grind (arith, nat_tests)

as_begun_is : (t : Transcript) → is_transcript t ≡ true → is_begun (as_begun t) ≡ true
unfolding is_transcript is_begun
as_begun_is t e =
    let rising = and-right _ _ e in
    let entries = and-right _ _ (and-left _ _ e) in
    let counted = and-right _ _ (and-left _ _ (and-left _ _ e)) in
    both _ _ (and-left _ _ (and-left _ _ (and-left _ _ e))) (both _ _ (both _ _ (both _ _ counted (all_counted (length t.history))) entries) rising)

whole_of : (t : Transcript) → whole (Some (as_begun t)) ≡ Some t
whole_of t = ap (λ (b : Bool). cond b (Some t) None) (eq-eqb (length t.history) (length t.history) refl)

pub record IsWhole (s : Option Beginning) (t : Transcript) : Type 0 where
  pub begun : s ≡ Some (as_begun t)

past_is : (os : List Oid) (ms : List Reply) (h : Option Past) (t : Transcript) → whole_past (record { objects = os; trace = ms; history = h }) h ≡ Some t → IsWhole (Some (record { objects = os; trace = ms; history = h })) t
past_is os ms None t e = absurd cc
past_is os ms (Some p) t e =
    let w = when_takes _ _ _ e in
    let n : length p.entries ≡ p.count = eqb-true _ _ w.0 in
    subst (λ (t : Transcript). IsWhole (Some (record { objects = os; trace = ms; history = Some p })) t) w.1
    (record { begun = ap (λ (n : ℕ). Some (record { objects = os; trace = ms; history = Some (record { count = n; entries = p.entries }) })) (sym n) })

whole_is : (s : Option Beginning) (t : Transcript) → whole s ≡ Some t → IsWhole s t
whole_is None t e = absurd cc
whole_is (Some b) t e = past_is b.objects b.trace b.history t e

begun_is : (t : Transcript) → is_begun (as_begun t) ≡ true → is_transcript t ≡ true
unfolding is_transcript is_begun
begun_is t e =
    let first : (objects.fits t.objects && list_all reply.fits t.trace) ≡ true = and-left _ _ e in
    let past : (count.fits (length t.history) && nat_le (length t.history) (length t.history) && list_all entry.fits t.history && is_rising (stamps t.history)) ≡ true = and-right (objects.fits t.objects && list_all reply.fits t.trace) _ e in
    let entries : (count.fits (length t.history) && nat_le (length t.history) (length t.history) && list_all entry.fits t.history) ≡ true = and-left _ _ past in
    let counted : (count.fits (length t.history) && nat_le (length t.history) (length t.history)) ≡ true = and-left _ _ entries in
    both _ _ (both _ _ (both _ _ first (and-left (count.fits (length t.history)) _ counted)) (and-right (count.fits (length t.history) && nat_le (length t.history) (length t.history)) _ entries))
    (and-right (count.fits (length t.history) && nat_le (length t.history) (length t.history) && list_all entry.fits t.history) _ past)

-- The lines of a transcript have no line feed.

each_single : {A : Type 0} (f : A → List ℕ) (fits : A → Bool) → ((x : A) → fits x ≡ true → lacks 10 (f x) ≡ true) → (xs : List A) → list_all fits xs ≡ true → list_all (lacks 10) (map f xs) ≡ true
each_single f fits single [] e = refl
each_single f fits single (x ∷ xs) e = both _ _ (single x (and-left _ _ e)) (each_single f fits single xs (and-right _ _ e))

lines_single : (t : Transcript) → is_transcript t ≡ true → list_all (lacks 10) (transcript_lines t) ≡ true
unfolding is_transcript
lines_single t e =
    let rest = and-left _ _ e in
    let entries = and-right _ _ rest in
    let counted = and-right _ _ (and-left _ _ rest) in
    let both_first = and-left _ _ (and-left _ _ rest) in
    both _ _ (objects_line.single t.objects (and-left _ _ both_first))
    (all_append (lacks 10) (map (line_by reply) t.trace) (line_by count (length t.history) ∷ map (line_by entry) t.history)
    (each_single (line_by reply) reply.fits reply_line.single t.trace (and-right _ _ both_first))
    (both _ _ (count_line.single (length t.history) counted) (each_single (line_by entry) entry.fits entry_line.single t.history entries)))

pub rendered_pieces : (t : Transcript) → is_transcript t ≡ true → pieces (rendered t) ≡ transcript_lines t ++ [] ∷ []
unfolding rendered
rendered_pieces t e = cut_ended (transcript_lines t) (lines_single t e)

-- What is read.

pub reads_rendered : (t : Transcript) → is_transcript t ≡ true → parsed (pieces (rendered t)) ≡ Ok t
reads_rendered t e =
    let runs : run 1 None (transcript_lines t) ≡ Ok (Some (as_begun t)) = begun_runs (length (transcript_lines t)) (Some (as_begun t)) (transcript_lines t) (omega arith) (as_begun_is t e) refl in
    ap parsed (rendered_pieces t e) ∙ parsed_is (transcript_lines t) []
    ∙ ap (λ (r : Result (Option Beginning) ℕ). at_end (suc (length (transcript_lines t))) r []) runs
    ∙ ap (λ (o : Option Transcript). ended (suc (length (transcript_lines t))) o []) (whole_of t)

pub record IsWritten (text : List ℕ) (t : Transcript) : Type 0 where
  pub is : text ≡ rendered t
  pub lawful : is_transcript t ≡ true

ended_ok : (n : ℕ) (o : Option Transcript) (last : List ℕ) (t : Transcript) → ended n o last ≡ Ok t → (o ≡ Some t) × (last ≡ [])
ended_ok n None last t e = absurd cc
ended_ok n (Some u) (b ∷ last) t e = absurd cc
ended_ok n (Some u) [] t e = let same : u ≡ t = cc in (ap (λ (t : Transcript). Some t) same, refl)

text_pieces : (text : List ℕ) (lines : List (List ℕ)) (last : List ℕ) → pieces text ≡ lines ++ last ∷ [] → text ≡ text_of lines ++ last
text_pieces text lines last e = sym (join_with_byte-slice_split 10 text) ∙ ap (join_with_byte 10) e ∙ text_is lines last

written : (text : List ℕ) (lines : List (List ℕ)) (last : List ℕ) (s : Option Beginning) (t : Transcript) → pieces text ≡ lines ++ last ∷ [] → run 1 None lines ≡ Ok s → ended (suc (length lines)) (whole s) last ≡ Ok t → IsWritten text t
unfolding rendered
written text lines last s t same runs e =
    let h = ended_ok (suc (length lines)) (whole s) last t e in
    let begun = (whole_is s t h.0).begun in
    let ran : IsRead None (Some (as_begun t)) lines = subst (λ (s : Option Beginning). IsRead None s lines) begun (run_lines 1 None s lines refl runs) in
    record {
      is = text_pieces text lines last same ∙ ap (λ (l : List ℕ). text_of lines ++ l) h.1 ∙ append-nil (text_of lines) ∙ ap text_of (sym ran.lines);
      lawful = begun_is t ran.lawful;
    }

ok_or_err : {A : Type 0} (r : Result A ℕ) → ((x : A) × (r ≡ Ok x)) ⊎ ((n : ℕ) × (r ≡ Err n))
ok_or_err (Ok x) = inl (x, refl)
ok_or_err (Err n) = inr (n, refl)

split_text : (text : List ℕ) → Split (pieces text)
split_text text = split (pieces text) (omega (arith, length-slice_split (λ (b : ℕ). eqb b 10) text))

pub read_is : (text : List ℕ) (t : Transcript) → parsed (pieces text) ≡ Ok t → IsWritten text t
read_is text t e =
    let s = split_text text in
    let r : read_of s.lines s.last ≡ Ok t = sym (parsed_is s.lines s.last) ∙ sym (ap parsed s.same) ∙ e in
    ⊎_elim
    (λ (h : (x : Option Beginning) × (run 1 None s.lines ≡ Ok x)).
    written text s.lines s.last h.0 t s.same h.1 (sym (ap (λ (r : Result (Option Beginning) ℕ). at_end (suc (length s.lines)) r s.last) h.1) ∙ r))
    (λ (h : (n : ℕ) × (run 1 None s.lines ≡ Err n)).
    let bad : ◌≡◌ {A = Result Transcript ℕ} (Err h.0) (Ok t) = sym (ap (λ (r : Result (Option Beginning) ℕ). at_end (suc (length s.lines)) r s.last) h.1) ∙ r in absurd cc)
    (ok_or_err (run 1 None s.lines))

-- The first line outside.

ended_err : (n m : ℕ) (o : Option Transcript) (last : List ℕ) → ended n o last ≡ Err m → n ≡ m
ended_err n m None last e = cc
ended_err n m (Some u) (b ∷ last) e = cc
ended_err n m (Some u) [] e = absurd cc

not_rendered : (text : List ℕ) (n : ℕ) → parsed (pieces text) ≡ Err n → (t : Transcript) → is_transcript t ≡ true → text ≡ rendered t → ⊥
not_rendered text n e t lawful is =
    let bad : ◌≡◌ {A = Result Transcript ℕ} (Err n) (Ok t) = sym e ∙ ap (λ (x : List ℕ). parsed (pieces x)) is ∙ reads_rendered t lawful in absurd cc

take_front : (lines : List (List ℕ)) (last : List ℕ) (m : ℕ) → m ≤ length lines → take m (lines ++ last ∷ []) ≡ take m lines
take_front lines last zero few = refl
take_front [] last (suc m) few = absurd (omega (arith, few))
take_front (l ∷ lines) last (suc m) few = ap (λ (x : List (List ℕ)). l ∷ x) (take_front lines last m (omega (arith, few)))

take_twice : (ls : List (List ℕ)) (m n : ℕ) → m ≤ n → take m (take n ls) ≡ take m ls
take_twice ls zero n few = refl
take_twice ls (suc m) zero few = absurd (omega (arith, few))
take_twice [] (suc m) (suc n) few = refl
take_twice (l ∷ ls) (suc m) (suc n) few = ap (λ (x : List (List ℕ)). l ∷ x) (take_twice ls m n (omega (arith, few)))

shorter_ends : (ls : List (List ℕ)) (m n : ℕ) → m ≤ n → Ends 1 None (take n ls) → Ends 1 None (take m ls)
shorter_ends ls m n few h = subst (λ (x : List (List ℕ)). Ends 1 None x) (take_twice ls m n few) (run_front 1 None h.0 (take n ls) m h.1)

-- where all lines are read, but more are wanted
outside_last : (text : List ℕ) (s : Split (pieces text)) (t : Option Beginning) (n : ℕ) → parsed (pieces text) ≡ Err n → run 1 None s.lines ≡ Ok t → suc (length s.lines) ≡ n → IsFirstOutside text n
outside_last text s t n e runs at =
    let len : length (pieces text) ≡ suc (length s.lines) = ap (λ (x : List (List ℕ)). length x) s.same ∙ length_last s.lines s.last in
    record {
      before = λ m less. subst IsFront (sym (ap (take m) s.same ∙ take_front s.lines s.last m (omega (arith, less, at)))) (ends_is_front (take m s.lines) (run_front 1 None t s.lines m runs));
      within = omega (arith, len, at);
      outside = λ less front. omega (arith, len, at, less);
      none = not_rendered text n e;
    }

-- where a line may not follow
outside_line : (text : List ℕ) (s : Split (pieces text)) (n : ℕ) → parsed (pieces text) ≡ Err n → Stops 1 None s.lines n → IsFirstOutside text n
outside_line text s n e h =
    let len : length (pieces text) ≡ suc (length s.lines) = ap (λ (x : List (List ℕ)). length x) s.same ∙ length_last s.lines s.last in
    let at = h.at in
    let within = h.within in
    let same : suc h.before ≡ n = omega (arith, at) in
    record {
      before = λ m less. subst IsFront (sym (ap (take m) s.same ∙ take_front s.lines s.last m (omega (arith, less, at, within)))) (ends_is_front (take m s.lines) (shorter_ends s.lines m h.before (omega (arith, less, at)) h.front));
      within = omega (arith, len, at, within);
      outside = λ less front.
          let lines : take n (pieces text) ≡ take (suc h.before) s.lines = ap (take n) s.same ∙ take_front s.lines s.last n (omega (arith, at, within)) ∙ ap (λ (k : ℕ). take k s.lines) (sym same) in
          let ends = front_ends (take (suc h.before) s.lines) (subst IsFront lines front) in
          let bad : ◌≡◌ {A = Result (Option Beginning) ℕ} (Err n) (Ok ends.0) = sym h.stop ∙ ends.1 in absurd cc;
      none = not_rendered text n e;
    }

pub outside_is : (text : List ℕ) (n : ℕ) → parsed (pieces text) ≡ Err n → IsFirstOutside text n
outside_is text n e =
    let s = split_text text in
    let r : read_of s.lines s.last ≡ Err n = sym (parsed_is s.lines s.last) ∙ sym (ap parsed s.same) ∙ e in
    ⊎_elim
    (λ (h : (x : Option Beginning) × (run 1 None s.lines ≡ Ok x)).
    outside_last text s h.0 n e h.1 (ended_err (suc (length s.lines)) n (whole h.0) s.last (sym (ap (λ (r : Result (Option Beginning) ℕ). at_end (suc (length s.lines)) r s.last) h.1) ∙ r)))
    (λ (h : (m : ℕ) × (run 1 None s.lines ≡ Err m)).
    let same : ◌≡◌ {A = Result Transcript ℕ} (Err h.0) (Err n) = sym (ap (λ (r : Result (Option Beginning) ℕ). at_end (suc (length s.lines)) r s.last) h.1) ∙ r in
    let m : h.0 ≡ n = cc in
    outside_line text s n e (run_stops 1 None s.lines n (h.1 ∙ ap (λ (k : ℕ). Err k) m)))
    (ok_or_err (run 1 None s.lines))

-- What a parse gives.

pub parses_found : (r : Result Transcript TextFault) (text : List ℕ) → Parses r (parsed (pieces text)) → IfOk r (λ t. (text ≡ rendered t) × (is_transcript t ≡ true))
parses_found (Ok t) text h = let w = read_is text t h in (w.is, w.lawful)
parses_found (Err e) text h = tt

pub parses_text : (r : Result Transcript TextFault) (text : List ℕ) → Parses r (parsed (pieces text)) → IfOk r (λ t. text ≡ rendered t)
parses_text (Ok t) text h = (read_is text t h).is
parses_text (Err e) text h = tt

pub parses_only : (r : Result Transcript TextFault) (text : List ℕ) (t : Transcript) → Parses r (parsed (pieces text)) → is_transcript t ≡ true → text ≡ rendered t → MatchResult r (λ x. x ≡ t) (λ e. e ≡ fault.NoMemory)
parses_only (Ok x) text t h lawful is =
    let same : ◌≡◌ {A = Result Transcript ℕ} (Ok x) (Ok t) = sym h ∙ ap (λ (y : List ℕ). parsed (pieces y)) is ∙ reads_rendered t lawful in cc
parses_only (Err fault.NoMemory) text t h lawful is = refl
parses_only (Err (fault.Outside n)) text t h lawful is = absurd (not_rendered text n h t lawful is)

pub parses_outside : (r : Result Transcript TextFault) (text : List ℕ) → Parses r (parsed (pieces text)) → OnOutside r (λ n. IsFirstOutside text n)
parses_outside (Ok t) text h = tt
parses_outside (Err fault.NoMemory) text h = tt
parses_outside (Err (fault.Outside n)) text h = outside_is text n h
