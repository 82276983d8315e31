-- Of a script nothing else is a true replay than the transcript of its world; and scripts that reach nothing.
use Rattle.std.proofs.Common.{◌≡◌, ℕ, ◌≤◌, List, [], ◌∷◌, ◌++◌, length, map, take, drop, Some, None, refl, sym, ap, ◌∙◌, subst, arith}
use Rattle.std.specs.Prelude.{false, codes, slice_index_or, slice_get}
use Rattle.std.specs.Fmt.{digits}
use Rattle.tg_base.specs.Clusters.{Header, IsHeader}
use Rattle.tg_any.specs.Decimals.{number_in}
use Rattle.tg_any.specs.Fronts.{after}
use Rattle.tg_script.specs.Headers.{header_lines}
use Rattle.tg_script.specs.Lines.{line_read, short_read}
use Rattle.tg_script.specs.declared.line.Line.{Line}
use Rattle.tg_script.proofs.Clusters.{same_header}
use Rattle.tg_script.proofs.EventLines.{line_only}
use Rattle.tg_base.specs.Orders.{node_eq}
use Rattle.tg_protocol.specs.Units.{new_unit}
use Rattle.tg_protocol.specs.Clients.{new_client, tests, refusal}
use Rattle.tg_protocol.specs.ClientSteps.{client_asks, accepts, client_command}
use Rattle.tg_protocol.specs.Logs.{newest, log_of, entries_of, history_of}
use Rattle.tg_protocol.specs.Worlds.{start, latest, log, history, client_turned, happens, limit_of}
use Rattle.tg_trace.specs.Transcripts.{is_transcript}
use Rattle.tg_lines.specs.Lines.{lines}
use Rattle.tg_replay.specs.Runs.{Script, Worlds, IsLine, IsScript, Tells, line_text, text_lines, lines_on, world_of}
use Rattle.tg_replay.specs.Runs as replays
use Rattle.tg_replay.specs.Headline.{IsReached, TrueReplay, told_in}
use Rattle.tg_replay.proofs.Exact.{told_once, head_same}
use Rattle.tg_law_texts.specs.Texts.{cluster, begins, begins_nowhere, late_reply, script, script_of_a_stranger, transcript_text, another_reply, no_reply, adds, adding_script, adding_transcript, another_op, no_history}
use Rattle.tg_law_texts.proofs.Adding.{adding_lawful, adding_tells, added_is, adding_printed}
use Rattle.tg_law_texts.proofs.Replays.{header, lawful, world_is, tells, printed}

of_script : (text : List ℕ) (s : Script) → IsScript s → Tells text s → (out : List ℕ) → TrueReplay text out → out ≡ replays.transcript s.header (world_of s)
of_script text s is t out h =
    let r = h.replayed in
    r.printed ∙ ap (λ (s : Script). replays.transcript s.header (world_of s)) (told_once text r.script s r.lawful is r.tells t)

only_transcript : (out : List ℕ) → TrueReplay script out → out ≡ transcript_text
only_transcript out h = of_script script begins lawful tells out h ∙ ap (λ (w : Worlds). replays.transcript cluster w) world_is ∙ sym printed

pub another_isnt : TrueReplay script another_reply → ⊥
another_isnt h =
    let e : 50 ≡ 49 = ap (λ (xs : List ℕ). slice_index_or xs 18 0) (only_transcript another_reply h) in
    absurd (omega (arith, e))

pub none_isnt : TrueReplay script no_reply → ⊥
none_isnt h =
    let e : 23 ≡ 36 = ap length (only_transcript no_reply h) in
    absurd (omega (arith, e))

only_adding : (out : List ℕ) → TrueReplay adding_script out → out ≡ adding_transcript
only_adding out h = of_script adding_script adds adding_lawful adding_tells out h ∙ ap (λ (w : Worlds). replays.transcript cluster w) added_is ∙ sym adding_printed

pub another_op_isnt : TrueReplay adding_script another_op → ⊥
another_op_isnt h =
    let e : 54 ≡ 53 = ap (λ (xs : List ℕ). slice_index_or xs 104 0) (only_adding another_op h) in
    absurd (omega (arith, e))

pub no_history_isnt : TrueReplay adding_script no_history → ⊥
no_history_isnt h =
    let e : 88 ≡ 106 = ap length (only_adding no_history h) in
    absurd (omega (arith, e))

-- A line of an undeclared client is none.

abbrev stranger : List ℕ
stranger = codes "c1 begin"

stranger_lines : lines script_of_a_stranger ≡ header_lines cluster ++ stranger ∷ []
unfolding digits
stranger_lines = refl

no_line : short_read cluster stranger ≡ None
unfolding line_read after number_in digits
no_line = refl

not_its_line : (l : Line) → IsLine cluster l → stranger ≡ line_text l → ⊥
not_its_line l is e =
    let read : short_read cluster stranger ≡ Some l = line_only cluster header stranger l (record { spelled = e; fits = is.fits; short = subst (λ (t : List ℕ). length t ≤ 8192) (sym e) is.short }) in
    let none : None ≡ Some l = sym no_line ∙ read in
    absurd cc

first_line : (h : Header) (ls : List Line) → ((k : ℕ) (l : Line) → slice_get ls k ≡ Some l → IsLine h l) → cluster ≡ h → stranger ∷ [] ≡ map line_text ls → ⊥
first_line h [] each same e = absurd cc
first_line h (l ∷ ls) each same e = not_its_line l (subst (λ (g : Header). IsLine g l) (sym same) (each 0 l refl)) (head_same stranger (line_text l) [] (map line_text ls) e).0

not_a_script : (s : Script) → IsScript s → Tells script_of_a_stranger s → ⊥
not_a_script s is t =
    let e : header_lines cluster ++ stranger ∷ [] ≡ text_lines s = sym stranger_lines ∙ t in
    let first : header_lines cluster ≡ header_lines s.header = ap (λ (ls : List (List ℕ)). take 3 ls) e in
    let rest : stranger ∷ [] ≡ map line_text s.events = ap (λ (ls : List (List ℕ)). drop 3 ls) e in
    first_line s.header s.events is.each (same_header cluster s.header header is.header (header_lines cluster) refl first) rest

pub stranger_isnt : (out : List ℕ) → TrueReplay script_of_a_stranger out → ⊥
stranger_isnt out h = not_a_script h.replayed.script h.replayed.lawful h.replayed.tells

-- What reaches nothing, and what has no line.

pub nowhere_isnt : IsReached begins_nowhere → ⊥
nowhere_isnt h = let e : IsHeader begins_nowhere.header = h.reaches.header in absurd cc

pub late_isnt : is_transcript (told_in cluster late_reply) ≡ false
unfolding is_transcript digits lines_on limit_of start happens client_turned client_command refusal tests accepts new_client client_asks history log latest newest log_of entries_of history_of new_unit node_eq
late_isnt = refl
