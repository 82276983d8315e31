-- A script of so many lines that the event of a reply has no number in transcripts.
use Rattle.std.proofs.Common.{◌≡◌, ℕ, zero, suc, ◌+◌, List, [], ◌∷◌, Some, None, true, false, refl, sym, ap, ◌∙◌, subst, arith}
use Rattle.std.specs.Prelude.{◌^◌, slice_get}
use Rattle.std.specs.Fmt.{digits}
use Rattle.tg_base.specs.Orders.{node_eq}
use Rattle.tg_protocol.specs.Units.{new_unit}
use Rattle.tg_protocol.specs.Clients.{new_client, tests, refusal}
use Rattle.tg_protocol.specs.ClientSteps.{client_asks, accepts, client_command}
use Rattle.tg_protocol.specs.Logs.{newest, log_of, entries_of, history_of}
use Rattle.tg_protocol.specs.Worlds.{start, latest, log, history, client_turned, happens, limit_of, drain_on, drain}
use Rattle.tg_trace.specs.Transcripts.{is_transcript}
use Rattle.tg_any.specs.AllKinds.{all_kinds}
use Rattle.tg_script.specs.declared.line.Line.{Line}
use Rattle.tg_script.specs.declared.line.Line.TheVariants as line
use Rattle.tg_replay.specs.Runs.{Script, Worlds, Runs, IsLine, IsScript, IsWithin, MayCome, front, lines_on, world_of}
use Rattle.tg_replay.specs.Headline.{told_in}
use Rattle.tg_law_texts.specs.Texts.{cluster, begin, AllTranscriptsFit}
use Rattle.tg_law_texts.proofs.Small.{clash, some_same}
use Rattle.tg_law_texts.proofs.Replays.{header, is_line}

-- so many drains, and then the client begins a transaction
idling : ℕ → List Line
idling zero = begin ∷ []
idling (suc n) = line.Drain ∷ idling n

each : (P : Line → Type 0) → P line.Drain → P begin → (n k : ℕ) (l : Line) → slice_get (idling n) k ≡ Some l → P l
unfolding idling
each P d b zero zero l e = subst P (some_same begin l e) b
each P d b zero (suc k) l e = absurd cc
each P d b (suc n) zero l e = subst P (some_same line.Drain l e) d
each P d b (suc n) (suc k) l e = each P d b n k l e

drain_fits : IsLine cluster line.Drain
drain_fits = record { fits = refl; short = omega arith }

-- the cluster's start, after so many events
abbrev at : ℕ → Worlds
at k = record (start all_kinds cluster) { event = k }

-- a drain counts as an event, and makes no step
idles : (n k : ℕ) → lines_on (idling n) (at k) ≡ lines_on (begin ∷ []) (at (k + n))
unfolding idling lines_on drain drain_on start
idles zero k = let e : k ≡ k + 0 = omega arith in ap (λ (j : ℕ). lines_on (begin ∷ []) (at j)) e
idles (suc n) k = let e : k + 1 + n ≡ k + suc n = omega arith in idles n (k + 1) ∙ ap (λ (j : ℕ). lines_on (begin ∷ []) (at j)) e

idle_script : ℕ → Script
idle_script n = record { header = cluster; events = idling n }

lawful : (n : ℕ) → IsScript (idle_script n)
unfolding idle_script
lawful n = record {
  header = header;
  each = λ k l e. each (IsLine cluster) drain_fits is_line n k l e;
  comes = λ k l e. each (MayCome (world_of (front k (idle_script n)))) tt tt n k l e;
}

from_start : (n : ℕ) → lines_on (idling n) (start all_kinds cluster) ≡ lines_on (begin ∷ []) (at n)
unfolding start
from_start n = let e : 0 + n ≡ n = omega arith in idles n 0 ∙ ap (λ (j : ℕ). lines_on (begin ∷ []) (at j)) e

goes_on : (n : ℕ) → (lines_on (begin ∷ []) (at n)).stopped ≡ None
unfolding lines_on limit_of start happens client_turned
goes_on n = refl

within : (n : ℕ) → IsWithin (idle_script n)
unfolding idle_script
within n = ap (λ (r : Runs). r.stopped) (from_start n) ∙ goes_on n

no_line : is_transcript (told_in cluster (lines_on (begin ∷ []) (at (2 ^ 64))).world) ≡ false
unfolding is_transcript digits lines_on limit_of start happens client_turned client_command refusal tests accepts new_client client_asks history log latest newest log_of entries_of history_of new_unit node_eq
no_line = refl

pub transcripts_want_few_lines : AllTranscriptsFit → ⊥
unfolding idle_script
transcripts_want_few_lines h =
    let fits : is_transcript (told_in cluster (world_of (idle_script (2 ^ 64)))) ≡ true = h (idle_script (2 ^ 64)) (lawful (2 ^ 64)) (within (2 ^ 64)) in
    let moved : is_transcript (told_in cluster (lines_on (begin ∷ []) (at (2 ^ 64))).world) ≡ true = subst (λ (r : Runs). is_transcript (told_in cluster r.world) ≡ true) (from_start (2 ^ 64)) fits in
    clash (sym moved ∙ no_line)
