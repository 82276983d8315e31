-- Reading a transcript line by line.
use Rattle.std.specs.Prelude.{◌≡◌, ℕ, suc, ◌<◌, ◌≤◌, ◌-◌, Bool, true, ◌&&◌, ◌==◌, nat_lt, nat_le, List, [], ◌∷◌, ◌++◌, length, map, take, get_or, Option, Some, None, option_map, Result, Ok, Err, if◌then◌else◌}
use Rattle.std.specs.List.{list_all, slice_split}
use Rattle.tg_base.specs.declared.ids.Oid.{Oid}
use Rattle.tg_base.specs.declared.fault.TextFault.{TextFault}
use Rattle.tg_base.specs.declared.fault.TextFault.TheVariants as fault
use Rattle.tg_base.specs.Units.{is_rising}
use Rattle.tg_any.specs.Fronts.{◌>>=◌}
use Rattle.tg_any.specs.AnyWords.{or_other}
use Rattle.tg_trace.specs.declared.transcript.Transcript.{Transcript}
use Rattle.tg_trace.specs.declared.beginning.Beginning.{Beginning}
use Rattle.tg_trace.specs.declared.beginning.Past.{Past}
use Rattle.tg_trace.specs.Lines.{words_of}
use Rattle.tg_trace.specs.Transcripts.{Reply, Entry, objects, reply, entry, count, line_by, stamps, is_transcript, rendered}

-- the pieces of a text between its line feeds: its lines, and last the one that isn't ended, which is empty where there is none
abbrev pub pieces : List ℕ → List (List ℕ)
pieces text = slice_split (λ b. b == 10) text

-- A transcript begins with the line of its objects. Lines of replies follow, then the one that counts the history, and then as many lines of transactions.

abbrev pub past_lines : Option Past → List (List ℕ)
past_lines None = []
past_lines (Some h) = line_by count h.count ∷ map (line_by entry) h.entries

abbrev pub begun_lines : Beginning → List (List ℕ)
begun_lines b = line_by objects b.objects ∷ map (line_by reply) b.trace ++ past_lines b.history

abbrev pub is_past : Option Past → Bool
is_past None = true
is_past (Some h) = count.fits h.count && nat_le (length h.entries) h.count && list_all entry.fits h.entries && is_rising (stamps h.entries)

unfoldable pub is_begun : Beginning → Bool
is_begun b = objects.fits b.objects && list_all reply.fits b.trace && is_past b.history

-- none, or the first lines of a transcript, whatever may follow
pub data IsFront (lines : List (List ℕ)) : Type 0 where
  NoLine : lines ≡ [] → IsFront lines
  Begun : (b : Beginning) → is_begun b ≡ true → lines ≡ begun_lines b → IsFront lines

-- Line n of a text that is no transcript, from 1, is the first that may not follow the lines before it. It may be the one after the last.
pub record IsFirstOutside (text : List ℕ) (n : ℕ) : Type 0 where
  pub before : (m : ℕ) → m < n → IsFront (take m (pieces text))
  pub within : n ≤ length (pieces text)
  pub outside : n < length (pieces text) → IsFront (take n (pieces text)) → ⊥
  pub none : (t : Transcript) → is_transcript t ≡ true → text ≡ rendered t → ⊥

-- what holds of the line that a fault names
abbrev pub OnOutside : {A : Type 0} → Result A TextFault → (ℕ → Type 0) → Type 0
OnOutside (Ok x) P = Unit {0}
OnOutside (Err fault.NoMemory) P = Unit {0}
OnOutside (Err (fault.Outside line)) P = P line

-- One line more.

abbrev pub begin : List Oid → Beginning
begin os = record { objects = os; trace = []; history = None }

abbrev pub with_reply : Beginning → Reply → Beginning
with_reply b m = record { objects = b.objects; trace = b.trace ++ m ∷ []; history = None }

abbrev pub with_count : Beginning → ℕ → Beginning
with_count b n = record { objects = b.objects; trace = b.trace; history = Some (record { count = n; entries = [] }) }

abbrev pub with_entry : Beginning → Past → Entry → Beginning
with_entry b h d = record { objects = b.objects; trace = b.trace; history = Some (record { count = h.count; entries = h.entries ++ d ∷ [] }) }

-- the place is above those so far
abbrev pub is_above : List Entry → ℕ → Bool
is_above [] n = true
is_above (d ∷ []) n = nat_lt d.stamp n
is_above (d ∷ e ∷ ds) n = is_above (e ∷ ds) n

-- the transaction of a line, if it may be the next one
abbrev pub next_entry : Past → List (List ℕ) → Option Entry
next_entry h words = if nat_lt (length h.entries) h.count then (entry.read words >>= λ d. if is_above h.entries d.stamp then Some d else None) else None

abbrev pub after_replies : Beginning → List (List ℕ) → Option Beginning
after_replies b words = or_other (option_map (with_reply b) (reply.read words)) (option_map (with_count b) (count.read words))

abbrev pub step_past : Beginning → Option Past → List (List ℕ) → Option Beginning
step_past b None words = after_replies b words
step_past b (Some h) words = option_map (with_entry b h) (next_entry h words)

abbrev pub step_words : Option Beginning → List (List ℕ) → Option Beginning
step_words None words = option_map begin (objects.read words)
step_words (Some b) words = step_past b b.history words

-- what one more line makes of what was begun
unfoldable pub step : Option Beginning → List ℕ → Option Beginning
step so_far line = step_words so_far (words_of line)

abbrev pub or_stop : ℕ → Option Beginning → (Option Beginning → Result (Option Beginning) ℕ) → Result (Option Beginning) ℕ
or_stop n None go = Err n
or_stop n (Some b) go = go (Some b)

-- what the lines make of it, of which the first is line n, or the number of the first that may not follow
abbrev pub run : ℕ → Option Beginning → List (List ℕ) → Result (Option Beginning) ℕ
run n so_far [] = Ok so_far
run n so_far (line ∷ lines) = or_stop n (step so_far line) (λ next. run (suc n) next lines)

-- the transcript, if it is whole
abbrev pub whole_past : Beginning → Option Past → Option Transcript
whole_past b None = None
whole_past b (Some h) = if length h.entries == h.count then Some (record { objects = b.objects; trace = b.trace; history = h.entries }) else None

abbrev pub whole : Option Beginning → Option Transcript
whole None = None
whole (Some b) = whole_past b b.history

abbrev pub ended : ℕ → Option Transcript → List ℕ → Result Transcript ℕ
ended n (Some t) [] = Ok t
ended n (Some t) (b ∷ rest) = Err n
ended n None rest = Err n

abbrev pub at_end : ℕ → Result (Option Beginning) ℕ → List ℕ → Result Transcript ℕ
at_end n (Ok so_far) rest = ended n (whole so_far) rest
at_end n (Err line) rest = Err line

-- the transcript of these pieces, or the number of its first line outside
unfoldable pub parsed : List (List ℕ) → Result Transcript ℕ
parsed ps = at_end (length ps) (run 1 None (take (length ps - 1) ps)) (get_or ps (length ps - 1) [])

-- what is given, but for want of memory
abbrev pub Parses : {A : Type 0} → Result A TextFault → Result A ℕ → Type 0
Parses (Ok x) r = r ≡ Ok x
Parses (Err fault.NoMemory) r = Unit {0}
Parses (Err (fault.Outside line)) r = r ≡ Err line
