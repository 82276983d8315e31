-- Texts, and what is printed of them.
use Rattle.std.specs.Prelude.{◌≡◌, ℕ, ◌==◌, true, List, [], ◌∷◌, ◌++◌, codes, Option, Some, None, Result, Ok, Err, if◌then◌else◌}
use Rattle.std.specs.List.{flat_map, slice_split}
use Rattle.std.specs.Str.{bytes_eq}
use Rattle.tg_base.specs.Clusters.{Header, IsHeader}
use Rattle.tg_base.specs.declared.fault.TextFault.{TextFault}
use Rattle.tg_base.specs.declared.fault.TextFault.TheVariants as text_fault
use Rattle.tg_io.specs.Bytes.{Takes}
use Rattle.tg_script.specs.declared.line.Line.{Line}
use Rattle.tg_script.specs.Headers.{header_lines}
use Rattle.tg_script.specs.Lines.{IsLine}
use Rattle.tg_trace.specs.declared.transcript.Transcript.{Transcript}
use Rattle.tg_trace.specs.Transcripts.{is_transcript, rendered, reply_text}
use Rattle.tests_texts.specs.declared.fault.Fault.{Fault}
use Rattle.tests_texts.specs.declared.fault.Fault.TheVariants as fault
use Rattle.tests_texts.specs.declared.form.Form.{Form}
use Rattle.tests_texts.specs.declared.form.Form.TheVariants as form

abbrev pub form_named : List ℕ → Option Form
form_named word =
    if bytes_eq word (codes "script") then Some form.Script
    else if bytes_eq word (codes "transcript") then Some form.Transcript
    else if bytes_eq word (codes "replies") then Some form.Replies
    else None

abbrev pub fault_of : TextFault → Fault
fault_of (text_fault.Outside line) = fault.Outside line
fault_of text_fault.NoMemory = fault.NoMemory

-- Lines.

-- the pieces of a text between its line feeds
abbrev pub pieces : List ℕ → List (List ℕ)
pieces text = slice_split (λ b. b == 10) text

-- what stands behind the last line feed
abbrev pub last_piece : List (List ℕ) → List ℕ
last_piece [] = []
last_piece (p ∷ []) = p
last_piece (p ∷ q ∷ ps) = last_piece (q ∷ ps)

-- what is no line where it is empty
abbrev pub unless_empty : List ℕ → List (List ℕ)
unless_empty [] = []
unless_empty (b ∷ bs) = (b ∷ bs) ∷ []

abbrev pub whole_lines : List (List ℕ) → List (List ℕ)
whole_lines [] = []
whole_lines (p ∷ []) = unless_empty p
whole_lines (p ∷ q ∷ ps) = p ∷ whole_lines (q ∷ ps)

-- the lines of a text, without their line feeds, which the last may lack
abbrev pub lines_of : List ℕ → List (List ℕ)
lines_of text = whole_lines (pieces text)

-- lines, each with its line feed
abbrev pub closed_lines : List (List ℕ) → List ℕ
closed_lines lines = flat_map (λ line. line ++ 10 ∷ []) lines

abbrev pub missing_feed : List ℕ → List ℕ
missing_feed [] = []
missing_feed (b ∷ bs) = 10 ∷ []

-- the text, with the line feed that its last line may lack
abbrev pub closed : List ℕ → List ℕ
closed text = text ++ missing_feed (last_piece (pieces text))

-- Texts.

abbrev pub IsEventLine : Header → List ℕ → Type 0
IsEventLine h line = (l : Line) × IsLine h line l

abbrev pub AreEventLines : Header → List (List ℕ) → Type 0
AreEventLines h [] = Unit {0}
AreEventLines h (line ∷ lines) = IsEventLine h line × AreEventLines h lines

-- the three lines of a header, and then lines of events
pub record AreScript (lines : List (List ℕ)) : Type 0 where
  pub header : Header
  pub lawful : IsHeader header
  pub events : List (List ℕ)
  pub same : lines ≡ header_lines header ++ events
  pub each : AreEventLines header events

abbrev pub IsScript : List ℕ → Type 0
IsScript text = AreScript (lines_of text)

-- a text is this transcript, as it is printed
pub record IsTranscriptOf (text : List ℕ) (t : Transcript) : Type 0 where
  pub lawful : is_transcript t ≡ true
  pub printed : text ≡ rendered t

abbrev pub IsTranscript : List ℕ → Type 0
IsTranscript text = (t : Transcript) × IsTranscriptOf text t

abbrev pub IsOf : Form → List ℕ → Type 0
IsOf form.Script text = IsScript text
IsOf form.Transcript text = IsTranscript text
IsOf form.Replies text = IsTranscript text

-- What is printed of a text.

abbrev pub IsPrinted : Form → List ℕ → List ℕ → Type 0
IsPrinted form.Script text out = IsScript text × (out ≡ closed text)
IsPrinted form.Transcript text out = IsTranscript text × (out ≡ text)
IsPrinted form.Replies text out = (t : Transcript) × IsTranscriptOf text t × (out ≡ flat_map reply_text t.trace)

-- a text is refused only where it isn't of the form
abbrev pub Prints : Form → List ℕ → Result (List ℕ) TextFault → Type 0
Prints form text (Ok out) = IsPrinted form text out
Prints form text (Err text_fault.NoMemory) = Unit {0}
Prints form text (Err (text_fault.Outside line)) = IsOf form text → ⊥

-- Where the source tells its text: what was added to the sink's bytes, as far as the sink tells them, has P.
abbrev pub Told : Option (List ℕ) → Option (List ℕ) → Option (List ℕ) → (List ℕ → List ℕ → Type 0) → Type 0
Told (Some text) before after P = (out : List ℕ) × Takes before out after × P text out
Told None before after P = Unit {0}
