-- What a text says: a script and its world, and what a run of it comes to.
use Rattle.std.specs.Prelude.{◌≡◌, ℕ, ◌+◌, ◌-◌, ◌<◌, ◌≤◌, ◌^◌, ◌++◌, List, [], ◌∷◌, length, map, take, nat_le, Bool, true, false, slice_get, Some, None}
use Rattle.tg_base.specs.Clusters.{Header, IsHeader}
use Rattle.tg_base.specs.declared.fault.Which.{Which}
use Rattle.tg_io.specs.declared.status.Status.{Status}
use Rattle.tg_io.specs.declared.status.Status.TheVariants.{Done, Script as AtLine, Limit}
use Rattle.tg_any.specs.Words.{joined as in_a_row}
use Rattle.tg_model.specs.declared.command.Event.TheVariants as event
use Rattle.tg_protocol.specs.Worlds.{World, Ran, ran, start, next_event, drain, settle, unless_stopped, trace, history}
use Rattle.tg_script.specs.Headers.{header_lines}
use Rattle.tg_script.specs.Lines.{line_words, line_fits}
use Rattle.tg_script.specs.declared.line.Line.{Line}
use Rattle.tg_script.specs.declared.line.Line.TheVariants as line
use Rattle.tg_trace.specs.Transcripts.{rendered}
use Rattle.tg_lines.specs.Lines.{lines}
use Rattle.tg_world.specs.Runs.{happens_on, updates_on}
use Rattle.tg_any.specs.AllKinds.{all_kinds}

abbrev pub Worlds : Type 0
Worlds = World all_kinds

abbrev pub Runs : Type 0
Runs = Ran all_kinds

-- What a script says: a cluster, and a line for each event.
pub record Script : Type 0 where
  pub header : Header
  pub events : List Line

-- what a line makes of a world, as far as the limits allow
abbrev pub line_in : Worlds → Line → Runs
line_in w (line.Event e) = happens_on all_kinds w e
line_in w (line.Update k oid op) = updates_on all_kinds w k oid op
line_in w line.Drain = drain all_kinds w
line_in w line.Settle = settle all_kinds w

-- each line is one event
abbrev pub line_on : Worlds → Line → Runs
line_on w l = line_in (next_event all_kinds w) l

unfoldable pub lines_on : List Line → Worlds → Runs
lines_on [] w = ran all_kinds w None
lines_on (l ∷ ls) w = unless_stopped all_kinds (line_on w l) (λ v. lines_on ls v)

-- the run of a script, and the world that it comes to
abbrev pub run_of : Script → Runs
run_of s = lines_on s.events (start all_kinds s.header)

abbrev pub world_of : Script → Worlds
world_of s = (run_of s).world

-- no limit stops it
abbrev pub IsWithin : Script → Type 0
IsWithin s = (run_of s).stopped ≡ None

-- the script that ends before event line k, counted from 0
abbrev pub front : ℕ → Script → Script
front k s = record { header = s.header; events = take k s.events }

-- a packet that is delivered or lost was sent
abbrev pub MayCome : Worlds → Line → Type 0
MayCome w (line.Event (event.Deliver i)) = i < length w.packets
MayCome w (line.Event (event.Lose i)) = i < length w.packets
MayCome w l = Unit {0}

abbrev pub line_text : Line → List ℕ
line_text l = in_a_row (line_words l)

-- the line's fields are within their types, its nodes are declared, and it isn't too long
pub record IsLine (h : Header) (l : Line) : Type 0 where
  pub fits : line_fits h l ≡ true
  pub short : length (line_text l) ≤ 8192

-- each line keeps the grammar, and may come in the world of the lines before it
pub record IsScript (s : Script) : Type 0 where
  pub header : IsHeader s.header
  pub each : (k : ℕ) (l : Line) → slice_get s.events k ≡ Some l → IsLine s.header l
  pub comes : (k : ℕ) (l : Line) → slice_get s.events k ≡ Some l → MayCome (world_of (front k s)) l

abbrev pub text_lines : Script → List (List ℕ)
text_lines s = header_lines s.header ++ map line_text s.events

-- the text is this script's
abbrev pub Tells : List ℕ → Script → Type 0
Tells text s = lines text ≡ text_lines s

-- its first n lines are those of this script
abbrev pub Begins : List ℕ → ℕ → Script → Type 0
Begins text n s = take n (lines text) ≡ take n (text_lines s)

-- fewer than 2^64 event lines
abbrev pub IsCounted : Script → Type 0
IsCounted s = length s.events < 2 ^ 64

-- What is printed of a world: its objects, its replies and its history.
abbrev pub transcript : Header → Worlds → List ℕ
transcript h w = rendered (record { objects = h.objects; trace = trace all_kinds w; history = history all_kinds w })

-- A text that is read to its end, with the transcript of the world of its script.
pub record Replayed (text out : List ℕ) : Type 0 where
  pub script : Script
  pub lawful : IsScript script
  pub within : IsWithin script
  pub counted : IsCounted script
  pub tells : Tells text script
  pub printed : out ≡ transcript script.header (world_of script)

-- Line n is the first outside: a script has the lines before it, and none has these and line n.
pub record FirstOutside (text : List ℕ) (n : ℕ) (before : Script) : Type 0 where
  pub line : 1 ≤ n
  pub lawful : IsScript before
  pub within : IsWithin before
  pub events : length before.events ≡ n - 4
  pub begins : Begins text (n - 1) before
  pub outside : (s : Script) → IsScript s → Begins text n s → ⊥

-- line n is the first outside, after some script
abbrev pub IsOutsideAt : List ℕ → ℕ → Type 0
IsOutsideAt text n = (before : Script) × FirstOutside text n before

-- What is printed where line n is refused: nothing where it is of the header's three, else the transcript of the events before it.
abbrev pub printed_before : Bool → Script → List ℕ
printed_before true s = []
printed_before false s = transcript s.header (world_of s)

pub record Refused (text : List ℕ) (n : ℕ) (out : List ℕ) : Type 0 where
  pub before : Script
  pub first : FirstOutside text n before
  pub counted : IsCounted before
  pub printed : out ≡ printed_before (nat_le n 3) before

-- The text begins with this script, and a limit is reached in the midst of its last line, where another step is asked.
pub record PassesLimit (text : List ℕ) (which : Which) (s : Script) : Type 0 where
  pub lawful : IsScript s
  pub begins : Begins text (3 + length s.events) s
  pub over : (run_of s).stopped ≡ Some which
  pub before : IsWithin (front (length s.events - 1) s)

-- The steps were made as far as the limit.
pub record Limited (text : List ℕ) (which : Which) (out : List ℕ) : Type 0 where
  pub script : Script
  pub passes : PassesLimit text which script
  pub counted : IsCounted script
  pub printed : out ≡ transcript script.header (world_of script)

-- What the status says of the text, and what is printed with it.
abbrev pub Outcome : List ℕ → Status → List ℕ → Type 0
Outcome text Done out = Replayed text out
Outcome text (AtLine n) out = Refused text n out
Outcome text (Limit which) out = Limited text which out
Outcome text _ out = ⊥
