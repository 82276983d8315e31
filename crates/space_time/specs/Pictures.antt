-- What a picture says of a run, apart from how it looks, and what is written.
use Rattle.std.specs.Prelude.{◌≡◌, ◌⊎◌, ℕ, List, [], ◌∷◌, ◌++◌, map, reverse, length, slice_get, Option, Some, None}
use Rattle.std.specs.List.{flat_map}
use Rattle.tg_base.specs.Clusters.{Header}
use Rattle.tg_base.specs.declared.packet.Packet.{Packet}
use Rattle.tg_io.specs.declared.status.Status.{Status}
use Rattle.tg_picture.specs.Bands.{bands}
use Rattle.tg_picture.specs.Courses.{courses}
use Rattle.tg_picture.specs.Elements.{IsDrawn}
use Rattle.tg_picture.specs.Replies.{tellings}
use Rattle.tg_picture.specs.Standings.{decided, gone_below, said, said_of}
use Rattle.tg_picture.specs.declared.picture.Picture.{Picture}
use Rattle.tg_picture.specs.declared.picture.Arrow.{Arrow}
use Rattle.tg_picture.specs.declared.picture.Reply.{Reply}
use Rattle.tg_picture.specs.declared.steps.Step.{Step}
use Rattle.tg_picture.specs.declared.telling.Telling.{Telling}
use Rattle.tg_picture.specs.declared.ways.Course.{Course}
use Rattle.tg_picture.specs.declared.ways.Ending.{Ending}
use Rattle.tg_picture.specs.declared.ways.Ending.TheVariants.{Lost}
use Rattle.tg_protocol.specs.Layouts.{first_layout}
use Rattle.tg_protocol.specs.Runs.{run as along}
use Rattle.tg_protocol.specs.Worlds.{start, trace, log, history}
use Rattle.tg_trace.specs.Transcripts as transcripts
use Rattle.tg_trace.specs.Transcripts.{reply_text}
use Rattle.tg_any.specs.AllKinds.{all_kinds}
use Rattle.tg_replay.specs.Runs.{Script, Worlds, Outcome, world_of}
use Rattle.tg_replay.specs.Stages.{EndsAt}
use Rattle.space_time.specs.Cuts.{drawn}
use Rattle.space_time.specs.Records.{Moves, steps_from, lines_of}
use Rattle.space_time.specs.declared.cut.Cut.{Cut}

abbrev pub copied : Option Packet → List Packet
copied None = []
copied (Some p) = p ∷ []

abbrev pub course_of : Arrow → Course
course_of a = a.course

-- the mark of a reply: its step, its client, and its line in the transcript
abbrev pub mark_of : Telling → Option transcripts.Reply → List Reply
mark_of t None = []
mark_of t (Some r) = record { step = t.step; client = r.client; line = reply_text r } ∷ []

unfoldable pub marks : List Telling → List transcripts.Reply → List Reply
marks [] rs = []
marks (t ∷ ts) rs = mark_of t (slice_get rs t.reply) ++ marks ts rs

-- A picture of the steps of a run from one on and below another, and of the world that the run has come to: one arrow for each
-- delivery and each loss in these steps, in their order; one mark for each reply that was told in them, in their order; a band
-- for each seal and each new epoch in them; and one box for each position of the log.
pub record Draws (h : Header) (ss : List Step) (from upto : ℕ) (w : Worlds) (p : Picture) : Type 0 where
  pub arrows : map course_of p.arrows ≡ courses w.packets ss from upto
  pub replies : p.replies ≡ marks (tellings ss from upto) (trace all_kinds w)
  pub bands : p.bands ≡ bands (first_layout h) h.layouts w.packets ss from upto
  pub boxes : map said p.boxes ≡ map (said_of (history all_kinds w) (decided (log all_kinds w)) (gone_below w.packets)) (log all_kinds w)

-- the steps that the cut leaves
abbrev pub Says : Header → List Step → Cut → Worlds → Picture → Type 0
Says h ss c w p = Draws h ss (drawn c ss).0 (drawn c ss).1 w p

-- What all the steps of a run have.

-- the packet of a course, unless it was lost
abbrev pub unless_lost : Ending → ℕ → List ℕ
unless_lost Lost i = []
unless_lost ending i = i ∷ []

-- the packets that came, by their courses
abbrev pub came : List Course → List ℕ
came cs = flat_map (λ (c : Course). unless_lost c.ending c.packet) cs

-- In all steps together there is a course for each delivery of the run, in the order in which the packets came, and a mark for
-- each reply, in their order.
pub record AreWhole (ss : List Step) (w : Worlds) : Type 0 where
  pub deliveries : came (courses w.packets ss 0 (length ss)) ≡ reverse w.delivered
  pub replies : map (λ (r : Reply). r.line) (marks (tellings ss 0 (length ss)) (trace all_kinds w)) ≡ map reply_text (trace all_kinds w)

-- Two worlds that are the same but for what their clients have in hand.
abbrev pub AreAlike : Worlds → Worlds → Type 0
AreAlike w v = record w { clients = v.clients } ≡ v

-- The run of a script: moves of its event lines that come to its world.
pub record IsRunOf (s : Script) (ms : Moves) : Type 0 where
  pub world : AreAlike (along all_kinds ms (start all_kinds s.header)) (world_of s)
  pub lines : lines_of ms ≡ length s.events

abbrev pub steps_of : Script → Moves → List Step
steps_of s ms = steps_from 0 ms (start all_kinds s.header)

-- A text that is a picture of a script's run.
pub record Shows (s : Script) (c : Cut) (out : List ℕ) : Type 0 where
  pub moves : Moves
  pub run : IsRunOf s moves
  pub whole : AreWhole (steps_of s moves) (world_of s)
  pub picture : Picture
  pub says : Says s.header (steps_of s moves) c (world_of s) picture
  pub drawn : IsDrawn picture out

-- What is written with a status: the picture of the run that a replay of the text ends in, or nothing where it prints nothing,
-- since no header is read.
abbrev pub IsPictured : Cut → Status → List ℕ → List ℕ → Type 0
IsPictured c status text out = ((s : Script) × EndsAt text status s × Shows s c out) ⊎ (Outcome text status [] × (out ≡ []))
