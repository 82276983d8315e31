-- Scripts of a live run: what a text says, and what a run of it comes to.
use Rattle.std.specs.Prelude.{◌≡◌, ℕ, ◌+◌, ◌-◌, ◌≤◌, ◌++◌, codes, List, [], ◌∷◌, length, map, nat_le, Bool, true, false, slice_get, Option, Some}
use Rattle.tg_base.specs.Clusters.{Header, IsHeader}
use Rattle.tg_base.specs.declared.fault.Which.{Which}
use Rattle.tg_io.specs.Bytes.{Grows}
use Rattle.tg_io.specs.declared.status.Status.{Status}
use Rattle.tg_io.specs.declared.status.Status.TheVariants.{Done, Script as AtLine, Limit}
use Rattle.tg_model.specs.declared.command.Event.TheVariants as event
use Rattle.tg_replay.specs.Runs.{Script, IsLine, IsScript, IsWithin, Tells, Begins, text_lines, transcript, world_of}
use Rattle.tg_script.specs.Headers.{lines_text}
use Rattle.tg_script.specs.declared.line.Line.{Line}
use Rattle.tg_script.specs.declared.line.Line.TheVariants as line
use Rattle.tg_live.specs.Sends.{Carried, sending}
use Rattle.tg_live.specs.Lives.{Answer, Live, LiveRan, IsLived, opened, goes}

-- it delivers or loses a packet by number
abbrev pub is_delivery : Line → Bool
is_delivery (line.Event (event.Deliver i)) = true
is_delivery (line.Event (event.Lose i)) = true
is_delivery l = false

pub record IsLiveLine (h : Header) (l : Line) : Type 0 where
  pub line : IsLine h l
  pub free : is_delivery l ≡ false

-- each line keeps the grammar, and none delivers or loses a packet
pub record IsLiveScript (s : Script) : Type 0 where
  pub header : IsHeader s.header
  pub each : (k : ℕ) (l : Line) → slice_get s.events k ≡ Some l → IsLiveLine s.header l

-- the script that was recorded
abbrev pub recording : Header → Live → Script
recording h l = record { header = h; events = l.lines }

-- What is printed of a live run: the recording, the line `transcript`, and the transcript of its world.
abbrev pub printed : Header → Live → List ℕ
printed h l = lines_text (text_lines (recording h l)) ++ (codes "transcript" ++ 10 ∷ []) ++ transcript h l.world

-- A live run of a script over a link: it takes the answers by which what the link handed over has grown, in order; what
-- the link was sent has grown by the packets of its world; and sends and answers lie in the order of the run, in which a
-- packet goes out when its step is made.
pub record IsRunOver (s : Script) (end : LiveRan) (handed handed_after : Option (List Answer)) (before after : Carried) : Type 0 where
  pub answers : List Answer
  pub lived : IsLived s.events answers (opened s.header) end
  pub took : Grows handed answers handed_after
  pub sends : Grows before.sent (map sending end.live.world.packets) after.sent
  pub acts : Grows before.acts end.live.acts after.acts

-- The recording is a script, whose world is the live run's.
pub record IsRecording (h : Header) (l : Live) : Type 0 where
  pub script : IsScript (recording h l)
  pub world : world_of (recording h l) ≡ l.world

-- And no limit stops it, so a replay of it prints the same transcript.
pub record IsRecorded (h : Header) (l : Live) : Type 0 where
  pub script : IsScript (recording h l)
  pub world : world_of (recording h l) ≡ l.world
  pub within : IsWithin (recording h l)

-- What a link tells before a run and after it: the answers that it handed, and what was done with it.
pub record Over : Type 0 where
  pub handed : Option (List Answer)
  pub handed_after : Option (List Answer)
  pub carried : Carried
  pub carried_after : Carried

abbrev pub RunsOver : Over → Script → LiveRan → Type 0
RunsOver o s end = IsRunOver s end o.handed o.handed_after o.carried o.carried_after

-- A text that is read to its end: a live run of its script that no limit stops, whose recording is printed.
pub record Replayed (o : Over) (text out : List ℕ) : Type 0 where
  pub script : Script
  pub lawful : IsLiveScript script
  pub tells : Tells text script
  pub end : Live
  pub run : RunsOver o script (goes end)
  pub recorded : IsRecorded script.header end
  pub printed : out ≡ printed script.header end

-- Line n is the first outside: a script has the lines before it, and none has these and line n.
pub record FirstOutside (text : List ℕ) (n : ℕ) (before : Script) : Type 0 where
  pub line : 1 ≤ n
  pub lawful : IsLiveScript before
  pub events : length before.events ≡ n - 4
  pub begins : Begins text (n - 1) before
  pub outside : (s : Script) → IsLiveScript s → Begins text n s → ⊥

-- line n is the first outside, after some script
abbrev pub IsOutsideAt : List ℕ → ℕ → Type 0
IsOutsideAt text n = (before : Script) × FirstOutside text n before

-- What is printed where line n is refused: nothing where it is of the header's three, else the live run of the lines before it.
abbrev pub PrintedBefore : Bool → Over → Script → List ℕ → Type 0
PrintedBefore true o s out = (out ≡ []) × Grows o.carried.sent [] o.carried_after.sent × Grows o.handed [] o.handed_after × Grows o.carried.acts [] o.carried_after.acts
PrintedBefore false o s out = (end : Live) × RunsOver o s (goes end) × IsRecorded s.header end × (out ≡ printed s.header end)

pub record Refused (o : Over) (text : List ℕ) (n : ℕ) (out : List ℕ) : Type 0 where
  pub before : Script
  pub first : FirstOutside text n before
  pub printed : PrintedBefore (nat_le n 3) o before out

-- The text begins with this script, and a limit is reached in the midst of its last line, where another step or another
-- datagram is asked for. The steps were made as far as the limit.
pub record Limited (o : Over) (text : List ℕ) (which : Which) (out : List ℕ) : Type 0 where
  pub script : Script
  pub lawful : IsLiveScript script
  pub begins : Begins text (3 + length script.events) script
  pub end : LiveRan
  pub over : end.stopped ≡ Some which
  pub run : RunsOver o script end
  pub recorded : IsRecording script.header end.live
  pub printed : out ≡ printed script.header end.live

-- A text passes a limit, with the answers that the link handed over: it begins with a script in whose last line, by a live
-- run that takes these answers, another step or another datagram is asked for than the limits allow.
pub record PassesLimit (o : Over) (text : List ℕ) (which : Which) : Type 0 where
  pub script : Script
  pub lawful : IsLiveScript script
  pub begins : Begins text (3 + length script.events) script
  pub end : LiveRan
  pub over : end.stopped ≡ Some which
  pub answers : List Answer
  pub lived : IsLived script.events answers (opened script.header) end
  pub took : Grows o.handed answers o.handed_after

abbrev pub PassesNone : Over → List ℕ → Type 0
PassesNone o text = (which : Which) → PassesLimit o text which → ⊥

-- What the status says of the text, and what is printed with it.
abbrev pub Outcome : Over → List ℕ → Status → List ℕ → Type 0
Outcome o text Done out = Replayed o text out
Outcome o text (AtLine n) out = Refused o text n out
Outcome o text (Limit which) out = Limited o text which out
Outcome o text _ out = ⊥
