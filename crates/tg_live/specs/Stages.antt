-- What reading has found of a text: the lines so far, their live run, and how it ended.
use Rattle.std.specs.Prelude.{◌≡◌, ℕ, ◌+◌, ◌++◌, List, [], ◌∷◌, length, take, Option, Some, None}
use Rattle.tg_base.specs.Clusters.{Header}
use Rattle.tg_base.specs.declared.fault.Which.{Which}
use Rattle.tg_io.specs.Bytes.{Grows}
use Rattle.tg_io.specs.declared.status.Status.{Status}
use Rattle.tg_lines.specs.Feeds.{TakesFeeds}
use Rattle.tg_lines.specs.Lines.{lines}
use Rattle.tg_replay.specs.Runs.{Script, front, text_lines}
use Rattle.tg_replay.specs.Stages.{status_of}
use Rattle.tg_replay.specs.declared.stages.End.TheVariants.{Outside, Limited}
use Rattle.tg_live.specs.declared.live.Live.{Live as Kept}
use Rattle.tg_live.specs.declared.live.Went.{Went}
use Rattle.tg_live.specs.declared.stages.Running.{Running}
use Rattle.tg_live.specs.declared.stages.Finish.{Finish}
use Rattle.tg_live.specs.declared.stages.Fed.{Fed}
use Rattle.tg_live.specs.declared.stages.Fed.TheVariants.{Goes, Stops}
use Rattle.tg_live.specs.Lives.{Answer, Live, IsLived, opened, goes}
use Rattle.tg_live.specs.Kept.{IsSound, Keeps}
use Rattle.tg_live.specs.Sends.{Carried}
use Rattle.tg_live.specs.Scripts.{Over, Outcome, IsLiveScript, printed}

-- A live run of the lines that were read: their script, which no other has in these lines.
pub record IsRunOf (o : Over) (read : List (List ℕ)) (r : Running) (s : Script) : Type 0 where
  pub lawful : IsLiveScript s
  pub lines : read ≡ text_lines s
  pub count : r.lines ≡ length s.events
  pub answers : List Answer
  pub live : Live
  pub lived : IsLived s.events answers (opened s.header) (goes live)
  pub took : Grows o.handed answers o.handed_after
  pub kept : Keeps s.header o.carried o.carried_after r.live live
  pub only : (t : Script) → IsLiveScript t → take (length read) (text_lines t) ≡ read → front (length s.events) t ≡ s

-- The lines of the text that were read are those of a run's script; the rest is still to come.
pub record Reads (o : Over) (text : List ℕ) (r : Running) (rest : List ℕ) : Type 0 where
  pub read : List (List ℕ)
  pub script : Script
  pub run : IsRunOf o read r script
  pub cut : lines text ≡ read ++ lines rest
  pub feeds : TakesFeeds (length read) (Some text) (Some rest)

-- how a text has ended: nothing is printed of no run, else the live run that is kept so
abbrev pub Ends : Over → List ℕ → Status → Option Kept → Type 0
Ends o text status None = Outcome o text status []
Ends o text status (Some k) = (h : Header) × (l : Live) × Keeps h o.carried o.carried_after k l × Outcome o text status (printed h l)

abbrev pub Finished : Over → List ℕ → Finish → Type 0
Finished o text f = Ends o text (status_of f.end) f.live

-- What comes of the lines that were read: reading goes on, or it has ended.
abbrev pub Took : Over → List ℕ → List (List ℕ) → Fed → Type 0
Took o text read (Goes r) = (s : Script) × IsRunOf o read r s
Took o text read (Stops f) = Finished o text f

-- the next event line is outside, after this run
abbrev pub IsOutside : Running → Fed → Type 0
IsOutside r (Stops f) = (f.end ≡ Outside (4 + r.lines)) × (f.live ≡ Some r.live)
IsOutside r (Goes q) = ⊥

-- a live run after one line more: it goes on, or a limit has stopped it
abbrev pub IsAfter : Running → Went → Fed → Type 0
IsAfter r w (Goes q) = (w.stopped ≡ None) × (q ≡ record { live = w.live; lines = r.lines + 1 })
IsAfter r w (Stops f) = (which : Which) × (w.stopped ≡ Some which) × (f.end ≡ Limited which) × (f.live ≡ Some w.live)

-- the world of a run that goes on is kept of a world of the definitions
abbrev pub GoesOnKept : Fed → Type 0
GoesOnKept (Goes q) = IsSound q.live.world q.live.recording
GoesOnKept (Stops f) = Unit {0}

-- a run that goes on has one line more
abbrev pub CountsOn : ℕ → Fed → Type 0
CountsOn n (Goes q) = q.lines ≡ n + 1
CountsOn n (Stops f) = Unit {0}

-- Line by line.

abbrev pub Handed : Type 0
Handed = Option (List Answer)

-- what a link tells before a run and after it
abbrev pub over : Handed → Handed → Carried → Carried → Over
over handed handed_after before after = record { handed = handed; handed_after = handed_after; carried = before; carried_after = after }

-- One run was read up to a rest of a text, and goes on to another up to a later rest, as far as the source tells its text.
abbrev pub StillReads : Option (List ℕ) → Option (List ℕ) → Running → Running → Handed → Handed → Carried → Carried → Type 0
StillReads (Some before) (Some rest) r q a b c d = (handed : Handed) (first : Carried) (text : List ℕ) → Reads (over handed a first c) text r before → Reads (over handed b first d) text q rest
StillReads (Some before) None r q a b c d = ⊥
StillReads None rest r q a b c d = Unit {0}

-- what feeding a line to a run comes to
abbrev pub Feeds : Running → List ℕ → Handed → Handed → Carried → Carried → Fed → Type 0
Feeds r line a b c d f = (handed : Handed) (first : Carried) (text : List ℕ) (read more : List (List ℕ)) (s : Script) → lines text ≡ read ++ line ∷ more → IsRunOf (over handed a first c) read r s → Took (over handed b first d) text (read ++ line ∷ []) f

-- how a text ends whose run was read up to a rest
abbrev pub EndsSo : Running → List ℕ → Handed → Handed → Carried → Carried → Finish → Type 0
EndsSo r rest a b c d f = (handed : Handed) (first : Carried) (text : List ℕ) → Reads (over handed a first c) text r rest → Finished (over handed b first d) text f
