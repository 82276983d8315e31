-- The headline of a replay: the script's run reaches a world that holds, and its transcript is written.
use Rattle.std.specs.Prelude.{◌≡◌, ◌<◌, ◌^◌, true, List, length, ℕ}
use Rattle.tg_base.specs.Clusters.{Header}
use Rattle.tg_protocol.specs.Worlds.{trace, history}
use Rattle.tg_protocol.specs.Runs.{Moves, Reaches}
use Rattle.tg_protocol.specs.Headline.{Holds}
use Rattle.tg_trace.specs.Transcripts.{is_transcript}
use Rattle.tg_trace.specs.declared.transcript.Transcript.{Transcript}
use Rattle.tg_any.specs.AllKinds.{all_kinds}
use Rattle.tg_replay.specs.Runs.{Script, Worlds, IsScript, IsWithin, Replayed, world_of}

-- the run of a script reaches its world
pub record IsReached (s : Script) : Type 0 where
  pub moves : Moves all_kinds
  pub reaches : Reaches all_kinds s.header moves (world_of s)

abbrev pub ScriptsReach : Type 0
ScriptsReach = (s : Script) → IsScript s → IsWithin s → IsReached s

-- the objects, the replies and the history of a world keep the grammar of transcripts, so an audit reads them as they are
abbrev pub told_in : Header → Worlds → Transcript
told_in h w = record { objects = h.objects; trace = trace all_kinds w; history = history all_kinds w }

-- (A reply tells the number of its event, which has 64 bits in a transcript, and a drain of nothing takes no step.)
abbrev pub TranscriptsFit : Type 0
TranscriptsFit = (s : Script) → IsScript s → IsWithin s → length s.events < 2 ^ 64 → is_transcript (told_in s.header (world_of s)) ≡ true

-- The headline: the script's run reaches its world, and what is told in it holds.
pub record IsTrueRun (s : Script) : Type 0 where
  pub reached : IsReached s
  pub holds : Holds all_kinds (world_of s)

-- a text that was replayed to its end, by a run of which the headline holds
pub record TrueReplay (text out : List ℕ) : Type 0 where
  pub replayed : Replayed text out
  pub true_run : IsTrueRun replayed.script
