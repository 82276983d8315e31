-- The headline of a live run: its recording is a script, whose run reaches a world that holds.
use Rattle.std.specs.Prelude.{List, ℕ}
use Rattle.tg_base.specs.Clusters.{Header}
use Rattle.tg_replay.specs.Runs.{Script, IsScript}
use Rattle.tg_replay.specs.Headline.{IsReached, IsTrueRun}
use Rattle.tg_live.specs.Lives.{Answer, Live, IsLived, opened, goes}
use Rattle.tg_live.specs.Scripts.{Over, IsLiveScript, IsRecorded, Replayed, recording}

-- the recording is a script, whose run ends within the limits in the live run's world
pub record IsScripted (h : Header) (l : Live) : Type 0 where
  pub script : IsScript (recording h l)
  pub recorded : IsRecorded h l
  pub reached : IsReached (recording h l)

-- whatever the link hands over
abbrev pub LivesReach : Type 0
LivesReach = (s : Script) (answers : List Answer) (l : Live) → IsLiveScript s → IsLived s.events answers (opened s.header) (goes l) → IsScripted s.header l

-- a text that was run to its end: its recording is a script, of whose run the headline holds
pub record TrueLive (o : Over) (text out : List ℕ) : Type 0 where
  pub replayed : Replayed o text out
  pub script : IsScript (recording replayed.script.header replayed.end)
  pub true_run : IsTrueRun (recording replayed.script.header replayed.end)
