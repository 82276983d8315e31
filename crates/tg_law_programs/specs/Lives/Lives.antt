-- Live runs, whether a limit stops them or not.
use Rattle.std.specs.Prelude.{◌≡◌, List}
use Rattle.tg_base.specs.Clusters.{Header}
use Rattle.tg_replay.specs.Runs.{Script, IsScript, world_of}
use Rattle.tg_replay.specs.Headline.{IsReached}
use Rattle.tg_live.specs.Lives.{Answer, Live, LiveRan, IsLived, opened}
use Rattle.tg_live.specs.Scripts.{IsLiveScript, recording}

-- the recording is a script, whose run comes to the live run's world
pub record RecordsScript (h : Header) (l : Live) : Type 0 where
  pub script : IsScript (recording h l)
  pub world : world_of (recording h l) ≡ l.world
  pub reached : IsReached (recording h l)

-- whatever the link hands over, and wherever a limit stops the run
abbrev pub EachLiveReaches : Type 0
EachLiveReaches = (s : Script) (answers : List Answer) (end : LiveRan) → IsLiveScript s → IsLived s.events answers (opened s.header) end → RecordsScript s.header end.live
