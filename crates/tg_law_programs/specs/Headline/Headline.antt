-- The headline, of every script and of every live run.
use Rattle.std.specs.Prelude.{List}
use Rattle.tg_base.specs.Clusters.{Header}
use Rattle.tg_replay.specs.Runs.{Script, IsScript, world_of}
use Rattle.tg_replay.specs.Headline.{IsReached}
use Rattle.tg_live.specs.Lives.{Answer, Live, LiveRan, IsLived, opened}
use Rattle.tg_live.specs.Scripts.{IsLiveScript}
use Rattle.tg_law_headline.specs.Runs.Runs.{RunHolds}
use Rattle.tg_law_programs.specs.Lives.Lives.{RecordsScript}

-- A run of lawful events comes to the script's world, and what is told there holds.
pub record ScriptHolds (s : Script) : Type 0 where
  pub reached : IsReached s
  pub holds : RunHolds (world_of s)

abbrev pub EachScriptHolds : Type 0
EachScriptHolds = (s : Script) → IsScript s → ScriptHolds s

-- A live run's recording is a script, lawful events lead to the live run's world, which is that script's, and what is told there
-- holds.
pub record LiveHolds (h : Header) (l : Live) : Type 0 where
  pub recorded : RecordsScript h l
  pub holds : RunHolds l.world

-- whatever the link hands over, and wherever a limit stops the run
abbrev pub EachLiveHolds : Type 0
EachLiveHolds = (s : Script) (answers : List Answer) (end : LiveRan) → IsLiveScript s → IsLived s.events answers (opened s.header) end → LiveHolds s.header end.live
