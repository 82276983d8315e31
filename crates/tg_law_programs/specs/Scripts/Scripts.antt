-- Scripts, whether a limit stops them or not.
use Rattle.tg_replay.specs.Runs.{Script, IsScript}
use Rattle.tg_replay.specs.Headline.{IsReached}

abbrev pub EachScriptReaches : Type 0
EachScriptReaches = (s : Script) → IsScript s → IsReached s
