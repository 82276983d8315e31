-- Every script and every live run holds.
use Rattle.std.proofs.Common.{subst}
use Rattle.tg_replay.specs.Runs.{world_of}
use Rattle.tg_live.specs.Scripts.{recording}
use Rattle.tg_law_headline.specs.Runs.Runs.{RunHolds}
use Rattle.tg_law_headline.proofs.Runs.Holding.{runs_hold}
use Rattle.tg_law_programs.specs.Headline.Headline.{EachScriptHolds, EachLiveHolds}
use Rattle.tg_law_programs.proofs.Scripts.Reaching.{each_script_reaches}
use Rattle.tg_law_programs.proofs.Lives.Recording.{each_live_reaches}

pub scripts_hold : EachScriptHolds
scripts_hold s is = let r = each_script_reaches s is in record { reached = r; holds = runs_hold s.header r.moves (world_of s) r.reaches }

pub lives_hold : EachLiveHolds
lives_hold s answers end is lived =
    let r = each_live_reaches s answers end is lived in
    record { recorded = r; holds = subst RunHolds r.world (runs_hold s.header r.reached.moves (world_of (recording s.header end.live)) r.reached.reaches) }
