-- The recording of a live run is a script, whose run reaches its world.
use Rattle.tg_live.specs.Headline.{LivesReach}
use Rattle.tg_live.specs.Lives.{goes}
use Rattle.tg_live.specs.Scripts.{recording}
use Rattle.tg_live.proofs.Recording.{run_recorded, run_recording}
use Rattle.tg_law_programs.specs.Lives.Lives.{EachLiveReaches}
use Rattle.tg_law_programs.proofs.Scripts.Reaching.{each_script_reaches}

pub each_live_reaches : EachLiveReaches
each_live_reaches s answers end is lived =
    let r = run_recording s answers end is lived in
    record { script = r.script; world = r.world; reached = each_script_reaches (recording s.header end.live) r.script }

pub live_reaches : LivesReach
live_reaches s answers l is lived =
    let r = run_recorded s answers l is lived in
    record { script = r.script; recorded = r; reached = each_script_reaches (recording s.header l) r.script }
