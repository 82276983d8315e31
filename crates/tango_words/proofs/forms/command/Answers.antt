use Rattle.tango_words.proofs.Matched.{added}
use Rattle.tango_words.proofs.forms.command.Goals as goal

pub returns : goal.returns
returns c =
    let replay = added _ _ _ _ _ c.in_ok-subcommand.ensures c.new.ensures.local c.top.ensures c.new.ensures.app in
    let live = added _ _ _ _ _ c.in_ok-subcommand-2.ensures c.new-2.ensures.local replay c.new-2.ensures.app in
    let node = added _ _ _ _ _ c.in_ok-subcommand-3.ensures c.in_ok-node_command.ensures.local live c.in_ok-node_command.ensures.app in
    let bench = added _ _ _ _ _ c.in_ok-subcommand-4.ensures c.in_ok-bench_command.ensures.local node c.in_ok-bench_command.ensures.app in
    added _ _ _ _ _ c.in_ok-command.ensures c.new-3.ensures.local bench c.new-3.ensures.app
