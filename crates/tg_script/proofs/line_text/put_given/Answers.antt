use Rattle.std.proofs.Common.{◌∷◌}
use Rattle.std.specs.Fmt.{decimal}
use Rattle.tg_script.specs.Commands.{command_words}
use Rattle.tg_script.proofs.EventLines.{command_some}
use Rattle.tg_script.proofs.Spaces.{on_ok, front_one, written_behind}
use Rattle.tg_script.proofs.line_text.put_given.Goals as goal

pub returns : goal.returns
returns c =
    on_ok c.put_command.result _ _ c.put_command.ensures (λ g. written_behind _ _ _ _ _ _ _ c.in_ok-put_member.ensures c.in_ok-push.ensures.ok g
    (front_one (99 ∷ decimal c.args.client) (command_words c.args.cmd.now) (command_some c.args.cmd.now)))
