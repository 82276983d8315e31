use Rattle.std.proofs.Common.{[], ◌∷◌, ◌++◌, ap, ◌∙◌}
use Rattle.tg_base.specs.Changes.{Changed}
use Rattle.tg_model.specs.declared.command.Command.TheVariants as cmd
use Rattle.tg_script.specs.declared.line.Line.TheVariants as line
use Rattle.tg_gen.specs.Loads.{given, reconf, text}
use Rattle.tg_gen.proofs.Texts.{on_two}
use Rattle.tg_gen.proofs.load.put_reconf.Goals as goal

pub returns : goal.returns
returns c =
    on_two c.put_settle.result c.args.out.now c.put_given.new.out c.put_settle.new.out (reconf ∷ []) (line.Settle ∷ [])
    (c.in_ok-put_given.ensures ∙ ap (λ (ch : Changed). c.args.out.now ++ text (given 0 (cmd.Reconf ch) ∷ [])) c.in_ok-change.ensures) c.put_settle.ensures
