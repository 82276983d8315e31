use Rattle.tg_kind.specs.Texts.{text_is_part}
use Rattle.tg_dir.proofs.directory.scope.Goals as goal

pub returns-clause-lawful : goal.returns-clause-lawful
returns-clause-lawful c = text_is_part c.args.name.now c.as_str.ensures.known
