use Rattle.std.proofs.Common.{Some, None}
use Rattle.tg_model.specs.declared.trace.What.TheVariants as what
use Rattle.tg_play.proofs.Means.{means}
use Rattle.tg_client_answers.proofs.TellingTx.{fate_trimmed}
use Rattle.tg_client_answers.proofs.fate.unless_trimmed.Goals as goal

pub returns-in-None : goal.returns-in-None
returns-in-None g c = λ d w e. fate_trimmed (means g.K.Kind g.K.Registry) d w c.args.at (what.Fate c.args.at c.args.yes) c.args.trims.now None e c.in-None.ensures

pub returns-in-Some : goal.returns-in-Some
returns-in-Some g c = λ d w e. fate_trimmed (means g.K.Kind g.K.Registry) d w c.args.at (what.Fate c.args.at c.args.yes) c.args.trims.now (Some c.in-Some.below) e c.in-Some.ensures
