use Rattle.std.proofs.Common.{Some, None}
use Rattle.tg_play.proofs.Means.{means}
use Rattle.tg_play.specs.Relations.{told_verdict}
use Rattle.tg_client_answers.proofs.TellingTx.{fate_found, fate_judged}
use Rattle.tg_client_answers.proofs.fate.fate_in.Goals as goal

pub returns-in-None : goal.returns-in-None
returns-in-None g c = λ d w v hk e. fate_found (means g.K.Kind g.K.Registry) d w c.args.entries.now v c.args.at None _ (c.unless_trimmed.ensures d w e) c.in-None.ensures

pub returns-in-Some : goal.returns-in-Some
returns-in-Some g c = λ d w v hk e. fate_found (means g.K.Kind g.K.Registry) d w c.args.entries.now v c.args.at (Some c.in-Some.entry.now) _ (fate_judged (means g.K.Kind g.K.Registry) d w c.args.entries.now v c.args.at c.in-Some.entry.now (told_verdict c.verdict.result) _ (c.fate_of.ensures d w e) (c.verdict.ensures v hk)) c.in-Some.ensures
