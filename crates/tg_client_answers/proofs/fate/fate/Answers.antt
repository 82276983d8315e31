use Rattle.std.proofs.Common.{Some, None, refl, sym, ◌∙◌}
use Rattle.tg_play.proofs.Means.{means}
use Rattle.tg_client_answers.proofs.TellingTx.{fate_kept}
use Rattle.tg_client_answers.proofs.fate.fate.Goals as goal

pub returns-in-None : goal.returns-in-None
returns-in-None g c = λ d w v hk e. fate_kept (means g.K.Kind g.K.Registry) d w c.args.entries.now v c.args.at None _ (c.fate_in.ensures d w v hk e) (sym c.in-None.is ∙ c.fate.ensures v hk)

pub returns-in-Some : goal.returns-in-Some
returns-in-Some g c = λ d w v hk e. fate_kept (means g.K.Kind g.K.Registry) d w c.args.entries.now v c.args.at (Some c.in-Some.yes) _ refl (sym c.in-Some.is ∙ c.fate.ensures v hk)
