use Rattle.std.proofs.Common.{subst}
use Rattle.std.proofs.lemmas.Result.{err_from_is_err_and}
use Rattle.tg_protocol.specs.Checkpoints.{open_decision}
use Rattle.tg_protocol.specs.Views.{Entries}
use Rattle.tg_play.proofs.Means.{means}
use Rattle.tg_ckpt.specs.Answers.{Closes}
use Rattle.tg_ckpt.proofs.Opening.{forgets_fault, forgets_on}
use Rattle.tg_ckpt.proofs.forgetting.may_forget.Goals as goal

pub returns-in_err-load_from : goal.returns-in_err-load_from
returns-in_err-load_from g c =
    let p = err_from_is_err_and c.from_residual.result c.from_residual.ensures.1 in
    rw (p.1, p.2)
    (forgets_fault (means g.K.Kind g.K.Registry) (Unit {0}) c.args.oid c.args.entries.now c.args.mark c.in_err-load_from.field-0.0 c.in_err-load_from.ensures.told)

pub returns : goal.returns
returns g c =
    forgets_on (means g.K.Kind g.K.Registry) c.args.oid c.args.entries.now c.args.mark _ c.all_decided.result c.in_ok-load_from.ensures.told
    (subst (λ (es : Entries). Closes c.all_decided.result (open_decision es es c.args.oid c.args.mark)) c.as_slice.ensures.entries c.all_decided.ensures)
