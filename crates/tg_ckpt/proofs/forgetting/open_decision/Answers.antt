use Rattle.tg_ckpt.proofs.forgetting.open_decision.Goals as goal

pub returns : goal.returns
returns c = c.first_open.ensures c.args.entries.now c.in_ok-decisions.ensures
