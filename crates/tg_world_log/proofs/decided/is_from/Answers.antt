use Rattle.tg_world_log.proofs.decided.is_from.Goals as goal

pub returns : goal.returns
returns c = c.is_same.ensures.value
