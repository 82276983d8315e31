use Rattle.tg_chain.proofs.learn.is_layout_server.Goals as goal

pub returns : goal.returns
returns c = c.is_same.ensures.value
