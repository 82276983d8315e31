use Rattle.tg_world_servers.proofs.servers.is_node.Goals as goal

pub returns : goal.returns
returns c = c.is_same.ensures.value
