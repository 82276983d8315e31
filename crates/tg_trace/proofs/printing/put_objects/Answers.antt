use Rattle.tg_trace.proofs.Spaces.{objects_put}
use Rattle.tg_trace.proofs.printing.put_objects.Goals as goal

pub returns : goal.returns
returns c = objects_put _ _ _ _ c.args.oids.now c.in_ok-extend.ensures.ok c.in_ok-put_oids.ensures c.in_ok-push.ensures.ok
