use Rattle.std.proofs.Common.{refl}
use Rattle.tg_trace.proofs.Spaces.{rendered_put}
use Rattle.tg_trace.proofs.printing.render.Goals as goal

pub returns : goal.returns
returns c =
    rendered_put _ _ _ _ _ _ c.args.objects.now c.args.trace.now c.args.history.now c.new-text.ensures c.in_ok-put_objects.ensures c.in_ok-put_trace.ensures refl c.in_ok-put_count.ensures
    c.in_ok-put_history.ensures
