use Rattle.tg_script.proofs.Spaces.{on_ok, objects_written}
use Rattle.tg_script.proofs.header_text.put_objects.Goals as goal

pub returns : goal.returns
returns c = on_ok c.push.result _ _ c.push.ensures.ok (λ f. objects_written _ _ _ _ c.args.objects.now c.in_ok-extend.ensures.ok c.in_ok-put_each.ensures f)
