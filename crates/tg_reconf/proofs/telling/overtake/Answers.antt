use Rattle.std.proofs.Common.{◌≡◌, ap, subst}
use Rattle.tg_base.specs.Layouts.{Layout}
use Rattle.tg_protocol.specs.Requests.{ends}
use Rattle.tg_protocol.specs.Reconfiguring.{Overtaken}
use Rattle.tg_reconf.specs.Turns.{shown, by_reconf}
use Rattle.tg_reconf.proofs.telling.overtake.Goals as goal

pub returns : goal.returns
returns c = λ n. subst (λ e. shown c.end.result n ≡ by_reconf n (ends n (Overtaken e c.args.proj))) (ap (λ (q : Layout). q.epoch) c.proj.view_is) (c.end.ensures n)
