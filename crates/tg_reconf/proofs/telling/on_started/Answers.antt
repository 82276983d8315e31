use Rattle.std.proofs.Common.{◌≡◌, subst}
use Rattle.tg_protocol.specs.Requests.{ends}
use Rattle.tg_protocol.specs.Reconfiguring.{Installed, reconf_latest}
use Rattle.tg_reconf.specs.Turns.{shown, by_reconf}
use Rattle.tg_reconf.proofs.telling.on_started.Goals as goal

pub returns : goal.returns
unfolding reconf_latest
returns c = λ u k n. subst (λ e. shown c.end.result n ≡ by_reconf n (ends n (Installed e c.args.proj))) c.epoch-epoch.ensures (c.end.ensures n)
