use Rattle.std.proofs.Common.{◌≡◌, true, [], length, sym, subst, arith}
use Rattle.std.specs.Prelude.{◌==◌}
use Rattle.tg_protocol.specs.Requests.{ends}
use Rattle.tg_protocol.specs.Reconfiguring.{Starting, Installed, started_if}
use Rattle.tg_reconf.specs.States.{working}
use Rattle.tg_reconf.specs.Turns.{shown, by_reconf}
use Rattle.tg_reconf.proofs.Told.{no_links}
use Rattle.tg_reconf.proofs.telling.on_tail.Goals as goal

pub returns : goal.returns
returns c = λ n.
    let none : (length c.args.links.now == 0) ≡ true = cc in
    subst (λ b. shown c.end.result n ≡ by_reconf n (started_if (working c.args.plan (Starting c.args.own)) n b)) (sym (no_links c.args.links.now none))
    (subst (λ e. shown c.end.result n ≡ by_reconf n (ends n (Installed e c.args.plan.stand.proj))) c.epoch-epoch.ensures (c.end.ensures n))
