use Rattle.std.proofs.Common.{[], ◌∷◌}
use Rattle.tg_gen.specs.declared.round.Target.TheVariants as target
use Rattle.tg_gen.specs.Loads.{host, hosts, other}
use Rattle.tg_gen.proofs.Texts.{on_two}
use Rattle.tg_gen.proofs.load.put_last_hosts.Goals as goal

pub returns : goal.returns
returns c =
    on_two c.put_host.result c.args.out.now c.put_hosts.new.out c.put_host.new.out (hosts 2) (host other target.Counter ∷ []) c.in_ok-put_hosts.ensures c.put_host.ensures
