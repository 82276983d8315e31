use Rattle.std.proofs.Common.{[], ◌∷◌, ◌++◌}
use Rattle.tg_gen.specs.declared.round.Target.TheVariants as target
use Rattle.tg_gen.specs.Loads.{host, hosts, other}
use Rattle.tg_gen.proofs.Texts.{on_two}
use Rattle.tg_gen.proofs.load.put_hosting.Goals as goal

pub returns : goal.returns
returns c =
    let last = hosts 2 ++ host other target.Counter ∷ [] in
    on_two c.put_last_hosts.result c.args.out.now c.put_hosts.new.out c.put_last_hosts.new.out (hosts 0) (hosts 1 ++ last) c.in_ok-put_hosts.ensures
    (on_two c.put_last_hosts.result c.put_hosts.new.out c.put_hosts-2.new.out c.put_last_hosts.new.out (hosts 1) last c.in_ok-put_hosts-2.ensures c.put_last_hosts.ensures)
