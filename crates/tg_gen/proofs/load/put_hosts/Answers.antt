use Rattle.std.proofs.Common.{[], ◌∷◌}
use Rattle.tg_gen.specs.declared.round.Target.TheVariants as target
use Rattle.tg_gen.specs.Loads.{host}
use Rattle.tg_gen.proofs.Texts.{on_two}
use Rattle.tg_gen.proofs.load.put_hosts.Goals as goal

pub returns : goal.returns
returns c =
    let client = c.args.client in
    on_two c.put_three-2.result c.args.out.now c.put_three.new.out c.put_three-2.new.out
    (host client target.Counter ∷ host client target.Register ∷ host client target.Map ∷ []) (host client target.List ∷ host client target.Tree ∷ host client target.Set ∷ [])
    c.in_ok-put_three.ensures c.put_three-2.ensures
