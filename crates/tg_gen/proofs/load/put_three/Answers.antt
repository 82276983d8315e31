use Rattle.std.proofs.Common.{[], ◌∷◌}
use Rattle.tg_gen.specs.Loads.{host}
use Rattle.tg_gen.proofs.Texts.{two, on_two}
use Rattle.tg_gen.proofs.load.put_three.Goals as goal

pub returns : goal.returns
returns c =
    let client = c.args.client in
    on_two c.put_host-3.result c.args.out.now c.put_host-2.new.out c.put_host-3.new.out (host client c.args.one ∷ host client c.args.two ∷ []) (host client c.args.three ∷ [])
    (two c.args.out.now c.put_host.new.out c.put_host-2.new.out (host client c.args.one ∷ []) (host client c.args.two ∷ []) c.in_ok-put_host.ensures c.in_ok-put_host-2.ensures) c.put_host-3.ensures
