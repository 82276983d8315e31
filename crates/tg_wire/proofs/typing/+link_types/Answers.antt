use Rattle.std.proofs.Common.{subst, sym}
use Rattle.tg_wire.specs.Types.{AreLong, AreTypedLinks}
use Rattle.tg_wire.proofs.Splitting.{split_first}
use Rattle.tg_wire.proofs.typing.+link_types.Goals as goal

pub returns-in-len1-up : goal.returns-in-len1-up
returns-in-len1-up t c =
    let front = split_first c.args.links.now c.first-item.result c.in-len1-up.len_at_least c.first-item.is in
    subst AreTypedLinks (sym front) (subst AreLong c.as_slice.ensures.positions c.position_types.ensures, c.link_types.ensures)
