use Rattle.std.proofs.Common.{◌≡◌, take}
use Rattle.tg_proj.specs.Next.{next_gone}
use Rattle.tg_proj.proofs.next.gone_after.Given as goal

abbrev pub invariant-loop-unit : goal.invariant-loop-unit
invariant-loop-unit l = l.all ≡ next_gone l.gone (take l.unit-index l.drop)
