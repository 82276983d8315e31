use Rattle.std.proofs.Common.{◌≡◌, ◌+◌, ◌-◌, ◌∙◌, arith}
use Rattle.tg_audit.proofs.Kept.{causes_alike, causes_none}
use Rattle.tg_audit.proofs.Means.{means}
use Rattle.tg_audit.proofs.run.Run.caused.Goals as goal

pub returns-then-version-eq0 : goal.returns-then-version-eq0
returns-then-version-eq0 g c = causes_none (means g.K.Kind g.K.Registry) c.args.at c.args.oid c.args.part.now c.args.version c.args.snapshot c.args.self.now.history.now c.if-version-eq0.true

pub returns : goal.returns
returns g c =
    let next : (c.args.version - 1) + 1 ≡ c.args.version = omega arith in
    c.has_cause.ensures ∙ causes_alike (means g.K.Kind g.K.Registry) c.args.at (c.args.version - 1) c.args.oid c.args.part.now c.args.version c.args.snapshot c.stamped.result.now c.args.self.now.history.now next c.stamped.ensures
