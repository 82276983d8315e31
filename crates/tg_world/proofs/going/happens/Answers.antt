use Rattle.std.proofs.Common.{◌∙◌, sym, ap, subst}
use Rattle.std.specs.Prelude.{Option}
use Rattle.tg_base.specs.declared.fault.Which.{Which}
use Rattle.tg_play.proofs.Means.{means}
use Rattle.tg_world.specs.Kept.{KeepsWorld}
use Rattle.tg_world.specs.Runs.{happens_by}
use Rattle.tg_world.proofs.going.happens.Goals as goal

pub returns-in-Some-clause-world : goal.returns-in-Some-clause-world
returns-in-Some-clause-world g c = λ w h.
    let m = means g.K.Kind g.K.Registry in
    subst (λ (x : Option Which). KeepsWorld m c.args.world (happens_by m x w c.args.event).world) (sym (sym (c.limit.ensures.limit w h) ∙ c.in-Some.is)) h

pub returns-in-Some-clause-stopped : goal.returns-in-Some-clause-stopped
returns-in-Some-clause-stopped g c = λ w h.
    let m = means g.K.Kind g.K.Registry in
    ap (λ (x : Option Which). (happens_by m x w c.args.event).stopped) (sym (sym (c.limit.ensures.limit w h) ∙ c.in-Some.is))

pub returns-in_ok-world-in-None-clause-world : goal.returns-in_ok-world-in-None-clause-world
returns-in_ok-world-in-None-clause-world g c = λ w h.
    let m = means g.K.Kind g.K.Registry in
    subst (λ (x : Option Which). KeepsWorld m c.in_ok-world-in-None.world (happens_by m x w c.args.event).world) (sym (sym (c.limit.ensures.limit w h) ∙ c.in-None.is)) (c.in_ok-world-in-None.ensures.keeps w h)

pub returns-in_ok-world-in-None-clause-stopped : goal.returns-in_ok-world-in-None-clause-stopped
returns-in_ok-world-in-None-clause-stopped g c = λ w h.
    let m = means g.K.Kind g.K.Registry in
    ap (λ (x : Option Which). (happens_by m x w c.args.event).stopped) (sym (sym (c.limit.ensures.limit w h) ∙ c.in-None.is))
