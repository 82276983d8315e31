use Rattle.std.proofs.Common.{◌≡◌, ◌∙◌, sym, ap, subst}
use Rattle.std.specs.Prelude.{IfOk}
use Rattle.tg_play.proofs.Means.{means}
use Rattle.tg_protocol.specs.Worlds.{Ran, drain}
use Rattle.tg_world.specs.Kept.{KeepsWorld}
use Rattle.tg_world.proofs.Ticking.{settle_stops, settle_on}
use Rattle.tg_world.proofs.ran.settle.Goals as goal

pub rounds-requires : goal.rounds-requires
rounds-requires g c =
    let m = means g.K.Kind g.K.Registry in
    record { world = (drain m c.requires.world).world; keeps = c.in_ok-ran.ensures.world c.requires.world c.requires.keeps }

pub returns-in-Some-clause-world : goal.returns-in-Some-clause-world
returns-in-Some-clause-world g c = λ w h.
    let m = means g.K.Kind g.K.Registry in
    subst (λ (x : Ran m). KeepsWorld m c.in_ok-ran.ran.world x.world) (sym (settle_stops m w c.in-Some.field-0 (sym (c.in_ok-ran.ensures.stopped w h) ∙ c.in-Some.is))) (c.in_ok-ran.ensures.world w h)

pub returns-in-Some-clause-stopped : goal.returns-in-Some-clause-stopped
returns-in-Some-clause-stopped g c = λ w h.
    let m = means g.K.Kind g.K.Registry in
    c.in_ok-ran.ensures.stopped w h ∙ ap (λ (x : Ran m). x.stopped) (sym (settle_stops m w c.in-Some.field-0 (sym (c.in_ok-ran.ensures.stopped w h) ∙ c.in-Some.is)))

pub returns-in-None-clause-world : goal.returns-in-None-clause-world
returns-in-None-clause-world g c = λ w h.
    let m = means g.K.Kind g.K.Registry in
    subst (λ (x : Ran m). IfOk c.rounds.result (λ r. KeepsWorld m r.world x.world)) (sym (settle_on m w (sym (c.in_ok-ran.ensures.stopped w h) ∙ c.in-None.is)))
    (c.rounds.ensures.world (drain m w).world (c.in_ok-ran.ensures.world w h))

pub returns-in-None-clause-stopped : goal.returns-in-None-clause-stopped
returns-in-None-clause-stopped g c = λ w h.
    let m = means g.K.Kind g.K.Registry in
    subst (λ (x : Ran m). IfOk c.rounds.result (λ r. r.stopped ≡ x.stopped)) (sym (settle_on m w (sym (c.in_ok-ran.ensures.stopped w h) ∙ c.in-None.is)))
    (c.rounds.ensures.stopped (drain m w).world (c.in_ok-ran.ensures.world w h))
