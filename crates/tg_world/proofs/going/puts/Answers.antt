use Rattle.std.proofs.Common.{◌≡◌, ◌∙◌, sym, ap, subst}
use Rattle.std.specs.Prelude.{IfOk}
use Rattle.tg_model.specs.declared.command.Command.TheVariants as cmd
use Rattle.tg_model.specs.declared.command.Event.TheVariants as event
use Rattle.tg_play.proofs.Means.{means}
use Rattle.tg_protocol.specs.Worlds.{World, Ran}
use Rattle.tg_world.specs.Kept.{KeepsWorld}
use Rattle.tg_world.specs.Runs.{happens_on}
use Rattle.tg_world.proofs.Parts.{stops, goes}
use Rattle.tg_world.proofs.going.puts.Goals as goal

pub ends-requires : goal.ends-requires
ends-requires g c =
    let m = means g.K.Kind g.K.Registry in
    record { world = (happens_on m c.requires.world (event.Command c.args.client (cmd.Put c.args.oid c.args.op))).world; keeps = c.in_ok-ran.ensures.world c.requires.world c.requires.keeps }

pub returns-in-Some-clause-world : goal.returns-in-Some-clause-world
returns-in-Some-clause-world g c = λ w h.
    let m = means g.K.Kind g.K.Registry in
    subst (λ (x : Ran m). KeepsWorld m c.in_ok-ran.ran.world x.world)
    (sym (stops m (happens_on m w (event.Command c.args.client (cmd.Put c.args.oid c.args.op))) (λ (v : World m). happens_on m v (event.Command c.args.client cmd.End)) c.in-Some.field-0 (sym (c.in_ok-ran.ensures.stopped w h) ∙ c.in-Some.is))) (c.in_ok-ran.ensures.world w h)

pub returns-in-Some-clause-stopped : goal.returns-in-Some-clause-stopped
returns-in-Some-clause-stopped g c = λ w h.
    let m = means g.K.Kind g.K.Registry in
    c.in_ok-ran.ensures.stopped w h ∙ ap (λ (x : Ran m). x.stopped)
    (sym (stops m (happens_on m w (event.Command c.args.client (cmd.Put c.args.oid c.args.op))) (λ (v : World m). happens_on m v (event.Command c.args.client cmd.End)) c.in-Some.field-0 (sym (c.in_ok-ran.ensures.stopped w h) ∙ c.in-Some.is)))

pub returns-in-None-clause-world : goal.returns-in-None-clause-world
returns-in-None-clause-world g c = λ w h.
    let m = means g.K.Kind g.K.Registry in
    subst (λ (x : Ran m). IfOk c.ends.result (λ r. KeepsWorld m r.world x.world))
    (sym (goes m (happens_on m w (event.Command c.args.client (cmd.Put c.args.oid c.args.op))) (λ (v : World m). happens_on m v (event.Command c.args.client cmd.End)) (sym (c.in_ok-ran.ensures.stopped w h) ∙ c.in-None.is)))
    (c.ends.ensures.world (happens_on m w (event.Command c.args.client (cmd.Put c.args.oid c.args.op))).world (c.in_ok-ran.ensures.world w h))

pub returns-in-None-clause-stopped : goal.returns-in-None-clause-stopped
returns-in-None-clause-stopped g c = λ w h.
    let m = means g.K.Kind g.K.Registry in
    subst (λ (x : Ran m). IfOk c.ends.result (λ r. r.stopped ≡ x.stopped))
    (sym (goes m (happens_on m w (event.Command c.args.client (cmd.Put c.args.oid c.args.op))) (λ (v : World m). happens_on m v (event.Command c.args.client cmd.End)) (sym (c.in_ok-ran.ensures.stopped w h) ∙ c.in-None.is)))
    (c.ends.ensures.stopped (happens_on m w (event.Command c.args.client (cmd.Put c.args.oid c.args.op))).world (c.in_ok-ran.ensures.world w h))
