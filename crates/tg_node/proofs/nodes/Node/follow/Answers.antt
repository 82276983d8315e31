use Rattle.std.proofs.Common.{IfOk, [], ◌∷◌, sym, refl, subst}
use Rattle.std.specs.Prelude.{OnErr}
use Rattle.tg_model.specs.declared.command.Command.TheVariants as cmd
use Rattle.tg_node_state.specs.declared.input.Input.TheVariants as input
use Rattle.tg_node.specs.declared.asked.Asked.{Asked}
use Rattle.tg_node.specs.declared.asked.Asked.TheVariants.{Tick, Given, Update}
use Rattle.tg_node.specs.Steps.{TookLine, BreaksLine}
use Rattle.tg_node.proofs.Stepping.{took_result, line_breaks}
use Rattle.tg_node.proofs.nodes.Node.follow.Goals as goal

pub returns-in-Tick-clause-took : goal.returns-in-Tick-clause-took
returns-in-Tick-clause-took g c =
    let handed = g.L.Link.handed c.args.link.now in
    let sent = g.L.Link.sent c.args.link.now in
    let link = c.make.new.link in
    subst (λ (a : Asked). IfOk c.make.result (λ m. TookLine c.args.place a handed c.args.self sent m (g.L.Link.handed link) (g.L.Link.sent link) (g.L.Link.acts c.args.link.now) (g.L.Link.acts link))) (sym c.in-Tick.is)
    (took_result c.args.place Tick c.args.self c.make.result handed (g.L.Link.handed link) sent (g.L.Link.sent link) (g.L.Link.acts c.args.link.now) (g.L.Link.acts link) refl refl (λ n h. h) c.make.ensures.makes c.make.ensures.received c.make.ensures.handed c.make.ensures.does)

pub returns-in-Given-clause-took : goal.returns-in-Given-clause-took
returns-in-Given-clause-took g c =
    let handed = g.L.Link.handed c.args.link.now in
    let sent = g.L.Link.sent c.args.link.now in
    let link = c.make-in-Given.new.link in
    subst (λ (a : Asked). IfOk c.make-in-Given.result (λ m. TookLine c.args.place a handed c.args.self sent m (g.L.Link.handed link) (g.L.Link.sent link) (g.L.Link.acts c.args.link.now) (g.L.Link.acts link))) (sym c.in-Given.is)
    (took_result c.args.place (Given c.in-Given.command) c.args.self c.make-in-Given.result handed (g.L.Link.handed link) sent (g.L.Link.sent link) (g.L.Link.acts c.args.link.now) (g.L.Link.acts link) refl refl (λ n h. h) c.make-in-Given.ensures.makes c.make-in-Given.ensures.received c.make-in-Given.ensures.handed c.make-in-Given.ensures.does)

pub returns-in-Update-clause-took : goal.returns-in-Update-clause-took
returns-in-Update-clause-took g c =
    let handed = g.L.Link.handed c.args.link.now in
    let sent = g.L.Link.sent c.args.link.now in
    let link = c.update.new.link in
    subst (λ (a : Asked). IfOk c.update.result (λ m. TookLine c.args.place a handed c.args.self sent m (g.L.Link.handed link) (g.L.Link.sent link) (g.L.Link.acts c.args.link.now) (g.L.Link.acts link))) (sym c.in-Update.is)
    (took_result c.args.place (Update c.in-Update.oid c.in-Update.op) c.args.self c.update.result handed (g.L.Link.handed link) sent (g.L.Link.sent link) (g.L.Link.acts c.args.link.now) (g.L.Link.acts link) refl refl (λ n h. h) c.update.ensures.makes c.update.ensures.received c.update.ensures.handed c.update.ensures.does)

pub returns-in-Wait-clause-took : goal.returns-in-Wait-clause-took
returns-in-Wait-clause-took g c =
    let link = c.wait.new.link in
    subst (λ (a : Asked). IfOk c.wait.result (λ m. TookLine c.args.place a (g.L.Link.handed c.args.link.now) c.args.self (g.L.Link.sent c.args.link.now) m (g.L.Link.handed link) (g.L.Link.sent link) (g.L.Link.acts c.args.link.now) (g.L.Link.acts link))) (sym c.in-Wait.is) c.wait.ensures.took

pub returns-in-Tick-clause-breaks : goal.returns-in-Tick-clause-breaks
returns-in-Tick-clause-breaks g c =
    let sent = g.L.Link.sent c.args.link.now in
    let acts = g.L.Link.acts c.args.link.now in
    subst (λ (a : Asked). OnErr c.make.result (BreaksLine c.args.place a c.args.self sent acts (g.L.Link.acts c.make.new.link))) (sym c.in-Tick.is)
    (line_breaks c.args.place (Tick) c.args.self c.make.result (input.Tick ∷ []) sent acts (g.L.Link.acts c.make.new.link) refl (λ s. refl) c.make.ensures.breaks)

pub returns-in-Given-clause-breaks : goal.returns-in-Given-clause-breaks
returns-in-Given-clause-breaks g c =
    let sent = g.L.Link.sent c.args.link.now in
    let acts = g.L.Link.acts c.args.link.now in
    subst (λ (a : Asked). OnErr c.make-in-Given.result (BreaksLine c.args.place a c.args.self sent acts (g.L.Link.acts c.make-in-Given.new.link))) (sym c.in-Given.is)
    (line_breaks c.args.place (Given c.in-Given.command) c.args.self c.make-in-Given.result (input.Command c.in-Given.command ∷ []) sent acts (g.L.Link.acts c.make-in-Given.new.link) refl (λ s. refl) c.make-in-Given.ensures.breaks)

pub returns-in-Update-clause-breaks : goal.returns-in-Update-clause-breaks
returns-in-Update-clause-breaks g c =
    let sent = g.L.Link.sent c.args.link.now in
    let acts = g.L.Link.acts c.args.link.now in
    subst (λ (a : Asked). OnErr c.update.result (BreaksLine c.args.place a c.args.self sent acts (g.L.Link.acts c.update.new.link))) (sym c.in-Update.is)
    (line_breaks c.args.place (Update c.in-Update.oid c.in-Update.op) c.args.self c.update.result (input.Command cmd.Begin ∷ input.Command (cmd.Put c.in-Update.oid c.in-Update.op) ∷ input.Command cmd.End ∷ []) sent acts (g.L.Link.acts c.update.new.link) refl (λ s. refl) c.update.ensures.breaks)

pub returns-in-Wait-clause-breaks : goal.returns-in-Wait-clause-breaks
returns-in-Wait-clause-breaks g c =
    subst (λ (a : Asked). OnErr c.wait.result (BreaksLine c.args.place a c.args.self (g.L.Link.sent c.args.link.now) (g.L.Link.acts c.args.link.now) (g.L.Link.acts c.wait.new.link))) (sym c.in-Wait.is) c.wait.ensures.breaks
