use Rattle.std.proofs.Common.{◌∙◌, length, map, replicate, sym, ap, subst}
use Rattle.tg_base.specs.Clusters.{Header}
use Rattle.tg_play.proofs.Means.{means}
use Rattle.tg_protocol.specs.Clients.{new_client}
use Rattle.tg_protocol.specs.Words.{numbers}
use Rattle.tg_world.specs.Clients.{KeepsClients}
use Rattle.tg_world.specs.declared.world.Parts.{Parts}
use Rattle.tg_world.proofs.Telling.{starts}
use Rattle.tg_world.proofs.Whole.{whole_start}
use Rattle.tg_world.proofs.world.World.start.Goals as goal

pub invariant_of-result : goal.invariant_of-result
invariant_of-result g c =
    let m = means g.K.Kind g.K.Registry in
    let same = c.in_ok-parts.ensures.ok in
    whole_start c.args.cluster.now c.in_ok-servers.servers c.in_ok-parts.parts.value.clients.items c.in_ok-parts.parts.value.told.items c.in_ok-parts.parts.value.told_noted.items c.in_ok-parts.parts.value.noted.items c.in_ok-servers.ensures
    (ap (λ (p : Parts m.state m.op m.ask m.answer). length p.clients.items) same ∙ c.in_ok-clients.ensures.many) (ap (λ (p : Parts m.state m.op m.ask m.answer). p.told.items) same ∙ c.new.ensures.items)
    (ap (λ (p : Parts m.state m.op m.ask m.answer). p.told_noted.items) same ∙ c.new-2.ensures.items)
    (ap (λ (p : Parts m.state m.op m.ask m.answer). p.noted.items) same ∙ c.in_ok-noted.ensures ∙ ap (λ (h : Header). replicate h.clients (record { next = 1; epoch = 1; upto = 0 })) c.cluster.view_is)

pub returns : goal.returns
returns g c =
    let m = means g.K.Kind g.K.Registry in
    let same = c.in_ok-parts.ensures.ok in
    starts m c.args.cluster.now _ c.in_ok-servers.ensures
    (subst (λ (p : Parts m.state m.op m.ask m.answer). KeepsClients m p.clients.items (map (new_client m c.args.cluster.now) (numbers c.args.cluster.now.clients 0))) (sym same) c.in_ok-clients.ensures.keeps)
    (ap (λ (p : Parts m.state m.op m.ask m.answer). p.told.items) same ∙ c.new.ensures.items)
    (ap (λ (p : Parts m.state m.op m.ask m.answer). p.noted.items) same ∙ c.in_ok-noted.ensures ∙ ap (λ (h : Header). replicate h.clients (record { next = 1; epoch = 1; upto = 0 })) c.cluster.view_is)
    (ap (λ (p : Parts m.state m.op m.ask m.answer). p.event) same)
