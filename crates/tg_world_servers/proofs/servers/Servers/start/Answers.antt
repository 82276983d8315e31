use Rattle.std.proofs.Common.{sym, ap, ◌∙◌}
use Rattle.tg_base.specs.Clusters.{Header}
use Rattle.tg_protocol.specs.Layouts.{first_layout}
use Rattle.tg_protocol.specs.Sequencers.{new_seqr}
use Rattle.tg_world_servers.specs.Rows.{states_of}
use Rattle.tg_world_servers.specs.Servers.{servers_start}
use Rattle.tg_world_servers.proofs.Boxed.{as_told, whole_in}
use Rattle.tg_world_servers.proofs.Starting.{starts_whole}
use Rattle.tg_world_servers.proofs.Taking.{started}
use Rattle.tg_world_servers.proofs.servers.Servers.start.Goals as goal

pub returns : goal.returns
returns c =
    let h : Header = record { units = c.cluster.inside.units; layouts = c.cluster.inside.layouts; seqs = c.cluster.inside.seqs; clients = c.cluster.inside.clients; limit = c.cluster.inside.limit; chains = c.cluster.inside.chains; objects = c.cluster.inside.objects } in
    ap as_told c.in_ok-parts.ensures.ok
    ∙ started h c.in_ok-cluster.cluster c.in_ok-units.units.items c.in_ok-layouts.layouts.items (states_of c.in_ok-seqrs.seqrs.items) c.in_ok-first.first c.new.result c.new-2.result c.new-3.result.entries (c.in_ok-cluster.ensures ∙ sym c.cluster.view_is)
    (c.in_ok-first.ensures ∙ ap first_layout (sym c.cluster.view_is)) c.in_ok-units.ensures c.in_ok-layouts.ensures c.in_ok-seqrs.ensures.states c.new.ensures c.new-2.ensures c.new-3.ensures.empty
    ∙ ap servers_start c.cluster.view_is

pub invariant_of-result : goal.invariant_of-result
invariant_of-result c =
    let h : Header = record { units = c.cluster.inside.units; layouts = c.cluster.inside.layouts; seqs = c.cluster.inside.seqs; clients = c.cluster.inside.clients; limit = c.cluster.inside.limit; chains = c.cluster.inside.chains; objects = c.cluster.inside.objects } in
    whole_in _ _ c.in_ok-parts.ensures.ok
    (starts_whole h c.in_ok-cluster.cluster c.in_ok-first.first c.in_ok-units.units.items c.in_ok-layouts.layouts.items c.in_ok-seqrs.seqrs.items (λ n. new_seqr n c.cluster.inside.limit c.in_ok-first.first) (c.in_ok-cluster.ensures ∙ sym c.cluster.view_is)
    (c.in_ok-first.ensures ∙ ap first_layout (sym c.cluster.view_is)) c.in_ok-units.ensures c.in_ok-layouts.ensures c.in_ok-seqrs.ensures.states c.in_ok-seqrs.ensures.counted)
