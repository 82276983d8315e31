use Rattle.std.proofs.Common.{List, ap, ◌∙◌, None, sym, subst}
use Rattle.tg_base.specs.declared.ids.Oid.{Oid}
use Rattle.tg_base.specs.Clusters.{Header}
use Rattle.tg_protocol.specs.Words.{directory}
use Rattle.tg_play.proofs.Means.{means}
use Rattle.tg_client.proofs.Fresh.{fresh}
use Rattle.tg_protocol.specs.Clients.{new_client}
use Rattle.tg_client_state.specs.States.{StateOf}
use Rattle.tg_client.specs.Kept.{KeepsClient}
use Rattle.tg_client.proofs.client.Client.new.Goals as goal

pub returns : goal.returns
returns g c =
    let m = means g.K.Kind g.K.Registry in
    record {
      keeps = subst (λ (s : StateOf m). KeepsClient m (record { state = s; work = None }) (new_client m c.args.cluster.now c.args.num)) (sym c.in_ok-state.ensures)
          (fresh m c.args.cluster.now c.args.num c.cluster.inside.layouts c.in_ok-objects.objects c.new.result c.in_ok-stand.stand c.new-2.result c.in_ok-hosted.hosted c.in_ok-dir.dir (ap (λ (h : Header). h.layouts) c.cluster.view_is)
          c.in_ok-objects.ensures c.new.ensures c.in_ok-stand.ensures c.new-2.ensures c.in_ok-hosted.ensures (c.in_ok-dir.ensures ∙ ap (λ (os : List Oid). m.fresh directory os) c.as_slice.ensures.objects));
    }
