use Rattle.std.proofs.Common.{◌≡◌, true, List, sym, ap, ◌∙◌, subst}
use Rattle.tg_base.specs.Clusters.{Header}
use Rattle.tg_base.specs.declared.ids.Oid.{Oid}
use Rattle.tg_kind.specs.Headers.{is_header}
use Rattle.tg_client_state.proofs.Headers.{header_kept}
use Rattle.tg_client_state.proofs.objects.HeaderObjects.of.Goals as goal

pub invariant_of-result : goal.invariant_of-result
invariant_of-result c =
    let same : c.in_ok-list.list ≡ c.args.cluster.now.objects = c.in_ok-list.ensures ∙ ap (λ (h : Header). h.objects) c.cluster.view_is in
    subst (λ (l : List Oid). is_header l ≡ true) (sym same) (header_kept c.args.cluster.now c.rules.ensures)
