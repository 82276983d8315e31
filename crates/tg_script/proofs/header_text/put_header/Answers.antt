use Rattle.std.proofs.Common.{ap, ◌∙◌}
use Rattle.tg_base.specs.Clusters.{Header}
use Rattle.tg_script.proofs.Spaces.{on_ok, header_written}
use Rattle.tg_script.proofs.header_text.put_header.Goals as goal

pub returns : goal.returns
returns c =
    let is = c.cluster.view_is in
    on_ok c.put_objects.result _ _ c.put_objects.ensures (λ e. header_written c.args.cluster.now _ _ _ _ _ _ _ _ _ _ _
    (c.from.ensures ∙ ap (λ (h : Header). h.units) is) (c.from-2.ensures ∙ ap (λ (h : Header). h.layouts) is)
    (c.from-3.ensures ∙ ap (λ (h : Header). h.seqs) is) (c.from-4.ensures ∙ ap (λ (h : Header). h.clients) is) (ap (λ (h : Header). h.limit) is)
    (c.as_slice.ensures ∙ ap (λ (h : Header). h.chains) is) (c.as_slice-2.ensures ∙ ap (λ (h : Header). h.objects) is)
    c.in_ok-put_sizes.ensures c.in_ok-put_chains.ensures e)
