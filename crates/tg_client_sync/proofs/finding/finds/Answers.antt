use Rattle.std.proofs.Common.{◌≡◌, List, ℕ, ap, ◌∙◌}
use Rattle.tg_base.specs.declared.ids.Oid.{Oid}
use Rattle.tg_play.proofs.Means.{means}
use Rattle.tg_client_cells.specs.Words.{ByStream, with_positions}
use Rattle.tg_client_state.specs.Tasks.{JobOf}
use Rattle.tg_client_sync.specs.Finding.{trims_after}
use Rattle.tg_client_sync.proofs.finding.finds.Goals as goal

pub returns : goal.returns
returns g c =
    let m = means g.K.Kind g.K.Registry in
    let found : ByStream = c.in_ok-found.found in
    let trims : List (Oid × ℕ) = c.in_ok-trims.trims in
    let first : c.deref_mut.result.now ≡ c.args.job = c.deref_mut.ensures.value ∙ c.job.view_is in
    let kept : record c.deref_mut-2.result.now { found = found } ≡ record c.args.job { found = found } =
    ap (λ (j : JobOf m). record j { found = found }) c.deref_mut-2.ensures.value ∙ ap (λ (j : JobOf m). record j { found = found }) first in
    let third : c.deref_mut-3.result.now ≡ record c.args.job { found = found } = c.deref_mut-3.ensures.value ∙ kept in
    let founds : found ≡ with_positions c.args.job.found c.args.oid c.args.list.now =
    c.in_ok-found.ensures ∙ ap (λ (f : ByStream). with_positions f c.args.oid c.args.list.now) (c.replace-taken.ensures.value ∙ ap (λ (j : JobOf m). j.found) first) in
    let after : trims ≡ trims_after c.args.job.trims c.args.oid c.args.gone =
    c.in_ok-trims.ensures ∙ ap (λ (ts : List (Oid × ℕ)). trims_after ts c.args.oid c.args.gone) (c.replace-before.ensures.value ∙ ap (λ (j : JobOf m). j.trims) third) in
    ap (λ (j : JobOf m). record j { trims = trims }) c.deref_mut-4.ensures.value
    ∙ ap (λ (j : JobOf m). record j { trims = trims }) third
    ∙ λ i. record c.args.job { found = founds i; trims = after i }
