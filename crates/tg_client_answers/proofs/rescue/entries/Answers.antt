use Rattle.std.proofs.Common.{ap, ◌∙◌, subst}
use Rattle.std.specs.Prelude.{◌≡◌, IfOk}
use Rattle.tg_protocol.specs.Views.{Entries}
use Rattle.tg_play.proofs.Means.{means}
use Rattle.tg_client_cells.specs.Known.{all_entries}
use Rattle.tg_client_answers.proofs.TellingPast.{all_told}
use Rattle.tg_client_state.specs.Tasks.{JobOf}
use Rattle.tg_client_answers.proofs.rescue.entries.Goals as goal

pub returns-clause-entries : goal.returns-clause-entries
returns-clause-entries g c = λ r w hj.
    let known : c.deref.result.now ≡ c.args.state.now = c.deref.ensures ∙ c.state.view_is in
    let found : c.deref-2.result.now ≡ c.args.job.now = c.deref-2.ensures ∙ c.job.view_is in
    let oids : c.as_slice.result.now ≡ c.args.job.now.oids = c.as_slice.ensures ∙ ap (λ (j : JobOf (means g.K.Kind g.K.Registry)). j.oids) (c.deref-3.ensures ∙ c.job.view_is) in
    let tail : c.deref-4.result.now ≡ c.args.job.now = c.deref-4.ensures ∙ c.job.view_is in
    let same : all_entries c.deref.result.now.known c.deref-2.result.now.found c.as_slice.result.now c.deref-4.result.now.tail ≡ all_entries c.args.state.now.known c.args.job.now.found c.args.job.now.oids c.args.job.now.tail
    = λ i. all_entries (known i).known (found i).found (oids i) (tail i).tail in
    subst (λ (es : Entries). IfOk c.entries.result (λ fs. fs ≡ es))
    (same ∙ all_told (means g.K.Kind g.K.Registry) c.args.state.now r c.args.job.now w hj)
    c.entries.ensures.entries
