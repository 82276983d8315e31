use Rattle.std.proofs.Common.{ℕ, ◌≡◌, ◌+◌, sym, ap, subst, Ok, Err, Result, ◌∙◌}
use Rattle.tg_play.proofs.Means.{means}
use Rattle.tg_entry.specs.declared.entry.Entry.{Entry}
use Rattle.tg_protocol.specs.Checkpoints.{checkpoint}
use Rattle.tg_protocol.specs.Clients.{Work}
use Rattle.tg_ckpt.specs.Saving.{Saves}
use Rattle.tg_ckpt.specs.declared.fault.SaveFault.{SaveFault}
use Rattle.tg_client_state.specs.States.{client_of}
use Rattle.tg_client_answers.proofs.Moving.{moves_same, view_told, saves_by}
use Rattle.tg_client_state.specs.Tasks.{JobOf}
use Rattle.tg_client_answers.proofs.saving.saves.Goals as goal

pub returns-in-Ok : goal.returns-in-Ok
returns-in-Ok g c = λ r w v old hr le hv hj.
    let m = means g.K.Kind g.K.Registry in
    let tail : c.args.job.tail ≡ w.tail = ap (λ (u : Work m). u.tail) (sym hj) in
    let kept = subst (λ (j : JobOf m). Saves c.saved.result (checkpoint m v c.args.oid j.tail c.args.state.num (c.args.state.checkpoints + 1))) (c.deref.ensures ∙ c.job.view_is) (c.saved.ensures.saves v (view_told m c.args.state.view r.view v hr hv)) in
    let fits = subst (λ (x : Result Entry SaveFault). Saves x (checkpoint m v c.args.oid c.args.job.tail c.args.state.num (c.args.state.checkpoints + 1))) c.in-Ok.is kept in
    let told = subst (λ (n : ℕ). Saves (Ok c.in-Ok.draft) (checkpoint m v c.args.oid n c.args.state.num (c.args.state.checkpoints + 1))) tail fits in
    moves_same m c.puts.result old _ _
    (saves_by m (client_of m c.args.state r) w c.args.oid (checkpoint m v c.args.oid w.tail c.args.state.num (c.args.state.checkpoints + 1)) c.in-Ok.draft c.args.job.tail told.0 told.1 tail)
    (c.puts.ensures r w old le hv hj)

pub returns-in-Err : goal.returns-in-Err
returns-in-Err g c = λ r w v old hr le hv hj.
    let m = means g.K.Kind g.K.Registry in
    let tail : c.args.job.tail ≡ w.tail = ap (λ (u : Work m). u.tail) (sym hj) in
    let kept = subst (λ (j : JobOf m). Saves c.saved.result (checkpoint m v c.args.oid j.tail c.args.state.num (c.args.state.checkpoints + 1))) (c.deref.ensures ∙ c.job.view_is) (c.saved.ensures.saves v (view_told m c.args.state.view r.view v hr hv)) in
    let fault = subst (λ (x : Result Entry SaveFault). Saves x (checkpoint m v c.args.oid c.args.job.tail c.args.state.num (c.args.state.checkpoints + 1))) c.in-Err.is kept in
    let told = subst (λ (n : ℕ). Saves (Err c.in-Err.fault) (checkpoint m v c.args.oid n c.args.state.num (c.args.state.checkpoints + 1))) tail fault in
    c.unsaved.ensures w c.args.oid (checkpoint m v c.args.oid w.tail c.args.state.num (c.args.state.checkpoints + 1)) r old told hv

pub saved-requires-clause-count : goal.saved-requires-clause-count
saved-requires-clause-count g c = c.requires.numbers.checkpoints

pub puts-requires-clause-count : goal.puts-requires-clause-count
puts-requires-clause-count g c = c.requires.numbers.checkpoints

pub puts-requires-clause-numbers : goal.puts-requires-clause-numbers
puts-requires-clause-numbers g c = c.requires.numbers.next
