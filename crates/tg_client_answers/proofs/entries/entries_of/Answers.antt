use Rattle.std.proofs.Common.{◌≡◌, ℕ, sym, ap, subst, ◌∙◌}
use Rattle.tg_protocol.specs.Views.{Entries}
use Rattle.tg_client_cells.specs.Known.{all_entries, new_entries, CommitsBelow}
use Rattle.tg_play.proofs.Means.{means}
use Rattle.tg_play.proofs.Splitting.{if_ok}
use Rattle.tg_client_state.specs.Tasks.{JobOf}
use Rattle.tg_client_state.specs.States.{StateOf, client_of}
use Rattle.tg_client_state.proofs.Boxed.{view_read}
use Rattle.tg_client_answers.specs.Playing.{goes_by_new, plays_from, Suffice}
use Rattle.tg_client_answers.proofs.Entering.{all_suffice, new_suffice}
use Rattle.tg_client_answers.proofs.entries.entries_of.Goals as goal

pub returns-then-goes_by_new-clause-suffice : goal.returns-then-goes_by_new-clause-suffice
returns-then-goes_by_new-clause-suffice g c = λ r w hk hj.
    let m = means g.K.Kind g.K.Registry in
    let s : StateOf m = c.args.state.now in
    let j : JobOf m = c.args.job.now in
    let known : c.deref.result.now ≡ s = c.deref.ensures ∙ c.state.view_is in
    let seen : c.deref-2.result.now ≡ s = c.deref-2.ensures ∙ c.state.view_is in
    let asked : c.deref-then-plays_from.result.now ≡ j = c.deref-then-plays_from.ensures ∙ c.job.view_is in
    let at : c.deref-then-plays_from-2.result.now ≡ j = c.deref-then-plays_from-2.ensures ∙ c.job.view_is in
    let found : c.deref-then-goes_by_new.result.now ≡ j = c.deref-then-goes_by_new.ensures ∙ c.job.view_is in
    let hosted : c.as_slice.result.now ≡ s.hosted = c.as_slice.ensures ∙ ap (λ (u : StateOf m). u.hosted) (c.deref-then-goes_by_new-2.ensures ∙ c.state.view_is) in
    let tail : c.deref-then-goes_by_new-3.result.now ≡ j = c.deref-then-goes_by_new-3.ensures ∙ c.job.view_is in
    let settled : c.settled-settled.result ≡ s.known.settled = c.settled-settled.ensures ∙ ap (λ (u : StateOf m). u.known.settled) known in
    let fresh : new_entries c.deref.result.now.known c.deref-then-goes_by_new.result.now.found c.as_slice.result.now c.deref-then-goes_by_new-3.result.now.tail ≡ new_entries s.known j.found s.hosted j.tail
    = λ i. new_entries (known i).known (found i).found (hosted i) (tail i).tail in
    let all : all_entries c.deref.result.now.known c.deref-then-goes_by_new.result.now.found c.as_slice.result.now c.deref-then-goes_by_new-3.result.now.tail ≡ all_entries s.known j.found s.hosted j.tail
    = λ i. all_entries (known i).known (found i).found (hosted i) (tail i).tail in
    let goes : goes_by_new m c.deref-then-plays_from.result.now.command c.deref-then-plays_from-2.result.now.at c.settled-settled.result ≡ goes_by_new m j.command j.at s.known.settled
    = λ i. goes_by_new m (asked i).command (at i).at (settled i) in
    if_ok _ (λ es. Suffice m (client_of m s r) w es) c.entries_from_settled.result
    (λ es e. new_suffice m s r j w hj es (e ∙ fresh)
    (subst (λ (u : StateOf m). CommitsBelow u.known.settled (all_entries s.known j.found s.hosted j.tail)) known
    (subst (λ (fs : Entries). CommitsBelow c.deref.result.now.known.settled fs) all c.entries_from_settled.ensures.others))
    (sym (c.plays_from.ensures r.view (view_read m c.deref-2.result.now s r.view seen hk) ∙ ap (λ (n : ℕ). plays_from m r.view n) settled) ∙ c.if-plays_from.true)
    (sym (c.goes_by_new.ensures ∙ goes) ∙ c.if-goes_by_new.true))
    c.entries_from_settled.ensures.entries

pub returns-clause-suffice : goal.returns-clause-suffice
returns-clause-suffice g c = λ r w hk hj.
    let m = means g.K.Kind g.K.Registry in
    let s : StateOf m = c.args.state.now in
    let j : JobOf m = c.args.job.now in
    let known : c.deref.result.now ≡ s = c.deref.ensures ∙ c.state.view_is in
    let found : c.deref-3.result.now ≡ j = c.deref-3.ensures ∙ c.job.view_is in
    let hosted : c.as_slice-2.result.now ≡ s.hosted = c.as_slice-2.ensures ∙ ap (λ (u : StateOf m). u.hosted) (c.deref-4.ensures ∙ c.state.view_is) in
    let tail : c.deref-5.result.now ≡ j = c.deref-5.ensures ∙ c.job.view_is in
    let all : all_entries c.deref.result.now.known c.deref-3.result.now.found c.as_slice-2.result.now c.deref-5.result.now.tail ≡ all_entries s.known j.found s.hosted j.tail
    = λ i. all_entries (known i).known (found i).found (hosted i) (tail i).tail in
    if_ok _ (λ es. Suffice m (client_of m s r) w es) c.entries.result
    (λ es e. all_suffice m s r j w hj es (e ∙ all))
    c.entries.ensures.entries
