use Rattle.std.proofs.Common.{◌≡◌, not, sym, ap, subst, ◌∙◌}
use Rattle.std.specs.Prelude.{◌==◌, ◌&&◌, None, is_some, nat_lt, IfOk}
use Rattle.tg_play.proofs.Means.{means}
use Rattle.tg_protocol.specs.Checkpoints.{load_from}
use Rattle.tg_protocol.specs.ClientSteps.{gives_up, at_trim}
use Rattle.tg_client_cells.specs.Words.{entries_at}
use Rattle.tg_client_state.specs.Tasks.{JobOf}
use Rattle.tg_client_state.specs.States.{StateOf, Rest, client_of, KeepsMoved}
use Rattle.tg_client_state.specs.Moves.{Holds}
use Rattle.tg_client_sync.proofs.Ending.{stale_as, gives_as, trim_kept, trim_given}
use Rattle.tg_client_state.specs.Counts.{HasNumbersLeft}
use Rattle.tg_client_sync.proofs.walking.at_trim.Goals as goal

pub returns-then-not-gives_view_up : goal.returns-then-not-gives_view_up
returns-then-not-gives_view_up g c = λ r w old x hx h.
    let m = means g.K.Kind g.K.Registry in
    let known : c.deref.result.now ≡ c.args.state = c.deref.ensures ∙ c.state.view_is in
    let before : c.deref-2.result.now ≡ c.args.job = c.deref-2.ensures ∙ c.job.view_is in
    let asked : c.deref-3.result.now ≡ c.args.job = c.deref-3.ensures ∙ c.job.view_is in
    let old_as : (not (is_some (load_from m (entries_at c.deref.result.now.known.cells c.as_slice-list.result.now) c.args.oid c.args.below)) && nat_lt c.deref-2.result.now.gone_before c.args.below)
    ≡ (not (is_some (load_from m (entries_at c.args.state.known.cells c.as_slice-list.result.now) c.args.oid c.args.below)) && nat_lt c.args.job.gone_before c.args.below)
    = λ i. not (is_some (load_from m (entries_at (known i).known.cells c.as_slice-list.result.now) c.args.oid c.args.below)) && nat_lt (before i).gone_before c.args.below in
    let gives : c.gives_view_up.result ≡ gives_up m (client_of m c.args.state r) (record w { command = c.args.job.command }) c.args.below =
    c.gives_view_up.ensures r h.view ∙ ap (λ (j : JobOf m). gives_up m (client_of m c.args.state r) (record w { command = j.command }) c.args.below) asked in
    trim_kept m (λ z. IfOk c.goes_on_from.result (λ y. KeepsMoved m old y z)) c.args.state r w c.args.oid c.args.rest x c.args.below c.in_ok-is_old.is_old
    (stale_as m c.args.state c.args.job r w c.args.oid x c.as_slice-list.result.now c.args.below c.in_ok-is_old.is_old (hx ∙ sym c.as_slice-list.ensures) h.job (c.in_ok-is_old.ensures ∙ old_as))
    (sym c.if-not-gives_view_up.true ∙ gives_as m c.args.state c.args.job r w c.args.below c.gives_view_up.result h.job gives)
    (c.goes_on_from.ensures r w old h)

pub returns : goal.returns
returns g c = λ r w old x hx h.
    let m = means g.K.Kind g.K.Registry in
    let known : c.deref.result.now ≡ c.args.state = c.deref.ensures ∙ c.state.view_is in
    let before : c.deref-2.result.now ≡ c.args.job = c.deref-2.ensures ∙ c.job.view_is in
    let asked : c.deref-3.result.now ≡ c.args.job = c.deref-3.ensures ∙ c.job.view_is in
    let low : not (c.deref-4.result.now.lo == 0) ≡ not (c.args.job.lo == 0) = ap (λ (j : JobOf m). not (j.lo == 0)) (c.deref-4.ensures ∙ c.job.view_is) in
    let was : c.deref_mut.result.now ≡ c.args.state = c.deref_mut.ensures.value ∙ c.state-2.view_is in
    let old_as : (not (is_some (load_from m (entries_at c.deref.result.now.known.cells c.as_slice-list.result.now) c.args.oid c.args.below)) && nat_lt c.deref-2.result.now.gone_before c.args.below)
    ≡ (not (is_some (load_from m (entries_at c.args.state.known.cells c.as_slice-list.result.now) c.args.oid c.args.below)) && nat_lt c.args.job.gone_before c.args.below)
    = λ i. not (is_some (load_from m (entries_at (known i).known.cells c.as_slice-list.result.now) c.args.oid c.args.below)) && nat_lt (before i).gone_before c.args.below in
    let gives : c.gives_view_up.result ≡ gives_up m (client_of m c.args.state r) (record w { command = c.args.job.command }) c.args.below =
    c.gives_view_up.ensures r h.view ∙ ap (λ (j : JobOf m). gives_up m (client_of m c.args.state r) (record w { command = j.command }) c.args.below) asked in
    let none : Rest m = record r { view = None } in
    let goes = subst (λ (s : StateOf m). Holds m (record s { view = None }) c.args.job none w old → IfOk c.goes_on_from-2.result (λ y. KeepsMoved m old y (at_trim m (client_of m (record s { view = None }) none) w c.args.rest c.in_ok-is_old.is_old (not (c.deref-4.result.now.lo == 0))))) was
    (λ i. c.goes_on_from-2.ensures none w old i) in
    trim_given m (λ z. IfOk c.goes_on_from-2.result (λ y. KeepsMoved m old y z)) c.args.state c.args.job r w old c.args.oid c.args.rest x c.args.below c.in_ok-is_old.is_old (not (c.deref-4.result.now.lo == 0)) h
    (stale_as m c.args.state c.args.job r w c.args.oid x c.as_slice-list.result.now c.args.below c.in_ok-is_old.is_old (hx ∙ sym c.as_slice-list.ensures) h.job (c.in_ok-is_old.ensures ∙ old_as))
    (sym c.if-not-gives_view_up.false ∙ gives_as m c.args.state c.args.job r w c.args.below c.gives_view_up.result h.job gives)
    low
    goes

pub goes_on_from-requires-2 : goal.goes_on_from-requires-2
goes_on_from-requires-2 g c =
    let m = means g.K.Kind g.K.Registry in
    let was : c.deref_mut.result.now ≡ c.args.state = c.deref_mut.ensures.value ∙ c.state-2.view_is in
    subst (λ (s : StateOf m). HasNumbersLeft m (record s { view = None })) (sym was) c.requires.numbers
