use Rattle.std.specs.Prelude.{IfOk, []}
use Rattle.std.proofs.Common.{◌≡◌, ◌<◌, List, length, sym, ap, subst, ◌∙◌}
use Rattle.tg_base.specs.declared.ids.Oid.{Oid}
use Rattle.tg_play.proofs.Means.{means}
use Rattle.tg_protocol.specs.Clients.{Task, Walking}
use Rattle.tg_protocol.specs.ClientSteps.{walks, goes_on}
use Rattle.tg_protocol.specs.Entries.{backs_of, link_of}
use Rattle.tg_client_cells.specs.Known.{IsSettled, lent}
use Rattle.tg_client_state.specs.Tasks.{JobOf}
use Rattle.tg_client_state.specs.Counts.{HasNumbersLeft}
use Rattle.tg_client_state.specs.States.{StateOf, client_of, KeepsMoved}
use Rattle.tg_client_state.specs.Moves.{Holds, Carries}
use Rattle.tg_client_sync.proofs.First.{none_first, fewer, begins_at, settled_at, known_at, never_learns}
use Rattle.tg_client_sync.proofs.Founds.{none_left}
use Rattle.tg_client_sync.proofs.walking.+walks.Goals as goal

pub returns-in_default : goal.returns-in_default
returns-in_default g t c = λ r w old h.
    subst (λ (os : List Oid). IfOk c.walked.result (λ x. KeepsMoved (means g.K.Kind g.K.Registry) old x (walks (means g.K.Kind g.K.Registry) os (client_of (means g.K.Kind g.K.Registry) c.args.state r) w))) (sym (none_first c.args.oids (sym c.first_of.ensures ∙ c.in_default.is)))
    (subst (λ z. IfOk c.walked.result (λ x. KeepsMoved (means g.K.Kind g.K.Registry) old x z)) (none_left (means g.K.Kind g.K.Registry) (client_of (means g.K.Kind g.K.Registry) c.args.state r) w) (c.walked.ensures r w old h.since h.view h.job))

pub returns-in-Goes : goal.returns-in-Goes
returns-in-Goes g t c = λ r w old h.
    let m = means g.K.Kind g.K.Registry in
    let read : c.deref.result.now ≡ c.args.job = c.deref.ensures ∙ c.job.view_is in
    let state : c.lend-state.result.0 ≡ record c.args.state { known = lent c.args.state.known c.args.job.lo } = c.lend-state.ensures.state ∙ ap (λ (j : JobOf m). record c.args.state { known = lent c.args.state.known j.lo }) read in
    let settled : IsSettled c.args.state.known.own (lent c.args.state.known c.args.job.lo).settled c.lend-state.result.1 = subst (λ (j : JobOf m). IsSettled c.args.state.known.own (lent c.args.state.known j.lo).settled c.lend-state.result.1) read c.lend-state.ensures.settled in
    let u : StateOf m = c.lend-state.result.0 in
    let was : c.deref_mut.result.now ≡ u = c.deref_mut.ensures.value ∙ c.state.view_is in
    let task : Task m = Walking c.in-Goes.machine c.in-Some.rest in
    let goes = subst (λ (s : StateOf m). Holds m (record s { rids = c.in_ok-step.rids }) c.args.job r w old → Carries m (record s { rids = c.in_ok-step.rids }) task old [] c.in_ok-step.step.outs → IfOk c.goes_on.result (λ x. KeepsMoved m old x (goes_on m (client_of m (record s { rids = c.in_ok-step.rids }) r) w task []))) was
    (λ i l. c.goes_on.ensures r w old [] i l) in
    begins_at (means g.K.Kind g.K.Registry) (λ z. IfOk c.goes_on.result (λ x. KeepsMoved (means g.K.Kind g.K.Registry) old x z)) c.args.state c.lend-state.result.0 c.lend-state.result.1 c.args.job c.in-Some.oid c.in-Some.rest c.args.oids c.in_ok-step.rids c.in_ok-step.step c.in-Goes.machine r w old
    (sym c.first_of.ensures ∙ c.in-Some.is) c.lend-state.ensures.cells state settled c.in-Goes.is h c.in_ok-step.ensures
    goes

pub unreachable-requires : goal.unreachable-requires
unreachable-requires g t c =
    never_learns c.lend-state.result.0.stand c.in-Some.oid (backs_of (link_of c.in-Some.oid c.args.job.lasts)) c.args.job.lo c.lend-state.result.1 c.lend-state.result.0.rids.next c.in_ok-step.rids.next c.in_ok-step.step c.in-Learns.paused c.in-Learns.is c.in_ok-step.ensures

pub found-requires : goal.found-requires
found-requires g t c =
    let m = means g.K.Kind g.K.Registry in
    let read : c.deref.result.now ≡ c.args.job = c.deref.ensures ∙ c.job.view_is in
    let state : c.lend-state.result.0 ≡ record c.args.state { known = lent c.args.state.known c.args.job.lo } = c.lend-state.ensures.state ∙ ap (λ (j : JobOf m). record c.args.state { known = lent c.args.state.known j.lo }) read in
    let settled : IsSettled c.args.state.known.own (lent c.args.state.known c.args.job.lo).settled c.lend-state.result.1 = subst (λ (j : JobOf m). IsSettled c.args.state.known.own (lent c.args.state.known j.lo).settled c.lend-state.result.1) read c.lend-state.ensures.settled in
    settled_at (means g.K.Kind g.K.Registry) c.args.state c.lend-state.result.0 c.lend-state.result.1 c.args.job c.in-Some.oid c.in_ok-step.rids.next c.in_ok-step.step c.in-Ends.end
    state settled c.in-Ends.is c.in_ok-step.ensures

pub returns-in_ok-state-in-Ends : goal.returns-in_ok-state-in-Ends
returns-in_ok-state-in-Ends g t c = λ r w old h.
    let m = means g.K.Kind g.K.Registry in
    let read : c.deref.result.now ≡ c.args.job = c.deref.ensures ∙ c.job.view_is in
    let state : c.lend-state.result.0 ≡ record c.args.state { known = lent c.args.state.known c.args.job.lo } = c.lend-state.ensures.state ∙ ap (λ (j : JobOf m). record c.args.state { known = lent c.args.state.known j.lo }) read in
    known_at (means g.K.Kind g.K.Registry) (λ z. IfOk c.walks.result (λ x. KeepsMoved (means g.K.Kind g.K.Registry) old x z)) c.args.state c.lend-state.result.0 c.in_ok-state-in-Ends.state c.lend-state.result.1 c.args.job c.in_ok-state-in-Ends.job c.in-Some.oid c.in-Some.rest c.args.oids c.in_ok-step.rids.next c.in_ok-step.step c.as_slice.result.now c.in-Ends.end r w old
    (sym c.first_of.ensures ∙ c.in-Some.is) c.lend-state.ensures.cells state c.as_slice.ensures c.in_ok-state-in-Ends.ensures.state c.in_ok-state-in-Ends.ensures.job c.in-Ends.is h c.in_ok-step.ensures
    (λ i. c.walks.ensures r _ old i)

pub walks-requires : goal.walks-requires
walks-requires g t c κs within =
    let lt : length c.in-Some.rest < length c.args.oids = fewer c.args.oids c.in-Some.oid c.in-Some.rest (sym c.first_of.ensures ∙ c.in-Some.is) in
    let is : length c.args.oids ≡ t = c.decreases in
    let m = means g.K.Kind g.K.Registry in
    let read : c.deref.result.now ≡ c.args.job = c.deref.ensures ∙ c.job.view_is in
    let state : c.lend-state.result.0 ≡ record c.args.state { known = lent c.args.state.known c.args.job.lo } = c.lend-state.ensures.state ∙ ap (λ (j : JobOf m). record c.args.state { known = lent c.args.state.known j.lo }) read in
    let lends : HasNumbersLeft m c.lend-state.result.0 = subst (λ (s : StateOf m). HasNumbersLeft m s) (sym state) c.requires in
    let numbers : HasNumbersLeft m c.in_ok-state-in-Ends.state = subst (λ (s : StateOf m). HasNumbersLeft m s) (sym c.in_ok-state-in-Ends.ensures.state) lends in
    (subst (λ n. length c.in-Some.rest < n) is lt, (within.0, (within.1.0, (within.1.1.0, (within.1.1.1, numbers)))))
