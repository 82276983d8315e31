use Rattle.std.proofs.Common.{◌≡◌, sym, subst, ◌∙◌}
use Rattle.std.specs.Prelude.{IfOk, []}
use Rattle.tg_play.proofs.Means.{means}
use Rattle.tg_protocol.specs.ClientSteps.{on_walk}
use Rattle.tg_client_cells.specs.Known.{IsSettled}
use Rattle.tg_client_state.specs.Counts.{HasNumbersLeft}
use Rattle.tg_client_state.specs.States.{StateOf, client_of, KeepsMoved}
use Rattle.tg_client_state.specs.Moves.{Holds}
use Rattle.tg_protocol.specs.Walking.{Walk}
use Rattle.tg_stream.specs.Walks.{Course}
use Rattle.tg_stream.specs.declared.members.Members.{Members as GivenEnd}
use Rattle.tg_chain.specs.declared.step.Next.{Next}
use Rattle.tg_client_sync.specs.Walks.{IsStepFit, WalkShown}
use Rattle.tg_client_sync.proofs.Strides.{walk_goes, walk_learns, walk_ends}
use Rattle.tg_client_sync.proofs.walking.on_walk.Goals as goal

pub returns-in-Goes : goal.returns-in-Goes
returns-in-Goes g c = λ r w old t h k.
    let m = means g.K.Kind g.K.Registry in
    let was : c.deref_mut.result.now ≡ c.args.state = c.deref_mut.ensures.value ∙ c.state.view_is in
    subst (λ (s : StateOf m). Holds m s c.args.job r w old → WalkShown old s.known s.rids.next c.args.rids.next c.args.step t → IfOk c.goes_on.result (λ x. KeepsMoved m old x (on_walk m (client_of m s r) w c.args.oid c.args.rest t))) was
    (λ i l. walk_goes m (λ z. IfOk c.goes_on.result (λ x. KeepsMoved m old x z)) c.deref_mut.result.now c.args.job c.meets-job.result c.args.oid c.args.rest c.args.rids c.args.step c.in-Goes.machine r w old t c.in-Goes.is c.meets-job.ensures i l
    (λ a b. c.goes_on.ensures r _ old [] a b)) h k

pub returns-in-Learns : goal.returns-in-Learns
returns-in-Learns g c = λ r w old t h k.
    let m = means g.K.Kind g.K.Registry in
    let was : c.deref_mut.result.now ≡ c.args.state = c.deref_mut.ensures.value ∙ c.state.view_is in
    subst (λ (s : StateOf m). Holds m s c.args.job r w old → WalkShown old s.known s.rids.next c.args.rids.next c.args.step t → IfOk c.learns.result (λ x. KeepsMoved m old x (on_walk m (client_of m s r) w c.args.oid c.args.rest t))) was
    (λ i l. walk_learns m (λ z. IfOk c.learns.result (λ x. KeepsMoved m old x z)) c.deref_mut.result.now c.args.job c.meets-job.result c.args.oid c.args.rest c.args.rids c.args.step c.in-Learns.paused r w old t c.in-Learns.is c.meets-job.ensures i l
    (λ u a b. c.learns.ensures r _ old u a b)) h k

pub returns-in-Ends : goal.returns-in-Ends
returns-in-Ends g c = λ r w old t h k.
    let m = means g.K.Kind g.K.Registry in
    let was : c.deref_mut.result.now ≡ c.args.state = c.deref_mut.ensures.value ∙ c.state.view_is in
    subst (λ (s : StateOf m). Holds m s c.args.job r w old → WalkShown old s.known s.rids.next c.args.rids.next c.args.step t → IfOk c.walk_ended.result (λ x. KeepsMoved m old x (on_walk m (client_of m s r) w c.args.oid c.args.rest t))) was
    (λ i l. walk_ends m (λ z. IfOk c.walk_ended.result (λ x. KeepsMoved m old x z)) c.deref_mut.result.now c.args.job c.meets-job.result c.args.oid c.args.rest c.args.rids c.args.step c.in-Ends.end r w old t c.in-Ends.is c.meets-job.ensures i l
    (λ a. c.walk_ended.ensures r _ old a)) h k

pub walk_ended-requires : goal.walk_ended-requires
walk_ended-requires g c =
    let m = means g.K.Kind g.K.Registry in
    let was : c.deref_mut.result.now ≡ c.args.state = c.deref_mut.ensures.value ∙ c.state.view_is in
    let fit = subst (λ (n : Next Walk Course GivenEnd). IsStepFit c.args.state.known n) c.in-Ends.is c.requires.fit in
    record {
      settled = subst (λ (s : StateOf m). IsSettled s.known.own s.known.settled c.in-Ends.end.cells) (sym was) fit.0;
      order = fit.1;
      numbers = subst (λ (s : StateOf m). HasNumbersLeft m (record s { rids = c.args.rids })) (sym was) c.requires.numbers;
    }

pub learns-requires : goal.learns-requires
learns-requires g c = c.requires.numbers.next
