use Rattle.std.proofs.Common.{◌≡◌, subst, ◌∙◌, sym}
use Rattle.std.specs.Prelude.{IfOk}
use Rattle.tg_play.proofs.Means.{means}
use Rattle.tg_protocol.specs.ClientSteps.{on_sync}
use Rattle.tg_client_state.specs.States.{StateOf, client_of, KeepsMoved}
use Rattle.tg_client_state.specs.Moves.{Holds}
use Rattle.tg_client_sync.specs.Syncs.{SyncShown}
use Rattle.tg_client_sync.proofs.Confirming.{sync_goes, sync_learns, sync_ends}
use Rattle.tg_client_state.specs.Counts.{HasNumbersLeft}
use Rattle.tg_client_sync.proofs.syncing.on_sync.Goals as goal

pub returns-in-Goes : goal.returns-in-Goes
returns-in-Goes g c = λ r w old t h k.
    let m = means g.K.Kind g.K.Registry in
    let was : c.deref_mut.result.now ≡ c.args.state = c.deref_mut.ensures.value ∙ c.state.view_is in
    subst (λ (s : StateOf m). Holds m s c.args.job r w old → SyncShown old s.stand s.rids.next c.args.rids.next c.args.step t → IfOk c.goes_on.result (λ x. KeepsMoved m old x (on_sync m (client_of m s r) w t))) was
    (λ i l. sync_goes m (λ z. IfOk c.goes_on.result (λ x. KeepsMoved m old x z)) c.deref_mut.result.now c.args.job c.meets-job.result c.args.rids c.args.step c.in-Goes.machine r w old t c.in-Goes.is c.meets-job.ensures i l
    (λ besides a b. c.goes_on.ensures r _ old besides a b)) h k

pub returns-in-Learns : goal.returns-in-Learns
returns-in-Learns g c = λ r w old t h k.
    let m = means g.K.Kind g.K.Registry in
    let was : c.deref_mut.result.now ≡ c.args.state = c.deref_mut.ensures.value ∙ c.state.view_is in
    subst (λ (s : StateOf m). Holds m s c.args.job r w old → SyncShown old s.stand s.rids.next c.args.rids.next c.args.step t → IfOk c.learns.result (λ x. KeepsMoved m old x (on_sync m (client_of m s r) w t))) was
    (λ i l. sync_learns m (λ z. IfOk c.learns.result (λ x. KeepsMoved m old x z)) c.deref_mut.result.now c.args.job c.meets-job.result c.args.rids c.args.step c.in-Learns.paused r w old t c.in-Learns.is c.meets-job.ensures i l
    (λ u a b. c.learns.ensures r _ old u a b)) h k

pub returns-in-Ends : goal.returns-in-Ends
returns-in-Ends g c = λ r w old t h k.
    let m = means g.K.Kind g.K.Registry in
    let was : c.deref_mut.result.now ≡ c.args.state = c.deref_mut.ensures.value ∙ c.state.view_is in
    subst (λ (s : StateOf m). Holds m s c.args.job r w old → SyncShown old s.stand s.rids.next c.args.rids.next c.args.step t → IfOk c.synced.result (λ x. KeepsMoved m old x (on_sync m (client_of m s r) w t))) was
    (λ i l. sync_ends m (λ z. IfOk c.synced.result (λ x. KeepsMoved m old x z)) c.deref_mut.result.now c.args.job c.meets-job.result c.args.rids c.args.step c.in-Ends.end r w old t c.in-Ends.is c.meets-job.ensures i l
    (λ a. c.synced.ensures r _ old a)) h k

pub learns-requires : goal.learns-requires
learns-requires g c = c.requires.next

pub synced-requires : goal.synced-requires
synced-requires g c =
    let m = means g.K.Kind g.K.Registry in
    let was : c.deref_mut.result.now ≡ c.args.state = c.deref_mut.ensures.value ∙ c.state.view_is in
    subst (λ (s : StateOf m). HasNumbersLeft m (record s { rids = c.args.rids })) (sym was) c.requires
