use Rattle.std.specs.Prelude.{IfOk, None, Some}
use Rattle.tg_play.proofs.Means.{means}
use Rattle.tg_client_state.specs.States.{KeepsMoved, StateOf}
use Rattle.tg_stream.specs.Walks.{members_of}
use Rattle.tg_client_sync.proofs.Ending.{ended_as}
use Rattle.std.proofs.Common.{refl, subst, sym}
use Rattle.tg_client_state.specs.Counts.{HasNumbersLeft}
use Rattle.tg_client_sync.proofs.walking.walk_ended.Goals as goal

pub returns-in-None : goal.returns-in-None
returns-in-None g c = λ r w old h.
    ended_as (means g.K.Kind g.K.Registry) (λ z. IfOk c.walks.result (λ x. KeepsMoved (means g.K.Kind g.K.Registry) old x z)) c.args.state c.in_ok-state.state c.args.job c.in_ok-state.job r w old c.args.oid c.args.rest c.as_slice.result.now c.args.end None h c.as_slice.ensures
    c.in_ok-state.ensures.state c.in_ok-state.ensures.job c.in-None.is (λ i. c.walks.ensures r _ old i)

pub returns-in-Some : goal.returns-in-Some
returns-in-Some g c = λ r w old h.
    ended_as (means g.K.Kind g.K.Registry) (λ z. IfOk c.at_trim.result (λ x. KeepsMoved (means g.K.Kind g.K.Registry) old x z)) c.args.state c.in_ok-state.state c.args.job c.in_ok-state.job r w old c.args.oid c.args.rest c.as_slice.result.now c.args.end (Some c.in-Some.below) h c.as_slice.ensures
    c.in_ok-state.ensures.state c.in_ok-state.ensures.job c.in-Some.is (λ i. c.at_trim.ensures r _ old (members_of c.args.end) refl i)

pub walks-requires : goal.walks-requires
walks-requires g c = subst (λ (s : StateOf (means g.K.Kind g.K.Registry)). HasNumbersLeft (means g.K.Kind g.K.Registry) s) (sym c.in_ok-state.ensures.state) c.requires.numbers

pub at_trim-requires-clause-numbers : goal.at_trim-requires-clause-numbers
at_trim-requires-clause-numbers g c = subst (λ (s : StateOf (means g.K.Kind g.K.Registry)). HasNumbersLeft (means g.K.Kind g.K.Registry) s) (sym c.in_ok-state.ensures.state) c.requires.numbers
