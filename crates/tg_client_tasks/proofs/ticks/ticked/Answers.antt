use Rattle.std.proofs.Common.{Option, subst}
use Rattle.tg_client_state.specs.Tasks.{WorkOf}
use Rattle.tg_client_state.specs.States.{KeepsClient}
use Rattle.tg_play.proofs.Means.{means}
use Rattle.tg_client_state.specs.Moves.{IsKept}
use Rattle.tg_client_tasks.proofs.ticks.ticked.Goals as goal

pub returns-in-None : goal.returns-in-None
returns-in-None g c = λ d h. c.rests.ensures d (subst (λ (w : Option (WorkOf (means g.K.Kind g.K.Registry))). KeepsClient (means g.K.Kind g.K.Registry) c.args.state w d) c.in-None.is h)

pub asks_again-requires-clause-kept : goal.asks_again-requires-clause-kept
asks_again-requires-clause-kept g c = subst (λ (w : Option (WorkOf (means g.K.Kind g.K.Registry))). IsKept (means g.K.Kind g.K.Registry) c.args.state w) c.in-Some.is c.requires.kept

pub returns-in-Some : goal.returns-in-Some
returns-in-Some g c = λ d h. c.asks_again.ensures d (subst (λ (w : Option (WorkOf (means g.K.Kind g.K.Registry))). KeepsClient (means g.K.Kind g.K.Registry) c.args.state w d) c.in-Some.is h)
