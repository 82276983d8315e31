use Rattle.tg_play.proofs.Means.{means}
use Rattle.tg_client_state.specs.States.{client_of}
use Rattle.tg_client_answers.proofs.TellingPast.{moves_same, view_told, gone_told}
use Rattle.tg_client_answers.proofs.past.replied.Goals as goal

pub returns-in-Played : goal.returns-in-Played
returns-in-Played g c = λ r t old hv ht.
    let m = means g.K.Kind g.K.Registry in
    view_told m c.args.turn c.in-Played.view c.in-Played.came t (client_of m c.args.state r) c.args.at c.args.oid c.args.ask old c.played.result c.in-Played.is ht (λ v hp. c.played.ensures r v old hv hp)

pub returns-in-Gone : goal.returns-in-Gone
returns-in-Gone g c = λ r t old hv ht.
    let m = means g.K.Kind g.K.Registry in
    moves_same m c.refuses.result old _ _ (gone_told m c.args.turn c.in-Gone.below t (client_of m c.args.state r) c.args.at c.args.oid c.args.ask c.in-Gone.is ht) (c.refuses.ensures r old hv)
