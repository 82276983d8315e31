use Rattle.std.proofs.Common.{ap, ◌∙◌}
use Rattle.tg_play.proofs.Means.{means}
use Rattle.tg_protocol.specs.Clients.{all_entries}
use Rattle.tg_rescue.specs.declared.rescue.RescueTurn.TheVariants as rescue
use Rattle.tg_client_state.specs.States.{client_of}
use Rattle.tg_client_answers.proofs.TellingPast.{moves_same, widens, comes_to, is_absent}
use Rattle.tg_client_state.specs.Tasks.{JobOf}
use Rattle.tg_client_answers.proofs.rescue.after.Goals as goal

pub returns-in-Wider : goal.returns-in-Wider
returns-in-Wider g c = λ r w old le hv hj.
    let m = means g.K.Kind g.K.Registry in
    let es = all_entries m (client_of m c.args.state r) w w.oids in
    moves_same m c.wider.result old _ _ (widens m (client_of m c.args.state r) c.args.job w es c.args.at c.args.turn c.in-Wider.added hj c.in-Wider.is) (c.wider.ensures r w old le hv hj)

pub returns-in-Wide : goal.returns-in-Wide
returns-in-Wide g c = λ r w old le hv hj.
    let m = means g.K.Kind g.K.Registry in
    let es = all_entries m (client_of m c.args.state r) w w.oids in
    moves_same m c.refuses.result old _ _ (comes_to m (client_of m c.args.state r) w es c.args.at c.args.turn rescue.Wide c.in-Wide.is) (c.refuses.ensures r old hv)

pub returns-in-Absent : goal.returns-in-Absent
returns-in-Absent g c = λ r w old le hv hj.
    let m = means g.K.Kind g.K.Registry in
    let es = all_entries m (client_of m c.args.state r) w w.oids in
    moves_same m c.absent.result old _ _ (is_absent m (client_of m c.args.state r) c.args.job w es c.args.at c.args.turn c.as_slice.result.now c.trim_above-above.result hj c.in-Absent.is (c.as_slice.ensures ∙ ap (λ (j : JobOf m). j.trims) (c.deref.ensures ∙ c.job.view_is)) c.trim_above-above.ensures) (c.absent.ensures r old hv)

pub returns-in-Stuck : goal.returns-in-Stuck
returns-in-Stuck g c = λ r w old le hv hj.
    let m = means g.K.Kind g.K.Registry in
    let es = all_entries m (client_of m c.args.state r) w w.oids in
    moves_same m c.refuses-in-Stuck.result old _ _ (comes_to m (client_of m c.args.state r) w es c.args.at c.args.turn (rescue.Stuck c.in-Stuck.pos c.in-Stuck.missing) c.in-Stuck.is) (c.refuses-in-Stuck.ensures r old hv)

pub returns-in-Known : goal.returns-in-Known
returns-in-Known g c = λ r w old le hv hj.
    let m = means g.K.Kind g.K.Registry in
    let es = all_entries m (client_of m c.args.state r) w w.oids in
    moves_same m c.known.result old _ _ (comes_to m (client_of m c.args.state r) w es c.args.at c.args.turn (rescue.Known c.in-Known.yes c.in-Known.needs) c.in-Known.is) (c.known.ensures r w old le hv hj)

pub wider-requires : goal.wider-requires
wider-requires g c = c.requires.next
