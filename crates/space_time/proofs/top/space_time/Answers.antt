use Rattle.std.proofs.Common.{sym, subst, ◌∙◌}
use Rattle.tg_io.specs.declared.status.Status.{Status}
use Rattle.tg_replay.specs.Outcomes.{IsOfReplay, Told}
use Rattle.tg_replay.proofs.Promises.{undisturbed}
use Rattle.space_time.specs.Pictures.{IsPictured}
use Rattle.space_time.specs.declared.cut.Cut.{Cut}
use Rattle.space_time.proofs.Ending.{complete_told, refuses_told, limits_told, unnamed, same_cut}
use Rattle.space_time.proofs.top.space_time.Goals as goal

pub returns-in-None-clause-as_replay : goal.returns-in-None-clause-as_replay
returns-in-None-clause-as_replay g c = λ named. unnamed _ c.cut_of.result c.cut_of.ensures c.in-None.is named

pub returns-in-None-clause-ways : goal.returns-in-None-clause-ways
returns-in-None-clause-ways g c = λ named. unnamed _ c.cut_of.result c.cut_of.ensures c.in-None.is named

pub returns-in-None-clause-complete : goal.returns-in-None-clause-complete
returns-in-None-clause-complete g c = λ named. unnamed _ c.cut_of.result c.cut_of.ensures c.in-None.is named

pub returns-in-None-clause-refuses : goal.returns-in-None-clause-refuses
returns-in-None-clause-refuses g c = λ named. unnamed _ c.cut_of.result c.cut_of.ensures c.in-None.is named

pub returns-in-None-clause-limits : goal.returns-in-None-clause-limits
returns-in-None-clause-limits g c = λ named. unnamed _ c.cut_of.result c.cut_of.ensures c.in-None.is named

pub returns-in-Some-clause-words : goal.returns-in-Some-clause-words
returns-in-Some-clause-words g c = λ e. absurd (subst (λ (s : Status). IsOfReplay s) e c.read_and_draw.ensures.ways)

pub returns-in-Some-clause-pictured : goal.returns-in-Some-clause-pictured
returns-in-Some-clause-pictured g c = λ cut named drawn.
    let r = c.read_and_draw in
    subst (λ (x : Cut). Told (g.S.Source.left c.args.source.now) (g.K.Sink.written c.args.sink.now) (g.K.Sink.written r.new.sink) (IsPictured x r.result))
    (same_cut c.in-Some.cut cut (sym c.in-Some.is ∙ c.cut_of.ensures ∙ named)) (r.ensures.pictured drawn)

pub returns-in-Some-clause-complete : goal.returns-in-Some-clause-complete
returns-in-Some-clause-complete g c = λ named no_read no_write.
    let r = c.read_and_draw in
    complete_told (g.S.Source.left c.args.source.now) r.result r.ensures.as_replay (undisturbed r.result _ _ _ _ r.ensures.ways r.ensures.read_fault r.ensures.write_fault no_read no_write)

pub returns-in-Some-clause-refuses : goal.returns-in-Some-clause-refuses
returns-in-Some-clause-refuses g c = λ named no_read no_write.
    let r = c.read_and_draw in
    refuses_told (g.S.Source.left c.args.source.now) r.result r.ensures.as_replay (undisturbed r.result _ _ _ _ r.ensures.ways r.ensures.read_fault r.ensures.write_fault no_read no_write)

pub returns-in-Some-clause-limits : goal.returns-in-Some-clause-limits
returns-in-Some-clause-limits g c = λ named no_read no_write.
    let r = c.read_and_draw in
    limits_told (g.S.Source.left c.args.source.now) r.result r.ensures.as_replay (undisturbed r.result _ _ _ _ r.ensures.ways r.ensures.read_fault r.ensures.write_fault no_read no_write)
