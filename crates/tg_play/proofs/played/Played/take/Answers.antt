use Rattle.std.proofs.Common.{◌+◌, None, sym, ap, ◌∙◌}
use Rattle.tg_play.specs.Relations.{told_verdict}
use Rattle.tg_play.proofs.Means.{means}
use Rattle.tg_play.proofs.Stepping.{commit_told, commit_begun, stuck_made, passed_made, abort_made, over_made, commit_made_on}
use Rattle.tg_play.proofs.Lasting.{lawful_more, stays, opened_lawful, fated_lawful}
use Rattle.tg_play.proofs.played.Played.take.Goals as goal

pub returns-then-played-clause-stepped : goal.returns-then-played-clause-stepped
returns-then-played-clause-stepped g c = λ v e same k.
    stuck_made (means g.K.Kind g.K.Registry) c.args.self.now v c.args.pos e c.args.writes.now c.args.needs c.in-Unknown.missing (told_verdict c.args.verdict) (ap told_verdict c.in-Unknown.is)
    same (sym c.if-played.true ∙ c.plays_any-played.ensures v k.objects) k

pub returns-in_ok-note_open-in-Unknown-clause-stepped : goal.returns-in_ok-note_open-in-Unknown-clause-stepped
returns-in_ok-note_open-in-Unknown-clause-stepped g c = λ v e same k.
    passed_made (means g.K.Kind g.K.Registry) c.args.self.now _ v c.args.pos e c.args.writes.now c.args.needs c.in-Unknown.missing (told_verdict c.args.verdict) (ap told_verdict c.in-Unknown.is)
    same (sym c.if-played.false ∙ c.plays_any-played.ensures v k.objects) c.in_ok-note_open-in-Unknown.ensures k

pub returns-in_ok-note_fate-in-Aborts-clause-stepped : goal.returns-in_ok-note_fate-in-Aborts-clause-stepped
returns-in_ok-note_fate-in-Aborts-clause-stepped g c = λ v e same k.
    abort_made (means g.K.Kind g.K.Registry) c.args.self.now _ _ v c.args.pos e c.args.needs (told_verdict c.args.verdict) (ap told_verdict c.in-Aborts.is)
    c.in_ok-note_open-in-Aborts.ensures c.in_ok-note_fate-in-Aborts.ensures k

pub returns-else-played-2-clause-stepped : goal.returns-else-played-2-clause-stepped
returns-else-played-2-clause-stepped g c = λ v e same k.
    over_made (means g.K.Kind g.K.Registry) c.args.self.now _ _ v c.args.pos e c.args.writes.now c.args.needs (told_verdict c.args.verdict) (ap told_verdict c.in-Commits.is)
    same (sym c.if-played-2.false ∙ c.plays_any-played.ensures v k.objects) c.in_ok-note_open-in-Commits.ensures c.in_ok-note_fate-in-Commits.ensures k

pub returns-then-played-2-clause-stepped : goal.returns-then-played-2-clause-stepped
returns-then-played-2-clause-stepped g c = λ v e same k.
    commit_made_on (means g.K.Kind g.K.Registry) c.args.self.now _ _ c.write_all.new.self v c.args.pos e c.args.writes.now c.args.needs (told_verdict c.args.verdict) (ap told_verdict c.in-Commits.is)
    same (sym c.if-played-2.true ∙ c.plays_any-played.ensures v k.objects) c.in_ok-note_open-in-Commits.ensures c.in_ok-note_fate-in-Commits.ensures c.in_ok-write_all-in-Commits.ensures.rest k
    (c.in_ok-write_all-in-Commits.ensures.objects (commit_told (means g.K.Kind g.K.Registry) v c.args.pos c.args.needs)
    (commit_begun (means g.K.Kind g.K.Registry) c.args.self.now _ _ v c.args.pos c.args.needs c.in_ok-note_open-in-Commits.ensures c.in_ok-note_fate-in-Commits.ensures k))

pub returns-then-played-clause-lawful : goal.returns-then-played-clause-lawful
returns-then-played-clause-lawful g c = λ bound k. k

pub returns-in_ok-note_open-in-Unknown-clause-lawful : goal.returns-in_ok-note_open-in-Unknown-clause-lawful
returns-in_ok-note_open-in-Unknown-clause-lawful g c = λ bound k.
    stays bound c.args.pos None _ (opened_lawful bound c.args.pos c.args.self.now _ c.args.needs c.in_ok-note_open-in-Unknown.ensures k)

pub returns-in_ok-note_fate-in-Aborts-clause-lawful : goal.returns-in_ok-note_fate-in-Aborts-clause-lawful
returns-in_ok-note_fate-in-Aborts-clause-lawful g c = λ bound k.
    stays bound c.args.pos None _
    (fated_lawful bound c.args.pos _ _ _ c.in_ok-note_fate-in-Aborts.ensures (opened_lawful bound c.args.pos c.args.self.now _ c.args.needs c.in_ok-note_open-in-Aborts.ensures k))

pub returns-else-played-2-clause-lawful : goal.returns-else-played-2-clause-lawful
returns-else-played-2-clause-lawful g c = λ bound k.
    stays bound c.args.pos None _
    (fated_lawful bound c.args.pos _ _ _ c.in_ok-note_fate-in-Commits.ensures (opened_lawful bound c.args.pos c.args.self.now _ c.args.needs c.in_ok-note_open-in-Commits.ensures k))

pub returns-then-played-2-clause-lawful : goal.returns-then-played-2-clause-lawful
returns-then-played-2-clause-lawful g c = λ bound k le.
    c.in_ok-write_all-in-Commits.ensures.lawful
    (lawful_more bound (c.args.pos + 1) _ le
    (fated_lawful bound c.args.pos _ _ _ c.in_ok-note_fate-in-Commits.ensures (opened_lawful bound c.args.pos c.args.self.now _ c.args.needs c.in_ok-note_open-in-Commits.ensures k)))
