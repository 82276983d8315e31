use Rattle.std.proofs.Common.{sym, ap, ◌∙◌, subst, IfOk, Option, None}
use Rattle.tg_base.specs.declared.ids.Oid.{Oid}
use Rattle.tg_entry.specs.Needs.{reads_in, writes_in}
use Rattle.tg_protocol.specs.Entries.{body_commits}
use Rattle.tg_protocol.specs.Views.{Step}
use Rattle.tg_play.specs.Relations.{Stepped}
use Rattle.tg_play.proofs.Means.{means}
use Rattle.tg_play.proofs.Stepping.{commit_made, other_step}
use Rattle.tg_play.proofs.Lasting.{stays}
use Rattle.tg_play.proofs.played.Played.step.Goals as goal

pub returns-in-Commit-clause-stepped : goal.returns-in-Commit-clause-stepped
returns-in-Commit-clause-stepped g c = λ v es decided k.
    subst (λ (s : Step (means g.K.Kind g.K.Registry)). IfOk c.take.result (λ (missing : Option Oid). Stepped (means g.K.Kind g.K.Registry) c.args.pos c.take.new.self v missing s))
    (commit_made (means g.K.Kind g.K.Registry) v es c.args.pos c.args.entry.now c.args.decisions.now.entries c.decision_at-decision.result c.lacks_decision-needs.result _ (ap body_commits c.in-Commit.is) decided
    c.decision_at-decision.ensures c.lacks_decision-needs.ensures (c.verdict-verdict.ensures v c.args.entry.now k.objects (ap reads_in c.in-Commit.is ∙ sym c.as_slice.ensures)))
    (c.take.ensures.stepped v c.args.entry.now (ap writes_in c.in-Commit.is ∙ sym c.as_slice-in-Commit.ensures) k)

pub returns-in-Decision-clause-stepped : goal.returns-in-Decision-clause-stepped
returns-in-Decision-clause-stepped g c = λ v es decided k. other_step (means g.K.Kind g.K.Registry) c.args.self.now v es c.args.pos c.args.entry.now (ap body_commits c.in-Decision.is) k

pub returns-in-Checkpoint-clause-stepped : goal.returns-in-Checkpoint-clause-stepped
returns-in-Checkpoint-clause-stepped g c = λ v es decided k. other_step (means g.K.Kind g.K.Registry) c.args.self.now v es c.args.pos c.args.entry.now (ap body_commits c.in-Checkpoint.is) k

pub returns-in-Decision-clause-lawful : goal.returns-in-Decision-clause-lawful
returns-in-Decision-clause-lawful g c = λ bound k. stays bound c.args.pos None _ k

pub returns-in-Checkpoint-clause-lawful : goal.returns-in-Checkpoint-clause-lawful
returns-in-Checkpoint-clause-lawful g c = λ bound k. stays bound c.args.pos None _ k
