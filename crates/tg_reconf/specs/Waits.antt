-- Whether a message answers a request.
use Rattle.std.specs.Prelude.{ℕ, Bool, false, Option, Some, None}
use Rattle.tg_base.specs.declared.change.Join.{Join}
use Rattle.tg_base.specs.declared.ids.NodeId.{NodeId}
use Rattle.tg_base.specs.declared.ids.Role.TheVariants as role
use Rattle.tg_protocol.specs.Words.{unit_id, seqr_id}
use Rattle.tg_chain.specs.Waits.{waits_on}
use Rattle.tg_chain.specs.Waits.{is_answer}
use Rattle.tg_reconf.specs.declared.plan.Plan.{Plan}
use Rattle.tg_reconf.specs.declared.job.Work.{Work}
use Rattle.tg_reconf.specs.declared.job.Work.TheVariants as work
use Rattle.tg_reconf.specs.States.{stage_waits}

-- it answers the request to the unit that joins
abbrev pub joined_on : Option Join → ℕ → NodeId → ℕ → Bool
joined_on None own from rid = false
joined_on (Some j) own from rid = is_answer (unit_id j.unit) own from rid

-- it answers one of the present step
abbrev pub asked_on : Plan → Work → NodeId → ℕ → Bool
asked_on p (work.SealsSpare k) from rid = joined_on p.change.join k from rid
asked_on p (work.LooksAtSpare k) from rid = joined_on p.change.join k from rid
asked_on p (work.Seals ws acks) from rid = waits_on role.Unit ws from rid
asked_on p (work.LooksAgain k acks) from rid = joined_on p.change.join k from rid
asked_on p (work.Votes v) from rid = waits_on role.Layout (stage_waits v.stage) from rid
asked_on p (work.Tells ws n q) from rid = waits_on role.Layout ws from rid
asked_on p (work.Starts k) from rid = is_answer (seqr_id p.stand.proj.seq) k from rid
