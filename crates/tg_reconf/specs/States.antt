-- A reconfiguration's state in the words of the rules.
use Rattle.std.specs.Prelude.{◌≡◌, ℕ, ◌+◌, ◌<◌, ◌≤◌, ◌^◌, Bool, true, false, [], Option, Some, None}
use Rattle.tg_proj.specs.Refusals.{early_refusal}
use Rattle.tg_protocol.specs.Requests.{Waits}
use Rattle.tg_protocol.specs.Reconfiguring.{Reconf, ReconfWork, SealingSpare, LookingSpare, Sealing, LookingAgain, Agreeing, Telling, Starting, Stage, Preparing, Accepting, Later, Voting}
use Rattle.tg_reconf.specs.declared.plan.Plan.{Plan}
use Rattle.tg_reconf.specs.declared.job.Work.{Work}
use Rattle.tg_reconf.specs.declared.job.Work.TheVariants as work
use Rattle.tg_reconf.specs.declared.vote.Vote.{Vote}
use Rattle.tg_reconf.specs.declared.vote.Round.{Round}
use Rattle.tg_reconf.specs.declared.vote.NextRound.{NextRound}
use Rattle.tg_reconf.specs.declared.vote.VoteStage.{VoteStage}
use Rattle.tg_reconf.specs.declared.vote.VoteStage.TheVariants as stage

abbrev pub later_of : Option NextRound → Option Later
later_of None = None
later_of (Some l) = Some (record { round = l.number; waits = l.waits })

abbrev pub stage_of : VoteStage → Stage
stage_of (stage.Prepares ws ps) = Preparing ws ps
stage_of (stage.Accepts ws n q) = Accepting ws n q

abbrev pub stage_waits : VoteStage → Waits
stage_waits (stage.Prepares ws ps) = ws
stage_waits (stage.Accepts ws n q) = ws

abbrev pub voting_at : Round → Stage → Voting
voting_at r s = record { own = r.own; round = r.number; stage = s; later = later_of r.later }

abbrev pub voting_of : Vote → Voting
voting_of v = voting_at v.round (stage_of v.stage)

abbrev pub work_of : Work → ReconfWork
work_of (work.SealsSpare r) = SealingSpare r
work_of (work.LooksAtSpare r) = LookingSpare r
work_of (work.Seals ws acks) = Sealing ws acks
work_of (work.LooksAgain r acks) = LookingAgain r acks
work_of (work.Votes v) = Agreeing (voting_of v)
work_of (work.Tells ws n q) = Telling ws n q
work_of (work.Starts r) = Starting r

-- what is awaited of the round that a refusal has set
abbrev pub later_waits : Option NextRound → Waits
later_waits None = []
later_waits (Some l) = l.waits

abbrev pub set_waits : Work → Waits
set_waits (work.Votes v) = later_waits v.round.later
set_waits w = []

-- whether the layout servers are told a layout
abbrev pub is_telling : Work → Bool
is_telling (work.Tells ws n q) = true
is_telling w = false

abbrev pub working : Plan → ReconfWork → Reconf
working p w = record { change = p.change; me = p.me; layouts = p.stand.layouts; stand = p.stand.proj; work = w }

-- nothing but an ack may be wanting, and there is a next epoch
pub record IsOpen (p : Plan) : Type 0 where
  pub few : p.stand.proj.epoch < 2 ^ 32
  pub allowed : early_refusal p.stand.proj p.change ≡ None

-- so many servers are no majority
abbrev pub IsMinority : Plan → ℕ → Type 0
IsMinority p n = n + n ≤ p.stand.layouts

abbrev pub HasFew : Plan → VoteStage → Type 0
HasFew p (stage.Prepares ws ps) = Unit {0}
HasFew p (stage.Accepts ws n q) = IsMinority p n

-- the change is open until its layout is adopted, and what is counted is no majority yet
abbrev pub IsReady : Plan → Work → Type 0
IsReady p (work.Votes v) = IsOpen p × HasFew p v.stage
IsReady p (work.Tells ws n q) = IsOpen p × IsMinority p n
IsReady p (work.Starts r) = Unit {0}
IsReady p w = IsOpen p
