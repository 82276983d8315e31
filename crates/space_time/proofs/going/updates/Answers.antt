use Rattle.std.proofs.lemmas.Result.{IfOk-weaker}
use Rattle.tg_model.specs.declared.command.Command.TheVariants as cmd
use Rattle.tg_model.specs.declared.command.Event.TheVariants as event
use Rattle.tg_world.specs.Runs.{happens_on, puts_on}
use Rattle.tg_any.specs.AllKinds.{all_kinds}
use Rattle.tg_replay.specs.Runs.{Worlds}
use Rattle.space_time.proofs.Parts.{first, both}
use Rattle.space_time.proofs.going.updates.Goals as goal

pub puts-requires : goal.puts-requires
puts-requires c = c.in_ok-went.ensures.recorded

pub returns-in-Some : goal.returns-in-Some
returns-in-Some c =
    first c.args.recording (λ (w : Worlds). happens_on all_kinds w (event.Command c.args.client cmd.Begin)) (λ (v : Worlds). puts_on all_kinds v c.args.client c.args.oid c.args.op)
    c.in_ok-went.went c.in-Some.field-0 c.in_ok-went.ensures c.in-Some.is

pub returns-in-None : goal.returns-in-None
returns-in-None c =
    IfOk-weaker c.puts.result _ _
    (λ p b.
    both c.args.recording (λ (w : Worlds). happens_on all_kinds w (event.Command c.args.client cmd.Begin)) (λ (v : Worlds). puts_on all_kinds v c.args.client c.args.oid c.args.op)
    c.in_ok-went.went p c.in_ok-went.ensures c.in-None.is b)
    c.puts.ensures
