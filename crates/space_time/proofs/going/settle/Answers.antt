use Rattle.std.proofs.lemmas.Result.{IfOk-weaker}
use Rattle.tg_protocol.specs.Worlds.{drain, rounds, settle, unless_stopped}
use Rattle.tg_any.specs.AllKinds.{all_kinds}
use Rattle.tg_replay.specs.Runs.{Worlds}
use Rattle.space_time.proofs.Parts.{same, first, both}
use Rattle.space_time.proofs.Ticking.{settling}
use Rattle.space_time.proofs.going.settle.Goals as goal

pub rounds-requires : goal.rounds-requires
rounds-requires c = c.in_ok-drained.ensures.recorded

pub returns-in-Some : goal.returns-in-Some
returns-in-Some c =
    same c.args.recording (λ (w : Worlds). unless_stopped all_kinds (drain all_kinds w) (λ (v : Worlds). rounds all_kinds 8 v)) (λ (w : Worlds). settle all_kinds w) c.in_ok-drained.drained (λ w k. settling all_kinds w)
    (first c.args.recording (λ (w : Worlds). drain all_kinds w) (λ (v : Worlds). rounds all_kinds 8 v) c.in_ok-drained.drained c.in-Some.field-0 c.in_ok-drained.ensures c.in-Some.is)

pub returns-in-None : goal.returns-in-None
returns-in-None c =
    IfOk-weaker c.rounds.result _ _
    (λ p b.
    same c.args.recording (λ (w : Worlds). unless_stopped all_kinds (drain all_kinds w) (λ (v : Worlds). rounds all_kinds 8 v)) (λ (w : Worlds). settle all_kinds w) p (λ w k. settling all_kinds w)
    (both c.args.recording (λ (w : Worlds). drain all_kinds w) (λ (v : Worlds). rounds all_kinds 8 v) c.in_ok-drained.drained p c.in_ok-drained.ensures c.in-None.is b))
    c.rounds.ensures
