use Rattle.std.proofs.Common.{◌∙◌, ◌-◌, sym}
use Rattle.std.proofs.lemmas.Result.{IfOk-weaker}
use Rattle.std.specs.Prelude.{None}
use Rattle.tg_protocol.specs.Worlds.{ran, drain, tick_all, rounds, unless_stopped}
use Rattle.tg_any.specs.AllKinds.{all_kinds}
use Rattle.tg_replay.specs.Runs.{Worlds}
use Rattle.space_time.proofs.Parts.{went, same, none, first, both}
use Rattle.space_time.proofs.Ticking.{rounds_none, after_ticks, round_is, idle_round, busy_round}
use Rattle.space_time.proofs.going.+rounds.Goals as goal

pub returns-then-left-eq0 : goal.returns-then-left-eq0
returns-then-left-eq0 t c =
    same c.args.recording (λ (w : Worlds). ran all_kinds w None) (λ (w : Worlds). rounds all_kinds c.args.left w) (went c.args.recording None)
    (λ w k. sym (rounds_none all_kinds c.args.left w c.if-left-eq0.true)) (none c.args.recording None c.requires)

pub returns-in-Some : goal.returns-in-Some
returns-in-Some t c =
    let ns = c.as_slice.result.now in
    let sent = c.sent-sent.result in
    same c.args.recording (λ (w : Worlds). unless_stopped all_kinds (tick_all all_kinds ns w) (after_ticks all_kinds (c.args.left - 1) sent)) (λ (w : Worlds). rounds all_kinds c.args.left w) c.in_ok-ticked.ticked
    (λ w k. round_is all_kinds c.args.left sent ns w c.if-left-eq0.false (c.as_slice.ensures.value ∙ c.in_ok-nodes.ensures w k) (c.sent-sent.ensures w k))
    (first c.args.recording (λ (w : Worlds). tick_all all_kinds ns w) (after_ticks all_kinds (c.args.left - 1) sent) c.in_ok-ticked.ticked c.in-Some.field-0 c.in_ok-ticked.ensures c.in-Some.is)

pub drain-requires : goal.drain-requires
drain-requires t c = c.in_ok-ticked.ensures.recorded

pub returns-then-sent : goal.returns-then-sent
returns-then-sent t c =
    let ns = c.as_slice.result.now in
    let sent = c.sent-sent.result in
    let ticked = c.in_ok-ticked.ticked in
    IfOk-weaker c.drain.result _ _
    (λ p h.
    same c.args.recording (λ (w : Worlds). unless_stopped all_kinds (tick_all all_kinds ns w) (after_ticks all_kinds (c.args.left - 1) sent)) (λ (w : Worlds). rounds all_kinds c.args.left w) p
    (λ w k. round_is all_kinds c.args.left sent ns w c.if-left-eq0.false (c.as_slice.ensures.value ∙ c.in_ok-nodes.ensures w k) (c.sent-sent.ensures w k))
    (both c.args.recording (λ (w : Worlds). tick_all all_kinds ns w) (after_ticks all_kinds (c.args.left - 1) sent) ticked p c.in_ok-ticked.ensures c.in-None.is
    (same ticked.recording (λ (v : Worlds). drain all_kinds v) (after_ticks all_kinds (c.args.left - 1) sent) p (λ v k. sym (idle_round all_kinds (c.args.left - 1) sent v c.sent.result (c.sent.ensures v k) c.if-sent.true)) h)))
    c.drain.ensures

pub returns-in-Some-stopped : goal.returns-in-Some-stopped
returns-in-Some-stopped t c =
    let ns = c.as_slice.result.now in
    let sent = c.sent-sent.result in
    let ticked = c.in_ok-ticked.ticked in
    let drained = c.in_ok-drained-in-None.drained in
    same c.args.recording (λ (w : Worlds). unless_stopped all_kinds (tick_all all_kinds ns w) (after_ticks all_kinds (c.args.left - 1) sent)) (λ (w : Worlds). rounds all_kinds c.args.left w) drained
    (λ w k. round_is all_kinds c.args.left sent ns w c.if-left-eq0.false (c.as_slice.ensures.value ∙ c.in_ok-nodes.ensures w k) (c.sent-sent.ensures w k))
    (both c.args.recording (λ (w : Worlds). tick_all all_kinds ns w) (after_ticks all_kinds (c.args.left - 1) sent) ticked drained c.in_ok-ticked.ensures c.in-None.is
    (same ticked.recording (λ (v : Worlds). unless_stopped all_kinds (drain all_kinds v) (λ (u : Worlds). rounds all_kinds (c.args.left - 1) u)) (after_ticks all_kinds (c.args.left - 1) sent) drained
    (λ v k. sym (busy_round all_kinds (c.args.left - 1) sent v c.sent.result (c.sent.ensures v k) c.if-sent.false))
    (first ticked.recording (λ (v : Worlds). drain all_kinds v) (λ (u : Worlds). rounds all_kinds (c.args.left - 1) u) drained c.in-Some-stopped.field-0 c.in_ok-drained-in-None.ensures c.in-Some-stopped.is)))

pub returns : goal.returns
returns t c =
    let ns = c.as_slice.result.now in
    let sent = c.sent-sent.result in
    let ticked = c.in_ok-ticked.ticked in
    let drained = c.in_ok-drained-in-None.drained in
    IfOk-weaker c.rounds.result _ _
    (λ p h.
    same c.args.recording (λ (w : Worlds). unless_stopped all_kinds (tick_all all_kinds ns w) (after_ticks all_kinds (c.args.left - 1) sent)) (λ (w : Worlds). rounds all_kinds c.args.left w) p
    (λ w k. round_is all_kinds c.args.left sent ns w c.if-left-eq0.false (c.as_slice.ensures.value ∙ c.in_ok-nodes.ensures w k) (c.sent-sent.ensures w k))
    (both c.args.recording (λ (w : Worlds). tick_all all_kinds ns w) (after_ticks all_kinds (c.args.left - 1) sent) ticked p c.in_ok-ticked.ensures c.in-None.is
    (same ticked.recording (λ (v : Worlds). unless_stopped all_kinds (drain all_kinds v) (λ (u : Worlds). rounds all_kinds (c.args.left - 1) u)) (after_ticks all_kinds (c.args.left - 1) sent) p
    (λ v k. sym (busy_round all_kinds (c.args.left - 1) sent v c.sent.result (c.sent.ensures v k) c.if-sent.false))
    (both ticked.recording (λ (v : Worlds). drain all_kinds v) (λ (u : Worlds). rounds all_kinds (c.args.left - 1) u) drained p c.in_ok-drained-in-None.ensures c.in-None-stopped.is h))))
    c.rounds.ensures
