use Rattle.std.proofs.Common.{◌≡◌, ◌∙◌, length, sym, arith}
use Rattle.std.proofs.lemmas.Result.{IfOk-weaker}
use Rattle.std.specs.Prelude.{None, Some}
use Rattle.tg_play.proofs.Splitting.{split_none}
use Rattle.tg_protocol.specs.Worlds.{ran, tick_all}
use Rattle.tg_any.specs.AllKinds.{all_kinds}
use Rattle.tg_replay.specs.Runs.{Worlds}
use Rattle.space_time.proofs.Parts.{went, same, none, next}
use Rattle.space_time.proofs.Ticking.{split_nodes, all_none, all_over, all_stops, all_next}
use Rattle.space_time.proofs.going.+tick_all.Goals as goal

pub returns-in-empty : goal.returns-in-empty
returns-in-empty t c =
    let empty : length c.args.nodes.now ≡ 0 = omega arith in
    same c.args.recording (λ (w : Worlds). ran all_kinds w None) (λ (w : Worlds). tick_all all_kinds c.args.nodes.now w) (went c.args.recording None)
    (λ w k. sym (all_none all_kinds c.args.nodes.now w (split_none c.args.nodes.now empty))) (none c.args.recording None c.requires)

pub returns-then-not-runs : goal.returns-then-not-runs
returns-then-not-runs t c =
    IfOk-weaker c.tick_all.result _ _
    (λ p h.
    same c.args.recording _ (λ (w : Worlds). tick_all all_kinds c.args.nodes.now w) p
    (λ w k. sym (all_over all_kinds c.args.nodes.now _ _ w (split_nodes c.args.nodes.now _ c.in-len1-up.len_at_least) (sym (c.runs.ensures w k) ∙ c.if-not-runs.true))) h)
    c.tick_all.ensures

pub returns-in-Some : goal.returns-in-Some
returns-in-Some t c =
    same c.args.recording (λ (w : Worlds). ran all_kinds w (Some c.in-Some.which)) (λ (w : Worlds). tick_all all_kinds c.args.nodes.now w) (went c.args.recording (Some c.in-Some.which))
    (λ w k.
    sym (all_stops all_kinds c.args.nodes.now _ _ w c.in-Some.which (split_nodes c.args.nodes.now _ c.in-len1-up.len_at_least) (sym (c.runs.ensures w k) ∙ c.if-not-runs.false) (sym (c.limit.ensures.limit w k) ∙ c.in-Some.is)))
    (none c.args.recording (Some c.in-Some.which) c.requires)

pub returns-in_ok-recording-in-None : goal.returns-in_ok-recording-in-None
returns-in_ok-recording-in-None t c =
    IfOk-weaker c.tick_all-in-None.result _ _
    (λ p h.
    same c.args.recording _ (λ (w : Worlds). tick_all all_kinds c.args.nodes.now w) p
    (λ w k.
    sym (all_next all_kinds c.args.nodes.now _ _ w (split_nodes c.args.nodes.now _ c.in-len1-up.len_at_least) (sym (c.runs.ensures w k) ∙ c.if-not-runs.false) (sym (c.limit.ensures.limit w k) ∙ c.in-None.is)))
    (next c.args.recording c.in_ok-recording-in-None.recording _ _ p c.in_ok-recording-in-None.ensures.step h))
    c.tick_all-in-None.ensures
