use Rattle.std.proofs.Common.{rules, ◌≡◌, ◌∙◌, length, sym, ap, subst, arith}
use Rattle.std.specs.Prelude.{IfOk}
use Rattle.tg_play.proofs.Means.{means}
use Rattle.tg_play.proofs.Splitting.{split_none}
use Rattle.tg_protocol.specs.Worlds.{Ran}
use Rattle.tg_world.specs.Kept.{IsWorld, KeepsWorld}
use Rattle.tg_world.proofs.Rounds.{split_nodes, all_none, all_over, all_stops, all_next}
use Rattle.tg_world.proofs.ran.+tick_all.Goals as goal

pub tick_all-requires-in-None : goal.tick_all-requires-in-None
tick_all-requires-in-None g t c =
    let m = means g.K.Kind g.K.Registry in
    let is : IsWorld m c.in_ok-world-in-None.world = record { world = _; keeps = c.in_ok-world-in-None.ensures.keeps c.requires.world c.requires.keeps } in
    search (rules, is)

pub returns-in-empty-clause-world : goal.returns-in-empty-clause-world
returns-in-empty-clause-world g t c = λ w h.
    let m = means g.K.Kind g.K.Registry in
    let none : length c.args.nodes.now ≡ 0 = omega arith in
    subst (λ (x : Ran m). KeepsWorld m c.args.world x.world) (sym (all_none m c.args.nodes.now w (split_none c.args.nodes.now none))) h

pub returns-in-empty-clause-stopped : goal.returns-in-empty-clause-stopped
returns-in-empty-clause-stopped g t c = λ w h.
    let m = means g.K.Kind g.K.Registry in
    let none : length c.args.nodes.now ≡ 0 = omega arith in
    ap (λ (x : Ran m). x.stopped) (sym (all_none m c.args.nodes.now w (split_none c.args.nodes.now none)))

pub returns-then-not-runs-clause-world : goal.returns-then-not-runs-clause-world
returns-then-not-runs-clause-world g t c = λ w h.
    let m = means g.K.Kind g.K.Registry in
    subst (λ (x : Ran m). IfOk c.tick_all.result (λ r. KeepsWorld m r.world x.world))
    (sym (all_over m c.args.nodes.now _ _ w (split_nodes c.args.nodes.now _ c.in-len1-up.len_at_least) (sym (c.runs.ensures w h) ∙ c.if-not-runs.true))) (c.tick_all.ensures.world w h)

pub returns-then-not-runs-clause-stopped : goal.returns-then-not-runs-clause-stopped
returns-then-not-runs-clause-stopped g t c = λ w h.
    let m = means g.K.Kind g.K.Registry in
    subst (λ (x : Ran m). IfOk c.tick_all.result (λ r. r.stopped ≡ x.stopped))
    (sym (all_over m c.args.nodes.now _ _ w (split_nodes c.args.nodes.now _ c.in-len1-up.len_at_least) (sym (c.runs.ensures w h) ∙ c.if-not-runs.true))) (c.tick_all.ensures.stopped w h)

pub returns-in-Some-clause-world : goal.returns-in-Some-clause-world
returns-in-Some-clause-world g t c = λ w h.
    let m = means g.K.Kind g.K.Registry in
    subst (λ (x : Ran m). KeepsWorld m c.args.world x.world)
    (sym (all_stops m c.args.nodes.now _ _ w c.in-Some.which (split_nodes c.args.nodes.now _ c.in-len1-up.len_at_least) (sym (c.runs.ensures w h) ∙ c.if-not-runs.false) (sym (c.limit.ensures.limit w h) ∙ c.in-Some.is))) h

pub returns-in-Some-clause-stopped : goal.returns-in-Some-clause-stopped
returns-in-Some-clause-stopped g t c = λ w h.
    let m = means g.K.Kind g.K.Registry in
    ap (λ (x : Ran m). x.stopped)
    (sym (all_stops m c.args.nodes.now _ _ w c.in-Some.which (split_nodes c.args.nodes.now _ c.in-len1-up.len_at_least) (sym (c.runs.ensures w h) ∙ c.if-not-runs.false) (sym (c.limit.ensures.limit w h) ∙ c.in-Some.is)))

pub returns-in_ok-world-in-None-clause-world : goal.returns-in_ok-world-in-None-clause-world
returns-in_ok-world-in-None-clause-world g t c = λ w h.
    let m = means g.K.Kind g.K.Registry in
    subst (λ (x : Ran m). IfOk c.tick_all-in-None.result (λ r. KeepsWorld m r.world x.world))
    (sym (all_next m c.args.nodes.now _ _ w (split_nodes c.args.nodes.now _ c.in-len1-up.len_at_least) (sym (c.runs.ensures w h) ∙ c.if-not-runs.false) (sym (c.limit.ensures.limit w h) ∙ c.in-None.is)))
    (c.tick_all-in-None.ensures.world _ (c.in_ok-world-in-None.ensures.keeps w h))

pub returns-in_ok-world-in-None-clause-stopped : goal.returns-in_ok-world-in-None-clause-stopped
returns-in_ok-world-in-None-clause-stopped g t c = λ w h.
    let m = means g.K.Kind g.K.Registry in
    subst (λ (x : Ran m). IfOk c.tick_all-in-None.result (λ r. r.stopped ≡ x.stopped))
    (sym (all_next m c.args.nodes.now _ _ w (split_nodes c.args.nodes.now _ c.in-len1-up.len_at_least) (sym (c.runs.ensures w h) ∙ c.if-not-runs.false) (sym (c.limit.ensures.limit w h) ∙ c.in-None.is)))
    (c.tick_all-in-None.ensures.stopped _ (c.in_ok-world-in-None.ensures.keeps w h))
