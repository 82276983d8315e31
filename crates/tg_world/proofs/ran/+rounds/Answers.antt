use Rattle.std.proofs.Common.{◌≡◌, ◌∙◌, ◌<◌, ◌-◌, true, false, length, refl, sym, ap, subst, arith}
use Rattle.std.specs.Prelude.{IfOk, is_some, Option}
use Rattle.tg_base.specs.declared.fault.Which.{Which}
use Rattle.tg_play.proofs.Means.{means}
use Rattle.tg_protocol.specs.Worlds.{Ran, nodes, drain, tick_all, rounds}
use Rattle.tg_world.specs.Kept.{IsWorld, KeepsWorld}
use Rattle.tg_world.proofs.Rounds.{as_many, not_as_many, rounds_none, rounds_stop, rounds_last, rounds_full, rounds_next}
use Rattle.tg_world.proofs.ran.+rounds.Goals as goal
use Rattle.tg_world.proofs.ran.+rounds.Goals.{then-idle-via-then-idle, then-idle-via-else-idle+then-is_some-2}

pub tick_all-requires : goal.tick_all-requires
tick_all-requires g t c = c.requires

pub drain-requires : goal.drain-requires
drain-requires g t c =
    let m = means g.K.Kind g.K.Registry in
    record { world = (tick_all m c.as_slice.result.now c.requires.world).world; keeps = c.in_ok-ran.ensures.world c.requires.world c.requires.keeps }

pub rounds-requires : goal.rounds-requires
rounds-requires g t c =
    let m = means g.K.Kind g.K.Registry in
    let is : IsWorld m c.in_ok-ran-2.ran.world = record { world = _; keeps = c.in_ok-ran-2.ensures.world (tick_all m c.as_slice.result.now c.requires.world).world (c.in_ok-ran.ensures.world c.requires.world c.requires.keeps) } in
    λ κs outlives. (omega (arith, c.decreases, c.if-left-eq0.false), (outlives.0, (outlives.1.0, (outlives.1.1.0, (outlives.1.1.1, is)))))

pub returns-then-left-eq0-clause-world : goal.returns-then-left-eq0-clause-world
returns-then-left-eq0-clause-world g t c = λ w h.
    let m = means g.K.Kind g.K.Registry in
    subst (λ (x : Ran m). KeepsWorld m c.args.world x.world) (sym (rounds_none m c.args.left w c.if-left-eq0.true)) h

pub returns-then-left-eq0-clause-stopped : goal.returns-then-left-eq0-clause-stopped
returns-then-left-eq0-clause-stopped g t c = λ w h.
    let m = means g.K.Kind g.K.Registry in
    ap (λ (x : Ran m). x.stopped) (sym (rounds_none m c.args.left w c.if-left-eq0.true))

pub returns-then-is_some-clause-world : goal.returns-then-is_some-clause-world
returns-then-is_some-clause-world g t c = λ w h.
    let m = means g.K.Kind g.K.Registry in
    let some : 0 < c.args.left = omega arith in
    let is : c.as_slice.result.now ≡ nodes m w = c.as_slice.ensures.value ∙ c.in_ok-nodes.ensures w h in
    let stops : is_some (tick_all m c.as_slice.result.now w).stopped ≡ true = ap (λ (o : Option Which). is_some o) (sym (c.in_ok-ran.ensures.stopped w h)) ∙ sym c.is_some.ensures ∙ c.if-is_some.true in
    subst (λ (x : Ran m). KeepsWorld m c.in_ok-ran.ran.world x.world) (sym (rounds_stop m c.args.left w c.as_slice.result.now some is stops)) (c.in_ok-ran.ensures.world w h)

pub returns-then-is_some-clause-stopped : goal.returns-then-is_some-clause-stopped
returns-then-is_some-clause-stopped g t c = λ w h.
    let m = means g.K.Kind g.K.Registry in
    let some : 0 < c.args.left = omega arith in
    let is : c.as_slice.result.now ≡ nodes m w = c.as_slice.ensures.value ∙ c.in_ok-nodes.ensures w h in
    let stops : is_some (tick_all m c.as_slice.result.now w).stopped ≡ true = ap (λ (o : Option Which). is_some o) (sym (c.in_ok-ran.ensures.stopped w h)) ∙ sym c.is_some.ensures ∙ c.if-is_some.true in
    c.in_ok-ran.ensures.stopped w h ∙ ap (λ (x : Ran m). x.stopped) (sym (rounds_stop m c.args.left w c.as_slice.result.now some is stops))

pub returns-then-idle-clause-world : goal.returns-then-idle-clause-world
returns-then-idle-clause-world g t c = λ w h.
    let m = means g.K.Kind g.K.Registry in
    let some : 0 < c.args.left = omega arith in
    let is : c.as_slice.result.now ≡ nodes m w = c.as_slice.ensures.value ∙ c.in_ok-nodes.ensures w h in
    let going : is_some (tick_all m c.as_slice.result.now w).stopped ≡ false = ap (λ (o : Option Which). is_some o) (sym (c.in_ok-ran.ensures.stopped w h)) ∙ sym c.is_some.ensures ∙ c.if-is_some.false in
    let ticked : KeepsWorld m c.in_ok-ran.ran.world (tick_all m c.as_slice.result.now w).world = c.in_ok-ran.ensures.world w h in
    let after : c.sent.result ≡ length (tick_all m c.as_slice.result.now w).world.packets = c.sent.ensures (tick_all m c.as_slice.result.now w).world ticked in
    let before : c.sent-sent.result ≡ length w.packets = c.sent-sent.ensures w h in
    let ends : rounds m c.args.left w ≡ drain m (tick_all m c.as_slice.result.now w).world = elim c.then-idle.branch [
      | then-idle-via-then-idle v ↦ rounds_last m c.args.left w c.as_slice.result.now some is going (as_many c.sent.result c.sent-sent.result (length (tick_all m c.as_slice.result.now w).world.packets) (length w.packets) after before v.if-idle.true)
      | then-idle-via-else-idle+then-is_some-2 v ↦
          rounds_full m c.args.left w c.as_slice.result.now some is going (not_as_many c.sent.result c.sent-sent.result (length (tick_all m c.as_slice.result.now w).world.packets) (length w.packets) after before v.if-idle.false)
          (ap (λ (o : Option Which). is_some o) (sym (c.in_ok-ran-2.ensures.stopped (tick_all m c.as_slice.result.now w).world ticked)) ∙ sym v.is_some-else-idle.ensures ∙ v.if-is_some-2.true)
    ] in
    subst (λ (x : Ran m). KeepsWorld m c.in_ok-ran-2.ran.world x.world) (sym ends) (c.in_ok-ran-2.ensures.world (tick_all m c.as_slice.result.now w).world ticked)

pub returns-then-idle-clause-stopped : goal.returns-then-idle-clause-stopped
returns-then-idle-clause-stopped g t c = λ w h.
    let m = means g.K.Kind g.K.Registry in
    let some : 0 < c.args.left = omega arith in
    let is : c.as_slice.result.now ≡ nodes m w = c.as_slice.ensures.value ∙ c.in_ok-nodes.ensures w h in
    let going : is_some (tick_all m c.as_slice.result.now w).stopped ≡ false = ap (λ (o : Option Which). is_some o) (sym (c.in_ok-ran.ensures.stopped w h)) ∙ sym c.is_some.ensures ∙ c.if-is_some.false in
    let ticked : KeepsWorld m c.in_ok-ran.ran.world (tick_all m c.as_slice.result.now w).world = c.in_ok-ran.ensures.world w h in
    let after : c.sent.result ≡ length (tick_all m c.as_slice.result.now w).world.packets = c.sent.ensures (tick_all m c.as_slice.result.now w).world ticked in
    let before : c.sent-sent.result ≡ length w.packets = c.sent-sent.ensures w h in
    let ends : rounds m c.args.left w ≡ drain m (tick_all m c.as_slice.result.now w).world = elim c.then-idle.branch [
      | then-idle-via-then-idle v ↦ rounds_last m c.args.left w c.as_slice.result.now some is going (as_many c.sent.result c.sent-sent.result (length (tick_all m c.as_slice.result.now w).world.packets) (length w.packets) after before v.if-idle.true)
      | then-idle-via-else-idle+then-is_some-2 v ↦
          rounds_full m c.args.left w c.as_slice.result.now some is going (not_as_many c.sent.result c.sent-sent.result (length (tick_all m c.as_slice.result.now w).world.packets) (length w.packets) after before v.if-idle.false)
          (ap (λ (o : Option Which). is_some o) (sym (c.in_ok-ran-2.ensures.stopped (tick_all m c.as_slice.result.now w).world ticked)) ∙ sym v.is_some-else-idle.ensures ∙ v.if-is_some-2.true)
    ] in
    c.in_ok-ran-2.ensures.stopped (tick_all m c.as_slice.result.now w).world ticked ∙ ap (λ (x : Ran m). x.stopped) (sym ends)

pub returns-clause-world : goal.returns-clause-world
returns-clause-world g t c = λ w h.
    let m = means g.K.Kind g.K.Registry in
    let some : 0 < c.args.left = omega arith in
    let is : c.as_slice.result.now ≡ nodes m w = c.as_slice.ensures.value ∙ c.in_ok-nodes.ensures w h in
    let going : is_some (tick_all m c.as_slice.result.now w).stopped ≡ false = ap (λ (o : Option Which). is_some o) (sym (c.in_ok-ran.ensures.stopped w h)) ∙ sym c.is_some.ensures ∙ c.if-is_some.false in
    let ticked : KeepsWorld m c.in_ok-ran.ran.world (tick_all m c.as_slice.result.now w).world = c.in_ok-ran.ensures.world w h in
    let after : c.sent.result ≡ length (tick_all m c.as_slice.result.now w).world.packets = c.sent.ensures (tick_all m c.as_slice.result.now w).world ticked in
    let before : c.sent-sent.result ≡ length w.packets = c.sent-sent.ensures w h in
    let on : is_some (drain m (tick_all m c.as_slice.result.now w).world).stopped ≡ false =
    ap (λ (o : Option Which). is_some o) (sym (c.in_ok-ran-2.ensures.stopped (tick_all m c.as_slice.result.now w).world ticked)) ∙ sym c.is_some-else-idle.ensures ∙ c.if-is_some-2.false in
    let goes : rounds m c.args.left w ≡ rounds m (c.args.left - 1) (drain m (tick_all m c.as_slice.result.now w).world).world =
    rounds_next m c.args.left (c.args.left - 1) w c.as_slice.result.now some refl is going
    (not_as_many c.sent.result c.sent-sent.result (length (tick_all m c.as_slice.result.now w).world.packets) (length w.packets) after before c.if-idle.false) on in
    subst (λ (x : Ran m). IfOk c.rounds.result (λ r. KeepsWorld m r.world x.world)) (sym goes)
    (c.rounds.ensures.world (drain m (tick_all m c.as_slice.result.now w).world).world (c.in_ok-ran-2.ensures.world (tick_all m c.as_slice.result.now w).world ticked))

pub returns-clause-stopped : goal.returns-clause-stopped
returns-clause-stopped g t c = λ w h.
    let m = means g.K.Kind g.K.Registry in
    let some : 0 < c.args.left = omega arith in
    let is : c.as_slice.result.now ≡ nodes m w = c.as_slice.ensures.value ∙ c.in_ok-nodes.ensures w h in
    let going : is_some (tick_all m c.as_slice.result.now w).stopped ≡ false = ap (λ (o : Option Which). is_some o) (sym (c.in_ok-ran.ensures.stopped w h)) ∙ sym c.is_some.ensures ∙ c.if-is_some.false in
    let ticked : KeepsWorld m c.in_ok-ran.ran.world (tick_all m c.as_slice.result.now w).world = c.in_ok-ran.ensures.world w h in
    let after : c.sent.result ≡ length (tick_all m c.as_slice.result.now w).world.packets = c.sent.ensures (tick_all m c.as_slice.result.now w).world ticked in
    let before : c.sent-sent.result ≡ length w.packets = c.sent-sent.ensures w h in
    let on : is_some (drain m (tick_all m c.as_slice.result.now w).world).stopped ≡ false =
    ap (λ (o : Option Which). is_some o) (sym (c.in_ok-ran-2.ensures.stopped (tick_all m c.as_slice.result.now w).world ticked)) ∙ sym c.is_some-else-idle.ensures ∙ c.if-is_some-2.false in
    let goes : rounds m c.args.left w ≡ rounds m (c.args.left - 1) (drain m (tick_all m c.as_slice.result.now w).world).world =
    rounds_next m c.args.left (c.args.left - 1) w c.as_slice.result.now some refl is going
    (not_as_many c.sent.result c.sent-sent.result (length (tick_all m c.as_slice.result.now w).world.packets) (length w.packets) after before c.if-idle.false) on in
    subst (λ (x : Ran m). IfOk c.rounds.result (λ r. r.stopped ≡ x.stopped)) (sym goes)
    (c.rounds.ensures.stopped (drain m (tick_all m c.as_slice.result.now w).world).world (c.in_ok-ran-2.ensures.world (tick_all m c.as_slice.result.now w).world ticked))
