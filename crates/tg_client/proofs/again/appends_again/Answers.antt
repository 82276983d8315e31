use Rattle.std.proofs.Common.{ap, ◌∙◌, ◌≡◌, arith}
use Rattle.tg_play.proofs.Means.{means}
use Rattle.tg_client.proofs.Resumed.{append_resumes}
use Rattle.tg_client_state.specs.States.{StateOf}
use Rattle.tg_append.specs.Appends.{append_at, by_append}
use Rattle.tg_protocol.specs.Appending.{append_again}
use Rattle.tg_client.proofs.again.appends_again.Goals as goal

pub returns : goal.returns
returns g c = λ r w old t h k f.
    append_resumes (means g.K.Kind g.K.Registry) t c.on_append.result c.args.state c.args.job r w old c.args.append c.args.purpose c.deref.result.now.rids c.resume.new.rids.next c.in_ok-step.step h k f (ap (λ (s : StateOf (means g.K.Kind g.K.Registry)). s.rids) (c.deref.ensures ∙ c.state.view_is)) (λ b. c.in_ok-step.ensures.turn b ∙ ap (λ (s : StateOf (means g.K.Kind g.K.Registry)). by_append s.stand c.deref.result.now.rids.next (append_again s.stand (append_at c.args.append.draft c.args.append.token b) c.deref.result.now.rids.next)) (c.deref-2.ensures ∙ c.state.view_is)) (λ u l. c.on_append.ensures r w old u h l)

pub resume-requires : goal.resume-requires
resume-requires g c =
    let old : c.deref.result.now.rids.next ≡ c.args.state.rids.next = ap (λ (s : StateOf (means g.K.Kind g.K.Registry)). s.rids.next) (c.deref.ensures ∙ c.state.view_is) in
    let near = c.requires in
    omega (arith, old, near)

pub on_append-requires : goal.on_append-requires
on_append-requires g c =
    let old : c.deref.result.now.rids.next ≡ c.args.state.rids.next = ap (λ (s : StateOf (means g.K.Kind g.K.Registry)). s.rids.next) (c.deref.ensures ∙ c.state.view_is) in
    let drawn = c.in_ok-step.ensures.drawn in
    let near = c.requires in
    omega (arith, old, drawn, near)
