use Rattle.std.specs.Prelude.{◌≡◌, Bool, true, false, not, ◌&&◌}
use Rattle.std.proofs.Common.{sym, ap, ◌∙◌}
use Rattle.tg_entry.specs.Needs.{needs_decision}
use Rattle.tg_picture.specs.Standings.{is_in}
use Rattle.tg_picture.proofs.words.boxes.lacks_decision.Goals as goal

pub returns-then-needs_decision : goal.returns-then-needs_decision
returns-then-needs_decision c =
    let e = c.args.entry.now in
    let needs : needs_decision e ≡ true = sym c.needs_decision.ensures ∙ c.if-needs_decision.true in
    ap (λ (b : Bool). not b) c.is_in.ensures ∙ ap (λ (b : Bool). b && not (is_in c.args.pos c.args.found.now)) (sym needs)

pub returns-else-needs_decision : goal.returns-else-needs_decision
returns-else-needs_decision c =
    let e = c.args.entry.now in
    let needs : needs_decision e ≡ false = sym c.needs_decision.ensures ∙ c.if-needs_decision.false in
    c.if-needs_decision.false ∙ ap (λ (b : Bool). b && not (is_in c.args.pos c.args.found.now)) (sym needs)
