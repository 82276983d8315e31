use Rattle.std.proofs.Common.{◌≡◌, ◌∙◌, true, Some, sym, ap}
use Rattle.tg_live.specs.Scripts.{is_delivery}
use Rattle.tg_live.proofs.running.live_line.Goals as goal

pub returns-in_default-clause-only : goal.returns-in_default-clause-only
returns-in_default-clause-only c = λ l is free.
    let found : c.in_ok-event.field-0 ≡ Some l = c.in_ok-event.ensures.only l is in
    let none = c.in_default.is in
    absurd cc

pub returns-then-is_delivery-clause-only : goal.returns-then-is_delivery-clause-only
returns-then-is_delivery-clause-only c = λ l is free.
    let found : c.in_ok-event.field-0 ≡ Some l = c.in_ok-event.ensures.only l is in
    let here : c.in_ok-event.field-0 ≡ Some c.in-Some.event = c.in-Some.is in
    let same : c.in-Some.event ≡ l = cc in
    let yes : is_delivery l ≡ true = sym (ap is_delivery same) ∙ sym c.is_delivery.ensures ∙ c.if-is_delivery.true in
    absurd cc
