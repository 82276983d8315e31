use Rattle.std.proofs.Common.{ap, sym, ◌∙◌}
use Rattle.std.specs.Prelude.{find}
use Rattle.std.specs.List.{concat}
use Rattle.tg_proj.specs.Refusals.{is_out, joining}
use Rattle.tg_proj.proofs.Chains.{found_first, found_later}
use Rattle.tg_proj.proofs.refusal.first_returned.Goals as goal

pub returns-in-Some : goal.returns-in-Some
returns-in-Some c =
    let p = is_out c.args.old.now c.args.change.now in
    let opened = c.as_slice.ensures ∙ ap (λ x. x.opened) c.change.view_is in
    sym (found_first p (concat c.args.change.now.opened) (joining c.args.change.now.join) c.in-Some.unit
    (ap (λ xs. find p (concat xs)) (sym opened) ∙ sym c.first_out_of_chains.ensures ∙ c.in-Some.is))

pub returns-in-None : goal.returns-in-None
returns-in-None c =
    let p = is_out c.args.old.now c.args.change.now in
    let opened = c.as_slice.ensures ∙ ap (λ x. x.opened) c.change.view_is in
    c.join_out.ensures ∙ sym (found_later p (concat c.args.change.now.opened) (joining c.args.change.now.join)
    (ap (λ xs. find p (concat xs)) (sym opened) ∙ sym c.first_out_of_chains.ensures ∙ c.in-None.is))
