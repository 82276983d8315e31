use Rattle.std.proofs.Common.{◌≤◌, sym, subst, ap, ◌∙◌}
use Rattle.tg_proj.specs.Refusals.{new_start}
use Rattle.tg_proj.proofs.Allowed.{not_about_acks, ranges_fit, later_start}
use Rattle.tg_proj.proofs.refusal.next_ok.Goals as goal

pub returns-in-Some-clause-acks : goal.returns-in-Some-clause-acks
returns-in-Some-clause-acks c =
    λ t. absurd (not_about_acks c.args.old.now c.args.change.now c.in-Some.fault (sym c.change_fault.ensures ∙ c.in-Some.is) t)

pub unacked-requires : goal.unacked-requires
unacked-requires c = ranges_fit c.args.old.now c.args.change.now c.rules.ensures.rules (sym c.change_fault.ensures ∙ c.in_default.is)

pub returns-clause-may : goal.returns-clause-may
returns-clause-may c =
    let start = c.start_after.ensures ∙ ap (λ l. new_start l.start c.args.acks.now) c.old.view_is in
    record {
      allowed = sym c.change_fault.ensures ∙ c.in_default.is;
      later = subst (λ n. c.args.old.now.start ≤ n) (sym start) (later_start c.args.old.now.start c.args.acks.now);
    }
