use Rattle.std.proofs.Common.{◌≡◌, ◌∷◌, [], ◌↔◌, ℕ, Bool, List, IsTrue, take, sym, ap, ◌∙◌, subst}
use Rattle.tg_base.specs.declared.fault.TextFault.TheVariants as fault
use Rattle.tg_node.specs.Texts.{Begins}
use Rattle.tg_node.proofs.Openings.{first_declared, none_begins}
use Rattle.tg_node.proofs.header.line_declares.Goals as goal

pub returns-in-Ok : goal.returns-in-Ok
returns-in-Ok c =
    let line = c.args.first.now in
    let one = ap (λ (ls : List (List ℕ)). take 1 ls) (sym c.in_ok-lines.ensures ∙ sym c.as_slice.ensures ∙ c.in-Ok.ensures.found) in
    subst (λ (b : Bool). IsTrue b ↔ Begins (line ∷ []) c.args.id 1) (sym c.declares.ensures) (first_declared (line ∷ []) c.args.id c.in-Ok.cluster c.rules.ensures one)

pub returns-in-Err-Outside : goal.returns-in-Err-Outside
returns-in-Err-Outside c = (
  λ t. absurd cc,
  λ b. absurd (none_begins c.args.first.now c.args.id (λ h lawful is.
      let none : c.in-Err-Outside.field-0 ≡ fault.NoMemory = c.in-Err-Outside.ensures.only h lawful (c.as_slice.ensures ∙ c.in_ok-lines.ensures ∙ is) in
      let other = c.in-Err-Outside.field-0-is in
      absurd cc) b),
)
