use Rattle.std.proofs.Common.{ℕ, ◌<◌, ◌≤◌, List, length, Option, Some, None, Result, Err, IfOk, IfNone, sym, subst, arith}
use Rattle.tg_base.specs.Clusters.{Header}
use Rattle.tg_base.specs.declared.fault.NoMemory.{NoMemory}
use Rattle.tg_base.specs.declared.fault.TextFault.{TextFault}
use Rattle.tg_base.specs.declared.ids.NodeId.{NodeId}
use Rattle.tg_script.specs.Headers.{OnOutside}
use Rattle.tg_node.specs.Texts.{FirstOutside}
use Rattle.tg_node.proofs.Openings.{none_before, whole_front}
use Rattle.tg_node.proofs.header.refused.Goals.{in-Ok, in-Err-Outside, in-Err-NoMemory}
use Rattle.tg_node.proofs.header.refused.Goals as goal

-- none of these lines is outside
abbrev NoneOf : List (List ℕ) → NodeId → Type 0
NoneOf ls n = (k : ℕ) → k ≤ length ls → FirstOutside ls n k → ⊥

below_all : (r : Option ℕ) (line : ℕ) (ls : List (List ℕ)) (n : NodeId) → IfNone r (length ls < line) → (line ≤ 3) × FirstOutside ls n line → IfNone r (NoneOf ls n)
below_all None line ls n below out = λ k le at. none_before ls n k line (omega (arith, le, below)) out at
below_all (Some j) line ls n below out = tt

pub returns-clause-none : goal.returns-clause-none
returns-clause-none c =
    let P : Result (Option ℕ) NoMemory → Type 0 = λ x. IfOk x (λ r. IfNone r (NoneOf c.args.lines.now c.args.id)) in
    elim c.match-parse_own.branch as (λ _. P c.match-parse_own.result) [
      | in-Ok w ↦ subst P (sym w.result-is) (λ k le out. whole_front c.args.lines.now c.args.id w.in-Ok.field-0 k w.in-Ok.ensures.lawful w.in-Ok.ensures.found le out)
      | in-Err-Outside w ↦ subst P (sym w.result-is) (below_all w.among.result w.in-Err-Outside.line c.args.lines.now c.args.id w.among.ensures.none
          (subst (λ (f : TextFault). OnOutside {A = Header} (Err f) (λ k. (k ≤ 3) × FirstOutside c.args.lines.now c.args.id k)) w.in-Err-Outside.field-0-is w.in-Err-Outside.ensures.outside))
      | in-Err-NoMemory w ↦ subst P (sym w.result-is) tt
    ]
