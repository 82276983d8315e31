use Rattle.std.proofs.Common.{◌≡◌, ◌∷◌, [], ℕ, List, take, sym, ap, ◌∙◌}
use Rattle.std.proofs.lemmas.Result.{IfOk-weaker}
use Rattle.tg_wire.proofs.Splitting.{split_first}
use Rattle.tg_node.proofs.Openings.{first_alone}
use Rattle.tg_node.proofs.header.first_declares.Goals as goal

pub returns-in-len1-up : goal.returns-in-len1-up
returns-in-len1-up c =
    let ls = c.args.lines.now in
    let front = split_first ls c.first-item.result c.in-len1-up.len_at_least c.first-item.is in
    let one : take 1 ls ≡ c.as_slice.result.now ∷ [] = ap (λ (x : List (List ℕ)). take 1 x) front ∙ ap (λ (l : List ℕ). l ∷ []) (sym c.as_slice.ensures) in
    IfOk-weaker c.line_declares.result _ _ (λ b h. first_alone ls c.as_slice.result.now c.args.id b one h) c.line_declares.ensures
