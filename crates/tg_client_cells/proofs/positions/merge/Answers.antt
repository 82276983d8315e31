use Rattle.std.proofs.Common.{ℕ, List, [], ◌∷◌, ◌++◌, append_assoc, ap, sym, ◌∙◌}
use Rattle.tg_protocol.specs.Words.{with_nums}
use Rattle.tg_client_cells.proofs.positions.merge.Goals as goal

pub loop-pos-preserved : goal.loop-pos-preserved
loop-pos-preserved c =
    let more = with_nums c.in-Some.right_rest.now c.in-Some.left_rest.now in
    record {
      left = c.in-Some.ensures.left;
      right = c.in-Some.ensures.right;
      both = ap (λ (l : List ℕ). l ++ more) c.in_ok-push.ensures.items
          ∙ append_assoc c.loop-pos.both.items (c.in-Some.pos ∷ []) more
          ∙ ap (λ (l : List ℕ). c.loop-pos.both.items ++ l) (sym c.in-Some.ensures.next)
          ∙ c.loop-pos.invariant.both;
    }
