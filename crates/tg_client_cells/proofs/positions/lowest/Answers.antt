use Rattle.std.proofs.Common.{◌≡◌, ◌∷◌, rules, arith}
use Rattle.tg_client_cells.proofs.Rising.{without_left, left_first, right_first, first_twice}
use Rattle.tg_client_cells.proofs.positions.lowest.Goals as goal

pub returns-in_err-first-clause-none : goal.returns-in_err-first-clause-none
returns-in_err-first-clause-none c = rw c.from_residual.ensures (without_left c.args.left.now c.args.right.now c.in_err-first.ensures.cases c.requires.right)

pub returns-then-first-other-clause-next : goal.returns-then-first-other-clause-next
returns-then-first-other-clause-next c =
    let l : c.args.left.now ≡ c.in_ok-first.first.now ∷ c.in_ok-first.left_rest.now = first_of (search rules, grind arith) in
    let r : c.args.right.now ≡ c.in_ok-other.other.now ∷ c.in_ok-other.right_rest.now = first_of (search rules, grind arith) in
    left_first c.args.left.now c.args.right.now c.in_ok-first.first.now c.in_ok-other.other.now c.in_ok-first.left_rest.now c.in_ok-other.right_rest.now l r c.if-first-other.true c.requires.right

pub returns-then-other-first-clause-next : goal.returns-then-other-first-clause-next
returns-then-other-first-clause-next c =
    let l : c.args.left.now ≡ c.in_ok-first.first.now ∷ c.in_ok-first.left_rest.now = first_of (search rules, grind arith) in
    let r : c.args.right.now ≡ c.in_ok-other.other.now ∷ c.in_ok-other.right_rest.now = first_of (search rules, grind arith) in
    right_first c.args.left.now c.args.right.now c.in_ok-first.first.now c.in_ok-other.other.now c.in_ok-first.left_rest.now c.in_ok-other.right_rest.now l r c.if-other-first.true c.requires.left c.requires.right

pub returns-clause-next : goal.returns-clause-next
returns-clause-next c =
    let l : c.args.left.now ≡ c.in_ok-first.first.now ∷ c.in_ok-first.left_rest.now = first_of (search rules, grind arith) in
    let r : c.args.right.now ≡ c.in_ok-other.other.now ∷ c.in_ok-other.right_rest.now = first_of (search rules, grind arith) in
    let same : c.in_ok-other.other.now ≡ c.in_ok-first.first.now = omega (arith, c.if-first-other.false, c.if-other-first.false) in
    first_twice c.args.left.now c.args.right.now c.in_ok-first.first.now c.in_ok-other.other.now c.in_ok-first.left_rest.now c.in_ok-other.right_rest.now l r same c.requires.right
