use Rattle.std.proofs.Common.{◌≡◌, ◌<◌, ◌≤◌, ◌^◌, ℕ, List, length, subst, arith, rules}
use Rattle.tg_client_answers.proofs.Marked.{links, written, mark_kept}
use Rattle.tg_client_answers.proofs.marking.drafted.Goals as goal

pub new-requires-2 : goal.new-requires-2
new-requires-2 c =
    let streams : c.push.new.self ≡ links = search rules in
    let writes : c.push-2.new.self ≡ written c.args.op = search rules in
    let few : length c.args.op ≤ 4096 = subst (λ (bytes : List ℕ). length bytes ≤ 4096) c.op.view_is c.op.invariant in
    let client : c.args.client < 2 ^ 16 = omega arith in
    let number : c.args.number < 2 ^ 32 = omega arith in
    mark_kept c.args.client c.args.number c.args.op c.push.new.self c.new.result c.push-2.new.self streams c.new.ensures writes client c.requires.number number c.requires.some few
