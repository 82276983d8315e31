use Rattle.std.proofs.Common.{◌≡◌, Some, None, codes, ap, arith, rules}
use Rattle.tg_base.specs.Clusters.{Header}
use Rattle.tg_any.specs.Words.{texts}
use Rattle.tg_any.proofs.AnyForms.{ok_only}
use Rattle.tg_script.specs.Commands.{part_at, joined_change, opened_change}
use Rattle.tg_script.proofs.Changes.{few_units, opened_none, opened_some}
use Rattle.tg_script.proofs.change.change_after_drop.Goals as goal

pub opened-requires : goal.opened-requires
opened-requires c =
    let few = few_units c.args.cluster.now c.requires.header in
    let is : c.cluster.inside.units ≡ c.args.cluster.now.units = ap (λ (h : Header). h.units) c.cluster.view_is in
    omega (arith, few, is)

pub returns-in_default : goal.returns-in_default
returns-in_default c =
    let is : c.cluster.inside.units ≡ c.args.cluster.now.units = ap (λ (h : Header). h.units) c.cluster.view_is in
    let none : c.in_ok-opened.field-0 ≡ None = search rules in
    opened_none c.args.cluster.now c.cluster.inside.units c.args.seq c.args.drop _ (part_at (codes "open") (texts c.args.words.now)) c.in_ok-opened.field-0 is c.part.ensures.word c.in_ok-opened.ensures.read none

pub returns : goal.returns
returns c =
    let is : c.cluster.inside.units ≡ c.args.cluster.now.units = ap (λ (h : Header). h.units) c.cluster.view_is in
    let some : c.in_ok-opened.field-0 ≡ Some c.in-Some.opened = search rules in
    ok_only c.change_after_open.result (joined_change c.args.cluster.now c.args.seq c.args.drop c.in-Some.opened (texts c.part.result.1.now))
    (opened_change c.args.cluster.now c.args.seq c.args.drop (part_at (codes "open") (texts c.args.words.now))) c.change_after_open.ensures
    (opened_some c.args.cluster.now c.cluster.inside.units c.args.seq c.args.drop _ (part_at (codes "open") (texts c.args.words.now)) c.in_ok-opened.field-0 c.in-Some.opened (texts c.part.result.1.now)
    is c.part.ensures.word c.in_ok-opened.ensures.read some c.part.ensures.rest)
