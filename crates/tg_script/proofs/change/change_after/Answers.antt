use Rattle.std.proofs.Common.{◌≡◌, Some, None, codes, ap, arith, rules}
use Rattle.tg_base.specs.Clusters.{Header}
use Rattle.tg_any.specs.Words.{texts}
use Rattle.tg_any.proofs.AnyForms.{ok_only}
use Rattle.tg_script.specs.Commands.{part_at, opened_change, dropped_change}
use Rattle.tg_script.proofs.Changes.{few_units, dropped_none, dropped_some}
use Rattle.tg_script.proofs.change.change_after.Goals as goal

pub dropped-requires : goal.dropped-requires
dropped-requires c =
    let few = few_units c.args.cluster.now c.requires in
    let is : c.cluster.inside.units ≡ c.args.cluster.now.units = ap (λ (h : Header). h.units) c.cluster.view_is in
    omega (arith, few, is)

pub returns-in_default : goal.returns-in_default
returns-in_default c =
    let is : c.cluster.inside.units ≡ c.args.cluster.now.units = ap (λ (h : Header). h.units) c.cluster.view_is in
    let none : c.in_ok-drop.field-0 ≡ None = search rules in
    dropped_none c.args.cluster.now c.cluster.inside.units c.args.seq _ (part_at (codes "drop") (texts c.args.words.now)) c.in_ok-drop.field-0 is c.part.ensures.word c.in_ok-drop.ensures.read none

pub returns : goal.returns
returns c =
    let is : c.cluster.inside.units ≡ c.args.cluster.now.units = ap (λ (h : Header). h.units) c.cluster.view_is in
    let some : c.in_ok-drop.field-0 ≡ Some c.in-Some.drop = search rules in
    ok_only c.change_after_drop.result (opened_change c.args.cluster.now c.args.seq c.in-Some.drop (part_at (codes "open") (texts c.part.result.1.now)))
    (dropped_change c.args.cluster.now c.args.seq (part_at (codes "drop") (texts c.args.words.now))) c.change_after_drop.ensures
    (dropped_some c.args.cluster.now c.cluster.inside.units c.args.seq _ (part_at (codes "drop") (texts c.args.words.now)) c.in_ok-drop.field-0 c.in-Some.drop (texts c.part.result.1.now)
    is c.part.ensures.word c.in_ok-drop.ensures.read some c.part.ensures.rest)
