use Rattle.std.proofs.Common.{rules, sym, ◌∙◌, ◌≡◌, true, false, refl, length}
use Rattle.tg_tree.specs.Paths.{path_body}
use Rattle.tg_tree.proofs.Loops.{goes_more, goes_not, goes_end}
use Rattle.tg_tree.proofs.path.is_body.Goals as goal

pub returns-then-not-goes_on : goal.returns-then-not-goes_on
returns-then-not-goes_on c =
    let no : c.goes_on.result ≡ false = search rules in
    goes_not c.args.bytes.now c.loop-place.place c.loop-place.before _ ((path_body (length c.args.bytes.now)).fits c.args.bytes.now) c.loop-place-test.true refl (sym c.goes_on.ensures ∙ no) c.loop-place.invariant

pub loop-place-preserved : goal.loop-place-preserved
loop-place-preserved c =
    let yes : c.goes_on.result ≡ true = search rules in
    goes_more c.args.bytes.now c.loop-place.place c.loop-place.before _ ((path_body (length c.args.bytes.now)).fits c.args.bytes.now) c.loop-place-test.true refl (sym c.goes_on.ensures ∙ yes) c.loop-place.invariant

pub returns : goal.returns
returns c = goes_end c.args.bytes.now c.loop-place.place c.loop-place.before ((path_body (length c.args.bytes.now)).fits c.args.bytes.now) c.loop-place-test.false c.loop-place.invariant
