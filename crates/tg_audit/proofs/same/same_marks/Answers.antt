use Rattle.std.proofs.Common.{◌<◌, ◌≤◌, length, get_or, sym, ◌∙◌, arith}
use Rattle.tg_audit.specs.Same.{same_mark}
use Rattle.tg_audit.proofs.Pairs.{pairs_next, pairs_not, pairs_none, item_is}
use Rattle.tg_audit.proofs.same.same_marks.Goals as goal

pub returns-then-not-same_mark : goal.returns-then-not-same_mark
returns-then-not-same_mark c =
    let within : c.loop-place.place < length c.args.other.now = omega arith in
    let x = get_or c.args.one.now c.loop-place.place (record { 0 = 0 }, 0) in
    let y = get_or c.args.other.now c.loop-place.place (record { 0 = 0 }, 0) in
    pairs_not same_mark c.args.one.now c.args.other.now c.loop-place.place x y _
    c.loop-place-test.true within (item_is c.args.one.now c.loop-place.place (record { 0 = 0 }, 0) x c.loop-place-test.true)
    (item_is c.args.other.now c.loop-place.place (record { 0 = 0 }, 0) y within) (sym c.same_mark.ensures ∙ c.if-not-same_mark.true) c.loop-place.invariant

pub loop-place-preserved : goal.loop-place-preserved
loop-place-preserved c =
    let within : c.loop-place.place < length c.args.other.now = omega arith in
    let x = get_or c.args.one.now c.loop-place.place (record { 0 = 0 }, 0) in
    let y = get_or c.args.other.now c.loop-place.place (record { 0 = 0 }, 0) in
    pairs_next same_mark c.args.one.now c.args.other.now c.loop-place.place x y _
    c.loop-place-test.true within (item_is c.args.one.now c.loop-place.place (record { 0 = 0 }, 0) x c.loop-place-test.true)
    (item_is c.args.other.now c.loop-place.place (record { 0 = 0 }, 0) y within) (sym c.same_mark.ensures ∙ c.if-not-same_mark.false) c.loop-place.invariant

pub returns : goal.returns
returns c =
    let most : length c.args.other.now ≤ c.loop-place.place = omega arith in
    pairs_none same_mark c.args.one.now c.args.other.now c.loop-place.place _ c.loop-place-test.false most c.loop-place.invariant
