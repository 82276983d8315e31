use Rattle.std.proofs.Common.{◌<◌, ◌≤◌, length, sym, ◌∙◌, arith}
use Rattle.std.specs.Str.{bytes_eq}
use Rattle.tg_audit.proofs.Pairs.{pairs_next, pairs_not, pairs_none}
use Rattle.tg_audit.proofs.same.same_texts.Goals as goal

pub returns-then-not-same_text : goal.returns-then-not-same_text
returns-then-not-same_text c =
    let within : c.loop-place.place < length c.args.other.now = omega arith in
    pairs_not bytes_eq c.args.one.now c.args.other.now c.loop-place.place c.index-one-place.result c.index-other-place.result _
    c.loop-place-test.true within c.index-one-place.is c.index-other-place.is (sym c.same_text.ensures ∙ c.if-not-same_text.true) c.loop-place.invariant

pub loop-place-preserved : goal.loop-place-preserved
loop-place-preserved c =
    let within : c.loop-place.place < length c.args.other.now = omega arith in
    pairs_next bytes_eq c.args.one.now c.args.other.now c.loop-place.place c.index-one-place.result c.index-other-place.result _
    c.loop-place-test.true within c.index-one-place.is c.index-other-place.is (sym c.same_text.ensures ∙ c.if-not-same_text.false) c.loop-place.invariant

pub returns : goal.returns
returns c =
    let most : length c.args.other.now ≤ c.loop-place.place = omega arith in
    pairs_none bytes_eq c.args.one.now c.args.other.now c.loop-place.place _ c.loop-place-test.false most c.loop-place.invariant
