use Rattle.std.proofs.Common.{◌^◌, ◌<◌, length, subst, rules}
use Rattle.tg_any.specs.Words.{texts}
use Rattle.tg_trace.specs.Reading.{Parses, parsed}
use Rattle.tg_trace.proofs.Sizes.{lines_numbered}
use Rattle.tg_trace.proofs.Whole.{parses_found, parses_only, parses_outside, parses_text}
use Rattle.tg_trace.proofs.reading.read.Goals as goal

pub returns-clause-found : goal.returns-clause-found
returns-clause-found c =
    parses_found c.parse.result c.args.text.now
    (subst (λ ps. Parses c.parse.result (parsed ps)) c.in_ok-pieces.ensures (subst (λ items. Parses c.parse.result (parsed (texts items))) c.as_slice.ensures.value c.parse.ensures))

pub returns-clause-only : goal.returns-clause-only
returns-clause-only c t lawful is =
    parses_only c.parse.result c.args.text.now t
    (subst (λ ps. Parses c.parse.result (parsed ps)) c.in_ok-pieces.ensures (subst (λ items. Parses c.parse.result (parsed (texts items))) c.as_slice.ensures.value c.parse.ensures))
    lawful is

pub returns-clause-outside : goal.returns-clause-outside
returns-clause-outside c =
    parses_outside c.parse.result c.args.text.now
    (subst (λ ps. Parses c.parse.result (parsed ps)) c.in_ok-pieces.ensures (subst (λ items. Parses c.parse.result (parsed (texts items))) c.as_slice.ensures.value c.parse.ensures))

pub returns-clause-numbered : goal.returns-clause-numbered
returns-clause-numbered c =
    let short : length c.args.text.now < 2 ^ 64 = search rules in
    lines_numbered c.args.text.now c.parse.result short
    (parses_text c.parse.result c.args.text.now
    (subst (λ ps. Parses c.parse.result (parsed ps)) c.in_ok-pieces.ensures (subst (λ items. Parses c.parse.result (parsed (texts items))) c.as_slice.ensures.value c.parse.ensures)))
