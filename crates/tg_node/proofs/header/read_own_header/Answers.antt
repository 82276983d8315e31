use Rattle.std.proofs.Common.{◌≡◌, ◌<◌, ◌≤◌, ◌+◌, ◌∙◌, ◌∷◌, ◌++◌, [], ℕ, List, length, Option, IfSome, IfNone, ap, sym, subst, length-append, arith, Err}
use Rattle.tg_lines.specs.Lines.{ahead, TakesLine}
use Rattle.tg_node.specs.Texts.{FirstOutside}
use Rattle.tg_node.specs.Openings.{IsOpening}
use Rattle.tg_io.proofs.Faults.{sure_since}
use Rattle.tg_lines.specs.Openings.{Reached}
use Rattle.tg_lines.proofs.Feeding.{handed_on, takes_more, wider_feeds}
use Rattle.tg_lines.proofs.Openings.{reached_more}
use Rattle.tg_node.proofs.Openings.{header_came, on_opens, opened_outside, opened_end, opened_whole, unrefused}
use Rattle.std.proofs.lemmas.Result.{err_from_is_err_and}
use Rattle.tg_io.specs.declared.fault.IoErr.TheVariants.{Failed}
use Rattle.tg_node.proofs.header.read_own_header.Goals as goal

pub returns-in-Some-clause-opened : goal.returns-in-Some-clause-opened
returns-in-Some-clause-opened g c =
    let i = c.loop-alloc.invariant in
    let n = c.args.id in
    let h = subst (λ (o : Option ℕ). IfSome o (λ k. (k ≤ length c.as_slice.result.now) × FirstOutside c.as_slice.result.now n k)) c.in-Some.is c.in_ok-line.ensures.some in
    let k = subst (λ (ls : List (List ℕ)). (c.in-Some.line ≤ length ls) × FirstOutside ls n c.in-Some.line) c.as_slice.ensures h in
    opened_outside n (ahead c.args.reader.now (g.S.Source.left c.args.source.now)) (ahead c.loop-alloc.reader (g.S.Source.left c.loop-alloc.source)) c.loop-alloc.lines c.in-Some.line i.reached i.few k.0 k.1

pub returns-in-None-clause-opened : goal.returns-in-None-clause-opened
returns-in-None-clause-opened g c =
    let i = c.loop-alloc.invariant in
    let n = c.args.id in
    let before = ahead c.loop-alloc.reader (g.S.Source.left c.loop-alloc.source) in
    let after = ahead c.next.new.self (g.S.Source.left c.next.new.source) in
    let none = subst (λ (o : Option (List ℕ)). TakesLine before after o) c.in-None.is c.in_ok-line-2.ensures.line in
    let is = subst (λ (ls : List (List ℕ)). IsOpening n ls c.in_ok-whole_header-in-None.field-0) c.as_slice-in-None.ensures c.in_ok-whole_header-in-None.ensures in
    opened_end n (ahead c.args.reader.now (g.S.Source.left c.args.source.now)) before after c.loop-alloc.lines c.in_ok-whole_header-in-None.field-0 i.reached none is

pub returns-clause-opened : goal.returns-clause-opened
returns-clause-opened g c =
    let i = c.loop-alloc.invariant in
    let n = c.args.id in
    let few : length c.loop-alloc.lines ≤ 3 = i.few in
    let many : c.len.result ≡ length c.loop-alloc.lines = c.len.ensures in
    let past = c.loop-alloc-test.false in
    let three : length c.loop-alloc.lines ≡ 3 = omega arith in
    let is = subst (λ (ls : List (List ℕ)). IsOpening n ls c.in_ok-whole_header.field-0) c.as_slice-2.ensures c.in_ok-whole_header.ensures in
    opened_whole n (ahead c.args.reader.now (g.S.Source.left c.args.source.now)) (ahead c.loop-alloc.reader (g.S.Source.left c.loop-alloc.source)) c.loop-alloc.lines c.in_ok-whole_header.field-0 i.reached three is

pub loop-alloc-preserved : goal.loop-alloc-preserved
loop-alloc-preserved g c =
    let i = c.loop-alloc.invariant in
    let before = ahead c.loop-alloc.reader (g.S.Source.left c.loop-alloc.source) in
    let after = ahead c.next.new.self (g.S.Source.left c.next.new.source) in
    let line = c.in-Some-2.line in
    let took = subst (λ (o : Option (List ℕ)). TakesLine before after o) c.in-Some-2.is c.in_ok-line-2.ensures.line in
    let pushed : c.push.new.self ≡ c.loop-alloc.lines ++ line ∷ [] = c.in_ok-push-in-Some-2.ensures.ok in
    let many : length c.push.new.self ≡ length c.loop-alloc.lines + 1 = ap length pushed ∙ length-append c.loop-alloc.lines (line ∷ []) in
    let count : c.len.result ≡ length c.loop-alloc.lines = c.len.ensures in
    let below = c.loop-alloc-test.true in
    let later : g.S.Source.faults c.args.source.now ≤ g.S.Source.faults c.loop-alloc.source = i.later in
    let rose : g.S.Source.faults c.loop-alloc.source ≤ g.S.Source.faults c.next.new.source = c.in_ok-line-2.ensures.cause.later in
    let shorter : length c.next.new.self + g.S.Source.room c.next.new.source < length c.loop-alloc.reader + g.S.Source.room c.loop-alloc.source =
    subst (λ (o : Option (List ℕ)). IfSome o (λ l. length c.next.new.self + g.S.Source.room c.next.new.source < length c.loop-alloc.reader + g.S.Source.room c.loop-alloc.source)) c.in-Some-2.is c.in_ok-line-2.ensures.less in
    let so_far : length c.loop-alloc.reader + g.S.Source.room c.loop-alloc.source + length c.loop-alloc.lines ≤ length c.args.reader.now + g.S.Source.room c.args.source.now = i.less in
    record {
      reached = subst (λ (ls : List (List ℕ)). Reached (ahead c.args.reader.now (g.S.Source.left c.args.source.now)) after ls) (sym pushed)
          (reached_more (ahead c.args.reader.now (g.S.Source.left c.args.source.now)) before after c.loop-alloc.lines line i.reached took);
      few = omega arith;
      less = omega (arith, shorter, so_far, many);
      feeds = takes_more (ahead c.args.reader.now (g.S.Source.left c.args.source.now)) before after (length c.loop-alloc.lines) 1 (length c.push.new.self) (omega (arith, many)) i.feeds c.in_ok-line-2.ensures.feeds;
      still = c.in_ok-line-2.ensures.still ∙ i.still;
      later = omega arith;
      sure = sure_since _ _ _ _ _ _ i.sure c.in_ok-line-2.ensures.sure;
    }

pub returns-in-Some-clause-feeds : goal.returns-in-Some-clause-feeds
returns-in-Some-clause-feeds g c =
    let i = c.loop-alloc.invariant in
    wider_feeds (ahead c.args.reader.now (g.S.Source.left c.args.source.now)) (ahead c.loop-alloc.reader (g.S.Source.left c.loop-alloc.source)) (length c.loop-alloc.lines) 3 i.few i.feeds

pub returns-in-None-clause-feeds : goal.returns-in-None-clause-feeds
returns-in-None-clause-feeds g c =
    let i = c.loop-alloc.invariant in
    let count : c.len.result ≡ length c.loop-alloc.lines = c.len.ensures in
    let below = c.loop-alloc-test.true in
    let few : length c.loop-alloc.lines + 1 ≤ 3 = omega arith in
    takes_more (ahead c.args.reader.now (g.S.Source.left c.args.source.now)) (ahead c.loop-alloc.reader (g.S.Source.left c.loop-alloc.source)) (ahead c.next.new.self (g.S.Source.left c.next.new.source)) (length c.loop-alloc.lines) 1 3 few i.feeds c.in_ok-line-2.ensures.feeds

pub returns-clause-feeds : goal.returns-clause-feeds
returns-clause-feeds g c =
    let i = c.loop-alloc.invariant in
    wider_feeds (ahead c.args.reader.now (g.S.Source.left c.args.source.now)) (ahead c.loop-alloc.reader (g.S.Source.left c.loop-alloc.source)) (length c.loop-alloc.lines) 3 i.few i.feeds

pub returns-in_err-line-2-clause-first : goal.returns-in_err-line-2-clause-first
returns-in_err-line-2-clause-first g c =
    let i = c.loop-alloc.invariant in
    let none = subst (λ (ls : List (List ℕ)). IfNone c.in_ok-line.field-0 ((k : ℕ) → k ≤ length ls → FirstOutside ls c.args.id k → ⊥)) c.as_slice.ensures c.in_ok-line.ensures.none in
    λ failed.
    let p = err_from_is_err_and c.from_residual-in_err-line-2.result c.from_residual-in_err-line-2.ensures.1 in
    let end : c.from_residual-in_err-line-2.result ≡ Err c.in_err-line-2.field-0.0 = p.1 ∙ ap Err p.2 in
    header_came c.args.id (ahead c.args.reader.now (g.S.Source.left c.args.source.now)) (ahead c.loop-alloc.reader (g.S.Source.left c.loop-alloc.source)) (g.S.Source.left c.next.new.source) c.loop-alloc.lines i.reached
    (unrefused c.in_ok-line.field-0 c.loop-alloc.lines c.args.id c.in_default.not-Some none) i.feeds (c.in_err-line-2.ensures.first (handed_on c.from_residual-in_err-line-2.result c.in_err-line-2.field-0.0 Failed end failed))

pub returns-in-None-clause-less : goal.returns-in-None-clause-less
returns-in-None-clause-less g c =
    let count : c.len.result ≡ length c.loop-alloc.lines = c.len.ensures in
    let below = c.loop-alloc-test.true in
    let few : length c.loop-alloc.lines < 3 = omega arith in
    let is = subst (λ (ls : List (List ℕ)). IsOpening c.args.id ls c.in_ok-whole_header-in-None.field-0) c.as_slice-in-None.ensures c.in_ok-whole_header-in-None.ensures in
    on_opens c.args.id c.loop-alloc.lines c.in_ok-whole_header-in-None.field-0 _ is (λ (three : length c.loop-alloc.lines ≡ 3). omega (arith, few, three))

pub returns-clause-less : goal.returns-clause-less
returns-clause-less g c =
    let so_far : length c.loop-alloc.reader + g.S.Source.room c.loop-alloc.source + length c.loop-alloc.lines ≤ length c.args.reader.now + g.S.Source.room c.args.source.now = c.loop-alloc.invariant.less in
    let is = subst (λ (ls : List (List ℕ)). IsOpening c.args.id ls c.in_ok-whole_header.field-0) c.as_slice-2.ensures c.in_ok-whole_header.ensures in
    on_opens c.args.id c.loop-alloc.lines c.in_ok-whole_header.field-0 _ is (λ (three : length c.loop-alloc.lines ≡ 3). omega (arith, so_far, three))
