use Rattle.std.proofs.Common.{rules, tests, codes, List, ℕ, Bor}
use Rattle.std.specs.Str.{bytes_eq}
use Rattle.std.proofs.lemmas.Iterator.Consumers.{map_from_collect}
use Rattle.std.proofs.lemmas.Iterator.Splits.{YieldsList-from_slice_split}
use Rattle.std.proofs.lemmas.Result.{IfOk-at_ok}
use Rattle.tg_trace.proofs.Slices.{parts_are}
use Rattle.tg_trace.proofs.cut.by_semicolons.Goals as goal

pub returns : goal.returns
returns c = parts_are _ c.args.words.now
    (IfOk-at_ok _ c.in_ok-parts.was (map_from_collect _ c.collect.ensures.ran (YieldsList-from_slice_split _ (λ (w : Bor (List ℕ)). bytes_eq w.now (codes ";")) c.args.words.now c.split.ensures.rest c.split.ensures.done c.split.ensures.closure (λ x r q k. search (rules, tests)))))
