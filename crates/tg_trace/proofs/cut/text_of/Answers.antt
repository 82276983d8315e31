use Rattle.std.proofs.lemmas.Str.{IsUtf8-from_ascii}
use Rattle.tg_any.proofs.Numbers.{none_from_err}
use Rattle.tg_trace.proofs.cut.text_of.Goals as goal

pub returns-clause-none : goal.returns-clause-none
returns-clause-none c = none_from_err _ _ _ _ _ c.ok.ensures.value c.from_utf8.ensures.cases (λ e b a. b.0 (IsUtf8-from_ascii _ a))
