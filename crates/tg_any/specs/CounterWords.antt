-- The words of counters: an op or an ask is a verb and its fields.
use Rattle.std.specs.Prelude.{ℕ, Bool, true, List, [], ◌∷◌, codes, Option, None, option_map}
use Rattle.std.specs.Fmt.{signed_decimal}
use Rattle.tg_cell.specs.declared.counter.CounterOp.{CounterOp}
use Rattle.tg_cell.specs.declared.counter.CounterOp.TheVariants as ops
use Rattle.tg_cell.specs.declared.counter.CounterAsk.{CounterAsk}
use Rattle.tg_cell.specs.declared.counter.CounterAsk.TheVariants as asks
use Rattle.tg_cell.specs.declared.counter.CounterAns.{CounterAns}
use Rattle.tg_cell.specs.declared.counter.CounterAns.TheVariants as answers
use Rattle.tg_any.specs.Words.{signed as a_signed, nothing, one, verb}

abbrev pub op_words : CounterOp → List (List ℕ)
op_words (ops.Add by) = codes "add" ∷ signed_decimal by ∷ []

-- the op's fields are within their types
abbrev pub op_fits : CounterOp → Bool
op_fits (ops.Add by) = a_signed.fits by

-- the op that has this verb and these fields
abbrev pub op_read : List ℕ → List (List ℕ) → Option CounterOp
op_read word fields = verb (codes "add") (one a_signed) ops.Add word fields None

abbrev pub ask_words : CounterAsk → List (List ℕ)
ask_words asks.Value = codes "value" ∷ []

-- the ask's fields are within their types
abbrev pub ask_fits : CounterAsk → Bool
ask_fits asks.Value = true

abbrev pub ask_read : List ℕ → List (List ℕ) → Option CounterAsk
ask_read word fields = verb (codes "value") nothing (λ _. asks.Value) word fields None

abbrev pub answer_words : CounterAns → List (List ℕ)
answer_words (answers.Number x) = (one a_signed).spell x

-- the answer has the form of the ask's, and is within its type
abbrev pub answer_fits : CounterAsk → CounterAns → Bool
answer_fits asks.Value (answers.Number x) = (one a_signed).fits x

-- the answer of the ask's form that has these words
abbrev pub answer_read : CounterAsk → List (List ℕ) → Option CounterAns
answer_read asks.Value words = option_map answers.Number ((one a_signed).read words)
