-- The words of registers: an op or an ask is a verb and its fields.
use Rattle.std.specs.Prelude.{ℕ, Bool, true, List, [], ◌∷◌, codes, Option, None, option_map}
use Rattle.tg_cell.specs.declared.register.RegisterOp.{RegisterOp}
use Rattle.tg_cell.specs.declared.register.RegisterOp.TheVariants as ops
use Rattle.tg_cell.specs.declared.register.RegisterAsk.{RegisterAsk}
use Rattle.tg_cell.specs.declared.register.RegisterAsk.TheVariants as asks
use Rattle.tg_cell.specs.declared.register.RegisterAns.{RegisterAns}
use Rattle.tg_cell.specs.declared.register.RegisterAns.TheVariants as answers
use Rattle.tg_any.specs.Words.{text as a_text, nothing, one, maybe, verb}

abbrev pub op_words : RegisterOp → List (List ℕ)
op_words (ops.Write text) = codes "write" ∷ text ∷ []

-- the op's fields are within their types
abbrev pub op_fits : RegisterOp → Bool
op_fits (ops.Write text) = a_text.fits text

-- the op that has this verb and these fields
abbrev pub op_read : List ℕ → List (List ℕ) → Option RegisterOp
op_read word fields = verb (codes "write") (one a_text) ops.Write word fields None

abbrev pub ask_words : RegisterAsk → List (List ℕ)
ask_words asks.Text = codes "text" ∷ []

-- the ask's fields are within their types
abbrev pub ask_fits : RegisterAsk → Bool
ask_fits asks.Text = true

abbrev pub ask_read : List ℕ → List (List ℕ) → Option RegisterAsk
ask_read word fields = verb (codes "text") nothing (λ _. asks.Text) word fields None

abbrev pub answer_words : RegisterAns → List (List ℕ)
answer_words (answers.Held x) = (maybe a_text).spell x

-- the answer has the form of the ask's, and is within its type
abbrev pub answer_fits : RegisterAsk → RegisterAns → Bool
answer_fits asks.Text (answers.Held x) = (maybe a_text).fits x

-- the answer of the ask's form that has these words
abbrev pub answer_read : RegisterAsk → List (List ℕ) → Option RegisterAns
answer_read asks.Text words = option_map answers.Held ((maybe a_text).read words)
