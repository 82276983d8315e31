-- The words of sets: an op or an ask is a verb and its fields.
use Rattle.std.specs.Prelude.{ℕ, Bool, false, ◌&&◌, List, [], ◌∷◌, codes, Option, None, option_map}
use Rattle.std.specs.Fmt.{decimal}
use Rattle.tg_set.specs.declared.set.SetOp.{SetOp}
use Rattle.tg_set.specs.declared.set.SetOp.TheVariants as ops
use Rattle.tg_set.specs.declared.set.SetAsk.{SetAsk}
use Rattle.tg_set.specs.declared.set.SetAsk.TheVariants as asks
use Rattle.tg_set.specs.declared.set.SetAns.{SetAns}
use Rattle.tg_set.specs.declared.set.SetAns.TheVariants as answers
use Rattle.tg_any.specs.Words.{number as a_number, flag as a_flag, one, two, list, verb}

abbrev pub op_words : SetOp → List (List ℕ)
op_words (ops.Include number) = codes "include" ∷ decimal number ∷ []
op_words (ops.Exclude number) = codes "exclude" ∷ decimal number ∷ []

-- the op's fields are within their types
abbrev pub op_fits : SetOp → Bool
op_fits (ops.Include number) = a_number.fits number
op_fits (ops.Exclude number) = a_number.fits number

-- the op that has this verb and these fields
abbrev pub op_read : List ℕ → List (List ℕ) → Option SetOp
op_read word fields = verb (codes "include") (one a_number) ops.Include word fields (verb (codes "exclude") (one a_number) ops.Exclude word fields None)

abbrev pub ask_words : SetAsk → List (List ℕ)
ask_words (asks.Member number) = codes "member" ∷ decimal number ∷ []
ask_words (asks.Count low high) = codes "count" ∷ decimal low ∷ decimal high ∷ []
ask_words (asks.Between low high) = codes "between" ∷ decimal low ∷ decimal high ∷ []

-- the ask's fields are within their types
abbrev pub ask_fits : SetAsk → Bool
ask_fits (asks.Member number) = a_number.fits number
ask_fits (asks.Count low high) = a_number.fits low && a_number.fits high
ask_fits (asks.Between low high) = a_number.fits low && a_number.fits high

abbrev pub ask_read : List ℕ → List (List ℕ) → Option SetAsk
ask_read word fields = verb (codes "member") (one a_number) asks.Member word fields (verb (codes "count") (two a_number a_number) (λ p. asks.Count p.0 p.1) word fields (verb (codes "between") (two a_number a_number) (λ p. asks.Between p.0 p.1) word fields None))

abbrev pub answer_words : SetAns → List (List ℕ)
answer_words (answers.Member x) = (one a_flag).spell x
answer_words (answers.Count x) = (one a_number).spell x
answer_words (answers.Numbers x) = (list a_number).spell x

-- the answer has the form of the ask's, and is within its type
abbrev pub answer_fits : SetAsk → SetAns → Bool
answer_fits (asks.Member number) (answers.Member x) = (one a_flag).fits x
answer_fits (asks.Count low high) (answers.Count x) = (one a_number).fits x
answer_fits (asks.Between low high) (answers.Numbers x) = (list a_number).fits x
answer_fits ask answer = false

-- the answer of the ask's form that has these words
abbrev pub answer_read : SetAsk → List (List ℕ) → Option SetAns
answer_read (asks.Member number) words = option_map answers.Member ((one a_flag).read words)
answer_read (asks.Count low high) words = option_map answers.Count ((one a_number).read words)
answer_read (asks.Between low high) words = option_map answers.Numbers ((list a_number).read words)
