-- The words of maps: an op or an ask is a verb and its fields.
use Rattle.std.specs.Prelude.{ℕ, Bool, true, false, ◌&&◌, List, [], ◌∷◌, codes, Option, None, option_map}
use Rattle.tg_map.specs.declared.map.MapOp.{MapOp}
use Rattle.tg_map.specs.declared.map.MapOp.TheVariants as ops
use Rattle.tg_map.specs.declared.map.MapAsk.{MapAsk}
use Rattle.tg_map.specs.declared.map.MapAsk.TheVariants as asks
use Rattle.tg_map.specs.declared.map.MapAns.{MapAns}
use Rattle.tg_map.specs.declared.map.MapAns.TheVariants as answers
use Rattle.tg_any.specs.Words.{text as a_text, number as a_number, nothing, one, two, maybe, list, verb}

abbrev pub op_words : MapOp → List (List ℕ)
op_words (ops.Set key value) = codes "set" ∷ key ∷ value ∷ []
op_words (ops.Unset key) = codes "unset" ∷ key ∷ []

-- the op's fields are within their types
abbrev pub op_fits : MapOp → Bool
op_fits (ops.Set key value) = a_text.fits key && a_text.fits value
op_fits (ops.Unset key) = a_text.fits key

-- the op that has this verb and these fields
abbrev pub op_read : List ℕ → List (List ℕ) → Option MapOp
op_read word fields = verb (codes "set") (two a_text a_text) (λ p. ops.Set p.0 p.1) word fields (verb (codes "unset") (one a_text) ops.Unset word fields None)

abbrev pub ask_words : MapAsk → List (List ℕ)
ask_words (asks.Get key) = codes "get" ∷ key ∷ []
ask_words asks.Size = codes "size" ∷ []
ask_words asks.Keys = codes "keys" ∷ []

-- the ask's fields are within their types
abbrev pub ask_fits : MapAsk → Bool
ask_fits (asks.Get key) = a_text.fits key
ask_fits asks.Size = true
ask_fits asks.Keys = true

abbrev pub ask_read : List ℕ → List (List ℕ) → Option MapAsk
ask_read word fields = verb (codes "get") (one a_text) asks.Get word fields (verb (codes "size") nothing (λ _. asks.Size) word fields (verb (codes "keys") nothing (λ _. asks.Keys) word fields None))

abbrev pub answer_words : MapAns → List (List ℕ)
answer_words (answers.Value x) = (maybe a_text).spell x
answer_words (answers.Number x) = (one a_number).spell x
answer_words (answers.Keys x) = (list a_text).spell x

-- the answer has the form of the ask's, and is within its type
abbrev pub answer_fits : MapAsk → MapAns → Bool
answer_fits (asks.Get key) (answers.Value x) = (maybe a_text).fits x
answer_fits asks.Size (answers.Number x) = (one a_number).fits x
answer_fits asks.Keys (answers.Keys x) = (list a_text).fits x
answer_fits ask answer = false

-- the answer of the ask's form that has these words
abbrev pub answer_read : MapAsk → List (List ℕ) → Option MapAns
answer_read (asks.Get key) words = option_map answers.Value ((maybe a_text).read words)
answer_read asks.Size words = option_map answers.Number ((one a_number).read words)
answer_read asks.Keys words = option_map answers.Keys ((list a_text).read words)
