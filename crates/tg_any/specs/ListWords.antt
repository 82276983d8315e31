-- The words of lists: an op or an ask is a verb and its fields.
use Rattle.std.specs.Prelude.{ℕ, Bool, true, false, ◌&&◌, List, [], ◌∷◌, codes, Option, None, option_map}
use Rattle.std.specs.Fmt.{decimal}
use Rattle.tg_list.specs.declared.text_list.TextListOp.{TextListOp}
use Rattle.tg_list.specs.declared.text_list.TextListOp.TheVariants as ops
use Rattle.tg_list.specs.declared.text_list.TextListAsk.{TextListAsk}
use Rattle.tg_list.specs.declared.text_list.TextListAsk.TheVariants as asks
use Rattle.tg_list.specs.declared.text_list.TextListAns.{TextListAns}
use Rattle.tg_list.specs.declared.text_list.TextListAns.TheVariants as answers
use Rattle.tg_any.specs.Words.{text as a_text, number as a_number, index as an_index, nothing, one, two, maybe, list, verb}

abbrev pub op_words : TextListOp → List (List ℕ)
op_words (ops.PushFront text) = codes "push_front" ∷ text ∷ []
op_words (ops.PushBack text) = codes "push_back" ∷ text ∷ []
op_words (ops.Insert at text) = codes "insert" ∷ decimal at ∷ text ∷ []
op_words (ops.Remove at) = codes "remove" ∷ decimal at ∷ []
op_words ops.PopFront = codes "pop_front" ∷ []
op_words ops.PopBack = codes "pop_back" ∷ []

-- the op's fields are within their types
abbrev pub op_fits : TextListOp → Bool
op_fits (ops.PushFront text) = a_text.fits text
op_fits (ops.PushBack text) = a_text.fits text
op_fits (ops.Insert at text) = an_index.fits at && a_text.fits text
op_fits (ops.Remove at) = an_index.fits at
op_fits ops.PopFront = true
op_fits ops.PopBack = true

-- the op that has this verb and these fields
abbrev pub op_read : List ℕ → List (List ℕ) → Option TextListOp
op_read word fields = verb (codes "push_front") (one a_text) ops.PushFront word fields (verb (codes "push_back") (one a_text) ops.PushBack word fields (verb (codes "insert") (two an_index a_text) (λ p. ops.Insert p.0 p.1) word fields (verb (codes "remove") (one an_index) ops.Remove word fields (verb (codes "pop_front") nothing (λ _. ops.PopFront) word fields (verb (codes "pop_back") nothing (λ _. ops.PopBack) word fields None)))))

abbrev pub ask_words : TextListAsk → List (List ℕ)
ask_words (asks.At at) = codes "at" ∷ decimal at ∷ []
ask_words asks.Len = codes "len" ∷ []
ask_words asks.Items = codes "items" ∷ []

-- the ask's fields are within their types
abbrev pub ask_fits : TextListAsk → Bool
ask_fits (asks.At at) = an_index.fits at
ask_fits asks.Len = true
ask_fits asks.Items = true

abbrev pub ask_read : List ℕ → List (List ℕ) → Option TextListAsk
ask_read word fields = verb (codes "at") (one an_index) asks.At word fields (verb (codes "len") nothing (λ _. asks.Len) word fields (verb (codes "items") nothing (λ _. asks.Items) word fields None))

abbrev pub answer_words : TextListAns → List (List ℕ)
answer_words (answers.Item x) = (maybe a_text).spell x
answer_words (answers.Number x) = (one a_number).spell x
answer_words (answers.Items x) = (list a_text).spell x

-- the answer has the form of the ask's, and is within its type
abbrev pub answer_fits : TextListAsk → TextListAns → Bool
answer_fits (asks.At at) (answers.Item x) = (maybe a_text).fits x
answer_fits asks.Len (answers.Number x) = (one a_number).fits x
answer_fits asks.Items (answers.Items x) = (list a_text).fits x
answer_fits ask answer = false

-- the answer of the ask's form that has these words
abbrev pub answer_read : TextListAsk → List (List ℕ) → Option TextListAns
answer_read (asks.At at) words = option_map answers.Item ((maybe a_text).read words)
answer_read asks.Len words = option_map answers.Number ((one a_number).read words)
answer_read asks.Items words = option_map answers.Items ((list a_text).read words)
