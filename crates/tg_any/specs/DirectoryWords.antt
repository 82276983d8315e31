-- The words of directories: an op or an ask is a verb and its fields.
use Rattle.std.specs.Prelude.{ℕ, Bool, true, false, ◌&&◌, List, [], ◌∷◌, codes, Option, None, option_map}
use Rattle.std.specs.Fmt.{decimal}
use Rattle.tg_dir.specs.declared.directory.DirectoryOp.{DirectoryOp}
use Rattle.tg_dir.specs.declared.directory.DirectoryOp.TheVariants as ops
use Rattle.tg_dir.specs.declared.directory.DirectoryAsk.{DirectoryAsk}
use Rattle.tg_dir.specs.declared.directory.DirectoryAsk.TheVariants as asks
use Rattle.tg_dir.specs.declared.directory.DirectoryAns.{DirectoryAns}
use Rattle.tg_dir.specs.declared.directory.DirectoryAns.TheVariants as answers
use Rattle.tg_any.specs.Names.{object_word}
use Rattle.tg_any.specs.Words.{text as a_text, number as a_number, object as an_object, mark as a_mark, nothing, one, two, maybe, list, verb}

abbrev pub op_words : DirectoryOp → List (List ℕ)
op_words (ops.Name name oid) = codes "name" ∷ name ∷ object_word oid ∷ []
op_words (ops.Mark oid mark) = codes "mark" ∷ object_word oid ∷ decimal mark ∷ []

-- the op's fields are within their types
abbrev pub op_fits : DirectoryOp → Bool
op_fits (ops.Name name oid) = a_text.fits name && an_object.fits oid
op_fits (ops.Mark oid mark) = an_object.fits oid && a_number.fits mark

-- the op that has this verb and these fields
abbrev pub op_read : List ℕ → List (List ℕ) → Option DirectoryOp
op_read word fields = verb (codes "name") (two a_text an_object) (λ p. ops.Name p.0 p.1) word fields (verb (codes "mark") (two an_object a_number) (λ p. ops.Mark p.0 p.1) word fields None)

abbrev pub ask_words : DirectoryAsk → List (List ℕ)
ask_words (asks.Find name) = codes "find" ∷ name ∷ []
ask_words asks.Marks = codes "marks" ∷ []
ask_words asks.Floor = codes "floor" ∷ []

-- the ask's fields are within their types
abbrev pub ask_fits : DirectoryAsk → Bool
ask_fits (asks.Find name) = a_text.fits name
ask_fits asks.Marks = true
ask_fits asks.Floor = true

abbrev pub ask_read : List ℕ → List (List ℕ) → Option DirectoryAsk
ask_read word fields = verb (codes "find") (one a_text) asks.Find word fields (verb (codes "marks") nothing (λ _. asks.Marks) word fields (verb (codes "floor") nothing (λ _. asks.Floor) word fields None))

abbrev pub answer_words : DirectoryAns → List (List ℕ)
answer_words (answers.Found x) = (maybe an_object).spell x
answer_words (answers.Marks x) = (list a_mark).spell x
answer_words (answers.Floor x) = (one a_number).spell x

-- the answer has the form of the ask's, and is within its type
abbrev pub answer_fits : DirectoryAsk → DirectoryAns → Bool
answer_fits (asks.Find name) (answers.Found x) = (maybe an_object).fits x
answer_fits asks.Marks (answers.Marks x) = (list a_mark).fits x
answer_fits asks.Floor (answers.Floor x) = (one a_number).fits x
answer_fits ask answer = false

-- the answer of the ask's form that has these words
abbrev pub answer_read : DirectoryAsk → List (List ℕ) → Option DirectoryAns
answer_read (asks.Find name) words = option_map answers.Found ((maybe an_object).read words)
answer_read asks.Marks words = option_map answers.Marks ((list a_mark).read words)
answer_read asks.Floor words = option_map answers.Floor ((one a_number).read words)
