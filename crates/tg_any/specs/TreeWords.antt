-- The words of trees: an op or an ask is a verb and its fields.
use Rattle.std.specs.Prelude.{ℕ, Bool, false, ◌&&◌, List, [], ◌∷◌, codes, Option, None, option_map}
use Rattle.tg_tree.specs.declared.tree.TreeOp.{TreeOp}
use Rattle.tg_tree.specs.declared.tree.TreeOp.TheVariants as ops
use Rattle.tg_tree.specs.declared.tree.TreeAsk.{TreeAsk}
use Rattle.tg_tree.specs.declared.tree.TreeAsk.TheVariants as asks
use Rattle.tg_tree.specs.declared.tree.TreeAns.{TreeAns}
use Rattle.tg_tree.specs.declared.tree.TreeAns.TheVariants as answers
use Rattle.tg_any.specs.Words.{text as a_text, path as a_path, flag as a_flag, one, two, maybe, list, verb}

abbrev pub op_words : TreeOp → List (List ℕ)
op_words (ops.Create path text) = codes "create" ∷ path ∷ text ∷ []
op_words (ops.Store path text) = codes "store" ∷ path ∷ text ∷ []
op_words (ops.Delete path) = codes "delete" ∷ path ∷ []

-- the op's fields are within their types
abbrev pub op_fits : TreeOp → Bool
op_fits (ops.Create path text) = a_path.fits path && a_text.fits text
op_fits (ops.Store path text) = a_path.fits path && a_text.fits text
op_fits (ops.Delete path) = a_path.fits path

-- the op that has this verb and these fields
abbrev pub op_read : List ℕ → List (List ℕ) → Option TreeOp
op_read word fields = verb (codes "create") (two a_path a_text) (λ p. ops.Create p.0 p.1) word fields (verb (codes "store") (two a_path a_text) (λ p. ops.Store p.0 p.1) word fields (verb (codes "delete") (one a_path) ops.Delete word fields None))

abbrev pub ask_words : TreeAsk → List (List ℕ)
ask_words (asks.Data path) = codes "data" ∷ path ∷ []
ask_words (asks.Has path) = codes "has" ∷ path ∷ []
ask_words (asks.Children path) = codes "children" ∷ path ∷ []

-- the ask's fields are within their types
abbrev pub ask_fits : TreeAsk → Bool
ask_fits (asks.Data path) = a_path.fits path
ask_fits (asks.Has path) = a_path.fits path
ask_fits (asks.Children path) = a_path.fits path

abbrev pub ask_read : List ℕ → List (List ℕ) → Option TreeAsk
ask_read word fields = verb (codes "data") (one a_path) asks.Data word fields (verb (codes "has") (one a_path) asks.Has word fields (verb (codes "children") (one a_path) asks.Children word fields None))

abbrev pub answer_words : TreeAns → List (List ℕ)
answer_words (answers.Data x) = (maybe a_text).spell x
answer_words (answers.Has x) = (one a_flag).spell x
answer_words (answers.Children x) = (list a_text).spell x

-- the answer has the form of the ask's, and is within its type
abbrev pub answer_fits : TreeAsk → TreeAns → Bool
answer_fits (asks.Data path) (answers.Data x) = (maybe a_text).fits x
answer_fits (asks.Has path) (answers.Has x) = (one a_flag).fits x
answer_fits (asks.Children path) (answers.Children x) = (list a_text).fits x
answer_fits ask answer = false

-- the answer of the ask's form that has these words
abbrev pub answer_read : TreeAsk → List (List ℕ) → Option TreeAns
answer_read (asks.Data path) words = option_map answers.Data ((maybe a_text).read words)
answer_read (asks.Has path) words = option_map answers.Has ((one a_flag).read words)
answer_read (asks.Children path) words = option_map answers.Children ((list a_text).read words)
