-- The words of ops, asks and answers of all kinds.
use Rattle.std.specs.Prelude.{ℕ, Bool, false, List, [], ◌∷◌, codes, Option, Some, None, option_map}
use Rattle.tg_any.specs.DirectoryWords as directory
use Rattle.tg_any.specs.CounterWords as counter
use Rattle.tg_any.specs.RegisterWords as register
use Rattle.tg_any.specs.MapWords as map
use Rattle.tg_any.specs.ListWords as list
use Rattle.tg_any.specs.TreeWords as tree
use Rattle.tg_any.specs.SetWords as set
use Rattle.tg_any.specs.declared.any.AnyOp.{AnyOp}
use Rattle.tg_any.specs.declared.any.AnyOp.TheVariants as ops
use Rattle.tg_any.specs.declared.any.AnyAsk.{AnyAsk}
use Rattle.tg_any.specs.declared.any.AnyAsk.TheVariants as asks
use Rattle.tg_any.specs.declared.any.AnyAns.{AnyAns}
use Rattle.tg_any.specs.declared.any.AnyAns.TheVariants as answers

-- an op is a verb and its fields
abbrev pub op_words : AnyOp → List (List ℕ)
op_words (ops.Directory op) = directory.op_words op
op_words (ops.Counter op) = counter.op_words op
op_words (ops.Register op) = register.op_words op
op_words (ops.Map op) = map.op_words op
op_words (ops.List op) = list.op_words op
op_words (ops.Tree op) = tree.op_words op
op_words (ops.Set op) = set.op_words op

-- the op's fields are within their types
abbrev pub op_fits : AnyOp → Bool
op_fits (ops.Directory op) = directory.op_fits op
op_fits (ops.Counter op) = counter.op_fits op
op_fits (ops.Register op) = register.op_fits op
op_fits (ops.Map op) = map.op_fits op
op_fits (ops.List op) = list.op_fits op
op_fits (ops.Tree op) = tree.op_fits op
op_fits (ops.Set op) = set.op_fits op

abbrev pub ask_words : AnyAsk → List (List ℕ)
ask_words (asks.Directory ask) = directory.ask_words ask
ask_words (asks.Counter ask) = counter.ask_words ask
ask_words (asks.Register ask) = register.ask_words ask
ask_words (asks.Map ask) = map.ask_words ask
ask_words (asks.List ask) = list.ask_words ask
ask_words (asks.Tree ask) = tree.ask_words ask
ask_words (asks.Set ask) = set.ask_words ask

abbrev pub ask_fits : AnyAsk → Bool
ask_fits (asks.Directory ask) = directory.ask_fits ask
ask_fits (asks.Counter ask) = counter.ask_fits ask
ask_fits (asks.Register ask) = register.ask_fits ask
ask_fits (asks.Map ask) = map.ask_fits ask
ask_fits (asks.List ask) = list.ask_fits ask
ask_fits (asks.Tree ask) = tree.ask_fits ask
ask_fits (asks.Set ask) = set.ask_fits ask

-- the answer to an ask of another kind is `none`
abbrev pub answer_words : AnyAns → List (List ℕ)
answer_words (answers.Directory answer) = directory.answer_words answer
answer_words (answers.Counter answer) = counter.answer_words answer
answer_words (answers.Register answer) = register.answer_words answer
answer_words (answers.Map answer) = map.answer_words answer
answer_words (answers.List answer) = list.answer_words answer
answer_words (answers.Tree answer) = tree.answer_words answer
answer_words (answers.Set answer) = set.answer_words answer
answer_words answers.None = codes "none" ∷ []

-- the answer has the form of the ask's, and is within its type
abbrev pub answer_fits : AnyAsk → AnyAns → Bool
answer_fits (asks.Directory ask) (answers.Directory answer) = directory.answer_fits ask answer
answer_fits (asks.Counter ask) (answers.Counter answer) = counter.answer_fits ask answer
answer_fits (asks.Register ask) (answers.Register answer) = register.answer_fits ask answer
answer_fits (asks.Map ask) (answers.Map answer) = map.answer_fits ask answer
answer_fits (asks.List ask) (answers.List answer) = list.answer_fits ask answer
answer_fits (asks.Tree ask) (answers.Tree answer) = tree.answer_fits ask answer
answer_fits (asks.Set ask) (answers.Set answer) = set.answer_fits ask answer
answer_fits ask answer = false

abbrev pub or_other : {A : Type 0} → Option A → Option A → Option A
or_other (Some x) other = Some x
or_other None other = other

-- the op that has these words
unfoldable pub op_read : List (List ℕ) → Option AnyOp
op_read [] = None
op_read (word ∷ fields) = or_other (option_map ops.Directory (directory.op_read word fields)) (or_other (option_map ops.Counter (counter.op_read word fields)) (or_other (option_map ops.Register (register.op_read word fields)) (or_other (option_map ops.Map (map.op_read word fields)) (or_other (option_map ops.List (list.op_read word fields)) (or_other (option_map ops.Tree (tree.op_read word fields)) (or_other (option_map ops.Set (set.op_read word fields)) None))))))

-- the ask that has these words
unfoldable pub ask_read : List (List ℕ) → Option AnyAsk
ask_read [] = None
ask_read (word ∷ fields) = or_other (option_map asks.Directory (directory.ask_read word fields)) (or_other (option_map asks.Counter (counter.ask_read word fields)) (or_other (option_map asks.Register (register.ask_read word fields)) (or_other (option_map asks.Map (map.ask_read word fields)) (or_other (option_map asks.List (list.ask_read word fields)) (or_other (option_map asks.Tree (tree.ask_read word fields)) (or_other (option_map asks.Set (set.ask_read word fields)) None))))))

-- the answer of the ask's form that has these words
abbrev pub answer_read : AnyAsk → List (List ℕ) → Option AnyAns
answer_read (asks.Directory ask) words = option_map answers.Directory (directory.answer_read ask words)
answer_read (asks.Counter ask) words = option_map answers.Counter (counter.answer_read ask words)
answer_read (asks.Register ask) words = option_map answers.Register (register.answer_read ask words)
answer_read (asks.Map ask) words = option_map answers.Map (map.answer_read ask words)
answer_read (asks.List ask) words = option_map answers.List (list.answer_read ask words)
answer_read (asks.Tree ask) words = option_map answers.Tree (tree.answer_read ask words)
answer_read (asks.Set ask) words = option_map answers.Set (set.answer_read ask words)
