-- What is read of the words of counters is what they spell, and nothing else.
use Rattle.std.proofs.Common.{◌≡◌, ℕ, true, List, [], ◌∷◌, codes, Option, Some, None, refl, ap, ◌∙◌}
use Rattle.tg_cell.specs.declared.counter.CounterOp.{CounterOp}
use Rattle.tg_cell.specs.declared.counter.CounterOp.TheVariants as ops
use Rattle.tg_cell.specs.declared.counter.CounterAsk.{CounterAsk}
use Rattle.tg_cell.specs.declared.counter.CounterAsk.TheVariants as asks
use Rattle.tg_cell.specs.declared.counter.CounterAns.{CounterAns}
use Rattle.tg_cell.specs.declared.counter.CounterAns.TheVariants as answers
use Rattle.tg_any.specs.Words.{signed as a_signed, nothing, one}
use Rattle.tg_any.specs.CounterWords.{op_words, op_fits, op_read, ask_words, ask_fits, ask_read, answer_words, answer_fits, answer_read}
use Rattle.tg_any.proofs.Words.{signed_law, nothing_law, one_law, verb_takes, made_again, made_takes}

abbrev read_by : {A : Type 0} → (List ℕ → List (List ℕ) → Option A) → List (List ℕ) → Option A
read_by read [] = None
read_by read (word ∷ fields) = read word fields

abbrev IsOp : List ℕ → List (List ℕ) → CounterOp → Type 0
IsOp word fields op = (word ∷ fields ≡ op_words op) × (op_fits op ≡ true)

pub op_takes : (word : List ℕ) (fields : List (List ℕ)) (op : CounterOp) → op_read word fields ≡ Some op → IsOp word fields op
op_takes word fields y e = verb_takes (codes "add") (one a_signed) (one_law a_signed signed_law) ops.Add word fields _ y (IsOp word fields) e (λ x fits is. (is, fits)) (λ e. absurd cc)

pub op_spelled : (op : CounterOp) → op_fits op ≡ true → read_by op_read (op_words op) ≡ Some op
op_spelled (ops.Add by) fits = made_again (one a_signed) (one_law a_signed signed_law) ops.Add by fits

pub op_again : (word : List ℕ) (fields : List (List ℕ)) (op : CounterOp) → op_fits op ≡ true → word ∷ fields ≡ op_words op → op_read word fields ≡ Some op
op_again word fields op fits e = ap (read_by op_read) e ∙ op_spelled op fits

abbrev IsAsk : List ℕ → List (List ℕ) → CounterAsk → Type 0
IsAsk word fields ask = (word ∷ fields ≡ ask_words ask) × (ask_fits ask ≡ true)

pub ask_takes : (word : List ℕ) (fields : List (List ℕ)) (ask : CounterAsk) → ask_read word fields ≡ Some ask → IsAsk word fields ask
ask_takes word fields y e = verb_takes (codes "value") nothing nothing_law (λ (u : Unit {0}). asks.Value) word fields _ y (IsAsk word fields) e (λ x fits is. (is, fits)) (λ e. absurd cc)

pub ask_spelled : (ask : CounterAsk) → ask_fits ask ≡ true → read_by ask_read (ask_words ask) ≡ Some ask
ask_spelled asks.Value fits = made_again nothing nothing_law (λ (u : Unit {0}). asks.Value) tt refl

pub ask_again : (word : List ℕ) (fields : List (List ℕ)) (ask : CounterAsk) → ask_fits ask ≡ true → word ∷ fields ≡ ask_words ask → ask_read word fields ≡ Some ask
ask_again word fields ask fits e = ap (read_by ask_read) e ∙ ask_spelled ask fits

abbrev IsAnswer : CounterAsk → List (List ℕ) → CounterAns → Type 0
IsAnswer ask words answer = (words ≡ answer_words answer) × (answer_fits ask answer ≡ true)

pub answer_takes : (ask : CounterAsk) (words : List (List ℕ)) (answer : CounterAns) → answer_read ask words ≡ Some answer → IsAnswer ask words answer
answer_takes asks.Value words y e = made_takes (one a_signed) (one_law a_signed signed_law) answers.Number words y (IsAnswer asks.Value words) e (λ x fits is. (is, fits))

pub answer_again : (ask : CounterAsk) (answer : CounterAns) → answer_fits ask answer ≡ true → answer_read ask (answer_words answer) ≡ Some answer
answer_again asks.Value (answers.Number x) fits = made_again (one a_signed) (one_law a_signed signed_law) answers.Number x fits
