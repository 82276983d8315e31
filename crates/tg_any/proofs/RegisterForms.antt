-- What is read of the words of registers is what they spell, and nothing else.
use Rattle.std.proofs.Common.{◌≡◌, ℕ, true, List, [], ◌∷◌, codes, Option, Some, None, refl, ap, ◌∙◌}
use Rattle.tg_cell.specs.declared.register.RegisterOp.{RegisterOp}
use Rattle.tg_cell.specs.declared.register.RegisterOp.TheVariants as ops
use Rattle.tg_cell.specs.declared.register.RegisterAsk.{RegisterAsk}
use Rattle.tg_cell.specs.declared.register.RegisterAsk.TheVariants as asks
use Rattle.tg_cell.specs.declared.register.RegisterAns.{RegisterAns}
use Rattle.tg_cell.specs.declared.register.RegisterAns.TheVariants as answers
use Rattle.tg_any.specs.Words.{text as a_text, nothing, one, maybe}
use Rattle.tg_any.specs.RegisterWords.{op_words, op_fits, op_read, ask_words, ask_fits, ask_read, answer_words, answer_fits, answer_read}
use Rattle.tg_any.proofs.Words.{text_law, nothing_law, one_law, maybe_law, verb_takes, made_again, made_takes}

abbrev read_by : {A : Type 0} → (List ℕ → List (List ℕ) → Option A) → List (List ℕ) → Option A
read_by read [] = None
read_by read (word ∷ fields) = read word fields

abbrev IsOp : List ℕ → List (List ℕ) → RegisterOp → Type 0
IsOp word fields op = (word ∷ fields ≡ op_words op) × (op_fits op ≡ true)

pub op_takes : (word : List ℕ) (fields : List (List ℕ)) (op : RegisterOp) → op_read word fields ≡ Some op → IsOp word fields op
op_takes word fields y e = verb_takes (codes "write") (one a_text) (one_law a_text text_law) ops.Write word fields _ y (IsOp word fields) e (λ x fits is. (is, fits)) (λ e. absurd cc)

pub op_spelled : (op : RegisterOp) → op_fits op ≡ true → read_by op_read (op_words op) ≡ Some op
op_spelled (ops.Write text) fits = made_again (one a_text) (one_law a_text text_law) ops.Write text fits

pub op_again : (word : List ℕ) (fields : List (List ℕ)) (op : RegisterOp) → op_fits op ≡ true → word ∷ fields ≡ op_words op → op_read word fields ≡ Some op
op_again word fields op fits e = ap (read_by op_read) e ∙ op_spelled op fits

abbrev IsAsk : List ℕ → List (List ℕ) → RegisterAsk → Type 0
IsAsk word fields ask = (word ∷ fields ≡ ask_words ask) × (ask_fits ask ≡ true)

pub ask_takes : (word : List ℕ) (fields : List (List ℕ)) (ask : RegisterAsk) → ask_read word fields ≡ Some ask → IsAsk word fields ask
ask_takes word fields y e = verb_takes (codes "text") nothing nothing_law (λ (u : Unit {0}). asks.Text) word fields _ y (IsAsk word fields) e (λ x fits is. (is, fits)) (λ e. absurd cc)

pub ask_spelled : (ask : RegisterAsk) → ask_fits ask ≡ true → read_by ask_read (ask_words ask) ≡ Some ask
ask_spelled asks.Text fits = made_again nothing nothing_law (λ (u : Unit {0}). asks.Text) tt refl

pub ask_again : (word : List ℕ) (fields : List (List ℕ)) (ask : RegisterAsk) → ask_fits ask ≡ true → word ∷ fields ≡ ask_words ask → ask_read word fields ≡ Some ask
ask_again word fields ask fits e = ap (read_by ask_read) e ∙ ask_spelled ask fits

abbrev IsAnswer : RegisterAsk → List (List ℕ) → RegisterAns → Type 0
IsAnswer ask words answer = (words ≡ answer_words answer) × (answer_fits ask answer ≡ true)

pub answer_takes : (ask : RegisterAsk) (words : List (List ℕ)) (answer : RegisterAns) → answer_read ask words ≡ Some answer → IsAnswer ask words answer
answer_takes asks.Text words y e = made_takes (maybe a_text) (maybe_law a_text text_law) answers.Held words y (IsAnswer asks.Text words) e (λ x fits is. (is, fits))

pub answer_again : (ask : RegisterAsk) (answer : RegisterAns) → answer_fits ask answer ≡ true → answer_read ask (answer_words answer) ≡ Some answer
answer_again asks.Text (answers.Held x) fits = made_again (maybe a_text) (maybe_law a_text text_law) answers.Held x fits
