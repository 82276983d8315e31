-- What is read of the words of sets is what they spell, and nothing else.
use Rattle.std.proofs.Common.{◌≡◌, ℕ, true, List, [], ◌∷◌, codes, Option, Some, None, ap, ◌∙◌}
use Rattle.tg_set.specs.declared.set.SetOp.{SetOp}
use Rattle.tg_set.specs.declared.set.SetOp.TheVariants as ops
use Rattle.tg_set.specs.declared.set.SetAsk.{SetAsk}
use Rattle.tg_set.specs.declared.set.SetAsk.TheVariants as asks
use Rattle.tg_set.specs.declared.set.SetAns.{SetAns}
use Rattle.tg_set.specs.declared.set.SetAns.TheVariants as answers
use Rattle.tg_any.specs.Words.{number as a_number, flag as a_flag, one, two, list}
use Rattle.tg_any.specs.SetWords.{op_words, op_fits, op_read, ask_words, ask_fits, ask_read, answer_words, answer_fits, answer_read}
use Rattle.tg_any.proofs.Words.{number_law, flag_law, one_law, two_law, verb_takes, made_again, made_takes}
use Rattle.tg_any.proofs.Lists.{list_law}

abbrev read_by : {A : Type 0} → (List ℕ → List (List ℕ) → Option A) → List (List ℕ) → Option A
read_by read [] = None
read_by read (word ∷ fields) = read word fields

abbrev IsOp : List ℕ → List (List ℕ) → SetOp → Type 0
IsOp word fields op = (word ∷ fields ≡ op_words op) × (op_fits op ≡ true)

pub op_takes : (word : List ℕ) (fields : List (List ℕ)) (op : SetOp) → op_read word fields ≡ Some op → IsOp word fields op
op_takes word fields y e = verb_takes (codes "include") (one a_number) (one_law a_number number_law) ops.Include word fields _ y (IsOp word fields) e (λ x fits is. (is, fits)) (λ e. verb_takes (codes "exclude") (one a_number) (one_law a_number number_law) ops.Exclude word fields _ y (IsOp word fields) e (λ x fits is. (is, fits)) (λ e. absurd cc))

pub op_spelled : (op : SetOp) → op_fits op ≡ true → read_by op_read (op_words op) ≡ Some op
op_spelled (ops.Include number) fits = made_again (one a_number) (one_law a_number number_law) ops.Include number fits
op_spelled (ops.Exclude number) fits = made_again (one a_number) (one_law a_number number_law) ops.Exclude number fits

pub op_again : (word : List ℕ) (fields : List (List ℕ)) (op : SetOp) → op_fits op ≡ true → word ∷ fields ≡ op_words op → op_read word fields ≡ Some op
op_again word fields op fits e = ap (read_by op_read) e ∙ op_spelled op fits

abbrev IsAsk : List ℕ → List (List ℕ) → SetAsk → Type 0
IsAsk word fields ask = (word ∷ fields ≡ ask_words ask) × (ask_fits ask ≡ true)

pub ask_takes : (word : List ℕ) (fields : List (List ℕ)) (ask : SetAsk) → ask_read word fields ≡ Some ask → IsAsk word fields ask
ask_takes word fields y e = verb_takes (codes "member") (one a_number) (one_law a_number number_law) asks.Member word fields _ y (IsAsk word fields) e (λ x fits is. (is, fits)) (λ e. verb_takes (codes "count") (two a_number a_number) (two_law a_number a_number number_law number_law) (λ (p : ℕ × ℕ). asks.Count p.0 p.1) word fields _ y (IsAsk word fields) e (λ x fits is. (is, fits)) (λ e. verb_takes (codes "between") (two a_number a_number) (two_law a_number a_number number_law number_law) (λ (p : ℕ × ℕ). asks.Between p.0 p.1) word fields _ y (IsAsk word fields) e (λ x fits is. (is, fits)) (λ e. absurd cc)))

pub ask_spelled : (ask : SetAsk) → ask_fits ask ≡ true → read_by ask_read (ask_words ask) ≡ Some ask
ask_spelled (asks.Member number) fits = made_again (one a_number) (one_law a_number number_law) asks.Member number fits
ask_spelled (asks.Count low high) fits = made_again (two a_number a_number) (two_law a_number a_number number_law number_law) (λ (p : ℕ × ℕ). asks.Count p.0 p.1) (low, high) fits
ask_spelled (asks.Between low high) fits = made_again (two a_number a_number) (two_law a_number a_number number_law number_law) (λ (p : ℕ × ℕ). asks.Between p.0 p.1) (low, high) fits

pub ask_again : (word : List ℕ) (fields : List (List ℕ)) (ask : SetAsk) → ask_fits ask ≡ true → word ∷ fields ≡ ask_words ask → ask_read word fields ≡ Some ask
ask_again word fields ask fits e = ap (read_by ask_read) e ∙ ask_spelled ask fits

abbrev IsAnswer : SetAsk → List (List ℕ) → SetAns → Type 0
IsAnswer ask words answer = (words ≡ answer_words answer) × (answer_fits ask answer ≡ true)

pub answer_takes : (ask : SetAsk) (words : List (List ℕ)) (answer : SetAns) → answer_read ask words ≡ Some answer → IsAnswer ask words answer
answer_takes (asks.Member number) words y e = made_takes (one a_flag) (one_law a_flag flag_law) answers.Member words y (IsAnswer (asks.Member number) words) e (λ x fits is. (is, fits))
answer_takes (asks.Count low high) words y e = made_takes (one a_number) (one_law a_number number_law) answers.Count words y (IsAnswer (asks.Count low high) words) e (λ x fits is. (is, fits))
answer_takes (asks.Between low high) words y e = made_takes (list a_number) (list_law a_number number_law) answers.Numbers words y (IsAnswer (asks.Between low high) words) e (λ x fits is. (is, fits))

pub answer_again : (ask : SetAsk) (answer : SetAns) → answer_fits ask answer ≡ true → answer_read ask (answer_words answer) ≡ Some answer
answer_again (asks.Member number) (answers.Member x) fits = made_again (one a_flag) (one_law a_flag flag_law) answers.Member x fits
answer_again (asks.Member number) (answers.Count x) fits = absurd cc
answer_again (asks.Member number) (answers.Numbers x) fits = absurd cc
answer_again (asks.Count low high) (answers.Count x) fits = made_again (one a_number) (one_law a_number number_law) answers.Count x fits
answer_again (asks.Count low high) (answers.Member x) fits = absurd cc
answer_again (asks.Count low high) (answers.Numbers x) fits = absurd cc
answer_again (asks.Between low high) (answers.Numbers x) fits = made_again (list a_number) (list_law a_number number_law) answers.Numbers x fits
answer_again (asks.Between low high) (answers.Member x) fits = absurd cc
answer_again (asks.Between low high) (answers.Count x) fits = absurd cc
