-- What is read of the words of lists is what they spell, and nothing else.
use Rattle.std.proofs.Common.{◌≡◌, ℕ, true, List, [], ◌∷◌, codes, Option, Some, None, refl, ap, ◌∙◌}
use Rattle.tg_list.specs.declared.text_list.TextListOp.{TextListOp}
use Rattle.tg_list.specs.declared.text_list.TextListOp.TheVariants as ops
use Rattle.tg_list.specs.declared.text_list.TextListAsk.{TextListAsk}
use Rattle.tg_list.specs.declared.text_list.TextListAsk.TheVariants as asks
use Rattle.tg_list.specs.declared.text_list.TextListAns.{TextListAns}
use Rattle.tg_list.specs.declared.text_list.TextListAns.TheVariants as answers
use Rattle.tg_any.specs.Words.{text as a_text, number as a_number, index as an_index, nothing, one, two, maybe, list}
use Rattle.tg_any.specs.ListWords.{op_words, op_fits, op_read, ask_words, ask_fits, ask_read, answer_words, answer_fits, answer_read}
use Rattle.tg_any.proofs.Words.{text_law, number_law, index_law, nothing_law, one_law, two_law, maybe_law, verb_takes, made_again, made_takes}
use Rattle.tg_any.proofs.Lists.{list_law}

abbrev read_by : {A : Type 0} → (List ℕ → List (List ℕ) → Option A) → List (List ℕ) → Option A
read_by read [] = None
read_by read (word ∷ fields) = read word fields

abbrev IsOp : List ℕ → List (List ℕ) → TextListOp → Type 0
IsOp word fields op = (word ∷ fields ≡ op_words op) × (op_fits op ≡ true)

pub op_takes : (word : List ℕ) (fields : List (List ℕ)) (op : TextListOp) → op_read word fields ≡ Some op → IsOp word fields op
op_takes word fields y e = verb_takes (codes "push_front") (one a_text) (one_law a_text text_law) ops.PushFront word fields _ y (IsOp word fields) e (λ x fits is. (is, fits)) (λ e. verb_takes (codes "push_back") (one a_text) (one_law a_text text_law) ops.PushBack word fields _ y (IsOp word fields) e (λ x fits is. (is, fits)) (λ e. verb_takes (codes "insert") (two an_index a_text) (two_law an_index a_text index_law text_law) (λ (p : ℕ × List ℕ). ops.Insert p.0 p.1) word fields _ y (IsOp word fields) e (λ x fits is. (is, fits)) (λ e. verb_takes (codes "remove") (one an_index) (one_law an_index index_law) ops.Remove word fields _ y (IsOp word fields) e (λ x fits is. (is, fits)) (λ e. verb_takes (codes "pop_front") nothing nothing_law (λ (u : Unit {0}). ops.PopFront) word fields _ y (IsOp word fields) e (λ x fits is. (is, fits)) (λ e. verb_takes (codes "pop_back") nothing nothing_law (λ (u : Unit {0}). ops.PopBack) word fields _ y (IsOp word fields) e (λ x fits is. (is, fits)) (λ e. absurd cc))))))

pub op_spelled : (op : TextListOp) → op_fits op ≡ true → read_by op_read (op_words op) ≡ Some op
op_spelled (ops.PushFront text) fits = made_again (one a_text) (one_law a_text text_law) ops.PushFront text fits
op_spelled (ops.PushBack text) fits = made_again (one a_text) (one_law a_text text_law) ops.PushBack text fits
op_spelled (ops.Insert at text) fits = made_again (two an_index a_text) (two_law an_index a_text index_law text_law) (λ (p : ℕ × List ℕ). ops.Insert p.0 p.1) (at, text) fits
op_spelled (ops.Remove at) fits = made_again (one an_index) (one_law an_index index_law) ops.Remove at fits
op_spelled ops.PopFront fits = made_again nothing nothing_law (λ (u : Unit {0}). ops.PopFront) tt refl
op_spelled ops.PopBack fits = made_again nothing nothing_law (λ (u : Unit {0}). ops.PopBack) tt refl

pub op_again : (word : List ℕ) (fields : List (List ℕ)) (op : TextListOp) → op_fits op ≡ true → word ∷ fields ≡ op_words op → op_read word fields ≡ Some op
op_again word fields op fits e = ap (read_by op_read) e ∙ op_spelled op fits

abbrev IsAsk : List ℕ → List (List ℕ) → TextListAsk → Type 0
IsAsk word fields ask = (word ∷ fields ≡ ask_words ask) × (ask_fits ask ≡ true)

pub ask_takes : (word : List ℕ) (fields : List (List ℕ)) (ask : TextListAsk) → ask_read word fields ≡ Some ask → IsAsk word fields ask
ask_takes word fields y e = verb_takes (codes "at") (one an_index) (one_law an_index index_law) asks.At word fields _ y (IsAsk word fields) e (λ x fits is. (is, fits)) (λ e. verb_takes (codes "len") nothing nothing_law (λ (u : Unit {0}). asks.Len) word fields _ y (IsAsk word fields) e (λ x fits is. (is, fits)) (λ e. verb_takes (codes "items") nothing nothing_law (λ (u : Unit {0}). asks.Items) word fields _ y (IsAsk word fields) e (λ x fits is. (is, fits)) (λ e. absurd cc)))

pub ask_spelled : (ask : TextListAsk) → ask_fits ask ≡ true → read_by ask_read (ask_words ask) ≡ Some ask
ask_spelled (asks.At at) fits = made_again (one an_index) (one_law an_index index_law) asks.At at fits
ask_spelled asks.Len fits = made_again nothing nothing_law (λ (u : Unit {0}). asks.Len) tt refl
ask_spelled asks.Items fits = made_again nothing nothing_law (λ (u : Unit {0}). asks.Items) tt refl

pub ask_again : (word : List ℕ) (fields : List (List ℕ)) (ask : TextListAsk) → ask_fits ask ≡ true → word ∷ fields ≡ ask_words ask → ask_read word fields ≡ Some ask
ask_again word fields ask fits e = ap (read_by ask_read) e ∙ ask_spelled ask fits

abbrev IsAnswer : TextListAsk → List (List ℕ) → TextListAns → Type 0
IsAnswer ask words answer = (words ≡ answer_words answer) × (answer_fits ask answer ≡ true)

pub answer_takes : (ask : TextListAsk) (words : List (List ℕ)) (answer : TextListAns) → answer_read ask words ≡ Some answer → IsAnswer ask words answer
answer_takes (asks.At at) words y e = made_takes (maybe a_text) (maybe_law a_text text_law) answers.Item words y (IsAnswer (asks.At at) words) e (λ x fits is. (is, fits))
answer_takes asks.Len words y e = made_takes (one a_number) (one_law a_number number_law) answers.Number words y (IsAnswer asks.Len words) e (λ x fits is. (is, fits))
answer_takes asks.Items words y e = made_takes (list a_text) (list_law a_text text_law) answers.Items words y (IsAnswer asks.Items words) e (λ x fits is. (is, fits))

pub answer_again : (ask : TextListAsk) (answer : TextListAns) → answer_fits ask answer ≡ true → answer_read ask (answer_words answer) ≡ Some answer
answer_again (asks.At at) (answers.Item x) fits = made_again (maybe a_text) (maybe_law a_text text_law) answers.Item x fits
answer_again (asks.At at) (answers.Number x) fits = absurd cc
answer_again (asks.At at) (answers.Items x) fits = absurd cc
answer_again asks.Len (answers.Number x) fits = made_again (one a_number) (one_law a_number number_law) answers.Number x fits
answer_again asks.Len (answers.Item x) fits = absurd cc
answer_again asks.Len (answers.Items x) fits = absurd cc
answer_again asks.Items (answers.Items x) fits = made_again (list a_text) (list_law a_text text_law) answers.Items x fits
answer_again asks.Items (answers.Item x) fits = absurd cc
answer_again asks.Items (answers.Number x) fits = absurd cc
