-- What is read of the words of maps is what they spell, and nothing else.
use Rattle.std.proofs.Common.{◌≡◌, ℕ, true, List, [], ◌∷◌, codes, Option, Some, None, refl, ap, ◌∙◌}
use Rattle.tg_map.specs.declared.map.MapOp.{MapOp}
use Rattle.tg_map.specs.declared.map.MapOp.TheVariants as ops
use Rattle.tg_map.specs.declared.map.MapAsk.{MapAsk}
use Rattle.tg_map.specs.declared.map.MapAsk.TheVariants as asks
use Rattle.tg_map.specs.declared.map.MapAns.{MapAns}
use Rattle.tg_map.specs.declared.map.MapAns.TheVariants as answers
use Rattle.tg_any.specs.Words.{text as a_text, number as a_number, nothing, one, two, maybe, list}
use Rattle.tg_any.specs.MapWords.{op_words, op_fits, op_read, ask_words, ask_fits, ask_read, answer_words, answer_fits, answer_read}
use Rattle.tg_any.proofs.Words.{text_law, number_law, nothing_law, one_law, two_law, maybe_law, verb_takes, made_again, made_takes}
use Rattle.tg_any.proofs.Lists.{list_law}

abbrev read_by : {A : Type 0} → (List ℕ → List (List ℕ) → Option A) → List (List ℕ) → Option A
read_by read [] = None
read_by read (word ∷ fields) = read word fields

abbrev IsOp : List ℕ → List (List ℕ) → MapOp → Type 0
IsOp word fields op = (word ∷ fields ≡ op_words op) × (op_fits op ≡ true)

pub op_takes : (word : List ℕ) (fields : List (List ℕ)) (op : MapOp) → op_read word fields ≡ Some op → IsOp word fields op
op_takes word fields y e = verb_takes (codes "set") (two a_text a_text) (two_law a_text a_text text_law text_law) (λ (p : List ℕ × List ℕ). ops.Set p.0 p.1) word fields _ y (IsOp word fields) e (λ x fits is. (is, fits)) (λ e. verb_takes (codes "unset") (one a_text) (one_law a_text text_law) ops.Unset word fields _ y (IsOp word fields) e (λ x fits is. (is, fits)) (λ e. absurd cc))

pub op_spelled : (op : MapOp) → op_fits op ≡ true → read_by op_read (op_words op) ≡ Some op
op_spelled (ops.Set key value) fits = made_again (two a_text a_text) (two_law a_text a_text text_law text_law) (λ (p : List ℕ × List ℕ). ops.Set p.0 p.1) (key, value) fits
op_spelled (ops.Unset key) fits = made_again (one a_text) (one_law a_text text_law) ops.Unset key fits

pub op_again : (word : List ℕ) (fields : List (List ℕ)) (op : MapOp) → op_fits op ≡ true → word ∷ fields ≡ op_words op → op_read word fields ≡ Some op
op_again word fields op fits e = ap (read_by op_read) e ∙ op_spelled op fits

abbrev IsAsk : List ℕ → List (List ℕ) → MapAsk → Type 0
IsAsk word fields ask = (word ∷ fields ≡ ask_words ask) × (ask_fits ask ≡ true)

pub ask_takes : (word : List ℕ) (fields : List (List ℕ)) (ask : MapAsk) → ask_read word fields ≡ Some ask → IsAsk word fields ask
ask_takes word fields y e = verb_takes (codes "get") (one a_text) (one_law a_text text_law) asks.Get word fields _ y (IsAsk word fields) e (λ x fits is. (is, fits)) (λ e. verb_takes (codes "size") nothing nothing_law (λ (u : Unit {0}). asks.Size) word fields _ y (IsAsk word fields) e (λ x fits is. (is, fits)) (λ e. verb_takes (codes "keys") nothing nothing_law (λ (u : Unit {0}). asks.Keys) word fields _ y (IsAsk word fields) e (λ x fits is. (is, fits)) (λ e. absurd cc)))

pub ask_spelled : (ask : MapAsk) → ask_fits ask ≡ true → read_by ask_read (ask_words ask) ≡ Some ask
ask_spelled (asks.Get key) fits = made_again (one a_text) (one_law a_text text_law) asks.Get key fits
ask_spelled asks.Size fits = made_again nothing nothing_law (λ (u : Unit {0}). asks.Size) tt refl
ask_spelled asks.Keys fits = made_again nothing nothing_law (λ (u : Unit {0}). asks.Keys) tt refl

pub ask_again : (word : List ℕ) (fields : List (List ℕ)) (ask : MapAsk) → ask_fits ask ≡ true → word ∷ fields ≡ ask_words ask → ask_read word fields ≡ Some ask
ask_again word fields ask fits e = ap (read_by ask_read) e ∙ ask_spelled ask fits

abbrev IsAnswer : MapAsk → List (List ℕ) → MapAns → Type 0
IsAnswer ask words answer = (words ≡ answer_words answer) × (answer_fits ask answer ≡ true)

pub answer_takes : (ask : MapAsk) (words : List (List ℕ)) (answer : MapAns) → answer_read ask words ≡ Some answer → IsAnswer ask words answer
answer_takes (asks.Get key) words y e = made_takes (maybe a_text) (maybe_law a_text text_law) answers.Value words y (IsAnswer (asks.Get key) words) e (λ x fits is. (is, fits))
answer_takes asks.Size words y e = made_takes (one a_number) (one_law a_number number_law) answers.Number words y (IsAnswer asks.Size words) e (λ x fits is. (is, fits))
answer_takes asks.Keys words y e = made_takes (list a_text) (list_law a_text text_law) answers.Keys words y (IsAnswer asks.Keys words) e (λ x fits is. (is, fits))

pub answer_again : (ask : MapAsk) (answer : MapAns) → answer_fits ask answer ≡ true → answer_read ask (answer_words answer) ≡ Some answer
answer_again (asks.Get key) (answers.Value x) fits = made_again (maybe a_text) (maybe_law a_text text_law) answers.Value x fits
answer_again (asks.Get key) (answers.Number x) fits = absurd cc
answer_again (asks.Get key) (answers.Keys x) fits = absurd cc
answer_again asks.Size (answers.Number x) fits = made_again (one a_number) (one_law a_number number_law) answers.Number x fits
answer_again asks.Size (answers.Value x) fits = absurd cc
answer_again asks.Size (answers.Keys x) fits = absurd cc
answer_again asks.Keys (answers.Keys x) fits = made_again (list a_text) (list_law a_text text_law) answers.Keys x fits
answer_again asks.Keys (answers.Value x) fits = absurd cc
answer_again asks.Keys (answers.Number x) fits = absurd cc
