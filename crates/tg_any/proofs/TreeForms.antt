-- What is read of the words of trees is what they spell, and nothing else.
use Rattle.std.proofs.Common.{◌≡◌, ℕ, true, List, [], ◌∷◌, codes, Option, Some, None, ap, ◌∙◌}
use Rattle.tg_tree.specs.declared.tree.TreeOp.{TreeOp}
use Rattle.tg_tree.specs.declared.tree.TreeOp.TheVariants as ops
use Rattle.tg_tree.specs.declared.tree.TreeAsk.{TreeAsk}
use Rattle.tg_tree.specs.declared.tree.TreeAsk.TheVariants as asks
use Rattle.tg_tree.specs.declared.tree.TreeAns.{TreeAns}
use Rattle.tg_tree.specs.declared.tree.TreeAns.TheVariants as answers
use Rattle.tg_any.specs.Words.{text as a_text, path as a_path, flag as a_flag, one, two, maybe, list}
use Rattle.tg_any.specs.TreeWords.{op_words, op_fits, op_read, ask_words, ask_fits, ask_read, answer_words, answer_fits, answer_read}
use Rattle.tg_any.proofs.Words.{text_law, path_law, flag_law, one_law, two_law, maybe_law, verb_takes, made_again, made_takes}
use Rattle.tg_any.proofs.Lists.{list_law}

abbrev read_by : {A : Type 0} → (List ℕ → List (List ℕ) → Option A) → List (List ℕ) → Option A
read_by read [] = None
read_by read (word ∷ fields) = read word fields

abbrev IsOp : List ℕ → List (List ℕ) → TreeOp → Type 0
IsOp word fields op = (word ∷ fields ≡ op_words op) × (op_fits op ≡ true)

pub op_takes : (word : List ℕ) (fields : List (List ℕ)) (op : TreeOp) → op_read word fields ≡ Some op → IsOp word fields op
op_takes word fields y e = verb_takes (codes "create") (two a_path a_text) (two_law a_path a_text path_law text_law) (λ (p : List ℕ × List ℕ). ops.Create p.0 p.1) word fields _ y (IsOp word fields) e (λ x fits is. (is, fits)) (λ e. verb_takes (codes "store") (two a_path a_text) (two_law a_path a_text path_law text_law) (λ (p : List ℕ × List ℕ). ops.Store p.0 p.1) word fields _ y (IsOp word fields) e (λ x fits is. (is, fits)) (λ e. verb_takes (codes "delete") (one a_path) (one_law a_path path_law) ops.Delete word fields _ y (IsOp word fields) e (λ x fits is. (is, fits)) (λ e. absurd cc)))

pub op_spelled : (op : TreeOp) → op_fits op ≡ true → read_by op_read (op_words op) ≡ Some op
op_spelled (ops.Create path text) fits = made_again (two a_path a_text) (two_law a_path a_text path_law text_law) (λ (p : List ℕ × List ℕ). ops.Create p.0 p.1) (path, text) fits
op_spelled (ops.Store path text) fits = made_again (two a_path a_text) (two_law a_path a_text path_law text_law) (λ (p : List ℕ × List ℕ). ops.Store p.0 p.1) (path, text) fits
op_spelled (ops.Delete path) fits = made_again (one a_path) (one_law a_path path_law) ops.Delete path fits

pub op_again : (word : List ℕ) (fields : List (List ℕ)) (op : TreeOp) → op_fits op ≡ true → word ∷ fields ≡ op_words op → op_read word fields ≡ Some op
op_again word fields op fits e = ap (read_by op_read) e ∙ op_spelled op fits

abbrev IsAsk : List ℕ → List (List ℕ) → TreeAsk → Type 0
IsAsk word fields ask = (word ∷ fields ≡ ask_words ask) × (ask_fits ask ≡ true)

pub ask_takes : (word : List ℕ) (fields : List (List ℕ)) (ask : TreeAsk) → ask_read word fields ≡ Some ask → IsAsk word fields ask
ask_takes word fields y e = verb_takes (codes "data") (one a_path) (one_law a_path path_law) asks.Data word fields _ y (IsAsk word fields) e (λ x fits is. (is, fits)) (λ e. verb_takes (codes "has") (one a_path) (one_law a_path path_law) asks.Has word fields _ y (IsAsk word fields) e (λ x fits is. (is, fits)) (λ e. verb_takes (codes "children") (one a_path) (one_law a_path path_law) asks.Children word fields _ y (IsAsk word fields) e (λ x fits is. (is, fits)) (λ e. absurd cc)))

pub ask_spelled : (ask : TreeAsk) → ask_fits ask ≡ true → read_by ask_read (ask_words ask) ≡ Some ask
ask_spelled (asks.Data path) fits = made_again (one a_path) (one_law a_path path_law) asks.Data path fits
ask_spelled (asks.Has path) fits = made_again (one a_path) (one_law a_path path_law) asks.Has path fits
ask_spelled (asks.Children path) fits = made_again (one a_path) (one_law a_path path_law) asks.Children path fits

pub ask_again : (word : List ℕ) (fields : List (List ℕ)) (ask : TreeAsk) → ask_fits ask ≡ true → word ∷ fields ≡ ask_words ask → ask_read word fields ≡ Some ask
ask_again word fields ask fits e = ap (read_by ask_read) e ∙ ask_spelled ask fits

abbrev IsAnswer : TreeAsk → List (List ℕ) → TreeAns → Type 0
IsAnswer ask words answer = (words ≡ answer_words answer) × (answer_fits ask answer ≡ true)

pub answer_takes : (ask : TreeAsk) (words : List (List ℕ)) (answer : TreeAns) → answer_read ask words ≡ Some answer → IsAnswer ask words answer
answer_takes (asks.Data path) words y e = made_takes (maybe a_text) (maybe_law a_text text_law) answers.Data words y (IsAnswer (asks.Data path) words) e (λ x fits is. (is, fits))
answer_takes (asks.Has path) words y e = made_takes (one a_flag) (one_law a_flag flag_law) answers.Has words y (IsAnswer (asks.Has path) words) e (λ x fits is. (is, fits))
answer_takes (asks.Children path) words y e = made_takes (list a_text) (list_law a_text text_law) answers.Children words y (IsAnswer (asks.Children path) words) e (λ x fits is. (is, fits))

pub answer_again : (ask : TreeAsk) (answer : TreeAns) → answer_fits ask answer ≡ true → answer_read ask (answer_words answer) ≡ Some answer
answer_again (asks.Data path) (answers.Data x) fits = made_again (maybe a_text) (maybe_law a_text text_law) answers.Data x fits
answer_again (asks.Data path) (answers.Has x) fits = absurd cc
answer_again (asks.Data path) (answers.Children x) fits = absurd cc
answer_again (asks.Has path) (answers.Has x) fits = made_again (one a_flag) (one_law a_flag flag_law) answers.Has x fits
answer_again (asks.Has path) (answers.Data x) fits = absurd cc
answer_again (asks.Has path) (answers.Children x) fits = absurd cc
answer_again (asks.Children path) (answers.Children x) fits = made_again (list a_text) (list_law a_text text_law) answers.Children x fits
answer_again (asks.Children path) (answers.Data x) fits = absurd cc
answer_again (asks.Children path) (answers.Has x) fits = absurd cc
