-- What is read of the words of directories is what they spell, and nothing else.
use Rattle.std.proofs.Common.{◌≡◌, ℕ, true, List, [], ◌∷◌, codes, Option, Some, None, refl, ap, ◌∙◌}
use Rattle.tg_base.specs.declared.ids.Oid.{Oid}
use Rattle.tg_dir.specs.declared.directory.DirectoryOp.{DirectoryOp}
use Rattle.tg_dir.specs.declared.directory.DirectoryOp.TheVariants as ops
use Rattle.tg_dir.specs.declared.directory.DirectoryAsk.{DirectoryAsk}
use Rattle.tg_dir.specs.declared.directory.DirectoryAsk.TheVariants as asks
use Rattle.tg_dir.specs.declared.directory.DirectoryAns.{DirectoryAns}
use Rattle.tg_dir.specs.declared.directory.DirectoryAns.TheVariants as answers
use Rattle.tg_any.specs.Words.{text as a_text, number as a_number, object as an_object, mark as a_mark, nothing, one, two, maybe, list}
use Rattle.tg_any.specs.DirectoryWords.{op_words, op_fits, op_read, ask_words, ask_fits, ask_read, answer_words, answer_fits, answer_read}
use Rattle.tg_any.proofs.Words.{text_law, number_law, object_law, mark_law, nothing_law, one_law, two_law, maybe_law, verb_takes, made_again, made_takes}
use Rattle.tg_any.proofs.Lists.{list_law}

abbrev read_by : {A : Type 0} → (List ℕ → List (List ℕ) → Option A) → List (List ℕ) → Option A
read_by read [] = None
read_by read (word ∷ fields) = read word fields

abbrev IsOp : List ℕ → List (List ℕ) → DirectoryOp → Type 0
IsOp word fields op = (word ∷ fields ≡ op_words op) × (op_fits op ≡ true)

pub op_takes : (word : List ℕ) (fields : List (List ℕ)) (op : DirectoryOp) → op_read word fields ≡ Some op → IsOp word fields op
op_takes word fields y e = verb_takes (codes "name") (two a_text an_object) (two_law a_text an_object text_law object_law) (λ (p : List ℕ × Oid). ops.Name p.0 p.1) word fields _ y (IsOp word fields) e (λ x fits is. (is, fits)) (λ e. verb_takes (codes "mark") (two an_object a_number) (two_law an_object a_number object_law number_law) (λ (p : Oid × ℕ). ops.Mark p.0 p.1) word fields _ y (IsOp word fields) e (λ x fits is. (is, fits)) (λ e. absurd cc))

pub op_spelled : (op : DirectoryOp) → op_fits op ≡ true → read_by op_read (op_words op) ≡ Some op
op_spelled (ops.Name name oid) fits = made_again (two a_text an_object) (two_law a_text an_object text_law object_law) (λ (p : List ℕ × Oid). ops.Name p.0 p.1) (name, oid) fits
op_spelled (ops.Mark oid mark) fits = made_again (two an_object a_number) (two_law an_object a_number object_law number_law) (λ (p : Oid × ℕ). ops.Mark p.0 p.1) (oid, mark) fits

pub op_again : (word : List ℕ) (fields : List (List ℕ)) (op : DirectoryOp) → op_fits op ≡ true → word ∷ fields ≡ op_words op → op_read word fields ≡ Some op
op_again word fields op fits e = ap (read_by op_read) e ∙ op_spelled op fits

abbrev IsAsk : List ℕ → List (List ℕ) → DirectoryAsk → Type 0
IsAsk word fields ask = (word ∷ fields ≡ ask_words ask) × (ask_fits ask ≡ true)

pub ask_takes : (word : List ℕ) (fields : List (List ℕ)) (ask : DirectoryAsk) → ask_read word fields ≡ Some ask → IsAsk word fields ask
ask_takes word fields y e = verb_takes (codes "find") (one a_text) (one_law a_text text_law) asks.Find word fields _ y (IsAsk word fields) e (λ x fits is. (is, fits)) (λ e. verb_takes (codes "marks") nothing nothing_law (λ (u : Unit {0}). asks.Marks) word fields _ y (IsAsk word fields) e (λ x fits is. (is, fits)) (λ e. verb_takes (codes "floor") nothing nothing_law (λ (u : Unit {0}). asks.Floor) word fields _ y (IsAsk word fields) e (λ x fits is. (is, fits)) (λ e. absurd cc)))

pub ask_spelled : (ask : DirectoryAsk) → ask_fits ask ≡ true → read_by ask_read (ask_words ask) ≡ Some ask
ask_spelled (asks.Find name) fits = made_again (one a_text) (one_law a_text text_law) asks.Find name fits
ask_spelled asks.Marks fits = made_again nothing nothing_law (λ (u : Unit {0}). asks.Marks) tt refl
ask_spelled asks.Floor fits = made_again nothing nothing_law (λ (u : Unit {0}). asks.Floor) tt refl

pub ask_again : (word : List ℕ) (fields : List (List ℕ)) (ask : DirectoryAsk) → ask_fits ask ≡ true → word ∷ fields ≡ ask_words ask → ask_read word fields ≡ Some ask
ask_again word fields ask fits e = ap (read_by ask_read) e ∙ ask_spelled ask fits

abbrev IsAnswer : DirectoryAsk → List (List ℕ) → DirectoryAns → Type 0
IsAnswer ask words answer = (words ≡ answer_words answer) × (answer_fits ask answer ≡ true)

pub answer_takes : (ask : DirectoryAsk) (words : List (List ℕ)) (answer : DirectoryAns) → answer_read ask words ≡ Some answer → IsAnswer ask words answer
answer_takes (asks.Find name) words y e = made_takes (maybe an_object) (maybe_law an_object object_law) answers.Found words y (IsAnswer (asks.Find name) words) e (λ x fits is. (is, fits))
answer_takes asks.Marks words y e = made_takes (list a_mark) (list_law a_mark mark_law) answers.Marks words y (IsAnswer asks.Marks words) e (λ x fits is. (is, fits))
answer_takes asks.Floor words y e = made_takes (one a_number) (one_law a_number number_law) answers.Floor words y (IsAnswer asks.Floor words) e (λ x fits is. (is, fits))

pub answer_again : (ask : DirectoryAsk) (answer : DirectoryAns) → answer_fits ask answer ≡ true → answer_read ask (answer_words answer) ≡ Some answer
answer_again (asks.Find name) (answers.Found x) fits = made_again (maybe an_object) (maybe_law an_object object_law) answers.Found x fits
answer_again (asks.Find name) (answers.Marks x) fits = absurd cc
answer_again (asks.Find name) (answers.Floor x) fits = absurd cc
answer_again asks.Marks (answers.Marks x) fits = made_again (list a_mark) (list_law a_mark mark_law) answers.Marks x fits
answer_again asks.Marks (answers.Found x) fits = absurd cc
answer_again asks.Marks (answers.Floor x) fits = absurd cc
answer_again asks.Floor (answers.Floor x) fits = made_again (one a_number) (one_law a_number number_law) answers.Floor x fits
answer_again asks.Floor (answers.Found x) fits = absurd cc
answer_again asks.Floor (answers.Marks x) fits = absurd cc
