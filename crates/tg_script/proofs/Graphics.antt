-- Each byte of the words of ops and asks is graphic.
use Rattle.std.proofs.Common.{◌≡◌, ℕ, zero, suc, ◌<◌, ◌^◌, ℤ, pos, negsuc, Bool, true, false, ◌&&◌, cond, eqb, List, [], ◌∷◌, length, refl, arith, codes}
use Rattle.std.specs.Prelude.{◌||◌}
use Rattle.std.specs.List.{list_all}
use Rattle.std.specs.Fmt.{decimal, signed_decimal}
use Rattle.std.proofs.lemmas.Bool.{ltb-true}
use Rattle.std.proofs.lemmas.Bool.Decides.{nat_tests}
use Rattle.tg_codec.specs.Codec.{Codec, u8, fit_many}
use Rattle.tg_codec.specs.Bounds.{same_ranges}
use Rattle.tg_codec.proofs.Laws.{and-left, and-right, both}
use Rattle.tg_kind.specs.Texts.{text_bytes}
use Rattle.tg_tree.specs.Paths.{next_bytes, path_byte, after_byte}
use Rattle.tg_dir.specs.declared.directory.DirectoryOp.TheVariants as directory_ops
use Rattle.tg_dir.specs.declared.directory.DirectoryAsk.TheVariants as directory_asks
use Rattle.tg_cell.specs.declared.counter.CounterOp.TheVariants as counter_ops
use Rattle.tg_cell.specs.declared.counter.CounterAsk.TheVariants as counter_asks
use Rattle.tg_cell.specs.declared.register.RegisterOp.TheVariants as register_ops
use Rattle.tg_cell.specs.declared.register.RegisterAsk.TheVariants as register_asks
use Rattle.tg_map.specs.declared.map.MapOp.TheVariants as map_ops
use Rattle.tg_map.specs.declared.map.MapAsk.TheVariants as map_asks
use Rattle.tg_list.specs.declared.text_list.TextListOp.TheVariants as list_ops
use Rattle.tg_list.specs.declared.text_list.TextListAsk.TheVariants as list_asks
use Rattle.tg_tree.specs.declared.tree.TreeOp.TheVariants as tree_ops
use Rattle.tg_tree.specs.declared.tree.TreeAsk.TheVariants as tree_asks
use Rattle.tg_set.specs.declared.set.SetOp.TheVariants as set_ops
use Rattle.tg_set.specs.declared.set.SetAsk.TheVariants as set_asks
use Rattle.tg_any.specs.declared.any.AnyOp.{AnyOp}
use Rattle.tg_any.specs.declared.any.AnyOp.TheVariants as ops
use Rattle.tg_any.specs.declared.any.AnyAsk.{AnyAsk}
use Rattle.tg_any.specs.declared.any.AnyAsk.TheVariants as asks
use Rattle.tg_any.specs.Words.{number, index, signed, text, path}
use Rattle.tg_any.specs.AnyWords.{op_words, op_fits, ask_words, ask_fits}
use Rattle.tg_script.proofs.Bytes.{is_graphic, digit_is_graphic, decimal_passes, Passes}
use Rattle.tg_script.proofs.Headers.{object_graphic}

-- Texts and paths.

items_graphic : {S : Type 0} (item : S → Codec ℕ) (next : S → ℕ → S) → ((s : S) (b : ℕ) → (item s).fits b ≡ true → is_graphic b ≡ true) → (n : ℕ) (s : S) (bytes : List ℕ)
    → fit_many item next n s bytes ≡ true → list_all is_graphic bytes ≡ true
unfolding fit_many
items_graphic item next plain zero s [] e = refl
items_graphic item next plain zero s (b ∷ bytes) e = absurd cc
items_graphic item next plain (suc n) s [] e = absurd cc
items_graphic item next plain (suc n) s (b ∷ bytes) e = both _ _ (plain s b (and-left _ _ e)) (items_graphic item next plain n (next s b) bytes (and-right _ _ e))

letter_graphic : (b : ℕ) → (u8 text_bytes).fits b ≡ true → is_graphic b ≡ true
letter_graphic b e = grind (arith, nat_tests)

slash_graphic : (b : ℕ) → (u8 ((47, 47) ∷ [])).fits b ≡ true → is_graphic b ≡ true
slash_graphic b e = grind (arith, nat_tests)

name_graphic : (b : ℕ) → (u8 ((47, 47) ∷ text_bytes)).fits b ≡ true → is_graphic b ≡ true
name_graphic b e = grind (arith, nat_tests)

chosen_graphic : (p q : Bool) (b : ℕ) → (u8 (cond p ((47, 47) ∷ []) (cond q text_bytes ((47, 47) ∷ text_bytes)))).fits b ≡ true → is_graphic b ≡ true
chosen_graphic true q b e = slash_graphic b e
chosen_graphic false true b e = letter_graphic b e
chosen_graphic false false b e = name_graphic b e

path_byte_graphic : (s : ℕ × ℕ) (b : ℕ) → (path_byte s).fits b ≡ true → is_graphic b ≡ true
path_byte_graphic s b e = chosen_graphic (eqb s.1 0) (eqb s.1 47 || eqb s.0 1) b e

letters_graphic : (n : ℕ) (bytes : List ℕ) → fit_many u8 same_ranges n text_bytes bytes ≡ true → list_all is_graphic bytes ≡ true
unfolding fit_many
letters_graphic zero [] e = refl
letters_graphic zero (b ∷ bytes) e = absurd cc
letters_graphic (suc n) [] e = absurd cc
letters_graphic (suc n) (b ∷ bytes) e = both _ _ (letter_graphic b (and-left _ _ e)) (letters_graphic n bytes (and-right _ _ e))

pub text_graphic : Passes is_graphic text
text_graphic t e = letters_graphic (length t) t (and-right _ _ e)

pub path_graphic : Passes is_graphic path
path_graphic p e = items_graphic path_byte after_byte path_byte_graphic (length p) (length p, 0) p (and-right _ _ e)

-- Numbers.

pub number_graphic : Passes is_graphic number
number_graphic n e = decimal_passes is_graphic digit_is_graphic n (ltb-true _ _ e)

pub index_graphic : Passes is_graphic index
index_graphic n e = let small : n < 2 ^ 32 = ltb-true _ _ e in decimal_passes is_graphic digit_is_graphic n (omega (arith, small))

pub signed_graphic : Passes is_graphic signed
signed_graphic (pos n) e = let small : n < 2 ^ 63 = ltb-true _ _ e in decimal_passes is_graphic digit_is_graphic n (omega (arith, small))
signed_graphic (negsuc n) e = let small : n < 2 ^ 63 = ltb-true _ _ e in both _ _ refl (decimal_passes is_graphic digit_is_graphic (suc n) (omega (arith, small)))

-- Words.

pub record IsGraphic (w : List ℕ) : Type 0 where
  pub each : list_all is_graphic w ≡ true

pub record AreGraphic (words : List (List ℕ)) : Type 0 where
  pub all : list_all (list_all is_graphic) words ≡ true

pub none : AreGraphic []
none = record { all = refl }

pub word_and : {w : List ℕ} {words : List (List ℕ)} → IsGraphic w → AreGraphic words → AreGraphic (w ∷ words)
word_and {w} {words} e f = record { all = both (list_all is_graphic w) (list_all (list_all is_graphic) words) e.each f.all }

pub plain : {w : List ℕ} → list_all is_graphic w ≡ true → IsGraphic w
plain {w} e = record { each = e }

pub one_word : {w : List ℕ} → IsGraphic w → AreGraphic (w ∷ [])
one_word e = word_and e none

-- Ops and asks.

pub op_graphic : (x : AnyOp) → op_fits x ≡ true → AreGraphic (op_words x)
op_graphic (ops.Directory (directory_ops.Name a b)) e = word_and (plain refl) (word_and (plain (text_graphic a (and-left _ _ e))) (one_word (plain (object_graphic b (and-right _ _ e)))))
op_graphic (ops.Directory (directory_ops.Mark a b)) e = word_and (plain refl) (word_and (plain (object_graphic a (and-left _ _ e))) (one_word (plain (number_graphic b (and-right _ _ e)))))
op_graphic (ops.Counter (counter_ops.Add a)) e = word_and (plain refl) (one_word (plain (signed_graphic a e)))
op_graphic (ops.Register (register_ops.Write a)) e = word_and (plain refl) (one_word (plain (text_graphic a e)))
op_graphic (ops.Map (map_ops.Set a b)) e = word_and (plain refl) (word_and (plain (text_graphic a (and-left _ _ e))) (one_word (plain (text_graphic b (and-right _ _ e)))))
op_graphic (ops.Map (map_ops.Unset a)) e = word_and (plain refl) (one_word (plain (text_graphic a e)))
op_graphic (ops.List (list_ops.PushFront a)) e = word_and (plain refl) (one_word (plain (text_graphic a e)))
op_graphic (ops.List (list_ops.PushBack a)) e = word_and (plain refl) (one_word (plain (text_graphic a e)))
op_graphic (ops.List (list_ops.Insert a b)) e = word_and (plain refl) (word_and (plain (index_graphic a (and-left _ _ e))) (one_word (plain (text_graphic b (and-right _ _ e)))))
op_graphic (ops.List (list_ops.Remove a)) e = word_and (plain refl) (one_word (plain (index_graphic a e)))
op_graphic (ops.List list_ops.PopFront) e = one_word (plain refl)
op_graphic (ops.List list_ops.PopBack) e = one_word (plain refl)
op_graphic (ops.Tree (tree_ops.Create a b)) e = word_and (plain refl) (word_and (plain (path_graphic a (and-left _ _ e))) (one_word (plain (text_graphic b (and-right _ _ e)))))
op_graphic (ops.Tree (tree_ops.Store a b)) e = word_and (plain refl) (word_and (plain (path_graphic a (and-left _ _ e))) (one_word (plain (text_graphic b (and-right _ _ e)))))
op_graphic (ops.Tree (tree_ops.Delete a)) e = word_and (plain refl) (one_word (plain (path_graphic a e)))
op_graphic (ops.Set (set_ops.Include a)) e = word_and (plain refl) (one_word (plain (number_graphic a e)))
op_graphic (ops.Set (set_ops.Exclude a)) e = word_and (plain refl) (one_word (plain (number_graphic a e)))

pub ask_graphic : (x : AnyAsk) → ask_fits x ≡ true → AreGraphic (ask_words x)
ask_graphic (asks.Directory (directory_asks.Find a)) e = word_and (plain refl) (one_word (plain (text_graphic a e)))
ask_graphic (asks.Directory directory_asks.Marks) e = one_word (plain refl)
ask_graphic (asks.Directory directory_asks.Floor) e = one_word (plain refl)
ask_graphic (asks.Counter counter_asks.Value) e = one_word (plain refl)
ask_graphic (asks.Register register_asks.Text) e = one_word (plain refl)
ask_graphic (asks.Map (map_asks.Get a)) e = word_and (plain refl) (one_word (plain (text_graphic a e)))
ask_graphic (asks.Map map_asks.Size) e = one_word (plain refl)
ask_graphic (asks.Map map_asks.Keys) e = one_word (plain refl)
ask_graphic (asks.List (list_asks.At a)) e = word_and (plain refl) (one_word (plain (index_graphic a e)))
ask_graphic (asks.List list_asks.Len) e = one_word (plain refl)
ask_graphic (asks.List list_asks.Items) e = one_word (plain refl)
ask_graphic (asks.Tree (tree_asks.Data a)) e = word_and (plain refl) (one_word (plain (path_graphic a e)))
ask_graphic (asks.Tree (tree_asks.Has a)) e = word_and (plain refl) (one_word (plain (path_graphic a e)))
ask_graphic (asks.Tree (tree_asks.Children a)) e = word_and (plain refl) (one_word (plain (path_graphic a e)))
ask_graphic (asks.Set (set_asks.Member a)) e = word_and (plain refl) (one_word (plain (number_graphic a e)))
ask_graphic (asks.Set (set_asks.Count a b)) e = word_and (plain refl) (word_and (plain (number_graphic a (and-left _ _ e))) (one_word (plain (number_graphic b (and-right _ _ e)))))
ask_graphic (asks.Set (set_asks.Between a b)) e = word_and (plain refl) (word_and (plain (number_graphic a (and-left _ _ e))) (one_word (plain (number_graphic b (and-right _ _ e)))))

-- an op has a verb
pub op_some : (x : AnyOp) → op_words x ≡ [] → ⊥
op_some (ops.Directory (directory_ops.Name a b)) e = absurd cc
op_some (ops.Directory (directory_ops.Mark a b)) e = absurd cc
op_some (ops.Counter (counter_ops.Add a)) e = absurd cc
op_some (ops.Register (register_ops.Write a)) e = absurd cc
op_some (ops.Map (map_ops.Set a b)) e = absurd cc
op_some (ops.Map (map_ops.Unset a)) e = absurd cc
op_some (ops.List (list_ops.PushFront a)) e = absurd cc
op_some (ops.List (list_ops.PushBack a)) e = absurd cc
op_some (ops.List (list_ops.Insert a b)) e = absurd cc
op_some (ops.List (list_ops.Remove a)) e = absurd cc
op_some (ops.List list_ops.PopFront) e = absurd cc
op_some (ops.List list_ops.PopBack) e = absurd cc
op_some (ops.Tree (tree_ops.Create a b)) e = absurd cc
op_some (ops.Tree (tree_ops.Store a b)) e = absurd cc
op_some (ops.Tree (tree_ops.Delete a)) e = absurd cc
op_some (ops.Set (set_ops.Include a)) e = absurd cc
op_some (ops.Set (set_ops.Exclude a)) e = absurd cc

pub ask_some : (x : AnyAsk) → ask_words x ≡ [] → ⊥
ask_some (asks.Directory (directory_asks.Find a)) e = absurd cc
ask_some (asks.Directory directory_asks.Marks) e = absurd cc
ask_some (asks.Directory directory_asks.Floor) e = absurd cc
ask_some (asks.Counter counter_asks.Value) e = absurd cc
ask_some (asks.Register register_asks.Text) e = absurd cc
ask_some (asks.Map (map_asks.Get a)) e = absurd cc
ask_some (asks.Map map_asks.Size) e = absurd cc
ask_some (asks.Map map_asks.Keys) e = absurd cc
ask_some (asks.List (list_asks.At a)) e = absurd cc
ask_some (asks.List list_asks.Len) e = absurd cc
ask_some (asks.List list_asks.Items) e = absurd cc
ask_some (asks.Tree (tree_asks.Data a)) e = absurd cc
ask_some (asks.Tree (tree_asks.Has a)) e = absurd cc
ask_some (asks.Tree (tree_asks.Children a)) e = absurd cc
ask_some (asks.Set (set_asks.Member a)) e = absurd cc
ask_some (asks.Set (set_asks.Count a b)) e = absurd cc
ask_some (asks.Set (set_asks.Between a b)) e = absurd cc
