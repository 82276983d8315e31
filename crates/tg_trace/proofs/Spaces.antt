-- Words behind spaces, as they are printed.
use Rattle.std.proofs.Common.{◌≡◌, ℕ, zero, suc, ◌≤◌, Bool, true, false, List, [], ◌∷◌, ◌++◌, map, length, take, codes, Option, Some, None, sym, refl, ap, ◌∙◌, arith}
use Rattle.std.specs.List.{flat_map}
use mathlib.Core.List.{append_assoc, append-nil}
use Rattle.tg_base.specs.declared.ids.Oid.{Oid}
use Rattle.tg_dir.specs.declared.directory.DirectoryOp.TheVariants as directory_ops
use Rattle.tg_dir.specs.declared.directory.DirectoryAsk.TheVariants as directory_asks
use Rattle.tg_dir.specs.declared.directory.DirectoryAns.TheVariants as directory_answers
use Rattle.tg_cell.specs.declared.counter.CounterOp.TheVariants as counter_ops
use Rattle.tg_cell.specs.declared.counter.CounterAsk.TheVariants as counter_asks
use Rattle.tg_cell.specs.declared.counter.CounterAns.TheVariants as counter_answers
use Rattle.tg_cell.specs.declared.register.RegisterOp.TheVariants as register_ops
use Rattle.tg_cell.specs.declared.register.RegisterAsk.TheVariants as register_asks
use Rattle.tg_cell.specs.declared.register.RegisterAns.TheVariants as register_answers
use Rattle.tg_map.specs.declared.map.MapOp.TheVariants as map_ops
use Rattle.tg_map.specs.declared.map.MapAsk.TheVariants as map_asks
use Rattle.tg_map.specs.declared.map.MapAns.TheVariants as map_answers
use Rattle.tg_list.specs.declared.text_list.TextListOp.TheVariants as list_ops
use Rattle.tg_list.specs.declared.text_list.TextListAsk.TheVariants as list_asks
use Rattle.tg_list.specs.declared.text_list.TextListAns.TheVariants as list_answers
use Rattle.tg_tree.specs.declared.tree.TreeOp.TheVariants as tree_ops
use Rattle.tg_tree.specs.declared.tree.TreeAsk.TheVariants as tree_asks
use Rattle.tg_tree.specs.declared.tree.TreeAns.TheVariants as tree_answers
use Rattle.tg_set.specs.declared.set.SetOp.TheVariants as set_ops
use Rattle.tg_set.specs.declared.set.SetAsk.TheVariants as set_asks
use Rattle.tg_set.specs.declared.set.SetAns.TheVariants as set_answers
use Rattle.tg_any.specs.declared.any.AnyOp.{AnyOp}
use Rattle.tg_any.specs.declared.any.AnyOp.TheVariants as ops
use Rattle.tg_any.specs.declared.any.AnyAsk.{AnyAsk}
use Rattle.tg_any.specs.declared.any.AnyAsk.TheVariants as asks
use Rattle.tg_any.specs.declared.any.AnyAns.{AnyAns}
use Rattle.tg_any.specs.declared.any.AnyAns.TheVariants as answers
use Rattle.tg_any.specs.AnyWords.{op_words, ask_words, answer_words}
use Rattle.tg_any.specs.Words.{Word, maybe_words, closed, opened, bracketed, joined, object, text as a_text, number as a_number, mark as a_mark}
use Rattle.tg_trace.specs.Lines.{spaced, spaced_object}
use Rattle.tg_trace.specs.Transcripts.{Reply, Entry, objects, count, reply, entry, write, writes, line_by, text_of, reply_text, entry_text, rendered}

pub spaced_append : (ws vs : List (List ℕ)) → spaced (ws ++ vs) ≡ spaced ws ++ spaced vs
spaced_append [] vs = refl
spaced_append (w ∷ ws) vs = ap (λ (t : List ℕ). 32 ∷ w ++ t) (spaced_append ws vs) ∙ ap (λ (t : List ℕ). 32 ∷ t) (sym (append_assoc w (spaced ws) (spaced vs)))

-- words that are put behind others
pub put_more : (out begun done : List ℕ) (ws vs : List (List ℕ)) → begun ≡ out ++ spaced ws → done ≡ begun ++ spaced vs → done ≡ out ++ spaced (ws ++ vs)
put_more out begun done ws vs e f =
    f ∙ ap (λ (t : List ℕ). t ++ spaced vs) e ∙ append_assoc out (spaced ws) (spaced vs) ∙ ap (λ (t : List ℕ). out ++ t) (sym (spaced_append ws vs))

spaced_some : (w : List ℕ) (ws : List (List ℕ)) → 32 ∷ joined (w ∷ ws) ≡ spaced (w ∷ ws)
spaced_some w [] = ap (λ (t : List ℕ). 32 ∷ t) (sym (append-nil w))
spaced_some w (v ∷ ws) = ap (λ (t : List ℕ). 32 ∷ w ++ t) (spaced_some v ws)

-- joined words behind a space
pub put_joined : (out begun done : List ℕ) (ws : List (List ℕ)) → 32 ∷ joined ws ≡ spaced ws → begun ≡ out ++ 32 ∷ [] → done ≡ begun ++ joined ws → done ≡ out ++ spaced ws
put_joined out begun done ws same e f =
    f ∙ ap (λ (t : List ℕ). t ++ joined ws) e ∙ append_assoc out (32 ∷ []) (joined ws) ∙ ap (λ (t : List ℕ). out ++ t) same

-- there is a word
abbrev is_some : List (List ℕ) → Bool
is_some [] = false
is_some (w ∷ ws) = true

words_spaced : (ws : List (List ℕ)) → is_some ws ≡ true → 32 ∷ joined ws ≡ spaced ws
words_spaced [] e = absurd cc
words_spaced (w ∷ ws) e = spaced_some w ws

op_some : (op : AnyOp) → is_some (op_words op) ≡ true
op_some (ops.Directory (directory_ops.Name x y)) = refl
op_some (ops.Directory (directory_ops.Mark x y)) = refl
op_some (ops.Counter (counter_ops.Add x)) = refl
op_some (ops.Register (register_ops.Write x)) = refl
op_some (ops.Map (map_ops.Set x y)) = refl
op_some (ops.Map (map_ops.Unset x)) = refl
op_some (ops.List (list_ops.PushFront x)) = refl
op_some (ops.List (list_ops.PushBack x)) = refl
op_some (ops.List (list_ops.Insert x y)) = refl
op_some (ops.List (list_ops.Remove x)) = refl
op_some (ops.List list_ops.PopFront) = refl
op_some (ops.List list_ops.PopBack) = refl
op_some (ops.Tree (tree_ops.Create x y)) = refl
op_some (ops.Tree (tree_ops.Store x y)) = refl
op_some (ops.Tree (tree_ops.Delete x)) = refl
op_some (ops.Set (set_ops.Include x)) = refl
op_some (ops.Set (set_ops.Exclude x)) = refl

pub op_spaced : (op : AnyOp) → 32 ∷ joined (op_words op) ≡ spaced (op_words op)
op_spaced op = words_spaced (op_words op) (op_some op)

ask_some : (ask : AnyAsk) → is_some (ask_words ask) ≡ true
ask_some (asks.Directory (directory_asks.Find x)) = refl
ask_some (asks.Directory directory_asks.Marks) = refl
ask_some (asks.Directory directory_asks.Floor) = refl
ask_some (asks.Counter counter_asks.Value) = refl
ask_some (asks.Register register_asks.Text) = refl
ask_some (asks.Map (map_asks.Get x)) = refl
ask_some (asks.Map map_asks.Size) = refl
ask_some (asks.Map map_asks.Keys) = refl
ask_some (asks.List (list_asks.At x)) = refl
ask_some (asks.List list_asks.Len) = refl
ask_some (asks.List list_asks.Items) = refl
ask_some (asks.Tree (tree_asks.Data x)) = refl
ask_some (asks.Tree (tree_asks.Has x)) = refl
ask_some (asks.Tree (tree_asks.Children x)) = refl
ask_some (asks.Set (set_asks.Member x)) = refl
ask_some (asks.Set (set_asks.Count x y)) = refl
ask_some (asks.Set (set_asks.Between x y)) = refl

pub ask_spaced : (ask : AnyAsk) → 32 ∷ joined (ask_words ask) ≡ spaced (ask_words ask)
ask_spaced ask = words_spaced (ask_words ask) (ask_some ask)

maybe_some : {A : Type 0} (a : Word A) (x : Option A) → is_some (maybe_words a x) ≡ true
maybe_some a None = refl
maybe_some a (Some x) = refl

closed_some : (w : List ℕ) (ws : List (List ℕ)) → is_some (opened (closed (w ∷ ws))) ≡ true
closed_some w [] = refl
closed_some w (v ∷ ws) = refl

bracketed_some : (ws : List (List ℕ)) → is_some (bracketed ws) ≡ true
bracketed_some [] = refl
bracketed_some (w ∷ ws) = closed_some w ws

answer_some : (answer : AnyAns) → is_some (answer_words answer) ≡ true
answer_some (answers.Directory (directory_answers.Found x)) = maybe_some object x
answer_some (answers.Directory (directory_answers.Marks x)) = bracketed_some (map a_mark.spell x)
answer_some (answers.Directory (directory_answers.Floor x)) = refl
answer_some (answers.Counter (counter_answers.Number x)) = refl
answer_some (answers.Register (register_answers.Held x)) = maybe_some a_text x
answer_some (answers.Map (map_answers.Value x)) = maybe_some a_text x
answer_some (answers.Map (map_answers.Number x)) = refl
answer_some (answers.Map (map_answers.Keys x)) = bracketed_some (map a_text.spell x)
answer_some (answers.List (list_answers.Item x)) = maybe_some a_text x
answer_some (answers.List (list_answers.Number x)) = refl
answer_some (answers.List (list_answers.Items x)) = bracketed_some (map a_text.spell x)
answer_some (answers.Tree (tree_answers.Data x)) = maybe_some a_text x
answer_some (answers.Tree (tree_answers.Has x)) = refl
answer_some (answers.Tree (tree_answers.Children x)) = bracketed_some (map a_text.spell x)
answer_some (answers.Set (set_answers.Member x)) = refl
answer_some (answers.Set (set_answers.Count x)) = refl
answer_some (answers.Set (set_answers.Numbers x)) = bracketed_some (map a_number.spell x)
answer_some answers.None = refl

pub answer_spaced : (answer : AnyAns) → 32 ∷ joined (answer_words answer) ≡ spaced (answer_words answer)
answer_spaced answer = words_spaced (answer_words answer) (answer_some answer)

-- a write behind a semicolon
abbrev pub behind : Oid × AnyOp → List ℕ
behind w = spaced (codes ";" ∷ write.spell w)

parted_spaced : (w : Oid × AnyOp) (ws : List (Oid × AnyOp)) → spaced (writes.spell (w ∷ ws)) ≡ spaced (write.spell w) ++ flat_map behind ws
parted_spaced w [] = sym (append-nil (spaced (write.spell w)))
parted_spaced w (v ∷ ws) =
    spaced_append (write.spell w) (codes ";" ∷ writes.spell (v ∷ ws))
    ∙ ap (λ (t : List ℕ). spaced (write.spell w) ++ (32 ∷ codes ";" ++ t)) (parted_spaced v ws)
    ∙ ap (λ (t : List ℕ). spaced (write.spell w) ++ (32 ∷ t)) (sym (append_assoc (codes ";") (spaced (write.spell v)) (flat_map behind ws)))

take_whole : {A : Type 0} (i : ℕ) (xs : List A) → length xs ≤ i → take i xs ≡ xs
take_whole zero [] few = refl
take_whole zero (x ∷ xs) few = absurd (omega (arith, few))
take_whole (suc i) [] few = refl
take_whole (suc i) (x ∷ xs) few = ap (λ t. x ∷ t) (take_whole i xs (omega (arith, few)))

pub writes_put : (out begun done : List ℕ) (w : Oid × AnyOp) (ws : List (Oid × AnyOp)) (i : ℕ) → length ws ≤ i → begun ≡ out ++ spaced (write.spell w) → done ≡ begun ++ flat_map behind (take i ws) → done ≡ out ++ spaced (writes.spell (w ∷ ws))
writes_put out begun done w ws i few e f =
    f ∙ ap (λ (ws : List (Oid × AnyOp)). begun ++ flat_map behind ws) (take_whole i ws few) ∙ ap (λ (t : List ℕ). t ++ flat_map behind ws) e ∙ append_assoc out (spaced (write.spell w)) (flat_map behind ws)
    ∙ ap (λ (t : List ℕ). out ++ t) (sym (parted_spaced w ws))

-- objects

objects_spaced : (os : List Oid) → flat_map spaced_object os ≡ spaced (map object.spell os)
objects_spaced [] = refl
objects_spaced (o ∷ os) =
    ap (λ (t : List ℕ). t ++ flat_map spaced_object os) (ap (λ (t : List ℕ). 32 ∷ t) (append-nil (object.spell o))) ∙ ap (λ (t : List ℕ). 32 ∷ object.spell o ++ t) (objects_spaced os)

pub objects_put : (out a b c : List ℕ) (os : List Oid) → a ≡ out ++ codes "objects" → b ≡ a ++ flat_map spaced_object os → c ≡ b ++ 10 ∷ [] → c ≡ out ++ (line_by objects os ++ 10 ∷ [])
objects_put out a b c os e f g =
    g ∙ ap (λ (t : List ℕ). t ++ 10 ∷ []) (f ∙ ap (λ (t : List ℕ). t ++ flat_map spaced_object os) e ∙ append_assoc out (codes "objects") (flat_map spaced_object os)
    ∙ ap (λ (t : List ℕ). out ++ (codes "objects" ++ t)) (objects_spaced os))
    ∙ append_assoc out (line_by objects os) (10 ∷ [])

-- lines

pub trace_text : (ms : List Reply) → flat_map reply_text ms ≡ text_of (map (line_by reply) ms)
unfolding reply_text
trace_text [] = refl
trace_text (m ∷ ms) = ap (λ (t : List ℕ). (line_by reply m ++ 10 ∷ []) ++ t) (trace_text ms)

pub history_text : (ds : List Entry) → flat_map entry_text ds ≡ text_of (map (line_by entry) ds)
unfolding entry_text
history_text [] = refl
history_text (d ∷ ds) = ap (λ (t : List ℕ). (line_by entry d ++ 10 ∷ []) ++ t) (history_text ds)

text_append : (ls ks : List (List ℕ)) → text_of (ls ++ ks) ≡ text_of ls ++ text_of ks
text_append [] ks = refl
text_append (l ∷ ls) ks = ap (λ (t : List ℕ). (l ++ 10 ∷ []) ++ t) (text_append ls ks) ∙ sym (append_assoc (l ++ 10 ∷ []) (text_of ls) (text_of ks))

-- the four parts of a transcript
parts_put : (a b c d first count : List ℕ) (ls ks : List (List ℕ)) → a ≡ first ++ 10 ∷ [] → b ≡ a ++ text_of ls → c ≡ b ++ (count ++ 10 ∷ []) → d ≡ c ++ text_of ks → d ≡ text_of (first ∷ ls ++ count ∷ ks)
parts_put a b c d first count ls ks e f g h =
    h ∙ ap (λ (t : List ℕ). t ++ text_of ks) (g ∙ ap (λ (t : List ℕ). t ++ (count ++ 10 ∷ [])) (f ∙ ap (λ (t : List ℕ). t ++ text_of ls) e))
    ∙ append_assoc ((first ++ 10 ∷ []) ++ text_of ls) (count ++ 10 ∷ []) (text_of ks)
    ∙ append_assoc (first ++ 10 ∷ []) (text_of ls) (text_of (count ∷ ks))
    ∙ ap (λ (t : List ℕ). (first ++ 10 ∷ []) ++ t) (sym (text_append ls (count ∷ ks)))

pub rendered_put : (none a b c d : List ℕ) (n : ℕ) (os : List Oid) (ms : List Reply) (ds : List Entry) → none ≡ [] → a ≡ none ++ (line_by objects os ++ 10 ∷ []) → b ≡ a ++ flat_map reply_text ms
    → n ≡ length ds → c ≡ b ++ (line_by count n ++ 10 ∷ []) → d ≡ c ++ flat_map entry_text ds → d ≡ rendered (record { objects = os; trace = ms; history = ds })
unfolding rendered
rendered_put none a b c d n os ms ds z e f same g h =
    parts_put a b c d (line_by objects os) (line_by count (length ds)) (map (line_by reply) ms) (map (line_by entry) ds)
    (e ∙ ap (λ (t : List ℕ). t ++ (line_by objects os ++ 10 ∷ [])) z) (f ∙ ap (λ (t : List ℕ). a ++ t) (trace_text ms)) (g ∙ ap (λ (n : ℕ). b ++ (line_by count n ++ 10 ∷ [])) same) (h ∙ ap (λ (t : List ℕ). c ++ t) (history_text ds))
