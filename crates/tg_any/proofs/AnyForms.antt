-- What is read of the words of all kinds is what they spell, and nothing else.
use Rattle.std.proofs.Common.{◌≡◌, ℕ, true, List, [], ◌∷◌, Option, Some, None, refl, ap, sym, subst, ◌∙◌}
use Rattle.std.specs.Prelude.{option_map, IfSome, IfOk, Result, Ok, Err}
use Rattle.tg_any.proofs.DirectoryForms as directory_forms
use Rattle.tg_any.proofs.CounterForms as counter_forms
use Rattle.tg_any.proofs.RegisterForms as register_forms
use Rattle.tg_any.proofs.MapForms as map_forms
use Rattle.tg_any.proofs.ListForms as list_forms
use Rattle.tg_any.proofs.TreeForms as tree_forms
use Rattle.tg_any.proofs.SetForms as set_forms
use Rattle.tg_dir.specs.declared.directory.DirectoryOp.TheVariants as directory_ops
use Rattle.tg_dir.specs.declared.directory.DirectoryAsk.TheVariants as directory_asks
use Rattle.tg_cell.specs.declared.counter.CounterOp.TheVariants as counter_ops
use Rattle.tg_cell.specs.declared.counter.CounterAsk.TheVariants as counter_asks
use Rattle.tg_cell.specs.declared.register.RegisterOp.TheVariants as register_ops
use Rattle.tg_cell.specs.declared.register.RegisterAsk.TheVariants as register_asks
use Rattle.tg_map.specs.declared.map.MapOp.TheVariants as map_ops
use Rattle.tg_map.specs.declared.map.MapAsk.TheVariants as map_asks
use Rattle.tg_list.specs.declared.text_list.TextListOp.TheVariants as list_ops
use Rattle.tg_list.specs.declared.text_list.TextListAsk.TheVariants as list_asks
use Rattle.tg_tree.specs.declared.tree.TreeOp.TheVariants as tree_ops
use Rattle.tg_tree.specs.declared.tree.TreeAsk.TheVariants as tree_asks
use Rattle.tg_set.specs.declared.set.SetOp.TheVariants as set_ops
use Rattle.tg_set.specs.declared.set.SetAsk.TheVariants as set_asks
use Rattle.tg_any.specs.declared.any.AnyOp.{AnyOp}
use Rattle.tg_any.specs.declared.any.AnyOp.TheVariants as ops
use Rattle.tg_any.specs.declared.any.AnyAsk.{AnyAsk}
use Rattle.tg_any.specs.declared.any.AnyAsk.TheVariants as asks
use Rattle.tg_any.specs.declared.any.AnyAns.{AnyAns}
use Rattle.tg_any.specs.declared.any.AnyAns.TheVariants as answers
use Rattle.tg_any.specs.AnyWords.{op_words, op_fits, op_read, ask_words, ask_fits, ask_read, answer_words, answer_fits, answer_read, or_other}
use Rattle.tg_any.proofs.Numbers.{map_takes}

or_other_takes : {A : Type 0} (o other : Option A) (x : A) (P : Type 0) → or_other o other ≡ Some x → (o ≡ Some x → P) → (other ≡ Some x → P) → P
or_other_takes (Some y) other x P e first second = first e
or_other_takes None other x P e first second = second e

or_other_first : {A : Type 0} (o other : Option A) (x : A) → o ≡ Some x → or_other o other ≡ Some x
or_other_first o other x e = ap (λ o. or_other o other) e

or_other_second : {A : Type 0} (o other : Option A) (x : A) → o ≡ None → other ≡ Some x → or_other o other ≡ Some x
or_other_second o other x e f = ap (λ o. or_other o other) e ∙ f

made_by : {A B : Type 0} (make : A → B) (o : Option A) (y : B) (P : B → Type 0) → option_map make o ≡ Some y → ((x : A) → o ≡ Some x → P (make x)) → P y
made_by make o y P e is = let m = map_takes make o y e in subst P m.2 (is m.0 m.1)

made_none : {A B : Type 0} (make : A → B) (o : Option A) → o ≡ None → option_map make o ≡ None
made_none make o e = ap (option_map make) e

-- words of ops
abbrev IsOp : List (List ℕ) → AnyOp → Type 0
IsOp words op = (words ≡ op_words op) × (op_fits op ≡ true)

pub op_takes : (words : List (List ℕ)) (op : AnyOp) → op_read words ≡ Some op → IsOp words op
unfolding op_read
op_takes [] y e = absurd cc
op_takes (word ∷ fields) y e = or_other_takes _ _ y (IsOp (word ∷ fields) y) e (λ e. made_by ops.Directory _ y (IsOp (word ∷ fields)) e (λ x f. directory_forms.op_takes word fields x f)) (λ e. or_other_takes _ _ y (IsOp (word ∷ fields) y) e (λ e. made_by ops.Counter _ y (IsOp (word ∷ fields)) e (λ x f. counter_forms.op_takes word fields x f)) (λ e. or_other_takes _ _ y (IsOp (word ∷ fields) y) e (λ e. made_by ops.Register _ y (IsOp (word ∷ fields)) e (λ x f. register_forms.op_takes word fields x f)) (λ e. or_other_takes _ _ y (IsOp (word ∷ fields) y) e (λ e. made_by ops.Map _ y (IsOp (word ∷ fields)) e (λ x f. map_forms.op_takes word fields x f)) (λ e. or_other_takes _ _ y (IsOp (word ∷ fields) y) e (λ e. made_by ops.List _ y (IsOp (word ∷ fields)) e (λ x f. list_forms.op_takes word fields x f)) (λ e. or_other_takes _ _ y (IsOp (word ∷ fields) y) e (λ e. made_by ops.Tree _ y (IsOp (word ∷ fields)) e (λ x f. tree_forms.op_takes word fields x f)) (λ e. or_other_takes _ _ y (IsOp (word ∷ fields) y) e (λ e. made_by ops.Set _ y (IsOp (word ∷ fields)) e (λ x f. set_forms.op_takes word fields x f)) (λ e. absurd cc)))))))

op_spelled : (op : AnyOp) → op_fits op ≡ true → op_read (op_words op) ≡ Some op
unfolding op_read
op_spelled (ops.Directory (directory_ops.Name x0 x1)) fits = or_other_first _ _ _ (ap (option_map ops.Directory) (directory_forms.op_spelled (directory_ops.Name x0 x1) fits))
op_spelled (ops.Directory (directory_ops.Mark x0 x1)) fits = or_other_first _ _ _ (ap (option_map ops.Directory) (directory_forms.op_spelled (directory_ops.Mark x0 x1) fits))
op_spelled (ops.Counter (counter_ops.Add x0)) fits = or_other_second _ _ _ refl (or_other_first _ _ _ (ap (option_map ops.Counter) (counter_forms.op_spelled (counter_ops.Add x0) fits)))
op_spelled (ops.Register (register_ops.Write x0)) fits = or_other_second _ _ _ refl (or_other_second _ _ _ refl (or_other_first _ _ _ (ap (option_map ops.Register) (register_forms.op_spelled (register_ops.Write x0) fits))))
op_spelled (ops.Map (map_ops.Set x0 x1)) fits = or_other_second _ _ _ refl (or_other_second _ _ _ refl (or_other_second _ _ _ refl (or_other_first _ _ _ (ap (option_map ops.Map) (map_forms.op_spelled (map_ops.Set x0 x1) fits)))))
op_spelled (ops.Map (map_ops.Unset x0)) fits = or_other_second _ _ _ refl (or_other_second _ _ _ refl (or_other_second _ _ _ refl (or_other_first _ _ _ (ap (option_map ops.Map) (map_forms.op_spelled (map_ops.Unset x0) fits)))))
op_spelled (ops.List (list_ops.PushFront x0)) fits = or_other_second _ _ _ refl (or_other_second _ _ _ refl (or_other_second _ _ _ refl (or_other_second _ _ _ refl (or_other_first _ _ _ (ap (option_map ops.List) (list_forms.op_spelled (list_ops.PushFront x0) fits))))))
op_spelled (ops.List (list_ops.PushBack x0)) fits = or_other_second _ _ _ refl (or_other_second _ _ _ refl (or_other_second _ _ _ refl (or_other_second _ _ _ refl (or_other_first _ _ _ (ap (option_map ops.List) (list_forms.op_spelled (list_ops.PushBack x0) fits))))))
op_spelled (ops.List (list_ops.Insert x0 x1)) fits = or_other_second _ _ _ refl (or_other_second _ _ _ refl (or_other_second _ _ _ refl (or_other_second _ _ _ refl (or_other_first _ _ _ (ap (option_map ops.List) (list_forms.op_spelled (list_ops.Insert x0 x1) fits))))))
op_spelled (ops.List (list_ops.Remove x0)) fits = or_other_second _ _ _ refl (or_other_second _ _ _ refl (or_other_second _ _ _ refl (or_other_second _ _ _ refl (or_other_first _ _ _ (ap (option_map ops.List) (list_forms.op_spelled (list_ops.Remove x0) fits))))))
op_spelled (ops.List list_ops.PopFront) fits = refl
op_spelled (ops.List list_ops.PopBack) fits = refl
op_spelled (ops.Tree (tree_ops.Create x0 x1)) fits = or_other_second _ _ _ refl (or_other_second _ _ _ refl (or_other_second _ _ _ refl (or_other_second _ _ _ refl (or_other_second _ _ _ refl (or_other_first _ _ _ (ap (option_map ops.Tree) (tree_forms.op_spelled (tree_ops.Create x0 x1) fits)))))))
op_spelled (ops.Tree (tree_ops.Store x0 x1)) fits = or_other_second _ _ _ refl (or_other_second _ _ _ refl (or_other_second _ _ _ refl (or_other_second _ _ _ refl (or_other_second _ _ _ refl (or_other_first _ _ _ (ap (option_map ops.Tree) (tree_forms.op_spelled (tree_ops.Store x0 x1) fits)))))))
op_spelled (ops.Tree (tree_ops.Delete x0)) fits = or_other_second _ _ _ refl (or_other_second _ _ _ refl (or_other_second _ _ _ refl (or_other_second _ _ _ refl (or_other_second _ _ _ refl (or_other_first _ _ _ (ap (option_map ops.Tree) (tree_forms.op_spelled (tree_ops.Delete x0) fits)))))))
op_spelled (ops.Set (set_ops.Include x0)) fits = or_other_second _ _ _ refl (or_other_second _ _ _ refl (or_other_second _ _ _ refl (or_other_second _ _ _ refl (or_other_second _ _ _ refl (or_other_second _ _ _ refl (or_other_first _ _ _ (ap (option_map ops.Set) (set_forms.op_spelled (set_ops.Include x0) fits))))))))
op_spelled (ops.Set (set_ops.Exclude x0)) fits = or_other_second _ _ _ refl (or_other_second _ _ _ refl (or_other_second _ _ _ refl (or_other_second _ _ _ refl (or_other_second _ _ _ refl (or_other_second _ _ _ refl (or_other_first _ _ _ (ap (option_map ops.Set) (set_forms.op_spelled (set_ops.Exclude x0) fits))))))))

pub op_again : (words : List (List ℕ)) (op : AnyOp) → op_fits op ≡ true → words ≡ op_words op → op_read words ≡ Some op
op_again words op fits e = ap op_read e ∙ op_spelled op fits

-- words of asks
abbrev IsAsk : List (List ℕ) → AnyAsk → Type 0
IsAsk words ask = (words ≡ ask_words ask) × (ask_fits ask ≡ true)

pub ask_takes : (words : List (List ℕ)) (ask : AnyAsk) → ask_read words ≡ Some ask → IsAsk words ask
unfolding ask_read
ask_takes [] y e = absurd cc
ask_takes (word ∷ fields) y e = or_other_takes _ _ y (IsAsk (word ∷ fields) y) e (λ e. made_by asks.Directory _ y (IsAsk (word ∷ fields)) e (λ x f. directory_forms.ask_takes word fields x f)) (λ e. or_other_takes _ _ y (IsAsk (word ∷ fields) y) e (λ e. made_by asks.Counter _ y (IsAsk (word ∷ fields)) e (λ x f. counter_forms.ask_takes word fields x f)) (λ e. or_other_takes _ _ y (IsAsk (word ∷ fields) y) e (λ e. made_by asks.Register _ y (IsAsk (word ∷ fields)) e (λ x f. register_forms.ask_takes word fields x f)) (λ e. or_other_takes _ _ y (IsAsk (word ∷ fields) y) e (λ e. made_by asks.Map _ y (IsAsk (word ∷ fields)) e (λ x f. map_forms.ask_takes word fields x f)) (λ e. or_other_takes _ _ y (IsAsk (word ∷ fields) y) e (λ e. made_by asks.List _ y (IsAsk (word ∷ fields)) e (λ x f. list_forms.ask_takes word fields x f)) (λ e. or_other_takes _ _ y (IsAsk (word ∷ fields) y) e (λ e. made_by asks.Tree _ y (IsAsk (word ∷ fields)) e (λ x f. tree_forms.ask_takes word fields x f)) (λ e. or_other_takes _ _ y (IsAsk (word ∷ fields) y) e (λ e. made_by asks.Set _ y (IsAsk (word ∷ fields)) e (λ x f. set_forms.ask_takes word fields x f)) (λ e. absurd cc)))))))

ask_spelled : (ask : AnyAsk) → ask_fits ask ≡ true → ask_read (ask_words ask) ≡ Some ask
unfolding ask_read
ask_spelled (asks.Directory (directory_asks.Find x0)) fits = or_other_first _ _ _ (ap (option_map asks.Directory) (directory_forms.ask_spelled (directory_asks.Find x0) fits))
ask_spelled (asks.Directory directory_asks.Marks) fits = refl
ask_spelled (asks.Directory directory_asks.Floor) fits = refl
ask_spelled (asks.Counter counter_asks.Value) fits = refl
ask_spelled (asks.Register register_asks.Text) fits = refl
ask_spelled (asks.Map (map_asks.Get x0)) fits = or_other_second _ _ _ refl (or_other_second _ _ _ refl (or_other_second _ _ _ refl (or_other_first _ _ _ (ap (option_map asks.Map) (map_forms.ask_spelled (map_asks.Get x0) fits)))))
ask_spelled (asks.Map map_asks.Size) fits = refl
ask_spelled (asks.Map map_asks.Keys) fits = refl
ask_spelled (asks.List (list_asks.At x0)) fits = or_other_second _ _ _ refl (or_other_second _ _ _ refl (or_other_second _ _ _ refl (or_other_second _ _ _ refl (or_other_first _ _ _ (ap (option_map asks.List) (list_forms.ask_spelled (list_asks.At x0) fits))))))
ask_spelled (asks.List list_asks.Len) fits = refl
ask_spelled (asks.List list_asks.Items) fits = refl
ask_spelled (asks.Tree (tree_asks.Data x0)) fits = or_other_second _ _ _ refl (or_other_second _ _ _ refl (or_other_second _ _ _ refl (or_other_second _ _ _ refl (or_other_second _ _ _ refl (or_other_first _ _ _ (ap (option_map asks.Tree) (tree_forms.ask_spelled (tree_asks.Data x0) fits)))))))
ask_spelled (asks.Tree (tree_asks.Has x0)) fits = or_other_second _ _ _ refl (or_other_second _ _ _ refl (or_other_second _ _ _ refl (or_other_second _ _ _ refl (or_other_second _ _ _ refl (or_other_first _ _ _ (ap (option_map asks.Tree) (tree_forms.ask_spelled (tree_asks.Has x0) fits)))))))
ask_spelled (asks.Tree (tree_asks.Children x0)) fits = or_other_second _ _ _ refl (or_other_second _ _ _ refl (or_other_second _ _ _ refl (or_other_second _ _ _ refl (or_other_second _ _ _ refl (or_other_first _ _ _ (ap (option_map asks.Tree) (tree_forms.ask_spelled (tree_asks.Children x0) fits)))))))
ask_spelled (asks.Set (set_asks.Member x0)) fits = or_other_second _ _ _ refl (or_other_second _ _ _ refl (or_other_second _ _ _ refl (or_other_second _ _ _ refl (or_other_second _ _ _ refl (or_other_second _ _ _ refl (or_other_first _ _ _ (ap (option_map asks.Set) (set_forms.ask_spelled (set_asks.Member x0) fits))))))))
ask_spelled (asks.Set (set_asks.Count x0 x1)) fits = or_other_second _ _ _ refl (or_other_second _ _ _ refl (or_other_second _ _ _ refl (or_other_second _ _ _ refl (or_other_second _ _ _ refl (or_other_second _ _ _ refl (or_other_first _ _ _ (ap (option_map asks.Set) (set_forms.ask_spelled (set_asks.Count x0 x1) fits))))))))
ask_spelled (asks.Set (set_asks.Between x0 x1)) fits = or_other_second _ _ _ refl (or_other_second _ _ _ refl (or_other_second _ _ _ refl (or_other_second _ _ _ refl (or_other_second _ _ _ refl (or_other_second _ _ _ refl (or_other_first _ _ _ (ap (option_map asks.Set) (set_forms.ask_spelled (set_asks.Between x0 x1) fits))))))))

pub ask_again : (words : List (List ℕ)) (ask : AnyAsk) → ask_fits ask ≡ true → words ≡ ask_words ask → ask_read words ≡ Some ask
ask_again words ask fits e = ap ask_read e ∙ ask_spelled ask fits

-- words of answers
abbrev IsAnswer : AnyAsk → List (List ℕ) → AnyAns → Type 0
IsAnswer ask words answer = (words ≡ answer_words answer) × (answer_fits ask answer ≡ true)

pub answer_takes : (ask : AnyAsk) (words : List (List ℕ)) (answer : AnyAns) → answer_read ask words ≡ Some answer → IsAnswer ask words answer
answer_takes (asks.Directory ask) words y e = made_by answers.Directory _ y (IsAnswer (asks.Directory ask) words) e (λ x f. directory_forms.answer_takes ask words x f)
answer_takes (asks.Counter ask) words y e = made_by answers.Counter _ y (IsAnswer (asks.Counter ask) words) e (λ x f. counter_forms.answer_takes ask words x f)
answer_takes (asks.Register ask) words y e = made_by answers.Register _ y (IsAnswer (asks.Register ask) words) e (λ x f. register_forms.answer_takes ask words x f)
answer_takes (asks.Map ask) words y e = made_by answers.Map _ y (IsAnswer (asks.Map ask) words) e (λ x f. map_forms.answer_takes ask words x f)
answer_takes (asks.List ask) words y e = made_by answers.List _ y (IsAnswer (asks.List ask) words) e (λ x f. list_forms.answer_takes ask words x f)
answer_takes (asks.Tree ask) words y e = made_by answers.Tree _ y (IsAnswer (asks.Tree ask) words) e (λ x f. tree_forms.answer_takes ask words x f)
answer_takes (asks.Set ask) words y e = made_by answers.Set _ y (IsAnswer (asks.Set ask) words) e (λ x f. set_forms.answer_takes ask words x f)

answer_spelled : (ask : AnyAsk) (answer : AnyAns) → answer_fits ask answer ≡ true → answer_read ask (answer_words answer) ≡ Some answer
answer_spelled (asks.Directory ask) (answers.Directory answer) fits = ap (option_map answers.Directory) (directory_forms.answer_again ask answer fits)
answer_spelled (asks.Directory ask) answer fits = absurd cc
answer_spelled (asks.Counter ask) (answers.Counter answer) fits = ap (option_map answers.Counter) (counter_forms.answer_again ask answer fits)
answer_spelled (asks.Counter ask) answer fits = absurd cc
answer_spelled (asks.Register ask) (answers.Register answer) fits = ap (option_map answers.Register) (register_forms.answer_again ask answer fits)
answer_spelled (asks.Register ask) answer fits = absurd cc
answer_spelled (asks.Map ask) (answers.Map answer) fits = ap (option_map answers.Map) (map_forms.answer_again ask answer fits)
answer_spelled (asks.Map ask) answer fits = absurd cc
answer_spelled (asks.List ask) (answers.List answer) fits = ap (option_map answers.List) (list_forms.answer_again ask answer fits)
answer_spelled (asks.List ask) answer fits = absurd cc
answer_spelled (asks.Tree ask) (answers.Tree answer) fits = ap (option_map answers.Tree) (tree_forms.answer_again ask answer fits)
answer_spelled (asks.Tree ask) answer fits = absurd cc
answer_spelled (asks.Set ask) (answers.Set answer) fits = ap (option_map answers.Set) (set_forms.answer_again ask answer fits)
answer_spelled (asks.Set ask) answer fits = absurd cc

pub answer_again : (ask : AnyAsk) (words : List (List ℕ)) (answer : AnyAns) → answer_fits ask answer ≡ true → words ≡ answer_words answer → answer_read ask words ≡ Some answer
answer_again ask words answer fits e = ap (answer_read ask) e ∙ answer_spelled ask answer fits

-- what a call found, by what is read
found : {A : Type 0} (o r : Option A) (P : A → Type 0) → o ≡ r → ((x : A) → r ≡ Some x → P x) → IfSome o P
found None r P e h = tt
found (Some x) r P e h = h x (sym e)

pub ok_found : {A E : Type 0} (result : Result (Option A) E) (r : Option A) (P : A → Type 0) → IfOk result (λ x. x ≡ r) → ((x : A) → r ≡ Some x → P x) → IfOk result (λ x. IfSome x P)
ok_found (Ok o) r P e h = found o r P e h
ok_found (Err e) r P is h = tt

pub ok_only : {A E : Type 0} (result : Result (Option A) E) (r s : Option A) → IfOk result (λ x. x ≡ r) → r ≡ s → IfOk result (λ x. x ≡ s)
ok_only (Ok o) r s e h = e ∙ h
ok_only (Err e) r s is h = tt
