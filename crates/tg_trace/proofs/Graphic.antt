-- The bytes of the words of replies.
use Rattle.std.proofs.Common.{◌≡◌, ℕ, Bool, true, false, ◌||◌, List, codes, Some, None, refl}
use Rattle.std.specs.List.{list_all}
use Rattle.tg_base.specs.declared.marks.Part.TheVariants.{All as AllParts, Text, Num}
use Rattle.tg_base.specs.declared.fault.Many.TheVariants as many
use Rattle.tg_codec.proofs.Laws.{and-left, and-right, both}
use Rattle.tg_kind.specs.Texts.{text_format}
use Rattle.tg_tree.specs.Paths.{path_format}
use Rattle.tg_dir.specs.declared.directory.DirectoryOp.TheVariants as directory_ops
use Rattle.tg_dir.specs.declared.directory.DirectoryAsk.TheVariants as directory_asks
use Rattle.tg_dir.specs.declared.directory.DirectoryAns.TheVariants as directory_answers
use Rattle.tg_cell.specs.declared.counter.CounterOp.TheVariants as counter_ops
use Rattle.tg_cell.specs.declared.counter.CounterAsk.TheVariants as counter_asks
use Rattle.tg_cell.specs.declared.counter.CounterAns.TheVariants as counter_answers
use Rattle.tg_cell.specs.declared.register.RegisterOp.TheVariants as register_ops
use Rattle.tg_cell.specs.declared.register.RegisterAsk.TheVariants as register_asks
use Rattle.tg_cell.specs.declared.register.RegisterAns.TheVariants as register_answers
use Rattle.tg_map.specs.declared.map.MapOp.TheVariants as map_ops
use Rattle.tg_map.specs.declared.map.MapAsk.TheVariants as map_asks
use Rattle.tg_map.specs.declared.map.MapAns.TheVariants as map_answers
use Rattle.tg_list.specs.declared.text_list.TextListOp.TheVariants as list_ops
use Rattle.tg_list.specs.declared.text_list.TextListAsk.TheVariants as list_asks
use Rattle.tg_list.specs.declared.text_list.TextListAns.TheVariants as list_answers
use Rattle.tg_tree.specs.declared.tree.TreeOp.TheVariants as tree_ops
use Rattle.tg_tree.specs.declared.tree.TreeAsk.TheVariants as tree_asks
use Rattle.tg_tree.specs.declared.tree.TreeAns.TheVariants as tree_answers
use Rattle.tg_set.specs.declared.set.SetOp.TheVariants as set_ops
use Rattle.tg_set.specs.declared.set.SetAsk.TheVariants as set_asks
use Rattle.tg_set.specs.declared.set.SetAns.TheVariants as set_answers
use Rattle.tg_any.specs.declared.any.AnyOp.TheVariants as ops
use Rattle.tg_any.specs.declared.any.AnyAsk.{AnyAsk}
use Rattle.tg_any.specs.declared.any.AnyAsk.TheVariants as asks
use Rattle.tg_any.specs.declared.any.AnyAns.TheVariants as answers
use Rattle.tg_any.specs.AnyWords.{ask_words, ask_fits}
use Rattle.tg_any.specs.Words.{number, index, signed, text, path, object, mark, flag, one, two}
use Rattle.tg_model.specs.declared.command.Word.TheVariants as command
use Rattle.tg_model.specs.declared.refusal.Refusal.{Refusal}
use Rattle.tg_model.specs.declared.refusal.Refusal.TheVariants as cause
use Rattle.tg_model.specs.declared.trace.What.TheVariants as told
use Rattle.tg_trace.specs.Lines.{first, named}
use Rattle.tg_trace.specs.Fields.{waiting, crowd, fate, client, unit, key, versions, clash, any_op, answer_to, told_at, answered}
use Rattle.tg_trace.specs.Refusals.{refusal_words, refusal_fits}
use Rattle.tg_trace.specs.Replies.{Told, what_words, what_fits}
use Rattle.tg_trace.proofs.Bytes.{is_graphic, IsGraphic, are_graphic, AreGraphic, all_append, number_graphic, index_graphic, signed_graphic, text_graphic, path_graphic, object_graphic, mark_graphic, flag_graphic, lettered_graphic, one_graphic, two_graphic, first_graphic, named_graphic, maybe_graphic, list_graphic}

pub waiting_graphic : IsGraphic waiting
waiting_graphic command.Host e = refl
waiting_graphic command.Begin e = refl
waiting_graphic command.Put e = refl
waiting_graphic command.Ask e = refl
waiting_graphic command.End e = refl
waiting_graphic command.Drop e = refl
waiting_graphic command.Fate e = refl
waiting_graphic command.Decide e = refl
waiting_graphic command.Checkpoint e = refl
waiting_graphic command.Forget e = refl
waiting_graphic command.Trim e = refl
waiting_graphic command.Reconf e = refl
waiting_graphic command.Copy e = refl
waiting_graphic command.AskAt e = refl
waiting_graphic command.Rescue e = refl

pub crowd_graphic : IsGraphic crowd
crowd_graphic many.Streams e = refl
crowd_graphic many.Reads e = refl
crowd_graphic many.Writes e = refl
crowd_graphic many.Hosted e = refl
crowd_graphic many.Ranges e = refl
crowd_graphic many.Units e = refl

pub fate_graphic : IsGraphic fate
fate_graphic None e = refl
fate_graphic (Some true) e = refl
fate_graphic (Some false) e = refl

pub client_graphic : IsGraphic client
client_graphic = lettered_graphic (codes "c") refl

pub unit_graphic : IsGraphic unit
unit_graphic = lettered_graphic (codes "u") refl

either_graphic : (t : List ℕ) (p q : Bool) → (p ≡ true → list_all is_graphic t ≡ true) → (q ≡ true → list_all is_graphic t ≡ true) → (p || q) ≡ true → list_all is_graphic t ≡ true
either_graphic t true q f g e = f refl
either_graphic t false q f g e = g e

pub key_graphic : IsGraphic key
key_graphic t e = either_graphic t (text_format.fits t) (path_format.fits t) (text_graphic t) (path_graphic t) e

pub versions_graphic : AreGraphic versions
versions_graphic = named_graphic (codes "seen") (first number (named (codes "now") (one number))) refl (first_graphic number (named (codes "now") (one number)) number_graphic (named_graphic (codes "now") (one number) refl (one_graphic number number_graphic)))

pub clash_graphic : AreGraphic clash
clash_graphic (AllParts, v) e = versions_graphic v e
clash_graphic (Text t, v) e = both _ _ (key_graphic t (and-left _ _ e)) (versions_graphic v (and-right _ _ e))
clash_graphic (Num n, v) e = both _ _ (number_graphic n (and-left _ _ e)) (versions_graphic v (and-right _ _ e))

pub any_op_graphic : AreGraphic any_op
any_op_graphic (ops.Directory (directory_ops.Name x y)) e = two_graphic text object text_graphic object_graphic (x, y) e
any_op_graphic (ops.Directory (directory_ops.Mark x y)) e = two_graphic object number object_graphic number_graphic (x, y) e
any_op_graphic (ops.Counter (counter_ops.Add x)) e = one_graphic signed signed_graphic x e
any_op_graphic (ops.Register (register_ops.Write x)) e = one_graphic text text_graphic x e
any_op_graphic (ops.Map (map_ops.Set x y)) e = two_graphic text text text_graphic text_graphic (x, y) e
any_op_graphic (ops.Map (map_ops.Unset x)) e = one_graphic text text_graphic x e
any_op_graphic (ops.List (list_ops.PushFront x)) e = one_graphic text text_graphic x e
any_op_graphic (ops.List (list_ops.PushBack x)) e = one_graphic text text_graphic x e
any_op_graphic (ops.List (list_ops.Insert x y)) e = two_graphic index text index_graphic text_graphic (x, y) e
any_op_graphic (ops.List (list_ops.Remove x)) e = one_graphic index index_graphic x e
any_op_graphic (ops.List list_ops.PopFront) e = refl
any_op_graphic (ops.List list_ops.PopBack) e = refl
any_op_graphic (ops.Tree (tree_ops.Create x y)) e = two_graphic path text path_graphic text_graphic (x, y) e
any_op_graphic (ops.Tree (tree_ops.Store x y)) e = two_graphic path text path_graphic text_graphic (x, y) e
any_op_graphic (ops.Tree (tree_ops.Delete x)) e = one_graphic path path_graphic x e
any_op_graphic (ops.Set (set_ops.Include x)) e = one_graphic number number_graphic x e
any_op_graphic (ops.Set (set_ops.Exclude x)) e = one_graphic number number_graphic x e

pub ask_graphic : (ask : AnyAsk) → ask_fits ask ≡ true → are_graphic (ask_words ask) ≡ true
ask_graphic (asks.Directory (directory_asks.Find x)) e = one_graphic text text_graphic x e
ask_graphic (asks.Directory directory_asks.Marks) e = refl
ask_graphic (asks.Directory directory_asks.Floor) e = refl
ask_graphic (asks.Counter counter_asks.Value) e = refl
ask_graphic (asks.Register register_asks.Text) e = refl
ask_graphic (asks.Map (map_asks.Get x)) e = one_graphic text text_graphic x e
ask_graphic (asks.Map map_asks.Size) e = refl
ask_graphic (asks.Map map_asks.Keys) e = refl
ask_graphic (asks.List (list_asks.At x)) e = one_graphic index index_graphic x e
ask_graphic (asks.List list_asks.Len) e = refl
ask_graphic (asks.List list_asks.Items) e = refl
ask_graphic (asks.Tree (tree_asks.Data x)) e = one_graphic path path_graphic x e
ask_graphic (asks.Tree (tree_asks.Has x)) e = one_graphic path path_graphic x e
ask_graphic (asks.Tree (tree_asks.Children x)) e = one_graphic path path_graphic x e
ask_graphic (asks.Set (set_asks.Member x)) e = one_graphic number number_graphic x e
ask_graphic (asks.Set (set_asks.Count x y)) e = two_graphic number number number_graphic number_graphic (x, y) e
ask_graphic (asks.Set (set_asks.Between x y)) e = two_graphic number number number_graphic number_graphic (x, y) e

pub answer_graphic : (ask : AnyAsk) → AreGraphic (answer_to ask)
answer_graphic (asks.Directory (directory_asks.Find q)) (answers.Directory (directory_answers.Found x)) e = maybe_graphic object object_graphic x e
answer_graphic (asks.Directory (directory_asks.Find q)) (answers.Directory (directory_answers.Marks x)) e = absurd cc
answer_graphic (asks.Directory (directory_asks.Find q)) (answers.Directory (directory_answers.Floor x)) e = absurd cc
answer_graphic (asks.Directory directory_asks.Marks) (answers.Directory (directory_answers.Found x)) e = absurd cc
answer_graphic (asks.Directory directory_asks.Marks) (answers.Directory (directory_answers.Marks x)) e = list_graphic mark mark_graphic x e
answer_graphic (asks.Directory directory_asks.Marks) (answers.Directory (directory_answers.Floor x)) e = absurd cc
answer_graphic (asks.Directory directory_asks.Floor) (answers.Directory (directory_answers.Found x)) e = absurd cc
answer_graphic (asks.Directory directory_asks.Floor) (answers.Directory (directory_answers.Marks x)) e = absurd cc
answer_graphic (asks.Directory directory_asks.Floor) (answers.Directory (directory_answers.Floor x)) e = one_graphic number number_graphic x e
answer_graphic (asks.Directory q) (answers.Counter x) e = absurd cc
answer_graphic (asks.Directory q) (answers.Register x) e = absurd cc
answer_graphic (asks.Directory q) (answers.Map x) e = absurd cc
answer_graphic (asks.Directory q) (answers.List x) e = absurd cc
answer_graphic (asks.Directory q) (answers.Tree x) e = absurd cc
answer_graphic (asks.Directory q) (answers.Set x) e = absurd cc
answer_graphic (asks.Directory q) answers.None e = absurd cc
answer_graphic (asks.Counter counter_asks.Value) (answers.Counter (counter_answers.Number x)) e = one_graphic signed signed_graphic x e
answer_graphic (asks.Counter q) (answers.Directory x) e = absurd cc
answer_graphic (asks.Counter q) (answers.Register x) e = absurd cc
answer_graphic (asks.Counter q) (answers.Map x) e = absurd cc
answer_graphic (asks.Counter q) (answers.List x) e = absurd cc
answer_graphic (asks.Counter q) (answers.Tree x) e = absurd cc
answer_graphic (asks.Counter q) (answers.Set x) e = absurd cc
answer_graphic (asks.Counter q) answers.None e = absurd cc
answer_graphic (asks.Register register_asks.Text) (answers.Register (register_answers.Held x)) e = maybe_graphic text text_graphic x e
answer_graphic (asks.Register q) (answers.Directory x) e = absurd cc
answer_graphic (asks.Register q) (answers.Counter x) e = absurd cc
answer_graphic (asks.Register q) (answers.Map x) e = absurd cc
answer_graphic (asks.Register q) (answers.List x) e = absurd cc
answer_graphic (asks.Register q) (answers.Tree x) e = absurd cc
answer_graphic (asks.Register q) (answers.Set x) e = absurd cc
answer_graphic (asks.Register q) answers.None e = absurd cc
answer_graphic (asks.Map (map_asks.Get q)) (answers.Map (map_answers.Value x)) e = maybe_graphic text text_graphic x e
answer_graphic (asks.Map (map_asks.Get q)) (answers.Map (map_answers.Number x)) e = absurd cc
answer_graphic (asks.Map (map_asks.Get q)) (answers.Map (map_answers.Keys x)) e = absurd cc
answer_graphic (asks.Map map_asks.Size) (answers.Map (map_answers.Value x)) e = absurd cc
answer_graphic (asks.Map map_asks.Size) (answers.Map (map_answers.Number x)) e = one_graphic number number_graphic x e
answer_graphic (asks.Map map_asks.Size) (answers.Map (map_answers.Keys x)) e = absurd cc
answer_graphic (asks.Map map_asks.Keys) (answers.Map (map_answers.Value x)) e = absurd cc
answer_graphic (asks.Map map_asks.Keys) (answers.Map (map_answers.Number x)) e = absurd cc
answer_graphic (asks.Map map_asks.Keys) (answers.Map (map_answers.Keys x)) e = list_graphic text text_graphic x e
answer_graphic (asks.Map q) (answers.Directory x) e = absurd cc
answer_graphic (asks.Map q) (answers.Counter x) e = absurd cc
answer_graphic (asks.Map q) (answers.Register x) e = absurd cc
answer_graphic (asks.Map q) (answers.List x) e = absurd cc
answer_graphic (asks.Map q) (answers.Tree x) e = absurd cc
answer_graphic (asks.Map q) (answers.Set x) e = absurd cc
answer_graphic (asks.Map q) answers.None e = absurd cc
answer_graphic (asks.List (list_asks.At q)) (answers.List (list_answers.Item x)) e = maybe_graphic text text_graphic x e
answer_graphic (asks.List (list_asks.At q)) (answers.List (list_answers.Number x)) e = absurd cc
answer_graphic (asks.List (list_asks.At q)) (answers.List (list_answers.Items x)) e = absurd cc
answer_graphic (asks.List list_asks.Len) (answers.List (list_answers.Item x)) e = absurd cc
answer_graphic (asks.List list_asks.Len) (answers.List (list_answers.Number x)) e = one_graphic number number_graphic x e
answer_graphic (asks.List list_asks.Len) (answers.List (list_answers.Items x)) e = absurd cc
answer_graphic (asks.List list_asks.Items) (answers.List (list_answers.Item x)) e = absurd cc
answer_graphic (asks.List list_asks.Items) (answers.List (list_answers.Number x)) e = absurd cc
answer_graphic (asks.List list_asks.Items) (answers.List (list_answers.Items x)) e = list_graphic text text_graphic x e
answer_graphic (asks.List q) (answers.Directory x) e = absurd cc
answer_graphic (asks.List q) (answers.Counter x) e = absurd cc
answer_graphic (asks.List q) (answers.Register x) e = absurd cc
answer_graphic (asks.List q) (answers.Map x) e = absurd cc
answer_graphic (asks.List q) (answers.Tree x) e = absurd cc
answer_graphic (asks.List q) (answers.Set x) e = absurd cc
answer_graphic (asks.List q) answers.None e = absurd cc
answer_graphic (asks.Tree (tree_asks.Data q)) (answers.Tree (tree_answers.Data x)) e = maybe_graphic text text_graphic x e
answer_graphic (asks.Tree (tree_asks.Data q)) (answers.Tree (tree_answers.Has x)) e = absurd cc
answer_graphic (asks.Tree (tree_asks.Data q)) (answers.Tree (tree_answers.Children x)) e = absurd cc
answer_graphic (asks.Tree (tree_asks.Has q)) (answers.Tree (tree_answers.Data x)) e = absurd cc
answer_graphic (asks.Tree (tree_asks.Has q)) (answers.Tree (tree_answers.Has x)) e = one_graphic flag flag_graphic x e
answer_graphic (asks.Tree (tree_asks.Has q)) (answers.Tree (tree_answers.Children x)) e = absurd cc
answer_graphic (asks.Tree (tree_asks.Children q)) (answers.Tree (tree_answers.Data x)) e = absurd cc
answer_graphic (asks.Tree (tree_asks.Children q)) (answers.Tree (tree_answers.Has x)) e = absurd cc
answer_graphic (asks.Tree (tree_asks.Children q)) (answers.Tree (tree_answers.Children x)) e = list_graphic text text_graphic x e
answer_graphic (asks.Tree q) (answers.Directory x) e = absurd cc
answer_graphic (asks.Tree q) (answers.Counter x) e = absurd cc
answer_graphic (asks.Tree q) (answers.Register x) e = absurd cc
answer_graphic (asks.Tree q) (answers.Map x) e = absurd cc
answer_graphic (asks.Tree q) (answers.List x) e = absurd cc
answer_graphic (asks.Tree q) (answers.Set x) e = absurd cc
answer_graphic (asks.Tree q) answers.None e = absurd cc
answer_graphic (asks.Set (set_asks.Member q)) (answers.Set (set_answers.Member x)) e = one_graphic flag flag_graphic x e
answer_graphic (asks.Set (set_asks.Member q)) (answers.Set (set_answers.Count x)) e = absurd cc
answer_graphic (asks.Set (set_asks.Member q)) (answers.Set (set_answers.Numbers x)) e = absurd cc
answer_graphic (asks.Set (set_asks.Count q r)) (answers.Set (set_answers.Member x)) e = absurd cc
answer_graphic (asks.Set (set_asks.Count q r)) (answers.Set (set_answers.Count x)) e = one_graphic number number_graphic x e
answer_graphic (asks.Set (set_asks.Count q r)) (answers.Set (set_answers.Numbers x)) e = absurd cc
answer_graphic (asks.Set (set_asks.Between q r)) (answers.Set (set_answers.Member x)) e = absurd cc
answer_graphic (asks.Set (set_asks.Between q r)) (answers.Set (set_answers.Count x)) e = absurd cc
answer_graphic (asks.Set (set_asks.Between q r)) (answers.Set (set_answers.Numbers x)) e = list_graphic number number_graphic x e
answer_graphic (asks.Set q) (answers.Directory x) e = absurd cc
answer_graphic (asks.Set q) (answers.Counter x) e = absurd cc
answer_graphic (asks.Set q) (answers.Register x) e = absurd cc
answer_graphic (asks.Set q) (answers.Map x) e = absurd cc
answer_graphic (asks.Set q) (answers.List x) e = absurd cc
answer_graphic (asks.Set q) (answers.Tree x) e = absurd cc
answer_graphic (asks.Set q) answers.None e = absurd cc

pub told_at_graphic : (ask : AnyAsk) → AreGraphic (told_at ask)
told_at_graphic ask = named_graphic (codes "at") (first number (named (codes "=") (answer_to ask))) refl (first_graphic number (named (codes "=") (answer_to ask)) number_graphic (named_graphic (codes "=") (answer_to ask) refl (answer_graphic ask)))

pub answered_graphic : AreGraphic answered
answered_graphic p e = all_append (list_all is_graphic) (ask_words p.0) ((told_at p.0).spell p.1) (ask_graphic p.0 (and-left _ _ e)) (told_at_graphic p.0 p.1 (and-right _ _ e))

pub refusal_graphic : (y : Refusal) → refusal_fits y ≡ true → are_graphic (refusal_words y) ≡ true
refusal_graphic (cause.Busy c) e = (one_graphic waiting waiting_graphic) c refl
refusal_graphic cause.NoTx e = refl
refusal_graphic cause.TxOpen e = refl
refusal_graphic (cause.NotHosted o) e = (one_graphic object object_graphic) o e
refusal_graphic (cause.NotRegistered o) e = (one_graphic object object_graphic) o e
refusal_graphic (cause.WrongKind o) e = (one_graphic object object_graphic) o e
refusal_graphic (cause.TooLarge n) e = (one_graphic number number_graphic) n e
refusal_graphic (cause.Undecided n o) e = (two_graphic number object number_graphic object_graphic) (n, o) e
refusal_graphic (cause.LogFull n) e = (one_graphic number number_graphic) n e
refusal_graphic (cause.Forgotten n m) e = (two_graphic number number number_graphic number_graphic) (n, m) e
refusal_graphic (cause.NoReplica n m) e = (two_graphic number number number_graphic number_graphic) (n, m) e
refusal_graphic (cause.Returned u) e = (one_graphic unit unit_graphic) u e
refusal_graphic (cause.Overtaken n) e = (one_graphic number number_graphic) n e
refusal_graphic (cause.OpenDecision n) e = (one_graphic number number_graphic) n e
refusal_graphic (cause.NoCheckpoint o) e = (one_graphic object object_graphic) o e
refusal_graphic (cause.TooMany c) e = (one_graphic crowd crowd_graphic) c refl
refusal_graphic (cause.NotClosed n) e = (one_graphic number number_graphic) n e
refusal_graphic (cause.NoStripe n m) e = (two_graphic number number number_graphic number_graphic) (n, m) e
refusal_graphic (cause.InChain u) e = (one_graphic unit unit_graphic) u e
refusal_graphic (cause.NotWhole u n) e = (two_graphic unit number unit_graphic number_graphic) (u, n) e
refusal_graphic (cause.Ahead n) e = (one_graphic number number_graphic) n e

pub what_graphic : (y : Told) → what_fits y ≡ true → are_graphic (what_words y) ≡ true
what_graphic told.Begin e = refl
what_graphic (told.Put o op) e = (first_graphic object any_op object_graphic any_op_graphic) (o, op) e
what_graphic (told.Asked o q t a) e = (first_graphic object answered object_graphic answered_graphic) (o, (q, (t, a))) e
what_graphic told.End e = refl
what_graphic (told.Committed n) e = (one_graphic number number_graphic) n e
what_graphic (told.Aborted n o part s v) e = (first_graphic number (first object clash) number_graphic (first_graphic object clash object_graphic clash_graphic)) (n, (o, (part, (s, v)))) e
what_graphic (told.Unsure n m) e = (two_graphic number number number_graphic number_graphic) (n, m) e
what_graphic told.Dropped e = refl
what_graphic (told.Hosted o) e = (one_graphic object object_graphic) o e
what_graphic (told.Fate n y) e = (two_graphic number fate number_graphic fate_graphic) (n, y) e
what_graphic (told.Decided n y) e = (two_graphic number fate number_graphic fate_graphic) (n, y) e
what_graphic (told.Saved o n m) e = (first_graphic object (two number number) object_graphic (two_graphic number number number_graphic number_graphic)) (o, (n, m)) e
what_graphic (told.Marked o n) e = (two_graphic object number object_graphic number_graphic) (o, n) e
what_graphic (told.Trimmed n) e = (one_graphic number number_graphic) n e
what_graphic (told.Installed n) e = (one_graphic number number_graphic) n e
what_graphic (told.Refused why) e = refusal_graphic why e
what_graphic (told.Copied u n m) e = (first_graphic unit (two number number) unit_graphic (two_graphic number number number_graphic number_graphic)) (u, (n, m)) e
what_graphic (told.Past o q t a) e = (first_graphic object answered object_graphic answered_graphic) (o, (q, (t, a))) e
what_graphic (told.Rescued n y) e = (two_graphic number fate number_graphic fate_graphic) (n, y) e
