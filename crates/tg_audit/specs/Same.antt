-- Equality of ops and of answers, as tests.
use Rattle.std.specs.Prelude.{ℕ, Bool, true, false, not, ◌&&◌, nat_eq, Option, Some, None, if◌then◌else◌}
use Rattle.std.specs.Cmp.Lexicographic.{pointwise}
use Rattle.std.specs.Ordering.{int_eq}
use Rattle.std.specs.Str.{bytes_eq}
use Rattle.tg_base.specs.Orders.{oid_eq}
use Rattle.tg_base.specs.declared.ids.Oid.{Oid}
use Rattle.tg_dir.specs.declared.directory.DirectoryOp.{DirectoryOp}
use Rattle.tg_dir.specs.declared.directory.DirectoryOp.TheVariants as directory_op
use Rattle.tg_cell.specs.declared.counter.CounterOp.{CounterOp}
use Rattle.tg_cell.specs.declared.counter.CounterOp.TheVariants as counter_op
use Rattle.tg_cell.specs.declared.register.RegisterOp.{RegisterOp}
use Rattle.tg_cell.specs.declared.register.RegisterOp.TheVariants as register_op
use Rattle.tg_map.specs.declared.map.MapOp.{MapOp}
use Rattle.tg_map.specs.declared.map.MapOp.TheVariants as map_op
use Rattle.tg_list.specs.declared.text_list.TextListOp.{TextListOp}
use Rattle.tg_list.specs.declared.text_list.TextListOp.TheVariants as list_op
use Rattle.tg_tree.specs.declared.tree.TreeOp.{TreeOp}
use Rattle.tg_tree.specs.declared.tree.TreeOp.TheVariants as tree_op
use Rattle.tg_set.specs.declared.set.SetOp.{SetOp}
use Rattle.tg_set.specs.declared.set.SetOp.TheVariants as set_op
use Rattle.tg_dir.specs.declared.directory.DirectoryAns.{DirectoryAns}
use Rattle.tg_dir.specs.declared.directory.DirectoryAns.TheVariants as directory_ans
use Rattle.tg_cell.specs.declared.counter.CounterAns.{CounterAns}
use Rattle.tg_cell.specs.declared.counter.CounterAns.TheVariants as counter_ans
use Rattle.tg_cell.specs.declared.register.RegisterAns.{RegisterAns}
use Rattle.tg_cell.specs.declared.register.RegisterAns.TheVariants as register_ans
use Rattle.tg_map.specs.declared.map.MapAns.{MapAns}
use Rattle.tg_map.specs.declared.map.MapAns.TheVariants as map_ans
use Rattle.tg_list.specs.declared.text_list.TextListAns.{TextListAns}
use Rattle.tg_list.specs.declared.text_list.TextListAns.TheVariants as list_ans
use Rattle.tg_tree.specs.declared.tree.TreeAns.{TreeAns}
use Rattle.tg_tree.specs.declared.tree.TreeAns.TheVariants as tree_ans
use Rattle.tg_set.specs.declared.set.SetAns.{SetAns}
use Rattle.tg_set.specs.declared.set.SetAns.TheVariants as set_ans
use Rattle.tg_any.specs.declared.any.AnyOp.{AnyOp}
use Rattle.tg_any.specs.declared.any.AnyOp.TheVariants as ops
use Rattle.tg_any.specs.declared.any.AnyAns.{AnyAns}
use Rattle.tg_any.specs.declared.any.AnyAns.TheVariants as answers

abbrev pub same_flag : Bool → Bool → Bool
same_flag a b = if a then b else not b

abbrev pub same_option : {A : Type 0} → (A → A → Bool) → Option A → Option A → Bool
same_option same None None = true
same_option same (Some a) (Some b) = same a b
same_option same _ _ = false

-- objects with their marks
abbrev pub same_mark : Oid × ℕ → Oid × ℕ → Bool
same_mark p q = oid_eq p.0 q.0 && nat_eq p.1 q.1

-- Ops, by kind.

abbrev pub same_directory_op : DirectoryOp → DirectoryOp → Bool
same_directory_op (directory_op.Name a b) (directory_op.Name x y) = bytes_eq a x && oid_eq b y
same_directory_op (directory_op.Mark a b) (directory_op.Mark x y) = oid_eq a x && nat_eq b y
same_directory_op _ _ = false

abbrev pub same_counter_op : CounterOp → CounterOp → Bool
same_counter_op (counter_op.Add a) (counter_op.Add x) = int_eq a x

abbrev pub same_register_op : RegisterOp → RegisterOp → Bool
same_register_op (register_op.Write a) (register_op.Write x) = bytes_eq a x

abbrev pub same_map_op : MapOp → MapOp → Bool
same_map_op (map_op.Set a b) (map_op.Set x y) = bytes_eq a x && bytes_eq b y
same_map_op (map_op.Unset a) (map_op.Unset x) = bytes_eq a x
same_map_op _ _ = false

abbrev pub same_list_op : TextListOp → TextListOp → Bool
same_list_op (list_op.PushFront a) (list_op.PushFront x) = bytes_eq a x
same_list_op (list_op.PushBack a) (list_op.PushBack x) = bytes_eq a x
same_list_op (list_op.Insert a b) (list_op.Insert x y) = nat_eq a x && bytes_eq b y
same_list_op (list_op.Remove a) (list_op.Remove x) = nat_eq a x
same_list_op list_op.PopFront list_op.PopFront = true
same_list_op list_op.PopBack list_op.PopBack = true
same_list_op _ _ = false

abbrev pub same_tree_op : TreeOp → TreeOp → Bool
same_tree_op (tree_op.Create a b) (tree_op.Create x y) = bytes_eq a x && bytes_eq b y
same_tree_op (tree_op.Store a b) (tree_op.Store x y) = bytes_eq a x && bytes_eq b y
same_tree_op (tree_op.Delete a) (tree_op.Delete x) = bytes_eq a x
same_tree_op _ _ = false

abbrev pub same_set_op : SetOp → SetOp → Bool
same_set_op (set_op.Include a) (set_op.Include x) = nat_eq a x
same_set_op (set_op.Exclude a) (set_op.Exclude x) = nat_eq a x
same_set_op _ _ = false

abbrev pub same_op : AnyOp → AnyOp → Bool
same_op (ops.Directory a) (ops.Directory b) = same_directory_op a b
same_op (ops.Counter a) (ops.Counter b) = same_counter_op a b
same_op (ops.Register a) (ops.Register b) = same_register_op a b
same_op (ops.Map a) (ops.Map b) = same_map_op a b
same_op (ops.List a) (ops.List b) = same_list_op a b
same_op (ops.Tree a) (ops.Tree b) = same_tree_op a b
same_op (ops.Set a) (ops.Set b) = same_set_op a b
same_op _ _ = false

-- Answers, by kind.

abbrev pub same_directory_ans : DirectoryAns → DirectoryAns → Bool
same_directory_ans (directory_ans.Found a) (directory_ans.Found x) = (same_option oid_eq) a x
same_directory_ans (directory_ans.Marks a) (directory_ans.Marks x) = (pointwise same_mark) a x
same_directory_ans (directory_ans.Floor a) (directory_ans.Floor x) = nat_eq a x
same_directory_ans _ _ = false

abbrev pub same_counter_ans : CounterAns → CounterAns → Bool
same_counter_ans (counter_ans.Number a) (counter_ans.Number x) = int_eq a x

abbrev pub same_register_ans : RegisterAns → RegisterAns → Bool
same_register_ans (register_ans.Held a) (register_ans.Held x) = (same_option bytes_eq) a x

abbrev pub same_map_ans : MapAns → MapAns → Bool
same_map_ans (map_ans.Value a) (map_ans.Value x) = (same_option bytes_eq) a x
same_map_ans (map_ans.Number a) (map_ans.Number x) = nat_eq a x
same_map_ans (map_ans.Keys a) (map_ans.Keys x) = (pointwise bytes_eq) a x
same_map_ans _ _ = false

abbrev pub same_list_ans : TextListAns → TextListAns → Bool
same_list_ans (list_ans.Item a) (list_ans.Item x) = (same_option bytes_eq) a x
same_list_ans (list_ans.Number a) (list_ans.Number x) = nat_eq a x
same_list_ans (list_ans.Items a) (list_ans.Items x) = (pointwise bytes_eq) a x
same_list_ans _ _ = false

abbrev pub same_tree_ans : TreeAns → TreeAns → Bool
same_tree_ans (tree_ans.Data a) (tree_ans.Data x) = (same_option bytes_eq) a x
same_tree_ans (tree_ans.Has a) (tree_ans.Has x) = same_flag a x
same_tree_ans (tree_ans.Children a) (tree_ans.Children x) = (pointwise bytes_eq) a x
same_tree_ans _ _ = false

abbrev pub same_set_ans : SetAns → SetAns → Bool
same_set_ans (set_ans.Member a) (set_ans.Member x) = same_flag a x
same_set_ans (set_ans.Count a) (set_ans.Count x) = nat_eq a x
same_set_ans (set_ans.Numbers a) (set_ans.Numbers x) = (pointwise nat_eq) a x
same_set_ans _ _ = false

abbrev pub same_answer : AnyAns → AnyAns → Bool
same_answer (answers.Directory a) (answers.Directory b) = same_directory_ans a b
same_answer (answers.Counter a) (answers.Counter b) = same_counter_ans a b
same_answer (answers.Register a) (answers.Register b) = same_register_ans a b
same_answer (answers.Map a) (answers.Map b) = same_map_ans a b
same_answer (answers.List a) (answers.List b) = same_list_ans a b
same_answer (answers.Tree a) (answers.Tree b) = same_tree_ans a b
same_answer (answers.Set a) (answers.Set b) = same_set_ans a b
same_answer answers.None answers.None = true
same_answer _ _ = false
