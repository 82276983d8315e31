-- The tests of equality are exact.
use Rattle.std.proofs.Common.{◌≡◌, ℕ, List, Bool, true, false, refl, sym, ap, ◌∙◌, subst, arith}
use Rattle.std.specs.Prelude.{◌↔◌, ℤ, not, ◌&&◌, nat_eq, Option, Some, None, if◌then◌else◌}
use Rattle.std.specs.Bool.{Decides}
use Rattle.std.specs.Cmp.{unsigned_Decides, signed_Decides}
use Rattle.std.specs.Cmp.Lexicographic.{pointwise, pointwise_decides}
use Rattle.std.specs.Ordering.{int_eq}
use Rattle.std.specs.Str.{bytes_eq}
use Rattle.tg_base.specs.Orders.{oid_eq}
use Rattle.tg_base.specs.declared.ids.Oid.{Oid}
use Rattle.tg_dir.specs.declared.directory.DirectoryOp.{DirectoryOp}
use Rattle.tg_dir.specs.declared.directory.DirectoryOp.TheVariants as directory_op
use Rattle.tg_cell.specs.declared.counter.CounterOp.{CounterOp}
use Rattle.tg_cell.specs.declared.counter.CounterOp.TheVariants as counter_op
use Rattle.tg_cell.specs.declared.register.RegisterOp.{RegisterOp}
use Rattle.tg_cell.specs.declared.register.RegisterOp.TheVariants as register_op
use Rattle.tg_map.specs.declared.map.MapOp.{MapOp}
use Rattle.tg_map.specs.declared.map.MapOp.TheVariants as map_op
use Rattle.tg_list.specs.declared.text_list.TextListOp.{TextListOp}
use Rattle.tg_list.specs.declared.text_list.TextListOp.TheVariants as list_op
use Rattle.tg_tree.specs.declared.tree.TreeOp.{TreeOp}
use Rattle.tg_tree.specs.declared.tree.TreeOp.TheVariants as tree_op
use Rattle.tg_set.specs.declared.set.SetOp.{SetOp}
use Rattle.tg_set.specs.declared.set.SetOp.TheVariants as set_op
use Rattle.tg_dir.specs.declared.directory.DirectoryAns.{DirectoryAns}
use Rattle.tg_dir.specs.declared.directory.DirectoryAns.TheVariants as directory_ans
use Rattle.tg_cell.specs.declared.counter.CounterAns.{CounterAns}
use Rattle.tg_cell.specs.declared.counter.CounterAns.TheVariants as counter_ans
use Rattle.tg_cell.specs.declared.register.RegisterAns.{RegisterAns}
use Rattle.tg_cell.specs.declared.register.RegisterAns.TheVariants as register_ans
use Rattle.tg_map.specs.declared.map.MapAns.{MapAns}
use Rattle.tg_map.specs.declared.map.MapAns.TheVariants as map_ans
use Rattle.tg_list.specs.declared.text_list.TextListAns.{TextListAns}
use Rattle.tg_list.specs.declared.text_list.TextListAns.TheVariants as list_ans
use Rattle.tg_tree.specs.declared.tree.TreeAns.{TreeAns}
use Rattle.tg_tree.specs.declared.tree.TreeAns.TheVariants as tree_ans
use Rattle.tg_set.specs.declared.set.SetAns.{SetAns}
use Rattle.tg_set.specs.declared.set.SetAns.TheVariants as set_ans
use Rattle.tg_any.specs.declared.any.AnyOp.{AnyOp}
use Rattle.tg_any.specs.declared.any.AnyOp.TheVariants as ops
use Rattle.tg_any.specs.declared.any.AnyAns.{AnyAns}
use Rattle.tg_any.specs.declared.any.AnyAns.TheVariants as answers
use Rattle.tg_audit.specs.Same.{same_flag, same_option, same_mark, same_op, same_answer, same_directory_op, same_counter_op, same_register_op, same_map_op, same_list_op, same_tree_op, same_set_op, same_directory_ans, same_counter_ans, same_register_ans, same_map_ans, same_list_ans, same_tree_ans, same_set_ans}

and_both : (a b : Bool) → (a && b) ≡ true → (a ≡ true) × (b ≡ true)
and_both true b e = (refl, e)
and_both false b e = absurd cc

both_and : (a b : Bool) → a ≡ true → b ≡ true → (a && b) ≡ true
both_and true b e f = f
both_and false b e f = absurd cc

itself : {A : Type 0} (same : A → A → Bool) → ((a b : A) → Decides (same a b) (a ≡ b)) → (a : A) → same a a ≡ true
itself same exact a = (exact a a).1 refl

numbers : (a b : ℕ) → Decides (nat_eq a b) (a ≡ b)
numbers = unsigned_Decides

signed_numbers : (a b : ℤ) → Decides (int_eq a b) (a ≡ b)
signed_numbers = signed_Decides

texts : (a b : List ℕ) → Decides (bytes_eq a b) (a ≡ b)
texts = pointwise_decides numbers

oids : (a b : Oid) → Decides (oid_eq a b) (a ≡ b)
oids a b = (λ e. let is : a.0 ≡ b.0 = (numbers a.0 b.0).0 e in λ i. record { 0 = is i }, λ e. (numbers a.0 b.0).1 (ap (λ (o : Oid). o.0) e))

flags : (a b : Bool) → Decides (same_flag a b) (a ≡ b)
flags true true = (λ e. refl, λ e. refl)
flags true false = (λ e. absurd cc, λ e. absurd cc)
flags false true = (λ e. absurd cc, λ e. absurd cc)
flags false false = (λ e. refl, λ e. refl)

some_same : {A : Type 0} (a b : A) → Some a ≡ Some b → a ≡ b
some_same a b e = cc

options : {A : Type 0} {same : A → A → Bool} → ((a b : A) → Decides (same a b) (a ≡ b)) → (a b : Option A) → Decides (same_option same a b) (a ≡ b)
options exact None None = (λ e. refl, λ e. refl)
options exact None (Some b) = (λ e. absurd cc, λ e. absurd cc)
options exact (Some a) None = (λ e. absurd cc, λ e. absurd cc)
options {A} exact (Some a) (Some b) = (λ e. ap (λ (x : A). Some x) ((exact a b).0 e), λ e. (exact a b).1 (some_same a b e))

marks : (p q : Oid × ℕ) → Decides (same_mark p q) (p ≡ q)
marks p q = (
  λ e. let f = and_both (oid_eq p.0 q.0) (nat_eq p.1 q.1) e in λ i. ((oids p.0 q.0).0 f.0 i, (numbers p.1 q.1).0 f.1 i),
  λ e. both_and (oid_eq p.0 q.0) (nat_eq p.1 q.1) ((oids p.0 q.0).1 (ap (λ (x : Oid × ℕ). x.0) e)) ((numbers p.1 q.1).1 (ap (λ (x : Oid × ℕ). x.1) e)),
)

-- Ops.

directory_op_is : (a b : DirectoryOp) → same_directory_op a b ≡ true → a ≡ b
directory_op_is (directory_op.Name a b) (directory_op.Name x y) e = let p = and_both (bytes_eq a x) (oid_eq b y) e in λ i. directory_op.Name ((texts a x).0 p.0 i) ((oids b y).0 p.1 i)
directory_op_is (directory_op.Name a b) (directory_op.Mark x y) e = absurd cc
directory_op_is (directory_op.Mark a b) (directory_op.Name x y) e = absurd cc
directory_op_is (directory_op.Mark a b) (directory_op.Mark x y) e = let p = and_both (oid_eq a x) (nat_eq b y) e in λ i. directory_op.Mark ((oids a x).0 p.0 i) ((numbers b y).0 p.1 i)

directory_op_itself : (a : DirectoryOp) → same_directory_op a a ≡ true
directory_op_itself (directory_op.Name a b) = both_and (bytes_eq a a) (oid_eq b b) (itself bytes_eq texts a) (itself oid_eq oids b)
directory_op_itself (directory_op.Mark a b) = both_and (oid_eq a a) (nat_eq b b) (itself oid_eq oids a) (itself nat_eq numbers b)

counter_op_is : (a b : CounterOp) → same_counter_op a b ≡ true → a ≡ b
counter_op_is (counter_op.Add a) (counter_op.Add x) e = ap counter_op.Add ((signed_numbers a x).0 e)

counter_op_itself : (a : CounterOp) → same_counter_op a a ≡ true
counter_op_itself (counter_op.Add a) = itself int_eq signed_numbers a

register_op_is : (a b : RegisterOp) → same_register_op a b ≡ true → a ≡ b
register_op_is (register_op.Write a) (register_op.Write x) e = ap register_op.Write ((texts a x).0 e)

register_op_itself : (a : RegisterOp) → same_register_op a a ≡ true
register_op_itself (register_op.Write a) = itself bytes_eq texts a

map_op_is : (a b : MapOp) → same_map_op a b ≡ true → a ≡ b
map_op_is (map_op.Set a b) (map_op.Set x y) e = let p = and_both (bytes_eq a x) (bytes_eq b y) e in λ i. map_op.Set ((texts a x).0 p.0 i) ((texts b y).0 p.1 i)
map_op_is (map_op.Set a b) (map_op.Unset x) e = absurd cc
map_op_is (map_op.Unset a) (map_op.Set x y) e = absurd cc
map_op_is (map_op.Unset a) (map_op.Unset x) e = ap map_op.Unset ((texts a x).0 e)

map_op_itself : (a : MapOp) → same_map_op a a ≡ true
map_op_itself (map_op.Set a b) = both_and (bytes_eq a a) (bytes_eq b b) (itself bytes_eq texts a) (itself bytes_eq texts b)
map_op_itself (map_op.Unset a) = itself bytes_eq texts a

list_op_is : (a b : TextListOp) → same_list_op a b ≡ true → a ≡ b
list_op_is (list_op.PushFront a) (list_op.PushFront x) e = ap list_op.PushFront ((texts a x).0 e)
list_op_is (list_op.PushFront a) (list_op.PushBack x) e = absurd cc
list_op_is (list_op.PushFront a) (list_op.Insert x y) e = absurd cc
list_op_is (list_op.PushFront a) (list_op.Remove x) e = absurd cc
list_op_is (list_op.PushFront a) list_op.PopFront e = absurd cc
list_op_is (list_op.PushFront a) list_op.PopBack e = absurd cc
list_op_is (list_op.PushBack a) (list_op.PushFront x) e = absurd cc
list_op_is (list_op.PushBack a) (list_op.PushBack x) e = ap list_op.PushBack ((texts a x).0 e)
list_op_is (list_op.PushBack a) (list_op.Insert x y) e = absurd cc
list_op_is (list_op.PushBack a) (list_op.Remove x) e = absurd cc
list_op_is (list_op.PushBack a) list_op.PopFront e = absurd cc
list_op_is (list_op.PushBack a) list_op.PopBack e = absurd cc
list_op_is (list_op.Insert a b) (list_op.PushFront x) e = absurd cc
list_op_is (list_op.Insert a b) (list_op.PushBack x) e = absurd cc
list_op_is (list_op.Insert a b) (list_op.Insert x y) e = let p = and_both (nat_eq a x) (bytes_eq b y) e in λ i. list_op.Insert ((numbers a x).0 p.0 i) ((texts b y).0 p.1 i)
list_op_is (list_op.Insert a b) (list_op.Remove x) e = absurd cc
list_op_is (list_op.Insert a b) list_op.PopFront e = absurd cc
list_op_is (list_op.Insert a b) list_op.PopBack e = absurd cc
list_op_is (list_op.Remove a) (list_op.PushFront x) e = absurd cc
list_op_is (list_op.Remove a) (list_op.PushBack x) e = absurd cc
list_op_is (list_op.Remove a) (list_op.Insert x y) e = absurd cc
list_op_is (list_op.Remove a) (list_op.Remove x) e = ap list_op.Remove ((numbers a x).0 e)
list_op_is (list_op.Remove a) list_op.PopFront e = absurd cc
list_op_is (list_op.Remove a) list_op.PopBack e = absurd cc
list_op_is list_op.PopFront (list_op.PushFront x) e = absurd cc
list_op_is list_op.PopFront (list_op.PushBack x) e = absurd cc
list_op_is list_op.PopFront (list_op.Insert x y) e = absurd cc
list_op_is list_op.PopFront (list_op.Remove x) e = absurd cc
list_op_is list_op.PopFront list_op.PopFront e = refl
list_op_is list_op.PopFront list_op.PopBack e = absurd cc
list_op_is list_op.PopBack (list_op.PushFront x) e = absurd cc
list_op_is list_op.PopBack (list_op.PushBack x) e = absurd cc
list_op_is list_op.PopBack (list_op.Insert x y) e = absurd cc
list_op_is list_op.PopBack (list_op.Remove x) e = absurd cc
list_op_is list_op.PopBack list_op.PopFront e = absurd cc
list_op_is list_op.PopBack list_op.PopBack e = refl

list_op_itself : (a : TextListOp) → same_list_op a a ≡ true
list_op_itself (list_op.PushFront a) = itself bytes_eq texts a
list_op_itself (list_op.PushBack a) = itself bytes_eq texts a
list_op_itself (list_op.Insert a b) = both_and (nat_eq a a) (bytes_eq b b) (itself nat_eq numbers a) (itself bytes_eq texts b)
list_op_itself (list_op.Remove a) = itself nat_eq numbers a
list_op_itself list_op.PopFront = refl
list_op_itself list_op.PopBack = refl

tree_op_is : (a b : TreeOp) → same_tree_op a b ≡ true → a ≡ b
tree_op_is (tree_op.Create a b) (tree_op.Create x y) e = let p = and_both (bytes_eq a x) (bytes_eq b y) e in λ i. tree_op.Create ((texts a x).0 p.0 i) ((texts b y).0 p.1 i)
tree_op_is (tree_op.Create a b) (tree_op.Store x y) e = absurd cc
tree_op_is (tree_op.Create a b) (tree_op.Delete x) e = absurd cc
tree_op_is (tree_op.Store a b) (tree_op.Create x y) e = absurd cc
tree_op_is (tree_op.Store a b) (tree_op.Store x y) e = let p = and_both (bytes_eq a x) (bytes_eq b y) e in λ i. tree_op.Store ((texts a x).0 p.0 i) ((texts b y).0 p.1 i)
tree_op_is (tree_op.Store a b) (tree_op.Delete x) e = absurd cc
tree_op_is (tree_op.Delete a) (tree_op.Create x y) e = absurd cc
tree_op_is (tree_op.Delete a) (tree_op.Store x y) e = absurd cc
tree_op_is (tree_op.Delete a) (tree_op.Delete x) e = ap tree_op.Delete ((texts a x).0 e)

tree_op_itself : (a : TreeOp) → same_tree_op a a ≡ true
tree_op_itself (tree_op.Create a b) = both_and (bytes_eq a a) (bytes_eq b b) (itself bytes_eq texts a) (itself bytes_eq texts b)
tree_op_itself (tree_op.Store a b) = both_and (bytes_eq a a) (bytes_eq b b) (itself bytes_eq texts a) (itself bytes_eq texts b)
tree_op_itself (tree_op.Delete a) = itself bytes_eq texts a

set_op_is : (a b : SetOp) → same_set_op a b ≡ true → a ≡ b
set_op_is (set_op.Include a) (set_op.Include x) e = ap set_op.Include ((numbers a x).0 e)
set_op_is (set_op.Include a) (set_op.Exclude x) e = absurd cc
set_op_is (set_op.Exclude a) (set_op.Include x) e = absurd cc
set_op_is (set_op.Exclude a) (set_op.Exclude x) e = ap set_op.Exclude ((numbers a x).0 e)

set_op_itself : (a : SetOp) → same_set_op a a ≡ true
set_op_itself (set_op.Include a) = itself nat_eq numbers a
set_op_itself (set_op.Exclude a) = itself nat_eq numbers a

same_op_is : (a b : AnyOp) → same_op a b ≡ true → a ≡ b
same_op_is (ops.Directory a) (ops.Directory b) e = ap ops.Directory (directory_op_is a b e)
same_op_is (ops.Directory a) (ops.Counter b) e = absurd cc
same_op_is (ops.Directory a) (ops.Register b) e = absurd cc
same_op_is (ops.Directory a) (ops.Map b) e = absurd cc
same_op_is (ops.Directory a) (ops.List b) e = absurd cc
same_op_is (ops.Directory a) (ops.Tree b) e = absurd cc
same_op_is (ops.Directory a) (ops.Set b) e = absurd cc
same_op_is (ops.Counter a) (ops.Directory b) e = absurd cc
same_op_is (ops.Counter a) (ops.Counter b) e = ap ops.Counter (counter_op_is a b e)
same_op_is (ops.Counter a) (ops.Register b) e = absurd cc
same_op_is (ops.Counter a) (ops.Map b) e = absurd cc
same_op_is (ops.Counter a) (ops.List b) e = absurd cc
same_op_is (ops.Counter a) (ops.Tree b) e = absurd cc
same_op_is (ops.Counter a) (ops.Set b) e = absurd cc
same_op_is (ops.Register a) (ops.Directory b) e = absurd cc
same_op_is (ops.Register a) (ops.Counter b) e = absurd cc
same_op_is (ops.Register a) (ops.Register b) e = ap ops.Register (register_op_is a b e)
same_op_is (ops.Register a) (ops.Map b) e = absurd cc
same_op_is (ops.Register a) (ops.List b) e = absurd cc
same_op_is (ops.Register a) (ops.Tree b) e = absurd cc
same_op_is (ops.Register a) (ops.Set b) e = absurd cc
same_op_is (ops.Map a) (ops.Directory b) e = absurd cc
same_op_is (ops.Map a) (ops.Counter b) e = absurd cc
same_op_is (ops.Map a) (ops.Register b) e = absurd cc
same_op_is (ops.Map a) (ops.Map b) e = ap ops.Map (map_op_is a b e)
same_op_is (ops.Map a) (ops.List b) e = absurd cc
same_op_is (ops.Map a) (ops.Tree b) e = absurd cc
same_op_is (ops.Map a) (ops.Set b) e = absurd cc
same_op_is (ops.List a) (ops.Directory b) e = absurd cc
same_op_is (ops.List a) (ops.Counter b) e = absurd cc
same_op_is (ops.List a) (ops.Register b) e = absurd cc
same_op_is (ops.List a) (ops.Map b) e = absurd cc
same_op_is (ops.List a) (ops.List b) e = ap ops.List (list_op_is a b e)
same_op_is (ops.List a) (ops.Tree b) e = absurd cc
same_op_is (ops.List a) (ops.Set b) e = absurd cc
same_op_is (ops.Tree a) (ops.Directory b) e = absurd cc
same_op_is (ops.Tree a) (ops.Counter b) e = absurd cc
same_op_is (ops.Tree a) (ops.Register b) e = absurd cc
same_op_is (ops.Tree a) (ops.Map b) e = absurd cc
same_op_is (ops.Tree a) (ops.List b) e = absurd cc
same_op_is (ops.Tree a) (ops.Tree b) e = ap ops.Tree (tree_op_is a b e)
same_op_is (ops.Tree a) (ops.Set b) e = absurd cc
same_op_is (ops.Set a) (ops.Directory b) e = absurd cc
same_op_is (ops.Set a) (ops.Counter b) e = absurd cc
same_op_is (ops.Set a) (ops.Register b) e = absurd cc
same_op_is (ops.Set a) (ops.Map b) e = absurd cc
same_op_is (ops.Set a) (ops.List b) e = absurd cc
same_op_is (ops.Set a) (ops.Tree b) e = absurd cc
same_op_is (ops.Set a) (ops.Set b) e = ap ops.Set (set_op_is a b e)

same_op_itself : (a : AnyOp) → same_op a a ≡ true
same_op_itself (ops.Directory a) = directory_op_itself a
same_op_itself (ops.Counter a) = counter_op_itself a
same_op_itself (ops.Register a) = register_op_itself a
same_op_itself (ops.Map a) = map_op_itself a
same_op_itself (ops.List a) = list_op_itself a
same_op_itself (ops.Tree a) = tree_op_itself a
same_op_itself (ops.Set a) = set_op_itself a

pub same_op_exact : (a b : AnyOp) → (same_op a b ≡ true) ↔ (a ≡ b)
same_op_exact a b = (same_op_is a b, λ e. subst (λ (c : AnyOp). same_op a c ≡ true) e (same_op_itself a))

-- Answers.

directory_ans_is : (a b : DirectoryAns) → same_directory_ans a b ≡ true → a ≡ b
directory_ans_is (directory_ans.Found a) (directory_ans.Found x) e = ap directory_ans.Found (((options oids) a x).0 e)
directory_ans_is (directory_ans.Found a) (directory_ans.Marks x) e = absurd cc
directory_ans_is (directory_ans.Found a) (directory_ans.Floor x) e = absurd cc
directory_ans_is (directory_ans.Marks a) (directory_ans.Found x) e = absurd cc
directory_ans_is (directory_ans.Marks a) (directory_ans.Marks x) e = ap directory_ans.Marks (((pointwise_decides marks) a x).0 e)
directory_ans_is (directory_ans.Marks a) (directory_ans.Floor x) e = absurd cc
directory_ans_is (directory_ans.Floor a) (directory_ans.Found x) e = absurd cc
directory_ans_is (directory_ans.Floor a) (directory_ans.Marks x) e = absurd cc
directory_ans_is (directory_ans.Floor a) (directory_ans.Floor x) e = ap directory_ans.Floor ((numbers a x).0 e)

directory_ans_itself : (a : DirectoryAns) → same_directory_ans a a ≡ true
directory_ans_itself (directory_ans.Found a) = itself (same_option oid_eq) (options oids) a
directory_ans_itself (directory_ans.Marks a) = itself (pointwise same_mark) (pointwise_decides marks) a
directory_ans_itself (directory_ans.Floor a) = itself nat_eq numbers a

counter_ans_is : (a b : CounterAns) → same_counter_ans a b ≡ true → a ≡ b
counter_ans_is (counter_ans.Number a) (counter_ans.Number x) e = ap counter_ans.Number ((signed_numbers a x).0 e)

counter_ans_itself : (a : CounterAns) → same_counter_ans a a ≡ true
counter_ans_itself (counter_ans.Number a) = itself int_eq signed_numbers a

register_ans_is : (a b : RegisterAns) → same_register_ans a b ≡ true → a ≡ b
register_ans_is (register_ans.Held a) (register_ans.Held x) e = ap register_ans.Held (((options texts) a x).0 e)

register_ans_itself : (a : RegisterAns) → same_register_ans a a ≡ true
register_ans_itself (register_ans.Held a) = itself (same_option bytes_eq) (options texts) a

map_ans_is : (a b : MapAns) → same_map_ans a b ≡ true → a ≡ b
map_ans_is (map_ans.Value a) (map_ans.Value x) e = ap map_ans.Value (((options texts) a x).0 e)
map_ans_is (map_ans.Value a) (map_ans.Number x) e = absurd cc
map_ans_is (map_ans.Value a) (map_ans.Keys x) e = absurd cc
map_ans_is (map_ans.Number a) (map_ans.Value x) e = absurd cc
map_ans_is (map_ans.Number a) (map_ans.Number x) e = ap map_ans.Number ((numbers a x).0 e)
map_ans_is (map_ans.Number a) (map_ans.Keys x) e = absurd cc
map_ans_is (map_ans.Keys a) (map_ans.Value x) e = absurd cc
map_ans_is (map_ans.Keys a) (map_ans.Number x) e = absurd cc
map_ans_is (map_ans.Keys a) (map_ans.Keys x) e = ap map_ans.Keys (((pointwise_decides texts) a x).0 e)

map_ans_itself : (a : MapAns) → same_map_ans a a ≡ true
map_ans_itself (map_ans.Value a) = itself (same_option bytes_eq) (options texts) a
map_ans_itself (map_ans.Number a) = itself nat_eq numbers a
map_ans_itself (map_ans.Keys a) = itself (pointwise bytes_eq) (pointwise_decides texts) a

list_ans_is : (a b : TextListAns) → same_list_ans a b ≡ true → a ≡ b
list_ans_is (list_ans.Item a) (list_ans.Item x) e = ap list_ans.Item (((options texts) a x).0 e)
list_ans_is (list_ans.Item a) (list_ans.Number x) e = absurd cc
list_ans_is (list_ans.Item a) (list_ans.Items x) e = absurd cc
list_ans_is (list_ans.Number a) (list_ans.Item x) e = absurd cc
list_ans_is (list_ans.Number a) (list_ans.Number x) e = ap list_ans.Number ((numbers a x).0 e)
list_ans_is (list_ans.Number a) (list_ans.Items x) e = absurd cc
list_ans_is (list_ans.Items a) (list_ans.Item x) e = absurd cc
list_ans_is (list_ans.Items a) (list_ans.Number x) e = absurd cc
list_ans_is (list_ans.Items a) (list_ans.Items x) e = ap list_ans.Items (((pointwise_decides texts) a x).0 e)

list_ans_itself : (a : TextListAns) → same_list_ans a a ≡ true
list_ans_itself (list_ans.Item a) = itself (same_option bytes_eq) (options texts) a
list_ans_itself (list_ans.Number a) = itself nat_eq numbers a
list_ans_itself (list_ans.Items a) = itself (pointwise bytes_eq) (pointwise_decides texts) a

tree_ans_is : (a b : TreeAns) → same_tree_ans a b ≡ true → a ≡ b
tree_ans_is (tree_ans.Data a) (tree_ans.Data x) e = ap tree_ans.Data (((options texts) a x).0 e)
tree_ans_is (tree_ans.Data a) (tree_ans.Has x) e = absurd cc
tree_ans_is (tree_ans.Data a) (tree_ans.Children x) e = absurd cc
tree_ans_is (tree_ans.Has a) (tree_ans.Data x) e = absurd cc
tree_ans_is (tree_ans.Has a) (tree_ans.Has x) e = ap tree_ans.Has ((flags a x).0 e)
tree_ans_is (tree_ans.Has a) (tree_ans.Children x) e = absurd cc
tree_ans_is (tree_ans.Children a) (tree_ans.Data x) e = absurd cc
tree_ans_is (tree_ans.Children a) (tree_ans.Has x) e = absurd cc
tree_ans_is (tree_ans.Children a) (tree_ans.Children x) e = ap tree_ans.Children (((pointwise_decides texts) a x).0 e)

tree_ans_itself : (a : TreeAns) → same_tree_ans a a ≡ true
tree_ans_itself (tree_ans.Data a) = itself (same_option bytes_eq) (options texts) a
tree_ans_itself (tree_ans.Has a) = itself same_flag flags a
tree_ans_itself (tree_ans.Children a) = itself (pointwise bytes_eq) (pointwise_decides texts) a

set_ans_is : (a b : SetAns) → same_set_ans a b ≡ true → a ≡ b
set_ans_is (set_ans.Member a) (set_ans.Member x) e = ap set_ans.Member ((flags a x).0 e)
set_ans_is (set_ans.Member a) (set_ans.Count x) e = absurd cc
set_ans_is (set_ans.Member a) (set_ans.Numbers x) e = absurd cc
set_ans_is (set_ans.Count a) (set_ans.Member x) e = absurd cc
set_ans_is (set_ans.Count a) (set_ans.Count x) e = ap set_ans.Count ((numbers a x).0 e)
set_ans_is (set_ans.Count a) (set_ans.Numbers x) e = absurd cc
set_ans_is (set_ans.Numbers a) (set_ans.Member x) e = absurd cc
set_ans_is (set_ans.Numbers a) (set_ans.Count x) e = absurd cc
set_ans_is (set_ans.Numbers a) (set_ans.Numbers x) e = ap set_ans.Numbers (((pointwise_decides numbers) a x).0 e)

set_ans_itself : (a : SetAns) → same_set_ans a a ≡ true
set_ans_itself (set_ans.Member a) = itself same_flag flags a
set_ans_itself (set_ans.Count a) = itself nat_eq numbers a
set_ans_itself (set_ans.Numbers a) = itself (pointwise nat_eq) (pointwise_decides numbers) a

same_answer_is : (a b : AnyAns) → same_answer a b ≡ true → a ≡ b
same_answer_is (answers.Directory a) (answers.Directory b) e = ap answers.Directory (directory_ans_is a b e)
same_answer_is (answers.Directory a) (answers.Counter b) e = absurd cc
same_answer_is (answers.Directory a) (answers.Register b) e = absurd cc
same_answer_is (answers.Directory a) (answers.Map b) e = absurd cc
same_answer_is (answers.Directory a) (answers.List b) e = absurd cc
same_answer_is (answers.Directory a) (answers.Tree b) e = absurd cc
same_answer_is (answers.Directory a) (answers.Set b) e = absurd cc
same_answer_is (answers.Directory a) answers.None e = absurd cc
same_answer_is (answers.Counter a) (answers.Directory b) e = absurd cc
same_answer_is (answers.Counter a) (answers.Counter b) e = ap answers.Counter (counter_ans_is a b e)
same_answer_is (answers.Counter a) (answers.Register b) e = absurd cc
same_answer_is (answers.Counter a) (answers.Map b) e = absurd cc
same_answer_is (answers.Counter a) (answers.List b) e = absurd cc
same_answer_is (answers.Counter a) (answers.Tree b) e = absurd cc
same_answer_is (answers.Counter a) (answers.Set b) e = absurd cc
same_answer_is (answers.Counter a) answers.None e = absurd cc
same_answer_is (answers.Register a) (answers.Directory b) e = absurd cc
same_answer_is (answers.Register a) (answers.Counter b) e = absurd cc
same_answer_is (answers.Register a) (answers.Register b) e = ap answers.Register (register_ans_is a b e)
same_answer_is (answers.Register a) (answers.Map b) e = absurd cc
same_answer_is (answers.Register a) (answers.List b) e = absurd cc
same_answer_is (answers.Register a) (answers.Tree b) e = absurd cc
same_answer_is (answers.Register a) (answers.Set b) e = absurd cc
same_answer_is (answers.Register a) answers.None e = absurd cc
same_answer_is (answers.Map a) (answers.Directory b) e = absurd cc
same_answer_is (answers.Map a) (answers.Counter b) e = absurd cc
same_answer_is (answers.Map a) (answers.Register b) e = absurd cc
same_answer_is (answers.Map a) (answers.Map b) e = ap answers.Map (map_ans_is a b e)
same_answer_is (answers.Map a) (answers.List b) e = absurd cc
same_answer_is (answers.Map a) (answers.Tree b) e = absurd cc
same_answer_is (answers.Map a) (answers.Set b) e = absurd cc
same_answer_is (answers.Map a) answers.None e = absurd cc
same_answer_is (answers.List a) (answers.Directory b) e = absurd cc
same_answer_is (answers.List a) (answers.Counter b) e = absurd cc
same_answer_is (answers.List a) (answers.Register b) e = absurd cc
same_answer_is (answers.List a) (answers.Map b) e = absurd cc
same_answer_is (answers.List a) (answers.List b) e = ap answers.List (list_ans_is a b e)
same_answer_is (answers.List a) (answers.Tree b) e = absurd cc
same_answer_is (answers.List a) (answers.Set b) e = absurd cc
same_answer_is (answers.List a) answers.None e = absurd cc
same_answer_is (answers.Tree a) (answers.Directory b) e = absurd cc
same_answer_is (answers.Tree a) (answers.Counter b) e = absurd cc
same_answer_is (answers.Tree a) (answers.Register b) e = absurd cc
same_answer_is (answers.Tree a) (answers.Map b) e = absurd cc
same_answer_is (answers.Tree a) (answers.List b) e = absurd cc
same_answer_is (answers.Tree a) (answers.Tree b) e = ap answers.Tree (tree_ans_is a b e)
same_answer_is (answers.Tree a) (answers.Set b) e = absurd cc
same_answer_is (answers.Tree a) answers.None e = absurd cc
same_answer_is (answers.Set a) (answers.Directory b) e = absurd cc
same_answer_is (answers.Set a) (answers.Counter b) e = absurd cc
same_answer_is (answers.Set a) (answers.Register b) e = absurd cc
same_answer_is (answers.Set a) (answers.Map b) e = absurd cc
same_answer_is (answers.Set a) (answers.List b) e = absurd cc
same_answer_is (answers.Set a) (answers.Tree b) e = absurd cc
same_answer_is (answers.Set a) (answers.Set b) e = ap answers.Set (set_ans_is a b e)
same_answer_is (answers.Set a) answers.None e = absurd cc
same_answer_is answers.None (answers.Directory b) e = absurd cc
same_answer_is answers.None (answers.Counter b) e = absurd cc
same_answer_is answers.None (answers.Register b) e = absurd cc
same_answer_is answers.None (answers.Map b) e = absurd cc
same_answer_is answers.None (answers.List b) e = absurd cc
same_answer_is answers.None (answers.Tree b) e = absurd cc
same_answer_is answers.None (answers.Set b) e = absurd cc
same_answer_is answers.None answers.None e = refl

same_answer_itself : (a : AnyAns) → same_answer a a ≡ true
same_answer_itself (answers.Directory a) = directory_ans_itself a
same_answer_itself (answers.Counter a) = counter_ans_itself a
same_answer_itself (answers.Register a) = register_ans_itself a
same_answer_itself (answers.Map a) = map_ans_itself a
same_answer_itself (answers.List a) = list_ans_itself a
same_answer_itself (answers.Tree a) = tree_ans_itself a
same_answer_itself (answers.Set a) = set_ans_itself a
same_answer_itself answers.None = refl

pub same_answer_exact : (a b : AnyAns) → (same_answer a b ≡ true) ↔ (a ≡ b)
same_answer_exact a b = (same_answer_is a b, λ e. subst (λ (c : AnyAns). same_answer a c ≡ true) e (same_answer_itself a))
