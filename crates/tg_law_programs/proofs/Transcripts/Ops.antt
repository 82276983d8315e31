-- Ops that have a spelling are within the types of their words, and their objects have names.
use Rattle.std.proofs.Common.{◌≡◌, ℕ, Bool, true, false, List, length, Some, None, refl, sym, subst, ltb, arith}
use Rattle.std.specs.Prelude.{◌&&◌, ◌==◌, ◌^◌, nat_le, Ok, Err, if◌then◌else◌}
use Rattle.std.proofs.lemmas.Bool.{eqb-true}
use Rattle.std.proofs.lemmas.Bool.Decides.{nat_tests}
use Rattle.tg_base.specs.declared.ids.Oid.{Oid}
use Rattle.tg_codec.specs.Codec.{u32, u64}
use Rattle.tg_codec.specs.Reading.{Read}
use Rattle.tg_codec.specs.Streams.{any as any_number}
use Rattle.tg_codec.proofs.Laws.{and-left, and-right, both}
use Rattle.tg_kind.specs.Of.{read_by}
use Rattle.tg_kind.specs.Parts.{tag_of}
use Rattle.tg_kind.specs.Texts.{text_format}
use Rattle.tg_dir.specs.Directories as directories
use Rattle.tg_dir.specs.Spellings.{is_number}
use Rattle.tg_dir.specs.declared.directory.DirectoryOp.TheVariants as directory_ops
use Rattle.tg_cell.specs.Signed.{in_i64}
use Rattle.tg_cell.specs.declared.counter.CounterOp.TheVariants as counter_ops
use Rattle.tg_cell.specs.declared.register.RegisterOp.TheVariants as register_ops
use Rattle.tg_map.specs.Maps as maps
use Rattle.tg_map.specs.declared.map.MapOp.TheVariants as map_ops
use Rattle.tg_list.specs.TextLists as lists
use Rattle.tg_list.specs.declared.text_list.TextListOp.TheVariants as list_ops
use Rattle.tg_tree.specs.declared.tree.TreeOp.TheVariants as tree_ops
use Rattle.tg_set.specs.Sets as sets
use Rattle.tg_set.specs.declared.set.SetOp.TheVariants as set_ops
use Rattle.tg_any.specs.declared.any.AnyOp.{AnyOp}
use Rattle.tg_any.specs.declared.any.AnyOp.TheVariants as ops
use Rattle.tg_any.specs.Anys as any
use Rattle.tg_any.specs.AnyWords.{op_fits}
use Rattle.tg_any.specs.AllKinds.{all_kinds}
use Rattle.tg_any.specs.Names.{is_named}

named_number : (o : Oid) → is_number o ≡ true → is_named o ≡ true
named_number o e = grind (arith, nat_tests)

number_within : (n : ℕ) → (u64 any_number).fits n ≡ true → ltb n (2 ^ 64) ≡ true
number_within n e = grind (arith, nat_tests)

index_within : (n : ℕ) → (u32 any_number).fits n ≡ true → ltb n (2 ^ 32) ≡ true
index_within n e = grind (arith, nat_tests)

pub op_within : (op : AnyOp) → any.is_op op ≡ true → op_fits op ≡ true
unfolding any.is_op directories.op_format maps.op_format lists.op_format sets.op_format
op_within (ops.Directory (directory_ops.Name name o)) e = both (text_format.fits name) (is_named o) (and-left (text_format.fits name) (is_number o) e) (named_number o (and-right (text_format.fits name) (is_number o) e))
op_within (ops.Directory (directory_ops.Mark o mark)) e =
    both (is_named o) (ltb mark (2 ^ 64)) (named_number o (and-left (is_number o) ((u64 any_number).fits mark) e)) (number_within mark (and-right (is_number o) ((u64 any_number).fits mark) e))
op_within (ops.Counter (counter_ops.Add by)) e = and-left (in_i64 by) _ e
op_within (ops.Register (register_ops.Write text)) e = e
op_within (ops.Map (map_ops.Set key value)) e = e
op_within (ops.Map (map_ops.Unset key)) e = e
op_within (ops.List (list_ops.PushFront text)) e = e
op_within (ops.List (list_ops.PushBack text)) e = e
op_within (ops.List (list_ops.Insert at text)) e =
    both (ltb at (2 ^ 32)) (text_format.fits text) (index_within at (and-left ((u32 any_number).fits at) (text_format.fits text) e)) (and-right ((u32 any_number).fits at) (text_format.fits text) e)
op_within (ops.List (list_ops.Remove at)) e = index_within at e
op_within (ops.List list_ops.PopFront) e = refl
op_within (ops.List list_ops.PopBack) e = refl
op_within (ops.Tree (tree_ops.Create path text)) e = e
op_within (ops.Tree (tree_ops.Store path text)) e = e
op_within (ops.Tree (tree_ops.Delete path)) e = e
op_within (ops.Set (set_ops.Include n)) e = number_within n e
op_within (ops.Set (set_ops.Exclude n)) e = number_within n e

-- an object of a kind has a name
abbrev named_by : ℕ → ℕ → Bool
named_by tag n = if tag == 0 then n == 0 else nat_le tag 6

tagged : (tag n k : ℕ) → (tag == k) ≡ true → named_by k n ≡ true → named_by tag n ≡ true
tagged tag n k e f = subst (λ (t : ℕ). named_by t n ≡ true) (sym (eqb-true tag k e)) f

first_object : (o : Oid) → (o.0 == 0) ≡ true → is_named o ≡ true
first_object o e = subst (λ (n : ℕ). is_named (record { 0 = n }) ≡ true) (sym (eqb-true o.0 0 e)) refl

pub of_named : (o : Oid) (op : AnyOp) → any.is_of o op ≡ true → is_named o ≡ true
of_named o (ops.Directory op) e = first_object o e
of_named o (ops.Counter op) e = tagged (tag_of o) o.0 1 e refl
of_named o (ops.Register op) e = tagged (tag_of o) o.0 2 e refl
of_named o (ops.Map op) e = tagged (tag_of o) o.0 3 e refl
of_named o (ops.List op) e = tagged (tag_of o) o.0 4 e refl
of_named o (ops.Tree op) e = tagged (tag_of o) o.0 5 e refl
of_named o (ops.Set op) e = tagged (tag_of o) o.0 6 e refl

some_op : (a b : AnyOp) → Some a ≡ Some b → a ≡ b
some_op a b e = cc

-- what is read is of its object's kind
pub read_of : (o : Oid) (bytes : List ℕ) (op : AnyOp) → all_kinds.read o bytes ≡ Some op → any.is_of o op ≡ true
read_of o bytes op e = by (any.read bytes) e
  where
    chosen : (a b : Bool) (x : AnyOp) → any.is_of o x ≡ b → (if a && b then Some x else None) ≡ Some op → any.is_of o op ≡ true
    chosen true true x is f = subst (λ (y : AnyOp). any.is_of o y ≡ true) (some_op x op f) is
    chosen true false x is f = absurd cc
    chosen false b x is f = absurd cc

    by : (r : Read AnyOp) → read_by (any.is_of o) r ≡ Some op → any.is_of o op ≡ true
    by (Ok x) f = chosen (length x.1 == 0) (any.is_of o x.0) x.0 refl f
    by (Err n) f = absurd cc
