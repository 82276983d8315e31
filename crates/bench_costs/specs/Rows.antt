-- Rows of ops, and what objects are after them.
use Rattle.std.specs.Prelude.{ℕ, zero, suc, ◌*◌, ◌%◌, List, [], ◌∷◌, ◌++◌, None, ℤ, pos, codes, decimal}
use Rattle.tg_cell.specs.Counters as counters
use Rattle.tg_cell.specs.Registers as registers
use Rattle.tg_map.specs.Maps as maps
use Rattle.tg_list.specs.TextLists as lists
use Rattle.tg_tree.specs.Trees as trees
use Rattle.tg_tree.specs.Paths.{root}
use Rattle.tg_set.specs.Sets as sets
use Rattle.tg_cell.specs.declared.counter.CounterOp.{CounterOp}
use Rattle.tg_cell.specs.declared.counter.CounterOp.TheVariants.{Add}
use Rattle.tg_cell.specs.declared.register.RegisterOp.{RegisterOp}
use Rattle.tg_cell.specs.declared.register.RegisterOp.TheVariants.{Write}
use Rattle.tg_map.specs.declared.map.MapOp.{MapOp}
use Rattle.tg_map.specs.declared.map.MapOp.TheVariants.{Set}
use Rattle.tg_list.specs.declared.text_list.TextListOp.{TextListOp}
use Rattle.tg_list.specs.declared.text_list.TextListOp.TheVariants.{PushBack, PushFront, PopBack, PopFront}
use Rattle.tg_tree.specs.declared.tree.TreeOp.{TreeOp}
use Rattle.tg_tree.specs.declared.tree.TreeOp.TheVariants.{Create}
use Rattle.tg_set.specs.declared.set.SetOp.{SetOp}
use Rattle.tg_set.specs.declared.set.SetOp.TheVariants.{Include}

-- a state after so many ops
abbrev pub after_ops : {S O : Type 0} → (S → O → S) → (ℕ → O) → S → ℕ → S
after_ops applied op state zero = state
after_ops applied op state (suc n) = applied (after_ops applied op state n) (op n)

-- the number below a count that stands at a place of a scrambled order
abbrev pub scrambled : ℕ → ℕ → ℕ
scrambled count place = place * 2654435761 % count

abbrev pub key : ℕ → List ℕ
key number = codes "k" ++ decimal number

abbrev pub value : ℕ → List ℕ
value number = codes "v" ++ decimal number

abbrev pub path : ℕ → List ℕ
path number = codes "/p" ++ decimal number

-- The rows: the op at a place, of so many.

abbrev pub adding : ℕ → ℕ → CounterOp
adding count place = Add (pos 1)

abbrev pub writing : ℕ → ℕ → RegisterOp
writing count place = Write (value place)

abbrev pub setting : ℕ → ℕ → MapOp
setting count place = Set (key (scrambled count place)) (value (scrambled count place))

abbrev pub including : ℕ → ℕ → SetOp
including count place = Include (scrambled count place)

abbrev pub creating : ℕ → ℕ → TreeOp
creating count place = Create (path (scrambled count place)) (value (scrambled count place))

abbrev pub pushing_back : ℕ → ℕ → TextListOp
pushing_back count place = PushBack (value place)

abbrev pub pushing_front : ℕ → ℕ → TextListOp
pushing_front count place = PushFront (value place)

abbrev pub popping_back : ℕ → ℕ → TextListOp
popping_back count place = PopBack

abbrev pub popping_front : ℕ → ℕ → TextListOp
popping_front count place = PopFront

-- New objects after so many ops.

abbrev pub counter_after : ℕ → ℤ
counter_after count = after_ops counters.applied (adding count) (pos 0) count

abbrev pub register_after : ℕ → registers.Contents
register_after count = after_ops registers.applied (writing count) None count

abbrev pub map_after : ℕ → maps.Pairs
map_after count = after_ops maps.applied (setting count) [] count

abbrev pub set_after : ℕ → sets.Numbers
set_after count = after_ops sets.applied (including count) [] count

abbrev pub tree_after : ℕ → trees.Nodes
tree_after count = after_ops trees.applied (creating count) ((root, None) ∷ []) count

abbrev pub list_after : (ℕ → ℕ → TextListOp) → lists.Texts → ℕ → lists.Texts
list_after row texts count = after_ops lists.applied (row count) texts count
