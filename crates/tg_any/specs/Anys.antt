-- All kinds of objects as one. What is said of a kind holds of its objects, states, ops and asks.
use Rattle.std.specs.Prelude.{ℕ, ◌/◌, Bool, false, ◌==◌, List, get_or, Result, Ok, Err, if◌then◌else◌}
use Rattle.tg_base.specs.declared.ids.Oid.{Oid}
use Rattle.tg_base.specs.declared.marks.Part.{Part}
use Rattle.tg_codec.specs.Reading.{Read}
use Rattle.tg_kind.specs.Parts.{tag_of}
use Rattle.tg_dir.specs.Directories as directories
use Rattle.tg_cell.specs.Counters as counters
use Rattle.tg_cell.specs.Registers as registers
use Rattle.tg_map.specs.Maps as maps
use Rattle.tg_list.specs.TextLists as lists
use Rattle.tg_tree.specs.Trees as trees
use Rattle.tg_set.specs.Sets as sets
use Rattle.tg_any.specs.declared.any.AnyKind.{AnyKind}
use Rattle.tg_any.specs.declared.any.AnyKind.TheVariants as states
use Rattle.tg_any.specs.declared.any.AnyOp.{AnyOp}
use Rattle.tg_any.specs.declared.any.AnyOp.TheVariants as ops
use Rattle.tg_any.specs.declared.any.AnyAsk.{AnyAsk}
use Rattle.tg_any.specs.declared.any.AnyAsk.TheVariants as asks
use Rattle.tg_any.specs.declared.any.AnyAns.{AnyAns}
use Rattle.tg_any.specs.declared.any.AnyAns.TheVariants as answers

-- what stands for the kind that has a tag
abbrev pub by_tag : {A : Type 0} → ℕ → A → A → A → A → A → A → A → A
by_tag t k0 k1 k2 k3 k4 k5 k6 = if t == 0 then k0 else (if t == 1 then k1 else (if t == 2 then k2 else (if t == 3 then k3 else (if t == 4 then k4 else (if t == 5 then k5 else k6)))))

abbrev pub is_object : Oid → Bool
is_object o = by_tag (tag_of o) (directories.is_object o) (counters.is_object o) (registers.is_object o) (maps.is_object o) (lists.is_object o) (trees.is_object o) (sets.is_object o)

abbrev pub is_state : Oid → AnyKind → Bool
is_state o (states.Directory s) = directories.is_state o s
is_state o (states.Counter s) = counters.is_state o s
is_state o (states.Register s) = registers.is_state o s
is_state o (states.Map s) = maps.is_state o s
is_state o (states.List s) = lists.is_state o s
is_state o (states.Tree s) = trees.is_state o s
is_state o (states.Set s) = sets.is_state o s

unfoldable pub is_op : AnyOp → Bool
is_op (ops.Directory op) = directories.op_format.fits op
is_op (ops.Counter op) = counters.op_format.fits op
is_op (ops.Register op) = registers.op_format.fits op
is_op (ops.Map op) = maps.op_format.fits op
is_op (ops.List op) = lists.op_format.fits op
is_op (ops.Tree op) = trees.op_format.fits op
is_op (ops.Set op) = sets.op_format.fits op

abbrev pub is_of : Oid → AnyOp → Bool
is_of o (ops.Directory op) = directories.is_of o op
is_of o (ops.Counter op) = counters.is_of o op
is_of o (ops.Register op) = registers.is_of o op
is_of o (ops.Map op) = maps.is_of o op
is_of o (ops.List op) = lists.is_of o op
is_of o (ops.Tree op) = trees.is_of o op
is_of o (ops.Set op) = sets.is_of o op

unfoldable pub first : Oid → List Oid → AnyKind
first o os = by_tag (tag_of o) (states.Directory (directories.first o os)) (states.Counter (counters.first o os)) (states.Register (registers.first o os)) (states.Map (maps.first o os)) (states.List (lists.first o os)) (states.Tree (trees.first o os)) (states.Set (sets.first o os))

-- an op of another kind changes nothing
unfoldable pub applied : AnyKind → AnyOp → AnyKind
applied (states.Directory s) (ops.Directory op) = states.Directory (directories.applied s op)
applied (states.Counter s) (ops.Counter op) = states.Counter (counters.applied s op)
applied (states.Register s) (ops.Register op) = states.Register (registers.applied s op)
applied (states.Map s) (ops.Map op) = states.Map (maps.applied s op)
applied (states.List s) (ops.List op) = states.List (lists.applied s op)
applied (states.Tree s) (ops.Tree op) = states.Tree (trees.applied s op)
applied (states.Set s) (ops.Set op) = states.Set (sets.applied s op)
applied s op = s

-- an ask of another kind finds none
unfoldable pub answered : AnyKind → AnyAsk → AnyAns
answered (states.Directory s) (asks.Directory ask) = answers.Directory (directories.answered s ask)
answered (states.Counter s) (asks.Counter ask) = answers.Counter (counters.answered s ask)
answered (states.Register s) (asks.Register ask) = answers.Register (registers.answered s ask)
answered (states.Map s) (asks.Map ask) = answers.Map (maps.answered s ask)
answered (states.List s) (asks.List ask) = answers.List (lists.answered s ask)
answered (states.Tree s) (asks.Tree ask) = answers.Tree (trees.answered s ask)
answered (states.Set s) (asks.Set ask) = answers.Set (sets.answered s ask)
answered s ask = answers.None

unfoldable pub touched : AnyOp → Part
touched (ops.Directory op) = directories.touched op
touched (ops.Counter op) = counters.touched op
touched (ops.Register op) = registers.touched op
touched (ops.Map op) = maps.touched op
touched (ops.List op) = lists.touched op
touched (ops.Tree op) = trees.touched op
touched (ops.Set op) = sets.touched op

unfoldable pub looked : AnyAsk → Part
looked (asks.Directory ask) = directories.looked ask
looked (asks.Counter ask) = counters.looked ask
looked (asks.Register ask) = registers.looked ask
looked (asks.Map ask) = maps.looked ask
looked (asks.List ask) = lists.looked ask
looked (asks.Tree ask) = trees.looked ask
looked (asks.Set ask) = sets.looked ask

unfoldable pub saved : AnyKind → List ℕ
saved (states.Directory s) = directories.saved s
saved (states.Counter s) = counters.saved s
saved (states.Register s) = registers.saved s
saved (states.Map s) = maps.saved s
saved (states.List s) = lists.saved s
saved (states.Tree s) = trees.saved s
saved (states.Set s) = sets.saved s

-- a state of one kind as one of all
abbrev pub made : {A B : Type 0} → (A → B) → Result A ℕ → Result B ℕ
made make (Ok x) = Ok (make x)
made make (Err at) = Err at

unfoldable pub loaded : Oid → List ℕ → Result AnyKind ℕ
loaded o bytes = by_tag (tag_of o) (made states.Directory (directories.loaded o bytes)) (made states.Counter (counters.loaded o bytes)) (made states.Register (registers.loaded o bytes)) (made states.Map (maps.loaded o bytes)) (made states.List (lists.loaded o bytes)) (made states.Tree (trees.loaded o bytes)) (made states.Set (sets.loaded o bytes))

unfoldable pub spelled : AnyOp → List ℕ
spelled (ops.Directory op) = directories.op_format.spell op
spelled (ops.Counter op) = counters.op_format.spell op
spelled (ops.Register op) = registers.op_format.spell op
spelled (ops.Map op) = maps.op_format.spell op
spelled (ops.List op) = lists.op_format.spell op
spelled (ops.Tree op) = trees.op_format.spell op
spelled (ops.Set op) = sets.op_format.spell op

-- the codes of a kind's ops begin with its tag, which is their upper half
abbrev pub code_tag : List ℕ → ℕ
code_tag bytes = get_or bytes 0 0 / 16

-- an op of one kind as one of all
abbrev pub made_op : {A B : Type 0} → (A → B) → Read A → Read B
made_op make (Ok x) = Ok (make x.0, x.1)
made_op make (Err left) = Err left

unfoldable pub read : List ℕ → Read AnyOp
read bytes = by_tag (code_tag bytes) (made_op ops.Directory (directories.op_format.read bytes)) (made_op ops.Counter (counters.op_format.read bytes)) (made_op ops.Register (registers.op_format.read bytes)) (made_op ops.Map (maps.op_format.read bytes)) (made_op ops.List (lists.op_format.read bytes)) (made_op ops.Tree (trees.op_format.read bytes)) (made_op ops.Set (sets.op_format.read bytes))

-- the op is of the object's kind, and a user may put it: of the directory's ops `mark` may not be put
abbrev pub allowed : Oid → AnyOp → Bool
allowed o (ops.Directory op) = directories.allowed o op
allowed o op = is_of o op

-- the ask is of the object's kind
abbrev pub allowed_ask : Oid → AnyAsk → Bool
allowed_ask o (asks.Directory ask) = directories.allowed_ask o ask
allowed_ask o (asks.Counter ask) = counters.is_object o
allowed_ask o (asks.Register ask) = registers.is_object o
allowed_ask o (asks.Map ask) = maps.is_object o
allowed_ask o (asks.List ask) = lists.is_object o
allowed_ask o (asks.Tree ask) = trees.is_object o
allowed_ask o (asks.Set ask) = sets.is_object o

abbrev pub lists_object : AnyKind → Oid → Bool
lists_object (states.Directory s) o = directories.lists s o
lists_object s o = false

abbrev pub floor_of : AnyKind → ℕ
floor_of (states.Directory s) = directories.floor_of s
floor_of s = 0

abbrev pub marking : Oid → ℕ → AnyOp
marking o m = ops.Directory (directories.marking o m)
