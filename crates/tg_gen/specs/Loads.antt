-- The made load: the lines of a script that a start and a count give.
use Rattle.std.specs.Prelude.{ℕ, zero, suc, ◌+◌, ◌/◌, ◌%◌, pos, Bool, true, false, ◌==◌, List, [], ◌∷◌, ◌++◌, codes, None, if◌then◌else◌}
use Rattle.std.specs.List.{flat_map}
use Rattle.tg_base.specs.Clusters.{Header}
use Rattle.tg_base.specs.declared.ids.Oid.{Oid}
use Rattle.tg_cell.specs.declared.counter.CounterOp.TheVariants as counter_op
use Rattle.tg_cell.specs.declared.counter.CounterAsk.TheVariants as counter_ask
use Rattle.tg_cell.specs.declared.register.RegisterOp.TheVariants as register_op
use Rattle.tg_cell.specs.declared.register.RegisterAsk.TheVariants as register_ask
use Rattle.tg_map.specs.declared.map.MapOp.TheVariants as map_op
use Rattle.tg_map.specs.declared.map.MapAsk.TheVariants as map_ask
use Rattle.tg_list.specs.declared.text_list.TextListOp.TheVariants as list_op
use Rattle.tg_list.specs.declared.text_list.TextListAsk.TheVariants as list_ask
use Rattle.tg_tree.specs.declared.tree.TreeOp.TheVariants as tree_op
use Rattle.tg_tree.specs.declared.tree.TreeAsk.TheVariants as tree_ask
use Rattle.tg_set.specs.declared.set.SetOp.TheVariants as set_op
use Rattle.tg_set.specs.declared.set.SetAsk.TheVariants as set_ask
use Rattle.tg_model.specs.declared.command.Command.{Command}
use Rattle.tg_model.specs.declared.command.Command.TheVariants as cmd
use Rattle.tg_model.specs.declared.command.Event.TheVariants as event
use Rattle.tg_any.specs.declared.any.AnyOp.{AnyOp}
use Rattle.tg_any.specs.declared.any.AnyOp.TheVariants as ops
use Rattle.tg_any.specs.declared.any.AnyAsk.{AnyAsk}
use Rattle.tg_any.specs.declared.any.AnyAsk.TheVariants as asks
use Rattle.tg_any.specs.Words.{joined}
use Rattle.tg_script.specs.declared.line.Line.{Line}
use Rattle.tg_script.specs.declared.line.Line.TheVariants as line
use Rattle.tg_script.specs.Headers.{header_lines, lines_text}
use Rattle.tg_script.specs.Lines.{line_words}
use Rattle.tg_gen.specs.declared.round.Form.{Form}
use Rattle.tg_gen.specs.declared.round.Form.TheVariants as form
use Rattle.tg_gen.specs.declared.round.Target.{Target}
use Rattle.tg_gen.specs.declared.round.Target.TheVariants as target
use Rattle.tg_gen.specs.declared.round.Round.{Round}
use Rattle.tg_gen.specs.Draws.{round_of}

-- Objects, and what is done with them.

-- the first object of its kind
abbrev pub oid_of : Target → Oid
oid_of target.Counter = record { 0 = 0x1000000 }
oid_of target.Register = record { 0 = 0x2000000 }
oid_of target.Map = record { 0 = 0x3000000 }
oid_of target.List = record { 0 = 0x4000000 }
oid_of target.Tree = record { 0 = 0x5000000 }
oid_of target.Set = record { 0 = 0x6000000 }

-- the next one in the header's order, and after the last the first
abbrev pub after : Target → Target
after target.Counter = target.Register
after target.Register = target.Map
after target.Map = target.List
after target.List = target.Tree
after target.Tree = target.Set
after target.Set = target.Counter

-- `t3`, `k3` and `/t3`, where 48 is the digit 0
abbrev pub text_of : ℕ → List ℕ
text_of v = 116 ∷ (48 + v) ∷ []

abbrev pub key_of : ℕ → List ℕ
key_of v = 107 ∷ (48 + v) ∷ []

abbrev pub path_of : ℕ → List ℕ
path_of v = 47 ∷ 116 ∷ (48 + v) ∷ []

abbrev pub op_of : Target → ℕ → AnyOp
op_of target.Counter v = ops.Counter (counter_op.Add (pos v))
op_of target.Register v = ops.Register (register_op.Write (text_of v))
op_of target.Map v = ops.Map (map_op.Set (key_of v) (text_of v))
op_of target.List v = ops.List (list_op.PushBack (text_of v))
op_of target.Tree v = ops.Tree (tree_op.Create (path_of v) (text_of v))
op_of target.Set v = ops.Set (set_op.Include v)

abbrev pub ask_of : Target → ℕ → AnyAsk
ask_of target.Counter v = asks.Counter counter_ask.Value
ask_of target.Register v = asks.Register register_ask.Text
ask_of target.Map v = asks.Map (map_ask.Get (key_of v))
ask_of target.List v = asks.List list_ask.Len
ask_of target.Tree v = asks.Tree (tree_ask.Children (codes "/"))
ask_of target.Set v = asks.Set (set_ask.Member v)

-- Lines.

abbrev pub given : ℕ → Command AnyOp AnyAsk → Line
given client c = line.Event (event.Command client c)

abbrev pub host : ℕ → Target → Line
host client t = given client (cmd.Host (oid_of t))

abbrev pub begin : ℕ → Line
begin client = given client cmd.Begin

abbrev pub put : ℕ → Target → ℕ → Line
put client t v = given client (cmd.Put (oid_of t) (op_of t v))

abbrev pub ask : ℕ → Target → ℕ → Line
ask client t v = given client (cmd.Ask (oid_of t) (ask_of t v))

abbrev pub end : ℕ → Line
end client = given client cmd.End

abbrev pub update : ℕ → Target → ℕ → Line
update client t v = line.Update client (oid_of t) (op_of t v)

-- the client that hosts the counter alone, and writes where others have read
abbrev pub other : ℕ
other = 3

-- where v is even the other client changes what was asked
abbrev pub rival_lines : Target → ℕ → List Line
rival_lines t v = if v % 2 == 0 then update other t v ∷ [] else []

-- a round of a client
abbrev pub form_lines : ℕ → Form → Target → ℕ → List Line
form_lines client form.Change t v =
    begin client ∷ ask client t v ∷ line.Settle ∷ [] ++ rival_lines t v ++ put client (after t) v ∷ end client ∷ line.Settle ∷ []
form_lines client form.Glance t v = begin other ∷ ask other target.Counter v ∷ line.Settle ∷ end other ∷ []
form_lines client form.Look t v = begin client ∷ ask client t v ∷ line.Settle ∷ end client ∷ []
form_lines client form.Update t v = update client t v ∷ line.Settle ∷ []

abbrev pub round_lines : ℕ → Round → List Line
round_lines client r = form_lines client r.form r.target r.value

-- the next layout has the second sequencer, and the first unit alone
abbrev pub reconf : Line
reconf = given 0 (cmd.Reconf (record { seq = 1; drop = 1 ∷ []; opened = []; join = None }))

-- what stands before round i of so many
abbrev pub middle_lines : ℕ → ℕ → List Line
middle_lines count i = if i == count / 2 then reconf ∷ line.Settle ∷ [] else []

-- round i with what stands before it; three clients take turns
abbrev pub turn_lines : ℕ → ℕ → Round → List Line
turn_lines count i r = middle_lines count i ++ round_lines (i % 3) r

-- the first n rounds of so many
unfoldable pub rounds : ℕ → ℕ → ℕ → List Line
rounds start count zero = []
rounds start count (suc i) = rounds start count i ++ turn_lines count i (round_of start i)

-- a client hosts each object
abbrev pub hosts : ℕ → List Line
hosts client =
    host client target.Counter ∷ host client target.Register ∷ host client target.Map ∷ host client target.List ∷ host client target.Tree
    ∷ host client target.Set ∷ []

abbrev pub hosting : List Line
hosting = hosts 0 ++ (hosts 1 ++ (hosts 2 ++ host other target.Counter ∷ []))

-- The script.

-- the header's objects
abbrev pub oids : List Oid
oids = oid_of target.Counter ∷ oid_of target.Register ∷ oid_of target.Map ∷ oid_of target.List ∷ oid_of target.Tree ∷ oid_of target.Set ∷ []

unfoldable pub header : Header
header = record {
  units = 2;
  layouts = 1;
  seqs = 2;
  clients = 4;
  limit = 100000;
  chains = (0 ∷ 1 ∷ []) ∷ [];
  objects = oids;
}

-- the lines below the header
abbrev pub load_lines : ℕ → ℕ → List Line
load_lines start count = hosting ++ rounds start count count

-- a line with its line feed
unfoldable pub line_text : Line → List ℕ
line_text l = joined (line_words l) ++ 10 ∷ []

unfoldable pub text : List Line → List ℕ
text ls = flat_map line_text ls

unfoldable pub header_text : List ℕ
header_text = lines_text (header_lines header)

abbrev pub load_text : ℕ → ℕ → List ℕ
load_text start count = header_text ++ text (load_lines start count)
