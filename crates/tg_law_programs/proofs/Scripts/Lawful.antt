-- A line that keeps the grammar is of lawful events.
use Rattle.std.proofs.Common.{◌≡◌, ℕ, ◌<◌, ◌≤◌, ◌^◌, Option, Bool, true, false, List, [], ◌∷◌, length, Some, None, refl, sym, ap, ◌∙◌, subst, arith, ltb, leb}
use Rattle.std.specs.Prelude.{◌&&◌, nat_lt, nat_le, Ok, if◌then◌else◌}
use Rattle.std.specs.List.{list_all}
use Rattle.std.proofs.lemmas.List.{append-nil}
use Rattle.std.proofs.lemmas.Bool.Decides.{nat_tests}
use Rattle.tg_base.specs.declared.change.Join.{Join}
use Rattle.tg_base.specs.declared.ids.NodeId.{NodeId}
use Rattle.tg_base.specs.declared.ids.Oid.{Oid}
use Rattle.tg_base.specs.declared.ids.Role.{Role}
use Rattle.tg_base.specs.declared.ids.Role.TheVariants as role
use Rattle.tg_base.specs.Changes.{Changed, is_opening, is_joining, IsChange}
use Rattle.tg_base.specs.Clusters.{Header, IsHeader, are_chains}
use Rattle.tg_base.specs.Parts.{is_part}
use Rattle.tg_base.specs.Units.{is_unit, is_distinct, is_within}
use Rattle.tg_codec.specs.Codec.{u32, u64}
use Rattle.tg_codec.specs.Streams.{any as any_number}
use Rattle.tg_codec.proofs.Laws.{and-left, and-right, both}
use Rattle.tg_kind.specs.Of.{read_by}
use Rattle.tg_kind.specs.Texts.{text_is_part}
use Rattle.tg_entry.specs.Records.{is_object}
use Rattle.tg_model.specs.declared.command.Command.{Command}
use Rattle.tg_model.specs.declared.command.Command.TheVariants as cmd
use Rattle.tg_model.specs.declared.command.Event.TheVariants as event
use Rattle.tg_model.specs.Kinds.{EventOf}
use Rattle.tg_protocol.specs.Words.{directory, client_id}
use Rattle.tg_protocol.specs.Runs.{IsSpelled, LawfulCommand, LawfulEvent, IsDeclared, declared_of}
use Rattle.tg_dir.specs.Directories as directories
use Rattle.tg_dir.specs.Spellings.{is_number}
use Rattle.tg_dir.specs.declared.directory.DirectoryOp.TheVariants as directory_ops
use Rattle.tg_dir.specs.declared.directory.DirectoryAsk.TheVariants as directory_asks
use Rattle.tg_cell.specs.Signed.{spells_i64}
use Rattle.tg_cell.specs.declared.counter.CounterOp.TheVariants as counter_ops
use Rattle.tg_cell.specs.declared.register.RegisterOp.TheVariants as register_ops
use Rattle.tg_map.specs.Maps as maps
use Rattle.tg_map.specs.declared.map.MapOp.TheVariants as map_ops
use Rattle.tg_map.specs.declared.map.MapAsk.TheVariants as map_asks
use Rattle.tg_list.specs.TextLists as lists
use Rattle.tg_list.specs.declared.text_list.TextListOp.TheVariants as list_ops
use Rattle.tg_tree.specs.PathLaws.{path_is_part}
use Rattle.tg_tree.specs.declared.tree.TreeOp.TheVariants as tree_ops
use Rattle.tg_tree.specs.declared.tree.TreeAsk.TheVariants as tree_asks
use Rattle.tg_set.specs.Sets as sets
use Rattle.tg_set.specs.declared.set.SetOp.TheVariants as set_ops
use Rattle.tg_set.specs.declared.set.SetAsk.TheVariants as set_asks
use Rattle.tg_any.specs.declared.any.AnyOp.{AnyOp}
use Rattle.tg_any.specs.declared.any.AnyOp.TheVariants as ops
use Rattle.tg_any.specs.declared.any.AnyAsk.{AnyAsk}
use Rattle.tg_any.specs.declared.any.AnyAsk.TheVariants as asks
use Rattle.tg_any.specs.Anys as any
use Rattle.tg_any.specs.AnyLaws.{reads_spelled, spelled_some, allowed_is, marking_is, marking_short}
use Rattle.tg_any.specs.AnyWords.{op_fits, ask_fits}
use Rattle.tg_any.specs.AllKinds.{all_kinds}
use Rattle.tg_any.specs.Names.{is_named}
use Rattle.tg_script.specs.Nodes.{numbered, count_of, is_declared, distinct_units, chains}
use Rattle.tg_script.specs.Commands.{is_put, part_fits, join_fits, change_fits, command_fits}
use Rattle.tg_script.specs.Lines.{line_fits}
use Rattle.tg_script.specs.declared.line.Line.TheVariants as line
use Rattle.tg_script.proofs.Bytes.{all_weaker}
use Rattle.tg_script.proofs.Changes.{few_units, change_lawful}
use Rattle.tg_script.proofs.Clusters.{chains_are}

-- Objects, and ops that are spelled.

named_object : (o : Oid) → is_named o ≡ true → is_object o ≡ true
named_object o e = grind (arith, nat_tests)

named_number : (o : Oid) → is_named o ≡ true → is_number o ≡ true
named_number o e = grind (arith, nat_tests)

number_fits : (n : ℕ) → ltb n (2 ^ 64) ≡ true → (u64 any_number).fits n ≡ true
number_fits n e = grind (arith, nat_tests)

index_fits : (n : ℕ) → ltb n (2 ^ 32) ≡ true → (u32 any_number).fits n ≡ true
index_fits n e = grind (arith, nat_tests)

op_is : (op : AnyOp) → op_fits op ≡ true → any.is_op op ≡ true
unfolding any.is_op directories.op_format maps.op_format lists.op_format sets.op_format
op_is (ops.Directory (directory_ops.Name name o)) e = both _ _ (and-left _ _ e) (named_number o (and-right _ _ e))
op_is (ops.Directory (directory_ops.Mark o mark)) e = both _ _ (named_number o (and-left _ _ e)) (number_fits mark (and-right _ _ e))
op_is (ops.Counter (counter_ops.Add by)) e = spells_i64 by e
op_is (ops.Register (register_ops.Write text)) e = e
op_is (ops.Map (map_ops.Set key value)) e = e
op_is (ops.Map (map_ops.Unset key)) e = e
op_is (ops.List (list_ops.PushFront text)) e = e
op_is (ops.List (list_ops.PushBack text)) e = e
op_is (ops.List (list_ops.Insert at text)) e = both _ _ (index_fits at (and-left _ _ e)) (and-right _ _ e)
op_is (ops.List (list_ops.Remove at)) e = index_fits at e
op_is (ops.List list_ops.PopFront) e = refl
op_is (ops.List list_ops.PopBack) e = refl
op_is (ops.Tree (tree_ops.Create path text)) e = e
op_is (ops.Tree (tree_ops.Store path text)) e = e
op_is (ops.Tree (tree_ops.Delete path)) e = e
op_is (ops.Set (set_ops.Include n)) e = number_fits n e
op_is (ops.Set (set_ops.Exclude n)) e = number_fits n e

-- what is spelled is read back by an object of its kind
reads_back : (o : Oid) (op : AnyOp) → any.is_op op ≡ true → any.is_of o op ≡ true → all_kinds.read o (all_kinds.spell op) ≡ Some op
reads_back o op is of =
    let back : any.read (any.spelled op) ≡ Ok (op, []) = ap any.read (sym (append-nil (any.spelled op))) ∙ reads_spelled op [] is in
    ap (read_by (any.is_of o)) back ∙ ap (λ (b : Bool). if b then Some op else None) of

within : (low high n : ℕ) → low ≤ n → n ≤ high → is_within low high n ≡ true
within low high n a b = grind (arith, nat_tests)

op_spelled : (o : Oid) (op : AnyOp) → any.is_op op ≡ true → any.is_of o op ≡ true → length (any.spelled op) ≤ 4096 → IsSpelled all_kinds o op
op_spelled o op is of short = record { read = reads_back o op is of; fits = within 1 4096 (length (any.spelled op)) (spelled_some op is) short }

put_lawful : (o : Oid) (op : AnyOp) → (is_named o && (op_fits op && is_put op)) ≡ true → LawfulCommand all_kinds (cmd.Put o op)
put_lawful o op e =
    let is = op_is op (and-left (op_fits op) (is_put op) (and-right (is_named o) _ e)) in
    (named_object o (and-left (is_named o) _ e), λ allowed short. op_spelled o op is (allowed_is o op allowed) short)

mark_op_is : (o : Oid) (n : ℕ) → is_number o ≡ true → ltb n (2 ^ 64) ≡ true → any.is_op (any.marking o n) ≡ true
unfolding any.is_op directories.op_format
mark_op_is o n number few = by (is_number o) number
  where
    by : (b : Bool) → b ≡ true → any.is_op (ops.Directory (if b then directory_ops.Mark o n else directory_ops.Mark directory 0)) ≡ true
    by true e = both _ _ number (number_fits n few)
    by false e = absurd cc

forget_lawful : (o : Oid) (n : ℕ) → is_named o ≡ true → ltb n (2 ^ 64) ≡ true → LawfulCommand all_kinds (cmd.Forget o n)
forget_lawful o n named few =
    let short = marking_short o n in
    (named_object o named, op_spelled directory (any.marking o n) (mark_op_is o n (named_number o named) few) (marking_is o n).0 (omega (arith, short)))

-- Asks look at parts.

looks_part : (q : AnyAsk) → ask_fits q ≡ true → is_part (all_kinds.look q) ≡ true
unfolding any.looked
looks_part (asks.Directory (directory_asks.Find name)) e = text_is_part name e
looks_part (asks.Directory directory_asks.Marks) e = refl
looks_part (asks.Directory directory_asks.Floor) e = refl
looks_part (asks.Counter q) e = refl
looks_part (asks.Register q) e = refl
looks_part (asks.Map (map_asks.Get key)) e = text_is_part key e
looks_part (asks.Map map_asks.Size) e = refl
looks_part (asks.Map map_asks.Keys) e = refl
looks_part (asks.List q) e = refl
looks_part (asks.Tree (tree_asks.Data path)) e = path_is_part path e
looks_part (asks.Tree (tree_asks.Has path)) e = path_is_part path e
looks_part (asks.Tree (tree_asks.Children path)) e = refl
looks_part (asks.Set (set_asks.Member n)) e = e
looks_part (asks.Set (set_asks.Count low high)) e = refl
looks_part (asks.Set (set_asks.Between low high)) e = refl

-- Changes of layouts.

unit_below : (count u : ℕ) → count ≤ 64 → ltb u count ≡ true → is_unit u ≡ true
unit_below count u few e = grind (arith, nat_tests)

drop_lawful : (count : ℕ) → count ≤ 64 → (us : List ℕ) → part_fits (distinct_units count) us ≡ true → (list_all is_unit us ≡ true) × (is_distinct us ≡ true)
drop_lawful count few [] e = (refl, refl)
drop_lawful count few (u ∷ us) e =
    (all_weaker (λ (x : ℕ). ltb x count) is_unit (λ x f. unit_below count x few f) (u ∷ us) (and-right _ _ (and-left _ _ e)), and-right _ _ e)

opening_of : (count : ℕ) (cs : List (List ℕ)) → are_chains count cs ≡ true → is_opening cs ≡ true
opening_of count cs a =
    let some : is_within 1 8 (length cs) ≡ true = and-left _ _ (and-left _ _ (and-left _ _ a)) in
    let short : leb (length cs) 8 ≡ true = and-right _ _ some in
    both _ _ (both _ _ short (and-right _ _ (and-left _ _ (and-left _ _ a)))) (and-right _ _ a)

opened_lawful : (count : ℕ) (cs : List (List ℕ)) → part_fits (chains count) cs ≡ true → is_opening cs ≡ true
opened_lawful count [] e = refl
opened_lawful count (c ∷ cs) e = opening_of count (c ∷ cs) (chains_are count (c ∷ cs) e)

join_lawful : (h : Header) → h.units ≤ 64 → (j : Option Join) → join_fits h j ≡ true → is_joining j ≡ true
join_lawful h few None e = refl
join_lawful h few (Some j) e = unit_below h.units j.unit few (and-left _ _ (and-left _ _ e))

reconf_lawful : (h : Header) → IsHeader h → (c : Changed) → change_fits h c ≡ true → IsChange c
reconf_lawful h header c e =
    let few = few_units h header in
    let three : ((numbered h role.Seqr).fits c.seq && part_fits (distinct_units h.units) c.drop && part_fits (chains h.units) c.opened) ≡ true = and-left _ _ e in
    change_lawful c (drop_lawful h.units few c.drop (and-right _ _ (and-left _ _ three))) (opened_lawful h.units c.opened (and-right _ _ three)) (join_lawful h few c.join (and-right _ _ e))

-- Commands and lines.

command_lawful : (h : Header) → IsHeader h → (x : Command AnyOp AnyAsk) → command_fits h x ≡ true → LawfulCommand all_kinds x
command_lawful h header (cmd.Host o) e = named_object o e
command_lawful h header cmd.Begin e = tt
command_lawful h header (cmd.Put o op) e = put_lawful o op e
command_lawful h header (cmd.Ask o q) e = (named_object o (and-left (is_named o) (ask_fits q) e), looks_part q (and-right (is_named o) (ask_fits q) e))
command_lawful h header cmd.End e = tt
command_lawful h header cmd.Drop e = tt
command_lawful h header (cmd.Fate at) e = tt
command_lawful h header (cmd.Decide at) e = tt
command_lawful h header (cmd.Checkpoint o) e = named_object o e
command_lawful h header (cmd.Forget o n) e =
    let f = and-right (is_named o) (nat_lt n (2 ^ 64) && nat_le 1 n) e in forget_lawful o n (and-left (is_named o) _ e) (and-left (nat_lt n (2 ^ 64)) (nat_le 1 n) f)
command_lawful h header cmd.Trim e = tt
command_lawful h header (cmd.Reconf c) e = reconf_lawful h header c e
command_lawful h header (cmd.Copy u r t) e = tt
command_lawful h header (cmd.AskAt at o q) e = named_object o (and-left (is_named o) (ask_fits q) (and-right (nat_lt at (2 ^ 64)) (is_named o && ask_fits q) e))
command_lawful h header (cmd.Rescue at) e = tt

count_same : (h : Header) (r : Role) → count_of h r ≡ declared_of h r
count_same h role.Unit = refl
count_same h role.Layout = refl
count_same h role.Seqr = refl
count_same h role.Client = refl

below_of : (a b : ℕ) → ltb a b ≡ true → a < b
below_of a b e = grind (arith, nat_tests)

node_declared : (h : Header) (n : NodeId) → is_declared h n ≡ true → IsDeclared h n
node_declared h n e = subst (λ (k : ℕ). n.num < k) (count_same h n.role) (below_of n.num (count_of h n.role) e)

-- an event that is a line
pub event_lawful : (h : Header) → IsHeader h → (e : EventOf all_kinds) → line_fits h (line.Event e) ≡ true → LawfulEvent all_kinds h e
event_lawful h header (event.Command k x) f = (below_of k h.clients (and-left (ltb k h.clients) (command_fits h x) f), command_lawful h header x (and-right (ltb k h.clients) (command_fits h x) f))
event_lawful h header (event.Deliver i) f = tt
event_lawful h header (event.Lose i) f = tt
event_lawful h header (event.Tick n) f = node_declared h n f
event_lawful h header (event.Stop n) f = node_declared h n f

-- and the put of an update
pub update_lawful : (h : Header) (k : ℕ) (o : Oid) (op : AnyOp) → line_fits h (line.Update k o op) ≡ true → IsDeclared h (client_id k) × LawfulCommand all_kinds (cmd.Put o op)
update_lawful h k o op f = (below_of k h.clients (and-left (ltb k h.clients) _ f), put_lawful o op (and-right (ltb k h.clients) _ f))
