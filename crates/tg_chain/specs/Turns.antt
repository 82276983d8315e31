-- How a machine's call shows the turn that the rules name, and which messages a machine takes.
use Rattle.std.specs.Prelude.{ℕ, Bool, true, false, ◌&&◌, nat_le, nat_lt, List, [], ◌++◌, filter}
use Rattle.tg_base.specs.declared.ids.NodeId.{NodeId}
use Rattle.tg_base.specs.declared.msg.Msg.{Msg}
use Rattle.tg_base.specs.declared.msg.Msg.TheVariants as msg
use Rattle.tg_base.specs.declared.packet.Out.{Out}
use Rattle.tg_base.specs.declared.turn.Turn.{Turn as Given}
use Rattle.tg_base.specs.declared.turn.Turn.TheVariants.{More, End}
use Rattle.tg_protocol.specs.Cells.{CellJob, CellTurn, cell_asks, cell_feed}
use Rattle.tg_protocol.specs.Replies.{reply}
use Rattle.tg_protocol.specs.Requests.{Next, Goes, Learns, Ends, Turn, passes, awaits}

-- what a step shows: the next request number, what becomes of the machine, and what it sends
pub record Shown (M E : Type 0) : Type 0 where
  pub next : ℕ
  pub to : Next M E
  pub outs : List Out

-- what a call gives, where an end of the machine stands for one of the rules
abbrev pub shown : {M F E : Type 0} → (F → E) → Given M F → ℕ → Shown M E
shown f (More m outs) next = record { next = next; to = Goes m; outs = outs }
shown f (End e outs) next = record { next = next; to = Ends (f e); outs = outs }

-- the requests whose numbers were drawn from the first of these on and before the second
unfoldable pub drawn_between : ℕ → ℕ → List Out → List Out
drawn_between old new outs = filter (λ o. nat_le old o.rid && nat_lt o.rid new) outs

abbrev pub new_asks : {M E : Type 0} → (M → List Out) → ℕ → ℕ → Next M E → List Out
new_asks asks old new (Goes m) = drawn_between old new (asks m)
new_asks asks old new (Learns m) = drawn_between old new (asks m)
new_asks asks old new (Ends e) = []

-- what the rules name: a machine sends the requests that it has drawn in the step
abbrev pub by_rules : {M E : Type 0} → (M → List Out) → ℕ → Turn M E → Shown M E
by_rules asks old t = record { next = t.next; to = t.to; outs = t.besides ++ new_asks asks old t.next t.to }

-- an answer to an outstanding request is taken, and every other message is passed by
abbrev pub fed_if : Bool → CellJob → ℕ → Msg → ℕ → CellTurn
fed_if true j unit m next = cell_feed j unit (reply m) next
fed_if false j unit m next = passes next j

abbrev pub fed : CellJob → NodeId → ℕ → Msg → ℕ → CellTurn
fed j from rid m next = fed_if (awaits (cell_asks j) from rid) j from.num m next

-- the answers on which a machine sends or keeps something: on all others it needs no memory
abbrev pub needs_memory : Msg → Bool
needs_memory msg.Held = true
needs_memory (msg.Taken c) = true
needs_memory msg.Unwritten = true
needs_memory (msg.Missing p) = true
needs_memory msg.Whole = true
needs_memory _ = false
