-- Requests that are outstanding, and what machines answer.
use Rattle.std.specs.Prelude.{ℕ, ◌+◌, Bool, not, ◌&&◌, ◌==◌, nat_le, List, [], map, filter, length, zip}
use Rattle.std.specs.List.{list_any}
use Rattle.tg_base.specs.declared.ids.NodeId.{NodeId}
use Rattle.tg_base.specs.declared.msg.Msg.{Msg}
use Rattle.tg_base.specs.declared.packet.Out.{Out}
use Rattle.tg_base.specs.Orders.{node_eq}
use Rattle.tg_protocol.specs.Words.{numbers}

abbrev pub out : NodeId → ℕ → Msg → Out
out to rid m = record { to = to; rid = rid; msg = m }

-- an answer from this node with this number answers one of these requests
abbrev pub awaits : List Out → NodeId → ℕ → Bool
awaits outs from rid = list_any (λ o. node_eq o.to from && (o.rid == rid)) outs

-- those that were drawn at or past this number, which are the new ones
abbrev pub drawn_from : ℕ → List Out → List Out
drawn_from rid outs = filter (λ o. nat_le rid o.rid) outs

-- several nodes of one role that are asked alike, each with the number of its request
abbrev pub Waits : Type 0
Waits = List (ℕ × ℕ)

-- each of these nodes draws the next number
abbrev pub waits_for : List ℕ → ℕ → Waits
waits_for nodes rid = zip nodes (numbers (length nodes) rid)

abbrev pub asked_of : (ℕ → NodeId) → Msg → Waits → List Out
asked_of name m waits = map (λ (w : ℕ × ℕ). out (name w.0) w.1 m) waits

abbrev pub without_wait : ℕ → Waits → Waits
without_wait n waits = filter (λ (w : ℕ × ℕ). not (w.0 == n)) waits

-- what becomes of a machine: it goes on, it has to learn a newer layout first, or it has ended
pub data Next (M E : Type 0) : Type 0 where
  Goes : M → Next M E
  Learns : M → Next M E
  Ends : E → Next M E

-- a machine's step
pub record Turn (M E : Type 0) : Type 0 where
  pub next : ℕ  -- the next request number
  pub besides : List Out  -- what it sends besides its new outstanding requests
  pub gone : ℕ  -- the position below which a unit said that all is trimmed, 0 where none did
  pub to : Next M E

abbrev pub turn : {M E : Type 0} → ℕ → Next M E → Turn M E
turn next to = record { next = next; besides = []; gone = 0; to = to }

-- an answer is passed by
abbrev pub passes : {M E : Type 0} → ℕ → M → Turn M E
passes next m = turn next (Goes m)

-- a machine that draws one number, as its new request's
abbrev pub draws : {M E : Type 0} → ℕ → M → Turn M E
draws next m = turn (next + 1) (Goes m)

abbrev pub ends : {M E : Type 0} → ℕ → E → Turn M E
ends next e = turn next (Ends e)

abbrev pub learns : {M E : Type 0} → ℕ → M → Turn M E
learns next m = turn next (Learns m)

-- a turn in which a unit answered that all below a position is gone
abbrev pub met_gone : {M E : Type 0} → ℕ → Turn M E → Turn M E
met_gone b t = record { next = t.next; besides = t.besides; gone = b; to = t.to }
