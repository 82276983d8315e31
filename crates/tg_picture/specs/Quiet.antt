-- Packets that decide nothing: the layouts that are decided are the same without them.
use Rattle.std.specs.Prelude.{ℕ, Bool, true, false, not, nat_lt, List, take, drop, if◌then◌else◌}
use Rattle.std.specs.List.{list_any}
use Rattle.tg_base.specs.declared.msg.Msg.{Msg}
use Rattle.tg_base.specs.declared.msg.Msg.TheVariants as msg
use Rattle.tg_base.specs.declared.packet.Packet.{Packet}

-- a proposal of a layout, or its acceptance
abbrev pub is_vote : Msg → Bool
is_vote (msg.Accept epoch ballot layout) = true
is_vote (msg.Accepted epoch ballot) = true
is_vote _ = false

-- no vote is among the packets after so many and up to so many
abbrev pub is_quiet : List Packet → ℕ → ℕ → Bool
is_quiet ps before after = if nat_lt after before then false else not (list_any (λ (p : Packet). is_vote p.msg) (drop before (take after ps)))
