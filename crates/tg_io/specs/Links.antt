-- What a link is sent and hands on.
use Rattle.std.specs.Prelude.{ℕ, ◌%◌, List, [], ◌∷◌, ◌++◌, Option, Some, None, take, drop, length, slice_index_or}
use Rattle.tg_base.specs.declared.ids.NodeId.{NodeId}
use Rattle.tg_io.specs.Bytes.{Grows}
use Rattle.tg_io.specs.Calls.{Count, called}
use Rattle.tg_io.specs.declared.link.Arrival.{Arrival}
use Rattle.tg_io.specs.declared.link.Sent.{Sent}
use Rattle.tg_io.specs.declared.mem_link.Rule.{Rule}
use Rattle.tg_io.specs.declared.mem_link.Rule.TheVariants.{Keep, Lose, Twice, Late}

-- the list that is told has grown by one
abbrev pub Adds : {X : Type 0} → Option (List X) → X → Option (List X) → Type 0
Adds before x after = Grows before (x ∷ []) after

-- what came, from the answer and the buffer
abbrev pub arrival_of : Option (NodeId × ℕ) → List ℕ → Option Arrival
arrival_of None buf = None
arrival_of (Some (to, count)) buf = Some (record { to = to; datagram = take count buf })

-- a link in memory: the second queue is served where the first is empty
pub record Wire : Type 0 where
  pub rules : List Rule
  pub calls : Count
  pub queue : List Arrival
  pub late : List Arrival
  pub sent : List Sent
  pub handed : List (Option Arrival)

-- the rule of the send with this number, from 0: the rules in turn, `Keep` where there are none
abbrev pub rule_at : List Rule → ℕ → Rule
rule_at rules n = slice_index_or rules (n % length rules) Keep

-- the first queue after a send by the rule
abbrev pub queue_after : Rule → List Arrival → Arrival → List Arrival
queue_after Keep queue a = queue ++ a ∷ []
queue_after Lose queue a = queue
queue_after Twice queue a = queue ++ a ∷ a ∷ []
queue_after Late queue a = queue

-- the second queue after a send by the rule
abbrev pub late_after : Rule → List Arrival → Arrival → List Arrival
late_after Keep late a = late
late_after Lose late a = late
late_after Twice late a = late
late_after Late late a = late ++ a ∷ []

-- what is handed next
abbrev pub next_of : List Arrival → List Arrival → Option Arrival
next_of (a ∷ queue) late = Some a
next_of [] (a ∷ late) = Some a
next_of [] [] = None

-- the second queue after the next was handed
abbrev pub late_rest : List Arrival → List Arrival → List Arrival
late_rest (a ∷ queue) late = late
late_rest [] late = drop 1 late

-- a send that succeeds
abbrev pub sends : Wire → Sent → Wire
sends w s = record w {
  calls = called w.calls;
  queue = queue_after (rule_at w.rules (length w.sent)) w.queue (record { to = s.to; datagram = s.datagram });
  late = late_after (rule_at w.rules (length w.sent)) w.late (record { to = s.to; datagram = s.datagram });
  sent = w.sent ++ s ∷ [];
}

-- an answer of `recv`
abbrev pub hands : Wire → Wire
hands w = record w {
  calls = called w.calls;
  queue = drop 1 w.queue;
  late = late_rest w.queue w.late;
  handed = w.handed ++ next_of w.queue w.late ∷ [];
}
