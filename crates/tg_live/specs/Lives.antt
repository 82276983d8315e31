-- A live run: each packet goes over a link, and what the link hands over is recorded as deliveries.
use Rattle.std.specs.Prelude.{◌≡◌, ℕ, zero, suc, ◌+◌, ◌<◌, ◌≤◌, ◌==◌, Bool, true, false, List, [], ◌∷◌, ◌++◌, length, drop, Option, Some, None}
use Rattle.tg_base.specs.declared.fault.Which.{Which}
use Rattle.tg_base.specs.declared.fault.Which.TheVariants as which
use Rattle.tg_base.specs.declared.ids.NodeId.{NodeId}
use Rattle.tg_base.specs.Clusters.{Header}
use Rattle.tg_io.specs.Acts.{Act, Comes}
use Rattle.tg_io.specs.declared.link.Arrival.{Arrival}
use Rattle.tg_live.specs.Matching.{matched}
use Rattle.tg_model.specs.declared.command.Event.TheVariants as event
use Rattle.tg_protocol.specs.Worlds.{start, limit_of, runs, nodes}
use Rattle.tg_any.specs.AllKinds.{all_kinds}
use Rattle.tg_replay.specs.Runs.{Worlds, Runs, line_on}
use Rattle.tg_script.specs.declared.line.Line.{Line}
use Rattle.tg_script.specs.declared.line.Line.TheVariants as line
use Rattle.tg_live.specs.Sends.{all_gone, spellings}

-- what a call of `recv` gave
abbrev pub Answer : Type 0
Answer = Option Arrival

pub record Live : Type 0 where
  pub world : Worlds
  pub lines : List Line  -- the event lines that were recorded
  pub delivered : List ℕ  -- the packets that were delivered, the last one first
  pub received : ℕ  -- how many datagrams the link has handed over
  pub acts : List Act  -- what was done with the link

-- a live run after several steps, and the limit that stopped them
pub record LiveRan : Type 0 where
  pub live : Live
  pub stopped : Option Which

abbrev pub goes : Live → LiveRan
goes l = record { live = l; stopped = None }

abbrev pub stops : Live → Which → LiveRan
stops l x = record { live = l; stopped = Some x }

-- before the first line
abbrev pub opened : Header → Live
opened h = record { world = start all_kinds h; lines = []; delivered = []; received = 0; acts = [] }

-- Lines.

-- the line is steps of its own, and no drain or settling
abbrev pub is_steps : Line → Bool
is_steps line.Drain = false
is_steps line.Settle = false
is_steps l = true

-- the packets that its steps have sent go out when they are made
abbrev pub after_line : Live → Line → Runs → LiveRan
after_line l x r = record {
  live = record l { world = r.world; lines = l.lines ++ x ∷ []; acts = l.acts ++ all_gone (drop (length l.world.packets) r.world.packets) };
  stopped = r.stopped;
}

abbrev pub recorded_by : Option Which → Live → Line → LiveRan
recorded_by (Some x) l line = stops l x
recorded_by None l line = after_line l line (line_on l.world line)

-- a line is recorded and its steps are made; where a limit is reached already, neither
unfoldable pub recorded : Live → Line → LiveRan
recorded l line = recorded_by (limit_of all_kinds l.world) l line

-- Datagrams.

abbrev pub came_by : Option ℕ → Live → LiveRan
came_by None l = goes l
came_by (Some i) l = recorded (record l { delivered = i ∷ l.delivered }) (line.Event (event.Deliver i))

-- a datagram that came to a node delivers the packet that it matches; one that matches none is passed by
abbrev pub came : Live → NodeId → List ℕ → LiveRan
came l node datagram = came_by (matched (spellings l.world.packets) l.delivered node datagram) l

-- an answer of `recv` is taken
abbrev pub heard : Live → Answer → Live
heard l a = record l { acts = l.acts ++ Comes a ∷ [] }

-- and one that is a datagram
abbrev pub received : Live → Arrival → Live
received l a = record (heard l (Some a)) { received = l.received + 1 }

-- What follows a part of a run, which takes the answers that are left: nothing where a limit stopped the part.
abbrev pub Follows : Option Which → LiveRan → List Answer → LiveRan → Type 0 → Type 0
Follows (Some x) middle rest end then_so = (rest ≡ []) × (end ≡ middle)
Follows None middle rest end then_so = then_so

-- A drain takes the answers up to and with the first None. No datagram is asked for after the millionth.
abbrev pub IsDrained : List Answer → Live → LiveRan → Type 0
IsDrained [] l end = (1000000 ≤ l.received) × (end ≡ stops l which.Datagrams)
IsDrained (None ∷ rest) l end = (l.received < 1000000) × (rest ≡ []) × (end ≡ goes (heard l None))
IsDrained (Some a ∷ rest) l end = (l.received < 1000000)
    × Follows (came (received l a) a.to a.datagram).stopped (came (received l a) a.to a.datagram) rest end (IsDrained rest (came (received l a) a.to a.datagram).live end)

-- Ticks.

-- on where no limit was reached
abbrev pub onward : LiveRan → (Live → LiveRan) → LiveRan
onward r f = elim (r.stopped) as (λ _. LiveRan) [ Some x ↦ r | None ↦ f r.live ]

-- one tick of each of these nodes that runs
unfoldable pub ticked : List NodeId → Live → LiveRan
ticked [] l = goes l
ticked (n ∷ ns) l = elim (runs all_kinds l.world n) as (λ _. LiveRan) [
  | false ↦ ticked ns l
  | true ↦ onward (recorded l (line.Event (event.Tick n))) (λ k. ticked ns k)
]

-- One part of a run, and then another; each takes its own answers.
pub record Then (first next : List Answer → Live → LiveRan → Type 0) (answers : List Answer) (l : Live) (end : LiveRan) : Type 0 where
  pub taken : List Answer
  pub rest : List Answer
  pub dealt : answers ≡ taken ++ rest
  pub middle : LiveRan
  pub before : first taken l middle
  pub after : Follows middle.stopped middle rest end (next rest middle.live end)

-- a part that takes no answer
abbrev pub Makes : (Live → LiveRan) → List Answer → Live → LiveRan → Type 0
Makes f answers l end = (answers ≡ []) × (end ≡ f l)

-- Rounds, so many at most: each ticks every running node in order, and drains. One whose ticks sent nothing is the last.
abbrev pub IsRounds : ℕ → List Answer → Live → LiveRan → Type 0
IsRounds zero answers l end = Makes goes answers l end
IsRounds (suc n) answers l end = Then (Makes (ticked (nodes all_kinds l.world))) (λ rest m last. elim (length m.world.packets == length l.world.packets) as (λ _. Type 0) [
  | true ↦ IsDrained rest m last
  | false ↦ Then IsDrained (IsRounds n) rest m last
]) answers l end

abbrev pub IsSettled : List Answer → Live → LiveRan → Type 0
IsSettled answers l end = Then IsDrained (IsRounds 8) answers l end

-- Scripts.

-- a drain and a settling are replaced by their deliveries and ticks; another line is recorded as it stands, and takes no answer
abbrev pub IsFed : Line → List Answer → Live → LiveRan → Type 0
IsFed line.Drain answers l end = IsDrained answers l end
IsFed line.Settle answers l end = IsSettled answers l end
IsFed x answers l end = Makes (λ k. recorded k x) answers l end

-- the lines of a script, one after another
abbrev pub IsLived : List Line → List Answer → Live → LiveRan → Type 0
IsLived [] answers l end = Makes goes answers l end
IsLived (x ∷ xs) answers l end = Then (IsFed x) (IsLived xs) answers l end
