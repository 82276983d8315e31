-- How a walk's call shows the turn that the rules name.
use Rattle.std.specs.Prelude.{ℕ, List, [], ◌++◌}
use Rattle.tg_base.specs.declared.packet.Out.{Out}
use Rattle.tg_chain.specs.Turns.{drawn_between}
use Rattle.tg_protocol.specs.Requests.{Next, Goes, Learns, Ends}
use Rattle.tg_protocol.specs.Walking.{Walk, Members, WalkTurn, walk_asks}
use Rattle.tg_stream.specs.Walks.{Course, course_of, members_of}
use Rattle.tg_stream.specs.declared.members.Members.{Members as Found}
use Rattle.tg_chain.specs.declared.step.Step.{Step}
use Rattle.tg_chain.specs.declared.step.Next.{Next as Given}
use Rattle.tg_chain.specs.declared.step.Next.TheVariants as given

-- what becomes of a walk: of one that has to learn a newer layout, what goes on there
pub data Then : Type 0 where
  On : Walk → Then
  Paused : Course → Then
  Over : Members → Then

-- what a step shows: the next request number, what becomes of the walk, the position below which a unit said that
-- all is trimmed, and what is sent
pub record Shown : Type 0 where
  pub next : ℕ
  pub to : Then
  pub gone : ℕ
  pub outs : List Out

-- what a call gives

abbrev pub given_to : Given Walk Course Found → Then
given_to (given.Goes w) = On w
given_to (given.Learns s) = Paused s
given_to (given.Ends e) = Over (members_of e)

abbrev pub shown : Step Walk Course Found → ℕ → Shown
shown s next = record { next = next; to = given_to s.next; gone = s.gone; outs = s.outs }

-- what the rules name

abbrev pub ruled_to : Next Walk Members → Then
ruled_to (Goes w) = On w
ruled_to (Learns w) = Paused (course_of w)
ruled_to (Ends e) = Over e

-- the requests that are drawn in a step; while a newer layout is learnt nothing else is asked
abbrev pub new_asks : ℕ → ℕ → Next Walk Members → List Out
new_asks old new (Goes w) = drawn_between old new (walk_asks w)
new_asks old new (Learns w) = []
new_asks old new (Ends e) = []

-- a walk that began its step with this number
abbrev pub by_walk : ℕ → WalkTurn → Shown
by_walk old t = record { next = t.next; to = ruled_to t.to; gone = t.gone; outs = t.besides ++ new_asks old t.next t.to }

-- a walk that goes on, and sends this
abbrev pub awaiting : Walk → ℕ → List Out → Shown
awaiting w next outs = record { next = next; to = On w; gone = 0; outs = outs }
