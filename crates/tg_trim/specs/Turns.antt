-- How a trim's call shows the turn that the rules name, and which messages it takes.
use Rattle.std.specs.Prelude.{ℕ, Bool, true, false, List, [], ◌++◌}
use Rattle.tg_base.specs.Layouts.{Layout}
use Rattle.tg_base.specs.declared.ids.NodeId.{NodeId}
use Rattle.tg_base.specs.declared.msg.Msg.{Msg}
use Rattle.tg_base.specs.declared.packet.Out.{Out}
use Rattle.tg_chain.specs.Turns.{drawn_between}
use Rattle.tg_protocol.specs.Replies.{reply}
use Rattle.tg_protocol.specs.Requests.{Next, Goes, Learns, Ends, passes, awaits}
use Rattle.tg_protocol.specs.Trimming.{Trims, Trimmed, AllTrimmed, TrimTurn, trim_asks, trim_feed}
use Rattle.tg_trim.specs.declared.ends.TrimEnd.{TrimEnd}
use Rattle.tg_trim.specs.declared.ends.TrimEnd.TheVariants as ended
use Rattle.tg_chain.specs.declared.step.Step.{Step}
use Rattle.tg_chain.specs.declared.step.Next.{Next as Given}
use Rattle.tg_chain.specs.declared.step.Next.TheVariants as given

-- what becomes of a trim: of one that has to learn a newer layout, the position below which it starts over there
pub data Then : Type 0 where
  On : Trims → Then
  Paused : ℕ → Then
  Over : Trimmed → Then

-- what a step shows: the next request number, what becomes of the trim, the position below which a unit said that
-- all is trimmed, and what is sent
pub record Shown : Type 0 where
  pub next : ℕ
  pub to : Then
  pub gone : ℕ
  pub outs : List Out

-- what a call gives

abbrev pub trim_end : TrimEnd → Trimmed
trim_end ended.AllTrimmed = AllTrimmed

abbrev pub given_to : Given Trims ℕ TrimEnd → Then
given_to (given.Goes t) = On t
given_to (given.Learns b) = Paused b
given_to (given.Ends e) = Over (trim_end e)

abbrev pub shown : Step Trims ℕ TrimEnd → ℕ → Shown
shown s next = record { next = next; to = given_to s.next; gone = s.gone; outs = s.outs }

-- what the rules name

abbrev pub ruled_to : Next Trims Trimmed → Then
ruled_to (Goes t) = On t
ruled_to (Learns t) = Paused t.below
ruled_to (Ends e) = Over e

-- the requests that are drawn in a step; while a newer layout is learnt nothing else is asked
abbrev pub new_asks : Layout → ℕ → ℕ → Next Trims Trimmed → List Out
new_asks p old new (Goes t) = drawn_between old new (trim_asks p t)
new_asks p old new (Learns t) = []
new_asks p old new (Ends e) = []

-- a trim that began its step with this number
abbrev pub by_trim : Layout → ℕ → TrimTurn → Shown
by_trim p old t = record { next = t.next; to = ruled_to t.to; gone = t.gone; outs = t.besides ++ new_asks p old t.next t.to }

-- an answer to an outstanding request is taken, and every other message is passed by
abbrev pub trim_fed_if : Bool → Layout → Trims → ℕ → Msg → ℕ → TrimTurn
trim_fed_if true p t n m next = trim_feed p t n (reply m) next
trim_fed_if false p t n m next = passes next t

abbrev pub trim_fed : Layout → Trims → NodeId → ℕ → Msg → ℕ → TrimTurn
trim_fed p t from rid m next = trim_fed_if (awaits (trim_asks p t) from rid) p t from.num m next
