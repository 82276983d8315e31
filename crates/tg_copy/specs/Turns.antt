-- How a copy's call shows the turn that the rules name.
use Rattle.std.specs.Prelude.{◌≡◌, ⊤, ℕ, List, [], ◌++◌}
use Rattle.tg_base.specs.Layouts.{Layout}
use Rattle.tg_base.specs.declared.change.Join.{Join}
use Rattle.tg_base.specs.declared.packet.Out.{Out}
use Rattle.tg_chain.specs.Turns.{drawn_between}
use Rattle.tg_protocol.specs.Requests.{Next, Goes, Learns, Ends}
use Rattle.tg_protocol.specs.Trimming.{Copying, CopyEnd, CopyTurn, Whole, copy_asks}
use Rattle.tg_copy.specs.declared.ends.CopyEnd.{CopyEnd as Given}
use Rattle.tg_copy.specs.declared.ends.CopyEnd.TheVariants as given
use Rattle.tg_chain.specs.declared.step.Step.{Step}
use Rattle.tg_chain.specs.declared.step.Next.{Next as GivenNext}
use Rattle.tg_chain.specs.declared.step.Next.TheVariants as given_next

-- what becomes of a copy: of one that has to learn a newer layout, what starts over there
pub data Then : Type 0 where
  On : Copying → Then
  Paused : Join → Then
  Over : CopyEnd → Then

-- what a step shows: the next request number, what becomes of the copy, the position below which a unit said that
-- all is trimmed, and what is sent
pub record Shown : Type 0 where
  pub next : ℕ
  pub to : Then
  pub gone : ℕ
  pub outs : List Out

-- what a call gives

abbrev pub copy_end : Given → CopyEnd
copy_end given.Whole = Whole

abbrev pub given_to : GivenNext Copying Join Given → Then
given_to (given_next.Goes c) = On c
given_to (given_next.Learns j) = Paused j
given_to (given_next.Ends e) = Over (copy_end e)

abbrev pub shown : Step Copying Join Given → ℕ → Shown
shown s next = record { next = next; to = given_to s.next; gone = s.gone; outs = s.outs }

-- what the rules name

-- the spare, and the stripe that it is to hold
abbrev pub spare_of : Copying → Join
spare_of c = record { unit = c.unit; range = c.range; stripe = c.stripe }

abbrev pub ruled_to : Next Copying CopyEnd → Then
ruled_to (Goes c) = On c
ruled_to (Learns c) = Paused (spare_of c)
ruled_to (Ends e) = Over e

-- the requests that are drawn in a step; while a newer layout is learnt nothing else is asked
abbrev pub new_asks : Layout → ℕ → ℕ → Next Copying CopyEnd → List Out
new_asks p old new (Goes c) = drawn_between old new (copy_asks p c)
new_asks p old new (Learns c) = []
new_asks p old new (Ends e) = []

-- a copy that began its step with this number
abbrev pub by_copy : Layout → ℕ → CopyTurn → Shown
by_copy p old t = record { next = t.next; to = ruled_to t.to; gone = t.gone; outs = t.besides ++ new_asks p old t.next t.to }

-- it is still of this spare and stripe
abbrev pub IsOfSpare : Join → Then → Type 0
IsOfSpare s (On c) = spare_of c ≡ s
IsOfSpare s (Paused j) = j ≡ s
IsOfSpare s (Over e) = ⊤
