-- How a machine's call shows the turn that the rules name.
use Rattle.std.specs.Prelude.{ℕ, ◌+◌, List, [], ◌∷◌, ◌++◌}
use Rattle.tg_base.specs.declared.packet.Out.{Out}
use Rattle.tg_chain.specs.Turns.{drawn_between}
use Rattle.tg_protocol.specs.Requests.{Next, Goes, Learns, Ends, Turn}
use Rattle.tg_chain.specs.declared.step.Step.{Step}
use Rattle.tg_chain.specs.declared.step.Next.{Next as Given}
use Rattle.tg_chain.specs.declared.step.Next.TheVariants as given

-- what becomes of a machine: of one that has to learn a newer layout, what goes on there
pub data Then (M P E : Type 0) : Type 0 where
  On : M → Then M P E
  Paused : P → Then M P E
  Over : E → Then M P E

-- what a step shows: the next request number, what becomes of the machine, the position below which a unit said
-- that all is trimmed, and what is sent
pub record Shown (M P E : Type 0) : Type 0 where
  pub next : ℕ
  pub to : Then M P E
  pub gone : ℕ
  pub outs : List Out

-- what a call gives, where an end of the machine stands for one of the rules
abbrev pub given_to : {M P F E : Type 0} → (F → E) → Given M P F → Then M P E
given_to f (given.Goes m) = On m
given_to f (given.Learns p) = Paused p
given_to f (given.Ends e) = Over (f e)

abbrev pub shown : {M P F E : Type 0} → (F → E) → Step M P F → ℕ → Shown M P E
shown f s next = record { next = next; to = given_to f s.next; gone = s.gone; outs = s.outs }

-- what the rules name, where this goes on of a machine in a newer layout

abbrev pub ruled_to : {M P E : Type 0} → (M → P) → Next M E → Then M P E
ruled_to pause (Goes m) = On m
ruled_to pause (Learns m) = Paused (pause m)
ruled_to pause (Ends e) = Over e

-- while a newer layout is learnt nothing else is asked
abbrev pub new_asks : {M E : Type 0} → (M → List Out) → ℕ → ℕ → Next M E → List Out
new_asks asks old new (Goes m) = drawn_between old new (asks m)
new_asks asks old new (Learns m) = []
new_asks asks old new (Ends e) = []

-- the first number after those of these requests
abbrev pub after : ℕ → List Out → ℕ
after n [] = n
after n (o ∷ os) = after (n + 1) os

-- a machine sends what goes besides, which takes the first numbers of the step, and the requests that it draws then
abbrev pub by_rules : {M P E : Type 0} → (M → P) → (M → List Out) → ℕ → Turn M E → Shown M P E
by_rules pause asks old t = record { next = t.next; to = ruled_to pause t.to; gone = t.gone; outs = t.besides ++ new_asks asks (after old t.besides) t.next t.to }
