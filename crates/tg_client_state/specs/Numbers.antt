-- The numbers of a machine's requests after a step.
use Rattle.std.specs.Prelude.{◌≡◌, ⊤, ℕ, ◌≤◌, Bool, true, nat_le, List}
use Rattle.std.specs.List.{list_all}
use Rattle.tg_base.specs.declared.packet.Out.{Out}
use Rattle.tg_protocol.specs.Requests.{Next, Goes, Learns, Ends, Turn, drawn_from}
use Rattle.tg_chain.specs.Turns.{drawn_between}
use Rattle.tg_append.specs.Turns.{after}
use Rattle.tg_reconf.specs.Turns.{all_drawn}

-- each number of a machine was drawn before this one
abbrev pub ThenDrawn : {M E : Type 0} → (M → List Out) → ℕ → Next M E → Type 0
ThenDrawn asks next (Goes m) = all_drawn next (asks m) ≡ true
ThenDrawn asks next (Learns m) = all_drawn next (asks m) ≡ true
ThenDrawn asks next (Ends e) = ⊤

-- the requests from the step's first number on are those that the machine has drawn in the step, past what went besides
abbrev pub ThenNew : {M E : Type 0} → (M → List Out) → ℕ → ℕ → ℕ → Next M E → Type 0
ThenNew asks old from next (Goes m) = drawn_from old (asks m) ≡ drawn_between from next (asks m)
ThenNew asks old from next (Learns m) = ⊤
ThenNew asks old from next (Ends e) = ⊤

-- a step that begins with a number
pub record FitsNumbers {M E : Type 0} (asks : M → List Out) (old : ℕ) (t : Turn M E) : Type 0 where
  pub grows : old ≤ t.next
  pub drawn : ThenDrawn asks t.next t.to
  pub new : ThenNew asks old (after old t.besides) t.next t.to

-- each number was drawn at this one or later
abbrev pub all_from : ℕ → List Out → Bool
all_from old outs = list_all (λ o. nat_le old o.rid) outs

abbrev pub ThenFresh : {M E : Type 0} → (M → List Out) → ℕ → Next M E → Type 0
ThenFresh asks old (Goes m) = all_from old (asks m) ≡ true
ThenFresh asks old (Learns m) = ⊤
ThenFresh asks old (Ends e) = ⊤

-- a machine that begins: each of its requests is a new one
pub record BeginsNumbers {M E : Type 0} (asks : M → List Out) (old : ℕ) (t : Turn M E) : Type 0 where
  pub fits : FitsNumbers asks old t
  pub fresh : ThenFresh asks old t.to
