-- Nodes of one role in a row.
use Rattle.std.specs.Prelude.{ℕ, ◌≤◌, List, [], ◌∷◌, map}
use Rattle.tg_protocol.specs.Sequencers.{SeqrState}
use Rattle.tg_seqr.specs.Counted.{Counted}

abbrev pub state_of : Counted → SeqrState
state_of c = c.state

abbrev pub states_of : List Counted → List SeqrState
states_of cs = map state_of cs

-- none has taken more steps than the world
abbrev pub AreCounted : ℕ → List Counted → Type 0
AreCounted steps [] = Unit {0}
AreCounted steps (c ∷ cs) = (c.calls ≤ steps) × AreCounted steps cs
