-- Which packets wait, that is were neither delivered nor lost: a row with a place for each that was sent, which is open
-- while the packet waits.
use Rattle.std.specs.Prelude.{ℕ, ◌+◌, Bool, true, false, List, [], ◌∷◌}
use Rattle.std.specs.List.{position_or_len}

pub record Waits : Type 0 where
  pub sent : ℕ
  pub numbers : List ℕ  -- of those that wait, rising

abbrev pub nothing_sent : Waits
nothing_sent = record { sent = 0; numbers = [] }

-- the numbers of the open places, where the first place has this number
abbrev pub open_from : ℕ → List Bool → List ℕ
open_from n [] = []
open_from n (true ∷ ws) = n ∷ open_from (n + 1) ws
open_from n (false ∷ ws) = open_from (n + 1) ws

-- the first open place, or how many places there are where none is open
abbrev pub first_open : List Bool → ℕ
first_open ws = position_or_len (λ w. w) ws
