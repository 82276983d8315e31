-- A run over kinds that break what the kinds of this store keep, in which the log doesn't keep its cells: so that claim
-- wants a premise.
use Rattle.std.specs.Prelude.{ℕ, zero, suc, ◌++◌, nat_lt, true, false, [], ◌∷◌, map, Some, None}
use Rattle.tg_model.specs.declared.command.Command.TheVariants as cmd
use Rattle.tg_model.specs.declared.command.Event.TheVariants.{Command as Commands, Deliver, Lose, Tick}
use Rattle.tg_protocol.specs.Words.{directory, client_id}
use Rattle.tg_protocol.specs.Worlds.{World, start, unit, happens, lowest}
use Rattle.tg_protocol.specs.Runs.{Moves, Takes, EachLater, run}
use Rattle.tg_protocol.specs.Holding.{LogStays}
use Rattle.tg_law_cells.specs.Entries.Worked.{tallies, two_units, drained, and_drains}

-- A floor past what is settled.

-- the directory's tally, and so its floor, is 2
abbrev pub floor_two : Moves tallies
floor_two = and_drains [] (Takes (Commands 0 cmd.Begin) ∷ Takes (Commands 0 (cmd.Put directory 2)) ∷ Takes (Commands 0 cmd.End) ∷ [])

-- Client 0 trims: the sequencer tells it the tail 1. Only then client 1 gets position 1, and unit 0 has its page.
abbrev pub half_written : Moves tallies
half_written = floor_two ++ Takes (Commands 0 cmd.Trim) ∷ Takes (Deliver 6)
    ∷ Takes (Commands 1 cmd.Begin) ∷ Takes (Commands 1 (cmd.Put directory 1)) ∷ Takes (Commands 1 cmd.End) ∷ Takes (Deliver 8) ∷ Takes (Deliver 9) ∷ Takes (Deliver 10) ∷ Takes (Lose 11) ∷ []

-- deliveries until unit 0 has trimmed
unfoldable pub until_trimmed : ℕ → World tallies → Moves tallies
until_trimmed zero w = []
until_trimmed (suc n) w = elim (nat_lt 0 (unit tallies w 0).low) as (λ _. Moves tallies) [
  | true ↦ []
  | false ↦ elim (lowest tallies w.waiting) as (λ _. Moves tallies) [
    | None ↦ []
    | Some i ↦ Takes (Deliver i) ∷ until_trimmed n (happens tallies w (Deliver i))
  ]
]

-- all that waits is lost
abbrev pub and_loses : Moves tallies → Moves tallies
and_loses ms = ms ++ map (λ (i : ℕ). Takes (Lose i)) (run tallies ms (start tallies two_units)).waiting

abbrev pub half_trimmed : Moves tallies
half_trimmed = and_loses (half_written ++ until_trimmed 100 (run tallies half_written (start tallies two_units)))

-- moves after a run, and then a drain
abbrev pub then_drains : Moves tallies → Moves tallies → Moves tallies
then_drains ms more = more ++ drained 100 (run tallies more (run tallies ms (start tallies two_units)))

-- unit 0 is dropped, and client 2 gets position 1 in the new layout
abbrev pub rest : Moves tallies
rest =
    let a = then_drains half_trimmed (Takes (Commands 2 (cmd.Reconf (record { seq = 1; drop = 0 ∷ []; opened = []; join = None }))) ∷ []) in
    let b = a ++ then_drains (half_trimmed ++ a) (Takes (Tick (client_id 2)) ∷ []) in
    b ++ then_drains (half_trimmed ++ b) (Takes (Commands 2 cmd.Begin) ∷ Takes (Commands 2 (cmd.Put directory 1)) ∷ Takes (Commands 2 cmd.End) ∷ [])

abbrev pub CellsWantSafeTrims : Type 0
CellsWantSafeTrims = EachLater tallies (LogStays tallies) → ⊥
