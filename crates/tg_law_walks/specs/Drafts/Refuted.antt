-- A checkpoint over kinds whose ops touch what no part of the format is: it is read back with another part, and so isn't
-- the draft that its client had begun to append.
use Rattle.std.specs.Prelude.{ℕ, zero, suc, ◌+◌, ◌^◌, ◌++◌, true, [], ◌∷◌, Some, None}
use Rattle.tg_base.specs.declared.marks.Part.TheVariants.{All, Num}
use Rattle.tg_kind.specs.Meaning.{Meaning}
use Rattle.tg_model.specs.declared.command.Command.TheVariants as cmd
use Rattle.tg_model.specs.declared.command.Event.TheVariants.{Command as Commands, Deliver}
use Rattle.tg_protocol.specs.Words.{directory}
use Rattle.tg_protocol.specs.Worlds.{World, start, happens, lowest}
use Rattle.tg_protocol.specs.Runs.{Moves, Takes, AlwaysBy, run}
use Rattle.tg_protocol.specs.Holding.{EntriesOwn}
use Rattle.tg_law_cells.specs.Entries.Worked.{one_number, two_units}

-- an op adds to a tally, and touches a number of more than 64 bits
abbrev pub far_tallies : Meaning
far_tallies = record {
  state = ℕ;
  op = ℕ;
  ask = ℕ;
  answer = ℕ;
  fresh = λ o os. 0;
  apply = λ s n. s + n;
  answers = λ s q. s;
  touch = λ n. Num (2 ^ 64);
  look = λ q. All;
  save = λ s. s ∷ [];
  load = λ o bytes. one_number bytes;
  spell = λ n. n ∷ [];
  read = λ o bytes. one_number bytes;
  allows = λ o n. true;
  allows_ask = λ o q. true;
  registered = λ s o. true;
  floor = λ s. s;
  mark_op = λ o n. 0;
}

-- the deliveries by which a world drains, so many at most
unfoldable pub far_drained : ℕ → World far_tallies → Moves far_tallies
far_drained zero w = []
far_drained (suc n) w = elim (lowest far_tallies w.waiting) as (λ _. Moves far_tallies) [
  | None ↦ []
  | Some i ↦ Takes (Deliver i) ∷ far_drained n (happens far_tallies w (Deliver i))
]

abbrev pub far_drains : Moves far_tallies → Moves far_tallies → Moves far_tallies
far_drains ms more = (ms ++ more) ++ far_drained 100 (run far_tallies (ms ++ more) (start far_tallies two_units))

-- a client commits to the directory
abbrev pub far_committed : Moves far_tallies
far_committed = far_drains [] (Takes (Commands 0 cmd.Begin) ∷ Takes (Commands 0 (cmd.Put directory 1)) ∷ Takes (Commands 0 cmd.End) ∷ [])

-- and saves it
abbrev pub far_saved : Moves far_tallies
far_saved = far_drains far_committed (Takes (Commands 0 (cmd.Host directory)) ∷ Takes (Commands 0 (cmd.Checkpoint directory)) ∷ [])

abbrev pub CheckpointsWantParts : Type 0
CheckpointsWantParts = AlwaysBy far_tallies (EntriesOwn far_tallies) → ⊥
