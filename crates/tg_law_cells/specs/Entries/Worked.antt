-- A worked run: a client commits, a layout without one of the units and with another sequencer comes, and the client
-- trims what it has committed.
use Rattle.std.specs.Prelude.{◌≡◌, ℕ, zero, suc, ◌+◌, ◌++◌, true, List, [], ◌∷◌, Option, Some, None}
use Rattle.tg_base.specs.Clusters.{Header}
use Rattle.tg_base.specs.declared.cell.Cell.{Cell}
use Rattle.tg_base.specs.declared.marks.Part.TheVariants.{All}
use Rattle.tg_kind.specs.Meaning.{Meaning}
use Rattle.tg_model.specs.declared.command.Command.TheVariants as cmd
use Rattle.tg_model.specs.declared.command.Event.TheVariants.{Command as Commands, Deliver, Tick}
use Rattle.tg_protocol.specs.Words.{directory, client_id, cell_at}
use Rattle.tg_protocol.specs.Worlds.{World, start, unit, latest, log, happens, lowest}
use Rattle.tg_protocol.specs.Runs.{Moves, Takes, Reaches, run}
use Rattle.tg_law_cells.specs.Entries.Archive.{TrimsWereSafe}

abbrev pub one_number : List ℕ → Option ℕ
one_number (n ∷ []) = Some n
one_number ns = None

-- an op adds to a tally, which an ask tells; the directory's tally is its floor
abbrev pub tallies : Meaning
tallies = record {
  state = ℕ;
  op = ℕ;
  ask = ℕ;
  answer = ℕ;
  fresh = λ o os. 0;
  apply = λ s n. s + n;
  answers = λ s q. s;
  touch = λ n. All;
  look = λ q. All;
  save = λ s. s ∷ [];
  load = λ o bytes. one_number bytes;
  spell = λ n. n ∷ [];
  read = λ o bytes. one_number bytes;
  allows = λ o n. true;
  allows_ask = λ o q. true;
  registered = λ s o. true;
  floor = λ s. s;
  mark_op = λ o n. 0;
}

abbrev pub two_units : Header
two_units = record { units = 2; layouts = 1; seqs = 2; clients = 3; limit = 100; chains = (0 ∷ 1 ∷ []) ∷ []; objects = [] }

-- the deliveries by which a world drains, so many at most
unfoldable pub drained : ℕ → World tallies → Moves tallies
drained zero w = []
drained (suc n) w = elim (lowest tallies w.waiting) as (λ _. Moves tallies) [
  | None ↦ []
  | Some i ↦ Takes (Deliver i) ∷ drained n (happens tallies w (Deliver i))
]

-- a run, then further moves, and then a drain
abbrev pub and_drains : Moves tallies → Moves tallies → Moves tallies
and_drains ms more = (ms ++ more) ++ drained 100 (run tallies (ms ++ more) (start tallies two_units))

-- the floor becomes 1
abbrev pub committed : Moves tallies
committed = and_drains [] (Takes (Commands 0 cmd.Begin) ∷ Takes (Commands 0 (cmd.Put directory 1)) ∷ Takes (Commands 0 cmd.End) ∷ [])

-- unit 1 is dropped, and sequencer 1 takes over, which the client asks again once it has scanned the log
abbrev pub reconfigured : Moves tallies
reconfigured = and_drains committed (Takes (Commands 0 (cmd.Reconf (record { seq = 1; drop = 1 ∷ []; opened = []; join = None }))) ∷ [])

abbrev pub asked_again : Moves tallies
asked_again = and_drains reconfigured (Takes (Tick (client_id 0)) ∷ [])

abbrev pub trimmed : Moves tallies
trimmed = and_drains asked_again (Takes (Commands 0 cmd.Trim) ∷ [])

-- A run that trims, of which the premises hold. What was committed is in the log before it and after it; then only the
-- archive has it.
pub record TrimIsSafe (w v : World tallies) : Type 0 where
  pub reached : Reaches tallies two_units trimmed v
  pub safe : TrimsWereSafe tallies two_units trimmed
  pub epoch : (latest tallies v).epoch ≡ 2
  pub sequencer : (latest tallies v).seq ≡ 1
  pub low : (unit tallies v 0).low ≡ 1
  pub cells : (unit tallies v 0).cells ≡ []
  pub cell : Cell
  pub before : log tallies w ≡ (0, cell) ∷ []
  pub after : log tallies v ≡ (0, cell) ∷ []
  pub archived : cell_at v.archive 0 ≡ Some cell

abbrev pub WorkedTrim : Type 0
WorkedTrim = TrimIsSafe (run tallies committed (start tallies two_units)) (run tallies trimmed (start tallies two_units))
