-- A worked run: a client commits, another sequencer takes over from the first by a reconfiguration that drops a unit, and
-- has scanned the log.
use Rattle.std.specs.Prelude.{◌≡◌, false, [], ◌∷◌}
use Rattle.tg_protocol.specs.Words.{directory}
use Rattle.tg_protocol.specs.Sequencers.{SeqrState, scanning}
use Rattle.tg_protocol.specs.Worlds.{World, start, seqr, log}
use Rattle.tg_protocol.specs.Runs.{Reaches, run}
use Rattle.tg_law_cells.specs.Entries.Worked.{tallies, two_units, asked_again}
use Rattle.tg_law_walks.specs.Walks.Lists.{backs, AreGoodLists}
use Rattle.tg_law_walks.specs.Lists.Lists.{Counts}
use Rattle.tg_law_walks.specs.Lists.Spared.{TrimsWereSpare}

-- The premise of the laws on lists holds of the run. The second sequencer serves in the second epoch; it has scanned the
-- one position that is written, and knows of the directory's stream that this is the last of it.
pub record ScanIsDone (v : World tallies) (s : SeqrState) : Type 0 where
  pub reached : Reaches tallies two_units asked_again v
  pub trims : TrimsWereSpare tallies two_units asked_again
  pub ready : scanning s ≡ false
  pub epoch : s.epoch ≡ 2
  pub next : s.next ≡ 1
  pub counts : Counts tallies v s.epoch s.next
  pub last : backs directory s.lists ≡ 0 ∷ []
  pub good : AreGoodLists (log tallies v) s.next s.lists

abbrev pub WorkedScan : Type 0
WorkedScan = ScanIsDone (run tallies asked_again (start tallies two_units)) (seqr tallies (run tallies asked_again (start tallies two_units)) 1)
