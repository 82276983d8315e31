-- The lists of sequencers, in every run.
use Rattle.std.specs.Prelude.{◌≡◌, ℕ, ◌+◌, ◌<◌, ◌≤◌, false, ◌++◌}
use Rattle.tg_base.specs.Clusters.{Header}
use Rattle.tg_base.specs.Layouts.{Layout}
use Rattle.tg_kind.specs.Meaning.{Meaning}
use Rattle.tg_protocol.specs.Sequencers.{scanning}
use Rattle.tg_protocol.specs.Worlds.{World, seqr, log}
use Rattle.tg_protocol.specs.Runs.{Moves, Reaches, Later}
use Rattle.tg_protocol.specs.Chosen.{IsDecided}
use Rattle.tg_law_walks.specs.Walks.Lists.{AreGoodLists}
use Rattle.tg_law_walks.specs.Walks.Seqrs.{IsSeqr}
use Rattle.tg_law_walks.specs.Lists.Spared.{TrimsWereSpare}

module _ (m : Meaning) where
  -- A position counts in an epoch of a world where the next epoch's layout, if one is decided, doesn't start below it; and
  -- none does in epoch 0, in which no layout is.
  pub record Counts (v : World m) (epoch pos : ℕ) : Type 0 where
    pub some : 0 < epoch
    pub before : (q : Layout) → IsDecided m v (epoch + 1) q → pos ≤ q.start

  -- bounds of epochs up to which all positions count
  abbrev pub AreBounds : World m → (ℕ → ℕ) → Type 0
  AreBounds v bound = (epoch : ℕ) → 0 < bound epoch → Counts v epoch (bound epoch)

  -- Each sequencer's lists and scan are true of the log of a later world, up to where the next epoch starts.
  abbrev pub SeqrsTrue : World m → World m → Type 0
  SeqrsTrue w v = (bound : ℕ → ℕ) → AreBounds v bound → (s : ℕ) → IsSeqr (log m v) bound (seqr m w s)

  -- So a sequencer that doesn't scan knows of each stream the last four positions: its list lacks no entry that the log
  -- has below its next position, down to where the list tells, as long as that position counts.
  abbrev pub ListsKnown : World m → World m → Type 0
  ListsKnown w v = (s : ℕ) → scanning (seqr m w s) ≡ false → Counts v (seqr m w s).epoch (seqr m w s).next → AreGoodLists (log m v) (seqr m w s).next (seqr m w s).lists

  -- What holds of each world and each later one of every run in which trims were spare.
  abbrev pub EachLaterBySpareTrims : (World m → World m → Type 0) → Type 0
  EachLaterBySpareTrims P = (h : Header) (ms : Moves m) (w v : World m) → Reaches m h ms w → (l : Later m w v) → TrimsWereSpare m h (ms ++ l.0) → P w v
