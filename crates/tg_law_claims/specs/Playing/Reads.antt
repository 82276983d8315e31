-- Pointers at work: what clients read.
use Rattle.tg_kind.specs.Meaning.{Meaning}
use Rattle.tg_protocol.specs.Playing.{ReadsOnPath}
use Rattle.tg_law_walks.specs.Lists.Spared.{ByRunsOfSpareTrims}

module _ (m : Meaning) where
  -- Each position that a client ever read is on the path from a tail that it was told, or in a stripe that it was to copy, in each
  -- run in which trims left what is needed.
  abbrev pub ReadsOnPathBySpareTrims : Type 0
  ReadsOnPathBySpareTrims = ByRunsOfSpareTrims m (λ h ms w. ReadsOnPath m ms w)
