-- The order of transactions and of replies, in every run in which trims were spare.
use Rattle.tg_kind.specs.Meaning.{Meaning}
use Rattle.tg_model.specs.Stores.{Rises}
use Rattle.tg_model.specs.Legal.{InOrder}
use Rattle.tg_protocol.specs.Worlds.{World, trace, history}
use Rattle.tg_protocol.specs.Holding.{RecordsInOrder}
use Rattle.tg_law_walks.specs.Lists.Spared.{ByRunsOfSpareTrims}

module _ (m : Meaning) where
  -- the stamps of a world's history rise, whatever the world
  abbrev pub HistoriesRise : Type 0
  HistoriesRise = (w : World m) → Rises m (history m w)

  -- no place precedes a reply that came before the transaction's begin
  abbrev pub OrderBySpareTrims : Type 0
  OrderBySpareTrims = ByRunsOfSpareTrims m (λ h ms w. InOrder m (history m w) (trace m w))

  -- nor does the transaction's record
  abbrev pub RecordsOrderBySpareTrims : Type 0
  RecordsOrderBySpareTrims = ByRunsOfSpareTrims m (λ h ms w. RecordsInOrder m w)
