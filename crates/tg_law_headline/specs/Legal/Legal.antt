-- What is left for each run to be legal.
use Rattle.tg_base.specs.Clusters.{Header}
use Rattle.tg_kind.specs.Meaning.{Meaning}
use Rattle.tg_model.specs.Legal.{InOrder, Legal}
use Rattle.tg_protocol.specs.Worlds.{World, trace, history}
use Rattle.tg_protocol.specs.Runs.{Moves, Reaches}
use Rattle.tg_law_walks.specs.Drafts.Parts.{TouchParts}
use Rattle.tg_law_walks.specs.Lists.Spared.{TrimsWereSpare}
use Rattle.tg_law_syncs.specs.Exact.Finds.{HasStates, ViewsLeaveNone}

module _ (m : Meaning) where
  pub record LegalRests (h : Header) (ms : Moves m) (w : World m) : Type 0 where
    -- trims left what is needed
    pub trims : TrimsWereSpare m h ms
    -- states load from what is saved of them
    pub states : HasStates m h w
    -- what a kept view has gone past has a fate, or is decided among the entries
    pub views : ViewsLeaveNone m h ms w
    -- no place precedes a reply that came before its transaction
    pub order : InOrder m (history m w) (trace m w)

  -- over kinds whose ops touch parts of the format
  abbrev pub RunsLegalWhere : Type 0
  RunsLegalWhere = TouchParts m → (h : Header) (ms : Moves m) (w : World m) → Reaches m h ms w → LegalRests h ms w → Legal m w.cluster.objects (history m w) (trace m w)
