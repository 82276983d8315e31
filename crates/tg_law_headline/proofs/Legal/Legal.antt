-- Legal runs, by what is left of them.
use Rattle.std.proofs.Common.{subst}
use Rattle.tg_base.specs.Clusters.{Header}
use Rattle.tg_kind.specs.Meaning.{Meaning}
use Rattle.tg_protocol.specs.Worlds.{World}
use Rattle.tg_protocol.specs.Runs.{Moves, Reaches}
use Rattle.tg_law_layouts.specs.Moves.After.{after}
use Rattle.tg_law_replies.specs.History.Worlds.{entries_in}
use Rattle.tg_law_replies.proofs.History.States.{Apart}
use Rattle.tg_law_walks.specs.Drafts.Parts.{TouchParts}
use Rattle.tg_law_walks.proofs.Lists.Reached.{before_reached}
use Rattle.tg_law_syncs.specs.Finds.Left.{PassesOwn, SavesPrecede}
use Rattle.tg_law_replies.specs.Replies.Laws.{ClientsFind}
use Rattle.tg_law_walks.proofs.Checkpoints.Checkpoints.{entries_own, appends_end}
use Rattle.tg_law_syncs.proofs.Exact.Fits.{finds, views_fit}
use Rattle.tg_law_syncs.specs.Follow.Laws.{SavesEnd}
use Rattle.tg_law_syncs.proofs.Follow.Saves.{saves_precede}
use Rattle.tg_law_syncs.proofs.Follow.Legal.{runs_legal}
use Rattle.tg_law_headline.specs.Legal.Legal.{LegalRests, RunsLegalWhere}

module _ (m : Meaning) where
  module _ (parts : TouchParts m) (h : Header) (ms : Moves m) (w : World m) (r : Reaches m h ms w) (x : LegalRests m h ms w) where
    own : PassesOwn m h ms w
    own before rest split = entries_own m parts h before (after m h before) (before_reached m h ms (subst (Reaches m h ms) r.goes.is r) before rest split)

    precede : SavesPrecede m (entries_in m w)
    precede = saves_precede m h ms w r x.trims (entries_own m parts h ms w r)

    found : ClientsFind m h ms w
    found = finds m h ms w r x.trims own precede (views_fit m h ms w x.states x.views)

    saves_end : SavesEnd m h ms w
    saves_end before rest e split k p a page has ended tag = appends_end m parts h ms w r x.trims.safe before rest e split k a _ has ended

  pub runs_are_legal : Apart m → RunsLegalWhere m
  runs_are_legal apart parts h ms w r x =
      runs_legal m apart h ms w r x.trims (found parts h ms w r x) (saves_end parts h ms w r x) (λ p e i tag. entries_own m parts h ms w r p e i) x.order
