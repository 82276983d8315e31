-- In each run in which trims left what is needed clients read on paths, and in stripes that they were to copy; so in each run of the
-- store.
use Rattle.std.proofs.Common.{◌≡◌, ℕ, ◌++◌, sym, subst}
use Rattle.tg_base.specs.Clusters.{Header}
use Rattle.tg_any.specs.AllKinds.{all_kinds}
use Rattle.tg_kind.specs.Meaning.{Meaning}
use Rattle.tg_protocol.specs.Worlds.{client, log}
use Rattle.tg_protocol.specs.Runs.{Moves, Reaches, AlwaysBy}
use Rattle.tg_protocol.specs.Playing.{ReadsOnPath}
use Rattle.tg_law_layouts.specs.Moves.After.{after}
use Rattle.tg_law_walks.specs.Lists.Spared.{TrimsWereSpare}
use Rattle.tg_law_walks.specs.Walks.Rounds.{IsAtWork}
use Rattle.tg_law_walks.proofs.Lists.Reached.{before_reached}
use Rattle.tg_law_walks.proofs.Lists.Telling.{entries_are_good}
use Rattle.tg_law_syncs.proofs.Exact.Held.{goes_on, clients_work}
use Rattle.tg_law_headline.proofs.Store.Steps.{store_trims_are_spare}
use Rattle.tg_law_headline.proofs.Joint.Holding.{steps_hold}
use Rattle.tg_law_claims.specs.Playing.Reads.{ReadsOnPathBySpareTrims}
use Rattle.tg_law_claims.proofs.Playing.Heeding.{on_paths}

module _ (m : Meaning) (h : Header) (ms : Moves m) (r : Reaches m h ms (after m h ms)) (trims : TrimsWereSpare m h ms) where
  works : (xs ys : Moves m) → ms ≡ xs ++ ys → (k : ℕ) → IsAtWork m (log m (after m h ms)) (client m (after m h xs) k) (client m (after m h xs) k).work
  works xs ys split k = (clients_work m h xs (after m h xs) (after m h ms) (before_reached m h ms r xs ys split) (ys, goes_on m h ms r xs ys split) (subst (TrimsWereSpare m h) split trims)).work k

  here : ReadsOnPath m ms (after m h ms)
  here = on_paths m h ms r (entries_are_good m h ms (after m h ms) r trims) works

pub reads_on_path_where : (m : Meaning) → ReadsOnPathBySpareTrims m
reads_on_path_where m h ms w r trims = subst (ReadsOnPath m ms) (sym r.goes.is) (here m h ms (subst (Reaches m h ms) r.goes.is r) trims)

pub reads_on_path : AlwaysBy all_kinds (λ h ms w. ReadsOnPath all_kinds ms w)
reads_on_path h ms w r = reads_on_path_where all_kinds h ms w r (store_trims_are_spare h ms w r (steps_hold h ms w r)).were
