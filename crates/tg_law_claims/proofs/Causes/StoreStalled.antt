-- What stays undecided in runs of the store.
use Rattle.std.proofs.Common.{[], ◌∷◌, ◌++◌}
use Rattle.tg_any.specs.AllKinds.{all_kinds}
use Rattle.tg_protocol.specs.Stuck.{StuckTrue}
use Rattle.tg_protocol.specs.Worlds.{happens}
use Rattle.tg_protocol.specs.Runs.{Takes, EachStep}
use Rattle.tg_law_claims.specs.Causes.Undecidings.{UndecidedTrue, UnsureUnlessLacking}
use Rattle.tg_law_claims.proofs.Causes.Causing.{undecided_true as undecided_where, unsure_unless_lacking as unsure_where}
use Rattle.tg_law_headline.proofs.Runs.Finding.{trims, ends, found}
use Rattle.tg_law_claims.proofs.Causes.Stalled.{goes_reach, stuck_true as stuck_where}

pub stuck_true : EachStep all_kinds (StuckTrue all_kinds)
stuck_true h ms w e r lawful few =
    let g = goes_reach all_kinds h ms w e r lawful few in
    stuck_where all_kinds h ms w e r lawful few (trims h (ms ++ Takes e ∷ []) (happens all_kinds w e) g).were

pub undecided_true : EachStep all_kinds (UndecidedTrue all_kinds)
undecided_true h ms w e r lawful few =
    let g = goes_reach all_kinds h ms w e r lawful few in
    undecided_where all_kinds h ms w e r lawful few (trims h (ms ++ Takes e ∷ []) (happens all_kinds w e) g).were (ends h (ms ++ Takes e ∷ []) (happens all_kinds w e) g) (found h (ms ++ Takes e ∷ []) (happens all_kinds w e) g)

pub unsure_unless_lacking : EachStep all_kinds (UnsureUnlessLacking all_kinds)
unsure_unless_lacking h ms w e r lawful few =
    let g = goes_reach all_kinds h ms w e r lawful few in
    unsure_where all_kinds h ms w e r lawful few (trims h (ms ++ Takes e ∷ []) (happens all_kinds w e) g).were (ends h (ms ++ Takes e ∷ []) (happens all_kinds w e) g) (found h (ms ++ Takes e ∷ []) (happens all_kinds w e) g)
