-- Where replies tell that records stand.
use Rattle.std.proofs.Common.{ℕ}
use Rattle.tg_base.specs.Clusters.{Header}
use Rattle.tg_model.specs.declared.trace.What.TheVariants as told
use Rattle.tg_model.specs.Kinds.{WhatOf}
use Rattle.tg_protocol.specs.Holding.{HasItsRecord}
use Rattle.tg_protocol.specs.Worlds.{World}
use Rattle.tg_protocol.specs.Runs.{Moves, Reaches}
use Rattle.tg_any.specs.AllKinds.{all_kinds}
use Rattle.tg_law_headline.proofs.Runs.Holding.{logs_hold}
use Rattle.tg_law_programs.specs.Transcripts.Fits.{TellsBelow, EachTellsBelow}
use Rattle.tg_law_programs.proofs.Transcripts.Places.{places_near}

below_of : (h : Header) (ms : Moves all_kinds) (w : World all_kinds) → Reaches all_kinds h ms w → (k x : ℕ) (what : WhatOf all_kinds) → HasItsRecord all_kinds w k x what → TellsBelow w k x what
below_of h ms w r k x (told.Committed p) f = λ puts. let e = f puts in places_near all_kinds h ms w r p e.record_at e.here
below_of h ms w r k x (told.Aborted p o part seen now) e = places_near all_kinds h ms w r p e.record_at e.here
below_of h ms w r k x (told.Unsure p q) e = places_near all_kinds h ms w r p e.record_at e.here
below_of h ms w r k x (told.Saved o p u) e = places_near all_kinds h ms w r p e.entry e.here
below_of h ms w r k x what e = tt

pub records_below : EachTellsBelow
records_below h ms w r t i = below_of h ms w r t.mark.client t.mark.tx t.mark.what ((logs_hold h ms w r).replies t i)
