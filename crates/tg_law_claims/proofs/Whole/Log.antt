-- There is one log in every run of the store.
use Rattle.std.proofs.Common.{[], ◌∷◌, ◌++◌, subst, append_assoc}
use Rattle.tg_any.specs.AllKinds.{all_kinds}
use Rattle.tg_protocol.specs.Worlds.{happens}
use Rattle.tg_protocol.specs.Runs.{Moves, Takes, Reaches, EachStep, EachLater}
use Rattle.tg_protocol.specs.Claims.{OneLog}
use Rattle.tg_protocol.specs.Holding.{LogStays}
use Rattle.tg_protocol.specs.Playing.{SyncsExact}
use Rattle.tg_law_layouts.proofs.Layouts.Deciding.{one_layout, latest_decided, layouts_follow}
use Rattle.tg_law_cells.proofs.Entries.Archive.{cells_stay}
use Rattle.tg_law_walks.proofs.Drafts.Drafts.{entries_are_linked}
use Rattle.tg_law_walks.proofs.Walks.Reading.{reaches_later}
use Rattle.tg_law_syncs.proofs.Exact.Exact.{syncs_exact}
use Rattle.tg_law_headline.proofs.Runs.Holding.{logs_hold, runs_hold}
use Rattle.tg_law_claims.proofs.Forgetting.Serial.{serial_first}
use Rattle.tg_law_claims.proofs.Playing.Ended.{reaches_on}
use Rattle.tg_law_claims.proofs.Playing.OfStore.{plays_on}
use Rattle.tg_law_claims.proofs.Playing.Roads.{reads_on_path}

stays : EachLater all_kinds (LogStays all_kinds)
stays h ms w v r l = cells_stay all_kinds h ms w v r l (logs_hold h (ms ++ l.0) v (reaches_later all_kinds h ms w v r l)).trims.were.safe

exact : EachStep all_kinds (SyncsExact all_kinds)
exact h ms w e r lawful less later l k x o =
    let on : Reaches all_kinds h (ms ++ Takes e ∷ l.0) later =
    subst (λ (zs : Moves all_kinds). Reaches all_kinds h zs later) (append_assoc ms (Takes e ∷ []) l.0)
    (reaches_later all_kinds h (ms ++ Takes e ∷ []) (happens all_kinds w e) later (reaches_on all_kinds h ms w e r lawful less) l) in
    syncs_exact all_kinds h ms w e r lawful less later l (logs_hold h (ms ++ Takes e ∷ l.0) later on).trims.were k x o

pub one_log : OneLog all_kinds
one_log = record {
  one_layout = one_layout all_kinds;
  latest_decided = latest_decided all_kinds;
  layouts_follow = layouts_follow all_kinds;
  cells_stay = stays;
  once = λ h ms w r. (logs_hold h ms w r).once;
  linked = entries_are_linked all_kinds;
  own = λ h ms w r. (logs_hold h ms w r).own;
  records_own = λ h ms w r. (logs_hold h ms w r).records;
  replies_have_records = λ h ms w r. (logs_hold h ms w r).replies;
  exact_syncs = exact;
  pointers_at_work = reads_on_path;
  order = λ h ms w r. (runs_hold h ms w r).order;
  playing_on = plays_on;
  serial = serial_first;
}
