-- Every run of the store holds.
use Rattle.std.proofs.Common.{◌≡◌, refl, Some, None}
use Rattle.std.specs.Prelude.{Contains}
use Rattle.tg_base.specs.Clusters.{Header}
use Rattle.tg_protocol.specs.Appending.{At}
use Rattle.tg_protocol.specs.Worlds.{World, Told}
use Rattle.tg_protocol.specs.Alike.{Alike, LogAgrees}
use Rattle.tg_model.specs.Kinds.{WhatOf}
use Rattle.tg_model.specs.declared.trace.What.TheVariants as told
use Rattle.tg_protocol.specs.Runs.{Moves, Reaches}
use Rattle.tg_any.specs.AllKinds.{all_kinds}
use Rattle.tg_law_layouts.specs.Moves.After.{after}
use Rattle.tg_law_replies.specs.Replies.Laws.{WritesTruth}
use Rattle.tg_law_replies.specs.Replies.Outcomes.{TellsOutcomes}
use Rattle.tg_law_walks.proofs.Once.Once.{entries_stand_once}
use Rattle.tg_law_walks.proofs.Once.Owning.{records_own}
use Rattle.tg_law_syncs.specs.Follow.Laws.{SavesEnd}
use Rattle.tg_law_syncs.proofs.Follow.Legal.{replies_recorded}
use Rattle.tg_law_headline.specs.Headline.Store.{StoreHolds}
use Rattle.tg_law_headline.proofs.Headline.Store.{store_runs_hold}
use Rattle.tg_law_headline.proofs.Joint.Holding.{steps_hold}
use Rattle.tg_law_headline.specs.Alike.Rows.{AlikeRows}
use Rattle.tg_law_headline.specs.Runs.Logs.{EachLogHolds}
use Rattle.tg_law_headline.specs.Runs.Runs.{EachRunHolds}
use Rattle.tg_law_headline.proofs.Alike.Told.{alike_rows}
use Rattle.tg_law_headline.proofs.Runs.Finding.{trims, ends, own, found}

store_holds : (h : Header) (ms : Moves all_kinds) (w : World all_kinds) → Reaches all_kinds h ms w → StoreHolds w
store_holds h ms w reach = store_runs_hold h ms w reach (steps_hold h ms w reach)

saves : (h : Header) (ms : Moves all_kinds) (w : World all_kinds) (r : Reaches all_kinds h ms w) → SavesEnd all_kinds h ms w
saves h ms w r before after e split k p a page has ended tag = ends h ms w r before after e split k a (At p page) has ended

pub logs_hold : EachLogHolds
logs_hold h ms w r = record {
  trims = trims h ms w r;
  own = own h ms w r;
  once = entries_stand_once all_kinds h ms w r (trims h ms w r).were.safe;
  records = records_own all_kinds h ms w r (trims h ms w r).were.safe;
  replies = replies_recorded all_kinds h ms w r (trims h ms w r).were (saves h ms w r);
  rows = alike_rows all_kinds h ms w r (trims h ms w r).were (found h ms w r) (ends h ms w r) (store_holds h ms w r).outcomes (store_holds h ms w r).legal;
}

-- What replies tell of the log agrees with it, by the rows.
module _ (w : World all_kinds) (o : TellsOutcomes all_kinds w) (d : WritesTruth all_kinds w) (x : AlikeRows all_kinds w) where
  agrees : (t : Told all_kinds) → Contains w.told t → (what : WhatOf all_kinds) → t.mark.what ≡ what → LogAgrees all_kinds w t what
  agrees t i told.Begin is = tt
  agrees t i (told.Put oid op) is = tt
  agrees t i (told.Asked oid q at a) is = tt
  agrees t i told.End is = tt
  agrees t i (told.Committed p) is = tt
  agrees t i (told.Aborted p oid k seen now) is = x.aborts t p oid k seen now i is
  agrees t i (told.Unsure p q) is = x.unsure t p q i is
  agrees t i told.Dropped is = tt
  agrees t i (told.Hosted oid) is = tt
  agrees t i (told.Fate p None) is = tt
  agrees t i (told.Fate p (Some b)) is = o.fate t p b i is
  agrees t i (told.Decided p None) is = tt
  agrees t i (told.Decided p (Some b)) is = o.decided t p b i is
  agrees t i (told.Saved oid p u) is = x.saves t oid p u i is
  agrees t i (told.Marked oid n) is = tt
  agrees t i (told.Trimmed n) is = x.trims t n i is
  agrees t i (told.Installed e) is = tt
  agrees t i (told.Refused why) is = tt
  agrees t i (told.Copied u r s) is = x.copies t u r s i is
  agrees t i (told.Past oid q p a) is = tt
  agrees t i (told.Rescued p b) is = tt

  alike : Alike all_kinds w
  alike = record {
    decisions = d.decisions;
    fates = o.kept;
    marks = λ t i. agrees t i t.mark.what refl;
    committed = x.commits;
    marked = x.marks;
    installed = x.installs;
    overtaken = x.overtakes;
    committed_recorded = x.commits_recorded;
    aborted_recorded = x.aborts_recorded;
    decided_recorded = x.decisions_recorded;
  }

pub runs_hold : EachRunHolds
runs_hold h ms w r = record {
  headline = record { rises = s.rises; legal = s.legal; alike = alike w s.outcomes s.writes (logs_hold h ms w r).rows; past = s.past; rescues = s.rescues };
  order = s.order;
  checkpoints = s.writes.checkpoints;
}
  where
    s : StoreHolds w
    s = store_holds h ms w r
