-- In every run of the store the log's floors rest on checkpoints.
use Rattle.std.proofs.Common.{◌≡◌, true, arith}
use Rattle.std.proofs.lemmas.Bool.Decides.{nat_tests}
use Rattle.tg_base.specs.Clusters.{Header}
use Rattle.tg_base.specs.declared.ids.Oid.{Oid}
use Rattle.tg_entry.specs.Records as records
use Rattle.tg_dir.specs.Spellings.{is_number}
use Rattle.tg_any.specs.Anys.{is_op}
use Rattle.tg_any.specs.AllKinds.{all_kinds}
use Rattle.tg_protocol.specs.Runs.{Moves, Reaches}
use Rattle.tg_law_layouts.specs.Moves.After.{after}
use Rattle.tg_law_replies.specs.Replies.Ended.{AppendsEnd}
use Rattle.tg_law_replies.specs.Replies.Laws.{ClientsFind}
use Rattle.tg_law_walks.proofs.Lists.Reached.{before_reached}
use Rattle.tg_law_walks.proofs.Checkpoints.Checkpoints.{entries_own, appends_end}
use Rattle.tg_law_syncs.specs.Exact.Finds.{ViewsLeaveNone}
use Rattle.tg_law_syncs.proofs.Exact.Fits.{finds, views_fit}
use Rattle.tg_law_syncs.proofs.Follow.Saves.{saves_precede}
use Rattle.tg_law_headline.specs.Trims.Spare.{TrimsAre}
use Rattle.tg_law_headline.specs.Trims.Floors.{FloorsRest}
use Rattle.tg_law_headline.proofs.Floors.Swept.{tails_are_whole}
use Rattle.tg_law_headline.proofs.AllKinds.Holds.{kinds_have_directory}
use Rattle.tg_law_headline.proofs.AllKinds.Keeps.{kinds_keep_directory}
use Rattle.tg_law_headline.proofs.AllKinds.Touching.{kinds_touch_parts}
use Rattle.tg_law_headline.proofs.Origins.Origins.{checkpoints_follow_walks, marks_follow_walks}
use Rattle.tg_law_headline.proofs.Registered.Roots.{tokens_follow_registrations}
use Rattle.tg_law_headline.proofs.Store.States.{store_has_states}
use Rattle.tg_law_headline.proofs.Store.Steps.{views_here}
use Rattle.tg_law_headline.specs.Joint.Joint.{JointRests, EachOwns}
use Rattle.tg_law_headline.proofs.Joint.Holding.{steps_hold}
use Rattle.tg_law_headline.proofs.Joint.Resting.{marks_rest_where}
use Rattle.tg_law_headline.proofs.Runs.Holding.{logs_hold}

-- an object of a record has an object's number
pub objects_numbered : (o : Oid) → records.is_object o ≡ true → is_number o ≡ true
objects_numbered o e = grind (arith, nat_tests)

pub joints : JointRests all_kinds is_number
joints = record {
  checkpoints = checkpoints_follow_walks all_kinds kinds_touch_parts;
  marks = marks_follow_walks all_kinds is_number is_op kinds_keep_directory objects_numbered;
}

pub owns : EachOwns all_kinds
owns h ms w r = entries_own all_kinds kinds_touch_parts h ms w r

module _ (h : Header) (ms : Moves all_kinds) (r : Reaches all_kinds h ms (after all_kinds h ms)) where
  pub trims : TrimsAre all_kinds h ms (after all_kinds h ms)
  trims = (logs_hold h ms (after all_kinds h ms) r).trims

  ends : AppendsEnd all_kinds h ms (after all_kinds h ms)
  ends = appends_end all_kinds kinds_touch_parts h ms (after all_kinds h ms) r trims.were.safe

  views : ViewsLeaveNone all_kinds h ms (after all_kinds h ms)
  views = views_here h ms r (steps_hold h ms (after all_kinds h ms) r) trims.were

  -- what clients find of the log, where they have walked
  found : ClientsFind all_kinds h ms (after all_kinds h ms)
  found =
      finds all_kinds h ms (after all_kinds h ms) r trims.were (λ before rest split. owns h before (after all_kinds h before) (before_reached all_kinds h ms r before rest split))
      (saves_precede all_kinds h ms (after all_kinds h ms) r trims.were (owns h ms (after all_kinds h ms) r))
      (views_fit all_kinds h ms (after all_kinds h ms) (store_has_states h ms (after all_kinds h ms) r trims.were.safe) views)

  pub floors_rest : FloorsRest all_kinds is_number h.objects (after all_kinds h ms)
  floors_rest = record {
    tails = tails_are_whole all_kinds h ms (after all_kinds h ms) r trims.were;
    tokens = tokens_follow_registrations all_kinds is_number is_op kinds_have_directory h ms (after all_kinds h ms) r trims.were found ends;
    marks = λ pos e x o mark object here commits writes to is. marks_rest_where all_kinds is_number joints owns h ms (after all_kinds h ms) r trims.were pos e x o mark object here writes to is;
  }
