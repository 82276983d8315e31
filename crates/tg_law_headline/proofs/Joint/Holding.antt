-- Every step of every run of the store holds.
use Rattle.std.proofs.Common.{◌≡◌, true, arith}
use Rattle.std.proofs.lemmas.Bool.Decides.{nat_tests}
use Rattle.tg_base.specs.declared.ids.Oid.{Oid}
use Rattle.tg_entry.specs.Records as records
use Rattle.tg_dir.specs.Spellings.{is_number}
use Rattle.tg_any.specs.Anys.{is_op}
use Rattle.tg_any.specs.AllKinds.{all_kinds}
use Rattle.tg_law_headline.proofs.AllKinds.Keeps.{kinds_keep_directory}
use Rattle.tg_law_headline.proofs.AllKinds.Touching.{kinds_touch_parts}
use Rattle.tg_law_headline.proofs.Origins.Origins.{checkpoints_follow_walks, marks_follow_walks}
use Rattle.tg_law_headline.specs.Joint.Joint.{JointRests, EachStepHolds}
use Rattle.tg_law_headline.proofs.Joint.Steps.{steps_hold_where}

-- an object of a record has an object's number
objects_numbered : (o : Oid) → records.is_object o ≡ true → is_number o ≡ true
objects_numbered o e = grind (arith, nat_tests)

rests : JointRests all_kinds is_number
rests = record {
  checkpoints = checkpoints_follow_walks all_kinds kinds_touch_parts;
  marks = marks_follow_walks all_kinds is_number is_op kinds_keep_directory objects_numbered;
}

pub steps_hold : EachStepHolds
steps_hold h ms w r = steps_hold_where rests h ms w r
