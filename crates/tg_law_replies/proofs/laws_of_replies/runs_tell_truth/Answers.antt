use Rattle.tg_law_replies.proofs.Replies.Rescues.{runs_tell_truth}
use Rattle.tg_law_replies.proofs.laws_of_replies.runs_tell_truth.Goals as goal

pub returns : goal.returns
returns g c = runs_tell_truth _
