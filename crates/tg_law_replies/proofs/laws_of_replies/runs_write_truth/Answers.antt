use Rattle.tg_law_replies.proofs.Replies.Rescues.{runs_write_truth}
use Rattle.tg_law_replies.proofs.laws_of_replies.runs_write_truth.Goals as goal

pub returns : goal.returns
returns g c = runs_write_truth _
