use Rattle.tg_law_texts.proofs.Adding.{true_adding}
use Rattle.tg_law_texts.proofs.Changed.{another_op_isnt, no_history_isnt}
use Rattle.tg_law_texts.proofs.laws.a_replayed_commit_is_true.Goals as goal

pub returns : goal.returns
returns g = record { holds = true_adding; changed = another_op_isnt; left_out = no_history_isnt }
