use Rattle.tg_law_texts.proofs.Replays.{true_replay}
use Rattle.tg_law_texts.proofs.Changed.{another_isnt, none_isnt, stranger_isnt}
use Rattle.tg_law_texts.proofs.laws.a_replay_is_true.Goals as goal

pub returns : goal.returns
returns g = record { holds = true_replay; changed = another_isnt; left_out = none_isnt; stranger = stranger_isnt }
