use Rattle.tg_law_texts.proofs.Lives.{true_live, drain_isnt, unasked_isnt, scripted, unrecorded_isnt}
use Rattle.tg_law_texts.proofs.laws.a_live_run_is_true.Goals as goal

pub returns : goal.returns
returns g = record { holds = true_live; changed = drain_isnt; not_asked = unasked_isnt; scripted = scripted; left_out = unrecorded_isnt }
