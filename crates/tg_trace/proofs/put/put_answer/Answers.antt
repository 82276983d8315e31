use Rattle.tg_any.specs.AnyWords.{answer_words}
use Rattle.tg_trace.proofs.Spaces.{put_joined, answer_spaced}
use Rattle.tg_trace.proofs.put.put_answer.Goals as goal

pub returns : goal.returns
returns c = put_joined _ _ _ (answer_words c.args.answer.now) (answer_spaced c.args.answer.now) c.in_ok-push.ensures.ok c.in_ok-spell_ans.ensures.ok
