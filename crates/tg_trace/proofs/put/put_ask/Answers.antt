use Rattle.tg_any.specs.AnyWords.{ask_words}
use Rattle.tg_trace.proofs.Spaces.{put_joined, ask_spaced}
use Rattle.tg_trace.proofs.put.put_ask.Goals as goal

pub returns : goal.returns
returns c = put_joined _ _ _ (ask_words c.args.ask.now) (ask_spaced c.args.ask.now) c.in_ok-push.ensures.ok c.in_ok-spell_ask.ensures.ok
