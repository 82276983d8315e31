use Rattle.std.proofs.Common.{[], ◌∷◌, codes}
use Rattle.std.specs.Fmt.{decimal}
use Rattle.tg_any.specs.AnyWords.{ask_words, answer_words}
use Rattle.tg_trace.specs.Fields.{told_at}
use Rattle.tg_trace.proofs.Spaces.{put_more}
use Rattle.tg_trace.proofs.put_reply.put_answered.Goals as goal

pub returns : goal.returns
returns c =
    let ask = c.args.ask.now in
    let answer = c.args.answer.now in
    put_more _ _ _ (ask_words ask) ((told_at ask).spell (c.args.at, answer)) c.in_ok-put_ask.ensures
    (put_more _ _ _ (codes "at" ∷ decimal c.args.at ∷ []) (codes "=" ∷ answer_words answer) c.in_ok-put_one.ensures
    (put_more _ _ _ (codes "=" ∷ []) (answer_words answer) c.in_ok-put_word.ensures c.in_ok-put_answer.ensures))
