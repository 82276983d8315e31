use Rattle.std.proofs.Common.{◌≡◌, true, Some}
use Rattle.tg_any.specs.Words.{texts}
use Rattle.tg_any.specs.AnyWords.{answer_words, answer_fits, answer_read}
use Rattle.tg_any.specs.declared.any.AnyAns.{AnyAns}
use Rattle.tg_any.proofs.AnyForms.{ok_found, ok_only, answer_takes, answer_again}
use Rattle.tg_any.proofs.any_words.ans_of.Goals as goal

pub returns-clause-found : goal.returns-clause-found
returns-clause-found c =
    ok_found c.parse_answer.result (answer_read c.args.ask.now (texts c.args.words.now)) (λ (answer : AnyAns). (texts c.args.words.now ≡ answer_words answer) × (answer_fits c.args.ask.now answer ≡ true)) c.parse_answer.ensures (answer_takes c.args.ask.now (texts c.args.words.now))

pub returns-clause-only : goal.returns-clause-only
returns-clause-only c answer fits is = ok_only c.parse_answer.result (answer_read c.args.ask.now (texts c.args.words.now)) (Some answer) c.parse_answer.ensures (answer_again c.args.ask.now (texts c.args.words.now) answer fits is)
