use Rattle.std.proofs.Common.{◌≡◌, true, Some}
use Rattle.tg_any.specs.Words.{texts}
use Rattle.tg_any.specs.AnyWords.{ask_words, ask_fits, ask_read}
use Rattle.tg_any.specs.declared.any.AnyAsk.{AnyAsk}
use Rattle.tg_any.proofs.AnyForms.{ok_found, ok_only, ask_takes, ask_again}
use Rattle.tg_any.proofs.any_words.ask_of.Goals as goal

pub returns-clause-found : goal.returns-clause-found
returns-clause-found c =
    ok_found c.parse_ask.result (ask_read (texts c.args.words.now)) (λ (ask : AnyAsk). (texts c.args.words.now ≡ ask_words ask) × (ask_fits ask ≡ true)) c.parse_ask.ensures (ask_takes (texts c.args.words.now))

pub returns-clause-only : goal.returns-clause-only
returns-clause-only c ask fits is = ok_only c.parse_ask.result (ask_read (texts c.args.words.now)) (Some ask) c.parse_ask.ensures (ask_again (texts c.args.words.now) ask fits is)
