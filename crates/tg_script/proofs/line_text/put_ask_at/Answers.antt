use Rattle.std.proofs.Common.{codes}
use Rattle.std.specs.Fmt.{decimal}
use Rattle.tg_any.specs.AnyWords.{ask_words}
use Rattle.tg_any.specs.Names.{object_word}
use Rattle.tg_script.proofs.Graphics.{ask_some}
use Rattle.tg_script.proofs.Spaces.{on_ok, front_three, written_behind}
use Rattle.tg_script.proofs.line_text.put_ask_at.Goals as goal

pub returns : goal.returns
returns c =
    on_ok c.spell_ask.result _ _ c.spell_ask.ensures.ok (λ g. written_behind _ _ _ _ _ _ _ c.in_ok-put_two.ensures c.in_ok-push.ensures.ok g
    (front_three (codes "ask-at") (decimal c.args.at) (object_word c.args.oid) (ask_words c.args.ask.now) (ask_some c.args.ask.now)))
