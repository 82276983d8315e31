use Rattle.tg_any.specs.AnyWords.{ask_words}
use Rattle.tg_any.specs.Names.{object_word}
use Rattle.tg_script.proofs.Graphics.{ask_some}
use Rattle.tg_script.proofs.Spaces.{on_ok, front_two, written_behind}
use Rattle.tg_script.proofs.line_text.put_ask.Goals as goal

pub returns : goal.returns
returns c =
    on_ok c.spell_ask.result _ _ c.spell_ask.ensures.ok (λ g. written_behind _ _ _ _ _ _ _ c.in_ok-put_one.ensures c.in_ok-push.ensures.ok g
    (front_two c.args.verb.now (object_word c.args.oid) (ask_words c.args.ask.now) (ask_some c.args.ask.now)))
