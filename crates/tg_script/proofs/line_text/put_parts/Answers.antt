use Rattle.std.proofs.Common.{◌∷◌, codes}
use Rattle.std.specs.Fmt.{decimal}
use Rattle.tg_script.specs.Nodes.{units_word, chains_word}
use Rattle.tg_script.specs.Commands.{part_words, join_words}
use Rattle.tg_script.proofs.Spaces.{on_ok, change_written}
use Rattle.tg_script.proofs.line_text.put_parts.Goals as goal

pub returns : goal.returns
returns c =
    on_ok c.put_join.result _ _ c.put_join.ensures (λ i. change_written _ _ _ _ _ _ (codes "reconf") (115 ∷ decimal c.args.seq)
    (part_words (codes "drop") units_word c.args.drop.now) (part_words (codes "open") chains_word c.args.opened.now) (join_words c.args.join.now)
    c.in_ok-extend.ensures.ok c.in_ok-put_member.ensures c.in_ok-put_dropped.ensures c.in_ok-put_opened.ensures i)
