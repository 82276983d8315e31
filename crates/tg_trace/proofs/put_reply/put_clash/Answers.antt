use Rattle.std.proofs.Common.{[], ◌∷◌, codes}
use Rattle.std.specs.Fmt.{decimal}
use Rattle.tg_trace.specs.Fields.{part_words, versions}
use Rattle.tg_trace.proofs.Spaces.{put_more}
use Rattle.tg_trace.proofs.put_reply.put_clash.Goals as goal

pub returns : goal.returns
returns c =
    put_more _ _ _ (part_words c.args.part.now) (versions.spell (c.args.seen, c.args.now)) c.in_ok-put_part.ensures
    (put_more _ _ _ (codes "seen" ∷ decimal c.args.seen ∷ []) (codes "now" ∷ decimal c.args.now ∷ []) c.in_ok-put_one.ensures c.in_ok-put_one-2.ensures)
