use Rattle.std.proofs.Common.{◌∷◌, map}
use Rattle.tg_any.proofs.Lists.{list_put}
use Rattle.tg_any.proofs.phrase.put_some.Goals as goal

pub returns : goal.returns
returns g c =
    list_put _ _ _ _ (map g.A.Field.word.spell (c.args.first.now ∷ c.args.rest.now)) c.in_ok-push.ensures.ok c.in_ok-put_items.ensures c.in_ok-push-2.ensures.ok
