use Rattle.std.proofs.Common.{arith, ◌≤◌, ◌∷◌, length}
use Rattle.std.proofs.lemmas.Bool.Decides.{nat_tests}
use Rattle.tg_base.specs.declared.ids.Oid.{Oid}
use Rattle.tg_any.specs.Names.{object_word}
use Rattle.tg_script.proofs.Spaces.{all_written}
use Rattle.tg_script.proofs.header_text.put_each.Goals as goal

pub returns : goal.returns
returns c =
    let le : length c.args.objects.now ≤ c.loop-oid.oid-index = grind (arith, nat_tests) in
    all_written (λ (o : Oid). 32 ∷ object_word o) _ _ c.args.objects.now c.loop-oid.oid-index le c.loop-oid.invariant
