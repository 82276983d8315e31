use Rattle.std.proofs.Common.{◌≡◌, ◌++◌, ◌∷◌, take}
use Rattle.std.specs.List.{flat_map}
use Rattle.tg_base.specs.declared.ids.Oid.{Oid}
use Rattle.tg_any.specs.Names.{object_word}
use Rattle.tg_script.proofs.header_text.put_each.Given as goal

-- the objects so far are written
abbrev pub invariant-loop-oid : goal.invariant-loop-oid
invariant-loop-oid l = l.out ≡ l.initial.out ++ flat_map (λ (o : Oid). 32 ∷ object_word o) (take l.oid-index l.objects)
