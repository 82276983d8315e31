use Rattle.std.proofs.Common.{◌≡◌, [], ◌∷◌, sym, ap, ◌∙◌, subst}
use Rattle.std.specs.BTreeMap.{insert_entry}
use Rattle.tg_base.specs.Orders.{oid_cmp}
use Rattle.tg_protocol.specs.Versions.{based}
use Rattle.tg_vers.specs.Kept.{Kept, Objects, Keeps, based_kept}
use Rattle.tg_vers.proofs.Keeping.{based_keeps}
use Rattle.tg_vers.proofs.versions.Versions.of.Goals as goal

pub returns : goal.returns
returns c =
    let one : c.insert.new.self.entries ≡ (c.args.oid, based_kept c.args.version c.args.whole c.args.keys.now) ∷ [] =
    c.in_ok-insert.ensures.entries
    ∙ ap (λ (os : Objects). insert_entry oid_cmp os c.args.oid c.in_ok-object.object) c.new-objects.ensures.empty
    ∙ ap (λ (k : Kept). (c.args.oid, k) ∷ []) c.in_ok-object.ensures in
    subst (λ (os : Objects). Keeps os (based c.args.oid c.args.version c.args.whole c.args.keys.now)) (sym one) (based_keeps c.args.oid c.args.version c.args.whole c.args.keys.now)
