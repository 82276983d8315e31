use Rattle.std.proofs.Common.{◌≡◌, BTreeMap, ap, sym, ◌∙◌}
use Rattle.std.specs.BTreeMap.{insert_entry, is_at}
use Rattle.std.specs.Map.{set_value}
use Rattle.std.proofs.lemmas.Result.{on_ok_weaker}
use Rattle.tg_base.specs.Orders.{oid_cmp}
use Rattle.tg_base.specs.declared.ids.Oid.{Oid}
use Rattle.tg_vers.specs.Kept.{Kept, noted_in}
use Rattle.tg_vers.proofs.InPlace.{noted_known, noted_new}
use Rattle.tg_vers.proofs.versions.note_in.Goals as goal

pub returns-in_ok-insert-in-None : goal.returns-in_ok-insert-in-None
returns-in_ok-insert-in-None c =
    let os = c.args.objects.now.entries in
    c.in_ok-insert-in-None.ensures.entries
    ∙ ap (λ (m : BTreeMap Oid Kept). insert_entry oid_cmp m.entries c.args.oid c.note.new.self) c.get_mut.follows.holds-at-none
    ∙ ap (insert_entry oid_cmp os c.args.oid) (c.in_ok-note-in-None.ensures ∙ ap (λ (k : Kept). noted_in k c.args.touch.now c.args.version) c.new-object.ensures)
    ∙ sym (noted_new os c.args.oid c.args.touch.now c.args.version (sym c.in-None.ensures.value))

pub returns-in-Some : goal.returns-in-Some
returns-in-Some c =
    let os = c.args.objects.now.entries in
    on_ok_weaker c.note-in-Some.result (λ (e : c.note-in-Some.new.self ≡ noted_in c.in-Some.object.now c.args.touch.now c.args.version).
    (c.get_mut.follows.holds c.note-in-Some.new.self).0
    ∙ ap (set_value (is_at (oid_cmp c.args.oid)) os) e
    ∙ sym (noted_known os c.args.oid c.args.touch.now c.args.version c.in-Some.object.now c.get_mut.ensures.ordered (sym c.in-Some.ensures.value))) c.note-in-Some.ensures
