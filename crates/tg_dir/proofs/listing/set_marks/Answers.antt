use Rattle.std.proofs.Common.{ap, sym, ◌∙◌, set}
use Rattle.std.proofs.lemmas.List.Edits.{map_over_more}
use Rattle.tg_dir.specs.Directories.{with_mark}
use Rattle.tg_dir.proofs.listing.set_marks.Goals as goal

pub loop-entry-preserved : goal.loop-entry-preserved
loop-entry-preserved c =
    ap (set c.loop-entry.entries c.loop-entry.entry-index) (c.set_mark.ensures ∙ ap (with_mark c.args.oid c.args.mark) (sym c.entry-item.is)) ∙
    map_over_more (with_mark c.args.oid c.args.mark) c.args.entries.now c.loop-entry.entries c.loop-entry.entry-index c.entry-item.result c.loop-entry-test.true c.loop-entry.invariant c.entry-item.is
