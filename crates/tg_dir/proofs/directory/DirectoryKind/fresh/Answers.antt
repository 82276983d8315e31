use Rattle.std.proofs.Common.{ap, ◌∙◌, ◌++◌, ◌∷◌, [], map, filter, List, get_or}
use Rattle.tg_dir.specs.Spellings.{is_number}
use Rattle.tg_dir.specs.Directories.{at_first}
use Rattle.tg_dir.specs.declared.listing.Listing.{Listing}
use Rattle.tg_dir.specs.DirectoryLaws.{one_more}
use Rattle.tg_dir.proofs.directory.DirectoryKind.fresh.Goals as goal

pub loop-oid-preserved : goal.loop-oid-preserved
loop-oid-preserved c =
    c.in_ok-entries-2.ensures ∙ ap (λ (es : List Listing). es ++ map at_first (filter is_number (get_or c.args.objects.now c.loop-oid.oid-index (record { 0 = 0 }) ∷ []))) c.loop-oid.invariant ∙
    one_more c.args.objects.now c.loop-oid.oid-index (record { 0 = 0 }) c.loop-oid-test.true
