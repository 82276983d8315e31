use Rattle.tg_dir.specs.DirectoryLaws.{mark_fits}
use Rattle.tg_dir.proofs.directory.whole.Goals as goal

pub returns-clause-fits : goal.returns-clause-fits
returns-clause-fits c = mark_fits c.args.oid.now c.args.mark c.oid-known.ensures.known c.ranges.mark.fits
