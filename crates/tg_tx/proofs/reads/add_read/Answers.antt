use Rattle.std.proofs.Common.{◌≡◌, true, sym}
use Rattle.tg_tx.specs.Pendings.{read_cmp, has_key}
use Rattle.tg_tx.proofs.Sets.{put_same}
use Rattle.tg_tx.proofs.Orders.{read_total}
use Rattle.tg_tx.proofs.reads.add_read.Goals as goal

pub returns-then-has_read-clause-ok : goal.returns-then-has_read-clause-ok
returns-then-has_read-clause-ok c =
    let known : has_key read_cmp c.args.mark c.args.reads.now ≡ true = cc in
    sym (put_same read_total c.args.mark c.args.reads.now c.requires known)
