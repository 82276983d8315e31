use Rattle.std.proofs.Common.{◌≡◌, ◌++◌, false, take, drop}
use Rattle.std.specs.BTreeSet.{insert_key}
use Rattle.tg_tx.specs.Pendings.{read_cmp, has_key}
use Rattle.tg_tx.proofs.reads.place_of.Given as goal

abbrev pub invariant-loop-place : goal.invariant-loop-place
invariant-loop-place l = record {
  absent : has_key read_cmp l.mark (drop l.place l.reads) ≡ false;
  so_far : insert_key read_cmp l.reads l.mark ≡ take l.place l.reads ++ insert_key read_cmp (drop l.place l.reads) l.mark;
}
