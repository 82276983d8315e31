use Rattle.std.proofs.Common.{List, sym, subst}
use Rattle.tg_entry.specs.declared.entry.WriteOp.{WriteOp}
use Rattle.tg_protocol.specs.Views.{write, write_all}
use Rattle.tg_play.specs.Relations.{KeepsObjects}
use Rattle.tg_play.proofs.Splitting.{split_first, on_ok}
use Rattle.tg_play.proofs.records.+write_all.Goals as goal

pub returns-in_ok-write-in-len1-up-clause-objects : goal.returns-in_ok-write-in-len1-up-clause-objects
returns-in_ok-write-in-len1-up-clause-objects g t c = λ v k.
    on_ok c.write_all.result
    (λ h. subst (λ (ws : List WriteOp). KeepsObjects _ c.write_all.new.objects.entries (write_all _ c.args.pos v ws)) (sym (split_first c.args.writes.now c.first-item.result c.in-len1-up.len_at_least c.first-item.is)) h)
    (c.write_all.ensures.objects (write _ c.args.pos v c.first-item.result) (c.in_ok-write-in-len1-up.ensures.objects v k))
