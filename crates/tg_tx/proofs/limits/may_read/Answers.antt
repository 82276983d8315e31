use Rattle.std.proofs.Common.{◌≡◌, ℕ, ◌+◌, ◌<◌, ◌≤◌, true, false, length, sym, ap, ◌∙◌, subst, arith}
use Rattle.tg_protocol.specs.Entries.{commit_size, read_size}
use Rattle.tg_protocol.specs.Transactions.{tx_streams}
use Rattle.tg_tx.specs.Faults.{Judges}
use Rattle.tg_tx.specs.Pendings.{read_cmp, has_key}
use Rattle.tg_tx.proofs.Judged.{read_known, read_full, read_sized}
use Rattle.tg_tx.proofs.limits.may_read.Goals as goal

pub returns-then-has_read-clause-judged : goal.returns-then-has_read-clause-judged
returns-then-has_read-clause-judged c =
    let known : has_key read_cmp c.args.mark.now c.args.reads.now ≡ true = cc in
    read_known c.args.reads.now c.args.writes.now c.args.mark.now known

pub returns-then-reads-ge-READS-clause-judged : goal.returns-then-reads-ge-READS-clause-judged
returns-then-reads-ge-READS-clause-judged c =
    let new : has_key read_cmp c.args.mark.now c.args.reads.now ≡ false = cc in
    let full : 64 ≤ length c.args.reads.now = omega arith in
    read_full c.args.reads.now c.args.writes.now c.args.mark.now new full

pub returns-clause-judged : goal.returns-clause-judged
returns-clause-judged c =
    let new : has_key read_cmp c.args.mark.now c.args.reads.now ≡ false = cc in
    let few : length c.args.reads.now < 64 = omega arith in
    let size : c.record_size.result ≡ commit_size (length (tx_streams c.args.writes.now)) c.args.reads.now c.args.writes.now =
    c.record_size.ensures.size ∙ ap (λ (n : ℕ). commit_size n c.args.reads.now c.args.writes.now) c.stream_count-streams.ensures.count in
    let bytes : c.record_size.result + c.read_size.result ≡ commit_size (length (tx_streams c.args.writes.now)) c.args.reads.now c.args.writes.now + read_size c.args.mark.now =
    λ i. size i + c.read_size.ensures.size i in
    subst (Judges c.fits.result) (sym (read_sized c.args.reads.now c.args.writes.now c.args.mark.now (c.record_size.result + c.read_size.result) new few bytes)) c.fits.ensures.judged
