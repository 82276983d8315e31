use Rattle.std.proofs.Common.{◌+◌, ◌<◌, ◌≤◌, length, sym, subst, arith}
use Rattle.tg_entry.specs.declared.entry.WriteOp.{WriteOp}
use Rattle.tg_tx.specs.Faults.{Judges}
use Rattle.tg_tx.proofs.Judged.{write_wide, write_full, write_sized, plus_six}
use Rattle.tg_tx.proofs.limits.may_put.Goals as goal

pub returns-then-streams-gt-STREAMS-clause-judged : goal.returns-then-streams-gt-STREAMS-clause-judged
returns-then-streams-gt-STREAMS-clause-judged c =
    let many : 16 < c.streams_with-streams.result = omega arith in
    write_wide c.args.reads.now c.args.writes.now (record { oid = c.args.oid; op = c.args.op.now }) c.streams_with-streams.result (c.streams_with-streams.ensures.count c.args.op.now) many

pub returns-then-writes-ge-WRITES-clause-judged : goal.returns-then-writes-ge-WRITES-clause-judged
returns-then-writes-ge-WRITES-clause-judged c =
    let few : c.streams_with-streams.result ≤ 16 = omega arith in
    let full : 64 ≤ length c.args.writes.now = omega arith in
    write_full c.args.reads.now c.args.writes.now (record { oid = c.args.oid; op = c.args.op.now }) c.streams_with-streams.result (c.streams_with-streams.ensures.count c.args.op.now) few full

pub returns-clause-judged : goal.returns-clause-judged
returns-clause-judged c =
    let few : c.streams_with-streams.result ≤ 16 = omega arith in
    let room : length c.args.writes.now < 64 = omega arith in
    let w : WriteOp = record { oid = c.args.oid; op = c.args.op.now } in
    subst (Judges c.fits.result)
    (sym (write_sized c.args.reads.now c.args.writes.now w c.streams_with-streams.result (c.record_size.result + 6 + length c.args.op.now) (c.streams_with-streams.ensures.count c.args.op.now) few room
    (plus_six c.record_size.result _ (length c.args.op.now) c.record_size.ensures.size)))
    c.fits.ensures.judged
