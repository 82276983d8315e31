use Rattle.std.proofs.Common.{◌<◌, ◌≤◌, length, arith}
use Rattle.tg_tx.proofs.Judged.{write_wide, write_full, write_fits}
use Rattle.tg_tx.proofs.limits.has_room.Goals as goal

pub returns-then-streams_with-gt-STREAMS : goal.returns-then-streams_with-gt-STREAMS
returns-then-streams_with-gt-STREAMS c = λ rs op.
    let many : 16 < c.streams_with.result = omega arith in
    write_wide rs c.args.writes.now (record { oid = c.args.oid; op = op }) c.streams_with.result (c.streams_with.ensures.count op) many

pub returns-then-writes-ge-WRITES : goal.returns-then-writes-ge-WRITES
returns-then-writes-ge-WRITES c = λ rs op.
    let few : c.streams_with.result ≤ 16 = omega arith in
    let full : 64 ≤ length c.args.writes.now = omega arith in
    write_full rs c.args.writes.now (record { oid = c.args.oid; op = op }) c.streams_with.result (c.streams_with.ensures.count op) few full

pub returns : goal.returns
returns c = λ rs op.
    let few : c.streams_with.result ≤ 16 = omega arith in
    let room : length c.args.writes.now < 64 = omega arith in
    write_fits rs c.args.writes.now (record { oid = c.args.oid; op = op }) c.streams_with.result (c.streams_with.ensures.count op) few room
