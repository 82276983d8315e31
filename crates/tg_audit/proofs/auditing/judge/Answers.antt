use Rattle.std.proofs.Common.{◌≡◌, ◌+◌, ◌^◌, ◌<◌, List, length, ap, ◌∙◌, arith}
use Rattle.tg_base.specs.declared.ids.Oid.{Oid}
use Rattle.tg_kind.specs.Headers.{is_header}
use Rattle.tg_audit.proofs.Openings.{header_is}
use Rattle.tg_audit.proofs.auditing.judge.Goals as goal

pub verdict_on-requires-clause-header : goal.verdict_on-requires-clause-header
verdict_on-requires-clause-header c = ap (λ (os : List Oid). is_header os) c.as_slice.ensures ∙ header_is c.args.transcript.now c.requires.lawful

pub verdict_on-requires-clause-room : goal.verdict_on-requires-clause-room
verdict_on-requires-clause-room c =
    let entries : length c.as_slice-2.result.now ≡ length c.args.transcript.now.history = ap length c.as_slice-2.ensures in
    let replies : length c.as_slice-3.result.now ≡ length c.args.transcript.now.trace = ap length c.as_slice-3.ensures in
    let numbered : length c.args.transcript.now.trace + length c.args.transcript.now.history + 3 < 2 ^ 64 = c.requires.numbered in
    omega (arith, entries, replies, numbered)
