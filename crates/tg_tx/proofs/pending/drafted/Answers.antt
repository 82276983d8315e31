use Rattle.std.proofs.Common.{◌≡◌, ◌<◌, ◌^◌, List, ap, ◌∙◌, arith}
use Rattle.std.specs.Prelude.{map}
use Rattle.tg_entry.specs.declared.entry.WriteOp.{WriteOp}
use Rattle.tg_protocol.specs.Entries.{unlinked}
use Rattle.tg_protocol.specs.Transactions.{tx_streams}
use Rattle.tg_tx.proofs.Drafting.{draft_kept}
use Rattle.tg_tx.proofs.pending.drafted.Goals as goal

pub new-requires : goal.new-requires
new-requires c =
    let streams : c.in_ok-streams.streams ≡ map unlinked (tx_streams c.args.writes.now) = c.in_ok-streams.ensures ∙ ap (λ (ws : List WriteOp). map unlinked (tx_streams ws)) c.as_slice.ensures in
    let client : c.args.client < 2 ^ 16 = omega arith in
    draft_kept c.args.client c.args.number c.in_ok-streams.streams c.in_ok-reads.reads c.args.reads.now c.in_ok-writes.writes c.args.writes.now streams c.in_ok-reads.ensures c.in_ok-writes.ensures c.requires.limits client c.requires.some
