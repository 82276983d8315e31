use Rattle.std.proofs.Common.{◌≡◌, ◌++◌}
use Rattle.std.specs.Prelude.{map}
use Rattle.tg_protocol.specs.Entries.{unlinked}
use Rattle.tg_protocol.specs.Transactions.{tx_streams}
use Rattle.tg_tx.proofs.writes.links_of.Given as goal

abbrev pub invariant-loop-oid : goal.invariant-loop-oid
invariant-loop-oid l = l.links ++ map unlinked l.oid-iterator ≡ map unlinked (tx_streams l.writes)
