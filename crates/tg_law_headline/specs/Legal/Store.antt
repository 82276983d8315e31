-- Entries of the store's logs, whose ops touch parts of the format.
use Rattle.tg_protocol.specs.Holding.{EntriesOwn}
use Rattle.tg_protocol.specs.Runs.{AlwaysBy}
use Rattle.tg_any.specs.AllKinds.{all_kinds}

-- each entry of the log is, links aside, what its client had begun to append
abbrev pub StoreEntriesOwn : Type 0
StoreEntriesOwn = AlwaysBy all_kinds (EntriesOwn all_kinds)
