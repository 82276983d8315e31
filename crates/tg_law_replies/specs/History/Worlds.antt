-- The log of a world, as entries.
use Rattle.std.specs.Prelude.{ℕ, Bool, List}
use Rattle.tg_base.specs.declared.ids.Oid.{Oid}
use Rattle.tg_kind.specs.Meaning.{Meaning}
use Rattle.tg_protocol.specs.Views.{Entries}
use Rattle.tg_protocol.specs.Logs.{entries_of}
use Rattle.tg_protocol.specs.Worlds.{World, log}
use Rattle.tg_protocol.specs.Alike.{Outcome}
use Rattle.tg_law_replies.specs.Plays.Sound.{IsRising}
use Rattle.tg_law_replies.specs.History.Logs.{HasOutcome}

module _ (m : Meaning) where
  abbrev pub entries_in : World m → Entries
  entries_in w = entries_of (log m w)

  -- the entries of each log rise
  abbrev pub LogsRise : Type 0
  LogsRise = (w : World m) → IsRising (entries_in w)

  -- an outcome over a log's entries is the log's
  abbrev pub OutcomesAre : Type 0
  OutcomesAre = (w : World m) (objects : List Oid) (p : ℕ) (b : Bool) → HasOutcome m objects (entries_in w) p b → Outcome m w p b
