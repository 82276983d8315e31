-- What a run tells and writes is true of the log that it comes to.
use Rattle.std.specs.Prelude.{◌≡◌, ℕ, Bool}
use Rattle.tg_base.specs.Clusters.{Header}
use Rattle.tg_entry.specs.declared.entry.Body.TheVariants.{Decision}
use Rattle.tg_entry.specs.declared.entry.Entry.{Entry}
use Rattle.tg_kind.specs.Meaning.{Meaning}
use Rattle.tg_protocol.specs.Worlds.{World}
use Rattle.tg_protocol.specs.Runs.{Moves, Reaches}
use Rattle.tg_protocol.specs.Holding.{EntriesOwn}
use Rattle.tg_protocol.specs.Alike.{HasEntry, Outcome, CheckpointsTrue, PastTrue, RescueTrue}
use Rattle.tg_law_replies.specs.History.Worlds.{entries_in}
use Rattle.tg_law_replies.specs.Replies.Runs.{InEachStep}
use Rattle.tg_law_replies.specs.Replies.Steps.{EachEvent}
use Rattle.tg_law_replies.specs.Replies.Ended.{AppendsEnd}
use Rattle.tg_law_replies.specs.Replies.Outcomes.{TellsOutcomes}
use Rattle.tg_law_replies.specs.Replies.Found.{Finds}

-- wherever a step of the run comes to the end of a command's walks, the client has found what it needs of the log that the run ends with
abbrev pub ClientsFind : (m : Meaning) → Header → Moves m → World m → Type 0
ClientsFind m h ms w = InEachStep m h ms (λ before v e. EachEvent m h.objects (entries_in m w) (Finds m h (entries_in m w) before) v e)

-- the log's decision records and checkpoints
pub record WritesTruth (m : Meaning) (w : World m) : Type 0 where
  pub decisions : (at p : ℕ) (e : Entry) (b : Bool) → HasEntry m w at e → e.body ≡ Decision p b → Outcome m w p b
  pub checkpoints : CheckpointsTrue m w

-- are so, where each entry of the log was begun by its client, and an append that ends stands where it says
abbrev pub RunsWriteTruth : Meaning → Type 0
RunsWriteTruth m = (h : Header) (ms : Moves m) (w : World m) → Reaches m h ms w → ClientsFind m h ms w → AppendsEnd m h ms w → EntriesOwn m h ms w → WritesTruth m w

-- what a run tells of past positions, of rescues and of outcomes
pub record TellsSo (m : Meaning) (w : World m) : Type 0 where
  pub past : PastTrue m w
  pub rescues : RescueTrue m w
  pub outcomes : TellsOutcomes m w

-- is so, where an append that ends stands where it says
abbrev pub RunsTellTruth : Meaning → Type 0
RunsTellTruth m = (h : Header) (ms : Moves m) (w : World m) → Reaches m h ms w → ClientsFind m h ms w → AppendsEnd m h ms w → TellsSo m w
