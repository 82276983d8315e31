-- Tallies: a kind so small that runs compute at once, and runs over it.
use Rattle.std.specs.Prelude.{Contains, ◌≡◌, ℕ, ◌+◌, true, List, [], ◌∷◌, Option, Some, None}
use Rattle.tg_base.specs.Clusters.{Header}
use Rattle.tg_base.specs.declared.ids.Oid.{Oid}
use Rattle.tg_base.specs.declared.marks.Part.TheVariants.{All}
use Rattle.tg_kind.specs.Meaning.{Meaning}
use Rattle.tg_model.specs.declared.command.Command.TheVariants as cmd
use Rattle.tg_model.specs.declared.command.Event.TheVariants.{Command as Commands, Deliver}
use Rattle.tg_model.specs.declared.trace.What.TheVariants as told
use Rattle.tg_protocol.specs.Words.{directory}
use Rattle.tg_model.specs.Legal.{InOrder}
use Rattle.tg_protocol.specs.Worlds.{World, start, trace, history}
use Rattle.tg_protocol.specs.Runs.{Moves, Takes, Reaches, run}
use Rattle.tg_protocol.specs.Holding.{EntriesOnce, EntriesOwn, RecordsOwn, RepliesHaveRecords}
use Rattle.tg_law_replies.specs.Replies.Ended.{AppendsEnd}
use Rattle.tg_law_replies.specs.Replies.Laws.{ClientsFind}
use Rattle.tg_law_replies.specs.Books.Kept.{RecordsLeft, AsksPrecede}

-- an op adds to a tally, which an ask tells
abbrev pub one_number : List ℕ → Option ℕ
one_number (n ∷ []) = Some n
one_number ns = None

abbrev pub tallies : Meaning
tallies = record {
  state = ℕ;
  op = ℕ;
  ask = ℕ;
  answer = ℕ;
  fresh = λ o os. 0;
  apply = λ s n. s + n;
  answers = λ s q. s;
  touch = λ n. All;
  look = λ q. All;
  save = λ s. s ∷ [];
  load = λ o bytes. one_number bytes;
  spell = λ n. n ∷ [];
  read = λ o bytes. one_number bytes;
  allows = λ o n. true;
  allows_ask = λ o q. true;
  registered = λ s o. true;
  floor = λ s. 0;
  mark_op = λ o n. 0;
}

-- likewise, and the directory's number is its floor
abbrev pub floored : Meaning
floored = record tallies { floor = λ s. s }

abbrev pub one_of_each : Header
one_of_each = record { units = 1; layouts = 1; seqs = 1; clients = 1; limit = 100; chains = (0 ∷ []) ∷ []; objects = [] }

-- a client asks of the past of an empty log: the sequencer tells the tail, and the unit confirms it
abbrev pub asks_past : Moves tallies
asks_past = Takes (Commands 0 (cmd.AskAt 0 directory 0)) ∷ Takes (Deliver 0) ∷ Takes (Deliver 1) ∷ Takes (Deliver 2) ∷ Takes (Deliver 3) ∷ []

-- the premises of what a run tells
pub record AreFound (h : Header) (ms : Moves tallies) (w : World tallies) : Type 0 where
  pub reached : Reaches tallies h ms w
  pub finds : ClientsFind tallies h ms w
  pub ends : AppendsEnd tallies h ms w

pub record TellsPast (w : World tallies) : Type 0 where
  pub event : ℕ
  pub tells : trace tallies w ≡ record { event = event; client = 0; tx = 0; what = told.Past directory 0 0 0 } ∷ []

abbrev pub PastIsTold : Type 0
PastIsTold = AreFound one_of_each asks_past (run tallies asks_past (start tallies one_of_each)) × TellsPast (run tallies asks_past (start tallies one_of_each))

-- a client adds to a tally: it begins, puts, ends, and its record lands

abbrev pub tally : Oid
tally = record { 0 = 16777216 }

abbrev pub with_tally : Header
with_tally = record { units = 1; layouts = 1; seqs = 1; clients = 1; limit = 100; chains = (0 ∷ []) ∷ []; objects = tally ∷ [] }

abbrev pub adds : Moves tallies
adds = Takes (Commands 0 cmd.Begin) ∷ Takes (Commands 0 (cmd.Put tally 5)) ∷ Takes (Commands 0 cmd.End)
    ∷ Takes (Deliver 0) ∷ Takes (Deliver 1) ∷ Takes (Deliver 2) ∷ Takes (Deliver 3) ∷ []

-- what `runs_are_legal` asks of a run
pub record AreBorneOut (h : Header) (ms : Moves tallies) (w : World tallies) : Type 0 where
  pub found : AreFound h ms w
  pub own : EntriesOwn tallies h ms w
  pub once : EntriesOnce tallies w
  pub records : RecordsOwn tallies w
  pub replies : RepliesHaveRecords tallies w
  pub asks : AsksPrecede tallies w
  pub left : RecordsLeft tallies h ms w
  pub order : InOrder tallies (history tallies w) (trace tallies w)

pub record TellsCommitted (w : World tallies) : Type 0 where
  pub event : ℕ
  pub here : Contains (trace tallies w) (record { event = event; client = 0; tx = 1; what = told.Committed 0 })

abbrev pub CommitIsTold : Type 0
CommitIsTold = AreBorneOut with_tally adds (run tallies adds (start tallies with_tally)) × TellsCommitted (run tallies adds (start tallies with_tally))
