-- Runs that leave a client waiting, and what a settling makes of them.
use Rattle.std.specs.Prelude.{◌≡◌, ℕ, ◌+◌, ◌*◌, ◌≤◌, [], ◌∷◌, length, None}
use Rattle.tg_base.specs.Layouts.{Layout}
use Rattle.tg_base.specs.Changes.{Changed}
use Rattle.tg_base.specs.Clusters.{Header}
use Rattle.tg_kind.specs.Meaning.{Meaning}
use Rattle.tg_model.specs.declared.command.Command.TheVariants as cmd
use Rattle.tg_model.specs.declared.command.Event.TheVariants.{Command as Commands, Deliver, Lose, Tick}
use Rattle.tg_model.specs.Kinds.{CommandOf}
use Rattle.tg_protocol.specs.Appending.{AppendWork, Putting}
use Rattle.tg_protocol.specs.Words.{client_id, directory}
use Rattle.tg_protocol.specs.Syncing.{SyncWork, Settling, Probing}
use Rattle.tg_protocol.specs.Clients.{Task, Syncing}
use Rattle.tg_protocol.specs.Worlds.{World, start, unit, latest, settle}
use Rattle.tg_protocol.specs.Runs.{Moves, Takes, Reaches, run}
use Rattle.tg_protocol.specs.Finishing.{longest_chain, deliveries, is_with_client, most_deliveries_in, WaitsAlone, IsReadyFor, IsSpareReady}
use Rattle.tg_law_finish.specs.Finish.Alone.{IsAlone}
use Rattle.tg_law_finish.specs.Finish.Granted.{Granted, next_position}
use Rattle.tg_law_finish.specs.Finish.Appends.{WaitsForAppend}
use Rattle.tg_law_finish.specs.Finish.Asks.{NothingTrimmed, WaitsForSync}
use Rattle.tg_law_finish.specs.Finish.Copies.{WaitsForCopy, copy_bound}
use Rattle.tg_law_finish.specs.Finish.Ends.{EndsAppend, end_bound, EndsRecord, record_bound}
use Rattle.tg_law_finish.specs.Finish.Laws.{append_bound, ask_bound}
use Rattle.tg_law_finish.specs.Finish.Reads.{WaitsForRead}
use Rattle.tg_law_finish.specs.Finish.Rescues.{rescue_bound}
use Rattle.tg_law_finish.specs.Finish.Trims.{WaitsForTrim, trim_bound}
use Rattle.tg_law_finish.specs.Finish.Walks.{floors, streams, walk_bound}
use Rattle.tg_law_finish.specs.Tallies.Tallies.{tallies, floored, tally, with_tally}

-- how many deliveries with the client a settling takes, and how many each bound allows
pub record CountedIn (m : Meaning) (w : World m) (taken most in_time : ℕ) (bound : World m → ℕ) (x : CommandOf m) : Type 0 where
  pub counted : deliveries m (is_with_client m 0) w (settle m w).world ≡ taken
  pub allowed : bound w ≡ most
  pub in_bound : most_deliveries_in m w x ≡ in_time

abbrev pub Counted : (w : World tallies) (taken most in_time : ℕ) (bound : World tallies → ℕ) (x : CommandOf tallies) → Type 0
Counted w taken most in_time bound x = CountedIn tallies w taken most in_time bound x

-- a client adds to a tally, and its request for a token is lost
abbrev pub append_lost : Moves tallies
append_lost = Takes (Commands 0 cmd.Begin) ∷ Takes (Commands 0 (cmd.Put tally 5)) ∷ Takes (Commands 0 cmd.End) ∷ Takes (Lose 0) ∷ []

pub record AppendSettles (w : World tallies) : Type 0 where
  pub reached : Reaches tallies with_tally append_lost w
  pub alone : WaitsAlone tallies w 0 cmd.End
  pub ready : IsReadyFor tallies w 0
  pub granted : Granted tallies w
  pub waits : WaitsForAppend tallies w 0
  pub counts : Counted w 6 8 64 (append_bound tallies) cmd.End

-- a client adds to a tally, asks for the fate of the record, and its request for a tail is lost
abbrev pub ask_lost : Moves tallies
ask_lost = Takes (Commands 0 cmd.Begin) ∷ Takes (Commands 0 (cmd.Put tally 5)) ∷ Takes (Commands 0 cmd.End)
    ∷ Takes (Deliver 0) ∷ Takes (Deliver 1) ∷ Takes (Deliver 2) ∷ Takes (Deliver 3) ∷ Takes (Commands 0 (cmd.Fate 0)) ∷ Takes (Lose 4) ∷ []

pub record AskSettles (w : World tallies) : Type 0 where
  pub reached : Reaches tallies with_tally ask_lost w
  pub alone : WaitsAlone tallies w 0 (cmd.Fate 0)
  pub ready : IsReadyFor tallies w 0
  pub granted : Granted tallies w
  pub untrimmed : NothingTrimmed tallies w
  pub waits : WaitsForSync tallies w 0
  pub counts : Counted w 6 10 80 (ask_bound tallies) (cmd.Fate 0)

-- it is told the tail, and its request to fill the last position is lost
abbrev pub fill_lost : Moves tallies
fill_lost = Takes (Commands 0 cmd.Begin) ∷ Takes (Commands 0 (cmd.Put tally 5)) ∷ Takes (Commands 0 cmd.End)
    ∷ Takes (Deliver 0) ∷ Takes (Deliver 1) ∷ Takes (Deliver 2) ∷ Takes (Deliver 3) ∷ Takes (Commands 0 (cmd.Fate 0)) ∷ Takes (Deliver 4) ∷ Takes (Deliver 5) ∷ Takes (Lose 6) ∷ []

abbrev pub FillsLast : SyncWork → Type 0
FillsLast (Settling a j) = Unit {0}
FillsLast x = ⊥

-- a sync that fills the last position
abbrev pub IsFill : Task tallies → Type 0
IsFill (Syncing s) = FillsLast s.work
IsFill t = ⊥

pub record FillSettles (w : World tallies) : Type 0 where
  pub reached : Reaches tallies with_tally fill_lost w
  pub alone : IsAlone tallies w 0 (cmd.Fate 0)
  pub ready : IsReadyFor tallies w 0
  pub untrimmed : NothingTrimmed tallies w
  pub waits : WaitsForRead tallies w 0
  pub fills : IsFill waits.task
  pub counts : Counted w 4 10 80 (ask_bound tallies) (cmd.Fate 0)

-- a client asks for a fate while nothing has been issued, and its request for a tail is lost
abbrev pub fate_lost : Moves tallies
fate_lost = Takes (Commands 0 (cmd.Fate 0)) ∷ Takes (Lose 0) ∷ []

pub record FateSettles (w : World tallies) : Type 0 where
  pub reached : Reaches tallies with_tally fate_lost w
  pub alone : WaitsAlone tallies w 0 (cmd.Fate 0)
  pub ready : IsReadyFor tallies w 0
  pub none_issued : next_position tallies w ≡ (latest tallies w).start
  pub waits : WaitsForRead tallies w 0
  pub counts : Counted w 6 6 64 (λ v. walk_bound tallies v (streams tallies waits.work)) (cmd.Fate 0)

-- a client asks for a fate while nothing has been issued; it is told so, and its probe of position 0's chain is lost
abbrev pub probe_lost : Moves tallies
probe_lost = Takes (Commands 0 (cmd.Fate 0)) ∷ Takes (Deliver 0) ∷ Takes (Deliver 1) ∷ Takes (Lose 2) ∷ []

abbrev pub ProbesChain : SyncWork → Type 0
ProbesChain (Probing a j) = Unit {0}
ProbesChain x = ⊥

-- a sync that probes a chain
abbrev pub IsProbe : Task tallies → Type 0
IsProbe (Syncing s) = ProbesChain s.work
IsProbe t = ⊥

pub record ProbeSettles (w : World tallies) : Type 0 where
  pub reached : Reaches tallies with_tally probe_lost w
  pub alone : WaitsAlone tallies w 0 (cmd.Fate 0)
  pub ready : IsReadyFor tallies w 0
  pub none_issued : next_position tallies w ≡ (latest tallies w).start
  pub waits : WaitsForRead tallies w 0
  pub probes : IsProbe waits.task
  pub counts : Counted w 4 6 64 (λ v. walk_bound tallies v (streams tallies waits.work)) (cmd.Fate 0)

-- a client asks for a tally and adds to it, and its record's request for a token is lost
abbrev pub end_lost : Moves tallies
end_lost = Takes (Commands 0 (cmd.Host tally)) ∷ Takes (Commands 0 cmd.Begin) ∷ Takes (Commands 0 (cmd.Ask tally 0)) ∷ Takes (Deliver 0) ∷ Takes (Deliver 1) ∷ Takes (Deliver 2) ∷ Takes (Deliver 3)
    ∷ Takes (Commands 0 (cmd.Put tally 5)) ∷ Takes (Commands 0 cmd.End) ∷ Takes (Lose 4) ∷ []

pub record EndSettles (w : World tallies) : Type 0 where
  pub reached : Reaches tallies with_tally end_lost w
  pub alone : WaitsAlone tallies w 0 cmd.End
  pub ready : IsReadyFor tallies w 0
  pub waits : EndsAppend tallies w 0
  pub counts : Counted w 10 18 64 (end_bound tallies) cmd.End

-- it has its record's token, and the request of its page is lost
abbrev pub page_lost : Moves tallies
page_lost = Takes (Commands 0 (cmd.Host tally)) ∷ Takes (Commands 0 cmd.Begin) ∷ Takes (Commands 0 (cmd.Ask tally 0)) ∷ Takes (Deliver 0) ∷ Takes (Deliver 1) ∷ Takes (Deliver 2) ∷ Takes (Deliver 3)
    ∷ Takes (Commands 0 (cmd.Put tally 5)) ∷ Takes (Commands 0 cmd.End) ∷ Takes (Deliver 4) ∷ Takes (Deliver 5) ∷ Takes (Lose 6) ∷ []

abbrev pub PutsPage : AppendWork → Type 0
PutsPage (Putting j) = Unit {0}
PutsPage x = ⊥

pub record RecordSettles (w : World tallies) : Type 0 where
  pub reached : Reaches tallies with_tally page_lost w
  pub alone : IsAlone tallies w 0 cmd.End
  pub ready : IsReadyFor tallies w 0
  pub waits : EndsRecord tallies w 0
  pub puts : PutsPage waits.append.work
  pub counts : Counted w 8 26 80 (record_bound tallies) cmd.End

-- a client saves a tally of which nothing was written, and its request for a tail is lost
abbrev pub save_lost : Moves tallies
save_lost = Takes (Commands 0 (cmd.Host tally)) ∷ Takes (Commands 0 (cmd.Checkpoint tally)) ∷ Takes (Lose 0) ∷ []

pub record SaveSettles (w : World tallies) : Type 0 where
  pub reached : Reaches tallies with_tally save_lost w
  pub alone : WaitsAlone tallies w 0 (cmd.Checkpoint tally)
  pub ready : IsReadyFor tallies w 0
  pub waits : WaitsForRead tallies w 0
  pub counts : Counted w 10 10 64 (λ v. walk_bound tallies v (streams tallies waits.work) + 2 * (longest_chain (latest tallies v) + 1)) (cmd.Checkpoint tally)

-- a client rescues where nothing was issued, and its request for a tail is lost
abbrev pub rescue_lost : Moves tallies
rescue_lost = Takes (Commands 0 (cmd.Rescue 0)) ∷ Takes (Lose 0) ∷ []

pub record RescueSettles (w : World tallies) : Type 0 where
  pub reached : Reaches tallies with_tally rescue_lost w
  pub alone : WaitsAlone tallies w 0 (cmd.Rescue 0)
  pub ready : IsReadyFor tallies w 0
  pub waits : WaitsForRead tallies w 0
  pub counts : Counted w 6 772 8192 (λ v. rescue_bound tallies v (streams tallies waits.work)) (cmd.Rescue 0)

-- a client adds to the directory, whose number is the floor; it trims, and its request for a tail is lost
abbrev pub trim_lost : Moves floored
trim_lost = Takes (Commands 0 cmd.Begin) ∷ Takes (Commands 0 (cmd.Put directory 1)) ∷ Takes (Commands 0 cmd.End)
    ∷ Takes (Deliver 0) ∷ Takes (Deliver 1) ∷ Takes (Deliver 2) ∷ Takes (Deliver 3) ∷ Takes (Commands 0 cmd.Trim) ∷ Takes (Lose 4) ∷ []

-- the settling asks the unit to trim
pub record TrimSettles (w : World floored) : Type 0 where
  pub reached : Reaches floored with_tally trim_lost w
  pub alone : IsAlone floored w 0 cmd.Trim
  pub ready : IsReadyFor floored w 0
  pub waits : WaitsForTrim floored w 0
  pub counts : CountedIn floored w 8 12 82 (λ v. trim_bound floored v (streams floored waits.work)) cmd.Trim
  pub trims : (unit floored (settle floored w).world 0).low ≡ 1

-- it trims, and asks for a fate; the one position is gone from its unit, and the request for a tail is lost
abbrev pub gone_lost : Moves floored
gone_lost = Takes (Commands 0 cmd.Begin) ∷ Takes (Commands 0 (cmd.Put directory 1)) ∷ Takes (Commands 0 cmd.End)
    ∷ Takes (Deliver 0) ∷ Takes (Deliver 1) ∷ Takes (Deliver 2) ∷ Takes (Deliver 3) ∷ Takes (Commands 0 cmd.Trim)
    ∷ Takes (Deliver 4) ∷ Takes (Deliver 5) ∷ Takes (Deliver 6) ∷ Takes (Deliver 7) ∷ Takes (Deliver 8) ∷ Takes (Deliver 9) ∷ Takes (Commands 0 (cmd.Fate 0)) ∷ Takes (Lose 10) ∷ []

-- the sync asks for the last position, is told that it is gone, and probes its chain
pub record GoneSettles (w : World floored) : Type 0 where
  pub reached : Reaches floored with_tally gone_lost w
  pub alone : IsAlone floored w 0 (cmd.Fate 0)
  pub ready : IsReadyFor floored w 0
  pub trimmed : floors floored w ≡ 1
  pub waits : WaitsForRead floored w 0
  pub few : (streams floored waits.work + 3) * (floors floored w + 2) ≤ 6 * next_position floored w + 23
  pub counts : CountedIn floored w 8 30 80 (λ v. walk_bound floored v (streams floored waits.work)) (cmd.Fate 0)

-- a unit stands in no chain
abbrev pub with_spare : Header
with_spare = record with_tally { units = 2 }

-- a further range is opened, at the same unit and sequencer
abbrev pub opens_again : Changed
opens_again = record { seq = 0; drop = []; opened = (0 ∷ []) ∷ []; join = None }

-- the layout after it, where one position is written
abbrev pub reopened : Layout
reopened = record { epoch = 2; seq = 0; start = 1; by = 0; gone = []; ranges = record { lo = 0; stripes = (0 ∷ []) ∷ [] } ∷ record { lo = 1; stripes = (0 ∷ []) ∷ [] } ∷ [] }

-- a client adds to a tally and opens a range: the unit is sealed, the layout agreed on, and the sequencer scans the log. It
-- copies the closed range's stripe to the spare unit, and the spare's seal is lost.
abbrev pub copy_lost : Moves tallies
copy_lost = Takes (Commands 0 cmd.Begin) ∷ Takes (Commands 0 (cmd.Put tally 5)) ∷ Takes (Commands 0 cmd.End)
    ∷ Takes (Deliver 0) ∷ Takes (Deliver 1) ∷ Takes (Deliver 2) ∷ Takes (Deliver 3) ∷ Takes (Commands 0 (cmd.Reconf opens_again))
    ∷ Takes (Deliver 4) ∷ Takes (Deliver 5) ∷ Takes (Deliver 6) ∷ Takes (Deliver 7) ∷ Takes (Deliver 8) ∷ Takes (Deliver 9)
    ∷ Takes (Deliver 10) ∷ Takes (Deliver 11) ∷ Takes (Deliver 12) ∷ Takes (Deliver 13) ∷ Takes (Deliver 14) ∷ Takes (Deliver 15)
    ∷ Takes (Tick (client_id 0)) ∷ Takes (Deliver 16) ∷ Takes (Deliver 17) ∷ Takes (Deliver 18) ∷ Takes (Deliver 19) ∷ Takes (Commands 0 (cmd.Copy 1 0 0)) ∷ Takes (Lose 20) ∷ []

-- the settling brings the one cell of the stripe to the spare
pub record CopySettles (w : World tallies) : Type 0 where
  pub reached : Reaches tallies with_spare copy_lost w
  pub alone : IsAlone tallies w 0 (cmd.Copy 1 0 0)
  pub ready : IsReadyFor tallies w 0
  pub spare : IsSpareReady tallies w (cmd.Copy 1 0 0)
  pub waits : WaitsForCopy tallies w 0
  pub counts : Counted w 10 20 80 (copy_bound tallies) (cmd.Copy 1 0 0)
  pub brought : length (unit tallies (settle tallies w).world 1).cells ≡ 1

abbrev pub AppendIsAnswered : Type 0
AppendIsAnswered = AppendSettles (run tallies append_lost (start tallies with_tally))

abbrev pub AskIsAnswered : Type 0
AskIsAnswered = AskSettles (run tallies ask_lost (start tallies with_tally))

abbrev pub FillIsAnswered : Type 0
FillIsAnswered = FillSettles (run tallies fill_lost (start tallies with_tally))

abbrev pub FateIsAnswered : Type 0
FateIsAnswered = FateSettles (run tallies fate_lost (start tallies with_tally))

abbrev pub ProbeIsAnswered : Type 0
ProbeIsAnswered = ProbeSettles (run tallies probe_lost (start tallies with_tally))

abbrev pub EndIsAnswered : Type 0
EndIsAnswered = EndSettles (run tallies end_lost (start tallies with_tally))

abbrev pub RecordIsAnswered : Type 0
RecordIsAnswered = RecordSettles (run tallies page_lost (start tallies with_tally))

abbrev pub SaveIsAnswered : Type 0
SaveIsAnswered = SaveSettles (run tallies save_lost (start tallies with_tally))

abbrev pub RescueIsAnswered : Type 0
RescueIsAnswered = RescueSettles (run tallies rescue_lost (start tallies with_tally))

abbrev pub TrimIsAnswered : Type 0
TrimIsAnswered = TrimSettles (run floored trim_lost (start floored with_tally))

abbrev pub GoneIsAnswered : Type 0
GoneIsAnswered = GoneSettles (run floored gone_lost (start floored with_tally))

abbrev pub CopyIsAnswered : Type 0
CopyIsAnswered = CopySettles (run tallies copy_lost (start tallies with_spare))
