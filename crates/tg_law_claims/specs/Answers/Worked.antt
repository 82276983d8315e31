-- Runs at whose last step the premises of laws on refusals are met.
use Rattle.std.specs.Prelude.{◌≡◌, ℕ, zero, suc, ◌+◌, ◌<◌, [], ◌∷◌, ◌++◌, pos, Some}
use Rattle.tg_base.specs.Clusters.{Header}
use Rattle.tg_base.specs.declared.ids.Oid.{Oid}
use Rattle.tg_cell.specs.declared.counter.CounterAsk.TheVariants.{Value}
use Rattle.tg_cell.specs.declared.counter.CounterOp.TheVariants.{Add}
use Rattle.tg_model.specs.Kinds.{CommandOf, EventOf}
use Rattle.tg_model.specs.declared.command.Command.TheVariants as cmd
use Rattle.tg_model.specs.declared.command.Event.TheVariants.{Command as Commands, Deliver}
use Rattle.tg_model.specs.declared.refusal.Refusal.{Refusal}
use Rattle.tg_model.specs.declared.refusal.Refusal.TheVariants as cause
use Rattle.tg_model.specs.declared.trace.What.TheVariants as what
use Rattle.tg_protocol.specs.Playing.{Replies}
use Rattle.tg_protocol.specs.Runs.{Moves, Takes, Reaches, LawfulEvent, most_steps, run}
use Rattle.tg_protocol.specs.Stuck.{command_in}
use Rattle.tg_protocol.specs.Walked.{Walked, walked_in}
use Rattle.tg_protocol.specs.Words.{directory}
use Rattle.tg_protocol.specs.Worlds.{World, Told, start, client}
use Rattle.tg_any.specs.AllKinds.{all_kinds}
use Rattle.tg_any.specs.declared.any.AnyAsk.TheVariants as asks
use Rattle.tg_any.specs.declared.any.AnyOp.TheVariants as ops

-- A step of a run in which a command that waits is refused.
pub record IsRefusedIn (h : Header) (ms : Moves all_kinds) (e : EventOf all_kinds) (x : CommandOf all_kinds) (why : Refusal) (w : World all_kinds) : Type 0 where
  pub reached : Reaches all_kinds h ms w
  pub lawful : LawfulEvent all_kinds h e
  pub few : w.steps < most_steps
  pub told : Told all_kinds
  pub replies : Replies all_kinds w e told
  pub waits : command_in all_kinds (client all_kinds w told.mark.client).work ≡ Some x
  pub refused : told.mark.what ≡ what.Refused why

abbrev pub IsRefused : Header → Moves all_kinds → EventOf all_kinds → CommandOf all_kinds → Refusal → Type 0
IsRefused h ms e x why = IsRefusedIn h ms e x why (run all_kinds ms (start all_kinds h))

abbrev pub ctr0 : Oid
ctr0 = record { 0 = 0x1000000 }

abbrev pub ctr1 : Oid
ctr1 = record { 0 = 0x1000001 }

-- so many packets are delivered, from this one on
abbrev pub delivers : ℕ → ℕ → Moves all_kinds
delivers i zero = []
delivers i (suc n) = Takes (Deliver i) ∷ delivers (i + 1) n

abbrev pub gives : ℕ → CommandOf all_kinds → Moves all_kinds
gives k x = Takes (Commands k x) ∷ []

-- A client asks one counter and adds to the other, and its record stands at position 0, without a decision. Another
-- client, which hosts that other counter alone, asks what it was at position 1; the last answer to its sync is on its
-- way.

abbrev pub two_counters : Header
two_counters = record { units = 1; layouts = 1; seqs = 1; clients = 2; limit = 100; chains = (0 ∷ []) ∷ []; objects = ctr0 ∷ ctr1 ∷ [] }

abbrev pub record_of_another : Moves all_kinds
record_of_another =
    gives 0 (cmd.Host ctr0) ++ gives 0 cmd.Begin ++ gives 0 (cmd.Ask ctr0 (asks.Counter Value)) ++ delivers 0 4 ++ gives 0 (cmd.Put ctr1 (ops.Counter (Add (pos 9)))) ++ gives 0 cmd.End ++ delivers 4 3
    ++ gives 1 (cmd.Host ctr1) ++ gives 1 (cmd.AskAt 1 ctr1 (asks.Counter Value)) ++ delivers 8 3

abbrev pub PastIsUndecided : Type 0
PastIsUndecided = IsRefused two_counters record_of_another (Deliver 11) (cmd.AskAt 1 ctr1 (asks.Counter Value)) (cause.Undecided 0 ctr0)

-- A client adds to a counter, saves it and the directory, marks both and trims what is below position 1. Another client,
-- which hosts the counter, rescues the record at position 0; the unit's answer that it is gone is on its way.

abbrev pub one_counter : Header
one_counter = record { units = 1; layouts = 1; seqs = 1; clients = 2; limit = 100; chains = (0 ∷ []) ∷ []; objects = ctr0 ∷ [] }

abbrev pub record_trimmed : Moves all_kinds
record_trimmed =
    gives 0 (cmd.Host ctr0) ++ gives 0 cmd.Begin ++ gives 0 (cmd.Put ctr0 (ops.Counter (Add (pos 9)))) ++ gives 0 cmd.End ++ delivers 0 4
    ++ gives 0 (cmd.Checkpoint ctr0) ++ delivers 4 8 ++ gives 0 (cmd.Checkpoint directory) ++ delivers 12 8
    ++ gives 0 (cmd.Forget ctr0 1) ++ delivers 20 10 ++ gives 0 (cmd.Forget directory 1) ++ delivers 30 12
    ++ gives 0 cmd.Trim ++ delivers 42 6 ++ gives 1 (cmd.Host ctr0) ++ gives 1 (cmd.Rescue 0) ++ delivers 48 11

-- its walks end then
pub record RescueIsForgotten : Type 0 where
  pub refused : IsRefused one_counter record_trimmed (Deliver 59) (cmd.Rescue 0) (cause.Forgotten 0 1)
  pub had : Walked all_kinds
  pub walked : walked_in all_kinds (run all_kinds record_trimmed (start all_kinds one_counter)) (Deliver 59) refused.told.mark.client ≡ Some had

-- A client adds to a counter. Another one asks that, adds to another counter, and stops with its record at position 1.
-- The first one adds again, saves all, marks all and trims what is below position 1. A third client, which hosts the
-- other counter, rescues the record; its walks have taken in the first counter, and the unit's answer that position 0
-- is gone is on its way.

abbrev pub three_clients : Header
three_clients = record { units = 1; layouts = 1; seqs = 1; clients = 3; limit = 100; chains = (0 ∷ []) ∷ []; objects = ctr0 ∷ ctr1 ∷ [] }

abbrev pub read_trimmed : Moves all_kinds
read_trimmed =
    gives 1 (cmd.Host ctr0) ++ gives 1 (cmd.Host ctr1) ++ gives 1 cmd.Begin ++ gives 1 (cmd.Put ctr0 (ops.Counter (Add (pos 9)))) ++ gives 1 cmd.End ++ delivers 0 4
    ++ gives 0 (cmd.Host ctr0) ++ gives 0 cmd.Begin ++ gives 0 (cmd.Ask ctr0 (asks.Counter Value)) ++ delivers 4 4 ++ gives 0 (cmd.Put ctr1 (ops.Counter (Add (pos 9)))) ++ gives 0 cmd.End ++ delivers 8 3
    ++ gives 1 cmd.Begin ++ gives 1 (cmd.Put ctr0 (ops.Counter (Add (pos 9)))) ++ gives 1 cmd.End ++ delivers 12 4
    ++ gives 1 (cmd.Checkpoint ctr0) ++ delivers 16 10 ++ gives 1 (cmd.Checkpoint ctr1) ++ delivers 26 8 ++ gives 1 (cmd.Checkpoint directory) ++ delivers 34 8
    ++ gives 1 (cmd.Forget ctr0 1) ++ delivers 42 14 ++ gives 1 (cmd.Forget ctr1 1) ++ delivers 56 16 ++ gives 1 (cmd.Forget directory 1) ++ delivers 72 16
    ++ gives 1 cmd.Trim ++ delivers 88 6 ++ gives 2 (cmd.Host ctr1) ++ gives 2 (cmd.Rescue 1) ++ delivers 94 23

abbrev pub RescueIsUndecided : Type 0
RescueIsUndecided = IsRefused three_clients read_trimmed (Deliver 117) (cmd.Rescue 1) (cause.Undecided 1 ctr0)
