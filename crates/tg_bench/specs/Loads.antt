-- The run of a made load, and what is written of it.
use Rattle.std.specs.Prelude.{◌≡◌, ℕ, suc, List, [], ◌∷◌, ◌++◌, length, Option, Some, None}
use Rattle.tg_base.specs.declared.fault.Which.{Which}
use Rattle.tg_io.specs.Bytes.{Takes}
use Rattle.tg_io.specs.declared.status.Status.{Status}
use Rattle.tg_io.specs.declared.status.Status.TheVariants.{Done, Limit, WriteFault, NoMemory}
use Rattle.tg_protocol.specs.Worlds.{start, trace, history}
use Rattle.tg_script.specs.declared.line.Line.{Line}
use Rattle.tg_gen.specs.Loads.{header, load_lines}
use Rattle.tg_any.specs.AllKinds.{all_kinds}
use Rattle.tg_replay.specs.Runs.{Script, Worlds, IsWithin, line_on, run_of, world_of}
use Rattle.tg_replay.specs.declared.stages.End.{End}
use Rattle.tg_replay.specs.declared.stages.End.TheVariants.{Whole, Outside, Limited}
use Rattle.tg_bench.specs.Summaries.{summed, summary_text}

-- the script that a start and a count of rounds give
abbrev pub load : ℕ → ℕ → Script
load start count = record { header = header; events = load_lines start count }

-- how many of the lines are begun: none after one that a limit stops
unfoldable pub begun : List Line → Worlds → ℕ
begun [] w = 0
begun (l ∷ ls) w = elim ((line_on w l).stopped) as (λ _. ℕ) [ Some x ↦ 1 | None ↦ suc (begun ls (line_on w l).world) ]

-- the number of the last event of a script's run
abbrev pub last_event : Script → ℕ
last_event s = begun s.events (start all_kinds s.header)

-- what is printed of a world, in event n
abbrev pub summary_at : ℕ → Worlds → List ℕ
summary_at n w = summary_text (summed all_kinds n (length w.packets) (trace all_kinds w) (history all_kinds w))

-- What is printed of a script's run, which goes as far as the limits allow: the summary of the world that it comes to.
abbrev pub summary : Script → List ℕ
summary s = summary_at (last_event s) (world_of s)

-- this was added to the bytes of a sink, as far as it tells them, and is a front of the summary
abbrev pub IsFront : Script → Option (List ℕ) → Option (List ℕ) → Type 0
IsFront s before after = (out rest : List ℕ) × Takes before out after × (out ++ rest ≡ summary s)

-- how the run of a script has ended
abbrev pub EndsSo : Script → End → Type 0
EndsSo s Whole = IsWithin s
EndsSo s (Limited which) = (run_of s).stopped ≡ Some which
EndsSo s (Outside n) = ⊥

-- the text is the summary of this script's run, which has ended so
pub record IsSummed (s : Script) (end : End) (out : List ℕ) : Type 0 where
  pub ends : EndsSo s end
  pub same : out ≡ summary s

-- What is written with each status, and what the status says of the run.
abbrev pub Written : Script → Status → Option (List ℕ) → Option (List ℕ) → Type 0
Written s Done before after = IsWithin s × Takes before (summary s) after
Written s (Limit which) before after = ((run_of s).stopped ≡ Some which) × Takes before (summary s) after
Written s WriteFault before after = IsFront s before after
Written s NoMemory before after = IsFront s before after
Written s status before after = ⊥

-- The run of a load ends by none of the others.
abbrev pub IsOfLoad : Status → Type 0
IsOfLoad Done = Unit {0}
IsOfLoad (Limit which) = Unit {0}
IsOfLoad WriteFault = Unit {0}
IsOfLoad NoMemory = Unit {0}
IsOfLoad status = ⊥
