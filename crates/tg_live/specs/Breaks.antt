-- What a live run did with its link where it was broken off.
use Rattle.std.specs.Prelude.{◌≡◌, ◌⊎◌, ◌+◌, ◌++◌, ℕ, List, ◌∷◌, length, Option}
use Rattle.tg_io.specs.Acts.{Act}
use Rattle.tg_io.specs.Bytes.{Grows}
use Rattle.tg_lines.specs.Lines.{lines}
use Rattle.tg_replay.specs.Runs.{Script, Begins}
use Rattle.tg_live.specs.declared.stages.Running.{Running}
use Rattle.tg_live.specs.Lives.{Answer, Live, LiveRan, IsLived, opened}
use Rattle.tg_live.specs.Scripts.{IsLiveScript}
use Rattle.tg_live.specs.Sends.{Carried}
use Rattle.tg_live.specs.Stages.{Handed, IsRunOf, over}

-- a front of these was done
abbrev pub GrowsFront : Option (List Act) → List Act → Option (List Act) → Type 0
GrowsFront before whole after = (done rest : List Act) × (whole ≡ done ++ rest) × Grows before done after

-- A part of a run was broken off: a front was done of what the part does by some answers, from the run's start on.
pub record Broken (part : List Answer → Live → LiveRan → Type 0) (before after : Option (List Act)) (l : Live) : Type 0 where
  pub answers : List Answer
  pub end : LiveRan
  pub is : part answers l end
  pub acts : GrowsFront before end.live.acts after

-- Of a text: a front was done of what a live run does of a script with which the text begins, by some answers.
pub record BrokenOff (text : List ℕ) (before after : Option (List Act)) : Type 0 where
  pub script : Script
  pub lawful : IsLiveScript script
  pub begins : Begins text (3 + length script.events) script
  pub answers : List Answer
  pub end : LiveRan
  pub lived : IsLived script.events answers (opened script.header) end
  pub acts : GrowsFront before end.live.acts after

-- or nothing was done
abbrev pub IsDone : List ℕ → Option (List Act) → Option (List Act) → Type 0
IsDone text before after = (after ≡ before) ⊎ BrokenOff text before after

-- what a run was broken off to, where it took a line
abbrev pub BreaksOff : Running → List ℕ → Handed → Carried → Option (List Act) → Type 0
BreaksOff r line a c after = (handed : Handed) (first : Carried) (text : List ℕ) (read more : List (List ℕ)) (s : Script) → lines text ≡ read ++ line ∷ more → IsRunOf (over handed a first c) read r s → BrokenOff text first.acts after
