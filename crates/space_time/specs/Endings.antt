-- How the program ends.
use Rattle.std.specs.Prelude.{ℕ, List}
use Rattle.tg_io.specs.declared.status.Status.{Status}
use Rattle.tg_io.specs.declared.status.Status.TheVariants.{Done, Script as AtLine, Limit}
use Rattle.tg_replay.specs.Outcomes.{Written}

-- A replay of the text may end with this status: some transcript, or a front of one, is what it would have written.
abbrev pub EndsAsReplay : Status → List ℕ → Type 0
EndsAsReplay status text = (out : List ℕ) × Written text status out

-- with these a run was made as far as it goes, and is drawn
abbrev pub IsDrawnAt : Status → Type 0
IsDrawnAt Done = Unit {0}
IsDrawnAt (AtLine line) = Unit {0}
IsDrawnAt (Limit which) = Unit {0}
IsDrawnAt status = ⊥
