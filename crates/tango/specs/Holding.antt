-- What holds of the runs that a replay or a live run prints.
use Rattle.std.specs.Prelude.{ℕ, ◌<◌, List}
use Rattle.tg_base.specs.declared.fault.Which.{Which}
use Rattle.tg_audit.specs.declared.verdict.Verdict.TheVariants.{Legal}
use Rattle.tg_audit_run.specs.Verdicts.{HasVerdict}
use Rattle.tg_replay.specs.Runs.{Replayed, Refused, Limited, transcript}
use Rattle.tg_live.specs.Lives.{Live, goes}
use Rattle.tg_live.specs.Scripts as lives
use Rattle.tg_live.specs.Scripts.{Over, RunsOver}
use Rattle.tg_law_programs.specs.Headline.Headline.{ScriptHolds, LiveHolds}

-- A text that was replayed to its end, by a run that holds.
pub record ReplayedTruly (text out : List ℕ) : Type 0 where
  pub replayed : Replayed text out
  pub holds : ScriptHolds replayed.script

-- A text whose line n is the first outside: so is the run of the lines before it.
pub record RefusedTruly (text : List ℕ) (n : ℕ) (out : List ℕ) : Type 0 where
  pub refused : Refused text n out
  pub holds : ScriptHolds refused.before

-- A text whose run a limit stopped: so it is as far as it came.
pub record LimitedTruly (text : List ℕ) (which : Which) (out : List ℕ) : Type 0 where
  pub limited : Limited text which out
  pub holds : ScriptHolds limited.script

-- Likewise of live runs, over what their link told: a text that was run to its end.
pub record LivedTruly (o : Over) (text out : List ℕ) : Type 0 where
  pub replayed : lives.Replayed o text out
  pub holds : LiveHolds replayed.script.header replayed.end

-- One whose line n is the first outside: so is each live run of the lines before it that took these answers.
pub record LiveRefusedTruly (o : Over) (text : List ℕ) (n : ℕ) (out : List ℕ) : Type 0 where
  pub refused : lives.Refused o text n out
  pub holds : (end : Live) → RunsOver o refused.before (goes end) → LiveHolds refused.before.header end

-- One whose run a limit stopped.
pub record LiveLimitedTruly (o : Over) (text : List ℕ) (which : Which) (out : List ℕ) : Type 0 where
  pub limited : lives.Limited o text which out
  pub holds : LiveHolds limited.script.header limited.end.live

-- What an audit says of what was printed: it is a transcript, and the verdict on it is legal. A text that was replayed to its end.
pub record ReplayedLegally (text out : List ℕ) : Type 0 where
  pub replayed : Replayed text out
  pub legal : HasVerdict out Legal

-- A text whose line n, past the header's three, is the first outside.
pub record RefusedLegally (text : List ℕ) (n : ℕ) (out : List ℕ) : Type 0 where
  pub refused : Refused text n out
  pub legal : 3 < n → HasVerdict out Legal

-- A text whose run a limit stopped.
pub record LimitedLegally (text : List ℕ) (which : Which) (out : List ℕ) : Type 0 where
  pub limited : Limited text which out
  pub legal : HasVerdict out Legal

-- Likewise of live runs: of the transcript that is printed after the recording.
pub record LivedLegally (o : Over) (text out : List ℕ) : Type 0 where
  pub replayed : lives.Replayed o text out
  pub legal : HasVerdict (transcript replayed.script.header replayed.end.world) Legal

pub record LiveRefusedLegally (o : Over) (text : List ℕ) (n : ℕ) (out : List ℕ) : Type 0 where
  pub refused : lives.Refused o text n out
  pub legal : (end : Live) → RunsOver o refused.before (goes end) → HasVerdict (transcript refused.before.header end.world) Legal

pub record LiveLimitedLegally (o : Over) (text : List ℕ) (which : Which) (out : List ℕ) : Type 0 where
  pub limited : lives.Limited o text which out
  pub legal : HasVerdict (transcript limited.script.header limited.end.live.world) Legal
