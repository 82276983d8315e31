-- A client that waits for a sync, walks and then an append: of `decide`, `checkpoint` and `forget`, and of `end`
-- whose record is appended.
use Rattle.std.specs.Prelude.{◌≡◌, ℕ, ◌+◌, ◌*◌, Bool, true, false}
use Rattle.tg_kind.specs.Meaning.{Meaning}
use Rattle.tg_model.specs.declared.command.Command.TheVariants as cmd
use Rattle.tg_model.specs.Kinds.{CommandOf}
use Rattle.tg_protocol.specs.Worlds.{World, latest}
use Rattle.tg_protocol.specs.Finishing.{longest_chain, IsReadyFor, most_deliveries_in}
use Rattle.tg_law_finish.specs.Finish.Alone.{IsAlone}
use Rattle.tg_law_finish.specs.Finish.Asks.{NothingTrimmed}
use Rattle.tg_law_finish.specs.Finish.Laws.{IsAnswered, ask_bound}
use Rattle.tg_law_finish.specs.Finish.Reads.{WaitsForRead}

module _ (m : Meaning) where
  -- commands that append once, when all is walked, or are answered then (`end` syncs once its record is appended)
  unfoldable pub makes : CommandOf m → Bool
  makes cmd.End = true
  makes (cmd.Decide p) = true
  makes (cmd.Checkpoint o) = true
  makes (cmd.Forget o n) = true
  makes _ = false

  -- as for an ask, and two deliveries more for each unit of the longest chain, and two for the token
  abbrev pub make_bound : World m → ℕ
  make_bound w = ask_bound m w + 2 * (longest_chain (latest m w) + 1)

  abbrev pub MakeFinishes : World m → Type 0
  MakeFinishes w = (k : ℕ) (x : CommandOf m) → IsAlone m w k x → IsReadyFor m w k → NothingTrimmed m w → makes x ≡ true → WaitsForRead m w k →
      IsAnswered m w k (make_bound w) × IsAnswered m w k (most_deliveries_in m w x)
