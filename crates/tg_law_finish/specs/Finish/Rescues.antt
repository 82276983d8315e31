-- A client that rescues: its walks may be over more streams each time, 128 at most.
use Rattle.std.specs.Prelude.{◌≡◌, ℕ, ◌+◌, ◌-◌, ◌*◌, Bool, true, false}
use Rattle.tg_kind.specs.Meaning.{Meaning}
use Rattle.tg_model.specs.declared.command.Command.TheVariants as cmd
use Rattle.tg_model.specs.Kinds.{CommandOf}
use Rattle.tg_protocol.specs.Worlds.{World, latest}
use Rattle.tg_protocol.specs.Finishing.{longest_chain, IsReadyFor, most_deliveries_in}
use Rattle.tg_law_finish.specs.Finish.Alone.{IsAlone}
use Rattle.tg_law_finish.specs.Finish.Laws.{IsAnswered}
use Rattle.tg_law_finish.specs.Finish.Reads.{WaitsForRead}
use Rattle.tg_law_finish.specs.Finish.Walks.{streams, passes_bound, walk_bound}

module _ (m : Meaning) where
  unfoldable pub is_rescue : CommandOf m → Bool
  is_rescue (cmd.Rescue p) = true
  is_rescue _ = false

  -- The streams are walked once, and once more for each that joins them; then a decision record takes two
  -- deliveries for each unit of the longest chain, and two for the token.
  abbrev pub rescue_bound : World m → ℕ → ℕ
  rescue_bound w n = walk_bound m w 128 * ((128 - n) + 1) + 2 * (longest_chain (latest m w) + 1)

  abbrev pub RescueWalks : World m → Type 0
  RescueWalks w = (k : ℕ) (x : CommandOf m) → IsAlone m w k x → IsReadyFor m w k → is_rescue x ≡ true → (f : WaitsForRead m w k) →
      IsAnswered m w k (rescue_bound w (streams m f.work)) × IsAnswered m w k (most_deliveries_in m w x + 129 * passes_bound m w 128)
