-- A command wherever it stands.
use Rattle.std.specs.Prelude.{◌≡◌, ℕ, ◌+◌, ◌*◌, ◌≤◌, true, false, Some}
use Rattle.tg_kind.specs.Meaning.{Meaning}
use Rattle.tg_model.specs.Kinds.{CommandOf}
use Rattle.tg_protocol.specs.Clients.{Task, Doing, Work}
use Rattle.tg_protocol.specs.Worlds.{World, client}
use Rattle.tg_protocol.specs.Finishing.{IsReadyFor, IsSpareReady, NoReconf, most_deliveries_in}
use Rattle.tg_law_finish.specs.Finish.Alone.{IsAlone}
use Rattle.tg_law_finish.specs.Finish.Asks.{NothingTrimmed}
use Rattle.tg_law_finish.specs.Finish.Commands.{plays}
use Rattle.tg_law_finish.specs.Finish.Granted.{next_position}
use Rattle.tg_law_finish.specs.Finish.Laws.{IsAnswered}
use Rattle.tg_law_finish.specs.Finish.Reads.{WaitsForRead}
use Rattle.tg_law_finish.specs.Finish.Rescues.{is_rescue}
use Rattle.tg_law_finish.specs.Finish.Walks.{floors, passes_bound, streams}

module _ (m : Meaning) where
  -- the client has a task in hand: it doesn't wait for a newer layout
  pub record HasTask (w : World m) (k : ℕ) : Type 0 where
    pub work : Work m
    pub waits : (client m w k).work ≡ Some work
    pub task : Task m
    pub hand : work.hand ≡ Doing task

  -- so has each client that waits with a command that isn't a reconfiguration, in a world that is ready for it
  abbrev pub ReadyClientsWork : World m → Type 0
  ReadyClientsWork w = (k : ℕ) (work : Work m) → (client m w k).work ≡ Some work → IsReadyFor m w k → IsSpareReady m w work.command → NoReconf m work.command → HasTask w k

  -- each but a reconfiguration is answered within its bound, and what trims may cost a rescue more
  abbrev pub CommandWalks : World m → Type 0
  CommandWalks w = (k : ℕ) (x : CommandOf m) → IsAlone m w k x → IsReadyFor m w k → IsSpareReady m w x → NoReconf m x →
      IsAnswered m w k (most_deliveries_in m w x + 129 * passes_bound m w 128)

  -- within its bound alone, where nothing is trimmed
  abbrev pub CalmCommand : World m → Type 0
  CalmCommand w = (k : ℕ) (x : CommandOf m) → IsAlone m w k x → IsReadyFor m w k → IsSpareReady m w x → NoReconf m x → NothingTrimmed m w →
      IsAnswered m w k (most_deliveries_in m w x)

  -- and where the log is long: it has 23 positions for each unit that has trimmed anything, and 46 more
  abbrev pub LongCommand : World m → Type 0
  LongCommand w = (k : ℕ) (x : CommandOf m) → IsAlone m w k x → IsReadyFor m w k → IsSpareReady m w x → NoReconf m x → 23 * (floors m w + 2) ≤ next_position m w →
      IsAnswered m w k (most_deliveries_in m w x)

  -- and in a sync or a walk of a command other than `rescue`, where its streams and the units that have trimmed anything are
  -- few for the log
  abbrev pub FewStreams : World m → Type 0
  FewStreams w = (k : ℕ) (x : CommandOf m) → IsAlone m w k x → IsReadyFor m w k → plays m x ≡ true → is_rescue m x ≡ false → (f : WaitsForRead m w k) →
      (streams m f.work + 3) * (floors m w + 2) ≤ 6 * next_position m w + 23 → IsAnswered m w k (most_deliveries_in m w x)
