-- A client that syncs and walks, whatever is trimmed, and whether or not the sequencer has issued a position since
-- its layout's start.
use Rattle.std.specs.Prelude.{◌≡◌, ℕ, zero, ◌+◌, ◌*◌, ◌≤◌, nat_lt, true, filter, length, Some}
use Rattle.tg_kind.specs.Meaning.{Meaning}
use Rattle.tg_model.specs.Kinds.{CommandOf}
use Rattle.tg_protocol.specs.Units.{UnitState}
use Rattle.tg_protocol.specs.Clients.{Work}
use Rattle.tg_protocol.specs.Worlds.{World, client, latest}
use Rattle.tg_protocol.specs.Finishing.{longest_chain, IsReadyFor, most_deliveries_in}
use Rattle.tg_law_finish.specs.Finish.Alone.{IsAlone}
use Rattle.tg_law_finish.specs.Finish.Commands.{is_ask}
use Rattle.tg_law_finish.specs.Finish.Granted.{next_position}
use Rattle.tg_law_finish.specs.Finish.Laws.{IsAnswered}
use Rattle.tg_law_finish.specs.Finish.Makes.{makes}
use Rattle.tg_law_finish.specs.Finish.Reads.{WaitsForRead}

-- What syncs and trims may cost, with chains of so many units, so many streams, and so many units that have trimmed
-- anything. Where none has, there is one sync, which fills the last position or probes its chain. Else there are
-- passes. A pass is a sync, which may do both, and one request for each stream whose walk meets a trim. A trim that was
-- unknown before the sync makes the tail stale, and a new pass begins: at most once for each unit that has trimmed
-- anything, since none trims meanwhile. And a kept view is given up at most once.
abbrev pub passes_of : ℕ → ℕ → ℕ → ℕ
passes_of c streams zero = 2 * (c + 1)
passes_of c streams trimmed = 2 * ((2 * c + 1 + streams) * (trimmed + 2))

module _ (m : Meaning) where
  -- how many units have trimmed anything
  abbrev pub floors : World m → ℕ
  floors w = length (filter (λ (u : UnitState). nat_lt 0 u.low) w.units)

  abbrev pub passes_bound : World m → ℕ → ℕ
  passes_bound w streams = passes_of (longest_chain (latest m w)) streams (floors w)

  -- and each position is read at most once: two deliveries for each unit of the longest chain, and one more; and
  -- two for each layout server
  abbrev pub walk_bound : World m → ℕ → ℕ
  walk_bound w streams = 2 * ((longest_chain (latest m w) + 1) * next_position m w) + 2 * w.cluster.layouts + passes_bound w streams

  -- how many streams a command walks, which are 128 at most
  abbrev pub streams : Work m → ℕ
  streams v = length v.oids

  abbrev pub StreamsFew : World m → Type 0
  StreamsFew w = (k : ℕ) (v : Work m) → (client m w k).work ≡ Some v → streams v ≤ 128

  abbrev pub AskWalks : World m → Type 0
  AskWalks w = (k : ℕ) (x : CommandOf m) → IsAlone m w k x → IsReadyFor m w k → is_ask m x ≡ true → (f : WaitsForRead m w k) →
      IsAnswered m w k (walk_bound w (streams f.work)) × IsAnswered m w k (most_deliveries_in m w x + passes_bound w 128)

  -- the record that it makes takes two deliveries more for each unit of the longest chain, and two for the token
  abbrev pub MakeWalks : World m → Type 0
  MakeWalks w = (k : ℕ) (x : CommandOf m) → IsAlone m w k x → IsReadyFor m w k → makes m x ≡ true → (f : WaitsForRead m w k) →
      IsAnswered m w k (walk_bound w (streams f.work) + 2 * (longest_chain (latest m w) + 1)) × IsAnswered m w k (most_deliveries_in m w x + passes_bound w 128)
