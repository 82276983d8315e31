-- A client that copies a closed stripe to a spare unit: it seals the spare, brings each position of the stripe to it, and
-- asks it at the end whether it has all.
use Rattle.std.specs.Prelude.{◌≡◌, ℕ, ◌+◌, ◌*◌, Some}
use Rattle.tg_kind.specs.Meaning.{Meaning}
use Rattle.tg_model.specs.Kinds.{CommandOf}
use Rattle.tg_protocol.specs.Trimming.{Copying}
use Rattle.tg_protocol.specs.Clients.{Copying', Doing, Work}
use Rattle.tg_protocol.specs.Worlds.{World, client, latest}
use Rattle.tg_protocol.specs.Finishing.{longest_chain, IsReadyFor, IsSpareReady, most_deliveries_in}
use Rattle.tg_law_finish.specs.Finish.Alone.{IsAlone}
use Rattle.tg_law_finish.specs.Finish.Granted.{next_position}
use Rattle.tg_law_finish.specs.Finish.Laws.{IsAnswered}

module _ (m : Meaning) where
  -- the client's copy waits for its spare, or for a unit that has the position in hand
  pub record WaitsForCopy (w : World m) (k : ℕ) : Type 0 where
    pub work : Work m
    pub waits : (client m w k).work ≡ Some work
    pub copying : Copying
    pub hand : work.hand ≡ Doing (Copying' copying)

  -- Each position of the stripe takes two deliveries for each unit of the longest chain, and four more; and from the first
  -- that the spare lacks then on this is done again. The seal and two looks at the spare take six, and there are two for
  -- each layout server.
  abbrev pub copy_bound : World m → ℕ
  copy_bound w = 4 * ((longest_chain (latest m w) + 2) * next_position m w) + 2 * w.cluster.layouts + 6

  abbrev pub CopyFinishes : World m → Type 0
  CopyFinishes w = (k : ℕ) (x : CommandOf m) → IsAlone m w k x → IsReadyFor m w k → IsSpareReady m w x → WaitsForCopy w k →
      IsAnswered m w k (copy_bound w) × IsAnswered m w k (most_deliveries_in m w x)
