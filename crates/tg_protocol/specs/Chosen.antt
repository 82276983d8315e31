-- Which layout is decided for an epoch: the one that a majority of the layout servers has accepted.
use Rattle.std.specs.Prelude.{◌≡◌, ℕ, ◌<◌, ◌≤◌, ◌⊎◌, true, Contains}
use Rattle.tg_base.specs.Layouts.{Layout}
use Rattle.tg_base.specs.declared.ids.Ballot.{Ballot}
use Rattle.tg_base.specs.declared.msg.Msg.TheVariants as msg
use Rattle.tg_base.specs.declared.packet.Packet.{Packet}
use Rattle.tg_kind.specs.Meaning.{Meaning}
use Rattle.tg_protocol.specs.Layouts.{first_layout}
use Rattle.tg_protocol.specs.Logs.{by_majority}
use Rattle.tg_protocol.specs.Worlds.{World, latest}

module _ (m : Meaning) where
  abbrev pub Sent : World m → Packet → Type 0
  Sent w p = Contains w.packets p

  -- the servers were asked to accept the layout for this epoch, and a majority has accepted by that ballot
  pub record IsChosen (w : World m) (e : ℕ) (q : Layout) : Type 0 where
    pub ballot : Ballot
    pub proposal : Packet
    pub sent : Sent w proposal
    pub proposes : proposal.msg ≡ msg.Accept e ballot q
    pub accepted : by_majority w.packets w.cluster.layouts e ballot ≡ true

  -- epoch 1 has the header's layout
  abbrev pub IsDecided : World m → ℕ → Layout → Type 0
  IsDecided w e q = ((e ≡ 1) × (q ≡ first_layout w.cluster)) ⊎ ((1 < e) × IsChosen w e q)

  -- at most one layout is decided for each epoch
  abbrev pub OneLayout : World m → Type 0
  OneLayout w = (e : ℕ) (p q : Layout) → IsDecided w e p → IsDecided w e q → p ≡ q

  -- the layout over which the log is read is the decided one of the greatest epoch
  pub record LatestDecided (w : World m) : Type 0 where
    pub decided : IsDecided w (latest m w).epoch (latest m w)
    pub greatest : (e : ℕ) (q : Layout) → IsDecided w e q → e ≤ (latest m w).epoch
