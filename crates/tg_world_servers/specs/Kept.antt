-- What servers keep besides: the header's layout, as many nodes as it declares, and how many steps sequencers have
-- taken.
use Rattle.std.specs.Prelude.{◌≡◌, ℕ, List, length}
use Rattle.tg_base.specs.Clusters.{Header}
use Rattle.tg_base.specs.Layouts.{Layout}
use Rattle.tg_protocol.specs.Layouts.{first_layout}
use Rattle.tg_seqr.specs.Counted.{Counted}
use Rattle.tg_world_servers.specs.Rows.{AreCounted}

pub record IsWhole (cluster : Header) (first : Layout) (units layouts : ℕ) (seqrs : List Counted) (steps : ℕ) : Type 0 where
  pub begins : first ≡ first_layout cluster
  pub counted : AreCounted steps seqrs
  pub all_units : units ≡ cluster.units
  pub all_layouts : layouts ≡ cluster.layouts
  pub all_seqrs : length seqrs ≡ cluster.seqs
