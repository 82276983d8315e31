-- A client's turn is that of the world.
use Rattle.std.specs.Prelude.{◌≡◌, ℕ, List, ◌++◌, map, slice_set, slice_index_or}
use Rattle.tg_kind.specs.Meaning.{Meaning}
use Rattle.tg_model.specs.Kinds.{MarkOf}
use Rattle.tg_protocol.specs.Words.{client_id}
use Rattle.tg_protocol.specs.Clients.{Client}
use Rattle.tg_protocol.specs.ClientSteps.{ClientTurn}
use Rattle.tg_protocol.specs.Worlds as world
use Rattle.tg_protocol.specs.Worlds.{World, CommandStart, client_turned}
use Rattle.tg_world_servers.specs.Servers as servers
use Rattle.tg_world_servers.specs.Servers.{ServersState}
use Rattle.tg_client.specs.Kept.{Kept as KeptClient}
use Rattle.tg_world.specs.Kept.{KeptOf, told_all, told_by, world_of}

module _ (m : Meaning) where
  -- what is noted of a client
  abbrev pub noted_in : List CommandStart → ℕ → CommandStart
  noted_in ns n = slice_index_or ns n (record { next = 1; epoch = 1; upto = 0 })

  -- the world after a client's turn, and the step counted
  pub turned_same : (k : KeptOf m) (cs : List (Client m)) (n : ℕ) (t : ClientTurn m) (ns : List CommandStart) (s : ServersState) (ks : List (KeptClient m)) (ts : List (MarkOf m)) (us : List CommandStart)
      → s ≡ servers.counted (servers.sends k.servers (client_id n) t.sends)
      → told_all m ts us ≡ told_all m k.told k.told_noted ++ map (told_by m k.event n (noted_in ns n)) t.notes
      → world_of m (record { servers = s; clients = ks; told = ts; told_noted = us; noted = ns; event = k.event }) (slice_set cs n t.now)
      ≡ world.counted m (client_turned m (record (world_of m k cs) { noted = ns }) n t)
  unfolding client_turned
  turned_same k cs n t ns s ks ts us e h = λ i. record {
    cluster = (e i).cluster;
    units = (e i).units;
    layouts = (e i).layouts;
    seqrs = (e i).seqrs;
    clients = slice_set cs n t.now;
    stopped = (e i).stopped;
    packets = (e i).post.packets;
    waiting = (e i).post.waiting;
    delivered = (e i).post.delivered;
    archive = (e i).archive;
    told = h i;
    noted = ns;
    event = k.event;
    steps = (e i).steps;
    bytes = (e i).post.bytes;
  }
