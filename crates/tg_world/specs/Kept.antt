-- What is kept of a world, and the worlds of the definitions that are kept so.
use Rattle.std.specs.Prelude.{◌≡◌, ◌≤◌, ℕ, List, [], ◌∷◌, length}
use Rattle.tg_kind.specs.Meaning.{Meaning}
use Rattle.tg_model.specs.Kinds.{NoteOf}
use Rattle.tg_protocol.specs.Clients.{Client}
use Rattle.tg_protocol.specs.Worlds as world
use Rattle.tg_client.specs.Kept.{Kept as KeptClient}
use Rattle.tg_model.specs.Kinds.{MarkOf}
use Rattle.tg_world_servers.specs.Servers.{ServersState}
use Rattle.tg_world.specs.Clients.{KeepsClients, AreCounted}

-- a world of clients of type C, and replies of type T
pub record Kept (C T : Type 0) : Type 0 where
  pub servers : ServersState
  pub clients : List C
  pub told : List T
  pub told_noted : List world.CommandStart  -- of each reply's client
  pub noted : List world.CommandStart
  pub event : ℕ

-- each declared client stands in both rows, and each reply has what was noted of its client
pub record IsWhole {C T : Type 0} (servers : ServersState) (clients : List C) (told : List T) (told_noted noted : List world.CommandStart) : Type 0 where
  pub many : length clients ≡ servers.cluster.clients
  pub each_noted : length noted ≡ servers.cluster.clients
  pub replies_noted : length told_noted ≡ length told
  pub few : servers.steps ≤ 200000

module _ (m : Meaning) where
  abbrev pub KeptOf : Type 0
  KeptOf = Kept (KeptClient m) (MarkOf m)

  -- replies, each with what was noted of its client
  abbrev pub told_all : List (MarkOf m) → List world.CommandStart → List (world.Told m)
  told_all [] ns = []
  told_all (t ∷ ts) [] = []
  told_all (t ∷ ts) (n ∷ ns) = record { mark = t; noted = n } ∷ told_all ts ns

  -- the replies that notes make, in an event and of a client of which this was noted
  abbrev pub told_by : ℕ → ℕ → world.CommandStart → NoteOf m → world.Told m
  told_by event k n x = record { mark = record { event = event; client = k; tx = x.tx; what = x.what }; noted = n }

  -- the world of the definitions with these clients
  abbrev pub world_of : KeptOf → List (Client m) → world.World m
  world_of k cs = record {
    cluster = k.servers.cluster;
    units = k.servers.units;
    layouts = k.servers.layouts;
    seqrs = k.servers.seqrs;
    clients = cs;
    stopped = k.servers.stopped;
    packets = k.servers.post.packets;
    waiting = k.servers.post.waiting;
    delivered = k.servers.post.delivered;
    archive = k.servers.archive;
    told = told_all k.told k.told_noted;
    noted = k.noted;
    event = k.event;
    steps = k.servers.steps;
    bytes = k.servers.post.bytes;
  }

  -- a world of the definitions is kept so, and its clients have counted so
  pub record KeepsWorld (k : KeptOf) (w : world.World m) : Type 0 where
    pub clients : KeepsClients m k.clients w.clients
    pub same : world_of k w.clients ≡ w
    pub counted : AreCounted m w.steps w.clients

  -- what is kept is kept of a world of the definitions
  pub record IsWorld (k : KeptOf) : Type 0 where
    pub world : world.World m
    pub keeps : KeepsWorld k world
