-- How a world stands before a settling: a client waits, and no other that runs does.
use Rattle.std.specs.Prelude.{◌≡◌, ◌≢◌, ℕ, ◌⊎◌, true, List, [], map, Option, Some, None}
use Rattle.tg_base.specs.declared.packet.Out.{Out}
use Rattle.tg_base.specs.declared.packet.Packet.{Packet}
use Rattle.tg_kind.specs.Meaning.{Meaning}
use Rattle.tg_model.specs.Kinds.{CommandOf}
use Rattle.tg_protocol.specs.Words.{client_id}
use Rattle.tg_protocol.specs.Clients.{Client, Work}
use Rattle.tg_protocol.specs.ClientSteps.{hand_again_asks}
use Rattle.tg_protocol.specs.Worlds.{World, client, runs, packet_of, settle}
use Rattle.tg_protocol.specs.Runs.{IsQuiet}
use Rattle.tg_law_finish.specs.Finish.Queues.{Queue}

module _ (m : Meaning) where
  -- the requests whose answers a client waits for: its tick sends them again
  abbrev pub awaited : Client m → Option (Work m) → List Out
  awaited c None = []
  awaited c (Some v) = hand_again_asks m c.stand v.hand

  abbrev pub own_requests : World m → ℕ → List Packet
  own_requests w k = map (packet_of m (client_id k)) (awaited (client m w k) (client m w k).work)

  -- Nothing is on its way; or the client's requests are, each once, and nothing else, as right after its command
  -- was given in a quiet world.
  pub record IsAlone (w : World m) (k : ℕ) (x : CommandOf m) : Type 0 where
    pub on_way : IsQuiet m w ⊎ Queue m w (own_requests w k)
    pub running : runs m w (client_id k) ≡ true
    pub work : Work m
    pub waits : (client m w k).work ≡ Some work
    pub command : work.command ≡ x
    pub alone : (j : ℕ) → j ≢ k → runs m w (client_id j) ≡ true → (client m w j).work ≡ None
    pub within : (settle m w).stopped ≡ None
