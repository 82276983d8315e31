-- What a drain does next, what is noted of a client, and which nodes are clients that run.
use Rattle.std.specs.Prelude.{ℕ, Bool, true, false, ◌&&◌, List, slice_set, Option, Some, None}
use Rattle.tg_base.specs.declared.fault.Which.{Which}
use Rattle.tg_base.specs.declared.ids.NodeId.{NodeId}
use Rattle.tg_base.specs.declared.ids.Oid.{Oid}
use Rattle.tg_base.specs.declared.ids.Role.{Role}
use Rattle.tg_base.specs.declared.ids.Role.TheVariants as role
use Rattle.tg_kind.specs.Meaning.{Meaning}
use Rattle.tg_model.specs.Kinds.{EventOf}
use Rattle.tg_model.specs.declared.command.Command.TheVariants as cmd
use Rattle.tg_model.specs.declared.command.Event.TheVariants as event
use Rattle.tg_protocol.specs.Clients.{Client, upto}
use Rattle.tg_protocol.specs.Worlds.{World, CommandStart, Ran, ran, happens, lowest, limit_of, unless_stopped}
use Rattle.tg_world_servers.specs.Servers.{ServersState, runs}

abbrev pub is_client : Role → Bool
is_client role.Client = true
is_client r = false

-- a client that runs
abbrev pub runs_client : ServersState → NodeId → Bool
runs_client s n = is_client n.role && runs s n

module _ (m : Meaning) where
  abbrev pub due_by : Option Which → Option ℕ → Option ℕ
  due_by (Some x) o = None
  due_by None o = o

  -- the packet that a drain delivers next
  abbrev pub due_of : World m → Option ℕ
  due_of w = due_by (limit_of m w) (lowest m w.waiting)

  abbrev pub end_by : Option Which → Option ℕ → Option Which
  end_by x None = None
  end_by x (Some i) = x

  -- the limit that stops a drain
  abbrev pub end_of : World m → Option Which
  end_of w = end_by (limit_of m w) (lowest m w.waiting)

  -- what is noted after a command to a client that may be busy
  abbrev pub noted_after : List CommandStart → ℕ → Client m → Bool → List CommandStart
  noted_after ns n c true = ns
  noted_after ns n c false = slice_set ns n (record { next = c.next; epoch = c.stand.epoch; upto = upto m c })

  -- one step more, unless a limit is reached
  abbrev pub happens_by : Option Which → World m → EventOf m → Ran m
  happens_by (Some x) w e = ran m w (Some x)
  happens_by None w e = ran m (happens m w e) None

  abbrev pub happens_on : World m → EventOf m → Ran m
  happens_on w e = happens_by (limit_of m w) w e

  -- put and end in a row
  abbrev pub puts_on : World m → ℕ → Oid → m.op → Ran m
  puts_on w k oid op = unless_stopped m (happens_on w (event.Command k (cmd.Put oid op))) (λ v. happens_on v (event.Command k cmd.End))

  -- an update is begin, put and end in a row
  abbrev pub updates_on : World m → ℕ → Oid → m.op → Ran m
  updates_on w k oid op = unless_stopped m (happens_on w (event.Command k cmd.Begin)) (λ v. puts_on v k oid op)
