-- Why an event can't be a step.
use Rattle.std.specs.Prelude.{ℕ, Bool, nat_lt, [], ◌∷◌, length, Option, Some, None, if◌then◌else◌}
use Rattle.tg_base.specs.declared.fault.Which.{Which}
use Rattle.tg_base.specs.declared.ids.NodeId.{NodeId}
use Rattle.tg_kind.specs.Meaning.{Meaning}
use Rattle.tg_model.specs.Kinds.{EventOf}
use Rattle.tg_model.specs.declared.command.Event.TheVariants as event
use Rattle.tg_protocol.specs.Words.{client_id, first_some}
use Rattle.tg_protocol.specs.Worlds.{World, count_of, limit_of}
use Rattle.tg_world.specs.declared.check.StepFault.{StepFault}
use Rattle.tg_world.specs.declared.check.StepFault.TheVariants as fault

module _ (m : Meaning) where
  -- the header declares the node
  abbrev pub declares : World m → NodeId → Bool
  declares w n = nat_lt n.num (count_of m w n.role)

  abbrev pub no_node : World m → NodeId → Option StepFault
  no_node w n = if declares w n then None else Some (fault.NoNode n)

  abbrev pub no_packet : World m → ℕ → Option StepFault
  no_packet w i = if nat_lt i (length w.packets) then None else Some (fault.NoPacket (length w.packets))

  -- the node that the event names isn't declared, or the packet isn't sent yet
  abbrev pub missing : World m → EventOf m → Option StepFault
  missing w (event.Command k c) = no_node w (client_id k)
  missing w (event.Deliver i) = no_packet w i
  missing w (event.Lose i) = no_packet w i
  missing w (event.Tick n) = no_node w n
  missing w (event.Stop n) = no_node w n

  abbrev pub over : Option Which → Option StepFault
  over None = None
  over (Some x) = Some (fault.Limit x)

  -- what it names comes before the limits
  abbrev pub fault_of : World m → EventOf m → Option StepFault
  fault_of w e = first_some (missing w e ∷ over (limit_of m w) ∷ [])
