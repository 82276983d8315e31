-- The numbers that a client draws in a step, and what it counts.
use Rattle.std.specs.Prelude.{◌≡◌, ℕ, ◌+◌, ◌*◌, ◌≤◌, length, Some}
use Rattle.tg_base.specs.Layouts.{Layout}
use Rattle.tg_base.specs.declared.ids.NodeId.{NodeId}
use Rattle.tg_base.specs.declared.msg.Msg.{Msg}
use Rattle.tg_base.specs.declared.msg.Msg.TheVariants as msg
use Rattle.tg_kind.specs.Meaning.{Meaning}
use Rattle.tg_model.specs.declared.command.Command.TheVariants as cmd
use Rattle.tg_model.specs.Kinds.{CommandOf}
use Rattle.tg_protocol.specs.Layouts.{chain_of, units_of, next_units}
use Rattle.tg_protocol.specs.Reconfiguring.{Reconf}
use Rattle.tg_protocol.specs.Clients.{Reconfiguring, Work, Client}
use Rattle.tg_protocol.specs.ClientSteps.{task_in, client_command, client_deliver, client_tick}

-- A layout has so many units at most, and so has each of its chains.
pub record HasFew (n : ℕ) (p : Layout) : Type 0 where
  pub units : length (units_of p) ≤ n
  pub chain : (pos : ℕ) → length (chain_of p pos) ≤ n

-- A reconfiguration asks so many layout servers at most, and so many units of the next layout.
pub record AsksFew (n : ℕ) (r : Reconf) : Type 0 where
  pub servers : r.layouts ≤ n
  pub units : length (next_units r.stand r.change) ≤ n

module _ (m : Meaning) where
  -- a client knows of so many layout servers and units at most
  pub record IsFew (n : ℕ) (c : Client m) : Type 0 where
    pub servers : c.layouts ≤ n
    pub stand : HasFew n c.stand
    pub change : (w : Work m) (r : Reconf) → c.work ≡ Some w → task_in m w.hand ≡ Reconfiguring r → AsksFew n r

  -- so it stays with a command, and with a message
  abbrev pub GivesFew : ℕ → Client m → CommandOf m → Type 0
  GivesFew n c (cmd.Reconf x) = length (next_units c.stand x) ≤ n
  GivesFew n c x = Unit {0}

  abbrev pub TellsFew : ℕ → Msg → Type 0
  TellsFew n (msg.Latest q) = HasFew n q
  TellsFew n x = Unit {0}

  -- Each of a client's steps draws so many numbers at most.
  pub record DrawsFew (n : ℕ) (c : Client m) : Type 0 where
    pub command : (x : CommandOf m) → GivesFew n c x → (client_command m c x).now.next ≤ c.next + (2 * n + 3)
    pub deliver : (from : NodeId) (rid : ℕ) (x : Msg) → TellsFew n x → (client_deliver m c from rid x).now.next ≤ c.next + (2 * n + 3)
    pub tick : (client_tick m c).now.next ≤ c.next + (2 * n + 3)

  abbrev pub DrawFew : Type 0
  DrawFew = (n : ℕ) (c : Client m) → IsFew n c → DrawsFew n c

  -- A client has counted a step, and at most one transaction, one decision record and one checkpoint.
  pub record CountsOne (c d : Client m) : Type 0 where
    pub calls : d.calls ≡ c.calls + 1
    pub begun : d.begun ≤ c.begun + 1
    pub decisions : d.decisions ≤ c.decisions + 1
    pub checkpoints : d.checkpoints ≤ c.checkpoints + 1

  pub record StepsCountOne (c : Client m) : Type 0 where
    pub command : (x : CommandOf m) → CountsOne c (client_command m c x).now
    pub deliver : (from : NodeId) (rid : ℕ) (x : Msg) → CountsOne c (client_deliver m c from rid x).now
    pub tick : CountsOne c (client_tick m c).now

  abbrev pub AllCountOne : Type 0
  AllCountOne = (c : Client m) → StepsCountOne c
