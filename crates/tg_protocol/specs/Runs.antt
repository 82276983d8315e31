-- Runs of a cluster: the worlds that lawful events make.
use Rattle.std.specs.Prelude.{◌≡◌, ℕ, ◌*◌, ◌<◌, ◌≤◌, ◌++◌, true, List, [], ◌∷◌, length, Some, Contains}
use Rattle.tg_base.specs.Changes.{IsChange}
use Rattle.tg_base.specs.Clusters.{Header, IsHeader}
use Rattle.tg_base.specs.declared.ids.NodeId.{NodeId}
use Rattle.tg_base.specs.declared.ids.Role.{Role}
use Rattle.tg_base.specs.declared.ids.Role.TheVariants as role
use Rattle.tg_base.specs.declared.ids.Oid.{Oid}
use Rattle.tg_base.specs.Units.{is_within}
use Rattle.tg_entry.specs.Records.{is_object}
use Rattle.tg_kind.specs.Meaning.{Meaning}
use Rattle.tg_base.specs.Parts.{is_part}
use Rattle.tg_model.specs.declared.command.Command.TheVariants as cmd
use Rattle.tg_model.specs.declared.command.Event.TheVariants.{Command as Commands, Deliver, Lose, Tick, Stop}
use Rattle.tg_model.specs.Kinds.{CommandOf, EventOf}
use Rattle.tg_protocol.specs.Words.{client_id, directory}
use Rattle.tg_protocol.specs.Worlds.{World, start, happens, next_event}

-- how many nodes of a role a header declares
abbrev pub declared_of : Header → Role → ℕ
declared_of h role.Unit = h.units
declared_of h role.Layout = h.layouts
declared_of h role.Seqr = h.seqs
declared_of h role.Client = h.clients

abbrev pub IsDeclared : Header → NodeId → Type 0
IsDeclared h n = n.num < declared_of h n.role

-- a node takes 200,000 steps at most, and a cluster has 119 nodes at most
abbrev pub most_steps : ℕ
most_steps = 119 * 200000

module _ (m : Meaning) where
  -- Lawful events: their nodes are declared, and they name objects by numbers that a page has room for. An op that its
  -- object allows and a page has room for (a put of a longer one is refused) has a spelling, and so has the directory's op
  -- that marks an object; what an ask looks at has one too, and a change keeps the rules of layouts.

  -- an op's bytes, 1 to 4,096 of them, are read back as the op
  pub record IsSpelled (o : Oid) (op : m.op) : Type 0 where
    pub read : m.read o (m.spell op) ≡ Some op
    pub fits : is_within 1 4096 (length (m.spell op)) ≡ true

  abbrev pub LawfulCommand : CommandOf m → Type 0
  LawfulCommand (cmd.Host o) = is_object o ≡ true
  LawfulCommand (cmd.Put o op) = (is_object o ≡ true) × (m.allows o op ≡ true → length (m.spell op) ≤ 4096 → IsSpelled o op)
  LawfulCommand (cmd.Ask o q) = (is_object o ≡ true) × (is_part (m.look q) ≡ true)
  LawfulCommand (cmd.Checkpoint o) = is_object o ≡ true
  LawfulCommand (cmd.Forget o mark) = (is_object o ≡ true) × IsSpelled directory (m.mark_op o mark)
  LawfulCommand (cmd.Reconf c) = IsChange c
  LawfulCommand (cmd.AskAt at o q) = is_object o ≡ true
  LawfulCommand x = Unit {0}

  abbrev pub LawfulEvent : Header → EventOf m → Type 0
  LawfulEvent h (Commands k x) = IsDeclared h (client_id k) × LawfulCommand x
  LawfulEvent h (Deliver i) = Unit {0}
  LawfulEvent h (Lose i) = Unit {0}
  LawfulEvent h (Tick n) = IsDeclared h n
  LawfulEvent h (Stop n) = IsDeclared h n

  -- what a run is made of: steps, between which the events are counted, since one event may be several steps
  pub data Move : Type 0 where
    Next : Move
    Takes : (event : EventOf m) → Move

  abbrev pub Moves : Type 0
  Moves = List Move

  abbrev pub LawfulMove : Header → Move → Type 0
  LawfulMove h Next = Unit {0}
  LawfulMove h (Takes e) = LawfulEvent h e

  -- a world after these moves
  unfoldable pub run : Moves → World m → World m
  run [] w = w
  run (Next ∷ ms) w = run ms (next_event m w)
  run (Takes e ∷ ms) w = run ms (happens m w e)

  -- from one world to another by lawful moves, in not too many steps in all
  pub record Goes (w : World m) (ms : Moves) (v : World m) : Type 0 where
    pub lawful : (x : Move) → Contains ms x → LawfulMove w.cluster x
    pub is : v ≡ run ms w
    pub few : v.steps ≤ most_steps

  -- a world that a run of a header's cluster comes to
  pub record Reaches (h : Header) (ms : Moves) (w : World m) : Type 0 where
    pub header : IsHeader h
    pub goes : Goes (start m h) ms w

  -- a later world
  abbrev pub Later : World m → World m → Type 0
  Later w v = (ms : Moves) × Goes w ms v

  -- a world through which a run came
  pub record Passes (h : Header) (ms : Moves) (u : World m) : Type 0 where
    pub before : Moves
    pub after : Moves
    pub split : ms ≡ before ++ after
    pub is : u ≡ run before (start m h)

  -- every packet was delivered or lost
  abbrev pub IsQuiet : World m → Type 0
  IsQuiet w = w.waiting ≡ []

  -- What holds of every world of every run, of each of them by its run, of every step, and of every world and each
  -- later one.

  abbrev pub Always : (World m → Type 0) → Type 0
  Always P = (h : Header) (ms : Moves) (w : World m) → Reaches h ms w → P w

  abbrev pub AlwaysBy : (Header → Moves → World m → Type 0) → Type 0
  AlwaysBy P = (h : Header) (ms : Moves) (w : World m) → Reaches h ms w → P h ms w

  abbrev pub EachStep : (World m → EventOf m → Type 0) → Type 0
  EachStep P = (h : Header) (ms : Moves) (w : World m) (e : EventOf m) → Reaches h ms w → LawfulEvent h e → w.steps < most_steps → P w e

  abbrev pub EachLater : (World m → World m → Type 0) → Type 0
  EachLater P = (h : Header) (ms : Moves) (w v : World m) → Reaches h ms w → Later w v → P w v
