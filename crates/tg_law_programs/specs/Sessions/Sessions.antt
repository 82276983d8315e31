-- Sessions of nodes, each by itself, and the run of a world that they make.
use Rattle.std.specs.Prelude.{◌≡◌, ℕ, nat_lt, Bool, true, List, [], ◌∷◌, ◌++◌, map, filter, slice_get, Some, Contains}
use Rattle.tg_base.specs.Clusters.{Header}
use Rattle.tg_base.specs.declared.ids.NodeId.{NodeId}
use Rattle.tg_base.specs.declared.ids.Role.{Role}
use Rattle.tg_base.specs.declared.ids.Role.TheVariants as role
use Rattle.tg_base.specs.declared.packet.Packet.{Packet}
use Rattle.tg_kind.specs.Meaning.{Meaning}
use Rattle.tg_model.specs.Kinds.{EventOf, NoteOf, WhatOf}
use Rattle.tg_model.specs.declared.command.Event.TheVariants.{Command as Commands, Deliver, Tick}
use Rattle.tg_base.specs.Orders.{node_eq}
use Rattle.tg_protocol.specs.Words.{client_id}
use Rattle.tg_protocol.specs.Worlds.{World, Told, unit, layout, seqr, client, start, happens, packet_of}
use Rattle.tg_node_state.specs.Nodes.{Node, NodeTurn, UnitNode, LayoutNode, SeqrNode, ClientNode, InputOf, node_start, node_step}
use Rattle.tg_node_state.specs.declared.input.Input.TheVariants as input

-- how many nodes of a role the header declares
abbrev pub count_in : Header → Role → ℕ
count_in h role.Unit = h.units
count_in h role.Layout = h.layouts
count_in h role.Seqr = h.seqs
count_in h role.Client = h.clients

abbrev pub declares : Header → NodeId → Bool
declares h n = nat_lt n.num (count_in h n.role)

module _ (m : Meaning) where
  -- a node takes an input
  pub record Step : Type 0 where
    pub node : NodeId
    pub input : InputOf m

  -- a reply, of this node, which is a client, and of this transaction of it
  pub record Said : Type 0 where
    pub node : NodeId
    pub tx : ℕ
    pub what : WhatOf m

  -- Sessions.

  -- a node after these inputs
  unfoldable pub after : Node m → List (InputOf m) → Node m
  after n [] = n
  after n (i ∷ is) = after (node_step m n i).now is

  -- the session of a node: its own inputs, in their order
  abbrev pub session : NodeId → List Step → List (InputOf m)
  session n steps = map (λ (s : Step). s.input) (filter (λ (s : Step). node_eq n s.node) steps)

  -- the node at the end of it
  abbrev pub node_after : Header → NodeId → List Step → Node m
  node_after h n steps = after (node_start m h n) (session n steps)

  -- what a step does after those before it
  abbrev pub turn : Header → List Step → Step → NodeTurn m
  turn h before s = node_step m (node_after h s.node before) s.input

  abbrev pub sends_of : NodeId → NodeTurn m → List Packet
  sends_of n t = map (packet_of m n) t.sends

  abbrev pub said_by : NodeId → NoteOf m → Said
  said_by n x = record { node = n; tx = x.tx; what = x.what }

  abbrev pub says_of : NodeId → NodeTurn m → List Said
  says_of n t = map (said_by n) t.notes

  -- what a session gives by itself, input by input
  unfoldable pub given : {X : Type 0} → (NodeTurn m → List X) → Node m → List (InputOf m) → List X
  given f n [] = []
  given f n (i ∷ is) = f (node_step m n i) ++ given f (node_step m n i).now is

  -- what all sessions give, in the order of their steps
  unfoldable pub gathered : {X : Type 0} → (NodeId → NodeTurn m → List X) → Header → List Step → List Step → List X
  gathered f h before [] = []
  gathered f h before (s ∷ rest) = f s.node (turn h before s) ++ gathered f h (before ++ s ∷ []) rest

  abbrev pub sent : Header → List Step → List Packet
  sent h steps = gathered sends_of h [] steps

  abbrev pub said : Header → List Step → List Said
  said h steps = gathered says_of h [] steps

  -- A node takes ticks, packets that were sent to it before, and, if it is a client, commands.
  abbrev pub MayTake : Header → List Step → NodeId → InputOf m → Type 0
  MayTake h before n input.Tick = Unit {0}
  MayTake h before n (input.Packet p) = (p.to ≡ n) × Contains (sent h before) p
  MayTake h before n (input.Command x) = n.role ≡ role.Client

  abbrev pub IsNext : Header → List Step → Step → Type 0
  IsNext h before s = (declares h s.node ≡ true) × MayTake h before s.node s.input

  abbrev pub GoesOn : Header → List Step → List Step → Type 0
  GoesOn h before [] = Unit {0}
  GoesOn h before (s ∷ rest) = IsNext h before s × GoesOn h (before ++ s ∷ []) rest

  -- an order of all steps of the sessions of a header's nodes, in which a packet is sent before it is taken
  abbrev pub IsOrder : Header → List Step → Type 0
  IsOrder h steps = GoesOn h [] steps

  -- Worlds.

  abbrev pub node_at : World m → Role → ℕ → Node m
  node_at w role.Unit n = UnitNode (unit m w n)
  node_at w role.Layout n = LayoutNode (layout m w n)
  node_at w role.Seqr n = SeqrNode (seqr m w n)
  node_at w role.Client n = ClientNode (client m w n)

  abbrev pub node_in : World m → NodeId → Node m
  node_in w n = node_at w n.role n.num

  abbrev pub said_in : World m → List Said
  said_in w = map (λ (t : Told m). record { node = client_id t.mark.client; tx = t.mark.tx; what = t.mark.what }) w.told

  unfoldable pub run : World m → List (EventOf m) → World m
  run w [] = w
  run w (e ∷ es) = run (happens m w e) es

  -- the event by which a world takes a step
  abbrev pub IsEventOf : World m → NodeId → InputOf m → EventOf m → Type 0
  IsEventOf w n input.Tick e = e ≡ Tick n
  IsEventOf w n (input.Packet p) e = (i : ℕ) × (e ≡ Deliver i) × (slice_get w.packets i ≡ Some p)
  IsEventOf w n (input.Command x) e = e ≡ Commands n.num x

  -- an event for each step
  abbrev pub AreEventsOf : World m → List Step → List (EventOf m) → Type 0
  AreEventsOf w [] [] = Unit {0}
  AreEventsOf w (s ∷ ss) (e ∷ es) = IsEventOf w s.node s.input e × AreEventsOf (happens m w e) ss es
  AreEventsOf w [] (e ∷ es) = ⊥
  AreEventsOf w (s ∷ ss) [] = ⊥

  -- The packets and the replies of the world are those of the steps, in their order.
  pub record Shows (h : Header) (steps : List Step) (w : World m) : Type 0 where
    pub packets : w.packets ≡ sent h steps
    pub replies : said_in w ≡ said h steps

  -- Each node, its packets and its replies are those of its session by itself.
  pub record Keeps (h : Header) (sessions : NodeId → List (InputOf m)) (w : World m) : Type 0 where
    pub nodes : (n : NodeId) → node_in w n ≡ after (node_start m h n) (sessions n)
    pub packets : (n : NodeId) → filter (λ (p : Packet). node_eq n p.from) w.packets ≡ given (sends_of n) (node_start m h n) (sessions n)
    pub replies : (n : NodeId) → filter (λ (x : Said). node_eq n x.node) (said_in w) ≡ given (says_of n) (node_start m h n) (sessions n)

  -- Such an order, which keeps the order of each session, is a run of a world.
  abbrev pub SessionsMakeARun : Type 0
  SessionsMakeARun = (h : Header) (sessions : NodeId → List (InputOf m)) (steps : List Step) → ((n : NodeId) → session n steps ≡ sessions n) → IsOrder h steps →
      (events : List (EventOf m)) × AreEventsOf (start m h) steps events × Shows h steps (run (start m h) events) × Keeps h sessions (run (start m h) events)
