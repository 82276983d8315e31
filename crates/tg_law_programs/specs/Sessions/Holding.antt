-- Nodes that each take their own inputs make a run of lawful events, and what is told in it holds.
use Rattle.std.specs.Prelude.{◌≡◌, ◌≤◌, List, map, length, Contains}
use Rattle.tg_base.specs.Clusters.{Header, IsHeader}
use Rattle.tg_base.specs.declared.ids.NodeId.{NodeId}
use Rattle.tg_kind.specs.Meaning.{Meaning}
use Rattle.tg_model.specs.Kinds.{EventOf}
use Rattle.tg_node_state.specs.Nodes.{InputOf}
use Rattle.tg_node_state.specs.declared.input.Input.TheVariants as input
use Rattle.tg_protocol.specs.Worlds.{World, start}
use Rattle.tg_protocol.specs.Runs.{LawfulCommand, Moves, Takes, Reaches}
use Rattle.tg_protocol.specs.Headline.{Holds}
use Rattle.tg_any.specs.AllKinds.{all_kinds}
use Rattle.tg_law_headline.specs.Runs.Runs.{RunHolds}
use Rattle.tg_law_programs.specs.Sessions.Sessions.{Step, session, IsOrder, AreEventsOf, Shows, Keeps, run}

module _ (m : Meaning) where
  abbrev pub LawfulInput : InputOf m → Type 0
  LawfulInput (input.Command x) = LawfulCommand m x
  LawfulInput i = Unit {0}

  -- sessions whose commands are lawful, each of at most 200,000 steps
  pub record AreSessions (sessions : NodeId → List (InputOf m)) : Type 0 where
    pub lawful : (n : NodeId) (i : InputOf m) → Contains (sessions n) i → LawfulInput i
    pub few : (n : NodeId) → length (sessions n) ≤ 200000

  -- the moves of these events; replies have no event numbers here
  abbrev pub moves_of : List (EventOf m) → Moves m
  moves_of es = map Takes es

  -- the world of the sessions in one order: its packets and replies are theirs, and a run reaches it
  pub record MakesARun (h : Header) (sessions : NodeId → List (InputOf m)) (steps : List (Step m)) : Type 0 where
    pub events : List (EventOf m)
    pub follows : AreEventsOf m (start m h) steps events
    pub shows : Shows m h steps (run m (start m h) events)
    pub keeps : Keeps m h sessions (run m (start m h) events)
    pub reaches : Reaches m h (moves_of events) (run m (start m h) events)

  -- such a world, of which P holds
  pub record MakesARunWhere (P : World m → Type 0) (h : Header) (sessions : NodeId → List (InputOf m)) (steps : List (Step m)) : Type 0 where
    pub made : MakesARun h sessions steps
    pub holds : P (run m (start m h) made.events)

  -- what sessions make in each order that keeps the order of each
  abbrev pub EachOrder : (Header → (NodeId → List (InputOf m)) → List (Step m) → Type 0) → Type 0
  EachOrder Makes = (h : Header) (sessions : NodeId → List (InputOf m)) (steps : List (Step m)) → IsHeader h → AreSessions sessions →
      ((n : NodeId) → session m n steps ≡ sessions n) → IsOrder m h steps → Makes h sessions steps

  abbrev pub SessionsReach : Type 0
  SessionsReach = EachOrder MakesARun

  abbrev pub SessionsHold : Type 0
  SessionsHold = EachOrder (MakesARunWhere (Holds m))

-- in the store
abbrev pub StoreSessionsHold : Type 0
StoreSessionsHold = EachOrder all_kinds (MakesARunWhere all_kinds RunHolds)
