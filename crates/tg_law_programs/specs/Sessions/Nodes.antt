-- Nodes in processes of their own make a run that holds.
use Rattle.std.specs.Prelude.{◌≡◌, ◌-◌, ◌⊎◌, ℕ, List, [], ◌++◌, map, filter, take, Option, Some, None}
use Rattle.std.proofs.Common.{inl, inr}
use Rattle.tg_base.specs.Clusters.{Header, IsHeader}
use Rattle.tg_base.specs.Orders.{node_eq}
use Rattle.tg_base.specs.declared.fault.Which.{Which}
use Rattle.tg_base.specs.declared.ids.NodeId.{NodeId}
use Rattle.tg_base.specs.declared.packet.Packet.{Packet}
use Rattle.tg_protocol.specs.Worlds.{World, start}
use Rattle.tg_any.specs.AllKinds.{all_kinds}
use Rattle.tg_node.specs.Sessions.{AnyInput, Session, inputs_of, steps_of, opening}
use Rattle.tg_node.specs.Texts.{Point, Midst, session_at, session_in}
use Rattle.tg_law_headline.specs.Runs.Runs.{RunHolds}
use Rattle.tg_law_programs.specs.Sessions.Sessions.{Step, Said, session, said_in, node_in, IsOrder, run}
use Rattle.tg_law_programs.specs.Sessions.Holding.{MakesARunWhere}
use Rattle.tg_law_programs.specs.Sessions.Whole.{inputs_in, said_in_reply}

-- How far a node followed a text: to a point, or into the line after it, in which it passed a limit.
abbrev pub Progress : List ℕ → NodeId → Type 0
Progress text n = Point text n ⊎ ((w : Which) × Midst text n w)

abbrev pub header_of : {text : List ℕ} {n : NodeId} → Progress text n → Header
header_of (inl p) = p.header
header_of (inr (w, m)) = m.point.header

-- what came to it, in order: of the line in which it passed a limit, as much as the limit leaves
abbrev pub inputs_to : {text : List ℕ} {n : NodeId} → Progress text n → List AnyInput
inputs_to {text} {n} (inl p) = inputs_in n p.deeds
inputs_to {text} {n} (inr (w, m)) =
    inputs_in n m.point.deeds ++ take (200000 - steps_of n m.point.deeds) (inputs_of n m.last)

abbrev pub session_to : {text : List ℕ} {n : NodeId} → Progress text n → Session
session_to (inl p) = session_at p
session_to (inr (w, m)) = session_in m

-- A node of a cluster with this header followed a text.
pub record Ran (h : Header) (n : NodeId) : Type 0 where
  pub text : List ℕ
  pub progress : Progress text n
  pub under : header_of progress ≡ h

-- What came to a node, and its session, where it may not have run at all.

abbrev pub inputs_ran : {h : Header} {n : NodeId} → Option (Ran h n) → List AnyInput
inputs_ran None = []
inputs_ran (Some r) = inputs_to r.progress

abbrev pub session_ran : (h : Header) (n : NodeId) → Option (Ran h n) → Session
session_ran h n None = opening h n
session_ran h n (Some r) = session_to r.progress

-- In a world a node, the packets that it sent and its replies are those of a session.
pub record HasSession (w : World all_kinds) (n : NodeId) (s : Session) : Type 0 where
  pub node : node_in all_kinds w n ≡ s.node
  pub packets : filter (λ (p : Packet). node_eq n p.from) w.packets ≡ s.sent
  pub replies : filter (λ (x : Said all_kinds). node_eq n x.node) (said_in all_kinds w)
      ≡ map (said_in_reply n) s.replies

-- These steps of the nodes of a cluster are those of a run that holds, in which each node has its own session.
pub record NodesMake (h : Header) (ran : (n : NodeId) → Option (Ran h n)) (steps : List (Step all_kinds)) : Type 0 where
  pub made : MakesARunWhere all_kinds RunHolds h (λ n. inputs_ran (ran n)) steps
  pub nodes : (n : NodeId) → HasSession (run all_kinds (start all_kinds h) made.made.events) n (session_ran h n (ran n))

-- So it is, whatever texts the nodes follow, in each order of all their steps that keeps each node's own, and in which a
-- packet is sent before it is taken.
abbrev pub NodesHold : Type 0
NodesHold = (h : Header) (ran : (n : NodeId) → Option (Ran h n)) (steps : List (Step all_kinds)) → IsHeader h →
    ((n : NodeId) → session all_kinds n steps ≡ inputs_ran (ran n)) → IsOrder all_kinds h steps → NodesMake h ran steps
