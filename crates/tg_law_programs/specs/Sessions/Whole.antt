-- What one node does over a text is what its session gives by itself.
use Rattle.std.specs.Prelude.{◌≡◌, List, map}
use Rattle.std.specs.List.{flat_map}
use Rattle.tg_base.specs.Clusters.{Header}
use Rattle.tg_base.specs.declared.ids.NodeId.{NodeId}
use Rattle.tg_node_state.specs.Nodes.{node_start}
use Rattle.tg_trace.specs.Transcripts.{Reply}
use Rattle.tg_any.specs.AllKinds.{all_kinds}
use Rattle.tg_node.specs.Sessions.{AnyInput, Deed, inputs_of, session}
use Rattle.tg_law_programs.specs.Sessions.Sessions.{Said, after, given, sends_of, says_of}

-- all that comes to the node, in order
abbrev pub inputs_in : NodeId → List Deed → List AnyInput
inputs_in n ds = flat_map (inputs_of n) ds

-- a reply, its event aside
abbrev pub said_in_reply : NodeId → Reply → Said all_kinds
said_in_reply n r = record { node = n; tx = r.tx; what = r.what }

-- the node, the packets that it sent and its replies are those of a session with these inputs
pub record IsSessionOf (h : Header) (n : NodeId) (ds : List Deed) : Type 0 where
  pub node : (session h n ds).node ≡ after all_kinds (node_start all_kinds h n) (inputs_in n ds)
  pub sent : (session h n ds).sent ≡ given all_kinds (sends_of all_kinds n) (node_start all_kinds h n) (inputs_in n ds)
  pub replies : map (said_in_reply n) (session h n ds).replies ≡ given all_kinds (says_of all_kinds n) (node_start all_kinds h n) (inputs_in n ds)

abbrev pub SessionIsNode : Type 0
SessionIsNode = (h : Header) (n : NodeId) (ds : List Deed) → IsSessionOf h n ds
