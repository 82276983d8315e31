-- What is kept of a node, and the nodes of the definitions that are kept so.
use Rattle.std.specs.Prelude.{◌≡◌, ℕ, ◌≤◌}
use Rattle.tg_kind.specs.Meaning.{Meaning}
use Rattle.tg_client.specs.Kept.{KeepsClient}
use Rattle.tg_node_state.specs.Nodes.{Node, NodeTurn, UnitNode, LayoutNode, SeqrNode, ClientNode}
use Rattle.tg_node_state.specs.declared.own.Own.{Own}
use Rattle.tg_node_state.specs.declared.own.Own.TheVariants as own
use Rattle.tg_node_state.specs.declared.own.Stepped.{Stepped}

module _ (m : Meaning) where
  abbrev pub Kept : Type 0
  Kept = Own m.state m.op m.ask m.answer

  abbrev pub SteppedOf : Type 0
  SteppedOf = Stepped m.state m.op m.ask m.answer

  -- a node of the definitions is kept so, after so many steps
  abbrev pub KeepsNode : ℕ → Kept → Node m → Type 0
  KeepsNode steps (own.Unit u) (UnitNode s) = u ≡ s
  KeepsNode steps (own.Layout l) (LayoutNode s) = l ≡ s
  KeepsNode steps (own.Seqr q) (SeqrNode s) = (q.state ≡ s) × (q.calls ≤ steps)
  KeepsNode steps (own.Client k) (ClientNode c) = KeepsClient m k c × (c.calls ≤ steps)
  KeepsNode steps k n = ⊥

  -- some node of the definitions is kept so
  pub record IsNode (steps : ℕ) (k : Kept) : Type 0 where
    pub node : Node m
    pub keeps : KeepsNode steps k node

  -- what a step gives
  pub record KeepsTurn (steps : ℕ) (r : SteppedOf) (t : NodeTurn m) : Type 0 where
    pub now : KeepsNode steps r.own t.now
    pub sends : r.sends ≡ t.sends
    pub notes : r.notes ≡ t.notes
