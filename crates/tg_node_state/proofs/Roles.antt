-- What keeps a node of the definitions has its role.
use Rattle.std.proofs.Common.{◌≡◌, ℕ, ◌+◌, ◌<◌, ◌≤◌, List, [], sym, refl, subst, ap, ◌∙◌, arith}
use Rattle.tg_base.specs.Clusters.{Header}
use Rattle.tg_base.specs.declared.packet.Out.{Out}
use Rattle.tg_kind.specs.Meaning.{Meaning}
use Rattle.tg_protocol.specs.Units.{UnitState}
use Rattle.tg_protocol.specs.LayoutServers.{LayoutState}
use Rattle.tg_protocol.specs.Clients as told
use Rattle.tg_seqr.specs.Counted.{Counted}
use Rattle.tg_client.specs.Kept.{Kept as KeptClient, KeepsClient, IsClient}
use Rattle.tg_node_state.specs.Nodes.{Node, NodeTurn, UnitNode, LayoutNode, SeqrNode, ClientNode}
use Rattle.tg_node_state.specs.declared.own.Own.TheVariants as own
use Rattle.tg_node_state.specs.Kept.{Kept, SteppedOf, KeepsNode, KeepsTurn, IsNode}

module _ (m : Meaning) where
  pub unit_kept : (steps : ℕ) (u : UnitState) (n : Node m) (P : Node m → Type 0) → KeepsNode m steps (own.Unit u) n → P (UnitNode u) → P n
  unit_kept steps u (UnitNode s) P e h = subst (λ (x : UnitState). P (UnitNode x)) e h
  unit_kept steps u (LayoutNode s) P e h = absurd e
  unit_kept steps u (SeqrNode s) P e h = absurd e
  unit_kept steps u (ClientNode s) P e h = absurd e

  pub layout_kept : (steps : ℕ) (l : LayoutState) (n : Node m) (P : Node m → Type 0) → KeepsNode m steps (own.Layout l) n → P (LayoutNode l) → P n
  layout_kept steps l (UnitNode s) P e h = absurd e
  layout_kept steps l (LayoutNode s) P e h = subst (λ (x : LayoutState). P (LayoutNode x)) e h
  layout_kept steps l (SeqrNode s) P e h = absurd e
  layout_kept steps l (ClientNode s) P e h = absurd e

  pub seqr_kept : (steps : ℕ) (q : Counted) (n : Node m) (P : Node m → Type 0) → KeepsNode m steps (own.Seqr q) n → (q.calls ≤ steps → P (SeqrNode q.state)) → P n
  seqr_kept steps q (UnitNode s) P e h = absurd e
  seqr_kept steps q (LayoutNode s) P e h = absurd e
  seqr_kept steps q (SeqrNode s) P e h = subst (λ (x : _). P (SeqrNode x)) e.0 (h e.1)
  seqr_kept steps q (ClientNode s) P e h = absurd e

  pub client_kept : (steps : ℕ) (k : KeptClient m) (n : Node m) (P : Node m → Type 0) → KeepsNode m steps (own.Client k) n → ((c : told.Client m) → KeepsClient m k c → c.calls ≤ steps → P (ClientNode c)) → P n
  client_kept steps k (UnitNode s) P e h = absurd e
  client_kept steps k (LayoutNode s) P e h = absurd e
  client_kept steps k (SeqrNode s) P e h = absurd e
  client_kept steps k (ClientNode s) P e h = h s e.0 e.1

  -- a client has taken no step in the beginning
  pub none_called : (h : Header) (n steps : ℕ) → (told.new_client m h n).calls ≤ steps
  unfolding told.new_client
  none_called h n steps = omega arith

  pub seqr_room : (q : Counted) → IsNode m 199999 (own.Seqr q) → q.calls < 200000
  seqr_room q i = seqr_kept 199999 q i.node (λ _. q.calls < 200000) i.keeps (λ le. omega (arith, le))

  pub client_is : (k : KeptClient m) → IsNode m 199999 (own.Client k) → IsClient m k
  client_is k i = client_kept 199999 k i.node (λ _. IsClient m k) i.keeps (λ c h le. record { client = c; keeps = h })

  pub client_room : (k : KeptClient m) → IsNode m 199999 (own.Client k) → k.state.calls < 200000
  client_room k i = client_kept 199999 k i.node (λ _. k.state.calls < 200000) i.keeps (λ c h le.
      let same : c.calls ≡ k.state.calls = ap (λ (d : told.Client m). d.calls) h.kept.is in
      omega (arith, same, le))

  -- after more steps it is kept too
  pub kept_later : (steps more : ℕ) (k : Kept m) (n : Node m) → KeepsNode m steps k n → steps ≤ more → KeepsNode m more k n
  kept_later steps more (own.Unit u) (UnitNode s) h le = h
  kept_later steps more (own.Unit u) (LayoutNode s) h le = absurd h
  kept_later steps more (own.Unit u) (SeqrNode s) h le = absurd h
  kept_later steps more (own.Unit u) (ClientNode s) h le = absurd h
  kept_later steps more (own.Layout l) (UnitNode s) h le = absurd h
  kept_later steps more (own.Layout l) (LayoutNode s) h le = h
  kept_later steps more (own.Layout l) (SeqrNode s) h le = absurd h
  kept_later steps more (own.Layout l) (ClientNode s) h le = absurd h
  kept_later steps more (own.Seqr q) (UnitNode s) h le = absurd h
  kept_later steps more (own.Seqr q) (LayoutNode s) h le = absurd h
  kept_later steps more (own.Seqr q) (SeqrNode s) h le = let few : q.calls ≤ steps = h.1 in (h.0, omega (arith, few, le))
  kept_later steps more (own.Seqr q) (ClientNode s) h le = absurd h
  kept_later steps more (own.Client k) (UnitNode s) h le = absurd h
  kept_later steps more (own.Client k) (LayoutNode s) h le = absurd h
  kept_later steps more (own.Client k) (SeqrNode s) h le = absurd h
  kept_later steps more (own.Client k) (ClientNode s) h le = let few : s.calls ≤ steps = h.1 in (h.0, omega (arith, few, le))

  pub is_later : (steps more : ℕ) (k : Kept m) → IsNode m steps k → steps ≤ more → IsNode m more k
  is_later steps more k i le = record { node = i.node; keeps = kept_later steps more k i.node i.keeps le }

  -- a server's turn, from what it sends
  pub server_turn : (steps : ℕ) (s : SteppedOf m) (k : Kept m) (outs : List Out) (t : NodeTurn m) → s.own ≡ k → s.sends ≡ outs → s.notes ≡ [] → KeepsNode m steps k t.now → outs ≡ t.sends → t.notes ≡ [] → KeepsTurn m steps s t
  server_turn steps s k outs t a b d e f g = record { now = subst (λ (x : Kept m). KeepsNode m steps x t.now) (sym a) e; sends = b ∙ f; notes = d ∙ sym g }
