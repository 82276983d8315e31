-- Each packet of a run is of a node whose number has 16 bits.
use Rattle.std.proofs.Common.{◌≡◌, ◌⊎◌, ℕ, ◌<◌, List, ◌++◌, length, map, sym, ap, ◌∙◌, subst, inl, inr, arith, Some, None, Option}
use Rattle.std.proofs.lemmas.List.{length-map, length-replicate}
use Rattle.tg_base.specs.Clusters.{Header, IsHeader}
use Rattle.tg_base.specs.declared.ids.NodeId.{NodeId}
use Rattle.tg_base.specs.declared.msg.Msg.{Msg}
use Rattle.tg_base.specs.declared.packet.Out.{Out}
use Rattle.tg_base.specs.declared.packet.Packet.{Packet}
use Rattle.tg_kind.specs.Meaning.{Meaning}
use Rattle.tg_protocol.specs.Words.{numbers, seqr_id, client_id}
use Rattle.tg_protocol.specs.Worlds.{start, packet_of, answer_to}
use Rattle.tg_protocol.specs.Runs.{Moves}
use Rattle.tg_law_layouts.specs.Moves.After.{after}
use Rattle.tg_law_layouts.specs.Moves.Configs.{Config, config}
use Rattle.tg_law_layouts.proofs.Moves.Members.{Has, has_either, has_map, set_long}
use Rattle.tg_law_layouts.proofs.Moves.Moves.{Keeps, run_keeps}
use Rattle.tg_law_layouts.proofs.Moves.Reconfs.{numbers_long}
use Rattle.tg_law_programs.proofs.Transcripts.Given.{Few}

module _ (m : Meaning) where
  pub record Posted (c : Config m) : Type 0 where
    pub units : Few (length c.units)
    pub layouts : Few (length c.layouts)
    pub seqrs : Few (length c.seqrs)
    pub clients : Few (length c.clients)
    pub from : (p : Packet) → Has c.packets p → Few p.from.num

  more : (ps new : List Packet) → ((p : Packet) → Has ps p → Few p.from.num) → ((p : Packet) → Has new p → Few p.from.num) → (p : Packet) → Has (ps ++ new) p → Few p.from.num
  more ps new f g p i = by (has_either ps new p i)
    where
      by : Has ps p ⊎ Has new p → Few p.from.num
      by (inl j) = f p j
      by (inr j) = g p j

  answered : (p : Packet) (o : Option Msg) → Few p.to.num → (x : Packet) → Has (answer_to m p o) x → Few x.from.num
  answered p None k x i = absurd i
  answered p (Some y) k x (inl e) = subst (λ (z : Packet). Few z.from.num) (sym e) k
  answered p (Some y) k x (inr i) = absurd i

  sent : (n : NodeId) (os : List Out) → Few n.num → (x : Packet) → Has (map (packet_of m n) os) x → Few x.from.num
  sent n os k x i = let z = has_map (packet_of m n) os x i in subst (λ (y : Packet). Few y.from.num) (sym z.is) k

  same : (a b : ℕ) → a ≡ b → Few b → Few a
  same a b e k = omega (arith, e, k)

  below : (n top : ℕ) → n < top → Few top → Few n
  below n top a b = omega (arith, a, b)

  num_of : (a b : NodeId) → a ≡ b → a.num ≡ b.num
  num_of a b e = ap (λ (n : NodeId). n.num) e

  keeps : Keeps m Posted
  keeps c k = record {
    idle = k;
    unit = λ u p a less. record { units = same _ _ (set_long c.units u _) k.units; layouts = k.layouts; seqrs = k.seqrs; clients = k.clients; from = more c.packets _ k.from (answered p _ (same _ _ (num_of _ _ a.to_node) (below u _ less k.units))) };
    layout = λ l p a less. record { units = k.units; layouts = same _ _ (set_long c.layouts l _) k.layouts; seqrs = k.seqrs; clients = k.clients; from = more c.packets _ k.from (answered p _ (same _ _ (num_of _ _ a.to_node) (below l _ less k.layouts))) };
    seqr = λ s t i less. record { units = k.units; layouts = k.layouts; seqrs = same _ _ (set_long c.seqrs s _) k.seqrs; clients = k.clients; from = more c.packets _ k.from (sent (seqr_id s) t.sends (below s _ less k.seqrs)) };
    client = λ n t i less. record { units = k.units; layouts = k.layouts; seqrs = k.seqrs; clients = same _ _ (set_long c.clients n _) k.clients; from = more c.packets _ k.from (sent (client_id n) t.sends (below n _ less k.clients)) };
  }

  few_units : (h : Header) → IsHeader h → Few h.units
  few_units h e = grind arith

  few_layouts : (h : Header) → IsHeader h → Few h.layouts
  few_layouts h e = grind arith

  few_seqrs : (h : Header) → IsHeader h → Few h.seqs
  few_seqrs h e = grind arith

  few_clients : (h : Header) → IsHeader h → Few h.clients
  few_clients h e = grind arith

  starts : (h : Header) → IsHeader h → Posted (config m (start m h))
  unfolding start
  starts h e = record {
    units = same _ _ (length-replicate h.units _) (few_units h e);
    layouts = same _ _ (length-replicate h.layouts _) (few_layouts h e);
    seqrs = same _ _ (length-map (numbers h.seqs 0) _ ∙ numbers_long h.seqs 0) (few_seqrs h e);
    clients = same _ _ (length-map (numbers h.clients 0) _ ∙ numbers_long h.clients 0) (few_clients h e);
    from = λ p i. absurd i;
  }

  pub posted : (h : Header) → IsHeader h → (ms : Moves m) → Posted (config m (after m h ms))
  posted h e ms = run_keeps m Posted keeps ms (start m h) (starts h e)
