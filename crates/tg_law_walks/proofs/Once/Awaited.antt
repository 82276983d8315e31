-- An append ends only by a packet that comes to its client, and there by an answer that it awaits.
use Rattle.std.proofs.Common.{◌≡◌, ℕ, Bool, true, false, refl, sym, ap, ◌∙◌, Option, Some, None, subst}
use Rattle.std.specs.Prelude.{◌&&◌, nat_lt, slice_get}
use Rattle.tg_base.specs.Layouts.{Layout}
use Rattle.tg_base.specs.Orders.{node_eq}
use Rattle.tg_base.specs.declared.ids.NodeId.{NodeId}
use Rattle.tg_base.specs.declared.packet.Packet.{Packet}
use Rattle.tg_kind.specs.Meaning.{Meaning}
use Rattle.tg_model.specs.declared.command.Event.TheVariants.{Deliver}
use Rattle.tg_model.specs.Kinds.{EventOf}
use Rattle.tg_protocol.specs.Words.{layout_id, client_id}
use Rattle.tg_protocol.specs.Worlds.{World, client, runs}
use Rattle.tg_protocol.specs.Requests.{awaits, Next, Goes, Learns, Ends, Turn}
use Rattle.tg_protocol.specs.Replies.{Reply, IsLatest, reply}
use Rattle.tg_protocol.specs.Appending.{Append, AppendEnd, append_feed, append_again}
use Rattle.tg_protocol.specs.Clients.{Task, Appending, Hand, Doing, Learning, Work, Client}
use Rattle.tg_protocol.specs.Answers.{Moved}
use Rattle.tg_protocol.specs.ClientSteps.{task_awaited, task_in, stands, on_append, task_feed, fed_if, hand_feed, reply_feed, feed}
use Rattle.tg_law_replies.specs.Replies.Ended.{end_of, task_ends, again_ends, awaited_ends, hand_ends, latest_ends, reply_ends, work_ends, handed_ends, packet_ends, ended_in}
use Rattle.tg_law_replies.proofs.History.Members.{and_both}
use Rattle.tg_law_replies.proofs.Replies.Reached.{same_node}
use Rattle.tg_law_walks.proofs.Drafts.Became.{no_some, Holds}
use Rattle.tg_law_walks.proofs.Once.Feeding.{AgainSo, again_so}

-- in a newer layout none ends
again_none : {X : Type 0} (q : Layout) (a : Append) (n : Next Append AppendEnd) (x : AppendEnd) → AgainSo q a n → end_of n ≡ Some x → X
again_none q a (Goes b) x h e = no_some x e
again_none q a (Learns b) x h e = absurd h
again_none q a (Ends y) x h e = absurd h

module _ (m : Meaning) where
  module _ (c : Client m) (a : Append) (o : Holds m c a) (from : NodeId) (rid : ℕ) where
    abbrev pub turned : Reply → Turn Append AppendEnd
    turned y = append_feed c.stand a a.work from.num y c.next

    pub record EndsBy (y : Reply) (x : AppendEnd) (r : Moved m) : Type 0 where
      pub doing : o.work.hand ≡ Doing (Appending a o.purpose)
      pub awaited : awaits (task_awaited m c.stand (Appending a o.purpose)) from rid ≡ true
      pub ends : end_of (turned y).to ≡ Some x
      pub moved : r ≡ on_append m c o.work o.purpose (turned y)

    fed_end : (b : Bool) (t : Task m) (y : Reply) (x : AppendEnd) → awaits (task_awaited m c.stand t) from rid ≡ b → t ≡ Appending a o.purpose → o.work.hand ≡ Doing t → awaited_ends m b c t from y ≡ Some x → EndsBy y x (fed_if m b c o.work t from rid y)
    unfolding task_feed
    fed_end true t y x awaited is doing e = record {
      doing = doing ∙ ap (λ (z : Task m). Doing z) is;
      awaited = subst (λ (z : Task m). awaits (task_awaited m c.stand z) from rid ≡ true) is awaited;
      ends = ap (λ (z : Task m). task_ends m c z from.num y) (sym is) ∙ e;
      moved = ap (λ (z : Task m). task_feed m c o.work z from.num rid y) is;
    }
    fed_end false t y x awaited is doing e = no_some x e

    hand_end : (d : Hand m) (y : Reply) (x : AppendEnd) → o.work.hand ≡ d → task_in m d ≡ Appending a o.purpose → hand_ends m c d from rid y ≡ Some x → EndsBy y x (hand_feed m c o.work d from rid y)
    hand_end (Doing t) y x doing is e = fed_end (awaits (task_awaited m c.stand t) from rid) t y x refl is doing e
    hand_end (Learning ws t) y x doing is e = no_some x e

    latest_end : {X : Type 0} (b : Bool) (d : Client m) (x : AppendEnd) → latest_ends m b d (task_in m o.work.hand) ≡ Some x → X
    latest_end true d x e = again_none d.stand a (append_again d.stand a d.next).to x (again_so d.stand a d.next) (ap (λ (t : Task m). again_ends m d t) (sym o.holds) ∙ e)
    latest_end false d x e = no_some x e

    pub reply_end : (y : Reply) (x : AppendEnd) → reply_ends m c o.work from rid y ≡ Some x → EndsBy y x (reply_feed m c o.work from rid y)
    reply_end (IsLatest q) x e = latest_end (node_eq from (layout_id from.num) && nat_lt c.stand.epoch q.epoch) (stands m c q) x e
    reply_end y x e = hand_end o.work.hand y x refl o.holds e

    pub work_end : (y : Reply) (x : AppendEnd) → work_ends m c c.work from rid y ≡ Some x → EndsBy y x (feed m c c.work from rid y)
    work_end y x e = subst (λ (v : Option (Work m)). EndsBy y x (feed m c v from rid y)) (sym o.has) (reply_end y x (ap (λ (v : Option (Work m)). work_ends m c v from rid y) (sym o.has) ∙ e))

  -- the packet that comes
  module _ (w : World m) (k : ℕ) where
    pub record Delivers (e : EventOf m) (x : AppendEnd) : Type 0 where
      pub index : ℕ
      pub event : e ≡ Deliver index
      pub packet : Packet
      pub got : slice_get w.packets index ≡ Some packet
      pub to : packet.to ≡ client_id k
      pub on : runs m w packet.to ≡ true
      pub ends : work_ends m (client m w k) (client m w k).work packet.from packet.rid (reply packet.msg) ≡ Some x

    pub delivery : (e : EventOf m) (x : AppendEnd) → ended_in m w e k ≡ Some x → Delivers e x
    delivery (Deliver i) x e = by (slice_get w.packets i) refl e
      where
        here : (p : Packet) → slice_get w.packets i ≡ Some p → (b : Bool) → (node_eq p.to (client_id k) && runs m w p.to) ≡ b → handed_ends m b (client m w k) p ≡ Some x → Delivers (Deliver i) x
        here p got true on e = let f = and_both (node_eq p.to (client_id k)) (runs m w p.to) on in record { index = i; event = refl; packet = p; got = got; to = same_node p.to (client_id k) f.0; on = f.1; ends = e }
        here p got false on e = no_some x e

        by : (q : Option Packet) → slice_get w.packets i ≡ q → packet_ends m w k q ≡ Some x → Delivers (Deliver i) x
        by None got e = no_some x e
        by (Some p) got e = here p got (node_eq p.to (client_id k) && runs m w p.to) refl e
    delivery y x e = no_some x e
