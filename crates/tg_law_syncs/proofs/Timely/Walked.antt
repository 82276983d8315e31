-- Wherever a step comes to the end of a command's walks, what the client knows there was settled in the epoch in which it stands,
-- or before.
use Rattle.std.proofs.Common.{◌≡◌, refl, Option, ℕ, ◌≤◌, List, [], ◌++◌, true, sym, ap, subst, arith, Some, append-nil}
use Rattle.tg_base.specs.Clusters.{Header}
use Rattle.tg_base.specs.Orders.{node_eq}
use Rattle.tg_base.specs.declared.ids.NodeId.{NodeId}
use Rattle.tg_base.specs.declared.ids.Oid.{Oid}
use Rattle.tg_base.specs.declared.ids.Role.{Role}
use Rattle.tg_base.specs.declared.ids.Role.TheVariants as role
use Rattle.tg_kind.specs.Meaning.{Meaning}
use Rattle.tg_model.specs.Kinds.{EventOf}
use Rattle.tg_model.specs.declared.command.Event.TheVariants.{Command as Commands, Deliver, Lose, Tick, Stop}
use Rattle.tg_protocol.specs.Words.{client_id, layout_id}
use Rattle.tg_protocol.specs.Requests.{awaits}
use Rattle.tg_protocol.specs.Replies.{Reply, reply}
use Rattle.tg_protocol.specs.Views.{Entries}
use Rattle.tg_protocol.specs.Logs.{Log}
use Rattle.tg_protocol.specs.Clients.{Task, Hand, Doing, Work, Client}
use Rattle.tg_protocol.specs.ClientSteps.{task_in, task_awaited}
use Rattle.tg_protocol.specs.Worlds.{World, client}
use Rattle.tg_protocol.specs.Runs.{Moves, Reaches}
use Rattle.tg_law_layouts.specs.Moves.After.{after}
use Rattle.tg_law_layouts.proofs.Moves.Members.{has_got}
use Rattle.tg_law_replies.specs.History.Worlds.{entries_in}
use Rattle.tg_law_replies.specs.Replies.Steps.{EachDelivery, EachEvent}
use Rattle.tg_law_walks.specs.Walks.Streams.{AreKnown}
use Rattle.tg_law_walks.proofs.Walks.Cells.{known_at}
use Rattle.tg_law_walks.specs.Lists.Drafted.{DraftsFit}
use Rattle.tg_law_walks.specs.Lists.Spared.{TrimsWereSpare}
use Rattle.tg_law_walks.proofs.Lists.Fits.{drafts_fit}
use Rattle.tg_law_replies.proofs.Replies.Reached.{each_delivered}
use Rattle.tg_law_syncs.proofs.Each.{Since, since_way}
use Rattle.tg_law_syncs.proofs.Known.Knowing.{At, way, WorkKnows, TaskKnows, TaskHeard}
use Rattle.tg_law_syncs.specs.Timely.Timely.{KnowsInTime, WalksKnowInTime}
use Rattle.tg_law_syncs.proofs.Timely.Standing.{later}
use Rattle.tg_law_syncs.proofs.Timely.Reading.{knows_more}
use Rattle.tg_law_syncs.proofs.Timely.Timely.{held_at, tells, up}

-- Of a log of which a client knows all that it knows, and an epoch up to that in which it stands.
module _ (m : Meaning) (l : Log) (n : ℕ) (P : Client m → Work m → Type 0) (give : (c : Client m) (w : Work m) → AreKnown l c.cells → n ≤ c.stand.epoch → P c w) (objects : List Oid) (es : Entries) where
  module _ (c : Client m) (le : n ≤ c.stand.epoch) (cells : AreKnown l c.cells) (from : NodeId) (rid : ℕ) where
    abbrev Hears : Reply → Type 0
    Hears x = (w : Work m) (t : Task m) → c.work ≡ Some w → w.hand ≡ Doing t → awaits (task_awaited m c.stand t) from rid ≡ true → TaskHeard m l c t from.num x

    in_delivery : (x : Reply) → Hears x → WorkKnows m l c.work → EachDelivery m objects es P c c.work from rid x
    in_delivery x g k = each_delivered m objects es (λ d w p. At m l d w p × Since m n d p) P (λ d w p e v q y i. (way m l d w p e v q y i.0, since_way m n d w p e v q y i.1)) (λ d w i. give d w i.0.0 i.1) c from rid x
        (λ w t has doing a other. ((cells, (subst (λ (d : Hand m). TaskKnows m l (task_in m d)) doing (subst (WorkKnows m l) has k), g w t has doing a)), le))
        (λ w q has is a. ((cells, subst (WorkKnows m l) has k), (le, later (node_eq from (layout_id from.num)) c.stand.epoch q.epoch a)))

    pub delivery_at : (o : Option (Work m)) (x : Reply) → Hears x → c.work ≡ o → WorkKnows m l o → EachDelivery m objects es P c o from rid x
    delivery_at o x g e k = subst (λ (v : Option (Work m)). EachDelivery m objects es P c v from rid x) e (in_delivery x g (subst (WorkKnows m l) (sym e) k))

of_client : (n : NodeId) → n.role ≡ role.Client → n ≡ client_id n.num
of_client n is = ap (λ (r : Role). record { role = r; num = n.num }) is

-- In a world to which a run comes.
module _ (m : Meaning) (h : Header) (zs : Moves m) (r : Reaches m h zs (after m h zs)) (trims : TrimsWereSpare m h zs) (fit : DraftsFit m (after m h zs)) where
  here : zs ≡ zs ++ []
  here = sym (append-nil zs)

  in_time : (e : EventOf m) → EachEvent m h.objects (entries_in m (after m h zs)) (KnowsInTime m (after m h zs)) (after m h zs) e
  in_time (Deliver i) = λ x at is on.
      let k = x.to.num in
      let known = (held_at m h zs r trims fit zs [] here).clients k in
      let g = tells m h zs r trims fit zs [] here k x (record { sent = has_got (after m h zs).packets i x at; to_node = of_client x.to is }) known in
      let now = knows_more m known.of g.more g.within (client m (after m h zs) k) known.knows in
      delivery_at m g.more (client m (after m h zs) k).stand.epoch (KnowsInTime m (after m h zs))
      (λ c w all le pos d found. up m h zs r trims fit (client m (after m h zs) k).stand.epoch c.stand.epoch pos d le (g.each pos d (known_at g.more c.cells all pos d found)))
      h.objects (entries_in m (after m h zs)) (client m (after m h zs) k) (omega arith) now.cells x.from x.rid (client m (after m h zs) k).work (reply x.msg) g.heard refl now.work
  in_time (Commands k x) = tt
  in_time (Lose i) = tt
  in_time (Tick n) = tt
  in_time (Stop n) = tt

module _ (m : Meaning) where
  pub walks_know_in_time : WalksKnowInTime m
  walks_know_in_time h ms w e r trims =
      subst (λ (v : World m). Reaches m h ms v → EachEvent m h.objects (entries_in m v) (KnowsInTime m v) v e) (sym r.goes.is)
      (λ a. in_time m h ms a trims (drafts_fit m h ms (after m h ms) a) e) r
