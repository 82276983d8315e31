-- What a step of a world makes of the transaction of a client that walks for an ask.
use Rattle.std.proofs.Common.{◌≡◌, ℕ, List, Some, None, Option, refl, sym, ◌∙◌, inl}
use Rattle.tg_base.specs.declared.ids.Oid.{Oid}
use Rattle.tg_base.specs.declared.packet.Packet.{Packet}
use Rattle.tg_kind.specs.Meaning.{Meaning}
use Rattle.tg_model.specs.declared.refusal.Refusal.{Refusal}
use Rattle.tg_model.specs.Kinds.{CommandOf, EventOf}
use Rattle.tg_protocol.specs.Replies.{reply}
use Rattle.tg_protocol.specs.Views.{Entries}
use Rattle.tg_protocol.specs.Clients.{Work, Client, new_client, refusal}
use Rattle.tg_protocol.specs.ClientSteps.{task_in, refused_or, client_command, client_deliver, tick_by, client_tick}
use Rattle.tg_protocol.specs.Worlds.{World, client, happens}
use Rattle.tg_law_layouts.specs.Moves.Configs.{Config, config, client_in}
use Rattle.tg_law_layouts.proofs.Moves.Lists.{at_set}
use Rattle.tg_law_layouts.proofs.Moves.Turns.{not_busy}
use Rattle.tg_law_replies.specs.Replies.Steps.{EachDelivery, EachEvent}
use Rattle.tg_law_replies.proofs.Books.Effects.{IsAsk}
use Rattle.tg_law_walks.proofs.Drafts.Became.{no_some}
use Rattle.tg_law_syncs.proofs.Follow.Looks.{IsWalk}
use Rattle.tg_law_headline.proofs.Trims.Steps.{Moves', step_by}
use Rattle.tg_law_headline.proofs.Points.Answered.{AskedAtTail, fed}

module _ (m : Meaning) (objects : List Oid) (es : Entries) (P : Client m → Work m → Type 0) where
  -- where the client before walks for an ask
  abbrev Asks : Client m → Client m → Type 0
  Asks c d = (v : Work m) → c.work ≡ Some v → IsAsk m v.command → IsWalk m (task_in m v.hand) → AskedAtTail m objects es P c.tx d

  busy : (c : Client m) (x : CommandOf m) (v : Work m) → c.work ≡ Some v → (client_command m c x).now.tx ≡ c.tx
  unfolding client_command
  busy c x v has = by (refusal m c x) refl
    where
      by : (o : Option Refusal) → refusal m c x ≡ o → (refused_or m c x o).now.tx ≡ c.tx
      by None e = no_some v (sym (not_busy m c x e) ∙ has)
      by (Some why) e = refl

  ticked : (c : Client m) → (client_tick m c).now.tx ≡ c.tx
  unfolding client_tick
  ticked c = by c.work
    where
      by : (o : Option (Work m)) → (tick_by m c o).now.tx ≡ c.tx
      by None = refl
      by (Some v) = refl

  heard : (c : Client m) (p : Packet) → EachDelivery m objects es P c c.work p.from p.rid (reply p.msg) → Asks c (client_deliver m c p.from p.rid p.msg).now
  unfolding client_deliver
  heard c p each v has i walk = fed m objects es P c v p.from p.rid (reply p.msg) has i walk each

  module _ (w : World m) where
    abbrev All : Config m → Type 0
    All d = (k : ℕ) → Asks (client m w k) (client_in m d k)

    all : Moves' m objects es P (config m w) All
    all = record {
      idle = λ k v has i walk. inl refl;
      unit = λ u p a less k v has i walk. inl refl;
      layout = λ l p a less k v has i walk. inl refl;
      seqr = λ s t a less k v has i walk. inl refl;
      commanded = λ n x less. at_set w.clients n _ (new_client m w.cluster) (λ j y. Asks (client m w j) y) less (λ v has i walk. inl (busy (client m w n) x v has)) (λ j other v has i walk. inl refl);
      ticked = λ n less. at_set w.clients n _ (new_client m w.cluster) (λ j y. Asks (client m w j) y) less (λ v has i walk. inl (ticked (client m w n))) (λ j other v has i walk. inl refl);
      heard = λ n p comes each less. at_set w.clients n _ (new_client m w.cluster) (λ j y. Asks (client m w j) y) less (heard (client m w n) p each) (λ j other v has i walk. inl refl);
    }

    pub asks_stepped : (e : EventOf m) → EachEvent m objects es P w e → (k : ℕ) → Asks (client m w k) (client m (happens m w e) k)
    asks_stepped e each = step_by m objects es P w All all e each
