-- Where the append comes from that a client has in hand after a turn.
use Rattle.std.proofs.Common.{[], ◌≡◌, ◌⊎◌, ℕ, ◌+◌, ◌<◌, Bool, true, List, Option, Some, None, refl, sym, ap, ◌∙◌, subst, inl, inr, arith}
use Rattle.std.specs.Prelude.{◌&&◌, nat_lt}
use Rattle.tg_base.specs.Layouts.{Layout}
use Rattle.tg_base.specs.declared.ids.NodeId.{NodeId}
use Rattle.tg_base.specs.declared.ids.Oid.{Oid}
use Rattle.tg_base.specs.declared.packet.Packet.{Packet}
use Rattle.tg_kind.specs.Meaning.{Meaning}
use Rattle.tg_model.specs.declared.refusal.Refusal.{Refusal}
use Rattle.tg_model.specs.Kinds.{CommandOf}
use Rattle.tg_base.specs.Orders.{node_eq}
use Rattle.tg_protocol.specs.Words.{layout_id, client_id}
use Rattle.tg_protocol.specs.Requests.{awaits, Next, Goes, Learns}
use Rattle.tg_protocol.specs.Replies.{IsLatest, reply}
use Rattle.tg_protocol.specs.Appending.{Append, AppendEnd, append_asks, append_feed, append_again}
use Rattle.tg_protocol.specs.Syncing.{Sync, sync_start}
use Rattle.tg_protocol.specs.Clients.{Purpose, Task, Syncing, Walking, Appending, Trimming, Copying', Reconfiguring, Hand, Doing, Work, Client, refusal}
use Rattle.tg_protocol.specs.Answers.{Moved, syncs}
use Rattle.tg_protocol.specs.ClientSteps.{task_asks, task_awaited, task_in, reply_feed, feed, refused_or, ClientTurn, client_command, client_deliver, client_tick, tick_by}
use Rattle.tg_law_layouts.specs.Moves.Configs.{Config, client_in}
use Rattle.tg_law_layouts.proofs.Moves.Moves.{Comes, ClientInput, Commanded, Hears', Ticks', Given}
use Rattle.tg_protocol.specs.Runs.{LawfulCommand}
use Rattle.tg_law_steps.proofs.Places.{Place, Feeds, Newer, OnAppend, Walks}
use Rattle.tg_law_steps.proofs.Ways.{Way, FeedsAppend, NewerAppend, AllWalked}
use Rattle.tg_law_steps.proofs.Ends as end
use Rattle.tg_law_steps.proofs.Along.{replied, over_walks}
use Rattle.tg_law_walks.proofs.Drafts.Sound.{IsAsking, Kind, Comes', Stays, Begins, TaskComes, HandComes, Few, Sound, deliver_good}
use Rattle.tg_law_walks.proofs.Drafts.Commands.{command_good}

pub no_some : {X : Type 0} (x : X) {Y : Type 0} → None ≡ Some x → Y
no_some x e = absurd cc

pub same_some : {X : Type 0} (x y : X) → Some x ≡ Some y → x ≡ y
same_some x y e = cc

abbrev pub NextIs : Append → Next Append AppendEnd → Type 0
NextIs b n = (n ≡ Goes b) ⊎ (n ≡ Learns b)

module _ (m : Meaning) where
  pub same_append : (a b : Append) (y z : Purpose m) → Appending a y ≡ Appending b z → a ≡ b
  same_append a b y z e = cc

  -- another task is none
  other_task : {X : Type 0} (s t : Task m) (b : Append) (y : Purpose m) → s ≡ t → t ≡ Appending b y → (s ≡ Appending b y → X) → X
  other_task s t b y e f k = k (e ∙ f)

  -- what a client has in hand
  pub record Holds (c : Client m) (b : Append) : Type 0 where
    pub work : Work m
    pub purpose : Purpose m
    pub has : c.work ≡ Some work
    pub holds : task_in m work.hand ≡ Appending b purpose

  pub none_held : {X : Type 0} (c : Client m) (b : Append) → c.work ≡ None → Holds c b → X
  none_held c b e h = no_some h.work (sym e ∙ h.has)

  pub held_in : (c : Client m) (b : Append) (w : Work m) → c.work ≡ Some w → (h : Holds c b) → task_in m w.hand ≡ Appending b h.purpose
  held_in c b w e h = ap (λ (x : Work m). task_in m x.hand) (same_some w h.work (sym e ∙ h.has)) ∙ h.holds

  -- the end of an append leaves none in hand
  module _ (b : Append) {X : Type 0} where
    synced_none : (c : Client m) (w : Work m) (os : List Oid) → Holds (syncs m c w os).now b → X
    unfolding syncs sync_start
    synced_none c w os h = absurd (no _ h.purpose (held_in (syncs m c w os).now b _ refl h))
      where
        no : (s : Sync) (y : Purpose m) → Syncing s ≡ Appending b y → ⊥
        no s y e = cc

  -- After a turn, an append in hand is new, or was there, or has heard an answer or of a newer layout.
  pub data Became (g : Config m) (k : ℕ) (now : Client m) (b : Append) : Type 0 where
    Fresh : b.token ≡ None → IsAsking m b.work → Kind m (client_in m g k) now.decisions now.checkpoints b.draft → ((a : Append) → Holds (client_in m g k) a → ⊥) → Became g k now b
    Same : (old : Holds (client_in m g k) b) → now.stand ≡ (client_in m g k).stand → Became g k now b
    Fed : (a : Append) (old : Holds (client_in m g k) a) (x : Packet) → Comes m g x (client_id k) → old.work.hand ≡ Doing (Appending a old.purpose) → awaits (append_asks (client_in m g k).stand a) x.from x.rid ≡ true
        → NextIs b (append_feed (client_in m g k).stand a a.work x.from.num (reply x.msg) (client_in m g k).next).to → now.stand ≡ (client_in m g k).stand → Became g k now b
    Again : (a : Append) (old : Holds (client_in m g k) a) (x : Packet) (q : Layout) → Comes m g x (client_id k) → reply x.msg ≡ IsLatest q → x.from ≡ layout_id x.from.num → (client_in m g k).stand.epoch < q.epoch
        → NextIs b (append_again q a (client_in m g k).next).to → now.stand ≡ q → Became g k now b

  module _ (g : Config m) (k : ℕ) where
    abbrev c : Client m
    c = client_in m g k

    pub same_node : (n : NodeId) → node_eq n (layout_id n.num) ≡ true → n ≡ layout_id n.num
    unfolding node_eq
    same_node n e = grind arith

    pub both : (a b : Bool) → (a && b) ≡ true → (a ≡ true) × (b ≡ true)
    both a b e = grind arith

    module _ (x : Packet) (comes : Comes m g x (client_id k)) (a : Append) (old : Holds c a) where
      is_same : (b : Append) → Holds c b → Became g k c b
      is_same b h = Same h refl

      fed : {t : Task m} → awaits (task_awaited m c.stand t) x.from x.rid ≡ true → t ≡ Appending a old.purpose → awaits (append_asks c.stand a) x.from x.rid ≡ true
      unfolding task_asks
      fed e is = subst (λ (z : Task m). awaits (task_awaited m c.stand z) x.from x.rid ≡ true) is e

      -- what its machine's turn leaves in hand
      module _ (b : Append) where
        abbrev Leaves : Layout → Next Append AppendEnd → Type 0
        Leaves p to = (now : Client m) → NextIs b to → now.stand ≡ p → Became g k now b

        abbrev At : Client m → Work m → Place m → Type 0
        At d w (Feeds (Appending a' y) n rid z) = Leaves d.stand (append_feed d.stand a' a'.work n z d.next).to
        At d w (Newer (Appending a' y) n rid q) = Leaves q (append_again q a' d.next).to
        At d w (OnAppend y bs to) = Leaves d.stand to
        At d w p = ⊥

        way : (d : Client m) (w : Work m) (p : Place m) (e : Client m) (v : Work m) (q : Place m) → Way m d w p e v q → At d w p → At e v q
        way d w _ _ _ _ (FeedsAppend a' y n rid z) h = h
        way d w _ _ _ _ (NewerAppend a' y n rid q) h = h
        way d w _ _ _ _ z h = absurd h

        all_walked : (d : Client m) (w : Work m) (e : Client m) (q : Place m) → AllWalked m d w e q → At d w (Walks []) → At e w q
        all_walked d w e q z h = absurd h

        ends : (d : Client m) (w : Work m) (p : Place m) (z : Moved m) → end.End m d w p z → At d w p → Holds z.now b → Became g k z.now b
        ends d w _ _ (end.GoesOn _ _ _ (end.AppendGoes y bs a')) h o = h _ (inl (ap (λ (v : Append). Goes v) (same_append a' b y o.purpose (held_in _ b _ refl o)))) refl
        ends d w _ _ (end.GoesOn _ _ _ z) h o = absurd h
        ends d w _ _ (end.LearnsNewer _ (end.AppendLearns y bs a')) h o = h _ (inr (ap (λ (v : Append). Learns v) (same_append a' b y o.purpose (held_in _ b _ refl o)))) refl
        ends d w _ _ (end.LearnsNewer _ z) h o = absurd h
        ends d w _ _ (end.Syncs e v os z) h o = synced_none b e v os o
        ends d w _ _ (end.Appends e v y ns (end.RescueDecides at so r i j)) h o = absurd h
        ends d w _ _ (end.Appends e v y ns z) h o = absurd h
        ends d w _ _ (end.Refuses e n why z) h o = none_held _ b refl o
        ends d w _ _ (end.Answers e n what z) h o = none_held _ b refl o
        ends d w _ _ (end.Tells e ns z) h o = none_held _ b refl o

        reply_became : Holds (reply_feed m c old.work x.from x.rid (reply x.msg)).now b → Became g k (reply_feed m c old.work x.from x.rid (reply x.msg)).now b
        reply_became =
            replied m At (λ z. Holds z.now b → Became g k z.now b) ends way (over_walks m At (λ z. Holds z.now b → Became g k z.now b) ends all_walked) c old.work x.from x.rid (reply x.msg) (λ h. is_same b h)
            (λ t doing awaited latest. subst (λ (z : Task m). At c old.work (Feeds z x.from.num x.rid (reply x.msg))) (sym (task t doing))
            (λ now is stand. Fed a old x comes (doing ∙ ap (λ (z : Task m). Doing z) (task t doing)) (fed awaited (task t doing)) is stand))
            (λ q is new. subst (λ (z : Task m). At c old.work (Newer z x.from.num x.rid q)) (sym old.holds)
            (λ now next stand. let f = both (node_eq x.from (layout_id x.from.num)) (nat_lt c.stand.epoch q.epoch) new in let l = f.1 in Again a old x q comes is (same_node x.from f.0) (grind (arith, l)) next stand))
          where
            task : (t : Task m) → old.work.hand ≡ Doing t → t ≡ Appending a old.purpose
            task t doing = ap (λ (d : Hand m). task_in m d) (sym doing) ∙ old.holds

    -- with no append in hand before
    began : (d : Client m) (b : Append) → HandComes m c d c.work d.work → Holds d b → ((a : Append) → Holds c a → ⊥) → Became g k d b
    began d b comes h none = by (subst (HandComes m c d c.work) h.has comes)
      where
        come : (t : Task m) → t ≡ Appending b h.purpose → TaskComes m c d c.work t → Became g k d b
        come t is r = from (subst (TaskComes m c d c.work) is r)
          where
            from : Comes' m c d c.work b → Became g k d b
            from (Begins token asks kind) = Fresh token asks kind none
            from (Stays w a y has at e f i) = absurd (none a (record { work = w; purpose = y; has = has; holds = at }))

        by : HandComes m c d c.work (Some h.work) → Became g k d b
        by r = come (task_in m h.work.hand) h.holds r

    called_became : (d : Client m) (n : ℕ) (b : Append) → Became g k d b → Became g k (record d { calls = n }) b
    called_became d n b (Fresh e f i o) = Fresh e f i o
    called_became d n b (Same h e) = Same h e
    called_became d n b (Fed a old x comes doing w is e) = Fed a old x comes doing w is e
    called_became d n b (Again a old x q comes is node less next e) = Again a old x q comes is node less next e

    called_holds : (d : Client m) (n : ℕ) (b : Append) → Holds (record d { calls = n }) b → Holds d b
    called_holds d n b h = record { work = h.work; purpose = h.purpose; has = h.has; holds = h.holds }

    feed_became : (x : Packet) → Comes m g x (client_id k) → (w : Option (Work m)) → c.work ≡ w → (b : Append) → HandComes m c (feed m c w x.from x.rid (reply x.msg)).now c.work (feed m c w x.from x.rid (reply x.msg)).now.work
        → Holds (feed m c w x.from x.rid (reply x.msg)).now b → Became g k (feed m c w x.from x.rid (reply x.msg)).now b
    feed_became x comes None is b good h = none_held c b is h
    feed_became x comes (Some w) is b good h = by (task_in m w.hand) refl
      where
        hears : (a : Append) → Holds c a → Became g k (reply_feed m c w x.from x.rid (reply x.msg)).now b
        hears a old = subst (λ (v : Work m). Holds (reply_feed m c v x.from x.rid (reply x.msg)).now b → Became g k (reply_feed m c v x.from x.rid (reply x.msg)).now b) (same_some old.work w (sym old.has ∙ is)) (reply_became x comes a old b) h

        other : (t : Task m) → task_in m w.hand ≡ t → ((a : Append) (y : Purpose m) → t ≡ Appending a y → ⊥) → (a : Append) → Holds c a → ⊥
        other t at f a old = f a old.purpose (sym at ∙ held_in c a w is old)

        by : (t : Task m) → task_in m w.hand ≡ t → Became g k (reply_feed m c w x.from x.rid (reply x.msg)).now b
        by (Appending a y) at = hears a (record { work = w; purpose = y; has = is; holds = at })
        by (Syncing s) at = began _ b good h (other (Syncing s) at (λ a y e. cc))
        by (Walking j os) at = began _ b good h (other (Walking j os) at (λ a y e. cc))
        by (Trimming t) at = began _ b good h (other (Trimming t) at (λ a y e. cc))
        by (Copying' z) at = began _ b good h (other (Copying' z) at (λ a y e. cc))
        by (Reconfiguring r) at = began _ b good h (other (Reconfiguring r) at (λ a y e. cc))

    refused_became : (x : CommandOf m) (o : Option Refusal) → (o ≡ None → c.work ≡ None) → (b : Append) → HandComes m c (refused_or m c x o).now c.work (refused_or m c x o).now.work → Holds (refused_or m c x o).now b → Became g k (refused_or m c x o).now b
    refused_became x None idle b good h = began (refused_or m c x None).now b good h (λ a old. none_held c a (idle refl) old)
    refused_became x (Some why) idle b good h = Same h refl

    tick_became : (w : Option (Work m)) → c.work ≡ w → (b : Append) → Holds (tick_by m c w).now b → Became g k (tick_by m c w).now b
    tick_became None is b h = Same (record { work = h.work; purpose = h.purpose; has = h.has; holds = h.holds }) refl
    tick_became (Some w) is b h = Same (record { work = h.work; purpose = h.purpose; has = h.has; holds = h.holds }) refl

    free_unless : (x : CommandOf m) → refusal m c x ≡ None → c.work ≡ None
    unfolding refusal
    free_unless x e = grind arith

    pub became : (t : ClientTurn m) → (i : ClientInput m g k t) → Given m (LawfulCommand m) g k t i → Few m c → Sound m c → (b : Append) → Holds t.now b → Became g k t.now b
    unfolding client_command client_deliver client_tick
    became t (Commanded x) lawful few s b h =
        called_became (refused_or m c x (refusal m c x)).now ((refused_or m c x (refusal m c x)).now.calls + 1) b
        (refused_became x (refusal m c x) (free_unless x) b (command_good m c few s x lawful).comes (called_holds (refused_or m c x (refusal m c x)).now ((refused_or m c x (refusal m c x)).now.calls + 1) b h))
    became t (Hears' x comes) lawful few s b h =
        called_became (feed m c c.work x.from x.rid (reply x.msg)).now ((feed m c c.work x.from x.rid (reply x.msg)).now.calls + 1) b
        (feed_became x comes c.work refl b (deliver_good m c x.from x.rid x.msg few s).comes (called_holds (feed m c c.work x.from x.rid (reply x.msg)).now ((feed m c c.work x.from x.rid (reply x.msg)).now.calls + 1) b h))
    became t Ticks' lawful few s b h = tick_became c.work refl b h
