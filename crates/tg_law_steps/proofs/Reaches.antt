-- Where a turn's walks end, read from each of its places.
use Rattle.std.proofs.Common.{◌≡◌, ℕ, List, [], ◌∷◌, Bool, true, false, refl, sym, ap, ◌∙◌, subst, arith, Option, Some, None}
use Rattle.std.specs.Prelude.{not, ◌&&◌, ◌==◌, nat_lt, if◌then◌else◌}
use Rattle.tg_base.specs.Layouts.{Layout}
use Rattle.tg_base.specs.Orders.{node_eq}
use Rattle.tg_base.specs.declared.cell.Cell.{Cell}
use Rattle.tg_base.specs.declared.packet.Out.{Out}
use Rattle.tg_base.specs.declared.ids.NodeId.{NodeId}
use Rattle.tg_base.specs.declared.ids.Oid.{Oid}
use Rattle.tg_kind.specs.Meaning.{Meaning}
use Rattle.tg_protocol.specs.Words.{layout_id}
use Rattle.tg_protocol.specs.Requests.{awaits, Next, Goes, Learns, Ends}
use Rattle.tg_protocol.specs.Replies.{Reply, IsLatest}
use Rattle.tg_protocol.specs.Syncing.{Sync, Confirmed, sync_start}
use Rattle.tg_protocol.specs.Walking.{Walk, Members}
use Rattle.tg_protocol.specs.Clients.{Task, Syncing, Walking, Hand, Learning, Doing, Work, Client}
use Rattle.tg_protocol.specs.ClientSteps.{start_walk, knows, lo_for, task_in, task_awaited, takes_back, found_by, stale, gives_up, given_up_if, stands}
use Rattle.tg_protocol.specs.Walked.{Walked, walks_end, sync_end, trim_end, walked_end, walk_end, task_end, again_end, hand_end, reply_end, work_end}
use Rattle.tg_law_steps.proofs.Places.{Place, Feeds, Newer, OnSync, OnWalk, Over, Walks}
use Rattle.tg_law_steps.proofs.Ways.{Way, FeedsSync, FeedsWalk, NewerWalk, Confirms, Settles, EndsAtOnce, WalkEnds, MetNone, MetLow, MetHigh, StartsOver}
use Rattle.tg_law_steps.proofs.Along.{NoLatest}

module _ (m : Meaning) where
  abbrev pub reaches : Client m → Work m → Place m → Option (Walked m)
  reaches c w (Feeds t n rid x) = task_end m c w t n x
  reaches c w (Newer t n rid q) = again_end m (stands m c q) w t
  reaches c w (OnSync bs to) = sync_end m c w to
  reaches c w (OnWalk o os to) = walk_end m c w o os to
  reaches c w (Over o os x g) = walked_end m c w o os x g
  reaches c w (Walks os) = walks_end m os c w
  reaches c w p = None

  met_same : (c : Client m) (w : Work m) (o : Oid) (os : List Oid) (x : Members) (b : ℕ) (g s z : Bool) → gives_up m c w b ≡ g → stale m c w o x b ≡ s → (w.lo == 0) ≡ z
      → walked_end m c w o os x (Some b) ≡ trim_end m (given_up_if m g c) w os s (g && not z)
  met_same c w o os x b g s z e f k =
      ap (λ (y : Bool). trim_end m (given_up_if m y c) w os (stale m c w o x b) (y && not (w.lo == 0))) e
      ∙ (ap (λ (y : Bool). trim_end m (given_up_if m g c) w os y (g && not (w.lo == 0))) f
      ∙ ap (λ (y : Bool). trim_end m (given_up_if m g c) w os s (g && not y)) k)

  -- each way keeps it
  pub reach_way : (c : Client m) (w : Work m) (p : Place m) (d : Client m) (v : Work m) (q : Place m) → Way m c w p d v q → reaches c w p ≡ reaches d v q
  unfolding walks_end sync_start
  reach_way c w _ _ _ _ (EndsAtOnce o os x e) =
      ap (λ (to : Next _ Members). elim to as (λ _. Option (Walked m)) [ Goes y ↦ None | Learns y ↦ None | Ends y ↦ walks_end m os (takes_back m c y) (found_by m w o y) ]) e
  reach_way c w _ _ _ _ (MetLow o os x b e f) = met_same c w o os x b false false (w.lo == 0) e f refl
  reach_way c w _ _ _ _ (MetHigh o os x b e f k) = met_same c w o os x b true false true e f (ap (λ (n : ℕ). n == 0) k)
  reach_way c w _ _ _ _ (StartsOver o os x b e f k) = met_same c w o os x b true false false e f k
  reach_way c w _ _ _ _ x = refl

  -- A delivery.
  module _ (c : Client m) (from : NodeId) (rid : ℕ) where
    no_layout : (w : Work m) (x : Reply) → NoLatest x → reply_end m c w from rid x ≡ hand_end m c w w.hand from rid x
    no_layout w (IsLatest q) other = absurd other
    no_layout w x other = refl

    pub reach_fed : (x : Reply) (w : Work m) (t : Task m) → c.work ≡ Some w → w.hand ≡ Doing t → awaits (task_awaited m c.stand t) from rid ≡ true → NoLatest x → work_end m c c.work from rid x ≡ task_end m c w t from.num x
    reach_fed x w t has doing a other =
        ap (λ (o : Option (Work m)). work_end m c o from rid x) has
        ∙ (no_layout w x other ∙ (ap (λ (d : Hand m). hand_end m c w d from rid x) doing ∙ ap (λ (b : Bool). if b then task_end m c w t from.num x else None) a))

    pub reach_newer : (x : Reply) (w : Work m) (q : Layout) → c.work ≡ Some w → x ≡ IsLatest q → (node_eq from (layout_id from.num) && nat_lt c.stand.epoch q.epoch) ≡ true → work_end m c c.work from rid x ≡ again_end m (stands m c q) w (task_in m w.hand)
    reach_newer x w q has is e =
        ap (λ (o : Option (Work m)). work_end m c o from rid x) has
        ∙ (ap (λ (y : Reply). reply_end m c w from rid y) is ∙ ap (λ (b : Bool). if b then again_end m (stands m c q) w (task_in m w.hand) else None) e)

-- What holds at each place holds where the turn's walks end.
module _ (m : Meaning) (P : Client m → Work m → Place m → Type 0) (Q : Client m → Work m → Type 0) (way : (c : Client m) (w : Work m) (p : Place m) (d : Client m) (v : Work m) (q : Place m) → Way m c w p d v q → P c w p → P d v q)
    (over : (c : Client m) (w : Work m) → P c w (Walks []) → Q c w) where
  abbrev pub Reached : Option (Walked m) → Type 0
  Reached None = Unit {0}
  Reached (Some y) = Q y.client y.work

  walks_reach : (os : List Oid) (c : Client m) (w : Work m) → P c w (Walks os) → Reached (walks_end m os c w)
  unfolding walks_end
  walks_reach [] c w h = over c w h
  walks_reach (o ∷ os) c w h = by (start_walk m c w o).to refl (λ d v k. walks_reach os d v k)
    where
      by : (to : Next Walk Members) → (start_walk m c w o).to ≡ to → ((d : Client m) (v : Work m) → P d v (Walks os) → Reached (walks_end m os d v))
          → Reached (elim to as (λ _. Option (Walked m)) [ Goes x ↦ None | Learns x ↦ None | Ends x ↦ walks_end m os (takes_back m c x) (found_by m w o x) ])
      by (Goes x) e rest = tt
      by (Learns x) e rest = tt
      by (Ends x) e rest = rest _ _ (way c w _ _ _ _ (EndsAtOnce o os x e) h)

  sync_reach : (c : Client m) (w : Work m) (bs : List Out) (to : Next Sync Confirmed) → P c w (OnSync bs to) → Reached (sync_end m c w to)
  sync_reach c w bs (Goes s) h = tt
  sync_reach c w bs (Learns s) h = tt
  sync_reach c w bs (Ends x) h = by x.settled h
    where
      by : (s : Option (ℕ × Cell)) → P c w (OnSync bs (Ends (record { tail = x.tail; lasts = x.lasts; settled = s }))) → Reached (walks_end m w.oids (knows m c s) (record w { tail = x.tail; lasts = x.lasts; lo = lo_for m c w.command }))
      by None h = walks_reach w.oids _ _ (way c w _ _ _ _ (Confirms bs x.tail x.lasts) h)
      by (Some s) h = walks_reach w.oids _ _ (way c w _ _ _ _ (Settles bs x.tail x.lasts s) h)

  over_reach : (c : Client m) (w : Work m) (o : Oid) (os : List Oid) (x : Members) (g : Option ℕ) → P c w (Over o os x g) → Reached (walked_end m c w o os x g)
  over_reach c w o os x None h = walks_reach os c w (way c w _ _ _ _ (MetNone o os x) h)
  over_reach c w o os x (Some b) h = by (gives_up m c w b) (stale m c w o x b) (w.lo == 0) refl refl refl
    where
      zero_is : (n : ℕ) → (n == 0) ≡ true → n ≡ 0
      zero_is n e = grind arith

      by : (g s z : Bool) → gives_up m c w b ≡ g → stale m c w o x b ≡ s → (w.lo == 0) ≡ z → Reached (trim_end m (given_up_if m g c) w os s (g && not z))
      by false true z e f k = tt
      by false false z e f k = walks_reach os c w (way c w _ _ _ _ (MetLow o os x b e f) h)
      by true true z e f k = tt
      by true false true e f k = walks_reach os _ _ (way c w _ _ _ _ (MetHigh o os x b e f (zero_is w.lo k)) h)
      by true false false e f k = walks_reach w.oids _ _ (way c w _ _ _ _ (StartsOver o os x b e f k) h)

  walk_reach : (c : Client m) (w : Work m) (o : Oid) (os : List Oid) (to : Next Walk Members) → P c w (OnWalk o os to) → Reached (walk_end m c w o os to)
  walk_reach c w o os (Goes x) h = tt
  walk_reach c w o os (Learns x) h = tt
  walk_reach c w o os (Ends x) h = over_reach _ _ o os x x.gone (way c w _ _ _ _ (WalkEnds o os x) h)

  pub reach_along : (c : Client m) (w : Work m) (p : Place m) → P c w p → Reached (reaches m c w p)
  reach_along c w (Feeds (Syncing s) n rid x) h = sync_reach _ _ _ _ (way c w _ _ _ _ (FeedsSync s n rid x) h)
  reach_along c w (Feeds (Walking k os) n rid x) h = walk_reach _ _ k.oid os _ (way c w _ _ _ _ (FeedsWalk k os n rid x) h)
  reach_along c w (Feeds t n rid x) h = tt
  reach_along c w (Newer (Walking k os) n rid q) h = walk_reach _ _ k.oid os _ (way c w _ _ _ _ (NewerWalk k os n rid q) h)
  reach_along c w (Newer t n rid q) h = tt
  reach_along c w (OnSync bs to) h = sync_reach c w bs to h
  reach_along c w (OnWalk o os to) h = walk_reach c w o os to h
  reach_along c w (Over o os x g) h = over_reach c w o os x g h
  reach_along c w (Walks os) h = walks_reach os c w h
  reach_along c w p h = tt

  pub reach_delivered : (c : Client m) (from : NodeId) (rid : ℕ) (x : Reply)
      → ((w : Work m) (t : Task m) → c.work ≡ Some w → w.hand ≡ Doing t → awaits (task_awaited m c.stand t) from rid ≡ true → NoLatest x → P c w (Feeds t from.num rid x))
      → ((w : Work m) (q : Layout) → c.work ≡ Some w → x ≡ IsLatest q → (node_eq from (layout_id from.num) && nat_lt c.stand.epoch q.epoch) ≡ true → P c w (Newer (task_in m w.hand) from.num rid q))
      → Reached (work_end m c c.work from rid x)
  reach_delivered c from rid x feeds newer = by c.work refl
    where
      fed : (b : Bool) (w : Work m) (t : Task m) → c.work ≡ Some w → w.hand ≡ Doing t → awaits (task_awaited m c.stand t) from rid ≡ b → NoLatest x → Reached (if b then task_end m c w t from.num x else None)
      fed true w t has doing a other = reach_along c w (Feeds t from.num rid x) (feeds w t has doing a other)
      fed false w t has doing a other = tt

      hand : (w : Work m) (d : Hand m) → c.work ≡ Some w → w.hand ≡ d → NoLatest x → Reached (hand_end m c w d from rid x)
      hand w (Doing t) has doing other = fed (awaits (task_awaited m c.stand t) from rid) w t has doing refl other
      hand w (Learning ws t) has doing other = tt

      latest : (b : Bool) (w : Work m) (q : Layout) → c.work ≡ Some w → x ≡ IsLatest q → (node_eq from (layout_id from.num) && nat_lt c.stand.epoch q.epoch) ≡ b → Reached (if b then again_end m (stands m c q) w (task_in m w.hand) else None)
      latest true w q has is e = reach_along c w (Newer (task_in m w.hand) from.num rid q) (newer w q has is e)
      latest false w q has is e = tt

      reply : (w : Work m) (y : Reply) → c.work ≡ Some w → x ≡ y → Reached (reply_end m c w from rid y)
      reply w (IsLatest q) has is = latest (node_eq from (layout_id from.num) && nat_lt c.stand.epoch q.epoch) w q has is refl
      reply w y has is = subst (λ (z : Reply). Reached (hand_end m c w w.hand from rid z)) is (hand w w.hand has refl (subst NoLatest (sym is) tt))

      by : (o : Option (Work m)) → c.work ≡ o → Reached (work_end m c o from rid x)
      by None has = tt
      by (Some w) has = reply w x has refl
