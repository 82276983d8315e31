-- What stays through the walks of a step, by the trims that they meet, holds at the end to which the step comes.
use Rattle.std.proofs.Common.{◌≡◌, ℕ, ◌<◌, List, [], ◌∷◌, Bool, true, false, refl, subst, arith, Some, None, Option}
use Rattle.std.specs.Prelude.{not, max, ◌&&◌, ◌==◌, nat_lt, slice_get, if◌then◌else◌}
use Rattle.std.proofs.lemmas.Bool.Decides.{nat_tests}
use Rattle.tg_base.specs.Layouts.{Layout}
use Rattle.tg_base.specs.Orders.{node_eq}
use Rattle.tg_base.specs.declared.cell.Cell.{Cell}
use Rattle.tg_base.specs.declared.ids.NodeId.{NodeId}
use Rattle.tg_base.specs.declared.ids.Oid.{Oid}
use Rattle.tg_base.specs.declared.marks.StreamLink.{StreamLink}
use Rattle.tg_base.specs.declared.packet.Packet.{Packet}
use Rattle.tg_kind.specs.Meaning.{Meaning}
use Rattle.tg_model.specs.Kinds.{EventOf}
use Rattle.tg_model.specs.declared.command.Event.TheVariants.{Command as Commands, Deliver, Lose, Tick, Stop}
use Rattle.tg_protocol.specs.Words.{layout_id, client_id}
use Rattle.tg_protocol.specs.Requests.{awaits, Next, Goes, Learns, Ends}
use Rattle.tg_protocol.specs.Replies.{Reply, reply, IsLatest}
use Rattle.tg_protocol.specs.Syncing.{Sync, Confirmed, sync_feed}
use Rattle.tg_protocol.specs.Walking.{Walk, Members, walk_feed, walk_again}
use Rattle.tg_protocol.specs.Clients.{Task, Syncing, Walking, Appending, Trimming, Copying', Reconfiguring, Hand, Doing, Learning, Work, Client}
use Rattle.tg_protocol.specs.ClientSteps.{after_turn, met, start_walk, lasts_of, takes_back, found_by, knows, lo_for, stale, gives_up, given_up_if, stands, task_in, task_awaited}
use Rattle.tg_protocol.specs.Walked.{Walked, walks_end, sync_end, trim_end, walked_end, walk_end, task_end, again_end, hand_end, reply_end, work_end, packet_end, walked_in}
use Rattle.tg_protocol.specs.Worlds.{World, client, runs}
use Rattle.tg_law_layouts.proofs.Moves.Members.{Has, has_got}
use Rattle.tg_law_replies.proofs.History.Members.{and_both}
use Rattle.tg_law_replies.proofs.Replies.Carried.{WalksBy}
use Rattle.tg_law_headline.proofs.Leaves.Walks.{MetBy, goes_by, starts_by}

same_node : (a b : NodeId) → node_eq a b ≡ true → a ≡ b
unfolding node_eq
same_node a b h = grind arith

module _ (m : Meaning) (G : Layout → ℕ → Type 0) (I : Client m → Work m → Type 0) where
  -- it stays through the walks of a step, where the trims that they meet have G
  pub record Stays : Type 0 where
    pub turned : (c : Client m) (w : Work m) (next gone : ℕ) → I c w → I (record c { next = next }) (record w { gone = gone })
    pub taken : (c : Client m) (w : Work m) (o : Oid) (x : Members) → ((b : ℕ) → x.gone ≡ Some b → G c.stand b) → I c w → I (takes_back m c x) (found_by m w o x)
    pub known : (c : Client m) (w : Work m) (s : Option (ℕ × Cell)) (tail : ℕ) (lasts : List StreamLink) (lo : ℕ) → I c w → I (knows m c s) (record w { tail = tail; lasts = lasts; lo = lo })
    pub given : (c : Client m) (w : Work m) (b : Bool) → I c w → I (given_up_if m b c) w
    pub over : (c : Client m) (w : Work m) → I c w → I c (record w { lo = 0; found = []; trims = [] })
    pub stood : (c : Client m) (w : Work m) (q : Layout) → c.stand.epoch < q.epoch → I c w → I (stands m c q) w

  abbrev pub AtEnd : Option (Walked m) → Type 0
  AtEnd None = Unit {0}
  AtEnd (Some y) = I y.client y.work

  -- the trim that the client's walk meets by an awaited answer
  abbrev pub TaskTells : Client m → Task m → ℕ → Reply → Type 0
  TaskTells c (Walking k os) n x = MetBy (G c.stand) (walk_feed c.stand k k.job n x c.next).to
  TaskTells c t n x = Unit {0}

  abbrev pub Tells : Client m → NodeId → ℕ → Reply → Type 0
  Tells c from rid x = (w : Work m) (t : Task m) → c.work ≡ Some w → w.hand ≡ Doing t → awaits (task_awaited m c.stand t) from rid ≡ true → TaskTells c t from.num x

module _ (m : Meaning) (G : Layout → ℕ → Type 0) (I : Client m → Work m → Type 0) (stays : Stays m G I) where
  abbrev End : Option (Walked m) → Type 0
  End o = AtEnd m G I o

  next_ends : (os : List Oid) (c : Client m) (w : Work m) (o : Oid) (to : Next Walk Members) → ((x : Members) → to ≡ Ends x → End (walks_end m os (takes_back m c x) (found_by m w o x)))
      → End (elim to as (λ _. Option (Walked m)) [
        | Goes x ↦ None
        | Learns x ↦ None
        | Ends x ↦ walks_end m os (takes_back m c x) (found_by m w o x)
      ])
  next_ends os c w o (Goes x) f = tt
  next_ends os c w o (Learns x) f = tt
  next_ends os c w o (Ends x) f = f x refl

  walks_ends : (os : List Oid) (c : Client m) (w : Work m) → I c w → End (walks_end m os c w)
  unfolding walks_end
  walks_ends [] c w k = k
  walks_ends (o ∷ os) c w k = next_ends os c w o (start_walk m c w o).to
      (λ x is. walks_ends os (takes_back m c x) (found_by m w o x) (stays.taken c w o x (subst (MetBy (G c.stand)) is (starts_by (G c.stand) c.stand o (lasts_of m w o) w.lo c.cells c.next)) k))

  sync_ends : (c : Client m) (w : Work m) (to : Next Sync Confirmed) → I c w → End (sync_end m c w to)
  sync_ends c w (Goes s) k = tt
  sync_ends c w (Learns s) k = tt
  sync_ends c w (Ends x) k = walks_ends w.oids (knows m c x.settled) (record w { tail = x.tail; lasts = x.lasts; lo = lo_for m c w.command }) (stays.known c w x.settled x.tail x.lasts (lo_for m c w.command) k)

  trim_ends : (c : Client m) (w : Work m) (os : List Oid) (s over : Bool) → I c w → End (trim_end m c w os s over)
  trim_ends c w os true over k = tt
  trim_ends c w os false true k = walks_ends w.oids c (record w { lo = 0; found = []; trims = [] }) (stays.over c w k)
  trim_ends c w os false false k = walks_ends os c w k

  ended_ends : (c : Client m) (w : Work m) (o : Oid) (os : List Oid) (x : Members) (g : Option ℕ) → I c w → End (walked_end m c w o os x g)
  ended_ends c w o os x None k = walks_ends os c w k
  ended_ends c w o os x (Some b) k = trim_ends (given_up_if m (gives_up m c w b) c) w os (stale m c w o x b) (gives_up m c w b && not (w.lo == 0)) (stays.given c w (gives_up m c w b) k)

  walk_ends : (c : Client m) (w : Work m) (o : Oid) (os : List Oid) (to : Next Walk Members) → MetBy (G c.stand) to → I c w → End (walk_end m c w o os to)
  walk_ends c w o os (Goes x) f k = tt
  walk_ends c w o os (Learns x) f k = tt
  walk_ends c w o os (Ends x) f k = ended_ends (takes_back m c x) (found_by m w o x) o os x x.gone (stays.taken c w o x f k)

  task_ends : (c : Client m) (w : Work m) (t : Task m) (n : ℕ) (x : Reply) → WalksBy m I c w t → TaskTells m G I c t n x → End (task_end m c w t n x)
  task_ends c w (Syncing s) n x k f = let t = sync_feed c.stand s s.work n x c.next in sync_ends (after_turn m c t) (met m w t) t.to (stays.turned c w t.next (max w.gone t.gone) k)
  task_ends c w (Walking v os) n x k f = let t = walk_feed c.stand v v.job n x c.next in walk_ends (after_turn m c t) (met m w t) v.oid os t.to f (stays.turned c w t.next (max w.gone t.gone) k)
  task_ends c w (Appending a y) n x k f = tt
  task_ends c w (Trimming t) n x k f = tt
  task_ends c w (Copying' y) n x k f = tt
  task_ends c w (Reconfiguring r) n x k f = tt

  again_ends : (c : Client m) (w : Work m) (t : Task m) (q : Layout) → c.stand.epoch < q.epoch → WalksBy m I c w t → End (again_end m (stands m c q) w t)
  again_ends c w (Walking v os) q less k =
      let t = walk_again q v c.next in
      walk_ends (after_turn m (stands m c q) t) (met m w t) v.oid os t.to (goes_by (G q) q c.next v) (stays.turned (stands m c q) w t.next (max w.gone t.gone) (stays.stood c w q less k))
  again_ends c w (Syncing s) q less k = tt
  again_ends c w (Appending a y) q less k = tt
  again_ends c w (Trimming t) q less k = tt
  again_ends c w (Copying' y) q less k = tt
  again_ends c w (Reconfiguring r) q less k = tt

  module _ (c : Client m) (from : NodeId) (rid : ℕ) where
    abbrev Hears : Reply → Type 0
    Hears x = Tells m G I c from rid x

    fed_ends : (b : Bool) (w : Work m) (t : Task m) (x : Reply) → Hears x → c.work ≡ Some w → w.hand ≡ Doing t → awaits (task_awaited m c.stand t) from rid ≡ b → WalksBy m I c w t → End (if b then task_end m c w t from.num x else None)
    fed_ends true w t x g has doing e k = task_ends c w t from.num x k (g w t has doing e)
    fed_ends false w t x g has doing e k = tt

    hand_ends : (w : Work m) (d : Hand m) (x : Reply) → Hears x → c.work ≡ Some w → w.hand ≡ d → WalksBy m I c w (task_in m d) → End (hand_end m c w d from rid x)
    hand_ends w (Doing t) x g has doing k = fed_ends (awaits (task_awaited m c.stand t) from rid) w t x g has doing refl k
    hand_ends w (Learning ws t) x g has doing k = tt

    is_newer : (q : Layout) (a : Bool) → (a && nat_lt c.stand.epoch q.epoch) ≡ true → c.stand.epoch < q.epoch
    is_newer q a e = grind (arith, nat_tests, e)

    latest_ends : (b : Bool) (w : Work m) (q : Layout) → (b ≡ true → c.stand.epoch < q.epoch) → WalksBy m I c w (task_in m w.hand) → End (if b then again_end m (stands m c q) w (task_in m w.hand) else None)
    latest_ends true w q g k = again_ends c w (task_in m w.hand) q (g refl) k
    latest_ends false w q g k = tt

    reply_ends : (w : Work m) (x : Reply) → Hears x → c.work ≡ Some w → WalksBy m I c w (task_in m w.hand) → End (reply_end m c w from rid x)
    reply_ends w (IsLatest q) g has k = latest_ends (node_eq from (layout_id from.num) && nat_lt c.stand.epoch q.epoch) w q (is_newer q (node_eq from (layout_id from.num))) k
    reply_ends w x g has k = hand_ends w w.hand x g has refl k

    pub work_ends : (o : Option (Work m)) (x : Reply) → Hears x → c.work ≡ o → ((w : Work m) → c.work ≡ Some w → WalksBy m I c w (task_in m w.hand)) → End (work_end m c o from rid x)
    work_ends None x g e k = tt
    work_ends (Some w) x g e k = reply_ends w x g e (k w e)

  -- In a step of a world.

  module _ (w : World m) (k : ℕ) (works : (v : Work m) → (client m w k).work ≡ Some v → WalksBy m I (client m w k) v (task_in m v.hand))
      (tells : (x : Packet) → Has w.packets x → x.to ≡ client_id k → Tells m G I (client m w k) x.from x.rid (reply x.msg)) where
    handed : (i : ℕ) (o : Option Packet) → slice_get w.packets i ≡ o → End (packet_end m w k o)
    handed i None is = tt
    handed i (Some p) is = by (node_eq p.to (client_id k) && runs m w p.to) refl
      where
        by : (b : Bool) → (node_eq p.to (client_id k) && runs m w p.to) ≡ b → End (if b then work_end m (client m w k) (client m w k).work p.from p.rid (reply p.msg) else None)
        by false t = tt
        by true t =
            work_ends (client m w k) p.from p.rid (client m w k).work (reply p.msg)
            (tells p (has_got w.packets i p is) (same_node p.to (client_id k) (and_both (node_eq p.to (client_id k)) (runs m w p.to) t).0)) refl works

    ends : (e : EventOf m) → End (walked_in m w e k)
    ends (Deliver i) = handed i (slice_get w.packets i) refl
    ends (Commands n x) = tt
    ends (Lose i) = tt
    ends (Tick n) = tt
    ends (Stop n) = tt

    pub stays_there : (e : EventOf m) (y : Walked m) → walked_in m w e k ≡ Some y → I y.client y.work
    stays_there e y is = subst (AtEnd m G I) is (ends e)
