-- Where walks end, their tail is one with which the client's sync has ended.
use Rattle.std.proofs.Common.{◌≡◌, ℕ, List, [], ◌∷◌, Bool, true, false, refl, subst, Some, None, Option}
use Rattle.std.specs.Prelude.{not, ◌&&◌, ◌==◌, nat_lt, if◌then◌else◌}
use Rattle.tg_base.specs.Layouts.{Layout}
use Rattle.tg_base.specs.Orders.{node_eq}
use Rattle.tg_base.specs.declared.ids.NodeId.{NodeId}
use Rattle.tg_base.specs.declared.ids.Oid.{Oid}
use Rattle.tg_base.specs.declared.msg.Msg.{Msg}
use Rattle.tg_kind.specs.Meaning.{Meaning}
use Rattle.tg_protocol.specs.Words.{layout_id}
use Rattle.tg_protocol.specs.Requests.{awaits, Next, Goes, Learns, Ends}
use Rattle.tg_protocol.specs.Replies.{Reply, reply, IsLatest}
use Rattle.tg_protocol.specs.Syncing.{Sync, SyncWork, Checking, Confirmed, sync_feed}
use Rattle.tg_protocol.specs.Walking.{Walk, Members, walk_feed, walk_again}
use Rattle.tg_protocol.specs.Clients.{Task, Syncing, Walking, Appending, Trimming, Copying', Reconfiguring, Hand, Doing, Learning, Work, Client}
use Rattle.tg_protocol.specs.ClientSteps.{after_turn, met, start_walk, takes_back, found_by, knows, lo_for, stale, gives_up, given_up_if, stands, task_in, task_awaited}
use Rattle.tg_protocol.specs.Walked.{Walked, walks_end, sync_end, trim_end, walked_end, walk_end, task_end, again_end, hand_end, reply_end, work_end}
use Rattle.tg_law_headline.proofs.Spans.Turns as turns

-- What a sync's work is to have, at its beginning too, and the tails with which it may end.
module _ (m : Meaning) (SyncOk : Layout → SyncWork → Type 0) (Past : ℕ → Type 0) (begun : (p : Layout) (r : ℕ) → SyncOk p (Checking r)) where
  abbrev pub AtTail : Option (Walked m) → Type 0
  AtTail None = Unit {0}
  AtTail (Some y) = Past y.work.tail

  next_tail : (os : List Oid) (c : Client m) (w : Work m) (o : Oid) (to : Next Walk Members) → ((x : Members) → AtTail (walks_end m os (takes_back m c x) (found_by m w o x)))
      → AtTail (elim to as (λ _. Option (Walked m)) [
        | Goes x ↦ None
        | Learns x ↦ None
        | Ends x ↦ walks_end m os (takes_back m c x) (found_by m w o x)
      ])
  next_tail os c w o (Goes x) f = tt
  next_tail os c w o (Learns x) f = tt
  next_tail os c w o (Ends x) f = f x

  walks_tail : (os : List Oid) (c : Client m) (w : Work m) → Past w.tail → AtTail (walks_end m os c w)
  unfolding walks_end
  walks_tail [] c w k = k
  walks_tail (o ∷ os) c w k = next_tail os c w o (start_walk m c w o).to (λ x. walks_tail os (takes_back m c x) (found_by m w o x) k)

  sync_tail : (c : Client m) (w : Work m) (to : Next Sync Confirmed) → turns.NextOk m SyncOk Past begun c.stand to → AtTail (sync_end m c w to)
  sync_tail c w (Goes s) n = tt
  sync_tail c w (Learns s) n = tt
  sync_tail c w (Ends x) n = walks_tail w.oids (knows m c x.settled) (record w { tail = x.tail; lasts = x.lasts; lo = lo_for m c w.command }) n

  trim_tail : (c : Client m) (w : Work m) (os : List Oid) (s over : Bool) → Past w.tail → AtTail (trim_end m c w os s over)
  trim_tail c w os true over k = tt
  trim_tail c w os false true k = walks_tail w.oids c (record w { lo = 0; found = []; trims = [] }) k
  trim_tail c w os false false k = walks_tail os c w k

  ended_tail : (c : Client m) (w : Work m) (o : Oid) (os : List Oid) (x : Members) (g : Option ℕ) → Past w.tail → AtTail (walked_end m c w o os x g)
  ended_tail c w o os x None k = walks_tail os c w k
  ended_tail c w o os x (Some b) k = trim_tail (given_up_if m (gives_up m c w b) c) w os (stale m c w o x b) (gives_up m c w b && not (w.lo == 0)) k

  walk_tail : (c : Client m) (w : Work m) (o : Oid) (os : List Oid) (to : Next Walk Members) → Past w.tail → AtTail (walk_end m c w o os to)
  walk_tail c w o os (Goes x) k = tt
  walk_tail c w o os (Learns x) k = tt
  walk_tail c w o os (Ends x) k = ended_tail (takes_back m c x) (found_by m w o x) o os x x.gone k

  task_tail : (c : Client m) (w : Work m) (t : Task m) (n : ℕ) (x : Reply) → turns.TaskTold m SyncOk Past begun c.stand w.tail t → turns.TaskHears m SyncOk Past begun c t n x → AtTail (task_end m c w t n x)
  task_tail c w (Syncing s) n x k h = let t = sync_feed c.stand s s.work n x c.next in sync_tail (after_turn m c t) (met m w t) t.to h
  task_tail c w (Walking v os) n x k h = let t = walk_feed c.stand v v.job n x c.next in walk_tail (after_turn m c t) (met m w t) v.oid os t.to k
  task_tail c w (Appending a y) n x k h = tt
  task_tail c w (Trimming t) n x k h = tt
  task_tail c w (Copying' y) n x k h = tt
  task_tail c w (Reconfiguring r) n x k h = tt

  again_tail : (c : Client m) (w : Work m) (t : Task m) → turns.LearnTold m SyncOk Past begun w.tail t → AtTail (again_end m c w t)
  again_tail c w (Walking v os) k = let t = walk_again c.stand v c.next in walk_tail (after_turn m c t) (met m w t) v.oid os t.to k
  again_tail c w (Syncing s) k = tt
  again_tail c w (Appending a y) k = tt
  again_tail c w (Trimming t) k = tt
  again_tail c w (Copying' y) k = tt
  again_tail c w (Reconfiguring r) k = tt

  module _ (c : Client m) (from : NodeId) (rid : ℕ) where
    abbrev Hears : Reply → Type 0
    Hears x = turns.ClientHears m SyncOk Past begun c from rid x

    fed_tail : (b : Bool) (w : Work m) (t : Task m) (x : Reply) → Hears x → c.work ≡ Some w → w.hand ≡ Doing t → awaits (task_awaited m c.stand t) from rid ≡ b → turns.TaskTold m SyncOk Past begun c.stand w.tail t
        → AtTail (if b then task_end m c w t from.num x else None)
    fed_tail true w t x g has doing e h = task_tail c w t from.num x h (g w t has doing e)
    fed_tail false w t x g has doing e h = tt

    hand_tail : (w : Work m) (d : Hand m) (x : Reply) → Hears x → c.work ≡ Some w → w.hand ≡ d → turns.HandTold m SyncOk Past begun c.stand w.tail d → AtTail (hand_end m c w d from rid x)
    hand_tail w (Doing t) x g has doing h = fed_tail (awaits (task_awaited m c.stand t) from rid) w t x g has doing refl h
    hand_tail w (Learning ws t) x g has doing h = tt

    latest_tail : (b : Bool) (w : Work m) (q : Layout) → turns.HandTold m SyncOk Past begun c.stand w.tail w.hand → AtTail (if b then again_end m (stands m c q) w (task_in m w.hand) else None)
    latest_tail true w q h = again_tail (stands m c q) w (task_in m w.hand) (turns.learn_of m SyncOk Past begun c.stand w.tail w.hand h)
    latest_tail false w q h = tt

    reply_tail : (w : Work m) (x : Reply) → Hears x → c.work ≡ Some w → turns.HandTold m SyncOk Past begun c.stand w.tail w.hand → AtTail (reply_end m c w from rid x)
    reply_tail w (IsLatest q) g has h = latest_tail (node_eq from (layout_id from.num) && nat_lt c.stand.epoch q.epoch) w q h
    reply_tail w x g has h = hand_tail w w.hand x g has refl h

    work_tail : (o : Option (Work m)) (x : Reply) → Hears x → c.work ≡ o → turns.ClientTold m SyncOk Past begun c → AtTail (work_end m c o from rid x)
    work_tail None x g e k = tt
    work_tail (Some w) x g e k = reply_tail w x g e (subst (λ (o : Option (Work m)). turns.WorkTold m SyncOk Past begun c.stand o) e k)

  pub deliver_tail : (c : Client m) (from : NodeId) (rid : ℕ) (y : Msg) → turns.ClientTold m SyncOk Past begun c → turns.ClientHears m SyncOk Past begun c from rid (reply y) → AtTail (work_end m c c.work from rid (reply y))
  deliver_tail c from rid y k g = work_tail c from rid c.work (reply y) g refl k
