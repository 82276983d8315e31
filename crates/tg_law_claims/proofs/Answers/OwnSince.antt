-- Along a run: the sync of an `end` began when its record was settled, so where its walks end, the tail lies past the record.
use Rattle.std.proofs.Common.{◌≡◌, ◌⊎◌, ℕ, ◌+◌, ◌≤◌, List, [], ◌∷◌, ◌++◌, Bool, true, false, refl, sym, ap, ◌∙◌, subst, inl, inr, arith, Option, Some, None, append-nil}
use Rattle.std.specs.Prelude.{Contains, ◌&&◌, ◌==◌, slice_get, if◌then◌else◌}
use Rattle.tg_base.specs.Clusters.{Header}
use Rattle.tg_base.specs.Layouts.{Layout}
use Rattle.tg_base.specs.Orders.{node_eq, role_number}
use Rattle.tg_base.specs.declared.cell.Cell.{Cell}
use Rattle.tg_base.specs.declared.ids.NodeId.{NodeId}
use Rattle.tg_base.specs.declared.packet.Out.{Out}
use Rattle.tg_base.specs.declared.packet.Packet.{Packet}
use Rattle.tg_kind.specs.Meaning.{Meaning}
use Rattle.tg_model.specs.Kinds.{EventOf}
use Rattle.tg_model.specs.declared.command.Command.TheVariants as cmd
use Rattle.tg_model.specs.declared.command.Event.TheVariants.{Command as Commands, Deliver, Lose, Tick, Stop}
use Rattle.tg_protocol.specs.Words.{client_id}
use Rattle.tg_protocol.specs.Replies.{reply}
use Rattle.tg_protocol.specs.Appending.{AppendEnd, At, Full, Forgotten}
use Rattle.tg_protocol.specs.Syncing.{SyncWork, Checking, Settling, Probing, Sync, sync_work_asks}
use Rattle.tg_protocol.specs.Clients.{Task, Syncing, Walking, Appending, Trimming, Copying', Reconfiguring, Hand, Doing, Learning, Work, Client, new_client}
use Rattle.tg_protocol.specs.ClientSteps.{ClientTurn, task_asks, task_in, knows, given_up_if}
use Rattle.tg_protocol.specs.Holding.{append_by}
use Rattle.tg_protocol.specs.Walked.{Walked, work_end, packet_end, walked_in}
use Rattle.tg_protocol.specs.Worlds.{client, happens, runs}
use Rattle.tg_protocol.specs.Runs.{Moves, Takes, Reaches}
use Rattle.tg_law_layouts.specs.Moves.After.{after}
use Rattle.tg_law_layouts.specs.Moves.Configs.{config}
use Rattle.tg_law_layouts.proofs.Moves.Clients.{reserved, work_reserved, hand_reserved}
use Rattle.tg_law_layouts.proofs.Moves.Members.{Has, has_got}
use Rattle.tg_law_layouts.proofs.Moves.Moves.{ClientInput, Commanded, Hears', Ticks'}
use Rattle.tg_law_cells.specs.Places.Order.{IsPlace, PastPage}
use Rattle.tg_law_cells.proofs.Places.Order.{points_precede_places}
use Rattle.tg_law_replies.specs.Replies.Ended.{work_ends, handed_ends, packet_ends, ended_in}
use Rattle.tg_law_replies.proofs.History.Members.{and_both, both_and, number_same}
use Rattle.tg_law_replies.proofs.Replies.Carried.{WalksBy, Carries, carried}
use Rattle.tg_law_walks.proofs.Once.Reached.{reach_at}
use Rattle.tg_law_headline.proofs.Spans.Turns as turns
use Rattle.tg_law_headline.proofs.Spans.Snapshots as spans
use Rattle.tg_law_headline.proofs.Decided.Ending.{AtTail, deliver_tail}
use Rattle.tg_law_headline.proofs.Alike.Speaks.{Delivered, From}
use Rattle.tg_law_headline.proofs.Alike.Running.{end_state}
use Rattle.tg_law_claims.proofs.Answers.EndsSettled.{HasPage, ends_settled}
use Rattle.tg_law_claims.proofs.Answers.Following.{Keep, LearnOk, WorkKept, Fresh, TaskOk, HandOk, WorkOk, EndOk', Lands, command_ok, deliver_ok, tick_ok}

same_node : (a b : NodeId) → node_eq a b ≡ true → a ≡ b
unfolding node_eq
same_node a b h = grind arith

-- a sync that begins asks once
asks_once : (p : Layout) (s : Sync) (w : SyncWork) (r : ℕ) → w ≡ Checking r → (o : Out) → Has (sync_work_asks p s w) o → o.rid ≡ r
unfolding sync_work_asks
asks_once p s (Checking q) r e o (inl i) = ap (λ (y : Out). y.rid) i ∙ same e
  where
    same : Checking q ≡ Checking r → q ≡ r
    same f = cc
asks_once p s (Checking q) r e o (inr i) = absurd i
asks_once p s (Settling b i) r e o h = absurd cc
asks_once p s (Probing b i) r e o h = absurd cc

asked : (m : Meaning) (p : Layout) (s : Sync) (o : Out) → Has (hand_reserved m p (Doing (Syncing s))) o → Has (sync_work_asks p s s.work) o
unfolding task_asks
asked m p s o g = g

module _ (m : Meaning) (h : Header) (zs : Moves m) (reach : Reaches m h zs (after m h zs)) where
  -- all that the client asks and hears is new since a world in which a page was settled there
  pub record Since (k p : ℕ) (c : Client m) : Type 0 where
    pub us : Moves m
    pub vs : Moves m
    pub begins : zs ≡ us ++ vs
    pub page : HasPage m (after m h us) p
    pub next : spans.first m h zs reach us vs begins k ≤ c.next
    pub asks : spans.AllNew m h zs reach us vs begins k c
    pub told : spans.IsTrue m h zs reach us vs begins c

  abbrev Waits : ℕ → Client m → Type 0
  Waits k c = WorkKept m (λ p. Since k p c) c.own c.work

  module _ (xs : Moves m) (e : EventOf m) (ys : Moves m) (split : zs ≡ xs ++ Takes e ∷ ys) where
    abbrev old : ℕ → Client m
    old k = client m (after m h xs) k

    abbrev new : ℕ → Client m
    new k = client m (happens m (after m h xs) e) k

    here : Reaches m h xs (after m h xs)
    here = reach_at m h zs reach xs (Takes e ∷ ys) split

    -- it stays so
    on : (k p : ℕ) → Since k p (old k) → Since k p (new k)
    on k p s = record {
      us = s.us;
      vs = s.vs;
      begins = s.begins;
      page = s.page;
      next = (let a = s.next in let b = made.next in omega (arith, a, b));
      asks = λ o i. by o (made.asks o i);
      told = made.told s.asks s.told;
    }
      where
        made : spans.Steps m h zs reach s.us s.vs s.begins k (old k) (new k)
        made = spans.steps m h zs reach s.us s.vs s.begins xs (Takes e ∷ ys) split e k

        by : (o : Out) → Has (reserved m (old k)) o ⊎ ((old k).next ≤ o.rid) → spans.first m h zs reach s.us s.vs s.begins k ≤ o.rid
        by o (inl i) = s.asks o i
        by o (inr le) = let a = s.next in omega (arith, a, le)

    abbrev Told : ℕ → List ℕ → Option (Work m) → Type 0
    Told k own o = WorkOk m (old k).next (λ p. Since k p (old k)) (λ p. HasPage m (after m h xs) p) own o

    -- where the append ends in this step
    begun : (k : ℕ) (w : Work m) (s : Sync) → (new k).work ≡ Some w → w.hand ≡ Doing (Syncing s) → Fresh m (old k).next (λ p. Since k p (old k)) (λ p. HasPage m (after m h xs) p) (new k).own w s → Since k w.at (new k)
    begun k w s works hand f = record {
      us = xs;
      vs = Takes e ∷ ys;
      begins = split;
      page = f.ended;
      next = made.next;
      asks = λ o i. by o (asked m (new k).stand s o (subst (λ (d : Hand m). Has (hand_reserved m (new k).stand d) o) hand (subst (λ (z : Option (Work m)). Has (work_reserved m (new k).stand z) o) works i)));
      told = subst (λ (z : Option (Work m)). turns.WorkTold m (spans.SyncOk m h zs reach xs (Takes e ∷ ys) split) (spans.IsNew m h zs reach xs (Takes e ∷ ys) split) (spans.starts_ok m h zs reach xs (Takes e ∷ ys) split) (new k).stand z) (sym works)
          (subst (λ (d : Hand m). turns.HandTold m (spans.SyncOk m h zs reach xs (Takes e ∷ ys) split) (spans.IsNew m h zs reach xs (Takes e ∷ ys) split) (spans.starts_ok m h zs reach xs (Takes e ∷ ys) split) (new k).stand w.tail d) (sym hand)
          (subst (λ (z : SyncWork). spans.SyncOk m h zs reach xs (Takes e ∷ ys) split (new k).stand z) (sym f.checks) tt));
    }
      where
        made : spans.Steps m h zs reach xs (Takes e ∷ ys) split k (old k) (new k)
        made = spans.steps m h zs reach xs (Takes e ∷ ys) split xs (Takes e ∷ ys) split e k

        by : (o : Out) → Has (sync_work_asks (new k).stand s s.work) o → (old k).next ≤ o.rid
        by o i = let a = asks_once (new k).stand s s.work f.rid f.checks o i in let b = f.new in omega (arith, a, b)

    kept_task : (k : ℕ) (w : Work m) (t : Task m) → (new k).work ≡ Some w → w.hand ≡ Doing t → TaskOk m (old k).next (λ p. Since k p (old k)) (λ p. HasPage m (after m h xs) p) (new k).own w t → LearnOk m (λ p. Since k p (new k)) (new k).own w t
    kept_task k w (Syncing s) works hand (inl f) = λ ending. let g = f ending in (g.0, on k w.at g.1)
    kept_task k w (Syncing s) works hand (inr f) = λ ending. (f.mine, begun k w s works hand f)
    kept_task k w (Walking j os) works hand f = λ ending. let g = f ending in (g.0, on k w.at g.1)
    kept_task k w (Appending a y) works hand f = tt
    kept_task k w (Trimming t) works hand f = tt
    kept_task k w (Copying' y) works hand f = tt
    kept_task k w (Reconfiguring r) works hand f = tt

    kept_learn : (k : ℕ) (w : Work m) (t : Task m) → LearnOk m (λ p. Since k p (old k)) (new k).own w t → LearnOk m (λ p. Since k p (new k)) (new k).own w t
    kept_learn k w (Syncing s) f = λ ending. let g = f ending in (g.0, on k w.at g.1)
    kept_learn k w (Walking j os) f = λ ending. let g = f ending in (g.0, on k w.at g.1)
    kept_learn k w (Appending a y) f = tt
    kept_learn k w (Trimming t) f = tt
    kept_learn k w (Copying' y) f = tt
    kept_learn k w (Reconfiguring r) f = tt

    kept_hand : (k : ℕ) (w : Work m) (d : Hand m) → (new k).work ≡ Some w → w.hand ≡ d → HandOk m (old k).next (λ p. Since k p (old k)) (λ p. HasPage m (after m h xs) p) (new k).own w d → LearnOk m (λ p. Since k p (new k)) (new k).own w (task_in m d)
    kept_hand k w (Doing t) works hand f = kept_task k w t works hand f
    kept_hand k w (Learning ws t) works hand f = kept_learn k w t f

    kept_work : (k : ℕ) (o : Option (Work m)) → (new k).work ≡ o → Told k (new k).own o → WorkKept m (λ p. Since k p (new k)) (new k).own o
    kept_work k None works f = tt
    kept_work k (Some w) works f = kept_hand k w w.hand works refl f

    -- A turn.

    node_itself : (a : NodeId) → node_eq a a ≡ true
    unfolding node_eq
    node_itself a = both_and (role_number a.role == role_number a.role) (a.num == a.num) (number_same (role_number a.role) (role_number a.role) refl) (number_same a.num a.num refl)

    ended_here : (n : ℕ) (p : Packet) → p.to ≡ client_id n → Delivered m (after m h xs) e n p → ended_in m (after m h xs) e n ≡ work_ends m (old n) (old n).work p.from p.rid (reply p.msg)
    ended_here n p to d =
        ap (λ (y : EventOf m). ended_in m (after m h xs) y n) d.event
        ∙ (ap (λ (o : Option Packet). packet_ends m (after m h xs) n o) d.got
        ∙ ap (λ (b : Bool). handed_ends m b (old n) p)
        (both_and (node_eq p.to (client_id n)) (runs m (after m h xs) p.to) (subst (λ (a : NodeId). node_eq a (client_id n) ≡ true) (sym to) (node_itself (client_id n))) d.on))

    lands : (n : ℕ) (p : Packet) → p.to ≡ client_id n → Delivered m (after m h xs) e n p
        → Lands m (old n).next (λ q. Since n q (old n)) (λ q. HasPage m (after m h xs) q) (append_by m (old n).work) (work_ends m (old n) (old n).work p.from p.rid (reply p.msg))
    lands n p to d a x is at = by x at
      where
        by : (y : AppendEnd) → work_ends m (old n) (old n).work p.from p.rid (reply p.msg) ≡ Some y → EndOk' m (old n).next (λ q. Since n q (old n)) (λ q. HasPage m (after m h xs) q) y
        by (At q page) f = ends_settled m h xs here n e a q page is (ended_here n p to d ∙ f)
        by (Full g) f = tt
        by (Forgotten q g) f = tt

    turned : (n : ℕ) → Waits n (old n) → (t : ClientTurn m) → (i : ClientInput m (config m (after m h xs)) n t) → From m (after m h xs) e n t i → Told n t.now.own t.now.work
    turned n waits t (Commanded x) b = command_ok m (old n).next (λ p. Since n p (old n)) (λ p. HasPage m (after m h xs) p) (old n) x waits
    turned n waits t (Hears' p i) b = deliver_ok m (old n).next (λ q. Since n q (old n)) (λ q. HasPage m (after m h xs) q) (old n) p.from p.rid p.msg (omega arith) waits (lands n p i.to_node b)
    turned n waits t Ticks' b = tick_ok m (old n).next (λ p. Since n p (old n)) (λ p. HasPage m (after m h xs) p) (old n) waits

    kept_turn : (n : ℕ) → Waits n (old n) → (t : ClientTurn m) → (i : ClientInput m (config m (after m h xs)) n t) → From m (after m h xs) e n t i → new n ≡ t.now → Waits n t.now
    kept_turn n waits t i b now = subst (Waits n) now (kept_work n (new n).work refl (subst (λ (d : Client m). Told n d.own d.work) (sym now) (turned n waits t i b)))

  -- Along the run.

  new_waits : (k j : ℕ) → Waits k (new_client m h j)
  unfolding new_client
  new_waits k j = tt

  waits_at_end : (k : ℕ) → Waits k (client m (after m h zs) k)
  waits_at_end = (end_state m h zs (λ s k c. Waits k c) (λ ts. Unit {0}) tt (λ ts us a b. tt) new_waits (λ s k c idle waits. waits) (λ xs e ys split n s waits t i b told now. (kept_turn xs e ys split n waits t i b now, tt))).clients

  -- Where a further step comes to the end of walks.

  module _ (k : ℕ) where
    abbrev Kept : Client m → Work m → Type 0
    Kept d v = Keep m (λ p. Since k p (client m (after m h zs) k)) d.own v

    carries : Carries m Kept
    carries = record {
      turned = λ d v n g i. i;
      taken = λ d v o x i. i;
      known = λ d v s t ls lo i. known d v s i;
      given = λ d v b i. given d v b i;
      over = λ d v i. i;
      again = λ d v i. i;
      stood = λ d v q i. i;
    }
      where
        known : (d : Client m) (v : Work m) (s : Option (ℕ × Cell)) → Kept d v → Keep m (λ p. Since k p (client m (after m h zs) k)) (knows m d s).own v
        known d v None i = i
        known d v (Some s) i = i

        given : (d : Client m) (v : Work m) (b : Bool) → Kept d v → Keep m (λ p. Since k p (client m (after m h zs) k)) (given_up_if m b d).own v
        given d v true i = i
        given d v false i = i

    walks : (v : Work m) (t : Task m) → LearnOk m (λ p. Since k p (client m (after m h zs) k)) (client m (after m h zs) k).own v t → WalksBy m Kept (client m (after m h zs) k) v t
    walks v (Syncing s) f = f
    walks v (Walking j os) f = f
    walks v (Appending a y) f = tt
    walks v (Trimming t) f = tt
    walks v (Copying' y) f = tt
    walks v (Reconfiguring r) f = tt

    kept_there : (e : EventOf m) (y : Walked m) → walked_in m (after m h zs) e k ≡ Some y → Kept y.client y.work
    kept_there e y is = carried m Kept carries (after m h zs) e k y (λ v works. walks v (task_in m v.hand) (subst (λ (o : Option (Work m)). WorkKept m (λ p. Since k p (client m (after m h zs) k)) (client m (after m h zs) k).own o) works (waits_at_end k))) is

    module _ (p : ℕ) (s : Since k p (client m (after m h zs) k)) where
      abbrev Tailed : Option (Walked m) → Type 0
      Tailed o = AtTail m (spans.SyncOk m h zs reach s.us s.vs s.begins) (spans.IsNew m h zs reach s.us s.vs s.begins) (spans.starts_ok m h zs reach s.us s.vs s.begins) o

      handed : (i : ℕ) (o : Option Packet) → slice_get (after m h zs).packets i ≡ o → Tailed (packet_end m (after m h zs) k o)
      handed i None is = tt
      handed i (Some x) is = by (node_eq x.to (client_id k) && runs m (after m h zs) x.to) refl
        where
          by : (b : Bool) → (node_eq x.to (client_id k) && runs m (after m h zs) x.to) ≡ b → Tailed (if b then work_end m (client m (after m h zs) k) (client m (after m h zs) k).work x.from x.rid (reply x.msg) else None)
          by false t = tt
          by true t =
              deliver_tail m (spans.SyncOk m h zs reach s.us s.vs s.begins) (spans.IsNew m h zs reach s.us s.vs s.begins) (spans.starts_ok m h zs reach s.us s.vs s.begins) (client m (after m h zs) k) x.from x.rid x.msg s.told
              (spans.hears_all m h zs reach s.us s.vs s.begins zs [] (sym (append-nil zs)) k x
              (record { sent = has_got (after m h zs).packets i x is; to_node = same_node x.to (client_id k) (and_both (node_eq x.to (client_id k)) (runs m (after m h zs) x.to) t).0 }) s.asks s.told)

      new_tail : (e : EventOf m) (y : Walked m) → walked_in m (after m h zs) e k ≡ Some y → IsPlace m (after m h s.us) (after m h zs) y.work.tail
      new_tail e y is = subst Tailed is (by e)
        where
          by : (x : EventOf m) → Tailed (walked_in m (after m h zs) x k)
          by (Deliver i) = handed i (slice_get (after m h zs).packets i) refl
          by (Commands n x) = tt
          by (Lose i) = tt
          by (Tick n) = tt
          by (Stop n) = tt

      past : (e : EventOf m) (y : Walked m) → walked_in m (after m h zs) e k ≡ Some y → p + 1 ≤ y.work.tail
      past e y is = points_precede_places m h zs (after m h s.us) (after m h zs) reach (record { before = s.us; after = s.vs; split = s.begins; is = refl }) (p + 1) y.work.tail (PastPage p s.page.0 s.page.1) (new_tail e y is)

    -- an `end` has its record as its own, and the tail lies past it
    pub own_past : (e : EventOf m) (y : Walked m) → walked_in m (after m h zs) e k ≡ Some y → y.work.command ≡ cmd.End → Contains y.client.own y.work.at × (y.work.at + 1 ≤ y.work.tail)
    own_past e y is ending = let g = kept_there e y is ending in (g.0, past y.work.at g.1 e y is)
