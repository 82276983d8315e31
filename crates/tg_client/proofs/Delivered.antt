-- A message comes to a client that is busy.
use Rattle.std.proofs.Common.{◌≡◌, ℕ, Bool, true, false, ◌&&◌, [], Option, Some, None, refl, sym, ap, subst, ◌∙◌, arith}
use Rattle.std.specs.Global.{Box}
use Rattle.std.specs.Prelude.{nat_lt}
use Rattle.tg_base.proofs.Exact.{and-right}
use Rattle.tg_base.specs.Layouts.{Layout}
use Rattle.tg_base.specs.declared.ids.NodeId.{NodeId}
use Rattle.tg_kind.specs.Meaning.{Meaning}
use Rattle.tg_base.specs.Orders.{node_eq}
use Rattle.tg_protocol.specs.Words.{layout_id}
use Rattle.tg_protocol.specs.Requests.{Waits, awaits}
use Rattle.tg_protocol.specs.Replies.{Reply, IsLatest}
use Rattle.tg_protocol.specs.Answers.{Moved, moved}
use Rattle.tg_protocol.specs.Clients as told
use Rattle.tg_protocol.specs.ClientSteps.{asks_latest, task_awaited, task_in, on_newer, fed_if, hand_feed, latest_if, reply_feed, feed}
use Rattle.tg_client_cells.specs.Known.{Knowledge}
use Rattle.tg_client_state.specs.Tasks.{TaskOf, HandOf, WorkOf, PausedOf, told_task, GoesOn, KeepsHand, KeepsMaybe}
use Rattle.tg_client_state.specs.declared.hand.Hand.TheVariants as hand
use Rattle.tg_client_state.specs.States.{StateOf, Rest, client_of, rest_of, all_below, are_drawn, AreDrawn, KeepsViewIf, IsTaskFit, IsLeftFit, IsClientFit, IsFitIf, KeepsClient}
use Rattle.tg_client_state.specs.Moves.{IsKept, Holds}
use Rattle.tg_client.specs.Feeding.{latest_in, InHand, IsTaskKept, IsLeftKept}

-- What is told.

pub told_latest : (x : Reply) (q : Layout) → Some q ≡ latest_in x → IsLatest q ≡ x
told_latest (IsLatest p) q e = let same : q ≡ p = cc in ap (λ (l : Layout). IsLatest l) same
told_latest _ q e = absurd cc

module _ (m : Meaning) where
  other-reply : (x : Reply) (c : told.Client m) (w : told.Work m) (from : NodeId) (rid : ℕ) → latest_in x ≡ None → hand_feed m c w w.hand from rid x ≡ reply_feed m c w from rid x
  other-reply (IsLatest p) c w from rid e = absurd cc
  other-reply _ c w from rid e = refl

  -- A client of the rules that is kept with a command in hand.

  pub record Busy (s : StateOf m) (k : WorkOf m) (r : Rest m) (w : told.Work m) : Type 0 where
    pub work : r.work ≡ Some w
    pub holds : Holds m s k.job r w s.rids.next
    pub hand : KeepsHand m k.hand w.hand
    pub drawn : are_drawn m s.rids.next s.stand w.hand ≡ true
    pub fit : IsClientFit m s.known s.stand w.hand

  busy-with : (P : Type 0) (o : Option (told.Work m)) (s : StateOf m) (k : WorkOf m) (r : Rest m) → r.work ≡ o → KeepsViewIf m s.view r.view → KeepsMaybe m (Some k) o → AreDrawn m s.rids.next s.stand o → IsFitIf m s.known s.stand o →
      ((w : told.Work m) → Busy s k r w → P) → P
  busy-with P None s k r e hv hw hd hf f = absurd hw
  busy-with P (Some w) s k r e hv hw hd hf f = f w (record { work = e; holds = record { since = omega arith; view = hv; job = hw.is }; hand = hw.hand; drawn = hd; fit = hf })

  pub by_client : (Q : told.Client m → Type 0) (s : StateOf m) (k : WorkOf m) (c : told.Client m) → KeepsClient m s (Some k) c → ((r : Rest m) (w : told.Work m) → Busy s k r w → Q (client_of m s r)) → Q c
  by_client Q s k c h f =
      let drawn : AreDrawn m s.rids.next s.stand c.work = subst (λ (d : told.Client m). AreDrawn m d.next d.stand c.work) h.is h.drawn in
      let fit : IsFitIf m s.known s.stand c.work = subst (λ (d : told.Client m). IsFitIf m s.known d.stand c.work) h.is h.fit in
      subst Q (sym h.is) (busy-with (Q (client_of m s (rest_of m c))) c.work s k (rest_of m c) refl h.view h.work drawn fit (λ w b. f (rest_of m c) w b))

  -- A machine in hand.

  -- which was taken out of its box
  doing-told : (b : Box (TaskOf m)) (t : TaskOf m) (h : told.Hand m) → t ≡ b.value → KeepsHand m (hand.Doing b) h → h ≡ told.Doing (told_task m t)
  doing-told b t (told.Doing u) o e = ap (λ x. told.Doing x) (sym (ap (λ (y : TaskOf m). told_task m y) o ∙ e))
  doing-told b t (told.Learning ws u) o e = absurd e

  in-hand : (s : StateOf m) (k : WorkOf m) (r : Rest m) (w : told.Work m) (i : Box (TaskOf m)) (t : TaskOf m) → t ≡ i.value → k.hand ≡ hand.Doing i → Busy s k r w → w.hand ≡ told.Doing (told_task m t)
  in-hand s k r w i t o e b = doing-told i t w.hand o (subst (λ (x : HandOf m). KeepsHand m x w.hand) e b.hand)

  doing-kept : (s : StateOf m) (k : WorkOf m) (r : Rest m) (w : told.Work m) (i : Box (TaskOf m)) (t : TaskOf m) → t ≡ i.value → k.hand ≡ hand.Doing i → Busy s k r w → IsTaskKept m s (told_task m t)
  doing-kept s k r w i t o e b = record {
    drawn = subst (λ (h : told.Hand m). are_drawn m s.rids.next s.stand h ≡ true) (in-hand s k r w i t o e b) b.drawn;
    fit = subst (λ (h : told.Hand m). IsClientFit m s.known s.stand h) (in-hand s k r w i t o e b) b.fit;
  }

  pub task_kept : (s : StateOf m) (k : WorkOf m) (i : Box (TaskOf m)) (t : TaskOf m) → t ≡ i.value → k.hand ≡ hand.Doing i → IsKept m s (Some k) → IsTaskKept m s (told_task m t)
  task_kept s k i t o e h = by_client (λ c. IsTaskKept m s (told_task m t)) s k h.client h.keeps (λ r w b. doing-kept s k r w i t o e b)

  pub task_feeds : (P : Moved m → Type 0) (s : StateOf m) (k : WorkOf m) (r : Rest m) (w : told.Work m) (i : Box (TaskOf m)) (t : TaskOf m) (from : NodeId) (rid : ℕ) (x : Reply) →
      t ≡ i.value → latest_in x ≡ None → k.hand ≡ hand.Doing i → Busy s k r w →
      (InHand m r w (told_task m t) → P (fed_if m (awaits (task_awaited m s.stand (told_task m t)) from rid) (client_of m s r) w (told_task m t) from rid x)) → P (feed m (client_of m s r) r.work from rid x)
  task_feeds P s k r w i t from rid x o other e b f =
      let d : w.hand ≡ told.Doing (told_task m t) = in-hand s k r w i t o e b in
      subst (λ o. P (feed m (client_of m s r) o from rid x)) (sym b.work)
      (subst P (other-reply x (client_of m s r) w from rid other)
      (subst (λ (h : told.Hand m). P (hand_feed m (client_of m s r) w h from rid x)) (sym d) (f (record { work = b.work; hand = d }))))

  -- A newer layout is learnt.

  learning-feeds : (c : told.Client m) (w : told.Work m) (h : told.Hand m) (ws : Waits) (p : Box (PausedOf m)) (from : NodeId) (rid : ℕ) (x : Reply) → KeepsHand m (hand.Learning ws p) h → moved m c [] ≡ hand_feed m c w h from rid x
  learning-feeds c w (told.Doing u) ws p from rid x e = absurd e
  learning-feeds c w (told.Learning vs u) ws p from rid x e = refl

  pub nothing_taken : (s : StateOf m) (k : WorkOf m) (c : told.Client m) (ws : Waits) (p : Box (PausedOf m)) (from : NodeId) (rid : ℕ) (x : Reply) → latest_in x ≡ None → k.hand ≡ hand.Learning ws p → KeepsClient m s (Some k) c →
      moved m c [] ≡ feed m c c.work from rid x
  nothing_taken s k c ws p from rid x other e h = by_client (λ d. moved m d [] ≡ feed m d d.work from rid x) s k c h (λ r w b.
      subst (λ o. moved m (client_of m s r) [] ≡ feed m (client_of m s r) o from rid x) (sym b.work)
      (subst (λ z. moved m (client_of m s r) [] ≡ z) (other-reply x (client_of m s r) w from rid other)
      (learning-feeds (client_of m s r) w w.hand ws p from rid x (subst (λ (y : HandOf m). KeepsHand m y w.hand) e b.hand))))

  -- A layout is told.

  abbrev IsNewer : StateOf m → NodeId → Layout → Bool
  IsNewer s from q = node_eq from (layout_id from.num) && nat_lt s.stand.epoch q.epoch

  pub older_passed : (s : StateOf m) (k : WorkOf m) (c : told.Client m) (from : NodeId) (rid : ℕ) (q : Layout) → IsNewer s from q ≡ false → KeepsClient m s (Some k) c → moved m c [] ≡ feed m c c.work from rid (IsLatest q)
  older_passed s k c from rid q e h = by_client (λ d. moved m d [] ≡ feed m d d.work from rid (IsLatest q)) s k c h (λ r w b.
      subst (λ o. moved m (client_of m s r) [] ≡ feed m (client_of m s r) o from rid (IsLatest q)) (sym b.work)
      (ap (λ t. latest_if m t (client_of m s r) w from rid q) (sym e)))

  pub newer_taken : (P : Moved m → Type 0) (s : StateOf m) (k : WorkOf m) (r : Rest m) (w : told.Work m) (from : NodeId) (rid : ℕ) (q : Layout) → IsNewer s from q ≡ true → Busy s k r w → P (on_newer m (client_of m s r) w (task_in m w.hand) from.num rid q) →
      P (feed m (client_of m s r) r.work from rid (IsLatest q))
  newer_taken P s k r w from rid q e b h =
      subst (λ o. P (feed m (client_of m s r) o from rid (IsLatest q))) (sym b.work)
      (subst (λ t. P (latest_if m t (client_of m s r) w from rid q)) (sym e) h)

  -- What is left of what is in hand.

  pub paused_told : (x : HandOf m) (h : told.Hand m) (i : Box (TaskOf m)) (t : TaskOf m) (p : PausedOf m) → t ≡ i.value → x ≡ hand.Doing i → GoesOn m p (told_task m t) → KeepsHand m x h → GoesOn m p (task_in m h)
  paused_told x (told.Doing u) i t p o e g k = subst (λ v. GoesOn m p v) (ap (λ (y : TaskOf m). told_task m y) o ∙ subst (λ (y : HandOf m). KeepsHand m y (told.Doing u)) e k) g
  paused_told x (told.Learning ws u) i t p o e g k = absurd (subst (λ (y : HandOf m). KeepsHand m y (told.Learning ws u)) e k)

  pub learning_told : (x : HandOf m) (h : told.Hand m) (ws : Waits) (i : Box (PausedOf m)) (p : PausedOf m) → p ≡ i.value → x ≡ hand.Learning ws i → KeepsHand m x h → GoesOn m p (task_in m h)
  learning_told x (told.Doing u) ws i p o e k = absurd (subst (λ (y : HandOf m). KeepsHand m y (told.Doing u)) e k)
  learning_told x (told.Learning vs u) ws i p o e k = subst (λ (q : PausedOf m). GoesOn m q u) (sym o) (subst (λ (y : HandOf m). KeepsHand m y (told.Learning vs u)) e k).1

  fit-left : (k : Knowledge) (q : Layout) (t : told.Task m) → IsTaskFit m k q t → IsLeftFit m k t
  fit-left k q (told.Walking w os) h = h
  fit-left k q (told.Appending a x) h = h
  fit-left k q _ h = tt

  pub left_fit : (k : Knowledge) (q : Layout) (h : told.Hand m) → IsClientFit m k q h → IsLeftFit m k (task_in m h)
  left_fit k q (told.Doing t) f = fit-left k q t f
  left_fit k q (told.Learning ws t) f = f

  left-drawn : (n : ℕ) (q : Layout) (h : told.Hand m) → are_drawn m n q h ≡ true → all_below m n (task_awaited m q (task_in m h)) ≡ true
  left-drawn n q (told.Doing t) d = d
  left-drawn n q (told.Learning ws t) d = and-right (all_below m n (asks_latest m ws)) _ d

  busy-left : (s : StateOf m) (k : WorkOf m) (p : PausedOf m) (r : Rest m) (w : told.Work m) → ((h : told.Hand m) → KeepsHand m k.hand h → GoesOn m p (task_in m h)) → Busy s k r w → IsLeftKept m s p
  busy-left s k p r w f b = record { task = task_in m w.hand; goes = f w.hand b.hand; drawn = left-drawn s.rids.next s.stand w.hand b.drawn; fit = left_fit s.known s.stand w.hand b.fit }

  pub left_kept : (s : StateOf m) (k : WorkOf m) (p : PausedOf m) → ((h : told.Hand m) → KeepsHand m k.hand h → GoesOn m p (task_in m h)) → IsKept m s (Some k) → IsLeftKept m s p
  left_kept s k p f h = by_client (λ c. IsLeftKept m s p) s k h.client h.keeps (λ r w b. busy-left s k p r w f b)
