-- What clients told in a run, in each of its worlds.
use Rattle.std.proofs.Common.{◌≡◌, ◌⊎◌, ℕ, zero, suc, ◌<◌, List, [], ◌∷◌, ◌++◌, map, length, Bool, true, false, refl, sym, ap, ◌∙◌, subst, inl, inr, arith, Option, Some, None, is_some, Contains}
use Rattle.std.specs.Prelude.{◌≢◌, ◌==◌, not, nat_lt, slice_set, slice_index_or, slice_get}
use Rattle.tg_base.specs.Clusters.{Header}
use Rattle.tg_base.specs.declared.ids.NodeId.{NodeId}
use Rattle.tg_base.specs.declared.ids.Oid.{Oid}
use Rattle.tg_base.specs.declared.ids.Role.{Role}
use Rattle.tg_base.specs.declared.ids.Role.TheVariants as role
use Rattle.tg_base.specs.declared.packet.Packet.{Packet}
use Rattle.tg_kind.specs.Meaning.{Meaning}
use Rattle.tg_model.specs.declared.command.Event.TheVariants.{Command as Commands, Deliver, Lose, Tick, Stop}
use Rattle.tg_model.specs.declared.trace.What.TheVariants as told
use Rattle.tg_model.specs.Kinds.{EventOf, WhatOf, MarkOf, NoteOf}
use Rattle.tg_model.specs.Traces.{Trace, puts_of}
use Rattle.tg_protocol.specs.Words.{client_id, numbers}
use Rattle.tg_protocol.specs.Views.{Entries}
use Rattle.tg_protocol.specs.Transactions.{Tx}
use Rattle.tg_protocol.specs.Clients.{Client, new_client}
use Rattle.tg_protocol.specs.ClientSteps.{ClientTurn, client_command, client_deliver, client_tick}
use Rattle.tg_protocol.specs.Worlds.{World, Told, start, client, unit_moves, layout_moves, seqr_moves, client_turned, moves, comes, handed, delivers, noted_if, commands, ticks, ticks_if, stops_if, mark_of, happens, runs, count_of, has_stopped, trace}
use Rattle.tg_protocol.specs.Runs.{Move, Moves, Next, Takes, run, Reaches}
use Rattle.tg_protocol.specs.Alike.{HasCommit, Outcome}
use Rattle.tg_law_replies.specs.Plays.Sound.{IsRising}
use Rattle.tg_law_replies.specs.History.Logs.{AreListed, HasOutcome}
use Rattle.tg_law_replies.specs.History.Worlds.{entries_in}
use Rattle.tg_law_replies.proofs.History.Members.{has_contained, and_both, lt_of, same_number, number_same, contrary}
use Rattle.tg_law_replies.proofs.History.Cells.{logs_rise, outcomes_are}
use Rattle.tg_law_replies.specs.Views.Exact.{AreWriting}
use Rattle.tg_law_replies.specs.Replies.Steps.{EachEvent}
use Rattle.tg_law_replies.specs.Replies.Ended.{AppendsEnd}
use Rattle.tg_law_replies.specs.Replies.Outcomes.{TellsOutcomes}
use Rattle.tg_law_replies.specs.Replies.Laws.{ClientsFind}
use Rattle.tg_law_replies.proofs.Replies.Ready.{Ready}
use Rattle.tg_law_replies.proofs.Replies.Books.{mark}
use Rattle.tg_law_replies.proofs.Replies.Moves.{TrueWhat, IsCommitAt}
use Rattle.tg_law_replies.proofs.Replies.Steps.{LawfulIn, AllStand, AllLand, lands_here, happens_right, SoTold, IsEffect, as_moved, IsRightWorld, command_right, deliver_right, tick_right}
use Rattle.tg_law_replies.proofs.Replies.Kept.{IsOver, OnlyReads, IsKept, others_kept, turn_kept}
use Rattle.tg_law_replies.proofs.Replies.Along.{moved_by, Along, at_end, along}
use Rattle.tg_law_replies.proofs.Replies.Runs.{Right, AreLawful, start_right, counted_right, lawful_in}
use Rattle.tg_law_replies.proofs.Replies.Shape.{idle_stands}
use Rattle.tg_law_replies.proofs.Replies.Shaping.{AllShaped, start_shaped, happens_shaped}
use Rattle.tg_law_replies.proofs.Replies.Found.{each_ready, each_asks}
use Rattle.tg_law_replies.proofs.Books.Worlds.{set_same, set_other, trace_after, declared}

module _ (m : Meaning) (objects : List Oid) (es : Entries) (rising : IsRising es) (listed : AreListed es) where
  abbrev pub IsKeptWorld : World m → Type 0
  IsKeptWorld w = (k : ℕ) → IsKept m objects es rising listed k (trace m w) (client m w k)

  turned_kept : (w : World m) (n : ℕ) (t : ClientTurn m) → n < length w.clients → IsKeptWorld w → IsEffect m objects es rising listed (client m w n) (as_moved m objects es rising listed t) → IsKeptWorld (client_turned m w n t)
  unfolding client_turned
  turned_kept w n t less h effect k =
      subst (λ (rs : Trace m). IsKept m objects es rising listed k rs (slice_index_or (slice_set w.clients n t.now) k (new_client m w.cluster k))) (sym (trace_after m w n t.notes)) (by (n == k) refl)
    where
      by : (b : Bool) → (n == k) ≡ b → IsKept m objects es rising listed k (trace m w ++ map (mark m w.event n) t.notes) (slice_index_or (slice_set w.clients n t.now) k (new_client m w.cluster k))
      by true e =
          subst (λ (j : ℕ). IsKept m objects es rising listed j (trace m w ++ map (mark m w.event n) t.notes) (slice_index_or (slice_set w.clients n t.now) j (new_client m w.cluster j))) (same_number n k e)
          (subst (λ (c : Client m). IsKept m objects es rising listed n (trace m w ++ map (mark m w.event n) t.notes) c) (sym (set_same w.clients n t.now (new_client m w.cluster n) less))
          (turn_kept m objects es rising listed n (trace m w) w.event (client m w n) t (h n) effect))
      by false e =
          subst (λ (c : Client m). IsKept m objects es rising listed k (trace m w ++ map (mark m w.event n) t.notes) c) (sym (set_other w.clients n k t.now (new_client m w.cluster k) (λ s. contrary (n == k) e (number_same n k s))))
          (others_kept m objects es rising listed k (trace m w) (client m w k) w.event n t.notes (λ s. contrary (n == k) e (number_same n k s)) (h k))

  moves_kept : (w : World m) (p : Packet) (r : Role) → IsRightWorld m objects es rising listed w → IsKeptWorld w → (r ≡ role.Client → p.to.num < length w.clients)
      → (r ≡ role.Client → IsEffect m objects es rising listed (client m w p.to.num) (as_moved m objects es rising listed (client_deliver m (client m w p.to.num) p.from p.rid p.msg))) → IsKeptWorld (moves m w p r)
  unfolding unit_moves layout_moves seqr_moves
  moves_kept w p role.Unit right h less effect = h
  moves_kept w p role.Layout right h less effect = h
  moves_kept w p role.Seqr right h less effect = h
  moves_kept w p role.Client right h less effect = turned_kept w p.to.num (client_deliver m (client m w p.to.num) p.from p.rid p.msg) (less refl) h (effect refl)

  pub happens_kept : (w : World m) (e : EventOf m) → IsRightWorld m objects es rising listed w → LawfulIn m e → AllStand m objects es rising listed w → AllLand m objects es rising listed w e → EachEvent m objects es (Ready m objects es) w e → IsKeptWorld w → IsKeptWorld (happens m w e)
  unfolding happens
  happens_kept w (Commands k x) right lawful stand land each h = by (runs m w (client_id k)) refl
    where
      turned : (b : Bool) → runs m w (client_id k) ≡ true → IsKeptWorld (client_turned m (noted_if m b w k (client m w k)) k (client_command m (client m w k) x))
      turned true on =
          turned_kept w k (client_command m (client m w k) x) (declared m w (client_id k) refl on) h (command_right m objects es rising listed (client m w k) x (right.clients k) (stand k) lawful).1
      turned false on =
          turned_kept (noted_if m false w k (client m w k)) k (client_command m (client m w k) x) (declared m w (client_id k) refl on) h (command_right m objects es rising listed (client m w k) x (right.clients k) (stand k) lawful).1

      by : (b : Bool) → runs m w (client_id k) ≡ b → IsKeptWorld (commands m b w k x)
      by true on = turned (is_some (client m w k).work) on
      by false on = h
  happens_kept w (Deliver i) right lawful stand land each h = by (slice_get w.packets i) refl
    where
      comes_kept : (p : Packet) → slice_get w.packets i ≡ Some p → (b : Bool) → runs m w p.to ≡ b → IsKeptWorld (comes m b (handed m w i) p)
      comes_kept p is true on =
          moves_kept (handed m w i) p p.to.role (record { clients = right.clients; replies = right.replies; objects_are = right.objects_are }) h (λ c. declared m w p.to c on)
          (λ c. (deliver_right m objects es rising listed (client m w p.to.num) p.from p.rid p (right.clients p.to.num) (lands_here m objects es rising listed w i p land is c on) (each p is c on)).1)
      comes_kept p is false on = h

      by : (p : Option Packet) → slice_get w.packets i ≡ p → IsKeptWorld (delivers m w i p)
      by None is = h
      by (Some p) is = comes_kept p is (runs m w p.to) refl
  happens_kept w (Lose i) right lawful stand land each h = h
  happens_kept w (Tick n) right lawful stand land each h = by (runs m w n) refl
    where
      ticks_kept : (r : Role) → n.role ≡ r → runs m w n ≡ true → IsKeptWorld (ticks m w n.num r)
      ticks_kept role.Unit is on = h
      ticks_kept role.Layout is on = h
      ticks_kept role.Seqr is on = h
      ticks_kept role.Client is on =
          turned_kept w n.num (client_tick m (client m w n.num)) (declared m w n is on) h (tick_right m objects es rising listed (client m w n.num) (right.clients n.num)).1

      by : (b : Bool) → runs m w n ≡ b → IsKeptWorld (ticks_if m b w n)
      by true on = ticks_kept n.role refl on
      by false on = h
  happens_kept w (Stop n) right lawful stand land each h = by (runs m w n)
    where
      by : (b : Bool) → IsKeptWorld (stops_if m b w n)
      by true = h
      by false = h

module _ (m : Meaning) (h : Header) (es : Entries) (rising : IsRising es) (listed : AreListed es) where
  new_kept : (k n : ℕ) → IsKept m h.objects es rising listed k [] (new_client m h n)
  unfolding new_client
  new_kept k n = record {
    «open» = λ t is. absurd (none t is);
    later = λ x less t i. absurd i;
    snapshots = λ x over. let a = over.0 in let b = over.1 in absurd (omega (arith, a, b));
    committed = λ x p tells. absurd (has_contained [] (record { event = tells.event; client = k; tx = x; what = told.Committed p }) tells.here);
  }
    where
      none : (t : Tx) → None ≡ Some t → ⊥
      none t e = cc

  each_kept : (k : ℕ) (ns : List ℕ) (j : ℕ) (d : Client m) → IsKept m h.objects es rising listed k [] d → IsKept m h.objects es rising listed k [] (slice_index_or (map (new_client m h) ns) j d)
  each_kept k [] j d r = r
  each_kept k (n ∷ ns) zero d r = new_kept k n
  each_kept k (n ∷ ns) (suc j) d r = each_kept k ns j d r

  start_kept : IsKeptWorld m h.objects es rising listed (start m h)
  unfolding start
  start_kept k = each_kept k (numbers h.clients 0) k (new_client m h k) (new_kept k k)

  -- clients are right, their replies are kept, and they keep their shape
  abbrev pub RightAndKept : World m → Type 0
  RightAndKept w = Right m h es rising listed w × IsKeptWorld m h.objects es rising listed w × AllShaped m h.objects es w

  pub of_right : (ms : Moves m) (w : World m) → Along m RightAndKept ms w → Along m (Right m h es rising listed) ms w
  of_right [] w k = k.0
  of_right (x ∷ ms) w k = (k.0.0, of_right ms (moved_by m x w) k.1)

  all_stand : (w : World m) → AllShaped m h.objects es w → AllStand m h.objects es rising listed w
  all_stand w shaped k none = idle_stands m h.objects (client m w k) (shaped k) none

  -- so it is in each world of a run
  all_kept : (ms : Moves m) → AreLawful m h es rising listed ms
      → ((before after : Moves m) (e : EventOf m) → ms ≡ before ++ Takes e ∷ after → AllLand m h.objects es rising listed (run m before (start m h)) e)
      → ((before after : Moves m) (e : EventOf m) → ms ≡ before ++ Takes e ∷ after → Along m (Right m h es rising listed) before (start m h) → AllShaped m h.objects es (run m before (start m h))
      → EachEvent m h.objects es (Ready m h.objects es) (run m before (start m h)) e)
      → Along m RightAndKept ms (start m h)
  all_kept ms lawful lands finds = along m RightAndKept h ms (start_right m h es rising listed, start_kept, start_shaped m h es) next
    where
      next : (before after : Moves m) (x : Move m) → ms ≡ before ++ x ∷ after → Along m RightAndKept before (start m h) → RightAndKept (moved_by m x (run m before (start m h)))
      next before after Next split k = let now = at_end m RightAndKept before (start m h) k in (counted_right m h es rising listed (run m before (start m h)) now.0, now.1, now.2)
      next before after (Takes e) split k =
          let now = at_end m RightAndKept before (start m h) k in
          let each = finds before after e split (of_right before (start m h) k) now.2 in
          let fine = lawful before after e split in
          let stand = all_stand (run m before (start m h)) now.2 in
          let land = lands before after e split in (
            happens_right m h.objects es rising listed (run m before (start m h)) e now.0 fine stand land each,
            happens_kept m h.objects es rising listed (run m before (start m h)) e now.0 fine stand land each now.1,
            happens_shaped m h.objects es (run m before (start m h)) e now.2 (each_asks m h.objects es (run m before (start m h)) e each),
          )

-- so it is of a run whose clients find what they need, and whose appends stand where they ended
pub found_kept : (m : Meaning) (h : Header) (ms : Moves m) (w : World m) (listed : AreListed (entries_in m w)) → AreWriting (entries_in m w) → Reaches m h ms w → ClientsFind m h ms w → AppendsEnd m h ms w
    → Along m (RightAndKept m h (entries_in m w) (logs_rise m w) listed) ms (start m h)
found_kept m h ms w listed writing r finds ends =
    all_kept m h (entries_in m w) (logs_rise m w) listed ms (lawful_in m h ms w (entries_in m w) (logs_rise m w) listed r) (λ before after e split k a x has is. ends before after e split k a x has is)
    (λ before after e split k shaped. each_ready m h (entries_in m w) (logs_rise m w) listed writing ms finds before after e split k shaped)

-- What is told of outcomes.

module _ (m : Meaning) (h : Header) (w : World m) (listed : AreListed (entries_in m w)) (right : IsRightWorld m h.objects (entries_in m w) (logs_rise m w) listed w)
    (kept : IsKeptWorld m h.objects (entries_in m w) (logs_rise m w) listed w) where
  abbrev word_is : WhatOf m → Bool
  word_is (told.Committed p) = true
  word_is x = false

  pub true_reply : (t : Told m) (what : WhatOf m) → Contains w.told t → t.mark.what ≡ what → word_is what ≡ false → TrueWhat m h.objects (entries_in m w) (logs_rise m w) listed what
  true_reply t what i is never = by (subst (λ (x : WhatOf m). SoTold m h.objects (entries_in m w) (logs_rise m w) listed x) is (right.replies t (has_contained w.told t i)))
    where
      by : SoTold m h.objects (entries_in m w) (logs_rise m w) listed what → TrueWhat m h.objects (entries_in m w) (logs_rise m w) listed what
      by (inl x) = x
      by (inr c) = contrary (word_is what) never (ap word_is c.1)

  pub tells_outcomes : TellsOutcomes m w
  tells_outcomes = record {
    kept = λ k p v b is fate. outcomes_are m w h.objects p b (((right.clients k).view v is).so.fates p b fate);
    fate = λ t p b i is. outcomes_are m w h.objects p b (true_reply t (told.Fate p (Some b)) i is refl);
    decided = λ t p b i is. outcomes_are m w h.objects p b (true_reply t (told.Decided p (Some b)) i is refl);
    rescued = λ t p b i is. outcomes_are m w h.objects p b (true_reply t (told.Rescued p (Some b)) i is refl).0;
    committed = λ k x p tells puts. committed k x p puts ((kept k).committed x p tells);
    aborted = λ t p o part seen now i is. let f = true_reply t (told.Aborted p o part seen now) i is refl in outcomes_are m w h.objects p false f.out;
    unsure = λ t p q i is. blocked p q (true_reply t (told.Unsure p q) i is refl);
  }
    where
      committed : (k x p : ℕ) → puts_of m (trace m w) k x ≢ [] → HasOutcome m h.objects (entries_in m w) p true ⊎ (IsOver m h.objects (entries_in m w) (logs_rise m w) listed k (client m w k) x × OnlyReads m h.objects (entries_in m w) (logs_rise m w) listed k (trace m w) x p)
          → Outcome m w p true
      committed k x p puts (inl out) = outcomes_are m w h.objects p true out
      committed k x p puts (inr o) = absurd (puts o.1.puts)

      blocked : (p q : ℕ) → (q ≡ p) ⊎ IsCommitAt m h.objects (entries_in m w) (logs_rise m w) listed q → (q ≡ p) ⊎ HasCommit m w q
      blocked p q (inl same) = inl same
      blocked p q (inr c) = inr (record { record_at = c.entry; here = c.here; commit = c.commit })
