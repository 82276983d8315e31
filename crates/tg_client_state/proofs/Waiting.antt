-- A command that waits on.
use Rattle.std.proofs.Common.{◌≡◌, ℕ, ◌+◌, ◌≤◌, true, false, Bool, List, [], ◌∷◌, Option, Some, None, Result, refl, sym, ap, subst, ◌∙◌, arith}
use Rattle.std.specs.Global.{Box}
use Rattle.std.specs.Prelude.{nat_le, nat_lt, max, if◌then◌else◌, IfOk}
use Rattle.tg_base.specs.declared.fault.NoMemory.{NoMemory}
use Rattle.std.specs.List.{list_all}
use Rattle.std.proofs.lemmas.Bool.Decides.{nat_tests}
use Rattle.std.proofs.lemmas.List.Folds.{list_all-append}
use Rattle.tg_base.proofs.Exact.{and-left, and-right, both}
use Rattle.tg_base.specs.Layouts.{Layout}
use Rattle.tg_base.specs.declared.msg.Msg.TheVariants.{AskLatest}
use Rattle.tg_base.specs.declared.packet.Out.{Out}
use Rattle.tg_kind.specs.Meaning.{Meaning}
use Rattle.tg_model.specs.Kinds.{NoteOf}
use Rattle.tg_protocol.specs.Words.{layout_id, numbers}
use Rattle.tg_protocol.specs.Requests.{Waits, waits_for, asked_of, drawn_from}
use Rattle.tg_protocol.specs.Clients.{Work, Client, Task, Syncing, Walking, Appending, Trimming, Copying', Reconfiguring, Hand, Doing, Learning}
use Rattle.tg_protocol.specs.Answers.{Moved, moved}
use Rattle.tg_protocol.specs.ClientSteps.{task_asks, task_awaited, hand_asks, work_asks, client_asks, asks_latest, goes_on, learns_for}
use Rattle.tg_protocol.specs.Reconfiguring.{reconf_asks, later_asks}
use Rattle.tg_reconf.proofs.Drawing.{length_numbers}
use Rattle.tg_base.specs.declared.packet.Rids.{Rids}
use Rattle.tg_protocol.specs.Appending.{Token}
use Rattle.tg_protocol.specs.Syncing.{Answer}
use Rattle.tg_client_state.specs.Numbers.{all_from}
use Rattle.tg_client_state.specs.Near.{NearToken, NearAnswer}
use Rattle.tg_client_state.specs.Tasks as tasks
use Rattle.tg_client_state.proofs.Steps.{more_drawn, each_below, each_from}
use Rattle.tg_client_state.specs.Tasks.{JobOf, HandOf, WorkOf, PausedOf, GoesOn, work_of, KeepsJob, KeepsWork, KeepsHand, KeepsMaybe}
use Rattle.tg_client_state.specs.declared.hand.Hand.TheVariants as hand
use Rattle.tg_client_state.specs.States.{StateOf, MovedOf, Rest, client_of, all_below, are_drawn, AreDrawn, KeepsViewIf, KeepsClient, KeepsMoved}
use Rattle.tg_client_state.specs.Moves.{Holds, Carries, Leaves}

-- Numbers.

from-here : (n k : ℕ) → n ≤ k → nat_le n k ≡ true
from-here n k le = grind (arith, nat_tests)

not-from : (a n : ℕ) → nat_lt a n ≡ true → nat_le n a ≡ false
not-from a n h = grind (arith, nat_tests)

from-lower : (a old n : ℕ) → old ≤ n → nat_le n a ≡ true → nat_le old a ≡ true
from-lower a old n le h = grind (arith, nat_tests)

take-it : (b : Bool) (o : Out) (xs ys : List Out) → b ≡ true → xs ≡ ys → (if b then o ∷ xs else xs) ≡ o ∷ ys
take-it true o xs ys h e = ap (λ zs. o ∷ zs) e
take-it false o xs ys h e = absurd cc

leave-it : (b : Bool) (o : Out) (xs : List Out) → b ≡ false → xs ≡ [] → (if b then o ∷ xs else xs) ≡ []
leave-it true o xs h e = absurd cc
leave-it false o xs h e = e

-- all that were drawn at a number or later
pub all_kept : (os : List Out) (old n : ℕ) → old ≤ n → all_from n os ≡ true → drawn_from old os ≡ os
all_kept [] old n le h = refl
all_kept (o ∷ os) old n le h = take-it (nat_le old o.rid) o _ os (from-lower o.rid old n le (and-left _ _ h)) (all_kept os old n le (and-right _ _ h))

-- none that was drawn before
pub none_kept : (os : List Out) (n : ℕ) → list_all (λ (o : Out). nat_lt o.rid n) os ≡ true → drawn_from n os ≡ []
none_kept [] n h = refl
none_kept (o ∷ os) n h = leave-it (nat_le n o.rid) o _ (not-from o.rid n (and-left _ _ h)) (none_kept os n (and-right _ _ h))

servers-below : (k n : ℕ) → list_all (λ (o : Out). nat_lt o.rid (n + k)) (asked_of layout_id AskLatest (waits_for (numbers k 0) n)) ≡ true
servers-below k n = subst (λ i. list_all (λ (o : Out). nat_lt o.rid (n + i)) (asked_of layout_id AskLatest (waits_for (numbers k 0) n)) ≡ true) (length_numbers k 0) (each_below layout_id AskLatest (numbers k 0) n)

module _ (m : Meaning) where
  -- what it has in hand changes
  pub hand_taken : (j : JobOf m) (w : Work m) (h : Hand m) → KeepsJob m j w → KeepsJob m j (record w { hand = h })
  hand_taken j w h e = ap (λ (u : Work m). record u { hand = h }) e

  pub went : (s : StateOf m) (j : JobOf m) (k : HandOf m) (t : Task m) (r : Rest m) (w : Work m) (old : ℕ) (besides sends : List Out) (notes : List (NoteOf m)) →
      KeepsHand m k (Doing t) → notes ≡ [] → Holds m s j r w old → Carries m s t old besides sends →
      KeepsMoved m old (record { state = s; work = Some (record { job = j; hand = k }); sends = sends; notes = notes }) (goes_on m (client_of m s r) w t besides)
  unfolding client_asks
  went s j k t r w old besides sends notes hk hn h c = record {
    now = record {
      is = refl;
      view = h.view;
      work = record { is = hand_taken j w (Doing t) h.job; hand = hk };
      drawn = c.drawn;
      fit = c.fit;
    };
    sends = c.sent;
    notes = hn;
  }

  pub learnt : (s : StateOf m) (j : JobOf m) (p : PausedOf m) (b : Box (PausedOf m)) (waits : Waits) (n : ℕ) (t : Task m) (r : Rest m) (w : Work m) (old : ℕ) (sends : List Out) →
      b.value ≡ p → waits ≡ waits_for (numbers s.layouts 0) s.rids.next → n ≡ s.rids.next + s.layouts → sends ≡ asks_latest m waits → Holds m s j r w old → Leaves m s p t →
      KeepsMoved m old (record { state = record s { rids = record { next = n } }; work = Some (record { job = j; hand = hand.Learning waits b }); sends = sends; notes = [] }) (learns_for m (client_of m s r) w t)
  unfolding client_asks
  learnt s j p b waits n t r w old sends hb hw hn hs h l =
      let asked = waits_for (numbers s.layouts 0) s.rids.next in
      let le : s.rids.next ≤ s.rids.next + s.layouts = omega arith in
      record {
        now = record {
          is = ap (λ k. client_of m (record s { rids = record { next = k } }) (record { view = r.view; played = r.played; work = Some (record w { hand = Learning asked t }) })) (sym hn);
          view = h.view;
          work = record { is = hand_taken j w (Learning asked t) h.job; hand = (hw, subst (λ (q : PausedOf m). GoesOn m q t) (sym hb) l.goes) };
          drawn = both _ _ (servers-below s.layouts s.rids.next) (more_drawn (task_awaited m s.stand t) s.rids.next (s.rids.next + s.layouts) le l.drawn);
          fit = l.fit;
        };
        sends = hs ∙ ap (asks_latest m) hw ∙ sym (all_kept (asks_latest m asked) old s.rids.next h.since (each_from layout_id AskLatest (numbers s.layouts 0) s.rids.next));
        notes = refl;
      }

  -- A message of which nothing comes.

  asks-drawn : (n : ℕ) (p : Layout) (t : Task m) → all_below m n (task_awaited m p t) ≡ true → all_below m n (task_asks m p t) ≡ true
  unfolding task_asks
  asks-drawn n p (Reconfiguring r) h = and-left _ _ (sym (list_all-append (λ (o : Out). nat_lt o.rid n) (reconf_asks r) (later_asks r r.work)) ∙ h)
  asks-drawn n p (Syncing s) h = h
  asks-drawn n p (Walking w os) h = h
  asks-drawn n p (Appending a x) h = h
  asks-drawn n p (Trimming t) h = h
  asks-drawn n p (Copying' c) h = h

  hand-drawn : (n : ℕ) (p : Layout) (h : Hand m) → are_drawn m n p h ≡ true → drawn_from n (hand_asks m p h) ≡ []
  hand-drawn n p (Doing t) h = none_kept (task_asks m p t) n (asks-drawn n p t h)
  hand-drawn n p (Learning ws t) h = none_kept (asks_latest m ws) n (and-left _ _ h)

  work-drawn : (n : ℕ) (p : Layout) (w : Option (Work m)) → AreDrawn m n p w → drawn_from n (work_asks m p w) ≡ []
  work-drawn n p None h = refl
  work-drawn n p (Some w) h = hand-drawn n p w.hand h

  pub stayed : (s : StateOf m) (w : Option (WorkOf m)) (c : Client m) (sends : List Out) (notes : List (NoteOf m)) → sends ≡ [] → notes ≡ [] → KeepsClient m s w c →
      KeepsMoved m s.rids.next (record { state = s; work = w; sends = sends; notes = notes }) (moved m c [])
  unfolding client_asks
  stayed s w c sends notes hs hn h = record {
    now = h;
    sends = hs ∙ sym (subst (λ n. drawn_from n (work_asks m c.stand c.work) ≡ []) next-is (work-drawn c.next c.stand c.work h.drawn));
    notes = hn;
  }
    where
      next-is : c.next ≡ s.rids.next
      next-is = ap (λ (d : Client m). d.next) h.is

  -- After a turn.

  -- the greatest position below which all is trimmed, as far as units have said
  pub met_holds : (s : StateOf m) (j k : JobOf m) (r : Rest m) (w : Work m) (old gone : ℕ) (rids : Rids) → Holds m s j r w old → s.rids.next ≤ rids.next → k ≡ record j { gone = max j.gone gone } →
      Holds m (record s { rids = rids }) k r (record w { gone = max w.gone gone }) old
  met_holds s j k r w old gone rids h le hk =
      let since : old ≤ s.rids.next = h.since in
      record {
        since = omega (arith, since, le);
        view = h.view;
        job = subst (λ (i : JobOf m). KeepsJob m i (record w { gone = max w.gone gone })) (sym hk) (ap (λ (u : Work m). record u { gone = max u.gone gone }) h.job);
      }

  pub near_token : (t : Option Token) → NearToken t → tasks.NearToken m t
  near_token None h = tt
  near_token (Some t) h = h

  pub near_answer : (a : Option Answer) → NearAnswer a → tasks.NearAnswer m a
  near_answer None h = tt
  near_answer (Some a) h = h

  -- What holds of a state and of something else holds of equal ones.
  pub moved_at : {A : Type 0} (G : A → Client m → Moved m) (x : Result (MovedOf m) NoMemory) (s t : StateOf m) (a b : A) (r : Rest m) (old : ℕ) → s ≡ t → a ≡ b →
      ((q : Rest m) (o : ℕ) → KeepsViewIf m s.view q.view → IfOk x (λ y. KeepsMoved m o y (G a (client_of m s q)))) → KeepsViewIf m t.view r.view →
      IfOk x (λ y. KeepsMoved m old y (G b (client_of m t r)))
  moved_at G x s t a b r old hs ha f h =
      subst (λ d. IfOk x (λ y. KeepsMoved m old y (G d (client_of m t r)))) ha
      (subst (λ (u : StateOf m). KeepsViewIf m u.view r.view → IfOk x (λ y. KeepsMoved m old y (G a (client_of m u r)))) hs (f r old) h)
