-- A number that a client has begun, and whose transaction isn't open: nothing is put or asked for it any more. And a
-- transaction whose end waits is open.
use Rattle.std.proofs.Common.{◌≡◌, ◌⊎◌, ℕ, ◌+◌, ◌<◌, ◌≤◌, [], ◌∷◌, ◌++◌, map, refl, sym, ap, ◌∙◌, subst, inl, inr, arith, Option, Some, None}
use Rattle.tg_base.specs.Clusters.{Header}
use Rattle.tg_base.specs.declared.ids.Oid.{Oid}
use Rattle.tg_kind.specs.Meaning.{Meaning}
use Rattle.tg_model.specs.declared.trace.What.TheVariants as told
use Rattle.tg_model.specs.Kinds.{CommandOf, MarkOf, NoteOf, EventOf}
use Rattle.tg_model.specs.Traces.{Trace}
use Rattle.tg_protocol.specs.Words.{numbers}
use Rattle.tg_protocol.specs.Transactions.{Tx, open_tx}
use Rattle.tg_protocol.specs.Clients.{Work, Client, new_client, tx_number}
use Rattle.tg_protocol.specs.Answers.{Moved, note, mark_notes}
use Rattle.tg_protocol.specs.ClientSteps.{called, snapshot_or}
use Rattle.tg_protocol.specs.Worlds.{World, start, client, trace, happens, next_event}
use Rattle.tg_protocol.specs.Runs.{Moves, Next, Takes as Moves', run}
use Rattle.tg_law_layouts.proofs.Moves.Lists.{at_map}
use Rattle.tg_law_replies.proofs.History.Members.{Has, has_either}
use Rattle.tg_law_replies.proofs.Replies.Books.{IsPlain, mark}
use Rattle.tg_law_replies.proofs.Replies.Closed.{LeavesAlone}
use Rattle.tg_law_replies.proofs.Books.Effects.{IsEnd, On, Quits, Closes, Asks, Marks'}
use Rattle.tg_law_replies.proofs.Books.Commands.{Refuses, Takes', Taking, Nothing, Opening, Putting, Answering, Ending, EndingLater, Dropping, Beginning, Turned, Idles, Works, Takes}
use Rattle.tg_law_replies.proofs.Books.Closing.{begun_turned}
use Rattle.tg_law_replies.proofs.Books.Turns.{BookOf}
use Rattle.tg_law_walks.proofs.Drafts.Became.{no_some, same_some}
use Rattle.tg_law_replies.proofs.Books.Worlds.{WorldBook, Stepped, Rests, Turns, nil_right, regroup, step, step_book}
use Rattle.tg_law_walks.proofs.Once.Quieting.{PlainFor, nil_plain, cons_plain, one_plain, are_plain, zero_plain, quit_plain, marks_alone}

module _ (m : Meaning) where
  -- While an end waits.

  abbrev pub EndOpen : Client m → Type 0
  EndOpen c = (w : Work m) → c.work ≡ Some w → IsEnd m w.command → (t : Tx) × (c.tx ≡ Some t)

  end_taken : (c : Client m) (x : CommandOf m) (r : Moved m) → Taking m c x r → EndOpen r.now
  end_taken c x r (Nothing s e z) w has i = no_some w (sym e ∙ has)
  end_taken c x r (Opening p) w has i = no_some w (sym p.work ∙ has)
  end_taken c x r (Putting p) w has i = no_some w (sym p.work ∙ has)
  end_taken c x r (Answering a) w has i = no_some w (sym a.work ∙ has)
  end_taken c x r (Ending e) w has i = no_some w (sym e.work ∙ has)
  end_taken c x r (EndingLater e) w has i = (e.of, e.same.0 ∙ e.from)
  end_taken c x r (Dropping d) w has i = no_some w (sym d.work ∙ has)
  end_taken c x r (Beginning b) w has i = absurd (b.not_end (subst (IsEnd m) (ap (λ (z : Work m). z.command) (same_some w b.work (sym has ∙ b.works)) ∙ b.command) i))

  end_turned : (c : Client m) (r : Moved m) → Turned m c r → EndOpen c → EndOpen r.now
  end_turned c r (Idles s same notes) l w has i = let x = l w (sym same ∙ has) i in (x.0, s.0 ∙ x.1)
  end_turned c r (Works v end was (On s notes u at same on)) l w has i =
      let x = l v was (subst (IsEnd m) (ap (λ (z : Work m). z.command) (same_some w u (sym has ∙ at)) ∙ same) i) in (x.0, s.0 ∙ x.1)
  end_turned c r (Works v end was (Quits s e q)) l w has i = no_some w (sym e ∙ has)
  end_turned c r (Works v end was (Closes s e j what notes z)) l w has i = no_some w (sym e ∙ has)
  end_turned c r (Works v end was (Asks a)) l w has i = no_some w (sym a.idle ∙ has)
  end_turned c r (Works v end was (Marks' x)) l w has i = absurd (subst (IsEnd m) (ap (λ (z : Work m). z.command) (same_some w x.work (sym has ∙ x.works)) ∙ (x.same ∙ x.command)) i)
  end_turned c r (Takes x (Refuses why j e)) l w has i = let y = l w (sym (ap (λ (z : Moved m). z.now.work) e) ∙ has) i in (y.0, ap (λ (z : Moved m). z.now.tx) e ∙ y.1)
  end_turned c r (Takes x (Takes' free fine t)) l w has i = end_taken c x r t w has i

  pub end_stepped : (k : ℕ) (e : EventOf m) (w v : World m) → Stepped m k e w v → EndOpen (client m w k) → EndOpen (client m v k)
  end_stepped k e w v (Rests c ys t alone) l = subst EndOpen (sym c) l
  end_stepped k e w v (Turns r t f g c traced) l = subst EndOpen (sym c) (λ u has i. end_turned (client m w k) r t l u has i)

  new_end : (h : Header) (j : ℕ) → EndOpen (new_client m h j)
  unfolding new_client
  new_end h j w has = no_some w has

  pub start_end : (h : Header) (k : ℕ) → EndOpen (client m (start m h) k)
  unfolding start
  start_end h k = at_map (new_client m h) (numbers h.clients 0) k (new_client m h k) EndOpen (new_end h) (new_end h k)

  -- Once it isn't open.

  abbrev pub Shut : ℕ → Client m → Type 0
  Shut n c = (n ≤ c.begun) × ((t : Tx) → c.tx ≡ Some t → t.number ≡ n → ⊥)

  module _ (k : ℕ) (tr : Trace m) (c : Client m) (h : BookOf m k tr c) (n : ℕ) (positive : 0 < n) (q : Shut n c) where
    taken_shut : {x : CommandOf m} (r : Moved m) (t : Tx) → r.now.tx ≡ Some t → t.number ≡ n → Taking m c x r → ⊥
    taken_shut r t is at (Nothing s e z) = q.1 t (sym s.0 ∙ is) at
    taken_shut r t is at (Opening p) = let a = ap (λ (z : Tx). z.number) (same_some (open_tx (c.begun + 1)) t (sym p.tx ∙ is)) in let le = q.0 in absurd (omega (arith, a, at, le))
    taken_shut r t is at (Putting p) = q.1 p.of p.from (ap (λ (z : Tx). z.number) (same_some _ t (sym p.tx ∙ is)) ∙ at)
    taken_shut r t is at (Answering a) = q.1 a.of a.from (ap (λ (z : Tx). z.number) (same_some _ t (sym a.tx ∙ is)) ∙ at)
    taken_shut r t is at (Ending e) = no_some t (sym e.tx ∙ is)
    taken_shut r t is at (EndingLater e) = q.1 t (sym e.same.0 ∙ is) at
    taken_shut r t is at (Dropping d) = no_some t (sym d.tx ∙ is)
    taken_shut r t is at (Beginning b) = q.1 t (sym b.same.0 ∙ is) at

    tx_shut : (r : Moved m) (t : Tx) → r.now.tx ≡ Some t → t.number ≡ n → Turned m c r → ⊥
    tx_shut r t is at (Idles s same notes) = q.1 t (sym s.0 ∙ is) at
    tx_shut r t is at (Works w end has (On s notes v i same on)) = q.1 t (sym s.0 ∙ is) at
    tx_shut r t is at (Works w end has (Quits s e z)) = q.1 t (sym s.0 ∙ is) at
    tx_shut r t is at (Works w end has (Closes s e i what notes z)) = no_some t (sym s.0 ∙ is)
    tx_shut r t is at (Works w end has (Asks a)) = q.1 a.of a.from (ap (λ (z : Tx). z.number) (same_some _ t (sym a.tx ∙ is)) ∙ at)
    tx_shut r t is at (Works w end has (Marks' x)) = q.1 t (sym x.tx ∙ is) at
    tx_shut r t is at (Takes x (Refuses why i e)) = q.1 t (sym (ap (λ (y : Moved m). y.now.tx) e) ∙ is) at
    tx_shut r t is at (Takes x (Takes' free fine y)) = taken_shut r t is at y

    -- it isn't what the client's open transaction is told of
    tx_no : (o : Option Tx) → c.tx ≡ o → tx_number m o ≡ n → ⊥
    tx_no None is at = omega (arith, at, positive)
    tx_no (Some t) is at = q.1 t is at

    mark_plain : (o : Oid) (j : ℕ) → PlainFor m n (mark_notes m (c.begun + 1) o j)
    mark_plain o j x (inl e) at = let y = ap (λ (u : NoteOf m). u.tx) e in let le = q.0 in absurd (omega (arith, y, at, le))
    mark_plain o j x (inr (inl e)) at = let y = ap (λ (u : NoteOf m). u.tx) e in let le = q.0 in absurd (omega (arith, y, at, le))
    mark_plain o j x (inr (inr (inl e))) at = let y = ap (λ (u : NoteOf m). u.tx) e in let le = q.0 in absurd (omega (arith, y, at, le))
    mark_plain o j x (inr (inr (inr i))) at = absurd i

    taken_plain : {x : CommandOf m} (r : Moved m) → Taking m c x r → PlainFor m n r.notes
    taken_plain r (Nothing s e z) = zero_plain m n r.notes positive z
    taken_plain r (Opening p) = are_plain m n r.notes _ p.notes (one_plain m n _ (λ e. tt))
    taken_plain r (Putting p) = are_plain m n r.notes _ p.notes (one_plain m n _ (λ e. absurd (q.1 p.of p.from e)))
    taken_plain r (Answering a) = are_plain m n r.notes _ a.notes (one_plain m n _ (λ e. absurd (q.1 a.of a.from e)))
    taken_plain r (Ending e) = are_plain m n r.notes _ e.notes (cons_plain m n (note m e.of.number told.End) (note m e.of.number (told.Committed (snapshot_or m e.of.snapshot)) ∷ []) (λ z. tt)
        (one_plain m n (note m e.of.number (told.Committed (snapshot_or m e.of.snapshot))) (λ z. tt)))
    taken_plain r (EndingLater e) = are_plain m n r.notes _ e.notes (one_plain m n _ (λ z. tt))
    taken_plain r (Dropping d) = are_plain m n r.notes _ d.notes (one_plain m n _ (λ z. tt))
    taken_plain r (Beginning b) = nil_plain m n r.notes b.notes

    plain_turned : (r : Moved m) → Turned m c r → PlainFor m n r.notes
    plain_turned r (Idles s same notes) = nil_plain m n r.notes notes
    plain_turned r (Works w end has (On s notes v i same on)) = nil_plain m n r.notes notes
    plain_turned r (Works w end has (Quits s e z)) = quit_plain m c w end n positive r.notes z
    plain_turned r (Works w end has (Closes s e i what notes z)) = are_plain m n r.notes _ notes (one_plain m n _ (λ at. absurd (tx_no c.tx refl at)))
    plain_turned r (Works w end has (Asks a)) = are_plain m n r.notes _ a.notes (one_plain m n _ (λ e. absurd (q.1 a.of a.from e)))
    plain_turned r (Works w end has (Marks' x)) = are_plain m n r.notes (mark_notes m (c.begun + 1) x.oid x.mark) x.notes (mark_plain x.oid x.mark)
    plain_turned r (Takes x (Refuses why i e)) = are_plain m n r.notes _ (ap (λ (y : Moved m). y.notes) e) (one_plain m n _ (λ z. tt))
    plain_turned r (Takes x (Takes' free fine y)) = taken_plain r y

    shut_turned : (r : Moved m) → Turned m c r → Shut n r.now
    shut_turned r turn = (let a = q.0 in let b = begun_turned m c r turn in omega (arith, a, b), λ t is at. tx_shut r t is at turn)

  -- Along a run.

  module _ (k n : ℕ) (positive : 0 < n) where
    -- what a run adds to the replies leaves it alone
    pub record Adds (w v : World m) : Type 0 where
      pub more : Trace m
      pub traced : trace m v ≡ trace m w ++ more
      pub alone : LeavesAlone m [] [] k n more
      pub shut : Shut n (client m v k)

    adds_stepped : (e : EventOf m) (w v : World m) → WorldBook m w → Shut n (client m w k) → Stepped m k e w v → Adds w v
    adds_stepped e w v h q (Rests c ys t alone) = record { more = ys; traced = t; alone = λ u i at number. absurd (alone u i at); shut = subst (Shut n) (sym c) q }
    adds_stepped e w v h q (Turns r t f g c x) = record {
      more = map (mark m w.event k) r.notes;
      traced = x;
      alone = marks_alone m k w.event n r.notes (plain_turned k (trace m w) (client m w k) (h k) n positive q r t);
      shut = subst (Shut n) (sym c) (called_shut (shut_turned k (trace m w) (client m w k) (h k) n positive q r t));
    }
      where
        called_shut : Shut n r.now → Shut n (called m r.now)
        called_shut z = z

    adds_both : (u v w : World m) → Adds u v → Adds v w → Adds u w
    adds_both u v w a b = record {
      more = a.more ++ b.more;
      traced = b.traced ∙ (ap (λ (tr : Trace m). tr ++ b.more) a.traced ∙ regroup (trace m u) a.more b.more);
      alone = λ y i at number. by y at number (has_either a.more b.more y i);
      shut = b.shut;
    }
      where
        by : (y : MarkOf m) → y.client ≡ k → y.tx ≡ n → Has a.more y ⊎ Has b.more y → IsPlain m y.what
        by y at number (inl j) = a.alone y j at number
        by y at number (inr j) = b.alone y j at number

    pub adds_run : (ms : Moves m) (w : World m) → WorldBook m w → Shut n (client m w k) → Adds w (run m ms w)
    unfolding run
    adds_run [] w h q = record { more = []; traced = sym (nil_right (trace m w)); alone = λ u i. absurd i; shut = q }
    adds_run (Next ∷ ms) w h q = by (adds_run ms (next_event m w) h q)
      where
        by : Adds (next_event m w) (run m ms (next_event m w)) → Adds w (run m ms (next_event m w))
        by a = record { more = a.more; traced = a.traced; alone = a.alone; shut = a.shut }
    adds_run (Moves' e ∷ ms) w h q =
        let a = adds_stepped e w (happens m w e) h q (step m w e h k) in
        adds_both w (happens m w e) (run m ms (happens m w e)) a (adds_run ms (happens m w e) (step_book m w e h) a.shut)
