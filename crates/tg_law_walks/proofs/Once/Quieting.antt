-- A number that a client has begun, whose transaction isn't open, or its end waits: nothing is put or asked for it any more.
use Rattle.std.proofs.Common.{◌≡◌, ◌⊎◌, ℕ, ◌+◌, ◌<◌, ◌≤◌, List, [], ◌∷◌, ◌++◌, map, refl, sym, ap, ◌∙◌, subst, inl, inr, arith, Option, Some, None}
use Rattle.tg_base.specs.declared.ids.Oid.{Oid}
use Rattle.tg_kind.specs.Meaning.{Meaning}
use Rattle.tg_model.specs.declared.command.Command.TheVariants as cmd
use Rattle.tg_model.specs.declared.refusal.Refusal.TheVariants as cause
use Rattle.tg_model.specs.declared.trace.What.TheVariants as told
use Rattle.tg_model.specs.Kinds.{CommandOf, WhatOf, MarkOf, NoteOf, EventOf}
use Rattle.tg_model.specs.Traces.{Trace}
use Rattle.tg_protocol.specs.Appending.{AppendEnd}
use Rattle.tg_protocol.specs.Transactions.{Tx}
use Rattle.tg_protocol.specs.Clients.{Work, Client, tx_number}
use Rattle.tg_protocol.specs.Answers.{Moved, note, mark_notes}
use Rattle.tg_protocol.specs.ClientSteps.{snapshot_or}
use Rattle.tg_protocol.specs.Worlds.{World, client, trace, happens, next_event}
use Rattle.tg_protocol.specs.Runs.{Moves, Next, Takes as Moves', run}
use Rattle.tg_law_replies.proofs.History.Members.{Has, has_image, has_either, has_left, has_right}
use Rattle.tg_law_replies.proofs.Replies.Books.{mark, IsPlain}
use Rattle.tg_law_replies.proofs.Replies.Closed.{LeavesAlone}
use Rattle.tg_law_replies.proofs.Books.Effects.{IsEnd, IsAsk, OfRecord, AllZero, Quit, Zeros, AskFails, Filled, Marked, MarkFilled, MarkLost, Close, Lost, Written, Decided, Told, On, Quits, Closes, Asks, Marks'}
use Rattle.tg_law_replies.proofs.Books.Commands.{Refuses, Takes', Taking, Nothing, Opening, Putting, Answering, Ending, EndingLater, Dropping, Beginning, Turned, Idles, Works, Takes}
use Rattle.tg_law_replies.proofs.Books.Closing.{NotFull, begun_turned}
use Rattle.tg_law_replies.proofs.Books.Turns.{BookOf}
use Rattle.tg_law_replies.proofs.Books.Worlds.{nil_right, regroup, cancel, has_marked, WorldBook, Stepped, Rests, Turns, NeverFull, Grown, grown_by, run_grows, step, step_book}
use Rattle.tg_law_walks.proofs.Drafts.Became.{no_some, same_some}
use Rattle.tg_law_walks.proofs.Once.Refusing.{Awaits, awaits_turned}
use Rattle.tg_law_walks.proofs.Once.Turning.{NotEnding, Opened, Was, New, Ran, opened}

module _ (m : Meaning) where
  abbrev pub Quiet : ℕ → Client m → Type 0
  Quiet n c = (n ≤ c.begun) × ((t : Tx) → c.tx ≡ Some t → t.number ≡ n → (w : Work m) × (c.work ≡ Some w) × IsEnd m w.command)

  -- notes that neither put nor ask for a number
  abbrev pub PlainFor : ℕ → List (NoteOf m) → Type 0
  PlainFor n ns = (x : NoteOf m) → Has ns x → x.tx ≡ n → IsPlain m x.what

  pub nil_plain : (n : ℕ) (ns : List (NoteOf m)) → ns ≡ [] → PlainFor n ns
  nil_plain n ns e x i at = absurd (subst (λ (xs : List (NoteOf m)). Has xs x) e i)

  pub cons_plain : (n : ℕ) (y : NoteOf m) (ns : List (NoteOf m)) → (y.tx ≡ n → IsPlain m y.what) → PlainFor n ns → PlainFor n (y ∷ ns)
  cons_plain n y ns h rest x (inl e) at = subst (λ (z : NoteOf m). IsPlain m z.what) (sym e) (h (ap (λ (z : NoteOf m). z.tx) (sym e) ∙ at))
  cons_plain n y ns h rest x (inr i) at = rest x i at

  pub one_plain : (n : ℕ) (y : NoteOf m) → (y.tx ≡ n → IsPlain m y.what) → PlainFor n (y ∷ [])
  one_plain n y h = cons_plain n y [] h (nil_plain n [] refl)

  pub are_plain : (n : ℕ) (ns xs : List (NoteOf m)) → ns ≡ xs → PlainFor n xs → PlainFor n ns
  are_plain n ns xs e h = subst (PlainFor n) (sym e) h

  pub zero_plain : (n : ℕ) (ns : List (NoteOf m)) → 0 < n → AllZero m ns → PlainFor n ns
  zero_plain n [] less h x i at = absurd i
  zero_plain n (y ∷ ns) less h x (inl e) at = let a = ap (λ (z : NoteOf m). z.tx) e in let b = h.0 in absurd (omega (arith, a, b, at, less))
  zero_plain n (y ∷ ns) less h x (inr i) at = zero_plain n ns less h.1 x i at

  pub quit_plain : (c : Client m) (w : Work m) (end : Option AppendEnd) (n : ℕ) → 0 < n → (ns : List (NoteOf m)) → Quit m c w end ns → PlainFor n ns
  quit_plain c w end n less ns (Zeros other z) = zero_plain n ns less z
  quit_plain c w end n less ns (AskFails why i z) = one_plain n (note m (tx_number m c.tx) (told.Refused why)) (λ e. tt)
  quit_plain c w end n less ns (Filled a y l is z f) = one_plain n (note m (tx_number m c.tx) (told.Refused (cause.LogFull l))) (λ e. tt)
  quit_plain c w end n less ns (Marked a k p j q page is e) = cons_plain n (note m k (told.Committed q)) (note m 0 (told.Marked p j) ∷ []) (λ e. tt) (one_plain n (note m 0 (told.Marked p j)) (λ e. tt))
  quit_plain c w end n less ns (MarkFilled a k p j l is f) = one_plain n (note m k (told.Refused (cause.LogFull l))) (λ e. tt)
  quit_plain c w end n less ns (MarkLost a k p j q b is e) = one_plain n (note m k (told.Refused (cause.Forgotten q b))) (λ e. tt)

  record_plain : (p : ℕ) (what : WhatOf m) → OfRecord m p what → IsPlain m what
  record_plain p (told.Put o op) h = absurd h
  record_plain p (told.Asked o q s a) h = absurd h
  record_plain p what h = tt

  both : (x : CommandOf m) → IsAsk m x → IsEnd m x → ⊥
  both cmd.End i e = i
  both x i e = e

  end_or : (x : CommandOf m) → (IsEnd m x → ⊥) ⊎ IsEnd m x
  end_or cmd.End = inr tt
  end_or x = inl (λ z. z)

  -- an end waits, or none does
  waits : (c : Client m) → NotEnding m c ⊎ ((w : Work m) × (c.work ≡ Some w) × IsEnd m w.command)
  waits c = by c.work refl
    where
      kind : (w : Work m) → c.work ≡ Some w → (IsEnd m w.command → ⊥) ⊎ IsEnd m w.command → NotEnding m c ⊎ ((v : Work m) × (c.work ≡ Some v) × IsEnd m v.command)
      kind w has (inl f) = inl (λ v is e. f (subst (λ (z : Work m). IsEnd m z.command) (same_some v w (sym is ∙ has)) e))
      kind w has (inr e) = inr (w, has, e)

      by : (o : Option (Work m)) → c.work ≡ o → NotEnding m c ⊎ ((v : Work m) × (c.work ≡ Some v) × IsEnd m v.command)
      by None e = inl (λ w has. no_some w (sym e ∙ has))
      by (Some w) e = kind w e (end_or w.command)

  module _ (k : ℕ) (tr : Trace m) (c : Client m) (h : BookOf m k tr c) (n : ℕ) (positive : 0 < n) (q : Quiet n c) where
    quiet_turned : (r : Moved m) → NotFull m n r.notes → Turned m c r → Quiet n r.now
    quiet_turned r full turn = (let a = q.0 in let b = begun_turned m c r turn in omega (arith, a, b), λ t is number. by t is number (waits r.now))
      where
        from : (t : Tx) → t.number ≡ n → Opened m c r t → ⊥
        from t number (Was s at same none) = let z = q.1 s at (sym same ∙ number) in none z.0 z.1 z.2
        from t number (New is) = let a = q.0 in omega (arith, a, is, number)
        from t number (Ran f) = full f.limit (subst (λ (i : ℕ). Has r.notes (note m i (told.Refused (cause.LogFull f.limit)))) number f.tells)

        by : (t : Tx) → r.now.tx ≡ Some t → t.number ≡ n → NotEnding m r.now ⊎ ((w : Work m) × (r.now.work ≡ Some w) × IsEnd m w.command) → (w : Work m) × (r.now.work ≡ Some w) × IsEnd m w.command
        by t is number (inl none) = absurd (from t number (opened m c h.suits r t is none turn))
        by t is number (inr z) = z

    module _ (awaits : Awaits m c) where
      -- an end waits no more than an ask, or nothing
      free_no : (t : Tx) → c.tx ≡ Some t → c.work ≡ None → t.number ≡ n → ⊥
      free_no t is free number = let z = q.1 t is number in no_some z.0 (sym free ∙ z.1)

      ask_no : (t : Tx) (w : Work m) → c.tx ≡ Some t → c.work ≡ Some w → IsAsk m w.command → t.number ≡ n → ⊥
      ask_no t w is has ask number = let z = q.1 t is number in both w.command ask (subst (λ (y : Work m). IsEnd m y.command) (same_some z.0 w (sym z.1 ∙ has)) z.2)

      close_plain : (w : Work m) (end : Option AppendEnd) (what : WhatOf m) → c.work ≡ Some w → IsEnd m w.command → Close m c w end what → IsPlain m what
      close_plain w end what has e (Lost a y p b is rec f) = tt
      close_plain w end what has e (Written a p page is f) = tt
      close_plain w end what has e (Decided a x is) = let z = awaits w has e a what is in record_plain z.0 what z.1
      close_plain w end what has e (Told x idle of) = record_plain w.at what of

      taken_plain : (x : CommandOf m) (r : Moved m) → c.work ≡ None → Taking m c x r → PlainFor n r.notes
      taken_plain x r free (Nothing s e z) = zero_plain n r.notes positive z
      taken_plain x r free (Opening p) = are_plain n r.notes _ p.notes (one_plain n _ (λ e. tt))
      taken_plain x r free (Putting p) = are_plain n r.notes _ p.notes (one_plain n _ (λ e. absurd (free_no p.of p.from free e)))
      taken_plain x r free (Answering a) = are_plain n r.notes _ a.notes (one_plain n _ (λ e. absurd (free_no a.of a.from free e)))
      taken_plain x r free (Ending e) = are_plain n r.notes _ e.notes (cons_plain n (note m e.of.number told.End) (note m e.of.number (told.Committed (snapshot_or m e.of.snapshot)) ∷ []) (λ z. tt)
          (one_plain n (note m e.of.number (told.Committed (snapshot_or m e.of.snapshot))) (λ z. tt)))
      taken_plain x r free (EndingLater e) = are_plain n r.notes _ e.notes (one_plain n _ (λ e. tt))
      taken_plain x r free (Dropping d) = are_plain n r.notes _ d.notes (one_plain n _ (λ e. tt))
      taken_plain x r free (Beginning b) = nil_plain n r.notes b.notes

      mark_plain : (o : Oid) (j : ℕ) → PlainFor n (mark_notes m (c.begun + 1) o j)
      mark_plain o j x (inl e) at = let y = ap (λ (u : NoteOf m). u.tx) e in let le = q.0 in absurd (omega (arith, y, at, le))
      mark_plain o j x (inr (inl e)) at = let y = ap (λ (u : NoteOf m). u.tx) e in let le = q.0 in absurd (omega (arith, y, at, le))
      mark_plain o j x (inr (inr (inl e))) at = let y = ap (λ (u : NoteOf m). u.tx) e in let le = q.0 in absurd (omega (arith, y, at, le))
      mark_plain o j x (inr (inr (inr i))) at = absurd i

      turned_plain : (r : Moved m) → Turned m c r → PlainFor n r.notes
      turned_plain r (Idles s same notes) = nil_plain n r.notes notes
      turned_plain r (Works w end has (On s notes v at same on)) = nil_plain n r.notes notes
      turned_plain r (Works w end has (Quits s e z)) = quit_plain c w end n positive r.notes z
      turned_plain r (Works w end has (Closes s e i what notes z)) = are_plain n r.notes _ notes (one_plain n _ (λ at. close_plain w end what has i z))
      turned_plain r (Works w end has (Asks a)) = are_plain n r.notes _ a.notes (one_plain n _ (λ e. absurd (ask_no a.of w a.from has a.is_ask e)))
      turned_plain r (Works w end has (Marks' x)) = are_plain n r.notes (mark_notes m (c.begun + 1) x.oid x.mark) x.notes (mark_plain x.oid x.mark)
      turned_plain r (Takes x (Refuses why is e)) = are_plain n r.notes _ (ap (λ (y : Moved m). y.notes) e) (one_plain n _ (λ e. tt))
      turned_plain r (Takes x (Takes' free fine t)) = taken_plain x r free t

  -- the marks of such notes
  pub marks_alone : (k event n : ℕ) (ns : List (NoteOf m)) → PlainFor n ns → LeavesAlone m [] [] k n (map (mark m event k) ns)
  marks_alone k event n ns h u i at number =
      let j = has_image (mark m event k) ns u i in
      subst (λ (y : WhatOf m). IsPlain m y) (sym (ap (λ (y : MarkOf m). y.what) j.2)) (h j.0 j.1 (sym (ap (λ (y : MarkOf m). y.tx) j.2) ∙ number))

  -- Along a run.

  module _ (k : ℕ) where
    pub awaits_stepped : (e : EventOf m) (w v : World m) → WorldBook m w → Stepped m k e w v → Awaits m (client m w k) → Awaits m (client m v k)
    awaits_stepped e w v h (Rests c ys t alone) a = subst (Awaits m) (sym c) a
    awaits_stepped e w v h (Turns r t f g c traced) a = subst (Awaits m) (sym c) (λ y has. awaits_turned m k (trace m w) (client m w k) (h k) a r t y has)

    pub awaits_run : (ms : Moves m) (w : World m) → WorldBook m w → Awaits m (client m w k) → Awaits m (client m (run m ms w) k)
    unfolding run
    awaits_run [] w h a = a
    awaits_run (Next ∷ ms) w h a = awaits_run ms (next_event m w) h a
    awaits_run (Moves' e ∷ ms) w h a = awaits_run ms (happens m w e) (step_book m w e h) (awaits_stepped e w (happens m w e) h (step m w e h k) a)

    module _ (n : ℕ) (positive : 0 < n) where
      -- in a step
      stepped : (e : EventOf m) (w v : World m) (ys : Trace m) → WorldBook m w → trace m v ≡ trace m w ++ ys → NeverFull m k n ys → Awaits m (client m w k) → Quiet n (client m w k) → Stepped m k e w v
          → LeavesAlone m [] [] k n ys × Quiet n (client m v k)
      stepped e w v ys h grown never a q (Rests c zs t alone) =
          (λ u i at number. absurd (alone u (subst (λ (xs : Trace m). Has xs u) (cancel (trace m w) ys zs (sym grown ∙ t)) i) at), subst (Quiet n) (sym c) q)
      stepped e w v ys h grown never a q (Turns r t f g c x) = (
        subst (λ (xs : Trace m). LeavesAlone m [] [] k n xs) (sym same) (marks_alone k w.event n r.notes (turned_plain k (trace m w) (client m w k) (h k) n positive q a r t)),
        subst (Quiet n) (sym c) (called_quiet (quiet_turned k (trace m w) (client m w k) (h k) n positive q r full t)),
      )
        where
          same : ys ≡ map (mark m w.event k) r.notes
          same = cancel (trace m w) ys (map (mark m w.event k) r.notes) (sym grown ∙ x)

          full : NotFull m n r.notes
          full l i = never (mark m w.event k (note m n (told.Refused (cause.LogFull l)))) l
              (subst (λ (zs : Trace m). Has zs (mark m w.event k (note m n (told.Refused (cause.LogFull l))))) (sym same) (has_marked m w.event k r.notes (note m n (told.Refused (cause.LogFull l))) i)) refl refl refl

          called_quiet : Quiet n r.now → (n ≤ r.now.begun) × ((t : Tx) → r.now.tx ≡ Some t → t.number ≡ n → (w : Work m) × (r.now.work ≡ Some w) × IsEnd m w.command)
          called_quiet z = z

      both_alone : (xs ys : Trace m) → LeavesAlone m [] [] k n xs → LeavesAlone m [] [] k n ys → LeavesAlone m [] [] k n (xs ++ ys)
      both_alone xs ys a b u i at number = by (has_either xs ys u i)
        where
          by : Has xs u ⊎ Has ys u → IsPlain m u.what
          by (inl j) = a u j at number
          by (inr j) = b u j at number

      pub quiet_run : (ms : Moves m) (w : World m) (ys : Trace m) → WorldBook m w → trace m (run m ms w) ≡ trace m w ++ ys → NeverFull m k n ys → Awaits m (client m w k) → Quiet n (client m w k) → LeavesAlone m [] [] k n ys
      unfolding run
      quiet_run [] w ys h grown never a q = subst (λ (xs : Trace m). LeavesAlone m [] [] k n xs) (cancel (trace m w) [] ys (nil_right (trace m w) ∙ grown)) (λ u i. absurd i)
      quiet_run (Next ∷ ms) w ys h grown never a q = quiet_run ms (next_event m w) ys h grown never a q
      quiet_run (Moves' e ∷ ms) w ys h grown never a q =
          subst (λ (xs : Trace m). LeavesAlone m [] [] k n xs) (sym split)
          (both_alone one.0 rest.0 now.0
          (quiet_run ms (happens m w e) rest.0 (step_book m w e h) rest.1 later (awaits_stepped e w (happens m w e) h (step m w e h k) a) now.1))
        where
          one : Grown m w (happens m w e)
          one = grown_by m 0 e w (happens m w e) (step m w e h 0)

          rest : Grown m (happens m w e) (run m ms (happens m w e))
          rest = run_grows m ms (happens m w e) (step_book m w e h)

          split : ys ≡ one.0 ++ rest.0
          split = cancel (trace m w) ys (one.0 ++ rest.0) (sym grown ∙ (rest.1 ∙ (ap (λ (tr : Trace m). tr ++ rest.0) one.1 ∙ regroup (trace m w) one.0 rest.0)))

          later : NeverFull m k n rest.0
          later u l i = never u l (subst (λ (zs : Trace m). Has zs u) (sym split) (has_right one.0 rest.0 u i))

          first : NeverFull m k n one.0
          first u l i = never u l (subst (λ (zs : Trace m). Has zs u) (sym split) (has_left one.0 rest.0 u i))

          now : LeavesAlone m [] [] k n one.0 × Quiet n (client m (happens m w e) k)
          now = stepped e w (happens m w e) one.0 h one.1 first a q (step m w e h k)
