-- A turn of a client tells that the log is full only where it ends an append so.
use Rattle.std.proofs.Common.{◌≡◌, ◌⊎◌, ℕ, ◌+◌, ◌<◌, List, [], ◌∷◌, length, Bool, true, false, refl, sym, ap, ◌∙◌, subst, inl, inr, arith, Option, Some, None}
use Rattle.std.proofs.lemmas.Bool.{cases_eq}
use Rattle.std.specs.Prelude.{if◌then◌else◌, ◌==◌}
use Rattle.tg_entry.specs.Format.{tag_of}
use Rattle.tg_kind.specs.Meaning.{Meaning}
use Rattle.tg_model.specs.declared.command.Command.TheVariants as cmd
use Rattle.tg_model.specs.declared.refusal.Refusal.{Refusal}
use Rattle.tg_model.specs.declared.refusal.Refusal.TheVariants as cause
use Rattle.tg_model.specs.declared.trace.What.TheVariants as told
use Rattle.tg_model.specs.Kinds.{CommandOf, WhatOf, NoteOf}
use Rattle.tg_model.specs.Traces.{Trace}
use Rattle.tg_protocol.specs.Words.{directory}
use Rattle.tg_protocol.specs.Appending.{Append, AppendEnd, Full}
use Rattle.tg_protocol.specs.Transactions.{Tx}
use Rattle.tg_protocol.specs.Clients.{Purpose, Writes, Judged, Decides, Marks, Appending, Work, Client, tx_number, refusal}
use Rattle.tg_protocol.specs.Answers.{Moved, note}
use Rattle.tg_protocol.specs.ClientSteps.{task_in, snapshot_or}
use Rattle.tg_law_replies.proofs.History.Members.{Has}
use Rattle.tg_law_replies.proofs.Books.Effects.{IsEnd, IsRecord, OfRecord, DecidesOf, NotForgotten, AllZero, Onward, Same', Walks, Lands, Begins, Quit, Zeros, AskFails, Filled, Marked, MarkFilled, MarkLost, Close, Lost, Written, Decided, Told, On, Quits, Closes, Asks, Marks'}
use Rattle.tg_law_replies.proofs.Books.Commands.{Refuses, Takes', Taking, Nothing, Opening, Putting, Answering, Ending, EndingLater, Dropping, Beginning, Turned, Idles, Works, Takes, ended_by}
use Rattle.tg_law_replies.proofs.Books.Tales.{Fine, fine_refusal}
use Rattle.tg_law_replies.proofs.Books.Closing.{NotFull}
use Rattle.tg_law_replies.proofs.Books.Turns.{BookOf, IsOfMark, DraftOf}
use Rattle.tg_law_walks.proofs.Drafts.Became.{no_some, same_some, Holds}
use Rattle.tg_law_walks.proofs.Once.Turning.{record_of, record_tag, idle_holds}

module _ (m : Meaning) where
  -- that the log is full
  abbrev TellsFull : WhatOf m → Type 0
  TellsFull (told.Refused (cause.LogFull l)) = Unit {0}
  TellsFull w = ⊥

  fine_full : (why : Refusal) → NotForgotten m why → TellsFull (told.Refused why) → ⊥
  fine_full (cause.LogFull l) h f = h
  fine_full why h f = f

  record_full : (p : ℕ) (what : WhatOf m) → OfRecord m p what → TellsFull what → ⊥
  record_full p (told.Refused (cause.LogFull l)) h f = h
  record_full p what h f = f

  refused_full : (o : Option Refusal) (why : Refusal) → Fine m o → o ≡ Some why → NotForgotten m why
  refused_full None why h e = no_some why e
  refused_full (Some x) why h e = subst (λ (y : Refusal). NotForgotten m y) (same_some x why e) h

  none_full : (n : ℕ) (ns : List (NoteOf m)) → ns ≡ [] → NotFull m n ns
  none_full n ns e l i = absurd (subst (λ (xs : List (NoteOf m)). Has xs (note m n (told.Refused (cause.LogFull l)))) e i)

  -- one note
  not_one : (n x : ℕ) (what : WhatOf m) → (TellsFull what → ⊥) → NotFull m n (note m x what ∷ [])
  not_one n x what isnt l (inl e) = isnt (subst TellsFull (ap (λ (y : NoteOf m). y.what) e) tt)
  not_one n x what isnt l (inr i) = absurd i

  not_this : (n x : ℕ) (what : WhatOf m) → (n ≡ x → ⊥) → NotFull m n (note m x what ∷ [])
  not_this n x what isnt l (inl e) = isnt (ap (λ (y : NoteOf m). y.tx) e)
  not_this n x what isnt l (inr i) = absurd i

  -- several
  not_more : (n x : ℕ) (what : WhatOf m) (ns : List (NoteOf m)) → (TellsFull what → ⊥) → NotFull m n ns → NotFull m n (note m x what ∷ ns)
  not_more n x what ns isnt rest l (inl e) = isnt (subst TellsFull (ap (λ (y : NoteOf m). y.what) e) tt)
  not_more n x what ns isnt rest l (inr i) = rest l i

  zero_full : (n : ℕ) (ns : List (NoteOf m)) → 0 < n → AllZero m ns → NotFull m n ns
  zero_full n [] less h l i = absurd i
  zero_full n (x ∷ ns) less h l (inl e) = let a = ap (λ (y : NoteOf m). y.tx) e in let b = h.0 in omega (arith, a, b, less)
  zero_full n (x ∷ ns) less h l (inr i) = zero_full n ns less h.1 l i

  is_full : (n : ℕ) (ns xs : List (NoteOf m)) → ns ≡ xs → NotFull m n xs → NotFull m n ns
  is_full n ns xs e h = subst (λ (ys : List (NoteOf m)). NotFull m n ys) (sym e) h

  -- what waits for a decision record tells of a record
  abbrev pub Awaits : Client m → Type 0
  Awaits c = (w : Work m) → c.work ≡ Some w → IsEnd m w.command → (a : Append) (what : WhatOf m) → task_in m w.hand ≡ Appending a (Decides what) → (p : ℕ) × OfRecord m p what

  module _ (k : ℕ) (tr : Trace m) (c : Client m) (h : BookOf m k tr c) where
    -- a record's append that ends for want of room
    pub record IsFull (n : ℕ) (end : Option AppendEnd) : Type 0 where
      pub append : Append
      pub hand : Holds m c append
      pub tag : tag_of append.draft.body ≡ 1
      pub number : append.draft.head.number ≡ n
      pub limit : ℕ
      pub ended : end ≡ Some (Full limit)

    module _ (awaits : Awaits c) (n : ℕ) (positive : 0 < n) where
      filled : (w : Work m) (end : Option AppendEnd) (a : Append) (y : Purpose m) (l : ℕ) → c.work ≡ Some w → task_in m w.hand ≡ Appending a y → IsRecord m y → end ≡ Some (Full l) → (x : ℕ) → tx_number m c.tx ≡ x → n ≡ x → IsFull n end
      filled w end a y l has is rec f x at same = by c.tx refl
        where
          o : Holds m c a
          o = record { work = w; purpose = y; has = has; holds = is }

          by : (t : Option Tx) → c.tx ≡ t → IsFull n end
          by None e = let z = ap (λ (t : Option Tx). tx_number m t) (sym e) ∙ at in absurd (omega (arith, z, same, positive))
          by (Some t) e = record {
            append = a;
            hand = o;
            tag = record_tag m k tr c h a o rec;
            number = record_of m k tr c h a o rec t e ∙ (ap (λ (t : Option Tx). tx_number m t) (sym e) ∙ (at ∙ sym same));
            limit = l;
            ended = f;
          }

      quit : (w : Work m) (end : Option AppendEnd) (ns : List (NoteOf m)) → c.work ≡ Some w → Quit m c w end ns → NotFull m n ns ⊎ IsFull n end
      quit w end ns has (Zeros other z) = inl (zero_full n ns positive z)
      quit w end ns has (AskFails why i z) = inl (not_one n (tx_number m c.tx) (told.Refused why) (fine_full why z))
      quit w end ns has (Filled a y l is rec f) = by (cases_eq n (tx_number m c.tx))
        where
          by : (n ≡ tx_number m c.tx) ⊎ (n ≡ tx_number m c.tx → ⊥) → NotFull m n (note m (tx_number m c.tx) (told.Refused (cause.LogFull l)) ∷ []) ⊎ IsFull n end
          by (inl e) = inr (filled w end a y l has is rec f (tx_number m c.tx) refl e)
          by (inr e) = inl (not_this n (tx_number m c.tx) (told.Refused (cause.LogFull l)) e)
      quit w end ns has (Marked a x o j p page is f) = inl (not_more n x (told.Committed p) (note m 0 (told.Marked o j) ∷ []) (λ z. z) (not_one n 0 (told.Marked o j) (λ z. z)))
      quit w end ns has (MarkFilled a x o j l is f) = by (cases_eq n x)
        where
          draft : IsOfMark m k tr c.tx c.begun x o j a.draft
          draft = subst (DraftOf m k tr c.tx c.begun) is (h.drafts w has)

          by : (n ≡ x) ⊎ (n ≡ x → ⊥) → NotFull m n (note m x (told.Refused (cause.LogFull l)) ∷ []) ⊎ IsFull n end
          by (inl e) = inr (record { append = a; hand = record { work = w; purpose = Marks x o j; has = has; holds = is }; tag = ap tag_of draft.draft.2; number = draft.draft.1 ∙ sym e; limit = l; ended = f })
          by (inr e) = inl (not_this n x (told.Refused (cause.LogFull l)) e)
      quit w end ns has (MarkLost a x o j p b is f) = inl (not_one n x (told.Refused (cause.Forgotten p b)) (λ z. z))

      close : (w : Work m) (end : Option AppendEnd) (what : WhatOf m) → c.work ≡ Some w → IsEnd m w.command → Close m c w end what → TellsFull what → ⊥
      close w end what has e (Lost a y p b is rec f) z = z
      close w end what has e (Written a p page is f) z = z
      close w end what has e (Decided a x is) z = record_full (awaits w has e a what is).0 what (awaits w has e a what is).1 z
      close w end what has e (Told x idle of) z = record_full w.at what of z

      taken : {x : _} (r : Moved m) → Taking m c x r → NotFull m n r.notes
      taken r (Nothing s e z) = zero_full n r.notes positive z
      taken r (Opening p) = is_full n r.notes _ p.notes (not_one n _ told.Begin (λ z. z))
      taken r (Putting p) = is_full n r.notes _ p.notes (not_one n _ (told.Put p.oid p.op) (λ z. z))
      taken r (Answering a) = is_full n r.notes _ a.notes (not_one n _ (told.Asked a.oid a.ask a.at a.answer) (λ z. z))
      taken r (Ending e) = is_full n r.notes _ e.notes (not_more n e.of.number told.End (note m e.of.number (told.Committed (snapshot_or m e.of.snapshot)) ∷ []) (λ z. z) (not_one n e.of.number (told.Committed (snapshot_or m e.of.snapshot)) (λ z. z)))
      taken r (EndingLater e) = is_full n r.notes _ e.notes (not_one n _ told.End (λ z. z))
      taken r (Dropping d) = is_full n r.notes _ d.notes (not_one n _ told.Dropped (λ z. z))
      taken r (Beginning b) = none_full n r.notes b.notes

      pub full_or : (r : Moved m) (turn : Turned m c r) → NotFull m n r.notes ⊎ IsFull n (ended_by m c r turn)
      full_or r (Idles s same notes) = inl (none_full n r.notes notes)
      full_or r (Works w end has (On s notes v at same on)) = inl (none_full n r.notes notes)
      full_or r (Works w end has (Quits s e q)) = quit w end r.notes has q
      full_or r (Works w end has (Closes s e i what notes z)) = inl (is_full n r.notes _ notes (not_one n _ what (close w end what has i z)))
      full_or r (Works w end has (Asks a)) = inl (is_full n r.notes _ a.notes (not_one n _ (told.Asked a.oid a.ask a.tail a.answer) (λ z. z)))
      full_or r (Works w end has (Marks' x)) = inl (is_full n r.notes _ x.notes (not_more n (c.begun + 1) told.Begin (note m (c.begun + 1) (told.Put directory (m.mark_op x.oid x.mark)) ∷ note m (c.begun + 1) told.End ∷ []) (λ z. z) (not_more n (c.begun + 1) (told.Put directory (m.mark_op x.oid x.mark)) (note m (c.begun + 1) told.End ∷ []) (λ z. z) (not_one n (c.begun + 1) told.End (λ z. z)))))
      full_or r (Takes x (Refuses why is e)) = inl (is_full n r.notes _ (ap (λ (y : Moved m). y.notes) e) (not_one n _ (told.Refused why) (fine_full why (refused_full (refusal m c x) why (fine_refusal m c x) is))))
      full_or r (Takes x (Takes' free fine t)) = inl (taken r t)

    -- It stays so.

    same_purpose : (a b : Append) (y z : Purpose m) → Appending a y ≡ Appending b z → y ≡ z
    same_purpose a b y z e = cc

    decides_is : (x : CommandOf m) (p : ℕ) (what : WhatOf m) → IsEnd m x → DecidesOf m x p (Decides what) → OfRecord m p what
    decides_is cmd.End p what e h = h
    decides_is x p what e h = absurd e

    module _ (awaits : Awaits c) where
      onward : (w0 : Work m) (end : Option AppendEnd) (v : Work m) → c.work ≡ Some w0 → IsEnd m w0.command → Onward m c w0 end v → (a : Append) (what : WhatOf m) → task_in m v.hand ≡ Appending a (Decides what) → (p : ℕ) × OfRecord m p what
      onward w0 end v has e (Same' b b' y x z f at) a what is = awaits w0 has e b what (x ∙ ap (λ (s : Purpose m). Appending b s) (same_purpose b' a y (Decides what) (sym z ∙ is)))
      onward w0 end v has e (Walks i j z at) a what is = idle_holds m (task_in m v.hand) a (Decides what) j is
      onward w0 end v has e (Lands b p page x f at i z) a what is = idle_holds m (task_in m v.hand) a (Decides what) i is
      onward w0 end v has e (Begins b y i z body other of s at) a what is =
          (w0.at, decides_is w0.command w0.at what e (subst (DecidesOf m w0.command w0.at) (same_purpose b a y (Decides what) (sym z ∙ is)) of))

      no_decides : (b : Bool) (y : Purpose m) (what : WhatOf m) → y ≡ (if b then Writes else Judged) → y ≡ Decides what → ⊥
      no_decides true y what e f = cc
      no_decides false y what e f = cc

      given : (d : Client m) (v : Work m) → d.work ≡ Some v → (IsEnd m v.command → (a : Append) (what : WhatOf m) → task_in m v.hand ≡ Appending a (Decides what) → (p : ℕ) × OfRecord m p what) → Awaits d
      given d v is f w has e a what at = f (subst (λ (z : Work m). IsEnd m z.command) (same_some w v (sym has ∙ is)) e) a what (subst (λ (z : Work m). task_in m z.hand ≡ Appending a (Decides what)) (same_some w v (sym has ∙ is)) at)

      idle : (d : Client m) → d.work ≡ None → Awaits d
      idle d none w has = no_some w (sym none ∙ has)

      taken_awaits : {x : _} (r : Moved m) → Taking m c x r → Awaits r.now
      taken_awaits r (Nothing s e z) = idle r.now e
      taken_awaits r (Opening p) = idle r.now p.work
      taken_awaits r (Putting p) = idle r.now p.work
      taken_awaits r (Answering a) = idle r.now a.work
      taken_awaits r (Ending e) = idle r.now e.work
      taken_awaits r (EndingLater e) = given r.now e.work e.works (λ end a what is. absurd (no_decides (length e.of.reads == 0) _ what refl (same_purpose e.append a _ (Decides what) (sym e.appends ∙ is))))
      taken_awaits r (Dropping d) = idle r.now d.work
      taken_awaits r (Beginning b) = given r.now b.work b.works (λ end a what is. idle_holds m (task_in m b.work.hand) a (Decides what) b.idle is)

      pub awaits_turned : (r : Moved m) → Turned m c r → Awaits r.now
      awaits_turned r (Idles s same notes) = λ w has. awaits w (sym same ∙ has)
      awaits_turned r (Works w end has (On s notes v at same on)) = given r.now v at (λ e. onward w end v has (subst (IsEnd m) same e) on)
      awaits_turned r (Works w end has (Quits s e q)) = idle r.now e
      awaits_turned r (Works w end has (Closes s e i what notes z)) = idle r.now e
      awaits_turned r (Works w end has (Asks a)) = idle r.now a.idle
      awaits_turned r (Works w end has (Marks' x)) = given r.now x.work x.works (λ e. absurd (subst (IsEnd m) (x.same ∙ x.command) e))
      awaits_turned r (Takes x (Refuses why is e)) = subst (λ (y : Moved m). Awaits y.now) (sym e) awaits
      awaits_turned r (Takes x (Takes' free fine t)) = taken_awaits r t
