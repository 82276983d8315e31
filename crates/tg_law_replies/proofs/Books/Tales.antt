-- What a turn of a client tells of a transaction.
use Rattle.std.proofs.Common.{◌≡◌, ℕ, ◌+◌, List, [], ◌∷◌, length, Bool, true, false, sym, ap, ◌∙◌, subst, inl, inr, Option, Some, None}
use Rattle.std.specs.Prelude.{◌==◌}
use Rattle.tg_base.specs.declared.ids.Oid.{Oid}
use Rattle.tg_proj.specs.declared.fault.ProjFault.{ProjFault}
use Rattle.tg_proj.specs.declared.fault.ProjFault.TheVariants as layout
use Rattle.tg_kind.specs.Meaning.{Meaning}
use Rattle.tg_model.specs.declared.command.Command.TheVariants as cmd
use Rattle.tg_model.specs.declared.refusal.Refusal.{Refusal}
use Rattle.tg_model.specs.declared.refusal.Refusal.TheVariants as cause
use Rattle.tg_model.specs.declared.trace.What.TheVariants as told
use Rattle.tg_model.specs.Kinds.{CommandOf, WhatOf, NoteOf}
use Rattle.tg_protocol.specs.Words.{first_some, where_true}
use Rattle.tg_protocol.specs.Appending.{Append, AppendEnd, At, Forgotten}
use Rattle.tg_base.specs.declared.marks.Part.{Part}
use Rattle.tg_entry.specs.declared.entry.WriteOp.{WriteOp}
use Rattle.tg_protocol.specs.Transactions.{Tx, TxFault, read_fault, write_fault}
use Rattle.tg_protocol.specs.Transactions as tx
use Rattle.tg_protocol.specs.Clients.{Purpose, Writes, Decides, Marks, Appending, Work, Client, tx_number, number_on, by_layout, by_tx, busy, put_fault, ask_fault, copy_fault, tests, refusal, write_of}
use Rattle.tg_protocol.specs.Answers.{Moved, note, mark_notes}
use Rattle.tg_protocol.specs.ClientSteps.{task_in, snapshot_or}
use Rattle.tg_law_replies.proofs.History.Members.{Has}
use Rattle.tg_law_replies.proofs.Books.Effects.{IsEnd, Idle, IsRecord, OfRecord, NotForgotten, AllZero, Quit, Zeros, AskFails, Filled, Marked, MarkFilled, MarkLost, Close, Lost, Written, Decided, Told, Effect, On, Quits, Closes, Asks, Marks'}
use Rattle.tg_law_replies.proofs.Books.Commands.{Refuses, Takes', Taking, Nothing, Opening, Putting, Answering, Ending, EndingLater, Dropping, Beginning, Turned, Idles, Works, Takes, ended_by}

module _ (m : Meaning) where
  -- none of a record, nor that a transaction was dropped
  abbrev pub Harmless : WhatOf m → Type 0
  Harmless (told.Committed p) = ⊥
  Harmless (told.Aborted p o part seen now) = ⊥
  Harmless (told.Unsure p q) = ⊥
  Harmless told.Dropped = ⊥
  Harmless (told.Refused (cause.Forgotten p b)) = ⊥
  Harmless what = Unit {0}

  -- Refusals before any work.

  abbrev pub Fine : Option Refusal → Type 0
  Fine None = Unit {0}
  Fine (Some why) = NotForgotten m why

  abbrev AllFine : List (Option Refusal) → Type 0
  AllFine [] = Unit {0}
  AllFine (x ∷ xs) = Fine x × AllFine xs

  fine_first : (xs : List (Option Refusal)) → AllFine xs → Fine (first_some xs)
  fine_first [] h = tt
  fine_first (None ∷ xs) h = fine_first xs h.1
  fine_first (Some why ∷ xs) h = h.0

  fine_where : (b : Bool) (why : Refusal) → NotForgotten m why → Fine (where_true b why)
  fine_where true why h = h
  fine_where false why h = tt

  fine_layout : (f : Option ProjFault) → Fine (by_layout m f)
  fine_layout None = tt
  fine_layout (Some (layout.TooMany x)) = tt
  fine_layout (Some (layout.NotClosed r)) = tt
  fine_layout (Some (layout.NoStripe r s)) = tt
  fine_layout (Some (layout.InChain u)) = tt
  fine_layout (Some (layout.Returned u)) = tt
  fine_layout (Some (layout.NoReplica r s)) = tt
  fine_layout (Some (layout.NotAcked u)) = tt

  fine_tx : (f : Option TxFault) → Fine (by_tx m f)
  fine_tx None = tt
  fine_tx (Some (tx.TooMany x)) = tt
  fine_tx (Some (tx.TooLarge n)) = tt

  fine_put : (t : Option Tx) (w : WriteOp) → Fine (put_fault m t w)
  fine_put None w = tt
  fine_put (Some t) w = fine_tx (write_fault t w)

  fine_ask : (t : Option Tx) (o : Oid) (k : Part) → Fine (ask_fault m t o k)
  fine_ask None o k = tt
  fine_ask (Some t) o k = fine_tx (read_fault t o k)

  fine_tests : (c : Client m) (x : CommandOf m) → AllFine (tests m c x)
  unfolding tests copy_fault
  fine_tests c (cmd.Host o) = (fine_where _ _ tt, (fine_where _ _ tt, (fine_where _ _ tt, tt)))
  fine_tests c cmd.Begin = (fine_where _ _ tt, tt)
  fine_tests c (cmd.Put o op) = (fine_where _ _ tt, (fine_where _ _ tt, (fine_where _ _ tt, (fine_put c.tx (write_of m o op), tt))))
  fine_tests c (cmd.Ask o q) = (fine_where _ _ tt, (fine_where _ _ tt, (fine_where _ _ tt, (fine_ask c.tx o (m.look q), tt))))
  fine_tests c cmd.End = (fine_where _ _ tt, tt)
  fine_tests c cmd.Drop = (fine_where _ _ tt, tt)
  fine_tests c (cmd.Fate p) = (fine_where _ _ tt, tt)
  fine_tests c (cmd.Decide p) = (fine_where _ _ tt, tt)
  fine_tests c (cmd.Checkpoint o) = (fine_where _ _ tt, (fine_where _ _ tt, tt))
  fine_tests c (cmd.Forget o n) = (fine_where _ _ tt, (fine_where _ _ tt, tt))
  fine_tests c cmd.Trim = (fine_where _ _ tt, tt)
  fine_tests c (cmd.Reconf x) = (fine_where _ _ tt, (fine_layout _, tt))
  fine_tests c (cmd.Copy u r s) = (fine_where _ _ tt, (fine_layout _, tt))
  fine_tests c (cmd.AskAt p o q) = (fine_where _ _ tt, (fine_where _ _ tt, (fine_where _ _ tt, tt)))
  fine_tests c (cmd.Rescue p) = (fine_where _ _ tt, tt)

  fine_busy : (w : Option (Work m)) → Fine (busy m w)
  fine_busy None = tt
  fine_busy (Some w) = tt

  pub fine_refusal : (c : Client m) (x : CommandOf m) → Fine (refusal m c x)
  unfolding refusal
  fine_refusal c x = fine_first (busy m c.work ∷ tests m c x) (fine_busy c.work, fine_tests c x)

  harmless_refusal : (why : Refusal) → NotForgotten m why → Harmless (told.Refused why)
  harmless_refusal (cause.Forgotten p b) h = h
  harmless_refusal why h = tt

  -- What a note with the number of a transaction tells.

  module _ (c : Client m) (end : Option AppendEnd) (r : Moved m) where
    pub data Tale (n : NoteOf m) : Type 0 where
      Tells0 : n.tx ≡ 0 → Tale n
      TellsNothing : Harmless n.what → Tale n
      TellsDone : (of : Tx) → c.tx ≡ Some of → (length of.writes == 0) ≡ true → r.now.tx ≡ None → r.notes ≡ note m of.number told.End ∷ note m of.number (told.Committed (snapshot_or m of.snapshot)) ∷ [] → n ≡ note m of.number (told.Committed (snapshot_or m of.snapshot)) → Tale n
      TellsDropped : c.work ≡ None → r.now.tx ≡ None → n ≡ note m (tx_number m c.tx) told.Dropped → Tale n
      TellsLost : (w : Work m) (a : Append) (y : Purpose m) (p b : ℕ) → c.work ≡ Some w → task_in m w.hand ≡ Appending a y → IsRecord m y → end ≡ Some (Forgotten p b) → n ≡ note m (tx_number m c.tx) (told.Refused (cause.Forgotten p b)) → Tale n
      TellsWritten : (w : Work m) (a : Append) (p : ℕ) (page : List ℕ) → c.work ≡ Some w → task_in m w.hand ≡ Appending a Writes → end ≡ Some (At p page) → n ≡ note m (tx_number m c.tx) (told.Committed p) → Tale n
      TellsDecided : (w : Work m) (a : Append) (what : WhatOf m) → c.work ≡ Some w → IsEnd m w.command → task_in m w.hand ≡ Appending a (Decides what) → n ≡ note m (tx_number m c.tx) what → Tale n
      TellsJudged : (w : Work m) (what : WhatOf m) → c.work ≡ Some w → IsEnd m w.command → Idle m (task_in m w.hand) → OfRecord m w.at what → n ≡ note m (tx_number m c.tx) what → Tale n
      TellsMarked : (w : Work m) (a : Append) (x : ℕ) (o : Oid) (j p : ℕ) (page : List ℕ) → c.work ≡ Some w → task_in m w.hand ≡ Appending a (Marks x o j) → end ≡ Some (At p page) → n ≡ note m x (told.Committed p) → Tale n
      TellsMarkLost : (w : Work m) (a : Append) (x : ℕ) (o : Oid) (j p b : ℕ) → c.work ≡ Some w → task_in m w.hand ≡ Appending a (Marks x o j) → end ≡ Some (Forgotten p b) → n ≡ note m x (told.Refused (cause.Forgotten p b)) → Tale n

    harmless : (n : NoteOf m) (x : ℕ) (what : WhatOf m) → n ≡ note m x what → Harmless what → Tale n
    harmless n x what e h = TellsNothing (subst (λ (k : NoteOf m). Harmless k.what) (sym e) h)

    one : (n k : NoteOf m) (ns : List (NoteOf m)) → ns ≡ k ∷ [] → Has ns n → n ≡ k
    one n k ns e i = by (subst (λ (xs : List (NoteOf m)). Has xs n) e i)
      where
        by : Has (k ∷ []) n → n ≡ k
        by (inl z) = z
        by (inr z) = absurd z

    zeros : (ns : List (NoteOf m)) (n : NoteOf m) → AllZero m ns → Has ns n → Tale n
    zeros [] n z i = absurd i
    zeros (k ∷ ns) n z (inl e) = Tells0 (ap (λ (x : NoteOf m). x.tx) e ∙ z.0)
    zeros (k ∷ ns) n z (inr i) = zeros ns n z.1 i

    none : (ns : List (NoteOf m)) (n : NoteOf m) → ns ≡ [] → Has ns n → Tale n
    none ns n e i = absurd (subst (λ (xs : List (NoteOf m)). Has xs n) e i)

    quit_tale : (w : Work m) (ns : List (NoteOf m)) (n : NoteOf m) → c.work ≡ Some w → Quit m c w end ns → Has ns n → Tale n
    quit_tale w ns n has (Zeros other z) i = zeros ns n z i
    quit_tale w ns n has (AskFails why is z) (inl e) = harmless n _ (told.Refused why) e (harmless_refusal why z)
    quit_tale w ns n has (AskFails why is z) (inr i) = absurd i
    quit_tale w ns n has (Filled a y l is z f) (inl e) = harmless n _ (told.Refused (cause.LogFull l)) e tt
    quit_tale w ns n has (Filled a y l is z f) (inr i) = absurd i
    quit_tale w ns n has (Marked a x o j p page is e) (inl z) = TellsMarked w a x o j p page has is e z
    quit_tale w ns n has (Marked a x o j p page is e) (inr (inl z)) = Tells0 (ap (λ (y : NoteOf m). y.tx) z)
    quit_tale w ns n has (Marked a x o j p page is e) (inr (inr i)) = absurd i
    quit_tale w ns n has (MarkFilled a x o j l is f) (inl e) = harmless n x (told.Refused (cause.LogFull l)) e tt
    quit_tale w ns n has (MarkFilled a x o j l is f) (inr i) = absurd i
    quit_tale w ns n has (MarkLost a x o j p b is e) (inl z) = TellsMarkLost w a x o j p b has is e z
    quit_tale w ns n has (MarkLost a x o j p b is e) (inr i) = absurd i

    close_tale : (w : Work m) (what : WhatOf m) (n : NoteOf m) → c.work ≡ Some w → IsEnd m w.command → n ≡ note m (tx_number m c.tx) what → Close m c w end what → Tale n
    close_tale w what n has e z (Lost a y p b is rec k) = TellsLost w a y p b has is rec k z
    close_tale w what n has e z (Written a p page is k) = TellsWritten w a p page has is k z
    close_tale w what n has e z (Decided a what' is) = TellsDecided w a what has e is z
    close_tale w what n has e z (Told what' idle of) = TellsJudged w what has e idle of z

    marks_tale : (x : ℕ) (o : Oid) (j : ℕ) (n : NoteOf m) → Has (mark_notes m x o j) n → Tale n
    marks_tale x o j n (inl e) = harmless n x told.Begin e tt
    marks_tale x o j n (inr (inl e)) = harmless n x _ e tt
    marks_tale x o j n (inr (inr (inl e))) = harmless n x told.End e tt
    marks_tale x o j n (inr (inr (inr i))) = absurd i

    effect_tale : (w : Work m) (n : NoteOf m) → c.work ≡ Some w → Effect m c w end r → Has r.notes n → Tale n
    effect_tale w n has (On s notes v is same on) i = none r.notes n notes i
    effect_tale w n has (Quits s idle q) i = quit_tale w r.notes n has q i
    effect_tale w n has (Closes s idle e what notes z) i = close_tale w what n has e (one n _ r.notes notes i) z
    effect_tale w n has (Asks a) i = harmless n _ _ (one n _ r.notes a.notes i) tt
    effect_tale w n has (Marks' x) i = marks_tale (c.begun + 1) x.oid x.mark n (subst (λ (xs : List (NoteOf m)). Has xs n) x.notes i)

    taking_tale : (x : CommandOf m) (n : NoteOf m) → c.work ≡ None → Taking m c x r → Has r.notes n → Tale n
    taking_tale x n idle (Nothing s e z) i = zeros r.notes n z i
    taking_tale x n idle (Opening p) i = harmless n _ told.Begin (one n _ r.notes p.notes i) tt
    taking_tale x n idle (Putting p) i = harmless n _ _ (one n _ r.notes p.notes i) tt
    taking_tale x n idle (Answering a) i = harmless n _ _ (one n _ r.notes a.notes i) tt
    taking_tale x n idle (Ending e) i = by (subst (λ (xs : List (NoteOf m)). Has xs n) e.notes i)
      where
        by : Has (note m e.of.number told.End ∷ note m e.of.number (told.Committed (snapshot_or m e.of.snapshot)) ∷ []) n → Tale n
        by (inl z) = harmless n e.of.number told.End z tt
        by (inr (inl z)) = TellsDone e.of e.from e.none e.tx e.notes z
        by (inr (inr z)) = absurd z
    taking_tale x n idle (EndingLater e) i = harmless n _ told.End (one n _ r.notes e.notes i) tt
    taking_tale x n idle (Dropping d) i = TellsDropped idle d.tx (one n _ r.notes d.notes i)
    taking_tale x n idle (Beginning b) i = none r.notes n b.notes i

  pub tale : (c : Client m) (r : Moved m) (t : Turned m c r) (n : NoteOf m) → Has r.notes n → Tale c (ended_by m c r t) r n
  tale c r (Idles s same notes) n i = none c None r r.notes n notes i
  tale c r (Works w end has e) n i = effect_tale c end r w n has e i
  tale c r (Takes x (Refuses why is e)) n i = by (subst (λ (y : Moved m). Has y.notes n) e i)
    where
      by : Has (note m (number_on m c why) (told.Refused why) ∷ []) n → Tale c None r n
      by (inl z) = harmless c None r n (number_on m c why) (told.Refused why) z (harmless_refusal why (subst Fine is (fine_refusal c x)))
      by (inr z) = absurd z
  tale c r (Takes x (Takes' idle fine t)) n i = taking_tale c None r x n idle t i
