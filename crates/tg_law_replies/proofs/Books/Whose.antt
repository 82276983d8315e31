-- Whose record each reply speaks of.
use Rattle.std.proofs.Common.{◌≡◌, ◌⊎◌, ℕ, ◌<◌, List, ◌∷◌, ◌++◌, true, refl, sym, ap, ◌∙◌, subst, inl, inr, arith, Option, Some, None}
use Rattle.tg_base.specs.Clusters.{Header}
use Rattle.tg_entry.specs.declared.entry.Entry.{Entry}
use Rattle.tg_kind.specs.Meaning.{Meaning}
use Rattle.tg_model.specs.declared.refusal.Refusal.TheVariants as cause
use Rattle.tg_model.specs.declared.trace.What.TheVariants as told
use Rattle.tg_model.specs.Kinds.{NoteOf, WhatOf}
use Rattle.tg_model.specs.Traces.{Tells}
use Rattle.tg_protocol.specs.Entries.{body_commits, is_commit}
use Rattle.tg_entry.specs.Records.{linked}
use Rattle.tg_protocol.specs.Appending.{Append, At, Forgotten}
use Rattle.tg_protocol.specs.Views.{Entries}
use Rattle.tg_protocol.specs.Transactions.{Tx, commit_record}
use Rattle.tg_protocol.specs.Clients.{Purpose, Writes, Judged, Marks, Client, tx_number}
use Rattle.tg_protocol.specs.Answers.{note}
use Rattle.tg_protocol.specs.ClientSteps.{task_in, snapshot_or}
use Rattle.tg_protocol.specs.Worlds.{World, start, client, happens, trace}
use Rattle.tg_protocol.specs.Runs.{Moves, Takes, run}
use Rattle.tg_protocol.specs.Alike.{HasRecord}
use Rattle.tg_law_replies.specs.History.Worlds.{entries_in}
use Rattle.tg_law_replies.proofs.History.Members.{has_contained}
use Rattle.tg_law_replies.specs.Replies.Told.{HasRecordOf}
use Rattle.tg_law_replies.specs.Books.Kept.{RecordsLeft, AsksPrecede, RecordsEnd, RecordEndsSo}
use Rattle.tg_law_replies.specs.Books.Laws.{IsAskedAt, RepliesKnown, RepliesAreKnown}
use Rattle.tg_law_replies.proofs.Books.Effects.{IsRecord, OfRecord}
use Rattle.tg_law_replies.proofs.Books.Commands.{ended_by}
use Rattle.tg_law_replies.proofs.Books.Tales.{Harmless, Tale, Tells0, TellsNothing, TellsDone, TellsDropped, TellsLost, TellsWritten, TellsDecided, TellsJudged, TellsMarked, TellsMarkLost, tale}
use Rattle.tg_law_replies.proofs.Books.Turns.{no_some, same_some, BookOf, IsOfTx, DraftOf, DraftFor}
use Rattle.tg_law_replies.proofs.Books.Worlds.{compare, run_book, start_book}
use Rattle.tg_law_replies.proofs.Books.Closing.{Only, None', shut_turned}
use Rattle.tg_law_replies.proofs.Books.Records.{Begun, begun_of, on_tells, before_open, after_only}
use Rattle.tg_law_replies.proofs.Books.Told.{ToldIn, all_told}
use Rattle.tg_law_replies.proofs.Books.Landed.{HasRec, LandedTask, Landed, EndsTruly, append_in, idle_rec, ends_truly, landed_at}

module _ (m : Meaning) where
  -- what is told of the record at a position
  abbrev IsOf : ℕ → WhatOf m → Type 0
  IsOf p (told.Aborted q o part seen now) = q ≡ p
  IsOf p (told.Unsure q r) = q ≡ p
  IsOf p what = ⊥

  abbrev IsForgotten : ℕ → WhatOf m → Type 0
  IsForgotten p (told.Refused (cause.Forgotten q b)) = q ≡ p
  IsForgotten p what = ⊥

  of_record : (p q : ℕ) (what : WhatOf m) → IsOf p what → OfRecord m q what → p ≡ q
  of_record p q (told.Aborted a o part seen now) x y = sym x ∙ y
  of_record p q (told.Unsure a r) x y = sym x ∙ y
  of_record p q what x y = absurd x

  not_forgotten : (p q : ℕ) (what : WhatOf m) → IsForgotten p what → OfRecord m q what → ⊥
  not_forgotten p q (told.Committed a) x y = x
  not_forgotten p q (told.Aborted a o part seen now) x y = x
  not_forgotten p q (told.Unsure a r) x y = x
  not_forgotten p q what x y = y

  harm_of : (p : ℕ) (what : WhatOf m) → IsOf p what → Harmless m what → ⊥
  harm_of p (told.Aborted q o part seen now) x y = y
  harm_of p (told.Unsure q r) x y = y
  harm_of p what x y = x

  harm_forgotten : (p : ℕ) (what : WhatOf m) → IsForgotten p what → Harmless m what → ⊥
  harm_forgotten p (told.Refused (cause.Forgotten q b)) x y = y
  harm_forgotten p what x y = x

  abbrev IsDropped : WhatOf m → Type 0
  IsDropped told.Dropped = Unit {0}
  IsDropped what = ⊥

  commit_place : WhatOf m → ℕ
  commit_place (told.Committed p) = p
  commit_place what = 0

  same_commit : (p q : ℕ) → ◌≡◌ {A = WhatOf m} (told.Committed p) (told.Committed q) → p ≡ q
  unfolding commit_place
  same_commit p q e = ap commit_place e

  harm_dropped : (what : WhatOf m) → IsDropped what → Harmless m what → ⊥
  harm_dropped told.Dropped x y = y
  harm_dropped what x y = x

  not_dropped : (q : ℕ) (what : WhatOf m) → IsDropped what → OfRecord m q what → ⊥
  not_dropped q told.Dropped x y = y
  not_dropped q what x y = x

  module _ (h : Header) (ms : Moves m) (left : RecordsLeft m h ms (run m ms (start m h))) (asks : AsksPrecede m (run m ms (start m h))) (ends : RecordsEnd m h ms (run m ms (start m h))) where
    abbrev end : World m
    end = run m ms (start m h)

    abbrev AskedThere : ℕ → ℕ → ℕ → Type 0
    AskedThere k x p = IsAskedAt m end k x p

    abbrev es : Entries
    es = entries_in m end

    abbrev at : Moves m → World m
    at xs = run m xs (start m h)

    -- a reply, where it was given
    given : (k x : ℕ) (what : WhatOf m) → Tells m (trace m end) k x what → ToldIn m h ms k x what
    given k x what t = all_told m h ms (record { event = t.event; client = k; tx = x; what = what }) (has_contained (trace m end) (record { event = t.event; client = k; tx = x; what = what }) t.here)

    module _ (k x : ℕ) (what : WhatOf m) (positive : 0 < x) (t : ToldIn m h ms k x what) where
      abbrev c : Client m
      c = client m (at t.before) k

      book : BookOf m k (trace m (at t.before)) c
      book = run_book m t.before (start m h) (start_book m h) k

      landed : Landed m es k c
      landed = landed_at m h ms ends t.before (Takes t.event ∷ t.after) t.split k

      truly : EndsTruly m es k c (ended_by m c t.moved t.turn)
      truly = ends_truly m h ms ends t.before t.after t.event t.split k (ended_by m c t.moved t.turn) t.ends

      story : Tale m c (ended_by m c t.moved t.turn) t.moved t.note
      story = tale m c t.moved t.turn t.note t.here

      -- the number of the note is that of the open transaction
      open_tx : (w : WhatOf m) → t.note ≡ note m (tx_number m c.tx) w → (u : Tx) × (c.tx ≡ Some u) × (u.number ≡ x)
      open_tx w e = by c.tx refl (sym (ap (λ (n : NoteOf m). n.tx) e) ∙ t.number)
        where
          by : (o : Option Tx) → c.tx ≡ o → tx_number m o ≡ x → (u : Tx) × (c.tx ≡ Some u) × (u.number ≡ x)
          by None is z = absurd (omega (arith, z, positive))
          by (Some u) is z = (u, is, z)

      says : (n : ℕ) (w : WhatOf m) → t.note ≡ note m n w → w ≡ what
      says n w e = sym (ap (λ (i : NoteOf m). i.what) e) ∙ t.says

      number : (n : ℕ) (w : WhatOf m) → t.note ≡ note m n w → n ≡ x
      number n w e = sym (ap (λ (i : NoteOf m). i.tx) e) ∙ t.number

      rec_at : (w : WhatOf m) (p q : ℕ) → t.note ≡ note m (tx_number m c.tx) w → HasRec m es k c.tx p → q ≡ p → HasRecordOf es q k x
      rec_at w p q e has same = let u = open_tx w e in subst (λ (i : ℕ). HasRecordOf es q k i) u.2 (subst (λ (i : ℕ). HasRecordOf es i k u.0.number) (sym same) (has u.0 u.1))

      -- what is told of a record's outcome
      of_outcome : (p : ℕ) → IsOf p what → HasRecordOf es p k x
      of_outcome p is = by story
        where
          by : Tale m c (ended_by m c t.moved t.turn) t.moved t.note → HasRecordOf es p k x
          by (Tells0 z) = let n = t.number in absurd (omega (arith, z, n, positive))
          by (TellsNothing z) = absurd (harm_of p what is (subst (Harmless m) t.says z))
          by (TellsDone u has none gone notes e) = absurd (subst (IsOf p) (sym (says _ _ e)) is)
          by (TellsDropped idle gone e) = absurd (subst (IsOf p) (sym (says _ _ e)) is)
          by (TellsLost w a y q b has z rec f e) = absurd (subst (IsOf p) (sym (says _ _ e)) is)
          by (TellsWritten w a q page has z f e) = absurd (subst (IsOf p) (sym (says _ _ e)) is)
          by (TellsDecided w a what' has f z e) =
              let l = subst (LandedTask m es k c.tx w.at) z (landed w has f) in
              rec_at what' w.at p e l.0 (of_record p w.at what is (subst (OfRecord m w.at) (says _ _ e) l.1))
          by (TellsJudged w what' has f idle of e) =
              rec_at what' w.at p e (idle_rec m es k (task_in m w.hand) c.tx w.at idle (landed w has f)) (of_record p w.at what is (subst (OfRecord m w.at) (says _ _ e) of))
          by (TellsMarked w a n o j q page has z f e) = absurd (subst (IsOf p) (sym (says _ _ e)) is)
          by (TellsMarkLost w a n o j q b has z f e) = absurd (subst (IsOf p) (sym (says _ _ e)) is)

      -- a record that was forgotten stands nowhere else
      of_forgotten : (p q : ℕ) → IsForgotten p what → HasRecordOf es q k x → q ≡ p
      unfolding commit_record
      of_forgotten p q is r = by story
        where
          lost : (a : Append) (s b : ℕ) → RecordEndsSo m es a.draft (Forgotten s b) → is_commit a.draft ≡ true → a.draft.head.client ≡ k → a.draft.head.number ≡ x → s ≡ p → q ≡ p
          lost a s b so commit cl n same = so q r.entry r.here commit r.commit (r.client ∙ sym cl) (r.number ∙ sym n) ∙ same

          place : (n s b : ℕ) → t.note ≡ note m n (told.Refused (cause.Forgotten s b)) → s ≡ p
          place n s b e = subst (IsForgotten p) (sym (says n (told.Refused (cause.Forgotten s b)) e)) is

          of_tx : (y : Purpose m) (a : Append) → IsRecord m y → DraftFor m k (trace m (at t.before)) c.tx c.begun a.draft y → IsOfTx m k (trace m (at t.before)) c.tx a.draft
          of_tx Writes a z d = d
          of_tx Judged a z d = d
          of_tx y a z d = absurd z

          by : Tale m c (ended_by m c t.moved t.turn) t.moved t.note → q ≡ p
          by (Tells0 z) = let n = t.number in absurd (omega (arith, z, n, positive))
          by (TellsNothing z) = absurd (harm_forgotten p what is (subst (Harmless m) t.says z))
          by (TellsDone u has none gone notes e) = absurd (subst (IsForgotten p) (sym (says _ _ e)) is)
          by (TellsDropped idle gone e) = absurd (subst (IsForgotten p) (sym (says _ _ e)) is)
          by (TellsLost w a y s b has z rec f e) =
              let d = of_tx y a rec (subst (DraftOf m k (trace m (at t.before)) c.tx c.begun) z (book.drafts w has)) in
              let u = open_tx (told.Refused (cause.Forgotten s b)) e in
              lost a s b (truly a (Forgotten s b) (append_in m es k c w a y has z) f) (ap (λ (i : Entry). is_commit i) d.draft) (ap (λ (i : Entry). i.head.client) d.draft)
              (ap (λ (i : Entry). i.head.number) d.draft ∙ (ap (λ (i : Tx). i.number) (same_some d.of u.0 (sym d.is ∙ u.1)) ∙ u.2)) (place _ s b e)
          by (TellsWritten w a s page has z f e) = absurd (subst (IsForgotten p) (sym (says _ _ e)) is)
          by (TellsDecided w a what' has f z e) = absurd (not_forgotten p w.at what is (subst (OfRecord m w.at) (says _ _ e) (subst (LandedTask m es k c.tx w.at) z (landed w has f)).1))
          by (TellsJudged w what' has f idle of e) = absurd (not_forgotten p w.at what is (subst (OfRecord m w.at) (says _ _ e) of))
          by (TellsMarked w a n o j s page has z f e) = absurd (subst (IsForgotten p) (sym (says _ _ e)) is)
          by (TellsMarkLost w a n o j s b has z f e) =
              let d = subst (DraftOf m k (trace m (at t.before)) c.tx c.begun) z (book.drafts w has) in
              lost a s b (truly a (Forgotten s b) (append_in m es k c w a (Marks n o j) has z) f) (ap body_commits d.draft.2) d.draft.0 (d.draft.1 ∙ number n _ e) (place n s b e)

      -- a transaction that committed has its record there, or one of its asks was answered there, or it did nothing
      of_committed : (p : ℕ) → what ≡ told.Committed p → HasRecordOf es p k x ⊎ (AskedThere k x p ⊎ (p ≡ 0))
      unfolding commit_record
      of_committed p is = by story
        where
          at_is : (n q : ℕ) → t.note ≡ note m n (told.Committed q) → q ≡ p
          at_is n q e = same_commit q p (says n (told.Committed q) e ∙ is)

          placed : (a : Append) (q : ℕ) (page : List ℕ) → RecordEndsSo m es a.draft (At q page) → is_commit a.draft ≡ true → a.draft.head.client ≡ k → a.draft.head.number ≡ x → q ≡ p → HasRecordOf es p k x
          placed a q page so commit cl n same = subst (λ (i : ℕ). HasRecordOf es i k x) same (record { entry = linked a.draft (so commit).0; here = (so commit).1; commit = commit; client = cl; number = n })

          later : (s : ℕ) (u : Tx) → c.tx ≡ Some u → u.number ≡ x → u.snapshot ≡ Some s → AskedThere k x s
          later s u has number snap =
              let j = book.snap u s has snap in
              record {
                oid = j.oid;
                ask = j.ask;
                answer = j.answer;
                tells = subst (λ (i : ℕ). Tells m (trace m end) k i (told.Asked j.oid j.ask s j.answer)) number
                    (subst (λ (xs : Moves m). Tells m (trace m (at xs)) k u.number (told.Asked j.oid j.ask s j.answer)) (sym t.split) (on_tells m h t.before (Takes t.event ∷ t.after) k u.number (told.Asked j.oid j.ask s j.answer) j.tells));
              }

          done : (u : Tx) → c.tx ≡ Some u → t.note ≡ note m u.number (told.Committed (snapshot_or m u.snapshot)) → AskedThere k x p ⊎ (p ≡ 0)
          done u has e = by_snapshot u.snapshot refl (at_is u.number (snapshot_or m u.snapshot) e)
            where
              by_snapshot : (s : Option ℕ) → u.snapshot ≡ s → snapshot_or m s ≡ p → AskedThere k x p ⊎ (p ≡ 0)
              by_snapshot None snap same = inr (sym same)
              by_snapshot (Some s) snap same = inl (subst (AskedThere k x) same (later s u has (number u.number (told.Committed (snapshot_or m u.snapshot)) e) snap))

          by : Tale m c (ended_by m c t.moved t.turn) t.moved t.note → HasRecordOf es p k x ⊎ (AskedThere k x p ⊎ (p ≡ 0))
          by (Tells0 z) = let n = t.number in absurd (omega (arith, z, n, positive))
          by (TellsNothing z) = absurd (subst (Harmless m) (t.says ∙ is) z)
          by (TellsDone u has none gone notes e) = inr (done u has e)
          by (TellsDropped idle gone e) = absurd (subst (λ (i : WhatOf m). IsDropped i) (says _ _ e ∙ is) tt)
          by (TellsLost w a y q b has z rec f e) = absurd (subst (IsForgotten q) (says _ _ e ∙ is) refl)
          by (TellsWritten w a q page has z f e) =
              let d = subst (DraftOf m k (trace m (at t.before)) c.tx c.begun) z (book.drafts w has) in
              let u = open_tx (told.Committed q) e in
              inl (placed a q page (truly a (At q page) (append_in m es k c w a Writes has z) f) (ap (λ (i : Entry). is_commit i) d.draft) (ap (λ (i : Entry). i.head.client) d.draft)
              (ap (λ (i : Entry). i.head.number) d.draft ∙ (ap (λ (i : Tx). i.number) (same_some d.of u.0 (sym d.is ∙ u.1)) ∙ u.2)) (at_is _ q e))
          by (TellsDecided w a what' has f z e) =
              let l = subst (LandedTask m es k c.tx w.at) z (landed w has f) in
              inl (rec_at what' w.at p e l.0 (subst (OfRecord m w.at) (says _ _ e ∙ is) l.1))
          by (TellsJudged w what' has f idle of e) =
              inl (rec_at what' w.at p e (idle_rec m es k (task_in m w.hand) c.tx w.at idle (landed w has f)) (subst (OfRecord m w.at) (says _ _ e ∙ is) of))
          by (TellsMarked w a n o j q page has z f e) =
              let d = subst (DraftOf m k (trace m (at t.before)) c.tx c.begun) z (book.drafts w has) in
              inl (placed a q page (truly a (At q page) (append_in m es k c w a (Marks n o j) has z) f) (ap body_commits d.draft.2) d.draft.0 (d.draft.1 ∙ number n _ e) (at_is n q e))
          by (TellsMarkLost w a n o j q b has z f e) = absurd (subst (IsForgotten q) (says _ _ e ∙ is) refl)

      -- one that was dropped has none
      of_dropped : (q : ℕ) → IsDropped what → HasRecordOf es q k x → ⊥
      of_dropped q is r = by story
        where
          absent : c.work ≡ None → t.moved.now.tx ≡ None → t.note ≡ note m (tx_number m c.tx) told.Dropped → ⊥
          absent idle gone e = by (compare b.was.before b.was.after t.before t.after (Takes t.event) (sym b.was.split ∙ t.split))
            where
              u : (u : Tx) × (c.tx ≡ Some u) × (u.number ≡ x)
              u = open_tx told.Dropped e

              b : Begun m h ms left asks r.entry
              b = begun_of m h ms left asks q r.entry r.here r.commit

              number_is : r.entry.head.number ≡ u.0.number
              number_is = r.number ∙ sym u.2

              by : ((mid : Moves m) × (t.before ≡ b.was.before ++ mid)) ⊎ ((mid : Moves m) × (b.was.before ≡ t.before ++ Takes t.event ∷ mid)) → ⊥
              by (inl j) =
                  let o = before_open m h ms left asks u.0 q r.entry t.before (Takes t.event ∷ t.after) j.0 t.split (subst (λ (i : ℕ). (client m (at t.before) i).tx ≡ Some u.0) (sym r.client) u.1) r.here r.commit b number_is j.1 in
                  no_some o.held.1.0 (sym idle ∙ subst (λ (i : ℕ). (client m (at t.before) i).work ≡ Some o.held.1.0) r.client o.held.1.1)
              by (inr j) = after_only m h ms left asks t.before t.after t.event t.split r.entry u.0.number (None' m) b j.0 j.1 number_is
                  (subst (λ (i : ℕ). Only m u.0.number (None' m) (client m (happens m (at t.before) t.event) i)) (sym r.client)
                  (subst (λ (d : Client m). Only m u.0.number (None' m) d) (sym t.now) (shut_turned m k (trace m (at t.before)) c book u.0 u.1 t.moved (λ y z same. no_some y (sym gone ∙ z)) t.turn)))

          by : Tale m c (ended_by m c t.moved t.turn) t.moved t.note → ⊥
          by (Tells0 z) = let n = t.number in absurd (omega (arith, z, n, positive))
          by (TellsNothing z) = harm_dropped what is (subst (Harmless m) t.says z)
          by (TellsDone u has none gone notes e) = subst IsDropped (sym (says _ _ e)) is
          by (TellsDropped idle gone e) = absent idle gone e
          by (TellsLost w a y s b has z rec f e) = subst IsDropped (sym (says _ _ e)) is
          by (TellsWritten w a s page has z f e) = subst IsDropped (sym (says _ _ e)) is
          by (TellsDecided w a what' has f z e) = not_dropped w.at what is (subst (OfRecord m w.at) (says _ _ e) (subst (LandedTask m es k c.tx w.at) z (landed w has f)).1)
          by (TellsJudged w what' has f idle of e) = not_dropped w.at what is (subst (OfRecord m w.at) (says _ _ e) of)
          by (TellsMarked w a n o j s page has z f e) = subst IsDropped (sym (says _ _ e)) is
          by (TellsMarkLost w a n o j s b has z f e) = subst IsDropped (sym (says _ _ e)) is

    record_in : (p k x : ℕ) → HasRecord m end p k x → HasRecordOf es p k x
    record_in p k x r = record { entry = r.record_at; here = r.here; commit = r.commit; client = r.of_client; number = r.of_number }

    replies_known : RepliesKnown m end
    replies_known = record {
      aborted = λ k x p o part seen now t. of_outcome k x (told.Aborted p o part seen now) t.number (given k x (told.Aborted p o part seen now) t) p refl;
      unsure = λ k x p q t. of_outcome k x (told.Unsure p q) t.number (given k x (told.Unsure p q) t) p refl;
      committed = λ k x p t. of_committed k x (told.Committed p) t.number (given k x (told.Committed p) t) p refl;
      refused = record {
        forgotten = λ k x p n q t r. of_forgotten k x (told.Refused (cause.Forgotten p n)) t.number (given k x (told.Refused (cause.Forgotten p n)) t) p q refl (record_in q k x r);
        dropped = λ k x q t r. of_dropped k x told.Dropped t.number (given k x told.Dropped t) q tt (record_in q k x r);
      };
    }

pub replies_are_known : (m : Meaning) → RepliesAreKnown m
replies_are_known m h ms w r left asks ends = subst (λ (u : World m). RecordsLeft m h ms u → AsksPrecede m u → RecordsEnd m h ms u → RepliesKnown m u) (sym r.goes.is) (λ l a e. replies_known m h ms l a e) left asks ends
