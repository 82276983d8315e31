-- A transaction that is told to have committed has its record where the reply says, or has put nothing.
use Rattle.std.proofs.Common.{◌≡◌, ◌⊎◌, ℕ, suc, ◌<◌, ◌≤◌, List, [], ◌∷◌, ◌++◌, map, length, true, refl, sym, ap, ◌∙◌, subst, inl, inr, arith, Option, Some, None}
use Rattle.std.specs.Prelude.{◌==◌}
use Rattle.tg_base.specs.Clusters.{Header}
use Rattle.tg_base.specs.declared.ids.Oid.{Oid}
use Rattle.tg_entry.specs.declared.entry.WriteOp.{WriteOp}
use Rattle.tg_entry.specs.declared.entry.Entry.{Entry}
use Rattle.tg_entry.specs.Records.{linked}
use Rattle.tg_kind.specs.Meaning.{Meaning}
use Rattle.tg_model.specs.declared.trace.What.TheVariants as told
use Rattle.tg_model.specs.Kinds.{EventOf, NoteOf, WhatOf}
use Rattle.tg_model.specs.Traces.{Trace, puts_of}
use Rattle.tg_protocol.specs.Words.{directory, numbers}
use Rattle.tg_protocol.specs.Entries.{body_commits, is_commit}
use Rattle.tg_protocol.specs.Appending.{Append, At}
use Rattle.tg_protocol.specs.Views.{Entries}
use Rattle.tg_protocol.specs.Transactions.{Tx, commit_record}
use Rattle.tg_protocol.specs.Clients.{Writes, Marks, Client, new_client, tx_number, write_of}
use Rattle.tg_protocol.specs.Answers.{note}
use Rattle.tg_protocol.specs.ClientSteps.{task_in, called, snapshot_or}
use Rattle.tg_protocol.specs.Worlds.{World, start, client, happens, next_event, trace}
use Rattle.tg_protocol.specs.Runs.{Moves, Next, Takes, run}
use Rattle.tg_law_layouts.proofs.Moves.Lists.{at_map}
use Rattle.tg_law_replies.specs.History.Worlds.{entries_in}
use Rattle.tg_law_replies.specs.Replies.Told.{HasRecordOf}
use Rattle.tg_law_replies.proofs.Replies.Books.{mark}
use Rattle.tg_law_replies.proofs.Replies.Closed.{puts_stay}
use Rattle.tg_law_replies.specs.Books.Kept.{RecordsEnd, RecordEndsSo}
use Rattle.tg_law_replies.proofs.Books.Effects.{OfRecord}
use Rattle.tg_law_replies.proofs.Books.Commands.{ended_by}
use Rattle.tg_law_replies.proofs.Books.Closing.{begun_turned}
use Rattle.tg_law_replies.proofs.Books.Tales.{Harmless, Tale, Tells0, TellsNothing, TellsDone, TellsDropped, TellsLost, TellsWritten, TellsDecided, TellsJudged, TellsMarked, TellsMarkLost, tale}
use Rattle.tg_law_replies.proofs.Books.Turns.{no_some, same_some, tells_on, BookOf, DraftOf}
use Rattle.tg_law_replies.proofs.Books.Worlds.{WorldBook, Stepped, Rests, Turns, step, run_book, start_book, step_book, run_both, run_next}
use Rattle.tg_law_replies.proofs.Books.Told.{ToldIn}
use Rattle.tg_law_replies.proofs.Books.Landed.{HasRec, LandedTask, Landed, EndsTruly, append_in, idle_rec, ends_truly, landed_at}
use Rattle.tg_law_walks.proofs.Once.Ledgers.{ledger_stays}
use Rattle.tg_law_walks.proofs.Once.Owning.{Kept, kept_turned}
use Rattle.tg_law_walks.proofs.Once.Quieting.{cons_plain, one_plain, are_plain, marks_alone}
use Rattle.tg_law_syncs.proofs.Follow.Shut.{Shut, Adds, adds_run}

module _ (m : Meaning) where
  commit_place : WhatOf m → ℕ
  commit_place (told.Committed p) = p
  commit_place what = 0

  same_commit : (p q : ℕ) → ◌≡◌ {A = WhatOf m} (told.Committed p) (told.Committed q) → p ≡ q
  unfolding commit_place
  same_commit p q e = ap commit_place e

  abbrev IsDropped : WhatOf m → Type 0
  IsDropped told.Dropped = Unit {0}
  IsDropped what = ⊥

  abbrev IsRefused : WhatOf m → Type 0
  IsRefused (told.Refused why) = Unit {0}
  IsRefused what = ⊥

  none_of : (ws : List WriteOp) → (length ws == 0) ≡ true → ws ≡ []
  none_of [] e = refl
  none_of (w ∷ ws) e = absurd (some (length ws) e)
    where
      some : (n : ℕ) → (suc n == 0) ≡ true → ⊥
      some n z = grind arith

  -- What open transactions have put, along a run.

  module _ (k : ℕ) where
    kept_stepped : (e : EventOf m) (w v : World m) → WorldBook m w → Stepped m k e w v → Kept m (trace m w) k (client m w k) → Kept m (trace m v) k (client m v k)
    kept_stepped e w v h (Rests c ys t alone) l = subst (λ (tr : Trace m). Kept m tr k (client m v k)) (sym t) (subst (Kept m (trace m w ++ ys) k) (sym c) (record {
      open' = λ t is. ledger_stays m k t.number (trace m w) ys t.reads t.writes (λ u i at number. absurd (alone u i at)) (l.open' t is);
      marks = λ a n o j v has at. let x = l.marks a n o j v has at in
          (ledger_stays m k n (trace m w) ys [] (write_of m directory (m.mark_op o j) ∷ []) (λ u i at number. absurd (alone u i at)) x.0, tells_on m (trace m w) ys k n told.End x.1);
    }))
    kept_stepped e w v h (Turns r t f g c traced) l = subst (λ (tr : Trace m). Kept m tr k (client m v k)) (sym traced)
        (subst (Kept m (trace m w ++ map (mark m w.event k) r.notes) k) (sym c) (called_kept (kept_turned m k w.event (trace m w) (client m w k) (h k) l r t)))
      where
        called_kept : Kept m (trace m w ++ map (mark m w.event k) r.notes) k r.now → Kept m (trace m w ++ map (mark m w.event k) r.notes) k (called m r.now)
        called_kept x = record { open' = x.open'; marks = x.marks }

    kept_run : (ms : Moves m) (w : World m) → WorldBook m w → Kept m (trace m w) k (client m w k) → Kept m (trace m (run m ms w)) k (client m (run m ms w) k)
    unfolding run
    kept_run [] w h l = l
    kept_run (Next ∷ ms) w h l = kept_run ms (next_event m w) h l
    kept_run (Takes e ∷ ms) w h l = kept_run ms (happens m w e) (step_book m w e h) (kept_stepped e w (happens m w e) h (step m w e h k) l)

  new_kept : (h : Header) (k j : ℕ) → Kept m [] k (new_client m h j)
  unfolding new_client
  new_kept h k j = record { open' = λ t is. absurd (no_some t is); marks = λ a n o i v has at. absurd (no_some v has) }

  start_kept : (h : Header) (k : ℕ) → Kept m (trace m (start m h)) k (client m (start m h) k)
  unfolding start
  start_kept h k = at_map (new_client m h) (numbers h.clients 0) k (new_client m h k) (λ (x : Client m). Kept m [] k x) (new_kept h k) (new_kept h k k)

  none_put : (us : List (Oid × m.op)) → map (λ (u : Oid × m.op). write_of m u.0 u.1) us ≡ [] → us ≡ []
  none_put [] e = refl
  none_put (u ∷ us) e = absurd (differ (write_of m u.0 u.1) (map (λ (u : Oid × m.op). write_of m u.0 u.1) us) e)
    where
      differ : (w : WriteOp) (ws : List WriteOp) → w ∷ ws ≡ [] → ⊥
      differ w ws z = cc

  module _ (h : Header) (ms : Moves m) (ends : RecordsEnd m h ms (run m ms (start m h))) where
    abbrev end : World m
    end = run m ms (start m h)

    abbrev es : Entries
    es = entries_in m end

    abbrev at : Moves m → World m
    at xs = run m xs (start m h)

    module _ (k x p : ℕ) (positive : 0 < x) (t : ToldIn m h ms k x (told.Committed p)) where
      abbrev v : World m
      v = at t.before

      abbrev c : Client m
      c = client m v k

      books : WorldBook m v
      books = run_book m t.before (start m h) (start_book m h)

      book : BookOf m k (trace m v) c
      book = books k

      landed : Landed m es k c
      landed = landed_at m h ms ends t.before (Takes t.event ∷ t.after) t.split k

      truly : EndsTruly m es k c (ended_by m c t.moved t.turn)
      truly = ends_truly m h ms ends t.before t.after t.event t.split k (ended_by m c t.moved t.turn) t.ends

      -- the number of the note is that of the open transaction
      open_tx : (w : WhatOf m) → t.note ≡ note m (tx_number m c.tx) w → (u : Tx) × (c.tx ≡ Some u) × (u.number ≡ x)
      open_tx w e = by c.tx refl (sym (ap (λ (n : NoteOf m). n.tx) e) ∙ t.number)
        where
          by : (o : Option Tx) → c.tx ≡ o → tx_number m o ≡ x → (u : Tx) × (c.tx ≡ Some u) × (u.number ≡ x)
          by None is z = absurd (omega (arith, z, positive))
          by (Some u) is z = (u, is, z)

      says : (n : ℕ) (w : WhatOf m) → t.note ≡ note m n w → w ≡ told.Committed p
      says n w e = sym (ap (λ (i : NoteOf m). i.what) e) ∙ t.says

      number : (n : ℕ) (w : WhatOf m) → t.note ≡ note m n w → n ≡ x
      number n w e = sym (ap (λ (i : NoteOf m). i.tx) e) ∙ t.number

      at_is : (n q : ℕ) → t.note ≡ note m n (told.Committed q) → q ≡ p
      at_is n q e = same_commit q p (says n (told.Committed q) e)

      rec_at : (w : WhatOf m) (q : ℕ) → t.note ≡ note m (tx_number m c.tx) w → HasRec m es k c.tx q → p ≡ q → HasRecordOf es p k x
      rec_at w q e has same = let u = open_tx w e in subst (λ (i : ℕ). HasRecordOf es p k i) u.2 (subst (λ (i : ℕ). HasRecordOf es i k u.0.number) (sym same) (has u.0 u.1))

      placed : (a : Append) (q : ℕ) (page : List ℕ) → RecordEndsSo m es a.draft (At q page) → is_commit a.draft ≡ true → a.draft.head.client ≡ k → a.draft.head.number ≡ x → q ≡ p → HasRecordOf es p k x
      placed a q page so commit cl n same = subst (λ (i : ℕ). HasRecordOf es i k x) same (record { entry = linked a.draft (so commit).0; here = (so commit).1; commit = commit; client = cl; number = n })

      -- an end of what has put nothing
      module _ (u : Tx) (has : c.tx ≡ Some u) (none : (length u.writes == 0) ≡ true) (gone : t.moved.now.tx ≡ None) (notes : t.moved.notes ≡ note m u.number told.End ∷ note m u.number (told.Committed (snapshot_or m u.snapshot)) ∷ []) where
        abbrev v1 : World m
        v1 = happens m v t.event

        kept : Kept m (trace m v) k c
        kept = kept_run k t.before (start m h) (start_book m h) (start_kept h k)

        before : puts_of m (trace m v) k u.number ≡ []
        before = none_put (puts_of m (trace m v) k u.number) (sym (kept.open' u has).writes ∙ none_of u.writes none)

        here : puts_of m (trace m v1) k u.number ≡ puts_of m (trace m v) k u.number
        here = ap (λ (tr : Trace m). puts_of m tr k u.number) t.traced
            ∙ puts_stay m [] [] k u.number (trace m v) (map (mark m v.event k) t.moved.notes) (marks_alone m k v.event u.number t.moved.notes
            (are_plain m u.number t.moved.notes _ notes (cons_plain m u.number (note m u.number told.End) (note m u.number (told.Committed (snapshot_or m u.snapshot)) ∷ []) (λ z. tt)
            (one_plain m u.number (note m u.number (told.Committed (snapshot_or m u.snapshot))) (λ z. tt)))))

        shut : Shut m u.number (client m v1 k)
        shut = subst (Shut m u.number) (sym t.now) (shut_now (let a = (book.number u has).1 in let b = begun_turned m c t.moved t.turn in omega (arith, a, b)))
          where
            shut_now : u.number ≤ t.moved.now.begun → Shut m u.number (called m t.moved.now)
            shut_now le = (le, λ y is same. no_some y (sym gone ∙ is))

        module _ (more : Moves m) where
          after : Adds m k u.number (book.number u has).0 v1 (run m (t.after ++ more) v1)
          after = adds_run m k u.number (book.number u has).0 (t.after ++ more) v1 (step_book m v t.event books) shut

          later : run m more end ≡ run m (t.after ++ more) v1
          later = ap (λ (ms : Moves m). run m more (at ms)) t.split ∙ (ap (run m more) (run_both m t.before (Takes t.event ∷ t.after) (start m h) ∙ run_next m t.event t.after v) ∙ sym (run_both m t.after more v1))

          nothing_put : puts_of m (trace m (run m more end)) k u.number ≡ []
          nothing_put = ap (λ (w : World m). puts_of m (trace m w) k u.number) later ∙ (ap (λ (tr : Trace m). puts_of m tr k u.number) after.traced ∙ (puts_stay m [] [] k u.number (trace m v1) after.more after.alone ∙ (here ∙ before)))

      -- what has put nothing puts nothing later
      pub committed_for_good : (more : Moves m) → HasRecordOf es p k x ⊎ (puts_of m (trace m (run m more end)) k x ≡ [])
      unfolding commit_record
      committed_for_good more = by (tale m c t.moved t.turn t.note t.here)
        where
          by : Tale m c (ended_by m c t.moved t.turn) t.moved t.note → HasRecordOf es p k x ⊎ (puts_of m (trace m (run m more end)) k x ≡ [])
          by (Tells0 z) = let n = t.number in absurd (omega (arith, z, n, positive))
          by (TellsNothing z) = absurd (subst (Harmless m) t.says z)
          by (TellsDone u has none gone notes e) = inr (subst (λ (i : ℕ). puts_of m (trace m (run m more end)) k i ≡ []) (number u.number _ e) (nothing_put u has none gone notes more))
          by (TellsDropped idle gone e) = absurd (subst (λ (i : WhatOf m). IsDropped i) (says _ _ e) tt)
          by (TellsLost w a y q b has z rec f e) = absurd (subst (λ (i : WhatOf m). IsRefused i) (says _ _ e) tt)
          by (TellsWritten w a q page has z f e) =
              let d = subst (DraftOf m k (trace m v) c.tx c.begun) z (book.drafts w has) in
              let u = open_tx (told.Committed q) e in
              inl (placed a q page (truly a (At q page) (append_in m es k c w a Writes has z) f) (ap (λ (i : Entry). is_commit i) d.draft) (ap (λ (i : Entry). i.head.client) d.draft)
              (ap (λ (i : Entry). i.head.number) d.draft ∙ (ap (λ (i : Tx). i.number) (same_some d.of u.0 (sym d.is ∙ u.1)) ∙ u.2)) (at_is _ q e))
          by (TellsDecided w a what' has f z e) =
              let l = subst (LandedTask m es k c.tx w.at) z (landed w has f) in
              inl (rec_at what' w.at e l.0 (subst (OfRecord m w.at) (says _ _ e) l.1))
          by (TellsJudged w what' has f idle of e) =
              inl (rec_at what' w.at e (idle_rec m es k (task_in m w.hand) c.tx w.at idle (landed w has f)) (subst (OfRecord m w.at) (says _ _ e) of))
          by (TellsMarked w a n o j q page has z f e) =
              let d = subst (DraftOf m k (trace m v) c.tx c.begun) z (book.drafts w has) in
              inl (placed a q page (truly a (At q page) (append_in m es k c w a (Marks n o j) has z) f) (ap body_commits d.draft.2) d.draft.0 (d.draft.1 ∙ number n _ e) (at_is n q e))
          by (TellsMarkLost w a n o j q b has z f e) = absurd (subst (λ (i : WhatOf m). IsRefused i) (says _ _ e) tt)

      pub of_committed : HasRecordOf es p k x ⊎ (puts_of m (trace m end) k x ≡ [])
      unfolding run
      of_committed = committed_for_good []
