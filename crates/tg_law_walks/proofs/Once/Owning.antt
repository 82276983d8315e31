-- A commit record has the puts and the asks of a transaction that was ended.
use Rattle.std.proofs.Common.{◌≡◌, ℕ, ◌+◌, ◌<◌, List, [], ◌∷◌, ◌++◌, map, length, Bool, true, false, refl, sym, ap, ◌∙◌, subst, inl, inr, arith, Option, Some, None}
use Rattle.std.specs.Prelude.{if◌then◌else◌, ◌==◌}
use Rattle.tg_base.specs.Clusters.{Header}
use Rattle.tg_base.specs.declared.ids.Oid.{Oid}
use Rattle.tg_base.specs.declared.marks.ReadMark.{ReadMark}
use Rattle.tg_entry.specs.declared.entry.WriteOp.{WriteOp}
use Rattle.tg_entry.specs.declared.entry.Body.{Body}
use Rattle.tg_entry.specs.declared.entry.Entry.{Entry}
use Rattle.tg_kind.specs.Meaning.{Meaning}
use Rattle.tg_model.specs.declared.trace.What.TheVariants as told
use Rattle.tg_model.specs.Kinds.{MarkOf, NoteOf, EventOf}
use Rattle.tg_model.specs.Traces.{Trace, Tells}
use Rattle.tg_protocol.specs.Words.{directory, numbers}
use Rattle.tg_entry.specs.Needs.{reads_in, writes_in, reads_of, writes_of}
use Rattle.tg_protocol.specs.Entries.{is_commit}
use Rattle.tg_protocol.specs.Appending.{Append, AppendEnd}
use Rattle.tg_protocol.specs.Transactions.{Tx, open_tx, tx_put, tx_read, commit_record}
use Rattle.tg_protocol.specs.Clients.{Purpose, Writes, Judged, Decides, Rescues, Saves, Marks, Appending, Work, Client, new_client, write_of}
use Rattle.tg_protocol.specs.Answers.{Moved, note, mark_notes}
use Rattle.tg_protocol.specs.ClientSteps.{task_in}
use Rattle.tg_protocol.specs.Worlds.{World, start, client, trace, happens, next_event}
use Rattle.tg_protocol.specs.Runs.{Moves, Next, Takes as Moves', run}
use Rattle.tg_protocol.specs.Holding.{RecordsOwn}
use Rattle.tg_law_layouts.proofs.Moves.Lists.{at_map}
use Rattle.tg_law_replies.proofs.History.Members.{has_contained, contained_has, has_right}
use Rattle.tg_law_replies.proofs.Replies.Books.{mark}
use Rattle.tg_law_replies.proofs.Replies.Closed.{LeavesAlone}
use Rattle.tg_law_replies.specs.Books.Kept.{RecordsLeft, WasLeft}
use Rattle.tg_law_replies.proofs.Books.Effects.{IsEnd, IsOther, Suits, SuitsPurpose, Onward, Same', Walks, Lands, Begins, On, Quits, Closes, Asks, Marks'}
use Rattle.tg_law_replies.proofs.Books.Commands.{Refuses, Takes', Taking, Nothing, Opening, Putting, Answering, Ending, EndingLater, Dropping, Beginning, Turned, Idles, Works, Takes}
use Rattle.tg_law_replies.proofs.Books.Records.{InHand, in_hand}
use Rattle.tg_law_replies.proofs.Books.Turns.{BookOf, DraftFor, DraftOf, tells_on}
use Rattle.tg_law_replies.proofs.Books.Worlds.{regroup, WorldBook, Stepped, Rests, Turns, step, step_book, run_book, start_book, run_both}
use Rattle.tg_law_walks.proofs.Drafts.Became.{no_some, same_some}
use Rattle.tg_law_walks.proofs.Once.Ledgers.{Ledger, ledger_stays, new_ledger, put_ledger, ask_ledger}
use Rattle.tg_law_walks.proofs.Once.Quieting.{Quiet, PlainFor, nil_plain, one_plain, are_plain, cons_plain, zero_plain, quit_plain, marks_alone, awaits_run, quiet_run}
use Rattle.tg_law_cells.specs.Entries.Archive.{AlwaysBySafeTrims}
use Rattle.tg_law_walks.proofs.Once.Leaving.{records_are_left}
use Rattle.tg_law_walks.proofs.Once.Refusing.{Awaits}
use Rattle.tg_law_walks.proofs.Once.Turning.{idle_holds}

module _ (m : Meaning) where
  -- what an open transaction has, and the record of a mark that is under way
  pub record Kept (tr : Trace m) (k : ℕ) (c : Client m) : Type 0 where
    pub open' : (t : Tx) → c.tx ≡ Some t → Ledger m tr k t.number t.reads t.writes
    pub marks : (a : Append) (n : ℕ) (o : Oid) (j : ℕ) (w : Work m) → c.work ≡ Some w → task_in m w.hand ≡ Appending a (Marks n o j) → Ledger m tr k n [] (write_of m directory (m.mark_op o j) ∷ []) × Tells m tr k n told.End

  abbrev with_notes : ℕ → ℕ → Trace m → List (NoteOf m) → Trace m
  with_notes event k tr ns = tr ++ map (mark m event k) ns

  purpose_of_if : (b : Bool) (y : Purpose m) (n : ℕ) (o : Oid) (j : ℕ) → y ≡ (if b then Writes else Judged) → y ≡ Marks n o j → ⊥
  purpose_of_if true y n o j e f = cc
  purpose_of_if false y n o j e f = cc

  same_purpose : (a b : Append) (y z : Purpose m) → Appending a y ≡ Appending b z → y ≡ z
  same_purpose a b y z e = cc

  same_mark : (y : Purpose m) (n n' : ℕ) (o o' : Oid) (j j' : ℕ) → y ≡ Marks n o j → y ≡ Marks n' o' j' → (n ≡ n') × (o ≡ o') × (j ≡ j')
  same_mark y n n' o o' j j' e f = (cc, cc, cc)

  module _ (k event : ℕ) (tr : Trace m) (c : Client m) (h : BookOf m k tr c) (l : Kept tr k c) where
    abbrev noted : List (NoteOf m) → Trace m
    noted ns = with_notes event k tr ns

    -- what stays
    stays : (ns : List (NoteOf m)) (t : Tx) → c.tx ≡ Some t → PlainFor m t.number ns → Ledger m (noted ns) k t.number t.reads t.writes
    stays ns t is plain = ledger_stays m k t.number tr (map (mark m event k) ns) t.reads t.writes (marks_alone m k event t.number ns plain) (l.open' t is)

    positive : (t : Tx) → c.tx ≡ Some t → 0 < t.number
    positive t is = (h.number t is).0

    new : Ledger m tr k (c.begun + 1) [] []
    new = new_ledger m k (c.begun + 1) tr (λ u i at number. let b = h.below u i at in omega (arith, b, number))

    begun : Ledger m (noted (note m (c.begun + 1) told.Begin ∷ [])) k (c.begun + 1) [] []
    begun = ledger_stays m k (c.begun + 1) tr (map (mark m event k) (note m (c.begun + 1) told.Begin ∷ [])) [] [] (marks_alone m k event (c.begun + 1) (note m (c.begun + 1) told.Begin ∷ []) (one_plain m (c.begun + 1) (note m (c.begun + 1) told.Begin) (λ e. tt))) new

    -- the record of a mark that begins
    marked : (o : Oid) (j : ℕ) → Ledger m (noted (mark_notes m (c.begun + 1) o j)) k (c.begun + 1) [] (write_of m directory (m.mark_op o j) ∷ [])
    marked o j = subst (λ (t : Trace m). Ledger m t k (c.begun + 1) [] (write_of m directory (m.mark_op o j) ∷ []))
        (regroup (tr ++ u ∷ []) (v ∷ []) (z ∷ []) ∙ regroup tr (u ∷ []) (v ∷ z ∷ []))
        (ledger_stays m k (c.begun + 1) ((tr ++ u ∷ []) ++ v ∷ []) (z ∷ []) [] (write_of m directory (m.mark_op o j) ∷ [])
        (marks_alone m k event (c.begun + 1) (note m (c.begun + 1) told.End ∷ []) (one_plain m (c.begun + 1) (note m (c.begun + 1) told.End) (λ e. tt)))
        (put_ledger m k (c.begun + 1) event (tr ++ u ∷ []) [] [] begun directory (m.mark_op o j)))
      where
        u : MarkOf m
        u = mark m event k (note m (c.begun + 1) told.Begin)

        v : MarkOf m
        v = mark m event k (note m (c.begun + 1) (told.Put directory (m.mark_op o j)))

        z : MarkOf m
        z = mark m event k (note m (c.begun + 1) told.End)

    module _ (r : Moved m) where
      same : (t : Tx) → r.now.tx ≡ Some t → r.now.tx ≡ c.tx → (ns : List (NoteOf m)) → ((s : Tx) → c.tx ≡ Some s → PlainFor m s.number ns) → Ledger m (noted ns) k t.number t.reads t.writes
      same t is e ns plain = stays ns t (sym e ∙ is) (plain t (sym e ∙ is))

      asked : (t of : Tx) (o : Oid) (q : m.ask) (version s : ℕ) (a : m.answer) → c.tx ≡ Some of → r.now.tx ≡ Some (tx_read of (record { oid = o; part = m.look q; version = version }) s) → r.now.tx ≡ Some t
          → r.notes ≡ note m of.number (told.Asked o q s a) ∷ [] → Ledger m (noted r.notes) k t.number t.reads t.writes
      asked t of o q version s a from tx is notes = subst (λ (z : Tx). Ledger m (noted r.notes) k z.number z.reads z.writes) (same_some (tx_read of (record { oid = o; part = m.look q; version = version }) s) t (sym tx ∙ is))
          (subst (λ (ns : List (NoteOf m)). Ledger m (noted ns) k of.number (tx_read of (record { oid = o; part = m.look q; version = version }) s).reads of.writes) (sym notes)
          (ask_ledger m k of.number event tr of.reads of.writes (l.open' of from) (positive of from) o q version s a))

      taken_open : {x : _} (t : Tx) → r.now.tx ≡ Some t → Taking m c x r → Ledger m (noted r.notes) k t.number t.reads t.writes
      taken_open t is (Nothing s e z) = same t is s.0 r.notes (λ v at. zero_plain m v.number r.notes (positive v at) z)
      taken_open t is (Opening p) = subst (λ (z : Tx). Ledger m (noted r.notes) k z.number z.reads z.writes) (same_some (open_tx (c.begun + 1)) t (sym p.tx ∙ is))
          (subst (λ (ns : List (NoteOf m)). Ledger m (noted ns) k (c.begun + 1) [] []) (sym p.notes) begun)
      taken_open t is (Putting p) = subst (λ (z : Tx). Ledger m (noted r.notes) k z.number z.reads z.writes) (same_some (tx_put p.of (write_of m p.oid p.op)) t (sym p.tx ∙ is))
          (subst (λ (ns : List (NoteOf m)). Ledger m (noted ns) k p.of.number p.of.reads (p.of.writes ++ write_of m p.oid p.op ∷ [])) (sym p.notes)
          (put_ledger m k p.of.number event tr p.of.reads p.of.writes (l.open' p.of p.from) p.oid p.op))
      taken_open t is (Answering a) = asked t a.of a.oid a.ask a.version a.at a.answer a.from a.tx is a.notes
      taken_open t is (Ending e) = absurd (no_some t (sym e.tx ∙ is))
      taken_open t is (EndingLater e) = same t is e.same.0 r.notes (λ v at. are_plain m v.number r.notes _ e.notes (one_plain m v.number (note m e.of.number told.End) (λ z. tt)))
      taken_open t is (Dropping d) = absurd (no_some t (sym d.tx ∙ is))
      taken_open t is (Beginning b) = same t is b.same.0 r.notes (λ v at. nil_plain m v.number r.notes b.notes)

      mark_plain : (v : Tx) → c.tx ≡ Some v → (o : Oid) (j : ℕ) → PlainFor m v.number (mark_notes m (c.begun + 1) o j)
      mark_plain v at o j = cons_plain m v.number (note m (c.begun + 1) told.Begin) (note m (c.begun + 1) (told.Put directory (m.mark_op o j)) ∷ note m (c.begun + 1) told.End ∷ []) (λ e. tt)
          (cons_plain m v.number (note m (c.begun + 1) (told.Put directory (m.mark_op o j))) (note m (c.begun + 1) told.End ∷ []) (λ e. let le = (h.number v at).1 in omega (arith, le, e))
          (one_plain m v.number (note m (c.begun + 1) told.End) (λ e. tt)))

      open_turned : (t : Tx) → r.now.tx ≡ Some t → Turned m c r → Ledger m (noted r.notes) k t.number t.reads t.writes
      open_turned t is (Idles s e notes) = same t is s.0 r.notes (λ v at. nil_plain m v.number r.notes notes)
      open_turned t is (Works w end has (On s notes v at e on)) = same t is s.0 r.notes (λ v at. nil_plain m v.number r.notes notes)
      open_turned t is (Works w end has (Quits s e q)) = same t is s.0 r.notes (λ v at. quit_plain m c w end v.number (positive v at) r.notes q)
      open_turned t is (Works w end has (Closes s e i what notes z)) = absurd (no_some t (sym s.0 ∙ is))
      open_turned t is (Works w end has (Asks a)) = asked t a.of a.oid a.ask a.version a.tail a.answer a.from a.tx is a.notes
      open_turned t is (Works w end has (Marks' x)) = same t is x.tx r.notes (λ v at. are_plain m v.number r.notes (mark_notes m (c.begun + 1) x.oid x.mark) x.notes (mark_plain v at x.oid x.mark))
      open_turned t is (Takes x (Refuses why at e)) = same t is (ap (λ (y : Moved m). y.now.tx) e) r.notes (λ v i. are_plain m v.number r.notes _ (ap (λ (y : Moved m). y.notes) e) (one_plain m v.number _ (λ z. tt)))
      open_turned t is (Takes x (Takes' free fine y)) = taken_open t is y

      -- A mark in hand.

      module _ (a : Append) (n : ℕ) (o : Oid) (j : ℕ) (v : Work m) (has : r.now.work ≡ Some v) (at : task_in m v.hand ≡ Appending a (Marks n o j)) where
        abbrev Marked : Type 0
        Marked = Ledger m (noted r.notes) k n [] (write_of m directory (m.mark_op o j) ∷ []) × Tells m (noted r.notes) k n told.End

        old : PlainFor m n r.notes → Ledger m tr k n [] (write_of m directory (m.mark_op o j) ∷ []) × Tells m tr k n told.End → Marked
        old plain x = (
          ledger_stays m k n tr (map (mark m event k) r.notes) [] (write_of m directory (m.mark_op o j) ∷ []) (marks_alone m k event n r.notes plain) x.0,
          tells_on m tr (map (mark m event k) r.notes) k n told.End x.1,
        )

        none : r.now.work ≡ None → Marked
        none e = no_some v (sym e ∙ has)

        at_now : (u : Work m) → r.now.work ≡ Some u → task_in m u.hand ≡ Appending a (Marks n o j)
        at_now u is = subst (λ (z : Work m). task_in m z.hand ≡ Appending a (Marks n o j)) (same_some v u (sym has ∙ is)) at

        onward : (w : Work m) (end : Option AppendEnd) (u : Work m) → c.work ≡ Some w → r.now.work ≡ Some u → r.notes ≡ [] → Onward m c w end u → Marked
        onward w end u was is notes (Same' b b' y x z f p) =
            old (nil_plain m n r.notes notes) (l.marks b n o j w was (x ∙ ap (λ (s : Purpose m). Appending b s) (same_purpose b' a y (Marks n o j) (sym z ∙ at_now u is))))
        onward w end u was is notes (Walks i i' z p) = idle_holds m (task_in m u.hand) a (Marks n o j) i' (at_now u is)
        onward w end u was is notes (Lands b p page x f q i z) = idle_holds m (task_in m u.hand) a (Marks n o j) i (at_now u is)
        onward w end u was is notes (Begins b y i z body other of s p) = absurd (subst (IsOther m) (same_purpose b a y (Marks n o j) (sym z ∙ at_now u is)) other)

        taken_mark : {x : _} → Taking m c x r → Marked
        taken_mark (Nothing s e z) = none e
        taken_mark (Opening p) = none p.work
        taken_mark (Putting p) = none p.work
        taken_mark (Answering b) = none b.work
        taken_mark (Ending e) = none e.work
        taken_mark (EndingLater e) = absurd (purpose_of_if (length e.of.reads == 0) _ n o j refl (same_purpose e.append a _ (Marks n o j) (sym e.appends ∙ at_now e.work e.works)))
        taken_mark (Dropping d) = none d.work
        taken_mark (Beginning b) = idle_holds m (task_in m b.work.hand) a (Marks n o j) b.idle (at_now b.work b.works)

        fresh : (o' : Oid) (j' : ℕ) → r.notes ≡ mark_notes m (c.begun + 1) o' j' → (n ≡ c.begun + 1) × (o ≡ o') × (j ≡ j') → Marked
        fresh o' j' notes e =
            subst (λ (ns : List (NoteOf m)). Ledger m (noted ns) k n [] (write_of m directory (m.mark_op o j) ∷ []) × Tells m (noted ns) k n told.End) (sym notes)
            (subst (λ (i : ℕ). Ledger m (noted (mark_notes m (c.begun + 1) o' j')) k i [] (write_of m directory (m.mark_op o j) ∷ []) × Tells m (noted (mark_notes m (c.begun + 1) o' j')) k i told.End) (sym e.0)
            (subst (λ (p : Oid). Ledger m (noted (mark_notes m (c.begun + 1) o' j')) k (c.begun + 1) [] (write_of m directory (m.mark_op p j) ∷ []) × Tells m (noted (mark_notes m (c.begun + 1) o' j')) k (c.begun + 1) told.End) (sym e.1)
            (subst (λ (p : ℕ). Ledger m (noted (mark_notes m (c.begun + 1) o' j')) k (c.begun + 1) [] (write_of m directory (m.mark_op o' p) ∷ []) × Tells m (noted (mark_notes m (c.begun + 1) o' j')) k (c.begun + 1) told.End) (sym e.2)
            (marked o' j', ended))))
          where
            ended : Tells m (noted (mark_notes m (c.begun + 1) o' j')) k (c.begun + 1) told.End
            ended = record {
              number = omega arith;
              event = event;
              here = contained_has (noted (mark_notes m (c.begun + 1) o' j')) _ (has_right tr (map (mark m event k) (mark_notes m (c.begun + 1) o' j')) _ (inr (inr (inl refl))));
            }

        mark_turned : Turned m c r → Marked
        mark_turned (Idles s e notes) = old (nil_plain m n r.notes notes) (l.marks a n o j v (sym e ∙ has) at)
        mark_turned (Works w end was (On s notes u is e on)) = onward w end u was is notes on
        mark_turned (Works w end was (Quits s e q)) = none e
        mark_turned (Works w end was (Closes s e i what notes z)) = none e
        mark_turned (Works w end was (Asks b)) = none b.idle
        mark_turned (Works w end was (Marks' x)) = fresh x.oid x.mark x.notes (same_mark (Marks n o j) n (c.begun + 1) o x.oid j x.mark refl (same_purpose a x.append (Marks n o j) (Marks (c.begun + 1) x.oid x.mark) (sym (at_now x.work x.works) ∙ x.appends)))
        mark_turned (Takes x (Refuses why is e)) =
            old (are_plain m n r.notes _ (ap (λ (y : Moved m). y.notes) e) (one_plain m n _ (λ z. tt))) (l.marks a n o j v (sym (ap (λ (y : Moved m). y.now.work) e) ∙ has) at)
        mark_turned (Takes x (Takes' free fine y)) = taken_mark y

      pub kept_turned : Turned m c r → Kept (noted r.notes) k r.now
      kept_turned turn = record { open' = λ t is. open_turned t is turn; marks = λ a n o j v has at. mark_turned a n o j v has at turn }

  -- Along a run.

  module _ (k : ℕ) where
    kept_stepped : (e : EventOf m) (w v : World m) → WorldBook m w → Stepped m k e w v → Kept (trace m w) k (client m w k) → Kept (trace m v) k (client m v k)
    kept_stepped e w v h (Rests c ys t alone) l = subst (λ (tr : Trace m). Kept tr k (client m v k)) (sym t) (subst (Kept (trace m w ++ ys) k) (sym c) (record {
      open' = λ t is. ledger_stays m k t.number (trace m w) ys t.reads t.writes (λ u i at number. absurd (alone u i at)) (l.open' t is);
      marks = λ a n o j v has at. let x = l.marks a n o j v has at in
          (ledger_stays m k n (trace m w) ys [] (write_of m directory (m.mark_op o j) ∷ []) (λ u i at number. absurd (alone u i at)) x.0, tells_on m (trace m w) ys k n told.End x.1);
    }))
    kept_stepped e w v h (Turns r t f g c traced) l = subst (λ (tr : Trace m). Kept tr k (client m v k)) (sym traced) (subst (Kept (trace m w ++ map (mark m w.event k) r.notes) k) (sym c) (called_kept (kept_turned k w.event (trace m w) (client m w k) (h k) l r t)))
      where
        called_kept : Kept (trace m w ++ map (mark m w.event k) r.notes) k r.now → Kept (trace m w ++ map (mark m w.event k) r.notes) k (record r.now { calls = r.now.calls + 1 })
        called_kept x = record { open' = x.open'; marks = x.marks }

    kept_run : (ms : Moves m) (w : World m) → WorldBook m w → Kept (trace m w) k (client m w k) → Kept (trace m (run m ms w)) k (client m (run m ms w) k)
    unfolding run
    kept_run [] w h l = l
    kept_run (Next ∷ ms) w h l = kept_run ms (next_event m w) h l
    kept_run (Moves' e ∷ ms) w h l = kept_run ms (happens m w e) (step_book m w e h) (kept_stepped e w (happens m w e) h (step m w e h k) l)

  abbrev Begins' : ℕ → Client m → Type 0
  Begins' k c = Kept [] k c × Awaits m c

  new_kept : (h : Header) (k j : ℕ) → Begins' k (new_client m h j)
  unfolding new_client
  new_kept h k j = (record { open' = λ t is. no_some t is; marks = λ a n o i v has at. no_some v has }, λ w has. no_some w has)

  start_kept : (h : Header) (k : ℕ) → Kept (trace m (start m h)) k (client m (start m h) k) × Awaits m (client m (start m h) k)
  unfolding start
  start_kept h k = at_map (new_client m h) (numbers h.clients 0) k (new_client m h k) (λ (x : Client m). Begins' k x) (new_kept h k) (new_kept h k k)

  -- A record of the log.

  module _ (h : Header) (ms : Moves m) (left : RecordsLeft m h ms (run m ms (start m h))) where
    abbrev w : World m
    w = run m ms (start m h)

    module _ (e : Entry) (commit : is_commit e ≡ true) (b : WasLeft m h ms w e) where
      abbrev k : ℕ
      k = e.head.client

      abbrev v : World m
      v = run m b.before (start m h)

      books : WorldBook m v
      books = run_book m b.before (start m h) (start_book m h)

      kept : Kept (trace m v) k (client m v k)
      kept = kept_run k b.before (start m h) (start_book m h) (start_kept h k).0

      awaits : Awaits m (client m v k)
      awaits = awaits_run m k b.before (start m h) (start_book m h) (start_kept h k).1

      later : w ≡ run m b.after v
      later = ap (λ (xs : Moves m). run m xs (start m h)) b.split ∙ run_both m b.before b.after (start m h)

      -- nothing is put or asked for it since
      alone : (n : ℕ) → 0 < n → e.head.number ≡ n → Quiet m n (client m v k) → LeavesAlone m [] [] k n b.since
      alone n positive number quiet =
          quiet_run m k n positive b.after v b.since books (ap (trace m) (sym later) ∙ b.traced) (λ u limit i at is what. b.stays u limit (contained_has b.since u i) at (is ∙ sym number) what) awaits quiet

      abbrev Owned : Type 0
      Owned = Ledger m (trace m w) k e.head.number (reads_of e) (writes_of e) × Tells m (trace m w) k e.head.number told.End

      owned : (n : ℕ) (rs : List ReadMark) (ws : List WriteOp) → e.head.number ≡ n → reads_of e ≡ rs → writes_of e ≡ ws → 0 < n → Quiet m n (client m v k) → Ledger m (trace m v) k n rs ws → Tells m (trace m v) k n told.End → Owned
      owned n rs ws number reads writes positive quiet l end = subst (λ (i : ℕ). Ledger m (trace m w) k i (reads_of e) (writes_of e) × Tells m (trace m w) k i told.End) (sym number) (
        subst (λ (xs : List ReadMark). Ledger m (trace m w) k n xs (writes_of e)) (sym reads) (subst (λ (xs : List WriteOp). Ledger m (trace m w) k n rs xs) (sym writes)
            (subst (λ (tr : Trace m). Ledger m tr k n rs ws) (sym b.traced) (ledger_stays m k n (trace m v) b.since rs ws (alone n positive number quiet) l))),
        subst (λ (tr : Trace m). Tells m tr k n told.End) (sym b.traced) (tells_on m (trace m v) b.since k n told.End end),
      )

      hand : InHand m (client m v k) b.append
      hand = in_hand m (client m v k) b.append b.begun

      -- the record of an open transaction
      of_tx : (t : Tx) → (client m v k).tx ≡ Some t → b.append.draft ≡ commit_record t k → Tells m (trace m v) k t.number told.End → IsEnd m hand.work.command → Owned
      unfolding commit_record
      of_tx t is draft end waits = owned t.number t.reads t.writes (ap (λ (x : Entry). x.head.number) b.draft ∙ ap (λ (x : Entry). x.head.number) draft)
          (ap (λ (x : Entry). reads_of x) b.draft ∙ ap (λ (x : Entry). reads_of x) draft) (ap (λ (x : Entry). writes_of x) b.draft ∙ ap (λ (x : Entry). writes_of x) draft)
          ((books k).number t is).0 (((books k).number t is).1, λ s at number. (hand.work, hand.works, waits)) (kept.open' t is) end

      pub has_it : Owned
      has_it = by hand.purpose refl (subst (DraftOf m k (trace m v) (client m v k).tx (client m v k).begun) hand.task ((books k).drafts hand.work hand.works)) (subst (Suits m hand.work.command) hand.task ((books k).suits hand.work hand.works))
        where
          committed : is_commit b.append.draft ≡ true
          committed = ap (λ (x : Entry). is_commit x) (sym b.draft) ∙ commit

          never : false ≡ true → ⊥
          never z = cc

          by : (y : Purpose m) → hand.purpose ≡ y → DraftFor m k (trace m v) (client m v k).tx (client m v k).begun b.append.draft y → SuitsPurpose m hand.work.command y → Owned
          by Writes is x s = of_tx x.of x.is x.draft x.ended s
          by Judged is x s = of_tx x.of x.is x.draft x.ended s
          by (Marks n o j) is x s =
              let l = kept.marks b.append n o j hand.work hand.works (hand.task ∙ ap (λ (y : Purpose m). Appending b.append y) is) in
              owned n [] (write_of m directory (m.mark_op o j) ∷ []) (ap (λ (y : Entry). y.head.number) b.draft ∙ x.draft.1)
              (ap (λ (y : Entry). reads_of y) b.draft ∙ ap (λ (y : Body). reads_in y) x.draft.2) (ap (λ (y : Entry). writes_of y) b.draft ∙ ap (λ (y : Body). writes_in y) x.draft.2)
              x.positive ((let z = x.number in omega (arith, z)), λ t at number. (let less = x.later t at in absurd (omega (arith, less, number)))) l.0 l.1
          by (Decides what) is x s = absurd (never (sym x ∙ committed))
          by (Rescues what) is x s = absurd (never (sym x ∙ committed))
          by (Saves i u) is x s = absurd (never (sym x ∙ committed))

    own_here : RecordsOwn m w
    own_here p e i commit = record {
      ended = x.1;
      writes = x.0.writes;
      asked = λ o part r. (
          let y = x.0.asked r.read (has_contained (reads_of e) r.read r.here) in
          record { ask = y.ask; at = y.at; answer = y.answer; asked = subst (λ (q : Oid). Tells m (trace m w) e.head.client e.head.number (told.Asked q y.ask y.at y.answer)) r.oid y.asked; looks = y.looks ∙ r.of_part });
      read = λ o part a. (
          let y = x.0.read o a.ask a.at a.answer a.asked in
          record { read = y.read; here = contained_has (reads_of e) y.read y.here; oid = y.oid; of_part = y.of_part ∙ a.looks });
    }
      where
        x : Owned e commit (left p e i commit)
        x = has_it e commit (left p e i commit)

  pub records_own : AlwaysBySafeTrims m (RecordsOwn m)
  records_own h ms v r safe = subst (RecordsOwn m) (sym r.goes.is) (own_here h ms (subst (λ (u : World m). RecordsLeft m h ms u) r.goes.is (records_are_left m h ms v r safe)))
