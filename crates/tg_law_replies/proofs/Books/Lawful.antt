-- A run is legal.
use Rattle.std.proofs.Common.{◌≡◌, ◌⊎◌, ℕ, suc, ◌+◌, ◌<◌, ◌≤◌, List, [], ◌∷◌, ◌++◌, map, length, Bool, true, false, refl, sym, ap, ◌∙◌, subst, inl, inr, arith, Option, Some, None, Contains}
use Rattle.std.specs.Prelude.{◌≢◌, ◌==◌, ◌&&◌, if◌then◌else◌}
use Rattle.tg_base.specs.Clusters.{Header}
use Rattle.tg_base.specs.declared.ids.Oid.{Oid}
use Rattle.tg_base.specs.declared.marks.Part.{Part}
use Rattle.tg_base.specs.declared.marks.ReadMark.{ReadMark}
use Rattle.tg_entry.specs.declared.entry.Body.{Body}
use Rattle.tg_entry.specs.declared.entry.WriteOp.{WriteOp}
use Rattle.tg_entry.specs.declared.entry.Entry.{Entry}
use Rattle.tg_kind.specs.Meaning.{Meaning}
use Rattle.tg_model.specs.declared.command.Command.TheVariants as cmd
use Rattle.tg_model.specs.declared.command.Event.TheVariants.{Command as Commands}
use Rattle.tg_model.specs.declared.trace.What.TheVariants as told
use Rattle.tg_model.specs.Kinds.{WhatOf, MarkOf, NoteOf}
use Rattle.tg_model.specs.Traces.{Trace, Tells, put_of, puts_of}
use Rattle.tg_model.specs.Legal.{InOrder, Legal}
use Rattle.tg_protocol.specs.Words.{directory}
use Rattle.tg_entry.specs.Needs.{reads_in, reads_of, writes_in, writes_of}
use Rattle.tg_protocol.specs.Entries.{is_commit}
use Rattle.tg_protocol.specs.Views.{Entries}
use Rattle.tg_protocol.specs.Logs.{op_if, ops_of, history_of, history_after}
use Rattle.tg_protocol.specs.Transactions.{Tx}
use Rattle.tg_protocol.specs.Clients.{Client, Work, tx_number, write_of}
use Rattle.tg_protocol.specs.Answers.{note}
use Rattle.tg_protocol.specs.ClientSteps.{snapshot_or}
use Rattle.tg_protocol.specs.Worlds.{World, Told, start, client, happens, trace, history}
use Rattle.tg_protocol.specs.Runs.{Moves, Takes, Reaches, run}
use Rattle.tg_protocol.specs.Appending.{AppendEnd, At, Full, Forgotten}
use Rattle.tg_protocol.specs.Alike.{HasRecord}
use Rattle.tg_protocol.specs.Holding.{ReadsOf, EntriesOnce, EntriesOwn, RecordsOwn, RepliesHaveRecords, HasItsRecord}
use Rattle.tg_protocol.specs.Holding as holding
use Rattle.tg_law_replies.specs.Plays.Sound.{IsRising}
use Rattle.tg_law_replies.specs.History.Logs.{version_below, commits, AreOps, AreListed, HasOutcome}
use Rattle.tg_law_replies.specs.History.Worlds.{entries_in}
use Rattle.tg_law_replies.proofs.History.Members.{Has, has_contained, contained_has, has_image, has_left, same_number, number_same, contrary}
use Rattle.tg_law_replies.proofs.History.Ledger.{one_entry}
use Rattle.tg_law_replies.proofs.History.Cells.{logs_rise}
use Rattle.tg_law_replies.proofs.History.States.{Apart}
use Rattle.tg_law_replies.specs.Views.Exact.{AreWriting}
use Rattle.tg_law_replies.proofs.Pages.Read.{logs_keep_grammar}
use Rattle.tg_law_replies.specs.Replies.Told.{IsOfEnded, HasRecordOf, HasFailed, TellsTrue}
use Rattle.tg_law_replies.specs.Replies.Laws.{ClientsFind}
use Rattle.tg_law_replies.specs.Replies.Ended.{EndsSo, AppendsEnd}
use Rattle.tg_law_replies.proofs.Replies.Along.{Along, passed, at_end}
use Rattle.tg_law_replies.proofs.Replies.Books.{mark, IsPlain, IsOpen, puts_more}
use Rattle.tg_law_replies.proofs.Replies.Closed.{LeavesAlone}
use Rattle.tg_law_replies.proofs.Replies.Legality.{telling_is_legal}
use Rattle.tg_law_replies.proofs.Replies.Moves.{IsFailed, TrueWhat}
use Rattle.tg_law_replies.proofs.Replies.Steps.{IsRightWorld}
use Rattle.tg_law_replies.proofs.Replies.Kept.{IsOver, OnlyReads, IsKept, reads_stay, reads_only}
use Rattle.tg_law_replies.proofs.Replies.Telling.{IsKeptWorld, RightAndKept, found_kept, true_reply}
use Rattle.tg_law_replies.specs.Books.Kept.{AsksPrecede, RefusedLeaveNone, RecordEndsSo, RecordsEnd}
use Rattle.tg_law_replies.specs.Books.Laws.{RunsAreLegal}
use Rattle.tg_law_replies.proofs.Books.Effects.{IsEnd, Suits}
use Rattle.tg_law_replies.proofs.Books.Commands.{ended_by}
use Rattle.tg_law_replies.proofs.Books.Tales.{Harmless, Tale, Tells0, TellsNothing, TellsDone, TellsDropped, TellsLost, TellsWritten, TellsDecided, TellsJudged, TellsMarked, TellsMarkLost, tale}
use Rattle.tg_law_replies.proofs.Books.Turns.{no_some, same_some, BookOf, DraftOf}
use Rattle.tg_law_replies.proofs.Books.Closing.{Only, None', shut_turned}
use Rattle.tg_law_replies.proofs.Books.Worlds.{WorldBook, run_book, start_book, run_both, run_next, run_grows, step_book, asked_in}
use Rattle.tg_law_replies.proofs.Books.Records.{Drafted, drafted, drafted_as, AsTx, AsMark, on_tells, marks_spelled}
use Rattle.tg_law_replies.proofs.Books.Known.{one_tag}
use Rattle.tg_law_replies.proofs.Books.Told.{ToldIn, all_told}
use Rattle.tg_law_replies.proofs.Books.Plain.{run_plain}
use Rattle.tg_law_replies.proofs.Books.Whose.{replies_are_known}

-- Puts.

module _ (m : Meaning) where
  none_before : (us vs : List (Oid × m.op)) → us ≢ [] → us ++ vs ≢ []
  none_before [] vs some none = some refl
  none_before (u ∷ us) vs some none = absurd cc

  some_put : (tr : Trace m) (k x : ℕ) (o : Oid) (op : m.op) (event : ℕ) → Has tr (record { event = event; client = k; tx = x; what = told.Put o op }) → Has (puts_of m tr k x) (o, op)
  unfolding puts_of
  some_put [] k x o op event i = absurd i
  some_put (t ∷ tr) k x o op event (inl e) =
      subst (λ (u : MarkOf m). Has (put_of m k x u.client u.tx u.what (puts_of m tr k x)) (o, op)) e (by ((k == k) && (x == x)) itself)
    where
      itself : ((k == k) && (x == x)) ≡ true
      itself = grind arith

      by : (b : Bool) → b ≡ true → Has (if b then (o, op) ∷ puts_of m tr k x else puts_of m tr k x) (o, op)
      by true e = inl refl
      by false e = absurd cc
  some_put (t ∷ tr) k x o op event (inr i) = later t.what (some_put tr k x o op event i)
    where
      put : (p : Oid) (q : m.op) (b : Bool) → Has (puts_of m tr k x) (o, op) → Has (if b then (p, q) ∷ puts_of m tr k x else puts_of m tr k x) (o, op)
      put p q true j = inr j
      put p q false j = j

      later : (w : WhatOf m) → Has (puts_of m tr k x) (o, op) → Has (put_of m k x t.client t.tx w (puts_of m tr k x)) (o, op)
      later (told.Put p q) j = put p q ((k == t.client) && (x == t.tx)) j
      later w j = j

  has_some : {X : Type 0} (xs : List X) (x : X) → Has xs x → xs ≢ []
  has_some {X} xs x i none = subst (λ (ys : List X). Has ys x) none i

  ops_many : (ws : List WriteOp) → AreOps m ws → length (ops_of m ws) ≡ length ws
  ops_many [] are = refl
  ops_many (w ∷ ws) are = by (are w (contained_has (w ∷ ws) w (inl refl))) (ops_many ws (λ v i. are v (contained_has (w ∷ ws) v (inr (has_contained ws v i)))))
    where
      by : (x : m.op) × (m.read w.oid w.op ≡ Some x) → length (ops_of m ws) ≡ length ws → length (op_if m w.oid (m.read w.oid w.op) (ops_of m ws)) ≡ suc (length ws)
      by x rest = ap (λ (o : Option m.op). length (op_if m w.oid o (ops_of m ws))) x.1 ∙ ap suc rest

  map_many : {X Y : Type 0} (f : X → Y) (xs : List X) → length (map f xs) ≡ length xs
  map_many f [] = refl
  map_many f (x ∷ xs) = ap suc (map_many f xs)

  both_many : {X : Type 0} (xs ys : List X) → length (xs ++ ys) ≡ length xs + length ys
  both_many [] ys = omega arith
  both_many (x ∷ xs) ys = let rest = both_many xs ys in omega (arith, rest)

  nil_is : {X : Type 0} (xs : List X) → length xs ≡ 0 → xs ≡ []
  nil_is [] e = refl
  nil_is (x ∷ xs) e = absurd (omega (arith, e))

  nil_after : {X : Type 0} (xs : List X) → xs ++ [] ≡ xs
  nil_after [] = refl
  nil_after (x ∷ xs) = ap (λ ys. x ∷ ys) (nil_after xs)

  -- more puts than ops there are none
  same_puts : (us vs ps : List (Oid × m.op)) (n : ℕ) → ps ≡ us ++ vs → length ps ≡ n → length us ≡ n → ps ≡ us
  same_puts us vs ps n is all first =
      let sum = ap length is ∙ both_many us vs in
      is ∙ (ap (λ (ys : List (Oid × m.op)). us ++ ys) (nil_is vs (omega (arith, sum, all, first))) ∙ nil_after us)

  one_put : (ps : List (Oid × m.op)) (p : Oid × m.op) → length ps ≡ 1 → Has ps p → ps ≡ p ∷ []
  one_put [] p e i = absurd i
  one_put (q ∷ qs) p e i = by i
    where
      rest : qs ≡ []
      rest = nil_is qs (omega (arith, e))

      by : Has (q ∷ qs) p → q ∷ qs ≡ p ∷ []
      by (inl same) = λ j. sym same j ∷ rest j
      by (inr later) = absurd (subst (λ (ys : List (Oid × m.op)). Has ys p) rest later)

  some_ops : (ws : List WriteOp) → (length ws == 0) ≡ false → AreOps m ws → ops_of m ws ≢ []
  some_ops [] some are none = absurd cc
  some_ops (w ∷ ws) some are none = let n = ops_many (w ∷ ws) are in let z : length (ops_of m (w ∷ ws)) ≡ 0 = ap length none in let sum : suc (length ws) ≡ 0 = sym n ∙ z in omega (arith, sum)

module _ (m : Meaning) (apart : Apart m) (h : Header) (ms : Moves m) (r : Reaches m h ms (run m ms (start m h))) (finds : ClientsFind m h ms (run m ms (start m h))) (ends : AppendsEnd m h ms (run m ms (start m h)))
    (own : EntriesOwn m h ms (run m ms (start m h))) (once : EntriesOnce m (run m ms (start m h))) (records : RecordsOwn m (run m ms (start m h))) (replies : RepliesHaveRecords m (run m ms (start m h)))
    (precede : AsksPrecede m (run m ms (start m h))) (refused : RefusedLeaveNone m (run m ms (start m h))) (order : InOrder m (history m (run m ms (start m h))) (trace m (run m ms (start m h)))) where
  abbrev end : World m
  end = run m ms (start m h)

  abbrev es : Entries
  es = entries_in m end

  abbrev at : Moves m → World m
  at xs = run m xs (start m h)

  rising : IsRising (entries_in m end)
  rising = logs_rise m end

  listed : AreListed (entries_in m end)
  listed = (logs_keep_grammar m end).0

  writing : AreWriting (entries_in m end)
  writing = (logs_keep_grammar m end).1

  along : Along m (RightAndKept m h (entries_in m end) (logs_rise m end) listed) ms (start m h)
  along = found_kept m h ms end listed writing r finds ends

  abbrev KeptIn : World m → Type 0
  KeptIn w = IsKeptWorld m h.objects (entries_in m end) (logs_rise m end) listed w

  -- what clients told is kept in each world of the run
  kept_at : (xs ys : Moves m) → ms ≡ xs ++ ys → KeptIn (at xs)
  kept_at xs ys split = (passed m (RightAndKept m h (entries_in m end) (logs_rise m end) listed) xs ys (start m h) (subst (λ (zs : Moves m). Along m (RightAndKept m h (entries_in m end) (logs_rise m end) listed) zs (start m h)) split along)).1

  right : IsRightWorld m h.objects (entries_in m end) (logs_rise m end) listed end
  right = (at_end m (RightAndKept m h (entries_in m end) (logs_rise m end) listed) ms (start m h) along).0

  kept : KeptIn end
  kept = (at_end m (RightAndKept m h (entries_in m end) (logs_rise m end) listed) ms (start m h) along).1

  abbrev Open : ℕ → Trace m → Tx → Type 0
  Open k tr t = IsOpen m h.objects (entries_in m end) k tr t

  abbrev Reads : ℕ → Trace m → ℕ → ℕ → Type 0
  Reads k tr x p = OnlyReads m h.objects (entries_in m end) (logs_rise m end) listed k tr x p

  -- Snapshots.

  one_number : (a b : ℕ) → Some a ≡ Some b → a ≡ b
  one_number a b e = cc

  snapshots : (k x : ℕ) (o q : Oid) (a b : m.ask) (s t : ℕ) (c d : m.answer) → Tells m (trace m end) k x (told.Asked o a s c) → Tells m (trace m end) k x (told.Asked q b t d) → s ≡ t
  snapshots k x o q a b s t c d i j = by (split x (client m end k).begun)
    where
      split : (x n : ℕ) → (x ≤ n) ⊎ (n < x)
      split x n = grind arith

      again : (y : Tx) → y.number ≡ x → (what : WhatOf m) → Tells m (trace m end) k x what → Tells m (trace m end) k y.number what
      again y n what z = subst (λ (i : ℕ). Tells m (trace m end) k i what) (sym n) z

      over : x ≤ (client m end k).begun → ((y : Tx) → (client m end k).tx ≡ Some y → y.number ≡ x → ⊥) → s ≡ t
      over le never = (kept k).snapshots x (i.number, le, never) o q a b s t c d i j

      number : (y : Tx) → (client m end k).tx ≡ Some y → x ≤ (client m end k).begun → (e : Bool) → (y.number == x) ≡ e → s ≡ t
      number y is le true e =
          let w = ((kept k).«open» y is).0.0 in
          one_number s t (sym (w.snap o a s c (again y (same_number y.number x e) (told.Asked o a s c) i)) ∙ w.snap q b t d (again y (same_number y.number x e) (told.Asked q b t d) j))
      number y is le false e = over le (λ z has n. contrary (y.number == x) e (number_same y.number x (ap (λ (v : Tx). v.number) (same_some y z (sym is ∙ has)) ∙ n)))

      by_tx : (y : Option Tx) → (client m end k).tx ≡ y → x ≤ (client m end k).begun → s ≡ t
      by_tx None is le = over le (λ z has n. no_some z (sym is ∙ has))
      by_tx (Some y) is le = number y is le (y.number == x) refl

      by : (x ≤ (client m end k).begun) ⊎ ((client m end k).begun < x) → s ≡ t
      by (inl le) = by_tx (client m end k).tx refl le
      by (inr less) = absurd ((kept k).later x less (record { event = i.event; client = k; tx = x; what = told.Asked o a s c }) (has_contained (trace m end) (record { event = i.event; client = k; tx = x; what = told.Asked o a s c }) i.here) refl refl)

  -- Records.

  -- the replies from a world on
  since : (xs ys : Moves m) → ms ≡ xs ++ ys → (zs : Trace m) × (trace m end ≡ trace m (at xs) ++ zs)
  since xs ys split =
      let g = run_grows m ys (at xs) (run_book m xs (start m h) (start_book m h)) in
      (g.0, ap (λ (zs : Moves m). trace m (at zs)) split ∙ (ap (λ (v : World m). trace m v) (run_both m xs ys (start m h)) ∙ g.1))

  on : (xs ys : Moves m) → ms ≡ xs ++ ys → (k x : ℕ) (what : WhatOf m) → Tells m (trace m (at xs)) k x what → Tells m (trace m end) k x what
  on xs ys split k x what t = subst (λ (zs : Moves m). Tells m (trace m (at zs)) k x what) (sym split) (on_tells m h xs ys k x what t)

  module _ (p : ℕ) (e : Entry) (i : Contains (entries_in m end) (p, e)) (commit : is_commit e ≡ true) where
    abbrev k : ℕ
    k = e.head.client

    abbrev x : ℕ
    x = e.head.number

    its : holding.IsRecord m end e
    its = records p e i commit

    precedes : (o : Oid) (q : m.ask) (s : ℕ) (a : m.answer) → Tells m (trace m end) k x (told.Asked o q s a) → s ≤ p
    precedes o q s a t = precede k x p s o q a t (record { record_at = e; here = i; commit = commit; of_client = refl; of_number = refl })

    wrote : writes_of e ≡ map (λ (y : Oid × m.op). write_of m y.0 y.1) (puts_of m (trace m end) k x)
    wrote = its.writes

    many : length (puts_of m (trace m end) k x) ≡ length (writes_of e)
    many = sym (ap length wrote ∙ map_many m (λ (y : Oid × m.op). write_of m y.0 y.1) (puts_of m (trace m end) k x))

    -- of a transaction
    tx_record : (xs ys : Moves m) → ms ≡ xs ++ ys → AsTx m h k e (at xs) → IsOfEnded m h.objects (entries_in m end) (trace m end) p e
    tx_record xs ys split t = record {
      ended = its.ended;
      ops = ops;
      writes = ap (λ (b : Body). ops_of m (writes_in b)) t.body ∙ (was.puts ∙ (ap (λ (n : ℕ). puts_of m (trace m (at xs)) k n) (sym t.number) ∙ sym puts));
      asks = λ o q s a tells. (precedes o q s a tells, asked o q s a tells (its.read o (m.look q) (record { ask = q; at = s; answer = a; asked = tells; looks = refl })));
      reads = λ y j. let z = was.reads y (has_contained t.of.reads y (subst (λ (b : Body). Contains (reads_in b) y) t.body j)) in
          let now = told_then (told.Asked y.oid z.1 z.0 z.2) z.4 in
          record { ask = z.1; snapshot = z.0; answer = z.2; asked = now; looks = z.5; before = precedes y.oid z.1 z.0 z.2 now; seen = z.6 };
    }
      where
        was : Open k (trace m (at xs)) t.of
        was = ((kept_at xs ys split k).«open» t.of t.held.0).0.0

        ops : AreOps m (writes_of e)
        ops = subst (λ (b : Body). AreOps m (writes_in b)) (sym t.body) was.ops

        rest : (zs : Trace m) × (trace m end ≡ trace m (at xs) ++ zs)
        rest = since xs ys split

        told_then : (what : WhatOf m) → Tells m (trace m (at xs)) k t.of.number what → Tells m (trace m end) k x what
        told_then what z = on xs ys split k x what (subst (λ (n : ℕ). Tells m (trace m (at xs)) k n what) (sym t.number) z)

        puts : puts_of m (trace m end) k x ≡ puts_of m (trace m (at xs)) k x
        puts = same_puts m (puts_of m (trace m (at xs)) k x) (puts_of m rest.0 k x) (puts_of m (trace m end) k x) (length (writes_of e))
            (ap (λ (tr : Trace m). puts_of m tr k x) rest.1 ∙ puts_more m (trace m (at xs)) rest.0 k x) many
            (ap length (ap (λ (n : ℕ). puts_of m (trace m (at xs)) k n) t.number ∙ sym was.puts) ∙ (ops_many m t.of.writes was.ops ∙ ap (λ (b : Body). length (writes_in b)) (sym t.body)))

        asked : (o : Oid) (q : m.ask) (s : ℕ) (a : m.answer) → Tells m (trace m end) k x (told.Asked o q s a) → ReadsOf m e o (m.look q)
            → Contains (reads_of e) (record { oid = o; part = m.look q; version = version_below m h.objects (entries_in m end) s o (m.look q) })
        asked o q s a tells y =
            let z = was.reads y.read (has_contained t.of.reads y.read (subst (λ (b : Body). Contains (reads_in b) y.read) t.body y.here)) in
            let same = snapshots k x y.read.oid o z.1 q z.0 s z.2 a (told_then (told.Asked y.read.oid z.1 z.0 z.2) z.4) tells in
            let seen = z.6 ∙ (ap (λ (n : ℕ). version_below m h.objects (entries_in m end) n y.read.oid y.read.part) same
            ∙ (ap (λ (u : Oid). version_below m h.objects (entries_in m end) s u y.read.part) y.oid ∙ ap (λ (u : Part). version_below m h.objects (entries_in m end) s o u) y.of_part)) in
            let is : y.read ≡ record { oid = o; part = m.look q; version = version_below m h.objects (entries_in m end) s o (m.look q) } = λ j. record { oid = y.oid j; part = y.of_part j; version = seen j } in
            subst (λ (u : ReadMark). Contains (reads_of e) u) is y.here

    -- of a mark
    mark_record : (xs ys : Moves m) → ms ≡ xs ++ ys → AsMark m h k e (at xs) → IsOfEnded m h.objects (entries_in m end) (trace m end) p e
    mark_record xs ys split t = record {
      ended = its.ended;
      ops = subst (λ (b : Body). AreOps m (writes_in b)) (sym t.body) ops;
      writes = ap (λ (b : Body). ops_of m (writes_in b)) t.body ∙ (ap (λ (o : Option m.op). op_if m directory o []) spelled ∙ sym puts);
      asks = λ o q s a tells. (precedes o q s a tells, absurd (no_read o (m.look q) (its.read o (m.look q) (record { ask = q; at = s; answer = a; asked = tells; looks = refl }))));
      reads = λ y j. absurd (has_contained [] y (subst (λ (b : Body). Contains (reads_in b) y) t.body j));
    }
      where
        spelled : m.read directory (m.spell (m.mark_op t.oid t.mark)) ≡ Some (m.mark_op t.oid t.mark)
        spelled = marks_spelled m h ms end r k t.mark t.oid (contained_has ms _ (subst (λ (zs : Moves m). Has zs (Takes (Commands k (cmd.Forget t.oid t.mark)))) (sym split) (has_left xs ys _ (asked_in m h xs k t.mark t.oid t.work t.works t.command))))

        ops : AreOps m (write_of m directory (m.mark_op t.oid t.mark) ∷ [])
        ops w j = by (has_contained (write_of m directory (m.mark_op t.oid t.mark) ∷ []) w j)
          where
            by : Has (write_of m directory (m.mark_op t.oid t.mark) ∷ []) w → (y : m.op) × (m.read w.oid w.op ≡ Some y)
            by (inl same) = subst (λ (v : WriteOp). (y : m.op) × (m.read v.oid v.op ≡ Some y)) (sym same) (m.mark_op t.oid t.mark, spelled)
            by (inr none) = absurd none

        no_read : (o : Oid) (part : Part) → ReadsOf m e o part → ⊥
        no_read o part y = has_contained [] y.read (subst (λ (b : Body). Contains (reads_in b) y.read) t.body y.here)

        put : Tells m (trace m end) k x (told.Put directory (m.mark_op t.oid t.mark))
        put = on xs ys split k x (told.Put directory (m.mark_op t.oid t.mark)) t.put

        puts : puts_of m (trace m end) k x ≡ (directory, m.mark_op t.oid t.mark) ∷ []
        puts = one_put m (puts_of m (trace m end) k x) (directory, m.mark_op t.oid t.mark) (many ∙ ap (λ (b : Body). length (writes_in b)) t.body)
            (some_put m (trace m end) k x directory (m.mark_op t.oid t.mark) put.event (has_contained (trace m end) (record { event = put.event; client = k; tx = x; what = told.Put directory (m.mark_op t.oid t.mark) }) put.here))

    is_record : IsOfEnded m h.objects (entries_in m end) (trace m end) p e
    is_record = by (drafted_as m h e b.passed.before d)
      where
        b : holding.WasBegun m h ms e
        b = own p e i

        d : Drafted m h e b.passed.before
        d = drafted m h e b.passed.before b.append (ap (λ (v : World m). holding.append_by m (client m v e.head.client).work) (sym b.passed.is) ∙ b.begun) b.draft commit

        by : AsTx m h k e (at b.passed.before) ⊎ AsMark m h k e (at b.passed.before) → IsOfEnded m h.objects (entries_in m end) (trace m end) p e
        by (inl t) = tx_record b.passed.before b.passed.after b.passed.split t
        by (inr t) = mark_record b.passed.before b.passed.after b.passed.split t

  -- Outcomes.

  reply_of : (k x : ℕ) (what : WhatOf m) → Tells m (trace m end) k x what → HasItsRecord m end k x what
  reply_of k x what t =
      let u : MarkOf m = record { event = t.event; client = k; tx = x; what = what } in
      let y = has_image (λ (z : Told m). z.mark) end.told (record { event = t.event; client = k; tx = x; what = what }) (has_contained (trace m end) (record { event = t.event; client = k; tx = x; what = what }) t.here) in
      subst (λ (z : MarkOf m). HasItsRecord m end z.client z.tx z.what) (sym y.2) (replies y.0 (contained_has end.told y.0 y.1))

  abbrev record_in : (p k x : ℕ) → HasRecord m end p k x → HasRecordOf (entries_in m end) p k x
  record_in p k x y = record { entry = y.record_at; here = y.here; commit = y.commit; client = y.of_client; number = y.of_number }

  record_out : (p k x : ℕ) → HasRecordOf (entries_in m end) p k x → HasRecord m end p k x
  record_out p k x y = record { record_at = y.entry; here = y.here; commit = y.commit; of_client = y.client; of_number = y.number }

  same_entry : (p : ℕ) (d e : Entry) → Contains (entries_in m end) (p, d) → Contains (entries_in m end) (p, e) → d ≡ e
  same_entry p d e i j = one_entry 0 (entries_in m end) p d e (logs_rise m end) (has_contained (entries_in m end) (p, d) i) (has_contained (entries_in m end) (p, e) j)

  committed : (k x p : ℕ) → Tells m (trace m end) k x (told.Committed p) → puts_of m (trace m end) k x ≢ [] → (y : HasRecordOf (entries_in m end) p k x) × (commits m h.objects (entries_in m end) p y.entry ≡ true)
  committed k x p tells puts = (record_in p k x its, by ((kept k).committed x p tells))
    where
      its : HasRecord m end p k x
      its = reply_of k x (told.Committed p) tells puts

      by : HasOutcome m h.objects (entries_in m end) p true ⊎ (IsOver m h.objects (entries_in m end) (logs_rise m end) listed k (client m end k) x × Reads k (trace m end) x p) → commits m h.objects (entries_in m end) p its.record_at ≡ true
      by (inl out) = ap (λ (d : Entry). commits m h.objects (entries_in m end) p d) (same_entry p its.record_at out.entry its.here out.here) ∙ out.outcome
      by (inr y) = absurd (puts y.1.puts)

  failed : (k x p : ℕ) (o : Oid) (part : Part) (seen now : ℕ) → Tells m (trace m end) k x (told.Aborted p o part seen now) → HasFailed m h.objects (entries_in m end) (trace m end) p k x o part seen now
  failed k x p o part seen now tells = record {
    rec = record_in p k x its;
    outcome = ap (λ (d : Entry). commits m h.objects (entries_in m end) p d) (sym same) ∙ f.out.outcome;
    read = subst (λ (d : Entry). Contains (reads_of d) (record { oid = o; part = part; version = seen })) same f.read;
    is = f.is;
    differs = f.differs;
  }
    where
      y : (z : Told m) × Has end.told z × (◌≡◌ {A = MarkOf m} (record { event = tells.event; client = k; tx = x; what = told.Aborted p o part seen now }) z.mark)
      y = has_image (λ (z : Told m). z.mark) end.told (record { event = tells.event; client = k; tx = x; what = told.Aborted p o part seen now }) (has_contained (trace m end) (record { event = tells.event; client = k; tx = x; what = told.Aborted p o part seen now }) tells.here)

      f : IsFailed m h.objects (entries_in m end) (logs_rise m end) listed p o part seen now
      f = true_reply m h end listed right kept y.0 (told.Aborted p o part seen now) (contained_has end.told y.0 y.1) (sym (ap (λ (u : MarkOf m). u.what) y.2)) refl

      its : HasRecord m end p k x
      its = reply_of k x (told.Aborted p o part seen now) tells

      same : f.out.entry ≡ its.record_at
      same = same_entry p f.out.entry its.record_at f.out.here its.here

  -- What committed without puts.

  abbrev Is : ℕ → WhatOf m → Type 0
  Is p (told.Committed q) = q ≡ p
  Is p what = ⊥

  not_harmless : (p : ℕ) (what : WhatOf m) → Is p what → Harmless m what → ⊥
  not_harmless p (told.Committed q) y z = z
  not_harmless p what y z = y

  module _ (k x p : ℕ) (positive : 0 < x) (t : ToldIn m h ms k x (told.Committed p)) where
    abbrev c : Client m
    c = client m (at t.before) k

    book : BookOf m k (trace m (at t.before)) c
    book = run_book m t.before (start m h) (start_book m h) k

    was : IsKept m h.objects (entries_in m end) (logs_rise m end) listed k (trace m (at t.before)) c
    was = kept_at t.before (Takes t.event ∷ t.after) t.split k

    says : (n : ℕ) (what : WhatOf m) → t.note ≡ note m n what → Is p what
    says n what e = subst (Is p) (sym t.says ∙ ap (λ (y : NoteOf m). y.what) e) refl

    number : (n : ℕ) (what : WhatOf m) → t.note ≡ note m n what → n ≡ x
    number n what e = sym (ap (λ (y : NoteOf m). y.tx) e) ∙ t.number

    -- something was put before
    wrote_before : puts_of m (trace m (at t.before)) k x ≢ [] → puts_of m (trace m end) k x ≢ []
    wrote_before some none =
        let g = since t.before (Takes t.event ∷ t.after) t.split in
        none_before m (puts_of m (trace m (at t.before)) k x) (puts_of m g.0 k x) some (sym (puts_more m (trace m (at t.before)) g.0 k x) ∙ (ap (λ (tr : Trace m). puts_of m tr k x) (sym g.1) ∙ none))

    -- by the transaction whose end waits
    by_end : (w : Work m) (what : WhatOf m) → c.work ≡ Some w → IsEnd m w.command → t.note ≡ note m (tx_number m c.tx) what → puts_of m (trace m end) k x ≢ []
    by_end w what has ends e = by c.tx refl (number (tx_number m c.tx) what e)
      where
        by : (o : Option Tx) → c.tx ≡ o → tx_number m o ≡ x → puts_of m (trace m end) k x ≢ []
        by None is z = absurd (omega (arith, z, positive))
        by (Some u) is z =
            let o = (was.«open» u is).0.0 in
            wrote_before (λ none. some_ops m u.writes (book.ending w u has ends is) o.ops (o.puts ∙ (ap (λ (n : ℕ). puts_of m (trace m (at t.before)) k n) z ∙ none)))

    no_items : (ws : List WriteOp) → (length ws == 0) ≡ true → ws ≡ []
    no_items [] e = refl
    no_items (w ∷ ws) e = let n : suc (length ws) ≡ 0 = same_number (suc (length ws)) 0 e in absurd (omega (arith, n))

    end_plain : (event y q : ℕ) (z : ℕ) → LeavesAlone m h.objects (entries_in m end) k z (map (mark m event k) (note m y told.End ∷ note m y (told.Committed q) ∷ []))
    end_plain event y q z u (inl e) c d = subst (λ (v : WhatOf m). IsPlain m v) (sym (ap (λ (v : MarkOf m). v.what) e)) tt
    end_plain event y q z u (inr (inl e)) c d = subst (λ (v : WhatOf m). IsPlain m v) (sym (ap (λ (v : MarkOf m). v.what) e)) tt
    end_plain event y q z u (inr (inr i)) c d = absurd i

    abbrev next : World m
    next = happens m (at t.before) t.event

    done : (u : Tx) → c.tx ≡ Some u → (length u.writes == 0) ≡ true → t.moved.now.tx ≡ None → t.moved.notes ≡ note m u.number told.End ∷ note m u.number (told.Committed (snapshot_or m u.snapshot)) ∷ []
        → t.note ≡ note m u.number (told.Committed (snapshot_or m u.snapshot)) → Reads k (trace m end) x p
    done u has none gone notes e =
        subst (λ (n : ℕ). Reads k (trace m end) n p) (number u.number (told.Committed (snapshot_or m u.snapshot)) e)
        (subst (λ (n : ℕ). Reads k (trace m end) u.number n) (says u.number (told.Committed (snapshot_or m u.snapshot)) e)
        (subst (λ (tr : Trace m). Reads k tr u.number (snapshot_or m u.snapshot)) (sym grown) (reads_stay m h.objects (entries_in m end) (logs_rise m end) listed k u.number (snapshot_or m u.snapshot) (trace m next) later.0 alone now)))
      where
        now : Reads k (trace m next) u.number (snapshot_or m u.snapshot)
        now = subst (λ (tr : Trace m). Reads k tr u.number (snapshot_or m u.snapshot)) (sym (t.traced ∙ ap (λ (ns : List (NoteOf m)). trace m (at t.before) ++ map (mark m (at t.before).event k) ns) notes))
            (reads_stay m h.objects (entries_in m end) (logs_rise m end) listed k u.number (snapshot_or m u.snapshot) (trace m (at t.before)) (map (mark m (at t.before).event k) (note m u.number told.End ∷ note m u.number (told.Committed (snapshot_or m u.snapshot)) ∷ []))
            (end_plain (at t.before).event u.number (snapshot_or m u.snapshot) u.number)
            (reads_only m h.objects (entries_in m end) (logs_rise m end) listed k (trace m (at t.before)) u (was.«open» u has).0.0 (no_items u.writes none)))

        books : WorldBook m next
        books = step_book m (at t.before) t.event (run_book m t.before (start m h) (start_book m h))

        later : (zs : Trace m) × (trace m (run m t.after next) ≡ trace m next ++ zs)
        later = run_grows m t.after next books

        end_is : end ≡ run m t.after next
        end_is = ap (λ (zs : Moves m). at zs) t.split ∙ (run_both m t.before (Takes t.event ∷ t.after) (start m h) ∙ run_next m t.event t.after (at t.before))

        grown : trace m end ≡ trace m next ++ later.0
        grown = ap (λ (v : World m). trace m v) end_is ∙ later.1

        only : Only m u.number (None' m) (client m next k)
        only = subst (λ (d : Client m). Only m u.number (None' m) d) (sym t.now) (shut_turned m k (trace m (at t.before)) c book u has t.moved (λ y z same. no_some y (sym gone ∙ z)) t.turn)

        alone : LeavesAlone m h.objects (entries_in m end) k u.number later.0
        alone = run_plain m h.objects (entries_in m end) k u.number (was.«open» u has).0.1 (None' m) t.after next later.0 books only later.1

    put_or_read : (puts_of m (trace m end) k x ≢ []) ⊎ Reads k (trace m end) x p
    put_or_read = by (tale m c t.moved t.turn t.note t.here)
      where
        by : Tale m c (ended_by m c t.moved t.turn) t.moved t.note → (puts_of m (trace m end) k x ≢ []) ⊎ Reads k (trace m end) x p
        by (Tells0 z) = let n = t.number in absurd (omega (arith, z, n, positive))
        by (TellsNothing z) = absurd (subst (Harmless m) t.says z)
        by (TellsDone u has none gone notes e) = inr (done u has none gone notes e)
        by (TellsDropped idle gone e) = absurd (says _ _ e)
        by (TellsLost w a y q b has z rec f e) = absurd (says _ _ e)
        by (TellsWritten w a q page has z f e) = inl (by_end w (told.Committed q) has (subst (Suits m w.command) z (book.suits w has)) e)
        by (TellsDecided w a what has f z e) = inl (by_end w what has f e)
        by (TellsJudged w what has f idle of e) = inl (by_end w what has f e)
        by (TellsMarked w a n o j q page has z f e) =
            let d = (subst (DraftOf m k (trace m (at t.before)) c.tx c.begun) z (book.drafts w has)).put in
            let i = some_put m (trace m (at t.before)) k n directory (m.mark_op o j) d.event (has_contained (trace m (at t.before)) (record { event = d.event; client = k; tx = n; what = told.Put directory (m.mark_op o j) }) d.here) in
            inl (wrote_before (λ none. has_some m (puts_of m (trace m (at t.before)) k n) (directory, m.mark_op o j) i (ap (λ (y : ℕ). puts_of m (trace m (at t.before)) k y) (number n (told.Committed q) e) ∙ none)))
        by (TellsMarkLost w a n o j q b has z f e) = absurd (says _ _ e)

  reads : (k x p : ℕ) → Tells m (trace m end) k x (told.Committed p) → puts_of m (trace m end) k x ≡ [] → Reads k (trace m end) x p
  reads k x p tells none = by (put_or_read k x p tells.number (all_told m h ms (record { event = tells.event; client = k; tx = x; what = told.Committed p }) (has_contained (trace m end) (record { event = tells.event; client = k; tx = x; what = told.Committed p }) tells.here)))
    where
      by : (puts_of m (trace m end) k x ≢ []) ⊎ Reads k (trace m end) x p → Reads k (trace m end) x p
      by (inl some) = absurd (some none)
      by (inr y) = y

  abbrev word_is : WhatOf m → Bool
  word_is (told.Committed p) = true
  word_is what = false

  -- a reply that tells of no commit is true
  truth : (k x event : ℕ) (what : WhatOf m) → Contains (trace m end) (record { event = event; client = k; tx = x; what = what }) → word_is what ≡ false → TrueWhat m h.objects (entries_in m end) (logs_rise m end) listed what
  truth k x event what i =
      let y = has_image (λ (z : Told m). z.mark) end.told (record { event = event; client = k; tx = x; what = what }) (has_contained (trace m end) (record { event = event; client = k; tx = x; what = what }) i) in
      λ never. true_reply m h end listed right kept y.0 what (contained_has end.told y.0 y.1) (sym (ap (λ (u : MarkOf m). u.what) y.2)) never

  tells_true : TellsTrue m h.objects (entries_in m end) (trace m end)
  unfolding history history_of
  tells_true = record {
    answers = λ k x o q s a tells. truth k x tells.event (told.Asked o q s a) tells.here refl;
    one_snapshot = λ k x o q a b s t c d i j. snapshots k x o q a b s t c d i j;
    records = is_record;
    once = λ p q k x y z. once p q y.entry z.entry y.here z.here (y.client ∙ sym z.client) (one_tag y.entry.body z.entry.body y.commit z.commit) (y.number ∙ sym z.number);
    committed = committed;
    only_read = λ k x p o q s a tells none asked. (reads k x p tells none).asks o q s a asked;
    did_nothing = λ k x p tells none idle. (reads k x p tells none).idle idle;
    aborted = failed;
    unsure = λ k x p q tells. record_in p k x (reply_of k x (told.Unsure p q) tells);
    forgotten = λ k x p n q tells y. refused.forgotten k x p n q tells (record_out q k x y);
    dropped = λ k x q tells y. refused.dropped k x q tells (record_out q k x y);
    fates = λ k x p b told'. truth k x told'.event (told.Fate p (Some b)) told'.here refl;
    decided = λ k x p b told'. truth k x told'.event (told.Decided p (Some b)) told'.here refl;
    order = order;
  }

  legal : Legal m end.cluster.objects (history m end) (trace m end)
  unfolding history history_of
  legal = subst (λ (os : List Oid). Legal m os (history_after m [] (entries_in m end)) (trace m end)) (sym right.objects_are) (telling_is_legal m apart h.objects (entries_in m end) (trace m end) (logs_rise m end) tells_true)

-- what each append does at its end, a record's does
pub records_end : (m : Meaning) (h : Header) (ms : Moves m) (w : World m) → AppendsEnd m h ms w → RecordsEnd m h ms w
records_end m h ms w ends before after e at k a x has is = so x (ends before after e at k a x has is)
  where
    so : (x : AppendEnd) → EndsSo m (entries_in m w) a.draft x → RecordEndsSo m (entries_in m w) a.draft x
    so (At p page) z = λ commit. z
    so (Forgotten p below) z = z
    so (Full limit) z = z

pub runs_are_legal : (m : Meaning) → Apart m → RunsAreLegal m
runs_are_legal m apart h ms w r finds ends left own once records replies precede order =
    subst (λ (u : World m). ClientsFind m h ms u → AppendsEnd m h ms u → EntriesOwn m h ms u → EntriesOnce m u → RecordsOwn m u → RepliesHaveRecords m u → AsksPrecede m u → RefusedLeaveNone m u → InOrder m (history m u) (trace m u)
    → Legal m u.cluster.objects (history m u) (trace m u))
    (sym r.goes.is) (λ finds ends own once records replies precede refused order. legal m apart h ms (subst (λ (u : World m). Reaches m h ms u) r.goes.is r) finds ends own once records replies precede refused order)
    finds ends own once records replies precede (replies_are_known m h ms w r left precede (records_end m h ms w ends)).refused order
