-- The books of transactions, by what the log that the run comes to has of their records.
use Rattle.std.proofs.Common.{◌≡◌, ◌⊎◌, ℕ, ◌+◌, ◌<◌, ◌≤◌, [], ◌∷◌, ◌++◌, true, false, refl, sym, ap, ◌∙◌, subst, inl, inr, arith, Option, Some, None, Contains}
use Rattle.tg_base.specs.Clusters.{Header}
use Rattle.tg_base.specs.declared.ids.Oid.{Oid}
use Rattle.tg_entry.specs.declared.entry.Body.TheVariants.{Commit}
use Rattle.tg_entry.specs.declared.entry.Entry.{Entry}
use Rattle.tg_kind.specs.Meaning.{Meaning}
use Rattle.tg_model.specs.declared.command.Command.TheVariants as cmd
use Rattle.tg_model.specs.declared.command.Event.TheVariants.{Command as Commands}
use Rattle.tg_model.specs.declared.trace.What.TheVariants as told
use Rattle.tg_model.specs.Kinds.{EventOf, WhatOf}
use Rattle.tg_model.specs.Traces.{Trace, Tells}
use Rattle.tg_protocol.specs.Words.{directory}
use Rattle.tg_protocol.specs.Entries.{is_commit}
use Rattle.tg_entry.specs.Records.{linked}
use Rattle.tg_protocol.specs.Appending.{Append}
use Rattle.tg_protocol.specs.Views.{Entries}
use Rattle.tg_protocol.specs.Transactions.{Tx, commit_record}
use Rattle.tg_protocol.specs.Clients.{Purpose, Writes, Judged, Decides, Rescues, Saves, Marks, Task, Appending, Work, Client, write_of}
use Rattle.tg_protocol.specs.Answers.{Moved, mark_notes}
use Rattle.tg_protocol.specs.ClientSteps.{task_in, ClientTurn, called}
use Rattle.tg_protocol.specs.Worlds.{World, start, client, happens, trace}
use Rattle.tg_protocol.specs.Runs.{Moves, Takes, Reaches, run}
use Rattle.tg_protocol.specs.Holding.{append_of, append_by}
use Rattle.tg_law_replies.specs.History.Worlds.{entries_in}
use Rattle.tg_law_replies.proofs.History.Members.{Has, has_contained, contained_has, has_left}
use Rattle.tg_law_replies.specs.Books.Booked.{IsFresh, IsClosed, IsClosedMark, IsBookedTurn}
use Rattle.tg_law_replies.specs.Books.Kept.{WasLeft, RecordsLeft, AsksPrecede}
use Rattle.tg_law_replies.proofs.Books.Effects.{IsEnd, Suits, SuitsPurpose}
use Rattle.tg_law_replies.proofs.Books.Commands.{Turned}
use Rattle.tg_law_replies.proofs.Books.Turns.{no_some, same_some, BookOf, IsOfTx, IsOfMark, DraftFor, DraftOf, tells_on}
use Rattle.tg_law_replies.proofs.Books.Closing.{Only, Held, None', DraftsAre, MarkBody, MarkBegun, shut_turned, mark_turned}
use Rattle.tg_law_replies.proofs.Books.Worlds.{compare, regroup, cancel, WorldBook, step_book, run_book, start_book, run_both, run_next, run_grows, run_begun, run_only, run_held, NeverFull, HeldOr, asked_in}

module _ (m : Meaning) where
  -- the op of each mark that was asked for is read as it was spelled
  abbrev pub MarksSpelled : Moves m → Type 0
  MarksSpelled ms = (k n : ℕ) (o : Oid) → Contains ms (Takes (Commands k (cmd.Forget o n))) → m.read directory (m.spell (m.mark_op o n)) ≡ Some (m.mark_op o n)

  -- so it is in a run, whose commands are lawful
  pub marks_spelled : (h : Header) (ms : Moves m) (w : World m) → Reaches m h ms w → MarksSpelled ms
  marks_spelled h ms w r k n o i = (r.goes.lawful (Takes (Commands k (cmd.Forget o n))) i).1.1.read

  -- the append that a client has in hand
  pub record InHand (c : Client m) (a : Append) : Type 0 where
    pub work : Work m
    pub works : c.work ≡ Some work
    pub purpose : Purpose m
    pub task : task_in m work.hand ≡ Appending a purpose

  pub in_hand : (c : Client m) (a : Append) → append_by m c.work ≡ Some a → InHand c a
  in_hand c a e = by c.work refl e
    where
      task : (w : Work m) → c.work ≡ Some w → (t : Task m) → task_in m w.hand ≡ t → append_of m t ≡ Some a → InHand c a
      task w is (Appending b y) at z = record { work = w; works = is; purpose = y; task = at ∙ ap (λ (x : Append). Appending x y) (same_some b a z) }
      task w is t at z = absurd (no_some a z)

      by : (w : Option (Work m)) → c.work ≡ w → append_by m w ≡ Some a → InHand c a
      by None is z = absurd (no_some a z)
      by (Some w) is z = task w is (task_in m w.hand) refl z

  module _ (h : Header) where
    abbrev world : Moves m → World m
    world xs = run m xs (start m h)

    books_in : (xs : Moves m) → WorldBook m (world xs)
    books_in xs = run_book m xs (start m h) (start_book m h)

    -- a world of the run, and a later one
    beyond : (xs ys : Moves m) → world (xs ++ ys) ≡ run m ys (world xs)
    beyond xs ys = run_both m xs ys (start m h)

    -- a commit record, in a world in which its client has it in hand
    pub record Drafted (e : Entry) (before : Moves m) : Type 0 where
      pub append : Append
      pub hand : InHand (client m (world before) e.head.client) append
      pub commit : is_commit append.draft ≡ true
      pub body : e.body ≡ append.draft.body
      pub number : e.head.number ≡ append.draft.head.number
      pub draft : DraftFor m e.head.client (trace m (world before)) (client m (world before) e.head.client).tx (client m (world before) e.head.client).begun append.draft hand.purpose
      pub suits : SuitsPurpose m hand.work.command hand.purpose

    pub drafted : (e : Entry) (before : Moves m) (a : Append) → append_by m (client m (world before) e.head.client).work ≡ Some a → e ≡ linked a.draft e.head.streams → is_commit e ≡ true → Drafted e before
    drafted e before a begun draft commit = record {
      append = a;
      hand = hand;
      commit = ap (λ (d : Entry). is_commit d) (sym draft) ∙ commit;
      body = ap (λ (d : Entry). d.body) draft;
      number = ap (λ (d : Entry). d.head.number) draft;
      draft = subst (DraftOf m e.head.client (trace m (world before)) (client m (world before) e.head.client).tx (client m (world before) e.head.client).begun) hand.task (book.drafts hand.work hand.works);
      suits = subst (Suits m hand.work.command) hand.task (book.suits hand.work hand.works);
    }
      where
        hand : InHand (client m (world before) e.head.client) a
        hand = in_hand (client m (world before) e.head.client) a begun

        book : BookOf m e.head.client (trace m (world before)) (client m (world before) e.head.client)
        book = books_in before e.head.client

    -- it is the record of a transaction whose end waits there, or that of a mark
    pub record AsTx (k : ℕ) (e : Entry) (v : World m) : Type 0 where
      pub of : Tx
      pub held : Held m of (client m v k)
      pub number : e.head.number ≡ of.number
      pub body : e.body ≡ Commit of.reads of.writes
      pub ended : Tells m (trace m v) k of.number told.End

    pub record AsMark (k : ℕ) (e : Entry) (v : World m) : Type 0 where
      pub number : e.head.number ≡ (client m v k).begun
      pub positive : 0 < e.head.number
      pub later : (t : Tx) → (client m v k).tx ≡ Some t → t.number < e.head.number
      pub oid : Oid
      pub mark : ℕ
      pub body : e.body ≡ Commit [] (write_of m directory (m.mark_op oid mark) ∷ [])
      pub put : Tells m (trace m v) k e.head.number (told.Put directory (m.mark_op oid mark))
      pub work : Work m
      pub works : (client m v k).work ≡ Some work
      pub command : work.command ≡ cmd.Forget oid mark

    as_tx : (e : Entry) (before : Moves m) (d : Drafted e before) → IsOfTx m e.head.client (trace m (world before)) (client m (world before) e.head.client).tx d.append.draft → IsEnd m d.hand.work.command → AsTx e.head.client e (world before)
    unfolding commit_record
    as_tx e before d x ends = record {
      of = x.of;
      held = (x.is, (d.hand.work, d.hand.works, ends));
      number = d.number ∙ ap (λ (i : Entry). i.head.number) x.draft;
      body = d.body ∙ ap (λ (i : Entry). i.body) x.draft;
      ended = x.ended;
    }

    as_mark : (e : Entry) (before : Moves m) (d : Drafted e before) (n : ℕ) (o : Oid) (j : ℕ)
        → IsOfMark m e.head.client (trace m (world before)) (client m (world before) e.head.client).tx (client m (world before) e.head.client).begun n o j d.append.draft → d.hand.work.command ≡ cmd.Forget o j → AsMark e.head.client e (world before)
    as_mark e before d n o j x asked = let same = d.number ∙ x.draft.1 in let p = x.positive in record {
      number = same ∙ x.number;
      positive = omega (arith, same, p);
      later = λ t is. let less = x.later t is in omega (arith, same, less);
      oid = o;
      mark = j;
      body = d.body ∙ x.draft.2;
      put = subst (λ (i : ℕ). Tells m (trace m (world before)) e.head.client i (told.Put directory (m.mark_op o j))) (sym same) x.put;
      work = d.hand.work;
      works = d.hand.works;
      command = asked;
    }

    pub drafted_as : (e : Entry) (before : Moves m) (d : Drafted e before) → AsTx e.head.client e (world before) ⊎ AsMark e.head.client e (world before)
    drafted_as e before d = by d.hand.purpose d.draft d.suits
      where
        no : false ≡ true → ⊥
        no z = cc

        by : (y : Purpose m) → DraftFor m e.head.client (trace m (world before)) (client m (world before) e.head.client).tx (client m (world before) e.head.client).begun d.append.draft y → SuitsPurpose m d.hand.work.command y
            → AsTx e.head.client e (world before) ⊎ AsMark e.head.client e (world before)
        by Writes x s = inl (as_tx e before d x s)
        by Judged x s = inl (as_tx e before d x s)
        by (Marks n o j) x s = inr (as_mark e before d n o j x s)
        by (Decides what) x s = absurd (no (sym x ∙ d.commit))
        by (Rescues what) x s = absurd (no (sym x ∙ d.commit))
        by (Saves o u) x s = absurd (no (sym x ∙ d.commit))

    -- from a world of the run to a later one
    pub on_tells : (xs ys : Moves m) (k x : ℕ) (what : WhatOf m) → Tells m (trace m (world xs)) k x what → Tells m (trace m (world (xs ++ ys))) k x what
    on_tells xs ys k x what t =
        let g = run_grows m ys (world xs) (books_in xs) in
        subst (λ (v : World m). Tells m (trace m v) k x what) (sym (beyond xs ys)) (subst (λ (tr : Trace m). Tells m tr k x what) (sym g.1) (tells_on m (trace m (world xs)) g.0 k x what t))

  module _ (h : Header) (ms : Moves m) (left : RecordsLeft m h ms (run m ms (start m h))) (asks : AsksPrecede m (run m ms (start m h))) where
    abbrev end : World m
    end = run m ms (start m h)

    abbrev es : Entries
    es = entries_in m end

    abbrev at : Moves m → World m
    at xs = run m xs (start m h)

    books : (xs : Moves m) → WorldBook m (at xs)
    books xs = run_book m xs (start m h) (start_book m h)

    -- a world of the run, and a later one
    further : (xs ys : Moves m) → at (xs ++ ys) ≡ run m ys (at xs)
    further xs ys = run_both m xs ys (start m h)

    -- a commit record of the log, where it was begun
    pub record Begun (e : Entry) : Type 0 where
      pub was : WasLeft m h ms end e
      pub drafted : Drafted h e was.before

    pub begun_of : (p : ℕ) (e : Entry) → Contains es (p, e) → is_commit e ≡ true → Begun e
    begun_of p e i commit = let was = left p e i commit in record { was = was; drafted = drafted h e was.before was.append was.begun was.draft commit }

    begun_as : (e : Entry) (b : Begun e) → AsTx h e.head.client e (at b.was.before) ⊎ AsMark h e.head.client e (at b.was.before)
    begun_as e b = drafted_as h e b.was.before b.drafted

    -- its number is one of those that its client has begun
    pub begun_number : (e : Entry) (b : Begun e) → (0 < e.head.number) × (e.head.number ≤ (client m (at b.was.before) e.head.client).begun)
    begun_number e b = by (begun_as e b)
      where
        by : AsTx h e.head.client e (at b.was.before) ⊎ AsMark h e.head.client e (at b.was.before) → (0 < e.head.number) × (e.head.number ≤ (client m (at b.was.before) e.head.client).begun)
        by (inl x) = let n = books b.was.before e.head.client in let y = n.number x.of x.held.0 in let p = y.0 in let le = y.1 in let is = x.number in (omega (arith, p, is), omega (arith, le, is))
        by (inr x) = let is = x.number in (x.positive, omega (arith, is))

    -- from a world of the run to a later one
    pub on_begun : (k : ℕ) (xs ys : Moves m) → (client m (at xs) k).begun ≤ (client m (at (xs ++ ys)) k).begun
    on_begun k xs ys = subst (λ (v : World m). (client m (at xs) k).begun ≤ (client m v k).begun) (sym (further xs ys)) (run_begun m k ys (at xs) (books xs))

    on_only : (k n : ℕ) (Q : Entry → Type 0) (xs ys : Moves m) → Only m n Q (client m (at xs) k) → Only m n Q (client m (at (xs ++ ys)) k)
    on_only k n Q xs ys o = subst (λ (v : World m). Only m n Q (client m v k)) (sym (further xs ys)) (run_only m k n Q ys (at xs) (books xs) o)

    abbrev Any : Entry → Type 0
    Any d = Unit {0}

    any_drafts : (n : ℕ) (t : Task m) → DraftsAre m n Any t
    any_drafts n (Appending a y) = λ commit is. tt
    any_drafts n t = tt

    -- a transaction that is open, whose record was begun before
    abbrev pub Seal : Entry → Tx → ℕ → Moves m → Type 0
    Seal e x p pre = Tells m (trace m (at pre)) e.head.client x.number told.End × (e.body ≡ Commit x.reads x.writes) × ((s : ℕ) → x.snapshot ≡ Some s → s ≤ p)

    at_end : (pre post : Moves m) → ms ≡ pre ++ post → at (pre ++ post) ≡ end
    at_end pre post split = ap at (sym split)

    snapshot_before : (x : Tx) (p : ℕ) (e : Entry) (pre post : Moves m) → ms ≡ pre ++ post → (client m (at pre) e.head.client).tx ≡ Some x → Contains es (p, e) → is_commit e ≡ true → e.head.number ≡ x.number → (s : ℕ) → x.snapshot ≡ Some s → s ≤ p
    snapshot_before x p e pre post split is i commit number s snap =
        let a = (books pre e.head.client).snap x s is snap in
        asks e.head.client x.number p s a.oid a.ask a.answer
        (subst (λ (v : World m). Tells m (trace m v) e.head.client x.number (told.Asked a.oid a.ask s a.answer)) (at_end pre post split) (on_tells h pre post e.head.client x.number (told.Asked a.oid a.ask s a.answer) a.tells))
        (record { record_at = e; here = i; commit = commit; of_client = refl; of_number = number })

    -- so is one whose end waits
    pub record OpenAt (e : Entry) (x : Tx) (pre : Moves m) : Type 0 where
      pub ended : Tells m (trace m (at pre)) e.head.client x.number told.End
      pub body : e.body ≡ Commit x.reads x.writes
      pub held : Held m x (client m (at pre) e.head.client)

    pub before_open : (x : Tx) (p : ℕ) (e : Entry) (pre post mid : Moves m) → ms ≡ pre ++ post → (client m (at pre) e.head.client).tx ≡ Some x → Contains es (p, e) → is_commit e ≡ true → (b : Begun e) → e.head.number ≡ x.number
        → pre ≡ b.was.before ++ mid → OpenAt e x pre
    before_open x p e pre post mid split is i commit b number mid_is = by (begun_as e b)
      where
        c : ℕ
        c = e.head.client

        first : Moves m
        first = b.was.before

        now : at pre ≡ run m mid (at b.was.before)
        now = ap at mid_is ∙ further b.was.before mid

        by_only : Only m e.head.number Any (client m (at b.was.before) e.head.client) → OpenAt e x pre
        by_only o = absurd ((subst (λ (xs : Moves m). Only m e.head.number Any (client m (at xs) e.head.client)) (sym mid_is) (on_only e.head.client e.head.number Any b.was.before mid o)).1 x is (sym number))

        grown : (ys : Trace m) × (trace m (run m mid (at b.was.before)) ≡ trace m (at b.was.before) ++ ys)
        grown = run_grows m mid (at b.was.before) (books b.was.before)

        later : (zs : Trace m) × (trace m (run m post (at pre)) ≡ trace m (at pre) ++ zs)
        later = run_grows m post (at pre) (books pre)

        never : (t : AsTx h e.head.client e (at b.was.before)) → NeverFull m e.head.client t.of.number grown.0
        never t u l j k n w = b.was.stays u l (contained_has b.was.since u (subst (λ (zs : Trace m). Has zs u) (sym since) (has_left grown.0 later.0 u j))) k (n ∙ sym t.number) w
          where
            since : b.was.since ≡ grown.0 ++ later.0
            since = cancel (trace m (at b.was.before)) b.was.since (grown.0 ++ later.0)
                (sym b.was.traced ∙ (ap (λ (v : World m). trace m v) (sym (at_end pre post split) ∙ further pre post) ∙ (later.1 ∙ (ap (λ (v : World m). trace m v ++ later.0) now ∙ (ap (λ (tr : Trace m). tr ++ later.0) grown.1 ∙ regroup (trace m (at b.was.before)) grown.0 later.0)))))

        held_now : (t : AsTx h e.head.client e (at b.was.before)) → HeldOr m e.head.client t.of (at pre) → OpenAt e x pre
        held_now t (inl held) =
            let same = same_some t.of x (sym held.0 ∙ is) in
            record {
              ended = subst (λ (y : Tx). Tells m (trace m (at pre)) e.head.client y.number told.End) same (subst (λ (xs : Moves m). Tells m (trace m (at xs)) e.head.client t.of.number told.End) (sym mid_is) (on_tells h b.was.before mid e.head.client t.of.number told.End t.ended));
              body = t.body ∙ ap (λ (y : Tx). Commit y.reads y.writes) same;
              held = subst (λ (y : Tx). Held m y (client m (at pre) e.head.client)) same held;
            }
        held_now t (inr o) = absurd (o.1 x is (sym number ∙ t.number))

        by : AsTx h e.head.client e (at b.was.before) ⊎ AsMark h e.head.client e (at b.was.before) → OpenAt e x pre
        by (inl t) = held_now t (subst (HeldOr m e.head.client t.of) (sym now) (run_held m e.head.client t.of mid (at b.was.before) grown.0 (books b.was.before) grown.1 (never t) (inl t.held)))
        by (inr k) = by_only ((let n = k.number in omega (arith, n)), (λ t j same. let less = k.later t j in omega (arith, less, same)), (λ w j. any_drafts e.head.number (task_in m w.hand)))

    pub before_closed : (x : Tx) (p : ℕ) (e : Entry) (pre post mid : Moves m) → ms ≡ pre ++ post → (client m (at pre) e.head.client).tx ≡ Some x → Contains es (p, e) → is_commit e ≡ true → (b : Begun e) → e.head.number ≡ x.number
        → pre ≡ b.was.before ++ mid → Seal e x p pre
    before_closed x p e pre post mid split is i commit b number mid_is =
        let o = before_open x p e pre post mid split is i commit b number mid_is in
        (o.ended, o.body, snapshot_before x p e pre post split is i commit number)

    -- A step of the run.

    module _ (pre post : Moves m) (ev : EventOf m) (split : ms ≡ pre ++ Takes ev ∷ post) where
      abbrev w : World m
      w = at pre

      abbrev v : World m
      v = happens m w ev

      after_is : (mid : Moves m) → at (pre ++ Takes ev ∷ mid) ≡ run m mid v
      after_is mid = further pre (Takes ev ∷ mid) ∙ run_next m ev mid w

      -- where a number is of no open transaction after the step, an append that has it began later is such a one
      pub after_only : (e : Entry) (n : ℕ) (Q : Entry → Type 0) (b : Begun e) (mid : Moves m) → b.was.before ≡ pre ++ Takes ev ∷ mid → e.head.number ≡ n → Only m n Q (client m v e.head.client) → Q b.drafted.append.draft
      after_only e n Q b mid is number o = subst (DraftsAre m n Q) b.drafted.hand.task (now.2 b.drafted.hand.work b.drafted.hand.works) b.drafted.commit (sym b.drafted.number ∙ number)
        where
          now : Only m n Q (client m (at b.was.before) e.head.client)
          now = subst (λ (u : World m). Only m n Q (client m u e.head.client)) (sym (ap at is ∙ after_is mid)) (run_only m e.head.client n Q mid v (step_book m w ev (books pre)) o)

      -- the turn of a client in this step
      module _ (k : ℕ) (t : ClientTurn m) (r : Moved m) (turn : Turned m (client m w k) r) (now : t.now ≡ called m r.now) (notes : t.notes ≡ r.notes) (after : client m v k ≡ t.now) where
        as_now : client m v k ≡ called m r.now
        as_now = after ∙ now

        closes : (x : Tx) → (client m w k).tx ≡ Some x → ((y : Tx) → t.now.tx ≡ Some y → y.number ≡ x.number → ⊥) → IsClosed m es (trace m w) k x
        closes x is gone p e i commit client_is number = subst (λ (j : ℕ). Tells m (trace m w) j x.number told.End × (e.body ≡ Commit x.reads x.writes) × ((s : ℕ) → x.snapshot ≡ Some s → s ≤ p)) client_is (by (compare b.was.before b.was.after pre post (Takes ev) (sym b.was.split ∙ split)))
          where
            b : Begun e
            b = begun_of p e i commit

            by : ((mid : Moves m) × (pre ≡ b.was.before ++ mid)) ⊎ ((mid : Moves m) × (b.was.before ≡ pre ++ Takes ev ∷ mid)) → Seal e x p pre
            by (inl q) = before_closed x p e pre (Takes ev ∷ post) q.0 split (subst (λ (j : ℕ). (client m w j).tx ≡ Some x) (sym client_is) is) i commit b number q.1
            by (inr q) = absurd (after_only e x.number (None' m) b q.0 q.1 number only)
              where
                only : Only m x.number (None' m) (client m v e.head.client)
                only = subst (λ (j : ℕ). Only m x.number (None' m) (client m v j)) (sym client_is) (subst (λ (d : Client m). Only m x.number (None' m) d) (sym as_now) (shut_turned m k (trace m w) (client m w k) (books pre k) x is r (λ y z. gone y (ap (λ (d : Client m). d.tx) now ∙ z)) turn))

        begins : IsFresh m es (trace m w) k ((client m w k).begun + 1)
        begins u i client_is number = let le = (books pre k).below u (has_contained (trace m w) u i) client_is in absurd (omega (arith, le, number))

        marked : MarksSpelled ms → (o : Oid) (j : ℕ) → t.notes ≡ mark_notes m ((client m w k).begun + 1) o j → IsClosedMark m es k ((client m w k).begun + 1) o j
        marked marks o j is = (spelled, λ p e i commit client_is number. body p e i commit client_is number (begun_of p e i commit))
          where
            found : MarkBegun m k (trace m w) (client m w k) (books pre k) r o j
            found = mark_turned m k (trace m w) (client m w k) (books pre k) r o j (sym notes ∙ is) turn

            spelled : m.read directory (m.spell (m.mark_op o j)) ≡ Some (m.mark_op o j)
            spelled = subst (λ (op : m.op). m.read directory (m.spell op) ≡ Some op) found.same_op (marks k found.mark found.oid (contained_has ms _ (subst (λ (xs : Moves m). Has xs (Takes (Commands k (cmd.Forget found.oid found.mark)))) (sym split) (has_left pre (Takes ev ∷ post) _ (asked_in m h pre k found.mark found.oid found.work found.works found.command)))))

            body : (p : ℕ) (e : Entry) → Contains es (p, e) → is_commit e ≡ true → e.head.client ≡ k → e.head.number ≡ (client m w k).begun + 1 → Begun e → e.body ≡ Commit [] (write_of m directory (m.mark_op o j) ∷ [])
            body p e i commit client_is number b = by (compare b.was.before b.was.after pre post (Takes ev) (sym b.was.split ∙ split))
              where
                early : (mid : Moves m) → pre ≡ b.was.before ++ mid → e.head.number ≤ (client m w k).begun
                early mid q =
                    let le = (begun_number e b).1 in
                    let more = subst (λ (xs : Moves m). (client m (at b.was.before) e.head.client).begun ≤ (client m (at xs) e.head.client).begun) (sym q) (on_begun e.head.client b.was.before mid) in
                    subst (λ (c : ℕ). e.head.number ≤ (client m w c).begun) client_is (omega (arith, le, more))

                by : ((mid : Moves m) × (pre ≡ b.was.before ++ mid)) ⊎ ((mid : Moves m) × (b.was.before ≡ pre ++ Takes ev ∷ mid)) → e.body ≡ Commit [] (write_of m directory (m.mark_op o j) ∷ [])
                by (inl q) = let le = early q.0 q.1 in absurd (omega (arith, le, number))
                by (inr q) = b.drafted.body ∙ after_only e ((client m w k).begun + 1) (MarkBody m o j) b q.0 q.1 number (subst (λ (c : ℕ). Only m ((client m w k).begun + 1) (MarkBody m o j) (client m v c)) (sym client_is) (subst (λ (d : Client m). Only m ((client m w k).begun + 1) (MarkBody m o j) d) (sym as_now) found.only))

        pub booked : MarksSpelled ms → IsBookedTurn m es (trace m w) k (client m w k) t
        booked marks = record { closes = closes; begins = λ e. begins; marks = marked marks }
