-- A transaction through the turns of its client: it stays as it is while its record is under way, and is then closed for good.
use Rattle.std.proofs.Common.{◌≡◌, ◌⊎◌, ℕ, ◌+◌, ◌<◌, ◌≤◌, List, [], ◌∷◌, length, Bool, true, false, refl, sym, ap, ◌∙◌, subst, inl, inr, arith, Option, Some, None}
use Rattle.std.specs.Prelude.{if◌then◌else◌, ◌==◌}
use Rattle.tg_base.specs.declared.ids.Oid.{Oid}
use Rattle.tg_entry.specs.declared.entry.Body.TheVariants.{Commit}
use Rattle.tg_entry.specs.declared.entry.Entry.{Entry}
use Rattle.tg_kind.specs.Meaning.{Meaning}
use Rattle.tg_model.specs.declared.command.Command.TheVariants as cmd
use Rattle.tg_model.specs.declared.refusal.Refusal.TheVariants as cause
use Rattle.tg_model.specs.declared.trace.What.TheVariants as told
use Rattle.tg_model.specs.Kinds.{CommandOf, WhatOf, NoteOf}
use Rattle.tg_model.specs.Traces.{Trace}
use Rattle.tg_protocol.specs.Words.{directory}
use Rattle.tg_protocol.specs.Entries.{is_commit}
use Rattle.tg_protocol.specs.Appending.{Append, AppendEnd}
use Rattle.tg_protocol.specs.Transactions.{Tx, commit_record}
use Rattle.tg_protocol.specs.Clients.{Writes, Judged, Marks, Task, Appending, Work, Client, tx_number, write_of}
use Rattle.tg_protocol.specs.Answers.{Moved, note, mark_notes}
use Rattle.tg_protocol.specs.ClientSteps.{task_in}
use Rattle.tg_law_replies.proofs.History.Members.{Has}
use Rattle.tg_law_replies.proofs.Books.Effects.{IsEnd, IsAsk, Idle, Suits, AllZero, Onward, Same', Walks, Lands, Begins, Quit, Zeros, AskFails, Filled, Marked, MarkFilled, MarkLost, Effect, On, Quits, Closes, Asks, Marks'}
use Rattle.tg_law_replies.proofs.Books.Commands.{Refuses, Takes', Taking, Nothing, Opening, Putting, Answering, Ending, EndingLater, Dropping, Beginning, Turned, Idles, Works, Takes, taken_by}
use Rattle.tg_law_replies.proofs.Books.Turns.{no_some, same_some, BookOf}

module _ (m : Meaning) where
  -- each commit record with this number that is under way is such a one
  abbrev pub DraftsAre : ℕ → (Entry → Type 0) → Task m → Type 0
  DraftsAre n Q (Appending a y) = is_commit a.draft ≡ true → a.draft.head.number ≡ n → Q a.draft
  DraftsAre n Q t = Unit {0}

  -- the number is of no transaction that is open
  abbrev pub Only : ℕ → (Entry → Type 0) → Client m → Type 0
  Only n Q c = (n ≤ c.begun) × ((t : Tx) → c.tx ≡ Some t → t.number ≡ n → ⊥) × ((w : Work m) → c.work ≡ Some w → DraftsAre n Q (task_in m w.hand))

  -- the record of a mark
  abbrev pub MarkBody : Oid → ℕ → Entry → Type 0
  MarkBody o j d = d.body ≡ Commit [] (write_of m directory (m.mark_op o j) ∷ [])

  -- a transaction whose end waits
  abbrev pub Held : Tx → Client m → Type 0
  Held t c = (c.tx ≡ Some t) × ((w : Work m) × (c.work ≡ Some w) × IsEnd m w.command)

  abbrev pub None' : Entry → Type 0
  None' d = ⊥

  abbrev pub NotFull : ℕ → List (NoteOf m) → Type 0
  NotFull n ns = (l : ℕ) → Has ns (note m n (told.Refused (cause.LogFull l))) → ⊥

  idle_are : (n : ℕ) (Q : Entry → Type 0) (t : Task m) → Idle m t → DraftsAre n Q t
  idle_are n Q (Appending a y) h = absurd h
  idle_are n Q t h = tt

  no_commit : (a : Append) {X : Type 0} → is_commit a.draft ≡ false → is_commit a.draft ≡ true → X
  no_commit a e f = absurd (no (sym e ∙ f))
    where
      no : false ≡ true → ⊥
      no z = cc

  module _ (k : ℕ) (tr : Trace m) (c : Client m) (h : BookOf m k tr c) where
    module _ (n : ℕ) (Q : Entry → Type 0) where
      -- no work is left
      free : (d : Client m) → n ≤ d.begun → ((t : Tx) → d.tx ≡ Some t → t.number ≡ n → ⊥) → d.work ≡ None → Only n Q d
      free d le tx none = (le, tx, λ w is. absurd (no_some w (sym none ∙ is)))

      hand_by : (v w : Work m) (t : Option (Work m)) → t ≡ Some v → t ≡ Some w → DraftsAre n Q (task_in m v.hand) → DraftsAre n Q (task_in m w.hand)
      hand_by v w t a b x = subst (λ (z : Work m). DraftsAre n Q (task_in m z.hand)) (same_some v w (sym a ∙ b)) x

      module _ (o : Only n Q c) where
        same_tx : (d : Client m) → d.tx ≡ c.tx → (t : Tx) → d.tx ≡ Some t → t.number ≡ n → ⊥
        same_tx d s t is = o.1 t (sym s ∙ is)

        -- a transaction with the same number
        same_number : (of of' : Tx) (d : Client m) → c.tx ≡ Some of → d.tx ≡ Some of' → of'.number ≡ of.number → (t : Tx) → d.tx ≡ Some t → t.number ≡ n → ⊥
        same_number of of' d from tx e t is at = o.1 of from (sym e ∙ ap (λ (z : Tx). z.number) (same_some of' t (sym tx ∙ is)) ∙ at)

        onward : (w0 : Work m) (end : Option AppendEnd) (v : Work m) → c.work ≡ Some w0 → Onward m c w0 end v → DraftsAre n Q (task_in m v.hand)
        onward w0 end v has (Same' a b y x z e at) = subst (DraftsAre n Q) (sym z) (λ commit is. subst Q (sym e) (subst (DraftsAre n Q) x (o.2 w0 has) (ap (λ (d : Entry). is_commit d) (sym e) ∙ commit) (ap (λ (d : Entry). d.head.number) (sym e) ∙ is)))
        onward w0 end v has (Walks i j z at) = idle_are n Q (task_in m v.hand) j
        onward w0 end v has (Lands a p page x e at i z) = idle_are n Q (task_in m v.hand) i
        onward w0 end v has (Begins a y i z body other of sp at) = subst (DraftsAre n Q) (sym z) (λ commit is. no_commit a body commit)

        worked : (w0 : Work m) (end : Option AppendEnd) (r : Moved m) → c.work ≡ Some w0 → Effect m c w0 end r → Only n Q r.now
        worked w0 end r has (On s notes v is same on) = (let b = s.1 in let le = o.0 in omega (arith, b, le), same_tx r.now s.0, λ w e. hand_by v w r.now.work is e (onward w0 end v has on))
        worked w0 end r has (Quits s none q) = free r.now (let b = s.1 in let le = o.0 in omega (arith, b, le)) (same_tx r.now s.0) none
        worked w0 end r has (Closes s none e what notes z) = free r.now (let b = s.1 in let le = o.0 in omega (arith, b, le)) (λ t is. absurd (no_some t (sym s.0 ∙ is))) none
        worked w0 end r has (Asks a) = free r.now (let b = a.begun in let le = o.0 in omega (arith, b, le)) (same_number a.of _ r.now a.from a.tx refl) a.idle
        worked w0 end r has (Marks' x) = (
          let b = x.begun in let le = o.0 in omega (arith, b, le),
          same_tx r.now x.tx,
          λ w e. hand_by x.work w r.now.work x.works e (subst (DraftsAre n Q) (sym x.appends) (λ commit is. let at = ap (λ (d : Entry). d.head.number) (sym x.draft) ∙ is in let le = o.0 in absurd (omega (arith, at, le)))),
        )

        purpose_are : (t : Tx) (b : Bool) (a : Append) → (a.draft.head.number ≡ n → ⊥) → DraftsAre n Q (Appending a (if b then Writes else Judged))
        purpose_are t true a no' commit is = absurd (no' is)
        purpose_are t false a no' commit is = absurd (no' is)

        taken : (x : CommandOf m) (r : Moved m) → Taking m c x r → Only n Q r.now
        unfolding commit_record
        taken x r (Nothing s none z) = free r.now (let b = s.1 in let le = o.0 in omega (arith, b, le)) (same_tx r.now s.0) none
        taken x r (Opening p) = free r.now (let b = p.begun in let le = o.0 in omega (arith, b, le)) (λ t is at. let e = ap (λ (z : Tx). z.number) (same_some _ t (sym p.tx ∙ is)) in let le = o.0 in omega (arith, e, at, le)) p.work
        taken x r (Putting p) = free r.now (let b = p.begun in let le = o.0 in omega (arith, b, le)) (same_number p.of _ r.now p.from p.tx refl) p.work
        taken x r (Answering a) = free r.now (let b = a.begun in let le = o.0 in omega (arith, b, le)) (same_number a.of _ r.now a.from a.tx refl) a.work
        taken x r (Ending e) = free r.now (let b = e.begun in let le = o.0 in omega (arith, b, le)) (λ t is. absurd (no_some t (sym e.tx ∙ is))) e.work
        taken x r (EndingLater e) = (
          let b = e.same.1 in let le = o.0 in omega (arith, b, le),
          same_tx r.now e.same.0,
          λ w is. hand_by e.work w r.now.work e.works is (subst (DraftsAre n Q) (sym e.appends) (purpose_are e.of (length e.of.reads == 0) e.append (λ at. o.1 e.of e.from (ap (λ (d : Entry). d.head.number) (sym e.draft) ∙ at)))),
        )
        taken x r (Dropping d) = free r.now (let b = d.begun in let le = o.0 in omega (arith, b, le)) (λ t is. absurd (no_some t (sym d.tx ∙ is))) d.work
        taken x r (Beginning b) = (
          let e = b.same.1 in let le = o.0 in omega (arith, e, le),
          same_tx r.now b.same.0,
          λ w is. hand_by b.work w r.now.work b.works is (idle_are n Q (task_in m b.work.hand) b.idle),
        )

        pub only_turned : (r : Moved m) → Turned m c r → Only n Q r.now
        only_turned r (Idles s same notes) = (let b = s.1 in let le = o.0 in omega (arith, b, le), same_tx r.now s.0, λ w is. o.2 w (sym same ∙ is))
        only_turned r (Works w end has e) = worked w end r has e
        only_turned r (Takes x (Refuses why is e)) = subst (λ (y : Moved m). Only n Q y.now) (sym e) o
        only_turned r (Takes x (Takes' idle fine t)) = taken x r t

    -- Where a transaction is closed.

    module _ (t : Tx) (has : c.tx ≡ Some t) where
      after : (d : Client m) → d.begun ≡ c.begun → ((y : Tx) → d.tx ≡ Some y → y.number ≡ t.number → ⊥) → d.work ≡ None → Only t.number None' d
      after d b no' none = free t.number None' d (let le = (h.number t has).1 in omega (arith, le, b)) no' none

      pub shut_turned : (r : Moved m) → ((y : Tx) → r.now.tx ≡ Some y → y.number ≡ t.number → ⊥) → Turned m c r → Only t.number None' r.now
      shut_turned r no' (Idles s same notes) = absurd (no' t (s.0 ∙ has) refl)
      shut_turned r no' (Works w end work (On s notes v is same on)) = absurd (no' t (s.0 ∙ has) refl)
      shut_turned r no' (Works w end work (Quits s none q)) = absurd (no' t (s.0 ∙ has) refl)
      shut_turned r no' (Works w end work (Closes s none e what notes z)) = after r.now s.1 no' none
      shut_turned r no' (Works w end work (Asks a)) = after r.now a.begun no' a.idle
      shut_turned r no' (Works w end work (Marks' x)) = absurd (no' t (x.tx ∙ has) refl)
      shut_turned r no' (Takes x (Refuses why is e)) = absurd (no' t (ap (λ (y : Moved m). y.now.tx) e ∙ has) refl)
      shut_turned r no' (Takes x (Takes' idle fine (Nothing s none z))) = absurd (no' t (s.0 ∙ has) refl)
      shut_turned r no' (Takes x (Takes' idle fine (Opening p))) = absurd (no_some t (sym p.was ∙ has))
      shut_turned r no' (Takes x (Takes' idle fine (Putting p))) = after r.now p.begun no' p.work
      shut_turned r no' (Takes x (Takes' idle fine (Answering a))) = after r.now a.begun no' a.work
      shut_turned r no' (Takes x (Takes' idle fine (Ending e))) = after r.now e.begun no' e.work
      shut_turned r no' (Takes x (Takes' idle fine (EndingLater e))) = absurd (no' t (e.same.0 ∙ has) refl)
      shut_turned r no' (Takes x (Takes' idle fine (Dropping d))) = after r.now d.begun no' d.work
      shut_turned r no' (Takes x (Takes' idle fine (Beginning b))) = absurd (no' t (b.same.0 ∙ has) refl)

    -- While its end waits.

    module _ (t : Tx) (held : Held t c) where
      abbrev work : Work m
      work = held.1.0

      closed : (d : Client m) → d.tx ≡ None → d.begun ≡ c.begun → d.work ≡ None → Only t.number None' d
      closed d tx b none = free t.number None' d (let le = (h.number t held.0).1 in omega (arith, le, b)) (λ y is. absurd (no_some y (sym tx ∙ is))) none

      number_is : tx_number m c.tx ≡ t.number
      number_is = ap (λ (x : Option Tx). tx_number m x) held.0

      end_of : (w : Work m) → c.work ≡ Some w → IsEnd m w.command
      end_of w has = subst (λ (z : Work m). IsEnd m z.command) (same_some work w (sym held.1.1 ∙ has)) held.1.2

      both : (x : CommandOf m) → IsEnd m x → IsAsk m x → ⊥
      both cmd.End e i = i
      both x e i = absurd e

      marks_end : (w : Work m) (a : Append) (n : ℕ) (o : Oid) (j : ℕ) → c.work ≡ Some w → task_in m w.hand ≡ Appending a (Marks n o j) → ⊥
      marks_end w a n o j has is = subst (IsEnd m) (subst (Suits m w.command) is (h.suits w has)) (end_of w has)

      quit : (w : Work m) (end : Option AppendEnd) (ns : List (NoteOf m)) → c.work ≡ Some w → NotFull t.number ns → Quit m c w end ns → ⊥
      quit w end ns has full (Zeros other z) = other (end_of w has)
      quit w end ns has full (AskFails why i z) = both w.command (end_of w has) i
      quit w end ns has full (Filled a y l is z f) = full l (inl (ap (λ (i : ℕ). note m i (told.Refused (cause.LogFull l))) (sym number_is)))
      quit w end ns has full (Marked a n o j p page is e) = marks_end w a n o j has is
      quit w end ns has full (MarkFilled a n o j l is f) = marks_end w a n o j has is
      quit w end ns has full (MarkLost a n o j p b is e) = marks_end w a n o j has is

      pub held_turned : (r : Moved m) → NotFull t.number r.notes → Turned m c r → Held t r.now ⊎ Only t.number None' r.now
      held_turned r full (Idles s same notes) = inl (s.0 ∙ held.0, (work, same ∙ held.1.1, held.1.2))
      held_turned r full (Works w end has (On s notes v is same on)) = inl (s.0 ∙ held.0, (v, is, subst (IsEnd m) (sym same) (end_of w has)))
      held_turned r full (Works w end has (Quits s none q)) = absurd (quit w end r.notes has full q)
      held_turned r full (Works w end has (Closes s none e what notes z)) = inr (closed r.now s.0 s.1 none)
      held_turned r full (Works w end has (Asks a)) = absurd (both w.command (end_of w has) a.is_ask)
      held_turned r full (Works w end has (Marks' x)) = absurd (subst (IsEnd m) x.command (end_of w has))
      held_turned r full (Takes x (Refuses why is e)) = inl (subst (λ (y : Moved m). Held t y.now) (sym e) held)
      held_turned r full (Takes x (Takes' idle fine y)) = absurd (no_some work (sym idle ∙ held.1.1))

    -- Where a mark is begun.

    abbrev put_op : WhatOf m → Option m.op
    put_op (told.Put o op) = Some op
    put_op w = None

    abbrev second_op : List (NoteOf m) → Option m.op
    second_op [] = None
    second_op (n ∷ []) = None
    second_op (n ∷ k ∷ ns) = put_op k.what

    -- the command that marks, and what is under way with the number of the mark
    pub record MarkBegun (r : Moved m) (o : Oid) (j : ℕ) : Type 0 where
      pub oid : Oid
      pub mark : ℕ
      pub work : Work m
      pub works : c.work ≡ Some work
      pub command : work.command ≡ cmd.Forget oid mark
      pub same_op : m.mark_op oid mark ≡ m.mark_op o j
      pub only : Only (c.begun + 1) (MarkBody o j) r.now

    few : (ns : List (NoteOf m)) (x : ℕ) (o : Oid) (j : ℕ) → length ns < 3 → ns ≡ mark_notes m x o j → ⊥
    few ns x o j less e = let l : length ns ≡ 3 = ap length e in omega (arith, less, l)

    not_zero : (ns : List (NoteOf m)) (x : ℕ) (o : Oid) (j : ℕ) → AllZero m ns → ns ≡ mark_notes m (x + 1) o j → ⊥
    not_zero ns x o j z e = let y = (subst (AllZero m) e z).0 in omega (arith, y)

    -- fewer notes
    one_note : (r : Moved m) (n : NoteOf m) (x : ℕ) (o : Oid) (j : ℕ) → r.notes ≡ n ∷ [] → r.notes ≡ mark_notes m x o j → ⊥
    one_note r n x o j e is = few (n ∷ []) x o j (omega arith) (sym e ∙ is)

    no_note : (r : Moved m) (x : ℕ) (o : Oid) (j : ℕ) → r.notes ≡ [] → r.notes ≡ mark_notes m x o j → ⊥
    no_note r x o j e is = few [] x o j (omega arith) (sym e ∙ is)

    quit_not : (w : Work m) (end : Option AppendEnd) (ns : List (NoteOf m)) (x : ℕ) (o : Oid) (j : ℕ) → Quit m c w end ns → ns ≡ mark_notes m (x + 1) o j → ⊥
    quit_not w end ns x o j (Zeros other z) e = not_zero ns x o j z e
    quit_not w end ns x o j (AskFails why i z) e = few ns (x + 1) o j (omega arith) e
    quit_not w end ns x o j (Filled a y l is z f) e = few ns (x + 1) o j (omega arith) e
    quit_not w end ns x o j (Marked a n p q b page is f) e = few ns (x + 1) o j (omega arith) e
    quit_not w end ns x o j (MarkFilled a n p q l is f) e = few ns (x + 1) o j (omega arith) e
    quit_not w end ns x o j (MarkLost a n p q b l is f) e = few ns (x + 1) o j (omega arith) e

    pub mark_turned : (r : Moved m) (o : Oid) (j : ℕ) → r.notes ≡ mark_notes m (c.begun + 1) o j → Turned m c r → MarkBegun r o j
    mark_turned r o j is (Idles s same notes) = absurd (no_note r _ o j notes is)
    mark_turned r o j is (Works w end has (On s notes v at same on)) = absurd (no_note r _ o j notes is)
    mark_turned r o j is (Works w end has (Quits s none q)) = absurd (quit_not w end r.notes c.begun o j q is)
    mark_turned r o j is (Works w end has (Closes s none e what notes z)) = absurd (one_note r _ _ o j notes is)
    mark_turned r o j is (Works w end has (Asks a)) = absurd (one_note r _ _ o j a.notes is)
    mark_turned r o j is (Works w end has (Marks' x)) = record {
      oid = x.oid;
      mark = x.mark;
      work = w;
      works = has;
      command = x.command;
      same_op = op;
      only = (
        let b = x.begun in omega (arith, b),
        λ t tx at. let le = (h.number t (sym x.tx ∙ tx)).1 in omega (arith, le, at),
        λ v e. subst (λ (z : Work m). DraftsAre (c.begun + 1) (MarkBody o j) (task_in m z.hand)) (same_some x.work v (sym x.works ∙ e)) (subst (DraftsAre (c.begun + 1) (MarkBody o j)) (sym x.appends) (λ commit at. ap (λ (d : Entry). d.body) x.draft ∙ ap (λ (z : m.op). Commit [] (write_of m directory z ∷ [])) op)),
      );
    }
      where
        op : m.mark_op x.oid x.mark ≡ m.mark_op o j
        op = same_some (m.mark_op x.oid x.mark) (m.mark_op o j) (ap second_op (sym x.notes ∙ is))
    mark_turned r o j is (Takes x (Refuses why i e)) = absurd (one_note r _ _ o j (ap (λ (y : Moved m). y.notes) e) is)
    mark_turned r o j is (Takes x (Takes' idle fine (Nothing s none z))) = absurd (not_zero r.notes c.begun o j z is)
    mark_turned r o j is (Takes x (Takes' idle fine (Opening p))) = absurd (one_note r _ _ o j p.notes is)
    mark_turned r o j is (Takes x (Takes' idle fine (Putting p))) = absurd (one_note r _ _ o j p.notes is)
    mark_turned r o j is (Takes x (Takes' idle fine (Answering a))) = absurd (one_note r _ _ o j a.notes is)
    mark_turned r o j is (Takes x (Takes' idle fine (Ending e))) = absurd (few _ _ o j (omega arith) (sym e.notes ∙ is))
    mark_turned r o j is (Takes x (Takes' idle fine (EndingLater e))) = absurd (one_note r _ _ o j e.notes is)
    mark_turned r o j is (Takes x (Takes' idle fine (Dropping d))) = absurd (one_note r _ _ o j d.notes is)
    mark_turned r o j is (Takes x (Takes' idle fine (Beginning b))) = absurd (no_note r _ o j b.notes is)

module _ (m : Meaning) (c : Client m) (r : Moved m) where
  -- transactions are counted upwards
  pub begun_turned : Turned m c r → c.begun ≤ r.now.begun
  begun_turned (Idles s same notes) = let b = s.1 in omega (arith, b)
  begun_turned (Works w end has (On s notes v is same on)) = let b = s.1 in omega (arith, b)
  begun_turned (Works w end has (Quits s none q)) = let b = s.1 in omega (arith, b)
  begun_turned (Works w end has (Closes s none e what notes z)) = let b = s.1 in omega (arith, b)
  begun_turned (Works w end has (Asks a)) = let b = a.begun in omega (arith, b)
  begun_turned (Works w end has (Marks' x)) = let b = x.begun in omega (arith, b)
  begun_turned (Takes x (Refuses why is e)) = let b = ap (λ (y : Moved m). y.now.begun) e in omega (arith, b)
  begun_turned (Takes x (Takes' idle fine (Nothing s none z))) = let b = s.1 in omega (arith, b)
  begun_turned (Takes x (Takes' idle fine (Opening p))) = let b = p.begun in omega (arith, b)
  begun_turned (Takes x (Takes' idle fine (Putting p))) = let b = p.begun in omega (arith, b)
  begun_turned (Takes x (Takes' idle fine (Answering a))) = let b = a.begun in omega (arith, b)
  begun_turned (Takes x (Takes' idle fine (Ending e))) = let b = e.begun in omega (arith, b)
  begun_turned (Takes x (Takes' idle fine (EndingLater e))) = let b = e.same.1 in omega (arith, b)
  begun_turned (Takes x (Takes' idle fine (Dropping d))) = let b = d.begun in omega (arith, b)
  begun_turned (Takes x (Takes' idle fine (Beginning b))) = let e = b.same.1 in omega (arith, e)

  abbrev pub IsForget : CommandOf m → Type 0
  IsForget (cmd.Forget o n) = Unit {0}
  IsForget x = ⊥

  -- where a command that waits comes from
  pub data Came (t : Turned m c r) (v : Work m) : Type 0 where
    Waited : (w : Work m) → c.work ≡ Some w → v.command ≡ w.command → Came t v
    Given : taken_by m c r t ≡ Some v.command → Came t v
    Ends' : v.command ≡ cmd.End → Came t v

  as_work : (v w : Work m) → r.now.work ≡ Some v → r.now.work ≡ Some w → v ≡ w
  as_work v w a b = same_some v w (sym a ∙ b)

  pub came : (t : Turned m c r) (v : Work m) → r.now.work ≡ Some v → Came t v
  came (Idles s same notes) v is = Waited v (sym same ∙ is) refl
  came (Works w end has (On s notes u at same on)) v is = Waited w has (ap (λ (z : Work m). z.command) (as_work v u is at) ∙ same)
  came (Works w end has (Quits s none q)) v is = absurd (no_some v (sym none ∙ is))
  came (Works w end has (Closes s none e what notes z)) v is = absurd (no_some v (sym none ∙ is))
  came (Works w end has (Asks a)) v is = absurd (no_some v (sym a.idle ∙ is))
  came (Works w end has (Marks' x)) v is = Waited w has (ap (λ (z : Work m). z.command) (as_work v x.work is x.works) ∙ x.same)
  came (Takes x (Refuses why i e)) v is = Waited v (sym (ap (λ (y : Moved m). y.now.work) e) ∙ is) refl
  came (Takes x (Takes' idle fine (Nothing s none z))) v is = absurd (no_some v (sym none ∙ is))
  came (Takes x (Takes' idle fine (Opening p))) v is = absurd (no_some v (sym p.work ∙ is))
  came (Takes x (Takes' idle fine (Putting p))) v is = absurd (no_some v (sym p.work ∙ is))
  came (Takes x (Takes' idle fine (Answering a))) v is = absurd (no_some v (sym a.work ∙ is))
  came (Takes x (Takes' idle fine (Ending e))) v is = absurd (no_some v (sym e.work ∙ is))
  came (Takes x (Takes' idle fine (EndingLater e))) v is = Ends' (ap (λ (z : Work m). z.command) (as_work v e.work is e.works) ∙ e.command)
  came (Takes x (Takes' idle fine (Dropping d))) v is = absurd (no_some v (sym d.work ∙ is))
  came (Takes x (Takes' idle fine (Beginning b))) v is = Given (ap (λ (y : CommandOf m). Some y) (sym (ap (λ (z : Work m). z.command) (as_work v b.work is b.works) ∙ b.command)))
