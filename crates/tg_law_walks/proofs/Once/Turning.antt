-- Of which transaction a record is that a client begins to append, and where an open transaction comes from.
use Rattle.std.proofs.Common.{◌≡◌, ℕ, List, ◌+◌, ◌≤◌, true, false, refl, sym, ap, ◌∙◌, subst, arith, Option, Some, None, ◌<◌, inl}
use Rattle.tg_entry.specs.declared.entry.Body.{Body}
use Rattle.tg_entry.specs.declared.entry.Body.TheVariants.{Commit, Decision, Checkpoint}
use Rattle.tg_entry.specs.declared.entry.Entry.{Entry}
use Rattle.tg_entry.specs.Format.{tag_of}
use Rattle.tg_kind.specs.Meaning.{Meaning}
use Rattle.tg_model.specs.declared.command.Command.TheVariants as cmd
use Rattle.tg_model.specs.declared.refusal.Refusal.TheVariants as cause
use Rattle.tg_model.specs.declared.trace.What.TheVariants as told
use Rattle.tg_model.specs.Kinds.{CommandOf, NoteOf}
use Rattle.tg_model.specs.Traces.{Trace}
use Rattle.tg_protocol.specs.Entries.{is_commit}
use Rattle.tg_protocol.specs.Appending.{Append, AppendEnd}
use Rattle.tg_protocol.specs.Transactions.{Tx, commit_record}
use Rattle.tg_protocol.specs.Clients.{Purpose, Writes, Judged, Decides, Rescues, Saves, Marks, Task, Syncing, Walking, Appending, Trimming, Copying', Reconfiguring, Work, Client, tx_number}
use Rattle.tg_protocol.specs.Answers.{Moved, note}
use Rattle.tg_protocol.specs.ClientSteps.{task_in}
use Rattle.tg_law_replies.proofs.History.Members.{Has}
use Rattle.tg_law_replies.proofs.Books.Effects.{IsEnd, IsAsk, Idle, Suits, SuitsPurpose, IsRecord, Onward, Same', Walks, Lands, Begins, Quit, Zeros, AskFails, Filled, Marked, MarkFilled, MarkLost, On, Quits, Closes, Asks, Marks'}
use Rattle.tg_law_replies.proofs.Books.Commands.{Refuses, Takes', Taking, Nothing, Opening, Putting, Answering, Ending, EndingLater, Dropping, Beginning, Turned, Idles, Works, Takes}
use Rattle.tg_law_replies.proofs.Books.Turns.{BookOf, DraftFor, DraftOf}
use Rattle.tg_law_walks.proofs.Drafts.Became.{no_some, same_some, Holds, same_append, none_held, held_in}

-- a record is a body of the first kind
pub commit_tag : (b : Body) → tag_of b ≡ 1 → (e : Entry) → e.body ≡ b → is_commit e ≡ true
commit_tag (Commit rs ws) t e is = ap (λ (x : Body). is_commit (record { head = e.head; body = x })) is
commit_tag (Decision at so) t e is = absurd cc
commit_tag (Checkpoint o u v w ks s) t e is = absurd cc

pub tag_commit : (b : Body) → (e : Entry) → e.body ≡ b → is_commit e ≡ true → tag_of b ≡ 1
tag_commit (Commit rs ws) e is t = refl
tag_commit (Decision at so) e is t = absurd (isnt (sym (ap (λ (x : Body). is_commit (record { head = e.head; body = x })) is) ∙ t))
  where
    isnt : false ≡ true → ⊥
    isnt z = cc
tag_commit (Checkpoint o u v w ks s) e is t = absurd (isnt (sym (ap (λ (x : Body). is_commit (record { head = e.head; body = x })) is) ∙ t))
  where
    isnt : false ≡ true → ⊥
    isnt z = cc

module _ (m : Meaning) where
  -- no `end` waits
  abbrev pub NotEnding : Client m → Type 0
  NotEnding c = (w : Work m) → c.work ≡ Some w → IsEnd m w.command → ⊥

  pub idle_holds : {X : Type 0} (t : Task m) (b : Append) (y : Purpose m) → Idle m t → t ≡ Appending b y → X
  idle_holds (Appending a z) b y h e = absurd h
  idle_holds (Syncing s) b y h e = absurd cc
  idle_holds (Walking j os) b y h e = absurd cc
  idle_holds (Trimming t) b y h e = absurd cc
  idle_holds (Copying' x) b y h e = absurd cc
  idle_holds (Reconfiguring r) b y h e = absurd cc

  no_commit : {X : Type 0} (d : Entry) → is_commit d ≡ false → is_commit d ≡ true → X
  no_commit d e f = absurd (isnt (sym e ∙ f))
    where
      isnt : false ≡ true → ⊥
      isnt z = cc

  -- Of a record in hand, by its client's books.
  module _ (k : ℕ) (tr : Trace m) (d : Client m) (h : BookOf m k tr d) (b : Append) (o : Holds m d b) (commit : is_commit b.draft ≡ true) where
    made : DraftFor m k tr d.tx d.begun b.draft o.purpose
    made = subst (DraftOf m k tr d.tx d.begun) o.holds (h.drafts o.work o.has)

    suits : SuitsPurpose m o.work.command o.purpose
    suits = subst (Suits m o.work.command) o.holds (h.suits o.work o.has)

    -- its number is one that its client has begun
    pub record_number : b.draft.head.number ≤ d.begun
    unfolding commit_record
    record_number = by o.purpose made
      where
        by : (y : Purpose m) → DraftFor m k tr d.tx d.begun b.draft y → b.draft.head.number ≤ d.begun
        by Writes x = let n = ap (λ (e : Entry). e.head.number) x.draft in let le = (h.number x.of x.is).1 in omega (arith, n, le)
        by Judged x = let n = ap (λ (e : Entry). e.head.number) x.draft in let le = (h.number x.of x.is).1 in omega (arith, n, le)
        by (Marks n i j) x = let a = x.draft.1 in let c = x.number in omega (arith, a, c)
        by (Decides what) x = no_commit b.draft x commit
        by (Rescues what) x = no_commit b.draft x commit
        by (Saves i u) x = no_commit b.draft x commit

    -- and no 0
    pub record_positive : 0 < b.draft.head.number
    unfolding commit_record
    record_positive = by o.purpose made
      where
        by : (y : Purpose m) → DraftFor m k tr d.tx d.begun b.draft y → 0 < b.draft.head.number
        by Writes x = let n = ap (λ (e : Entry). e.head.number) x.draft in let less = (h.number x.of x.is).0 in omega (arith, n, less)
        by Judged x = let n = ap (λ (e : Entry). e.head.number) x.draft in let less = (h.number x.of x.is).0 in omega (arith, n, less)
        by (Marks n i j) x = let a = x.draft.1 in let c = x.positive in omega (arith, a, c)
        by (Decides what) x = no_commit b.draft x commit
        by (Rescues what) x = no_commit b.draft x commit
        by (Saves i u) x = no_commit b.draft x commit

    -- it is of an open transaction only while an `end` waits
    pub record_ends : NotEnding d → (t : Tx) → d.tx ≡ Some t → b.draft.head.number ≡ t.number → ⊥
    unfolding commit_record
    record_ends none t is same = by o.purpose made suits
      where
        by : (y : Purpose m) → DraftFor m k tr d.tx d.begun b.draft y → SuitsPurpose m o.work.command y → ⊥
        by Writes x s = none o.work o.has s
        by Judged x s = none o.work o.has s
        by (Marks n i j) x s = let a = x.draft.1 in let less = x.later t is in absurd (omega (arith, a, less, same))
        by (Decides what) x s = no_commit b.draft x commit
        by (Rescues what) x s = no_commit b.draft x commit
        by (Saves i u) x s = no_commit b.draft x commit

  -- Of the record of a transaction.
  module _ (k : ℕ) (tr : Trace m) (d : Client m) (h : BookOf m k tr d) (b : Append) (o : Holds m d b) (rec : IsRecord m o.purpose) where
    drawn : DraftFor m k tr d.tx d.begun b.draft o.purpose
    drawn = subst (DraftOf m k tr d.tx d.begun) o.holds (h.drafts o.work o.has)

    -- it is the open one's
    pub record_of : (t : Tx) → d.tx ≡ Some t → b.draft.head.number ≡ t.number
    unfolding commit_record
    record_of t at = by o.purpose drawn rec
      where
        by : (z : Purpose m) → DraftFor m k tr d.tx d.begun b.draft z → IsRecord m z → b.draft.head.number ≡ t.number
        by Writes x z = ap (λ (e : Entry). e.head.number) x.draft ∙ ap (λ (s : Tx). s.number) (same_some x.of t (sym x.is ∙ at))
        by Judged x z = ap (λ (e : Entry). e.head.number) x.draft ∙ ap (λ (s : Tx). s.number) (same_some x.of t (sym x.is ∙ at))
        by (Marks n i j) x z = absurd z
        by (Decides what) x z = absurd z
        by (Rescues what) x z = absurd z
        by (Saves i u) x z = absurd z

    pub record_tag : tag_of b.draft.body ≡ 1
    unfolding commit_record
    record_tag = by o.purpose drawn rec
      where
        by : (z : Purpose m) → DraftFor m k tr d.tx d.begun b.draft z → IsRecord m z → tag_of b.draft.body ≡ 1
        by Writes x z = ap (λ (e : Entry). tag_of e.body) x.draft
        by Judged x z = ap (λ (e : Entry). tag_of e.body) x.draft
        by (Marks n i j) x z = absurd z
        by (Decides what) x z = absurd z
        by (Rescues what) x z = absurd z
        by (Saves i u) x z = absurd z

  module _ (c : Client m) where
    -- a record that begins is of the open transaction, where nothing waited, or of a new one
    pub data Starts (d : Entry) : Type 0 where
      OfOpen : (t : Tx) → c.tx ≡ Some t → c.work ≡ None → d.head.number ≡ t.number → Starts d
      OfMark : d.head.number ≡ c.begun + 1 → Starts d

    pub starts : (r : Moved m) → Turned m c r → ((a : Append) → Holds m c a → ⊥) → (b : Append) → Holds m r.now b → is_commit b.draft ≡ true → Starts b.draft
    unfolding commit_record
    starts r turn none b o commit = by turn
      where
        idle : r.now.work ≡ None → Starts b.draft
        idle e = none_held m r.now b e o

        at : (v : Work m) → r.now.work ≡ Some v → task_in m v.hand ≡ Appending b o.purpose
        at v is = held_in m r.now b v is o

        onward : (w : Work m) (end : Option AppendEnd) (v : Work m) → c.work ≡ Some w → r.now.work ≡ Some v → Onward m c w end v → Starts b.draft
        onward w end v has is (Same' a a' y x z e p) = absurd (none a (record { work = w; purpose = y; has = has; holds = x }))
        onward w end v has is (Walks i j z p) = idle_holds (task_in m v.hand) b o.purpose j (at v is)
        onward w end v has is (Lands a p page x e q i z) = idle_holds (task_in m v.hand) b o.purpose i (at v is)
        onward w end v has is (Begins a y i z body other of s p) = no_commit b.draft (ap (λ (x : Append). is_commit x.draft) (same_append m b a o.purpose y (sym (at v is) ∙ z)) ∙ body) commit

        taken : {x : _} → Taking m c x r → c.work ≡ None → Starts b.draft
        taken (Nothing s e z) free = idle e
        taken (Opening p) free = idle p.work
        taken (Putting p) free = idle p.work
        taken (Answering a) free = idle a.work
        taken (Ending e) free = idle e.work
        taken (EndingLater e) free = OfOpen e.of e.from free (ap (λ (x : Append). x.draft.head.number) (same_append m b e.append o.purpose _ (sym (at e.work e.works) ∙ e.appends)) ∙ ap (λ (x : Entry). x.head.number) e.draft)
        taken (Dropping d) free = idle d.work
        taken (Beginning g) free = idle_holds (task_in m g.work.hand) b o.purpose g.idle (at g.work g.works)

        by : Turned m c r → Starts b.draft
        by (Idles s same notes) = absurd (none b (record { work = o.work; purpose = o.purpose; has = sym same ∙ o.has; holds = o.holds }))
        by (Works w end has (On s notes v is same on)) = onward w end v has is on
        by (Works w end has (Quits s e q)) = idle e
        by (Works w end has (Closes s e i what notes z)) = idle e
        by (Works w end has (Asks a)) = idle a.idle
        by (Works w end has (Marks' x)) = OfMark (ap (λ (y : Append). y.draft.head.number) (same_append m b x.append o.purpose _ (sym (at x.work x.works) ∙ x.appends)) ∙ ap (λ (e : Entry). e.head.number) x.draft)
        by (Takes x (Refuses why is e)) = absurd (none b (subst (λ (y : Moved m). Holds m y.now b) e o))
        by (Takes x (Takes' free fine t)) = taken t free

    -- Where an open transaction comes from: it was open, and no `end` waited; it is new; or its record was refused for want
    -- of room.

    pub record RanFull (r : Moved m) (t : Tx) : Type 0 where
      pub was : Tx
      pub open' : c.tx ≡ Some was
      pub number : t.number ≡ was.number
      pub append : Append
      pub hand : Holds m c append
      pub record' : IsRecord m hand.purpose
      pub idle : r.now.work ≡ None
      pub still : r.now.tx ≡ Some t
      pub limit : ℕ
      pub tells : Has r.notes (note m t.number (told.Refused (cause.LogFull limit)))

    pub data Opened (r : Moved m) (t : Tx) : Type 0 where
      Was : (s : Tx) → c.tx ≡ Some s → t.number ≡ s.number → NotEnding c → Opened r t
      New : t.number ≡ c.begun + 1 → Opened r t
      Ran : RanFull r t → Opened r t

    not_end : (w : Work m) → c.work ≡ Some w → (IsEnd m w.command → ⊥) → NotEnding c
    not_end w has isnt v is e = isnt (subst (λ (z : Work m). IsEnd m z.command) (same_some v w (sym is ∙ has)) e)

    free_end : c.work ≡ None → NotEnding c
    free_end none v is e = no_some v (sym none ∙ is)

    both : (x : CommandOf m) → IsAsk m x → IsEnd m x → ⊥
    both cmd.End i e = i
    both x i e = e

    forgets : {o : _} {j : ℕ} (x : CommandOf m) → x ≡ cmd.Forget o j → IsEnd m x → ⊥
    forgets x is e = subst (IsEnd m) is e

    module _ (suits0 : (w : Work m) → c.work ≡ Some w → Suits m w.command (task_in m w.hand)) (r : Moved m) (t : Tx) (is : r.now.tx ≡ Some t) (none : NotEnding r.now) where
      was_open : r.now.tx ≡ c.tx → NotEnding c → Opened r t
      was_open e n = Was t (sym e ∙ is) refl n

      gone_tx : r.now.tx ≡ None → Opened r t
      gone_tx e = no_some t (sym e ∙ is)

      marks : (w : Work m) (a : Append) (y : Purpose m) → c.work ≡ Some w → task_in m w.hand ≡ Appending a y → SuitsPurpose m w.command y
      marks w a y has at = subst (Suits m w.command) at (suits0 w has)

      quit : (w : Work m) (end : Option AppendEnd) (has : c.work ≡ Some w) → r.now.work ≡ None → r.now.tx ≡ c.tx → (ns : List (NoteOf m)) → r.notes ≡ ns → Quit m c w end ns → Opened r t
      quit w end has idle e ns notes (Zeros other z) = was_open e (not_end w has other)
      quit w end has idle e ns notes (AskFails why i z) = was_open e (not_end w has (both w.command i))
      quit w end has idle e ns notes (Filled a y l at rec f) = Ran (record {
        was = t;
        open' = sym e ∙ is;
        number = refl;
        append = a;
        hand = record { work = w; purpose = y; has = has; holds = at };
        record' = rec;
        idle = idle;
        still = is;
        limit = l;
        tells = subst (λ (xs : List (NoteOf m)). Has xs (note m t.number (told.Refused (cause.LogFull l)))) (sym notes)
            (inl (ap (λ (i : ℕ). note m i (told.Refused (cause.LogFull l))) (ap (λ (o : Option Tx). tx_number m o) (sym is ∙ e))));
      })
      quit w end has idle e ns notes (Marked a n o j p page at f) = was_open e (not_end w has (forgets w.command (marks w a (Marks n o j) has at)))
      quit w end has idle e ns notes (MarkFilled a n o j l at f) = was_open e (not_end w has (forgets w.command (marks w a (Marks n o j) has at)))
      quit w end has idle e ns notes (MarkLost a n o j p b at f) = was_open e (not_end w has (forgets w.command (marks w a (Marks n o j) has at)))

      taken : {x : _} → Taking m c x r → c.work ≡ None → Opened r t
      taken (Nothing s e z) free = was_open s.0 (free_end free)
      taken (Opening p) free = New (ap (λ (z : Tx). z.number) (sym (same_some _ t (sym p.tx ∙ is))))
      taken (Putting p) free = Was p.of p.from (ap (λ (z : Tx). z.number) (sym (same_some _ t (sym p.tx ∙ is)))) (free_end free)
      taken (Answering a) free = Was a.of a.from (ap (λ (z : Tx). z.number) (sym (same_some _ t (sym a.tx ∙ is)))) (free_end free)
      taken (Ending e) free = gone_tx e.tx
      taken (EndingLater e) free = absurd (none e.work e.works (subst (IsEnd m) (sym e.command) tt))
      taken (Dropping d) free = gone_tx d.tx
      taken (Beginning g) free = was_open g.same.0 (free_end free)

      pub opened : (turn : Turned m c r) → Opened r t
      opened (Idles s same notes) = was_open s.0 (λ w has e. none w (same ∙ has) e)
      opened (Works w end has (On s notes v at same on)) = was_open s.0 (not_end w has (λ e. none v at (subst (IsEnd m) (sym same) e)))
      opened (Works w end has (Quits s e q)) = quit w end has e s.0 r.notes refl q
      opened (Works w end has (Closes s e i what notes z)) = gone_tx s.0
      opened (Works w end has (Asks a)) = Was a.of a.from (ap (λ (z : Tx). z.number) (sym (same_some _ t (sym a.tx ∙ is)))) (not_end w has (both w.command a.is_ask))
      opened (Works w end has (Marks' x)) = was_open x.tx (not_end w has (forgets w.command x.command))
      opened (Takes x (Refuses why at e)) = was_open (ap (λ (y : Moved m). y.now.tx) e) (subst (λ (y : Moved m). NotEnding y.now) e none)
      opened (Takes x (Takes' free fine y)) = taken y free
