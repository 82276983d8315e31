-- The books of a client through its turns.
use Rattle.std.proofs.Common.{◌≡◌, ◌⊎◌, ℕ, ◌+◌, ◌<◌, ◌≤◌, List, [], ◌∷◌, ◌++◌, map, length, Bool, true, false, refl, sym, ap, ◌∙◌, subst, inl, inr, arith, Option, Some, None}
use Rattle.std.specs.Prelude.{if◌then◌else◌, ◌==◌}
use Rattle.tg_base.specs.declared.ids.Oid.{Oid}
use Rattle.tg_entry.specs.declared.entry.Body.TheVariants.{Commit}
use Rattle.tg_entry.specs.declared.entry.Entry.{Entry}
use Rattle.tg_kind.specs.Meaning.{Meaning}
use Rattle.tg_model.specs.declared.command.Command.TheVariants as cmd
use Rattle.tg_model.specs.declared.refusal.Refusal.{Refusal}
use Rattle.tg_model.specs.declared.refusal.Refusal.TheVariants as cause
use Rattle.tg_model.specs.declared.trace.What.TheVariants as told
use Rattle.tg_model.specs.Kinds.{CommandOf, WhatOf, NoteOf, MarkOf}
use Rattle.tg_model.specs.Traces.{Trace, Tells}
use Rattle.tg_protocol.specs.Words.{directory}
use Rattle.tg_protocol.specs.Entries.{is_commit}
use Rattle.tg_protocol.specs.Appending.{Append, AppendEnd}
use Rattle.tg_protocol.specs.Transactions.{Tx, commit_record}
use Rattle.tg_protocol.specs.Clients.{Purpose, Writes, Judged, Decides, Rescues, Saves, Marks, Task, Appending, Work, Client, tx_number, number_on, write_of}
use Rattle.tg_protocol.specs.Answers.{Moved, note}
use Rattle.tg_protocol.specs.ClientSteps.{task_in, purpose_of}
use Rattle.tg_law_replies.proofs.History.Members.{Has, has_contained, contained_has, has_left, has_right, has_either}
use Rattle.tg_law_replies.proofs.Replies.Books.{mark}
use Rattle.tg_law_replies.proofs.Books.Effects.{IsEnd, IsAsk, Idle, Suits, SuitsPurpose, IsOther, AllZero, Onward, Same', Walks, Lands, Begins, Quit, Zeros, AskFails, Filled, Marked, MarkFilled, MarkLost, Effect, On, Quits, Closes, Asks, Marks'}
use Rattle.tg_law_replies.proofs.Books.Commands.{Commanding, Refuses, Takes', Taking, Nothing, Opening, Putting, Answering, Ending, EndingLater, Dropping, Beginning, Turned, Idles, Works, Takes}

pub no_some : {X : Type 0} → (x : X) → None ≡ Some x → ⊥
no_some x e = cc

pub same_some : {X : Type 0} → (x y : X) → Some x ≡ Some y → x ≡ y
same_some x y e = cc

module _ (m : Meaning) where
  pub tells_on : (tr ys : Trace m) (k x : ℕ) (w : WhatOf m) → Tells m tr k x w → Tells m (tr ++ ys) k x w
  tells_on tr ys k x w h = record { number = h.number; event = h.event; here = contained_has (tr ++ ys) _ (has_left tr ys _ (has_contained tr _ h.here)) }

  abbrev pub NotesBelow : ℕ → List (NoteOf m) → Type 0
  NotesBelow b [] = Unit {0}
  NotesBelow b (n ∷ ns) = (n.tx ≤ b) × NotesBelow b ns

  -- the draft of a mark's record
  abbrev pub IsMarkDraft : ℕ → ℕ → Oid → ℕ → Entry → Type 0
  IsMarkDraft k n o j d = (d.head.client ≡ k) × (d.head.number ≡ n) × (d.body ≡ Commit [] (write_of m directory (m.mark_op o j) ∷ []))

  module _ (k : ℕ) where
    -- what an append is of, by the books
    pub record IsOfTx (tr : Trace m) (tx : Option Tx) (d : Entry) : Type 0 where
      pub of : Tx
      pub is : tx ≡ Some of
      pub draft : d ≡ commit_record of k
      pub ended : Tells m tr k of.number told.End

    pub record IsOfMark (tr : Trace m) (tx : Option Tx) (begun n : ℕ) (o : Oid) (j : ℕ) (d : Entry) : Type 0 where
      pub number : n ≡ begun
      pub positive : 0 < n
      pub draft : IsMarkDraft k n o j d
      pub later : (t : Tx) → tx ≡ Some t → t.number < n
      pub put : Tells m tr k n (told.Put directory (m.mark_op o j))

    abbrev pub DraftFor : Trace m → Option Tx → ℕ → Entry → Purpose m → Type 0
    DraftFor tr tx begun d Writes = IsOfTx tr tx d
    DraftFor tr tx begun d Judged = IsOfTx tr tx d
    DraftFor tr tx begun d (Marks n o j) = IsOfMark tr tx begun n o j d
    DraftFor tr tx begun d y = is_commit d ≡ false

    abbrev pub DraftOf : Trace m → Option Tx → ℕ → Task m → Type 0
    DraftOf tr tx begun (Appending a y) = DraftFor tr tx begun a.draft y
    DraftOf tr tx begun t = Unit {0}

    -- something was answered at a snapshot
    pub record AskedAt (tr : Trace m) (x s : ℕ) : Type 0 where
      pub oid : Oid
      pub ask : m.ask
      pub answer : m.answer
      pub tells : Tells m tr k x (told.Asked oid ask s answer)

    pub record Book (tr : Trace m) (num : ℕ) (tx : Option Tx) (begun : ℕ) (work : Option (Work m)) : Type 0 where
      pub num_is : num ≡ k
      pub below : (u : MarkOf m) → Has tr u → u.client ≡ k → u.tx ≤ begun
      pub number : (t : Tx) → tx ≡ Some t → (0 < t.number) × (t.number ≤ begun)
      pub snap : (t : Tx) (s : ℕ) → tx ≡ Some t → t.snapshot ≡ Some s → AskedAt tr t.number s
      pub first : (w : Work m) (t : Tx) → work ≡ Some w → IsAsk m w.command → tx ≡ Some t → t.snapshot ≡ None
      pub ending : (w : Work m) (t : Tx) → work ≡ Some w → IsEnd m w.command → tx ≡ Some t → (length t.writes == 0) ≡ false
      pub suits : (w : Work m) → work ≡ Some w → Suits m w.command (task_in m w.hand)
      pub drafts : (w : Work m) → work ≡ Some w → DraftOf tr tx begun (task_in m w.hand)

    abbrev pub BookOf : Trace m → Client m → Type 0
    BookOf tr c = Book tr c.num c.tx c.begun c.work

    module _ (event : ℕ) where
      abbrev pub with_notes : Trace m → List (NoteOf m) → Trace m
      with_notes tr ns = tr ++ map (mark m event k) ns

      notes_below : (ns : List (NoteOf m)) (b : ℕ) → NotesBelow b ns → (u : MarkOf m) → Has (map (mark m event k) ns) u → u.tx ≤ b
      notes_below [] b h u i = absurd i
      notes_below (n ∷ ns) b h u (inl e) = subst (λ (v : MarkOf m). v.tx ≤ b) (sym e) h.0
      notes_below (n ∷ ns) b h u (inr i) = notes_below ns b h.1 u i

      zero_below : (ns : List (NoteOf m)) (b : ℕ) → AllZero m ns → NotesBelow b ns
      zero_below [] b h = tt
      zero_below (n ∷ ns) b h = (let e = h.0 in omega (arith, e), zero_below ns b h.1)

      below_more : (tr : Trace m) (ns : List (NoteOf m)) (a b : ℕ) → ((u : MarkOf m) → Has tr u → u.client ≡ k → u.tx ≤ a) → a ≤ b → NotesBelow b ns → (u : MarkOf m) → Has (with_notes tr ns) u → u.client ≡ k → u.tx ≤ b
      below_more tr ns a b h le notes u i at = by (has_either tr (map (mark m event k) ns) u i)
        where
          by : Has tr u ⊎ Has (map (mark m event k) ns) u → u.tx ≤ b
          by (inl j) = let x = h u j at in omega (arith, x, le)
          by (inr j) = notes_below ns b notes u j

      asked_more : (tr ys : Trace m) (x s : ℕ) → AskedAt tr x s → AskedAt (tr ++ ys) x s
      asked_more tr ys x s h = record { oid = h.oid; ask = h.ask; answer = h.answer; tells = tells_on tr ys k x (told.Asked h.oid h.ask s h.answer) h.tells }

      -- an append that goes on
      pub draft_more : (y : Purpose m) (tr ys : Trace m) (tx tx' : Option Tx) (begun begun' : ℕ) (d d' : Entry) → tx' ≡ tx → begun' ≡ begun → d' ≡ d → DraftFor tr tx begun d y → DraftFor (tr ++ ys) tx' begun' d' y
      draft_more Writes tr ys tx tx' begun begun' d d' t b e h = record { of = h.of; is = t ∙ h.is; draft = e ∙ h.draft; ended = tells_on tr ys k h.of.number told.End h.ended }
      draft_more Judged tr ys tx tx' begun begun' d d' t b e h = record { of = h.of; is = t ∙ h.is; draft = e ∙ h.draft; ended = tells_on tr ys k h.of.number told.End h.ended }
      draft_more (Marks n o j) tr ys tx tx' begun begun' d d' t b e h = record {
        number = h.number ∙ sym b;
        positive = h.positive;
        draft = subst (IsMarkDraft k n o j) (sym e) h.draft;
        later = λ x is. h.later x (sym t ∙ is);
        put = tells_on tr ys k n (told.Put directory (m.mark_op o j)) h.put;
      }
      draft_more (Decides what) tr ys tx tx' begun begun' d d' t b e h = ap (λ (x : Entry). is_commit x) e ∙ h
      draft_more (Rescues what) tr ys tx tx' begun begun' d d' t b e h = ap (λ (x : Entry). is_commit x) e ∙ h
      draft_more (Saves o u) tr ys tx tx' begun begun' d d' t b e h = ap (λ (x : Entry). is_commit x) e ∙ h

      idle_draft : (t : Task m) (tr : Trace m) (tx : Option Tx) (begun : ℕ) → Idle m t → DraftOf tr tx begun t
      idle_draft (Appending a y) tr tx begun h = absurd h
      idle_draft t tr tx begun h = tt

      other_draft : (y : Purpose m) (tr : Trace m) (tx : Option Tx) (begun : ℕ) (d : Entry) → IsOther m y → is_commit d ≡ false → DraftFor tr tx begun d y
      other_draft Writes tr tx begun d h e = absurd h
      other_draft Judged tr tx begun d h e = absurd h
      other_draft (Marks n o j) tr tx begun d h e = absurd h
      other_draft y tr tx begun d h e = e

      tx_below : (tx : Option Tx) (b : ℕ) → ((t : Tx) → tx ≡ Some t → (0 < t.number) × (t.number ≤ b)) → tx_number m tx ≤ b
      tx_below None b h = omega arith
      tx_below (Some t) b h = (h t refl).1

      refused_below : (c : Client m) (why : Refusal) (b : ℕ) → tx_number m c.tx ≤ b → number_on m c why ≤ b
      refused_below c (cause.Busy x) b h = omega arith
      refused_below c cause.NoTx b h = omega arith
      refused_below c cause.TxOpen b h = omega arith
      refused_below c why b h = h

      -- The turns.

      module _ (tr : Trace m) (c : Client m) (h : BookOf tr c) where
        numbers_below : tx_number m c.tx ≤ c.begun
        numbers_below = tx_below c.tx c.begun h.number

        -- the client's transaction is the one that it was, and it waits for this or for nothing
        stays : (ns : List (NoteOf m)) (d : Client m) → (d.tx ≡ c.tx) × (d.begun ≡ c.begun) × (d.num ≡ c.num) → NotesBelow c.begun ns
            → ((w : Work m) (t : Tx) → d.work ≡ Some w → IsAsk m w.command → d.tx ≡ Some t → t.snapshot ≡ None)
            → ((w : Work m) (t : Tx) → d.work ≡ Some w → IsEnd m w.command → d.tx ≡ Some t → (length t.writes == 0) ≡ false)
            → ((w : Work m) → d.work ≡ Some w → Suits m w.command (task_in m w.hand))
            → ((w : Work m) → d.work ≡ Some w → DraftOf (with_notes tr ns) d.tx d.begun (task_in m w.hand)) → BookOf (with_notes tr ns) d
        stays ns d s notes first ending suits drafts = record {
          num_is = s.2 ∙ h.num_is;
          below = λ u i at. let x = below_more tr ns c.begun c.begun h.below (omega arith) notes u i at in let b = s.1 in omega (arith, x, b);
          number = λ t is. let x = h.number t (sym s.0 ∙ is) in let le = x.1 in let b = s.1 in (x.0, omega (arith, le, b));
          snap = λ t a is at. asked_more tr (map (mark m event k) ns) t.number a (h.snap t a (sym s.0 ∙ is) at);
          first = first;
          ending = ending;
          suits = suits;
          drafts = drafts;
        }

        free : (ns : List (NoteOf m)) (d : Client m) → (d.tx ≡ c.tx) × (d.begun ≡ c.begun) × (d.num ≡ c.num) → NotesBelow c.begun ns → d.work ≡ None → BookOf (with_notes tr ns) d
        free ns d s notes none = stays ns d s notes (λ w t is. absurd (no_some w (sym none ∙ is))) (λ w t is. absurd (no_some w (sym none ∙ is))) (λ w is. absurd (no_some w (sym none ∙ is))) (λ w is. absurd (no_some w (sym none ∙ is)))

        shuts : (ns : List (NoteOf m)) (d : Client m) → (d.tx ≡ None) × (d.begun ≡ c.begun) × (d.num ≡ c.num) → NotesBelow c.begun ns → d.work ≡ None → BookOf (with_notes tr ns) d
        shuts ns d s notes none = record {
          num_is = s.2 ∙ h.num_is;
          below = λ u i at. let x = below_more tr ns c.begun c.begun h.below (omega arith) notes u i at in let b = s.1 in omega (arith, x, b);
          number = λ t is. absurd (no_some t (sym s.0 ∙ is));
          snap = λ t a is at. absurd (no_some t (sym s.0 ∙ is));
          first = λ w t is. absurd (no_some w (sym none ∙ is));
          ending = λ w t is. absurd (no_some w (sym none ∙ is));
          suits = λ w is. absurd (no_some w (sym none ∙ is));
          drafts = λ w is. absurd (no_some w (sym none ∙ is));
        }

        -- an ask is answered
        reads_now : (of of' : Tx) (s : ℕ) (o : Oid) (q : m.ask) (a : m.answer) (d : Client m) (ns : List (NoteOf m)) → c.tx ≡ Some of → d.tx ≡ Some of' → of'.number ≡ of.number → of'.snapshot ≡ Some s
            → d.begun ≡ c.begun → d.num ≡ c.num → d.work ≡ None → ns ≡ note m of.number (told.Asked o q s a) ∷ [] → BookOf (with_notes tr ns) d
        reads_now of of' s o q a d ns from tx number snap begun num none notes = record {
          num_is = num ∙ h.num_is;
          below = λ u i at. let x = below_more tr ns c.begun c.begun h.below (omega arith) (subst (NotesBelow c.begun) (sym notes) ((h.number of from).1, tt)) u i at in omega (arith, x, begun);
          number = λ t is. let e = number_of t is in let x = h.number of from in let p = x.0 in let le = x.1 in (omega (arith, e, p), omega (arith, e, le, begun));
          snap = λ t b is at. subst (λ (i : ℕ). AskedAt (with_notes tr ns) i b) (sym (number_of t is)) (subst (λ (i : ℕ). AskedAt (with_notes tr ns) of.number i) (same_some s b (sym snap ∙ ap (λ (z : Tx). z.snapshot) (same_some of' t (sym tx ∙ is)) ∙ at)) now);
          first = λ w t is. absurd (no_some w (sym none ∙ is));
          ending = λ w t is. absurd (no_some w (sym none ∙ is));
          suits = λ w is. absurd (no_some w (sym none ∙ is));
          drafts = λ w is. absurd (no_some w (sym none ∙ is));
        }
          where
            number_of : (t : Tx) → d.tx ≡ Some t → t.number ≡ of.number
            number_of t is = ap (λ (z : Tx). z.number) (sym (same_some of' t (sym tx ∙ is))) ∙ number

            now : AskedAt (with_notes tr ns) of.number s
            now = record {
              oid = o;
              ask = q;
              answer = a;
              tells = record {
                number = (h.number of from).0;
                event = event;
                here = contained_has (with_notes tr ns) (record { event = event; client = k; tx = of.number; what = told.Asked o q s a })
                    (has_right tr (map (mark m event k) ns) _ (subst (λ (xs : List (NoteOf m)). Has (map (mark m event k) xs) (record { event = event; client = k; tx = of.number; what = told.Asked o q s a })) (sym notes) (inl refl)));
              };
            }

        -- an append that is in hand
        module _ (w0 : Work m) (has : c.work ≡ Some w0) where
          in_hand : (a : Append) (y : Purpose m) → task_in m w0.hand ≡ Appending a y → DraftFor tr c.tx c.begun a.draft y
          in_hand a y is = subst (DraftOf tr c.tx c.begun) is (h.drafts w0 has)

          hand_suits : (a : Append) (y : Purpose m) → task_in m w0.hand ≡ Appending a y → SuitsPurpose m w0.command y
          hand_suits a y is = subst (Suits m w0.command) is (h.suits w0 has)

          onward : (d : Client m) (v : Work m) (end : Option AppendEnd) → (d.tx ≡ c.tx) × (d.begun ≡ c.begun) × (d.num ≡ c.num) → d.work ≡ Some v → v.command ≡ w0.command → Onward m c w0 end v → BookOf (with_notes tr []) d
          onward d v end s is same on = stays [] d s tt
              (λ w t has' ask tx. h.first w0 t has (subst (IsAsk m) same (subst (λ (z : Work m). IsAsk m z.command) (sym (same_some v w (sym is ∙ has'))) ask)) (sym s.0 ∙ tx))
              (λ w t has' ends tx. h.ending w0 t has (subst (IsEnd m) same (subst (λ (z : Work m). IsEnd m z.command) (sym (same_some v w (sym is ∙ has'))) ends)) (sym s.0 ∙ tx))
              (λ w has'. subst (λ (z : Work m). Suits m z.command (task_in m z.hand)) (same_some v w (sym is ∙ has')) (subst (λ (x : CommandOf m). Suits m x (task_in m v.hand)) (sym same) (suits on)))
              (λ w has'. subst (λ (z : Work m). DraftOf (with_notes tr []) d.tx d.begun (task_in m z.hand)) (same_some v w (sym is ∙ has')) (draft on))
            where
              suits : Onward m c w0 end v → Suits m w0.command (task_in m v.hand)
              suits (Same' a b y x z e at) = subst (Suits m w0.command) (sym z) (hand_suits a y x)
              suits (Walks i j z at) = z
              suits (Lands a p page x e at i z) = z
              suits (Begins a y i z body other of sp at) = subst (Suits m w0.command) (sym z) sp

              draft : Onward m c w0 end v → DraftOf (with_notes tr []) d.tx d.begun (task_in m v.hand)
              draft (Same' a b y x z e at) = subst (DraftOf (with_notes tr []) d.tx d.begun) (sym z) (draft_more y tr [] c.tx d.tx c.begun d.begun a.draft b.draft s.0 s.1 e (in_hand a y x))
              draft (Walks i j z at) = idle_draft (task_in m v.hand) (with_notes tr []) d.tx d.begun j
              draft (Lands a p page x e at i z) = idle_draft (task_in m v.hand) (with_notes tr []) d.tx d.begun i
              draft (Begins a y i z body other of sp at) = subst (DraftOf (with_notes tr []) d.tx d.begun) (sym z) (other_draft y (with_notes tr []) d.tx d.begun a.draft other body)

          quit_below : (end : Option AppendEnd) (ns : List (NoteOf m)) → Quit m c w0 end ns → NotesBelow c.begun ns
          quit_below end ns (Zeros other z) = zero_below ns c.begun z
          quit_below end ns (AskFails why i z) = (numbers_below, tt)
          quit_below end ns (Filled a y l is z f) = (numbers_below, tt)
          quit_below end ns (Marked a n o j p page is e) = (let x = (in_hand a (Marks n o j) is).number in omega (arith, x), (omega arith, tt))
          quit_below end ns (MarkFilled a n o j l is f) = (let x = (in_hand a (Marks n o j) is).number in omega (arith, x), tt)
          quit_below end ns (MarkLost a n o j p b is e) = (let x = (in_hand a (Marks n o j) is).number in omega (arith, x), tt)

          worked : (end : Option AppendEnd) (r : Moved m) → Effect m c w0 end r → BookOf (with_notes tr r.notes) r.now
          worked end r (On s notes v is same on) = subst (λ (ns : List (NoteOf m)). BookOf (with_notes tr ns) r.now) (sym notes) (onward r.now v end s is same on)
          worked end r (Quits s none q) = free r.notes r.now s (quit_below end r.notes q) none
          worked end r (Closes s none e what notes z) = shuts r.notes r.now s (subst (NotesBelow c.begun) (sym notes) (numbers_below, tt)) none
          worked end r (Asks a) = reads_now a.of _ a.tail a.oid a.ask a.answer r.now r.notes a.from a.tx refl refl a.begun a.num a.idle a.notes
          worked end r (Marks' x) = record {
            num_is = x.num ∙ h.num_is;
            below = λ u i at. let y = below_more tr r.notes c.begun (c.begun + 1) h.below (omega arith) (subst (NotesBelow (c.begun + 1)) (sym x.notes) (omega arith, (omega arith, (omega arith, tt)))) u i at in let b = x.begun in omega (arith, y, b);
            number = λ t is. let y = h.number t (sym x.tx ∙ is) in let le = y.1 in let b = x.begun in (y.0, omega (arith, le, b));
            snap = λ t a is at. asked_more tr (map (mark m event k) r.notes) t.number a (h.snap t a (sym x.tx ∙ is) at);
            first = λ w t is ask. absurd (subst (IsAsk m) (ap (λ (z : Work m). z.command) (sym (same_some x.work w (sym x.works ∙ is))) ∙ x.same ∙ x.command) ask);
            ending = λ w t is ends. absurd (subst (IsEnd m) (ap (λ (z : Work m). z.command) (sym (same_some x.work w (sym x.works ∙ is))) ∙ x.same ∙ x.command) ends);
            suits = λ w is. subst (λ (z : Work m). Suits m z.command (task_in m z.hand)) (same_some x.work w (sym x.works ∙ is)) (subst (Suits m x.work.command) (sym x.appends) (x.same ∙ x.command));
            drafts = λ w is. subst (λ (z : Work m). DraftOf (with_notes tr r.notes) r.now.tx r.now.begun (task_in m z.hand)) (same_some x.work w (sym x.works ∙ is)) (subst (DraftOf (with_notes tr r.notes) r.now.tx r.now.begun) (sym x.appends) made);
          }
            where
              made : IsOfMark (with_notes tr r.notes) r.now.tx r.now.begun (c.begun + 1) x.oid x.mark x.append.draft
              made = record {
                number = sym x.begun;
                positive = omega arith;
                draft = subst (IsMarkDraft k (c.begun + 1) x.oid x.mark) (sym x.draft) (h.num_is, refl, refl);
                later = λ t is. let y = (h.number t (sym x.tx ∙ is)).1 in omega (arith, y);
                put = record {
                  number = omega arith;
                  event = event;
                  here = contained_has (with_notes tr r.notes) (record { event = event; client = k; tx = c.begun + 1; what = told.Put directory (m.mark_op x.oid x.mark) })
                      (has_right tr (map (mark m event k) r.notes) _ (subst (λ (xs : List (NoteOf m)). Has (map (mark m event k) xs) (record { event = event; client = k; tx = c.begun + 1; what = told.Put directory (m.mark_op x.oid x.mark) })) (sym x.notes) (inr (inl refl))));
                };
              }

        -- A command.

        purpose_draft : (t : Tx) (b : Bool) (tr' : Trace m) (tx : Option Tx) (begun : ℕ) (d : Entry) → IsOfTx tr' tx d → DraftFor tr' tx begun d (if b then Writes else Judged)
        purpose_draft t true tr' tx begun d x = x
        purpose_draft t false tr' tx begun d x = x

        purpose_suits : (b : Bool) → SuitsPurpose m cmd.End (if b then Writes else Judged)
        purpose_suits true = tt
        purpose_suits false = tt

        taken : (x : CommandOf m) (r : Moved m) → c.work ≡ None → Taking m c x r → BookOf (with_notes tr r.notes) r.now
        taken x r idle (Nothing s none z) = free r.notes r.now s (zero_below r.notes c.begun z) none
        taken x r idle (Opening o) = record {
          num_is = o.num ∙ h.num_is;
          below = λ u i at. let y = below_more tr r.notes c.begun (c.begun + 1) h.below (omega arith) (subst (NotesBelow (c.begun + 1)) (sym o.notes) (omega arith, tt)) u i at in let b = o.begun in omega (arith, y, b);
          number = λ t is. let e = ap (λ (z : Tx). z.number) (same_some _ t (sym o.tx ∙ is)) in let b = o.begun in (omega (arith, e), omega (arith, e, b));
          snap = λ t a is at. absurd (no_some a (ap (λ (z : Tx). z.snapshot) (same_some _ t (sym o.tx ∙ is)) ∙ at));
          first = λ w t is. absurd (no_some w (sym o.work ∙ is));
          ending = λ w t is. absurd (no_some w (sym o.work ∙ is));
          suits = λ w is. absurd (no_some w (sym o.work ∙ is));
          drafts = λ w is. absurd (no_some w (sym o.work ∙ is));
        }
        taken x r idle (Putting p) = record {
          num_is = p.num ∙ h.num_is;
          below = λ u i at. let y = below_more tr r.notes c.begun c.begun h.below (omega arith) (subst (NotesBelow c.begun) (sym p.notes) ((h.number p.of p.from).1, tt)) u i at in let b = p.begun in omega (arith, y, b);
          number = λ t is. let e = ap (λ (z : Tx). z.number) (same_some _ t (sym p.tx ∙ is)) in let y = h.number p.of p.from in let pos = y.0 in let le = y.1 in let b = p.begun in (omega (arith, e, pos), omega (arith, e, le, b));
          snap = λ t a is at. subst (λ (i : ℕ). AskedAt (with_notes tr r.notes) i a) (ap (λ (z : Tx). z.number) (same_some _ t (sym p.tx ∙ is)))
              (asked_more tr (map (mark m event k) r.notes) p.of.number a (h.snap p.of a p.from (ap (λ (z : Tx). z.snapshot) (same_some _ t (sym p.tx ∙ is)) ∙ at)));
          first = λ w t is. absurd (no_some w (sym p.work ∙ is));
          ending = λ w t is. absurd (no_some w (sym p.work ∙ is));
          suits = λ w is. absurd (no_some w (sym p.work ∙ is));
          drafts = λ w is. absurd (no_some w (sym p.work ∙ is));
        }
        taken x r idle (Answering a) = reads_now a.of _ a.at a.oid a.ask a.answer r.now r.notes a.from a.tx refl refl a.begun a.num a.work a.notes
        taken x r idle (Ending e) = shuts r.notes r.now (e.tx, e.begun, e.num) (let y = (h.number e.of e.from).1 in subst (NotesBelow c.begun) (sym e.notes) (y, (y, tt))) e.work
        taken x r idle (EndingLater e) = stays r.notes r.now e.same (subst (NotesBelow c.begun) (sym e.notes) ((h.number e.of e.from).1, tt))
            (λ w t is ask. absurd (subst (IsAsk m) (ap (λ (z : Work m). z.command) (sym (same_some e.work w (sym e.works ∙ is))) ∙ e.command) ask))
            (λ w t is ends tx. subst (λ (z : Tx). (length z.writes == 0) ≡ false) (same_some e.of t (sym e.from ∙ (sym e.same.0 ∙ tx))) e.some)
            (λ w is. subst (λ (z : Work m). Suits m z.command (task_in m z.hand)) (same_some e.work w (sym e.works ∙ is)) (subst (Suits m e.work.command) (sym e.appends) (subst (λ (y : CommandOf m). SuitsPurpose m y (purpose_of m e.of)) (sym e.command) (purpose_suits (length e.of.reads == 0)))))
            (λ w is. subst (λ (z : Work m). DraftOf (with_notes tr r.notes) r.now.tx r.now.begun (task_in m z.hand)) (same_some e.work w (sym e.works ∙ is)) (subst (DraftOf (with_notes tr r.notes) r.now.tx r.now.begun) (sym e.appends) (purpose_draft e.of (length e.of.reads == 0) (with_notes tr r.notes) r.now.tx r.now.begun e.append.draft made)))
          where
            made : IsOfTx (with_notes tr r.notes) r.now.tx e.append.draft
            made = record {
              of = e.of;
              is = e.same.0 ∙ e.from;
              draft = e.draft ∙ ap (λ (i : ℕ). commit_record e.of i) h.num_is;
              ended = record {
                number = (h.number e.of e.from).0;
                event = event;
                here = contained_has (with_notes tr r.notes) (record { event = event; client = k; tx = e.of.number; what = told.End })
                    (has_right tr (map (mark m event k) r.notes) _ (subst (λ (xs : List (NoteOf m)). Has (map (mark m event k) xs) (record { event = event; client = k; tx = e.of.number; what = told.End })) (sym e.notes) (inl refl)));
              };
            }
        taken x r idle (Dropping d) = shuts r.notes r.now (d.tx, d.begun, d.num) (subst (NotesBelow c.begun) (sym d.notes) (numbers_below, tt)) d.work
        taken x r idle (Beginning b) = stays r.notes r.now b.same (subst (NotesBelow c.begun) (sym b.notes) tt)
            (λ w t is ask tx. b.first (subst (IsAsk m) (ap (λ (z : Work m). z.command) (sym (same_some b.work w (sym b.works ∙ is))) ∙ b.command) ask) t (sym b.same.0 ∙ tx))
            (λ w t is ends tx. absurd (b.not_end (subst (IsEnd m) (ap (λ (z : Work m). z.command) (sym (same_some b.work w (sym b.works ∙ is))) ∙ b.command) ends)))
            (λ w is. subst (λ (z : Work m). Suits m z.command (task_in m z.hand)) (same_some b.work w (sym b.works ∙ is)) (subst (λ (y : CommandOf m). Suits m y (task_in m b.work.hand)) (sym b.command) b.suits))
            (λ w is. subst (λ (z : Work m). DraftOf (with_notes tr r.notes) r.now.tx r.now.begun (task_in m z.hand)) (same_some b.work w (sym b.works ∙ is)) (idle_draft (task_in m b.work.hand) (with_notes tr r.notes) r.now.tx r.now.begun b.idle))

        same_book : (ns : List (NoteOf m)) (d : Client m) → (d.tx ≡ c.tx) × (d.begun ≡ c.begun) × (d.num ≡ c.num) → d.work ≡ c.work → NotesBelow c.begun ns → BookOf (with_notes tr ns) d
        same_book ns d s same notes = stays ns d s notes
            (λ w t is ask tx. h.first w t (sym same ∙ is) ask (sym s.0 ∙ tx))
            (λ w t is ends tx. h.ending w t (sym same ∙ is) ends (sym s.0 ∙ tx))
            (λ w is. h.suits w (sym same ∙ is))
            (λ w is. draft_on (task_in m w.hand) (h.drafts w (sym same ∙ is)))
          where
            draft_on : (t : Task m) → DraftOf tr c.tx c.begun t → DraftOf (with_notes tr ns) d.tx d.begun t
            draft_on (Appending a y) x = draft_more y tr (map (mark m event k) ns) c.tx d.tx c.begun d.begun a.draft a.draft s.0 s.1 refl x
            draft_on t x = tt

        commanded : (x : CommandOf m) (r : Moved m) → Commanding m c x r → BookOf (with_notes tr r.notes) r.now
        commanded x r (Refuses why is e) = subst (λ (y : Moved m). BookOf (with_notes tr y.notes) y.now) (sym e) (same_book (note m (number_on m c why) (told.Refused why) ∷ []) c (refl, refl, refl) refl (refused_below c why c.begun numbers_below, tt))
        commanded x r (Takes' idle fine t) = taken x r idle t

        -- a client's books are kept by each of its turns
        pub turned : (r : Moved m) → Turned m c r → BookOf (with_notes tr r.notes) r.now
        turned r (Idles s same notes) = same_book r.notes r.now s same (subst (NotesBelow c.begun) (sym notes) tt)
        turned r (Works w end has e) = worked w has end r e
        turned r (Takes x t) = commanded x r t
