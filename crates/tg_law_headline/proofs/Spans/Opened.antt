-- Where the open transaction of a client comes from, and its snapshot; and of which transaction an answer to an ask is told.
use Rattle.std.proofs.Common.{◌≡◌, ◌⊎◌, ℕ, ◌+◌, ◌<◌, List, [], ◌∷◌, refl, sym, ap, ◌∙◌, subst, inl, inr, Option, Some, None}
use Rattle.tg_base.specs.declared.ids.Oid.{Oid}
use Rattle.tg_base.specs.declared.marks.ReadMark.{ReadMark}
use Rattle.tg_base.specs.Clusters.{Header}
use Rattle.tg_protocol.specs.Words.{numbers}
use Rattle.tg_protocol.specs.Worlds.{start, client}
use Rattle.tg_protocol.specs.Runs.{Moves}
use Rattle.tg_law_layouts.specs.Moves.After.{after}
use Rattle.tg_law_layouts.proofs.Moves.Lists.{at_map}
use Rattle.tg_law_replies.proofs.Books.Worlds.{start_book}
use Rattle.tg_kind.specs.Meaning.{Meaning}
use Rattle.tg_model.specs.Kinds.{CommandOf, NoteOf, WhatOf}
use Rattle.tg_model.specs.declared.refusal.Refusal.{Refusal}
use Rattle.tg_model.specs.declared.refusal.Refusal.TheVariants as cause
use Rattle.tg_model.specs.declared.trace.What.TheVariants as told
use Rattle.tg_protocol.specs.Appending.{AppendEnd}
use Rattle.tg_protocol.specs.Transactions.{Tx, open_tx, tx_read, tx_put}
use Rattle.tg_protocol.specs.Clients.{Work, Client, tx_number, number_on, write_of, new_client}
use Rattle.tg_protocol.specs.Answers.{Moved, note, mark_notes}
use Rattle.tg_protocol.specs.ClientSteps.{task_in, snapshot_or}
use Rattle.tg_law_replies.proofs.Books.Effects.{IsEnd, IsAsk, OfRecord, Close, Lost, Written, Decided, Told, On, Quits, Closes, Asks, Marks'}
use Rattle.tg_law_replies.proofs.Books.Commands.{Refuses, Takes', Taking, Nothing, Opening, Putting, Answering, Ending, EndingLater, Dropping, Beginning, Turned, Idles, Works, Takes}
use Rattle.tg_law_replies.proofs.Replies.Books.{IsPlain}
use Rattle.tg_law_replies.proofs.History.Members.{Has}
use Rattle.tg_law_walks.proofs.Drafts.Became.{no_some, same_some}
use Rattle.tg_law_walks.proofs.Once.Quieting.{PlainFor, nil_plain, cons_plain, one_plain, are_plain, zero_plain, quit_plain, awaits_run}
use Rattle.tg_law_walks.proofs.Once.Refusing.{Awaits}
use Rattle.tg_law_syncs.proofs.Follow.Looks.{IsWalk, Looks, SameView, NoneOpen, Walked}

module _ (m : Meaning) where
  -- it was open, or is begun now
  abbrev pub FromOpen : Client m → Moved m → Tx → Type 0
  FromOpen c r t = ((o : Tx) × (c.tx ≡ Some o) × (o.number ≡ t.number)) ⊎ ((r.now.work ≡ None) × (t.snapshot ≡ None))

  module _ (c : Client m) (r : Moved m) (t : Tx) (is : r.now.tx ≡ Some t) where
    same_open : r.now.tx ≡ c.tx → FromOpen c r t
    same_open e = inl (t, sym e ∙ is, refl)

    changed_open : (of now : Tx) → c.tx ≡ Some of → r.now.tx ≡ Some now → of.number ≡ now.number → FromOpen c r t
    changed_open of now from tx same = inl (of, from, same ∙ ap (λ (z : Tx). z.number) (same_some now t (sym tx ∙ is)))

    taken_open : {x : CommandOf m} → Taking m c x r → FromOpen c r t
    taken_open (Nothing s e z) = same_open s.0
    taken_open (Opening p) = inr (p.work, ap (λ (z : Tx). z.snapshot) (sym (same_some (open_tx (c.begun + 1)) t (sym p.tx ∙ is))))
    taken_open (Putting p) = changed_open p.of (tx_put p.of (write_of m p.oid p.op)) p.from p.tx refl
    taken_open (Answering a) = changed_open a.of (tx_read a.of (record { oid = a.oid; part = m.look a.ask; version = a.version }) a.at) a.from a.tx refl
    taken_open (Ending e) = no_some t (sym e.tx ∙ is)
    taken_open (EndingLater e) = same_open e.same.0
    taken_open (Dropping d) = no_some t (sym d.tx ∙ is)
    taken_open (Beginning b) = same_open b.same.0

    pub from_open : Turned m c r → FromOpen c r t
    from_open (Idles s e notes) = same_open s.0
    from_open (Works w end has (On s notes v at e on)) = same_open s.0
    from_open (Works w end has (Quits s e q)) = same_open s.0
    from_open (Works w end has (Closes s e i what notes z)) = no_some t (sym s.0 ∙ is)
    from_open (Works w end has (Asks a)) = changed_open a.of (tx_read a.of (record { oid = a.oid; part = m.look a.ask; version = a.version }) a.tail) a.from a.tx refl
    from_open (Works w end has (Marks' x)) = same_open x.tx
    from_open (Takes x (Refuses why at e)) = same_open (ap (λ (y : Moved m). y.now.tx) e)
    from_open (Takes x (Takes' free fine y)) = taken_open y

  -- A snapshot is the one before, or that of an answered ask.

  module _ (Past : ℕ → Type 0) (c : Client m) (r : Moved m) (t : Tx) (s : ℕ) (is : r.now.tx ≡ Some t) (snap : t.snapshot ≡ Some s) (old : (o : Tx) (n : ℕ) → c.tx ≡ Some o → o.snapshot ≡ Some n → Past n) where
    same_snap : r.now.tx ≡ c.tx → Past s
    same_snap e = old t s (sym e ∙ is) snap

    taken_snap : {x : CommandOf m} → Taking m c x r → Past s
    taken_snap (Nothing st e z) = same_snap st.0
    taken_snap (Opening p) = no_some s (sym (ap (λ (z : Tx). z.snapshot) (sym (same_some (open_tx (c.begun + 1)) t (sym p.tx ∙ is)))) ∙ snap)
    taken_snap (Putting p) = old p.of s p.from (ap (λ (z : Tx). z.snapshot) (same_some (tx_put p.of (write_of m p.oid p.op)) t (sym p.tx ∙ is)) ∙ snap)
    taken_snap (Answering a) =
        let at = ap (λ (z : Tx). z.snapshot) (same_some (tx_read a.of (record { oid = a.oid; part = m.look a.ask; version = a.version }) a.at) t (sym a.tx ∙ is)) ∙ snap in
        old a.of s a.from (a.first ∙ at)
    taken_snap (Ending e) = no_some t (sym e.tx ∙ is)
    taken_snap (EndingLater e) = same_snap e.same.0
    taken_snap (Dropping d) = no_some t (sym d.tx ∙ is)
    taken_snap (Beginning b) = same_snap b.same.0

    module _ (d : Client m) (now : d.tx ≡ r.now.tx) (looks : Looks m c d) (asked : (w : Work m) → c.work ≡ Some w → IsAsk m w.command → IsWalk m (task_in m w.hand) → (d.tx ≡ c.tx) ⊎ ((o : Tx) (n : ℕ) → d.tx ≡ Some o → o.snapshot ≡ Some n → Past n)) where
      ask_snap : (w : Work m) → c.work ≡ Some w → IsAsk m w.command → (of : Tx) → c.tx ≡ Some of → Past s
      ask_snap w has ask of from = by looks
        where
          kept : (d.tx ≡ c.tx) ⊎ (d.tx ≡ None) → Past s
          kept (inl e) = same_snap (sym now ∙ e)
          kept (inr e) = no_some t (sym e ∙ (now ∙ is))

          answered : (d.tx ≡ c.tx) ⊎ ((o : Tx) (n : ℕ) → d.tx ≡ Some o → o.snapshot ≡ Some n → Past n) → Past s
          answered (inl e) = same_snap (sym now ∙ e)
          answered (inr f) = f t s (now ∙ is) snap

          by : Looks m c d → Past s
          by (SameView e f) = kept (f w has)
          by (NoneOpen e) = no_some of (sym e ∙ from)
          by (Walked v g j f) = answered (asked v g (subst (λ (z : Work m). IsAsk m z.command) (same_some w v (sym has ∙ g)) ask) j)

      pub snap_turned : Turned m c r → Past s
      snap_turned (Idles st e notes) = same_snap st.0
      snap_turned (Works w end has (On st notes v at e on)) = same_snap st.0
      snap_turned (Works w end has (Quits st e q)) = same_snap st.0
      snap_turned (Works w end has (Closes st e i what notes z)) = no_some t (sym st.0 ∙ is)
      snap_turned (Works w end has (Asks a)) = ask_snap w has a.is_ask a.of a.from
      snap_turned (Works w end has (Marks' x)) = same_snap x.tx
      snap_turned (Takes x (Refuses why at e)) = same_snap (ap (λ (y : Moved m). y.now.tx) e)
      snap_turned (Takes x (Takes' free fine y)) = taken_snap y

  -- An answer to an ask is told of the transaction that is open then.

  module _ (c : Client m) (awaits : Awaits m c) (r : Moved m) (n : ℕ) (positive : 0 < n) (o : Oid) (q : m.ask) (s : ℕ) (a : m.answer) (x : NoteOf m) (has : Has r.notes x) (number : x.tx ≡ n) (says : x.what ≡ told.Asked o q s a) where
    abbrev pub IsOpenNow : Type 0
    IsOpenNow = (t : Tx) × (r.now.tx ≡ Some t) × (t.number ≡ n)

    plain : PlainFor m n r.notes → IsOpenNow
    plain f = absurd (subst (IsPlain m) says (f x has number))

    no_begin : ◌≡◌ {A = WhatOf m} told.Begin (told.Asked o q s a) → ⊥
    no_begin e = cc

    no_end : ◌≡◌ {A = WhatOf m} told.End (told.Asked o q s a) → ⊥
    no_end e = cc

    no_put : (i : Oid) (op : m.op) → ◌≡◌ {A = WhatOf m} (told.Put i op) (told.Asked o q s a) → ⊥
    no_put i op e = cc

    no_refusal : (why : Refusal) → ◌≡◌ {A = WhatOf m} (told.Refused why) (told.Asked o q s a) → ⊥
    no_refusal why e = cc

    no_commit : (p : ℕ) → ◌≡◌ {A = WhatOf m} (told.Committed p) (told.Asked o q s a) → ⊥
    no_commit p e = cc

    isnt : (y : NoteOf m) → (y.what ≡ told.Asked o q s a → ⊥) → x ≡ y → IsOpenNow
    isnt y f e = absurd (f (ap (λ (z : NoteOf m). z.what) (sym e) ∙ says))

    only : (y : NoteOf m) (f : y.what ≡ told.Asked o q s a → ⊥) → r.notes ≡ y ∷ [] → IsOpenNow
    only y f e = by (subst (λ (ns : List (NoteOf m)). Has ns x) e has)
      where
        by : Has (y ∷ []) x → IsOpenNow
        by (inl g) = isnt y f g
        by (inr g) = absurd g

    read : (of : Tx) (part : ReadMark) (at : ℕ) (what : WhatOf m) → r.now.tx ≡ Some (tx_read of part at) → r.notes ≡ note m of.number what ∷ [] → IsOpenNow
    read of part at what tx notes = (tx_read of part at, tx, by (subst (λ (ns : List (NoteOf m)). Has ns x) notes has))
      where
        by : Has (note m of.number what ∷ []) x → of.number ≡ n
        by (inl g) = ap (λ (z : NoteOf m). z.tx) (sym g) ∙ number
        by (inr g) = absurd g

    close_no : (w : Work m) (end : Option AppendEnd) (what : WhatOf m) → c.work ≡ Some w → IsEnd m w.command → Close m c w end what → what ≡ told.Asked o q s a → ⊥
    close_no w end what works e (Lost b y p g is rec f) z = no_refusal (cause.Forgotten p g) z
    close_no w end what works e (Written b p page is f) z = no_commit p z
    close_no w end what works e (Decided b y is) z = let k = awaits w works e b what is in subst (OfRecord m k.0) z k.1
    close_no w end what works e (Told y idle of) z = subst (OfRecord m w.at) z of

    marks : (i : Oid) (j : ℕ) → Has (mark_notes m (c.begun + 1) i j) x → IsOpenNow
    marks i j (inl e) = isnt _ no_begin e
    marks i j (inr (inl e)) = isnt _ (no_put _ _) e
    marks i j (inr (inr (inl e))) = isnt _ no_end e
    marks i j (inr (inr (inr e))) = absurd e

    taken_told : {y : CommandOf m} → Taking m c y r → IsOpenNow
    taken_told (Nothing st e z) = plain (zero_plain m n r.notes positive z)
    taken_told (Opening p) = only (note m (c.begun + 1) told.Begin) no_begin p.notes
    taken_told (Putting p) = only (note m p.of.number (told.Put p.oid p.op)) (no_put p.oid p.op) p.notes
    taken_told (Answering y) = read y.of (record { oid = y.oid; part = m.look y.ask; version = y.version }) y.at (told.Asked y.oid y.ask y.at y.answer) y.tx y.notes
    taken_told (Ending e) = plain (are_plain m n r.notes _ e.notes (cons_plain m n (note m e.of.number told.End) (note m e.of.number (told.Committed (snapshot_or m e.of.snapshot)) ∷ []) (λ z. tt)
        (one_plain m n (note m e.of.number (told.Committed (snapshot_or m e.of.snapshot))) (λ z. tt))))
    taken_told (EndingLater e) = only (note m e.of.number told.End) no_end e.notes
    taken_told (Dropping d) = plain (are_plain m n r.notes _ d.notes (one_plain m n _ (λ z. tt)))
    taken_told (Beginning b) = plain (nil_plain m n r.notes b.notes)

    pub told_open : Turned m c r → IsOpenNow
    told_open (Idles st e notes) = plain (nil_plain m n r.notes notes)
    told_open (Works w end works (On st notes v at e on)) = plain (nil_plain m n r.notes notes)
    told_open (Works w end works (Quits st e z)) = plain (quit_plain m c w end n positive r.notes z)
    told_open (Works w end works (Closes st e i what notes z)) = only (note m (tx_number m c.tx) what) (close_no w end what works i z) notes
    told_open (Works w end works (Asks y)) = read y.of (record { oid = y.oid; part = m.look y.ask; version = y.version }) y.tail (told.Asked y.oid y.ask y.tail y.answer) y.tx y.notes
    told_open (Works w end works (Marks' y)) = marks y.oid y.mark (subst (λ (ns : List (NoteOf m)). Has ns x) y.notes has)
    told_open (Takes y (Refuses why at e)) = only (note m (number_on m c why) (told.Refused why)) (no_refusal why) (ap (λ (z : Moved m). z.notes) e)
    told_open (Takes y (Takes' free fine z)) = taken_told z

-- Over a run, an end that waits for a decision record has an outcome of its record to tell.
module _ (m : Meaning) (h : Header) where
  new_awaits : (k : ℕ) → Awaits m (new_client m h k)
  unfolding new_client
  new_awaits k v has = no_some v has

  start_awaits : (k : ℕ) → Awaits m (client m (start m h) k)
  unfolding start
  start_awaits k = at_map (new_client m h) (numbers h.clients 0) k (new_client m h k) (λ (x : Client m). Awaits m x) new_awaits (new_awaits k)

  pub awaits_at : (xs : Moves m) (k : ℕ) → Awaits m (client m (after m h xs) k)
  awaits_at xs k = awaits_run m k xs (start m h) (start_book m h) (start_awaits k)
