-- The snapshot of a transaction that is open: its asks were answered there, and it isn't past the view that its client keeps
-- until the record of the transaction stands.
use Rattle.std.proofs.Common.{◌≡◌, ◌⊎◌, ℕ, ◌+◌, ◌<◌, ◌≤◌, List, [], ◌∷◌, ◌++◌, map, refl, sym, ap, ◌∙◌, subst, inl, inr, arith, Option, Some, None}
use Rattle.tg_base.specs.Clusters.{Header}
use Rattle.tg_base.specs.declared.ids.Oid.{Oid}
use Rattle.tg_kind.specs.Meaning.{Meaning}
use Rattle.tg_model.specs.declared.command.Command.TheVariants as cmd
use Rattle.tg_model.specs.declared.trace.What.TheVariants as told
use Rattle.tg_model.specs.Kinds.{CommandOf, WhatOf, NoteOf, MarkOf, EventOf}
use Rattle.tg_model.specs.Traces.{Trace, Tells}
use Rattle.tg_protocol.specs.Words.{directory, numbers}
use Rattle.tg_protocol.specs.Replies.{reply}
use Rattle.tg_protocol.specs.Appending.{Append, AppendEnd}
use Rattle.tg_protocol.specs.Transactions.{Tx, open_tx, tx_put, tx_read}
use Rattle.tg_protocol.specs.Clients.{Purpose, Writes, Judged, Marks, Task, Appending, Work, Client, new_client, upto_in, upto, write_of}
use Rattle.tg_protocol.specs.Answers.{Moved, note, mark_notes}
use Rattle.tg_protocol.specs.ClientSteps.{ClientTurn, task_in, called, client_command, client_deliver, client_tick}
use Rattle.tg_protocol.specs.Worlds.{World, start, client, trace, happens, next_event}
use Rattle.tg_protocol.specs.Runs.{Moves, Next, Takes as Moves', run}
use Rattle.tg_law_layouts.specs.Moves.Configs.{Config, config, client_in}
use Rattle.tg_law_layouts.proofs.Moves.Lists.{at_map, at_set}
use Rattle.tg_law_layouts.proofs.Moves.Moves.{Cases, ClientInput, Commanded, Hears', Ticks', step_cases}
use Rattle.tg_law_replies.proofs.History.Members.{Has, has_contained, contained_has, has_image, has_either}
use Rattle.tg_law_replies.proofs.Replies.Books.{mark, IsPlain}
use Rattle.tg_law_replies.proofs.Books.Effects.{IsEnd, IsAsk, Idle, Suits, IsRecord, IsOther, Onward, Same', Walks, Lands, Begins, Quit, Zeros, AskFails, Filled, Marked, MarkFilled, MarkLost, On, Quits, Closes, Asks, Marks'}
use Rattle.tg_law_replies.proofs.Books.Commands.{Refuses, Takes', Taking, Nothing, Opening, Putting, Answering, Ending, EndingLater, Dropping, Beginning, Turned, Idles, Works, Takes}
use Rattle.tg_law_replies.proofs.Books.Turns.{BookOf}
use Rattle.tg_law_walks.proofs.Drafts.Became.{no_some, same_some}
use Rattle.tg_law_replies.proofs.Books.Worlds.{WorldBook, Stepped, Rests, Turns, step, step_book}
use Rattle.tg_law_walks.proofs.Once.Quieting.{PlainFor, nil_plain, cons_plain, one_plain, are_plain, zero_plain, quit_plain}
use Rattle.tg_law_syncs.proofs.Follow.Looks.{IsWalk, AskedBelow, Looks, SameView, NoneOpen, Walked, Sees, command_sees, feed_sees, tick_sees}

module _ (m : Meaning) where
  pub record Snap (tr : Trace m) (k : ℕ) (c : Client m) : Type 0 where
    pub told : (t : Tx) (o : Oid) (q : m.ask) (s : ℕ) (a : m.answer) → c.tx ≡ Some t → Tells m tr k t.number (told.Asked o q s a) → t.snapshot ≡ Some s
    pub idle : (t : Tx) (s : ℕ) → c.tx ≡ Some t → t.snapshot ≡ Some s → c.work ≡ None → s ≤ upto m c
    pub ends : (t : Tx) (s : ℕ) (w : Work m) → c.tx ≡ Some t → t.snapshot ≡ Some s → c.work ≡ Some w → IsEnd m w.command
    pub hand : (t : Tx) (s : ℕ) (w : Work m) (a : Append) (y : Purpose m) → c.tx ≡ Some t → t.snapshot ≡ Some s → c.work ≡ Some w → task_in m w.hand ≡ Appending a y → IsRecord m y → s ≤ upto m c

  same_purpose : (a b : Append) (y z : Purpose m) → Appending a y ≡ Appending b z → y ≡ z
  same_purpose a b y z e = cc

  pub same_asked : (o o' : Oid) (q q' : m.ask) (s s' : ℕ) (a a' : m.answer) (w w' : WhatOf m) → w ≡ told.Asked o q s a → w' ≡ told.Asked o' q' s' a' → w ≡ w' → s ≡ s'
  same_asked o o' q q' s s' a a' w w' e f g = cc

  pub no_snapshot : {X : Type 0} (t : Tx) (s : ℕ) → t.snapshot ≡ None → t.snapshot ≡ Some s → X
  no_snapshot t s e f = no_some s (sym e ∙ f)

  not_walk : (a : Append) (y : Purpose m) (t : Task m) → t ≡ Appending a y → IsWalk m t → ⊥
  not_walk a y t e i = subst (IsWalk m) e i

  other_record : (y : Purpose m) → IsOther m y → IsRecord m y → ⊥
  other_record Writes o r = o
  other_record Judged o r = o
  other_record y o r = r

  -- Turns.

  module _ (k event : ℕ) (tr : Trace m) (c : Client m) (h : BookOf m k tr c) (l : Snap tr k c) (r : Moved m) where
    abbrev noted : List (NoteOf m) → Trace m
    noted ns = tr ++ map (mark m event k) ns

    -- What is told.

    pub record AskedNow (ns : List (NoteOf m)) (n : ℕ) (what : WhatOf m) : Type 0 where
      pub note : NoteOf m
      pub has : Has ns note
      pub number : note.tx ≡ n
      pub says : note.what ≡ what

    old_or_new : (ns : List (NoteOf m)) (n : ℕ) (what : WhatOf m) → Tells m (noted ns) k n what → Tells m tr k n what ⊎ AskedNow ns n what
    old_or_new ns n what x = by (has_either tr (map (mark m event k) ns) _ (has_contained (noted ns) _ x.here))
      where
        u : MarkOf m
        u = record { event = x.event; client = k; tx = n; what = what }

        by : Has tr u ⊎ Has (map (mark m event k) ns) u → Tells m tr k n what ⊎ AskedNow ns n what
        by (inl i) = inl (record { number = x.number; event = x.event; here = contained_has tr u i })
        by (inr i) =
            let j = has_image (mark m event k) ns u i in
            inr (record { note = j.0; has = j.1; number = sym (ap (λ (y : MarkOf m). y.tx) j.2); says = sym (ap (λ (y : MarkOf m). y.what) j.2) })

    abbrev ToldAt : Tx → Type 0
    ToldAt t = (o : Oid) (q : m.ask) (s : ℕ) (a : m.answer) → Tells m (noted r.notes) k t.number (told.Asked o q s a) → t.snapshot ≡ Some s

    none_asked : {X : Type 0} (n : ℕ) (o : Oid) (q : m.ask) (s : ℕ) (a : m.answer) → PlainFor m n r.notes → AskedNow r.notes n (told.Asked o q s a) → X
    none_asked n o q s a plain y = absurd (subst (IsPlain m) y.says (plain y.note y.has y.number))

    stays : (t : Tx) → c.tx ≡ Some t → PlainFor m t.number r.notes → ToldAt t
    stays t is plain o q s a x = by (old_or_new r.notes t.number (told.Asked o q s a) x)
      where
        by : Tells m tr k t.number (told.Asked o q s a) ⊎ AskedNow r.notes t.number (told.Asked o q s a) → t.snapshot ≡ Some s
        by (inl y) = l.told t o q s a is y
        by (inr y) = none_asked t.number o q s a plain y

    positive : (t : Tx) → c.tx ≡ Some t → 0 < t.number
    positive t is = (h.number t is).0

    -- an answer to an ask of the transaction
    answered : (of t : Tx) (oid : Oid) (ask : m.ask) (version at : ℕ) (answer : m.answer) → r.now.tx ≡ Some (tx_read of (record { oid = oid; part = m.look ask; version = version }) at) → r.now.tx ≡ Some t
        → r.notes ≡ note m of.number (told.Asked oid ask at answer) ∷ [] → ((o : Oid) (q : m.ask) (s : ℕ) (a : m.answer) → Tells m tr k of.number (told.Asked o q s a) → s ≡ at) → ToldAt t
    answered of t oid ask version at answer tx is notes old = subst ToldAt (same_some (tx_read of (record { oid = oid; part = m.look ask; version = version }) at) t (sym tx ∙ is)) here
      where
        here : ToldAt (tx_read of (record { oid = oid; part = m.look ask; version = version }) at)
        here o q s a x = by (old_or_new r.notes of.number (told.Asked o q s a) x)
          where
            new : (y : AskedNow r.notes of.number (told.Asked o q s a)) → Has (note m of.number (told.Asked oid ask at answer) ∷ []) y.note → s ≡ at
            new y (inl e) = same_asked o oid q ask s at a answer y.note.what (told.Asked oid ask at answer) y.says refl (ap (λ (z : NoteOf m). z.what) e)
            new y (inr e) = absurd e

            by : Tells m tr k of.number (told.Asked o q s a) ⊎ AskedNow r.notes of.number (told.Asked o q s a) → Some at ≡ Some s
            by (inl y) = ap Some (sym (old o q s a y))
            by (inr y) = ap Some (sym (new y (subst (λ (ns : List (NoteOf m)). Has ns y.note) notes y.has)))

    mark_plain : (v : Tx) → c.tx ≡ Some v → (o : Oid) (j : ℕ) → PlainFor m v.number (mark_notes m (c.begun + 1) o j)
    mark_plain v at o j = cons_plain m v.number (note m (c.begun + 1) told.Begin) (note m (c.begun + 1) (told.Put directory (m.mark_op o j)) ∷ note m (c.begun + 1) told.End ∷ []) (λ e. tt)
        (cons_plain m v.number (note m (c.begun + 1) (told.Put directory (m.mark_op o j))) (note m (c.begun + 1) told.End ∷ []) (λ e. let le = (h.number v at).1 in omega (arith, le, e))
        (one_plain m v.number (note m (c.begun + 1) told.End) (λ e. tt)))

    -- of a new number nothing was told
    opened : (t : Tx) → t.number ≡ c.begun + 1 → r.notes ≡ note m (c.begun + 1) told.Begin ∷ [] → ToldAt t
    opened t number notes o q s a x = by (old_or_new r.notes t.number (told.Asked o q s a) x)
      where
        by : Tells m tr k t.number (told.Asked o q s a) ⊎ AskedNow r.notes t.number (told.Asked o q s a) → t.snapshot ≡ Some s
        by (inl y) = let b = h.below _ (has_contained tr _ y.here) refl in absurd (omega (arith, b, number))
        by (inr y) = none_asked t.number o q s a (are_plain m t.number r.notes _ notes (one_plain m t.number (note m (c.begun + 1) told.Begin) (λ e. tt))) y

    not_put : {X : Type 0} (oid o : Oid) (op : m.op) (q : m.ask) (s : ℕ) (a : m.answer) (w w' : WhatOf m) → w ≡ told.Asked o q s a → w' ≡ told.Put oid op → w ≡ w' → X
    not_put oid o op q s a w w' e f g = absurd (differ (sym e ∙ (g ∙ f)))
      where
        differ : told.Asked o q s a ≡ told.Put oid op → ⊥
        differ z = cc

    put : (of : Tx) (oid : Oid) (op : m.op) → c.tx ≡ Some of → r.notes ≡ note m of.number (told.Put oid op) ∷ [] → ToldAt (tx_put of (write_of m oid op))
    put of oid op is notes o q s a x = by (old_or_new r.notes of.number (told.Asked o q s a) x)
      where
        new : (y : AskedNow r.notes of.number (told.Asked o q s a)) → Has (note m of.number (told.Put oid op) ∷ []) y.note → of.snapshot ≡ Some s
        new y (inl e) = not_put oid o op q s a y.note.what (told.Put oid op) y.says refl (ap (λ (z : NoteOf m). z.what) e)
        new y (inr e) = absurd e

        by : Tells m tr k of.number (told.Asked o q s a) ⊎ AskedNow r.notes of.number (told.Asked o q s a) → of.snapshot ≡ Some s
        by (inl y) = l.told of o q s a is y
        by (inr y) = new y (subst (λ (ns : List (NoteOf m)). Has ns y.note) notes y.has)

    taken_told : {x : CommandOf m} (t : Tx) → r.now.tx ≡ Some t → Taking m c x r → ToldAt t
    taken_told t is (Nothing s e z) = stays t (sym s.0 ∙ is) (zero_plain m t.number r.notes (positive t (sym s.0 ∙ is)) z)
    taken_told t is (Opening p) = opened t (sym (ap (λ (z : Tx). z.number) (same_some (open_tx (c.begun + 1)) t (sym p.tx ∙ is)))) p.notes
    taken_told t is (Putting p) = subst ToldAt (same_some (tx_put p.of (write_of m p.oid p.op)) t (sym p.tx ∙ is)) (put p.of p.oid p.op p.from p.notes)
    taken_told t is (Answering a) = answered a.of t a.oid a.ask a.version a.at a.answer a.tx is a.notes (λ o q s b y. same_some s a.at (sym (l.told a.of o q s b a.from y) ∙ a.first))
    taken_told t is (Ending e) = no_some t (sym e.tx ∙ is)
    taken_told t is (EndingLater e) = stays t (sym e.same.0 ∙ is) (are_plain m t.number r.notes _ e.notes (one_plain m t.number (note m e.of.number told.End) (λ z. tt)))
    taken_told t is (Dropping d) = no_some t (sym d.tx ∙ is)
    taken_told t is (Beginning b) = stays t (sym b.same.0 ∙ is) (nil_plain m t.number r.notes b.notes)

    told_turned : (t : Tx) → r.now.tx ≡ Some t → Turned m c r → ToldAt t
    told_turned t is (Idles s e notes) = stays t (sym s.0 ∙ is) (nil_plain m t.number r.notes notes)
    told_turned t is (Works w end has (On s notes v at e on)) = stays t (sym s.0 ∙ is) (nil_plain m t.number r.notes notes)
    told_turned t is (Works w end has (Quits s e q)) = stays t (sym s.0 ∙ is) (quit_plain m c w end t.number (positive t (sym s.0 ∙ is)) r.notes q)
    told_turned t is (Works w end has (Closes s e i what notes z)) = no_some t (sym s.0 ∙ is)
    told_turned t is (Works w end has (Asks a)) = answered a.of t a.oid a.ask a.version a.tail a.answer a.tx is a.notes (λ o q s b y. no_snapshot a.of s (h.first w a.of has a.is_ask a.from) (l.told a.of o q s b a.from y))
    told_turned t is (Works w end has (Marks' x)) = stays t (sym x.tx ∙ is) (are_plain m t.number r.notes (mark_notes m (c.begun + 1) x.oid x.mark) x.notes (mark_plain t (sym x.tx ∙ is) x.oid x.mark))
    told_turned t is (Takes x (Refuses why at e)) = stays t (sym (ap (λ (y : Moved m). y.now.tx) e) ∙ is) (are_plain m t.number r.notes _ (ap (λ (y : Moved m). y.notes) e) (one_plain m t.number _ (λ z. tt)))
    told_turned t is (Takes x (Takes' free fine y)) = taken_told t is y

    -- The view.

    module _ (sees : Sees m c (called m r.now)) where
      abbrev d : Client m
      d = called m r.now

      same_upto : (t : Tx) → c.tx ≡ Some t → ((w : Work m) → c.work ≡ Some w → IsWalk m (task_in m w.hand) → ⊥) → upto m d ≡ upto m c
      same_upto t is never = by sees.0
        where
          by : Looks m c d → upto m d ≡ upto m c
          by (SameView e f) = ap (λ v. upto_in m v) e
          by (NoneOpen e) = no_some t (sym e ∙ is)
          by (Walked w has i f) = absurd (never w has i)

      free_upto : (t : Tx) (s : ℕ) → c.tx ≡ Some t → t.snapshot ≡ Some s → c.work ≡ None → s ≤ upto m d
      free_upto t s is snap free = let a = l.idle t s is snap free in let b = same_upto t is (λ w has. no_some w (sym free ∙ has)) in omega (arith, a, b)

      hand_upto : (t : Tx) (s : ℕ) (w : Work m) (a : Append) (y : Purpose m) → c.tx ≡ Some t → t.snapshot ≡ Some s → c.work ≡ Some w → task_in m w.hand ≡ Appending a y → IsRecord m y → s ≤ upto m d
      hand_upto t s w a y is snap has at rec =
          let b = l.hand t s w a y is snap has at rec in
          let e = same_upto t is (λ v g i. not_walk a y (task_in m v.hand) (ap (λ (z : Work m). task_in m z.hand) (same_some v w (sym g ∙ has)) ∙ at) i) in
          omega (arith, b, e)

      forgets : {X : Type 0} (t : Tx) (s : ℕ) (w : Work m) (o : Oid) (j : ℕ) → c.tx ≡ Some t → t.snapshot ≡ Some s → c.work ≡ Some w → w.command ≡ cmd.Forget o j → X
      forgets t s w o j is snap has e = absurd (subst (IsEnd m) e (l.ends t s w is snap has))

      marks_no : {X : Type 0} (t : Tx) (s : ℕ) (w : Work m) (a : Append) (n : ℕ) (o : Oid) (j : ℕ) → c.tx ≡ Some t → t.snapshot ≡ Some s → c.work ≡ Some w → task_in m w.hand ≡ Appending a (Marks n o j) → X
      marks_no t s w a n o j is snap has at = forgets t s w o j is snap has (subst (Suits m w.command) at (h.suits w has))

      quit_upto : (t : Tx) (s : ℕ) (w : Work m) (end : Option AppendEnd) (ns : List (NoteOf m)) → c.tx ≡ Some t → t.snapshot ≡ Some s → c.work ≡ Some w → Quit m c w end ns → s ≤ upto m d
      quit_upto t s w end ns is snap has (Zeros other z) = absurd (other (l.ends t s w is snap has))
      quit_upto t s w end ns is snap has (AskFails why i z) = no_snapshot t s (h.first w t has i is) snap
      quit_upto t s w end ns is snap has (Filled a y n at rec f) = hand_upto t s w a y is snap has at rec
      quit_upto t s w end ns is snap has (Marked a n o j p page at e) = marks_no t s w a n o j is snap has at
      quit_upto t s w end ns is snap has (MarkFilled a n o j p at f) = marks_no t s w a n o j is snap has at
      quit_upto t s w end ns is snap has (MarkLost a n o j p b at e) = marks_no t s w a n o j is snap has at

      -- an ask is answered at the tail, up to where the view has played
      ask_upto : (t of : Tx) (s : ℕ) (w : Work m) (oid : Oid) (ask : m.ask) (version tail : ℕ) → c.work ≡ Some w → IsAsk m w.command → c.tx ≡ Some of → r.now.tx ≡ Some (tx_read of (record { oid = oid; part = m.look ask; version = version }) tail)
          → r.now.tx ≡ Some t → t.snapshot ≡ Some s → s ≤ upto m d
      ask_upto t of s w oid ask version tail has i from tx is snap = by sees.0
        where
          first : of.snapshot ≡ None
          first = h.first w of has i from

          read : Tx
          read = tx_read of (record { oid = oid; part = m.look ask; version = version }) tail

          same : {X : Type 0} → r.now.tx ≡ c.tx → X
          same e = no_snapshot of tail first (ap (λ (z : Tx). z.snapshot) (same_some of read (sym from ∙ (sym e ∙ tx))))

          below : AskedBelow m c.tx d → s ≤ upto m d
          below (inl e) = same e
          below (inr f) = f t s is snap

          kept : (r.now.tx ≡ c.tx) ⊎ (r.now.tx ≡ None) → s ≤ upto m d
          kept (inl e) = same e
          kept (inr e) = no_some t (sym e ∙ is)

          by : Looks m c d → s ≤ upto m d
          by (SameView e f) = kept (f w has)
          by (NoneOpen e) = no_some of (sym e ∙ from)
          by (Walked v g j f) = below (f (subst (λ (z : Work m). IsAsk m z.command) (same_some w v (sym has ∙ g)) i))

      taken_idle : {x : CommandOf m} (t : Tx) (s : ℕ) → c.work ≡ None → r.now.tx ≡ Some t → t.snapshot ≡ Some s → r.now.work ≡ None → Taking m c x r → s ≤ upto m d
      taken_idle t s free is snap none (Nothing st e z) = free_upto t s (sym st.0 ∙ is) snap free
      taken_idle t s free is snap none (Opening p) = no_snapshot t s (ap (λ (z : Tx). z.snapshot) (sym (same_some (open_tx (c.begun + 1)) t (sym p.tx ∙ is)))) snap
      taken_idle t s free is snap none (Putting p) = free_upto p.of s p.from (ap (λ (z : Tx). z.snapshot) (same_some (tx_put p.of (write_of m p.oid p.op)) t (sym p.tx ∙ is)) ∙ snap) free
      taken_idle t s free is snap none (Answering a) =
          let at = ap (λ (z : Tx). z.snapshot) (same_some (tx_read a.of (record { oid = a.oid; part = m.look a.ask; version = a.version }) a.at) t (sym a.tx ∙ is)) ∙ snap in
          free_upto a.of s a.from (a.first ∙ at) free
      taken_idle t s free is snap none (Ending e) = no_some t (sym e.tx ∙ is)
      taken_idle t s free is snap none (EndingLater e) = no_some e.work (sym none ∙ e.works)
      taken_idle t s free is snap none (Dropping e) = no_some t (sym e.tx ∙ is)
      taken_idle t s free is snap none (Beginning b) = no_some b.work (sym none ∙ b.works)

      idle_turned : (t : Tx) (s : ℕ) → r.now.tx ≡ Some t → t.snapshot ≡ Some s → r.now.work ≡ None → Turned m c r → s ≤ upto m d
      idle_turned t s is snap none (Idles st same notes) = free_upto t s (sym st.0 ∙ is) snap (sym same ∙ none)
      idle_turned t s is snap none (Works w end has (On st notes v at same on)) = no_some v (sym none ∙ at)
      idle_turned t s is snap none (Works w end has (Quits st e q)) = quit_upto t s w end r.notes (sym st.0 ∙ is) snap has q
      idle_turned t s is snap none (Works w end has (Closes st e i what notes z)) = no_some t (sym st.0 ∙ is)
      idle_turned t s is snap none (Works w end has (Asks a)) = ask_upto t a.of s w a.oid a.ask a.version a.tail has a.is_ask a.from a.tx is snap
      idle_turned t s is snap none (Works w end has (Marks' x)) = no_some x.work (sym none ∙ x.works)
      idle_turned t s is snap none (Takes x (Refuses why i e)) = free_upto t s (sym (ap (λ (y : Moved m). y.now.tx) e) ∙ is) snap (sym (ap (λ (y : Moved m). y.now.work) e) ∙ none)
      idle_turned t s is snap none (Takes x (Takes' free fine y)) = taken_idle t s free is snap none y

      taken_ends : {x : CommandOf m} (t : Tx) (s : ℕ) (v : Work m) → c.work ≡ None → r.now.tx ≡ Some t → t.snapshot ≡ Some s → r.now.work ≡ Some v → Taking m c x r → IsEnd m v.command
      taken_ends t s v free is snap works (Nothing st e z) = no_some v (sym e ∙ works)
      taken_ends t s v free is snap works (Opening p) = no_some v (sym p.work ∙ works)
      taken_ends t s v free is snap works (Putting p) = no_some v (sym p.work ∙ works)
      taken_ends t s v free is snap works (Answering a) = no_some v (sym a.work ∙ works)
      taken_ends t s v free is snap works (Ending e) = no_some v (sym e.work ∙ works)
      taken_ends t s v free is snap works (EndingLater e) = subst (IsEnd m) (sym (ap (λ (z : Work m). z.command) (same_some v e.work (sym works ∙ e.works)) ∙ e.command)) tt
      taken_ends t s v free is snap works (Dropping e) = no_some v (sym e.work ∙ works)
      taken_ends {x} t s v free is snap works (Beginning b) = by (sees.1 v free works)
        where
          same : v.command ≡ x
          same = ap (λ (z : Work m). z.command) (same_some v b.work (sym works ∙ b.works)) ∙ b.command

          by : (c.tx ≡ None) ⊎ (IsAsk m v.command ⊎ IsEnd m v.command) → IsEnd m v.command
          by (inl e) = no_some t (sym e ∙ (sym b.same.0 ∙ is))
          by (inr (inl i)) = no_snapshot t s (b.first (subst (IsAsk m) same i) t (sym b.same.0 ∙ is)) snap
          by (inr (inr i)) = i

      ends_turned : (t : Tx) (s : ℕ) (v : Work m) → r.now.tx ≡ Some t → t.snapshot ≡ Some s → r.now.work ≡ Some v → Turned m c r → IsEnd m v.command
      ends_turned t s v is snap works (Idles st same notes) = l.ends t s v (sym st.0 ∙ is) snap (sym same ∙ works)
      ends_turned t s v is snap works (Works w end has (On st notes u at same on)) =
          subst (IsEnd m) (sym (ap (λ (z : Work m). z.command) (same_some v u (sym works ∙ at)) ∙ same)) (l.ends t s w (sym st.0 ∙ is) snap has)
      ends_turned t s v is snap works (Works w end has (Quits st e q)) = no_some v (sym e ∙ works)
      ends_turned t s v is snap works (Works w end has (Closes st e i what notes z)) = no_some v (sym e ∙ works)
      ends_turned t s v is snap works (Works w end has (Asks a)) = no_some v (sym a.idle ∙ works)
      ends_turned t s v is snap works (Works w end has (Marks' x)) = forgets t s w x.oid x.mark (sym x.tx ∙ is) snap has x.command
      ends_turned t s v is snap works (Takes x (Refuses why i e)) = l.ends t s v (sym (ap (λ (y : Moved m). y.now.tx) e) ∙ is) snap (sym (ap (λ (y : Moved m). y.now.work) e) ∙ works)
      ends_turned t s v is snap works (Takes x (Takes' free fine y)) = taken_ends t s v free is snap works y

      module _ (t : Tx) (s : ℕ) (v : Work m) (a : Append) (y : Purpose m) (is : r.now.tx ≡ Some t) (snap : t.snapshot ≡ Some s) (works : r.now.work ≡ Some v) (at : task_in m v.hand ≡ Appending a y) (rec : IsRecord m y) where
        idle_no : {X : Type 0} (u : Work m) → r.now.work ≡ Some u → Idle m (task_in m u.hand) → X
        idle_no u i idle = absurd (subst (Idle m) (ap (λ (z : Work m). task_in m z.hand) (same_some u v (sym i ∙ works)) ∙ at) idle)

        purpose_in : (u : Work m) (b : Append) (z : Purpose m) → r.now.work ≡ Some u → task_in m u.hand ≡ Appending b z → z ≡ y
        purpose_in u b z i e = same_purpose b a z y (sym e ∙ (ap (λ (x : Work m). task_in m x.hand) (same_some u v (sym i ∙ works)) ∙ at))

        onward : (w : Work m) (end : Option AppendEnd) (u : Work m) → c.tx ≡ Some t → c.work ≡ Some w → r.now.work ≡ Some u → Onward m c w end u → s ≤ upto m d
        onward w end u was has i (Same' b b' z x e f p) = hand_upto t s w b z was snap has x (subst (IsRecord m) (sym (purpose_in u b' z i e)) rec)
        onward w end u was has i (Walks i0 i1 e p) = idle_no u i i1
        onward w end u was has i (Lands b p page x f q j e) = idle_no u i j
        onward w end u was has i (Begins b z j e body other of so p) = absurd (other_record y (subst (IsOther m) (purpose_in u b z i e) other) rec)

        taken_hand : {x : CommandOf m} → c.work ≡ None → Taking m c x r → s ≤ upto m d
        taken_hand free (Nothing st e z) = no_some v (sym e ∙ works)
        taken_hand free (Opening p) = no_some v (sym p.work ∙ works)
        taken_hand free (Putting p) = no_some v (sym p.work ∙ works)
        taken_hand free (Answering b) = no_some v (sym b.work ∙ works)
        taken_hand free (Ending e) = no_some v (sym e.work ∙ works)
        taken_hand free (EndingLater e) = free_upto t s (sym e.same.0 ∙ is) snap free
        taken_hand free (Dropping e) = no_some v (sym e.work ∙ works)
        taken_hand free (Beginning b) = idle_no b.work b.works b.idle

        hand_turned : Turned m c r → s ≤ upto m d
        hand_turned (Idles st same notes) = hand_upto t s v a y (sym st.0 ∙ is) snap (sym same ∙ works) at rec
        hand_turned (Works w end has (On st notes u i same on)) = onward w end u (sym st.0 ∙ is) has i on
        hand_turned (Works w end has (Quits st e q)) = no_some v (sym e ∙ works)
        hand_turned (Works w end has (Closes st e i what notes z)) = no_some v (sym e ∙ works)
        hand_turned (Works w end has (Asks b)) = no_some v (sym b.idle ∙ works)
        hand_turned (Works w end has (Marks' x)) = absurd (subst (IsRecord m) (sym (purpose_in x.work x.append (Marks (c.begun + 1) x.oid x.mark) x.works x.appends)) rec)
        hand_turned (Takes x (Refuses why i e)) = hand_upto t s v a y (sym (ap (λ (z : Moved m). z.now.tx) e) ∙ is) snap (sym (ap (λ (z : Moved m). z.now.work) e) ∙ works) at rec
        hand_turned (Takes x (Takes' free fine z)) = taken_hand free z

      pub snap_turned : Turned m c r → Snap (noted r.notes) k d
      snap_turned turn = record {
        told = λ t o q s a is x. told_turned t is turn o q s a x;
        idle = λ t s is snap none. idle_turned t s is snap none turn;
        ends = λ t s v is snap works. ends_turned t s v is snap works turn;
        hand = λ t s v a y is snap works at rec. hand_turned t s v a y is snap works at rec turn;
      }

  -- Steps of a world.

  called_sees : (c r : Client m) → Sees m c r → Sees m c (called m r)
  called_sees c r x = (by x.0, x.1)
    where
      by : Looks m c r → Looks m c (called m r)
      by (SameView e f) = SameView e f
      by (NoneOpen e) = NoneOpen e
      by (Walked w has i f) = Walked w has i f

  rests : (c : Client m) → Sees m c c
  rests c = (SameView refl (λ w has. inl refl), λ w none has. no_some w (sym none ∙ has))

  turn_sees : (c : Config m) (k : ℕ) (t : ClientTurn m) → ClientInput m c k t → Sees m (client_in m c k) t.now
  unfolding client_command client_deliver client_tick
  turn_sees c k t (Commanded x) = called_sees (client_in m c k) _ (command_sees m (client_in m c k) x)
  turn_sees c k t (Hears' p comes) = called_sees (client_in m c k) _ (feed_sees m (client_in m c k) p.from p.rid (reply p.msg))
  turn_sees c k t Ticks' = tick_sees m (client_in m c k) (client_in m c k).work refl

  sees_cases : (c : Config m) → Cases m c (λ d. (k : ℕ) → Sees m (client_in m c k) (client_in m d k))
  sees_cases c = record {
    idle = λ k. rests (client_in m c k);
    unit = λ u p a less k. rests (client_in m c k);
    layout = λ n p a less k. rests (client_in m c k);
    seqr = λ s t i less k. rests (client_in m c k);
    client = λ n t i less. at_set c.clients n t.now (new_client m c.cluster) (λ j x. Sees m (client_in m c j) x) less (turn_sees c n t i) (λ j other. rests (client_in m c j));
  }

  pub step_sees : (w : World m) (e : EventOf m) (k : ℕ) → Sees m (client m w k) (client m (happens m w e) k)
  step_sees w e = step_cases m w (λ d. (k : ℕ) → Sees m (client_in m (config m w) k) (client_in m d k)) (sees_cases (config m w)) e

  -- Along a run.

  module _ (k : ℕ) where
    snap_stepped : (e : EventOf m) (w v : World m) → WorldBook m w → Stepped m k e w v → Sees m (client m w k) (client m v k) → Snap (trace m w) k (client m w k) → Snap (trace m v) k (client m v k)
    snap_stepped e w v h (Rests c ys t alone) sees l = subst (λ (tr : Trace m). Snap tr k (client m v k)) (sym t) (subst (Snap (trace m w ++ ys) k) (sym c) (record {
      told = λ x o q s a is y. l.told x o q s a is (old x.number (told.Asked o q s a) y);
      idle = l.idle;
      ends = l.ends;
      hand = l.hand;
    }))
      where
        old : (n : ℕ) (what : WhatOf m) → Tells m (trace m w ++ ys) k n what → Tells m (trace m w) k n what
        old n what y = by (has_either (trace m w) ys _ (has_contained (trace m w ++ ys) _ y.here))
          where
            u : MarkOf m
            u = record { event = y.event; client = k; tx = n; what = what }

            by : Has (trace m w) u ⊎ Has ys u → Tells m (trace m w) k n what
            by (inl i) = record { number = y.number; event = y.event; here = contained_has (trace m w) u i }
            by (inr i) = absurd (alone u i refl)
    snap_stepped e w v h (Turns r t f g c traced) sees l = subst (λ (tr : Trace m). Snap tr k (client m v k)) (sym traced)
        (subst (Snap (trace m w ++ map (mark m w.event k) r.notes) k) (sym c) (snap_turned k w.event (trace m w) (client m w k) (h k) l r (subst (Sees m (client m w k)) c sees) t))

    pub snap_run : (ms : Moves m) (w : World m) → WorldBook m w → Snap (trace m w) k (client m w k) → Snap (trace m (run m ms w)) k (client m (run m ms w) k)
    unfolding run
    snap_run [] w h l = l
    snap_run (Next ∷ ms) w h l = snap_run ms (next_event m w) h l
    snap_run (Moves' e ∷ ms) w h l = snap_run ms (happens m w e) (step_book m w e h) (snap_stepped e w (happens m w e) h (step m w e h k) (step_sees w e k) l)

  new_snap : (h : Header) (k j : ℕ) → Snap [] k (new_client m h j)
  unfolding new_client
  new_snap h k j = record { told = λ t o q s a is. no_some t is; idle = λ t s is. no_some t is; ends = λ t s w is. no_some t is; hand = λ t s w a y is. no_some t is }

  pub start_snap : (h : Header) (k : ℕ) → Snap (trace m (start m h)) k (client m (start m h) k)
  unfolding start
  start_snap h k = at_map (new_client m h) (numbers h.clients 0) k (new_client m h k) (λ (x : Client m). Snap [] k x) (new_snap h k) (new_snap h k k)
