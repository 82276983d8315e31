-- What a step makes of the view that a client keeps, and of the snapshot of its transaction.
use Rattle.std.proofs.Common.{◌≡◌, ◌⊎◌, ℕ, ◌≤◌, List, [], ◌∷◌, Bool, true, false, refl, sym, ap, ◌∙◌, subst, inl, inr, arith, Option, Some, None, is_some}
use Rattle.std.specs.Prelude.{nat_lt}
use Rattle.tg_base.specs.declared.cell.Cell.{Cell}
use Rattle.tg_base.specs.declared.ids.NodeId.{NodeId}
use Rattle.tg_base.specs.declared.ids.Oid.{Oid}
use Rattle.tg_kind.specs.Meaning.{Meaning}
use Rattle.tg_model.specs.declared.play.PlayEnd.TheVariants.{Played}
use Rattle.tg_model.specs.declared.refusal.Refusal.{Refusal}
use Rattle.tg_model.specs.declared.refusal.Refusal.TheVariants as cause
use Rattle.tg_model.specs.Kinds.{CommandOf, WhatOf, NoteOf}
use Rattle.tg_model.specs.Words.{word_of}
use Rattle.tg_protocol.specs.Words.{first_some, where_true}
use Rattle.tg_protocol.specs.Replies.{Reply}
use Rattle.tg_protocol.specs.Appending.{append_start}
use Rattle.tg_protocol.specs.Syncing.{sync_start}
use Rattle.tg_protocol.specs.Transactions.{Tx, tx_read}
use Rattle.tg_protocol.specs.Views.{Entries, View, view_version, play, play_from}
use Rattle.tg_protocol.specs.Clients.{Task, Syncing, Walking, Hand, Work, Client, upto_in, upto, tests, busy, refusal, all_entries}
use Rattle.tg_protocol.specs.Answers.{Moved, took_over, answers, appends, syncs, ask_answer, own_view, play_target}
use Rattle.tg_protocol.specs.ClientSteps.{task_in, knows, given_up_if, owns, refused_or, tick_by, feed}
use Rattle.tg_law_replies.proofs.Books.Effects.{IsEnd, IsAsk}
use Rattle.tg_law_walks.proofs.Drafts.Became.{no_some, same_some}
use Rattle.tg_law_replies.proofs.Views.Plays.{played_stands}
use Rattle.tg_law_layouts.proofs.Moves.Turns.{not_busy}
use Rattle.tg_law_steps.proofs.Places.{Place, Feeds, Newer, OnAppend, OnTrims, OnCopy, OnReconf, Plays, Walks}
use Rattle.tg_law_steps.proofs.Ways.{Way, FeedsSync, FeedsWalk, FeedsAppend, FeedsTrims, FeedsCopy, FeedsReconf, NewerSync, NewerWalk, NewerAppend, NewerTrims, NewerCopy, NewerReconf, AllWalked, HasPlayed}
use Rattle.tg_law_steps.proofs.Ends.{SyncGoes, MarkBegins, StaleHigh, IsRefused, RecordForgotten, IsAnswered, JudgedSo, JudgedLost, EndBlocked, EndUnsure, EndJudged, IsAsked, IsTold, IsCommitted, IsMarked, End, GoesOn, LearnsNewer, Syncs, Appends, Refuses, Answers, Tells}
use Rattle.tg_law_steps.proofs.Takes.{HostsAlready, Hosts, Begins, WalksAsk, Taken, SaidAtOnce, SyncsFirst, AppendsRecord}
use Rattle.tg_law_steps.proofs.Along.{delivered, commanded, over_walks}

-- a play that wasn't blocked has come to its target
module _ (m : Meaning) (es : Entries) (n t : ℕ) where
  not_more : (a b : ℕ) → nat_lt a b ≡ true → a ≤ b
  not_more a b e = grind arith

  no_more : (a b : ℕ) → nat_lt a b ≡ false → b ≤ a
  no_more a b e = grind arith

  pub played_to : (v : View m) → (play m v es n).came ≡ Played t → n ≤ (play m v es n).view.upto
  unfolding play
  played_to v = by (nat_lt n v.upto) refl (λ le came. played_stands m es n t v le came)
    where
      by : (b : Bool) → nat_lt n v.upto ≡ b → (v.upto ≤ n → (play m v es n).came ≡ Played t → (play m v es n).view.upto ≡ n) → (play_from m v es n b).came ≡ Played t → n ≤ (play_from m v es n b).view.upto
      by true e f came = not_more n v.upto e
      by false e f came = let a = f (no_more n v.upto e) (ap (λ (c : Bool). (play_from m v es n c).came) e ∙ came) in let b = ap (λ (c : Bool). (play_from m v es n c).view.upto) e in omega (arith, a, b)

module _ (m : Meaning) where
  -- the machines at whose end a view is played, or given up
  abbrev pub IsWalk : Task m → Type 0
  IsWalk (Syncing s) = Unit {0}
  IsWalk (Walking k os) = Unit {0}
  IsWalk t = ⊥

  -- the transaction is the one before, or its snapshot isn't past the view
  abbrev pub AskedBelow : Option Tx → Client m → Type 0
  AskedBelow tx r = (r.tx ≡ tx) ⊎ ((t : Tx) (s : ℕ) → r.tx ≡ Some t → t.snapshot ≡ Some s → s ≤ upto m r)

  -- what a step makes of the view
  pub data Looks (c r : Client m) : Type 0 where
    SameView : r.view ≡ c.view → ((w : Work m) → c.work ≡ Some w → (r.tx ≡ c.tx) ⊎ (r.tx ≡ None)) → Looks c r
    NoneOpen : c.tx ≡ None → Looks c r
    Walked : (w : Work m) → c.work ≡ Some w → IsWalk (task_in m w.hand) → (IsAsk m w.command → AskedBelow c.tx r) → Looks c r

  -- With a transaction open, a client begins no work but an ask's, or its end's.
  abbrev pub Starts : Client m → Client m → Type 0
  Starts c r = (w : Work m) → c.work ≡ None → r.work ≡ Some w → (c.tx ≡ None) ⊎ (IsAsk m w.command ⊎ IsEnd m w.command)

  abbrev pub Sees : Client m → Client m → Type 0
  Sees c r = Looks c r × Starts c r

  -- What leaves the view as it is.

  abbrev Kept : Client m → Client m → Type 0
  Kept c r = (r.view ≡ c.view) × ((r.tx ≡ c.tx) ⊎ (r.tx ≡ None))

  kept_looks : (c r : Client m) → Kept c r → Looks c r
  kept_looks c r k = SameView k.0 (λ w has. k.1)

  took_view : (c : Client m) (v : Option (View m)) → (took_over m c v).view ≡ c.view
  took_view c None = refl
  took_view c (Some v) = refl

  pub took_tx : (c : Client m) (v : Option (View m)) → (took_over m c v).tx ≡ c.tx
  took_tx c None = refl
  took_tx c (Some v) = refl

  -- An ask is answered at the tail, up to where the view has played then.

  pub snapshot_is : (a b : Tx) (n s : ℕ) → Some a ≡ Some b → a.snapshot ≡ Some n → b.snapshot ≡ Some s → s ≡ n
  snapshot_is a b n s e f g = sym (same_some n s (sym f ∙ (ap (λ (t : Tx). t.snapshot) (same_some a b e) ∙ g)))

  module _ (tx : Option Tx) where
    asked_below : (c : Client m) (w : Work m) (t : Tx) (o : Oid) (q : m.ask) (v : View m) (s : m.state) → c.view ≡ Some v → w.tail ≤ v.upto → AskedBelow tx (ask_answer m c w t o q v (Some s)).now
    asked_below c w t o q v s view low = inr (λ u n is snap.
        let d : Client m = record c { tx = Some (tx_read t (record { oid = o; part = m.look q; version = view_version m v o (m.look q) }) w.tail) } in
        let at = snapshot_is (tx_read t (record { oid = o; part = m.look q; version = view_version m v o (m.look q) }) w.tail) u w.tail n (sym (took_tx d c.view) ∙ is) refl snap in
        let top = ap (λ (z : Option (View m)). upto_in m z) (took_view d c.view ∙ view) in
        omega (arith, at, top, low))

    pub knows_tx : (c : Client m) (s : Option (ℕ × Cell)) → c.tx ≡ tx → (knows m c s).tx ≡ tx
    knows_tx c None e = e
    knows_tx c (Some s) e = e

    pub given_up_tx : (b : Bool) (c : Client m) → c.tx ≡ tx → (given_up_if m b c).tx ≡ tx
    given_up_tx true c e = e
    given_up_tx false c e = e

  -- Along a turn.

  module _ (c0 : Client m) where
    -- a client that walks, by its transaction and its command
    pub record Roams (tx : Option Tx) (x : CommandOf m) : Type 0 where
      pub of : Work m
      pub has : c0.work ≡ Some of
      pub walks : IsWalk (task_in m of.hand)
      pub command : x ≡ of.command
      pub same : tx ≡ c0.tx

    abbrev pub At : Client m → Work m → Place m → Type 0
    At c w (Feeds t n rid x) = ((c.view ≡ c0.view) × (c.tx ≡ c0.tx)) × (IsWalk t → Roams c.tx w.command)
    At c w (Newer t n rid q) = ((c.view ≡ c0.view) × (c.tx ≡ c0.tx)) × (IsWalk t → Roams c.tx w.command)
    At c w (OnAppend y bs to) = (c.view ≡ c0.view) × (c.tx ≡ c0.tx)
    At c w (OnTrims b to) = (c.view ≡ c0.view) × (c.tx ≡ c0.tx)
    At c w (OnCopy x to) = (c.view ≡ c0.view) × (c.tx ≡ c0.tx)
    At c w (OnReconf to) = (c.view ≡ c0.view) × (c.tx ≡ c0.tx)
    At c w (Plays es p) = Roams c.tx w.command × (c.view ≡ Some p.view) × ((t : ℕ) → p.came ≡ Played t → play_target m w w.command ≤ p.view.upto)
    At c w p = Roams c.tx w.command

    way : (c : Client m) (w : Work m) (p : Place m) (d : Client m) (v : Work m) (q : Place m) → Way m c w p d v q → At c w p → At d v q
    way c w _ _ _ _ (FeedsSync s n rid x) k = k.1 tt
    way c w _ _ _ _ (FeedsWalk s os n rid x) k = k.1 tt
    way c w _ _ _ _ (FeedsAppend a y n rid x) k = k.0
    way c w _ _ _ _ (FeedsTrims t n rid x) k = k.0
    way c w _ _ _ _ (FeedsCopy y n rid x) k = k.0
    way c w _ _ _ _ (FeedsReconf r n rid x) k = k.0
    way c w _ _ _ _ (NewerSync s n rid q) k = k.1 tt
    way c w _ _ _ _ (NewerWalk s os n rid q) k = k.1 tt
    way c w _ _ _ _ (NewerAppend a y n rid q) k = k.0
    way c w _ _ _ _ (NewerTrims t n rid q) k = k.0
    way c w _ _ _ _ (NewerCopy x n rid q e) k = k.0
    way c w _ _ _ _ (NewerReconf r n rid q) k = k.0
    way c w _ _ _ _ x k = k

    walked_way : (c : Client m) (w : Work m) (d : Client m) (q : Place m) → AllWalked m c w d q → At c w (Walks []) → At d w q
    walked_way c w _ _ (HasPlayed of) k = (k, refl, λ t came. played_to m (all_entries m c w c.hosted) (play_target m w w.command) t (own_view m c w (all_entries m c w c.hosted)) came)
    walked_way c w _ _ x k = k

    roamed : (tx : Option Tx) (x : CommandOf m) (r : Client m) → Roams tx x → (r.tx ≡ tx) ⊎ (r.tx ≡ None) → Looks c0 r
    roamed tx x r k e = Walked k.of k.has k.walks (λ i. by e)
      where
        by : (r.tx ≡ tx) ⊎ (r.tx ≡ None) → AskedBelow c0.tx r
        by (inl f) = inl (f ∙ k.same)
        by (inr f) = inr (λ t s is. no_some t (sym f ∙ is))

    kept : (c r : Client m) → (c.view ≡ c0.view) × (c.tx ≡ c0.tx) → r.view ≡ c.view → (r.tx ≡ c.tx) ⊎ (r.tx ≡ None) → Looks c0 r
    kept c r k v (inl e) = kept_looks c0 r (v ∙ k.0, inl (e ∙ k.1))
    kept c r k v (inr e) = kept_looks c0 r (v ∙ k.0, inr e)

    -- what leaves the view, and leaves the transaction or closes it
    leaves : (c : Client m) (w : Work m) (p : Place m) (r : Client m) → At c w p → r.view ≡ c.view → (r.tx ≡ c.tx) ⊎ (r.tx ≡ None) → Looks c0 r
    leaves c w (Feeds t n rid x) r k v e = kept c r k.0 v e
    leaves c w (Newer t n rid q) r k v e = kept c r k.0 v e
    leaves c w (OnAppend y bs to) r k v e = kept c r k v e
    leaves c w (OnTrims b to) r k v e = kept c r k v e
    leaves c w (OnCopy x to) r k v e = kept c r k v e
    leaves c w (OnReconf to) r k v e = kept c r k v e
    leaves c w (Plays es p) r k v e = roamed c.tx w.command r k.0 e
    leaves c w p r k v e = roamed c.tx w.command r k e

    refused_tx : (c : Client m) (w : Work m) (p : Place m) (d : Client m) (n : ℕ) (why : Refusal) → IsRefused m c w p d n why → (d.view ≡ c.view) × ((d.tx ≡ c.tx) ⊎ (d.tx ≡ None))
    refused_tx c w _ _ _ _ (RecordForgotten y bs p b of) = (refl, inr refl)
    refused_tx c w _ _ _ _ x = (refl, inl refl)

    told_tx : (c : Client m) (w : Work m) (p : Place m) (d : Client m) (ns : List (NoteOf m)) → IsTold m c w p d ns → (d.view ≡ c.view) × ((d.tx ≡ c.tx) ⊎ (d.tx ≡ None))
    told_tx c w _ _ _ (IsCommitted bs p d) = (refl, inr refl)
    told_tx c w _ _ _ (IsMarked n o j bs p d) = (took_view (owns m c p d) c.view, inl (took_tx (owns m c p d) c.view))
    told_tx c w _ _ _ x = (refl, inl refl)

    answered : (c : Client m) (w : Work m) (p : Place m) (d : Client m) (n : ℕ) (what : WhatOf m) → IsAnswered m c w p d n what → At c w p → Looks c0 (answers m d n what).now
    answered c w p d _ _ (JudgedSo x bs at page of) k = leaves c w p _ k (took_view d c.view) (inr (took_tx d c.view))
    answered c w p d _ _ (JudgedLost x bs e lost of) k = leaves c w p _ k (took_view d c.view) (inr (took_tx d c.view))
    answered c w p d _ _ (EndBlocked es y q x of came) k = leaves c w p _ k (took_view d c.view) (inr (took_tx d c.view))
    answered c w p d _ _ (EndUnsure es y upto of came cannot) k = leaves c w p _ k (took_view d c.view) (inr (took_tx d c.view))
    answered c w p d _ _ (EndJudged es y upto e so what of came i j l) k = leaves c w p _ k (took_view d c.view) (inr (took_tx d c.view))
    answered c w p d _ _ (IsAsked es y o q upto t s of came open' found) k = Walked k.0.of k.0.has k.0.walks (λ i. asked_below c0.tx c w t o q y.view s k.1 (let a = k.2 upto came in let e = ap (play_target m w) of in omega (arith, a, e)))
    answered c w p d _ _ x k = leaves c w p _ k (took_view d c.view) (inl (took_tx d c.view))

    ends_looks : (c : Client m) (w : Work m) (p : Place m) (x : Moved m) → End m c w p x → At c w p → Looks c0 x.now
    unfolding appends append_start syncs sync_start
    ends_looks c w p _ (GoesOn _ _ _ (SyncGoes bs s)) k = leaves c w p _ k refl (inl refl)
    ends_looks c w p _ (GoesOn _ _ _ x) k = leaves c w p _ k refl (inl refl)
    ends_looks c w p _ (LearnsNewer _ x) k = leaves c w p _ k refl (inl refl)
    ends_looks c w p _ (Syncs _ _ _ (StaleHigh o os x b e f)) k = roamed c.tx w.command _ k (inl refl)
    ends_looks c w p _ (Syncs _ _ _ x) k = leaves c w p _ k refl (inl refl)
    ends_looks c w p _ (Appends _ _ _ _ (MarkBegins es y upto o n of came may)) k = leaves c w p _ k refl (inl refl)
    ends_looks c w p _ (Appends _ _ _ _ x) k = leaves c w p _ k refl (inl refl)
    ends_looks c w p _ (Refuses d n why x) k = let t = refused_tx c w p d n why x in leaves c w p _ k t.0 t.1
    ends_looks c w p _ (Answers d n what x) k = answered c w p d n what x k
    ends_looks c w p _ (Tells d ns x) k = let t = told_tx c w p d ns x in leaves c w p _ k t.0 t.1

  rests : (c : Client m) → Looks c c
  rests c = kept_looks c c (refl, inl refl)

  -- a step of a client that works begins none
  working : (c : Client m) (o : Option (Work m)) (from : NodeId) (rid : ℕ) (x : Reply) → c.work ≡ o → Starts c (feed m c o from rid x).now
  working c None from rid x e w free has = no_some w (sym e ∙ has)
  working c (Some v) from rid x e w free has = no_some v (sym free ∙ e)

  pub feed_sees : (c : Client m) (from : NodeId) (rid : ℕ) (x : Reply) → Sees c (feed m c c.work from rid x).now
  feed_sees c from rid x = (
    delivered m (At c) (λ y. Looks c y.now) (ends_looks c) (way c) (over_walks m (At c) (λ y. Looks c y.now) (ends_looks c) (walked_way c)) c from rid x (rests c)
        (λ w t has doing a other. ((refl, refl), λ i. record { of = w; has = has; walks = subst (λ (d : Hand m). IsWalk (task_in m d)) (sym doing) i; command = refl; same = refl }))
        (λ w q has is a. ((refl, refl), λ i. record { of = w; has = has; walks = i; command = refl; same = refl })),
    working c c.work from rid x refl,
  )

  pub tick_sees : (c : Client m) (o : Option (Work m)) → c.work ≡ o → Sees c (tick_by m c o).now
  tick_sees c None e = (kept_looks c _ (refl, inl refl), λ w free has. no_some w (sym e ∙ has))
  tick_sees c (Some w) e = (kept_looks c _ (refl, inl refl), λ v free has. no_some w (sym free ∙ e))

  -- Commands.

  open_none : (w : Option (Work m)) (t : Option Tx) (rest : List (Option Refusal)) → first_some (busy m w ∷ where_true (is_some t) cause.TxOpen ∷ rest) ≡ None → t ≡ None
  open_none w None rest e = refl
  open_none None (Some t) rest e = absurd (no cause.TxOpen e)
    where
      no : (why : Refusal) → Some why ≡ None → ⊥
      no why z = cc
  open_none (Some w) (Some t) rest e = absurd (no (cause.Busy (word_of w.command)) e)
    where
      no : (why : Refusal) → Some why ≡ None → ⊥
      no why z = cc

  module _ (c : Client m) (free : c.work ≡ None) where
    same : (r : Client m) → r.view ≡ c.view → r.work ≡ c.work → Sees c r
    same r e f = (SameView e (λ w has. no_some w (sym free ∙ has)), λ w g has. no_some w (sym free ∙ (sym f ∙ has)))

    shut : (r : Client m) → c.tx ≡ None → Sees c r
    shut r e = (NoneOpen e, λ w g has. inl e)

    waits : (r : Client m) (v : Work m) → r.view ≡ c.view → r.work ≡ Some v → (c.tx ≡ None) ⊎ (IsAsk m v.command ⊎ IsEnd m v.command) → Sees c r
    waits r v e f k = (SameView e (λ w has. no_some w (sym free ∙ has)), λ w g has. subst (λ (z : Work m). (c.tx ≡ None) ⊎ (IsAsk m z.command ⊎ IsEnd m z.command)) (same_some v w (sym f ∙ has)) k)

    takes_sees : (x : CommandOf m) → refusal m c x ≡ None → (y : Moved m) → Taken m c x y → Sees c y.now
    unfolding refusal tests appends append_start syncs sync_start
    takes_sees _ fine _ (SaidAtOnce _ _ _ (HostsAlready o is)) = shut _ (open_none c.work c.tx _ fine)
    takes_sees _ fine _ (SaidAtOnce _ _ _ (Hosts o is)) = shut _ (open_none c.work c.tx _ fine)
    takes_sees _ fine _ (SaidAtOnce _ _ _ Begins) = shut _ (open_none c.work c.tx _ fine)
    takes_sees _ fine _ (SaidAtOnce _ _ _ s) = same _ refl refl
    takes_sees _ fine _ (SyncsFirst _ (WalksAsk o q t is none)) = waits _ _ refl refl (inr (inl tt))
    takes_sees _ fine _ (SyncsFirst _ i) = shut _ (open_none c.work c.tx _ fine)
    takes_sees _ fine _ (AppendsRecord t y is some for) = waits _ _ refl refl (inr (inr tt))
    takes_sees _ fine _ x = shut _ (open_none c.work c.tx _ fine)

  pub command_sees : (c : Client m) (x : CommandOf m) → Sees c (refused_or m c x (refusal m c x)).now
  command_sees c x = commanded m (λ y. Sees c y.now) c x (λ why e. (rests c, λ w none has. no_some w (sym none ∙ has))) (λ e. takes_sees c (not_busy m c x e) x e)
