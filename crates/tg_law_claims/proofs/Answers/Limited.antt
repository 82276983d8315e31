-- Through each of a client's turns: it hosts few objects, its transaction is within the limits, and of an ask that waits the read fits.
use Rattle.std.proofs.Common.{◌≡◌, ℕ, ◌+◌, ◌<◌, List, [], Bool, true, false, refl, sym, ◌∙◌, subst, arith, Option, Some, None}
use Rattle.std.specs.Prelude.{not, nat_le, ◌&&◌, length}
use Rattle.std.proofs.lemmas.Bool.Decides.{nat_tests}
use Rattle.tg_base.specs.declared.fault.Many.TheVariants as many
use Rattle.tg_base.specs.declared.ids.NodeId.{NodeId}
use Rattle.tg_base.specs.declared.ids.Oid.{Oid}
use Rattle.tg_base.specs.declared.msg.Msg.{Msg}
use Rattle.tg_kind.specs.Meaning.{Meaning}
use Rattle.tg_model.specs.declared.command.Command.TheVariants as cmd
use Rattle.tg_model.specs.declared.refusal.Refusal.TheVariants as cause
use Rattle.tg_model.specs.Kinds.{CommandOf, WhatOf, NoteOf}
use Rattle.tg_protocol.specs.Words.{where_true}
use Rattle.tg_protocol.specs.Replies.{Reply, reply}
use Rattle.tg_protocol.specs.Appending.{append_start}
use Rattle.tg_protocol.specs.Syncing.{sync_start}
use Rattle.tg_protocol.specs.Views.{View, view_version}
use Rattle.tg_protocol.specs.Transactions.{Tx, TxFault, read_fault, write_fault}
use Rattle.tg_protocol.specs.Clients.{Work, Client, busy, no_tx, tx_open, wrong_kind, not_registered, not_hosted, too_many_hosted, put_fault, ask_fault, by_tx, tests, write_of, hosts_oid, refusal}
use Rattle.tg_protocol.specs.Answers.{Moved, pruned, took_over, appends, syncs}
use Rattle.tg_protocol.specs.ClientSteps.{owns, lost, feed, refused_or, client_command, client_deliver, client_tick, tick_by}
use Rattle.tg_law_claims.proofs.Answers.Limits.{IsLean, AreFew, first_none, untrue, open_lean, read_lean, put_lean, host_few}
use Rattle.tg_law_steps.proofs.Places.{Place}
use Rattle.tg_law_steps.proofs.Ways.{Way, FeedsSync, AllWalked, HasPlayed}
use Rattle.tg_law_steps.proofs.Ends.{End, GoesOn, LearnsNewer, Syncs, Appends, Refuses, Answers, Tells, SyncGoes, JudgedAt, MarkBegins, RecordForgotten, IsAnswered, IsAsked, JudgedSo, JudgedLost, EndBlocked, EndUnsure, EndJudged, IsCommitted, IsMarked}
use Rattle.tg_law_steps.proofs.Takes.{IsSaid, Hosts, Begins, Puts, Asks, ReadsOnly, Drops, IsWalked, WalksAsk, Taken, SaidAtOnce, SyncsFirst, said_work}
use Rattle.tg_law_steps.proofs.Along.{delivered as delivered', commanded as commanded', over_walks}

pub no_fault : (m : Meaning) → (f : Option TxFault) → by_tx m f ≡ None → f ≡ None
no_fault m None e = refl
no_fault m (Some f) e = absurd cc

module _ (m : Meaning) where
  abbrev pub MaybeLean : Option Tx → Type 0
  MaybeLean None = Unit {0}
  MaybeLean (Some t) = IsLean t

  -- a command that waits
  abbrev pub Fits : Option Tx → CommandOf m → Type 0
  Fits tx (cmd.Ask o q) = (t : Tx) → tx ≡ Some t → read_fault t o (m.look q) ≡ None
  Fits tx x = Unit {0}

  abbrev pub WorkFits : Option Tx → Option (Work m) → Type 0
  WorkFits tx None = Unit {0}
  WorkFits tx (Some w) = Fits tx w.command

  pub record Limited (c : Client m) : Type 0 where
    pub hosted : AreFew c.hosted
    pub tx : MaybeLean c.tx
    pub work : WorkFits c.tx c.work

  abbrev Good : Moved m → Type 0
  Good x = Limited x.now

  -- a client and its command within the step
  abbrev In : Client m → Work m → Type 0
  In c w = AreFew c.hosted × MaybeLean c.tx × Fits c.tx w.command × WorkFits c.tx c.work

  takes : (c : Client m) (v : Option (View m)) → AreFew c.hosted → MaybeLean c.tx → Limited (pruned m (took_over m c v))
  takes c None few lean = record { hosted = few; tx = lean; work = tt }
  takes c (Some v) few lean = record { hosted = few; tx = lean; work = tt }

  -- Along a turn.

  way : (c : Client m) (w : Work m) (p : Place m) (d : Client m) (v : Work m) (q : Place m) → Way m c w p d v q → In c w → In d v
  way c w _ _ _ _ (FeedsSync s n rid x) h = h
  way c w _ _ _ _ x h = h

  walked_way : (c : Client m) (w : Work m) (d : Client m) (q : Place m) → AllWalked m c w d q → In c w → In d w
  walked_way c w _ _ (HasPlayed k) h = h
  walked_way c w _ _ x h = h

  answered_lean : (c : Client m) (w : Work m) (p : Place m) (d : Client m) (n : ℕ) (what : WhatOf m) → IsAnswered m c w p d n what → In c w → AreFew d.hosted × MaybeLean d.tx
  answered_lean c w _ _ _ _ (IsAsked es p o q upto t s of came has state) h =
      (h.0, read_lean t (record { oid = o; part = m.look q; version = view_version m p.view o (m.look q) }) w.tail (subst (λ (x : CommandOf m). Fits c.tx x) of h.2 t has) (subst MaybeLean has h.1))
  answered_lean c w _ _ _ _ (JudgedSo x bs p d of) h = (h.0, tt)
  answered_lean c w _ _ _ _ (JudgedLost x bs e lost of) h = (h.0, tt)
  answered_lean c w _ _ _ _ (EndBlocked es p q x of came) h = (h.0, tt)
  answered_lean c w _ _ _ _ (EndUnsure es p upto of came k) h = (h.0, tt)
  answered_lean c w _ _ _ _ (EndJudged es p upto e so what of came i j k) h = (h.0, tt)
  answered_lean c w _ _ _ _ x h = (h.0, h.1)

  ends_good : (c : Client m) (w : Work m) (p : Place m) (x : Moved m) → End m c w p x → In c w → Good x
  unfolding appends append_start syncs sync_start
  ends_good c w _ _ (GoesOn _ _ _ (SyncGoes bs s)) h = record { hosted = h.0; tx = h.1; work = h.2 }
  ends_good c w _ _ (GoesOn _ _ _ x) h = record { hosted = h.0; tx = h.1; work = h.2 }
  ends_good c w _ _ (LearnsNewer t x) h = record { hosted = h.0; tx = h.1; work = h.2 }
  ends_good c w _ _ (Syncs _ _ _ (JudgedAt bs p d)) h = record { hosted = h.0; tx = h.1; work = h.2 }
  ends_good c w _ _ (Syncs _ _ _ x) h = record { hosted = h.0; tx = h.1; work = h.2 }
  ends_good c w _ _ (Appends _ _ _ _ (MarkBegins es p upto o n of came may)) h = record { hosted = h.0; tx = h.1; work = h.2 }
  ends_good c w _ _ (Appends _ _ _ _ x) h = record { hosted = h.0; tx = h.1; work = h.2 }
  ends_good c w _ _ (Refuses _ _ _ (RecordForgotten y bs p b of)) h = record { hosted = h.0; tx = tt; work = tt }
  ends_good c w _ _ (Refuses _ _ _ x) h = record { hosted = h.0; tx = h.1; work = tt }
  ends_good c w p _ (Answers d n what x) h = let k = answered_lean c w p d n what x h in takes d d.view k.0 k.1
  ends_good c w _ _ (Tells _ _ (IsCommitted bs p d)) h = record { hosted = h.0; tx = tt; work = tt }
  ends_good c w _ _ (Tells _ _ (IsMarked n o mark bs p d)) h = takes (owns m c p d) c.view h.0 h.1
  ends_good c w _ _ (Tells _ _ x) h = record { hosted = h.0; tx = h.1; work = tt }

  feed_turn : (c : Client m) (from : NodeId) (rid : ℕ) (x : Reply) → Limited c → Good (feed m c c.work from rid x)
  feed_turn c from rid x l = delivered' m (λ d w p. In d w) Good ends_good way (over_walks m (λ d w p. In d w) Good ends_good walked_way) c from rid x (record { hosted = l.hosted; tx = l.tx; work = l.work })
      (λ w t has doing a other. (l.hosted, l.tx, subst (WorkFits c.tx) has l.work, l.work)) (λ w q has is e. (l.hosted, l.tx, subst (WorkFits c.tx) has l.work, l.work))

  -- Commands.

  module _ (c : Client m) (l : Limited c) where
    -- what its tests leave of a command
    room : (o : Oid) → refusal m c (cmd.Host o) ≡ None → hosts_oid m c o ≡ false → length c.hosted < 128
    unfolding refusal tests
    room o fine none =
        let a = first_none (busy m c.work) _ fine in
        let b = first_none (tx_open m c) _ a.1 in
        let d = first_none (not_registered m c o) _ b.1 in
        let e = first_none (too_many_hosted m c o) [] d.1 in
        by (hosts_oid m c o) none e.0
      where
        by : (b : Bool) → b ≡ false → where_true (not b && nat_le 128 (length c.hosted)) (cause.TooMany many.Hosted) ≡ None → length c.hosted < 128
        by true e f = absurd cc
        by false e f = let g = untrue (nat_le 128 (length c.hosted)) (cause.TooMany many.Hosted) f in grind (arith, nat_tests, g)

    put_fits : (o : Oid) (op : m.op) (t : Tx) → c.tx ≡ Some t → refusal m c (cmd.Put o op) ≡ None → write_fault t (write_of m o op) ≡ None
    unfolding refusal tests
    put_fits o op t has fine =
        let a = first_none (busy m c.work) _ fine in
        let b = first_none (no_tx m c) _ a.1 in
        let d = first_none (wrong_kind m (m.allows o op) o) _ b.1 in
        let e = first_none (not_registered m c o) _ d.1 in
        let f = first_none (put_fault m c.tx (write_of m o op)) [] e.1 in
        no_fault m (write_fault t (write_of m o op)) (subst (λ (u : Option Tx). put_fault m u (write_of m o op) ≡ None) has f.0)

    ask_fits : (o : Oid) (q : m.ask) (t : Tx) → c.tx ≡ Some t → refusal m c (cmd.Ask o q) ≡ None → read_fault t o (m.look q) ≡ None
    unfolding refusal tests
    ask_fits o q t has fine =
        let a = first_none (busy m c.work) _ fine in
        let b = first_none (no_tx m c) _ a.1 in
        let d = first_none (wrong_kind m (m.allows_ask o q) o) _ b.1 in
        let e = first_none (not_hosted m c o) _ d.1 in
        let f = first_none (ask_fault m c.tx o (m.look q)) [] e.1 in
        no_fault m (read_fault t o (m.look q)) (subst (λ (u : Option Tx). ask_fault m u o (m.look q) ≡ None) has f.0)

    free_unless : (x : CommandOf m) → refusal m c x ≡ None → c.work ≡ None
    unfolding refusal
    free_unless x e = by c.work (first_none (busy m c.work) (tests m c x) e).0
      where
        by : (w : Option (Work m)) → busy m w ≡ None → w ≡ None
        by None f = refl
        by (Some w) f = absurd cc

    said_lean : (x : CommandOf m) (d : Client m) (ns : List (NoteOf m)) → IsSaid m c x d ns → refusal m c x ≡ None → AreFew d.hosted × MaybeLean d.tx
    said_lean _ _ _ (Hosts o none) fine = (host_few c.hosted o l.hosted (room o fine), l.tx)
    said_lean _ _ _ Begins fine = (l.hosted, open_lean (c.begun + 1))
    said_lean _ _ _ (Puts o op t has) fine = (l.hosted, put_lean t (write_of m o op) (put_fits o op t has fine) (subst MaybeLean has l.tx))
    said_lean _ _ _ (Asks o q t at v s has snap kept is) fine =
        (l.hosted, read_lean t (record { oid = o; part = m.look q; version = view_version m v o (m.look q) }) at (ask_fits o q t has fine) (subst MaybeLean has l.tx))
    said_lean _ _ _ (ReadsOnly t has none) fine = (l.hosted, tt)
    said_lean _ _ _ Drops fine = (l.hosted, tt)
    said_lean _ _ _ s fine = (l.hosted, l.tx)

    walks_fit : (x : CommandOf m) → IsWalked m c x → refusal m c x ≡ None → Fits c.tx x
    walks_fit _ (WalksAsk o q t has none) fine = λ u is. subst (λ (z : Tx). read_fault z o (m.look q) ≡ None) (one t u (sym has ∙ is)) (ask_fits o q t has fine)
      where
        one : (s t : Tx) → Some s ≡ Some t → s ≡ t
        one s t e = cc
    walks_fit _ k fine = tt

    takes_good : (x : CommandOf m) → refusal m c x ≡ None → (y : Moved m) → Taken m c x y → Good y
    unfolding appends append_start syncs sync_start
    takes_good _ fine _ (SaidAtOnce x d ns s) = let k = said_lean x d ns s fine in record { hosted = k.0; tx = k.1; work = subst (WorkFits d.tx) (sym (said_work m c x d ns s ∙ free_unless x fine)) tt }
    takes_good _ fine _ (SyncsFirst x k) = record { hosted = l.hosted; tx = l.tx; work = walks_fit x k fine }
    takes_good _ fine _ x = record { hosted = l.hosted; tx = l.tx; work = tt }

    command_turn : (x : CommandOf m) → Good (refused_or m c x (refusal m c x))
    command_turn x = commanded' m Good c x (λ why e. record { hosted = l.hosted; tx = l.tx; work = l.work }) (λ e. takes_good x e)

  -- The turns.

  of_moved : (d : Client m) (n : ℕ) → Limited d → Limited (record d { calls = n })
  of_moved d n l = record { hosted = l.hosted; tx = l.tx; work = l.work }

  pub commanded : (c : Client m) (x : CommandOf m) → Limited c → Limited (client_command m c x).now
  unfolding client_command
  commanded c x l = of_moved _ _ (command_turn c l x)

  pub delivered : (c : Client m) (from : NodeId) (rid : ℕ) (x : Msg) → Limited c → Limited (client_deliver m c from rid x).now
  unfolding client_deliver
  delivered c from rid x l = of_moved _ _ (feed_turn c from rid (reply x) l)

  pub ticked : (c : Client m) → Limited c → Limited (client_tick m c).now
  unfolding client_tick
  ticked c l = by c.work
    where
      by : (w : Option (Work m)) → Limited (tick_by m c w).now
      by None = record { hosted = l.hosted; tx = l.tx; work = l.work }
      by (Some w) = record { hosted = l.hosted; tx = l.tx; work = l.work }
