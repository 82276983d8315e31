-- What becomes of commands that passed their tests.
use Rattle.std.proofs.Common.{◌≡◌, ℕ, ◌+◌, Bool, true, false, List, [], ◌∷◌, Option, Some, None, Result, Ok, Err, refl, sym, ap, subst, ◌∙◌}
use Rattle.std.specs.Prelude.{IfOk, length, ◌==◌}
use Rattle.tg_base.specs.declared.change.Join.{Join}
use Rattle.tg_base.specs.Changes.{Changed}
use Rattle.tg_base.specs.declared.fault.NoMemory.{NoMemory}
use Rattle.tg_base.specs.declared.ids.Oid.{Oid}
use Rattle.tg_base.specs.declared.marks.Part.{Part}
use Rattle.tg_entry.specs.declared.entry.Entry.{Entry}
use Rattle.tg_kind.specs.Meaning.{Meaning}
use Rattle.tg_model.specs.declared.command.Command.TheVariants as cmd
use Rattle.tg_model.specs.declared.refusal.Refusal.{Refusal}
use Rattle.tg_model.specs.declared.trace.What.TheVariants as what
use Rattle.tg_model.specs.Kinds.{CommandOf, NoteOf, WhatOf}
use Rattle.tg_protocol.specs.Reconfiguring.{reconf_start}
use Rattle.tg_protocol.specs.Transactions.{Tx, open_tx, tx_read, tx_put, commit_record}
use Rattle.tg_protocol.specs.Views.{View, state_of, view_version}
use Rattle.tg_base.specs.Orders.{with_oid}
use Rattle.tg_protocol.specs.Clients.{Client, Purpose, tx_number, number_on, put_fault, write_of}
use Rattle.tg_protocol.specs.Answers.{Moved, moved, note, appends}
use Rattle.tg_protocol.specs.ClientSteps.{hosts_more, begins, accepts, end_by, ends, snapshot_or, purpose_of, new_work, on_reconf, asked_of_state, asks_view, asks_by, asks, refused_or}
use Rattle.tg_client_state.specs.States.{StateOf, MovedOf, client_of, KeepsViewIf, KeepsMoved}
use Rattle.tg_client_tasks.specs.Idle.{idle}
use Rattle.tg_client_tasks.specs.Tests.{answer_by, answer_in}

module _ (m : Meaning) where
  -- where it is told what is said, in the words of the rules
  note-as : (x : MovedOf m) (old : ℕ) (c : Client m) (notes told : List (NoteOf m)) → notes ≡ told → KeepsMoved m old x (moved m c notes) → KeepsMoved m old x (moved m c told)
  note-as x old c notes told e h = subst (λ (l : List (NoteOf m)). KeepsMoved m old x (moved m c l)) e h

  pub hosted_before : (s : StateOf m) (v : Option (View m)) (n old : ℕ) (o : Oid) (notes : List (NoteOf m)) (x : MovedOf m) (b : Bool) → true ≡ b → notes ≡ note m 0 (what.Hosted o) ∷ [] →
      KeepsMoved m old x (moved m (idle m s v n) notes) → KeepsMoved m old x (hosts_more m (idle m s v n) o b)
  hosted_before s v n old o notes x b e hn h = subst (λ k. KeepsMoved m old x (hosts_more m (idle m s v n) o k)) e (note-as x old (idle m s v n) notes (note m 0 (what.Hosted o) ∷ []) hn h)

  pub hosted_more : (s : StateOf m) (v : Option (View m)) (n old : ℕ) (o : Oid) (notes : List (NoteOf m)) (l : List Oid) (x : MovedOf m) (b : Bool) → false ≡ b → notes ≡ note m 0 (what.Hosted o) ∷ [] → l ≡ with_oid o s.hosted →
      KeepsMoved m old x (moved m (idle m (record s { hosted = l; view = None }) None n) notes) → KeepsMoved m old x (hosts_more m (idle m s v n) o b)
  hosted_more s v n old o notes l x b e hn hl h =
      subst (λ k. KeepsMoved m old x (hosts_more m (idle m s v n) o k)) e
      (subst (λ (os : List Oid). KeepsMoved m old x (moved m (idle m (record s { hosted = os; view = None }) None n) (note m 0 (what.Hosted o) ∷ []))) hl
      (note-as x old (idle m (record s { hosted = l; view = None }) None n) notes (note m 0 (what.Hosted o) ∷ []) hn h))

  pub begun_so : (s : StateOf m) (v : Option (View m)) (n old k : ℕ) (t : Tx) (notes : List (NoteOf m)) (x : MovedOf m) → k ≡ s.begun + 1 → t ≡ open_tx k → notes ≡ note m k what.Begin ∷ [] →
      KeepsMoved m old x (moved m (idle m (record s { tx = Some t; begun = k }) v n) notes) → KeepsMoved m old x (begins m (idle m s v n))
  begun_so s v n old k t notes x hk ht hn h =
      subst (λ (j : ℕ). KeepsMoved m old x (moved m (idle m (record s { tx = Some (open_tx j); begun = j }) v n) (note m j what.Begin ∷ []))) hk
      (subst (λ (u : Tx). KeepsMoved m old x (moved m (idle m (record s { tx = Some u; begun = k }) v n) (note m k what.Begin ∷ []))) ht
      (note-as x old (idle m (record s { tx = Some t; begun = k }) v n) notes (note m k what.Begin ∷ []) hn h))

  -- the transaction is closed

  pub closed_view : (s t : StateOf m) (v : Option (View m)) → t ≡ record s { tx = None } → KeepsViewIf m s.view v → KeepsViewIf m t.view v
  closed_view s t v e h = subst (λ (u : StateOf m). KeepsViewIf m u.view v) (sym e) h

  pub dropped_so : (s t : StateOf m) (v : Option (View m)) (n old k : ℕ) (notes : List (NoteOf m)) (x : MovedOf m) → t ≡ record s { tx = None } → k ≡ tx_number m s.tx → notes ≡ note m k what.Dropped ∷ [] →
      KeepsMoved m old x (moved m (idle m t v n) notes) → KeepsMoved m old x (accepts m (idle m s v n) cmd.Drop)
  unfolding accepts
  dropped_so s t v n old k notes x ht hk hn h =
      subst (λ (j : ℕ). KeepsMoved m old x (moved m (idle m (record s { tx = None }) v n) (note m j what.Dropped ∷ []))) hk
      (subst (λ (u : StateOf m). KeepsMoved m old x (moved m (idle m u v n) (note m k what.Dropped ∷ []))) ht
      (note-as x old (idle m t v n) notes (note m k what.Dropped ∷ []) hn h))

  pub ended_reads : (s t : StateOf m) (v : Option (View m)) (n old k at : ℕ) (tx : Tx) (notes : List (NoteOf m)) (x : MovedOf m) → t ≡ record s { tx = None } → k ≡ tx.number → at ≡ snapshot_or m tx.snapshot →
      notes ≡ note m k what.End ∷ note m k (what.Committed at) ∷ [] →
      KeepsMoved m old x (moved m (idle m t v n) notes) → KeepsMoved m old x (end_by m (idle m s v n) cmd.End tx true)
  ended_reads s t v n old k at tx notes x ht hk ha hn h =
      subst (λ (j : ℕ). KeepsMoved m old x (moved m (idle m (record s { tx = None }) v n) (note m tx.number what.End ∷ note m tx.number (what.Committed j) ∷ []))) ha
      (subst (λ (j : ℕ). KeepsMoved m old x (moved m (idle m (record s { tx = None }) v n) (note m j what.End ∷ note m j (what.Committed at) ∷ []))) hk
      (subst (λ (u : StateOf m). KeepsMoved m old x (moved m (idle m u v n) (note m k what.End ∷ note m k (what.Committed at) ∷ []))) ht
      (note-as x old (idle m t v n) notes (note m k what.End ∷ note m k (what.Committed at) ∷ []) hn h)))

  pub ended_writes : (s : StateOf m) (v : Option (View m)) (n old k : ℕ) (tx : Tx) (d : Entry) (p : Purpose m) (notes : List (NoteOf m)) (x : MovedOf m) → k ≡ tx.number → d ≡ commit_record tx s.num → p ≡ purpose_of m tx →
      notes ≡ note m k what.End ∷ [] →
      KeepsMoved m old x (appends m (idle m s v n) (new_work m cmd.End) d p notes) → KeepsMoved m old x (end_by m (idle m s v n) cmd.End tx false)
  ended_writes s v n old k tx d p notes x hk hd hp hn h =
      subst (λ (j : ℕ). KeepsMoved m old x (appends m (idle m s v n) (new_work m cmd.End) (commit_record tx s.num) (purpose_of m tx) (note m j what.End ∷ []))) hk
      (subst (λ (q : Purpose m). KeepsMoved m old x (appends m (idle m s v n) (new_work m cmd.End) (commit_record tx s.num) q (note m k what.End ∷ []))) hp
      (subst (λ (e : Entry). KeepsMoved m old x (appends m (idle m s v n) (new_work m cmd.End) e p (note m k what.End ∷ []))) hd
      (subst (λ (l : List (NoteOf m)). KeepsMoved m old x (appends m (idle m s v n) (new_work m cmd.End) d p l)) hn h)))

  -- by what is open

  pub ends_as : (c : Client m) (r : Result (MovedOf m) NoMemory) (old : ℕ) (t u : Option Tx) → u ≡ t → IfOk r (λ x. KeepsMoved m old x (ends m c cmd.End t)) → IfOk r (λ x. KeepsMoved m old x (ends m c cmd.End u))
  ends_as c r old t u e h = subst (λ (k : Option Tx). IfOk r (λ x. KeepsMoved m old x (ends m c cmd.End k))) (sym e) h

  pub asks_as : (c : Client m) (o : Oid) (q : m.ask) (r : Result (MovedOf m) NoMemory) (old : ℕ) (t u : Option Tx) → u ≡ t →
      IfOk r (λ x. KeepsMoved m old x (asks m c (cmd.Ask o q) o q t)) → IfOk r (λ x. KeepsMoved m old x (asks m c (cmd.Ask o q) o q u))
  asks_as c o q r old t u e h = subst (λ (k : Option Tx). IfOk r (λ x. KeepsMoved m old x (asks m c (cmd.Ask o q) o q k))) (sym e) h

  -- a reconfiguration
  pub changed_so : (s : StateOf m) (v : Option (View m)) (n old : ℕ) (c d : Changed) (r : Result (MovedOf m) NoMemory) → d ≡ c →
      IfOk r (λ x. KeepsMoved m old x (on_reconf m (idle m s v n) (new_work m (cmd.Reconf d)) (reconf_start s.stand s.layouts c s.num s.rids.next))) → IfOk r (λ x. KeepsMoved m old x (accepts m (idle m s v n) (cmd.Reconf c)))
  unfolding accepts
  changed_so s v n old c d r e h = subst (λ (k : Changed). IfOk r (λ x. KeepsMoved m old x (on_reconf m (idle m s v n) (new_work m (cmd.Reconf k)) (reconf_start s.stand s.layouts c s.num s.rids.next)))) e h

  pub ended_writes_if : (s : StateOf m) (v : Option (View m)) (n old k : ℕ) (tx : Tx) (d : Entry) (p : Purpose m) (notes : List (NoteOf m)) (r : Result (MovedOf m) NoMemory) → k ≡ tx.number → d ≡ commit_record tx s.num →
      p ≡ purpose_of m tx → notes ≡ note m k what.End ∷ [] →
      IfOk r (λ x. KeepsMoved m old x (appends m (idle m s v n) (new_work m cmd.End) d p notes)) → IfOk r (λ x. KeepsMoved m old x (end_by m (idle m s v n) cmd.End tx false))
  ended_writes_if s v n old k tx d p notes (Ok x) hk hd hp hn h = ended_writes s v n old k tx d p notes x hk hd hp hn h
  ended_writes_if s v n old k tx d p notes (Err e) hk hd hp hn h = h

  pub refused_so : (s : StateOf m) (v : Option (View m)) (n old k : ℕ) (why : Refusal) (notes : List (NoteOf m)) (x : MovedOf m) → k ≡ number_on m (idle m s v n) why → notes ≡ note m k (what.Refused why) ∷ [] →
      KeepsMoved m old x (moved m (idle m s v n) notes) → KeepsMoved m old x (moved m (idle m s v n) (note m (number_on m (idle m s v n) why) (what.Refused why) ∷ []))
  refused_so s v n old k why notes x hk hn h =
      subst (λ (j : ℕ). KeepsMoved m old x (moved m (idle m s v n) (note m j (what.Refused why) ∷ []))) hk (note-as x old (idle m s v n) notes (note m k (what.Refused why) ∷ []) hn h)

  -- by what is open, found out in parts

  pub ends_by : (c : Client m) (t : Tx) (b : Bool) (u : Option Tx) (r : Result (MovedOf m) NoMemory) (old : ℕ) → u ≡ Some t → b ≡ (length t.writes == 0) →
      IfOk r (λ x. KeepsMoved m old x (end_by m c cmd.End t b)) → IfOk r (λ x. KeepsMoved m old x (ends m c cmd.End u))
  ends_by c t b u r old hu hb h =
      subst (λ (k : Option Tx). IfOk r (λ x. KeepsMoved m old x (ends m c cmd.End k))) (sym hu)
      (subst (λ (k : Bool). IfOk r (λ x. KeepsMoved m old x (end_by m c cmd.End t k))) hb h)

  pub ends_none : (c : Client m) (u : Option Tx) (x : MovedOf m) (old : ℕ) (notes : List (NoteOf m)) → u ≡ None → notes ≡ [] → KeepsMoved m old x (moved m c notes) → KeepsMoved m old x (ends m c cmd.End u)
  ends_none c u x old notes hu hn h = subst (λ (k : Option Tx). KeepsMoved m old x (ends m c cmd.End k)) (sym hu) (note-as x old c notes [] hn h)

  pub asks_none : (c : Client m) (o : Oid) (q : m.ask) (u : Option Tx) (x : MovedOf m) (old : ℕ) (notes : List (NoteOf m)) → u ≡ None → notes ≡ [] → KeepsMoved m old x (moved m c notes) →
      KeepsMoved m old x (asks m c (cmd.Ask o q) o q u)
  asks_none c o q u x old notes hu hn h = subst (λ (k : Option Tx). KeepsMoved m old x (asks m c (cmd.Ask o q) o q k)) (sym hu) (note-as x old c notes [] hn h)

  pub asks_some : (c : Client m) (o : Oid) (q : m.ask) (t : Tx) (s : Option ℕ) (u : Option Tx) (r : Result (MovedOf m) NoMemory) (old : ℕ) → u ≡ Some t → s ≡ t.snapshot →
      IfOk r (λ x. KeepsMoved m old x (asks_by m c (cmd.Ask o q) o q t s)) → IfOk r (λ x. KeepsMoved m old x (asks m c (cmd.Ask o q) o q u))
  asks_some c o q t s u r old hu hs h =
      subst (λ (k : Option Tx). IfOk r (λ x. KeepsMoved m old x (asks m c (cmd.Ask o q) o q k))) (sym hu)
      (subst (λ (k : Option ℕ). IfOk r (λ x. KeepsMoved m old x (asks_by m c (cmd.Ask o q) o q t k))) hs h)

  -- an ask that the view answers, or doesn't

  unanswered-by : (c : Client m) (t : Tx) (at : ℕ) (o : Oid) (q : m.ask) (w : View m) (s : Option m.state) → answer_by m w o q s ≡ None → asked_of_state m c t at o q w s ≡ moved m c []
  unanswered-by c t at o q w None h = refl
  unanswered-by c t at o q w (Some s) h = absurd cc

  pub unanswered : (c : Client m) (t : Tx) (at : ℕ) (o : Oid) (q : m.ask) (v : Option (View m)) → answer_in m v o q ≡ None → asks_view m c t at o q v ≡ moved m c []
  unanswered c t at o q None h = refl
  unanswered c t at o q (Some w) h = unanswered-by c t at o q w (state_of m w o) h

  pub unanswered_so : (c : Client m) (t : Tx) (at : ℕ) (o : Oid) (q : m.ask) (v : Option (View m)) (x : MovedOf m) (old : ℕ) (notes : List (NoteOf m)) → answer_in m v o q ≡ None → notes ≡ [] → KeepsMoved m old x (moved m c notes) →
      KeepsMoved m old x (asks_view m c t at o q v)
  unanswered_so c t at o q v x old notes e hn h = subst (λ (y : Moved m). KeepsMoved m old x y) (sym (unanswered c t at o q v e)) (note-as x old c notes [] hn h)

  answered-by : (c : Client m) (t : Tx) (at : ℕ) (o : Oid) (q : m.ask) (w : View m) (a : m.answer) (n : ℕ) (r : Result (MovedOf m) NoMemory) (old : ℕ) →
      ((s : m.state) → a ≡ m.answers s q → n ≡ view_version m w o (m.look q) → IfOk r (λ x. KeepsMoved m old x (asked_of_state m c t at o q w (Some s)))) →
      (s : Option m.state) → answer_by m w o q s ≡ Some (a, n) → IfOk r (λ x. KeepsMoved m old x (asked_of_state m c t at o q w s))
  answered-by c t at o q w a n r old k None h = absurd cc
  answered-by c t at o q w a n r old k (Some s) h = k s (ap (λ (p : Option (m.answer × ℕ)). answer-or a p) (sym h)) (ap (λ (p : Option (m.answer × ℕ)). version-or n p) (sym h))
    where
      answer-or : m.answer → Option (m.answer × ℕ) → m.answer
      answer-or d None = d
      answer-or d (Some p) = p.0

      version-or : ℕ → Option (m.answer × ℕ) → ℕ
      version-or d None = d
      version-or d (Some p) = p.1

  pub answered : (c : Client m) (t : Tx) (at : ℕ) (o : Oid) (q : m.ask) (v : Option (View m)) (a : m.answer) (n : ℕ) (r : Result (MovedOf m) NoMemory) (old : ℕ) → answer_in m v o q ≡ Some (a, n) →
      ((w : View m) (s : m.state) → a ≡ m.answers s q → n ≡ view_version m w o (m.look q) → IfOk r (λ x. KeepsMoved m old x (asked_of_state m c t at o q w (Some s)))) →
      IfOk r (λ x. KeepsMoved m old x (asks_view m c t at o q v))
  answered c t at o q None a n r old h k = absurd cc
  answered c t at o q (Some w) a n r old h k = answered-by c t at o q w a n r old (k w) (state_of m w o) h

  pub asked_so : (s : StateOf m) (v : Option (View m)) (n old k at i : ℕ) (t : Tx) (w : View m) (st : m.state) (o : Oid) (q : m.ask) (a : m.answer) (part : Part) (u : Option Tx) (notes : List (NoteOf m)) (x : MovedOf m) →
      s.tx ≡ Some t → a ≡ m.answers st q → i ≡ view_version m w o (m.look q) → part ≡ m.look q → u ≡ Some (tx_read t (record { oid = o; part = part; version = i }) at) → k ≡ tx_number m s.tx →
      notes ≡ note m k (what.Asked o q at a) ∷ [] →
      KeepsMoved m old x (moved m (idle m (record s { tx = u }) v n) notes) → KeepsMoved m old x (asked_of_state m (idle m s v n) t at o q w (Some st))
  asked_so s v n old k at i t w st o q a part u notes x hs ha hi hp hu hk hn h =
      let number : k ≡ t.number = hk ∙ ap (tx_number m) hs in
      subst (λ (b : m.answer). KeepsMoved m old x (moved m (idle m (record s { tx = Some (tx_read t (record { oid = o; part = m.look q; version = view_version m w o (m.look q) }) at) }) v n) (note m t.number (what.Asked o q at b) ∷ []))) ha
      (subst (λ (j : ℕ). KeepsMoved m old x (moved m (idle m (record s { tx = Some (tx_read t (record { oid = o; part = m.look q; version = j }) at) }) v n) (note m t.number (what.Asked o q at a) ∷ []))) hi
      (subst (λ (y : Part). KeepsMoved m old x (moved m (idle m (record s { tx = Some (tx_read t (record { oid = o; part = y; version = i }) at) }) v n) (note m t.number (what.Asked o q at a) ∷ []))) hp
      (subst (λ (y : Option Tx). KeepsMoved m old x (moved m (idle m (record s { tx = y }) v n) (note m t.number (what.Asked o q at a) ∷ []))) hu
      (subst (λ (j : ℕ). KeepsMoved m old x (moved m (idle m (record s { tx = u }) v n) (note m j (what.Asked o q at a) ∷ []))) number
      (note-as x old (idle m (record s { tx = u }) v n) notes (note m k (what.Asked o q at a) ∷ []) hn h)))))

  -- a write

  pub put_refused : (s : StateOf m) (v : Option (View m)) (n old : ℕ) (t : Tx) (c : CommandOf m) (why : Refusal) (r : Result (MovedOf m) NoMemory) → s.tx ≡ Some t →
      IfOk r (λ x. KeepsMoved m old x (moved m (idle m s v n) (note m (number_on m (idle m s v n) why) (what.Refused why) ∷ []))) →
      IfOk r (λ x. KeepsMoved m old x (refused_or m (idle m (record s { tx = Some t }) v n) c (Some why)))
  put_refused s v n old t c why r hs h =
      subst (λ (u : Option Tx). IfOk r (λ x. KeepsMoved m old x (refused_or m (idle m (record s { tx = u }) v n) c (Some why)))) hs h

  pub put_taken : (s : StateOf m) (v : Option (View m)) (n old k : ℕ) (t : Tx) (o : Oid) (op : m.op) (notes : List (NoteOf m)) (x : MovedOf m) → k ≡ t.number → s.tx ≡ Some (tx_put t (write_of m o op)) →
      notes ≡ note m k (what.Put o op) ∷ [] →
      KeepsMoved m old x (moved m (idle m s v n) notes) → KeepsMoved m old x (refused_or m (idle m (record s { tx = Some t }) v n) (cmd.Put o op) None)
  unfolding accepts
  put_taken s v n old k t o op notes x hk hs hn h =
      subst (λ (u : Option Tx). KeepsMoved m old x (moved m (idle m (record s { tx = u }) v n) (note m t.number (what.Put o op) ∷ []))) hs
      (subst (λ (j : ℕ). KeepsMoved m old x (moved m (idle m s v n) (note m j (what.Put o op) ∷ []))) hk
      (note-as x old (idle m s v n) notes (note m k (what.Put o op) ∷ []) hn h))

  pub puts_none : (s : StateOf m) (v : Option (View m)) (n old : ℕ) (o : Oid) (op : m.op) (u : Option Tx) (notes : List (NoteOf m)) (x : MovedOf m) → s.tx ≡ None → notes ≡ [] →
      KeepsMoved m old x (moved m (idle m (record s { tx = None }) v n) notes) → KeepsMoved m old x (refused_or m (idle m s v n) (cmd.Put o op) (put_fault m s.tx (write_of m o op)))
  unfolding accepts
  puts_none s v n old o op u notes x hs hn h =
      subst (λ (k : Option Tx). KeepsMoved m old x (refused_or m (idle m (record s { tx = k }) v n) (cmd.Put o op) (put_fault m k (write_of m o op)))) (sym hs)
      (note-as x old (idle m (record s { tx = None }) v n) notes [] hn h)

  pub puts_some : (s : StateOf m) (v : Option (View m)) (n old : ℕ) (o : Oid) (op : m.op) (t : Tx) (r : Result (MovedOf m) NoMemory) → s.tx ≡ Some t →
      IfOk r (λ x. KeepsMoved m old x (refused_or m (idle m (record s { tx = Some t }) v n) (cmd.Put o op) (put_fault m (Some t) (write_of m o op)))) →
      IfOk r (λ x. KeepsMoved m old x (refused_or m (idle m s v n) (cmd.Put o op) (put_fault m s.tx (write_of m o op))))
  puts_some s v n old o op t r hs h =
      subst (λ (k : Option Tx). IfOk r (λ x. KeepsMoved m old x (refused_or m (idle m (record s { tx = k }) v n) (cmd.Put o op) (put_fault m k (write_of m o op))))) (sym hs) h

  pub put_as : (c : Client m) (x : CommandOf m) (a b : Option Refusal) (r : Result (MovedOf m) NoMemory) (old : ℕ) → a ≡ b → IfOk r (λ y. KeepsMoved m old y (refused_or m c x a)) → IfOk r (λ y. KeepsMoved m old y (refused_or m c x b))
  put_as c x a b r old e h = subst (λ (k : Option Refusal). IfOk r (λ y. KeepsMoved m old y (refused_or m c x k))) e h

  pub put_taken_if : (s : StateOf m) (v : Option (View m)) (n old k : ℕ) (t : Tx) (o : Oid) (op : m.op) (notes : List (NoteOf m)) (x : MovedOf m) (why : Option Refusal) → why ≡ None → k ≡ t.number →
      s.tx ≡ Some (tx_put t (write_of m o op)) → notes ≡ note m k (what.Put o op) ∷ [] →
      KeepsMoved m old x (moved m (idle m s v n) notes) → KeepsMoved m old x (refused_or m (idle m (record s { tx = Some t }) v n) (cmd.Put o op) why)
  put_taken_if s v n old k t o op notes x why e hk hs hn h =
      subst (λ (y : Option Refusal). KeepsMoved m old x (refused_or m (idle m (record s { tx = Some t }) v n) (cmd.Put o op) y)) (sym e) (put_taken s v n old k t o op notes x hk hs hn h)
