-- What is told, along what is known of it.
use Rattle.std.proofs.Common.{◌≡◌, ℕ, Bool, true, false, List, Option, Some, None, Result, refl, sym, ap, subst, ◌∙◌}
use Rattle.std.specs.Prelude.{IfOk}
use Rattle.tg_base.specs.declared.fault.NoMemory.{NoMemory}
use Rattle.tg_base.specs.declared.ids.Oid.{Oid}
use Rattle.tg_entry.specs.declared.entry.Entry.{Entry}
use Rattle.tg_kind.specs.Meaning.{Meaning}
use Rattle.tg_model.specs.Kinds.{WhatOf}
use Rattle.tg_model.specs.declared.play.PlayEnd.{PlayEnd}
use Rattle.tg_model.specs.declared.play.PlayEnd.TheVariants.{Played, Blocked}
use Rattle.tg_model.specs.declared.refusal.Refusal.{Refusal}
use Rattle.tg_model.specs.declared.refusal.Refusal.TheVariants as cause
use Rattle.tg_model.specs.declared.trace.What.TheVariants as what
use Rattle.tg_play.specs.Kept.{Kept}
use Rattle.tg_play.specs.Relations.{KeepsView}
use Rattle.tg_entry.specs.Needs.{reads_of}
use Rattle.tg_protocol.specs.Transactions.{Tx, tx_read}
use Rattle.tg_protocol.specs.Versions.{Changed}
use Rattle.tg_protocol.specs.Past.{commit_at}
use Rattle.tg_protocol.specs.Words.{where_true}
use Rattle.tg_protocol.specs.Views.{Entries, View, Verdict, state_of, Aborts, fate_of, verdict, unknown_in, changed_in}
use Rattle.tg_protocol.specs.Clients.{Client, Work, tx_number}
use Rattle.tg_protocol.specs.Answers.{Moved, answers, refuses, ask_answer, ask_in, on_ask, on_end, answer_closed, trim_above, unsure, end_decided, end_aborted, end_no, end_by, end_record, lacks_decision, blocks, forgotten_or, fate_blocked, fate_known, fate_record, fate_verdict, on_fate, decides_if, decide_blocked, decide_played, decide_record, decide_verdict, on_decide}
use Rattle.tg_client_state.specs.Tasks.{JobOf, KeepsJob}
use Rattle.tg_client_state.specs.States.{StateOf, MovedOf, Rest, client_of, KeepsViewIf, KeepsMoved}
use Rattle.tg_client_answers.specs.declared.asked.Answer.{Answer}
use Rattle.tg_client_answers.specs.Fates.{Notes, Answered, asked_told, changed_said, aborts_said, blocked_by}

module _ (m : Meaning) where
  -- a step of the rules that is the same
  pub moves_same : (x : Result (MovedOf m) NoMemory) (old : ℕ) (a b : Moved m) → a ≡ b → IfOk x (λ y. KeepsMoved m old y a) → IfOk x (λ y. KeepsMoved m old y b)
  moves_same x old a b e h = subst (λ (t : Moved m). IfOk x (λ y. KeepsMoved m old y t)) e h

  -- the view that is kept
  pub kept_view : (k : Option (Kept m.state)) (l : Kept m.state) (u : Option (View m)) (v : View m) → k ≡ Some l → u ≡ Some v → KeepsViewIf m k u → KeepsView m l v
  kept_view k l u v hk hu h = subst (λ (a : Option (Kept m.state)). KeepsViewIf m a (Some v)) hk (subst (λ (b : Option (View m)). KeepsViewIf m k b) hu h)

  -- an answer that closes the transaction
  pub closed_told : (s t : StateOf m) (r : Rest m) (old n : ℕ) (what : WhatOf m) (x : Result (MovedOf m) NoMemory) → t ≡ record s { tx = None } → n ≡ tx_number m s.tx → KeepsViewIf m s.view r.view →
      (KeepsViewIf m t.view r.view → IfOk x (λ y. KeepsMoved m old y (answers m (client_of m t r) n what))) →
      IfOk x (λ y. KeepsMoved m old y (answer_closed m (client_of m s r) (tx_number m s.tx) what))
  closed_told s t r old n what x ht hn h f =
      subst (λ (k : ℕ). IfOk x (λ y. KeepsMoved m old y (answers m (client_of m (record s { tx = None }) r) k what))) hn
      (subst (λ (u : StateOf m). KeepsViewIf m u.view r.view → IfOk x (λ y. KeepsMoved m old y (answers m (client_of m u r) n what))) ht f h)

  -- what is told of a record that isn't committed

  abbrev aborts_told : Client m → Work m → Entries → ℕ → Entry → Option (WhatOf m) → Moved m
  aborts_told c w es p e None = unsure m c p p
  aborts_told c w es p e (Some x) = end_decided m (lacks_decision m es p e) c w e p false x

  changed_is : (c : Client m) (w : Work m) (es : Entries) (p : ℕ) (e : Entry) (x : Option Changed) → aborts_told c w es p e (changed_said m p x) ≡ end_aborted m c w es e p x
  changed_is c w es p e None = refl
  changed_is c w es p e (Some x) = refl

  abort_is : (c : Client m) (w : Work m) (es : Entries) (v : View m) (p : ℕ) (e : Entry) (u : Option Oid) → aborts_told c w es p e (aborts_said m p u (changed_in m v (reads_of e) p)) ≡ end_no m c w es v e p u
  abort_is c w es v p e None = changed_is c w es p e (changed_in m v (reads_of e) p)
  abort_is c w es v p e (Some o) = refl

  pub aborts_by : (c : Client m) (w : Work m) (es : Entries) (v : View m) (p : ℕ) (e : Entry) (d : Verdict) (x : Option (WhatOf m)) →
      Aborts ≡ d → x ≡ aborts_said m p (unknown_in m v (reads_of e) p) (changed_in m v (reads_of e) p) → aborts_told c w es p e x ≡ end_by m c w es v e p d
  aborts_by c w es v p e d x hd hx =
      ap (λ (y : Option (WhatOf m)). aborts_told c w es p e y) hx
      ∙ abort_is c w es v p e (unknown_in m v (reads_of e) p)
      ∙ ap (λ (y : Verdict). end_by m c w es v e p y) hd

  pub ends_by : (c : Client m) (w : Work m) (es : Entries) (v : View m) (p : ℕ) (e : Entry) (d f : Verdict) (x : Moved m) → x ≡ end_by m c w es v e p d → d ≡ f → x ≡ end_by m c w es v e p f
  ends_by c w es v p e d f x hx hd = hx ∙ ap (λ (y : Verdict). end_by m c w es v e p y) hd

  -- the commands that wait are the same in what is kept

  pub same_trims : (j : JobOf m) (w : Work m) → KeepsJob m j w → j.trims ≡ w.trims
  same_trims j w h = sym (ap (λ (u : Work m). u.trims) h)

  pub same_at : (j : JobOf m) (w : Work m) → KeepsJob m j w → j.at ≡ w.at
  same_at j w h = sym (ap (λ (u : Work m). u.at) h)

  -- what is blocked

  abbrev pub or_refused : Client m → Option Refusal → Moved m → Moved m
  or_refused c None x = x
  or_refused c (Some why) x = refuses m c 0 why

  fate_blocked_is : (c : Client m) (w : Work m) (es : Entries) (v : View m) (p q : ℕ) (x : Oid) (b : Bool) →
      fate_blocked m c w es v p q x b ≡ or_refused c (where_true b (cause.Undecided q x)) (fate_known m c w es v p (fate_of m v p))
  fate_blocked_is c w es v p q x true = refl
  fate_blocked_is c w es v p q x false = refl

  fate_is : (c : Client m) (w : Work m) (es : Entries) (v : View m) (p : ℕ) (came : PlayEnd) →
      on_fate m c w es v p came ≡ or_refused c (blocked_by m es p came) (fate_known m c w es v p (fate_of m v p))
  fate_is c w es v p (Played t) = refl
  fate_is c w es v p (Blocked q x) = fate_blocked_is c w es v p q x (blocks m es p q)

  pub fate_by : (c : Client m) (w : Work m) (es : Entries) (v : View m) (p : ℕ) (came : PlayEnd) (b : Option Refusal) → b ≡ blocked_by m es p came →
      or_refused c b (fate_known m c w es v p (fate_of m v p)) ≡ on_fate m c w es v p came
  fate_by c w es v p came b h = ap (λ (o : Option Refusal). or_refused c o (fate_known m c w es v p (fate_of m v p))) h ∙ sym (fate_is c w es v p came)

  decide_blocked_is : (c : Client m) (w : Work m) (es : Entries) (v : View m) (p q : ℕ) (x : Oid) (b : Bool) →
      decide_blocked m c w es v p q x b ≡ or_refused c (where_true b (cause.Undecided q x)) (decide_record m c w es v p (commit_at es p))
  decide_blocked_is c w es v p q x true = refl
  decide_blocked_is c w es v p q x false = refl

  decide_is : (c : Client m) (w : Work m) (es : Entries) (v : View m) (p : ℕ) (came : PlayEnd) →
      decide_played m c w es v p came ≡ or_refused c (blocked_by m es p came) (decide_record m c w es v p (commit_at es p))
  decide_is c w es v p (Played t) = refl
  decide_is c w es v p (Blocked q x) = decide_blocked_is c w es v p q x (blocks m es p q)

  pub decide_by : (c : Client m) (w : Work m) (es : Entries) (v : View m) (p : ℕ) (came : PlayEnd) (b : Option Refusal) → b ≡ blocked_by m es p came →
      or_refused c b (decide_record m c w es v p (commit_at es p)) ≡ decide_played m c w es v p came
  decide_by c w es v p came b h = ap (λ (o : Option Refusal). or_refused c o (decide_record m c w es v p (commit_at es p))) h ∙ sym (decide_is c w es v p came)

  -- a trim above the position

  pub decide_trimmed : (c : Client m) (w : Work m) (es : Entries) (v : View m) (p : ℕ) (came : PlayEnd) (j : JobOf m) (b : Option ℕ) → KeepsJob m j w → b ≡ trim_above m j.trims p →
      on_decide m c w es v p came b ≡ on_decide m c w es v p came (trim_above m w.trims p)
  decide_trimmed c w es v p came j b hj h = ap (λ (o : Option ℕ). on_decide m c w es v p came o) (h ∙ ap (λ (ts : List (Oid × ℕ)). trim_above m ts p) (same_trims j w hj))

  pub fate_trimmed : (c : Client m) (w : Work m) (p : ℕ) (x : WhatOf m) (ts : List (Oid × ℕ)) (b : Option ℕ) → ts ≡ w.trims → b ≡ trim_above m ts p →
      forgotten_or m c w p x b ≡ forgotten_or m c w p x (trim_above m w.trims p)
  fate_trimmed c w p x ts b ht h = ap (λ (o : Option ℕ). forgotten_or m c w p x o) (h ∙ ap (λ (us : List (Oid × ℕ)). trim_above m us p) ht)

  -- the record at a position, and what becomes of it

  pub fate_found : (c : Client m) (w : Work m) (es : Entries) (v : View m) (p : ℕ) (b : Option Entry) (x : Moved m) → x ≡ fate_record m c w es v p b → b ≡ commit_at es p → x ≡ fate_record m c w es v p (commit_at es p)
  fate_found c w es v p b x hx h = hx ∙ ap (λ (o : Option Entry). fate_record m c w es v p o) h

  pub fate_judged : (c : Client m) (w : Work m) (es : Entries) (v : View m) (p : ℕ) (e : Entry) (d : Verdict) (x : Moved m) → x ≡ fate_verdict m c w p d → d ≡ verdict m v es p e → x ≡ fate_record m c w es v p (Some e)
  fate_judged c w es v p e d x hx h = hx ∙ ap (λ (o : Verdict). fate_verdict m c w p o) h

  pub fate_kept : (c : Client m) (w : Work m) (es : Entries) (v : View m) (p : ℕ) (b : Option Bool) (x : Moved m) → x ≡ fate_known m c w es v p b → b ≡ fate_of m v p → x ≡ fate_known m c w es v p (fate_of m v p)
  fate_kept c w es v p b x hx h = hx ∙ ap (λ (o : Option Bool). fate_known m c w es v p o) h

  pub end_found : (c : Client m) (w : Work m) (es : Entries) (v : View m) (p : ℕ) (b : Option Entry) → b ≡ commit_at es p → end_record m c w es v p b ≡ end_record m c w es v p (commit_at es p)
  end_found c w es v p b h = ap (λ (o : Option Entry). end_record m c w es v p o) h

  pub decide_found : (c : Client m) (w : Work m) (es : Entries) (v : View m) (p : ℕ) (b : Option Entry) → b ≡ commit_at es p → decide_record m c w es v p b ≡ decide_record m c w es v p (commit_at es p)
  decide_found c w es v p b h = ap (λ (o : Option Entry). decide_record m c w es v p o) h

  pub decide_judged : (c : Client m) (w : Work m) (es : Entries) (p : ℕ) (e : Entry) (d f : Verdict) (x : Moved m) → x ≡ decide_verdict m c w es p e d → d ≡ f → x ≡ decide_verdict m c w es p e f
  decide_judged c w es p e d f x hx h = hx ∙ ap (λ (o : Verdict). decide_verdict m c w es p e o) h

  -- whether a decision record is lacking

  pub end_lacks : (c : Client m) (w : Work m) (es : Entries) (p : ℕ) (e : Entry) (y : Bool) (x : WhatOf m) (b : Bool) → b ≡ lacks_decision m es p e → end_decided m b c w e p y x ≡ end_decided m (lacks_decision m es p e) c w e p y x
  end_lacks c w es p e y x b h = ap (λ (t : Bool). end_decided m t c w e p y x) h

  pub decide_lacks : (c : Client m) (w : Work m) (es : Entries) (p : ℕ) (e : Entry) (y : Bool) (x : WhatOf m) (b : Bool) → b ≡ lacks_decision m es p e → decides_if m b c w e p y 0 x ≡ decides_if m (lacks_decision m es p e) c w e p y 0 x
  decide_lacks c w es p e y x b h = ap (λ (t : Bool). decides_if m t c w e p y 0 x) h

  -- the end of a transaction, by where the play came to

  pub ended_at : (c : Client m) (w : Work m) (es : Entries) (v : View m) (came : PlayEnd) (j : JobOf m) (t : ℕ) → KeepsJob m j w → came ≡ Played t → end_record m c w es v j.at (commit_at es j.at) ≡ on_end m c w es v came
  ended_at c w es v came j t hj h = ap (λ (p : ℕ). end_record m c w es v p (commit_at es p)) (same_at j w hj) ∙ ap (λ (x : PlayEnd). on_end m c w es v x) (sym h)

  pub unsure_at : (c : Client m) (w : Work m) (es : Entries) (v : View m) (came : PlayEnd) (j : JobOf m) (q : ℕ) (x : Oid) → KeepsJob m j w → came ≡ Blocked q x → unsure m c j.at q ≡ on_end m c w es v came
  unsure_at c w es v came j q x hj h = ap (λ (p : ℕ). unsure m c p q) (same_at j w hj) ∙ ap (λ (y : PlayEnd). on_end m c w es v y) (sym h)

  -- the answer to an ask, by the open transaction and where the play came to

  pub refused_as : (c : Client m) (n k : ℕ) (why : Refusal) → n ≡ k → refuses m c n why ≡ refuses m c k why
  refused_as c n k why h = ap (λ (i : ℕ). refuses m c i why) h

  pub not_hosted : (c : Client m) (w : Work m) (t : Tx) (o : Oid) (q : m.ask) (v : View m) (n : ℕ) → n ≡ t.number → state_of m v o ≡ None → refuses m c n (cause.NotHosted o) ≡ ask_answer m c w t o q v (state_of m v o)
  not_hosted c w t o q v n hn h = refused_as c n t.number (cause.NotHosted o) hn ∙ ap (λ (s : Option m.state). ask_answer m c w t o q v s) (sym h)

  answer_is : (c : Client m) (w : Work m) (t : Tx) (o : Oid) (q : m.ask) (v : View m) (a : Answer m.answer) (at : ℕ) (h : Answered m v o q a) → at ≡ w.tail → asked_told m c at o q a (Some t) ≡ ask_answer m c w t o q v (Some h.state)
  answer_is c w t o q v a at h e = λ i. answers m (record c { tx = Some (tx_read t (record { oid = o; part = h.part i; version = h.version i }) (e i)) }) t.number (what.Asked o q (e i) (h.ans i))

  pub hosted_told : (c : Client m) (w : Work m) (s : Option Tx) (t : Tx) (o : Oid) (q : m.ask) (v : View m) (a : Answer m.answer) (at : ℕ) → s ≡ Some t → Answered m v o q a → at ≡ w.tail →
      asked_told m c at o q a s ≡ ask_answer m c w t o q v (state_of m v o)
  hosted_told c w s t o q v a at hs h e =
      ap (λ (u : Option Tx). asked_told m c at o q a u) hs
      ∙ answer_is c w t o q v a at h e
      ∙ ap (λ (x : Option m.state). ask_answer m c w t o q v x) (sym h.is)

  pub ask_as : (c : Client m) (w : Work m) (s u : Option Tx) (o : Oid) (q : m.ask) (v : View m) → s ≡ u → ask_in m c w o q v u ≡ ask_in m c w o q v s
  ask_as c w s u o q v h = ap (λ (t : Option Tx). ask_in m c w o q v t) (sym h)

  pub came_as : (c : Client m) (w : Work m) (o : Oid) (q : m.ask) (v : View m) (x y : PlayEnd) → x ≡ y → on_ask m c w o q v y ≡ on_ask m c w o q v x
  came_as c w o q v x y h = ap (λ (z : PlayEnd). on_ask m c w o q v z) (sym h)

  -- the answer in a transaction that notes the read
  asked_by : (c : Client m) (old n at : ℕ) (o : Oid) (q : m.ask) (a : Answer m.answer) (s t : Option Tx) (x : Result (MovedOf m) NoMemory) →
      n ≡ tx_number m s → Notes s (record { oid = o; part = a.part; version = a.version }) at t →
      IfOk x (λ y. KeepsMoved m old y (answers m (record c { tx = t }) n (what.Asked o q at a.ans))) → IfOk x (λ y. KeepsMoved m old y (asked_told m c at o q a s))
  asked_by c old n at o q a None t x hn ht h = absurd ht
  asked_by c old n at o q a (Some s) t x hn ht h =
      subst (λ (k : ℕ). IfOk x (λ y. KeepsMoved m old y (answers m (record c { tx = Some (tx_read s (record { oid = o; part = a.part; version = a.version }) at) }) k (what.Asked o q at a.ans)))) hn
      (subst (λ (u : Option Tx). IfOk x (λ y. KeepsMoved m old y (answers m (record c { tx = u }) n (what.Asked o q at a.ans)))) ht h)

  pub asked_as : (s : StateOf m) (r : Rest m) (old n at : ℕ) (o : Oid) (q : m.ask) (a : Answer m.answer) (u : Option Tx) (x : Result (MovedOf m) NoMemory) →
      n ≡ tx_number m s.tx → Notes s.tx (record { oid = o; part = a.part; version = a.version }) at u →
      IfOk x (λ y. KeepsMoved m old y (answers m (client_of m (record s { tx = u }) r) n (what.Asked o q at a.ans))) → IfOk x (λ y. KeepsMoved m old y (asked_told m (client_of m s r) at o q a s.tx))
  asked_as s r old n at o q a u x hn ht h = asked_by (client_of m s r) old n at o q a s.tx u x hn ht h
