-- What is told of the past and of a record, in the words of the rules.
use Rattle.std.proofs.Common.{◌≡◌, ℕ, true, false, List, [], ◌∷◌, Option, Some, None, Result, sym, ap, ◌∙◌, subst, arith}
use Rattle.std.specs.Prelude.{IfOk, ◌<◌, ◌≤◌, nat_lt}
use Rattle.std.proofs.lemmas.Bool.Decides.{nat_tests}
use Rattle.tg_base.specs.declared.fault.NoMemory.{NoMemory}
use Rattle.tg_base.specs.declared.ids.Oid.{Oid}
use Rattle.tg_kind.specs.Meaning.{Meaning}
use Rattle.tg_model.specs.Kinds.{NoteOf}
use Rattle.tg_model.specs.declared.play.PlayEnd.{PlayEnd}
use Rattle.tg_model.specs.declared.play.PlayEnd.TheVariants.{Played, Blocked}
use Rattle.tg_model.specs.declared.refusal.Refusal.TheVariants as cause
use Rattle.tg_model.specs.declared.trace.What.TheVariants as marks
use Rattle.tg_protocol.specs.Clients as rules
use Rattle.tg_protocol.specs.Clients.{Client, Work}
use Rattle.tg_protocol.specs.Past.{PastTurn, PastView, PastGone, past_at, rescue_turn}
use Rattle.tg_protocol.specs.Views.{Entries, Play, state_of}
use Rattle.tg_base.specs.Orders.{with_oid}
use Rattle.tg_protocol.specs.Answers.{Moved, note, replies, refuses, syncs, trim_above, past_answer, past_played, past_turn, ahead_or, on_ask_at, absent, rescue_by}
use Rattle.tg_play.specs.Kept.{Kept}
use Rattle.tg_play.specs.Relations.{PlayedOn}
use Rattle.tg_past.specs.declared.past.PastTurn as declared
use Rattle.tg_past.specs.declared.past.PastTurn.TheVariants as past
use Rattle.tg_past.specs.Answers.{KeepsTurn}
use Rattle.tg_rescue.specs.declared.rescue.RescueTurn.{RescueTurn}
use Rattle.tg_rescue.specs.declared.rescue.RescueTurn.TheVariants as rescue
use Rattle.tg_rescue.specs.Answers.{told_turn}
use Rattle.tg_client_cells.specs.Known.{member_entries, all_entries}
use Rattle.tg_client_cells.proofs.Ruled.{as_ruled}
use Rattle.tg_client_state.specs.Tasks.{JobOf, KeepsJob, work_of}
use Rattle.tg_client_state.specs.States.{StateOf, MovedOf, Rest, client_of, KeepsMoved}

module _ (m : Meaning) where
  -- a step of the rules that is the same
  pub moves_same : (x : Result (MovedOf m) NoMemory) (old : ℕ) (a b : Moved m) → b ≡ a → IfOk x (λ y. KeepsMoved m old y a) → IfOk x (λ y. KeepsMoved m old y b)
  moves_same x old a b e h = subst (λ (t : Moved m). IfOk x (λ y. KeepsMoved m old y t)) (sym e) h

  -- The command that waits is the same in what is kept.

  pub same_trims : (j : JobOf m) (w : Work m) → KeepsJob m j w → j.trims ≡ w.trims
  same_trims j w h = sym (ap (λ (u : Work m). u.trims) h)

  pub same_oids : (j : JobOf m) (w : Work m) → KeepsJob m j w → j.oids ≡ w.oids
  same_oids j w h = sym (ap (λ (u : Work m). u.oids) h)

  pub same_tail : (j : JobOf m) (w : Work m) → KeepsJob m j w → w.tail ≡ j.tail
  same_tail j w h = ap (λ (u : Work m). u.tail) h

  -- Entries.

  pub members_told : (s : StateOf m) (r : Rest m) (j : JobOf m) (w : Work m) → KeepsJob m j w →
      member_entries s.known j.found j.oids j.tail ≡ rules.member_entries m (client_of m s r) w w.oids
  members_told s r j w hj =
      subst (λ (u : Work m). member_entries s.known j.found j.oids j.tail ≡ rules.member_entries m (client_of m s r) u u.oids) (sym hj)
      ((as_ruled m).members (client_of m s r) (work_of m j w.hand) j.oids s.known.settled)

  pub all_told : (s : StateOf m) (r : Rest m) (j : JobOf m) (w : Work m) → KeepsJob m j w →
      all_entries s.known j.found j.oids j.tail ≡ rules.all_entries m (client_of m s r) w w.oids
  all_told s r j w hj =
      subst (λ (u : Work m). all_entries s.known j.found j.oids j.tail ≡ rules.all_entries m (client_of m s r) u u.oids) (sym hj)
      ((as_ruled m).all (client_of m s r) (work_of m j w.hand) j.oids s.known.settled)

  -- Asks at a past position.

  pub past_told : (j : JobOf m) (w : Work m) (es fs : Entries) (ts : List (Oid × ℕ)) (os bs objects : List Oid) (o : Oid) (p : ℕ) → KeepsJob m j w → es ≡ fs → ts ≡ j.trims → os ≡ j.oids → bs ≡ objects →
      past_at m es ts os bs o p ≡ past_at m fs w.trims w.oids objects o p
  past_told j w es fs ts os bs objects o p hj he ht ho hb =
      let trims : ts ≡ w.trims = ht ∙ same_trims j w hj in
      let oids : os ≡ w.oids = ho ∙ same_oids j w hj in
      λ i. past_at m (he i) (trims i) (oids i) (hb i) o p

  pub answer_told : (c : Client m) (p : ℕ) (o : Oid) (q : m.ask) (f : Option m.state) (s : m.state) (a : m.answer) (notes : List (NoteOf m)) → f ≡ Some s → a ≡ m.answers s q → notes ≡ note m 0 (marks.Past o q p a) ∷ [] →
      past_answer m c p o q f ≡ replies m c notes
  answer_told c p o q f s a notes hf ha hn =
      ap (past_answer m c p o q) hf ∙ ap (λ (b : m.answer). replies m c (note m 0 (marks.Past o q p b) ∷ [])) (sym ha) ∙ ap (replies m c) (sym hn)

  pub not_hosted : (c : Client m) (p : ℕ) (o : Oid) (q : m.ask) (f : Option m.state) → f ≡ None → past_answer m c p o q f ≡ refuses m c 0 (cause.NotHosted o)
  not_hosted c p o q f h = ap (past_answer m c p o q) h

  pub played_at : (c : Client m) (p : ℕ) (o : Oid) (q : m.ask) (v : Play m) (came : PlayEnd) (t : ℕ) (s : Option m.state) → came ≡ v.came → came ≡ Played t → s ≡ state_of m v.view o →
      past_played m c p o q v v.came ≡ past_answer m c p o q s
  played_at c p o q v came t s hc e hs = ap (past_played m c p o q v) (sym hc ∙ e) ∙ ap (past_answer m c p o q) (sym hs)

  pub blocked_at : (c : Client m) (p : ℕ) (o : Oid) (q : m.ask) (v : Play m) (came : PlayEnd) (at : ℕ) (x : Oid) → came ≡ v.came → came ≡ Blocked at x →
      past_played m c p o q v v.came ≡ refuses m c 0 (cause.Undecided at x)
  blocked_at c p o q v came at x hc e = ap (past_played m c p o q v) (sym hc ∙ e)

  view_turned : (k : Kept m.state) (came : PlayEnd) (t : PastTurn m) (c : Client m) (p : ℕ) (o : Oid) (q : m.ask) (old : ℕ) (x : Result (MovedOf m) NoMemory) → KeepsTurn m (past.Played k came) t →
      ((v : Play m) → PlayedOn m k came v → IfOk x (λ y. KeepsMoved m old y (past_played m c p o q v v.came))) →
      IfOk x (λ y. KeepsMoved m old y (past_turn m c p o q t))
  view_turned k came (PastView v) c p o q old x h f = f v h
  view_turned k came (PastGone b) c p o q old x h f = absurd h

  pub view_told : (u : declared.PastTurn m.state) (k : Kept m.state) (came : PlayEnd) (t : PastTurn m) (c : Client m) (p : ℕ) (o : Oid) (q : m.ask) (old : ℕ) (x : Result (MovedOf m) NoMemory) → u ≡ past.Played k came → KeepsTurn m u t →
      ((v : Play m) → PlayedOn m k came v → IfOk x (λ y. KeepsMoved m old y (past_played m c p o q v v.came))) →
      IfOk x (λ y. KeepsMoved m old y (past_turn m c p o q t))
  view_told u k came t c p o q old x e h f = view_turned k came t c p o q old x (subst (λ (a : declared.PastTurn m.state). KeepsTurn m a t) e h) f

  gone_turned : (b : ℕ) (t : PastTurn m) (c : Client m) (p : ℕ) (o : Oid) (q : m.ask) → KeepsTurn m (past.Gone b) t → past_turn m c p o q t ≡ refuses m c 0 (cause.Forgotten p b)
  gone_turned b (PastGone below) c p o q h = ap (λ (n : ℕ). refuses m c 0 (cause.Forgotten p n)) (sym h)
  gone_turned b (PastView v) c p o q h = absurd h

  pub gone_told : (u : declared.PastTurn m.state) (b : ℕ) (t : PastTurn m) (c : Client m) (p : ℕ) (o : Oid) (q : m.ask) → u ≡ past.Gone b → KeepsTurn m u t → past_turn m c p o q t ≡ refuses m c 0 (cause.Forgotten p b)
  gone_told u b t c p o q e h = gone_turned b t c p o q (subst (λ (a : declared.PastTurn m.state). KeepsTurn m a t) e h)

  pub is_ahead : (c : Client m) (j : JobOf m) (w : Work m) (p : ℕ) (o : Oid) (q : m.ask) → KeepsJob m j w → j.tail < p → on_ask_at m c w p o q ≡ refuses m c 0 (cause.Ahead j.tail)
  is_ahead c j w p o q hj h =
      let late : nat_lt j.tail p ≡ true = grind (arith, nat_tests, h) in
      ap (ahead_or m c w p o q) (ap (λ (n : ℕ). nat_lt n p) (same_tail j w hj) ∙ late) ∙ ap (λ (n : ℕ). refuses m c 0 (cause.Ahead n)) (same_tail j w hj)

  pub is_past : (c : Client m) (j : JobOf m) (w : Work m) (p : ℕ) (o : Oid) (q : m.ask) → KeepsJob m j w → p ≤ j.tail →
      on_ask_at m c w p o q ≡ past_turn m c p o q (past_at m (rules.member_entries m c w w.oids) w.trims w.oids c.objects o p)
  is_past c j w p o q hj h =
      let early : nat_lt j.tail p ≡ false = grind (arith, nat_tests, h) in
      ap (ahead_or m c w p o q) (ap (λ (n : ℕ). nat_lt n p) (same_tail j w hj) ∙ early)

  -- Rescues.

  pub rescue_told : (j : JobOf m) (w : Work m) (es fs : Entries) (ts : List (Oid × ℕ)) (os bs objects : List Oid) (p : ℕ) → KeepsJob m j w → es ≡ fs → ts ≡ j.trims → os ≡ j.oids → bs ≡ objects →
      rescue_turn m es ts os bs p ≡ rescue_turn m fs w.trims w.oids objects p
  rescue_told j w es fs ts os bs objects p hj he ht ho hb =
      let trims : ts ≡ w.trims = ht ∙ same_trims j w hj in
      let oids : os ≡ w.oids = ho ∙ same_oids j w hj in
      λ i. rescue_turn m (he i) (trims i) (oids i) (hb i) p

  abbrev after : Client m → Work m → Entries → ℕ → RescueTurn → Moved m
  after c w es p t = rescue_by m c w es p (told_turn m t)

  pub widens : (c : Client m) (j : JobOf m) (w : Work m) (es : Entries) (p : ℕ) (t : RescueTurn) (o : Oid) → KeepsJob m j w → t ≡ rescue.Wider o → after c w es p t ≡ syncs m c w (with_oid o j.oids)
  widens c j w es p t o hj e = ap (after c w es p) e ∙ ap (λ (os : List Oid). syncs m c w (with_oid o os)) (sym (same_oids j w hj))

  pub comes_to : (c : Client m) (w : Work m) (es : Entries) (p : ℕ) (t u : RescueTurn) → t ≡ u → after c w es p t ≡ after c w es p u
  comes_to c w es p t u e = ap (after c w es p) e

  pub is_absent : (c : Client m) (j : JobOf m) (w : Work m) (es : Entries) (p : ℕ) (t : RescueTurn) (ts : List (Oid × ℕ)) (b : Option ℕ) → KeepsJob m j w → t ≡ rescue.Absent → ts ≡ j.trims → b ≡ trim_above m ts p →
      after c w es p t ≡ absent m c p b
  is_absent c j w es p t ts b hj e ht hb =
      let trims : w.trims ≡ ts = sym (ht ∙ same_trims j w hj) in
      ap (after c w es p) e ∙ ap (λ (us : List (Oid × ℕ)). absent m c p (trim_above m us p)) trims ∙ ap (absent m c p) (sym hb)
