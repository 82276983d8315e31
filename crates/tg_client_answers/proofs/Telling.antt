-- What follows a walk, along what is known of it.
use Rattle.std.proofs.Common.{◌≡◌, ℕ, ◌≤◌, List, [], Some, Result, refl, sym, ap, subst, ◌∙◌}
use Rattle.std.specs.Prelude.{IfOk}
use Rattle.tg_base.specs.declared.fault.NoMemory.{NoMemory}
use Rattle.tg_kind.specs.Meaning.{Meaning}
use Rattle.tg_base.specs.declared.ids.Oid.{Oid}
use Rattle.tg_model.specs.Kinds.{CommandOf, NoteOf}
use Rattle.tg_model.specs.declared.command.Command.TheVariants as cmd
use Rattle.tg_model.specs.declared.play.PlayEnd.{PlayEnd}
use Rattle.tg_protocol.specs.Views.{Entries, Play}
use Rattle.tg_protocol.specs.Clients.{Client, Work, all_entries}
use Rattle.tg_protocol.specs.Answers.{Moved, replies, answer_by, play_target, played_on, plays_own, walked_for, walked}
use Rattle.tg_client_state.specs.Tasks.{JobOf, KeepsJob}
use Rattle.tg_client_state.specs.States.{StateOf, MovedOf, Rest, client_of, KeepsMoved}
use Rattle.tg_client_answers.specs.Fates.{Moves}
use Rattle.tg_client_answers.specs.Playing.{Suffice, own_play, HasPlayed}

module _ (m : Meaning) where
  -- a step of the rules that is the same
  pub moves_same : (x : Result (MovedOf m) NoMemory) (old : ℕ) (a b : Moved m) → a ≡ b → IfOk x (λ y. KeepsMoved m old y a) → IfOk x (λ y. KeepsMoved m old y b)
  moves_same x old a b e h = subst (λ (t : Moved m). IfOk x (λ y. KeepsMoved m old y t)) e h

  pub same_command : (j : JobOf m) (w : Work m) (x : CommandOf m) → KeepsJob m j w → j.command ≡ x → x ≡ w.command
  same_command j w x hj h = sym (ap (λ (u : Work m). u.command) hj ∙ h)

  pub same_tail : (j : JobOf m) (w : Work m) → KeepsJob m j w → j.tail ≡ w.tail
  same_tail j w hj = sym (ap (λ (u : Work m). u.tail) hj)

  -- the answer of the command in hand
  pub answered_as : (c : Client m) (w : Work m) (es : Entries) (p : Play m) (j : JobOf m) (x : CommandOf m) → KeepsJob m j w → j.command ≡ x → answer_by m c w es p x ≡ answer_by m c w es p w.command
  answered_as c w es p j x hj h = ap (λ (y : CommandOf m). answer_by m c w es p y) (same_command j w x hj h)

  -- what follows for it
  pub walked_as : (c : Client m) (w : Work m) (j : JobOf m) (x : CommandOf m) → KeepsJob m j w → j.command ≡ x → walked_for m c w x ≡ walked m c w
  unfolding walked
  walked_as c w j x hj h = ap (λ (y : CommandOf m). walked_for m c w y) (same_command j w x hj h)

  -- a view has played, and the command is answered
  pub plays_told : (s t : StateOf m) (r : Rest m) (w : Work m) (j : JobOf m) (es : Entries) (target : ℕ) (came : PlayEnd) (old : ℕ) (x : Result (MovedOf m) NoMemory) →
      old ≤ s.rids.next → KeepsJob m j w → Suffice m (client_of m s r) w es → HasPlayed m s r w es target t came → target ≡ play_target m w j.command →
      Moves m t j x (λ c u v. answer_by m c u es (record { view = v; came = came }) u.command) →
      IfOk x (λ y. KeepsMoved m old y (plays_own m (client_of m s r) w (all_entries m (client_of m s r) w s.hosted)))
  plays_told s t r w j es target came old x hn hj hs h ht f =
      let p : Play m = own_play m (client_of m s r) w es target in
      let q : Rest m = record { view = Some p.view; played = r.played; work = r.work } in
      let e : target ≡ play_target m w w.command = ht ∙ ap (λ (y : CommandOf m). play_target m w y) (sym (ap (λ (u : Work m). u.command) hj)) in
      let n : old ≤ t.rids.next = subst (λ (u : StateOf m). old ≤ u.rids.next) (sym h.state) hn in
      let b : answer_by m (client_of m t q) w es (record { view = p.view; came = came }) w.command ≡ played_on m (client_of m s r) w es p
      = λ i. answer_by m (client_of m (h.state i) q) w es (record { view = p.view; came = h.came i }) w.command in
      moves_same x old _ _
      (b ∙ ap (λ (k : ℕ). played_on m (client_of m s r) w es (own_play m (client_of m s r) w es k)) e ∙ hs)
      (f q w p.view old refl n h.view hj)

  -- what is kept of the command in hand
  pub trims_of : (j : JobOf m) (w : Work m) → KeepsJob m j w → w.trims ≡ j.trims
  trims_of j w hj = ap (λ (u : Work m). u.trims) hj

  pub at_of : (j : JobOf m) (w : Work m) → KeepsJob m j w → w.at ≡ j.at
  at_of j w hj = ap (λ (u : Work m). u.at) hj

  pub tail_of : (j : JobOf m) (w : Work m) → KeepsJob m j w → w.tail ≡ j.tail
  tail_of j w hj = ap (λ (u : Work m). u.tail) hj

  -- commands that play nothing are answered by nothing
  other_answers : (c : Client m) (w : Work m) (es : Entries) (p : Play m) (x : CommandOf m) →
      ((o : Oid) (q : m.ask) → x ≡ cmd.Ask o q → ⊥) → (x ≡ cmd.End → ⊥) → ((n : ℕ) → x ≡ cmd.Fate n → ⊥) → ((n : ℕ) → x ≡ cmd.Decide n → ⊥) →
      ((o : Oid) → x ≡ cmd.Checkpoint o → ⊥) → ((o : Oid) (n : ℕ) → x ≡ cmd.Forget o n → ⊥) → (x ≡ cmd.Trim → ⊥) → replies m c [] ≡ answer_by m c w es p x
  other_answers c w es p (cmd.Ask o q) ask end fate decide ckpt forget trim = absurd (ask o q refl)
  other_answers c w es p cmd.End ask end fate decide ckpt forget trim = absurd (end refl)
  other_answers c w es p (cmd.Fate n) ask end fate decide ckpt forget trim = absurd (fate n refl)
  other_answers c w es p (cmd.Decide n) ask end fate decide ckpt forget trim = absurd (decide n refl)
  other_answers c w es p (cmd.Checkpoint o) ask end fate decide ckpt forget trim = absurd (ckpt o refl)
  other_answers c w es p (cmd.Forget o n) ask end fate decide ckpt forget trim = absurd (forget o n refl)
  other_answers c w es p cmd.Trim ask end fate decide ckpt forget trim = absurd (trim refl)
  other_answers c w es p x ask end fate decide ckpt forget trim = refl

  pub nothing_told : (c : Client m) (w : Work m) (es : Entries) (p : Play m) (j : JobOf m) (notes : List (NoteOf m)) → KeepsJob m j w → notes ≡ [] →
      ((o : Oid) (q : m.ask) → j.command ≡ cmd.Ask o q → ⊥) → (j.command ≡ cmd.End → ⊥) → ((n : ℕ) → j.command ≡ cmd.Fate n → ⊥) → ((n : ℕ) → j.command ≡ cmd.Decide n → ⊥) →
      ((o : Oid) → j.command ≡ cmd.Checkpoint o → ⊥) → ((o : Oid) (n : ℕ) → j.command ≡ cmd.Forget o n → ⊥) → (j.command ≡ cmd.Trim → ⊥) → replies m c notes ≡ answer_by m c w es p w.command
  nothing_told c w es p j notes hj h ask end fate decide ckpt forget trim =
      ap (λ (l : List (NoteOf m)). replies m c l) h
      ∙ other_answers c w es p j.command ask end fate decide ckpt forget trim
      ∙ answered_as c w es p j j.command hj refl

  -- all commands but two play the client's own view
  other_walks : (c : Client m) (w : Work m) (x : CommandOf m) → ((n : ℕ) (o : Oid) (q : m.ask) → x ≡ cmd.AskAt n o q → ⊥) → ((n : ℕ) → x ≡ cmd.Rescue n → ⊥) →
      plays_own m c w (all_entries m c w c.hosted) ≡ walked_for m c w x
  other_walks c w (cmd.AskAt n o q) past rescue = absurd (past n o q refl)
  other_walks c w (cmd.Rescue n) past rescue = absurd (rescue n refl)
  other_walks c w x past rescue = refl

  pub own_walked : (c : Client m) (w : Work m) (j : JobOf m) → KeepsJob m j w → ((n : ℕ) (o : Oid) (q : m.ask) → j.command ≡ cmd.AskAt n o q → ⊥) → ((n : ℕ) → j.command ≡ cmd.Rescue n → ⊥) →
      plays_own m c w (all_entries m c w c.hosted) ≡ walked m c w
  own_walked c w j hj past rescue = other_walks c w j.command past rescue ∙ walked_as c w j j.command hj refl
