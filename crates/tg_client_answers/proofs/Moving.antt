-- What a command comes to, in the words of the rules.
use Rattle.std.proofs.Common.{◌≡◌, ◌≤◌, ◌<◌, ℕ, ◌+◌, ◌-◌, ◌^◌, true, false, [], Option, Some, None, Result, sym, ap, ◌∙◌, subst, arith}
use Rattle.std.specs.Prelude.{IfOk, min, nat_lt}
use Rattle.std.proofs.lemmas.Bool.Decides.{nat_tests}
use Rattle.tg_base.specs.declared.fault.NoMemory.{NoMemory}
use Rattle.tg_base.specs.declared.ids.Oid.{Oid}
use Rattle.tg_entry.specs.declared.entry.Entry.{Entry}
use Rattle.tg_kind.specs.Meaning.{Meaning}
use Rattle.tg_model.specs.declared.play.PlayEnd.{PlayEnd}
use Rattle.tg_model.specs.declared.play.PlayEnd.TheVariants.{Played, Blocked}
use Rattle.tg_model.specs.declared.refusal.Refusal.TheVariants as cause
use Rattle.tg_protocol.specs.Words.{directory}
use Rattle.tg_protocol.specs.Entries.{entry_size}
use Rattle.tg_protocol.specs.Views.{Entries, View, state_of}
use Rattle.tg_protocol.specs.Checkpoints.{checkpoint, ForgetFault, may_forget}
use Rattle.tg_protocol.specs.Checkpoints as forgetting
use Rattle.tg_protocol.specs.Clients.{Client, Work, Saves}
use Rattle.tg_protocol.specs.Answers.{Moved, refuses, appends, trims, on_trim, floor_of, save_if, saves, on_checkpoint, forget_by, on_forget}
use Rattle.tg_play.specs.Kept.{Kept}
use Rattle.tg_client_state.specs.States.{MovedOf, KeepsViewIf, KeepsMoved}

-- a number that is told by its type's greatest one at most
pub size_is : (b n : ℕ) → b ≡ min n (2 ^ 64 - 1) → (b ≡ 2 ^ 64 - 1 → ⊥) → b ≡ n
size_is b n h k = grind (arith, h, k)

module _ (m : Meaning) where
  pub moves_same : (x : Result (MovedOf m) NoMemory) (old : ℕ) (a b : Moved m) → b ≡ a → IfOk x (λ y. KeepsMoved m old y a) → IfOk x (λ y. KeepsMoved m old y b)
  moves_same x old a b e h = subst (λ (t : Moved m). IfOk x (λ y. KeepsMoved m old y t)) (sym e) h

  pub view_told : (k : Option (Kept m.state)) (o : Option (View m)) (v : View m) → o ≡ Some v → KeepsViewIf m k o → KeepsViewIf m k (Some v)
  view_told k o v e h = subst (λ (u : Option (View m)). KeepsViewIf m k u) e h

  pub trims_at : (c : Client m) (w : Work m) (v : View m) (came : PlayEnd) (t n : ℕ) → came ≡ Played t → n ≡ floor_of m (state_of m v directory) → on_trim m c w v came ≡ trims m c w n
  trims_at c w v came t n e h = ap (on_trim m c w v) e ∙ ap (trims m c w) (sym h)

  pub trim_blocked : (c : Client m) (w : Work m) (v : View m) (came : PlayEnd) (q : ℕ) (x : Oid) → came ≡ Blocked q x → on_trim m c w v came ≡ refuses m c 0 (cause.Undecided q x)
  trim_blocked c w v came q x e = ap (on_trim m c w v) e

  pub saves_at : (c : Client m) (w : Work m) (v : View m) (o : Oid) (came : PlayEnd) (t : ℕ) → came ≡ Played t → on_checkpoint m c w v o came ≡ saves m c w o (checkpoint m v o w.tail c.num (c.checkpoints + 1))
  saves_at c w v o came t e = ap (on_checkpoint m c w v o) e

  pub save_blocked : (c : Client m) (w : Work m) (v : View m) (o : Oid) (came : PlayEnd) (q : ℕ) (x : Oid) → came ≡ Blocked q x → on_checkpoint m c w v o came ≡ refuses m c 0 (cause.Undecided q x)
  save_blocked c w v o came q x e = ap (on_checkpoint m c w v o) e

  pub saves_by : (c : Client m) (w : Work m) (o : Oid) (e d : Entry) (upto : ℕ) → d ≡ e → entry_size e ≤ 4096 → upto ≡ w.tail →
      saves m c w o e ≡ appends m (record c { checkpoints = c.checkpoints + 1 }) w d (Saves o upto) []
  saves_by c w o e d upto hd hs hu =
      let fits : nat_lt 4096 (entry_size e) ≡ false = grind (arith, nat_tests, hs) in
      ap (λ b. save_if m b c w o e) fits ∙ λ i. appends m (record c { checkpoints = c.checkpoints + 1 }) w (sym hd i) (Saves o (sym hu i)) []

  pub too_large_by : (c : Client m) (w : Work m) (o : Oid) (e : Entry) → 4096 < entry_size e → saves m c w o e ≡ refuses m c 0 (cause.TooLarge (entry_size e))
  too_large_by c w o e hs =
      let large : nat_lt 4096 (entry_size e) ≡ true = grind (arith, nat_tests, hs) in
      ap (λ b. save_if m b c w o e) large

  pub forgets_at : (c : Client m) (w : Work m) (es : Entries) (o : Oid) (n : ℕ) (came : PlayEnd) (t : ℕ) → came ≡ Played t → on_forget m c w es o n came ≡ forget_by m c w o n (may_forget m es o n)
  forgets_at c w es o n came t e = ap (on_forget m c w es o n) e

  pub forget_blocked : (c : Client m) (w : Work m) (es : Entries) (o : Oid) (n : ℕ) (came : PlayEnd) (q : ℕ) (x : Oid) → came ≡ Blocked q x → on_forget m c w es o n came ≡ refuses m c 0 (cause.Undecided q x)
  forget_blocked c w es o n came q x e = ap (on_forget m c w es o n) e

  pub no_checkpoint_by : (c : Client m) (w : Work m) (o q : Oid) (n : ℕ) (f : Option (ForgetFault m)) → q ≡ o → f ≡ Some forgetting.NoCheckpoint → forget_by m c w o n f ≡ refuses m c 0 (cause.NoCheckpoint q)
  no_checkpoint_by c w o q n f hq hf = ap (forget_by m c w o n) hf ∙ ap (λ (p : Oid). refuses m c 0 (cause.NoCheckpoint p)) (sym hq)

  pub open_by : (c : Client m) (w : Work m) (o : Oid) (n p : ℕ) (f : Option (ForgetFault m)) → f ≡ Some (forgetting.OpenDecision p) → forget_by m c w o n f ≡ refuses m c 0 (cause.OpenDecision p)
  open_by c w o n p f hf = ap (forget_by m c w o n) hf

  pub marks_by : (c : Client m) (w : Work m) (o : Oid) (n : ℕ) (f : Option (ForgetFault m)) → f ≡ None → forget_by m c w o n f ≡ forget_by m c w o n None
  marks_by c w o n f hf = ap (forget_by m c w o n) hf
