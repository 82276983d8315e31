-- Whole steps of a client.
use Rattle.std.proofs.Common.{◌≡◌, ℕ, ◌+◌, List, [], ◌∷◌, ◌++◌, Option, Some, None, Result, Ok, Err, refl, sym, ap, subst, ◌∙◌}
use Rattle.std.specs.Prelude.{IfOk}
use Rattle.tg_base.specs.declared.fault.NoMemory.{NoMemory}
use Rattle.tg_base.specs.declared.ids.NodeId.{NodeId}
use Rattle.tg_base.specs.declared.msg.Msg.{Msg}
use Rattle.tg_base.specs.declared.packet.Out.{Out}
use Rattle.tg_kind.specs.Meaning.{Meaning}
use Rattle.tg_model.specs.declared.refusal.Refusal.{Refusal}
use Rattle.tg_model.specs.declared.refusal.Refusal.TheVariants as cause
use Rattle.tg_model.specs.declared.trace.What.TheVariants as what
use Rattle.tg_model.specs.Kinds.{CommandOf, NoteOf}
use Rattle.tg_model.specs.Words.{word_of}
use Rattle.tg_protocol.specs.Requests.{drawn_from}
use Rattle.tg_protocol.specs.Replies.{reply}
use Rattle.tg_protocol.specs.Views.{View}
use Rattle.tg_protocol.specs.Words.{first_some}
use Rattle.tg_protocol.specs.Clients.{Client, Work, busy, refusal, tests}
use Rattle.tg_protocol.specs.Answers.{Moved, moved, note}
use Rattle.tg_protocol.specs.ClientSteps.{ClientTurn, client_asks, called, given, feed, refused_or, client_command, client_deliver, client_tick}
use Rattle.tg_client_state.specs.Tasks.{WorkOf, KeepsMaybe}
use Rattle.tg_client_state.specs.States.{StateOf, MovedOf, KeepsClient, KeepsMoved}
use Rattle.tg_client_tasks.specs.Idle.{idle}
use Rattle.tg_client_tasks.specs.Steps.{KeepsStep}

module _ (m : Meaning) where
  counted-kept : (s : StateOf m) (w : Option (WorkOf m)) (c : Client m) → KeepsClient m s w c → KeepsClient m (record s { calls = s.calls + 1 }) w (called m c)
  counted-kept s w c h = record { is = ap (called m) h.is; view = h.view; work = h.work; drawn = h.drawn; fit = h.fit }

  pub stepped : (x : MovedOf m) (calls : ℕ) (c : Client m) (y : Moved m) (old : ℕ) → calls ≡ x.state.calls + 1 → c.next ≡ old → KeepsMoved m old x y →
      KeepsStep m (record { state = record x.state { calls = calls }; work = x.work; sends = x.sends; notes = x.notes }) (given m c y)
  stepped x calls c y old hc hn h = record {
    now = subst (λ (n : ℕ). KeepsClient m (record x.state { calls = n }) x.work (called m y.now)) (sym hc) (counted-kept x.state x.work y.now h.now);
    sends = h.sends ∙ ap (λ (n : ℕ). y.besides ++ drawn_from n (client_asks m y.now)) (sym hn);
    notes = h.notes;
  }

  -- the same, told otherwise

  pub step_as : (r : Result (MovedOf m) NoMemory) (x y : ClientTurn m) → x ≡ y → IfOk r (λ t. KeepsStep m t x) → IfOk r (λ t. KeepsStep m t y)
  step_as r x y e h = subst (λ (z : ClientTurn m). IfOk r (λ t. KeepsStep m t z)) e h

  pub moved_as : (r : Result (MovedOf m) NoMemory) (old : ℕ) (x y : Moved m) → x ≡ y → IfOk r (λ t. KeepsMoved m old t x) → IfOk r (λ t. KeepsMoved m old t y)
  moved_as r old x y e h = subst (λ (z : Moved m). IfOk r (λ t. KeepsMoved m old t z)) e h

  pub says_as : (x : MovedOf m) (old : ℕ) (c : Client m) (notes told : List (NoteOf m)) → notes ≡ told → KeepsMoved m old x (moved m c notes) → KeepsMoved m old x (moved m c told)
  says_as x old c notes told e h = subst (λ (l : List (NoteOf m)). KeepsMoved m old x (moved m c l)) e h

  -- where no command waits

  idle-tick : (s : StateOf m) (v : Option (View m)) (n : ℕ) → given m (idle m s v n) (moved m (idle m s v n) []) ≡ client_tick m (idle m s v n)
  unfolding client_tick client_asks
  idle-tick s v n = refl

  idle-delivery : (s : StateOf m) (v : Option (View m)) (n : ℕ) (from : NodeId) (rid : ℕ) (x : Msg) → given m (idle m s v n) (moved m (idle m s v n) []) ≡ client_deliver m (idle m s v n) from rid x
  unfolding client_deliver
  idle-delivery s v n from rid x = refl

  idle-command : (s : StateOf m) (v : Option (View m)) (n : ℕ) (x : CommandOf m) →
      given m (idle m s v n) (refused_or m (idle m s v n) x (refusal m (idle m s v n) x)) ≡ client_command m (idle m s v n) x
  unfolding client_command
  idle-command s v n x = refl

  pub tick_told : (s : StateOf m) (c : Client m) → c ≡ idle m s c.view c.played → given m (idle m s c.view c.played) (moved m (idle m s c.view c.played) []) ≡ client_tick m c
  tick_told s c e = idle-tick s c.view c.played ∙ ap (client_tick m) (sym e)

  pub delivery_told : (s : StateOf m) (c : Client m) (from : NodeId) (rid : ℕ) (x : Msg) → c ≡ idle m s c.view c.played →
      given m (idle m s c.view c.played) (moved m (idle m s c.view c.played) []) ≡ client_deliver m c from rid x
  delivery_told s c from rid x e = idle-delivery s c.view c.played from rid x ∙ ap (λ (d : Client m). client_deliver m d from rid x) (sym e)

  pub command_told : (s : StateOf m) (c : Client m) (x : CommandOf m) → c ≡ idle m s c.view c.played →
      given m (idle m s c.view c.played) (refused_or m (idle m s c.view c.played) x (refusal m (idle m s c.view c.played) x)) ≡ client_command m c x
  command_told s c x e = idle-command s c.view c.played x ∙ ap (λ (d : Client m). client_command m d x) (sym e)

  -- where one waits

  pub fed_told : (c : Client m) (from : NodeId) (rid : ℕ) (x : Msg) → given m c (feed m c c.work from rid (reply x)) ≡ client_deliver m c from rid x
  unfolding client_deliver
  fed_told c from rid x = refl

  busy-with : (w : WorkOf m) (u : Option (Work m)) (ts : List (Option Refusal)) → KeepsMaybe m (Some w) u → first_some (busy m u ∷ ts) ≡ Some (cause.Busy (word_of w.job.command))
  busy-with w None ts h = absurd h
  busy-with w (Some u) ts h = ap (λ (x : Work m). Some (cause.Busy (word_of x.command))) h.is

  busy-refusal : (w : WorkOf m) (c : Client m) (x : CommandOf m) → KeepsMaybe m (Some w) c.work → refusal m c x ≡ Some (cause.Busy (word_of w.job.command))
  unfolding refusal
  busy-refusal w c x h = busy-with w c.work (tests m c x) h

  busy-command : (w : WorkOf m) (c : Client m) (x : CommandOf m) → refusal m c x ≡ Some (cause.Busy (word_of w.job.command)) →
      given m c (moved m c (note m 0 (what.Refused (cause.Busy (word_of w.job.command))) ∷ [])) ≡ client_command m c x
  unfolding client_command
  busy-command w c x e = ap (λ (y : Option Refusal). given m c (refused_or m c x y)) (sym e)

  pub busy_told : (w : WorkOf m) (c : Client m) (x : CommandOf m) → KeepsMaybe m (Some w) c.work →
      given m c (moved m c (note m 0 (what.Refused (cause.Busy (word_of w.job.command))) ∷ [])) ≡ client_command m c x
  busy_told w c x h = busy-command w c x (busy-refusal w c x h)
