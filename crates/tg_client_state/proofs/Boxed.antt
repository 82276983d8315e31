-- What a box holds is what was read of it.
use Rattle.std.proofs.Common.{◌≡◌, ℕ, Option, sym, subst}
use Rattle.tg_kind.specs.Meaning.{Meaning}
use Rattle.tg_protocol.specs.Views.{View}
use Rattle.tg_protocol.specs.Clients.{Work}
use Rattle.tg_client_state.specs.Tasks.{JobOf, KeepsJob}
use Rattle.tg_client_state.specs.States.{StateOf, Rest, KeepsViewIf}
use Rattle.tg_client_state.specs.Moves.{Holds}

module _ (m : Meaning) where
  pub job_read : (i j : JobOf m) (w : Work m) → i ≡ j → KeepsJob m j w → KeepsJob m i w
  job_read i j w e h = subst (λ (k : JobOf m). KeepsJob m k w) (sym e) h

  pub view_read : (s u : StateOf m) (v : Option (View m)) → s ≡ u → KeepsViewIf m u.view v → KeepsViewIf m s.view v
  view_read s u v e h = subst (λ (t : StateOf m). KeepsViewIf m t.view v) (sym e) h

  -- what is held goes on with an equal job
  pub holds_job : (s : StateOf m) (i j : JobOf m) (r : Rest m) (w : Work m) (old : ℕ) → i ≡ j → Holds m s j r w old → Holds m s i r w old
  holds_job s i j r w old e h = subst (λ (k : JobOf m). Holds m s k r w old) (sym e) h
