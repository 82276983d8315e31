-- A write of the open transaction, whose op is kept for what is said of it.
use Rattle.std.proofs.Common.{◌≡◌, ℕ, Option, Some, None, Result, sym, ap, subst, ◌∙◌}
use Rattle.std.specs.Prelude.{IfOk}
use Rattle.tg_base.specs.declared.fault.NoMemory.{NoMemory}
use Rattle.tg_base.specs.declared.ids.Oid.{Oid}
use Rattle.tg_kind.specs.Meaning.{Meaning}
use Rattle.tg_model.specs.declared.command.Command.TheVariants as cmd
use Rattle.tg_model.specs.declared.refusal.Refusal.{Refusal}
use Rattle.tg_protocol.specs.Transactions.{Tx}
use Rattle.tg_protocol.specs.Views.{View}
use Rattle.tg_protocol.specs.Clients.{put_fault, write_of}
use Rattle.tg_protocol.specs.ClientSteps.{refused_or}
use Rattle.tg_client_state.specs.States.{StateOf, MovedOf, KeepsMoved}
use Rattle.tg_client_tasks.specs.Idle.{idle}
use Rattle.tg_client_tasks.specs.Tests.{put_by}

module _ (m : Meaning) where
  pub put_kept : (s : StateOf m) (v : Option (View m)) (n old : ℕ) (t u : Tx) (o : Oid) (op kept : m.op) (why : Option Refusal) (r : Result (MovedOf m) NoMemory) → kept ≡ op → why ≡ put_fault m (Some t) (write_of m o op) →
      u ≡ put_by why t (write_of m o op) → (Some u ≡ Some (put_by why t (write_of m o kept)) → IfOk r (λ x. KeepsMoved m old x (refused_or m (idle m (record s { tx = Some t }) v n) (cmd.Put o kept) why))) →
      IfOk r (λ x. KeepsMoved m old x (refused_or m (idle m (record s { tx = Some t }) v n) (cmd.Put o op) (put_fault m (Some t) (write_of m o op))))
  put_kept s v n old t u o op kept why r hk hw hu h =
      let same : Some u ≡ Some (put_by why t (write_of m o kept)) = ap (λ (x : Tx). Some x) (hu ∙ ap (λ (x : m.op). put_by why t (write_of m o x)) (sym hk)) in
      subst (λ (f : Option Refusal). IfOk r (λ x. KeepsMoved m old x (refused_or m (idle m (record s { tx = Some t }) v n) (cmd.Put o op) f))) hw
      (subst (λ (y : m.op). IfOk r (λ x. KeepsMoved m old x (refused_or m (idle m (record s { tx = Some t }) v n) (cmd.Put o y) why))) hk (h same))
