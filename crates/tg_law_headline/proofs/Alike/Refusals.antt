-- What a command's own tests refuse it for, before any work; so not because it was overtaken.
use Rattle.std.proofs.Common.{ℕ, List, [], ◌∷◌, Bool, true, false, Option, Some, None}
use Rattle.tg_base.specs.Layouts.{Layout}
use Rattle.tg_base.specs.declared.ids.Oid.{Oid}
use Rattle.tg_base.specs.declared.marks.Part.{Part}
use Rattle.tg_proj.specs.declared.fault.ProjFault.{ProjFault}
use Rattle.tg_proj.specs.declared.fault.ProjFault.TheVariants as layout
use Rattle.tg_entry.specs.declared.entry.WriteOp.{WriteOp}
use Rattle.tg_kind.specs.Meaning.{Meaning}
use Rattle.tg_model.specs.declared.command.Command.TheVariants as cmd
use Rattle.tg_model.specs.declared.refusal.Refusal.{Refusal}
use Rattle.tg_model.specs.declared.refusal.Refusal.TheVariants as cause
use Rattle.tg_model.specs.Kinds.{CommandOf}
use Rattle.tg_protocol.specs.Words.{first_some, where_true}
use Rattle.tg_protocol.specs.Transactions.{Tx, TxFault, read_fault, write_fault}
use Rattle.tg_protocol.specs.Transactions as tx
use Rattle.tg_protocol.specs.Clients.{Work, Client, by_layout, by_tx, busy, put_fault, ask_fault, copy_fault, tests, refusal, write_of}

abbrev pub AtOnce : Refusal → Type 0
AtOnce (cause.Undecided p o) = ⊥
AtOnce (cause.LogFull l) = ⊥
AtOnce (cause.Forgotten p b) = ⊥
AtOnce (cause.Overtaken e) = ⊥
AtOnce (cause.OpenDecision p) = ⊥
AtOnce (cause.NoCheckpoint o) = ⊥
AtOnce (cause.NotWhole u p) = ⊥
AtOnce (cause.Ahead t) = ⊥
AtOnce why = Unit {0}

abbrev pub IsAtOnce : Option Refusal → Type 0
IsAtOnce None = Unit {0}
IsAtOnce (Some why) = AtOnce why

-- and by a layout alone
abbrev pub ByLayout : Refusal → Type 0
ByLayout (cause.NotHosted o) = ⊥
ByLayout why = AtOnce why

abbrev pub IsByLayout : Option Refusal → Type 0
IsByLayout None = Unit {0}
IsByLayout (Some why) = ByLayout why

by_layout_at_once : (o : Option Refusal) → IsByLayout o → IsAtOnce o
by_layout_at_once None k = tt
by_layout_at_once (Some (cause.NotHosted o)) k = tt
by_layout_at_once (Some why) k = k

abbrev pub NotOvertaken : Refusal → Type 0
NotOvertaken (cause.Overtaken e) = ⊥
NotOvertaken why = Unit {0}

abbrev pub Fine : Option Refusal → Type 0
Fine None = Unit {0}
Fine (Some why) = NotOvertaken why

fine_at_once : (o : Option Refusal) → IsAtOnce o → Fine o
fine_at_once None k = tt
fine_at_once (Some (cause.Overtaken e)) k = absurd k
fine_at_once (Some why) k = tt

module _ (m : Meaning) where
  abbrev AllFine : List (Option Refusal) → Type 0
  AllFine [] = Unit {0}
  AllFine (x ∷ xs) = IsAtOnce x × AllFine xs

  fine_first : (xs : List (Option Refusal)) → AllFine xs → IsAtOnce (first_some xs)
  fine_first [] h = tt
  fine_first (None ∷ xs) h = fine_first xs h.1
  fine_first (Some why ∷ xs) h = h.0

  fine_where : (b : Bool) (why : Refusal) → AtOnce why → IsAtOnce (where_true b why)
  fine_where true why h = h
  fine_where false why h = tt

  layout_fine : (f : Option ProjFault) → IsByLayout (by_layout m f)
  layout_fine None = tt
  layout_fine (Some (layout.TooMany x)) = tt
  layout_fine (Some (layout.NotClosed r)) = tt
  layout_fine (Some (layout.NoStripe r s)) = tt
  layout_fine (Some (layout.InChain u)) = tt
  layout_fine (Some (layout.Returned u)) = tt
  layout_fine (Some (layout.NoReplica r s)) = tt
  layout_fine (Some (layout.NotAcked u)) = tt

  fine_layout : (f : Option ProjFault) → IsAtOnce (by_layout m f)
  fine_layout f = by_layout_at_once (by_layout m f) (layout_fine f)

  fine_tx : (f : Option TxFault) → IsAtOnce (by_tx m f)
  fine_tx None = tt
  fine_tx (Some (tx.TooMany x)) = tt
  fine_tx (Some (tx.TooLarge n)) = tt

  fine_put : (t : Option Tx) (w : WriteOp) → IsAtOnce (put_fault m t w)
  fine_put None w = tt
  fine_put (Some t) w = fine_tx (write_fault t w)

  fine_ask : (t : Option Tx) (o : Oid) (k : Part) → IsAtOnce (ask_fault m t o k)
  fine_ask None o k = tt
  fine_ask (Some t) o k = fine_tx (read_fault t o k)

  fine_tests : (c : Client m) (x : CommandOf m) → AllFine (tests m c x)
  unfolding tests copy_fault
  fine_tests c (cmd.Host o) = (fine_where _ _ tt, (fine_where _ _ tt, (fine_where _ _ tt, tt)))
  fine_tests c cmd.Begin = (fine_where _ _ tt, tt)
  fine_tests c (cmd.Put o op) = (fine_where _ _ tt, (fine_where _ _ tt, (fine_where _ _ tt, (fine_put c.tx (write_of m o op), tt))))
  fine_tests c (cmd.Ask o q) = (fine_where _ _ tt, (fine_where _ _ tt, (fine_where _ _ tt, (fine_ask c.tx o (m.look q), tt))))
  fine_tests c cmd.End = (fine_where _ _ tt, tt)
  fine_tests c cmd.Drop = (fine_where _ _ tt, tt)
  fine_tests c (cmd.Fate p) = (fine_where _ _ tt, tt)
  fine_tests c (cmd.Decide p) = (fine_where _ _ tt, tt)
  fine_tests c (cmd.Checkpoint o) = (fine_where _ _ tt, (fine_where _ _ tt, tt))
  fine_tests c (cmd.Forget o n) = (fine_where _ _ tt, (fine_where _ _ tt, tt))
  fine_tests c cmd.Trim = (fine_where _ _ tt, tt)
  fine_tests c (cmd.Reconf x) = (fine_where _ _ tt, (fine_layout _, tt))
  fine_tests c (cmd.Copy u r s) = (fine_where _ _ tt, (fine_layout _, tt))
  fine_tests c (cmd.AskAt p o q) = (fine_where _ _ tt, (fine_where _ _ tt, (fine_where _ _ tt, tt)))
  fine_tests c (cmd.Rescue p) = (fine_where _ _ tt, tt)

  fine_busy : (w : Option (Work m)) → IsAtOnce (busy m w)
  fine_busy None = tt
  fine_busy (Some w) = tt

  pub refused_at_once : (c : Client m) (x : CommandOf m) → IsAtOnce (refusal m c x)
  unfolding refusal
  refused_at_once c x = fine_first (busy m c.work ∷ tests m c x) (fine_busy c.work, fine_tests c x)

  pub copy_by_layout : (p : Layout) (u r s : ℕ) → IsByLayout (copy_fault m p u r s)
  unfolding copy_fault
  copy_by_layout p u r s = layout_fine _

  pub fine_refusal : (c : Client m) (x : CommandOf m) → Fine (refusal m c x)
  fine_refusal c x = fine_at_once (refusal m c x) (refused_at_once c x)

  pub fine_copy : (p : Layout) (u r s : ℕ) → Fine (copy_fault m p u r s)
  fine_copy p u r s = fine_at_once (copy_fault m p u r s) (by_layout_at_once (copy_fault m p u r s) (copy_by_layout p u r s))
