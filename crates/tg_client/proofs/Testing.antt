-- The tests of a command, and those that are made as a write is taken.
use Rattle.std.proofs.Common.{◌≡◌, ℕ, List, [], ◌∷◌, ◌++◌, Option, Some, None, refl, sym, ap, ◌∙◌}
use Rattle.tg_proj.specs.declared.fault.ProjFault.{ProjFault}
use Rattle.tg_kind.specs.Meaning.{Meaning}
use Rattle.tg_model.specs.declared.command.Command.TheVariants as cmd
use Rattle.tg_model.specs.declared.refusal.Refusal.{Refusal}
use Rattle.tg_model.specs.declared.trace.What.TheVariants as what
use Rattle.tg_model.specs.Kinds.{CommandOf}
use Rattle.tg_protocol.specs.Layouts.{change_fault}
use Rattle.tg_protocol.specs.Words.{first_some}
use Rattle.tg_protocol.specs.Clients.{Client, Work, by_layout, busy, tests, refusal, number_on, tx_open, no_tx, wrong_kind, not_registered, put_fault, write_of}
use Rattle.tg_protocol.specs.Answers.{moved, note}
use Rattle.tg_protocol.specs.ClientSteps.{refused_or}
use Rattle.tg_client_tasks.specs.Tests.{early_tests, early, taken, IsFine}

-- the first of some tests and of further ones

first-front : (xs ys : List (Option Refusal)) (why : Refusal) → first_some xs ≡ Some why → first_some (xs ++ ys) ≡ Some why
first-front [] ys why h = let e : None ≡ Some why = h in absurd cc
first-front (None ∷ xs) ys why h = first-front xs ys why h
first-front (Some x ∷ xs) ys why h = h

first-last : (xs : List (Option Refusal)) (y : Option Refusal) → first_some xs ≡ None → first_some (xs ++ y ∷ []) ≡ y
first-last [] None h = refl
first-last [] (Some y) h = refl
first-last (None ∷ xs) y h = first-last xs y h
first-last (Some x ∷ xs) y h = let e : Some x ≡ None = h in absurd cc

second-none : (a b : Option Refusal) → first_some (a ∷ b ∷ []) ≡ None → b ≡ None
second-none None None h = refl
second-none None (Some y) h = let e : Some y ≡ None = h in absurd cc
second-none (Some x) b h = let e : Some x ≡ None = h in absurd cc

module _ (m : Meaning) where
  by-none : (f : Option ProjFault) → by_layout m f ≡ None → f ≡ None
  by-none None h = refl
  by-none (Some f) h = absurd cc

  pub fine : (c : Client m) (x : CommandOf m) → early m c x ≡ None → IsFine m c.stand x
  unfolding tests
  fine c (cmd.Host o) h = tt
  fine c cmd.Begin h = tt
  fine c (cmd.Put o op) h = tt
  fine c (cmd.Ask o q) h = tt
  fine c cmd.End h = tt
  fine c cmd.Drop h = tt
  fine c (cmd.Fate p) h = tt
  fine c (cmd.Decide p) h = tt
  fine c (cmd.Checkpoint o) h = tt
  fine c (cmd.Forget o n) h = tt
  fine c cmd.Trim h = tt
  fine c (cmd.Reconf x) h = by-none (change_fault c.stand x) (second-none (tx_open m c) (by_layout m (change_fault c.stand x)) h)
  fine c (cmd.Copy u r s) h = tt
  fine c (cmd.AskAt p o q) h = tt
  fine c (cmd.Rescue p) h = tt

  -- a command that is refused at once

  refuses-so : (c : Client m) (x : CommandOf m) (why : Refusal) → first_some (busy m c.work ∷ early_tests m c x) ≡ Some why → refusal m c x ≡ Some why
  unfolding refusal tests
  refuses-so c (cmd.Put o op) why h = first-front (busy m c.work ∷ early_tests m c (cmd.Put o op)) (put_fault m c.tx (write_of m o op) ∷ []) why h
  refuses-so c (cmd.Host o) why h = h
  refuses-so c cmd.Begin why h = h
  refuses-so c (cmd.Ask o q) why h = h
  refuses-so c cmd.End why h = h
  refuses-so c cmd.Drop why h = h
  refuses-so c (cmd.Fate p) why h = h
  refuses-so c (cmd.Decide p) why h = h
  refuses-so c (cmd.Checkpoint o) why h = h
  refuses-so c (cmd.Forget o n) why h = h
  refuses-so c cmd.Trim why h = h
  refuses-so c (cmd.Reconf x) why h = h
  refuses-so c (cmd.Copy u r s) why h = h
  refuses-so c (cmd.AskAt p o q) why h = h
  refuses-so c (cmd.Rescue p) why h = h

  pub refused_told : (c : Client m) (x : CommandOf m) (why : Refusal) → first_some (busy m c.work ∷ early_tests m c x) ≡ Some why →
      moved m c (note m (number_on m c why) (what.Refused why) ∷ []) ≡ refused_or m c x (refusal m c x)
  refused_told c x why h = sym (ap (refused_or m c x) (refuses-so c x why h))

  -- a command that passes

  passes-so : (c : Client m) (x : CommandOf m) → first_some (busy m c.work ∷ early_tests m c x) ≡ None → taken m c x ≡ refused_or m c x (refusal m c x)
  unfolding refusal tests
  passes-so c (cmd.Put o op) h = sym (ap (refused_or m c (cmd.Put o op)) (first-last (busy m c.work ∷ early_tests m c (cmd.Put o op)) (put_fault m c.tx (write_of m o op)) h))
  passes-so c (cmd.Host o) h = sym (ap (refused_or m c (cmd.Host o)) h)
  passes-so c cmd.Begin h = sym (ap (refused_or m c cmd.Begin) h)
  passes-so c (cmd.Ask o q) h = sym (ap (refused_or m c (cmd.Ask o q)) h)
  passes-so c cmd.End h = sym (ap (refused_or m c cmd.End) h)
  passes-so c cmd.Drop h = sym (ap (refused_or m c cmd.Drop) h)
  passes-so c (cmd.Fate p) h = sym (ap (refused_or m c (cmd.Fate p)) h)
  passes-so c (cmd.Decide p) h = sym (ap (refused_or m c (cmd.Decide p)) h)
  passes-so c (cmd.Checkpoint o) h = sym (ap (refused_or m c (cmd.Checkpoint o)) h)
  passes-so c (cmd.Forget o n) h = sym (ap (refused_or m c (cmd.Forget o n)) h)
  passes-so c cmd.Trim h = sym (ap (refused_or m c cmd.Trim) h)
  passes-so c (cmd.Reconf x) h = sym (ap (refused_or m c (cmd.Reconf x)) h)
  passes-so c (cmd.Copy u r s) h = sym (ap (refused_or m c (cmd.Copy u r s)) h)
  passes-so c (cmd.AskAt p o q) h = sym (ap (refused_or m c (cmd.AskAt p o q)) h)
  passes-so c (cmd.Rescue p) h = sym (ap (refused_or m c (cmd.Rescue p)) h)

  pub taken_told : (c : Client m) (x : CommandOf m) → first_some (busy m c.work ∷ early_tests m c x) ≡ None → taken m c x ≡ refused_or m c x (refusal m c x)
  taken_told c x h = passes-so c x h

  -- no command waits where none is refused as busy
  pub not_busy : (c : Client m) (x : CommandOf m) → first_some (busy m c.work ∷ early_tests m c x) ≡ None → c.work ≡ None
  not_busy c x h = idle-by c.work (early_tests m c x) h
    where
      idle-by : (w : Option (Work m)) (ts : List (Option Refusal)) → first_some (busy m w ∷ ts) ≡ None → w ≡ None
      idle-by None ts h = refl
      idle-by (Some w) ts h = absurd cc
